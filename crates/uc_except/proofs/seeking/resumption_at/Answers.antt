use Rattle.std.proofs.Common.{◌∷◌, None, Some, sym, ap, ◌∙◌}
use Rattle.uc_machine.specs.Executions.{at_depth}
use Rattle.uc_except.specs.RowSearch.{resumption_in}
use Rattle.uc_except.proofs.seeking.resumption_at.Goals as goal

pub returns-in-None-rest : goal.returns-in-None-rest
returns-in-None-rest c =
    let w = c.args.work.now in
    let rows = c.args.code.now.rows in
    let e = c.args.event in
    c.first_handler.ensures ∙ ap (resumption_in rows None e) (sym c.in-Some.ensures.1) ∙ ap (λ r. resumption_in rows r e (at_depth (w.run ∷ w.callers) c.args.level)) (sym c.in-None-rest.is)

pub returns-in-Some-rest : goal.returns-in-Some-rest
returns-in-Some-rest c =
    let w = c.args.work.now in
    let rows = c.args.code.now.rows in
    let e = c.args.event in
    c.first_within.ensures ∙ ap (resumption_in rows (Some c.in-Some-rest.rest) e) (sym c.in-Some.ensures.1) ∙ ap (λ r. resumption_in rows r e (at_depth (w.run ∷ w.callers) c.args.level)) (sym c.in-Some-rest.is)
