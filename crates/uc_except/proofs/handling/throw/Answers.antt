use Rattle.std.proofs.Common.{rules, ◌∷◌, None, ap, sym, ◌∙◌}
use Rattle.uc_machine.specs.Raising as raising
use Rattle.uc_except.specs.RowSearch.{resumed}
use Rattle.uc_except.specs.Handling.{thrown}
use Rattle.uc_except.proofs.Thrown.{reason_by, thrown_as, throws_now, resumes_none}
use Rattle.uc_except.proofs.handling.throw.Goals as goal

pub returns-clause-thrown : goal.returns-clause-thrown
returns-clause-thrown c =
    λ source code s h e.
    let b = thrown_as c.args.work.now c.throw_now.new.work c.args.event c.args.x c.args.y _ _ c.throw_now.ensures (search rules) (search rules) in
    throws_now source code c.args.work.now c.throw_now.new.work s h (b ∙ ap (λ (v : raising.Event). thrown (reason_by v) c.args.work.now) (sym e))

pub returns-clause-resumed : goal.returns-clause-resumed
returns-clause-resumed c =
    λ source code s h e f.
    let acts = c.args.work.now.run ∷ c.args.work.now.callers in
    let b = thrown_as c.args.work.now c.throw_now.new.work c.args.event c.args.x c.args.y _ _ c.throw_now.ensures (search rules) (search rules) in
    resumes_none source code c.args.work.now c.throw_now.new.work s h (ap (λ (v : raising.Event). resumed code.rows None v.number acts) e ∙ f) (b ∙ ap (λ (v : raising.Event). thrown (reason_by v) c.args.work.now) (sym e))
