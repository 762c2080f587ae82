use Rattle.std.proofs.Common.{rules, ◌≡◌, ◌∷◌, None, ap, sym, ◌∙◌}
use Rattle.uc_code.specs.Layout.{laid_of}
use Rattle.uc_machine.specs.Raising as raising
use Rattle.uc_except.specs.RowSearch.{resumed}
use Rattle.uc_except.specs.Handling.{handler_begun}
use Rattle.uc_except.proofs.Handled.{catches_now, resumes_now, same_event, event_fields, begun_as}
use Rattle.uc_except.proofs.handling.handle.Goals as goal

pub returns-clause-resumed : goal.returns-clause-resumed
returns-clause-resumed c =
    λ source s h e i f.
    let rows = c.args.code.now.rows in
    let acts = c.args.work.now.run ∷ c.args.work.now.callers in
    let n : resumed rows None c.args.event acts ≡ resumed rows None (raising.event_in s.run.operands).number acts = ap (λ (x : raising.Event). resumed rows None x.number acts) (sym e) in
    let b = begun_as rows c.args.found.now c.args.work.now c.begin_found.new.work c.args.event c.args.x c.args.y _ _ c.in_ok-begin_found.ensures.ok (search rules) (search rules) in
    let q = b ∙ ap (λ (x : raising.Event). handler_begun rows c.args.found.now (event_fields x) c.args.work.now) (sym e) in
    resumes_now source (laid_of c.args.code.now) c.args.work.now c.begin_found.new.work s h c.args.found.now i (f ∙ n) q

pub returns-clause-caught : goal.returns-clause-caught
returns-clause-caught c =
    λ source s frame row h r i k.
    let rows = c.args.code.now.rows in
    let e : raising.Event = record { number = c.args.event; x = c.args.x; y = c.args.y } in
    let b = begun_as rows c.args.found.now c.args.work.now c.begin_found.new.work c.args.event c.args.x c.args.y _ _ c.in_ok-begin_found.ensures.ok (search rules) (search rules) in
    let q = b ∙ ap (λ x. handler_begun rows x (event_fields e) c.args.work.now) i in
    catches_now source (laid_of c.args.code.now) c.args.work.now c.begin_found.new.work s row e h k (same_event k.event e (sym k.is ∙ r)) frame q
