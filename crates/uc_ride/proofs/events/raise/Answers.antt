use Rattle.std.proofs.Common.{◌≡◌, ◌∷◌, None, sym, ap, subst, ◌∙◌, to_z, of_z, w64, rules}
use Rattle.uc_code.specs.Layout.{laid_of}
use Rattle.uc_machine.specs.declared.exec.UnwindReason.TheVariants as reason
use Rattle.uc_machine.specs.Raising.{event_in}
use Rattle.uc_except.specs.Handling.{IsFound, handler_begun}
use Rattle.uc_except.proofs.Handled.{begun_as}
use Rattle.uc_except.proofs.Taken.{taken}
use Rattle.uc_except.proofs.Thrown.{thrown_as}
use Rattle.uc_ride.specs.UnwindingFalls.{how_settled}
use Rattle.uc_ride.proofs.Leading.{Unwinding, fields_as, leads_on, raise_leads, handle_leads}
use Rattle.uc_ride.proofs.Lowering.{raised_falls, found_falls}
use Rattle.uc_ride.proofs.events.raise.Goals as goal

pub unwinds-requires-clause-below : goal.unwinds-requires-clause-below
unwinds-requires-clause-below c =
    let code = c.args.code.now in
    let w = c.requires.below.0 in
    let x : to_z w64 (of_z w64 c.args.event.x) ≡ c.args.event.x = search rules in
    let y : to_z w64 (of_z w64 c.args.event.y) ≡ c.args.event.y = search rules in
    let e = c.args.event in
    let thrown = thrown_as c.args.work.now c.throw.new.work e.number e.x e.y _ _ c.throw.ensures.now x y in
    (w, raised_falls code w e (reason.Event e.number e.x e.y) c.args.work.now c.throw.new.work thrown c.requires.below.1)

pub returns-in_ok-end-in-None-clause-source : goal.returns-in_ok-end-in-None-clause-source
returns-in_ok-end-in-None-clause-source c =
    let code = c.args.code.now in
    let none = sym c.propagate-found.ensures.rows ∙ c.in-None.is in
    let x : to_z w64 (of_z w64 c.args.event.x) ≡ c.args.event.x = search rules in
    let y : to_z w64 (of_z w64 c.args.event.y) ≡ c.args.event.y = search rules in
    let e = c.args.event in
    λ source s low f.
    let g = raise_leads source (laid_of code) c.args.work.now c.throw.new.work e s (λ t h i. c.throw.ensures.resumed source (laid_of code) t h (fields_as source (laid_of code) e (event_in t.run.operands) (to_z w64 (of_z w64 e.x)) (to_z w64 (of_z w64 e.y)) x y i) none) f in
    let u : Unwinding code c.throw.new.work (how_settled c.in_ok-end-in-None.end c.unwinds.new.asked) c.unwinds.new.work = c.in_ok-end-in-None.ensures.source in
    leads_on code c.throw.new.work c.unwinds.new.work (how_settled c.in_ok-end-in-None.end c.unwinds.new.asked) u source s low g

pub returns-in_ok-end-in-None-clause-falls : goal.returns-in_ok-end-in-None-clause-falls
returns-in_ok-end-in-None-clause-falls c =
    let code = c.args.code.now in
    let x : to_z w64 (of_z w64 c.args.event.x) ≡ c.args.event.x = search rules in
    let y : to_z w64 (of_z w64 c.args.event.y) ≡ c.args.event.y = search rules in
    let e = c.args.event in
    let thrown = thrown_as c.args.work.now c.throw.new.work e.number e.x e.y _ _ c.throw.ensures.now x y in
    λ w f. c.in_ok-end-in-None.ensures.falls w (raised_falls code w e (reason.Event e.number e.x e.y) c.args.work.now c.throw.new.work thrown f)

pub returns-in_ok-handle-in-Handler-clause-source : goal.returns-in_ok-handle-in-Handler-clause-source
returns-in_ok-handle-in-Handler-clause-source c =
    let code = c.args.code.now in
    let x : to_z w64 (of_z w64 c.args.event.x) ≡ c.args.event.x = search rules in
    let y : to_z w64 (of_z w64 c.args.event.y) ≡ c.args.event.y = search rules in
    let e = c.args.event in
    λ source s low f.
    handle_leads source (laid_of code) c.args.work.now c.handle.new.work e s (λ t h i. c.in_ok-handle-in-Handler.ensures.resumed source t h (fields_as source (laid_of code) e (event_in t.run.operands) (to_z w64 (of_z w64 e.x)) (to_z w64 (of_z w64 e.y)) x y i) (subst IsFound (sym c.in-Handler.is) tt) c.propagate-found.ensures.rows) f

pub returns-in_ok-handle-in-Handler-clause-falls : goal.returns-in_ok-handle-in-Handler-clause-falls
returns-in_ok-handle-in-Handler-clause-falls c =
    let code = c.args.code.now in
    let m = c.args.work.now in
    let x : to_z w64 (of_z w64 c.args.event.x) ≡ c.args.event.x = search rules in
    let y : to_z w64 (of_z w64 c.args.event.y) ≡ c.args.event.y = search rules in
    let e = c.args.event in
    let b = begun_as code.rows c.propagate-found.result m c.handle.new.work e.number e.x e.y _ _ c.in_ok-handle-in-Handler.ensures.ok x y in
    let q = taken code.rows None e.number c.in-Handler.frame c.in-Handler.row (m.run ∷ m.callers) (sym c.propagate-found.ensures.rows ∙ c.in-Handler.is) in
    λ w f. found_falls code w e.number c.in-Handler.frame c.in-Handler.row e m c.handle.new.work q (b ∙ ap (λ x. handler_begun code.rows x e m) c.in-Handler.is) f
