use Rattle.std.proofs.Common.{◌≡◌, ◌<◌, ◌^◌, [], None, Some, true, false, refl, sym, ap, subst, ◌∙◌, to_z, of_z, w64, rules}
use Rattle.uc_code.specs.Layout.{laid_of, chain}
use Rattle.uc_frames.specs.UnwindingOutcomes.{event_by}
use Rattle.uc_frames.specs.Machine.{Machine, Activation}
use Rattle.uc_frames.specs.Searches.{catcher_in}
use Rattle.uc_frames.specs.UnwindingStands.{Unwinds}
use Rattle.uc_coroutine.specs.UnwindingSteps.{IsOwn, UnwoundTo}
use Rattle.uc_coroutine.specs.Unwinding.{Made, step_of}
use Rattle.uc_except.specs.declared.found.Found.TheVariants.{Handler}
use Rattle.uc_except.specs.Handling.{handler_begun}
use Rattle.uc_except.proofs.Handled.{begun_as}
use Rattle.uc_step.specs.Effects as effect
use Rattle.uc_step.specs.WeightFalls.{FallsBelow}
use Rattle.uc_ride.specs.UnwindingFalls.{row_of, how_unwound, left_in, StepFalls}
use Rattle.uc_ride.proofs.Leading.{follow_before, reason_as, stays}
use Rattle.uc_ride.proofs.Lowering.{entered_below, caught_falls}
use Rattle.uc_ride.proofs.Bare.{bare_leads}
use Rattle.uc_ride.proofs.events.unwind_once.Goals as goal

-- no row covers the op, so the activation is left

pub returns-then-not-is_covered-clause-source : goal.returns-then-not-is_covered-clause-source
returns-then-not-is_covered-clause-source c =
    let code = c.args.code.now in
    let m = c.args.work.now in
    let bare = subst (λ n. chain code.rows n ≡ []) c.next.ensures (c.is_covered.ensures.none c.if-not-is_covered.true) in
    λ source s low h. let l = bare_leads source code m s h bare in follow_before source (laid_of code) (how_unwound c.in_ok-left.left c.leave_on.new.asked) c.leave_on.new.work s l.after l.by (c.in_ok-left.ensures.source source l.after l.stands)

-- rows cover it

pub returns-in_ok-after-clause-falls : goal.returns-in_ok-after-clause-falls
returns-in_ok-after-clause-falls c =
    let code = c.args.code.now in
    let m = c.args.work.now in
    let n = c.unwind.new.work in
    let few : m.run.elements < 2 ^ 32 = search rules in
    let made : Made (step_of code.rows c.level-frame.result c.row_in.result m) m true n = subst (λ b. Made (step_of code.rows c.level-frame.result c.row_in.result m) m b n) c.if-unwind.true c.unwind.ensures.step in
    λ w u. c.in_ok-after.ensures.falls w (left_in code m) (entered_below code w c.level-frame.result c.row_in.result m n c.level-frame.ensures few made u)

pub returns-in_ok-after-in-None-clause-source : goal.returns-in_ok-after-in-None-clause-source
returns-in_ok-after-in-None-clause-source c =
    let code = c.args.code.now in
    let n = c.unwind.new.work in
    let own : IsOwn (laid_of code) c.level-frame.result c.row_in.result c.args.work.now = record { here = c.level-frame.ensures; catches = c.row_in.ensures ∙ c.catcher-caught.ensures.row } in
    let none : c.row_in.result ≡ None = c.row_in.ensures ∙ ap row_of c.in-None.is in
    λ source s low h.
    let u = subst (λ b. UnwoundTo source (laid_of code) b c.row_in.result n s) c.if-unwind.false (c.unwind.ensures.source source s h own) in
    let l = subst (λ r. UnwoundTo source (laid_of code) false r n s) none u in
    follow_before source (laid_of code) (how_unwound c.in_ok-after-in-None.after c.leave_on-in-None.new.asked) c.leave_on-in-None.new.work s l.after l.by (c.in_ok-after-in-None.ensures.source source l.after l.stands)

pub returns-in_ok-after-in-None-clause-falls : goal.returns-in_ok-after-in-None-clause-falls
returns-in_ok-after-in-None-clause-falls c =
    let code = c.args.code.now in
    let m = c.args.work.now in
    let n = c.unwind.new.work in
    let same : n ≡ m = stays (step_of code.rows c.level-frame.result c.row_in.result m) m n c.unwind.result c.if-unwind.false c.unwind.ensures.step in
    λ w u.
    let on = c.in_ok-after-in-None.ensures.falls w (subst (λ x. FallsBelow code w effect.Unwind x) (sym same) u) in
    subst (λ x. StepFalls code w (left_in code x) c.in_ok-after-in-None.after c.leave_on-in-None.new.asked c.leave_on-in-None.new.work) same on

pub returns-in_ok-handle-in-Some-clause-source : goal.returns-in_ok-handle-in-Some-clause-source
returns-in_ok-handle-in-Some-clause-source c =
    let code = c.args.code.now in
    let m = c.args.work.now in
    let n = c.unwind.new.work in
    let row = c.in-Some.caught.row in
    let e = c.in-Some.caught.event in
    let x : to_z w64 (of_z w64 e.x) ≡ e.x = search rules in
    let y : to_z w64 (of_z w64 e.y) ≡ e.y = search rules in
    let own : IsOwn (laid_of code) c.level-frame.result c.row_in.result m = record { here = c.level-frame.ensures; catches = c.row_in.ensures ∙ c.catcher-caught.ensures.row } in
    let some : c.row_in.result ≡ Some row = c.row_in.ensures ∙ ap row_of c.in-Some.is in
    let same : n ≡ m = stays (step_of code.rows c.level-frame.result c.row_in.result m) m n c.unwind.result c.if-unwind.false c.unwind.ensures.step in
    let why = c.catcher-caught.ensures.event c.in-Some.caught c.in-Some.is in
    λ source s low h.
    let u = subst (λ b. UnwoundTo source (laid_of code) b c.row_in.result n s) c.if-unwind.false (c.unwind.ensures.source source s h own) in
    let k = subst (λ r. UnwoundTo source (laid_of code) false r n s) some u in
    let r : s.run.raised ≡ m.run.raised = sym (ap (λ (a : Activation). a.raised) h.run.is) in
    let g = c.in_ok-handle-in-Some.ensures.caught source s c.level-frame.result row (subst (λ x. Unwinds (laid_of code) x s) (sym same) h) (reason_as source (laid_of code) s.run.raised e.number e.x e.y (to_z w64 (of_z w64 e.x)) (to_z w64 (of_z w64 e.y)) (r ∙ why) x y) refl k in
    (g.after, g.by, g.stands)

pub returns-in_ok-handle-in-Some-clause-falls : goal.returns-in_ok-handle-in-Some-clause-falls
returns-in_ok-handle-in-Some-clause-falls c =
    let code = c.args.code.now in
    let m = c.args.work.now in
    let n = c.unwind.new.work in
    let row = c.in-Some.caught.row in
    let e = c.in-Some.caught.event in
    let x : to_z w64 (of_z w64 e.x) ≡ e.x = search rules in
    let y : to_z w64 (of_z w64 e.y) ≡ e.y = search rules in
    let few : m.run.elements < 2 ^ 32 = search rules in
    let same : n ≡ m = stays (step_of code.rows c.level-frame.result c.row_in.result m) m n c.unwind.result c.if-unwind.false c.unwind.ensures.step in
    let why = c.catcher-caught.ensures.event c.in-Some.caught c.in-Some.is in
    let q : catcher_in (event_by m.run.raised) code.rows (chain code.rows m.run.control) ≡ Some row = sym c.catcher-caught.ensures.row ∙ ap row_of c.in-Some.is in
    let first = sym (ap (λ o. catcher_in (event_by o) code.rows (chain code.rows m.run.control)) why) ∙ q in
    let b = begun_as code.rows (Handler c.level-frame.result row) n c.handle.new.work e.number e.x e.y _ _ c.in_ok-handle-in-Some.ensures.ok x y in
    λ w u.
    caught_falls code w e.number c.level-frame.result row e m c.handle.new.work few first (b ∙ ap (λ x. handler_begun code.rows (Handler c.level-frame.result row) e x) same) u
