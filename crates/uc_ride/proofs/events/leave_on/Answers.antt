use Rattle.std.proofs.Common.{◌≡◌, sym, subst, ap, ◌∙◌}
use Rattle.uc_code.specs.Layout.{laid_of}
use Rattle.uc_entry.specs.declared.fault.RunFault.TheVariants.{EscapeInUnwind}
use Rattle.uc_entry.specs.declared.request.Request.TheVariants as ask
use Rattle.uc_entry.specs.Faults.{fault_number}
use Rattle.uc_coroutine.specs.declared.leaving.Left.TheVariants as left
use Rattle.uc_coroutine.specs.UnwindingSteps.{LeftAs}
use Rattle.uc_coroutine.specs.Unwinding.{left_as}
use Rattle.uc_step.specs.Effects.{Ask, Unwind}
use Rattle.uc_step.specs.WeightFalls.{RunFalls}
use Rattle.uc_step.specs.Simulation.{Follow}
use Rattle.uc_ride.proofs.Leading.{asked_now, leaves}
use Rattle.uc_ride.proofs.Lowering.{end_falls, fault_falls, returned_falls, passed_on_falls}
use Rattle.uc_ride.proofs.events.leave_on.Goals as goal

pub returns-in-Ended-clause-source : goal.returns-in-Ended-clause-source
returns-in-Ended-clause-source c =
    let code = c.args.code.now in
    let m = c.args.work.now in
    let n = c.leave.new.work in
    let same : n ≡ m = c.in_ok-left.ensures.ok ∙ ap (λ x. left_as x m) c.in-Ended.is in
    λ source s h.
    let f = leaves source code m n s left.Ended h (c.in_ok-left.ensures.ok ∙ ap (λ x. left_as x m) c.in-Ended.is) (subst (λ x. LeftAs source (laid_of code) x n s) c.in-Ended.is (c.in_ok-left.ensures.source source (laid_of code) s h)) in
    subst (λ a. Follow (laid_of code) source (Ask a) n s) (asked_now code ask.End 0 m n c.put_request.new.asked same c.put_request.ensures) f

pub returns-in-Returned-clause-source : goal.returns-in-Returned-clause-source
returns-in-Returned-clause-source c =
    let code = c.args.code.now in
    let m = c.args.work.now in
    let n = c.leave.new.work in
    λ source s h. leaves source code m n s left.Returned h (c.in_ok-left.ensures.ok ∙ ap (λ x. left_as x m) c.in-Returned.is) (subst (λ x. LeftAs source (laid_of code) x n s) c.in-Returned.is (c.in_ok-left.ensures.source source (laid_of code) s h))

pub returns-in-Returned-clause-falls : goal.returns-in-Returned-clause-falls
returns-in-Returned-clause-falls c =
    let code = c.args.code.now in
    let m = c.args.work.now in
    let n = c.leave.new.work in
    λ w u. returned_falls code w m n (sym c.in-Returned.is ∙ c.in_ok-left.ensures.how) (c.in_ok-left.ensures.ok ∙ ap (λ x. left_as x m) c.in-Returned.is) u

pub returns-in-Escaped-clause-source : goal.returns-in-Escaped-clause-source
returns-in-Escaped-clause-source c =
    let code = c.args.code.now in
    let m = c.args.work.now in
    let n = c.leave.new.work in
    let same : n ≡ m = c.in_ok-left.ensures.ok ∙ ap (λ x. left_as x m) c.in-Escaped.is in
    λ source s h.
    let f = leaves source code m n s left.Escaped h (c.in_ok-left.ensures.ok ∙ ap (λ x. left_as x m) c.in-Escaped.is) (subst (λ x. LeftAs source (laid_of code) x n s) c.in-Escaped.is (c.in_ok-left.ensures.source source (laid_of code) s h)) in
    subst (λ a. Follow (laid_of code) source (Ask a) n s) (asked_now code (ask.Fault (fault_number EscapeInUnwind)) 0 m n c.put_fault.new.asked same c.put_fault.ensures) f

pub returns-in-PassedOn-clause-source : goal.returns-in-PassedOn-clause-source
returns-in-PassedOn-clause-source c =
    let code = c.args.code.now in
    let m = c.args.work.now in
    let n = c.leave.new.work in
    λ source s h. leaves source code m n s left.PassedOn h (c.in_ok-left.ensures.ok ∙ ap (λ x. left_as x m) c.in-PassedOn.is) (subst (λ x. LeftAs source (laid_of code) x n s) c.in-PassedOn.is (c.in_ok-left.ensures.source source (laid_of code) s h))

pub returns-in-PassedOn-clause-falls : goal.returns-in-PassedOn-clause-falls
returns-in-PassedOn-clause-falls c =
    let code = c.args.code.now in
    let m = c.args.work.now in
    let n = c.leave.new.work in
    λ w u. passed_on_falls code w m n (sym c.in-PassedOn.is ∙ c.in_ok-left.ensures.how) (c.in_ok-left.ensures.ok ∙ ap (λ x. left_as x m) c.in-PassedOn.is) u

pub returns-in-Ended-clause-falls : goal.returns-in-Ended-clause-falls
returns-in-Ended-clause-falls c =
    let code = c.args.code.now in
    let m = c.args.work.now in
    let n = c.leave.new.work in
    let same : n ≡ m = c.in_ok-left.ensures.ok ∙ ap (λ x. left_as x m) c.in-Ended.is in
    λ w u. end_falls code w (RunFalls code Unwind) m n c.put_request.new.asked _ c.put_request.ensures same u

pub returns-in-Escaped-clause-falls : goal.returns-in-Escaped-clause-falls
returns-in-Escaped-clause-falls c =
    let code = c.args.code.now in
    let m = c.args.work.now in
    let n = c.leave.new.work in
    let same : n ≡ m = c.in_ok-left.ensures.ok ∙ ap (λ x. left_as x m) c.in-Escaped.is in
    λ w u. fault_falls code w (RunFalls code Unwind) m n c.put_fault.new.asked (fault_number EscapeInUnwind) _ c.put_fault.ensures same u
