use Rattle.std.proofs.Common.{◌≡◌, sym, subst, ap, ◌∙◌}
use Rattle.uc_code.specs.Layout.{laid_of}
use Rattle.uc_entry.specs.declared.fault.RunFault.TheVariants.{Unhandled, BlockedInside}
use Rattle.uc_entry.specs.declared.request.Request.TheVariants as ask
use Rattle.uc_entry.specs.Faults.{fault_number}
use Rattle.uc_machine.specs.Insides.{is_held_up}
use Rattle.uc_coroutine.specs.declared.testing.TaskMainEnd.TheVariants as end
use Rattle.uc_coroutine.specs.MainEnds.{MainLeft, main_over}
use Rattle.uc_step.specs.Effects.{Ask}
use Rattle.uc_step.specs.Simulation.{Follow}
use Rattle.uc_ride.proofs.Leading.{asked_now, ends}
use Rattle.uc_ride.specs.UnwindingFalls.{Entered}
use Rattle.uc_ride.proofs.Lowering.{end_falls, fault_falls, main_falls}
use Rattle.uc_ride.proofs.events.end_on.Goals as goal

pub returns-in-Ended-clause-source : goal.returns-in-Ended-clause-source
returns-in-Ended-clause-source c =
    let code = c.args.code.now in
    let m = c.args.work.now in
    let n = c.end_task_main.new.work in
    let same : n ≡ m = c.in_ok-end.ensures.now ∙ ap (λ e. main_over e m) c.in-Ended.is in
    λ source s low b.
    let f = ends source code low m n s c.args.line c.requires end.Ended (λ t h. subst (λ e. MainLeft source (laid_of code) e n t) c.in-Ended.is (c.in_ok-end.ensures.source source (laid_of code) t h)) b in
    subst (λ a. Follow (laid_of code) source (Ask a) n s) (asked_now code ask.End c.args.line m n c.put_request.new.asked same c.put_request.ensures) f

pub returns-in-Returned-clause-source : goal.returns-in-Returned-clause-source
returns-in-Returned-clause-source c =
    let code = c.args.code.now in
    let m = c.args.work.now in
    let n = c.end_task_main.new.work in
    λ source s low b.
    ends source code low m n s c.args.line c.requires end.Returned (λ t h. subst (λ e. MainLeft source (laid_of code) e n t) c.in-Returned.is (c.in_ok-end.ensures.source source (laid_of code) t h)) b

pub returns-in-Returned-clause-falls : goal.returns-in-Returned-clause-falls
returns-in-Returned-clause-falls c =
    let code = c.args.code.now in
    let m = c.args.work.now in
    let n = c.end_task_main.new.work in
    λ w left g. main_falls code w left m n (is_held_up m.env.own m.env) (sym c.in-Returned.is ∙ c.in_ok-end.ensures.how) (c.in_ok-end.ensures.now ∙ ap (λ e. main_over e m) c.in-Returned.is) g

pub returns-in-Unhandled-clause-source : goal.returns-in-Unhandled-clause-source
returns-in-Unhandled-clause-source c =
    let code = c.args.code.now in
    let m = c.args.work.now in
    let n = c.end_task_main.new.work in
    let same : n ≡ m = c.in_ok-end.ensures.now ∙ ap (λ e. main_over e m) c.in-Unhandled.is in
    λ source s low b.
    let f = ends source code low m n s c.args.line c.requires end.Unhandled (λ t h. subst (λ e. MainLeft source (laid_of code) e n t) c.in-Unhandled.is (c.in_ok-end.ensures.source source (laid_of code) t h)) b in
    subst (λ a. Follow (laid_of code) source (Ask a) n s) (asked_now code (ask.Fault (fault_number Unhandled)) c.args.line m n c.put_fault.new.asked same c.put_fault.ensures) f

pub returns-in-Ended-clause-falls : goal.returns-in-Ended-clause-falls
returns-in-Ended-clause-falls c =
    let code = c.args.code.now in
    let m = c.args.work.now in
    let n = c.end_task_main.new.work in
    let same : n ≡ m = c.in_ok-end.ensures.now ∙ ap (λ e. main_over e m) c.in-Ended.is in
    λ w left g. end_falls code w (λ v x. Entered code v left x) m n c.put_request.new.asked _ c.put_request.ensures same g

pub returns-in-Unhandled-clause-falls : goal.returns-in-Unhandled-clause-falls
returns-in-Unhandled-clause-falls c =
    let code = c.args.code.now in
    let m = c.args.work.now in
    let n = c.end_task_main.new.work in
    let same : n ≡ m = c.in_ok-end.ensures.now ∙ ap (λ e. main_over e m) c.in-Unhandled.is in
    λ w left g. fault_falls code w (λ v x. Entered code v left x) m n c.put_fault.new.asked (fault_number Unhandled) _ c.put_fault.ensures same g

pub returns-in-HeldUp-clause-source : goal.returns-in-HeldUp-clause-source
returns-in-HeldUp-clause-source c =
    let code = c.args.code.now in
    let m = c.args.work.now in
    let n = c.end_task_main.new.work in
    let same : n ≡ m = c.in_ok-end.ensures.now ∙ ap (λ e. main_over e m) c.in-HeldUp.is in
    λ source s low b.
    let f = ends source code low m n s c.args.line c.requires end.HeldUp (λ t h. subst (λ e. MainLeft source (laid_of code) e n t) c.in-HeldUp.is (c.in_ok-end.ensures.source source (laid_of code) t h)) b in
    subst (λ a. Follow (laid_of code) source (Ask a) n s) (asked_now code (ask.Fault (fault_number BlockedInside)) c.args.line m n c.put_fault-in-HeldUp.new.asked same c.put_fault-in-HeldUp.ensures) f

pub returns-in-HeldUp-clause-falls : goal.returns-in-HeldUp-clause-falls
returns-in-HeldUp-clause-falls c =
    let code = c.args.code.now in
    let m = c.args.work.now in
    let n = c.end_task_main.new.work in
    let same : n ≡ m = c.in_ok-end.ensures.now ∙ ap (λ e. main_over e m) c.in-HeldUp.is in
    λ w left g. fault_falls code w (λ v x. Entered code v left x) m n c.put_fault-in-HeldUp.new.asked (fault_number BlockedInside) _ c.put_fault-in-HeldUp.ensures same g
