use Rattle.std.proofs.Common.{◌≡◌, None, Some, sym, subst, ◌∙◌}
use Rattle.uc_entry.specs.Faults.{fault_number}
use Rattle.uc_entry.specs.declared.request.Request.TheVariants as ask
use Rattle.uc_code.specs.Layout.{laid_of}
use Rattle.uc_coroutine.specs.Switching.{left_by, SwitchedAs}
use Rattle.uc_step.specs.Effects.{Ask}
use Rattle.uc_step.specs.Simulation.{Follow}
use Rattle.uc_ride.specs.UnwindingFalls.{Entered}
use Rattle.uc_ride.proofs.Leading.{asked_now, leaves_coroutine}
use Rattle.uc_ride.proofs.Lowering.{moved_same, fault_falls, coroutine_falls}
use Rattle.uc_ride.proofs.events.leave_coroutine.Goals as goal

pub returns-in-None-clause-source : goal.returns-in-None-clause-source
returns-in-None-clause-source c =
    let code = c.args.code.now in
    let m = c.args.work.now in
    let n = c.leave_main.new.work in
    λ source s low b.
    leaves_coroutine source code low m n s c.args.line c.requires None (λ t h. subst (λ o. SwitchedAs source (laid_of code) o n t) c.in-None.is (c.leave_main.ensures.source source (laid_of code) t h)) b

pub returns-in-None-clause-falls : goal.returns-in-None-clause-falls
returns-in-None-clause-falls c =
    let code = c.args.code.now in
    λ w left g. coroutine_falls code w left c.args.work.now c.leave_main.new.work (sym c.in-None.is ∙ c.leave_main.ensures.fault) c.leave_main.ensures.state g

pub returns-in-Some-clause-source : goal.returns-in-Some-clause-source
returns-in-Some-clause-source c =
    let code = c.args.code.now in
    let m = c.args.work.now in
    let n = c.leave_main.new.work in
    let same : n ≡ m = moved_same (left_by m.run.raised m) m n c.in-Some.fault (sym c.in-Some.is ∙ c.leave_main.ensures.fault) c.leave_main.ensures.state in
    λ source s low b.
    let f = leaves_coroutine source code low m n s c.args.line c.requires (Some c.in-Some.fault) (λ t h. subst (λ o. SwitchedAs source (laid_of code) o n t) c.in-Some.is (c.leave_main.ensures.source source (laid_of code) t h)) b in
    subst (λ a. Follow (laid_of code) source (Ask a) n s) (asked_now code (ask.Fault (fault_number c.in-Some.fault)) c.args.line m n c.put_fault.new.asked same c.put_fault.ensures) f

pub returns-in-Some-clause-falls : goal.returns-in-Some-clause-falls
returns-in-Some-clause-falls c =
    let code = c.args.code.now in
    let m = c.args.work.now in
    let n = c.leave_main.new.work in
    let same : n ≡ m = moved_same (left_by m.run.raised m) m n c.in-Some.fault (sym c.in-Some.is ∙ c.leave_main.ensures.fault) c.leave_main.ensures.state in
    λ w left g. fault_falls code w (λ v x. Entered code v left x) m n c.put_fault.new.asked (fault_number c.in-Some.fault) _ c.put_fault.ensures same g
