use Rattle.std.proofs.Common.{subst}
use Rattle.uc_step.specs.Effects.{Quiet, Ask, Unwind}
use Rattle.uc_ride.specs.UnwindingFalls.{how_unwound, left_in, StepFalls}
use Rattle.uc_ride.proofs.Leading.{Unwinding, unwinding_first, unwinding_on}
use Rattle.uc_ride.proofs.events.unwinds.Goals as goal

pub steps-init : goal.steps-init
steps-init c = record { source = unwinding_first c.args.code.now c.args.work.now; below = λ w u. u }

pub steps-preserved : goal.steps-preserved
steps-preserved c =
    let code = c.args.code.now in
    let f : Unwinding code c.steps.work (how_unwound c.in_ok-how.how c.unwind_once.new.asked) c.unwind_once.new.work = c.in_ok-how.ensures.source in
    record {
      source = unwinding_on code c.args.work.now c.steps.work c.unwind_once.new.work Unwind c.steps.invariant.source (subst (λ h. Unwinding code c.steps.work (how_unwound h c.unwind_once.new.asked) c.unwind_once.new.work) c.in-Still.is f);
      below = λ w u. (subst (λ h. StepFalls code w (left_in code c.steps.work) h c.unwind_once.new.asked c.unwind_once.new.work) c.in-Still.is (c.in_ok-how.ensures.falls w (c.steps.invariant.below w u))).0;
    }

pub steps-smaller : goal.steps-smaller
steps-smaller c =
    let code = c.args.code.now in
    (subst (λ h. StepFalls code c.requires.below.0 (left_in code c.steps.work) h c.unwind_once.new.asked c.unwind_once.new.work) c.in-Still.is (c.in_ok-how.ensures.falls c.requires.below.0 (c.steps.invariant.below c.requires.below.0 c.requires.below.1))).1

pub returns-in-On-clause-source : goal.returns-in-On-clause-source
returns-in-On-clause-source c =
    let code = c.args.code.now in
    let f : Unwinding code c.steps.work (how_unwound c.in_ok-how.how c.unwind_once.new.asked) c.unwind_once.new.work = c.in_ok-how.ensures.source in
    unwinding_on code c.args.work.now c.steps.work c.unwind_once.new.work Quiet c.steps.invariant.source (subst (λ h. Unwinding code c.steps.work (how_unwound h c.unwind_once.new.asked) c.unwind_once.new.work) c.in-On.is f)

pub returns-in-On-clause-falls : goal.returns-in-On-clause-falls
returns-in-On-clause-falls c =
    let code = c.args.code.now in
    λ w u. subst (λ h. StepFalls code w (left_in code c.steps.work) h c.unwind_once.new.asked c.unwind_once.new.work) c.in-On.is (c.in_ok-how.ensures.falls w (c.steps.invariant.below w u))

pub returns-in-Asks-clause-source : goal.returns-in-Asks-clause-source
returns-in-Asks-clause-source c =
    let code = c.args.code.now in
    let f : Unwinding code c.steps.work (how_unwound c.in_ok-how.how c.unwind_once.new.asked) c.unwind_once.new.work = c.in_ok-how.ensures.source in
    unwinding_on code c.args.work.now c.steps.work c.unwind_once.new.work (Ask c.unwind_once.new.asked) c.steps.invariant.source (subst (λ h. Unwinding code c.steps.work (how_unwound h c.unwind_once.new.asked) c.unwind_once.new.work) c.in-Asks.is f)

pub returns-in-Asks-clause-falls : goal.returns-in-Asks-clause-falls
returns-in-Asks-clause-falls c =
    let code = c.args.code.now in
    λ w u. subst (λ h. StepFalls code w (left_in code c.steps.work) h c.unwind_once.new.asked c.unwind_once.new.work) c.in-Asks.is (c.in_ok-how.ensures.falls w (c.steps.invariant.below w u))
