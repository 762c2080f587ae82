use Rattle.std.proofs.Common.{◌∙◌}
use Rattle.uc_machine.specs.Switches.{suspend}
use Rattle.uc_code.specs.Layout.{laid_of}
use Rattle.uc_step.specs.Effects.{Suspend}
use Rattle.uc_step.specs.WeightFalls.{RunFalls}
use Rattle.uc_step.specs.Simulation.{behind_line}
use Rattle.uc_ride.specs.UnwindingFalls.{how_settled}
use Rattle.uc_ride.proofs.Leading.{switch_settles}
use Rattle.uc_ride.proofs.Lowering.{moved_same, suspended_falls, switch_falls}
use Rattle.uc_ride.proofs.events.settle_suspend.Goals as goal

pub returns-clause-source : goal.returns-clause-source
returns-clause-source c =
    let code = c.args.code.now in
    let m = c.args.work.now in
    let n = c.suspend-fault.new.work in
    λ source s f.
    switch_settles source code m n s f.0 f.1 c.suspend-fault.result (how_settled c.switched-end.result c.switched-end.new.asked) (λ g e. moved_same (suspend m) m n g (e ∙ c.suspend-fault.ensures.fault) c.suspend-fault.ensures.state) f.2 c.switched-end.ensures (c.suspend-fault.ensures.source source (laid_of code) f.0 f.3)

pub returns-clause-falls : goal.returns-clause-falls
returns-clause-falls c =
    let code = c.args.code.now in
    let m = c.args.work.now in
    let n = c.suspend-fault.new.work in
    λ w h.
    switch_falls code w (RunFalls code Suspend) m n (behind_line (laid_of code) n) c.suspend-fault.result (how_settled c.switched-end.result c.switched-end.new.asked) (λ e. suspended_falls code w m n (e ∙ c.suspend-fault.ensures.fault) c.suspend-fault.ensures.state h)
    (λ g e. moved_same (suspend m) m n g (e ∙ c.suspend-fault.ensures.fault) c.suspend-fault.ensures.state) c.switched-end.ensures h
