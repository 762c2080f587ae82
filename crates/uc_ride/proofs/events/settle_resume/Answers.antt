use Rattle.std.proofs.Common.{◌∙◌}
use Rattle.uc_machine.specs.Switches.{wake}
use Rattle.uc_code.specs.Layout.{laid_of}
use Rattle.uc_frames.specs.Machine.{resumed}
use Rattle.uc_step.specs.Effects.{Resume}
use Rattle.uc_step.specs.WeightFalls.{RunFalls}
use Rattle.uc_step.specs.Simulation.{behind_line}
use Rattle.uc_ride.specs.UnwindingFalls.{how_settled}
use Rattle.uc_ride.proofs.Leading.{switch_settles}
use Rattle.uc_ride.proofs.Lowering.{moved_same, resumed_falls, switch_falls}
use Rattle.uc_ride.proofs.events.settle_resume.Goals as goal

pub returns-clause-source : goal.returns-clause-source
returns-clause-source c =
    let code = c.args.code.now in
    let m = c.args.work.now in
    let n = c.resume-fault.new.work in
    λ source s f.
    switch_settles source code m n s f.0 f.1 c.resume-fault.result (how_settled c.switched-end.result c.switched-end.new.asked) (λ g e. moved_same (wake (resumed m) m) m n g (e ∙ c.resume-fault.ensures.fault) c.resume-fault.ensures.state) f.2 c.switched-end.ensures (c.resume-fault.ensures.source source (laid_of code) f.0 f.3)

pub returns-clause-falls : goal.returns-clause-falls
returns-clause-falls c =
    let code = c.args.code.now in
    let m = c.args.work.now in
    let n = c.resume-fault.new.work in
    λ w h.
    switch_falls code w (RunFalls code Resume) m n (behind_line (laid_of code) n) c.resume-fault.result (how_settled c.switched-end.result c.switched-end.new.asked) (λ e. resumed_falls code w m n (e ∙ c.resume-fault.ensures.fault) c.resume-fault.ensures.state h)
    (λ g e. moved_same (wake (resumed m) m) m n g (e ∙ c.resume-fault.ensures.fault) c.resume-fault.ensures.state) c.switched-end.ensures h
