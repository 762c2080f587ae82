use Rattle.std.proofs.Common.{ap, ◌∙◌}
use Rattle.uc_frames.specs.Objects.{guard_bit}
use Rattle.uc_frames.proofs.Masks.{masks_more}
use Rattle.uc_frames.proofs.work.Work.guards.Goals as goal

pub loop-i-preserved : goal.loop-i-preserved
loop-i-preserved c = masks_more c.loop-i.i c.loop-i.mask c.guard_bit.result c.args.self.now.run.operands c.loop-i.invariant (c.guard_bit.ensures ∙ ap guard_bit c.below.ensures)
