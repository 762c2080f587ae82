use Rattle.std.proofs.Common.{arith, ◌-◌}
use Rattle.std.proofs.lemmas.Grind.{common_steps}
use Rattle.uc_frames.specs.declared.cell.Cell.TheVariants.{Nothing}
use Rattle.uc_frames.specs.Machine.{nought}
use Rattle.uc_frames.proofs.Newest.{framed}
use Rattle.uc_frames.proofs.block.new_frame.Goals as goal

pub returns : goal.returns
returns c =
    framed Nothing nought c.args.operands.now c.extend_from_slice.new.self.items c.resize-2.new.self.items c.args.routine.params (c.args.routine.cells - c.args.routine.params) (grind (arith, common_steps)) (grind (arith, common_steps))
