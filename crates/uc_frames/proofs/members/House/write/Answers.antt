use Rattle.uc_machine.specs.Executions.{frame_changed}
use Rattle.uc_frames.specs.Machine.{cell_written}
use Rattle.uc_frames.proofs.Slots.{frames_none, frames_there}
use Rattle.uc_frames.proofs.Counted.{frames_engaged, left_same}
use Rattle.uc_frames.proofs.members.House.write.Goals as goal

pub returns-in_default-1₀ : goal.returns-in_default-1₀
returns-in_default-1₀ c =
    rw (← c.self.view_is) (frames_none c.args.serial _ c.in-Some.i c.in-Some.ensures c.get_mut-slot.result.now c.get_mut-slot.ensures.value (frame_changed c.args.depth (cell_written c.args.at c.args.cell)) c.in_default-1₀.is)

-- the order of the numbers
pub position_in_order-requires : goal.position_in_order-requires
position_in_order-requires c = (_, c.self.invariant.ascend)

pub invariant_of-self : goal.invariant_of-self
invariant_of-self c =
    left_same _ _ _ c.self.invariant c.args.serial c.in-Some.i c.in-Some.ensures c.get_mut-slot.result.now c.get_mut-slot.ensures.value _ (frames_engaged (frame_changed c.args.depth (cell_written c.args.at c.args.cell)) c.in-Some-1₀.stack c.write.new.self _ c.in-Some-1₀.is c.write.ensures)

pub returns-in-Some-1₀ : goal.returns-in-Some-1₀
returns-in-Some-1₀ c =
    rw (← c.self.view_is) (frames_there c.args.serial _ c.in-Some.i c.in-Some.ensures c.get_mut-slot.result.now c.get_mut-slot.ensures.value (frame_changed c.args.depth (cell_written c.args.at c.args.cell)) c.in-Some-1₀.stack c.write.new.self c.in-Some-1₀.is c.write.ensures)
