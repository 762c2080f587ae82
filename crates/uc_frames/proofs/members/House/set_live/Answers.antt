use Rattle.uc_frames.specs.Machine.{lively}
use Rattle.uc_frames.proofs.Slots.{links_none, links_there}
use Rattle.uc_frames.proofs.Counted.{left_same, lively_engaged}
use Rattle.uc_frames.proofs.members.House.set_live.Goals as goal

pub returns-in_default-1₀ : goal.returns-in_default-1₀
returns-in_default-1₀ c =
    rw (← c.self.view_is) (links_none c.args.serial _ c.in-Some.i c.in-Some.ensures c.get_mut-slot.result.now c.get_mut-slot.ensures.value (lively c.args.live) c.in_default-1₀.is)

-- the order of the numbers
pub position_in_order-requires : goal.position_in_order-requires
position_in_order-requires c = (_, c.self.invariant.ascend)

pub invariant_of-self : goal.invariant_of-self
invariant_of-self c =
    left_same _ _ _ c.self.invariant c.args.serial c.in-Some.i c.in-Some.ensures c.get_mut-slot.result.now c.get_mut-slot.ensures.value _ (lively_engaged c.args.live c.in-Some-1₀.stack c.set_live.new.self _ c.in-Some-1₀.is c.set_live.ensures)

pub returns-in-Some-1₀ : goal.returns-in-Some-1₀
returns-in-Some-1₀ c =
    rw (← c.self.view_is) (links_there c.args.serial _ c.in-Some.i c.in-Some.ensures c.get_mut-slot.result.now c.get_mut-slot.ensures.value (lively c.args.live) c.in-Some-1₀.stack c.set_live.new.self c.in-Some-1₀.is c.set_live.ensures)
