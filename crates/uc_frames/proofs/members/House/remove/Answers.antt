use Rattle.uc_frames.proofs.Slots.{gone_none}
use Rattle.uc_frames.proofs.Counted.{left_removed, takes_less}
use Rattle.uc_frames.proofs.members.House.remove.Goals as goal

pub returns-in_default : goal.returns-in_default
returns-in_default c = rw (← c.self.view_is) (gone_none c.args.serial _ c.in_default.ensures)

-- the order of the numbers
pub position_in_order-requires : goal.position_in_order-requires
position_in_order-requires c = (_, c.self.invariant.ascend)

pub invariant_of-self : goal.invariant_of-self
invariant_of-self c =
    rw (c.take-gone.ensures.items, c.engaged_in.ensures) (left_removed _ _ _ c.self.invariant c.args.serial c.in-Some.i c.in-Some.ensures c.take-gone.result c.take-gone.ensures.value)

pub invariant_of-self-in-Some-2 : goal.invariant_of-self-in-Some-2
invariant_of-self-in-Some-2 c =
    rw (c.take-gone.ensures.items, c.engaged_in.ensures) (left_removed _ _ _ c.self.invariant c.args.serial c.in-Some.i c.in-Some.ensures c.take-gone.result c.take-gone.ensures.value)

pub overflow_sub-self : goal.overflow_sub-self
overflow_sub-self c =
    rw c.engaged_in.ensures (takes_less _ _ _ c.self.invariant c.args.serial c.in-Some.i c.in-Some.ensures c.take-gone.result c.take-gone.ensures.value)
