use Rattle.std.proofs.Common.{arith, ◌∙◌, sym}
use Rattle.uc_frames.proofs.Positions.{joined_is}
use Rattle.uc_frames.proofs.Slots.{slot_none, slot_there}
use Rattle.uc_frames.proofs.Counted.{left_set, set_few, takes_less}
use Rattle.uc_frames.proofs.members.House.exchange.Goals as goal

pub returns-in-None-clause-after : goal.returns-in-None-clause-after
returns-in-None-clause-after c = rw (← c.self.view_is) (slot_none c.args.serial _ _ c.in-None.ensures)

pub returns-in-Some-clause-value : goal.returns-in-Some-clause-value
returns-in-Some-clause-value c =
    rw (← c.self.view_is) (c.replace-left.ensures.value ∙ sym (joined_is c.args.serial _ c.in-Some.i c.in-Some.ensures c.get_mut-place.result.now c.get_mut-place.ensures.value))

pub returns-in-Some-clause-after : goal.returns-in-Some-clause-after
returns-in-Some-clause-after c =
    rw (← c.self.view_is) (slot_there c.args.serial _ c.in-Some.i c.in-Some.ensures c.get_mut-place.result.now c.get_mut-place.ensures.value _ _ c.replace-left.ensures.after)

-- the order of the numbers
pub position_in_order-requires : goal.position_in_order-requires
position_in_order-requires c = (_, c.self.invariant.ascend)

pub invariant_of-self : goal.invariant_of-self
invariant_of-self c =
    rw (c.engaged_in.ensures, c.engaged_in-more.ensures, c.replace-left.ensures.value, ← c.replace-left.ensures.after) (left_set _ _ _ c.self.invariant c.args.serial c.in-Some.i c.in-Some.ensures c.get_mut-place.result.now c.get_mut-place.ensures.value c.replace-left.new.dest)

pub overflow_sub-self : goal.overflow_sub-self
overflow_sub-self c =
    let here = takes_less _ _ _ c.self.invariant c.args.serial c.in-Some.i c.in-Some.ensures c.get_mut-place.result.now c.get_mut-place.ensures.value in
    rw (c.engaged_in.ensures, c.replace-left.ensures.value) here

pub overflow_add-self : goal.overflow_add-self
overflow_add-self c =
    let few = set_few _ _ _ c.self.invariant c.args.serial c.in-Some.i c.in-Some.ensures c.get_mut-place.result.now c.get_mut-place.ensures.value c.args.slot in
    rw (c.engaged_in.ensures, c.engaged_in-more.ensures, c.replace-left.ensures.value) (omega (arith, few))
