use Rattle.uc_frames.specs.Machine.{pended}
use Rattle.uc_frames.proofs.Slots.{links_none, links_there}
use Rattle.uc_frames.proofs.Counted.{left_same, pended_engaged}
use Rattle.uc_frames.proofs.members.House.add_pending.Goals as goal

pub returns-in_default-1₀-clause-ok : goal.returns-in_default-1₀-clause-ok
returns-in_default-1₀-clause-ok c =
    rw (← c.self.view_is) (links_none c.args.serial _ c.in-Some.i c.in-Some.ensures c.get_mut-slot.result.now c.get_mut-slot.ensures.value (pended c.args.event) c.in_default-1₀.is)

pub invariant_of-self : goal.invariant_of-self
invariant_of-self c =
    left_same _ _ _ c.self.invariant c.args.serial c.in-Some.i c.in-Some.ensures c.get_mut-slot.result.now c.get_mut-slot.ensures.value _ (pended_engaged c.args.event c.in-Some-1₀.stack c.add_pending.new.self _ c.in-Some-1₀.is c.in_ok-add_pending.ensures.ok)

pub returns-in_ok-add_pending-clause-ok : goal.returns-in_ok-add_pending-clause-ok
returns-in_ok-add_pending-clause-ok c =
    rw (← c.self.view_is) (links_there c.args.serial _ c.in-Some.i c.in-Some.ensures c.get_mut-slot.result.now c.get_mut-slot.ensures.value (pended c.args.event) c.in-Some-1₀.stack c.add_pending.new.self c.in-Some-1₀.is c.in_ok-add_pending.ensures.ok)
