use Rattle.std.proofs.Common.{Some, arith}
use Rattle.uc_frames.proofs.Counted.{bounded, engaged_few, left_more}
use Rattle.uc_frames.proofs.members.House.add.Goals as goal

pub invariant_of-self-2 : goal.invariant_of-self-2
invariant_of-self-2 c =
    rw (c.push.ensures.items, c.in_ok-room.ensures.items, c.engaged_in.ensures) (left_more _ _ _ c.self.invariant (Some c.args.stack))

pub overflow_add-self : goal.overflow_add-self
overflow_add-self c = omega (arith, c.engaged_in.ensures, engaged_few (Some c.args.stack), bounded _ _ _ c.self.invariant)
