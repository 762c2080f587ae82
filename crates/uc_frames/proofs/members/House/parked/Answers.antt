use Rattle.uc_frames.proofs.members.House.parked.Goals as goal

-- the order of the numbers
pub position_in_order-requires : goal.position_in_order-requires
position_in_order-requires c = (_, c.self.invariant.ascend)
