use Rattle.uc_frames.proofs.Counted.{any_counted}
use Rattle.uc_frames.proofs.members.House.has_engaged.Goals as goal

pub returns : goal.returns
returns c = rw (← c.self.view_is) (any_counted _ _ _ c.self.invariant)
