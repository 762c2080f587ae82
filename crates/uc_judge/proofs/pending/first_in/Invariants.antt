use Rattle.std.proofs.Common.{◌≡◌, drop}
use Rattle.uc_acts.specs.Pending.{oldest_in}
use Rattle.uc_judge.proofs.pending.first_in.Given as goal

-- the mask has none of the events so far
abbrev pub invariant-loop-event : goal.invariant-loop-event
invariant-loop-event l = oldest_in l.mask l.events ≡ oldest_in l.mask (drop l.event-index l.events)
