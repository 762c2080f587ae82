use Rattle.std.proofs.Common.{◌≡◌, take}
use Rattle.uc_judge.specs.Changes.{told_of}
use Rattle.uc_judge.proofs.judging.tell_all.Given as goal

-- the tasks are told of all entries so far
abbrev pub invariant-loop-e : goal.invariant-loop-e
invariant-loop-e g l = l.tasks ≡ told_of g.A.Asks.told l.sites l.fn.tasks (take l.e-index l.entries)
