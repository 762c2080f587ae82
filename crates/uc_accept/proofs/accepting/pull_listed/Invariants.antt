use Rattle.std.proofs.Common.{◌≡◌, ℕ, ◌+◌, ◌≤◌, List, drop}
use Rattle.uc_tree.specs.SiteOffers.{met}
use Rattle.uc_mutex.specs.Doors.{door_at}
use Rattle.uc_accept.specs.Accepting.{unpulled}
use Rattle.uc_accept.proofs.Trying.{listed}
use Rattle.uc_accept.proofs.accepting.pull_listed.Given as goal

abbrev pub invariant-loop-at : goal.invariant-loop-at
invariant-loop-at g l = record {
  same : unpulled l.entries ≡ unpulled l.fn.entries;
  tried : (rest : List (ℕ × ℕ)) → met (listed l.clause l.members rest) (door_at l.fn.entries l.object).waiting ≡ met (listed l.clause (drop l.at l.members) rest) (door_at l.fn.entries l.object).waiting;
  moves : l.moves ≤ l.fn.moves + l.at;
}
