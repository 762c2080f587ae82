use Rattle.std.proofs.Common.{◌≡◌, ◌+◌, drop, map}
use Rattle.uc_tree.specs.Numbering.{place_from}
use Rattle.uc_numbering.proofs.members.number_in.Given as goal

abbrev pub invariant-loop-listed : goal.invariant-loop-listed
invariant-loop-listed l = (l.number ≡ l.listed-index + 1) × (place_from l.number (map (λ n. n.now) (drop l.listed-index l.names)) l.name ≡ place_from 1 (map (λ n. n.now) l.names) l.name)
