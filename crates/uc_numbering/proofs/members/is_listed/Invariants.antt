use Rattle.std.proofs.Common.{◌≡◌, drop, map}
use Rattle.std.specs.List.{list_any}
use Rattle.uc_tree.specs.Names.{same_name}
use Rattle.uc_numbering.proofs.members.is_listed.Given as goal

abbrev pub invariant-loop-listed : goal.invariant-loop-listed
invariant-loop-listed l = list_any (λ n. same_name n l.name) (map (λ n. n.now) (drop l.listed-index l.names)) ≡ list_any (λ n. same_name n l.name) (map (λ n. n.now) l.names)
