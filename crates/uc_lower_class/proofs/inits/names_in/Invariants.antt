use Rattle.std.proofs.Common.{◌≡◌, map, take}
use Rattle.uc_tree.specs.Objects.{fields_of}
use Rattle.uc_lower_class.specs.Inits.{names_of}
use Rattle.uc_lower_class.proofs.inits.names_in.Given as goal

abbrev pub invariant-loop-member : goal.invariant-loop-member
invariant-loop-member l = map (λ n. n.now) l.names.items ≡ names_of (fields_of (take l.member-index l.members))
