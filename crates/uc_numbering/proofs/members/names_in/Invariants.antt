use Rattle.std.proofs.Common.{◌≡◌, ◌≤◌, [], drop, take, map, length}
use Rattle.uc_tree.specs.declared.limits.TheConstants.{MEMBERS}
use Rattle.uc_tree.specs.Numbering.{exclusive_names}
use Rattle.uc_numbering.proofs.members.names_in.Given as goal

abbrev pub invariant-loop-member : goal.invariant-loop-member
invariant-loop-member l = (length (map (λ n. n.now) l.names.items) ≤ MEMBERS) × (take MEMBERS (exclusive_names (map (λ n. n.now) l.names.items) (drop l.member-index l.member-items)) ≡ take MEMBERS (exclusive_names [] l.member-items))
