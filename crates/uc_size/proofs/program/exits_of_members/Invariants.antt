use Rattle.std.proofs.Common.{◌≡◌, ◌<◌, ◌+◌, ◌^◌, drop}
use Rattle.uc_tree.specs.Capped.{capped}
use Rattle.uc_tree.specs.Sizes.{members_size, members_exits}
use Rattle.uc_size.proofs.Counting.{Within}
use Rattle.uc_size.proofs.program.exits_of_members.Given as goal

abbrev pub invariant-loop-member : goal.invariant-loop-member
invariant-loop-member l = Within 0 (members_size (drop l.member-index l.members)) (members_size l.members) × (l.size < 2 ^ 64) × (capped (l.size + members_exits (drop l.member-index l.members)) ≡ capped (members_exits l.members))
