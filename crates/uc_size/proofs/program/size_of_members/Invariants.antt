use Rattle.std.proofs.Common.{drop}
use Rattle.uc_tree.specs.Sizes.{members_size}
use Rattle.uc_size.proofs.Counting.{Counting}
use Rattle.uc_size.proofs.program.size_of_members.Given as goal

abbrev pub invariant-loop-member : goal.invariant-loop-member
invariant-loop-member l = Counting l.size (members_size (drop l.member-index l.members)) (members_size l.members)
