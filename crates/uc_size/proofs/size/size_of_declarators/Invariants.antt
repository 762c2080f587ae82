use Rattle.std.proofs.Common.{drop}
use Rattle.uc_tree.specs.StatementSizes.{declarators_size}
use Rattle.uc_size.proofs.Counting.{Counting}
use Rattle.uc_size.proofs.size.size_of_declarators.Given as goal

abbrev pub invariant-loop-declarator : goal.invariant-loop-declarator
invariant-loop-declarator l = Counting l.size (declarators_size (drop l.declarator-index l.declarators)) (declarators_size l.declarators)
