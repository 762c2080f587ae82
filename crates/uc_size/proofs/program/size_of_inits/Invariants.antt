use Rattle.std.proofs.Common.{drop}
use Rattle.uc_tree.specs.Sizes.{inits_size}
use Rattle.uc_size.proofs.Counting.{Counting}
use Rattle.uc_size.proofs.program.size_of_inits.Given as goal

abbrev pub invariant-loop-init : goal.invariant-loop-init
invariant-loop-init l = Counting l.size (inits_size (drop l.init-index l.inits)) (inits_size l.inits)
