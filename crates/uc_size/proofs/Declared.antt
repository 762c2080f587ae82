-- Declarators count at least one each.
use Rattle.std.proofs.Common.{◌≤◌, List, [], ◌∷◌, length, arith}
use Rattle.uc_tree.specs.Statements.{Declarator}
use Rattle.uc_tree.specs.StatementSizes.{declarators_size}

pub declarators_count : (ds : List Declarator) → length ds ≤ declarators_size ds
declarators_count [] = omega arith
declarators_count (d ∷ ds) = omega (arith, declarators_count ds)
