-- The order of the levels of operators.
use Rattle.std.specs.Prelude.{ℕ, Option, Some, None}
use Rattle.uc_grammar.specs.declared.level.Level.{Level}
use Rattle.uc_grammar.specs.declared.level.Level.TheVariants as level

-- the level whose chains are the operands of this one
abbrev pub tighter_of : Level → Option Level
tighter_of level.Product = None
tighter_of level.Sum = Some level.Product
tighter_of level.Comparison = Some level.Sum
tighter_of level.Equality = Some level.Comparison
tighter_of level.And = Some level.Equality
tighter_of level.Or = Some level.And

-- how many levels are tighter
abbrev pub rank : Level → ℕ
rank level.Product = 0
rank level.Sum = 1
rank level.Comparison = 2
rank level.Equality = 3
rank level.And = 4
rank level.Or = 5
