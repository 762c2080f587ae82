-- The operands of an op as a list of numbers.
use Rattle.std.specs.Prelude.{ℤ, pos, List, [], ◌∷◌}
use Rattle.uc_code.specs.declared.operands.Operands.{Operands}
use Rattle.uc_code.specs.declared.operands.Operands.TheVariants.{Nothing, Constant, One, Two, Three}

abbrev pub numbers_of : Operands → List ℤ
numbers_of Nothing = []
numbers_of (Constant n) = n ∷ []
numbers_of (One n) = pos n ∷ []
numbers_of (Two m n) = pos m ∷ pos n ∷ []
numbers_of (Three l m n) = pos l ∷ pos m ∷ pos n ∷ []
