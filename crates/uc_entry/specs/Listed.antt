-- A list with room, as contracts see it.
use Rattle.std.specs.Prelude.{ℕ, List}

pub record Listed (X : Type 0) : Type 0 where
  pub items : List X
  -- how many more items it takes without memory
  pub spare : ℕ
