-- Marks outwards of a variable that is under construction: activations that build it wait for one another, each for a part of the object at hand, up to
-- the one that has declared it.
use Rattle.std.specs.Prelude.{ℕ, List, [], ◌∷◌}
use Rattle.uc_tree.specs.Source.{Built}
use Rattle.uc_machine.specs.Pieces as piece
use Rattle.uc_machine.specs.Pieces.{Value, Todo, Active}
use Rattle.uc_life_laws.specs.Placed.{Placed, placed, stacked}

-- behind elements that are built, before these marks of older activations, outwards of which these are
abbrev pub outer_elements : ℕ → Value → List Todo → List Placed → List Placed → List Placed
outer_elements f this (piece.Within line ∷ (piece.Rest (Built c rest) ∷ todo)) qs ps = ps
outer_elements f this todo qs ps = placed f this todo qs

-- so it is in an activation that waits for a constructor
abbrev pub outer_by : ℕ → Value → List Todo → List Placed → List Placed → List Placed
outer_by f this (piece.DropNow ∷ (piece.Within line ∷ (piece.Rest (Built c rest) ∷ todo))) qs ps = ps
outer_by f this (piece.DropNow ∷ (piece.MoreNow ∷ (piece.FillNow m b d ∷ todo))) qs ps = outer_elements f this todo qs ps
outer_by f this todo qs ps = placed f this todo qs

-- what is built in activations before these older ones
abbrev pub outermost : List Active → List Placed
outermost [] = []
outermost (a ∷ older) = outer_by a.frame a.this a.control (stacked older) (outermost older)
