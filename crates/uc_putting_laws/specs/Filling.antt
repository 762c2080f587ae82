-- An array that is left while it is being filled: behind what destroys the elements that stand, and an unwinding, its scope would open.
use Rattle.std.specs.Prelude.{Bool, true, false, List, ◌∷◌}
use Rattle.uc_tree.specs.Source.{DestroysAll, Stmts, Scoped, Built}
use Rattle.uc_machine.specs.Pieces.{Todo, Rest, Within, Unwind}

-- the scope of an array opens next in what is left of a block, or it is a part from then on
abbrev pub opens_all : Stmts → Bool
opens_all (Scoped (DestroysAll n e) ss) = true
opens_all (Built (DestroysAll n e) ss) = true
opens_all ss = false

abbrev pub fills : List Todo → Bool
fills (Unwind ∷ todo) = fills todo
fills (Within line ∷ (Rest ss ∷ todo)) = opens_all ss
fills todo = false

abbrev pub is_filling : List Todo → Bool
is_filling (Unwind ∷ todo) = fills todo
is_filling todo = false
