-- To-do lists at which an activation only comes to its end: nothing in them takes operands, but an exit that hands over a number.
use Rattle.std.specs.Prelude.{Bool, true, false, List, [], ◌∷◌}
use Rattle.uc_machine.specs.Pieces.{Todo, Within, Exit, NoReturnNow, Unwind, ChildNow, Finish, FinishCoroutine}

abbrev pub is_silent : Todo → Bool
is_silent (Within line) = true
is_silent (Exit w) = true
is_silent NoReturnNow = true
is_silent Unwind = true
is_silent (ChildNow r) = true
is_silent Finish = true
is_silent FinishCoroutine = true
is_silent p = false

abbrev pub IfSilent : Bool → Type 0 → Type 0
IfSilent true rest = rest
IfSilent false rest = ⊥

abbrev pub AllSilent : List Todo → Type 0
AllSilent [] = Unit {0}
AllSilent (p ∷ todo) = IfSilent (is_silent p) (AllSilent todo)
