-- Constructors of objects that are variables, and no mutex objects, which are still to be called.
use Rattle.std.specs.Prelude.{ℕ, ◌+◌, ◌≤◌, min, List, [], ◌∷◌}
use Rattle.uc_machine.specs.Pieces.{Todo, LAST_ADDRESS, Eval, Do, CallOnNow, CallUnwrittenNow}
use Rattle.uc_place_laws.specs.OpeningLaws.{Awaited, AwaitedRest}

-- of each object whose scope is to open behind what builds it, the call of its constructor, an expression or a statement, anywhere in what is to
-- do: of what destroys it, and of its variable
abbrev pub Calling : (ℕ → ℕ → Type 0) → List Todo → Type 0
Calling P [] = Unit {0}
Calling P (Eval e ∷ todo) = Awaited P todo × Calling P todo
Calling P (Do a ∷ todo) = AwaitedRest P todo × Calling P todo
Calling P (CallOnNow r ∷ todo) = Awaited P todo × Calling P todo
Calling P (CallUnwrittenNow r ∷ todo) = Awaited P todo × Calling P todo
Calling P (p ∷ todo) = Calling P todo

-- there is none
abbrev pub NoneCalled : List Todo → Type 0
NoneCalled todo = Calling (λ d k. ⊥) todo

-- there is none behind a call that is next
abbrev pub NoneBehind : List Todo → Type 0
NoneBehind (CallOnNow r ∷ todo) = NoneCalled todo
NoneBehind (CallUnwrittenNow r ∷ todo) = NoneCalled todo
NoneBehind todo = ⊥

-- what the routine d destroys at the variable k ends before a cell; all cells from the last address on are told by that
abbrev pub EndsBefore : (ℕ → ℕ → Type 0) → ℕ → ℕ → ℕ → Type 0
EndsBefore Z cell d k = (n : ℕ) × Z d n × (min (k + n) LAST_ADDRESS ≤ cell)
