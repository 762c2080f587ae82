-- Whoever is called where the scope of an object opens next, or an object is a part next, builds an object of its class, by the kind of its frame.
use Rattle.std.specs.Prelude.{◌≡◌, ℕ, true, List, [], ◌∷◌, Some}
use Rattle.uc_tree.specs.Programs.{Program}
use Rattle.uc_machine.specs.Executions.{at_depth, others}
use Rattle.uc_machine.specs.Pieces.{Active}
use Rattle.uc_typing.specs.Typing.{Sig, Table}
use Rattle.uc_place_laws.specs.Opened.{ArePaired}
use Rattle.uc_place_laws.specs.Called.{NextAt}

-- a frame is of the kind of what builds an object of the class that the routine d destroys
abbrev pub BuildsOf : Table → Sig → ℕ → Type 0
BuildsOf t g d = (g.whole ≡ true) × (g.this ≡ (t.routine d).this)

-- one with such a frame was called by the first of these that wait, where the scope of an object opens next for that, or one is a part next
abbrev pub IsCalledBy : Table → Sig → List Active → Type 0
IsCalledBy t g [] = Unit {0}
IsCalledBy t g (b ∷ older) = NextAt (λ d x. BuildsOf t g d) b.control

-- so it is of all these activations, by these kinds
abbrev pub AllCalled : Table → List Sig → List Active → Type 0
AllCalled t kinds [] = Unit {0}
AllCalled t kinds (a ∷ older) = ((g : Sig) → at_depth kinds a.frame ≡ Some g → IsCalledBy t g older) × AllCalled t (others kinds) older

-- constructors are of the class that is destroyed by what they are paired with
abbrev pub AreKinded : Program → Table → Type 0
AreKinded p t = (r d : ℕ) → ArePaired p r d → BuildsOf t (t.routine r) d
