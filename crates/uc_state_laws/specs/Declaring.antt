-- A task on its way from the declaration of a variable that is a cluster, a processor or a mutex object, or an array of such, to the statement
-- that binds it: its cells start anew, and nothing lies between.
use Rattle.std.specs.Prelude.{◌≡◌, ℕ, suc, ◌+◌, ◌<◌, ◌≤◌, List, [], ◌∷◌, length, None, slice_index_or, Bool}
use Rattle.uc_tree.specs.Source.{Variable, OfObject, Bind, MakeOn, NewCluster, NewProcessor, Declared, Stmt, Stmts, Evaluate, Declare, Fill, Then}
use Rattle.uc_state_laws.specs.Clusters.{FillsArray}
use Rattle.uc_machine.specs.Pieces.{Value, Number, nought, Todo, ClearNow, Variables, Do, Rest, Within, State}
use Rattle.uc_state_laws.specs.There.{AllCounted, frame_at}
use Rattle.uc_state_laws.specs.ThereStates.{CountedStack, CountedEnv}

-- how far it is: the declaration of its line is to be done, its cells are to be cleared, and the statement that binds it comes
pub data Point : Type 0 where
  Declares : ℕ → Declared → Point
  Lists : ℕ → Declared → Point
  Clears : ℕ → Declared → Point
  Cleared : ℕ → Point
  Passes : ℕ → Point
  Reaches : Point

-- what is to do then: before the statement that binds the variable, and before what is behind that
abbrev pub point_todo : Point → Stmt → Stmts → List Todo → List Todo
point_todo (Declares m d) a ss todo = Do (Declare m (d ∷ [])) ∷ (Rest (Then a ss) ∷ todo)
point_todo (Lists m d) a ss todo = Variables (d ∷ []) ∷ (Within m ∷ (Rest (Then a ss) ∷ todo))
point_todo (Clears m d) a ss todo = ClearNow d.cell d.cells ∷ (Variables [] ∷ (Within m ∷ (Rest (Then a ss) ∷ todo)))
point_todo (Cleared m) a ss todo = Variables [] ∷ (Within m ∷ (Rest (Then a ss) ∷ todo))
point_todo (Passes m) a ss todo = Within m ∷ (Rest (Then a ss) ∷ todo)
point_todo Reaches a ss todo = Rest (Then a ss) ∷ todo

-- the variable at a cell is bound to a new cluster, a new processor or a new mutex object, or so many elements of it are
abbrev pub BindsAt : (cell count : ℕ) → Stmt → Type 0
BindsAt k n (Evaluate line (OfObject (Bind (Variable m) (OfObject NewCluster)))) = (m ≡ k) × (n ≡ 1)
BindsAt k n (Evaluate line (OfObject (Bind (Variable m) (OfObject (NewProcessor e))))) = (m ≡ k) × (n ≡ 1)
BindsAt k n (Evaluate line (OfObject (MakeOn c r written (Variable m) args))) = (m ≡ k) × (n ≡ 1)
BindsAt k n (Fill line m b d) = FillsArray k n (Fill line m b d)
BindsAt k n a = ⊥

-- a declaration of that variable, without a value
abbrev pub IsOwn : (cell count : ℕ) → Declared → Type 0
IsOwn k n d = (d.cell ≡ k) × (d.value ≡ None) × (n ≤ d.cells)

-- a cell holds a number, so it may be bound; so many cells do
abbrev pub IsCount : Value → Type 0
IsCount (Number n) = Unit {0}
IsCount v = ⊥

abbrev pub IsUnset : ℕ → State → Type 0
IsUnset k s = IsCount (slice_index_or (frame_at s.run.frame s.env.frames) k nought)

abbrev pub AreUnset : (cell count : ℕ) → State → Type 0
AreUnset k n s = (j : ℕ) → j < n → IsUnset (k + j) s

-- what holds then
abbrev pub PointHolds : Point → (cell count : ℕ) → State → Type 0
PointHolds (Declares m d) k n s = IsOwn k n d
PointHolds (Lists m d) k n s = IsOwn k n d
PointHolds (Clears m d) k n s = IsOwn k n d
PointHolds p k n s = AreUnset k n s

-- a task on that way; all else is there as it is to be
pub record DeclaringBy (Few : ℕ → Bool) (s : State) : Type 0 where
  pub cell : ℕ
  pub count : ℕ
  pub binder : Stmt
  pub next : Stmts
  pub todo : List Todo
  pub point : Point
  pub control : s.run.control ≡ point_todo point binder next todo
  pub binds : BindsAt cell count binder
  pub holds : PointHolds point cell count s
  pub frames : length s.env.frames ≡ suc (length s.callers)
  pub frame : s.run.frame ≤ length s.callers
  pub behind : AllCounted Few (frame_at s.run.frame s.env.frames) todo
  pub callers : CountedStack Few s.env.frames s.callers
  pub env : CountedEnv Few s.env
