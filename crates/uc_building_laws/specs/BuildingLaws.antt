-- What a constructor leaves.
use Rattle.std.specs.Prelude.{◌≡◌, ℕ, ◌≤◌, ◌⊎◌, Bool, true, false, List, [], ◌∷◌, drop, length, slice_get, slice_index_or, Some}
use Rattle.uc_tree.specs.Programs.{Program}
use Rattle.uc_tree.specs.Source.{shape_cells, CleanUp, Variable, Routine, Source, Stmts, Scoped, routine_of}
use Rattle.uc_entry.specs.declared.request.Answer.{Answer}
use Rattle.uc_machine.specs.declared.exec.Exec.{Exec}
use Rattle.uc_machine.specs.declared.exec.Owner.TheVariants.{Frame}
use Rattle.uc_machine.specs.Pieces as piece
use Rattle.uc_machine.specs.Pieces.{FieldAt, Value, Todo, Active, LAST_ADDRESS, top, further, nought}
use Rattle.uc_machine.specs.Quiet.{State, quiet, first_state, call_frame}
use Rattle.uc_machine.specs.Answering.{answered}
use Rattle.uc_state_laws.specs.Layout.{Sized}
use Rattle.uc_state_laws.specs.RoomStacks.{StackState}
use Rattle.uc_typing.specs.Typing.{Ty, Obj, Sig, Table, IsParam, CleansAt}
use Rattle.uc_typing.specs.States.{Sound}
use Rattle.uc_life_laws.specs.Things.{Few, IsField, IsUnbound, Known, Holds, LiesBefore}
use Rattle.uc_life_laws.specs.LifeStates.{frame_at, Outwards, OpensBy}
use Rattle.uc_life_laws.specs.Kinds.{GoesOn}
use Rattle.uc_life_laws.specs.Knowing.{ClaimsEnv, StepBy, Finds}
use Rattle.uc_life_laws.specs.Lives.{OutwardsOrMade}
use Rattle.uc_life_laws.specs.LifeRuns.{IsLaidOut}
use Rattle.uc_place_laws.specs.Opened.{OpensNone, BuildsNone, Spans}
use Rattle.uc_place_laws.specs.CalledStates.{StepJoins, StepFollows}
use Rattle.uc_place_laws.specs.OpeningLaws.{CallsAt, PartsAt, TailAt}
use Rattle.uc_place_laws.specs.Sparing.{SparesAt}
use Rattle.uc_building_laws.specs.Building.{InHead}
use Rattle.uc_building_laws.specs.Pairs.{AreKinded}
use Rattle.uc_building_laws.specs.BuildingStates.{Awaits, variable, AtScope, BuildsState, BuildsRest, BuildsStep, Built, BuiltState}

-- an object that is a variable is cleaned up
abbrev pub IsPlain : Table → CleanUp → Type 0
IsPlain t c = (k i : ℕ) × CleansAt t (Obj i) (Variable k) c

-- all cells of frames have addresses
abbrev pub AreAddressed : State → Type 0
AreAddressed s = (d : ℕ) → length (frame_at d s.env.frames) ≤ LAST_ADDRESS

module _ (t : Table) (heads : ℕ → ℕ → Bool) (few : Few) (kinds : List Sig) (source : Source) (s : State) where
  -- the routine r is a constructor of the class i, which is called at the variable k, and binds the fields of which it is told to its parameters and
  -- to fields, each of which holds what is at hand outwards of the scope that is to open
  pub record IsConstructed (r k i : ℕ) (c : CleanUp) (rest : List Todo) : Type 0 where
    pub plain : t.mutex i ≡ false
    pub makes : (q : Routine) → slice_get source.routines r ≡ Some q → (m : ℕ) → IsField t i m →
        heads i m ≡ true → InHead t heads (t.routine r).params i m q.body ⊎ IsUnbound t (t.fields i m)
    pub object : (q : Routine) → slice_get source.routines r ≡ Some q →
        top (drop q.params s.run.operands) ≡ variable s.env.exec s.run.frame k
    pub given : (q : Routine) → slice_get source.routines r ≡ Some q → (j : ℕ) (b : Ty) →
        IsParam (t.routine r).params j b →
        Known t few s.env.exec (AtScope t few kinds s.env.exec s.run.frame s.run.this s.callers c rest) b (slice_index_or (call_frame q s.run.operands) j nought)

  -- where the scope of an object opens next, what is called builds it, or nothing is bound in it
  abbrev pub Constructs : ℕ → List Todo → Type 0
  Constructs r todo =
      Awaits (λ c rest. (k i : ℕ) → CleansAt t (Obj i) (Variable k) c → IsUnbound t (Obj i) ⊎ IsConstructed r k i c rest) todo

  -- and nothing else is called there
  abbrev pub NoScope : List Todo → Type 0
  NoScope todo = Awaits (λ c rest. IsPlain t c → ⊥) todo

  -- what a step is to find: a constructor is called at the variable whose scope opens next
  abbrev pub BuildsAt : List Todo → Type 0
  BuildsAt (piece.CallNow r ∷ todo) = NoScope todo
  BuildsAt (piece.CallOnNow r ∷ todo) = Constructs r todo
  BuildsAt (piece.CallUnwrittenNow r ∷ todo) = Constructs r todo
  BuildsAt (piece.RaiseNow ∷ todo) = NoScope (piece.DropNow ∷ todo)
  BuildsAt todo = Unit {0}

  -- and scopes of objects open behind what has built these, which stands behind their declarations; what is bound leaves those alone that are still to
  -- be built; and all cells of frames have addresses
  pub record Fair (p : Program) : Type 0 where
    pub at : BuildsAt s.run.control
    pub calls : CallsAt p source s.run.control s
    pub parts : PartsAt p source s.run.control s
    pub joins : StepJoins s (quiet source s)
    pub follows : StepFollows p s (quiet source s)
    pub tails : TailAt p s.run.control
    pub spares : SparesAt (Sized p) source s.run.control s
    pub addresses : AreAddressed s

-- so many cells are declared for an object as it has
abbrev pub IsSpanned : Program → Table → Type 0
IsSpanned p t = (d n i : ℕ) → Spans p d n → (t.routine d).this ≡ Some i → shape_cells (t.shape i) ≤ n

-- where one of these waits, in the frame of a depth, for the scope of an object, that lies before a cell
abbrev pub AwaitedBefore : Table → Exec → ℕ → ℕ → List Active → Type 0
AwaitedBefore t n cell f [] = Unit {0}
AwaitedBefore t n cell f (a ∷ older) =
    (a.frame ≡ f → Awaits (λ c rest. (k i : ℕ) → CleansAt t (Obj i) (Variable k) c → LiesBefore t cell (Frame n a.frame) (variable n a.frame k) (Obj i)) a.control) ×
    AwaitedBefore t n cell f older

abbrev pub ClearsAt : Table → List Todo → State → Type 0
ClearsAt t (piece.ClearNow k m ∷ todo) s = AwaitedBefore t s.env.exec k s.run.frame s.callers
ClearsAt t todo s = Unit {0}

-- so it is of each cell that starts anew
abbrev pub Clears : Table → State → Type 0
Clears t s = ClearsAt t s.run.control s

-- of each source, by any kinds: a task begins so whose routine begins neither with a scope of an object that is a variable nor with a statement that builds one; each step keeps it behind which the
-- same execution goes on, and that finds what it is to find, where things lie within their cells and activations that use one frame stay behind one
-- another; and so does each answer
pub record LawSteps : Type 0 where
  pub begins : (t : Table) (heads : ℕ → ℕ → Bool) (few : Few) (kinds : List Sig) (source : Source) (r o : ℕ) →
      OpensNone (routine_of source r).body → BuildsNone (routine_of source r).body →
      BuildsRest t heads few kinds (first_state (routine_of source r) o)
  pub steps : (t : Table) (heads : ℕ → ℕ → Bool) (few : Few) (kinds : List Sig) (source : Source) (p : Program) → IsLaidOut (Sized p) t →
      IsSpanned p t → (s : State) → StackState (Sized p) s → BuildsState t heads few kinds s → GoesOn s.run.control s.run.raised →
      Clears t s → Fair t heads few kinds source s p → BuildsStep t heads few kinds (quiet source s)
  pub told : (t : Table) (heads : ℕ → ℕ → Bool) (few : Few) (kinds : List Sig) (source : Source) (given : Answer) (s : State) →
      BuildsRest t heads few kinds s → BuildsRest t heads few kinds (answered source given s)
  pub goes_on : (t : Table) (heads : ℕ → ℕ → Bool) (few : Few) (kinds : List Sig) (s : State) → BuildsRest t heads few kinds s → BuildsState t heads few kinds s

-- by kinds that go along steps: of a sound source each step keeps it that finds what it is to find, as LawLives says, and this; and where a scope opens,
-- these fields of an object that is a variable hold what is known
pub record LawKept : Type 0 where
  pub steps : (t : Table) (heads : ℕ → ℕ → Bool) (few : Few) (source : Source) (p : Program) → Sound t source → IsLaidOut (Sized p) t →
      IsSpanned p t → AreKinded p t → (s : State) → StackState (Sized p) s → (x : BuiltState t heads few [] s) →
      Finds t few x.0.sigs x.0.run.sig x.0.run.scope s s.run.control x.0.run.own →
      OpensBy t few (OutwardsOrMade x.0.sigs) s → Fair t heads few x.0.sigs source s p →
      StepBy t few (BuiltState t heads few) (ClaimsEnv t few (Built t heads few)) source (quiet source s)
  pub opens : (t : Table) (heads : ℕ → ℕ → Bool) (few : Few) (s : State) (x : BuiltState t heads few [] s) →
      (c : CleanUp) (rest : Stmts) (todo : List Todo) → s.run.control ≡ piece.Rest (Scoped c rest) ∷ todo →
      (k i : ℕ) → CleansAt t (Obj i) (Variable k) c → (m : ℕ) → IsField t i m → heads i m ≡ true →
      Holds t few s.env.exec (OutwardsOrMade x.0.sigs (Outwards t few s.env.exec s.run.frame s.run.this s.callers c todo) s.env.exec s.run.frame s.run.this s.callers) (Frame s.env.exec s.run.frame) (frame_at s.run.frame s.env.frames) (further (FieldAt (t.shape i) m) (variable s.env.exec s.run.frame k)) (t.fields i m)

-- where things lie so and activations that use one frame stay behind one another, all that starts anew lies behind what is being built there
abbrev pub LawClears : Type 0
LawClears = (p : Program) (t : Table) → IsLaidOut (Sized p) t → (s : State) → StackState (Sized p) s → Clears t s
