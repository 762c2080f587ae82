-- Tasks in which elements of arrays of mutex objects that are variables are not gone, where they are still to be destroyed as the scope of the array is left: a
-- telling of objects, and what a step is to find.
use Rattle.std.specs.Prelude.{◌≡◌, ℕ, suc, ◌≤◌, ◌<◌, ◌⊎◌, Bool, true, false, List, [], ◌∷◌, length, Option, Some, None, slice_index_or}
use Rattle.uc_tree.specs.Source.{Shape, Expr, Variable, Element, Load, OfObject, Counted, EndOn, CleanUp, DestroysAll, Source, routine_of}
use Rattle.uc_entry.specs.declared.request.Answer.{Answer}
use Rattle.uc_machine.specs.declared.exec.Exec.{Exec}
use Rattle.uc_machine.specs.declared.exec.Home.{Home}
use Rattle.uc_machine.specs.declared.exec.Owner.TheVariants.{Frame}
use Rattle.uc_machine.specs.Executions.{Execution}
use Rattle.uc_machine.specs.Pieces as piece
use Rattle.uc_machine.specs.Pieces.{Slot, At, Value, Place, Object, Todo, Active, State, Members, Step, Goes, Ticks, Asks, address, nought, at, top, below}
use Rattle.uc_machine.specs.Quiet.{quiet, first_state}
use Rattle.uc_machine.specs.Answering.{answered}
use Rattle.uc_life_laws.specs.LifeStates.{frame_at, MembersBy, EnvBy}
use Rattle.uc_putting_laws.specs.Filling.{is_filling}
use Rattle.uc_parts_laws.specs.Parts.{IsFree}

-- what is told of objects: where each is at home, and whether it is gone
pub record Going : Type 0 where
  pub home : ℕ → Value
  pub gone : ℕ → Bool

-- an object is not gone
abbrev pub IsLasting : Going → Value → Type 0
IsLasting told v = (o : ℕ) → v ≡ Object o → told.gone o ≡ false

-- where a value is the object that is at home at a place, that is not gone
abbrev pub IsStill : Going → Value → Value → Type 0
IsStill told place v = (o : ℕ) → v ≡ Object o → told.home o ≡ place → told.gone o ≡ false

-- the array of mutex objects, a variable, an element of which an expression ends, and how many it has
abbrev pub array_of : Expr → Option (Shape × ℕ × ℕ)
array_of (OfObject (EndOn r written (Load (Element m s (Variable k) (OfObject Counted))))) = Some (s, k, m)
array_of e = None

-- what is asked but in one case
abbrev pub Unless : Bool → Type 0 → Type 0
Unless true A = Unit {0}
Unless false A = A

-- a cell of a frame is that of no element of an array that is being destroyed
abbrev pub NotIn : ℕ → Option (Shape × ℕ × ℕ) → Type 0
NotIn x None = Unit {0}
NotIn x (Some a) = (j : ℕ) → j < a.2 → address (At a.0 j ∷ (Slot a.1 ∷ [])) ≡ x → ⊥

abbrev pub Aside : ℕ → List Todo → Type 0
Aside x [] = Unit {0}
Aside x (piece.Sweep e ∷ todo) = NotIn x (array_of e) × Aside x todo
Aside x (p ∷ todo) = Aside x todo

-- so it is of the frame of this depth, of these activations
abbrev pub AllAside : ℕ → ℕ → List Active → Type 0
AllAside d x [] = Unit {0}
AllAside d x (a ∷ older) = (a.frame ≡ d → Aside x a.control) × AllAside d x older

-- what is written there is so: a place in a frame of the running execution, or in no frame
abbrev pub IsAside : State → Value → Type 0
IsAside s (Place (Frame n d) p) = (n ≡ s.env.exec) × AllAside d (address p) (s.run ∷ s.callers)
IsAside s v = Unit {0}

module _ (told : Going) (n : Exec) (vs : List Value) (f : ℕ) where
  -- in the frame of a depth with these values: of an element
  abbrev pub ElementStill : Shape → ℕ → ℕ → Type 0
  ElementStill s k j = IsStill told (Place (Frame n f) (At s j ∷ (Slot k ∷ []))) (slice_index_or vs (address (At s j ∷ (Slot k ∷ []))) nought)

  -- of the first elements, of so many
  abbrev pub AllStill : ℕ → Option (Shape × ℕ × ℕ) → Type 0
  AllStill count None = Unit {0}
  AllStill count (Some a) = (j : ℕ) → j < count → j < a.2 → ElementStill a.0 a.1 j

  -- so it is of the array that is being destroyed, while so many elements stand, but where it is left while it is being filled; and elements are counted by what
  -- comes first alone
  abbrev pub Standing : ℕ → List Todo → Type 0
  Standing count [] = Unit {0}
  Standing count (piece.CountNow m ∷ todo) = ⊥
  Standing count (piece.Sweep e ∷ todo) = Unless (is_filling todo) (AllStill count (array_of e)) × Standing count todo
  Standing count (p ∷ todo) = Standing count todo

  abbrev pub StandingFirst : ℕ → List Todo → Type 0
  StandingFirst count (piece.CountNow m ∷ todo) = Standing m todo
  StandingFirst count todo = Standing count todo

-- activations with these frames: each uses its own frame or that of an older one
abbrev pub StandingStack : Going → Exec → List (List Value) → List Active → Type 0
StandingStack told n fs [] = Unit {0}
StandingStack told n fs (a ∷ older) = (a.frame ≤ length older) ×
    Standing told n (frame_at a.frame fs) a.frame a.elements a.control × StandingStack told n fs older

-- with the one that runs before them
abbrev pub StandingFrom : Going → Exec → List (List Value) → Active → List Active → Type 0
StandingFrom told n fs a older = (a.frame ≤ length older) ×
    StandingFirst told n (frame_at a.frame fs) a.frame a.elements a.control × StandingStack told n fs older

module _ (told : Going) where
  -- an execution of this name that does not run, with a frame for each activation
  pub record StandingEx (n : Exec) (x : Execution (List Todo) Value) : Type 0 where
    pub frames : length x.frames ≡ suc (length x.callers)
    pub stack : StandingFrom told n x.frames x.run x.callers

  abbrev pub StandingMembers : Home → Option Members → Type 0
  StandingMembers h m = MembersBy StandingEx h m

  pub record StandingState (s : State) : Type 0 where
    pub frames : length s.env.frames ≡ suc (length s.callers)
    pub stack : StandingFrom told s.env.exec s.env.frames s.run s.callers
    pub env : EnvBy StandingEx s.env

  abbrev pub StandingStep : Step → Type 0
  StandingStep (Goes s) = StandingState s
  StandingStep (Ticks s) = StandingState s
  StandingStep (Asks r s) = StandingState s

  -- where the clean-up of an array is done, no element of that is gone, and no other array is being built or destroyed
  abbrev pub CleansStill : CleanUp → List Todo → State → Type 0
  CleansStill (DestroysAll m e) todo s = AllStill told s.env.exec (frame_at s.run.frame s.env.frames) s.run.frame m (array_of e) × IsFree todo
  CleansStill c todo s = Unit {0}

  -- what a step is to find: that; that what is bound is not gone, or is bound aside of such elements; and where an array is left while it is being filled its scope is to open behind it, and no other
  -- one is being built or destroyed as one more element stands
  abbrev pub FindsStandingAt : List Todo → State → Type 0
  FindsStandingAt (piece.Clean c ∷ todo) s = CleansStill c todo s
  FindsStandingAt (piece.Unwind ∷ (piece.Clean c ∷ todo)) s = CleansStill c todo s
  FindsStandingAt (piece.Unwind ∷ (piece.Part c ∷ todo)) s = CleansStill c todo s
  FindsStandingAt (piece.Unwind ∷ (piece.FillNow m b d ∷ todo)) s = is_filling (piece.Unwind ∷ todo) ≡ true
  FindsStandingAt (piece.MoreNow ∷ (piece.FillNow m b d ∷ todo)) s = IsFree todo
  FindsStandingAt (piece.MoreNow ∷ todo) s = IsFree todo
  FindsStandingAt (piece.BindNow ∷ todo) s = IsLasting told (top s.run.operands) ⊎ IsAside (at todo s.run.operands s) (top (below s.run.operands))
  FindsStandingAt (piece.BindMadeNow c r ∷ todo) s = IsLasting told (top s.run.operands)
  FindsStandingAt todo s = Unit {0}

  abbrev pub FindsStanding : State → Type 0
  FindsStanding s = FindsStandingAt s.run.control s

-- of whatever source, and whatever is told: so it is of a task as it begins, each quiet step keeps it where it finds that, and so does each answer
pub record LawStanding : Type 0 where
  pub begins : (told : Going) (source : Source) (r o : ℕ) → StandingState told (first_state (routine_of source r) o)
  pub steps : (told : Going) (source : Source) (s : State) → StandingState told s → FindsStanding told s → StandingStep told (quiet source s)
  pub told : (told : Going) (source : Source) (given : Answer) (s : State) → StandingState told s → StandingState told (answered source given s)
