-- On the way from the clean-up of a mutex object to where that is read: nothing changes but what is to do and operands.
use Rattle.std.specs.Prelude.{◌≡◌, ℕ, suc, pos, ◌<◌, ◌⊎◌, Bool, true, List, [], ◌∷◌, Some}
use Rattle.uc_tree.specs.declared.limits.TheConstants.{DESTRUCTOR}
use Rattle.uc_tree.specs.Source.{Binding, Expr, Load, OfObject, EndOn, Counted}
use Rattle.uc_entry.specs.declared.request.Request.{Request}
use Rattle.uc_entry.specs.declared.request.Request.TheVariants as ask
use Rattle.uc_machine.specs.declared.exec.Exec.{Exec}
use Rattle.uc_machine.specs.Pieces.{Value, Number, At, Todo, Eval, LoadNow, ElementNow, DropNow, TickNow, EnterNow, Clean, Part, Sweep, Unwind, State, Step, Goes, Ticks, Asks, further, top, below}
use Rattle.uc_site_laws.specs.Resting.{AllWait, RestsEnv}
use Rattle.uc_typing.specs.Typing.{Table}
use Rattle.uc_state_laws.specs.Endings.{OnObject, behind_end}
use Rattle.uc_life_laws.specs.Ending.{naming, place_at, ends_at}
use Rattle.uc_homed_ends.specs.EndCode.{EndSite, AtSpot, AtElement, named}
use Rattle.uc_homed_ends.specs.EndLists.{FreeList, FreeActive, FreeState}

-- what is to do next: the end of it, to load what it is bound to, to find that place, for an element first that of its array, then how many stand, then
-- the element; to read what is there
pub data Stage : Type 0 where
  Ends : Stage
  Loads : Stage
  Finds : Stage
  Arrays : Stage
  Counts : Stage
  Picks : Stage
  Reads : Stage

-- behind what has read it
abbrev pub entering : ℕ → Bool → List Todo → List Todo
entering r written todo = behind_end (OnObject r written) todo

abbrev pub todo_at : Stage → EndSite → ℕ → Bool → List Todo → List Todo
todo_at Ends x r written todo = Eval (OfObject (EndOn r written (Load (named x)))) ∷ todo
todo_at Loads x r written todo = Eval (Load (named x)) ∷ entering r written todo
todo_at Finds x r written todo = Eval (named x) ∷ (LoadNow ∷ entering r written todo)
todo_at Arrays (AtElement n p) r written todo =
    Eval (naming p) ∷ (Eval (OfObject Counted) ∷ (ElementNow n Binding ∷ (LoadNow ∷ entering r written todo)))
todo_at Counts (AtElement n p) r written todo =
    Eval (OfObject Counted) ∷ (ElementNow n Binding ∷ (LoadNow ∷ entering r written todo))
todo_at Picks (AtElement n p) r written todo = ElementNow n Binding ∷ (LoadNow ∷ entering r written todo)
todo_at k x r written todo = LoadNow ∷ entering r written todo

-- the place is found: of an element, that of its array first; it is the last one that stood, so as many stand now as are before it, and the array has more
abbrev pub Found : Stage → EndSite → State → Type 0
Found Ends x s = Unit {0}
Found Loads x s = Unit {0}
Found Finds x s = Unit {0}
Found Arrays (AtSpot p) s = ⊥
Found Arrays (AtElement n p) s = Unit {0}
Found Counts (AtSpot p) s = ⊥
Found Counts (AtElement n p) s = top s.run.operands ≡ place_at p s
Found Picks (AtSpot p) s = ⊥
Found Picks (AtElement n p) s = (top s.run.operands ≡ Number (pos s.run.elements)) ×
    (top (below s.run.operands) ≡ place_at p s)
Found Reads (AtSpot p) s = top s.run.operands ≡ place_at p s
Found Reads (AtElement n p) s = (top s.run.operands ≡ further (At Binding s.run.elements) (place_at p s)) × (s.run.elements < n)

-- the scope of what is at a site is left, or it is a part of the object at hand and that is left, or it is the last element that stands of an array
abbrev pub Leaves : EndSite → ℕ → Bool → List Todo → Type 0
Leaves (AtSpot p) r written control = (todo : List Todo) ×
    ((control ≡ Clean (ends_at p r written) ∷ todo) ⊎
    ((control ≡ Unwind ∷ (Clean (ends_at p r written) ∷ todo)) ⊎ (control ≡ Unwind ∷ (Part (ends_at p r written) ∷ todo))))
Leaves (AtElement n p) r written control = (todo : List Todo) ×
    (control ≡ Sweep (OfObject (EndOn r written (Load (named (AtElement n p))))) ∷ todo)

-- behind what sweeps it that goes on
abbrev pub Behind : EndSite → List Todo → List Todo → Type 0
Behind (AtSpot p) todo control = Unit {0}
Behind (AtElement n p) todo control = (x : Expr) × (l : List Todo) × (control ≡ Sweep x ∷ l) × (todo ≡ DropNow ∷ (Sweep x ∷ l))

-- of an array one element stands no more
abbrev pub OneLess : EndSite → ℕ → ℕ → Type 0
OneLess (AtSpot p) m n = Unit {0}
OneLess (AtElement k p) m n = m ≡ suc n

module _ (t : Table) (P : State → Type 0) where
  -- who is on the way was at such a clean-up before, in a state of which this held, with the same memory
  pub record Way (s : State) : Type 0 where
    pub stage : Stage
    pub site : EndSite
    pub routine : ℕ
    pub written : Bool
    pub class : ℕ
    pub todo : List Todo
    pub control : s.run.control ≡ todo_at stage site routine written todo
    pub free : FreeList t todo
    pub found : Found stage site s
    pub this : (t.routine routine).this ≡ Some class
    pub whole : (t.routine routine).whole ≡ true
    pub mutex : t.mutex class ≡ true
    pub params : [] ≡ (t.routine routine).params
    pub start : State
    pub leaves : Leaves site routine written start.run.control
    pub behind : Behind site todo start.run.control
    pub held : P start
    pub elements : OneLess site start.run.elements s.run.elements
    pub env : s.env ≡ start.env
    pub frame : s.run.frame ≡ start.run.frame
    pub object : s.run.this ≡ start.run.this
    pub callers : s.callers ≡ start.callers

-- who has loaded what it ends enters that next, behind a tick where somebody wrote the destructor; so much is told then of who does it, of what is to do behind that,
-- and of what is entered
module _ (t : Table) (Q : Exec → List Todo → Value → Type 0) where
  pub record Enters (s : State) : Type 0 where
    pub routine : ℕ
    pub todo : List Todo
    pub control : (s.run.control ≡ EnterNow DESTRUCTOR routine ∷ todo) ⊎
        (s.run.control ≡ TickNow ∷ (EnterNow DESTRUCTOR routine ∷ todo))
    pub free : FreeList t todo
    pub params : [] ≡ (t.routine routine).params
    pub told : Q s.env.exec todo (top s.run.operands)

  -- a task at rest, of which the running activation may stand there
  pub record RestState (s : State) : Type 0 where
    pub run : FreeActive t s.run ⊎ Enters s
    pub callers : AllWait (FreeActive t) (FreeActive t) s.callers
    pub env : RestsEnv (FreeActive t) (FreeActive t) s.env

  -- behind a request it stands there where it was cut off alone
  abbrev pub RestBy : Request → State → Type 0
  RestBy ask.Slice s = RestState s
  RestBy (ask.Fault m) s = RestsEnv (FreeActive t) (FreeActive t) s.env
  RestBy r s = FreeState t s

module _ (t : Table) (P : State → Type 0) (Q : Exec → List Todo → Value → Type 0) where
  -- who runs stands there, is on such a way, or on none
  pub record NowBy (s : State) : Type 0 where
    pub run : (FreeActive t s.run ⊎ Enters t Q s) ⊎ Way t P s
    pub callers : AllWait (FreeActive t) (FreeActive t) s.callers
    pub env : RestsEnv (FreeActive t) (FreeActive t) s.env

  abbrev pub NowStep : Step → Type 0
  NowStep (Goes s) = NowBy s
  NowStep (Ticks s) = RestState t Q s
  NowStep (Asks (ask.Fault m) s) = RestsEnv (FreeActive t) (FreeActive t) s.env
  NowStep (Asks r s) = FreeState t s

-- so it is, whatever is told of what is loaded
abbrev pub nothing_told : Exec → List Todo → Value → Type 0
nothing_told n l v = Unit {0}

abbrev pub NowState : Table → (State → Type 0) → State → Type 0
NowState t P s = NowBy t P nothing_told s
