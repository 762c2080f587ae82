-- In programs that break no rule objects are built where they lie aside of the variables that are still to be bound, and so does what
-- constructors bind.
use Rattle.std.specs.Prelude.{◌≡◌, ℕ, Bool, true, false, List, [], ◌∷◌, drop, Option, Some, None, slice_get}
use Rattle.uc_tree.specs.declared.kinds.Role.{Role}
use Rattle.uc_tree.specs.declared.kinds.Role.TheVariants as role
use Rattle.uc_tree.specs.Programs.{Program}
use Rattle.uc_tree.specs.Source.{Source, routine_of}
use Rattle.uc_entry.specs.declared.request.Answer.{Answer}
use Rattle.uc_machine.specs.Quiet.{State, quiet, first_state}
use Rattle.uc_machine.specs.Pieces.{Todo, BindNow, BindMadeNow, SetUpNow, top, below}
use Rattle.uc_machine.specs.Answering.{answered}
use Rattle.uc_answer_laws.specs.Suiting.{Form, IsForm}
use Rattle.uc_resolve.specs.Resolve.{source_of}
use Rattle.uc_rules.specs.Breaks.{breaks_of}
use Rattle.uc_state_laws.specs.Layout.{Sized}
use Rattle.uc_state_laws.specs.RoomStacks.{StackState}
use Rattle.uc_sound.specs.SoundFormed.{IsFormed}
use Rattle.uc_state_laws.specs.Makers.{roles}
use Rattle.uc_state_laws.specs.ThereStates.{IsAside}
use Rattle.uc_state_laws.specs.Counted.{params, CountedSource}
use Rattle.uc_place_laws.specs.OlderResting.{AllWait, NamedEnv}
use Rattle.uc_place_laws.specs.Siting.{SitedSource}
use Rattle.uc_place_laws.specs.Asides.{FindsFor, Runs, Waits, AsideState, AsideStep}

-- whether a routine of a role may bind fields of the object at hand: a constructor
abbrev pub is_maker : Option Role → Bool
is_maker None = false
is_maker (Some role.Plain) = false
is_maker (Some role.Constructor) = true
is_maker (Some role.Destructor) = false

-- whether the routine of a number of a program is one
abbrev pub makes_of : Program → ℕ → Bool
makes_of p r = is_maker (slice_get (roles p) r)

-- in the source of every program that breaks no rule objects are built where they may be
abbrev pub LawSited : Type 0
LawSited = (p : Program) → IsFormed p → breaks_of p ≡ [] → SitedSource (makes_of p) (source_of p)

-- of any source in which arguments are counted and objects are built so: what is known of operands holds as a task begins, each step of a task
-- whose activations stay behind one another in their frames keeps it, and each answer of the form that was asked for
pub record LawSteps : Type 0 where
  pub begins : (p : Program) (makes : ℕ → Bool) (source : Source) → CountedSource source → SitedSource makes source →
      (r o : ℕ) → AsideState (Sized p) makes source (first_state (routine_of source r) o)
  pub steps : (p : Program) (makes : ℕ → Bool) (source : Source) → CountedSource source →
      SitedSource makes source → (s : State) → AsideState (Sized p) makes source s → StackState (Sized p) s →
      AsideStep (Sized p) makes source (quiet source s)
  pub told : (p : Program) (makes : ℕ → Bool) (source : Source) (form : Form) (given : Answer) (s : State) →
      IsForm form given → FindsFor (Sized p) makes source form s.env.exec s.callers s.run →
      AllWait (Runs (Sized p) makes source) (Waits (Sized p) makes source) s.env.exec s.callers →
      NamedEnv (Runs (Sized p) makes source) (Waits (Sized p) makes source) s.env →
      AsideState (Sized p) makes source (answered source given s)

-- what is bound lies aside of what is still to be bound, also to what is new; so does the object at hand that gets an execution
abbrev pub PutsAt : Source → List Todo → State → Type 0
PutsAt source (BindNow ∷ todo) s = IsAside (top (below s.run.operands)) todo s
PutsAt source (BindMadeNow c r ∷ todo) s =
    IsAside (top (drop (params source r) (below s.run.operands))) todo s
PutsAt source (SetUpNow r ∷ todo) s = IsAside s.run.this todo s
PutsAt source todo s = Unit {0}

abbrev pub Puts : Source → State → Type 0
Puts source s = PutsAt source s.run.control s

abbrev pub LawPuts : Type 0
LawPuts = (p : Program) (makes : ℕ → Bool) (source : Source) (s : State) → AsideState (Sized p) makes source s → Puts source s
