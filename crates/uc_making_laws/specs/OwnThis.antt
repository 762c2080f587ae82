-- Activations of which the object is had: where it is a mutex object, the execution builds or destroys it, so that it is at home in what is its own, or
-- the place where it is at home stands in what those have at hand that waited as the activation was called.
use Rattle.std.specs.Prelude.{◌≡◌, ℕ, ◌⊎◌, List, [], ◌∷◌, drop, Option, Some, slice_get}
use Rattle.uc_tree.specs.Source.{Source, Routine, routine_of}
use Rattle.uc_entry.specs.declared.request.Answer.{Answer}
use Rattle.uc_entry.specs.declared.request.Request.{Request}
use Rattle.uc_entry.specs.declared.request.Request.TheVariants as ask
use Rattle.uc_machine.specs.declared.exec.Exec.{Exec}
use Rattle.uc_machine.specs.declared.exec.Home.{Home}
use Rattle.uc_machine.specs.Executions.{Execution, members_at}
use Rattle.uc_machine.specs.Switches.{new_exec}
use Rattle.uc_machine.specs.Monitors.{this_object}
use Rattle.uc_machine.specs.Pieces as piece
use Rattle.uc_machine.specs.Pieces.{Value, Todo, CallOnNow, CallUnwrittenNow, SetUpNow, SpawnNow, Active, State, Members, Step, Goes, Ticks, Asks, top, below}
use Rattle.uc_machine.specs.Quiet.{quiet, home_at, first_state}
use Rattle.uc_machine.specs.Answering.{answered}
use Rattle.uc_typing.specs.Typing.{Table}
use Rattle.uc_life_laws.specs.Things.{Few, Things}
use Rattle.uc_apart_laws.specs.Clear.{HomeAt}
use Rattle.uc_life_laws.specs.LifeStates.{EnvBy, MembersBy}
use Rattle.uc_life_laws.specs.Knowing.{main_of}
use Rattle.uc_life_laws.specs.Belonging.{Belongs}

module _ (t : Table) (few : Few) where
  -- a mutex object is at home in what is the execution's own, or where what these activations have at hand stands, or they have it itself as one that is
  -- not whole; object 0 is that of the program's main
  abbrev pub HasHome : Exec → List Active → ℕ → Type 0
  HasHome n older o = (o ≡ 0) ⊎
      (Belongs few n (few.home o) ⊎
      ((c : ℕ) × HomeAt t few o (Things t few n older) c))

  -- so it is of an object by its value, where it is a mutex object
  abbrev pub Has : Exec → List Active → Value → Type 0
  Has n older (piece.Number z) = Unit {0}
  Has n older (piece.Place o p) = Unit {0}
  Has n older (piece.Running x) = Unit {0}
  Has n older (piece.Object o) = HasHome n older o
  Has n older piece.Nothing = Unit {0}

  -- of the object of each activation, by those that wait for it
  abbrev pub ThisStack : Exec → List Active → Type 0
  ThisStack n [] = Unit {0}
  ThisStack n (a ∷ older) = Has n older a.this × ThisStack n older

  -- an execution of this name that does not run
  abbrev pub ThisEx : Exec → Execution (List Todo) Value → Type 0
  ThisEx n x = ThisStack n (x.run ∷ x.callers)

  abbrev pub ThisMembers : Home → Option Members → Type 0
  ThisMembers h m = MembersBy ThisEx h m

  pub record ThisState (s : State) : Type 0 where
    pub stack : ThisStack s.env.exec (s.run ∷ s.callers)
    pub env : EnvBy ThisEx s.env

  -- what is spawned has its object
  abbrev pub ThisAsked : Request → Type 0
  ThisAsked (ask.Spawn o) = HasHome (main_of o) [] o
  ThisAsked r = Unit {0}

  abbrev pub ThisStep : Step → Type 0
  ThisStep (Goes s) = ThisState s
  ThisStep (Ticks s) = ThisState s
  ThisStep (Asks r s) = ThisState s × ThisAsked r

  -- what a step is to find: the object of a call is had by the activation that calls and by those that wait for it; that of an execution that is made,
  -- and that of a task that begins, by what that has of others
  abbrev pub CallHas : Source → ℕ → List Todo → State → Type 0
  CallHas source r todo s = (x : Routine) → slice_get source.routines r ≡ Some x →
      Has s.env.exec (record s.run { control = todo; operands = below (drop x.params s.run.operands) } ∷ s.callers) (top (drop x.params s.run.operands))

  abbrev pub CallsAt : Source → List Todo → State → Type 0
  CallsAt source (CallOnNow r ∷ todo) s = CallHas source r todo s
  CallsAt source (CallUnwrittenNow r ∷ todo) s = CallHas source r todo s
  CallsAt source (SetUpNow r ∷ todo) s = (m : Members) → members_at (home_at s.run.this s.env) s.env ≡ Some m →
      Has (new_exec (home_at s.run.this s.env) s.env) [] s.run.this
  CallsAt source (SpawnNow r ∷ todo) s = HasHome (main_of (this_object s)) [] (this_object s)
  CallsAt source todo s = Unit {0}

  abbrev pub Calls : Source → State → Type 0
  Calls source s = CallsAt source s.run.control s

  -- so it is in a state in which activations have their objects
  abbrev pub FindsThis : Source → State → Type 0
  FindsThis source s = ThisState s → Calls source s

-- a task begins so whose object is had by what it has of others; each quiet step keeps it where it finds that, of whatever source, and so does each answer
pub record LawThis : Type 0 where
  pub begins : (t : Table) (few : Few) (source : Source) (r o : ℕ) → HasHome t few (main_of o) [] o →
      ThisState t few (first_state (routine_of source r) o)
  pub steps : (t : Table) (few : Few) (source : Source) (s : State) → ThisState t few s →
      Calls t few source s → ThisStep t few (quiet source s)
  pub told : (t : Table) (few : Few) (source : Source) (given : Answer) (s : State) →
      ThisState t few s → ThisState t few (answered source given s)
