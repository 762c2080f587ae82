-- What is bound: a place that the statement has named, behind all that is in scope. So it is in any source in which arguments are counted, as
-- long as its tasks keep to their rooms.
use Rattle.std.specs.Prelude.{◌≡◌, ℕ, ◌⊎◌, List, ◌∷◌, drop, slice_get}
use Rattle.uc_tree.specs.Programs.{Program}
use Rattle.uc_tree.specs.Source.{Expr, Source, routine_of}
use Rattle.uc_entry.specs.declared.request.Answer.{Answer}
use Rattle.uc_machine.specs.Executions.{others}
use Rattle.uc_machine.specs.Pieces.{Value, Todo, BindNow, BindMadeNow, this_frame, top, below}
use Rattle.uc_machine.specs.Quiet.{State, quiet, first_state}
use Rattle.uc_machine.specs.Answering.{answered}
use Rattle.uc_answer_laws.specs.Suiting.{Form, IsForm}
use Rattle.uc_state_laws.specs.Ordinary.{IsOwn}
use Rattle.uc_state_laws.specs.RoomStates.{SomeRoom}
use Rattle.uc_state_laws.specs.Opening.{OpenRoutine}
use Rattle.uc_state_laws.specs.Layout.{Sized}
use Rattle.uc_state_laws.specs.Counted.{params, CountedSource}
use Rattle.uc_place_laws.specs.NamedResting.{AllWait, NamedEnv}
use Rattle.uc_place_laws.specs.Placed.{IsPlace, Denotes, Behind, IsObject, ScopeFor, FindsFor, Runs, Waits, PlacedState, PlacedStep}

-- all scopes of a source open behind what builds their objects
abbrev pub OpenSource : Source → Type 0
OpenSource source = (n : ℕ) → OpenRoutine (slice_get source.routines n)

-- a task begins so, and each step of an activation that keeps to its rooms keeps it, and each answer of the form that was asked for
pub record LawSteps : Type 0 where
  pub begins : (source : Source) (p : Program) → CountedSource source → OpenSource source →
      (r o : ℕ) → PlacedState (Sized p) source (first_state (routine_of source r) o)
  pub steps : (source : Source) (p : Program) → CountedSource source → OpenSource source →
      (s : State) → PlacedState (Sized p) source s → SomeRoom (Sized p) s.run.control →
      PlacedStep (Sized p) source (quiet source s)
  pub told : (source : Source) (p : Program) (form : Form) (given : Answer) (s : State) →
      IsForm form given → FindsFor (Sized p) source form s.env.exec s.run →
      AllWait (Runs (Sized p) source) (Waits (Sized p) source) s.env.exec s.callers →
      NamedEnv (Runs (Sized p) source) (Waits (Sized p) source) s.env →
      PlacedState (Sized p) source (answered source given s)

-- a value is the place of a name, in the running activation, and lies behind all that is cleaned up by what is to do; the scope that opens
-- right behind the statement is of that, if one does, where this is what is to do next, and what is bound, the newest operand, is an object
pub record IsNamedPlace (p : Program) (s : State) (todo next : List Todo) (v : Value) : Type 0 where
  pub name : Expr
  pub place : IsPlace name
  pub behind : Behind (Sized p) name todo
  pub scope : ScopeFor (IsObject (top s.run.operands)) name next
  pub denotes : Denotes (this_frame s) s.run.this name v

-- it is that of a field of the object at hand, or of an element of one
abbrev pub IsOwnPlace : State → Value → Type 0
IsOwnPlace s v = (e : Expr) × IsOwn e × Denotes (this_frame s) s.run.this e v

-- what is bound is such a place, and what a variable is bound to is an object
pub record LawBound : Type 0 where
  pub bound : (source : Source) (p : Program) (s : State) → PlacedState (Sized p) source s →
      (todo : List Todo) → s.run.control ≡ BindNow ∷ todo →
      IsNamedPlace p s todo todo (top (below s.run.operands))
  pub made : (source : Source) (p : Program) (s : State) → PlacedState (Sized p) source s →
      (c r : ℕ) (todo : List Todo) → s.run.control ≡ BindMadeNow c r ∷ todo →
      IsNamedPlace p s todo (others todo) (top (drop (params source r) (below s.run.operands)))
  pub object : (source : Source) (p : Program) (s : State) → PlacedState (Sized p) source s →
      (c r : ℕ) (todo : List Todo) → s.run.control ≡ BindMadeNow c r ∷ todo →
      IsObject (top s.run.operands)
  pub given : (source : Source) (p : Program) (s : State) → PlacedState (Sized p) source s →
      (todo : List Todo) → s.run.control ≡ BindNow ∷ todo →
      IsOwnPlace s (top (below s.run.operands)) ⊎ IsObject (top s.run.operands)
