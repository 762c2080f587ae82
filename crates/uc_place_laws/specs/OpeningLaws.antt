-- Scopes of objects open behind the calls of their constructors at their variables, and fields are parts behind the calls of theirs: of every program, and of
-- every task of such a source.
use Rattle.std.specs.Prelude.{◌≡◌, ℕ, List, [], ◌∷◌, drop}
use Rattle.uc_tree.specs.Programs.{Program}
use Rattle.uc_tree.specs.Source.{Shape, Source, routine_of}
use Rattle.uc_entry.specs.declared.request.Answer.{Answer}
use Rattle.uc_machine.specs.Pieces as piece
use Rattle.uc_machine.specs.Pieces.{FieldAt, Todo, State, top, further}
use Rattle.uc_machine.specs.Quiet.{quiet, first_state}
use Rattle.uc_machine.specs.Answering.{answered}
use Rattle.uc_answer_laws.specs.Suiting.{Form, IsForm}
use Rattle.uc_resolve.specs.Resolve.{source_of}
use Rattle.uc_state_laws.specs.Counted.{params, CountedSource}
use Rattle.uc_place_laws.specs.OlderResting.{AllWait, NamedEnv}
use Rattle.uc_place_laws.specs.Opened.{Var, ArePaired, OpensOf, PartOf, Builds, Before, OpenedSource}
use Rattle.uc_place_laws.specs.Called.{variable}
use Rattle.uc_place_laws.specs.CalledStates.{Seated, AllSeated, FindsFor, Runs, Waits, CalledState, CalledStep, StepJoins, StepPartJoins, StepFollows}

-- in the source of every program the scope of an object that is a variable stands behind the statement that calls its constructor there, and a field that is
-- such an object is a part behind the one that calls its own there
abbrev pub LawOpened : Type 0
LawOpened = (p : Program) → OpenedSource p (source_of p)

-- of any such source in which arguments are counted: so it is of a task as it begins, each step keeps that, and so does each answer of the form that
-- was asked for
pub record LawSteps : Type 0 where
  pub begins : (p : Program) (source : Source) → CountedSource source → OpenedSource p source → (r o : ℕ) →
      CalledState p source (first_state (routine_of source r) o)
  pub steps : (p : Program) (source : Source) → CountedSource source → OpenedSource p source →
      (s : State) → CalledState p source s → CalledStep p source (quiet source s)
  pub told : (p : Program) (source : Source) (form : Form) (given : Answer) (s : State) →
      IsForm form given → FindsFor p source form s.env.exec s.run → Seated s.env.exec s.callers s.run.this →
      AllWait (Runs p source) (Waits p source) s.env.exec s.callers →
      NamedEnv (Runs p source) (Waits p source) s.env → CalledState p source (answered source given s)

-- of the object of the scope that opens next where the value of the statement before it is to be dropped
abbrev pub Awaited : (ℕ → ℕ → Type 0) → List Todo → Type 0
Awaited P (piece.DropNow ∷ (piece.Within line ∷ (piece.Rest ss ∷ todo))) = OpensOf P ss
Awaited P todo = Unit {0}

abbrev pub NoneAwaited : List Todo → Type 0
NoneAwaited todo = Awaited (λ d k. ⊥) todo

-- the routine r is a constructor of the class that d destroys, and is called at the variable k
abbrev pub IsAt : Program → Source → State → ℕ → ℕ → ℕ → Type 0
IsAt p source s r d k = ArePaired p r d ×
    (top (drop (params source r) s.run.operands) ≡ variable s.env.exec s.run.frame k)

-- where the scope of an object opens next, that is so of what is called, and nothing else is called there
abbrev pub CallsAt : Program → Source → List Todo → State → Type 0
CallsAt p source (piece.CallNow r ∷ todo) s = NoneAwaited todo
CallsAt p source (piece.RaiseNow ∷ todo) s = NoneAwaited (piece.DropNow ∷ todo)
CallsAt p source (piece.CallOnNow r ∷ todo) s = Awaited (IsAt p source s r) todo
CallsAt p source (piece.CallUnwrittenNow r ∷ todo) s = Awaited (IsAt p source s r) todo
CallsAt p source todo s = Unit {0}

-- of the object that is a part next there
abbrev pub AwaitedPart : (ℕ → Shape → ℕ → Type 0) → List Todo → Type 0
AwaitedPart P (piece.DropNow ∷ (piece.Within line ∷ (piece.Rest ss ∷ todo))) = PartOf P ss
AwaitedPart P todo = Unit {0}

abbrev pub NoPart : List Todo → Type 0
NoPart todo = AwaitedPart (λ d k i. ⊥) todo

-- the routine r is a constructor of the class that d destroys, and is called at the field i of the object at hand, which has the shape k
abbrev pub IsAtField : Program → Source → State → ℕ → ℕ → Shape → ℕ → Type 0
IsAtField p source s r d k i = ArePaired p r d ×
    (top (drop (params source r) s.run.operands) ≡ further (FieldAt k i) s.run.this)

-- where an object is a part next, that is so of what is called, and nothing else is called there
abbrev pub PartsAt : Program → Source → List Todo → State → Type 0
PartsAt p source (piece.CallNow r ∷ todo) s = NoPart todo
PartsAt p source (piece.RaiseNow ∷ todo) s = NoPart (piece.DropNow ∷ todo)
PartsAt p source (piece.CallOnNow r ∷ todo) s = AwaitedPart (IsAtField p source s r) todo
PartsAt p source (piece.CallUnwrittenNow r ∷ todo) s = AwaitedPart (IsAtField p source s r) todo
PartsAt p source todo s = Unit {0}

-- of the object of the scope that opens next behind a statement
abbrev pub AwaitedRest : (ℕ → ℕ → Type 0) → List Todo → Type 0
AwaitedRest P (piece.Rest ss ∷ todo) = OpensOf P ss
AwaitedRest P todo = Unit {0}

-- behind what is to do first no such scope opens next, but behind a statement and an expression that build the object, behind a call, and where that
-- is not done but left; nor does one once the line of a statement is left
abbrev pub TailAt : Program → List Todo → Type 0
TailAt p [] = Unit {0}
TailAt p (piece.Do a ∷ todo) = AwaitedRest (λ d k. Before p a d (Var k)) todo
TailAt p (piece.Eval e ∷ todo) = Awaited (λ d k. Builds p e d (Var k)) todo × NoneAwaited (piece.DropNow ∷ todo)
TailAt p (piece.CallOnNow r ∷ todo) = Unit {0}
TailAt p (piece.CallUnwrittenNow r ∷ todo) = Unit {0}
TailAt p (piece.DropNow ∷ todo) = NoneAwaited todo × AwaitedRest (λ d k. ⊥) todo
TailAt p (piece.Within line ∷ todo) = Unit {0}
TailAt p (piece.Exit w ∷ todo) = Unit {0}
TailAt p (piece.Unwind ∷ todo) = Unit {0}
TailAt p (x ∷ todo) = NoneAwaited todo × AwaitedRest (λ d k. ⊥) todo × NoneAwaited (piece.DropNow ∷ todo)

-- so it is in each such state, and behind its step the scope opens next only behind the end of what was called, and such an object is built next
-- only behind its declaration, whose cells have just started anew; and an object is a part next only behind the end of its constructor, which was called there;
-- and all that builds such an object for an activation that waits has that object at hand
pub record IsCalled (p : Program) (source : Source) (s : State) : Type 0 where
  pub calls : CallsAt p source s.run.control s
  pub tails : TailAt p s.run.control
  pub joins : StepJoins s (quiet source s)
  pub follows : StepFollows p s (quiet source s)
  pub parts : PartsAt p source s.run.control s
  pub part_joins : StepPartJoins s (quiet source s)
  pub seats : AllSeated s.env.exec (s.run ∷ s.callers)

abbrev pub LawCalled : Type 0
LawCalled = (p : Program) (source : Source) → CountedSource source → OpenedSource p source →
    (s : State) → CalledState p source s → IsCalled p source s
