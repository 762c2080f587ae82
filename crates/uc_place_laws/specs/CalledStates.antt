-- Tasks in which each scope of an object that is a variable opens behind the call of its constructor, and each object that is a field becomes a part there.
use Rattle.std.specs.Prelude.{◌≡◌, ℕ, ◌⊎◌, true, List, [], ◌∷◌, Option, length}
use Rattle.uc_tree.specs.Programs.{Program}
use Rattle.uc_tree.specs.Source.{Source}
use Rattle.uc_entry.specs.declared.request.Request.{Request}
use Rattle.uc_entry.specs.declared.request.Request.TheVariants as ask
use Rattle.uc_machine.specs.declared.exec.Exec.{Exec}
use Rattle.uc_machine.specs.declared.exec.Home.{Home}
use Rattle.uc_machine.specs.Pieces as piece
use Rattle.uc_machine.specs.Pieces.{Value, Todo, Active, State, Members, Step, Goes, Ticks, Asks}
use Rattle.uc_machine.specs.Raising.{arrives}
use Rattle.uc_answer_laws.specs.Suiting.{Form, JustGo, form_of_request}
use Rattle.uc_state_laws.specs.Marked.{operands}
use Rattle.uc_place_laws.specs.OlderResting.{AllWait, NamedMembers, NamedEnv}
use Rattle.uc_place_laws.specs.Opened.{OpensNone, PartNone, NextNone, BuildsOf, BuildsNone, Spans}
use Rattle.uc_place_laws.specs.Called.{Mark, At, Meets, NextAt, Holds, anys, Every, Ok, AtDrop, Stands, OnWay}

-- where the scope of an object opens next for the first of these that wait, or it is a part next, the object at hand of who is called lies there
abbrev pub Seated : Exec → List Active → Value → Type 0
Seated n [] v = Unit {0}
Seated n (b ∷ older) v = NextAt (λ d x. Meets n b.frame b.this (At x) v) b.control

-- so it is of all these activations
abbrev pub AllSeated : Exec → List Active → Type 0
AllSeated n [] = Unit {0}
AllSeated n (a ∷ older) = Seated n older a.this × AllSeated n older

module _ (p : Program) (source : Source) where
  -- an activation of the execution n that is to find so many operands in front of its own
  pub record Finds (many : ℕ) (n : Exec) (a : Active) : Type 0 where
    pub marks : List Mark
    pub holds : Holds n a.frame a.this marks a.operands
    pub ok : Ok p source (anys many marks) a.control

  -- one that is to go on
  abbrev pub Runs : Exec → List Active → Active → Type 0
  Runs n older a = Finds 0 n a × Seated n older a.this

  -- one that waits for another, which may be a constructor of the object whose scope opens next, or which is a part next
  abbrev pub Waits : Exec → List Active → Active → Type 0
  Waits n older a = (Finds 1 n a ⊎ AtDrop p source Every a.control) × Seated n older a.this

  -- who runs may stand before such a scope, or be on the way from a declaration to what builds the object
  abbrev pub RunsNow : Exec → Active → Type 0
  RunsNow n a = Finds 0 n a ⊎ (Stands p source a.control ⊎ OnWay p source a.control)

  abbrev pub CalledMembers : Home → Option Members → Type 0
  CalledMembers h m = NamedMembers Runs Waits h m

  pub record CalledState (s : State) : Type 0 where
    pub run : RunsNow s.env.exec s.run
    pub seat : Seated s.env.exec s.callers s.run.this
    pub callers : AllWait Runs Waits s.env.exec s.callers
    pub env : NamedEnv Runs Waits s.env

  -- what comes with an answer of a form
  abbrev pub FindsFor : Form → Exec → Active → Type 0
  FindsFor JustGo n a = RunsNow n a
  FindsFor form n a = Finds (operands form) n a

  -- behind a request: so many operands come with the answer; behind an end and a fault nothing is done
  abbrev pub FindsBehind : Request → Exec → Active → Type 0
  FindsBehind ask.End n a = Unit {0}
  FindsBehind (ask.Fault f) n a = Unit {0}
  FindsBehind r n a = Finds (operands (form_of_request r)) n a

  pub record CalledAsk (r : Request) (s : State) : Type 0 where
    pub run : FindsBehind r s.env.exec s.run
    pub seat : Seated s.env.exec s.callers s.run.this
    pub callers : AllWait Runs Waits s.env.exec s.callers
    pub env : NamedEnv Runs Waits s.env

  abbrev pub CalledStep : Step → Type 0
  CalledStep (Goes s) = CalledState s
  CalledStep (Ticks s) = CalledState s
  CalledStep (Asks r s) = CalledAsk r s

-- who runs comes to the end of its activation: by its last statement, by what leaves all of it, by the end of a main, or by an unwinding that
-- is over there
abbrev pub Ends : State → List Todo → Type 0
Ends s [] = Unit {0}
Ends s (piece.Exit w ∷ []) = Unit {0}
Ends s (piece.Finish ∷ todo) = Unit {0}
Ends s (piece.Unwind ∷ []) = arrives s.run.raised (length s.callers) ≡ true
Ends s todo = ⊥

-- no scope of such an object opens next behind a step, but once the value of the statement before it is dropped, behind the end of what that has
-- called
abbrev pub Joins : State → List Todo → Type 0
Joins s (piece.Rest ss ∷ todo) = OpensNone ss ⊎
    ((line : ℕ) × (s.run.control ≡ piece.Within line ∷ (piece.Rest ss ∷ todo)))
Joins s (piece.Within line ∷ (piece.Rest ss ∷ todo)) = OpensNone ss ⊎
    (s.run.control ≡ piece.DropNow ∷ (piece.Within line ∷ (piece.Rest ss ∷ todo)))
Joins s (piece.DropNow ∷ (piece.Within line ∷ (piece.Rest ss ∷ todo))) = OpensNone ss ⊎
    Ends s s.run.control
Joins s todo = Unit {0}

-- behind a fault nothing is done, and behind an end nobody goes on with this
abbrev pub AskJoins : State → Request → State → Type 0
AskJoins s ask.End u = Unit {0}
AskJoins s (ask.Fault f) u = Unit {0}
AskJoins s r u = Joins s u.run.control

abbrev pub StepJoins : State → Step → Type 0
StepJoins s (Goes u) = Joins s u.run.control
StepJoins s (Ticks u) = Joins s u.run.control
StepJoins s (Asks r u) = AskJoins s r u

-- so it is of such an object that is a part next
abbrev pub PartJoins : State → List Todo → Type 0
PartJoins s (piece.Rest ss ∷ todo) = PartNone ss ⊎
    ((line : ℕ) × (s.run.control ≡ piece.Within line ∷ (piece.Rest ss ∷ todo)))
PartJoins s (piece.Within line ∷ (piece.Rest ss ∷ todo)) = PartNone ss ⊎
    (s.run.control ≡ piece.DropNow ∷ (piece.Within line ∷ (piece.Rest ss ∷ todo)))
PartJoins s (piece.DropNow ∷ (piece.Within line ∷ (piece.Rest ss ∷ todo))) = PartNone ss ⊎
    Ends s s.run.control
PartJoins s todo = Unit {0}

abbrev pub AskPartJoins : State → Request → State → Type 0
AskPartJoins s ask.End u = Unit {0}
AskPartJoins s (ask.Fault f) u = Unit {0}
AskPartJoins s r u = PartJoins s u.run.control

abbrev pub StepPartJoins : State → Step → Type 0
StepPartJoins s (Goes u) = PartJoins s u.run.control
StepPartJoins s (Ticks u) = PartJoins s u.run.control
StepPartJoins s (Asks r u) = AskPartJoins s r u

-- so it is of both
abbrev pub NextJoins : State → List Todo → Type 0
NextJoins s (piece.Rest ss ∷ todo) = NextNone ss ⊎
    ((line : ℕ) × (s.run.control ≡ piece.Within line ∷ (piece.Rest ss ∷ todo)))
NextJoins s (piece.Within line ∷ (piece.Rest ss ∷ todo)) = NextNone ss ⊎
    (s.run.control ≡ piece.DropNow ∷ (piece.Within line ∷ (piece.Rest ss ∷ todo)))
NextJoins s (piece.DropNow ∷ (piece.Within line ∷ (piece.Rest ss ∷ todo))) = NextNone ss ⊎
    Ends s s.run.control
NextJoins s todo = Unit {0}

-- such an object is built next only where the cells of its variable have just started anew, and nothing was done since
abbrev pub Follows : Program → State → List Todo → Type 0
Follows p s (piece.Variables [] ∷ (piece.Within line ∷ (piece.Rest ss ∷ todo))) = BuildsNone ss ⊎
    ((k : ℕ) × (n : ℕ) × (s.run.control ≡ piece.ClearNow k n ∷ (piece.Variables [] ∷ (piece.Within line ∷ (piece.Rest ss ∷ todo)))) × BuildsOf (λ d m. (k ≡ m) × Spans p d n) ss)
Follows p s (piece.Within line ∷ (piece.Rest ss ∷ todo)) = BuildsNone ss ⊎
    (s.run.control ≡ piece.Variables [] ∷ (piece.Within line ∷ (piece.Rest ss ∷ todo)))
Follows p s (piece.Rest ss ∷ todo) = BuildsNone ss ⊎
    ((line : ℕ) × (s.run.control ≡ piece.Within line ∷ (piece.Rest ss ∷ todo)))
Follows p s todo = Unit {0}

abbrev pub AskFollows : Program → State → Request → State → Type 0
AskFollows p s ask.End u = Unit {0}
AskFollows p s (ask.Fault f) u = Unit {0}
AskFollows p s r u = Follows p s u.run.control

abbrev pub StepFollows : Program → State → Step → Type 0
StepFollows p s (Goes u) = Follows p s u.run.control
StepFollows p s (Ticks u) = Follows p s u.run.control
StepFollows p s (Asks r u) = AskFollows p s r u
