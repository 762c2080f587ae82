-- Tasks in which constructors that build parts are called where these are taken over.
use Rattle.std.specs.Prelude.{◌≡◌, ℕ, List, ◌∷◌, Option, drop}
use Rattle.uc_entry.specs.declared.request.Request.{Request}
use Rattle.uc_entry.specs.declared.request.Request.TheVariants as ask
use Rattle.uc_machine.specs.declared.exec.Exec.{Exec}
use Rattle.uc_machine.specs.declared.exec.Home.{Home}
use Rattle.uc_machine.specs.Pieces as piece
use Rattle.uc_machine.specs.Pieces.{Object, Todo, Active, State, Members, Step, Goes, Ticks, Asks, top, below}
use Rattle.uc_answer_laws.specs.Suiting.{Form, form_of_request}
use Rattle.uc_state_laws.specs.Counted.{params}
use Rattle.uc_state_laws.specs.Marked.{operands}
use Rattle.uc_place_laws.specs.OlderResting.{AllWait, NamedMembers, NamedEnv, NamedState}
use Rattle.uc_parts_laws.specs.PartStates.{Setting}
use Rattle.uc_parts_laws.specs.UndoingTodos.{Mark, around, Holds, anys, Ok}

module _ (g : Setting) where
  -- an activation of the execution n that is to find so many operands in front of its own
  pub record Finds (many : ℕ) (n : Exec) (a : Active) : Type 0 where
    pub marks : List Mark
    pub holds : Holds g.home (around n a) marks a.operands
    pub ok : Ok g (anys many marks) a.control

  -- one that is to go on, and one that waits for another
  abbrev pub Runs : Exec → List Active → Active → Type 0
  Runs n older a = Finds 0 n a

  abbrev pub Waits : Exec → List Active → Active → Type 0
  Waits n older a = Finds 1 n a

  abbrev pub UndoingMembers : Home → Option Members → Type 0
  UndoingMembers h m = NamedMembers Runs Waits h m

  abbrev pub UndoingState : State → Type 0
  UndoingState s = NamedState Runs Waits s

  -- what comes with an answer of a form
  abbrev pub FindsFor : Form → Exec → Active → Type 0
  FindsFor form n a = Finds (operands form) n a

  -- behind a request: so many operands come with the answer; behind an end and a fault nothing is done
  abbrev pub FindsBehind : Request → Exec → Active → Type 0
  FindsBehind ask.End n a = Unit {0}
  FindsBehind (ask.Fault f) n a = Unit {0}
  FindsBehind r n a = FindsFor (form_of_request r) n a

  pub record UndoingAsk (r : Request) (s : State) : Type 0 where
    pub run : FindsBehind r s.env.exec s.run
    pub callers : AllWait Runs Waits s.env.exec s.callers
    pub env : NamedEnv Runs Waits s.env

  abbrev pub UndoingStep : Step → Type 0
  UndoingStep (Goes s) = UndoingState s
  UndoingStep (Ticks s) = UndoingState s
  UndoingStep (Asks r s) = UndoingAsk r s

  -- what is to hold where a made object is bound: it is at home at the place below the arguments of its constructor
  abbrev pub BindsHome : List Todo → State → Type 0
  BindsHome (piece.BindMadeNow c r ∷ todo) s = (o : ℕ) × (top s.run.operands ≡ Object o) ×
      (g.home o ≡ top (drop (params g.source r) (below s.run.operands)))
  BindsHome todo s = Unit {0}
