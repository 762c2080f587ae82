-- States in which what is bound lies in no frame of another execution.
use Rattle.std.specs.Prelude.{◌≡◌, List, ◌∷◌, drop, Some, slice_get}
use Rattle.uc_tree.specs.Source.{Source, Routine}
use Rattle.uc_machine.specs.declared.exec.Exec.{Exec}
use Rattle.uc_machine.specs.declared.exec.Owner.TheVariants.{Frame}
use Rattle.uc_machine.specs.Pieces.{Value, Place, Todo, SetUpNow, BindNow, BindMadeNow, State, Goes, top, below}
use Rattle.uc_machine.specs.Quiet.{quiet}
use Rattle.uc_rooted_runs.specs.FreshStates.{BindsBegun}
use Rattle.uc_rooted_runs.specs.Outlasting.{IsAlone}

abbrev pub IsOwnPlace : Exec → Value → Type 0
IsOwnPlace n (Place (Frame m d) p) = m ≡ n
IsOwnPlace n v = Unit {0}

-- what is bound: by a binding, to a new mutex object, and to a new execution
abbrev pub BindsOwnBy : Source → List Todo → State → Type 0
BindsOwnBy source (BindNow ∷ todo) s = IsOwnPlace s.env.exec (top (below s.run.operands))
BindsOwnBy source (BindMadeNow c r ∷ todo) s = (x : Routine) → slice_get source.routines r ≡ Some x →
    IsOwnPlace s.env.exec (top (drop x.params (below s.run.operands)))
BindsOwnBy source (SetUpNow r ∷ todo) s = IsOwnPlace s.env.exec s.run.this
BindsOwnBy source todo s = Unit {0}

abbrev pub BindsOwn : Source → State → Type 0
BindsOwn source s = BindsOwnBy source s.run.control s

-- so it stands in no frame of one that has not begun, where no other execution has the name of the running one, before the step and behind it
abbrev pub LawBinds : Type 0
LawBinds =
    (source : Source) (s : State) → IsAlone s.env → ((u : State) → quiet source s ≡ Goes u → IsAlone u.env) →
    BindsOwn source s → BindsBegun source s
