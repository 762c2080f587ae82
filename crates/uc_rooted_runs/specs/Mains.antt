-- Tasks in which nobody waits for a main, and nothing but its line is left behind the end of one.
use Rattle.std.specs.Prelude.{◌≡◌, ℕ, List, [], ◌∷◌, Option, Some, None, slice_get}
use Rattle.uc_tree.specs.Source.{Purpose, TaskMain, CoroutineMain, Procedure, Function, Builder, Routine, Source}
use Rattle.uc_machine.specs.declared.exec.Exec.{Exec}
use Rattle.uc_machine.specs.declared.exec.Home.{Home}
use Rattle.uc_machine.specs.Executions.{Execution}
use Rattle.uc_machine.specs.Pieces.{Value, Todo, CallNow, CallOnNow, CallUnwrittenNow, LiveNow, EnterNow, MakeNow, BindMadeNow, Unwind, Sort, sort, IsFinish, IsFinishCoroutine, Active, State, Members, Step, Goes, Ticks, Asks}
use Rattle.uc_life_laws.specs.LifeStates.{MembersBy, EnvBy}
use Rattle.uc_life_laws.specs.Held.{AreLines}

-- the end of a main stands in the oldest activation
abbrev pub AtEnd : Sort → List Active → List Todo → Type 0 → Type 0
AtEnd IsFinish older todo rest = (older ≡ []) × AreLines todo
AtEnd IsFinishCoroutine older todo rest = (older ≡ []) × AreLines todo
AtEnd k older todo rest = rest

abbrev pub MainIn : List Active → List Todo → Type 0
MainIn older [] = Unit {0}
MainIn older (p ∷ todo) = AtEnd (sort p) older todo (MainIn older todo)

abbrev pub MainStack : List Active → Type 0
MainStack [] = Unit {0}
MainStack (a ∷ older) = MainIn older a.control × MainStack older

-- of an execution that does not run
abbrev pub MainEx : Exec → Execution (List Todo) Value → Type 0
MainEx n x = MainStack (x.run ∷ x.callers)

abbrev pub MainMembers : Home → Option Members → Type 0
MainMembers h m = MembersBy MainEx h m

pub record MainState (s : State) : Type 0 where
  pub stack : MainStack (s.run ∷ s.callers)
  pub env : EnvBy MainEx s.env

abbrev pub MainStep : Step → Type 0
MainStep (Goes s) = MainState s
MainStep (Ticks s) = MainState s
MainStep (Asks r s) = MainState s

-- what is called is no main
abbrev pub IsNoMain : Purpose → Type 0
IsNoMain TaskMain = ⊥
IsNoMain CoroutineMain = ⊥
IsNoMain Procedure = Unit {0}
IsNoMain Function = Unit {0}
IsNoMain Builder = Unit {0}

abbrev pub AreNoMains : Option Routine → Type 0
AreNoMains r = (x : Routine) → r ≡ Some x → IsNoMain x.purpose

abbrev pub CallsNoMainBy : Source → List Todo → Type 0
CallsNoMainBy source (CallNow r ∷ todo) = AreNoMains (slice_get source.routines r)
CallsNoMainBy source (CallOnNow r ∷ todo) = AreNoMains (slice_get source.routines r)
CallsNoMainBy source (CallUnwrittenNow r ∷ todo) = AreNoMains (slice_get source.routines r)
CallsNoMainBy source todo = Unit {0}

abbrev pub CallsNoMain : Source → State → Type 0
CallsNoMain source s = CallsNoMainBy source s.run.control

-- a routine that is named is there, and what leaves an activation has a reason
abbrev pub IsThere : Source → ℕ → Type 0
IsThere source r = slice_get source.routines r ≡ None → ⊥

abbrev pub FindsBy : Source → List Todo → State → Type 0
FindsBy source (CallNow r ∷ todo) s = IsThere source r
FindsBy source (CallOnNow r ∷ todo) s = IsThere source r
FindsBy source (CallUnwrittenNow r ∷ todo) s = IsThere source r
FindsBy source (LiveNow r ∷ todo) s = IsThere source r
FindsBy source (EnterNow m r ∷ todo) s = IsThere source r
FindsBy source (MakeNow c r ∷ todo) s = IsThere source r
FindsBy source (BindMadeNow c r ∷ todo) s = IsThere source r
FindsBy source (Unwind ∷ []) s = s.run.raised ≡ None → ⊥
FindsBy source todo s = Unit {0}

abbrev pub FindsAll : Source → State → Type 0
FindsAll source s = FindsBy source s.run.control s
