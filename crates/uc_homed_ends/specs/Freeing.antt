-- Activations that build the mutex object of a variable: as long as the scope of that opens next behind what waits for them, the end of their building is
-- the last thing that they have to do, or they have come to that; so none of them destroys the object.
use Rattle.std.specs.Prelude.{◌≡◌, ◌⊎◌, ℕ, false, List, [], ◌∷◌, length, Option, Some, slice_get}
use Rattle.uc_tree.specs.Source.{CleanUp, Frees, Expr, OfObject, MakeOn, Stmts, Scoped, Source, Routine, routine_of}
use Rattle.uc_entry.specs.declared.request.Answer.{Answer}
use Rattle.uc_entry.specs.declared.request.Request.{Request}
use Rattle.uc_entry.specs.declared.request.Request.TheVariants as ask
use Rattle.uc_machine.specs.declared.exec.Exec.{Exec}
use Rattle.uc_machine.specs.declared.exec.Home.{Home}
use Rattle.uc_machine.specs.declared.exec.Stage.{Stage}
use Rattle.uc_machine.specs.declared.exec.Stage.TheVariants.{Fresh, Started, Ended}
use Rattle.uc_machine.specs.Executions.{Execution}
use Rattle.uc_machine.specs.Raising.{arrives}
use Rattle.uc_machine.specs.Pieces as piece
use Rattle.uc_machine.specs.Pieces.{Value, Todo, Active, State, Members, Step, Goes, Ticks, Asks}
use Rattle.uc_machine.specs.Quiet.{quiet, first_state, routine_todo}
use Rattle.uc_machine.specs.Answering.{answered}
use Rattle.uc_life_laws.specs.LifeStates.{EnvBy, MembersBy}
use Rattle.uc_homed_ends.specs.BoundHomes.{NoVariable, DropMutex}

-- behind a call the scope of no such variable opens next
abbrev pub IsCalm : List Todo → Type 0
IsCalm todo = DropMutex NoVariable todo

-- statements are, as a whole, in the scope at whose end the object has been built
abbrev pub IsFreeing : CleanUp → Type 0
IsFreeing (Frees r) = Unit {0}
IsFreeing c = ⊥

abbrev pub OpensFreeing : Stmts → Type 0
OpensFreeing (Scoped c rest) = IsFreeing c
OpensFreeing ss = ⊥

-- the end of the building is the last thing to do
abbrev pub FreesLast : List Todo → Type 0
FreesLast [] = ⊥
FreesLast (piece.Rest ss ∷ todo) = (OpensFreeing ss × (todo ≡ [])) ⊎ FreesLast todo
FreesLast (piece.Clean c ∷ todo) = (IsFreeing c × (todo ≡ [])) ⊎ FreesLast todo
FreesLast (p ∷ todo) = FreesLast todo

-- that is done next, or has been done; or the building is given up, where that passes on (`A`)
abbrev pub IsFreed : Type 0 → List Todo → Type 0
IsFreed A [] = Unit {0}
IsFreed A (piece.MadeNow ∷ todo) = todo ≡ []
IsFreed A (piece.SpawnNow r ∷ todo) = todo ≡ []
IsFreed A (piece.ChildNow r ∷ todo) = todo ≡ []
IsFreed A (piece.GiveUpNow ∷ todo) = A × (todo ≡ piece.Unwind ∷ [])
IsFreed A (piece.Unwind ∷ todo) = A × (todo ≡ [])
IsFreed A (p ∷ todo) = ⊥

module _ (source : Source) where
  -- a routine builds the object for which it is called
  abbrev pub Builds : ℕ → Type 0
  Builds r = (x : Routine) → slice_get source.routines r ≡ Some x → FreesLast (routine_todo x)

  abbrev pub BuildsBy : Expr → Type 0
  BuildsBy (OfObject (MakeOn c r written p args)) = Builds r
  BuildsBy e = ⊥

  -- where such a scope opens behind a call of a routine on an object, that builds it
  abbrev pub CallsFit : List Todo → Type 0
  CallsFit [] = Unit {0}
  CallsFit (piece.CallOnNow r ∷ todo) = (IsCalm todo ⊎ Builds r) × CallsFit todo
  CallsFit (piece.CallUnwrittenNow r ∷ todo) = (IsCalm todo ⊎ Builds r) × CallsFit todo
  CallsFit (p ∷ todo) = CallsFit todo

  -- `C`: nobody awaits such a scope behind it. An activation waits with this to do, for another; or it runs
  abbrev pub WaitsBy : Type 0 → List Todo → Type 0
  WaitsBy C todo = CallsFit todo × (C ⊎ FreesLast todo)

  abbrev pub RunsBy : Type 0 → Type 0 → List Todo → Type 0
  RunsBy C A todo = CallsFit todo × (C ⊎ (FreesLast todo ⊎ IsFreed A todo))

-- the newest of these that wait awaits no such scope
abbrev pub IsUnawaited : List Active → Type 0
IsUnawaited [] = Unit {0}
IsUnawaited (a ∷ older) = IsCalm a.control

-- an unwinding of an activation before these older ones is no return to it
abbrev pub PassesOn : Active → List Active → Type 0
PassesOn a older = arrives a.raised (length older) ≡ false

-- what is left is not still to begin to be built; no exit leaves what is built, and no return to it unwinds it
abbrev pub ExitsFrom : List Todo → Type 0
ExitsFrom (piece.Rest ss ∷ todo) = OpensFreeing ss → ⊥
ExitsFrom (piece.Clean c ∷ todo) = IsFreeing c → ⊥
ExitsFrom todo = Unit {0}

abbrev pub UnwindsFrom : State → List Todo → Type 0
UnwindsFrom s (piece.Rest ss ∷ todo) = OpensFreeing ss → ⊥
UnwindsFrom s (piece.Clean c ∷ todo) = IsFreeing c → PassesOn s.run s.callers
UnwindsFrom s todo = Unit {0}

module _ (source : Source) where
  -- activations that wait
  abbrev pub FreesStack : List Active → Type 0
  FreesStack [] = Unit {0}
  FreesStack (a ∷ older) = WaitsBy source (IsUnawaited older) a.control × FreesStack older

  -- with the one before them that is to go on, and with the one that runs
  abbrev pub FreesFrom : Exec → Active → List Active → Type 0
  FreesFrom n a older = WaitsBy source (IsUnawaited older) a.control × FreesStack older

  abbrev pub FreesNow : Active → List Active → Type 0
  FreesNow a older = RunsBy source (IsUnawaited older) (PassesOn a older) a.control × FreesStack older

  -- an execution of this name that does not run; one that has ended never goes on
  abbrev pub FreesBy : Stage → Exec → Active → List Active → Type 0
  FreesBy Fresh n a older = FreesFrom n a older
  FreesBy Started n a older = FreesFrom n a older
  FreesBy Ended n a older = Unit {0}

  abbrev pub FreesEx : Exec → Execution (List Todo) Value → Type 0
  FreesEx n x = FreesBy x.links.stage n x.run x.callers

  abbrev pub FreesMembers : Home → Option Members → Type 0
  FreesMembers h m = MembersBy FreesEx h m

  pub record FreesState (s : State) : Type 0 where
    pub stack : FreesNow s.run s.callers
    pub env : EnvBy FreesEx s.env

  -- who asks that an object goes is not awaited so, or gave up its building, and passes its unwinding on
  abbrev pub GivesUp : State → Type 0
  GivesUp s = PassesOn s.run s.callers × (s.run.control ≡ piece.Unwind ∷ [])

  abbrev pub FreesAsked : Request → State → Type 0
  FreesAsked (ask.Gone o) s = IsUnawaited s.callers ⊎ GivesUp s
  FreesAsked r s = Unit {0}

  abbrev pub FreesStep : Step → Type 0
  FreesStep (Goes s) = FreesState s
  FreesStep (Ticks s) = FreesState s
  FreesStep (Asks r s) = FreesState s × FreesAsked r s

  -- what a step is to find: that; and where such a scope opens behind an expression, that makes the object by a routine that builds it, and behind no other
  -- call; and what lets go of an object does so once
  abbrev pub FreeingAt : List Todo → State → Type 0
  FreeingAt (piece.Eval e ∷ todo) s = IsCalm todo ⊎ BuildsBy source e
  FreeingAt (piece.CallNow r ∷ todo) s = IsCalm todo
  FreeingAt (piece.RaiseNow ∷ todo) s = IsCalm (piece.DropNow ∷ todo)
  FreeingAt (piece.Exit w ∷ todo) s = ExitsFrom todo
  FreeingAt (piece.Unwind ∷ todo) s = UnwindsFrom s todo
  FreeingAt (piece.GoneNow ∷ todo) s = FreesLast todo → ⊥
  FreeingAt (piece.GiveUpNow ∷ todo) s = FreesLast todo → ⊥
  FreeingAt todo s = Unit {0}

-- of whatever source: a task begins so; each quiet step keeps it where it finds that, and so does each answer; and who asks then that an object goes is not
-- awaited by who binds that
pub record LawFreeing : Type 0 where
  pub begins : (source : Source) (r o : ℕ) → FreesState source (first_state (routine_of source r) o)
  pub steps : (source : Source) (s : State) → FreesState source s → FreeingAt source s.run.control s →
      FreesStep source (quiet source s)
  pub told : (source : Source) (given : Answer) (s : State) → FreesState source s → FreesState source (answered source given s)
