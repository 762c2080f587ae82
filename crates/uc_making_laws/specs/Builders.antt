-- Executions that build or destroy a mutex object: one of their activations has it at hand, and is still to let go of it, until that is asked.
use Rattle.std.specs.Prelude.{◌≡◌, ℕ, ◌⊎◌, ◌||◌, Bool, true, false, List, [], ◌∷◌, drop, Option, Some, None, slice_get}
use Rattle.uc_tree.specs.Source.{CleanUp, Ends, Frees, Stmts, Scoped, Routine, Source}
use Rattle.uc_entry.specs.declared.request.Answer.{Answer}
use Rattle.uc_entry.specs.declared.request.Request.{Request}
use Rattle.uc_entry.specs.declared.request.Request.TheVariants as ask
use Rattle.uc_machine.specs.declared.exec.Exec.{Exec}
use Rattle.uc_machine.specs.declared.exec.Home.{Home}
use Rattle.uc_machine.specs.declared.exec.Stage.{Stage}
use Rattle.uc_machine.specs.declared.exec.Stage.TheVariants.{Fresh, Started, Ended}
use Rattle.uc_machine.specs.Executions.{Execution, members_at}
use Rattle.uc_machine.specs.Switches.{new_exec}
use Rattle.uc_machine.specs.Pieces as piece
use Rattle.uc_machine.specs.Pieces.{Value, Object, Todo, Active, State, Members, Step, Goes, Ticks, Asks, top}
use Rattle.uc_machine.specs.Quiet.{quiet, home_at}
use Rattle.uc_machine.specs.Answering.{answered}
use Rattle.uc_life_laws.specs.LifeStates.{EnvBy, MembersBy}
use Rattle.uc_making_laws.specs.NoOthers.{NoThis}

-- `every`: of every mutex object that is built or destroyed; or of those alone whose tasks begin as they are built
module _ (every : Bool) where
  -- a clean-up lets go of the object at hand; and statements are in such a scope as a whole
  abbrev pub of_built : CleanUp → Bool
  of_built Ends = every
  of_built (Frees None) = every
  of_built (Frees (Some r)) = true
  of_built c = false

  abbrev pub opens_built : Stmts → Bool
  opens_built (Scoped c rest) = of_built c
  opens_built ss = false

  -- one is still to be left
  abbrev pub lets_built : List Todo → Bool
  lets_built [] = false
  lets_built (piece.Clean Ends ∷ todo) = every || lets_built todo
  lets_built (piece.Clean (Frees None) ∷ todo) = every || lets_built todo
  lets_built (piece.Clean (Frees (Some r)) ∷ todo) = true
  lets_built (p ∷ todo) = lets_built todo

  -- what comes first lets go of the object at hand, or begins with a scope that will
  abbrev pub lets_first : List Todo → Bool
  lets_first (piece.Rest ss ∷ todo) = opens_built ss
  lets_first (piece.MadeNow ∷ todo) = every
  lets_first (piece.SpawnNow r ∷ todo) = true
  lets_first (piece.GoneNow ∷ todo) = true
  lets_first (piece.GiveUpNow ∷ todo) = true
  lets_first todo = false

  -- the object is still to be let go of
  abbrev pub Lets : List Todo → Type 0
  Lets todo = (lets_built todo ≡ true) ⊎ (lets_first todo ≡ true)

  -- an object is that of one of these activations, which builds or destroys it so
  abbrev pub Building : List Active → ℕ → Type 0
  Building [] o = ⊥
  Building (a ∷ older) o = ((a.this ≡ Object o) × (lets_built a.control ≡ true)) ⊎ Building older o

-- `o`: an object; `m`: the name of an execution
module _ (every : Bool) (o : ℕ) (m : Exec) where
  -- if it has this name, one that waits is still to let go of the object, or the one that runs before them is
  abbrev pub BuildsFrom : Exec → Active → List Active → Type 0
  BuildsFrom n a older = n ≡ m → Building every older o ⊎ ((a.this ≡ Object o) × Lets every a.control)

  -- of one that has ended nothing is claimed: it never goes on
  abbrev pub BuildsBy : Stage → Exec → Active → List Active → Type 0
  BuildsBy Fresh n a older = BuildsFrom n a older
  BuildsBy Started n a older = BuildsFrom n a older
  BuildsBy Ended n a older = Unit {0}

  abbrev pub BuildsEx : Exec → Execution (List Todo) Value → Type 0
  BuildsEx n x = BuildsBy x.links.stage n x.run x.callers

  abbrev pub BuildsMembers : Home → Option Members → Type 0
  BuildsMembers h x = MembersBy BuildsEx h x

  -- so it is of all executions of a task
  pub record BuildsState (s : State) : Type 0 where
    pub stack : BuildsFrom s.env.exec s.run s.callers
    pub env : EnvBy BuildsEx s.env

  -- it is asked that the object is let go of; or the run is over
  abbrev pub AsksLetting : Request → Type 0
  AsksLetting (ask.Made q) = (q ≡ o) × (every ≡ true)
  AsksLetting (ask.Spawn q) = q ≡ o
  AsksLetting (ask.Gone q) = q ≡ o
  AsksLetting (ask.Fault f) = Unit {0}
  AsksLetting r = ⊥

  abbrev pub BuildsStep : Step → Type 0
  BuildsStep (Goes s) = BuildsState s
  BuildsStep (Ticks s) = BuildsState s
  BuildsStep (Asks r s) = (AsksLetting r → ⊥) → BuildsState s

  -- what a step is to find: one that is made has another name; and at the end of the main of a task nothing is left that lets go of the object
  abbrev pub BuildingAt : List Todo → State → Type 0
  BuildingAt (piece.SetUpNow r ∷ todo) s = (x : Members) → members_at (home_at s.run.this s.env) s.env ≡ Some x →
      new_exec (home_at s.run.this s.env) s.env ≡ m → ⊥
  BuildingAt (piece.Finish ∷ todo) s = lets_built every todo ≡ false
  BuildingAt todo s = Unit {0}

-- each quiet step keeps it, until it asks that the object is let go of, and so does each answer; it begins as what is in such a scope as a whole is called on the
-- object, where none of those that do not run has the name, or builds it; and as long as it is so, an activation of the execution is of the object
pub record LawBuilders : Type 0 where
  pub steps : (every : Bool) (o : ℕ) (m : Exec) (source : Source) (s : State) → BuildsState every o m s → BuildingAt every o m s.run.control s →
      BuildsStep every o m (quiet source s)
  pub begins : (every : Bool) (o : ℕ) (m : Exec) (source : Source) (s : State) (k : ℕ) (todo : List Todo) (x : Routine) →
      s.run.control ≡ piece.CallOnNow k ∷ todo → slice_get source.routines k ≡ Some x → opens_built every x.body ≡ true →
      top (drop x.params s.run.operands) ≡ Object o → EnvBy (BuildsEx every o m) s.env → BuildsStep every o m (quiet source s)
  pub told : (every : Bool) (o : ℕ) (m : Exec) (source : Source) (given : Answer) (s : State) → BuildsState every o m s →
      BuildsState every o m (answered source given s)
  pub some : (every : Bool) (o : ℕ) (m : Exec) (s : State) → BuildsState every o m s → s.env.exec ≡ m → NoThis o (s.run ∷ s.callers) → ⊥
