-- A task on its way from the statement that binds a variable to a new cluster to the scope of that: no call lies between, so what the variable
-- holds is known at each step.
use Rattle.std.specs.Prelude.{◌≡◌, ℕ, suc, ◌<◌, ◌≤◌, ◌⊎◌, List, ◌∷◌, length, slice_index_or, Bool, true}
use Rattle.uc_tree.specs.Source.{Variable, Load, OfObject, Bind, NewCluster, EndCluster, Destroys, Stmts, Evaluate, Scoped}
use Rattle.uc_entry.specs.declared.request.Request.{Request}
use Rattle.uc_entry.specs.declared.request.Request.TheVariants as ask
use Rattle.uc_machine.specs.Pieces.{Object, nought, LAST_ADDRESS, Todo, Eval, DropNow, BindNow, Do, Rest, Within, ClusterNow, State, Step, Goes, Ticks, Asks, top, below, variable_at}
use Rattle.uc_state_laws.specs.Clusters.{Begins}
use Rattle.uc_state_laws.specs.There.{IsFew, AllCounted, Any, frame_at}
use Rattle.uc_state_laws.specs.ThereStates.{CountedStack, CountedEnv, CountedState}
use Rattle.uc_state_laws.specs.Declaring.{IsUnset, DeclaringBy}
use Rattle.uc_state_laws.specs.FillingStates.{FillingBy, FillWaits, AsksObject}

-- how far it is: the statement that binds it is to be done, a new cluster is to be asked for, its number is told, and the variable is bound
pub data Stage : Type 0 where
  Does : Stage
  Binds : Stage
  Places : Stage
  Makes : Stage
  Orders : Stage
  Told : Stage
  Bound : Stage
  Leaves : Stage
  Opens : Stage

-- what is to do then: for the variable at a cell, bound in a statement of this line, before these statements and what is behind them
abbrev pub stage_todo : Stage → ℕ → ℕ → Stmts → List Todo → List Todo
stage_todo Does k l ss todo = Do (Evaluate l (OfObject (Bind (Variable k) (OfObject NewCluster)))) ∷ (Rest ss ∷ todo)
stage_todo Binds k l ss todo =
    Eval (OfObject (Bind (Variable k) (OfObject NewCluster))) ∷ (DropNow ∷ (Within l ∷ (Rest ss ∷ todo)))
stage_todo Places k l ss todo =
    Eval (Variable k) ∷ (Eval (OfObject NewCluster) ∷ (BindNow ∷ (DropNow ∷ (Within l ∷ (Rest ss ∷ todo)))))
stage_todo Makes k l ss todo = Eval (OfObject NewCluster) ∷ (BindNow ∷ (DropNow ∷ (Within l ∷ (Rest ss ∷ todo))))
stage_todo Orders k l ss todo = ClusterNow ∷ (BindNow ∷ (DropNow ∷ (Within l ∷ (Rest ss ∷ todo))))
stage_todo Told k l ss todo = BindNow ∷ (DropNow ∷ (Within l ∷ (Rest ss ∷ todo)))
stage_todo Bound k l ss todo = DropNow ∷ (Within l ∷ (Rest ss ∷ todo))
stage_todo Leaves k l ss todo = Within l ∷ (Rest ss ∷ todo)
stage_todo Opens k l ss todo = Rest ss ∷ todo

-- statements that begin with the scope of that cluster
abbrev pub IsScopeOf : ℕ → Stmts → Type 0
IsScopeOf k (Scoped (Destroys (OfObject (EndCluster (Load (Variable m))))) rest) = (m ≡ k) × Begins rest
IsScopeOf k ss = ⊥

-- behind an end and a fault nothing is done
abbrev pub IsLast : Request → Type 0
IsLast ask.End = Unit {0}
IsLast (ask.Fault f) = Unit {0}
IsLast r = ⊥

module _ (Few : ℕ → Bool) where
  -- it holds the number of a cluster, where its cell lies before the last address
  abbrev pub IsSetBy : ℕ → State → Type 0
  IsSetBy k s = k < LAST_ADDRESS → IsFew Few (slice_index_or (frame_at s.run.frame s.env.frames) k nought)

  -- what holds then
  abbrev pub StageHoldsBy : Stage → ℕ → Stmts → State → Type 0
  StageHoldsBy Makes k ss s = IsUnset k s × (top s.run.operands ≡ variable_at k s)
  StageHoldsBy Orders k ss s = IsUnset k s × (top s.run.operands ≡ variable_at k s)
  StageHoldsBy Told k ss s = IsUnset k s × (top (below s.run.operands) ≡ variable_at k s) ×
      ((o : ℕ) × (top s.run.operands ≡ Object o) × (Few o ≡ true))
  StageHoldsBy Bound k ss s = IsScopeOf k ss × IsSetBy k s
  StageHoldsBy Leaves k ss s = IsScopeOf k ss × IsSetBy k s
  StageHoldsBy Opens k ss s = IsScopeOf k ss × IsSetBy k s
  StageHoldsBy g k ss s = IsUnset k s

  -- a task on that way; all else is there as it is to be
  pub record OpeningBy (s : State) : Type 0 where
    pub cell : ℕ
    pub line : ℕ
    pub next : Stmts
    pub todo : List Todo
    pub stage : Stage
    pub control : s.run.control ≡ stage_todo stage cell line next todo
    pub follows : Begins next ⊎ IsScopeOf cell next
    pub holds : StageHoldsBy stage cell next s
    pub frames : length s.env.frames ≡ suc (length s.callers)
    pub frame : s.run.frame ≤ length s.callers
    pub behind : AllCounted Few (frame_at s.run.frame s.env.frames) todo
    pub callers : CountedStack Few s.env.frames s.callers
    pub env : CountedEnv Few s.env

  -- one that has asked for a new cluster: it goes on so with the number of such a one
  abbrev pub WaitingBy : State → Type 0
  WaitingBy s =
      (o : ℕ) → Few o ≡ true →
      OpeningBy (record s { run = record s.run { operands = Object o ∷ s.run.operands } })

  -- one on the way from a declaration, or from the statement behind that, or filling an array
  abbrev pub OnWayBy : State → Type 0
  OnWayBy s = DeclaringBy Few s ⊎ (OpeningBy s ⊎ FillingBy Few s)

  -- a task that runs, and one that has asked something
  abbrev pub GoodBy : State → Type 0
  GoodBy s = CountedState Few s ⊎ OnWayBy s

  abbrev pub AskedBy : Request → State → Type 0
  AskedBy r s =
      CountedState Few s ⊎
      (((r ≡ ask.Cluster) × WaitingBy s) ⊎ ((AsksObject r × FillWaits Few s) ⊎ (IsLast r × CountedEnv Few s.env)))

  abbrev pub GoodStepBy : Step → Type 0
  GoodStepBy (Goes s) = GoodBy s
  GoodStepBy (Ticks s) = GoodBy s
  GoodStepBy (Asks r s) = AskedBy r s

-- of any numbers
abbrev pub GoodState : State → Type 0
GoodState s = GoodBy Any s
