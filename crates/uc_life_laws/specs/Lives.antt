-- Executions in which variables in scope hold what is known outwards of them, or what is built or destroyed there, as the kinds of frames tell it that go
-- along steps.
use Rattle.std.specs.Prelude.{◌≡◌, ℕ, ◌⊎◌, List, [], ◌∷◌, Some}
use Rattle.uc_tree.specs.Source.{Source}
use Rattle.uc_machine.specs.declared.exec.Exec.{Exec}
use Rattle.uc_machine.specs.Executions.{Execution, at_depth}
use Rattle.uc_machine.specs.Switches.{stopped}
use Rattle.uc_machine.specs.Pieces.{Value, Todo, Active, State}
use Rattle.uc_machine.specs.Quiet.{quiet}
use Rattle.uc_typing.specs.Typing.{Ty, Sig, Table}
use Rattle.uc_typing.specs.States.{Sound}
use Rattle.uc_life_laws.specs.Things.{Few}
use Rattle.uc_life_laws.specs.LifeStates.{BehindMark, LifeExBy, OpensBy, Clears}
use Rattle.uc_life_laws.specs.Knowing.{Making, ClaimsEnv, ClaimsState, StepBy, VariablesKnown, Finds}
use Rattle.uc_life_laws.specs.Kinds.{Claimed}

-- the object of an activation with this frame, where the kind of that is one of what builds or destroys it
abbrev pub MakingAt : List Sig → ℕ → Value → Value → Ty → Type 0
MakingAt gs f this w a = (g : Sig) × (at_depth gs f ≡ Some g) × Making g this w a

-- so of these activations, by the kinds of all frames
abbrev pub MakingIn : List Sig → List Active → Value → Ty → Type 0
MakingIn gs [] w a = ⊥
MakingIn gs (c ∷ older) w a = MakingAt gs c.frame c.this w a ⊎ MakingIn gs older w a

-- behind a mark more is known than what lies outwards of it: what the activation of that mark and older ones build and destroy. So an object that a
-- destructor declares may be bound to what lies in nothing but what that destroys
abbrev pub OutwardsOrMade : List Sig → BehindMark
OutwardsOrMade gs R n f this older w a = R w a ⊎ (MakingAt gs f this w a ⊎ MakingIn gs older w a)

-- that is claimed of executions
abbrev pub Lives : Table → Few → Exec → List Sig → Execution (List Todo) Value → Type 0
Lives t few n gs x = LifeExBy t few (OutwardsOrMade gs) n x

-- a state in which all is known by kinds by which variables in scope hold what is known
abbrev pub LivesState : Table → Few → State → Type 0
LivesState t few s = Claimed (Lives t few) t few [] s

-- by such kinds a step finds what LawKnown asks of it, and where a scope opens, what that is of holds what is known
abbrev pub FindsLiving : (t : Table) (few : Few) (s : State) → LivesState t few s → Type 0
FindsLiving t few s x = Finds t few x.0.sigs x.0.run.sig x.0.run.scope s s.run.control x.0.run.own ×
    OpensBy t few (OutwardsOrMade x.0.sigs) s

-- what is read in such a state at a binding within what is in scope is known; and each step of a sound source leads to such a state, as far as it finds
-- what it is to find, and where cells start anew behind what is in scope
pub record LawLives : Type 0 where
  pub reads : (t : Table) (few : Few) (s : State) (x : LivesState t few s) → VariablesKnown t few x.0.sigs s
  pub steps : (t : Table) (few : Few) (source : Source) → Sound t source → (s : State) (x : LivesState t few s) →
      FindsLiving t few s x → Clears t s →
      StepBy t few (Claimed (Lives t few) t few) (ClaimsEnv t few (Lives t few)) source (quiet source s)
