-- Tasks and what is at home in objects, by what holds of each activation: of the one that runs, in an execution that runs or does not,
-- and of those that wait for another.
use Rattle.std.specs.Prelude.{ℕ, List, [], ◌∷◌, Option, Some, None}
use Rattle.uc_machine.specs.Executions.{Execution}
use Rattle.uc_machine.specs.Pieces.{Value, Todo, Active, State, Env, Members}

abbrev pub Ex : Type 0
Ex = Execution (List Todo) Value

module _ (Run Wait : Active → Type 0) where
  -- activations that wait
  abbrev pub AllWait : List Active → Type 0
  AllWait [] = Unit {0}
  AllWait (a ∷ rest) = Wait a × AllWait rest

  -- an execution that does not run
  pub record RestsEx (x : Ex) : Type 0 where
    pub run : Run x.run
    pub callers : AllWait x.callers

  abbrev pub RestsSlot : Option Ex → Type 0
  RestsSlot None = Unit {0}
  RestsSlot (Some x) = RestsEx x

  abbrev pub RestsParked : List (ℕ × Option Ex) → Type 0
  RestsParked [] = Unit {0}
  RestsParked (p ∷ ps) = RestsSlot p.1 × RestsParked ps

  abbrev pub RestsHand : List (ℕ × Members) → Type 0
  RestsHand [] = Unit {0}
  RestsHand (p ∷ ps) = RestsParked p.1.parked × RestsHand ps

  -- members, if there are any
  abbrev pub RestsMembers : Option Members → Type 0
  RestsMembers None = Unit {0}
  RestsMembers (Some m) = RestsParked m.parked

  -- a task, but for its running execution
  pub record RestsEnv (e : Env) : Type 0 where
    pub house : RestsParked e.house.parked
    pub hand : RestsHand e.hand

  -- with it
  pub record RestsState (s : State) : Type 0 where
    pub run : Run s.run
    pub callers : AllWait s.callers
    pub env : RestsEnv s.env
