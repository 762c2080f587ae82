-- Tasks and what is at home in objects, by what holds of each activation of an execution of a name: of the one that runs, in an execution that
-- runs or does not, and of those that wait for another.
use Rattle.std.specs.Prelude.{ℕ, List, [], ◌∷◌, Option, Some, None}
use Rattle.uc_machine.specs.declared.exec.Exec.{Exec}
use Rattle.uc_machine.specs.declared.exec.Home.{Home}
use Rattle.uc_machine.specs.declared.exec.Home.TheVariants.{Task, Object}
use Rattle.uc_machine.specs.Executions.{Execution}
use Rattle.uc_machine.specs.Pieces.{Value, Todo, Active, State, Env, Members}

module _ (Run Wait : Exec → Active → Type 0) where
  -- activations that wait
  abbrev pub AllWait : Exec → List Active → Type 0
  AllWait n [] = Unit {0}
  AllWait n (a ∷ rest) = Wait n a × AllWait n rest

  -- an execution of this name that does not run
  pub record NamedEx (n : Exec) (x : Execution (List Todo) Value) : Type 0 where
    pub run : Run n x.run
    pub callers : AllWait n x.callers

  abbrev pub NamedSlot : Exec → Option (Execution (List Todo) Value) → Type 0
  NamedSlot n None = Unit {0}
  NamedSlot n (Some x) = NamedEx n x

  -- what is left at a home, each under its number
  abbrev pub NamedParked : Home → List (ℕ × Option (Execution (List Todo) Value)) → Type 0
  NamedParked h [] = Unit {0}
  NamedParked h (p ∷ ps) = NamedSlot (record { home = h; serial = p.0 }) p.1 × NamedParked h ps

  abbrev pub NamedHand : List (ℕ × Members) → Type 0
  NamedHand [] = Unit {0}
  NamedHand (p ∷ ps) = NamedParked (Object p.0) p.1.parked × NamedHand ps

  abbrev pub NamedMembers : Home → Option Members → Type 0
  NamedMembers h None = Unit {0}
  NamedMembers h (Some m) = NamedParked h m.parked

  -- a task, but for its running execution, and with it
  pub record NamedEnv (e : Env) : Type 0 where
    pub house : NamedParked (Task e.own) e.house.parked
    pub hand : NamedHand e.hand

  pub record NamedState (s : State) : Type 0 where
    pub run : Run s.env.exec s.run
    pub callers : AllWait s.env.exec s.callers
    pub env : NamedEnv s.env
