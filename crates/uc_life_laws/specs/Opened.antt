-- Where a scope opens what it is of holds what is known: what is known by its number, where its variable holds an object; and an object in which
-- nothing is bound.
use Rattle.std.specs.Prelude.{◌≡◌, ℕ, true, List, [], ◌∷◌}
use Rattle.uc_tree.specs.Source.{Variable, CleanUp, Stmts, Scoped}
use Rattle.uc_machine.specs.declared.exec.Owner.TheVariants.{Frame}
use Rattle.uc_machine.specs.Pieces.{Slot, Value, Place, Todo, Rest, State}
use Rattle.uc_typing.specs.Typing.{Ty, Obj, Row, Sig, Table, CleansAt}
use Rattle.uc_typing.specs.States.{Typed}
use Rattle.uc_state_laws.specs.There.{IsThere}
use Rattle.uc_life_laws.specs.Things.{Few, IsUnbound, Holds, numbered}
use Rattle.uc_life_laws.specs.LifeStates.{frame_at, Outwards, OpensBy}
use Rattle.uc_life_laws.specs.Lives.{OutwardsOrMade}

-- any number
abbrev pub any : Few
any = numbered (λ a o. true)

-- an object that is a variable, and those of an array that is one, hold what is known, by these kinds of frames
pub record ObjectsHold (t : Table) (gs : List Sig) (c : CleanUp) (todo : List Todo) (s : State) : Type 0 where
  pub object : (k i : ℕ) → CleansAt t (Obj i) (Variable k) c →
      Holds t any s.env.exec (OutwardsOrMade gs (Outwards t any s.env.exec s.run.frame s.run.this s.callers c todo) s.env.exec s.run.frame s.run.this s.callers) (Frame s.env.exec s.run.frame) (frame_at s.run.frame s.env.frames) (Place (Frame s.env.exec s.run.frame) (Slot k ∷ [])) (Obj i)
  pub array : (k m i : ℕ) → CleansAt t (Row m (Obj i)) (Variable k) c →
      Holds t any s.env.exec (OutwardsOrMade gs (Outwards t any s.env.exec s.run.frame s.run.this s.callers c todo) s.env.exec s.run.frame s.run.this s.callers) (Frame s.env.exec s.run.frame) (frame_at s.run.frame s.env.frames) (Place (Frame s.env.exec s.run.frame) (Slot k ∷ [])) (Row m (Obj i))

-- so it is where a scope opens
abbrev pub ObjectsOpen : Table → List Sig → State → Type 0
ObjectsOpen t gs s = (c : CleanUp) (rest : Stmts) (todo : List Todo) →
    s.run.control ≡ Rest (Scoped c rest) ∷ todo → ObjectsHold t gs c todo s

-- in a state that is in order it is so of what is known by its number as soon as it is there
pub record LawOpens : Type 0 where
  pub opens : (t : Table) (s : State) → Typed t [] s → (gs : List Sig) (c : CleanUp) (rest : Stmts) (todo : List Todo) →
      s.run.control ≡ Rest (Scoped c rest) ∷ todo → IsThere (frame_at s.run.frame s.env.frames) c →
      ObjectsHold t gs c todo s → OpensBy t any (OutwardsOrMade gs) s
  pub unbound : (t : Table) (few : Few) (s : State) (c : CleanUp) (todo : List Todo) (w : Value) (a : Ty) →
      IsUnbound t a →
      Holds t few s.env.exec (Outwards t few s.env.exec s.run.frame s.run.this s.callers c todo) (Frame s.env.exec s.run.frame) (frame_at s.run.frame s.env.frames) w a
