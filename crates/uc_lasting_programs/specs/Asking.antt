-- In what state a request is made: an object that is made, a call, an object that goes, and an event that is raised.
use Rattle.std.specs.Prelude.{◌≡◌, ℕ, ◌⊎◌, List, ◌∷◌, Some, slice_get}
use Rattle.uc_tree.specs.Source.{Source, Routine}
use Rattle.uc_entry.specs.declared.request.Request.{Request}
use Rattle.uc_entry.specs.declared.request.Request.TheVariants as ask
use Rattle.uc_machine.specs.Monitors.{this_object}
use Rattle.uc_machine.specs.Pieces.{Object, Todo, MakeNow, BindMadeNow, EnterNow, GoneNow, GiveUpNow, RaiseAtNow, State, Asks, top}
use Rattle.uc_machine.specs.Quiet.{quiet}

-- an object goes with the activation that has it at hand and lets go of it, which has nothing else done before; what runs, what is at hand and what is parked
-- stays
pub record LetsGoAt (o : ℕ) (s u : State) : Type 0 where
  pub object : o ≡ this_object s
  pub todo : List Todo
  pub lets_go : (s.run.control ≡ GoneNow ∷ todo) ⊎ (s.run.control ≡ GiveUpNow ∷ todo)
  pub run : u.run ≡ record s.run { control = todo }
  pub callers : u.callers ≡ s.callers
  pub exec : u.env.exec ≡ s.env.exec
  pub own : u.env.own ≡ s.env.own
  pub house : u.env.house ≡ s.env.house
  pub hand : u.env.hand ≡ s.env.hand

-- an object is made for what binds it next, before its constructor, which is there; no operand is taken
pub record MakesAt (source : Source) (s u : State) : Type 0 where
  pub class : ℕ
  pub builder : ℕ
  pub todo : List Todo
  pub makes : s.run.control ≡ MakeNow class builder ∷ todo
  pub binds : u.run.control ≡ BindMadeNow class builder ∷ todo
  pub operands : u.run.operands ≡ s.run.operands
  pub routine : Routine
  pub known : slice_get source.routines builder ≡ Some routine

-- a call is that of the mutex member, or of what builds or destroys, at the head; an event is raised at the newest operand, an object
abbrev pub AskedAt : Source → Request → State → State → Type 0
AskedAt source (ask.Make c) s u = MakesAt source s u
AskedAt source (ask.Call o m) s u = (k : ℕ) × (i : ℕ) × (todo : List Todo) × (s.run.control ≡ EnterNow k i ∷ todo)
AskedAt source (ask.Gone o) s u = LetsGoAt o s u
AskedAt source (ask.Raise o event x y) s u = (todo : List Todo) × (s.run.control ≡ RaiseAtNow ∷ todo) ×
    (top s.run.operands ≡ Object o)
AskedAt source r s u = Unit {0}

-- of each quiet step of whatever source
abbrev pub LawAskedAt : Type 0
LawAskedAt = (source : Source) (s : State) (r : Request) (u : State) → quiet source s ≡ Asks r u → AskedAt source r s u
