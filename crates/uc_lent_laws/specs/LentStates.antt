-- Mutex objects in hand whose cells hold numbers, or a place or an object of which something is told.
use Rattle.std.specs.Prelude.{◌≡◌, ℕ, List, [], ◌∷◌, drop, slice_index_or, Option, Some, None, slice_get}
use Rattle.uc_tree.specs.Source.{Routine, Source}
use Rattle.uc_machine.specs.declared.exec.Owner.TheVariants.{Frame, Fields}
use Rattle.uc_machine.specs.Pieces as piece
use Rattle.uc_machine.specs.Pieces.{Value, Number, Place, Running, Object, Nothing, Todo, State, Members, Step, Goes, Ticks, Asks, address, nought, top, below}

-- `T o k v`: it is told that the cell k of the object o may hold v
module _ (T : ℕ → ℕ → Value → Type 0) where
  -- of numbers, and of names of executions, nothing is told
  abbrev pub MayHold : ℕ → ℕ → Value → Type 0
  MayHold o k (Number z) = Unit {0}
  MayHold o k (Place u p) = T o k (Place u p)
  MayHold o k (Running x) = Unit {0}
  MayHold o k (Object q) = T o k (Object q)
  MayHold o k Nothing = Unit {0}

  -- each cell of an object with these values holds what it may
  abbrev pub ValuesTold : ℕ → List Value → Type 0
  ValuesTold o vs = (k : ℕ) → MayHold o k (slice_index_or vs k nought)

  abbrev pub MembersTold : ℕ → Option Members → Type 0
  MembersTold o None = Unit {0}
  MembersTold o (Some m) = ValuesTold o m.values

  abbrev pub HandTold : List (ℕ × Members) → Type 0
  HandTold [] = Unit {0}
  HandTold (p ∷ ps) = ValuesTold p.0 p.1.values × HandTold ps

  -- of a task, with what it has in hand
  abbrev pub StateTold : State → Type 0
  StateTold s = HandTold s.env.hand

  abbrev pub StepTold : Step → Type 0
  StepTold (Goes s) = StateTold s
  StepTold (Ticks s) = StateTold s
  StepTold (Asks r s) = StateTold s

  -- what is bound at a place of an object may be there
  abbrev pub MayBind : Value → Value → Type 0
  MayBind (Number z) w = Unit {0}
  MayBind (Place (Frame n d) p) w = Unit {0}
  MayBind (Place (Fields o) p) w = MayHold o (address p) w
  MayBind (Running x) w = Unit {0}
  MayBind (Object o) w = MayHold o 0 w
  MayBind Nothing w = Unit {0}

  module _ (source : Source) where
    -- so it is of what a step binds: by a binding, and to a new mutex object
    abbrev pub BindsAt : List Todo → State → Type 0
    BindsAt (piece.BindNow ∷ todo) s = MayBind (top (below s.run.operands)) (top s.run.operands)
    BindsAt (piece.BindMadeNow c r ∷ todo) s = (x : Routine) → slice_get source.routines r ≡ Some x →
        MayBind (top (drop x.params (below s.run.operands))) (top s.run.operands)
    BindsAt todo s = Unit {0}

    abbrev pub Binds : State → Type 0
    Binds s = BindsAt s.run.control s
