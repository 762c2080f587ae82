-- What is left to show of what is read, but of what lies in plain objects that are variables in scope.
use Rattle.std.specs.Prelude.{ℕ, ◌⊎◌, Bool, true, false, List, [], ◌∷◌}
use Rattle.uc_tree.specs.Source.{OfObject, GetOwn}
use Rattle.uc_machine.specs.Pieces.{FieldAt, Value, Todo, Eval, LoadNow, State, further, loaded, top}
use Rattle.uc_typing.specs.Typing.{Ty, Cell, Name, Sig, Table, ObjectGives}
use Rattle.uc_life_laws.specs.Things.{IsTracked, IsSited, Held}
use Rattle.uc_life_laws.specs.Knowing.{IsOwn, Here}
use Rattle.uc_life_laws.specs.Opened.{any}
use Rattle.uc_life_laws.specs.FoundReads.{ReadsFound}
use Rattle.uc_building_laws.specs.ScopedReads.{in_own, in_others}

module _ (t : Table) (gs : List Sig) (s : State) where
  -- in a frame of its own, the place of what is told by the thing in which it lies does so in what is at hand
  abbrev pub LiesRight : Ty → Value → Type 0
  LiesRight a v = IsOwn s.env.exec v → IsTracked t a ⊎ IsSited a → Held t any (Here t any gs s) a v

  -- a binding is read in a variable in scope, of the running execution or of another one, or elsewhere: in the first case it is right by what is in scope, in the
  -- second as far as it lies where it is to
  abbrev pub BoundRight : (own others : Bool) → Ty → Value → Type 0
  BoundRight true others a v = Unit {0}
  BoundRight false true a v = LiesRight a (loaded v s.env)
  BoundRight false false a v = ReadsFound t any gs s a v

  abbrev pub ReadsRight : Ty → Value → Type 0
  ReadsRight a v = BoundRight (in_own t s a v) (in_others t s a v) a v

  -- by what is next to do
  abbrev pub ReadsRightAt : Sig → List Name → List Todo → List Ty → Type 0
  ReadsRightAt g sc (Eval (OfObject (GetOwn k i)) ∷ todo) own = (a : Ty) → ObjectGives t g sc (GetOwn k i) a →
      ReadsRight a (further (FieldAt k i) s.run.this)
  ReadsRightAt g sc (LoadNow ∷ todo) (Cell a ∷ more) = ReadsRight a (top s.run.operands)
  ReadsRightAt g sc todo own = Unit {0}
