-- Where nothing outwards stands around a field: where nothing that older activations have to clean up stands in the object at hand, and the activation
-- itself cleans up other fields alone.
use Rattle.std.specs.Prelude.{◌≡◌, ℕ, List, [], ◌∷◌}
use Rattle.uc_tree.specs.Source.{Shape, Variable, OfObject, OwnField, CleanUp}
use Rattle.uc_machine.specs.declared.exec.Exec.{Exec}
use Rattle.uc_machine.specs.Pieces.{Link, Value, further, Todo, Sort, IsClean, IsPart, sort, Active}
use Rattle.uc_typing.specs.Typing.{Ty, Cell, Obj, Table, CleansAt}
use Rattle.uc_life_laws.specs.Things.{Few, Stands}
use Rattle.uc_life_laws.specs.Belonging.{Belongs}
use Rattle.uc_life_laws.specs.Marks.{Marked, Sole}
use Rattle.uc_putting_laws.specs.ObjectsAtHand.{LiesUnder}

module _ (t : Table) where
  -- none of these things stands around a mutex object that lies in an object
  abbrev pub NoneIn : Few → (Value → Ty → Type 0) → Value → Type 0
  NoneIn few K this = (l : Link) (v : Value) (e : ℕ) → LiesUnder (further l this) v →
      Stands t few K (Cell (Obj e)) v → ⊥

  -- a clean-up is for the field of this number alone, of those of the object at hand; it is for other ones alone, and for no variable
  abbrev pub OfNumber : ℕ → CleanUp → Type 0
  OfNumber i c = (s : Shape) (m : ℕ) (a : Ty) → CleansAt t a (OfObject (OwnField s m)) c → m ≡ i

  pub record OfOthers (i : ℕ) (c : CleanUp) : Type 0 where
    pub fields : (s : Shape) (m : ℕ) (a : Ty) → CleansAt t a (OfObject (OwnField s m)) c → m ≡ i → ⊥
    pub variables : (k : ℕ) (a : Ty) → CleansAt t a (Variable k) c → ⊥

  -- so are all marks of a to-do list
  abbrev pub SortOthers : ℕ → Sort → Type 0
  SortOthers i (IsClean c) = OfOthers i c
  SortOthers i (IsPart c) = OfOthers i c
  SortOthers i k = Unit {0}

  abbrev pub AllOthers : ℕ → List Todo → Type 0
  AllOthers i [] = Unit {0}
  AllOthers i (p ∷ todo) = SortOthers i (sort p) × AllOthers i todo

-- so nothing outwards stands around the field
abbrev pub LawSole : Type 0
LawSole =
    (t : Table) (few : Few) (n : Exec) (f : ℕ) (this : Value) (older : List Active) (todo : List Todo)
    (i : ℕ) (c : CleanUp) → OfNumber t i c → AllOthers t i todo → Belongs few n this →
    NoneIn t few (Marked t n older) this → Sole t few n f this older c todo
