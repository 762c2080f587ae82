-- Of the object that a constructor or a destructor has at hand: it is the execution's own, in a frame below that of the activation, and nothing that
-- older activations have to clean up stands around a mutex object in it.
use Rattle.std.specs.Prelude.{◌≡◌, ℕ, ◌<◌, ◌⊎◌, Bool, true, false, List, [], ◌∷◌}
use Rattle.uc_tree.specs.Source.{Ends, Frees}
use Rattle.uc_machine.specs.declared.exec.Exec.{Exec}
use Rattle.uc_machine.specs.declared.exec.Owner.{Owner}
use Rattle.uc_machine.specs.declared.exec.Owner.TheVariants.{Frame, Fields}
use Rattle.uc_machine.specs.Pieces.{Link, Slot, Value, Number, Place, Running, Object, Nothing, further, Todo, Clean, Active}
use Rattle.uc_typing.specs.Typing.{Ty, Cell, Obj, Table}
use Rattle.uc_life_laws.specs.Things.{Few, AtField, NoBase, InStack, Stands}

-- a place of an owner, or an object of which the fields have it
abbrev pub OwnedBy : Owner → Value → Type 0
OwnedBy q (Number z) = ⊥
OwnedBy q (Place o p) = o ≡ q
OwnedBy q (Running x) = ⊥
OwnedBy q (Object o) = Fields o ≡ q
OwnedBy q Nothing = ⊥

-- a value lies at a place, or some links further
pub data LiesUnder (w : Value) : Value → Type 0 where
  same_place : LiesUnder w w
  further_on : {v : Value} (l : Link) → LiesUnder w v → LiesUnder w (further l v)

-- or in a mutex object that is at home there
pub data LiesIn (few : Few) (w : Value) : Value → Type 0 where
  there : {v : Value} → LiesUnder w v → LiesIn few w v
  at_home : {v : Value} {o : ℕ} → LiesIn few w (few.home o) → OwnedBy (Fields o) v → LiesIn few w v

-- whose a value is, in a frame below this one
pub data BelongsBelow (few : Few) (n : Exec) (d : ℕ) : Value → Type 0 where
  in_frame : {x : Exec} {e : ℕ} {p : List Link} → x ≡ n → e < d → BelongsBelow few n d (Place (Frame x e) p)
  in_fields : {o : ℕ} {p : List Link} → BelongsBelow few n d (few.home o) → BelongsBelow few n d (Place (Fields o) p)
  in_object : {o : ℕ} → BelongsBelow few n d (few.home o) → BelongsBelow few n d (Object o)

-- a scope is still to be left in which the mutex object at hand is built or destroyed
abbrev pub lets_go : List Todo → Bool
lets_go [] = false
lets_go (Clean Ends ∷ todo) = true
lets_go (Clean (Frees r) ∷ todo) = true
lets_go (p ∷ todo) = lets_go todo

-- an object is that of one of these activations, which builds or destroys it so
abbrev pub IsBuilt : List Active → ℕ → Type 0
IsBuilt [] o = ⊥
IsBuilt (a ∷ older) o = ((a.this ≡ Object o) × (lets_go a.control ≡ true)) ⊎ IsBuilt older o

-- the variable of a frame
abbrev pub variable : Exec → ℕ → ℕ → Value
variable n f k = Place (Frame n f) (Slot k ∷ [])

module _ (t : Table) where
  -- the fields of objects at hand that activations have to clean up
  abbrev pub OwnMarked : Exec → List Active → Value → Ty → Type 0
  OwnMarked n cs w a = InStack (AtField t) (AtField t) NoBase n cs w a

  module _ (few : Few) where
    -- none of these things stands around a mutex object that lies in an object, or in one that is at home in that
    abbrev pub NoneWithin : (Value → Ty → Type 0) → Value → Type 0
    NoneWithin K this = (l : Link) (v : Value) (e : ℕ) → LiesIn few (further l this) v → Stands t few K (Cell (Obj e)) v → ⊥
