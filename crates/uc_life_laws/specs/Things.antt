-- What an execution knows: the things that are still to be cleaned up, each by its place and its type, and all that lies within them.
use Rattle.std.specs.Prelude.{◌≡◌, ℕ, ◌≤◌, ◌<◌, ◌⊎◌, Bool, true, List, [], ◌∷◌, slice_index_or, false, if◌then◌else◌}
use Rattle.uc_tree.specs.Source.{Shape, Binding, Variable, OfObject, OwnField, CleanUp, Scoped}
use Rattle.uc_machine.specs.declared.exec.Exec.{Exec}
use Rattle.uc_machine.specs.declared.exec.Owner.{Owner}
use Rattle.uc_machine.specs.declared.exec.Owner.TheVariants.{Frame, Fields}
use Rattle.uc_machine.specs.Executions.{exec_eq}
use Rattle.uc_machine.specs.Pieces as piece
use Rattle.uc_machine.specs.Pieces.{Link, Slot, FieldAt, At, Value, Number, Place, Running, Object, Nothing, further, nought, address, Todo, Sort, sort, IsClean, IsPart, Active}
use Rattle.uc_typing.specs.Typing.{Ty, Num, Cell, Obj, Raw, Row, Clu, Pro, Table, element_shape, CleansAt}
use Rattle.uc_typing.specs.States.{Is}

-- a field that somebody declared: the first cell of a coroutine names its execution
abbrev pub IsField : Table → ℕ → ℕ → Type 0
IsField t c i = t.executes c ≡ true → 1 ≤ i

-- what lies within a thing of a type at a place: it itself, the fields of an object whose fields have places, the elements of an array
pub data Within (t : Table) (w : Value) (a : Ty) : Value → Ty → Type 0 where
  itself : Within t w a w a
  field : {v : Value} {c : ℕ} → Within t w a v (Obj c) → (i : ℕ) → IsField t c i →
      Within t w a (further (FieldAt (t.shape c) i) v) (t.fields c i)
  element : {v : Value} {m : ℕ} {b : Ty} → Within t w a v (Row m b) → (j : ℕ) → j < m →
      Within t w a (further (At (element_shape t b) j) v) b

-- what a binding is to: a scalar's place, an object, a cluster or a processor
abbrev pub IsScalar : Ty → Type 0
IsScalar Num = Unit {0}
IsScalar a = ⊥

abbrev pub IsBinding : Ty → Type 0
IsBinding Num = ⊥
IsBinding (Cell a) = IsScalar a
IsBinding (Obj c) = Unit {0}
IsBinding (Raw c) = ⊥
IsBinding (Row n a) = ⊥
IsBinding Clu = Unit {0}
IsBinding Pro = Unit {0}

-- the things of activations

-- in an activation with this frame and this object: what a clean-up is for, which stands at a variable of the frame, or at a field of the object
abbrev pub AtVariable : Table → Owner → Value → CleanUp → Value → Ty → Type 0
AtVariable t o this c w a = (k : ℕ) × CleansAt t a (Variable k) c × (w ≡ Place o (Slot k ∷ []))

abbrev pub AtField : Table → Owner → Value → CleanUp → Value → Ty → Type 0
AtField t o this c w a = (s : Shape) × (i : ℕ) × CleansAt t a (OfObject (OwnField s i)) c ×
    (w ≡ further (FieldAt s i) this)

abbrev pub IsFor : Table → Owner → Value → CleanUp → Value → Ty → Type 0
IsFor t o this c w a = AtVariable t o this c w a ⊎ AtField t o this c w a

abbrev pub Nowhere : Owner → Value → CleanUp → Value → Ty → Type 0
Nowhere o this c w a = ⊥

-- `P c w a`: the clean-up c of a scope is for what is of the type a at the place w; `Q c w a`: so is that of a part of the object under construction
module _ (P Q : CleanUp → Value → Ty → Type 0) where
  -- a mark, before what lies outwards of it
  abbrev pub Marks : Sort → Value → Ty → Type 0 → Type 0
  Marks (IsClean c) w a rest = P c w a ⊎ rest
  Marks (IsPart c) w a rest = Q c w a ⊎ rest
  Marks k w a rest = rest

  abbrev pub InTodo : List Todo → Value → Ty → Type 0
  InTodo [] w a = ⊥
  InTodo (p ∷ todo) w a = Marks (sort p) w a (InTodo todo w a)

-- of an execution of this name, the newest activation first, and behind all of them what it has of others
module _ (P Q : Owner → Value → CleanUp → Value → Ty → Type 0) (B : Value → Ty → Type 0) (n : Exec) where
  abbrev pub InStack : List Active → Value → Ty → Type 0
  InStack [] w a = B w a
  InStack (c ∷ older) w a = InTodo (P (Frame n c.frame) c.this) (Q (Frame n c.frame) c.this) c.control w a ⊎
      InStack older w a

-- what there is: the numbers that what is of a type may have (`numbers a o`), the place at which what has a number is at home, which was bound to
-- that number, and what each execution has at hand of what lies outside it
pub record Few : Type 0 where
  pub numbers : Ty → ℕ → Bool
  pub home : ℕ → Value
  pub base : Exec → Value → Ty → Bool

-- where numbers alone are told, each execution has at hand all that is not in a frame of its own
abbrev pub is_outside : Exec → Value → Bool
is_outside n (Number z) = true
is_outside n (Place (Frame x d) p) = if exec_eq x n then false else true
is_outside n (Place (Fields o) p) = true
is_outside n (Running x) = true
is_outside n (Object o) = true
is_outside n Nothing = true

-- what is being built or destroyed has the numbers of what is whole
abbrev pub or_raw : (Ty → ℕ → Bool) → Ty → ℕ → Bool
or_raw numbers Num o = numbers Num o
or_raw numbers (Cell a) o = numbers (Cell a) o
or_raw numbers (Obj c) o = numbers (Obj c) o
or_raw numbers (Raw c) o = numbers (Obj c) o
or_raw numbers (Row n a) o = numbers (Row n a) o
or_raw numbers Clu o = numbers Clu o
or_raw numbers Pro o = numbers Pro o

abbrev pub numbered : (Ty → ℕ → Bool) → Few
numbered numbers = record { numbers = or_raw numbers; home = λ o. Nothing; base = λ n w a. is_outside n w }

abbrev pub Base : Few → Exec → Value → Ty → Type 0
Base few n w a = few.base n w a ≡ true

abbrev pub NoBase : Value → Ty → Type 0
NoBase w a = ⊥

-- all things of an execution; those that are variables; and those that are fields of objects at hand, or others'
abbrev pub Things : Table → Few → Exec → List Active → Value → Ty → Type 0
Things t few n cs w a = InStack (IsFor t) (AtField t) (Base few n) n cs w a

abbrev pub Variables : Table → Exec → List Active → Value → Ty → Type 0
Variables t n cs w a = InStack (AtVariable t) Nowhere NoBase n cs w a

abbrev pub OwnFields : Table → Few → Exec → List Active → Value → Ty → Type 0
OwnFields t few n cs w a = InStack (AtField t) (AtField t) (Base few n) n cs w a

-- what is being built

-- the scope that opens next behind a call: that of a variable, or of an array that is being filled
abbrev pub AwaitsScope : (CleanUp → Type 0) → List Todo → Type 0
AwaitsScope P (piece.DropNow ∷ (piece.Within line ∷ (piece.Rest (Scoped c ss) ∷ todo))) = P c
AwaitsScope P (piece.DropNow ∷ (piece.MoreNow ∷ (piece.FillNow n b d ∷ (piece.Within line ∷ (piece.Rest (Scoped c ss) ∷ todo))))) = P c
AwaitsScope P todo = ⊥

-- an object that lies in what that scope is of, as one that is not whole
abbrev pub IsAwaited : Table → Owner → Value → List Todo → Value → Ty → Type 0
IsAwaited t o this todo w a = (c : ℕ) × (a ≡ Raw c) ×
    AwaitsScope (λ x. (v : Value) × (b : Ty) × IsFor t o this x v b × Within t v b w (Obj c)) todo

-- those of activations that wait; of an execution, whose newest activation runs, those that the others wait for
abbrev pub Unmade : Table → Exec → List Active → Value → Ty → Type 0
Unmade t n [] w a = ⊥
Unmade t n (c ∷ older) w a = IsAwaited t (Frame n c.frame) c.this c.control w a ⊎ Unmade t n older w a

abbrev pub UnmadeBehind : Table → Exec → List Active → Value → Ty → Type 0
UnmadeBehind t n [] w a = ⊥
UnmadeBehind t n (c ∷ older) w a = Unmade t n older w a

-- what activations that wait have, with what they wait for; so what an execution has whose newest activation runs
abbrev pub Outer : Table → Few → Exec → List Active → Value → Ty → Type 0
Outer t few n cs w a = Things t few n cs w a ⊎ Unmade t n cs w a

abbrev pub Around : Table → Few → Exec → List Active → Value → Ty → Type 0
Around t few n [] w a = Base few n w a
Around t few n (c ∷ older) w a = InTodo (IsFor t (Frame n c.frame) c.this) (AtField t (Frame n c.frame) c.this) c.control w a ⊎
    Outer t few n older w a

-- a binding to a place or to an object
abbrev pub IsReference : Ty → Type 0
IsReference Num = ⊥
IsReference (Cell a) = IsScalar a
IsReference (Obj c) = Unit {0}
IsReference (Raw c) = ⊥
IsReference (Row n a) = ⊥
IsReference Clu = ⊥
IsReference Pro = ⊥

-- nothing is bound in what is of this type
abbrev pub IsUnbound : Table → Ty → Type 0
IsUnbound t a = (w v : Value) (b : Ty) → Within t w a v (Cell b) → IsBinding b → ⊥

-- a place of this type is told by the thing in which it lies: that of an object in which something is bound, of an array of such, and of a
-- reference. It is not told of scalars and of what is being built; nor of clusters and processors, of which a variable that is still to be bound
-- has the type of one that is
abbrev pub IsTracked : Table → Ty → Type 0
IsTracked t Num = ⊥
IsTracked t (Cell a) = IsReference a
IsTracked t (Obj c) = IsUnbound t (Obj c) → ⊥
IsTracked t (Raw c) = ⊥
IsTracked t (Row n a) = IsTracked t a × (0 < n)
IsTracked t Clu = ⊥
IsTracked t Pro = ⊥

-- a cluster or a processor
abbrev pub IsResource : Ty → Type 0
IsResource Num = ⊥
IsResource (Cell a) = ⊥
IsResource (Obj c) = ⊥
IsResource (Raw c) = ⊥
IsResource (Row n a) = ⊥
IsResource Clu = Unit {0}
IsResource Pro = Unit {0}

-- the place of one, or of an array of them
abbrev pub IsSited : Ty → Type 0
IsSited Num = ⊥
IsSited (Cell a) = IsResource a
IsSited (Obj c) = ⊥
IsSited (Raw c) = ⊥
IsSited (Row n a) = IsSited a × (0 < n)
IsSited Clu = ⊥
IsSited Pro = ⊥

-- a variable, or an element of an array that is one; and an element that is kept as no binding is
abbrev pub IsOfVariable : List Link → Type 0
IsOfVariable [] = ⊥
IsOfVariable (Slot k ∷ p) = p ≡ []
IsOfVariable (At s j ∷ p) = IsOfVariable p
IsOfVariable (FieldAt s i ∷ p) = ⊥

abbrev pub IsStray : List Link → Type 0
IsStray [] = ⊥
IsStray (Slot k ∷ p) = ⊥
IsStray (At s j ∷ p) = (s ≡ Binding → ⊥) ⊎ IsStray p
IsStray (FieldAt s i ∷ p) = ⊥

-- the place of such a variable in a frame of this execution, or of such an element
abbrev pub IsLoosePlace : Exec → Value → Type 0
IsLoosePlace n (Number z) = ⊥
IsLoosePlace n (Place (Frame x d) p) = (IsOfVariable p × (x ≡ n)) ⊎ IsStray p
IsLoosePlace n (Place (Fields o) p) = IsStray p
IsLoosePlace n (Running x) = ⊥
IsLoosePlace n (Object o) = ⊥
IsLoosePlace n Nothing = ⊥

-- what is known

-- a mutex object
abbrev pub IsMutex : Table → Ty → Type 0
IsMutex t Num = ⊥
IsMutex t (Cell a) = ⊥
IsMutex t (Obj c) = t.mutex c ≡ true
IsMutex t (Raw c) = ⊥
IsMutex t (Row n a) = ⊥
IsMutex t Clu = ⊥
IsMutex t Pro = ⊥

-- what stands in what is at hand: in a thing, or in a mutex object whose home stands there
pub data Stands (t : Table) (few : Few) (K : Value → Ty → Type 0) : Ty → Value → Type 0 where
  lies : {w : Value} {a b : Ty} {v : Value} → K w a → Within t w a v b → Stands t few K b v
  inside : {o c : ℕ} {b : Ty} {v : Value} → t.mutex c ≡ true → Stands t few K (Cell (Obj c)) (few.home o) →
      Within t (Object o) (Obj c) v b → Stands t few K b v

-- what lies in an object at hand that is being built or destroyed
abbrev pub InMade : Table → (Value → Ty → Type 0) → Ty → Value → Type 0
InMade t K b v = (w : Value) × (c : ℕ) × K w (Raw c) × Within t w (Obj c) v b

abbrev pub Held : Table → Few → (Value → Ty → Type 0) → Ty → Value → Type 0
Held t few K b v = Stands t few K b v ⊎ InMade t K b v

module _ (t : Table) (few : Few) (n : Exec) where
  abbrev pub IsFew : Ty → Value → Type 0
  IsFew a (Number z) = Unit {0}
  IsFew a (Place o p) = Unit {0}
  IsFew a (Running x) = Unit {0}
  IsFew a (Object o) = few.numbers a o ≡ true
  IsFew a Nothing = Unit {0}

  -- a place lies in what is at hand, and so does an object that is known by its number
  abbrev pub LiesIn : (Value → Ty → Type 0) → Ty → Value → Type 0
  LiesIn K b (Number z) = Unit {0}
  LiesIn K b (Place o p) = Held t few K b (Place o p)
  LiesIn K b (Running x) = Unit {0}
  LiesIn K b (Object o) = Held t few K b (Object o)
  LiesIn K b Nothing = Unit {0}

  -- one of a cluster or a processor does so, or it is that of a variable, which may still be to be bound, or of an element of one
  abbrev pub IsSeated : (Value → Ty → Type 0) → Ty → Value → Type 0
  IsSeated K b v = LiesIn K b v ⊎ IsLoosePlace n v

  -- it is of its type, a number is such, and a place lies in what is at hand, and so does a mutex object. Of the places of scalars nothing
  -- more is told
  pub record IsKnown (K : Value → Ty → Type 0) (a : Ty) (v : Value) : Type 0 where
    pub is : Is t a v
    pub passes : IsFew a v
    pub rooted : IsTracked t a → LiesIn K a v
    pub held : IsMutex t a → LiesIn K a v
    pub seated : IsSited a → IsSeated K a v

  -- one that is being built or destroyed has such a number
  pub record IsMade (c : ℕ) (v : Value) : Type 0 where
    pub is : Is t (Raw c) v
    pub passes : IsFew (Raw c) v

  -- a value of a type is known: of numbers nothing is claimed
  abbrev pub Known : (Value → Ty → Type 0) → Ty → Value → Type 0
  Known K Num v = Unit {0}
  Known K (Cell a) v = IsKnown K (Cell a) v
  Known K (Obj c) v = IsKnown K (Obj c) v
  Known K (Raw c) v = IsMade c v
  Known K (Row m a) v = IsKnown K (Row m a) v
  Known K Clu v = IsKnown K Clu v
  Known K Pro v = IsKnown K Pro v

  -- each binding within a thing at a place of an owner with these values is to what is known
  abbrev pub Holds : (Value → Ty → Type 0) → Owner → List Value → Value → Ty → Type 0
  Holds K o vs w a = (p : List Link) (b : Ty) → Within t w a (Place o p) (Cell b) → IsBinding b →
      Known K b (slice_index_or vs (address p) nought)

-- a thing lies before a cell of its owner: all its bindings do
abbrev pub LiesBefore : Table → ℕ → Owner → Value → Ty → Type 0
LiesBefore t cell o w a = (p : List Link) (b : Ty) → Within t w a (Place o p) (Cell b) → address p < cell
