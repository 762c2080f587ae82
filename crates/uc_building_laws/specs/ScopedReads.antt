-- What is read of an object that is a variable in scope, or of an array of such: of the running execution, or of another one that does not run in its task.
use Rattle.std.specs.Prelude.{◌≡◌, ℕ, ◌&&◌, ◌||◌, Bool, true, false, not, List, [], ◌∷◌, Option, Some, None, nat_eq, nat_lt, if◌then◌else◌}
use Rattle.uc_tree.specs.Source.{Shape, Integer, Character, Truth, Binding, Last, Field, Array, Variable, Element, Load, OfObject, Counted, CallOn, CallUnwritten, EndOn, CleanUp, Destroys, DestroysAll}
use Rattle.uc_machine.specs.declared.exec.Owner.TheVariants.{Frame}
use Rattle.uc_machine.specs.declared.exec.Stage.{Stage}
use Rattle.uc_machine.specs.declared.exec.Stage.TheVariants.{Fresh, Started, Ended}
use Rattle.uc_machine.specs.Executions.{Execution, exec_eq, parked_at}
use Rattle.uc_machine.specs.Pieces.{Link, Slot, FieldAt, At, Value, Place, Todo, Sort, sort, IsClean, Active, State, loaded}
use Rattle.uc_typing.specs.Typing.{Ty, Num, Cell, Obj, Raw, Row, Clu, Pro, Table, element_shape}
use Rattle.uc_typing.specs.States.{Is}
use Rattle.uc_life_laws.specs.Things.{Few, IsFew, Known}
use Rattle.uc_life_laws.specs.Knowing.{Here}
use Rattle.uc_building_laws.specs.BuildingStates.{BuiltState}
use Rattle.uc_building_laws.specs.BuiltReads.{ended_class}

-- whether two shapes are the same, and two types
abbrev pub same_shape : Shape → Shape → Bool
same_shape Integer Integer = true
same_shape Character Character = true
same_shape Truth Truth = true
same_shape Binding Binding = true
same_shape Last Last = true
same_shape (Field a b) (Field c d) = same_shape a c && same_shape b d
same_shape (Array n a) (Array m b) = nat_eq n m && same_shape a b
same_shape a b = false

abbrev pub same_type : Ty → Ty → Bool
same_type Num Num = true
same_type (Cell a) (Cell b) = same_type a b
same_type (Obj c) (Obj d) = nat_eq c d
same_type (Raw c) (Raw d) = nat_eq c d
same_type (Row n a) (Row m b) = nat_eq n m && same_type a b
same_type Clu Clu = true
same_type Pro Pro = true
same_type a b = false

-- whether what is read is what a binding is to
abbrev pub is_bound : Ty → Bool
is_bound (Cell Num) = true
is_bound (Obj c) = true
is_bound Clu = true
is_bound Pro = true
is_bound a = false

-- what has not ended
abbrev pub is_up : Stage → Bool
is_up Fresh = true
is_up Started = true
is_up Ended = false

-- a variable with its type
abbrev pub Typed : Type 0
Typed = ℕ × Ty

-- what is of a class: a plain object, or the cell of a mutex object
abbrev pub cell_of : ℕ → Ty
cell_of c = Cell (Obj c)

abbrev pub one_at : (ℕ → Ty) → ℕ → Option ℕ → Option Typed
one_at f k None = None
one_at f k (Some c) = Some (k, f c)

module _ (t : Table) where
  -- so many, whose elements have such a shape
  abbrev pub many_at : (ℕ → Ty) → ℕ → ℕ → Shape → ℕ → Option ℕ → Option Typed
  many_at f n m s k None = None
  many_at f n m s k (Some c) = if nat_eq n m && same_shape s (element_shape t (f c)) then Some (k, Row m (f c)) else None

  -- the variable that a clean-up is for, where that is an object or an array of such
  abbrev pub ended_variable : CleanUp → Option Typed
  ended_variable (Destroys (OfObject (CallOn d (Variable k) args))) = one_at Obj k (ended_class (t.routine d))
  ended_variable (Destroys (OfObject (CallUnwritten d (Variable k)))) = one_at Obj k (ended_class (t.routine d))
  ended_variable (Destroys (OfObject (EndOn d written (Load (Variable k))))) = one_at cell_of k (ended_class (t.routine d))
  ended_variable (DestroysAll m (OfObject (CallOn d (Element n s (Variable k) (OfObject Counted)) args))) = many_at Obj n m s k (ended_class (t.routine d))
  ended_variable (DestroysAll m (OfObject (CallUnwritten d (Element n s (Variable k) (OfObject Counted))))) = many_at Obj n m s k (ended_class (t.routine d))
  ended_variable (DestroysAll m (OfObject (EndOn d written (Load (Element n s (Variable k) (OfObject Counted)))))) = many_at cell_of n m s k (ended_class (t.routine d))
  ended_variable c = None

  -- the type of a field, and of an element, of what is of a type
  abbrev pub is_field : ℕ → ℕ → Bool
  is_field c i = if t.executes c then nat_lt 0 i else true

  abbrev pub field_type : Shape → ℕ → Option Ty → Option Ty
  field_type s i (Some (Obj c)) = if same_shape s (t.shape c) && is_field c i then Some (t.fields c i) else None
  field_type s i a = None

  abbrev pub element_type : Shape → ℕ → Option Ty → Option Ty
  element_type s j (Some (Row m b)) = if same_shape s (element_shape t b) && nat_lt j m then Some b else None
  element_type s j a = None

  -- and of what a path leads to in a variable
  abbrev pub path_type : Typed → List Link → Option Ty
  path_type x [] = None
  path_type x (Slot j ∷ []) = if nat_eq j x.0 then Some x.1 else None
  path_type x (Slot j ∷ (l ∷ p)) = None
  path_type x (FieldAt s i ∷ p) = field_type s i (path_type x p)
  path_type x (At s j ∷ p) = element_type s j (path_type x p)

  abbrev pub is_type : Ty → Option Ty → Bool
  is_type b None = false
  is_type b (Some a) = same_type a b

  -- at this path what is of this type lies in a variable that is to be cleaned up
  module _ (b : Ty) (p : List Link) where
    abbrev pub variable_has : Option Typed → Bool
    variable_has None = false
    variable_has (Some x) = is_type b (path_type x p)

    abbrev pub mark_has : Sort → Bool
    mark_has (IsClean c) = variable_has (ended_variable c)
    mark_has k = false

    abbrev pub todo_has : List Todo → Bool
    todo_has [] = false
    todo_has (x ∷ todo) = mark_has (sort x) || todo_has todo

    -- in the frame of this depth
    abbrev pub stack_has : ℕ → List Active → Bool
    stack_has d [] = false
    stack_has d (c ∷ older) = (nat_eq c.frame d && todo_has c.control) || stack_has d older

    abbrev pub parked_has : ℕ → Option (Execution (List Todo) Value) → Bool
    parked_has d None = false
    parked_has d (Some x) = is_up x.links.stage && stack_has d (x.run ∷ x.callers)

  module _ (s : State) (a : Ty) where
    -- a binding of this type is read in a variable of the running execution, and in one of another execution that does not run in its task
    abbrev pub in_own : Value → Bool
    in_own (Place (Frame n d) p) = is_bound a && (exec_eq n s.env.exec && stack_has (Cell a) p d (s.run ∷ s.callers))
    in_own v = false

    abbrev pub in_others : Value → Bool
    in_others (Place (Frame n d) p) = is_bound a && (not (exec_eq n s.env.exec) && parked_has (Cell a) p d (parked_at n s.env))
    in_others v = false

-- in a state in which all is known by kinds by which variables in scope hold what is known, what is read there is known; what is read in what others have in scope is of its
-- type, and a number is such
pub record LawScopedReads : Type 0 where
  pub own : (t : Table) (heads : ℕ → ℕ → Bool) (few : Few) (s : State) (x : BuiltState t heads few [] s) (a : Ty) (v : Value) →
      in_own t s a v ≡ true → Known t few s.env.exec (Here t few x.0.sigs s) a (loaded v s.env)
  pub others : (t : Table) (heads : ℕ → ℕ → Bool) (few : Few) (s : State) (x : BuiltState t heads few [] s) (a : Ty) (v : Value) →
      in_others t s a v ≡ true → Is t a (loaded v s.env) × IsFew t few s.env.exec a (loaded v s.env)
