-- What the rules say that an expression stands for, and what it is resolved to: the one agrees with the other where it is in order, and
-- finds or gives what is of its type.
use Rattle.std.specs.Prelude.{◌≡◌, ℕ, ◌⊎◌, List, [], ◌∷◌, Bool, true, false, Option, Some, None, map, if◌then◌else◌}
use Rattle.uc_tree.specs.declared.kinds.Base.{Base}
use Rattle.uc_tree.specs.declared.kinds.Kind.{Kind}
use Rattle.uc_tree.specs.declared.kinds.Param.{Param}
use Rattle.uc_tree.specs.declared.kinds.LocalVariable.{LocalVariable}
use Rattle.uc_tree.specs.declared.kinds.Ty.{Ty as Declared}
use Rattle.uc_tree.specs.Numbering.{is_mutex}
use Rattle.uc_tree.specs.Objects.{is_task, base_shape}
use Rattle.uc_tree.specs.Programs.{Program}
use Rattle.uc_tree.specs.Expressions as expr
use Rattle.uc_tree.specs.Source.{Expr, OfObject, This}
use Rattle.uc_resolve.specs.Standings as tree
use Rattle.uc_resolve.specs.Standings.{Standing, AtVariable, AtField, AtPlace, AsNumber, AsValue, AsRoutine, AsCondition, AsCallOf, ConditionCall, Waits, Signals, SignalsBlocking, AsksEmpty, AsksFront, value_by, known_meant, meant, params_of}
use Rattle.uc_rules.specs.declared.rules.Sort.{Sort}
use Rattle.uc_rules.specs.declared.rules.Sort.TheVariants as sort
use Rattle.uc_rules.specs.declared.rules.Entity.{Entity}
use Rattle.uc_rules.specs.declared.rules.Entity.TheVariants as entity
use Rattle.uc_rules.specs.declared.rules.Operation.{Operation}
use Rattle.uc_rules.specs.declared.rules.Operation.TheVariants as operation
use Rattle.uc_rules.specs.declared.rules.NameMeaning.{NameMeaning}
use Rattle.uc_rules.specs.declared.rules.LocalName.{LocalName}
use Rattle.uc_rules.specs.Sorts.{is_scalar_sort, is_condition, sort_of}
use Rattle.uc_rules.specs.Names.{routine_sig, method_sig, params_in}
use Rattle.uc_rules.specs.Scopes.{Env, named, local_named}
use Rattle.uc_rules.specs.Entities.{meant_entity, object_member, open_entity, is_main_sig, entity_of}
use Rattle.uc_rules.specs.OwnerBreaks.{is_mutex_field_of, names_condition}
use Rattle.uc_rules.specs.Visits.{visits}
use Rattle.uc_sound.specs.Unbroken.{Unbroken}
use Rattle.uc_typing.specs.Typing.{Ty, Num, Cell, Obj, Row, Clu, Pro, Name, Inward, Helps, Sig, Table, IsPlaced, IsKept, IsRoutine, IsInside, IsOpen, InMutex, Yields, Fine}

-- whether what is of a sort is known by its number
abbrev pub is_numbered : Sort → Bool
is_numbered sort.Void = false
is_numbered sort.Int = false
is_numbered sort.Char = false
is_numbered sort.Bool = false
is_numbered sort.Condition = false
is_numbered sort.Cluster = true
is_numbered sort.Processor = true
is_numbered (sort.Object class k) = is_mutex k

-- what an expression of a sort finds: the place of a scalar, an object, a cluster, a processor; a condition's number
abbrev pub found_ty : Sort → Ty
found_ty sort.Void = Num
found_ty sort.Int = Cell Num
found_ty sort.Char = Cell Num
found_ty sort.Bool = Cell Num
found_ty sort.Condition = Num
found_ty sort.Cluster = Clu
found_ty sort.Processor = Pro
found_ty (sort.Object class k) = Obj class

-- what stands at a variable of it: what is known by its number has a cell for that
abbrev pub place_by : Bool → Ty → Ty
place_by true a = Cell a
place_by false a = a

abbrev pub place_ty : Sort → Ty
place_ty s = place_by (is_numbered s) (found_ty s)

abbrev pub sort_ty : Option Sort → Ty
sort_ty None = Num
sort_ty (Some s) = found_ty s

-- what a parameter holds
abbrev pub param_ty : Program → Param → Ty
param_ty p x = if x.by_ref then sort_ty (sort_of p x.base) else Num

-- two parameters of one routine, in two of its declarations
pub record IsLike (p : Program) (x y : Param) : Type 0 where
  pub by_ref : x.by_ref ≡ y.by_ref
  pub base : x.base ≡ y.base
  pub known : y.by_ref ≡ true → (s : Sort) × (sort_of p y.base ≡ Some s)

abbrev pub AreLike : Program → List Param → List Param → Type 0
AreLike p [] [] = Unit {0}
AreLike p [] (y ∷ ys) = ⊥
AreLike p (x ∷ xs) [] = ⊥
AreLike p (x ∷ xs) (y ∷ ys) = IsLike p x y × AreLike p xs ys

-- what stands at a place
abbrev pub IsAtPlace : Standing → Type 0
IsAtPlace (AtVariable k) = Unit {0}
IsAtPlace (AtField s i) = Unit {0}
IsAtPlace AtPlace = Unit {0}
IsAtPlace _ = ⊥

abbrev pub IsAsNumber : Standing → Type 0
IsAsNumber AsNumber = Unit {0}
IsAsNumber _ = ⊥

abbrev pub IsAsValue : Standing → Type 0
IsAsValue AsValue = Unit {0}
IsAsValue _ = ⊥

-- a condition is one of the object at hand
abbrev pub IsAsCondition : Table → Sig → Standing → Type 0
IsAsCondition t g (AsCondition k) = InMutex t g
IsAsCondition t g _ = ⊥

abbrev pub StandsBy : Table → Sig → Bool → Bool → Standing → Type 0
StandsBy t g true numbered st = IsAsCondition t g st
StandsBy t g false true st = IsAsNumber st
StandsBy t g false false st = IsAtPlace st

-- one of a sort
abbrev pub StandsAs : Table → Sig → Sort → Standing → Type 0
StandsAs t g s st = StandsBy t g (is_condition s) (is_numbered s) st

-- an array is a place, whatever its elements are, but for one of conditions
abbrev pub row_ty : Bool → ℕ → Sort → Ty
row_ty true n s = Num
row_ty false n s = Row n (place_ty s)

abbrev pub RowPlaced : Table → Bool → Sort → Type 0
RowPlaced t true s = Unit {0}
RowPlaced t false s = IsPlaced t (place_ty s)

-- a type is that of a sort, with or without a length
abbrev pub IsOf : Program → Option ℕ → Sort → Declared → Type 0
IsOf p len s a = (a.len ≡ len) × (sort_of p a.base ≡ Some s)

abbrev pub call_of : Operation → ConditionCall
call_of operation.Wait = Waits
call_of operation.Signal = Signals
call_of operation.SignalBlock = SignalsBlocking
call_of operation.Front = AsksFront
call_of operation.Empty = AsksEmpty

abbrev pub context : Env → Option ℕ → ℕ → List LocalVariable → tree.Context
context env class routine known = record { program = env.program; class = class; routine = routine; names = known }

module _ (t : Table) (g : Sig) (sc : List Name) where
  -- the value of what is found is a number
  abbrev pub ValuedBy : Standing → Expr → Type 0
  ValuedBy st e = Yields t g sc (value_by st e) Num

  -- the routine of an item, by its number
  pub record IsCalled (p : Program) (i : ℕ) (m : tree.Meant) : Type 0 where
    pub number : ℕ
    pub standing : m.standing ≡ AsRoutine number
    pub params : AreLike p (params_in (routine_sig p i)) (params_of p number)
    pub table : map (param_ty p) (params_of p number) ≡ (t.routine number).params
    pub alone : (t.routine number).this ≡ None
    pub known : IsRoutine t number
    pub reached : IsOpen (t.routine number).inward
    pub at : Fine t g sc m.expr

  -- how a member stands: a mutex member enters its object
  abbrev pub IsMethod : ℕ → ℕ → Standing → Type 0
  IsMethod number class st =
      ((st ≡ tree.AsMember number) ⊎ (st ≡ tree.AsLiveMember number)) ⊎
      ((k : ℕ) × (st ≡ tree.AsMutexMember k number) × (t.mutex class ≡ true))

  -- how a member is reached: by all; or it helps inside its object, and is named there
  abbrev pub IsReached : Bool → Bool → ℕ → tree.Meant → Inward → Type 0
  IsReached inner path number m w =
      IsOpen w ⊎
      ((w ≡ Helps) × (inner ≡ true) × (m.standing ≡ tree.AsMember number) × (path ≡ false → m.expr ≡ OfObject This))

  -- the routine of a member, by its number, and its object
  pub record IsMember (p : Program) (i j : ℕ) (inner path : Bool) (m : tree.Meant) : Type 0 where
    pub number : ℕ
    pub class : ℕ
    pub standing : IsMethod number class m.standing
    pub params : AreLike p (params_in (method_sig p i j)) (params_of p number)
    pub table : map (param_ty p) (params_of p number) ≡ (t.routine number).params
    pub at : Yields t g sc m.expr (Obj class)
    pub this : (t.routine number).this ≡ Some class
    pub plain : (t.routine number).whole ≡ false
    pub known : IsRoutine t number
    pub reached : is_main_sig (method_sig p i j) ≡ false →
        IsReached inner path number m (t.routine number).inward

  abbrev pub Agrees : Program → Entity → tree.Meant → Type 0
  Agrees p (entity.Value s) m = IsAsValue m.standing × ValuedBy m.standing m.expr
  Agrees p (entity.Place s) m =
      (Yields t g sc m.expr (found_ty s) × (is_scalar_sort s ≡ true → ValuedBy m.standing m.expr)) ×
      StandsAs t g s m.standing × IsOf p None s m.ty
  Agrees p (entity.Array s n) m =
      Yields t g sc m.expr (row_ty (is_condition s) n s) ×
      StandsBy t g (is_condition s) false m.standing × RowPlaced t (is_condition s) s ×
      IsOf p (Some n) s m.ty
  Agrees p (entity.Routine i) m = IsCalled p i m
  Agrees p (entity.Method i j inner path) m = IsMember p i j inner path m
  Agrees p (entity.Operation o) m = (m.standing ≡ AsCallOf (call_of o)) × Yields t g sc m.expr Num ×
      InMutex t g
  Agrees p entity.Fail m = (m.standing ≡ tree.AsFail) × Fine t g sc m.expr
  Agrees p entity.Input m = (m.standing ≡ tree.AsInput) × Fine t g sc m.expr
  -- a main is not called, and a name of a class is no value: each gives something
  Agrees p entity.Main m = Fine t g sc m.expr
  Agrees p entity.ClassName m = Fine t g sc m.expr
  Agrees p entity.Missing m = Unit {0}

  abbrev pub AgreesIf : Program → Option Entity → tree.Meant → Type 0
  AgreesIf p o m = (w : Entity) → o ≡ Some w → Agrees p w m

  -- the names in scope for the rules, and for what is resolved
  abbrev pub Alike : Program → List LocalName → List LocalVariable → Type 0
  Alike p [] [] = Unit {0}
  Alike p [] (k ∷ ks) = ⊥
  Alike p (s ∷ ss) [] = ⊥
  Alike p (s ∷ ss) (k ∷ ks) = ((s.name ≡ k.name) × AgreesIf p s.meant.entity (known_meant p k)) ×
      Alike p ss ks

  -- the table tells the classes of the program; both look-ups of names agree: of locals, of other names, of which conditions are named
  -- inside their objects alone, and of members of objects
  pub record Tied (env : Env) (class : Option ℕ) (routine : ℕ) (known : List LocalVariable) : Type 0 where
    pub refers : t.refers ≡ true
    pub classes : (b : Base) (c : ℕ) (k : Kind) → sort_of env.program b ≡ Some (sort.Object c k) →
        t.mutex c ≡ is_mutex k
    pub tasks : (b : Base) (c : ℕ) (k : Kind) → sort_of env.program b ≡ Some (sort.Object c k) →
        t.tasks c ≡ is_task k
    -- an element of an array is kept as the class of the base is
    pub shapes : (b : Base) (s : Sort) → sort_of env.program b ≡ Some s →
        IsKept t (base_shape env.program b) (place_ty s)
    pub inside : env.around.inner ≡ true → IsInside g.inward
    pub names : Alike env.program env.names known
    pub outer : (name : List ℕ) → local_named env.names name ≡ None →
        (names_condition (named env name) ≡ true → IsInside g.inward) →
        AgreesIf env.program (meant_entity (named env name)) (tree.own_meant env.program class name)
    pub member : (c : ℕ) (k : Kind) (name : List ℕ) (x : NameMeaning) (m : tree.Meant) →
        object_member env.program (sort.Object c k) name ≡ Some x →
        is_mutex_field_of (Some x) ≡ false → names_condition (Some x) ≡ false →
        Agrees env.program (entity.Place (sort.Object c k)) m →
        AgreesIf env.program (open_entity env.around.home x) (tree.object_member env.program (Some c) m.expr name)

  -- what stands for something is in order, where no field of a mutex object and no condition is named behind a `.`, as rules say
  abbrev pub LawAgrees : Type 0
  LawAgrees = (env : Env) (class : Option ℕ) (routine : ℕ) (known : List LocalVariable) →
      Tied env class routine known → (e : expr.Expr) → Unbroken (visits env e) →
      AgreesIf env.program (entity_of env e) (meant (context env class routine known) e)
