-- What lowering tells of an expression besides its code.
use Rattle.std.specs.Prelude.{◌≡◌, ℕ, ◌+◌, List, Bool, true, false, Option, Some, None, option_and_then, option_map}
use Rattle.uc_tree.specs.declared.limits.TheConstants.{MEMBERS}
use Rattle.uc_tree.specs.declared.kinds.Base.{Base}
use Rattle.uc_tree.specs.declared.kinds.Base.TheVariants as base
use Rattle.uc_tree.specs.Source.{Shape, Integer, Character, Truth, Binding, field_cells}
use Rattle.uc_tree.specs.Numbering.{at_most, is_mutex, member_number}
use Rattle.uc_tree.specs.Objects.{Making, APlain, AMutex, ACluster, AProcessor, making, class_made, is_numbered, is_coroutine, shape_of, event_place, class_at}
use Rattle.uc_tree.specs.Programs.{Class, Program}
use Rattle.uc_resolve.specs.Resolve as resolve
use Rattle.uc_lower_expr.specs.declared.making.Made.{Made}
use Rattle.uc_lower_expr.specs.declared.making.Made.TheVariants as made
use Rattle.uc_lower_expr.specs.declared.meaning.Scalar.{Scalar}
use Rattle.uc_lower_expr.specs.declared.meaning.Scalar.TheVariants as scalar
use Rattle.uc_lower_expr.specs.declared.meaning.ConditionCall.{ConditionCall}
use Rattle.uc_lower_expr.specs.declared.meaning.ConditionCall.TheVariants as call
use Rattle.uc_lower_expr.specs.declared.meaning.Standing.{Standing}
use Rattle.uc_lower_expr.specs.declared.meaning.Standing.TheVariants as standing
use Rattle.uc_lower_expr.specs.declared.meaning.ExprMeaning.{ExprMeaning}

abbrev pub shape_as : Scalar → Shape
shape_as scalar.Number = Integer
shape_as scalar.Character = Character
shape_as scalar.Truth = Truth
shape_as scalar.Binding = Binding

-- the variable that is told of
abbrev pub cell_in : Standing → Option ℕ
cell_in (standing.Variable k) = Some k
cell_in (standing.Field k) = None
cell_in standing.Place = None
cell_in standing.Number = None
cell_in standing.Value = None
cell_in standing.Input = None
cell_in standing.Fail = None
cell_in (standing.Routine r) = None
cell_in (standing.Member r) = None
cell_in (standing.LiveMember r) = None
cell_in (standing.MutexMember m r) = None
cell_in (standing.Condition k) = None
cell_in (standing.CallOf c) = None
cell_in standing.Nothing = None

-- the number of the condition that is told of, or of the first of its array
abbrev pub first_in : Standing → Option ℕ
first_in (standing.Variable k) = None
first_in (standing.Field k) = None
first_in standing.Place = None
first_in standing.Number = None
first_in standing.Value = None
first_in standing.Input = None
first_in standing.Fail = None
first_in (standing.Routine r) = None
first_in (standing.Member r) = None
first_in (standing.LiveMember r) = None
first_in (standing.MutexMember m r) = None
first_in (standing.Condition k) = Some k
first_in (standing.CallOf c) = None
first_in standing.Nothing = None

-- the call of a condition that is told
abbrev pub call_of : ConditionCall → resolve.ConditionCall
call_of call.Wait = resolve.Waits
call_of call.Signal = resolve.Signals
call_of call.SignalBlock = resolve.SignalsBlocking
call_of call.Empty = resolve.AsksEmpty
call_of call.Front = resolve.AsksFront

-- a member, by its number where it is a mutex member, and by whether a path names it and its class is one of plain coroutines
abbrev pub member_standing : Option ℕ → Bool → ℕ → Standing
member_standing (Some m) live r = standing.MutexMember m r
member_standing None true r = standing.LiveMember r
member_standing None false r = standing.Member r

-- whether the objects of a class are mutex objects, and plain coroutines
abbrev pub is_mutex_in : Option Class → Bool
is_mutex_in None = false
is_mutex_in (Some c) = is_mutex c.kind

abbrev pub is_mutex_at : Program → ℕ → Bool
is_mutex_at p i = is_mutex_in (class_at p i)

abbrev pub is_coroutine_in : Option Class → Bool
is_coroutine_in None = false
is_coroutine_in (Some c) = is_coroutine c.kind

-- an object of the class with the place i, by whether those are mutex objects
abbrev pub making_by : ℕ → Bool → Making
making_by i true = AMutex i
making_by i false = APlain i

-- what is made, as it is told
abbrev pub making_of : Program → Made → Making
making_of p (made.Object i) = making_by i (is_mutex_at p i)
making_of p made.Cluster = ACluster
making_of p made.Processor = AProcessor

-- what a declaration of a base makes that names no class of objects
abbrev pub resource_by : Base → Option Made
resource_by base.Cluster = Some made.Cluster
resource_by base.Processor = Some made.Processor
resource_by base.Void = None
resource_by base.Int = None
resource_by base.Char = None
resource_by base.Bool = None
resource_by base.Condition = None
resource_by (base.Named name) = None

-- the number of a mutex member of a class
abbrev pub mutex_number_in : Option Class → List ℕ → Option ℕ
mutex_number_in None name = None
mutex_number_in (Some c) name = member_number c name

-- that of the member with this place among those of its class
abbrev pub member_by : Option ℕ → Option ℕ
member_by place = option_and_then (at_most MEMBERS) (option_map (λ k. 1 + k) place)

-- a field of the object of the running call, which begins at this cell of it
pub data FieldAt (k : ℕ) : resolve.Standing → Type 0 where
  Begins : (s : Shape) (i : ℕ) → field_cells s i ≡ k → FieldAt k (resolve.AtField s i)

-- what stands where something is held: its number, or itself
abbrev pub held_as : Bool → Standing
held_as true = standing.Number
held_as false = standing.Place

-- what is told of an element of what is told of
abbrev pub element_told : ExprMeaning → ExprMeaning
element_told told = record told { elements = None; standing = held_as told.numbered }

-- the standing that is told
abbrev pub StandsAs : Standing → resolve.Standing → Type 0
StandsAs (standing.Variable k) s = s ≡ resolve.AtVariable k
StandsAs (standing.Field k) s = FieldAt k s
StandsAs standing.Place s = s ≡ resolve.AtPlace
StandsAs standing.Number s = s ≡ resolve.AsNumber
StandsAs standing.Value s = s ≡ resolve.AsValue
StandsAs standing.Input s = s ≡ resolve.AsInput
StandsAs standing.Fail s = s ≡ resolve.AsFail
StandsAs (standing.Routine r) s = s ≡ resolve.AsRoutine r
StandsAs (standing.Member r) s = s ≡ resolve.AsMember r
StandsAs (standing.LiveMember r) s = s ≡ resolve.AsLiveMember r
StandsAs (standing.MutexMember m r) s = s ≡ resolve.AsMutexMember m r
StandsAs (standing.Condition k) s = s ≡ resolve.AsCondition k
StandsAs (standing.CallOf c) s = s ≡ resolve.AsCallOf (call_of c)
StandsAs standing.Nothing s = s ≡ resolve.AsNothing

-- what is told of an expression of a program that stands for this: how its base keeps a number, the class of objects that it names,
-- plain or of a mutex type, whether what it names is known by its number, the event that it names, its length, and its standing
pub record Tells (p : Program) (told : ExprMeaning) (m : resolve.Meant) : Type 0 where
  pub shape : shape_of m.ty.base ≡ shape_as told.scalar
  pub class : class_made (making p m.ty.base) ≡ told.class
  pub numbered : is_numbered (making p m.ty.base) ≡ told.numbered
  pub event : event_place p m.ty.base ≡ told.event
  pub len : m.ty.len ≡ told.elements
  pub standing : StandsAs told.standing m.standing
