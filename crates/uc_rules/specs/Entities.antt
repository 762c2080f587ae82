-- What expressions stand for under the rules: none where an expression, or a part of it, breaks a rule.
use Rattle.std.specs.Prelude.{ℕ, zero, suc, ◌+◌, List, [], ◌∷◌, Bool, true, false, not, ◌&&◌, ◌||◌, Option, Some, None, option_and_then, if◌then◌else◌, is_some, nat_eq, length, slice_get}
use Rattle.uc_tree.specs.declared.ops.UnaryOp.{UnaryOp}
use Rattle.uc_tree.specs.declared.ops.UnaryOp.TheVariants as unary
use Rattle.uc_tree.specs.declared.ops.BinaryOp.{BinaryOp}
use Rattle.uc_tree.specs.declared.ops.BinaryOp.TheVariants as binary
use Rattle.uc_tree.specs.declared.kinds.Param.{Param}
use Rattle.uc_tree.specs.Names.{same_name, fail_name}
use Rattle.uc_tree.specs.Numbering.{main_name, is_public}
use Rattle.uc_tree.specs.Expressions.{Expr, Number, Character, Truth, Name, Cin, Postfix, Unary, Chain, Assign, Exprs, NoExprs, MoreExprs, Part, Field, Index, Call, Step, Parts, NoParts, MoreParts, Link, Linked, Links, NoLinks, MoreLinks}
use Rattle.uc_tree.specs.Programs.{Sig, Program}
use Rattle.uc_rules.specs.declared.rules.Sort.{Sort}
use Rattle.uc_rules.specs.declared.rules.Sort.TheVariants as sort
use Rattle.uc_rules.specs.declared.rules.Operation.{Operation}
use Rattle.uc_rules.specs.declared.rules.Operation.TheVariants.{Wait, Signal, SignalBlock, Front, Empty}
use Rattle.uc_rules.specs.declared.rules.Entity.{Entity}
use Rattle.uc_rules.specs.declared.rules.Entity.TheVariants as entity
use Rattle.uc_rules.specs.declared.rules.Entity.TheVariants.{Value, Place, Array, Input, Fail, Main, Routine, Method, ClassName, Missing}
use Rattle.uc_rules.specs.declared.rules.Expected.{Expected}
use Rattle.uc_rules.specs.declared.rules.Expected.TheVariants.{Anything, Nothing, Scalar, Reference}
use Rattle.uc_rules.specs.declared.rules.Target.{Target}
use Rattle.uc_rules.specs.declared.rules.Target.TheVariants as target
use Rattle.uc_rules.specs.declared.rules.NameMeaning.{NameMeaning}
use Rattle.uc_rules.specs.declared.rules.OwnClass.{OwnClass}
use Rattle.uc_rules.specs.declared.rules.Origin.{Origin}
use Rattle.uc_rules.specs.declared.rules.Origin.TheVariants as origin
use Rattle.uc_rules.specs.Sorts.{is_coroutine, is_scalar_sort, is_int, is_char, is_condition, same_sort, sort_of}
use Rattle.uc_rules.specs.Names.{member_named, routine_sig, method_sig, constructor_params, params_in}
use Rattle.uc_rules.specs.Scopes.{Env, named}

-- tests of what an expression stands for

abbrev pub value_test : (Sort → Bool) → (Sort → Bool) → (Sort → Bool) → Entity → Bool
value_test value place array (Value s) = value s
value_test value place array (Place s) = place s
value_test value place array (Array s n) = array s
value_test value place array _ = false

abbrev pub none_of : Sort → Bool
none_of s = false

abbrev pub any_of : Sort → Bool
any_of s = true

abbrev pub is_scalar : Entity → Bool
is_scalar = value_test is_scalar_sort is_scalar_sort none_of

-- a scalar that has a place
abbrev pub is_place : Entity → Bool
is_place = value_test none_of is_scalar_sort none_of

abbrev pub is_array : Entity → Bool
is_array = value_test none_of none_of any_of

abbrev pub is_readable_sort : Sort → Bool
is_readable_sort s = is_int s || is_char s

-- a number or a character may be read
abbrev pub is_readable : Entity → Bool
is_readable = value_test none_of is_readable_sort none_of

-- a condition, or an array of them
abbrev pub is_of_conditions : Entity → Bool
is_of_conditions = value_test none_of is_condition is_condition

-- the results of operators, parts and assignments

abbrev pub of_scalar : Option Entity → Entity → Option Entity
of_scalar None gives = None
of_scalar (Some w) gives = if is_scalar w then Some gives else None

abbrev pub both_scalars : Entity → Entity → Bool
both_scalars w v = is_scalar w && is_scalar v

abbrev pub of_both : (Entity → Entity → Bool) → Option Entity → Option Entity → Entity → Option Entity
of_both test None v gives = None
of_both test (Some w) None gives = None
of_both test (Some w) (Some v) gives = if test w v then Some gives else None

abbrev pub int_value : Entity
int_value = Value sort.Int

abbrev pub truth_value : Entity
truth_value = Value sort.Bool

-- the value of what is assigned to and of `++` and `--` is that of the place, and none itself
abbrev pub value_of : Entity → Option Entity
value_of (Place s) = if is_scalar_sort s then Some (Value s) else None
value_of _ = None

abbrev pub of_place : Option Entity → Option Entity
of_place None = None
of_place (Some w) = value_of w

abbrev pub unary_entity : UnaryOp → Option Entity → Option Entity
unary_entity unary.Minus w = of_scalar w int_value
unary_entity unary.Plus w = of_scalar w int_value
unary_entity unary.Not w = of_scalar w truth_value
unary_entity unary.Increment w = of_place w
unary_entity unary.Decrement w = of_place w

abbrev pub binary_gives : BinaryOp → Entity
binary_gives binary.Or = truth_value
binary_gives binary.And = truth_value
binary_gives binary.Equal = truth_value
binary_gives binary.NotEqual = truth_value
binary_gives binary.Less = truth_value
binary_gives binary.LessEqual = truth_value
binary_gives binary.Greater = truth_value
binary_gives binary.GreaterEqual = truth_value
binary_gives binary.Add = int_value
binary_gives binary.Sub = int_value
binary_gives binary.Mul = int_value
binary_gives binary.Div = int_value
binary_gives binary.Rem = int_value

abbrev pub assigned : Entity → Entity → Option Entity
assigned w v = if is_scalar v then value_of w else None

abbrev pub of_assign : Option Entity → Option Entity → Option Entity
of_assign None v = None
of_assign (Some w) None = None
of_assign (Some w) (Some v) = assigned w v

abbrev pub element : Entity → Option Entity
element (Array s n) = Some (Place s)
element _ = None

abbrev pub of_index : Option Entity → Option Entity → Option Entity
of_index None i = None
of_index (Some w) None = None
of_index (Some w) (Some i) = if is_scalar i then element w else None

-- members behind a `.`

-- `wait`, `signal`, `signalBlock`, `front`, `empty`, in bytes
abbrev pub wait_name : List ℕ
wait_name = 119 ∷ 97 ∷ 105 ∷ 116 ∷ []

abbrev pub signal_name : List ℕ
signal_name = 115 ∷ 105 ∷ 103 ∷ 110 ∷ 97 ∷ 108 ∷ []

abbrev pub signal_block_name : List ℕ
signal_block_name = 115 ∷ 105 ∷ 103 ∷ 110 ∷ 97 ∷ 108 ∷ 66 ∷ 108 ∷ 111 ∷ 99 ∷ 107 ∷ []

abbrev pub front_name : List ℕ
front_name = 102 ∷ 114 ∷ 111 ∷ 110 ∷ 116 ∷ []

abbrev pub empty_name : List ℕ
empty_name = 101 ∷ 109 ∷ 112 ∷ 116 ∷ 121 ∷ []

abbrev pub operation_named : List ℕ → Option Operation
operation_named name =
    if same_name name wait_name then Some Wait
    else (if same_name name signal_name then Some Signal
    else (if same_name name signal_block_name then Some SignalBlock
    else (if same_name name front_name then Some Front
    else (if same_name name empty_name then Some Empty
    else None))))

abbrev pub is_operation_name : List ℕ → Bool
is_operation_name name = is_some (operation_named name)

-- a member of an object of this sort; the members of a condition are no names of a class
abbrev pub object_member : Program → Sort → List ℕ → Option NameMeaning
object_member p (sort.Object class k) name = member_named p class name
object_member p _ name = None

-- the member of a class that is named behind a `.`
abbrev pub path_member : Program → Entity → List ℕ → Option NameMeaning
path_member p (Place s) name = object_member p s name
path_member p _ name = None

abbrev pub operation_entity : Operation → Entity
operation_entity o = entity.Operation o

abbrev pub condition_member : Sort → List ℕ → Option Entity
condition_member sort.Condition name = option_and_then (λ o. Some (operation_entity o)) (operation_named name)
condition_member _ name = None

-- a member that no class declares: those of conditions, and `fail` of `cin`
abbrev pub built_in : Entity → List ℕ → Option Entity
built_in (Place s) name = condition_member s name
built_in Input name = if same_name name fail_name then Some Fail else None
built_in _ name = None

-- a member that is not there, where it is called of what is no object, breaks the rule on calls and none before
abbrev pub of_missing : Bool → Option Entity
of_missing true = Some Missing
of_missing false = None

abbrev pub is_object_sort : Sort → Bool
is_object_sort (sort.Object class k) = true
is_object_sort _ = false

abbrev pub is_object : Entity → Bool
is_object = value_test none_of is_object_sort none_of

abbrev pub by_path : Entity → Entity
by_path (Method i j inner path) = Method i j inner true
by_path e = e

abbrev pub entity_by_path : Option Entity → Option Entity
entity_by_path None = None
entity_by_path (Some e) = Some (by_path e)

abbrev pub other_member : Bool → List ℕ → Entity → Option Entity → Option Entity
other_member called name w (Some e) = Some e
other_member called name w None = if is_object w then None else of_missing called

abbrev pub is_home : Option OwnClass → ℕ → Bool
is_home None class = false
is_home (Some h) class = nat_eq h.class class

-- whether a member may be named behind a `.`: what is not public only in its class, and no field of a coroutine
abbrev pub is_open : Option OwnClass → Origin → Bool
is_open home (origin.Field class k access by_ref i) = not (is_coroutine k) && (is_public access || is_home home class)
is_open home (origin.Method class access) = is_public access || is_home home class
is_open home _ = true

abbrev pub open_entity : Option OwnClass → NameMeaning → Option Entity
open_entity home m = if is_open home m.origin then entity_by_path m.entity else None

abbrev pub member_entity : Env → Bool → List ℕ → Entity → Option NameMeaning → Option Entity
member_entity env called name w (Some m) = open_entity env.around.home m
member_entity env called name w None = other_member called name w (built_in w name)

abbrev pub of_field : Env → Bool → List ℕ → Option Entity → Option Entity
of_field env called name None = None
of_field env called name (Some w) = member_entity env called name w (path_member env.program w name)

-- calls

-- whether an operation of a condition takes so many arguments: `wait` may have one
abbrev pub operation_takes : Operation → ℕ → Bool
operation_takes Wait n = nat_eq n 0 || nat_eq n 1
operation_takes Signal n = nat_eq n 0
operation_takes SignalBlock n = nat_eq n 0
operation_takes Front n = nat_eq n 0
operation_takes Empty n = nat_eq n 0

abbrev pub sig_takes : Option Sig → ℕ → Bool
sig_takes None n = false
sig_takes (Some sig) n = nat_eq n (length sig.params)

-- whether it may be called with so many arguments
abbrev pub takes : Program → ℕ → Entity → Bool
takes p n Fail = nat_eq n 0
takes p n (entity.Operation o) = operation_takes o n
takes p n Main = nat_eq n 0
takes p n (Routine i) = sig_takes (routine_sig p i) n
takes p n (Method i j inner by_path) = sig_takes (method_sig p i j) n
takes p n _ = false

abbrev pub is_main_sig : Option Sig → Bool
is_main_sig None = false
is_main_sig (Some sig) = same_name sig.name main_name

abbrev pub is_main : Program → Entity → Bool
is_main p Main = true
is_main p (Routine i) = is_main_sig (routine_sig p i)
is_main p (Method i j inner by_path) = is_main_sig (method_sig p i j)
is_main p _ = false

abbrev pub operation_gives : Operation → Entity
operation_gives Wait = Value sort.Void
operation_gives Signal = Value sort.Void
operation_gives SignalBlock = Value sort.Void
operation_gives Front = int_value
operation_gives Empty = truth_value

abbrev pub value_of_sort : Sort → Option Entity
value_of_sort s = Some (Value s)

abbrev pub sig_gives : Program → Option Sig → Option Entity
sig_gives p None = None
sig_gives p (Some sig) = option_and_then value_of_sort (sort_of p sig.ret)

abbrev pub given : Program → Entity → Option Entity
given p Fail = Some truth_value
given p (entity.Operation o) = Some (operation_gives o)
given p (Routine i) = sig_gives p (routine_sig p i)
given p (Method i j inner by_path) = sig_gives p (method_sig p i j)
given p _ = None

-- what is asked of arguments

abbrev pub reference_to : Option Sort → Expected
reference_to None = Anything
reference_to (Some s) = Reference s

-- a value is passed to a scalar alone: for another parameter no argument fits
abbrev pub value_to : Option Sort → Expected
value_to None = Scalar
value_to (Some s) = if is_scalar_sort s then Scalar else Nothing

abbrev pub param_expected : Program → Option Param → Expected
param_expected p None = Anything
param_expected p (Some x) = if x.by_ref then reference_to (sort_of p x.base) else value_to (sort_of p x.base)

abbrev pub callee_params : Program → Entity → List Param
callee_params p (Routine i) = params_in (routine_sig p i)
callee_params p (Method i j inner by_path) = params_in (method_sig p i j)
callee_params p _ = []

abbrev pub is_operation : Entity → Bool
is_operation (entity.Operation o) = true
is_operation _ = false

-- what is asked of the argument with this place in a list
abbrev pub expected : Program → Target → ℕ → Expected
expected p target.Nothing i = Nothing
expected p (target.Reference s) i = Reference s
expected p (target.Call e) i = if is_operation e then Scalar else param_expected p (slice_get (callee_params p e) i)
expected p (target.Constructor class) i = param_expected p (slice_get (constructor_params p class) i)
expected p _ i = Anything

abbrev pub is_place_of : Sort → Sort → Bool
is_place_of s t = same_sort s t

abbrev pub fits : Expected → Entity → Bool
fits Anything w = true
fits Nothing w = false
fits Scalar w = is_scalar w
fits (Reference s) w = value_test none_of (is_place_of s) none_of w

abbrev pub has_fitting : Expected → Option Entity → Bool
has_fitting x None = false
has_fitting x (Some w) = fits x w

abbrev pub call_target : Option Entity → Target
call_target None = target.Unknown
call_target (Some w) = target.Call w

-- a call, with so many arguments, which all fit where `sound`
abbrev pub may_call : Program → ℕ → Entity → Bool
may_call p n w = takes p n w && not (is_main p w)

abbrev pub of_call : Program → Bool → ℕ → Option Entity → Option Entity
of_call p sound n None = None
of_call p sound n (Some w) = if sound && may_call p n w then given p w else None

abbrev pub count : Exprs → ℕ
count NoExprs = zero
count (MoreExprs e es) = suc (count es)

-- what follows a part

abbrev pub is_field : Part → Bool
is_field (Field sign name) = true
is_field _ = false

abbrev pub is_call : Part → Bool
is_call (Call sign args) = true
is_call _ = false

abbrev pub field_follows : Parts → Bool
field_follows NoParts = false
field_follows (MoreParts p ps) = is_field p

abbrev pub call_follows : Parts → Bool
call_follows NoParts = false
call_follows (MoreParts p ps) = is_call p

abbrev pub is_cin : Expr → Bool
is_cin (Cin p) = true
is_cin _ = false

-- `cin` stands for something only before a `.`
abbrev pub is_input : Expr → Parts → Bool
is_input root parts = is_cin root && field_follows parts

abbrev pub meant_entity : Option NameMeaning → Option Entity
meant_entity None = None
meant_entity (Some m) = m.entity

module _ (env : Env) where
  abbrev mutual
    pub entity_of : Expr → Option Entity
    entity_of (Number p n) = Some int_value
    entity_of (Character p byte) = Some (Value sort.Char)
    entity_of (Truth p b) = Some truth_value
    entity_of (Name p name) = meant_entity (named env name)
    entity_of (Cin p) = None
    entity_of (Postfix p root parts) = parts_entity parts (if is_input root parts then Some Input else entity_of root)
    entity_of (Unary p op operand) = unary_entity op (entity_of operand)
    entity_of (Chain p first rest) = chain_entity rest (entity_of first)
    entity_of (Assign p sign op place value) = of_assign (entity_of place) (entity_of value)

    pub part_entity : Part → Bool → Option Entity → Option Entity
    part_entity (Field sign name) called w = of_field env called name w
    part_entity (Index sign index) called w = of_index w (entity_of index)
    part_entity (Call sign args) called w = of_call env.program (are_sound args (call_target w) 0) (count args) w
    part_entity (Step sign op) called w = of_place w

    pub parts_entity : Parts → Option Entity → Option Entity
    parts_entity NoParts w = w
    parts_entity (MoreParts first rest) w = parts_entity rest (part_entity first (call_follows rest) w)

    pub link_entity : Link → Option Entity → Option Entity
    link_entity (Linked sign op right) left = of_both both_scalars left (entity_of right) (binary_gives op)

    pub chain_entity : Links → Option Entity → Option Entity
    chain_entity NoLinks left = left
    chain_entity (MoreLinks first rest) left = chain_entity rest (link_entity first left)

    -- whether none of these breaks a rule, as arguments for the target from its place i on
    pub are_sound : Exprs → Target → ℕ → Bool
    are_sound NoExprs t i = true
    are_sound (MoreExprs e es) t i = has_fitting (expected env.program t i) (entity_of e) && are_sound es t (i + 1)
