-- What a program's expressions stand for: names and types are looked up here and nowhere else.
-- Every tree stands for something; what breaks a rule of the language stands for a default.
use Rattle.std.specs.Prelude.{ℕ, suc, ℤ, pos, List, [], ◌∷◌, slice_get, codes, Bool, true, false, not, ◌&&◌, Option, Some, None, is_some, unwrap_or, nat_eq, if◌then◌else◌}
use Rattle.uc_tree.specs.declared.kinds.Base.{Base}
use Rattle.uc_tree.specs.declared.kinds.Base.TheVariants as base
use Rattle.uc_tree.specs.declared.kinds.Kind.{Kind}
use Rattle.uc_tree.specs.declared.kinds.Ty.{Ty}
use Rattle.uc_tree.specs.declared.kinds.LocalVariable.{LocalVariable}
use Rattle.uc_tree.specs.declared.kinds.Owner.{Owner}
use Rattle.uc_tree.specs.declared.kinds.Owner.TheVariants as owner
use Rattle.uc_tree.specs.declared.kinds.Param.{Param}
use Rattle.uc_tree.specs.declared.ops.UnaryOp.{UnaryOp}
use Rattle.uc_tree.specs.declared.ops.UnaryOp.TheVariants as unary
use Rattle.uc_tree.specs.declared.ops.BinaryOp.{BinaryOp}
use Rattle.uc_tree.specs.declared.ops.BinaryOp.TheVariants as binary
use Rattle.uc_tree.specs.declared.ops.AssignOp.{AssignOp}
use Rattle.uc_tree.specs.declared.ops.AssignOp.TheVariants as assign
use Rattle.uc_tree.specs.declared.ops.StepOp.{StepOp}
use Rattle.uc_tree.specs.declared.ops.StepOp.TheVariants as step
use Rattle.uc_tree.specs.Names.{same_name, fail_name}
use Rattle.uc_tree.specs.Constants.{truth_value, constants_of, constant_named, value_of_name, elements}
use Rattle.uc_tree.specs.Expressions as expr
use Rattle.uc_tree.specs.Statements as stmt
use Rattle.uc_tree.specs.Programs as whole
use Rattle.uc_tree.specs.Cells.{leading_cells, seen_in}
use Rattle.uc_tree.specs.Numbering.{is_event, is_plain, member_number, condition_number, Defined, routines_of}
use Rattle.uc_tree.specs.Objects.{has_execution, is_coroutine, class_at, number_at, making, is_numbered, class_made, ClassField, fields_of, shape_of, class_shape, base_shape, member_from, event_place}
use Rattle.uc_tree.specs.Source.{Shape, Character, Truth, Operator, Add, Sub, Mul, Div, Rem, Equal, NotEqual, Less, LessEqual, Greater, GreaterEqual, Expr, Literal, Variable, Element, Get, Load, Negated, Not, AsCharacter, AsTruth, Operate, And, Or, Set, Assign, First, Update, StepBehind, Fail, Call, OfObject, This, OwnField, GetOwn, FieldOf, CallOn, CallLive, EnterOn, ConditionAt, Wait, Signal, SignalBlock, IsEmpty, FrontOf, Exprs, NoExprs, MoreExprs}

-- types

abbrev pub scalar : Base → Ty
scalar b = record { base = b; by_ref = false; len = None }

abbrev pub int_type : Ty
int_type = scalar base.Int

abbrev pub bool_type : Ty
bool_type = scalar base.Bool

-- a value as it is kept in a scalar of this shape
abbrev pub converted : Shape → Expr → Expr
converted Character e = AsCharacter e
converted Truth e = AsTruth e
converted _ e = e

-- what an expression stands for

-- the calls of conditions
pub data ConditionCall : Type 0 where
  Waits : ConditionCall
  Signals : ConditionCall
  SignalsBlocking : ConditionCall
  AsksEmpty : ConditionCall
  AsksFront : ConditionCall

-- a variable that is no reference, by its first cell; a field of the object of the running call that is none, by the shape of
-- its class and its number; another place; a mutex object, a cluster or a processor, by its number; a value, `cin`, the member `fail`
-- of `cin`; a routine, a member of the object at the place, one of the coroutine there that a path names, by their numbers; a mutex
-- member, by its number and its routine; a condition of the object of the running call, where the first of its array has this number,
-- and a call of one; an event, by its number; or nothing, where a rule is broken
pub data Standing : Type 0 where
  AtVariable : ℕ → Standing
  AtField : Shape → ℕ → Standing
  AtPlace : Standing
  AsNumber : Standing
  AsValue : Standing
  AsInput : Standing
  AsFail : Standing
  AsRoutine : ℕ → Standing
  AsMember : ℕ → Standing
  AsLiveMember : ℕ → Standing
  AsMutexMember : ℕ → ℕ → Standing
  AsCondition : ℕ → Standing
  AsCallOf : ConditionCall → Standing
  AsEvent : ℕ → Standing
  AsNothing : Standing

-- `expr` finds the place or gives the value; of a member it finds the object, of a condition its number
pub record Meant : Type 0 where
  pub expr : Expr
  pub ty : Ty
  pub standing : Standing

-- what stands for an expression that breaks a rule: the value 0
abbrev pub no_meaning : Meant
no_meaning = record { expr = Literal (pos 0); ty = int_type; standing = AsNothing }

abbrev pub value_meant : Expr → Ty → Meant
value_meant e ty = record { expr = e; ty = ty; standing = AsValue }

-- the value of what an expression stands for: what a variable or a place holds, else itself
abbrev pub value_by : Standing → Expr → Expr
value_by (AtVariable k) e = Get k
value_by (AtField s i) e = OfObject (GetOwn s i)
value_by AtPlace e = Load e
value_by AsNumber e = e
value_by AsValue e = e
value_by AsInput e = e
value_by AsFail e = e
value_by (AsRoutine r) e = e
value_by (AsMember r) e = e
value_by (AsLiveMember r) e = e
value_by (AsMutexMember k r) e = e
value_by (AsCondition k) e = e
value_by (AsCallOf c) e = e
value_by (AsEvent k) e = e
value_by AsNothing e = e

abbrev pub value_of : Meant → Expr
value_of m = value_by m.standing m.expr

-- names: of the names in scope, from the outermost on, the last one is meant

abbrev pub later_or : Option LocalVariable → LocalVariable → List ℕ → Option LocalVariable
later_or (Some k) known name = Some k
later_or None known name = if same_name known.name name then Some known else None

abbrev pub known_named : List LocalVariable → List ℕ → Option LocalVariable
known_named [] name = None
known_named (k ∷ ks) name = later_or (known_named ks name) k name

-- whether what has this type is known by its number: an array is not
abbrev pub has_number : whole.Program → Ty → Bool
has_number p ty = not (is_some ty.len) && is_numbered (making p ty.base)

-- a reference holds the place that it was bound to, or the number
abbrev pub known_by : Bool → LocalVariable → Meant
known_by true k = record { expr = Get k.cell; ty = k.ty; standing = AsNumber }
known_by false k = if k.ty.by_ref then record { expr = Get k.cell; ty = k.ty; standing = AtPlace } else record { expr = Variable k.cell; ty = k.ty; standing = AtVariable k.cell }

abbrev pub known_meant : whole.Program → LocalVariable → Meant
known_meant p k = known_by (has_number p k.ty) k

-- constants and routines of the program, which any item may name

abbrev pub value_or_zero : Option ℤ → ℤ
value_or_zero None = pos 0
value_or_zero (Some z) = z

-- a routine that is called by its name alone
abbrev pub is_here : Owner → Bool
is_here owner.Here = true
is_here owner.Main = false
is_here (owner.Class name) = false

abbrev pub is_named : whole.Sig → List ℕ → Bool
is_named s name = is_here s.owner && (is_plain s.role && same_name s.name name)

-- the number of the first routine of that name among those with bodies outside of classes
abbrev pub routine_from : List Defined → ℕ → List ℕ → Option ℕ
routine_from [] r name = None
routine_from (d ∷ ds) r name = if nat_eq d.number 0 && is_named d.routine.sig name then Some r else routine_from ds (suc r) name

abbrev pub params_in : Option Defined → List Param
params_in None = []
params_in (Some d) = d.routine.sig.params

abbrev pub result_in : Option Defined → Base
result_in None = base.Void
result_in (Some d) = d.routine.sig.ret

-- the parameters of a routine of the program, and what it returns, by its number
abbrev pub params_of : whole.Program → ℕ → List Param
params_of p r = params_in (slice_get (routines_of p) r)

abbrev pub result_of : whole.Program → ℕ → Base
result_of p r = result_in (slice_get (routines_of p) r)

abbrev pub routine_meant_by : whole.Program → Option ℕ → Meant
routine_meant_by p None = no_meaning
routine_meant_by p (Some r) = record { expr = Literal (pos 0); ty = scalar (result_of p r); standing = AsRoutine r }

-- a constant is a literal of its type
abbrev pub constant_meant_by : whole.Program → List ℕ → Option whole.Constant → Meant
constant_meant_by p name None = routine_meant_by p (routine_from (routines_of p) 0 name)
constant_meant_by p name (Some c) = value_meant (Literal (value_or_zero (value_of_name (constants_of p.items) name))) (scalar c.base)

abbrev pub item_meant : whole.Program → List ℕ → Meant
item_meant p name = constant_meant_by p name (constant_named (constants_of p.items) name)

-- members: fields and routines of a class

-- a field and its number among those of its class, of which the first has the number i
pub record NumberedField : Type 0 where
  pub number : ℕ
  pub field : ClassField

abbrev pub field_named : ℕ → List ClassField → List ℕ → Option NumberedField
field_named i [] name = None
field_named i (f ∷ fs) name = if same_name f.declarator.name name then Some (record { number = i; field = f }) else field_named (suc i) fs name

abbrev pub field_length : (List ℕ → Option ℤ) → stmt.Declarator → Option expr.Expr → Option ℕ
field_length named d None = None
field_length named d (Some e) = Some (elements named d)

-- the type of a field of a class
abbrev pub field_type : whole.Program → whole.Class → ClassField → Ty
field_type p c f = record { base = f.base; by_ref = f.declarator.by_ref; len = field_length (seen_in (constants_of p.items) c) f.declarator f.declarator.len }

-- whose member it is: of the object of the running call, or of the object at a place
pub data Whose : Type 0 where
  Own : Whose
  Of : Expr → Whose

abbrev pub object_of_whose : Whose → Expr
object_of_whose Own = OfObject This
object_of_whose (Of object) = object

-- the place of a field, by its number, in an object of a class of this shape, what it holds, and what stands there

abbrev pub field_place : Shape → ℕ → Whose → Expr
field_place s i Own = OfObject (OwnField s i)
field_place s i (Of object) = OfObject (FieldOf s i object)

abbrev pub field_held : Shape → ℕ → Whose → Expr
field_held s i Own = OfObject (GetOwn s i)
field_held s i (Of object) = Load (OfObject (FieldOf s i object))

abbrev pub field_standing : Shape → ℕ → Whose → Standing
field_standing s i Own = AtField s i
field_standing s i (Of object) = AtPlace

-- a reference holds the place that it was bound to
abbrev pub field_by_ref : Bool → Shape → ℕ → Whose → Ty → Meant
field_by_ref false s i whose ty = record { expr = field_place s i whose; ty = ty; standing = field_standing s i whose }
field_by_ref true s i whose ty = record { expr = field_held s i whose; ty = ty; standing = AtPlace }

-- a mutex object, a cluster or a processor, and a reference to one, is held by its number
abbrev pub field_by : Bool → Bool → Shape → ℕ → Whose → Ty → Meant
field_by true by_ref s i whose ty = record { expr = field_held s i whose; ty = ty; standing = AsNumber }
field_by false by_ref s i whose ty = field_by_ref by_ref s i whose ty

-- a condition is named in its class alone, by its number
abbrev pub condition_meant : ℕ → Ty → Meant
condition_meant k ty = record { expr = Literal (pos k); ty = ty; standing = AsCondition k }

abbrev pub field_or_condition : whole.Program → whole.Class → ℕ → Whose → NumberedField → Base → Meant
field_or_condition p c i whose f base.Condition = condition_meant (unwrap_or (condition_number p c f.field.declarator.name) 0) (field_type p c f.field)
field_or_condition p c i whose f _ = field_by (has_number p (field_type p c f.field)) f.field.declarator.by_ref (class_shape p i) f.number whose (field_type p c f.field)

-- a field of an object of the class c, with the place i
abbrev pub field_found : whole.Program → whole.Class → ℕ → Whose → NumberedField → Meant
field_found p c i whose f = field_or_condition p c i whose f f.field.base

abbrev pub is_path : Whose → Bool
is_path Own = false
is_path (Of object) = true

-- a member of a class of this kind: a mutex member enters its object; a plain coroutine that a path names must be live
abbrev pub method_standing : Kind → Whose → Option ℕ → ℕ → Standing
method_standing k whose (Some m) r = AsMutexMember m r
method_standing k whose None r = if is_coroutine k && is_path whose then AsLiveMember r else AsMember r

abbrev pub method_by : whole.Program → whole.Class → Whose → List ℕ → Option ℕ → Meant
method_by p c whose name None = no_meaning
method_by p c whose name (Some r) = record { expr = object_of_whose whose; ty = scalar (result_of p r); standing = method_standing c.kind whose (member_number c name) r }

-- a member's routine stands inside or outside of its class
abbrev pub method_meant : whole.Program → whole.Class → ℕ → Whose → List ℕ → Meant
method_meant p c i whose name = method_by p c whose name (member_from (routines_of p) 0 (number_at p i) name)

-- an event has no members but its fields
abbrev pub member_by : whole.Program → whole.Class → ℕ → Whose → List ℕ → Option NumberedField → Meant
member_by p c i whose name None = if is_event c.kind then no_meaning else method_meant p c i whose name
member_by p c i whose name (Some f) = field_found p c i whose f

abbrev pub member_in : whole.Program → ℕ → Whose → List ℕ → Option whole.Class → Meant
member_in p i whose name None = no_meaning
member_in p i whose name (Some c) = member_by p c i whose name (field_named (leading_cells c.kind) (fields_of c.members) name)

-- a member of an object whose class has the place i
abbrev pub member_meant : whole.Program → ℕ → Whose → List ℕ → Meant
member_meant p i whose name = member_in p i whose name (class_at p i)

-- what stands for something, else another
abbrev pub meant_or : Standing → Meant → Meant → Meant
meant_or AsNothing m other = other
meant_or _ m other = m

-- in a routine of a class its members hide what the program has under their names
abbrev pub own_meant : whole.Program → Option ℕ → List ℕ → Meant
own_meant p None name = item_meant p name
own_meant p (Some i) name = meant_or (member_meant p i Own name).standing (member_meant p i Own name) (item_meant p name)

-- a local hides what its class and the program have under its name
abbrev pub name_meant : whole.Program → Option ℕ → List ℕ → Option LocalVariable → Meant
name_meant p class name None = own_meant p class name
name_meant p class name (Some k) = known_meant p k

-- operators

abbrev pub combined : Operator → Meant → Meant → Ty → Meant
combined op l r ty = value_meant (Operate op (value_of l) (value_of r)) ty

abbrev pub binary_meant : BinaryOp → Meant → Meant → Meant
binary_meant binary.Or l r = value_meant (Or (value_of l) (value_of r)) bool_type
binary_meant binary.And l r = value_meant (And (value_of l) (value_of r)) bool_type
binary_meant binary.Equal l r = combined Equal l r bool_type
binary_meant binary.NotEqual l r = combined NotEqual l r bool_type
binary_meant binary.Less l r = combined Less l r bool_type
binary_meant binary.LessEqual l r = combined LessEqual l r bool_type
binary_meant binary.Greater l r = combined Greater l r bool_type
binary_meant binary.GreaterEqual l r = combined GreaterEqual l r bool_type
binary_meant binary.Add l r = combined Add l r int_type
binary_meant binary.Sub l r = combined Sub l r int_type
binary_meant binary.Mul l r = combined Mul l r int_type
binary_meant binary.Div l r = combined Div l r int_type
binary_meant binary.Rem l r = combined Rem l r int_type

-- the variable that an expression is, if it is one
abbrev pub variable_in : Standing → Option ℕ
variable_in (AtVariable k) = Some k
variable_in _ = None

-- a value is written to a variable, or to the place that is found before it
abbrev pub written_by : Option ℕ → Expr → Expr → Expr
written_by None place e = Assign place e
written_by (Some k) place e = Set k e

-- a variable or a place is combined with a value; the value is what was written
abbrev pub updated_by : Option ℕ → Operator → Shape → Expr → Expr → Expr
updated_by None op s place e = Update op s place e
updated_by (Some k) op s place e = Set k (converted s (Operate op (Get k) e))

abbrev pub updated : Operator → Meant → Expr → Meant
updated op m e = value_meant (updated_by (variable_in m.standing) op (shape_of m.ty.base) m.expr e) m.ty

abbrev pub unary_meant : UnaryOp → Meant → Meant
unary_meant unary.Minus m = value_meant (Negated (value_of m)) int_type
unary_meant unary.Plus m = value_meant (value_of m) int_type
unary_meant unary.Not m = value_meant (Not (value_of m)) bool_type
unary_meant unary.Increment m = updated Add m (Literal (pos 1))
unary_meant unary.Decrement m = updated Sub m (Literal (pos 1))

abbrev pub assign_meant : AssignOp → Meant → Meant → Meant
assign_meant assign.Set m v = value_meant (written_by (variable_in m.standing) m.expr (converted (shape_of m.ty.base) (value_of v))) m.ty
assign_meant assign.Add m v = updated Add m (value_of v)
assign_meant assign.Sub m v = updated Sub m (value_of v)
assign_meant assign.Mul m v = updated Mul m (value_of v)
assign_meant assign.Div m v = updated Div m (value_of v)
assign_meant assign.Rem m v = updated Rem m (value_of v)

-- parts behind a root

-- a call of a condition, by its name
abbrev pub condition_call : List ℕ → Option ConditionCall
condition_call name =
    if same_name name (codes "wait") then Some Waits
    else if same_name name (codes "signal") then Some Signals
    else if same_name name (codes "signalBlock") then Some SignalsBlocking
    else if same_name name (codes "empty") then Some AsksEmpty
    else if same_name name (codes "front") then Some AsksFront
    else None

abbrev pub call_of_condition : Meant → Option ConditionCall → Meant
call_of_condition root None = no_meaning
call_of_condition root (Some c) = record { expr = root.expr; ty = int_type; standing = AsCallOf c }

abbrev pub object_member : whole.Program → Option ℕ → Expr → List ℕ → Meant
object_member p None object name = no_meaning
object_member p (Some i) object name = member_meant p i (Of object) name

-- the class of what has members: an object, or what a handler's parameter names
abbrev pub class_or_event : Option ℕ → Option ℕ → Option ℕ
class_or_event None event = event
class_or_event (Some i) event = Some i

-- an array has no members
abbrev pub place_member : whole.Program → Option ℕ → Meant → List ℕ → Meant
place_member p None root name = object_member p (class_or_event (class_made (making p root.ty.base)) (event_place p root.ty.base)) root.expr name
place_member p (Some n) root name = no_meaning

-- a field or a member of what the root stands for
abbrev pub part_by : whole.Program → Standing → Meant → List ℕ → Meant
part_by p AsInput root name = if same_name name fail_name then record { expr = Literal (pos 0); ty = bool_type; standing = AsFail } else no_meaning
part_by p (AtVariable k) root name = place_member p root.ty.len root name
part_by p (AtField s i) root name = place_member p root.ty.len root name
part_by p AtPlace root name = place_member p root.ty.len root name
part_by p AsNumber root name = place_member p root.ty.len root name
part_by p (AsCondition k) root name = call_of_condition root (condition_call name)
part_by p _ root name = no_meaning

abbrev pub field_meant : whole.Program → Meant → List ℕ → Meant
field_meant p root name = part_by p root.standing root name

-- a reference is bound to the place of its argument, another parameter has its value
abbrev pub arg_meant : Param → Meant → Expr
arg_meant x m = if x.by_ref then m.expr else converted (shape_of x.base) (value_of m)

-- an argument for each parameter
abbrev pub args_by : List Param → List Meant → Exprs
args_by [] ms = NoExprs
args_by (x ∷ xs) [] = NoExprs
args_by (x ∷ xs) (m ∷ ms) = MoreExprs (arg_meant x m) (args_by xs ms)

-- what a wait stores, 0 where nothing is given
abbrev pub stored_by : List Meant → Expr
stored_by [] = Literal (pos 0)
stored_by (m ∷ ms) = value_of m

abbrev pub condition_called : ConditionCall → Expr → List Meant → Meant
condition_called Waits e args = value_meant (OfObject (Wait e (stored_by args))) (scalar base.Void)
condition_called Signals e args = value_meant (OfObject (Signal e)) (scalar base.Void)
condition_called SignalsBlocking e args = value_meant (OfObject (SignalBlock e)) (scalar base.Void)
condition_called AsksEmpty e args = value_meant (OfObject (IsEmpty e)) bool_type
condition_called AsksFront e args = value_meant (OfObject (FrontOf e)) int_type

-- a call of what the root stands for with these arguments
abbrev pub call_by : whole.Program → Standing → Meant → List Meant → Meant
call_by p AsFail root args = value_meant Fail bool_type
call_by p (AsRoutine r) root args = value_meant (Call r (args_by (params_of p r) args)) root.ty
call_by p (AsMember r) root args = value_meant (OfObject (CallOn r root.expr (args_by (params_of p r) args))) root.ty
call_by p (AsLiveMember r) root args = value_meant (OfObject (CallLive r root.expr (args_by (params_of p r) args))) root.ty
call_by p (AsMutexMember m r) root args = value_meant (OfObject (EnterOn m r root.expr (args_by (params_of p r) args))) root.ty
call_by p (AsCallOf c) root args = condition_called c root.expr args
call_by p _ root args = no_meaning

abbrev pub call_meant : whole.Program → Meant → List Meant → Meant
call_meant p root args = call_by p root.standing root args

-- an element is of the array's base
abbrev pub one_of : Ty → Ty
one_of ty = record ty { len = None }

abbrev pub place_or_number : Bool → Expr → Ty → Meant
place_or_number true place ty = record { expr = Load place; ty = ty; standing = AsNumber }
place_or_number false place ty = record { expr = place; ty = ty; standing = AtPlace }

abbrev pub element_in : whole.Program → Standing → ℕ → Meant → Expr → Meant
element_in p (AsCondition k) n m i = record { expr = OfObject (ConditionAt k n i); ty = one_of m.ty; standing = AsCondition k }
element_in p _ n m i = place_or_number (has_number p (one_of m.ty)) (Element n (base_shape p m.ty.base) m.expr i) (one_of m.ty)

abbrev pub element_by : whole.Program → Option ℕ → Meant → Expr → Meant
element_by p None m i = no_meaning
element_by p (Some n) m i = element_in p m.standing n m i

abbrev pub element_meant : whole.Program → Meant → Meant → Meant
element_meant p m i = element_by p m.ty.len m (value_of i)

-- the old value of a variable or a place, which then has one more or one less
abbrev pub stepped_by : Option ℕ → Operator → Shape → Expr → Expr
stepped_by None op s place = StepBehind op s place
stepped_by (Some k) op s place = First (Get k) (Set k (converted s (Operate op (Get k) (Literal (pos 1)))))

abbrev pub stepped : Operator → Meant → Meant
stepped op m = value_meant (stepped_by (variable_in m.standing) op (shape_of m.ty.base) m.expr) m.ty

abbrev pub step_meant : StepOp → Meant → Meant
step_meant step.Increment m = stepped Add m
step_meant step.Decrement m = stepped Sub m

-- where an expression stands: its program, the place of its class, the number of its routine, and the names in scope, from the
-- outermost on
pub record Context : Type 0 where
  pub program : whole.Program
  pub class : Option ℕ
  pub routine : ℕ
  pub names : List LocalVariable

-- what expressions stand for there
module _ (c : Context) where
  abbrev mutual
    pub meant : expr.Expr → Meant
    meant (expr.Number p n) = value_meant (Literal n) int_type
    meant (expr.Character p byte) = value_meant (Literal (pos byte)) (scalar base.Char)
    meant (expr.Truth p b) = value_meant (Literal (truth_value b)) bool_type
    meant (expr.Name p name) = name_meant c.program c.class name (known_named c.names name)
    meant (expr.Cin p) = record { expr = Literal (pos 0); ty = int_type; standing = AsInput }
    meant (expr.Postfix p root parts) = parts_meant parts (meant root)
    meant (expr.Unary p op operand) = unary_meant op (meant operand)
    meant (expr.Chain p first rest) = chain_meant rest (meant first)
    meant (expr.Assign p sign op place value) = assign_meant op (meant place) (meant value)

    pub part_meant : expr.Part → Meant → Meant
    part_meant (expr.Field sign name) m = field_meant c.program m name
    part_meant (expr.Index sign index) m = element_meant c.program m (meant index)
    part_meant (expr.Call sign args) m = call_meant c.program m (args_meant args)
    part_meant (expr.Step sign op) m = step_meant op m

    pub args_meant : expr.Exprs → List Meant
    args_meant expr.NoExprs = []
    args_meant (expr.MoreExprs first rest) = meant first ∷ args_meant rest

    pub parts_meant : expr.Parts → Meant → Meant
    parts_meant expr.NoParts m = m
    parts_meant (expr.MoreParts first rest) m = parts_meant rest (part_meant first m)

    pub link_meant : expr.Link → Meant → Meant
    link_meant (expr.Linked sign op right) left = binary_meant op left (meant right)

    pub chain_meant : expr.Links → Meant → Meant
    chain_meant expr.NoLinks left = left
    chain_meant (expr.MoreLinks first rest) left = chain_meant rest (link_meant first left)

  -- a scalar that is asked for
  abbrev pub value_in_scope : expr.Expr → Expr
  value_in_scope e = value_of (meant e)
