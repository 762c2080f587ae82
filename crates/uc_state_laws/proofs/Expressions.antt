-- What expressions of a program stand for binds nothing, makes nothing and ends nothing.
use Rattle.std.proofs.Common.{ℕ, Bool, true, false, List, [], ◌∷◌, Option, Some, None}
use Rattle.std.specs.Prelude.{pos}
use Rattle.uc_tree.specs.declared.kinds.Base.{Base}
use Rattle.uc_tree.specs.declared.kinds.Base.TheVariants as base
use Rattle.uc_tree.specs.declared.kinds.Ty.{Ty}
use Rattle.uc_tree.specs.declared.kinds.LocalVariable.{LocalVariable}
use Rattle.uc_tree.specs.declared.kinds.Param.{Param}
use Rattle.uc_tree.specs.declared.ops.UnaryOp.{UnaryOp}
use Rattle.uc_tree.specs.declared.ops.UnaryOp.TheVariants as unary
use Rattle.uc_tree.specs.declared.ops.BinaryOp.{BinaryOp}
use Rattle.uc_tree.specs.declared.ops.BinaryOp.TheVariants as binary
use Rattle.uc_tree.specs.declared.ops.AssignOp.{AssignOp}
use Rattle.uc_tree.specs.declared.ops.AssignOp.TheVariants as assign
use Rattle.uc_tree.specs.declared.ops.StepOp.{StepOp}
use Rattle.uc_tree.specs.declared.ops.StepOp.TheVariants as step
use Rattle.uc_tree.specs.Names.{same_name, fail_name}
use Rattle.uc_tree.specs.Constants.{constants_of, constant_named}
use Rattle.uc_tree.specs.Expressions as expr
use Rattle.uc_tree.specs.Programs as whole
use Rattle.uc_tree.specs.Programs.{Program}
use Rattle.uc_tree.specs.Cells.{leading_cells}
use Rattle.uc_tree.specs.Numbering.{is_event, routines_of}
use Rattle.uc_tree.specs.Objects.{class_at, number_at, making, class_made, fields_of, shape_of, class_shape, member_from, event_place}
use Rattle.uc_tree.specs.Source as src
use Rattle.uc_tree.specs.Source.{Shape, Expr, Operator}
use Rattle.uc_resolve.specs.Standings as tree
use Rattle.uc_resolve.specs.Standings.{Standing, Meant, Whose, Own, Of, NumberedField, ConditionCall, Context}
use Rattle.uc_site_laws.proofs.Kept.{either}
use Rattle.uc_state_laws.specs.Ordinary.{Ordinary, OrdinaryAll}

-- what an expression stands for
pub record OrdinaryMeant (m : Meant) : Type 0 where
  pub expr : Ordinary m.expr

abbrev pub AllOrdinary : List Meant → Type 0
AllOrdinary [] = Unit {0}
AllOrdinary (m ∷ ms) = OrdinaryMeant m × AllOrdinary ms

-- values

pub converted : (s : Shape) (e : Expr) → Ordinary e → Ordinary (tree.converted s e)
converted src.Character e h = h
converted src.Truth e h = h
converted s e h = h

value_by : (x : Standing) (e : Expr) → Ordinary e → Ordinary (tree.value_by x e)
value_by (tree.AtVariable k) e h = tt
value_by (tree.AtField s i) e h = tt
value_by x e h = h

pub value_of : (m : Meant) → OrdinaryMeant m → Ordinary (tree.value_of m)
value_of m h = value_by m.standing m.expr h.expr

-- names

nothing : OrdinaryMeant tree.no_meaning
nothing = record { expr = tt }

known : (b : Bool) (k : LocalVariable) → OrdinaryMeant (tree.known_by b k)
known true k = record { expr = tt }
known false k = either OrdinaryMeant k.ty.by_ref _ _ (record { expr = tt }) (record { expr = tt })

routine_by : (p : Program) (r : Option ℕ) → OrdinaryMeant (tree.routine_meant_by p r)
routine_by p None = nothing
routine_by p (Some r) = record { expr = tt }

constant_by : (p : Program) (name : List ℕ) (c : Option whole.Constant) → OrdinaryMeant (tree.constant_meant_by p name c)
constant_by p name None = routine_by p (tree.routine_from (routines_of p) 0 name)
constant_by p name (Some c) = record { expr = tt }

item : (p : Program) (name : List ℕ) → OrdinaryMeant (tree.item_meant p name)
item p name = constant_by p name (constant_named (constants_of p.items) name)

-- members

abbrev OrdinaryWhose : Whose → Type 0
OrdinaryWhose Own = Unit {0}
OrdinaryWhose (Of object) = Ordinary object

pub field_place : (s : Shape) (i : ℕ) (w : Whose) → OrdinaryWhose w → Ordinary (tree.field_place s i w)
field_place s i Own h = tt
field_place s i (Of object) h = h

field_held : (s : Shape) (i : ℕ) (w : Whose) → OrdinaryWhose w → Ordinary (tree.field_held s i w)
field_held s i Own h = tt
field_held s i (Of object) h = h

field_by_ref : (b : Bool) (s : Shape) (i : ℕ) (w : Whose) (ty : Ty) → OrdinaryWhose w → OrdinaryMeant (tree.field_by_ref b s i w ty)
field_by_ref false s i w ty h = record { expr = field_place s i w h }
field_by_ref true s i w ty h = record { expr = field_held s i w h }

field_by : (a b : Bool) (s : Shape) (i : ℕ) (w : Whose) (ty : Ty) → OrdinaryWhose w → OrdinaryMeant (tree.field_by a b s i w ty)
field_by true b s i w ty h = record { expr = field_held s i w h }
field_by false b s i w ty h = field_by_ref b s i w ty h

field_found : (p : Program) (c : whole.Class) (i : ℕ) (w : Whose) (f : NumberedField) (b : Base) → OrdinaryWhose w → OrdinaryMeant (tree.field_or_condition p c i w f b)
field_found p c i w f base.Condition h = record { expr = tt }
field_found p c i w f b h = field_by (tree.has_number p (tree.field_type p c f.field)) f.field.declarator.by_ref (class_shape p i) f.number w (tree.field_type p c f.field) h

object_of : (w : Whose) → OrdinaryWhose w → Ordinary (tree.object_of_whose w)
object_of Own h = tt
object_of (Of object) h = h

method_by : (p : Program) (c : whole.Class) (w : Whose) (name : List ℕ) (r : Option ℕ) → OrdinaryWhose w → OrdinaryMeant (tree.method_by p c w name r)
method_by p c w name None h = nothing
method_by p c w name (Some r) h = record { expr = object_of w h }

member_by : (p : Program) (c : whole.Class) (i : ℕ) (w : Whose) (name : List ℕ) (f : Option NumberedField) → OrdinaryWhose w → OrdinaryMeant (tree.member_by p c i w name f)
member_by p c i w name None h = either OrdinaryMeant (is_event c.kind) _ _ nothing (method_by p c w name (member_from (routines_of p) 0 (number_at p i) name) h)
member_by p c i w name (Some f) h = field_found p c i w f f.field.base h

member_in : (p : Program) (i : ℕ) (w : Whose) (name : List ℕ) (c : Option whole.Class) → OrdinaryWhose w → OrdinaryMeant (tree.member_in p i w name c)
member_in p i w name None h = nothing
member_in p i w name (Some c) h = member_by p c i w name (tree.field_named (leading_cells c.kind) (fields_of c.members) name) h

member : (p : Program) (i : ℕ) (w : Whose) (name : List ℕ) → OrdinaryWhose w → OrdinaryMeant (tree.member_meant p i w name)
member p i w name h = member_in p i w name (class_at p i) h

meant_or : (x : Standing) (m other : Meant) → OrdinaryMeant m → OrdinaryMeant other → OrdinaryMeant (tree.meant_or x m other)
meant_or tree.AsNothing m other h k = k
meant_or x m other h k = h

own_meant : (p : Program) (class : Option ℕ) (name : List ℕ) → OrdinaryMeant (tree.own_meant p class name)
own_meant p None name = item p name
own_meant p (Some i) name = meant_or (tree.member_meant p i Own name).standing (tree.member_meant p i Own name) (tree.item_meant p name) (member p i Own name tt) (item p name)

name_meant : (p : Program) (class : Option ℕ) (name : List ℕ) (k : Option LocalVariable) → OrdinaryMeant (tree.name_meant p class name k)
name_meant p class name None = own_meant p class name
name_meant p class name (Some k) = known (tree.has_number p k.ty) k

-- operators

combined : (op : Operator) (l r : Meant) (ty : Ty) → OrdinaryMeant l → OrdinaryMeant r → OrdinaryMeant (tree.combined op l r ty)
combined op l r ty h k = record { expr = (value_of l h, value_of r k) }

binary_meant : (op : BinaryOp) (l r : Meant) → OrdinaryMeant l → OrdinaryMeant r → OrdinaryMeant (tree.binary_meant op l r)
binary_meant binary.Or l r h k = record { expr = (value_of l h, value_of r k) }
binary_meant binary.And l r h k = record { expr = (value_of l h, value_of r k) }
binary_meant binary.Equal l r h k = combined src.Equal l r tree.bool_type h k
binary_meant binary.NotEqual l r h k = combined src.NotEqual l r tree.bool_type h k
binary_meant binary.Less l r h k = combined src.Less l r tree.bool_type h k
binary_meant binary.LessEqual l r h k = combined src.LessEqual l r tree.bool_type h k
binary_meant binary.Greater l r h k = combined src.Greater l r tree.bool_type h k
binary_meant binary.GreaterEqual l r h k = combined src.GreaterEqual l r tree.bool_type h k
binary_meant binary.Add l r h k = combined src.Add l r tree.int_type h k
binary_meant binary.Sub l r h k = combined src.Sub l r tree.int_type h k
binary_meant binary.Mul l r h k = combined src.Mul l r tree.int_type h k
binary_meant binary.Div l r h k = combined src.Div l r tree.int_type h k
binary_meant binary.Rem l r h k = combined src.Rem l r tree.int_type h k

written_by : (v : Option ℕ) (place e : Expr) → Ordinary place → Ordinary e → Ordinary (tree.written_by v place e)
written_by None place e h k = (h, k)
written_by (Some v) place e h k = k

updated_by : (v : Option ℕ) (op : Operator) (s : Shape) (place e : Expr) → Ordinary place → Ordinary e → Ordinary (tree.updated_by v op s place e)
updated_by None op s place e h k = (h, k)
updated_by (Some v) op s place e h k = converted s (src.Operate op (src.Get v) e) (tt, k)

updated : (op : Operator) (m : Meant) (e : Expr) → OrdinaryMeant m → Ordinary e → OrdinaryMeant (tree.updated op m e)
updated op m e h k = record { expr = updated_by (tree.variable_in m.standing) op (shape_of m.ty.base) m.expr e h.expr k }

unary_meant : (op : UnaryOp) (m : Meant) → OrdinaryMeant m → OrdinaryMeant (tree.unary_meant op m)
unary_meant unary.Minus m h = record { expr = value_of m h }
unary_meant unary.Plus m h = record { expr = value_of m h }
unary_meant unary.Not m h = record { expr = value_of m h }
unary_meant unary.Increment m h = updated src.Add m (src.Literal (pos 1)) h tt
unary_meant unary.Decrement m h = updated src.Sub m (src.Literal (pos 1)) h tt

assign_meant : (op : AssignOp) (m v : Meant) → OrdinaryMeant m → OrdinaryMeant v → OrdinaryMeant (tree.assign_meant op m v)
assign_meant assign.Set m v h k = record { expr = written_by (tree.variable_in m.standing) m.expr (tree.converted (shape_of m.ty.base) (tree.value_of v)) h.expr (converted (shape_of m.ty.base) (tree.value_of v) (value_of v k)) }
assign_meant assign.Add m v h k = updated src.Add m (tree.value_of v) h (value_of v k)
assign_meant assign.Sub m v h k = updated src.Sub m (tree.value_of v) h (value_of v k)
assign_meant assign.Mul m v h k = updated src.Mul m (tree.value_of v) h (value_of v k)
assign_meant assign.Div m v h k = updated src.Div m (tree.value_of v) h (value_of v k)
assign_meant assign.Rem m v h k = updated src.Rem m (tree.value_of v) h (value_of v k)

-- parts behind a root

call_of_condition : (root : Meant) (c : Option ConditionCall) → OrdinaryMeant root → OrdinaryMeant (tree.call_of_condition root c)
call_of_condition root None h = nothing
call_of_condition root (Some c) h = record { expr = h.expr }

object_member : (p : Program) (i : Option ℕ) (object : Expr) (name : List ℕ) → Ordinary object → OrdinaryMeant (tree.object_member p i object name)
object_member p None object name h = nothing
object_member p (Some i) object name h = member p i (Of object) name h

place_member : (p : Program) (n : Option ℕ) (root : Meant) (name : List ℕ) → OrdinaryMeant root → OrdinaryMeant (tree.place_member p n root name)
place_member p None root name h = object_member p (tree.class_or_event (class_made (making p root.ty.base)) (event_place p root.ty.base)) root.expr name h.expr
place_member p (Some n) root name h = nothing

part_by : (p : Program) (x : Standing) (root : Meant) (name : List ℕ) → OrdinaryMeant root → OrdinaryMeant (tree.part_by p x root name)
part_by p tree.AsInput root name h = either OrdinaryMeant (same_name name fail_name) _ _ (record { expr = tt }) nothing
part_by p (tree.AtVariable k) root name h = place_member p root.ty.len root name h
part_by p (tree.AtField s i) root name h = place_member p root.ty.len root name h
part_by p tree.AtPlace root name h = place_member p root.ty.len root name h
part_by p tree.AsNumber root name h = place_member p root.ty.len root name h
part_by p (tree.AsCondition k) root name h = call_of_condition root (tree.condition_call name) h
part_by p x root name h = nothing

arg_meant : (x : Param) (m : Meant) → OrdinaryMeant m → Ordinary (tree.arg_meant x m)
arg_meant x m h = either Ordinary x.by_ref m.expr (tree.converted (shape_of x.base) (tree.value_of m)) h.expr (converted (shape_of x.base) (tree.value_of m) (value_of m h))

pub args_by : (xs : List Param) (ms : List Meant) → AllOrdinary ms → OrdinaryAll (tree.args_by xs ms)
args_by [] ms h = tt
args_by (x ∷ xs) [] h = tt
args_by (x ∷ xs) (m ∷ ms) h = (arg_meant x m h.0, args_by xs ms h.1)

stored_by : (ms : List Meant) → AllOrdinary ms → Ordinary (tree.stored_by ms)
stored_by [] h = tt
stored_by (m ∷ ms) h = value_of m h.0

condition_called : (c : ConditionCall) (e : Expr) (args : List Meant) → Ordinary e → AllOrdinary args → OrdinaryMeant (tree.condition_called c e args)
condition_called tree.Waits e args h k = record { expr = (h, stored_by args k) }
condition_called tree.Signals e args h k = record { expr = h }
condition_called tree.SignalsBlocking e args h k = record { expr = h }
condition_called tree.AsksEmpty e args h k = record { expr = h }
condition_called tree.AsksFront e args h k = record { expr = h }

call_by : (p : Program) (x : Standing) (root : Meant) (args : List Meant) → OrdinaryMeant root → AllOrdinary args → OrdinaryMeant (tree.call_by p x root args)
call_by p tree.AsFail root args h k = record { expr = tt }
call_by p (tree.AsRoutine r) root args h k = record { expr = args_by (tree.params_of p r) args k }
call_by p (tree.AsMember r) root args h k = record { expr = (h.expr, args_by (tree.params_of p r) args k) }
call_by p (tree.AsLiveMember r) root args h k = record { expr = (h.expr, args_by (tree.params_of p r) args k) }
call_by p (tree.AsMutexMember m r) root args h k = record { expr = (h.expr, args_by (tree.params_of p r) args k) }
call_by p (tree.AsCallOf c) root args h k = condition_called c root.expr args h.expr k
call_by p x root args h k = nothing

place_or_number : (b : Bool) (place : Expr) (ty : Ty) → Ordinary place → OrdinaryMeant (tree.place_or_number b place ty)
place_or_number true place ty h = record { expr = h }
place_or_number false place ty h = record { expr = h }

element_in : (p : Program) (x : Standing) (n : ℕ) (m : Meant) (i : Expr) → OrdinaryMeant m → Ordinary i → OrdinaryMeant (tree.element_in p x n m i)
element_in p (tree.AsCondition c) n m i h k = record { expr = k }
element_in p x n m i h k = place_or_number (tree.has_number p (tree.one_of m.ty)) _ (tree.one_of m.ty) (h.expr, k)

element_by : (p : Program) (n : Option ℕ) (m : Meant) (i : Expr) → OrdinaryMeant m → Ordinary i → OrdinaryMeant (tree.element_by p n m i)
element_by p None m i h k = nothing
element_by p (Some n) m i h k = element_in p m.standing n m i h k

stepped_by : (v : Option ℕ) (op : Operator) (s : Shape) (place : Expr) → Ordinary place → Ordinary (tree.stepped_by v op s place)
stepped_by None op s place h = h
stepped_by (Some v) op s place h = (tt, converted s (src.Operate op (src.Get v) (src.Literal (pos 1))) (tt, tt))

step_meant : (op : StepOp) (m : Meant) → OrdinaryMeant m → OrdinaryMeant (tree.step_meant op m)
step_meant step.Increment m h = record { expr = stepped_by (tree.variable_in m.standing) src.Add (shape_of m.ty.base) m.expr h.expr }
step_meant step.Decrement m h = record { expr = stepped_by (tree.variable_in m.standing) src.Sub (shape_of m.ty.base) m.expr h.expr }

module _ (c : Context) where
  mutual
    pub meant : (e : expr.Expr) → OrdinaryMeant (tree.meant c e)
    meant (expr.Number q n) = record { expr = tt }
    meant (expr.Character q n) = record { expr = tt }
    meant (expr.Truth q b) = record { expr = tt }
    meant (expr.Name q name) = name_meant c.program c.class name (tree.known_named c.names name)
    meant (expr.Cin q) = record { expr = tt }
    meant (expr.Postfix q root parts) = parts_meant parts (tree.meant c root) (meant root)
    meant (expr.Unary q op operand) = unary_meant op (tree.meant c operand) (meant operand)
    meant (expr.Chain q start rest) = chain_meant rest (tree.meant c start) (meant start)
    meant (expr.Assign q sign op place value) = assign_meant op (tree.meant c place) (tree.meant c value) (meant place) (meant value)

    part_meant : (part : expr.Part) (m : Meant) → OrdinaryMeant m → OrdinaryMeant (tree.part_meant c part m)
    part_meant (expr.Field sign name) m h = part_by c.program m.standing m name h
    part_meant (expr.Index sign index) m h = element_by c.program m.ty.len m (tree.value_of (tree.meant c index)) h (value_of (tree.meant c index) (meant index))
    part_meant (expr.Call sign args) m h = call_by c.program m.standing m (tree.args_meant c args) h (args_meant args)
    part_meant (expr.Step sign op) m h = step_meant op m h

    pub args_meant : (es : expr.Exprs) → AllOrdinary (tree.args_meant c es)
    args_meant expr.NoExprs = tt
    args_meant (expr.MoreExprs e es) = (meant e, args_meant es)

    parts_meant : (parts : expr.Parts) (m : Meant) → OrdinaryMeant m → OrdinaryMeant (tree.parts_meant c parts m)
    parts_meant expr.NoParts m h = h
    parts_meant (expr.MoreParts part rest) m h = parts_meant rest (tree.part_meant c part m) (part_meant part m h)

    link_meant : (link : expr.Link) (m : Meant) → OrdinaryMeant m → OrdinaryMeant (tree.link_meant c link m)
    link_meant (expr.Linked sign op right) m h = binary_meant op m (tree.meant c right) h (meant right)

    chain_meant : (links : expr.Links) (m : Meant) → OrdinaryMeant m → OrdinaryMeant (tree.chain_meant c links m)
    chain_meant expr.NoLinks m h = h
    chain_meant (expr.MoreLinks link rest) m h = chain_meant rest (tree.link_meant c link m) (link_meant link m h)

  pub value : (e : expr.Expr) → Ordinary (tree.value_in_scope c e)
  value e = value_of (tree.meant c e) (meant e)
