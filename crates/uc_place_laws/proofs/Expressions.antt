-- What expressions stand for calls no constructor at an object, and binds, makes and ends nothing.
use Rattle.std.proofs.Common.{◌≡◌, ℕ, Bool, true, false, List, [], ◌∷◌, Option, Some, None, refl}
use Rattle.std.specs.Prelude.{pos, ◌&&◌}
use Rattle.uc_tree.specs.declared.kinds.Base.{Base}
use Rattle.uc_tree.specs.declared.kinds.Base.TheVariants as base
use Rattle.uc_tree.specs.declared.kinds.Kind.{Kind}
use Rattle.uc_tree.specs.declared.kinds.Ty.{Ty}
use Rattle.uc_tree.specs.declared.kinds.LocalVariable.{LocalVariable}
use Rattle.uc_tree.specs.declared.kinds.Param.{Param}
use Rattle.uc_tree.specs.declared.ops.UnaryOp.{UnaryOp}
use Rattle.uc_tree.specs.declared.ops.UnaryOp.TheVariants as unary
use Rattle.uc_tree.specs.declared.ops.BinaryOp.{BinaryOp}
use Rattle.uc_tree.specs.declared.ops.BinaryOp.TheVariants as binary
use Rattle.uc_tree.specs.declared.ops.AssignOp.{AssignOp}
use Rattle.uc_tree.specs.declared.ops.AssignOp.TheVariants as assign
use Rattle.uc_tree.specs.declared.ops.StepOp.{StepOp}
use Rattle.uc_tree.specs.declared.ops.StepOp.TheVariants as step
use Rattle.uc_tree.specs.Names.{same_name, fail_name}
use Rattle.uc_tree.specs.Constants.{constants_of, constant_named}
use Rattle.uc_tree.specs.Expressions as expr
use Rattle.uc_tree.specs.Programs as whole
use Rattle.uc_tree.specs.Programs.{Program}
use Rattle.uc_tree.specs.Cells.{leading_cells}
use Rattle.uc_tree.specs.Numbering.{is_event, member_number, routines_of}
use Rattle.uc_tree.specs.Objects.{is_coroutine, class_at, number_at, making, class_made, fields_of, shape_of, class_shape, member_from, event_place}
use Rattle.uc_tree.specs.Source as src
use Rattle.uc_tree.specs.Source.{Shape, Expr, Operator}
use Rattle.uc_resolve.specs.Standings as tree
use Rattle.uc_resolve.specs.Standings.{Standing, Meant, Whose, Own, Of, NumberedField, ConditionCall, Context}
use Rattle.uc_place_laws.proofs.AsideKeeping.{either}
use Rattle.uc_place_laws.specs.Siting.{PlainExpr, PlainExprs}
use Rattle.uc_place_laws.specs.AsideLaws.{makes_of}
use Rattle.uc_place_laws.proofs.Roles.{member_plain}

abbrev pub StandingPlain : Program → Standing → Type 0
StandingPlain p (tree.AsMember r) = makes_of p r ≡ false
StandingPlain p (tree.AsLiveMember r) = makes_of p r ≡ false
StandingPlain p (tree.AsMutexMember m r) = makes_of p r ≡ false
StandingPlain p x = Unit {0}

-- what an expression stands for
pub record MeantPlain (p : Program) (m : Meant) : Type 0 where
  pub expr : PlainExpr (makes_of p) m.expr
  pub standing : StandingPlain p m.standing

abbrev pub AllMeant : Program → List Meant → Type 0
AllMeant p [] = Unit {0}
AllMeant p (m ∷ ms) = MeantPlain p m × AllMeant p ms

module _ (p : Program) where
  -- values

  pub converted : (s : Shape) (e : Expr) → PlainExpr (makes_of p) e → PlainExpr (makes_of p) (tree.converted s e)
  converted src.Character e h = h
  converted src.Truth e h = h
  converted s e h = h

  value_by : (x : Standing) (e : Expr) → PlainExpr (makes_of p) e → PlainExpr (makes_of p) (tree.value_by x e)
  value_by (tree.AtVariable k) e h = tt
  value_by (tree.AtField s i) e h = tt
  value_by x e h = h

  pub value_of : (m : Meant) → MeantPlain p m → PlainExpr (makes_of p) (tree.value_of m)
  value_of m h = value_by m.standing m.expr h.expr

  -- names

  nothing : MeantPlain p tree.no_meaning
  nothing = record { expr = tt; standing = tt }

  known : (b : Bool) (k : LocalVariable) → MeantPlain p (tree.known_by b k)
  known true k = record { expr = tt; standing = tt }
  known false k = either (MeantPlain p) k.ty.by_ref _ _ (record { expr = tt; standing = tt }) (record { expr = tt; standing = tt })

  routine_by : (r : Option ℕ) → MeantPlain p (tree.routine_meant_by p r)
  routine_by None = nothing
  routine_by (Some r) = record { expr = tt; standing = tt }

  constant_by : (name : List ℕ) (c : Option whole.Constant) → MeantPlain p (tree.constant_meant_by p name c)
  constant_by name None = routine_by (tree.routine_from (routines_of p) 0 name)
  constant_by name (Some c) = record { expr = tt; standing = tt }

  item : (name : List ℕ) → MeantPlain p (tree.item_meant p name)
  item name = constant_by name (constant_named (constants_of p.items) name)

  -- members

  abbrev WhosePlain : Whose → Type 0
  WhosePlain Own = Unit {0}
  WhosePlain (Of object) = PlainExpr (makes_of p) object

  pub field_place : (s : Shape) (i : ℕ) (w : Whose) → WhosePlain w → PlainExpr (makes_of p) (tree.field_place s i w)
  field_place s i Own h = tt
  field_place s i (Of object) h = h

  field_held : (s : Shape) (i : ℕ) (w : Whose) → WhosePlain w → PlainExpr (makes_of p) (tree.field_held s i w)
  field_held s i Own h = tt
  field_held s i (Of object) h = h

  field_standing : (s : Shape) (i : ℕ) (w : Whose) → StandingPlain p (tree.field_standing s i w)
  field_standing s i Own = tt
  field_standing s i (Of object) = tt

  field_by_ref : (b : Bool) (s : Shape) (i : ℕ) (w : Whose) (ty : Ty) → WhosePlain w → MeantPlain p (tree.field_by_ref b s i w ty)
  field_by_ref false s i w ty h = record { expr = field_place s i w h; standing = field_standing s i w }
  field_by_ref true s i w ty h = record { expr = field_held s i w h; standing = tt }

  field_by : (a b : Bool) (s : Shape) (i : ℕ) (w : Whose) (ty : Ty) → WhosePlain w → MeantPlain p (tree.field_by a b s i w ty)
  field_by true b s i w ty h = record { expr = field_held s i w h; standing = tt }
  field_by false b s i w ty h = field_by_ref b s i w ty h

  field_found : (c : whole.Class) (i : ℕ) (w : Whose) (f : NumberedField) (b : Base) → WhosePlain w → MeantPlain p (tree.field_or_condition p c i w f b)
  field_found c i w f base.Condition h = record { expr = tt; standing = tt }
  field_found c i w f b h = field_by (tree.has_number p (tree.field_type p c f.field)) f.field.declarator.by_ref (class_shape p i) f.number w (tree.field_type p c f.field) h

  method_standing : (k : Kind) (w : Whose) (m : Option ℕ) (r : ℕ) → makes_of p r ≡ false → StandingPlain p (tree.method_standing k w m r)
  method_standing k w (Some m) r h = h
  method_standing k w None r h = either (StandingPlain p) (is_coroutine k && tree.is_path w) (tree.AsLiveMember r) (tree.AsMember r) h h

  object_of : (w : Whose) → WhosePlain w → PlainExpr (makes_of p) (tree.object_of_whose w)
  object_of Own h = tt
  object_of (Of object) h = h

  method_by : (i : ℕ) (c : whole.Class) (w : Whose) (name : List ℕ) (r : Option ℕ) → member_from (routines_of p) 0 (number_at p i) name ≡ r → WhosePlain w → MeantPlain p (tree.method_by p c w name r)
  method_by i c w name None e h = nothing
  method_by i c w name (Some r) e h = record { expr = object_of w h; standing = method_standing c.kind w (member_number c name) r (member_plain p (number_at p i) name r e) }

  member_by : (c : whole.Class) (i : ℕ) (w : Whose) (name : List ℕ) (f : Option NumberedField) → WhosePlain w → MeantPlain p (tree.member_by p c i w name f)
  member_by c i w name None h = either (MeantPlain p) (is_event c.kind) _ _ nothing (method_by i c w name (member_from (routines_of p) 0 (number_at p i) name) refl h)
  member_by c i w name (Some f) h = field_found c i w f f.field.base h

  member_in : (i : ℕ) (w : Whose) (name : List ℕ) (c : Option whole.Class) → WhosePlain w → MeantPlain p (tree.member_in p i w name c)
  member_in i w name None h = nothing
  member_in i w name (Some c) h = member_by c i w name (tree.field_named (leading_cells c.kind) (fields_of c.members) name) h

  member : (i : ℕ) (w : Whose) (name : List ℕ) → WhosePlain w → MeantPlain p (tree.member_meant p i w name)
  member i w name h = member_in i w name (class_at p i) h

  meant_or : (x : Standing) (m other : Meant) → MeantPlain p m → MeantPlain p other → MeantPlain p (tree.meant_or x m other)
  meant_or tree.AsNothing m other h k = k
  meant_or x m other h k = h

  own_meant : (class : Option ℕ) (name : List ℕ) → MeantPlain p (tree.own_meant p class name)
  own_meant None name = item name
  own_meant (Some i) name = meant_or (tree.member_meant p i Own name).standing (tree.member_meant p i Own name) (tree.item_meant p name) (member i Own name tt) (item name)

  name_meant : (class : Option ℕ) (name : List ℕ) (k : Option LocalVariable) → MeantPlain p (tree.name_meant p class name k)
  name_meant class name None = own_meant class name
  name_meant class name (Some k) = known (tree.has_number p k.ty) k

  -- operators

  combined : (op : Operator) (l r : Meant) (ty : Ty) → MeantPlain p l → MeantPlain p r → MeantPlain p (tree.combined op l r ty)
  combined op l r ty h k = record { expr = (value_of l h, value_of r k); standing = tt }

  binary_meant : (op : BinaryOp) (l r : Meant) → MeantPlain p l → MeantPlain p r → MeantPlain p (tree.binary_meant op l r)
  binary_meant binary.Or l r h k = record { expr = (value_of l h, value_of r k); standing = tt }
  binary_meant binary.And l r h k = record { expr = (value_of l h, value_of r k); standing = tt }
  binary_meant binary.Equal l r h k = combined src.Equal l r tree.bool_type h k
  binary_meant binary.NotEqual l r h k = combined src.NotEqual l r tree.bool_type h k
  binary_meant binary.Less l r h k = combined src.Less l r tree.bool_type h k
  binary_meant binary.LessEqual l r h k = combined src.LessEqual l r tree.bool_type h k
  binary_meant binary.Greater l r h k = combined src.Greater l r tree.bool_type h k
  binary_meant binary.GreaterEqual l r h k = combined src.GreaterEqual l r tree.bool_type h k
  binary_meant binary.Add l r h k = combined src.Add l r tree.int_type h k
  binary_meant binary.Sub l r h k = combined src.Sub l r tree.int_type h k
  binary_meant binary.Mul l r h k = combined src.Mul l r tree.int_type h k
  binary_meant binary.Div l r h k = combined src.Div l r tree.int_type h k
  binary_meant binary.Rem l r h k = combined src.Rem l r tree.int_type h k

  written_by : (v : Option ℕ) (place e : Expr) → PlainExpr (makes_of p) place → PlainExpr (makes_of p) e → PlainExpr (makes_of p) (tree.written_by v place e)
  written_by None place e h k = (h, k)
  written_by (Some v) place e h k = k

  updated_by : (v : Option ℕ) (op : Operator) (s : Shape) (place e : Expr) → PlainExpr (makes_of p) place → PlainExpr (makes_of p) e → PlainExpr (makes_of p) (tree.updated_by v op s place e)
  updated_by None op s place e h k = (h, k)
  updated_by (Some v) op s place e h k = converted s (src.Operate op (src.Get v) e) (tt, k)

  updated : (op : Operator) (m : Meant) (e : Expr) → MeantPlain p m → PlainExpr (makes_of p) e → MeantPlain p (tree.updated op m e)
  updated op m e h k = record { expr = updated_by (tree.variable_in m.standing) op (shape_of m.ty.base) m.expr e h.expr k; standing = tt }

  unary_meant : (op : UnaryOp) (m : Meant) → MeantPlain p m → MeantPlain p (tree.unary_meant op m)
  unary_meant unary.Minus m h = record { expr = value_of m h; standing = tt }
  unary_meant unary.Plus m h = record { expr = value_of m h; standing = tt }
  unary_meant unary.Not m h = record { expr = value_of m h; standing = tt }
  unary_meant unary.Increment m h = updated src.Add m (src.Literal (pos 1)) h tt
  unary_meant unary.Decrement m h = updated src.Sub m (src.Literal (pos 1)) h tt

  assign_meant : (op : AssignOp) (m v : Meant) → MeantPlain p m → MeantPlain p v → MeantPlain p (tree.assign_meant op m v)
  assign_meant assign.Set m v h k = record { expr = written_by (tree.variable_in m.standing) m.expr (tree.converted (shape_of m.ty.base) (tree.value_of v)) h.expr (converted (shape_of m.ty.base) (tree.value_of v) (value_of v k)); standing = tt }
  assign_meant assign.Add m v h k = updated src.Add m (tree.value_of v) h (value_of v k)
  assign_meant assign.Sub m v h k = updated src.Sub m (tree.value_of v) h (value_of v k)
  assign_meant assign.Mul m v h k = updated src.Mul m (tree.value_of v) h (value_of v k)
  assign_meant assign.Div m v h k = updated src.Div m (tree.value_of v) h (value_of v k)
  assign_meant assign.Rem m v h k = updated src.Rem m (tree.value_of v) h (value_of v k)

  -- parts behind a root

  call_of_condition : (root : Meant) (c : Option ConditionCall) → MeantPlain p root → MeantPlain p (tree.call_of_condition root c)
  call_of_condition root None h = nothing
  call_of_condition root (Some c) h = record { expr = h.expr; standing = tt }

  object_member : (i : Option ℕ) (object : Expr) (name : List ℕ) → PlainExpr (makes_of p) object → MeantPlain p (tree.object_member p i object name)
  object_member None object name h = nothing
  object_member (Some i) object name h = member i (Of object) name h

  place_member : (n : Option ℕ) (root : Meant) (name : List ℕ) → MeantPlain p root → MeantPlain p (tree.place_member p n root name)
  place_member None root name h = object_member (tree.class_or_event (class_made (making p root.ty.base)) (event_place p root.ty.base)) root.expr name h.expr
  place_member (Some n) root name h = nothing

  part_by : (x : Standing) (root : Meant) (name : List ℕ) → MeantPlain p root → MeantPlain p (tree.part_by p x root name)
  part_by tree.AsInput root name h = either (MeantPlain p) (same_name name fail_name) _ _ (record { expr = tt; standing = tt }) nothing
  part_by (tree.AtVariable k) root name h = place_member root.ty.len root name h
  part_by (tree.AtField s i) root name h = place_member root.ty.len root name h
  part_by tree.AtPlace root name h = place_member root.ty.len root name h
  part_by tree.AsNumber root name h = place_member root.ty.len root name h
  part_by (tree.AsCondition k) root name h = call_of_condition root (tree.condition_call name) h
  part_by x root name h = nothing

  arg_meant : (x : Param) (m : Meant) → MeantPlain p m → PlainExpr (makes_of p) (tree.arg_meant x m)
  arg_meant x m h = either (PlainExpr (makes_of p)) x.by_ref m.expr (tree.converted (shape_of x.base) (tree.value_of m)) h.expr (converted (shape_of x.base) (tree.value_of m) (value_of m h))

  pub args_by : (xs : List Param) (ms : List Meant) → AllMeant p ms → PlainExprs (makes_of p) (tree.args_by xs ms)
  args_by [] ms h = tt
  args_by (x ∷ xs) [] h = tt
  args_by (x ∷ xs) (m ∷ ms) h = (arg_meant x m h.0, args_by xs ms h.1)

  stored_by : (ms : List Meant) → AllMeant p ms → PlainExpr (makes_of p) (tree.stored_by ms)
  stored_by [] h = tt
  stored_by (m ∷ ms) h = value_of m h.0

  condition_called : (c : ConditionCall) (e : Expr) (args : List Meant) → PlainExpr (makes_of p) e → AllMeant p args → MeantPlain p (tree.condition_called c e args)
  condition_called tree.Waits e args h k = record { expr = (h, stored_by args k); standing = tt }
  condition_called tree.Signals e args h k = record { expr = h; standing = tt }
  condition_called tree.SignalsBlocking e args h k = record { expr = h; standing = tt }
  condition_called tree.AsksEmpty e args h k = record { expr = h; standing = tt }
  condition_called tree.AsksFront e args h k = record { expr = h; standing = tt }

  call_by : (x : Standing) (root : Meant) (args : List Meant) → StandingPlain p x → MeantPlain p root → AllMeant p args → MeantPlain p (tree.call_by p x root args)
  call_by tree.AsFail root args n h k = record { expr = tt; standing = tt }
  call_by (tree.AsRoutine r) root args n h k = record { expr = args_by (tree.params_of p r) args k; standing = tt }
  call_by (tree.AsMember r) root args n h k = record { expr = (n, h.expr, args_by (tree.params_of p r) args k); standing = tt }
  call_by (tree.AsLiveMember r) root args n h k = record { expr = (n, h.expr, args_by (tree.params_of p r) args k); standing = tt }
  call_by (tree.AsMutexMember m r) root args n h k = record { expr = (n, h.expr, args_by (tree.params_of p r) args k); standing = tt }
  call_by (tree.AsCallOf c) root args n h k = condition_called c root.expr args h.expr k
  call_by x root args n h k = nothing

  place_or_number : (b : Bool) (place : Expr) (ty : Ty) → PlainExpr (makes_of p) place → MeantPlain p (tree.place_or_number b place ty)
  place_or_number true place ty h = record { expr = h; standing = tt }
  place_or_number false place ty h = record { expr = h; standing = tt }

  element_in : (x : Standing) (n : ℕ) (m : Meant) (i : Expr) → MeantPlain p m → PlainExpr (makes_of p) i → MeantPlain p (tree.element_in p x n m i)
  element_in (tree.AsCondition c) n m i h k = record { expr = k; standing = tt }
  element_in x n m i h k = place_or_number (tree.has_number p (tree.one_of m.ty)) _ (tree.one_of m.ty) (h.expr, k)

  element_by : (n : Option ℕ) (m : Meant) (i : Expr) → MeantPlain p m → PlainExpr (makes_of p) i → MeantPlain p (tree.element_by p n m i)
  element_by None m i h k = nothing
  element_by (Some n) m i h k = element_in m.standing n m i h k

  stepped_by : (v : Option ℕ) (op : Operator) (s : Shape) (place : Expr) → PlainExpr (makes_of p) place → PlainExpr (makes_of p) (tree.stepped_by v op s place)
  stepped_by None op s place h = h
  stepped_by (Some v) op s place h = (tt, converted s (src.Operate op (src.Get v) (src.Literal (pos 1))) (tt, tt))

  step_meant : (op : StepOp) (m : Meant) → MeantPlain p m → MeantPlain p (tree.step_meant op m)
  step_meant step.Increment m h = record { expr = stepped_by (tree.variable_in m.standing) src.Add (shape_of m.ty.base) m.expr h.expr; standing = tt }
  step_meant step.Decrement m h = record { expr = stepped_by (tree.variable_in m.standing) src.Sub (shape_of m.ty.base) m.expr h.expr; standing = tt }

  module _ (class : Option ℕ) (routine : ℕ) (names : List LocalVariable) where
    abbrev pub c : Context
    c = record { program = p; class = class; routine = routine; names = names }

    mutual
      pub meant : (e : expr.Expr) → MeantPlain p (tree.meant c e)
      meant (expr.Number q n) = record { expr = tt; standing = tt }
      meant (expr.Character q n) = record { expr = tt; standing = tt }
      meant (expr.Truth q b) = record { expr = tt; standing = tt }
      meant (expr.Name q name) = name_meant class name (tree.known_named names name)
      meant (expr.Cin q) = record { expr = tt; standing = tt }
      meant (expr.Postfix q root parts) = parts_meant parts (tree.meant c root) (meant root)
      meant (expr.Unary q op operand) = unary_meant op (tree.meant c operand) (meant operand)
      meant (expr.Chain q start rest) = chain_meant rest (tree.meant c start) (meant start)
      meant (expr.Assign q sign op place value) = assign_meant op (tree.meant c place) (tree.meant c value) (meant place) (meant value)

      part_meant : (part : expr.Part) (m : Meant) → MeantPlain p m → MeantPlain p (tree.part_meant c part m)
      part_meant (expr.Field sign name) m h = part_by m.standing m name h
      part_meant (expr.Index sign index) m h = element_by m.ty.len m (tree.value_of (tree.meant c index)) h (value_of (tree.meant c index) (meant index))
      part_meant (expr.Call sign args) m h = call_by m.standing m (tree.args_meant c args) h.standing h (args_meant args)
      part_meant (expr.Step sign op) m h = step_meant op m h

      pub args_meant : (es : expr.Exprs) → AllMeant p (tree.args_meant c es)
      args_meant expr.NoExprs = tt
      args_meant (expr.MoreExprs e es) = (meant e, args_meant es)

      parts_meant : (parts : expr.Parts) (m : Meant) → MeantPlain p m → MeantPlain p (tree.parts_meant c parts m)
      parts_meant expr.NoParts m h = h
      parts_meant (expr.MoreParts part rest) m h = parts_meant rest (tree.part_meant c part m) (part_meant part m h)

      link_meant : (link : expr.Link) (m : Meant) → MeantPlain p m → MeantPlain p (tree.link_meant c link m)
      link_meant (expr.Linked sign op right) m h = binary_meant op m (tree.meant c right) h (meant right)

      chain_meant : (links : expr.Links) (m : Meant) → MeantPlain p m → MeantPlain p (tree.chain_meant c links m)
      chain_meant expr.NoLinks m h = h
      chain_meant (expr.MoreLinks link rest) m h = chain_meant rest (tree.link_meant c link m) (link_meant link m h)

    pub value : (e : expr.Expr) → PlainExpr (makes_of p) (tree.value_in_scope c e)
    value e = value_of (tree.meant c e) (meant e)
