-- Expressions at which no rule is broken in an initialiser name of the object at hand fields before the one that is initialised.
use Rattle.std.proofs.Common.{◌≡◌, ℕ, ◌<◌, Bool, true, false, List, [], ◌∷◌, Option, Some, None, refl}
use Rattle.std.specs.Prelude.{pos, ◌&&◌, if◌then◌else◌}
use Rattle.uc_tree.specs.declared.pos.Pos.{Pos}
use Rattle.uc_tree.specs.declared.kinds.Base.{Base}
use Rattle.uc_tree.specs.declared.kinds.Base.TheVariants as base
use Rattle.uc_tree.specs.declared.kinds.Kind.{Kind}
use Rattle.uc_tree.specs.declared.kinds.Ty.{Ty}
use Rattle.uc_tree.specs.declared.kinds.LocalVariable.{LocalVariable}
use Rattle.uc_tree.specs.declared.kinds.Param.{Param}
use Rattle.uc_tree.specs.declared.ops.UnaryOp.{UnaryOp}
use Rattle.uc_tree.specs.declared.ops.UnaryOp.TheVariants as unary
use Rattle.uc_tree.specs.declared.ops.BinaryOp.{BinaryOp}
use Rattle.uc_tree.specs.declared.ops.BinaryOp.TheVariants as binary
use Rattle.uc_tree.specs.declared.ops.AssignOp.{AssignOp}
use Rattle.uc_tree.specs.declared.ops.AssignOp.TheVariants as assign
use Rattle.uc_tree.specs.declared.ops.StepOp.{StepOp}
use Rattle.uc_tree.specs.declared.ops.StepOp.TheVariants as step
use Rattle.uc_tree.specs.Names.{same_name, fail_name}
use Rattle.uc_tree.specs.Constants.{constants_of, constant_named}
use Rattle.uc_tree.specs.Expressions as expr
use Rattle.uc_tree.specs.Programs as whole
use Rattle.uc_tree.specs.Programs.{Program}
use Rattle.uc_tree.specs.Cells.{leading_cells}
use Rattle.uc_tree.specs.Numbering.{is_event, member_number, routines_of}
use Rattle.uc_tree.specs.Objects.{is_coroutine, class_at, number_at, making, class_made, fields_of, shape_of, class_shape, member_from, event_place}
use Rattle.uc_tree.specs.Source as src
use Rattle.uc_tree.specs.Source.{Shape, Expr, Operator}
use Rattle.uc_resolve.specs.Standings as tree
use Rattle.uc_resolve.specs.Standings.{Standing, Meant, Whose, Own, Of, NumberedField, ConditionCall, Context}
use Rattle.uc_rules.specs.declared.rules.Entity.{Entity}
use Rattle.uc_rules.specs.declared.rules.Target.{Target}
use Rattle.uc_rules.specs.Scopes.{Env}
use Rattle.uc_rules.specs.Entities.{entity_of, part_entity, link_entity, is_input, call_follows, call_target, expected}
use Rattle.uc_rules.specs.Visits.{AtUse, visits, part_visits, parts_visits, link_visits, chain_visits, args_visits, arg_visits, root_entity}
use Rattle.uc_rules.specs.Breaks.{breaks_at}
use Rattle.uc_sound.specs.Unbroken.{Unbroken}
use Rattle.uc_sound.proofs.UnbrokenLemmas.{first, second, one}
use Rattle.uc_depth_laws.proofs.Kept.{either}
use Rattle.uc_source_laws.specs.Initialising.{Earlier, AllEarlier}

-- what stands there: a field of the object at hand is an earlier one
abbrev pub StandingEarlier : ℕ → Standing → Type 0
StandingEarlier n (tree.AtField s i) = i < n
StandingEarlier n x = Unit {0}

-- what an expression stands for
pub record MeantEarlier (n : ℕ) (m : Meant) : Type 0 where
  pub expr : Earlier n m.expr
  pub standing : StandingEarlier n m.standing

abbrev pub AllMeant : ℕ → List Meant → Type 0
AllMeant n [] = Unit {0}
AllMeant n (m ∷ ms) = MeantEarlier n m × AllMeant n ms

module _ (p : Program) (n : ℕ) where
  -- values

  pub converted : (s : Shape) (e : Expr) → Earlier n e → Earlier n (tree.converted s e)
  converted src.Character e h = h
  converted src.Truth e h = h
  converted s e h = h

  value_by : (x : Standing) (e : Expr) → StandingEarlier n x → Earlier n e → Earlier n (tree.value_by x e)
  value_by (tree.AtVariable k) e w h = tt
  value_by (tree.AtField s i) e w h = (w, tt)
  value_by x e w h = h

  pub value_of : (m : Meant) → MeantEarlier n m → Earlier n (tree.value_of m)
  value_of m h = value_by m.standing m.expr h.standing h.expr

  -- names

  nothing : MeantEarlier n tree.no_meaning
  nothing = record { expr = tt; standing = tt }

  pub known : (b : Bool) (k : LocalVariable) → MeantEarlier n (tree.known_by b k)
  known true k = record { expr = tt; standing = tt }
  known false k = either (MeantEarlier n) k.ty.by_ref _ _ (record { expr = tt; standing = tt }) (record { expr = tt; standing = tt })

  routine_by : (r : Option ℕ) → MeantEarlier n (tree.routine_meant_by p r)
  routine_by None = nothing
  routine_by (Some r) = record { expr = tt; standing = tt }

  constant_by : (name : List ℕ) (c : Option whole.Constant) → MeantEarlier n (tree.constant_meant_by p name c)
  constant_by name None = routine_by (tree.routine_from (routines_of p) 0 name)
  constant_by name (Some c) = record { expr = tt; standing = tt }

  pub item : (name : List ℕ) → MeantEarlier n (tree.item_meant p name)
  item name = constant_by name (constant_named (constants_of p.items) name)

  -- members

  -- a field of this number is named of the object at hand, where it is an earlier one, or of another
  abbrev pub WhoseEarlier : ℕ → Whose → Type 0
  WhoseEarlier i Own = i < n
  WhoseEarlier i (Of object) = Earlier n object

  field_place : (s : Shape) (i : ℕ) (w : Whose) → WhoseEarlier i w → Earlier n (tree.field_place s i w)
  field_place s i Own h = (h, tt)
  field_place s i (Of object) h = (tt, h)

  field_held : (s : Shape) (i : ℕ) (w : Whose) → WhoseEarlier i w → Earlier n (tree.field_held s i w)
  field_held s i Own h = (h, tt)
  field_held s i (Of object) h = (tt, h)

  field_standing : (s : Shape) (i : ℕ) (w : Whose) → WhoseEarlier i w → StandingEarlier n (tree.field_standing s i w)
  field_standing s i Own h = h
  field_standing s i (Of object) h = tt

  field_by_ref : (b : Bool) (s : Shape) (i : ℕ) (w : Whose) (ty : Ty) → WhoseEarlier i w → MeantEarlier n (tree.field_by_ref b s i w ty)
  field_by_ref false s i w ty h = record { expr = field_place s i w h; standing = field_standing s i w h }
  field_by_ref true s i w ty h = record { expr = field_held s i w h; standing = tt }

  field_by : (a b : Bool) (s : Shape) (i : ℕ) (w : Whose) (ty : Ty) → WhoseEarlier i w → MeantEarlier n (tree.field_by a b s i w ty)
  field_by true b s i w ty h = record { expr = field_held s i w h; standing = tt }
  field_by false b s i w ty h = field_by_ref b s i w ty h

  field_at : (c : whole.Class) (i : ℕ) (w : Whose) (f : NumberedField) (b : Base) → WhoseEarlier f.number w → MeantEarlier n (tree.field_or_condition p c i w f b)
  field_at c i w f base.Condition h = record { expr = tt; standing = tt }
  field_at c i w f b h = field_by (tree.has_number p (tree.field_type p c f.field)) f.field.declarator.by_ref (class_shape p i) f.number w (tree.field_type p c f.field) h

  pub field_found : (c : whole.Class) (i : ℕ) (w : Whose) (f : NumberedField) → WhoseEarlier f.number w → MeantEarlier n (tree.field_found p c i w f)
  field_found c i w f h = field_at c i w f f.field.base h

  method_standing : (k : Kind) (w : Whose) (m : Option ℕ) (r : ℕ) → StandingEarlier n (tree.method_standing k w m r)
  method_standing k w (Some m) r = tt
  method_standing k w None r = either (StandingEarlier n) (is_coroutine k && tree.is_path w) (tree.AsLiveMember r) (tree.AsMember r) tt tt

  method_by : (c : whole.Class) (object : Expr) (name : List ℕ) (r : Option ℕ) → Earlier n object → MeantEarlier n (tree.method_by p c (Of object) name r)
  method_by c object name None h = nothing
  method_by c object name (Some r) h = record { expr = h; standing = method_standing c.kind (Of object) (member_number c name) r }

  member_by : (c : whole.Class) (i : ℕ) (object : Expr) (name : List ℕ) (f : Option NumberedField) → Earlier n object → MeantEarlier n (tree.member_by p c i (Of object) name f)
  member_by c i object name None h = either (MeantEarlier n) (is_event c.kind) tree.no_meaning (tree.method_meant p c i (Of object) name) nothing (method_by c object name (member_from (routines_of p) 0 (number_at p i) name) h)
  member_by c i object name (Some f) h = field_found c i (Of object) f h

  member_in : (i : ℕ) (object : Expr) (name : List ℕ) (c : Option whole.Class) → Earlier n object → MeantEarlier n (tree.member_in p i (Of object) name c)
  member_in i object name None h = nothing
  member_in i object name (Some c) h = member_by c i object name (tree.field_named (leading_cells c.kind) (fields_of c.members) name) h

  member : (i : ℕ) (object : Expr) (name : List ℕ) → Earlier n object → MeantEarlier n (tree.member_meant p i (Of object) name)
  member i object name h = member_in i object name (class_at p i) h

  pub meant_or : (x : Standing) (m other : Meant) → MeantEarlier n m → MeantEarlier n other → MeantEarlier n (tree.meant_or x m other)
  meant_or tree.AsNothing m other h k = k
  meant_or x m other h k = h

  -- operators

  combined : (op : Operator) (l r : Meant) (ty : Ty) → MeantEarlier n l → MeantEarlier n r → MeantEarlier n (tree.combined op l r ty)
  combined op l r ty h k = record { expr = (value_of l h, value_of r k); standing = tt }

  binary_meant : (op : BinaryOp) (l r : Meant) → MeantEarlier n l → MeantEarlier n r → MeantEarlier n (tree.binary_meant op l r)
  binary_meant binary.Or l r h k = record { expr = (value_of l h, value_of r k); standing = tt }
  binary_meant binary.And l r h k = record { expr = (value_of l h, value_of r k); standing = tt }
  binary_meant binary.Equal l r h k = combined src.Equal l r tree.bool_type h k
  binary_meant binary.NotEqual l r h k = combined src.NotEqual l r tree.bool_type h k
  binary_meant binary.Less l r h k = combined src.Less l r tree.bool_type h k
  binary_meant binary.LessEqual l r h k = combined src.LessEqual l r tree.bool_type h k
  binary_meant binary.Greater l r h k = combined src.Greater l r tree.bool_type h k
  binary_meant binary.GreaterEqual l r h k = combined src.GreaterEqual l r tree.bool_type h k
  binary_meant binary.Add l r h k = combined src.Add l r tree.int_type h k
  binary_meant binary.Sub l r h k = combined src.Sub l r tree.int_type h k
  binary_meant binary.Mul l r h k = combined src.Mul l r tree.int_type h k
  binary_meant binary.Div l r h k = combined src.Div l r tree.int_type h k
  binary_meant binary.Rem l r h k = combined src.Rem l r tree.int_type h k

  written_by : (v : Option ℕ) (place e : Expr) → Earlier n place → Earlier n e → Earlier n (tree.written_by v place e)
  written_by None place e h k = (h, k)
  written_by (Some v) place e h k = k

  updated_by : (v : Option ℕ) (op : Operator) (s : Shape) (place e : Expr) → Earlier n place → Earlier n e → Earlier n (tree.updated_by v op s place e)
  updated_by None op s place e h k = (h, k)
  updated_by (Some v) op s place e h k = converted s (src.Operate op (src.Get v) e) (tt, k)

  updated : (op : Operator) (m : Meant) (e : Expr) → MeantEarlier n m → Earlier n e → MeantEarlier n (tree.updated op m e)
  updated op m e h k = record { expr = updated_by (tree.variable_in m.standing) op (shape_of m.ty.base) m.expr e h.expr k; standing = tt }

  unary_meant : (op : UnaryOp) (m : Meant) → MeantEarlier n m → MeantEarlier n (tree.unary_meant op m)
  unary_meant unary.Minus m h = record { expr = value_of m h; standing = tt }
  unary_meant unary.Plus m h = record { expr = value_of m h; standing = tt }
  unary_meant unary.Not m h = record { expr = value_of m h; standing = tt }
  unary_meant unary.Increment m h = updated src.Add m (src.Literal (pos 1)) h tt
  unary_meant unary.Decrement m h = updated src.Sub m (src.Literal (pos 1)) h tt

  assign_meant : (op : AssignOp) (m v : Meant) → MeantEarlier n m → MeantEarlier n v → MeantEarlier n (tree.assign_meant op m v)
  assign_meant assign.Set m v h k = record { expr = written_by (tree.variable_in m.standing) m.expr (tree.converted (shape_of m.ty.base) (tree.value_of v)) h.expr (converted (shape_of m.ty.base) (tree.value_of v) (value_of v k)); standing = tt }
  assign_meant assign.Add m v h k = updated src.Add m (tree.value_of v) h (value_of v k)
  assign_meant assign.Sub m v h k = updated src.Sub m (tree.value_of v) h (value_of v k)
  assign_meant assign.Mul m v h k = updated src.Mul m (tree.value_of v) h (value_of v k)
  assign_meant assign.Div m v h k = updated src.Div m (tree.value_of v) h (value_of v k)
  assign_meant assign.Rem m v h k = updated src.Rem m (tree.value_of v) h (value_of v k)

  -- parts behind a root

  call_of_condition : (root : Meant) (c : Option ConditionCall) → MeantEarlier n root → MeantEarlier n (tree.call_of_condition root c)
  call_of_condition root None h = nothing
  call_of_condition root (Some c) h = record { expr = h.expr; standing = tt }

  object_member : (i : Option ℕ) (object : Expr) (name : List ℕ) → Earlier n object → MeantEarlier n (tree.object_member p i object name)
  object_member None object name h = nothing
  object_member (Some i) object name h = member i object name h

  place_member : (l : Option ℕ) (root : Meant) (name : List ℕ) → MeantEarlier n root → MeantEarlier n (tree.place_member p l root name)
  place_member None root name h = object_member (tree.class_or_event (class_made (making p root.ty.base)) (event_place p root.ty.base)) root.expr name h.expr
  place_member (Some l) root name h = nothing

  part_by : (x : Standing) (root : Meant) (name : List ℕ) → MeantEarlier n root → MeantEarlier n (tree.part_by p x root name)
  part_by tree.AsInput root name h = either (MeantEarlier n) (same_name name fail_name) _ _ (record { expr = tt; standing = tt }) nothing
  part_by (tree.AtVariable k) root name h = place_member root.ty.len root name h
  part_by (tree.AtField s i) root name h = place_member root.ty.len root name h
  part_by tree.AtPlace root name h = place_member root.ty.len root name h
  part_by tree.AsNumber root name h = place_member root.ty.len root name h
  part_by (tree.AsCondition k) root name h = call_of_condition root (tree.condition_call name) h
  part_by x root name h = nothing

  pub arg_meant : (x : Param) (m : Meant) → MeantEarlier n m → Earlier n (tree.arg_meant x m)
  arg_meant x m h = either (Earlier n) x.by_ref m.expr (tree.converted (shape_of x.base) (tree.value_of m)) h.expr (converted (shape_of x.base) (tree.value_of m) (value_of m h))

  pub args_by : (xs : List Param) (ms : List Meant) → AllMeant n ms → AllEarlier n (tree.args_by xs ms)
  args_by [] ms h = tt
  args_by (x ∷ xs) [] h = tt
  args_by (x ∷ xs) (m ∷ ms) h = (arg_meant x m h.0, args_by xs ms h.1)

  stored_by : (ms : List Meant) → AllMeant n ms → Earlier n (tree.stored_by ms)
  stored_by [] h = tt
  stored_by (m ∷ ms) h = value_of m h.0

  condition_called : (c : ConditionCall) (e : Expr) (args : List Meant) → Earlier n e → AllMeant n args → MeantEarlier n (tree.condition_called c e args)
  condition_called tree.Waits e args h k = record { expr = (tt, (h, stored_by args k)); standing = tt }
  condition_called tree.Signals e args h k = record { expr = (tt, h); standing = tt }
  condition_called tree.SignalsBlocking e args h k = record { expr = (tt, h); standing = tt }
  condition_called tree.AsksEmpty e args h k = record { expr = (tt, h); standing = tt }
  condition_called tree.AsksFront e args h k = record { expr = (tt, h); standing = tt }

  call_by : (x : Standing) (root : Meant) (args : List Meant) → MeantEarlier n root → AllMeant n args → MeantEarlier n (tree.call_by p x root args)
  call_by tree.AsFail root args h k = record { expr = tt; standing = tt }
  call_by (tree.AsRoutine r) root args h k = record { expr = (tt, args_by (tree.params_of p r) args k); standing = tt }
  call_by (tree.AsMember r) root args h k = record { expr = (tt, (h.expr, args_by (tree.params_of p r) args k)); standing = tt }
  call_by (tree.AsLiveMember r) root args h k = record { expr = (tt, (h.expr, args_by (tree.params_of p r) args k)); standing = tt }
  call_by (tree.AsMutexMember m r) root args h k = record { expr = (tt, (h.expr, args_by (tree.params_of p r) args k)); standing = tt }
  call_by (tree.AsCallOf c) root args h k = condition_called c root.expr args h.expr k
  call_by x root args h k = nothing

  place_or_number : (b : Bool) (place : Expr) (ty : Ty) → Earlier n place → MeantEarlier n (tree.place_or_number b place ty)
  place_or_number true place ty h = record { expr = h; standing = tt }
  place_or_number false place ty h = record { expr = h; standing = tt }

  element_in : (x : Standing) (l : ℕ) (m : Meant) (i : Expr) → MeantEarlier n m → Earlier n i → MeantEarlier n (tree.element_in p x l m i)
  element_in (tree.AsCondition c) l m i h k = record { expr = (tt, k); standing = tt }
  element_in x l m i h k = place_or_number (tree.has_number p (tree.one_of m.ty)) _ (tree.one_of m.ty) (h.expr, k)

  element_by : (l : Option ℕ) (m : Meant) (i : Expr) → MeantEarlier n m → Earlier n i → MeantEarlier n (tree.element_by p l m i)
  element_by None m i h k = nothing
  element_by (Some l) m i h k = element_in m.standing l m i h k

  stepped_by : (v : Option ℕ) (op : Operator) (s : Shape) (place : Expr) → Earlier n place → Earlier n (tree.stepped_by v op s place)
  stepped_by None op s place h = h
  stepped_by (Some v) op s place h = (tt, converted s (src.Operate op (src.Get v) (src.Literal (pos 1))) (tt, tt))

  step_meant : (op : StepOp) (m : Meant) → MeantEarlier n m → MeantEarlier n (tree.step_meant op m)
  step_meant step.Increment m h = record { expr = stepped_by (tree.variable_in m.standing) src.Add (shape_of m.ty.base) m.expr h.expr; standing = tt }
  step_meant step.Decrement m h = record { expr = stepped_by (tree.variable_in m.standing) src.Sub (shape_of m.ty.base) m.expr h.expr; standing = tt }

  module _ (env : Env) (class : Option ℕ) (routine : ℕ) (names : List LocalVariable) (own : (q : Pos) (name : List ℕ) → breaks_at (AtUse env q name) ≡ [] → tree.known_named names name ≡ None → MeantEarlier n (tree.own_meant p class name)) where
    abbrev pub c : Context
    c = record { program = p; class = class; routine = routine; names = names }

    name_meant : (q : Pos) (name : List ℕ) (k : Option LocalVariable) → tree.known_named names name ≡ k → breaks_at (AtUse env q name) ≡ [] → MeantEarlier n (tree.name_meant p class name k)
    name_meant q name None e u = own q name u e
    name_meant q name (Some k) e u = known (tree.has_number p k.ty) k

    root_by : (root : expr.Expr) (parts : expr.Parts) → (Unbroken (visits env root) → MeantEarlier n (tree.meant c root)) → Unbroken (if is_input root parts then [] else visits env root) → MeantEarlier n (tree.meant c root)
    root_by (expr.Cin q) parts ih u = record { expr = tt; standing = tt }
    root_by _ parts ih u = ih u

    mutual
      pub meant : (e : expr.Expr) → Unbroken (visits env e) → MeantEarlier n (tree.meant c e)
      meant (expr.Number q z) u = record { expr = tt; standing = tt }
      meant (expr.Character q z) u = record { expr = tt; standing = tt }
      meant (expr.Truth q b) u = record { expr = tt; standing = tt }
      meant (expr.Name q name) u = name_meant q name (tree.known_named names name) refl (one (AtUse env q name) u)
      meant (expr.Cin q) u = record { expr = tt; standing = tt }
      meant (expr.Postfix q root parts) u =
          parts_meant parts (root_entity env root parts) (tree.meant c root) (root_by root parts (meant root) (first (if is_input root parts then [] else visits env root) (parts_visits env parts (root_entity env root parts)) u)) (second (if is_input root parts then [] else visits env root) (parts_visits env parts (root_entity env root parts)) u)
      meant (expr.Unary q op operand) u = unary_meant op (tree.meant c operand) (meant operand (first (visits env operand) _ u))
      meant (expr.Chain q start rest) u = chain_meant rest (entity_of env start) (tree.meant c start) (meant start (first (visits env start) _ u)) (second (visits env start) _ u)
      meant (expr.Assign q sign op place value) u =
          assign_meant op (tree.meant c place) (tree.meant c value) (meant place (first (visits env place) _ u)) (meant value (first (visits env value) _ (second (visits env place) _ u)))

      part_meant : (part : expr.Part) (called : Bool) (o : Option Entity) (m : Meant) → MeantEarlier n m → Unbroken (part_visits env part called o) → MeantEarlier n (tree.part_meant c part m)
      part_meant (expr.Field sign name) called o m h u = part_by m.standing m name h
      part_meant (expr.Index sign index) called o m h u = element_by m.ty.len m (tree.value_of (tree.meant c index)) h (value_of (tree.meant c index) (meant index (first (visits env index) _ u)))
      part_meant (expr.Call sign args) called o m h u = call_by m.standing m (tree.args_meant c args) h (args_meant args (call_target o) 0 (first (args_visits env args (call_target o) 0) _ u))
      part_meant (expr.Step sign op) called o m h u = step_meant op m h

      args_meant : (es : expr.Exprs) (to : Target) (i : ℕ) → Unbroken (args_visits env es to i) → AllMeant n (tree.args_meant c es)
      args_meant expr.NoExprs to i u = tt
      args_meant (expr.MoreExprs e es) to i u =
          (meant e (first (visits env e) _ (first (arg_visits env e (expected env.program to i)) (args_visits env es to _) u)), args_meant es to _ (second (arg_visits env e (expected env.program to i)) (args_visits env es to _) u))

      parts_meant : (parts : expr.Parts) (o : Option Entity) (m : Meant) → MeantEarlier n m → Unbroken (parts_visits env parts o) → MeantEarlier n (tree.parts_meant c parts m)
      parts_meant expr.NoParts o m h u = h
      parts_meant (expr.MoreParts part rest) o m h u =
          parts_meant rest (part_entity env part (call_follows rest) o) (tree.part_meant c part m) (part_meant part (call_follows rest) o m h (first (part_visits env part (call_follows rest) o) _ u)) (second (part_visits env part (call_follows rest) o) _ u)

      link_meant : (link : expr.Link) (o : Option Entity) (m : Meant) → MeantEarlier n m → Unbroken (link_visits env link o) → MeantEarlier n (tree.link_meant c link m)
      link_meant (expr.Linked sign op right) o m h u = binary_meant op m (tree.meant c right) h (meant right (first (visits env right) _ u))

      chain_meant : (links : expr.Links) (o : Option Entity) (m : Meant) → MeantEarlier n m → Unbroken (chain_visits env links o) → MeantEarlier n (tree.chain_meant c links m)
      chain_meant expr.NoLinks o m h u = h
      chain_meant (expr.MoreLinks link rest) o m h u =
          chain_meant rest (link_entity env link o) (tree.link_meant c link m) (link_meant link o m h (first (link_visits env link o) _ u)) (second (link_visits env link o) _ u)
