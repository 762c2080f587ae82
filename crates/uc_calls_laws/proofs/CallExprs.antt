-- What expressions stand for calls no main, where no rule is broken.
use Rattle.std.proofs.Common.{◌≡◌, ℕ, Bool, true, false, List, [], ◌∷◌, Option, Some, None, refl, sym, ap, ◌∙◌}
use Rattle.std.specs.Prelude.{pos, ◌&&◌, if◌then◌else◌}
use Rattle.uc_tree.specs.declared.pos.Pos.{Pos}
use Rattle.uc_tree.specs.declared.kinds.Base.{Base}
use Rattle.uc_tree.specs.declared.kinds.Base.TheVariants as base
use Rattle.uc_tree.specs.declared.kinds.Kind.{Kind}
use Rattle.uc_tree.specs.declared.kinds.Ty.{Ty}
use Rattle.uc_tree.specs.declared.kinds.LocalVariable.{LocalVariable}
use Rattle.uc_tree.specs.declared.kinds.Param.{Param}
use Rattle.uc_tree.specs.declared.ops.UnaryOp.{UnaryOp}
use Rattle.uc_tree.specs.declared.ops.UnaryOp.TheVariants as unary
use Rattle.uc_tree.specs.declared.ops.BinaryOp.{BinaryOp}
use Rattle.uc_tree.specs.declared.ops.BinaryOp.TheVariants as binary
use Rattle.uc_tree.specs.declared.ops.AssignOp.{AssignOp}
use Rattle.uc_tree.specs.declared.ops.AssignOp.TheVariants as assign
use Rattle.uc_tree.specs.declared.ops.StepOp.{StepOp}
use Rattle.uc_tree.specs.declared.ops.StepOp.TheVariants as step
use Rattle.uc_tree.specs.Names.{same_name, fail_name}
use Rattle.uc_tree.specs.Constants.{constants_of, constant_named}
use Rattle.uc_tree.specs.Expressions as expr
use Rattle.uc_tree.specs.Programs as whole
use Rattle.uc_tree.specs.Programs.{Program}
use Rattle.uc_tree.specs.Cells.{leading_cells}
use Rattle.uc_tree.specs.Numbering.{is_event, main_name, member_number, routines_of}
use Rattle.uc_tree.specs.Objects.{is_coroutine, class_at, number_at, making, class_made, fields_of, shape_of, class_shape, member_from, event_place}
use Rattle.uc_tree.specs.Source as src
use Rattle.uc_tree.specs.Source.{Shape, Expr, Operator, Source}
use Rattle.uc_resolve.specs.Standings as tree
use Rattle.uc_resolve.specs.Standings.{Standing, Meant, Whose, Own, Of, NumberedField, ConditionCall, Context}
use Rattle.uc_resolve.specs.Resolve.{source_of}
use Rattle.uc_rules.specs.declared.rules.Entity.{Entity}
use Rattle.uc_rules.specs.declared.rules.Target.{Target}
use Rattle.uc_rules.specs.Scopes.{Env, named}
use Rattle.uc_rules.specs.Entities as rules
use Rattle.uc_rules.specs.Entities.{entity_of, part_entity, parts_entity, link_entity, chain_entity, is_input, call_follows, call_target, expected, meant_entity, count}
use Rattle.uc_rules.specs.Visits.{AtUse, AtMember, AtCall, visits, part_visits, parts_visits, link_visits, chain_visits, args_visits, arg_visits, root_entity}
use Rattle.uc_rules.specs.Breaks.{breaks_at}
use Rattle.uc_rules.specs.ProgramVisits.{program_visits}
use Rattle.uc_sound.specs.Unbroken.{Unbroken, Stands, IsKnown}
use Rattle.uc_sound.proofs.Ties.{some_same, none_some}
use Rattle.uc_sound.proofs.UnbrokenLemmas.{first, second, one, stands}
use Rattle.uc_sound.specs.SoundFormed.{IsFormed}
use Rattle.uc_depth_laws.specs.Entering.{IsMain}
use Rattle.uc_depth_laws.proofs.Kept.{either}
use Rattle.uc_calls_laws.specs.Calls.{IsNoMain, CallsExpr, CallsExprs}
use Rattle.uc_calls_laws.proofs.Mains.{member_named, routine_named}
use Rattle.uc_calls_laws.proofs.MainNames.{MainLike, AreLocals, used, member_like, called}

-- what stands for a routine does so by a name, which is that of a main if it is one
abbrev pub NamedBy : Program → List ℕ → Standing → Type 0
NamedBy p name (tree.AsRoutine r) = IsMain (source_of p) r → same_name name main_name ≡ true
NamedBy p name (tree.AsMember r) = IsMain (source_of p) r → same_name name main_name ≡ true
NamedBy p name (tree.AsLiveMember r) = IsMain (source_of p) r → same_name name main_name ≡ true
NamedBy p name (tree.AsMutexMember m r) = IsMain (source_of p) r → same_name name main_name ≡ true
NamedBy p name x = Unit {0}

-- where it is one, what stands for it under the rules is not called
abbrev pub Tied : Program → Option Entity → Standing → Type 0
Tied p o (tree.AsRoutine r) = IsMain (source_of p) r → MainLike p o
Tied p o (tree.AsMember r) = IsMain (source_of p) r → MainLike p o
Tied p o (tree.AsLiveMember r) = IsMain (source_of p) r → MainLike p o
Tied p o (tree.AsMutexMember m r) = IsMain (source_of p) r → MainLike p o
Tied p o x = Unit {0}

-- what is a value, or a place, is no routine
abbrev pub IsLoose : Standing → Type 0
IsLoose (tree.AsRoutine r) = ⊥
IsLoose (tree.AsMember r) = ⊥
IsLoose (tree.AsLiveMember r) = ⊥
IsLoose (tree.AsMutexMember m r) = ⊥
IsLoose x = Unit {0}

-- what an expression stands for: by a name, or as no routine
pub record MeantNamed (p : Program) (name : List ℕ) (m : Meant) : Type 0 where
  pub expr : CallsExpr (source_of p) m.expr
  pub standing : NamedBy p name m.standing

pub record MeantLoose (p : Program) (m : Meant) : Type 0 where
  pub expr : CallsExpr (source_of p) m.expr
  pub standing : IsLoose m.standing

abbrev pub AllMeant : Program → List Meant → Type 0
AllMeant p [] = Unit {0}
AllMeant p (m ∷ ms) = CallsExpr (source_of p) m.expr × AllMeant p ms

tied_by : (p : Program) (name : List ℕ) (o : Option Entity) (x : Standing) → NamedBy p name x → (same_name name main_name ≡ true → MainLike p o) → Tied p o x
tied_by p name o (tree.AsRoutine r) n f = λ h. f (n h)
tied_by p name o (tree.AsMember r) n f = λ h. f (n h)
tied_by p name o (tree.AsLiveMember r) n f = λ h. f (n h)
tied_by p name o (tree.AsMutexMember m r) n f = λ h. f (n h)
tied_by p name o x n f = tt

loose_tied : (p : Program) (o : Option Entity) (x : Standing) → IsLoose x → Tied p o x
loose_tied p o (tree.AsRoutine r) l = absurd l
loose_tied p o (tree.AsMember r) l = absurd l
loose_tied p o (tree.AsLiveMember r) l = absurd l
loose_tied p o (tree.AsMutexMember m r) l = absurd l
loose_tied p o x l = tt

loose_named : (p : Program) (name : List ℕ) (x : Standing) → IsLoose x → NamedBy p name x
loose_named p name (tree.AsRoutine r) l = absurd l
loose_named p name (tree.AsMember r) l = absurd l
loose_named p name (tree.AsLiveMember r) l = absurd l
loose_named p name (tree.AsMutexMember m r) l = absurd l
loose_named p name x l = tt

module _ (p : Program) where
  abbrev source : Source
  source = source_of p

  -- values

  pub converted : (s : Shape) (e : Expr) → CallsExpr source e → CallsExpr source (tree.converted s e)
  converted src.Character e h = h
  converted src.Truth e h = h
  converted s e h = h

  value_by : (x : Standing) (e : Expr) → CallsExpr source e → CallsExpr source (tree.value_by x e)
  value_by (tree.AtVariable k) e h = tt
  value_by (tree.AtField s i) e h = (tt, tt)
  value_by x e h = h

  pub value_of : (m : Meant) → CallsExpr source m.expr → CallsExpr source (tree.value_of m)
  value_of m h = value_by m.standing m.expr h

  named_of : (name : List ℕ) (m : Meant) → MeantLoose p m → MeantNamed p name m
  named_of name m h = record { expr = h.expr; standing = loose_named p name m.standing h.standing }

  -- names

  nothing : MeantLoose p tree.no_meaning
  nothing = record { expr = tt; standing = tt }

  known : (b : Bool) (k : LocalVariable) → MeantLoose p (tree.known_by b k)
  known true k = record { expr = tt; standing = tt }
  known false k = either (MeantLoose p) k.ty.by_ref _ _ (record { expr = tt; standing = tt }) (record { expr = tt; standing = tt })

  field_place : (s : Shape) (i : ℕ) (w : Whose) → CallsExpr source (tree.object_of_whose w) → CallsExpr source (tree.field_place s i w)
  field_place s i Own h = (tt, tt)
  field_place s i (Of object) h = (tt, h)

  field_held : (s : Shape) (i : ℕ) (w : Whose) → CallsExpr source (tree.object_of_whose w) → CallsExpr source (tree.field_held s i w)
  field_held s i Own h = (tt, tt)
  field_held s i (Of object) h = (tt, h)

  field_standing : (s : Shape) (i : ℕ) (w : Whose) → IsLoose (tree.field_standing s i w)
  field_standing s i Own = tt
  field_standing s i (Of object) = tt

  field_by_ref : (b : Bool) (s : Shape) (i : ℕ) (w : Whose) (ty : Ty) → CallsExpr source (tree.object_of_whose w) → MeantLoose p (tree.field_by_ref b s i w ty)
  field_by_ref false s i w ty h = record { expr = field_place s i w h; standing = field_standing s i w }
  field_by_ref true s i w ty h = record { expr = field_held s i w h; standing = tt }

  field_by : (a b : Bool) (s : Shape) (i : ℕ) (w : Whose) (ty : Ty) → CallsExpr source (tree.object_of_whose w) → MeantLoose p (tree.field_by a b s i w ty)
  field_by true b s i w ty h = record { expr = field_held s i w h; standing = tt }
  field_by false b s i w ty h = field_by_ref b s i w ty h

  field_at : (c : whole.Class) (i : ℕ) (w : Whose) (f : NumberedField) (b : Base) → CallsExpr source (tree.object_of_whose w) → MeantLoose p (tree.field_or_condition p c i w f b)
  field_at c i w f base.Condition h = record { expr = tt; standing = tt }
  field_at c i w f b h = field_by (tree.has_number p (tree.field_type p c f.field)) f.field.declarator.by_ref (class_shape p i) f.number w (tree.field_type p c f.field) h

  -- operators

  combined : (op : Operator) (l r : Meant) (ty : Ty) → CallsExpr source l.expr → CallsExpr source r.expr → MeantLoose p (tree.combined op l r ty)
  combined op l r ty h k = record { expr = (value_of l h, value_of r k); standing = tt }

  pub binary_meant : (op : BinaryOp) (l r : Meant) → CallsExpr source l.expr → CallsExpr source r.expr → MeantLoose p (tree.binary_meant op l r)
  binary_meant binary.Or l r h k = record { expr = (value_of l h, value_of r k); standing = tt }
  binary_meant binary.And l r h k = record { expr = (value_of l h, value_of r k); standing = tt }
  binary_meant binary.Equal l r h k = combined src.Equal l r tree.bool_type h k
  binary_meant binary.NotEqual l r h k = combined src.NotEqual l r tree.bool_type h k
  binary_meant binary.Less l r h k = combined src.Less l r tree.bool_type h k
  binary_meant binary.LessEqual l r h k = combined src.LessEqual l r tree.bool_type h k
  binary_meant binary.Greater l r h k = combined src.Greater l r tree.bool_type h k
  binary_meant binary.GreaterEqual l r h k = combined src.GreaterEqual l r tree.bool_type h k
  binary_meant binary.Add l r h k = combined src.Add l r tree.int_type h k
  binary_meant binary.Sub l r h k = combined src.Sub l r tree.int_type h k
  binary_meant binary.Mul l r h k = combined src.Mul l r tree.int_type h k
  binary_meant binary.Div l r h k = combined src.Div l r tree.int_type h k
  binary_meant binary.Rem l r h k = combined src.Rem l r tree.int_type h k

  written_by : (v : Option ℕ) (place e : Expr) → CallsExpr source place → CallsExpr source e → CallsExpr source (tree.written_by v place e)
  written_by None place e h k = (h, k)
  written_by (Some v) place e h k = k

  updated_by : (v : Option ℕ) (op : Operator) (s : Shape) (place e : Expr) → CallsExpr source place → CallsExpr source e → CallsExpr source (tree.updated_by v op s place e)
  updated_by None op s place e h k = (h, k)
  updated_by (Some v) op s place e h k = converted s (src.Operate op (src.Get v) e) (tt, k)

  updated : (op : Operator) (m : Meant) (e : Expr) → CallsExpr source m.expr → CallsExpr source e → MeantLoose p (tree.updated op m e)
  updated op m e h k = record { expr = updated_by (tree.variable_in m.standing) op (shape_of m.ty.base) m.expr e h k; standing = tt }

  pub unary_meant : (op : UnaryOp) (m : Meant) → CallsExpr source m.expr → MeantLoose p (tree.unary_meant op m)
  unary_meant unary.Minus m h = record { expr = value_of m h; standing = tt }
  unary_meant unary.Plus m h = record { expr = value_of m h; standing = tt }
  unary_meant unary.Not m h = record { expr = value_of m h; standing = tt }
  unary_meant unary.Increment m h = updated src.Add m (src.Literal (pos 1)) h tt
  unary_meant unary.Decrement m h = updated src.Sub m (src.Literal (pos 1)) h tt

  pub assign_meant : (op : AssignOp) (m v : Meant) → CallsExpr source m.expr → CallsExpr source v.expr → MeantLoose p (tree.assign_meant op m v)
  assign_meant assign.Set m v h k = record { expr = written_by (tree.variable_in m.standing) m.expr (tree.converted (shape_of m.ty.base) (tree.value_of v)) h (converted (shape_of m.ty.base) (tree.value_of v) (value_of v k)); standing = tt }
  assign_meant assign.Add m v h k = updated src.Add m (tree.value_of v) h (value_of v k)
  assign_meant assign.Sub m v h k = updated src.Sub m (tree.value_of v) h (value_of v k)
  assign_meant assign.Mul m v h k = updated src.Mul m (tree.value_of v) h (value_of v k)
  assign_meant assign.Div m v h k = updated src.Div m (tree.value_of v) h (value_of v k)
  assign_meant assign.Rem m v h k = updated src.Rem m (tree.value_of v) h (value_of v k)

  -- parts behind a root

  call_of_condition : (root : Meant) (c : Option ConditionCall) → CallsExpr source root.expr → MeantLoose p (tree.call_of_condition root c)
  call_of_condition root None h = nothing
  call_of_condition root (Some c) h = record { expr = h; standing = tt }

  pub arg_meant : (x : Param) (m : Meant) → CallsExpr source m.expr → CallsExpr source (tree.arg_meant x m)
  arg_meant x m h = either (CallsExpr source) x.by_ref m.expr (tree.converted (shape_of x.base) (tree.value_of m)) h (converted (shape_of x.base) (tree.value_of m) (value_of m h))

  pub args_by : (xs : List Param) (ms : List Meant) → AllMeant p ms → CallsExprs source (tree.args_by xs ms)
  args_by [] ms h = tt
  args_by (x ∷ xs) [] h = tt
  args_by (x ∷ xs) (m ∷ ms) h = (arg_meant x m h.0, args_by xs ms h.1)

  stored_by : (ms : List Meant) → AllMeant p ms → CallsExpr source (tree.stored_by ms)
  stored_by [] h = tt
  stored_by (m ∷ ms) h = value_of m h.0

  condition_called : (c : ConditionCall) (e : Expr) (args : List Meant) → CallsExpr source e → AllMeant p args → MeantLoose p (tree.condition_called c e args)
  condition_called tree.Waits e args h k = record { expr = (tt, (h, stored_by args k)); standing = tt }
  condition_called tree.Signals e args h k = record { expr = (tt, h); standing = tt }
  condition_called tree.SignalsBlocking e args h k = record { expr = (tt, h); standing = tt }
  condition_called tree.AsksEmpty e args h k = record { expr = (tt, h); standing = tt }
  condition_called tree.AsksFront e args h k = record { expr = (tt, h); standing = tt }

  -- what is called is no main
  abbrev pub IsFree : Standing → Type 0
  IsFree (tree.AsRoutine r) = IsNoMain source r
  IsFree (tree.AsMember r) = IsNoMain source r
  IsFree (tree.AsLiveMember r) = IsNoMain source r
  IsFree (tree.AsMutexMember m r) = IsNoMain source r
  IsFree x = Unit {0}

  pub call_by : (x : Standing) (root : Meant) (args : List Meant) → IsFree x → CallsExpr source root.expr → AllMeant p args → MeantLoose p (tree.call_by p x root args)
  call_by tree.AsFail root args f h k = record { expr = tt; standing = tt }
  call_by (tree.AsRoutine r) root args f h k = record { expr = (f, args_by (tree.params_of p r) args k); standing = tt }
  call_by (tree.AsMember r) root args f h k = record { expr = (f, (h, args_by (tree.params_of p r) args k)); standing = tt }
  call_by (tree.AsLiveMember r) root args f h k = record { expr = (f, (h, args_by (tree.params_of p r) args k)); standing = tt }
  call_by (tree.AsMutexMember m r) root args f h k = record { expr = (f, (h, args_by (tree.params_of p r) args k)); standing = tt }
  call_by (tree.AsCallOf c) root args f h k = condition_called c root.expr args h k
  call_by x root args f h k = nothing

  place_or_number : (b : Bool) (place : Expr) (ty : Ty) → CallsExpr source place → MeantLoose p (tree.place_or_number b place ty)
  place_or_number true place ty h = record { expr = h; standing = tt }
  place_or_number false place ty h = record { expr = h; standing = tt }

  element_in : (x : Standing) (l : ℕ) (m : Meant) (i : Expr) → CallsExpr source m.expr → CallsExpr source i → MeantLoose p (tree.element_in p x l m i)
  element_in (tree.AsCondition c) l m i h k = record { expr = (tt, k); standing = tt }
  element_in x l m i h k = place_or_number (tree.has_number p (tree.one_of m.ty)) _ (tree.one_of m.ty) (h, k)

  pub element_by : (l : Option ℕ) (m : Meant) (i : Expr) → CallsExpr source m.expr → CallsExpr source i → MeantLoose p (tree.element_by p l m i)
  element_by None m i h k = nothing
  element_by (Some l) m i h k = element_in m.standing l m i h k

  stepped_by : (v : Option ℕ) (op : Operator) (s : Shape) (place : Expr) → CallsExpr source place → CallsExpr source (tree.stepped_by v op s place)
  stepped_by None op s place h = h
  stepped_by (Some v) op s place h = (tt, converted s (src.Operate op (src.Get v) (src.Literal (pos 1))) (tt, tt))

  pub step_meant : (op : StepOp) (m : Meant) → CallsExpr source m.expr → MeantLoose p (tree.step_meant op m)
  step_meant step.Increment m h = record { expr = stepped_by (tree.variable_in m.standing) src.Add (shape_of m.ty.base) m.expr h; standing = tt }
  step_meant step.Decrement m h = record { expr = stepped_by (tree.variable_in m.standing) src.Sub (shape_of m.ty.base) m.expr h; standing = tt }

  module _ (formed : IsFormed p) (ok : Unbroken (program_visits p)) where
    -- names of routines and members

    routine_by : (name : List ℕ) (r : Option ℕ) → tree.routine_from (routines_of p) 0 name ≡ r → MeantNamed p name (tree.routine_meant_by p r)
    routine_by name None e = named_of name tree.no_meaning nothing
    routine_by name (Some r) e = record { expr = tt; standing = λ h. routine_named p formed ok name r e h }

    constant_by : (name : List ℕ) (c : Option whole.Constant) → MeantNamed p name (tree.constant_meant_by p name c)
    constant_by name None = routine_by name (tree.routine_from (routines_of p) 0 name) refl
    constant_by name (Some c) = record { expr = tt; standing = tt }

    item : (name : List ℕ) → MeantNamed p name (tree.item_meant p name)
    item name = constant_by name (constant_named (constants_of p.items) name)

    method_standing : (name : List ℕ) (k : Kind) (w : Whose) (m : Option ℕ) (r : ℕ) → (IsMain source r → same_name name main_name ≡ true) → NamedBy p name (tree.method_standing k w m r)
    method_standing name k w (Some m) r h = h
    method_standing name k w None r h = either (NamedBy p name) (is_coroutine k && tree.is_path w) (tree.AsLiveMember r) (tree.AsMember r) h h

    method_by : (i : ℕ) (c : whole.Class) (w : Whose) (name : List ℕ) (r : Option ℕ) → member_from (routines_of p) 0 (number_at p i) name ≡ r → CallsExpr source (tree.object_of_whose w) → MeantNamed p name (tree.method_by p c w name r)
    method_by i c w name None e h = named_of name tree.no_meaning nothing
    method_by i c w name (Some r) e h = record { expr = h; standing = method_standing name c.kind w (member_number c name) r (λ g. member_named p formed ok (number_at p i) name r e g) }

    member_by : (c : whole.Class) (i : ℕ) (w : Whose) (name : List ℕ) (f : Option NumberedField) → CallsExpr source (tree.object_of_whose w) → MeantNamed p name (tree.member_by p c i w name f)
    member_by c i w name None h = either (MeantNamed p name) (is_event c.kind) tree.no_meaning _ (named_of name tree.no_meaning nothing) (method_by i c w name (member_from (routines_of p) 0 (number_at p i) name) refl h)
    member_by c i w name (Some f) h = named_of name _ (field_at c i w f f.field.base h)

    member_in : (i : ℕ) (w : Whose) (name : List ℕ) (c : Option whole.Class) → CallsExpr source (tree.object_of_whose w) → MeantNamed p name (tree.member_in p i w name c)
    member_in i w name None h = named_of name tree.no_meaning nothing
    member_in i w name (Some c) h = member_by c i w name (tree.field_named (leading_cells c.kind) (fields_of c.members) name) h

    member : (i : ℕ) (w : Whose) (name : List ℕ) → CallsExpr source (tree.object_of_whose w) → MeantNamed p name (tree.member_meant p i w name)
    member i w name h = member_in i w name (class_at p i) h

    meant_or : (name : List ℕ) (x : Standing) (m other : Meant) → MeantNamed p name m → MeantNamed p name other → MeantNamed p name (tree.meant_or x m other)
    meant_or name tree.AsNothing m other h k = k
    meant_or name x m other h k = h

    own_meant : (class : Option ℕ) (name : List ℕ) → MeantNamed p name (tree.own_meant p class name)
    own_meant None name = item name
    own_meant (Some i) name = meant_or name (tree.member_meant p i Own name).standing (tree.member_meant p i Own name) (tree.item_meant p name) (member i Own name (tt, tt)) (item name)

    pub name_meant : (class : Option ℕ) (name : List ℕ) (k : Option LocalVariable) → MeantNamed p name (tree.name_meant p class name k)
    name_meant class name None = own_meant class name
    name_meant class name (Some k) = named_of name _ (known (tree.has_number p k.ty) k)

    -- a member behind a `.`

    object_member : (i : Option ℕ) (object : Expr) (name : List ℕ) → CallsExpr source object → MeantNamed p name (tree.object_member p i object name)
    object_member None object name h = named_of name tree.no_meaning nothing
    object_member (Some i) object name h = member i (Of object) name h

    place_member : (l : Option ℕ) (root : Meant) (name : List ℕ) → CallsExpr source root.expr → MeantNamed p name (tree.place_member p l root name)
    place_member None root name h = object_member (tree.class_or_event (class_made (making p root.ty.base)) (event_place p root.ty.base)) root.expr name h
    place_member (Some l) root name h = named_of name tree.no_meaning nothing

    pub part_by : (x : Standing) (root : Meant) (name : List ℕ) → CallsExpr source root.expr → MeantNamed p name (tree.part_by p x root name)
    part_by tree.AsInput root name h = either (MeantNamed p name) (same_name name fail_name) _ _ (record { expr = tt; standing = tt }) (named_of name tree.no_meaning nothing)
    part_by (tree.AtVariable k) root name h = place_member root.ty.len root name h
    part_by (tree.AtField s i) root name h = place_member root.ty.len root name h
    part_by tree.AtPlace root name h = place_member root.ty.len root name h
    part_by tree.AsNumber root name h = place_member root.ty.len root name h
    part_by (tree.AsCondition k) root name h = named_of name _ (call_of_condition root (tree.condition_call name) h)
    part_by x root name h = named_of name tree.no_meaning nothing

-- in an environment in which what is declared has a known base

module _ (env : Env) (formed : IsFormed env.program) (ok : Unbroken (program_visits env.program)) (stood : IsKnown env) (locals : AreLocals env.names) (class : Option ℕ) (routine : ℕ) (names : List LocalVariable) where
  abbrev c : Context
  c = record { program = env.program; class = class; routine = routine; names = names }

  -- what an expression stands for, in the tree and under the rules
  pub record MeantTied (o : Option Entity) (m : Meant) : Type 0 where
    pub expr : CallsExpr (source_of env.program) m.expr
    pub tied : Tied env.program o m.standing

  loose : (o : Option Entity) (m : Meant) → MeantLoose env.program m → MeantTied o m
  loose o m h = record { expr = h.expr; tied = loose_tied env.program o m.standing h.standing }

  -- from what is nothing there comes nothing
  none_part : (part : expr.Part) (flag : Bool) → part_entity env part flag None ≡ None
  none_part (expr.Field sign name) flag = refl
  none_part (expr.Index sign index) flag = refl
  none_part (expr.Call sign args) flag = refl
  none_part (expr.Step sign op) flag = refl

  none_parts : (parts : expr.Parts) → parts_entity env parts None ≡ None
  none_parts expr.NoParts = refl
  none_parts (expr.MoreParts part rest) = ap (parts_entity env rest) (none_part part (call_follows rest)) ∙ none_parts rest

  -- what is called where no rule is broken is no main
  no_main : (sign : Pos) (n r : ℕ) (w : Entity) → breaks_at (AtCall env sign n (Some w)) ≡ [] → (IsMain (source_of env.program) r → MainLike env.program (Some w)) → IsNoMain (source_of env.program) r
  no_main sign n r w u t h =
      let k = t h in
      called env sign n w u (λ z. ap (rules.may_call env.program z) (some_same k.stands) ∙ k.not_called z)

  free : (sign : Pos) (n : ℕ) (w : Entity) → breaks_at (AtCall env sign n (Some w)) ≡ [] → (x : Standing) → Tied env.program (Some w) x → IsFree env.program x
  free sign n w u (tree.AsRoutine r) t = no_main sign n r w u t
  free sign n w u (tree.AsMember r) t = no_main sign n r w u t
  free sign n w u (tree.AsLiveMember r) t = no_main sign n r w u t
  free sign n w u (tree.AsMutexMember m r) t = no_main sign n r w u t
  free sign n w u x t = tt

  root_by : (root : expr.Expr) (parts : expr.Parts) → (Unbroken (visits env root) → MeantTied (entity_of env root) (tree.meant c root)) → Unbroken (if is_input root parts then [] else visits env root) → MeantTied (root_entity env root parts) (tree.meant c root)
  root_by (expr.Cin q) parts ih u = record { expr = tt; tied = tt }
  root_by _ parts ih u = ih u

  mutual
    pub meant : (e : expr.Expr) → Unbroken (visits env e) → MeantTied (entity_of env e) (tree.meant c e)
    meant (expr.Number q z) u = record { expr = tt; tied = tt }
    meant (expr.Character q z) u = record { expr = tt; tied = tt }
    meant (expr.Truth q b) u = record { expr = tt; tied = tt }
    meant (expr.Name q name) u =
        let n = name_meant env.program formed ok class name (tree.known_named names name) in
        record { expr = n.expr; tied = tied_by env.program name (meant_entity (named env name)) _ n.standing (λ e. used env stood locals q name (one (AtUse env q name) u) e) }
    meant (expr.Cin q) u = record { expr = tt; tied = tt }
    meant (expr.Postfix q root parts) u =
        parts_meant parts (root_entity env root parts) (tree.meant c root) (stands env stood (expr.Postfix q root parts) u) (root_by root parts (meant root) (first (if is_input root parts then [] else visits env root) (parts_visits env parts (root_entity env root parts)) u)) (second (if is_input root parts then [] else visits env root) (parts_visits env parts (root_entity env root parts)) u)
    meant (expr.Unary q op operand) u = loose _ _ (unary_meant env.program op (tree.meant c operand) (meant operand (first (visits env operand) _ u)).expr)
    meant (expr.Chain q start rest) u = chain_meant rest (entity_of env start) (tree.meant c start) (meant start (first (visits env start) _ u)) (second (visits env start) _ u)
    meant (expr.Assign q sign op place value) u =
        loose _ _ (assign_meant env.program op (tree.meant c place) (tree.meant c value) (meant place (first (visits env place) _ u)).expr (meant value (first (visits env value) _ (second (visits env place) _ u))).expr)

    part_meant : (part : expr.Part) (flag : Bool) (w : Entity) (m : Meant) → MeantTied (Some w) m → Unbroken (part_visits env part flag (Some w)) → MeantTied (part_entity env part flag (Some w)) (tree.part_meant c part m)
    part_meant (expr.Field sign name) flag w m h u =
        let n = part_by env.program formed ok m.standing m name h.expr in
        record { expr = n.expr; tied = tied_by env.program name _ _ n.standing (λ e. member_like env stood locals sign flag name w (one (AtMember env sign flag name (Some w)) u) e) }
    part_meant (expr.Index sign index) flag w m h u =
        loose _ _ (element_by env.program m.ty.len m (tree.value_of (tree.meant c index)) h.expr (value_of env.program (tree.meant c index) (meant index (first (visits env index) _ u)).expr))
    part_meant (expr.Call sign args) flag w m h u =
        loose _ _ (call_by env.program m.standing m (tree.args_meant c args) (free sign (count args) w (one (AtCall env sign (count args) (Some w)) (second (args_visits env args (call_target (Some w)) 0) _ u)) m.standing h.tied) h.expr (args_meant args (call_target (Some w)) 0 (first (args_visits env args (call_target (Some w)) 0) _ u)))
    part_meant (expr.Step sign op) flag w m h u = loose _ _ (step_meant env.program op m h.expr)

    pub args_meant : (es : expr.Exprs) (to : Target) (i : ℕ) → Unbroken (args_visits env es to i) → AllMeant env.program (tree.args_meant c es)
    args_meant expr.NoExprs to i u = tt
    args_meant (expr.MoreExprs e es) to i u =
        ((meant e (first (visits env e) _ (first (arg_visits env e (expected env.program to i)) (args_visits env es to _) u))).expr, args_meant es to _ (second (arg_visits env e (expected env.program to i)) (args_visits env es to _) u))

    parts_meant : (parts : expr.Parts) (o : Option Entity) (m : Meant) → Stands (parts_entity env parts o) → MeantTied o m → Unbroken (parts_visits env parts o) → MeantTied (parts_entity env parts o) (tree.parts_meant c parts m)
    parts_meant expr.NoParts o m s h u = h
    parts_meant (expr.MoreParts part rest) None m s h u =
        let e : parts_entity env rest (part_entity env part (call_follows rest) None) ≡ None = ap (parts_entity env rest) (none_part part (call_follows rest)) ∙ none_parts rest in
        none_some (sym e ∙ s.1)
    parts_meant (expr.MoreParts part rest) (Some w) m s h u =
        parts_meant rest (part_entity env part (call_follows rest) (Some w)) (tree.part_meant c part m) s (part_meant part (call_follows rest) w m h (first (part_visits env part (call_follows rest) (Some w)) _ u)) (second (part_visits env part (call_follows rest) (Some w)) _ u)

    link_meant : (link : expr.Link) (o : Option Entity) (m : Meant) → CallsExpr (source_of env.program) m.expr → Unbroken (link_visits env link o) → MeantTied (link_entity env link o) (tree.link_meant c link m)
    link_meant (expr.Linked sign op right) o m h u = loose _ _ (binary_meant env.program op m (tree.meant c right) h (meant right (first (visits env right) _ u)).expr)

    chain_meant : (links : expr.Links) (o : Option Entity) (m : Meant) → MeantTied o m → Unbroken (chain_visits env links o) → MeantTied (chain_entity env links o) (tree.chain_meant c links m)
    chain_meant expr.NoLinks o m h u = h
    chain_meant (expr.MoreLinks link rest) o m h u =
        chain_meant rest (link_entity env link o) (tree.link_meant c link m) (link_meant link o m h.expr (first (link_visits env link o) _ u)) (second (link_visits env link o) _ u)

  pub value : (e : expr.Expr) → Unbroken (visits env e) → CallsExpr (source_of env.program) (tree.value_in_scope c e)
  value e u = value_of env.program (tree.meant c e) (meant e u).expr
