-- What stands for something under the rules is resolved to what is in order.
use Rattle.std.proofs.Common.{◌≡◌, ℕ, suc, ◌+◌, pos, inl, inr, List, [], ◌∷◌, length, Option, Some, None, Bool, true, false, refl, sym, ap, ◌∙◌, subst, arith, map}
use Rattle.std.specs.Prelude.{if◌then◌else◌, ◌&&◌, nat_eq, slice_get, option_and_then, not, ◌||◌, is_some}
use Rattle.std.proofs.lemmas.Bool.{eqb-true}
use Rattle.uc_tree.specs.declared.kinds.Base.{Base}
use Rattle.uc_tree.specs.declared.kinds.Base.TheVariants as base
use Rattle.uc_tree.specs.declared.kinds.Kind.{Kind}
use Rattle.uc_tree.specs.declared.kinds.Kind.TheVariants as kind
use Rattle.uc_tree.specs.declared.kinds.Param.{Param}
use Rattle.uc_tree.specs.declared.kinds.LocalVariable.{LocalVariable}
use Rattle.uc_tree.specs.declared.ops.UnaryOp.{UnaryOp}
use Rattle.uc_tree.specs.declared.ops.UnaryOp.TheVariants as unary
use Rattle.uc_tree.specs.declared.ops.BinaryOp.{BinaryOp}
use Rattle.uc_tree.specs.declared.ops.BinaryOp.TheVariants as binary
use Rattle.uc_tree.specs.declared.ops.AssignOp.{AssignOp}
use Rattle.uc_tree.specs.declared.ops.AssignOp.TheVariants as assign
use Rattle.uc_tree.specs.declared.ops.StepOp.{StepOp}
use Rattle.uc_tree.specs.declared.ops.StepOp.TheVariants as step
use Rattle.uc_tree.specs.Names.{same_name, fail_name}
use Rattle.uc_tree.specs.Numbering.{is_mutex, is_event}
use Rattle.uc_tree.specs.declared.rows.FieldClass.{FieldClass}
use Rattle.uc_tree.specs.Cells.{classes_of, object_of_kind, object_named}
use Rattle.uc_tree.specs.Programs.{Program, Class}
use Rattle.uc_tree.specs.Programs as whole
use Rattle.uc_tree.specs.Expressions as expr
use Rattle.uc_tree.specs.Source.{Shape, Character, Truth, Operator, Add, Sub, Mul, Div, Rem, Expr, Literal, Operate, Get, Element}
use Rattle.uc_tree.specs.Objects.{shape_of, making, making_by, is_numbered as is_made_numbered, class_made, event_place, event_from, base_shape}
use Rattle.uc_resolve.specs.Standings as tree
use Rattle.uc_resolve.specs.Standings.{Standing, AtVariable, AtField, AtPlace, AsNumber, AsInput, AsFail, AsCondition, known_meant, known_named, name_meant, field_meant, meant, params_of, converted, arg_meant, args_by, args_meant}
use Rattle.uc_rules.specs.declared.rules.Sort.{Sort}
use Rattle.uc_rules.specs.declared.rules.Sort.TheVariants as sort
use Rattle.uc_rules.specs.declared.rules.Entity.{Entity}
use Rattle.uc_rules.specs.declared.rules.Operation.{Operation}
use Rattle.uc_rules.specs.declared.rules.Operation.TheVariants.{Wait, Signal, SignalBlock, Front, Empty}
use Rattle.uc_rules.specs.declared.rules.Entity.TheVariants as entity
use Rattle.uc_rules.specs.declared.rules.Expected.TheVariants as expected_of
use Rattle.uc_rules.specs.declared.rules.NameMeaning.{NameMeaning}
use Rattle.uc_rules.specs.declared.rules.LocalName.{LocalName}
use Rattle.uc_rules.specs.declared.rules.Target.{Target}
use Rattle.uc_rules.specs.declared.rules.Target.TheVariants as target
use Rattle.uc_rules.specs.Sorts.{is_scalar_sort, is_condition, class_sort, sort_of, same_sort}
use Rattle.uc_rules.specs.Names.{routine_sig, method_sig, params_in, outer_named}
use Rattle.uc_rules.specs.Scopes as scopes
use Rattle.uc_rules.specs.Scopes.{Env, named, local_named}
use Rattle.uc_rules.specs.Entities as rules
use Rattle.uc_rules.specs.Entities.{meant_entity, of_field, entity_of, are_sound, given, is_main_sig, is_scalar, both_scalars, unary_entity, binary_gives, of_both, of_scalar, of_place, of_index, of_assign, expected, param_expected, fits, has_fitting, count, chain_entity, link_entity, parts_entity, part_entity, front_name, empty_name}
use Rattle.uc_tree.specs.declared.pos.Pos.{Pos}
use Rattle.uc_rules.specs.declared.rule.Rule.TheVariants.{S1, S7, S10, S18, O2, O3, O4}
use Rattle.uc_rules.specs.Asked.{unless}
use Rattle.uc_rules.specs.ExpressionBreaks.{is_member, is_no_main, may_name}
use Rattle.uc_rules.specs.OwnerBreaks.{is_mutex_field_of, names_condition, may_name_condition, may_be_called}
use Rattle.uc_rules.specs.Visits.{AtUse, AtMember, AtCall, visits, part_visits, parts_visits, link_visits, chain_visits, arg_visits, args_visits, root_entity}
use Rattle.uc_rules.specs.Breaks.{breaks_at}
use Rattle.uc_sound.specs.Unbroken.{Unbroken}
use Rattle.uc_sound.proofs.UnbrokenLemmas.{none_right, first, second, one, holds}
use Rattle.uc_typing.specs.Typing.{Num, Cell, Obj, Row, Name, Inward, Apart, Enters, Makes, Helps, Main, Sig, Table, object_ty, IsPlaced, IsKept, IsInside, IsOpen, MayCall, InMutex, Yields, GiveAll}
use Rattle.uc_sound.specs.Agreement.{is_numbered, found_ty, place_by, place_ty, sort_ty, param_ty, IsLike, AreLike, IsAtPlace, IsAsCondition, IsAsValue, StandsBy, RowPlaced, row_ty, call_of, context, ValuedBy, IsCalled, IsMethod, IsReached, IsMember, Agrees, AgreesIf, Alike, Tied, LawAgrees}

-- options and tests

pub some_same : {A : Type 0} {x y : A} → Some x ≡ Some y → x ≡ y
some_same e = cc

pub none_some : {A B : Type 0} {x : A} → None ≡ Some x → B
none_some e = absurd (cc)

not_true : (b : Bool) → not b ≡ true → b ≡ false
not_true true h = sym h
not_true false h = refl

pub false_true : {B : Type 0} → false ≡ true → B
false_true e = absurd (cc)

both_left : (a b : Bool) → (a && b) ≡ true → a ≡ true
both_left true b h = refl
both_left false b h = h

both_right : (a b : Bool) → (a && b) ≡ true → b ≡ true
both_right true b h = h
both_right false b h = false_true h

if_some : {A : Type 0} (b : Bool) (x : Option A) (y : A) → (if b then x else None) ≡ Some y → (b ≡ true) × (x ≡ Some y)
if_some true x y h = (refl, h)
if_some false x y h = none_some h

place_same : (s r : Sort) → same_sort s r ≡ true → found_ty s ≡ found_ty r
place_same sort.Void sort.Void h = refl
place_same sort.Int sort.Int h = refl
place_same sort.Char sort.Char h = refl
place_same sort.Bool sort.Bool h = refl
place_same sort.Condition sort.Condition h = refl
place_same sort.Cluster sort.Cluster h = refl
place_same sort.Processor sort.Processor h = refl
place_same (sort.Object c k) (sort.Object d l) h = ap Obj (eqb-true c d h)
place_same _ _ h = false_true h

pub scalar_cell : (s : Sort) → is_scalar_sort s ≡ true → found_ty s ≡ Cell Num
scalar_cell sort.Void h = false_true h
scalar_cell sort.Int h = refl
scalar_cell sort.Char h = refl
scalar_cell sort.Bool h = refl
scalar_cell sort.Condition h = false_true h
scalar_cell sort.Cluster h = false_true h
scalar_cell sort.Processor h = false_true h
scalar_cell (sort.Object c k) h = false_true h

pub scalar_unnumbered : (s : Sort) → is_scalar_sort s ≡ true → is_numbered s ≡ false
scalar_unnumbered sort.Void h = refl
scalar_unnumbered sort.Int h = refl
scalar_unnumbered sort.Char h = refl
scalar_unnumbered sort.Bool h = refl
scalar_unnumbered sort.Condition h = refl
scalar_unnumbered sort.Cluster h = false_true h
scalar_unnumbered sort.Processor h = false_true h
scalar_unnumbered (sort.Object c k) h = false_true h

-- what a base names, for the rules and for what is resolved

kind_numbered : (i : ℕ) (k : Kind) (name : List ℕ) → is_made_numbered (making_by (object_of_kind i k) (base.Named name)) ≡ is_mutex k
kind_numbered i kind.Class name = refl
kind_numbered i kind.Coroutine name = refl
kind_numbered i kind.Monitor name = refl
kind_numbered i kind.Cormonitor name = refl
kind_numbered i kind.Task name = refl
kind_numbered i kind.Event name = refl

numbered_by : (b : Bool) (i : ℕ) (k : Kind) (name : List ℕ) (o : Option Sort) (u : Option FieldClass) (s : Sort) → (o ≡ Some s → is_made_numbered (making_by u (base.Named name)) ≡ is_numbered s) → (if b then Some (sort.Object i k) else o) ≡ Some s → is_made_numbered (making_by (if b then object_of_kind i k else u) (base.Named name)) ≡ is_numbered s
numbered_by true i k name o u s f h = kind_numbered i k name ∙ ap is_numbered (some_same h)
numbered_by false i k name o u s f h = f h

named_numbered : (cs : List Class) (i : ℕ) (name : List ℕ) (s : Sort) → class_sort cs i name ≡ Some s → is_made_numbered (making_by (object_named cs i name) (base.Named name)) ≡ is_numbered s
named_numbered [] i name s h = none_some h
named_numbered (c ∷ cs) i name s h =
    numbered_by (same_name c.name name) i c.kind name (class_sort cs (i + 1) name) (object_named cs (i + 1) name) s (named_numbered cs (i + 1) name s) h

pub numbered_is : (p : Program) (b : Base) (s : Sort) → sort_of p b ≡ Some s → is_made_numbered (making p b) ≡ is_numbered s
numbered_is p base.Void s h = ap is_numbered (some_same h)
numbered_is p base.Int s h = ap is_numbered (some_same h)
numbered_is p base.Char s h = ap is_numbered (some_same h)
numbered_is p base.Bool s h = ap is_numbered (some_same h)
numbered_is p base.Condition s h = ap is_numbered (some_same h)
numbered_is p base.Cluster s h = ap is_numbered (some_same h)
numbered_is p base.Processor s h = ap is_numbered (some_same h)
numbered_is p (base.Named name) s h = named_numbered (classes_of p.items) 0 name s h

abbrev class_in : Sort → Option ℕ
class_in (sort.Object c k) = Some c
class_in _ = None

kind_class : (i : ℕ) (k : Kind) (name : List ℕ) (b : Bool) → tree.class_or_event (class_made (making_by (object_of_kind i k) (base.Named name))) (if is_event k then Some i else None) ≡ Some i
kind_class i kind.Class name b = refl
kind_class i kind.Coroutine name b = refl
kind_class i kind.Monitor name b = refl
kind_class i kind.Cormonitor name b = refl
kind_class i kind.Task name b = refl
kind_class i kind.Event name b = refl

class_by : (b : Bool) (i : ℕ) (k : Kind) (name : List ℕ) (o : Option Sort) (u : Option FieldClass) (e : Option ℕ) (s : Sort) → (o ≡ Some s → tree.class_or_event (class_made (making_by u (base.Named name))) e ≡ class_in s) → (if b then Some (sort.Object i k) else o) ≡ Some s → tree.class_or_event (class_made (making_by (if b then object_of_kind i k else u) (base.Named name))) (if b then (if is_event k then Some i else None) else e) ≡ class_in s
class_by true i k name o u e s f h = kind_class i k name true ∙ ap class_in (some_same h)
class_by false i k name o u e s f h = f h

named_class : (cs : List Class) (i : ℕ) (name : List ℕ) (s : Sort) → class_sort cs i name ≡ Some s → tree.class_or_event (class_made (making_by (object_named cs i name) (base.Named name))) (event_from cs i name) ≡ class_in s
named_class [] i name s h = none_some h
named_class (c ∷ cs) i name s h =
    class_by (same_name c.name name) i c.kind name (class_sort cs (i + 1) name) (object_named cs (i + 1) name) (event_from cs (i + 1) name) s (named_class cs (i + 1) name s) h

class_is : (p : Program) (b : Base) (s : Sort) → sort_of p b ≡ Some s → tree.class_or_event (class_made (making p b)) (event_place p b) ≡ class_in s
class_is p base.Void s h = ap class_in (some_same h)
class_is p base.Int s h = ap class_in (some_same h)
class_is p base.Char s h = ap class_in (some_same h)
class_is p base.Bool s h = ap class_in (some_same h)
class_is p base.Condition s h = ap class_in (some_same h)
class_is p base.Cluster s h = ap class_in (some_same h)
class_is p base.Processor s h = ap class_in (some_same h)
class_is p (base.Named name) s h = named_class (classes_of p.items) 0 name s h

-- calls of conditions, by their names

not_both : (name : List ℕ) → same_name name front_name ≡ true → same_name name empty_name ≡ false
not_both [] h = false_true h
not_both (n ∷ ns) h =
    let e : n ≡ 102 = eqb-true n 102 (both_left (nat_eq n 102) _ h) in
    subst (λ m. same_name (m ∷ ns) empty_name ≡ false) (sym e) refl

call_is_by : (a b c f e : Bool) (o : Operation) → (f ≡ true → e ≡ false) → (if a then Some Wait else (if b then Some Signal else (if c then Some SignalBlock else (if f then Some Front else (if e then Some Empty else None))))) ≡ Some o → (if a then Some tree.Waits else if b then Some tree.Signals else if c then Some tree.SignalsBlocking else if e then Some tree.AsksEmpty else if f then Some tree.AsksFront else None) ≡ Some (call_of o)
call_is_by true b c f e o n h = ap (λ o. Some (call_of o)) (some_same h)
call_is_by false true c f e o n h = ap (λ o. Some (call_of o)) (some_same h)
call_is_by false false true f e o n h = ap (λ o. Some (call_of o)) (some_same h)
call_is_by false false false true e o n h =
    subst (λ (e : Bool). (if e then Some tree.AsksEmpty else Some tree.AsksFront) ≡ Some (call_of o)) (sym (n refl)) (ap (λ o. Some (call_of o)) (some_same h))
call_is_by false false false false true o n h = ap (λ o. Some (call_of o)) (some_same h)
call_is_by false false false false false o n h = none_some h

call_is : (name : List ℕ) (o : Operation) → rules.operation_named name ≡ Some o → tree.condition_call name ≡ Some (call_of o)
call_is name o h =
    call_is_by (same_name name rules.wait_name) (same_name name rules.signal_name) (same_name name rules.signal_block_name) (same_name name front_name) (same_name name empty_name) o (not_both name) h

-- names

common : (a b : List ℕ) (name : List ℕ) → a ≡ b → same_name a name ≡ same_name b name
common a b name e = ap (λ x. same_name x name) e

module _ (t : Table) (g : Sig) (sc : List Name) (p : Program) (refers : t.refers ≡ true) where
  -- of locals both look-ups find the last one
  abbrev Found : Option NameMeaning → Option LocalVariable → Type 0
  Found None None = Unit {0}
  Found None (Some k) = ⊥
  Found (Some m) None = ⊥
  Found (Some m) (Some k) = AgreesIf t g sc p m.entity (known_meant p k)

  here : (b : Bool) (s : LocalName) (k : LocalVariable) → AgreesIf t g sc p s.meant.entity (known_meant p k) → Found (if b then Some s.meant else None) (if b then Some k else None)
  here true s k h = h
  here false s k h = tt

  later : (m : Option NameMeaning) (k : Option LocalVariable) (s : LocalName) (n : LocalVariable) (name : List ℕ) → Found m k → same_name s.name name ≡ same_name n.name name → AgreesIf t g sc p s.meant.entity (known_meant p n) → Found (scopes.later_or m s name) (tree.later_or k n name)
  later None None s n name f e h = subst (λ b. Found (if same_name s.name name then Some s.meant else None) (if b then Some n else None)) e (here (same_name s.name name) s n h)
  later None (Some k) s n name f e h = absurd f
  later (Some m) None s n name f e h = absurd f
  later (Some m) (Some k) s n name f e h = f

  found : (ss : List LocalName) (ks : List LocalVariable) (name : List ℕ) → Alike t g sc p ss ks → Found (local_named ss name) (known_named ks name)
  found [] [] name h = tt
  found [] (k ∷ ks) name h = absurd h
  found (s ∷ ss) [] name h = absurd h
  found (s ∷ ss) (k ∷ ks) name h =
      later (local_named ss name) (known_named ks name) s k name (found ss ks name h.1) (common s.name k.name name h.0.0) h.0.1

  -- operators

  pub scalar : (w : Entity) (m : tree.Meant) → is_scalar w ≡ true → Agrees t g sc p w m → ValuedBy t g sc m.standing m.expr
  scalar (entity.Value s) m e h = h.1
  scalar (entity.Place s) m e h = h.0.1 e
  scalar _ m e h = false_true e

  place_value : (v w : Entity) (m : tree.Meant) → rules.value_of v ≡ Some w → Agrees t g sc p v m → (s : Sort) × (w ≡ entity.Value s) × Yields t g sc m.expr (Cell Num) × ValuedBy t g sc m.standing m.expr
  place_value (entity.Place s) w m h a =
      let i = if_some (is_scalar_sort s) (Some (entity.Value s)) w h in
      (s, sym (some_same i.1), subst (Yields t g sc m.expr) (scalar_cell s i.0) a.0.0, a.0.1 i.0)
  place_value _ w m h a = none_some h

  pub converted_fine : (k : Shape) (e : Expr) → Yields t g sc e Num → Yields t g sc (converted k e) Num
  converted_fine Character e f = (refl, f)
  converted_fine Truth e f = (refl, f)
  converted_fine _ e f = f

  updated_ok : (op : Operator) (k : Shape) (st : Standing) (place e : Expr) → Yields t g sc place (Cell Num) → Yields t g sc e Num → Yields t g sc (tree.updated_by (tree.variable_in st) op k place e) Num
  updated_ok op k (AtVariable n) place e f h = (refl, converted_fine k (Operate op (Get n) e) (refl, inr (inl refl), h))
  updated_ok op k _ place e f h = (refl, f, h)

  stepped_ok : (op : Operator) (k : Shape) (st : Standing) (place : Expr) → Yields t g sc place (Cell Num) → Yields t g sc (tree.stepped_by (tree.variable_in st) op k place) Num
  stepped_ok op k (AtVariable n) place f = (inr (inl refl), (Num, (refl, converted_fine k (Operate op (Get n) (Literal (pos 1))) (refl, inr (inl refl), refl))))
  stepped_ok op k _ place f = (refl, f)

  written_ok : (st : Standing) (place e : Expr) → Yields t g sc place (Cell Num) → Yields t g sc e Num → Yields t g sc (tree.written_by (tree.variable_in st) place e) Num
  written_ok (AtVariable n) place e f h = (refl, h)
  written_ok _ place e f h = (refl, f, h)

  -- a value
  as_value : (s : Sort) (w : Entity) (m : tree.Meant) → w ≡ entity.Value s → IsAsValue m.standing → ValuedBy t g sc m.standing m.expr → Agrees t g sc p w m
  as_value s w m e v h = subst (λ w. Agrees t g sc p w m) (sym e) (v, h)

  by_scalar : (s : Sort) (o : Option Entity) (w : Entity) (m n : tree.Meant) → AgreesIf t g sc p o m → IsAsValue n.standing → of_scalar o (entity.Value s) ≡ Some w → (ValuedBy t g sc m.standing m.expr → ValuedBy t g sc n.standing n.expr) → Agrees t g sc p w n
  by_scalar s None w m n ih u h f = none_some h
  by_scalar s (Some v) w m n ih u h f =
      let i = if_some (is_scalar v) (Some (entity.Value s)) w h in
      as_value s w n (sym (some_same i.1)) u (f (scalar v m i.0 (ih v refl)))

  by_place : (o : Option Entity) (w : Entity) (m n : tree.Meant) → AgreesIf t g sc p o m → IsAsValue n.standing → of_place o ≡ Some w → (Yields t g sc m.expr (Cell Num) → ValuedBy t g sc n.standing n.expr) → Agrees t g sc p w n
  by_place None w m n ih u h f = none_some h
  by_place (Some v) w m n ih u h f = let i = place_value v w m h (ih v refl) in as_value i.0 w n i.1 u (f i.2)

  unary_ok : (op : UnaryOp) (o : Option Entity) (m : tree.Meant) → AgreesIf t g sc p o m → AgreesIf t g sc p (unary_entity op o) (tree.unary_meant op m)
  unary_ok unary.Minus o m ih w h = by_scalar sort.Int o w m _ ih tt h (λ v. (refl, v))
  unary_ok unary.Plus o m ih w h = by_scalar sort.Int o w m _ ih tt h (λ v. v)
  unary_ok unary.Not o m ih w h = by_scalar sort.Bool o w m _ ih tt h (λ v. (refl, v))
  unary_ok unary.Increment o m ih w h = by_place o w m _ ih tt h (λ a. updated_ok Add (shape_of m.ty.base) m.standing m.expr (Literal (pos 1)) a refl)
  unary_ok unary.Decrement o m ih w h = by_place o w m _ ih tt h (λ a. updated_ok Sub (shape_of m.ty.base) m.standing m.expr (Literal (pos 1)) a refl)

  binary_fine : (op : BinaryOp) (l r : tree.Meant) → ValuedBy t g sc l.standing l.expr → ValuedBy t g sc r.standing r.expr → ValuedBy t g sc (tree.binary_meant op l r).standing (tree.binary_meant op l r).expr
  binary_fine binary.Or l r a b = (refl, a, b)
  binary_fine binary.And l r a b = (refl, a, b)
  binary_fine _ l r a b = (refl, a, b)

  binary_value : (op : BinaryOp) (l r : tree.Meant) → IsAsValue (tree.binary_meant op l r).standing
  binary_value binary.Or l r = tt
  binary_value binary.And l r = tt
  binary_value _ l r = tt

  assign_value : (op : AssignOp) (m v : tree.Meant) → IsAsValue (tree.assign_meant op m v).standing
  assign_value assign.Set m v = tt
  assign_value _ m v = tt

  gives_value : (op : BinaryOp) → (s : Sort) × (binary_gives op ≡ entity.Value s)
  gives_value binary.Or = (sort.Bool, refl)
  gives_value binary.And = (sort.Bool, refl)
  gives_value binary.Equal = (sort.Bool, refl)
  gives_value binary.NotEqual = (sort.Bool, refl)
  gives_value binary.Less = (sort.Bool, refl)
  gives_value binary.LessEqual = (sort.Bool, refl)
  gives_value binary.Greater = (sort.Bool, refl)
  gives_value binary.GreaterEqual = (sort.Bool, refl)
  gives_value binary.Add = (sort.Int, refl)
  gives_value binary.Sub = (sort.Int, refl)
  gives_value binary.Mul = (sort.Int, refl)
  gives_value binary.Div = (sort.Int, refl)
  gives_value binary.Rem = (sort.Int, refl)

  binary_ok : (op : BinaryOp) (o u : Option Entity) (l r : tree.Meant) → AgreesIf t g sc p o l → AgreesIf t g sc p u r → AgreesIf t g sc p (of_both both_scalars o u (binary_gives op)) (tree.binary_meant op l r)
  binary_ok op None u l r f k w h = none_some h
  binary_ok op (Some v) None l r f k w h = none_some h
  binary_ok op (Some v) (Some x) l r f k w h =
      let i = if_some (both_scalars v x) (Some (binary_gives op)) w h in
      let b = gives_value op in
      as_value b.0 w (tree.binary_meant op l r) (sym (some_same i.1) ∙ b.1) (binary_value op l r) (binary_fine op l r (scalar v l (both_left (is_scalar v) (is_scalar x) i.0) (f v refl)) (scalar x r (both_right (is_scalar v) (is_scalar x) i.0) (k x refl)))

  assign_fine : (op : AssignOp) (m v : tree.Meant) → Yields t g sc m.expr (Cell Num) → ValuedBy t g sc v.standing v.expr → ValuedBy t g sc (tree.assign_meant op m v).standing (tree.assign_meant op m v).expr
  assign_fine assign.Set m v a y = written_ok m.standing m.expr (converted (shape_of m.ty.base) (tree.value_of v)) a (converted_fine (shape_of m.ty.base) (tree.value_of v) y)
  assign_fine assign.Add m v a y = updated_ok Add (shape_of m.ty.base) m.standing m.expr (tree.value_of v) a y
  assign_fine assign.Sub m v a y = updated_ok Sub (shape_of m.ty.base) m.standing m.expr (tree.value_of v) a y
  assign_fine assign.Mul m v a y = updated_ok Mul (shape_of m.ty.base) m.standing m.expr (tree.value_of v) a y
  assign_fine assign.Div m v a y = updated_ok Div (shape_of m.ty.base) m.standing m.expr (tree.value_of v) a y
  assign_fine assign.Rem m v a y = updated_ok Rem (shape_of m.ty.base) m.standing m.expr (tree.value_of v) a y

  assign_ok : (op : AssignOp) (o u : Option Entity) (m v : tree.Meant) → AgreesIf t g sc p o m → AgreesIf t g sc p u v → AgreesIf t g sc p (of_assign o u) (tree.assign_meant op m v)
  assign_ok op None u m v f k w h = none_some h
  assign_ok op (Some x) None m v f k w h = none_some h
  assign_ok op (Some x) (Some y) m v f k w h =
      let i = if_some (is_scalar y) (rules.value_of x) w h in
      let a = place_value x w m i.1 (f x refl) in
      as_value a.0 w (tree.assign_meant op m v) a.1 (assign_value op m v) (assign_fine op m v a.2 (scalar y v i.0 (k y refl)))

  step_ok : (op : StepOp) (o : Option Entity) (m : tree.Meant) → AgreesIf t g sc p o m → AgreesIf t g sc p (of_place o) (tree.step_meant op m)
  step_ok step.Increment o m ih w h = by_place o w m _ ih tt h (λ a. stepped_ok Add (shape_of m.ty.base) m.standing m.expr a)
  step_ok step.Decrement o m ih w h = by_place o w m _ ih tt h (λ a. stepped_ok Sub (shape_of m.ty.base) m.standing m.expr a)

  -- an element
  element_condition : (st : Standing) (n : ℕ) (m : tree.Meant) (i : Expr) → IsAsCondition t g st → sort_of p m.ty.base ≡ Some sort.Condition → Yields t g sc i Num → Agrees t g sc p (entity.Place sort.Condition) (tree.element_in p st n m i)
  element_condition (AsCondition k) n m i h e v = (((refl, v), λ c. false_true c), h, (refl, e))
  element_condition _ n m i h e v = absurd h

  element_by : (b : Bool) (s : Sort) (n : ℕ) (a : tree.Meant) (i : Expr) → is_condition s ≡ false → is_numbered s ≡ b → IsPlaced t (place_by b (found_ty s)) → Yields t g sc a.expr (Row n (place_by b (found_ty s))) → sort_of p a.ty.base ≡ Some s → Yields t g sc i Num → IsKept t (base_shape p a.ty.base) (place_by b (found_ty s)) → Agrees t g sc p (entity.Place s) (tree.place_or_number b (Element n (base_shape p a.ty.base) a.expr i) (tree.one_of a.ty))
  element_by true s n a i c b w y e v z =
      (((inr refers, ((tt, y, v, z))), λ d. false_true (sym (scalar_unnumbered s d) ∙ b)), subst (λ n. StandsBy t g (is_condition s) n AsNumber) (sym b) (subst (λ c. StandsBy t g c true AsNumber) (sym c) tt), (refl, e))
  element_by false s n a i c b w y e v z =
      ((((w, y, v, z)), λ d. (inl refl, subst (Yields t g sc (Element n (base_shape p a.ty.base) a.expr i)) (scalar_cell s d) (w, y, v, z))), subst (λ n. StandsBy t g (is_condition s) n AtPlace) (sym b) (subst (λ c. StandsBy t g c false AtPlace) (sym c) tt), (refl, e))

  element_place : (st : Standing) (s : Sort) (n : ℕ) (m : tree.Meant) (i : Expr) → IsAtPlace st → Agrees t g sc p (entity.Place s) (tree.place_or_number (is_made_numbered (making p m.ty.base)) (Element n (base_shape p m.ty.base) m.expr i) (tree.one_of m.ty)) → Agrees t g sc p (entity.Place s) (tree.element_in p st n m i)
  element_place (AtVariable k) s n m i h a = a
  element_place (AtField k j) s n m i h a = a
  element_place AtPlace s n m i h a = a
  element_place _ s n m i h a = absurd h

  abbrev AreKept : Type 0
  AreKept = (b : Base) (s : Sort) → sort_of p b ≡ Some s → IsKept t (base_shape p b) (place_ty s)

  element_fine : AreKept → (c : Bool) (s : Sort) (n : ℕ) (m : tree.Meant) (i : Expr) → is_condition s ≡ c → (c ≡ true → s ≡ sort.Condition) → StandsBy t g c false m.standing → RowPlaced t c s → Yields t g sc m.expr (row_ty c n s) → sort_of p m.ty.base ≡ Some s → Yields t g sc i Num → Agrees t g sc p (entity.Place s) (tree.element_in p m.standing n m i)
  element_fine kept true s n m i c f st w y e v =
      subst (λ s. Agrees t g sc p (entity.Place s) (tree.element_in p m.standing n m i)) (sym (f refl)) (element_condition m.standing n m i st (e ∙ ap (λ s. Some s) (f refl)) v)
  element_fine kept false s n m i c f st w y e v =
      element_place m.standing s n m i st (subst (λ b. Agrees t g sc p (entity.Place s) (tree.place_or_number b (Element n (base_shape p m.ty.base) m.expr i) (tree.one_of m.ty))) (sym (numbered_is p m.ty.base s e)) (element_by (is_numbered s) s n m i c refl w y e v (kept m.ty.base s e)))

  only_condition : (s : Sort) → is_condition s ≡ true → s ≡ sort.Condition
  only_condition sort.Condition h = refl
  only_condition _ h = false_true h

  element_ok : AreKept → (v w : Entity) (m i : tree.Meant) → rules.element v ≡ Some w → Agrees t g sc p v m → ValuedBy t g sc i.standing i.expr → Agrees t g sc p w (tree.element_meant p m i)
  element_ok kept (entity.Array s n) w m i h a v =
      subst (λ l. Agrees t g sc p w (tree.element_by p l m (tree.value_of i))) (sym a.3.0) (subst (λ w. Agrees t g sc p w (tree.element_by p (Some n) m (tree.value_of i))) (some_same h) (element_fine kept (is_condition s) s n m (tree.value_of i) refl (only_condition s) a.1 a.2 a.0 a.3.1 v))
  element_ok kept _ w m i h a v = none_some h

  index_ok : AreKept → (o u : Option Entity) (m i : tree.Meant) → AgreesIf t g sc p o m → AgreesIf t g sc p u i → AgreesIf t g sc p (of_index o u) (tree.element_meant p m i)
  index_ok kept None u m i f k w h = none_some h
  index_ok kept (Some v) None m i f k w h = none_some h
  index_ok kept (Some v) (Some x) m i f k w h =
      let j = if_some (is_scalar x) (rules.element v) w h in
      element_ok kept v w m i j.1 (f v refl) (scalar x i j.0 (k x refl))

  -- arguments

  value_to : (o : Option Sort) (w : Entity) → fits (rules.value_to o) w ≡ true → is_scalar w ≡ true
  value_to None w f = f
  value_to (Some s) w f = by_scalar_sort (is_scalar_sort s) f
    where
      by_scalar_sort : (b : Bool) → fits (if b then expected_of.Scalar else expected_of.Nothing) w ≡ true → is_scalar w ≡ true
      by_scalar_sort true f = f
      by_scalar_sort false f = false_true f

  arg_by : (o : Option Sort) (b : Bool) (k : Shape) (w : Entity) (m : tree.Meant) → (b ≡ true → (s : Sort) × (o ≡ Some s)) → fits (if b then rules.reference_to o else rules.value_to o) w ≡ true → Agrees t g sc p w m → Yields t g sc (if b then m.expr else converted k (tree.value_of m)) (if b then sort_ty o else Num)
  arg_by o false k w m n f a = converted_fine k (tree.value_of m) (scalar w m (value_to o w f) a)
  arg_by None true k w m n f a = none_some (n refl).1
  arg_by (Some s) true k (entity.Place r) m n f a = subst (Yields t g sc m.expr) (sym (place_same s r f)) a.0.0
  arg_by (Some s) true k _ m n f a = false_true f

  pub arg_ok : (x y : Param) (w : Entity) (m : tree.Meant) → IsLike p x y → fits (param_expected p (Some x)) w ≡ true → Agrees t g sc p w m → Yields t g sc (arg_meant y m) (param_ty p y)
  arg_ok x y w m l f a =
      let e : fits (if y.by_ref then rules.reference_to (sort_of p y.base) else rules.value_to (sort_of p y.base)) w ≡ true = subst (λ b. fits (if b then rules.reference_to (sort_of p y.base) else rules.value_to (sort_of p y.base)) w ≡ true) l.by_ref (subst (λ b. fits (if x.by_ref then rules.reference_to (sort_of p b) else rules.value_to (sort_of p b)) w ≡ true) l.base f) in
      arg_by (sort_of p y.base) y.by_ref (shape_of y.base) w m l.known e a

  fitting : (x y : Param) (o : Option Entity) (m : tree.Meant) → IsLike p x y → has_fitting (param_expected p (Some x)) o ≡ true → AgreesIf t g sc p o m → Yields t g sc (arg_meant y m) (param_ty p y)
  fitting x y None m l f ih = false_true f
  fitting x y (Some w) m l f ih = arg_ok x y w m l f (ih w refl)

  -- a call

  call_value : (i : ℕ) (m : tree.Meant) (args : List tree.Meant) (s : Sort) → (c : IsCalled t g sc p i m) → GiveAll t g sc (args_by (params_of p c.number) args) (map (param_ty p) (params_of p c.number)) → Agrees t g sc p (entity.Value s) (tree.call_meant p m args)
  call_value i m args s c f =
      subst (λ st. Agrees t g sc p (entity.Value s) (tree.call_by p st m args)) (sym c.standing) (tt, (refl, subst (GiveAll t g sc (args_by (params_of p c.number) args)) c.table f, c.alone, c.known, c.reached))

  -- what is reached by all may be called anywhere
  open_called : (w : Inward) (e : Expr) → IsOpen w → MayCall w g e
  open_called Apart e o = tt
  open_called Enters e o = tt
  open_called Makes e o = absurd o
  open_called Helps e o = absurd o
  open_called Main e o = absurd o

  -- of a member the rules ask that one which helps inside its object is called there, without a path
  abbrev Callable : Bool → Bool → Bool → Type 0
  Callable here inner path = (here ≡ true → IsInside g.inward) × (may_be_called here (entity.Method 0 0 inner path) ≡ true)

  member_called : (here inner path : Bool) (number : ℕ) (m : tree.Meant) (w : Inward) → Callable here inner path → IsReached t g sc inner path number m w → MayCall w g m.expr
  member_called here inner path number m w k (inl o) = open_called w m.expr o
  member_called here inner path number m w k (inr h) =
      let q : (here && not path) ≡ true = subst (λ (b : Bool). (not b || (here && not path)) ≡ true) h.1 k.1 in
      subst (λ w. MayCall w g m.expr) (sym h.0) (h.3 (not_true path (both_right here (not path) q)), k.0 (both_left here (not path) q))

  member_open : (inner path : Bool) (number : ℕ) (m : tree.Meant) (w : Inward) (st : Standing) → m.standing ≡ st → (st ≡ tree.AsMember number → ⊥) → IsReached t g sc inner path number m w → IsOpen w
  member_open inner path number m w st e n (inl o) = o
  member_open inner path number m w st e n (inr h) = absurd (n (sym e ∙ h.2))

  member_value : (i j : ℕ) (here inner path : Bool) (m : tree.Meant) (args : List tree.Meant) (s : Sort) → (c : IsMember t g sc p i j inner path m) → Callable here inner path → is_main_sig (method_sig p i j) ≡ false → GiveAll t g sc (args_by (params_of p c.number) args) (map (param_ty p) (params_of p c.number)) → Agrees t g sc p (entity.Value s) (tree.call_meant p m args)
  member_value i j here inner path m args s c k main f = by_standing c.standing
    where
      reached : IsReached t g sc inner path c.number m (t.routine c.number).inward
      reached = c.reached main

      at_object : (b : Bool) → b ≡ false → Yields t g sc m.expr (object_ty b c.class)
      at_object b e = subst (λ b. Yields t g sc m.expr (object_ty b c.class)) (sym e) c.at

      given_all : GiveAll t g sc (args_by (params_of p c.number) args) (t.routine c.number).params
      given_all = subst (GiveAll t g sc (args_by (params_of p c.number) args)) c.table f

      by_standing : IsMethod t g sc c.number c.class m.standing → Agrees t g sc p (entity.Value s) (tree.call_meant p m args)
      by_standing (inl (inl e)) =
          subst (λ st. Agrees t g sc p (entity.Value s) (tree.call_by p st m args)) (sym e) (tt, (refl, (c.class, at_object (t.routine c.number).whole c.plain, c.this, c.known), given_all, member_called here inner path c.number m (t.routine c.number).inward k reached))
      by_standing (inl (inr e)) =
          subst (λ st. Agrees t g sc p (entity.Value s) (tree.call_by p st m args)) (sym e) (tt, (refl, (c.class, at_object (t.routine c.number).whole c.plain, c.this, c.known), given_all, member_open inner path c.number m (t.routine c.number).inward (tree.AsLiveMember c.number) e (λ q. absurd (cc)) reached))
      by_standing (inr e) =
          subst (λ st. Agrees t g sc p (entity.Value s) (tree.call_by p st m args)) (sym e.1) (tt, (refl, (c.class, at_object (t.routine c.number).whole c.plain, c.this, c.known, e.2), given_all, member_open inner path c.number m (t.routine c.number).inward (tree.AsMutexMember e.0 c.number) e.1 (λ q. absurd (cc)) reached))

  -- calls of conditions
  condition_value : (o : Operation) (m : tree.Meant) (args : List tree.Meant) (w : Entity) → given p (entity.Operation o) ≡ Some w → Yields t g sc m.expr Num → InMutex t g → Yields t g sc (tree.stored_by args) Num → Agrees t g sc p w (tree.condition_called (call_of o) m.expr args)
  condition_value Wait m args w h y n v = as_value sort.Void w _ (sym (some_same h)) tt (refl, n, y, v)
  condition_value Signal m args w h y n v = as_value sort.Void w _ (sym (some_same h)) tt (refl, n, y)
  condition_value SignalBlock m args w h y n v = as_value sort.Void w _ (sym (some_same h)) tt (refl, n, y)
  condition_value Front m args w h y n v = as_value sort.Int w _ (sym (some_same h)) tt (refl, n, y)
  condition_value Empty m args w h y n v = as_value sort.Bool w _ (sym (some_same h)) tt (refl, n, y)

  operation_value : (o : Operation) (m : tree.Meant) (args : List tree.Meant) (w : Entity) → given p (entity.Operation o) ≡ Some w → Agrees t g sc p (entity.Operation o) m → Yields t g sc (tree.stored_by args) Num → Agrees t g sc p w (tree.call_meant p m args)
  operation_value o m args w h a v =
      subst (λ st. Agrees t g sc p w (tree.call_by p st m args)) (sym a.0) (condition_value o m args w h a.1 a.2 v)

  -- members behind a `.`

  -- a place, and what is known by its number, has the members of its class
  part_is : (b : Bool) (st : Standing) (m : tree.Meant) (name : List ℕ) → StandsBy t g false b st → tree.part_by p st m name ≡ tree.place_member p m.ty.len m name
  part_is true AsNumber m name h = refl
  part_is true _ m name h = absurd h
  part_is false (AtVariable k) m name h = refl
  part_is false (AtField k i) m name h = refl
  part_is false AtPlace m name h = refl
  part_is false _ m name h = absurd h

  object_part : (c : ℕ) (k : Kind) (m : tree.Meant) (name : List ℕ) → Agrees t g sc p (entity.Place (sort.Object c k)) m → field_meant p m name ≡ tree.object_member p (Some c) m.expr name
  object_part c k m name a =
      part_is (is_mutex k) m.standing m name a.1 ∙ (ap (λ l. tree.place_member p l m name) a.2.0 ∙ ap (λ o. tree.object_member p o m.expr name) (class_is p m.ty.base (sort.Object c k) a.2.1))

  condition_part : (st : Standing) (o : Operation) (m : tree.Meant) (name : List ℕ) → IsAsCondition t g st → Yields t g sc m.expr Num → rules.operation_named name ≡ Some o → Agrees t g sc p (entity.Operation o) (tree.part_by p st m name)
  condition_part (AsCondition k) o m name h y e =
      subst (λ c. Agrees t g sc p (entity.Operation o) (tree.call_of_condition m c)) (sym (call_is name o e)) (refl, y, h)
  condition_part _ o m name h y e = absurd h

  -- a member that is not there is nothing, or breaks a rule
  missing_ok : (called : Bool) (m : tree.Meant) → AgreesIf t g sc p (rules.of_missing called) m
  missing_ok true m w h = subst (λ w. Agrees t g sc p w m) (some_same h) tt
  missing_ok false m w h = none_some h

  condition_ok : (called : Bool) (name : List ℕ) (m : tree.Meant) (o : Option Operation) → rules.operation_named name ≡ o → Agrees t g sc p (entity.Place sort.Condition) m → AgreesIf t g sc p (rules.other_member called name (entity.Place sort.Condition) (option_and_then (λ o. Some (rules.operation_entity o)) o)) (field_meant p m name)
  condition_ok called name m None e a w h = missing_ok called (field_meant p m name) w h
  condition_ok called name m (Some o) e a w h =
      subst (λ w. Agrees t g sc p w (field_meant p m name)) (some_same h) (condition_part m.standing o m name a.1 a.0.0 e)

  input_ok : (called b : Bool) (name : List ℕ) (m : tree.Meant) → same_name name fail_name ≡ b → m.standing ≡ AsInput → AgreesIf t g sc p (rules.other_member called name entity.Input (if b then Some entity.Fail else None)) (field_meant p m name)
  input_ok called true name m e a w h =
      subst (λ w. Agrees t g sc p w (field_meant p m name)) (some_same h) (subst (λ st. Agrees t g sc p entity.Fail (tree.part_by p st m name)) (sym a) (subst (λ (b : Bool). Agrees t g sc p entity.Fail (if b then record { expr = Literal (pos 0); ty = tree.bool_type; standing = AsFail } else tree.no_meaning)) (sym e) (refl, (Num, refl))))
  input_ok called false name m e a w h = missing_ok called (field_meant p m name) w h

  sig_value : (o : Option whole.Sig) (w : Entity) → rules.sig_gives p o ≡ Some w → (s : Sort) × (w ≡ entity.Value s)
  sig_value None w h = none_some h
  sig_value (Some sig) w h = by_sort (sort_of p sig.ret) h
    where
      by_sort : (o : Option Sort) → option_and_then rules.value_of_sort o ≡ Some w → (s : Sort) × (w ≡ entity.Value s)
      by_sort None h = none_some h
      by_sort (Some s) h = (s, sym (some_same h))

  takes_length : (o : Option whole.Sig) (n : ℕ) → rules.sig_takes o n ≡ true → n ≡ length (params_in o)
  takes_length None n h = false_true h
  takes_length (Some sig) n h = eqb-true n (length sig.params) h

module _ (t : Table) (g : Sig) (sc : List Name) (env : Env) (class : Option ℕ) (routine : ℕ) (known : List LocalVariable) (tied : Tied t g sc env class routine known) where
  abbrev c : tree.Context
  c = context env class routine known

  name_by : (o : Option NameMeaning) (k : Option LocalVariable) (name : List ℕ) → (names_condition (named env name) ≡ true → IsInside g.inward) → local_named env.names name ≡ o → known_named known name ≡ k → Found t g sc env.program tied.refers o k → AgreesIf t g sc env.program (meant_entity (scopes.named_behind o (scopes.named_behind (scopes.own_named env.program env.around.main env.around.home name) (outer_named env.program name)))) (name_meant env.program class name k)
  name_by None None name n e f h =
      subst (λ o. AgreesIf t g sc env.program (meant_entity (scopes.named_behind o (scopes.named_behind (scopes.own_named env.program env.around.main env.around.home name) (outer_named env.program name)))) (tree.own_meant env.program class name)) e (tied.outer name e n)
  name_by None (Some k) name n e f h = absurd h
  name_by (Some m) None name n e f h = absurd h
  name_by (Some m) (Some k) name n e f h = h

  -- a condition is named inside its object
  name_inside : (q : Pos) (name : List ℕ) → breaks_at (AtUse env q name) ≡ [] → names_condition (named env name) ≡ true → IsInside g.inward
  name_inside q name u h =
      let u1 = none_right (unless (is_some (named env name)) S1 q) _ u in
      let u2 = none_right (unless (env.around.inner || not (is_mutex_field_of (named env name))) O2 q) _ u1 in
      let k : may_name_condition env.around.inner (named env name) ≡ true = holds (may_name_condition env.around.inner (named env name)) O4 q _ u2 in
      let a : (env.around.inner && is_mutex_field_of (named env name)) ≡ true = subst (λ (b : Bool). (not b || (env.around.inner && is_mutex_field_of (named env name))) ≡ true) h k in
      tied.inside (both_left env.around.inner (is_mutex_field_of (named env name)) a)

  -- a call obeys the rules on mains and on what helps inside an object
  call_rules : (sign : Pos) (n : ℕ) (v : Entity) → breaks_at (AtCall env sign n (Some v)) ≡ [] → may_be_called env.around.inner v ≡ true
  call_rules sign n v u =
      let u1 = none_right (unless (is_no_main env.program v) S7 sign) _ u in
      let u2 = none_right (unless (rules.takes env.program n v) S10 sign) _ u1 in
      holds (may_be_called env.around.inner v) O3 sign _ u2

  root_by : (root : expr.Expr) (parts : expr.Parts) → (Unbroken (visits env root) → AgreesIf t g sc env.program (entity_of env root) (meant c root)) → Unbroken (if rules.is_input root parts then [] else visits env root) → AgreesIf t g sc env.program (if rules.is_input root parts then Some entity.Input else entity_of env root) (meant c root)
  root_by (expr.Cin q) parts ih u w h = by_input (rules.field_follows parts) w h
    where
      by_input : (b : Bool) → AgreesIf t g sc env.program (if b then Some entity.Input else None) (meant c (expr.Cin q))
      by_input true w h = subst (λ w. Agrees t g sc env.program w (meant c (expr.Cin q))) (some_same h) (refl, (Num, refl))
      by_input false w h = none_some h
  root_by _ parts ih u w h = ih u w h

  -- arguments from the i-th on, for parameters
  abbrev ArgsAgree : expr.Exprs → Type 0
  ArgsAgree args = (i : ℕ) (to : Target) (xs ys : List Param) → count args ≡ length xs → ((k : ℕ) → expected env.program to (i + k) ≡ param_expected env.program (slice_get xs k)) → AreLike env.program xs ys → are_sound env args to i ≡ true → Unbroken (args_visits env args to i) → GiveAll t g sc (args_by ys (args_meant c args)) (map (param_ty env.program) ys)

  -- the first argument of a call of a condition
  abbrev FirstAgrees : expr.Exprs → Type 0
  FirstAgrees args = (o : Operation) → are_sound env args (target.Call (entity.Operation o)) 0 ≡ true → Unbroken (args_visits env args (target.Call (entity.Operation o)) 0) → Yields t g sc (tree.stored_by (args_meant c args)) Num

  call_agrees : (v : Entity) (args : expr.Exprs) (m : tree.Meant) → ArgsAgree args → FirstAgrees args → Agrees t g sc env.program v m → are_sound env args (target.Call v) 0 ≡ true → Unbroken (args_visits env args (target.Call v) 0) → rules.takes env.program (count args) v ≡ true → rules.is_main env.program v ≡ false → may_be_called env.around.inner v ≡ true → AgreesIf t g sc env.program (given env.program v) (tree.call_meant env.program m (args_meant c args))
  call_agrees (entity.Routine i) args m ih first a s u n main k w h =
      let r = ih 0 (target.Call (entity.Routine i)) (params_in (routine_sig env.program i)) (params_of env.program a.number) (takes_length t g sc env.program tied.refers (routine_sig env.program i) (count args) n) (λ k. ap (λ j. param_expected env.program (slice_get (params_in (routine_sig env.program i)) j)) (let e : 0 + k ≡ k = omega arith in e)) a.params s u in
      let v = sig_value t g sc env.program tied.refers (routine_sig env.program i) w h in
      subst (λ w. Agrees t g sc env.program w (tree.call_meant env.program m (args_meant c args))) (sym v.1) (call_value t g sc env.program tied.refers i m (args_meant c args) v.0 a r)
  call_agrees entity.Fail args m ih first a s u n main k w h =
      subst (λ w. Agrees t g sc env.program w (tree.call_meant env.program m (args_meant c args))) (some_same h) (subst (λ st. Agrees t g sc env.program rules.truth_value (tree.call_by env.program st m (args_meant c args))) (sym a.0) (tt, refl))
  call_agrees (entity.Method i j inner path) args m ih first a s u n main k w h =
      let r = ih 0 (target.Call (entity.Method i j inner path)) (params_in (method_sig env.program i j)) (params_of env.program a.number) (takes_length t g sc env.program tied.refers (method_sig env.program i j) (count args) n) (λ k. ap (λ l. param_expected env.program (slice_get (params_in (method_sig env.program i j)) l)) (let e : 0 + k ≡ k = omega arith in e)) a.params s u in
      let v = sig_value t g sc env.program tied.refers (method_sig env.program i j) w h in
      subst (λ w. Agrees t g sc env.program w (tree.call_meant env.program m (args_meant c args))) (sym v.1) (member_value t g sc env.program tied.refers i j env.around.inner inner path m (args_meant c args) v.0 a (tied.inside, k) main r)
  call_agrees (entity.Operation o) args m ih first a s u n main k w h = operation_value t g sc env.program tied.refers o m (args_meant c args) w h a (first o s u)
  call_agrees _ args m ih first a s u n main k w h = none_some h

  first_scalar : (o : Option Entity) (m : tree.Meant) → AgreesIf t g sc env.program o m → has_fitting expected_of.Scalar o ≡ true → ValuedBy t g sc m.standing m.expr
  first_scalar None m ih h = false_true h
  first_scalar (Some w) m ih h = scalar t g sc env.program tied.refers w m h (ih w refl)

  -- a member behind a `.`
  object_agrees : (called : Bool) (cl : ℕ) (k : Kind) (name : List ℕ) (x : Option NameMeaning) (m : tree.Meant) → rules.object_member env.program (sort.Object cl k) name ≡ x → not (is_mutex_field_of x) ≡ true → not (names_condition x) ≡ true → Agrees t g sc env.program (entity.Place (sort.Object cl k)) m → AgreesIf t g sc env.program (rules.member_entity env called name (entity.Place (sort.Object cl k)) x) (field_meant env.program m name)
  object_agrees called cl k name None m e f n a w h = none_some h
  object_agrees called cl k name (Some x) m e f n a w h =
      subst (Agrees t g sc env.program w) (sym (object_part t g sc env.program tied.refers cl k m name a)) (tied.member cl k name x m e (not_true (is_mutex_field_of (Some x)) f) (not_true (names_condition (Some x)) n) a w h)

  field_agrees : (called : Bool) (name : List ℕ) (w : Entity) (m : tree.Meant) → not (is_mutex_field_of (rules.path_member env.program w name)) ≡ true → not (names_condition (rules.path_member env.program w name)) ≡ true → Agrees t g sc env.program w m → AgreesIf t g sc env.program (of_field env called name (Some w)) (field_meant env.program m name)
  field_agrees called name (entity.Place (sort.Object cl k)) m f n a = object_agrees called cl k name (rules.object_member env.program (sort.Object cl k) name) m refl f n a
  field_agrees called name (entity.Place sort.Condition) m f n a = condition_ok t g sc env.program tied.refers called name m (rules.operation_named name) refl a
  field_agrees called name entity.Input m f n a = input_ok t g sc env.program tied.refers called (same_name name fail_name) name m refl a.0
  field_agrees called name (entity.Place sort.Void) m f n a = missing_ok t g sc env.program tied.refers called (field_meant env.program m name)
  field_agrees called name (entity.Place sort.Int) m f n a = missing_ok t g sc env.program tied.refers called (field_meant env.program m name)
  field_agrees called name (entity.Place sort.Char) m f n a = missing_ok t g sc env.program tied.refers called (field_meant env.program m name)
  field_agrees called name (entity.Place sort.Bool) m f n a = missing_ok t g sc env.program tied.refers called (field_meant env.program m name)
  field_agrees called name (entity.Place sort.Cluster) m f n a = missing_ok t g sc env.program tied.refers called (field_meant env.program m name)
  field_agrees called name (entity.Place sort.Processor) m f n a = missing_ok t g sc env.program tied.refers called (field_meant env.program m name)
  field_agrees called name _ m f n a = missing_ok t g sc env.program tied.refers called (field_meant env.program m name)

  arg_unbroken : (e : expr.Expr) (es : expr.Exprs) (to : Target) (i : ℕ) → Unbroken (args_visits env (expr.MoreExprs e es) to i) → Unbroken (visits env e)
  arg_unbroken e es to i u = first (visits env e) _ (first (arg_visits env e (expected env.program to i)) (args_visits env es to (i + 1)) u)

  part_field : (sign : Pos) (called : Bool) (name : List ℕ) (v : Entity) (m : tree.Meant) → breaks_at (AtMember env sign called name (Some v)) ≡ [] → Agrees t g sc env.program v m → AgreesIf t g sc env.program (of_field env called name (Some v)) (field_meant env.program m name)
  part_field sign called name v m u a =
      let u1 = none_right (unless (is_member env called name v) S1 sign) _ u in
      let u2 = none_right (unless (may_name env name v) S18 sign) _ u1 in
      let u3 = none_right (unless (not (is_mutex_field_of (rules.path_member env.program v name))) O2 sign) _ u2 in
      field_agrees called name v m (holds (not (is_mutex_field_of (rules.path_member env.program v name))) O2 sign _ u2) (holds (not (names_condition (rules.path_member env.program v name))) O4 sign _ u3) a

  mutual
    agrees : (e : expr.Expr) → Unbroken (visits env e) → AgreesIf t g sc env.program (entity_of env e) (meant c e)
    agrees (expr.Number q n) u w h = subst (λ w. Agrees t g sc env.program w (meant c (expr.Number q n))) (some_same h) (tt, refl)
    agrees (expr.Character q n) u w h = subst (λ w. Agrees t g sc env.program w (meant c (expr.Character q n))) (some_same h) (tt, refl)
    agrees (expr.Truth q n) u w h = subst (λ w. Agrees t g sc env.program w (meant c (expr.Truth q n))) (some_same h) (tt, refl)
    agrees (expr.Name q name) u w h =
        name_by (local_named env.names name) (known_named known name) name (name_inside q name (one (AtUse env q name) u)) refl refl (found t g sc env.program tied.refers env.names known name tied.names) w h
    agrees (expr.Cin q) u w h = none_some h
    agrees (expr.Postfix q root parts) u w h =
        parts_agree parts (root_entity env root parts) (meant c root) (root_by root parts (agrees root) (first (if rules.is_input root parts then [] else visits env root) (parts_visits env parts (root_entity env root parts)) u)) (second (if rules.is_input root parts then [] else visits env root) (parts_visits env parts (root_entity env root parts)) u) w h
    agrees (expr.Unary q op operand) u w h = unary_ok t g sc env.program tied.refers op (entity_of env operand) (meant c operand) (agrees operand (first (visits env operand) _ u)) w h
    agrees (expr.Chain q start rest) u w h =
        chain_agrees rest (entity_of env start) (meant c start) (agrees start (first (visits env start) _ u)) (second (visits env start) _ u) w h
    agrees (expr.Assign q sign op place value) u w h = assign_ok t g sc env.program tied.refers op (entity_of env place) (entity_of env value) (meant c place) (meant c value) (agrees place (first (visits env place) _ u)) (agrees value (first (visits env value) _ (second (visits env place) _ u))) w h

    part_agrees : (part : expr.Part) (called : Bool) (o : Option Entity) (m : tree.Meant) → AgreesIf t g sc env.program o m → Unbroken (part_visits env part called o) → AgreesIf t g sc env.program (part_entity env part called o) (tree.part_meant c part m)
    part_agrees (expr.Field sign name) called None m ih u w h = none_some h
    part_agrees (expr.Field sign name) called (Some v) m ih u w h = part_field sign called name v m (one (AtMember env sign called name (Some v)) u) (ih v refl) w h
    part_agrees (expr.Index sign index) called o m ih u w h = index_ok t g sc env.program tied.refers tied.shapes o (entity_of env index) m (meant c index) ih (agrees index (first (visits env index) _ u)) w h
    part_agrees (expr.Call sign args) called None m ih u w h = none_some h
    part_agrees (expr.Call sign args) called (Some v) m ih u w h =
        let i = if_some (are_sound env args (target.Call v) 0 && rules.may_call env.program (count args) v) (given env.program v) w h in
        call_agrees v args m (args_agree args) (first_agrees args) (ih v refl) (both_left _ _ i.0) (first (args_visits env args (target.Call v) 0) _ u) (both_left _ _ (both_right _ _ i.0)) (not_true (rules.is_main env.program v) (both_right _ _ (both_right _ _ i.0))) (call_rules sign (count args) v (one (AtCall env sign (count args) (Some v)) (second (args_visits env args (target.Call v) 0) _ u))) w i.1
    part_agrees (expr.Step sign op) called o m ih u w h = step_ok t g sc env.program tied.refers op o m ih w h

    parts_agree : (parts : expr.Parts) (o : Option Entity) (m : tree.Meant) → AgreesIf t g sc env.program o m → Unbroken (parts_visits env parts o) → AgreesIf t g sc env.program (parts_entity env parts o) (tree.parts_meant c parts m)
    parts_agree expr.NoParts o m ih u w h = ih w h
    parts_agree (expr.MoreParts part rest) o m ih u w h =
        parts_agree rest (part_entity env part (rules.call_follows rest) o) (tree.part_meant c part m) (part_agrees part (rules.call_follows rest) o m ih (first (part_visits env part (rules.call_follows rest) o) _ u)) (second (part_visits env part (rules.call_follows rest) o) _ u) w h

    link_agrees : (link : expr.Link) (o : Option Entity) (m : tree.Meant) → AgreesIf t g sc env.program o m → Unbroken (link_visits env link o) → AgreesIf t g sc env.program (link_entity env link o) (tree.link_meant c link m)
    link_agrees (expr.Linked sign op right) o m ih u w h = binary_ok t g sc env.program tied.refers op o (entity_of env right) m (meant c right) ih (agrees right (first (visits env right) _ u)) w h

    chain_agrees : (links : expr.Links) (o : Option Entity) (m : tree.Meant) → AgreesIf t g sc env.program o m → Unbroken (chain_visits env links o) → AgreesIf t g sc env.program (chain_entity env links o) (tree.chain_meant c links m)
    chain_agrees expr.NoLinks o m ih u w h = ih w h
    chain_agrees (expr.MoreLinks link rest) o m ih u w h =
        chain_agrees rest (link_entity env link o) (tree.link_meant c link m) (link_agrees link o m ih (first (link_visits env link o) _ u)) (second (link_visits env link o) _ u) w h

    first_agrees : (args : expr.Exprs) → FirstAgrees args
    first_agrees expr.NoExprs o s u = refl
    first_agrees (expr.MoreExprs e es) o s u =
        first_scalar (entity_of env e) (meant c e) (agrees e (arg_unbroken e es (target.Call (entity.Operation o)) 0 u)) (both_left _ _ s)

    pub args_agree : (args : expr.Exprs) → ArgsAgree args
    args_agree expr.NoExprs i to [] [] n f l s u = tt
    args_agree expr.NoExprs i to [] (y ∷ ys) n f l s u = absurd l
    args_agree expr.NoExprs i to (x ∷ xs) ys n f l s u = let b : ⊥ = omega (arith, n) in absurd b
    args_agree (expr.MoreExprs e es) i to [] ys n f l s u = let b : ⊥ = omega (arith, n) in absurd b
    args_agree (expr.MoreExprs e es) i to (x ∷ xs) [] n f l s u = absurd l
    args_agree (expr.MoreExprs e es) i to (x ∷ xs) (y ∷ ys) n f l s u =
        let q : i ≡ i + 0 = omega arith in
        let x1 : has_fitting (param_expected env.program (Some x)) (entity_of env e) ≡ true = subst (λ z. has_fitting z (entity_of env e) ≡ true) (ap (expected env.program to) q ∙ f 0) (both_left _ _ s) in
        let a = fitting t g sc env.program tied.refers x y (entity_of env e) (meant c e) l.0 x1 (agrees e (arg_unbroken e es to i u)) in
        let r = args_agree es (i + 1) to xs ys (omega (arith, n)) (λ k. ap (expected env.program to) (let z : i + 1 + k ≡ i + suc k = omega arith in z) ∙ f (suc k)) l.1 (both_right _ _ s) (second (arg_visits env e (expected env.program to i)) (args_visits env es to (i + 1)) u) in
        (a, r)

pub law_agrees : (t : Table) (g : Sig) (sc : List Name) → LawAgrees t g sc
law_agrees t g sc env class routine known tied e u w h = agrees t g sc env class routine known tied e u w h
