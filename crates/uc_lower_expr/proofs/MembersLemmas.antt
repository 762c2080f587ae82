-- What names of members stand for, and their code.
use Rattle.std.proofs.Common.{◌≡◌, ℕ, ℤ, ◌≤◌, pos, List, Bool, true, false, Option, Some, None, Ok, Err, length, refl, ap, sym, subst, ◌∙◌, arith}
use Rattle.std.specs.Prelude.{Result, OnOk, IfOk, ◌&&◌, ◌||◌, if◌then◌else◌, option_map}
use Rattle.uc_tree.specs.declared.limits.TheConstants.{OPS_FOR_SIZE}
use Rattle.uc_tree.specs.declared.kinds.Ty.{Ty}
use Rattle.uc_tree.specs.Names.{same_name, fail_name}
use Rattle.uc_tree.specs.Programs.{Class, Constant, Program}
use Rattle.uc_tree.specs.Source.{Shape, Expr, Literal, field_cells}
use Rattle.uc_tree.specs.declared.kinds.Kind.{Kind}
use Rattle.uc_tree.specs.Numbering.{is_event, member_number, routines_of}
use Rattle.uc_tree.specs.Objects.{is_coroutine, class_at, class_shape, class_made, making, member_from, number_at, event_place}
use Rattle.uc_resolve.specs.Resolve.{Meant, Standing, AsValue, AsInput, AsFail, AsMember, AsLiveMember, AsMutexMember, no_meaning, NumberedField, class_or_event, call_of_condition, condition_call, condition_meant, field_type, Whose, Own, Of, object_of_whose, field_by, field_by_ref, field_found, method_by, method_standing, member_by, member_in, member_meant, meant_or, own_meant, item_meant, constant_meant_by, routine_meant_by, object_member, place_member, part_by, field_meant, bool_type, result_of, scalar}
use Rattle.uc_code.specs.declared.op.Op.{Op}
use Rattle.uc_code.specs.declared.op.Op.TheVariants as op
use Rattle.uc_code.specs.declared.rows.CodeMark.{CodeMark}
use Rattle.uc_code.specs.Drafts.{Draft}
use Rattle.uc_code.specs.Layout.{Laid}
use Rattle.uc_code.specs.CodeShapes.{One}
use Rattle.uc_code.specs.Lowered.{ExprAt}
use Rattle.uc_code.proofs.Stable.{one_stable}
use Rattle.uc_lower_expr.specs.declared.meaning.Scalar.TheVariants as shape
use Rattle.uc_lower_expr.specs.declared.meaning.ConditionCall.{ConditionCall as TheCall}
use Rattle.uc_lower_expr.specs.declared.meaning.Standing.{Standing as Told}
use Rattle.uc_lower_expr.specs.declared.meaning.Standing.TheVariants as standing
use Rattle.uc_lower_expr.specs.declared.meaning.ExprMeaning.{ExprMeaning}
use Rattle.uc_lower_expr.specs.declared.fields.Field.{Field}
use Rattle.uc_lower_expr.specs.declared.numbering.ConstantMeaning.{ConstantMeaning}
use Rattle.uc_lower_expr.specs.Numbered.{IsFixed}
use Rattle.uc_lower_expr.specs.Meanings.{FieldAt, Begins, StandsAs, Tells, call_of, is_coroutine_in, member_standing, mutex_number_in}
use Rattle.uc_lower_expr.specs.Members.{IsFieldAt, IsField, held_standing, no_field, member_at}
use Rattle.uc_lower_expr.specs.DraftGrowth.{Adds, ExprCode, Grows, OpCode}
use Rattle.uc_lower_expr.specs.Parts.{FieldCode, Restarts, own_place_op, own_standing, input_told}
use Rattle.uc_lower_expr.proofs.Adding.{adds_as, adds_more, adds_both}
use Rattle.uc_lower_expr.proofs.Growing.{grows_adds, grows_restart}
use Rattle.uc_lower_expr.proofs.Arms.{stands}
use Rattle.uc_lower_expr.proofs.Walks.{put_for_nothing}

-- a member, and how it stands: by its number, where it is a mutex member, and by whether its class is one of plain coroutines

abbrev method_with : Program → Whose → ℕ → Standing → Meant
method_with p whose r s = record { expr = object_of_whose whose; ty = scalar (result_of p r); standing = s }

abbrev path_standing : Option ℕ → Bool → Whose → ℕ → Standing
path_standing (Some m) d whose r = AsMutexMember m r
path_standing None d Own r = AsMember r
path_standing None d (Of object) r = if d then AsLiveMember r else AsMember r

abbrev pub method_as : Program → Option ℕ → Bool → Whose → ℕ → Meant
method_as p m d whose r = method_with p whose r (path_standing m d whose r)

abbrev pub method_at : Program → ℕ → List ℕ → Whose → ℕ → Meant
method_at p i name whose r = method_as p (mutex_number_in (class_at p i) name) (is_coroutine_in (class_at p i)) whose r

module _ (p : Program) (i : ℕ) (name : List ℕ) where
  -- a field
  field_in : (whose : Whose) (o : Option Class) (v : Field) (f : IsField p i name v) → o ≡ Some f.class → member_in p i whose name o ≡ field_found p f.class i whose f.numbered
  field_in whose o v f e = ap (member_in p i whose name) e ∙ ap (member_by p f.class i whose name) f.is

  pub field_is : (whose : Whose) (v : Field) (f : IsField p i name v) → v.condition ≡ None → member_meant p i whose name ≡ field_by v.number f.numbered.field.declarator.by_ref (class_shape p i) f.numbered.number whose (field_type p f.class f.numbered.field)
  field_is whose v f none = field_in whose (class_at p i) v f f.there ∙ f.at.found none whose

  -- a condition
  pub condition_is : (whose : Whose) (v : Field) (k : ℕ) (f : IsField p i name v) → v.condition ≡ Some k → member_meant p i whose name ≡ condition_meant k (field_type p f.class f.numbered.field)
  condition_is whose v k f e = field_in whose (class_at p i) v f f.there ∙ f.condition k e whose

  -- no field

  none_case : (c : Class) (whose : Whose) (b : Bool) (o : Option ℕ) → (if b then None else o) ≡ None → (if b then no_meaning else method_by p c whose name o) ≡ no_meaning
  none_case c whose true o k = refl
  none_case c whose false o k = ap (method_by p c whose name) k

  method_case : (c : Class) (whose : Whose) (b : Bool) (o : Option ℕ) (r : ℕ) → (if b then None else o) ≡ Some r → (if b then no_meaning else method_by p c whose name o) ≡ method_by p c whose name (Some r)
  method_case c whose true o r k = cc
  method_case c whose false o r k = ap (method_by p c whose name) k

  none_in : (whose : Whose) (o : Option Class) → no_field p i name o → member_at p i name o ≡ None → member_in p i whose name o ≡ no_meaning
  none_in whose None h k = refl
  none_in whose (Some c) h k = ap (member_by p c i whose name) h ∙ none_case c whose (is_event c.kind) (member_from (routines_of p) 0 (number_at p i) name) k

  path_is : (d : Bool) (m : Option ℕ) (k : Kind) (whose : Whose) (r : ℕ) → is_coroutine k ≡ d → method_standing k whose m r ≡ path_standing m d whose r
  path_is d (Some m) k whose r e = refl
  path_is true None k Own r e = ap (λ (b : Bool). if b && false then AsLiveMember r else AsMember r) e
  path_is false None k Own r e = ap (λ (b : Bool). if b && false then AsLiveMember r else AsMember r) e
  path_is true None k (Of o) r e = ap (λ (b : Bool). if b && true then AsLiveMember r else AsMember r) e
  path_is false None k (Of o) r e = ap (λ (b : Bool). if b && true then AsLiveMember r else AsMember r) e

  method_in : (whose : Whose) (o : Option Class) (r : ℕ) → no_field p i name o → member_at p i name o ≡ Some r → member_in p i whose name o ≡ method_as p (mutex_number_in o name) (is_coroutine_in o) whose r
  method_in whose None r h k = cc
  method_in whose (Some c) r h k = ap (member_by p c i whose name) h ∙ method_case c whose (is_event c.kind) (member_from (routines_of p) 0 (number_at p i) name) r k ∙ ap (λ (s : Standing). method_with p whose r s) (path_is (is_coroutine c.kind) (member_number c name) c.kind whose r refl)

  pub none_is : (whose : Whose) → no_field p i name (class_at p i) → member_at p i name (class_at p i) ≡ None → member_meant p i whose name ≡ no_meaning
  none_is whose h k = none_in whose (class_at p i) h k

  pub method_is : (whose : Whose) (r : ℕ) → no_field p i name (class_at p i) → member_at p i name (class_at p i) ≡ Some r → member_meant p i whose name ≡ method_at p i name whose r
  method_is whose r h k = method_in whose (class_at p i) r h k

  -- own names

  own_by : (m : Meant) → member_meant p i Own name ≡ m → own_meant p (Some i) name ≡ meant_or m.standing m (item_meant p name)
  own_by m e = ap (λ (x : Meant). meant_or x.standing x (item_meant p name)) e

  own_field_by : (n b : Bool) (s : Shape) (k : ℕ) (ty : Ty) → meant_or (field_by n b s k Own ty).standing (field_by n b s k Own ty) (item_meant p name) ≡ field_by n b s k Own ty
  own_field_by true b s k ty = refl
  own_field_by false true s k ty = refl
  own_field_by false false s k ty = refl

  pub own_field : (v : Field) (f : IsField p i name v) → v.condition ≡ None → own_meant p (Some i) name ≡ field_by v.number f.numbered.field.declarator.by_ref (class_shape p i) f.numbered.number Own (field_type p f.class f.numbered.field)
  own_field v f none = own_by _ (field_is Own v f none) ∙ own_field_by v.number f.numbered.field.declarator.by_ref (class_shape p i) f.numbered.number (field_type p f.class f.numbered.field)

  pub own_condition : (v : Field) (k : ℕ) (f : IsField p i name v) → v.condition ≡ Some k → own_meant p (Some i) name ≡ condition_meant k (field_type p f.class f.numbered.field)
  own_condition v k f e = own_by (condition_meant k (field_type p f.class f.numbered.field)) (condition_is Own v k f e)

  own_method_by : (m : Option ℕ) (d : Bool) (r : ℕ) → meant_or (method_as p m d Own r).standing (method_as p m d Own r) (item_meant p name) ≡ method_as p m d Own r
  own_method_by (Some m) d r = refl
  own_method_by None d r = refl

  pub own_method : (r : ℕ) → no_field p i name (class_at p i) → member_at p i name (class_at p i) ≡ Some r → own_meant p (Some i) name ≡ method_at p i name Own r
  own_method r h k = own_by (method_at p i name Own r) (method_is Own r h k) ∙ own_method_by (mutex_number_in (class_at p i) name) (is_coroutine_in (class_at p i)) r

  pub own_item : no_field p i name (class_at p i) → member_at p i name (class_at p i) ≡ None → own_meant p (Some i) name ≡ item_meant p name
  own_item h k = own_by no_meaning (none_is Own h k)

-- what is told of a field

field_told : (p : Program) (c : Class) (i : ℕ) (f : NumberedField) (v : Field) (x : Told) (m : Meant) → IsFieldAt p c i f.number f.field v → m.ty ≡ field_type p c f.field → StandsAs x m.standing → Tells p (record v.told { standing = x }) m
field_told p c i f v x m h e s =
    let u = h.tells (record m { standing = held_standing v.number }) e refl in
    record { shape = u.shape; class = u.class; numbered = u.numbered; event = u.event; len = u.len; standing = s }

own_told_by : (p : Program) (c : Class) (i : ℕ) (f : NumberedField) (v : Field) (n b : Bool) → IsFieldAt p c i f.number f.field v → Tells p (record v.told { standing = own_standing n b v.cell }) (field_by n b (class_shape p i) f.number Own (field_type p c f.field))
own_told_by p c i f v true b h = field_told p c i f v standing.Number (field_by true b (class_shape p i) f.number Own (field_type p c f.field)) h refl refl
own_told_by p c i f v false true h = field_told p c i f v standing.Place (field_by false true (class_shape p i) f.number Own (field_type p c f.field)) h refl refl
own_told_by p c i f v false false h = field_told p c i f v (standing.Field v.cell) (field_by false false (class_shape p i) f.number Own (field_type p c f.field)) h refl (Begins (class_shape p i) f.number h.cell)

pub own_told : (p : Program) (i : ℕ) (name : List ℕ) (v : Field) (x : Told) (t : ExprMeaning) → IsField p i name v → v.condition ≡ None → x ≡ own_standing v.number v.by_ref v.cell → t ≡ record v.told { standing = x } → Tells p t (own_meant p (Some i) name)
own_told p i name v x t f none e is =
    subst (λ (y : ExprMeaning). Tells p y (own_meant p (Some i) name)) (sym (is ∙ ap (λ (y : Told). let w : ExprMeaning = record v.told { standing = y } in w) e)) (
    subst (λ (y : Meant). Tells p (record v.told { standing = own_standing v.number v.by_ref v.cell }) y) (sym (own_field p i name v f none)) (
    subst (λ (b : Bool). Tells p (record v.told { standing = own_standing v.number v.by_ref v.cell }) (field_by v.number b (class_shape p i) f.numbered.number Own (field_type p f.class f.numbered.field))) (sym f.at.by_ref) (own_told_by p f.class i f.numbered v v.number v.by_ref f.at)))

-- what is told of a condition
condition_told : (p : Program) (i k : ℕ) (name : List ℕ) (v : Field) (f : IsField p i name v) → Tells p (record v.told { standing = standing.Condition k }) (condition_meant k (field_type p f.class f.numbered.field))
condition_told p i k name v f = field_told p f.class i f.numbered v (standing.Condition k) (condition_meant k (field_type p f.class f.numbered.field)) f.at refl refl

pub own_condition_told : (p : Program) (i k : ℕ) (name : List ℕ) (v : Field) (t : ExprMeaning) → IsField p i name v → v.condition ≡ Some k → t ≡ record v.told { standing = standing.Condition k } → Tells p t (own_meant p (Some i) name)
own_condition_told p i k name v t f e is =
    subst (λ (y : ExprMeaning). Tells p y (own_meant p (Some i) name)) (sym is) (
    subst (λ (y : Meant). Tells p (record v.told { standing = standing.Condition k }) y) (sym (own_condition p i name v k f e)) (condition_told p i k name v f))

own_standing_told : (m : Option ℕ) (d : Bool) (r : ℕ) → StandsAs (member_standing m false r) (path_standing m d Own r)
own_standing_told (Some m) d r = refl
own_standing_told None d r = refl

pub own_method_told : (p : Program) (m : Option ℕ) (d : Bool) (r : ℕ) (u t : ExprMeaning) → ((e : Expr) → Tells p u (record { expr = e; ty = scalar (result_of p r); standing = AsValue })) → t ≡ record u { standing = member_standing m false r } → Tells p t (method_as p m d Own r)
own_method_told p m d r u t h e =
    let v = h (Literal (pos 0)) in
    subst (λ (y : ExprMeaning). Tells p y (method_as p m d Own r)) (sym e) (record { shape = v.shape; class = v.class; numbered = v.numbered; event = v.event; len = v.len; standing = own_standing_told m d r })

standing_told : (m : Option ℕ) (d : Bool) (object : Expr) (r : ℕ) → StandsAs (member_standing m d r) (path_standing m d (Of object) r)
standing_told (Some m) d object r = refl
standing_told None true object r = refl
standing_told None false object r = refl

method_told : (p : Program) (m : Option ℕ) (d : Bool) (r : ℕ) (u t : ExprMeaning) (object : Expr) → ((e : Expr) → Tells p u (record { expr = e; ty = scalar (result_of p r); standing = AsValue })) → t ≡ record u { standing = member_standing m d r } → Tells p t (method_as p m d (Of object) r)
method_told p m d r u t object h e =
    let v = h (Literal (pos 0)) in
    subst (λ (y : ExprMeaning). Tells p y (method_as p m d (Of object) r)) (sym e) (record { shape = v.shape; class = v.class; numbered = v.numbered; event = v.event; len = v.len; standing = standing_told m d object r })

-- what a name of the program stands for is told

pub routine_named : (p : Program) (r : ℕ) (o : Option ℕ) (u t : ExprMeaning) → ((e : Expr) → Tells p u (record { expr = e; ty = scalar (result_of p r); standing = AsValue })) → t ≡ record u { standing = standing.Routine r } → o ≡ Some r → Tells p t (routine_meant_by p o)
routine_named p r o u t h e is =
    let v = h (Literal (pos 0)) in
    subst (λ (x : Option ℕ). Tells p t (routine_meant_by p x)) (sym is) (subst (λ (y : ExprMeaning). Tells p y (routine_meant_by p (Some r))) (sym e) (record { shape = v.shape; class = v.class; numbered = v.numbered; event = v.event; len = v.len; standing = refl }))

pub fixed_named : (p : Program) (name : List ℕ) (v : ConstantMeaning) → IsFixed p name v → Tells p v.told (item_meant p name)
fixed_named p name v f = subst (λ (o : Option Constant). Tells p v.told (constant_meant_by p name o)) (sym f.is) (f.tells _)

-- behind the place of its object, a field, and what it holds
pub arm_plain_field : (line : ℕ) (b : Bool) (k : ℕ) (old new : Draft) → b ≡ false → Adds 1 (OpCode line (op.Field k)) old new → Adds 2 (FieldCode line b k) old new
arm_plain_field line b k old new e h = subst (λ (x : Bool). Adds 2 (FieldCode line x k) old new) (sym e) (adds_more (omega arith) h)

pub arm_held_field : (line : ℕ) (b : Bool) (k : ℕ) (old mid new : Draft) → b ≡ true → Adds 1 (OpCode line (op.Field k)) old mid → Adds 1 (OpCode line op.Load) mid new → Adds 2 (FieldCode line b k) old new
arm_held_field line b k old mid new e h g = subst (λ (x : Bool). Adds 2 (FieldCode line x k) old new) (sym e) (adds_both (one_stable (op.Field k) line) h g)

-- the code of own names
module _ (ms : List CodeMark) (line : ℕ) where
  own_code_by : (b : Bool) (s : Shape) (n k : ℕ) (ty : Ty) (code : Laid) (a z : ℕ) → field_cells s n ≡ k → One code (own_place_op b k) line a z → ExprAt code line ms (field_by_ref b s n Own ty).expr a z
  own_code_by true s n k ty code a z e h = subst (λ (x : ℕ). One code (op.ViaThis x) line a z) (sym e) h
  own_code_by false s n k ty code a z e h = subst (λ (x : ℕ). One code (op.This x) line a z) (sym e) h

  held_code_by : (n b : Bool) (s : Shape) (j k : ℕ) (ty : Ty) (code : Laid) (a z : ℕ) → field_cells s j ≡ k → One code (own_place_op (n || b) k) line a z → ExprAt code line ms (field_by n b s j Own ty).expr a z
  held_code_by true b s j k ty code a z e h = subst (λ (x : ℕ). One code (op.ViaThis x) line a z) (sym e) h
  held_code_by false b s j k ty code a z e h = own_code_by b s j k ty code a z e h

  pub own_code : (p : Program) (i : ℕ) (name : List ℕ) (v : Field) (held : Bool) (o : Op) (old new : Draft) → IsField p i name v → v.condition ≡ None → held ≡ (v.number || v.by_ref) → o ≡ own_place_op held v.cell → Adds 1 (OpCode line o) old new → Adds 1 (ExprCode line ms (own_meant p (Some i) name).expr) old new
  own_code p i name v held o old new f none is e h =
      subst (λ (m : Meant). Adds 1 (ExprCode line ms m.expr) old new) (sym (own_field p i name v f none)) (
      adds_as h (λ code a z w. held_code_by v.number f.numbered.field.declarator.by_ref (class_shape p i) f.numbered.number v.cell (field_type p f.class f.numbered.field) code a z f.at.cell (
      subst (λ (b : Bool). One code (own_place_op (v.number || b) v.cell) line a z) (sym f.at.by_ref) (
      subst (λ (b : Bool). One code (own_place_op b v.cell) line a z) is (subst (λ (x : Op). One code x line a z) e w)))))

  pub own_condition_code : (p : Program) (i k : ℕ) (n : ℤ) (name : List ℕ) (v : Field) (old new : Draft) → IsField p i name v → v.condition ≡ Some k → n ≡ pos k → Adds 1 (OpCode line (op.Push n)) old new → Adds 1 (ExprCode line ms (own_meant p (Some i) name).expr) old new
  own_condition_code p i k n name v old new f e is h =
      subst (λ (m : Meant). Adds 1 (ExprCode line ms m.expr) old new) (sym (own_condition p i name v k f e)) (subst (λ (x : ℤ). Adds 1 (OpCode line (op.Push x)) old new) is h)

  pub arm_condition : (p : Program) (i a k : ℕ) (n : ℤ) (name : List ℕ) (v : Field) (s t : ExprMeaning) (old new : Draft) → a ≤ length old.ops → IsField p i name v → v.condition ≡ Some k → n ≡ pos k → t ≡ record v.told { standing = standing.Condition k } → Restarts (op.Push n) line a old new → Grows p OPS_FOR_SIZE line ms a (λ m. member_meant p i (Of m.expr) name) s t old new
  arm_condition p i a k n name v s t old new l f e is q h =
      grows_restart OPS_FOR_SIZE line ms a (λ m. member_meant p i (Of m.expr) name) s t (op.Push n) old new (omega arith) l h
      (λ m u. subst (λ (y : ExprMeaning). Tells p y (member_meant p i (Of m.expr) name)) (sym q) (subst (λ (y : Meant). Tells p (record v.told { standing = standing.Condition k }) y) (sym (condition_is p i name (Of m.expr) v k f e)) (condition_told p i k name v f)))
      (λ m u code z w. subst (λ (y : Meant). ExprAt code line ms y.expr a z) (sym (condition_is p i name (Of m.expr) v k f e)) (subst (λ (x : ℤ). One code (op.Push x) line a z) is w))

  pub own_method_code : (p : Program) (i r : ℕ) (name : List ℕ) (old new : Draft) → no_field p i name (class_at p i) → member_at p i name (class_at p i) ≡ Some r → Adds 1 (OpCode line op.Own) old new → Adds 1 (ExprCode line ms (own_meant p (Some i) name).expr) old new
  own_method_code p i r name old new h k w = subst (λ (m : Meant). Adds 1 (ExprCode line ms m.expr) old new) (sym (own_method p i name r h k)) w

  ref_code_by : (b : Bool) (s : Shape) (n k : ℕ) (ty : Ty) (e : Expr) (code : Laid) (a c z : ℕ) → field_cells s n ≡ k → ExprAt code line ms e a c → FieldCode line b k code c z → ExprAt code line ms (field_by_ref b s n (Of e) ty).expr a z
  ref_code_by false s n k ty e code a c z is h g = record { middle = c; first = h; second = subst (λ (x : ℕ). One code (op.Field x) line c z) (sym is) g }
  ref_code_by true s n k ty e code a c z is h g = record { middle = g.middle; first = record { middle = c; first = h; second = subst (λ (x : ℕ). One code (op.Field x) line c g.middle) (sym is) g.first }; second = g.second }

  field_code_by : (m b : Bool) (s : Shape) (n k : ℕ) (ty : Ty) (e : Expr) (code : Laid) (a c z : ℕ) → field_cells s n ≡ k → ExprAt code line ms e a c → FieldCode line (m || b) k code c z → ExprAt code line ms (field_by m b s n (Of e) ty).expr a z
  field_code_by true b s n k ty e code a c z is h g = ref_code_by true s n k ty e code a c z is h g
  field_code_by false b s n k ty e code a c z is h g = ref_code_by b s n k ty e code a c z is h g

  place_by : (m b : Bool) (s : Shape) (n : ℕ) (e : Expr) (ty : Ty) → (field_by m b s n (Of e) ty).standing ≡ held_standing m
  place_by true b s n e ty = refl
  place_by false true s n e ty = refl
  place_by false false s n e ty = refl

  type_by : (m b : Bool) (s : Shape) (n : ℕ) (e : Expr) (ty : Ty) → (field_by m b s n (Of e) ty).ty ≡ ty
  type_by true b s n e ty = refl
  type_by false true s n e ty = refl
  type_by false false s n e ty = refl

  pub arm_field : (p : Program) (i a : ℕ) (name : List ℕ) (v : Field) (s : ExprMeaning) (old new : Draft) → a ≤ length old.ops → IsField p i name v → v.condition ≡ None → Adds 2 (FieldCode line (v.number || v.by_ref) v.cell) old new → Grows p OPS_FOR_SIZE line ms a (λ m. member_meant p i (Of m.expr) name) s v.told old new
  arm_field p i a name v s old new l f none h =
      let b = f.numbered.field.declarator.by_ref in
      let ty = field_type p f.class f.numbered.field in
      grows_adds OPS_FOR_SIZE line ms a (λ m. member_meant p i (Of m.expr) name) s v.told (FieldCode line (v.number || v.by_ref) v.cell) old new l (adds_more (omega arith) h)
      (λ m u. subst (λ (x : Meant). Tells p v.told x) (sym (field_is p i name (Of m.expr) v f none)) (f.at.tells (field_by v.number b (class_shape p i) f.numbered.number (Of m.expr) ty) (type_by v.number b (class_shape p i) f.numbered.number m.expr ty) (place_by v.number b (class_shape p i) f.numbered.number m.expr ty)))
      (λ m u code c z w g. subst (λ (x : Meant). ExprAt code line ms x.expr a z) (sym (field_is p i name (Of m.expr) v f none)) (
      field_code_by v.number b (class_shape p i) f.numbered.number v.cell ty m.expr code a c z f.at.cell w (subst (λ (y : Bool). FieldCode line (v.number || y) v.cell code c z) (sym f.at.by_ref) g)))

  pub arm_method : (p : Program) (i a r : ℕ) (name : List ℕ) (s u t : ExprMeaning) (old : Draft) → a ≤ length old.ops → no_field p i name (class_at p i) → member_at p i name (class_at p i) ≡ Some r → ((e : Expr) → Tells p u (record { expr = e; ty = scalar (result_of p r); standing = AsValue })) → t ≡ record u { standing = member_standing (mutex_number_in (class_at p i) name) (is_coroutine_in (class_at p i)) r } → Grows p OPS_FOR_SIZE line ms a (λ m. member_meant p i (Of m.expr) name) s t old old
  arm_method p i a r name s u t old l h k g e = record {
    rest = refl;
    front = record { same = λ j o n x y w. w; chains = λ next x w. refl; handlers = λ k e w. w };
    past = l;
    room = omega arith;
    code = λ m st. record {
      tells = subst (λ (x : Meant). Tells p t x) (sym (method_is p i name (Of m.expr) r h k)) (method_told p (mutex_number_in (class_at p i) name) (is_coroutine_in (class_at p i)) r u t m.expr g e);
      code = subst (λ (x : Meant). ExprAt (record { ops = old.ops; rows = old.rows }) line ms x.expr a (length old.ops)) (sym (method_is p i name (Of m.expr) r h k)) st.code;
    };
  }

-- what has no member

pub array_none : (p : Program) (name : List ℕ) (s : ExprMeaning) (n : ℕ) → s.elements ≡ Some n → (m : Meant) → Tells p s m → place_member p m.ty.len m name ≡ no_meaning
array_none p name s n e m u = ap (λ (o : Option ℕ). place_member p o m name) (u.len ∙ e)

-- whose members it has
members_by : (p : Program) (s : ExprMeaning) (o : Option ℕ) → class_or_event s.class s.event ≡ o → (m : Meant) → Tells p s m → class_or_event (class_made (making p m.ty.base)) (event_place p m.ty.base) ≡ o
members_by p s o e m u = ap (λ (x : Option ℕ). class_or_event x (event_place p m.ty.base)) u.class ∙ ap (class_or_event s.class) u.event ∙ e

pub scalar_none : (p : Program) (name : List ℕ) (s : ExprMeaning) → s.elements ≡ None → class_or_event s.class s.event ≡ None → (m : Meant) → Tells p s m → place_member p m.ty.len m name ≡ no_meaning
scalar_none p name s e k m u = ap (λ (o : Option ℕ). place_member p o m name) (u.len ∙ e) ∙ ap (λ (o : Option ℕ). object_member p o m.expr name) (members_by p s None k m u)

pub object_is : (p : Program) (name : List ℕ) (s : ExprMeaning) (i : ℕ) → s.elements ≡ None → class_or_event s.class s.event ≡ Some i → (m : Meant) → Tells p s m → place_member p m.ty.len m name ≡ member_meant p i (Of m.expr) name
object_is p name s i e k m u = ap (λ (o : Option ℕ). place_member p o m name) (u.len ∙ e) ∙ ap (λ (o : Option ℕ). object_member p o m.expr name) (members_by p s (Some i) k m u)

-- from the same of what is told
pub grows_told : {p : Program} {n line : ℕ} {ms : List CodeMark} {a : ℕ} {f g : Meant → Meant} {s t : ExprMeaning} {old new : Draft} → ((m : Meant) → Tells p s m → f m ≡ g m) → Grows p n line ms a f s t old new → Grows p n line ms a g s t old new
grows_told {p} {n} {line} {ms} {a} {f} {g} {s} {t} {old} {new} e h = record {
  rest = h.rest;
  front = h.front;
  past = h.past;
  room = h.room;
  code = λ m st. let w = h.code m st in record {
    tells = subst (λ (x : Meant). Tells p t x) (e m st.tells) w.tells;
    code = subst (λ (x : Meant). ExprAt (record { ops = new.ops; rows = new.rows }) line ms x.expr a (length new.ops)) (e m st.tells) w.code;
  };
}

pub grown_told : {E : Type 0} (r : Result ExprMeaning E) (p : Program) (n line : ℕ) (ms : List CodeMark) (a : ℕ) (f g : Meant → Meant) (s : ExprMeaning) (old new : Draft) → ((m : Meant) → Tells p s m → f m ≡ g m) → IfOk r (λ t. Grows p n line ms a f s t old new) → IfOk r (λ t. Grows p n line ms a g s t old new)
grown_told (Ok t) p n line ms a f g s old new e h = grows_told e h
grown_told (Err x) p n line ms a f g s old new e h = tt

-- a field or a member by what the root stands for

-- what no part stands behind
no_parts_by : (p : Program) (name : List ℕ) (x : Told) → ((o : Standing) (m : Meant) → StandsAs x o → part_by p o m name ≡ no_meaning) → (s : ExprMeaning) → s.standing ≡ x → (m : Meant) → Tells p s m → field_meant p m name ≡ no_meaning
no_parts_by p name x none s e m u = none m.standing m (stands s m x u e)

pub no_part : {E : Type 0} (r : Result ExprMeaning E) (p : Program) (ms : List CodeMark) (line a : ℕ) (name : List ℕ) (x : Told) (s : ExprMeaning) (old new : Draft) → a ≤ length old.ops → s.standing ≡ x → ((o : Standing) (m : Meant) → StandsAs x o → part_by p o m name ≡ no_meaning) → OnOk r (Restarts (op.Push (pos 0)) line a old new) → IfOk r (λ t. t ≡ record { scalar = shape.Number; class = None; numbered = false; event = None; elements = None; standing = standing.Nothing }) → IfOk r (λ t. Grows p OPS_FOR_SIZE line ms a (λ m. field_meant p m name) s t old new)
no_part r p ms line a name x s old new l e none h q = put_for_nothing ms r p OPS_FOR_SIZE line a (λ m. field_meant p m name) s old new (omega arith) l (no_parts_by p name x none s e) h q

-- places have the members of their objects

variable_part : (p : Program) (name : List ℕ) (k : ℕ) (s : ExprMeaning) → s.standing ≡ standing.Variable k → (m : Meant) → Tells p s m → place_member p m.ty.len m name ≡ field_meant p m name
variable_part p name k s e m u = sym (ap (λ (o : Standing). part_by p o m name) (stands s m (standing.Variable k) u e))

field_part_by : (p : Program) (name : List ℕ) (k : ℕ) (o : Standing) (m : Meant) → FieldAt k o → place_member p m.ty.len m name ≡ part_by p o m name
field_part_by p name k o m (Begins t i e) = refl

number_part : (p : Program) (name : List ℕ) (s : ExprMeaning) → s.standing ≡ standing.Number → (m : Meant) → Tells p s m → place_member p m.ty.len m name ≡ field_meant p m name
number_part p name s e m u = sym (ap (λ (o : Standing). part_by p o m name) (stands s m standing.Number u e))

place_part : (p : Program) (name : List ℕ) (s : ExprMeaning) → s.standing ≡ standing.Place → (m : Meant) → Tells p s m → place_member p m.ty.len m name ≡ field_meant p m name
place_part p name s e m u = sym (ap (λ (o : Standing). part_by p o m name) (stands s m standing.Place u e))

pub variable_member : {E : Type 0} (r : Result ExprMeaning E) (p : Program) (n line : ℕ) (ms : List CodeMark) (a k : ℕ) (name : List ℕ) (s : ExprMeaning) (old new : Draft) → s.standing ≡ standing.Variable k → IfOk r (λ t. Grows p n line ms a (λ m. place_member p m.ty.len m name) s t old new) → IfOk r (λ t. Grows p n line ms a (λ m. field_meant p m name) s t old new)
variable_member r p n line ms a k name s old new e h = grown_told r p n line ms a (λ m. place_member p m.ty.len m name) (λ m. field_meant p m name) s old new (variable_part p name k s e) h

pub field_member : {E : Type 0} (r : Result ExprMeaning E) (p : Program) (n line : ℕ) (ms : List CodeMark) (a k : ℕ) (name : List ℕ) (s : ExprMeaning) (old new : Draft) → s.standing ≡ standing.Field k → IfOk r (λ t. Grows p n line ms a (λ m. place_member p m.ty.len m name) s t old new) → IfOk r (λ t. Grows p n line ms a (λ m. field_meant p m name) s t old new)
field_member r p n line ms a k name s old new e h = grown_told r p n line ms a (λ m. place_member p m.ty.len m name) (λ m. field_meant p m name) s old new (λ m u. field_part_by p name k m.standing m (stands s m (standing.Field k) u e)) h

pub at_place_member : {E : Type 0} (r : Result ExprMeaning E) (p : Program) (n line : ℕ) (ms : List CodeMark) (a : ℕ) (name : List ℕ) (s : ExprMeaning) (old new : Draft) → s.standing ≡ standing.Place → IfOk r (λ t. Grows p n line ms a (λ m. place_member p m.ty.len m name) s t old new) → IfOk r (λ t. Grows p n line ms a (λ m. field_meant p m name) s t old new)
at_place_member r p n line ms a name s old new e h = grown_told r p n line ms a (λ m. place_member p m.ty.len m name) (λ m. field_meant p m name) s old new (place_part p name s e) h

pub number_member : {E : Type 0} (r : Result ExprMeaning E) (p : Program) (n line : ℕ) (ms : List CodeMark) (a : ℕ) (name : List ℕ) (s : ExprMeaning) (old new : Draft) → s.standing ≡ standing.Number → IfOk r (λ t. Grows p n line ms a (λ m. place_member p m.ty.len m name) s t old new) → IfOk r (λ t. Grows p n line ms a (λ m. field_meant p m name) s t old new)
number_member r p n line ms a name s old new e h = grown_told r p n line ms a (λ m. place_member p m.ty.len m name) (λ m. field_meant p m name) s old new (number_part p name s e) h

-- a condition has calls

condition_part : (p : Program) (name : List ℕ) (k : ℕ) (s : ExprMeaning) → s.standing ≡ standing.Condition k → (m : Meant) → Tells p s m → field_meant p m name ≡ call_of_condition m (condition_call name)
condition_part p name k s e m u = ap (λ (o : Standing). part_by p o m name) (stands s m (standing.Condition k) u e)

pub called_by : (name : List ℕ) (r o : Option TheCall) → option_map call_of r ≡ condition_call name → r ≡ o → option_map call_of o ≡ condition_call name
called_by name r o h e = ap (option_map call_of) (sym e) ∙ h

pub arm_named_call : (p : Program) (ms : List CodeMark) (line a k : ℕ) (c : TheCall) (name : List ℕ) (s t : ExprMeaning) (old : Draft) → a ≤ length old.ops → s.standing ≡ standing.Condition k → Some (call_of c) ≡ condition_call name → t ≡ record { scalar = shape.Number; class = None; numbered = false; event = None; elements = None; standing = standing.CallOf c } → Grows p OPS_FOR_SIZE line ms a (λ m. field_meant p m name) s t old old
arm_named_call p ms line a k c name s t old l e h q = record {
  rest = refl;
  front = record { same = λ j o n x y w. w; chains = λ next x w. refl; handlers = λ k e w. w };
  past = l;
  room = omega arith;
  code = λ m st.
      let is : field_meant p m name ≡ call_of_condition m (Some (call_of c)) = condition_part p name k s e m st.tells ∙ ap (call_of_condition m) (sym h) in
      record {
        tells = subst (λ (x : Meant). Tells p t x) (sym is) (subst (λ (y : ExprMeaning). Tells p y (call_of_condition m (Some (call_of c)))) (sym q) (record { shape = refl; class = refl; numbered = refl; event = refl; len = refl; standing = refl }));
        code = subst (λ (x : Meant). ExprAt (record { ops = old.ops; rows = old.rows }) line ms x.expr a (length old.ops)) (sym is) st.code;
      };
}

-- `cin` has one member

input_by : (p : Program) (b : Bool) → Tells p (if b then record { scalar = shape.Truth; class = None; numbered = false; event = None; elements = None; standing = standing.Fail } else record { scalar = shape.Number; class = None; numbered = false; event = None; elements = None; standing = standing.Nothing }) (if b then record { expr = Literal (pos 0); ty = bool_type; standing = AsFail } else no_meaning)
input_by p true = record { shape = refl; class = refl; numbered = refl; event = refl; len = refl; standing = refl }
input_by p false = record { shape = refl; class = refl; numbered = refl; event = refl; len = refl; standing = refl }

input_code : (ms : List CodeMark) (line : ℕ) (b : Bool) (code : Laid) (a z : ℕ) → One code (op.Push (pos 0)) line a z → ExprAt code line ms (if b then record { expr = Literal (pos 0); ty = bool_type; standing = AsFail } else no_meaning).expr a z
input_code ms line true code a z h = h
input_code ms line false code a z h = h

arm_input : (p : Program) (ms : List CodeMark) (line a : ℕ) (name : List ℕ) (s t : ExprMeaning) (old new : Draft) → a ≤ length old.ops → s.standing ≡ standing.Input → t ≡ input_told name → Restarts (op.Push (pos 0)) line a old new → Grows p OPS_FOR_SIZE line ms a (λ m. field_meant p m name) s t old new
arm_input p ms line a name s t old new l e q h =
    grows_restart OPS_FOR_SIZE line ms a (λ m. field_meant p m name) s t (op.Push (pos 0)) old new (omega arith) l h
    (λ m u. subst (λ (o : Standing). Tells p t (part_by p o m name)) (sym (stands s m standing.Input u e)) (subst (λ (y : ExprMeaning). Tells p y (part_by p AsInput m name)) (sym q) (input_by p (same_name name fail_name))))
    (λ m u code z w. subst (λ (o : Standing). ExprAt code line ms (part_by p o m name).expr a z) (sym (stands s m standing.Input u e)) (input_code ms line (same_name name fail_name) code a z w))

pub input_member : {E : Type 0} (r : Result ExprMeaning E) (p : Program) (ms : List CodeMark) (line a : ℕ) (name : List ℕ) (s : ExprMeaning) (old new : Draft) → a ≤ length old.ops → s.standing ≡ standing.Input → OnOk r (Restarts (op.Push (pos 0)) line a old new) → IfOk r (λ t. t ≡ input_told name) → IfOk r (λ t. Grows p OPS_FOR_SIZE line ms a (λ m. field_meant p m name) s t old new)
input_member (Ok t) p ms line a name s old new l e h q = arm_input p ms line a name s t old new l e q h
input_member (Err x) p ms line a name s old new l e h q = tt
