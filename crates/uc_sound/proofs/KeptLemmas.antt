-- How elements of arrays are kept in a program that breaks no rule, and what stands at the fields of events.
use Rattle.std.proofs.Common.{◌≡◌, ℕ, zero, suc, ◌+◌, ◌-◌, ◌++◌, ◌⊎◌, inl, inr, List, [], ◌∷◌, Option, Some, None, Bool, true, false, refl, sym, ap, ◌∙◌, subst}
use Rattle.std.specs.Prelude.{◌&&◌, not, is_some, slice_get, nat_lt, if◌then◌else◌}
use Rattle.std.specs.List.{list_all}
use Rattle.uc_tree.specs.declared.kinds.Base.{Base}
use Rattle.uc_tree.specs.declared.kinds.Base.TheVariants as base
use Rattle.uc_tree.specs.declared.kinds.Kind.{Kind}
use Rattle.uc_tree.specs.declared.kinds.Kind.TheVariants as kind
use Rattle.uc_tree.specs.declared.rows.FieldClass.{FieldClass}
use Rattle.uc_tree.specs.Expressions as expr
use Rattle.uc_tree.specs.Names.{same_name}
use Rattle.uc_tree.specs.Cells.{classes_of, leading_cells, object_of_kind, object_named, seen_in}
use Rattle.uc_tree.specs.Constants.{constants_of, elements}
use Rattle.uc_tree.specs.Numbering.{is_event, is_mutex}
use Rattle.uc_tree.specs.Objects.{ClassField, declared_fields, form_fields, fields_of, class_at, class_shape, kept_shape, base_shape, has_execution}
use Rattle.uc_tree.specs.Statements.{Declarator}
use Rattle.uc_tree.specs.Programs.{MemberForm, FieldsMember, RoutineMember, ProtoMember, Member, Class, Program}
use Rattle.uc_rules.specs.declared.rules.Sort.{Sort}
use Rattle.uc_rules.specs.declared.rules.Sort.TheVariants as sort
use Rattle.uc_rules.specs.ClassBreaks.{is_event_field, has_event_fields, is_event_member, may_be_scalar}
use Rattle.uc_rules.specs.ProgramVisits.{program_visits}
use Rattle.uc_rules.specs.Sorts.{is_scalar_sort, class_sort, sort_of}
use Rattle.uc_typing.specs.Typing.{Ty, Num, Obj, Table, IsScalarPlace, IsBare, IsKept}
use Rattle.uc_sound.specs.Agreement.{place_by, place_ty}
use Rattle.uc_sound.specs.Fields.{field_ty}
use Rattle.uc_sound.specs.Unbroken.{Unbroken}
use Rattle.uc_sound.proofs.Ties.{some_same, none_some, false_true}
use Rattle.uc_sound.specs.SoundFormed.{IsFormed}
use Rattle.uc_sound.specs.Tables.{of_kind, known_field, listed_field, class_field, table_of}
use Rattle.uc_sound.proofs.Lists.{left_is, right_is, all_from}
use Rattle.uc_sound.proofs.ClassNames.{class_of_base}
use Rattle.uc_sound.proofs.RoutineLemmas.{event_sound}

-- a class of a name is an object of its kind
pub named_object : (cs : List Class) (i : ℕ) (name : List ℕ) (s : Sort) → class_sort cs i name ≡ Some s → (j : ℕ) × (k : Kind) × (s ≡ sort.Object j k) × (object_named cs i name ≡ object_of_kind j k)
named_object [] i name s h = none_some h
named_object (c ∷ cs) i name s h = by (same_name c.name name) (named_object cs (i + 1) name s) h
  where
    by : (b : Bool) → (class_sort cs (i + 1) name ≡ Some s → (j : ℕ) × (k : Kind) × (s ≡ sort.Object j k) × (object_named cs (i + 1) name ≡ object_of_kind j k)) → (if b then Some (sort.Object i c.kind) else class_sort cs (i + 1) name) ≡ Some s → (j : ℕ) × (k : Kind) × (s ≡ sort.Object j k) × ((if b then object_of_kind i c.kind else object_named cs (i + 1) name) ≡ object_of_kind j k)
    by true f q = (i, c.kind, sym (some_same q), refl)
    by false f q = f q

-- what stands in one of two lists
either_list : {A : Type 0} (xs ys : List A) (n : ℕ) (x : A) → slice_get (xs ++ ys) n ≡ Some x → ((m : ℕ) × (slice_get xs m ≡ Some x)) ⊎ ((m : ℕ) × (slice_get ys m ≡ Some x))
either_list [] ys n x e = inr (n, e)
either_list (z ∷ xs) ys zero x e = inl (0, e)
either_list (z ∷ xs) ys (suc n) x e = by (either_list xs ys n x e)
  where
    by : ((m : ℕ) × (slice_get xs m ≡ Some x)) ⊎ ((m : ℕ) × (slice_get ys m ≡ Some x)) → ((m : ℕ) × (slice_get (z ∷ xs) m ≡ Some x)) ⊎ ((m : ℕ) × (slice_get ys m ≡ Some x))
    by (inl h) = inl (suc h.0, h.1)
    by (inr h) = inr h

module _ (p : Program) where
  -- the first cell of what has an execution is no field
  pub leads : (o : Option Class) → of_kind has_execution o ≡ true → class_field p o 0 ≡ Num
  leads None e = refl
  leads (Some c) e = by c.kind e
    where
      by : (k : Kind) → has_execution k ≡ true → (if nat_lt 0 (leading_cells k) then Num else listed_field p c (slice_get (fields_of c.members) (0 - leading_cells k))) ≡ Num
      by kind.Coroutine e = refl
      by kind.Cormonitor e = refl
      by kind.Class e = false_true e
      by kind.Monitor e = false_true e
      by kind.Task e = false_true e
      by kind.Event e = false_true e

  -- the fields that members of an event declare
  abbrev IsEventField : ClassField → Type 0
  IsEventField f = is_event_field p f.base f.declarator ≡ true

  declared_event : (b : Base) (ds : List Declarator) (n : ℕ) (f : ClassField) → list_all (is_event_field p b) ds ≡ true → slice_get (declared_fields b ds) n ≡ Some f → IsEventField f
  declared_event b [] n f h e = none_some e
  declared_event b (d ∷ ds) zero f h e = subst IsEventField (some_same e) (left_is (is_event_field p b d) _ h)
  declared_event b (d ∷ ds) (suc n) f h e = declared_event b ds n f (right_is (is_event_field p b d) _ h) e

  form_event : (form : MemberForm) (n : ℕ) (f : ClassField) → has_event_fields p form ≡ true → slice_get (form_fields form) n ≡ Some f → IsEventField f
  form_event (FieldsMember at b ds) n f h e = declared_event b ds n f h e
  form_event (RoutineMember r) n f h e = none_some e
  form_event (ProtoMember sig) n f h e = none_some e

  members_event : (ms : List Member) (n : ℕ) (f : ClassField) → list_all (λ (m : Member). has_event_fields p m.form) ms ≡ true → slice_get (fields_of ms) n ≡ Some f → IsEventField f
  members_event [] n f h e = none_some e
  members_event (m ∷ ms) n f h e =
      by (either_list (form_fields m.form) (fields_of ms) n f e) (λ k q. members_event ms k f (right_is (has_event_fields p m.form) _ h) q)
    where
      by : ((k : ℕ) × (slice_get (form_fields m.form) k ≡ Some f)) ⊎ ((k : ℕ) × (slice_get (fields_of ms) k ≡ Some f)) → ((k : ℕ) → slice_get (fields_of ms) k ≡ Some f → IsEventField f) → IsEventField f
      by (inl q) rest = form_event m.form q.0 f (left_is (has_event_fields p m.form) _ h) q.1
      by (inr q) rest = rest q.0 q.1

  -- such a field is a scalar
  scalar_sort : (s : Sort) → is_scalar_sort s ≡ true → IsScalarPlace (place_ty s)
  scalar_sort sort.Int h = tt
  scalar_sort sort.Char h = tt
  scalar_sort sort.Bool h = tt
  scalar_sort sort.Void h = tt
  scalar_sort sort.Condition h = tt
  scalar_sort sort.Cluster h = false_true h
  scalar_sort sort.Processor h = false_true h
  scalar_sort (sort.Object i k) h = false_true h

  typed_scalar : (r : Bool) (l : Option expr.Expr) (n : ℕ) (s : Sort) → (not r && not (is_some l)) ≡ true → is_scalar_sort s ≡ true → IsScalarPlace (field_ty r l n s)
  typed_scalar true l n s h q = false_true h
  typed_scalar false None n s h q = scalar_sort s q
  typed_scalar false (Some e) n s h q = false_true h

  known_scalar : (c : Class) (f : ClassField) (o : Option Sort) → (may_be_scalar o && (not f.declarator.by_ref && not (is_some f.declarator.len))) ≡ true → IsScalarPlace (known_field p c f o)
  known_scalar c f None h = tt
  known_scalar c f (Some s) h =
      typed_scalar f.declarator.by_ref f.declarator.len (elements (seen_in (constants_of p.items) c) f.declarator) s (right_is (is_scalar_sort s) _ h) (left_is (is_scalar_sort s) _ h)

  listed_scalar : (c : Class) (o : Option ClassField) → ((f : ClassField) → o ≡ Some f → IsEventField f) → IsScalarPlace (listed_field p c o)
  listed_scalar c None h = tt
  listed_scalar c (Some f) h = known_scalar c f (sort_of p f.base) (h f refl)

  -- one element of objects of a kind
  kind_kept : (i : ℕ) (k : Kind) (b : Base) (o : Option FieldClass) → o ≡ object_of_kind i k → (is_event k ≡ true → IsBare (table_of p) (Obj i)) → IsKept (table_of p) (kept_shape (class_shape p) o b) (place_by (is_mutex k) (Obj i))
  kind_kept i kind.Class b o e v = inl (ap (λ o. kept_shape (class_shape p) o b) e)
  kind_kept i kind.Coroutine b o e v = inl (ap (λ o. kept_shape (class_shape p) o b) e)
  kind_kept i kind.Monitor b o e v = inl (ap (λ o. kept_shape (class_shape p) o b) e)
  kind_kept i kind.Cormonitor b o e v = inl (ap (λ o. kept_shape (class_shape p) o b) e)
  kind_kept i kind.Task b o e v = inl (ap (λ o. kept_shape (class_shape p) o b) e)
  kind_kept i kind.Event b o e v = inr (v refl)

module _ (p : Program) (formed : IsFormed p) (u : Unbroken (program_visits p)) where
  -- an event has scalars alone
  pub bare : (i : ℕ) (c : Class) → class_at p i ≡ Some c → is_event c.kind ≡ true → IsBare (table_of p) (Obj i)
  bare i c e v n = subst (λ o. IsScalarPlace (class_field p o n)) (sym e) (by (nat_lt n (leading_cells c.kind)))
    where
      fields : list_all (λ (m : Member). has_event_fields p m.form) c.members ≡ true
      fields = left_is (list_all (λ (m : Member). has_event_fields p m.form) c.members) _ (right_is (list_all (λ (m : Member). is_event_member p c m.form) c.members) _ (event_sound p formed u i c e v))

      by : (b : Bool) → IsScalarPlace (if b then Num else listed_field p c (slice_get (fields_of c.members) (n - leading_cells c.kind)))
      by true = tt
      by false = listed_scalar p c (slice_get (fields_of c.members) (n - leading_cells c.kind)) (λ f q. members_event p c.members (n - leading_cells c.kind) f fields q)

  -- an element is kept as its class is
  pub shapes : (b : Base) (s : Sort) → sort_of p b ≡ Some s → IsKept (table_of p) (base_shape p b) (place_ty s)
  shapes base.Void s e = subst (λ s. IsKept (table_of p) (base_shape p base.Void) (place_ty s)) (some_same e) (inr tt)
  shapes base.Int s e = subst (λ s. IsKept (table_of p) (base_shape p base.Int) (place_ty s)) (some_same e) (inr tt)
  shapes base.Char s e = subst (λ s. IsKept (table_of p) (base_shape p base.Char) (place_ty s)) (some_same e) (inr tt)
  shapes base.Bool s e = subst (λ s. IsKept (table_of p) (base_shape p base.Bool) (place_ty s)) (some_same e) (inr tt)
  shapes base.Condition s e = subst (λ s. IsKept (table_of p) (base_shape p base.Condition) (place_ty s)) (some_same e) (inr tt)
  shapes base.Cluster s e = subst (λ s. IsKept (table_of p) (base_shape p base.Cluster) (place_ty s)) (some_same e) (inr tt)
  shapes base.Processor s e = subst (λ s. IsKept (table_of p) (base_shape p base.Processor) (place_ty s)) (some_same e) (inr tt)
  shapes (base.Named name) s e =
      let x = named_object (classes_of p.items) 0 name s e in
      subst (λ s. IsKept (table_of p) (base_shape p (base.Named name)) (place_ty s)) (sym x.2) (kind_kept p x.0 x.1 (base.Named name) (object_named (classes_of p.items) 0 name) x.3 (λ v. let c = class_of_base p (base.Named name) x.0 x.1 (e ∙ ap Some x.2) in bare x.0 c.0 c.1 (ap is_event c.2 ∙ v)))
