-- Both look-ups of a field find the same one, which is at its place.
use Rattle.std.proofs.Common.{◌≡◌, ℕ, ℤ, suc, ◌+◌, ◌++◌, inl, inr, List, [], ◌∷◌, Option, Some, None, Bool, true, false, refl, sym, ap, ◌∙◌, subst, arith}
use Rattle.std.specs.Prelude.{◌&&◌, if◌then◌else◌, slice_get, option_map}
use Rattle.uc_tree.specs.declared.kinds.Access.{Access}
use Rattle.uc_tree.specs.declared.kinds.MutexMark.{MutexMark}
use Rattle.uc_tree.specs.declared.kinds.Base.{Base}
use Rattle.uc_tree.specs.declared.kinds.Base.TheVariants as base
use Rattle.uc_tree.specs.declared.kinds.Ty.{Ty as Declared}
use Rattle.uc_tree.specs.Names.{same_name}
use Rattle.uc_tree.specs.Numbering.{is_plain}
use Rattle.uc_tree.specs.Cells.{classes_of, leading_cells, seen_in}
use Rattle.uc_tree.specs.Constants.{constants_of, elements}
use Rattle.uc_tree.specs.Expressions as expr
use Rattle.uc_tree.specs.Statements.{Declarator}
use Rattle.uc_tree.specs.Objects.{ClassField, declared_fields, form_fields, fields_of, class_at, class_shape, making, is_numbered as is_made_numbered}
use Rattle.uc_tree.specs.Programs.{MemberForm, FieldsMember, RoutineMember, ProtoMember, Member, Class, Program}
use Rattle.uc_tree.specs.Source.{Expr}
use Rattle.uc_resolve.specs.Standings as tree
use Rattle.uc_resolve.specs.Standings.{AtPlace, AsNumber}
use Rattle.uc_rules.specs.declared.rules.Sort.{Sort}
use Rattle.uc_rules.specs.declared.rules.Sort.TheVariants as sort
use Rattle.uc_rules.specs.declared.rules.Entity.{Entity}
use Rattle.uc_rules.specs.declared.rules.Entity.TheVariants as entity
use Rattle.uc_rules.specs.declared.rules.NameMeaning.{NameMeaning}
use Rattle.uc_rules.specs.Sorts.{is_condition, class_sort, sort_of}
use Rattle.uc_rules.specs.Entities.{is_of_conditions}
use Rattle.uc_tree.specs.declared.kinds.Kind.{Kind}
use Rattle.uc_rules.specs.ClassBreaks.{is_by_ref}
use Rattle.uc_rules.specs.Names as rules
use Rattle.uc_rules.specs.Names.{Owned, first_of, place_in, variable, declared_entity, member_named}
use Rattle.uc_rules.specs.OwnerBreaks.{is_field_origin, is_condition_of, names_condition}
use Rattle.uc_typing.specs.Typing.{Ty, Num, Cell, Obj, Row, Name, Sig, Table, IsPlaced, InMutex, Yields}
use Rattle.uc_sound.specs.Agreement.{is_numbered, found_ty, place_by, place_ty, row_ty, IsAtPlace, StandsBy, RowPlaced, IsOf, ValuedBy, Agrees, AgreesIf}
use Rattle.uc_sound.specs.Fields.{field_ty, TellsClass, LawFields}
use Rattle.uc_sound.proofs.Ties.{some_same, none_some, false_true, scalar_cell, scalar_unnumbered, numbered_is}

-- a field that is found, from a number on, as the rules' look-up tells it
pub record Found (p : Program) (c : Class) (name : List ℕ) (x : NameMeaning) (k : ℕ) (fs : List ClassField) : Type 0 where
  pub n : ℕ
  pub field : ClassField
  pub at : slice_get fs n ≡ Some field
  pub named : tree.field_named k fs name ≡ Some (record { number = k + n; field = field })
  pub entity : x.entity ≡ declared_entity p field.base field.declarator (elements (seen_in (constants_of p.items) c) field.declarator)
  pub by_ref : is_by_ref x.origin ≡ field.declarator.by_ref

module _ (p : Program) (i : ℕ) (c : Class) (name : List ℕ) (x : NameMeaning) where
  abbrev o : Owned
  o = record { place = i; class = c }

  later : (k : ℕ) (f : ClassField) (fs : List ClassField) → same_name f.declarator.name name ≡ false → Found p c name x (suc k) fs → Found p c name x k (f ∷ fs)
  later k f fs e h = record {
    n = suc h.n;
    field = h.field;
    at = h.at;
    named = subst (λ (b : Bool). (if b then Some (record { number = k; field = f }) else tree.field_named (suc k) fs name) ≡ Some (record { number = k + suc h.n; field = h.field })) (sym e) (h.named ∙ ap (λ n. Some (record { number = n; field = h.field })) (let q : suc k + h.n ≡ k + suc h.n = omega arith in q));
    entity = h.entity;
    by_ref = h.by_ref;
  }

  here : (k : ℕ) (f : ClassField) (fs : List ClassField) → same_name f.declarator.name name ≡ true → x.entity ≡ declared_entity p f.base f.declarator (elements (seen_in (constants_of p.items) c) f.declarator) → is_by_ref x.origin ≡ f.declarator.by_ref → Found p c name x k (f ∷ fs)
  here k f fs e h r = record {
    n = 0;
    field = f;
    at = refl;
    named = subst (λ (b : Bool). (if b then Some (record { number = k; field = f }) else tree.field_named (suc k) fs name) ≡ Some (record { number = k + 0; field = f })) (sym e) (ap (λ n. Some (record { number = n; field = f })) (let q : k ≡ k + 0 = omega arith in q));
    entity = h;
    by_ref = r;
  }

  -- one declarator, and those after it
  declared : (q : Bool) (j l : ℕ) (a : Access) (b : Base) (d : Declarator) (k : ℕ) (fs : List ClassField) (rest other : Option NameMeaning) → same_name d.name name ≡ q → first_of (if q then Some (rules.field_meant p o a (place_in j l) b d) else rest) other ≡ Some x → (first_of rest other ≡ Some x → Found p c name x (suc k) fs) → Found p c name x k (record { base = b; declarator = d } ∷ fs)
  declared true j l a b d k fs rest other e h f = here k (record { base = b; declarator = d }) fs e (ap (λ (m : NameMeaning). m.entity) (sym (some_same h))) (ap (λ (m : NameMeaning). is_by_ref m.origin) (sym (some_same h)))
  declared false j l a b d k fs rest other e h f = later k (record { base = b; declarator = d }) fs e (f h)

  among : (j l : ℕ) (a : Access) (b : Base) (ds : List Declarator) (k : ℕ) (fs : List ClassField) (other : Option NameMeaning) → first_of (rules.field_named p o a j l b ds name) other ≡ Some x → ((k : ℕ) → other ≡ Some x → Found p c name x k fs) → Found p c name x k (declared_fields b ds ++ fs)
  among j l a b [] k fs other h f = f k h
  among j l a b (d ∷ ds) k fs other h f =
      declared (same_name d.name name) j l a b d k (declared_fields b ds ++ fs) (rules.field_named p o a j (l + 1) b ds name) other refl h (λ h. among j (l + 1) a b ds (suc k) fs other h f)

  -- a member routine is no field
  method : (q : Bool) (y : NameMeaning) (k : ℕ) (fs : List ClassField) (other : Option NameMeaning) → is_field_origin y.origin ≡ false → first_of (if q then Some y else None) other ≡ Some x → is_field_origin x.origin ≡ true → ((k : ℕ) → other ≡ Some x → Found p c name x k fs) → Found p c name x k fs
  method true y k fs other n h r f = false_true (sym n ∙ (ap (λ (m : NameMeaning). is_field_origin m.origin) (some_same h) ∙ r))
  method false y k fs other n h r f = f k h

  by_form : (mark : MutexMark) (a : Access) (form : MemberForm) (j k : ℕ) (fs : List ClassField) (other : Option NameMeaning) → first_of (rules.form_named p o mark a j form name) other ≡ Some x → is_field_origin x.origin ≡ true → ((k : ℕ) → other ≡ Some x → Found p c name x k fs) → Found p c name x k (form_fields form ++ fs)
  by_form mark a (FieldsMember at1 b ds) j k fs other h r f = among j 0 a b ds k fs other h f
  by_form mark a (RoutineMember r1) j k fs other h r f =
      method (is_plain r1.sig.role && same_name r1.sig.name name) _ k fs other refl h r f
  by_form mark a (ProtoMember sig) j k fs other h r f = method (is_plain sig.role && same_name sig.name name) _ k fs other refl h r f

  members : (ms : List Member) (j k : ℕ) → rules.members_named p o j ms name ≡ Some x → is_field_origin x.origin ≡ true → Found p c name x k (fields_of ms)
  members [] j k h r = none_some h
  members (m ∷ ms) j k h r =
      by_form m.mark m.access m.form j k (fields_of ms) (rules.members_named p o (j + 1) ms name) h r (λ k e. members ms (j + 1) k e r)

  pub found : class_at p i ≡ Some c → member_named p i name ≡ Some x → is_field_origin x.origin ≡ true → Found p c name x (leading_cells c.kind) (fields_of c.members)
  found a h r = members c.members 0 (leading_cells c.kind) (subst (λ o. rules.member_in p i o name ≡ Some x) a h) r

-- what a name names is no condition
plain_by : (b : Bool) (i : ℕ) (k : Kind) (o : Option Sort) (s : Sort) → (o ≡ Some s → is_condition s ≡ false) → (if b then Some (sort.Object i k) else o) ≡ Some s → is_condition s ≡ false
plain_by true i k o s f h = ap is_condition (sym (some_same h))
plain_by false i k o s f h = f h

named_plain : (cs : List Class) (i : ℕ) (name : List ℕ) (s : Sort) → class_sort cs i name ≡ Some s → is_condition s ≡ false
named_plain [] i name s h = none_some h
named_plain (c ∷ cs) i name s h = plain_by (same_name c.name name) i c.kind (class_sort cs (i + 1) name) s (named_plain cs (i + 1) name s) h

of_condition : (r : Bool) (l : Option expr.Expr) (n : ℕ) → is_of_conditions (variable r l n sort.Condition) ≡ true
of_condition true l n = refl
of_condition false None n = refl
of_condition false (Some e) n = refl

-- what is found in an object, by whose it is
record HoldsAt (t : Table) (g : Sig) (sc : List Name) (p : Program) (i : ℕ) (w : tree.Whose) : Type 0 where
  held : (n : ℕ) (a : Ty) → Cell a ≡ t.fields i n → Yields t g sc (tree.field_held (class_shape p i) n w) a
  place : (n : ℕ) (a : Ty) → a ≡ t.fields i n → IsPlaced t a → Yields t g sc (tree.field_place (class_shape p i) n w) a
  value : (n : ℕ) → Cell Num ≡ t.fields i n → ValuedBy t g sc (tree.field_standing (class_shape p i) n w) (tree.field_place (class_shape p i) n w)
  standing : (n : ℕ) → IsAtPlace (tree.field_standing (class_shape p i) n w)

module _ (t : Table) (g : Sig) (sc : List Name) (p : Program) (i : ℕ) (c : Class) (tells : TellsClass t p i c) where
  own_holds : g.this ≡ Some i → HoldsAt t g sc p i tree.Own
  own_holds h = record {
    held = λ n a e. (i, h, sym tells.shape, e, inr tells.refers);
    place = λ n a e w. (i, h, sym tells.shape, subst (IsPlaced t) e w, inl e);
    value = λ n e. (i, h, sym tells.shape, e, inl refl);
    standing = λ n. tt;
  }

  path_holds : (e : Expr) → Yields t g sc e (Obj i) → t.mutex i ≡ false → HoldsAt t g sc p i (tree.Of e)
  path_holds e y m = record {
    held = λ n a q. (inr tells.refers, (i, y, sym tells.shape, q, subst (IsPlaced t) q tt, m));
    place = λ n a q w. (i, y, sym tells.shape, q, subst (IsPlaced t) q w, m);
    value = λ n q. (inl refl, (i, y, sym tells.shape, q, subst (IsPlaced t) q tt, m));
    standing = λ n. tt;
  }

  module _ (w : tree.Whose) (holds : HoldsAt t g sc p i w) (n : ℕ) (s : Sort) (plain : is_condition s ≡ false) where
    stands : (b : Bool) (st : tree.Standing) → is_numbered s ≡ b → StandsBy t g false b st → StandsBy t g (is_condition s) (is_numbered s) st
    stands b st e h = subst (λ c. StandsBy t g c (is_numbered s) st) (sym plain) (subst (λ b. StandsBy t g false b st) (sym e) h)

    -- what is known by its number
    numbered : (a : Declared) → is_numbered s ≡ true → IsOf p None s a → Cell (found_ty s) ≡ t.fields i n → Agrees t g sc p (entity.Place s) (record { expr = tree.field_held (class_shape p i) n w; ty = a; standing = AsNumber })
    numbered a b o e =
        ((holds.held n (found_ty s) e, λ d. false_true (sym (scalar_unnumbered s d) ∙ b)), stands true AsNumber b tt, o)

    reference : (b : Bool) (a : Declared) → is_numbered s ≡ b → IsOf p None s a → Cell (found_ty s) ≡ t.fields i n → Agrees t g sc p (entity.Place s) (tree.field_by b true (class_shape p i) n w a)
    reference true a b o e = numbered a b o e
    reference false a b o e =
        ((holds.held n (found_ty s) e, λ d. (inl refl, subst (Yields t g sc (tree.field_held (class_shape p i) n w)) (scalar_cell s d) (holds.held n (found_ty s) e))), stands false AtPlace b tt, o)

    one : (b : Bool) (a : Declared) → is_numbered s ≡ b → IsOf p None s a → place_by b (found_ty s) ≡ t.fields i n → IsPlaced t (place_by b (found_ty s)) → Agrees t g sc p (entity.Place s) (tree.field_by b false (class_shape p i) n w a)
    one true a b o e l = numbered a b o e
    one false a b o e l =
        ((holds.place n (found_ty s) e l, λ d. holds.value n (sym (scalar_cell s d) ∙ e)), stands false (tree.field_standing (class_shape p i) n w) b (holds.standing n), o)

    array : (k : ℕ) (a : Declared) → IsOf p (Some k) s a → Row k (place_ty s) ≡ t.fields i n → IsPlaced t (place_ty s) → Agrees t g sc p (entity.Array s k) (tree.field_by false false (class_shape p i) n w a)
    array k a o e l =
        (subst (λ c. Yields t g sc (tree.field_place (class_shape p i) n w) (row_ty c k s)) (sym plain) (holds.place n (Row k (place_ty s)) e tt), subst (λ c. StandsBy t g c false (tree.field_standing (class_shape p i) n w)) (sym plain) (holds.standing n), subst (λ c. RowPlaced t c s) (sym plain) l, o)

  module _ (w : tree.Whose) (holds : HoldsAt t g sc p i w) (n : ℕ) (f : ClassField) (s : Sort) (there : slice_get (fields_of c.members) n ≡ Some f) (known : sort_of p f.base ≡ Some s) where
    abbrev named : List ℕ → Option ℤ
    named = seen_in (constants_of p.items) c

    abbrev number : ℕ
    number = leading_cells c.kind + n

    abbrev typed : Bool → Option expr.Expr → Declared
    typed r l = record { base = f.base; by_ref = r; len = tree.field_length named f.declarator l }

    told : (r : Bool) (l : Option expr.Expr) → f.declarator.by_ref ≡ r → f.declarator.len ≡ l → field_ty r l (elements named f.declarator) s ≡ t.fields i number
    told r l er el =
        subst (λ r. field_ty r l (elements named f.declarator) s ≡ t.fields i number) er (subst (λ l. field_ty f.declarator.by_ref l (elements named f.declarator) s ≡ t.fields i number) el (sym (tells.fields n f s there known)))

    counted : (P : Bool → Type 0) → P (is_numbered s) → P (is_made_numbered (making p f.base))
    counted P h = subst P (sym (numbered_is p f.base s known)) h

    by_forms : (plain : is_condition s ≡ false) (r : Bool) (l : Option expr.Expr) → f.declarator.by_ref ≡ r → f.declarator.len ≡ l → Agrees t g sc p (variable r l (elements named f.declarator) s) (tree.field_by (tree.has_number p (typed r l)) r (class_shape p i) number w (typed r l))
    by_forms plain true None er el =
        counted (λ b. Agrees t g sc p (entity.Place s) (tree.field_by b true (class_shape p i) number w (typed true None))) (reference w holds number s plain (is_numbered s) (typed true None) refl (refl, known) (told true None er el))
    by_forms plain true (Some e) er el = none_some (sym (tells.single n f there er) ∙ el)
    by_forms plain false None er el =
        counted (λ b. Agrees t g sc p (entity.Place s) (tree.field_by b false (class_shape p i) number w (typed false None))) (one w holds number s plain (is_numbered s) (typed false None) refl (refl, known) (told false None er el) (tells.placed n f s there known plain))
    by_forms plain false (Some e) er el =
        array w holds number s plain (elements named f.declarator) (typed false (Some e)) (refl, known) (told false (Some e) er el) (tells.placed n f s there known plain)

    -- a condition is one of the object at hand
    conditions : InMutex t g → (k : ℕ) (r : Bool) (l : Option expr.Expr) → f.declarator.by_ref ≡ r → f.declarator.len ≡ l → s ≡ sort.Condition → Agrees t g sc p (variable r l (elements named f.declarator) sort.Condition) (tree.condition_meant k (typed r l))
    conditions m k true None er el e = ((refl, λ d. false_true d), m, (refl, known ∙ ap (λ s. Some s) e))
    conditions m k true (Some q) er el e = none_some (sym (tells.single n f there er) ∙ el)
    conditions m k false None er el e = ((refl, λ d. false_true d), m, (refl, known ∙ ap (λ s. Some s) e))
    conditions m k false (Some q) er el e = (refl, m, tt, (refl, known ∙ ap (λ s. Some s) e))

    plain_for : (b : Base) → sort_of p b ≡ Some s → (b ≡ base.Condition → ⊥) → is_condition s ≡ false
    plain_for base.Void e n = ap is_condition (sym (some_same e))
    plain_for base.Int e n = ap is_condition (sym (some_same e))
    plain_for base.Char e n = ap is_condition (sym (some_same e))
    plain_for base.Bool e n = ap is_condition (sym (some_same e))
    plain_for base.Condition e n = absurd (n refl)
    plain_for base.Cluster e n = ap is_condition (sym (some_same e))
    plain_for base.Processor e n = ap is_condition (sym (some_same e))
    plain_for (base.Named name) e n = named_plain (classes_of p.items) 0 name s e

    by_base : (b : Base) → f.base ≡ b → (s ≡ sort.Condition → InMutex t g) → Agrees t g sc p (variable f.declarator.by_ref f.declarator.len (elements named f.declarator) s) (tree.field_or_condition p c i w (record { number = number; field = f }) b)
    by_base base.Condition e h =
        let q : sort.Condition ≡ s = some_same (subst (λ b. sort_of p b ≡ Some s) e known) in
        subst (λ s. Agrees t g sc p (variable f.declarator.by_ref f.declarator.len (elements named f.declarator) s) (tree.field_or_condition p c i w (record { number = number; field = f }) base.Condition)) q (conditions (h (sym q)) _ f.declarator.by_ref f.declarator.len refl refl (sym q))
    by_base base.Void e h = by_forms (plain_for base.Void (subst (λ b. sort_of p b ≡ Some s) e known) (λ d. absurd (cc))) f.declarator.by_ref f.declarator.len refl refl
    by_base base.Int e h = by_forms (plain_for base.Int (subst (λ b. sort_of p b ≡ Some s) e known) (λ d. absurd (cc))) f.declarator.by_ref f.declarator.len refl refl
    by_base base.Char e h = by_forms (plain_for base.Char (subst (λ b. sort_of p b ≡ Some s) e known) (λ d. absurd (cc))) f.declarator.by_ref f.declarator.len refl refl
    by_base base.Bool e h = by_forms (plain_for base.Bool (subst (λ b. sort_of p b ≡ Some s) e known) (λ d. absurd (cc))) f.declarator.by_ref f.declarator.len refl refl
    by_base base.Cluster e h = by_forms (plain_for base.Cluster (subst (λ b. sort_of p b ≡ Some s) e known) (λ d. absurd (cc))) f.declarator.by_ref f.declarator.len refl refl
    by_base base.Processor e h = by_forms (plain_for base.Processor (subst (λ b. sort_of p b ≡ Some s) e known) (λ d. absurd (cc))) f.declarator.by_ref f.declarator.len refl refl
    by_base (base.Named name) e h = by_forms (plain_for (base.Named name) (subst (λ b. sort_of p b ≡ Some s) e known) (λ d. absurd (cc))) f.declarator.by_ref f.declarator.len refl refl

  module _ (w : tree.Whose) (holds : HoldsAt t g sc p i w) (name : List ℕ) (x : NameMeaning) (inside : names_condition (Some x) ≡ true → InMutex t g) where
    abbrev told_as : ClassField → Sort → Entity
    told_as f s = variable f.declarator.by_ref f.declarator.len (elements (seen_in (constants_of p.items) c) f.declarator) s

    found_sort : (h : Found p c name x (leading_cells c.kind) (fields_of c.members)) (u : Option Sort) → sort_of p h.field.base ≡ u → x.entity ≡ option_map (told_as h.field) u → AgreesIf t g sc p x.entity (tree.field_found p c i w (record { number = leading_cells c.kind + h.n; field = h.field }))
    found_sort h None e q v k = none_some (sym q ∙ k)
    found_sort h (Some s) e q v k =
        let same : told_as h.field s ≡ v = some_same (sym q ∙ k) in
        subst (λ v. Agrees t g sc p v (tree.field_found p c i w (record { number = leading_cells c.kind + h.n; field = h.field }))) same (by_base w holds h.n h.field s h.at e h.field.base refl (λ z. inside (ap is_condition_of q ∙ (ap (λ s. is_of_conditions (told_as h.field s)) z ∙ of_condition h.field.declarator.by_ref h.field.declarator.len (elements (seen_in (constants_of p.items) c) h.field.declarator)))))

    member : Found p c name x (leading_cells c.kind) (fields_of c.members) → AgreesIf t g sc p x.entity (tree.member_meant p i w name)
    member h =
        subst (λ o. AgreesIf t g sc p x.entity (tree.member_in p i w name o)) (sym tells.at) (subst (λ o. AgreesIf t g sc p x.entity (tree.member_by p c i w name o)) (sym h.named) (found_sort h (sort_of p h.field.base) refl h.entity))

pub law_fields : (t : Table) (g : Sig) (sc : List Name) → LawFields t g sc
law_fields t g sc p i c tells = record {
  path = λ e name x y m h r n. member t g sc p i c tells (tree.Of e) (path_holds t g sc p i c tells e y m) name x (λ q. false_true (sym n ∙ q)) (found p i c name x tells.at h r);
  own = λ name x this inside h r. member t g sc p i c tells tree.Own (own_holds t g sc p i c tells this) name x (λ q. let z = inside q in (i, this, z.0, z.1)) (found p i c name x tells.at h r);
}
