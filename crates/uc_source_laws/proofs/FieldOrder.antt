-- Fields that names find are numbered in the order of their places in the class.
use Rattle.std.proofs.Common.{◌≡◌, ℕ, zero, suc, ◌+◌, ◌≤◌, ◌<◌, ◌++◌, ◌⊎◌, inl, inr, List, [], ◌∷◌, length, Option, Some, None, Bool, true, false, refl, sym, ap, ◌∙◌, subst, arith}
use Rattle.std.specs.Prelude.{◌&&◌, ◌||◌, slice_get, if◌then◌else◌, nat_eq, nat_lt}
use Rattle.std.proofs.lemmas.Bool.{eqb-true, ltb-true}
use Rattle.uc_tree.specs.declared.kinds.Access.{Access}
use Rattle.uc_tree.specs.declared.kinds.Base.{Base}
use Rattle.uc_tree.specs.Names.{same_name}
use Rattle.uc_tree.specs.Cells.{leading_cells}
use Rattle.uc_tree.specs.Numbering.{is_plain}
use Rattle.uc_tree.specs.Objects.{ClassField, declared_fields, form_fields, fields_of, class_at}
use Rattle.uc_tree.specs.Programs.{Class, Member, MemberForm, FieldsMember, RoutineMember, ProtoMember, Program}
use Rattle.uc_tree.specs.Statements.{Declarator}
use Rattle.uc_resolve.specs.Standings as tree
use Rattle.uc_rules.specs.declared.rules.FieldPlace.{FieldPlace}
use Rattle.uc_rules.specs.declared.rules.NameMeaning.{NameMeaning}
use Rattle.uc_rules.specs.declared.rules.Origin.{Origin}
use Rattle.uc_rules.specs.declared.rules.Origin.TheVariants as origin
use Rattle.uc_rules.specs.Names as rules
use Rattle.uc_rules.specs.Names.{Owned, first_of, place_in, is_field_before, member_named}
use Rattle.uc_rules.specs.OwnerBreaks.{is_field_origin}
use Rattle.uc_rules.specs.ProgramVisits.{field_place}
use Rattle.uc_sound.proofs.Ties.{some_same, none_some, false_true}

-- the fields of a member, and of so many members
abbrev pub width : MemberForm → ℕ
width (FieldsMember at b ds) = length ds
width (RoutineMember r) = 0
width (ProtoMember s) = 0

abbrev pub fields_before : List Member → ℕ → ℕ
fields_before [] m = 0
fields_before (x ∷ ms) zero = 0
fields_before (x ∷ ms) (suc m) = width x.form + fields_before ms m

abbrev pub is_method : Origin → Bool
is_method (origin.Method class access) = true
is_method _ = false

-- a field that is found among the fields of these members, the first of which has the place j, from the number k on, at its place
pub record FieldAt (name : List ℕ) (x : NameMeaning) (j k : ℕ) (ms : List Member) : Type 0 where
  pub n : ℕ
  pub field : ClassField
  pub named : tree.field_named k (fields_of ms) name ≡ Some (record { number = k + n; field = field })
  pub place : FieldPlace
  pub origin : field_place x.origin ≡ Some place
  pub member : ℕ
  pub member_is : place.member ≡ j + member
  pub index : n ≡ fields_before ms member + place.index
  pub within : n < fields_before ms (suc member)

module _ (p : Program) (i : ℕ) (c : Class) (name : List ℕ) (x : NameMeaning) where
  abbrev o : Owned
  o = record { place = i; class = c }

  -- among declarators, or behind them
  record Here (j l k : ℕ) (b : Base) (ds : List Declarator) (fs : List ClassField) : Type 0 where
    q : ℕ
    field : ClassField
    few : q < length ds
    named : tree.field_named k (declared_fields b ds ++ fs) name ≡ Some (record { number = k + q; field = field })
    origin : field_place x.origin ≡ Some (place_in j (l + q))

  abbrev Skips : (k : ℕ) (b : Base) (ds : List Declarator) (fs : List ClassField) → Type 0
  Skips k b ds fs = tree.field_named k (declared_fields b ds ++ fs) name ≡ tree.field_named (k + length ds) fs name

  among : (j l : ℕ) (a : Access) (b : Base) (ds : List Declarator) (k : ℕ) (fs : List ClassField) (other : Option NameMeaning) → first_of (rules.field_named p o a j l b ds name) other ≡ Some x → Here j l k b ds fs ⊎ ((other ≡ Some x) × Skips k b ds fs)
  among j l a b [] k fs other h =
      let e : k ≡ k + 0 = omega arith in
      inr (h, ap (λ k. tree.field_named k fs name) e)
  among j l a b (d ∷ ds) k fs other h = by (same_name d.name name) refl h (λ h. among j (l + 1) a b ds (suc k) fs other h)
    where
      rest : Option NameMeaning
      rest = rules.field_named p o a j (l + 1) b ds name

      found : (z : Bool) → same_name d.name name ≡ z → (w : Option tree.NumberedField) → (if z then Some (record { number = k; field = record { base = b; declarator = d } }) else tree.field_named (suc k) (declared_fields b ds ++ fs) name) ≡ w → tree.field_named k (declared_fields b (d ∷ ds) ++ fs) name ≡ w
      found z e w h = ap (λ (z : Bool). if z then Some (record { number = k; field = record { base = b; declarator = d } }) else tree.field_named (suc k) (declared_fields b ds ++ fs) name) e ∙ h

      by : (z : Bool) → same_name d.name name ≡ z → first_of (if z then Some (rules.field_meant p o a (place_in j l) b d) else rest) other ≡ Some x → (first_of rest other ≡ Some x → Here j (l + 1) (suc k) b ds fs ⊎ ((other ≡ Some x) × Skips (suc k) b ds fs)) → Here j l k b (d ∷ ds) fs ⊎ ((other ≡ Some x) × Skips k b (d ∷ ds) fs)
      by true e h f = inl (record {
        q = 0;
        field = record { base = b; declarator = d };
        few = omega arith;
        named = found true e _ (ap (λ n. Some (record { number = n; field = record { base = b; declarator = d } })) (let q : k ≡ k + 0 = omega arith in q));
        origin = ap (λ (m : NameMeaning). field_place m.origin) (sym (some_same h)) ∙ ap (λ l. Some (place_in j l)) (let q : l ≡ l + 0 = omega arith in q);
      })
      by false e h f = further (f h)
        where
          further : Here j (l + 1) (suc k) b ds fs ⊎ ((other ≡ Some x) × Skips (suc k) b ds fs) → Here j l k b (d ∷ ds) fs ⊎ ((other ≡ Some x) × Skips k b (d ∷ ds) fs)
          further (inl r) = inl (record {
            q = suc r.q;
            field = r.field;
            few = let z = r.few in omega (arith, z);
            named = found false e _ (r.named ∙ ap (λ n. Some (record { number = n; field = r.field })) (let q : suc k + r.q ≡ k + suc r.q = omega arith in q));
            origin = r.origin ∙ ap (λ l. Some (place_in j l)) (let q : l + 1 + r.q ≡ l + suc r.q = omega arith in q);
          })
          further (inr r) = inr (r.0, found false e _ (r.1 ∙ ap (λ k. tree.field_named k fs name) (let q : suc k + length ds ≡ k + suc (length ds) = omega arith in q)))

  -- one member more before the others
  behind : (m : Member) (ms : List Member) (j k w : ℕ) → width m.form ≡ w → tree.field_named k (fields_of (m ∷ ms)) name ≡ tree.field_named (k + w) (fields_of ms) name → FieldAt name x (j + 1) (k + w) ms → FieldAt name x j k (m ∷ ms)
  behind m ms j k w e s f = record {
    n = w + f.n;
    field = f.field;
    named = s ∙ (f.named ∙ ap (λ n. Some (record { number = n; field = f.field })) (let q : k + w + f.n ≡ k + (w + f.n) = omega arith in q));
    place = f.place;
    origin = f.origin;
    member = suc f.member;
    member_is = let q = f.member_is in omega (arith, q);
    index = let q = f.index in omega (arith, q, e);
    within = let q = f.within in omega (arith, q, e);
  }

  members : (ms : List Member) (j k : ℕ) → rules.members_named p o j ms name ≡ Some x → is_field_origin x.origin ≡ true → FieldAt name x j k ms
  members [] j k h r = none_some h
  members (m ∷ ms) j k h r = by m.form refl h (λ k h. members ms (j + 1) k h r)
    where
      other : Option NameMeaning
      other = rules.members_named p o (j + 1) ms name

      no_method : (z : Bool) (y : NameMeaning) → is_field_origin y.origin ≡ false → first_of (if z then Some y else None) other ≡ Some x → other ≡ Some x
      no_method true y n h = false_true (sym n ∙ (ap (λ (m : NameMeaning). is_field_origin m.origin) (some_same h) ∙ r))
      no_method false y n h = h

      none : (form : MemberForm) → m.form ≡ form → form_fields form ≡ [] → width form ≡ 0 → other ≡ Some x → ((k : ℕ) → other ≡ Some x → FieldAt name x (j + 1) k ms) → FieldAt name x j k (m ∷ ms)
      none form e f w h ih =
          let q : k ≡ k + 0 = omega arith in
          behind m ms j k 0 (ap width e ∙ w) (ap (λ fs. tree.field_named k (fs ++ fields_of ms) name) (ap form_fields e ∙ f) ∙ ap (λ k. tree.field_named k (fields_of ms) name) q) (ih (k + 0) h)

      by : (form : MemberForm) → m.form ≡ form → first_of (rules.form_named p o m.mark m.access j form name) other ≡ Some x → ((k : ℕ) → other ≡ Some x → FieldAt name x (j + 1) k ms) → FieldAt name x j k (m ∷ ms)
      by (RoutineMember s) e h ih = none (RoutineMember s) e refl refl (no_method (is_plain s.sig.role && same_name s.sig.name name) _ refl h) ih
      by (ProtoMember s) e h ih = none (ProtoMember s) e refl refl (no_method (is_plain s.role && same_name s.name name) _ refl h) ih
      by (FieldsMember at b ds) e h ih = found (among j 0 m.access b ds k (fields_of ms) other h)
        where
          listed : tree.field_named k (fields_of (m ∷ ms)) name ≡ tree.field_named k (declared_fields b ds ++ fields_of ms) name
          listed = ap (λ z. tree.field_named k (form_fields z ++ fields_of ms) name) e

          found : Here j 0 k b ds (fields_of ms) ⊎ ((other ≡ Some x) × Skips k b ds (fields_of ms)) → FieldAt name x j k (m ∷ ms)
          found (inl r) = record {
            n = r.q;
            field = r.field;
            named = listed ∙ r.named;
            place = place_in j (0 + r.q);
            origin = r.origin;
            member = 0;
            member_is = omega arith;
            index = omega arith;
            within = let w : width m.form ≡ length ds = ap width e in let z = r.few in omega (arith, w, z);
          }
          found (inr r) = behind m ms j k (length ds) (ap width e) (listed ∙ r.1) (ih (k + length ds) r.0)

  pub field_at : class_at p i ≡ Some c → member_named p i name ≡ Some x → is_field_origin x.origin ≡ true → FieldAt name x 0 (leading_cells c.kind) c.members
  field_at a h r = members c.members 0 (leading_cells c.kind) (subst (λ o. rules.member_in p i o name ≡ Some x) a h) r

  -- what is no field is a routine
  member_origin : (ms : List Member) (j : ℕ) → rules.members_named p o j ms name ≡ Some x → (is_field_origin x.origin ≡ true) ⊎ (is_method x.origin ≡ true)
  member_origin [] j h = none_some h
  member_origin (m ∷ ms) j h = by m.form h (λ h. member_origin ms (j + 1) h)
    where
      other : Option NameMeaning
      other = rules.members_named p o (j + 1) ms name

      method : (z : Bool) (y : NameMeaning) → is_method y.origin ≡ true → first_of (if z then Some y else None) other ≡ Some x → (other ≡ Some x → (is_field_origin x.origin ≡ true) ⊎ (is_method x.origin ≡ true)) → (is_field_origin x.origin ≡ true) ⊎ (is_method x.origin ≡ true)
      method true y n h ih = inr (ap (λ (m : NameMeaning). is_method m.origin) (sym (some_same h)) ∙ n)
      method false y n h ih = ih h

      fields : (l : ℕ) (b : Base) (ds : List Declarator) → first_of (rules.field_named p o m.access j l b ds name) other ≡ Some x → (other ≡ Some x → (is_field_origin x.origin ≡ true) ⊎ (is_method x.origin ≡ true)) → (is_field_origin x.origin ≡ true) ⊎ (is_method x.origin ≡ true)
      fields l b [] h ih = ih h
      fields l b (d ∷ ds) h ih = one (same_name d.name name) h (λ h. fields (l + 1) b ds h ih)
        where
          one : (z : Bool) → first_of (if z then Some (rules.field_meant p o m.access (place_in j l) b d) else rules.field_named p o m.access j (l + 1) b ds name) other ≡ Some x → (first_of (rules.field_named p o m.access j (l + 1) b ds name) other ≡ Some x → (is_field_origin x.origin ≡ true) ⊎ (is_method x.origin ≡ true)) → (is_field_origin x.origin ≡ true) ⊎ (is_method x.origin ≡ true)
          one true h f = inl (ap (λ (m : NameMeaning). is_field_origin m.origin) (sym (some_same h)))
          one false h f = f h

      by : (form : MemberForm) → first_of (rules.form_named p o m.mark m.access j form name) other ≡ Some x → (other ≡ Some x → (is_field_origin x.origin ≡ true) ⊎ (is_method x.origin ≡ true)) → (is_field_origin x.origin ≡ true) ⊎ (is_method x.origin ≡ true)
      by (FieldsMember at b ds) h ih = fields 0 b ds h ih
      by (RoutineMember s) h ih = method (is_plain s.sig.role && same_name s.sig.name name) _ refl h ih
      by (ProtoMember s) h ih = method (is_plain s.role && same_name s.name name) _ refl h ih

  pub origin_is : class_at p i ≡ Some c → member_named p i name ≡ Some x → (is_field_origin x.origin ≡ true) ⊎ (is_method x.origin ≡ true)
  origin_is a h = member_origin c.members 0 (subst (λ o. rules.member_in p i o name ≡ Some x) a h)

-- numbers have the order of places

fields_more : (ms : List Member) (m n : ℕ) → m ≤ n → fields_before ms m ≤ fields_before ms n
fields_more [] m n l = omega arith
fields_more (x ∷ ms) zero n l = omega arith
fields_more (x ∷ ms) (suc m) zero l = let b : ⊥ = omega (arith, l) in absurd b
fields_more (x ∷ ms) (suc m) (suc n) l = let r = fields_more ms m n (omega (arith, l)) in omega (arith, r)

either : (a b : Bool) → (a || b) ≡ true → (a ≡ true) ⊎ (b ≡ true)
either true b h = inl refl
either false b h = inr h

both : (a b : Bool) → (a && b) ≡ true → (a ≡ true) × (b ≡ true)
both true b h = (refl, h)
both false b h = false_true h

module _ (ms : List Member) (j k : ℕ) (a b : List ℕ) (x y : NameMeaning) (f : FieldAt a x j k ms) (g : FieldAt b y j k ms) where
  pub in_order : is_field_before f.place g.place ≡ true → f.n < g.n
  in_order h = by (either (nat_lt f.place.member g.place.member) _ h)
    where
      by : (nat_lt f.place.member g.place.member ≡ true) ⊎ ((nat_eq f.place.member g.place.member && nat_lt f.place.index g.place.index) ≡ true) → f.n < g.n
      by (inl l) =
          let m = ltb-true f.place.member g.place.member l in
          let fm = f.member_is in
          let gm = g.member_is in
          let s : suc f.member ≤ g.member = omega (arith, m, fm, gm) in
          let z = fields_more ms (suc f.member) g.member s in
          let fw = f.within in
          let gi = g.index in
          omega (arith, z, fw, gi)
      by (inr l) =
          let z = both (nat_eq f.place.member g.place.member) (nat_lt f.place.index g.place.index) l in
          let m = eqb-true f.place.member g.place.member z.0 in
          let i = ltb-true f.place.index g.place.index z.1 in
          let fm = f.member_is in
          let gm = g.member_is in
          let s : f.member ≡ g.member = omega (arith, m, fm, gm) in
          let w : fields_before ms f.member ≡ fields_before ms g.member = ap (fields_before ms) s in
          let fi = f.index in
          let gi = g.index in
          omega (arith, w, i, fi, gi)

-- of the fields of one name the first is found
pub first_named : (fs : List ClassField) (k l m : ℕ) (f : ClassField) (name : List ℕ) (x : tree.NumberedField) → slice_get fs l ≡ Some f → same_name f.declarator.name name ≡ true → tree.field_named k fs name ≡ Some x → x.number ≡ k + m → m ≤ l
first_named [] k l m f name x e s h q = none_some e
first_named (d ∷ fs) k zero m f name x e s h q =
    let t : same_name d.declarator.name name ≡ true = ap (λ (z : ClassField). same_name z.declarator.name name) (some_same e) ∙ s in
    let w : record { number = k; field = d } ≡ x = some_same (sym (ap (λ (b : Bool). if b then Some (record { number = k; field = d }) else tree.field_named (suc k) fs name) t) ∙ h) in
    let n : k ≡ x.number = ap (λ (z : tree.NumberedField). z.number) w in
    omega (arith, n, q)
first_named (d ∷ fs) k (suc l) m f name x e s h q = by (same_name d.declarator.name name) h (λ m h q. first_named fs (suc k) l m f name x e s h q)
  where
    later : (m : ℕ) → x.number ≡ k + m → tree.field_named (suc k) fs name ≡ Some x → ((m : ℕ) → tree.field_named (suc k) fs name ≡ Some x → x.number ≡ suc k + m → m ≤ l) → m ≤ suc l
    later zero q h ih = omega arith
    later (suc m) q h ih = let r = ih m h (omega (arith, q)) in omega (arith, r)

    by : (b : Bool) → (if b then Some (record { number = k; field = d }) else tree.field_named (suc k) fs name) ≡ Some x → ((m : ℕ) → tree.field_named (suc k) fs name ≡ Some x → x.number ≡ suc k + m → m ≤ l) → m ≤ suc l
    by true h ih =
        let n : k ≡ x.number = ap (λ (z : tree.NumberedField). z.number) (some_same h) in
        omega (arith, n, q)
    by false h ih = later m q h ih
