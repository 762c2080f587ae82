-- What a program has that breaks no rule: no class has itself in its fields, and each has room.
use Rattle.std.proofs.Common.{◌≡◌, ℕ, ℤ, zero, suc, ◌+◌, ◌≤◌, ◌<◌, List, [], ◌∷◌, ◌++◌, Bool, true, false, not, ◌||◌, Option, Some, None, length, map, nat_eq, nat_le, refl, ap, sym, subst, ◌∙◌, arith, ◌⊎◌, inl, inr, true≢false}
use Rattle.std.specs.Prelude.{slice_get}
use Rattle.std.specs.List.{list_any}
use Rattle.std.proofs.lemmas.Bool.{and_parts, cases_lt, leb-true}
use Rattle.uc_tree.specs.declared.limits.TheConstants.{CLASS_CELLS, CLASS_CONDITIONS}
use Rattle.uc_tree.specs.declared.pos.Pos.{Pos}
use Rattle.uc_tree.specs.declared.kinds.Access.{Access}
use Rattle.uc_tree.specs.declared.kinds.Base.{Base}
use Rattle.uc_tree.specs.declared.kinds.MutexMark.{MutexMark}
use Rattle.uc_tree.specs.declared.rows.FieldLayout.{FieldLayout}
use Rattle.uc_tree.specs.declared.rows.FieldClass.{FieldClass}
use Rattle.uc_tree.specs.Constants.{constants_of}
use Rattle.uc_tree.specs.Statements.{Declarator}
use Rattle.uc_tree.specs.Programs.{MemberForm, FieldsMember, RoutineMember, ProtoMember, Member, Class, Item, ClassItem, RoutineItem, ConstItem, ProtoItem, ForwardItem, UsingItem, Program}
use Rattle.uc_tree.specs.Rows.{ClassLayout, row_at, row_cells, leads, object_leads, reaches, has_itself, cells_within}
use Rattle.uc_tree.specs.Cells.{classes_of, class_cells, held_by, member_held, members_held, row_of, rows_of, seen_in}
use Rattle.uc_tree.specs.Numbering.{condition_count}
use Rattle.uc_layout.proofs.DepthsLemmas.{row_past, cells_next}
use Rattle.uc_layout.proofs.ContainmentProgressLemmas.{further}
use Rattle.uc_implicit.proofs.Deep.{count_rows}
use Rattle.uc_rules.specs.declared.rule.Rule.{Rule}
use Rattle.uc_rules.specs.declared.rules.OwnClass.{OwnClass}
use Rattle.uc_rules.specs.Asked.{unless}
use Rattle.uc_rules.specs.Breaks.{breaks_at, breaks_among, breaks_of}
use Rattle.uc_rules.specs.ClassBreaks.{has_room, field_object, leads_back}
use Rattle.uc_rules.specs.ProgramVisits.{class_visits, fields_visits, form_visits, item_visits, items_visits, members_visits}
use Rattle.uc_rules.specs.Scopes.{Env, class_around, plain_env}
use Rattle.uc_rules.specs.Names.{place_in}
use Rattle.uc_rules.specs.Visits.{Visit, AtField, AtBase, AtClass, AtItem, AtMark, AtProgram, maybe_visits}
use Rattle.uc_lower_expr.specs.Members.{FitClasses}

-- what is empty has empty parts

pub no_left : {A : Type 0} (xs ys : List A) → xs ++ ys ≡ [] → xs ≡ []
no_left [] ys e = refl
no_left (x ∷ xs) ys e = cc

pub no_right : {A : Type 0} (xs ys : List A) → xs ++ ys ≡ [] → ys ≡ []
no_right [] ys e = e
no_right (x ∷ xs) ys e = cc

join_none : {A : Type 0} (xs ys : List A) → xs ≡ [] → ys ≡ [] → xs ++ ys ≡ []
join_none xs ys e f = ap (λ zs. zs ++ ys) e ∙ f

pub among_left : (xs ys : List Visit) → breaks_among (xs ++ ys) ≡ [] → breaks_among xs ≡ []
among_left [] ys e = refl
among_left (x ∷ xs) ys e = join_none (breaks_at x) (breaks_among xs) (no_left (breaks_at x) (breaks_among (xs ++ ys)) e) (among_left xs ys (no_right (breaks_at x) (breaks_among (xs ++ ys)) e))

pub among_right : (xs ys : List Visit) → breaks_among (xs ++ ys) ≡ [] → breaks_among ys ≡ []
among_right [] ys e = e
among_right (x ∷ xs) ys e = among_right xs ys (no_right (breaks_at x) (breaks_among (xs ++ ys)) e)

pub first_none : (v : Visit) (vs : List Visit) → breaks_among (v ∷ vs) ≡ [] → breaks_at v ≡ []
first_none v vs e = no_left (breaks_at v) (breaks_among vs) e

pub rest_none : (v : Visit) (vs : List Visit) → breaks_among (v ∷ vs) ≡ [] → breaks_among vs ≡ []
rest_none v vs e = no_right (breaks_at v) (breaks_among vs) e

pub holds : (b : Bool) (rule : Rule) (place : Pos) → unless b rule place ≡ [] → b ≡ true
holds true rule place e = refl
holds false rule place e = cc

-- the visits of a class, by its place

module _ (p : Program) where
  pub class_none : (is : List Item) (k i j : ℕ) (c : Class) → breaks_among (items_visits p k i is) ≡ [] → slice_get (classes_of is) j ≡ Some c → breaks_among (class_visits p (k + j) c) ≡ []
  class_none [] k i j c e g = cc
  class_none (ClassItem x ∷ is) k i zero c e g =
      let same : x ≡ c = cc in
      let z : k + 0 ≡ k = omega arith in
      let own = rest_none (AtItem p (ClassItem x) i) (class_visits p k x) (among_left (AtItem p (ClassItem x) i ∷ class_visits p k x) (items_visits p (k + 1) (i + 1) is) e) in
      subst (λ n. breaks_among (class_visits p n c) ≡ []) (sym z) (subst (λ (y : Class). breaks_among (class_visits p k y) ≡ []) same own)
  class_none (ClassItem x ∷ is) k i (suc j) c e g =
      let z : k + 1 + j ≡ k + suc j = omega arith in
      subst (λ n. breaks_among (class_visits p n c) ≡ []) z (class_none is (k + 1) (i + 1) j c (among_right (AtItem p (ClassItem x) i ∷ class_visits p k x) (items_visits p (k + 1) (i + 1) is) e) g)
  class_none (RoutineItem r ∷ is) k i j c e g = later (RoutineItem r) is k i j c e (class_none is (k + 0) (i + 1) j c (among_right (AtItem p (RoutineItem r) i ∷ item_visits p k (RoutineItem r)) (items_visits p (k + 0) (i + 1) is) e) g)
    where
      later : (x : Item) (is : List Item) (k i j : ℕ) (c : Class) → breaks_among (items_visits p k i (x ∷ is)) ≡ [] → breaks_among (class_visits p (k + 0 + j) c) ≡ [] → breaks_among (class_visits p (k + j) c) ≡ []
      later x is k i j c e h = let z : k + 0 + j ≡ k + j = omega arith in subst (λ n. breaks_among (class_visits p n c) ≡ []) z h
  class_none (ConstItem x ∷ is) k i j c e g = let z : k + 0 + j ≡ k + j = omega arith in subst (λ n. breaks_among (class_visits p n c) ≡ []) z (class_none is (k + 0) (i + 1) j c (among_right (AtItem p (ConstItem x) i ∷ item_visits p k (ConstItem x)) (items_visits p (k + 0) (i + 1) is) e) g)
  class_none (ProtoItem x ∷ is) k i j c e g = let z : k + 0 + j ≡ k + j = omega arith in subst (λ n. breaks_among (class_visits p n c) ≡ []) z (class_none is (k + 0) (i + 1) j c (among_right (AtItem p (ProtoItem x) i ∷ item_visits p k (ProtoItem x)) (items_visits p (k + 0) (i + 1) is) e) g)
  class_none (ForwardItem x ∷ is) k i j c e g = let z : k + 0 + j ≡ k + j = omega arith in subst (λ n. breaks_among (class_visits p n c) ≡ []) z (class_none is (k + 0) (i + 1) j c (among_right (AtItem p (ForwardItem x) i ∷ item_visits p k (ForwardItem x)) (items_visits p (k + 0) (i + 1) is) e) g)
  class_none (UsingItem x ∷ is) k i j c e g = let z : k + 0 + j ≡ k + j = omega arith in subst (λ n. breaks_among (class_visits p n c) ≡ []) z (class_none is (k + 0) (i + 1) j c (among_right (AtItem p (UsingItem x) i ∷ item_visits p k (UsingItem x)) (items_visits p (k + 0) (i + 1) is) e) g)

  -- a class has room
  room_at : (env : Env) (c : Class) (place : ℕ) → breaks_at (AtClass env c place) ≡ [] → has_room env.program c place ≡ true
  room_at env c place e = holds (has_room env.program c place) _ _ (no_left _ _ (no_right _ _ e))

  -- no field leads back to its class

  not_false : (b : Bool) → not b ≡ true → b ≡ false
  not_false true e = cc
  not_false false e = refl

  field_apart : (h : OwnClass) (c : Class) (a : Access) (b : Base) (d : Declarator) (j i : ℕ) → breaks_at (AtField (plain_env p (class_around h)) c a b d (place_in j i)) ≡ [] → leads_back p h.class b d ≡ false
  field_apart h c a b d j i e = not_false (leads_back p h.class b d) (holds (not (leads_back p h.class b d)) _ _ (no_left _ _ (no_right _ _ e)))

  or_quiet : (a b b' : Bool) → (b' ≡ true → b ≡ true) → (a || b) ≡ false → (a || b') ≡ false
  or_quiet true b b' f e = cc
  or_quiet false b true f e = absurd (true≢false (sym (f refl) ∙ e))
  or_quiet false b false f e = refl

  or_none : (a b : Bool) → a ≡ false → b ≡ false → (a || b) ≡ false
  or_none a b e f = ap (λ x. x || b) e ∙ f

  any_join : (P : FieldLayout → Bool) (xs ys : List FieldLayout) → list_any P xs ≡ false → list_any P ys ≡ false → list_any P (xs ++ ys) ≡ false
  any_join P [] ys e f = f
  any_join P (x ∷ xs) ys e f = or_none (P x) (list_any P (xs ++ ys)) (or_first (P x) (list_any P xs) e) (any_join P xs ys (or_second (P x) (list_any P xs) e) f)
    where
      or_first : (a b : Bool) → (a || b) ≡ false → a ≡ false
      or_first true b e = cc
      or_first false b e = refl

      or_second : (a b : Bool) → (a || b) ≡ false → b ≡ false
      or_second true b e = cc
      or_second false b e = e

  module _ (h : OwnClass) (m : ℕ) (long : length (rows_of p) ≡ suc m) (c : Class) (named : List ℕ → Option ℤ) where
    abbrev back : FieldLayout → Bool
    back = leads (reaches m (rows_of p) h.class) h.class

    one_quiet : (o : Option FieldClass) → object_leads (reaches (length (rows_of p)) (rows_of p) h.class) h.class o ≡ false → object_leads (reaches m (rows_of p) h.class) h.class o ≡ false
    one_quiet None e = refl
    one_quiet (Some o) e =
        or_quiet (nat_eq o.class h.class) (reaches (length (rows_of p)) (rows_of p) h.class o.class) (reaches m (rows_of p) h.class o.class)
        (λ t. ap (λ n. reaches n (rows_of p) h.class o.class) long ∙ further m (rows_of p) h.class o.class t) e

    fields_quiet : (a : Access) (b : Base) (j i : ℕ) (ds : List Declarator) → breaks_among (fields_visits (plain_env p (class_around h)) c a b j i ds) ≡ [] → list_any back (map (held_by (classes_of p.items) named b) ds) ≡ false
    fields_quiet a b j i [] e = refl
    fields_quiet a b j i (d ∷ ds) e =
        let env = plain_env p (class_around h) in
        let own = among_left (maybe_visits env d.len ++ AtField env c a b d (place_in j i) ∷ []) (fields_visits env c a b j (i + 1) ds) e in
        let field = first_none (AtField env c a b d (place_in j i)) [] (among_right (maybe_visits env d.len) (AtField env c a b d (place_in j i) ∷ []) own) in
        or_none (back (held_by (classes_of p.items) named b d)) (list_any back (map (held_by (classes_of p.items) named b) ds))
        (one_quiet (field_object p b d) (field_apart h c a b d j i field))
        (fields_quiet a b j (i + 1) ds (among_right (maybe_visits env d.len ++ AtField env c a b d (place_in j i) ∷ []) (fields_visits env c a b j (i + 1) ds) e))

    form_quiet : (j : ℕ) (k : MutexMark) (a : Access) (f : MemberForm) → breaks_among (form_visits p h c j k a f) ≡ [] → list_any back (member_held (classes_of p.items) named f) ≡ false
    form_quiet j k a (FieldsMember at b ds) e = fields_quiet a b j 0 ds (rest_none (AtBase (plain_env p (class_around h)) at b) (fields_visits (plain_env p (class_around h)) c a b j 0 ds) e)
    form_quiet j k a (RoutineMember r) e = refl
    form_quiet j k a (ProtoMember s) e = refl

    members_quiet : (j : ℕ) (ms : List Member) → breaks_among (members_visits p h c j ms) ≡ [] → list_any back (members_held (classes_of p.items) named ms) ≡ false
    members_quiet j [] e = refl
    members_quiet j (x ∷ ms) e =
        let mark = AtMark (plain_env p (class_around h)) c x in
        let own = rest_none mark (form_visits p h c j x.mark x.access x.form) (among_left (mark ∷ form_visits p h c j x.mark x.access x.form) (members_visits p h c (j + 1) ms) e) in
        any_join back (member_held (classes_of p.items) named x.form) (members_held (classes_of p.items) named ms)
        (form_quiet j x.mark x.access x.form own)
        (members_quiet (j + 1) ms (among_right (mark ∷ form_visits p h c j x.mark x.access x.form) (members_visits p h c (j + 1) ms) e))

  row_mapped : (f : Class → ClassLayout) (cs : List Class) (i : ℕ) (c : Class) → slice_get cs i ≡ Some c → row_at (map f cs) i ≡ f c
  row_mapped f [] i c e = cc
  row_mapped f (x ∷ xs) zero c e = let same : x ≡ c = cc in ap f same
  row_mapped f (x ∷ xs) (suc i) c e = row_mapped f xs i c e

  class_there : (cs : List Class) (i : ℕ) → i < length cs → (c : Class) × (slice_get cs i ≡ Some c)
  class_there [] i h = absurd (omega arith)
  class_there (x ∷ xs) zero h = (x, refl)
  class_there (x ∷ xs) (suc i) h = class_there xs i (omega arith)

  -- of all classes
  module _ (none : breaks_of p ≡ []) where
    quiet : breaks_among (items_visits p 0 0 p.items) ≡ []
    quiet = rest_none (AtProgram p) (items_visits p 0 0 p.items) none

    own_none : (i : ℕ) (c : Class) → slice_get (classes_of p.items) i ≡ Some c → breaks_among (class_visits p i c) ≡ []
    own_none i c e = let z : 0 + i ≡ i = omega arith in subst (λ n. breaks_among (class_visits p n c) ≡ []) z (class_none p.items 0 0 i c quiet e)

    itself_by : (m i : ℕ) → length (rows_of p) ≡ suc m → list_any (leads (reaches m (rows_of p) i) i) (row_at (rows_of p) i).held ≡ false → has_itself (rows_of p) i ≡ false
    unfolding reaches
    itself_by m i long e = ap (λ n. reaches n (rows_of p) i i) long ∙ e

    apart_inside : (m i : ℕ) (c : Class) → length (rows_of p) ≡ suc m → slice_get (classes_of p.items) i ≡ Some c → has_itself (rows_of p) i ≡ false
    apart_inside m i c long e =
        let h : OwnClass = record { class = i; kind = c.kind } in
        let named = seen_in (constants_of p.items) c in
        let members = rest_none (AtClass (plain_env p (class_around h)) c i) (members_visits p h c 0 c.members) (own_none i c e) in
        itself_by m i long (ap (λ r. list_any (leads (reaches m (rows_of p) i) i) r.held) (row_mapped (row_of (classes_of p.items) (constants_of p.items)) (classes_of p.items) i c e) ∙ members_quiet h m long c named 0 c.members members)

    apart_past : (n i : ℕ) → length (rows_of p) ≤ i → reaches n (rows_of p) i i ≡ false
    unfolding reaches
    apart_past zero i h = refl
    apart_past (suc n) i h = ap (λ r. list_any (leads (reaches n (rows_of p) i) i) r.held) (row_past (rows_of p) i h)

    apart_case : (n i : ℕ) → length (rows_of p) ≡ n → (i < length (classes_of p.items)) ⊎ (length (classes_of p.items) ≤ i) → has_itself (rows_of p) i ≡ false
    apart_case n i long (inr past) = apart_past (length (rows_of p)) i (let l = count_rows p in omega (arith, l, past))
    apart_case zero i long (inl inside) = absurd (let l = count_rows p in omega (arith, l, long, inside))
    apart_case (suc m) i long (inl inside) = let t = class_there (classes_of p.items) i inside in apart_inside m i t.0 long t.1

    pub apart : (i : ℕ) → has_itself (rows_of p) i ≡ false
    apart i = apart_case (length (rows_of p)) i refl (cases_lt i (length (classes_of p.items)))

    past_cells : (n i : ℕ) → length (rows_of p) ≤ i → cells_within n (rows_of p) i ≡ 0
    unfolding cells_within
    past_cells zero i h = refl
    past_cells (suc n) i h = cells_next (rows_of p) apart n i ∙ ap (row_cells (cells_within n (rows_of p))) (row_past (rows_of p) i h)

    small_case : (i : ℕ) → (i < length (classes_of p.items)) ⊎ (length (classes_of p.items) ≤ i) → class_cells p i ≤ CLASS_CELLS
    small_case i (inr past) = let l = count_rows p in let e : class_cells p i ≡ 0 = past_cells (length (rows_of p)) i (omega (arith, l, past)) in omega (arith, e)
    small_case i (inl inside) =
        let t = class_there (classes_of p.items) i inside in
        let h : OwnClass = record { class = i; kind = t.0.kind } in
        let room = room_at (plain_env p (class_around h)) t.0 i (first_none (AtClass (plain_env p (class_around h)) t.0 i) (members_visits p h t.0 0 t.0.members) (own_none i t.0 t.1)) in
        leb-true (class_cells p i) CLASS_CELLS (and_parts (nat_le (class_cells p i) CLASS_CELLS) (nat_le (condition_count p i t.0) CLASS_CONDITIONS) room).0

    pub fit_classes : FitClasses p
    fit_classes = record { apart = apart; small = λ i. small_case i (cases_lt i (length (classes_of p.items))) }
