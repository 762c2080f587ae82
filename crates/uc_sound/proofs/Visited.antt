-- The rules at each item, class, member and field of a program, by their places.
use Rattle.std.proofs.Common.{◌≡◌, ℕ, zero, suc, ◌+◌, ◌++◌, ◌⊎◌, inl, inr, List, [], ◌∷◌, Option, Some, None, Bool, true, false, refl, sym, ap, ◌∙◌, subst, arith}
use Rattle.std.specs.Prelude.{slice_get, is_some, if◌then◌else◌}
use Rattle.uc_tree.specs.declared.kinds.Base.TheVariants as base
use Rattle.uc_rules.specs.declared.rules.Sort.TheVariants as sort
use Rattle.uc_tree.specs.declared.pos.Pos.{Pos}
use Rattle.uc_tree.specs.declared.kinds.Access.{Access}
use Rattle.uc_tree.specs.declared.kinds.Base.{Base}
use Rattle.uc_tree.specs.declared.kinds.Param.{Param}
use Rattle.uc_tree.specs.Cells.{classes_of}
use Rattle.uc_tree.specs.Numbering.{is_plain}
use Rattle.uc_tree.specs.Objects.{ClassField, fields_of, declared_fields, form_fields, class_at}
use Rattle.uc_tree.specs.Statements.{Declarator}
use Rattle.uc_tree.specs.Programs.{Sig, Class, Member, MemberForm, FieldsMember, RoutineMember, ProtoMember, Item, ClassItem, RoutineItem, ConstItem, ProtoItem, ForwardItem, UsingItem, Program}
use Rattle.uc_rules.specs.declared.rule.Rule.{Rule}
use Rattle.uc_rules.specs.declared.rule.Rule.TheVariants.{S1}
use Rattle.uc_rules.specs.declared.rule.Break.{Break}
use Rattle.uc_rules.specs.declared.rules.Sort.{Sort}
use Rattle.uc_rules.specs.declared.rules.FieldPlace.{FieldPlace}
use Rattle.uc_rules.specs.declared.rules.OwnClass.{OwnClass}
use Rattle.uc_rules.specs.Asked.{of_sort}
use Rattle.uc_rules.specs.Sorts.{sort_of}
use Rattle.uc_rules.specs.Names.{place_in}
use Rattle.uc_rules.specs.Scopes.{Env, plain_env, class_around, with_param}
use Rattle.uc_rules.specs.Visits.{AtBase, AtParam, AtField, AtMark, AtClass, AtItem, AtProgram, AtSig, maybe_visits}
use Rattle.uc_rules.specs.ProgramVisits.{program_visits, items_visits, item_visits, classes_in, class_visits, members_visits, form_visits, fields_visits, params_visits, base_visits, sig_visits}
use Rattle.uc_rules.specs.Breaks.{breaks_at, breaks_among}
use Rattle.uc_sound.specs.Unbroken.{Unbroken}
use Rattle.uc_sound.proofs.Ties.{some_same, none_some}
use Rattle.uc_sound.proofs.UnbrokenLemmas.{none_left, first, second, one, holds}
use Rattle.uc_sound.proofs.Lists.{some_is, in_either}

pub sort_holds : (o : Option Sort) (s : Sort) (test : Sort → Bool) (r : Rule) (p : Pos) (more : List Break) → o ≡ Some s → of_sort o test r p ++ more ≡ [] → test s ≡ true
sort_holds None s test r p more e h = none_some e
sort_holds (Some x) s test r p more e h = ap test (sym (some_same e)) ∙ holds (test x) r p more h

-- a base that is used names something
pub base_known : (env : Env) (p : Pos) (b : Base) → breaks_at (AtBase env p b) ≡ [] → (s : Sort) × (sort_of env.program b ≡ Some s)
base_known env p b h = some_is (sort_of env.program b) (holds (is_some (sort_of env.program b)) S1 p _ h)

module _ (p : Program) where
  pub record ItemRules (x : Item) (i : ℕ) : Type 0 where
    pub own : breaks_at (AtItem p x i) ≡ []
    pub classes : ℕ
    pub inner : Unbroken (item_visits p classes x)

  item_from : (k i : ℕ) (xs : List Item) → Unbroken (items_visits p k i xs) → (n : ℕ) (x : Item) (j : ℕ) → i + n ≡ j → slice_get xs n ≡ Some x → ItemRules x j
  item_from k i [] u n x j q e = none_some e
  item_from k i (y ∷ ys) u zero x j q e =
      let here : Unbroken (AtItem p y i ∷ item_visits p k y) = first (AtItem p y i ∷ item_visits p k y) (items_visits p (k + classes_in y) (i + 1) ys) u in
      let r : ItemRules y i = record { own = none_left (breaks_at (AtItem p y i)) (breaks_among (item_visits p k y)) here; classes = k; inner = second (AtItem p y i ∷ []) (item_visits p k y) here } in
      let l : i ≡ j = omega (arith, q) in
      subst (λ z. ItemRules z j) (some_same e) (subst (ItemRules y) l r)
  item_from k i (y ∷ ys) u (suc n) x j q e =
      item_from (k + classes_in y) (i + 1) ys (second (AtItem p y i ∷ item_visits p k y) (items_visits p (k + classes_in y) (i + 1) ys) u) n x j (omega (arith, q)) e

  class_from : (k i : ℕ) (xs : List Item) → Unbroken (items_visits p k i xs) → (n : ℕ) (c : Class) (j : ℕ) → k + n ≡ j → slice_get (classes_of xs) n ≡ Some c → Unbroken (class_visits p j c)
  class_from k i [] u n c j q e = none_some e
  class_from k i (ClassItem d ∷ xs) u zero c j q e =
      let here : Unbroken (AtItem p (ClassItem d) i ∷ class_visits p k d) = first (AtItem p (ClassItem d) i ∷ class_visits p k d) (items_visits p (k + 1) (i + 1) xs) u in
      let l : k ≡ j = omega (arith, q) in
      subst (λ z. Unbroken (class_visits p j z)) (some_same e) (subst (λ z. Unbroken (class_visits p z d)) l (second (AtItem p (ClassItem d) i ∷ []) (class_visits p k d) here))
  class_from k i (ClassItem d ∷ xs) u (suc n) c j q e =
      class_from (k + 1) (i + 1) xs (second (AtItem p (ClassItem d) i ∷ class_visits p k d) (items_visits p (k + 1) (i + 1) xs) u) n c j (omega (arith, q)) e
  class_from k i (RoutineItem r ∷ xs) u n c j q e =
      class_from (k + 0) (i + 1) xs (second (AtItem p (RoutineItem r) i ∷ item_visits p k (RoutineItem r)) (items_visits p (k + 0) (i + 1) xs) u) n c j (omega (arith, q)) e
  class_from k i (ConstItem r ∷ xs) u n c j q e =
      class_from (k + 0) (i + 1) xs (second (AtItem p (ConstItem r) i ∷ item_visits p k (ConstItem r)) (items_visits p (k + 0) (i + 1) xs) u) n c j (omega (arith, q)) e
  class_from k i (ProtoItem r ∷ xs) u n c j q e =
      class_from (k + 0) (i + 1) xs (second (AtItem p (ProtoItem r) i ∷ item_visits p k (ProtoItem r)) (items_visits p (k + 0) (i + 1) xs) u) n c j (omega (arith, q)) e
  class_from k i (ForwardItem r ∷ xs) u n c j q e =
      class_from (k + 0) (i + 1) xs (second (AtItem p (ForwardItem r) i ∷ item_visits p k (ForwardItem r)) (items_visits p (k + 0) (i + 1) xs) u) n c j (omega (arith, q)) e
  class_from k i (UsingItem r ∷ xs) u n c j q e =
      class_from (k + 0) (i + 1) xs (second (AtItem p (UsingItem r) i ∷ item_visits p k (UsingItem r)) (items_visits p (k + 0) (i + 1) xs) u) n c j (omega (arith, q)) e

  pub record MemberRules (h : OwnClass) (c : Class) (j : ℕ) (m : Member) : Type 0 where
    pub own : breaks_at (AtMark (plain_env p (class_around h)) c m) ≡ []
    pub inner : Unbroken (form_visits p h c j m.mark m.access m.form)

  member_from : (h : OwnClass) (c : Class) (j : ℕ) (ms : List Member) → Unbroken (members_visits p h c j ms) → (n : ℕ) (m : Member) (l : ℕ) → j + n ≡ l → slice_get ms n ≡ Some m → MemberRules h c l m
  member_from h c j [] u n m l q e = none_some e
  member_from h c j (x ∷ xs) u zero m l q e =
      let here : Unbroken (AtMark (plain_env p (class_around h)) c x ∷ form_visits p h c j x.mark x.access x.form) = first (AtMark (plain_env p (class_around h)) c x ∷ form_visits p h c j x.mark x.access x.form) (members_visits p h c (j + 1) xs) u in
      let r : MemberRules h c j x = record { own = none_left (breaks_at (AtMark (plain_env p (class_around h)) c x)) (breaks_among (form_visits p h c j x.mark x.access x.form)) here; inner = second (AtMark (plain_env p (class_around h)) c x ∷ []) (form_visits p h c j x.mark x.access x.form) here } in
      let k : j ≡ l = omega (arith, q) in
      subst (MemberRules h c l) (some_same e) (subst (λ z. MemberRules h c z x) k r)
  member_from h c j (x ∷ xs) u (suc n) m l q e =
      member_from h c (j + 1) xs (second (AtMark (plain_env p (class_around h)) c x ∷ form_visits p h c j x.mark x.access x.form) (members_visits p h c (j + 1) xs) u) n m l (omega (arith, q)) e

  pub record FieldRules (h : OwnClass) (c : Class) (f : ClassField) : Type 0 where
    pub access : Access
    pub place : FieldPlace
    pub own : breaks_at (AtField (plain_env p (class_around h)) c access f.base f.declarator place) ≡ []
    pub sort : Sort
    pub base : sort_of p f.base ≡ Some sort
    -- the member that declares it
    pub member : Member
    pub fields : List Declarator
    pub at : Pos
    pub form : member.form ≡ FieldsMember at f.base fields
    pub member_at : slice_get c.members place.member ≡ Some member
    pub listed : slice_get fields place.index ≡ Some f.declarator

  listed_from : (h : OwnClass) (c : Class) (m : Member) (at : Pos) (all : List Declarator) (b : Base) (s : Sort) (j i : ℕ) (ds : List Declarator) → slice_get c.members j ≡ Some m → m.form ≡ FieldsMember at b all → ((n k : ℕ) (d : Declarator) → i + n ≡ k → slice_get ds n ≡ Some d → slice_get all k ≡ Some d) → sort_of p b ≡ Some s → Unbroken (fields_visits (plain_env p (class_around h)) c m.access b j i ds) → (n : ℕ) (f : ClassField) → slice_get (declared_fields b ds) n ≡ Some f → FieldRules h c f
  listed_from h c m at all b s j i [] w q l k u n f e = none_some e
  listed_from h c m at all b s j i (d ∷ ds) w q l k u zero f e =
      let env = plain_env p (class_around h) in
      let here : Unbroken (maybe_visits env d.len ++ AtField env c m.access b d (place_in j i) ∷ []) = first (maybe_visits env d.len ++ AtField env c m.access b d (place_in j i) ∷ []) (fields_visits env c m.access b j (i + 1) ds) u in
      let r : FieldRules h c (record { base = b; declarator = d }) = record {
        access = m.access;
        place = place_in j i;
        own = one (AtField env c m.access b d (place_in j i)) (second (maybe_visits env d.len) (AtField env c m.access b d (place_in j i) ∷ []) here);
        sort = s;
        base = k;
        member = m;
        fields = all;
        at = at;
        form = q;
        member_at = w;
        listed = l 0 i d (omega arith) refl;
      } in
      subst (FieldRules h c) (some_same e) r
  listed_from h c m at all b s j i (d ∷ ds) w q l k u (suc n) f e =
      let env = plain_env p (class_around h) in
      listed_from h c m at all b s j (i + 1) ds w q (λ n k d z. l (suc n) k d (omega (arith, z))) k (second (maybe_visits env d.len ++ AtField env c m.access b d (place_in j i) ∷ []) (fields_visits env c m.access b j (i + 1) ds) u) n f e

  in_form : (h : OwnClass) (c : Class) (j : ℕ) (m : Member) (form : MemberForm) → slice_get c.members j ≡ Some m → m.form ≡ form → Unbroken (form_visits p h c j m.mark m.access form) → (n : ℕ) (f : ClassField) → slice_get (form_fields form) n ≡ Some f → FieldRules h c f
  in_form h c j m (FieldsMember at b ds) w q u n f e =
      let env = plain_env p (class_around h) in
      let k = base_known env at b (one (AtBase env at b) (first (AtBase env at b ∷ []) (fields_visits env c m.access b j 0 ds) u)) in
      listed_from h c m at ds b k.0 j 0 ds w q (λ n k d z e. ap (slice_get ds) (let y : k ≡ n = omega (arith, z) in y) ∙ e) k.1 (second (AtBase env at b ∷ []) (fields_visits env c m.access b j 0 ds) u) n f e
  in_form h c j m (RoutineMember r) w q u n f e = none_some e
  in_form h c j m (ProtoMember s) w q u n f e = none_some e

  fields_from : (h : OwnClass) (c : Class) (j : ℕ) (ms : List Member) → ((k : ℕ) (m : Member) (l : ℕ) → j + k ≡ l → slice_get ms k ≡ Some m → slice_get c.members l ≡ Some m) → Unbroken (members_visits p h c j ms) → (n : ℕ) (f : ClassField) → slice_get (fields_of ms) n ≡ Some f → FieldRules h c f
  fields_from h c j [] l u n f e = none_some e
  fields_from h c j (m ∷ ms) l u n f e = by (in_either (form_fields m.form) (fields_of ms) n f e) (fields_from h c (j + 1) ms (λ k x i q e. l (suc k) x i (omega (arith, q)) e) (second (AtMark (plain_env p (class_around h)) c m ∷ form_visits p h c j m.mark m.access m.form) (members_visits p h c (j + 1) ms) u))
    where
      here : Unbroken (form_visits p h c j m.mark m.access m.form)
      here = second (AtMark (plain_env p (class_around h)) c m ∷ []) (form_visits p h c j m.mark m.access m.form) (first (AtMark (plain_env p (class_around h)) c m ∷ form_visits p h c j m.mark m.access m.form) (members_visits p h c (j + 1) ms) u)

      by : (slice_get (form_fields m.form) n ≡ Some f) ⊎ ((k : ℕ) × (slice_get (fields_of ms) k ≡ Some f)) → ((k : ℕ) (f : ClassField) → slice_get (fields_of ms) k ≡ Some f → FieldRules h c f) → FieldRules h c f
      by (inl e) ih = in_form h c j m m.form (l 0 m j (omega arith) refl) refl here n f e
      by (inr e) ih = ih e.0 f e.1

  pub params_known : (env : Env) (e : env.program ≡ p) (xs : List Param) → Unbroken (params_visits env xs) → (n : ℕ) (x : Param) → slice_get xs n ≡ Some x → (s : Sort) × (sort_of p x.base ≡ Some s)
  params_known env e [] u n x q = none_some q
  params_known env e (y ∷ ys) u zero x q =
      let r = base_known env y.pos y.base (none_left (breaks_at (AtBase env y.pos y.base)) (breaks_among (AtParam env y ∷ params_visits (with_param env y) ys)) u) in
      (r.0, subst (λ z. sort_of p z.base ≡ Some r.0) (some_same q) (subst (λ z. sort_of z y.base ≡ Some r.0) e r.1))
  params_known env e (y ∷ ys) u (suc n) x q =
      params_known (with_param env y) e ys (second (AtBase env y.pos y.base ∷ (AtParam env y ∷ [])) (params_visits (with_param env y) ys) u) n x q

  module _ (u : Unbroken (program_visits p)) where
    pub items : Unbroken (items_visits p 0 0 p.items)
    items = second (AtProgram p ∷ []) (items_visits p 0 0 p.items) u

    pub item_rules : (i : ℕ) (x : Item) → slice_get p.items i ≡ Some x → ItemRules x i
    item_rules i x e = item_from 0 0 p.items items i x i (omega arith) e

    abbrev pub home : ℕ → Class → OwnClass
    home i c = record { class = i; kind = c.kind }

    pub class_rules : (i : ℕ) (c : Class) → class_at p i ≡ Some c → Unbroken (class_visits p i c)
    class_rules i c e = class_from 0 0 p.items items i c i (omega arith) e

    pub class_own : (i : ℕ) (c : Class) → class_at p i ≡ Some c → breaks_at (AtClass (plain_env p (class_around (home i c))) c i) ≡ []
    class_own i c e =
        none_left (breaks_at (AtClass (plain_env p (class_around (home i c))) c i)) (breaks_among (members_visits p (home i c) c 0 c.members)) (class_rules i c e)

    members : (i : ℕ) (c : Class) → class_at p i ≡ Some c → Unbroken (members_visits p (home i c) c 0 c.members)
    members i c e = second (AtClass (plain_env p (class_around (home i c))) c i ∷ []) (members_visits p (home i c) c 0 c.members) (class_rules i c e)

    pub member_rules : (i : ℕ) (c : Class) → class_at p i ≡ Some c → (j : ℕ) (m : Member) → slice_get c.members j ≡ Some m → MemberRules (home i c) c j m
    member_rules i c e j m q = member_from (home i c) c 0 c.members (members i c e) j m j (omega arith) q

    pub field_rules : (i : ℕ) (c : Class) → class_at p i ≡ Some c → (n : ℕ) (f : ClassField) → slice_get (fields_of c.members) n ≡ Some f → FieldRules (home i c) c f
    field_rules i c e n f q =
        fields_from (home i c) c 0 c.members (λ k m l q e. ap (slice_get c.members) (let z : l ≡ k = omega (arith, q) in z) ∙ e) (members i c e) n f q

    -- what a signature asks
    pub sig_known : (env : Env) (sig : Sig) → env.program ≡ p → Unbroken (sig_visits env sig) → (n : ℕ) (x : Param) → slice_get sig.params n ≡ Some x → (s : Sort) × (sort_of p x.base ≡ Some s)
    sig_known env sig e v = params_known env e sig.params (second (AtSig env sig ∷ []) (params_visits env sig.params) (second (base_visits env sig) (AtSig env sig ∷ params_visits env sig.params) v))

    -- what it returns names something
    pub sig_ret : (env : Env) (sig : Sig) → env.program ≡ p → (is_plain sig.role ≡ false → sig.ret ≡ base.Void) → Unbroken (sig_visits env sig) → (s : Sort) × (sort_of p sig.ret ≡ Some s)
    sig_ret env sig e f v = by (is_plain sig.role) refl (first (base_visits env sig) (AtSig env sig ∷ params_visits env sig.params) v)
      where
        by : (b : Bool) → is_plain sig.role ≡ b → Unbroken (if b then AtBase env sig.pos sig.ret ∷ [] else []) → (s : Sort) × (sort_of p sig.ret ≡ Some s)
        by true w h = let r = base_known env sig.pos sig.ret (one (AtBase env sig.pos sig.ret) h) in (r.0, subst (λ z. sort_of z sig.ret ≡ Some r.0) e r.1)
        by false w h = (sort.Void, ap (sort_of p) (f w))
