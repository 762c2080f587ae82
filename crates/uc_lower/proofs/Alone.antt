-- A class has at most one constructor and at most one destructor where the rules are kept.
use Rattle.std.proofs.Common.{◌≡◌, ℕ, zero, suc, ◌+◌, ◌≤◌, ◌<◌, List, [], ◌∷◌, ◌++◌, Bool, true, false, not, ◌&&◌, ◌||◌, Option, Some, None, if◌then◌else◌, length, nat_eq, take, refl, ap, sym, subst, ◌∙◌, arith, append_assoc, true≢false, ◌⊎◌, inl, inr}
use Rattle.std.specs.Prelude.{option_and_then, slice_get}
use Rattle.std.specs.List.{list_any}
use Rattle.std.proofs.lemmas.Bool.{and_parts, cases_eq, cases_lt}
use Rattle.std.proofs.lemmas.List.{append-nil, take_at}
use Rattle.uc_tree.specs.declared.kinds.Kind.{Kind}
use Rattle.uc_tree.specs.declared.kinds.MutexMark.{MutexMark}
use Rattle.uc_tree.specs.declared.kinds.Access.{Access}
use Rattle.uc_tree.specs.declared.kinds.Owner.TheVariants as owner
use Rattle.uc_tree.specs.declared.kinds.Role.{Role}
use Rattle.uc_tree.specs.declared.kinds.Role.TheVariants as role
use Rattle.uc_tree.specs.Names.{same_name}
use Rattle.uc_tree.specs.Programs.{Sig, Routine, MemberForm, FieldsMember, RoutineMember, ProtoMember, Member, Class, Item, ClassItem, RoutineItem, ConstItem, ProtoItem, ForwardItem, UsingItem, Program}
use Rattle.uc_tree.specs.Cells.{classes_of}
use Rattle.uc_tree.specs.Numbering.{is_plain, main_name, is_given}
use Rattle.uc_tree.specs.Objects.{same_role}
use Rattle.uc_rules.specs.declared.rules.OwnClass.{OwnClass}
use Rattle.uc_rules.specs.declared.rules.Sort.{Sort}
use Rattle.uc_rules.specs.declared.rules.Sort.TheVariants as sort
use Rattle.uc_rules.specs.declared.rules.Sort.TheVariants.{Object}
use Rattle.uc_rules.specs.Breaks.{breaks_at, breaks_among, breaks_of}
use Rattle.uc_rules.specs.ItemBreaks.{class_declares, clashes, defines_member, form_declares_sig, has_class_name, is_defined, is_definition, is_main_base, is_member_definition, is_named, is_named_proto, is_new_item, is_only_one, is_program_main, is_sound_item, is_sound_member, outer_name, same_base, same_params}
use Rattle.uc_rules.specs.ItemBreaks as rules
use Rattle.uc_rules.specs.ProgramVisits as visits
use Rattle.uc_rules.specs.ProgramVisits.{classes_in, form_visits, home_of, item_visits, items_visits, members_visits, owner_home, routine_visits, sig_env, sig_visits}
use Rattle.uc_rules.specs.Names.{is_destructor, is_here}
use Rattle.uc_rules.specs.Scopes.{class_around, plain_env}
use Rattle.uc_rules.specs.Sorts.{class_at, class_named}
use Rattle.uc_rules.specs.Visits.{AtClass, AtItem, AtMark, AtProgram, AtRoutine}
use Rattle.uc_lower.proofs.Ruled.{among_left, among_right, class_none, first_none, rest_none, no_left, no_right, holds}
use Rattle.uc_lower.proofs.Distinct.{Fresh, same_self}
use Rattle.uc_lower.proofs.Numbers.{first_named, names_in}

-- tests

not_true : (b : Bool) → not b ≡ true → b ≡ false
not_true true e = cc
not_true false e = refl

or_left : (a b : Bool) → (a || b) ≡ false → a ≡ false
or_left true b e = cc
or_left false b e = refl

or_right : (a b : Bool) → (a || b) ≡ false → b ≡ false
or_right true b e = cc
or_right false b e = e

and_none : (a : Bool) → (a && false) ≡ false
and_none true = refl
and_none false = refl

and_true : (a b : Bool) → a ≡ true → b ≡ true → (a && b) ≡ true
and_true a b e f = ap (λ t. t && b) e ∙ f

-- one that passes is among those of which some passes
pub any_at : {A : Type 0} (P : A → Bool) (xs : List A) (j : ℕ) (x : A) → slice_get xs j ≡ Some x → P x ≡ true → list_any P xs ≡ true
any_at P [] j x e h = cc
any_at P (y ∷ ys) zero x e h = let same : y ≡ x = cc in ap (λ t. t || list_any P ys) (ap P same ∙ h)
any_at P (y ∷ ys) (suc j) x e h = by_case (P y) (any_at P ys j x e h)
  where
    by_case : (b : Bool) → list_any P ys ≡ true → (b || list_any P ys) ≡ true
    by_case true more = refl
    by_case false more = more

pub record Found {A : Type 0} (P : A → Bool) (xs : List A) : Type 0 where
  pub place : ℕ
  pub one : A
  pub there : slice_get xs place ≡ Some one
  pub passes : P one ≡ true

found : {A : Type 0} (P : A → Bool) (xs : List A) → list_any P xs ≡ true → Found P xs
found P [] e = cc
found P (x ∷ xs) e = by_case (P x) (found P xs) refl e
  where
    by_case : (b : Bool) → (list_any P xs ≡ true → Found P xs) → P x ≡ b → (b || list_any P xs) ≡ true → Found P (x ∷ xs)
    by_case true more h e = record { place = 0; one = x; there = refl; passes = h }
    by_case false more h e = let f = more e in record { place = suc f.place; one = f.one; there = f.there; passes = f.passes }

pub same_roles : (a b : Role) → visits.same_role a b ≡ same_role a b
same_roles role.Plain b = refl
same_roles role.Constructor role.Plain = refl
same_roles role.Constructor role.Constructor = refl
same_roles role.Constructor role.Destructor = refl
same_roles role.Destructor role.Plain = refl
same_roles role.Destructor role.Constructor = refl
same_roles role.Destructor role.Destructor = refl

pub role_is : (a b : Role) → visits.same_role a b ≡ true → a ≡ b
role_is role.Plain role.Plain e = refl
role_is role.Plain role.Constructor e = cc
role_is role.Plain role.Destructor e = cc
role_is role.Constructor role.Plain e = cc
role_is role.Constructor role.Constructor e = refl
role_is role.Constructor role.Destructor e = cc
role_is role.Destructor role.Plain e = cc
role_is role.Destructor role.Constructor e = cc
role_is role.Destructor role.Destructor e = refl

pub own_role : (a : Role) → visits.same_role a a ≡ true
own_role role.Plain = refl
own_role role.Constructor = refl
own_role role.Destructor = refl

taken_at : {A : Type 0} (xs : List A) (j k : ℕ) (x : A) → j < k → slice_get xs j ≡ Some x → slice_get (take k xs) j ≡ Some x
taken_at xs j zero x l e = absurd (omega arith)
taken_at [] j (suc k) x l e = cc
taken_at (y ∷ ys) zero (suc k) x l e = e
taken_at (y ∷ ys) (suc j) (suc k) x l e = taken_at ys j k x (omega arith) e

pub joined_at : {A : Type 0} (xs ys : List A) (j : ℕ) (x : A) → slice_get xs j ≡ Some x → slice_get (xs ++ ys) j ≡ Some x
joined_at [] ys j x e = cc
joined_at (y ∷ xs) ys zero x e = e
joined_at (y ∷ xs) ys (suc j) x e = joined_at xs ys j x e

pub behind_at : {A : Type 0} (xs : List A) (x : A) (ys : List A) → slice_get (xs ++ x ∷ ys) (length xs) ≡ Some x
behind_at [] x ys = refl
behind_at (y ∷ xs) x ys = behind_at xs x ys

pub inside : {A : Type 0} (xs : List A) (j : ℕ) (x : A) → slice_get xs j ≡ Some x → j < length xs
inside [] j x e = cc
inside (y ∷ ys) zero x e = omega arith
inside (y ∷ ys) (suc j) x e = let h = inside ys j x e in omega (arith, h)

classes_join : (xs ys : List Item) → classes_of (xs ++ ys) ≡ classes_of xs ++ classes_of ys
classes_join [] ys = refl
classes_join (ClassItem c ∷ xs) ys = ap (λ cs. c ∷ cs) (classes_join xs ys)
classes_join (RoutineItem c ∷ xs) ys = classes_join xs ys
classes_join (ConstItem c ∷ xs) ys = classes_join xs ys
classes_join (ProtoItem c ∷ xs) ys = classes_join xs ys
classes_join (ForwardItem c ∷ xs) ys = classes_join xs ys
classes_join (UsingItem c ∷ xs) ys = classes_join xs ys

names_join : (xs ys : List Class) → names_in (xs ++ ys) ≡ names_in xs ++ names_in ys
names_join [] ys = refl
names_join (x ∷ xs) ys = ap (λ ns. x.name ∷ ns) (names_join xs ys)

-- the place of a class among the classes
pub record IsClass (is : List Item) (c : Class) : Type 0 where
  pub place : ℕ
  pub there : slice_get (classes_of is) place ≡ Some c

pub class_index : (is : List Item) (j : ℕ) (c : Class) → slice_get is j ≡ Some (ClassItem c) → IsClass is c
class_index [] j c e = cc
class_index (x ∷ is) zero c e = first x (cc)
  where
    first : (x : Item) → x ≡ ClassItem c → IsClass (x ∷ is) c
    first (ClassItem y) s = let same : y ≡ c = cc in record { place = 0; there = ap Some same }
    first (RoutineItem y) s = cc
    first (ConstItem y) s = cc
    first (ProtoItem y) s = cc
    first (ForwardItem y) s = cc
    first (UsingItem y) s = cc
class_index (x ∷ is) (suc j) c e = later x (class_index is j c e)
  where
    later : (x : Item) → IsClass is c → IsClass (x ∷ is) c
    later (ClassItem y) h = record { place = suc h.place; there = h.there }
    later (RoutineItem y) h = record { place = h.place; there = h.there }
    later (ConstItem y) h = record { place = h.place; there = h.there }
    later (ProtoItem y) h = record { place = h.place; there = h.there }
    later (ForwardItem y) h = record { place = h.place; there = h.there }
    later (UsingItem y) h = record { place = h.place; there = h.there }

-- and its place among the items
pub record IsItem (is : List Item) (c : Class) : Type 0 where
  pub place : ℕ
  pub there : slice_get is place ≡ Some (ClassItem c)

item_later : (x : Item) (is : List Item) (c : Class) → IsItem is c → IsItem (x ∷ is) c
item_later x is c h = record { place = suc h.place; there = h.there }

pub class_item : (is : List Item) (i : ℕ) (c : Class) → slice_get (classes_of is) i ≡ Some c → IsItem is c
class_item [] i c e = cc
class_item (ClassItem x ∷ is) zero c e = let same : x ≡ c = cc in record { place = 0; there = ap (λ (y : Class). Some (ClassItem y)) same }
class_item (ClassItem x ∷ is) (suc i) c e = item_later (ClassItem x) is c (class_item is i c e)
class_item (RoutineItem x ∷ is) i c e = item_later (RoutineItem x) is c (class_item is i c e)
class_item (ConstItem x ∷ is) i c e = item_later (ConstItem x) is c (class_item is i c e)
class_item (ProtoItem x ∷ is) i c e = item_later (ProtoItem x) is c (class_item is i c e)
class_item (ForwardItem x ∷ is) i c e = item_later (ForwardItem x) is c (class_item is i c e)
class_item (UsingItem x ∷ is) i c e = item_later (UsingItem x) is c (class_item is i c e)

-- routines of members

abbrev pub form_sig : MemberForm → Option Sig
form_sig (FieldsMember at b ds) = None
form_sig (RoutineMember r) = Some r.sig
form_sig (ProtoMember s) = Some s

role_found : (sig s : Sig) (f : MemberForm) → form_sig f ≡ Some s → rules.has_role sig f ≡ visits.same_role sig.role s.role
role_found sig s (FieldsMember at b ds) e = cc
role_found sig s (RoutineMember r) e = let same : r.sig ≡ s = cc in ap (λ (x : Sig). visits.same_role sig.role x.role) same
role_found sig s (ProtoMember x) e = let same : x ≡ s = cc in ap (λ (x : Sig). visits.same_role sig.role x.role) same

module _ (p : Program) where
  item_none : (is : List Item) (k i j : ℕ) (x : Item) → breaks_among (items_visits p k i is) ≡ [] → slice_get is j ≡ Some x → breaks_at (AtItem p x (i + j)) ≡ []
  item_none [] k i j x e g = cc
  item_none (y ∷ is) k i zero x e g =
      let same : y ≡ x = cc in
      let z : i ≡ i + 0 = omega arith in
      let own = first_none (AtItem p y i) (item_visits p k y) (among_left (AtItem p y i ∷ item_visits p k y) (items_visits p (k + classes_in y) (i + 1) is) e) in
      subst (λ n. breaks_at (AtItem p x n) ≡ []) z (subst (λ (q : Item). breaks_at (AtItem p q i) ≡ []) same own)
  item_none (y ∷ is) k i (suc j) x e g =
      let z : i + 1 + j ≡ i + suc j = omega arith in
      subst (λ n. breaks_at (AtItem p x n) ≡ []) z (item_none is (k + classes_in y) (i + 1) j x (among_right (AtItem p y i ∷ item_visits p k y) (items_visits p (k + classes_in y) (i + 1) is) e) g)

  members_none : (h : OwnClass) (c : Class) (k : ℕ) (ms : List Member) (j : ℕ) (m : Member) → breaks_among (members_visits p h c k ms) ≡ [] → slice_get ms j ≡ Some m → breaks_among (form_visits p h c (k + j) m.mark m.access m.form) ≡ []
  members_none h c k [] j m e g = cc
  members_none h c k (y ∷ ms) zero m e g =
      let same : y ≡ m = cc in
      let z : k ≡ k + 0 = omega arith in
      let mark = AtMark (plain_env p (class_around h)) c y in
      let own = rest_none mark (form_visits p h c k y.mark y.access y.form) (among_left (mark ∷ form_visits p h c k y.mark y.access y.form) (members_visits p h c (k + 1) ms) e) in
      subst (λ n. breaks_among (form_visits p h c n m.mark m.access m.form) ≡ []) z (subst (λ (q : Member). breaks_among (form_visits p h c k q.mark q.access q.form) ≡ []) same own)
  members_none h c k (y ∷ ms) (suc j) m e g =
      let z : k + 1 + j ≡ k + suc j = omega arith in
      let mark = AtMark (plain_env p (class_around h)) c y in
      subst (λ n. breaks_among (form_visits p h c n m.mark m.access m.form) ≡ []) z (members_none h c (k + 1) ms j m (among_right (mark ∷ form_visits p h c k y.mark y.access y.form) (members_visits p h c (k + 1) ms) e) g)

  only_of : (c : Class) (proto : Bool) (sig : Sig) (j : ℕ) → is_sound_member p c proto sig j ≡ true → is_only_one c sig j ≡ true
  only_of c proto sig j e = (and_parts (is_only_one c sig j) (is_defined p c proto sig) (and_parts (has_class_name c.name sig) (is_only_one c sig j && is_defined p c proto sig) e).1).0

  form_only : (h : OwnClass) (c : Class) (j : ℕ) (k : MutexMark) (a : Access) (f : MemberForm) (s : Sig) → breaks_among (form_visits p h c j k a f) ≡ [] → form_sig f ≡ Some s → is_only_one c s j ≡ true
  form_only h c j k a (FieldsMember at b ds) s e g = cc
  form_only h c j k a (RoutineMember r) s e g =
      let same : r.sig ≡ s = cc in
      let env = plain_env p (class_around h) in
      let own = first_none (AtRoutine env c false r.sig j) (routine_visits (sig_env p h k r.sig) r) e in
      subst (λ (x : Sig). is_only_one c x j ≡ true) same (only_of c false r.sig j (holds (is_sound_member p c false r.sig j) _ _ (no_left _ _ (no_right _ _ own))))
  form_only h c j k a (ProtoMember x) s e g =
      let same : x ≡ s = cc in
      let env = plain_env p (class_around h) in
      let own = first_none (AtRoutine env c true x j) (sig_visits (sig_env p h k x) x) e in
      subst (λ (x : Sig). is_only_one c x j ≡ true) same (only_of c true x j (holds (is_sound_member p c true x j) _ _ (no_left _ _ (no_right _ _ own))))

  routine_named : (h : OwnClass) (c : Class) (j : ℕ) (k : MutexMark) (a : Access) (r : Routine) → breaks_among (form_visits p h c j k a (RoutineMember r)) ≡ [] → has_class_name c.name r.sig ≡ true
  routine_named h c j k a r e =
      let env = plain_env p (class_around h) in
      let own = first_none (AtRoutine env c false r.sig j) (routine_visits (sig_env p h k r.sig) r) e in
      (and_parts (has_class_name c.name r.sig) (is_only_one c r.sig j && is_defined p c false r.sig) (holds (is_sound_member p c false r.sig j) _ _ (no_left _ _ (no_right _ _ own)))).0

  module _ (none : breaks_of p ≡ []) where
    quiet : breaks_among (items_visits p 0 0 p.items) ≡ []
    quiet = rest_none (AtProgram p) (items_visits p 0 0 p.items) none

    item_quiet : (j : ℕ) (x : Item) → slice_get p.items j ≡ Some x → breaks_at (AtItem p x j) ≡ []
    item_quiet j x e = let z : 0 + j ≡ j = omega arith in subst (λ n. breaks_at (AtItem p x n) ≡ []) z (item_none p.items 0 0 j x quiet e)

    only_one : (i : ℕ) (c : Class) → slice_get (classes_of p.items) i ≡ Some c → (j : ℕ) (m : Member) (s : Sig) → slice_get c.members j ≡ Some m → form_sig m.form ≡ Some s → is_only_one c s j ≡ true
    only_one i c g j m s e f =
        let h : OwnClass = record { class = 0 + i; kind = c.kind } in
        let z : 0 + j ≡ j = omega arith in
        let class = class_none p p.items 0 0 i c quiet g in
        let members = rest_none (AtClass (plain_env p (class_around h)) c (0 + i)) (members_visits p h c 0 c.members) class in
        subst (λ n. is_only_one c s n ≡ true) z (form_only h c (0 + j) m.mark m.access m.form s (members_none h c 0 c.members j m members e) f)

    -- a builder in a class has the name of the class
    pub member_named : (i : ℕ) (c : Class) → slice_get (classes_of p.items) i ≡ Some c → (j : ℕ) (m : Member) (r : Routine) → slice_get c.members j ≡ Some m → m.form ≡ RoutineMember r → is_plain r.sig.role ≡ false → same_name r.sig.name c.name ≡ true
    member_named i c g j m r e f builds =
        let h : OwnClass = record { class = 0 + i; kind = c.kind } in
        let class = class_none p p.items 0 0 i c quiet g in
        let members = rest_none (AtClass (plain_env p (class_around h)) c (0 + i)) (members_visits p h c 0 c.members) class in
        let own = subst (λ (x : MemberForm). breaks_among (form_visits p h c (0 + j) m.mark m.access x) ≡ []) f (members_none h c 0 c.members j m members e) in
        let named = routine_named h c (0 + j) m.mark m.access r own in
        sym (ap (λ b. b || same_name r.sig.name c.name) builds) ∙ (and_parts (is_plain r.sig.role || same_name r.sig.name c.name) (not (is_destructor r.sig.role) || nat_eq (length r.sig.params) 0) named).0

    -- two members of one class do not both build, or destroy
    later_one : (i : ℕ) (c : Class) → slice_get (classes_of p.items) i ≡ Some c → (j k : ℕ) (m n : Member) (s t : Sig) → j < k → slice_get c.members j ≡ Some m → form_sig m.form ≡ Some s → slice_get c.members k ≡ Some n → form_sig n.form ≡ Some t → is_plain t.role ≡ false → visits.same_role t.role s.role ≡ true → ⊥
    later_one i c g j k m n s t l ej fj ek fk builds same =
        let only = only_one i c g k n t ek fk in
        let alone : not (list_any (λ (x : Member). rules.has_role t x.form) (take k c.members)) ≡ true = sym (ap (λ b. b || not (list_any (λ (x : Member). rules.has_role t x.form) (take k c.members))) builds) ∙ only in
        let some = any_at (λ (x : Member). rules.has_role t x.form) (take k c.members) j m (taken_at c.members j k m l ej) (role_found t s m.form fj ∙ same) in
        true≢false (sym some ∙ not_true (list_any (λ (x : Member). rules.has_role t x.form) (take k c.members)) alone)

    pub two_ways : (i : ℕ) (c : Class) → slice_get (classes_of p.items) i ≡ Some c → (j k : ℕ) (m n : Member) (s t : Sig) → (j < k) ⊎ (k ≤ j) → (j ≡ k → ⊥) → slice_get c.members j ≡ Some m → form_sig m.form ≡ Some s → slice_get c.members k ≡ Some n → form_sig n.form ≡ Some t → is_plain t.role ≡ false → s.role ≡ t.role → ⊥
    two_ways i c g j k m n s t (inl l) apart ej fj ek fk builds same = later_one i c g j k m n s t l ej fj ek fk builds (ap (visits.same_role t.role) same ∙ own_role t.role)
    two_ways i c g j k m n s t (inr l) apart ej fj ek fk builds same = two_case (cases_eq j k)
      where
        two_case : (j ≡ k) ⊎ (j ≡ k → ⊥) → ⊥
        two_case (inl e) = apart e
        two_case (inr d) = later_one i c g k j n m t s (omega (arith, l, d)) ek fk ej fj (ap is_plain same ∙ builds) (ap (λ (r : Role). visits.same_role s.role r) (sym same) ∙ own_role s.role)

    -- classes have names of their own

    no_clash : (b : Bool) (c : Class) (xs : List Item) → list_any (clashes b c.name (ClassItem c)) xs ≡ false → list_any (λ n. same_name n c.name) (names_in (classes_of xs)) ≡ false
    no_clash b c [] e = refl
    no_clash b c (ClassItem y ∷ xs) e = by_case (no_clash b c xs) (same_name y.name c.name) e
      where
        by_case : (list_any (clashes b c.name (ClassItem c)) xs ≡ false → list_any (λ n. same_name n c.name) (names_in (classes_of xs)) ≡ false) → (t : Bool) → ((t && true) || list_any (clashes b c.name (ClassItem c)) xs) ≡ false → (t || list_any (λ n. same_name n c.name) (names_in (classes_of xs))) ≡ false
        by_case more true e = cc
        by_case more false e = more e
    no_clash b c (RoutineItem y ∷ xs) e = no_clash b c xs (or_right (clashes b c.name (ClassItem c) (RoutineItem y)) (list_any (clashes b c.name (ClassItem c)) xs) e)
    no_clash b c (ConstItem y ∷ xs) e = no_clash b c xs (or_right (clashes b c.name (ClassItem c) (ConstItem y)) (list_any (clashes b c.name (ClassItem c)) xs) e)
    no_clash b c (ProtoItem y ∷ xs) e = no_clash b c xs (or_right (clashes b c.name (ClassItem c) (ProtoItem y)) (list_any (clashes b c.name (ClassItem c)) xs) e)
    no_clash b c (ForwardItem y ∷ xs) e = no_clash b c xs (or_right (clashes b c.name (ClassItem c) (ForwardItem y)) (list_any (clashes b c.name (ClassItem c)) xs) e)
    no_clash b c (UsingItem y ∷ xs) e = no_clash b c xs (or_right (clashes b c.name (ClassItem c) (UsingItem y)) (list_any (clashes b c.name (ClassItem c)) xs) e)

    pub class_new : (before : List Item) (c : Class) (after : List Item) → p.items ≡ before ++ ClassItem c ∷ after → list_any (λ n. same_name n c.name) (names_in (classes_of before)) ≡ false
    class_new before c after is =
        let here = ap (λ xs. slice_get xs (length before)) is ∙ behind_at before (ClassItem c) after in
        let b = list_any (is_named_proto c.name) p.items in
        let first : take (length before) p.items ≡ before = ap (take (length before)) is ∙ take_at before (ClassItem c ∷ after) (length before) refl in
        let new = holds (is_new_item p (ClassItem c) (length before) (Some c.name)) _ _ (no_left _ _ (item_quiet (length before) (ClassItem c) here)) in
        let quiet = or_left (list_any (clashes b c.name (ClassItem c)) (take (length before) p.items)) (is_given c.name) (not_true (list_any (clashes b c.name (ClassItem c)) (take (length before) p.items) || is_given c.name) new) in
        no_clash b c before (ap (list_any (clashes b c.name (ClassItem c))) (sym first) ∙ quiet)

    -- nor that of a routine outside of classes

    outer_clash : (j l : ℕ) (q : Routine) (c : Class) → slice_get p.items j ≡ Some (RoutineItem q) → q.sig.owner ≡ owner.Here → slice_get p.items l ≡ Some (ClassItem c) → c.name ≡ q.sig.name → j < l → ⊥
    outer_clash j l q c e o f n first =
        let b = list_any (is_named_proto c.name) p.items in
        let new = holds (is_new_item p (ClassItem c) l (Some c.name)) _ _ (no_left _ _ (item_quiet l (ClassItem c) f)) in
        let quiet = or_left (list_any (clashes b c.name (ClassItem c)) (take l p.items)) (is_given c.name) (not_true (list_any (clashes b c.name (ClassItem c)) (take l p.items) || is_given c.name) new) in
        let clash : clashes b c.name (ClassItem c) (RoutineItem q) ≡ true =
        ap (λ w. is_named (if is_here w then Some q.sig.name else None) c.name && true) o
        ∙ ap (λ x. same_name q.sig.name x && true) n
        ∙ ap (λ t. t && true) (same_self q.sig.name) in
        true≢false (sym (any_at (clashes b c.name (ClassItem c)) (take l p.items) j (RoutineItem q) (taken_at p.items j l (RoutineItem q) first e) clash) ∙ quiet)

    class_clash : (j l : ℕ) (q : Routine) (c : Class) → slice_get p.items j ≡ Some (RoutineItem q) → q.sig.owner ≡ owner.Here → slice_get p.items l ≡ Some (ClassItem c) → c.name ≡ q.sig.name → l < j → ⊥
    class_clash j l q c e o f n first =
        let b = list_any (is_named_proto q.sig.name) p.items in
        let name = q.sig.name in
        let named : outer_name q.sig ≡ Some q.sig.name = ap (λ w. if is_here w then Some q.sig.name else None) o in
        let new : is_new_item p (RoutineItem q) j (Some name) ≡ true = sym (ap (is_new_item p (RoutineItem q) j) named) ∙ holds (is_new_item p (RoutineItem q) j (outer_name q.sig)) _ _ (no_left _ _ (item_quiet j (RoutineItem q) e)) in
        let quiet = or_left (list_any (clashes b name (RoutineItem q)) (take j p.items)) (is_given name) (not_true (list_any (clashes b name (RoutineItem q)) (take j p.items) || is_given name) new) in
        let clash : clashes b name (RoutineItem q) (ClassItem c) ≡ true =
        ap (λ t. same_name c.name name && not (false || t)) (and_none b)
        ∙ ap (λ x. same_name x name && true) n
        ∙ ap (λ t. t && true) (same_self name) in
        true≢false (sym (any_at (clashes b name (RoutineItem q)) (take j p.items) l (ClassItem c) (taken_at p.items l j (ClassItem c) first f) clash) ∙ quiet)

    pub outer_named : (j l : ℕ) (q : Routine) (c : Class) → slice_get p.items j ≡ Some (RoutineItem q) → q.sig.owner ≡ owner.Here → slice_get p.items l ≡ Some (ClassItem c) → c.name ≡ q.sig.name → ⊥
    outer_named j l q c e o f n = by_order (cases_lt j l)
      where
        by_place : (l ≡ j) ⊎ (l ≡ j → ⊥) → l ≤ j → ⊥
        by_place (inl same) h = let two : Some (ClassItem c) ≡ Some (RoutineItem q) = sym f ∙ ap (slice_get p.items) same ∙ e in cc
        by_place (inr apart) h = class_clash j l q c e o f n (omega (arith, h, apart))

        by_order : (j < l) ⊎ (l ≤ j) → ⊥
        by_order (inl h) = outer_clash j l q c e o f n h
        by_order (inr h) = by_place (cases_eq l j) h

    fresh_classes : (before is : List Item) → p.items ≡ before ++ is → Fresh (names_in (classes_of before)) (names_in (classes_of is))
    fresh_classes before [] e = tt
    fresh_classes before (x ∷ is) e = by_item x e (fresh_classes (before ++ x ∷ []) is (e ∙ sym (append_assoc before (x ∷ []) is)))
      where
        by_item : (x : Item) → p.items ≡ before ++ x ∷ is → Fresh (names_in (classes_of (before ++ x ∷ []))) (names_in (classes_of is)) → Fresh (names_in (classes_of before)) (names_in (classes_of (x ∷ is)))
        by_item (ClassItem c) e f = (class_new before c is e, subst (λ ns. Fresh ns (names_in (classes_of is))) (ap names_in (classes_join before (ClassItem c ∷ [])) ∙ names_join (classes_of before) (c ∷ [])) f)
        by_item (RoutineItem y) e f = subst (λ ns. Fresh ns (names_in (classes_of is))) (ap names_in (classes_join before (RoutineItem y ∷ []) ∙ append-nil (classes_of before))) f
        by_item (ConstItem y) e f = subst (λ ns. Fresh ns (names_in (classes_of is))) (ap names_in (classes_join before (ConstItem y ∷ []) ∙ append-nil (classes_of before))) f
        by_item (ProtoItem y) e f = subst (λ ns. Fresh ns (names_in (classes_of is))) (ap names_in (classes_join before (ProtoItem y ∷ []) ∙ append-nil (classes_of before))) f
        by_item (ForwardItem y) e f = subst (λ ns. Fresh ns (names_in (classes_of is))) (ap names_in (classes_join before (ForwardItem y ∷ []) ∙ append-nil (classes_of before))) f
        by_item (UsingItem y) e f = subst (λ ns. Fresh ns (names_in (classes_of is))) (ap names_in (classes_join before (UsingItem y ∷ []) ∙ append-nil (classes_of before))) f

    -- what is defined outside of its class is declared in it

    member_sound : (j : ℕ) (r : Routine) (name : List ℕ) → slice_get p.items j ≡ Some (RoutineItem r) → r.sig.owner ≡ owner.Class name → is_member_definition p name (owner_home p (owner.Class name)) r.sig j ≡ true
    member_sound j r name e o =
        sym (ap (λ w. is_definition p w r.sig j) o) ∙ holds (is_sound_item p (RoutineItem r) j) _ _ (no_left _ _ (no_right _ _ (item_quiet j (RoutineItem r) e)))

    -- what has the owner uMain is main
    pub main_plain : (j : ℕ) (q : Routine) → slice_get p.items j ≡ Some (RoutineItem q) → q.sig.owner ≡ owner.Main → is_plain q.sig.role ≡ true
    main_plain j q e o =
        let main : is_program_main q.sig ≡ true = sym (ap (λ w. is_definition p w q.sig j) o) ∙ holds (is_sound_item p (RoutineItem q) j) _ _ (no_left _ _ (no_right _ _ (item_quiet j (RoutineItem q) e))) in
        (and_parts (is_plain q.sig.role) (same_name q.sig.name main_name && (is_main_base q.sig.owner q.sig.ret && nat_eq (length q.sig.params) 0)) main).0

    pub record IsHome (name : List ℕ) (sig : Sig) (j : ℕ) : Type 0 where
      pub class : ℕ
      pub kind : Kind
      pub is : class_named p name ≡ Some (Object class kind)
      pub named : has_class_name name sig ≡ true
      pub declared : class_declares sig (class_at p class) ≡ true
      pub alone : list_any (defines_member name sig) (take j p.items) ≡ false

    home_case : (name : List ℕ) (sig : Sig) (j : ℕ) (o : Option Sort) → class_named p name ≡ o → is_member_definition p name (option_and_then home_of o) sig j ≡ true → IsHome name sig j
    home_case name sig j None e h = cc
    home_case name sig j (Some sort.Void) e h = cc
    home_case name sig j (Some sort.Int) e h = cc
    home_case name sig j (Some sort.Char) e h = cc
    home_case name sig j (Some sort.Bool) e h = cc
    home_case name sig j (Some sort.Condition) e h = cc
    home_case name sig j (Some sort.Cluster) e h = cc
    home_case name sig j (Some sort.Processor) e h = cc
    home_case name sig j (Some (sort.Object class k)) e h =
        let parts = and_parts (has_class_name name sig) (class_declares sig (class_at p class) && not (list_any (defines_member name sig) (take j p.items))) h in
        let rest = and_parts (class_declares sig (class_at p class)) (not (list_any (defines_member name sig) (take j p.items))) parts.1 in
        record { class = class; kind = k; is = e; named = parts.0; declared = rest.0; alone = not_true (list_any (defines_member name sig) (take j p.items)) rest.1 }

    pub home_at : (j : ℕ) (r : Routine) (name : List ℕ) → slice_get p.items j ≡ Some (RoutineItem r) → r.sig.owner ≡ owner.Class name → IsHome name r.sig j
    home_at j r name e o = home_case name r.sig j (class_named p name) refl (member_sound j r name e o)

    -- a builder has the name of its class
    pub builder_named : (name : List ℕ) (sig : Sig) (j : ℕ) → IsHome name sig j → is_plain sig.role ≡ false → same_name sig.name name ≡ true
    builder_named name sig j h builds =
        sym (ap (λ b. b || same_name sig.name name) builds) ∙ (and_parts (is_plain sig.role || same_name sig.name name) (not (is_destructor sig.role) || nat_eq (length sig.params) 0) h.named).0

    proto_role : (sig : Sig) (f : MemberForm) → form_declares_sig sig f ≡ true → (s : Sig) × ((form_sig f ≡ Some s) × (s.role ≡ sig.role))
    proto_role sig (FieldsMember at b ds) e = cc
    proto_role sig (RoutineMember r) e = cc
    proto_role sig (ProtoMember s) e = (s, (refl, role_is s.role sig.role (and_parts (visits.same_role s.role sig.role) (same_name s.name sig.name && (same_base s.ret sig.ret && same_params s.params sig.params)) e).0))

    no_routine : (sig : Sig) (f : MemberForm) (r : Routine) → f ≡ RoutineMember r → form_declares_sig sig f ≡ true → ⊥
    no_routine sig f r e h = true≢false (sym h ∙ ap (form_declares_sig sig) e)

    -- so no member with a body has its role too
    pub not_both : (i : ℕ) (c : Class) (j k : ℕ) (r q : Routine) (m : Member) (name : List ℕ) → slice_get (classes_of p.items) i ≡ Some c → c.name ≡ name → slice_get p.items j ≡ Some (RoutineItem r) → r.sig.owner ≡ owner.Class name → is_plain r.sig.role ≡ false → slice_get c.members k ≡ Some m → m.form ≡ RoutineMember q → q.sig.role ≡ r.sig.role → ⊥
    not_both i c j k r q m name g named e o builds at form same =
        let h = home_at j r name e o in
        let z : 0 + i ≡ i = omega arith in
        let place : h.class ≡ i = first_named (classes_of p.items) [] 0 i h.class h.kind c name (fresh_classes [] p.items refl) g named h.is ∙ z in
        let mine : list_any (λ (x : Member). form_declares_sig r.sig x.form) c.members ≡ true = ap (class_declares r.sig) (sym (ap (class_at p) place ∙ g)) ∙ h.declared in
        let f = found (λ (x : Member). form_declares_sig r.sig x.form) c.members mine in
        let s = proto_role r.sig f.one.form f.passes in
        let t : form_sig m.form ≡ Some q.sig = ap form_sig form in
        two_ways i c g f.place k f.one m s.0 q.sig (cases_lt f.place k)
        (λ d. let there : Some f.one ≡ Some m = sym f.there ∙ ap (slice_get c.members) d ∙ at in let is : f.one ≡ m = cc in no_routine r.sig f.one.form q (ap (λ (x : Member). x.form) is ∙ form) f.passes)
        f.there s.1.0 at t (ap is_plain same ∙ builds) (s.1.1 ∙ sym same)
