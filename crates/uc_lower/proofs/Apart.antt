-- No two written routines build, or destroy, the objects of one class, or an event, where the rules are kept.
use Rattle.std.proofs.Common.{◌≡◌, ℕ, zero, suc, List, [], ◌∷◌, ◌++◌, Bool, true, false, ◌&&◌, ◌||◌, Some, length, take, refl, ap, sym, subst, ◌∙◌, arith, append_assoc, true≢false, ◌⊎◌, inl, inr}
use Rattle.std.specs.Prelude.{slice_get, unwrap_or}
use Rattle.std.specs.List.{list_any}
use Rattle.std.specs.Cmp.Lexicographic.{bytes_decides}
use Rattle.std.proofs.lemmas.List.{append-nil, take_at}
use Rattle.uc_tree.specs.declared.kinds.Owner.{Owner}
use Rattle.uc_tree.specs.declared.kinds.Owner.TheVariants as owner
use Rattle.uc_tree.specs.declared.kinds.Role.{Role}
use Rattle.uc_tree.specs.Names.{same_name}
use Rattle.uc_tree.specs.Programs.{Sig, Routine, MemberForm, FieldsMember, RoutineMember, ProtoMember, Member, Class, Item, ClassItem, RoutineItem, ConstItem, ProtoItem, ForwardItem, UsingItem, Program}
use Rattle.uc_tree.specs.Cells.{classes_of}
use Rattle.uc_tree.specs.Numbering.{Defined, class_number, defined_by, form_defined, in_class, is_plain, item_defined, items_defined, members_defined, routines_of}
use Rattle.uc_tree.specs.Objects.{place_of}
use Rattle.uc_tree.specs.Objects as objects
use Rattle.uc_resolve.specs.Resolve.{place_by}
use Rattle.uc_rules.specs.Breaks.{breaks_of}
use Rattle.uc_rules.specs.ItemBreaks.{defines_member}
use Rattle.uc_rules.specs.ClassBreaks.{is_owner}
use Rattle.uc_rules.specs.ProgramVisits as visits
use Rattle.uc_lower.proofs.Distinct.{same_self}
use Rattle.uc_lower.proofs.Numbers.{names_in, number_back, same_number}
use Rattle.uc_lower.proofs.Owed.{IsApart, AreApart}
use Rattle.uc_lower.proofs.Placed.{ByName, ByNumber, IsEventAt, PlacedBy, belongs, belongs_placed, not_event, placed_by}
use Rattle.uc_lower.proofs.Alone.{any_at, behind_at, builder_named, class_index, class_item, class_new, form_sig, home_at, inside, joined_at, main_plain, member_named, not_both, outer_named, own_role, role_is, same_roles, two_ways}

-- where an element stands

pub record IsIn {A : Type 0} (xs : List A) (x : A) : Type 0 where
  pub place : ℕ
  pub there : slice_get xs place ≡ Some x

split_in : {A : Type 0} (xs ys : List A) (k : ℕ) (x : A) → slice_get (xs ++ ys) k ≡ Some x → IsIn xs x ⊎ IsIn ys x
split_in [] ys k x e = inr (record { place = k; there = e })
split_in (y ∷ xs) ys zero x e = inl (record { place = 0; there = e })
split_in (y ∷ xs) ys (suc k) x e = later (split_in xs ys k x e)
  where
    later : IsIn xs x ⊎ IsIn ys x → IsIn (y ∷ xs) x ⊎ IsIn ys x
    later (inl h) = inl (record { place = suc h.place; there = h.there })
    later (inr h) = inr h

-- where a routine comes from

pub record IsOfMembers (p : Program) (name : List ℕ) (ms : List Member) (d : Defined) : Type 0 where
  pub place : ℕ
  pub member : Member
  pub routine : Routine
  pub there : slice_get ms place ≡ Some member
  pub form : member.form ≡ RoutineMember routine
  pub is : d ≡ in_class p name routine

of_later : (p : Program) (name : List ℕ) (m : Member) (ms : List Member) (d : Defined) → IsOfMembers p name ms d → IsOfMembers p name (m ∷ ms) d
of_later p name m ms d h = record { place = suc h.place; member = h.member; routine = h.routine; there = h.there; form = h.form; is = h.is }

of_members : (p : Program) (name : List ℕ) (ms : List Member) (k : ℕ) (d : Defined) → slice_get (members_defined p name ms) k ≡ Some d → IsOfMembers p name ms d
of_members p name [] k d e = cc
of_members p name (m ∷ ms) k d e = by_form (λ k e. of_members p name ms k d e) m.form refl k e
  where
    by_form : ((k : ℕ) → slice_get (members_defined p name ms) k ≡ Some d → IsOfMembers p name ms d) → (f : MemberForm) → m.form ≡ f → (k : ℕ) → slice_get (form_defined p name f ++ members_defined p name ms) k ≡ Some d → IsOfMembers p name (m ∷ ms) d
    by_form more (FieldsMember at b ds) g k e = of_later p name m ms d (more k e)
    by_form more (RoutineMember r) g zero e = record { place = 0; member = m; routine = r; there = refl; form = g; is = (cc) }
    by_form more (RoutineMember r) g (suc k) e = of_later p name m ms d (more k e)
    by_form more (ProtoMember s) g k e = of_later p name m ms d (more k e)

data Comes (p : Program) (is : List Item) (d : Defined) : Type 0 where
  OfClass : (j : ℕ) (c : Class) → slice_get is j ≡ Some (ClassItem c) → IsOfMembers p c.name c.members d → Comes p is d
  OfItem : (j : ℕ) (r : Routine) → slice_get is j ≡ Some (RoutineItem r) → d ≡ defined_by p r.sig.owner r → Comes p is d

comes_later : (p : Program) (x : Item) (is : List Item) (d : Defined) → Comes p is d → Comes p (x ∷ is) d
comes_later p x is d (OfClass j c e h) = OfClass (suc j) c e h
comes_later p x is d (OfItem j r e h) = OfItem (suc j) r e h

comes_here : (p : Program) (x : Item) (is : List Item) (d : Defined) → IsIn (item_defined p x) d → Comes p (x ∷ is) d
comes_here p (ClassItem c) is d h = OfClass 0 c refl (of_members p c.name c.members h.place d h.there)
comes_here p (RoutineItem r) is d h = OfItem 0 r refl (alone h.place h.there)
  where
    alone : (k : ℕ) → slice_get (defined_by p r.sig.owner r ∷ []) k ≡ Some d → d ≡ defined_by p r.sig.owner r
    alone zero e = cc
    alone (suc k) e = cc
comes_here p (ConstItem x) is d h = let e = h.there in cc
comes_here p (ProtoItem x) is d h = let e = h.there in cc
comes_here p (ForwardItem x) is d h = let e = h.there in cc
comes_here p (UsingItem x) is d h = let e = h.there in cc

comes : (p : Program) (is : List Item) (k : ℕ) (d : Defined) → slice_get (items_defined p is) k ≡ Some d → Comes p is d
comes p [] k d e = cc
comes p (x ∷ is) k d e = by_part (λ k e. comes p is k d e) (split_in (item_defined p x) (items_defined p is) k d e)
  where
    by_part : ((k : ℕ) → slice_get (items_defined p is) k ≡ Some d → Comes p is d) → IsIn (item_defined p x) d ⊎ IsIn (items_defined p is) d → Comes p (x ∷ is) d
    by_part more (inl h) = comes_here p x is d h
    by_part more (inr h) = comes_later p x is d (more h.place h.there)

none_of : (P : Defined → Bool) (seen : List Defined) → ((d : Defined) → IsIn seen d → P d ≡ true → ⊥) → list_any P seen ≡ false
none_of P [] f = refl
none_of P (d ∷ ds) f = by_case (P d) refl (none_of P ds (λ x h e. f x (record { place = suc h.place; there = h.there }) e))
  where
    by_case : (b : Bool) → P d ≡ b → list_any P ds ≡ false → (b || list_any P ds) ≡ false
    by_case true e more = absurd (f d (record { place = 0; there = refl }) e)
    by_case false e more = more

zero_nowhere : (cs : List Class) (i0 i : ℕ) → objects.place_from cs i0 0 ≡ Some i → ⊥
zero_nowhere [] i0 i e = cc
zero_nowhere (c ∷ cs) i0 i e = cc

named_at : (cs : List Class) (i : ℕ) (c : Class) → slice_get cs i ≡ Some c → slice_get (names_in cs) i ≡ Some c.name
named_at [] i c e = cc
named_at (x ∷ xs) zero c e = let same : x ≡ c = cc in ap (λ (y : Class). Some y.name) same
named_at (x ∷ xs) (suc i) c e = named_at xs i c e

apart_join : (p : Program) (seen xs ys : List Defined) → AreApart p seen xs → AreApart p (seen ++ xs) ys → AreApart p seen (xs ++ ys)
apart_join p seen [] ys a b = subst (λ ds. AreApart p ds ys) (append-nil seen) b
apart_join p seen (x ∷ xs) ys a b = (a.0, apart_join p (seen ++ x ∷ []) xs ys a.1 (subst (λ ds. AreApart p ds ys) (sym (append_assoc seen (x ∷ []) xs)) b))

-- what a routine is, wherever it stands

abbrev sig_of : Defined → Sig
sig_of d = d.routine.sig

owned_sig : (p : Program) (o : Owner) (q : Routine) → sig_of (defined_by p o q) ≡ q.sig
owned_sig p owner.Here q = refl
owned_sig p owner.Main q = refl
owned_sig p (owner.Class name) q = refl

module _ (p : Program) (none : breaks_of p ≡ []) where
  -- a routine of the same role in the same class
  record IsTwin (i : ℕ) (r : Role) (d : Defined) : Type 0 where
    placed : PlacedBy p d i
    role_is : d.routine.sig.role ≡ r

  twin : (i : ℕ) (r : Role) (d : Defined) → belongs p i r d ≡ true → IsTwin i r d
  twin i r d e =
      let h = belongs_placed p i r d e in
      record { placed = placed_by p d i h.0; role_is = sym (role_is r d.routine.sig.role (same_roles r d.routine.sig.role ∙ h.1)) }

  -- all routines of this role in the class with this place are of the class of this name
  record Homes (name : List ℕ) (i : ℕ) (r : Role) : Type 0 where
    member : (j : ℕ) (c : Class) (k : ℕ) (m : Member) (q : Routine) (d : Defined) → slice_get p.items j ≡ Some (ClassItem c) → slice_get c.members k ≡ Some m → m.form ≡ RoutineMember q → d ≡ in_class p c.name q → IsTwin i r d → (c.name ≡ name) × (q.sig.role ≡ r)
    item : (j : ℕ) (q : Routine) (d : Defined) → slice_get p.items j ≡ Some (RoutineItem q) → d ≡ defined_by p q.sig.owner q → IsTwin i r d → (q.sig.owner ≡ owner.Class name) × (q.sig.role ≡ r)

  -- of a class with a number

  module _ (name : List ℕ) (i : ℕ) (r : Role) (e : place_of p (unwrap_or (class_number p name) 0) ≡ Some i) where
    numbered : (d : Defined) → IsTwin i r d → place_of p d.number ≡ Some i
    numbered d t = by_way t.placed
      where
        by_way : PlacedBy p d i → place_of p d.number ≡ Some i
        by_way (ByNumber f) = f
        by_way (ByName k z x) = absurd (not_event p i (unwrap_or (class_number p name) 0) d.routine.sig.name e x)

    twin_named : (other : List ℕ) (q : Routine) (d : Defined) → d ≡ in_class p other q → IsTwin i r d → (other ≡ name) × (q.sig.role ≡ r)
    twin_named other q d is t =
        let f : place_of p (unwrap_or (class_number p other) 0) ≡ Some i = ap (λ (x : Defined). place_of p x.number) (sym is) ∙ numbered d t in
        let same : unwrap_or (class_number p other) 0 ≡ unwrap_or (class_number p name) 0 = sym (number_back p other i f) ∙ number_back p name i e in
        (same_number p name other i e same, ap (λ (x : Defined). x.routine.sig.role) (sym is) ∙ t.role_is)

    owned_case : (o : Owner) (q : Routine) (d : Defined) → d ≡ defined_by p o q → IsTwin i r d → (o ≡ owner.Class name) × (q.sig.role ≡ r)
    owned_case owner.Here q d is t = absurd (zero_nowhere (classes_of p.items) 0 i (ap (λ (x : Defined). place_of p x.number) (sym is) ∙ numbered d t))
    owned_case owner.Main q d is t = absurd (zero_nowhere (classes_of p.items) 0 i (ap (λ (x : Defined). place_of p x.number) (sym is) ∙ numbered d t))
    owned_case (owner.Class other) q d is t = let h = twin_named other q d is t in (ap owner.Class h.0, h.1)

    numbered_homes : Homes name i r
    numbered_homes = record {
      member = λ j c k m q d there at form is t. twin_named c.name q d is t;
      item = λ j q d there is t. owned_case q.sig.owner q d is t;
    }

  -- a builder that an event names stands in it, or is defined as its member
  event_owned : (j i : ℕ) (q : Routine) (o : Owner) → slice_get p.items j ≡ Some (RoutineItem q) → q.sig.owner ≡ o → is_plain q.sig.role ≡ false → IsEventAt p i q.sig.name → o ≡ owner.Class q.sig.name
  event_owned j i q owner.Here there own builds x =
      let class = class_item p.items i x.class x.there in
      absurd (outer_named p none j class.place q x.class there own class.there x.named)
  event_owned j i q owner.Main there own builds x = absurd (true≢false (sym (main_plain p none j q there own) ∙ builds))
  event_owned j i q (owner.Class other) there own builds x =
      let home = home_at p none j q other there own in
      ap owner.Class (sym ((bytes_decides q.sig.name other).0 (builder_named p none other q.sig j home builds)))

  -- of an event

  module _ (name : List ℕ) (i : ℕ) (r : Role) (builds : is_plain r ≡ false) (e : IsEventAt p i name) where
    named : (d : Defined) → IsTwin i r d → IsEventAt p i d.routine.sig.name
    named d t = by_way t.placed
      where
        by_way : PlacedBy p d i → IsEventAt p i d.routine.sig.name
        by_way (ByNumber f) = absurd (not_event p i d.number name f e)
        by_way (ByName k z x) = x

    same_event : (other : List ℕ) → IsEventAt p i other → other ≡ name
    same_event other x =
        let both : Some x.class ≡ Some e.class = sym x.there ∙ e.there in
        let same : x.class ≡ e.class = cc in
        sym x.named ∙ ap (λ (c : Class). c.name) same ∙ e.named

    event_homes : Homes name i r
    event_homes = record {
      member = λ j c k m q d there at form is t.
          let role : q.sig.role ≡ r = ap (λ (x : Defined). x.routine.sig.role) (sym is) ∙ t.role_is in
          let place = class_index p.items j c there in
          let own : q.sig.name ≡ c.name = (bytes_decides q.sig.name c.name).0 (member_named p none place.place c place.there k m q at form (ap is_plain role ∙ builds)) in
          let its : q.sig.name ≡ name = ap (λ (x : Defined). x.routine.sig.name) (sym is) ∙ same_event d.routine.sig.name (named d t) in
          (sym own ∙ its, role);
      item = λ j q d there is t.
          let sig : d.routine.sig ≡ q.sig = ap sig_of is ∙ owned_sig p q.sig.owner q in
          let role : q.sig.role ≡ r = sym (ap (λ (s : Sig). s.role) sig) ∙ t.role_is in
          let x : IsEventAt p i q.sig.name = subst (λ (s : Sig). IsEventAt p i s.name) sig (named d t) in
          let own = event_owned j i q q.sig.owner there refl (ap is_plain role ∙ builds) x in
          (own ∙ ap owner.Class (same_event q.sig.name x), role);
    }

  -- a routine that stands outside of its class
  item_alone : (before : List Item) (r : Routine) (after : List Item) (name : List ℕ) → p.items ≡ before ++ RoutineItem r ∷ after → r.sig.owner ≡ owner.Class name → (i : ℕ) → Homes name i r.sig.role → is_plain r.sig.role ≡ false → (d : Defined) → Comes p before d → IsTwin i r.sig.role d → ⊥
  item_alone before r after name is own i homes builds d (OfClass j c there m) t =
      let here = ap (λ xs. slice_get xs (length before)) is ∙ behind_at before (RoutineItem r) after in
      let all = ap (λ xs. slice_get xs j) is ∙ joined_at before (RoutineItem r ∷ after) j (ClassItem c) there in
      let k = class_index p.items j c all in
      let h = homes.member j c m.place m.member m.routine d all m.there m.form m.is t in
      not_both p none k.place c (length before) m.place r m.routine m.member name k.there h.0 here own builds m.there m.form h.1
  item_alone before r after name is own i homes builds d (OfItem j q there m) t =
      let here = ap (λ xs. slice_get xs (length before)) is ∙ behind_at before (RoutineItem r) after in
      let all = ap (λ xs. slice_get xs j) is ∙ joined_at before (RoutineItem r ∷ after) j (RoutineItem q) there in
      let h = homes.item j q d all m t in
      let home = home_at p none (length before) r name here own in
      let other = home_at p none j q name all h.0 in
      let mine : r.sig.name ≡ name = (bytes_decides r.sig.name name).0 (builder_named p none name r.sig (length before) home builds) in
      let theirs : q.sig.name ≡ name = (bytes_decides q.sig.name name).0 (builder_named p none name q.sig j other (ap is_plain h.1 ∙ builds)) in
      let names : same_name r.sig.name q.sig.name ≡ true = ap (λ n. same_name n q.sig.name) (mine ∙ sym theirs) ∙ same_self q.sig.name in
      let roles : visits.same_role r.sig.role q.sig.role ≡ true = ap (visits.same_role r.sig.role) h.1 ∙ own_role r.sig.role in
      let owner : is_owner name q.sig.owner ≡ true = ap (is_owner name) h.0 ∙ same_self name in
      let passes : defines_member name r.sig (RoutineItem q) ≡ true = ap (λ b. b && (visits.same_role r.sig.role q.sig.role && same_name r.sig.name q.sig.name)) owner ∙ ap (λ b. b && same_name r.sig.name q.sig.name) roles ∙ names in
      let first : take (length before) p.items ≡ before = ap (take (length before)) is ∙ take_at before (RoutineItem r ∷ after) (length before) refl in
      true≢false (sym (any_at (defines_member name r.sig) before j (RoutineItem q) there passes) ∙ ap (list_any (defines_member name r.sig)) (sym first) ∙ home.alone)

  -- a member, behind the items before its class
  member_alone : (before : List Item) (c : Class) (after : List Item) (k : ℕ) (m : Member) (r : Routine) → p.items ≡ before ++ ClassItem c ∷ after → slice_get c.members k ≡ Some m → m.form ≡ RoutineMember r → (i : ℕ) → Homes c.name i r.sig.role → is_plain r.sig.role ≡ false → (d : Defined) → Comes p before d → IsTwin i r.sig.role d → ⊥
  member_alone before c after k m r is at form i homes builds d (OfClass j x there own) t =
      let all = ap (λ xs. slice_get xs j) is ∙ joined_at before (ClassItem c ∷ after) j (ClassItem x) there in
      let h = homes.member j x own.place own.member own.routine d all own.there own.form own.is t in
      let place = class_index before j x there in
      let stands = any_at (λ n. same_name n c.name) (names_in (classes_of before)) place.place x.name (named_at (classes_of before) place.place x place.there) (ap (λ n. same_name n c.name) h.0 ∙ same_self c.name) in
      true≢false (sym stands ∙ class_new p none before c after is)
  member_alone before c after k m r is at form i homes builds d (OfItem j q there own) t =
      let here = ap (λ xs. slice_get xs (length before)) is ∙ behind_at before (ClassItem c) after in
      let all = ap (λ xs. slice_get xs j) is ∙ joined_at before (ClassItem c ∷ after) j (RoutineItem q) there in
      let h = homes.item j q d all own t in
      let place = class_index p.items (length before) c here in
      not_both p none place.place c j k q r m c.name place.there refl all h.0 (ap is_plain h.1 ∙ builds) at form (sym h.1)

  -- behind the members before it
  own_alone : (before : List Item) (c : Class) (after : List Item) (first : List Member) (m : Member) (rest : List Member) (r : Routine) → p.items ≡ before ++ ClassItem c ∷ after → c.members ≡ first ++ m ∷ rest → m.form ≡ RoutineMember r → (i : ℕ) → Homes c.name i r.sig.role → is_plain r.sig.role ≡ false → (d : Defined) → IsOfMembers p c.name first d → IsTwin i r.sig.role d → ⊥
  own_alone before c after first m rest r is split form i homes builds d own t =
      let here = ap (λ xs. slice_get xs (length before)) is ∙ behind_at before (ClassItem c) after in
      let place = class_index p.items (length before) c here in
      let l = inside first own.place own.member own.there in
      let at : slice_get c.members own.place ≡ Some own.member = ap (λ xs. slice_get xs own.place) split ∙ joined_at first (m ∷ rest) own.place own.member own.there in
      let mine : slice_get c.members (length first) ≡ Some m = ap (λ xs. slice_get xs (length first)) split ∙ behind_at first m rest in
      let h = homes.member (length before) c own.place own.member own.routine d here at own.form own.is t in
      two_ways p none place.place c place.there own.place (length first) own.member m own.routine.sig r.sig (inl l) (λ d. omega (arith, l, d)) at (ap form_sig own.form) mine (ap form_sig form) builds h.1

  class_apart : (before : List Item) (c : Class) (after : List Item) → p.items ≡ before ++ ClassItem c ∷ after → (first ms : List Member) → c.members ≡ first ++ ms → AreApart p (items_defined p before ++ members_defined p c.name first) (members_defined p c.name ms)
  class_apart before c after is first [] split = tt
  class_apart before c after is first (m ∷ ms) split = by_form m.form refl (class_apart before c after is (first ++ m ∷ []) ms (split ∙ sym (append_assoc first (m ∷ []) ms)))
    where
      members_join : (xs : List Member) (y : Member) → members_defined p c.name (xs ++ y ∷ []) ≡ members_defined p c.name xs ++ form_defined p c.name y.form
      members_join [] y = append-nil (form_defined p c.name y.form)
      members_join (x ∷ xs) y = ap (λ ds. form_defined p c.name x.form ++ ds) (members_join xs y) ∙ sym (append_assoc (form_defined p c.name x.form) (members_defined p c.name xs) (form_defined p c.name y.form))

      mine : slice_get c.members (length first) ≡ Some m
      mine = ap (λ xs. slice_get xs (length first)) split ∙ behind_at first m ms

      homes : (r : Routine) → m.form ≡ RoutineMember r → (i : ℕ) → is_plain r.sig.role ≡ false → PlacedBy p (in_class p c.name r) i → Homes c.name i r.sig.role
      homes r form i b (ByNumber e) = numbered_homes c.name i r.sig.role e
      homes r form i b (ByName k z x) =
          let here = ap (λ xs. slice_get xs (length before)) is ∙ behind_at before (ClassItem c) after in
          let place = class_index p.items (length before) c here in
          let own : r.sig.name ≡ c.name = (bytes_decides r.sig.name c.name).0 (member_named p none place.place c place.there (length first) m r mine form b) in
          event_homes c.name i r.sig.role b (subst (IsEventAt p i) own x)

      clash : (r : Routine) → m.form ≡ RoutineMember r → (i : ℕ) → place_by p (in_class p c.name r) ≡ Some i → is_plain r.sig.role ≡ false → (d : Defined) → IsIn (items_defined p before ++ members_defined p c.name first) d → belongs p i r.sig.role d ≡ true → ⊥
      clash r form i e b d h t = by_part (split_in (items_defined p before) (members_defined p c.name first) h.place d h.there)
        where
          all : Homes c.name i r.sig.role
          all = homes r form i b (placed_by p (in_class p c.name r) i e)

          by_part : IsIn (items_defined p before) d ⊎ IsIn (members_defined p c.name first) d → ⊥
          by_part (inl g) = member_alone before c after (length first) m r is mine form i all b d (comes p before g.place d g.there) (twin i r.sig.role d t)
          by_part (inr g) = own_alone before c after first m ms r is split form i all b d (of_members p c.name first g.place d g.there) (twin i r.sig.role d t)

      by_form : (f : MemberForm) → m.form ≡ f → AreApart p (items_defined p before ++ members_defined p c.name (first ++ m ∷ [])) (members_defined p c.name ms) → AreApart p (items_defined p before ++ members_defined p c.name first) (form_defined p c.name f ++ members_defined p c.name ms)
      by_form (FieldsMember at b ds) g a = subst (λ xs. AreApart p (items_defined p before ++ xs) (members_defined p c.name ms)) (members_join first m ∙ ap (λ f. members_defined p c.name first ++ form_defined p c.name f) g ∙ append-nil (members_defined p c.name first)) a
      by_form (ProtoMember s) g a = subst (λ xs. AreApart p (items_defined p before ++ xs) (members_defined p c.name ms)) (members_join first m ∙ ap (λ f. members_defined p c.name first ++ form_defined p c.name f) g ∙ append-nil (members_defined p c.name first)) a
      by_form (RoutineMember r) g a = (
        record { at = λ i e. number_back p c.name i e; alone = λ i e b. none_of (belongs p i r.sig.role) (items_defined p before ++ members_defined p c.name first) (clash r g i e b) },
        subst (λ xs. AreApart p xs (members_defined p c.name ms)) (ap (λ xs. items_defined p before ++ xs) (members_join first m ∙ ap (λ f. members_defined p c.name first ++ form_defined p c.name f) g) ∙ sym (append_assoc (items_defined p before) (members_defined p c.name first) (in_class p c.name r ∷ []))) a,
      )

  -- what stands outside of classes builds nothing
  free_alone : (j : ℕ) (r : Routine) (d : Defined) (i : ℕ) → slice_get p.items j ≡ Some (RoutineItem r) → (r.sig.owner ≡ owner.Class r.sig.name → ⊥) → is_plain r.sig.role ≡ false → d.number ≡ 0 → d.routine.sig ≡ r.sig → place_by p d ≡ Some i → ⊥
  free_alone j r d i there own builds number sig e = by_way (placed_by p d i e)
    where
      by_way : PlacedBy p d i → ⊥
      by_way (ByNumber f) = zero_nowhere (classes_of p.items) 0 i (ap (place_of p) (sym number) ∙ f)
      by_way (ByName k z x) = own (event_owned j i r r.sig.owner there refl builds (subst (λ (s : Sig). IsEventAt p i s.name) sig x))

  outside_apart : (before : List Item) (r : Routine) (after : List Item) → p.items ≡ before ++ RoutineItem r ∷ after → (o : Owner) → r.sig.owner ≡ o → IsApart p (items_defined p before) (defined_by p o r)
  outside_apart before r after is owner.Here own =
      let here = ap (λ xs. slice_get xs (length before)) is ∙ behind_at before (RoutineItem r) after in
      record {
        at = λ i e. absurd (zero_nowhere (classes_of p.items) 0 i e);
        alone = λ i e b. absurd (free_alone (length before) r (defined_by p owner.Here r) i here (λ c. let two : owner.Here ≡ owner.Class r.sig.name = sym own ∙ c in cc) b refl refl e);
      }
  outside_apart before r after is owner.Main own =
      let here = ap (λ xs. slice_get xs (length before)) is ∙ behind_at before (RoutineItem r) after in
      record {
        at = λ i e. absurd (zero_nowhere (classes_of p.items) 0 i e);
        alone = λ i e b. absurd (free_alone (length before) r (defined_by p owner.Main r) i here (λ c. let two : owner.Main ≡ owner.Class r.sig.name = sym own ∙ c in cc) b refl refl e);
      }
  outside_apart before r after is (owner.Class name) own = record {
    at = λ i e. number_back p name i e;
    alone = λ i e b. none_of (belongs p i r.sig.role) (items_defined p before) (λ d h t. item_alone before r after name is own i (homes i b (placed_by p (in_class p name r) i e)) b d (comes p before h.place d h.there) (twin i r.sig.role d t));
  }
    where
      here : slice_get p.items (length before) ≡ Some (RoutineItem r)
      here = ap (λ xs. slice_get xs (length before)) is ∙ behind_at before (RoutineItem r) after

      homes : (i : ℕ) → is_plain r.sig.role ≡ false → PlacedBy p (in_class p name r) i → Homes name i r.sig.role
      homes i b (ByNumber e) = numbered_homes name i r.sig.role e
      homes i b (ByName k z x) =
          let home = home_at p none (length before) r name here own in
          let mine : r.sig.name ≡ name = (bytes_decides r.sig.name name).0 (builder_named p none name r.sig (length before) home b) in
          event_homes name i r.sig.role b (subst (IsEventAt p i) mine x)

  items_join : (xs : List Item) (y : Item) → items_defined p (xs ++ y ∷ []) ≡ items_defined p xs ++ item_defined p y
  items_join [] y = append-nil (item_defined p y)
  items_join (x ∷ xs) y = ap (λ ds. item_defined p x ++ ds) (items_join xs y) ∙ sym (append_assoc (item_defined p x) (items_defined p xs) (item_defined p y))

  item_apart : (before : List Item) (x : Item) (after : List Item) → p.items ≡ before ++ x ∷ after → AreApart p (items_defined p before) (item_defined p x)
  item_apart before (ClassItem c) after is = subst (λ xs. AreApart p xs (members_defined p c.name c.members)) (append-nil (items_defined p before)) (class_apart before c after is [] c.members refl)
  item_apart before (RoutineItem r) after is = (outside_apart before r after is r.sig.owner refl, tt)
  item_apart before (ConstItem x) after is = tt
  item_apart before (ProtoItem x) after is = tt
  item_apart before (ForwardItem x) after is = tt
  item_apart before (UsingItem x) after is = tt

  items_apart : (before is : List Item) → p.items ≡ before ++ is → AreApart p (items_defined p before) (items_defined p is)
  items_apart before [] e = tt
  items_apart before (x ∷ is) e =
      apart_join p (items_defined p before) (item_defined p x) (items_defined p is) (item_apart before x is e)
      (subst (λ ds. AreApart p ds (items_defined p is)) (items_join before x) (items_apart (before ++ x ∷ []) is (e ∙ sym (append_assoc before (x ∷ []) is))))

  pub routines_apart : AreApart p [] (routines_of p)
  routines_apart = items_apart [] p.items refl
