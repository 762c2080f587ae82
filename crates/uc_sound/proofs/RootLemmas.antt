-- Names of members: both look-ups find the same one, or neither does.
use Rattle.std.proofs.Common.{◌≡◌, ℕ, zero, suc, ◌+◌, inl, inr, List, [], ◌∷◌, Option, Some, None, Bool, true, false, refl, sym, ap, ◌∙◌, subst, arith}
use Rattle.std.specs.Prelude.{◌&&◌, slice_get, take, if◌then◌else◌, nat_eq, is_some, option_and_then}
use Rattle.std.specs.List.{list_any}
use Rattle.uc_tree.specs.declared.kinds.Access.{Access}
use Rattle.uc_tree.specs.declared.kinds.Base.{Base}
use Rattle.uc_tree.specs.declared.kinds.Kind.{Kind}
use Rattle.uc_tree.specs.declared.kinds.Kind.TheVariants as kind
use Rattle.uc_tree.specs.declared.pos.Pos.{Pos}
use Rattle.uc_tree.specs.Names.{same_name}
use Rattle.uc_tree.specs.Cells.{leading_cells}
use Rattle.uc_tree.specs.Numbering.{is_event, is_mutex, is_plain, main_name, member_number, exclusive_names, at_most, place_from, routines_of}
use Rattle.uc_tree.specs.declared.limits.TheConstants.{MEMBERS}
use Rattle.uc_tree.specs.Objects.{ClassField, fields_of, class_at, number_at, member_from, is_member, is_coroutine}
use Rattle.uc_tree.specs.Statements.{Declarator}
use Rattle.uc_tree.specs.Programs.{Sig as Declared, Class, Member, MemberForm, FieldsMember, RoutineMember, ProtoMember, Program}
use Rattle.uc_tree.specs.Source.{OfObject, This}
use Rattle.uc_resolve.specs.Standings as tree
use Rattle.uc_resolve.specs.Standings.{Standing, AsMember, AsLiveMember, AsMutexMember}
use Rattle.uc_rules.specs.declared.rule.Rule.TheVariants.{S2}
use Rattle.uc_rules.specs.declared.rules.Entity.TheVariants as entity
use Rattle.uc_rules.specs.declared.rules.NameMeaning.{NameMeaning}
use Rattle.uc_rules.specs.declared.rules.Origin.TheVariants as origin
use Rattle.uc_rules.specs.Names as rules
use Rattle.uc_rules.specs.Names.{Owned, first_of, is_inner_only, form_sig, method_sig, member_named, members_named, declared_entity, variable}
use Rattle.uc_rules.specs.ClassBreaks.{form_declares_names, members_declare, is_kept, is_new_member, is_new_field, is_new_routine_by, fields_at}
use Rattle.uc_rules.specs.Entities.{is_main_sig}
use Rattle.uc_rules.specs.ProgramVisits.{program_visits}
use Rattle.uc_typing.specs.Typing.{Obj, Name, Apart, Sig, Table, Yields}
use Rattle.uc_sound.specs.Agreement.{AreLike, Agrees, IsMethod, IsReached}
use Rattle.uc_sound.specs.Unbroken.{Unbroken}
use Rattle.uc_sound.proofs.Ties.{some_same, none_some, false_true}
use Rattle.uc_sound.proofs.UnbrokenLemmas.{holds}
use Rattle.uc_sound.proofs.FieldsLemmas.{found}
use Rattle.uc_sound.specs.SoundFormed.{IsFormed}
use Rattle.uc_sound.specs.Tables.{entity_helps, helps_in, inward_by, inward_in}
use Rattle.uc_sound.specs.Told.{Told}
use Rattle.uc_sound.proofs.Lists.{left_is, right_is, both_are, not_either, any_from, in_left, in_right, map_at, get_take, Order, before, same, behind, order}
use Rattle.uc_sound.proofs.Visited.{FieldRules, home, field_rules}
use Rattle.uc_sound.proofs.ClassNames.{same_is, is_same, number_of}
use Rattle.uc_sound.proofs.Origins.{origin, looked, member_looked}
use Rattle.uc_sound.proofs.MemberLemmas.{Declares, sig_rules, not_earlier, home_is, belongs, declares, not_event}
use Rattle.uc_rules.specs.OwnerBreaks.{is_field_origin, is_mutex_field_of}
use Rattle.uc_tree.specs.declared.kinds.Role.{Role}
use Rattle.uc_tree.specs.declared.kinds.Role.TheVariants as role
use Rattle.std.proofs.lemmas.Bool.{eqb-true}

-- what a member of a class stands for: a field, or a routine that one declares
pub data Meaning (i : ℕ) (c : Class) (name : List ℕ) (x : NameMeaning) : Type 0 where
  a_field : is_field_origin x.origin ≡ true → is_mutex_field_of (Some x) ≡ is_mutex c.kind → Meaning i c name x
  a_method : (j : ℕ) (inner : Bool) (sig : Declared) (d : Declares c j sig) → is_plain sig.role ≡ true → sig.name ≡ name → x.entity ≡ Some (entity.Method i j inner false) → inner ≡ is_inner_only c.kind d.m.mark d.m.access → Meaning i c name x

first_none : {A : Type 0} (a b : Option A) → first_of a b ≡ None → (a ≡ None) × (b ≡ None)
first_none None b h = (refl, h)
first_none (Some x) b h = absurd (cc)

if_none : {A : Type 0} (b : Bool) (x : A) → (if b then Some x else None) ≡ None → b ≡ false
if_none true x h = absurd (cc)
if_none false x h = refl

module _ (p : Program) (i : ℕ) (c : Class) (name : List ℕ) where
  abbrev o : Owned
  o = record { place = i; class = c }

  -- these members are those of the class from a place on
  abbrev Behind : ℕ → List Member → Type 0
  Behind j ms = (k : ℕ) (m : Member) (l : ℕ) → j + k ≡ l → slice_get ms k ≡ Some m → slice_get c.members l ≡ Some m

  more_behind : (j : ℕ) (m : Member) (ms : List Member) → Behind j (m ∷ ms) → Behind (j + 1) ms
  more_behind j m ms f k x l q e = f (suc k) x l (omega (arith, q)) e

  among : (j l : ℕ) (a : Access) (b : Base) (ds : List Declarator) (x : NameMeaning) (other : Option NameMeaning) → first_of (rules.field_named p o a j l b ds name) other ≡ Some x → (other ≡ Some x → Meaning i c name x) → Meaning i c name x
  among j l a b [] x other h f = f h
  among j l a b (d ∷ ds) x other h f = by (same_name d.name name) h (λ h. among j (l + 1) a b ds x other h f)
    where
      by : (z : Bool) → first_of (if z then Some (rules.field_meant p o a (rules.place_in j l) b d) else rules.field_named p o a j (l + 1) b ds name) other ≡ Some x → (first_of (rules.field_named p o a j (l + 1) b ds name) other ≡ Some x → Meaning i c name x) → Meaning i c name x
      by true h g =
          a_field (ap (λ (m : NameMeaning). is_field_origin m.origin) (sym (some_same h))) (ap (λ (m : NameMeaning). is_mutex_field_of (Some m)) (sym (some_same h)))
      by false h g = g h

  method : (m : Member) (j : ℕ) (sig : Declared) (inner : Bool) (a : Access) (x : NameMeaning) (other : Option NameMeaning) (z : Bool) → (is_plain sig.role && same_name sig.name name) ≡ z → slice_get c.members j ≡ Some m → form_sig m.form ≡ Some sig → inner ≡ is_inner_only c.kind m.mark m.access → first_of (if z then Some (record { entity = Some (entity.Method i j inner false); origin = origin.Method i a }) else None) other ≡ Some x → (other ≡ Some x → Meaning i c name x) → Meaning i c name x
  method m j sig inner a x other true w e q n h f =
      a_method j inner sig (record { m = m; at = e; form = q }) (left_is (is_plain sig.role) (same_name sig.name name) w) (same_is sig.name name (right_is (is_plain sig.role) (same_name sig.name name) w)) (ap (λ (m : NameMeaning). m.entity) (sym (some_same h))) n
  method m j sig inner a x other false w e q n h f = f h

  by_form : (m : Member) (j : ℕ) (form : MemberForm) (x : NameMeaning) (other : Option NameMeaning) → slice_get c.members j ≡ Some m → m.form ≡ form → first_of (rules.form_named p o m.mark m.access j form name) other ≡ Some x → (other ≡ Some x → Meaning i c name x) → Meaning i c name x
  by_form m j (FieldsMember at b ds) x other e q h f = among j 0 m.access b ds x other h f
  by_form m j (RoutineMember r) x other e q h f =
      method m j r.sig (is_inner_only c.kind m.mark m.access) m.access x other (is_plain r.sig.role && same_name r.sig.name name) refl e (ap form_sig q) refl h f
  by_form m j (ProtoMember s) x other e q h f =
      method m j s (is_inner_only c.kind m.mark m.access) m.access x other (is_plain s.role && same_name s.name name) refl e (ap form_sig q) refl h f

  means : (ms : List Member) (j : ℕ) (x : NameMeaning) → Behind j ms → members_named p o j ms name ≡ Some x → Meaning i c name x
  means [] j x b h = none_some h
  means (m ∷ ms) j x b h =
      by_form m j m.form x (members_named p o (j + 1) ms name) (b 0 m j (omega arith) refl) refl h (λ h. means ms (j + 1) x (more_behind j m ms b) h)

  pub meaning : (x : NameMeaning) → class_at p i ≡ Some c → member_named p i name ≡ Some x → Meaning i c name x
  meaning x e h =
      means c.members 0 x (λ k m l q e. ap (slice_get c.members) (let z : l ≡ k = omega (arith, q) in z) ∙ e) (subst (λ o. rules.member_in p i o name ≡ Some x) e h)

  -- where none is found, none has the name

  no_sig : (m : Member) (j : ℕ) (form : MemberForm) (sig : Declared) → m.form ≡ form → form_sig form ≡ Some sig → is_plain sig.role ≡ true → sig.name ≡ name → rules.form_named p o m.mark m.access j form name ≡ None → ⊥
  no_sig m j (FieldsMember at b ds) sig q f w n h = none_some f
  no_sig m j (RoutineMember r) sig q f w n h =
      let k = if_none (is_plain r.sig.role && same_name r.sig.name name) _ h in
      let t : (is_plain r.sig.role && same_name r.sig.name name) ≡ true = subst (λ (z : Declared). (is_plain z.role && same_name z.name name) ≡ true) (sym (some_same f)) (both_are (is_plain sig.role) (same_name sig.name name) w (is_same sig.name name n)) in
      false_true (sym k ∙ t)
  no_sig m j (ProtoMember r) sig q f w n h =
      let k = if_none (is_plain r.role && same_name r.name name) _ h in
      let t : (is_plain r.role && same_name r.name name) ≡ true = subst (λ (z : Declared). (is_plain z.role && same_name z.name name) ≡ true) (sym (some_same f)) (both_are (is_plain sig.role) (same_name sig.name name) w (is_same sig.name name n)) in
      false_true (sym k ∙ t)

  no_field : (a : Access) (j l : ℕ) (b : Base) (ds : List Declarator) (n : ℕ) (d : Declarator) → slice_get ds n ≡ Some d → d.name ≡ name → rules.field_named p o a j l b ds name ≡ None → ⊥
  no_field a j l b [] n d e q h = none_some e
  no_field a j l b (x ∷ ds) zero d e q h =
      let k = if_some_none (same_name x.name name) _ _ h in
      let t : same_name x.name name ≡ true = is_same x.name name (ap (λ (z : Declarator). z.name) (some_same e) ∙ q) in
      false_true (sym k.0 ∙ t)
    where
      if_some_none : {A : Type 0} (b : Bool) (x : A) (y : Option A) → (if b then Some x else y) ≡ None → (b ≡ false) × (y ≡ None)
      if_some_none true x y h = absurd (cc)
      if_some_none false x y h = (refl, h)
  no_field a j l b (x ∷ ds) (suc n) d e q h = no_field a j (l + 1) b ds n d e q (rest (same_name x.name name) h)
    where
      rest : (z : Bool) → (if z then Some (rules.field_meant p o a (rules.place_in j l) b x) else rules.field_named p o a j (l + 1) b ds name) ≡ None → rules.field_named p o a j (l + 1) b ds name ≡ None
      rest true h = absurd (cc)
      rest false h = h

  none_at : (ms : List Member) (j k : ℕ) (m : Member) → members_named p o j ms name ≡ None → slice_get ms k ≡ Some m → (l : ℕ) × (rules.form_named p o m.mark m.access l m.form name ≡ None)
  none_at [] j k m h e = none_some e
  none_at (x ∷ ms) j zero m h e =
      (j, subst (λ (z : Member). rules.form_named p o z.mark z.access j z.form name ≡ None) (some_same e) (first_none (rules.form_named p o x.mark x.access j x.form name) (members_named p o (j + 1) ms name) h).0)
  none_at (x ∷ ms) j (suc k) m h e =
      none_at ms (j + 1) k m (first_none (rules.form_named p o x.mark x.access j x.form name) (members_named p o (j + 1) ms name) h).1 e

  pub none_declares : class_at p i ≡ Some c → member_named p i name ≡ None → (j : ℕ) (sig : Declared) → Declares c j sig → is_plain sig.role ≡ true → sig.name ≡ name → ⊥
  none_declares e h j sig d w n =
      let a = none_at c.members 0 j d.m (subst (λ o. rules.member_in p i o name ≡ None) e h) d.at in
      no_sig d.m a.0 d.m.form sig refl d.form w n a.1

  field_none : (fs : List ClassField) (k : ℕ) → ((n : ℕ) (f : ClassField) → slice_get fs n ≡ Some f → f.declarator.name ≡ name → ⊥) → tree.field_named k fs name ≡ None
  field_none [] k g = refl
  field_none (f ∷ fs) k g = by (same_name f.declarator.name name) refl (field_none fs (suc k) (λ n. g (suc n)))
    where
      by : (b : Bool) → same_name f.declarator.name name ≡ b → tree.field_named (suc k) fs name ≡ None → (if b then Some (record { number = k; field = f }) else tree.field_named (suc k) fs name) ≡ None
      by true e h = absurd (g 0 f refl (same_is f.declarator.name name e))
      by false e h = h

  module _ (formed : IsFormed p) (u : Unbroken (program_visits p)) (e : class_at p i ≡ Some c) where
    abbrev rule_of : (n : ℕ) (f : ClassField) → slice_get (fields_of c.members) n ≡ Some f → FieldRules p (home p u i c) c f
    rule_of n f q = field_rules p u i c e n f q

    none_field : member_named p i name ≡ None → (n : ℕ) (f : ClassField) → slice_get (fields_of c.members) n ≡ Some f → f.declarator.name ≡ name → ⊥
    none_field h n f q w =
        let r = rule_of n f q in
        let a = none_at c.members 0 r.place.member r.member (subst (λ o. rules.member_in p i o name ≡ None) e h) r.member_at in
        no_field r.member.access a.0 0 f.base r.fields r.place.index f.declarator r.listed w (subst (λ z. rules.form_named p o r.member.mark r.member.access a.0 z name ≡ None) r.form a.1)

    pub declares_field : (ms : List Member) (k n : ℕ) (m : Member) (at : Pos) (b : Base) (ds : List Declarator) (d : Declarator) → slice_get ms k ≡ Some m → m.form ≡ FieldsMember at b ds → slice_get ds n ≡ Some d → (l : ℕ) × (slice_get (members_declare ms) l ≡ Some d.name)
    declares_field [] k n m at b ds d q f h = none_some q
    declares_field (x ∷ ms) zero n m at b ds d q f h =
        (n, in_left (form_declares_names x.form) (members_declare ms) n d.name (ap (λ (z : Member). slice_get (form_declares_names z.form) n) (some_same q) ∙ (ap (λ z. slice_get (form_declares_names z) n) f ∙ map_at (λ (d : Declarator). d.name) ds n d h)))
    declares_field (x ∷ ms) (suc k) n m at b ds d q f h =
        let r = declares_field ms k n m at b ds d q f h in
        in_right (form_declares_names x.form) (members_declare ms) r.0 d.name r.1

    new_by : (sig : Declared) (j : ℕ) (r : Role) → sig.role ≡ r → is_plain r ≡ true → is_new_routine_by r c j sig.name ≡ true → is_new_member c j sig.name ≡ true
    new_by sig j role.Plain q w h = h
    new_by sig j role.Constructor q w h = false_true w
    new_by sig j role.Destructor q w h = false_true w

    -- a routine hides no field
    method_field : (j : ℕ) (sig : Declared) → Declares c j sig → is_plain sig.role ≡ true → sig.name ≡ name → (n : ℕ) (f : ClassField) → slice_get (fields_of c.members) n ≡ Some f → f.declarator.name ≡ name → ⊥
    method_field j sig d w s n f q k = by (order r.place.member j)
      where
        r : FieldRules p (home p u i c) c f
        r = rule_of n f q

        by : Order r.place.member j → ⊥
        by (before l) =
            let fresh = new_by sig j sig.role refl w (sig_rules p formed u i c j sig e d).fresh in
            let a = declares_field (take j c.members) r.place.member r.place.index r.member r.at f.base r.fields f.declarator (get_take c.members j r.place.member r.member l r.member_at) r.form r.listed in
            not_either (list_any (λ z. same_name z sig.name) (members_declare (take j c.members))) (is_kept c j sig.name) (any_from (λ z. same_name z sig.name) (members_declare (take j c.members)) a.0 f.declarator.name a.1 (is_same f.declarator.name sig.name (k ∙ sym s))) fresh
        by (same l) =
            let m : r.member ≡ d.m = some_same (sym r.member_at ∙ (ap (slice_get c.members) l ∙ d.at)) in
            none_some (sym (ap form_sig r.form) ∙ (ap (λ (z : Member). form_sig z.form) m ∙ d.form))
        by (behind l) =
            let x = r.place.member in
            let h : is_new_field c r.place (fields_at c x) f.declarator.name ≡ true = holds (is_new_field c r.place (fields_at c x) f.declarator.name) S2 f.declarator.pos _ r.own in
            let fresh = left_is (is_new_member c x f.declarator.name) _ h in
            let a = declares (take x c.members) j d.m sig (get_take c.members x j d.m l d.at) d.form w in
            not_either (list_any (λ z. same_name z f.declarator.name) (members_declare (take x c.members))) (is_kept c x f.declarator.name) (any_from (λ z. same_name z f.declarator.name) (members_declare (take x c.members)) a.0 sig.name a.1 (is_same sig.name f.declarator.name (s ∙ sym k))) fresh

    abbrev found_as : tree.Whose → ℕ → tree.Meant
    found_as w r = record { expr = tree.object_of_whose w; ty = tree.scalar (tree.result_of p r); standing = tree.method_standing c.kind w (member_number c name) r }

    method_is : (w : tree.Whose) (j : ℕ) (sig : Declared) (r : ℕ) → Declares c j sig → is_plain sig.role ≡ true → sig.name ≡ name → member_from (routines_of p) 0 (number_at p i) sig.name ≡ Some r → tree.member_meant p i w name ≡ found_as w r
    method_is w j sig r d k s f =
        let none = field_none (fields_of c.members) (leading_cells c.kind) (method_field j sig d k s) in
        ap (tree.member_in p i w name) e ∙ (ap (tree.member_by p c i w name) none ∙ (ap (λ (b : Bool). if b then tree.no_meaning else tree.method_meant p c i w name) (not_event p formed u i j c sig e d k) ∙ ap (tree.method_by p c w name) (ap (member_from (routines_of p) 0 (number_at p i)) (sym s) ∙ f)))

    -- where the rules find no member, the resolved tree finds none
    pub nothing_is : (w : tree.Whose) → member_named p i name ≡ None → tree.member_meant p i w name ≡ tree.no_meaning
    nothing_is w h =
        let none = field_none (fields_of c.members) (leading_cells c.kind) (none_field h) in
        ap (tree.member_in p i w name) e ∙ (ap (tree.member_by p c i w name) none ∙ by_event (is_event c.kind) refl)
      where
        unfound : is_event c.kind ≡ false → (o : Option ℕ) → member_from (routines_of p) 0 (number_at p i) name ≡ o → o ≡ None
        unfound v None q = refl
        unfound v (Some r) q =
            let n = number_at p i in
            let k = looked (is_member n name) (routines_of p) 0 r (sym (member_looked (routines_of p) 0 n name) ∙ q) in
            let x = k.defined in
            let number = eqb-true x.number n (left_is (nat_eq x.number n) (is_plain x.routine.sig.role && same_name x.routine.sig.name name) k.passes) in
            let more = right_is (nat_eq x.number n) (is_plain x.routine.sig.role && same_name x.routine.sig.name name) k.passes in
            let b = belongs p formed u i c x e (number_of p u i c formed.classes e v) number (home_is p formed u x (origin p k.n x k.at)) in
            absurd (none_declares e h b.j b.sig b.declared (ap is_plain b.role ∙ left_is (is_plain x.routine.sig.role) (same_name x.routine.sig.name name) more) (b.name ∙ same_is x.routine.sig.name name (right_is (is_plain x.routine.sig.role) (same_name x.routine.sig.name name) more)))

        by_event : (b : Bool) → is_event c.kind ≡ b → (if b then tree.no_meaning else tree.method_meant p c i w name) ≡ tree.no_meaning
        by_event true v = refl
        by_event false v = ap (tree.method_by p c w name) (unfound v (member_from (routines_of p) 0 (number_at p i) name) refl)

    -- a member helps inside by its mark and its access
    pub helps_is : (j : ℕ) (sig : Declared) (d : Declares c j sig) → is_plain sig.role ≡ true → sig.name ≡ name → helps_in (member_named p i name) ≡ is_inner_only c.kind d.m.mark d.m.access
    helps_is j sig d w s = by (member_named p i name) refl
      where
        one : (l : ℕ) (b : Declared) (z : Declares c l b) → is_plain b.role ≡ true → b.name ≡ name → Order j l → is_inner_only c.kind z.m.mark z.m.access ≡ is_inner_only c.kind d.m.mark d.m.access
        one l b z v q (before x) = not_earlier p formed u i c j l sig b e d z w v (s ∙ sym q) x
        one l b z v q (same x) = let m : z.m ≡ d.m = some_same (sym z.at ∙ (ap (slice_get c.members) (sym x) ∙ d.at)) in ap (λ (m : Member). is_inner_only c.kind m.mark m.access) m
        one l b z v q (behind x) = not_earlier p formed u i c l j b sig e z d v w (q ∙ sym s) x

        by_meaning : (x : NameMeaning) → member_named p i name ≡ Some x → Meaning i c name x → entity_helps x.entity ≡ is_inner_only c.kind d.m.mark d.m.access
        by_meaning x h (a_field r k) =
            none_some (sym (field_none (fields_of c.members) (leading_cells c.kind) (method_field j sig d w s)) ∙ (found p i c name x e h r).named)
        by_meaning x h (a_method l inner b z v q n k) = ap entity_helps n ∙ (k ∙ one l b z v q (order j l))

        by : (o : Option NameMeaning) → member_named p i name ≡ o → helps_in o ≡ is_inner_only c.kind d.m.mark d.m.access
        by None h = absurd (none_declares e h j sig d w s)
        by (Some x) h = by_meaning x h (meaning x e h)

    numbers_mutex : (m : ℕ) → member_number c name ≡ Some m → is_mutex c.kind ≡ true
    numbers_mutex m h = by (is_mutex c.kind) h
      where
        by : (b : Bool) → option_and_then (at_most MEMBERS) (place_from 1 (if b then exclusive_names [] c.members else []) name) ≡ Some m → b ≡ true
        by true h = refl
        by false h = none_some h

    pub method_agrees : (t : Table) (g : Sig) (sc : List Name) → Told t p → t.mutex i ≡ is_mutex c.kind → (w : tree.Whose) → Yields t g sc (tree.object_of_whose w) (Obj i) → (j : ℕ) (inner path : Bool) (sig : Declared) → Declares c j sig → is_plain sig.role ≡ true → sig.name ≡ name → helps_in (member_named p i name) ≡ inner → (path ≡ false → tree.object_of_whose w ≡ OfObject This) → Agrees t g sc p (entity.Method i j inner path) (tree.member_meant p i w name)
    method_agrees t g sc told mutex w y j inner path sig d k s helps own =
        let ms : method_sig p i j ≡ Some sig = ap (option_and_then (λ (c : Class). option_and_then (λ (m : Member). form_sig m.form) (slice_get c.members j))) e ∙ (ap (option_and_then (λ (m : Member). form_sig m.form)) d.at ∙ d.form) in
        let tells = told.members i j c sig e ms k in
        let r = tells.number in
        subst (Agrees t g sc p (entity.Method i j inner path)) (sym (method_is w j sig r d k s tells.found)) (record {
          number = r;
          class = i;
          standing = stands r (member_number c name) refl;
          params = subst (λ o. AreLike p (rules.params_in o) (tree.params_of p r)) (sym ms) tells.routine.params;
          table = tells.routine.table;
          at = y;
          this = tells.routine.this;
          plain = tells.plain;
          known = tells.routine.known;
          reached = λ main.
              let n : same_name name main_name ≡ false = ap (λ z. same_name z main_name) (sym s) ∙ (ap is_main_sig (sym ms) ∙ main) in
              subst (IsReached t g sc inner path r (found_as w r)) (sym (tells.inward ∙ (ap (λ o. inward_in p i o sig.role sig.name) e ∙ (ap (λ (o : Role). inward_in p i (Some c) o sig.name) (plain_role sig.role k) ∙ (ap (inward_in p i (Some c) role.Plain) s ∙ ap (λ (b : Bool). if is_mutex c.kind then inward_by role.Plain b (is_some (member_number c name)) (helps_in (member_named p i name)) else Apart) n)))))
              (reached r (is_mutex c.kind) refl (member_number c name) refl (helps_in (member_named p i name)) refl);
        })
      where
        plain_role : (o : Role) → is_plain o ≡ true → o ≡ role.Plain
        plain_role role.Plain h = refl
        plain_role role.Constructor h = false_true h
        plain_role role.Destructor h = false_true h

        no_coroutine : (k : Kind) → is_mutex k ≡ true → is_coroutine k ≡ false
        no_coroutine kind.Class h = refl
        no_coroutine kind.Coroutine h = false_true h
        no_coroutine kind.Monitor h = refl
        no_coroutine kind.Cormonitor h = refl
        no_coroutine kind.Task h = refl
        no_coroutine kind.Event h = refl

        -- what neither a mutex member nor a main is helps inside where the rules say so
        reached : (r : ℕ) (b : Bool) → is_mutex c.kind ≡ b → (o : Option ℕ) → member_number c name ≡ o → (h : Bool) → helps_in (member_named p i name) ≡ h → IsReached t g sc inner path r (found_as w r) (if b then inward_by role.Plain false (is_some o) h else Apart)
        reached r false b o n h q = inl tt
        reached r true b (Some m) n h q = inl tt
        reached r true b None n false q = inl tt
        reached r true b None n true q =
            inr (refl, sym helps ∙ q, ap (λ o. tree.method_standing c.kind w o r) n ∙ ap (λ (z : Bool). if z && tree.is_path w then AsLiveMember r else AsMember r) (no_coroutine c.kind b), own)

        stands : (r : ℕ) (o : Option ℕ) → member_number c name ≡ o → IsMethod t g sc r i (tree.method_standing c.kind w o r)
        stands r (Some m) q = inr (m, refl, mutex ∙ numbers_mutex m q)
        stands r None q = by (is_coroutine c.kind && tree.is_path w)
          where
            by : (b : Bool) → IsMethod t g sc r i (if b then AsLiveMember r else AsMember r)
            by true = inl (inr refl)
            by false = inl (inl refl)
