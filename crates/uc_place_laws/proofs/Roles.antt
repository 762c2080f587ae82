-- Which routines of a program are constructors.
use Rattle.std.proofs.Common.{◌≡◌, ℕ, zero, suc, ◌+◌, map, Bool, true, false, List, [], ◌∷◌, length, Some, refl, sym, ap, ◌∙◌, subst, arith}
use Rattle.std.specs.Prelude.{◌&&◌, slice_get, if◌then◌else◌, nat_eq, not, option_and_then, unwrap_or}
use Rattle.std.specs.List.{list_any}
use Rattle.uc_tree.specs.declared.kinds.Role.{Role}
use Rattle.uc_tree.specs.declared.kinds.Role.TheVariants as role
use Rattle.uc_tree.specs.Names.{same_name}
use Rattle.uc_tree.specs.Numbering.{Defined, main_name, is_plain, routines_of}
use Rattle.uc_tree.specs.Objects.{same_role, has_role, class_at, number_at, is_member, member_from, written_at, Unwritten, unwritten_of, place_among, unwritten_number}
use Rattle.uc_tree.specs.Programs as whole
use Rattle.uc_tree.specs.Programs.{Program}
use Rattle.uc_resolve.specs.Resolve.{main_at}
use Rattle.uc_rules.specs.declared.rule.Rule.TheVariants.{S6}
use Rattle.uc_rules.specs.Sorts.{has_main}
use Rattle.uc_rules.specs.Names.{form_sig, method_sig}
use Rattle.uc_rules.specs.ClassBreaks.{is_void_base, is_main_of_class, form_is_main, is_well_mained, members_declare}
use Rattle.uc_rules.specs.ProgramVisits.{program_visits}
use Rattle.uc_sound.specs.Unbroken.{Unbroken}
use Rattle.uc_sound.proofs.Ties.{some_same, none_some, false_true}
use Rattle.uc_sound.proofs.UnbrokenLemmas.{holds}
use Rattle.uc_sound.specs.SoundFormed.{IsFormed}
use Rattle.uc_sound.proofs.Lists.{in_left, get_right, left_is, right_is, any_at}
use Rattle.uc_sound.proofs.Origins.{Looked, looked, member_looked, role_looked}
use Rattle.uc_sound.proofs.ClassNames.{same_is}
use Rattle.uc_sound.proofs.Visited.{class_own}
use Rattle.uc_sound.proofs.ClassLemmas.{law_told}
use Rattle.uc_state_laws.specs.Makers.{roles}
use Rattle.uc_place_laws.specs.AsideLaws.{is_maker, makes_of}

map_at : {A B : Type 0} (f : A → B) (xs : List A) (n : ℕ) (x : A) → slice_get xs n ≡ Some x → slice_get (map f xs) n ≡ Some (f x)
map_at f [] n x e = none_some e
map_at f (y ∷ xs) zero x e = ap (λ z. Some (f z)) (some_same e)
map_at f (y ∷ xs) (suc n) x e = map_at f xs n x e

map_length : {A B : Type 0} (f : A → B) (xs : List A) → length (map f xs) ≡ length xs
map_length f [] = refl
map_length f (x ∷ xs) = ap suc (map_length f xs)

plain_role : (x : Role) → is_plain x ≡ true → is_maker (Some x) ≡ false
plain_role role.Plain h = refl
plain_role role.Constructor h = false_true h
plain_role role.Destructor h = refl

destroying_role : (x : Role) → same_role role.Destructor x ≡ true → is_maker (Some x) ≡ false
destroying_role role.Plain h = refl
destroying_role role.Constructor h = false_true h
destroying_role role.Destructor h = refl

pub made_role : (x : Role) → is_maker (Some x) ≡ true → x ≡ role.Constructor
made_role role.Plain h = false_true h
made_role role.Constructor h = refl
made_role role.Destructor h = false_true h

module _ (p : Program) where
  -- one that is written, by its role
  pub written_role : (n : ℕ) (d : Defined) → slice_get (routines_of p) n ≡ Some d → slice_get (roles p) n ≡ Some d.routine.sig.role
  written_role n d e =
      in_left (map (λ (d : Defined). d.routine.sig.role) (routines_of p)) (map (λ (u : Unwritten). u.role) (unwritten_of p)) n d.routine.sig.role (map_at (λ (d : Defined). d.routine.sig.role) (routines_of p) n d e)

  at_place : (r n : ℕ) → Some r ≡ Some (0 + n) → n ≡ r
  at_place r n e = let q : r ≡ 0 + n = some_same e in omega (arith, q)

  found_role : (r n : ℕ) (d : Defined) → slice_get (routines_of p) n ≡ Some d → Some r ≡ Some (0 + n) → is_maker (Some d.routine.sig.role) ≡ false → makes_of p r ≡ false
  found_role r n d e q h = subst (λ m. makes_of p m ≡ false) (at_place r n q) (ap is_maker (written_role n d e) ∙ h)

  -- a member is none
  pub member_plain : (class : ℕ) (name : List ℕ) (r : ℕ) → member_from (routines_of p) 0 class name ≡ Some r → makes_of p r ≡ false
  member_plain class name r e =
      let k : Looked (is_member class name) (routines_of p) 0 (Some r) = looked (is_member class name) (routines_of p) 0 r (sym (member_looked (routines_of p) 0 class name) ∙ e) in
      let d = k.defined in
      let rest : (is_plain d.routine.sig.role && same_name d.routine.sig.name name) ≡ true = right_is (nat_eq d.number class) (is_plain d.routine.sig.role && same_name d.routine.sig.name name) k.passes in
      found_role r k.n d k.at k.found (plain_role d.routine.sig.role (left_is (is_plain d.routine.sig.role) (same_name d.routine.sig.name name) rest))

  -- nor is a destructor, that somebody wrote or nobody
  pub written_plain : (i r : ℕ) → written_at p i role.Destructor ≡ Some r → makes_of p r ≡ false
  written_plain i r e =
      let class = number_at p i in
      let k : Looked (has_role class role.Destructor) (routines_of p) 0 (Some r) = looked (has_role class role.Destructor) (routines_of p) 0 r (sym (role_looked (routines_of p) 0 class role.Destructor) ∙ e) in
      let d = k.defined in
      found_role r k.n d k.at k.found (destroying_role d.routine.sig.role (right_is (nat_eq d.number class) (same_role role.Destructor d.routine.sig.role) k.passes))

  among : (us : List Unwritten) (i : ℕ) → is_maker (slice_get (map (λ (u : Unwritten). u.role) us) (place_among us i role.Destructor)) ≡ false
  among [] i = refl
  among (u ∷ us) i = by (nat_eq u.class i && same_role role.Destructor u.role) refl (among us i)
    where
      by : (b : Bool) → (nat_eq u.class i && same_role role.Destructor u.role) ≡ b → is_maker (slice_get (map (λ (u : Unwritten). u.role) us) (place_among us i role.Destructor)) ≡ false → is_maker (slice_get (map (λ (u : Unwritten). u.role) (u ∷ us)) (if b then 0 else suc (place_among us i role.Destructor))) ≡ false
      by true e ih = destroying_role u.role (right_is (nat_eq u.class i) (same_role role.Destructor u.role) e)
      by false e ih = ih

  pub unwritten_plain : (i : ℕ) → makes_of p (unwritten_number p i role.Destructor) ≡ false
  unwritten_plain i =
      let f : Defined → Role = λ (d : Defined). d.routine.sig.role in
      let n = unwritten_number p i role.Destructor in
      let q : n ≡ length (map (λ (d : Defined). d.routine.sig.role) (routines_of p)) + place_among (unwritten_of p) i role.Destructor = ap (λ m. m + place_among (unwritten_of p) i role.Destructor) (sym (map_length (λ (d : Defined). d.routine.sig.role) (routines_of p))) in
      ap is_maker (get_right (map (λ (d : Defined). d.routine.sig.role) (routines_of p)) (map (λ (u : Unwritten). u.role) (unwritten_of p)) (place_among (unwritten_of p) i role.Destructor) n q) ∙ among (unwritten_of p) i

  -- nor is the main of a class

  module _ (formed : IsFormed p) (u : Unbroken (program_visits p)) (i : ℕ) (c : whole.Class) (e : class_at p i ≡ Some c) where
    main_of_sig : (j : ℕ) (sig : whole.Sig) → method_sig p i j ≡ Some sig → is_main_of_class sig ≡ true → makes_of p (main_at p i) ≡ false
    main_of_sig j sig m h =
        let plain = left_is (is_plain sig.role) (same_name sig.name main_name && (is_void_base sig.ret && nat_eq (length sig.params) 0)) h in
        let h1 = right_is (is_plain sig.role) (same_name sig.name main_name && (is_void_base sig.ret && nat_eq (length sig.params) 0)) h in
        let named = same_is sig.name main_name (left_is (same_name sig.name main_name) (is_void_base sig.ret && nat_eq (length sig.params) 0) h1) in
        let k = (law_told p formed u).members i j c sig e m plain in
        let at : main_at p i ≡ k.number = ap (λ n. unwrap_or (member_from (routines_of p) 0 (number_at p i) n) 0) (sym named) ∙ ap (λ o. unwrap_or o 0) k.found in
        ap (makes_of p) at ∙ member_plain (number_at p i) sig.name k.number k.found

    by_form : (j : ℕ) (m : whole.Member) (form : whole.MemberForm) → slice_get c.members j ≡ Some m → m.form ≡ form → form_is_main form ≡ true → makes_of p (main_at p i) ≡ false
    by_form j m (whole.FieldsMember at b ds) a f h = false_true h
    by_form j m (whole.RoutineMember r) a f h = main_of_sig j r.sig (ap (option_and_then (λ (c : whole.Class). option_and_then (λ (m : whole.Member). form_sig m.form) (slice_get c.members j))) e ∙ (ap (option_and_then (λ (m : whole.Member). form_sig m.form)) a ∙ ap form_sig f)) h
    by_form j m (whole.ProtoMember s) a f h = main_of_sig j s (ap (option_and_then (λ (c : whole.Class). option_and_then (λ (m : whole.Member). form_sig m.form) (slice_get c.members j))) e ∙ (ap (option_and_then (λ (m : whole.Member). form_sig m.form)) a ∙ ap form_sig f)) h

    pub main_plain : has_main c.kind ≡ true → makes_of p (main_at p i) ≡ false
    main_plain h =
        let well : is_well_mained c ≡ true = holds (is_well_mained c) S6 c.pos _ (class_own p u i c e) in
        let k = subst (λ (b : Bool). (if b then list_any (λ (m : whole.Member). form_is_main m.form) c.members else not (list_any (λ n. same_name n main_name) (members_declare c.members))) ≡ true) h well in
        let f = any_at (λ (m : whole.Member). form_is_main m.form) c.members k in
        by_form f.0 f.1 f.1.form f.2 refl f.3
