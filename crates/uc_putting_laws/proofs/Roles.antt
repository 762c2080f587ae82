-- Which routines of a program are neither constructors nor destructors.
use Rattle.std.proofs.Common.{◌≡◌, ℕ, zero, suc, ◌+◌, ◌≤◌, ◌++◌, map, Bool, true, false, List, [], ◌∷◌, length, Some, refl, sym, ap, ◌∙◌, subst, arith}
use Rattle.std.proofs.lemmas.Bool.{eqb-true}
use Rattle.std.specs.Prelude.{◌&&◌, slice_get, if◌then◌else◌, nat_eq, not, option_and_then, unwrap_or}
use Rattle.std.specs.List.{list_any}
use Rattle.uc_tree.specs.declared.kinds.Role.{Role}
use Rattle.uc_tree.specs.declared.kinds.Role.TheVariants as role
use Rattle.uc_tree.specs.Names.{same_name}
use Rattle.uc_tree.specs.Numbering.{Defined, defined_by, item_defined, items_defined, main_name, is_plain, routines_of}
use Rattle.uc_tree.specs.Objects.{class_at, number_at, is_member, member_from, Unwritten, unwritten_of}
use Rattle.uc_tree.specs.ProgramMain.{main_among, main_number, is_main_sig, returns_as_main, no_params}
use Rattle.uc_tree.specs.Programs as whole
use Rattle.uc_tree.specs.Programs.{Program}
use Rattle.uc_resolve.specs.Standings as tree
use Rattle.uc_resolve.specs.Resolve.{main_at}
use Rattle.uc_rules.specs.declared.rule.Rule.TheVariants.{S3, S6}
use Rattle.uc_rules.specs.Sorts.{has_main}
use Rattle.uc_rules.specs.Names.{form_sig, method_sig}
use Rattle.uc_rules.specs.ClassBreaks.{is_void_base, is_main_of_class, form_is_main, is_well_mained, members_declare}
use Rattle.uc_rules.specs.ItemBreaks.{is_program_main, mains_in, main_breaks}
use Rattle.uc_rules.specs.ProgramVisits.{program_visits}
use Rattle.uc_sound.specs.Unbroken.{Unbroken}
use Rattle.uc_sound.proofs.Ties.{some_same, none_some, false_true}
use Rattle.uc_sound.proofs.UnbrokenLemmas.{none_left, holds}
use Rattle.uc_sound.specs.SoundFormed.{IsFormed}
use Rattle.uc_sound.proofs.Lists.{in_left, get_right, left_is, right_is, any_at}
use Rattle.uc_sound.proofs.Origins.{Looked, looked, routine_looked, member_looked}
use Rattle.uc_sound.proofs.ClassNames.{same_is}
use Rattle.uc_sound.proofs.Visited.{class_own}
use Rattle.uc_sound.proofs.BodyLemmas.{main_sig}
use Rattle.uc_sound.proofs.ClassLemmas.{law_told}
use Rattle.uc_sound.proofs.RoutineLemmas.{defined_routine}
use Rattle.uc_state_laws.specs.Makers.{roles}
use Rattle.uc_putting_laws.specs.PuttingLaws.{is_special, special_of}

map_at : {A B : Type 0} (f : A → B) (xs : List A) (n : ℕ) (x : A) → slice_get xs n ≡ Some x → slice_get (map f xs) n ≡ Some (f x)
map_at f [] n x e = none_some e
map_at f (y ∷ xs) zero x e = ap (λ z. Some (f z)) (some_same e)
map_at f (y ∷ xs) (suc n) x e = map_at f xs n x e

plain_role : (x : Role) → is_plain x ≡ true → is_special (Some x) ≡ false
plain_role role.Plain h = refl
plain_role role.Constructor h = false_true h
plain_role role.Destructor h = false_true h

module _ (p : Program) where
  -- one that is written, by its role
  pub written_role : (n : ℕ) (d : Defined) → slice_get (routines_of p) n ≡ Some d → slice_get (roles p) n ≡ Some d.routine.sig.role
  written_role n d e =
      in_left (map (λ (d : Defined). d.routine.sig.role) (routines_of p)) (map (λ (u : Unwritten). u.role) (unwritten_of p)) n d.routine.sig.role (map_at (λ (d : Defined). d.routine.sig.role) (routines_of p) n d e)

  at_place : (r n : ℕ) → Some r ≡ Some (0 + n) → n ≡ r
  at_place r n e = let q : r ≡ 0 + n = some_same e in omega (arith, q)

  found_role : (r n : ℕ) (d : Defined) → slice_get (routines_of p) n ≡ Some d → Some r ≡ Some (0 + n) → is_special (Some d.routine.sig.role) ≡ false → special_of p r ≡ false
  found_role r n d e q h = subst (λ m. special_of p m ≡ false) (at_place r n q) (ap is_special (written_role n d e) ∙ h)

  -- a member is none
  pub member_plain : (class : ℕ) (name : List ℕ) (r : ℕ) → member_from (routines_of p) 0 class name ≡ Some r → special_of p r ≡ false
  member_plain class name r e =
      let k : Looked (is_member class name) (routines_of p) 0 (Some r) = looked (is_member class name) (routines_of p) 0 r (sym (member_looked (routines_of p) 0 class name) ∙ e) in
      let d = k.defined in
      let rest : (is_plain d.routine.sig.role && same_name d.routine.sig.name name) ≡ true = right_is (nat_eq d.number class) (is_plain d.routine.sig.role && same_name d.routine.sig.name name) k.passes in
      found_role r k.n d k.at k.found (plain_role d.routine.sig.role (left_is (is_plain d.routine.sig.role) (same_name d.routine.sig.name name) rest))

  -- nor is a routine outside of classes
  pub routine_plain : (name : List ℕ) (r : ℕ) → tree.routine_from (routines_of p) 0 name ≡ Some r → special_of p r ≡ false
  routine_plain name r e =
      let k : Looked (λ d. nat_eq d.number 0 && tree.is_named d.routine.sig name) (routines_of p) 0 (Some r) = looked (λ d. nat_eq d.number 0 && tree.is_named d.routine.sig name) (routines_of p) 0 r (sym (routine_looked (routines_of p) 0 name) ∙ e) in
      let d = k.defined in
      let named : tree.is_named d.routine.sig name ≡ true = right_is (nat_eq d.number 0) (tree.is_named d.routine.sig name) k.passes in
      found_role r k.n d k.at k.found (plain_role d.routine.sig.role (left_is (is_plain d.routine.sig.role) (same_name d.routine.sig.name name) (right_is (tree.is_here d.routine.sig.owner) (is_plain d.routine.sig.role && same_name d.routine.sig.name name) named)))

  -- nor is the main of a class

  module _ (formed : IsFormed p) (u : Unbroken (program_visits p)) (i : ℕ) (c : whole.Class) (e : class_at p i ≡ Some c) where
    main_of_sig : (j : ℕ) (sig : whole.Sig) → method_sig p i j ≡ Some sig → is_main_of_class sig ≡ true → special_of p (main_at p i) ≡ false
    main_of_sig j sig m h =
        let plain = left_is (is_plain sig.role) (same_name sig.name main_name && (is_void_base sig.ret && nat_eq (length sig.params) 0)) h in
        let h1 = right_is (is_plain sig.role) (same_name sig.name main_name && (is_void_base sig.ret && nat_eq (length sig.params) 0)) h in
        let named = same_is sig.name main_name (left_is (same_name sig.name main_name) (is_void_base sig.ret && nat_eq (length sig.params) 0) h1) in
        let k = (law_told p formed u).members i j c sig e m plain in
        let at : main_at p i ≡ k.number = ap (λ n. unwrap_or (member_from (routines_of p) 0 (number_at p i) n) 0) (sym named) ∙ ap (λ o. unwrap_or o 0) k.found in
        ap (special_of p) at ∙ member_plain (number_at p i) sig.name k.number k.found

    by_form : (j : ℕ) (m : whole.Member) (form : whole.MemberForm) → slice_get c.members j ≡ Some m → m.form ≡ form → form_is_main form ≡ true → special_of p (main_at p i) ≡ false
    by_form j m (whole.FieldsMember at b ds) a f h = false_true h
    by_form j m (whole.RoutineMember r) a f h = main_of_sig j r.sig (ap (option_and_then (λ (c : whole.Class). option_and_then (λ (m : whole.Member). form_sig m.form) (slice_get c.members j))) e ∙ (ap (option_and_then (λ (m : whole.Member). form_sig m.form)) a ∙ ap form_sig f)) h
    by_form j m (whole.ProtoMember s) a f h = main_of_sig j s (ap (option_and_then (λ (c : whole.Class). option_and_then (λ (m : whole.Member). form_sig m.form) (slice_get c.members j))) e ∙ (ap (option_and_then (λ (m : whole.Member). form_sig m.form)) a ∙ ap form_sig f)) h

    pub main_plain : has_main c.kind ≡ true → special_of p (main_at p i) ≡ false
    main_plain h =
        let well : is_well_mained c ≡ true = holds (is_well_mained c) S6 c.pos _ (class_own p u i c e) in
        let k = subst (λ (b : Bool). (if b then list_any (λ (m : whole.Member). form_is_main m.form) c.members else not (list_any (λ n. same_name n main_name) (members_declare c.members))) ≡ true) h well in
        let f = any_at (λ (m : whole.Member). form_is_main m.form) c.members k in
        by_form f.0 f.1 f.1.form f.2 refl f.3

-- the main of the program

record MainAt (p : Program) (ds : List Defined) (n : ℕ) : Type 0 where
  routine : whole.Routine
  at : slice_get ds n ≡ Some (defined_by p routine.sig.owner routine)
  main : is_main_sig routine.sig ≡ true

module _ (p : Program) where
  behind : (x : whole.Item) (xs : List whole.Item) → MainAt p (items_defined p xs) (main_among p xs) → MainAt p (item_defined p x ++ items_defined p xs) (length (item_defined p x) + main_among p xs)
  behind x xs m = record {
    routine = m.routine;
    at = get_right (item_defined p x) (items_defined p xs) (main_among p xs) (length (item_defined p x) + main_among p xs) refl ∙ m.at;
    main = m.main;
  }

  routine_main : (r : whole.Routine) (xs : List whole.Item) → 1 ≤ mains_in (whole.RoutineItem r ∷ xs) → (1 ≤ mains_in xs → MainAt p (items_defined p xs) (main_among p xs)) → MainAt p (items_defined p (whole.RoutineItem r ∷ xs)) (main_among p (whole.RoutineItem r ∷ xs))
  routine_main r xs l f = by (is_main_sig r.sig) refl
    where
      fewer : (b : Bool) → is_program_main r.sig ≡ b → is_main_sig r.sig ≡ false → 1 ≤ (if b then 1 else 0) + mains_in xs → 1 ≤ mains_in xs
      fewer true h g l = false_true (sym g ∙ main_sig p r.sig h)
      fewer false h g l = omega (arith, l)

      by : (b : Bool) → is_main_sig r.sig ≡ b → MainAt p (item_defined p (whole.RoutineItem r) ++ items_defined p xs) (if b then 0 else length (item_defined p (whole.RoutineItem r)) + main_among p xs)
      by true h = record { routine = r; at = refl; main = h }
      by false h = behind (whole.RoutineItem r) xs (f (fewer (is_program_main r.sig) refl h l))

  main_found : (xs : List whole.Item) → 1 ≤ mains_in xs → MainAt p (items_defined p xs) (main_among p xs)
  main_found [] l = let z : ⊥ = omega (arith, l) in absurd z
  main_found (whole.RoutineItem r ∷ xs) l = routine_main r xs l (main_found xs)
  main_found (whole.ClassItem c ∷ xs) l = behind (whole.ClassItem c) xs (main_found xs (omega (arith, l)))
  main_found (whole.ConstItem c ∷ xs) l = behind (whole.ConstItem c) xs (main_found xs (omega (arith, l)))
  main_found (whole.ProtoItem s ∷ xs) l = behind (whole.ProtoItem s) xs (main_found xs (omega (arith, l)))
  main_found (whole.ForwardItem f ∷ xs) l = behind (whole.ForwardItem f) xs (main_found xs (omega (arith, l)))
  main_found (whole.UsingItem q ∷ xs) l = behind (whole.UsingItem q) xs (main_found xs (omega (arith, l)))

  found_in : Unbroken (program_visits p) → MainAt p (items_defined p p.items) (main_among p p.items)
  found_in u =
      let one = eqb-true (mains_in p.items) 1 (holds (nat_eq (mains_in p.items) 1) S3 _ _ (none_left (main_breaks p ++ []) _ u)) in
      main_found p.items (omega (arith, one))

  pub program_main_plain : IsFormed p → Unbroken (program_visits p) → special_of p (main_number p) ≡ false
  program_main_plain formed u =
      let m = found_in u in
      let d : Defined = defined_by p m.routine.sig.owner m.routine in
      let same : d.routine ≡ m.routine = defined_routine p formed u m.routine.sig.owner m.routine in
      let rest = right_is (returns_as_main m.routine.sig.owner m.routine.sig.ret) (same_name m.routine.sig.name main_name && (is_plain m.routine.sig.role && no_params m.routine.sig.params)) m.main in
      let plain : is_plain d.routine.sig.role ≡ true = ap (λ (z : whole.Routine). is_plain z.sig.role) same ∙ left_is (is_plain m.routine.sig.role) (no_params m.routine.sig.params) (right_is (same_name m.routine.sig.name main_name) (is_plain m.routine.sig.role && no_params m.routine.sig.params) rest) in
      ap is_special (written_role p (main_number p) d m.at) ∙ plain_role d.routine.sig.role plain
