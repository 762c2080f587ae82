-- Each routine that is no constructor is in order under its signature.
use Rattle.std.proofs.Common.{◌≡◌, ℕ, zero, suc, ◌+◌, ◌-◌, ◌≤◌, ◌⊎◌, inl, inr, List, [], ◌∷◌, length, Option, Some, None, Bool, true, false, refl, sym, ap, ◌∙◌, subst, arith, map}
use Rattle.std.specs.Prelude.{◌&&◌, ◌||◌, not, slice_get, if◌then◌else◌, nat_eq, is_some, option_and_then}
use Rattle.std.proofs.lemmas.Bool.{eqb-true}
use Rattle.std.proofs.lemmas.Option.{slice_get_past}
use Rattle.uc_tree.specs.declared.limits.TheConstants.{MEMBERS}
use Rattle.uc_tree.specs.declared.kinds.Base.{Base}
use Rattle.uc_tree.specs.declared.kinds.Role.{Role}
use Rattle.uc_tree.specs.declared.kinds.Role.TheVariants as role
use Rattle.uc_tree.specs.Names.{same_name}
use Rattle.uc_tree.specs.Cells.{classes_of}
use Rattle.uc_tree.specs.Numbering.{main_name, is_event, is_mutex, is_plain, member_number, exclusive_names, at_most, place_from, Defined, routines_of}
use Rattle.uc_tree.specs.Objects.{class_at, is_constructor, class_height, Unwritten, unwritten_by, unwritten_at, unwritten_of_height, unwritten_up_to, unwritten_of, written_at}
use Rattle.uc_tree.specs.ProgramMain as program
use Rattle.uc_tree.specs.ProgramMain.{main_number}
use Rattle.uc_tree.specs.Programs.{Class, Program}
use Rattle.uc_tree.specs.Source.{Nil, Then, Whole, Purpose, TaskMain, CoroutineMain, Procedure, Function, Builder, Routine}
use Rattle.uc_resolve.specs.Resolve.{Scope, stmts_meant, routine_scope, place_by, class_by, place_or_zero, has_coroutines, has_tasks, is_main, has_number_in, role_purpose, value_purpose, owing, plain_body, body_by, routine_meant, unwritten_meant, unwritten_body, destruction, source_of}
use Rattle.uc_rules.specs.Names.{member_named}
use Rattle.uc_rules.specs.ProgramVisits.{program_visits}
use Rattle.uc_typing.specs.Typing.{Name, Kept, Apart, Enters, Sig, Table, IsInside, InMutex, FineStmts}
use Rattle.uc_typing.specs.States.{IsSorted, LetsGo, Routine_is}
use Rattle.uc_sound.specs.Agreement.{param_ty}
use Rattle.uc_sound.specs.Unbroken.{Unbroken}
use Rattle.uc_sound.proofs.Ties.{some_same, none_some, false_true}
use Rattle.uc_sound.specs.SoundFormed.{IsFormed}
use Rattle.uc_sound.specs.Tables.{of_kind, helps_in, inward_by, role_inward, inward_in, inward_at, routine_sig_in, unwritten_sig, all_sigs, sig_or_none, table_of}
use Rattle.uc_sound.specs.Routines.{builds, builds_by, unwritten_builds, LawRoutines}
use Rattle.uc_sound.proofs.Lists.{left_is, right_is, not_is, in_either}
use Rattle.uc_sound.proofs.Origins.{origin}
use Rattle.uc_sound.proofs.BodyLemmas.{InStep, is_written, nobody_wrote, in_step, count_is, main_plain}
use Rattle.uc_sound.proofs.MemberLemmas.{made_inward}
use Rattle.uc_sound.proofs.InwardLemmas.{Lets, apart, member_lets, destruction_lets}
use Rattle.uc_sound.proofs.DestructionLemmas.{Standing, standing, body_fine, destruction_fine}

pub map_length : {A B : Type 0} (f : A → B) (xs : List A) → length (map f xs) ≡ length xs
map_length f [] = refl
map_length f (x ∷ xs) = ap suc (map_length f xs)

module _ (p : Program) (formed : IsFormed p) (u : Unbroken (program_visits p)) where
  abbrev t : Table
  t = table_of p

  module _ (n : ℕ) (d : Defined) (e : slice_get (routines_of p) n ≡ Some d) (texts sites : ℕ) where
    abbrev scope : Scope
    scope = routine_scope p d.routine (place_by p d) n texts sites

    abbrev g : Sig
    g = routine_sig_in p d scope

    s : Standing p formed u d
    s = standing p formed u d (origin p n d e)

    fine : (sc : List Name) → FineStmts t g sc (stmts_meant p d.routine.body scope)
    fine sc = body_fine p formed u n d e texts sites s sc

    -- a class by its place
    class_is : (o : Option ℕ) → (c : Class) → class_by p o ≡ Some c → (i : ℕ) × (o ≡ Some i) × (class_at p i ≡ Some c)
    class_is None c h = none_some h
    class_is (Some i) c h = (i, refl, h)

    -- a mutex member is of a mutex class
    in_mutex : (o : Option Class) → class_by p (place_by p d) ≡ o → has_number_in p o d.routine.sig ≡ true → InMutex t g
    in_mutex None q h = false_true h
    in_mutex (Some c) q h =
        let i = class_is (place_by p d) c q in
        let w = left_is (is_plain d.routine.sig.role) (is_some (member_number c d.routine.sig.name)) h in
        let n = right_is (is_plain d.routine.sig.role) (is_some (member_number c d.routine.sig.name)) h in
        let m = numbered (is_mutex c.kind) refl n in
        (i.0, i.1, ap (of_kind is_mutex) i.2 ∙ m, subst (λ z. IsInside (inward_at p z d.routine.sig.role d.routine.sig.name)) (sym i.1) (subst (λ o. IsInside (inward_in p i.0 o d.routine.sig.role d.routine.sig.name)) (sym i.2) (subst (λ (b : Bool). IsInside (if b then inward_by d.routine.sig.role (same_name d.routine.sig.name main_name) (is_some (member_number c d.routine.sig.name)) (helps_in (member_named p i.0 d.routine.sig.name)) else Apart)) (sym m) (by_role_inside i.0 d.routine.sig.role (same_name d.routine.sig.name main_name) (is_some (member_number c d.routine.sig.name)) w n))))
      where
        by_role_inside : (i : ℕ) (r : Role) (main number : Bool) → is_plain r ≡ true → number ≡ true → IsInside (inward_by r main number (helps_in (member_named p i d.routine.sig.name)))
        by_role_inside i role.Plain true number w n = tt
        by_role_inside i role.Plain false true w n = tt
        by_role_inside i role.Plain false false w n = false_true n
        by_role_inside i role.Constructor main number w n = false_true w
        by_role_inside i role.Destructor main number w n = false_true w

        none_is : is_mutex c.kind ≡ false → is_some (member_number c d.routine.sig.name) ≡ false
        none_is w = ap (λ (b : Bool). is_some (option_and_then (at_most MEMBERS) (place_from 1 (if b then exclusive_names [] c.members else []) d.routine.sig.name))) w

        numbered : (b : Bool) → is_mutex c.kind ≡ b → is_some (member_number c d.routine.sig.name) ≡ true → is_mutex c.kind ≡ true
        numbered true w h = w
        numbered false w h = false_true (sym (none_is w) ∙ h)

    owing_fine : (k : Purpose) (line : ℕ) (sc : List Name) → FineStmts t g sc (owing p line k)
    owing_fine Function line sc = (tt, tt)
    owing_fine TaskMain line sc = tt
    owing_fine CoroutineMain line sc = tt
    owing_fine Procedure line sc = tt
    owing_fine Builder line sc = tt

    plain_fine : (b : Bool) → has_number_in p (class_by p (place_by p d)) d.routine.sig ≡ b → is_plain d.routine.sig.role ≡ true → FineStmts t g [] (plain_body p b d.routine (stmts_meant p d.routine.body scope))
    plain_fine true h w = (Kept, tt, (fine (Kept ∷ []), owing_fine (value_purpose p d.routine.sig.ret) d.routine.brace.line (Kept ∷ [])), (in_mutex (class_by p (place_by p d)) refl h, ap not w))
    plain_fine false h w = fine []

    whole_fine : is_plain d.routine.sig.role ≡ false → (sc : List Name) → FineStmts t g sc (Then (Whole d.routine.brace.line (stmts_meant p d.routine.body scope)) Nil)
    whole_fine w sc = ((fine sc, ap not w), tt)

    -- a destructor of a mutex class enters
    destructor_inside : d.routine.sig.role ≡ role.Destructor → (i : ℕ) (c : Class) → place_by p d ≡ Some i → class_at p i ≡ Some c → is_mutex c.kind ≡ true → IsInside g.inward
    destructor_inside r i c q e m =
        subst (λ z. IsInside (inward_at p z d.routine.sig.role d.routine.sig.name)) (sym q) (subst (λ (o : Role). IsInside (inward_at p (Some i) o d.routine.sig.name)) (sym r) (subst (λ o. IsInside (inward_in p i o role.Destructor d.routine.sig.name)) (sym e) (subst (λ (b : Bool). IsInside (if b then Enters else Apart)) (sym m) tt)))

    destructor_fine : d.routine.sig.role ≡ role.Destructor → is_plain d.routine.sig.role ≡ false → (o : Option Class) → class_by p (place_by p d) ≡ o → FineStmts t g [] (destruction p o (place_or_zero p (place_by p d)) (Then (Whole d.routine.brace.line (stmts_meant p d.routine.body scope)) Nil))
    destructor_fine r w None q = whole_fine w []
    destructor_fine r w (Some c) q =
        let i = class_is (place_by p d) c q in
        subst (λ (z : Option ℕ). FineStmts t g [] (destruction p (Some c) (place_or_zero p z) (Then (Whole d.routine.brace.line (stmts_meant p d.routine.body scope)) Nil))) (sym i.1) (destruction_fine p formed u i.0 c i.2 g i.1 (destructor_inside r i.0 c i.1 i.2) (Then (Whole d.routine.brace.line (stmts_meant p d.routine.body scope)) Nil) (whole_fine w) [])

    by_role : (o : Role) → d.routine.sig.role ≡ o → is_constructor o ≡ false → FineStmts t g [] (body_by p o d.routine scope)
    by_role role.Plain q h = plain_fine (has_number_in p (class_by p (place_by p d)) d.routine.sig) refl (ap is_plain q)
    by_role role.Constructor q h = false_true (sym h)
    by_role role.Destructor q h = destructor_fine q (ap is_plain q) (class_by p (place_by p d)) refl

    -- what it is for
    sorted_main : (b : Bool) → (is_plain d.routine.sig.role && same_name d.routine.sig.name main_name) ≡ b → b ≡ true → not (is_plain d.routine.sig.role) ≡ false
    sorted_main b q h = ap not (left_is (is_plain d.routine.sig.role) (same_name d.routine.sig.name main_name) (q ∙ h))

    either : (a b : Bool) → (a || b) ≡ true → (a ≡ true) ⊎ (b ≡ true)
    either true b h = inl refl
    either false b h = inr h

    task_main : ((nat_eq n (main_number p)) || (has_tasks p (class_by p (place_by p d)) && is_main p d.routine.sig)) ≡ true → not (is_plain d.routine.sig.role) ≡ false
    task_main h = by (either (nat_eq n (main_number p)) (has_tasks p (class_by p (place_by p d)) && is_main p d.routine.sig) h)
      where
        by : (nat_eq n (main_number p) ≡ true) ⊎ ((has_tasks p (class_by p (place_by p d)) && is_main p d.routine.sig) ≡ true) → not (is_plain d.routine.sig.role) ≡ false
        by (inl k) = ap not (main_plain p u n d (eqb-true n (main_number p) k) e)
        by (inr k) = sorted_main (is_main p d.routine.sig) refl (right_is (has_tasks p (class_by p (place_by p d))) (is_main p d.routine.sig) k)

    value_sorted : (b : Base) → IsSorted (value_purpose p b) false
    value_sorted b = by (program.is_void b)
      where
        by : (z : Bool) → IsSorted (if z then Procedure else Function) false
        by true = refl
        by false = refl

    role_sorted : (o : Role) → IsSorted (role_purpose p o d.routine.sig.ret) (not (is_plain o))
    role_sorted role.Plain = value_sorted d.routine.sig.ret
    role_sorted role.Constructor = tt
    role_sorted role.Destructor = tt

    purposed : (a b c : Bool) → ((nat_eq n (main_number p)) || (has_tasks p (class_by p (place_by p d)) && is_main p d.routine.sig)) ≡ a → (has_coroutines p (class_by p (place_by p d)) && is_main p d.routine.sig) ≡ b → IsSorted (if a then TaskMain else if b then CoroutineMain else if c then Builder else role_purpose p d.routine.sig.role d.routine.sig.ret) g.whole
    purposed true b c h k = task_main h
    purposed false true c h k = sorted_main (is_main p d.routine.sig) refl (right_is (has_coroutines p (class_by p (place_by p d))) (is_main p d.routine.sig) k)
    purposed false false true h k = tt
    purposed false false false h k = role_sorted d.routine.sig.role

    pub routine_purpose : IsSorted (routine_meant p d.routine scope).purpose g.whole
    routine_purpose = purposed ((nat_eq n (main_number p)) || (has_tasks p (class_by p (place_by p d)) && is_main p d.routine.sig)) (has_coroutines p (class_by p (place_by p d)) && is_main p d.routine.sig) (has_number_in p (class_by p (place_by p d)) d.routine.sig) refl refl

    -- what enters lets go
    lets : (r : Role) → d.routine.sig.role ≡ r → is_constructor r ≡ false → Lets g.inward → LetsGo (body_by p d.routine.sig.role d.routine scope)
    lets role.Plain q h l =
        subst (λ (r : Role). LetsGo (body_by p r d.routine scope)) (sym q) (member_lets p (place_by p d) d.routine (stmts_meant p d.routine.body scope) (ap is_plain q) (subst (λ (r : Role). Lets (inward_at p (place_by p d) r d.routine.sig.name)) q l))
    lets role.Constructor q h l = false_true (sym h)
    lets role.Destructor q h l =
        subst (λ (r : Role). LetsGo (body_by p r d.routine scope)) (sym q) (destruction_lets p (place_by p d) d.routine.sig.name (Then (Whole d.routine.brace.line (stmts_meant p d.routine.body scope)) Nil) (subst (λ (r : Role). Lets (inward_at p (place_by p d) r d.routine.sig.name)) q l))

    routine_is : is_constructor d.routine.sig.role ≡ false → Routine_is t g (routine_meant p d.routine scope)
    routine_is h = record {
      body = by_role d.routine.sig.role refl h;
      params = sym (map_length (param_ty p) d.routine.sig.params);
      purpose = routine_purpose;
      enters = lets d.routine.sig.role refl h;
    }

  -- what nobody wrote is of a class

  own_class : (o : Option ℕ) (i : ℕ) (r : Role) (k : ℕ) (x : Unwritten) → slice_get (unwritten_by o i r) k ≡ Some x → (x.class ≡ i) × (x.role ≡ r) × (o ≡ None)
  own_class None i r zero x e = (ap (λ (z : Unwritten). z.class) (sym (some_same e)), ap (λ (z : Unwritten). z.role) (sym (some_same e)), refl)
  own_class None i r (suc k) x e = none_some e
  own_class (Some n) i r k x e = none_some e

  pub record OfClass (x : Unwritten) : Type 0 where
    pub class : Class
    pub at : class_at p x.class ≡ Some class
    pub no_event : is_event class.kind ≡ false
    pub missing : written_at p x.class x.role ≡ None

  of_height : (h : ℕ) (cs : List Class) (i k : ℕ) (x : Unwritten) → ((m : ℕ) (c : Class) (j : ℕ) → i + m ≡ j → slice_get cs m ≡ Some c → class_at p j ≡ Some c) → slice_get (unwritten_of_height p h cs i) k ≡ Some x → OfClass x
  of_height h [] i k x f e = none_some e
  of_height h (c ∷ cs) i k x f e = by (in_either (if not (is_event c.kind) && nat_eq (class_height p i) h then unwritten_at p i else []) (unwritten_of_height p h cs (i + 1)) k x e) (λ m q. of_height h cs (i + 1) m x (λ m c j q e. f (suc m) c j (omega (arith, q)) e) q)
    where
      here : (b : Bool) → (not (is_event c.kind) && nat_eq (class_height p i) h) ≡ b → slice_get (if b then unwritten_at p i else []) k ≡ Some x → OfClass x
      here true v q = at (in_either (unwritten_by (written_at p i role.Constructor) i role.Constructor) (unwritten_by (written_at p i role.Destructor) i role.Destructor) k x q)
        where
          of : (r : Role) → (x.class ≡ i) × (x.role ≡ r) × (written_at p i r ≡ None) → OfClass x
          of r z = record { class = c; at = ap (class_at p) z.0 ∙ f 0 c i (omega arith) refl; no_event = not_is (is_event c.kind) (left_is (not (is_event c.kind)) (nat_eq (class_height p i) h) v); missing = ap (λ i. written_at p i x.role) z.0 ∙ (ap (written_at p i) z.1 ∙ z.2) }

          at : (slice_get (unwritten_by (written_at p i role.Constructor) i role.Constructor) k ≡ Some x) ⊎ ((m : ℕ) × (slice_get (unwritten_by (written_at p i role.Destructor) i role.Destructor) m ≡ Some x)) → OfClass x
          at (inl q) = of role.Constructor (own_class (written_at p i role.Constructor) i role.Constructor k x q)
          at (inr q) = of role.Destructor (own_class (written_at p i role.Destructor) i role.Destructor q.0 x q.1)
      here false v q = none_some q

      by : (slice_get (if not (is_event c.kind) && nat_eq (class_height p i) h then unwritten_at p i else []) k ≡ Some x) ⊎ ((m : ℕ) × (slice_get (unwritten_of_height p h cs (i + 1)) m ≡ Some x)) → ((m : ℕ) → slice_get (unwritten_of_height p h cs (i + 1)) m ≡ Some x → OfClass x) → OfClass x
      by (inl q) ih = here (not (is_event c.kind) && nat_eq (class_height p i) h) refl q
      by (inr q) ih = ih q.0 q.1

  of_all : (h k : ℕ) (x : Unwritten) → slice_get (unwritten_of_height p h (classes_of p.items) 0) k ≡ Some x → OfClass x
  of_all h k x e = of_height h (classes_of p.items) 0 k x (λ m c j q e. ap (class_at p) (let z : j ≡ m = omega (arith, q) in z) ∙ e) e

  pub of_heights : (top k : ℕ) (x : Unwritten) → slice_get (unwritten_up_to p top) k ≡ Some x → OfClass x
  of_heights zero k x e = of_all 0 k x e
  of_heights (suc top) k x e = by (in_either (unwritten_of_height p (suc top) (classes_of p.items) 0) (unwritten_up_to p top) k x e) (λ m q. of_heights top m x q)
    where
      by : (slice_get (unwritten_of_height p (suc top) (classes_of p.items) 0) k ≡ Some x) ⊎ ((m : ℕ) × (slice_get (unwritten_up_to p top) m ≡ Some x)) → ((m : ℕ) → slice_get (unwritten_up_to p top) m ≡ Some x → OfClass x) → OfClass x
      by (inl q) ih = of_all (suc top) k x q
      by (inr q) ih = ih q.0 q.1

  unwritten_fine : (x : Unwritten) (r : Role) → x.role ≡ r → OfClass x → is_constructor r ≡ false → FineStmts t (unwritten_sig p x) [] (unwritten_body p r x.class)
  unwritten_fine x role.Plain q c h = tt
  unwritten_fine x role.Constructor q c h = false_true (sym h)
  unwritten_fine x role.Destructor q c h =
      subst (λ o. FineStmts t (unwritten_sig p x) [] (destruction p o x.class Nil)) (sym c.at) (destruction_fine p formed u x.class c.class c.at (unwritten_sig p x) refl (λ m. unwritten_inside x q c m) Nil (λ sc. tt) [])
    where
      unwritten_inside : (x : Unwritten) → x.role ≡ role.Destructor → (c : OfClass x) → is_mutex c.class.kind ≡ true → IsInside (role_inward x.role (of_kind is_mutex (class_at p x.class)))
      unwritten_inside x q c m =
          subst (λ (r : Role). IsInside (role_inward r (of_kind is_mutex (class_at p x.class)))) (sym q) (subst (λ (b : Bool). IsInside (role_inward role.Destructor b)) (sym (ap (of_kind is_mutex) c.at ∙ m)) tt)

  unwritten_is : (x : Unwritten) → OfClass x → is_constructor x.role ≡ false → Routine_is t (unwritten_sig p x) (unwritten_meant p x)
  unwritten_is x c h = record { body = unwritten_fine x x.role refl c h; params = refl; purpose = tt; enters = lets x.role refl h }
    where
      lets : (r : Role) → x.role ≡ r → is_constructor x.role ≡ false → Lets (role_inward x.role (of_kind is_mutex (class_at p x.class))) → LetsGo (unwritten_body p x.role x.class)
      lets role.Plain q h l = apart (subst (λ (r : Role). Lets (role_inward r (of_kind is_mutex (class_at p x.class)))) q l)
      lets role.Constructor q h l = false_true (sym (subst (λ (r : Role). is_constructor r ≡ false) q h))
      lets role.Destructor q h l =
          let k : Lets (inward_at p (Some x.class) role.Destructor []) = subst Lets (sym (made_inward p formed u x.class c.class role.Destructor [] c.at refl)) (subst (λ (r : Role). Lets (role_inward r (of_kind is_mutex (class_at p x.class)))) q l) in
          subst (λ (r : Role). LetsGo (unwritten_body p r x.class)) (sym q) (destruction_lets p (Some x.class) [] Nil k)

  routines_are : (n : ℕ) (r : Routine) → slice_get (source_of p).routines n ≡ Some r → builds p n ≡ false → Routine_is t (t.routine n) r
  routines_are n r e h = by (in_step p n r e)
    where
      by : InStep p (routines_of p) (unwritten_of p) n n r (slice_get (all_sigs p) n) → Routine_is t (t.routine n) r
      by (is_written d texts sites f q s) =
          let k : is_constructor d.routine.sig.role ≡ false = sym (ap (builds_by p n) f) ∙ h in
          subst (λ g. Routine_is t g r) (sym (ap sig_or_none s)) (subst (Routine_is t (routine_sig_in p d (routine_scope p d.routine (place_by p d) n texts sites))) (sym q) (routine_is n d f texts sites k))
      by (nobody_wrote x m a f q s) =
          let none : slice_get (routines_of p) n ≡ None = slice_get_past (routines_of p) n (let z : length (routines_of p) ≤ n = omega (arith, a) in z) in
          let l : n - length (routines_of p) ≡ m = omega (arith, a) in
          let k : is_constructor x.role ≡ false = sym (ap (builds_by p n) none ∙ (ap (λ z. unwritten_builds (slice_get (unwritten_of p) z)) l ∙ ap unwritten_builds f)) ∙ h in
          subst (λ g. Routine_is t g r) (sym (ap sig_or_none s)) (subst (Routine_is t (unwritten_sig p x)) (sym q) (unwritten_is x (of_heights (length (classes_of p.items)) m x f) k))

pub law_routines : LawRoutines
law_routines p formed u = record { count = count_is p; routines = routines_are p formed u }
