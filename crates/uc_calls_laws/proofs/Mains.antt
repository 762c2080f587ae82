-- Which routines of a program are mains: plain ones by the name of one.
use Rattle.std.proofs.Common.{◌≡◌, ℕ, ◌+◌, ◌⊎◌, inl, inr, List, Option, Some, None, Bool, true, false, refl, sym, ap, ◌∙◌, subst, arith}
use Rattle.std.specs.Prelude.{◌&&◌, ◌||◌, nat_eq, slice_get, if◌then◌else◌}
use Rattle.std.proofs.lemmas.Bool.{eqb-true}
use Rattle.uc_tree.specs.declared.kinds.Base.{Base}
use Rattle.uc_tree.specs.declared.kinds.Role.{Role}
use Rattle.uc_tree.specs.declared.kinds.Role.TheVariants as role
use Rattle.uc_tree.specs.Names.{same_name}
use Rattle.uc_tree.specs.Numbering.{Defined, defined_by, main_name, is_mutex, is_plain, routines_of}
use Rattle.uc_tree.specs.Objects.{class_at, is_member, member_from, unwritten_of}
use Rattle.uc_tree.specs.ProgramMain as program
use Rattle.uc_tree.specs.ProgramMain.{main_number}
use Rattle.uc_tree.specs.Programs as whole
use Rattle.uc_tree.specs.Programs.{Program}
use Rattle.uc_tree.specs.Source as src
use Rattle.uc_tree.specs.Source.{Purpose, Routine}
use Rattle.uc_resolve.specs.Standings as tree
use Rattle.uc_resolve.specs.Resolve.{source_of, place_by, class_by, has_tasks, has_coroutines, has_number_in, is_main, value_purpose, role_purpose, purpose_of}
use Rattle.uc_rules.specs.ProgramVisits.{program_visits}
use Rattle.uc_typing.specs.Typing.{Inward, Apart, Main}
use Rattle.uc_typing.specs.States.{IsSorted}
use Rattle.uc_sound.specs.Unbroken.{Unbroken}
use Rattle.uc_sound.proofs.Ties.{some_same, false_true}
use Rattle.uc_sound.specs.SoundFormed.{IsFormed}
use Rattle.uc_sound.specs.Tables.{inward_by, inward_in, inward_at, sig_or_none, all_sigs, table_of}
use Rattle.uc_sound.proofs.Lists.{left_is, right_is}
use Rattle.uc_sound.proofs.Origins.{Looked, looked, routine_looked, member_looked}
use Rattle.uc_sound.proofs.ClassNames.{same_is}
use Rattle.uc_sound.proofs.BodyLemmas.{InStep, is_written, nobody_wrote, in_step}
use Rattle.uc_sound.proofs.RoutineLemmas.{defined_routine}
use Rattle.uc_sound.proofs.SoundLemmas.{law_sound}
use Rattle.uc_depth_laws.specs.Entering.{EndsMain, IsMainRoutine, IsMain}
use Rattle.uc_sound.proofs.Lookups.{found_in}

-- a routine that is there
there : (o : Option Routine) → IsMainRoutine o → (r : Routine) × (o ≡ Some r) × EndsMain r.purpose
there None h = absurd h
there (Some r) h = (r, refl, h)

-- what is not sorted as a main is none
not_value : (p : Program) (b : Base) → EndsMain (value_purpose p b) → ⊥
not_value p b h = by (program.is_void b) h
  where
    by : (z : Bool) → EndsMain (if z then src.Procedure else src.Function) → ⊥
    by true h = h
    by false h = h

not_role : (p : Program) (r : Role) (b : Base) → EndsMain (role_purpose p r b) → ⊥
not_role p role.Plain b h = not_value p b h
not_role p role.Constructor b h = h
not_role p role.Destructor b h = h

module _ (p : Program) (formed : IsFormed p) (u : Unbroken (program_visits p)) where
  -- a plain routine by the name of a main
  pub record IsNamed (d : Defined) : Type 0 where
    pub plain : is_plain d.routine.sig.role ≡ true
    pub named : same_name d.routine.sig.name main_name ≡ true

  by_sig : (d : Defined) → is_main p d.routine.sig ≡ true → IsNamed d
  by_sig d h = record {
    plain = left_is (is_plain d.routine.sig.role) (same_name d.routine.sig.name main_name) h;
    named = right_is (is_plain d.routine.sig.role) (same_name d.routine.sig.name main_name) h;
  }

  -- the program's main is one
  program_named : (n : ℕ) (d : Defined) → slice_get (routines_of p) n ≡ Some d → nat_eq n (main_number p) ≡ true → IsNamed d
  program_named n d e h =
      let m = found_in p u in
      let q : n ≡ main_number p = eqb-true n (main_number p) h in
      let is : defined_by p m.routine.sig.owner m.routine ≡ d = some_same (sym m.at ∙ (ap (slice_get (routines_of p)) (sym q) ∙ e)) in
      let same : (defined_by p m.routine.sig.owner m.routine).routine ≡ m.routine = defined_routine p formed u m.routine.sig.owner m.routine in
      let own : d.routine ≡ m.routine = ap (λ (z : Defined). z.routine) (sym is) ∙ same in
      let rest = right_is (program.returns_as_main m.routine.sig.owner m.routine.sig.ret) (same_name m.routine.sig.name main_name && (is_plain m.routine.sig.role && program.no_params m.routine.sig.params)) m.main in
      record {
        plain = ap (λ (z : whole.Routine). is_plain z.sig.role) own ∙ left_is (is_plain m.routine.sig.role) (program.no_params m.routine.sig.params) (right_is (same_name m.routine.sig.name main_name) (is_plain m.routine.sig.role && program.no_params m.routine.sig.params) rest);
        named = ap (λ (z : whole.Routine). same_name z.sig.name main_name) own ∙ left_is (same_name m.routine.sig.name main_name) (is_plain m.routine.sig.role && program.no_params m.routine.sig.params) rest;
      }

  either : (a b : Bool) → (a || b) ≡ true → (a ≡ true) ⊎ (b ≡ true)
  either true b h = inl refl
  either false b h = inr h

  purposed : (n : ℕ) (d : Defined) → slice_get (routines_of p) n ≡ Some d → EndsMain (purpose_of p n (class_by p (place_by p d)) d.routine) → IsNamed d
  purposed n d e h =
      by (nat_eq n (main_number p) || (has_tasks p (class_by p (place_by p d)) && is_main p d.routine.sig)) (has_coroutines p (class_by p (place_by p d)) && is_main p d.routine.sig) (has_number_in p (class_by p (place_by p d)) d.routine.sig) refl refl h
    where
      of_task : (nat_eq n (main_number p) ≡ true) ⊎ ((has_tasks p (class_by p (place_by p d)) && is_main p d.routine.sig) ≡ true) → IsNamed d
      of_task (inl k) = program_named n d e k
      of_task (inr k) = by_sig d (right_is (has_tasks p (class_by p (place_by p d))) (is_main p d.routine.sig) k)

      by : (a b c : Bool) → (nat_eq n (main_number p) || (has_tasks p (class_by p (place_by p d)) && is_main p d.routine.sig)) ≡ a → (has_coroutines p (class_by p (place_by p d)) && is_main p d.routine.sig) ≡ b → EndsMain (if a then src.TaskMain else if b then src.CoroutineMain else if c then src.Builder else role_purpose p d.routine.sig.role d.routine.sig.ret) → IsNamed d
      by true b c q k h = of_task (either (nat_eq n (main_number p)) _ q)
      by false true c q k h = by_sig d (right_is (has_coroutines p (class_by p (place_by p d))) (is_main p d.routine.sig) k)
      by false false true q k h = absurd h
      by false false false q k h = absurd (not_role p d.routine.sig.role d.routine.sig.ret h)

  -- a main is written, and is such a routine
  pub record MainIs (n : ℕ) : Type 0 where
    pub defined : Defined
    pub at : slice_get (routines_of p) n ≡ Some defined
    pub named : IsNamed defined
    pub inward : ((table_of p).routine n).inward ≡ inward_at p (place_by p defined) defined.routine.sig.role defined.routine.sig.name

  pub main_is : (n : ℕ) → IsMain (source_of p) n → MainIs n
  main_is n h =
      let x = there (slice_get (source_of p).routines n) h in
      by x.0 x.2 (in_step p n x.0 x.1)
    where
      by : (r : Routine) → EndsMain r.purpose → InStep p (routines_of p) (unwritten_of p) n n r (slice_get (all_sigs p) n) → MainIs n
      by r k (is_written d texts sites f q s) = record {
        defined = d;
        at = f;
        named = purposed n d f (subst (λ (z : Routine). EndsMain z.purpose) q k);
        inward = ap (λ o. (sig_or_none o).inward) s;
      }
      by r k (nobody_wrote x m a f q s) = absurd (subst (λ (z : Routine). EndsMain z.purpose) q k)

  abbrev IsWay : Inward → Type 0
  IsWay w = (w ≡ Apart) ⊎ (w ≡ Main)

  -- so it comes to run inside its object as a main does, or apart from one
  pub main_inward : (n : ℕ) → IsMain (source_of p) n → (((table_of p).routine n).inward ≡ Apart) ⊎ (((table_of p).routine n).inward ≡ Main)
  main_inward n h =
      let m = main_is n h in
      let d = m.defined in
      ways (at_place (place_by p d) d.routine.sig.role d.routine.sig.name m.named.plain m.named.named) m.inward
    where
      of_mutex : (i : ℕ) (r : Role) (name : List ℕ) (main number helps b : Bool) → is_plain r ≡ true → main ≡ true → IsWay (if b then inward_by r main number helps else Apart)
      of_mutex i role.Plain name true number helps true w e = inr refl
      of_mutex i role.Plain name false number helps true w e = false_true e
      of_mutex i role.Constructor name main number helps true w e = false_true w
      of_mutex i role.Destructor name main number helps true w e = false_true w
      of_mutex i r name main number helps false w e = inl refl

      in_class : (i : ℕ) (c : Option whole.Class) (r : Role) (name : List ℕ) → is_plain r ≡ true → same_name name main_name ≡ true → IsWay (inward_in p i c r name)
      in_class i None r name w e = inl refl
      in_class i (Some c) r name w e = of_mutex i r name (same_name name main_name) _ _ (is_mutex c.kind) w e

      at_place : (o : Option ℕ) (r : Role) (name : List ℕ) → is_plain r ≡ true → same_name name main_name ≡ true → IsWay (inward_at p o r name)
      at_place None r name w e = inl refl
      at_place (Some i) r name w e = in_class i (class_at p i) r name w e

      ways : {v w : Inward} → IsWay v → w ≡ v → IsWay w
      ways (inl e) q = inl (q ∙ e)
      ways (inr e) q = inr (q ∙ e)

  -- what is left as a whole is none
  pub whole_no_main : (n : ℕ) → ((table_of p).routine n).whole ≡ true → IsMain (source_of p) n → ⊥
  whole_no_main n w h =
      let x = there (slice_get (source_of p).routines n) h in
      by x.0.purpose x.2 ((law_sound p formed u).routines n x.0 x.1).purpose
    where
      no_both : {b : Bool} → b ≡ true → b ≡ false → ⊥
      no_both e f = let q : true ≡ false = sym e ∙ f in absurd (cc)

      by : (q : Purpose) → EndsMain q → IsSorted q ((table_of p).routine n).whole → ⊥
      by src.TaskMain k s = no_both w s
      by src.CoroutineMain k s = no_both w s
      by src.Procedure k s = k
      by src.Function k s = k
      by src.Builder k s = k

  -- nor is a routine by another name

  at_place : (r n : ℕ) → Some r ≡ Some (0 + n) → r ≡ n
  at_place r n e = let q : r ≡ 0 + n = some_same e in omega (arith, q)

  other_named : (name : List ℕ) (d : Defined) → same_name d.routine.sig.name name ≡ true → IsNamed d → same_name name main_name ≡ true
  other_named name d e m =
      subst (λ n. same_name n main_name ≡ true) (same_is d.routine.sig.name name e) m.named

  found_named : (r n : ℕ) (name : List ℕ) (d : Defined) → slice_get (routines_of p) n ≡ Some d → Some r ≡ Some (0 + n) → same_name d.routine.sig.name name ≡ true → IsMain (source_of p) r → same_name name main_name ≡ true
  found_named r n name d e q s h =
      let m = main_is r h in
      let same : m.defined ≡ d = some_same (sym m.at ∙ (ap (slice_get (routines_of p)) (at_place r n q) ∙ e)) in
      other_named name d s (subst IsNamed same m.named)

  pub member_named : (class : ℕ) (name : List ℕ) (r : ℕ) → member_from (routines_of p) 0 class name ≡ Some r → IsMain (source_of p) r → same_name name main_name ≡ true
  member_named class name r e h =
      let k : Looked (is_member class name) (routines_of p) 0 (Some r) = looked (is_member class name) (routines_of p) 0 r (sym (member_looked (routines_of p) 0 class name) ∙ e) in
      let d = k.defined in
      let rest : (is_plain d.routine.sig.role && same_name d.routine.sig.name name) ≡ true = right_is (nat_eq d.number class) (is_plain d.routine.sig.role && same_name d.routine.sig.name name) k.passes in
      found_named r k.n name d k.at k.found (right_is (is_plain d.routine.sig.role) (same_name d.routine.sig.name name) rest) h

  pub routine_named : (name : List ℕ) (r : ℕ) → tree.routine_from (routines_of p) 0 name ≡ Some r → IsMain (source_of p) r → same_name name main_name ≡ true
  routine_named name r e h =
      let k : Looked (λ d. nat_eq d.number 0 && tree.is_named d.routine.sig name) (routines_of p) 0 (Some r) = looked (λ d. nat_eq d.number 0 && tree.is_named d.routine.sig name) (routines_of p) 0 r (sym (routine_looked (routines_of p) 0 name) ∙ e) in
      let d = k.defined in
      let named : tree.is_named d.routine.sig name ≡ true = right_is (nat_eq d.number 0) (tree.is_named d.routine.sig name) k.passes in
      let rest : (is_plain d.routine.sig.role && same_name d.routine.sig.name name) ≡ true = right_is (tree.is_here d.routine.sig.owner) (is_plain d.routine.sig.role && same_name d.routine.sig.name name) named in
      found_named r k.n name d k.at k.found (right_is (is_plain d.routine.sig.role) (same_name d.routine.sig.name name) rest) h
