-- The main of a program that breaks no rule is no constructor and no destructor.
use Rattle.std.proofs.Common.{◌≡◌, ℕ, ◌+◌, ◌≤◌, ◌++◌, Bool, true, false, List, [], ◌∷◌, length, Some, refl, sym, ap, ◌∙◌, arith}
use Rattle.std.proofs.lemmas.Bool.{eqb-true}
use Rattle.std.specs.Prelude.{slice_get, if◌then◌else◌, nat_eq, not}
use Rattle.uc_tree.specs.Numbering.{Defined, defined_by, item_defined, items_defined, is_plain}
use Rattle.uc_tree.specs.ProgramMain.{main_among, main_number, is_main_sig}
use Rattle.uc_tree.specs.Programs as whole
use Rattle.uc_tree.specs.Programs.{Program}
use Rattle.uc_resolve.specs.Resolve.{source_of}
use Rattle.uc_rules.specs.declared.rule.Rule.TheVariants.{S3}
use Rattle.uc_rules.specs.ItemBreaks.{is_program_main, mains_in, main_breaks}
use Rattle.uc_rules.specs.ProgramVisits.{program_visits}
use Rattle.uc_rules.specs.Breaks.{breaks_of}
use Rattle.uc_typing.specs.Typing.{Sig}
use Rattle.uc_sound.specs.Unbroken.{Unbroken}
use Rattle.uc_sound.specs.Tables.{table_of}
use Rattle.uc_sound.proofs.Ties.{false_true}
use Rattle.uc_sound.proofs.UnbrokenLemmas.{none_left, holds}
use Rattle.uc_sound.proofs.Lists.{get_right}
use Rattle.uc_sound.proofs.BodyLemmas.{main_sig, main_plain}
use Rattle.uc_sound.proofs.Signatures.{has_sig}

-- the main of the program

record MainAt (p : Program) (ds : List Defined) (n : ℕ) : Type 0 where
  routine : whole.Routine
  at : slice_get ds n ≡ Some (defined_by p routine.sig.owner routine)
  main : is_main_sig routine.sig ≡ true

module _ (p : Program) where
  behind : (x : whole.Item) (xs : List whole.Item) → MainAt p (items_defined p xs) (main_among p xs) → MainAt p (item_defined p x ++ items_defined p xs) (length (item_defined p x) + main_among p xs)
  behind x xs m = record {
    routine = m.routine;
    at = get_right (item_defined p x) (items_defined p xs) (main_among p xs) (length (item_defined p x) + main_among p xs) refl ∙ m.at;
    main = m.main;
  }

  routine_main : (r : whole.Routine) (xs : List whole.Item) → 1 ≤ mains_in (whole.RoutineItem r ∷ xs) → (1 ≤ mains_in xs → MainAt p (items_defined p xs) (main_among p xs)) → MainAt p (items_defined p (whole.RoutineItem r ∷ xs)) (main_among p (whole.RoutineItem r ∷ xs))
  routine_main r xs l f = by (is_main_sig r.sig) refl
    where
      fewer : (b : Bool) → is_program_main r.sig ≡ b → is_main_sig r.sig ≡ false → 1 ≤ (if b then 1 else 0) + mains_in xs → 1 ≤ mains_in xs
      fewer true h g l = false_true (sym g ∙ main_sig p r.sig h)
      fewer false h g l = omega (arith, l)

      by : (b : Bool) → is_main_sig r.sig ≡ b → MainAt p (item_defined p (whole.RoutineItem r) ++ items_defined p xs) (if b then 0 else length (item_defined p (whole.RoutineItem r)) + main_among p xs)
      by true h = record { routine = r; at = refl; main = h }
      by false h = behind (whole.RoutineItem r) xs (f (fewer (is_program_main r.sig) refl h l))

  main_found : (xs : List whole.Item) → 1 ≤ mains_in xs → MainAt p (items_defined p xs) (main_among p xs)
  main_found [] l = let z : ⊥ = omega (arith, l) in absurd z
  main_found (whole.RoutineItem r ∷ xs) l = routine_main r xs l (main_found xs)
  main_found (whole.ClassItem c ∷ xs) l = behind (whole.ClassItem c) xs (main_found xs (omega (arith, l)))
  main_found (whole.ConstItem c ∷ xs) l = behind (whole.ConstItem c) xs (main_found xs (omega (arith, l)))
  main_found (whole.ProtoItem s ∷ xs) l = behind (whole.ProtoItem s) xs (main_found xs (omega (arith, l)))
  main_found (whole.ForwardItem f ∷ xs) l = behind (whole.ForwardItem f) xs (main_found xs (omega (arith, l)))
  main_found (whole.UsingItem q ∷ xs) l = behind (whole.UsingItem q) xs (main_found xs (omega (arith, l)))

  found_in : Unbroken (program_visits p) → MainAt p (items_defined p p.items) (main_among p p.items)
  found_in u =
      let one = eqb-true (mains_in p.items) 1 (holds (nat_eq (mains_in p.items) 1) S3 _ _ (none_left (main_breaks p ++ []) _ u)) in
      main_found p.items (omega (arith, one))

pub no_maker : (p : Program) → breaks_of p ≡ [] → ((table_of p).routine (source_of p).main).whole ≡ true → ⊥
no_maker p accepted h =
    let m = found_in p accepted in
    let d : Defined = defined_by p m.routine.sig.owner m.routine in
    let plain : is_plain d.routine.sig.role ≡ true = main_plain p accepted (main_number p) d refl m.at in
    let no : ((table_of p).routine (main_number p)).whole ≡ false = ap (λ (g : Sig). g.whole) (has_sig p (main_number p) d m.at).sig ∙ ap not plain in
    let clash : true ≡ false = sym h ∙ no in
    cc
