-- The mains with which tasks begin: that of the program, and those of task classes.
use Rattle.std.proofs.Common.{◌≡◌, ℕ, ◌+◌, ◌≤◌, ◌++◌, List, [], ◌∷◌, length, Some, None, Bool, true, false, refl, sym, ap, ◌∙◌, subst, arith, map}
use Rattle.std.specs.Prelude.{◌&&◌, slice_get, if◌then◌else◌, nat_eq}
use Rattle.std.proofs.lemmas.Bool.{eqb-true}
use Rattle.uc_tree.specs.declared.kinds.Kind.{Kind}
use Rattle.uc_tree.specs.declared.kinds.Kind.TheVariants as kind
use Rattle.uc_tree.specs.declared.kinds.Owner.{Owner}
use Rattle.uc_tree.specs.declared.kinds.Owner.TheVariants as owner
use Rattle.uc_tree.specs.declared.kinds.Param.{Param}
use Rattle.uc_tree.specs.Names.{same_name}
use Rattle.uc_tree.specs.Cells.{classes_of}
use Rattle.uc_tree.specs.Numbering.{main_name, is_mutex, is_plain, Defined, defined_by, item_defined, items_defined, routines_of}
use Rattle.uc_tree.specs.Objects.{class_at, place_of}
use Rattle.uc_tree.specs.ProgramMain.{main_among, main_number, is_main_sig, returns_as_main, no_params}
use Rattle.uc_tree.specs.Programs.{Routine as Body, Class, Item, ClassItem, RoutineItem, ConstItem, ProtoItem, ForwardItem, UsingItem, Program}
use Rattle.uc_resolve.specs.Resolve.{main_at, place_by}
use Rattle.uc_rules.specs.declared.rule.Rule.TheVariants.{S3}
use Rattle.uc_rules.specs.Sorts.{has_main, is_task}
use Rattle.uc_rules.specs.ItemBreaks.{is_program_main, mains_in, main_breaks}
use Rattle.uc_rules.specs.ProgramVisits.{program_visits}
use Rattle.uc_typing.specs.Typing.{Apart, Sig, IsMain}
use Rattle.uc_typing.specs.States.{IsOfTask, IsTask}
use Rattle.uc_sound.specs.Agreement.{param_ty}
use Rattle.uc_sound.specs.Unbroken.{Unbroken}
use Rattle.uc_sound.proofs.Ties.{false_true}
use Rattle.uc_sound.proofs.UnbrokenLemmas.{none_left, holds}
use Rattle.uc_sound.specs.SoundFormed.{IsFormed}
use Rattle.uc_sound.specs.Sounds.{of_program, of_class, LawMains}
use Rattle.uc_sound.specs.Tables.{of_kind, inward_at, table_of}
use Rattle.uc_sound.proofs.Lists.{left_is, right_is, get_right}
use Rattle.uc_sound.proofs.Signatures.{has_sig}
use Rattle.uc_sound.proofs.RoutineLemmas.{defined_routine, plain_place, no_place}
use Rattle.uc_sound.proofs.BodyLemmas.{main_sig}
use Rattle.uc_sound.proofs.SoundLemmas.{main_is}

-- the main of a task class

mained : (k : Kind) → is_task k ≡ true → has_main k ≡ true
mained kind.Task h = refl
mained _ h = false_true h

mutex : (k : Kind) → is_task k ≡ true → is_mutex k ≡ true
mutex kind.Task h = refl
mutex _ h = false_true h

class_main : (p : Program) → IsFormed p → Unbroken (program_visits p) → (i : ℕ) (c : Class) → class_at p i ≡ Some c → is_task c.kind ≡ true → IsTask (table_of p) (main_at p i)
class_main p formed u i c e h =
    let g : Sig = record { this = Some i; params = []; locals = []; whole = false; inward = Apart } in
    let m : IsMain (table_of p) g (main_at p i) = (main_is p formed u i c e g refl (mained c.kind h)).0 in
    let k : (table_of p).mutex i ≡ true = ap (of_kind is_mutex) e ∙ mutex c.kind h in
    (subst (IsOfTask (table_of p)) (sym m.0) k, m.1, m.2)

-- the main of the program

record MainAt (p : Program) (ds : List Defined) (n : ℕ) : Type 0 where
  routine : Body
  at : slice_get ds n ≡ Some (defined_by p routine.sig.owner routine)
  main : is_main_sig routine.sig ≡ true

module _ (p : Program) where
  behind : (x : Item) (xs : List Item) → MainAt p (items_defined p xs) (main_among p xs) → MainAt p (item_defined p x ++ items_defined p xs) (length (item_defined p x) + main_among p xs)
  behind x xs m = record {
    routine = m.routine;
    at = get_right (item_defined p x) (items_defined p xs) (main_among p xs) (length (item_defined p x) + main_among p xs) refl ∙ m.at;
    main = m.main;
  }

  routine_main : (r : Body) (xs : List Item) → 1 ≤ mains_in (RoutineItem r ∷ xs) → (1 ≤ mains_in xs → MainAt p (items_defined p xs) (main_among p xs)) → MainAt p (items_defined p (RoutineItem r ∷ xs)) (main_among p (RoutineItem r ∷ xs))
  routine_main r xs l f = by (is_main_sig r.sig) refl
    where
      fewer : (b : Bool) → is_program_main r.sig ≡ b → is_main_sig r.sig ≡ false → 1 ≤ (if b then 1 else 0) + mains_in xs → 1 ≤ mains_in xs
      fewer true h g l = false_true (sym g ∙ main_sig p r.sig h)
      fewer false h g l = omega (arith, l)

      by : (b : Bool) → is_main_sig r.sig ≡ b → MainAt p (item_defined p (RoutineItem r) ++ items_defined p xs) (if b then 0 else length (item_defined p (RoutineItem r)) + main_among p xs)
      by true h = record { routine = r; at = refl; main = h }
      by false h = behind (RoutineItem r) xs (f (fewer (is_program_main r.sig) refl h l))

  main_found : (xs : List Item) → 1 ≤ mains_in xs → MainAt p (items_defined p xs) (main_among p xs)
  main_found [] l = let z : ⊥ = omega (arith, l) in absurd z
  main_found (RoutineItem r ∷ xs) l = routine_main r xs l (main_found xs)
  main_found (ClassItem c ∷ xs) l = behind (ClassItem c) xs (main_found xs (omega (arith, l)))
  main_found (ConstItem c ∷ xs) l = behind (ConstItem c) xs (main_found xs (omega (arith, l)))
  main_found (ProtoItem s ∷ xs) l = behind (ProtoItem s) xs (main_found xs (omega (arith, l)))
  main_found (ForwardItem f ∷ xs) l = behind (ForwardItem f) xs (main_found xs (omega (arith, l)))
  main_found (UsingItem q ∷ xs) l = behind (UsingItem q) xs (main_found xs (omega (arith, l)))

  -- it is of no class
  number_is : (o : Owner) (r : Body) → returns_as_main o r.sig.ret ≡ true → (defined_by p o r).number ≡ 0
  number_is owner.Here r h = refl
  number_is owner.Main r h = refl
  number_is (owner.Class name) r h = false_true h

  none_given : (xs : List Param) → no_params xs ≡ true → map (param_ty p) xs ≡ []
  none_given [] h = refl
  none_given (x ∷ xs) h = false_true h

  main_there : IsFormed p → Unbroken (program_visits p) → (d : Defined) × (slice_get (routines_of p) (main_number p) ≡ Some d) × (place_by p d ≡ None) × (map (param_ty p) d.routine.sig.params ≡ [])
  main_there formed u =
      let one = eqb-true (mains_in p.items) 1 (holds (nat_eq (mains_in p.items) 1) S3 _ _ (none_left (main_breaks p ++ []) _ u)) in
      let m = main_found p.items (omega (arith, one)) in
      let d : Defined = defined_by p m.routine.sig.owner m.routine in
      let same : d.routine ≡ m.routine = defined_routine p formed u m.routine.sig.owner m.routine in
      let returns = left_is (returns_as_main m.routine.sig.owner m.routine.sig.ret) (same_name m.routine.sig.name main_name && (is_plain m.routine.sig.role && no_params m.routine.sig.params)) m.main in
      let rest = right_is (same_name m.routine.sig.name main_name) (is_plain m.routine.sig.role && no_params m.routine.sig.params) (right_is (returns_as_main m.routine.sig.owner m.routine.sig.ret) (same_name m.routine.sig.name main_name && (is_plain m.routine.sig.role && no_params m.routine.sig.params)) m.main) in
      let plain : is_plain d.routine.sig.role ≡ true = ap (λ (z : Body). is_plain z.sig.role) same ∙ left_is (is_plain m.routine.sig.role) (no_params m.routine.sig.params) rest in
      let place : place_by p d ≡ None = plain_place p formed u d plain ∙ (ap (place_of p) (number_is m.routine.sig.owner m.routine returns) ∙ no_place p formed u (classes_of p.items)) in
      (d, m.at, place, ap (λ (z : Body). map (param_ty p) z.sig.params) same ∙ none_given m.routine.sig.params (right_is (is_plain m.routine.sig.role) (no_params m.routine.sig.params) rest))

  program_main : IsFormed p → Unbroken (program_visits p) → IsTask (table_of p) (main_number p)
  program_main formed u =
      let m = main_there formed u in
      let s = has_sig p (main_number p) m.0 m.1 in
      let this : ((table_of p).routine (main_number p)).this ≡ None = ap (λ (g : Sig). g.this) s.sig ∙ m.2 in
      (subst (IsOfTask (table_of p)) (sym this) tt, ap (λ (g : Sig). g.params) s.sig ∙ m.3, s.known)

  -- so it runs inside no object
  pub main_apart : IsFormed p → Unbroken (program_visits p) → ((table_of p).routine (main_number p)).inward ≡ Apart
  main_apart formed u =
      let m = main_there formed u in
      ap (λ (g : Sig). g.inward) (has_sig p (main_number p) m.0 m.1).sig ∙ ap (λ o. inward_at p o m.0.routine.sig.role m.0.routine.sig.name) m.2

pub law_mains : LawMains
law_mains p formed u r (of_program q) = subst (IsTask (table_of p)) (sym q) (program_main p formed u)
law_mains p formed u r (of_class i c e h q) = subst (IsTask (table_of p)) (sym q) (class_main p formed u i c e h)
