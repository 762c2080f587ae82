-- The mains of tasks and coroutines are among the routines of the resolved tree, and end as mains.
use Rattle.std.proofs.Common.{◌≡◌, ℕ, zero, suc, ◌+◌, ◌++◌, ◌⊎◌, inl, inr, Bool, true, false, List, [], ◌∷◌, length, Some, sym, ap, ◌∙◌, subst, arith}
use Rattle.std.specs.Prelude.{◌&&◌, ◌||◌, nat_eq, slice_get, if◌then◌else◌}
use Rattle.uc_tree.specs.Gathered.{gathered_all}
use Rattle.uc_tree.specs.Numbering.{Defined, own_sites, own_texts, routines_of}
use Rattle.uc_tree.specs.Objects.{unwritten_of}
use Rattle.uc_tree.specs.ProgramMain.{main_number}
use Rattle.uc_tree.specs.Programs.{Program}
use Rattle.uc_tree.specs.Source.{Purpose, TaskMain, CoroutineMain, Builder, Routine}
use Rattle.uc_resolve.specs.Resolve.{source_of, place_by, class_by, has_number_in, has_tasks, has_coroutines, is_main, role_purpose, routine_scope, routine_meant, routines_meant, all_unwritten}
use Rattle.uc_sound.proofs.Ties.{some_same, none_some, false_true}
use Rattle.uc_depth_laws.specs.Entering.{EndsMain, IsMainRoutine, IsMain}

module _ (p : Program) where
  -- a routine with this number, as it is meant
  record MeantAt (rs : List Routine) (k n : ℕ) (d : Defined) : Type 0 where
    texts : ℕ
    sites : ℕ
    at : slice_get rs k ≡ Some (routine_meant p d.routine (routine_scope p d.routine (place_by p d) n texts sites))

  meant_at : (us : List Routine) (ds : List Defined) (i t s k n : ℕ) (d : Defined) → i + k ≡ n → slice_get ds k ≡ Some d → MeantAt (routines_meant p ds i t s ++ us) k n d
  meant_at us [] i t s k n d q e = none_some e
  meant_at us (x ∷ ds) i t s zero n d q e =
      let l : i ≡ n = omega (arith, q) in
      record {
        texts = t;
        sites = s;
        at = ap (λ (z : Defined). Some (routine_meant p z.routine (routine_scope p z.routine (place_by p z) i t s))) (some_same e) ∙ ap (λ m. Some (routine_meant p d.routine (routine_scope p d.routine (place_by p d) m t s))) l;
      }
  meant_at us (x ∷ ds) i t s (suc k) n d q e =
      let m = meant_at us ds (i + 1) (t + length (gathered_all own_texts x.routine.body)) (s + length (gathered_all (own_sites x.class x.number) x.routine.body)) k n d (omega (arith, q)) e in
      record { texts = m.texts; sites = m.sites; at = m.at }

  ends_if : (a b : Bool) (w : Purpose) → (a ≡ true) ⊎ (b ≡ true) → EndsMain (if a then TaskMain else if b then CoroutineMain else w)
  ends_if true b w h = tt
  ends_if false true w h = tt
  ends_if false false w (inl h) = false_true h
  ends_if false false w (inr h) = false_true h

  pub main_meant : (n : ℕ) (d : Defined) → slice_get (routines_of p) n ≡ Some d → ((nat_eq n (main_number p) || (has_tasks p (class_by p (place_by p d)) && is_main p d.routine.sig)) ≡ true) ⊎ ((has_coroutines p (class_by p (place_by p d)) && is_main p d.routine.sig) ≡ true) → IsMain (source_of p) n
  main_meant n d e h =
      let m : MeantAt (source_of p).routines n n d = meant_at (all_unwritten p (unwritten_of p)) (routines_of p) 0 0 0 n n d (omega arith) e in
      subst IsMainRoutine (sym m.at) (ends_if (nat_eq n (main_number p) || (has_tasks p (class_by p (place_by p d)) && is_main p d.routine.sig)) (has_coroutines p (class_by p (place_by p d)) && is_main p d.routine.sig) (if has_number_in p (class_by p (place_by p d)) d.routine.sig then Builder else role_purpose p d.routine.sig.role d.routine.sig.ret) h)
