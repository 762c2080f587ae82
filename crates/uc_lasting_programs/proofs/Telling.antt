-- What is told of a run is what the laws of runs may be asked with.
use Rattle.std.proofs.Common.{inr, ◌≡◌, ℕ, inl, Bool, true, List, [], Option, Some, None, refl, sym, ap, ◌∙◌, subst, ◌||◌}
use Rattle.std.proofs.lemmas.Bool.{eq-eqb, lt-ltb}
use Rattle.uc_tree.specs.Programs.{Program}
use Rattle.uc_entry.specs.declared.entry.Options.{Options}
use Rattle.uc_acts.specs.Journal.{Journal}
use Rattle.uc_acts.specs.Known.{object_count}
use Rattle.uc_acts.specs.Queues.{cluster_count, processor_count}
use Rattle.uc_machine.specs.declared.exec.Exec.{Exec}
use Rattle.uc_machine.specs.declared.exec.Owner.TheVariants.{Frame, Fields}
use Rattle.uc_machine.specs.Pieces as piece
use Rattle.uc_machine.specs.Pieces.{Value, Place}
use Rattle.uc_meaning.specs.Runs.{World, Runs, begun, more}
use Rattle.uc_resolve.specs.Resolve.{source_of}
use Rattle.uc_sound.specs.Sounds.{of_program}
use Rattle.uc_sound.specs.Tables.{table_of}
use Rattle.uc_sound.proofs.MainLemmas.{law_mains}
use Rattle.uc_typing.specs.Typing.{Ty, Cell, Obj, Raw}
use Rattle.uc_typing.specs.States.{IsTask, IsOfTask}
use Rattle.uc_life_laws.specs.Things.{Few, Base, Stands, lies, inside, itself}
use Rattle.uc_life_laws.specs.Knowing.{main_of}
use Rattle.uc_life_laws.specs.KnownAnswers.{MainPasses}
use Rattle.uc_life_laws.specs.Belonging.{Belongs, frame, fields, object}
use Rattle.uc_life_laws.specs.Homes.{home_of}
use Rattle.uc_life_laws.specs.Rooted.{IsBase}
use Rattle.uc_life_laws.proofs.Homes.{law_once}
use Rattle.uc_life_laws.proofs.NewNumbers.{some_object}
use Rattle.uc_lasting_programs.specs.Telling.{main_class, on_places, few_of, LawTelling}

-- nobody binds the object of the program's main
first_home : (p : Program) (input : List ℕ) (opts : Options) {j : Journal} {w : World} (r : Runs (source_of p) input opts j w) → home_of (source_of p) input opts j w r 0 ≡ Place (Fields 0) []
first_home p input opts begun = refl
first_home p input opts (more {j} {w} {a} {w' = x} r o m) =
    law_once (source_of p) input opts j w a x m (λ i. home_of (source_of p) input opts j w r i) 0 (some_object j) ∙ first_home p input opts r

-- so that is at home in nobody's own
none_own : (few : Few) (n : Exec) (v : Value) → Belongs few n v → few.home 0 ≡ Place (Fields 0) [] → v ≡ Place (Fields 0) [] → ⊥
none_own few n (Place (Frame x d) p) (frame k) z e = absurd (cc)
none_own few n (Place (Fields o) p) (fields k) z e = let same : o ≡ 0 = cc in none_own few n (few.home o) k z (ap few.home same ∙ z)
none_own few n (piece.Object o) (object k) z e = absurd (cc)
none_own few n (piece.Number m) k z e = elim k [ ]
none_own few n (piece.Running x) k z e = elim k [ ]
none_own few n piece.Nothing k z e = elim k [ ]

placed : (c : Option ℕ) (base : Exec → Value → Ty → Bool) (n : Exec) (w : Value) (b : Ty) → on_places c base n w b ≡ true → IsBase w b
placed c base n (piece.Number z) b e = absurd (cc)
placed c base n (Place o p) b e = inl tt
placed c base n (piece.Running x) b e = absurd (cc)
placed c base n (piece.Object o) (Raw d) e = inr (o, d, refl, refl)
placed c base n (piece.Object o) b e = absurd (cc)
placed c base n piece.Nothing b e = absurd (cc)

-- the first task has its home
main_based : (c : ℕ) (base : Exec → Value → Ty → Bool) → on_places (Some c) base (main_of 0) (Place (Fields 0) []) (Cell (Obj c)) ≡ true
main_based c base = ap (λ b. b || base (main_of 0) (Place (Fields 0) []) (Cell (Obj c))) (eq-eqb c c refl)

module _ (p : Program) (input : List ℕ) (opts : Options) (j : Journal) (w : World) (r : Runs (source_of p) input opts j w) (base : Exec → Value → Ty → Bool) where
  abbrev few : Few
  few = few_of p input opts j w r base

  main_passes : (c : Option ℕ) → main_class p ≡ c → IsOfTask (table_of p) c → MainPasses (table_of p) few c 0
  main_passes None q m = tt
  main_passes (Some c) q m =
      let based : Base few (main_of 0) (Place (Fields 0) []) (Cell (Obj c)) = subst (λ k. on_places k base (main_of 0) (Place (Fields 0) []) (Cell (Obj c)) ≡ true) (sym q) (main_based c base) in
      let at_home : Stands (table_of p) few (Base few (main_of 0)) (Cell (Obj c)) (few.home 0) = subst (λ v. Stands (table_of p) few (Base few (main_of 0)) (Cell (Obj c)) v) (sym (first_home p input opts r)) (lies based itself) in
      let made = lt-ltb 0 (object_count j) (some_object j) in
      (made, made, inl (inside m at_home itself))

pub law_telling : LawTelling
law_telling p formed accepted input opts j w r base = record {
  raws = λ c o h. h;
  below = record {
    objects = λ c n l. lt-ltb n (object_count j) l;
    raws = λ c n l. lt-ltb n (object_count j) l;
    clusters = λ n l. lt-ltb n (cluster_count j) l;
    processors = λ n l. lt-ltb n (processor_count opts j) l;
  };
  main =
      let task : IsTask (table_of p) (source_of p).main = law_mains p formed accepted (source_of p).main (of_program refl) in
      main_passes p input opts j w r base (main_class p) refl task.0;
  places = λ n w b h. placed (main_class p) base n w b h;
  nobodys = λ n k. none_own (few_of p input opts j w r base) n (home_of (source_of p) input opts j w r 0) k (first_home p input opts r) (first_home p input opts r);
}
