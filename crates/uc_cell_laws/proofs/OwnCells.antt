-- The own cells of frames in steps and in runs of programs.
use Rattle.std.proofs.Common.{◌≡◌, ℕ, ◌≤◌, ◌<◌, inl, Bool, true, false, List, [], ◌∷◌, Option, Some, None, refl, sym, ap, ◌∙◌, subst}
use Rattle.std.specs.Prelude.{slice_get}
use Rattle.uc_tree.specs.Programs.{Program}
use Rattle.uc_tree.specs.Source.{Routine}
use Rattle.uc_machine.specs.declared.exec.Exec.{Exec}
use Rattle.uc_machine.specs.Executions.{at_depth}
use Rattle.uc_machine.specs.Pieces.{Link, Slot, FieldAt, Value, Place, Object, Env, LAST_ADDRESS, address, further}
use Rattle.uc_machine.specs.declared.exec.Owner.{Owner}
use Rattle.uc_machine.specs.declared.exec.Owner.TheVariants.{Frame, Fields}
use Rattle.uc_resolve.specs.Resolve.{source_of}
use Rattle.uc_rules.specs.Breaks.{breaks_of}
use Rattle.uc_typing.specs.Typing.{Ty, Cell, Obj, Table}
use Rattle.uc_state_laws.proofs.ValueSteps.{exec_same}
use Rattle.uc_tree.specs.Numbering.{sites_of}
use Rattle.uc_sound.proofs.SoundLemmas.{law_sound}
use Rattle.uc_site_laws.proofs.Routines.{source_named}
use Rattle.uc_state_laws.specs.Counted.{CountedRoutine}
use Rattle.uc_state_laws.proofs.Arguments.{counted_source}
use Rattle.uc_state_laws.specs.Limits.{IsWithinLimits}
use Rattle.uc_state_laws.specs.Layout.{Sized}
use Rattle.uc_sound.specs.SoundFormed.{IsFormed}
use Rattle.uc_sound.specs.Tables.{table_of}
use Rattle.uc_sound.proofs.Lists.{left_is}
use Rattle.uc_life_laws.specs.Things.{Few, IsField, IsMutex, Within, field}
use Rattle.uc_life_laws.proofs.Laying.{laid_out}
use Rattle.uc_life_laws.specs.HomedStates.{Inside}
use Rattle.uc_cell_laws.specs.Places.{LiesInScope}
use Rattle.uc_cell_laws.specs.Sites.{Telling, IsNoMaker, SitedRoutine, SitedSource}
use Rattle.uc_cell_laws.specs.CellTodos.{IsOwnPart, CodeRoutine}
use Rattle.uc_cell_laws.specs.CellStates.{IsOwnCell, IsOwnCoroutine, first_cell, IsFree, Fits}
use Rattle.uc_cell_laws.specs.Classes.{class_of}
use Rattle.uc_cell_laws.specs.Coroutines.{naming_of, LawCoroutines}
use Rattle.uc_cell_laws.specs.OwnCells.{owns_of, is_of_objects, telling_by, telling_of, LawFits, LawCells}
use Rattle.uc_cell_laws.proofs.CellNames.{forgets}
use Rattle.uc_cell_laws.proofs.CellFields.{cell_read, field_read}
use Rattle.uc_cell_laws.proofs.CellPlaces as places
use Rattle.uc_cell_laws.proofs.CellPlaces.{MayWrite, own_last, part_lies, inside_place, inside_within}
use Rattle.uc_cell_laws.proofs.Leading.{leading}
use Rattle.uc_cell_laws.proofs.Offsets.{law_places, first_apart}
use Rattle.uc_cell_laws.proofs.Variables.{same_scope, same_variable, law_variables, law_addresses, behind_params, first_variable, first_low, first_low_in}
use Rattle.uc_cell_laws.proofs.MainRoutine.{no_maker}
use Rattle.uc_cell_laws.proofs.CellWalk as walks
use Rattle.uc_cell_laws.proofs.CellWorlds.{run_cells, leads_cells}

module _ (p : Program) (formed : IsFormed p) (accepted : breaks_of p ≡ []) (few : Few) (class : ℕ → Option ℕ) (naming : Bool) where
  abbrev g : Telling
  g = telling_by p few class naming

  own_behind : (r : ℕ) (q : Routine) → slice_get (source_of p).routines r ≡ Some q → (n : Exec) (d : ℕ) (x : List Link) (c : ℕ) → IsOwnCell g r (Frame n d) x c → address x < LAST_ADDRESS → q.params ≤ address x
  own_behind r q e n d x c i lt = behind_params p formed accepted r q e (Frame n d) x (Cell (Obj c)) (part_lies g r (Frame n d) (Place (Frame n d) x) (Cell (Obj c)) i.1) lt

  -- an own coroutine has a place in the frame, which lies behind the parameters
  first_place : (r : ℕ) (o : Owner) (v : Value) (c : ℕ) (i : IsOwnCoroutine g r o v c) → (x : List Link) × (v ≡ Place o x)
  first_place r o v c i = inside_place (table_of p) (owns_of p) o (Slot i.1.cell ∷ []) i.1.inside

  first_lies : (r : ℕ) (o : Owner) (v : Value) (c : ℕ) (i : IsOwnCoroutine g r o v c) → LiesInScope (table_of p) (source_of p) r o (Place o (first_place r o v c i).0) (Obj c)
  first_lies r o v c i = subst (λ y. LiesInScope (table_of p) (source_of p) r o y (Obj c)) (first_place r o v c i).1 (part_lies g r o v (Obj c) i.1)

  first_behind : (r : ℕ) (q : Routine) → slice_get (source_of p).routines r ≡ Some q → (n : Exec) (d : ℕ) (v : Value) (c : ℕ) → IsOwnCoroutine g r (Frame n d) v c → first_cell v < LAST_ADDRESS → q.params ≤ first_cell v
  first_behind r q e n d v c i lt =
      let z = first_place r (Frame n d) v c i in
      subst (λ y. q.params ≤ first_cell y) (sym z.1) (behind_params p formed accepted r q e (Frame n d) z.0 (Obj c) (first_lies r (Frame n d) v c i) (subst (λ y. first_cell y < LAST_ADDRESS) z.1 lt))

  -- writes

  some_same : (q r : ℕ) → Some q ≡ Some r → q ≡ r
  some_same q r e = cc

  module _ (rs : List ℕ) (d r : ℕ) (x : List Link) (b : Ty) (w : Value) (e : Env) (at : at_depth rs d ≡ Some r) (h : LiesInScope (table_of p) (source_of p) r (Frame e.exec d) (Place (Frame e.exec d) x) (Cell b)) where
    abbrev o : Owner
    o = Frame e.exec d

    abbrev OwnAt : ℕ → List Link → ℕ → Type 0
    OwnAt q y c = IsOwnCell g q o y c

    -- an own cell of the routine of the frame
    here : (q : ℕ) (y : List Link) (c : ℕ) → at_depth rs d ≡ Some q → OwnAt q y c → OwnAt r y c
    here q y c i k = subst (λ n. OwnAt n y c) (some_same q r (sym i ∙ at)) k

    lies : (y : List Link) (c : ℕ) → OwnAt r y c → LiesInScope (table_of p) (source_of p) r o (Place o y) (Cell (Obj c))
    lies y c k = part_lies g r o (Place o y) (Cell (Obj c)) k.1

    one_place : (q : ℕ) (y : List Link) (c : ℕ) → at_depth rs d ≡ Some q → OwnAt q y c → address y < LAST_ADDRESS → address y ≡ address x → (y ≡ x) × (Obj c ≡ b)
    one_place q y c i k lt a = law_variables p formed accepted r o y x (Obj c) b (lies y c (here q y c i k)) h lt a

    -- which is not the first cell of an own coroutine
    not_first : (q : ℕ) → at_depth rs d ≡ Some q → (v : Value) (c : ℕ) → IsOwnCoroutine g q o v c → first_cell v < LAST_ADDRESS → first_cell v ≡ address x → ⊥
    not_first q i v c k lt a =
        let part : IsOwnPart (table_of p) (owns_of p) (source_of p) r o v (Obj c) = subst (λ n. IsOwnPart (table_of p) (owns_of p) (source_of p) n o v (Obj c)) (some_same q r (sym i ∙ at)) k.1 in
        let z = inside_place (table_of p) (owns_of p) o (Slot part.cell ∷ []) part.inside in
        first_variable p formed accepted r o z.0 x c b k.0 (subst (λ y. LiesInScope (table_of p) (source_of p) r o y (Obj c)) z.1 (part_lies g r o v (Obj c) part)) h (subst (λ y. first_cell y < LAST_ADDRESS) z.1 lt) (subst (λ y. first_cell y ≡ address x) z.1 a)

    fits_other : (IsMutex (table_of p) b → ⊥) → Fits g rs (Place o x) w e
    fits_other f = (
      exec_same e.exec,
      (λ q i y c k lt a v j. absurd (f (subst (IsMutex (table_of p)) (one_place q y c i k lt a).1 k.0))),
      (λ q i v c k lt a. absurd (not_first q i v c k lt a)),
    )

  object_same : (c d : ℕ) → Obj c ≡ Obj d → c ≡ d
  object_same c d e = cc

  fits_home : (rs : List ℕ) (d r : ℕ) (x : List Link) (b : ℕ) (w : Value) (e : Env) → at_depth rs d ≡ Some r → LiesInScope (table_of p) (source_of p) r (Frame e.exec d) (Place (Frame e.exec d) x) (Cell (Obj b)) → IsFree g (Place (Frame e.exec d) x) b w → Fits g rs (Place (Frame e.exec d) x) w e
  fits_home rs d r x b w e at h f = (
    exec_same e.exec,
    (λ q i y c k lt a v j.
        let same = one_place rs d r x (Obj b) w e at h q y c i k lt a in
        let told = f v j in
        (told.0 ∙ ap (Place (Frame e.exec d)) (sym same.0), told.1 ∙ ap Some (sym (object_same c b same.1)))),
    (λ q i v c k lt a. absurd (not_first rs d r x (Obj b) w e at h q i v c k lt a)),
  )

  fits_reference : (rs : List ℕ) (d r c i : ℕ) (v : Value) (x : List Link) (b : Ty) (w : Value) (e : Env) → at_depth rs d ≡ Some r → LiesInScope (table_of p) (source_of p) r (Frame e.exec d) v (Obj c) → IsField (table_of p) c i → owns_of p c i ≡ false → (table_of p).fields c i ≡ Cell b → further (FieldAt ((table_of p).shape c) i) v ≡ Place (Frame e.exec d) x → Fits g rs (Place (Frame e.exec d) x) w e
  unfolding part_lies
  fits_reference rs d r c i v x b w e at h f none is place = (
    exec_same e.exec,
    (λ q j y z k lt a n m. absurd (clash q j y z k lt a)),
    (λ q j y z k lt a. absurd (not_first rs d r x b w e at lies q j y z k lt a)),
  )
    where
      t : Table
      t = table_of p

      o : Owner
      o = Frame e.exec d

      root : Value
      root = Place o (Slot h.cell ∷ [])

      there : Within t root h.type (Place o x) (Cell b)
      there = subst (λ z. Within t root h.type z (Cell b)) place (subst (λ z. Within t root h.type (further (FieldAt (t.shape c) i) v) z) is (field h.within i f))

      lies : LiesInScope t (source_of p) r o (Place o x) (Cell b)
      lies = record { clean = h.clean; scope = h.scope; cell = h.cell; type = h.type; cleans = h.cleans; within = there }

      clash : (q : ℕ) → at_depth rs d ≡ Some q → (y : List Link) (m : ℕ) → IsOwnCell g q o y m → address y < LAST_ADDRESS → address y ≡ address x → ⊥
      clash q j y m k lt a =
          let s : q ≡ r = some_same q r (sym j ∙ at) in
          let cell : Ty = Cell (Obj m) in
          let part : IsOwnPart t (owns_of p) (source_of p) r o (Place o y) cell = subst (λ n. IsOwnPart t (owns_of p) (source_of p) n o (Place o y) cell) s k.1 in
          let own = part_lies g r o (Place o y) cell part in
          let z = same_variable t part.type h.type part.cell h.cell part.clean h.clean (same_scope p formed accepted r o y x (Obj m) b own lies lt a) part.cleans h.cleans in
          let same : y ≡ x = (law_variables p formed accepted r o y x (Obj m) b own lies lt a).0 in
          let inner : Inside t (owns_of p) root h.type (Place o y) cell = subst (λ n. Inside t (owns_of p) (Place o (Slot n ∷ [])) h.type (Place o y) cell) z.0 (subst (λ n. Inside t (owns_of p) (Place o (Slot part.cell ∷ [])) n (Place o y) cell) z.1 part.inside) in
          let yes : owns_of p c i ≡ true = own_last t (owns_of p) v c i inner h.within tt (ap (Place o) same ∙ sym place) in
          let no : true ≡ false = sym yes ∙ none in
          cc

  pub may_write : IsWithinLimits p → MayWrite g
  may_write within = record {
    home = fits_home;
    other = fits_other;
    lent = fits_reference;
    behind = own_behind;
    first_behind = first_behind;
    first_low = λ r o v c i. let z = first_place r o v c i in subst (λ y. first_cell y < LAST_ADDRESS) (sym z.1) (first_low p formed accepted within r o z.0 c i.0 (first_lies r o v c i));
    first_low_in = λ o v d i. first_low_in p formed accepted o i.0 v d i.3 i.1 (inside_within (table_of p) (owns_of p) i.4);
    first_in = λ o c x b v d h k ex lt a. first_apart (Sized p) (table_of p) (laid_out p formed accepted) (Object o) (Obj c) tt v d (Fields o) x b ex (leading p accepted d ex) k h lt a;
    low = λ r o x c i. law_addresses.variables p formed accepted within r o x (Obj c) (part_lies g r o (Place o x) (Cell (Obj c)) i.1);
    low_field = λ o c x b h m. law_addresses.objects p formed accepted o c x b m h;
    places = λ o c x y b d h k lt a. law_places.places p (table_of p) (laid_out p formed accepted) (Object o) (Obj c) tt (Fields o) x y b d h k lt a;
  }

  -- each routine is code of its own, in which arguments are counted
  code : SitedSource g → (n : ℕ) → CodeRoutine g n (slice_get (source_of p).routines n)
  code sited n = by (slice_get (source_of p).routines n) (counted_source (sites_of p) (source_of p) (table_of p) (law_sound p formed accepted) (source_named p) n) (sited n)
    where
      by : (q : Option Routine) → CountedRoutine (source_of p) q → SitedRoutine g n q → CodeRoutine g n q
      by None h k = tt
      by (Some q) h k = (h, k)

  main_none : IsNoMaker g (source_of p).main
  main_none h = no_maker p accepted (left_is ((table_of p).routine (source_of p).main).whole (is_of_objects p ((table_of p).routine (source_of p).main).this) h)

pub law_fits : LawFits
law_fits = record {
  home = λ p formed accepted few class rs d r x c w e at h f. fits_home p formed accepted few class false rs d r x c w e at h f;
  other = λ p formed accepted few class rs d r x b w e at h f. fits_other p formed accepted few class false rs d r x b w e at h f;
  reference = λ p formed accepted few class rs d r c i v x b w e at h f none is place. fits_reference p formed accepted few class false rs d r c i v x b w e at h f none is place;
  home_in = λ p formed accepted within few class rs v w c e h f. places.fits_home (telling_of p few class) (may_write p formed accepted few class false within) e rs 0 v w c (inl h) f;
  other_in = λ p formed accepted within few class rs v w b e h f. places.fits_other (telling_of p few class) (may_write p formed accepted few class false within) e rs 0 v w b (inl h) f;
  reference_in = λ p formed accepted within few class rs v w c i b e h f is none. places.fits_lent (telling_of p few class) (may_write p formed accepted few class false within) e rs 0 c i v w b (inl h) f none is;
}

pub law_cells : LawCells
law_cells = record {
  begins = λ p formed accepted within few class sited r o n. walks.first (telling_of p few class) (code p formed accepted few class false sited) (may_write p formed accepted few class false within) r o n;
  steps = λ p formed accepted within few class sited s h f. walks.stepped (telling_of p few class) (code p formed accepted few class false sited) (may_write p formed accepted few class false within) s h f;
  told = λ p few class r given s k told e f h. walks.answered_there (telling_of p few class) r given s k told e f h;
  reads = λ p few class s h d r x c e i lt. cell_read (telling_of p few class) s.env h.routines h.cells d r e x c i lt;
  fields = λ p few class s h n x c i lt. field_read (telling_of p few class) s.env h.env n x c i lt;
  runs = λ p formed accepted within few input opts range j w r fits sited meets.
      let class : ℕ → Option ℕ = λ o. class_of (table_of p) (source_of p) input opts j w r o in
      (run_cells (telling_of p few class) (code p formed accepted few class false sited) (may_write p formed accepted few class false within) (main_none p formed accepted few class false) input opts range r fits (λ o l. refl) meets).1;
  leads = λ p formed accepted within few input opts range j w r fits sited meets on t s c l.
      let class : ℕ → Option ℕ = λ o. class_of (table_of p) (source_of p) input opts j w r o in
      leads_cells (telling_of p few class) (code p formed accepted few class false sited) (may_write p formed accepted few class false within) (main_none p formed accepted few class false) input opts range r fits (λ o l. refl) meets on t s c l;
}

pub law_coroutines : LawCoroutines
law_coroutines = record {
  runs = λ p formed accepted within few input opts range j w r fits sited meets.
      let class : ℕ → Option ℕ = λ o. class_of (table_of p) (source_of p) input opts j w r o in
      (run_cells (naming_of p few class) (code p formed accepted few class true sited) (may_write p formed accepted few class true within) (main_none p formed accepted few class true) input opts range r fits (λ o l. refl) meets).1;
  leads = λ p formed accepted within few input opts range j w r fits sited meets on t s c l.
      let class : ℕ → Option ℕ = λ o. class_of (table_of p) (source_of p) input opts j w r o in
      (leads_cells (naming_of p few class) (code p formed accepted few class true sited) (may_write p formed accepted few class true within) (main_none p formed accepted few class true) input opts range r fits (λ o l. refl) meets on t s c l).0;
  forgets = λ p formed accepted within few class s h todo c b i. forgets (naming_of p few class) (may_write p formed accepted few class true within) refl s h todo c b i;
}
