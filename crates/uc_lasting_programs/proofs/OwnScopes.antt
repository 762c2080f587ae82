-- Where the scope of a plain object that is a variable opens, or of an array of such, each own mutex object in it is at home there, if one is bound; and each
-- other scope is of what is known by its number. So the own cells of frames tell it (uc_cell_laws).
use Rattle.std.proofs.Common.{◌≡◌, ℕ, ◌<◌, ◌⊎◌, inl, inr, ◌&&◌, Bool, true, false, not, List, [], ◌∷◌, Option, Some, None, refl, sym, ap, ◌∙◌, subst}
use Rattle.std.specs.Prelude.{slice_index_or, if◌then◌else◌}
use Rattle.uc_tree.specs.Objects.{class_at}
use Rattle.uc_tree.specs.Programs.{Class, Program}
use Rattle.uc_tree.specs.Numbering.{is_event}
use Rattle.uc_tree.specs.Source as src
use Rattle.uc_tree.specs.Source.{CleanUp, Expr, Source}
use Rattle.uc_acts.specs.Journal.{Journal, is_over}
use Rattle.uc_acts.specs.Known.{object_count}
use Rattle.uc_acts.specs.KernelRuns.{InRange}
use Rattle.uc_entry.specs.declared.entry.Options.{Options}
use Rattle.uc_machine.specs.declared.exec.Owner.TheVariants.{Frame}
use Rattle.uc_machine.specs.Executions.{at_depth, frames_in, list_in, parked_at}
use Rattle.uc_machine.specs.Pieces as piece
use Rattle.uc_machine.specs.Pieces.{Link, Value, Place, Object, Todo, State, Env, address, loaded, nought, variable_at}
use Rattle.uc_machine.specs.Answering.{answered}
use Rattle.uc_meaning.specs.Runs.{World, Runs, drawn}
use Rattle.uc_resolve.specs.Resolve.{source_of}
use Rattle.uc_rules.specs.Breaks.{breaks_of}
use Rattle.uc_typing.specs.Typing.{Ty, Num, Cell, Obj, Row, Clu, Pro, Table, IsBare, IsScalarPlace, element_shape, DestroysAt, CleansAt}
use Rattle.uc_sound.specs.SoundFormed.{IsFormed}
use Rattle.uc_sound.specs.Tables.{of_kind, table_of}
use Rattle.uc_sound.proofs.ClassLemmas.{law_told}
use Rattle.uc_state_laws.specs.Fitting.{RunFits}
use Rattle.uc_state_laws.specs.Limits.{IsWithinLimits}
use Rattle.uc_state_laws.specs.Opens.{RunMeets, LeadsMeet}
use Rattle.uc_state_laws.specs.RoomRuns as rooms
use Rattle.uc_state_laws.specs.RoomRuns.{Leads, Comes}
use Rattle.uc_state_laws.proofs.ValueSteps.{exec_same}
use Rattle.uc_life_laws.specs.Things.{Few}
use Rattle.uc_life_laws.specs.LifeStates.{frame_at}
use Rattle.uc_life_laws.specs.HomedStates.{Owns, Inside, all_of_it, own_field, own_element}
use Rattle.uc_life_laws.specs.Homes.{home_of}
use Rattle.uc_life_laws.specs.Knowing.{KnowsState}
use Rattle.uc_life_laws.specs.MadeObjects.{Binds, BindsAt}
use Rattle.uc_life_laws.proofs.Endings as endings
use Rattle.uc_life_laws.proofs.Homes.{law_binds}
use Rattle.uc_cell_laws.specs.Sites.{Telling, SitedExpr, SitedClean, HasPlace, CallsAt}
use Rattle.uc_cell_laws.specs.CellTodos as code
use Rattle.uc_cell_laws.specs.CellTodos.{IsOwnPart}
use Rattle.uc_cell_laws.specs.CellStates.{IsOwnCell, CellState, CellFinds}
use Rattle.uc_cell_laws.specs.Classes.{class_of}
use Rattle.uc_cell_laws.specs.OwnCells.{owns_of, is_of_objects, telling_of}
use Rattle.uc_cell_laws.proofs.CellPlaces.{part_lies}
use Rattle.uc_cell_laws.proofs.OwnCells.{law_cells}
use Rattle.uc_cell_laws.proofs.Variables.{law_addresses}
use Rattle.uc_homed_ends.specs.HomesLeft.{KnowsReads}
use Rattle.uc_homed_ends.proofs.BoundRuns.{run_zip, leads_zip}
use Rattle.uc_homed_ends.proofs.CellHomes.{finds_here}
use Rattle.uc_homed_ends.proofs.SitedSources.{law_sited}
use Rattle.uc_lasting_programs.proofs.Resources.{IsNumberCells}

-- what is told where a scope opens

module _ (t : Table) (owns : Owns) (homes : ℕ → Value) where
  -- each mutex object that is an own part of what stands at a variable is at home there
  abbrev pub HomesIn : State → ℕ → Ty → Type 0
  HomesIn s k a = (x : List Link) (d : ℕ) → t.mutex d ≡ true → Inside t owns (variable_at k s) a (Place (Frame s.env.exec s.run.frame) x) (Cell (Obj d)) →
      (o : ℕ) → slice_index_or (frame_at s.run.frame s.env.frames) (address x) nought ≡ Object o → homes o ≡ Place (Frame s.env.exec s.run.frame) x

  -- a plain object, an array of such, or what is known by its number
  abbrev pub IsKind : Ty → Type 0
  IsKind a = ((i : ℕ) × (a ≡ Obj i)) ⊎ (((m : ℕ) × (i : ℕ) × (a ≡ Row m (Obj i))) ⊎ IsNumberCells t a)

  pub record OwnedAt (c : CleanUp) (s : State) : Type 0 where
    pub objects : (k i : ℕ) → CleansAt t (Obj i) (src.Variable k) c → HomesIn s k (Obj i)
    pub arrays : (k m i : ℕ) → CleansAt t (Row m (Obj i)) (src.Variable k) c → HomesIn s k (Row m (Obj i))
    pub kinds : (k : ℕ) (a : Ty) → CleansAt t a (src.Variable k) c → IsKind a

  abbrev pub OwnedBy : List Todo → State → Type 0
  OwnedBy (piece.Rest (src.Scoped c rest) ∷ todo) s = OwnedAt c s
  OwnedBy todo s = Unit {0}

  abbrev pub Owned : State → Type 0
  Owned s = OwnedBy s.run.control s

-- nothing is bound within what is bare

scalar_bare : (t : Table) (a : Ty) → IsScalarPlace a → IsBare t a
scalar_bare t Num h = tt
scalar_bare t (Cell Num) h = tt
scalar_bare t a h = absurd h

bare_inside : (t : Table) (owns : Owns) {w : Value} {a : Ty} {v : Value} {b : Ty} → IsBare t a → Inside t owns w a v b → IsBare t b
bare_inside t owns f all_of_it = f
bare_inside t owns f (own_field {c = c} h i g o) = scalar_bare t (t.fields c i) (bare_inside t owns f h i)
bare_inside t owns f (own_element h j l) = bare_inside t owns f h

some_same : (c d : ℕ) → Some c ≡ Some d → c ≡ d
some_same c d e = cc

both_true : (a b : Bool) → a ≡ true → b ≡ true → (a && b) ≡ true
both_true true b e f = f
both_true false b e f = absurd (cc)

-- what a frame of the running execution holds is loaded there
here_loaded : (e : Env) (d : ℕ) (x : List Link) → loaded (Place (Frame e.exec d) x) e ≡ slice_index_or (frame_at d e.frames) (address x) nought
here_loaded e d x =
    ap (λ (b : Bool). slice_index_or (list_in (at_depth (if b then e.frames else frames_in (parked_at e.exec e)) d)) (address x) nought) (exec_same e.exec)

module _ (p : Program) (formed : IsFormed p) (accepted : breaks_of p ≡ []) (few : Few) (class : ℕ → Option ℕ) where
  abbrev g : Telling
  g = telling_of p few class

  abbrev t : Table
  t = table_of p

  abbrev source : Source
  source = source_of p

  -- an event has scalars alone
  event_bare : (i : ℕ) → of_kind is_event (class_at p i) ≡ true → IsBare t (Obj i)
  event_bare i h = by (class_at p i) refl h
    where
      by : (o : Option Class) → class_at p i ≡ o → of_kind is_event o ≡ true → IsBare t (Obj i)
      by None e h = absurd (cc)
      by (Some c) e h = (law_told p formed accepted).bare i c e h

  module _ (r : ℕ) where
    -- what destroys an object stands at its place, or nothing is bound in that
    destroyed : (i q : ℕ) (e : Expr) → (t.routine q).this ≡ Some i → (t.routine q).whole ≡ true → CallsAt g r q e → HasPlace g r e (Obj i) ⊎ IsBare t (Obj i)
    destroyed i q e this whole (inr h) = inl (subst (λ c. HasPlace g r e (Obj c)) (some_same h.0 i (sym h.1 ∙ this)) h.2)
    destroyed i q e this whole (inl none) = by (of_kind is_event (class_at p i)) refl
      where
        by : (b : Bool) → of_kind is_event (class_at p i) ≡ b → HasPlace g r e (Obj i) ⊎ IsBare t (Obj i)
        by true h = inr (event_bare i h)
        by false h = absurd (none (both_true (t.routine q).whole (is_of_objects p (t.routine q).this) whole (ap (is_of_objects p) this ∙ ap not h)))

    object_place : (k i : ℕ) (c : CleanUp) → CleansAt t (Obj i) (src.Variable k) c → SitedClean g r c → HasPlace g r (src.Variable k) (Obj i) ⊎ IsBare t (Obj i)
    object_place k i (src.Destroys (src.OfObject (src.CallOn q e args))) h s =
        subst (λ x. HasPlace g r x (Obj i) ⊎ IsBare t (Obj i)) (sym h.0) (destroyed i q e h.1 h.2 s.0)
    object_place k i (src.Destroys (src.OfObject (src.CallUnwritten q e))) h s =
        subst (λ x. HasPlace g r x (Obj i) ⊎ IsBare t (Obj i)) (sym h.0) (destroyed i q e h.1 h.2 s.0)
    object_place k i c h s = absurd h

    abbrev element : ℕ → ℕ → ℕ → Expr
    element k m i = src.Element m (element_shape t (Obj i)) (src.Variable k) (src.OfObject src.Counted)

    of_array : (k m i : ℕ) → HasPlace g r (element k m i) (Obj i) ⊎ IsBare t (Obj i) → HasPlace g r (src.Variable k) (Row m (Obj i)) ⊎ IsBare t (Obj i)
    of_array k m i (inl h) = inl h.1
    of_array k m i (inr f) = inr f

    array_place : (k m i : ℕ) (c : CleanUp) → CleansAt t (Row m (Obj i)) (src.Variable k) c → SitedClean g r c → HasPlace g r (src.Variable k) (Row m (Obj i)) ⊎ IsBare t (Obj i)
    array_place k m i (src.DestroysAll n (src.OfObject (src.CallOn q e args))) h s =
        of_array k m i (subst (λ x. HasPlace g r x (Obj i) ⊎ IsBare t (Obj i)) (sym h.1.0) (destroyed i q e h.1.1 h.1.2 s.0))
    array_place k m i (src.DestroysAll n (src.OfObject (src.CallUnwritten q e))) h s =
        of_array k m i (subst (λ x. HasPlace g r x (Obj i) ⊎ IsBare t (Obj i)) (sym h.1.0) (destroyed i q e h.1.1 h.1.2 s.0))
    array_place k m i (src.DestroysAll n e) h s = absurd h.1
    array_place k m i c h s = absurd h

    -- what ends a mutex object is of a mutex class

    one_kind : (k : ℕ) (a : Ty) (e : Expr) → DestroysAt t a (src.Variable k) e → SitedExpr g r e → IsKind t (owns_of p) few.home a
    one_kind k (Obj i) e h s = inl (i, refl)
    one_kind k (Cell Clu) e h s = inr (inr tt)
    one_kind k (Cell Pro) e h s = inr (inr tt)
    one_kind k (Cell (Obj d)) (src.OfObject (src.EndOn q written (src.Load e))) h s =
        inr (inr (subst (λ z. t.mutex z ≡ true) (some_same s.0.0 d (sym s.0.1 ∙ h.1)) s.0.2))
    one_kind k a e h s = absurd h

    each_kind : (place : Expr) (m : ℕ) (a : Ty) (e : Expr) → DestroysAt t a place e → SitedExpr g r e → IsKind t (owns_of p) few.home (Row m a)
    each_kind place m (Obj i) e h s = inr (inl (m, i, refl))
    each_kind place m (Cell Clu) e h s = inr (inr tt)
    each_kind place m (Cell Pro) e h s = inr (inr tt)
    each_kind place m (Cell (Obj d)) (src.OfObject (src.EndOn q written (src.Load e))) h s =
        inr (inr (subst (λ z. t.mutex z ≡ true) (some_same s.0.0 d (sym s.0.1 ∙ h.1)) s.0.2))
    each_kind place m a e h s = absurd h

    kind_of : (k : ℕ) (a : Ty) (c : CleanUp) → CleansAt t a (src.Variable k) c → SitedClean g r c → IsKind t (owns_of p) few.home a
    kind_of k a (src.Destroys e) h s = one_kind k a e h s
    kind_of k (Row m a) (src.DestroysAll n e) h s = each_kind (src.Element m (element_shape t a) (src.Variable k) (src.OfObject src.Counted)) m a e h.1 s
    kind_of k a (src.DestroysAll n e) h s = absurd h
    kind_of k a c h s = absurd h

  module _ (within : IsWithinLimits p) (s : State) (x : CellState g s) where
    abbrev routine : ℕ
    routine = x.run.routine

    -- what is there is an own cell of the routine of this frame
    homes : (k : ℕ) (a : Ty) → HasPlace g routine (src.Variable k) a ⊎ IsBare t a → HomesIn t (owns_of p) few.home s k a
    homes k a (inr f) y d m i o e = absurd (bare_inside t (owns_of p) f i)
    homes k a (inl h) y d m i o e =
        let part : IsOwnPart t (owns_of p) source routine (Frame s.env.exec s.run.frame) (Place (Frame s.env.exec s.run.frame) y) (Cell (Obj d)) = record { clean = h.0; scope = h.1; cell = k; type = a; cleans = h.2; inside = i } in
        let own : IsOwnCell g routine (Frame s.env.exec s.run.frame) y d = (m, part) in
        let low = law_addresses.variables p formed accepted within routine (Frame s.env.exec s.run.frame) y (Obj d) (part_lies g routine (Frame s.env.exec s.run.frame) (Place (Frame s.env.exec s.run.frame) y) (Cell (Obj d)) part) in
        (law_cells.reads p few class s x s.run.frame routine y d x.run.frame own low o (here_loaded s.env s.run.frame y ∙ e)).0

    owned_at : (c : CleanUp) (rest : src.Stmts) (todo : List Todo) → s.run.control ≡ piece.Rest (src.Scoped c rest) ∷ todo → OwnedAt t (owns_of p) few.home c s
    owned_at c rest todo e =
        let ok = subst (code.Ok g routine x.run.marks) e x.run.ok in
        let sited : SitedClean g routine c = ok.0.1.0 in
        record {
          objects = λ k i h. homes k (Obj i) (object_place routine k i c h sited);
          arrays = λ k m i h. homes k (Row m (Obj i)) (array_place routine k m i c h sited);
          kinds = λ k a h. kind_of routine k a c h sited;
        }

    pub owned_here : Owned t (owns_of p) few.home s
    owned_here = by s.run.control refl
      where
        by : (l : List Todo) → s.run.control ≡ l → OwnedBy t (owns_of p) few.home l s
        by (piece.Rest (src.Scoped c rest) ∷ todo) e = owned_at c rest todo e
        by l e = tt

-- what follows in each state before which it holds, on the way to another

module _ (G Q : State → Type 0) (source : Source) (start : State) (f : (v : State) (k : Leads source start v) → LeadsMeet G source start v k → Q v) where
  pub leads_led : {s u : State} (m : Leads source start s) → LeadsMeet G source start s m → (l : Leads source s u) → LeadsMeet G source s u l → LeadsMeet Q source s u l
  leads_led m h rooms.stays i = tt
  leads_led {s} m h (rooms.goes e l) i = (f s m h, leads_led (endings.goes_on G source m e) (endings.goes_met G source m e h i.0) l i.1)
  leads_led {s} m h (rooms.ticks e l) i = (f s m h, leads_led (endings.ticks_on G source m e) (endings.ticks_met G source m e h i.0) l i.1)

-- so it is in a run in which all was known, and on the way from a state on which all is known

module _ (p : Program) (formed : IsFormed p) (accepted : breaks_of p ≡ []) (within : IsWithinLimits p) (few : Few) (input : List ℕ) (opts : Options) (range : InRange opts) (j : Journal) (w : World) (r : Runs (source_of p) input opts j w) (fits : RunFits (source_of p) input opts j w r) (same : (o : ℕ) → o < object_count j → few.home o ≡ home_of (source_of p) input opts j w r o) (reads : RunMeets (KnowsReads (table_of p) few) (source_of p) input opts j w r) (on : is_over j ≡ false) where
  abbrev Told : State → Type 0
  Told s = Binds (source_of p) (home_of (source_of p) input opts j w r) (object_count j) s

  abbrev classes : ℕ → Option ℕ
  classes o = class_of (table_of p) (source_of p) input opts j w r o

  abbrev Finds : State → Type 0
  Finds s = CellFinds (telling_of p few classes) s

  -- homes are those that the run tells
  told_so : (s : State) → Told s → Binds (source_of p) few.home (object_count j) s
  told_so s b = by s.run.control b
    where
      by : (l : List Todo) → BindsAt (source_of p) (home_of (source_of p) input opts j w r) (object_count j) l s → BindsAt (source_of p) few.home (object_count j) l s
      by (piece.BindMadeNow c q ∷ todo) h = record { number = h.number; made = h.made; object = h.object; home = same h.number h.made ∙ h.home }
      by l h = tt

  finds : (s : State) → KnowsState (table_of p) few [] s → Told s → Finds s
  finds s k b = finds_here p formed accepted few classes s k (object_count j) (told_so s b)

  run_finds : RunMeets Finds (source_of p) input opts j w r
  run_finds = run_zip (KnowsReads (table_of p) few) Told Finds (λ s k b. finds s k.0 b) r reads (law_binds.runs (source_of p) input opts j w r range fits)

  pub owned_on : (u : ℕ) (s : State) (c : Comes (source_of p) j w u s) → LeadsMeet (λ v. KnowsState (table_of p) few [] v) (source_of p) (answered (source_of p) c.given (drawn j w u)) s c.leads → Owned (table_of p) (owns_of p) few.home s
  owned_on u s c k =
      let told = (law_binds.leads (source_of p) input opts j w r range fits on u s c).0 in
      let found : LeadsMeet Finds (source_of p) (answered (source_of p) c.given (drawn j w u)) s c.leads = leads_zip (λ v. KnowsState (table_of p) few [] v) Told Finds finds c.leads k told in
      owned_here p formed accepted few classes within s (law_cells.leads p formed accepted within few input opts range j w r fits (law_sited p formed accepted few classes false) run_finds on u s c found).0
