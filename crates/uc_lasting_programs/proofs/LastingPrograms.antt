-- What a program asks is not gone, and of a task where it is to be, as far as no law gives that.
use Rattle.std.proofs.Common.{⊎_elim, ap, ◌≡◌, ℕ, ℤ, ◌<◌, ◌⊎◌, inl, inr, ◌++◌, ◌∙◌, Bool, true, false, List, [], ◌∷◌, Option, refl, sym, subst, arith}
use Rattle.std.specs.Prelude.{not}
use Rattle.std.proofs.lemmas.Bool.{lt-ltb}
use Rattle.uc_tree.specs.Programs.{Program}
use Rattle.uc_tree.specs.Source.{Source}
use Rattle.uc_entry.specs.declared.entry.Entry.{Entry}
use Rattle.uc_entry.specs.declared.entry.Options.{Options}
use Rattle.uc_entry.specs.declared.request.Asked.{Asked}
use Rattle.uc_entry.specs.declared.request.Request.{Request}
use Rattle.uc_entry.specs.declared.request.Request.TheVariants as ask
use Rattle.uc_acts.specs.Journal.{Journal, is_over}
use Rattle.uc_acts.specs.Acts.{act}
use Rattle.uc_acts.specs.Known.{object_count, is_gone, owner}
use Rattle.uc_acts.specs.KernelRuns.{InRange}
use Rattle.uc_acts.specs.Serves.{left}
use Rattle.uc_machine.specs.declared.exec.Exec.{Exec}
use Rattle.uc_machine.specs.Pieces.{Value, Number, Place, Running, Object, Nothing, Todo, EnterNow, RaiseAtNow}
use Rattle.uc_machine.specs.Quiet.{State, Goes, Ticks, Asks, quiet}
use Rattle.uc_machine.specs.Rides as rides
use Rattle.uc_machine.specs.Rides.{Rides}
use Rattle.uc_machine.specs.Answering.{answered}
use Rattle.uc_meaning.specs.Runs.{World, May, Runs, AsksIn, drawn, world_after, acts, more, gives, no_room, begun}
use Rattle.uc_resolve.specs.Resolve.{source_of}
use Rattle.uc_rules.specs.Breaks.{breaks_of}
use Rattle.uc_sound.specs.SoundFormed.{IsFormed}
use Rattle.uc_sound.specs.Tables.{table_of}
use Rattle.uc_state_laws.specs.Fitting.{RunFits}
use Rattle.uc_state_laws.specs.Limits.{IsWithinLimits}
use Rattle.uc_state_laws.specs.RoomRuns as rooms
use Rattle.uc_state_laws.specs.RoomRuns.{Leads, Comes}
use Rattle.uc_state_laws.specs.Endings.{RideHolds}
use Rattle.uc_state_laws.specs.Opens.{RideMeets, RunMeets, LeadsMeet}
use Rattle.uc_typing.specs.Typing.{Ty, Cell, Obj, Raw}
use Rattle.uc_life_laws.specs.Things.{Few, Base, Stands}
use Rattle.uc_life_laws.specs.Lives.{LivesState}
use Rattle.uc_life_laws.specs.Knowing.{KnowsState}
use Rattle.uc_life_laws.specs.KnownAnswers.{MainPasses}
use Rattle.uc_life_laws.specs.Marks.{Marked, LoneState, Puts}
use Rattle.uc_life_laws.specs.KnownRuns.{PassesBelow, Meets, NamesMade}
use Rattle.uc_life_laws.specs.Belonging.{Belongs}
use Rattle.uc_life_laws.specs.Homes.{home_of}
use Rattle.uc_life_laws.specs.Endings.{RawsPass}
use Rattle.uc_life_laws.specs.Rooted.{IsBase, IsPlace}
use Rattle.uc_life_laws.proofs.KnownWorlds.{law_known_runs}
use Rattle.uc_life_laws.proofs.Homes.{law_once}
use Rattle.uc_life_laws.proofs.NewNumbers.{objects_grow}
use Rattle.uc_life_laws.specs.Lasting.{lasting, RunForgets, RunMeetsAt}
use Rattle.uc_life_laws.specs.MadeObjects.{Binds}
use Rattle.uc_cell_laws.specs.Classes.{class_of}
use Rattle.uc_cell_laws.specs.OwnCells.{owns_of}
use Rattle.uc_life_laws.proofs.Called.{law_called}
use Rattle.uc_life_laws.proofs.Lasting.{law_raised}
use Rattle.uc_putting_laws.specs.PuttingLaws.{setting_of, Fair}
use Rattle.uc_homed_ends.specs.HomesLeft.{KnowsReads, Told}
use Rattle.uc_homed_ends.specs.Elements.{no_fields}
use Rattle.uc_homed_ends.proofs.BoundRuns.{ride_zip, run_zip}
use Rattle.uc_homed_ends.proofs.EndHomes.{run_with, ride_with}
use Rattle.uc_homed_ends.proofs.Found.{law_found}
use Rattle.uc_life_laws.specs.HomedStates.{Opens}
use Rattle.uc_request_laws.specs.ApartRuns.{StepApart}
use Rattle.uc_request_laws.specs.Lasting.{IsLasting}
use Rattle.uc_request_laws.proofs.ApartLemmas.{law_apart_runs}
use Rattle.uc_request_laws.proofs.LastingLemmas.{names_made, law_lasting}
use Rattle.uc_life_laws.proofs.UnmarkedWorlds.{law_runs as law_lone_runs}
use Rattle.uc_putting_laws.proofs.PuttingRuns.{law_runs as law_puts}
use Rattle.uc_running_laws.proofs.RunningLemmas.{run_leaves}
use Rattle.uc_letting_laws.specs.AloneRuns.{RunAlone}
use Rattle.uc_rooted_runs.specs.Mains.{CallsNoMain, FindsAll}
use Rattle.uc_rooted_runs.specs.MainRuns.{EndsMains}
use Rattle.uc_rooted_runs.proofs.MainRuns.{law_mains}
use Rattle.uc_making_laws.specs.NoOthers.{NoThis}
use Rattle.uc_making_laws.specs.BuilderRuns.{Finishes}
use Rattle.uc_lasting_programs.specs.UnderWay.{OfTasks}
use Rattle.uc_lasting_programs.proofs.UnderWay.{pending, under_way}
use Rattle.uc_making_laws.proofs.BuilderRuns.{law_builder_runs}
use Rattle.uc_rooted_runs.specs.UnmarkedRuns.{RunLeft}
use Rattle.uc_rooted_runs.proofs.UnmarkedRuns.{law_unmarked_runs}
use Rattle.uc_making_laws.specs.OwnThis.{ThisState, FindsThis}
use Rattle.uc_homed_ends.specs.Ended.{is_variable, IsEntered}
use Rattle.uc_homed_ends.proofs.Ended.{law_ended}
use Rattle.uc_making_laws.specs.BeforeRides.{ElsewhereOnWay, ElsewhereOnWayBy}
use Rattle.uc_making_laws.specs.ForgetsThis.{RunGoes, IsLeftNowhere}
use Rattle.uc_lasting_programs.specs.Forgetting.{IsLeftOf}
use Rattle.uc_lasting_programs.specs.LastingPrograms.{IsLeftFor, LawLastingPrograms}
use Rattle.uc_lasting_programs.specs.Meeting.{RunHoldsAt}
use Rattle.uc_lasting_programs.specs.Bases.{based, RunHoldsOnWay, open_to, way_bars}
use Rattle.uc_lasting_programs.specs.Lent.{reads_in_run, reads_on_ride, has_read}
use Rattle.uc_lasting_programs.specs.Seats.{ride_seats, run_seats, seated}
use Rattle.uc_lasting_programs.specs.Telling.{main_class, is_main_home, few_of, IsTelling}
use Rattle.uc_lasting_programs.proofs.Asking.{law_asked_at}
use Rattle.uc_lasting_programs.specs.Sparing.{KnowsHomes}
use Rattle.uc_lasting_programs.proofs.CallsRuns.{law_calls_runs}
use Rattle.uc_lasting_programs.proofs.Forgetting.{law_forgets_programs, run_nobodys}
use Rattle.uc_lasting_programs.proofs.Telling.{law_telling}
use Rattle.uc_lasting_programs.proofs.Sparing.{run_spares, ride_spares}
use Rattle.uc_lasting_programs.proofs.Ways.{law_ways}
use Rattle.uc_lasting_programs.proofs.MadeBehind.{run_bare}
use Rattle.uc_lasting_programs.proofs.HomesAway.{homes_owned}
use Rattle.uc_life_laws.specs.Knowing.{main_of}
use Rattle.uc_state_laws.proofs.Others.{run_rests}
use Rattle.uc_acts.specs.Journal.{held}
use Rattle.std.proofs.lemmas.Bool.{eqb-true}
use Rattle.uc_lasting_programs.proofs.HomesAway.{one_not_none}
use Rattle.uc_name_laws.specs.NameSteps.{Spares}
use Rattle.uc_life_laws.specs.NamedRuns.{is_here}
use Rattle.uc_life_laws.proofs.NamedWorlds.{run_named, known}
use Rattle.uc_life_laws.proofs.OwnNamesLemmas.{law_own_names}
use Rattle.uc_lasting_programs.proofs.TaskMains.{begins_none, tasks_alone}
use Rattle.uc_rooted_runs.specs.TaskMains.{BeginsNone, EndsState}
use Rattle.uc_rooted_runs.proofs.TaskMainRuns.{law_task_mains}
use Rattle.uc_lasting_programs.proofs.Meeting.{tells_made, ride_outside, run_outside, HasMet, Shown, BuiltHere, ride_clear, ride_lasts, ride_lives, ride_all, run_present, run_met, ride_reads, run_reads}
use Rattle.uc_lasting_programs.proofs.Numbers.{passes}
use Rattle.uc_lasting_programs.proofs.PresentRides.{EntersClear, Began}
use Rattle.uc_lasting_programs.proofs.PresentRuns.{began}
use Rattle.uc_lasting_programs.proofs.Bases.{BareOnWayBy, BareOnWay, UnlessMade, ways_elsewhere, ways_unless, way_elsewhere, BarsNone, bars_none, holds_none, executed}
use Rattle.uc_lasting_programs.proofs.OfOthers.{HasOthers, others_had}
use Rattle.uc_lasting_programs.proofs.Seats.{left_true, right_true, Seats, ride_has, run_has}
use Rattle.uc_lasting_programs.proofs.Lent.{HasLent, HasRead, WasOutlived, run_lent, ride_lent, run_read, ride_read, was_outlived}
use Rattle.uc_lasting_programs.proofs.Remaining.{ride_remains, last_made, last_whole, run_remains}
use Rattle.uc_lasting_programs.proofs.Owning.{first_owned}
use Rattle.uc_lasting_programs.proofs.Raising.{stands_own, stack_own, not_raised, not_under_way, finishes}
use Rattle.uc_lasting_programs.proofs.Finding.{law_finding, ride_found}

-- what holds at the states of a ride in two ways, and on the way to one

module _ (P Q : State → Type 0) (source : Source) where
  ride_both : {s u : State} {q k : ℕ} {a : Asked} (r : Rides source s q u k a) → RideMeets P source s q u k a r → RideMeets Q source s q u k a r → RideMeets (λ v. P v × Q v) source s q u k a r
  ride_both rides.slices h l = tt
  ride_both (rides.goes_on e r) h l = ((h.0, l.0), ride_both r h.1 l.1)
  ride_both (rides.ticks e r) h l = ((h.0, l.0), ride_both r h.1 l.1)
  ride_both (rides.asks e) h l = (h, l)

  leads_map : (f : (s : State) → P s → Q s) {s u : State} (l : Leads source s u) → LeadsMeet P source s u l → LeadsMeet Q source s u l
  leads_map f rooms.stays h = tt
  leads_map f (rooms.goes {s} e l) h = (f s h.0, leads_map f l h.1)
  leads_map f (rooms.ticks {s} e l) h = (f s h.0, leads_map f l h.1)

-- the state in which this is asked, which leads to that

record AsksAt (P : State → Type 0) (source : Source) (s : State) (r : Request) (u : State) : Type 0 where
  state : State
  leads : Leads source s state
  meets : LeadsMeet P source s state leads
  here : P state
  asks : quiet source state ≡ Asks r u

module _ (P : State → Type 0) (source : Source) where
  goes_at : {s t u : State} {r : Request} {A : Type 0} → quiet source s ≡ Goes t → P s → A ⊎ AsksAt P source t r u → A ⊎ AsksAt P source s r u
  goes_at e m (inl x) = inl x
  goes_at e m (inr a) = inr (record { state = a.state; leads = rooms.goes e a.leads; meets = (m, a.meets); here = a.here; asks = a.asks })

  ticks_at : {s t u : State} {r : Request} {A : Type 0} → quiet source s ≡ Ticks t → P s → A ⊎ AsksAt P source t r u → A ⊎ AsksAt P source s r u
  ticks_at e m (inl x) = inl x
  ticks_at e m (inr a) = inr (record { state = a.state; leads = rooms.ticks e a.leads; meets = (m, a.meets); here = a.here; asks = a.asks })

  asks_at : {s u : State} {q k : ℕ} {a : Asked} (r : Rides source s q u k a) → RideMeets P source s q u k a r → (a.request ≡ ask.Slice) ⊎ AsksAt P source s a.request u
  asks_at rides.slices m = inl refl
  asks_at (rides.goes_on e r) m = goes_at e m.0 (asks_at r m.1)
  asks_at (rides.ticks e r) m = ticks_at e m.0 (asks_at r m.1)
  asks_at (rides.asks {s} {t} e) m = inr (record { state = s; leads = rooms.stays; meets = tt; here = m; asks = e })

-- of runs on the ways of which nobody else has at hand what is let go of

-- what is told of a run
abbrev telling : (Ty → ℕ → Bool) → (ℕ → Value) → (Exec → Value → Ty → Bool) → Few
telling numbers home base = record { numbers = numbers; home = home; base = base }

-- what is left of a run, in which that is told of homes which a run tells in the end that makes so many objects
record IsLeftKnown (p : Program) (few : Few) (many : ℕ) (input : List ℕ) (opts : Options) (j : Journal) (w : World) (r : Runs (source_of p) input opts j w) : Type 0 where
  homes : (o : ℕ) → o < object_count j → few.home o ≡ home_of (source_of p) input opts j w r o
  told : RunMeets (Told p few many) (source_of p) input opts j w r

module _ (p : Program) (formed : IsFormed p) (ok : breaks_of p ≡ []) (within : IsWithinLimits p) (many : ℕ) (numbers : Ty → ℕ → Bool) (home : ℕ → Value) (base : Exec → Value → Ty → Bool) (raws : RawsPass (telling numbers home base)) (main : MainPasses (table_of p) (telling numbers home base) ((table_of p).routine (source_of p).main).this 0) (places : (n : Exec) (w : Value) (b : Ty) → Base (telling numbers home base) n w b → IsBase w b) (zero : (n : Exec) → Belongs (telling numbers home base) n (home 0) → ⊥) (input : List ℕ) (opts : Options) (range : InRange opts) where
  abbrev these : Few
  these = telling numbers home base

  abbrev Left : (j : Journal) (w : World) → Runs (source_of p) input opts j w → Type 0
  Left j w r =
      (RunMeets (λ v. BareOnWay (table_of p) these v (source_of p)) (source_of p) input opts j w r × RunHoldsOnWay (λ j w u v. UnlessMade (table_of p) these v j w u) (source_of p) input opts r) ×
      IsLeftKnown p these many input opts j w r

  -- what one act less had made is told as it was
  fewer : (j : Journal) (w : World) (a : List Entry) (v : World) (r : Runs (source_of p) input opts j w) (on : is_over j ≡ false) (m : May (source_of p) opts input j w a v) → ((o : ℕ) → o < object_count (j ++ a) → home o ≡ home_of (source_of p) input opts (j ++ a) v (more r on m) o) → (o : ℕ) → o < object_count j → home o ≡ home_of (source_of p) input opts j w r o
  fewer j w a v r on m tells o lt =
      let le = objects_grow j a in
      tells o (omega (arith, lt, le)) ∙ law_once (source_of p) input opts j w a v m (λ i. home_of (source_of p) input opts j w r i) o lt

  shorter : (j : Journal) (w : World) (a : List Entry) (v : World) (r : Runs (source_of p) input opts j w) (on : is_over j ≡ false) (m : May (source_of p) opts input j w a v) → Left (j ++ a) v (more r on m) → Left j w r
  shorter j w a v r on m x = ((x.0.0.0, x.0.1.0), record { homes = fewer j w a v r on m x.1.homes; told = x.1.told.0 })

  -- all is known where each step found what it was to find
  left_so : (j : Journal) (w : World) (r : Runs (source_of p) input opts j w) → RunFits (source_of p) input opts j w r → PassesBelow these opts j → RunMeets (Meets (table_of p) these) (source_of p) input opts j w r → IsLeftKnown p these many input opts j w r → IsLeftOf p these many input opts j w r
  left_so j w r f below met x =
      let known = run_reads p formed ok numbers home base within raws places zero main many input opts range r f below met in
      record {
        homes = run_zip (Told p these many) (KnowsReads (table_of p) these) (KnowsHomes p these many) (λ v a b. (a, b)) r x.told known;
        fair = law_found.runs p formed ok within these many input opts range j w r f x.told known;
      }

  -- what the ways are asked, where what is entered again to be destroyed is not at hand

  elsewhere : (v : State) → BareOnWay (table_of p) these v (source_of p) → EntersClear p these v → ElsewhereOnWay (table_of p) these v (source_of p)
  elsewhere v h c = by v.run.control refl h
    where
      by : (l : List Todo) → v.run.control ≡ l → BareOnWayBy (table_of p) these v (source_of p) l → ElsewhereOnWayBy (table_of p) these v (source_of p) l
      by (EnterNow m r ∷ todo) e h = λ k. c k m r todo e
      by [] e h = h
      by (z ∷ todo) e h = h

  ride_elsewhere : {s x : State} {q k : ℕ} {a : Asked} (r : Rides (source_of p) s q x k a) → RideMeets (λ v. BareOnWay (table_of p) these v (source_of p)) (source_of p) s q x k a r → RideMeets (EntersClear p these) (source_of p) s q x k a r → RideMeets (λ v. ElsewhereOnWay (table_of p) these v (source_of p)) (source_of p) s q x k a r
  ride_elsewhere r h c =
      ride_zip (λ v. BareOnWay (table_of p) these v (source_of p)) (EntersClear p these) (λ v. ElsewhereOnWay (table_of p) these v (source_of p)) elsewhere r h c

  run_elsewhere : {j : Journal} {w : World} (r : Runs (source_of p) input opts j w) → RunMeets (λ v. BareOnWay (table_of p) these v (source_of p)) (source_of p) input opts j w r → RunMeets (EntersClear p these) (source_of p) input opts j w r → RunMeets (λ v. ElsewhereOnWay (table_of p) these v (source_of p)) (source_of p) input opts j w r
  run_elsewhere r h c =
      run_zip (λ v. BareOnWay (table_of p) these v (source_of p)) (EntersClear p these) (λ v. ElsewhereOnWay (table_of p) these v (source_of p)) elsewhere r h c

  apart_so : (j : Journal) (w : World) (r : Runs (source_of p) input opts j w) → RunFits (source_of p) input opts j w r → is_over j ≡ false → PassesBelow these opts j → RunMeets (Meets (table_of p) these) (source_of p) input opts j w r → RunMeets (EntersClear p these) (source_of p) input opts j w r → Left j w r → RunMeets (StepApart (table_of p) these (source_of p)) (source_of p) input opts j w r
  apart_so j w r f on below met clear x =
      let l = left_so j w r f below met x.1 in
      law_ways.runs p formed ok within these many places zero input opts range j w r f on below main met l.fair l.homes (run_elsewhere r x.0.0 clear)

  -- what goes is left nowhere, since nobody who lives behind that was made for it
  nowhere_so : (j : Journal) (w : World) (r : Runs (source_of p) input opts j w) → RunFits (source_of p) input opts j w r → is_over j ≡ false → PassesBelow these opts j → RunMeets (Meets (table_of p) these) (source_of p) input opts j w r → RunMeets (EntersClear p these) (source_of p) input opts j w r → Left j w r → RunAlone (source_of p) input opts j w r → RunGoes (IsLeftNowhere (table_of p) these) (source_of p) input opts r
  nowhere_so j w r f on below met clear x lone =
      let l = left_so j w r f below met x.1 in
      let found = law_finding.runs p formed ok input opts range j w r f lone in
      let known = run_reads p formed ok numbers home base within raws places zero main many input opts range r f below met in
      let begins = run_zip (KnowsReads (table_of p) these) (CallsNoMain (source_of p)) (BeginsNone (source_of p)) (λ v a b. begins_none p formed ok these v a.0 b) r known found.calls in
      let ends : RunMeets EndsState (source_of p) input opts j w r = law_task_mains.runs (source_of p) input opts j w r begins in
      let bare = run_bare p formed ok input opts range these zero r f lone ends found.finds (run_spares p formed ok within these many input opts range r f lone l.fair l.homes) on x.0.1 in
      law_ways.goes p formed ok within these many places zero input opts range j w r f on below main met l.fair l.homes (run_elsewhere r x.0.0 clear) bare

  shown : (j : Journal) (w : World) (r : Runs (source_of p) input opts j w) → RunFits (source_of p) input opts j w r → is_over j ≡ false → PassesBelow these opts j → RunMeets (Meets (table_of p) these) (source_of p) input opts j w r → RunMeets (EntersClear p these) (source_of p) input opts j w r → Left j w r → Shown p formed ok numbers home base many input opts j w r
  shown j w r f on below met clear x =
      let so = apart_so j w r f on below met clear x in
      let lone = law_apart_runs.runs p formed ok these input opts range j w r f below main met so in
      let l = left_so j w r f below met x.1 in
      let nowhere = nowhere_so j w r f on below met clear x lone in
      record {
        forgets = law_forgets_programs p formed ok within these many places zero input opts range j w r f on lone below main met nowhere l;
        alone = lone;
        nobodys = run_nobodys p formed ok within these many places zero input opts range j w r f on lone below main met nowhere l;
        homes = x.1.homes;
        told = x.1.told;
      }

module _ (p : Program) (formed : IsFormed p) (ok : breaks_of p ≡ []) (within : IsWithinLimits p) (input : List ℕ) (opts : Options) (range : InRange opts) (j : Journal) (w : World) (r : Runs (source_of p) input opts j w) (f : RunFits (source_of p) input opts j w r) (on : is_over j ≡ false) (q t n : ℕ) (s : State) (asked : Asked) (d : AsksIn (source_of p) opts j w q t n s asked) (x : IsLeftFor p input opts j w r q t n s asked d) (was : WasOutlived p (λ o. home_of (source_of p) input opts j w r o) (λ o. class_of (table_of p) (source_of p) input opts j w r o) input opts r) where
  abbrev source : Source
  source = source_of p

  abbrev start : State
  start = answered source d.given (drawn j w t)

  abbrev few : Few
  few = few_of p input opts j w r (based p input opts r d)

  abbrev all : ℕ
  all = object_count j

  -- homes are those that the run tells
  told_here : RunMeets (Told p few all) source input opts j w r
  told_here = law_found.told p formed ok within few input opts range j w r f (λ o. refl)

  told_next : RideMeets (Told p few all) source start (left opts j t) s n asked d.rides
  told_next = law_found.told_next p formed ok within few input opts range j w r f (λ o. refl) on q t n s asked d

  -- so scopes open where mutex objects are at home
  abbrev Opened : State → Type 0
  Opened v = Opens (table_of p) no_fields few v

  left_here : IsLeftKnown p few all input opts j w r
  left_here = record { homes = λ o lt. refl; told = told_here }

  tells : IsTelling p few opts j
  tells = law_telling p formed ok input opts j w r (based p input opts r d)

  -- numbers of what is not gone
  raws_last : (i : Journal) → RawsPass (lasting few i)
  raws_last i = λ c o h. tells.raws c o (passes (table_of p) few.numbers few.home few.base i c o h)

  abbrev Here : Journal → ℕ → State → Type 0
  Here i n v = BuiltHere p formed ok few.numbers few.home few.base all i n v

  abbrev Homes : ℕ → Value
  Homes o = home_of source input opts j w r o

  -- what the ways are asked is shown of all that is told but seats
  ways_here : RunMeets (λ v. BareOnWay (table_of p) few v source) source input opts j w r
  ways_here = ways_elsewhere p formed ok input opts range j w r f on q t n s asked d x.clear

  unless_here : RunHoldsOnWay (λ j w u v. UnlessMade (table_of p) few v j w u) source input opts r
  unless_here = ways_unless p formed ok input opts range j w r f on q t n s asked d x.clear

  way_here : RideMeets (λ v. BareOnWay (table_of p) few v source) source start (left opts j t) s n asked d.rides
  way_here = way_elsewhere p formed ok input opts range j w r f on q t n s asked d x.clear_now

  -- executions have the objects for which they were made
  has_seat : (n : Exec) (v : Value) (b : Ty) → IsBase v b → seated p input opts r d n v b ≡ true → Base few n v b
  has_seat n (Place o l) b i h = right_true (is_main_home (main_class p) n o l b) (based p input opts r d n (Place o l) b) (left_true (seated p input opts r d n (Place o l) b) _ h)
  has_seat n (Number z) b (inl i) h = absurd i
  has_seat n (Number z) b (inr i) h = let e : Number z ≡ Object i.0 = i.2 in absurd (cc)
  has_seat n (Running m) b (inl i) h = absurd i
  has_seat n (Running m) b (inr i) h = let e : Running m ≡ Object i.0 = i.2 in absurd (cc)
  has_seat n (Object o) b (inl i) h = absurd i
  has_seat n (Object o) b (inr i) h =
      subst (λ b. Base few n (Object o) b) (sym i.3) (left_true (seated p input opts r d n (Object o) (Raw i.1)) _ (subst (λ b. seated p input opts r d n (Object o) b ≡ true) i.3 h))
  has_seat n Nothing b (inl i) h = absurd i
  has_seat n Nothing b (inr i) h = let e : Nothing ≡ Object i.0 = i.2 in absurd (cc)

  -- and what is another's, and no mutex object
  had : HasOthers few
  had = others_had p input opts j w r q t n s asked d

  abbrev so_far : Exec → Value → Ty → Bool
  so_far n v b = run_seats (table_of p) source input opts r n v b

  abbrev on_ride : Exec → Value → Ty → Bool
  on_ride n v b = ride_seats (table_of p) d.rides n v b

  seats_so_far : RunMeets (Seats (table_of p) (Base few)) source input opts j w r
  seats_so_far =
      run_has (table_of p) (Base few) source input opts r (λ n v b i h. has_seat n v b i (left_true (so_far n v b) (on_ride n v b) h))

  seats_next : RideMeets (Seats (table_of p) (Base few)) source start (left opts j t) s n asked d.rides
  seats_next =
      ride_has (table_of p) (Base few) d.rides (λ n v b i h. has_seat n v b i (right_true (so_far n v b) (on_ride n v b) h))

  abbrev class : ℕ → Option ℕ
  class o = class_of (table_of p) source input opts j w r o

  -- what is lent to mutex objects is there where it is read, and who reads it has its home
  abbrev LentRead : Journal → State → Type 0
  LentRead i v = HasLent (table_of p) (owns_of p) few.home class i v × HasRead few.home (Base few) v

  abbrev run_base : Exec → Value → Bool
  run_base m z = reads_in_run Homes source input opts r m z

  abbrev ride_base : Exec → Value → Bool
  ride_base m z = reads_on_ride Homes d.rides m z

  read_based : (m : Exec) (z : Value) → has_read p input opts r d m z ≡ true → IsPlace z → (c : ℕ) → Base few m z (Cell (Obj c))
  read_based m (Place o l) h k c =
      right_true (is_main_home (main_class p) m o l (Cell (Obj c))) (based p input opts r d m (Place o l) (Cell (Obj c))) (right_true (seated p input opts r d m (Place o l) (Cell (Obj c))) _ (left_true (open_to p input opts r d m (Place o l)) _ (right_true (not (way_bars Homes source input opts r d m (Place o l))) (has_read p input opts r d m (Place o l)) h)))
  read_based m (Number z) h k c = absurd k
  read_based m (Running x) h k c = absurd k
  read_based m (Object o) h k c = absurd k
  read_based m Nothing h k c = absurd k

  read_so_far : RunMeets (HasRead few.home (Base few)) source input opts j w r
  read_so_far = run_read Homes (Base few) source input opts r (λ m z h. read_based m z (left_true (run_base m z) (ride_base m z) h))

  read_next : RideMeets (HasRead few.home (Base few)) source start (left opts j t) s n asked d.rides
  read_next = ride_read Homes (Base few) d.rides (λ m z h. read_based m z (right_true (run_base m z) (ride_base m z) h))

  both_so_far : {i : Journal} {x : World} (q : Runs source input opts i x) → RunMeetsAt (λ i v. HasLent (table_of p) (owns_of p) few.home class i v) source input opts i x q → RunMeets (HasRead few.home (Base few)) source input opts i x q → RunMeetsAt LentRead source input opts i x q
  both_so_far begun a b = tt
  both_so_far (more q o (gives z t s le)) a b = (both_so_far q a.0 b.0, tt)
  both_so_far (more q o (no_room z t s le)) a b = (both_so_far q a.0 b.0, tt)
  both_so_far (more {j = v} q o (acts z t k s asked e)) a b =
      (both_so_far q a.0 b.0, ride_zip (HasLent (table_of p) (owns_of p) few.home class v) (HasRead few.home (Base few)) (LentRead v) (λ u x y. (x, y)) e.rides a.1 b.1)

  has_lent : RunMeetsAt LentRead source input opts j w r
  has_lent = both_so_far r (run_lent p Homes class input opts all r was (run_with (Told p few all) (Binds source few.home all) (λ v h. h.0) r told_here)) read_so_far

  lent_next : RideMeets (LentRead j) source start (left opts j t) s n asked d.rides
  lent_next =
      ride_zip (HasLent (table_of p) (owns_of p) few.home class j) (HasRead few.home (Base few)) (LentRead j) (λ v x y. (x, y)) d.rides (ride_lent p Homes class input opts all r was on (run_with (Told p few all) (Binds source few.home all) (λ v h. h.0) r told_here) q t n s asked d (x.outlived Homes (λ o l. refl) class (λ o l. refl)) (ride_with (Told p few all) (Binds source few.home all) (λ v h. h.0) d.rides told_next)) read_next

  met_so_far : RunHoldsAt Here source input opts j w r
  met_so_far = run_remains p formed ok within input opts range class few all raws_last had (λ c o lt. lt-ltb o all lt) (λ c o h. h) r f tells.below (run_with (Told p few all) Opened (λ v h. h.1) r told_here) x.met has_lent seats_so_far

  met_next : RideHolds (Here j) source 0 start (left opts j t) s n asked d.rides
  met_next =
      ride_remains p formed ok within input opts range class (lasting few j) all (raws_last j) had j (last_made p formed ok within input opts range class few all (λ c o lt. lt-ltb o all lt) j) (last_whole p formed ok within input opts range class few (λ c o h. h) j) w r f on tells.below.clusters few (λ o. refl) q t n s asked d (ride_with (Told p few all) Opened (λ v h. h.1) d.rides told_next) x.met_now lent_next seats_next

  abbrev LeftOf : (j : Journal) (w : World) → Runs source input opts j w → Type 0
  LeftOf j w r = Left p formed ok within all few.numbers few.home few.base tells.raws tells.main tells.places tells.nobodys input opts range j w r

  shorter_of : (j : Journal) (w : World) (a : List Entry) (v : World) (r : Runs source input opts j w) (on : is_over j ≡ false) (m : May source opts input j w a v) → LeftOf (j ++ a) v (more r on m) → LeftOf j w r
  shorter_of j w a v r on m l = shorter p formed ok within all few.numbers few.home few.base tells.raws tells.main tells.places tells.nobodys input opts range j w a v r on m l

  shown_of : (j : Journal) (w : World) (r : Runs source input opts j w) → RunFits source input opts j w r → is_over j ≡ false → PassesBelow few opts j → HasMet p formed ok few.numbers few.home few.base input opts j w r → LeftOf j w r → Shown p formed ok few.numbers few.home few.base all input opts j w r
  shown_of j w r f on below so l = shown p formed ok within all few.numbers few.home few.base tells.raws tells.main tells.places tells.nobodys input opts range j w r f on below so.all so.clear l

  -- what is told of homes, and of others where an object is entered again to be destroyed
  abbrev Conds : Journal → World → ℕ → State → Type 0
  Conds j w u v = Told p few all v × BareOnWay (table_of p) few v source

  conds_of : (j : Journal) (w : World) (r : Runs source input opts j w) (on : is_over j ≡ false) (q n k : ℕ) (s : State) (asked : Asked) (d : AsksIn source opts j w q n k s asked) → LeftOf (j ++ act opts source.sites input j q n k asked) (world_after source (act opts source.sites input j q n k asked) w n s) (more r on (acts q n k s asked d)) → RideMeets (Conds j w n) source (answered source d.given (drawn j w n)) (left opts j n) s k asked d.rides
  conds_of j w r on q n k s asked d l =
      ride_zip (Told p few all) (λ v. BareOnWay (table_of p) few v source) (Conds j w n) (λ v a b. (a, b)) d.rides l.1.told.1 l.0.0.1

  so : HasMet p formed ok few.numbers few.home few.base input opts j w r
  so = run_met p formed ok few.numbers few.home few.base within tells.raws tells.places tells.nobodys tells.main all input opts range LeftOf shorter_of shown_of conds_of r f tells.below met_so_far ((ways_here, unless_here), left_here)

  left_of : IsLeftOf p few all input opts j w r
  left_of = left_so p formed ok within all few.numbers few.home few.base tells.raws tells.main tells.places tells.nobodys input opts range j w r f tells.below so.all left_here

  shows : Shown p formed ok few.numbers few.home few.base all input opts j w r
  shows = shown_of j w r f on tells.below so ((ways_here, unless_here), left_here)

  forgets : RunForgets (table_of p) few source input opts j w r
  forgets = shows.forgets

  -- what is so as this ride begins
  begins : Began p few j t start
  begins =
      began p formed ok input opts range j w r f on shows.alone few (run_present p formed ok few.numbers few.home few.base within tells.raws tells.places tells.nobodys tells.main all input opts range LeftOf shorter_of shown_of conds_of r f on tells.below so ((ways_here, unless_here), left_here)) q t n s asked d

  cond_now : RideMeets (Conds j w t) source start (left opts j t) s n asked d.rides
  cond_now =
      ride_zip (Told p few all) (λ v. BareOnWay (table_of p) few v source) (Conds j w t) (λ v a b. (a, b)) d.rides told_next way_here

  clear_now : RideMeets (EntersClear p few) source start (left opts j t) s n asked d.rides
  clear_now = ride_clear p formed ok few.numbers few.home few.base within tells.raws tells.places tells.nobodys tells.main all input opts range j w r f on tells.below forgets shows.homes told_here shows.alone shows.nobodys so q t n s asked d begins met_next cond_now

  elsewhere_now : RideMeets (λ v. ElsewhereOnWay (table_of p) few v source) source start (left opts j t) s n asked d.rides
  elsewhere_now =
      ride_elsewhere p formed ok within all few.numbers few.home few.base tells.raws tells.main tells.places tells.nobodys input opts range d.rides way_here clear_now

  lasts_now : RideMeets (Meets (table_of p) (lasting few j)) source start (left opts j t) s n asked d.rides
  lasts_now = ride_lasts p formed ok few.numbers few.home few.base within tells.raws tells.places tells.nobodys tells.main all input opts range j w r f on tells.below forgets shows.homes told_here shows.alone shows.nobodys so q t n s asked d begins met_next cond_now

  met_now : RideMeets (Meets (table_of p) few) source start (left opts j t) s n asked d.rides
  met_now = ride_all p formed ok few.numbers few.home few.base within tells.raws tells.places tells.nobodys tells.main all input opts range j w r f on tells.below forgets shows.homes told_here shows.alone shows.nobodys so q t n s asked d begins met_next cond_now

  known_now : RideMeets (KnowsReads (table_of p) few) source start (left opts j t) s n asked d.rides
  known_now = ride_reads p formed ok few.numbers few.home few.base within tells.raws tells.places tells.nobodys tells.main all input opts range j w r f on tells.below so.all q t n s asked d met_now

  fair_now : RideMeets (Fair (setting_of p few)) source start (left opts j t) s n asked d.rides
  fair_now =
      law_found.rides p formed ok within few all input opts range j w r f told_here (run_reads p formed ok few.numbers few.home few.base within tells.raws tells.places tells.nobodys tells.main all input opts range r f tells.below so.all) on q t n s asked d told_next known_now

  homes_now : RideMeets (KnowsHomes p few all) source start (left opts j t) s n asked d.rides
  homes_now = ride_zip (Told p few all) (KnowsReads (table_of p) few) (KnowsHomes p few all) (λ v a b. (a, b)) d.rides told_next known_now

  elsewhere_here : RunMeets (λ v. ElsewhereOnWay (table_of p) few v source) source input opts j w r
  elsewhere_here =
      run_elsewhere p formed ok within all few.numbers few.home few.base tells.raws tells.main tells.places tells.nobodys input opts range r ways_here so.clear

  on_way : RideMeets (StepApart (table_of p) few source) source start (left opts j t) s n asked d.rides
  on_way = law_ways.rides p formed ok within few all tells.places tells.nobodys input opts range j w r f on tells.below tells.main so.all left_of.fair left_of.homes elsewhere_here q t n s asked d met_now fair_now homes_now elsewhere_now

  -- nobody else has at hand what is let go of, so far and in this ride
  apart : RunMeets (StepApart (table_of p) few source) source input opts j w r × RideMeets (StepApart (table_of p) few source) source start (left opts j t) s n asked d.rides
  apart = (
    (apart_so p formed ok within all few.numbers few.home few.base tells.raws tells.main tells.places tells.nobodys input opts range j w r f on tells.below so.all so.clear ((ways_here, unless_here), left_here)),
    on_way,
  )

  abbrev Lasts : State → Type 0
  Lasts v = Meets (table_of p) (lasting few j) v

  abbrev Known : State → Type 0
  Known v = Meets (table_of p) few v

  -- objects are at home where they are bound and loaded, and what is in scope holds what is not gone
  abbrev Free : State → Type 0
  Free v = BarsNone p formed ok input opts range j w r f on q t n s asked d v

  abbrev Ends : State → Type 0
  Ends v = Fair (setting_of p few) v × (LivesState (table_of p) (lasting few j) v × Free v)

  -- the objects of calls are had
  abbrev Calls : State → Type 0
  Calls v = FindsThis (table_of p) few source v

  -- mains come to their ends, and who runs is not forgotten
  abbrev Goes_on : State → Type 0
  Goes_on v = Finishes false v × Spares v

  abbrev All : State → Type 0
  All v = Lasts v × (Known v × (Calls v × (Ends v × Goes_on v)))

  alone_so : RunAlone source input opts j w r
  alone_so = law_apart_runs.runs p formed ok few input opts range j w r f tells.below tells.main so.all apart.0

  -- no main is called, so nothing is left at the end of one
  calls_none : RunMeets (CallsNoMain source) source input opts j w r
  calls_none = (law_finding.runs p formed ok input opts range j w r f alone_so).calls

  finishes_so : RunMeets (Finishes false) source input opts j w r
  finishes_so = run_with (EndsMains source) (Finishes false) (finishes source) r (law_mains.runs source input opts j w r calls_none)

  finishes_now : RideMeets (Finishes false) source start (left opts j t) s n asked d.rides
  finishes_now =
      let found = ride_found p formed ok input opts range r f alone_so on q t n s asked d in
      let mains = law_mains.runs source input opts (j ++ act opts source.sites input j q t n asked) (world_after source (act opts source.sites input j q t n asked) w t s) (more r on (acts q t n s asked d)) (calls_none, ride_with (λ v. FindsAll source v × CallsNoMain source v) (CallsNoMain source) (λ v h. h.1) d.rides found) in
      ride_with (EndsMains source) (Finishes false) (finishes source) d.rides mains.1

  spares_now : RideMeets Spares source start (left opts j t) s n asked d.rides
  spares_now = ride_spares p formed ok within few all input opts range r f alone_so left_of.fair left_of.homes on q t n s asked d fair_now homes_now

  ends_now : RideMeets Ends source start (left opts j t) s n asked d.rides
  ends_now =
      ride_both (Fair (setting_of p few)) (λ v. LivesState (table_of p) (lasting few j) v × Free v) source d.rides fair_now (ride_both (LivesState (table_of p) (lasting few j)) Free source d.rides (ride_lives p formed ok few.numbers few.home few.base within tells.raws tells.places tells.nobodys tells.main all input opts range j w r f on tells.below forgets shows.homes told_here shows.alone shows.nobodys so q t n s asked d begins met_next cond_now) (bars_none p formed ok input opts range j w r f on q t n s asked d x.clear_now))

  calls_now : RideMeets Calls source start (left opts j t) s n asked d.rides
  calls_now =
      (law_calls_runs.rides p formed ok few tells.places input opts range j w r f on tells.below tells.main so.all left_of.fair q t n s asked d met_now fair_now).0

  all_meet : RideMeets All source start (left opts j t) s n asked d.rides
  all_meet =
      ride_both Lasts (λ v. Known v × (Calls v × (Ends v × Goes_on v))) source d.rides lasts_now (ride_both Known (λ v. Calls v × (Ends v × Goes_on v)) source d.rides met_now (ride_both Calls (λ v. Ends v × Goes_on v) source d.rides calls_now (ride_both Ends Goes_on source d.rides ends_now (ride_both (Finishes false) Spares source d.rides finishes_now spares_now))))

  -- marks are put for what is an execution's own
  puts : RunMeets (Puts (table_of p) few) source input opts j w r
  puts = law_puts.runs p formed ok few input opts range j w r f left_of.fair

  -- what goes is at home in what is the own of who lets go of it
  left_behind : RunLeft (table_of p) few source input opts j w r
  left_behind =
      let alone = law_apart_runs.runs p formed ok few input opts range j w r f tells.below tells.main so.all apart.0 in
      law_unmarked_runs (table_of p) few source input opts j w r range f on (run_leaves p formed ok input opts range r f alone) (run_spares p formed ok within few all input opts range r f alone left_of.fair left_of.homes) puts

  module _ (a : AsksAt All source start asked.request s) where
    abbrev comes : Comes source j w t a.state
    comes = record { given = d.given; processor = q; runs = d.runs; told = d.told; leads = a.leads }

    lasts_there : LeadsMeet Lasts source start a.state a.leads
    lasts_there = leads_map All Lasts source (λ v h. h.0) a.leads a.meets

    meets_there : LeadsMeet Known source start a.state a.leads
    meets_there = leads_map All Known source (λ v h. h.1.0) a.leads a.meets

    fair_there : LeadsMeet (Fair (setting_of p few)) source start a.state a.leads
    fair_there = leads_map All (Fair (setting_of p few)) source (λ v h. h.1.1.1.0.0) a.leads a.meets

    lives_there : LeadsMeet (LivesState (table_of p) (lasting few j)) source start a.state a.leads
    lives_there = leads_map All (LivesState (table_of p) (lasting few j)) source (λ v h. h.1.1.1.0.1.0) a.leads a.meets

    puts_there : LeadsMeet (Puts (table_of p) few) source start a.state a.leads
    puts_there = law_puts.leads p formed ok few input opts range j w r f left_of.fair on t a.state comes fair_there

    this_there : ThisState (table_of p) few a.state
    this_there =
        (law_calls_runs.runs p formed ok few tells.places input opts range j w r f tells.below tells.main so.all left_of.fair).1.comes on t a.state comes (leads_map All (FindsThis (table_of p) few source) source (λ v h. h.1.1.0) a.leads a.meets)

    lone_there : LoneState (table_of p) few a.state
    lone_there = (law_lone_runs (table_of p) few source input opts j w r puts).comes t a.state comes puts_there

    known_there : KnowsState (table_of p) few [] a.state
    known_there = (law_known_runs p formed ok few input opts range j w r f on tells.below tells.main so.all).comes t a.state comes meets_there

    made : NamesMade opts j asked.request
    made =
        names_made (table_of p) few opts j (tells_made p input opts j w r (based p input opts r d)) asked.request ((law_known_runs p formed ok few input opts range j w r f on tells.below tells.main so.all).names t a.state comes meets_there a.here.1.0 asked.request s a.asks)

    -- what is entered to be destroyed is not gone: it was loaded for that from a variable, or that is left to show
    ends : (k i : ℕ) (todo : List Todo) → a.state.run.control ≡ EnterNow k i ∷ todo → ((table_of p).routine i).whole ≡ true → (o m : ℕ) → quiet source a.state ≡ Asks (ask.Call o m) s → is_gone o j ≡ false
    ends k i todo z h o m e = by (is_variable (few.home o)) refl
      where
        entered : IsEntered few j a.state.env.exec o
        entered = law_ended p formed ok few input opts range j w r f on left_behind left_of.fair so.lives t a.state comes fair_there lives_there k i todo z h o m s e

        by : (b : Bool) → is_variable (few.home o) ≡ b → is_gone o j ≡ false
        by true v = entered.there v
        by false v = x.ended a.state k i todo z h o m e entered.own v

    -- a call is of what is not gone
    calls : (o m : ℕ) → quiet source a.state ≡ Asks (ask.Call o m) s → is_gone o j ≡ false
    calls o m e =
        let c = law_asked_at source a.state (ask.Call o m) s e in
        by c.0 c.1 c.2 c.3 ((table_of p).routine c.1).whole refl
      where
        by : (k i : ℕ) (todo : List Todo) → a.state.run.control ≡ EnterNow k i ∷ todo → (b : Bool) → ((table_of p).routine i).whole ≡ b → is_gone o j ≡ false
        by k i todo z true h = ends k i todo z h o m e
        by k i todo z false h = law_called p formed ok few input opts range j w r f on tells.below tells.main so.lasts forgets t a.state comes lasts_there k i todo z h o m s e

    finishes_there : LeadsMeet (Finishes false) source start a.state a.leads
    finishes_there = leads_map All (Finishes false) source (λ v h. h.1.1.1.1.0) a.leads a.meets

    spares_there : LeadsMeet Spares source start a.state a.leads
    spares_there = leads_map All Spares source (λ v h. h.1.1.1.1.1) a.leads a.meets

    -- who raises an event at what is of no task is not its main
    no_main : (o : ℕ) → owner o j ≡ [] → a.state.env.exec ≡ main_of o → ⊥
    no_main o none e =
        let y = run_named source input opts range r f on in
        let rests = run_rests source input opts range r f on in
        let owned = y.world.owned t (known source input opts range rests on y.serials y.world q t d.runs) in
        let names = law_own_names source input opts j w r range f on (run_leaves p formed ok input opts range r f alone_so) (run_spares p formed ok within few all input opts range r f alone_so left_of.fair left_of.homes) in
        let here : is_here (w.tasks t).env.own (held t j) a.state.env.exec.home ≡ true = (names.comes t a.state comes spares_there).at_home in
        let same : o ≡ (w.tasks t).env.own = eqb-true o (w.tasks t).env.own (subst (λ h. is_here (w.tasks t).env.own (held t j) h ≡ true) (ap (λ (m : Exec). m.home) e) here) in
        one_not_none t (owner o j) (ap (λ i. owner i j) same ∙ owned) none

    -- who raises an event made what is its own, and of no task yet: so it builds that, and one of its activations is of it
    foreign : (o : ℕ) (todo : List Todo) → a.state.run.control ≡ RaiseAtNow ∷ todo → NoThis o (a.state.run ∷ a.state.callers) → ((i : ℕ) → (table_of p).tasks i ≡ true → Stands (table_of p) few (Marked (table_of p) a.state.env.exec (a.state.run ∷ a.state.callers)) (Cell (Obj i)) (few.home o) → OfTasks (table_of p) class o) → owner o j ≡ [] → o < object_count j → is_gone o j ≡ false → (i : ℕ) → (table_of p).tasks i ≡ true → Stands (table_of p) few (Marked (table_of p) a.state.env.exec (a.state.run ∷ a.state.callers)) (Cell (Obj i)) (few.home o) → ⊥
    foreign o todo z none tasks free lt there i is m =
        let b = stands_own (table_of p) few a.state.env.exec (Marked (table_of p) a.state.env.exec (a.state.run ∷ a.state.callers)) (stack_own (table_of p) few a.state.env.exec (a.state.run ∷ a.state.callers) lone_there.stack) (Cell (Obj i)) (few.home o) m in
        let near = law_builder_runs source false o a.state.env.exec input opts j w r range f on (run_leaves p formed ok input opts range r f alone_so) (run_spares p formed ok within few all input opts range r f alone_so left_of.fair left_of.homes) finishes_so (under_way p formed ok few tells.nobodys class input opts range r f alone_so on left_of.fair (λ i l. refl) (λ i l. refl) o (pending j o free lt there) a.state.env.exec b (tasks i is m)) t a.state comes finishes_there in
        not_under_way source o a.state.env.exec a.state near none todo z refl

    raises : (o event : ℕ) (y z : ℤ) → quiet source a.state ≡ Asks (ask.Raise o event y z) s → NamesMade opts j (ask.Raise o event y z) → IsLasting j (ask.Raise o event y z)
    raises o event y z e m =
        let c = law_asked_at source a.state (ask.Raise o event y z) s e in
        let there = law_raised p formed ok few input opts range j w r f on tells.below tells.main so.lasts forgets t a.state comes lasts_there a.here.0 o event y z s e in (
          there,
          λ none.
              let g = x.raised a.state o event y z e none m there in
              let zero : o ≡ 0 → ⊥ = λ z. first_owned source input opts r (subst (λ k. owner k j ≡ []) z none) in
              let mine = homes_owned p formed ok few tells.nobodys input opts range r f alone_so on left_of.fair (λ i l. refl) o m there zero in
              not_raised (table_of p) few tells.places a.state known_there o g.unbuilt (foreign o c.0 c.1 g.unbuilt g.tasks none m there) (holds_none p formed ok input opts range j w r f on q t n s asked d a.state a.here.1.1.1.0.1.1 c.0 o c.1 c.2 none m there mine.0 mine.1) (λ i k h. ⊎_elim (λ e. tasks_alone p i e k) (λ e. no_main o none e) (executed p formed ok input opts range j w r f on q t n s asked d a.state.env.exec o i h)) c.0 c.1 c.2,
        )

    last : (q : Request) → quiet source a.state ≡ Asks q s → NamesMade opts j q → IsLasting j q
    last (ask.Call o m) e h = calls o m e
    last (ask.Raise o event y z) e h = raises o event y z e h
    last q e h = tt

  lasts : IsLasting j asked.request
  lasts = by (asks_at All source d.rides all_meet)
    where
      by : (asked.request ≡ ask.Slice) ⊎ AsksAt All source start asked.request s → IsLasting j asked.request
      by (inl e) = subst (IsLasting j) (sym e) tt
      by (inr a) = last a asked.request a.asks (made a)

pub law_lasting_programs : LawLastingPrograms
law_lasting_programs p formed ok within input opts range h =
    law_lasting p formed ok input opts range (λ j w r f on q t n s asked d.
    let x = h j w r f on q t n s asked d in
    let was = was_outlived p input opts (λ j w r f on q t n s asked d. (h j w r f on q t n s asked d).outlived) r f (λ o. home_of (source_of p) input opts j w r o) (λ o l. refl) (λ o. class_of (table_of p) (source_of p) input opts j w r o) (λ o l. refl) in
    let a = apart p formed ok within input opts range j w r f on q t n s asked d x was in
    let m = so p formed ok within input opts range j w r f on q t n s asked d x was in
    let l = law_telling p formed ok input opts j w r (based p input opts r d) in (
      lasts p formed ok within input opts range j w r f on q t n s asked d x was,
      record {
        few = few_of p input opts j w r (based p input opts r d);
        raws = l.raws;
        below = l.below;
        tells = tells_made p input opts j w r (based p input opts r d);
        main = l.main;
        met = run_outside (table_of p) (few_of p input opts j w r (based p input opts r d)) (source_of p) r m.all;
        meets = ride_outside (table_of p) (few_of p input opts j w r (based p input opts r d)) (source_of p) 0 d.rides (met_now p formed ok within input opts range j w r f on q t n s asked d x was);
        was_apart = a.0;
        apart = a.1;
      },
    ))
