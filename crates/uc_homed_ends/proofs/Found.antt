-- In every run in which all is known all is found that marks ask: what is read before a mutex object ends is at home there.
use Rattle.std.proofs.Common.{◌≡◌, ℕ, false, List, [], ◌∷◌, Option, refl, ◌∙◌}
use Rattle.uc_tree.specs.Programs.{Program}
use Rattle.uc_tree.specs.Source.{Source}
use Rattle.uc_entry.specs.declared.entry.Options.{Options}
use Rattle.uc_entry.specs.declared.request.Asked.{Asked}
use Rattle.uc_acts.specs.Journal.{Journal, is_over}
use Rattle.uc_acts.specs.Known.{object_count}
use Rattle.uc_acts.specs.KernelRuns.{InRange}
use Rattle.uc_acts.specs.Serves.{left}
use Rattle.uc_machine.specs.Pieces as piece
use Rattle.uc_machine.specs.Pieces.{Todo, State}
use Rattle.uc_machine.specs.Answering.{answered}
use Rattle.uc_machine.specs.Rides as rides
use Rattle.uc_machine.specs.Rides.{Rides}
use Rattle.uc_meaning.specs.Runs.{World, Runs, AsksIn, drawn}
use Rattle.uc_resolve.specs.Resolve.{source_of}
use Rattle.uc_rules.specs.Breaks.{breaks_of}
use Rattle.uc_sound.specs.SoundFormed.{IsFormed}
use Rattle.uc_sound.specs.Tables.{table_of}
use Rattle.uc_state_laws.specs.Fitting.{RunFits}
use Rattle.uc_state_laws.specs.Layout.{Sized}
use Rattle.uc_state_laws.specs.Limits.{IsWithinLimits}
use Rattle.uc_state_laws.specs.Opens.{RideMeets, RunMeets, LeadsMeet}
use Rattle.uc_state_laws.specs.RoomRuns as rooms
use Rattle.uc_state_laws.specs.RoomRuns.{Leads, Comes}
use Rattle.uc_typing.specs.Typing.{Table}
use Rattle.uc_life_laws.specs.Things.{Few}
use Rattle.uc_life_laws.specs.Homes.{home_of}
use Rattle.uc_life_laws.specs.HomedStates.{Opens}
use Rattle.uc_life_laws.specs.MadeObjects.{Binds, BindsAt}
use Rattle.uc_life_laws.proofs.Homes.{law_binds}
use Rattle.uc_putting_laws.specs.PuttingLaws.{setting_of, Fair}
use Rattle.uc_cell_laws.specs.CellStates.{CellFinds}
use Rattle.uc_cell_laws.specs.Classes.{class_of}
use Rattle.uc_cell_laws.specs.OwnCells.{telling_of}
use Rattle.uc_cell_laws.proofs.OwnCells.{law_cells}
use Rattle.uc_homed_ends.specs.BoundLaws.{OpensSet, OpensWhole}
use Rattle.uc_homed_ends.specs.Elements.{no_fields, OpensElements}
use Rattle.uc_homed_ends.specs.HomesLeft.{KnowsReads, Told}
use Rattle.uc_homed_ends.specs.Found.{LawFound}
use Rattle.uc_homed_ends.proofs.BoundRuns.{rides_meet, ride_zip, run_zip, opens, law_set, law_opens_all}
use Rattle.uc_homed_ends.proofs.Elements.{opens_whole}
use Rattle.uc_homed_ends.proofs.ArrayRuns.{law_arrays}
use Rattle.uc_homed_ends.specs.EndWays.{NowState}
use Rattle.uc_homed_ends.proofs.EndCodes.{free_of}
use Rattle.uc_homed_ends.proofs.EndReads.{reading_of}
use Rattle.uc_homed_ends.proofs.EndRuns.{run_ways, comes_way}
use Rattle.uc_homed_ends.proofs.SitedSources.{law_sited}
use Rattle.uc_homed_ends.proofs.CellHomes.{CellHere, finds_here, home_read}
use Rattle.uc_homed_ends.proofs.HomesLeft.{rest_here}
use Rattle.uc_homed_ends.proofs.EndHomes.{Now, ways_of, way_at, fair_here, run_with, ride_with}

-- what holds in each state that is reached so holds in each state of a ride
module _ (P Q : State → Type 0) where
  pub rides_led : {source : Source} {s u : State} {q k : ℕ} {a : Asked} (d : Rides source s q u k a) → RideMeets P source s q u k a d → ((v : State) (l : Leads source s v) → LeadsMeet P source s v l → Q v) → RideMeets Q source s q u k a d
  rides_led rides.slices m f = tt
  rides_led (rides.goes_on {s} {t} e r) m f = (f s rooms.stays tt, rides_led r m.1 (λ v l h. f v (rooms.goes e l) (m.0, h)))
  rides_led (rides.ticks {s} {t} e r) m f = (f s rooms.stays tt, rides_led r m.1 (λ v l h. f v (rooms.ticks e l) (m.0, h)))
  rides_led (rides.asks {s} {t} e) m f = f s rooms.stays tt

module _ (p : Program) (formed : IsFormed p) (accepted : breaks_of p ≡ []) (within : IsWithinLimits p) (few : Few) (input : List ℕ) (opts : Options) (range : InRange opts) where
  abbrev tb : Table
  tb = table_of p

  abbrev source : Source
  source = source_of p

  abbrev Here : State → Type 0
  Here s = Now p formed accepted no_fields few input opts range s

  abbrev Known : State → Type 0
  Known s = KnowsReads tb few s

  abbrev Fairly : State → Type 0
  Fairly s = Fair (setting_of p few) s

  abbrev Opening : State → Type 0
  Opening s = Opens tb no_fields few s

  -- what is told of a whole run

  module _ {j : Journal} {w : World} (r : Runs source input opts j w) (fits : RunFits source input opts j w r) (same : (o : ℕ) → few.home o ≡ home_of source input opts j w r o) where
    abbrev Bound : State → Type 0
    Bound s = Binds source (home_of source input opts j w r) (object_count j) s

    abbrev All : State → Type 0
    All s = Told p few (object_count j) s

    telling : (s : State) → Bound s → Opening s → All s
    telling s b o = (by s.run.control b, o)
      where
        by : (l : List Todo) → BindsAt source (home_of source input opts j w r) (object_count j) l s → BindsAt source few.home (object_count j) l s
        by (piece.BindMadeNow c q ∷ todo) h = record { number = h.number; made = h.made; object = h.object; home = same h.number ∙ h.home }
        by [] h = tt
        by (z ∷ todo) h = tt

    run_opens : RunMeets Opening source input opts j w r
    run_opens =
        law_opens_all.runs p formed accepted within no_fields few input opts range j w r fits same (run_with (OpensElements tb few) (OpensWhole tb no_fields few) (opens_whole tb few) r (law_arrays.runs p formed accepted within few input opts range j w r fits same))

    run_told : RunMeets All source input opts j w r
    run_told = run_zip Bound Opening All telling r (law_binds.runs source input opts j w r range fits) run_opens

    module _ (on : is_over j ≡ false) (q t n : ℕ) (s : State) (asked : Asked) (d : AsksIn source opts j w q t n s asked) where
      abbrev Along : (State → Type 0) → Type 0
      Along P = RideMeets P source (answered source d.given (drawn j w t)) (left opts j t) s n asked d.rides

      abbrev comes : (v : State) → Leads source (answered source d.given (drawn j w t)) v → Comes source j w t v
      comes v l = record { given = d.given; processor = q; runs = d.runs; told = d.told; leads = l }

      ride_told : Along All
      ride_told =
          let elements : Along (OpensElements tb few) = rides_meet (OpensElements tb few) d.rides (λ v l. (law_arrays.leads p formed accepted within few input opts range j w r fits same on t v (comes v l)).0) in
          let whole : Along (OpensWhole tb no_fields few) = ride_with (OpensElements tb few) (OpensWhole tb no_fields few) (opens_whole tb few) d.rides elements in
          let set : Along (OpensSet few) = rides_meet (OpensSet few) d.rides (λ v l. (law_set.leads p formed accepted within few input opts range j w r fits same on t v (comes v l)).0) in
          let opened : Along Opening = ride_zip (OpensSet few) (OpensWhole tb no_fields few) Opening (λ v h f. opens tb no_fields few v h f) d.rides set whole in
          let bound : Along Bound = rides_meet Bound d.rides (λ v l. (law_binds.leads source input opts j w r range fits on t v (comes v l)).1) in
          ride_zip Bound Opening All telling d.rides bound opened

  -- what follows where it is told, of any run

  module _ (many : ℕ) where
    abbrev Tells : State → Type 0
    Tells s = Told p few many s

    abbrev Facts : State → Type 0
    Facts s = Tells s × Known s

    opening : (s : State) → Tells s → Opening s
    opening s h = h.1

    module _ {j : Journal} {w : World} (r : Runs source input opts j w) (fits : RunFits source input opts j w r) (told : RunMeets Tells source input opts j w r) (known : RunMeets Known source input opts j w r) where
      -- the classes of objects are those that the run tells
      abbrev class : ℕ → Option ℕ
      class o = class_of tb source input opts j w r o

      abbrev Cells : State → Type 0
      Cells s = CellHere p formed accepted few class s

      abbrev CellWays : State → Type 0
      CellWays s = NowState tb Cells s

      abbrev Finding : State → Type 0
      Finding s = CellFinds (telling_of p few class) s

      -- who is on the way, in which own cells hold what is at home
      abbrev Ways : State → Type 0
      Ways s = Here s × CellWays s

      found_here : (s : State) → Ways s → Facts s → Fairly s
      found_here s h f =
          fair_here p no_fields few few.home many (λ o. refl) s h.0 f.0.0 (rest_here (setting_of p few) no_fields (Sized p) s h.0 (λ todo c e o q. home_read p formed accepted few class within s (reading_of tb Cells s todo c e h.1.run) o q) f.1)

      finds : (s : State) → Facts s → Finding s
      finds s f = finds_here p formed accepted few class s f.1.0 many f.0.0

      run_facts : RunMeets Facts source input opts j w r
      run_facts = run_zip Tells Known Facts (λ s x y. (x, y)) r told known

      run_finds : RunMeets Finding source input opts j w r
      run_finds = run_with Facts Finding finds r run_facts

      run_cells : RunMeets Cells source input opts j w r
      run_cells = law_cells.runs p formed accepted within few input opts range j w r fits (law_sited p formed accepted few class false) run_finds

      was_open : RunMeets Opening source input opts j w r
      was_open = run_with Tells Opening opening r told

      found_run : RunMeets Fairly source input opts j w r
      found_run =
          let here : RunMeets Here source input opts j w r = ways_of p formed accepted no_fields few input opts range r fits was_open in
          let cells : RunMeets CellWays source input opts j w r = run_ways tb Cells source (free_of p formed accepted) input opts range r fits run_cells in
          run_zip Ways Facts Fairly found_here r (run_zip Here CellWays Ways (λ s a b. (a, b)) r here cells) run_facts

      module _ (on : is_over j ≡ false) (q t n : ℕ) (s : State) (asked : Asked) (d : AsksIn source opts j w q t n s asked) where
        abbrev Rides_with : (State → Type 0) → Type 0
        Rides_with P = RideMeets P source (answered source d.given (drawn j w t)) (left opts j t) s n asked d.rides

        abbrev comes_to : (v : State) → Leads source (answered source d.given (drawn j w t)) v → Comes source j w t v
        comes_to v l = record { given = d.given; processor = q; runs = d.runs; told = d.told; leads = l }

        found_ride : Rides_with Tells → Rides_with Known → Rides_with Fairly
        found_ride tells knows =
            let facts : Rides_with Facts = ride_zip Tells Known Facts (λ v a b. (a, b)) d.rides tells knows in
            let open_now : Rides_with Opening = ride_with Tells Opening opening d.rides tells in
            let here : Rides_with Here = rides_led Opening Here d.rides open_now (λ v l h. way_at p formed accepted no_fields few input opts range r fits was_open on t v (comes_to v l) h) in
            let finding : Rides_with Finding = ride_with Facts Finding finds d.rides facts in
            let cells : Rides_with Cells = rides_led Finding Cells d.rides finding (λ v l h. (law_cells.leads p formed accepted within few input opts range j w r fits (law_sited p formed accepted few class false) run_finds on t v (comes_to v l) h).0) in
            let cell_ways : Rides_with CellWays = rides_led Cells CellWays d.rides cells (λ v l h. comes_way tb Cells source (free_of p formed accepted) input opts range r fits run_cells on t v (comes_to v l) h) in
            ride_zip Ways Facts Fairly found_here d.rides (ride_zip Here CellWays Ways (λ v a b. (a, b)) d.rides here cell_ways) facts

pub law_found : LawFound
law_found = record {
  told = λ p formed accepted within few input opts range j w r fits same. run_told p formed accepted within few input opts range r fits same;
  told_next = λ p formed accepted within few input opts range j w r fits same on q t n s asked d.
      ride_told p formed accepted within few input opts range r fits same on q t n s asked d;
  runs = λ p formed accepted within few many input opts range j w r fits told known.
      found_run p formed accepted within few input opts range many r fits told known;
  rides = λ p formed accepted within few many input opts range j w r fits told known on q t n s asked d tells knows.
      found_ride p formed accepted within few input opts range many r fits told known on q t n s asked d tells knows;
}
