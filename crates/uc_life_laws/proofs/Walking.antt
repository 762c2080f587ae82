-- What follows from a premise at each state of a run that follows from it at one to which whoever runs comes.
use Rattle.std.proofs.Common.{◌≡◌, ℕ, false, List, []}
use Rattle.uc_tree.specs.Source.{Source}
use Rattle.uc_entry.specs.declared.entry.Options.{Options}
use Rattle.uc_entry.specs.declared.request.Asked.{Asked}
use Rattle.uc_acts.specs.Journal.{Journal, is_over}
use Rattle.uc_acts.specs.Serves.{left}
use Rattle.uc_acts.specs.KernelRuns.{InRange}
use Rattle.uc_machine.specs.Quiet.{State, Goes, Ticks, quiet}
use Rattle.uc_machine.specs.Answering.{answered}
use Rattle.uc_machine.specs.Rides as rides
use Rattle.uc_machine.specs.Rides.{Rides}
use Rattle.uc_meaning.specs.Runs.{World, Runs, AsksIn, drawn, gives, no_room, acts, begun, more}
use Rattle.uc_state_laws.specs.Fitting.{RunFits}
use Rattle.uc_state_laws.specs.RoomRuns as runs
use Rattle.uc_state_laws.specs.RoomRuns.{Leads, Comes}
use Rattle.uc_state_laws.specs.Endings.{still_reading, RideHolds, RunHolds, LeadsHold}
use Rattle.uc_life_laws.specs.NamedRuns.{ComesNamed, AllNamed}
use Rattle.uc_life_laws.proofs.NamedLemmas.{law_named_runs}
use Rattle.uc_life_laws.specs.FoundRuns.{AllIsFound}
use Rattle.uc_life_laws.proofs.FoundReads.{SetsUpNew, sets_up}

module _ (P Q : ℕ → State → Type 0) (source : Source) (gives_at : (n : ℕ) (s : State) → SetsUpNew source s → P n s → Q n s) where
  -- from a state on, of which each to which it leads sets up what is new
  module _ (start : State) (new : (s : State) → Leads source start s → SetsUpNew source s) where
    goes_on : {s u v : State} → Leads source s u → quiet source u ≡ Goes v → Leads source s v
    goes_on runs.stays q = runs.goes q runs.stays
    goes_on (runs.goes e l) q = runs.goes e (goes_on l q)
    goes_on (runs.ticks e l) q = runs.ticks e (goes_on l q)

    ticks_on : {s u v : State} → Leads source s u → quiet source u ≡ Ticks v → Leads source s v
    ticks_on runs.stays q = runs.ticks q runs.stays
    ticks_on (runs.goes e l) q = runs.goes e (ticks_on l q)
    ticks_on (runs.ticks e l) q = runs.ticks e (ticks_on l q)

    ride_found : (n : ℕ) {s u : State} {q k : ℕ} {a : Asked} (l : Leads source start s) (r : Rides source s q u k a) → RideHolds P source n s q u k a r → RideHolds Q source n s q u k a r
    ride_found n l rides.slices h = tt
    ride_found n l (rides.goes_on {s} e r) h = (gives_at n s (new s l) h.0, ride_found (still_reading n s.run.control) (goes_on l e) r h.1)
    ride_found n l (rides.ticks {s} e r) h = (gives_at n s (new s l) h.0, ride_found (still_reading n s.run.control) (ticks_on l e) r h.1)
    ride_found n l (rides.asks {s} e) h = gives_at n s (new s l) h

    lead_found : (n : ℕ) {s u : State} (l : Leads source start s) (r : Leads source s u) → LeadsHold P source n s u r → LeadsHold Q source n s u r
    lead_found n l runs.stays h = tt
    lead_found n l (runs.goes {s} e r) h = (gives_at n s (new s l) h.0, lead_found (still_reading n s.run.control) (goes_on l e) r h.1)
    lead_found n l (runs.ticks {s} e r) h = (gives_at n s (new s l) h.0, lead_found (still_reading n s.run.control) (ticks_on l e) r h.1)

  module _ (input : List ℕ) (opts : Options) (range : InRange opts) where
    comes_new : {j : Journal} {w : World} (r : Runs source input opts j w) → RunFits source input opts j w r → is_over j ≡ false → (t : ℕ) (s : State) → Comes source j w t s → SetsUpNew source s
    comes_new {j} {w} r fits on t s c =
        let all : AllNamed source input opts j w r = law_named_runs source input opts j w r range fits on in
        sets_up source j w all.serials t s c (all.comes t s c)

    run_found : {j : Journal} {w : World} (r : Runs source input opts j w) → RunFits source input opts j w r → RunHolds P source input opts j w r → RunHolds Q source input opts j w r
    run_found begun fits h = tt
    run_found (more r on (gives q t s le)) fits h = (run_found r fits.0 h.0, tt)
    run_found (more r on (no_room q t s le)) fits h = (run_found r fits.0 h.0, tt)
    run_found (more {j} {w} r on (acts q t n s asked d)) fits h =
        (run_found r fits.0 h.0, ride_found (answered source d.given (drawn j w t)) (λ u l. comes_new r fits.0 on t u (record { given = d.given; processor = q; runs = d.runs; told = d.told; leads = l })) 0 runs.stays d.rides h.1)

    pub all_found : (j : Journal) (w : World) (r : Runs source input opts j w) → RunFits source input opts j w r → is_over j ≡ false → RunHolds P source input opts j w r → AllIsFound P Q source input opts j w r
    all_found j w r fits on h = record {
      runs = run_found r fits h;
      leads = λ t s c l. lead_found (answered source c.given (drawn j w t)) (λ u l. comes_new r fits on t u (record { given = c.given; processor = c.processor; runs = c.runs; told = c.told; leads = l })) 0 runs.stays c.leads l;
      rides = λ q t n s asked d o. ride_found (answered source d.given (drawn j w t)) (λ u l. comes_new r fits on t u (record { given = d.given; processor = q; runs = d.runs; told = d.told; leads = l })) 0 runs.stays d.rides o;
    }
