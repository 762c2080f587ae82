-- What uc_state_laws asks of steps that bind holds in programs within their limits, so that a step finds all that it is to find.
use Rattle.std.proofs.Common.{ℕ, zero, suc, List}
use Rattle.uc_tree.specs.Source.{Source}
use Rattle.uc_entry.specs.declared.entry.Options.{Options}
use Rattle.uc_entry.specs.declared.request.Asked.{Asked}
use Rattle.uc_acts.specs.Journal.{Journal}
use Rattle.uc_machine.specs.Pieces.{State}
use Rattle.uc_machine.specs.Answering.{answered}
use Rattle.uc_machine.specs.Rides as rides
use Rattle.uc_machine.specs.Rides.{Rides}
use Rattle.uc_meaning.specs.Runs.{World, Runs, gives, no_room, acts, begun, more, drawn}
use Rattle.uc_resolve.specs.Resolve.{source_of}
use Rattle.uc_state_laws.specs.RoomRuns as runs
use Rattle.uc_state_laws.specs.RoomRuns.{Leads, Comes}
use Rattle.uc_state_laws.specs.Endings.{still_reading, RideHolds, RunHolds, LeadsHold}
use Rattle.uc_state_laws.specs.Opens.{Opens, RideMeets, RunMeets, LeadsMeet}
use Rattle.uc_place_laws.proofs.OpenRuns.{law_opens}
use Rattle.uc_typing.specs.Typing.{Table}
use Rattle.uc_sound.specs.Tables.{table_of}
use Rattle.uc_life_laws.specs.OpenedRuns.{MeetsObjects, IsFollowed}
use Rattle.uc_life_laws.specs.Endings.{ObjectsOutside, ObjectsAreMet}
use Rattle.uc_life_laws.proofs.Endings.{law_endings}
use Rattle.uc_life_laws.proofs.OpenedRuns.{law_opened_runs}
use Rattle.uc_opened_runs.specs.OpenedRuns.{FindsObjects, FindsOutside, LawOpened}

module _ (t : Table) (source : Source) where
  meets : (s : State) → Opens source s → FindsObjects t s → MeetsObjects t source s
  meets s o f = record { opens = o; finds = f }

  outside : (n : ℕ) (s : State) → Opens source s → FindsOutside t n s → ObjectsOutside t source n s
  outside zero s o f = meets s o f
  outside (suc n) s o f = tt

  ride_holds : (n : ℕ) {s u : State} {q k : ℕ} {a : Asked} (d : Rides source s q u k a) → RideMeets (Opens source) source s q u k a d → RideHolds (FindsOutside t) source n s q u k a d → RideHolds (ObjectsOutside t source) source n s q u k a d
  ride_holds n rides.slices o f = tt
  ride_holds n (rides.goes_on {s} e r) o f = (outside n s o.0 f.0, ride_holds (still_reading n s.run.control) r o.1 f.1)
  ride_holds n (rides.ticks {s} e r) o f = (outside n s o.0 f.0, ride_holds (still_reading n s.run.control) r o.1 f.1)
  ride_holds n (rides.asks {s} e) o f = outside n s o f

  lead_holds : (n : ℕ) {s u : State} (l : Leads source s u) → LeadsMeet (Opens source) source s u l → LeadsHold (FindsOutside t) source n s u l → LeadsHold (ObjectsOutside t source) source n s u l
  lead_holds n runs.stays o f = tt
  lead_holds n (runs.goes {s} e l) o f = (outside n s o.0 f.0, lead_holds (still_reading n s.run.control) l o.1 f.1)
  lead_holds n (runs.ticks {s} e l) o f = (outside n s o.0 f.0, lead_holds (still_reading n s.run.control) l o.1 f.1)

  run_holds : (input : List ℕ) (opts : Options) {j : Journal} {w : World} (r : Runs source input opts j w) → RunMeets (Opens source) source input opts j w r → RunHolds (FindsOutside t) source input opts j w r → RunHolds (ObjectsOutside t source) source input opts j w r
  run_holds input opts begun o f = tt
  run_holds input opts (more r on (gives p n s le)) o f = (run_holds input opts r o.0 f.0, tt)
  run_holds input opts (more r on (no_room p n s le)) o f = (run_holds input opts r o.0 f.0, tt)
  run_holds input opts (more r on (acts p n k s asked d)) o f = (run_holds input opts r o.0 f.0, ride_holds 0 d.rides o.1 f.1)

pub law_opened : LawOpened
law_opened p formed accepted within input opts range j w r fits on finds = record {
  comes = λ n s c l. followed.comes n s c (leads n s c l);
  lives = λ n s c l. followed.lives n s c (leads n s c l);
  reads = λ n s c l f. followed.reads n s c (leads n s c l) (meets (table_of p) (source_of p) s (law_opens.comes p formed accepted within input opts range j w r fits on n s c) f);
}
  where
    met : ObjectsAreMet (table_of p) (source_of p) input opts j w r
    met = law_endings.objects p formed accepted input opts range j w r fits on (run_holds (table_of p) (source_of p) input opts r (law_opens.runs p formed accepted within input opts range j w r fits) finds)

    followed : IsFollowed (table_of p) (source_of p) j w
    followed = law_opened_runs p formed accepted input opts range j w r fits on met.runs

    leads : (n : ℕ) (s : State) (c : Comes (source_of p) j w n s) → LeadsHold (FindsOutside (table_of p)) (source_of p) 0 (answered (source_of p) c.given (drawn j w n)) s c.leads → LeadsMeet (MeetsObjects (table_of p) (source_of p)) (source_of p) (answered (source_of p) c.given (drawn j w n)) s c.leads
    leads n s c l = met.leads n s c (lead_holds (table_of p) (source_of p) 0 c.leads (law_opens.leads p formed accepted within input opts range j w r fits on n s c) l)
