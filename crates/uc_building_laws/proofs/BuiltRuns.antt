-- In programs within their limits what binds leaves what it is to leave; so all is known where objects hold what is known.
use Rattle.std.proofs.Common.{ℕ, List}
use Rattle.uc_tree.specs.Source.{Source}
use Rattle.uc_entry.specs.declared.entry.Options.{Options}
use Rattle.uc_entry.specs.declared.request.Asked.{Asked}
use Rattle.uc_acts.specs.Journal.{Journal}
use Rattle.uc_machine.specs.Pieces.{State}
use Rattle.uc_machine.specs.Answering.{answered}
use Rattle.uc_machine.specs.Rides as rides
use Rattle.uc_machine.specs.Rides.{Rides}
use Rattle.uc_meaning.specs.Runs.{World, Runs, gives, no_room, acts, begun, more, drawn}
use Rattle.uc_resolve.specs.Resolve.{source_of}
use Rattle.uc_state_laws.specs.RoomRuns as runs
use Rattle.uc_state_laws.specs.RoomRuns.{Leads, Comes}
use Rattle.uc_state_laws.specs.Opens.{Opens, RideMeets, RunMeets, LeadsMeet}
use Rattle.uc_place_laws.proofs.OpenRuns.{law_opens}
use Rattle.uc_sound.specs.Tables.{table_of}
use Rattle.uc_life_laws.specs.OpenedRuns.{MeetsObjects, IsFollowed}
use Rattle.uc_life_laws.proofs.OpenedRuns.{law_opened_runs}
use Rattle.uc_building_laws.specs.Building.{heads_of}
use Rattle.uc_building_laws.specs.BuildingRuns.{MeetsBuilding}
use Rattle.uc_building_laws.specs.BuiltRuns.{FindsBuilding, LawBuiltRuns}
use Rattle.uc_building_laws.proofs.Worlds.{law_built}

-- what holds where another thing does holds where that is met
module _ (P Q : State → Type 0) (source : Source) where
  ride_by : {s u : State} {q k : ℕ} {a : Asked} (d : Rides source s q u k a) → RideMeets P source s q u k a d → RideMeets (λ v. P v → Q v) source s q u k a d → RideMeets Q source s q u k a d
  ride_by rides.slices h f = tt
  ride_by (rides.goes_on {s} e r) h f = (f.0 h.0, ride_by r h.1 f.1)
  ride_by (rides.ticks {s} e r) h f = (f.0 h.0, ride_by r h.1 f.1)
  ride_by (rides.asks {s} e) h f = f h

  lead_by : {s u : State} (l : Leads source s u) → LeadsMeet P source s u l → LeadsMeet (λ v. P v → Q v) source s u l → LeadsMeet Q source s u l
  lead_by runs.stays h f = tt
  lead_by (runs.goes {s} e l) h f = (f.0 h.0, lead_by l h.1 f.1)
  lead_by (runs.ticks {s} e l) h f = (f.0 h.0, lead_by l h.1 f.1)

  run_by : (input : List ℕ) (opts : Options) {j : Journal} {w : World} (r : Runs source input opts j w) → RunMeets P source input opts j w r → RunMeets (λ v. P v → Q v) source input opts j w r → RunMeets Q source input opts j w r
  run_by input opts begun h f = tt
  run_by input opts (more r on (gives p n s le)) h f = (run_by input opts r h.0 f.0, tt)
  run_by input opts (more r on (no_room p n s le)) h f = (run_by input opts r h.0 f.0, tt)
  run_by input opts (more r on (acts p n k s asked d)) h f = (run_by input opts r h.0 f.0, ride_by d.rides h.1 f.1)

pub law_built_runs : LawBuiltRuns
law_built_runs p formed accepted within input opts range j w r fits on finds = record {
  comes = λ n s c l. followed.comes n s c (objects n s c l);
  lives = λ n s c l. followed.lives n s c (objects n s c l);
  reads = λ n s c l f. followed.reads n s c (objects n s c l) (law_built.here p formed accepted within input opts range j w r fits on meets n s c (leads n s c l) (f (law_opens.comes p formed accepted within input opts range j w r fits on n s c)));
}
  where
    meets : RunMeets (MeetsBuilding (table_of p) (heads_of p) (source_of p)) (source_of p) input opts j w r
    meets = run_by (Opens (source_of p)) (MeetsBuilding (table_of p) (heads_of p) (source_of p)) (source_of p) input opts r (law_opens.runs p formed accepted within input opts range j w r fits) finds

    followed : IsFollowed (table_of p) (source_of p) j w
    followed = law_opened_runs p formed accepted input opts range j w r fits on (law_built.runs p formed accepted within input opts range j w r fits meets)

    leads : (n : ℕ) (s : State) (c : Comes (source_of p) j w n s) → LeadsMeet (FindsBuilding (table_of p) (heads_of p) (source_of p)) (source_of p) (answered (source_of p) c.given (drawn j w n)) s c.leads → LeadsMeet (MeetsBuilding (table_of p) (heads_of p) (source_of p)) (source_of p) (answered (source_of p) c.given (drawn j w n)) s c.leads
    leads n s c l = lead_by (Opens (source_of p)) (MeetsBuilding (table_of p) (heads_of p) (source_of p)) (source_of p) c.leads (law_opens.leads p formed accepted within input opts range j w r fits on n s c) l

    objects : (n : ℕ) (s : State) (c : Comes (source_of p) j w n s) → LeadsMeet (FindsBuilding (table_of p) (heads_of p) (source_of p)) (source_of p) (answered (source_of p) c.given (drawn j w n)) s c.leads → LeadsMeet (MeetsObjects (table_of p) (source_of p)) (source_of p) (answered (source_of p) c.given (drawn j w n)) s c.leads
    objects n s c l = law_built.leads p formed accepted within input opts range j w r fits on meets n s c (leads n s c l)
