-- Runs of programs in which nothing is asked of the states in which a clean-up finds and reads the variable that it ends: what stands there is
-- known, since it is in scope till then.
use Rattle.std.specs.Prelude.{◌≡◌, ℕ, zero, suc, true, false, List, []}
use Rattle.uc_tree.specs.Programs.{Program}
use Rattle.uc_tree.specs.Source.{Source}
use Rattle.uc_entry.specs.declared.entry.Options.{Options}
use Rattle.uc_entry.specs.declared.request.Asked.{Asked}
use Rattle.uc_acts.specs.Journal.{Journal, is_over}
use Rattle.uc_acts.specs.Serves.{left}
use Rattle.uc_acts.specs.KernelRuns.{InRange}
use Rattle.uc_machine.specs.Quiet.{State}
use Rattle.uc_machine.specs.Answering.{answered}
use Rattle.uc_meaning.specs.Runs.{World, Runs, AsksIn, drawn}
use Rattle.uc_state_laws.specs.Fitting.{RunFits}
use Rattle.uc_resolve.specs.Resolve.{source_of}
use Rattle.uc_rules.specs.Breaks.{breaks_of}
use Rattle.uc_state_laws.specs.RoomRuns.{Comes}
use Rattle.uc_state_laws.specs.Opens.{RideMeets, RunMeets, LeadsMeet}
use Rattle.uc_state_laws.specs.Endings.{RideHolds, RunHolds, LeadsHold}
use Rattle.uc_typing.specs.Typing.{Obj, Raw, Table}
use Rattle.uc_sound.specs.SoundFormed.{IsFormed}
use Rattle.uc_sound.specs.Tables.{table_of}
use Rattle.uc_life_laws.specs.KnownAnswers.{MainPasses}
use Rattle.uc_life_laws.specs.KnownRuns.{PassesBelow, Meets}
use Rattle.uc_life_laws.specs.OpenedRuns.{MeetsObjects}
use Rattle.uc_life_laws.specs.Things.{Few}

-- the number of what is whole is one that it may have as it is destroyed
abbrev pub RawsPass : Few → Type 0
RawsPass few = (c o : ℕ) → few.numbers (Obj c) o ≡ true → few.numbers (Raw c) o ≡ true

-- a step finds what it is to find, but in those states
abbrev pub MeetsOutside : Table → Few → ℕ → State → Type 0
MeetsOutside t few zero s = Meets t few s
MeetsOutside t few (suc n) s = Unit {0}

-- it does so in them too: on the way of each act so far, of whoever runs to each state, and to each request
pub record AllIsMet (t : Table) (few : Few) (source : Source) (input : List ℕ) (opts : Options) (j : Journal) (w : World) (r : Runs source input opts j w) : Type 0 where
  pub runs : RunMeets (Meets t few) source input opts j w r
  pub leads : (n : ℕ) (s : State) (c : Comes source j w n s) →
      LeadsHold (MeetsOutside t few) source 0 (answered source c.given (drawn j w n)) s c.leads →
      LeadsMeet (Meets t few) source (answered source c.given (drawn j w n)) s c.leads
  pub rides : (q n k : ℕ) (s : State) (asked : Asked) (d : AsksIn source opts j w q n k s asked) →
      RideHolds (MeetsOutside t few) source 0 (answered source d.given (drawn j w n)) (left opts j n) s k asked d.rides →
      RideMeets (Meets t few) source (answered source d.given (drawn j w n)) (left opts j n) s k asked d.rides

-- so it is where numbers are not tested and scopes are asked of plain objects alone
abbrev pub ObjectsOutside : Table → Source → ℕ → State → Type 0
ObjectsOutside t source zero s = MeetsObjects t source s
ObjectsOutside t source (suc n) s = Unit {0}

pub record ObjectsAreMet (t : Table) (source : Source) (input : List ℕ) (opts : Options) (j : Journal) (w : World) (r : Runs source input opts j w) : Type 0 where
  pub runs : RunMeets (MeetsObjects t source) source input opts j w r
  pub leads : (n : ℕ) (s : State) (c : Comes source j w n s) →
      LeadsHold (ObjectsOutside t source) source 0 (answered source c.given (drawn j w n)) s c.leads →
      LeadsMeet (MeetsObjects t source) source (answered source c.given (drawn j w n)) s c.leads

-- so it is in each run of a program that breaks no rule, as long as all that was asked so far fits
pub record LawEndings : Type 0 where
  pub tested : (p : Program) → IsFormed p → breaks_of p ≡ [] → (few : Few) → RawsPass few →
      (input : List ℕ) (opts : Options) → InRange opts →
      (j : Journal) (w : World) (r : Runs (source_of p) input opts j w) →
      RunFits (source_of p) input opts j w r → is_over j ≡ false → PassesBelow few opts j →
      MainPasses (table_of p) few ((table_of p).routine (source_of p).main).this 0 →
      RunHolds (MeetsOutside (table_of p) few) (source_of p) input opts j w r →
      AllIsMet (table_of p) few (source_of p) input opts j w r
  pub objects : (p : Program) → IsFormed p → breaks_of p ≡ [] →
      (input : List ℕ) (opts : Options) → InRange opts →
      (j : Journal) (w : World) (r : Runs (source_of p) input opts j w) →
      RunFits (source_of p) input opts j w r → is_over j ≡ false →
      RunHolds (ObjectsOutside (table_of p) (source_of p)) (source_of p) input opts j w r →
      ObjectsAreMet (table_of p) (source_of p) input opts j w r
