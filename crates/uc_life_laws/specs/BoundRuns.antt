-- Runs in which who binds a made object binds it where it is at home.
use Rattle.std.specs.Prelude.{◌≡◌, ℕ, false, List}
use Rattle.uc_tree.specs.Source.{Source}
use Rattle.uc_entry.specs.declared.entry.Options.{Options}
use Rattle.uc_acts.specs.Journal.{Journal, is_over}
use Rattle.uc_acts.specs.Known.{object_count}
use Rattle.uc_acts.specs.KernelRuns.{InRange}
use Rattle.uc_machine.specs.Pieces.{State}
use Rattle.uc_machine.specs.Answering.{answered}
use Rattle.uc_meaning.specs.Runs.{World, Runs, drawn}
use Rattle.uc_state_laws.specs.Fitting.{RunFits}
use Rattle.uc_state_laws.specs.RoomRuns.{Comes}
use Rattle.uc_state_laws.specs.Opens.{RunMeets, LeadsMeet}
use Rattle.uc_life_laws.specs.MadeObjects.{Binds}
use Rattle.uc_life_laws.specs.Homes.{home_of}

-- with the homes that a run tells in the end: in each state of each act of it, and of whoever runs in each state to which it comes before it asks,
-- and on the way to that; in each run in which all that was asked so far fits, of whatever source
pub record LawBinds : Type 0 where
  pub runs : (source : Source) (input : List ℕ) (opts : Options) (j : Journal) (w : World)
      (r : Runs source input opts j w) → InRange opts → RunFits source input opts j w r →
      RunMeets (Binds source (home_of source input opts j w r) (object_count j)) source input opts j w r
  pub leads : (source : Source) (input : List ℕ) (opts : Options) (j : Journal) (w : World)
      (r : Runs source input opts j w) → InRange opts → RunFits source input opts j w r →
      is_over j ≡ false → (t : ℕ) (s : State) (c : Comes source j w t s) →
      LeadsMeet (Binds source (home_of source input opts j w r) (object_count j)) source (answered source c.given (drawn j w t)) s c.leads ×
      Binds source (home_of source input opts j w r) (object_count j) s
