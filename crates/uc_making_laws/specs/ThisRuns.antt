-- Runs in which each activation has its object.
use Rattle.std.specs.Prelude.{◌≡◌, ℕ, false, List}
use Rattle.uc_tree.specs.Source.{Source}
use Rattle.uc_entry.specs.declared.entry.Options.{Options}
use Rattle.uc_acts.specs.Journal.{Journal, is_over}
use Rattle.uc_machine.specs.declared.exec.Home.TheVariants.{Object}
use Rattle.uc_machine.specs.Quiet.{State}
use Rattle.uc_machine.specs.Answering.{answered}
use Rattle.uc_meaning.specs.Runs.{World, Runs, drawn}
use Rattle.uc_state_laws.specs.RoomRuns.{Comes}
use Rattle.uc_state_laws.specs.Opens.{RunMeets, LeadsMeet}
use Rattle.uc_typing.specs.Typing.{Table}
use Rattle.uc_life_laws.specs.Things.{Few}
use Rattle.uc_making_laws.specs.OwnThis.{ThisMembers, ThisState, FindsThis}

module _ (t : Table) (few : Few) where
  -- all tasks of a world, and what is at home in objects
  pub record ThisWorld (x : World) : Type 0 where
    pub tasks : (u : ℕ) → ThisState t few (x.tasks u)
    pub homes : (q : ℕ) → ThisMembers t few (Object q) (x.homes q)

  -- in a run, so it is at rest, in each state of its rides, and in each to which whoever runs comes before it asks
  pub record KeepsThis (source : Source) (input : List ℕ) (opts : Options) (j : Journal) (w : World) (r : Runs source input opts j w) : Type 0 where
    pub world : is_over j ≡ false → ThisWorld w
    pub rides : RunMeets (ThisState t few) source input opts j w r
    pub comes : is_over j ≡ false → (n : ℕ) (s : State) (c : Comes source j w n s) →
        LeadsMeet (FindsThis t few source) source (answered source c.given (drawn j w n)) s c.leads → ThisState t few s

-- so it is in each run in which steps find what they are to find, of whatever source
abbrev pub LawThisRuns : Type 0
LawThisRuns =
    (t : Table) (few : Few) (source : Source) (input : List ℕ) (opts : Options) (j : Journal) (w : World)
    (r : Runs source input opts j w) → RunMeets (FindsThis t few source) source input opts j w r →
    KeepsThis t few source input opts j w r
