-- Runs in which each activation is told of its object.
use Rattle.std.specs.Prelude.{◌≡◌, ℕ, false, List}
use Rattle.uc_tree.specs.Source.{Source}
use Rattle.uc_entry.specs.declared.entry.Options.{Options}
use Rattle.uc_acts.specs.Journal.{Journal, is_over}
use Rattle.uc_machine.specs.declared.exec.Home.TheVariants.{Object}
use Rattle.uc_machine.specs.Quiet.{State}
use Rattle.uc_machine.specs.Answering.{answered}
use Rattle.uc_meaning.specs.Runs.{World, Runs, drawn}
use Rattle.uc_state_laws.specs.RoomRuns.{Comes}
use Rattle.uc_state_laws.specs.Opens.{RunMeets, LeadsMeet}
use Rattle.uc_typing.specs.Typing.{Table}
use Rattle.uc_life_laws.specs.Things.{Few}
use Rattle.uc_life_laws.specs.Silent.{AllSilent}
use Rattle.uc_making_laws.specs.ForgetsThis.{RunGoes}
use Rattle.uc_making_laws.specs.LettingGo.{LetsMembers, LetsState, FindsTold}

module _ (t : Table) (few : Few) where
  -- all tasks of a world, and what is at home in objects
  pub record LetsWorld (x : World) : Type 0 where
    pub tasks : (u : ℕ) → LetsState t few (x.tasks u)
    pub homes : (q : ℕ) → LetsMembers t few (Object q) (x.homes q)

  -- in a run, so it is at rest, in each state of its rides, and in each to which whoever runs comes before it asks; and behind each act by which an object
  -- goes the task that acts only comes to the end of its activation
  pub record KeepsTold (source : Source) (input : List ℕ) (opts : Options) (j : Journal) (w : World) (r : Runs source input opts j w) : Type 0 where
    pub world : is_over j ≡ false → LetsWorld w
    pub rides : RunMeets (LetsState t few) source input opts j w r
    pub comes : is_over j ≡ false → (n : ℕ) (s : State) (c : Comes source j w n s) →
        LeadsMeet (FindsTold t few source) source (answered source c.given (drawn j w n)) s c.leads → LetsState t few s
    pub gone : RunGoes (λ j a x u o. AllSilent (x.tasks u).run.control) source input opts r

-- so it is in each run in which steps find what they are to find, of whatever source
abbrev pub LawLettingRuns : Type 0
LawLettingRuns =
    (t : Table) (few : Few) (source : Source) (input : List ℕ) (opts : Options) (j : Journal) (w : World)
    (r : Runs source input opts j w) → RunMeets (FindsTold t few source) source input opts j w r →
    KeepsTold t few source input opts j w r
