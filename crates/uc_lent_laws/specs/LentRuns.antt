-- Runs in which the cells of mutex objects hold what was told of it as it was bound there.
use Rattle.std.specs.Prelude.{◌≡◌, ℕ, Bool, true, List}
use Rattle.uc_tree.specs.Source.{Source}
use Rattle.uc_entry.specs.declared.entry.Options.{Options}
use Rattle.uc_acts.specs.Journal.{Journal}
use Rattle.uc_machine.specs.Pieces.{Value, State}
use Rattle.uc_machine.specs.Answering.{answered}
use Rattle.uc_meaning.specs.Runs.{World, Runs, drawn}
use Rattle.uc_state_laws.specs.RoomRuns.{Comes}
use Rattle.uc_state_laws.specs.Opens.{RunMeets, LeadsMeet}
use Rattle.uc_lent_laws.specs.LentStates.{MembersTold, StateTold, Binds}

-- what a test tells
abbrev pub Tells : (ℕ → ℕ → Value → Bool) → ℕ → ℕ → Value → Type 0
Tells test o k v = test o k v ≡ true

-- of any run of any source, and whatever is told, as long as each step binds what may be there: what is at home in objects is told, and so it is in each state to
-- which whoever runs comes before it asks
pub record LawLent : Type 0 where
  pub homes : (test : ℕ → ℕ → Value → Bool) (source : Source) (input : List ℕ) (opts : Options) (j : Journal) (w : World)
      (r : Runs source input opts j w) → RunMeets (Binds (Tells test) source) source input opts j w r →
      (o : ℕ) → MembersTold (Tells test) o (w.homes o)
  pub comes : (test : ℕ → ℕ → Value → Bool) (source : Source) (input : List ℕ) (opts : Options) (j : Journal) (w : World)
      (r : Runs source input opts j w) → RunMeets (Binds (Tells test) source) source input opts j w r →
      (t : ℕ) (s : State) (c : Comes source j w t s) →
      LeadsMeet (Binds (Tells test) source) source (answered source c.given (drawn j w t)) s c.leads → StateTold (Tells test) s
