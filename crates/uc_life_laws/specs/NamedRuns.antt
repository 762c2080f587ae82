-- Runs of programs: each name that is there is of an execution that was made, and each execution that is made has a name of its own.
use Rattle.std.specs.Prelude.{◌≡◌, ℕ, ◌<◌, ◌≤◌, Bool, false, List, [], Some, nat_eq}
use Rattle.uc_tree.specs.Source.{Source}
use Rattle.uc_entry.specs.declared.entry.Options.{Options}
use Rattle.uc_acts.specs.Journal.{Journal, held, is_over}
use Rattle.uc_acts.specs.Known.{has, object_count, task_count}
use Rattle.uc_acts.specs.KernelRuns.{InRange}
use Rattle.uc_machine.specs.declared.exec.Exec.{Exec}
use Rattle.uc_machine.specs.declared.exec.Home.{Home}
use Rattle.uc_machine.specs.declared.exec.Home.TheVariants.{Task, Object}
use Rattle.uc_machine.specs.Quiet.{State, Members}
use Rattle.uc_machine.specs.Answering.{answered}
use Rattle.uc_meaning.specs.Runs.{World, Runs, drawn}
use Rattle.uc_state_laws.specs.Fitting.{RunFits}
use Rattle.uc_state_laws.specs.RoomRuns.{Comes}
use Rattle.uc_state_laws.specs.Opens.{RunMeets, LeadsMeet}
use Rattle.uc_name_laws.specs.Below.{IsBelow, MembersNamed, StateNamed}
use Rattle.uc_name_laws.specs.NameSteps.{IsBorn, BornBelow}

-- the homes of a task with this own object, and of these objects in its hand
abbrev pub is_here : ℕ → List ℕ → Home → Bool
is_here own hand (Task a) = nat_eq a own
is_here own hand (Object o) = has hand o

-- whoever runs, in a state to which it comes before it asks: homes may have made more executions by now, among them all that were made on
-- the way; what is made next is none that is there, and none of those that were made before
pub record ComesNamed (source : Source) (j : Journal) (w : World) (before : Home → ℕ) (t : ℕ) (s : State) (c : Comes source j w t s) : Type 0 where
  pub now : Home → ℕ
  pub more : (h : Home) → before h ≤ now h
  pub names : StateNamed now (is_here (w.tasks t).env.own (held t j)) s
  pub born : LeadsMeet (BornBelow source now) source (answered source c.given (drawn j w t)) s c.leads
  pub new : (n : Exec) → IsBorn source s n → IsBelow now n → ⊥

-- so many executions were made at each home in a run: as many as the home tells as long as it is there, all that were made in the run, and
-- none at an object that is not made. All names in tasks, in objects and in the states to which whoever runs comes are of executions that
-- were made
pub record AllNamed (source : Source) (input : List ℕ) (opts : Options) (j : Journal) (w : World) (r : Runs source input opts j w) : Type 0 where
  pub serials : Home → ℕ
  pub tasks : (t : ℕ) → t < task_count j →
      StateNamed serials (is_here (w.tasks t).env.own []) (w.tasks t)
  pub homes : (o : ℕ) (m : Members) → w.homes o ≡ Some m → MembersNamed serials (Object o) m
  pub unmade : (o : ℕ) → object_count j ≤ o → serials (Object o) ≡ 0
  pub born : RunMeets (BornBelow source serials) source input opts j w r
  pub comes : (t : ℕ) (s : State) (c : Comes source j w t s) → ComesNamed source j w serials t s c

-- so it is in each run in which all that was asked so far fits, of whatever source
abbrev pub LawNamedRuns : Type 0
LawNamedRuns =
    (source : Source) (input : List ℕ) (opts : Options) (j : Journal) (w : World)
    (r : Runs source input opts j w) → InRange opts → RunFits source input opts j w r →
    is_over j ≡ false → AllNamed source input opts j w r
