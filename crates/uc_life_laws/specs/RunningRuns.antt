-- Runs of programs in which the running execution of each task is there, at home in the task or in an object in its hand, without what it has to
-- do, and no other execution in hand is so.
use Rattle.std.specs.Prelude.{◌≡◌, ℕ, ◌<◌, true, false, List}
use Rattle.uc_tree.specs.Source.{Source}
use Rattle.uc_entry.specs.declared.entry.Entry.{Entry}
use Rattle.uc_entry.specs.declared.entry.Options.{Options}
use Rattle.uc_entry.specs.declared.request.Request.{Request}
use Rattle.uc_entry.specs.declared.request.Request.TheVariants as ask
use Rattle.uc_acts.specs.Journal.{Journal, own_object, is_over}
use Rattle.uc_acts.specs.Known.{task_count}
use Rattle.uc_acts.specs.KernelRuns.{InRange}
use Rattle.uc_machine.specs.declared.exec.Home.TheVariants.{Object}
use Rattle.uc_machine.specs.Executions.{home_eq}
use Rattle.uc_machine.specs.Quiet.{State, Env}
use Rattle.uc_machine.specs.Answering.{answered}
use Rattle.uc_meaning.specs.Runs.{World, May, Runs, gives, no_room, acts, begun, more, drawn}
use Rattle.uc_state_laws.specs.Fitting.{RunFits}
use Rattle.uc_state_laws.specs.RoomRuns.{Comes}
use Rattle.uc_state_laws.specs.Opens.{RunMeets, LeadsMeet}
use Rattle.uc_name_laws.specs.Below.{RunsAlone}
use Rattle.uc_name_laws.specs.NameSteps.{Spares}

-- who destroys an object is not at home there, and who ends not in the own object of its task
abbrev pub LeavesHome : ℕ → Request → Env → Type 0
LeavesHome own (ask.Gone o) e = home_eq e.exec.home (Object o) ≡ false
LeavesHome own ask.End e = home_eq e.exec.home (Object own) ≡ false
LeavesHome own r e = Unit {0}

-- so it is of what an act asks
abbrev pub MayLeave : (source : Source) (opts : Options) (input : List ℕ) (j : Journal) (w : World) (a : List Entry) (x : World) →
    May source opts input j w a x → Type 0
MayLeave source opts input j w _ _ (gives p t s h) = Unit {0}
MayLeave source opts input j w _ _ (no_room p t s h) = Unit {0}
MayLeave source opts input j w _ _ (acts p t n s asked d) = LeavesHome (own_object t j) asked.request s.env

-- and of what each act of a run asks
abbrev pub RunLeaves : (source : Source) (input : List ℕ) (opts : Options) (j : Journal) (w : World) →
    Runs source input opts j w → Type 0
RunLeaves source input opts _ _ begun = Unit {0}
RunLeaves source input opts _ _ (more {j} {w} {a} {w' = x} r o m) = RunLeaves source input opts j w r ×
    MayLeave source opts input j w a x m

-- of each task at rest, with what it would have in hand, and of whoever runs in each state to which it comes before it asks
pub record AllRunAlone (source : Source) (j : Journal) (w : World) : Type 0 where
  pub rests : (t : ℕ) → t < task_count j →
      RunsAlone true (w.tasks t).env.exec (drawn j w t).env
  pub comes : (t : ℕ) (s : State) (c : Comes source j w t s) →
      LeadsMeet Spares source (answered source c.given (drawn j w t)) s c.leads →
      RunsAlone true s.env.exec s.env

-- so it is in each run in which all that was asked so far fits, of whatever source, as long as no step forgets the running execution, and nobody
-- leaves its home for good
abbrev pub LawRunningRuns : Type 0
LawRunningRuns =
    (source : Source) (input : List ℕ) (opts : Options) (j : Journal) (w : World)
    (r : Runs source input opts j w) → InRange opts → RunFits source input opts j w r →
    is_over j ≡ false → RunLeaves source input opts j w r → RunMeets Spares source input opts j w r →
    AllRunAlone source j w
