-- All that a judge keeps of the journal that it makes.
use Rattle.std.specs.Prelude.{◌≡◌, ◌<◌, ◌^◌, ℕ, Bool, true, false, List, ◌++◌, length}
use Rattle.std.specs.List.{All}
use Rattle.uc_tree.specs.Programs.{Site}
use Rattle.uc_entry.specs.declared.entry.Entry.{Entry}
use Rattle.uc_entry.specs.declared.entry.EntryKind.{EntryKind}
use Rattle.uc_entry.specs.declared.entry.EntryKind.TheVariants as kind
use Rattle.uc_entry.specs.declared.request.Asked.{Asked}
use Rattle.uc_entry.specs.declared.request.Request.{Request}
use Rattle.uc_entry.specs.Faults.{fault_number}
use Rattle.uc_entry.specs.declared.fault.RunFault.TheVariants as run_fault
use Rattle.uc_acts.specs.Journal.{Journal, no_cost}
use Rattle.uc_acts.specs.Acts.{fault, settled, row}
use Rattle.uc_explain.specs.Seen.{AreViewsOf}
use Rattle.uc_judge.specs.declared.actor.Actor.{Actor}
use Rattle.uc_judge.specs.declared.ledger.Ledger.{Ledger}
use Rattle.uc_judge.specs.Actors.{cost_of}
use Rattle.uc_judge.specs.Scheduled.{IsSchedule}
use Rattle.uc_judge.specs.Counted.{AreCounts}
use Rattle.uc_judge.specs.Tasked.{AreTasks}
use Rattle.uc_judge.specs.Opened.{AreAccepts}
use Rattle.uc_judge.specs.PendingEvents.{ArePending}
use Rattle.uc_judge.specs.ClauseStacks.{AreStacks}
use Rattle.uc_judge.specs.ProcessorRows.{AreProcessors}
use Rattle.uc_judge.specs.Narrow.{IsTold}

-- what is kept is of a journal of a program with these accept statements
pub record IsKept (s : Ledger) (sites : List Site) (j : Journal) : Type 0 where
  pub told : All IsTold j
  pub few : s.opts.processors < 2 ^ 32
  pub views : AreViewsOf s.views j
  pub schedule : IsSchedule s.schedule j
  pub counts : length j < 2 ^ 32 → AreCounts s.counts s.opts j
  pub tasks : AreTasks s.tasks s.opts j
  pub accepts : AreAccepts s.accepts j
  pub pending : ArePending s.pending j
  pub stacks : AreStacks s.stacks sites j
  pub processors : AreProcessors s.processors s.opts j

-- it is of the journal that is kept
abbrev pub IsLedger : Ledger → List Site → Type 0
IsLedger s sites = IsKept s sites s.entries.items

-- these entries are added
pub record Adds (old new : Ledger) (sites : List Site) (a : List Entry) : Type 0 where
  pub entries : new.entries.items ≡ old.entries.items ++ a
  pub opts : new.opts ≡ old.opts
  pub ledger : IsLedger new sites

-- the fault in place of an entry that destroys what is in use, but for what that entry carries
abbrev pub busy_fault : Actor → Entry
busy_fault a = fault a.processor a.task no_cost (fault_number run_fault.DestroyBusy) a.line

-- these entries of an act are added, up to the first that destroys what is in use
abbrev pub Settles : Ledger → Ledger → List Site → Actor → List Entry → Type 0
Settles old new sites a es = Adds old new sites (settled (busy_fault a) old.entries.items es)

-- what is added where a task asks this
abbrev pub Takes : Ledger → Ledger → List Site → List ℕ → Actor → Request → Type 0
Takes old new sites input a r =
    Settles old new sites a (row old.opts sites input old.entries.items a.processor a.task (cost_of a) a.line r)

-- an entry that destroys nothing, and tells neither a clause nor an event
abbrev pub is_safe : EntryKind → Bool
is_safe kind.Admit = false
is_safe kind.Gone = false
is_safe kind.Poll = false
is_safe _ = true

-- what a task asks in its line
abbrev pub asked_of : Actor → Request → Asked
asked_of a r = record { request = r; line = a.line }
