-- What is left to show of a request, by what its task has in hand, so that it fits.
use Rattle.std.specs.Prelude.{◌≡◌, ℕ, ◌<◌, ◌≤◌, ◌^◌, true, false, List, [], length}
use Rattle.uc_tree.specs.Programs.{Site}
use Rattle.uc_tree.specs.Source.{Source}
use Rattle.uc_tree.specs.declared.limits.TheConstants.{MEMBERS, EVENTS}
use Rattle.uc_entry.specs.declared.entry.Options.{Options}
use Rattle.uc_entry.specs.declared.request.Asked.{Asked}
use Rattle.uc_entry.specs.declared.request.Request.{Request}
use Rattle.uc_entry.specs.declared.request.Request.TheVariants as ask
use Rattle.uc_acts.specs.Journal.{Journal, own_object, is_over}
use Rattle.uc_acts.specs.Queues.{cluster_count, processor_count}
use Rattle.uc_acts.specs.Known.{has, owner}
use Rattle.uc_acts.specs.Doors.{site_at}
use Rattle.uc_acts.specs.KernelRuns.{InRange, IsMade}
use Rattle.uc_machine.specs.Quiet.{State}
use Rattle.uc_meaning.specs.Runs.{World, Runs, AsksIn}
use Rattle.uc_meaning.specs.Cuts.{Reentry}
use Rattle.uc_step_laws.specs.Hands.{keys}
use Rattle.uc_state_laws.specs.Fitting.{RunFits}

-- object o is in hand
abbrev pub IsInHand : List ℕ → ℕ → Type 0
IsInHand hand o = has hand o ≡ true

-- of a task t with these objects in hand
abbrev pub FitsByHand : Options → List Site → Journal → ℕ → List ℕ → Request → Type 0
FitsByHand opts sites j t hand (ask.Made o) = IsInHand hand o
FitsByHand opts sites j t hand (ask.Spawn o) = IsInHand hand o × (owner o j ≡ [])
FitsByHand opts sites j t hand (ask.Call o m) = (has hand o ≡ false) × IsMade o j × (m ≤ MEMBERS)
FitsByHand opts sites j t hand (ask.Leave o failed) = IsInHand hand o
FitsByHand opts sites j t hand (ask.Accept o site mask) =
    IsInHand hand o × (site < length sites) × (mask < 2 ^ length (site_at sites site).clauses)
FitsByHand opts sites j t hand (ask.Wait o c n) = IsInHand hand o
FitsByHand opts sites j t hand (ask.Signal o c) = IsInHand hand o
FitsByHand opts sites j t hand (ask.SignalBlock o c) = IsInHand hand o
FitsByHand opts sites j t hand (ask.Empty o c) = IsInHand hand o
FitsByHand opts sites j t hand (ask.Front o c) = IsInHand hand o
FitsByHand opts sites j t hand (ask.Raise o event x y) = IsMade o j × (length (owner o j) ≡ 1) ×
    (event < EVENTS)
FitsByHand opts sites j t hand (ask.ClusterEnd c) = c < cluster_count j
FitsByHand opts sites j t hand (ask.Processor c) = c < cluster_count j
FitsByHand opts sites j t hand (ask.ProcessorEnd q) = q < processor_count opts j
FitsByHand opts sites j t hand (ask.Migrate c) = c < cluster_count j
FitsByHand opts sites j t hand ask.End = IsInHand hand (own_object t j)
FitsByHand opts sites j t hand (ask.Gone o) = IsInHand hand o
FitsByHand opts sites j t hand r = Unit {0}

-- so it is of what a task of the program asks, as long as all that was asked before fits
abbrev pub AsksByHand : Source → List ℕ → Options → Type 0
AsksByHand source input opts =
    (j : Journal) (w : World) (r : Runs source input opts j w) → RunFits source input opts j w r →
    is_over j ≡ false → (p t n : ℕ) (s : State) (asked : Asked) →
    AsksIn source opts j w p t n s asked →
    FitsByHand opts source.sites j t (keys s.env.hand) asked.request

-- then all that it asks fits
abbrev pub LawByHand : Type 0
LawByHand =
    (source : Source) (input : List ℕ) (opts : Options) → InRange opts →
    AsksByHand source input opts → Reentry source input opts
