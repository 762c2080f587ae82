-- What is left to show of what a program asks where nothing else is owed to what its tasks let go of: it is of what is called and raised
-- at, of the tasks of that, of clusters and of processors.
use Rattle.std.specs.Prelude.{◌≡◌, ℕ, ◌<◌, ◌⊎◌, false, List, []}
use Rattle.uc_tree.specs.Programs.{Program}
use Rattle.uc_entry.specs.declared.entry.Options.{Options}
use Rattle.uc_entry.specs.declared.request.Asked.{Asked}
use Rattle.uc_entry.specs.declared.request.Request.{Request}
use Rattle.uc_entry.specs.declared.request.Request.TheVariants as ask
use Rattle.uc_acts.specs.Journal.{Journal, is_over}
use Rattle.uc_acts.specs.Queues.{cluster_count, processor_count}
use Rattle.uc_acts.specs.Known.{owner}
use Rattle.uc_acts.specs.KernelRuns.{InRange, IsMade}
use Rattle.uc_machine.specs.Quiet.{State}
use Rattle.uc_resolve.specs.Resolve.{source_of}
use Rattle.uc_rules.specs.Breaks.{breaks_of}
use Rattle.uc_sound.specs.SoundFormed.{IsFormed}
use Rattle.uc_meaning.specs.Runs.{World, Runs, AsksIn}
use Rattle.uc_meaning.specs.Cuts.{Reentry}
use Rattle.uc_state_laws.specs.Fitting.{RunFits}
use Rattle.uc_letting_laws.specs.AloneRuns.{RideAlone, RunAlone}
use Rattle.uc_request_laws.specs.Leaving.{LeavesScope}

-- what a task calls is made; so is the object at whose task it raises an event, and that has one; clusters and processors that it names are
-- there
abbrev pub IsRemaining : Options → Journal → Request → Type 0
IsRemaining opts j (ask.Call o m) = IsMade o j
IsRemaining opts j (ask.Raise o event x y) = IsMade o j × (owner o j ≡ [] → ⊥)
IsRemaining opts j (ask.ClusterEnd c) = c < cluster_count j
IsRemaining opts j (ask.Processor c) = c < cluster_count j
IsRemaining opts j (ask.ProcessorEnd q) = q < processor_count opts j
IsRemaining opts j (ask.Migrate c) = c < cluster_count j
IsRemaining opts j r = Unit {0}

-- so it is of what a task of the program asks, unless that is the end of a cluster that is a variable; and nothing else is owed to what is let
-- go of, as long as all that was asked before fits
abbrev pub AsksRemaining : Program → List ℕ → Options → Type 0
AsksRemaining p input opts =
    (j : Journal) (w : World) (r : Runs (source_of p) input opts j w) → RunFits (source_of p) input opts j w r →
    is_over j ≡ false → (q t n : ℕ) (s : State) (asked : Asked) →
    (d : AsksIn (source_of p) opts j w q t n s asked) →
    (IsRemaining opts j asked.request ⊎ LeavesScope p j w t asked.request) ×
    RunAlone (source_of p) input opts j w r × RideAlone (source_of p) _ _ s n asked d.rides

-- then all that a program which breaks no rule asks fits
abbrev pub LawRemaining : Type 0
LawRemaining =
    (p : Program) → IsFormed p → breaks_of p ≡ [] → (input : List ℕ) (opts : Options) → InRange opts →
    AsksRemaining p input opts → Reentry (source_of p) input opts
