-- What is left to show of what a program asks, so that it fits: it is of hands, of who owns an object, of clusters and of processors alone.
use Rattle.std.specs.Prelude.{◌≡◌, ℕ, ◌<◌, false, List, [], length}
use Rattle.uc_tree.specs.Programs.{Program}
use Rattle.uc_tree.specs.Source.{Source}
use Rattle.uc_entry.specs.declared.entry.Options.{Options}
use Rattle.uc_entry.specs.declared.request.Asked.{Asked}
use Rattle.uc_entry.specs.declared.request.Request.{Request}
use Rattle.uc_entry.specs.declared.request.Request.TheVariants as ask
use Rattle.uc_acts.specs.Journal.{Journal, own_object, is_over}
use Rattle.uc_acts.specs.Queues.{cluster_count, processor_count}
use Rattle.uc_acts.specs.Known.{owner}
use Rattle.uc_acts.specs.KernelRuns.{InRange, IsMade}
use Rattle.uc_machine.specs.Quiet.{State}
use Rattle.uc_resolve.specs.Resolve.{source_of}
use Rattle.uc_rules.specs.Breaks.{breaks_of}
use Rattle.uc_sound.specs.SoundFormed.{IsFormed}
use Rattle.uc_meaning.specs.Runs.{World, Runs, AsksIn}
use Rattle.uc_meaning.specs.Cuts.{Reentry}
use Rattle.uc_step_laws.specs.Hands.{keys}
use Rattle.uc_sound.specs.WellTyped.{IsTextOf}
use Rattle.uc_state_laws.specs.Fitting.{RunFits}
use Rattle.uc_state_laws.specs.ByHand.{IsInHand}

-- of a task t with these objects in hand: it has in hand of what it asks something, or else calls what is made, and the tasks, clusters
-- and processors that it names are there (what it calls is not in hand, in every run)
abbrev pub HoldsByHand : Options → Journal → ℕ → List ℕ → Request → Type 0
HoldsByHand opts j t hand (ask.Made o) = IsInHand hand o
HoldsByHand opts j t hand (ask.Spawn o) = IsInHand hand o × (owner o j ≡ [])
HoldsByHand opts j t hand (ask.Call o m) = IsMade o j
HoldsByHand opts j t hand (ask.Leave o failed) = IsInHand hand o
HoldsByHand opts j t hand (ask.Accept o site mask) = IsInHand hand o
HoldsByHand opts j t hand (ask.Wait o c n) = IsInHand hand o
HoldsByHand opts j t hand (ask.Signal o c) = IsInHand hand o
HoldsByHand opts j t hand (ask.SignalBlock o c) = IsInHand hand o
HoldsByHand opts j t hand (ask.Empty o c) = IsInHand hand o
HoldsByHand opts j t hand (ask.Front o c) = IsInHand hand o
HoldsByHand opts j t hand (ask.Raise o event x y) = IsMade o j × (length (owner o j) ≡ 1)
HoldsByHand opts j t hand (ask.ClusterEnd c) = c < cluster_count j
HoldsByHand opts j t hand (ask.Processor c) = c < cluster_count j
HoldsByHand opts j t hand (ask.ProcessorEnd q) = q < processor_count opts j
HoldsByHand opts j t hand (ask.Migrate c) = c < cluster_count j
HoldsByHand opts j t hand ask.End = IsInHand hand (own_object t j)
HoldsByHand opts j t hand (ask.Gone o) = IsInHand hand o
HoldsByHand opts j t hand r = Unit {0}

-- so it is of what a task of the program asks, as long as all that was asked before fits
abbrev pub AsksHolding : Source → List ℕ → Options → Type 0
AsksHolding source input opts =
    (j : Journal) (w : World) (r : Runs source input opts j w) → RunFits source input opts j w r →
    is_over j ≡ false → (p t n : ℕ) (s : State) (asked : Asked) →
    AsksIn source opts j w p t n s asked → HoldsByHand opts j t (keys s.env.hand) asked.request

-- then all that a program which breaks no rule asks fits
abbrev pub LawHolds : Type 0
LawHolds =
    (p : Program) → IsFormed p → breaks_of p ≡ [] → (input : List ℕ) (opts : Options) → InRange opts →
    AsksHolding (source_of p) input opts → Reentry (source_of p) input opts

-- so does the program of every accepted text
abbrev pub LawTexts : Type 0
LawTexts =
    (text : List ℕ) (p : Program) → IsTextOf text p → (input : List ℕ) (opts : Options) →
    InRange opts → AsksHolding (source_of p) input opts → Reentry (source_of p) input opts
