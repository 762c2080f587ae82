-- Runs of a program in which all that was asked fits.
use Rattle.std.specs.Prelude.{◌≡◌, ℕ, ◌<◌, List}
use Rattle.uc_tree.specs.Source.{Source}
use Rattle.uc_tree.specs.Programs.{Site}
use Rattle.uc_entry.specs.declared.entry.Entry.{Entry}
use Rattle.uc_entry.specs.declared.entry.Options.{Options}
use Rattle.uc_entry.specs.declared.request.Request.TheVariants as ask
use Rattle.uc_acts.specs.Journal.{Journal}
use Rattle.uc_acts.specs.Serves.{left}
use Rattle.uc_acts.specs.KernelRuns.{Fits, KernelMay, KernelRuns, gives as gives_in, no_room as none_in, acts as acts_in, begun as begun_in, more as more_in}
use Rattle.uc_meaning.specs.Runs.{World, May, Runs, gives, no_room, acts, begun, more}

-- what an act asks fits
abbrev pub MayFit : (source : Source) (opts : Options) (input : List ℕ) (j : Journal) (w : World) (a : List Entry) (x : World) →
    May source opts input j w a x → Type 0
MayFit source opts input j w _ _ (gives p t s h) = Unit {0}
MayFit source opts input j w _ _ (no_room p t s h) = Unit {0}
MayFit source opts input j w _ _ (acts p t n s asked d) = Fits opts source.sites j t asked.request

-- so does what each act of a run asks
abbrev pub RunFits : (source : Source) (input : List ℕ) (opts : Options) (j : Journal) (w : World) →
    Runs source input opts j w → Type 0
RunFits source input opts _ _ begun = Unit {0}
RunFits source input opts _ _ (more {j} {w} {a} {w' = x} r o m) = RunFits source input opts j w r ×
    MayFit source opts input j w a x m

-- an act of a kernel comes before the last tick that its task has left, or asks for another slice
abbrev pub MayEarly : (opts : Options) (sites : List Site) (input : List ℕ) (j : Journal) (a : List Entry) →
    KernelMay opts sites input j a → Type 0
MayEarly opts sites input j _ (gives_in p t s h) = Unit {0}
MayEarly opts sites input j _ (none_in p t s h) = Unit {0}
MayEarly opts sites input j _ (acts_in p t k asked m) = (asked.request ≡ ask.Slice → ⊥) → k < left opts j t

-- so does each act of a run of a kernel
abbrev pub RunEarly : (opts : Options) (sites : List Site) (input : List ℕ) (j : Journal) →
    KernelRuns opts sites input j → Type 0
RunEarly opts sites input _ begun_in = Unit {0}
RunEarly opts sites input _ (more_in {j} {a} r o m) = RunEarly opts sites input j r ×
    MayEarly opts sites input j a m
