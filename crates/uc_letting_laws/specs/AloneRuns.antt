-- Runs in whose rides nothing else is owed to an object that is let go of however deep its task is, nor to one that is entered again to be destroyed.
use Rattle.std.specs.Prelude.{ℕ, suc, List}
use Rattle.uc_tree.specs.Source.{Source}
use Rattle.uc_entry.specs.declared.entry.Entry.{Entry}
use Rattle.uc_entry.specs.declared.entry.Options.{Options}
use Rattle.uc_entry.specs.declared.request.Asked.{Asked}
use Rattle.uc_acts.specs.Journal.{Journal}
use Rattle.uc_machine.specs.Quiet.{State}
use Rattle.uc_machine.specs.Rides.{Rides, slices, goes_on, ticks, asks}
use Rattle.uc_meaning.specs.Runs.{World, May, Runs, gives, no_room, acts, begun, more}
use Rattle.uc_depth_laws.specs.Owing.{Alone}

-- so it is at each step of a ride
abbrev pub RideAlone : (source : Source) (s : State) (q : ℕ) (u : State) (k : ℕ) (a : Asked) → Rides source s q u k a → Type 0
RideAlone source _ _ _ _ _ slices = Unit {0}
RideAlone source _ _ _ _ _ (goes_on {s} {t} {u} {q} {k} {a} e r) = Alone source s × RideAlone source t (suc q) u k a r
RideAlone source _ _ _ _ _ (ticks {s} {t} {u} {q} {k} {a} e r) = Alone source s × RideAlone source t q u k a r
RideAlone source _ _ _ _ _ (asks {s} {t} {q} {r} e) = Alone source s

-- and in each ride of a run
abbrev pub MayAlone : (source : Source) (opts : Options) (input : List ℕ) (j : Journal) (w : World) (a : List Entry) (x : World) → May source opts input j w a x → Type 0
MayAlone source opts input j w _ _ (gives p t s h) = Unit {0}
MayAlone source opts input j w _ _ (no_room p t s h) = Unit {0}
MayAlone source opts input j w _ _ (acts p t n s asked d) = RideAlone source _ _ s n asked d.rides

abbrev pub RunAlone : (source : Source) (input : List ℕ) (opts : Options) (j : Journal) (w : World) → Runs source input opts j w → Type 0
RunAlone source input opts _ _ begun = Unit {0}
RunAlone source input opts _ _ (more {j} {w} {a} {w' = x} r o m) = RunAlone source input opts j w r × MayAlone source opts input j w a x m
