-- What is left to show of what a program asks where all is known that its executions can come by: it is of what is called and raised at alone.
use Rattle.std.specs.Prelude.{◌≡◌, ℕ, ◌<◌, true, false, List, []}
use Rattle.uc_tree.specs.Programs.{Program}
use Rattle.uc_entry.specs.declared.entry.Options.{Options}
use Rattle.uc_entry.specs.declared.request.Asked.{Asked}
use Rattle.uc_entry.specs.declared.request.Request.{Request}
use Rattle.uc_entry.specs.declared.request.Request.TheVariants as ask
use Rattle.uc_acts.specs.Journal.{Journal, is_over}
use Rattle.uc_acts.specs.Known.{object_count, is_gone, owner}
use Rattle.uc_acts.specs.Queues.{cluster_count, processor_count}
use Rattle.uc_acts.specs.Serves.{left}
use Rattle.uc_acts.specs.KernelRuns.{InRange}
use Rattle.uc_machine.specs.Quiet.{State}
use Rattle.uc_machine.specs.Answering.{answered}
use Rattle.uc_resolve.specs.Resolve.{source_of}
use Rattle.uc_rules.specs.Breaks.{breaks_of}
use Rattle.uc_sound.specs.SoundFormed.{IsFormed}
use Rattle.uc_sound.specs.Tables.{table_of}
use Rattle.uc_typing.specs.Typing.{Obj, Raw, Clu, Pro}
use Rattle.uc_meaning.specs.Runs.{World, Runs, AsksIn, drawn}
use Rattle.uc_meaning.specs.Cuts.{Reentry}
use Rattle.uc_state_laws.specs.Fitting.{RunFits}
use Rattle.uc_state_laws.specs.Endings.{RideHolds, RunHolds}
use Rattle.uc_state_laws.specs.Opens.{RideMeets, RunMeets}
use Rattle.uc_life_laws.specs.Things.{Few}
use Rattle.uc_life_laws.specs.KnownAnswers.{MainPasses}
use Rattle.uc_life_laws.specs.KnownRuns.{PassesBelow}
use Rattle.uc_life_laws.specs.Endings.{RawsPass, MeetsOutside}
use Rattle.uc_request_laws.specs.ApartRuns.{StepApart}

-- what a task calls is not gone; nor is the object at whose task it raises an event, and that has one
abbrev pub IsLasting : Journal → Request → Type 0
IsLasting j (ask.Call o m) = is_gone o j ≡ false
IsLasting j (ask.Raise o event x y) = (is_gone o j ≡ false) × (owner o j ≡ [] → ⊥)
IsLasting j r = Unit {0}

-- what passes a test of numbers has been made
pub record TellsMade (few : Few) (opts : Options) (j : Journal) : Type 0 where
  pub objects : (c n : ℕ) → few.numbers (Obj c) n ≡ true → n < object_count j
  pub raws : (c n : ℕ) → few.numbers (Raw c) n ≡ true → n < object_count j
  pub clusters : (n : ℕ) → few.numbers Clu n ≡ true → n < cluster_count j
  pub processors : (n : ℕ) → few.numbers Pro n ≡ true → n < processor_count opts j

-- by some homes, some bases and a test of numbers that those pass which have been made: each step so far, and each on the way to what is asked,
-- found what it was to find, but where a clean-up finds and reads the variable that it ends, and nobody else had at hand what was let go of
pub record LetsGoApart (p : Program) (input : List ℕ) (opts : Options) (j : Journal) (w : World) (r : Runs (source_of p) input opts j w) (q t n : ℕ) (s : State) (asked : Asked) (d : AsksIn (source_of p) opts j w q t n s asked) : Type 0 where
  pub few : Few
  pub raws : RawsPass few
  pub below : PassesBelow few opts j
  pub tells : TellsMade few opts j
  pub main : MainPasses (table_of p) few ((table_of p).routine (source_of p).main).this 0
  pub met : RunHolds (MeetsOutside (table_of p) few) (source_of p) input opts j w r
  pub meets : RideHolds (MeetsOutside (table_of p) few) (source_of p) 0 (answered (source_of p) d.given (drawn j w t)) (left opts j t) s n asked d.rides
  pub was_apart : RunMeets (StepApart (table_of p) few (source_of p)) (source_of p) input opts j w r
  pub apart : RideMeets (StepApart (table_of p) few (source_of p)) (source_of p) (answered (source_of p) d.given (drawn j w t)) (left opts j t) s n asked d.rides

-- so it is of what a task of the program asks, by some few, as long as all that was asked before fits
abbrev pub AsksLasting : Program → List ℕ → Options → Type 0
AsksLasting p input opts =
    (j : Journal) (w : World) (r : Runs (source_of p) input opts j w) → RunFits (source_of p) input opts j w r →
    is_over j ≡ false → (q t n : ℕ) (s : State) (asked : Asked) →
    (d : AsksIn (source_of p) opts j w q t n s asked) →
    IsLasting j asked.request × LetsGoApart p input opts j w r q t n s asked d

-- then all that a program which breaks no rule asks fits
abbrev pub LawLasting : Type 0
LawLasting =
    (p : Program) → IsFormed p → breaks_of p ≡ [] → (input : List ℕ) (opts : Options) → InRange opts →
    AsksLasting p input opts → Reentry (source_of p) input opts
