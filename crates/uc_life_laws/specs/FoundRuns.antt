-- Runs of programs of which it is asked only what no state tells of what is read: each step finds what uc_life_laws asks of it.
use Rattle.std.specs.Prelude.{◌≡◌, ℕ, Bool, false, List, []}
use Rattle.uc_tree.specs.Programs.{Program}
use Rattle.uc_tree.specs.Source.{Source}
use Rattle.uc_entry.specs.declared.entry.Options.{Options}
use Rattle.uc_entry.specs.declared.request.Asked.{Asked}
use Rattle.uc_acts.specs.Journal.{Journal, is_over}
use Rattle.uc_acts.specs.Serves.{left}
use Rattle.uc_acts.specs.KernelRuns.{InRange}
use Rattle.uc_machine.specs.Quiet.{State}
use Rattle.uc_machine.specs.Answering.{answered}
use Rattle.uc_meaning.specs.Runs.{World, Runs, AsksIn, drawn}
use Rattle.uc_state_laws.specs.Fitting.{RunFits}
use Rattle.uc_resolve.specs.Resolve.{source_of}
use Rattle.uc_rules.specs.Breaks.{breaks_of}
use Rattle.uc_state_laws.specs.RoomRuns.{Comes}
use Rattle.uc_state_laws.specs.Endings.{RideHolds, RunHolds, LeadsHold}
use Rattle.uc_typing.specs.Typing.{Ty}
use Rattle.uc_sound.specs.SoundFormed.{IsFormed}
use Rattle.uc_sound.specs.Tables.{table_of}
use Rattle.uc_life_laws.specs.Things.{numbered}
use Rattle.uc_life_laws.specs.KnownRuns.{made_by, NamesMade}
use Rattle.uc_life_laws.specs.Endings.{MeetsOutside, ObjectsOutside}
use Rattle.uc_life_laws.specs.FoundReads.{FoundOutside, ObjectsFoundOutside}

-- a step finds what it is to find: in the rides of each act so far, on the way of whoever runs to each state, and to each request
pub record AllIsFound (P : ℕ → State → Type 0) (Q : ℕ → State → Type 0) (source : Source) (input : List ℕ) (opts : Options) (j : Journal) (w : World) (r : Runs source input opts j w) : Type 0 where
  pub runs : RunHolds Q source input opts j w r
  pub leads : (n : ℕ) (s : State) (c : Comes source j w n s) →
      LeadsHold P source 0 (answered source c.given (drawn j w n)) s c.leads →
      LeadsHold Q source 0 (answered source c.given (drawn j w n)) s c.leads
  pub rides : (q n k : ℕ) (s : State) (asked : Asked) (d : AsksIn source opts j w q n k s asked) →
      RideHolds P source 0 (answered source d.given (drawn j w n)) (left opts j n) s k asked d.rides →
      RideHolds Q source 0 (answered source d.given (drawn j w n)) (left opts j n) s k asked d.rides

-- in each run of a program that breaks no rule, as long as all that was asked so far fits
abbrev pub LawFound : Type 0
LawFound =
    (p : Program) → IsFormed p → breaks_of p ≡ [] → (numbers : Ty → ℕ → Bool) →
    (input : List ℕ) (opts : Options) → InRange opts →
    (j : Journal) (w : World) (r : Runs (source_of p) input opts j w) →
    RunFits (source_of p) input opts j w r → is_over j ≡ false →
    RunHolds (FoundOutside (table_of p) numbers) (source_of p) input opts j w r →
    AllIsFound (FoundOutside (table_of p) numbers) (MeetsOutside (table_of p) (numbered numbers)) (source_of p) input opts j w r

-- so it is where of scopes only those of plain objects are asked
abbrev pub LawFoundObjects : Type 0
LawFoundObjects =
    (p : Program) → IsFormed p → breaks_of p ≡ [] → (input : List ℕ) (opts : Options) → InRange opts →
    (j : Journal) (w : World) (r : Runs (source_of p) input opts j w) →
    RunFits (source_of p) input opts j w r → is_over j ≡ false →
    RunHolds (ObjectsFoundOutside (table_of p) (source_of p)) (source_of p) input opts j w r →
    AllIsFound (ObjectsFoundOutside (table_of p) (source_of p)) (ObjectsOutside (table_of p) (source_of p)) (source_of p) input opts j w r

-- so each object, each cluster and each processor was made that is named in a request
abbrev pub LawNamesMade : Type 0
LawNamesMade =
    (p : Program) → IsFormed p → breaks_of p ≡ [] → (input : List ℕ) (opts : Options) → InRange opts →
    (j : Journal) (w : World) (r : Runs (source_of p) input opts j w) →
    RunFits (source_of p) input opts j w r → is_over j ≡ false →
    RunHolds (FoundOutside (table_of p) (made_by opts j)) (source_of p) input opts j w r →
    (q t n : ℕ) (s : State) (asked : Asked) (d : AsksIn (source_of p) opts j w q t n s asked) →
    RideHolds (FoundOutside (table_of p) (made_by opts j)) (source_of p) 0 (answered (source_of p) d.given (drawn j w t)) (left opts j t) s n asked d.rides →
    NamesMade opts j asked.request
