-- What holds at the states of a run by the journal of their time, but where a clean-up finds and reads the variable that it ends.
use Rattle.std.specs.Prelude.{ℕ, List}
use Rattle.uc_tree.specs.Source.{Source}
use Rattle.uc_entry.specs.declared.entry.Options.{Options}
use Rattle.uc_acts.specs.Journal.{Journal}
use Rattle.uc_machine.specs.Quiet.{State}
use Rattle.uc_meaning.specs.Runs.{World, Runs, begun, more}
use Rattle.uc_state_laws.specs.Endings.{MayHold}

-- what holds at the states of each act of a run, by the journal before that, each with how many are left with it in which a clean-up finds and reads
-- the variable that it ends
abbrev pub RunHoldsAt : (Journal → ℕ → State → Type 0) → (source : Source) (input : List ℕ) (opts : Options) (j : Journal) (w : World) →
    Runs source input opts j w → Type 0
RunHoldsAt P source input opts _ _ begun = Unit {0}
RunHoldsAt P source input opts _ _ (more {j} {w} {a} {w' = x} r o m) = RunHoldsAt P source input opts j w r ×
    MayHold (P j) source opts input j w a x m
