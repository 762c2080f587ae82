-- A run of a program on several processors.
use Rattle.std.specs.Prelude.{ℕ, List}
use Rattle.uc_tree.specs.Source.{Source}
use Rattle.uc_entry.specs.declared.entry.Entry.{Entry}
use Rattle.uc_entry.specs.declared.entry.Options.{Options}
use Rattle.uc_acts.specs.Journal.{Journal}
use Rattle.uc_meaning.specs.Runs.{IsRun}
use Rattle.uc_kernel.specs.Calls.{EndsRun}

-- a complete run of the source on this input under these options, with the entry that ends it
pub record IsRunOf (source : Source) (input : List ℕ) (opts : Options) (journal : Journal) : Type 0 where
  pub run : IsRun source input opts journal
  pub last : Entry
  pub ended : EndsRun journal last
