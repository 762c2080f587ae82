-- The processors, as a judge keeps them.
use Rattle.std.specs.Prelude.{◌≡◌, ℕ, ◌==◌}
use Rattle.std.specs.List.{list_any}
use Rattle.uc_entry.specs.declared.entry.Options.{Options}
use Rattle.uc_acts.specs.Journal.{Journal}
use Rattle.uc_acts.specs.Queues.{processors, open_processors, closes}
use Rattle.uc_judge.specs.declared.processors.Processors.{Processors}

-- the processors are those of a journal under these options
pub record AreProcessors (s : Processors) (opts : Options) (j : Journal) : Type 0 where
  pub all : s.all.items ≡ processors opts j
  pub opened : s.opened.items ≡ open_processors opts j
  pub closed : (p : ℕ) → list_any (λ x. x == p) s.closed.items ≡ list_any (λ e. closes p e.kind e) j
