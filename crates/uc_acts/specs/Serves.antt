-- Which task a processor may be given, and the ticks that it has.
use Rattle.std.specs.Prelude.{◌≡◌, ℕ, ◌-◌, List, [], ◌∷◌}
use Rattle.std.specs.List.{Contains}
use Rattle.uc_entry.specs.declared.entry.Options.{Options}
use Rattle.uc_acts.specs.Journal.{Journal}
use Rattle.uc_acts.specs.Queues.{ready, running, used, open_processors}

-- processor p is open and free, and its cluster's queue begins with task t
pub record Serves (opts : Options) (j : Journal) (p t : ℕ) : Type 0 where
  pub cluster : ℕ
  pub later : List ℕ
  pub opened : Contains (open_processors opts j) (p, cluster)
  pub free : running p j ≡ []
  pub queued : ready cluster j ≡ t ∷ later

-- the ticks that a task has left since its dispatch
abbrev pub left : Options → Journal → ℕ → ℕ
left opts j t = opts.slice - used t j
