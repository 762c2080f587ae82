-- Who may act.
use Rattle.std.specs.Prelude.{◌≡◌, ℕ, false, [], ◌∷◌}
use Rattle.uc_entry.specs.declared.entry.Options.{Options}
use Rattle.uc_acts.specs.Journal.{Journal, is_over}
use Rattle.uc_acts.specs.Queues.{running}
use Rattle.uc_acts.specs.Serves.{left}
use Rattle.uc_kernel.specs.declared.asks.RunningTask.{RunningTask}

-- the run goes on, and this task runs on processor p
pub record IsRunner (opts : Options) (j : Journal) (p : ℕ) (r : RunningTask) : Type 0 where
  pub going : is_over j ≡ false
  pub runs : running p j ≡ r.task ∷ []
  pub left : r.left ≡ left opts j r.task
