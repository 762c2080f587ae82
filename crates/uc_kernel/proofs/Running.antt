-- Whoever runs is a task.
use Rattle.std.proofs.Common.{◌≡◌, ℕ, ◌<◌, List, [], ◌∷◌, arith}
use Rattle.uc_tree.specs.Programs.{Site}
use Rattle.uc_tree.specs.declared.limits.TheConstants.{TASKS}
use Rattle.uc_entry.specs.declared.entry.Options.{Options}
use Rattle.uc_acts.specs.Journal.{Journal}
use Rattle.uc_acts.specs.Queues.{running}
use Rattle.uc_acts.specs.Stations.{Running}
use Rattle.uc_acts.specs.KernelRuns.{KernelRuns}
use Rattle.uc_acts.proofs.Law.{good_whole}
use Rattle.uc_acts.proofs.Moves.{first_at, known_at}
use Rattle.uc_kernel.proofs.Counting.{few_tasks}

pub runner_small : (opts : Options) (sites : List Site) (input : List ℕ) {j : Journal} → KernelRuns opts sites input j → (p t : ℕ) → running p j ≡ t ∷ [] → t < TASKS
runner_small opts sites input {j} k p t r =
    let s = (good_whole opts sites input k).sound in
    let a = known_at j s t (Running p) (first_at j s (Running p) t [] r) in
    let b = few_tasks opts sites input k in
    omega (arith, a, b)
