use Rattle.std.proofs.Common.{◌≡◌, ◌++◌, ◌∷◌, take}
use Rattle.std.specs.Prelude.{decimal}
use Rattle.std.specs.List.{flat_map}
use Rattle.uc_explain.proofs.text.put_tasks.Given as goal

-- the tasks so far are written
abbrev pub invariant-loop-task : goal.invariant-loop-task
invariant-loop-task l = l.text.items ≡ l.initial.text.items ++ flat_map (λ t. 32 ∷ decimal t) (take l.task-index l.rest)
