use Rattle.std.proofs.Common.{◌≡◌, List, drop, map}
use Rattle.uc_tree.specs.Programs.{Site}
use Rattle.uc_acts.specs.Doors.{clause_on}
use Rattle.uc_judge.specs.ClauseStacks.{as_on_stack}
use Rattle.uc_judge.proofs.stacks.clause_on.Given as goal

-- none of the rows so far is of the task
abbrev pub invariant-loop-row : goal.invariant-loop-row
invariant-loop-row l =
    (sites : List Site) → clause_on l.task (map (as_on_stack sites) l.rows) ≡ clause_on l.task (map (as_on_stack sites) (drop l.row-index l.rows))
