use Rattle.std.proofs.Common.{◌≡◌, List, take, drop, map}
use Rattle.uc_tree.specs.Programs.{Site}
use Rattle.uc_acts.specs.Doors.{left_by_task}
use Rattle.uc_judge.specs.ClauseStacks.{as_on_stack}
use Rattle.uc_judge.proofs.stacks.end_calls.Given as goal

-- the call is over at the rows so far
abbrev pub invariant-loop-row : goal.invariant-loop-row
invariant-loop-row l = record {
  over : (sites : List Site) → map (as_on_stack sites) (take l.row-index l.row-items) ≡ map (left_by_task l.task l.failed) (map (as_on_stack sites) (take l.row-index l.fn.rows.items));
  others : drop l.row-index l.row-items ≡ drop l.row-index l.fn.rows.items;
}
