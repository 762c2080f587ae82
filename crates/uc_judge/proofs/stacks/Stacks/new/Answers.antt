use Rattle.std.proofs.Common.{map, ap}
use Rattle.std.specs.Ordering.{nat_cmp}
use Rattle.std.specs.Map.{lookup}
use Rattle.std.specs.BTreeMap.{is_at}
use Rattle.uc_acts.specs.Journal.{entries_at}
use Rattle.uc_acts.specs.Doors.{last_call, stack_at}
use Rattle.uc_judge.specs.ClauseStacks.{as_on_stack, pair_cmp, rows_of}
use Rattle.uc_judge.proofs.stacks.Stacks.new.Goals as goal

pub returns : goal.returns
unfolding last_call stack_at entries_at
returns c sites = record {
  called = λ o t. ap (lookup (is_at (pair_cmp (o, t)))) c.new.ensures.empty;
  stacks = λ o. ap (λ l. map (as_on_stack sites) (rows_of (lookup (is_at (nat_cmp o)) l))) c.new-2.ensures.empty;
}
