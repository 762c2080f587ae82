use Rattle.std.proofs.Common.{◌≡◌, ◌-◌, ◌≤◌, length, vec_len}
use Rattle.std.specs.Prelude.{vec_capacity}
use Rattle.uc_explain.specs.Steps.{waits_of, waits_kept}
use Rattle.uc_explain.proofs.WaitLemmas.{kept_from}
use Rattle.uc_explain.proofs.lists.drop_waits.Given as goal

-- those in front are kept, and behind them stand the others that will be
abbrev pub invariant-loop-at : goal.invariant-loop-at
invariant-loop-at l = record {
  same : length l.conds.items ≡ length l.waits.items;
  bound : vec_len l.conds ≤ vec_len l.initial.conds;
  conds : vec_capacity l.conds ≡ vec_capacity l.initial.conds;
  waits : vec_capacity l.waits ≡ vec_capacity l.initial.waits;
  kept : kept_from l.e l.at l.conds.items l.waits.items ≡ waits_kept l.e (waits_of l.initial.conds.items l.initial.waits.items);
}

abbrev pub decreases-loop-at : goal.decreases-loop-at
decreases-loop-at l = vec_len l.waits - l.at
