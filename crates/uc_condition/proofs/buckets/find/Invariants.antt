use Rattle.std.proofs.Common.{◌≡◌, ℕ, suc, take, []}
use Rattle.std.specs.List.{filter}
use Rattle.uc_condition.specs.Waiting.{is_at}
use Rattle.uc_condition.specs.Buckets.{task_behind, waits_in}
use Rattle.uc_condition.proofs.buckets.find.Given as goal

abbrev pub invariant-loop-at : goal.invariant-loop-at
invariant-loop-at l = record {
  task : l.task ≡ task_behind l.rows.items l.at l.fn.bucket.first;
  before : (k : ℕ) → l.at ≡ suc k → l.before ≡ task_behind l.rows.items k l.fn.bucket.first;
  older : filter (is_at l.object l.cond) (take l.at (waits_in l.rows.items l.fn.bucket)) ≡ [];
}
