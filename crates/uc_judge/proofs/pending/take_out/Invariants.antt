use Rattle.std.proofs.Common.{◌≡◌, ◌+◌, ◌++◌, take, drop}
use Rattle.uc_acts.specs.Journal.{holds}
use Rattle.uc_acts.specs.Pending.{drop_first}
use Rattle.uc_judge.proofs.pending.take_out.Given as goal

-- none of the events so far is the one
abbrev pub invariant-loop-at : goal.invariant-loop-at
invariant-loop-at l = record {
  same : l.events.items ≡ l.fn.events.items;
  kept : drop_first (λ r. holds (r.0 + 1) l.field) l.events.items ≡ take l.at l.events.items ++ drop_first (λ r. holds (r.0 + 1) l.field) (drop l.at l.events.items);
}
