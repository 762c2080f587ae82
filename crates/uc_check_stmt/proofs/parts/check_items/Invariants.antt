use Rattle.std.proofs.Common.{◌≡◌, drop}
use Rattle.uc_rules.specs.Visits.{outs_visits}
use Rattle.uc_types.specs.FirstBreak.{with_visits}
use Rattle.uc_check_stmt.proofs.parts.check_items.Given as goal

abbrev pub invariant-loop-item : goal.invariant-loop-item
invariant-loop-item l = with_visits l.found (outs_visits l.names (drop l.item-index l.items)) ≡ with_visits l.fn.found (outs_visits l.names l.items)
