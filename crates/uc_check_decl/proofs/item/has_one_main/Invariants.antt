use Rattle.std.proofs.Common.{◌≡◌, ◌≤◌, ◌+◌, drop}
use Rattle.uc_rules.specs.ItemBreaks.{mains_in}
use Rattle.uc_check_decl.proofs.item.has_one_main.Given as goal

abbrev pub invariant-loop-item : goal.invariant-loop-item
invariant-loop-item l = record {
  rest : l.count + mains_in (drop l.item-index l.items) ≡ mains_in l.items;
  few : l.count ≤ l.item-index;
}
