use Rattle.uc_types.proofs.Grouped.{items_more}
use Rattle.uc_types.proofs.outside.push_items.Goals as goal

pub loop-item-preserved : goal.loop-item-preserved
loop-item-preserved c = record {
  placed = c.in_ok-push_item.ensures.placed;
  grown = λ name. items_more c.args.items.now c.loop-item.item-index c.item-item.result name _ _ _ c.loop-item-test.true c.item-item.is (c.in_ok-push_item.ensures.grown name) (c.loop-item.invariant.grown name);
}
