use Rattle.std.proofs.Common.{◌≡◌, ◌+◌, ap, ◌∙◌, drop, length, arith}
use Rattle.uc_tree.specs.Cells.{classes_of}
use Rattle.uc_rules.specs.ProgramVisits.{classes_in}
use Rattle.uc_check_stmt.proofs.Walks.{split}
use Rattle.uc_front.proofs.PlaceLemmas.{classes_more}
use Rattle.uc_front.proofs.item.count_classes.Goals as goal

pub loop-item-preserved : goal.loop-item-preserved
loop-item-preserved c =
    let items = c.args.items.now in
    let i = c.loop-item.item-index in
    let x = c.item-item.result in
    let more : length (classes_of (drop i items)) ≡ classes_in x + length (classes_of (drop (i + 1) items)) =
    ap (λ l. length (classes_of l)) (split items i x c.loop-item-test.true c.item-item.is) ∙ classes_more x (drop (i + 1) items) in
    record {
      few = omega (arith, c.loop-item.invariant.few, c.class_count-count.ensures.few);
      counted = omega (arith, c.loop-item.invariant.counted, more, c.class_count-count.ensures.count);
    }
