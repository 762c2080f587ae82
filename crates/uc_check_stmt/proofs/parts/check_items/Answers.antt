use Rattle.std.proofs.Common.{refl}
use Rattle.uc_rules.specs.Visits.{out_visits, outs_visits}
use Rattle.uc_check_stmt.proofs.Walks.{noted_more}
use Rattle.uc_check_stmt.proofs.parts.check_items.Goals as goal

pub loop-item-preserved : goal.loop-item-preserved
loop-item-preserved c = noted_more (λ o. out_visits c.args.names.now o) (λ os. outs_visits c.args.names.now os) (λ o os. refl) c.args.items.now c.loop-item.item-index c.item-item.result _ _ _ c.loop-item-test.true c.item-item.is c.check_item.ensures c.loop-item.invariant
