use Rattle.std.proofs.Common.{map, refl}
use Rattle.uc_numbering.specs.Routines.{defined_at, item_in, items_in}
use Rattle.uc_numbering.proofs.Put.{turned, ended}
use Rattle.uc_numbering.proofs.routines.routines_in.Goals as goal

pub loop-item-preserved : goal.loop-item-preserved
loop-item-preserved c = turned (items_in (map (λ k. k.now) c.args.classes.now)) c.args.items.now c.loop-item.item-index c.item-item.result (item_in (map (λ k. k.now) c.args.classes.now) c.item-item.result) (map defined_at c.loop-item.found.items) (map defined_at c.push_item.new.found.items) _ c.loop-item-test.true c.item-item.is refl c.in_ok-push_item.ensures c.loop-item.invariant

pub returns : goal.returns
returns c = ended (items_in (map (λ k. k.now) c.args.classes.now)) c.args.items.now c.loop-item.item-index (map defined_at c.loop-item.found.items) _ refl c.loop-item-test.false c.loop-item.invariant
