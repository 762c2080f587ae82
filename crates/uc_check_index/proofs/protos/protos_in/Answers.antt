use Rattle.uc_tree.specs.Cells.{classes_of}
use Rattle.uc_check_index.proofs.Turns.{taken}
use Rattle.uc_check_index.proofs.protos.protos_in.Goals as goal

pub loop-item-preserved : goal.loop-item-preserved
loop-item-preserved c = taken classes_of c.args.items.now c.loop-item.item-index _ c.item-item.result c.loop-item-test.true c.item-item.is c.loop-item.protos.items c.push_protos.new.protos.items _ c.in_ok-push_protos.ensures c.loop-item.invariant
