use Rattle.std.proofs.Common.{◌*◌, take}
use Rattle.uc_tree.specs.declared.limits.TheConstants.{OPS_FOR_SIZE}
use Rattle.uc_tree.specs.StatementSizes.{out_items_size}
use Rattle.uc_lower_stmt.specs.LowersStatement.{Lowers, scope_of}
use Rattle.uc_lower_stmt.specs.Pieces.{ItemsCode}
use Rattle.uc_lower_stmt.proofs.Printing.{with_texts, texts_among, items_at}
use Rattle.uc_lower_stmt.proofs.print.lower_items.Given as goal

abbrev pub invariant-loop-item : goal.invariant-loop-item
invariant-loop-item l = Lowers 0 (OPS_FOR_SIZE * out_items_size (take l.item-index l.items)) (out_items_size (take l.item-index l.items)) 0 0 (ItemsCode l.line l.initial.out.marks (items_at l.names (scope_of l.initial.out) (take l.item-index l.items))) (with_texts (scope_of l.initial.out) (texts_among (take l.item-index l.items))) l.initial.out l.out
