use Rattle.std.proofs.Common.{subst, rules}
use Rattle.uc_tree.specs.Cells.{rows_of}
use Rattle.uc_implicit.specs.Heights.{AreNext}
use Rattle.uc_implicit.proofs.Deep.{settled_heights}
use Rattle.uc_implicit.proofs.heights.heights_of.Goals as goal

pub returns-then-are_settled : goal.returns-then-are_settled
returns-then-are_settled c =
    let xs = c.in_ok-heights.heights.items in
    let next : AreNext (rows_of c.args.sizes.now) xs xs c.args.count = subst (λ ys. AreNext (rows_of c.args.sizes.now) ys ys c.args.count) c.deref-2.ensures.value (c.are_settled.ensures (search rules)) in
    settled_heights c.args.sizes.now xs c.args.count c.requires c.in_ok-heights.ensures.long c.in_ok-heights.ensures.few next
