use Rattle.std.proofs.Common.{◌≡◌, replicate, subst, rules, arith}
use Rattle.uc_tree.specs.Cells.{rows_of}
use Rattle.uc_implicit.specs.Heights.{AreNext}
use Rattle.uc_implicit.proofs.Deep.{zeros_deep, deep_below, deep_heights, deep_more}
use Rattle.uc_implicit.proofs.heights.deep_heights.Goals as goal

pub loop-depth-init : goal.loop-depth-init
loop-depth-init c =
    let zeros : c.in_ok-heights.heights.items ≡ replicate c.args.count 0 = search rules in
    (search rules, rw zeros (zeros_deep c.args.count (rows_of c.args.sizes.now)))

pub next_heights-requires : goal.next_heights-requires
next_heights-requires c = rw c.deref.ensures.value (deep_below c.loop-depth._depth c.args.count (rows_of c.args.sizes.now) c.loop-depth.heights.items c.loop-depth.invariant.1 c.loop-depth-test.true)

pub loop-depth-preserved : goal.loop-depth-preserved
loop-depth-preserved c =
    let p = c.args.sizes.now in
    let next : AreNext (rows_of p) c.loop-depth.heights.items c.in_ok-heights-2.heights.items c.args.count = subst (λ xs. AreNext (rows_of p) xs c.in_ok-heights-2.heights.items c.args.count) c.deref.ensures.value c.in_ok-heights-2.ensures.next in
    (c.in_ok-heights-2.ensures.long, deep_more p c.loop-depth.heights.items c.in_ok-heights-2.heights.items c.args.count c.loop-depth._depth c.requires c.in_ok-heights-2.ensures.long c.loop-depth.invariant.1 next)

pub returns : goal.returns
returns c = deep_heights c.args.sizes.now c.loop-depth.heights.items c.args.count c.loop-depth._depth c.requires c.loop-depth.invariant.0 (omega arith) c.loop-depth.invariant.1
