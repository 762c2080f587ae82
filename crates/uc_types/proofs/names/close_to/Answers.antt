use Rattle.std.proofs.Common.{ap, ◌∙◌, ◌≡◌, ◌<◌, ◌≤◌, ◌-◌, suc, [], length, take, drop, arith}
use Rattle.uc_types.specs.LocalBlocks.{stacked}
use Rattle.uc_types.proofs.Stacks.{stacked_pop, stacked_some, take_fewer}
use Rattle.uc_types.proofs.names.close_to.Goals as goal

pub close-requires : goal.close-requires
close-requires c =
    let some : 0 < c.loop-place.place = let h = c.loop-place-test.true in omega (arith, h) in
    let blocks = stacked_some c.loop-place.place c.args.names.now.items some c.loop-place.invariant.0 in
    let same = ap length c.loop-place.invariant.1 in
    omega (arith, blocks, same)

pub loop-place-preserved : goal.loop-place-preserved
loop-place-preserved c =
    let all = c.args.names.now.items in
    let place = c.loop-place.place in
    let test = c.loop-place-test.true in
    let fits = c.loop-place.invariant.0 in
    let again : place ≡ suc (place - 1) = omega (arith, test) in
    let inside : place - 1 < length all = omega (arith, test, fits) in
    let less : place - 1 ≤ length all = omega (arith, inside) in
    let fewer : c.args.count ≤ place - 1 = omega (arith, test) in (
      less,
      c.close.ensures ∙ ap (λ bs. drop 1 bs) c.loop-place.invariant.1 ∙ ap (λ n. drop 1 (stacked 0 (take n all) [])) again ∙ stacked_pop 0 (place - 1) all [] inside,
      take_fewer c.args.count (place - 1) all fewer,
    )
