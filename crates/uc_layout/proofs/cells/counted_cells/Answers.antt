use Rattle.std.proofs.Common.{◌≡◌, ◌+◌, suc, length, replicate, subst, sym, ◌∙◌, rules, arith}
use Rattle.uc_layout.specs.CellTables.{Counted}
use Rattle.uc_layout.proofs.CellTablesLemmas.{counted_first, counted_more, still}
use Rattle.uc_layout.proofs.cells.counted_cells.Goals as goal

pub loop-depth-init : goal.loop-depth-init
loop-depth-init c =
    let zeros : c.in_ok-cells.cells.items ≡ replicate (length c.args.rows.now) 0 = search rules in
    rw zeros (counted_first c.args.rows.now (length c.args.rows.now))

pub loop-depth-preserved : goal.loop-depth-preserved
loop-depth-preserved c =
    let more : c.loop-depth._depth + 1 ≡ suc c.loop-depth._depth = omega arith in
    let before : Counted c.loop-depth._depth c.args.rows.now c.deref.result.now = subst (λ cells. Counted c.loop-depth._depth c.args.rows.now cells) (sym c.deref.ensures.value) c.loop-depth.invariant in
    rw more (counted_more c.loop-depth._depth c.args.rows.now c.args.circles.now c.deref.result.now c.in_ok-next.next.items c.requires.flags c.in_ok-next.ensures.full c.in_ok-next.ensures.follows before)

pub returns-then-is_same : goal.returns-then-is_same
returns-then-is_same c =
    let before : Counted c.loop-depth._depth c.args.rows.now c.deref.result.now = subst (λ cells. Counted c.loop-depth._depth c.args.rows.now cells) (sym c.deref.ensures.value) c.loop-depth.invariant in
    let after : Counted (suc c.loop-depth._depth) c.args.rows.now c.in_ok-next.next.items = counted_more c.loop-depth._depth c.args.rows.now c.args.circles.now c.deref.result.now c.in_ok-next.next.items c.requires.flags c.in_ok-next.ensures.full c.in_ok-next.ensures.follows before in
    let both : c.deref-in-loop-depth.result.now ≡ c.deref-in-loop-depth-2.result.now = c.is_same.ensures.0 (search rules) in
    let same : c.loop-depth.cells.items ≡ c.in_ok-next.next.items = sym c.deref-in-loop-depth-2.ensures.value ∙ sym both ∙ c.deref-in-loop-depth.ensures.value in
    let here : Counted c.loop-depth._depth c.args.rows.now c.in_ok-next.next.items = subst (λ cells. Counted c.loop-depth._depth c.args.rows.now cells) same c.loop-depth.invariant in
    still c.loop-depth._depth (length c.args.rows.now) c.args.rows.now c.in_ok-next.next.items (omega arith) here after

pub returns : goal.returns
returns c =
    let all : c.loop-depth._depth ≡ length c.args.rows.now = omega arith in
    subst (λ k. Counted k c.args.rows.now c.loop-depth.cells.items) all c.loop-depth.invariant
