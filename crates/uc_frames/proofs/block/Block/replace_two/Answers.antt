use Rattle.std.proofs.Common.{rules, ◌≡◌, [], ◌∷◌, sym, ◌+◌, ◌-◌, length, take, reverse, ap, ◌∙◌, arith}
use Rattle.std.specs.Prelude.{slice_set}
use Rattle.uc_frames.specs.Block.{Contents, contents}
use Rattle.uc_frames.specs.Machine.{below}
use Rattle.uc_frames.proofs.Extents.{below_few, two_replaced}
use Rattle.uc_frames.proofs.block.Block.replace_two.Goals as goal

pub returns-then-length-self-gt1-clause-ok : goal.returns-then-length-self-gt1-clause-ok
returns-then-length-self-gt1-clause-ok c =
    let x = c.self.inside.newest in
    let xs = reverse c.self.inside.older.items in
    let cs = c.self.inside.cells.items in
    let n : c.len-length.result ≡ length cs = search rules in
    let i = c.len-length.result - 2 in
    let k : c.len-length.result - 1 ≡ i + 1 = omega (arith, n, c.if-length-self-gt1.true) in
    let t = ap (λ l. slice_set l i c.args.cell) (c.truncate.ensures.items ∙ ap (λ m. take m cs) k) in
    rw (← c.self.view_is) (ap (contents x xs) t ∙ two_replaced x xs cs c.self.invariant i c.args.cell (omega (arith, n, c.if-length-self-gt1.true)) (omega (arith, n, c.if-length-self-gt1.true)))

pub returns-in_ok-replace_all-clause-ok : goal.returns-in_ok-replace_all-clause-ok
returns-in_ok-replace_all-clause-ok c =
    let x = c.self.inside.newest in
    let cs = c.self.inside.cells.items in
    let n : c.len-length.result ≡ length cs = search rules in
    let b = c.args.self.now in
    let e : below (below b.operands) ≡ [] = rw (← c.self.view_is) (below_few x cs (omega (arith, n, c.if-length-self-gt1.false))) in
    c.in_ok-replace_all.ensures.ok ∙ ap (λ os. let k : Contents = record { operands = c.args.cell ∷ os; waiting = b.waiting; frames = b.frames } in k) (sym e)
