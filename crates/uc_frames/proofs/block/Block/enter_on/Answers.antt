use Rattle.std.proofs.Common.{rules, true, ◌≡◌, ◌<◌, ◌∷◌, ◌++◌, ◌+◌, ◌-◌, [], length, replicate, reverse, get_or, ap, ◌∙◌, arith}
use Rattle.std.proofs.lemmas.List.{reverse-append, get_or_append_left}
use Rattle.uc_frames.specs.declared.block.Extent.{Extent}
use Rattle.uc_frames.specs.Block.{contents}
use Rattle.uc_frames.specs.Machine.{nought}
use Rattle.uc_frames.proofs.Extents.{called_in_place, top_at}
use Rattle.uc_frames.proofs.block.Block.enter_on.Goals as goal

pub returns-clause-made : goal.returns-clause-made
returns-clause-made c =
    let x = c.self.inside.newest in
    let xs = reverse c.self.inside.older.items in
    let cs = c.self.inside.cells.items in
    let r = c.args.routine in
    let n : c.len-length.result ≡ length cs = search rules in
    let y : Extent = record { floor = c.len-length.result - 1 - r.params; base = c.len-length.result - r.params; start = c.len-length.result + c.saturating_sub-others.result } in
    let o : reverse c.push_reserved.new.self.items ≡ x ∷ xs = ap reverse c.push_reserved.ensures.items ∙ reverse-append c.self.inside.older.items (x ∷ []) in
    let made : c.zeros_in_place.result ≡ true = search rules in
    let k : c.zeros_in_place.new.cells.items ≡ cs ++ replicate (r.cells - r.params) nought = c.zeros_in_place.ensures.made made ∙ ap (λ i. cs ++ replicate i nought) c.saturating_sub-others.ensures in
    λ t. rw (← c.self.view_is) (ap (λ l. contents y l c.zeros_in_place.new.cells.items) o ∙ ap (contents y (x ∷ xs)) k
    ∙ called_in_place x xs cs c.self.invariant r (r.params + 1) y (omega (arith, n)) (omega (arith, n)) (omega (arith, n, c.saturating_sub-others.ensures)) (omega (arith, n, c.if-length-self.false)) (omega arith))

pub returns-clause-object : goal.returns-clause-object
returns-clause-object c =
    let x = c.self.inside.newest in
    let cs = c.self.inside.cells.items in
    let r = c.args.routine in
    let n : c.len-length.result ≡ length cs = search rules in
    let i = c.len-length.result - 1 - r.params in
    let v = c.index.result.now in
    let made : c.zeros_in_place.result ≡ true = search rules in
    let k : c.zeros_in_place.new.cells.items ≡ cs ++ replicate c.saturating_sub-others.result nought = c.zeros_in_place.ensures.made made in
    let l : i < length cs = omega (arith, n, c.if-length-self.false) in
    let g : v ≡ get_or cs i v = c.index.ensures ∙ ap (λ zs. get_or zs i v) k ∙ get_or_append_left cs (replicate c.saturating_sub-others.result nought) v i l in
    λ t. rw (← c.self.view_is) (top_at cs x.start r.params i v c.self.invariant.2 (omega (arith, n, c.if-length-self.false)) (omega (arith, n)) g)
