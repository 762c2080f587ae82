use Rattle.std.proofs.Common.{rules, ◌≡◌, ◌∷◌, ◌++◌, ◌+◌, ◌-◌, [], length, take, drop, reverse, ap, ◌∙◌, arith}
use Rattle.std.specs.Prelude.{max}
use Rattle.std.proofs.lemmas.List.{reverse-append, length-drop, take_all}
use Rattle.std.proofs.lemmas.Grind.{common_steps}
use Rattle.uc_frames.specs.declared.block.Extent.{Extent}
use Rattle.uc_frames.specs.Block.{contents, operands_from, with_call}
use Rattle.uc_frames.specs.Calls.{call_frame}
use Rattle.uc_frames.proofs.Extents.{called_with_copies}
use Rattle.uc_frames.proofs.block.Block.enter_with_copies.Goals as goal

pub returns-clause-ok : goal.returns-clause-ok
returns-clause-ok c =
    let x = c.self.inside.newest in
    let xs = reverse c.self.inside.older.items in
    let cs = c.self.inside.cells.items in
    let r = c.args.routine in
    let n : c.len-length.result ≡ length cs = search rules in
    let fs = c.in_ok-frame.frame.items in
    let y : Extent = record { floor = c.max.result; base = c.len-length.result; start = c.len-length.result + c.len.result } in
    let o : reverse c.push_reserved.new.self.items ≡ x ∷ xs = ap reverse (c.push_reserved.ensures.items ∙ ap (λ l. l ++ x ∷ []) c.in_ok-reserve.ensures.items) ∙ reverse-append c.self.inside.older.items (x ∷ []) in
    let k : c.extend_from_slice.new.self.items ≡ cs ++ fs = grind (arith, common_steps) in
    let ds = c.deref.result.now in
    let t : take (length ds - x.start) (drop x.start ds) ≡ drop x.start ds = take_all (length ds - x.start) (drop x.start ds) (omega (arith, length-drop x.start ds)) in
    let g : fs ≡ call_frame r (operands_from x cs) = c.in_ok-frame.ensures ∙ ap (λ l. call_frame r (reverse l)) t ∙ ap (λ l. call_frame r (reverse (drop x.start l))) c.deref.ensures.value in
    let f : c.max.result ≡ max (length cs - c.args.taken) x.start = c.max.ensures ∙ ap (λ i. max i x.start) (c.saturating_sub.ensures ∙ ap (λ i. i - c.args.taken) n) in
    let m : c.len.result ≡ length fs = search rules in
    rw (← c.self.view_is) (ap (λ l. contents y l c.extend_from_slice.new.self.items) o ∙ ap (contents y (x ∷ xs)) k
    ∙ called_with_copies x xs cs c.self.invariant c.args.taken fs y f n (omega (arith, n, m)) ∙ ap (λ l. with_call c.args.taken l (contents x xs cs)) g)
