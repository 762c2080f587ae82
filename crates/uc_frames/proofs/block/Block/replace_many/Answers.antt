use Rattle.std.proofs.Common.{rules, ◌≡◌, ◌∷◌, ◌++◌, ◌-◌, [], length, take, reverse, ap, ◌∙◌}
use Rattle.std.specs.Prelude.{max}
use Rattle.uc_frames.specs.Block.{contents}
use Rattle.uc_frames.proofs.Extents.{in_place}
use Rattle.uc_frames.proofs.block.Block.replace_many.Goals as goal

pub returns-clause-ok : goal.returns-clause-ok
returns-clause-ok c =
    let x = c.self.inside.newest in
    let xs = reverse c.self.inside.older.items in
    let cs = c.self.inside.cells.items in
    let n : c.len.result ≡ length cs = search rules in
    let e : c.left_of-left.result ≡ max (length cs - c.args.count) x.start = c.left_of-left.ensures ∙ ap (λ l. max (l - c.args.count) x.start) n in
    let k : c.push_reserved.new.self.items ≡ take c.left_of-left.result cs ++ c.args.cell ∷ [] =
    c.push_reserved.ensures.items ∙ ap (λ l. l ++ c.args.cell ∷ []) (c.truncate.ensures.items ∙ ap (take c.left_of-left.result) c.in_ok-reserve.ensures.items) in
    rw (← c.self.view_is) (ap (contents x xs) k ∙ in_place x xs cs c.self.invariant c.args.count c.left_of-left.result (c.args.cell ∷ []) e)
