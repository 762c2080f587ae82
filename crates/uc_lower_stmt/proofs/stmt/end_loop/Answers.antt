use Rattle.std.proofs.Common.{◌≡◌, ◌+◌, length, ap, ◌∙◌, arith}
use Rattle.uc_code.specs.declared.op.Op.TheVariants as op
use Rattle.uc_code.specs.Drafts.{Draft}
use Rattle.uc_code.proofs.Patches.{length-patched}
use Rattle.uc_lower_stmt.proofs.stmt.end_loop.Goals as goal

pub patch-requires-2 : goal.patch-requires-2
patch-requires-2 c =
    let l : length c.patch.new.self.ops ≡ length c.args.out.now.ops = ap (λ (d : Draft). length d.ops) c.patch.ensures ∙ length-patched c.args.out.now.ops c.args.start (op.Jump c.begin_of.result) in
    let i = c.requires.inside in
    omega (arith, l, i)

pub patch-requires-3 : goal.patch-requires-3
patch-requires-3 c =
    let l : length c.patch.new.self.ops ≡ length c.args.out.now.ops = ap (λ (d : Draft). length d.ops) c.patch.ensures ∙ length-patched c.args.out.now.ops c.args.start (op.Jump c.begin_of.result) in
    let k : length c.patch-2.new.self.ops ≡ length c.patch.new.self.ops = ap (λ (d : Draft). length d.ops) c.patch-2.ensures ∙ length-patched c.patch.new.self.ops (c.args.start + 1) (op.Jump c.here-end.result) in
    let i = c.requires.inside in
    omega (arith, l, k, i)
