use Rattle.std.proofs.Common.{◌≡◌, ◌+◌, ℤ, pos, subst, rules, to_z, w64}
use Rattle.uc_code.specs.declared.op.Op.TheVariants as op
use Rattle.uc_code.specs.CodeShapes.{One}
use Rattle.uc_code.specs.Emits.{Puts}
use Rattle.uc_code.proofs.Stable.{one_stable}
use Rattle.uc_code.proofs.Putting.{puts_both}
use Rattle.uc_code.proofs.raising.put_plain.Goals as goal

pub returns : goal.returns
returns c =
    let n : to_z w64 c.args.event ≡ pos c.args.event = search rules in
    let at = subst (λ (x : ℤ). Puts 0 1 (λ code. One code (op.Push x) c.args.line) c.args.out.now c.put.new.out) n c.in_ok-put.ensures in
    puts_both (one_stable (op.Push (pos c.args.event)) c.args.line) at (puts_both (one_stable (op.Push (pos 0)) c.args.line) c.in_ok-put-2.ensures c.in_ok-put-3.ensures)
