use Rattle.std.proofs.Common.{arith, below_more}
use Rattle.uc_kernel.proofs.Hands.{found_at, not_found, read_key, read_other}
use Rattle.uc_kernel.proofs.hand.position.Goals as goal

pub returns-then-get-object : goal.returns-then-get-object
returns-then-get-object g c =
    found_at c.args.object c.args.hand.now.items c.loop-at.at c.get.result.now.1 (read_key c.args.hand.now.items c.loop-at.at c.args.object c.get.result.now (omega arith) c.get.ensures c.if-get-object.true) c.loop-at.invariant

pub loop-at-preserved : goal.loop-at-preserved
loop-at-preserved g c =
    below_more _ _ c.loop-at.invariant (λ q s h. read_other c.args.hand.now.items c.loop-at.at c.args.object c.get.result.now q (omega arith) c.get.ensures c.if-get-object.false s h)

pub returns : goal.returns
returns g c =
    not_found c.args.object c.args.hand.now.items (λ j l. c.loop-at.invariant j (omega arith))
