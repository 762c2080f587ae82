use Rattle.std.proofs.Common.{arith, below_more}
use Rattle.uc_frames.proofs.Positions.{found_at, not_found, read_key, read_other}
use Rattle.uc_frames.proofs.numbered.position.Goals as goal

pub returns-then-get-key : goal.returns-then-get-key
returns-then-get-key g c =
    found_at c.args.key c.args.list.now.items c.loop-i.i c.get.result.now.1 (read_key c.args.list.now.items c.loop-i.i c.args.key c.get.result.now (omega arith) c.get.ensures c.if-get-key.true) c.loop-i.invariant

pub loop-i-preserved : goal.loop-i-preserved
loop-i-preserved g c =
    below_more _ _ c.loop-i.invariant (λ q s h. read_other c.args.list.now.items c.loop-i.i c.args.key c.get.result.now q (omega arith) c.get.ensures c.if-get-key.false s h)

pub returns : goal.returns
returns g c =
    not_found c.args.key c.args.list.now.items (λ j l. c.loop-i.invariant j (omega arith))
