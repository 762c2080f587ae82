use Rattle.std.proofs.Common.{arith}
use Rattle.uc_frames.proofs.Ascending.{bound_found, bound_none, none_past}
use Rattle.uc_frames.proofs.Positions.{read_key, read_other}
use Rattle.uc_frames.proofs.numbered.position_by_halves.Goals as goal

pub returns-then-get-key : goal.returns-then-get-key
returns-then-get-key g c =
    bound_found c.args.key c.args.list.now.items c.count_below-first.result c.get.result.now.1 c.count_below-first.ensures (read_key c.args.list.now.items c.count_below-first.result c.args.key c.get.result.now (omega arith) c.get.ensures c.if-get-key.true)

pub returns-else-get-key : goal.returns-else-get-key
returns-else-get-key g c =
    bound_none c.args.key 0 c.args.list.now.items c.requires.0 c.count_below-first.result c.requires.1 c.count_below-first.ensures
    (λ q s h. read_other c.args.list.now.items c.count_below-first.result c.args.key c.get.result.now q (omega arith) c.get.ensures c.if-get-key.false s h)

pub returns-else-first-len : goal.returns-else-first-len
returns-else-first-len g c =
    bound_none c.args.key 0 c.args.list.now.items c.requires.0 c.count_below-first.result c.requires.1 c.count_below-first.ensures
    (λ q s h. none_past c.args.list.now.items c.count_below-first.result q (omega arith) s)
