use Rattle.std.proofs.Common.{rules}
use Rattle.uc_code.proofs.Closed.{closed_set, closed_past}
use Rattle.uc_code.proofs.marks.close_row.Goals as goal

pub returns-then-at-len : goal.returns-then-at-len
returns-then-at-len c = closed_set c.args.rows.now.items c.args.number c.args.here c.args.entry c.len.result c.index-row.result.now (search rules) c.if-at-len.true c.index-row.ensures

pub returns-else-at-len : goal.returns-else-at-len
returns-else-at-len c = closed_past c.args.rows.now.items c.args.number c.args.here c.args.entry c.len.result (search rules) c.if-at-len.false
