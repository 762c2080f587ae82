use Rattle.std.proofs.Common.{rules}
use Rattle.uc_code.proofs.Handling.{handled_set, handled_past}
use Rattle.uc_code.proofs.marks.handle_row.Goals as goal

pub returns-then-at-len : goal.returns-then-at-len
returns-then-at-len c = handled_set c.args.rows.now.items c.args.number c.len.result c.args.handler c.index-row.result.now (search rules) c.if-at-len.true c.index-row.ensures

pub returns-else-at-len : goal.returns-else-at-len
returns-else-at-len c = handled_past c.args.rows.now.items c.args.number c.len.result c.args.handler (search rules) c.if-at-len.false
