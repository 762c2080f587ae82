use Rattle.std.proofs.Common.{◌+◌, arith}
use Rattle.uc_resolve.specs.Resolve.{takes_resumptions}
use Rattle.std.proofs.Common.{ap}
use Rattle.uc_code.specs.Drafts.{Draft}
use Rattle.uc_code.proofs.Growth.{rows_handled}
use Rattle.uc_lower_stmt.proofs.HandlingLemmas.{entered, kinds_take, named_few, rows_alone}
use Rattle.uc_lower_stmt.proofs.guard.enter_handler.Goals as goal

pub returns-clause-entered : goal.returns-clause-entered
returns-clause-entered c =
    entered c.args.names.now c.args.row c.event_of-number.result c.in_ok-cell.cell (c.set_handled.new.self.scopes + 1) c.kind_of.result (takes_resumptions c.args.kind) c.args.event.now c.args.param.now c.args.line
    c.args.out.now c.begin_handler.new.self c.add_hidden.new.self c.put_kept.new.out c.set_handled.new.self c.open_scope-outside.new.self c.declare_event.new.out
    c.kind_of.ensures c.event_of-number.ensures (named_few c.args.names.now c.args.event.now) (rows_alone c.args.out.now c.begin_handler.new.self _ c.begin_handler.ensures.begun) c.begin_handler.ensures.handler c.begin_handler.ensures.kept
    c.in_ok-cell.ensures.ok c.in_ok-cell.ensures.cell c.in_ok-put_kept.ensures c.set_handled.ensures (rows_handled c.args.row _ c.args.out.now c.begin_handler.new.self (ap (λ (d : Draft). d.rows) c.begin_handler.ensures.begun)) c.open_scope-outside.ensures.opened
    c.in_ok-declare_event.ensures

pub begin_handler-requires-clause-kind : goal.begin_handler-requires-clause-kind
begin_handler-requires-clause-kind c = kinds_take c.kind_of.result (takes_resumptions c.args.kind) c.kind_of.ensures

pub put_kept-requires-clause-cell : goal.put_kept-requires-clause-cell
put_kept-requires-clause-cell c =
    let few = c.in_ok-cell.ensures.few in
    let is = c.in_ok-cell.ensures.cell in
    omega (arith, few, is)
