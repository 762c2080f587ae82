use Rattle.std.proofs.Common.{ap, ◌∙◌}
use Rattle.uc_tree.specs.Programs.{Sig}
use Rattle.uc_tree.specs.Statements.{stmts_of}
use Rattle.uc_lower_stmt.proofs.RoutinesLemmas.{mutex_lowered, mutex_rows}
use Rattle.uc_lower_stmt.proofs.routine.lower_mutex.Goals as goal

pub returns-clause-code : goal.returns-clause-code
returns-clause-code c =
    mutex_lowered c.args.names.now c.args.routine.now c.result_of.result.now c.args.last c.line_of-line.result (stmts_of c.body_of.result.now) c.args.out.now c.enter_body.new.self c.open.new.self c.lower_stmts.new.out c.put_owed.new.out c.close_call.new.out c.leave.new.self c.put.new.out
    c.requires.outside c.line_of-line.ensures c.body_of.ensures (c.result_of.ensures ∙ ap (λ (s : Sig). s.ret) c.sig_of.ensures) c.in_ok-enter_body.ensures.ok c.in_ok-_row.ensures.ok c.in_ok-_row.ensures.kept c.in_ok-lower_stmts.ensures c.in_ok-put_owed.ensures c.in_ok-close_call.ensures c.leave.ensures c.in_ok-put.ensures

pub returns-clause-rows : goal.returns-clause-rows
returns-clause-rows c =
    mutex_rows c.args.names.now c.result_of.result.now c.args.last c.line_of-line.result (stmts_of c.body_of.result.now) c.args.out.now c.enter_body.new.self c.open.new.self c.lower_stmts.new.out c.put_owed.new.out c.close_call.new.out c.leave.new.self c.put.new.out
    c.requires.outside c.in_ok-enter_body.ensures.ok c.in_ok-_row.ensures.ok c.in_ok-_row.ensures.kept c.in_ok-lower_stmts.ensures c.in_ok-put_owed.ensures c.in_ok-close_call.ensures c.leave.ensures c.in_ok-put.ensures
