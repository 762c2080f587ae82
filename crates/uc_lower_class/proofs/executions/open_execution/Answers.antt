use Rattle.uc_lower_class.proofs.Living.{forget_none, forget_on}
use Rattle.uc_lower_class.proofs.executions.open_execution.Goals as goal

pub returns-then-coroutine : goal.returns-then-coroutine
returns-then-coroutine c = λ p. forget_on p c.args.coroutine c.args.out.now c.open.new.self c.if-coroutine.true c.in_ok-_row.ensures.ok c.in_ok-_row.ensures.kept

pub returns : goal.returns
returns c = λ p. forget_none p c.args.coroutine c.args.out.now c.if-coroutine.false
