use Rattle.uc_lower_class.proofs.Living.{down_none, down_on}
use Rattle.uc_lower_class.proofs.executions.take_down.Goals as goal

pub returns-then-coroutine : goal.returns-then-coroutine
returns-then-coroutine c = λ p. down_on p c.args.coroutine c.args.out.now c.put.new.out c.if-coroutine.true c.in_ok-put.ensures

pub returns : goal.returns
returns c = λ p. down_none p c.args.coroutine c.args.out.now c.if-coroutine.false
