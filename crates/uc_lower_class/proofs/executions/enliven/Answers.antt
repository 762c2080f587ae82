use Rattle.uc_lower_class.proofs.Living.{enliven_none, enliven_on}
use Rattle.uc_lower_class.proofs.executions.enliven.Goals as goal

pub returns-then-coroutine : goal.returns-then-coroutine
returns-then-coroutine c = λ p ms. enliven_on p c.args.coroutine ms c.args.out.now c.put.new.out c.if-coroutine.true c.in_ok-put.ensures

pub returns : goal.returns
returns c = λ p ms. enliven_none p c.args.coroutine ms c.args.out.now c.if-coroutine.false
