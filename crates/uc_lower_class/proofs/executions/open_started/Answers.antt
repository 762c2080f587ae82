use Rattle.uc_lower_class.proofs.Living.{start_none, start_on}
use Rattle.uc_lower_class.proofs.executions.open_started.Goals as goal

pub returns-then-coroutine : goal.returns-then-coroutine
returns-then-coroutine c = λ p. start_on p c.args.coroutine c.args.parts.now.items c.open_part.new.parts.items c.args.out.now c.open_part.new.out c.if-coroutine.true c.in_ok-open_part.ensures

pub returns : goal.returns
returns c = λ p. start_none p c.args.coroutine c.args.parts.now.items c.args.out.now c.if-coroutine.false
