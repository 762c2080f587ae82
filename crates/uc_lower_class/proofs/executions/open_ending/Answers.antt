use Rattle.uc_lower_class.proofs.Living.{ending_none, ending_on}
use Rattle.uc_lower_class.proofs.executions.open_ending.Goals as goal

pub returns-then-mutex : goal.returns-then-mutex
returns-then-mutex c = λ p. ending_on p c.args.mutex c.args.out.now c.open.new.self c.if-mutex.true c.in_ok-_row.ensures.ok c.in_ok-_row.ensures.kept

pub returns : goal.returns
returns c = λ p. ending_none p c.args.mutex c.args.out.now c.if-mutex.false
