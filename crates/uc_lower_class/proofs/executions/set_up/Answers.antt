use Rattle.uc_lower_class.proofs.Living.{set_up_none, set_up_on}
use Rattle.uc_lower_class.proofs.executions.set_up.Goals as goal

pub returns-then-coroutine : goal.returns-then-coroutine
returns-then-coroutine c =
    set_up_on c.args.names.now c.args.coroutine c.args.class c.main_of.result c.args.parts.now.items c.open_part.new.parts.items c.args.out.now c.put.new.out c.open_part.new.out c.if-coroutine.true c.main_of.ensures c.in_ok-put.ensures c.in_ok-open_part.ensures

pub returns : goal.returns
returns c = set_up_none c.args.names.now c.args.coroutine c.args.class c.args.parts.now.items c.args.out.now c.if-coroutine.false
