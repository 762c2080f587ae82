use Rattle.std.proofs.Common.{true, false, sym, ◌∙◌}
use Rattle.uc_coroutine.proofs.Ended.{call_left}
use Rattle.uc_coroutine.proofs.testing.end_call.Goals as goal

pub returns-then-arrives-clause-source : goal.returns-then-arrives-clause-source
returns-then-arrives-clause-source c =
    λ source code s h line o k. call_left source code c.args.work.now c.arrive.new.self s h true c.args.arrived c.args.unwound line o k (sym c.if-arrives.true ∙ c.arrives.ensures) c.in_ok-arrive.ensures.ok

pub returns-clause-source : goal.returns-clause-source
returns-clause-source c =
    λ source code s h line o k. call_left source code c.args.work.now c.set_next.new.self s h false c.args.arrived c.args.unwound line o k (sym c.if-arrives.false ∙ c.arrives.ensures) c.set_next.ensures
