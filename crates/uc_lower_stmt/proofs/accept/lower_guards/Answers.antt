use Rattle.std.proofs.Common.{arith}
use Rattle.uc_lower_stmt.proofs.AcceptingLemmas.{guards_fit, guards_step}
use Rattle.uc_lower_stmt.proofs.accept.lower_guards.Goals as goal

pub lower_guard-requires : goal.lower_guard-requires
lower_guard-requires c =
    let fit = guards_fit c.args.clauses.now c.loop-clause.clause-index c.clause-item.result c.loop-clause-test.true c.clause-item.is in
    let r = c.loop-clause.invariant.room in
    omega (arith, fit, r)

pub loop-clause-preserved : goal.loop-clause-preserved
loop-clause-preserved c = guards_step c.args.names.now c.args.clauses.now c.loop-clause.clause-index c.clause-item.result c.args.line _ _ _ c.loop-clause-test.true c.clause-item.is c.loop-clause.invariant c.in_ok-lower_guard.ensures
