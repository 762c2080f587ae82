use Rattle.std.proofs.Common.{refl}
use Rattle.uc_rules.specs.Scopes.{with_param, with_params}
use Rattle.uc_check_stmt.proofs.Walks.{names_more}
use Rattle.uc_front.proofs.walk.add_params.Goals as goal

pub loop-param-preserved : goal.loop-param-preserved
loop-param-preserved c = names_more with_param with_params (λ env x xs. refl) c.loop-param.names _ _ c.args.params.now c.loop-param.param-index c.param-item.result c.loop-param-test.true c.param-item.is c.in_ok-add_param.ensures c.loop-param.invariant
