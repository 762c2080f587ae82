use Rattle.std.proofs.Common.{refl}
use Rattle.uc_rules.specs.Scopes.{declared, all_declared}
use Rattle.uc_check_stmt.proofs.Walks.{names_more}
use Rattle.uc_front.proofs.walk.declare_all.Goals as goal

pub loop-declarator-preserved : goal.loop-declarator-preserved
loop-declarator-preserved c = names_more (λ env d. declared env c.args.base.now d) (λ env ds. all_declared env c.args.base.now ds) (λ env x xs. refl) c.loop-declarator.names _ _ c.args.declarators.now c.loop-declarator.declarator-index c.declarator-item.result c.loop-declarator-test.true c.declarator-item.is c.in_ok-declare.ensures c.loop-declarator.invariant
