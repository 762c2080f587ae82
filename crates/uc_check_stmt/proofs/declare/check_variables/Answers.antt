use Rattle.std.proofs.Common.{refl}
use Rattle.uc_rules.specs.Scopes.{declared, all_declared}
use Rattle.uc_rules.specs.Visits.{variable_visits, variables_visits}
use Rattle.uc_check_stmt.proofs.Walks.{names_more, walked_more}
use Rattle.uc_check_stmt.proofs.declare.check_variables.Goals as goal

pub loop-declarator-preserved : goal.loop-declarator-preserved
loop-declarator-preserved c =
    let b = c.args.base.now in
    record {
      names = names_more (λ env d. declared env b d) (λ env ds. all_declared env b ds) (λ env d ds. refl) c.loop-declarator.names _ _ c.args.declarators.now c.loop-declarator.declarator-index c.declarator-item.result c.loop-declarator-test.true c.declarator-item.is c.in_ok-declare.ensures c.loop-declarator.invariant.names;
      breaks = walked_more (λ env d. variable_visits env b d) (λ env d. declared env b d) (λ env ds. variables_visits env b ds) (λ env d ds. refl) c.loop-declarator.names _ c.args.declarators.now c.loop-declarator.declarator-index c.declarator-item.result _ _ _ c.loop-declarator-test.true c.declarator-item.is c.in_ok-declare.ensures c.check_variable.ensures c.loop-declarator.invariant.breaks;
    }
