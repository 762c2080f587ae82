use Rattle.std.proofs.Common.{refl, [], ◌∷◌}
use Rattle.uc_rules.specs.ProgramVisits.{params_visits}
use Rattle.uc_rules.specs.Scopes.{with_param, with_params}
use Rattle.uc_rules.specs.Visits.{AtBase, AtParam}
use Rattle.uc_check_stmt.proofs.Walks.{names_more, walked_more}
use Rattle.uc_classes.proofs.body.check_params.Goals as goal

pub loop-param-preserved : goal.loop-param-preserved
loop-param-preserved c = record {
  names = names_more with_param with_params (λ env x xs. refl) c.loop-param.names _ _ c.args.params.now c.loop-param.param-index c.param-item.result c.loop-param-test.true c.param-item.is c.in_ok-add_param.ensures c.loop-param.invariant.names;
  breaks = walked_more (λ env x. AtBase env x.pos x.base ∷ (AtParam env x ∷ [])) with_param params_visits (λ env x xs. refl) c.loop-param.names _ c.args.params.now c.loop-param.param-index c.param-item.result _ _ _ c.loop-param-test.true c.param-item.is c.in_ok-add_param.ensures c.check_param.ensures c.loop-param.invariant.breaks;
}
