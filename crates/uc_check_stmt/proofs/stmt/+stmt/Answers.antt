use Rattle.std.proofs.Common.{refl, ap, ◌∙◌}
use Rattle.uc_tree.specs.Statements.{stmts_of, handlers_of, clauses_of}
use Rattle.uc_rules.specs.Scopes.{env_after, env_behind}
use Rattle.uc_rules.specs.Visits.{stmt_visits, stmts_visits, handler_visits, handlers_visits, clause_visits, clauses_visits}
use Rattle.uc_types.specs.FirstBreak.{with_visits}
use Rattle.uc_check_stmt.proofs.Walks.{names_more, walked_more, noted_more, stmts_fall, handlers_fall, clauses_fall}
use Rattle.uc_check_stmt.proofs.stmt.+stmt.Goals as goal

pub check_stmts-loop-s-preserved : goal.check_stmts-loop-s-preserved
check_stmts-loop-s-preserved t c = record {
  size = stmts_fall c.args.body.now c.loop-s.s-index c.s-item.result _ c.loop-s-test.true c.s-item.is c.loop-s.invariant.size;
  names = names_more env_after (λ env ss. env_behind env (stmts_of ss)) (λ env s ss. refl) c.loop-s.names _ _ c.args.body.now c.loop-s.s-index c.s-item.result c.loop-s-test.true c.s-item.is c.in_ok-check_stmt.ensures.names c.loop-s.invariant.names;
  breaks = walked_more (λ env s. stmt_visits s env) env_after (λ env ss. stmts_visits (stmts_of ss) env) (λ env s ss. refl) c.loop-s.names _ c.args.body.now c.loop-s.s-index c.s-item.result _ _ _ c.loop-s-test.true c.s-item.is c.in_ok-check_stmt.ensures.names c.in_ok-check_stmt.ensures.breaks c.loop-s.invariant.breaks;
}

pub check_handlers-loop-handler-preserved : goal.check_handlers-loop-handler-preserved
check_handlers-loop-handler-preserved t c = record {
  size = handlers_fall c.args.handlers.now c.loop-handler.handler-index c.handler-item.result _ c.loop-handler-test.true c.handler-item.is c.loop-handler.invariant.size;
  names = c.in_ok-check_handler.ensures.names ∙ c.loop-handler.invariant.names;
  breaks = noted_more (λ h. handler_visits h c.args.names.now) (λ hs. handlers_visits (handlers_of hs) c.args.names.now) (λ h hs. refl) c.args.handlers.now c.loop-handler.handler-index c.handler-item.result _ _ _ c.loop-handler-test.true c.handler-item.is (c.in_ok-check_handler.ensures.breaks ∙ ap (λ e. with_visits c.loop-handler.found (handler_visits c.handler-item.result e)) c.loop-handler.invariant.names) c.loop-handler.invariant.breaks;
}

pub check_clauses-loop-clause-preserved : goal.check_clauses-loop-clause-preserved
check_clauses-loop-clause-preserved t c = record {
  size = clauses_fall c.args.clauses.now c.loop-clause.clause-index c.clause-item.result _ c.loop-clause-test.true c.clause-item.is c.loop-clause.invariant.size;
  names = c.in_ok-check_clause.ensures.names ∙ c.loop-clause.invariant.names;
  breaks = noted_more (λ x. clause_visits x c.args.names.now) (λ xs. clauses_visits (clauses_of xs) c.args.names.now) (λ x xs. refl) c.args.clauses.now c.loop-clause.clause-index c.clause-item.result _ _ _ c.loop-clause-test.true c.clause-item.is (c.in_ok-check_clause.ensures.breaks ∙ ap (λ e. with_visits c.loop-clause.found (clause_visits c.clause-item.result e)) c.loop-clause.invariant.names) c.loop-clause.invariant.breaks;
}
