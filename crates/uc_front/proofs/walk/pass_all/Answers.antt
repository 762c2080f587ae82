use Rattle.std.proofs.Common.{refl}
use Rattle.uc_tree.specs.Statements.{stmts_of}
use Rattle.uc_rules.specs.Scopes.{env_after, env_behind}
use Rattle.uc_check_stmt.proofs.Walks.{names_more}
use Rattle.uc_front.proofs.walk.pass_all.Goals as goal

pub loop-s-preserved : goal.loop-s-preserved
loop-s-preserved c = names_more env_after (λ env ss. env_behind env (stmts_of ss)) (λ env x xs. refl) c.loop-s.names _ _ c.args.body.now c.loop-s.s-index c.s-item.result c.loop-s-test.true c.s-item.is c.in_ok-pass.ensures c.loop-s.invariant
