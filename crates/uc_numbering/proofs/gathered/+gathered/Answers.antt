use Rattle.std.proofs.Common.{◌≡◌, ◌∷◌, ◌++◌, refl, subst, ap, sym, ◌∙◌, arith}
use Rattle.std.proofs.lemmas.Result.{on_ok_weaker}
use Rattle.uc_tree.specs.Statements.{stmts_of, handlers_of, clauses_of}
use Rattle.uc_tree.specs.StatementForms.{stmt_at}
use Rattle.std.proofs.lemmas.List.{append-nil}
use Rattle.uc_tree.specs.StatementSizes.{stmts_size, handlers_size, clauses_size}
use Rattle.uc_tree.specs.StatementViews.{maybe_at}
use Rattle.uc_tree.specs.Gathered.{gathered, gathered_all, gathered_maybe, gathered_handler, gathered_handlers, gathered_clause, gathered_clauses}
use Rattle.uc_numbering.specs.Flat.{itself}
use Rattle.uc_numbering.proofs.Put.{seen, holding, holding_two, turned, ended, falls}
use Rattle.uc_numbering.proofs.gathered.+gathered.Goals as goal

pub push_stmt-returns-in-Block : goal.push_stmt-returns-in-Block
push_stmt-returns-in-Block t c = on_ok_weaker c.push_stmts.result (λ e. holding c.args.found.now.items c.push.new.self.items c.args.s c.in_ok-push.ensures.items (gathered_all itself (stmts_of c.in-Block.body.items)) _ (subst (λ x. gathered itself x ≡ x ∷ (gathered_all itself (stmts_of c.in-Block.body.items))) (ap (λ f. stmt_at c.s.inside.pos f) (sym c.in-Block.is) ∙ c.s.view_is) refl) (e ∙ ap (λ b. seen c.push.new.self.items ++ gathered_all itself (stmts_of b)) c.deref.ensures.value)) c.push_stmts.ensures

pub push_stmt-returns-in_ok-push_stmt-in-If : goal.push_stmt-returns-in_ok-push_stmt-in-If
push_stmt-returns-in_ok-push_stmt-in-If t c = on_ok_weaker c.push_maybe.result (λ e. holding_two c.args.found.now.items c.push.new.self.items c.args.s c.in_ok-push.ensures.items (gathered itself c.in-If.chosen.value) (gathered_maybe itself (maybe_at c.in-If.other)) (seen c.push_stmt.new.found.items) _ (subst (λ x. gathered itself x ≡ x ∷ ((gathered itself c.in-If.chosen.value) ++ (gathered_maybe itself (maybe_at c.in-If.other)))) (ap (λ f. stmt_at c.s.inside.pos f) (sym c.in-If.is) ∙ c.s.view_is) refl) (c.in_ok-push_stmt-in-If.ensures ∙ ap (λ x. seen c.push.new.self.items ++ gathered itself x) c.deref-in-If.ensures) e) c.push_maybe.ensures

pub push_stmt-returns-in_ok-push_stmts-in-Try : goal.push_stmt-returns-in_ok-push_stmts-in-Try
push_stmt-returns-in_ok-push_stmts-in-Try t c = on_ok_weaker c.push_handlers.result (λ e. holding_two c.args.found.now.items c.push.new.self.items c.args.s c.in_ok-push.ensures.items (gathered_all itself (stmts_of c.in-Try.body.items)) (gathered_handlers itself (handlers_of c.in-Try.handlers.items)) (seen c.push_stmts-in-Try.new.found.items) _ (subst (λ x. gathered itself x ≡ x ∷ ((gathered_all itself (stmts_of c.in-Try.body.items)) ++ (gathered_handlers itself (handlers_of c.in-Try.handlers.items)))) (ap (λ f. stmt_at c.s.inside.pos f) (sym c.in-Try.is) ∙ c.s.view_is) refl) (c.in_ok-push_stmts-in-Try.ensures ∙ ap (λ b. seen c.push.new.self.items ++ gathered_all itself (stmts_of b)) c.deref-in-Try.ensures.value) (e ∙ ap (λ h. seen c.push_stmts-in-Try.new.found.items ++ gathered_handlers itself (handlers_of h)) c.deref-in-Try-2.ensures.value)) c.push_handlers.ensures

pub push_stmt-returns-in_ok-push_clauses-in-Accept : goal.push_stmt-returns-in_ok-push_clauses-in-Accept
push_stmt-returns-in_ok-push_clauses-in-Accept t c = on_ok_weaker c.push_maybe-in-Accept.result (λ e. holding_two c.args.found.now.items c.push.new.self.items c.args.s c.in_ok-push.ensures.items (gathered_clauses itself (clauses_of c.in-Accept.clauses.items)) (gathered_maybe itself (maybe_at c.in-Accept.other)) (seen c.push_clauses.new.found.items) _ (subst (λ x. gathered itself x ≡ x ∷ ((gathered_clauses itself (clauses_of c.in-Accept.clauses.items)) ++ (gathered_maybe itself (maybe_at c.in-Accept.other)))) (ap (λ f. stmt_at c.s.inside.pos f) (sym c.in-Accept.is) ∙ c.s.view_is) refl) (c.in_ok-push_clauses-in-Accept.ensures ∙ ap (λ x. seen c.push.new.self.items ++ gathered_clauses itself (clauses_of x)) c.deref-in-Accept.ensures.value) e) c.push_maybe-in-Accept.ensures

pub push_stmts-loop-s-init : goal.push_stmts-loop-s-init
push_stmts-loop-s-init t c = (omega arith, refl)

pub push_stmts-loop-s-preserved : goal.push_stmts-loop-s-preserved
push_stmts-loop-s-preserved t c = (falls (λ l. stmts_size (stmts_of l)) c.args.stmts.now c.loop-s.s-index c.s-item.result _ c.loop-s-test.true c.s-item.is (omega arith) c.loop-s.invariant.0, turned (λ l. gathered_all itself (stmts_of l)) c.args.stmts.now c.loop-s.s-index c.s-item.result (gathered itself c.s-item.result) (seen c.loop-s.found.items) (seen c.push_stmt.new.found.items) _ c.loop-s-test.true c.s-item.is refl c.in_ok-push_stmt.ensures c.loop-s.invariant.1)

pub push_stmts-returns : goal.push_stmts-returns
push_stmts-returns t c = ended (λ l. gathered_all itself (stmts_of l)) c.args.stmts.now c.loop-s.s-index (seen c.loop-s.found.items) _ refl c.loop-s-test.false c.loop-s.invariant.1

pub push_handlers-loop-handler-init : goal.push_handlers-loop-handler-init
push_handlers-loop-handler-init t c = (omega arith, refl)

pub push_handlers-loop-handler-preserved : goal.push_handlers-loop-handler-preserved
push_handlers-loop-handler-preserved t c = (falls (λ l. handlers_size (handlers_of l)) c.args.handlers.now c.loop-handler.handler-index c.handler-item.result _ c.loop-handler-test.true c.handler-item.is (omega arith) c.loop-handler.invariant.0, turned (λ l. gathered_handlers itself (handlers_of l)) c.args.handlers.now c.loop-handler.handler-index c.handler-item.result (gathered_handler itself c.handler-item.result) (seen c.loop-handler.found.items) (seen c.push_handler.new.found.items) _ c.loop-handler-test.true c.handler-item.is refl c.in_ok-push_handler.ensures c.loop-handler.invariant.1)

pub push_handlers-returns : goal.push_handlers-returns
push_handlers-returns t c = ended (λ l. gathered_handlers itself (handlers_of l)) c.args.handlers.now c.loop-handler.handler-index (seen c.loop-handler.found.items) _ refl c.loop-handler-test.false c.loop-handler.invariant.1

pub push_clauses-loop-clause-init : goal.push_clauses-loop-clause-init
push_clauses-loop-clause-init t c = (omega arith, refl)

pub push_clauses-loop-clause-preserved : goal.push_clauses-loop-clause-preserved
push_clauses-loop-clause-preserved t c = (falls (λ l. clauses_size (clauses_of l)) c.args.clauses.now c.loop-clause.clause-index c.clause-item.result _ c.loop-clause-test.true c.clause-item.is (omega arith) c.loop-clause.invariant.0, turned (λ l. gathered_clauses itself (clauses_of l)) c.args.clauses.now c.loop-clause.clause-index c.clause-item.result (gathered_clause itself c.clause-item.result) (seen c.loop-clause.found.items) (seen c.push_clause.new.found.items) _ c.loop-clause-test.true c.clause-item.is refl c.in_ok-push_clause.ensures c.loop-clause.invariant.1)

pub push_clauses-returns : goal.push_clauses-returns
push_clauses-returns t c = ended (λ l. gathered_clauses itself (clauses_of l)) c.args.clauses.now c.loop-clause.clause-index (seen c.loop-clause.found.items) _ refl c.loop-clause-test.false c.loop-clause.invariant.1

pub push_handler-returns : goal.push_handler-returns
push_handler-returns t c = on_ok_weaker c.push_stmts.result (λ e. e ∙ ap (λ b. seen c.args.found.now.items ++ gathered_all itself (stmts_of b)) c.deref.ensures.value ∙ ap (λ h. seen c.args.found.now.items ++ gathered_handler itself h) c.handler.view_is) c.push_stmts.ensures

pub push_clause-returns : goal.push_clause-returns
push_clause-returns t c = on_ok_weaker c.push_stmt.result (λ e. e ∙ ap (λ x. seen c.args.found.now.items ++ gathered_clause itself x) c.clause.view_is) c.push_stmt.ensures

pub push_maybe-returns-in-Some : goal.push_maybe-returns-in-Some
push_maybe-returns-in-Some t c = on_ok_weaker c.push_stmt.result (λ e. e ∙ ap (λ x. seen c.args.found.now.items ++ gathered itself x) c.deref.ensures ∙ ap (λ m. seen c.args.found.now.items ++ gathered_maybe itself (maybe_at m)) (sym c.in-Some.is)) c.push_stmt.ensures

pub push_maybe-returns-in-None : goal.push_maybe-returns-in-None
push_maybe-returns-in-None t c = sym (append-nil (seen c.args.found.now.items)) ∙ ap (λ m. seen c.args.found.now.items ++ gathered_maybe itself (maybe_at m)) (sym c.in-None.is)
