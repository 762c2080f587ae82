use Rattle.std.proofs.Common.{rules, length, refl, ap, ◌∙◌, arith}
use Rattle.std.proofs.lemmas.Option.{slice_get_past, slice_get_read}
use Rattle.uc_front.specs.Places.{env_from}
use Rattle.uc_front.proofs.PlaceLemmas.{clause_is, clause_none, handler_is, handler_none, nth_ends, nth_goes, nth_none}
use Rattle.uc_front.proofs.walk.+follow.Goals as goal

pub enter_clauses-returns-in_ok-there-in-Some : goal.enter_clauses-returns-in_ok-there-in-Some
enter_clauses-returns-in_ok-there-in-Some t c =
    ap (λ o. env_from o c.args.steps.now) (clause_is c.args.names.now c.args.clauses.now c.args.number c.in-Some.clause.now (slice_get_read c.args.clauses.now (length c.args.clauses.now) c.args.number c.in-Some.clause.now refl (search rules) (search rules))) ∙ c.in_ok-there-in-Some.ensures

pub enter_clauses-returns-in-None : goal.enter_clauses-returns-in-None
enter_clauses-returns-in-None t c = ap (λ o. env_from o c.args.steps.now) (clause_none c.args.names.now c.args.clauses.now c.args.number (slice_get_past c.args.clauses.now c.args.number (search rules)))

pub enter_handlers-returns-in_ok-there-in-Some : goal.enter_handlers-returns-in_ok-there-in-Some
enter_handlers-returns-in_ok-there-in-Some t c =
    ap (λ o. env_from o c.args.steps.now) (handler_is c.args.names.now c.args.handlers.now c.args.number c.in-Some.handler.now (slice_get_read c.args.handlers.now (length c.args.handlers.now) c.args.number c.in-Some.handler.now refl (search rules) (search rules))) ∙ c.in_ok-there-in-Some.ensures

pub enter_handlers-returns-in-None : goal.enter_handlers-returns-in-None
enter_handlers-returns-in-None t c = ap (λ o. env_from o c.args.steps.now) (handler_none c.args.names.now c.args.handlers.now c.args.number (slice_get_past c.args.handlers.now c.args.number (search rules)))

pub enter_nth-returns-then-body-number : goal.enter_nth-returns-then-body-number
enter_nth-returns-then-body-number t c = nth_none c.args.names.now c.args.names.now c.args.body.now c.args.number c.args.steps.now (omega (arith, c.if-body-number.true))

pub enter_nth-returns-in_ok-there-in-Some : goal.enter_nth-returns-in_ok-there-in-Some
enter_nth-returns-in_ok-there-in-Some t c = nth_goes c.args.names.now _ c.args.body.now c.args.number c.in-Some.s.now c.args.steps.now _ (slice_get_read c.args.body.now (length c.args.body.now) c.args.number c.in-Some.s.now refl (search rules) (search rules)) c.in_ok-pass_all.ensures c.in_ok-there-in-Some.ensures

pub enter_nth-returns-in-None : goal.enter_nth-returns-in-None
enter_nth-returns-in-None t c = nth_ends c.args.names.now _ c.args.body.now c.args.number c.args.steps.now c.is_end.result (omega (arith, c.if-body-number.false)) (slice_get_past c.args.body.now c.args.number (search rules)) c.in_ok-pass_all.ensures c.is_end.ensures
