use Rattle.std.proofs.Common.{◌≡◌, [], ◌∷◌, ap, sym, ◌∙◌}
use Rattle.uc_tree.specs.Expressions.{expr_pos}
use Rattle.uc_rules.specs.Entities.{entity_of}
use Rattle.uc_rules.specs.ProgramVisits.{argument_env}
use Rattle.uc_rules.specs.Scopes.{with_around}
use Rattle.uc_rules.specs.Visits as visit
use Rattle.uc_rules.specs.Visits.{AtArgument, AtBound}
use Rattle.uc_types.specs.FirstBreak.{with_visits, first_break_after}
use Rattle.uc_check_stmt.proofs.Joined.{noted_append}
use Rattle.uc_classes.proofs.Inside.{same_inside}
use Rattle.uc_classes.proofs.Walked.{back_around}
use Rattle.uc_classes.proofs.init.check_init_arg.Goals as goal

pub returns-clause-entity : goal.returns-clause-entity
returns-clause-entity c =
    let e = c.args.e.now in
    c.check_expr-entity.ensures.entity ∙ ap (λ n. entity_of n e) c.enter_argument.ensures ∙ same_inside c.args.names.now c.args.field e c.args.expected

pub returns-clause-breaks : goal.returns-clause-breaks
returns-clause-breaks c =
    let env = c.args.names.now in
    let e = c.args.e.now in
    let x = c.args.expected in
    let f = c.args.found.now in
    let inside = argument_env env c.args.field e x in
    let found = c.check_expr-entity.new.found in
    let entered : c.enter_argument.new.names ≡ inside = c.enter_argument.ensures in
    let entity : c.check_expr-entity.result ≡ entity_of inside e = c.check_expr-entity.ensures.entity ∙ ap (λ n. entity_of n e) entered in
    let walked : found ≡ with_visits f (visit.visits inside e) = c.check_expr-entity.ensures.breaks ∙ ap (λ n. with_visits f (visit.visits n e)) entered in
    let asked : c.ask_argument-fits.new.found ≡ first_break_after (with_visits f (visit.visits inside e)) (AtArgument (expr_pos e) x (entity_of inside e)) =
    c.ask_argument-fits.ensures.breaks
    ∙ ap (λ p. first_break_after found (AtArgument p x c.check_expr-entity.result)) c.first_token.ensures
    ∙ ap (λ w. first_break_after found (AtArgument (expr_pos e) x w)) entity
    ∙ ap (λ g. first_break_after g (AtArgument (expr_pos e) x (entity_of inside e))) walked in
    let back : c.set_around.new.self ≡ env =
    c.set_around.ensures ∙ ap (λ n. with_around n c.around-around.result) entered ∙ ap (λ a. with_around inside a) c.around-around.ensures ∙ back_around env c.args.field e x in
    c.note_bound.ensures
    ∙ ap (λ n. first_break_after c.ask_argument-fits.new.found (AtBound n e x)) back
    ∙ ap (λ g. first_break_after g (AtBound env e x)) asked
    ∙ sym (noted_append f (visit.visits inside e) (AtArgument (expr_pos e) x (entity_of inside e) ∷ (AtBound env e x ∷ [])))
