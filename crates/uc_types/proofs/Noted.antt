-- Breaks at visits that are joined.
use Rattle.std.proofs.Common.{◌≡◌, List, [], ◌∷◌, ◌++◌, Option, Bool, true, false, ◌&&◌, length, refl, ap, sym, ◌∙◌, arith}
use Rattle.uc_tree.specs.Expressions.{Expr, exprs_of}
use Rattle.uc_rules.specs.declared.rule.Break.{Break}
use Rattle.uc_rules.specs.Entities.{count}
use Rattle.uc_rules.specs.Firsts.{sooner, after}
use Rattle.uc_rules.specs.Visits.{Visit}
use Rattle.uc_rules.specs.ExpressionBreaks.{undeclared, main_called, no_scalar, no_place, no_routine, no_loop, bad_clause, no_event, no_handler, no_stream}
use Rattle.uc_rules.specs.OwnerBreaks.{unshared_reference, field_outside, called_outside, lone_condition, unbound_reference, unowned_argument, copied_object, no_target}
use Rattle.uc_rules.specs.Breaks.{declared_twice, no_main, within_itself, badly_defined, badly_mained, bad_argument, bad_return, no_length, no_constant, bad_start, bad_init, not_open, badly_marked, bad_event, breaks_at, breaks_among}
use Rattle.uc_types.specs.FirstBreak.{first_break_after, with_visits}

pub after_append : (f : Option Break) (a b : List Break) → after f (a ++ b) ≡ after (after f a) b
after_append f [] b = refl
after_append f (x ∷ a) b = after_append (sooner f x) a b

pub noted_append : (f : Option Break) (a b : List Visit) → with_visits f (a ++ b) ≡ with_visits (with_visits f a) b
noted_append f [] b = refl
noted_append f (v ∷ a) b = noted_append (first_break_after f v) a b

-- the breaks at one visit, rule by rule
told_is : (f : Option Break) (v : Visit) → first_break_after f v ≡ after f (breaks_at v)
told_is f v = sym (
    after_append f (undeclared v) _
    ∙ after_append _ (declared_twice v) _
    ∙ after_append _ (no_main v) _
    ∙ after_append _ (within_itself v) _
    ∙ after_append _ (badly_defined v) _
    ∙ after_append _ (badly_mained v) _
    ∙ after_append _ (main_called v) _
    ∙ after_append _ (no_scalar v) _
    ∙ after_append _ (no_place v) _
    ∙ after_append _ (no_routine v) _
    ∙ after_append _ (bad_argument v) _
    ∙ after_append _ (bad_return v) _
    ∙ after_append _ (no_loop v) _
    ∙ after_append _ (no_length v) _
    ∙ after_append _ (no_constant v) _
    ∙ after_append _ (bad_start v) _
    ∙ after_append _ (bad_init v) _
    ∙ after_append _ (not_open v) _
    ∙ after_append _ (badly_marked v) _
    ∙ after_append _ (bad_clause v) _
    ∙ after_append _ (no_event v) _
    ∙ after_append _ (bad_event v) _
    ∙ after_append _ (no_handler v) _
    ∙ after_append _ (no_stream v) _
    ∙ after_append _ (unshared_reference v) _
    ∙ after_append _ (field_outside v) _
    ∙ after_append _ (called_outside v) _
    ∙ after_append _ (lone_condition v) _
    ∙ after_append _ (unbound_reference v) _
    ∙ after_append _ (unowned_argument v) _
    ∙ after_append _ (copied_object v) _
    ∙ after_append _ (no_target v) _)

pub noted_is : (f : Option Break) (vs : List Visit) → with_visits f vs ≡ after f (breaks_among vs)
noted_is f [] = refl
noted_is f (v ∷ vs) = noted_is (first_break_after f v) vs ∙ ap (λ g. after g (breaks_among vs)) (told_is f v) ∙ sym (after_append f (breaks_at v) (breaks_among vs))

pub count_is : (es : List Expr) → count (exprs_of es) ≡ length es
count_is [] = refl
count_is (e ∷ es) = omega (arith, count_is es)

pub and_again : (a b c : Bool) → (a && b) && c ≡ a && (b && c)
and_again true b c = refl
and_again false b c = refl

pub ruleset noting = (noted_append, count_is, and_again)
