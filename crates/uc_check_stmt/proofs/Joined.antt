-- Breaks at visits that are joined.
use Rattle.std.proofs.Common.{◌≡◌, List, [], ◌∷◌, ◌++◌, Option, Bool, true, false, ◌&&◌, length, refl, arith}
use Rattle.uc_tree.specs.Expressions.{Expr, exprs_of}
use Rattle.uc_rules.specs.declared.rule.Break.{Break}
use Rattle.uc_rules.specs.Entities.{count}
use Rattle.uc_rules.specs.Firsts.{sooner, after}
use Rattle.uc_rules.specs.Visits.{Visit}
use Rattle.uc_types.specs.FirstBreak.{first_break_after, with_visits}

pub noted_append : (f : Option Break) (a b : List Visit) → with_visits f (a ++ b) ≡ with_visits (with_visits f a) b
noted_append f [] b = refl
noted_append f (v ∷ a) b = noted_append (first_break_after f v) a b

pub count_is : (es : List Expr) → count (exprs_of es) ≡ length es
count_is [] = refl
count_is (e ∷ es) = omega (arith, count_is es)

pub after_append : (f : Option Break) (a b : List Break) → after f (a ++ b) ≡ after (after f a) b
after_append f [] b = refl
after_append f (x ∷ a) b = after_append (sooner f x) a b

pub and_again : (a b c : Bool) → (a && b) && c ≡ a && (b && c)
and_again true b c = refl
and_again false b c = refl

pub ruleset joining = (noted_append, count_is, after_append, and_again)
