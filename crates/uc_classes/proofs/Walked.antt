-- One more of a list that is walked with a state.
use Rattle.std.proofs.Common.{◌≡◌, ℕ, ◌+◌, ◌<◌, List, ◌∷◌, ◌++◌, Option, length, get_or, Some, None, refl, drop, ap, sym, ◌∙◌}
use Rattle.std.specs.Prelude.{slice_get}
use Rattle.std.proofs.lemmas.Option.{slice_get-get_or}
use Rattle.uc_rules.specs.declared.rule.Break.{Break}
use Rattle.uc_tree.specs.Expressions.{Expr}
use Rattle.uc_rules.specs.declared.rules.Expected.{Expected}
use Rattle.uc_rules.specs.declared.rules.FieldPlace.{FieldPlace}
use Rattle.uc_rules.specs.ProgramVisits.{argument_env}
use Rattle.uc_rules.specs.Scopes.{Env, with_around}
use Rattle.uc_rules.specs.Visits.{Visit}
use Rattle.uc_types.specs.FirstBreak.{with_visits}
use Rattle.uc_check_stmt.proofs.Joined.{noted_append}
use Rattle.uc_check_stmt.proofs.Walks.{split}

pub walked_by : {S A : Type 0} (own : S → A → List Visit) (next : S → A → S) (all : S → List A → List Visit) → ((s : S) (x : A) (xs : List A) → all s (x ∷ xs) ≡ own s x ++ all (next s x) xs) → (s now : S) (xs : List A) (i : ℕ) (x : A) (f g r : Option Break) → i < length xs → x ≡ get_or xs i x → now ≡ next s x → g ≡ with_visits f (own s x) → with_visits f (all s (drop i xs)) ≡ r → with_visits g (all now (drop (i + 1) xs)) ≡ r
walked_by own next all opens s now xs i x f g r h k a b inv =
    let rest = drop (i + 1) xs in
    ap (λ y. with_visits g (all y rest)) a
    ∙ ap (λ y. with_visits y (all (next s x) rest)) b
    ∙ sym (noted_append f (own s x) (all (next s x) rest))
    ∙ ap (λ l. with_visits f l) (sym (ap (λ l. all s l) (split xs i x h k) ∙ opens s x rest))
    ∙ inv

-- what stands at a place of a list
pub got : {A : Type 0} (xs : List A) (i : ℕ) (x : A) → i < length xs → x ≡ get_or xs i x → slice_get xs i ≡ Some x
got xs i x h e = slice_get-get_or xs i x h ∙ ap Some (sym e)

-- behind an argument of an initialiser what stands round it is that before
pub back_around : (env : Env) (field : Option FieldPlace) (e : Expr) (x : Expected) → with_around (argument_env env field e x) env.around ≡ env
back_around env None e x = refl
back_around env (Some field) e x = refl
