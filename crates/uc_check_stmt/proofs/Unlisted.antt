-- Where no class is round an accept statement nothing that it lists has a number.
use Rattle.std.proofs.Common.{◌≡◌, ℕ, ◌+◌, ◌<◌, List, [], ◌∷◌, true, false, ◌&&◌, Option, None, nat_lt, length, map, get_or, drop, refl, sym, ap, ◌∙◌, arith}
use Rattle.std.proofs.lemmas.Bool.Decides.{nat_tests}
use Rattle.std.specs.Bool.{◌==◌}
use Rattle.uc_tree.specs.declared.kinds.MemberName.{MemberName}
use Rattle.uc_tree.specs.declared.limits.TheConstants.{CLAUSES}
use Rattle.uc_tree.specs.declared.pos.Pos.{Pos}
use Rattle.uc_tree.specs.Expressions.{Expr}
use Rattle.uc_tree.specs.Statements.{Stmt, Clause, Accepts, clauses_of}
use Rattle.uc_rules.specs.declared.rule.Rule.TheVariants.{S20}
use Rattle.uc_rules.specs.declared.rule.Break.{Break}
use Rattle.uc_rules.specs.declared.rules.NameMeaning.{NameMeaning}
use Rattle.uc_rules.specs.Asked.{unless}
use Rattle.uc_rules.specs.ExpressionBreaks.{all_listed, are_fresh, clauses_breaks, listed_in}
use Rattle.uc_rules.specs.Firsts.{after}
use Rattle.uc_check_stmt.proofs.Joined.{after_append}
use Rattle.uc_check_stmt.proofs.Walks.{split}

pub unlisted : (meant : List ℕ → Option NameMeaning) (ms : List MemberName) → all_listed [] (map (listed_in meant None) ms) ≡ []
unlisted meant [] = refl
unlisted meant (m ∷ ms) = unlisted meant ms

none_there : (length {A = MemberName} [] == 0) ≡ true
none_there = grind (arith, nat_tests)

some_there : (m : MemberName) (ms : List MemberName) → (length (m ∷ ms) == 0) ≡ false
some_there m ms = grind (arith, nat_tests)

pub none_fresh : (meant : List ℕ → Option NameMeaning) (ms : List MemberName) → are_fresh [] (map (listed_in meant None) ms) ≡ (length ms == 0)
none_fresh meant [] = sym none_there
none_fresh meant (m ∷ ms) = sym (some_there m ms)

-- one more clause where no class is round the statement
pub unowned_more : (meant : List ℕ → Option NameMeaning) (cs : List Clause) (i : ℕ) (x : Clause) (p : Pos) (guard : Option Expr) (members : List MemberName) (body : Stmt) (f g r : Option Break) → i < length cs → x ≡ get_or cs i x → Accepts p guard members body ≡ x → g ≡ after f (unless (nat_lt i CLAUSES && are_fresh [] (map (listed_in meant None) members)) S20 p) → after f (clauses_breaks meant None i [] (clauses_of (drop i cs))) ≡ r → after g (clauses_breaks meant None (i + 1) [] (clauses_of (drop (i + 1) cs))) ≡ r
unowned_more meant cs i x p guard members body f g r h k view noted inv =
    let rest = drop (i + 1) cs in
    let own = unless (nat_lt i CLAUSES && are_fresh [] (map (listed_in meant None) members)) S20 p in
    let parted : drop i cs ≡ Accepts p guard members body ∷ rest = split cs i x h k ∙ ap (λ y. y ∷ rest) (sym view) in
    ap (λ y. after y (clauses_breaks meant None (i + 1) [] (clauses_of rest))) noted
    ∙ ap (λ s. after (after f own) (clauses_breaks meant None (i + 1) s (clauses_of rest))) (sym (unlisted meant members))
    ∙ sym (after_append f own (clauses_breaks meant None (i + 1) (all_listed [] (map (listed_in meant None) members)) (clauses_of rest)))
    ∙ ap (λ l. after f (clauses_breaks meant None i [] (clauses_of l))) (sym parted)
    ∙ inv
