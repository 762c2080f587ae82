-- One more of a list that is walked.
use Rattle.std.proofs.Common.{◌≡◌, ℕ, ◌+◌, ◌<◌, ◌≤◌, List, ◌∷◌, ◌++◌, Option, length, get_or, drop, ap, sym, ◌∙◌, arith}
use Rattle.std.proofs.lemmas.List.{at_drop_more}
use Rattle.uc_tree.specs.Statements.{Stmt, Handler, Clause, stmts_of, handlers_of, clauses_of}
use Rattle.uc_tree.specs.StatementSizes.{stmt_size, stmts_size, handler_size, handlers_size, clause_size, clauses_size}
use Rattle.uc_rules.specs.declared.rule.Break.{Break}
use Rattle.uc_rules.specs.Scopes.{Env}
use Rattle.uc_rules.specs.Visits.{Visit}
use Rattle.uc_types.specs.FirstBreak.{with_visits}
use Rattle.uc_check_stmt.proofs.Joined.{noted_append}

pub split : {A : Type 0} (xs : List A) (i : ℕ) (x : A) → i < length xs → x ≡ get_or xs i x → drop i xs ≡ x ∷ drop (i + 1) xs
split xs i x h e = at_drop_more (λ l. l) xs i x h ∙ ap (λ y. y ∷ drop (i + 1) xs) (sym e)

-- one more of a list whose visits are those of its elements
pub noted_more : {A : Type 0} (own : A → List Visit) (all : List A → List Visit) → ((x : A) (xs : List A) → all (x ∷ xs) ≡ own x ++ all xs) → (xs : List A) (i : ℕ) (x : A) (f g r : Option Break) → i < length xs → x ≡ get_or xs i x → g ≡ with_visits f (own x) → with_visits f (all (drop i xs)) ≡ r → with_visits g (all (drop (i + 1) xs)) ≡ r
noted_more own all opens xs i x f g r h k b inv =
    let rest = all (drop (i + 1) xs) in
    ap (λ y. with_visits y rest) b
    ∙ sym (noted_append f (own x) rest)
    ∙ ap (λ l. with_visits f l) (sym (ap (λ l. all l) (split xs i x h k) ∙ opens x (drop (i + 1) xs)))
    ∙ inv

-- one more declarator or statement, behind which other names are in scope
pub names_more : {A : Type 0} (next : Env → A → Env) (behind : Env → List A → Env) → ((env : Env) (x : A) (xs : List A) → behind env (x ∷ xs) ≡ behind (next env x) xs) → (env now r : Env) (xs : List A) (i : ℕ) (x : A) → i < length xs → x ≡ get_or xs i x → now ≡ next env x → behind env (drop i xs) ≡ r → behind now (drop (i + 1) xs) ≡ r
names_more next behind opens env now r xs i x h k a inv =
    ap (λ y. behind y (drop (i + 1) xs)) a ∙ sym (ap (λ l. behind env l) (split xs i x h k) ∙ opens env x (drop (i + 1) xs)) ∙ inv

pub walked_more : {A : Type 0} (own : Env → A → List Visit) (next : Env → A → Env) (all : Env → List A → List Visit) → ((env : Env) (x : A) (xs : List A) → all env (x ∷ xs) ≡ own env x ++ all (next env x) xs) → (env now : Env) (xs : List A) (i : ℕ) (x : A) (f g r : Option Break) → i < length xs → x ≡ get_or xs i x → now ≡ next env x → g ≡ with_visits f (own env x) → with_visits f (all env (drop i xs)) ≡ r → with_visits g (all now (drop (i + 1) xs)) ≡ r
walked_more own next all opens env now xs i x f g r h k a b inv =
    let rest = drop (i + 1) xs in
    ap (λ y. with_visits g (all y rest)) a
    ∙ ap (λ y. with_visits y (all (next env x) rest)) b
    ∙ sym (noted_append f (own env x) (all (next env x) rest))
    ∙ ap (λ l. with_visits f l) (sym (ap (λ l. all env l) (split xs i x h k) ∙ opens env x rest))
    ∙ inv

pub stmts_fall : (ss : List Stmt) (i : ℕ) (s : Stmt) (n : ℕ) → i < length ss → s ≡ get_or ss i s → stmts_size (stmts_of (drop i ss)) ≤ n → stmts_size (stmts_of (drop (i + 1) ss)) ≤ n
stmts_fall ss i s n h k inv =
    let more : stmts_size (stmts_of (drop i ss)) ≡ stmt_size s + stmts_size (stmts_of (drop (i + 1) ss)) = ap (λ l. stmts_size (stmts_of l)) (split ss i s h k) in
    omega arith

pub handlers_fall : (hs : List Handler) (i : ℕ) (h : Handler) (n : ℕ) → i < length hs → h ≡ get_or hs i h → handlers_size (handlers_of (drop i hs)) ≤ n → handlers_size (handlers_of (drop (i + 1) hs)) ≤ n
handlers_fall hs i h n p k inv =
    let more : handlers_size (handlers_of (drop i hs)) ≡ handler_size h + handlers_size (handlers_of (drop (i + 1) hs)) = ap (λ l. handlers_size (handlers_of l)) (split hs i h p k) in
    omega arith

pub clauses_fall : (cs : List Clause) (i : ℕ) (x : Clause) (n : ℕ) → i < length cs → x ≡ get_or cs i x → clauses_size (clauses_of (drop i cs)) ≤ n → clauses_size (clauses_of (drop (i + 1) cs)) ≤ n
clauses_fall cs i x n p k inv =
    let more : clauses_size (clauses_of (drop i cs)) ≡ clause_size x + clauses_size (clauses_of (drop (i + 1) cs)) = ap (λ l. clauses_size (clauses_of l)) (split cs i x p k) in
    omega arith
