-- The generated program breaks no rule.
use Rattle.std.proofs.Common.{◌≡◌, ℕ, zero, suc, ◌<◌, ◌≤◌, Bool, true, false, ◌||◌, List, [], ◌∷◌, ◌++◌, refl, sym, ap, ◌∙◌, subst, append_assoc, arith}
use Rattle.std.specs.Prelude.{decimal, codes, Some, None}
use Rattle.std.specs.List.{list_any}
use Rattle.std.proofs.lemmas.Fmt.{decimal_injective}
use lib.Pointwise.{bytes_decides}
use Rattle.uc_tree.specs.declared.kinds.Kind.TheVariants as kind
use Rattle.uc_tree.specs.declared.kinds.Role.TheVariants as role
use Rattle.uc_tree.specs.declared.scan.ScanPlace.{ScanPlace}
use Rattle.uc_tree.specs.Names.{same_name}
use Rattle.uc_tree.specs.Rows.{reaches, cells_within}
use Rattle.uc_tree.specs.Statements.{Stmt, stmts_of}
use Rattle.uc_make.specs.Generated.{workers}
use Rattle.uc_rules.specs.declared.rules.Sort.TheVariants.{Object}
use Rattle.uc_rules.specs.declared.rules.Entity.TheVariants.{Place as AtPlace}
use Rattle.uc_rules.specs.declared.rules.Origin.TheVariants as origin
use Rattle.uc_rules.specs.declared.rules.LocalName.{LocalName}
use Rattle.uc_rules.specs.declared.rules.Surroundings.{Surroundings}
use Rattle.uc_rules.specs.Scopes.{Env, local_named, later_or, env_after, env_behind}
use Rattle.uc_rules.specs.Visits.{Visit, stmt_visits, stmts_visits}
use Rattle.uc_rules.specs.Breaks.{breaks_at, breaks_among, breaks_of}
use Rattle.uc_made.proofs.Lexing.{past}
use Rattle.uc_made.proofs.GeneratedTokens.{front_end}
use Rattle.uc_made.proofs.Trees.{worker_stmt, workers_stmts, no_stmts, more_stmts, count_stmt, program_with, made}

-- breaks of visits, one after another

among_both : (xs ys : List Visit) → breaks_among (xs ++ ys) ≡ breaks_among xs ++ breaks_among ys
among_both [] ys = refl
among_both (x ∷ xs) ys = ap (λ l. breaks_at x ++ l) (among_both xs ys) ∙ sym (append_assoc (breaks_at x) (breaks_among xs) (breaks_among ys))

none_among : (xs ys : List Visit) → breaks_among xs ≡ [] → breaks_among ys ≡ [] → breaks_among (xs ++ ys) ≡ []
none_among xs ys e f = among_both xs ys ∙ ap (λ l. l ++ breaks_among ys) e ∙ f

-- statements, one after another

visits_more : (ss : List Stmt) (s : Stmt) (env : Env) → stmts_visits (stmts_of (ss ++ s ∷ [])) env ≡ stmts_visits (stmts_of ss) env ++ (stmt_visits s (env_behind env (stmts_of ss)) ++ [])
visits_more [] s env = refl
visits_more (r ∷ ss) s env = ap (λ l. stmt_visits r env ++ l) (visits_more ss s (env_after env r)) ∙ sym (append_assoc (stmt_visits r env) (stmts_visits (stmts_of ss) (env_after env r)) (stmt_visits s (env_behind (env_after env r) (stmts_of ss)) ++ []))

env_more : (ss : List Stmt) (s : Stmt) (env : Env) → env_behind env (stmts_of (ss ++ s ∷ [])) ≡ env_after (env_behind env (stmts_of ss)) s
env_more [] s env = refl
env_more (r ∷ ss) s env = env_more ss s (env_after env r)

-- the names of workers

abbrev worker_seen : ℕ → LocalName
worker_seen k = record { name = 119 ∷ decimal k; meant = record { entity = Some (AtPlace (Object 1 kind.Task)); origin = origin.Local } }

abbrev total_seen : LocalName
total_seen = record { name = codes "t"; meant = record { entity = Some (AtPlace (Object 0 kind.Monitor)); origin = origin.Local } }

seen : ℕ → List LocalName
seen zero = []
seen (suc n) = seen n ++ worker_seen (suc n) ∷ []

-- all are workers of these numbers
abbrev AreWorkers : ℕ → List LocalName → Type 0
AreWorkers most [] = Unit {0}
AreWorkers most (s ∷ ss) = ((k : ℕ) × (k ≤ most) × (s ≡ worker_seen k)) × AreWorkers most ss

more_workers : (most : ℕ) (ss : List LocalName) → AreWorkers most ss → AreWorkers (suc most) (ss ++ worker_seen (suc most) ∷ [])
more_workers most [] h = ((suc most, omega arith, refl), tt)
more_workers most (s ∷ ss) h = let le : h.0.1 ≡ h.0.1 = refl in ((h.0.0, omega (arith, h.0.1), h.0.2), more_workers most ss h.1)

seen_workers : (n : ℕ) → AreWorkers n (seen n)
unfolding seen
seen_workers zero = tt
seen_workers (suc n) = more_workers n (seen n) (seen_workers n)

-- none of them is called as the monitor is
no_total : (most : ℕ) (ss : List LocalName) → AreWorkers most ss → local_named ss (codes "t") ≡ None
no_total most [] h = refl
no_total most (s ∷ ss) h =
    ap (λ o. later_or o s (codes "t")) (no_total most ss h.1) ∙ ap (λ x. later_or None x (codes "t")) h.0.2

-- names of workers are apart

other_name : (j k : ℕ) → j < k → k ≤ 1000 → same_name (119 ∷ decimal j) (119 ∷ decimal k) ≡ false
other_name j k lt most = apart (same_name (decimal j) (decimal k)) refl
  where
    apart : (t : Bool) → same_name (decimal j) (decimal k) ≡ t → same_name (119 ∷ decimal j) (119 ∷ decimal k) ≡ false
    apart false e = e
    apart true e = let same : j ≡ k = decimal_injective j k (omega (arith, lt, most)) (omega (arith, most)) ((bytes_decides (decimal j) (decimal k)).0 e) in absurd (omega (arith, lt, same))

or_false : (s t : Bool) → s ≡ false → t ≡ false → (s || t) ≡ false
or_false false t e f = f
or_false true t e f = e

new_name : (k : ℕ) (ss : List LocalName) → suc k ≤ 1000 → AreWorkers k ss → list_any (λ s. same_name s.name (119 ∷ decimal (suc k))) ss ≡ false
new_name k [] most h = refl
new_name k (s ∷ ss) most h =
    or_false (same_name s.name (119 ∷ decimal (suc k))) (list_any (λ x. same_name x.name (119 ∷ decimal (suc k))) ss)
    (subst (λ (x : LocalName). same_name x.name (119 ∷ decimal (suc k)) ≡ false) (sym h.0.2) (other_name h.0.0 (suc k) (omega (arith, h.0.1)) most))
    (new_name k ss most h.1)

-- the block of the workers, where these are declared

abbrev around : Surroundings
around = record { home = None; main = true; role = role.Plain; inner = false; returns = false; in_loop = false; in_handler = false; joins = false; bound = None }

abbrev block_env : List Stmt → Stmt → List LocalName → Env
block_env ws last ss = record { program = program_with ws last; around = around; names = total_seen ∷ ss; outside = 1 }

-- a worker's declaration breaks no rule
worker_unbroken : (ws : List Stmt) (last : Stmt) (p : ScanPlace) (k : ℕ) (ss : List LocalName) → local_named ss (codes "t") ≡ None → list_any (λ s. same_name s.name (119 ∷ decimal k)) ss ≡ false → breaks_among (stmt_visits (worker_stmt p k) (block_env ws last ss)) ≡ []
worker_unbroken ws last p k ss e f = rw (e, f) refl

worker_after : (ws : List Stmt) (last : Stmt) (p : ScanPlace) (k : ℕ) (ss : List LocalName) → env_after (block_env ws last ss) (worker_stmt p k) ≡ block_env ws last (ss ++ worker_seen k ∷ [])
worker_after ws last p k ss = refl

module _ (ws : List Stmt) (last : Stmt) (p : ScanPlace) where
  behind_workers : (n : ℕ) → env_behind (block_env ws last []) (stmts_of (workers_stmts p n)) ≡ block_env ws last (seen n)
  unfolding seen
  behind_workers zero = ap (λ l. env_behind (block_env ws last []) (stmts_of l)) (no_stmts p)
  behind_workers (suc n) =
      ap (λ l. env_behind (block_env ws last []) (stmts_of l)) (more_stmts p n)
      ∙ env_more (workers_stmts p n) (worker_stmt (past p (workers n)) (suc n)) (block_env ws last [])
      ∙ ap (λ e. env_after e (worker_stmt (past p (workers n)) (suc n))) (behind_workers n)
      ∙ worker_after ws last (past p (workers n)) (suc n) (seen n)

  workers_unbroken : (n : ℕ) → n ≤ 1000 → breaks_among (stmts_visits (stmts_of (workers_stmts p n)) (block_env ws last [])) ≡ []
  workers_unbroken zero h = ap (λ l. breaks_among (stmts_visits (stmts_of l) (block_env ws last []))) (no_stmts p)
  workers_unbroken (suc n) h =
      let s : Stmt = worker_stmt (past p (workers n)) (suc n) in
      let one : breaks_among (stmt_visits s (block_env ws last (seen n))) ≡ [] = worker_unbroken ws last (past p (workers n)) (suc n) (seen n) (no_total n (seen n) (seen_workers n)) (new_name n (seen n) h (seen_workers n)) in
      let here : breaks_among (stmt_visits s (env_behind (block_env ws last []) (stmts_of (workers_stmts p n)))) ≡ [] = ap (λ e. breaks_among (stmt_visits s e)) (behind_workers n) ∙ one in
      ap (λ l. breaks_among (stmts_visits (stmts_of l) (block_env ws last []))) (more_stmts p n)
      ∙ ap breaks_among (visits_more (workers_stmts p n) s (block_env ws last []))
      ∙ none_among (stmts_visits (stmts_of (workers_stmts p n)) (block_env ws last [])) (stmt_visits s (env_behind (block_env ws last []) (stmts_of (workers_stmts p n))) ++ []) (workers_unbroken n (omega (arith, h)))
      (none_among (stmt_visits s (env_behind (block_env ws last []) (stmts_of (workers_stmts p n)))) [] here refl)

abbrev main_env : List Stmt → Stmt → Env
main_env ws last = record { program = program_with ws last; around = around; names = total_seen ∷ []; outside = 0 }

-- all but the workers and what is printed breaks no rule
front_unbroken : (ws : List Stmt) (last : Stmt) → breaks_of (program_with ws last) ≡ breaks_among ((stmts_visits (stmts_of ws) (block_env ws last []) ++ (stmt_visits last (main_env ws last) ++ [])) ++ [])
unfolding reaches cells_within
front_unbroken ws last = refl

print_unbroken : (ws : List Stmt) (last : Stmt) (q : ScanPlace) (n : ℕ) → breaks_among (stmt_visits (count_stmt q n) (main_env ws last)) ≡ []
print_unbroken ws last q n = refl

pub unbroken : (n : ℕ) → n ≤ 1000 → breaks_of (made n) ≡ []
unbroken n h =
    let ws : List Stmt = workers_stmts front_end n in
    let q : ScanPlace = past front_end (workers n) in
    let last : Stmt = count_stmt q n in
    front_unbroken ws last
    ∙ none_among (stmts_visits (stmts_of ws) (block_env ws last []) ++ (stmt_visits last (main_env ws last) ++ [])) []
    (none_among (stmts_visits (stmts_of ws) (block_env ws last [])) (stmt_visits last (main_env ws last) ++ []) (workers_unbroken ws last front_end n h)
    (none_among (stmt_visits last (main_env ws last)) [] (print_unbroken ws last q n) refl))
    refl
