-- The generated text, and the frames and the `Size` of its program, are within their limits.
use Rattle.std.proofs.Common.{◌≡◌, ℕ, zero, suc, ◌+◌, ◌*◌, ◌≤◌, List, [], ◌∷◌, ◌++◌, length, refl, ap, ◌∙◌, subst, length-append, arith}
use Rattle.std.specs.Prelude.{Option, Some, None, slice_get, decimal, codes}
use Rattle.uc_tree.specs.declared.limits.TheConstants.{FRAME_CELLS, PROGRAM_BYTES, PROGRAM_SIZE}
use Rattle.uc_tree.specs.declared.kinds.Base.{Base}
use Rattle.uc_tree.specs.declared.scan.ScanPlace.{ScanPlace}
use Rattle.uc_tree.specs.Rows.{cells_within, reaches}
use Rattle.uc_tree.specs.Cells.{routine_cells, stmt_cells, stmts_cells, declared_cells}
use Rattle.uc_tree.specs.Exits.{declares, exits, exits_all}
use Rattle.uc_tree.specs.Numbering.{Defined, routines_of}
use Rattle.uc_tree.specs.Sizes.{program_size}
use Rattle.uc_tree.specs.StatementSizes.{stmt_size, stmts_size}
use Rattle.uc_tree.specs.Statements.{Stmt, Declarator, stmts_of}
use Rattle.uc_tree.specs.Programs.{Program}
use Rattle.uc_make.specs.Generated.{worker, workers, behind_count, end, generated}
use Rattle.uc_made.proofs.Numerals.{Numeral, numeral}
use Rattle.uc_made.proofs.Lexing.{past}
use Rattle.uc_made.proofs.GeneratedTokens.{front_end}
use Rattle.uc_made.proofs.Trees.{worker_stmt, workers_stmts, no_stmts, more_stmts, count_stmt, program_with, main_with, made}

-- cells of statements, one after another

cells_more : (ss : List Stmt) (s : Stmt) (cells : Base → Declarator → ℕ) → stmts_cells (stmts_of (ss ++ s ∷ [])) cells ≡ stmts_cells (stmts_of ss) cells + stmt_cells s cells
cells_more [] s cells = omega arith
cells_more (r ∷ ss) s cells = let e = cells_more ss s cells in omega (arith, e)

-- a worker has one cell
worker_cells : (ws : List Stmt) (last : Stmt) (p : ScanPlace) (k : ℕ) → stmt_cells (worker_stmt p k) (declared_cells (program_with ws last)) ≡ 1
worker_cells ws last p k = refl

workers_cells : (ws : List Stmt) (last : Stmt) (p : ScanPlace) (n : ℕ) → stmts_cells (stmts_of (workers_stmts p n)) (declared_cells (program_with ws last)) ≡ n
workers_cells ws last p zero = ap (λ l. stmts_cells (stmts_of l) (declared_cells (program_with ws last))) (no_stmts p)
workers_cells ws last p (suc n) =
    let s : Stmt = worker_stmt (past p (workers n)) (suc n) in
    let cells = declared_cells (program_with ws last) in
    let a : stmts_cells (stmts_of (workers_stmts p (suc n))) cells ≡ stmts_cells (stmts_of (workers_stmts p n ++ s ∷ [])) cells = ap (λ l. stmts_cells (stmts_of l) cells) (more_stmts p n) in
    let b = cells_more (workers_stmts p n) s cells in
    let c = worker_cells ws last (past p (workers n)) (suc n) in
    let d = workers_cells ws last p n in
    omega (arith, a, b, c, d)

main_cells : (ws : List Stmt) (last : Stmt) (q : ScanPlace) (n : ℕ) → routine_cells (program_with ws (count_stmt q n)) (main_with ws (count_stmt q n)) ≡ 0 + (1 + (stmts_cells (stmts_of ws) (declared_cells (program_with ws (count_stmt q n))) + (0 + 0)))
main_cells ws last q n = refl

-- the frame of this routine fits
abbrev Fits : Program → Option Defined → Type 0
Fits p None = Unit {0}
Fits p (Some d) = routine_cells p d.routine ≤ FRAME_CELLS

each_fits : (n : ℕ) → n ≤ 1000 → (number : ℕ) → Fits (made n) (slice_get (routines_of (made n)) number)
unfolding cells_within reaches
each_fits n h zero = omega arith
each_fits n h (suc zero) = omega arith
each_fits n h (suc (suc zero)) = omega arith
each_fits n h (suc (suc (suc zero))) = omega arith
each_fits n h (suc (suc (suc (suc zero)))) =
    let ws : List Stmt = workers_stmts front_end n in
    let q : ScanPlace = past front_end (workers n) in
    let a = main_cells ws (count_stmt q n) q n in
    let b = workers_cells ws (count_stmt q n) front_end n in
    omega (arith, a, b, h)
each_fits n h (suc (suc (suc (suc (suc number))))) = tt

pub frames_fit : (n : ℕ) → n ≤ 1000 → (number : ℕ) (routine : Defined) → slice_get (routines_of (made n)) number ≡ Some routine → routine_cells (made n) routine.routine ≤ FRAME_CELLS
frames_fit n h number routine e = subst (Fits (made n)) e (each_fits n h number)

-- sizes of statements, one after another

size_more : (ss : List Stmt) (s : Stmt) → stmts_size (stmts_of (ss ++ s ∷ [])) ≡ stmts_size (stmts_of ss) + stmt_size s
size_more [] s = omega arith
size_more (r ∷ ss) s = let e = size_more ss s in omega (arith, e)

worker_size : (p : ScanPlace) (k : ℕ) → stmt_size (worker_stmt p k) ≡ 4
worker_size p k = refl

workers_size : (p : ScanPlace) (n : ℕ) → stmts_size (stmts_of (workers_stmts p n)) ≡ 4 * n
workers_size p zero = ap (λ l. stmts_size (stmts_of l)) (no_stmts p)
workers_size p (suc n) =
    let s : Stmt = worker_stmt (past p (workers n)) (suc n) in
    let a : stmts_size (stmts_of (workers_stmts p (suc n))) ≡ stmts_size (stmts_of (workers_stmts p n ++ s ∷ [])) = ap (λ l. stmts_size (stmts_of l)) (more_stmts p n) in
    let b = size_more (workers_stmts p n) s in
    let c = worker_size (past p (workers n)) (suc n) in
    let d = workers_size p n in
    omega (arith, a, b, c, d)

-- no worker is a way out
exits_more : (ss : List Stmt) (p : ScanPlace) (j k : ℕ) → exits_all (stmts_of (ss ++ worker_stmt p j ∷ [])) k ≡ exits_all (stmts_of ss) k
exits_more [] p j k = refl
exits_more (s ∷ ss) p j k = ap (λ x. exits s k + x) (exits_more ss p j (k + declares s))

no_exits : (p : ScanPlace) (n k : ℕ) → exits_all (stmts_of (workers_stmts p n)) k ≡ 0
no_exits p zero k = ap (λ l. exits_all (stmts_of l) k) (no_stmts p)
no_exits p (suc n) k = ap (λ l. exits_all (stmts_of l) k) (more_stmts p n) ∙ exits_more (workers_stmts p n) (past p (workers n)) (suc n) k ∙ no_exits p n k

pub small : (n : ℕ) → n ≤ 1000 → program_size (made n) ≤ PROGRAM_SIZE
small n h =
    let a = workers_size front_end n in
    let b = no_exits front_end n 1 in
    omega (arith, a, b, h)

-- the text itself

worker_length : (k : ℕ) → k ≤ 1000 → Numeral k → length (worker k) ≤ 23
worker_length k h m =
    let e : length (decimal k) ≡ length (m.first ∷ m.rest) = ap length m.is in
    let short : length (m.first ∷ m.rest) ≤ 4 = m.short in
    let a = length-append ((decimal k ++ codes "(t, ") ++ decimal k) (codes ");\n") in
    let b = length-append (decimal k ++ codes "(t, ") (decimal k) in
    let c = length-append (decimal k) (codes "(t, ") in
    omega (arith, e, short, a, b, c)

workers_length : (n : ℕ) → n ≤ 1000 → length (workers n) ≤ 23 * n
workers_length zero h = omega arith
workers_length (suc n) h =
    let a = length-append (workers n) (worker (suc n)) in
    let b = workers_length n (omega (arith, h)) in
    let c = worker_length (suc n) h (numeral (suc n) (omega arith) h) in
    omega (arith, a, b, c)

end_length : (n : ℕ) → 1 ≤ n → n ≤ 1000 → length (end n) ≤ 100
end_length n least h =
    let m = numeral n least h in
    let e : length (decimal n) ≡ length (m.first ∷ m.rest) = ap length m.is in
    let short : length (m.first ∷ m.rest) ≤ 4 = m.short in
    let a = length-append (decimal n) behind_count in
    omega (arith, e, short, a)

pub short_text : (n : ℕ) → 1 ≤ n → n ≤ 1000 → length (generated n) ≤ PROGRAM_BYTES
short_text n least h =
    let a = length-append (workers n) (end n) in
    let b = workers_length n h in
    let c = end_length n least h in
    omega (arith, a, b, c, h)
