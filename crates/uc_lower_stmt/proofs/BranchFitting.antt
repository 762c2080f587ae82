-- There is room in a draft for the branches of an accept statement.
use Rattle.std.proofs.Common.{◌≡◌, ℕ, ◌+◌, ◌*◌, ◌≤◌, ◌<◌, List, [], ◌∷◌, length, refl, ap, sym, subst, ◌∙◌, arith}
use Rattle.uc_tree.specs.declared.limits.TheConstants.{FRAME_CELLS, OPS_FOR_SIZE, PROGRAM_OPS, PROGRAM_SIZE}
use Rattle.uc_tree.specs.Cells.{clauses_cells, declared_cells, maybe_cells, stmt_cells}
use Rattle.uc_tree.specs.Numbering.{routines_of}
use Rattle.uc_tree.specs.Programs.{Program}
use Rattle.uc_tree.specs.Scopes.{alone_scopes, clauses_scopes, maybe_scopes, stmt_scopes}
use Rattle.uc_tree.specs.Sizes.{size_at}
use Rattle.uc_tree.specs.Statements.{Accepts, Clause, MaybeStmt, Stmt, clauses_of}
use Rattle.uc_tree.specs.StatementSizes.{clauses_size, maybe_stmt_size, stmt_size}
use Rattle.uc_code.specs.declared.op.Op.{Op}
use Rattle.uc_code.specs.Drafts.{Draft, patched}
use Rattle.uc_code.specs.Layout.{Laid, routine_in}
use Rattle.uc_code.proofs.Patches.{length-patched}
use Rattle.uc_lower_expr.specs.DraftGrowth.{Adds}
use Rattle.uc_lower_stmt.specs.Accepting.{LowersChoice, accept_room, branch_of, branches_room}
use Rattle.uc_lower_stmt.specs.Control.{LowersAlone, maybe_at_size}
use Rattle.uc_lower_stmt.specs.Marked.{closing, objects_in, taken}
use Rattle.uc_lower_stmt.proofs.Fitting.{Fits, fits_adds, fits_as, fits_behind}

patched_fits : (p : Program) (n c o k at : ℕ) (x : Op) (d0 d1 : Draft) → Fits p n c o k d0 → d1 ≡ record d0 { ops = patched d0.ops at x } → Fits p n c o k d1
patched_fits p n c o k at x d0 d1 f e =
    let long = length-patched d0.ops at x in
    subst (λ (d : Draft). Fits p n c o k d) (sym e) (record {
      inside = f.inside;
      entry = let y = f.entry in omega (arith, long, y);
      room = let y = f.room in omega (arith, long, y);
      cells = f.cells;
      scopes = f.scopes;
      texts = f.texts;
    })

abbrev pub BranchesFit : Program → List Clause → MaybeStmt → Draft → Type 0
BranchesFit p xs other d =
    Fits p (branches_room xs (objects_in d.marks) + OPS_FOR_SIZE * maybe_at_size other (objects_in d.marks)) (clauses_cells (clauses_of xs) (declared_cells p) + maybe_cells other (declared_cells p))
    (clauses_scopes (clauses_of xs) + maybe_scopes other) (clauses_size (clauses_of xs) + maybe_stmt_size other) d

abbrev pub AloneFit : Program → Stmt → Draft → Type 0
AloneFit p s d = Fits p (OPS_FOR_SIZE * size_at s (objects_in d.marks)) (stmt_cells s (declared_cells p)) (alone_scopes s + stmt_scopes s) (stmt_size s) d

abbrev pub MaybeFit : Program → MaybeStmt → Draft → Type 0
MaybeFit p m d = Fits p (OPS_FOR_SIZE * maybe_at_size m (objects_in d.marks)) (maybe_cells m (declared_cells p)) (maybe_scopes m) (maybe_stmt_size m) d

pub no_clauses : (ys : List Clause) → length ys ≡ 0 → ys ≡ []
no_clauses [] e = refl
no_clauses (x ∷ xs) e = absurd (omega (arith, e))

pub last_fits : (p : Program) (ys : List Clause) (other : MaybeStmt) (at : ℕ) (x : Op) (d0 d1 : Draft) → length ys ≡ 0 → BranchesFit p ys other d0 → d1 ≡ record d0 { ops = patched d0.ops at x } → MaybeFit p other d1
last_fits p ys other at x d0 d1 e f is =
    let objects : objects_in d1.marks ≡ objects_in d0.marks = ap (λ (d : Draft). objects_in d.marks) is in
    let size = ap (λ (k : ℕ). maybe_at_size other k) objects in
    let g : BranchesFit p [] other d0 = subst (λ (zs : List Clause). BranchesFit p zs other d0) (no_clauses ys e) f in
    fits_as (patched_fits p _ _ _ _ at x d0 d1 g is) (omega (arith, size)) (omega arith) (omega arith) (omega arith)

-- the first of clauses, and the others

both_fit : (p : Program) (c : Clause) (xs : List Clause) (other : MaybeStmt) (at : ℕ) (x : Op) (d0 d1 : Draft) → BranchesFit p (c ∷ xs) other d0 → d1 ≡ record d0 { ops = patched d0.ops at x }
    → Fits p (OPS_FOR_SIZE * size_at (branch_of c) (objects_in d1.marks) + (1 + (branches_room xs (objects_in d0.marks) + OPS_FOR_SIZE * maybe_at_size other (objects_in d0.marks)))) (stmt_cells (branch_of c) (declared_cells p) + (clauses_cells (clauses_of xs) (declared_cells p) + maybe_cells other (declared_cells p)))
    (alone_scopes (branch_of c) + stmt_scopes (branch_of c) + (clauses_scopes (clauses_of xs) + maybe_scopes other)) (stmt_size (branch_of c) + (clauses_size (clauses_of xs) + maybe_stmt_size other)) d1
both_fit p (Accepts place guard members body) xs other at x d0 d1 f is =
    let objects : objects_in d1.marks ≡ objects_in d0.marks = ap (λ (d : Draft). objects_in d.marks) is in
    let size = ap (λ (k : ℕ). size_at body k) objects in
    fits_as (patched_fits p _ _ _ _ at x d0 d1 f is) (omega (arith, size)) (omega arith) (omega arith) (omega arith)

pub branch_fits : (p : Program) (body : Stmt) (c : Clause) (ys xs : List Clause) (other : MaybeStmt) (at : ℕ) (x : Op) (d0 d1 : Draft) → body ≡ branch_of c → ys ≡ c ∷ xs → BranchesFit p ys other d0 → d1 ≡ record d0 { ops = patched d0.ops at x } → AloneFit p body d1
branch_fits p body c ys xs other at x d0 d1 w e f is =
    subst (λ (t : Stmt). AloneFit p t d1) (sym w) (fits_as (both_fit p c xs other at x d0 d1 (subst (λ (zs : List Clause). BranchesFit p zs other d0) e f) is) (omega arith) (omega arith) (omega arith) (omega arith))

pub others_fit : {S : Laid → ℕ → ℕ → Type 0} → (p : Program) (body : Stmt) (c : Clause) (ys xs : List Clause) (other : MaybeStmt) (at : ℕ) (x : Op) (d0 d1 d2 d3 : Draft) → body ≡ branch_of c → ys ≡ c ∷ xs → BranchesFit p ys other d0 → d1 ≡ record d0 { ops = patched d0.ops at x } → LowersAlone p body d1 d2 → Adds 1 S d2 d3
    → BranchesFit p xs other d3
others_fit {S} p body c ys xs other at x d0 d1 d2 d3 w e f is h g =
    let k : LowersAlone p (branch_of c) d1 d2 = subst (λ (t : Stmt). LowersAlone p t d1 d2) w h in
    let objects : objects_in d3.marks ≡ objects_in d0.marks = ap (λ (d : Draft). objects_in d.marks) g.rest ∙ ap (λ (d : Draft). objects_in d.marks) k.rest ∙ ap (λ (d : Draft). objects_in d.marks) is in
    let rooms = ap (λ (i : ℕ). branches_room xs i + OPS_FOR_SIZE * maybe_at_size other i) objects in
    let all = both_fit p c xs other at x d0 d1 (subst (λ (zs : List Clause). BranchesFit p zs other d0) e f) is in
    fits_as (fits_adds (fits_behind all k) g) (omega (arith, rooms)) (omega arith) (omega arith) (omega arith)

-- behind the first branch there is room for the op that leaves it
pub leave_fits : (p : Program) (body : Stmt) (c : Clause) (ys xs : List Clause) (other : MaybeStmt) (at : ℕ) (x : Op) (d0 d1 d2 : Draft) → body ≡ branch_of c → ys ≡ c ∷ xs → BranchesFit p ys other d0 → d1 ≡ record d0 { ops = patched d0.ops at x } → LowersAlone p body d1 d2 → length d2.ops < PROGRAM_OPS
leave_fits p body c ys xs other at x d0 d1 d2 w e f is h =
    let k : LowersAlone p (branch_of c) d1 d2 = subst (λ (t : Stmt). LowersAlone p t d1 d2) w h in
    let all = both_fit p c xs other at x d0 d1 (subst (λ (zs : List Clause). BranchesFit p zs other d0) e f) is in
    let room = (fits_behind all k).room in
    omega (arith, room)

-- of clauses in a slice

clause_less : (c : Clause) → stmt_size (branch_of c) < clauses_size (clauses_of (c ∷ []))
clause_less (Accepts place guard members body) = omega arith

pub branch_less : (body : Stmt) (c : Clause) (xs ys : List Clause) → body ≡ branch_of c → ys ≡ c ∷ xs → stmt_size body + clauses_size (clauses_of xs) < clauses_size (clauses_of ys)
branch_less body c xs ys w e =
    let size = ap stmt_size w in
    subst (λ (zs : List Clause). stmt_size body + clauses_size (clauses_of xs) < clauses_size (clauses_of zs)) (sym e) (let l = clause_less c in omega (arith, size, l))

-- behind what stands before the branches
pub choice_fits : (p : Program) (line : ℕ) (xs : List Clause) (other : MaybeStmt) (d0 d1 : Draft) → 0 < length d1.ops → routine_in d0.marks < length (routines_of p) → taken d0 + accept_room xs other (objects_in d0.marks) ≤ PROGRAM_OPS
    → d0.cells + (clauses_cells (clauses_of xs) (declared_cells p) + maybe_cells other (declared_cells p)) ≤ FRAME_CELLS → d0.scopes + (clauses_scopes (clauses_of xs) + maybe_scopes other) ≤ PROGRAM_SIZE → d0.texts + (clauses_size (clauses_of xs) + maybe_stmt_size other) ≤ PROGRAM_SIZE
    → LowersChoice p line xs d0 d1 → BranchesFit p xs other d1
choice_fits p line xs other d0 d1 e i r c o k h =
    let objects : objects_in d1.marks ≡ objects_in d0.marks = ap (λ (d : Draft). objects_in d.marks) h.rest in
    let ends : closing d1.marks ≡ closing d0.marks = ap (λ (d : Draft). closing d.marks) h.rest in
    let routine : routine_in d1.marks ≡ routine_in d0.marks = ap (λ (d : Draft). routine_in d.marks) h.rest in
    let rooms = ap (λ (n : ℕ). branches_room xs n + OPS_FOR_SIZE * maybe_at_size other n) objects in
    record {
      inside = omega (arith, routine, i);
      entry = e;
      room = let x = h.room in omega (arith, rooms, ends, r, x);
      cells = let x = h.cells in omega (arith, c, x);
      scopes = let x = h.opened in omega (arith, o, x);
      texts = let x = h.texts in omega (arith, k, x);
    }
