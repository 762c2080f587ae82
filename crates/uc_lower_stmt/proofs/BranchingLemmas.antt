-- The branches of accept statements, as they are added to a draft.
use Rattle.std.proofs.Common.{◌≡◌, ℕ, suc, ◌+◌, ◌*◌, ◌≤◌, ◌<◌, List, [], ◌∷◌, Option, length, refl, ap, sym, subst, ◌∙◌, arith}
use Rattle.uc_tree.specs.declared.limits.TheConstants.{OPS_FOR_SIZE}
use Rattle.uc_tree.specs.declared.pos.Pos.{Pos}
use Rattle.uc_tree.specs.declared.kinds.MemberName.{MemberName}
use Rattle.uc_tree.specs.Cells.{clauses_cells, declared_cells, maybe_cells}
use Rattle.uc_tree.specs.Expressions as tree
use Rattle.uc_tree.specs.Programs.{Program}
use Rattle.uc_tree.specs.Scopes.{clauses_scopes, maybe_scopes}
use Rattle.uc_tree.specs.Sizes.{size_at}
use Rattle.uc_tree.specs.Source as source
use Rattle.uc_tree.specs.Statements.{Accepts, Clause, MaybeStmt, NoStmt, OneStmt, Stmt, clauses_of}
use Rattle.uc_tree.specs.StatementSizes.{clauses_size, maybe_stmt_size}
use Rattle.uc_resolve.specs.Resolve.{Scope, clauses_meant, else_meant, maybe_meant, scope_past, scope_past_clauses, stmt_meant}
use Rattle.uc_code.specs.declared.op.Op.TheVariants as op
use Rattle.uc_code.specs.declared.rows.CodeMark.{CodeMark}
use Rattle.uc_code.specs.Drafts.{Draft, patched}
use Rattle.uc_code.specs.Layout.{Laid, laid_in}
use Rattle.uc_code.specs.CodeShapes.{Kept, One, OpAt, Stable}
use Rattle.uc_code.specs.Lowered.{BranchesAt, StmtAt}
use Rattle.uc_code.proofs.Patches.{length-patched, patched_at, same_after, same_before}
use Rattle.uc_code.proofs.Stable.{kept_same, kept_then, one_stable}
use Rattle.uc_lower_expr.specs.DraftGrowth.{Adds, OpCode}
use Rattle.uc_lower_stmt.specs.Accepting.{BranchesCode, LowersBranches, branch_of, branches_room, choice_set, past_branches, branches_meant}
use Rattle.uc_lower_stmt.specs.Control.{LowersAlone, LowersMaybe, maybe_at_size, maybe_past}
use Rattle.uc_lower_stmt.specs.LowersStatement.{Lowers, scope_of}
use Rattle.uc_lower_stmt.specs.Marked.{objects_in}
use Rattle.uc_lower_stmt.proofs.Choosing.{AloneIn, MaybeIn, alone_as, maybe_as}
use Rattle.uc_lower_stmt.proofs.Joined.{lowers_adds}
use Rattle.uc_lower_stmt.proofs.BranchFitting.{no_clauses}
use Rattle.uc_lower_stmt.proofs.Jumping.{kept_until, length_chosen, lowers_chosen, one_set}
use Rattle.uc_lower_stmt.proofs.Kept.{branches_stable, stmt_stable}
use Rattle.uc_lower_stmt.proofs.RowFitting.{fit_count, fit_like, fit_then}
use Rattle.uc_lower_stmt.specs.SourceRows.{clauses_rows_under, stmt_rows_under}

-- without a clause

else_at_end : (p : Program) (line otherwise : ℕ) (other : MaybeStmt) (s : Scope) (ms : List CodeMark) (code : Laid) (a z : ℕ) → otherwise ≡ a → StmtAt code ms (maybe_meant p other s) a z → BranchesAt code ms line (else_meant p other s) otherwise [] z a z
else_at_end p line otherwise NoStmt s ms code a z e h = record { goes = e ∙ sym h.end; none = refl; nothing = h.end }
else_at_end p line otherwise (OneStmt body) s ms code a z e h = record { here = e; none = refl; body = h }

-- an `_Else` that is not there has no row
else_rows : (p : Program) (other : MaybeStmt) (s : Scope) (ms : List CodeMark) → stmt_rows_under ms (maybe_meant p other s) ≡ clauses_rows_under ms (branches_meant p [] other s)
else_rows p NoStmt s ms = refl
else_rows p (OneStmt body) s ms = refl

pub branch_last : (p : Program) (line else_at first here : ℕ) (xs : List Clause) (other : MaybeStmt) (d0 d1 new : Draft) → length xs ≡ 0 → here ≡ length d0.ops → d1 ≡ record d0 { ops = patched d0.ops else_at (op.Jump here) } → LowersMaybe p other d1 new
    → LowersBranches p line else_at first xs other d0 new
branch_last p line else_at first here xs other d0 d1 new none he pt m =
    let long : length d1.ops ≡ length d0.ops = ap (λ (d : Draft). length d.ops) pt ∙ length-patched d0.ops else_at (op.Jump here) in
    let marks : d1.marks ≡ d0.marks = ap (λ (d : Draft). d.marks) pt in
    let k : MaybeIn p other d0.marks (scope_of d0) d1 new = maybe_as p other d0.marks (scope_of d0) d1 d1 new marks (ap scope_of pt) m in
    let done : Lowers (clauses_rows_under d0.marks (branches_meant p [] other (scope_of d0))) (0 + OPS_FOR_SIZE * maybe_at_size other (objects_in d0.marks)) (0 + maybe_stmt_size other) (0 + maybe_cells other (declared_cells p)) (0 + maybe_scopes other) (BranchesCode p line d0.marks [] other (scope_of d0) here []) (maybe_past p other (scope_of d0)) d1 new = record {
      rest = k.rest;
      scope = k.scope;
      opened = let w = k.opened in omega (arith, w);
      kept = k.kept;
      rows = fit_count (else_rows p other (scope_of d0) d0.marks) k.rows;
      room = let w = k.room in omega (arith, w);
      texts = let w = k.texts in omega (arith, w);
      cells = let w = k.cells in omega (arith, w);
      code = else_at_end p line here other (scope_of d0) d0.marks (laid_in new) (length d1.ops) (length new.ops) (he ∙ sym long) k.code;
    } in
    subst (λ (ys : List Clause). LowersBranches p line else_at first ys other d0 new) (sym (no_clauses xs none)) (record {
      otherwise = here;
      places = [];
      count = refl;
      branches = subst (λ (d : Draft). Lowers (clauses_rows_under d0.marks (branches_meant p [] other (scope_of d0))) (0 + OPS_FOR_SIZE * maybe_at_size other (objects_in d0.marks)) (0 + maybe_stmt_size other) (0 + maybe_cells other (declared_cells p)) (0 + maybe_scopes other) (BranchesCode p line d0.marks [] other (scope_of d0) here []) (maybe_past p other (scope_of d0)) d new) pt done;
    })

-- the first of clauses

module _ (p : Program) (line else_at first here leave end : ℕ) (place : Pos) (guard : Option tree.Expr) (members : List MemberName) (body : Stmt) (xs : List Clause) (other : MaybeStmt) (d0 d1 d2 d3 d4 new : Draft)
    (before : else_at < first) (jumps : first + suc (length xs) ≤ length d0.ops) (he : here ≡ length d0.ops) (pt : d1 ≡ record d0 { ops = patched d0.ops first (op.Jump here) }) (h : LowersAlone p body d1 d2) (le : leave ≡ length d2.ops)
    (g : Adds 1 (OpCode line (op.Jump 0)) d2 d3) (b : LowersBranches p line else_at (first + 1) xs other d3 d4) (ee : end ≡ length d4.ops) (pe : new ≡ record d4 { ops = patched d4.ops leave (op.Jump end) }) where
  abbrev x : Clause
  x = Accepts place guard members body

  abbrev s : Scope
  s = scope_of d0

  abbrev ms : List CodeMark
  ms = d0.marks

  abbrev o : ℕ
  o = b.otherwise

  abbrev ps : List ℕ
  ps = b.places

  abbrev a : ℕ
  a = length d0.ops

  abbrev y : ℕ
  y = length d2.ops

  -- with the jumps of the other clauses, and with all of them
  abbrev set : Draft → Draft
  set d = choice_set else_at (first + 1) o ps d

  abbrev start : Draft
  start = choice_set else_at first o (a ∷ ps) d0

  first_set : d1 ≡ record d0 { ops = patched d0.ops first (op.Jump a) }
  first_set = pt ∙ ap (λ (n : ℕ). let d : Draft = record d0 { ops = patched d0.ops first (op.Jump n) } in d) he

  start_is : set d1 ≡ start
  start_is = ap (λ (d : Draft). set d) first_set

  long_one : length d1.ops ≡ a
  long_one = ap (λ (d : Draft). length d.ops) pt ∙ length-patched d0.ops first (op.Jump here)

  long_start : length start.ops ≡ a
  long_start = length_chosen else_at first o (a ∷ ps) d0.ops

  marks_one : d1.marks ≡ ms
  marks_one = ap (λ (d : Draft). d.marks) pt

  scope_one : scope_of d1 ≡ s
  scope_one = ap scope_of pt

  one : AloneIn p body ms s d1 d2
  one = alone_as p body ms s d1 d1 d2 marks_one scope_one h

  marks_three : d3.marks ≡ ms
  marks_three = ap (λ (d : Draft). d.marks) g.rest ∙ ap (λ (d : Draft). d.marks) one.rest ∙ marks_one

  scope_three : scope_of d3 ≡ scope_past p body s
  scope_three = ap scope_of g.rest ∙ one.scope

  stable_body : Stable (λ code. StmtAt code ms (stmt_meant p body s))
  stable_body = stmt_stable ms (stmt_meant p body s)

  -- the branch
  two : AloneIn p body ms s start (set d2)
  two =
      let c = b.count in
      let l = long_one in
      subst (λ (d : Draft). AloneIn p body ms s d (set d2)) start_is (lowers_chosen else_at (first + 1) o ps stable_body (omega arith) (omega arith) one)

  -- the op behind it
  three : Lowers 0 1 0 0 0 (λ code. One code (op.Jump 0) line) (scope_of d2) (set d2) (set d3)
  three =
      let c = b.count in
      let l = long_one in
      let m = one.kept.longer in
      lowers_chosen else_at (first + 1) o ps (one_stable (op.Jump 0) line) (omega arith) (omega arith) (lowers_adds 0 0 g)

  abbrev others : source.Clauses
  others = clauses_meant p (clauses_of xs) (scope_past p body s) (else_meant p other (scope_past_clauses p (clauses_of xs) (scope_past p body s)))

  abbrev size : ℕ → ℕ
  size k = branches_room xs k + OPS_FOR_SIZE * maybe_at_size other k

  four : Lowers (clauses_rows_under ms others) (size (objects_in ms)) (clauses_size (clauses_of xs) + maybe_stmt_size other) (clauses_cells (clauses_of xs) (declared_cells p) + maybe_cells other (declared_cells p)) (clauses_scopes (clauses_of xs) + maybe_scopes other)
      (λ code k z. BranchesAt code ms line others o ps z k z) (past_branches p xs other (scope_past p body s)) (set d3) d4
  four =
      subst (λ (t : Scope). Lowers (clauses_rows_under ms (branches_meant p xs other t)) (size (objects_in ms)) (clauses_size (clauses_of xs) + maybe_stmt_size other) (clauses_cells (clauses_of xs) (declared_cells p) + maybe_cells other (declared_cells p)) (clauses_scopes (clauses_of xs) + maybe_scopes other)
      (BranchesCode p line ms xs other t o ps) (past_branches p xs other t) (set d3) d4) scope_three (
      subst (λ (ns : List CodeMark). Lowers (clauses_rows_under ns (branches_meant p xs other (scope_of d3))) (size (objects_in ns)) (clauses_size (clauses_of xs) + maybe_stmt_size other) (clauses_cells (clauses_of xs) (declared_cells p) + maybe_cells other (declared_cells p)) (clauses_scopes (clauses_of xs) + maybe_scopes other)
      (BranchesCode p line ns xs other (scope_of d3) o ps) (past_branches p xs other (scope_of d3)) (set d3) d4) marks_three b.branches)

  abbrev was : Laid
  was = laid_in d4

  abbrev now : Laid
  now = one_set y (op.Jump (length d4.ops)) was

  long_two : length (set d2).ops ≡ y
  long_two = length_chosen else_at (first + 1) o ps d2.ops

  long_three : length (set d3).ops ≡ y + 1
  long_three = length_chosen else_at (first + 1) o ps d3.ops ∙ g.code.end

  kept_two : Kept (laid_in (set d2)) was
  kept_two = kept_then (laid_in (set d2)) (laid_in (set d3)) was three.kept four.kept

  kept_start : Kept (laid_in start) was
  kept_start = kept_then (laid_in start) (laid_in (set d2)) was two.kept kept_two

  past : a ≤ y
  past = let l = one.kept.longer in omega (arith, l, long_one)

  body_at : StmtAt now ms (stmt_meant p body s) a y
  body_at =
      let l = kept_two.longer in
      let moved : StmtAt was ms (stmt_meant p body s) (length start.ops) (length (set d2).ops) =
      stable_body.moves (laid_in (set d2)) was (length start.ops) (length (set d2).ops) (kept_same (laid_in (set d2)) was (length start.ops) (length (set d2).ops) (omega arith) kept_two) two.code in
      stable_body.moves was now a y (same_before was y (op.Jump (length d4.ops)) a y (omega arith))
      (subst (λ (k : ℕ). StmtAt was ms (stmt_meant p body s) k y) long_start (subst (λ (k : ℕ). StmtAt was ms (stmt_meant p body s) (length start.ops) k) long_two moved))

  leave_at : OpAt now y (op.Jump (length d4.ops)) line
  leave_at = patched_at was y (op.Jump (length d4.ops)) (op.Jump 0) line (four.kept.same y (op.Jump 0) line (subst (λ (k : ℕ). OpAt (laid_in (set d3)) k (op.Jump 0) line) long_two three.code.here))

  others_at : BranchesAt now ms line others o ps (length d4.ops) (y + 1) (length d4.ops)
  others_at =
      (branches_stable ms line others o ps (length d4.ops)).moves was now (y + 1) (length d4.ops) (same_after was y (op.Jump (length d4.ops)) (y + 1) (length d4.ops) (omega arith))
      (subst (λ (k : ℕ). BranchesAt was ms line others o ps (length d4.ops) k (length d4.ops)) long_three four.code)

  is : new ≡ record d4 { ops = patched d4.ops y (op.Jump (length d4.ops)) }
  is =
      pe ∙ ap (λ (n : ℕ). let d : Draft = record d4 { ops = patched d4.ops n (op.Jump end) } in d) le
      ∙ ap (λ (n : ℕ). let d : Draft = record d4 { ops = patched d4.ops y (op.Jump n) } in d) ee

  abbrev last : Draft
  last = record d4 { ops = patched d4.ops y (op.Jump (length d4.ops)) }

  long : length last.ops ≡ length d4.ops
  long = length-patched d4.ops y (op.Jump (length d4.ops))

  clause_at : BranchesCode p line ms (x ∷ xs) other s o (a ∷ ps) now (length start.ops) (length last.ops)
  clause_at =
      subst (λ (k : ℕ). BranchesCode p line ms (x ∷ xs) other s o (a ∷ ps) now k (length last.ops)) (sym long_start) (
      subst (λ (k : ℕ). BranchesCode p line ms (x ∷ xs) other s o (a ∷ ps) now a k) (sym long) (record { rest = ps; here = refl; middle = y; body = body_at; leave = leave_at; others = others_at }))

  done : Lowers (clauses_rows_under ms (branches_meant p (x ∷ xs) other s)) (1 + OPS_FOR_SIZE * size_at body (objects_in ms) + branches_room xs (objects_in ms) + OPS_FOR_SIZE * maybe_at_size other (objects_in ms)) (clauses_size (clauses_of (x ∷ xs)) + maybe_stmt_size other)
      (clauses_cells (clauses_of (x ∷ xs)) (declared_cells p) + maybe_cells other (declared_cells p)) (clauses_scopes (clauses_of (x ∷ xs)) + maybe_scopes other)
      (BranchesCode p line ms (x ∷ xs) other s o (a ∷ ps)) (past_branches p (x ∷ xs) other s) start last
  done = record {
    rest =
        ap (λ (d : Draft). let q : Draft = record d { ops = last.ops } in q) four.rest
        ∙ ap (λ (d : Draft). let q : Draft = record d { ops = last.ops; rows = d4.rows; settled = d4.settled; scopes = d4.scopes; names = d4.names; cells = d4.cells; hidden = d4.hidden; texts = d4.texts; sites = d4.sites } in q) three.rest
        ∙ ap (λ (d : Draft). let q : Draft = record d { ops = last.ops; rows = d4.rows; settled = d4.settled; scopes = d4.scopes; names = d4.names; cells = d4.cells; hidden = d4.hidden; texts = d4.texts; sites = d4.sites } in q) two.rest;
    scope = four.scope;
    opened = (let u = two.opened in let v = three.opened in let w = four.opened in omega arith);
    kept = kept_until (laid_in start) was y (op.Jump (length d4.ops)) kept_start (let l = long_start in let m = past in omega arith);
    rows = fit_count (omega arith) (fit_like start last refl refl refl refl long refl (fit_then four.kept.longer (fit_then three.kept.longer two.rows three.rows) four.rows));
    room = (let u = two.room in let v = three.room in let w = four.room in let l = long in omega arith);
    texts = (let u = two.texts in let v = three.texts in let w = four.texts in omega arith);
    cells = (let u = two.cells in let v = three.cells in let w = four.cells in omega arith);
    code = clause_at;
  }

  pub branch_first : LowersBranches p line else_at first (x ∷ xs) other d0 new
  branch_first = subst (λ (d : Draft). LowersBranches p line else_at first (x ∷ xs) other d0 d) (sym is) (record { otherwise = o; places = a ∷ ps; count = ap suc b.count; branches = done })

-- of clauses in a slice
pub branch_next : (p : Program) (line else_at first here leave end : ℕ) (body : Stmt) (x : Clause) (ys xs : List Clause) (other : MaybeStmt) (d0 d1 d2 d3 d4 new : Draft) → body ≡ branch_of x → ys ≡ x ∷ xs → else_at < first → first + length ys ≤ length d0.ops → here ≡ length d0.ops
    → d1 ≡ record d0 { ops = patched d0.ops first (op.Jump here) } → LowersAlone p body d1 d2 → leave ≡ length d2.ops → Adds 1 (OpCode line (op.Jump 0)) d2 d3 → LowersBranches p line else_at (first + 1) xs other d3 d4
    → end ≡ length d4.ops → new ≡ record d4 { ops = patched d4.ops leave (op.Jump end) } → LowersBranches p line else_at first ys other d0 new
branch_next p line else_at first here leave end body (Accepts place guard members branch) ys xs other d0 d1 d2 d3 d4 new w e before jumps he pt h le g b ee pe =
    let n : length ys ≡ suc (length xs) = ap length e in
    let k : LowersAlone p branch d1 d2 = subst (λ (t : Stmt). LowersAlone p t d1 d2) w h in
    subst (λ (zs : List Clause). LowersBranches p line else_at first zs other d0 new) (sym e)
    (branch_first p line else_at first here leave end place guard members branch xs other d0 d1 d2 d3 d4 new before (omega arith) he pt k le g b ee pe)
