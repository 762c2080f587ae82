-- Steps of a block in a draft: one after another, a statement as one step, and the block at their end.
use Rattle.std.proofs.Common.{◌≡◌, ℕ, ◌+◌, ◌≤◌, List, [], ◌∷◌, ◌++◌, length, refl, ap, sym, subst, ◌∙◌, arith}
use Rattle.uc_tree.specs.Source.{Stmt, Stmts, Nil, Then, Scoped, Built}
use Rattle.uc_resolve.specs.Resolve.{Scope}
use Rattle.uc_code.specs.declared.rows.CodeMark.{CodeMark}
use Rattle.uc_code.specs.Drafts.{Draft}
use Rattle.uc_code.specs.Layout.{Laid, laid_in, routine_in}
use Rattle.uc_code.specs.Lowered.{StmtAt, StmtsAt}
use Rattle.uc_code.proofs.Stable.{kept_refl, kept_then}
use Rattle.uc_lower_stmt.specs.Blocks.{BlockStands, EndsScopes}
use Rattle.uc_lower_stmt.specs.Marked.{closing, objects_in}
use Rattle.uc_lower_stmt.specs.OpenScopes.{Does, block_of, Pending, Begins, Done, Lays, Step, Opens, Builds, begun_rows, ended_rows, way_rows}
use Rattle.uc_lower_stmt.specs.LowersStatement.{Lowers, scope_of}
use Rattle.uc_lower_stmt.proofs.BlocksLemmas.{block_join, none_join, pending_join, pending_kept, pending_routine, pending_ways}
use Rattle.uc_lower_stmt.proofs.RowFitting.{fit_refl, fit_then, fit_count}
use Rattle.uc_lower_stmt.specs.SourceRows.{past_rows, stmt_rows, stmt_rows_under, stmts_rows, stmts_rows_under}
use Rattle.uc_code.specs.RowCounts.{loop_rows, return_rows}

-- the rows of steps: how many a way out has behind all of them, and how many they have themselves

pub way_join : (js ks : List Step) (way : ℕ) → way_rows (js ++ ks) way ≡ way_rows js (way_rows ks way)
way_join [] ks way = refl
way_join (Does s ∷ js) ks way = way_join js ks way
way_join (Opens c ∷ js) ks way = ap (past_rows c) (way_join js ks way)
way_join (Builds c ∷ js) ks way = way_join js ks way

pub begun_join : (loop out : ℕ) (js ks : List Step) → begun_rows loop out (js ++ ks) ≡ begun_rows loop out ks + begun_rows (way_rows ks loop) (way_rows ks out) js
begun_join loop out [] ks = omega arith
begun_join loop out (Does s ∷ js) ks =
    let r = begun_join loop out js ks in
    let a = ap (λ (n : ℕ). stmt_rows n (way_rows (js ++ ks) out) s) (way_join js ks loop) in
    let b = ap (λ (n : ℕ). stmt_rows (way_rows js (way_rows ks loop)) n s) (way_join js ks out) in
    omega (arith, r, a, b)
begun_join loop out (Opens c ∷ js) ks = let r = begun_join loop out js ks in omega (arith, r)
begun_join loop out (Builds c ∷ js) ks = let r = begun_join loop out js ks in omega (arith, r)

pub block_rows : (loop out : ℕ) (ks : List Step) (ss : Stmts) → stmts_rows loop out (block_of ks ss) ≡ begun_rows loop out ks + stmts_rows (way_rows ks loop) (way_rows ks out) ss + ended_rows out ks
block_rows loop out [] ss = omega arith
block_rows loop out (Does s ∷ ks) ss = let r = block_rows loop out ks (Then s ss) in omega (arith, r)
block_rows loop out (Opens c ∷ ks) ss = let r = block_rows loop out ks (Scoped c ss) in omega (arith, r)
block_rows loop out (Builds c ∷ ks) ss = let r = block_rows loop out ks (Built c ss) in omega (arith, r)

pub lays_nothing : (line : ℕ) (old : Draft) → Lays 0 0 0 0 0 line (λ ss. ss) (scope_of old) old old
lays_nothing line old = record {
  rest = refl;
  scope = refl;
  opened = omega arith;
  kept = kept_refl (laid_in old);
  rows = fit_refl old;
  room = omega arith;
  texts = omega arith;
  cells = omega arith;
  objects = omega arith;
  steps = [];
  none = tt;
  block = λ ss. refl;
  code = Begins;
}

pub lays_as : {n k c d o m j b e q line : ℕ} {f g : Stmts → Stmts} {s t : Scope} {old new : Draft} → Lays n k c d o line f s old new → s ≡ t → ((ss : Stmts) → f ss ≡ g ss) → n ≤ m → k ≤ j → c ≤ b → d ≤ e → o ≡ q → Lays m j b e q line g t old new
lays_as h x fg l1 l2 l3 l4 l5 = record {
  rest = h.rest;
  scope = h.scope ∙ x;
  opened = let y = h.opened in omega arith;
  kept = h.kept;
  rows = h.rows;
  room = let y = h.room in omega arith;
  texts = let y = h.texts in omega arith;
  cells = let y = h.cells in omega arith;
  objects = let y = h.objects in omega arith;
  steps = h.steps;
  none = h.none;
  block = λ ss. h.block ss ∙ fg ss;
  code = h.code;
}

pub lays_join : {n k c d o m j b e q line : ℕ} {f g : Stmts → Stmts} {s t : Scope} {old mid new : Draft} → Lays n k c d o line f s old mid → Lays m j b e q line g t mid new → Lays (n + m) (k + j) (c + b) (d + e) (o + q) line (λ ss. f (g ss)) t old new
lays_join {n} {k} {c} {d} {o} {m} {j} {b} {e} {q} {line} {f} {g} {s} {t} {old} {mid} {new} h w = record {
  rest = w.rest ∙ ap (λ (x : Draft). let y : Draft = record x { ops = new.ops; rows = new.rows; settled = new.settled; marks = new.marks; scopes = new.scopes; names = new.names; cells = new.cells; hidden = new.hidden; texts = new.texts; sites = new.sites } in y) h.rest;
  scope = w.scope;
  opened = let x = h.opened in let y = w.opened in omega arith;
  kept = kept_then (laid_in old) (laid_in mid) (laid_in new) h.kept w.kept;
  rows =
      let ways = pending_ways (laid_in mid) line old.marks (length old.ops) h.steps mid.marks (length mid.ops) h.code in
      let a = ap (λ (n : ℕ). begun_rows n (return_rows mid.marks) w.steps) ways.0 in
      let b = ap (λ (n : ℕ). begun_rows (way_rows h.steps (loop_rows old.marks)) n w.steps) ways.1 in
      let c = begun_join (loop_rows old.marks) (return_rows old.marks) w.steps h.steps in
      fit_count (omega (arith, a, b, c)) (fit_then w.kept.longer h.rows w.rows);
  room = let x = h.room in let y = w.room in omega arith;
  texts = let x = h.texts in let y = w.texts in omega arith;
  cells = let x = h.cells in let y = w.cells in omega arith;
  objects = let x = h.objects in let y = w.objects in omega arith;
  steps = w.steps ++ h.steps;
  none = none_join w.steps h.steps w.none h.none;
  block = λ ss. block_join w.steps h.steps ss ∙ (ap (λ (x : Stmts). block_of h.steps x) (w.block ss) ∙ h.block (g ss));
  code = pending_join (laid_in new) line old.marks (length old.ops) h.steps mid.marks (length mid.ops)
      (pending_kept (laid_in mid) line old.marks (length old.ops) (laid_in new) h.steps mid.marks (length mid.ops) (omega arith) w.kept h.code) w.steps new.marks (length new.ops) w.code;
}

marks_stay : {r n k c o : ℕ} {S : Laid → ℕ → ℕ → Type 0} {t : Scope} {old new : Draft} → Lowers r n k c o S t old new → new.marks ≡ old.marks
marks_stay h = ap (λ (d : Draft). d.marks) h.rest

-- one statement, under marks that stay
pub lays_one : {n k c o : ℕ} {s : Stmt} {t : Scope} {old new : Draft} → (line : ℕ) → Lowers (stmt_rows_under old.marks s) n k c o (λ code. StmtAt code old.marks s) t old new → Lays n k c 0 o line (λ ss. Then s ss) t old new
lays_one {n} {k} {c} {o} {s} {t} {old} {new} line h =
    let m : new.marks ≡ old.marks = marks_stay h in
    let e : objects_in new.marks ≡ objects_in old.marks = ap objects_in m in
    let f : closing new.marks ≡ closing old.marks = ap closing m in
    record {
      rest = h.rest ∙ ap (λ (ms : List CodeMark). let y : Draft = record old { ops = new.ops; rows = new.rows; settled = new.settled; marks = ms; scopes = new.scopes; names = new.names; cells = new.cells; hidden = new.hidden; texts = new.texts; sites = new.sites } in y) (sym m);
      scope = h.scope;
      opened = h.opened;
      kept = h.kept;
      rows = fit_count (omega arith) h.rows;
      room = (let x = h.room in omega (arith, f));
      texts = h.texts;
      cells = h.cells;
      objects = omega (arith, e);
      steps = Does s ∷ [];
      none = tt;
      block = λ ss. refl;
      code = subst (λ (ms : List CodeMark). Pending (laid_in new) line old.marks (length old.ops) (Does s ∷ []) ms (length new.ops)) (sym m) (Done [] old.marks (length old.ops) (length new.ops) s Begins h.code);
    }

-- the scopes of a block have ended, and it is as one piece
pub lays_ended : {n k c d o line : ℕ} {f : Stmts → Stmts} {t : Scope} {old mid new : Draft} → (count : ℕ) → count ≡ length old.marks → Lays n k c d o line f t old mid → EndsScopes count mid new → Lowers (stmts_rows_under old.marks (f Nil)) n k c o (λ code. StmtsAt code old.marks line (f Nil)) t old new
lays_ended {n} {k} {c} {d} {o} {line} {f} {t} {old} {mid} {new} count ce h w =
    let b : BlockStands line old.marks (block_of h.steps Nil) (length old.ops) (length mid.rows + ended_rows (return_rows old.marks) h.steps) new = w.block line (length old.ops) (length mid.ops) h.steps old.marks Nil (sym ce) h.none h.code (record { end = refl }) in
    let e : closing new.marks ≡ closing old.marks = ap closing b.marks in
    let scopes : new.scopes ≡ mid.scopes = ap (λ (x : Draft). x.scopes) w.rest in
    let texts : new.texts ≡ mid.texts = ap (λ (x : Draft). x.texts) w.rest in
    let cells : new.cells ≡ mid.cells = ap (λ (x : Draft). x.cells) w.rest in
    record {
      rest = rests b.marks;
      scope = ap scope_of w.rest ∙ h.scope;
      opened = scopes ∙ h.opened;
      kept = kept_then (laid_in old) (laid_in mid) (laid_in new) h.kept w.kept;
      rows =
          let x = b.rows in
          let y = w.rows.more in
          let z = block_rows (loop_rows old.marks) (return_rows old.marks) h.steps Nil in
          let u : stmts_rows_under old.marks (block_of h.steps Nil) ≡ stmts_rows_under old.marks (f Nil) = ap (λ (ss : Stmts). stmts_rows_under old.marks ss) (h.block Nil) in
          fit_count (omega (arith, x, y, z, u)) (fit_then w.kept.longer h.rows w.rows);
      room = (let x = h.room in let y = w.room in omega (arith, e));
      texts = (let x = h.texts in omega (arith, texts));
      cells = (let x = h.cells in omega (arith, cells));
      code = subst (λ (ss : Stmts). StmtsAt (laid_in new) old.marks line ss (length old.ops) (length new.ops)) (h.block Nil) b.code;
    }
  where
    rests : new.marks ≡ old.marks → new ≡ record old { ops = new.ops; rows = new.rows; settled = new.settled; scopes = new.scopes; names = new.names; cells = new.cells; hidden = new.hidden; texts = new.texts; sites = new.sites }
    rests m =
        let a : new ≡ record old { ops = new.ops; rows = new.rows; settled = new.settled; marks = new.marks; scopes = mid.scopes; names = mid.names; cells = mid.cells; hidden = mid.hidden; texts = mid.texts; sites = mid.sites } =
        w.rest ∙ ap (λ (x : Draft). let y : Draft = record x { ops = new.ops; rows = new.rows; settled = new.settled; marks = new.marks } in y) h.rest in
        subst (λ (x : Draft). new ≡ record old { ops = new.ops; rows = new.rows; settled = new.settled; scopes = x.scopes; names = x.names; cells = x.cells; hidden = x.hidden; texts = x.texts; sites = x.sites }) (sym w.rest) (
        a ∙ ap (λ (ms : List CodeMark). let y : Draft = record old { ops = new.ops; rows = new.rows; settled = new.settled; marks = ms; scopes = mid.scopes; names = mid.names; cells = mid.cells; hidden = mid.hidden; texts = mid.texts; sites = mid.sites } in y) m)

-- the routine stays the same
pub lays_routine : {n k c d o line : ℕ} {f : Stmts → Stmts} {t : Scope} {old new : Draft} → Lays n k c d o line f t old new → routine_in new.marks ≡ routine_in old.marks
lays_routine {n} {k} {c} {d} {o} {line} {f} {t} {old} {new} h = pending_routine (laid_in new) line old.marks (length old.ops) h.steps new.marks (length new.ops) h.code
