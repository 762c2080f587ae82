-- Parts of an object under construction, and how what follows them ends.
use Rattle.std.proofs.Common.{◌≡◌, ℕ, ◌+◌, ◌≤◌, List, [], ◌∷◌, ◌++◌, drop, length, reverse, refl, ap, sym, subst, ◌∙◌, arith, append_assoc}
use Rattle.std.proofs.lemmas.List.{reverse-append}
use Rattle.uc_tree.specs.Source.{CleanUp, Stmt, Stmts, Then, Scoped, Built}
use Rattle.uc_code.specs.declared.rows.CodeMark.{CodeMark}
use Rattle.uc_code.specs.declared.rows.CodeMark.TheVariants as mark
use Rattle.uc_code.specs.declared.rows.Cleaning.{Cleaning}
use Rattle.uc_code.specs.declared.rows.Opening.TheVariants as opening
use Rattle.uc_code.specs.Drafts.{Draft}
use Rattle.uc_code.specs.Layout.{Laid, laid_in, routine_in}
use Rattle.uc_code.specs.OpenRows.{CleansBehind, opened}
use Rattle.uc_code.specs.CodeShapes.{Kept}
use Rattle.uc_code.specs.Lowered.{StmtAt, StmtsAt}
use Rattle.uc_code.specs.ObjectCalls.{Cleans}
use Rattle.uc_code.specs.Emits.{Puts, clean_length}
use Rattle.uc_code.proofs.Growth.{rows_same}
use Rattle.uc_code.proofs.Stable.{kept_refl, kept_then, kept_same}
use Rattle.uc_lower_expr.specs.DraftGrowth.{Adds}
use Rattle.uc_lower_stmt.specs.Objects.{ClosesPart, InPart}
use Rattle.uc_lower_stmt.specs.OpenScopes.{Step, Does, Opens, Builds, block_of, begun_rows, ended_rows, way_rows}
use Rattle.uc_lower_stmt.proofs.Ending.{cleans_under}
use Rattle.uc_lower_stmt.proofs.Kept.{stmt_stable, stmts_stable}
use Rattle.uc_lower_class.specs.OpenParts.{Pended, Begins, Done, Parted, PartsIn, MoreParts, Constructs, EndsParts, end_room, parts_rows}
use Rattle.uc_lower_stmt.proofs.RowFitting.{fit_opened, fit_puts, fit_refl, fit_then, fit_count}
use Rattle.uc_lower_stmt.proofs.Laying.{begun_join, way_join}
use Rattle.uc_lower_stmt.proofs.BlocksLemmas.{cleans_rows}
use Rattle.uc_lower_stmt.specs.SourceRows.{stmt_rows_under}
use Rattle.uc_code.specs.RowCounts.{loop_rows, return_rows}

pub block_join : (ks ls : List Step) (ss : Stmts) → block_of (ls ++ ks) ss ≡ block_of ks (block_of ls ss)
block_join ks [] ss = refl
block_join ks (Does s ∷ ls) ss = block_join ks ls (Then s ss)
block_join ks (Opens c ∷ ls) ss = block_join ks ls (Scoped c ss)
block_join ks (Builds c ∷ ls) ss = block_join ks ls (Built c ss)

-- what is laid out stays where more comes behind it
pub pended_kept : (old new : Laid) (ms : List CodeMark) (a : ℕ) (ws : List Cleaning) (ks : List Step) (ns : List CodeMark) (z : ℕ) → Kept old new → z ≤ length old.ops → Pended old ms a ws ks ns z → Pended new ms a ws ks ns z
pended_kept old new ms a ws ks ns z k l Begins = Begins
pended_kept old new ms a ws ks ns z k l (Done vs qs os y w s p at) =
    let le = (stmt_stable os s).rises old y w at in
    Done vs qs os y w s (pended_kept old new ms a vs qs os y k (omega arith) p) ((stmt_stable os s).moves old new y w (kept_same old new y w l k) at)
pended_kept old new ms a ws ks ns z k l (Parted vs qs os w row c what p g) = Parted vs qs os w row c what (pended_kept old new ms a vs qs os w k l p) g

-- steps without a part are statements of the block around them

record Collected (code : Laid) (ms : List CodeMark) (a : ℕ) (ns : List CodeMark) (z : ℕ) (whole : Stmts) : Type 0 where
  same : ns ≡ ms
  block : StmtsAt code ms 0 whole a z

collected : (code : Laid) (ms : List CodeMark) (a : ℕ) (ks : List Step) (ns : List CodeMark) (y z : ℕ) (ss : Stmts) → Pended code ms a [] ks ns y → StmtsAt code ns 0 ss y z → Collected code ms a ns z (block_of ks ss)
collected code ms a ks ns y z ss Begins h = record { same = refl; block = h }
collected code ms a ks ns y z ss (Done vs qs os x w s p at) h = collected code ms a qs os x z (Then s ss) p (record { middle = w; first = at; second = h })

-- the parts are those of the innermost marks

drop_none : (ns : List CodeMark) → drop 0 ns ≡ ns
drop_none [] = refl
drop_none (n ∷ ns) = refl

pub marks_behind : (code : Laid) (ms : List CodeMark) (a : ℕ) (ws : List Cleaning) (ks : List Step) (ns : List CodeMark) (z : ℕ) → Pended code ms a ws ks ns z → drop (length ws) ns ≡ ms
marks_behind code ms a ws ks ns z Begins = drop_none ms
marks_behind code ms a ws ks ns z (Done vs qs os x w s p at) = marks_behind code ms a vs qs os x p
marks_behind code ms a ws ks ns z (Parted vs qs os x row c what p g) = marks_behind code ms a vs qs os x p

-- what stands before the newest part, and behind it
record Uncovered (code : Laid) (ms : List CodeMark) (a : ℕ) (what : Cleaning) (ws : List Cleaning) (ns : List CodeMark) (z : ℕ) (whole : Stmts) : Type 0 where
  row : ℕ
  outer : List CodeMark
  is : ns ≡ mark.Part row ∷ outer
  left : List Step
  at : ℕ
  clean : CleanUp
  rest : Stmts
  before : Pended code ms a ws left outer at
  cleans : Cleans clean what
  body : StmtsAt code ns 0 rest at z
  block : block_of left (Built clean rest) ≡ whole

uncovered : (code : Laid) (ms : List CodeMark) (a : ℕ) (what : Cleaning) (ws : List Cleaning) (ks : List Step) (ns : List CodeMark) (y z : ℕ) (ss : Stmts) → Pended code ms a (what ∷ ws) ks ns y → StmtsAt code ns 0 ss y z → Uncovered code ms a what ws ns z (block_of ks ss)
uncovered code ms a what ws ks ns y z ss (Done vs qs os x w s p at) h = uncovered code ms a what ws qs os x z (Then s ss) p (record { middle = w; first = at; second = h })
uncovered code ms a what ws ks ns y z ss (Parted vs qs os x row c w p g) h = record { row = row; outer = os; is = refl; left = qs; at = x; clean = c; rest = ss; before = p; cleans = g; body = h; block = refl }

-- ends of parts

pub ends_nothing : (old : Draft) → EndsParts [] old old
ends_nothing old = record {
  rest = refl;
  kept = kept_refl (laid_in old);
  rows = fit_refl old;
  room = omega arith;
  block = λ ms a y ks ss p h. (collected (laid_in old) ms a ks old.marks y (length old.ops) ss p h).block;
  marks = sym (drop_none old.marks);
}

module _ (what : Cleaning) (ws : List Cleaning) (old mid new : Draft) (q : InPart old.marks) (h : ClosesPart what 0 old mid) (g : EndsParts ws mid new) where
  abbrev was : Laid
  was = laid_in old

  abbrev now : Laid
  now = laid_in mid

  long : length old.ops ≤ length mid.ops
  long = h.kept.longer

  -- the part that is uncovered has ended in the draft between
  built : (ms : List CodeMark) (a y : ℕ) (whole : Stmts) (u : Uncovered was ms a what ws old.marks (length old.ops) whole) → StmtsAt now u.outer 0 (Built u.clean u.rest) u.at (length mid.ops)
  built ms a y whole u =
      let ends = h.part u.row u.outer u.is in
      let body : StmtsAt was (mark.Part u.row ∷ u.outer) 0 u.rest u.at (length old.ops) = subst (λ (ns : List CodeMark). StmtsAt was ns 0 u.rest u.at (length old.ops)) u.is u.body in
      record {
        what = what;
        cleans = u.cleans;
        part = record {
          row = u.row;
          body_end = length old.ops;
          body = (stmts_stable (mark.Part u.row ∷ u.outer) 0 u.rest).moves was now u.at (length old.ops) (kept_same was now u.at (length old.ops) (omega arith) h.kept) body;
          leave = ends.leave;
          unwinds = ends.unwinds;
          handler = ends.handler;
        };
      }

  closed : (ms : List CodeMark) (a y : ℕ) (whole : Stmts) → Uncovered was ms a what ws old.marks (length old.ops) whole → StmtsAt (laid_in new) ms 0 whole a (length new.ops)
  closed ms a y whole u =
      let marks : mid.marks ≡ u.outer = h.marks u.row u.outer u.is in
      let body = (stmts_stable (mark.Part u.row ∷ u.outer) 0 u.rest).rises was u.at (length old.ops) (subst (λ (ns : List CodeMark). StmtsAt was ns 0 u.rest u.at (length old.ops)) u.is u.body) in
      let before : Pended now ms a ws u.left mid.marks u.at = subst (λ (ns : List CodeMark). Pended now ms a ws u.left ns u.at) (sym marks) (pended_kept was now ms a ws u.left u.outer u.at h.kept body u.before) in
      let behind : StmtsAt now mid.marks 0 (Built u.clean u.rest) u.at (length mid.ops) = subst (λ (ns : List CodeMark). StmtsAt now ns 0 (Built u.clean u.rest) u.at (length mid.ops)) (sym marks) (built ms a y whole u) in
      subst (λ (ss : Stmts). StmtsAt (laid_in new) ms 0 ss a (length new.ops)) u.block (g.block ms a u.at u.left (Built u.clean u.rest) before behind)

  bare : new.marks ≡ drop (length (what ∷ ws)) old.marks
  bare = g.marks ∙ ap (λ (ns : List CodeMark). drop (length ws) ns) (h.marks q.row q.outer q.is) ∙ sym (ap (λ (ns : List CodeMark). drop (length (what ∷ ws)) ns) q.is)

  pub ends_part : EndsParts (what ∷ ws) old new
  ends_part = record {
    rest = g.rest ∙ ap (λ (d : Draft). let x : Draft = record d { ops = new.ops; rows = new.rows; settled = new.settled; marks = new.marks } in x) h.rest;
    kept = kept_then was now (laid_in new) h.kept g.kept;
    rows = fit_then g.kept.longer h.rows g.rows;
    room = let x = h.room in let y = g.room in omega arith;
    block = λ ms a y ks ss p at. closed ms a y (block_of ks ss) (uncovered was ms a what ws ks old.marks y (length old.ops) ss p at);
    marks = bare;
  }

-- the parts of marks

pub in_part : (what : Cleaning) (ws : List Cleaning) (ms : List CodeMark) → PartsIn (what ∷ ws) ms → InPart ms
in_part what ws ms (MoreParts w us row ns b p) = record { row = row; outer = ns; is = refl }

pub part_behind : (what : Cleaning) (ws : List Cleaning) (ms : List CodeMark) → PartsIn (what ∷ ws) ms → CleansBehind ms what
part_behind what ws ms (MoreParts w us row ns b p) = cleans_under what row ns b

pub parts_behind : (what : Cleaning) (ws : List Cleaning) (ms ns : List CodeMark) → ns ≡ drop 1 ms → PartsIn (what ∷ ws) ms → PartsIn ws ns
parts_behind what ws ms ns e (MoreParts w us row os b p) = subst (λ (qs : List CodeMark). PartsIn us qs) (sym (e ∙ drop_none os)) p

-- room

pub end_push : (ws : List Cleaning) (what : Cleaning) → end_room (ws ++ what ∷ []) ≡ end_room ws + (clean_length what + 2)
end_push [] what = omega arith
end_push (w ∷ ws) what = omega (arith, end_push ws what)

pub end_reverse : (ws : List Cleaning) → end_room (reverse ws) ≡ end_room ws
end_reverse [] = refl
end_reverse (w ∷ ws) =
    let e : reverse (w ∷ ws) ≡ reverse ws ++ w ∷ [] = reverse-append (w ∷ []) ws in
    ap end_room e ∙ end_push (reverse ws) w ∙ (let r = end_reverse ws in omega (arith, r))

-- the ends of the parts among steps have as many rows
pub pended_ends : (code : Laid) (ms : List CodeMark) (a out : ℕ) (ws : List Cleaning) (ks : List Step) (ns : List CodeMark) (z : ℕ) → Pended code ms a ws ks ns z → parts_rows ws ≡ ended_rows out ks
pended_ends code ms a out ws ks ns z Begins = refl
pended_ends code ms a out ws ks ns z (Done vs qs os y w s p at) = pended_ends code ms a out vs qs os y p
pended_ends code ms a out ws ks ns z (Parted vs qs os w row c what p g) = let e = cleans_rows c what g in let r = pended_ends code ms a out vs qs os w p in omega (arith, e, r)

-- what builds fields, one after another

pub constructs_nothing : (ws : List Cleaning) (old : Draft) → Constructs 0 (λ ss. ss) ws old ws old
constructs_nothing ws old = record {
  rest = refl;
  kept = kept_refl (laid_in old);
  room = omega arith;
  parts = λ h. h;
  inside = refl;
  steps = [];
  rows = fit_refl old;
  loops = refl;
  returns = refl;
  block = λ ss. refl;
  code = λ ms a ks h. h;
}

pub constructs_as : {m n : ℕ} {F G : Stmts → Stmts} {ws us : List Cleaning} {old new : Draft} → Constructs m F ws old us new → m ≤ n → ((ss : Stmts) → F ss ≡ G ss) → Constructs n G ws old us new
constructs_as {m} {n} {F} {G} {ws} {us} {old} {new} h l e = record {
  rest = h.rest;
  kept = h.kept;
  room = let x = h.room in omega arith;
  parts = h.parts;
  inside = h.inside;
  steps = h.steps;
  rows = h.rows;
  loops = h.loops;
  returns = h.returns;
  block = λ ss. h.block ss ∙ e ss;
  code = h.code;
}

pub constructs_then : {m n : ℕ} {F G : Stmts → Stmts} {ws us vs : List Cleaning} {old mid new : Draft} → Constructs m F ws old us mid → Constructs n G us mid vs new → Constructs (m + n) (λ ss. F (G ss)) ws old vs new
constructs_then {m} {n} {F} {G} {ws} {us} {vs} {old} {mid} {new} h g = record {
  rest = g.rest ∙ ap (λ (d : Draft). let x : Draft = record d { ops = new.ops; rows = new.rows; settled = new.settled; marks = new.marks } in x) h.rest;
  kept = kept_then (laid_in old) (laid_in mid) (laid_in new) h.kept g.kept;
  room = let x = h.room in let y = g.room in omega arith;
  parts = λ p. g.parts (h.parts p);
  inside = g.inside ∙ h.inside;
  steps = g.steps ++ h.steps;
  rows =
      let a = ap (λ (n : ℕ). begun_rows n (return_rows mid.marks) g.steps) h.loops in
      let b = ap (λ (n : ℕ). begun_rows (way_rows h.steps (loop_rows old.marks)) n g.steps) h.returns in
      let c = begun_join (loop_rows old.marks) (return_rows old.marks) g.steps h.steps in
      fit_count (omega (arith, a, b, c)) (fit_then g.kept.longer h.rows g.rows);
  loops = g.loops ∙ ap (way_rows g.steps) h.loops ∙ sym (way_join g.steps h.steps (loop_rows old.marks));
  returns = g.returns ∙ ap (way_rows g.steps) h.returns ∙ sym (way_join g.steps h.steps (return_rows old.marks));
  block = λ ss. block_join h.steps g.steps ss ∙ ap (block_of h.steps) (g.block ss) ∙ h.block (G ss);
  code = λ ms a ks p. subst (λ (qs : List Step). Pended (laid_in new) ms a (reverse vs) qs new.marks (length new.ops)) (sym (append_assoc g.steps h.steps ks)) (g.code ms a (h.steps ++ ks) (h.code ms a ks p));
}

-- a statement, and what follows a part

pub constructs_does : {r n : ℕ} {old new : Draft} → (s : Stmt) (ws : List Cleaning) → r ≡ stmt_rows_under old.marks s → r + length old.ops ≤ length new.ops → Puts r n (λ code. StmtAt code old.marks s) old new → Constructs n (λ ss. Then s ss) ws old ws new
constructs_does {r} {n} {old} {new} s ws count l h =
    let marks : new.marks ≡ old.marks = ap (λ (d : Draft). d.marks) h.rest in
    record {
      rest = subst (λ (d : Draft). d ≡ record old { ops = d.ops; rows = d.rows; settled = d.settled; marks = d.marks }) (sym h.rest) refl;
      kept = h.kept;
      room = let x = h.room in omega arith;
      parts = λ p. subst (λ (ns : List CodeMark). PartsIn (reverse ws) ns) (sym marks) p;
      inside = ap routine_in marks;
      steps = Does s ∷ [];
      rows = fit_count (omega (arith, count)) (fit_puts l h);
      loops = ap loop_rows marks;
      returns = ap return_rows marks;
      block = λ ss. refl;
      code = λ ms a ks p. subst (λ (ns : List CodeMark). Pended (laid_in new) ms a (reverse ws) (Does s ∷ ks) ns (length new.ops)) (sym marks)
          (Done (reverse ws) ks old.marks (length old.ops) (length new.ops) s (pended_kept (laid_in old) (laid_in new) ms a (reverse ws) ks old.marks (length old.ops) h.kept (omega arith) p) h.code);
    }

pub puts_adds : {n : ℕ} {S : Laid → ℕ → ℕ → Type 0} {old new : Draft} → Adds n S old new → Puts 0 n S old new
puts_adds {n} {S} {old} {new} h = record {
  rest = subst (λ (d : Draft). d ≡ record old { ops = d.ops; rows = d.rows; settled = d.settled }) (sym h.rest) refl;
  kept = h.kept;
  rows = rows_same (ap (λ (d : Draft). d.rows) h.rest);
  room = h.room;
  code = h.code;
}

reverse_push : (ws : List Cleaning) (what : Cleaning) → reverse (ws ++ what ∷ []) ≡ what ∷ reverse ws
reverse_push ws what = reverse-append ws (what ∷ [])

parts_push : (c : CleanUp) (what : Cleaning) (ws : List Cleaning) (old : Draft) → Kept (laid_in old) (laid_in (opened opening.Part old)) → Cleans c what → CleansBehind old.marks what → Constructs (clean_length what + 2) (λ ss. Built c ss) ws old (ws ++ what ∷ []) (opened opening.Part old)
parts_push c what ws old k g b = record {
  rest = refl;
  kept = k;
  room = let e = end_push ws what in omega arith;
  parts = λ p. subst (λ (us : List Cleaning). PartsIn us (mark.Part (length old.rows) ∷ old.marks)) (sym (reverse_push ws what)) (MoreParts what (reverse ws) (length old.rows) old.marks b p);
  inside = refl;
  steps = Builds c ∷ [];
  rows = fit_opened opening.Part old (opened opening.Part old) refl;
  loops = refl;
  returns = refl;
  block = λ ss. refl;
  code = λ ms a ks p. subst (λ (us : List Cleaning). Pended (laid_in (opened opening.Part old)) ms a us (Builds c ∷ ks) (mark.Part (length old.rows) ∷ old.marks) (length old.ops)) (sym (reverse_push ws what))
      (Parted (reverse ws) ks old.marks (length old.ops) (length old.rows) c what (pended_kept (laid_in old) (laid_in (opened opening.Part old)) ms a (reverse ws) ks old.marks (length old.ops) k (omega arith) p) g);
}

pub constructs_part : (c : CleanUp) (what : Cleaning) (ws us : List Cleaning) (old new : Draft) → new ≡ opened opening.Part old → us ≡ ws ++ what ∷ [] → Kept (laid_in old) (laid_in new) → Cleans c what → CleansBehind old.marks what → Constructs (clean_length what + 2) (λ ss. Built c ss) ws old us new
constructs_part c what ws us old new e f k g b =
    subst (λ (d : Draft). Constructs (clean_length what + 2) (λ ss. Built c ss) ws old us d) (sym e) (
    subst (λ (vs : List Cleaning). Constructs (clean_length what + 2) (λ ss. Built c ss) ws old vs (opened opening.Part old)) (sym f) (
    parts_push c what ws old (subst (λ (d : Draft). Kept (laid_in old) (laid_in d)) e k) g b))

-- parts that have ended one after another: whatever ends the others from here ends all
pub record Ending (ws : List Cleaning) (old : Draft) (us : List Cleaning) (now : Draft) : Type 0 where
  pub parts : PartsIn us now.marks
  pub room : length now.ops + end_room us ≤ length old.ops + end_room ws
  pub on : (new : Draft) → EndsParts us now new → EndsParts ws old new

pub ending_begin : (ws : List Cleaning) (old : Draft) → PartsIn ws old.marks → Ending ws old ws old
ending_begin ws old p = record { parts = p; room = omega arith; on = λ new e. e }

pub ending_step : (ws : List Cleaning) (old : Draft) (what : Cleaning) (us : List Cleaning) (now mid : Draft) → Ending ws old (what ∷ us) now → ClosesPart what 0 now mid → Ending ws old us mid
ending_step ws old what us now mid b h =
    let q = in_part what us now.marks b.parts in
    let marks : mid.marks ≡ drop 1 now.marks = h.marks q.row q.outer q.is ∙ sym (ap (λ (ns : List CodeMark). drop 1 ns) q.is ∙ drop_none q.outer) in
    record {
      parts = parts_behind what us now.marks mid.marks marks b.parts;
      room = let x = h.room in let y = b.room in omega arith;
      on = λ new e. b.on new (ends_part what us now mid new q h e);
    }

pub ending_end : (ws : List Cleaning) (old now : Draft) → Ending ws old [] now → EndsParts ws old now
ending_end ws old now b = b.on now (ends_nothing now)

-- the newest part stands last in a list of the oldest first
pub reverse_pop : (vs us : List Cleaning) (what : Cleaning) → vs ≡ us ++ what ∷ [] → reverse vs ≡ what ∷ reverse us
reverse_pop vs us what e = ap reverse e ∙ reverse_push us what
