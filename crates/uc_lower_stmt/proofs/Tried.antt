-- A guarded block and its handlers, as they are added to a draft.
use Rattle.std.proofs.Common.{◌≡◌, ℕ, ◌+◌, ◌*◌, ◌≤◌, List, None, length, take, refl, ap, sym, subst, ◌∙◌, arith, length-append}
use Rattle.std.proofs.lemmas.Option.{slice_get_within}
use Rattle.uc_tree.specs.declared.limits.TheConstants.{OPS_FOR_SIZE}
use Rattle.uc_tree.specs.Cells.{declared_cells, handlers_cells, stmts_cells}
use Rattle.uc_tree.specs.declared.pos.Pos.{Pos}
use Rattle.uc_tree.specs.Exits.{exits_handlers}
use Rattle.uc_tree.specs.Gathered.{gathered, gathered_all, gathered_handlers}
use Rattle.uc_tree.specs.Hidden.{KEPT_CELLS, hidden_in_all, hidden_in_handlers}
use Rattle.uc_tree.specs.Numbering.{own_sites, own_texts}
use Rattle.uc_tree.specs.Programs.{Program}
use Rattle.uc_resolve.specs.Resolve.{Scope, handlers_meant, scope_after, scope_behind, scope_past_all, scope_past_handler, stmts_meant}
use Rattle.uc_tree.specs.Scopes.{handlers_scopes, stmts_scopes}
use Rattle.uc_tree.specs.Source as source
use Rattle.uc_tree.specs.Source.{Stmts}
use Rattle.uc_tree.specs.Statements as tree
use Rattle.uc_tree.specs.StatementSizes.{handlers_size, stmts_size}
use Rattle.uc_code.specs.declared.draft_parts.OuterScope.{OuterScope}
use Rattle.uc_code.specs.declared.op.Op.{Op}
use Rattle.uc_code.specs.declared.op.Op.TheVariants as op
use Rattle.uc_code.specs.declared.rows.CodeMark.{CodeMark}
use Rattle.uc_code.specs.Drafts.{Draft, patched}
use Rattle.uc_code.specs.Layout.{Laid, guards, laid_in}
use Rattle.uc_code.specs.Lowered.{HandlersAt, StmtsAt, handler_rows}
use Rattle.uc_code.specs.CodeShapes.{Guarded, Kept, OpAt, Same}
use Rattle.uc_code.proofs.Patches.{bare_stays, handler_stays, length-patched, patched_at, same_after, same_before}
use Rattle.uc_code.proofs.Stable.{kept_piece, kept_then, part}
use Rattle.uc_lower_expr.specs.DraftGrowth.{Adds, OpCode}
use Rattle.uc_code.specs.Guarding.{ClosesGuards, OpensGuards}
use Rattle.uc_lower_stmt.specs.Guarding.{LowersFrom}
use Rattle.uc_lower_stmt.specs.Handling.{LowersHandlers, LowersTry, past_handlers}
use Rattle.uc_lower_stmt.specs.Marked.{objects_in}
use Rattle.uc_lower_stmt.specs.LowersStatement.{Lowers, LowersStmt, LowersStmts, scope_of, sizes_at}
use Rattle.uc_lower_stmt.proofs.Counted.{behind_counted, counted, counted_as, nothing_counted}
use Rattle.uc_lower_stmt.proofs.GuardingLemmas.{guards_objects, kept_under, under_same, guards_loop, guards_return}
use Rattle.uc_lower_stmt.proofs.HandlingLemmas.{from_as, rows_are, from_count}
use Rattle.uc_lower_stmt.proofs.Joined.{lowers_as, lowers_count}
use Rattle.uc_lower_stmt.proofs.Kept.{handlers_stable, stmts_stable}
use Rattle.uc_lower_stmt.proofs.Scoping.{back_out, lowers_scoped, opened}
use Rattle.uc_lower_stmt.proofs.Stating.{as_stmt}
use Rattle.uc_lower_stmt.specs.RowFit.{RowsFit, open_rows}
use Rattle.uc_code.specs.RowGrowth.{BeginBy}
use Rattle.uc_lower_stmt.proofs.RowFitting.{fit_like, open_guards_rows}
use Rattle.uc_lower_stmt.specs.SourceRows.{handlers_rows_under, stmts_rows, stmts_rows_under}
use Rattle.uc_code.specs.RowCounts.{loop_rows, return_rows}

-- what was laid out before a place stays where the op at the place is another one
kept_patch : (old now : Laid) (at : ℕ) (o : Op) → Kept old now → length old.ops ≤ at → Kept old (record { ops = patched now.ops at o; rows = now.rows })
kept_patch old now at o k l = record {
  longer = let e = length-patched now.ops at o in let x = k.longer in omega arith;
  same = λ i was line w. let x = slice_get_within old.ops i (record { op = was; line = line }) w.here in (same_before now at o 0 at (omega arith)).same i was line (omega arith) (omega arith) (k.same i was line w);
  chains = λ next b. k.chains next b;
  handlers = λ number entry w. handler_stays now (record { ops = patched now.ops at o; rows = now.rows }) refl number entry (k.handlers number entry w);
  bare = λ number w. bare_stays now (record { ops = patched now.ops at o; rows = now.rows }) refl number (k.bare number w);
}

module _ (less line start first end n nn m k c o j b q u v : ℕ) (hs : source.Handlers) (ss : Stmts) (mid after : Scope) (d0 d1 d2 d3 d4 d5 d6 d7 new : Draft)
    (st : start ≡ length d0.ops) (fe : first ≡ length d2.rows) (ne : n ≡ handler_rows hs) (paid : n ≤ less) (g1 : Adds 1 (OpCode line (op.Jump (start + 2))) d0 d1) (g2 : Adds 1 (OpCode line (op.Jump 0)) d1 d2)
    (og : OpensGuards n d2 d3) (h : Lowers u nn k c o (λ code. StmtsAt code d3.marks line ss) mid d3 d4) (cg : (f : ℕ) (ns : List CodeMark) → d4.marks ≡ guards f n ns → ClosesGuards f n ns d4 d5)
    (g6 : Adds 1 (OpCode line (op.Jump (start + 1))) d5 d6) (w : LowersFrom less v first m j b q (λ code. HandlersAt code d6.marks first (start + 1) hs) after d6 d7)
    (ee : end ≡ length d7.ops) (pt : new ≡ record d7 { ops = patched d7.ops (start + 1) (op.Jump end) }) where
  abbrev a : ℕ
  a = length d0.ops

  abbrev ms : List CodeMark
  ms = d0.marks

  abbrev was : Laid
  was = laid_in d7

  abbrev now : Laid
  now = record { ops = patched d7.ops (a + 1) (op.Jump (length d7.ops)); rows = d7.rows }

  long_one : length d1.ops ≡ a + 1
  long_one = g1.code.end

  long_two : length d2.ops ≡ a + 2
  long_two = let x = g2.code.end in let y = long_one in omega arith

  marks_two : d2.marks ≡ ms
  marks_two = ap (λ (d : Draft). d.marks) g2.rest ∙ ap (λ (d : Draft). d.marks) g1.rest

  rows_two : length d2.rows ≡ length d0.rows
  rows_two = ap (λ (d : Draft). length d.rows) g2.rest ∙ ap (λ (d : Draft). length d.rows) g1.rest

  inside : d3.marks ≡ guards first n ms
  inside = ap (λ (d : Draft). d.marks) og.rest ∙ ap (λ (f : ℕ). guards f n d2.marks) (sym fe) ∙ ap (guards first n) marks_two

  long_three : length d3.ops ≡ a + 2
  long_three = ap (λ (d : Draft). length d.ops) og.rest ∙ long_two

  marks_four : d4.marks ≡ guards first n ms
  marks_four = ap (λ (d : Draft). d.marks) h.rest ∙ inside

  closes : ClosesGuards first n ms d4 d5
  closes = cg first ms marks_four

  long_five : length d5.ops ≡ length d4.ops
  long_five = ap (λ (d : Draft). length d.ops) closes.rest

  marks_six : d6.marks ≡ ms
  marks_six = ap (λ (d : Draft). d.marks) g6.rest ∙ ap (λ (d : Draft). d.marks) closes.rest

  long_six : length d6.ops ≡ length d4.ops + 1
  long_six = let x = g6.code.end in let y = long_five in omega arith

  kept_six : Same (laid_in d6) was 0 (length d6.ops)
  kept_six = under_same first (laid_in d6) was 0 (length d6.ops) (omega arith) w.kept

  kept_five : Kept (laid_in d5) (laid_in d6)
  kept_five = g6.kept

  kept_four : Kept (laid_in d4) (laid_in d6)
  kept_four = kept_then (laid_in d4) (laid_in d5) (laid_in d6) closes.kept kept_five

  kept_three : Kept (laid_in d3) (laid_in d6)
  kept_three = kept_then (laid_in d3) (laid_in d4) (laid_in d6) h.kept kept_four

  kept_two : Kept (laid_in d2) (laid_in d6)
  kept_two = kept_then (laid_in d2) (laid_in d3) (laid_in d6) og.kept kept_three

  kept_one : Kept (laid_in d1) (laid_in d6)
  kept_one = kept_then (laid_in d1) (laid_in d2) (laid_in d6) g2.kept kept_two

  kept_all : Kept (laid_in d0) was
  kept_all = kept_under first (laid_in d0) (laid_in d6) was (omega (arith, fe, rows_two)) (kept_then (laid_in d0) (laid_in d1) (laid_in d6) g1.kept kept_one) w.kept

  is : new ≡ record d7 { ops = now.ops }
  is = pt ∙ ap (λ (x : ℕ). let d : Draft = record d7 { ops = patched d7.ops (start + 1) (op.Jump x) } in d) ee
      ∙ ap (λ (x : ℕ). let d : Draft = record d7 { ops = patched d7.ops (x + 1) (op.Jump (length d7.ops)) } in d) st

  long : length now.ops ≡ length d7.ops
  long = length-patched d7.ops (a + 1) (op.Jump (length d7.ops))

  -- ops behind the pad stay
  behind : Same was now (a + 2) (length d7.ops)
  behind = same_after was (a + 1) (op.Jump (length d7.ops)) (a + 2) (length d7.ops) (omega arith)

  low : a + 2 ≤ length d4.ops
  low = let x = h.kept.longer in let y = long_three in omega arith

  high : length d4.ops + 1 ≤ length d7.ops
  high = let x = w.kept.longer in let y = long_six in omega arith

  begins : OpAt now a (op.Jump (a + 2)) line
  begins =
      let one : OpAt (laid_in d1) a (op.Jump (a + 2)) line = subst (λ (x : ℕ). OpAt (laid_in d1) a (op.Jump (x + 2)) line) st g1.code.here in
      let y = low in let z = long_six in
      (same_before was (a + 1) (op.Jump (length d7.ops)) 0 (a + 1) (omega arith)).same a (op.Jump (a + 2)) line (omega arith) (omega arith) (kept_six.same a (op.Jump (a + 2)) line (omega arith) (omega arith) (kept_one.same a (op.Jump (a + 2)) line one))

  leaves : OpAt now (a + 1) (op.Jump (length d7.ops)) line
  leaves =
      let hole : OpAt (laid_in d2) (a + 1) (op.Jump 0) line = subst (λ (x : ℕ). OpAt (laid_in d2) x (op.Jump 0) line) long_one g2.code.here in
      let y = low in let z = long_six in
      patched_at was (a + 1) (op.Jump (length d7.ops)) (op.Jump 0) line (kept_six.same (a + 1) (op.Jump 0) line (omega arith) (omega arith) (kept_two.same (a + 1) (op.Jump 0) line hole))

  body : StmtsAt now (guards first n ms) line ss (a + 2) (length d4.ops)
  body =
      let l = low in
      let z = long_six in
      let y = high in
      let ns : List CodeMark = guards first n ms in
      let under = subst (λ (xs : List CodeMark). StmtsAt (laid_in d4) xs line ss (length d3.ops) (length d4.ops)) inside h.code in
      let here = subst (λ (x : ℕ). StmtsAt (laid_in d4) ns line ss x (length d4.ops)) long_three under in
      let six = kept_piece (λ x. StmtsAt x ns line ss) (stmts_stable ns line ss) (laid_in d4) (laid_in d6) (a + 2) (length d4.ops) (omega arith) kept_four here in
      let there = (stmts_stable ns line ss).moves (laid_in d6) was (a + 2) (length d4.ops) (part (laid_in d6) was 0 (length d6.ops) (a + 2) (length d4.ops) (omega arith) (omega arith) kept_six) six in
      (stmts_stable ns line ss).moves was now (a + 2) (length d4.ops) (part was now (a + 2) (length d7.ops) (a + 2) (length d4.ops) (omega arith) (omega arith) behind) there

  skips : OpAt now (length d4.ops) (op.Jump (a + 1)) line
  skips =
      let l = low in
      let z = long_six in
      let y = high in
      let jump : OpAt (laid_in d6) (length d4.ops) (op.Jump (a + 1)) line =
      subst (λ (x : ℕ). OpAt (laid_in d6) x (op.Jump (a + 1)) line) long_five (subst (λ (x : ℕ). OpAt (laid_in d6) (length d5.ops) (op.Jump (x + 1)) line) st g6.code.here) in
      behind.same (length d4.ops) (op.Jump (a + 1)) line (omega arith) (omega arith) (kept_six.same (length d4.ops) (op.Jump (a + 1)) line (omega arith) (omega arith) jump)

  handled : HandlersAt now ms first (a + 1) hs (length d4.ops + 1) (length d7.ops)
  handled =
      let l = low in
      let one = subst (λ (ns : List CodeMark). HandlersAt was ns first (start + 1) hs (length d6.ops) (length d7.ops)) marks_six w.code in
      let two = subst (λ (x : ℕ). HandlersAt was ms first (x + 1) hs (length d6.ops) (length d7.ops)) st one in
      let three = subst (λ (x : ℕ). HandlersAt was ms first (a + 1) hs x (length d7.ops)) long_six two in
      (handlers_stable ms first (a + 1) hs).moves was now (length d4.ops + 1) (length d7.ops) (part was now (a + 2) (length d7.ops) (length d4.ops + 1) (length d7.ops) (omega arith) (omega arith) behind) three

  guarded_at : Guarded now line ms (handler_rows hs) (λ ns. StmtsAt now ns line ss) (λ f pad. HandlersAt now ms f pad hs) a (length now.ops)
  guarded_at =
      subst (λ (count : ℕ). Guarded now line ms count (λ ns. StmtsAt now ns line ss) (λ f pad. HandlersAt now ms f pad hs) a (length now.ops)) ne (
      subst (λ (z : ℕ). Guarded now line ms n (λ ns. StmtsAt now ns line ss) (λ f pad. HandlersAt now ms f pad hs) a z) (sym long) (record {
        first = first;
        body_end = length d4.ops;
        begin = begins;
        pad = leaves;
        body = body;
        leave = skips;
        handlers = handled;
      }))

  three : d3 ≡ record d0 { ops = d2.ops; rows = d3.rows; settled = d3.settled; marks = guards (length d2.rows) n d2.marks }
  three = og.rest ∙ ap (λ (d : Draft). let x : Draft = record d { rows = d3.rows; settled = d3.settled; marks = guards (length d2.rows) n d2.marks } in x) (g2.rest ∙ ap (λ (d : Draft). let x : Draft = record d { ops = d2.ops } in x) g1.rest)

  six_is : d6 ≡ record d0 { ops = d6.ops; rows = d5.rows; settled = d5.settled; scopes = d4.scopes; names = d4.names; cells = d4.cells; hidden = d4.hidden; texts = d4.texts; sites = d4.sites }
  six_is =
      g6.rest
      ∙ ap (λ (d : Draft). let x : Draft = record d { ops = d6.ops } in x) closes.rest
      ∙ ap (λ (d : Draft). let x : Draft = record d { ops = d6.ops; rows = d5.rows; settled = d5.settled; marks = ms } in x) h.rest
      ∙ ap (λ (d : Draft). let x : Draft = record d { ops = d6.ops; rows = d5.rows; settled = d5.settled; marks = ms; scopes = d4.scopes; names = d4.names; cells = d4.cells; hidden = d4.hidden; texts = d4.texts; sites = d4.sites } in x)
      three

  new_is : new ≡ record d0 { ops = now.ops; rows = d7.rows; settled = d7.settled; scopes = d7.scopes; names = d7.names; cells = d7.cells; hidden = d7.hidden; texts = d7.texts; sites = d7.sites }
  new_is =
      is ∙ ap (λ (d : Draft). let x : Draft = record d { ops = now.ops } in x) w.rest
      ∙ ap (λ (d : Draft). let x : Draft = record d { ops = now.ops; rows = d7.rows; settled = d7.settled; scopes = d7.scopes; names = d7.names; cells = d7.cells; hidden = d7.hidden; texts = d7.texts; sites = d7.sites } in x) six_is

  grown : RowsFit 0 (n + u + v) d0 d7
  grown = record {
    more =
        let a2 : length d3.rows ≡ length d2.rows + n = og.rows.more in
        let a4 = h.rows.more in
        let a5 = closes.rows.more in
        let a6 : length d6.rows ≡ length d5.rows = ap (λ (d : Draft). length d.rows) g6.rest in
        let a7 = w.rows.more in
        omega (arith, rows_two);
    few =
        let a2 : length d3.rows ≡ length d2.rows + n = og.rows.more in
        let a4 = h.rows.few in
        let a5 = closes.rows.more in
        let a6 : length d6.rows ≡ length d5.rows = ap (λ (d : Draft). length d.rows) g6.rest in
        let a7 = w.rows.few in
        let m3 : open_rows d3.marks ≡ n + open_rows ms = ap open_rows inside ∙ open_guards_rows first n ms in
        let m4 : open_rows d4.marks ≡ n + open_rows ms = ap open_rows marks_four ∙ open_guards_rows first n ms in
        let m6 : open_rows d6.marks ≡ open_rows ms = ap open_rows marks_six in
        let m7 : open_rows d7.marks ≡ open_rows d6.marks = ap (λ (d : Draft). open_rows d.marks) w.rest in
        omega (arith, rows_two, long_three, long_six, paid);
    begin = λ x l u.
        let up = w.kept.longer in
        let four = h.kept.longer in
        let none : BeginBy x d2.rows = subst (BeginBy x) (sym (ap (λ (d : Draft). d.rows) g2.rest ∙ ap (λ (d : Draft). d.rows) g1.rest)) u in
        let three = og.rows.begin x (omega (arith, long_two, long_three, long_six)) none in
        let body = h.rows.begin x (omega (arith, long_six)) three in
        let five = closes.rows.begin x (omega (arith, long_six)) body in
        w.rows.begin x l (subst (BeginBy x) (sym (ap (λ (d : Draft). d.rows) g6.rest)) five);
  }

  pub arm_guarded : Lowers (n + u + v) (3 + nn + m) (k + j) (c + b) (o + q) (λ code. Guarded code line ms (handler_rows hs) (λ ns. StmtsAt code ns line ss) (λ f pad. HandlersAt code ms f pad hs)) after d0 new
  arm_guarded =
      let texts_three : d3.texts ≡ d0.texts = ap (λ (d : Draft). d.texts) three in
      let cells_three : d3.cells ≡ d0.cells = ap (λ (d : Draft). d.cells) three in
      let scopes_three : d3.scopes ≡ d0.scopes = ap (λ (d : Draft). d.scopes) three in
      let texts_six : d6.texts ≡ d4.texts = ap (λ (d : Draft). d.texts) six_is in
      let cells_six : d6.cells ≡ d4.cells = ap (λ (d : Draft). d.cells) six_is in
      let scopes_six : d6.scopes ≡ d4.scopes = ap (λ (d : Draft). d.scopes) six_is in
      let texts_new : new.texts ≡ d7.texts = ap (λ (d : Draft). d.texts) new_is in
      let cells_new : new.cells ≡ d7.cells = ap (λ (d : Draft). d.cells) new_is in
      let scopes_new : new.scopes ≡ d7.scopes = ap (λ (d : Draft). d.scopes) new_is in
      let laid_new : laid_in new ≡ now = ap laid_in is in
      let long_new : length new.ops ≡ length now.ops = ap (λ (d : Draft). length d.ops) is in
      record {
        rest = subst (λ (d : Draft). d ≡ record d0 { ops = d.ops; rows = d.rows; settled = d.settled; scopes = d.scopes; names = d.names; cells = d.cells; hidden = d.hidden; texts = d.texts; sites = d.sites }) (sym new_is) refl;
        scope = ap scope_of is ∙ w.scope;
        opened = let x = h.opened in let y = w.opened in omega arith;
        rows = fit_like d0 new refl refl refl (ap (λ (d : Draft). d.rows) is) (long_new ∙ long) (ap (λ (d : Draft). open_rows d.marks) is) grown;
        kept = subst (λ (code : Laid). Kept (laid_in d0) code) (sym laid_new) (kept_patch (laid_in d0) was (a + 1) (op.Jump (length d7.ops)) kept_all (omega arith));
        room = let x = h.room in let y = w.room in let z = long in let v = long_six in let u = long_three in omega arith;
        texts = let x = h.texts in let y = w.texts in omega arith;
        cells = let x = h.cells in let y = w.cells in omega arith;
        code = subst (λ (z : ℕ). Guarded (laid_in new) line ms (handler_rows hs) (λ ns. StmtsAt (laid_in new) ns line ss) (λ f pad. HandlersAt (laid_in new) ms f pad hs) a z) (sym long_new)
            (subst (λ (code : Laid). Guarded code line ms (handler_rows hs) (λ ns. StmtsAt code ns line ss) (λ f pad. HandlersAt code ms f pad hs) a (length now.ops)) (sym laid_new) guarded_at);
      }

-- a statement of one

pub arm_try : (p : Program) (line brace start first end n : ℕ) (body : tree.Stmts) (hs : tree.Handlers) (out : OuterScope) (d0 d1 d2 d3 b1 b2 d4 d5 d6 d7 new : Draft) → start ≡ length d0.ops → first ≡ length d2.rows → n ≡ length (tree.handler_list hs)
    → Adds 1 (OpCode line (op.Jump (start + 2))) d0 d1 → Adds 1 (OpCode line (op.Jump 0)) d1 d2 → OpensGuards n d2 d3
    → out ≡ record { names = length d3.names; scope = d3.place.scope } → b1 ≡ opened d3 → LowersStmts p brace body b1 b2 → d4 ≡ record b2 { place = record b2.place { scope = out.scope }; names = take out.names b2.names }
    → ((f : ℕ) (ns : List CodeMark) → d4.marks ≡ guards f n ns → ClosesGuards f n ns d4 d5) → Adds 1 (OpCode line (op.Jump (start + 1))) d5 d6 → LowersHandlers p first (start + 1) hs d6 d7
    → end ≡ length d7.ops → new ≡ record d7 { ops = patched d7.ops (start + 1) (op.Jump end) } → LowersTry p line brace body hs d0 new
arm_try p line brace start first end n body hs out d0 d1 d2 d3 b1 b2 d4 d5 d6 d7 new st fe ne g1 g2 og oe e1 h e4 cg g6 w ee pt =
    let s : Scope = scope_of d0 in
    let past : Scope = scope_past_all p body s in
    let marks2 : d2.marks ≡ d0.marks = ap (λ (d : Draft). d.marks) g2.rest ∙ ap (λ (d : Draft). d.marks) g1.rest in
    let marks3 : d3.marks ≡ guards (length d2.rows) n d2.marks = ap (λ (d : Draft). d.marks) og.rest in
    let scope3 : scope_of d3 ≡ s = ap scope_of og.rest ∙ ap scope_of g2.rest ∙ ap scope_of g1.rest in
    let objects3 : objects_in d3.marks ≡ objects_in d0.marks = ap objects_in marks3 ∙ guards_objects (length d2.rows) n d2.marks ∙ ap objects_in marks2 in
    let size3 = ap (sizes_at body) objects3 in
    let inner : LowersStmts p brace body (opened d3) b2 = subst (λ (d : Draft). LowersStmts p brace body d b2) e1 h in
    let one = lowers_scoped out d4 oe (back_out p body (scope_of d3)) inner e4 in
    let left : record (scope_behind p body (scope_of d3)) { names = d3.names } ≡ past = ap (λ (x : Scope). let y : Scope = record x { names = d3.names } in y) (behind_counted p body (scope_of d3)) ∙ ap (scope_past_all p body) scope3 in
    let ss : Stmts = source.Then (source.Block brace (stmts_meant p body s)) source.Nil in
    let under_rows : stmts_rows_under d3.marks (stmts_meant p body (scope_of d3)) ≡ stmts_rows_under d0.marks (stmts_meant p body s) =
    ap (λ (t : Scope). stmts_rows_under d3.marks (stmts_meant p body t)) scope3
    ∙ ap (λ (l : ℕ). stmts_rows l (return_rows d3.marks) (stmts_meant p body s)) (ap loop_rows marks3 ∙ guards_loop (length d2.rows) n d2.marks ∙ ap loop_rows marks2)
    ∙ ap (λ (r : ℕ). stmts_rows (loop_rows d0.marks) r (stmts_meant p body s)) (ap return_rows marks3 ∙ guards_return (length d2.rows) n d2.marks ∙ ap return_rows marks2) in
    let block : Lowers (stmts_rows_under d0.marks (stmts_meant p body s)) (OPS_FOR_SIZE * sizes_at body (objects_in d3.marks)) (stmts_size body) (stmts_cells body (declared_cells p)) (1 + stmts_scopes body) (λ code. StmtsAt code d3.marks line ss) past d3 d4 =
    lowers_count under_rows (lowers_as one left (λ code a z x. record { middle = z; first = subst (λ (t : Scope). StmtsAt code d3.marks brace (stmts_meant p body t) a z) scope3 x; second = record { end = refl } }) (omega arith) (omega arith) (omega arith) refl) in
    let marks4 : d4.marks ≡ guards (length d2.rows) n d2.marks = ap (λ (d : Draft). d.marks) block.rest ∙ marks3 in
    let closes = cg (length d2.rows) d2.marks marks4 in
    let scope6 : scope_of d6 ≡ past = ap scope_of g6.rest ∙ ap scope_of closes.rest ∙ block.scope in
    let objects6 : objects_in d6.marks ≡ objects_in d0.marks = ap (λ (d : Draft). objects_in d.marks) g6.rest ∙ ap (λ (d : Draft). objects_in d.marks) closes.rest ∙ ap objects_in marks2 in
    let exits6 = ap (exits_handlers hs) objects6 in
    let sources : source.Handlers = handlers_meant p hs past in
    let m : ℕ = OPS_FOR_SIZE * (handlers_size hs + exits_handlers hs (objects_in d6.marks)) in
    let marks6 : d6.marks ≡ d0.marks = ap (λ (d : Draft). d.marks) g6.rest ∙ ap (λ (d : Draft). d.marks) closes.rest ∙ marks2 in
    let handled_rows : handlers_rows_under d6.marks (handlers_meant p hs (scope_of d6)) ≡ handlers_rows_under d0.marks sources =
    ap (λ (ns : List CodeMark). handlers_rows_under ns (handlers_meant p hs (scope_of d6))) marks6 ∙ ap (λ (t : Scope). handlers_rows_under d0.marks (handlers_meant p hs t)) scope6 in
    let laid : LowersFrom (length (tree.handler_list hs)) (handlers_rows_under d0.marks sources) first m (handlers_size hs) (handlers_cells hs (declared_cells p)) (handlers_scopes hs) (λ code. HandlersAt code d6.marks first (start + 1) sources) (past_handlers p hs past) d6 d7 =
    from_count handled_rows (from_as w (omega arith) (ap (past_handlers p hs) scope6) (λ code a z x. subst (λ (t : Scope). HandlersAt code d6.marks first (start + 1) (handlers_meant p hs t) a z) scope6 x) (omega arith) (omega arith) (omega arith) refl) in
    let all = arm_guarded (length (tree.handler_list hs)) line start first end n (OPS_FOR_SIZE * sizes_at body (objects_in d3.marks)) m (stmts_size body) (stmts_cells body (declared_cells p)) (1 + stmts_scopes body) (handlers_size hs) (handlers_cells hs (declared_cells p)) (handlers_scopes hs) (stmts_rows_under d0.marks (stmts_meant p body s)) (handlers_rows_under d0.marks sources)
    sources ss past (past_handlers p hs past) d0 d1 d2 d3 d4 d5 d6 d7 new st fe (ne ∙ sym (rows_are p hs past)) (omega (arith, ne)) g1 g2 og block cg g6 laid ee pt in
    let count : n ≡ handler_rows sources = ne ∙ sym (rows_are p hs past) in
    lowers_count (omega (arith, count)) (lowers_as all refl (λ code a z x. x) (omega (arith, size3, exits6)) (omega arith) (omega arith) refl)

-- behind one

handlers_counted : (p : Program) (hs : tree.Handlers) (s : Scope) → past_handlers p hs s ≡ counted s s.names (s.cells + handlers_cells hs (declared_cells p)) (s.hidden + hidden_in_handlers hs) (s.texts + length (gathered_handlers own_texts hs)) (s.sites + length (gathered_handlers (own_sites None 0) hs))
handlers_counted p tree.NoHandlers s = nothing_counted s
handlers_counted p (tree.MoreHandlers (tree.Handles pos kind event param brace body) hs) s =
    let h : tree.Handler = tree.Handles pos kind event param brace body in
    let a = length-append (gathered_all own_texts body) (gathered_handlers own_texts hs) in
    let b = length-append (gathered_all (own_sites None 0) body) (gathered_handlers (own_sites None 0) hs) in
    let c : s.cells + stmts_cells body (declared_cells p) + handlers_cells hs (declared_cells p) ≡ s.cells + handlers_cells (tree.MoreHandlers h hs) (declared_cells p) = omega arith in
    let i : s.hidden + KEPT_CELLS + hidden_in_all body + hidden_in_handlers hs ≡ s.hidden + hidden_in_handlers (tree.MoreHandlers h hs) = omega arith in
    let e : s.texts + length (gathered_all own_texts body) + length (gathered_handlers own_texts hs) ≡ s.texts + length (gathered_handlers own_texts (tree.MoreHandlers h hs)) = omega (arith, a) in
    let f : s.sites + length (gathered_all (own_sites None 0) body) + length (gathered_handlers (own_sites None 0) hs) ≡ s.sites + length (gathered_handlers (own_sites None 0) (tree.MoreHandlers h hs)) = omega (arith, b) in
    handlers_counted p hs (scope_past_handler p h s) ∙ counted_as s s.names _ _ _ _ _ _ _ _ c i e f

tried_counted : (p : Program) (place brace : Pos) (body : tree.Stmts) (hs : tree.Handlers) (s : Scope) → past_handlers p hs (scope_past_all p body s) ≡ scope_after p (tree.Try place brace body hs) s
tried_counted p place brace body hs s =
    let a = length-append (gathered_all own_texts body) (gathered_handlers own_texts hs) in
    let b = length-append (gathered_all (own_sites None 0) body) (gathered_handlers (own_sites None 0) hs) in
    let c : s.cells + stmts_cells body (declared_cells p) + handlers_cells hs (declared_cells p) ≡ s.cells + (stmts_cells body (declared_cells p) + handlers_cells hs (declared_cells p)) = omega arith in
    let i : s.hidden + hidden_in_all body + hidden_in_handlers hs ≡ s.hidden + (hidden_in_all body + hidden_in_handlers hs) = omega arith in
    let e : s.texts + length (gathered_all own_texts body) + length (gathered_handlers own_texts hs) ≡ s.texts + length (gathered own_texts (tree.Try place brace body hs)) = omega (arith, a) in
    let f : s.sites + length (gathered_all (own_sites None 0) body) + length (gathered_handlers (own_sites None 0) hs) ≡ s.sites + length (gathered (own_sites None 0) (tree.Try place brace body hs)) = omega (arith, b) in
    handlers_counted p hs (scope_past_all p body s) ∙ counted_as s s.names _ _ _ _ _ _ _ _ c i e f

pub arm_tried : (p : Program) (s : tree.Stmt) (place brace : Pos) (xs ys : List tree.Stmt) (hs gs : List tree.Handler) (old new : Draft) → tree.Try place brace (tree.stmts_of ys) (tree.handlers_of gs) ≡ s → xs ≡ ys → hs ≡ gs
    → LowersTry p place.line brace.line (tree.stmts_of xs) (tree.handlers_of hs) old new → LowersStmt p s old new
arm_tried p s place brace xs ys hs gs old new e i j a =
    as_stmt p s (tree.Try place brace (tree.stmts_of xs) (tree.handlers_of hs)) old new
    (ap (λ (l : List tree.Stmt). tree.Try place brace (tree.stmts_of l) (tree.handlers_of hs)) i ∙ ap (λ (l : List tree.Handler). tree.Try place brace (tree.stmts_of ys) (tree.handlers_of l)) j ∙ e)
    (lowers_as a (tried_counted p place brace (tree.stmts_of xs) (tree.handlers_of hs) (scope_of old)) (λ code x z w. w) (omega arith) (omega arith) (omega arith) (omega arith))
