-- A block that is left as a whole, and the bodies that are made of it.
use Rattle.std.proofs.Common.{◌≡◌, ℕ, ◌+◌, ◌*◌, ◌≤◌, List, [], ◌∷◌, ◌++◌, drop, length, reverse, Some, refl, ap, sym, subst, ◌∙◌, arith}
use Rattle.std.proofs.lemmas.Option.{slice_get_within}
use Rattle.uc_tree.specs.Source.{Stmts, Whole}
use Rattle.uc_tree.specs.declared.limits.TheConstants.{OPS_FOR_SIZE}
use Rattle.uc_tree.specs.Statements as tree
use Rattle.uc_tree.specs.StatementSizes.{stmts_size}
use Rattle.uc_tree.specs.Cells.{declared_cells, stmts_cells}
use Rattle.uc_tree.specs.Scopes.{stmts_scopes}
use Rattle.uc_tree.specs.Programs.{Program, Routine}
use Rattle.uc_resolve.specs.Resolve.{Scope, scope_behind, stmts_meant}
use Rattle.uc_code.specs.declared.op.Op.{Op}
use Rattle.uc_code.specs.declared.op.Op.TheVariants as op
use Rattle.uc_code.specs.declared.rows.CodeMark.{CodeMark}
use Rattle.uc_code.specs.declared.rows.CodeMark.TheVariants as mark
use Rattle.uc_code.specs.declared.rows.Opening.TheVariants as opening
use Rattle.uc_code.specs.declared.rows.Cleaning.{Cleaning}
use Rattle.uc_code.specs.Drafts.{Draft, patched}
use Rattle.uc_code.specs.Layout.{Laid, laid_in}
use Rattle.uc_code.specs.OpenRows.{closed, handler_in, opened, row_in}
use Rattle.uc_code.specs.CodeShapes.{HandlerAt, OpAt, Kept, Risk, Same, clean_up}
use Rattle.uc_code.specs.Lowered.{StmtAt, StmtsAt}
use Rattle.uc_code.proofs.Patches.{bare_stays, handler_stays, length-patched, patched_at, same_after, same_before}
use Rattle.uc_code.proofs.Stable.{kept_piece, kept_then, part, risk_stable}
use Rattle.uc_code.proofs.Sweeping.{closed_marks, closed_ops, like_closed}
use Rattle.uc_lower_expr.specs.DraftGrowth.{Adds, OpCode, RiskCode}
use Rattle.uc_lower_stmt.specs.OpenScopes.{block_of, Step, way_rows}
use Rattle.uc_lower_stmt.specs.Marked.{objects_in}
use Rattle.uc_lower_stmt.specs.LowersStatement.{Lowers, LowersStmts, scope_of, sizes_at}
use Rattle.uc_lower_class.specs.Bodies.{LowersWhole, whole_room}
use Rattle.uc_lower_stmt.proofs.Kept.{stmts_stable}
use Rattle.uc_lower_class.specs.OpenParts.{Pended, Begins, Constructs, EndsParts}
use Rattle.uc_lower_class.proofs.Parting.{block_join, end_reverse, marks_behind, pended_kept, pended_ends}
use Rattle.uc_code.proofs.Growth.{rows_closed}
use Rattle.uc_lower_stmt.specs.RowFit.{RowsFit, open_rows}
use Rattle.uc_lower_stmt.proofs.RowFitting.{fit_adds, fit_closed, fit_opened, fit_then, fit_count}
use Rattle.uc_lower_stmt.proofs.Joined.{lowers_count}
use Rattle.uc_lower_stmt.proofs.Laying.{begun_join, block_rows, way_join}
use Rattle.uc_lower_stmt.specs.SourceRows.{stmt_rows_under, stmts_rows, stmts_rows_under}
use Rattle.uc_code.specs.RowCounts.{loop_rows, return_rows}

-- what was laid out before a place stays where the op at the place is another one
kept_patch : (old now : Laid) (at : ℕ) (o : Op) → Kept old now → length old.ops ≤ at → Kept old (record { ops = patched now.ops at o; rows = now.rows })
kept_patch old now at o k l = record {
  longer = let e = length-patched now.ops at o in let x = k.longer in omega arith;
  same = λ i was line w. let x = slice_get_within old.ops i (record { op = was; line = line }) w.here in (same_before now at o 0 at (omega arith)).same i was line (omega arith) (omega arith) (k.same i was line w);
  chains = λ next b. k.chains next b;
  handlers = λ number entry w. handler_stays now (record { ops = patched now.ops at o; rows = now.rows }) refl number entry (k.handlers number entry w);
  bare = λ number w. bare_stays now (record { ops = patched now.ops at o; rows = now.rows }) refl number (k.bare number w);
}

module _ (line start end n k c o : ℕ) (ss : Stmts) (after : Scope) (d0 d1 d2 d3 d4 d5 d6 d7 new : Draft)
    (st : start ≡ length d0.ops) (g1 : Adds 1 (OpCode line (op.Jump (start + 2))) d0 d1) (g2 : Adds 1 (OpCode line (op.Jump 0)) d1 d2)
    (o3 : d3 ≡ opened (opening.Whole (start + 1)) d2) (k3 : Kept (laid_in d2) (laid_in d3)) (h : Lowers (stmts_rows 0 0 ss) n k c o (λ code. StmtsAt code d3.marks line ss) after d3 d4)
    (c5 : d5 ≡ closed 1 d4) (k5 : Kept (laid_in d4) (laid_in d5)) (h5 : (row : ℕ) → handler_in d4.marks ≡ Some row → HandlerAt (laid_in d5) row (clean_up (length d4.ops + 1)))
    (ee : end ≡ length d5.ops + 2) (g6 : Adds 1 (OpCode line (op.Jump end)) d5 d6) (g7 : Adds 1 (RiskCode line d6.marks op.Handled) d6 d7)
    (pt : new ≡ record d7 { ops = patched d7.ops (start + 1) (op.Jump end) }) where
  abbrev a : ℕ
  a = length d0.ops

  abbrev ms : List CodeMark
  ms = d0.marks

  abbrev row : ℕ
  row = length d2.rows

  abbrev was : Laid
  was = laid_in d7

  abbrev now : Laid
  now = record { ops = patched d7.ops (a + 1) (op.Jump (length d7.ops)); rows = d7.rows }

  long_one : length d1.ops ≡ a + 1
  long_one = g1.code.end

  long_two : length d2.ops ≡ a + 2
  long_two = let x = g2.code.end in let y = long_one in omega arith

  marks_two : d2.marks ≡ ms
  marks_two = ap (λ (d : Draft). d.marks) g2.rest ∙ ap (λ (d : Draft). d.marks) g1.rest

  entered : d3 ≡ opened (opening.Whole (a + 1)) d2
  entered = o3 ∙ ap (λ (x : ℕ). opened (opening.Whole (x + 1)) d2) st

  inside : d3.marks ≡ mark.Whole (a + 1) row ∷ ms
  inside = ap (λ (d : Draft). d.marks) entered ∙ ap (λ (ns : List CodeMark). mark.Whole (a + 1) row ∷ ns) marks_two

  ops_three : d3.ops ≡ d2.ops
  ops_three = ap (λ (d : Draft). d.ops) entered

  long_three : length d3.ops ≡ a + 2
  long_three = ap length ops_three ∙ long_two

  marks_four : d4.marks ≡ mark.Whole (a + 1) row ∷ ms
  marks_four = ap (λ (d : Draft). d.marks) h.rest ∙ inside

  marks_five : d5.marks ≡ ms
  marks_five = closed_marks 1 row d4 d5 c5 (ap row_in marks_four) ∙ ap (λ (ns : List CodeMark). drop 1 ns) marks_four

  marks_six : d6.marks ≡ ms
  marks_six = ap (λ (d : Draft). d.marks) g6.rest ∙ marks_five

  long_five : length d5.ops ≡ length d4.ops
  long_five = ap length (closed_ops 1 d4 d5 c5)

  long_six : length d6.ops ≡ length d4.ops + 1
  long_six = let x = g6.code.end in let y = long_five in omega arith

  to_end : end ≡ length d7.ops
  to_end = let x = g7.code.end in let y = long_six in let z = long_five in omega (arith, ee)

  kept_six : Kept (laid_in d6) was
  kept_six = g7.kept

  kept_five : Kept (laid_in d5) was
  kept_five = kept_then (laid_in d5) (laid_in d6) was g6.kept kept_six

  kept_four : Kept (laid_in d4) was
  kept_four = kept_then (laid_in d4) (laid_in d5) was k5 kept_five

  kept_three : Kept (laid_in d3) was
  kept_three = kept_then (laid_in d3) (laid_in d4) was h.kept kept_four

  kept_two : Kept (laid_in d2) was
  kept_two = kept_then (laid_in d2) (laid_in d3) was k3 kept_three

  kept_one : Kept (laid_in d1) was
  kept_one = kept_then (laid_in d1) (laid_in d2) was g2.kept kept_two

  kept_all : Kept (laid_in d0) was
  kept_all = kept_then (laid_in d0) (laid_in d1) was g1.kept kept_one

  is : new ≡ record d7 { ops = now.ops }
  is = pt ∙ ap (λ (x : ℕ). let d : Draft = record d7 { ops = patched d7.ops (start + 1) (op.Jump x) } in d) to_end
      ∙ ap (λ (x : ℕ). let d : Draft = record d7 { ops = patched d7.ops (x + 1) (op.Jump (length d7.ops)) } in d) st

  long : length now.ops ≡ length d7.ops
  long = length-patched d7.ops (a + 1) (op.Jump (length d7.ops))

  -- ops behind the pad stay
  behind : Same was now (a + 2) (length d7.ops)
  behind = same_after was (a + 1) (op.Jump (length d7.ops)) (a + 2) (length d7.ops) (omega arith)

  begins : OpAt now a (op.Jump (a + 2)) line
  begins =
      let first : OpAt (laid_in d1) a (op.Jump (a + 2)) line = subst (λ (x : ℕ). OpAt (laid_in d1) a (op.Jump (x + 2)) line) st g1.code.here in
      (same_before was (a + 1) (op.Jump (length d7.ops)) 0 (a + 1) (omega arith)).same a (op.Jump (a + 2)) line (omega arith) (omega arith) (kept_one.same a (op.Jump (a + 2)) line first)

  leaves : OpAt now (a + 1) (op.Jump (length d7.ops)) line
  leaves =
      let hole : OpAt (laid_in d2) (a + 1) (op.Jump 0) line = subst (λ (x : ℕ). OpAt (laid_in d2) x (op.Jump 0) line) long_one g2.code.here in
      patched_at was (a + 1) (op.Jump (length d7.ops)) (op.Jump 0) line (kept_two.same (a + 1) (op.Jump 0) line hole)

  body : StmtsAt now (mark.Whole (a + 1) row ∷ ms) line ss (a + 2) (length d4.ops)
  body =
      let l = kept_four.longer in
      let under = subst (λ (ns : List CodeMark). StmtsAt (laid_in d4) ns line ss (length d3.ops) (length d4.ops)) inside h.code in
      let here = subst (λ (x : ℕ). StmtsAt (laid_in d4) (mark.Whole (a + 1) row ∷ ms) line ss x (length d4.ops)) long_three under in
      let there = kept_piece (λ x. StmtsAt x (mark.Whole (a + 1) row ∷ ms) line ss) (stmts_stable (mark.Whole (a + 1) row ∷ ms) line ss) (laid_in d4) was (a + 2) (length d4.ops) (omega arith) kept_four here in
      (stmts_stable (mark.Whole (a + 1) row ∷ ms) line ss).moves was now (a + 2) (length d4.ops) (part was now (a + 2) (length d7.ops) (a + 2) (length d4.ops) (omega arith) (omega arith) behind) there

  skips : OpAt now (length d4.ops) (op.Jump (length d7.ops)) line
  skips =
      let low = h.kept.longer in
      let high = long_six in
      let top = kept_six.longer in
      let three = long_three in
      let jump : OpAt (laid_in d6) (length d4.ops) (op.Jump (length d7.ops)) line =
      subst (λ (x : ℕ). OpAt (laid_in d6) x (op.Jump (length d7.ops)) line) long_five (subst (λ (x : ℕ). OpAt (laid_in d6) (length d5.ops) (op.Jump x) line) to_end g6.code.here) in
      behind.same (length d4.ops) (op.Jump (length d7.ops)) line (omega arith) (omega arith) (kept_six.same (length d4.ops) (op.Jump (length d7.ops)) line jump)

  tests : Risk now ms op.Handled line (length d4.ops + 1) (length d7.ops)
  tests =
      let low = h.kept.longer in
      let three = long_three in
      let under = subst (λ (ns : List CodeMark). Risk was ns op.Handled line (length d6.ops) (length d7.ops)) marks_six g7.code in
      let here = subst (λ (x : ℕ). Risk was ms op.Handled line x (length d7.ops)) long_six under in
      (risk_stable ms op.Handled line).moves was now (length d4.ops + 1) (length d7.ops) (part was now (a + 2) (length d7.ops) (length d4.ops + 1) (length d7.ops) (omega arith) (omega arith) behind) here

  whole_at : StmtAt now ms (Whole line ss) a (length now.ops)
  whole_at = subst (λ (z : ℕ). StmtAt now ms (Whole line ss) a z) (sym long) (record {
    row = row;
    body_end = length d4.ops;
    begin = begins;
    leave = leaves;
    body = body;
    skip = skips;
    tests = tests;
    handler = handler_stays was now refl row (clean_up (length d4.ops + 1)) (kept_five.handlers row (clean_up (length d4.ops + 1)) (h5 row (ap handler_in marks_four)));
  })

  five_is : d5 ≡ record d0 { ops = d5.ops; rows = d5.rows; settled = d5.settled; scopes = d4.scopes; names = d4.names; cells = d4.cells; hidden = d4.hidden; texts = d4.texts; sites = d4.sites }
  five_is =
      like_closed 1 d4 d4 d5 refl c5
      ∙ ap (λ (d : Draft). let x : Draft = record d { ops = d5.ops; rows = d5.rows; settled = d5.settled; marks = d5.marks } in x) h.rest
      ∙ ap (λ (d : Draft). let x : Draft = record d { ops = d5.ops; rows = d5.rows; settled = d5.settled; marks = d5.marks; scopes = d4.scopes; names = d4.names; cells = d4.cells; hidden = d4.hidden; texts = d4.texts; sites = d4.sites } in x)
      (entered ∙ ap (λ (d : Draft). opened (opening.Whole (a + 1)) d) (g2.rest ∙ ap (λ (d : Draft). let x : Draft = record d { ops = d2.ops } in x) g1.rest))
      ∙ ap (λ (ns : List CodeMark). let x : Draft = record d0 { ops = d5.ops; rows = d5.rows; settled = d5.settled; marks = ns; scopes = d4.scopes; names = d4.names; cells = d4.cells; hidden = d4.hidden; texts = d4.texts; sites = d4.sites } in x) marks_five

  new_whole : new ≡ record d0 { ops = now.ops; rows = d5.rows; settled = d5.settled; scopes = d4.scopes; names = d4.names; cells = d4.cells; hidden = d4.hidden; texts = d4.texts; sites = d4.sites }
  new_whole = is ∙ ap (λ (d : Draft). let x : Draft = record d { ops = now.ops } in x) (g7.rest ∙ ap (λ (d : Draft). let x : Draft = record d { ops = d7.ops } in x) (g6.rest ∙ ap (λ (d : Draft). let x : Draft = record d { ops = d6.ops } in x) five_is))

  scope_three : scope_of d3 ≡ scope_of d0
  scope_three = ap scope_of entered ∙ ap scope_of g2.rest ∙ ap scope_of g1.rest

  pub arm_whole : Lowers (stmt_rows_under ms (Whole line ss)) (4 + n) k c o (λ code. StmtAt code ms (Whole line ss)) after d0 new
  arm_whole =
      let texts_three : d3.texts ≡ d0.texts = ap (λ (s : Scope). s.texts) scope_three in
      let cells_three : d3.cells ≡ d0.cells = ap (λ (s : Scope). s.cells) scope_three in
      let scopes_three : d3.scopes ≡ d0.scopes = ap (λ (d : Draft). d.scopes) entered ∙ ap (λ (d : Draft). d.scopes) g2.rest ∙ ap (λ (d : Draft). d.scopes) g1.rest in
      let texts_new : new.texts ≡ d4.texts = ap (λ (d : Draft). d.texts) new_whole in
      let cells_new : new.cells ≡ d4.cells = ap (λ (d : Draft). d.cells) new_whole in
      let scopes_new : new.scopes ≡ d4.scopes = ap (λ (d : Draft). d.scopes) new_whole in
      let laid_new : laid_in new ≡ now = ap laid_in is in
      let long_new : length new.ops ≡ length now.ops = ap (λ (d : Draft). length d.ops) is in
      record {
        rest = subst (λ (d : Draft). d ≡ record d0 { ops = d.ops; rows = d.rows; settled = d.settled; scopes = d.scopes; names = d.names; cells = d.cells; hidden = d.hidden; texts = d.texts; sites = d.sites }) (sym new_whole) refl;
        scope = ap scope_of is ∙ ap scope_of g7.rest ∙ ap scope_of g6.rest ∙ ap scope_of (like_closed 1 d4 d4 d5 refl c5) ∙ h.scope;
        opened = let x = h.opened in omega arith;
        rows =
            let two : RowsFit 0 0 d0 d2 = fit_then g2.kept.longer (fit_adds g1) (fit_adds g2) in
            let four = fit_then h.kept.longer (fit_then k3.longer two (fit_opened (opening.Whole (start + 1)) d2 d3 o3)) h.rows in
            let e7 = g7.code.end in
            fit_count (omega arith) (fit_closed four (rows_closed 1 d4 d5 c5) (ap (λ (d : Draft). d.rows) new_whole) (ap open_rows marks_four) (ap (λ (d : Draft). open_rows d.marks) new_whole) (omega (arith, long_new, long, long_six, e7)) (omega (arith, long_new, long, long_six, e7)));
        kept = subst (λ (code : Laid). Kept (laid_in d0) code) (sym laid_new) (kept_patch (laid_in d0) was (a + 1) (op.Jump (length d7.ops)) kept_all (omega arith));
        room = let x = h.room in let y = long in let w = g7.code.end in let v = long_six in let u = long_three in omega arith;
        texts = let x = h.texts in omega arith;
        cells = let x = h.cells in omega arith;
        code = subst (λ (z : ℕ). StmtAt (laid_in new) ms (Whole line ss) a z) (sym long_new) (subst (λ (code : Laid). StmtAt code ms (Whole line ss) a (length now.ops)) (sym laid_new) whole_at);
      }

-- statements behind fields that are built, and the end of their parts
module _ (n m k c o : ℕ) (F : Stmts → Stmts) (us : List Cleaning) (ss : Stmts) (after : Scope) (d0 d1 d2 new : Draft) (h : Constructs n F [] d0 us d1) (w : Lowers (stmts_rows_under d1.marks ss) m k c o (λ code. StmtsAt code d1.marks 0 ss) after d1 d2) (e : EndsParts (reverse us) d2 new) where
  marks_two-built : d2.marks ≡ d1.marks
  marks_two-built = ap (λ (d : Draft). d.marks) w.rest

  laid : Pended (laid_in d1) d0.marks (length d0.ops) (reverse us) (h.steps ++ []) d1.marks (length d1.ops)
  laid = h.code d0.marks (length d0.ops) [] Begins

  marks_back : new.marks ≡ d0.marks
  marks_back = e.marks ∙ ap (λ (ns : List CodeMark). drop (length (reverse us)) ns) marks_two-built ∙ marks_behind (laid_in d1) d0.marks (length d0.ops) (reverse us) (h.steps ++ []) d1.marks (length d1.ops) laid

  block_is : block_of (h.steps ++ []) ss ≡ F ss
  block_is = block_join [] h.steps ss ∙ h.block ss

  built_code : StmtsAt (laid_in new) d0.marks 0 (F ss) (length d0.ops) (length new.ops)
  built_code =
      let before : Pended (laid_in d2) d0.marks (length d0.ops) (reverse us) (h.steps ++ []) d2.marks (length d1.ops) = subst (λ (ns : List CodeMark). Pended (laid_in d2) d0.marks (length d0.ops) (reverse us) (h.steps ++ []) ns (length d1.ops)) (sym marks_two-built)
      (pended_kept (laid_in d1) (laid_in d2) d0.marks (length d0.ops) (reverse us) (h.steps ++ []) d1.marks (length d1.ops) w.kept (omega arith) laid) in
      let behind : StmtsAt (laid_in d2) d2.marks 0 ss (length d1.ops) (length d2.ops) = subst (λ (ns : List CodeMark). StmtsAt (laid_in d2) ns 0 ss (length d1.ops) (length d2.ops)) (sym marks_two-built) w.code in
      subst (λ (qs : Stmts). StmtsAt (laid_in new) d0.marks 0 qs (length d0.ops) (length new.ops)) block_is (e.block d0.marks (length d0.ops) (length d1.ops) (h.steps ++ []) ss before behind)

  new_is : new ≡ record d0 { ops = new.ops; rows = new.rows; settled = new.settled; scopes = d2.scopes; names = d2.names; cells = d2.cells; hidden = d2.hidden; texts = d2.texts; sites = d2.sites }
  new_is =
      e.rest ∙ ap (λ (d : Draft). let x : Draft = record d { ops = new.ops; rows = new.rows; settled = new.settled; marks = new.marks } in x) w.rest
      ∙ ap (λ (d : Draft). let x : Draft = record d { ops = new.ops; rows = new.rows; settled = new.settled; marks = new.marks; scopes = d2.scopes; names = d2.names; cells = d2.cells; hidden = d2.hidden; texts = d2.texts; sites = d2.sites } in x) h.rest
      ∙ ap (λ (ns : List CodeMark). let x : Draft = record d0 { ops = new.ops; rows = new.rows; settled = new.settled; marks = ns; scopes = d2.scopes; names = d2.names; cells = d2.cells; hidden = d2.hidden; texts = d2.texts; sites = d2.sites } in x) marks_back

  pub arm_built : Lowers (stmts_rows_under d0.marks (F ss)) (n + m) k c o (λ code. StmtsAt code d0.marks 0 (F ss)) after d0 new
  arm_built =
      let texts_one : d1.texts ≡ d0.texts = ap (λ (d : Draft). d.texts) h.rest in
      let cells_one : d1.cells ≡ d0.cells = ap (λ (d : Draft). d.cells) h.rest in
      let scopes_one : d1.scopes ≡ d0.scopes = ap (λ (d : Draft). d.scopes) h.rest in
      let texts_new : new.texts ≡ d2.texts = ap (λ (d : Draft). d.texts) e.rest in
      let cells_new : new.cells ≡ d2.cells = ap (λ (d : Draft). d.cells) e.rest in
      let scopes_new : new.scopes ≡ d2.scopes = ap (λ (d : Draft). d.scopes) e.rest in
      record {
        rest = subst (λ (d : Draft). d ≡ record d0 { ops = d.ops; rows = d.rows; settled = d.settled; scopes = d.scopes; names = d.names; cells = d.cells; hidden = d.hidden; texts = d.texts; sites = d.sites }) (sym new_is) refl;
        scope = ap scope_of e.rest ∙ w.scope;
        opened = let x = w.opened in omega arith;
        kept = kept_then (laid_in d0) (laid_in d1) (laid_in new) h.kept (kept_then (laid_in d1) (laid_in d2) (laid_in new) w.kept e.kept);
        rows =
            let loop : ℕ = loop_rows d0.marks in
            let out : ℕ = return_rows d0.marks in
            let ks : List Step = h.steps ++ [] in
            let all = block_rows loop out ks ss in
            let is : stmts_rows loop out (block_of ks ss) ≡ stmts_rows loop out (F ss) = ap (stmts_rows loop out) block_is in
            let begun = begun_join loop out h.steps [] in
            let within : stmts_rows (way_rows ks loop) (way_rows ks out) ss ≡ stmts_rows_under d1.marks ss =
            ap (λ (n : ℕ). stmts_rows n (way_rows ks out) ss) (way_join h.steps [] loop ∙ sym h.loops) ∙ ap (λ (n : ℕ). stmts_rows (loop_rows d1.marks) n ss) (way_join h.steps [] out ∙ sym h.returns) in
            let ends = pended_ends (laid_in d1) d0.marks (length d0.ops) out (reverse us) ks d1.marks (length d1.ops) laid in
            fit_count (omega (arith, all, is, begun, within, ends)) (fit_then e.kept.longer (fit_then w.kept.longer h.rows w.rows) e.rows);
        room = let x = h.room in let y = w.room in let z = e.room in let r = end_reverse us in omega arith;
        texts = let x = w.texts in omega arith;
        cells = let x = w.cells in omega arith;
        code = built_code;
      }

-- a routine's body as such a block
pub whole_laid : (p : Program) (r : Routine) (line start end : ℕ) (body : tree.Stmts) (d0 d1 d2 d3 d4 d5 d6 d7 new : Draft) → line ≡ r.brace.line → body ≡ r.body → start ≡ length d0.ops → Adds 1 (OpCode line (op.Jump (start + 2))) d0 d1 → Adds 1 (OpCode line (op.Jump 0)) d1 d2
    → d3 ≡ opened (opening.Whole (start + 1)) d2 → Kept (laid_in d2) (laid_in d3) → LowersStmts p line body d3 d4
    → d5 ≡ closed 1 d4 → Kept (laid_in d4) (laid_in d5) → ((row : ℕ) → handler_in d4.marks ≡ Some row → HandlerAt (laid_in d5) row (clean_up (length d4.ops + 1)))
    → end ≡ length d5.ops + 2 → Adds 1 (OpCode line (op.Jump end)) d5 d6 → Adds 1 (RiskCode line d6.marks op.Handled) d6 d7 → new ≡ record d7 { ops = patched d7.ops (start + 1) (op.Jump end) } → LowersWhole p r d0 new
whole_laid p r line start end _ d0 d1 d2 d3 d4 d5 d6 d7 new le be st g1 g2 en k3 h c5 k5 h5 ee g6 g7 pt =
    let scope : scope_of d3 ≡ scope_of d0 = ap scope_of en ∙ ap scope_of g2.rest ∙ ap scope_of g1.rest in
    let objects : objects_in d3.marks ≡ 0 = ap (λ (d : Draft). objects_in d.marks) en in
    let under_rows : stmts_rows_under d3.marks (stmts_meant p r.body (scope_of d0)) ≡ stmts_rows 0 0 (stmts_meant p r.body (scope_of d0)) = ap (λ (d : Draft). stmts_rows_under d.marks (stmts_meant p r.body (scope_of d0))) en in
    let one : Lowers (stmts_rows 0 0 (stmts_meant p r.body (scope_of d0))) (OPS_FOR_SIZE * sizes_at r.body 0) (stmts_size r.body) (stmts_cells r.body (declared_cells p)) (stmts_scopes r.body) (λ code. StmtsAt code d3.marks line (stmts_meant p r.body (scope_of d0))) (scope_behind p r.body (scope_of d0)) d3 d4 =
    lowers_count under_rows (subst (λ (s : Scope). Lowers (stmts_rows_under d3.marks (stmts_meant p r.body s)) (OPS_FOR_SIZE * sizes_at r.body 0) (stmts_size r.body) (stmts_cells r.body (declared_cells p)) (stmts_scopes r.body) (λ code. StmtsAt code d3.marks line (stmts_meant p r.body s)) (scope_behind p r.body s) d3 d4) scope (
    subst (λ (k : ℕ). Lowers (stmts_rows_under d3.marks (stmts_meant p r.body (scope_of d3))) (OPS_FOR_SIZE * sizes_at r.body k) (stmts_size r.body) (stmts_cells r.body (declared_cells p)) (stmts_scopes r.body) (λ code. StmtsAt code d3.marks line (stmts_meant p r.body (scope_of d3))) (scope_behind p r.body (scope_of d3)) d3 d4) objects (
    subst (λ (b : tree.Stmts). LowersStmts p line b d3 d4) be h))) in
    let all = arm_whole line start end (OPS_FOR_SIZE * sizes_at r.body 0) (stmts_size r.body) (stmts_cells r.body (declared_cells p)) (stmts_scopes r.body) (stmts_meant p r.body (scope_of d0)) (scope_behind p r.body (scope_of d0)) d0 d1 d2 d3 d4 d5 d6 d7 new st g1 g2 en k3 one c5 k5 h5 ee g6 g7 pt in
    subst (λ (l : ℕ). Lowers (stmt_rows_under d0.marks (Whole l (stmts_meant p r.body (scope_of d0)))) (whole_room r) (stmts_size r.body) (stmts_cells r.body (declared_cells p)) (stmts_scopes r.body) (λ code. StmtAt code d0.marks (Whole l (stmts_meant p r.body (scope_of d0)))) (scope_behind p r.body (scope_of d0)) d0 new) le all
