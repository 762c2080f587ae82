-- The code that cleans up all elements of an array, as it is added to a draft.
use Rattle.std.proofs.Common.{◌≡◌, ℕ, ◌+◌, ◌^◌, ◌<◌, List, ◌∷◌, length, drop, Option, Some, None, refl, ap, sym, subst, ◌∙◌, arith}
use Rattle.uc_code.specs.declared.op.Op.TheVariants as op
use Rattle.uc_code.specs.declared.rows.Instruction.{Instruction}
use Rattle.uc_code.specs.declared.rows.HandlerRow.{HandlerRow}
use Rattle.uc_code.specs.declared.rows.CodeMark.{CodeMark}
use Rattle.uc_code.specs.declared.rows.CodeMark.TheVariants as mark
use Rattle.uc_code.specs.declared.rows.ObjectCall.{ObjectCall}
use Rattle.uc_code.specs.declared.rows.Opening.{Opening}
use Rattle.uc_code.specs.declared.rows.Opening.TheVariants as opening
use Rattle.uc_code.specs.Drafts.{Draft}
use Rattle.uc_code.specs.Layout.{Laid, laid_in}
use Rattle.uc_code.specs.CodeShapes.{OpAt, One, Risk, HandlerAt, clean_up, OverElements, Kept}
use Rattle.uc_code.specs.Lowered.{CallDone}
use Rattle.uc_code.specs.OpenRows.{row_in, handler_in, entry_in, opened, closed, closed_by}
use Rattle.uc_code.specs.Emits.{Puts, done_length}
use Rattle.uc_code.specs.RowGrowth.{AddsRows}
use Rattle.uc_code.proofs.Growth.{rows_then, rows_last, rows_opened, rows_closed}
use Rattle.uc_code.proofs.Stable.{kept_then, kept_piece}
use Rattle.uc_code.proofs.Putting.{done_stable, done_is, marks_of}

-- a draft with other ops, rows and marks
abbrev pub with_parts : List Instruction → List HandlerRow → ℕ → List CodeMark → Draft → Draft
with_parts ops rows settled ms d = record d { ops = ops; rows = rows; settled = settled; marks = ms }

abbrev pub Like : Draft → Draft → Type 0
Like old new = new ≡ with_parts new.ops new.rows new.settled new.marks old

like_then : (a b c : Draft) → Like a b → Like b c → Like a c
like_then a b c h k = k ∙ ap (λ d. with_parts c.ops c.rows c.settled c.marks d) h

pub like_puts : {r n : ℕ} {S : Laid → ℕ → ℕ → Type 0} → (a b c : Draft) → Like a b → Puts r n S b c → Like a c
like_puts a b c h p = let m = marks_of p in like_then a b c h (p.rest ∙ ap (λ (ms : List CodeMark). let d : Draft = with_parts c.ops c.rows c.settled ms b in d) (sym m))

pub like_opened : (o : Opening) (a b c : Draft) → Like a b → c ≡ opened o b → Like a c
like_opened o a b c h e = like_then a b c h (subst (λ (d : Draft). Like b d) (sym e) refl)

closed_like : (r : Option ℕ) (entry : ℕ) (b : Draft) → Like b (closed_by r entry b)
closed_like None entry b = refl
closed_like (Some k) entry b = refl

pub like_closed : (ahead : ℕ) (a b c : Draft) → Like a b → c ≡ closed ahead b → Like a c
like_closed ahead a b c h e = like_then a b c h (subst (λ (d : Draft). Like b d) (sym e) (closed_like (row_in b.marks) (entry_in b.marks (length b.ops + ahead)) b))

pub like_rest : (a b : Draft) → Like a b → b.marks ≡ a.marks → b ≡ record a { ops = b.ops; rows = b.rows; settled = b.settled }
like_rest a b h m = h ∙ ap (λ (ms : List CodeMark). let d : Draft = with_parts b.ops b.rows b.settled ms a in d) m

ops_closed : (r : Option ℕ) (entry : ℕ) (b : Draft) → (closed_by r entry b).ops ≡ b.ops
ops_closed None entry b = refl
ops_closed (Some k) entry b = refl

marks_closed : (r : Option ℕ) (entry k : ℕ) (b : Draft) → r ≡ Some k → (closed_by r entry b).marks ≡ drop 1 b.marks
marks_closed None entry k b e = absurd (cc)
marks_closed (Some j) entry k b e = refl

pub closed_ops : (ahead : ℕ) (b c : Draft) → c ≡ closed ahead b → c.ops ≡ b.ops
closed_ops ahead b c e = ap (λ (d : Draft). d.ops) e ∙ ops_closed (row_in b.marks) (entry_in b.marks (length b.ops + ahead)) b

pub closed_marks : (ahead k : ℕ) (b c : Draft) → c ≡ closed ahead b → row_in b.marks ≡ Some k → c.marks ≡ drop 1 b.marks
closed_marks ahead k b c e r = ap (λ (d : Draft). d.marks) e ∙ marks_closed (row_in b.marks) (entry_in b.marks (length b.ops + ahead)) k b r

module _ (line n start test entry : ℕ) (few : n < 2 ^ 32) (what : ObjectCall) (d0 d1 d2 d3 d4 d5 d6 d7 d8 d9 : Draft)
    (p1 : Puts 0 1 (λ code. One code (op.Count n test) line) d0 d1) (o2 : d2 ≡ opened opening.Elements d1) (k2 : Kept (laid_in d1) (laid_in d2))
    (p3 : Puts 0 9 (λ code. CallDone code line what d2.marks) d2 d3) (p4 : Puts 0 1 (λ code. One code (op.Sweep (start + 1)) line) d3 d4) (p5 : Puts 0 1 (λ code. One code (op.Jump (entry + 2)) line) d4 d5)
    (p6 : Puts 0 9 (λ code. CallDone code line what d5.marks) d5 d6) (c7 : d7 ≡ closed 0 d6) (k7 : Kept (laid_in d6) (laid_in d7)) (h7 : (row : ℕ) → handler_in d6.marks ≡ Some row → HandlerAt (laid_in d7) row (clean_up (length d6.ops + 0)))
    (p8 : Puts 0 1 (λ code. One code (op.Sweep (test + 2)) line) d7 d8) (p9 : Puts 0 1 (λ code. Risk code d8.marks op.Unwind line) d8 d9)
    (st : start ≡ length d0.ops) (te : test ≡ start + 1 + done_length what) (en : entry ≡ test + 2 + done_length what) where
  abbrev ms : List CodeMark
  ms = d0.marks

  abbrev row : ℕ
  row = length d1.rows

  abbrev ns : List CodeMark
  ns = mark.Elements row ∷ ms

  marks2 : d2.marks ≡ ns
  marks2 = ap (λ (d : Draft). d.marks) o2 ∙ ap (λ (l : List CodeMark). mark.Elements row ∷ l) (marks_of p1)

  marks5 : d5.marks ≡ ns
  marks5 = marks_of p5 ∙ (marks_of p4 ∙ (marks_of p3 ∙ marks2))

  marks6 : d6.marks ≡ ns
  marks6 = marks_of p6 ∙ marks5

  marks7 : d7.marks ≡ ms
  marks7 = closed_marks 0 row d6 d7 c7 (ap row_in marks6) ∙ ap (λ (l : List CodeMark). drop 1 l) marks6

  marks8 : d8.marks ≡ ms
  marks8 = marks_of p8 ∙ marks7

  -- places

  ops2 : length d2.ops ≡ length d0.ops + 1
  ops2 = ap (λ (d : Draft). length d.ops) o2 ∙ p1.code.end

  ops3 : length d3.ops ≡ length d2.ops + done_length what
  ops3 = done_is (laid_in d3) line what d2.marks (length d2.ops) (length d3.ops) p3.code

  at_test : length d3.ops ≡ test
  at_test = let a = ops2 in let b = ops3 in omega arith

  ops5 : length d5.ops ≡ test + 2
  ops5 = let a = p4.code.end in let b = p5.code.end in let c = at_test in omega arith

  ops6 : length d6.ops ≡ length d5.ops + done_length what
  ops6 = done_is (laid_in d6) line what d5.marks (length d5.ops) (length d6.ops) p6.code

  at_entry : length d6.ops ≡ entry
  at_entry = let a = ops5 in let b = ops6 in omega arith

  ops7 : length d7.ops ≡ entry
  ops7 = ap length (closed_ops 0 d6 d7 c7) ∙ at_entry

  ops8 : length d8.ops ≡ entry + 1
  ops8 = let a = p8.code.end in let b = ops7 in omega arith

  ops9 : length d9.ops ≡ entry + 2
  ops9 = let a = p9.code.end in let b = ops8 in omega arith

  -- what stays

  keep8 : Kept (laid_in d8) (laid_in d9)
  keep8 = p9.kept

  keep7 : Kept (laid_in d7) (laid_in d9)
  keep7 = kept_then (laid_in d7) (laid_in d8) (laid_in d9) p8.kept keep8

  keep6 : Kept (laid_in d6) (laid_in d9)
  keep6 = kept_then (laid_in d6) (laid_in d7) (laid_in d9) k7 keep7

  keep5 : Kept (laid_in d5) (laid_in d9)
  keep5 = kept_then (laid_in d5) (laid_in d6) (laid_in d9) p6.kept keep6

  keep4 : Kept (laid_in d4) (laid_in d9)
  keep4 = kept_then (laid_in d4) (laid_in d5) (laid_in d9) p5.kept keep5

  keep3 : Kept (laid_in d3) (laid_in d9)
  keep3 = kept_then (laid_in d3) (laid_in d4) (laid_in d9) p4.kept keep4

  keep1 : Kept (laid_in d1) (laid_in d9)
  keep1 = kept_then (laid_in d1) (laid_in d2) (laid_in d9) k2 (kept_then (laid_in d2) (laid_in d3) (laid_in d9) p3.kept keep3)

  abbrev code : Laid
  code = laid_in d9

  count_at : OpAt code (length d0.ops) (op.Count n test) line
  count_at = keep1.same (length d0.ops) (op.Count n test) line p1.code.here

  turn_at : CallDone code line what ns (length d0.ops + 1) test
  turn_at =
      let h : CallDone code line what d2.marks (length d2.ops) (length d3.ops) = kept_piece (λ c. CallDone c line what d2.marks) (done_stable line what d2.marks) (laid_in d3) code (length d2.ops) (length d3.ops) (omega arith) keep3 p3.code in
      subst (λ z. CallDone code line what ns (length d0.ops + 1) z) at_test (subst (λ a. CallDone code line what ns a (length d3.ops)) ops2 (subst (λ l. CallDone code line what l (length d2.ops) (length d3.ops)) marks2 h))

  sweep_at : OpAt code test (op.Sweep (length d0.ops + 1)) line
  sweep_at = subst (λ k. OpAt code k (op.Sweep (length d0.ops + 1)) line) at_test (subst (λ s. OpAt code (length d3.ops) (op.Sweep (s + 1)) line) st (keep4.same (length d3.ops) (op.Sweep (start + 1)) line p4.code.here))

  leave_at : OpAt code (test + 1) (op.Jump (length d9.ops)) line
  leave_at =
      let e : length d4.ops ≡ test + 1 = (let a = p4.code.end in let b = at_test in omega arith) in
      subst (λ z. OpAt code (test + 1) (op.Jump z) line) (sym ops9) (subst (λ k. OpAt code k (op.Jump (entry + 2)) line) e (keep5.same (length d4.ops) (op.Jump (entry + 2)) line p5.code.here))

  undo_at : CallDone code line what ns (test + 2) entry
  undo_at =
      let h : CallDone code line what d5.marks (length d5.ops) (length d6.ops) = kept_piece (λ c. CallDone c line what d5.marks) (done_stable line what d5.marks) (laid_in d6) code (length d5.ops) (length d6.ops) (omega arith) keep6 p6.code in
      subst (λ z. CallDone code line what ns (test + 2) z) at_entry (subst (λ a. CallDone code line what ns a (length d6.ops)) ops5 (subst (λ l. CallDone code line what l (length d5.ops) (length d6.ops)) marks5 h))

  again_at : OpAt code entry (op.Sweep (test + 2)) line
  again_at = subst (λ k. OpAt code k (op.Sweep (test + 2)) line) ops7 (keep8.same (length d7.ops) (op.Sweep (test + 2)) line p8.code.here)

  unwind_at : Risk code ms op.Unwind line (entry + 1) (length d9.ops)
  unwind_at = subst (λ a. Risk code ms op.Unwind line a (length d9.ops)) ops8 (subst (λ l. Risk code l op.Unwind line (length d8.ops) (length d9.ops)) marks8 p9.code)

  handler_at : HandlerAt code row (clean_up entry)
  handler_at =
      let e : length d6.ops + 0 ≡ entry = (let a = at_entry in omega arith) in
      keep7.handlers row (clean_up entry) (subst (λ k. HandlerAt (laid_in d7) row (clean_up k)) e (h7 row (ap handler_in marks6)))

  -- one row comes to them
  grown : AddsRows 1 (length d9.ops) d0 d9
  grown =
      let g1 : AddsRows 1 (length d2.ops) d0 d2 = rows_then (omega arith) p1.rows (rows_opened opening.Elements d1 d2 o2) in
      let g3 : AddsRows 1 (length d3.ops) d0 d3 = rows_last p3.kept.longer g1 p3.rows in
      let g4 : AddsRows 1 (length d4.ops) d0 d4 = rows_last p4.kept.longer g3 p4.rows in
      let g5 : AddsRows 1 (length d5.ops) d0 d5 = rows_last p5.kept.longer g4 p5.rows in
      let g6 : AddsRows 1 (length d6.ops) d0 d6 = rows_last p6.kept.longer g5 p6.rows in
      let g7 : AddsRows 1 (length d6.ops + 0) d0 d7 = rows_last (omega arith) g6 (rows_closed 0 d6 d7 c7) in
      let g8 : AddsRows 1 (length d8.ops) d0 d8 = rows_last (let a = at_entry in let b = ops8 in omega arith) g7 p8.rows in
      rows_last p9.kept.longer g8 p9.rows

  pub swept : Puts 1 23 (λ c. OverElements c line ms n n op.Sweep op.Sweep (CallDone c line what) (CallDone c line what)) d0 d9
  swept = record {
    rest = like_rest d0 d9 (like_puts d0 d8 d9 (like_puts d0 d7 d8 (like_closed 0 d0 d6 d7 (like_puts d0 d5 d6 (like_puts d0 d4 d5 (like_puts d0 d3 d4 (like_puts d0 d2 d3 (like_opened opening.Elements d0 d1 d2 (like_puts d0 d0 d1 refl p1) o2) p3) p4) p5) p6) c7) p8) p9) (marks_of p9 ∙ marks8);
    kept = kept_then (laid_in d0) (laid_in d1) code p1.kept keep1;
    rows = grown;
    room = (let a = ops9 in let b = p3.room in let c = p6.room in let e = ops2 in let f = ops5 in let g = at_entry in let h = at_test in omega arith);
    code = record {
      row = row;
      test = test;
      entry = entry;
      end = entry + 1;
      few = few;
      begin = count_at;
      rounds = record { turn = turn_at; again = sweep_at; end = refl };
      leave = leave_at;
      undoes = record { turn = undo_at; again = again_at; end = refl };
      unwind = unwind_at;
      handler = handler_at;
    };
  }
