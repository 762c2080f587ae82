-- The code that builds all elements of an array, as it is added to a draft.
use Rattle.std.proofs.Common.{◌≡◌, ℕ, ◌+◌, ◌^◌, ◌<◌, List, ◌∷◌, length, drop, Some, refl, ap, sym, subst, ◌∙◌, arith}
use Rattle.uc_code.specs.declared.op.Op.TheVariants as op
use Rattle.uc_code.specs.declared.rows.CodeMark.{CodeMark}
use Rattle.uc_code.specs.declared.rows.CodeMark.TheVariants as mark
use Rattle.uc_code.specs.declared.rows.ObjectCall.{ObjectCall}
use Rattle.uc_code.specs.declared.rows.Opening.TheVariants as opening
use Rattle.uc_code.specs.Drafts.{Draft}
use Rattle.uc_code.specs.Layout.{Laid, laid_in}
use Rattle.uc_code.specs.CodeShapes.{OpAt, One, Risk, HandlerAt, clean_up, Kept, Stable}
use Rattle.uc_code.specs.Lowered.{CallAt, CallBuilt, CallDone}
use Rattle.uc_code.specs.OpenRows.{handler_in, row_in, opened, closed}
use Rattle.uc_code.specs.Emits.{Puts, done_length}
use Rattle.uc_code.specs.RowGrowth.{AddsRows}
use Rattle.uc_code.proofs.Growth.{rows_then, rows_last, rows_opened, rows_closed}
use Rattle.uc_code.proofs.Stable.{kept_then, kept_piece, one_stable}
use Rattle.uc_code.proofs.Putting.{call_stable, done_is, done_stable, marks_of, puts_both, puts_more}
use Rattle.uc_code.proofs.Sweeping.{like_puts, like_opened, like_closed, like_rest, closed_ops, closed_marks}
use Rattle.uc_lower_expr.proofs.Settled.{both}
use Rattle.uc_lower_stmt.specs.Objects.{FillCode}

pub built_stable : (line : ℕ) (what : ObjectCall) (ms : List CodeMark) → Stable (λ code. CallBuilt code line what ms)
built_stable line what ms = both (call_stable line what ms) (both (one_stable op.Discard line) (one_stable op.More line))

built_is : (code : Laid) (line : ℕ) (what : ObjectCall) (ms : List CodeMark) (a z : ℕ) → CallBuilt code line what ms a z → z ≡ a + done_length what + 1
built_is code line what ms a z h =
    let d : CallDone code line what ms a h.second.middle = record { middle = h.middle; first = h.first; second = h.second.first } in
    let e = done_is code line what ms a h.second.middle d in
    let f = h.second.second.end in
    omega arith

pub puts_built : (line : ℕ) (what : ObjectCall) (d0 d1 d2 d3 : Draft) → Puts 0 8 (λ code. CallAt code line what d0.marks) d0 d1 → Puts 0 1 (λ code. One code op.Discard line) d1 d2 → Puts 0 1 (λ code. One code op.More line) d2 d3 → Puts 0 10 (λ code. CallBuilt code line what d0.marks) d0 d3
puts_built line what d0 d1 d2 d3 p q r = puts_more (omega arith) (puts_both (call_stable line what d0.marks) p (puts_both (one_stable op.Discard line) q r))

module _ (line n start test entry : ℕ) (few : n < 2 ^ 32) (builder destroyer : ObjectCall) (d0 d1 d2 d3 d4 d5 d6 d7 d8 d9 : Draft)
    (p1 : Puts 0 1 (λ code. One code (op.Count 0 test) line) d0 d1) (o2 : d2 ≡ opened opening.Elements d1) (k2 : Kept (laid_in d1) (laid_in d2))
    (p3 : Puts 0 10 (λ code. CallBuilt code line builder d2.marks) d2 d3) (p4 : Puts 0 1 (λ code. One code (op.Fill n (start + 1)) line) d3 d4) (p5 : Puts 0 1 (λ code. One code (op.Jump (entry + 2)) line) d4 d5)
    (p6 : Puts 0 9 (λ code. CallDone code line destroyer d5.marks) d5 d6) (c7 : d7 ≡ closed 0 d6) (k7 : Kept (laid_in d6) (laid_in d7)) (h7 : (row : ℕ) → handler_in d6.marks ≡ Some row → HandlerAt (laid_in d7) row (clean_up (length d6.ops + 0)))
    (p8 : Puts 0 1 (λ code. One code (op.Sweep (test + 2)) line) d7 d8) (p9 : Puts 0 1 (λ code. Risk code d8.marks op.Unwind line) d8 d9)
    (st : start ≡ length d0.ops) (te : test ≡ start + 2 + done_length builder) (en : entry ≡ test + 2 + done_length destroyer) where
  abbrev ms : List CodeMark
  ms = d0.marks

  abbrev row : ℕ
  row = length d1.rows

  abbrev ns : List CodeMark
  ns = mark.Elements row ∷ ms

  marks2 : d2.marks ≡ ns
  marks2 = ap (λ (d : Draft). d.marks) o2 ∙ ap (λ (l : List CodeMark). mark.Elements row ∷ l) (marks_of p1)

  marks5 : d5.marks ≡ ns
  marks5 = marks_of p5 ∙ (marks_of p4 ∙ (marks_of p3 ∙ marks2))

  marks6 : d6.marks ≡ ns
  marks6 = marks_of p6 ∙ marks5

  marks7 : d7.marks ≡ ms
  marks7 = closed_marks 0 row d6 d7 c7 (ap row_in marks6) ∙ ap (λ (l : List CodeMark). drop 1 l) marks6

  marks8 : d8.marks ≡ ms
  marks8 = marks_of p8 ∙ marks7

  -- places

  ops2 : length d2.ops ≡ length d0.ops + 1
  ops2 = ap (λ (d : Draft). length d.ops) o2 ∙ p1.code.end

  ops3 : length d3.ops ≡ length d2.ops + done_length builder + 1
  ops3 = built_is (laid_in d3) line builder d2.marks (length d2.ops) (length d3.ops) p3.code

  at_test : length d3.ops ≡ test
  at_test = let a = ops2 in let b = ops3 in omega arith

  ops5 : length d5.ops ≡ test + 2
  ops5 = let a = p4.code.end in let b = p5.code.end in let c = at_test in omega arith

  ops6 : length d6.ops ≡ length d5.ops + done_length destroyer
  ops6 = done_is (laid_in d6) line destroyer d5.marks (length d5.ops) (length d6.ops) p6.code

  at_entry : length d6.ops ≡ entry
  at_entry = let a = ops5 in let b = ops6 in omega arith

  ops7 : length d7.ops ≡ entry
  ops7 = ap length (closed_ops 0 d6 d7 c7) ∙ at_entry

  ops8 : length d8.ops ≡ entry + 1
  ops8 = let a = p8.code.end in let b = ops7 in omega arith

  ops9 : length d9.ops ≡ entry + 2
  ops9 = let a = p9.code.end in let b = ops8 in omega arith

  -- what stays

  keep8 : Kept (laid_in d8) (laid_in d9)
  keep8 = p9.kept

  keep7 : Kept (laid_in d7) (laid_in d9)
  keep7 = kept_then (laid_in d7) (laid_in d8) (laid_in d9) p8.kept keep8

  keep6 : Kept (laid_in d6) (laid_in d9)
  keep6 = kept_then (laid_in d6) (laid_in d7) (laid_in d9) k7 keep7

  keep5 : Kept (laid_in d5) (laid_in d9)
  keep5 = kept_then (laid_in d5) (laid_in d6) (laid_in d9) p6.kept keep6

  keep4 : Kept (laid_in d4) (laid_in d9)
  keep4 = kept_then (laid_in d4) (laid_in d5) (laid_in d9) p5.kept keep5

  keep3 : Kept (laid_in d3) (laid_in d9)
  keep3 = kept_then (laid_in d3) (laid_in d4) (laid_in d9) p4.kept keep4

  keep1 : Kept (laid_in d1) (laid_in d9)
  keep1 = kept_then (laid_in d1) (laid_in d2) (laid_in d9) k2 (kept_then (laid_in d2) (laid_in d3) (laid_in d9) p3.kept keep3)

  abbrev code : Laid
  code = laid_in d9

  count_at : OpAt code (length d0.ops) (op.Count 0 test) line
  count_at = keep1.same (length d0.ops) (op.Count 0 test) line p1.code.here

  turn_at : CallBuilt code line builder ns (length d0.ops + 1) test
  turn_at =
      let h : CallBuilt code line builder d2.marks (length d2.ops) (length d3.ops) = kept_piece (λ c. CallBuilt c line builder d2.marks) (built_stable line builder d2.marks) (laid_in d3) code (length d2.ops) (length d3.ops) (omega arith) keep3 p3.code in
      subst (λ z. CallBuilt code line builder ns (length d0.ops + 1) z) at_test (subst (λ a. CallBuilt code line builder ns a (length d3.ops)) ops2 (subst (λ l. CallBuilt code line builder l (length d2.ops) (length d3.ops)) marks2 h))

  fill_at : OpAt code test (op.Fill n (length d0.ops + 1)) line
  fill_at = subst (λ k. OpAt code k (op.Fill n (length d0.ops + 1)) line) at_test (subst (λ s. OpAt code (length d3.ops) (op.Fill n (s + 1)) line) st (keep4.same (length d3.ops) (op.Fill n (start + 1)) line p4.code.here))

  leave_at : OpAt code (test + 1) (op.Jump (length d9.ops)) line
  leave_at =
      let e : length d4.ops ≡ test + 1 = (let a = p4.code.end in let b = at_test in omega arith) in
      subst (λ z. OpAt code (test + 1) (op.Jump z) line) (sym ops9) (subst (λ k. OpAt code k (op.Jump (entry + 2)) line) e (keep5.same (length d4.ops) (op.Jump (entry + 2)) line p5.code.here))

  undo_at : CallDone code line destroyer ns (test + 2) entry
  undo_at =
      let h : CallDone code line destroyer d5.marks (length d5.ops) (length d6.ops) = kept_piece (λ c. CallDone c line destroyer d5.marks) (done_stable line destroyer d5.marks) (laid_in d6) code (length d5.ops) (length d6.ops) (omega arith) keep6 p6.code in
      subst (λ z. CallDone code line destroyer ns (test + 2) z) at_entry (subst (λ a. CallDone code line destroyer ns a (length d6.ops)) ops5 (subst (λ l. CallDone code line destroyer l (length d5.ops) (length d6.ops)) marks5 h))

  again_at : OpAt code entry (op.Sweep (test + 2)) line
  again_at = subst (λ k. OpAt code k (op.Sweep (test + 2)) line) ops7 (keep8.same (length d7.ops) (op.Sweep (test + 2)) line p8.code.here)

  unwind_at : Risk code ms op.Unwind line (entry + 1) (length d9.ops)
  unwind_at = subst (λ a. Risk code ms op.Unwind line a (length d9.ops)) ops8 (subst (λ l. Risk code l op.Unwind line (length d8.ops) (length d9.ops)) marks8 p9.code)

  handler_at : HandlerAt code row (clean_up entry)
  handler_at =
      let e : length d6.ops + 0 ≡ entry = (let a = at_entry in omega arith) in
      keep7.handlers row (clean_up entry) (subst (λ k. HandlerAt (laid_in d7) row (clean_up k)) e (h7 row (ap handler_in marks6)))

  -- one row comes to them
  grown : AddsRows 1 (length d9.ops) d0 d9
  grown =
      let g1 : AddsRows 1 (length d2.ops) d0 d2 = rows_then (omega arith) p1.rows (rows_opened opening.Elements d1 d2 o2) in
      let g3 : AddsRows 1 (length d3.ops) d0 d3 = rows_last p3.kept.longer g1 p3.rows in
      let g4 : AddsRows 1 (length d4.ops) d0 d4 = rows_last p4.kept.longer g3 p4.rows in
      let g5 : AddsRows 1 (length d5.ops) d0 d5 = rows_last p5.kept.longer g4 p5.rows in
      let g6 : AddsRows 1 (length d6.ops) d0 d6 = rows_last p6.kept.longer g5 p6.rows in
      let g7 : AddsRows 1 (length d6.ops + 0) d0 d7 = rows_last (omega arith) g6 (rows_closed 0 d6 d7 c7) in
      let g8 : AddsRows 1 (length d8.ops) d0 d8 = rows_last (let a = at_entry in let b = ops8 in omega arith) g7 p8.rows in
      rows_last p9.kept.longer g8 p9.rows

  pub filled : Puts 1 24 (FillCode line ms builder destroyer n) d0 d9
  filled = record {
    rest = like_rest d0 d9 (like_puts d0 d8 d9 (like_puts d0 d7 d8 (like_closed 0 d0 d6 d7 (like_puts d0 d5 d6 (like_puts d0 d4 d5 (like_puts d0 d3 d4 (like_puts d0 d2 d3 (like_opened opening.Elements d0 d1 d2 (like_puts d0 d0 d1 refl p1) o2) p3) p4) p5) p6) c7) p8) p9) (marks_of p9 ∙ marks8);
    kept = kept_then (laid_in d0) (laid_in d1) code p1.kept keep1;
    rows = grown;
    room = (let a = ops9 in let b = p3.room in let c = p6.room in let e = ops2 in let f = ops5 in let g = at_entry in let h = at_test in omega arith);
    code = record {
      row = row;
      test = test;
      entry = entry;
      end = entry + 1;
      few = few;
      begin = count_at;
      rounds = record { turn = turn_at; again = fill_at; end = refl };
      leave = leave_at;
      undoes = record { turn = undo_at; again = again_at; end = refl };
      unwind = unwind_at;
      handler = handler_at;
    };
  }
