-- The end of the scope of an object, and of what follows a part of one.
use Rattle.std.proofs.Common.{◌≡◌, ℕ, suc, ◌+◌, ◌*◌, ◌≤◌, List, [], ◌∷◌, length, drop, Option, Some, None, Bool, true, false, true≢false, refl, ap, sym, subst, ◌∙◌, arith}
use Rattle.uc_code.specs.declared.op.Op.{Op}
use Rattle.uc_code.specs.declared.op.Op.TheVariants as op
use Rattle.uc_code.specs.declared.rows.Array.{Array}
use Rattle.uc_tree.specs.Source.{ToReturn}
use Rattle.uc_code.specs.declared.rows.Manner.{Manner}
use Rattle.uc_code.specs.declared.rows.Manner.TheVariants as manner
use Rattle.uc_code.specs.declared.rows.Resource.TheVariants as resource
use Rattle.uc_code.specs.declared.rows.CodeMark.{CodeMark}
use Rattle.uc_code.specs.declared.rows.CodeMark.TheVariants as mark
use Rattle.uc_code.specs.declared.rows.ObjectCall.{ObjectCall}
use Rattle.uc_code.specs.declared.rows.Cleaning.{Cleaning}
use Rattle.uc_code.specs.declared.rows.Cleaning.TheVariants as cleaning
use Rattle.uc_code.specs.Drafts.{Draft}
use Rattle.uc_code.specs.Layout.{Laid, laid_in}
use Rattle.uc_code.specs.CodeShapes.{OpAt, One, Risk, Both, HandlerAt, LeavesAt, clean_up, ScopeOf, BehindPart, Kept}
use Rattle.uc_code.specs.Lowered.{ArrivesAt, CleanAt, ExitAt, PadAt}
use Rattle.uc_code.specs.OpenRows.{CleansBehind, exit_room, handler_in, row_in, closed}
use Rattle.uc_code.specs.RowCounts.{cleaning_rows, return_rows}
use Rattle.uc_code.specs.Emits.{Puts, place_length, called_length, manner_length, clean_by, clean_length}
use Rattle.uc_code.proofs.Stable.{kept_then, kept_piece, leaves_stable, one_stable, risk_stable}
use Rattle.uc_code.proofs.Growth.{rows_as, rows_closed}
use Rattle.uc_code.proofs.Putting.{clean_is, clean_stable, marks_of, puts_as, puts_both, puts_more, puts_risk_behind, puts_rows}
use Rattle.uc_code.proofs.Sweeping.{like_puts, like_closed, closed_ops, closed_marks}
use Rattle.uc_lower_stmt.specs.Marked.{close_room}
use Rattle.uc_lower_stmt.specs.Objects.{InScope, InPart, ScopeEnds, PartEnds, ClosesScope, ClosesPart, call_room, free_op, frees, leaves, most_clean}
use Rattle.uc_lower_stmt.proofs.Joined.{puts_counted}
use Rattle.uc_lower_stmt.specs.RowFit.{open_rows}
use Rattle.uc_lower_stmt.proofs.RowFitting.{clean_long}

-- what stands in a scope, and its end

pub scope_ended : (code : Laid) (line : ℕ) (ms : List CodeMark) (what : Cleaning) (row : ℕ) (B : List CodeMark → ℕ → ℕ → Type 0) (a y z : ℕ) → B (mark.Clean what line row ∷ ms) a y → ScopeEnds code line ms what row y z
    → ScopeOf code line ms (λ r. mark.Clean what line r) (CleanAt code line what ms) (PadAt code line what ms) B a z
scope_ended code line ms what row B a y z b h = record { row = row; body_end = y; clean_end = h.clean_end; body = b; clean = h.clean; leave = h.leave; unwinds = h.unwinds; handler = h.handler }

pub part_ended : (code : Laid) (line : ℕ) (ms : List CodeMark) (what : Cleaning) (row : ℕ) (B : List CodeMark → ℕ → ℕ → Type 0) (a y z : ℕ) → B (mark.Part row ∷ ms) a y → PartEnds code line ms what row y z
    → BehindPart code line ms (λ r. mark.Part r) (CleanAt code line what ms) B a z
part_ended code line ms what row B a y z b h = record { row = row; body_end = y; body = b; leave = h.leave; unwinds = h.unwinds; handler = h.handler }

-- a clean-up is short

place_few : (o : Option Array) → place_length o ≤ 3
place_few None = omega arith
place_few (Some a) = omega arith

called_few : (b : Bool) → called_length b ≤ 2
called_few true = omega arith
called_few false = omega arith

manner_few : (m : Manner) (b : Bool) → manner_length m b ≤ 4
manner_few manner.Plain b = let a = called_few b in omega arith
manner_few (manner.Makes c) b = let a = called_few b in omega arith
manner_few manner.Ends b = let a = called_few b in omega arith
manner_few (manner.Opens resource.Cluster) b = omega arith
manner_few (manner.Opens resource.Processor) b = omega arith
manner_few (manner.Closes of) b = omega arith

clean_by_few : (o : Option Array) (what : ObjectCall) → clean_by o what ≤ 23
clean_by_few None what = let a = place_few what.array in let b = manner_few what.manner what.written in omega arith
clean_by_few (Some x) what = let a = place_few what.array in let b = manner_few what.manner what.written in omega arith

-- the end of a scope takes no more than is reckoned for it; that of a mutex call ends with its routine
pub close_few : (what : Cleaning) → leaves what ≡ false → 2 * clean_length what + 2 ≤ close_room what
close_few (cleaning.Call what) e = let a = clean_by_few what.array what in omega arith
close_few cleaning.TakeDown e = omega arith
close_few cleaning.Forget e = omega arith
close_few cleaning.Leave e = absurd (true≢false e)
close_few cleaning.End e = omega arith
close_few (cleaning.Free main) e = omega arith
close_few (cleaning.Restore cell) e = omega arith

-- its second part needs room as well
pub close_needs : (what : Cleaning) → leaves what ≡ false → clean_length what + most_clean what + 2 ≤ close_room what
close_needs (cleaning.Call what) e = let a = clean_by_few what.array what in omega arith
close_needs cleaning.TakeDown e = omega arith
close_needs cleaning.Forget e = omega arith
close_needs cleaning.Leave e = absurd (true≢false e)
close_needs cleaning.End e = omega arith
close_needs (cleaning.Free main) e = omega arith
close_needs (cleaning.Restore cell) e = omega arith

-- a clean-up takes an op at least, and no more than any takes
pub most_some : (what : Cleaning) → 1 ≤ most_clean what
most_some (cleaning.Call what) = omega arith
most_some cleaning.TakeDown = omega arith
most_some cleaning.Forget = omega arith
most_some cleaning.Leave = omega arith
most_some cleaning.End = omega arith
most_some (cleaning.Free main) = omega arith
most_some (cleaning.Restore cell) = omega arith

most_few : (what : Cleaning) → most_clean what ≤ 23
most_few (cleaning.Call what) = omega arith
most_few cleaning.TakeDown = omega arith
most_few cleaning.Forget = omega arith
most_few cleaning.Leave = omega arith
most_few cleaning.End = omega arith
most_few (cleaning.Free main) = omega arith
most_few (cleaning.Restore cell) = omega arith

-- what is laid out for this clean-up
pub cleaned_as : (line : ℕ) (what this : Cleaning) (old new : Draft) → what ≡ this → Puts (cleaning_rows this) (most_clean this) (λ code. CleanAt code line this old.marks) old new → Puts (cleaning_rows what) (most_clean what) (λ code. CleanAt code line what old.marks) old new
cleaned_as line what this old new e h = subst (λ (c : Cleaning). Puts (cleaning_rows c) (most_clean c) (λ code. CleanAt code line c old.marks) old new) (sym e) h

pub cleaned_most : (line : ℕ) (what this : Cleaning) (old new : Draft) → what ≡ this → most_clean this ≡ 23 → Puts (cleaning_rows what) 23 (λ code. CleanAt code line what old.marks) old new → Puts (cleaning_rows what) (most_clean what) (λ code. CleanAt code line what old.marks) old new
cleaned_most line what this old new e m h = let k = ap most_clean e in puts_more (omega (arith, k, m)) h

pub freed_as : (line : ℕ) (main : Option ℕ) (o : Op) (old new : Draft) → o ≡ free_op main → Puts 0 1 (λ code. One code o line) old new → Puts 0 1 (λ code. CleanAt code line (cleaning.Free main) old.marks) old new
freed_as line None o old new e h = subst (λ (x : Op). Puts 0 1 (λ code. One code x line) old new) e h
freed_as line (Some r) o old new e h = subst (λ (x : Op). Puts 0 1 (λ code. One code x line) old new) e h

-- under marks from which the innermost one is gone, a routine still stands further on

pub behind_scope : (what : Cleaning) (line : ℕ) (ms ns : List CodeMark) → InScope what line ms → ns ≡ drop 1 ms → CleansBehind ns what
behind_scope what line ms ns h e =
    let f : ns ≡ h.outer = e ∙ ap (λ (l : List CodeMark). drop 1 l) h.is in
    subst (λ (l : List CodeMark). CleansBehind l what) (sym f) h.behind

cleans_past : (what : Cleaning) (row : ℕ) (ms : List CodeMark) → CleansBehind (mark.Part row ∷ ms) what → CleansBehind ms what
cleans_past (cleaning.Call what) row ms b = record { behind = b.behind }
cleans_past cleaning.TakeDown row ms b = tt
cleans_past cleaning.Forget row ms b = tt
cleans_past cleaning.Leave row ms b = tt
cleans_past cleaning.End row ms b = tt
cleans_past (cleaning.Free main) row ms b = tt
cleans_past (cleaning.Restore cell) row ms b = tt

pub cleans_under : (what : Cleaning) (row : ℕ) (ms : List CodeMark) → CleansBehind ms what → CleansBehind (mark.Part row ∷ ms) what
cleans_under (cleaning.Call what) row ms b = record { behind = b.behind }
cleans_under cleaning.TakeDown row ms b = tt
cleans_under cleaning.Forget row ms b = tt
cleans_under cleaning.Leave row ms b = tt
cleans_under cleaning.End row ms b = tt
cleans_under (cleaning.Free main) row ms b = tt
cleans_under (cleaning.Restore cell) row ms b = tt

pub behind_part : (what : Cleaning) (ms ns : List CodeMark) → InPart ms → CleansBehind ms what → ns ≡ drop 1 ms → CleansBehind ns what
behind_part what ms ns h b e =
    let a : CleansBehind (mark.Part h.row ∷ h.outer) what = subst (λ (l : List CodeMark). CleansBehind l what) h.is b in
    let f : ns ≡ h.outer = e ∙ ap (λ (l : List CodeMark). drop 1 l) h.is in
    subst (λ (l : List CodeMark). CleansBehind l what) (sym f) (cleans_past what h.row h.outer a)

pub marks_past_scope : (what : Cleaning) (line ahead : ℕ) (d0 d1 : Draft) → InScope what line d0.marks → d1 ≡ closed ahead d0 → d1.marks ≡ drop 1 d0.marks
marks_past_scope what line ahead d0 d1 h e = closed_marks ahead h.row d0 d1 e (ap row_in h.is)

pub marks_past_part : (ahead : ℕ) (d0 d1 : Draft) → InPart d0.marks → d1 ≡ closed ahead d0 → d1.marks ≡ drop 1 d0.marks
marks_past_part ahead d0 d1 h e = closed_marks ahead h.row d0 d1 e (ap row_in h.is)

-- the pad of a scope

unwound : (code : Laid) (line : ℕ) (what : Cleaning) (ms : List CodeMark) (a z : ℕ) → frees what ≡ false → leaves what ≡ false → Both (CleanAt code line what ms) (Risk code ms op.Unwind line) a z → PadAt code line what ms a z
unwound code line (cleaning.Call what) ms a z f l h = h
unwound code line cleaning.TakeDown ms a z f l h = h
unwound code line cleaning.Forget ms a z f l h = h
unwound code line cleaning.Leave ms a z f l h = absurd (true≢false l)
unwound code line cleaning.End ms a z f l h = h
unwound code line (cleaning.Free main) ms a z f l h = absurd (true≢false f)
unwound code line (cleaning.Restore cell) ms a z f l h = h

given_up : (code : Laid) (line : ℕ) (what : Cleaning) (ms : List CodeMark) (a z : ℕ) → frees what ≡ true → Both (One code op.GiveUp line) (Risk code ms op.Unwind line) a z → PadAt code line what ms a z
given_up code line (cleaning.Call what) ms a z f h = absurd (true≢false (sym f))
given_up code line cleaning.TakeDown ms a z f h = absurd (true≢false (sym f))
given_up code line cleaning.Forget ms a z f h = absurd (true≢false (sym f))
given_up code line cleaning.Leave ms a z f h = absurd (true≢false (sym f))
given_up code line cleaning.End ms a z f h = absurd (true≢false (sym f))
given_up code line (cleaning.Free main) ms a z f h = h
given_up code line (cleaning.Restore cell) ms a z f h = absurd (true≢false (sym f))

-- the building of a mutex object has no array
frees_none : (what : Cleaning) → frees what ≡ true → 0 ≡ cleaning_rows what
frees_none (cleaning.Call what) f = absurd (true≢false (sym f))
frees_none cleaning.TakeDown f = refl
frees_none cleaning.Forget f = refl
frees_none cleaning.Leave f = refl
frees_none cleaning.End f = refl
frees_none (cleaning.Free main) f = refl
frees_none (cleaning.Restore cell) f = refl

pub pad_given_up : (line : ℕ) (what : Cleaning) (d0 d1 d2 : Draft) → frees what ≡ true → Puts 0 1 (λ code. One code op.GiveUp line) d0 d1 → Puts 0 1 (λ code. Risk code d1.marks op.Unwind line) d1 d2 → Puts (cleaning_rows what) (most_clean what + 1) (λ code. PadAt code line what d0.marks) d0 d2
pad_given_up line what d0 d1 d2 f p q =
    let few = most_some what in
    puts_counted (frees_none what f) (puts_more (omega (arith, few)) (puts_as (puts_both (one_stable op.GiveUp line) p (puts_risk_behind op.Unwind line d0 d1 d2 p q)) (λ code a z h. given_up code line what d0.marks a z f h)))

pub pad_unwound : (line : ℕ) (what : Cleaning) (d0 d1 d2 : Draft) → frees what ≡ false → leaves what ≡ false → Puts (cleaning_rows what) (most_clean what) (λ code. CleanAt code line what d0.marks) d0 d1 → Puts 0 1 (λ code. Risk code d1.marks op.Unwind line) d1 d2 → Puts (cleaning_rows what) (most_clean what + 1) (λ code. PadAt code line what d0.marks) d0 d2
pad_unwound line what d0 d1 d2 f l p q =
    puts_counted (omega arith) (puts_as (puts_rows (clean_stable line what d0.marks) p (puts_risk_behind op.Unwind line d0 d1 d2 p q)) (λ code a z h. unwound code line what d0.marks a z f l h))

-- how long it is
pad_is : (code : Laid) (line : ℕ) (what : Cleaning) (ms : List CodeMark) (a z : ℕ) → leaves what ≡ false → PadAt code line what ms a z → z ≡ a + clean_length what + 1
pad_is code line (cleaning.Call what) ms a z l h = let e = clean_is code line (cleaning.Call what) ms a h.middle h.first in let f = h.second.end in omega arith
pad_is code line cleaning.TakeDown ms a z l h = let e = h.first.end in let f = h.second.end in omega arith
pad_is code line cleaning.Forget ms a z l h = let e = h.first.end in let f = h.second.end in omega arith
pad_is code line cleaning.Leave ms a z l h = absurd (true≢false l)
pad_is code line cleaning.End ms a z l h = let e = h.first.end in let f = h.second.end in omega arith
pad_is code line (cleaning.Free main) ms a z l h = let e = h.first.end in let f = h.second.end in omega arith
pad_is code line (cleaning.Restore cell) ms a z l h = let e = h.first.end in let f = h.second.end in omega arith

-- the end of a scope: a pad that is as long as is reckoned beforehand

module _ (r n line end ahead : ℕ) (what : Cleaning) (d0 d1 d2 d3 d4 : Draft) (in_scope : InScope what line d0.marks)
    (c1 : d1 ≡ closed ahead d0) (k1 : Kept (laid_in d0) (laid_in d1)) (h1 : (row : ℕ) → handler_in d0.marks ≡ Some row → HandlerAt (laid_in d1) row (clean_up (length d0.ops + ahead)))
    (p2 : Puts (cleaning_rows what) 23 (λ code. CleanAt code line what d1.marks) d1 d2) (p3 : Puts 0 1 (λ code. One code (op.Jump end) line) d2 d3) (p4 : Puts r n (λ code. PadAt code line what d3.marks) d3 d4)
    (ae : ahead ≡ clean_length what + 1) (ee : end ≡ length d4.ops) where
  abbrev code : Laid
  code = laid_in d4

  ops1 : length d1.ops ≡ length d0.ops
  ops1 = ap length (closed_ops ahead d0 d1 c1)

  ops2 : length d2.ops ≡ length d0.ops + clean_length what
  ops2 = let a = clean_is (laid_in d2) line what d1.marks (length d1.ops) (length d2.ops) p2.code in let b = ops1 in omega arith

  ops3 : length d3.ops ≡ length d2.ops + 1
  ops3 = p3.code.end

  keep3 : Kept (laid_in d3) code
  keep3 = p4.kept

  keep2 : Kept (laid_in d2) code
  keep2 = kept_then (laid_in d2) (laid_in d3) code p3.kept keep3

  keep1 : Kept (laid_in d1) code
  keep1 = kept_then (laid_in d1) (laid_in d2) code p2.kept keep2

  marks1 : d1.marks ≡ drop 1 d0.marks
  marks1 = marks_past_scope what line ahead d0 d1 in_scope c1

  marks3 : d3.marks ≡ drop 1 d0.marks
  marks3 = marks_of p3 ∙ (marks_of p2 ∙ marks1)

  clean_at : CleanAt code line what (drop 1 d0.marks) (length d0.ops) (length d2.ops)
  clean_at =
      subst (λ l. CleanAt code line what l (length d0.ops) (length d2.ops)) marks1 (
      subst (λ a. CleanAt code line what d1.marks a (length d2.ops)) ops1 (
      kept_piece (λ c. CleanAt c line what d1.marks) (clean_stable line what d1.marks) (laid_in d2) code (length d1.ops) (length d2.ops) (omega arith) keep2 p2.code))

  leave_at : OpAt code (length d2.ops) (op.Jump (length d4.ops)) line
  leave_at = subst (λ z. OpAt code (length d2.ops) (op.Jump z) line) ee (keep3.same (length d2.ops) (op.Jump end) line p3.code.here)

  pad_at : PadAt code line what (drop 1 d0.marks) (length d2.ops + 1) (length d4.ops)
  pad_at =
      subst (λ l. PadAt code line what l (length d2.ops + 1) (length d4.ops)) marks3 (
      subst (λ a. PadAt code line what d3.marks a (length d4.ops)) ops3 p4.code)

  handler_at : (row : ℕ) → handler_in d0.marks ≡ Some row → HandlerAt code row (clean_up (length d2.ops + 1))
  handler_at row h =
      let e : length d0.ops + ahead ≡ length d2.ops + 1 = (let a = ops2 in let b = ae in omega arith) in
      keep1.handlers row (clean_up (length d2.ops + 1)) (subst (λ k. HandlerAt (laid_in d1) row (clean_up k)) e (h1 row h))

  scope_with : (m : ℕ) → r ≡ cleaning_rows what → length d4.ops ≤ length d0.ops + m → cleaning_rows what + r + 1 + length d0.ops ≤ length d4.ops → ClosesScope m what line d0 d4
  scope_with m re l pays = record {
    rest = like_puts d0 d3 d4 (like_puts d0 d2 d3 (like_puts d0 d1 d2 (like_closed ahead d0 d0 d1 refl c1) p2) p3) p4;
    kept = kept_then (laid_in d0) (laid_in d1) code k1 keep1;
    rows = record {
      more =
          let x1 = (rows_closed ahead d0 d1 c1).more in
          let x2 = p2.rows.more in
          let x3 = p3.rows.more in
          let x4 = p4.rows.more in
          omega (arith, re);
      few =
          let x1 = (rows_closed ahead d0 d1 c1).more in
          let x2 = p2.rows.more in
          let x3 = p3.rows.more in
          let x4 = p4.rows.more in
          let o0 : open_rows d0.marks ≡ suc (open_rows in_scope.outer) = ap open_rows in_scope.is in
          let o4 : open_rows d4.marks ≡ open_rows in_scope.outer = ap open_rows (marks_of p4 ∙ (marks3 ∙ ap (λ (ms : List CodeMark). drop 1 ms) in_scope.is)) in
          omega arith;
      begin = λ k i w.
          let y = p2.kept.longer in
          let z = p3.kept.longer in
          let u = p4.kept.longer in
          p4.rows.begin k i (p3.rows.begin k (omega arith) (p2.rows.begin k (omega arith) ((rows_closed ahead d0 d1 c1).begin k (omega (arith, ops2, ops3, ae, u)) w)));
    };
    room = l;
    scope = λ row ms e.
        let t : drop 1 d0.marks ≡ ms = ap (λ (l : List CodeMark). drop 1 l) e in
        record {
          clean_end = length d2.ops;
          clean = subst (λ l. CleanAt code line what l (length d0.ops) (length d2.ops)) t clean_at;
          leave = leave_at;
          unwinds = subst (λ l. PadAt code line what l (length d2.ops + 1) (length d4.ops)) t pad_at;
          handler = handler_at row (ap handler_in e);
        };
    marks = λ row ms e. marks_of p4 ∙ (marks3 ∙ ap (λ (l : List CodeMark). drop 1 l) e);
  }

pub scope_closed : (line end ahead : ℕ) (what : Cleaning) (d0 d1 d2 d3 d4 : Draft) → InScope what line d0.marks → leaves what ≡ false
    → d1 ≡ closed ahead d0 → Kept (laid_in d0) (laid_in d1) → ((row : ℕ) → handler_in d0.marks ≡ Some row → HandlerAt (laid_in d1) row (clean_up (length d0.ops + ahead)))
    → Puts (cleaning_rows what) (most_clean what) (λ code. CleanAt code line what d1.marks) d1 d2 → Puts 0 1 (λ code. One code (op.Jump end) line) d2 d3 → Puts (cleaning_rows what) (most_clean what + 1) (λ code. PadAt code line what d3.marks) d3 d4
    → ahead ≡ clean_length what + 1 → end ≡ length d0.ops + 2 * clean_length what + 2 → ClosesScope (close_room what) what line d0 d4
scope_closed line end ahead what d0 d1 d2 d3 d4 s l c1 k1 h1 p2 p3 p4 ae ee =
    let o1 : length d1.ops ≡ length d0.ops = ap length (closed_ops ahead d0 d1 c1) in
    let a = clean_is (laid_in d2) line what d1.marks (length d1.ops) (length d2.ops) p2.code in
    let b = p3.code.end in
    let c = pad_is (laid_in d4) line what d3.marks (length d3.ops) (length d4.ops) l p4.code in
    let f = close_few what l in
    scope_with (cleaning_rows what) (most_clean what + 1) line end ahead what d0 d1 d2 d3 d4 s c1 k1 h1 (puts_more (most_few what) p2) p3 p4 ae (omega (arith, ee)) (close_room what) refl (omega (arith, ee)) (let g = clean_long what in omega (arith, ee, g))

-- a mutex call: its pad, and its end

leave_code : {line : ℕ} {ms : List CodeMark} {old new : Draft} → Puts 0 23 (λ code. CleanAt code line cleaning.Leave ms) old new → length new.ops ≡ length old.ops + 5
leave_code {line} {ms} {old} {new} p = clean_is (laid_in new) line cleaning.Leave ms (length old.ops) (length new.ops) p.code

module _ (line arrived routine : ℕ) (d0 d1 d2 d3 d4 d5 : Draft) (body : d0.marks ≡ mark.Body routine ∷ []) (here : arrived ≡ length d0.ops + 7)
    (p1 : Puts 0 1 (λ code. One code (op.Arrive arrived) line) d0 d1) (p2 : Puts 0 23 (λ code. CleanAt code line cleaning.Leave d1.marks) d1 d2) (p3 : Puts 0 1 (λ code. Risk code d2.marks op.Unwind line) d2 d3)
    (p4 : Puts 0 23 (λ code. CleanAt code line cleaning.Leave d3.marks) d3 d4) (p5 : Puts (return_rows d4.marks) (exit_room d4.marks) (λ code. ExitAt code ToReturn d4.marks) d4 d5) where
  arrive_marks : d3.marks ≡ d0.marks
  arrive_marks = marks_of p3 ∙ (marks_of p2 ∙ marks_of p1)

  exit_marks : d4.marks ≡ d0.marks
  exit_marks = marks_of p4 ∙ arrive_marks

  exit_one : length d5.ops ≤ length d4.ops + 1
  exit_one = let e : exit_room d4.marks ≡ 1 = ap exit_room (exit_marks ∙ body) in let r = p5.room in omega (arith, e)

  arrive_ops : (length d1.ops ≡ length d0.ops + 1) × (length d3.ops ≡ arrived)
  arrive_ops = let a = p1.code.end in let b = leave_code p2 in let c = p3.code.end in (omega arith, omega (arith, here))

  arrive_all : Puts 0 60 (λ code. Both (One code (op.Arrive arrived) line) (Both (LeavesAt code d0.marks line) (Both (Risk code d0.marks op.Unwind line) (Both (LeavesAt code d0.marks line) (ExitAt code ToReturn d0.marks))))) d0 d5
  arrive_all =
      let q2 : Puts 0 23 (λ code. LeavesAt code d0.marks line) d1 d2 = subst (λ (ms : List CodeMark). Puts 0 23 (λ code. LeavesAt code ms line) d1 d2) (marks_of p1) p2 in
      let q3 : Puts 0 1 (λ code. Risk code d0.marks op.Unwind line) d2 d3 = subst (λ (ms : List CodeMark). Puts 0 1 (λ code. Risk code ms op.Unwind line) d2 d3) (marks_of p2 ∙ marks_of p1) p3 in
      let q4 : Puts 0 23 (λ code. LeavesAt code d0.marks line) d3 d4 = subst (λ (ms : List CodeMark). Puts 0 23 (λ code. LeavesAt code ms line) d3 d4) arrive_marks p4 in
      let q5 : Puts 0 1 (λ code. ExitAt code ToReturn d0.marks) d4 d5 =
      record { rest = p5.rest; kept = p5.kept; rows = rows_as (ap return_rows (exit_marks ∙ body)) (omega arith) p5.rows; room = exit_one; code = subst (λ (ms : List CodeMark). ExitAt (laid_in d5) ToReturn ms (length d4.ops) (length d5.ops)) exit_marks p5.code } in
      puts_more (omega arith) (puts_both (one_stable (op.Arrive arrived) line) p1 (puts_both (leaves_stable d0.marks line) q2 (puts_both (risk_stable d0.marks op.Unwind line) q3 (puts_both (leaves_stable d0.marks line) q4 q5))))

  arrives_at : (code : Laid) (a z : ℕ) → arrived ≡ a + 7 → Both (One code (op.Arrive arrived) line) (Both (LeavesAt code d0.marks line) (Both (Risk code d0.marks op.Unwind line) (Both (LeavesAt code d0.marks line) (ExitAt code ToReturn d0.marks)))) a z → ArrivesAt code line d0.marks a z
  arrives_at code a z e h =
      let i = h.first.end in
      let j = h.second.first.polls.end in
      let k = h.second.second.first.end in
      let from : h.middle ≡ a + 1 = i in
      let to : h.second.second.middle ≡ arrived = (omega (arith, e)) in
      record {
        arrived = arrived;
        arrives = h.first.here;
        unwinds = record {
          middle = h.second.middle;
          first = subst (λ (x : ℕ). LeavesAt code d0.marks line x h.second.middle) from h.second.first;
          second = subst (λ (x : ℕ). Risk code d0.marks op.Unwind line h.second.middle x) to h.second.second.first;
        };
        returns = record {
          middle = h.second.second.second.middle;
          first = subst (λ (x : ℕ). LeavesAt code d0.marks line x h.second.second.second.middle) to h.second.second.second.first;
          second = h.second.second.second.second;
        };
      }

  pub call_arrives : Puts 0 13 (λ code. ArrivesAt code line d0.marks) d0 d5
  call_arrives =
      let a = arrive_ops in
      let b = leave_code p4 in
      let c = exit_one in
      record { rest = arrive_all.rest; kept = arrive_all.kept; rows = arrive_all.rows; room = (omega (arith, a.1, here)); code = arrives_at (laid_in d5) (length d0.ops) (length d5.ops) here arrive_all.code }

-- the exit is one op
exit_is : (code : Laid) (routine a z : ℕ) (ms : List CodeMark) → ms ≡ mark.Body routine ∷ [] → ExitAt code ToReturn ms a z → z ≡ a + 1
exit_is code routine a z ms e h = (subst (λ (l : List CodeMark). ExitAt code ToReturn l a z) e h).end

arrival_is : (code : Laid) (line routine a z : ℕ) (ms : List CodeMark) → ms ≡ mark.Body routine ∷ [] → ArrivesAt code line ms a z → z ≡ a + 13
arrival_is code line routine a z ms e h =
    let i = h.unwinds.first.polls.end in
    let j = h.unwinds.second.end in
    let k = h.returns.first.polls.end in
    let l = exit_is code routine h.returns.middle z ms e h.returns.second in
    omega arith

pub call_closed : (line end routine : ℕ) (d0 d1 d2 d3 d4 : Draft) → InScope cleaning.Leave line d0.marks → drop 1 d0.marks ≡ mark.Body routine ∷ []
    → d1 ≡ closed 6 d0 → Kept (laid_in d0) (laid_in d1) → ((row : ℕ) → handler_in d0.marks ≡ Some row → HandlerAt (laid_in d1) row (clean_up (length d0.ops + 6)))
    → Puts 0 23 (λ code. CleanAt code line cleaning.Leave d1.marks) d1 d2 → Puts 0 1 (λ code. One code (op.Jump end) line) d2 d3 → Puts 0 13 (λ code. ArrivesAt code line d3.marks) d3 d4
    → end ≡ length d0.ops + 19 → ClosesScope call_room cleaning.Leave line d0 d4
call_closed line end routine d0 d1 d2 d3 d4 s body c1 k1 h1 p2 p3 p4 ee =
    let o1 : length d1.ops ≡ length d0.ops = ap length (closed_ops 6 d0 d1 c1) in
    let a = leave_code p2 in
    let b = p3.code.end in
    let past = marks_past_scope cleaning.Leave line 6 d0 d1 s c1 in
    let m3 : d3.marks ≡ mark.Body routine ∷ [] = marks_of p3 ∙ (marks_of p2 ∙ (past ∙ body)) in
    let c = arrival_is (laid_in d4) line routine (length d3.ops) (length d4.ops) d3.marks m3 p4.code in
    scope_with 0 13 line end 6 cleaning.Leave d0 d1 d2 d3 d4 s c1 k1 h1 p2 p3 p4 refl (omega (arith, ee)) call_room refl (omega arith) (omega arith)

module _ (line end : ℕ) (what : Cleaning) (d0 d1 d2 d3 d4 : Draft) (in_part : InPart d0.marks)
    (c1 : d1 ≡ closed 1 d0) (k1 : Kept (laid_in d0) (laid_in d1)) (h1 : (row : ℕ) → handler_in d0.marks ≡ Some row → HandlerAt (laid_in d1) row (clean_up (length d0.ops + 1)))
    (p2 : Puts 0 1 (λ code. One code (op.Jump end) line) d1 d2) (p3 : Puts (cleaning_rows what) 23 (λ code. CleanAt code line what d2.marks) d2 d3) (p4 : Puts 0 1 (λ code. Risk code d3.marks op.Unwind line) d3 d4)
    (ee : end ≡ length d0.ops + clean_length what + 2) where
  abbrev all : Laid
  all = laid_in d4

  long1 : length d1.ops ≡ length d0.ops
  long1 = ap length (closed_ops 1 d0 d1 c1)

  long2 : length d2.ops ≡ length d0.ops + 1
  long2 = let a = p2.code.end in let b = long1 in omega arith

  long3 : length d3.ops ≡ length d2.ops + clean_length what
  long3 = clean_is (laid_in d3) line what d2.marks (length d2.ops) (length d3.ops) p3.code

  to_end : end ≡ length d4.ops
  to_end = let a = long2 in let b = long3 in let c = p4.code.end in omega arith

  stay3 : Kept (laid_in d3) all
  stay3 = p4.kept

  stay2 : Kept (laid_in d2) all
  stay2 = kept_then (laid_in d2) (laid_in d3) all p3.kept stay3

  stay1 : Kept (laid_in d1) all
  stay1 = kept_then (laid_in d1) (laid_in d2) all p2.kept stay2

  past1 : d1.marks ≡ drop 1 d0.marks
  past1 = marks_past_part 1 d0 d1 in_part c1

  past2 : d2.marks ≡ drop 1 d0.marks
  past2 = marks_of p2 ∙ past1

  past3 : d3.marks ≡ drop 1 d0.marks
  past3 = marks_of p3 ∙ past2

  left_at : OpAt all (length d0.ops) (op.Jump (length d4.ops)) line
  left_at =
      subst (λ k. OpAt all k (op.Jump (length d4.ops)) line) long1 (
      subst (λ z. OpAt all (length d1.ops) (op.Jump z) line) to_end (stay2.same (length d1.ops) (op.Jump end) line p2.code.here))

  cleaned_at : CleanAt all line what (drop 1 d0.marks) (length d0.ops + 1) (length d3.ops)
  cleaned_at =
      subst (λ l. CleanAt all line what l (length d0.ops + 1) (length d3.ops)) past2 (
      subst (λ a. CleanAt all line what d2.marks a (length d3.ops)) long2 (
      kept_piece (λ c. CleanAt c line what d2.marks) (clean_stable line what d2.marks) (laid_in d3) all (length d2.ops) (length d3.ops) (omega arith) stay3 p3.code))

  unwound_at : Risk all (drop 1 d0.marks) op.Unwind line (length d3.ops) (length d4.ops)
  unwound_at = subst (λ l. Risk all l op.Unwind line (length d3.ops) (length d4.ops)) past3 p4.code

  pub part_closed : ClosesPart what line d0 d4
  part_closed = record {
    rest = like_puts d0 d3 d4 (like_puts d0 d2 d3 (like_puts d0 d1 d2 (like_closed 1 d0 d0 d1 refl c1) p2) p3) p4;
    kept = kept_then (laid_in d0) (laid_in d1) all k1 stay1;
    rows = record {
      more =
          let x1 = (rows_closed 1 d0 d1 c1).more in
          let x2 = p2.rows.more in
          let x3 = p3.rows.more in
          let x4 = p4.rows.more in
          omega arith;
      few =
          let x1 = (rows_closed 1 d0 d1 c1).more in
          let x2 = p2.rows.more in
          let x3 = p3.rows.more in
          let x4 = p4.rows.more in
          let o0 : open_rows d0.marks ≡ suc (open_rows in_part.outer) = ap open_rows in_part.is in
          let o4 : open_rows d4.marks ≡ open_rows in_part.outer = ap open_rows (marks_of p4 ∙ (past3 ∙ ap (λ (ms : List CodeMark). drop 1 ms) in_part.is)) in
          let g = clean_long what in
          let e4 = p4.code.end in
          omega (arith, long2, long3);
      begin = λ k i w.
          let y = p2.kept.longer in
          let z = p3.kept.longer in
          let u = p4.kept.longer in
          p4.rows.begin k i (p3.rows.begin k (omega arith) (p2.rows.begin k (omega arith) ((rows_closed 1 d0 d1 c1).begin k (omega (arith, long2, z, u)) w)));
    };
    room = (let b = to_end in omega (arith, ee));
    part = λ row ms e.
        let t : drop 1 d0.marks ≡ ms = ap (λ (l : List CodeMark). drop 1 l) e in
        record {
          leave = left_at;
          unwinds = record { middle = length d3.ops; first = subst (λ l. CleanAt all line what l (length d0.ops + 1) (length d3.ops)) t cleaned_at; second = subst (λ l. Risk all l op.Unwind line (length d3.ops) (length d4.ops)) t unwound_at };
          handler = stay1.handlers row (clean_up (length d0.ops + 1)) (h1 row (ap handler_in e));
        };
    marks = λ row ms e. marks_of p4 ∙ (past3 ∙ ap (λ (l : List CodeMark). drop 1 l) e);
  }
