-- How rows that come with ops are joined.
use Rattle.std.proofs.Common.{◌≡◌, ℕ, suc, zero, ◌+◌, ◌≤◌, List, [], ◌∷◌, length, refl, ap, sym, subst, ◌∙◌, arith, Option, Some, None}
use Rattle.uc_tree.specs.Source.{ToBreak, ToContinue, ToReturn, ToEnd}
use Rattle.uc_code.specs.declared.rows.Array.{Array}
use Rattle.uc_code.specs.declared.rows.Cleaning.{Cleaning}
use Rattle.uc_code.specs.declared.rows.Cleaning.TheVariants as cleaning
use Rattle.uc_code.specs.declared.rows.CodeMark.{CodeMark}
use Rattle.uc_code.specs.declared.rows.CodeMark.TheVariants as mark
use Rattle.uc_code.specs.declared.rows.Opening.{Opening}
use Rattle.uc_code.specs.declared.rows.Opening.TheVariants as opening
use Rattle.uc_code.specs.Drafts.{Draft}
use Rattle.uc_code.specs.Emits.{Puts, clean_length, clean_by}
use Rattle.uc_code.specs.Layout.{Laid, guards}
use Rattle.uc_code.specs.Lowered.{ExitAt}
use Rattle.uc_code.specs.OpenRows.{opened, opening_mark}
use Rattle.uc_code.specs.RowCounts.{array_rows, cleaning_rows, loop_rows, return_rows}
use Rattle.uc_code.specs.RowGrowth.{BeginBy, AddsRows}
use Rattle.uc_code.proofs.Growth.{rows_opened}
use Rattle.uc_code.proofs.Putting.{clean_is}
use Rattle.uc_lower_expr.specs.DraftGrowth.{Adds}
use Rattle.uc_lower_stmt.specs.RowFit.{RowsFit, open_rows}

pub fit_refl : (d : Draft) → RowsFit 0 0 d d
fit_refl d = record { more = omega arith; few = omega arith; begin = λ k l b. b }

pub fit_then : {m n q r : ℕ} {old mid new : Draft} → length mid.ops ≤ length new.ops → RowsFit m q old mid → RowsFit n r mid new → RowsFit (m + n) (q + r) old new
fit_then l h g = record {
  more = let a = h.more in let b = g.more in omega arith;
  few = let a = h.few in let b = g.few in omega arith;
  begin = λ k i b. g.begin k i (h.begin k (omega arith) b);
}

pub fit_less : {m n r : ℕ} {old new : Draft} → n ≤ m → RowsFit m r old new → RowsFit n r old new
fit_less l h = record { more = h.more; few = let a = h.few in omega arith; begin = h.begin }

-- the rows that come, by another count
pub fit_count : {m q r : ℕ} {old new : Draft} → q ≡ r → RowsFit m q old new → RowsFit m r old new
fit_count e h = record { more = let a = h.more in omega arith; few = h.few; begin = h.begin }

-- where no row comes
pub fit_ops : {old new : Draft} → new.rows ≡ old.rows → new.marks ≡ old.marks → length old.ops ≤ length new.ops → RowsFit 0 0 old new
fit_ops {old} {new} e m l = record {
  more = let a : length new.rows ≡ length old.rows = ap length e in omega arith;
  few = let a : length new.rows ≡ length old.rows = ap length e in let b : open_rows new.marks ≡ open_rows old.marks = ap open_rows m in omega arith;
  begin = λ k i b. subst (BeginBy k) (sym e) b;
}

pub fit_adds : {n : ℕ} {S : Laid → ℕ → ℕ → Type 0} {old new : Draft} → Adds n S old new → RowsFit 0 0 old new
fit_adds h = fit_ops (ap (λ (d : Draft). d.rows) h.rest) (ap (λ (d : Draft). d.marks) h.rest) h.kept.longer

-- where as many ops come as rows, at least
pub fit_puts : {r n : ℕ} {S : Laid → ℕ → ℕ → Type 0} {old new : Draft} → r + length old.ops ≤ length new.ops → Puts r n S old new → RowsFit 0 r old new
fit_puts {r} {n} {S} {old} {new} l h = record {
  more = h.rows.more;
  few = let a = h.rows.more in let b : open_rows new.marks ≡ open_rows old.marks = ap (λ (d : Draft). open_rows d.marks) h.rest in omega arith;
  begin = h.rows.begin;
}

pub fit_none : {n : ℕ} {S : Laid → ℕ → ℕ → Type 0} {old new : Draft} → Puts 0 n S old new → RowsFit 0 0 old new
fit_none h = let l = h.kept.longer in fit_puts (omega arith) h

-- the same of drafts that are alike
pub fit_like : {m r : ℕ} {old new : Draft} (a b : Draft) → a.rows ≡ old.rows → length a.ops ≡ length old.ops → open_rows a.marks ≡ open_rows old.marks → b.rows ≡ new.rows → length b.ops ≡ length new.ops → open_rows b.marks ≡ open_rows new.marks → RowsFit m r old new → RowsFit m r a b
fit_like {m} {r} {old} {new} a b ar ao am br bo bm h = record {
  more = let x = h.more in let y : length a.rows ≡ length old.rows = ap length ar in let z : length b.rows ≡ length new.rows = ap length br in omega arith;
  few = let x = h.few in let y : length a.rows ≡ length old.rows = ap length ar in let z : length b.rows ≡ length new.rows = ap length br in omega arith;
  begin = λ k l w. subst (BeginBy k) (sym br) (h.begin k (omega arith) (subst (BeginBy k) ar w));
}

-- a row is opened

open_one : (o : Opening) (n : ℕ) (ms : List CodeMark) → open_rows (opening_mark o n ∷ ms) ≡ suc (open_rows ms)
open_one (opening.Main main routine line) n ms = refl
open_one (opening.Whole leave) n ms = refl
open_one opening.Handler n ms = refl
open_one (opening.Object what line) n ms = refl
open_one opening.Part n ms = refl
open_one opening.Elements n ms = refl
open_one (opening.Outward below) n ms = refl

pub fit_opened : (o : Opening) (old new : Draft) → new ≡ opened o old → RowsFit 0 1 old new
fit_opened o old new e =
    let g : AddsRows 1 0 old new = rows_opened o old new e in
    record {
      more = g.more;
      few =
          let a = g.more in
          let b : length new.ops ≡ length old.ops = ap (λ (d : Draft). length d.ops) e in
          let c : open_rows new.marks ≡ suc (open_rows old.marks) = ap (λ (d : Draft). open_rows d.marks) e ∙ open_one o (length old.rows) old.marks in
          omega arith;
      begin = λ k l w. g.begin k (omega arith) w;
    }

pub open_guards_rows : (first n : ℕ) (ms : List CodeMark) → open_rows (guards first n ms) ≡ n + open_rows ms
open_guards_rows first zero ms = omega arith
open_guards_rows first (suc n) ms = let r = open_guards_rows first n ms in omega arith

-- the row of the innermost mark is closed, and an op more than rows comes behind it
pub fit_closed : {most r : ℕ} {old mid shut new : Draft} → RowsFit 0 r old mid → AddsRows 0 most mid shut → new.rows ≡ shut.rows → open_rows mid.marks ≡ suc (open_rows old.marks) → open_rows new.marks ≡ open_rows old.marks → length mid.ops + 1 ≤ length new.ops → most ≤ length new.ops → RowsFit 0 r old new
fit_closed {most} {r} {old} {mid} {shut} {new} h g e m1 m2 l b = record {
  more = let x = h.more in let y = g.more in let z : length new.rows ≡ length shut.rows = ap length e in omega arith;
  few = let x = h.few in let y = g.more in let z : length new.rows ≡ length shut.rows = ap length e in omega arith;
  begin = λ k i w. subst (BeginBy k) (sym e) (g.begin k (omega arith) (h.begin k (omega arith) w));
}

-- clean-ups and ways out are long enough

array_short : (o : Option Array) → array_rows o ≤ 1
array_short None = omega arith
array_short (Some a) = omega arith

pub clean_long : (what : Cleaning) → cleaning_rows what + 1 ≤ clean_length what
clean_long (cleaning.Call what) = by_long what.array refl
  where
    by_long : (o : Option Array) → what.array ≡ o → array_rows what.array + 1 ≤ clean_by what.array what
    by_long None e = let a = ap array_rows e in let b = ap (λ x. clean_by x what) e in omega arith
    by_long (Some x) e = let a = ap array_rows e in let b = ap (λ y. clean_by y what) e in omega arith
clean_long cleaning.TakeDown = omega arith
clean_long cleaning.Forget = omega arith
clean_long cleaning.Leave = omega arith
clean_long cleaning.End = omega arith
clean_long (cleaning.Free main) = omega arith
clean_long (cleaning.Restore cell) = omega arith

module _ (code : Laid) where
  pub break_long : (ms : List CodeMark) (a z : ℕ) → ExitAt code ToBreak ms a z → loop_rows ms + a ≤ z
  break_long [] a z h = let e = h.end in omega arith
  break_long (mark.Body routine ∷ ms) a z h = let e = h.end in omega arith
  break_long (mark.Finish main routine line row ∷ ms) a z h = let e = h.end in omega arith
  break_long (mark.Loop leave again ∷ ms) a z h = let e = h.one.end in omega arith
  break_long (mark.Whole leave row ∷ ms) a z h = let e = h.one.end in omega arith
  break_long (mark.Guard row ∷ ms) a z h = break_long ms a z h
  break_long (mark.Clean what line row ∷ ms) a z h = let e = clean_is code line what ms a h.middle h.first in let l = clean_long what in let r = break_long ms h.middle z h.second in omega arith
  break_long (mark.Part row ∷ ms) a z h = break_long ms a z h
  break_long (mark.Elements row ∷ ms) a z h = break_long ms a z h
  break_long (mark.Outward below row ∷ ms) a z h = let e = h.end in omega arith

  pub continue_long : (ms : List CodeMark) (a z : ℕ) → ExitAt code ToContinue ms a z → loop_rows ms + a ≤ z
  continue_long [] a z h = let e = h.end in omega arith
  continue_long (mark.Body routine ∷ ms) a z h = let e = h.end in omega arith
  continue_long (mark.Finish main routine line row ∷ ms) a z h = let e = h.end in omega arith
  continue_long (mark.Loop leave again ∷ ms) a z h = let e = h.one.end in omega arith
  continue_long (mark.Whole leave row ∷ ms) a z h = let e = h.one.end in omega arith
  continue_long (mark.Guard row ∷ ms) a z h = continue_long ms a z h
  continue_long (mark.Clean what line row ∷ ms) a z h = let e = clean_is code line what ms a h.middle h.first in let l = clean_long what in let r = continue_long ms h.middle z h.second in omega arith
  continue_long (mark.Part row ∷ ms) a z h = continue_long ms a z h
  continue_long (mark.Elements row ∷ ms) a z h = continue_long ms a z h
  continue_long (mark.Outward below row ∷ ms) a z h = let e = h.end in omega arith

  pub return_long : (ms : List CodeMark) (a z : ℕ) → ExitAt code ToReturn ms a z → return_rows ms + a ≤ z
  return_long [] a z h = let e = h.end in omega arith
  return_long (mark.Body routine ∷ ms) a z h = let e = h.end in omega arith
  return_long (mark.Finish main routine line row ∷ ms) a z h = let e = h.end in omega arith
  return_long (mark.Loop leave again ∷ ms) a z h = return_long ms a z h
  return_long (mark.Whole leave row ∷ ms) a z h = let e = h.one.end in omega arith
  return_long (mark.Guard row ∷ ms) a z h = return_long ms a z h
  return_long (mark.Clean what line row ∷ ms) a z h = let e = clean_is code line what ms a h.middle h.first in let l = clean_long what in let r = return_long ms h.middle z h.second in omega arith
  return_long (mark.Part row ∷ ms) a z h = return_long ms a z h
  return_long (mark.Elements row ∷ ms) a z h = return_long ms a z h
  return_long (mark.Outward below row ∷ ms) a z h = let e = h.end in omega arith

  pub end_long : (ms : List CodeMark) (a z : ℕ) → ExitAt code ToEnd ms a z → return_rows ms + a ≤ z
  end_long [] a z h = let e = h.end in omega arith
  end_long (mark.Body routine ∷ ms) a z h = let e = h.end in omega arith
  end_long (mark.Finish main routine line row ∷ ms) a z h = let e = h.end in omega arith
  end_long (mark.Loop leave again ∷ ms) a z h = end_long ms a z h
  end_long (mark.Whole leave row ∷ ms) a z h = let e = h.one.end in omega arith
  end_long (mark.Guard row ∷ ms) a z h = end_long ms a z h
  end_long (mark.Clean what line row ∷ ms) a z h = let e = clean_is code line what ms a h.middle h.first in let l = clean_long what in let r = end_long ms h.middle z h.second in omega arith
  end_long (mark.Part row ∷ ms) a z h = end_long ms a z h
  end_long (mark.Elements row ∷ ms) a z h = end_long ms a z h
  end_long (mark.Outward below row ∷ ms) a z h = let e = h.end in omega arith
