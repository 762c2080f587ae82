-- How what is done to the rows of a draft is joined.
use Rattle.std.proofs.Common.{◌≡◌, ℕ, zero, suc, ◌+◌, ◌≤◌, List, [], ◌∷◌, ◌++◌, length, length-append, Option, Some, None, refl, ap, sym, subst, arith}
use Rattle.uc_code.specs.declared.rows.HandlerRow.{HandlerRow}
use Rattle.uc_code.specs.declared.rows.Handler.{Handler}
use Rattle.uc_code.specs.declared.rows.CodeMark.{CodeMark}
use Rattle.uc_code.specs.declared.rows.CodeMark.TheVariants as mark
use Rattle.uc_code.specs.declared.rows.Opening.{Opening}
use Rattle.uc_code.specs.Drafts.{Draft}
use Rattle.uc_code.specs.OpenRows.{row_in, entry_in, made, opened, closed, closed_by, closed_rows, handled_rows}
use Rattle.uc_code.specs.RowGrowth.{AddsRows, BeginBy}
use Rattle.uc_code.proofs.Handling.{length_handled}

-- where handlers begin

begin_append : (k : ℕ) (rs qs : List HandlerRow) → BeginBy k rs → BeginBy k qs → BeginBy k (rs ++ qs)
begin_append k [] qs b c = c
begin_append k (r ∷ rs) qs b c = (b.0, begin_append k rs qs b.1 c)

begin_closed : (k here entry number : ℕ) (rs : List HandlerRow) → entry ≤ k → BeginBy k rs → BeginBy k (closed_rows here entry number rs)
begin_closed k here entry number [] l b = tt
begin_closed k here entry zero (r ∷ rs) l b = (l, b.1)
begin_closed k here entry (suc number) (r ∷ rs) l b = (b.0, begin_closed k here entry number rs l b.1)

begin_handled : (k number : ℕ) (h : Handler) (rs : List HandlerRow) → h.entry ≤ k → BeginBy k rs → BeginBy k (handled_rows h number rs)
begin_handled k number h [] l b = tt
begin_handled k zero h (r ∷ rs) l b = (l, b.1)
begin_handled k (suc number) h (r ∷ rs) l b = (b.0, begin_handled k number h rs l b.1)

-- how many rows there are

closed_count : (here entry number : ℕ) (rs : List HandlerRow) → length (closed_rows here entry number rs) ≡ length rs
closed_count here entry number [] = refl
closed_count here entry zero (r ∷ rs) = refl
closed_count here entry (suc number) (r ∷ rs) = ap suc (closed_count here entry number rs)

-- drafts

pub rows_same : {most : ℕ} {old new : Draft} → new.rows ≡ old.rows → AddsRows 0 most old new
rows_same {most} {old} {new} e = record {
  more = let f : length new.rows ≡ length old.rows = ap length e in omega arith;
  begin = λ k l b. subst (BeginBy k) (sym e) b;
}

pub rows_then : {m n x y : ℕ} {old mid new : Draft} → x ≤ y → AddsRows m x old mid → AddsRows n y mid new → AddsRows (m + n) y old new
rows_then l h g = record {
  more = let a = h.more in let b = g.more in omega arith;
  begin = λ k i b. g.begin k i (h.begin k (omega arith) b);
}

pub rows_as : {m n x y : ℕ} {old new : Draft} → m ≡ n → x ≤ y → AddsRows m x old new → AddsRows n y old new
rows_as e l h = record {
  more = let a = h.more in omega arith;
  begin = λ k i b. h.begin k (omega arith) b;
}

pub rows_opened : {most : ℕ} (o : Opening) (old new : Draft) → new ≡ opened o old → AddsRows 1 most old new
rows_opened {most} o old new e =
    let r : HandlerRow = made o (length old.ops) old.marks in
    let f : new.rows ≡ old.rows ++ r ∷ [] = ap (λ (d : Draft). d.rows) e in
    record {
      more = let g : length new.rows ≡ length (old.rows ++ r ∷ []) = ap length f in omega (arith, length-append old.rows (r ∷ []));
      begin = λ k l b. subst (BeginBy k) (sym f) (begin_append k old.rows (r ∷ []) b (omega arith, tt));
    }

entry_least : (ms : List CodeMark) (entry : ℕ) → entry_in ms entry ≤ entry
entry_least [] entry = omega arith
entry_least (mark.Body routine ∷ ms) entry = omega arith
entry_least (mark.Finish main routine line row ∷ ms) entry = omega arith
entry_least (mark.Loop leave again ∷ ms) entry = omega arith
entry_least (mark.Whole leave row ∷ ms) entry = omega arith
entry_least (mark.Guard row ∷ ms) entry = omega arith
entry_least (mark.Clean what line row ∷ ms) entry = omega arith
entry_least (mark.Part row ∷ ms) entry = omega arith
entry_least (mark.Elements row ∷ ms) entry = omega arith
entry_least (mark.Outward below row ∷ ms) entry = omega arith

rows_by : (o : Option ℕ) (entry : ℕ) (old : Draft) → AddsRows 0 entry old (closed_by o entry old)
rows_by None entry old = rows_same refl
rows_by (Some number) entry old = record {
  more = omega (arith, closed_count (length old.ops) entry number old.rows);
  begin = λ k l b. begin_closed k (length old.ops) entry number old.rows l b;
}

pub rows_closed : (ahead : ℕ) (old new : Draft) → new ≡ closed ahead old → AddsRows 0 (length old.ops + ahead) old new
rows_closed ahead old new e =
    let entry : ℕ = entry_in old.marks (length old.ops + ahead) in
    let l : entry ≤ length old.ops + ahead = entry_least old.marks (length old.ops + ahead) in
    rows_as refl l (subst (λ (d : Draft). AddsRows 0 entry old d) (sym e) (rows_by (row_in old.marks) entry old))

pub rows_handled : (number : ℕ) (h : Handler) (old new : Draft) → new.rows ≡ handled_rows h number old.rows → AddsRows 0 h.entry old new
rows_handled number h old new e = record {
  more = let f : length new.rows ≡ length (handled_rows h number old.rows) = ap length e in omega (arith, length_handled h number old.rows);
  begin = λ k l b. subst (BeginBy k) (sym e) (begin_handled k number h old.rows l b);
}

-- what came before ops that came at once
pub rows_last : {m x y : ℕ} {old mid new : Draft} → x ≤ y → AddsRows m x old mid → AddsRows 0 y mid new → AddsRows m y old new
rows_last l h g = rows_as (omega arith) (omega arith) (rows_then l h g)
