-- The rows of a guarded block are opened and closed one after another.
use Rattle.std.proofs.Common.{◌≡◌, ℕ, suc, ◌+◌, ◌-◌, ◌<◌, ◌≤◌, List, [], ◌∷◌, ◌++◌, length, length-append, drop, Option, Some, refl, ap, sym, subst, ◌∙◌, arith, inl, inr}
use Rattle.std.proofs.lemmas.Bool.{cases_lt}
use Rattle.uc_code.specs.declared.rows.HandlerRow.{HandlerRow}
use Rattle.uc_code.specs.declared.rows.CodeMark.{CodeMark}
use Rattle.uc_code.specs.declared.rows.CodeMark.TheVariants as mark
use Rattle.uc_code.specs.declared.rows.Opening.TheVariants as opening
use Rattle.uc_code.specs.Drafts.{Draft}
use Rattle.uc_code.specs.Layout.{guards, laid_in}
use Rattle.uc_code.specs.CodeShapes.{IsBare, Kept}
use Rattle.uc_code.specs.OpenRows.{made, row_in, guard_in, entry_in, opened, closed, closed_by}
use Rattle.uc_code.specs.Guarding.{OpensGuards, ClosesGuards}
use Rattle.uc_code.specs.RowGrowth.{AddsRows}
use Rattle.uc_code.proofs.Growth.{rows_same, rows_as, rows_then, rows_last, rows_opened, rows_closed}
use Rattle.uc_code.proofs.Stable.{kept_refl, kept_then}
use Rattle.uc_code.proofs.Sweeping.{closed_ops}

-- a draft with other rows and marks

abbrev with_rows : List HandlerRow → ℕ → List CodeMark → Draft → Draft
with_rows rows settled ms d = record d { rows = rows; settled = settled; marks = ms }

own_rows : (old new : Draft) (rows : List HandlerRow) (settled : ℕ) (ms : List CodeMark) → new ≡ with_rows rows settled ms old → new ≡ with_rows new.rows new.settled ms old
own_rows old new rows settled ms e = subst (λ (d : Draft). d ≡ with_rows d.rows d.settled ms old) (sym e) refl

draft_then : (a b c : Draft) (rows : List HandlerRow) (settled : ℕ) (ms ns : List CodeMark) → b ≡ with_rows b.rows b.settled ms a → c ≡ with_rows rows settled ns b → c ≡ with_rows c.rows c.settled ns a
draft_then a b c rows settled ms ns h k = own_rows a c rows settled ns (k ∙ ap (with_rows rows settled ns) h)

-- opening

pub guard_none : (d : Draft) → OpensGuards 0 d d
guard_none d = record { rest = refl; kept = kept_refl (laid_in d); rows = rows_same refl }

pub guard_more : (n : ℕ) (d0 d1 d2 : Draft) → OpensGuards n d0 d1 → d2 ≡ opened opening.Handler d1 → Kept (laid_in d1) (laid_in d2) → OpensGuards (n + 1) d0 d2
guard_more n d0 d1 d2 p e k =
    let first : ℕ = length d0.rows in
    let r : HandlerRow = made opening.Handler (length d1.ops) d1.marks in
    let x : d2 ≡ with_rows d2.rows d2.settled (mark.Guard (length d1.rows) ∷ d1.marks) d0 = draft_then d0 d1 d2 (d1.rows ++ r ∷ []) (length d1.ops) (guards first n d0.marks) (mark.Guard (length d1.rows) ∷ d1.marks) p.rest e in
    let s : suc n ≡ n + 1 = omega arith in
    let m : d1.marks ≡ guards first n d0.marks = ap (λ (d : Draft). d.marks) p.rest in
    let g : mark.Guard (length d1.rows) ∷ d1.marks ≡ guards first (n + 1) d0.marks = ap (λ (j : ℕ). mark.Guard j ∷ d1.marks) p.rows.more ∙ (ap (λ (l : List CodeMark). mark.Guard (first + n) ∷ l) m ∙ ap (λ (j : ℕ). guards first j d0.marks) s) in
    record {
      rest = x ∙ ap (λ (l : List CodeMark). with_rows d2.rows d2.settled l d0) g;
      kept = kept_then (laid_in d0) (laid_in d1) (laid_in d2) p.kept k;
      rows = rows_then (omega arith) p.rows (rows_opened opening.Handler d1 d2 e);
    }

-- closing

-- so many handlers' rows are closed, of those of a guarded block
pub record GuardClosing (first count done : ℕ) (ms : List CodeMark) (old now : Draft) : Type 0 where
  pub rest : now ≡ record old { rows = now.rows; settled = now.settled; marks = guards first (count - done) ms }
  pub kept : Kept (laid_in old) (laid_in now)
  pub rows : AddsRows 0 (length old.ops) old now
  pub bare : (k : ℕ) → count - done ≤ k → k < count → IsBare (laid_in now) (first + k)

pub closing_none : (first count : ℕ) (ms : List CodeMark) (d : Draft) → d.marks ≡ guards first count ms → GuardClosing first count 0 ms d d
closing_none first count ms d e =
    let z : count ≡ count - 0 = omega arith in
    record {
      rest = ap (λ (l : List CodeMark). with_rows d.rows d.settled l d) (e ∙ ap (λ (j : ℕ). guards first j ms) z);
      kept = kept_refl (laid_in d);
      rows = rows_same refl;
      bare = λ k l h. absurd (omega arith);
    }

guard_closed : (row : ℕ) (ms : List CodeMark) (d : Draft) → d.marks ≡ mark.Guard row ∷ ms → (entry : ℕ) → closed_by (row_in d.marks) entry d ≡ closed_by (Some row) entry d
guard_closed row ms d e entry = ap (λ (o : Option ℕ). closed_by o entry d) (ap row_in e)

guard_row : (row : ℕ) (ms ns : List CodeMark) → ns ≡ mark.Guard row ∷ ms → guard_in ns ≡ Some row
guard_row row ms ns e = ap guard_in e

pub closing_more : (first count done : ℕ) (ms : List CodeMark) (old now new : Draft) → done < count → GuardClosing first count done ms old now → new ≡ closed 0 now → Kept (laid_in now) (laid_in new) → ((row : ℕ) → guard_in now.marks ≡ Some row → IsBare (laid_in new) row) → GuardClosing first count (done + 1) ms old new
closing_more first count done ms old now new l p e k b =
    let j : ℕ = count - (done + 1) in
    let s : count - done ≡ suc j = omega arith in
    let m : now.marks ≡ mark.Guard (first + j) ∷ guards first j ms = ap (λ (d : Draft). d.marks) p.rest ∙ ap (λ (i : ℕ). guards first i ms) s in
    let entry : ℕ = entry_in now.marks (length now.ops + 0) in
    let f : new ≡ closed_by (Some (first + j)) entry now = e ∙ guard_closed (first + j) (guards first j ms) now m entry in
    let x = draft_then old now new (closed_by (Some (first + j)) entry now).rows (length now.ops) (guards first (count - done) ms) (drop 1 now.marks) p.rest f in
    let g : drop 1 now.marks ≡ guards first j ms = ap (λ (q : List CodeMark). drop 1 q) m in
    record {
      rest = x ∙ ap (λ (q : List CodeMark). with_rows new.rows new.settled q old) g;
      kept = kept_then (laid_in old) (laid_in now) (laid_in new) p.kept k;
      rows =
          let ops : length now.ops ≡ length old.ops = ap (λ (d : Draft). length d.ops) p.rest in
          rows_as refl (omega arith) (rows_last (omega arith) p.rows (rows_closed 0 now new e));
      bare = λ i u v. elim (cases_lt j i) [
        | inl h ↦ k.bare (first + i) (p.bare i (omega arith) v)
        | inr h ↦ let q : j ≡ i = omega arith in subst (λ (a : ℕ). IsBare (laid_in new) (first + a)) q (b (first + j) (guard_row (first + j) (guards first j ms) now.marks m))
      ];
    }

pub closing_all : (first count done : ℕ) (ms : List CodeMark) (old new : Draft) → count ≤ done → GuardClosing first count done ms old new → ClosesGuards first count ms old new
closing_all first count done ms old new l p =
    let z : count - done ≡ 0 = omega arith in
    record {
      rest = p.rest ∙ ap (λ (j : ℕ). with_rows new.rows new.settled (guards first j ms) old) z;
      kept = p.kept;
      rows = p.rows;
      bare = λ k h. p.bare k (omega arith) h;
    }

-- ops stay
pub still_some : (now new : Draft) → new ≡ closed 0 now → 0 < length now.ops → 0 < length new.ops
still_some now new e l = let f : length new.ops ≡ length now.ops = ap length (closed_ops 0 now new e) in omega arith
