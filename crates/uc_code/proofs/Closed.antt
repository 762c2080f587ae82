-- Closing a row in a list, by its number.
use Rattle.std.proofs.Common.{◌≡◌, ℕ, zero, suc, ◌+◌, ◌-◌, ◌<◌, ◌≤◌, List, [], ◌∷◌, length, get_or, reverse, take, drop, refl, ap, sym, ◌∙◌, arith}
use Rattle.std.specs.Prelude.{slice_set}
use Rattle.std.proofs.lemmas.List.{take_more, take_all}
use Rattle.uc_code.specs.declared.rows.HandlerRow.{HandlerRow}
use Rattle.uc_code.specs.declared.rows.CodeMark.{CodeMark}
use Rattle.uc_code.specs.OpenRows.{closed_row, closed_rows}
use Rattle.uc_code.proofs.Closing.{reverse_push}

set_is : (rows : List HandlerRow) (k here entry : ℕ) (d : HandlerRow) → k < length rows → slice_set rows k (closed_row here entry (get_or rows k d)) ≡ closed_rows here entry k rows
set_is [] k here entry d l = absurd (omega arith)
set_is (r ∷ rs) zero here entry d l = refl
set_is (r ∷ rs) (suc k) here entry d l = ap (λ q. r ∷ q) (set_is rs k here entry d (omega arith))

pub closed_set : (rows : List HandlerRow) (k here entry n : ℕ) (r : HandlerRow) → n ≡ length rows → k < n → r ≡ get_or rows k r → slice_set rows k (record { from = r.from; to = here; outer = r.outer; kind = r.kind; event = r.event; rest = r.rest; entry = entry }) ≡ closed_rows here entry k rows
closed_set rows k here entry n r e l is = ap (λ (q : HandlerRow). slice_set rows k (closed_row here entry q)) is ∙ set_is rows k here entry r (omega arith)

past_is : (rows : List HandlerRow) (k here entry : ℕ) → length rows ≤ k → rows ≡ closed_rows here entry k rows
past_is [] k here entry l = refl
past_is (r ∷ rs) zero here entry l = absurd (omega arith)
past_is (r ∷ rs) (suc k) here entry l = ap (λ q. r ∷ q) (past_is rs k here entry (omega arith))

pub closed_past : (rows : List HandlerRow) (k here entry n : ℕ) → n ≡ length rows → n ≤ k → rows ≡ closed_rows here entry k rows
closed_past rows k here entry n e l = past_is rows k here entry (omega arith)

-- the last mark is the innermost one

last_take : (marks : List CodeMark) (i : ℕ) (d : CodeMark) → i < length marks → reverse (take (i + 1) marks) ≡ get_or marks i d ∷ reverse (take i marks)
last_take marks i d l = ap reverse (take_more marks i d l) ∙ reverse_push (take i marks) (get_or marks i d)

pub reverse_take : (marks : List CodeMark) (i : ℕ) (d : CodeMark) → 0 < i → i ≤ length marks → reverse (take i marks) ≡ get_or marks (i - 1) d ∷ reverse (take (i - 1) marks)
reverse_take marks i d p l =
    let e : i ≡ (i - 1) + 1 = omega arith in
    ap (λ k. reverse (take k marks)) e ∙ last_take marks (i - 1) d (omega arith)

-- all but the last
rest_is : (marks rest : List CodeMark) → rest ≡ take (length marks - 1) marks → reverse rest ≡ drop 1 (reverse marks)
rest_is [] rest e = rw e refl
rest_is (m ∷ ms) rest e =
    let n : ℕ = length ms in
    let f : length (m ∷ ms) - 1 ≡ n = omega arith in
    let all : take (n + 1) (m ∷ ms) ≡ m ∷ ms = take_all (n + 1) (m ∷ ms) (omega arith) in
    let g : reverse (m ∷ ms) ≡ get_or (m ∷ ms) n m ∷ reverse (take n (m ∷ ms)) = ap reverse (sym all) ∙ last_take (m ∷ ms) n m (omega arith) in
    let h : rest ≡ take n (m ∷ ms) = e ∙ ap (λ k. take k (m ∷ ms)) f in
    ap reverse h ∙ sym (ap (λ q. drop 1 q) g)

pub reverse_rest : (marks rest : List CodeMark) (n : ℕ) → n ≡ length marks → rest ≡ take (n - 1) marks → reverse rest ≡ drop 1 (reverse marks)
reverse_rest marks rest n e h = rest_is marks rest (h ∙ ap (λ k. take (k - 1) marks) e)
