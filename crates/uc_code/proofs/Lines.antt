-- The lines of one more op or row.
use Rattle.std.proofs.Common.{◌≡◌, ℕ, ◌+◌, List, [], ◌∷◌, ◌++◌, ◌<◌, length, take, get_or, ap, sym, ◌∙◌, append_assoc, append-nil, arith}
use Rattle.std.proofs.lemmas.List.{take_more}
use Rattle.std.proofs.lemmas.Grind.{common_steps}
use Rattle.uc_code.specs.declared.rows.HandlerRow.{HandlerRow}
use Rattle.uc_code.specs.declared.rows.Instruction.{Instruction}
use Rattle.uc_code.specs.Listing.{op_line, op_lines, row_line, row_lines}

taken : {A : Type 0} (xs : List A) (i : ℕ) → i < length xs → 0 + length (take i xs) ≡ i
taken xs i h = grind (arith, common_steps)

op_lines_append : (n : ℕ) (xs ys : List Instruction) → op_lines n (xs ++ ys) ≡ op_lines n xs ++ op_lines (n + length xs) ys
op_lines_append n [] ys = let e : n ≡ n + 0 = omega arith in ap (λ k. op_lines k ys) e
op_lines_append n (x ∷ xs) ys =
    let e : n + 1 + length xs ≡ n + length (x ∷ xs) = omega arith in
    ap (λ t. op_line n x.op ++ t) (op_lines_append (n + 1) xs ys ∙ ap (λ k. op_lines (n + 1) xs ++ op_lines k ys) e)
    ∙ sym (append_assoc (op_line n x.op) (op_lines (n + 1) xs) (op_lines (n + length (x ∷ xs)) ys))

row_lines_append : (n : ℕ) (xs ys : List HandlerRow) → row_lines n (xs ++ ys) ≡ row_lines n xs ++ row_lines (n + length xs) ys
row_lines_append n [] ys = let e : n ≡ n + 0 = omega arith in ap (λ k. row_lines k ys) e
row_lines_append n (x ∷ xs) ys =
    let e : n + 1 + length xs ≡ n + length (x ∷ xs) = omega arith in
    ap (λ t. row_line n x ++ t) (row_lines_append (n + 1) xs ys ∙ ap (λ k. row_lines (n + 1) xs ++ row_lines k ys) e)
    ∙ sym (append_assoc (row_line n x) (row_lines (n + 1) xs) (row_lines (n + length (x ∷ xs)) ys))

pub more_op_lines : (ops : List Instruction) (i : ℕ) (d : Instruction) → i < length ops → op_lines 0 (take (i + 1) ops) ≡ op_lines 0 (take i ops) ++ op_line i (get_or ops i d).op
more_op_lines ops i d h =
    ap (op_lines 0) (take_more ops i d h) ∙ op_lines_append 0 (take i ops) (get_or ops i d ∷ [])
    ∙ ap (λ l. op_lines 0 (take i ops) ++ l) (append-nil _ ∙ ap (λ k. op_line k (get_or ops i d).op) (taken ops i h))

pub more_row_lines : (rows : List HandlerRow) (i : ℕ) (d : HandlerRow) → i < length rows → row_lines 0 (take (i + 1) rows) ≡ row_lines 0 (take i rows) ++ row_line i (get_or rows i d)
more_row_lines rows i d h =
    ap (row_lines 0) (take_more rows i d h) ∙ row_lines_append 0 (take i rows) (get_or rows i d ∷ [])
    ∙ ap (λ l. row_lines 0 (take i rows) ++ l) (append-nil _ ∙ ap (λ k. row_line k (get_or rows i d)) (taken rows i h))

pub op_step : (after before text : List ℕ) (ops : List Instruction) (i : ℕ) (d : Instruction) → i < length ops → before ≡ text ++ op_lines 0 (take i ops) → after ≡ before ++ op_line i (get_or ops i d).op → after ≡ text ++ op_lines 0 (take (i + 1) ops)
op_step after before text ops i d h e g =
    g ∙ ap (λ l. l ++ op_line i (get_or ops i d).op) e ∙ append_assoc text (op_lines 0 (take i ops)) (op_line i (get_or ops i d).op)
    ∙ ap (λ l. text ++ l) (sym (more_op_lines ops i d h))

pub row_step : (after before text : List ℕ) (rows : List HandlerRow) (i : ℕ) (d : HandlerRow) → i < length rows → before ≡ text ++ row_lines 0 (take i rows) → after ≡ before ++ row_line i (get_or rows i d) → after ≡ text ++ row_lines 0 (take (i + 1) rows)
row_step after before text rows i d h e g =
    g ∙ ap (λ l. l ++ row_line i (get_or rows i d)) e ∙ append_assoc text (row_lines 0 (take i rows)) (row_line i (get_or rows i d))
    ∙ ap (λ l. text ++ l) (sym (more_row_lines rows i d h))
