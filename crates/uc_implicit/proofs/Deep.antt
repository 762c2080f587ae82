-- Tables of heights, reckoned of one another, count one class deeper each; one that is reckoned of itself counts all.
use Rattle.std.proofs.Common.{◌≡◌, ℕ, zero, suc, ◌+◌, ◌≤◌, ◌<◌, List, [], ◌∷◌, ◌++◌, Option, Some, None, length, replicate, set, length-set, refl, ap, sym, ◌∙◌, subst, arith, ◌⊎◌, inl, inr, ◌≢◌}
use Rattle.std.proofs.lemmas.Bool.{cases_eq, cases_lt}
use Rattle.std.proofs.lemmas.List.{get_or_past, get_or_append_left, get_or_push, get_or-set_same, get_or-set_other, length-map}
use Rattle.uc_tree.specs.declared.rows.FieldClass.{FieldClass}
use Rattle.uc_tree.specs.declared.rows.FieldLayout.{FieldLayout}
use Rattle.uc_tree.specs.Programs.{Program}
use Rattle.uc_tree.specs.Rows.{ClassLayout, row_at}
use Rattle.uc_tree.specs.Constants.{constants_of}
use Rattle.uc_tree.specs.Cells.{classes_of, rows_of, row_of}
use Rattle.uc_tree.specs.Objects.{object_height, tallest, height_within}
use Rattle.uc_layout.proofs.DepthsLemmas.{row_past, heights_few}
use Rattle.uc_implicit.specs.Heights.{height_at, AreBelow, AreDeep, AreNext, AreHeights}

-- tables with a bound

zeros : (n i : ℕ) → height_at (replicate n 0) i ≡ 0
zeros zero i = refl
zeros (suc n) zero = refl
zeros (suc n) (suc i) = zeros n i

pub zeros_below : (n count : ℕ) → 0 < count → AreBelow count (replicate n 0)
zeros_below n count h = record { at = λ i. let z = zeros n i in omega (arith, z) }

set_case : (xs : List ℕ) (k x count : ℕ) → AreBelow count xs → x < count → (i : ℕ) → (i ≡ k) ⊎ (i ≢ k) → (k < length xs) ⊎ (length xs ≤ k) → height_at (set xs k x) i < count
set_case xs k x count b h i (inr other) inside = let e = get_or-set_other xs k i x 0 other in let f = b.at i in omega (arith, e, f)
set_case xs k x count b h i (inl same) (inl inside) = let e = get_or-set_same xs k x 0 inside in let f : height_at (set xs k x) i ≡ height_at (set xs k x) k = ap (height_at (set xs k x)) same in omega (arith, e, f)
set_case xs k x count b h i (inl same) (inr out) = let e = get_or_past (set xs k x) i 0 (let l = length-set xs k x in omega arith) in let f = b.at i in omega (arith, e, f)

pub set_below : (xs : List ℕ) (k x count : ℕ) → AreBelow count xs → x < count → AreBelow count (set xs k x)
set_below xs k x count b h = record { at = λ i. set_case xs k x count b h i (cases_eq i k) (cases_lt k (length xs)) }

pub deep_below : (depth count : ℕ) (rows : List ClassLayout) (xs : List ℕ) → AreDeep depth rows xs → depth < count → AreBelow count xs
deep_below depth count rows xs d h = record { at = λ i. let e = d.at i in let f = heights_few depth rows i in omega (arith, e, f) }

-- where two counts agree of what is small, they agree of classes with fields that are small

agree_one : (f g : ℕ → ℕ) (d : ℕ) → ((i : ℕ) → f i < d → g i ≡ f i) → (o : Option FieldClass) → object_height f o ≤ d → object_height g o ≡ object_height f o
agree_one f g d w None h = refl
agree_one f g d w (Some o) h = ap suc (w o.class (omega arith))

agree : (f g : ℕ → ℕ) (d : ℕ) → ((i : ℕ) → f i < d → g i ≡ f i) → (hs : List FieldLayout) → tallest f hs ≤ d → tallest g hs ≡ tallest f hs
agree f g d w [] h = refl
agree f g d w (x ∷ xs) h =
    let a = agree_one f g d w x.object (omega arith) in
    let b = agree f g d w xs (omega arith) in
    omega (arith, a, b)

same_tallest : (f g : ℕ → ℕ) → ((i : ℕ) → g i ≡ f i) → (hs : List FieldLayout) → tallest g hs ≡ tallest f hs
same_tallest f g w hs = agree f g (tallest f hs) (λ i h. w i) hs (omega arith)

deeper : (rows : List ClassLayout) (d i : ℕ) → height_within (suc d) rows i ≡ tallest (height_within d rows) (row_at rows i).held
unfolding height_within
deeper rows d i = refl

first_deep : (rows : List ClassLayout) (i : ℕ) → height_within 0 rows i ≡ 0
unfolding height_within
first_deep rows i = refl

past_deep : (rows : List ClassLayout) (d i : ℕ) → length rows ≤ i → height_within d rows i ≡ 0
past_deep rows zero i h = first_deep rows i
past_deep rows (suc d) i h = deeper rows d i ∙ ap (λ r. tallest (height_within d rows) r.held) (row_past rows i h)

pub zeros_deep : (n : ℕ) (rows : List ClassLayout) → AreDeep 0 rows (replicate n 0)
zeros_deep n rows = record { at = λ i. zeros n i ∙ sym (first_deep rows i) }

-- one class deeper

deep_case : (d : ℕ) (rows : List ClassLayout) (xs ys : List ℕ) → length ys ≡ length rows → AreDeep d rows xs → AreNext rows xs ys (length rows) → (i : ℕ) → (i < length rows) ⊎ (length rows ≤ i) → height_at ys i ≡ height_within (suc d) rows i
deep_case d rows xs ys l deep next i (inl inside) = next.at i inside ∙ sym (same_tallest (height_at xs) (height_within d rows) (λ j. sym (deep.at j)) (row_at rows i).held) ∙ sym (deeper rows d i)
deep_case d rows xs ys l deep next i (inr past) = get_or_past ys i 0 (omega arith) ∙ sym (past_deep rows (suc d) i past)

pub next_deep : (d : ℕ) (rows : List ClassLayout) (xs ys : List ℕ) → length ys ≡ length rows → AreDeep d rows xs → AreNext rows xs ys (length rows) → AreDeep (suc d) rows ys
next_deep d rows xs ys l deep next = record { at = λ i. deep_case d rows xs ys l deep next i (cases_lt i (length rows)) }

-- a table that is reckoned of itself

settled_case : (d : ℕ) (rows : List ClassLayout) (xs : List ℕ) → length xs ≡ length rows → AreNext rows xs xs (length rows) → ((j : ℕ) → height_at xs j < d → height_within d rows j ≡ height_at xs j) → (i : ℕ) → height_at xs i < suc d → (i < length rows) ⊎ (length rows ≤ i) → height_within (suc d) rows i ≡ height_at xs i
settled_case d rows xs l next more i h (inl inside) =
    let e = next.at i inside in
    deeper rows d i ∙ agree (height_at xs) (height_within d rows) d more (row_at rows i).held (omega (arith, e, h)) ∙ sym e
settled_case d rows xs l next more i h (inr past) = past_deep rows (suc d) i past ∙ sym (get_or_past xs i 0 (omega arith))

settled_at : (d : ℕ) (rows : List ClassLayout) (xs : List ℕ) → length xs ≡ length rows → AreNext rows xs xs (length rows) → (i : ℕ) → height_at xs i < d → height_within d rows i ≡ height_at xs i
settled_at zero rows xs l next i h = absurd (omega arith)
settled_at (suc d) rows xs l next i h = settled_case d rows xs l next (settled_at d rows xs l next) i h (cases_lt i (length rows))

settled_all : (rows : List ClassLayout) (xs : List ℕ) → length xs ≡ length rows → (0 < length rows → AreBelow (length rows) xs) → AreNext rows xs xs (length rows) → (i : ℕ) → (0 < length rows) ⊎ (length rows ≤ 0) → height_at xs i ≡ height_within (length rows) rows i
settled_all rows xs l few next i (inl some) = sym (settled_at (length rows) rows xs l next i ((few some).at i))
settled_all rows xs l few next i (inr none) = get_or_past xs i 0 (omega arith) ∙ sym (past_deep rows (length rows) i (omega arith))

-- the heights of a program

pub count_rows : (p : Program) → length (rows_of p) ≡ length (classes_of p.items)
count_rows p = length-map (classes_of p.items) (row_of (classes_of p.items) (constants_of p.items))

pub settled_heights : (p : Program) (xs : List ℕ) (count : ℕ) → count ≡ length (classes_of p.items) → length xs ≡ count → (0 < count → AreBelow count xs) → AreNext (rows_of p) xs xs count → AreHeights p xs
settled_heights p xs count c l few next =
    let n : count ≡ length (rows_of p) = c ∙ sym (count_rows p) in
    record {
      long = l ∙ c;
      at = λ i. settled_all (rows_of p) xs (l ∙ n) (subst (λ k. 0 < k → AreBelow k xs) n few) (subst (λ k. AreNext (rows_of p) xs xs k) n next) i (cases_lt 0 (length (rows_of p)));
    }

pub deep_heights : (p : Program) (xs : List ℕ) (count depth : ℕ) → count ≡ length (classes_of p.items) → length xs ≡ count → depth ≡ count → AreDeep depth (rows_of p) xs → AreHeights p xs
deep_heights p xs count depth c l d deep =
    let n : depth ≡ length (rows_of p) = d ∙ c ∙ sym (count_rows p) in
    record { long = l ∙ c; at = λ i. deep.at i ∙ ap (λ k. height_within k (rows_of p) i) n }

pub deep_more : (p : Program) (xs ys : List ℕ) (count depth : ℕ) → count ≡ length (classes_of p.items) → length ys ≡ count → AreDeep depth (rows_of p) xs → AreNext (rows_of p) xs ys count → AreDeep (depth + 1) (rows_of p) ys
deep_more p xs ys count depth c l deep next =
    let n : count ≡ length (rows_of p) = c ∙ sym (count_rows p) in
    let more : suc depth ≡ depth + 1 = omega arith in
    subst (λ d. AreDeep d (rows_of p) ys) more (next_deep depth (rows_of p) xs ys (l ∙ n) deep (subst (λ k. AreNext (rows_of p) xs ys k) n next))

-- one more class in a table

next_case : (rows : List ClassLayout) (xs ys : List ℕ) (n y : ℕ) → length ys ≡ n → AreNext rows xs ys n → y ≡ tallest (height_at xs) (row_at rows n).held → (i : ℕ) → i < n + 1 → (i < n) ⊎ (n ≤ i) → height_at (ys ++ y ∷ []) i ≡ tallest (height_at xs) (row_at rows i).held
next_case rows xs ys n y l f e i h (inl below) = get_or_append_left ys (y ∷ []) 0 i (omega arith) ∙ f.at i below
next_case rows xs ys n y l f e i h (inr last) = let s : i ≡ n = omega arith in get_or_push ys y 0 i (omega arith) ∙ e ∙ ap (λ k. tallest (height_at xs) (row_at rows k).held) (sym s)

pub next_more : (rows : List ClassLayout) (xs ys : List ℕ) (n y : ℕ) → length ys ≡ n → AreNext rows xs ys n → y ≡ tallest (height_at xs) (row_at rows n).held → AreNext rows xs (ys ++ y ∷ []) (n + 1)
next_more rows xs ys n y l f e = record { at = λ i h. next_case rows xs ys n y l f e i h (cases_lt i n) }

same_case : (rows : List ClassLayout) (xs : List ℕ) (n : ℕ) → AreNext rows xs xs n → height_at xs n ≡ tallest (height_at xs) (row_at rows n).held → (i : ℕ) → i < n + 1 → (i < n) ⊎ (n ≤ i) → height_at xs i ≡ tallest (height_at xs) (row_at rows i).held
same_case rows xs n f e i h (inl below) = f.at i below
same_case rows xs n f e i h (inr last) = let s : n ≡ i = omega arith in subst (λ k. height_at xs k ≡ tallest (height_at xs) (row_at rows k).held) s e

pub same_more : (rows : List ClassLayout) (xs : List ℕ) (n : ℕ) → AreNext rows xs xs n → height_at xs n ≡ tallest (height_at xs) (row_at rows n).held → AreNext rows xs xs (n + 1)
same_more rows xs n f e = record { at = λ i h. same_case rows xs n f e i h (cases_lt i n) }
