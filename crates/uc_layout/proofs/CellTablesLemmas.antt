-- Tables of cells, reckoned of one another, count one class deeper each.
use Rattle.std.proofs.Common.{◌≡◌, ℕ, zero, suc, ◌+◌, ◌-◌, ◌*◌, ◌^◌, ◌≤◌, ◌<◌, List, [], ◌∷◌, ◌++◌, Bool, true, false, Option, Some, None, if◌then◌else◌, length, refl, ap, sym, ◌∙◌, arith, get_or, replicate, ◌⊎◌, inl, inr}
use Rattle.std.proofs.lemmas.Bool.{cases_lt}
use Rattle.uc_tree.specs.declared.rows.FieldClass.{FieldClass}
use Rattle.uc_tree.specs.declared.rows.FieldLayout.{FieldLayout}
use Rattle.uc_tree.specs.Capped.{capped}
use Rattle.uc_tree.specs.Rows.{ClassLayout, row_at, has_itself, element_cells, held_cells, all_held_cells, row_cells, cells_within}
use Rattle.uc_layout.specs.ContainmentProgress.{AreCircles}
use Rattle.uc_layout.specs.CellTables.{cell_at, next_at, Follows, Counted}

-- capping a factor or a summand changes no capped product or sum

mul_large : (a b : ℕ) → 2 ^ 64 ≤ b → capped (suc a * (2 ^ 64 - 1)) ≡ capped (suc a * b)
mul_large a b large = omega arith

mul_case : (a b : ℕ) → (b < 2 ^ 64) ⊎ (2 ^ 64 ≤ b) → capped (a * capped b) ≡ capped (a * b)
mul_case a b (inl small) = let e : capped b ≡ b = omega arith in ap (λ n. capped (a * n)) e
mul_case zero b (inr large) = omega arith
mul_case (suc a) b (inr large) = let e : capped b ≡ 2 ^ 64 - 1 = omega arith in ap (λ n. capped (suc a * n)) e ∙ mul_large a b large

pub capped_mul : (a b : ℕ) → capped (a * capped b) ≡ capped (a * b)
capped_mul a b = mul_case a b (cases_lt b (2 ^ 64))

add_both : (a b x y : ℕ) → capped a ≡ capped x → capped b ≡ capped y → capped (a + b) ≡ capped (x + y)
add_both a b x y e f = omega arith

element_capped : (f g : ℕ → ℕ) → ((i : ℕ) → f i ≡ capped (g i)) → (n : ℕ) (o : Option FieldClass) → capped (n * element_cells f o) ≡ capped (n * element_cells g o)
element_capped f g e n None = refl
element_capped f g e n (Some o) =
    elim o.plain as (λ b. capped (n * (if b then f o.class else 1)) ≡ capped (n * (if b then g o.class else 1))) [
      | true ↦ ap (λ m. capped (n * m)) (e o.class) ∙ capped_mul n (g o.class)
      | false ↦ refl
    ]

all_capped : (f g : ℕ → ℕ) → ((i : ℕ) → f i ≡ capped (g i)) → (hs : List FieldLayout) → capped (all_held_cells f hs) ≡ capped (all_held_cells g hs)
all_capped f g e [] = refl
all_capped f g e (h ∷ hs) = add_both (held_cells f h) (all_held_cells f hs) (held_cells g h) (all_held_cells g hs) (element_capped f g e h.count h.object) (all_capped f g e hs)

pub row_capped : (f g : ℕ → ℕ) → ((i : ℕ) → f i ≡ capped (g i)) → (r : ClassLayout) → capped (row_cells f r) ≡ capped (row_cells g r)
row_capped f g e r = add_both r.leading (all_held_cells f r.held) r.leading (all_held_cells g r.held) refl (all_capped f g e r.held)

-- one class deeper

pub deeper_at : (k : ℕ) (rows : List ClassLayout) (cells : List ℕ) → Counted k rows cells → (i : ℕ) → (if has_itself rows i then 0 else capped (row_cells (cell_at cells) (row_at rows i))) ≡ capped (cells_within (suc k) rows i)
unfolding cells_within
deeper_at k rows cells c i =
    elim (has_itself rows i) as (λ b. (if b then 0 else capped (row_cells (cell_at cells) (row_at rows i))) ≡ capped (if b then 0 else row_cells (cells_within k rows) (row_at rows i))) [
      | true ↦ refl
      | false ↦ row_capped (cell_at cells) (cells_within k rows) c.at (row_at rows i)
    ]

past_row : (rows : List ClassLayout) (i : ℕ) (f : ℕ → ℕ) → length rows ≤ i → row_cells f (row_at rows i) ≡ 0
past_row [] i f h = refl
past_row (r ∷ rs) zero f h = absurd (omega arith)
past_row (r ∷ rs) (suc i) f h = past_row rs i f (omega arith)

past_cells : (k : ℕ) (rows : List ClassLayout) (i : ℕ) → length rows ≤ i → capped (cells_within k rows i) ≡ 0
unfolding cells_within
past_cells zero rows i h = refl
past_cells (suc k) rows i h =
    elim (has_itself rows i) as (λ b. capped (if b then 0 else row_cells (cells_within k rows) (row_at rows i)) ≡ 0) [
      | true ↦ refl
      | false ↦ ap capped (past_row rows i (cells_within k rows) h)
    ]

past_table : (cells : List ℕ) (i : ℕ) → length cells ≤ i → cell_at cells i ≡ 0
past_table [] i h = refl
past_table (x ∷ xs) zero h = absurd (omega arith)
past_table (x ∷ xs) (suc i) h = past_table xs i (omega arith)

counted_case : (k : ℕ) (rows : List ClassLayout) (circles : List Bool) (cells next : List ℕ) → AreCircles rows circles (length rows) → length next ≡ length rows → Follows rows circles cells next (length rows) → Counted k rows cells → (i : ℕ) → (i < length rows) ⊎ (length rows ≤ i) → cell_at next i ≡ capped (cells_within (suc k) rows i)
counted_case k rows circles cells next a n f c i (inl inside) = f.at i inside ∙ ap (λ b. if b then 0 else capped (row_cells (cell_at cells) (row_at rows i))) (a.at i inside).itself ∙ deeper_at k rows cells c i
counted_case k rows circles cells next a n f c i (inr past) = past_table next i (omega arith) ∙ sym (past_cells (suc k) rows i past)

pub counted_more : (k : ℕ) (rows : List ClassLayout) (circles : List Bool) (cells next : List ℕ) → AreCircles rows circles (length rows) → length next ≡ length rows → Follows rows circles cells next (length rows) → Counted k rows cells → Counted (suc k) rows next
counted_more k rows circles cells next a n f c = record { at = λ i. counted_case k rows circles cells next a n f c i (cases_lt i (length rows)) }

-- a table that is reckoned of itself counts as deep as one likes

still_deeper : (m k : ℕ) (rows : List ClassLayout) (cells : List ℕ) → Counted k rows cells → Counted (suc k) rows cells → Counted (m + k) rows cells
still_deeper zero k rows cells c d = let e : 0 + k ≡ k = omega arith in rw e c
still_deeper (suc m) k rows cells c d = let e : suc m + k ≡ suc (m + k) = omega arith in rw e (record { at = λ i. d.at i ∙ sym (deeper_at k rows cells c i) ∙ deeper_at (m + k) rows cells (still_deeper m k rows cells c d) i })

pub still : (k n : ℕ) (rows : List ClassLayout) (cells : List ℕ) → k ≤ n → Counted k rows cells → Counted (suc k) rows cells → Counted n rows cells
still k n rows cells h c d = let e : n - k + k ≡ n = omega arith in rw e at (still_deeper (n - k) k rows cells c d)

zeros : (n i : ℕ) → cell_at (replicate n 0) i ≡ 0
zeros zero i = refl
zeros (suc n) zero = refl
zeros (suc n) (suc i) = zeros n i

pub counted_first : (rows : List ClassLayout) (n : ℕ) → Counted 0 rows (replicate n 0)
unfolding cells_within
counted_first rows n = record { at = λ i. zeros n i }

-- one more class in a table

pub row_is : (rows : List ClassLayout) (i : ℕ) (r : ClassLayout) → i < length rows → r ≡ get_or rows i r → row_at rows i ≡ r
row_is [] i r h e = absurd (omega arith)
row_is (x ∷ xs) zero r h e = sym e
row_is (x ∷ xs) (suc i) r h e = row_is xs i r (omega arith) e

cell_push : (next : List ℕ) (i x : ℕ) → i < length next → cell_at (next ++ x ∷ []) i ≡ cell_at next i
cell_push [] i x h = absurd (omega arith)
cell_push (y ∷ ys) zero x h = refl
cell_push (y ∷ ys) (suc i) x h = cell_push ys i x (omega arith)

cell_last : (next : List ℕ) (x : ℕ) → cell_at (next ++ x ∷ []) (length next) ≡ x
cell_last [] x = refl
cell_last (y ∷ ys) x = cell_last ys x

follows_case : (rows : List ClassLayout) (circles : List Bool) (cells next : List ℕ) (n x : ℕ) → length next ≡ n → Follows rows circles cells next n → x ≡ next_at rows circles cells n → (i : ℕ) → i < n + 1 → (i < n) ⊎ (n ≤ i) → cell_at (next ++ x ∷ []) i ≡ next_at rows circles cells i
follows_case rows circles cells next n x l f e i h (inl below) = cell_push next i x (omega arith) ∙ f.at i below
follows_case rows circles cells next n x l f e i h (inr last) = let s : i ≡ n = omega arith in let t : length next ≡ i = omega arith in ap (λ k. cell_at (next ++ x ∷ []) k) (sym t) ∙ cell_last next x ∙ e ∙ ap (λ k. next_at rows circles cells k) (sym s)

pub follows_more : (rows : List ClassLayout) (circles : List Bool) (cells next : List ℕ) (n x : ℕ) → length next ≡ n → Follows rows circles cells next n → x ≡ next_at rows circles cells n → Follows rows circles cells (next ++ x ∷ []) (n + 1)
follows_more rows circles cells next n x l f e = record { at = λ i h. follows_case rows circles cells next n x l f e i h (cases_lt i n) }

-- a table of all classes, of which each is counted
counted_inside : (k : ℕ) (rows : List ClassLayout) (cells : List ℕ) → length cells ≡ length rows → ((i : ℕ) → i < length rows → cell_at cells i ≡ capped (cells_within k rows i)) → (i : ℕ) → (i < length rows) ⊎ (length rows ≤ i) → cell_at cells i ≡ capped (cells_within k rows i)
counted_inside k rows cells n all i (inl inside) = all i inside
counted_inside k rows cells n all i (inr past) = past_table cells i (omega arith) ∙ sym (past_cells k rows i past)

pub counted_in : (k : ℕ) (rows : List ClassLayout) (cells : List ℕ) → length cells ≡ length rows → ((i : ℕ) → i < length rows → cell_at cells i ≡ capped (cells_within k rows i)) → Counted k rows cells
counted_in k rows cells n all = record { at = λ i. counted_inside k rows cells n all i (cases_lt i (length rows)) }
