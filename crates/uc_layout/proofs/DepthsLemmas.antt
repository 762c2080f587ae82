-- Where no class has itself in its fields, what is counted so many classes deep as there are classes but one is all there is.
use Rattle.std.proofs.Common.{◌≡◌, ℕ, zero, suc, ◌+◌, ◌-◌, ◌*◌, ◌≤◌, ◌<◌, max, List, [], ◌∷◌, Bool, true, false, Option, Some, None, ◌||◌, nat_eq, if◌then◌else◌, length, replicate, refl, ap, sym, subst, ◌∙◌, arith, set, get_or, length-set, ◌⊎◌, inl, inr, ◌≢◌, true≢false}
use Rattle.std.proofs.lemmas.Bool.{cases_eq, cases_lt, eq-eqb}
use Rattle.std.proofs.lemmas.List.{get_or-set_same, get_or-set_other}
use Rattle.std.specs.List.{list_any}
use Rattle.uc_tree.specs.declared.rows.FieldClass.{FieldClass}
use Rattle.uc_tree.specs.declared.rows.FieldLayout.{FieldLayout}
use Rattle.uc_tree.specs.Rows.{ClassLayout, row_at, leads, object_leads, reaches, has_itself, element_cells, held_cells, all_held_cells, row_cells, cells_within}
use Rattle.uc_tree.specs.Objects.{object_height, tallest, height_within}
use Rattle.uc_layout.specs.ContainmentProgress.{flag_at, flagged}
use Rattle.uc_layout.specs.Depths.{Holds, First, Later}
use Rattle.uc_layout.proofs.ContainmentProgressLemmas.{much_further, flagged_more, flagged_fits}

-- ways from class to class

data Way (rows : List ClassLayout) : ℕ → ℕ → ℕ → Type 0 where
  Direct : (from : ℕ) (o : FieldClass) → Holds (row_at rows from).held o → Way rows 1 from o.class
  Through : (k from to : ℕ) (o : FieldClass) → Holds (row_at rows from).held o → Way rows k o.class to → Way rows (suc k) from to

way_on : (rows : List ClassLayout) (k from to : ℕ) (o : FieldClass) → Way rows k from to → Holds (row_at rows to).held o → Way rows (suc k) from o.class
way_on rows k from to o (Direct f q h) g = Through 1 f o.class q h (Direct q.class o g)
way_on rows k from to o (Through j f t q h w) g = Through (suc j) f o.class q h (way_on rows j q.class t o w g)

same_eq : (n : ℕ) → nat_eq n n ≡ true
same_eq n = eq-eqb n n refl

or_left : (a b : Bool) → a ≡ true → (a || b) ≡ true
or_left a b e = ap (λ x. x || b) e

or_right : (a b : Bool) → b ≡ true → (a || b) ≡ true
or_right true b e = refl
or_right false b e = e

holds_any : (p : FieldLayout → Bool) (hs : List FieldLayout) (o : FieldClass) → Holds hs o → ((h : FieldLayout) → h.object ≡ Some o → p h ≡ true) → list_any p hs ≡ true
holds_any p hs o (First x xs q e) w = or_left (p x) (list_any p xs) (w x e)
holds_any p hs o (Later x xs q g) w = or_right (p x) (list_any p xs) (holds_any p xs q g w)

way_reaches : (rows : List ClassLayout) (k from to : ℕ) → Way rows k from to → reaches k rows to from ≡ true
unfolding reaches
way_reaches rows k from to (Direct f o h) = holds_any (leads (reaches 0 rows o.class) o.class) (row_at rows f).held o h (λ x e. ap (object_leads (reaches 0 rows o.class) o.class) e ∙ or_left (nat_eq o.class o.class) (reaches 0 rows o.class o.class) (same_eq o.class))
way_reaches rows k from to (Through j f t o h w) = holds_any (leads (reaches j rows t) t) (row_at rows f).held o h (λ x e. ap (object_leads (reaches j rows t) t) e ∙ or_right (nat_eq o.class t) (reaches j rows t o.class) (way_reaches rows j o.class t w))

-- a way to a class, shorter than the count of flags
record Near (rows : List ClassLayout) (flags : List Bool) (from to : ℕ) : Type 0 where
  steps : ℕ
  few : steps < flagged flags
  way : Way rows steps from to

-- from each class with a flag there is one to this class
record Visits (rows : List ClassLayout) (flags : List Bool) (i : ℕ) : Type 0 where
  each : (v : ℕ) → flag_at flags v ≡ true → (v ≡ i) ⊎ Near rows flags v i

some_flagged : (fs : List Bool) (i : ℕ) → flag_at fs i ≡ true → 1 ≤ flagged fs
some_flagged [] i e = cc
some_flagged (true ∷ fs) i e = omega arith
some_flagged (false ∷ fs) zero e = cc
some_flagged (false ∷ fs) (suc i) e = some_flagged fs i e

pub row_past : (rows : List ClassLayout) (j : ℕ) → length rows ≤ j → row_at rows j ≡ record { leading = 0; held = [] }
row_past [] j h = refl
row_past (r ∷ rs) zero h = absurd (omega arith)
row_past (r ∷ rs) (suc j) h = row_past rs j (omega arith)

module _ (rows : List ClassLayout) (apart : (i : ℕ) → has_itself rows i ≡ false) where
  -- no way leads back
  no_way : (k i : ℕ) → k ≤ length rows → Way rows k i i → ⊥
  no_way k i h w =
      let z : length rows - k + k ≡ length rows = omega arith in
      let e : reaches (length rows - k + k) rows i i ≡ true = much_further (length rows - k) k rows i i (way_reaches rows k i i w) in
      true≢false (sym e ∙ ap (λ n. reaches n rows i i) z ∙ apart i)

  circle : (flags : List Bool) (i : ℕ) (o : FieldClass) → length flags ≡ length rows → flag_at flags i ≡ true → Visits rows flags i → Holds (row_at rows i).held o → (o.class ≡ i) ⊎ Near rows flags o.class i → ⊥
  circle flags i o l f v g (inl e) = let s = some_flagged flags i f in let t = flagged_fits flags in no_way 1 i (omega arith) (subst (λ n. Way rows 1 i n) e (Direct i o g))
  circle flags i o l f v g (inr n) = let t = flagged_fits flags in let s = n.few in no_way (suc n.steps) o.class (omega arith) (way_on rows n.steps o.class i o n.way g)

  module _ (flags : List Bool) (i : ℕ) (o : FieldClass) (f : flag_at flags i ≡ true) (v : Visits rows flags i) (g : Holds (row_at rows i).held o) (long : o.class < length flags) (new : flag_at flags o.class ≡ false) where
    near_by : (u : ℕ) → (u ≡ i) ⊎ Near rows flags u i → Near rows (set flags o.class true) u o.class
    near_by u (inl e) = let s = some_flagged flags i f in let m = flagged_more flags o.class long new in record { steps = 1; few = omega arith; way = subst (λ n. Way rows 1 n o.class) (sym e) (Direct i o g) }
    near_by u (inr n) = let s = n.few in let m = flagged_more flags o.class long new in record { steps = suc n.steps; few = omega arith; way = way_on rows n.steps u i o n.way g }

    visits_by : (u : ℕ) → flag_at (set flags o.class true) u ≡ true → (u ≡ o.class) ⊎ (u ≢ o.class) → (u ≡ o.class) ⊎ Near rows (set flags o.class true) u o.class
    visits_by u h (inl e) = inl e
    visits_by u h (inr other) = inr (near_by u (v.each u (sym (get_or-set_other flags o.class u true false other) ∙ h)))

    visits_more : Visits rows (set flags o.class true) o.class
    visits_more = record { each = λ u h. visits_by u h (cases_eq u o.class) }

  -- a number for each class, counted so many classes deep
  module _ (F : ℕ → ℕ → ℕ) (G : (ℕ → ℕ) → ClassLayout → ℕ) (base : (j : ℕ) → F 0 j ≡ 0) (next : (d j : ℕ) → F (suc d) j ≡ G (F d) (row_at rows j)) (alike : (f g : ℕ → ℕ) (r : ClassLayout) → ((o : FieldClass) → Holds r.held o → f o.class ≡ g o.class) → G f r ≡ G g r) (none : (f : ℕ → ℕ) → G f (record { leading = 0; held = [] }) ≡ 0) where
    past : (j d : ℕ) → length rows ≤ j → F d j ≡ 0
    past j zero h = base j
    past j (suc d) h = next d j ∙ ap (G (F d)) (row_past rows j h) ∙ none (F d)

    abbrev Deep : ℕ → Type 0
    Deep k = (flags : List Bool) (i : ℕ) → length flags ≡ length rows → flag_at flags i ≡ true → Visits rows flags i → length rows ≤ flagged flags + k → F (suc k) i ≡ F (suc (suc k)) i

    -- what a class holds, where one level less is known to be deep enough
    unseen : (k : ℕ) (flags : List Bool) (i : ℕ) (o : FieldClass) → Deep k → length flags ≡ length rows → flag_at flags i ≡ true → Visits rows flags i → length rows ≤ flagged flags + suc k → Holds (row_at rows i).held o → o.class < length flags → flag_at flags o.class ≡ false → F (suc k) o.class ≡ F (suc (suc k)) o.class
    unseen k flags i o deep l f v h g inside new =
        let m = flagged_more flags o.class inside new in
        let s = length-set flags o.class true in
        deep (set flags o.class true) o.class (s ∙ l) (get_or-set_same flags o.class true false inside) (visits_more flags i o f v g inside new) (omega arith)

    full : (flags : List Bool) (i : ℕ) → length flags ≡ length rows → length rows ≤ flagged flags + 0 → i < length flags → flag_at flags i ≡ false → ⊥
    full flags i l h inside new =
        let m = flagged_more flags i inside new in
        let s = length-set flags i true in
        let t = flagged_fits (set flags i true) in
        omega arith

    held_by : (k : ℕ) (flags : List Bool) (i : ℕ) (o : FieldClass) → ((flag_at flags o.class ≡ false) → o.class < length flags → F k o.class ≡ F (suc k) o.class) → length flags ≡ length rows → flag_at flags i ≡ true → Visits rows flags i → Holds (row_at rows i).held o → (o.class < length rows) ⊎ (length rows ≤ o.class) → (b : Bool) → flag_at flags o.class ≡ b → F k o.class ≡ F (suc k) o.class
    held_by k flags i o deep l f v g (inr out) b e = past o.class k out ∙ sym (past o.class (suc k) out)
    held_by k flags i o deep l f v g (inl inside) true e = absurd (circle flags i o l f v g (v.each o.class e))
    held_by k flags i o deep l f v g (inl inside) false e = deep e (omega arith)

    held_last : (flags : List Bool) (i : ℕ) (o : FieldClass) → length flags ≡ length rows → flag_at flags i ≡ true → Visits rows flags i → length rows ≤ flagged flags + 0 → Holds (row_at rows i).held o → F 0 o.class ≡ F 1 o.class
    held_last flags i o l f v h g = held_by 0 flags i o (λ new inside. absurd (full flags o.class l h inside new)) l f v g (cases_lt o.class (length rows)) (flag_at flags o.class) refl

    held_deep : (k : ℕ) (flags : List Bool) (i : ℕ) (o : FieldClass) → Deep k → length flags ≡ length rows → flag_at flags i ≡ true → Visits rows flags i → length rows ≤ flagged flags + suc k → Holds (row_at rows i).held o → F (suc k) o.class ≡ F (suc (suc k)) o.class
    held_deep k flags i o deep l f v h g = held_by (suc k) flags i o (λ new inside. unseen k flags i o deep l f v h g inside new) l f v g (cases_lt o.class (length rows)) (flag_at flags o.class) refl

    deep : (k : ℕ) → Deep k
    deep zero flags i l f v h = next 0 i ∙ alike (F 0) (F 1) (row_at rows i) (λ o g. held_last flags i o l f v h g) ∙ sym (next 1 i)
    deep (suc k) flags i l f v h = next (suc k) i ∙ alike (F (suc k)) (F (suc (suc k))) (row_at rows i) (λ o g. held_deep k flags i o (deep k) l f v h g) ∙ sym (next (suc (suc k)) i)

    -- the flag of one class alone
    abbrev one : (i : ℕ) → List Bool
    one i = set (replicate (length rows) false) i true

    no_flag : (n i : ℕ) → flag_at (replicate n false) i ≡ false
    no_flag zero i = refl
    no_flag (suc n) zero = refl
    no_flag (suc n) (suc i) = no_flag n i

    no_flags : (n : ℕ) → flagged (replicate n false) ≡ 0
    no_flags zero = refl
    no_flags (suc n) = no_flags n

    length_none : (n : ℕ) → length (replicate n false) ≡ n
    length_none zero = refl
    length_none (suc n) = ap suc (length_none n)

    one_by : (i v : ℕ) → flag_at (one i) v ≡ true → (v ≡ i) ⊎ (v ≢ i) → (v ≡ i) ⊎ Near rows (one i) v i
    one_by i v h (inl e) = inl e
    one_by i v h (inr other) = absurd (true≢false (sym h ∙ get_or-set_other (replicate (length rows) false) i v true false other ∙ no_flag (length rows) v))

    one_visits : (i : ℕ) → Visits rows (one i) i
    one_visits i = record { each = λ v h. one_by i v h (cases_eq v i) }

    pub held_is : (m i : ℕ) (o : FieldClass) → length rows ≡ suc m → i < length rows → Holds (row_at rows i).held o → F m o.class ≡ F (suc m) o.class
    held_is zero i o e inside g =
        let n = length_none (length rows) in
        let k = no_flags (length rows) in
        let w = flagged_more (replicate (length rows) false) i (omega arith) (no_flag (length rows) i) in
        held_last (one i) i o (length-set (replicate (length rows) false) i true ∙ n) (get_or-set_same (replicate (length rows) false) i true false (omega arith)) (one_visits i) (omega arith) g
    held_is (suc m) i o e inside g =
        let n = length_none (length rows) in
        let k = no_flags (length rows) in
        let w = flagged_more (replicate (length rows) false) i (omega arith) (no_flag (length rows) i) in
        held_deep m (one i) i o (deep m) (length-set (replicate (length rows) false) i true ∙ n) (get_or-set_same (replicate (length rows) false) i true false (omega arith)) (one_visits i) (omega arith) g

-- cells

element_same : (f g : ℕ → ℕ) (o : FieldClass) (b : Bool) → f o.class ≡ g o.class → (if b then f o.class else 1) ≡ (if b then g o.class else 1)
element_same f g o true e = e
element_same f g o false e = refl

held_same : (f g : ℕ → ℕ) (n : ℕ) (x : Option FieldClass) → ((o : FieldClass) → x ≡ Some o → f o.class ≡ g o.class) → n * element_cells f x ≡ n * element_cells g x
held_same f g n None w = refl
held_same f g n (Some o) w = ap (λ k. n * k) (element_same f g o o.plain (w o refl))

all_same : (f g : ℕ → ℕ) (hs : List FieldLayout) → ((o : FieldClass) → Holds hs o → f o.class ≡ g o.class) → all_held_cells f hs ≡ all_held_cells g hs
all_same f g [] w = refl
all_same f g (h ∷ hs) w =
    let a : held_cells f h ≡ held_cells g h = held_same f g h.count h.object (λ o e. w o (First h hs o e)) in
    let b = all_same f g hs (λ o x. w o (Later h hs o x)) in
    omega arith

pub cells_next : (rows : List ClassLayout) → ((i : ℕ) → has_itself rows i ≡ false) → (d j : ℕ) → cells_within (suc d) rows j ≡ row_cells (cells_within d rows) (row_at rows j)
unfolding cells_within
cells_next rows apart d j = ap (λ (b : Bool). if b then 0 else row_cells (cells_within d rows) (row_at rows j)) (apart j)

cells_base : (rows : List ClassLayout) (j : ℕ) → cells_within 0 rows j ≡ 0
unfolding cells_within
cells_base rows j = refl

-- a class of a field, counted one class less deep than there are classes, has all its cells
pub cells_deep : (rows : List ClassLayout) → ((i : ℕ) → has_itself rows i ≡ false) → (m i : ℕ) (o : FieldClass) → length rows ≡ suc m → i < length rows → Holds (row_at rows i).held o → cells_within m rows o.class ≡ cells_within (suc m) rows o.class
cells_deep rows apart m i o e inside g =
    held_is rows apart (λ d j. cells_within d rows j) row_cells (cells_base rows) (cells_next rows apart) (λ f k r w. ap (λ n. r.leading + n) (all_same f k r.held w)) (λ f. refl) m i o e inside g

-- heights

height_same : (f g : ℕ → ℕ) (x : Option FieldClass) → ((o : FieldClass) → x ≡ Some o → f o.class ≡ g o.class) → object_height f x ≡ object_height g x
height_same f g None w = refl
height_same f g (Some o) w = ap suc (w o refl)

tallest_same : (f g : ℕ → ℕ) (hs : List FieldLayout) → ((o : FieldClass) → Holds hs o → f o.class ≡ g o.class) → tallest f hs ≡ tallest g hs
tallest_same f g [] w = refl
tallest_same f g (h ∷ hs) w = ap (λ n. max n (tallest f hs)) (height_same f g h.object (λ o e. w o (First h hs o e))) ∙ ap (λ n. max (object_height g h.object) n) (tallest_same f g hs (λ o x. w o (Later h hs o x)))

height_base : (rows : List ClassLayout) (j : ℕ) → height_within 0 rows j ≡ 0
unfolding height_within
height_base rows j = refl

height_next : (rows : List ClassLayout) (d j : ℕ) → height_within (suc d) rows j ≡ tallest (height_within d rows) (row_at rows j).held
unfolding height_within
height_next rows d j = refl

heights_deep : (rows : List ClassLayout) → ((i : ℕ) → has_itself rows i ≡ false) → (m i : ℕ) (o : FieldClass) → length rows ≡ suc m → i < length rows → Holds (row_at rows i).held o → height_within m rows o.class ≡ height_within (suc m) rows o.class
heights_deep rows apart m i o e inside g =
    held_is rows apart (λ d j. height_within d rows j) (λ f r. tallest f r.held) (height_base rows) (height_next rows) (λ f k r w. tallest_same f k r.held w) (λ f. refl) m i o e inside g

tallest_holds : (f : ℕ → ℕ) (hs : List FieldLayout) (o : FieldClass) → Holds hs o → suc (f o.class) ≤ tallest f hs
tallest_holds f hs o (First x xs q e) = let a : object_height f x.object ≡ suc (f q.class) = ap (object_height f) e in omega arith
tallest_holds f hs o (Later x xs q g) = let r = tallest_holds f xs q g in omega arith

-- a class is deeper than those of its fields
pub heights_fall : (rows : List ClassLayout) → ((i : ℕ) → has_itself rows i ≡ false) → (m i : ℕ) (o : FieldClass) → length rows ≡ suc m → i < length rows → Holds (row_at rows i).held o → height_within (suc m) rows o.class < height_within (suc m) rows i
heights_fall rows apart m i o e inside g =
    let a = heights_deep rows apart m i o e inside g in
    let b = height_next rows m i in
    let c = tallest_holds (height_within m rows) (row_at rows i).held o g in
    omega arith

-- a class counted so many classes deep is at most so deep
tallest_few : (f : ℕ → ℕ) (n : ℕ) → ((i : ℕ) → f i ≤ n) → (hs : List FieldLayout) → tallest f hs ≤ suc n
tallest_few f n w [] = omega arith
tallest_few f n w (h ∷ hs) =
    let a = height_few f n w h.object in
    let b = tallest_few f n w hs in
    omega (arith, a, b)
  where
    height_few : (f : ℕ → ℕ) (n : ℕ) → ((i : ℕ) → f i ≤ n) → (o : Option FieldClass) → object_height f o ≤ suc n
    height_few f n w None = omega arith
    height_few f n w (Some o) = let a = w o.class in omega (arith, a)

pub heights_few : (d : ℕ) (rows : List ClassLayout) (i : ℕ) → height_within d rows i ≤ d
unfolding height_within
heights_few zero rows i = omega arith
heights_few (suc d) rows i = tallest_few (height_within d rows) d (heights_few d rows) (row_at rows i).held
