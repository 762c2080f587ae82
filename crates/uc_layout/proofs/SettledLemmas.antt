-- One more class is settled.
use Rattle.std.proofs.Common.{◌≡◌, ℕ, zero, suc, ◌+◌, ◌*◌, ◌≤◌, ◌<◌, List, [], ◌∷◌, Bool, true, false, Option, Some, None, ◌&&◌, ◌||◌, if◌then◌else◌, nat_eq, length, get_or, refl, ap, sym, ◌∙◌, arith, set, replicate, ◌⊎◌, inl, inr, ◌≢◌}
use Rattle.std.proofs.lemmas.Bool.{cases_eq, ne_eqb}
use Rattle.std.specs.List.{list_any, list_all}
use Rattle.std.proofs.lemmas.List.{get_or-set_other}
use Rattle.uc_tree.specs.declared.rows.FieldClass.{FieldClass}
use Rattle.uc_tree.specs.declared.rows.FieldLayout.{FieldLayout}
use Rattle.uc_tree.specs.Capped.{capped}
use Rattle.uc_tree.specs.Rows.{ClassLayout, row_at, leads, object_leads, reaches, has_itself, element_cells, held_cells, all_held_cells, row_cells, cells_within}
use Rattle.uc_layout.specs.ContainmentProgress.{flag_at, flagged, IsCircle}
use Rattle.uc_layout.specs.CellTables.{cell_at, Counted}
use Rattle.uc_layout.specs.SettledClasses.{object_settled, held_settled, Settled}
use Rattle.uc_layout.proofs.CellTablesLemmas.{capped_mul, counted_in}
use Rattle.uc_layout.proofs.ContainmentProgressLemmas.{flagged_more, flagged_fits}

and_both : (a b : Bool) → (a && b) ≡ true → (a ≡ true) × (b ≡ true)
and_both true b h = (refl, h)
and_both false b h = cc

both_and : (a b : Bool) → a ≡ true → b ≡ true → (a && b) ≡ true
both_and true b h k = k
both_and false b h k = cc

-- what is settled stays so
object_kept : (f g : ℕ → Bool) → ((i : ℕ) → f i ≡ true → g i ≡ true) → (o : Option FieldClass) → object_settled f o ≡ true → object_settled g o ≡ true
object_kept f g w None h = refl
object_kept f g w (Some o) h = w o.class h

all_kept : (f g : ℕ → Bool) → ((i : ℕ) → f i ≡ true → g i ≡ true) → (hs : List FieldLayout) → list_all (held_settled f) hs ≡ true → list_all (held_settled g) hs ≡ true
all_kept f g w [] h = refl
all_kept f g w (x ∷ xs) h = let b = and_both (held_settled f x) (list_all (held_settled f) xs) h in both_and (held_settled g x) (list_all (held_settled g) xs) (object_kept f g w x.object b.0) (all_kept f g w xs b.1)

-- no way leads out of what is settled
object_false : (f g : ℕ → Bool) (to : ℕ) → f to ≡ false → ((i : ℕ) → f i ≡ true → g i ≡ false) → (o : Option FieldClass) → object_settled f o ≡ true → object_leads g to o ≡ false
object_false f g to out w None h = refl
object_false f g to out w (Some o) h =
    let other : nat_eq o.class to ≡ false = ne_eqb o.class to (λ e. let t : f to ≡ true = sym (ap f e) ∙ h in absurd (cc)) in
    ap (λ b. b || g o.class) other ∙ w o.class h

or_false : (a b : Bool) → a ≡ false → b ≡ false → (a || b) ≡ false
or_false true b h k = cc
or_false false b h k = k

any_false : (f g : ℕ → Bool) (to : ℕ) → f to ≡ false → ((i : ℕ) → f i ≡ true → g i ≡ false) → (hs : List FieldLayout) → list_all (held_settled f) hs ≡ true → list_any (leads g to) hs ≡ false
any_false f g to out w [] h = refl
any_false f g to out w (x ∷ xs) h = let b = and_both (held_settled f x) (list_all (held_settled f) xs) h in or_false (leads g to x) (list_any (leads g to) xs) (object_false f g to out w x.object b.0) (any_false f g to out w xs b.1)

stays : (k : ℕ) (rows : List ClassLayout) (flags : List Bool) (to from : ℕ) → ((j : ℕ) → flag_at flags j ≡ true → list_all (held_settled (flag_at flags)) (row_at rows j).held ≡ true) → flag_at flags to ≡ false → flag_at flags from ≡ true → reaches k rows to from ≡ false
unfolding reaches
stays zero rows flags to from behind out in_it = refl
stays (suc k) rows flags to from behind out in_it = any_false (flag_at flags) (reaches k rows to) to out (λ i h. stays k rows flags to i behind out h) (row_at rows from).held (behind from in_it)

comes_never : (steps : ℕ) (rows : List ClassLayout) (flags : List Bool) (i : ℕ) → ((j : ℕ) → flag_at flags j ≡ true → list_all (held_settled (flag_at flags)) (row_at rows j).held ≡ true) → flag_at flags i ≡ false → list_all (held_settled (flag_at flags)) (row_at rows i).held ≡ true → reaches steps rows i i ≡ false
unfolding reaches
comes_never zero rows flags i behind out held = refl
comes_never (suc k) rows flags i behind out held = any_false (flag_at flags) (reaches k rows i) i out (λ j h. stays k rows flags i j behind out h) (row_at rows i).held held

-- cells of what is settled
element_in : (s : ℕ → Bool) (f g : ℕ → ℕ) → ((i : ℕ) → s i ≡ true → f i ≡ capped (g i)) → (n : ℕ) (o : Option FieldClass) → object_settled s o ≡ true → capped (n * element_cells f o) ≡ capped (n * element_cells g o)
element_in s f g e n None h = refl
element_in s f g e n (Some o) h =
    elim o.plain as (λ b. capped (n * (if b then f o.class else 1)) ≡ capped (n * (if b then g o.class else 1))) [
      | true ↦ ap (λ m. capped (n * m)) (e o.class h) ∙ capped_mul n (g o.class)
      | false ↦ refl
    ]

add_both : (a b x y : ℕ) → capped a ≡ capped x → capped b ≡ capped y → capped (a + b) ≡ capped (x + y)
add_both a b x y e f = omega arith

all_in : (s : ℕ → Bool) (f g : ℕ → ℕ) → ((i : ℕ) → s i ≡ true → f i ≡ capped (g i)) → (hs : List FieldLayout) → list_all (held_settled s) hs ≡ true → capped (all_held_cells f hs) ≡ capped (all_held_cells g hs)
all_in s f g e [] h = refl
all_in s f g e (x ∷ xs) h = let b = and_both (held_settled s x) (list_all (held_settled s) xs) h in add_both (held_cells f x) (all_held_cells f xs) (held_cells g x) (all_held_cells g xs) (element_in s f g e x.count x.object b.0) (all_in s f g e xs b.1)

row_in : (s : ℕ → Bool) (f g : ℕ → ℕ) → ((i : ℕ) → s i ≡ true → f i ≡ capped (g i)) → (r : ClassLayout) → list_all (held_settled s) r.held ≡ true → capped (row_cells f r) ≡ capped (row_cells g r)
row_in s f g e r h = add_both r.leading (all_held_cells f r.held) r.leading (all_held_cells g r.held) refl (all_in s f g e r.held h)

own_cells : (k : ℕ) (rows : List ClassLayout) (flags : List Bool) (cells : List ℕ) (i : ℕ) → Settled rows flags cells → has_itself rows i ≡ false → list_all (held_settled (flag_at flags)) (row_at rows i).held ≡ true → suc (flagged flags) ≤ k → capped (row_cells (cell_at cells) (row_at rows i)) ≡ capped (cells_within k rows i)
unfolding cells_within
own_cells zero rows flags cells i was none held h = absurd (omega arith)
own_cells (suc k) rows flags cells i was none held h =
    let deep : flagged flags ≤ k = omega arith in
    row_in (flag_at flags) (cell_at cells) (cells_within k rows) (λ j s. was.cells_are j s k deep) (row_at rows i) held
    ∙ ap (λ b. capped (if b then 0 else row_cells (cells_within k rows) (row_at rows i))) (sym none)

-- lists with one more element set
set_same : {A : Type 0} (xs : List A) (i : ℕ) (x d : A) → i < length xs → get_or (set xs i x) i d ≡ x
set_same [] i x d h = absurd (omega arith)
set_same (y ∷ ys) zero x d h = refl
set_same (y ∷ ys) (suc i) x d h = set_same ys i x d (omega arith)

module _ (rows : List ClassLayout) (flags : List Bool) (cells : List ℕ) (i x : ℕ) (inside : i < length flags) (room : i < length cells) (new : flag_at flags i ≡ false) (was : Settled rows flags cells) (held : list_all (held_settled (flag_at flags)) (row_at rows i).held ≡ true) (is : x ≡ capped (row_cells (cell_at cells) (row_at rows i))) where
  kept : (j : ℕ) → flag_at flags j ≡ true → flag_at (set flags i true) j ≡ true
  kept j h = kept_case (cases_eq j i)
    where
      kept_case : (j ≡ i) ⊎ (j ≢ i) → flag_at (set flags i true) j ≡ true
      kept_case (inl same) = ap (λ n. flag_at (set flags i true) n) same ∙ set_same flags i true false inside
      kept_case (inr other) = get_or-set_other flags i j true false other ∙ h

  count : flagged (set flags i true) ≡ suc (flagged flags)
  count = flagged_more flags i inside new

  none : (steps : ℕ) → reaches steps rows i i ≡ false
  none steps = comes_never steps rows flags i was.behind new held

  behind_case : (j : ℕ) → flag_at (set flags i true) j ≡ true → (j ≡ i) ⊎ (j ≢ i) → list_all (held_settled (flag_at (set flags i true))) (row_at rows j).held ≡ true
  behind_case j h (inl same) = ap (λ n. list_all (held_settled (flag_at (set flags i true))) (row_at rows n).held) same ∙ all_kept (flag_at flags) (flag_at (set flags i true)) kept (row_at rows i).held held
  behind_case j h (inr other) = all_kept (flag_at flags) (flag_at (set flags i true)) kept (row_at rows j).held (was.behind j (sym (get_or-set_other flags i j true false other) ∙ h))

  never_case : (j : ℕ) → flag_at (set flags i true) j ≡ true → (j ≡ i) ⊎ (j ≢ i) → (steps : ℕ) → reaches steps rows j j ≡ false
  never_case j h (inl same) steps = ap (λ n. reaches steps rows n n) same ∙ none steps
  never_case j h (inr other) steps = was.never j (sym (get_or-set_other flags i j true false other) ∙ h) steps

  cells_case : (j : ℕ) → flag_at (set flags i true) j ≡ true → (j ≡ i) ⊎ (j ≢ i) → (k : ℕ) → flagged (set flags i true) ≤ k → cell_at (set cells i x) j ≡ capped (cells_within k rows j)
  cells_case j h (inl same) k deep =
      let more : suc (flagged flags) ≤ k = omega (arith, deep, count) in
      ap (λ n. cell_at (set cells i x) n) same ∙ set_same cells i x 0 room ∙ is ∙ own_cells k rows flags cells i was (none (length rows)) held more ∙ ap (λ n. capped (cells_within k rows n)) (sym same)
  cells_case j h (inr other) k deep =
      let more : flagged flags ≤ k = omega (arith, deep, count) in
      get_or-set_other cells i j x 0 other ∙ was.cells_are j (sym (get_or-set_other flags i j true false other) ∙ h) k more

  pub settled_more : Settled rows (set flags i true) (set cells i x)
  settled_more = record {
    behind = λ j h. behind_case j h (cases_eq j i);
    never = λ j h. never_case j h (cases_eq j i);
    cells_are = λ j h. cells_case j h (cases_eq j i);
  }

no_flag : (n j : ℕ) → flag_at (replicate n false) j ≡ false
no_flag zero j = refl
no_flag (suc n) zero = refl
no_flag (suc n) (suc j) = no_flag n j

pub settled_first : (rows : List ClassLayout) (n : ℕ) (cells : List ℕ) → Settled rows (replicate n false) cells
settled_first rows n cells = record {
  behind = λ j h. let f = no_flag n j in cc;
  never = λ j h steps. let f = no_flag n j in cc;
  cells_are = λ j h k d. let f = no_flag n j in cc;
}

-- what is settled has not itself in its fields
pub settled_circle : (rows : List ClassLayout) (flags : List Bool) (cells : List ℕ) (i : ℕ) → Settled rows flags cells → flag_at flags i ≡ true → IsCircle rows i false
settled_circle rows flags cells i s h = record {
  itself = sym (s.never i h (length rows));
  never = λ none steps. s.never i h steps;
}

-- where all is settled, all cells are known
pub settled_cells : (rows : List ClassLayout) (flags : List Bool) (cells : List ℕ) → length flags ≡ length rows → length cells ≡ length rows → Settled rows flags cells → ((j : ℕ) → j < length rows → flag_at flags j ≡ true) → Counted (length rows) rows cells
settled_cells rows flags cells n m s all =
    let fits : flagged flags ≤ length rows = omega (arith, flagged_fits flags) in
    counted_in (length rows) rows cells m (λ i h. s.cells_are i (all i h) (length rows) fits)
