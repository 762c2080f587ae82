-- Flags that are told all that they tell stand just where a class leads to the class sought.
use Rattle.std.proofs.Common.{◌≡◌, ℕ, zero, suc, ◌+◌, ◌-◌, ◌≤◌, ◌<◌, List, [], ◌∷◌, Bool, true, false, Option, Some, None, ◌||◌, nat_eq, length, refl, ap, sym, ◌∙◌, arith, set, ◌⊎◌, inl, inr, ◌≢◌}
use Rattle.std.proofs.lemmas.Bool.{cases_eq, cases_lt}
use Rattle.std.specs.List.{list_any}
use Rattle.std.proofs.lemmas.List.{get_or-set_other}
use Rattle.uc_tree.specs.declared.rows.FieldClass.{FieldClass}
use Rattle.uc_tree.specs.declared.rows.FieldLayout.{FieldLayout}
use Rattle.uc_tree.specs.Rows.{ClassLayout, row_at, leads, object_leads, reaches}
use Rattle.uc_layout.specs.ContainmentProgress.{flag_at, flagged, row_leads, Led, Told, IsCircle, AreCircles, Reaching}

or_true : (a b c d : Bool) → (a ≡ true → c ≡ true) → (b ≡ true → d ≡ true) → (a || b) ≡ true → (c || d) ≡ true
or_true true b c d h k e = let t : c ≡ true = h refl in rw t refl
or_true false true false d h k e = k refl
or_true false true true d h k e = refl
or_true false false c d h k e = cc

any_true : (p q : FieldLayout → Bool) → ((h : FieldLayout) → p h ≡ true → q h ≡ true) → (hs : List FieldLayout) → list_any p hs ≡ true → list_any q hs ≡ true
any_true p q w [] e = e
any_true p q w (h ∷ hs) e = or_true (p h) (list_any p hs) (q h) (list_any q hs) (w h) (any_true p q w hs) e

object_true : (f g : ℕ → Bool) (to : ℕ) → ((i : ℕ) → f i ≡ true → g i ≡ true) → (o : Option FieldClass) → object_leads f to o ≡ true → object_leads g to o ≡ true
object_true f g to w None e = e
object_true f g to w (Some o) e = or_true (nat_eq o.class to) (f o.class) (nat_eq o.class to) (g o.class) (λ t. t) (w o.class) e

leads_true : (f g : ℕ → Bool) (to : ℕ) → ((i : ℕ) → f i ≡ true → g i ≡ true) → (hs : List FieldLayout) → list_any (leads f to) hs ≡ true → list_any (leads g to) hs ≡ true
leads_true f g to w hs e = any_true (leads f to) (leads g to) (λ h. object_true f g to w h.object) hs e

pub further : (k : ℕ) (rows : List ClassLayout) (to from : ℕ) → reaches k rows to from ≡ true → reaches (suc k) rows to from ≡ true
unfolding reaches
further zero rows to from e = cc
further (suc k) rows to from e = leads_true (reaches k rows to) (reaches (suc k) rows to) to (λ i. further k rows to i) (row_at rows from).held e

pub much_further : (m k : ℕ) (rows : List ClassLayout) (to from : ℕ) → reaches k rows to from ≡ true → reaches (m + k) rows to from ≡ true
much_further zero k rows to from e = let z : 0 + k ≡ k = omega arith in rw z e
much_further (suc m) k rows to from e = let z : suc m + k ≡ suc (m + k) = omega arith in rw z (further (m + k) rows to from (much_further m k rows to from e))

pub flagged_more : (fs : List Bool) (i : ℕ) → i < length fs → flag_at fs i ≡ false → flagged (set fs i true) ≡ suc (flagged fs)
flagged_more [] i h e = absurd (omega arith)
flagged_more (false ∷ fs) zero h e = omega arith
flagged_more (true ∷ fs) zero h e = cc
flagged_more (false ∷ fs) (suc i) h e = flagged_more fs i (omega arith) e
flagged_more (true ∷ fs) (suc i) h e = omega (arith, flagged_more fs i (omega arith) e)

pub flagged_fits : (fs : List Bool) → flagged fs ≤ length fs
flagged_fits [] = omega arith
flagged_fits (false ∷ fs) = omega (arith, flagged_fits fs)
flagged_fits (true ∷ fs) = omega (arith, flagged_fits fs)

led_deeper : (rows : List ClassLayout) (to : ℕ) (fs : List Bool) → Led rows to fs → (j : ℕ) → row_leads rows fs to j ≡ true → reaches (suc (flagged fs)) rows to j ≡ true
unfolding reaches
led_deeper rows to fs l j e = leads_true (flag_at fs) (reaches (flagged fs) rows to) to l.at (row_at rows j).held e

led_place : (rows : List ClassLayout) (to : ℕ) (fs : List Bool) (i : ℕ) → Led rows to fs → row_leads rows fs to i ≡ true → (j : ℕ) → flag_at (set fs i true) j ≡ true → (j ≡ i) ⊎ (j ≢ i) → reaches (suc (flagged fs)) rows to j ≡ true
led_place rows to fs i l e j h (inl same) = ap (λ n. reaches (suc (flagged fs)) rows to n) same ∙ led_deeper rows to fs l i e
led_place rows to fs i l e j h (inr other) = further (flagged fs) rows to j (l.at j (sym (get_or-set_other fs i j true false other) ∙ h))

pub led_more : (rows : List ClassLayout) (to : ℕ) (fs : List Bool) (i : ℕ) → i < length fs → flag_at fs i ≡ false → Led rows to fs → row_leads rows fs to i ≡ true → Led rows to (set fs i true) × (flagged fs < flagged (set fs i true))
led_more rows to fs i h e l t = (record { at = λ j f. ap (λ n. reaches n rows to j) (flagged_more fs i h e) ∙ led_place rows to fs i l t j f (cases_eq j i) }, let m : flagged (set fs i true) ≡ suc (flagged fs) = flagged_more fs i h e in omega arith)

-- at the end

past_empty : (rows : List ClassLayout) (j : ℕ) (p : FieldLayout → Bool) → length rows ≤ j → list_any p (row_at rows j).held ≡ false
past_empty [] j p h = refl
past_empty (r ∷ rs) zero p h = absurd (omega arith)
past_empty (r ∷ rs) (suc j) p h = past_empty rs j p (omega arith)

told_anywhere : (rows : List ClassLayout) (to : ℕ) (fs : List Bool) → Told rows to fs (length rows) → (j : ℕ) → row_leads rows fs to j ≡ true → (j < length rows) ⊎ (length rows ≤ j) → flag_at fs j ≡ true
told_anywhere rows to fs t j e (inl in_range) = t.at j in_range e
told_anywhere rows to fs t j e (inr past) = let f : row_leads rows fs to j ≡ false = past_empty rows j (leads (flag_at fs) to) past in cc

all_told : (k : ℕ) (rows : List ClassLayout) (to : ℕ) (fs : List Bool) → Told rows to fs (length rows) → (j : ℕ) → reaches k rows to j ≡ true → flag_at fs j ≡ true
unfolding reaches
all_told zero rows to fs t j e = cc
all_told (suc k) rows to fs t j e = told_anywhere rows to fs t j (leads_true (reaches k rows to) (flag_at fs) to (all_told k rows to fs t) (row_at rows j).held e) (cases_lt j (length rows))

same_truth : (a b : Bool) → (a ≡ true → b ≡ true) → (b ≡ true → a ≡ true) → a ≡ b
same_truth true b h k = sym (h refl)
same_truth false true h k = k refl
same_truth false false h k = refl

pub reached : (rows : List ClassLayout) (to : ℕ) (fs : List Bool) → length fs ≡ length rows → Led rows to fs → Told rows to fs (length rows) → Reaching rows to fs
reached rows to fs n l t =
    let fits : flagged fs ≤ length rows = omega (arith, flagged_fits fs) in
    let e : length rows - flagged fs + flagged fs ≡ length rows = omega arith in
    record {
      at = λ j. same_truth (flag_at fs j) (reaches (length rows) rows to j)
          (λ f. rw e at (much_further (length rows - flagged fs) (flagged fs) rows to j (l.at j f)))
          (λ r. all_told (length rows) rows to fs t j r);
    }

not_true : (b : Bool) → (b ≡ true → ⊥) → b ≡ false
not_true true h = absurd (h refl)
not_true false h = refl

pub itself : (rows : List ClassLayout) (to : ℕ) (fs : List Bool) → length fs ≡ length rows → Led rows to fs → Told rows to fs (length rows) → IsCircle rows to (flag_at fs to)
itself rows to fs n l t = record {
  itself = (reached rows to fs n l t).at to;
  never = λ none steps. not_true (reaches steps rows to to) (λ r. let f : flag_at fs to ≡ true = all_told steps rows to fs t to r in cc);
}

-- the flags of all classes, and of none beyond the last

past_flag : (fs : List Bool) (i : ℕ) → length fs ≤ i → flag_at fs i ≡ false
past_flag [] i h = refl
past_flag (f ∷ fs) zero h = absurd (omega arith)
past_flag (f ∷ fs) (suc i) h = past_flag fs i (omega arith)

past_reaches : (k : ℕ) (rows : List ClassLayout) (to j : ℕ) → length rows ≤ j → reaches k rows to j ≡ false
unfolding reaches
past_reaches zero rows to j h = refl
past_reaches (suc k) rows to j h = past_empty rows j (leads (reaches k rows to) to) h

circle_case : (rows : List ClassLayout) (circles : List Bool) → length circles ≡ length rows → AreCircles rows circles (length rows) → (i : ℕ) → (i < length rows) ⊎ (length rows ≤ i) → IsCircle rows i (flag_at circles i)
circle_case rows circles n a i (inl inside) = a.at i inside
circle_case rows circles n a i (inr past) = record {
  itself = past_flag circles i (omega arith) ∙ sym (past_reaches (length rows) rows i i past);
  never = λ none steps. past_reaches steps rows i i past;
}

pub circle_at : (rows : List ClassLayout) (circles : List Bool) → length circles ≡ length rows → AreCircles rows circles (length rows) → (i : ℕ) → IsCircle rows i (flag_at circles i)
circle_at rows circles n a i = circle_case rows circles n a i (cases_lt i (length rows))
