-- The numbers of a journal with one entry more.
use Rattle.std.proofs.Common.{◌≡◌, ℕ, ◌+◌, ◌-◌, ◌<◌, ◌≤◌, ◌||◌, Bool, true, false, cond, [], ◌∷◌, ◌++◌, refl, sym, ap, ◌∙◌, arith, length, length-append, min}
use Rattle.std.specs.Prelude.{ℤ, pos}
use Rattle.std.specs.List.{count_by, sum_by, list_any}
use Rattle.std.proofs.lemmas.List.Sums.{count_by-le-length, sum_by-append}
use Rattle.std.proofs.Math.Nat.{min-eq_left}
use Rattle.uc_entry.specs.declared.entry.Entry.{Entry}
use Rattle.uc_acts.specs.Journal.{Journal}
use Rattle.uc_acts.specs.Queues.{all_ticks}
use Rattle.uc_acts.specs.Reading.{bytes_used, used_from, used_by, has_failed, failed_from, fails_by}
use Rattle.uc_acts.specs.Stations.{one_if}
use Rattle.uc_acts.proofs.OpenLemmas.{any_push}

count_push : (p : Entry → Bool) (j : Journal) (e : Entry) → count_by p (j ++ e ∷ []) ≡ count_by p j + one_if (p e)
count_push p j e = sum_by-append (λ x. cond (p x) 1 0) j (e ∷ []) ∙ ap (λ n. count_by p j + n) (by (p e))
  where
    by : (b : Bool) → 0 + cond b 1 0 ≡ one_if b
    by true = refl
    by false = refl

small : (b : Bool) → one_if b ≤ 1
small true = omega arith
small false = omega arith

exact : (r a b n : ℕ) → r ≡ min (a + b) 18446744073709551615 → a ≡ n → n + b ≤ 18446744073709551615 → r ≡ n + b
exact r a b n h e le = h ∙ ap (λ x. min (x + b) 18446744073709551615) e ∙ min-eq_left le

-- a count with some that are there from the beginning
pub more_of : (p : Entry → Bool) (extra : ℕ) (j : Journal) (e : Entry) (r a b : ℕ) (t : Bool) → r ≡ min (a + b) 18446744073709551615 → a ≡ count_by p j + extra → b ≡ one_if t → t ≡ p e → extra < 4294967296 → length j < 4294967296 → r ≡ count_by p (j ++ e ∷ []) + extra
more_of p extra j e r a b t h f g i lt le =
    let is : b ≡ one_if (p e) = g ∙ ap one_if i in
    let low = count_by-le-length p j in
    let one = small (p e) in
    let push = count_push p j e in
    let same : r ≡ (count_by p j + extra) + b = exact r a b (count_by p j + extra) h f (omega (arith, is, low, one, lt, le)) in
    omega (arith, same, push, is)

pub entries_more : (j : Journal) (e : Entry) (r a : ℕ) → r ≡ min (a + 1) 18446744073709551615 → a ≡ length j → length j < 4294967296 → r ≡ length (j ++ e ∷ [])
entries_more j e r a h f lt =
    exact r a 1 (length j) h f (omega (arith, lt)) ∙ sym (length-append j (e ∷ []))

pub ticks_more : (n : ℕ) (j : Journal) (e : Entry) (r a : ℕ) → r ≡ a - e.ticks → a ≡ n - all_ticks j → r ≡ n - all_ticks (j ++ e ∷ [])
unfolding all_ticks
ticks_more n j e r a h f =
    let s = sum_by-append (λ x. x.ticks) j (e ∷ []) in
    let one : sum_by (λ (x : Entry). x.ticks) (e ∷ []) ≡ e.ticks = omega arith in
    omega (arith, h, f, s, one)

used_push : (n : ℕ) (j : Journal) (e : Entry) → used_from n (j ++ e ∷ []) ≡ used_by e.kind e (used_from n j)
used_push n [] e = refl
used_push n (x ∷ j) e = used_push (used_by x.kind x n) j e

pub bytes_more : (j : Journal) (e : Entry) (r a : ℕ) → r ≡ used_by e.kind e a → a ≡ bytes_used j → r ≡ bytes_used (j ++ e ∷ [])
unfolding bytes_used
bytes_more j e r a h f = h ∙ ap (used_by e.kind e) f ∙ sym (used_push 0 j e)

pub signed_bytes_more : (j : Journal) (e : Entry) (now r x before : ℤ) → now ≡ r → ((n : ℕ) → x ≡ pos n → r ≡ pos (used_by e.kind e n)) → x ≡ before → before ≡ pos (bytes_used j) → now ≡ pos (bytes_used (j ++ e ∷ []))
signed_bytes_more j e now r x before i h g f =
    i ∙ h (bytes_used j) (g ∙ f) ∙ ap pos (bytes_more j e (used_by e.kind e (bytes_used j)) (bytes_used j) refl refl)

failed_push : (b : Bool) (j : Journal) (e : Entry) → failed_from b (j ++ e ∷ []) ≡ fails_by e.kind e (failed_from b j)
failed_push b [] e = refl
failed_push b (x ∷ j) e = failed_push (fails_by x.kind x b) j e

pub failed_more : (j : Journal) (e : Entry) (r a : Bool) → r ≡ fails_by e.kind e a → a ≡ has_failed j → r ≡ has_failed (j ++ e ∷ [])
unfolding has_failed
failed_more j e r a h f = h ∙ ap (fails_by e.kind e) f ∙ sym (failed_push false j e)

pub any_more : (p : Entry → Bool) (j : Journal) (e : Entry) (r a b : Bool) → r ≡ (a || b) → a ≡ list_any p j → b ≡ p e → r ≡ list_any p (j ++ e ∷ [])
any_more p j e r a b h f g = h ∙ ap (λ x. x || b) f ∙ ap (λ x. list_any p j || x) g ∙ sym (any_push p j e)
