-- How often a task stands in a filter, when an entry is appended.
use Rattle.std.proofs.Common.{◌≡◌, ℕ, suc, ◌==◌, ◌+◌, Bool, true, false, cond, not, List, [], ◌∷◌, ◌++◌, Option, map, refl, sym, ap, ◌∙◌, arith}
use Rattle.std.specs.Option.{option_to_list}
use Rattle.std.specs.List.{filter}
use Rattle.std.proofs.lemmas.Bool.{eqb-true}
use Rattle.std.proofs.lemmas.List.{map-append}
use Rattle.std.proofs.lemmas.List.Elements.{filter-append}
use Rattle.uc_acts.specs.Open.{still_open}
use Rattle.uc_acts.specs.Stations.{times}
use Rattle.uc_acts.proofs.OpenLemmas.{still_open_push}

pub times_append : (t : ℕ) (xs ys : List ℕ) → times t (xs ++ ys) ≡ times t xs + times t ys
times_append t [] ys = omega arith
times_append t (x ∷ xs) ys = by (t == x) (times_append t xs ys)
  where
    by : (b : Bool) → times t (xs ++ ys) ≡ times t xs + times t ys → cond b (suc (times t (xs ++ ys))) (times t (xs ++ ys)) ≡ cond b (suc (times t xs)) (times t xs) + times t ys
    by true h = omega (arith, h)
    by false h = h

-- a filter that takes out those of some tasks, within those of a test
pub times_off : {A : Type 0} (key : A → ℕ) (off : ℕ → Bool) (p r : A → Bool) (t : ℕ) → ((a : A) → p a ≡ off (key a)) → (xs : List A) → times t (map key (filter r (filter (λ a. not (p a)) xs))) ≡ cond (off t) 0 (times t (map key (filter r xs)))
times_off key off p r t h [] = nothing (off t)
  where
    nothing : (b : Bool) → ◌≡◌ {A = ℕ} 0 (cond b 0 0)
    nothing true = refl
    nothing false = refl
times_off key off p r t h (x ∷ xs) = by (times_off key off p r t h xs) (p x) (r x) (t == key x) (off t) refl refl refl refl
  where
    by : times t (map key (filter r (filter (λ a. not (p a)) xs))) ≡ cond (off t) 0 (times t (map key (filter r xs))) → (px rx kx ot : Bool) → p x ≡ px → r x ≡ rx → (t == key x) ≡ kx → off t ≡ ot → times t (map key (filter r (filter (λ a. not (p a)) (x ∷ xs)))) ≡ cond (off t) 0 (times t (map key (filter r (x ∷ xs))))
    by ih true rx true ot e f g o =
        let same : ot ≡ true = sym o ∙ ap off (eqb-true t (key x) g) ∙ sym (h x) ∙ e in
        let now : off t ≡ true = o ∙ same in
        simp (e, now, ih)
    by ih true true false ot e f g o = simp (e, f, g, ih)
    by ih true false false ot e f g o = simp (e, f, ih)
    by ih false true true ot e f g o =
        let same : ot ≡ false = sym o ∙ ap off (eqb-true t (key x) g) ∙ sym (h x) ∙ e in
        let now : off t ≡ false = o ∙ same in
        simp (e, f, g, now, ih)
    by ih false true false ot e f g o = simp (e, f, g, ih)
    by ih false false kx ot e f g o = simp (e, f, ih)

all_pass : {A : Type 0} (xs : List A) → filter (λ a. true) xs ≡ xs
all_pass [] = refl
all_pass (x ∷ xs) = ap (λ l. x ∷ l) (all_pass xs)

module _ {E A : Type 0} (begins : E → Option A) (ends : E → A → Bool) (key : A → ℕ) (j : List E) (e : E) (t : ℕ) (off : ℕ → Bool) (h : (a : A) → ends e a ≡ off (key a)) where
  -- within those of a test
  pub times_push_in : (r : A → Bool) → times t (map key (filter r (still_open begins ends (j ++ e ∷ [])))) ≡ cond (off t) 0 (times t (map key (filter r (still_open begins ends j)))) + times t (map key (filter r (option_to_list (begins e))))
  times_push_in r =
      let kept = filter (λ a. not (ends e a)) (still_open begins ends j) in
      ap (λ l. times t (map key (filter r l))) (still_open_push begins ends j e) ∙ ap (λ l. times t (map key l)) (filter-append r kept (option_to_list (begins e))) ∙ ap (times t) (map-append key (filter r kept) (filter r (option_to_list (begins e)))) ∙ times_append t (map key (filter r kept)) (map key (filter r (option_to_list (begins e)))) ∙ ap (λ n. n + times t (map key (filter r (option_to_list (begins e))))) (times_off key off (ends e) r t h (still_open begins ends j))

  pub times_push : times t (map key (still_open begins ends (j ++ e ∷ []))) ≡ cond (off t) 0 (times t (map key (still_open begins ends j))) + times t (map key (option_to_list (begins e)))
  times_push =
      let all = times_push_in (λ a. true) in
      simp all_pass at all
