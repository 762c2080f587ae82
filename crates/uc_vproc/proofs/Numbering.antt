-- The numbers in a hand, read one by one.
use Rattle.std.proofs.Common.{◌≡◌, ℕ, zero, suc, ◌+◌, ◌<◌, ◌≤◌, ◌==◌, ◌||◌, Bool, true, false, List, [], ◌∷◌, ◌++◌, Some, refl, sym, ap, ◌∙◌, length, take, get_or, eq-eqb}
use Rattle.std.specs.Prelude.{slice_get}
use Rattle.std.proofs.lemmas.Bool.{ne_eqb}
use Rattle.std.proofs.lemmas.List.{take_more, take_all}
use Rattle.uc_acts.specs.Known.{has}
use Rattle.uc_kernel.specs.Numbered.{keys}

or_right : (b c : Bool) → c ≡ true → (b || c) ≡ true
or_right true c e = refl
or_right false c e = e

has_more : (xs : List ℕ) (y n : ℕ) → has xs n ≡ false → (y == n) ≡ false → has (xs ++ y ∷ []) n ≡ false
has_more [] y n h d = ap (λ b. b || false) d
has_more (x ∷ xs) y n h d = by (x == n) (λ f. has_more xs y n f d) h
  where
    by : (b : Bool) → (has xs n ≡ false → has (xs ++ y ∷ []) n ≡ false) → (b || has xs n) ≡ false → (b || has (xs ++ y ∷ []) n) ≡ false
    by true f h = absurd (cc h)
    by false f h = f h

module _ {M : Type 0} where
  keys_append : (a b : List (ℕ × M)) → keys (a ++ b) ≡ keys a ++ keys b
  keys_append [] b = refl
  keys_append (p ∷ a) b = ap (λ l. p.0 ∷ l) (keys_append a b)

  pub key_next : (ps : List (ℕ × M)) (i : ℕ) (p : ℕ × M) → i < length ps → p ≡ get_or ps i p → keys (take (i + 1) ps) ≡ keys (take i ps) ++ p.0 ∷ []
  key_next ps i p lt e =
      ap keys (take_more ps i p lt) ∙ keys_append (take i ps) (get_or ps i p ∷ []) ∙ ap (λ q. keys (take i ps) ++ q.0 ∷ []) (sym e)

  pub keys_whole : (ps : List (ℕ × M)) (n : ℕ) → length ps ≤ n → keys (take n ps) ≡ keys ps
  keys_whole ps n le = ap keys (take_all n ps le)

  pub key_there : (ps : List (ℕ × M)) (i o : ℕ) (x : M) → slice_get ps i ≡ Some (o, x) → has (keys ps) o ≡ true
  key_there [] i o x e = absurd (cc e)
  key_there (q ∷ ps) zero o x e =
      let same : q ≡ (o, x) = cc e in ap (λ b. b || has (keys ps) o) (eq-eqb q.0 o (ap (λ (r : ℕ × M). r.0) same))
  key_there (q ∷ ps) (suc i) o x e = or_right (q.0 == o) (has (keys ps) o) (key_there ps i o x e)

  pub none_next : (ps : List (ℕ × M)) (i o : ℕ) (p : ℕ × M) → i < length ps → p ≡ get_or ps i p → (p.0 ≡ o → ⊥) → has (keys (take i ps)) o ≡ false → has (keys (take (i + 1) ps)) o ≡ false
  none_next ps i o p lt e d h = ap (λ ks. has ks o) (key_next ps i p lt e) ∙ has_more (keys (take i ps)) p.0 o h (ne_eqb p.0 o d)
