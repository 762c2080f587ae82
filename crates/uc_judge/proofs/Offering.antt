-- What the clauses of an accept statement take, one after the other.
use Rattle.std.proofs.Common.{◌≡◌, ℕ, ◌+◌, ◌<◌, ◌==◌, ◌||◌, Bool, true, false, cond, List, [], ◌∷◌, ◌++◌, Option, Some, None, map, drop, length, get_or, refl, sym, ap, ◌∙◌}
use Rattle.std.specs.Prelude.{is_some, option_map}
use Rattle.std.specs.List.{list_any}
use Rattle.std.proofs.lemmas.List.{at_drop_more}
use Rattle.uc_tree.specs.SiteOffers.{has_bit, offers_from, clause_for, Met, met, met_or, oldest}

-- the first of two
abbrev pub first : {A : Type 0} → Option A → Option A → Option A
first (Some x) y = Some x
first None y = y

clause_append : (m : ℕ) (xs ys : List (ℕ × ℕ)) → clause_for (xs ++ ys) m ≡ first (clause_for xs m) (clause_for ys m)
clause_append m [] ys = refl
clause_append m (x ∷ xs) ys = by (x.1 == m) (clause_append m xs ys)
  where
    by : (b : Bool) → clause_for (xs ++ ys) m ≡ first (clause_for xs m) (clause_for ys m) → cond b (Some x.0) (clause_for (xs ++ ys) m) ≡ first (cond b (Some x.0) (clause_for xs m)) (clause_for ys m)
    by true h = refl
    by false h = h

clause_listed : (k m : ℕ) (c : List ℕ) → clause_for (map (λ x. (k, x)) c) m ≡ cond (list_any (λ x. x == m) c) (Some k) None
clause_listed k m [] = refl
clause_listed k m (x ∷ c) = by (x == m) (clause_listed k m c)
  where
    by : (b : Bool) → clause_for (map (λ x. (k, x)) c) m ≡ cond (list_any (λ x. x == m) c) (Some k) None → cond b (Some k) (clause_for (map (λ x. (k, x)) c) m) ≡ cond (b || list_any (λ x. x == m) c) (Some k) None
    by true h = refl
    by false h = h

-- the clauses from one on
module _ (mask m : ℕ) (clauses : List (List ℕ)) (i : ℕ) (c : List ℕ) where
  abbrev rest : Option ℕ
  rest = clause_for (offers_from (i + 1) mask (drop (i + 1) clauses)) m

  clause_step : i < length clauses → c ≡ get_or clauses i c → clause_for (offers_from i mask (drop i clauses)) m ≡ clause_for (cond (has_bit i mask) (map (λ x. (i + 1, x)) c) [] ++ offers_from (i + 1) mask (drop (i + 1) clauses)) m
  clause_step lt same =
      at_drop_more (λ l. clause_for (offers_from i mask l) m) clauses i c lt ∙ ap (λ d. clause_for (cond (has_bit i mask) (map (λ x. (i + 1, x)) d) [] ++ offers_from (i + 1) mask (drop (i + 1) clauses)) m) (sym same)

  in_mask : i < length clauses → c ≡ get_or clauses i c → has_bit i mask ≡ true → (b : Bool) → list_any (λ x. x == m) c ≡ b → clause_for (offers_from i mask (drop i clauses)) m ≡ first (cond b (Some (i + 1)) None) rest
  in_mask lt same t b l =
      clause_step lt same
      ∙ ap (λ b. clause_for (cond b (map (λ x. (i + 1, x)) c) [] ++ offers_from (i + 1) mask (drop (i + 1) clauses)) m) t
      ∙ clause_append m (map (λ x. (i + 1, x)) c) (offers_from (i + 1) mask (drop (i + 1) clauses))
      ∙ ap (λ o. first o rest) (clause_listed (i + 1) m c ∙ ap (λ b. cond b (Some (i + 1)) None) l)

  pub clause_here : i < length clauses → c ≡ get_or clauses i c → has_bit i mask ≡ true → list_any (λ x. x == m) c ≡ true → clause_for (offers_from i mask (drop i clauses)) m ≡ Some (i + 1)
  clause_here lt same t l = in_mask lt same t true l

  pub clause_unlisted : i < length clauses → c ≡ get_or clauses i c → has_bit i mask ≡ true → list_any (λ x. x == m) c ≡ false → clause_for (offers_from i mask (drop i clauses)) m ≡ rest
  clause_unlisted lt same t l = in_mask lt same t false l

  pub clause_masked : i < length clauses → c ≡ get_or clauses i c → has_bit i mask ≡ false → clause_for (offers_from i mask (drop i clauses)) m ≡ rest
  clause_masked lt same t =
      clause_step lt same ∙ ap (λ b. clause_for (cond b (map (λ x. (i + 1, x)) c) [] ++ offers_from (i + 1) mask (drop (i + 1) clauses)) m) t

-- whom they take

met_append : (ws xs ys : List (ℕ × ℕ)) → met (xs ++ ys) ws ≡ first (met xs ws) (met ys ws)
met_append ws [] ys = refl
met_append ws (x ∷ xs) ys = by (oldest x.1 ws) (met_append ws xs ys)
  where
    by : (o : Option ℕ) → met (xs ++ ys) ws ≡ first (met xs ws) (met ys ws) → met_or x o (met (xs ++ ys) ws) ≡ first (met_or x o (met xs ws)) (met ys ws)
    by None h = h
    by (Some t) h = refl

module _ (mask : ℕ) (ws : List (ℕ × ℕ)) (clauses : List (List ℕ)) (i : ℕ) (c : List ℕ) where
  abbrev others : Option Met
  others = met (offers_from (i + 1) mask (drop (i + 1) clauses)) ws

  met_step : i < length clauses → c ≡ get_or clauses i c → met (offers_from i mask (drop i clauses)) ws ≡ met (cond (has_bit i mask) (map (λ x. (i + 1, x)) c) [] ++ offers_from (i + 1) mask (drop (i + 1) clauses)) ws
  met_step lt same =
      at_drop_more (λ l. met (offers_from i mask l) ws) clauses i c lt ∙ ap (λ d. met (cond (has_bit i mask) (map (λ x. (i + 1, x)) d) [] ++ offers_from (i + 1) mask (drop (i + 1) clauses)) ws) (sym same)

  met_in_mask : i < length clauses → c ≡ get_or clauses i c → has_bit i mask ≡ true → met (offers_from i mask (drop i clauses)) ws ≡ first (met (map (λ x. (i + 1, x)) c) ws) others
  met_in_mask lt same t =
      met_step lt same
      ∙ ap (λ b. met (cond b (map (λ x. (i + 1, x)) c) [] ++ offers_from (i + 1) mask (drop (i + 1) clauses)) ws) t
      ∙ met_append ws (map (λ x. (i + 1, x)) c) (offers_from (i + 1) mask (drop (i + 1) clauses))

  pub met_here : i < length clauses → c ≡ get_or clauses i c → has_bit i mask ≡ true → (x : Option Met) → x ≡ met (map (λ x. (i + 1, x)) c) ws → is_some x ≡ true → x ≡ met (offers_from i mask (drop i clauses)) ws
  met_here lt same t None e s = cc
  met_here lt same t (Some x) e s = sym (met_in_mask lt same t ∙ ap (λ o. first o others) (sym e))

  pub met_unlisted : i < length clauses → c ≡ get_or clauses i c → has_bit i mask ≡ true → (x : Option Met) → x ≡ met (map (λ x. (i + 1, x)) c) ws → is_some x ≡ false → met (offers_from i mask (drop i clauses)) ws ≡ others
  met_unlisted lt same t None e s = met_in_mask lt same t ∙ ap (λ o. first o others) (sym e)
  met_unlisted lt same t (Some x) e s = cc

  pub met_masked : i < length clauses → c ≡ get_or clauses i c → has_bit i mask ≡ false → met (offers_from i mask (drop i clauses)) ws ≡ others
  met_masked lt same t =
      met_step lt same ∙ ap (λ b. met (cond b (map (λ x. (i + 1, x)) c) [] ++ offers_from (i + 1) mask (drop (i + 1) clauses)) ws) t

pub mapped_some : {A B : Type 0} (f : A → B) (o : Option A) → is_some (option_map f o) ≡ is_some o
mapped_some f None = refl
mapped_some f (Some x) = refl
