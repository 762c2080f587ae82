-- Walks over the clauses of an accept.
use Rattle.std.proofs.Common.{◌≡◌, ℕ, ◌==◌, ◌+◌, ◌<◌, ◌||◌, Bool, true, false, cond, List, [], ◌∷◌, ◌++◌, Some, map, refl, sym, ap, ◌∙◌, length, get_or, drop}
use Rattle.std.specs.List.{list_any}
use Rattle.std.proofs.lemmas.List.{at_drop_more}
use Rattle.uc_tree.specs.SiteOffers.{has_bit, clause_for, offers_from}

-- one clause, for a member
pub clause_step : (n m : ℕ) (c : List ℕ) (rest : List (ℕ × ℕ)) → clause_for (map (λ x. (n, x)) c ++ rest) m ≡ cond (list_any (λ x. x == m) c) (Some n) (clause_for rest m)
clause_step n m [] rest = refl
clause_step n m (x ∷ c) rest = by (clause_step n m c rest) (x == m)
  where
    by : clause_for (map (λ x. (n, x)) c ++ rest) m ≡ cond (list_any (λ x. x == m) c) (Some n) (clause_for rest m) → (b : Bool) → cond b (Some n) (clause_for (map (λ x. (n, x)) c ++ rest) m) ≡ cond (b || list_any (λ x. x == m) c) (Some n) (clause_for rest m)
    by ih true = refl
    by ih false = ih

pub clause_walk : (i mask m : ℕ) (c : List ℕ) (cs : List (List ℕ)) (b : Bool) → has_bit i mask ≡ b → clause_for (offers_from i mask (c ∷ cs)) m ≡ cond b (cond (list_any (λ x. x == m) c) (Some (i + 1)) (clause_for (offers_from (i + 1) mask cs) m)) (clause_for (offers_from (i + 1) mask cs) m)
clause_walk i mask m c cs true h = rw h (clause_step (i + 1) m c (offers_from (i + 1) mask cs))
clause_walk i mask m c cs false h = rw h refl

module _ (i mask : ℕ) (cs : List (List ℕ)) (lt : i < length cs) where
  pub clause_found : (m : ℕ) (x : List ℕ) → x ≡ get_or cs i x → has_bit i mask ≡ true → list_any (λ v. v == m) x ≡ true → clause_for (offers_from i mask (drop i cs)) m ≡ Some (i + 1)
  clause_found m x e h g =
      at_drop_more (λ l. clause_for (offers_from i mask l) m) cs i x lt ∙ ap (λ y. clause_for (offers_from i mask (y ∷ drop (i + 1) cs)) m) (sym e) ∙ clause_walk i mask m x (drop (i + 1) cs) true h ∙ simp g

  pub clause_next : (m : ℕ) (x : List ℕ) → x ≡ get_or cs i x → has_bit i mask ≡ true → list_any (λ v. v == m) x ≡ false → clause_for (offers_from i mask (drop i cs)) m ≡ clause_for (offers_from (i + 1) mask (drop (i + 1) cs)) m
  clause_next m x e h g =
      at_drop_more (λ l. clause_for (offers_from i mask l) m) cs i x lt ∙ ap (λ y. clause_for (offers_from i mask (y ∷ drop (i + 1) cs)) m) (sym e) ∙ clause_walk i mask m x (drop (i + 1) cs) true h ∙ simp g

  pub clause_skip : (m : ℕ) → has_bit i mask ≡ false → clause_for (offers_from i mask (drop i cs)) m ≡ clause_for (offers_from (i + 1) mask (drop (i + 1) cs)) m
  clause_skip m h =
      at_drop_more (λ l. clause_for (offers_from i mask l) m) cs i [] lt ∙ clause_walk i mask m (get_or cs i []) (drop (i + 1) cs) false h
