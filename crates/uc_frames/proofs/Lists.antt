-- Numbered things that stand one by one, and lists of lists.
use Rattle.std.proofs.Common.{◌≡◌, ℕ, ◌++◌, List, [], ◌∷◌, length, take, drop, replicate, Option, Some, None, Bool, true, false, zero, suc, refl, sym, ap, ◌∙◌, map}
use Rattle.std.specs.Prelude.{nat_eq, if◌then◌else◌, slice_index_or, slice_set}
use Rattle.std.proofs.lemmas.List.{length-map, map-set, map-append, take-map, drop-map}
use Rattle.std.proofs.Math.ListN.{get_or-map}
use Rattle.uc_machine.specs.Executions.{update, at_depth, set_depth, frame_changed, list_in, joined, take_operands, value_changed, values_cleared}
use Rattle.uc_entry.specs.Keyed.{find}
use Rattle.uc_machine.specs.Switches.{without}
use Rattle.uc_frames.specs.StandsByParts.{Numbered, Alike}

module _ {X Y : Type 0} (P : X → Y → Type 0) where
  find_by : (b : Bool) (p : ℕ × X) (q : ℕ × Y) (x : Option X) (y : Option Y) → P p.1 q.1 → Alike P x y → Alike P (if b then Some p.1 else x) (if b then Some q.1 else y)
  find_by true p q x y h r = h
  find_by false p q x y h r = r

  pub find_both : (k : ℕ) (ps : List (ℕ × X)) (qs : List (ℕ × Y)) → Numbered P ps qs → Alike P (find k ps) (find k qs)
  find_both k [] [] h = tt
  find_both k [] (q ∷ qs) h = absurd h
  find_both k (p ∷ ps) [] h = absurd h
  find_both k (p ∷ ps) (q ∷ qs) (e, h, r) = rw e (find_by (nat_eq q.0 k) p q _ _ h (find_both k ps qs r))

  lined_by : (b : Bool) (is ps : List (ℕ × X)) (js qs : List (ℕ × Y)) → Numbered P is js → Numbered P ps qs → Numbered P (if b then is else ps) (if b then js else qs)
  lined_by true is ps js qs h r = h
  lined_by false is ps js qs h r = r

  pub update_both : (k : ℕ) (x : X) (y : Y) (ps : List (ℕ × X)) (qs : List (ℕ × Y)) → P x y → Numbered P ps qs → Numbered P (update k x ps) (update k y qs)
  update_both k x y [] [] h r = tt
  update_both k x y [] (q ∷ qs) h r = absurd r
  update_both k x y (p ∷ ps) [] h r = absurd r
  update_both k x y (p ∷ ps) (q ∷ qs) h (e, g, r) =
      rw e (lined_by (nat_eq q.0 k) _ _ _ _ (refl, h, r) (refl, g, update_both k x y ps qs h r))

  pub without_both : (k : ℕ) (ps : List (ℕ × X)) (qs : List (ℕ × Y)) → Numbered P ps qs → Numbered P (without k ps) (without k qs)
  without_both k [] [] h = tt
  without_both k [] (q ∷ qs) h = absurd h
  without_both k (p ∷ ps) [] h = absurd h
  without_both k (p ∷ ps) (q ∷ qs) (e, h, r) = rw e (lined_by (nat_eq q.0 k) _ _ _ _ r (refl, h, without_both k ps qs r))

  pub more_both : (k : ℕ) (x : X) (y : Y) (ps : List (ℕ × X)) (qs : List (ℕ × Y)) → P x y → Numbered P ps qs → Numbered P (ps ++ (k, x) ∷ []) (qs ++ (k, y) ∷ [])
  more_both k x y [] [] h r = (refl, h, tt)
  more_both k x y [] (q ∷ qs) h r = absurd r
  more_both k x y (p ∷ ps) [] h r = absurd r
  more_both k x y (p ∷ ps) (q ∷ qs) h (e, g, r) = (e, g, more_both k x y ps qs h r)

  pub joined_both : (x : Option (Option X)) (y : Option (Option Y)) → Alike (Alike P) x y → Alike P (joined x) (joined y)
  joined_both None None h = tt
  joined_both None (Some y) h = absurd h
  joined_both (Some x) None h = absurd h
  joined_both (Some x) (Some y) h = h

module _ {V W : Type 0} (f : W → V) where
  at_by : (b : Bool) (t : List W) (x : Option (List V)) (y : Option (List W)) → list_in x ≡ map f (list_in y) → list_in (if b then Some (map f t) else x) ≡ map f (list_in (if b then Some t else y))
  at_by true t x y e = refl
  at_by false t x y e = e

  pub at_map : (ts : List (List W)) (d : ℕ) → list_in (at_depth (map (map f) ts) d) ≡ map f (list_in (at_depth ts d))
  at_map [] d = refl
  at_map (t ∷ ts) d = rw (length-map ts (map f)) (at_by (nat_eq d (length ts)) t _ _ (at_map ts d))

  set_by : (b : Bool) (t u : List W) (ts us : List (List W)) (x : List (List V)) → x ≡ map (map f) us → (if b then map f u ∷ map (map f) ts else map f t ∷ x) ≡ map (map f) (if b then u ∷ ts else t ∷ us)
  set_by true t u ts us x e = refl
  set_by false t u ts us x e = ap (λ l. map f t ∷ l) e

  pub set_map : (ts : List (List W)) (d : ℕ) (u : List W) → set_depth (map (map f) ts) d (map f u) ≡ map (map f) (set_depth ts d u)
  set_map [] d u = refl
  set_map (t ∷ ts) d u = rw (length-map ts (map f)) (set_by (nat_eq d (length ts)) t u ts _ _ (set_map ts d u))

  -- a change of one frame is the same change on the other side
  pub frame_map : (d : ℕ) (g : List V → List V) (j : List W → List W) → ((vs : List W) → g (map f vs) ≡ map f (j vs)) → (ts : List (List W)) → frame_changed d g (map (map f) ts) ≡ map (map f) (frame_changed d j ts)
  frame_map d g j q ts =
      ap (λ l. set_depth (map (map f) ts) d (g l)) (at_map ts d) ∙ (ap (set_depth (map (map f) ts) d) (q (list_in (at_depth ts d))) ∙ set_map ts d (j (list_in (at_depth ts d))))

  -- so is a change of one value
  pub value_map : (k : ℕ) (g : V → V) (j : W → W) (d : W) → ((v : W) → g (f v) ≡ f (j v)) → (vs : List W) → value_changed k g (f d) (map f vs) ≡ map f (value_changed k j d vs)
  value_map k g j d q vs =
      ap (λ v. slice_set (map f vs) k (g v)) (get_or-map f vs k d) ∙ (ap (slice_set (map f vs) k) (q (slice_index_or vs k d)) ∙ sym (map-set f vs k (j (slice_index_or vs k d))))

  pub replicate_map : (n : ℕ) (v : W) → replicate n (f v) ≡ map f (replicate n v)
  replicate_map zero v = refl
  replicate_map (suc n) v = ap (λ l. f v ∷ l) (replicate_map n v)

  -- so are cleared values
  pub cleared_map : (k n : ℕ) (v : W) (vs : List W) → values_cleared k n (f v) (map f vs) ≡ map f (values_cleared k n v vs)
  cleared_map k n v vs =
      let r = replicate (length (take n (drop k vs))) v in
      rw (drop-map f k vs, take-map f k vs, take-map f n (drop k vs), drop-map f n (drop k vs), length-map (take n (drop k vs)) f, replicate_map (length (take n (drop k vs))) v)
      (rw (map-append f (take k vs) (r ++ drop n (drop k vs)), map-append f r (drop n (drop k vs))) refl)

  -- so are the newest values, and those that a call takes
  pub taken_map : (d : W) (n : ℕ) (xs ys : List W) → take_operands (f d) n (map f xs) (map f ys) ≡ map f (take_operands d n xs ys)
  taken_map d zero xs ys = refl
  taken_map d (suc n) [] ys = taken_map d n [] (d ∷ ys)
  taken_map d (suc n) (x ∷ xs) ys = taken_map d n xs (x ∷ ys)
