-- Waits from their conditions and from the tasks with their numbers.
use Rattle.std.proofs.Common.{◌≡◌, ℕ, ℤ, zero, suc, ◌+◌, ◌<◌, ◌≤◌, Bool, true, false, cond, not, List, [], ◌∷◌, ◌++◌, length, get_or, take, drop, refl, sym, ap, ◌∙◌, arith}
use Rattle.std.specs.Prelude.{nat_lt}
use Rattle.std.specs.List.{insert, remove, prefix_len}
use Rattle.uc_entry.specs.declared.entry.Entry.{Entry}
use Rattle.uc_acts.specs.Queues.{takes}
use Rattle.uc_explain.specs.Shown.{placed}
use Rattle.uc_explain.specs.Steps.{waits_of, waits_kept}

-- one more, at its place
pub wait_placed : (c : ℕ) (w : ℕ × ℤ) (cs : List ℕ) (ws : List (ℕ × ℤ)) → length cs ≡ length ws → waits_of (insert cs (prefix_len (λ d. not (nat_lt c d)) cs) c) (insert ws (prefix_len (λ d. not (nat_lt c d)) cs) w) ≡ placed (λ b. b.1) (w.0, c, w.1) (waits_of cs ws)
wait_placed c w [] [] h = refl
wait_placed c w [] (v ∷ ws) h = absurd (omega (arith, h))
wait_placed c w (d ∷ cs) [] h = absurd (omega (arith, h))
wait_placed c w (d ∷ cs) (v ∷ ws) h = by (nat_lt c d) (wait_placed c w cs ws (omega (arith, h)))
  where
    by : (b : Bool) → waits_of (insert cs (prefix_len (λ d. not (nat_lt c d)) cs) c) (insert ws (prefix_len (λ d. not (nat_lt c d)) cs) w) ≡ placed (λ b. b.1) (w.0, c, w.1) (waits_of cs ws) → waits_of (insert (d ∷ cs) (cond (not b) (1 + prefix_len (λ d. not (nat_lt c d)) cs) 0) c) (insert (v ∷ ws) (cond (not b) (1 + prefix_len (λ d. not (nat_lt c d)) cs) 0) w) ≡ cond b ((w.0, c, w.1) ∷ (v.0, d, v.1) ∷ waits_of cs ws) ((v.0, d, v.1) ∷ placed (λ b. b.1) (w.0, c, w.1) (waits_of cs ws))
    by true g = refl
    by false g =
        let e : 1 + prefix_len (λ d. not (nat_lt c d)) cs ≡ suc (prefix_len (λ d. not (nat_lt c d)) cs) = omega arith in
        ap (λ k. waits_of (insert (d ∷ cs) k c) (insert (v ∷ ws) k w)) e ∙ ap (λ l. (v.0, d, v.1) ∷ l) g

-- a walk that has kept so many, and what it keeps of the others
abbrev pub kept_from : Entry → ℕ → List ℕ → List (ℕ × ℤ) → List (ℕ × ℕ × ℤ)
kept_from e k cs ws = take k (waits_of cs ws) ++ waits_kept e (drop k (waits_of cs ws))

pub kept_on : (e : Entry) (k : ℕ) (cs : List ℕ) (ws : List (ℕ × ℤ)) (d : ℕ × ℤ) → length cs ≡ length ws → k < length ws → takes e.kind e (get_or ws k d).0 ≡ false → kept_from e (suc k) cs ws ≡ kept_from e k cs ws
kept_on e k [] [] d h lt t = absurd (omega (arith, lt))
kept_on e k [] (w ∷ ws) d h lt t = absurd (omega (arith, h))
kept_on e k (c ∷ cs) [] d h lt t = absurd (omega (arith, h))
kept_on e zero (c ∷ cs) (w ∷ ws) d h lt t =
    sym (ap (λ b. cond (not b) ((w.0, c, w.1) ∷ waits_kept e (waits_of cs ws)) (waits_kept e (waits_of cs ws))) t)
kept_on e (suc k) (c ∷ cs) (w ∷ ws) d h lt t =
    ap (λ l. (w.0, c, w.1) ∷ l) (kept_on e k cs ws d (omega (arith, h)) (omega (arith, lt)) t)

pub kept_less : (e : Entry) (k : ℕ) (cs : List ℕ) (ws : List (ℕ × ℤ)) (d : ℕ × ℤ) → length cs ≡ length ws → k < length ws → takes e.kind e (get_or ws k d).0 ≡ true → kept_from e k (remove cs k) (remove ws k) ≡ kept_from e k cs ws
kept_less e k [] [] d h lt t = absurd (omega (arith, lt))
kept_less e k [] (w ∷ ws) d h lt t = absurd (omega (arith, h))
kept_less e k (c ∷ cs) [] d h lt t = absurd (omega (arith, h))
kept_less e zero (c ∷ cs) (w ∷ ws) d h lt t =
    sym (ap (λ b. cond (not b) ((w.0, c, w.1) ∷ waits_kept e (waits_of cs ws)) (waits_kept e (waits_of cs ws))) t)
kept_less e (suc k) (c ∷ cs) (w ∷ ws) d h lt t =
    ap (λ l. (w.0, c, w.1) ∷ l) (kept_less e k cs ws d (omega (arith, h)) (omega (arith, lt)) t)

pub kept_all : (e : Entry) (k : ℕ) (cs : List ℕ) (ws : List (ℕ × ℤ)) → length cs ≡ length ws → length ws ≤ k → kept_from e k cs ws ≡ waits_of cs ws
kept_all e k [] [] h le = none k
  where
    none : (k : ℕ) → take k [] ++ waits_kept e (drop k []) ≡ []
    none zero = refl
    none (suc k) = refl
kept_all e k [] (w ∷ ws) h le = absurd (omega (arith, h))
kept_all e k (c ∷ cs) [] h le = absurd (omega (arith, h))
kept_all e zero (c ∷ cs) (w ∷ ws) h le = absurd (omega (arith, le))
kept_all e (suc k) (c ∷ cs) (w ∷ ws) h le =
    ap (λ l. (w.0, c, w.1) ∷ l) (kept_all e k cs ws (omega (arith, h)) (omega (arith, le)))

-- one more of the waits from the front on
pub waits_more : (cs : List ℕ) (ws : List (ℕ × ℤ)) (k c : ℕ) (w : ℕ × ℤ) → length cs ≡ length ws → k < length ws → take (suc k) (waits_of cs ws) ≡ take k (waits_of cs ws) ++ ((get_or ws k w).0, get_or cs k c, (get_or ws k w).1) ∷ []
waits_more [] [] k c w h lt = absurd (omega (arith, lt))
waits_more [] (v ∷ ws) k c w h lt = absurd (omega (arith, h))
waits_more (d ∷ cs) [] k c w h lt = absurd (omega (arith, h))
waits_more (d ∷ cs) (v ∷ ws) zero c w h lt = refl
waits_more (d ∷ cs) (v ∷ ws) (suc k) c w h lt =
    ap (λ l. (v.0, d, v.1) ∷ l) (waits_more cs ws k c w (omega (arith, h)) (omega (arith, lt)))

pub waits_all : (cs : List ℕ) (ws : List (ℕ × ℤ)) (k : ℕ) → length cs ≡ length ws → length ws ≤ k → take k (waits_of cs ws) ≡ waits_of cs ws
waits_all [] [] zero h le = refl
waits_all [] [] (suc k) h le = refl
waits_all [] (v ∷ ws) k h le = absurd (omega (arith, h))
waits_all (d ∷ cs) [] k h le = absurd (omega (arith, h))
waits_all (d ∷ cs) (v ∷ ws) zero h le = absurd (omega (arith, le))
waits_all (d ∷ cs) (v ∷ ws) (suc k) h le =
    ap (λ l. (v.0, d, v.1) ∷ l) (waits_all cs ws k (omega (arith, h)) (omega (arith, le)))

-- a wait that was put in its place in both lists
pub wait_put : (c t k : ℕ) (n : ℤ) (cs ds : List ℕ) (ws vs : List (ℕ × ℤ)) → length cs ≡ length ws → k ≡ prefix_len (λ d. not (nat_lt c d)) cs → ds ≡ insert cs k c → vs ≡ insert ws k (t, n) → waits_of ds vs ≡ placed (λ b. b.1) (t, c, n) (waits_of cs ws)
wait_put c t k n cs ds ws vs h e f g =
    ap (λ l. waits_of l vs) f ∙ ap (waits_of (insert cs k c)) g ∙ ap (λ i. waits_of (insert cs i c) (insert ws i (t, n))) e ∙ wait_placed c (t, n) cs ws h

-- what a call answers that has room
pub when_ok : {X : Type 0} (b : Bool) (x y : X) → b ≡ true → cond b x y ≡ x
when_ok b x y h = ap (λ c. cond c x y) h
