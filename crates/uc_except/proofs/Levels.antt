-- Activations from the newest on, by how many are below them.
use Rattle.std.proofs.Common.{◌≡◌, ℕ, zero, suc, ◌+◌, ◌-◌, ◌<◌, ◌≤◌, List, [], ◌∷◌, length, drop, Option, Some, None, Bool, true, false, refl, sym, ap, ◌∙◌, arith}
use Rattle.std.specs.Prelude.{nat_eq, if◌then◌else◌}
use Rattle.std.proofs.lemmas.Bool.{eq-eqb}
use Rattle.std.proofs.lemmas.List.{length-drop}
use Rattle.uc_machine.specs.Executions.{at_depth}
use Rattle.uc_machine.specs.declared.exec.Visited.{Visited}
use Rattle.uc_code.specs.declared.rows.HandlerRow.{HandlerRow}
use Rattle.uc_frames.specs.Machine.{Activation}
use Rattle.uc_except.specs.declared.found.Found.TheVariants.{Handler, None as Nowhere}
use Rattle.uc_except.specs.RowSearch.{found_at, caught, resumed, catch_in, resumption_in, resumed_from, handles_in}

-- the oldest, so many of them
abbrev pub oldest : {X : Type 0} → ℕ → List X → List X
oldest k xs = drop (length xs - k) xs

module _ {X : Type 0} where
  pub oldest_all : (xs : List X) (k : ℕ) → length xs ≤ k → oldest k xs ≡ xs
  oldest_all xs k l = let e : length xs - k ≡ 0 = omega arith in rw e refl

  pub oldest_none : (xs : List X) → oldest 0 xs ≡ []
  oldest_none [] = refl
  oldest_none (x ∷ xs) =
      let e : suc (length xs) - 0 ≡ suc (length xs - 0) = omega arith in
      ap (λ n. drop n (x ∷ xs)) e ∙ oldest_none xs

  pub oldest_past : (x : X) (xs : List X) (k : ℕ) → k ≤ length xs → oldest k (x ∷ xs) ≡ oldest k xs
  oldest_past x xs k l =
      let e : suc (length xs) - k ≡ suc (length xs - k) = omega arith in
      ap (λ n. drop n (x ∷ xs)) e

  pub oldest_count : (xs : List X) (k : ℕ) → k ≤ length xs → length (oldest k xs) ≡ k
  oldest_count xs k l = omega (arith, length-drop (length xs - k) xs)

  -- the one with d below it stands before those
  here_by : (b : Bool) (x a : X) (xs : List X) (d : ℕ) → nat_eq d (length xs) ≡ b → (at_depth xs d ≡ Some a → oldest (suc d) xs ≡ a ∷ oldest d xs) → (at_depth xs d ≡ Some a → d < length xs) → (if b then Some x else at_depth xs d) ≡ Some a → oldest (suc d) (x ∷ xs) ≡ a ∷ oldest d (x ∷ xs)
  here_by true x a xs d q f g e =
      let n : d ≡ length xs = grind (arith, q) in
      let y : x ≡ a = cc in
      oldest_all (x ∷ xs) (suc d) (omega arith) ∙ (ap (λ z. z ∷ xs) y ∙ ap (λ zs. a ∷ zs) (sym (oldest_past x xs d (omega arith) ∙ oldest_all xs d (omega arith))))
  here_by false x a xs d q f g e =
      oldest_past x xs (suc d) (g e) ∙ (f e ∙ ap (λ zs. a ∷ zs) (sym (oldest_past x xs d (let l = g e in omega arith))))

  within_by : (b : Bool) (x a : X) (xs : List X) (d : ℕ) → nat_eq d (length xs) ≡ b → (at_depth xs d ≡ Some a → d < length xs) → (if b then Some x else at_depth xs d) ≡ Some a → d < suc (length xs)
  within_by true x a xs d q f e = let n : d ≡ length xs = grind (arith, q) in omega arith
  within_by false x a xs d q f e = let l = f e in omega arith

  pub depth_within : (xs : List X) (d : ℕ) (a : X) → at_depth xs d ≡ Some a → d < length xs
  depth_within [] d a e = absurd (cc)
  depth_within (x ∷ xs) d a e = within_by (nat_eq d (length xs)) x a xs d refl (depth_within xs d a) e

  pub here : (xs : List X) (d : ℕ) (a : X) → at_depth xs d ≡ Some a → oldest (suc d) xs ≡ a ∷ oldest d xs
  here [] d a e = absurd (cc)
  here (x ∷ xs) d a e = here_by (nat_eq d (length xs)) x a xs d refl (here xs d a) (depth_within xs d a) e

  none_by : (b : Bool) (x : X) (xs : List X) (d : ℕ) → nat_eq d (length xs) ≡ b → (at_depth xs d ≡ None → length xs ≤ d) → (if b then Some x else at_depth xs d) ≡ None → suc (length xs) ≤ d
  none_by true x xs d q f e = absurd (cc)
  none_by false x xs d q f e =
      let l = f e in
      let n : d ≡ length xs → ⊥ = λ h. let t : nat_eq d (length xs) ≡ true = eq-eqb d (length xs) h in absurd (cc) in
      grind (arith, n)

  pub depth_none : (xs : List X) (d : ℕ) → at_depth xs d ≡ None → length xs ≤ d
  depth_none [] d e = omega arith
  depth_none (x ∷ xs) d e = none_by (nat_eq d (length xs)) x xs d refl (depth_none xs d) e

  drop_nil : (k : ℕ) → drop {A = X} k [] ≡ []
  drop_nil zero = refl
  drop_nil (suc k) = refl

  drop_drop : (m n : ℕ) (xs : List X) → drop m (drop n xs) ≡ drop (n + m) xs
  drop_drop m zero xs = let e : 0 + m ≡ m = omega arith in rw e refl
  drop_drop m (suc n) [] = drop_nil m ∙ sym (drop_nil (suc n + m))
  drop_drop m (suc n) (x ∷ xs) = let e : suc n + m ≡ suc (n + m) = omega arith in rw e (drop_drop m n xs)

  pub oldest_again : (xs : List X) (j k : ℕ) → j ≤ k → k ≤ length xs → oldest j (oldest k xs) ≡ oldest j xs
  oldest_again xs j k l m =
      let e : length (oldest k xs) ≡ k = oldest_count xs k m in
      let f : (length xs - k) + (k - j) ≡ length xs - j = omega arith in
      ap (λ n. drop (n - j) (oldest k xs)) e ∙ (drop_drop (k - j) (length xs - k) xs ∙ ap (λ n. drop n xs) f)

module _ (rows : List HandlerRow) (e : ℕ) where
  -- the first ones that catch an event
  pub caught_here : (acts : List Activation) (d row : ℕ) (a : Activation) → at_depth acts d ≡ Some a → catch_in rows e (Some a) ≡ Some row → caught rows e (oldest (suc d) acts) ≡ Handler d row
  caught_here acts d row a h f =
      let l = depth_within acts d a h in
      let n : length (oldest d acts) ≡ d = oldest_count acts d (omega arith) in
      ap (caught rows e) (here acts d a h) ∙ (ap (λ o. found_at o (length (oldest d acts)) (caught rows e (oldest d acts))) f ∙ ap (λ z. Handler z row) n)

  pub caught_on : (acts : List Activation) (d : ℕ) (a : Activation) → at_depth acts d ≡ Some a → catch_in rows e (Some a) ≡ None → caught rows e (oldest (suc d) acts) ≡ caught rows e (oldest d acts)
  caught_on acts d a h f =
      ap (caught rows e) (here acts d a h) ∙ ap (λ o. found_at o (length (oldest d acts)) (caught rows e (oldest d acts))) f

  -- resumptions
  from_by : (rest : Option ℕ) (a : Activation) (acts : List Activation) → resumed_from rows rest e (a ∷ acts) ≡ found_at (resumption_in rows rest e (Some a)) (length acts) (resumed rows a.handles e acts)
  from_by None a acts = refl
  from_by (Some r) a acts = refl

  pub resumed_here : (acts : List Activation) (d row : ℕ) (rest : Option ℕ) (a : Activation) → at_depth acts d ≡ Some a → resumption_in rows rest e (Some a) ≡ Some row → resumed_from rows rest e (oldest (suc d) acts) ≡ Handler d row
  resumed_here acts d row rest a h f =
      let l = depth_within acts d a h in
      let n : length (oldest d acts) ≡ d = oldest_count acts d (omega arith) in
      ap (resumed_from rows rest e) (here acts d a h) ∙ (from_by rest a (oldest d acts) ∙ (ap (λ o. found_at o (length (oldest d acts)) (resumed rows a.handles e (oldest d acts))) f ∙ ap (λ z. Handler z row) n))

  pub resumed_on : (acts : List Activation) (d : ℕ) (rest : Option ℕ) (a : Activation) → at_depth acts d ≡ Some a → resumption_in rows rest e (Some a) ≡ None → resumed_from rows rest e (oldest (suc d) acts) ≡ resumed rows a.handles e (oldest d acts)
  resumed_on acts d rest a h f =
      ap (resumed_from rows rest e) (here acts d a h) ∙ (from_by rest a (oldest d acts) ∙ ap (λ o. found_at o (length (oldest d acts)) (resumed rows a.handles e (oldest d acts))) f)

  -- behind an activation that handles a resumption the search goes on at one level
  further_by : (b : Bool) (v : Visited) (a : Activation) (acts : List Activation) → nat_eq (length acts) v.level ≡ b → (v.level < length acts → resumed rows (Some v) e acts ≡ resumed_from rows (Some v.rest) e (oldest (suc v.level) acts)) → v.level < suc (length acts) → resumed rows (Some v) e (a ∷ acts) ≡ resumed_from rows (Some v.rest) e (oldest (suc v.level) (a ∷ acts))
  further_by true v a acts q f l =
      let n : length acts ≡ v.level = grind (arith, q) in
      let o : oldest (suc v.level) (a ∷ acts) ≡ a ∷ acts = oldest_all (a ∷ acts) (suc v.level) (omega arith) in
      rw (q, o) refl
  further_by false v a acts q f l =
      let n : length acts ≡ v.level → ⊥ = λ h. let t : nat_eq (length acts) v.level ≡ true = eq-eqb (length acts) v.level h in absurd (cc) in
      let k : v.level < length acts = grind (arith, n) in
      let o : oldest (suc v.level) (a ∷ acts) ≡ oldest (suc v.level) acts = oldest_past a acts (suc v.level) (omega arith) in
      rw (q, o) (f k)

  pub further : (v : Visited) (acts : List Activation) → v.level < length acts → resumed rows (Some v) e acts ≡ resumed_from rows (Some v.rest) e (oldest (suc v.level) acts)
  further v [] l = absurd (omega arith)
  further v (a ∷ acts) l = further_by (nat_eq (length acts) v.level) v a acts refl (further v acts) l

  nowhere_by : (b : Bool) (v : Visited) (a : Activation) (acts : List Activation) → nat_eq (length acts) v.level ≡ b → suc (length acts) ≤ v.level → resumed rows (Some v) e acts ≡ Nowhere → resumed rows (Some v) e (a ∷ acts) ≡ Nowhere
  nowhere_by true v a acts q l f = let n : length acts ≡ v.level = grind (arith, q) in absurd (omega arith)
  nowhere_by false v a acts q l f = rw q f

  pub nowhere : (v : Visited) (acts : List Activation) → length acts ≤ v.level → resumed rows (Some v) e acts ≡ Nowhere
  nowhere v [] l = refl
  nowhere v (a ∷ acts) l = nowhere_by (nat_eq (length acts) v.level) v a acts refl l (nowhere v acts (omega arith))

  -- the steps of the loops

  module _ (acts : List Activation) (d : ℕ) (l : d < length acts) where
    caught_step_by : (o : Option Activation) → at_depth acts d ≡ o → catch_in rows e o ≡ None → caught rows e (oldest (suc d) acts) ≡ caught rows e (oldest d acts)
    caught_step_by None q f = let k = depth_none acts d q in absurd (omega arith)
    caught_step_by (Some a) q f = caught_on acts d a q f

    pub caught_step : catch_in rows e (at_depth acts d) ≡ None → caught rows e (oldest (suc d) acts) ≡ caught rows e (oldest d acts)
    caught_step f = caught_step_by (at_depth acts d) refl f

    from_none : (xs : List Activation) → resumed rows None e xs ≡ resumed_from rows None e xs
    from_none [] = refl
    from_none (x ∷ xs) = refl

    resumed_step_by : (o : Option Activation) (rest : Option ℕ) → at_depth acts d ≡ o → resumption_in rows rest e o ≡ None → resumed_from rows rest e (oldest (suc d) acts) ≡ resumed rows (handles_in o) e (oldest d acts)
    resumed_step_by None rest q f = let k = depth_none acts d q in absurd (omega arith)
    resumed_step_by (Some a) rest q f = resumed_on acts d rest a q f

    resumed_step : (rest : Option ℕ) → resumption_in rows rest e (at_depth acts d) ≡ None → resumed_from rows rest e (oldest (suc d) acts) ≡ resumed rows (handles_in (at_depth acts d)) e (oldest d acts)
    resumed_step rest f = resumed_step_by (at_depth acts d) rest refl f

    pub resumed_past : (rest : Option ℕ) → resumption_in rows rest e (at_depth acts d) ≡ None → handles_in (at_depth acts d) ≡ None → resumed_from rows rest e (oldest (suc d) acts) ≡ resumed_from rows None e (oldest d acts)
    resumed_past rest f q = resumed_step rest f ∙ (ap (λ o. resumed rows o e (oldest d acts)) q ∙ from_none (oldest d acts))

    pub resumed_further : (rest : Option ℕ) (v : Visited) → resumption_in rows rest e (at_depth acts d) ≡ None → handles_in (at_depth acts d) ≡ Some v → v.level < d → resumed_from rows rest e (oldest (suc d) acts) ≡ resumed_from rows (Some v.rest) e (oldest (suc v.level) acts)
    resumed_further rest v f q k =
        let n : length (oldest d acts) ≡ d = oldest_count acts d (omega arith) in
        resumed_step rest f
        ∙ (ap (λ o. resumed rows o e (oldest d acts)) q
        ∙ (further v (oldest d acts) (omega arith) ∙ ap (resumed_from rows (Some v.rest) e) (oldest_again acts (suc v.level) d (omega arith) (omega arith))))

    pub resumed_nowhere : (rest : Option ℕ) (v : Visited) → resumption_in rows rest e (at_depth acts d) ≡ None → handles_in (at_depth acts d) ≡ Some v → d ≤ v.level → resumed_from rows rest e (oldest (suc d) acts) ≡ Nowhere
    resumed_nowhere rest v f q k =
        let n : length (oldest d acts) ≡ d = oldest_count acts d (omega arith) in
        resumed_step rest f ∙ (ap (λ o. resumed rows o e (oldest d acts)) q ∙ nowhere v (oldest d acts) (omega arith))

  caught_found_by : (acts : List Activation) (d row : ℕ) (o : Option Activation) → at_depth acts d ≡ o → catch_in rows e o ≡ Some row → caught rows e (oldest (suc d) acts) ≡ Handler d row
  caught_found_by acts d row None q f = absurd (cc)
  caught_found_by acts d row (Some a) q f = caught_here acts d row a q f

  pub caught_found : (acts : List Activation) (d row : ℕ) → catch_in rows e (at_depth acts d) ≡ Some row → caught rows e (oldest (suc d) acts) ≡ Handler d row
  caught_found acts d row f = caught_found_by acts d row (at_depth acts d) refl f

  resumed_found_by : (acts : List Activation) (d row : ℕ) (rest : Option ℕ) (o : Option Activation) → at_depth acts d ≡ o → resumption_in rows rest e o ≡ Some row → resumed_from rows rest e (oldest (suc d) acts) ≡ Handler d row
  resumed_found_by acts d row None None q f = absurd (cc)
  resumed_found_by acts d row (Some n) None q f = absurd (cc)
  resumed_found_by acts d row rest (Some a) q f = resumed_here acts d row rest a q f

  pub resumed_found : (acts : List Activation) (d row : ℕ) (rest : Option ℕ) → resumption_in rows rest e (at_depth acts d) ≡ Some row → resumed_from rows rest e (oldest (suc d) acts) ≡ Handler d row
  resumed_found acts d row rest f = resumed_found_by acts d row rest (at_depth acts d) refl f

  all_by : (acts : List Activation) → resumed_from rows None e acts ≡ resumed rows None e acts
  all_by [] = refl
  all_by (a ∷ acts) = refl

  pub resumed_all : (acts : List Activation) (k : ℕ) → length acts ≤ k → resumed_from rows None e (oldest k acts) ≡ resumed rows None e acts
  resumed_all acts k l = ap (resumed_from rows None e) (oldest_all acts k l) ∙ all_by acts
