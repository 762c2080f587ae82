-- The code of a routine by its number.
use Rattle.std.proofs.Common.{◌≡◌, ℕ, zero, suc, ◌+◌, List, [], ◌∷◌, None, Some, refl, subst, arith}
use Rattle.std.specs.Prelude.{slice_get}
use Rattle.uc_tree.specs.Source.{Routine}
use Rattle.uc_code.specs.declared.rows.RoutineCode.{RoutineCode}
use Rattle.uc_code.specs.Layout.{Laid}
use Rattle.uc_code.specs.Lowered.{RoutineAt, RoutinesAt}
use Rattle.uc_frames.specs.StandsByParts.{Alike}

pub record CodeOf (laid : Laid) (last number : ℕ) (r : Routine) (cs : List RoutineCode) (i : ℕ) : Type 0 where
  pub code : RoutineCode
  pub there : slice_get cs i ≡ Some code
  pub from : ℕ
  pub to : ℕ
  pub at : RoutineAt laid last number r code from to

some_same : {A : Type 0} {x y : A} → Some x ≡ Some y → x ≡ y
some_same e = cc

none_some : {A B : Type 0} {x : A} → None ≡ Some x → B
none_some e = absurd (cc)

shifted_number : (n i : ℕ) → n + 1 + i ≡ n + suc i
shifted_number n i = omega arith

pub routine_from : (laid : Laid) (last n : ℕ) (rs : List Routine) (cs : List RoutineCode) (a z i : ℕ) (r : Routine) → RoutinesAt laid last n rs cs a z → slice_get rs i ≡ Some r → CodeOf laid last (n + i) r cs i
routine_from laid last n [] [] a z i r h e = none_some e
routine_from laid last n [] (c ∷ cs) a z i r h e = absurd h
routine_from laid last n (q ∷ rs) [] a z i r h e = absurd h
routine_from laid last n (q ∷ rs) (c ∷ cs) a z zero r h e =
    let f : n ≡ n + 0 = omega arith in
    record { code = c; there = refl; from = a; to = h.middle; at = subst (λ k. RoutineAt laid last k r c a h.middle) f (subst (λ s. RoutineAt laid last n s c a h.middle) (some_same e) h.first) }
routine_from laid last n (q ∷ rs) (c ∷ cs) a z (suc i) r h e =
    let o = routine_from laid last (n + 1) rs cs h.middle z i r h.second e in
    record { code = o.code; there = o.there; from = o.from; to = o.to; at = subst (λ k. RoutineAt laid last k r o.code o.from o.to) (shifted_number n i) o.at }

pub routine_at : (laid : Laid) (last : ℕ) (rs : List Routine) (cs : List RoutineCode) (a z i : ℕ) (r : Routine) → RoutinesAt laid last 0 rs cs a z → slice_get rs i ≡ Some r → CodeOf laid last i r cs i
routine_at laid last rs cs a z i r h e =
    let f : 0 + i ≡ i = omega arith in
    subst (λ k. CodeOf laid last k r cs i) f (routine_from laid last 0 rs cs a z i r h e)

-- so each routine has its code, and nothing else has
pub record Stood (laid : Laid) (last number : ℕ) (c : RoutineCode) (r : Routine) : Type 0 where
  pub from : ℕ
  pub to : ℕ
  pub at : RoutineAt laid last number r c from to

alike_from : (laid : Laid) (last n : ℕ) (rs : List Routine) (cs : List RoutineCode) (a z i : ℕ) → RoutinesAt laid last n rs cs a z → Alike (Stood laid last (n + i)) (slice_get cs i) (slice_get rs i)
alike_from laid last n [] [] a z i h = tt
alike_from laid last n [] (c ∷ cs) a z i h = absurd h
alike_from laid last n (r ∷ rs) [] a z i h = absurd h
alike_from laid last n (r ∷ rs) (c ∷ cs) a z zero h = let f : n ≡ n + 0 = omega arith in record { from = a; to = h.middle; at = subst (λ k. RoutineAt laid last k r c a h.middle) f h.first }
alike_from laid last n (r ∷ rs) (c ∷ cs) a z (suc i) h = subst (λ k. Alike (Stood laid last k) (slice_get cs i) (slice_get rs i)) (shifted_number n i) (alike_from laid last (n + 1) rs cs h.middle z i h.second)

pub routines_alike : (laid : Laid) (last : ℕ) (rs : List Routine) (cs : List RoutineCode) (a z i : ℕ) → RoutinesAt laid last 0 rs cs a z → Alike (Stood laid last i) (slice_get cs i) (slice_get rs i)
routines_alike laid last rs cs a z i h =
    let f : 0 + i ≡ i = omega arith in
    subst (λ k. Alike (Stood laid last k) (slice_get cs i) (slice_get rs i)) f (alike_from laid last 0 rs cs a z i h)
