-- The guards of an accept statement as bits.
use Rattle.std.proofs.Common.{◌≡◌, ℕ, zero, suc, ◌+◌, ◌*◌, ◌^◌, ◌<◌, ◌≤◌, arith, List, [], ◌∷◌, Bool, true, false, refl, ap, subst, ◌∙◌, drop}
use Rattle.std.specs.Prelude.{if◌then◌else◌}
use native.Mathlib.Numerals.{unary_clauses}
use Rattle.uc_machine.specs.Executions.{others, first_or, take_operands}
use Rattle.uc_frames.specs.declared.cell.Cell.{Cell}
use Rattle.uc_frames.specs.declared.cell.Cell.TheVariants.{Nothing}
use Rattle.uc_machine.specs.Pieces.{is_zero}
use Rattle.uc_frames.specs.Machine.{top, below, cell_number}
use Rattle.uc_frames.specs.Objects.{guard_bit, mask_of}

drop_none : (n : ℕ) → (let cs : List Cell = drop n [] in cs) ≡ []
drop_none zero = refl
drop_none (suc n) = refl

drop_others : (n : ℕ) (cs : List Cell) → drop n (others cs) ≡ drop (suc n) cs
drop_others n [] = drop_none n
drop_others n (c ∷ cs) = refl

top_is : (cs : List Cell) → first_or Nothing cs ≡ top cs
top_is [] = refl
top_is (c ∷ cs) = refl

-- one more is taken in front of the others
taken_more : (n : ℕ) (cs ds : List Cell) → take_operands Nothing (suc n) cs ds ≡ top (drop n cs) ∷ take_operands Nothing n cs ds
taken_more zero cs ds = ap (λ c. c ∷ ds) (top_is cs)
taken_more (suc n) cs ds = taken_more n (others cs) (first_or Nothing cs ∷ ds) ∙ ap (λ es. top es ∷ take_operands Nothing n (others cs) (first_or Nothing cs ∷ ds)) (drop_others n cs)

bit_few : (b : Bool) → (if b then 0 else 1) ≤ 1
bit_few true = omega arith
bit_few false = omega arith

double : (n : ℕ) → 2 ^ (n + 1) ≡ 2 * 2 ^ n
double n = simp unary_clauses (omega arith)

-- so many guards are reckoned
pub record Masked (count mask : ℕ) (cs : List Cell) : Type 0 where
  pub value : mask ≡ mask_of (take_operands Nothing count cs [])
  pub few : mask < 2 ^ count

pub masks_none : (cs : List Cell) → Masked 0 0 cs
masks_none cs = record { value = refl; few = omega arith }

-- one more
pub masks_more : (count mask bit : ℕ) (cs : List Cell) → Masked count mask cs → bit ≡ guard_bit (top (drop count cs)) → Masked (count + 1) (mask * 2 + bit) cs
masks_more count mask bit cs h b =
    let next : suc count ≡ count + 1 = omega arith in
    let all : mask_of (take_operands Nothing (suc count) cs []) ≡ guard_bit (top (drop count cs)) + 2 * mask_of (take_operands Nothing count cs []) = ap mask_of (taken_more count cs []) in
    let v = h.value in
    let few = h.few in
    let one = bit_few (is_zero (cell_number (top (drop count cs)))) in
    let d = double count in
    record { value = subst (λ k. mask * 2 + bit ≡ mask_of (take_operands Nothing k cs [])) next (omega arith); few = omega arith }

-- the event below the newest operand

pub below_one : (cs : List Cell) → top (drop 1 cs) ≡ top (below cs)
below_one [] = refl
below_one (c ∷ cs) = refl

pub below_two : (cs : List Cell) → top (drop 2 cs) ≡ top (below (below cs))
below_two [] = refl
below_two (c ∷ []) = refl
below_two (c ∷ (d ∷ cs)) = refl

pub below_three : (cs : List Cell) → top (drop 3 cs) ≡ top (below (below (below cs)))
below_three [] = refl
below_three (c ∷ []) = refl
below_three (c ∷ (d ∷ [])) = refl
below_three (c ∷ (d ∷ (e ∷ cs))) = refl
