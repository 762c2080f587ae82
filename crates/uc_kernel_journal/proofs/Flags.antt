-- Answers that are told by flags.
use Rattle.std.proofs.Common.{◌≡◌, ℕ, zero, suc, ◌<◌, Bool, true, false, cond, List, [], ◌∷◌, Option, Some, None, refl, ap, length, set, get_or, arith}
use Rattle.std.specs.Prelude.{replicate}
use Rattle.uc_entry.specs.declared.request.Answer.{Answer}
use Rattle.uc_entry.specs.declared.request.Answer.TheVariants as answer
use Rattle.uc_kernel_journal.specs.EntryAnswers.{told_by_flags}

pub flags_length : (goes : List Bool) (others : List (Option Answer)) → length (told_by_flags goes others) ≡ length others
unfolding told_by_flags
flags_length [] others = refl
flags_length (b ∷ goes) [] = refl
flags_length (true ∷ goes) (x ∷ others) = ap suc (flags_length goes others)
flags_length (false ∷ goes) (x ∷ others) = ap suc (flags_length goes others)

pub flag_at : (goes : List Bool) (others : List (Option Answer)) (i : ℕ) (d : Option Answer) → i < length goes → i < length others → get_or (told_by_flags goes others) i d ≡ cond (get_or goes i false) (Some answer.Go) (get_or others i d)
unfolding told_by_flags
flag_at [] others i d h g = absurd (omega (arith, h))
flag_at (b ∷ goes) [] i d h g = absurd (omega (arith, g))
flag_at (true ∷ goes) (x ∷ others) zero d h g = refl
flag_at (false ∷ goes) (x ∷ others) zero d h g = refl
flag_at (true ∷ goes) (x ∷ others) (suc i) d h g = flag_at goes others i d (omega (arith, h)) (omega (arith, g))
flag_at (false ∷ goes) (x ∷ others) (suc i) d h g = flag_at goes others i d (omega (arith, h)) (omega (arith, g))

pub flag_set : (goes : List Bool) (others : List (Option Answer)) (i : ℕ) → i < length goes → i < length others → told_by_flags (set goes i true) others ≡ set (told_by_flags goes others) i (Some answer.Go)
unfolding told_by_flags
flag_set [] others i h g = absurd (omega (arith, h))
flag_set (b ∷ goes) [] i h g = absurd (omega (arith, g))
flag_set (true ∷ goes) (x ∷ others) zero h g = refl
flag_set (false ∷ goes) (x ∷ others) zero h g = refl
flag_set (true ∷ goes) (x ∷ others) (suc i) h g = ap (λ l. Some answer.Go ∷ l) (flag_set goes others i (omega (arith, h)) (omega (arith, g)))
flag_set (false ∷ goes) (x ∷ others) (suc i) h g = ap (λ l. x ∷ l) (flag_set goes others i (omega (arith, h)) (omega (arith, g)))

pub other_set : (goes : List Bool) (others : List (Option Answer)) (i : ℕ) (y : Option Answer) → i < length goes → i < length others → told_by_flags (set goes i false) (set others i y) ≡ set (told_by_flags goes others) i y
unfolding told_by_flags
other_set [] others i y h g = absurd (omega (arith, h))
other_set (b ∷ goes) [] i y h g = absurd (omega (arith, g))
other_set (true ∷ goes) (x ∷ others) zero y h g = refl
other_set (false ∷ goes) (x ∷ others) zero y h g = refl
other_set (true ∷ goes) (x ∷ others) (suc i) y h g = ap (λ l. Some answer.Go ∷ l) (other_set goes others i y (omega (arith, h)) (omega (arith, g)))
other_set (false ∷ goes) (x ∷ others) (suc i) y h g = ap (λ l. x ∷ l) (other_set goes others i y (omega (arith, h)) (omega (arith, g)))

pub none_told : (n : ℕ) → told_by_flags (replicate n false) (replicate n None) ≡ replicate n None
unfolding told_by_flags
none_told zero = refl
none_told (suc n) = ap (λ l. None ∷ l) (none_told n)
