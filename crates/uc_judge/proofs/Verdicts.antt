-- A journal gets one answer.
use Rattle.std.proofs.Common.{◌≡◌, ℕ, ◌+◌, ◌<◌, Bool, true, false, [], ◌++◌, refl, sym, ap, ◌∙◌, arith, append_assoc, append-nil}
use Rattle.std.specs.Prelude.{take, drop, nat_lt}
use Rattle.std.proofs.lemmas.Bool.{ltb-true, ltb-false}
use Rattle.std.proofs.lemmas.List.{take-append-drop}
use Rattle.std.proofs.Math.Nat.{le_antisymm}
use Rattle.uc_acts.specs.Journal.{Journal}
use Rattle.uc_judge.specs.declared.verdict.Verdict.{Verdict}
use Rattle.uc_judge.specs.declared.verdict.Verdict.TheVariants.{Yes, No}
use Rattle.uc_judge.specs.Runs.{Cause, IsStart, IsRun, GoesWrong, off, unended, IsVerdict}
use Rattle.uc_judge.specs.Laws.{LawVerdict}

module _ {W : Type 0} (cause : Cause W) (j : Journal) where
  pub part_start : (n : ℕ) → IsStart cause j → IsStart cause (take n j)
  part_start n s =
      let same : j ++ s.rest ≡ take n j ++ (drop n j ++ s.rest) = ap (λ l. l ++ s.rest) (sym (take-append-drop n j)) ∙ append_assoc (take n j) (drop n j) s.rest in
      record { opts = s.opts; in_range = s.in_range; tasks = s.tasks; all = s.all; runs = s.runs; rest = drop n j ++ s.rest; is = s.is ∙ same }

  pub run_start : IsRun cause j → IsStart cause j
  run_start r =
      record { opts = r.opts; in_range = r.in_range; tasks = r.tasks; all = r.all; runs = r.runs; rest = []; is = r.is ∙ sym (append-nil j) }

  not_before : (n m : ℕ) → GoesWrong cause j n → GoesWrong cause j m → n < m → ⊥
  not_before n m (off a b c) (off d e f) lt = c (e (n + 1) (omega (arith, lt)))
  not_before n m (off a b c) (unended d e f) lt = c (part_start (n + 1) e)
  not_before n m (unended a b c) (off d e f) lt = absurd (omega (arith, lt, a, d))
  not_before n m (unended a b c) (unended d e f) lt = absurd (omega (arith, lt, a, d))

  pub not_both : (n : ℕ) → IsRun cause j → GoesWrong cause j n → ⊥
  not_both n r (off a b c) = c (part_start (n + 1) (run_start r))
  not_both n r (unended a b c) = c r

  same_number : (n m : ℕ) → (n < m → ⊥) → (m < n → ⊥) → n ≡ m
  same_number n m f g = by (nat_lt n m) refl (nat_lt m n) refl
    where
      by : (b : Bool) → nat_lt n m ≡ b → (c : Bool) → nat_lt m n ≡ c → n ≡ m
      by true h c i = absurd (f (ltb-true n m h))
      by false h true i = absurd (g (ltb-true m n i))
      by false h false i = le_antisymm (ltb-false m n i) (ltb-false n m h)

  one_answer : (u v : Verdict) → IsVerdict cause j u → IsVerdict cause j v → u ≡ v
  one_answer Yes Yes r s = refl
  one_answer Yes (No n) r s = absurd (not_both n r s)
  one_answer (No n) Yes r s = absurd (not_both n s r)
  one_answer (No n) (No m) r s = ap No (same_number n m (not_before n m r s) (not_before m n s r))

pub law_verdict : {W : Type 0} (cause : Cause W) → LawVerdict cause
law_verdict cause j u v r s = one_answer cause j u v r s
