-- Where a comment ends, byte by byte.
use Rattle.std.proofs.Common.{◌≡◌, ℕ, suc, ◌+◌, ◌<◌, ◌≤◌, List, ◌∷◌, true, false, cond, length, get_or, drop, refl, ap, sym, subst, ◌∙◌, drop-cons, add-one, arith}
use Rattle.std.proofs.Math.ListN.{drop_of_length-le}
use Rattle.std.specs.Prelude.{Option, Some, None, codes}
use Rattle.uc_tree.specs.Tokens.{comment_length, one_longer, begins}

abbrev pub longer_by : ℕ → Option ℕ → Option ℕ
longer_by i None = None
longer_by i (Some n) = Some (i + n)

-- no comment ended among the first i bytes
abbrev pub IsPast : ℕ → List ℕ → Type 0
IsPast i rest = comment_length rest ≡ longer_by i (comment_length (drop i rest))

next : (i : ℕ) (o : Option ℕ) → longer_by i (one_longer o) ≡ longer_by (i + 1) o
next i None = refl
next i (Some n) = let e : i + (n + 1) ≡ (i + 1) + n = omega arith in λ j. Some (e j)

comment_length-cons : (xs : List ℕ) (b : ℕ) (ys : List ℕ) → xs ≡ b ∷ ys → comment_length xs ≡ cond (begins xs (codes "*/")) (Some 2) (one_longer (comment_length ys))
unfolding comment_length
comment_length-cons xs b ys e = subst (λ l. comment_length l ≡ cond (begins l (codes "*/")) (Some 2) (one_longer (comment_length ys))) (sym e) refl

at_place : (i : ℕ) (rest : List ℕ) → i < length rest → comment_length (drop i rest) ≡ cond (begins (drop i rest) (codes "*/")) (Some 2) (one_longer (comment_length (drop (suc i) rest)))
at_place i rest h = comment_length-cons (drop i rest) (get_or rest i 0) (drop (suc i) rest) (drop-cons rest i 0 h)

pub past-next : (i : ℕ) (rest : List ℕ) → i < length rest → IsPast i rest → begins (drop i rest) (codes "*/") ≡ false → IsPast (i + 1) rest
past-next i rest h past not_here =
    let passed : comment_length (drop i rest) ≡ one_longer (comment_length (drop (suc i) rest)) = at_place i rest h ∙ ap (λ v. cond v (Some 2) (one_longer (comment_length (drop (suc i) rest)))) not_here in
    past ∙ ap (longer_by i) passed ∙ next i (comment_length (drop (suc i) rest)) ∙ ap (λ k. longer_by (i + 1) (comment_length (drop k rest))) (sym (add-one i))

pub past-found : (i : ℕ) (rest : List ℕ) → i < length rest → IsPast i rest → begins (drop i rest) (codes "*/") ≡ true → comment_length rest ≡ Some (i + 2)
past-found i rest h past here =
    past ∙ ap (longer_by i) (at_place i rest h ∙ ap (λ v. cond v (Some 2) (one_longer (comment_length (drop (suc i) rest)))) here)

pub past-end : (i : ℕ) (rest : List ℕ) → length rest ≤ i → IsPast i rest → comment_length rest ≡ None
unfolding comment_length
past-end i rest h past = past ∙ ap (λ l. longer_by i (comment_length l)) (drop_of_length-le rest h)

pub past-start : (rest : List ℕ) → IsPast 0 rest
past-start rest = same (comment_length rest)
  where
    same : (o : Option ℕ) → o ≡ longer_by 0 o
    same None = refl
    same (Some n) = let e : n ≡ 0 + n = omega arith in λ i. Some (e i)
