-- A list with more of one value behind it, when more of them are written and one is set.
use Rattle.std.proofs.Common.{◌≡◌, ℕ, ◌+◌, ◌-◌, ◌<◌, ◌≤◌, List, ◌++◌, replicate, length, set, sym, ap, ◌∙◌, arith, length-append, length-set, append_assoc}
use Rattle.std.proofs.lemmas.List.{length-replicate, replicate-append-replicate, set-append_left}
use Rattle.uc_table.specs.Padded.{padded}

same : {A : Type 0} → (n : ℕ) (b : A) (xs ys : List A) (k : ℕ) → ys ≡ xs ++ replicate k b → length ys ≤ n → ys ++ replicate (n - length ys) b ≡ padded n b xs
same n b xs ys k is room =
    let size : length ys ≡ length xs + k = ap length is ∙ length-append xs (replicate k b) ∙ ap (λ m. length xs + m) (length-replicate k b) in
    let left : k + (n - length ys) ≡ n - length xs = omega arith in
    ap (λ zs. zs ++ replicate (n - length ys) b) is ∙ append_assoc xs (replicate k b) (replicate (n - length ys) b) ∙ ap (λ zs. xs ++ zs) (replicate-append-replicate k (n - length ys) b ∙ ap (λ m. replicate m b) left)

pub set_padded : {A : Type 0} → (n : ℕ) (b : A) (xs ys : List A) (k i : ℕ) (v : A) → ys ≡ xs ++ replicate k b → length ys ≤ n → i < length ys → padded n b (set ys i v) ≡ set (padded n b xs) i v
set_padded n b xs ys k i v is room lt =
    ap (λ m. set ys i v ++ replicate (n - m) b) (length-set ys i v) ∙ sym (set-append_left ys (replicate (n - length ys) b) i v lt) ∙ ap (λ zs. set zs i v) (same n b xs ys k is room)
