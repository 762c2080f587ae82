-- Lists of items, each with the number of its maker.
use Rattle.std.specs.Prelude.{◌≡◌, ℕ, ◌<◌, ◌==◌, List, ◌++◌}
use Rattle.std.specs.List.{All, filter}

-- the list ys begins with xs
abbrev pub Begins : {A : Type 0} → List A → List A → Type 0
Begins {A} xs ys = (rest : List A) × (ys ≡ xs ++ rest)

-- the items of the maker n, in their order
abbrev pub made_by : {I : Type 0} → ℕ → List (I × ℕ) → List (I × ℕ)
made_by n es = filter (λ e. e.1 == n) es

-- ys is xs and then items of the maker n alone
abbrev pub Extends : {I : Type 0} → ℕ → List (I × ℕ) → List (I × ℕ) → Type 0
Extends {I} n xs ys = (rest : List (I × ℕ)) × (ys ≡ xs ++ rest) × All (λ e. e.1 ≡ n) rest

-- ys is xs and then items whose makers are below n
abbrev pub GrownBelow : {I : Type 0} → ℕ → List (I × ℕ) → List (I × ℕ) → Type 0
GrownBelow {I} n xs ys = (rest : List (I × ℕ)) × (ys ≡ xs ++ rest) × All (λ e. e.1 < n) rest
