-- Names as lists of bytes.
use Rattle.std.specs.Prelude.{ℕ, List, codes, Bool, nat_eq}
use Rattle.std.specs.Cmp.Lexicographic.{pointwise}

abbrev pub same_name : List ℕ → List ℕ → Bool
same_name = pointwise nat_eq

-- the member of `cin` that tells whether a read failed
abbrev pub fail_name : List ℕ
fail_name = codes "fail"
