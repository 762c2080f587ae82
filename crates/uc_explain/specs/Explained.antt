-- The lines that explain a journal at one object: one for each entry that changes what stands there.
use Rattle.std.specs.Prelude.{ℕ, Bool, true, false, List, [], ◌∷◌, ◌++◌, Option, Some, None, length, codes, decimal}
use Rattle.std.specs.List.{flat_map}
use Rattle.uc_acts.specs.Journal.{Journal}
use Rattle.uc_acts.specs.Queues.{successor}
use Rattle.uc_explain.specs.Shown.{Shown, shown, is_same}

-- two numbers with a byte between them
abbrev pub joined : ℕ → ℕ → ℕ → List ℕ
joined byte m n = decimal m ++ byte ∷ decimal n

-- `m:n`, and `m/n`
abbrev pub colon : ℕ × ℕ → List ℕ
colon p = joined 58 p.0 p.1

abbrev pub slash : ℕ × ℕ → List ℕ
slash p = joined 47 p.0 p.1

-- items parted by spaces, or `-` where there is none
abbrev pub parted : {A : Type 0} → (A → List ℕ) → List A → List ℕ
parted item [] = codes "-"
parted item (x ∷ xs) = item x ++ flat_map (λ y. 32 ∷ item y) xs

abbrev pub maybe : {A : Type 0} → (A → List ℕ) → Option A → List ℕ
maybe item None = codes "-"
maybe item (Some x) = item x

-- the line of the entry with this number, after which this stands at the object
abbrev pub line : ℕ → Shown → List ℕ
line n s =
    decimal n
    ++ codes ": inside " ++ parted decimal s.inside
    ++ codes "; waiting " ++ parted colon s.waiting
    ++ codes "; stacked " ++ parted decimal s.stacked
    ++ codes "; blocked " ++ parted (λ b. colon (b.1, b.0)) s.blocked
    ++ codes "; open " ++ maybe colon s.accepting
    ++ codes "; next " ++ maybe slash (successor s.stacked s.waiting)
    ++ 10 ∷ []

-- a line, unless nothing has changed
abbrev pub line_unless : Bool → ℕ → Shown → List ℕ
line_unless true n s = []
line_unless false n s = line n s

-- the lines of the entries that stand behind those before
abbrev pub lines_behind : ℕ → Journal → Journal → List ℕ
lines_behind o before [] = []
lines_behind o before (e ∷ later) =
    line_unless (is_same (shown o before) (shown o (before ++ e ∷ []))) (length before) (shown o (before ++ e ∷ []))
    ++ lines_behind o (before ++ e ∷ []) later

-- the lines of a journal at object o
abbrev pub explained : ℕ → Journal → List ℕ
explained o j = lines_behind o [] j
