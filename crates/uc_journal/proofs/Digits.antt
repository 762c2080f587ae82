-- Runs of digits, and the numbers that they write.
use Rattle.std.proofs.Common.{◌≡◌, ℕ, zero, suc, ◌+◌, ◌<◌, ◌≤◌, ◌^◌, Bool, true, false, cond, List, [], ◌∷◌, ◌++◌, length, get_or, take, drop, refl, sym, ◌∙◌, ap, arith, rules, tests}
use Rattle.std.specs.Prelude.{fold, decimal}
use Rattle.std.specs.List.{prefix_len}
use Rattle.std.proofs.lemmas.List.{take_at, drop_at, take-append-drop}
use Rattle.std.proofs.lemmas.List.Folds.{length-prefix_len}
use Rattle.std.proofs.lemmas.Fmt.{digits_decimal, digits_value-decimal, decimal-digits_value, decimal_nonempty, first_decimal, decimal_digit, decimal_injective}
use Rattle.std.proofs.lemmas.Str.Parse.{IsDigitsTest, FoldsDigits, IsNumeralModel, numerals_by_fold}
use Rattle.std.proofs.Math.Numerals.{one-add}
use Rattle.uc_tree.specs.Bytes.{is_digit}
use Rattle.uc_tree.specs.Tokens.{with_digit, value_of}
use Rattle.uc_journal.specs.Fields.{Ends, IsNatural}

abbrev pub Digits : List ℕ → Type 0
Digits [] = Unit {0}
Digits (b ∷ bs) = (is_digit b ≡ true) × Digits bs

-- a run of digits is as long as the digits before an end
pub run_of : (xs rest : List ℕ) → Digits xs → Ends rest → prefix_len is_digit (xs ++ rest) ≡ length xs
run_of [] [] d e = refl
run_of [] (b ∷ bs) d e = rw e refl
run_of (x ∷ xs) rest d e =
    let digit : is_digit x ≡ true = d.0 in
    let more : prefix_len is_digit (xs ++ rest) ≡ length xs = run_of xs rest d.1 e in
    rw digit (omega arith)

-- what the run takes are digits, and what is left ends
taken_if : (b : ℕ) (bs : List ℕ) (d : Bool) → is_digit b ≡ d → Digits (take (prefix_len is_digit bs) bs) → Digits (take (cond d (1 + prefix_len is_digit bs) 0) (b ∷ bs))
taken_if b bs true is more = rw one-add (is, more)
taken_if b bs false is more = tt

pub taken : (bs : List ℕ) → Digits (take (prefix_len is_digit bs) bs)
taken [] = tt
taken (b ∷ bs) = taken_if b bs (is_digit b) refl (taken bs)

left_if : (b : ℕ) (bs : List ℕ) (d : Bool) → is_digit b ≡ d → Ends (drop (prefix_len is_digit bs) bs) → Ends (drop (cond d (1 + prefix_len is_digit bs) 0) (b ∷ bs))
left_if b bs true is more = rw one-add more
left_if b bs false is more = is

pub left : (bs : List ℕ) → Ends (drop (prefix_len is_digit bs) bs)
left [] = tt
left (b ∷ bs) = left_if b bs (is_digit b) refl (left bs)

-- digits before an end are told by the text
pub same_run : (xs ys s t : List ℕ) → Digits xs → Digits ys → Ends s → Ends t → xs ++ s ≡ ys ++ t → (xs ≡ ys) × (s ≡ t)
same_run xs ys s t dx dy es et e =
    let n : length xs ≡ length ys = sym (run_of xs s dx es) ∙ ap (prefix_len is_digit) e ∙ run_of ys t dy et in (
      sym (take_at xs s (length xs) refl) ∙ ap (take (length xs)) e ∙ take_at ys t (length xs) (sym n),
      sym (drop_at xs s (length xs) refl) ∙ ap (drop (length xs)) e ∙ drop_at ys t (length xs) (sym n),
    )

tests_digits : IsDigitsTest Digits
tests_digits = search (rules, tests)

folds : FoldsDigits (fold with_digit)
folds = search rules

pub own : IsNumeralModel Digits (fold with_digit 0)
own = numerals_by_fold Digits tests_digits (fold with_digit) folds

pub digits_of : (n : ℕ) → n < 2 ^ 64 → Digits (decimal n)
digits_of n h = digits_decimal own n h

pub value : (n : ℕ) → n < 2 ^ 64 → value_of (decimal n) ≡ n
value n h = digits_value-decimal own n h

pub decimal_of_value : (ds : List ℕ) → Digits ds → 0 < length ds → (get_or ds 0 0 ≡ 48 → length ds ≡ 1) → value_of ds < 2 ^ 64 → decimal (value_of ds) ≡ ds
decimal_of_value ds d some plain small = decimal-digits_value own ds d some plain small

-- a text begins with one number
pub same_natural : (bs : List ℕ) (m n : ℕ) (s t : List ℕ) → m < 2 ^ 64 → n < 2 ^ 64 → IsNatural bs m s → IsNatural bs n t → (m ≡ n) × (s ≡ t)
same_natural bs m n s t hm hn a b =
    let both = same_run (decimal m) (decimal n) s t (digits_of m hm) (digits_of n hn) a.ends b.ends (sym a.is ∙ b.is) in
    (decimal_injective m n hm hn both.0, both.1)

-- what is found of a text that begins with a number
pub record Begins (bs : List ℕ) (n : ℕ) : Type 0 where
  pub run : prefix_len is_digit bs ≡ length (decimal n)
  pub digits : take (prefix_len is_digit bs) bs ≡ decimal n
  pub some : 0 < prefix_len is_digit bs
  pub plain : get_or bs 0 0 ≡ 48 → prefix_len is_digit bs ≡ 1

get_or_front : (xs rest : List ℕ) → 0 < length xs → get_or (xs ++ rest) 0 0 ≡ get_or xs 0 0
get_or_front [] rest h = absurd (omega (arith, h))
get_or_front (x ∷ xs) rest h = refl

plain_of : (n : ℕ) (rest : List ℕ) → n < 2 ^ 64 → get_or (decimal n ++ rest) 0 0 ≡ 48 → length (decimal n) ≡ 1
plain_of zero rest h e = ap length (decimal_digit 0 (omega arith))
plain_of (suc n) rest h e = absurd (omega (arith, first_decimal (suc n) (omega arith) h, decimal_nonempty (suc n) h, sym e ∙ get_or_front (decimal (suc n)) rest (decimal_nonempty (suc n) h)))

pub begins : (bs : List ℕ) (n : ℕ) (rest : List ℕ) → n < 2 ^ 64 → IsNatural bs n rest → Begins bs n
begins bs n rest h a =
    let run : prefix_len is_digit bs ≡ length (decimal n) = ap (prefix_len is_digit) a.is ∙ run_of (decimal n) rest (digits_of n h) a.ends in
    record {
      run = run;
      digits = rw run (ap (take (length (decimal n))) a.is ∙ take_at (decimal n) rest (length (decimal n)) refl);
      some = rw run (decimal_nonempty n h);
      plain = λ e. run ∙ plain_of n rest h (ap (λ t. get_or t 0 0) (sym a.is) ∙ e);
    }

length_taken : (bs : List ℕ) → length (take (prefix_len is_digit bs) bs) ≡ prefix_len is_digit bs
length_taken bs = length-prefix_len is_digit bs

some_taken : (bs : List ℕ) → 0 < prefix_len is_digit bs → 0 < length (take (prefix_len is_digit bs) bs)
some_taken bs h = rw length_taken h

first_taken : (n : ℕ) (bs : List ℕ) → 0 < n → get_or (take n bs) 0 0 ≡ get_or bs 0 0
first_taken zero bs h = absurd (omega (arith, h))
first_taken (suc n) [] h = refl
first_taken (suc n) (b ∷ bs) h = refl

plain_taken : (bs : List ℕ) → 0 < prefix_len is_digit bs → (get_or bs 0 0 ≡ 48 → prefix_len is_digit bs ≤ 1) → get_or (take (prefix_len is_digit bs) bs) 0 0 ≡ 48 → length (take (prefix_len is_digit bs) bs) ≡ 1
plain_taken bs some plain e =
    let small : prefix_len is_digit bs ≤ 1 = plain (sym (first_taken (prefix_len is_digit bs) bs some) ∙ e) in
    let n : length (take (prefix_len is_digit bs) bs) ≡ prefix_len is_digit bs = length_taken bs in
    omega arith

-- the number of a run of digits
pub natural_of : (bs : List ℕ) (n : ℕ) → 0 < prefix_len is_digit bs → (get_or bs 0 0 ≡ 48 → prefix_len is_digit bs ≤ 1) → value_of (take (prefix_len is_digit bs) bs) ≡ n → n < 2 ^ 64 → IsNatural bs n (drop (prefix_len is_digit bs) bs)
natural_of bs n some plain is small =
    let count = prefix_len is_digit bs in
    let ds = take count bs in
    let d : decimal n ≡ ds = rw (← is) (decimal_of_value ds (taken bs) (some_taken bs some) (plain_taken bs some plain) (rw is small)) in
    record { is = sym (take-append-drop count bs) ∙ ap (λ t. t ++ drop count bs) (sym d); ends = left bs }
