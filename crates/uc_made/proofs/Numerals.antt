-- The digits of a number, and what is found at them in a text.
use Rattle.std.proofs.Common.{◌≡◌, ℕ, zero, suc, ◌+◌, ◌-◌, ◌<◌, ◌≤◌, ◌^◌, Bool, true, false, List, [], ◌∷◌, ◌++◌, length, get_or, take, refl, sym, ◌∙◌, ap, subst, arith, rules, tests, leb-true, le-ltb, ne_eqb, true≢false}
use Rattle.std.specs.Prelude.{fold, ◌&&◌, ◌==◌, nat_eq, nat_le, nat_lt, if◌then◌else◌, pos, decimal, codes, slice_index, Option, Some, None}
use Rattle.std.specs.List.{prefix_len}
use Rattle.std.proofs.lemmas.List.{take_at}
use Rattle.std.proofs.lemmas.Fmt.{decimal_nonempty, digits_decimal, digits_value-decimal, first_decimal, length-decimal-le}
use Rattle.std.proofs.lemmas.Str.Parse.{IsDigitsTest, FoldsDigits, IsNumeralModel, numerals_by_fold}
use Rattle.uc_tree.specs.declared.limits.TheConstants.{NAME_BYTES, NUMBER_MAX}
use Rattle.uc_tree.specs.declared.token.TokenKind.TheVariants.{Name, Number}
use Rattle.uc_tree.specs.declared.token.Word.{Word}
use Rattle.uc_tree.specs.declared.scan.Lexeme.TheVariants.{Skip, Take, Stop}
use Rattle.uc_tree.specs.declared.scan.LexicalFault.TheVariants.{BadByte, NumberTooWide}
use Rattle.uc_tree.specs.Bytes.{is_white, is_letter, is_digit, is_name_byte}
use Rattle.uc_tree.specs.Tokens.{begins, word_of, word_or_name, name_at, number_at, value_of, with_digit, found_at}

-- what the lexer asks of a byte, where it is a digit
pub record IsDigitByte (b : ℕ) : Type 0 where
  pub digit : is_digit b ≡ true
  pub white : is_white b ≡ false
  pub hash : (b == 35) ≡ false
  pub letter : is_letter b ≡ false
  pub name : is_name_byte b ≡ true
  pub no_h : nat_eq b 104 ≡ false

tenth : (j : ℕ) → j < 10 → IsDigitByte (48 + j)
tenth zero h = record { digit = refl; white = refl; hash = refl; letter = refl; name = refl; no_h = refl }
tenth (suc zero) h = record { digit = refl; white = refl; hash = refl; letter = refl; name = refl; no_h = refl }
tenth (suc (suc zero)) h = record { digit = refl; white = refl; hash = refl; letter = refl; name = refl; no_h = refl }
tenth (suc (suc (suc zero))) h = record { digit = refl; white = refl; hash = refl; letter = refl; name = refl; no_h = refl }
tenth (suc (suc (suc (suc zero)))) h = record { digit = refl; white = refl; hash = refl; letter = refl; name = refl; no_h = refl }
tenth (suc (suc (suc (suc (suc zero))))) h = record { digit = refl; white = refl; hash = refl; letter = refl; name = refl; no_h = refl }
tenth (suc (suc (suc (suc (suc (suc zero)))))) h = record { digit = refl; white = refl; hash = refl; letter = refl; name = refl; no_h = refl }
tenth (suc (suc (suc (suc (suc (suc (suc zero))))))) h = record { digit = refl; white = refl; hash = refl; letter = refl; name = refl; no_h = refl }
tenth (suc (suc (suc (suc (suc (suc (suc (suc zero)))))))) h = record { digit = refl; white = refl; hash = refl; letter = refl; name = refl; no_h = refl }
tenth (suc (suc (suc (suc (suc (suc (suc (suc (suc zero))))))))) h = record { digit = refl; white = refl; hash = refl; letter = refl; name = refl; no_h = refl }
tenth (suc (suc (suc (suc (suc (suc (suc (suc (suc (suc j)))))))))) h = absurd (omega (arith, h))

and_first : (s t : Bool) → (s && t) ≡ true → s ≡ true
and_first true t h = refl
and_first false t h = h

and_second : (s t : Bool) → (s && t) ≡ true → t ≡ true
and_second true t h = h
and_second false t h = absurd (true≢false (sym h))

pub digit_byte : (b : ℕ) → is_digit b ≡ true → IsDigitByte b
digit_byte b h =
    let low : 48 ≤ b = leb-true 48 b (and_first (nat_le 48 b) (nat_le b 57) h) in
    let high : b ≤ 57 = leb-true b 57 (and_second (nat_le 48 b) (nat_le b 57) h) in
    let same : 48 + (b - 48) ≡ b = omega (arith, low) in
    subst IsDigitByte same (tenth (b - 48) (omega (arith, high)))

-- runs of digits

abbrev pub Digits : List ℕ → Type 0
Digits [] = Unit {0}
Digits (b ∷ bs) = (is_digit b ≡ true) × Digits bs

tests_digits : IsDigitsTest Digits
tests_digits = search (rules, tests)

folds : FoldsDigits (fold with_digit)
folds = search rules

own : IsNumeralModel Digits (fold with_digit 0)
own = numerals_by_fold Digits tests_digits (fold with_digit) folds

-- the digits of a number from 1 to 1,000
pub record Numeral (k : ℕ) : Type 0 where
  pub first : ℕ
  pub rest : List ℕ
  pub is : decimal k ≡ first ∷ rest
  pub digits : Digits (first ∷ rest)
  pub above : 48 < first
  pub value_is : value_of (first ∷ rest) ≡ k
  pub short : length (first ∷ rest) ≤ 4

numeral_by : (k : ℕ) (ds : List ℕ) → decimal k ≡ ds → Digits ds → 0 < length ds → 48 < get_or ds 0 0 → value_of ds ≡ k → length ds ≤ 4 → Numeral k
numeral_by k [] e d some above v short = absurd (omega (arith, some))
numeral_by k (b ∷ bs) e d some above v short = record { first = b; rest = bs; is = e; digits = d; above = above; value_is = v; short = short }

pub numeral : (k : ℕ) → 1 ≤ k → k ≤ 1000 → Numeral k
numeral k least most =
    let wide : k < 2 ^ 64 = omega (arith, most) in
    numeral_by k (decimal k) refl (digits_decimal own k wide) (decimal_nonempty k wide) (first_decimal k (omega (arith, least)) wide) (digits_value-decimal own k wide) (length-decimal-le 4 k (omega arith) (omega (arith, most)) wide)

-- runs of bytes

pub name_run : (ds : List ℕ) (stop : ℕ) (tail : List ℕ) → Digits ds → is_name_byte stop ≡ false → prefix_len is_name_byte (ds ++ stop ∷ tail) ≡ length ds
name_run [] stop tail d e = rw e refl
name_run (b ∷ bs) stop tail d e =
    let name : is_name_byte b ≡ true = (digit_byte b d.0).name in
    let more : prefix_len is_name_byte (bs ++ stop ∷ tail) ≡ length bs = name_run bs stop tail d.1 e in
    rw name (omega arith)

pub digit_run : (ds : List ℕ) (stop : ℕ) (tail : List ℕ) → Digits ds → is_digit stop ≡ false → prefix_len is_digit (ds ++ stop ∷ tail) ≡ length ds
digit_run [] stop tail d e = rw e refl
digit_run (b ∷ bs) stop tail d e =
    let digit : is_digit b ≡ true = d.0 in
    let more : prefix_len is_digit (bs ++ stop ∷ tail) ≡ length bs = digit_run bs stop tail d.1 e in
    rw digit (omega arith)

-- names

name_choice : (std long : Bool) (n : ℕ) (bytes : List ℕ) (w : Option Word) → std ≡ false → long ≡ false → w ≡ None → (if std then Skip 5 else (if long then Stop BadByte NAME_BYTES else Take (word_or_name w bytes) n)) ≡ Take (Name bytes) n
name_choice false false n bytes None e f g = refl
name_choice true long n bytes w e f g = absurd (true≢false e)
name_choice false true n bytes w e f g = absurd (true≢false f)
name_choice false false n bytes (Some w) e f g = absurd (cc g)

name_by : (text : List ℕ) (n : ℕ) (bytes : List ℕ) → prefix_len is_name_byte text ≡ n → take n text ≡ bytes → begins text (codes "std::") ≡ false → nat_lt NAME_BYTES n ≡ false → word_of bytes ≡ None → name_at text ≡ Take (Name bytes) n
name_by text n bytes run taken std long no_word =
    ap (λ m. if begins text (codes "std::") then Skip 5 else (if nat_lt NAME_BYTES m then Stop BadByte NAME_BYTES else Take (word_or_name (word_of (take m text)) (take m text)) m)) run
    ∙ ap (λ bs. if begins text (codes "std::") then Skip 5 else (if nat_lt NAME_BYTES n then Stop BadByte NAME_BYTES else Take (word_or_name (word_of bs) bs) n)) taken
    ∙ name_choice (begins text (codes "std::")) (nat_lt NAME_BYTES n) n bytes (word_of bytes) std long no_word

-- a `w` before a digit begins no word
no_word : (b : ℕ) (bs : List ℕ) → is_digit b ≡ true → word_of (119 ∷ b ∷ bs) ≡ None
no_word b bs d = let h : nat_eq b 104 ≡ false = (digit_byte b d).no_h in rw h refl

few_bytes : (n : ℕ) → n ≤ 4 → nat_lt NAME_BYTES (suc n) ≡ false
few_bytes zero h = refl
few_bytes (suc zero) h = refl
few_bytes (suc (suc zero)) h = refl
few_bytes (suc (suc (suc zero))) h = refl
few_bytes (suc (suc (suc (suc zero)))) h = refl
few_bytes (suc (suc (suc (suc (suc n))))) h = absurd (omega (arith, h))

-- the name of a worker, before what is no byte of a name
pub worker_name : (k : ℕ) (fresh : Bool) (stop : ℕ) (tail : List ℕ) → Numeral k → is_name_byte stop ≡ false → found_at fresh ((119 ∷ decimal k) ++ stop ∷ tail) ≡ Take (Name (119 ∷ decimal k)) (suc (length (decimal k)))
unfolding found_at
worker_name k fresh stop tail m e = subst (λ ds. found_at fresh ((119 ∷ ds) ++ stop ∷ tail) ≡ Take (Name (119 ∷ ds)) (suc (length ds))) (sym m.is) (found m.first m.rest m.digits m.short)
  where
    found : (b : ℕ) (bs : List ℕ) → Digits (b ∷ bs) → length (b ∷ bs) ≤ 4 → found_at fresh ((119 ∷ b ∷ bs) ++ stop ∷ tail) ≡ Take (Name (119 ∷ b ∷ bs)) (suc (length (b ∷ bs)))
    found b bs d short =
        let more : prefix_len is_name_byte ((b ∷ bs) ++ stop ∷ tail) ≡ length (b ∷ bs) = name_run (b ∷ bs) stop tail d e in
        let run : prefix_len is_name_byte ((119 ∷ b ∷ bs) ++ stop ∷ tail) ≡ suc (length (b ∷ bs)) = omega (arith, more) in
        let taken : take (suc (length (b ∷ bs))) ((119 ∷ b ∷ bs) ++ stop ∷ tail) ≡ 119 ∷ b ∷ bs = take_at (119 ∷ b ∷ bs) (stop ∷ tail) (suc (length (b ∷ bs))) refl in
        name_by ((119 ∷ b ∷ bs) ++ stop ∷ tail) (suc (length (b ∷ bs))) (119 ∷ b ∷ bs) run taken refl (few_bytes (length (b ∷ bs)) short) (no_word b bs d.0)

-- numbers

number_choice : (zero_first wide : Bool) (n k : ℕ) → zero_first ≡ false → wide ≡ false → (if zero_first then Stop BadByte 1 else (if wide then Stop NumberTooWide 0 else Take (Number (pos k)) n)) ≡ Take (Number (pos k)) n
number_choice false false n k e f = refl
number_choice true wide n k e f = absurd (true≢false e)
number_choice false true n k e f = absurd (true≢false f)

number_by : (text ds : List ℕ) (n k : ℕ) → prefix_len is_digit text ≡ n → take n text ≡ ds → value_of ds ≡ k → (slice_index text 0 == 48 && nat_lt 1 n) ≡ false → nat_lt NUMBER_MAX k ≡ false → number_at text ≡ Take (Number (pos k)) n
number_by text ds n k run taken v plain small =
    ap (λ m. if slice_index text 0 == 48 && nat_lt 1 m then Stop BadByte 1 else (if nat_lt NUMBER_MAX (value_of (take m text)) then Stop NumberTooWide 0 else Take (Number (pos (value_of (take m text)))) m)) run
    ∙ ap (λ bs. if slice_index text 0 == 48 && nat_lt 1 n then Stop BadByte 1 else (if nat_lt NUMBER_MAX (value_of bs) then Stop NumberTooWide 0 else Take (Number (pos (value_of bs))) n)) taken
    ∙ ap (λ j. if slice_index text 0 == 48 && nat_lt 1 n then Stop BadByte 1 else (if nat_lt NUMBER_MAX j then Stop NumberTooWide 0 else Take (Number (pos j)) n)) v
    ∙ number_choice (slice_index text 0 == 48 && nat_lt 1 n) (nat_lt NUMBER_MAX k) n k plain small

-- what is found at a digit is a number
at_digit : (fresh : Bool) (b : ℕ) (bs : List ℕ) → IsDigitByte b → found_at fresh (b ∷ bs) ≡ number_at (b ∷ bs)
unfolding found_at
at_digit fresh b bs d = rw (d.white, d.hash, d.letter, d.digit) refl

no_zero : (b : ℕ) (t : Bool) → 48 < b → ((b == 48) && t) ≡ false
no_zero b t h = first (b == 48) t (eq_false b h)
  where
    first : (s t : Bool) → s ≡ false → (s && t) ≡ false
    first false t e = refl
    first true t e = absurd (true≢false e)

    eq_false : (b : ℕ) → 48 < b → (b == 48) ≡ false
    eq_false b h = ne_eqb b 48 (λ e. absurd (omega (arith, h, e)))

pub number : (k : ℕ) (fresh : Bool) (stop : ℕ) (tail : List ℕ) → k ≤ 1000 → Numeral k → is_digit stop ≡ false → found_at fresh (decimal k ++ stop ∷ tail) ≡ Take (Number (pos k)) (length (decimal k))
number k fresh stop tail most m e = subst (λ ds. found_at fresh (ds ++ stop ∷ tail) ≡ Take (Number (pos k)) (length ds)) (sym m.is) (found m.first m.rest m.digits m.above m.value_is)
  where
    small : nat_lt NUMBER_MAX k ≡ false
    small = le-ltb NUMBER_MAX k (omega (arith, most))

    found : (b : ℕ) (bs : List ℕ) → Digits (b ∷ bs) → 48 < b → value_of (b ∷ bs) ≡ k → found_at fresh ((b ∷ bs) ++ stop ∷ tail) ≡ Take (Number (pos k)) (length (b ∷ bs))
    found b bs d above v =
        at_digit fresh b (bs ++ stop ∷ tail) (digit_byte b d.0)
        ∙ number_by ((b ∷ bs) ++ stop ∷ tail) (b ∷ bs) (length (b ∷ bs)) k (digit_run (b ∷ bs) stop tail d e) (take_at (b ∷ bs) (stop ∷ tail) (length (b ∷ bs)) refl) v (no_zero b (nat_lt 1 (length (b ∷ bs))) above) small
