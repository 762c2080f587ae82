-- The tokens of a whole text, found one after another.
use Rattle.std.proofs.Common.{subst, ◌≡◌, ℕ, zero, suc, ◌+◌, ◌-◌, ◌<◌, ◌≤◌, List, [], ◌∷◌, ◌++◌, length, take, drop, refl, ap, sym, ◌∙◌, append_assoc, length-append, append-nil, drop-drop, length-drop, arith}
use Rattle.std.proofs.Math.ListN.{drop_of_length-le, length-take}
use Rattle.uc_tree.specs.declared.token.TokenKind.{TokenKind}
use Rattle.uc_tree.specs.declared.scan.LexicalFault.{LexicalFault}
use Rattle.std.specs.Prelude.{fold}
use Rattle.uc_tree.specs.declared.token.Token.{Token}
use Rattle.uc_tree.specs.declared.scan.ScanPlace.{ScanPlace}
use Rattle.uc_tree.specs.declared.scan.Lexeme.{Lexeme}
use Rattle.uc_tree.specs.declared.scan.Lexeme.TheVariants.{Skip, Take, Stop}
use Rattle.uc_tree.specs.Tokens.{Lexed, Read, Refused, with_token, lexed_by, tokens_from, tokens, next_place, first_place, found_at}
use Rattle.uc_lex.specs.Places.{InText}

-- bytes that belong to what was found before are passed
passed : (n : ℕ) (p : ScanPlace) (rest : List ℕ) → tokens_from p n rest ≡ tokens_from (fold next_place p (take n rest)) 0 (drop n rest)
unfolding tokens_from
passed zero p rest = refl
passed (suc n) p [] = refl
passed (suc n) p (b ∷ rest) = passed n (next_place p b) rest

-- what follows n bytes
abbrev pub tokens_behind : ScanPlace → List ℕ → ℕ → Lexed
tokens_behind p rest n = tokens_from (fold next_place p (take n rest)) 0 (drop n rest)

behind_first : (p : ScanPlace) (b : ℕ) (rest : List ℕ) (n : ℕ) → 0 < n → tokens_from (next_place p b) (n - 1) rest ≡ tokens_behind p (b ∷ rest) n
behind_first p b rest zero some = let none : ⊥ = omega (arith, some) in absurd none
behind_first p b rest (suc n) some = let less : suc n - 1 ≡ n = omega arith in ap (λ k. tokens_from (next_place p b) k rest) less ∙ passed n (next_place p b) rest

behind_found : (p : ScanPlace) (b : ℕ) (rest : List ℕ) (found : Lexeme) → InText found (length (b ∷ rest)) → lexed_by p found (λ n. tokens_from (next_place p b) (n - 1) rest) ≡ lexed_by p found (tokens_behind p (b ∷ rest))
behind_found p b rest (Skip n) inside = behind_first p b rest n inside.0
behind_found p b rest (Take kind n) inside = ap (with_token (record { kind = kind; at = p.at; pos = p.pos })) (behind_first p b rest n inside.0)
behind_found p b rest (Stop why n) inside = refl

one_found : (p : ScanPlace) (rest : List ℕ) (found : Lexeme) → 0 < length rest → InText found (length rest) → found ≡ found_at p.fresh rest → tokens_from p 0 rest ≡ lexed_by p found (tokens_behind p rest)
unfolding tokens_from
one_found p [] found some inside is = let none : ⊥ = omega (arith, some) in absurd none
one_found p (b ∷ rest) found some inside is = ap (λ f. lexed_by p f (λ n. tokens_from (next_place p b) (n - 1) rest)) (sym is) ∙ behind_found p b rest found inside

-- the tokens read so far, and then what follows
abbrev pub with_tokens : List Token → Lexed → Lexed
with_tokens ts (Read more) = Read (ts ++ more)
with_tokens ts (Refused why at) = Refused why at

nothing_read : (l : Lexed) → l ≡ with_tokens [] l
nothing_read (Read ts) = refl
nothing_read (Refused why at) = refl

with_one : (ts : List Token) (t : Token) (l : Lexed) → with_tokens ts (with_token t l) ≡ with_tokens (ts ++ t ∷ []) l
with_one ts t (Read more) = λ i. Read (sym (append_assoc ts (t ∷ []) more) i)
with_one ts t (Refused why at) = refl

-- the text's tokens are those read so far, and then what is found from the place on
pub record ReadTo (text : List ℕ) (ts : List Token) (p : ScanPlace) : Type 0 where
  pub goes_on : tokens text ≡ with_tokens ts (tokens_from p 0 (drop p.at text))
  pub inside : p.at ≤ length text
  pub few : length ts ≤ p.at

-- the bytes of what was found, and the place behind them
pub record Passes (text : List ℕ) (p : ScanPlace) (rest : List ℕ) (n : ℕ) (bytes : List ℕ) (q : ScanPlace) : Type 0 where
  pub rest_is : rest ≡ drop p.at text
  pub within : n ≤ length rest
  pub bytes_is : bytes ≡ take n rest
  pub place_is : q ≡ fold next_place p bytes
  pub at_is : q.at ≡ p.at + length bytes

at_behind : {text : List ℕ} {p : ScanPlace} {rest : List ℕ} {n : ℕ} {bytes : List ℕ} {q : ScanPlace} → Passes text p rest n bytes q → q.at ≡ p.at + n
at_behind {text} {p} {rest} {n} {bytes} {q} h =
    let long : length bytes ≡ length (take n rest) = ap length h.bytes_is in
    omega (arith, h.at_is, long, length-take n rest, h.within)

pub rest_length : (text : List ℕ) (p : ScanPlace) (rest : List ℕ) → rest ≡ drop p.at text → length rest ≡ length text - p.at
rest_length text p rest is = ap length is ∙ length-drop p.at text

behind_is : {text : List ℕ} {p : ScanPlace} {rest : List ℕ} {n : ℕ} {bytes : List ℕ} {q : ScanPlace} → Passes text p rest n bytes q → tokens_behind p rest n ≡ tokens_from q 0 (drop q.at text)
behind_is {text} {p} {rest} {n} {bytes} {q} h =
    ap (λ r. tokens_from r 0 (drop n rest)) (ap (fold next_place p) (sym h.bytes_is) ∙ sym h.place_is)
    ∙ ap (tokens_from q 0) (ap (drop n) h.rest_is ∙ drop-drop n p.at text ∙ ap (λ k. drop k text) (sym (at_behind h)))

from_here : {text : List ℕ} {ts : List Token} {p : ScanPlace} {rest : List ℕ} → ReadTo text ts p → rest ≡ drop p.at text → (found : Lexeme) → 0 < length rest → InText found (length rest) → found ≡ found_at p.fresh rest → tokens text ≡ with_tokens ts (lexed_by p found (tokens_behind p rest))
from_here {text} {ts} {p} {rest} so_far rest_is found some inside is =
    so_far.goes_on ∙ ap (with_tokens ts) (ap (tokens_from p 0) (sym rest_is) ∙ one_found p rest found some inside is)

still_inside : {text : List ℕ} {p : ScanPlace} {rest : List ℕ} {n : ℕ} {bytes : List ℕ} {q : ScanPlace} → p.at ≤ length text → Passes text p rest n bytes q → q.at ≤ length text
still_inside {text} {p} {rest} {n} {bytes} {q} inside h = omega (arith, inside, h.within, at_behind h, rest_length text p rest h.rest_is)

pub read_start : (text : List ℕ) → ReadTo text [] first_place
read_start text = record { goes_on = nothing_read (tokens text); inside = omega arith; few = omega arith }

pub read_skip : {text : List ℕ} {ts : List Token} {p : ScanPlace} {rest : List ℕ} {n : ℕ} {bytes : List ℕ} {q : ScanPlace} → ReadTo text ts p → Passes text p rest n bytes q → 0 < length rest → InText (Skip n) (length rest) → Skip n ≡ found_at p.fresh rest → ReadTo text ts q
read_skip {text} {ts} {p} {rest} {n} {bytes} {q} so_far passes some inside is = record {
  goes_on = from_here so_far passes.rest_is (Skip n) some inside is ∙ ap (with_tokens ts) (behind_is passes);
  inside = still_inside so_far.inside passes;
  few = omega (arith, so_far.few, at_behind passes);
}

pub read_take : {text : List ℕ} {ts : List Token} {p : ScanPlace} {rest : List ℕ} {n : ℕ} {bytes : List ℕ} {q : ScanPlace} → (kind : TokenKind) → ReadTo text ts p → Passes text p rest n bytes q → 0 < length rest → InText (Take kind n) (length rest) → Take kind n ≡ found_at p.fresh rest → ReadTo text (ts ++ (record { kind = kind; at = p.at; pos = p.pos }) ∷ []) q
read_take {text} {ts} {p} {rest} {n} {bytes} {q} kind so_far passes some inside is = record {
  goes_on = from_here so_far passes.rest_is (Take kind n) some inside is ∙ ap (λ l. with_tokens ts (with_token (record { kind = kind; at = p.at; pos = p.pos }) l)) (behind_is passes)
      ∙ with_one ts (record { kind = kind; at = p.at; pos = p.pos }) (tokens_from q 0 (drop q.at text));
  inside = still_inside so_far.inside passes;
  few = omega (arith, so_far.few, at_behind passes, inside.0, length-append ts ((record { kind = kind; at = p.at; pos = p.pos }) ∷ []));
}

pub read_stop : {text : List ℕ} {ts : List Token} {p : ScanPlace} {rest : List ℕ} → (why : LexicalFault) (n : ℕ) → ReadTo text ts p → rest ≡ drop p.at text → 0 < length rest → InText (Stop why n) (length rest) → Stop why n ≡ found_at p.fresh rest → tokens text ≡ Refused why (p.at + n)
read_stop why n so_far rest_is some inside is = from_here so_far rest_is (Stop why n) some inside is

pub read_end : {text : List ℕ} {ts : List Token} {p : ScanPlace} → ReadTo text ts p → length text ≤ p.at → tokens text ≡ Read ts
unfolding tokens_from
read_end {text} {ts} {p} so_far over = so_far.goes_on ∙ ap (λ l. with_tokens ts (tokens_from p 0 l)) (drop_of_length-le text over) ∙ ap Read (append-nil ts)

-- no text is both read and refused
pub not_both : {l : Lexed} {ts : List Token} {why : LexicalFault} {at : ℕ} → l ≡ Read ts → l ≡ Refused why at → ⊥
not_both read refused = differ (sym read ∙ refused)
  where
    is_read : Lexed → Type 0
    is_read (Read ts) = Unit {0}
    is_read (Refused why at) = ⊥

    differ : {ts : List Token} {why : LexicalFault} {at : ℕ} → Read ts ≡ Refused why at → ⊥
    differ e = subst is_read e tt
