-- How bytes are cut into tokens, one piece of a text after another.
use Rattle.std.proofs.Common.{◌≡◌, ℕ, suc, ◌-◌, List, [], ◌∷◌, ◌++◌, length, refl, ap, ◌∙◌, arith}
use Rattle.std.specs.Prelude.{fold}
use Rattle.uc_tree.specs.declared.token.Token.{Token}
use Rattle.uc_tree.specs.declared.token.TokenKind.{TokenKind}
use Rattle.uc_tree.specs.declared.scan.ScanPlace.{ScanPlace}
use Rattle.uc_tree.specs.declared.scan.Lexeme.TheVariants.{Take}
use Rattle.uc_tree.specs.Tokens.{Lexed, Read, with_token, lexed_by, tokens_from, next_place, found_at}

-- the place behind bytes
abbrev pub past : ScanPlace → List ℕ → ScanPlace
past p bytes = fold next_place p bytes

pub past_both : (p : ScanPlace) (xs ys : List ℕ) → past p (xs ++ ys) ≡ past (past p xs) ys
past_both p [] ys = refl
past_both p (x ∷ xs) ys = past_both (next_place p x) xs ys

-- a token that stands there
abbrev pub token : TokenKind → ScanPlace → Token
token kind p = record { kind = kind; at = p.at; pos = p.pos }

-- these tokens, and then what follows
abbrev pub read_then : List Token → Lexed → Lexed
read_then [] l = l
read_then (t ∷ ts) l = with_token t (read_then ts l)

pub then_both : (ts us : List Token) (l : Lexed) → read_then ts (read_then us l) ≡ read_then (ts ++ us) l
then_both [] us l = refl
then_both (t ∷ ts) us l = ap (with_token t) (then_both ts us l)

pub then_read : (ts us : List Token) → read_then ts (Read us) ≡ Read (ts ++ us)
then_read [] us = refl
then_read (t ∷ ts) us = ap (with_token t) (then_read ts us)

-- bytes that belong to what was found before are passed
passed : (bytes : List ℕ) (p : ScanPlace) (tail : List ℕ) → tokens_from p (length bytes) (bytes ++ tail) ≡ tokens_from (past p bytes) 0 tail
unfolding tokens_from
passed [] p tail = refl
passed (b ∷ bytes) p tail = passed bytes (next_place p b) tail

-- bytes that are one token
pub taken : (p : ScanPlace) (b : ℕ) (bytes tail : List ℕ) (kind : TokenKind) → found_at p.fresh ((b ∷ bytes) ++ tail) ≡ Take kind (suc (length bytes)) → tokens_from p 0 ((b ∷ bytes) ++ tail) ≡ with_token (token kind p) (tokens_from (past p (b ∷ bytes)) 0 tail)
unfolding tokens_from
taken p b bytes tail kind e =
    let less : suc (length bytes) - 1 ≡ length bytes = omega arith in
    ap (λ f. lexed_by p f (λ n. tokens_from (next_place p b) (n - 1) (bytes ++ tail))) e
    ∙ ap (λ k. with_token (token kind p) (tokens_from (next_place p b) k (bytes ++ tail))) less
    ∙ ap (with_token (token kind p)) (passed bytes (next_place p b) tail)
