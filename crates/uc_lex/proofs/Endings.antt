-- How text literals end, piece by piece.
use Rattle.std.proofs.Common.{◌≡◌, ℕ, ◌+◌, ◌≤◌, List, [], ◌∷◌, ◌++◌, Bool, true, false, length, drop, refl, ap, sym, ◌∙◌, append_assoc, add_assoc, drop-drop, arith}
use Rattle.std.proofs.Math.ListN.{drop_of_length-le}
use Rattle.std.specs.Prelude.{Option, Some, None, slice_get, ◌==◌, if◌then◌else◌}
use Rattle.uc_tree.specs.Bytes.{is_newline, is_printable, escaped}
use Rattle.uc_tree.specs.Tokens.{Ending, Closed, Open, Bad, behind, text_ending, behind_byte, behind_escape}
use Rattle.uc_lex.specs.declared.literals.Piece.{Piece}
use Rattle.uc_lex.specs.Pieces.{piece_length, ending_of, piece_of, piece_of_byte, piece_of_value, piece_of_escape, Moves}

-- The text ends so by this piece, which begins it.
abbrev pub EndsBy : Ending → Piece → List ℕ → Type 0
EndsBy e p rest = (e ≡ ending_of p (text_ending (drop (piece_length p) rest))) × Moves p (length rest)

choice : (t : Bool) (e f : Ending) (p q : Piece) (rest : List ℕ) → EndsBy e p rest → EndsBy f q rest → EndsBy (if t then e else f) (if t then p else q) rest
choice true e f p q rest yes_case no_case = yes_case
choice false e f p q rest yes_case no_case = no_case

value_ends : (b e : ℕ) (rest : List ℕ) (o : Option ℕ) → EndsBy (behind_escape o (text_ending rest)) (piece_of_value o) (b ∷ e ∷ rest)
value_ends b e rest None = (refl, (omega arith, omega arith))
value_ends b e rest (Some v) = (refl, (omega arith, omega arith))

byte_ends : (b : ℕ) (rest : List ℕ) → EndsBy (behind_byte b (text_ending rest)) (piece_of_byte b) (b ∷ rest)
byte_ends b rest =
    choice (b == 34) _ _ _ _ _ (refl, omega arith)
    (choice (is_newline b) _ _ _ _ _ (refl, tt)
    (choice (is_printable b) _ _ _ _ _ (refl, (omega arith, omega arith)) (refl, (omega arith, omega arith))))

escape_ends : (b e : ℕ) (rest : List ℕ) → EndsBy (if is_newline e then Open else behind_escape (escaped e) (text_ending rest)) (piece_of_escape (Some e)) (b ∷ e ∷ rest)
escape_ends b e rest = choice (is_newline e) _ _ _ _ _ (refl, tt) (value_ends b e rest (escaped e))

-- What a text literal goes on with, by its next two bytes.
pub text_ending-piece : (rest : List ℕ) → EndsBy (text_ending rest) (piece_of (slice_get rest 0) (slice_get rest 1)) rest
unfolding text_ending
text_ending-piece [] = (refl, tt)
text_ending-piece (b ∷ []) = choice (b == 92) _ _ _ _ _ (refl, tt) (byte_ends b [])
text_ending-piece (b ∷ e ∷ rest) = choice (b == 92) _ _ _ _ _ (escape_ends b e rest) (byte_ends b (e ∷ rest))

-- the bytes of a value, written by n bytes, and then what follows
abbrev pub behind_all : List ℕ → ℕ → Ending → Ending
behind_all bytes n (Closed more m) = Closed (bytes ++ more) (n + m)
behind_all bytes n Open = Open
behind_all bytes n (Bad m) = Bad (n + m)

pub behind_all-behind : (bytes : List ℕ) (at n value : ℕ) (after : Ending) → behind_all bytes at (behind n value after) ≡ behind_all (bytes ++ value ∷ []) (at + n) after
behind_all-behind bytes at n value (Closed more m) = λ i. Closed (sym (append_assoc bytes (value ∷ []) more) i) (sym (add_assoc at n m) i)
behind_all-behind bytes at n value Open = refl
behind_all-behind bytes at n value (Bad m) = λ i. Bad (sym (add_assoc at n m) i)

-- a step of a text literal that goes on with a piece of its value
pub behind_all-step : (bytes body : List ℕ) (at n value : ℕ) → text_ending body ≡ behind_all bytes at (text_ending (drop at body)) → text_ending (drop at body) ≡ behind n value (text_ending (drop n (drop at body))) → text_ending body ≡ behind_all (bytes ++ value ∷ []) (at + n) (text_ending (drop (at + n) body))
behind_all-step bytes body at n value so_far next = so_far ∙ ap (behind_all bytes at) next ∙ behind_all-behind bytes at n value (text_ending (drop n (drop at body))) ∙ ap (λ l. behind_all (bytes ++ value ∷ []) (at + n) (text_ending l)) (drop-drop n at body)

-- at the end of the text the literal is still open
pub behind_all-open : (bytes body : List ℕ) (at : ℕ) → length body ≤ at → text_ending body ≡ behind_all bytes at (text_ending (drop at body)) → text_ending body ≡ Open
unfolding text_ending
behind_all-open bytes body at over so_far = so_far ∙ ap (λ l. behind_all bytes at (text_ending l)) (drop_of_length-le body over)
