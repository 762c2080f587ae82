-- The tokens of the generated text.
use Rattle.std.proofs.Common.{◌≡◌, ℕ, zero, suc, ◌≤◌, false, List, [], ◌∷◌, ◌++◌, length, refl, sym, ap, ◌∙◌, subst, append_assoc, arith}
use Rattle.std.specs.Prelude.{pos, decimal, codes}
use Rattle.uc_tree.specs.declared.token.Token.{Token}
use Rattle.uc_tree.specs.declared.token.TokenKind.TheVariants.{Name, Number, Text, Word, Sign}
use Rattle.uc_tree.specs.declared.token.Word.TheVariants as word
use Rattle.uc_tree.specs.declared.token.Sign.TheVariants as sign
use Rattle.uc_tree.specs.declared.scan.ScanPlace.{ScanPlace}
use Rattle.uc_tree.specs.declared.scan.Lexeme.TheVariants.{Take}
use Rattle.uc_tree.specs.Bytes.{is_digit}
use Rattle.uc_tree.specs.Tokens.{Read, with_token, tokens_from, tokens, first_place, found_at, text_ending, comment_length}
use Rattle.uc_grammar.specs.Samples.{placed}
use Rattle.uc_make.specs.Generated.{front, worker, workers, before_count, behind_count, end, generated, quoted}
use Rattle.uc_made.proofs.Numerals.{Numeral, numeral, worker_name, number}
use Rattle.uc_made.proofs.Lexing.{past, past_both, token, read_then, then_both, then_read, taken}

-- the lines before the workers

unfoldable pub front_tokens : List Token
unfolding placed
front_tokens = placed front

abbrev pub front_end : ScanPlace
front_end = past first_place front

front_lexed : (tail : List ℕ) → tokens_from first_place 0 (front ++ tail) ≡ read_then front_tokens (tokens_from front_end 0 tail)
unfolding front_tokens placed tokens_from found_at text_ending comment_length
front_lexed tail = refl

-- the line of a worker, from this place on

abbrev pub name_place : ScanPlace → ScanPlace
name_place p = past p (codes "Worker ")

abbrev pub open_place : ScanPlace → ℕ → ScanPlace
open_place p k = past (name_place p) (119 ∷ decimal k)

abbrev pub number_place : ScanPlace → ℕ → ScanPlace
number_place p k = past (open_place p k) (codes "(t, ")

abbrev pub close_place : ScanPlace → ℕ → ScanPlace
close_place p k = past (number_place p k) (decimal k)

abbrev pub next_line : ScanPlace → ℕ → ScanPlace
next_line p k = past (close_place p k) (codes ");\n")

abbrev pub worker_tokens : ScanPlace → ℕ → List Token
worker_tokens p k =
    token (Name (codes "Worker")) p ∷ token (Name (119 ∷ decimal k)) (name_place p)
    ∷ token (Sign sign.OpenParen) (open_place p k) ∷ token (Name (codes "t")) (past (open_place p k) (codes "(")) ∷ token (Sign sign.Comma) (past (open_place p k) (codes "(t"))
    ∷ token (Number (pos k)) (number_place p k)
    ∷ token (Sign sign.CloseParen) (close_place p k) ∷ token (Sign sign.Semicolon) (past (close_place p k) (codes ")")) ∷ []

class_lexed : (p : ScanPlace) (tail : List ℕ) → tokens_from p 0 (codes "Worker " ++ tail) ≡ with_token (token (Name (codes "Worker")) p) (tokens_from (name_place p) 0 tail)
unfolding tokens_from found_at
class_lexed p tail = refl

first_lexed : (p : ScanPlace) (tail : List ℕ) → tokens_from p 0 (codes "(t, " ++ tail) ≡ read_then (token (Sign sign.OpenParen) p ∷ token (Name (codes "t")) (past p (codes "(")) ∷ token (Sign sign.Comma) (past p (codes "(t")) ∷ []) (tokens_from (past p (codes "(t, ")) 0 tail)
unfolding tokens_from found_at
first_lexed p tail = refl

close_lexed : (p : ScanPlace) (tail : List ℕ) → tokens_from p 0 (codes ");\n" ++ tail) ≡ read_then (token (Sign sign.CloseParen) p ∷ token (Sign sign.Semicolon) (past p (codes ")")) ∷ []) (tokens_from (past p (codes ");\n")) 0 tail)
unfolding tokens_from found_at
close_lexed p tail = refl

number_lexed : (p : ScanPlace) (k stop : ℕ) (tail : List ℕ) → k ≤ 1000 → Numeral k → is_digit stop ≡ false → tokens_from p 0 (decimal k ++ stop ∷ tail) ≡ with_token (token (Number (pos k)) p) (tokens_from (past p (decimal k)) 0 (stop ∷ tail))
number_lexed p k stop tail most m e =
    subst (λ ds. found_at p.fresh (ds ++ stop ∷ tail) ≡ Take (Number (pos k)) (length ds) → tokens_from p 0 (ds ++ stop ∷ tail) ≡ with_token (token (Number (pos k)) p) (tokens_from (past p ds) 0 (stop ∷ tail))) (sym m.is)
    (λ f. taken p m.first m.rest (stop ∷ tail) (Number (pos k)) f) (number k p.fresh stop tail most m e)

worker_text : (k : ℕ) (tail : List ℕ) → worker k ++ tail ≡ codes "Worker " ++ ((119 ∷ decimal k) ++ (codes "(t, " ++ (decimal k ++ (codes ");\n" ++ tail))))
worker_text k tail =
    ap (λ t. codes "Worker " ++ (119 ∷ t))
    (append_assoc ((decimal k ++ codes "(t, ") ++ decimal k) (codes ");\n") tail
    ∙ append_assoc (decimal k ++ codes "(t, ") (decimal k) (codes ");\n" ++ tail)
    ∙ append_assoc (decimal k) (codes "(t, ") (decimal k ++ (codes ");\n" ++ tail)))

worker_past : (p : ScanPlace) (k : ℕ) → past p (worker k) ≡ next_line p k
worker_past p k =
    past_both (past p (codes "Worker w")) ((decimal k ++ codes "(t, ") ++ decimal k) (codes ");\n")
    ∙ ap (λ q. past q (codes ");\n"))
    (past_both (past p (codes "Worker w")) (decimal k ++ codes "(t, ") (decimal k)
    ∙ ap (λ q. past q (decimal k)) (past_both (past p (codes "Worker w")) (decimal k) (codes "(t, ")))

worker_lexed : (p : ScanPlace) (k : ℕ) (tail : List ℕ) → k ≤ 1000 → Numeral k → tokens_from p 0 (worker k ++ tail) ≡ read_then (worker_tokens p k) (tokens_from (past p (worker k)) 0 tail)
worker_lexed p k tail most m =
    ap (tokens_from p 0) (worker_text k tail)
    ∙ class_lexed p ((119 ∷ decimal k) ++ (codes "(t, " ++ (decimal k ++ (codes ");\n" ++ tail))))
    ∙ ap (with_token (token (Name (codes "Worker")) p))
    (taken (name_place p) 119 (decimal k) (codes "(t, " ++ (decimal k ++ (codes ");\n" ++ tail))) (Name (119 ∷ decimal k)) (worker_name k (name_place p).fresh 40 (codes "t, " ++ (decimal k ++ (codes ");\n" ++ tail))) m refl)
    ∙ ap (with_token (token (Name (119 ∷ decimal k)) (name_place p)))
    (first_lexed (open_place p k) (decimal k ++ (codes ");\n" ++ tail))
    ∙ ap (read_then (token (Sign sign.OpenParen) (open_place p k) ∷ token (Name (codes "t")) (past (open_place p k) (codes "(")) ∷ token (Sign sign.Comma) (past (open_place p k) (codes "(t")) ∷ []))
    (number_lexed (number_place p k) k 41 (codes ";\n" ++ tail) most m refl
    ∙ ap (with_token (token (Number (pos k)) (number_place p k))) (close_lexed (close_place p k) tail))))
    ∙ ap (λ q. read_then (worker_tokens p k) (tokens_from q 0 tail)) (sym (worker_past p k))

-- the lines of workers

pub workers_tokens : ScanPlace → ℕ → List Token
workers_tokens p zero = []
workers_tokens p (suc n) = workers_tokens p n ++ worker_tokens (past p (workers n)) (suc n)

pub none_yet : (p : ScanPlace) → workers_tokens p zero ≡ []
unfolding workers_tokens
none_yet p = refl

pub one_more : (p : ScanPlace) (n : ℕ) → workers_tokens p (suc n) ≡ workers_tokens p n ++ worker_tokens (past p (workers n)) (suc n)
unfolding workers_tokens
one_more p n = refl

workers_lexed : (n : ℕ) → n ≤ 1000 → (p : ScanPlace) (tail : List ℕ) → tokens_from p 0 (workers n ++ tail) ≡ read_then (workers_tokens p n) (tokens_from (past p (workers n)) 0 tail)
unfolding workers_tokens
workers_lexed zero h p tail = refl
workers_lexed (suc n) h p tail =
    ap (tokens_from p 0) (append_assoc (workers n) (worker (suc n)) tail)
    ∙ workers_lexed n (omega (arith, h)) p (worker (suc n) ++ tail)
    ∙ ap (read_then (workers_tokens p n))
    (worker_lexed (past p (workers n)) (suc n) tail h (numeral (suc n) (omega arith) h)
    ∙ ap (λ q. read_then (worker_tokens (past p (workers n)) (suc n)) (tokens_from q 0 tail)) (sym (past_both p (workers n) (worker (suc n)))))
    ∙ then_both (workers_tokens p n) (worker_tokens (past p (workers n)) (suc n)) (tokens_from (past p (workers (suc n))) 0 tail)

-- the lines behind them

abbrev pub count_tokens : ScanPlace → List Token
count_tokens q =
    token (Sign sign.CloseBrace) q ∷ token (Word word.Cout) (past q (codes "}\n")) ∷ token (Sign sign.ShiftLeft) (past q (codes "}\ncout "))
    ∷ token (Text (codes "tasks ")) (past q (codes "}\ncout << ")) ∷ token (Sign sign.ShiftLeft) (past q (codes "}\ncout << " ++ (quoted (codes "tasks ") ++ codes " "))) ∷ []

abbrev pub total_place : ScanPlace → ScanPlace
total_place q = past q (codes " << " ++ quoted (codes " total "))

abbrev pub rest_tokens : ScanPlace → List Token
rest_tokens q =
    token (Sign sign.ShiftLeft) (past q (codes " ")) ∷ token (Text (codes " total ")) (past q (codes " << "))
    ∷ token (Sign sign.ShiftLeft) (past (total_place q) (codes " ")) ∷ token (Name (codes "t")) (past (total_place q) (codes " << "))
    ∷ token (Sign sign.Dot) (past (total_place q) (codes " << t")) ∷ token (Name (codes "get")) (past (total_place q) (codes " << t."))
    ∷ token (Sign sign.OpenParen) (past (total_place q) (codes " << t.get")) ∷ token (Sign sign.CloseParen) (past (total_place q) (codes " << t.get("))
    ∷ token (Sign sign.ShiftLeft) (past (total_place q) (codes " << t.get() ")) ∷ token (Word word.Endl) (past (total_place q) (codes " << t.get() << "))
    ∷ token (Sign sign.Semicolon) (past (total_place q) (codes " << t.get() << endl")) ∷ token (Sign sign.CloseBrace) (past (total_place q) (codes " << t.get() << endl;\n")) ∷ []

abbrev pub count_place : ScanPlace → ScanPlace
count_place q = past q before_count

abbrev pub end_tokens : ScanPlace → ℕ → List Token
end_tokens q n = count_tokens q ++ (token (Number (pos n)) (count_place q) ∷ rest_tokens (past (count_place q) (decimal n)))

count_lexed : (q : ScanPlace) (tail : List ℕ) → tokens_from q 0 (before_count ++ tail) ≡ read_then (count_tokens q) (tokens_from (count_place q) 0 tail)
unfolding tokens_from found_at text_ending
count_lexed q tail = refl

rest_lexed : (q : ScanPlace) → tokens_from q 0 behind_count ≡ Read (rest_tokens q)
unfolding tokens_from found_at text_ending
rest_lexed q = refl

end_lexed : (q : ScanPlace) (n : ℕ) → n ≤ 1000 → Numeral n → tokens_from q 0 (end n) ≡ Read (end_tokens q n)
end_lexed q n most m =
    count_lexed q (decimal n ++ behind_count)
    ∙ ap (read_then (count_tokens q))
    (number_lexed (count_place q) n 32 (codes "<< " ++ (quoted (codes " total ") ++ (codes " << t.get() << endl;\n" ++ codes "}\n"))) most m refl
    ∙ ap (with_token (token (Number (pos n)) (count_place q))) (rest_lexed (past (count_place q) (decimal n))))

-- all of them

pub all_tokens : ℕ → List Token
all_tokens n = front_tokens ++ (workers_tokens front_end n ++ end_tokens (past front_end (workers n)) n)

pub all_is : (n : ℕ) → all_tokens n ≡ front_tokens ++ (workers_tokens front_end n ++ end_tokens (past front_end (workers n)) n)
unfolding all_tokens
all_is n = refl

pub generated_lexed : (n : ℕ) → 1 ≤ n → n ≤ 1000 → tokens (generated n) ≡ Read (all_tokens n)
unfolding all_tokens
generated_lexed n least most =
    front_lexed (workers n ++ end n)
    ∙ ap (read_then front_tokens)
    (workers_lexed n most front_end (end n)
    ∙ ap (read_then (workers_tokens front_end n)) (end_lexed (past front_end (workers n)) n most (numeral n least most))
    ∙ then_read (workers_tokens front_end n) (end_tokens (past front_end (workers n)) n))
    ∙ then_read front_tokens (workers_tokens front_end n ++ end_tokens (past front_end (workers n)) n)
