-- Words that go on, and words at fault.
use Rattle.std.proofs.Common.{◌≡◌, ℕ, zero, suc, ◌+◌, Bool, true, false, List, [], ◌∷◌, ◌++◌, take, refl, sym, ◌∙◌, ap, arith}
use Rattle.std.specs.Prelude.{codes, IsTrue, Option, Some, None, EachIndex, slice_index, option_to_list, flat_map}
use Rattle.uc_tree.specs.Bytes.{is_digit}
use Rattle.uc_words.specs.declared.numbers.NumberOption.{NumberOption}
use Rattle.uc_words.specs.declared.numbers.NumberOption.TheVariants.{Processors, Slice, Ticks, Entries}
use Rattle.uc_words.specs.Words.{Words, Piece, File, Number, Journal, Input, Command, RunFile, Numbers, number_of_option, IsValue, option_word, least_of, most_of, spelled, once_if, options_with, is_name}
use Rattle.uc_words.specs.Rest.{Parts, Goes, BeginsRest, BadRest, Leads, words_of, with_file, with_number, with_journal, with_input}
use Rattle.uc_words.proofs.Goes.{goes_file, goes_number, goes_journal, goes_input, only_file, only_number, only_journal, only_input}

at_most_one : {A : Type 0} (o : Option A) → option_to_list o ++ [] ≡ option_to_list o
at_most_one None = refl
at_most_one (Some x) = refl

at_most_once : (b : Bool) → once_if b ++ [] ≡ once_if b
at_most_once true = refl
at_most_once false = refl

-- with a file the parts are a line
pub end_line : (p : Parts) (file : List ℕ) → p.file ≡ Some file → Goes p [] (RunFile file (options_with p.numbers) p.journal p.input)
end_line p file is = record {
  pieces = [];
  file = file;
  numbers = p.numbers;
  journal = p.journal;
  input = p.input;
  is = refl;
  spells = refl;
  fit = tt;
  one_file = rw is refl;
  one_number = λ r. at_most_one (number_of_option p.numbers r);
  one_journal = at_most_once p.journal;
  one_input = at_most_one p.input;
}

-- whatever the parts, some line goes on behind them
begins_with : (p : Parts) (file : Option (List ℕ)) → p.file ≡ file → BeginsRest p []
begins_with p None is = record {
  rest = (97 ∷ []) ∷ [];
  command = RunFile (97 ∷ []) (options_with p.numbers) p.journal p.input;
  goes = goes_file p (97 ∷ []) refl is [] _ (end_line (with_file p (97 ∷ [])) (97 ∷ []) refl);
}
begins_with p (Some file) is = record { rest = []; command = RunFile file (options_with p.numbers) p.journal p.input; goes = end_line p file is }

pub begins_none : (p : Parts) → BeginsRest p []
begins_none p = begins_with p p.file refl

-- the least number of each option, as a word

digits_64 : EachIndex (codes "64") (λ k. IsTrue (is_digit (slice_index (codes "64") k)))
digits_64 zero h = refl
digits_64 (suc zero) h = refl
digits_64 (suc (suc k)) h = absurd (omega (arith, h))

pub digits_1 : EachIndex (codes "1") (λ k. IsTrue (is_digit (slice_index (codes "1") k)))
digits_1 zero h = refl
digits_1 (suc k) h = absurd (omega (arith, h))

least_word : NumberOption → List ℕ
least_word Processors = codes "1"
least_word Slice = codes "1"
least_word Ticks = codes "1"
least_word Entries = codes "64"

least_value : (o : NumberOption) → IsValue (least_of o) (most_of o) (least_word o) (least_of o)
unfolding least_word
least_value Processors = record { digits = digits_1; plain = refl; value = refl; low = omega arith; high = omega arith }
least_value Slice = record { digits = digits_1; plain = refl; value = refl; low = omega arith; high = omega arith }
least_value Ticks = record { digits = digits_1; plain = refl; value = refl; low = omega arith; high = omega arith }
least_value Entries = record { digits = digits_64; plain = refl; value = refl; low = omega arith; high = omega arith }

pub begins_number : (p : Parts) (o : NumberOption) → number_of_option p.numbers o ≡ None → BeginsRest p (option_word o ∷ [])
begins_number p o none =
    let b = begins_none (with_number p o (least_of o)) in
    record { rest = least_word o ∷ b.rest; command = b.command; goes = goes_number p o (least_word o) (least_of o) (least_value o) none b.rest b.command b.goes }

pub begins_input : (p : Parts) → p.input ≡ None → BeginsRest p (codes "--input" ∷ [])
begins_input p none =
    let b = begins_none (with_input p (97 ∷ [])) in
    record { rest = (97 ∷ []) ∷ b.rest; command = b.command; goes = goes_input p (97 ∷ []) refl none b.rest b.command b.goes }

-- Words that go on: one word, or two.

lead_one : (p q : Parts) (w : List ℕ) (ws : Words) → ((rest : Words) (c : Command) → Goes q rest c → Goes p (w ∷ rest) c) → ((rest : Words) (c : Command) → Goes p (w ∷ rest) c → Goes q rest c) → words_of q ≡ words_of p + 1 → Leads p (w ∷ ws) q ws
lead_one p q w ws there back more = record {
  line = there ws;
  only = back ws;
  fault = λ n b. record {
    good = suc b.good;
    is = omega (arith, b.is, more);
    within = omega (arith, b.within);
    begins = record { rest = b.begins.rest; command = b.begins.command; goes = there (take b.good ws ++ b.begins.rest) b.begins.command b.begins.goes };
    bad = λ h x. b.bad (omega (arith, h)) (record { rest = x.rest; command = x.command; goes = back (take (suc b.good) ws ++ x.rest) x.command x.goes });
    no_line = λ c g. b.no_line c (back ws c g);
  };
}

lead_two : (p q : Parts) (w v : List ℕ) (ws : Words) → ((rest : Words) (c : Command) → Goes q rest c → Goes p (w ∷ (v ∷ rest)) c) → ((rest : Words) (c : Command) → Goes p (w ∷ (v ∷ rest)) c → Goes q rest c) → words_of q ≡ words_of p + 2 → Leads p (w ∷ (v ∷ ws)) q ws
lead_two p q w v ws there back more = record {
  line = there ws;
  only = back ws;
  fault = λ n b. record {
    good = suc (suc b.good);
    is = omega (arith, b.is, more);
    within = omega (arith, b.within);
    begins = record { rest = b.begins.rest; command = b.begins.command; goes = there (take b.good ws ++ b.begins.rest) b.begins.command b.begins.goes };
    bad = λ h x. b.bad (omega (arith, h)) (record { rest = x.rest; command = x.command; goes = back (take (suc b.good) ws ++ x.rest) x.command x.goes });
    no_line = λ c g. b.no_line c (back ws c g);
  };
}

pub leads_file : (p : Parts) (w : List ℕ) (ws : Words) → ((o : NumberOption) → w ≡ option_word o → ⊥) → (w ≡ codes "--journal" → ⊥) → (w ≡ codes "--input" → ⊥) → p.file ≡ None → IsTrue (is_name w) → Leads p (w ∷ ws) (with_file p w) ws
leads_file p w ws nn nj ni none name = lead_one p (with_file p w) w ws (goes_file p w name none) (λ rest c g. (only_file p w nn nj ni rest c g).goes) (rw none (omega arith))

same_value : (low high : ℕ) (word : List ℕ) (m n : ℕ) → IsValue low high word m → IsValue low high word n → m ≡ n
same_value low high word m n a b = a.value ∙ sym b.value

number_back : (p : Parts) (o : NumberOption) (v : List ℕ) (n : ℕ) → IsValue (least_of o) (most_of o) v n → (rest : Words) (c : Command) → Goes p (option_word o ∷ (v ∷ rest)) c → Goes (with_number p o n) rest c
number_back p o v n value rest c g =
    let x = only_number p o (v ∷ rest) c g in
    let words : v ∷ rest ≡ x.word ∷ x.behind = x.words in
    let word : x.word ≡ v = cc in
    let behind : x.behind ≡ rest = cc in
    let it : IsValue (least_of o) (most_of o) v x.n = rw word at x.value in
    let number : x.n ≡ n = same_value (least_of o) (most_of o) v x.n n it value in
    rw (behind, number) at x.goes

words_more : (p : Parts) (o : NumberOption) (n : ℕ) → number_of_option p.numbers o ≡ None → words_of (with_number p o n) ≡ words_of p + 2
words_more p Processors n none = rw none (omega arith)
words_more p Slice n none = rw none (omega arith)
words_more p Ticks n none = rw none (omega arith)
words_more p Entries n none = rw none (omega arith)

pub leads_number : (p : Parts) (o : NumberOption) (v : List ℕ) (n : ℕ) (ws : Words) → number_of_option p.numbers o ≡ None → IsValue (least_of o) (most_of o) v n → Leads p (option_word o ∷ (v ∷ ws)) (with_number p o n) ws
leads_number p o v n ws none value = lead_two p (with_number p o n) (option_word o) v ws (goes_number p o v n value none) (number_back p o v n value) (words_more p o n none)

pub leads_journal : (p : Parts) (ws : Words) → p.journal ≡ false → Leads p (codes "--journal" ∷ ws) (with_journal p) ws
leads_journal p ws none = lead_one p (with_journal p) (codes "--journal") ws (goes_journal p none) (λ rest c g. (only_journal p rest c g).goes) (rw none (omega arith))

input_back : (p : Parts) (v : List ℕ) (rest : Words) (c : Command) → Goes p (codes "--input" ∷ (v ∷ rest)) c → Goes (with_input p v) rest c
input_back p v rest c g =
    let x = only_input p (v ∷ rest) c g in
    let words : v ∷ rest ≡ x.word ∷ x.behind = x.words in
    let word : x.word ≡ v = cc in
    let behind : x.behind ≡ rest = cc in
    rw (behind, word) at x.goes

pub leads_input : (p : Parts) (v : List ℕ) (ws : Words) → p.input ≡ None → IsTrue (is_name v) → Leads p (codes "--input" ∷ (v ∷ ws)) (with_input p v) ws
leads_input p v ws none name = lead_two p (with_input p v) (codes "--input") v ws (goes_input p v name none) (input_back p v) (rw none (omega arith))

-- Words at fault: the next word, its value, or a value that is missing.

bad_next : (p : Parts) (w : List ℕ) (ws : Words) (n : ℕ) → ((rest : Words) (c : Command) → Goes p (w ∷ rest) c → ⊥) → n ≡ words_of p + 1 → BadRest p (w ∷ ws) n
bad_next p w ws n none is = record {
  good = 0;
  is = is;
  within = omega arith;
  begins = begins_none p;
  bad = λ h b. none b.rest b.command b.goes;
  no_line = λ c g. none ws c g;
}

bad_second : (p : Parts) (w v : List ℕ) (ws : Words) (n : ℕ) → BeginsRest p (w ∷ []) → ((rest : Words) (c : Command) → Goes p (w ∷ (v ∷ rest)) c → ⊥) → n ≡ words_of p + 2 → BadRest p (w ∷ (v ∷ ws)) n
bad_second p w v ws n begins none is = record {
  good = 1;
  is = is;
  within = omega arith;
  begins = begins;
  bad = λ h b. none b.rest b.command b.goes;
  no_line = λ c g. none ws c g;
}

missing : (p : Parts) (w : List ℕ) (n : ℕ) → BeginsRest p (w ∷ []) → ((c : Command) → Goes p (w ∷ []) c → ⊥) → n ≡ words_of p + 2 → BadRest p (w ∷ []) n
missing p w n begins none is = record {
  good = 1;
  is = is;
  within = omega arith;
  begins = begins;
  bad = λ h b. absurd (omega (arith, h));
  no_line = none;
}

no_name : (w : List ℕ) → is_name w ≡ false → IsTrue (is_name w) → ⊥
no_name w n t = absurd (let e : is_name w ≡ true = t in cc)

pub file_twice : (p : Parts) (w : List ℕ) (ws : Words) (n : ℕ) → ((o : NumberOption) → w ≡ option_word o → ⊥) → (w ≡ codes "--journal" → ⊥) → (w ≡ codes "--input" → ⊥) → (p.file ≡ None → ⊥) → n ≡ words_of p + 1 → BadRest p (w ∷ ws) n
file_twice p w ws n nn nj ni told is = bad_next p w ws n (λ rest c g. told (only_file p w nn nj ni rest c g).none) is

pub file_unnamed : (p : Parts) (w : List ℕ) (ws : Words) (n : ℕ) → ((o : NumberOption) → w ≡ option_word o → ⊥) → (w ≡ codes "--journal" → ⊥) → (w ≡ codes "--input" → ⊥) → is_name w ≡ false → n ≡ words_of p + 1 → BadRest p (w ∷ ws) n
file_unnamed p w ws n nn nj ni not_so is = bad_next p w ws n (λ rest c g. no_name w not_so (only_file p w nn nj ni rest c g).name) is

pub number_twice : (p : Parts) (o : NumberOption) (ws : Words) (n : ℕ) → (number_of_option p.numbers o ≡ None → ⊥) → n ≡ words_of p + 1 → BadRest p (option_word o ∷ ws) n
number_twice p o ws n told is = bad_next p (option_word o) ws n (λ rest c g. told (only_number p o rest c g).none) is

true_false : (b : Bool) → b ≡ true → b ≡ false → ⊥
true_false b t f = absurd (let e : true ≡ false = sym t ∙ f in cc)

pub journal_twice : (p : Parts) (ws : Words) (n : ℕ) → p.journal ≡ true → n ≡ words_of p + 1 → BadRest p (codes "--journal" ∷ ws) n
journal_twice p ws n told is = bad_next p (codes "--journal") ws n (λ rest c g. true_false p.journal told (only_journal p rest c g).none) is

pub input_twice : (p : Parts) (ws : Words) (n : ℕ) → (p.input ≡ None → ⊥) → n ≡ words_of p + 1 → BadRest p (codes "--input" ∷ ws) n
input_twice p ws n told is = bad_next p (codes "--input") ws n (λ rest c g. told (only_input p rest c g).none) is

pub number_missing : (p : Parts) (o : NumberOption) (n : ℕ) → number_of_option p.numbers o ≡ None → n ≡ words_of p + 2 → BadRest p (option_word o ∷ []) n
number_missing p o n none is = missing p (option_word o) n (begins_number p o none) (λ c g. absurd (let x = only_number p o [] c g in let e = x.words in cc)) is

pub input_missing : (p : Parts) (n : ℕ) → p.input ≡ None → n ≡ words_of p + 2 → BadRest p (codes "--input" ∷ []) n
input_missing p n none is = missing p (codes "--input") n (begins_input p none) (λ c g. absurd (let x = only_input p [] c g in let e = x.words in cc)) is

no_value : (p : Parts) (o : NumberOption) (v : List ℕ) → ((m : ℕ) → IsValue (least_of o) (most_of o) v m → ⊥) → (rest : Words) (c : Command) → Goes p (option_word o ∷ (v ∷ rest)) c → ⊥
no_value p o v not_so rest c g =
    let x = only_number p o (v ∷ rest) c g in
    let words : v ∷ rest ≡ x.word ∷ x.behind = x.words in
    let word : x.word ≡ v = cc in
    not_so x.n (rw word at x.value)

pub number_bad : (p : Parts) (o : NumberOption) (v : List ℕ) (ws : Words) (n : ℕ) → number_of_option p.numbers o ≡ None → ((m : ℕ) → IsValue (least_of o) (most_of o) v m → ⊥) → n ≡ words_of p + 2 → BadRest p (option_word o ∷ (v ∷ ws)) n
number_bad p o v ws n none not_so is = bad_second p (option_word o) v ws n (begins_number p o none) (no_value p o v not_so) is

unnamed : (p : Parts) (v : List ℕ) → is_name v ≡ false → (rest : Words) (c : Command) → Goes p (codes "--input" ∷ (v ∷ rest)) c → ⊥
unnamed p v not_so rest c g =
    let x = only_input p (v ∷ rest) c g in
    let words : v ∷ rest ≡ x.word ∷ x.behind = x.words in
    let word : x.word ≡ v = cc in
    no_name v not_so (rw word at x.name)

pub input_bad : (p : Parts) (v : List ℕ) (ws : Words) (n : ℕ) → p.input ≡ None → is_name v ≡ false → n ≡ words_of p + 2 → BadRest p (codes "--input" ∷ (v ∷ ws)) n
input_bad p v ws n none not_so is = bad_second p (codes "--input") v ws n (begins_input p none) (unnamed p v not_so) is

-- The end of the words.

same_list : {A : Type 0} (o r : Option A) → option_to_list o ++ [] ≡ option_to_list r → r ≡ o
same_list None None e = refl
same_list None (Some y) e = absurd (cc)
same_list (Some x) None e = absurd (cc)
same_list (Some x) (Some y) e = cc

same_flag : (b r : Bool) → once_if b ++ [] ≡ once_if r → r ≡ b
same_flag true true e = refl
same_flag true false e = absurd (cc)
same_flag false true e = absurd (cc)
same_flag false false e = refl

same_numbers : (ms ns : Numbers) → ((o : NumberOption) → number_of_option ms o ≡ number_of_option ns o) → ms ≡ ns
same_numbers ms ns e =
    ap (λ x. record { processors = x; slice = ms.slice; ticks = ms.ticks; entries = ms.entries }) (e Processors)
    ∙ ap (λ x. record { processors = ns.processors; slice = x; ticks = ms.ticks; entries = ms.entries }) (e Slice)
    ∙ ap (λ x. record { processors = ns.processors; slice = ns.slice; ticks = x; entries = ms.entries }) (e Ticks)
    ∙ ap (λ x. record { processors = ns.processors; slice = ns.slice; ticks = ns.ticks; entries = x }) (e Entries)

no_piece : (ps : List Piece) → [] ≡ flat_map spelled ps → ps ≡ []
no_piece [] e = refl
no_piece (File name ∷ ps) e = absurd (cc)
no_piece (Number o word n ∷ ps) e = absurd (cc)
no_piece (Journal ∷ ps) e = absurd (cc)
no_piece (Input name ∷ ps) e = absurd (cc)

end : (p : Parts) (c : Command) (g : Goes p [] c) → (c ≡ RunFile g.file (options_with p.numbers) p.journal p.input) × (Some g.file ≡ p.file)
end p c g =
    let none : g.pieces ≡ [] = no_piece g.pieces g.spells in
    let ns : g.numbers ≡ p.numbers = same_numbers g.numbers p.numbers (λ o. same_list (number_of_option p.numbers o) (number_of_option g.numbers o) (rw none at (g.one_number o))) in
    let j : g.journal ≡ p.journal = same_flag p.journal g.journal (rw none at g.one_journal) in
    let i : g.input ≡ p.input = same_list p.input g.input (rw none at g.one_input) in
    (rw (ns, j, i) at g.is, same_list p.file (Some g.file) (rw none at g.one_file))

pub end_only : (p : Parts) (file : List ℕ) → p.file ≡ Some file → (c : Command) → Goes p [] c → c ≡ RunFile file (options_with p.numbers) p.journal p.input
end_only p file is c g =
    let e = end p c g in
    let same : g.file ≡ file = let f = e.1 in cc in
    rw same at e.0

pub end_bad : (p : Parts) (n : ℕ) → p.file ≡ None → n ≡ words_of p + 1 → BadRest p [] n
end_bad p n none is = record {
  good = 0;
  is = is;
  within = omega arith;
  begins = begins_none p;
  bad = λ h b. absurd (omega (arith, h));
  no_line = λ c g. absurd (let f = (end p c g).1 in cc);
}

-- Steps one behind another.

pub leads_none : (p : Parts) (ws : Words) → Leads p ws p ws
leads_none p ws = record { line = λ c g. g; only = λ c g. g; fault = λ n b. b }

pub leads_more : (p : Parts) (ws : Words) (q : Parts) (xs : Words) (r : Parts) (ys : Words) → Leads p ws q xs → Leads q xs r ys → Leads p ws r ys
leads_more p ws q xs r ys a b = record {
  line = λ c g. a.line c (b.line c g);
  only = λ c g. b.only c (a.only c g);
  fault = λ n x. a.fault n (b.fault n x);
}
