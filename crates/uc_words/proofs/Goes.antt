-- What a line goes on with, by its next word.
use Rattle.std.proofs.Common.{◌≡◌, ℕ, Bool, true, false, List, [], ◌∷◌, ◌++◌, refl, sym, ◌∙◌, ap, subst}
use Rattle.std.specs.Prelude.{codes, if◌then◌else◌, IsTrue, Option, Some, None, option_to_list, flat_map, filter_map}
use Rattle.std.specs.List.{cons_option}
use Rattle.std.specs.Cmp.Lexicographic.{other_text}
use Rattle.uc_words.specs.declared.numbers.NumberOption.{NumberOption}
use Rattle.uc_words.specs.declared.numbers.NumberOption.TheVariants.{Processors, Slice, Ticks, Entries}
use Rattle.uc_words.specs.Words.{Words, Piece, File, Number, Journal, Input, Command, Numbers, number_of_option, IsValue, option_word, least_of, most_of, same_option, spelled, ArePieces, file_in, number_in, journal_in, input_in, once_if, is_name}
use Rattle.uc_words.specs.Rest.{Parts, Goes, with_file, with_number, numbers_with, with_journal, with_input}

-- what is told twice makes no line

once : {A : Type 0} (o r : Option A) (x : A) (xs : List A) → option_to_list o ++ (x ∷ xs) ≡ option_to_list r → o ≡ None
once None r x xs e = refl
once (Some y) None x xs e = absurd (cc)
once (Some y) (Some z) x xs e = absurd (cc)

once_journal : (b r : Bool) (xs : List Bool) → once_if b ++ (true ∷ xs) ≡ once_if r → b ≡ false
once_journal false r xs e = refl
once_journal true true xs e = absurd (cc)
once_journal true false xs e = absurd (cc)

-- the options that have a number

pub same_is : (r o : NumberOption) → same_option r o ≡ true → r ≡ o
same_is Processors Processors e = refl
same_is Processors Slice e = absurd (cc)
same_is Processors Ticks e = absurd (cc)
same_is Processors Entries e = absurd (cc)
same_is Slice Processors e = absurd (cc)
same_is Slice Slice e = refl
same_is Slice Ticks e = absurd (cc)
same_is Slice Entries e = absurd (cc)
same_is Ticks Processors e = absurd (cc)
same_is Ticks Slice e = absurd (cc)
same_is Ticks Ticks e = refl
same_is Ticks Entries e = absurd (cc)
same_is Entries Processors e = absurd (cc)
same_is Entries Slice e = absurd (cc)
same_is Entries Ticks e = absurd (cc)
same_is Entries Entries e = refl

pub same_word : (r o : NumberOption) → option_word r ≡ option_word o → r ≡ o
same_word Processors Processors e = refl
same_word Processors Slice e = absurd (other_text (option_word Processors) (option_word Slice) refl e)
same_word Processors Ticks e = absurd (other_text (option_word Processors) (option_word Ticks) refl e)
same_word Processors Entries e = absurd (other_text (option_word Processors) (option_word Entries) refl e)
same_word Slice Processors e = absurd (other_text (option_word Slice) (option_word Processors) refl e)
same_word Slice Slice e = refl
same_word Slice Ticks e = absurd (other_text (option_word Slice) (option_word Ticks) refl e)
same_word Slice Entries e = absurd (other_text (option_word Slice) (option_word Entries) refl e)
same_word Ticks Processors e = absurd (other_text (option_word Ticks) (option_word Processors) refl e)
same_word Ticks Slice e = absurd (other_text (option_word Ticks) (option_word Slice) refl e)
same_word Ticks Ticks e = refl
same_word Ticks Entries e = absurd (other_text (option_word Ticks) (option_word Entries) refl e)
same_word Entries Processors e = absurd (other_text (option_word Entries) (option_word Processors) refl e)
same_word Entries Slice e = absurd (other_text (option_word Entries) (option_word Slice) refl e)
same_word Entries Ticks e = absurd (other_text (option_word Entries) (option_word Ticks) refl e)
same_word Entries Entries e = refl

same_self : (o : NumberOption) → same_option o o ≡ true
same_self Processors = refl
same_self Slice = refl
same_self Ticks = refl
same_self Entries = refl

not_name : (o : NumberOption) → IsTrue (is_name (option_word o)) → ⊥
not_name Processors n = absurd (let e : is_name (option_word Processors) ≡ true = n in cc)
not_name Slice n = absurd (let e : is_name (option_word Slice) ≡ true = n in cc)
not_name Ticks n = absurd (let e : is_name (option_word Ticks) ≡ true = n in cc)
not_name Entries n = absurd (let e : is_name (option_word Entries) ≡ true = n in cc)

not_journal : (o : NumberOption) → option_word o ≡ codes "--journal" → ⊥
not_journal Processors e = other_text (option_word Processors) (codes "--journal") refl e
not_journal Slice e = other_text (option_word Slice) (codes "--journal") refl e
not_journal Ticks e = other_text (option_word Ticks) (codes "--journal") refl e
not_journal Entries e = other_text (option_word Entries) (codes "--journal") refl e

not_input : (o : NumberOption) → option_word o ≡ codes "--input" → ⊥
not_input Processors e = other_text (option_word Processors) (codes "--input") refl e
not_input Slice e = other_text (option_word Slice) (codes "--input") refl e
not_input Ticks e = other_text (option_word Ticks) (codes "--input") refl e
not_input Entries e = other_text (option_word Entries) (codes "--input") refl e

number_told : (ns : Numbers) (o : NumberOption) (n : ℕ) (r : NumberOption) → number_of_option (numbers_with ns o n) r ≡ (if same_option r o then Some n else number_of_option ns r)
number_told ns Processors n Processors = refl
number_told ns Processors n Slice = refl
number_told ns Processors n Ticks = refl
number_told ns Processors n Entries = refl
number_told ns Slice n Processors = refl
number_told ns Slice n Slice = refl
number_told ns Slice n Ticks = refl
number_told ns Slice n Entries = refl
number_told ns Ticks n Processors = refl
number_told ns Ticks n Slice = refl
number_told ns Ticks n Ticks = refl
number_told ns Ticks n Entries = refl
number_told ns Entries n Processors = refl
number_told ns Entries n Slice = refl
number_told ns Entries n Ticks = refl
number_told ns Entries n Entries = refl

number_step : (b : Bool) (told : Option ℕ) (n : ℕ) (rest end : List ℕ) → (b ≡ true → told ≡ None) → option_to_list (if b then Some n else told) ++ rest ≡ end → option_to_list told ++ cons_option (if b then Some n else None) rest ≡ end
number_step true told n rest end none e = rw (none refl) e
number_step false told n rest end none e = e

number_back : (b : Bool) (told : Option ℕ) (n : ℕ) (rest end : List ℕ) → (b ≡ true → told ≡ None) → option_to_list told ++ cons_option (if b then Some n else None) rest ≡ end → option_to_list (if b then Some n else told) ++ rest ≡ end
number_back true told n rest end none e = rw (none refl) at e
number_back false told n rest end none e = e

none_there : (ns : Numbers) (o : NumberOption) → number_of_option ns o ≡ None → (r : NumberOption) → same_option r o ≡ true → number_of_option ns r ≡ None
none_there ns o none r e = ap (number_of_option ns) (same_is r o e) ∙ none

-- one piece more

pub goes_file : (p : Parts) (name : List ℕ) → IsTrue (is_name name) → p.file ≡ None → (ws : Words) (c : Command) → Goes (with_file p name) ws c → Goes p (name ∷ ws) c
goes_file p name n none ws c g = record {
  pieces = File name ∷ g.pieces;
  file = g.file;
  numbers = g.numbers;
  journal = g.journal;
  input = g.input;
  is = g.is;
  spells = ap (λ x. name ∷ x) g.spells;
  fit = (n, g.fit);
  one_file = rw none g.one_file;
  one_number = g.one_number;
  one_journal = g.one_journal;
  one_input = g.one_input;
}

pub goes_number : (p : Parts) (o : NumberOption) (word : List ℕ) (n : ℕ) → IsValue (least_of o) (most_of o) word n → number_of_option p.numbers o ≡ None → (ws : Words) (c : Command) → Goes (with_number p o n) ws c → Goes p (option_word o ∷ (word ∷ ws)) c
goes_number p o word n v none ws c g = record {
  pieces = Number o word n ∷ g.pieces;
  file = g.file;
  numbers = g.numbers;
  journal = g.journal;
  input = g.input;
  is = g.is;
  spells = ap (λ x. option_word o ∷ (word ∷ x)) g.spells;
  fit = (v, g.fit);
  one_file = g.one_file;
  one_number = λ r. number_step (same_option r o) (number_of_option p.numbers r) n (filter_map (number_in r) g.pieces) (option_to_list (number_of_option g.numbers r)) (none_there p.numbers o none r)
      (ap (λ t. option_to_list t ++ filter_map (number_in r) g.pieces) (sym (number_told p.numbers o n r)) ∙ g.one_number r);
  one_journal = g.one_journal;
  one_input = g.one_input;
}

pub goes_journal : (p : Parts) → p.journal ≡ false → (ws : Words) (c : Command) → Goes (with_journal p) ws c → Goes p (codes "--journal" ∷ ws) c
goes_journal p none ws c g = record {
  pieces = Journal ∷ g.pieces;
  file = g.file;
  numbers = g.numbers;
  journal = g.journal;
  input = g.input;
  is = g.is;
  spells = ap (λ x. codes "--journal" ∷ x) g.spells;
  fit = (tt, g.fit);
  one_file = g.one_file;
  one_number = g.one_number;
  one_journal = rw none g.one_journal;
  one_input = g.one_input;
}

pub goes_input : (p : Parts) (name : List ℕ) → IsTrue (is_name name) → p.input ≡ None → (ws : Words) (c : Command) → Goes (with_input p name) ws c → Goes p (codes "--input" ∷ (name ∷ ws)) c
goes_input p name n none ws c g = record {
  pieces = Input name ∷ g.pieces;
  file = g.file;
  numbers = g.numbers;
  journal = g.journal;
  input = g.input;
  is = g.is;
  spells = ap (λ x. codes "--input" ∷ (name ∷ x)) g.spells;
  fit = (n, g.fit);
  one_file = g.one_file;
  one_number = g.one_number;
  one_journal = g.one_journal;
  one_input = rw none g.one_input;
}

-- what the next word begins

pub record FileNext (p : Parts) (w : List ℕ) (ws : Words) (c : Command) : Type 0 where
  pub name : IsTrue (is_name w)
  pub none : p.file ≡ None
  pub goes : Goes (with_file p w) ws c

pub record NumberNext (p : Parts) (o : NumberOption) (ws : Words) (c : Command) : Type 0 where
  pub word : List ℕ
  pub n : ℕ
  pub behind : Words
  pub words : ws ≡ word ∷ behind
  pub value : IsValue (least_of o) (most_of o) word n
  pub none : number_of_option p.numbers o ≡ None
  pub goes : Goes (with_number p o n) behind c

pub record JournalNext (p : Parts) (w : List ℕ) (ws : Words) (c : Command) : Type 0 where
  pub option : w ≡ codes "--journal"
  pub none : p.journal ≡ false
  pub goes : Goes (with_journal p) ws c

pub record InputNext (p : Parts) (w : List ℕ) (ws : Words) (c : Command) : Type 0 where
  pub word : List ℕ
  pub behind : Words
  pub option : w ≡ codes "--input"
  pub words : ws ≡ word ∷ behind
  pub name : IsTrue (is_name word)
  pub none : p.input ≡ None
  pub goes : Goes (with_input p word) behind c

pub data Next (p : Parts) (w : List ℕ) (ws : Words) (c : Command) : Type 0 where
  IsFile : FileNext p w ws c → Next p w ws c
  IsNumber : (o : NumberOption) → w ≡ option_word o → NumberNext p o ws c → Next p w ws c
  IsJournal : JournalNext p w ws c → Next p w ws c
  IsInput : InputNext p w ws c → Next p w ws c

next_of : (p : Parts) (w : List ℕ) (ws : Words) (c : Command) (ps : List Piece) (g : Goes p (w ∷ ws) c) → g.pieces ≡ ps → Next p w ws c
next_of p w ws c [] g is = absurd (let e : w ∷ ws ≡ [] = g.spells ∙ ap (flat_map spelled) is in cc)
next_of p w ws c (File name ∷ ps) g is =
    let spells : w ∷ ws ≡ name ∷ flat_map spelled ps = g.spells ∙ ap (flat_map spelled) is in
    let same : w ≡ name = cc in
    let fit : IsTrue (is_name name) × ArePieces ps = rw is at g.fit in
    let files : option_to_list p.file ++ (name ∷ filter_map file_in ps) ≡ option_to_list (Some g.file) = rw is at g.one_file in
    let none : p.file ≡ None = once p.file (Some g.file) name (filter_map file_in ps) files in
    IsFile (record {
      name = rw same fit.0;
      none = none;
      goes = record {
        pieces = ps;
        file = g.file;
        numbers = g.numbers;
        journal = g.journal;
        input = g.input;
        is = g.is;
        spells = cc;
        fit = fit.1;
        one_file = rw same (rw none at files);
        one_number = λ r. rw is at (g.one_number r);
        one_journal = rw is at g.one_journal;
        one_input = rw is at g.one_input;
      };
    })
next_of p w ws c (Number o word n ∷ ps) g is =
    let spells : w ∷ ws ≡ option_word o ∷ (word ∷ flat_map spelled ps) = g.spells ∙ ap (flat_map spelled) is in
    let fit : IsValue (least_of o) (most_of o) word n × ArePieces ps = rw is at g.fit in
    let here : option_to_list (number_of_option p.numbers o) ++ cons_option (if same_option o o then Some n else None) (filter_map (number_in o) ps) ≡ option_to_list (number_of_option g.numbers o) = rw is at (g.one_number o) in
    let none : number_of_option p.numbers o ≡ None = once (number_of_option p.numbers o) (number_of_option g.numbers o) n (filter_map (number_in o) ps) (rw (same_self o) at here) in
    IsNumber o (cc) (record {
      word = word;
      n = n;
      behind = flat_map spelled ps;
      words = cc;
      value = fit.0;
      none = none;
      goes = record {
        pieces = ps;
        file = g.file;
        numbers = g.numbers;
        journal = g.journal;
        input = g.input;
        is = g.is;
        spells = refl;
        fit = fit.1;
        one_file = rw is at g.one_file;
        one_number = λ r. ap (λ t. option_to_list t ++ filter_map (number_in r) ps) (number_told p.numbers o n r) ∙ number_back (same_option r o) (number_of_option p.numbers r) n (filter_map (number_in r) ps) (option_to_list (number_of_option g.numbers r)) (none_there p.numbers o none r) (rw is at (g.one_number r));
        one_journal = rw is at g.one_journal;
        one_input = rw is at g.one_input;
      };
    })
next_of p w ws c (Journal ∷ ps) g is =
    let spells : w ∷ ws ≡ codes "--journal" ∷ flat_map spelled ps = g.spells ∙ ap (flat_map spelled) is in
    let fit : Unit {0} × ArePieces ps = rw is at g.fit in
    let here : once_if p.journal ++ (true ∷ filter_map journal_in ps) ≡ once_if g.journal = rw is at g.one_journal in
    let none : p.journal ≡ false = once_journal p.journal g.journal (filter_map journal_in ps) here in
    IsJournal (record {
      option = cc;
      none = none;
      goes = record {
        pieces = ps;
        file = g.file;
        numbers = g.numbers;
        journal = g.journal;
        input = g.input;
        is = g.is;
        spells = cc;
        fit = fit.1;
        one_file = rw is at g.one_file;
        one_number = λ r. rw is at (g.one_number r);
        one_journal = rw none at here;
        one_input = rw is at g.one_input;
      };
    })
next_of p w ws c (Input name ∷ ps) g is =
    let spells : w ∷ ws ≡ codes "--input" ∷ (name ∷ flat_map spelled ps) = g.spells ∙ ap (flat_map spelled) is in
    let fit : IsTrue (is_name name) × ArePieces ps = rw is at g.fit in
    let inputs : option_to_list p.input ++ (name ∷ filter_map input_in ps) ≡ option_to_list g.input = rw is at g.one_input in
    let none : p.input ≡ None = once p.input g.input name (filter_map input_in ps) inputs in
    IsInput (record {
      word = name;
      behind = flat_map spelled ps;
      option = cc;
      words = cc;
      name = fit.0;
      none = none;
      goes = record {
        pieces = ps;
        file = g.file;
        numbers = g.numbers;
        journal = g.journal;
        input = g.input;
        is = g.is;
        spells = refl;
        fit = fit.1;
        one_file = rw is at g.one_file;
        one_number = λ r. rw is at (g.one_number r);
        one_journal = rw is at g.one_journal;
        one_input = rw none at inputs;
      };
    })

pub next : (p : Parts) (w : List ℕ) (ws : Words) (c : Command) → Goes p (w ∷ ws) c → Next p w ws c
next p w ws c g = next_of p w ws c g.pieces g refl

journal_no_name : (w : List ℕ) → IsTrue (is_name w) → w ≡ codes "--journal" → ⊥
journal_no_name w n e = absurd (let a : is_name w ≡ is_name (codes "--journal") = ap is_name e in cc)

input_no_name : (w : List ℕ) → IsTrue (is_name w) → w ≡ codes "--input" → ⊥
input_no_name w n e = absurd (let a : is_name w ≡ is_name (codes "--input") = ap is_name e in cc)

-- a word that is no option begins a file
pub only_file : (p : Parts) (w : List ℕ) → ((o : NumberOption) → w ≡ option_word o → ⊥) → (w ≡ codes "--journal" → ⊥) → (w ≡ codes "--input" → ⊥) → (ws : Words) (c : Command) → Goes p (w ∷ ws) c → FileNext p w ws c
only_file p w nn nj ni ws c g = elim (next p w ws c g) [ IsFile f ↦ f | IsNumber o e n ↦ absurd (nn o e) | IsJournal j ↦ absurd (nj j.option) | IsInput n ↦ absurd (ni n.option) ]

number_at : (p : Parts) (o q : NumberOption) (ws : Words) (c : Command) → option_word o ≡ option_word q → NumberNext p q ws c → NumberNext p o ws c
number_at p o q ws c e n = subst (λ x. NumberNext p x ws c) (sym (same_word o q e)) n

pub only_number : (p : Parts) (o : NumberOption) (ws : Words) (c : Command) → Goes p (option_word o ∷ ws) c → NumberNext p o ws c
only_number p o ws c g = elim (next p (option_word o) ws c g) [ IsFile f ↦ absurd (not_name o f.name) | IsNumber q e n ↦ number_at p o q ws c e n | IsJournal j ↦ absurd (not_journal o j.option) | IsInput n ↦ absurd (not_input o n.option) ]

pub only_journal : (p : Parts) (ws : Words) (c : Command) → Goes p (codes "--journal" ∷ ws) c → JournalNext p (codes "--journal") ws c
only_journal p ws c g = elim (next p (codes "--journal") ws c g) [ IsFile f ↦ absurd (journal_no_name (codes "--journal") f.name refl) | IsNumber o e n ↦ absurd (not_journal o (sym e)) | IsJournal j ↦ j | IsInput n ↦ absurd (other_text (codes "--journal") (codes "--input") refl n.option) ]

pub only_input : (p : Parts) (ws : Words) (c : Command) → Goes p (codes "--input" ∷ ws) c → InputNext p (codes "--input") ws c
only_input p ws c g = elim (next p (codes "--input") ws c g) [ IsFile f ↦ absurd (input_no_name (codes "--input") f.name refl) | IsNumber o e n ↦ absurd (not_input o (sym e)) | IsJournal j ↦ absurd (other_text (codes "--input") (codes "--journal") refl j.option) | IsInput n ↦ n ]
