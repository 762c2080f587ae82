-- Whole lines, and the first word at fault among all words.
use Rattle.std.proofs.Common.{◌≡◌, ℕ, zero, suc, ◌-◌, ◌<◌, ◌≤◌, List, [], ◌∷◌, ◌++◌, take, drop, refl, sym, ◌∙◌, ap, inl, inr, arith, append_assoc, subst, map, true}
use Rattle.std.specs.Prelude.{codes, IsTrue, None, option_to_list, filter_map}
use Rattle.std.specs.Cmp.Lexicographic.{other_text}
use Rattle.uc_tree.specs.Tokens.{value_of}
use Rattle.uc_tree.specs.declared.limits.TheConstants.{MAKE_MAX, OBJECTS}
use Rattle.uc_words.specs.declared.numbers.NumberOption.{NumberOption}
use Rattle.uc_words.specs.declared.numbers.NumberOption.TheVariants.{Processors, Slice, Ticks, Entries}
use Rattle.uc_words.specs.Words.{number_of_option, number_in, Words, Command, RunFile, CheckFile, LowerFile, MakeProgram, ExplainJournal, IsLine, IsMakeLine, IsExplainLine, IsValue, Begins, IsFirstBad, is_name, options_with}
use Rattle.uc_words.specs.Rest.{Goes, BeginsRest, BadRest, nothing}
use Rattle.uc_words.specs.Commands.{IsFileCommand}
use Rattle.uc_words.proofs.Faults.{begins_none, digits_1}

none_told : (o : NumberOption) → number_of_option nothing.numbers o ≡ None
none_told Processors = refl
none_told Slice = refl
none_told Ticks = refl
none_told Entries = refl

run_line : (ws : Words) (c : Command) (g : Goes nothing ws c) → IsLine (codes "run" ∷ ws) (RunFile g.file (options_with g.numbers) g.journal g.input)
run_line ws c g = record {
  pieces = g.pieces;
  numbers = g.numbers;
  spells = ap (λ x. codes "run" ∷ x) g.spells;
  fit = g.fit;
  one_file = g.one_file;
  one_number = λ o. ap (λ t. option_to_list t ++ filter_map (number_in o) g.pieces) (sym (none_told o)) ∙ g.one_number o;
  one_journal = g.one_journal;
  one_input = g.one_input;
  options = refl;
}

pub line_of : (ws : Words) (c : Command) → Goes nothing ws c → IsLine (codes "run" ∷ ws) c
line_of ws c g = subst (IsLine (codes "run" ∷ ws)) (sym g.is) (run_line ws c g)

pub goes_of : (w : List ℕ) (ws : Words) (c : Command) → w ≡ codes "run" → IsLine (w ∷ ws) c → Goes nothing ws c
goes_of w ws (RunFile file opts journal input) run l = record {
  pieces = l.pieces;
  file = file;
  numbers = l.numbers;
  journal = journal;
  input = input;
  is = ap (λ x. RunFile file x journal input) l.options;
  spells = let e = l.spells in cc;
  fit = l.fit;
  one_file = l.one_file;
  one_number = λ o. ap (λ t. option_to_list t ++ filter_map (number_in o) l.pieces) (none_told o) ∙ l.one_number o;
  one_journal = l.one_journal;
  one_input = l.one_input;
}
goes_of w ws (CheckFile file) run l = absurd (let e = l.spells in cc)
goes_of w ws (LowerFile file) run l = absurd (let e = l.spells in cc)
goes_of w ws (MakeProgram n) run l = absurd (let e = l.spells in cc)
goes_of w ws (ExplainJournal journal object) run l = absurd (let e = l.spells in cc)

no_words : (c : Command) → IsLine [] c → ⊥
no_words (RunFile file opts journal input) l = absurd (let e = l.spells in cc)
no_words (CheckFile file) l = absurd (let e = l.spells in cc)
no_words (LowerFile file) l = absurd (let e = l.spells in cc)
no_words (MakeProgram n) l = absurd (let e = l.spells in cc)
no_words (ExplainJournal journal object) l = absurd (let e = l.spells in cc)

begins_run : (ws : Words) → BeginsRest nothing ws → Begins (codes "run" ∷ ws)
begins_run ws b = record { rest = b.rest; command = b.command; line = line_of (ws ++ b.rest) b.command b.goes }

pub begins_nothing : Begins []
begins_nothing = let b = begins_run [] (begins_none nothing) in record { rest = codes "run" ∷ b.rest; command = b.command; line = b.line }

-- what words begin with begins alike
shorter : (k j : ℕ) (xs : Words) → k ≤ j → take k xs ++ drop k (take j xs) ≡ take j xs
shorter zero j xs h = refl
shorter (suc k) zero xs h = absurd (omega (arith, h))
shorter (suc k) (suc j) [] h = refl
shorter (suc k) (suc j) (x ∷ xs) h = ap (λ t. x ∷ t) (shorter k j xs (omega (arith, h)))

begins_shorter : (k j : ℕ) (xs : Words) → k ≤ j → Begins (take j xs) → Begins (take k xs)
begins_shorter k j xs h b =
    let same : take k xs ++ (drop k (take j xs) ++ b.rest) ≡ take j xs ++ b.rest = sym (append_assoc (take k xs) (drop k (take j xs)) b.rest) ∙ ap (λ t. t ++ b.rest) (shorter k j xs h) in
    record { rest = drop k (take j xs) ++ b.rest; command = b.command; line = rw same b.line }

rest_of : (ws : Words) → Begins (codes "run" ∷ ws) → BeginsRest nothing ws
rest_of ws b = record { rest = b.rest; command = b.command; goes = goes_of (codes "run") (ws ++ b.rest) b.command refl b.line }

pub bad_of : (ws : Words) (n : ℕ) → BadRest nothing ws n → IsFirstBad (codes "run" ∷ ws) n
bad_of ws n b =
    let is : n ≡ suc (suc b.good) = omega (arith, b.is) in
    rw is (record {
      within = omega (arith, b.within);
      before = λ k h. begins_shorter k (suc b.good) (codes "run" ∷ ws) (omega (arith, h)) (begins_run (take b.good ws) b.begins);
      bad = λ h x. b.bad (omega (arith, h)) (rest_of (take (suc b.good) ws) x);
      no_line = λ c l. b.no_line c (goes_of (codes "run") ws c refl l);
    })

before_one : (words : Words) (k : ℕ) → k < 1 → Begins (take k words)
before_one words zero h = begins_nothing
before_one words (suc k) h = absurd (omega (arith, h))

pub bad_none : IsFirstBad [] 1
bad_none = record {
  within = omega arith;
  before = before_one [];
  bad = λ h b. absurd (omega (arith, h));
  no_line = no_words;
}

-- the words that a line begins with
pub data Leading (w : List ℕ) : Type 0 where
  is_run : w ≡ codes "run" → Leading w
  is_check : w ≡ codes "check" → Leading w
  is_lower : w ≡ codes "lower" → Leading w
  is_make : w ≡ codes "make" → Leading w
  is_explain : w ≡ codes "explain" → Leading w

leading : (w : List ℕ) (ws : Words) (c : Command) → IsLine (w ∷ ws) c → Leading w
leading w ws (RunFile file opts journal input) l = is_run (let e = l.spells in cc)
leading w ws (CheckFile file) l = is_check (let e = l.spells in cc)
leading w ws (LowerFile file) l = is_lower (let e = l.spells in cc)
leading w ws (MakeProgram n) l = is_make (let e = l.spells in cc)
leading w ws (ExplainJournal journal object) l = is_explain (let e = l.spells in cc)

pub bad_command : (w : List ℕ) (ws : Words) → (Leading w → ⊥) → IsFirstBad (w ∷ ws) 1
bad_command w ws not_one = record {
  within = omega arith;
  before = before_one (w ∷ ws);
  bad = λ h b. not_one (leading w b.rest b.command b.line);
  no_line = λ c l. not_one (leading w ws c l);
}

pub no_leading : (w : List ℕ) → (w ≡ codes "run" → ⊥) → (w ≡ codes "check" → ⊥) → (w ≡ codes "lower" → ⊥) → (w ≡ codes "make" → ⊥) → (w ≡ codes "explain" → ⊥) → Leading w → ⊥
no_leading w r c l m x (is_run e) = r e
no_leading w r c l m x (is_check e) = c e
no_leading w r c l m x (is_lower e) = l e
no_leading w r c l m x (is_make e) = m e
no_leading w r c l m x (is_explain e) = x e

-- Commands with one word behind them.

record Second (Is : List ℕ → Type 0) (ws : Words) : Type 0 where
  word : List ℕ
  words : ws ≡ word ∷ []
  is : Is word

record TwoWords (w : List ℕ) (Is : List ℕ → Type 0) : Type 0 where
  line : (v : List ℕ) → Is v → (c : Command) × IsLine (w ∷ (v ∷ [])) c
  back : (ws : Words) (c : Command) → IsLine (w ∷ ws) c → Second Is ws
  some : List ℕ
  is_some : Is some

begins_word : (w : List ℕ) (Is : List ℕ → Type 0) → TwoWords w Is → Begins (w ∷ [])
begins_word w Is t = let l = t.line t.some t.is_some in record { rest = t.some ∷ []; command = l.0; line = l.1 }

begins_both : (w : List ℕ) (Is : List ℕ → Type 0) → TwoWords w Is → (v : List ℕ) → Is v → Begins (w ∷ (v ∷ []))
begins_both w Is t v is = let l = t.line v is in record { rest = []; command = l.0; line = l.1 }

before_two : (w : List ℕ) (Is : List ℕ → Type 0) → TwoWords w Is → (ws : Words) (k : ℕ) → k < 2 → Begins (take k (w ∷ ws))
before_two w Is t ws zero h = begins_nothing
before_two w Is t ws (suc zero) h = begins_word w Is t
before_two w Is t ws (suc (suc k)) h = absurd (omega (arith, h))

before_three : (w : List ℕ) (Is : List ℕ → Type 0) → TwoWords w Is → (v : List ℕ) → Is v → (ws : Words) (k : ℕ) → k < 3 → Begins (take k (w ∷ (v ∷ ws)))
before_three w Is t v is ws zero h = begins_nothing
before_three w Is t v is ws (suc zero) h = begins_word w Is t
before_three w Is t v is ws (suc (suc zero)) h = begins_both w Is t v is
before_three w Is t v is ws (suc (suc (suc k))) h = absurd (omega (arith, h))

second_none : (Is : List ℕ → Type 0) → Second Is [] → ⊥
second_none Is s = absurd (let e = s.words in cc)

second_same : (Is : List ℕ → Type 0) (v : List ℕ) (ws : Words) → Second Is (v ∷ ws) → Is v
second_same Is v ws s = let e : s.word ≡ v = let x = s.words in cc in rw e at s.is

second_more : (Is : List ℕ → Type 0) (v x : List ℕ) (ws : Words) → Second Is (v ∷ (x ∷ ws)) → ⊥
second_more Is v x ws s = absurd (let e = s.words in cc)

second_missing : (w : List ℕ) (Is : List ℕ → Type 0) → TwoWords w Is → IsFirstBad (w ∷ []) 2
second_missing w Is t = record {
  within = omega arith;
  before = before_two w Is t [];
  bad = λ h b. absurd (omega (arith, h));
  no_line = λ c l. second_none Is (t.back [] c l);
}

second_bad : (w : List ℕ) (Is : List ℕ → Type 0) → TwoWords w Is → (v : List ℕ) (ws : Words) → (Is v → ⊥) → IsFirstBad (w ∷ (v ∷ ws)) 2
second_bad w Is t v ws not_so = record {
  within = omega arith;
  before = before_two w Is t (v ∷ ws);
  bad = λ h b. not_so (second_same Is v b.rest (t.back (v ∷ b.rest) b.command b.line));
  no_line = λ c l. not_so (second_same Is v ws (t.back (v ∷ ws) c l));
}

third_bad : (w : List ℕ) (Is : List ℕ → Type 0) → TwoWords w Is → (v x : List ℕ) (ws : Words) → Is v → IsFirstBad (w ∷ (v ∷ (x ∷ ws))) 3
third_bad w Is t v x ws is = record {
  within = omega arith;
  before = before_three w Is t v is (x ∷ ws);
  bad = λ h b. second_more Is v x b.rest (t.back (v ∷ (x ∷ b.rest)) b.command b.line);
  no_line = λ c l. second_more Is v x ws (t.back (v ∷ (x ∷ ws)) c l);
}

-- a command that has a file alone

abbrev Named : List ℕ → Type 0
Named v = IsTrue (is_name v)

file_line : (w : List ℕ) → IsFileCommand w → (v : List ℕ) → Named v → (c : Command) × IsLine (w ∷ (v ∷ [])) c
file_line w (inl e) v n = (CheckFile v, record { spells = ap (λ x. x ∷ (v ∷ [])) e; name = n })
file_line w (inr e) v n = (LowerFile v, record { spells = ap (λ x. x ∷ (v ∷ [])) e; name = n })

file_back : (w : List ℕ) → IsFileCommand w → (ws : Words) (c : Command) → IsLine (w ∷ ws) c → Second Named ws
file_back w (inl e) ws (RunFile file opts journal input) l = absurd (let s = l.spells in cc)
file_back w (inr e) ws (RunFile file opts journal input) l = absurd (let s = l.spells in cc)
file_back w x ws (CheckFile file) l = record { word = file; words = let s = l.spells in cc; is = l.name }
file_back w x ws (LowerFile file) l = record { word = file; words = let s = l.spells in cc; is = l.name }
file_back w (inl e) ws (MakeProgram n) l = absurd (let s = l.spells in cc)
file_back w (inr e) ws (MakeProgram n) l = absurd (let s = l.spells in cc)
file_back w (inl e) ws (ExplainJournal journal object) l = absurd (let s = l.spells in cc)
file_back w (inr e) ws (ExplainJournal journal object) l = absurd (let s = l.spells in cc)

file_words : (w : List ℕ) → IsFileCommand w → TwoWords w Named
file_words w x = record { line = file_line w x; back = file_back w x; some = 97 ∷ []; is_some = refl }

pub file_missing : (w : List ℕ) → IsFileCommand w → IsFirstBad (w ∷ []) 2
file_missing w x = second_missing w Named (file_words w x)

pub file_bad : (w : List ℕ) → IsFileCommand w → (v : List ℕ) (ws : Words) → (Named v → ⊥) → IsFirstBad (w ∷ (v ∷ ws)) 2
file_bad w x v ws n = second_bad w Named (file_words w x) v ws n

pub file_more : (w : List ℕ) → IsFileCommand w → (v y : List ℕ) (ws : Words) → Named v → IsFirstBad (w ∷ (v ∷ (y ∷ ws))) 3
file_more w x v y ws n = third_bad w Named (file_words w x) v y ws n

-- `make`

abbrev Tasks : List ℕ → Type 0
Tasks v = (n : ℕ) × IsValue 1 MAKE_MAX v n

make_back : (ws : Words) (c : Command) → IsLine (codes "make" ∷ ws) c → Second Tasks ws
make_back ws (RunFile file opts journal input) l = absurd (let s = l.spells in cc)
make_back ws (CheckFile file) l = absurd (let s = l.spells in cc)
make_back ws (LowerFile file) l = absurd (let s = l.spells in cc)
make_back ws (ExplainJournal journal object) l = absurd (let s = l.spells in cc)
make_back ws (MakeProgram n) l = record { word = l.word; words = let s = l.spells in cc; is = (n, l.value) }

one_task : Tasks (codes "1")
one_task = (1, record { digits = digits_1; plain = refl; value = refl; low = omega arith; high = omega arith })

make_line : (v : List ℕ) → Tasks v → (c : Command) × IsLine (codes "make" ∷ (v ∷ [])) c
make_line v t = (MakeProgram t.0, record { word = v; spells = refl; value = t.1 })

make_words : TwoWords (codes "make") Tasks
make_words = record { line = make_line; back = make_back; some = codes "1"; is_some = one_task }

pub make_missing : IsFirstBad (codes "make" ∷ []) 2
make_missing = second_missing (codes "make") Tasks make_words

pub make_bad : (v : List ℕ) (ws : Words) → ((n : ℕ) → IsValue 1 MAKE_MAX v n → ⊥) → IsFirstBad (codes "make" ∷ (v ∷ ws)) 2
make_bad v ws n = second_bad (codes "make") Tasks make_words v ws (λ t. n t.0 t.1)

pub make_more : (v y : List ℕ) (ws : Words) (n : ℕ) → IsValue 1 MAKE_MAX v n → IsFirstBad (codes "make" ∷ (v ∷ (y ∷ ws))) 3
make_more v y ws n value = third_bad (codes "make") Tasks make_words v y ws (n, value)

-- `explain`

abbrev Object : List ℕ → Type 0
Object v = (n : ℕ) × IsValue 0 (OBJECTS - 1) v n

record Both (ws : Words) : Type 0 where
  name : List ℕ
  word : List ℕ
  words : ws ≡ name ∷ (word ∷ [])
  named : Named name
  is : Object word

explain_back : (ws : Words) (c : Command) → IsLine (codes "explain" ∷ ws) c → Both ws
explain_back ws (RunFile file opts journal input) l = absurd (let s = l.spells in cc)
explain_back ws (CheckFile file) l = absurd (let s = l.spells in cc)
explain_back ws (LowerFile file) l = absurd (let s = l.spells in cc)
explain_back ws (MakeProgram n) l = absurd (let s = l.spells in cc)
explain_back ws (ExplainJournal journal object) l = record { name = journal; word = l.word; words = let s = l.spells in cc; named = l.name; is = (object, l.value) }

explain_line : (v x : List ℕ) → Named v → (is : Object x) → IsLine (codes "explain" ∷ (v ∷ (x ∷ []))) (ExplainJournal v is.0)
explain_line v x named is = record { word = x; spells = refl; name = named; value = is.1 }

some_object : Object (codes "1")
some_object = (1, record { digits = digits_1; plain = refl; value = refl; low = omega arith; high = omega arith })

begins_object : (v x : List ℕ) → Named v → Object x → Begins (codes "explain" ∷ (v ∷ (x ∷ [])))
begins_object v x named is = record { rest = []; command = ExplainJournal v is.0; line = explain_line v x named is }

begins_journal : (v : List ℕ) → Named v → Begins (codes "explain" ∷ (v ∷ []))
unfolding some_object
begins_journal v named = record { rest = codes "1" ∷ []; command = ExplainJournal v 1; line = explain_line v (codes "1") named some_object }

begins_explain : Begins (codes "explain" ∷ [])
unfolding some_object
begins_explain = record { rest = (97 ∷ []) ∷ (codes "1" ∷ []); command = ExplainJournal (97 ∷ []) 1; line = explain_line (97 ∷ []) (codes "1") refl some_object }

both_none : Both [] → ⊥
both_none b = absurd (let e = b.words in cc)

both_first : (v : List ℕ) (ws : Words) → Both (v ∷ ws) → Named v
both_first v ws b = let e : b.name ≡ v = let x = b.words in cc in rw e at b.named

both_one : (v : List ℕ) → Both (v ∷ []) → ⊥
both_one v b = absurd (let e = b.words in cc)

both_second : (v x : List ℕ) (ws : Words) → Both (v ∷ (x ∷ ws)) → Object x
both_second v x ws b = let e : b.word ≡ x = let y = b.words in cc in rw e at b.is

both_more : (v x y : List ℕ) (ws : Words) → Both (v ∷ (x ∷ (y ∷ ws))) → ⊥
both_more v x y ws b = absurd (let e = b.words in cc)

before_journal : (ws : Words) (k : ℕ) → k < 2 → Begins (take k (codes "explain" ∷ ws))
before_journal ws k h = begins_shorter k 1 (codes "explain" ∷ ws) (omega (arith, h)) begins_explain

before_object : (v : List ℕ) (ws : Words) → Named v → (k : ℕ) → k < 3 → Begins (take k (codes "explain" ∷ (v ∷ ws)))
before_object v ws named k h = begins_shorter k 2 (codes "explain" ∷ (v ∷ ws)) (omega (arith, h)) (begins_journal v named)

before_more : (v x : List ℕ) (ws : Words) → Named v → Object x → (k : ℕ) → k < 4 → Begins (take k (codes "explain" ∷ (v ∷ (x ∷ ws))))
before_more v x ws named is k h = begins_shorter k 3 (codes "explain" ∷ (v ∷ (x ∷ ws))) (omega (arith, h)) (begins_object v x named is)

pub journal_missing : IsFirstBad (codes "explain" ∷ []) 2
journal_missing = record {
  within = omega arith;
  before = before_journal [];
  bad = λ h b. absurd (omega (arith, h));
  no_line = λ c l. both_none (explain_back [] c l);
}

pub journal_bad : (v : List ℕ) (ws : Words) → (Named v → ⊥) → IsFirstBad (codes "explain" ∷ (v ∷ ws)) 2
journal_bad v ws not_so = record {
  within = omega arith;
  before = before_journal (v ∷ ws);
  bad = λ h b. not_so (both_first v b.rest (explain_back (v ∷ b.rest) b.command b.line));
  no_line = λ c l. not_so (both_first v ws (explain_back (v ∷ ws) c l));
}

pub object_missing : (v : List ℕ) → Named v → IsFirstBad (codes "explain" ∷ (v ∷ [])) 3
object_missing v named = record {
  within = omega arith;
  before = before_object v [] named;
  bad = λ h b. absurd (omega (arith, h));
  no_line = λ c l. both_one v (explain_back (v ∷ []) c l);
}

pub object_bad : (v x : List ℕ) (ws : Words) → Named v → ((n : ℕ) → IsValue 0 (OBJECTS - 1) x n → ⊥) → IsFirstBad (codes "explain" ∷ (v ∷ (x ∷ ws))) 3
object_bad v x ws named not_so = record {
  within = omega arith;
  before = before_object v (x ∷ ws) named;
  bad = λ h b. let o = both_second v x b.rest (explain_back (v ∷ (x ∷ b.rest)) b.command b.line) in not_so o.0 o.1;
  no_line = λ c l. let o = both_second v x ws (explain_back (v ∷ (x ∷ ws)) c l) in not_so o.0 o.1;
}

pub object_more : {A : Type 0} (v x : List ℕ) (f : A → List ℕ) (xs : List A) (n : ℕ) → Named v → IsValue 0 (OBJECTS - 1) x n → (xs ≡ [] → ⊥) → IsFirstBad (codes "explain" ∷ (v ∷ (x ∷ map f xs))) 4
object_more v x f [] n named is some = absurd (some refl)
object_more v x f (y ∷ ys) n named is some = record {
  within = omega arith;
  before = before_more v x (f y ∷ map f ys) named (n, is);
  bad = λ h b. both_more v x (f y) b.rest (explain_back (v ∷ (x ∷ (f y ∷ b.rest))) b.command b.line);
  no_line = λ c l. both_more v x (f y) (map f ys) (explain_back (v ∷ (x ∷ (f y ∷ map f ys))) c l);
}

-- a line asks for one thing

first_word : (x y : List ℕ) (xs ys : Words) → x ∷ xs ≡ y ∷ ys → x ≡ y
first_word x y xs ys e = cc

apart : (x y w : List ℕ) (xs ys : Words) → (x ≡ y → ⊥) → w ≡ x → w ∷ xs ≡ y ∷ ys → ⊥
apart x y w xs ys n e s = n (sym e ∙ first_word w y xs ys s)

pub only_check : (w : List ℕ) (ws : Words) (file : List ℕ) → w ≡ codes "check" → ws ≡ file ∷ [] → (c : Command) → IsLine (w ∷ ws) c → c ≡ CheckFile file
only_check w ws file e f (RunFile g opts journal input) l = absurd (apart (codes "check") (codes "run") w ws _ (other_text (codes "check") (codes "run") refl) e l.spells)
only_check w ws file e f (CheckFile g) l = let s = l.spells in cc
only_check w ws file e f (LowerFile g) l = absurd (apart (codes "check") (codes "lower") w ws _ (other_text (codes "check") (codes "lower") refl) e l.spells)
only_check w ws file e f (MakeProgram n) l = absurd (apart (codes "check") (codes "make") w ws _ (other_text (codes "check") (codes "make") refl) e l.spells)
only_check w ws file e f (ExplainJournal journal object) l = absurd (apart (codes "check") (codes "explain") w ws _ (other_text (codes "check") (codes "explain") refl) e l.spells)

pub only_lower : (w : List ℕ) (ws : Words) (file : List ℕ) → w ≡ codes "lower" → ws ≡ file ∷ [] → (c : Command) → IsLine (w ∷ ws) c → c ≡ LowerFile file
only_lower w ws file e f (RunFile g opts journal input) l = absurd (apart (codes "lower") (codes "run") w ws _ (other_text (codes "lower") (codes "run") refl) e l.spells)
only_lower w ws file e f (CheckFile g) l = absurd (apart (codes "lower") (codes "check") w ws _ (other_text (codes "lower") (codes "check") refl) e l.spells)
only_lower w ws file e f (LowerFile g) l = let s = l.spells in cc
only_lower w ws file e f (MakeProgram n) l = absurd (apart (codes "lower") (codes "make") w ws _ (other_text (codes "lower") (codes "make") refl) e l.spells)
only_lower w ws file e f (ExplainJournal journal object) l = absurd (apart (codes "lower") (codes "explain") w ws _ (other_text (codes "lower") (codes "explain") refl) e l.spells)

pub only_make : (w : List ℕ) (ws : Words) (n : ℕ) → w ≡ codes "make" → IsMakeLine (codes "make" ∷ ws) n → (c : Command) → IsLine (w ∷ ws) c → c ≡ MakeProgram n
only_make w ws n e m (RunFile g opts journal input) l = absurd (let s = l.spells in cc)
only_make w ws n e m (CheckFile g) l = absurd (let s = l.spells in cc)
only_make w ws n e m (LowerFile g) l = absurd (let s = l.spells in cc)
only_make w ws n e m (ExplainJournal journal object) l = absurd (let s = l.spells in cc)
only_make w ws n e m (MakeProgram k) l =
    let s = l.spells in
    let t = m.spells in
    let same : l.word ≡ m.word = cc in
    let value : k ≡ n = l.value.value ∙ ap value_of same ∙ sym m.value.value in
    ap MakeProgram value

pub only_explain : (w : List ℕ) (ws : Words) (journal : List ℕ) (n : ℕ) → w ≡ codes "explain" → IsExplainLine (codes "explain" ∷ ws) journal n → (c : Command) → IsLine (w ∷ ws) c → c ≡ ExplainJournal journal n
only_explain w ws journal n e m (RunFile g opts too input) l = absurd (let s = l.spells in cc)
only_explain w ws journal n e m (CheckFile g) l = absurd (let s = l.spells in cc)
only_explain w ws journal n e m (LowerFile g) l = absurd (let s = l.spells in cc)
only_explain w ws journal n e m (MakeProgram k) l = absurd (let s = l.spells in cc)
only_explain w ws journal n e m (ExplainJournal other k) l =
    let s = l.spells in
    let t = m.spells in
    let named : other ≡ journal = cc in
    let same : l.word ≡ m.word = cc in
    let value : k ≡ n = l.value.value ∙ ap value_of same ∙ sym m.value.value in
    ap (λ j. ExplainJournal j k) named ∙ ap (ExplainJournal journal) value

-- the words behind, as a map of other items

pub file_more_in : {A : Type 0} (w : List ℕ) → IsFileCommand w → (v : List ℕ) (f : A → List ℕ) (xs : List A) → (xs ≡ [] → ⊥) → is_name v ≡ true → IsFirstBad (w ∷ (v ∷ map f xs)) 3
file_more_in w x v f [] some n = absurd (some refl)
file_more_in w x v f (y ∷ ys) some n = file_more w x v (f y) (map f ys) n

pub make_more_in : {A : Type 0} (v : List ℕ) (f : A → List ℕ) (xs : List A) (n : ℕ) → (xs ≡ [] → ⊥) → IsValue 1 MAKE_MAX v n → IsFirstBad (codes "make" ∷ (v ∷ map f xs)) 3
make_more_in v f [] n some value = absurd (some refl)
make_more_in v f (y ∷ ys) n some value = make_more v (f y) (map f ys) n value
