-- Journals and their texts: what was read of a text, and what is left.
use Rattle.std.proofs.Common.{◌≡◌, ℕ, ℤ, pos, negsuc, zero, suc, ◌+◌, ◌<◌, ◌==◌, Bool, true, false, List, [], ◌∷◌, ◌++◌, length, get_or, map, refl, sym, ◌∙◌, ap, arith, append_assoc, append-nil, length-append, take, drop, rules, tests}
use Rattle.std.specs.Prelude.{codes, decimal, not, ◌&&◌}
use Rattle.std.specs.List.{list_all, concat}
use Rattle.std.proofs.lemmas.List.{length-map, take_more, nil_from_length, get_or-map, get_or_append_left, get_or-append_right}
use Rattle.std.proofs.lemmas.Bool.Decides.{nat_tests}
use Rattle.uc_tree.specs.Bytes.{is_digit}
use Rattle.uc_entry.specs.declared.entry.Entry.{Entry}
use Rattle.uc_entry.specs.declared.entry.EntryKind.TheVariants as kind
use Rattle.uc_acts.specs.declared.field.FieldType.TheVariants.{Integer}
use Rattle.uc_acts.specs.Journal.{Journal}
use Rattle.uc_acts.specs.Texts as texts
use Rattle.uc_acts.specs.Texts.{word_of, heading, old_text, spaced}
use Rattle.uc_acts.specs.Fit.{IsOf, IsFit, AreFit}
use Rattle.uc_journal.specs.declared.form.Form.{Form}
use Rattle.uc_journal.specs.declared.form.Form.TheVariants.{Old, New}
use Rattle.uc_journal.specs.declared.read.JournalFault.{JournalFault}
use Rattle.uc_journal.specs.declared.read.JournalFault.TheVariants.{BadLine, NoMemory}
use Rattle.uc_journal.specs.Fields.{IsLine, IsTold, AreIntegers, all_spaced, line_in, numbers_in}
use Rattle.uc_journal.specs.Lines.{in_front, lines, lines_before, line_at, text_in, IsBody, IsForm, IsGood, AreTold, AreWithoutLine, IsEntryText, IsFirstBadLine, IsTextOf, IsFault, HasNoJournal, NamesLineBehind}
use Rattle.uc_journal.proofs.Digits.{Digits, digits_of}
use Rattle.uc_journal.proofs.Numbers.{small, small_below}
use Rattle.uc_journal.proofs.Words.{no_newline, no_newline_in, not_found}
use Rattle.uc_journal.proofs.Entries.{same_line, has_line, line_is, integers_in}

-- the lines of entries in a form, what stands before them, and that the form tells all of them

abbrev pub lines_in : Form → Journal → List ℕ
lines_in form [] = []
lines_in form (e ∷ j) = line_in form e ++ lines_in form j

abbrev pub head_in : Form → List ℕ
head_in Old = []
head_in New = heading

abbrev pub AllTold : Form → Journal → Type 0
AllTold form [] = Unit {0}
AllTold form (e ∷ j) = IsTold form e × AllTold form j

old_is : (j : Journal) → old_text j ≡ lines_in Old j
old_is [] = refl
old_is (e ∷ j) = ap (λ t. line_in Old e ++ t) (old_is j)

new_is : (j : Journal) → texts.lines j ≡ lines_in New j
new_is [] = refl
new_is (e ∷ j) = ap (λ t. line_in New e ++ t) (new_is j)

text_is : (form : Form) (j : Journal) → text_in form j ≡ head_in form ++ lines_in form j
text_is Old j = old_is j
text_is New j = ap (λ t. heading ++ t) (new_is j)

all_old : (j : Journal) → AreWithoutLine j → AllTold Old j
all_old [] t = tt
all_old (e ∷ j) t = (t.0, all_old j t.1)

all_new : (j : Journal) → AllTold New j
all_new [] = tt
all_new (e ∷ j) = (tt, all_new j)

all_told : (form : Form) (j : Journal) → AreTold form j → AllTold form j
all_told Old j t = all_old j t
all_told New j t = all_new j

back_old : (j : Journal) → AllTold Old j → AreWithoutLine j
back_old [] t = tt
back_old (e ∷ j) t = (t.0, back_old j t.1)

are_told : (form : Form) (j : Journal) → AllTold form j → AreTold form j
are_told Old j t = back_old j t
are_told New j t = tt

-- one entry more

lines_push : (form : Form) (j : Journal) (e : Entry) → lines_in form (j ++ e ∷ []) ≡ lines_in form j ++ line_in form e
lines_push form [] e = append-nil (line_in form e)
lines_push form (f ∷ j) e = ap (λ t. line_in form f ++ t) (lines_push form j e) ∙ sym (append_assoc (line_in form f) (lines_in form j) (line_in form e))

fit_push : (j : Journal) (e : Entry) → AreFit j → IsFit e → AreFit (j ++ e ∷ [])
fit_push [] e h f = (f, tt)
fit_push (g ∷ j) e h f = (h.0, fit_push j e h.1 f)

told_push : (form : Form) (j : Journal) (e : Entry) → AllTold form j → IsTold form e → AllTold form (j ++ e ∷ [])
told_push form [] e h t = (t, tt)
told_push form (g ∷ j) e h t = (h.0, told_push form j e h.1 t)

-- these entries were read from the front of a text, and this is left
pub record ReadUpTo (form : Form) (bytes rest : List ℕ) (j : Journal) : Type 0 where
  pub is : bytes ≡ head_in form ++ (lines_in form j ++ rest)
  pub form_is : IsForm form bytes
  pub fit : AreFit j
  pub told : AllTold form j

pub read_none : (form : Form) (bytes rest : List ℕ) → IsBody bytes form rest → ReadUpTo form bytes rest []
read_none Old bytes rest b = record { is = sym b.0; form_is = b.1; fit = tt; told = tt }
read_none New bytes rest b = record { is = b; form_is = record { rest = rest; is = b }; fit = tt; told = tt }

one_more : (form : Form) (rest behind : List ℕ) (j : Journal) (e : Entry) → rest ≡ line_in form e ++ behind → lines_in form j ++ rest ≡ lines_in form (j ++ e ∷ []) ++ behind
one_more form rest behind j e l =
    ap (λ t. lines_in form j ++ t) l ∙ sym (append_assoc (lines_in form j) (line_in form e) behind) ∙ ap (λ t. t ++ behind) (sym (lines_push form j e))

pub read_more : (form : Form) (bytes rest behind : List ℕ) (j : Journal) (e : Entry) → ReadUpTo form bytes rest j → IsLine form rest e behind → ReadUpTo form bytes behind (j ++ e ∷ [])
read_more form bytes rest behind j e r l = record {
  is = r.is ∙ ap (λ t. head_in form ++ t) (one_more form rest behind j e l.is);
  form_is = r.form_is;
  fit = fit_push j e r.fit l.fit;
  told = told_push form j e r.told l.told;
}

-- a text is in one form

-- a journal's text in a form
pub record InForm (form : Form) (bytes : List ℕ) (j : Journal) : Type 0 where
  pub fit : AreFit j
  pub told : AllTold form j
  pub is : bytes ≡ head_in form ++ lines_in form j

no_heading : (j : Journal) (rest : List ℕ) → AreFit j → AllTold Old j → heading ++ rest ≡ lines_in Old j → ⊥
no_heading [] rest f t e = absurd (cc)
no_heading (x ∷ j) rest f t e =
    let h = has_line Old (heading ++ rest) x (lines_in Old j) (record { is = e; fit = f.0; told = t.0 }) in
    let word : codes "ucpp-journal" ≡ word_of x.kind = h.word in
    not_found (codes "ucpp-journal") refl x.kind word

in_form : (form g : Form) (bytes : List ℕ) (j : Journal) → IsForm form bytes → AreFit j → AreTold g j → bytes ≡ text_in g j → InForm form bytes j
in_form Old Old bytes j o f t e = record { fit = f; told = all_told Old j t; is = e ∙ text_is Old j }
in_form New New bytes j o f t e = record { fit = f; told = all_told New j t; is = e ∙ text_is New j }
in_form Old New bytes j o f t e = absurd (o (record { rest = texts.lines j; is = e }))
in_form New Old bytes j o f t e = absurd (no_heading j o.rest f (all_told Old j t) (sym o.is ∙ e ∙ text_is Old j))

-- a text has one journal

some_line : (form : Form) (e : Entry) → 0 < length (line_in form e)
some_line form e = rw (line_is form e) (omega (arith, length-append (word_of e.kind) (all_spaced (numbers_in form e) ++ 10 ∷ []), length-append (all_spaced (numbers_in form e)) (10 ∷ [])))

no_line_in : (form : Form) (e : Entry) (rest : List ℕ) → line_in form e ++ rest ≡ [] → ⊥
no_line_in form e rest h = absurd (omega (arith, some_line form e, length-append (line_in form e) rest, ap length h))

pub shorter : (form : Form) (rest behind : List ℕ) (e : Entry) → IsLine form rest e behind → length behind < length rest
shorter form rest behind e l = rw l.is (omega (arith, some_line form e, length-append (line_in form e) behind))

pub record Goes (form : Form) (j other : Journal) (rest : List ℕ) : Type 0 where
  pub more : Journal
  pub fit : AreFit more
  pub told : AllTold form more
  pub is : other ≡ j ++ more
  pub text : rest ≡ lines_in form more

joined : (x y : Entry) (j other more : Journal) → x ≡ y → other ≡ j ++ more → y ∷ other ≡ (x ∷ j) ++ more
joined x y j other more a b = cc

ahead : (form : Form) (j other : Journal) (rest : List ℕ) → AreFit j → AllTold form j → AreFit other → AllTold form other → lines_in form j ++ rest ≡ lines_in form other → Goes form j other rest
ahead form [] other rest h t g u e = record { more = other; fit = g; told = u; is = refl; text = e }
ahead form (x ∷ j) [] rest h t g u e = absurd (no_line_in form x (lines_in form j ++ rest) (sym (append_assoc (line_in form x) (lines_in form j) rest) ∙ e))
ahead form (x ∷ j) (y ∷ other) rest h t g u e =
    let both = same_line form (line_in form x ++ (lines_in form j ++ rest)) x y (lines_in form j ++ rest) (lines_in form other) (record { is = refl; fit = h.0; told = t.0 }) (record { is = sym (append_assoc (line_in form x) (lines_in form j) rest) ∙ e; fit = g.0; told = u.0 }) in
    let goes = ahead form j other rest h.1 t.1 g.1 u.1 both.1 in
    record { more = goes.more; fit = goes.fit; told = goes.told; is = joined x y j other goes.more both.0 goes.is; text = goes.text }

-- what stands behind the head is told by the text
same_tail : (form : Form) (a b : List ℕ) → head_in form ++ a ≡ head_in form ++ b → a ≡ b
same_tail Old a b e = e
same_tail New a b e = ap (drop 15) e

goes_on : (form : Form) (bytes rest : List ℕ) (j other : Journal) → ReadUpTo form bytes rest j → IsTextOf bytes other → Goes form j other rest
goes_on form bytes rest j other r t =
    let o = in_form form t.form bytes other r.form_is t.fit t.told t.is in
    ahead form j other rest r.fit r.told o.fit o.told (same_tail form (lines_in form j ++ rest) (lines_in form other) (sym r.is ∙ o.is))

no_more : (form : Form) (m : Journal) → [] ≡ lines_in form m → m ≡ []
no_more form [] e = refl
no_more form (x ∷ m) e = absurd (no_line_in form x (lines_in form m) (sym e))

pub only : (form : Form) (bytes : List ℕ) (j other : Journal) → ReadUpTo form bytes [] j → IsTextOf bytes other → other ≡ j
only form bytes j other r t =
    let goes = goes_on form bytes [] j other r t in
    goes.is ∙ ap (λ m. j ++ m) (no_more form goes.more goes.text) ∙ append-nil j

pub read_all : (form : Form) (bytes : List ℕ) (j : Journal) → ReadUpTo form bytes [] j → IsTextOf bytes j
read_all form bytes j r = record {
  form = form;
  fit = r.fit;
  told = are_told form j r.told;
  is = r.is ∙ ap (λ t. head_in form ++ t) (append-nil (lines_in form j)) ∙ sym (text_is form j);
}

-- a line at fault

no_text : (form : Form) (rest : List ℕ) (m : Journal) → (rest ≡ [] → ⊥) → ((e : Entry) (s : List ℕ) → IsLine form rest e s → ⊥) → AreFit m → AllTold form m → rest ≡ lines_in form m → ⊥
no_text form rest [] some none h t e = some e
no_text form rest (x ∷ m) some none h t e = none x (lines_in form m) (record { is = e; fit = h.0; told = t.0 })

pub no_journal : (form : Form) (bytes rest : List ℕ) (j other : Journal) → ReadUpTo form bytes rest j → (rest ≡ [] → ⊥) → ((e : Entry) (s : List ℕ) → IsLine form rest e s → ⊥) → IsTextOf bytes other → ⊥
no_journal form bytes rest j other r some none t =
    let goes = goes_on form bytes rest j other r t in
    no_text form rest goes.more some none goes.fit goes.told goes.text

-- lines of a text

not_true : (b : Bool) → not b ≡ true → b ≡ false
not_true true h = absurd (cc)
not_true false h = refl

both_true : (a b : Bool) → a ≡ true → b ≡ true → (a && b) ≡ true
both_true a b h g = rw h g

first_true : (a b : Bool) → (a && b) ≡ true → a ≡ true
first_true true b h = refl
first_true false b h = absurd (cc)

second_true : (a b : Bool) → (a && b) ≡ true → b ≡ true
second_true true b h = h
second_true false b h = absurd (cc)

all_append : (xs ys : List ℕ) → list_all no_newline xs ≡ true → list_all no_newline ys ≡ true → list_all no_newline (xs ++ ys) ≡ true
all_append [] ys h g = g
all_append (x ∷ xs) ys h g = both_true (no_newline x) (list_all no_newline (xs ++ ys)) (first_true (no_newline x) (list_all no_newline xs) h) (all_append xs ys (second_true (no_newline x) (list_all no_newline xs) h) g)

digit_plain : (b : ℕ) (t : Bool) → (b == 10) ≡ t → is_digit b ≡ true → no_newline b ≡ true
digit_plain b true is d = absurd (let e : b ≡ 10 = search (rules, tests, is) in let f : is_digit 10 ≡ true = rw e at d in cc)
digit_plain b false is d = rw is refl

digits_plain : (ds : List ℕ) → Digits ds → list_all no_newline ds ≡ true
digits_plain [] d = refl
digits_plain (b ∷ bs) d = both_true (no_newline b) (list_all no_newline bs) (digit_plain b (b == 10) refl d.0) (digits_plain bs d.1)

number_plain : (n : ℤ) → IsOf Integer n → list_all no_newline (spaced n) ≡ true
number_plain (pos n) h = let s = small n h in digits_plain (decimal n) (digits_of n (omega arith))
number_plain (negsuc n) h = let s = small_below n h in digits_plain (decimal (suc n)) (digits_of (suc n) (omega arith))

numbers_plain : (ns : List ℤ) → AreIntegers ns → list_all no_newline (all_spaced ns) ≡ true
numbers_plain [] h = refl
numbers_plain (n ∷ ns) h = all_append (spaced n) (all_spaced ns) (number_plain n h.0) (numbers_plain ns h.1)

lines_front : (xs rest : List ℕ) → list_all no_newline xs ≡ true → lines (xs ++ 10 ∷ rest) ≡ (xs ++ 10 ∷ []) ∷ lines rest
lines_front [] rest h = refl
lines_front (x ∷ xs) rest h =
    let plain : (x == 10) ≡ false = not_true (x == 10) (first_true (no_newline x) (list_all no_newline xs) h) in
    let more : lines (xs ++ 10 ∷ rest) ≡ (xs ++ 10 ∷ []) ∷ lines rest = lines_front xs rest (second_true (no_newline x) (list_all no_newline xs) h) in
    rw (plain, more) refl

regrouped : (w s : List ℕ) → w ++ (s ++ 10 ∷ []) ≡ (w ++ s) ++ 10 ∷ []
regrouped w s = sym (append_assoc w s (10 ∷ []))

behind : (w rest : List ℕ) → (w ++ 10 ∷ []) ++ rest ≡ w ++ 10 ∷ rest
behind w rest = append_assoc w (10 ∷ []) rest

line_first : (form : Form) (e : Entry) (rest : List ℕ) → IsFit e → lines (line_in form e ++ rest) ≡ line_in form e ∷ lines rest
line_first form e rest h =
    let front = word_of e.kind ++ all_spaced (numbers_in form e) in
    let is : line_in form e ≡ front ++ 10 ∷ [] = line_is form e ∙ regrouped (word_of e.kind) (all_spaced (numbers_in form e)) in
    let plain : list_all no_newline front ≡ true = all_append (word_of e.kind) (all_spaced (numbers_in form e)) (no_newline_in e.kind) (numbers_plain (numbers_in form e) (integers_in form e h)) in
    ap (λ l. lines (l ++ rest)) is ∙ ap lines (behind front rest) ∙ lines_front front rest plain ∙ ap (λ l. l ∷ lines rest) (sym is)

lines_of : (form : Form) (j : Journal) (rest : List ℕ) → AreFit j → lines (lines_in form j ++ rest) ≡ map (line_in form) j ++ lines rest
lines_of form [] rest h = refl
lines_of form (e ∷ j) rest h =
    ap lines (append_assoc (line_in form e) (lines_in form j) rest) ∙ line_first form e (lines_in form j ++ rest) h.0 ∙ ap (λ ls. line_in form e ∷ ls) (lines_of form j rest h.1)

front_concat : (b : ℕ) (ls : List (List ℕ)) → concat (in_front b ls) ≡ b ∷ concat ls
front_concat b [] = refl
front_concat b (l ∷ ls) = refl

concat_if : (b : ℕ) (bs : List ℕ) (t : Bool) → (b == 10) ≡ t → concat (lines bs) ≡ bs → concat (lines (b ∷ bs)) ≡ b ∷ bs
concat_if b bs true is more = let e : b ≡ 10 = search (rules, tests, is) in rw (is, e) (ap (λ t. 10 ∷ t) more)
concat_if b bs false is more = rw is (front_concat b (lines bs) ∙ ap (λ t. b ∷ t) more)

concat_lines : (bs : List ℕ) → concat (lines bs) ≡ bs
concat_lines [] = refl
concat_lines (b ∷ bs) = concat_if b bs (b == 10) refl (concat_lines bs)

some_line_in : (ls : List (List ℕ)) (rest : List ℕ) → concat ls ≡ rest → (rest ≡ [] → ⊥) → 0 < length ls
some_line_in [] rest e some = absurd (some (sym e))
some_line_in (l ∷ ls) rest e some = omega arith

first_line : (ls : List (List ℕ)) (rest : List ℕ) → concat ls ≡ rest → 0 < length ls → (tail : List ℕ) × (rest ≡ get_or ls 0 [] ++ tail)
first_line [] rest e l = absurd (omega (arith, l))
first_line (l ∷ ls) rest e h = (concat ls, sym e)

abbrev pub some_entry : Entry
some_entry = record { kind = kind.Begin; proc = 0; task = 0; ticks = 0; object = 0; a = pos 0; b = pos 0; c = pos 0; d = pos 0; line = 0 }

fit_at : (j : Journal) (k : ℕ) (d : Entry) → AreFit j → k < length j → IsFit (get_or j k d)
fit_at [] k d h l = absurd (omega (arith, l))
fit_at (e ∷ j) zero d h l = h.0
fit_at (e ∷ j) (suc k) d h l = fit_at j k d h.1 (omega (arith, l))

told_at : (form : Form) (j : Journal) (k : ℕ) (d : Entry) → AllTold form j → k < length j → IsTold form (get_or j k d)
told_at form [] k d h l = absurd (omega (arith, l))
told_at form (e ∷ j) zero d h l = h.0
told_at form (e ∷ j) (suc k) d h l = told_at form j k d h.1 (omega (arith, l))

-- the first line behind the head that is no entry's text
pub record BadBehind (form : Form) (body : List ℕ) (good : ℕ) : Type 0 where
  pub inside : good < length (lines body)
  pub before : (k : ℕ) → k < good → IsEntryText form (line_at body k)
  pub bad : IsEntryText form (line_at body good) → ⊥

line_before : (form : Form) (rest : List ℕ) (j : Journal) → AreFit j → AllTold form j → (k : ℕ) → k < length j → IsEntryText form (line_at (lines_in form j ++ rest) k)
line_before form rest j f t k l =
    let inside : k < length (map (line_in form) j) = rw length-map l in
    record {
      entry = get_or j k some_entry;
      fit = fit_at j k some_entry f l;
      told = told_at form j k some_entry t l;
      is = ap (λ ls. get_or ls k []) (lines_of form j rest f) ∙ get_or_append_left (map (line_in form) j) (lines rest) [] k inside ∙ get_or-map (line_in form) j k some_entry [] l;
    }

line_after : (form : Form) (rest : List ℕ) (j : Journal) → AreFit j → line_at (lines_in form j ++ rest) (length j) ≡ get_or (lines rest) 0 []
line_after form rest j f =
    let n : length (map (line_in form) j) ≡ length j = length-map j (line_in form) in
    ap (λ ls. get_or ls (length j) []) (lines_of form j rest f) ∙ get_or-append_right (map (line_in form) j) (lines rest) (length j) (length j) [] n (omega arith) ∙ ap (λ k. get_or (lines rest) k []) (omega arith)

bad_behind : (form : Form) (rest : List ℕ) (j : Journal) → AreFit j → AllTold form j → (rest ≡ [] → ⊥) → ((e : Entry) (s : List ℕ) → IsLine form rest e s → ⊥) → BadBehind form (lines_in form j ++ rest) (length j)
bad_behind form rest j f t some none =
    let all : lines (lines_in form j ++ rest) ≡ map (line_in form) j ++ lines rest = lines_of form j rest f in
    let l : 0 < length (lines rest) = some_line_in (lines rest) rest (concat_lines rest) some in
    let first = first_line (lines rest) rest (concat_lines rest) l in
    record {
      inside = rw all (omega (arith, length-append (map (line_in form) j) (lines rest), length-map j (line_in form), l));
      before = line_before form rest j f t;
      bad = λ x. none x.entry first.0 (record { is = first.1 ∙ ap (λ y. y ++ first.0) (sym (line_after form rest j f) ∙ x.is); fit = x.fit; told = x.told });
    }

-- the heading is the first line of its text
heading_first : (body : List ℕ) → lines (heading ++ body) ≡ heading ∷ lines body
heading_first body = refl

good_before : (body : List ℕ) (good : ℕ) → BadBehind New body good → (k : ℕ) → k < suc good → IsGood New k (line_at (heading ++ body) k)
good_before body good b zero l = refl
good_before body good b (suc k) l = b.before k (omega (arith, l))

bad_whole : (form : Form) (bytes body : List ℕ) (good : ℕ) → IsForm form bytes → bytes ≡ head_in form ++ body → BadBehind form body good → IsFirstBadLine bytes (suc (lines_before form + good))
bad_whole Old bytes body good o e b = rw e (record {
  form = Old;
  form_is = rw e at o;
  good = good;
  is = omega arith;
  inside = b.inside;
  before = b.before;
  bad = b.bad;
})
bad_whole New bytes body good o e b = rw e (record {
  form = New;
  form_is = rw e at o;
  good = suc good;
  is = omega arith;
  inside = omega (arith, b.inside);
  before = good_before body good b;
  bad = b.bad;
})

pub first_bad : (form : Form) (bytes rest : List ℕ) (j : Journal) → ReadUpTo form bytes rest j → (rest ≡ [] → ⊥) → ((e : Entry) (s : List ℕ) → IsLine form rest e s → ⊥) → IsFirstBadLine bytes (suc (lines_before form + length j))
first_bad form bytes rest j r some none = bad_whole form bytes (lines_in form j ++ rest) (length j) r.form_is r.is (bad_behind form rest j r.fit r.told some none)

pub fault_is : (bytes : List ℕ) (count : ℕ) (f : JournalFault) → NamesLineBehind count f → IsFirstBadLine bytes (suc count) → IsFault bytes f
fault_is bytes count (BadLine n) e b = rw e b
fault_is bytes count NoMemory e b = tt

pub none_is : (bytes : List ℕ) (f : JournalFault) → ((other : Journal) → IsTextOf bytes other → ⊥) → HasNoJournal bytes f
none_is bytes (BadLine n) h = h
none_is bytes NoMemory h = tt

-- one entry more is written
written_more : (j : Journal) (i : ℕ) (d : Entry) → i < length j → lines_in New (take (i + 1) j) ≡ lines_in New (take i j) ++ line_in New (get_or j i d)
written_more j i d h = ap (lines_in New) (take_more j i d h) ∙ lines_push New (take i j) (get_or j i d)

-- what a test for the end has told
pub some_left : (xs : List ℕ) (b : Bool) → b ≡ (length xs == 0) → b ≡ false → xs ≡ [] → ⊥
some_left [] b e f h = absurd (let t : true ≡ false = sym e ∙ f in cc)
some_left (x ∷ xs) b e f h = absurd (cc)

pub none_left : (xs : List ℕ) (b : Bool) → b ≡ (length xs == 0) → b ≡ true → xs ≡ []
none_left xs b e f = let t : (length xs == 0) ≡ true = sym e ∙ f in nil_from_length xs (grind (arith, nat_tests))

pub wrote_more : (now old front piece : List ℕ) (j : Journal) (i : ℕ) (d : Entry) → i < length j → old ≡ front ++ lines_in New (take i j) → now ≡ old ++ piece → piece ≡ line_in New (get_or j i d) → now ≡ front ++ lines_in New (take (i + 1) j)
wrote_more now old front piece j i d h a b c =
    b ∙ ap (λ t. t ++ piece) a ∙ append_assoc front (lines_in New (take i j)) piece ∙ ap (λ t. front ++ (lines_in New (take i j) ++ t)) c ∙ ap (λ t. front ++ t) (sym (written_more j i d h))

-- all entries are written behind the heading
pub wrote_all : (now start front : List ℕ) (j : Journal) → now ≡ start ++ lines_in New j → start ≡ front ++ heading → now ≡ front ++ texts.text j
wrote_all now start front j a b =
    a ∙ ap (λ t. t ++ lines_in New j) b ∙ append_assoc front heading (lines_in New j) ∙ ap (λ t. front ++ (heading ++ t)) (sym (new_is j))

-- and so that the text is read again
pub reads_back : (bytes : List ℕ) (j : Journal) → bytes ≡ texts.text j → AreFit j → IsTextOf bytes j
reads_back bytes j e f = record { form = New; fit = f; told = tt; is = e }
