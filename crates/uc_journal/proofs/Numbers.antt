-- Numbers with a sign, alone, behind a space, and several of them.
use Rattle.std.proofs.Common.{◌≡◌, ℕ, ℤ, pos, negsuc, suc, ◌+◌, ◌-◌, ◌<◌, ◌≤◌, ◌^◌, true, false, rules, tests, List, [], ◌∷◌, ◌++◌, length, get_or, refl, sym, ◌∙◌, ap, arith, append_assoc, append-nil, set, take, drop, length-drop}
use Rattle.std.proofs.lemmas.List.{drop-drop, drop-set-lt, length-set, length-take-le, take-append-drop, take_more_set}
use Rattle.std.specs.Prelude.{decimal}
use Rattle.std.proofs.lemmas.Int.{ints}
use Rattle.std.proofs.lemmas.Fmt.{decimal_nonempty, decimal_digit}
use Rattle.uc_tree.specs.Bytes.{is_digit}
use Rattle.uc_acts.specs.declared.field.FieldType.TheVariants.{Integer}
use Rattle.uc_acts.specs.Texts.{spaced}
use Rattle.uc_acts.specs.Fit.{IsOf}
use Rattle.uc_journal.specs.declared.form.Form.{Form}
use Rattle.uc_journal.specs.declared.form.Form.TheVariants.{Old, New}
use Rattle.uc_journal.specs.Fields.{Ends, IsNatural, IsNumber, IsField, AreFields, AreNumbers, all_spaced, count_in, left_out}
use Rattle.uc_journal.proofs.Digits.{Digits, digits_of, same_natural}

-- a type's numbers are in the range of decimal texts

pub small : (n : ℕ) → IsOf Integer (pos n) → n ≤ 9223372036854775807
small n h = omega (arith, ints, h.1)

pub small_below : (n : ℕ) → IsOf Integer (negsuc n) → suc n ≤ 9223372036854775808
small_below n h = omega (arith, ints, h.0)

pub of_natural : (n : ℕ) → n ≤ 9223372036854775807 → IsOf Integer (pos n)
of_natural n h = (omega (arith, ints), omega (arith, ints))

pub of_below : (n : ℕ) → n ≤ 9223372036854775807 → IsOf Integer (negsuc n)
of_below n h = (omega (arith, ints), omega (arith, ints))

-- a number begins with a digit, and so not with a minus

digit_first : (ds rest : List ℕ) (bs : List ℕ) → Digits ds → 0 < length ds → ds ++ rest ≡ 45 ∷ bs → ⊥
digit_first [] rest bs d some e = absurd (omega (arith, some))
digit_first (c ∷ cs) rest bs d some e = absurd (let at : c ≡ 45 = cc in let t : is_digit 45 ≡ true = rw at at d.0 in cc)

no_minus : (n : ℕ) (rest bs : List ℕ) → n < 2 ^ 64 → decimal n ++ rest ≡ 45 ∷ bs → ⊥
no_minus n rest bs h e = digit_first (decimal n) rest bs (digits_of n h) (decimal_nonempty n h) e

-- a text that does not begin with a minus begins with a number of naturals, and one that does with one below zero
pub natural_of : (bs : List ℕ) (n : ℤ) (rest : List ℕ) → ((more : List ℕ) → bs ≡ 45 ∷ more → ⊥) → IsNumber bs n rest → (m : ℕ) × (n ≡ pos m) × (m ≤ 9223372036854775807) × IsNatural bs m rest
natural_of bs (pos m) rest plain a = (m, refl, small m a.type, record { is = a.is; ends = a.ends })
natural_of bs (negsuc m) rest plain a = absurd (plain (decimal (suc m) ++ rest) a.is)

pub below_of : (ds : List ℕ) (n : ℤ) (rest : List ℕ) → IsNumber (45 ∷ ds) n rest → (m : ℕ) × (n ≡ negsuc m) × (suc m ≤ 9223372036854775808) × IsNatural ds (suc m) rest
below_of ds (pos m) rest a = absurd (let h : m ≤ 9223372036854775807 = small m a.type in no_minus m rest ds (omega arith) (sym a.is))
below_of ds (negsuc m) rest a = (m, refl, small_below m a.type, record { is = cc; ends = a.ends })

pub number_of_natural : (bs : List ℕ) (n : ℤ) (m : ℕ) (rest : List ℕ) → n ≡ pos m → m ≤ 9223372036854775807 → IsNatural bs m rest → IsNumber bs n rest
number_of_natural bs n m rest e h a = rw e (record { is = a.is; type = of_natural m h; ends = a.ends })

pub number_of_below : (ds : List ℕ) (n : ℤ) (m : ℕ) (rest : List ℕ) → n ≡ negsuc m → m ≤ 9223372036854775807 → IsNatural ds (suc m) rest → IsNumber (45 ∷ ds) n rest
number_of_below ds n m rest e h a = rw e (record { is = ap (λ t. 45 ∷ t) a.is; type = of_below m h; ends = a.ends })

empty_front : (xs ys : List ℕ) → [] ≡ xs ++ ys → length xs ≡ 0
empty_front [] ys e = refl
empty_front (x ∷ xs) ys e = absurd (cc)

-- a text begins with one number
pub same_number : (bs : List ℕ) (m n : ℤ) (s t : List ℕ) → IsNumber bs m s → IsNumber bs n t → (m ≡ n) × (s ≡ t)
same_number bs (pos m) (pos n) s t a b =
    let hm = small m a.type in
    let hn = small n b.type in
    let both = same_natural bs m n s t (omega arith) (omega arith) (record { is = a.is; ends = a.ends }) (record { is = b.is; ends = b.ends }) in
    (ap pos both.0, both.1)
same_number bs (pos m) (negsuc n) s t a b = absurd (let hm = small m a.type in no_minus m s (decimal (suc n) ++ t) (omega arith) (sym a.is ∙ b.is))
same_number bs (negsuc m) (pos n) s t a b = absurd (let hn = small n b.type in no_minus n t (decimal (suc m) ++ s) (omega arith) (sym b.is ∙ a.is))
same_number bs (negsuc m) (negsuc n) s t a b =
    let hm = small_below m a.type in
    let hn = small_below n b.type in
    let tails : decimal (suc m) ++ s ≡ decimal (suc n) ++ t = let e = sym a.is ∙ b.is in cc in
    let both = same_natural (decimal (suc m) ++ s) (suc m) (suc n) s t (omega arith) (omega arith) (record { is = refl; ends = a.ends }) (record { is = tails; ends = b.ends }) in
    let e : m ≡ n = omega (arith, both.0) in
    (ap negsuc e, both.1)

pub no_number : (n : ℤ) (rest : List ℕ) → IsNumber [] n rest → ⊥
no_number (pos m) rest a = absurd (let h = small m a.type in omega (arith, decimal_nonempty m (omega arith), empty_front (decimal m) rest a.is))
no_number (negsuc m) rest a = absurd (let e = a.is in cc)

-- the same behind a space

pub field_of : (bs : List ℕ) (n : ℤ) (rest : List ℕ) → IsNumber bs n rest → IsField (32 ∷ bs) n rest
field_of bs n rest a = record { is = ap (λ t. 32 ∷ t) a.is; type = a.type; ends = a.ends }

pub number_of_field : (b : ℕ) (bs : List ℕ) (n : ℤ) (rest : List ℕ) → IsField (b ∷ bs) n rest → (b ≡ 32) × IsNumber bs n rest
number_of_field b bs n rest a = (let e = a.is in cc, record { is = let e = a.is in cc; type = a.type; ends = a.ends })

pub no_field : (n : ℤ) (rest : List ℕ) → IsField [] n rest → ⊥
no_field n rest a = absurd (let e = a.is in cc)

pub same_field : (bs : List ℕ) (m n : ℤ) (s t : List ℕ) → IsField bs m s → IsField bs n t → (m ≡ n) × (s ≡ t)
same_field [] m n s t a b = absurd (no_field m s a)
same_field (c ∷ bs) m n s t a b = same_number bs m n s t (number_of_field c bs m s a).1 (number_of_field c bs n t b).1

-- a digit behind a space, behind which no digit stands
pub one_digit_field : (digit next : ℕ) (more : List ℕ) → is_digit digit ≡ true → is_digit next ≡ false → IsField (32 ∷ (digit ∷ (next ∷ more))) (pos (digit - 48)) (next ∷ more)
one_digit_field digit next more d n =
    let low : 48 ≤ digit = search (rules, tests, arith, d) in
    let high : digit ≤ 57 = search (rules, tests, arith, d) in
    let is : digit ≡ 48 + (digit - 48) = omega (arith, low) in
    let decimal_is : decimal (digit - 48) ≡ digit ∷ [] = decimal_digit (digit - 48) (omega (arith, high)) ∙ ap (λ x. x ∷ []) (sym is) in
    record {
      is = ap (λ t. 32 ∷ (t ++ next ∷ more)) (sym decimal_is);
      type = of_natural (digit - 48) (omega (arith, high));
      ends = n;
    }

pub digit_field : (bs : List ℕ) (v : ℤ) → 3 ≤ length bs → get_or bs 0 0 ≡ 32 → is_digit (get_or bs 1 0) ≡ true → is_digit (get_or bs 2 0) ≡ false → v ≡ pos (get_or bs 1 0 - 48) → IsField bs v (drop 2 bs)
digit_field [] v l s d n e = absurd (omega (arith, l))
digit_field (b ∷ []) v l s d n e = absurd (omega (arith, l))
digit_field (b ∷ (c ∷ [])) v l s d n e = absurd (omega (arith, l))
digit_field (b ∷ (c ∷ (x ∷ more))) v l s d n e = rw (s, e) (one_digit_field c x more d n)

-- several

cons_same : (m n : ℤ) (ms ns : List ℤ) → m ≡ n → ms ≡ ns → m ∷ ms ≡ n ∷ ns
cons_same m n ms ns a b = cc

pub ends_behind : (ns : List ℤ) (rest : List ℕ) → Ends rest → Ends (all_spaced ns ++ rest)
ends_behind [] rest e = e
ends_behind (n ∷ ns) rest e = refl

pub first_field : (bs : List ℕ) (n : ℤ) (ns : List ℤ) (rest : List ℕ) → AreFields bs (n ∷ ns) rest → IsField bs n (all_spaced ns ++ rest)
first_field bs n ns rest a = record {
  is = a.is ∙ append_assoc (spaced n) (all_spaced ns) rest;
  type = a.types.0;
  ends = ends_behind ns rest a.ends;
}

pub more_fields : (n : ℤ) (ns : List ℤ) (bs rest : List ℕ) → AreFields bs (n ∷ ns) rest → AreFields (all_spaced ns ++ rest) ns rest
more_fields n ns bs rest a = record { is = refl; types = a.types.1; ends = a.ends }

pub same_fields : (bs : List ℕ) (ms ns : List ℤ) (s t : List ℕ) → length ms ≡ length ns → AreFields bs ms s → AreFields bs ns t → (ms ≡ ns) × (s ≡ t)
same_fields bs [] [] s t l a b = (refl, sym a.is ∙ b.is)
same_fields bs [] (n ∷ ns) s t l a b = absurd (omega (arith, l))
same_fields bs (m ∷ ms) [] s t l a b = absurd (omega (arith, l))
same_fields bs (m ∷ ms) (n ∷ ns) s t l a b =
    let one = same_field bs m n (all_spaced ms ++ s) (all_spaced ns ++ t) (first_field bs m ms s a) (first_field bs n ns t b) in
    let behind : AreFields (all_spaced ms ++ s) ns t = record { is = one.1; types = b.types.1; ends = b.ends } in
    let rest = same_fields (all_spaced ms ++ s) ms ns s t (omega (arith, l)) (more_fields m ms bs s a) behind in
    (cons_same m n ms ns one.0 rest.0, rest.1)

-- the nine numbers before any is read
abbrev pub zeros : List ℤ
zeros = pos 0 ∷ pos 0 ∷ pos 0 ∷ pos 0 ∷ pos 0 ∷ pos 0 ∷ pos 0 ∷ pos 0 ∷ pos 0 ∷ []

-- so many of the numbers were read from the front of a text, and what numbers the text is goes on from there; no other was written
pub record ReadSo (bytes rest : List ℕ) (values : List ℤ) (wanted count : ℕ) : Type 0 where
  pub length_all : length values ≡ 9
  pub within : count ≤ wanted
  pub ends : 0 < count → Ends rest
  pub there : (more : List ℤ) (behind : List ℕ) → AreFields rest more behind → AreFields bytes (take count values ++ more) behind
  pub back : (ns : List ℤ) (behind : List ℕ) → length ns ≡ wanted → AreFields bytes ns behind → AreFields rest (drop count ns) behind
  pub others : drop count values ≡ drop count zeros

pub reads_none : (bytes : List ℕ) (values : List ℤ) (wanted : ℕ) → values ≡ zeros → ReadSo bytes bytes values wanted 0
reads_none bytes values wanted e = record {
  length_all = ap length e;
  within = omega arith;
  ends = λ h. absurd (omega (arith, h));
  there = λ more behind a. a;
  back = λ ns behind h a. a;
  others = e;
}

one_back : (rest more : List ℕ) (v : ℤ) (ns : List ℤ) (behind : List ℕ) → IsField rest v more → 0 < length ns → AreFields rest ns behind → AreFields more (drop 1 ns) behind
one_back rest more v [] behind f l a = absurd (omega (arith, l))
one_back rest more v (n ∷ ns) behind f l a =
    let same = same_field rest v n more (all_spaced ns ++ behind) f (first_field rest n ns behind a) in
    let b = more_fields n ns rest behind a in
    record { is = same.1; types = b.types; ends = b.ends }

pub reads_more : (bytes rest more : List ℕ) (values : List ℤ) (v : ℤ) (wanted count : ℕ) → wanted ≤ 9 → count < wanted → ReadSo bytes rest values wanted count → IsField rest v more → ReadSo bytes more (set values count v) wanted (count + 1)
reads_more bytes rest more values v wanted count most h r f =
    let inside : count < length values = omega (arith, most, h, r.length_all) in
    record {
      length_all = length-set values count v ∙ r.length_all;
      within = omega (arith, h);
      ends = λ h. f.ends;
      there = λ ns behind a.
          let with : AreFields rest (v ∷ ns) behind = record { is = f.is ∙ ap (λ t. spaced v ++ t) a.is ∙ sym (append_assoc (spaced v) (all_spaced ns) behind); types = (f.type, a.types); ends = a.ends } in
          rw (take_more_set values count v inside, append_assoc) (r.there (v ∷ ns) behind with);
      back = λ ns behind l a.
          rw (← drop-drop 1 count ns) (one_back rest more v (drop count ns) behind f (omega (arith, length-drop count ns, l, h)) (r.back ns behind l a));
      others = drop-set-lt (count + 1) values count v (omega arith) ∙ sym (drop-drop 1 count values) ∙ ap (drop 1) r.others ∙ drop-drop 1 count zeros;
    }

zeros_behind : (form : Form) → drop (count_in form) zeros ≡ left_out form
zeros_behind Old = refl
zeros_behind New = refl

pub some_in : (form : Form) → 0 < count_in form
some_in Old = omega arith
some_in New = omega arith

few_in : (form : Form) → count_in form ≤ 9
few_in Old = omega arith
few_in New = omega arith

pub reads_all : (form : Form) (bytes rest : List ℕ) (values : List ℤ) (wanted count : ℕ) → wanted ≡ count_in form → wanted ≤ count → ReadSo bytes rest values wanted count → AreNumbers form bytes values rest
reads_all form bytes rest values wanted count w h r =
    let n : count ≡ count_in form = omega (arith, w, h, r.within) in
    record {
      shown = take count values;
      count = length-take-le count values (omega (arith, n, few_in form, r.length_all)) ∙ n;
      all = sym (take-append-drop count values) ∙ ap (λ t. take count values ++ t) (r.others ∙ ap (λ k. drop k zeros) n ∙ zeros_behind form);
      fields = rw append-nil at (r.there [] rest (record { is = refl; types = tt; ends = r.ends (omega (arith, n, some_in form)) }));
    }

no_first : (rest : List ℕ) (ns : List ℤ) (behind : List ℕ) → 0 < length ns → ((n : ℤ) (more : List ℕ) → IsField rest n more → ⊥) → AreFields rest ns behind → ⊥
no_first rest [] behind l none a = absurd (omega (arith, l))
no_first rest (n ∷ ns) behind l none a = none n (all_spaced ns ++ behind) (first_field rest n ns behind a)

pub reads_not : (bytes rest : List ℕ) (values : List ℤ) (wanted count : ℕ) → count < wanted → ReadSo bytes rest values wanted count → ((n : ℤ) (more : List ℕ) → IsField rest n more → ⊥) → (ns : List ℤ) (behind : List ℕ) → length ns ≡ wanted → AreFields bytes ns behind → ⊥
reads_not bytes rest values wanted count h r none ns behind l a =
    let left = r.back ns behind l a in
    no_first rest (drop count ns) behind (omega (arith, length-drop count ns, l, h)) none left
