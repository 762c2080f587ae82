-- What tables of first places tell of a list.
use Rattle.std.proofs.Common.{◌≡◌, ℕ, zero, suc, ◌+◌, ◌≤◌, ◌<◌, List, [], ◌∷◌, ◌++◌, Bool, true, false, ◌||◌, Option, Some, None, if◌then◌else◌, length, length-take, take, refl, ap, sym, subst, ◌∙◌, arith, get_or, is_some, true≢false}
use Rattle.std.specs.List.{list_any}
use Rattle.std.specs.Cmp.Lexicographic.{bytes_decides}
use Rattle.std.proofs.lemmas.Bool.Decides.{nat_tests}
use Rattle.std.proofs.lemmas.List.{take_more}
use Rattle.uc_tree.specs.Names.{same_name}
use Rattle.uc_names.specs.Blocks.{Block, id_in, id_or, found}
use Rattle.uc_rules.specs.ItemBreaks.{is_named}
use Rattle.uc_check_index.specs.Firsts.{AreFirsts, first_from, is_before, noted, noted_as}

known_or : (o other : Option ℕ) → is_some o ≡ true → id_or o other ≡ o
known_or None other h = absurd (true≢false (sym h))
known_or (Some i) other h = refl

none_or : (o : Option ℕ) → id_or o None ≡ o
none_or None = refl
none_or (Some i) = refl

found_one : (b : Block) (name : List ℕ) → found (b ∷ []) name ≡ id_in b name
found_one b name = none_or (id_in b name)

no_id : (o : Option ℕ) → is_some o ≡ false → o ≡ None
no_id None h = refl
no_id (Some j) h = absurd (true≢false h)

stood_case : (b : Block) (x name : List ℕ) (o : Option ℕ) (i : ℕ) → o ≡ id_in b name → is_some (id_in b x) ≡ true → (t : Bool) → same_name x name ≡ t → id_or o (if t then Some i else None) ≡ o
stood_case b x name o i is stood true e =
    let same : x ≡ name = (bytes_decides x name).0 e in
    known_or o (Some i) (ap is_some is ∙ ap (λ n. is_some (id_in b n)) (sym same) ∙ stood)
stood_case b x name o i is stood false e = none_or o

new_case : (b : Block) (x name : List ℕ) (i : ℕ) → is_some (id_in b x) ≡ false → (t : Bool) → same_name x name ≡ t → (if t then Some i else id_in b name) ≡ id_or (id_in b name) (if t then Some i else None)
new_case b x name i new true e =
    let same : x ≡ name = (bytes_decides x name).0 e in
    let nothing : id_in b name ≡ None = no_id (id_in b name) (ap (λ n. is_some (id_in b n)) (sym same) ∙ new) in
    rw nothing refl
new_case b x name i new false e = sym (none_or (id_in b name))

some_case : (t : Bool) (i : ℕ) (o : Option ℕ) → is_some (if t then Some i else o) ≡ (t || is_some o)
some_case true i o = refl
some_case false i o = refl

late_case : (t : Bool) (i end : ℕ) (o : Option ℕ) → end ≤ i → is_before o end ≡ false → is_before (if t then Some i else o) end ≡ false
late_case true i end o h e = grind (arith, nat_tests)
late_case false i end o h e = e

here_case : (t : Bool) (i n : ℕ) (o : Option ℕ) (b : Bool) → is_before o (i + 1 + n) ≡ b → is_before (if t then Some i else o) (i + suc n) ≡ (t || b)
here_case true i n o b e = grind (arith, nat_tests)
here_case false i n o b e = let same : i + suc n ≡ i + 1 + n = omega arith in ap (λ k. is_before o k) same ∙ e

module _ {A : Type 0} (key : A → Option (List ℕ)) where
  last_case : (i : ℕ) (b : Bool) (xs : List A) (x : A) (name : List ℕ) → first_from key (i + 1) (xs ++ x ∷ []) name ≡ id_or (first_from key (i + 1) xs name) (if is_named (key x) name then Some (i + 1 + length xs) else None) → (if b then Some i else first_from key (i + 1) (xs ++ x ∷ []) name) ≡ id_or (if b then Some i else first_from key (i + 1) xs name) (if is_named (key x) name then Some (i + suc (length xs)) else None)
  last_case i true xs x name h = refl
  last_case i false xs x name h = let e : i + 1 + length xs ≡ i + suc (length xs) = omega arith in h ∙ ap (λ k. id_or (first_from key (i + 1) xs name) (if is_named (key x) name then Some k else None)) e

  first_last : (i : ℕ) (xs : List A) (x : A) (name : List ℕ) → first_from key i (xs ++ x ∷ []) name ≡ id_or (first_from key i xs name) (if is_named (key x) name then Some (i + length xs) else None)
  first_last i [] x name = let e : i + 0 ≡ i = omega arith in ap (λ k. if is_named (key x) name then Some k else None) (sym e)
  first_last i (y ∷ xs) x name = last_case i (is_named (key y) name) xs x name (first_last (i + 1) xs x name)

  module _ (xs : List A) (x : A) (place : ℕ) (long : length xs ≡ place) where
    -- where the key of the last is this, what it adds to the first places
    last_is : (o : Option (List ℕ)) → key x ≡ o → (name : List ℕ) → first_from key 0 (xs ++ x ∷ []) name ≡ id_or (first_from key 0 xs name) (if is_named o name then Some place else None)
    last_is o e name =
        let count : 0 + length xs ≡ place = omega (arith, long) in
        first_last 0 xs x name
        ∙ ap (λ k. id_or (first_from key 0 xs name) (if is_named (key x) name then Some k else None)) count
        ∙ ap (λ q. id_or (first_from key 0 xs name) (if is_named q name then Some place else None)) e

    noted_case : (b : Block) (n : List ℕ) → key x ≡ Some n → AreFirsts key xs (b ∷ []) → (t : Bool) → is_some (id_in b n) ≡ t → AreFirsts key (xs ++ x ∷ []) (noted_as t (b ∷ []) n place)
    noted_case b n k was true e = record {
      one = refl;
      at = λ name.
          let is : first_from key 0 xs name ≡ id_in b name = sym (was.at name) ∙ found_one b name in
          was.at name ∙ sym (last_is (Some n) k name ∙ stood_case b n name (first_from key 0 xs name) place is e (same_name n name) refl);
    }
    noted_case b n k was false e = record {
      one = refl;
      at = λ name.
          let is : first_from key 0 xs name ≡ id_in b name = sym (was.at name) ∙ found_one b name in
          found_one ((n, place) ∷ b) name
          ∙ new_case b n name place e (same_name n name) refl
          ∙ ap (λ o. id_or o (if same_name n name then Some place else None)) (sym is)
          ∙ sym (last_is (Some n) k name);
    }

    more_case : (o : Option (List ℕ)) → key x ≡ o → (old new : List Block) → new ≡ noted old o place → AreFirsts key xs old → AreFirsts key (xs ++ x ∷ []) new
    more_case None k old new e was = record {
      one = ap length e ∙ was.one;
      at = λ name. ap (λ bs. found bs name) e ∙ was.at name ∙ sym (last_is None k name ∙ none_or (first_from key 0 xs name));
    }
    more_case (Some n) k [] new e was = let one = was.one in absurd (omega (arith, one))
    more_case (Some n) k (b ∷ []) new e was = subst (λ bs. AreFirsts key (xs ++ x ∷ []) bs) (sym e) (noted_case b n k was (is_some (id_in b n)) refl)
    more_case (Some n) k (b ∷ c ∷ bs) new e was = let one = was.one in absurd (omega (arith, one))

  -- one more place, as at a step of a loop
  pub firsts_more : (xs : List A) (i : ℕ) (x : A) (o : Option (List ℕ)) (old new : List Block) → i < length xs → x ≡ get_or xs i x → o ≡ key x → new ≡ noted old o i → AreFirsts key (take i xs) old → AreFirsts key (take (i + 1) xs) new
  firsts_more xs i x o old new h is k e was =
      let all = length-take i xs in
      let long : length (take i xs) ≡ i = omega (arith, all, h) in
      let grown : take (i + 1) xs ≡ take i xs ++ x ∷ [] = take_more xs i x h ∙ ap (λ y. take i xs ++ y ∷ []) (sym is) in
      subst (λ ys. AreFirsts key ys new) (sym grown) (more_case (take i xs) x i long o (sym k) old new e was)

  pub no_firsts : (bs : List Block) → bs ≡ [] ∷ [] → AreFirsts key [] bs
  no_firsts bs e = record {
    one = ap length e;
    at = λ name. ap (λ b. found b name) e;
  }

  -- what the first place of a key tells

  some_from : (q : A → Bool) (name : List ℕ) → ((x : A) → is_named (key x) name ≡ q x) → (i : ℕ) (xs : List A) → is_some (first_from key i xs name) ≡ list_any q xs
  some_from q name same i [] = refl
  some_from q name same i (x ∷ xs) =
      some_case (is_named (key x) name) i (first_from key (i + 1) xs name)
      ∙ ap (λ b. b || is_some (first_from key (i + 1) xs name)) (same x)
      ∙ ap (λ b. q x || b) (some_from q name same (i + 1) xs)

  late : (name : List ℕ) (i end : ℕ) (xs : List A) → end ≤ i → is_before (first_from key i xs name) end ≡ false
  late name i end [] h = refl
  late name i end (x ∷ xs) h = let more : end ≤ i + 1 = omega (arith, h) in late_case (is_named (key x) name) i end (first_from key (i + 1) xs name) h (late name (i + 1) end xs more)

  before_from : (q : A → Bool) (name : List ℕ) → ((x : A) → is_named (key x) name ≡ q x) → (i n : ℕ) (xs : List A) → is_before (first_from key i xs name) (i + n) ≡ list_any q (take n xs)
  before_from q name same i zero xs = let h : i + 0 ≤ i = omega arith in late name i (i + 0) xs h
  before_from q name same i (suc n) [] = refl
  before_from q name same i (suc n) (x ∷ xs) =
      here_case (is_named (key x) name) i n (first_from key (i + 1) xs name) (list_any q (take n xs)) (before_from q name same (i + 1) n xs)
      ∙ ap (λ b. b || list_any q (take n xs)) (same x)

  pub is_anywhere : (xs : List A) (bs : List Block) (name : List ℕ) (r : Option ℕ) (q : A → Bool) → AreFirsts key xs bs → r ≡ found bs name → ((x : A) → is_named (key x) name ≡ q x) → is_some r ≡ list_any q xs
  is_anywhere xs bs name r q f e same = ap is_some (e ∙ f.at name) ∙ some_from q name same 0 xs

  pub is_among : (xs : List A) (bs : List Block) (name : List ℕ) (r : Option ℕ) (n : ℕ) (q : A → Bool) → AreFirsts key xs bs → r ≡ found bs name → ((x : A) → is_named (key x) name ≡ q x) → is_before r n ≡ list_any q (take n xs)
  is_among xs bs name r n q f e same =
      let all : 0 + n ≡ n = omega arith in
      ap (λ o. is_before o n) (e ∙ f.at name) ∙ ap (λ k. is_before (first_from key 0 xs name) k) (sym all) ∙ before_from q name same 0 n xs
