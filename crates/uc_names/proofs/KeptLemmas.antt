-- Declarations, their places and their blocks.
use Rattle.std.proofs.Common.{subst, length-append, length-drop, length-set, ◌≢◌, ◌≡◌, ℕ, zero, suc, ◌+◌, ◌-◌, ◌<◌, ◌≤◌, List, [], ◌∷◌, ◌++◌, Bool, true, false, Option, Some, None, if◌then◌else◌, length, refl, ap, sym, ◌∙◌, arith, get_or, set, slice_get, is_some, map, reverse, take, drop, nat_eq, nat_le, true≢false}
use Rattle.std.specs.Prelude.{option_and_then, option_map}
use Rattle.std.specs.Cmp.Lexicographic.{pointwise, bytes_decides}
use Rattle.std.proofs.lemmas.Bool.{eqb-true, eq-eqb, le-leb, leb-true, leb-false, lt-leb}
use Rattle.std.proofs.lemmas.Option.{slice_get_within, get_or_from_slice_get, slice_get-get_or}
use Rattle.std.proofs.lemmas.List.{reverse-append, reverse-reverse, length-reverse, length-map, get_or_append_left, get_or-set_same, get_or-set_other, take-append-drop}
use Rattle.uc_names.specs.declared.scope.Declaration.{Declaration}
use Rattle.uc_names.specs.Blocks.{Block, id_in, id_or, found, declared}
use Rattle.uc_names.specs.Seen.{Seen, Distinct, number_in, place_in, with_name}
use Rattle.uc_names.specs.Kept.{named, bindings, newer_than, parted, Starts, newest_of, is_from, Hides, Agrees}
use Rattle.uc_names.proofs.SeenLemmas.{number_at}

-- a declaration of a name that has a number: its name is this one where its number is
module _ (names : List (List ℕ)) (distinct : Distinct names) (x : List ℕ) where
  named_at : (n : ℕ) → n < length names → pointwise nat_eq (get_or names n []) x ≡ true → number_in names x ≡ Some n
  named_at n within h =
      let is : get_or names n [] ≡ x = (bytes_decides (get_or names n []) x).0 h in
      distinct.own n x (slice_get-get_or names n [] within ∙ ap Some is)

  test_case : (i n : ℕ) → number_in names x ≡ Some i → n < length names → (a b : Bool) → pointwise nat_eq (get_or names n []) x ≡ a → nat_eq n i ≡ b → a ≡ b
  test_case i n at within true true p q = refl
  test_case i n at within false false p q = refl
  test_case i n at within true false p q =
      let e : Some n ≡ Some i = sym (named_at n within p) ∙ at in
      let same : n ≡ i = cc in
      absurd (true≢false (sym (eq-eqb n i same) ∙ q))
  test_case i n at within false true p q =
      let same : n ≡ i = eqb-true n i q in
      let is : get_or names n [] ≡ x = ap (λ k. get_or names k []) same ∙ get_or_from_slice_get names i x [] (number_at names x i at) in
      absurd (true≢false (sym ((bytes_decides (get_or names n []) x).1 is) ∙ p))

  pub test_is : (i n : ℕ) → number_in names x ≡ Some i → n < length names → pointwise nat_eq (get_or names n []) x ≡ nat_eq n i
  test_is i n at within = test_case i n at within (pointwise nat_eq (get_or names n []) x) (nat_eq n i) refl refl

  unseen_case : (n : ℕ) → number_in names x ≡ None → n < length names → (a : Bool) → pointwise nat_eq (get_or names n []) x ≡ a → a ≡ false
  unseen_case n absent within false p = refl
  unseen_case n absent within true p = let e : None ≡ Some n = sym absent ∙ named_at n within p in cc

  pub test_unseen : (n : ℕ) → number_in names x ≡ None → n < length names → pointwise nat_eq (get_or names n []) x ≡ false
  test_unseen n absent within = unseen_case n absent within (pointwise nat_eq (get_or names n []) x) refl

  pub unseen : (ds : List Declaration) → Hides (length names) ds → number_in names x ≡ None → id_in (map (named names) ds) x ≡ None
  unseen [] h absent = refl
  unseen (d ∷ ds) h absent = let differs = test_unseen d.name absent h.0 in rw differs (unseen ds h.2 absent)

pub reverse-cons : {A : Type 0} (x : A) (xs : List A) → reverse (x ∷ xs) ≡ reverse xs ++ x ∷ []
reverse-cons x xs = reverse-append (x ∷ []) xs

get-last : {A : Type 0} (xs : List A) (x : A) → slice_get (xs ++ x ∷ []) (length xs) ≡ Some x
get-last [] x = refl
get-last (y ∷ xs) x = get-last xs x

get-left : {A : Type 0} (xs ys : List A) (i : ℕ) (x : A) → slice_get xs i ≡ Some x → slice_get (xs ++ ys) i ≡ Some x
get-left [] ys i x h = cc
get-left (y ∷ xs) ys zero x h = h
get-left (y ∷ xs) ys (suc i) x h = get-left xs ys i x h

-- the newest declaration of a name, where it stands, and its id
pub record Stands (ds : List Declaration) (p : ℕ) (id : Option ℕ) : Type 0 where
  pub declaration : Declaration
  pub at : slice_get (reverse ds) p ≡ Some declaration
  pub its : id ≡ Some declaration.id

module _ (names : List (List ℕ)) (distinct : Distinct names) (x : List ℕ) (i : ℕ) (seen : number_in names x ≡ Some i) where
  stands_case : (d : Declaration) (ds : List Declaration) (p : ℕ) → d.name < length names → ((q : ℕ) → newest_of ds i ≡ Some q → Stands ds q (id_in (map (named names) ds) x)) → (b : Bool) → nat_eq d.name i ≡ b → (if b then Some (length ds) else newest_of ds i) ≡ Some p → Stands (d ∷ ds) p (id_in (map (named names) (d ∷ ds)) x)
  stands_case d ds p within more true e h =
      let test : pointwise nat_eq (get_or names d.name []) x ≡ true = test_is names distinct x i d.name seen within ∙ e in
      let place : length ds ≡ p = cc in
      let last = get-last (reverse ds) d in
      record { declaration = d; at = ap (λ l. slice_get l p) (reverse-cons d ds) ∙ ap (λ k. slice_get (reverse ds ++ d ∷ []) k) (sym place ∙ sym (length-reverse ds)) ∙ last; its = rw test refl }
  stands_case d ds p within more false e h =
      let test : pointwise nat_eq (get_or names d.name []) x ≡ false = test_is names distinct x i d.name seen within ∙ e in
      let rest = more p h in
      record { declaration = rest.declaration; at = ap (λ l. slice_get l p) (reverse-cons d ds) ∙ get-left (reverse ds) (d ∷ []) p rest.declaration rest.at; its = rw test rest.its }

  pub stands : (ds : List Declaration) (p : ℕ) → Hides (length names) ds → newest_of ds i ≡ Some p → Stands ds p (id_in (map (named names) ds) x)
  stands [] p h e = cc
  stands (d ∷ ds) p h e = stands_case d ds p h.0 (λ q f. stands ds q h.2 f) (nat_eq d.name i) refl e

  undeclared_case : (d : Declaration) (ds : List Declaration) → d.name < length names → (newest_of ds i ≡ None → id_in (map (named names) ds) x ≡ None) → (b : Bool) → nat_eq d.name i ≡ b → (if b then Some (length ds) else newest_of ds i) ≡ None → id_in (map (named names) (d ∷ ds)) x ≡ None
  undeclared_case d ds within more true e h = cc
  undeclared_case d ds within more false e h = let test : pointwise nat_eq (get_or names d.name []) x ≡ false = test_is names distinct x i d.name seen within ∙ e in rw test (more h)

  pub undeclared : (ds : List Declaration) → Hides (length names) ds → newest_of ds i ≡ None → id_in (map (named names) ds) x ≡ None
  undeclared [] h e = refl
  undeclared (d ∷ ds) h e = undeclared_case d ds h.0 (λ f. undeclared ds h.2 f) (nat_eq d.name i) refl e

older_case : (s : ℕ) (n : ℕ) (o : Option ℕ) (b : Bool) → suc n ≤ s → is_from s o ≡ false → is_from s (if b then Some n else o) ≡ false
older_case s n o true h e = lt-leb s n (omega (arith, h))
older_case s n o false h e = e

-- a declaration in front of a place is not from there
older : (s i : ℕ) (ds : List Declaration) → length ds ≤ s → is_from s (newest_of ds i) ≡ false
older s i [] h = refl
older s i (d ∷ ds) h = older_case s (length ds) (newest_of ds i) (nat_eq d.name i) h (older s i ds (omega (arith, h)))

take_none : {A : Type 0} (xs : List A) (k : ℕ) → xs ≡ [] → take k xs ≡ []
take_none [] zero h = refl
take_none [] (suc k) h = refl
take_none (x ∷ xs) k h = cc

-- what the innermost block declares is what has its newest declaration there
module _ (names : List (List ℕ)) (distinct : Distinct names) (x : List ℕ) (i : ℕ) (seen : number_in names x ≡ Some i) (s : ℕ) where
  abbrev Innermost : List Declaration → Type 0
  Innermost ds = is_some (id_in (take (length ds - s) (map (named names) ds)) x) ≡ is_from s (newest_of ds i)

  own_case : (d : Declaration) (ds : List Declaration) → d.name < length names → s ≤ length ds → Innermost ds → (b : Bool) → nat_eq d.name i ≡ b → is_some (id_in (named names d ∷ take (length ds - s) (map (named names) ds)) x) ≡ is_from s (if b then Some (length ds) else newest_of ds i)
  own_case d ds within from more true e =
      let test : pointwise nat_eq (get_or names d.name []) x ≡ true = test_is names distinct x i d.name seen within ∙ e in
      let so : nat_le s (length ds) ≡ true = le-leb s (length ds) from in
      rw (test, so) refl
  own_case d ds within from more false e =
      let test : pointwise nat_eq (get_or names d.name []) x ≡ false = test_is names distinct x i d.name seen within ∙ e in
      rw test more

  from_case : (d : Declaration) (ds : List Declaration) → d.name < length names → Innermost ds → (b : Bool) → nat_le s (length ds) ≡ b → Innermost (d ∷ ds)
  from_case d ds within more true e =
      let from : s ≤ length ds = leb-true s (length ds) e in
      let count : suc (length ds) - s ≡ suc (length ds - s) = omega (arith, from) in
      rw count (own_case d ds within from more (nat_eq d.name i) refl)
  from_case d ds within more false e =
      let before : length (d ∷ ds) ≤ s = leb-false s (length ds) e in
      let count : suc (length ds) - s ≡ 0 = omega (arith, before) in
      rw count (sym (older s i (d ∷ ds) before))

  pub innermost_is : (ds : List Declaration) → Hides (length names) ds → Innermost ds
  innermost_is [] h = ap (λ l. is_some (id_in l x)) (take_none (map (named names) []) (0 - s) refl)
  innermost_is (d ∷ ds) h = from_case d ds h.0 (innermost_is ds h.2) (nat_le s (length ds)) refl

id_in-append : (a b : Block) (x : List ℕ) → id_in (a ++ b) x ≡ id_or (id_in a x) (id_in b x)
id_in-append [] b x = refl
id_in-append (d ∷ a) b x = first (pointwise nat_eq d.0 x) (id_in-append a b x)
  where
    first : (t : Bool) → id_in (a ++ b) x ≡ id_or (id_in a x) (id_in b x) → (if t then Some d.1 else id_in (a ++ b) x) ≡ id_or (if t then Some d.1 else id_in a x) (id_in b x)
    first true h = refl
    first false h = h

-- the innermost declaration is the newest
pub found_is : (b : Block) (ss : List ℕ) (x : List ℕ) → Starts (length b) ss → found (parted b ss) x ≡ id_in b x
found_is [] [] x h = refl
found_is (d ∷ b) [] x h = cc
found_is b (s ∷ ss) x h =
    let left : length (drop (length b - s) b) ≡ s = length-drop (length b - s) b ∙ omega (arith, h.0) in
    let rest : found (parted (drop (length b - s) b) ss) x ≡ id_in (drop (length b - s) b) x = found_is (drop (length b - s) b) ss x (subst (λ n. Starts n ss) (sym left) h.1) in
    ap (λ o. id_or (id_in (take (length b - s) b) x) o) rest ∙ sym (id_in-append (take (length b - s) b) (drop (length b - s) b) x) ∙ ap (λ l. id_in l x) (take-append-drop (length b - s) b)

pub hides_more : (a b : ℕ) (ds : List Declaration) → a ≤ b → Hides a ds → Hides b ds
hides_more a b [] le h = h
hides_more a b (d ∷ ds) le h = let within = h.0 in (omega (arith, le, within), h.1, hides_more a b ds le h.2)

-- one more name leaves the names of declarations
pub named_left : (names more : List (List ℕ)) (ds : List Declaration) → Hides (length names) ds → map (named (names ++ more)) ds ≡ map (named names) ds
named_left names more [] h = refl
named_left names more (d ∷ ds) h =
    let own = get_or_append_left names more [] d.name h.0 in
    let rest = named_left names more ds h.2 in
    λ j. (own j, d.id) ∷ rest j

nothing_more : (places : List (Option ℕ)) (n : ℕ) → get_or (places ++ None ∷ []) n None ≡ get_or places n None
nothing_more [] zero = refl
nothing_more [] (suc n) = refl
nothing_more (p ∷ places) zero = refl
nothing_more (p ∷ places) (suc n) = nothing_more places n

-- a name that is seen leaves the declarations
module _ (s : Seen) (x : List ℕ) (ds : List Declaration) (agrees : Agrees s ds) where
  more_names : List (List ℕ)
  more_names = x ∷ []

  seen_case : (b : Bool) → Agrees (if b then s else record { names = s.names ++ x ∷ []; places = s.places ++ None ∷ [] }) ds
  seen_case true = agrees
  seen_case false =
      let a = length-append s.names (x ∷ []) in
      let b = length-append s.places (None ∷ []) in
      let f = agrees.full in
      record {
        full = omega (arith, a, b, f);
        hides = hides_more (length s.names) (length (s.names ++ x ∷ [])) ds (omega (arith, a)) agrees.hides;
        newest = λ n. nothing_more s.places n ∙ agrees.newest n;
      }

  pub agrees_seen : Agrees (with_name s x) ds
  agrees_seen = seen_case (is_some (number_in s.names x))

  named_case : (b : Bool) → map (named (if b then s else record { names = s.names ++ x ∷ []; places = s.places ++ None ∷ [] }).names) ds ≡ map (named s.names) ds
  named_case true = refl
  named_case false = named_left s.names (x ∷ []) ds agrees.hides

  pub named_seen : map (named (with_name s x).names) ds ≡ map (named s.names) ds
  named_seen = named_case (is_some (number_in s.names x))

differ : (i n : ℕ) → nat_eq i n ≡ false → n ≢ i
differ i n h e = true≢false (sym (eq-eqb i n (sym e)) ∙ h)

-- one more declaration
module _ (s t : Seen) (d : Declaration) (ds : List Declaration) (names : t.names ≡ s.names) where
  newest_case : t.places ≡ set s.places d.name (Some (length ds)) → Agrees s ds → d.name < length s.names → (n : ℕ) (b : Bool) → nat_eq d.name n ≡ b → get_or t.places n None ≡ (if b then Some (length ds) else newest_of ds n)
  newest_case places agrees within n true e =
      let same : d.name ≡ n = eqb-true d.name n e in
      let full = agrees.full in
      ap (λ l. get_or l n None) places ∙ ap (λ k. get_or (set s.places d.name (Some (length ds))) k None) (sym same) ∙ get_or-set_same s.places d.name (Some (length ds)) None (omega (arith, full, within))
  newest_case places agrees within n false e =
      ap (λ l. get_or l n None) places ∙ get_or-set_other s.places d.name n (Some (length ds)) None (differ d.name n e) ∙ agrees.newest n

  pub agrees_more : t.places ≡ set s.places d.name (Some (length ds)) → Agrees s ds → d.name < length s.names → d.hidden ≡ newest_of ds d.name → Agrees t (d ∷ ds)
  agrees_more places agrees within hidden =
      let lengths = ap length names in
      let counts = ap length places ∙ length-set s.places d.name (Some (length ds)) in
      let full = agrees.full in
      record {
        full = omega (arith, lengths, counts, full);
        hides = (omega (arith, lengths, within), hidden, hides_more (length s.names) (length t.names) ds (omega (arith, lengths)) agrees.hides);
        newest = λ n. newest_case places agrees within n (nat_eq d.name n) refl;
      }

  earlier_case : t.places ≡ set s.places d.name d.hidden → Agrees s (d ∷ ds) → (n : ℕ) (b : Bool) → nat_eq d.name n ≡ b → get_or s.places n None ≡ (if b then Some (length ds) else newest_of ds n) → get_or t.places n None ≡ newest_of ds n
  earlier_case places agrees n true e had =
      let same : d.name ≡ n = eqb-true d.name n e in
      let full = agrees.full in
      let within = agrees.hides.0 in
      ap (λ l. get_or l n None) places ∙ ap (λ k. get_or (set s.places d.name d.hidden) k None) (sym same) ∙ get_or-set_same s.places d.name d.hidden None (omega (arith, full, within)) ∙ agrees.hides.1 ∙ ap (λ k. newest_of ds k) same
  earlier_case places agrees n false e had =
      ap (λ l. get_or l n None) places ∙ get_or-set_other s.places d.name n d.hidden None (differ d.name n e) ∙ had

  -- and one less
  pub agrees_less : t.places ≡ set s.places d.name d.hidden → Agrees s (d ∷ ds) → Agrees t ds
  agrees_less places agrees =
      let lengths = ap length names in
      let counts = ap length places ∙ length-set s.places d.name d.hidden in
      let full = agrees.full in
      record {
        full = omega (arith, lengths, counts, full);
        hides = hides_more (length s.names) (length t.names) ds (omega (arith, lengths)) agrees.hides.2;
        newest = λ n. earlier_case places agrees n (nat_eq d.name n) refl (agrees.newest n);
      }

-- a declaration in the innermost block
pub parted_more : (b : Block) (s : ℕ) (ss : List ℕ) (x : List ℕ) (id : ℕ) → s ≤ length b → parted ((x, id) ∷ b) (s ∷ ss) ≡ declared (parted b (s ∷ ss)) x id
parted_more b s ss x id h = let count : suc (length b) - s ≡ suc (length b - s) = omega (arith, h) in rw count refl

-- a block that is opened
pub parted_open : (b : Block) (ss : List ℕ) → parted b (length b ∷ ss) ≡ [] ∷ parted b ss
parted_open b ss = let count : length b - length b ≡ 0 = omega arith in rw count refl

pub drop_next : {A : Type 0} (k : ℕ) (l : List A) (y : A) (r : List A) → drop k l ≡ y ∷ r → drop (suc k) l ≡ r
drop_next zero [] y r h = cc
drop_next zero (z ∷ l) y r h = cc
drop_next (suc k) [] y r h = cc
drop_next (suc k) (z ∷ l) y r h = drop_next k l y r h

pub length-bindings : (s : Seen) (items : List Declaration) → length (bindings s items) ≡ length items
length-bindings s items = length-map (reverse items) (named s.names) ∙ length-reverse items

-- the place of a name leads to its id
module _ (s : Seen) (ds : List Declaration) (x : List ℕ) (agrees : Agrees s ds) (distinct : Distinct s.names) where
  place_case : (p : ℕ) (o : Option ℕ) → number_in s.names x ≡ o → option_and_then (λ i. get_or s.places i None) o ≡ Some p → Stands ds p (id_in (map (named s.names) ds) x)
  place_case p None e h = cc
  place_case p (Some i) e h = stands s.names distinct x i e ds p agrees.hides (sym (agrees.newest i) ∙ h)

  pub stands_at : (p : ℕ) → place_in s x ≡ Some p → Stands ds p (id_in (map (named s.names) ds) x)
  stands_at p h = place_case p (number_in s.names x) refl h

  none_case : (o : Option ℕ) → number_in s.names x ≡ o → option_and_then (λ i. get_or s.places i None) o ≡ None → id_in (map (named s.names) ds) x ≡ None
  none_case None e h = unseen s.names distinct x ds agrees.hides e
  none_case (Some i) e h = undeclared s.names distinct x i e ds agrees.hides (sym (agrees.newest i) ∙ h)

  pub stands_nowhere : place_in s x ≡ None → id_in (map (named s.names) ds) x ≡ None
  stands_nowhere h = none_case (number_in s.names x) refl h

module _ (s : Seen) (items : List Declaration) (starts : List ℕ) (x : List ℕ) (agrees : Agrees s (reverse items)) (parts : Starts (length items) starts) (distinct : Distinct s.names) where
  newest_found : found (parted (bindings s items) starts) x ≡ id_in (bindings s items) x
  newest_found = found_is (bindings s items) starts x (subst (λ n. Starts n starts) (sym (length-bindings s items)) parts)

  pub place_within : (p : ℕ) → place_in s x ≡ Some p → p < length items
  place_within p h =
      let at = (stands_at s (reverse items) x agrees distinct p h).at in
      let within = slice_get_within (reverse (reverse items)) p (stands_at s (reverse items) x agrees distinct p h).declaration at in
      let twice = length-reverse (reverse items) in
      let once = length-reverse items in
      omega (arith, within, twice, once)

  pub found_at : (p : ℕ) (d : Declaration) → place_in s x ≡ Some p → slice_get items p ≡ Some d → Some d.id ≡ found (parted (bindings s items) starts) x
  found_at p d h at =
      let there = stands_at s (reverse items) x agrees distinct p h in
      let same : Some d ≡ Some there.declaration = sym at ∙ ap (λ l. slice_get l p) (sym (reverse-reverse items)) ∙ there.at in
      let id_is : Some d.id ≡ Some there.declaration.id = ap (λ o. option_map (λ d. d.id) o) same in
      id_is ∙ sym there.its ∙ sym newest_found

  pub found_none : place_in s x ≡ None → None ≡ found (parted (bindings s items) starts) x
  found_none h = sym (stands_nowhere s (reverse items) x agrees distinct h) ∙ sym newest_found

reverse-last : {A : Type 0} (xs : List A) (x : A) → reverse (xs ++ x ∷ []) ≡ x ∷ reverse xs
reverse-last xs x = reverse-append xs (x ∷ [])

-- a name is declared
module _ (s t : Seen) (x : List ℕ) (n start : ℕ) (items : List Declaration) (agrees : Agrees s (reverse items)) (seen : t ≡ with_name s x) (number : number_in t.names x ≡ Some n) (distinct : Distinct t.names) where
  pub agrees_then : Agrees t (reverse items)
  agrees_then = subst (λ t. Agrees t (reverse items)) (sym seen) (agrees_seen s x (reverse items) agrees)

  pub bindings_then : bindings t items ≡ bindings s items
  bindings_then = ap (λ t. bindings t items) seen ∙ named_seen s x (reverse items) agrees

  pub stands_from : is_some (id_in (newer_than start (bindings s items)) x) ≡ is_from start (get_or t.places n None)
  stands_from =
      let lengths = length-map (reverse items) (named t.names) in
      ap (λ b. is_some (id_in (newer_than start b) x)) (sym bindings_then) ∙ ap (λ k. is_some (id_in (take (k - start) (bindings t items)) x)) lengths ∙ innermost_is t.names distinct x n number start (reverse items) agrees_then.hides ∙ ap (λ o. is_from start o) (sym (agrees_then.newest n))

  module _ (u : Seen) (d : Declaration) (more : List Declaration) (id : ℕ) (same : u.names ≡ t.names) (is : d ≡ record { name = n; id = id; hidden = get_or t.places n None }) (are : more ≡ items ++ d ∷ []) where
    newer : reverse more ≡ d ∷ reverse items
    newer = ap (λ l. reverse l) are ∙ reverse-last items d

    pub agrees_after : u.places ≡ set t.places n (Some (length items)) → n < length t.names → Agrees u (reverse more)
    agrees_after places within =
        let number_is : d.name ≡ n = ap (λ d. d.name) is in
        let written : u.places ≡ set t.places d.name (Some (length (reverse items))) = places ∙ ap (λ k. set t.places n (Some k)) (sym (length-reverse items)) ∙ ap (λ k. set t.places k (Some (length (reverse items)))) (sym number_is) in
        let hidden : d.hidden ≡ newest_of (reverse items) d.name = ap (λ d. d.hidden) is ∙ agrees_then.newest n ∙ ap (λ k. newest_of (reverse items) k) (sym number_is) in
        subst (λ l. Agrees u l) (sym newer) (agrees_more t u d (reverse items) same written agrees_then (omega (arith, number_is, within)) hidden)

    pub bindings_after : bindings u more ≡ (x, id) ∷ bindings s items
    bindings_after =
        let name_is : get_or t.names n [] ≡ x = get_or_from_slice_get t.names n x [] (number_at t.names x n number) in
        let first : named t.names d ≡ (x, id) = ap (λ d. named t.names d) is ∙ ap (λ k. (k, id)) name_is in
        ap (λ l. map (named u.names) l) newer ∙ ap (λ ns. map (named ns) (d ∷ reverse items)) same ∙ ap (λ p. p ∷ bindings t items) first ∙ ap (λ b. (x, id) ∷ b) bindings_then

-- what a declaration does to the blocks
pub declare_parted : (b c : Block) (starts : List ℕ) (x : List ℕ) (id : ℕ) (new : Bool) → c ≡ (if new then (x, id) ∷ b else b) → Starts (length b) starts → 0 < length (parted b starts) → parted c starts ≡ (if new then declared (parted b starts) x id else parted b starts)
declare_parted b c [] x id new is parts opened = absurd (omega (arith, opened))
declare_parted b c (s ∷ ss) x id true is parts opened = ap (λ l. parted l (s ∷ ss)) is ∙ parted_more b s ss x id parts.0
declare_parted b c (s ∷ ss) x id false is parts opened = ap (λ l. parted l (s ∷ ss)) is

-- the newest declaration is taken back
module _ (s t : Seen) (old new : List Declaration) (d : Declaration) (are : old ≡ new ++ d ∷ []) (same : t.names ≡ s.names) where
  newest_first : reverse old ≡ d ∷ reverse new
  newest_first = ap (λ l. reverse l) are ∙ reverse-last new d

  pub agrees_taken : Agrees s (reverse old) → t.places ≡ set s.places d.name d.hidden → Agrees t (reverse new)
  agrees_taken agrees written = agrees_less s t d (reverse new) same written (subst (λ l. Agrees s l) newest_first agrees)

  pub name_taken : Agrees s (reverse old) → d.name < length s.names
  name_taken agrees = (subst (λ l. Agrees s l) newest_first agrees).hides.0

  pub bindings_taken : (k : ℕ) (all : Block) → bindings s old ≡ drop k all → bindings t new ≡ drop (suc k) all
  bindings_taken k all h =
      let parts : bindings s old ≡ named s.names d ∷ bindings s new = ap (λ l. map (named s.names) l) newest_first in
      ap (λ ns. map (named ns) (reverse new)) same ∙ sym (drop_next k all (named s.names d) (bindings s new) (sym h ∙ parts))

  pub length_taken : length old ≡ length new + 1
  length_taken = ap length are ∙ length-append new (d ∷ [])
