-- Tables of places and the lists that they were made of.
use Rattle.std.proofs.Common.{◌≡◌, ℕ, ℤ, suc, ◌+◌, ◌-◌, ◌≤◌, ◌<◌, List, [], ◌∷◌, ◌++◌, Bool, true, false, not, Option, Some, None, if◌then◌else◌, length, length-take, take, refl, ap, sym, subst, ◌∙◌, arith, get_or, map, is_some, slice_get, option_map, true≢false}
use Rattle.std.specs.Prelude.{IfSome}
use Rattle.std.proofs.lemmas.List.{length-map}
use Rattle.std.specs.Cmp.Lexicographic.{bytes_decides}
use Rattle.uc_tree.specs.Names.{same_name}
use Rattle.uc_tree.specs.Numbering.{is_event, place_from}
use Rattle.uc_tree.specs.Objects.{event_from}
use Rattle.uc_tree.specs.Programs.{Class, Constant}
use Rattle.uc_tree.specs.Constants.{constant_named}
use Rattle.uc_tree.specs.Cells.{object_named, object_of_kind}
use Rattle.uc_layout.specs.Values.{value_from}
use Rattle.uc_names.specs.Blocks.{Block, id_in, id_or, found, is_declared, declared}
use Rattle.uc_layout.specs.Places.{IsPlaces}

or_else : Option ℕ → Option ℕ → Option ℕ
or_else None other = other
or_else (Some i) other = Some i

last_case : (i : ℕ) (b : Bool) (ns : List (List ℕ)) (x name : List ℕ) → place_from (i + 1) (ns ++ x ∷ []) name ≡ id_or (place_from (i + 1) ns name) (if same_name x name then Some (i + 1 + length ns) else None) → (if b then Some i else place_from (i + 1) (ns ++ x ∷ []) name) ≡ id_or (if b then Some i else place_from (i + 1) ns name) (if same_name x name then Some (i + suc (length ns)) else None)
last_case i true ns x name h = refl
last_case i false ns x name h = let e : i + 1 + length ns ≡ i + suc (length ns) = omega arith in h ∙ ap (λ k. id_or (place_from (i + 1) ns name) (if same_name x name then Some k else None)) e

pub place_last : (i : ℕ) (ns : List (List ℕ)) (x name : List ℕ) → place_from i (ns ++ x ∷ []) name ≡ id_or (place_from i ns name) (if same_name x name then Some (i + length ns) else None)
place_last i [] x name = let e : i + 0 ≡ i = omega arith in ap (λ k. if same_name x name then Some k else None) (sym e)
place_last i (n ∷ ns) x name = last_case i (same_name n name) ns x name (place_last (i + 1) ns x name)

known_or : (o other : Option ℕ) → is_some o ≡ true → id_or o other ≡ o
known_or None other h = absurd (true≢false (sym h))
known_or (Some i) other h = refl

none_or : (o : Option ℕ) → id_or o None ≡ o
none_or None = refl
none_or (Some i) = refl

found_one : (b : Block) (name : List ℕ) → found (b ∷ []) name ≡ id_in b name
found_one b name = none_or (id_in b name)

-- a name that stood already has its place, and any other name is not this one
stood_case : (b : Block) (x name : List ℕ) (o : Option ℕ) (i : ℕ) → o ≡ id_in b name → is_some (id_in b x) ≡ true → (t : Bool) → same_name x name ≡ t → id_or o (if t then Some i else None) ≡ o
stood_case b x name o i is stood true e =
    let same : x ≡ name = (bytes_decides x name).0 e in
    known_or o (Some i) (ap is_some is ∙ ap (λ n. is_some (id_in b n)) (sym same) ∙ stood)
stood_case b x name o i is stood false e = none_or o

new_case : (b : Block) (x name : List ℕ) (i : ℕ) → is_some (id_in b x) ≡ false → (t : Bool) → same_name x name ≡ t → (if t then Some i else id_in b name) ≡ id_or (id_in b name) (if t then Some i else None)
new_case b x name i new true e =
    let same : x ≡ name = (bytes_decides x name).0 e in
    let nothing : id_in b name ≡ None = no_id (id_in b name) (ap (λ n. is_some (id_in b n)) (sym same) ∙ new) in
    rw nothing refl
  where
    no_id : (o : Option ℕ) → is_some o ≡ false → o ≡ None
    no_id None h = refl
    no_id (Some j) h = absurd (true≢false h)
new_case b x name i new false e = sym (none_or (id_in b name))

module _ (names : List (List ℕ)) (x : List ℕ) (place : ℕ) (long : length names ≡ place) where
  noted_case : (b : Block) → IsPlaces names (b ∷ []) → (t : Bool) → is_some (id_in b x) ≡ t → IsPlaces (names ++ x ∷ []) (if not t then declared (b ∷ []) x place else (b ∷ []))
  noted_case b was true e = record {
    one = refl;
    at = λ name.
        let is : place_from 0 names name ≡ id_in b name = sym (was.at name) ∙ found_one b name in
        was.at name ∙ sym (place_last 0 names x name ∙ stood_case b x name (place_from 0 names name) (0 + length names) is e (same_name x name) refl);
  }
  noted_case b was false e = record {
    one = refl;
    at = λ name.
        let is : place_from 0 names name ≡ id_in b name = sym (was.at name) ∙ found_one b name in
        let count : place ≡ 0 + length names = omega (arith, long) in
        found_one ((x, place) ∷ b) name
        ∙ new_case b x name place e (same_name x name) refl
        ∙ ap (λ k. id_or (id_in b name) (if same_name x name then Some k else None)) count
        ∙ ap (λ o. id_or o (if same_name x name then Some (0 + length names) else None)) (sym is)
        ∙ sym (place_last 0 names x name);
  }

  -- one more name
  pub noted : (old new : List Block) (told : Bool) → told ≡ not (is_declared old x) → new ≡ (if told then declared old x place else old) → IsPlaces names old → IsPlaces (names ++ x ∷ []) new
  noted [] new told a b was = let one = was.one in absurd (omega (arith, one))
  noted (b ∷ []) new told a e was = subst (λ bs. IsPlaces (names ++ x ∷ []) bs) (sym (e ∙ ap (λ t. if t then declared (b ∷ []) x place else (b ∷ [])) a)) (noted_case b was (is_some (id_in b x)) refl)
  noted (b ∷ c ∷ bs) new told a e was = let one = was.one in absurd (omega (arith, one))

pub place_within : (i : ℕ) (ns : List (List ℕ)) (name : List ℕ) (p : ℕ) → place_from i ns name ≡ Some p → (i ≤ p) × (p < i + length ns)
place_within i [] name p h = cc
place_within i (n ∷ ns) name p h = within_case (same_name n name) h (λ k. place_within (i + 1) ns name p k)
  where
    within_case : (t : Bool) → (if t then Some i else place_from (i + 1) ns name) ≡ Some p → (place_from (i + 1) ns name ≡ Some p → (i + 1 ≤ p) × (p < i + 1 + length ns)) → (i ≤ p) × (p < i + length (n ∷ ns))
    within_case true e more = let is : i ≡ p = cc in (omega (arith, is), omega (arith, is))
    within_case false e more = let m = more e in let low = m.0 in let high = m.1 in (omega (arith, low), omega (arith, high))

some_within : (o : Option ℕ) (n : ℕ) → ((p : ℕ) → o ≡ Some p → p < n) → IfSome o (λ p. p < n)
some_within None n h = tt
some_within (Some p) n h = h p refl

pub within_list : {A : Type 0} (f : A → List ℕ) (xs : List A) (name : List ℕ) (o : Option ℕ) → o ≡ place_from 0 (map f xs) name → IfSome o (λ p. p < length xs)
within_list f xs name o is = some_within o (length xs) (λ p h. let w = (place_within 0 (map f xs) name p (sym is ∙ h)).1 in let long = length-map xs f in omega (arith, w, long))

pub length_taken : {A : Type 0} (f : A → List ℕ) (xs : List A) (i : ℕ) → i < length xs → length (map f (take i xs)) ≡ i
length_taken f xs i h = let all = length-take i xs in length-map (take i xs) f ∙ omega (arith, all, h)

-- the value of a constant is that at the place of its name
module _ {A : Type 0} (f : A → Constant) where
  placed_case : (b : Bool) (x : A) (xs : List A) (i : ℕ) (vs : List (Option ℤ)) (name : List ℕ) (p : ℕ) → (place_from (i + 1) (map (λ x. (f x).name) xs) name ≡ Some p → value_from (map f xs) (i + 1) vs name ≡ get_or vs p None) → (if b then Some i else place_from (i + 1) (map (λ x. (f x).name) xs) name) ≡ Some p → (if b then get_or vs i None else value_from (map f xs) (i + 1) vs name) ≡ get_or vs p None
  placed_case true x xs i vs name p more h = let is : i ≡ p = cc in ap (λ k. get_or vs k None) is
  placed_case false x xs i vs name p more h = more h

  pub value_placed : (xs : List A) (i : ℕ) (vs : List (Option ℤ)) (name : List ℕ) (p : ℕ) → place_from i (map (λ x. (f x).name) xs) name ≡ Some p → value_from (map f xs) i vs name ≡ get_or vs p None
  value_placed [] i vs name p h = cc
  value_placed (x ∷ xs) i vs name p h = placed_case (same_name (f x).name name) x xs i vs name p (value_placed xs (i + 1) vs name p) h

  nowhere_case : (b : Bool) (x : A) (xs : List A) (i : ℕ) (vs : List (Option ℤ)) (name : List ℕ) → (place_from (i + 1) (map (λ x. (f x).name) xs) name ≡ None → value_from (map f xs) (i + 1) vs name ≡ None) → (if b then Some i else place_from (i + 1) (map (λ x. (f x).name) xs) name) ≡ None → (if b then get_or vs i None else value_from (map f xs) (i + 1) vs name) ≡ None
  nowhere_case true x xs i vs name more h = cc
  nowhere_case false x xs i vs name more h = more h

  pub value_nowhere : (xs : List A) (i : ℕ) (vs : List (Option ℤ)) (name : List ℕ) → place_from i (map (λ x. (f x).name) xs) name ≡ None → value_from (map f xs) i vs name ≡ None
  value_nowhere [] i vs name h = refl
  value_nowhere (x ∷ xs) i vs name h = nowhere_case (same_name (f x).name name) x xs i vs name (value_nowhere xs (i + 1) vs name) h

-- the object of a name is that of the class at the place of its name
module _ {A : Type 0} (f : A → Class) where
  object_case : (b : Bool) (x : A) (xs : List A) (i : ℕ) (name : List ℕ) (p : ℕ) (y : A) → (place_from (i + 1) (map (λ x. (f x).name) xs) name ≡ Some p → slice_get xs (p - (i + 1)) ≡ Some y → object_named (map f xs) (i + 1) name ≡ object_of_kind p (f y).kind) → (if b then Some i else place_from (i + 1) (map (λ x. (f x).name) xs) name) ≡ Some p → slice_get (x ∷ xs) (p - i) ≡ Some y → (if b then object_of_kind i (f x).kind else object_named (map f xs) (i + 1) name) ≡ object_of_kind p (f y).kind
  object_case true x xs i name p y more h at =
      let is : i ≡ p = cc in
      let first : p - i ≡ 0 = omega (arith, is) in
      let here : Some x ≡ Some y = sym (ap (λ k. slice_get (x ∷ xs) k) first) ∙ at in
      let same : x ≡ y = cc in
      ap (λ k. object_of_kind k (f x).kind) is ∙ ap (λ z. object_of_kind p (f z).kind) same
  object_case false x xs i name p y more h at =
      let low = (place_within (i + 1) (map (λ x. (f x).name) xs) name p h).0 in
      let next : p - i ≡ suc (p - (i + 1)) = omega (arith, low) in
      more h (sym (ap (λ k. slice_get (x ∷ xs) k) next) ∙ at)

  pub object_placed : (xs : List A) (i : ℕ) (name : List ℕ) (p : ℕ) (y : A) → place_from i (map (λ x. (f x).name) xs) name ≡ Some p → slice_get xs (p - i) ≡ Some y → object_named (map f xs) i name ≡ object_of_kind p (f y).kind
  object_placed [] i name p y h at = cc
  object_placed (x ∷ xs) i name p y h at = object_case (same_name (f x).name name) x xs i name p y (object_placed xs (i + 1) name p y) h at

  nothing_case : (b : Bool) (x : A) (xs : List A) (i : ℕ) (name : List ℕ) → (place_from (i + 1) (map (λ x. (f x).name) xs) name ≡ None → object_named (map f xs) (i + 1) name ≡ None) → (if b then Some i else place_from (i + 1) (map (λ x. (f x).name) xs) name) ≡ None → (if b then object_of_kind i (f x).kind else object_named (map f xs) (i + 1) name) ≡ None
  nothing_case true x xs i name more h = cc
  nothing_case false x xs i name more h = more h

  pub object_nowhere : (xs : List A) (i : ℕ) (name : List ℕ) → place_from i (map (λ x. (f x).name) xs) name ≡ None → object_named (map f xs) i name ≡ None
  object_nowhere [] i name h = refl
  object_nowhere (x ∷ xs) i name h = nothing_case (same_name (f x).name name) x xs i name (object_nowhere xs (i + 1) name) h

-- the event of a name is that at the place of its name
module _ {A : Type 0} (f : A → Class) where
  abbrev event_by : Bool → ℕ → Option ℕ
  event_by b i = if b then Some i else None

  event_case : (b : Bool) (x : A) (xs : List A) (i : ℕ) (name : List ℕ) (p : ℕ) (y : A) → (place_from (i + 1) (map (λ x. (f x).name) xs) name ≡ Some p → slice_get xs (p - (i + 1)) ≡ Some y → event_from (map f xs) (i + 1) name ≡ event_by (is_event (f y).kind) p) → (if b then Some i else place_from (i + 1) (map (λ x. (f x).name) xs) name) ≡ Some p → slice_get (x ∷ xs) (p - i) ≡ Some y → (if b then event_by (is_event (f x).kind) i else event_from (map f xs) (i + 1) name) ≡ event_by (is_event (f y).kind) p
  event_case true x xs i name p y more h at =
      let is : i ≡ p = cc in
      let first : p - i ≡ 0 = omega (arith, is) in
      let here : Some x ≡ Some y = sym (ap (λ k. slice_get (x ∷ xs) k) first) ∙ at in
      let same : x ≡ y = cc in
      ap (λ k. event_by (is_event (f x).kind) k) is ∙ ap (λ z. event_by (is_event (f z).kind) p) same
  event_case false x xs i name p y more h at =
      let low = (place_within (i + 1) (map (λ x. (f x).name) xs) name p h).0 in
      let next : p - i ≡ suc (p - (i + 1)) = omega (arith, low) in
      more h (sym (ap (λ k. slice_get (x ∷ xs) k) next) ∙ at)

  pub event_placed : (xs : List A) (i : ℕ) (name : List ℕ) (p : ℕ) (y : A) → place_from i (map (λ x. (f x).name) xs) name ≡ Some p → slice_get xs (p - i) ≡ Some y → event_from (map f xs) i name ≡ (if is_event (f y).kind then Some p else None)
  event_placed [] i name p y h at = cc
  event_placed (x ∷ xs) i name p y h at = event_case (same_name (f x).name name) x xs i name p y (event_placed xs (i + 1) name p y) h at

  no_event_case : (b : Bool) (x : A) (xs : List A) (i : ℕ) (name : List ℕ) → (place_from (i + 1) (map (λ x. (f x).name) xs) name ≡ None → event_from (map f xs) (i + 1) name ≡ None) → (if b then Some i else place_from (i + 1) (map (λ x. (f x).name) xs) name) ≡ None → (if b then event_by (is_event (f x).kind) i else event_from (map f xs) (i + 1) name) ≡ None
  no_event_case true x xs i name more h = cc
  no_event_case false x xs i name more h = more h

  pub event_nowhere : (xs : List A) (i : ℕ) (name : List ℕ) → place_from i (map (λ x. (f x).name) xs) name ≡ None → event_from (map f xs) i name ≡ None
  event_nowhere [] i name h = refl
  event_nowhere (x ∷ xs) i name h = no_event_case (same_name (f x).name name) x xs i name (event_nowhere xs (i + 1) name) h

-- the constant of a name is that at the place of its name
module _ {A : Type 0} (f : A → Constant) where
  constant_case : (b : Bool) (x : A) (xs : List A) (i : ℕ) (name : List ℕ) (p : ℕ) → (place_from (i + 1) (map (λ x. (f x).name) xs) name ≡ Some p → constant_named (map f xs) name ≡ option_map f (slice_get xs (p - (i + 1)))) → (if b then Some i else place_from (i + 1) (map (λ x. (f x).name) xs) name) ≡ Some p → (if b then Some (f x) else constant_named (map f xs) name) ≡ option_map f (slice_get (x ∷ xs) (p - i))
  constant_case true x xs i name p more h =
      let is : i ≡ p = cc in
      let first : p - i ≡ 0 = omega (arith, is) in
      sym (ap (λ k. option_map f (slice_get (x ∷ xs) k)) first)
  constant_case false x xs i name p more h =
      let low = (place_within (i + 1) (map (λ x. (f x).name) xs) name p h).0 in
      let next : p - i ≡ suc (p - (i + 1)) = omega (arith, low) in
      more h ∙ sym (ap (λ k. option_map f (slice_get (x ∷ xs) k)) next)

  pub constant_placed : (xs : List A) (i : ℕ) (name : List ℕ) (p : ℕ) → place_from i (map (λ x. (f x).name) xs) name ≡ Some p → constant_named (map f xs) name ≡ option_map f (slice_get xs (p - i))
  constant_placed [] i name p h = cc
  constant_placed (x ∷ xs) i name p h = constant_case (same_name (f x).name name) x xs i name p (constant_placed xs (i + 1) name p) h

  missing_case : (b : Bool) (x : A) (xs : List A) (i : ℕ) (name : List ℕ) → (place_from (i + 1) (map (λ x. (f x).name) xs) name ≡ None → constant_named (map f xs) name ≡ None) → (if b then Some i else place_from (i + 1) (map (λ x. (f x).name) xs) name) ≡ None → (if b then Some (f x) else constant_named (map f xs) name) ≡ None
  missing_case true x xs i name more h = cc
  missing_case false x xs i name more h = more h

  pub constant_missing : (xs : List A) (i : ℕ) (name : List ℕ) → place_from i (map (λ x. (f x).name) xs) name ≡ None → constant_named (map f xs) name ≡ None
  constant_missing [] i name h = refl
  constant_missing (x ∷ xs) i name h = missing_case (same_name (f x).name name) x xs i name (constant_missing xs (i + 1) name) h
