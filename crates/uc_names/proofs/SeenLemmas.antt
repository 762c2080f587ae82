-- Names that were seen, and their numbers.
use Rattle.std.proofs.Common.{◌≡◌, ℕ, zero, suc, ◌+◌, ◌<◌, List, [], ◌∷◌, ◌++◌, Bool, true, false, Option, Some, None, if◌then◌else◌, cond, length, refl, ap, sym, ◌∙◌, arith, set, slice_get, map, nat_eq, ◌⊎◌, inl, inr, position, subst, length-append}
use Rattle.std.proofs.lemmas.Cmp.{nat_list_eq_equiv}
use Rattle.std.proofs.lemmas.List.{map-append, length-map}
use Rattle.std.proofs.lemmas.Iterator.Adapters.{position_from-zero}
use Rattle.std.specs.Prelude.{option_map}
use Rattle.std.specs.List.{position_from}
use Rattle.std.specs.Cmp.Lexicographic.{pointwise, bytes_decides}
use Rattle.std.specs.Map.{keys_of}
use Rattle.std.specs.declared.alloc.Global.{Global}
use Rattle.std.specs.declared.vec.Vec.{Vec}
use Rattle.indexmap.specs.IndexMap.{set_value_at, insert_entry}
use Rattle.uc_names.specs.Seen.{Distinct, bytes_of, number_in, with_name}

abbrev pub Entries : Type 0
Entries = List (Vec ℕ Global × Option ℕ)

pub names_kept : (es : Entries) (i : ℕ) (w : Option ℕ) → map bytes_of (set_value_at es i w) ≡ map bytes_of es
names_kept [] i w = refl
names_kept (e ∷ es) zero w = refl
names_kept (e ∷ es) (suc i) w = ap (λ l. bytes_of e ∷ l) (names_kept es i w)

pub places_set : (es : Entries) (i : ℕ) (w : Option ℕ) → map (λ e. e.1) (set_value_at es i w) ≡ set (map (λ e. e.1) es) i w
places_set [] i w = refl
places_set (e ∷ es) zero w = refl
places_set (e ∷ es) (suc i) w = ap (λ l. e.1 ∷ l) (places_set es i w)

pub symmetric : (a b : List ℕ) → pointwise nat_eq a b ≡ pointwise nat_eq b a
symmetric = nat_list_eq_equiv.symm

place_step : (i : ℕ) (b : Bool) (p n : Option ℕ) → p ≡ option_map (λ m. i + 1 + m) n → cond b (Some i) p ≡ option_map (λ m. i + m) (if b then Some 0 else option_map (λ m. m + 1) n)
place_step i true p n h = ap Some (omega arith)
place_step i false p None h = h
place_step i false p (Some m) h = h ∙ ap Some (omega arith)

place_is : (x : List ℕ) (i : ℕ) (es : Entries) → position_from (λ (k : Vec ℕ Global). pointwise nat_eq x k.items) i (keys_of es) ≡ option_map (λ m. i + m) (number_in (map bytes_of es) x)
place_is x i [] = refl
place_is x i (e ∷ es) =
    ap (λ b. cond b (Some i) (position_from (λ (k : Vec ℕ Global). pointwise nat_eq x k.items) (i + 1) (keys_of es))) (symmetric x e.0.items) ∙ place_step i (pointwise nat_eq e.0.items x) (position_from (λ (k : Vec ℕ Global). pointwise nat_eq x k.items) (i + 1) (keys_of es)) (number_in (map bytes_of es) x) (place_is x (i + 1) es)

zero_more : (o : Option ℕ) → option_map (λ m. 0 + m) o ≡ o
zero_more None = refl
zero_more (Some m) = ap Some (omega arith)

pub number_is : (x : List ℕ) (es : Entries) → position (λ (k : Vec ℕ Global). pointwise nat_eq x k.items) (keys_of es) ≡ number_in (map bytes_of es) x
number_is x es = position_from-zero (λ (k : Vec ℕ Global). pointwise nat_eq x k.items) (keys_of es) ∙ place_is x 0 es ∙ zero_more (number_in (map bytes_of es) x)

none_more : (o : Option ℕ) → option_map (λ m. m + 1) o ≡ None → o ≡ None
none_more None h = refl
none_more (Some m) h = cc

-- a name that is not among these differs from the first, and is not among the others
module _ (n : List ℕ) (ns : List (List ℕ)) (x : List ℕ) where
  absent_case : (b : Bool) → pointwise nat_eq n x ≡ b → (if b then Some 0 else option_map (λ m. m + 1) (number_in ns x)) ≡ None → (pointwise nat_eq n x ≡ false) × (number_in ns x ≡ None)
  absent_case true e h = cc
  absent_case false e h = (e, none_more (number_in ns x) h)

  pub absent : number_in (n ∷ ns) x ≡ None → (pointwise nat_eq n x ≡ false) × (number_in ns x ≡ None)
  absent h = absent_case (pointwise nat_eq n x) refl h

pub number_last : (ns : List (List ℕ)) (x : List ℕ) → number_in ns x ≡ None → number_in (ns ++ x ∷ []) x ≡ Some (length ns)
number_last [] x h = let own : pointwise nat_eq x x ≡ true = (bytes_decides x x).1 refl in rw own refl
number_last (n ∷ ns) x h =
    let a = absent n ns x h in
    let differs = a.0 in
    let more = number_last ns x a.1 in
    rw (differs, more) (ap Some (omega arith))

abbrev pub same : Vec ℕ Global → Vec ℕ Global → Bool
same a b = pointwise nat_eq a.items b.items

pub insert_is : (k : Vec ℕ Global) (v : Option ℕ) (es : Entries) → number_in (map bytes_of es) k.items ≡ None → insert_entry same es k v ≡ es ++ (k, v) ∷ []
insert_is k v [] h = refl
insert_is k v (e ∷ es) h =
    let a = absent e.0.items (map bytes_of es) k.items h in
    let differs : pointwise nat_eq k.items e.0.items ≡ false = symmetric k.items e.0.items ∙ a.0 in
    rw differs (ap (λ l. e ∷ l) (insert_is k v es a.1))

some_more : (o : Option ℕ) (i : ℕ) → option_map (λ m. m + 1) o ≡ Some i → (m : ℕ) × (o ≡ Some m) × (i ≡ suc m)
some_more None i h = cc
some_more (Some m) i h = let e : m + 1 ≡ i = cc in (m, refl, omega (arith, e))

-- the number of a name says where it stands
module _ (n : List ℕ) (ns : List (List ℕ)) (x : List ℕ) (i : ℕ) where
  abbrev pub Standing : Type 0
  Standing = ((i ≡ 0) × (n ≡ x)) ⊎ ((m : ℕ) × (pointwise nat_eq n x ≡ false) × (number_in ns x ≡ Some m) × (i ≡ suc m))

  standing_case : (b : Bool) → pointwise nat_eq n x ≡ b → (if b then Some 0 else option_map (λ m. m + 1) (number_in ns x)) ≡ Some i → Standing
  standing_case true e h = inl (cc, (bytes_decides n x).0 e)
  standing_case false e h = let s = some_more (number_in ns x) i h in inr (s.0, e, s.1, s.2)

  pub standing : number_in (n ∷ ns) x ≡ Some i → Standing
  standing h = standing_case (pointwise nat_eq n x) refl h

at_case : (n : List ℕ) (ns : List (List ℕ)) (x : List ℕ) (i : ℕ) → ((m : ℕ) → number_in ns x ≡ Some m → slice_get ns m ≡ Some x) → Standing n ns x i → slice_get (n ∷ ns) i ≡ Some x
at_case n ns x i more (inl s) = let zero_is = s.0 in let name_is = s.1 in rw zero_is (ap Some name_is)
at_case n ns x i more (inr s) = let next = s.3 in rw next (more s.0 s.2)

pub number_at : (ns : List (List ℕ)) (x : List ℕ) (i : ℕ) → number_in ns x ≡ Some i → slice_get ns i ≡ Some x
number_at [] x i h = cc
number_at (n ∷ ns) x i h = at_case n ns x i (number_at ns x) (standing n ns x i h)

left_case : (n : List ℕ) (ns more : List (List ℕ)) (x : List ℕ) (i : ℕ) → ((m : ℕ) → number_in ns x ≡ Some m → number_in (ns ++ more) x ≡ Some m) → Standing n ns x i → number_in ((n ∷ ns) ++ more) x ≡ Some i
left_case n ns more x i rest (inl s) = let own : pointwise nat_eq n x ≡ true = (bytes_decides n x).1 s.1 in let zero_is = s.0 in rw (own, zero_is) refl
left_case n ns more x i rest (inr s) =
    let differs = s.1 in
    let number = rest s.0 s.2 in
    let next = s.3 in
    rw (differs, number, next) (ap Some (omega arith))

pub number_left : (ns more : List (List ℕ)) (x : List ℕ) (i : ℕ) → number_in ns x ≡ Some i → number_in (ns ++ more) x ≡ Some i
number_left [] more x i h = cc
number_left (n ∷ ns) more x i h = left_case n ns more x i (number_left ns more x) (standing n ns x i h)

last_more : (n : List ℕ) (ns : List (List ℕ)) (x : List ℕ) (i : ℕ) (name : List ℕ) → (slice_get ns i ≡ Some name) ⊎ ((i ≡ length ns) × (name ≡ x)) → (slice_get ns i ≡ Some name) ⊎ ((suc i ≡ length (n ∷ ns)) × (name ≡ x))
last_more n ns x i name (inl a) = inl a
last_more n ns x i name (inr a) = inr (ap suc a.0, a.1)

last_case : (ns : List (List ℕ)) (x : List ℕ) (i : ℕ) (name : List ℕ) → slice_get (ns ++ x ∷ []) i ≡ Some name → (slice_get ns i ≡ Some name) ⊎ ((i ≡ length ns) × (name ≡ x))
last_case [] x zero name h = inr (refl, cc)
last_case [] x (suc i) name h = cc
last_case (n ∷ ns) x zero name h = inl h
last_case (n ∷ ns) x (suc i) name h = last_more n ns x i name (last_case ns x i name h)

distinct_case : (ns : List (List ℕ)) (x : List ℕ) → number_in ns x ≡ None → Distinct ns → (i : ℕ) (name : List ℕ) → (slice_get ns i ≡ Some name) ⊎ ((i ≡ length ns) × (name ≡ x)) → number_in (ns ++ x ∷ []) name ≡ Some i
distinct_case ns x new d i name (inl a) = number_left ns (x ∷ []) name i (d.own i name a)
distinct_case ns x new d i name (inr a) = let at_end = a.0 in let is_new = a.1 in rw (at_end, is_new) (number_last ns x new)

-- a new name keeps each standing once
pub distinct_more : (ns : List (List ℕ)) (x : List ℕ) → number_in ns x ≡ None → Distinct ns → Distinct (ns ++ x ∷ [])
distinct_more ns x new d = record { own = λ i name at. distinct_case ns x new d i name (last_case ns x i name at) }

pub none_distinct : Distinct []
none_distinct = record { own = λ i name at. cc }

abbrev pub entry_place : Vec ℕ Global × Option ℕ → Option ℕ
entry_place e = e.1

-- what is seen with one more entry, of a name that was not seen
module _ (key : Vec ℕ Global) (es : Entries) (x : List ℕ) (is : key.items ≡ x) (new : number_in (map bytes_of es) x ≡ None) where
  entries_are : insert_entry same es key None ≡ es ++ (key, None) ∷ []
  entries_are = insert_is key None es (ap (λ k. number_in (map bytes_of es) k) is ∙ new)

  pub names_are : map bytes_of (insert_entry same es key None) ≡ map bytes_of es ++ x ∷ []
  names_are = ap (λ l. map bytes_of l) entries_are ∙ map-append bytes_of es ((key, None) ∷ []) ∙ ap (λ k. map bytes_of es ++ k ∷ []) is

  pub places_are : map entry_place (insert_entry same es key None) ≡ map entry_place es ++ None ∷ []
  places_are = ap (λ l. map entry_place l) entries_are ∙ map-append entry_place es ((key, None) ∷ [])

  pub distinct_still : Distinct (map bytes_of es) → Distinct (map bytes_of (insert_entry same es key None))
  distinct_still d = subst Distinct (sym names_are) (distinct_more (map bytes_of es) x new d)

  pub number_new : number_in (map bytes_of (insert_entry same es key None)) x ≡ Some (length es)
  number_new = ap (λ ns. number_in ns x) names_are ∙ number_last (map bytes_of es) x new ∙ ap Some (length-map es bytes_of)

  pub within_new : length es < length (map bytes_of (insert_entry same es key None))
  within_new =
      let lengths = ap length names_are in
      let more = length-append (map bytes_of es) (x ∷ []) in
      let all = length-map es bytes_of in
      omega (arith, lengths, more, all)

  pub seen_is : record { names = map bytes_of (insert_entry same es key None); places = map entry_place (insert_entry same es key None) } ≡ with_name (record { names = map bytes_of es; places = map entry_place es }) x
  seen_is = rw new (λ j. record { names = names_are j; places = places_are j })
