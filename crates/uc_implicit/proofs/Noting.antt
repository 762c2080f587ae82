-- Flags of classes with written routines, numbers that are noted, and the numbers of classes.
use Rattle.std.proofs.Common.{◌≡◌, ◌≢◌, ℕ, zero, suc, ◌+◌, ◌≤◌, ◌<◌, List, [], ◌∷◌, Bool, true, false, ◌&&◌, ◌||◌, Option, Some, None, if◌then◌else◌, nat_eq, nat_lt, nat_le, length, replicate, set, length-set, refl, ap, sym, subst, ◌∙◌, arith, get_or, map, is_some, unwrap_or, slice_get, ◌⊎◌, inl, inr}
use Rattle.std.specs.Prelude.{option_and_then, option_map}
use Rattle.std.proofs.lemmas.Bool.{cases_eq, cases_lt, eq-eqb, ne_eqb, lt-ltb, le-ltb}
use Rattle.std.proofs.lemmas.List.{get_or-set_same, get_or-set_other, get_or-replicate, length-replicate}
use Rattle.uc_tree.specs.declared.limits.TheConstants.{LAST_CLASS}
use Rattle.uc_tree.specs.declared.kinds.Role.{Role}
use Rattle.uc_tree.specs.Names.{same_name}
use Rattle.uc_tree.specs.Programs.{Class, Program}
use Rattle.uc_tree.specs.Cells.{classes_of}
use Rattle.uc_tree.specs.Numbering.{Defined, at_most, is_event, place_from, class_names}
use Rattle.uc_tree.specs.Objects.{Unwritten, class_at, has_role, number_at, number_in, place_among, role_from, same_role}
use Rattle.uc_layout.proofs.PlacesLemmas.{place_within}
use Rattle.uc_implicit.specs.Numbers.{number_by, objects_of}
use Rattle.uc_implicit.specs.Unwritten.{AreWritten, noted, noted_all, noted_number, noted_numbers, number_of_class}

-- flags

or_no : (a : Bool) → (a || false) ≡ a
or_no true = refl
or_no false = refl

or_yes : (a : Bool) → (a || true) ≡ true
or_yes true = refl
or_yes false = refl

and_no : (a : Bool) → (a && false) ≡ false
and_no true = refl
and_no false = refl

and_yes : (a : Bool) → (a && true) ≡ a
and_yes true = refl
and_yes false = refl

-- where the role is the wanted one
flag_case : (fs : List Bool) (k n : ℕ) → n < length fs → (k < length fs) ⊎ (length fs ≤ k) → (n ≡ k) ⊎ (n ≢ k) → get_or (if nat_lt k (length fs) then set fs k true else fs) n false ≡ (get_or fs n false || nat_eq k n)
flag_case fs k n h (inl inside) (inl same) =
    ap (λ (t : Bool). get_or (if t then set fs k true else fs) n false) (lt-ltb k (length fs) inside)
    ∙ ap (λ j. get_or (set fs k true) j false) same
    ∙ get_or-set_same fs k true false inside
    ∙ sym (ap (λ t. get_or fs n false || t) (eq-eqb k n (sym same)) ∙ or_yes (get_or fs n false))
flag_case fs k n h (inl inside) (inr other) =
    ap (λ (t : Bool). get_or (if t then set fs k true else fs) n false) (lt-ltb k (length fs) inside)
    ∙ get_or-set_other fs k n true false other
    ∙ sym (ap (λ t. get_or fs n false || t) (ne_eqb k n (λ e. other (sym e))) ∙ or_no (get_or fs n false))
flag_case fs k n h (inr out) c =
    ap (λ (t : Bool). get_or (if t then set fs k true else fs) n false) (le-ltb k (length fs) out)
    ∙ sym (ap (λ t. get_or fs n false || t) (ne_eqb k n (λ e. absurd (omega (arith, e)))) ∙ or_no (get_or fs n false))

noted_case : (b : Bool) (fs : List Bool) (k n : ℕ) → n < length fs → get_or (if b && nat_lt k (length fs) then set fs k true else fs) n false ≡ (get_or fs n false || (nat_eq k n && b))
noted_case true fs k n h = flag_case fs k n h (cases_lt k (length fs)) (cases_eq n k) ∙ ap (λ t. get_or fs n false || t) (sym (and_yes (nat_eq k n)))
noted_case false fs k n h = sym (ap (λ t. get_or fs n false || t) (and_no (nat_eq k n)) ∙ or_no (get_or fs n false))

long_case : (b : Bool) (fs : List Bool) (k : ℕ) → length (if b then set fs k true else fs) ≡ length fs
long_case true fs k = length-set fs k true
long_case false fs k = refl

noted_long : (wanted : Role) (d : Defined) (fs : List Bool) → length (noted wanted d fs) ≡ length fs
noted_long wanted d fs = long_case (same_role wanted d.routine.sig.role && nat_lt d.number (length fs)) fs d.number

some_case : (x b : Bool) (r : ℕ) (o : Option ℕ) → ((x || b) || is_some o) ≡ (x || is_some (if b then Some r else o))
some_case true b r o = refl
some_case false true r o = refl
some_case false false r o = refl

all_noted : (ds : List Defined) (wanted : Role) (fs : List Bool) (r n : ℕ) → n < length fs → get_or (noted_all wanted ds fs) n false ≡ (get_or fs n false || is_some (role_from ds r n wanted))
all_noted [] wanted fs r n h = sym (or_no (get_or fs n false))
all_noted (d ∷ ds) wanted fs r n h =
    let l = noted_long wanted d fs in
    all_noted ds wanted (noted wanted d fs) (suc r) n (omega (arith, l, h))
    ∙ ap (λ x. x || is_some (role_from ds (suc r) n wanted)) (noted_case (same_role wanted d.routine.sig.role) fs d.number n h)
    ∙ some_case (get_or fs n false) (has_role n wanted d) r (role_from ds (suc r) n wanted)

pub are_written : (ds : List Defined) (wanted : Role) (count : ℕ) (fs : List Bool) → fs ≡ noted_all wanted ds (replicate count false) → AreWritten ds wanted count fs
are_written ds wanted count fs e = record {
  at = λ n h.
      ap (λ xs. get_or xs n false) e
      ∙ all_noted ds wanted (replicate count false) 0 n (let l = length-replicate count false in omega (arith, l, h))
      ∙ ap (λ x. x || is_some (role_from ds 0 n wanted)) (get_or-replicate count n false false h);
}

-- numbers

module _ (wanted : Role) (behind : ℕ) (i : ℕ) where
  abbrev told : List ℕ → ℕ → ℕ
  told ns k = if nat_eq (get_or ns i behind) behind then k else get_or ns i behind

  told_same : (ns : List ℕ) (k : ℕ) → get_or ns i behind ≡ behind → told ns k ≡ k
  told_same ns k e = ap (λ (t : Bool). if t then k else get_or ns i behind) (eq-eqb (get_or ns i behind) behind e)

  told_other : (ns : List ℕ) (k : ℕ) → get_or ns i behind ≢ behind → told ns k ≡ get_or ns i behind
  told_other ns k n = ap (λ (t : Bool). if t then k else get_or ns i behind) (ne_eqb (get_or ns i behind) behind n)

  told_alike : (ns ms : List ℕ) (k : ℕ) → get_or ns i behind ≡ get_or ms i behind → told ns k ≡ told ms k
  told_alike ns ms k e = ap (λ x. if nat_eq x behind then k else x) e

  -- one that is not this class's, or not of this role
  abbrev marks : Bool → ℕ → ℕ → List ℕ → List ℕ
  marks b k number ns = if b && (nat_lt k (length ns) && nat_eq (get_or ns k behind) behind) then set ns k number else ns

  kept_if : (t : Bool) (k number : ℕ) (ns : List ℕ) → i ≢ k → get_or (if t then set ns k number else ns) i behind ≡ get_or ns i behind
  kept_if true k number ns n = get_or-set_other ns k i number behind n
  kept_if false k number ns n = refl

  kept : (b : Bool) (k number : ℕ) (ns : List ℕ) → (b ≡ false) ⊎ (i ≢ k) → get_or (marks b k number ns) i behind ≡ get_or ns i behind
  kept b k number ns (inl e) = ap (λ (t : Bool). get_or (marks t k number ns) i behind) e
  kept b k number ns (inr n) = kept_if (b && (nat_lt k (length ns) && nat_eq (get_or ns k behind) behind)) k number ns n

  -- one that is
  own_marks : (number : ℕ) (ns : List ℕ) (t : Bool) → nat_eq (get_or ns i behind) behind ≡ t → i < length ns → get_or (marks true i number ns) i behind ≡ (if t then number else get_or ns i behind)
  own_marks number ns true e h = ap (λ (x : Bool). get_or (if x && nat_eq (get_or ns i behind) behind then set ns i number else ns) i behind) (lt-ltb i (length ns) h) ∙ ap (λ (x : Bool). get_or (if x then set ns i number else ns) i behind) e ∙ get_or-set_same ns i number behind h
  own_marks number ns false e h = ap (λ (x : Bool). get_or (if x && nat_eq (get_or ns i behind) behind then set ns i number else ns) i behind) (lt-ltb i (length ns) h) ∙ ap (λ (x : Bool). get_or (if x then set ns i number else ns) i behind) e

  own_told : (number k : ℕ) (ns : List ℕ) → i < length ns → number < behind → (get_or ns i behind ≡ behind) ⊎ (get_or ns i behind ≢ behind) → told (marks true i number ns) k ≡ told ns number
  own_told number k ns h below (inl e) =
      let is : get_or (marks true i number ns) i behind ≡ number = own_marks number ns true (eq-eqb (get_or ns i behind) behind e) h in
      told_other (marks true i number ns) k (λ q. absurd (omega (arith, is, q, below))) ∙ is ∙ sym (told_same ns number e)
  own_told number k ns h below (inr n) =
      let is : get_or (marks true i number ns) i behind ≡ get_or ns i behind = own_marks number ns false (ne_eqb (get_or ns i behind) behind n) h in
      told_alike (marks true i number ns) ns k is ∙ told_other ns k n ∙ sym (told_other ns number n)

  marks_long : (t : Bool) (k number : ℕ) (ns : List ℕ) → length (if t then set ns k number else ns) ≡ length ns
  marks_long true k number ns = length-set ns k number
  marks_long false k number ns = refl

  -- the place behind one more
  place_case : (b : Bool) (k number m : ℕ) (ns : List ℕ) → i < length ns → number < behind → (i ≡ k) ⊎ (i ≢ k) → told (marks b k number ns) (number + 1 + m) ≡ told ns (number + (if nat_eq k i && b then 0 else suc m))
  place_case true k number m ns h below (inl e) =
      let first : number ≡ number + (if nat_eq k i && true then 0 else suc m) = let z : number ≡ number + 0 = omega arith in z ∙ ap (λ (t : Bool). number + (if t && true then 0 else suc m)) (sym (eq-eqb k i (sym e))) in
      subst (λ j. told (marks true j number ns) (number + 1 + m) ≡ told ns number) e (own_told number (number + 1 + m) ns h below (cases_eq (get_or ns i behind) behind)) ∙ ap (told ns) first
  place_case false k number m ns h below c =
      let later : number + 1 + m ≡ number + (if nat_eq k i && false then 0 else suc m) = let z : number + 1 + m ≡ number + suc m = omega arith in z ∙ ap (λ (t : Bool). number + (if t then 0 else suc m)) (sym (and_no (nat_eq k i))) in
      ap (told ns) later
  place_case true k number m ns h below (inr n) =
      let later : number + 1 + m ≡ number + (if nat_eq k i && true then 0 else suc m) = let z : number + 1 + m ≡ number + suc m = omega arith in z ∙ ap (λ (t : Bool). number + (if t && true then 0 else suc m)) (sym (ne_eqb k i (λ e. n (sym e)))) in
      told_alike (marks true k number ns) ns (number + 1 + m) (kept true k number ns (inr n)) ∙ ap (told ns) later

  numbers_told : (us : List Unwritten) (number : ℕ) (ns : List ℕ) → i < length ns → number + length us ≡ behind → get_or (noted_numbers us wanted number behind ns) i behind ≡ told ns (number + place_among us i wanted)
  numbers_told [] number ns h e = last_case (cases_eq (get_or ns i behind) behind)
    where
      last_case : (get_or ns i behind ≡ behind) ⊎ (get_or ns i behind ≢ behind) → get_or ns i behind ≡ told ns (number + 0)
      last_case (inl q) = q ∙ sym e ∙ sym (told_same ns (number + 0) q)
      last_case (inr q) = sym (told_other ns (number + 0) q)
  numbers_told (u ∷ us) number ns h e =
      let l = marks_long (same_role wanted u.role && (nat_lt u.class (length ns) && nat_eq (get_or ns u.class behind) behind)) u.class number ns in
      numbers_told us (number + 1) (noted_number u wanted number behind ns) (omega (arith, l, h)) (omega (arith, e))
      ∙ place_case (same_role wanted u.role) u.class number (place_among us i wanted) ns h (omega (arith, e)) (cases_eq i u.class)

got : (xs : List ℕ) (i n d : ℕ) → slice_get xs i ≡ Some n → (i < length xs) × (get_or xs i d ≡ n)
got [] i n d e = cc
got (x ∷ xs) zero n d e = (omega arith, cc)
got (x ∷ xs) (suc i) n d e = let r = got xs i n d e in (let s = r.0 in omega (arith, s), r.1)

numbers_long : (us : List Unwritten) (wanted : Role) (number behind : ℕ) (ns : List ℕ) → length (noted_numbers us wanted number behind ns) ≡ length ns
numbers_long [] wanted number behind ns = refl
numbers_long (u ∷ us) wanted number behind ns = numbers_long us wanted (number + 1) behind (noted_number u wanted number behind ns) ∙ marks_long wanted behind 0 (same_role wanted u.role && (nat_lt u.class (length ns) && nat_eq (get_or ns u.class behind) behind)) u.class number ns

pub all_long : (us : List Unwritten) (wanted : Role) (first behind count : ℕ) → length (noted_numbers us wanted first behind (replicate count behind)) ≡ count
all_long us wanted first behind count = numbers_long us wanted first behind (replicate count behind) ∙ length-replicate count behind

pub all_numbers : (us : List Unwritten) (wanted : Role) (first behind count : ℕ) (xs : List ℕ) → behind ≡ first + length us → xs ≡ noted_numbers us wanted first behind (replicate count behind) → (i n : ℕ) → slice_get xs i ≡ Some n → n ≡ first + place_among us i wanted
all_numbers us wanted first behind count xs b e i n g =
    let r = got xs i n behind g in
    let l : length xs ≡ count = ap length e ∙ all_long us wanted first behind count in
    let r0 = r.0 in
    let inside : i < count = omega (arith, r0, l) in
    let fits : i < length (replicate count behind) = let q = length-replicate count behind in omega (arith, inside, q) in
    sym r.1 ∙ ap (λ ys. get_or ys i behind) e ∙ numbers_told wanted behind i us first (replicate count behind) fits (sym b) ∙ told_same wanted behind i (replicate count behind) (first + place_among us i wanted) (get_or-replicate count i behind behind inside)

-- classes

names_case : (b : Bool) (c : Class) (cs : List Class) → class_names cs ≡ map (λ x. x.name) (objects_of cs) → (if b then class_names cs else c.name ∷ class_names cs) ≡ map (λ (x : Class). x.name) (if b then objects_of cs else c ∷ objects_of cs)
names_case true c cs e = e
names_case false c cs e = ap (λ ns. c.name ∷ ns) e

pub names_of_objects : (cs : List Class) → class_names cs ≡ map (λ c. c.name) (objects_of cs)
names_of_objects [] = refl
names_of_objects (c ∷ cs) = names_case (is_event c.kind) c cs (names_of_objects cs)

few_case : (b : Bool) (c : Class) (cs : List Class) → length (class_names cs) ≤ length cs → length (if b then class_names cs else c.name ∷ class_names cs) ≤ suc (length cs)
few_case true c cs h = omega (arith, h)
few_case false c cs h = omega (arith, h)

names_few : (cs : List Class) → length (class_names cs) ≤ length cs
names_few [] = omega arith
names_few (c ∷ cs) = few_case (is_event c.kind) c cs (names_few cs)

most_case : (n k : ℕ) (t : Bool) → n < k → unwrap_or (if t then Some n else None) 0 < k
most_case n k true h = h
most_case n k false h = omega arith

named_case : (o : Option ℕ) (k : ℕ) → 0 < k → ((n : ℕ) → o ≡ Some n → n < k) → unwrap_or (option_and_then (at_most LAST_CLASS) o) 0 < k
named_case None k z h = z
named_case (Some n) k z h = most_case n k (nat_le n LAST_CLASS) (h n refl)

number_few : (p : Program) (o : Option Class) → number_in p o < length (classes_of p.items) + 1
number_few p None = omega arith
number_few p (Some c) = named_case (place_from 1 (class_names (classes_of p.items)) c.name) (length (classes_of p.items) + 1) (omega arith) (λ n e. let w = place_within 1 (class_names (classes_of p.items)) c.name n e in let h = w.1 in let f = names_few (classes_of p.items) in omega (arith, h, f))

pub number_at_few : (p : Program) (i : ℕ) → number_at p i < length (classes_of p.items) + 1
number_at_few p i = number_few p (class_at p i)

number_listed : (p : Program) (cs : List Class) (i : ℕ) → i < length cs → get_or (map (number_of_class p) cs) i 0 ≡ number_in p (slice_get cs i)
number_listed p [] i h = absurd (omega arith)
number_listed p (c ∷ cs) zero h = refl
number_listed p (c ∷ cs) (suc i) h = number_listed p cs i (omega arith)

pub number_here : (p : Program) (ns : List ℕ) (i : ℕ) → ns ≡ map (number_of_class p) (classes_of p.items) → i < length (classes_of p.items) → get_or ns i 0 ≡ number_at p i
number_here p ns i e h = ap (λ xs. get_or xs i 0) e ∙ number_listed p (classes_of p.items) i h

shift_case : (b : Bool) (i : ℕ) (o q : Option ℕ) → q ≡ option_map (λ k. k + 1) o → (if b then Some (i + 1) else q) ≡ option_map (λ k. k + 1) (if b then Some i else o)
shift_case true i o q more = refl
shift_case false i o q more = more

pub shifted : (i : ℕ) (ns : List (List ℕ)) (name : List ℕ) → place_from (i + 1) ns name ≡ option_map (λ k. k + 1) (place_from i ns name)
shifted i [] name = refl
shifted i (n ∷ ns) name = shift_case (same_name n name) i (place_from (i + 1) ns name) (place_from (i + 1 + 1) ns name) (shifted (i + 1) ns name)

pub number_placed : (names : List (List ℕ)) (name : List ℕ) (o : Option ℕ) → o ≡ place_from 0 names name → number_by names name ≡ unwrap_or (option_and_then (at_most LAST_CLASS) (option_map (λ k. k + 1) o)) 0
number_placed names name o e = ap (λ q. unwrap_or (option_and_then (at_most LAST_CLASS) q) 0) (shifted 0 names name ∙ ap (option_map (λ k. k + 1)) (sym e))

-- of all classes

fused : {A B C : Type 0} (f : A → B) (g : B → C) (xs : List A) → map (λ x. g (f x)) xs ≡ map g (map f xs)
fused f g [] = refl
fused f g (x ∷ xs) = ap (λ ys. g (f x) ∷ ys) (fused f g xs)

pub numbers_are : {A : Type 0} (f : A → Class) (xs os : List A) (p : Program) → map f xs ≡ classes_of p.items → map f os ≡ objects_of (classes_of p.items) → map (λ x. number_by (map (λ y. (f y).name) os) (f x).name) xs ≡ map (number_of_class p) (classes_of p.items)
numbers_are f xs os p all objects =
    let names : map (λ y. (f y).name) os ≡ class_names (classes_of p.items) = fused f (λ (c : Class). c.name) os ∙ ap (map (λ (c : Class). c.name)) objects ∙ sym (names_of_objects (classes_of p.items)) in
    fused f (λ (c : Class). number_by (map (λ y. (f y).name) os) c.name) xs
    ∙ ap (λ ns. map (λ (c : Class). number_by ns c.name) (map f xs)) names
    ∙ ap (map (λ (c : Class). number_by (class_names (classes_of p.items)) c.name)) all
