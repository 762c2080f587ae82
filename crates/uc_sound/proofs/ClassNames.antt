-- No two classes have one name, so that each has its own number, by which it is found.
use Rattle.std.proofs.Common.{◌≡◌, ℕ, zero, suc, ◌+◌, ◌≤◌, ◌<◌, ◌⊎◌, inl, inr, List, [], ◌∷◌, length, Some, None, Bool, true, false, refl, sym, ap, ◌∙◌, subst, arith}
use Rattle.std.specs.Prelude.{◌||◌, not, slice_get, take, if◌then◌else◌, nat_eq, option_and_then, unwrap_or}
use Rattle.std.specs.List.{list_any}
use Rattle.std.specs.Cmp.Lexicographic.{bytes_decides}
use Rattle.uc_tree.specs.declared.limits.TheConstants.{LAST_CLASS}
use Rattle.uc_tree.specs.declared.kinds.Base.{Base}
use Rattle.uc_tree.specs.declared.kinds.Base.TheVariants as base
use Rattle.uc_tree.specs.declared.kinds.Kind.{Kind}
use Rattle.uc_tree.specs.Names.{same_name}
use Rattle.uc_tree.specs.Cells.{classes_of}
use Rattle.uc_tree.specs.Numbering.{is_event, is_given, class_names, class_number, at_most}
use Rattle.uc_tree.specs.Numbering as number
use Rattle.uc_tree.specs.Objects as objects
use Rattle.uc_tree.specs.Objects.{class_at, number_at, number_in, place_of}
use Rattle.uc_tree.specs.Programs.{Class, Item, ClassItem, RoutineItem, ConstItem, ProtoItem, ForwardItem, UsingItem, Program}
use Rattle.uc_rules.specs.declared.rule.Rule.TheVariants.{S2}
use Rattle.uc_rules.specs.declared.rules.Sort.TheVariants as sort
use Rattle.uc_rules.specs.Sorts.{class_sort, sort_of}
use Rattle.uc_rules.specs.ItemBreaks.{item_name, is_named_proto, clashes, is_new_item}
use Rattle.uc_rules.specs.ProgramVisits.{program_visits}
use Rattle.uc_sound.specs.Unbroken.{Unbroken}
use Rattle.uc_sound.proofs.Ties.{some_same, none_some, false_true}
use Rattle.uc_sound.proofs.UnbrokenLemmas.{holds}
use Rattle.uc_sound.proofs.Lists.{next_is_not, not_either, both_are, case_of, any_from, get_take, within, Order, before, same, behind, order}
use Rattle.uc_sound.proofs.Visited.{item_rules}
use Rattle.std.proofs.lemmas.Bool.{le-leb}

pub same_is : (a b : List ℕ) → same_name a b ≡ true → a ≡ b
same_is a b h = (bytes_decides a b).0 h

pub is_same : (a b : List ℕ) → a ≡ b → same_name a b ≡ true
is_same a b e = (bytes_decides a b).1 e

pub self_named : (a : List ℕ) → same_name a a ≡ true
self_named a = is_same a a refl

-- an item that declares a name which an earlier one has
module _ (p : Program) (u : Unbroken (program_visits p)) where
  -- two items at different places do not clash
  pub no_clash_at : {B : Type 0} (i j : ℕ) (x y : Item) (name : List ℕ) → slice_get p.items i ≡ Some x → slice_get p.items j ≡ Some y → i < j → item_name y ≡ Some name → clashes (list_any (is_named_proto name) p.items) name y x ≡ true → B
  no_clash_at i j x y name e f l n c =
      let o = (item_rules p u j y f).own in
      let h : is_new_item p y j (item_name y) ≡ true = holds (is_new_item p y j (item_name y)) S2 _ _ o in
      let k : is_new_item p y j (Some name) ≡ true = subst (λ z. is_new_item p y j z ≡ true) n h in
      let b = list_any (is_named_proto name) p.items in
      not_either (list_any (clashes b name y) (take j p.items)) (is_given name) (any_from (clashes b name y) (take j p.items) i x (get_take p.items j i x l e) c) k

  pub no_clash : {B : Type 0} (i j : ℕ) (x y : Item) (name : List ℕ) → slice_get p.items i ≡ Some x → slice_get p.items j ≡ Some y → i < j → item_name y ≡ Some name → ((b : Bool) → clashes b name y x ≡ true) → B
  no_clash i j x y name e f l n c = no_clash_at i j x y name e f l n (c (list_any (is_named_proto name) p.items))

  class_place : (xs : List Item) (n : ℕ) (c : Class) → slice_get (classes_of xs) n ≡ Some c → (m : ℕ) × (slice_get xs m ≡ Some (ClassItem c)) × (n ≤ m)
  class_place [] n c e = none_some e
  class_place (ClassItem d ∷ xs) zero c e = (0, ap (λ z. Some (ClassItem z)) (some_same e), omega arith)
  class_place (ClassItem d ∷ xs) (suc n) c e = let r = class_place xs n c e in (suc r.0, r.1, omega (arith, r.2))
  class_place (RoutineItem d ∷ xs) n c e = let r = class_place xs n c e in (suc r.0, r.1, omega (arith, r.2))
  class_place (ConstItem d ∷ xs) n c e = let r = class_place xs n c e in (suc r.0, r.1, omega (arith, r.2))
  class_place (ProtoItem d ∷ xs) n c e = let r = class_place xs n c e in (suc r.0, r.1, omega (arith, r.2))
  class_place (ForwardItem d ∷ xs) n c e = let r = class_place xs n c e in (suc r.0, r.1, omega (arith, r.2))
  class_place (UsingItem d ∷ xs) n c e = let r = class_place xs n c e in (suc r.0, r.1, omega (arith, r.2))

  two_places : (xs : List Item) (i j : ℕ) (c d : Class) → i < j → slice_get (classes_of xs) i ≡ Some c → slice_get (classes_of xs) j ≡ Some d → (a : ℕ) × (b : ℕ) × (slice_get xs a ≡ Some (ClassItem c)) × (slice_get xs b ≡ Some (ClassItem d)) × (a < b)
  two_places [] i j c d l e f = none_some e
  two_places (ClassItem x ∷ xs) zero zero c d l e f = let b : ⊥ = omega (arith, l) in absurd b
  two_places (ClassItem x ∷ xs) zero (suc j) c d l e f = let r = class_place xs j d f in (0, suc r.0, ap (λ z. Some (ClassItem z)) (some_same e), r.1, omega arith)
  two_places (ClassItem x ∷ xs) (suc i) zero c d l e f = let b : ⊥ = omega (arith, l) in absurd b
  two_places (ClassItem x ∷ xs) (suc i) (suc j) c d l e f = let r = two_places xs i j c d (omega (arith, l)) e f in (suc r.0, suc r.1, r.2, r.3, omega (arith, r.4))
  two_places (RoutineItem x ∷ xs) i j c d l e f = let r = two_places xs i j c d l e f in (suc r.0, suc r.1, r.2, r.3, omega (arith, r.4))
  two_places (ConstItem x ∷ xs) i j c d l e f = let r = two_places xs i j c d l e f in (suc r.0, suc r.1, r.2, r.3, omega (arith, r.4))
  two_places (ProtoItem x ∷ xs) i j c d l e f = let r = two_places xs i j c d l e f in (suc r.0, suc r.1, r.2, r.3, omega (arith, r.4))
  two_places (ForwardItem x ∷ xs) i j c d l e f = let r = two_places xs i j c d l e f in (suc r.0, suc r.1, r.2, r.3, omega (arith, r.4))
  two_places (UsingItem x ∷ xs) i j c d l e f = let r = two_places xs i j c d l e f in (suc r.0, suc r.1, r.2, r.3, omega (arith, r.4))

  earlier : {B : Type 0} (i j : ℕ) (c d : Class) → i < j → class_at p i ≡ Some c → class_at p j ≡ Some d → c.name ≡ d.name → B
  earlier i j c d l e f q =
      let r = two_places p.items i j c d l e f in
      no_clash r.0 r.1 (ClassItem c) (ClassItem d) d.name r.2 r.3 r.4 refl (λ b. both_are (same_name c.name d.name) true (is_same c.name d.name q) refl)

  pub apart : (i j : ℕ) (c d : Class) → class_at p i ≡ Some c → class_at p j ≡ Some d → c.name ≡ d.name → i ≡ j
  apart i j c d e f q = by (order i j)
    where
      by : Order i j → i ≡ j
      by (before l) = earlier i j c d l e f q
      by (same e) = e
      by (behind l) = earlier j i d c l f e (sym q)

abbrev Apart : List Class → Type 0
Apart cs = (i j : ℕ) (c d : Class) → slice_get cs i ≡ Some c → slice_get cs j ≡ Some d → c.name ≡ d.name → i ≡ j

apart_behind : (d : Class) (ds : List Class) → Apart (d ∷ ds) → Apart ds
apart_behind d ds a i j c e x y q = let r = a (suc i) (suc j) c e x y q in omega (arith, r)

apart_head : (d : Class) (ds : List Class) → Apart (d ∷ ds) → (n : ℕ) (c : Class) → slice_get ds n ≡ Some c → d.name ≡ c.name → ⊥
apart_head d ds a n c e q = let r = a 0 (suc n) d c refl e q in omega (arith, r)

pub same_not : (a b : List ℕ) → (a ≡ b → ⊥) → same_name a b ≡ false
same_not a b f = by (case_of (same_name a b))
  where
    by : (same_name a b ≡ true) ⊎ (same_name a b ≡ false) → same_name a b ≡ false
    by (inl e) = absurd (f (same_is a b e))
    by (inr e) = e

record Numbered (cs : List Class) (k i n : ℕ) (name : List ℕ) : Type 0 where
  m : ℕ
  least : m ≤ n
  number : number.place_from k (class_names cs) name ≡ Some (k + m)
  place : objects.place_from cs i (suc m) ≡ Some (i + n)

first_numbered : (d : Class) (ds : List Class) (k i : ℕ) → is_event d.kind ≡ false → Numbered (d ∷ ds) k i 0 d.name
first_numbered d ds k i w =
    let q : k ≡ k + 0 = omega arith in
    let r : i ≡ i + 0 = omega arith in
    record {
      m = 0;
      least = omega arith;
      number = subst (λ (b : Bool). number.place_from k (if b then class_names ds else (d.name ∷ class_names ds)) d.name ≡ Some (k + 0)) (sym w) (subst (λ (b : Bool). (if b then Some k else number.place_from (k + 1) (class_names ds) d.name) ≡ Some (k + 0)) (sym (self_named d.name)) (ap Some q));
      place = subst (λ (b : Bool). (if b then objects.place_from ds (i + 1) 1 else (if nat_eq 0 0 then Some i else objects.place_from ds (i + 1) 0)) ≡ Some (i + 0)) (sym w) (ap Some r);
    }

behind_event : (d : Class) (ds : List Class) (k i n : ℕ) (name : List ℕ) → is_event d.kind ≡ true → Numbered ds k (i + 1) n name → Numbered (d ∷ ds) k i (suc n) name
behind_event d ds k i n name w h = record {
  m = h.m;
  least = let l = h.least in omega (arith, l);
  number = subst (λ (b : Bool). number.place_from k (if b then class_names ds else (d.name ∷ class_names ds)) name ≡ Some (k + h.m)) (sym w) h.number;
  place = subst (λ (b : Bool). (if b then objects.place_from ds (i + 1) (suc h.m) else (if nat_eq h.m 0 then Some i else objects.place_from ds (i + 1) h.m)) ≡ Some (i + suc n)) (sym w) (h.place ∙ ap Some (let q : i + 1 + n ≡ i + suc n = omega arith in q));
}

behind_class : (d : Class) (ds : List Class) (k i n : ℕ) (name : List ℕ) → is_event d.kind ≡ false → (d.name ≡ name → ⊥) → Numbered ds (k + 1) (i + 1) n name → Numbered (d ∷ ds) k i (suc n) name
behind_class d ds k i n name w o h = record {
  m = suc h.m;
  least = let l = h.least in omega (arith, l);
  number = subst (λ (b : Bool). number.place_from k (if b then class_names ds else (d.name ∷ class_names ds)) name ≡ Some (k + suc h.m)) (sym w) (subst (λ (b : Bool). (if b then Some k else number.place_from (k + 1) (class_names ds) name) ≡ Some (k + suc h.m)) (sym (same_not d.name name o)) (h.number ∙ ap Some (let q : k + 1 + h.m ≡ k + suc h.m = omega arith in q)));
  place = subst (λ (b : Bool). (if b then objects.place_from ds (i + 1) (suc (suc h.m)) else (if nat_eq (suc h.m) 0 then Some i else objects.place_from ds (i + 1) (suc h.m))) ≡ Some (i + suc n)) (sym w) (ap (λ (b : Bool). if b then Some i else objects.place_from ds (i + 1) (suc h.m)) (next_is_not h.m) ∙ h.place ∙ ap Some (let q : i + 1 + n ≡ i + suc n = omega arith in q));
}

numbered : (cs : List Class) → Apart cs → (k i n : ℕ) (c : Class) → slice_get cs n ≡ Some c → is_event c.kind ≡ false → Numbered cs k i n c.name
numbered [] a k i n c e v = none_some e
numbered (d ∷ ds) a k i zero c e v =
    subst (λ (z : Class). Numbered (d ∷ ds) k i 0 z.name) (some_same e) (first_numbered d ds k i (subst (λ (z : Class). is_event z.kind ≡ false) (sym (some_same e)) v))
numbered (d ∷ ds) a k i (suc n) c e v = by (case_of (is_event d.kind)) (λ k i. numbered ds (apart_behind d ds a) k i n c e v)
  where
    by : (is_event d.kind ≡ true) ⊎ (is_event d.kind ≡ false) → ((k i : ℕ) → Numbered ds k i n c.name) → Numbered (d ∷ ds) k i (suc n) c.name
    by (inl w) ih = behind_event d ds k i n c.name w (ih k (i + 1))
    by (inr w) ih = behind_class d ds k i n c.name w (apart_head d ds a n c e) (ih (k + 1) (i + 1))

-- an event has no number
not_numbered : (cs : List Class) (k : ℕ) (name : List ℕ) → ((n : ℕ) (d : Class) → slice_get cs n ≡ Some d → is_event d.kind ≡ false → d.name ≡ name → ⊥) → number.place_from k (class_names cs) name ≡ None
not_numbered [] k name f = refl
not_numbered (d ∷ ds) k name f = by (is_event d.kind) refl (λ k. not_numbered ds k name (λ n. f (suc n)))
  where
    by : (b : Bool) → is_event d.kind ≡ b → ((k : ℕ) → number.place_from k (class_names ds) name ≡ None) → number.place_from k (if b then class_names ds else (d.name ∷ class_names ds)) name ≡ None
    by true w ih = ih k
    by false w ih =
        subst (λ (b : Bool). (if b then Some k else number.place_from (k + 1) (class_names ds) name) ≡ None) (sym (same_not d.name name (f 0 d refl w))) (ih (k + 1))

-- what a name sorts is a class of that name
pub record Sorted (cs : List Class) (i : ℕ) (name : List ℕ) (j : ℕ) (k : Kind) : Type 0 where
  pub n : ℕ
  pub class : Class
  pub at : slice_get cs n ≡ Some class
  pub place : i + n ≡ j
  pub kind : class.kind ≡ k
  pub name_is : class.name ≡ name

pub sorted : (cs : List Class) (i : ℕ) (name : List ℕ) (j : ℕ) (k : Kind) → class_sort cs i name ≡ Some (sort.Object j k) → Sorted cs i name j k
sorted [] i name j k h = none_some h
sorted (c ∷ cs) i name j k h = by (same_name c.name name) refl (sorted cs (i + 1) name j k) h
  where
    by : (b : Bool) → same_name c.name name ≡ b → (class_sort cs (i + 1) name ≡ Some (sort.Object j k) → Sorted cs (i + 1) name j k) → (if b then Some (sort.Object i c.kind) else class_sort cs (i + 1) name) ≡ Some (sort.Object j k) → Sorted (c ∷ cs) i name j k
    by true e ih h = record {
      n = 0;
      class = c;
      at = refl;
      place = let q : i ≡ j = cc in omega (arith, q);
      kind = cc;
      name_is = same_is c.name name e;
    }
    by false e ih h = let r = ih h in record { n = suc r.n; class = r.class; at = r.at; place = let q = r.place in omega (arith, q); kind = r.kind; name_is = r.name_is }

-- and a class is what its name sorts
sorts : (cs : List Class) → Apart cs → (i n : ℕ) (c : Class) → slice_get cs n ≡ Some c → class_sort cs i c.name ≡ Some (sort.Object (i + n) c.kind)
sorts [] a i n c e = none_some e
sorts (d ∷ ds) a i zero c e =
    subst (λ (z : Class). class_sort (d ∷ ds) i z.name ≡ Some (sort.Object (i + 0) z.kind)) (some_same e) (subst (λ (b : Bool). (if b then Some (sort.Object i d.kind) else class_sort ds (i + 1) d.name) ≡ Some (sort.Object (i + 0) d.kind)) (sym (self_named d.name)) (ap (λ z. Some (sort.Object z d.kind)) (let q : i ≡ i + 0 = omega arith in q)))
sorts (d ∷ ds) a i (suc n) c e =
    subst (λ (b : Bool). (if b then Some (sort.Object i d.kind) else class_sort ds (i + 1) c.name) ≡ Some (sort.Object (i + suc n) c.kind)) (sym (same_not d.name c.name (apart_head d ds a n c e))) (sorts ds (apart_behind d ds a) (i + 1) n c e ∙ ap (λ z. Some (sort.Object z c.kind)) (let q : i + 1 + n ≡ i + suc n = omega arith in q))

-- the event that a name finds is one of that name
pub record EventAt (cs : List Class) (i : ℕ) (name : List ℕ) (j : ℕ) : Type 0 where
  pub n : ℕ
  pub class : Class
  pub at : slice_get cs n ≡ Some class
  pub place : i + n ≡ j
  pub event : is_event class.kind ≡ true
  pub name_is : class.name ≡ name

pub event_at : (cs : List Class) (i : ℕ) (name : List ℕ) (j : ℕ) → objects.event_from cs i name ≡ Some j → EventAt cs i name j
event_at [] i name j h = none_some h
event_at (c ∷ cs) i name j h = by (same_name c.name name) (is_event c.kind) refl refl (event_at cs (i + 1) name j) h
  where
    by : (b v : Bool) → same_name c.name name ≡ b → is_event c.kind ≡ v → (objects.event_from cs (i + 1) name ≡ Some j → EventAt cs (i + 1) name j) → (if b then (if v then Some i else None) else objects.event_from cs (i + 1) name) ≡ Some j → EventAt (c ∷ cs) i name j
    by true true e w ih h = record { n = 0; class = c; at = refl; place = let q : i ≡ j = some_same h in omega (arith, q); event = w; name_is = same_is c.name name e }
    by true false e w ih h = none_some h
    by false v e w ih h =
        let r = ih h in
        record { n = suc r.n; class = r.class; at = r.at; place = let q = r.place in omega (arith, q); event = r.event; name_is = r.name_is }

-- an event is found as such by both look-ups
pub sorted_event : (cs : List Class) (i : ℕ) (name : List ℕ) (j : ℕ) (k : Kind) → class_sort cs i name ≡ Some (sort.Object j k) → is_event k ≡ true → objects.event_from cs i name ≡ Some j
sorted_event [] i name j k h v = none_some h
sorted_event (c ∷ cs) i name j k h v = by (same_name c.name name) (sorted_event cs (i + 1) name j k) h
  where
    by : (b : Bool) → (class_sort cs (i + 1) name ≡ Some (sort.Object j k) → is_event k ≡ true → objects.event_from cs (i + 1) name ≡ Some j) → (if b then Some (sort.Object i c.kind) else class_sort cs (i + 1) name) ≡ Some (sort.Object j k) → (if b then (if is_event c.kind then Some i else None) else objects.event_from cs (i + 1) name) ≡ Some j
    by true ih h =
        let e : c.kind ≡ k = cc in
        let q : i ≡ j = cc in
        subst (λ (z : Bool). (if z then Some i else None) ≡ Some j) (sym (ap is_event e ∙ v)) (ap Some q)
    by false ih h = ih h v

pub event_sorted : (cs : List Class) (i : ℕ) (name : List ℕ) (j : ℕ) → objects.event_from cs i name ≡ Some j → (k : Kind) × (class_sort cs i name ≡ Some (sort.Object j k)) × (is_event k ≡ true)
event_sorted [] i name j h = none_some h
event_sorted (c ∷ cs) i name j h = by (same_name c.name name) (is_event c.kind) refl (event_sorted cs (i + 1) name j) h
  where
    by : (b v : Bool) → is_event c.kind ≡ v → (objects.event_from cs (i + 1) name ≡ Some j → (k : Kind) × (class_sort cs (i + 1) name ≡ Some (sort.Object j k)) × (is_event k ≡ true)) → (if b then (if v then Some i else None) else objects.event_from cs (i + 1) name) ≡ Some j → (k : Kind) × ((if b then Some (sort.Object i c.kind) else class_sort cs (i + 1) name) ≡ Some (sort.Object j k)) × (is_event k ≡ true)
    by true true w ih h = (c.kind, ap (λ z. Some (sort.Object z c.kind)) (some_same h), w)
    by true false w ih h = none_some h
    by false v w ih h = ih h

module _ (p : Program) (u : Unbroken (program_visits p)) where
  -- no class has the name of an event that every program has
  pub not_given : (i : ℕ) (c : Class) → class_at p i ≡ Some c → is_given c.name ≡ false
  not_given i c e =
      let r = class_place p u p.items i c e in
      let o = (item_rules p u r.0 (ClassItem c) r.1).own in
      let h : is_new_item p (ClassItem c) r.0 (Some c.name) ≡ true = holds (is_new_item p (ClassItem c) r.0 (Some c.name)) S2 _ _ o in
      right_false (list_any (clashes (list_any (is_named_proto c.name) p.items) c.name (ClassItem c)) (take r.0 p.items)) (is_given c.name) h
    where
      right_false : (a b : Bool) → not (a || b) ≡ true → b ≡ false
      right_false true b h = false_true h
      right_false false true h = false_true h
      right_false false false h = refl

module _ (p : Program) (u : Unbroken (program_visits p)) where
  pub record HasNumber (i : ℕ) : Type 0 where
    pub before : ℕ
    pub number : number_at p i ≡ suc before
    pub place : place_of p (suc before) ≡ Some i

  at_most_is : (n last : ℕ) → n ≤ last → unwrap_or (at_most last n) 0 ≡ n
  at_most_is n last l = ap (λ (b : Bool). unwrap_or (if b then Some n else None) 0) (le-leb n last l)

  pub number_of : (i : ℕ) (c : Class) → length (classes_of p.items) ≤ LAST_CLASS → class_at p i ≡ Some c → is_event c.kind ≡ false → HasNumber i
  number_of i c l e v =
      let cs = classes_of p.items in
      let h = numbered cs (apart p u) 1 0 i c e v in
      let w = within cs i c e in
      let least = h.least in
      let q : 1 + h.m ≡ suc h.m = omega arith in
      let few : suc h.m ≤ LAST_CLASS = omega (arith, l, w, least) in
      record {
        before = h.m;
        number = ap (number_in p) e ∙ (ap (λ o. unwrap_or (option_and_then (at_most LAST_CLASS) o) 0) (h.number ∙ ap Some q) ∙ at_most_is (suc h.m) LAST_CLASS few);
        place = h.place ∙ ap Some (let q : 0 + i ≡ i = omega arith in q);
      }

  pub event_number_is : (i : ℕ) (c : Class) → class_at p i ≡ Some c → is_event c.kind ≡ true → unwrap_or (class_number p c.name) 0 ≡ 0
  event_number_is i c e v =
      ap (λ o. unwrap_or (option_and_then (at_most LAST_CLASS) o) 0) (not_numbered (classes_of p.items) 1 c.name (λ n d a w q. other n d a w (apart p u n i d c a e q)))
    where
      other : (n : ℕ) (d : Class) → class_at p n ≡ Some d → is_event d.kind ≡ false → n ≡ i → ⊥
      other n d a w q =
          let s : Some c ≡ Some d = sym e ∙ (ap (class_at p) (sym q) ∙ a) in
          false_true (sym w ∙ (ap (λ (z : Class). is_event z.kind) (sym (some_same s)) ∙ v))

  pub same_number : (i j : ℕ) → HasNumber i → HasNumber j → number_at p i ≡ number_at p j → i ≡ j
  same_number i j a b e =
      let q : suc a.before ≡ suc b.before = sym a.number ∙ (e ∙ b.number) in
      some_same (sym a.place ∙ (ap (place_of p) q ∙ b.place))

  pub sort_here : (i : ℕ) (c : Class) → class_at p i ≡ Some c → class_sort (classes_of p.items) 0 c.name ≡ Some (sort.Object i c.kind)
  sort_here i c e = sorts (classes_of p.items) (apart p u) 0 i c e ∙ ap (λ z. Some (sort.Object z c.kind)) (let q : 0 + i ≡ i = omega arith in q)

-- the class that a base names
pub class_of_base : (p : Program) (b : Base) (i : ℕ) (k : Kind) → sort_of p b ≡ Some (sort.Object i k) → (c : Class) × (class_at p i ≡ Some c) × (c.kind ≡ k)
class_of_base p (base.Named name) i k h =
    let s : Sorted (classes_of p.items) 0 name i k = sorted (classes_of p.items) 0 name i k h in
    let q : s.n ≡ i = let z = s.place in omega (arith, z) in
    (s.class, ap (class_at p) (sym q) ∙ s.at, s.kind)
class_of_base p base.Void i k h = absurd (cc)
class_of_base p base.Int i k h = absurd (cc)
class_of_base p base.Char i k h = absurd (cc)
class_of_base p base.Bool i k h = absurd (cc)
class_of_base p base.Condition i k h = absurd (cc)
class_of_base p base.Cluster i k h = absurd (cc)
class_of_base p base.Processor i k h = absurd (cc)
