-- The lists of a pool, read from its nodes.
use Rattle.std.proofs.Common.{◌≡◌, ◌≢◌, ℕ, zero, suc, ◌<◌, ◌≤◌, ◌+◌, ◌==◌, ◌||◌, List, [], ◌∷◌, ◌++◌, map, Bool, true, false, Option, Some, None, refl, sym, ap, ◌∙◌, subst, ◌⊎◌, inl, inr, arith, slice_index_or, slice_set, length, length-set, get_or-set_same, get_or-set_other, ext_get_or, eqb→eq, T}
use Rattle.std.proofs.lemmas.Bool.{cases_eq, cases_lt}
use Rattle.std.proofs.lemmas.List.{map-append, length-map, get_or-replicate, length-replicate, length_push, get_or_append_left, get_or_at, get_or_past}
use Rattle.std.proofs.lemmas.Map.Steps.{length-le_from_distinct_below}
use Rattle.std.specs.List.{AllByRecursion, IsDistinct, list_any}
use Rattle.std.specs.Vec.{vec_len, vec_ptr}
use denote.RawPtr.{InBlock}
use lib.Dec.{eqb}
use Rattle.uc_links.specs.declared.chain.Ends.{Ends}
use Rattle.uc_links.specs.declared.chain.NodePtr.{NodePtr}
use Rattle.uc_links.specs.declared.chain.Node.{Node}
use Rattle.uc_links.specs.Chain.{Nodes, node, link, no_link, index_of, place_of, first_or, Avoids, IsApart, IsChain, IsSegment}
use Rattle.uc_links.specs.Held.{AllEnds, no_ends, IsHeld, IsOf, IsStack, Changed, peers, ends_of, follow, entries_of, stack_of}
use Rattle.uc_links.specs.Lists.{Lists, Pool, no_lists, lists_at, IsFree, pushed_back, with_object}
use Rattle.uc_links.specs.View.{Objects, no_object, object_at, entry, lists_of, pool_of, Holds}
use Rattle.uc_links.proofs.Segments.{all_more}
use Rattle.uc_links.proofs.Chains.{same_places, index_place, flip}
use Rattle.uc_links.proofs.Entered.{chain_links, stack_links, other_test}
use Rattle.uc_links.proofs.Filters.{all_and, differ, filter_same, filter_all}

-- ---- the lists are found again
follow_stack : (v : Nodes) → InBlock (vec_ptr v) → (n : ℕ) (st : List ℕ) → IsStack v st → length st ≤ n → follow n v (first_or (place_of v) st None) ≡ st
follow_stack v t zero [] h l = refl
follow_stack v t (suc n) [] h l = refl
follow_stack v t zero (i ∷ is) h l = absurd (omega arith)
follow_stack v t (suc n) (i ∷ is) h l =
    let e = index_place v t i in
    let on = ap (λ (j : ℕ). follow n v (link 0 v j).next) e ∙ ap (follow n v) h.0 ∙ follow_stack v t n is h.1 (omega arith) in
    λ z. e z ∷ on z

segment_stack : (v : Nodes) (p : Option NodePtr) (es : List ℕ) → IsSegment (place_of v) (link 0 v) p es None → IsStack v es
segment_stack v p [] s = tt
segment_stack v p (i ∷ is) s = (ap (λ l. l.next) s.0, segment_stack v (Some (place_of v i)) is s.1)

distinct : (xs : List ℕ) → IsApart xs → IsDistinct eqb xs
unfolding IsDistinct
distinct [] h = tt
distinct (x ∷ xs) h = (all_more (λ j. j ≢ x) (λ y. eqb x y ≡ false) (λ j n. other_test (eqb x j) (λ t. n (sym (eqb→eq x j (subst T (sym t) tt))))) xs h.0, distinct xs h.1)

one_of : (b c : Bool) → (b || c) ≡ true → (b ≡ true) ⊎ (c ≡ true)
one_of true c e = inl refl
one_of false c e = inr e

any_below : (n : ℕ) (xs : List ℕ) → AllByRecursion (λ i. i < n) xs → (q : ℕ) → list_any (eqb q) xs ≡ true → q < n
any_below n [] h q e = cc
any_below n (x ∷ xs) h q e = elim (one_of (eqb q x) (list_any (eqb q) xs) e) [
  | inl t ↦ subst (λ (y : ℕ). y < n) (sym (eqb→eq q x (subst T (sym t) tt))) h.0
  | inr r ↦ any_below n xs h.1 q r
]

pub fits : (n : ℕ) (xs : List ℕ) → AllByRecursion (λ i. i < n) xs → IsApart xs → length xs ≤ n
fits n xs h a = length-le_from_distinct_below xs n (distinct xs a) (any_below n xs h)

pub found : (v : Nodes) (o : ℕ) (ob : AllEnds) (es st : List ℕ) → InBlock (vec_ptr v) → IsHeld v o ob es st → (entries_of v ob ≡ es) × (stack_of v ob ≡ st)
found v o ob es st t h =
    let n = vec_len v in
    (ap (λ (e : Ends). follow n v e.first) h.0.0 ∙ follow_stack v t n es (segment_stack v None es h.0.1) (fits n es h.0.2 h.0.3), ap (follow n v) h.3 ∙ follow_stack v t n st h.4 (fits n st h.6 h.7))

-- ---- an object whose nodes stay
pub held_kept : (v w : Nodes) (o : ℕ) (ob : AllEnds) (es st : List ℕ) → vec_ptr w ≡ vec_ptr v → vec_len w ≡ vec_len v → AllByRecursion (λ i. node w i ≡ node v i) es → AllByRecursion (λ i. node w i ≡ node v i) st
    → IsHeld v o ob es st → IsHeld w o ob es st
held_kept v w o ob es st ep el se ss h =
    let Same = λ (i : ℕ). node w i ≡ node v i in
    let links = λ (k i : ℕ) (e : Same i). ap (λ (x : Node). slice_index_or x.links k no_link) e in
    let of = λ (b : Bool) (i : ℕ) (e : Same i). subst (λ (x : Node). (x.object ≡ o) × (x.stacked ≡ b) × (x.member < 32)) (sym e) in (
      chain_links 0 v w ob.entries es ep el (all_more Same (λ i. link 0 w i ≡ link 0 v i) (links 0) es se) h.0,
      λ m lm. subst (IsChain 1 w (ends_of ob m)) (sym (filter_same (λ i. (node w i).member == m) (λ i. (node v i).member == m) es (all_more Same (λ i. ((node w i).member == m) ≡ ((node v i).member == m)) (λ i e. ap (λ (x : Node). x.member == m) e) es se)))
          (chain_links 1 v w (ends_of ob m) (peers v m es) ep el (filter_all (λ i. (node v i).member == m) (λ i. link 1 w i ≡ link 1 v i) es (all_more Same (λ i. link 1 w i ≡ link 1 v i) (links 1) es se)) (h.1 m lm)),
      all_and Same (IsOf v o false) (IsOf w o false) (of false) es se h.2,
      h.3 ∙ ap (λ (r : ℕ → NodePtr). first_or r st None) (sym (same_places v w ep)),
      stack_links v w st ep (all_more Same (λ i. link 0 w i ≡ link 0 v i) (links 0) st ss) h.4,
      all_and Same (IsOf v o true) (IsOf w o true) (of true) st ss h.5,
      subst (λ (n : ℕ). AllByRecursion (λ j. j < n) st) (sym el) h.6,
      h.7,
      h.8,
    )

-- ---- lists of pairs
pub get_map : {X Y : Type 0} (f : X → Y) (xs : List X) (i : ℕ) (d : X) (e : Y) → i < length xs → slice_index_or (map f xs) i e ≡ f (slice_index_or xs i d)
get_map f [] i d e l = absurd (omega arith)
get_map f (x ∷ xs) zero d e l = refl
get_map f (x ∷ xs) (suc i) d e l = get_map f xs i d e (omega arith)

unmapped : (v : Nodes) (id : ℕ) (es : List ℕ) → AllByRecursion (λ e. e.0 ≢ id) (map (entry v) es) → Avoids id es
unmapped v id [] h = tt
unmapped v id (x ∷ xs) h = (h.0, unmapped v id xs h.1)

pub map_same : (v w : Nodes) (es : List ℕ) → AllByRecursion (λ i. (node w i).member ≡ (node v i).member) es → map (entry w) es ≡ map (entry v) es
map_same v w [] h = refl
map_same v w (x ∷ xs) h = λ z. (x, h.0 z) ∷ map_same v w xs h.1 z

pub free_avoids : (v : Nodes) (obs : Objects) (id : ℕ) → IsFree id (pool_of v obs) → (p : ℕ) → p < length obs → Avoids id (entries_of v (object_at obs p)) × Avoids id (stack_of v (object_at obs p))
free_avoids v obs id free p l =
    let f = subst (λ (x : Lists). AllByRecursion (λ e. e.0 ≢ id) x.entries × Avoids id x.stack) (get_map (lists_of v) obs p no_object no_lists l) (free p (subst (λ (n : ℕ). p < n) (sym (length-map obs (lists_of v))) l)) in
    (unmapped v id (entries_of v (object_at obs p)) f.0, f.1)

-- ---- an object with empty lists
pub follow_none : (v : Nodes) (n : ℕ) → follow n v None ≡ []
follow_none v zero = refl
follow_none v (suc n) = refl

held_none : (v : Nodes) (o : ℕ) → IsHeld v o no_object [] []
held_none v o =
    ((refl, tt, tt, tt), λ m lm. subst (λ (e : Ends). IsChain 1 v e []) (sym (get_or-replicate 32 m no_ends no_ends lm)) (refl, tt, tt, tt), tt, refl, tt, tt, tt, tt, length-replicate 32 no_ends)

held_new : (v : Nodes) (o : ℕ) → IsHeld v o no_object (entries_of v no_object) (stack_of v no_object)
held_new v o = subst (λ (x : List ℕ × List ℕ). IsHeld v o no_object x.0 x.1) (λ z. (sym (follow_none v (vec_len v)) z, sym (follow_none v (vec_len v)) z)) (held_none v o)

lists_none : (v : Nodes) → lists_of v no_object ≡ no_lists
lists_none v = let none = follow_none v (vec_len v) in λ z. record { entries = map (entry v) (none z); stack = none z }

-- what is read of any number, where an object that is not known has empty lists
pub any_held : (v : Nodes) (obs : Objects) → Holds v obs → (o : ℕ) → IsHeld v o (object_at obs o) (entries_of v (object_at obs o)) (stack_of v (object_at obs o))
any_held v obs h o = elim (cases_lt o (length obs)) [
  | inl l ↦ h.2 o l
  | inr g ↦ subst (λ (b : AllEnds). IsHeld v o b (entries_of v b) (stack_of v b)) (sym (get_or_past obs o no_object g)) (held_new v o)
]

pub any_lists : (v : Nodes) (obs : Objects) (o : ℕ) → lists_at (pool_of v obs) o ≡ lists_of v (object_at obs o)
any_lists v obs o = elim (cases_lt o (length obs)) [
  | inl l ↦ get_map (lists_of v) obs o no_object no_lists l
  | inr g ↦
      get_or_past (map (lists_of v) obs) o no_lists (subst (λ (n : ℕ). n ≤ o) (sym (length-map obs (lists_of v))) g) ∙ sym (lists_none v)
      ∙ ap (lists_of v) (sym (get_or_past obs o no_object g))
]

-- ---- one object changed, and its nodes alone
module _ (v w : Nodes) (obs : Objects) (o id : ℕ) (ob' : AllEnds) (es' st' cs : List ℕ) (news : Lists) (hold : Holds v obs) (lo : o < length obs)
    (here : IsHeld w o ob' es' st') (change : Changed id cs v w) (seen_o : lists_of w ob' ≡ news)
    (apart_e : (p : ℕ) → p < length obs → p ≢ o → AllByRecursion (λ i. (i ≢ id) × Avoids i cs) (entries_of v (object_at obs p)))
    (apart_s : (p : ℕ) → p < length obs → p ≢ o → AllByRecursion (λ i. (i ≢ id) × Avoids i cs) (stack_of v (object_at obs p))) where
  abbrev E : ℕ → List ℕ
  E p = entries_of v (object_at obs p)

  abbrev S : ℕ → List ℕ
  S p = stack_of v (object_at obs p)

  there : (p : ℕ) → p < length obs → p ≢ o → IsHeld w p (object_at obs p) (E p) (S p)
  there p l n =
      let same = λ (i : ℕ) (a : (i ≢ id) × Avoids i cs). change.4 i a.1 in
      held_kept v w p (object_at obs p) (E p) (S p) change.0 change.1 (all_more (λ i. (i ≢ id) × Avoids i cs) (λ i. node w i ≡ node v i) same (E p) (apart_e p l n))
      (all_more (λ i. (i ≢ id) × Avoids i cs) (λ i. node w i ≡ node v i) same (S p) (apart_s p l n)) (hold.2 p l)

  abbrev new : Objects
  new = slice_set obs o ob'

  within : (p : ℕ) → p < length new → p < length obs
  within p = subst (λ (n : ℕ). p < n) (length-set obs o ob')

  at_o : object_at new o ≡ ob'
  at_o = get_or-set_same obs o ob' no_object lo

  at_other : (p : ℕ) → p ≢ o → object_at new p ≡ object_at obs p
  at_other p n = get_or-set_other obs o p ob' no_object n

  block : InBlock (vec_ptr w)
  block = subst InBlock (sym change.0) hold.0

  again : (p : ℕ) (ob : AllEnds) (es st : List ℕ) → IsHeld w p ob es st → IsHeld w p ob (entries_of w ob) (stack_of w ob)
  again p ob es st h = let f = found w p ob es st block h in subst (λ (x : List ℕ × List ℕ). IsHeld w p ob x.0 x.1) (λ z. (sym f.0 z, sym f.1 z)) h

  pub holds : Holds w new
  holds = (
    block,
    λ i l. change.2 i ∙ hold.1 i (subst (λ (n : ℕ). i < n) change.1 l),
    λ p l. elim (cases_eq p o) [
      | inl e ↦
          subst (λ (x : ℕ). IsHeld w x (object_at new x) (entries_of w (object_at new x)) (stack_of w (object_at new x))) (sym e)
          (subst (λ (x : AllEnds). IsHeld w o x (entries_of w x) (stack_of w x)) (sym at_o) (again o ob' es' st' here))
      | inr n ↦ subst (λ (x : AllEnds). IsHeld w p x (entries_of w x) (stack_of w x)) (sym (at_other p n)) (again p (object_at obs p) (E p) (S p) (there p (within p l) n))
    ],
  )

  abbrev old : Pool
  old = pool_of v obs

  at_object : (p : ℕ) → p < length obs → lists_at (pool_of v obs) p ≡ lists_of v (object_at obs p)
  at_object p l = get_map (lists_of v) obs p no_object no_lists l

  seen_other : (p : ℕ) → p < length obs → p ≢ o → lists_of w (object_at obs p) ≡ lists_of v (object_at obs p)
  seen_other p l n =
      let f = found w p (object_at obs p) (E p) (S p) block (there p l n) in
      let labels = map_same v w (E p) (all_more (λ i. (i ≢ id) × Avoids i cs) (λ i. (node w i).member ≡ (node v i).member) (λ i a. change.3 i a.0) (E p) (apart_e p l n)) in
      let es = ap (map (entry w)) f.0 ∙ labels in
      λ z. record { entries = es z; stack = f.1 z }

  lists : map (lists_of w) new ≡ slice_set old.lists o news
  lists =
      let count : length (map (lists_of w) new) ≡ length obs = length-map new (lists_of w) ∙ length-set obs o ob' in
      ext_get_or no_lists (map (lists_of w) new) (slice_set old.lists o news) (count ∙ sym (length-set old.lists o news ∙ length-map obs (lists_of v))) (λ p l.
      let lp : p < length obs = subst (λ (n : ℕ). p < n) count l in
      get_map (lists_of w) new p no_object no_lists (subst (λ (n : ℕ). p < n) (sym (length-set obs o ob')) lp) ∙ elim (cases_eq p o) [
        | inl e ↦
            subst (λ (x : ℕ). lists_of w (object_at new x) ≡ slice_index_or (slice_set old.lists o news) x no_lists) (sym e)
            (ap (lists_of w) at_o ∙ seen_o ∙ sym (get_or-set_same old.lists o news no_lists (subst (λ (n : ℕ). o < n) (sym (length-map obs (lists_of v))) lo)))
        | inr n ↦ ap (lists_of w) (at_other p n) ∙ seen_other p lp n ∙ sym (at_object p lp) ∙ sym (get_or-set_other old.lists o p news no_lists n)
      ])

  pub seen : (let after : Pool = record { count = vec_len v; lists = slice_set old.lists o news } in pool_of w new ≡ after)
  seen = λ z. record { count = change.1 z; lists = lists z }

  pub both : Holds w new × (let after : Pool = record { count = vec_len v; lists = slice_set old.lists o news } in pool_of w new ≡ after)
  both = (holds, seen)

-- ---- a push
module _ (v w : Nodes) (obs : Objects) (o m id : ℕ) (ob' : AllEnds) (hold : Holds v obs) (lo : o < length obs) (free : IsFree id (pool_of v obs))
    (held : (es st : List ℕ) → IsHeld v o (object_at obs o) es st → Avoids id es → Avoids id st → IsHeld w o ob' (es ++ id ∷ []) st)
    (lab : (node w id).member ≡ m)
    (rest : (es st : List ℕ) → IsHeld v o (object_at obs o) es st → Avoids id es → Avoids id st → Changed id (id ∷ es) v w) where
  abbrev E0 : List ℕ
  E0 = entries_of v (object_at obs o)

  abbrev S0 : List ℕ
  S0 = stack_of v (object_at obs o)

  avoids : (p : ℕ) → p < length obs → Avoids id (entries_of v (object_at obs p)) × Avoids id (stack_of v (object_at obs p))
  avoids = free_avoids v obs id free

  apart : (b : Bool) (p : ℕ) (is : List ℕ) → p ≢ o → Avoids id is → AllByRecursion (IsOf v p b) is → AllByRecursion (λ i. (i ≢ id) × Avoids i (id ∷ E0)) is
  apart b p is n a h = all_and (λ i. i ≢ id) (λ i. Avoids i E0) (λ i. (i ≢ id) × Avoids i (id ∷ E0)) (λ i x y. (x, (flip i id x, y))) is a (differ (IsOf v o false) (IsOf v p b) (λ i x y. n (sym y.0 ∙ x.0)) E0 is (hold.2 o lo).2 h)

  abbrev pushed : Lists
  pushed = record { entries = (lists_at (pool_of v obs) o).entries ++ (id, m) ∷ []; stack = (lists_at (pool_of v obs) o).stack }

  pub push_both : Holds w (slice_set obs o ob') × (pool_of w (slice_set obs o ob') ≡ pushed_back (pool_of v obs) o m id)
  push_both =
      let ho = hold.2 o lo in let a = avoids o lo in
      let here = held E0 S0 ho a.0 a.1 in let change = rest E0 S0 ho a.0 a.1 in
      let f = found w o ob' (E0 ++ id ∷ []) S0 (subst InBlock (sym change.0) hold.0) here in
      let labels = map_same v w E0 (all_more (λ i. i ≢ id) (λ i. (node w i).member ≡ (node v i).member) change.3 E0 a.0) in
      let at_object = get_map (lists_of v) obs o no_object no_lists lo in
      let es = ap (map (entry w)) f.0 ∙ map-append (entry w) E0 (id ∷ []) ∙ (λ z. labels z ++ (id, lab z) ∷ []) ∙ ap (λ (x : Lists). x.entries ++ (id, m) ∷ []) (sym at_object) in
      let st = f.1 ∙ ap (λ (x : Lists). x.stack) (sym at_object) in
      both v w obs o id ob' (E0 ++ id ∷ []) S0 (id ∷ E0) pushed hold lo here change (λ z. record { entries = es z; stack = st z })
      (λ p l n. apart false p (entries_of v (object_at obs p)) n (avoids p l).0 (hold.2 p l).2) (λ p l n. apart true p (stack_of v (object_at obs p)) n (avoids p l).1 (hold.2 p l).5)

-- ---- what `push_back` asks for and gives
abbrev pub Enters : Nodes → ℕ → AllEnds → AllEnds → Nodes → ℕ → Type 0
Enters v o b b' w i = (es st : List ℕ) → IsHeld v o b es st → Avoids i es → Avoids i st → IsHeld w o b' (es ++ i ∷ []) st

abbrev pub Alters : Nodes → ℕ → AllEnds → Nodes → ℕ → Type 0
Alters v o b w i = (es st : List ℕ) → IsHeld v o b es st → Avoids i es → Avoids i st → Changed i (i ∷ es) v w

abbrev pub Asked : Nodes → ℕ → AllEnds → ℕ → Type 0
Asked v o b i = (es : List ℕ) × (st : List ℕ) × IsHeld v o b es st × Avoids i es × Avoids i st

module _ (v u : Nodes) (obs : Objects) (o id : ℕ) (b : AllEnds) (p : NodePtr) (hold : Holds v obs) (lo : o < length obs) (free : IsFree id (pool_of v obs))
    (ep : p ≡ place_of v id) (eu : u ≡ v) (same_object : b ≡ object_at obs o) where
  same_index : index_of v p ≡ id
  same_index = ap (index_of v) ep ∙ index_place v hold.0 id

  pub asks : Asked u o b (index_of u p)
  asks =
      let a = free_avoids v obs id free o lo in
      subst (λ (x : Nodes). Asked x o b (index_of x p)) (sym eu) (subst (Asked v o b) (sym same_index) (subst (λ (x : AllEnds). Asked v o x id) (sym same_object) (entries_of v (object_at obs o), stack_of v (object_at obs o), hold.2 o lo, a.0, a.1)))

  pub gives : (m : ℕ) (w : Nodes) (b' : AllEnds) → Enters u o b b' w (index_of u p) → (node w (index_of u p)).member ≡ m → Alters u o b w (index_of u p)
      → Holds w (slice_set obs o b') × (pool_of w (slice_set obs o b') ≡ pushed_back (pool_of v obs) o m id)
  gives m w b' held lab rest =
      let h1 = subst (λ (x : AllEnds). Enters v o x b' w id) same_object (subst (Enters v o b b' w) same_index (subst (λ (x : Nodes). Enters x o b b' w (index_of x p)) eu held)) in
      let r1 = subst (λ (x : AllEnds). Alters v o x w id) same_object (subst (Alters v o b w) same_index (subst (λ (x : Nodes). Alters x o b w (index_of x p)) eu rest)) in
      let l1 = subst (λ (i : ℕ). (node w i).member ≡ m) (ap (λ (x : Nodes). index_of x p) eu ∙ same_index) lab in
      push_both v w obs o m id b' hold lo free h1 l1 r1

pub known : (v : Nodes) (obs : Objects) (p : Pool) → pool_of v obs ≡ p → (n : ℕ) → n < length p.lists → n < length obs
known v obs p e n l = subst (λ (k : ℕ). n < k) (length-map obs (lists_of v)) (subst (λ (q : Pool). n < length q.lists) (sym e) l)

-- ---- a new object
below_or_at : (o n : ℕ) → o < n + 1 → (o < n) ⊎ (o ≡ n)
below_or_at o n l = elim (cases_eq o n) [ inl e ↦ inr e | inr d ↦ inl (omega (arith, d)) ]

pub added : (v : Nodes) (obs obs' : Objects) → obs' ≡ obs ++ no_object ∷ [] → Holds v obs → Holds v obs' × (pool_of v obs' ≡ with_object (pool_of v obs))
added v obs obs' e h =
    let Held = λ (o : ℕ) (b : AllEnds). IsHeld v o b (entries_of v b) (stack_of v b) in (
      (
        h.0,
        h.1,
        λ o l. subst (λ (bs : List AllEnds). Held o (slice_index_or bs o no_object)) (sym e) (elim (below_or_at o (length obs) (subst (λ (n : ℕ). o < n) (ap length e ∙ length_push obs no_object) l)) [
          | inl lo ↦ subst (Held o) (sym (get_or_append_left obs (no_object ∷ []) no_object o lo)) (h.2 o lo)
          | inr at ↦ subst (Held o) (sym (get_or_at obs no_object [] no_object o (sym at))) (held_new v o)
        ]),
      ),
      let lists = ap (map (lists_of v)) e ∙ map-append (lists_of v) obs (no_object ∷ []) ∙ ap (λ (x : Lists). map (lists_of v) obs ++ x ∷ []) (lists_none v) in
          λ z. record { count = vec_len v; lists = lists z },
    )
