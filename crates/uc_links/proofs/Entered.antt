-- A node enters an object's entries: its label is written, and it is linked at the end of both orders.
use Rattle.std.proofs.Common.{◌≡◌, ◌≢◌, ℕ, ◌<◌, ◌==◌, List, [], ◌∷◌, ◌++◌, Bool, true, false, cond, None, refl, sym, ap, ◌∙◌, subst, inl, inr, arith, slice_set, length, length-set, get_or-set_same, get_or-set_other, eqb→eq, T}
use Rattle.std.proofs.lemmas.Bool.{cases_eq}
use Rattle.std.proofs.lemmas.List.{append-nil}
use Rattle.std.specs.List.{AllByRecursion}
use Rattle.std.specs.Vec.{vec_len, vec_ptr}
use lib.Dec.{eqb_refl}
use Rattle.uc_links.specs.declared.chain.Ends.{Ends}
use Rattle.uc_links.specs.declared.chain.NodePtr.{NodePtr}
use Rattle.uc_links.specs.declared.chain.Node.{Node}
use Rattle.uc_links.specs.Chain.{Nodes, node, link, index_of, place_of, IsNode, first_or, Avoids, IsChain, ChangedWithin, Labelled}
use Rattle.uc_links.specs.Held.{AllEnds, IsHeld, IsOf, IsStack, Changed, peers, ends_of, no_ends}
use Rattle.uc_links.proofs.Segments.{all_both, all_more, kept}
use Rattle.uc_links.proofs.Chains.{at_places, same_places, index_same, flip}
use Rattle.uc_links.proofs.Filters.{all_every, all_and, differ, filter_append, filter_same, filter_all, filter_true}

-- an order whose links stay stays
pub chain_links : (k : ℕ) (v w : Nodes) (ends : Ends) (es : List ℕ) → vec_ptr w ≡ vec_ptr v → vec_len w ≡ vec_len v → AllByRecursion (λ i. link k w i ≡ link k v i) es → IsChain k v ends es → IsChain k w ends es
chain_links k v w ends es ep el s h = at_places k v w ends es ep el h.0 (kept (place_of v) (link k v) (link k w) None es None s h.1) h.2 h.3

true_of : (b : Bool) → T b → b ≡ true
true_of true t = refl
true_of false t = absurd t

from_true : (b : Bool) → b ≡ true → T b
from_true b e = subst T (sym e) tt

pub same_test : (m n : ℕ) → m ≡ n → (m == n) ≡ true
same_test m n e = subst (λ (x : ℕ). (m == x) ≡ true) e (true_of (m == m) (eqb_refl m))

pub test_same : (m n : ℕ) → (m == n) ≡ true → m ≡ n
test_same m n e = eqb→eq m n (from_true (m == n) e)

pub other_test : (b : Bool) → (b ≡ true → ⊥) → b ≡ false
other_test true nope = absurd (nope refl)
other_test false nope = refl

pub stack_links : (v w : Nodes) (st : List ℕ) → vec_ptr w ≡ vec_ptr v → AllByRecursion (λ i. link 0 w i ≡ link 0 v i) st → IsStack v st → IsStack w st
stack_links v w [] e h s = tt
stack_links v w (i ∷ is) e h s =
    (ap (λ l. l.next) h.0 ∙ s.0 ∙ ap (λ (r : ℕ → NodePtr). first_or r is None) (sym (same_places v w e)), stack_links v w is e h.1 s.1)

module _ (v0 v1 v2 v3 : Nodes) (i o m : ℕ) (ob : AllEnds) (e' f' : Ends) (lm : m < 32) (li : i < vec_len v0)
    (lab : Labelled i o false m v0 v1)
    (c1 : (es : List ℕ) → IsChain 0 v1 ob.entries es → Avoids i es → IsChain 0 v2 e' (es ++ i ∷ []))
    (r1 : (es : List ℕ) → IsChain 0 v1 ob.entries es → ChangedWithin 0 (i ∷ es) v1 v2)
    (c2 : (es : List ℕ) → IsChain 1 v2 (ends_of ob m) es → Avoids i es → IsChain 1 v3 f' (es ++ i ∷ []))
    (r2 : (es : List ℕ) → IsChain 1 v2 (ends_of ob m) es → ChangedWithin 1 (i ∷ es) v2 v3)
    (es st : List ℕ) (h : IsHeld v0 o ob es st) (n1 : Avoids i es) (n2 : Avoids i st) where
  pub chain1 : IsChain 0 v1 ob.entries es
  chain1 = chain_links 0 v0 v1 ob.entries es lab.0 lab.1 (all_every (λ j. link 0 v1 j ≡ link 0 v0 j) (lab.6 0) es) h.0

  ch1 : ChangedWithin 0 (i ∷ es) v1 v2
  ch1 = r1 es chain1

  links01 : (k j : ℕ) → 0 ≢ k → link k v2 j ≡ link k v0 j
  links01 k j n = ch1.3 k j (λ e. n (sym e)) ∙ lab.6 k j

  pub peers2 : (k : ℕ) → k < 32 → IsChain 1 v2 (ends_of ob k) (peers v0 k es)
  peers2 k lk = chain_links 1 v0 v2 (ends_of ob k) (peers v0 k es) (ch1.0 ∙ lab.0) (ch1.1 ∙ lab.1) (all_every (λ j. link 1 v2 j ≡ link 1 v0 j) (λ j. links01 1 j (omega arith)) (peers v0 k es)) (h.1 k lk)

  ch2 : ChangedWithin 1 (i ∷ peers v0 m es) v2 v3
  ch2 = r2 (peers v0 m es) (peers2 m lm)

  ptr3 : vec_ptr v3 ≡ vec_ptr v0
  ptr3 = ch2.0 ∙ ch1.0 ∙ lab.0

  len3 : vec_len v3 ≡ vec_len v0
  len3 = ch2.1 ∙ ch1.1 ∙ lab.1

  -- labels
  member_i : (node v3 i).member ≡ m
  member_i = (ch2.4 i).1 ∙ (ch1.4 i).1 ∙ lab.3

  member_else : (j : ℕ) → j ≢ i → (node v3 j).member ≡ (node v0 j).member
  member_else j n = (ch2.4 j).1 ∙ (ch1.4 j).1 ∙ ap (λ (x : Node). x.member) (lab.7 j n)

  of_else : (b : Bool) (j : ℕ) → j ≢ i → IsOf v0 o b j → IsOf v3 o b j
  of_else b j n p = (
    (ch2.4 j).2 ∙ (ch1.4 j).2 ∙ ap (λ (x : Node). x.object) (lab.7 j n) ∙ p.0,
    (ch2.4 j).3 ∙ (ch1.4 j).3 ∙ ap (λ (x : Node). x.stacked) (lab.7 j n) ∙ p.1,
    subst (λ (x : ℕ). x < 32) (sym (member_else j n)) p.2,
  )

  of_i : IsOf v3 o false i
  of_i = ((ch2.4 i).2 ∙ (ch1.4 i).2 ∙ lab.4, (ch2.4 i).3 ∙ (ch1.4 i).3 ∙ lab.5, subst (λ (x : ℕ). x < 32) (sym member_i) lm)

  -- the member's entries, and the others'
  peers_es : (k : ℕ) → peers v3 k es ≡ peers v0 k es
  peers_es k = filter_same (λ j. (node v3 j).member == k) (λ j. (node v0 j).member == k) es (all_more (λ j. j ≢ i) (λ j. ((node v3 j).member == k) ≡ ((node v0 j).member == k)) (λ j n. ap (λ (x : ℕ). x == k) (member_else j n)) es n1)

  peers_new : (k : ℕ) → peers v3 k (es ++ i ∷ []) ≡ peers v0 k es ++ cond ((node v3 i).member == k) (i ∷ []) []
  peers_new k = filter_append (λ j. (node v3 j).member == k) es (i ∷ []) ∙ ap (λ (l : List ℕ). l ++ cond ((node v3 i).member == k) (i ∷ []) []) (peers_es k)

  avoids_peers : (k : ℕ) (xs : List ℕ) (x : ℕ) → Avoids x xs → Avoids x (peers v0 k xs)
  avoids_peers k xs x n = filter_all (λ j. (node v0 j).member == k) (λ j. j ≢ x) xs n

  peers_apart : (k : ℕ) → k ≢ m → AllByRecursion (λ j. Avoids j (i ∷ peers v0 m es)) (peers v0 k es)
  peers_apart k n =
      all_and (λ j. j ≢ i) (λ j. Avoids j (peers v0 m es)) (λ j. Avoids j (i ∷ peers v0 m es)) (λ j a b. (flip j i a, b)) (peers v0 k es)
      (filter_all (λ j. (node v0 j).member == k) (λ j. j ≢ i) es n1)
      (differ (λ j. ((node v0 j).member == m) ≡ true) (λ j. ((node v0 j).member == k) ≡ true) (λ j a b. n (sym (test_same _ k b) ∙ test_same _ m a)) (peers v0 m es) (peers v0 k es)
      (filter_true (λ j. (node v0 j).member == m) es) (filter_true (λ j. (node v0 j).member == k) es))

  abbrev new : AllEnds
  new = record { entries = e'; members = slice_set ob.members m f'; top = ob.top }

  in_range : m < length ob.members
  in_range = subst (λ (n : ℕ). m < n) (sym h.8) lm

  member_chain : (k : ℕ) → k < 32 → IsChain 1 v3 (ends_of new k) (peers v3 k (es ++ i ∷ []))
  member_chain k lk = elim (cases_eq k m) [
    | inl e ↦
        subst (λ (x : ℕ). IsChain 1 v3 (ends_of new x) (peers v3 x (es ++ i ∷ []))) (sym e)
        (subst (λ (l : List ℕ). IsChain 1 v3 (ends_of new m) l) (sym (peers_new m ∙ ap (λ (b : Bool). peers v0 m es ++ cond b (i ∷ []) []) (same_test _ m member_i)))
        (subst (λ (x : Ends). IsChain 1 v3 x (peers v0 m es ++ i ∷ [])) (sym (get_or-set_same ob.members m f' no_ends in_range)) (c2 (peers v0 m es) (peers2 m lm) (avoids_peers m es i n1))))
    | inr n ↦
        let nope : ((node v3 i).member == k) ≡ false = other_test ((node v3 i).member == k) (λ t. n (sym (test_same _ k t) ∙ member_i)) in
        subst (λ (l : List ℕ). IsChain 1 v3 (ends_of new k) l) (sym (peers_new k ∙ ap (λ (b : Bool). peers v0 k es ++ cond b (i ∷ []) []) nope ∙ append-nil (peers v0 k es)))
        (subst (λ (x : Ends). IsChain 1 v3 x (peers v0 k es)) (sym (get_or-set_other ob.members m k f' no_ends n))
        (chain_links 1 v2 v3 (ends_of ob k) (peers v0 k es) ch2.0 ch2.1 (all_more (λ j. Avoids j (i ∷ peers v0 m es)) (λ j. link 1 v3 j ≡ link 1 v2 j) ch2.2 (peers v0 k es) (peers_apart k n)) (peers2 k lk)))
  ]

  -- the stack
  stack_apart : AllByRecursion (λ j. Avoids j es) st
  stack_apart = differ (IsOf v0 o false) (IsOf v0 o true) (λ j a b. let nope : false ≡ true = sym a.1 ∙ b.1 in cc) es st h.2 h.5

  stack_same : AllByRecursion (λ j. link 0 v3 j ≡ link 0 v0 j) st
  stack_same = all_and (λ j. j ≢ i) (λ j. Avoids j es) (λ j. link 0 v3 j ≡ link 0 v0 j) (λ j a b. ch2.3 0 j (omega arith) ∙ ch1.2 j (flip j i a, b) ∙ lab.6 0 j) st n2 stack_apart

  pub entered : IsHeld v3 o new (es ++ i ∷ []) st
  entered = (
    chain_links 0 v2 v3 e' (es ++ i ∷ []) ch2.0 ch2.1 (all_every (λ j. link 0 v3 j ≡ link 0 v2 j) (λ j. ch2.3 0 j (omega arith)) (es ++ i ∷ [])) (c1 es chain1 n1),
    member_chain,
    all_both (IsOf v3 o false) es (i ∷ []) (all_and (λ j. j ≢ i) (IsOf v0 o false) (IsOf v3 o false) (of_else false) es n1 h.2) (of_i, tt),
    h.3 ∙ ap (λ (r : ℕ → NodePtr). first_or r st None) (sym (same_places v0 v3 ptr3)),
    stack_links v0 v3 st ptr3 stack_same h.4,
    all_and (λ j. j ≢ i) (IsOf v0 o true) (IsOf v3 o true) (of_else true) st n2 h.5,
    subst (λ (n : ℕ). AllByRecursion (λ j. j < n) st) (sym len3) h.6,
    h.7,
    length-set ob.members m f' ∙ h.8,
  )

  same_id : (j : ℕ) → (node v1 j).id ≡ (node v0 j).id
  same_id j = elim (cases_eq j i) [ inl e ↦ subst (λ (x : ℕ). (node v1 x).id ≡ (node v0 x).id) (sym e) lab.2 | inr n ↦ ap (λ (x : Node). x.id) (lab.7 j n) ]

  pub changed : Changed i (i ∷ es) v0 v3
  changed =
      (ptr3, len3, λ j. (ch2.4 j).0 ∙ (ch1.4 j).0 ∙ same_id j, member_else, λ j n. ch2.5 j (n.0, avoids_peers m es j n.1) ∙ ch1.5 j n ∙ lab.7 j (flip i j n.0))

  pub label : (node v3 i).member ≡ m
  label = member_i

-- what the two calls of `link_last` ask for
module _ (v0 v1 : Nodes) (i o m : ℕ) (ob : AllEnds) (lab : Labelled i o false m v0 v1) (es st : List ℕ) (h : IsHeld v0 o ob es st) where
  pub first_chain : IsChain 0 v1 ob.entries es
  first_chain = chain_links 0 v0 v1 ob.entries es lab.0 lab.1 (all_every (λ j. link 0 v1 j ≡ link 0 v0 j) (lab.6 0) es) h.0

  pub second_chain : (v2 : Nodes) → m < 32 → ChangedWithin 0 (i ∷ es) v1 v2 → IsChain 1 v2 (ends_of ob m) (peers v0 m es)
  second_chain v2 lm c =
      chain_links 1 v0 v2 (ends_of ob m) (peers v0 m es) (c.0 ∙ lab.0) (c.1 ∙ lab.1) (all_every (λ j. link 1 v2 j ≡ link 1 v0 j) (λ j. c.3 1 j (omega arith) ∙ lab.6 1 j) (peers v0 m es)) (h.1 m lm)

abbrev pub Links : ℕ → Nodes → Ends → Nodes → Ends → ℕ → Type 0
Links k v e w e' i = (es : List ℕ) → IsChain k v e es → Avoids i es → IsChain k w e' (es ++ i ∷ [])

abbrev pub Keeps : ℕ → Nodes → Ends → Nodes → ℕ → Type 0
Keeps k v e w i = (es : List ℕ) → IsChain k v e es → ChangedWithin k (i ∷ es) v w

-- the three steps together, at a pointer
pub at_place : (v0 v1 v2 v3 : Nodes) (o m : ℕ) (ob : AllEnds) (e' f' : Ends) (p : NodePtr) → m < 32 → IsNode v0 p → Labelled (index_of v0 p) o false m v0 v1
    → Links 0 v1 ob.entries v2 e' (index_of v1 p) → Keeps 0 v1 ob.entries v2 (index_of v1 p) → Links 1 v2 (ends_of ob m) v3 f' (index_of v2 p) → Keeps 1 v2 (ends_of ob m) v3 (index_of v2 p)
    → let i = index_of v0 p in (es st : List ℕ) → IsHeld v0 o ob es st → Avoids i es → Avoids i st
    → IsHeld v3 o (record { entries = e'; members = slice_set ob.members m f'; top = ob.top }) (es ++ i ∷ []) st × Changed i (i ∷ es) v0 v3 × ((node v3 i).member ≡ m)
at_place v0 v1 v2 v3 o m ob e' f' p lm np lab c1 r1 c2 r2 es st h n1 n2 =
    let i = index_of v0 p in
    let i1 : index_of v1 p ≡ i = index_same v0 v1 p lab.0 in
    let c1' = subst (Links 0 v1 ob.entries v2 e') i1 c1 in let r1' = subst (Keeps 0 v1 ob.entries v2) i1 r1 in
    let ch = r1' es (first_chain v0 v1 i o m ob lab es st h) in
    let i2 : index_of v2 p ≡ i = index_same v0 v2 p (ch.0 ∙ lab.0) in
    let c2' = subst (Links 1 v2 (ends_of ob m) v3 f') i2 c2 in let r2' = subst (Keeps 1 v2 (ends_of ob m) v3) i2 r2 in (
      entered v0 v1 v2 v3 i o m ob e' f' lm np.1 lab c1' r1' c2' r2' es st h n1 n2,
      changed v0 v1 v2 v3 i o m ob e' f' lm np.1 lab c1' r1' c2' r2' es st h n1 n2,
      label v0 v1 v2 v3 i o m ob e' f' lm np.1 lab c1' r1' c2' r2' es st h n1 n2,
    )
