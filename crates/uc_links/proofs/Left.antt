-- A node leaves an object's entries: it is unlinked from both orders.
use Rattle.std.proofs.Common.{◌≡◌, ◌≢◌, ℕ, ◌<◌, ◌==◌, List, ◌∷◌, ◌++◌, Bool, None, true, false, cond, sym, ap, ◌∙◌, subst, inl, inr, arith, slice_set, length, length-set, get_or-set_same, get_or-set_other}
use Rattle.std.proofs.lemmas.Bool.{cases_eq}
use Rattle.std.specs.List.{AllByRecursion}
use Rattle.std.specs.Vec.{vec_len, vec_ptr}
use Rattle.uc_links.specs.declared.chain.Ends.{Ends}
use Rattle.uc_links.specs.declared.chain.NodePtr.{NodePtr}
use Rattle.uc_links.specs.Chain.{Nodes, node, link, first_or, Avoids, IsChain, ChangedWithin}
use Rattle.uc_links.specs.Held.{AllEnds, IsHeld, IsOf, Changed, peers, ends_of, no_ends}
use Rattle.uc_links.proofs.Segments.{all_left, all_right, all_both, all_more}
use Rattle.uc_links.proofs.Chains.{same_places}
use Rattle.uc_links.proofs.Entered.{chain_links, stack_links, same_test, test_same, other_test}
use Rattle.uc_links.proofs.Filters.{all_every, differ, filter_append, filter_same, filter_all, filter_true}

abbrev pub Unlinks : ℕ → Nodes → Ends → Nodes → Ends → ℕ → Type 0
Unlinks k v e w e' i = (xs ys : List ℕ) → IsChain k v e (xs ++ i ∷ ys) → IsChain k w e' (xs ++ ys)

abbrev pub Spares : ℕ → Nodes → Ends → Nodes → ℕ → Type 0
Spares k v e w i = (xs ys : List ℕ) → IsChain k v e (xs ++ i ∷ ys) → ChangedWithin k (xs ++ ys) v w

module _ (v0 : Nodes) (i o m : ℕ) (ob : AllEnds) (lm : m < 32) (mi : (node v0 i).member ≡ m) (xs ys st : List ℕ) (h : IsHeld v0 o ob (xs ++ i ∷ ys) st) where
  peers_i : peers v0 m (xs ++ i ∷ ys) ≡ peers v0 m xs ++ i ∷ peers v0 m ys
  peers_i = filter_append (λ j. (node v0 j).member == m) xs (i ∷ ys) ∙ ap (λ (b : Bool). peers v0 m xs ++ cond b (i ∷ peers v0 m ys) (peers v0 m ys)) (same_test _ m mi)

  peers_not : (k : ℕ) → k ≢ m → peers v0 k (xs ++ i ∷ ys) ≡ peers v0 k (xs ++ ys)
  peers_not k n =
      let other : ((node v0 i).member == k) ≡ false = other_test ((node v0 i).member == k) (λ t. n (sym (test_same _ k t) ∙ mi)) in
      filter_append (λ j. (node v0 j).member == k) xs (i ∷ ys) ∙ ap (λ (b : Bool). peers v0 k xs ++ cond b (i ∷ peers v0 k ys) (peers v0 k ys)) other ∙ sym (filter_append (λ j. (node v0 j).member == k) xs ys)

  -- what the second `unlink` asks for
  pub member_chain : (v1 : Nodes) → ChangedWithin 0 (xs ++ ys) v0 v1 → IsChain 1 v1 (ends_of ob m) (peers v0 m xs ++ i ∷ peers v0 m ys)
  member_chain v1 c =
      subst (IsChain 1 v1 (ends_of ob m)) peers_i
      (chain_links 1 v0 v1 (ends_of ob m) (peers v0 m (xs ++ i ∷ ys)) c.0 c.1 (all_every (λ j. link 1 v1 j ≡ link 1 v0 j) (λ j. c.3 1 j (omega arith)) (peers v0 m (xs ++ i ∷ ys))) (h.1 m lm))

  module _ (v1 v2 : Nodes) (e' f' : Ends) (c1 : Unlinks 0 v0 ob.entries v1 e' i) (r1 : Spares 0 v0 ob.entries v1 i) (c2 : Unlinks 1 v1 (ends_of ob m) v2 f' i) (r2 : Spares 1 v1 (ends_of ob m) v2 i) where
    ch1 : ChangedWithin 0 (xs ++ ys) v0 v1
    ch1 = r1 xs ys h.0

    ch2 : ChangedWithin 1 (peers v0 m xs ++ peers v0 m ys) v1 v2
    ch2 = r2 (peers v0 m xs) (peers v0 m ys) (member_chain v1 ch1)

    ptr2 : vec_ptr v2 ≡ vec_ptr v0
    ptr2 = ch2.0 ∙ ch1.0

    len2 : vec_len v2 ≡ vec_len v0
    len2 = ch2.1 ∙ ch1.1

    member_same : (j : ℕ) → (node v2 j).member ≡ (node v0 j).member
    member_same j = (ch2.4 j).1 ∙ (ch1.4 j).1

    of_same : (b : Bool) (j : ℕ) → IsOf v0 o b j → IsOf v2 o b j
    of_same b j p = ((ch2.4 j).2 ∙ (ch1.4 j).2 ∙ p.0, (ch2.4 j).3 ∙ (ch1.4 j).3 ∙ p.1, subst (λ (x : ℕ). x < 32) (sym (member_same j)) p.2)

    peers_same : (k : ℕ) (zs : List ℕ) → peers v2 k zs ≡ peers v0 k zs
    peers_same k zs = filter_same (λ j. (node v2 j).member == k) (λ j. (node v0 j).member == k) zs (all_every (λ j. ((node v2 j).member == k) ≡ ((node v0 j).member == k)) (λ j. ap (λ (x : ℕ). x == k) (member_same j)) zs)

    joined_peers : (k : ℕ) → peers v0 k xs ++ peers v0 k ys ≡ peers v0 k (xs ++ ys)
    joined_peers k = sym (filter_append (λ j. (node v0 j).member == k) xs ys)

    abbrev new : AllEnds
    new = record { entries = e'; members = slice_set ob.members m f'; top = ob.top }

    in_range : m < length ob.members
    in_range = subst (λ (n : ℕ). m < n) (sym h.8) lm

    peers_apart : (k : ℕ) → k ≢ m → AllByRecursion (λ j. Avoids j (peers v0 m xs ++ peers v0 m ys)) (peers v0 k (xs ++ ys))
    peers_apart k n =
        subst (λ (l : List ℕ). AllByRecursion (λ j. Avoids j l) (peers v0 k (xs ++ ys))) (sym (joined_peers m))
        (differ (λ j. ((node v0 j).member == m) ≡ true) (λ j. ((node v0 j).member == k) ≡ true) (λ j a b. n (sym (test_same _ k b) ∙ test_same _ m a)) (peers v0 m (xs ++ ys)) (peers v0 k (xs ++ ys))
        (filter_true (λ j. (node v0 j).member == m) (xs ++ ys)) (filter_true (λ j. (node v0 j).member == k) (xs ++ ys)))

    members_chain : (k : ℕ) → k < 32 → IsChain 1 v2 (ends_of new k) (peers v2 k (xs ++ ys))
    members_chain k lk = subst (IsChain 1 v2 (ends_of new k)) (sym (peers_same k (xs ++ ys))) (elim (cases_eq k m) [
      | inl e ↦
          subst (λ (x : ℕ). IsChain 1 v2 (ends_of new x) (peers v0 x (xs ++ ys))) (sym e)
          (subst (IsChain 1 v2 (ends_of new m)) (joined_peers m)
          (subst (λ (x : Ends). IsChain 1 v2 x (peers v0 m xs ++ peers v0 m ys)) (sym (get_or-set_same ob.members m f' no_ends in_range)) (c2 (peers v0 m xs) (peers v0 m ys) (member_chain v1 ch1))))
      | inr n ↦
          subst (λ (x : Ends). IsChain 1 v2 x (peers v0 k (xs ++ ys))) (sym (get_or-set_other ob.members m k f' no_ends n))
          (chain_links 1 v1 v2 (ends_of ob k) (peers v0 k (xs ++ ys)) ch2.0 ch2.1 (all_more (λ j. Avoids j (peers v0 m xs ++ peers v0 m ys)) (λ j. link 1 v2 j ≡ link 1 v1 j) ch2.2 (peers v0 k (xs ++ ys)) (peers_apart k n))
          (chain_links 1 v0 v1 (ends_of ob k) (peers v0 k (xs ++ ys)) ch1.0 ch1.1 (all_every (λ j. link 1 v1 j ≡ link 1 v0 j) (λ j. ch1.3 1 j (omega arith)) (peers v0 k (xs ++ ys)))
          (subst (IsChain 1 v0 (ends_of ob k)) (peers_not k n) (h.1 k lk))))
    ])

    of_all : AllByRecursion (IsOf v0 o false) (xs ++ ys)
    of_all = all_both (IsOf v0 o false) xs ys (all_left (IsOf v0 o false) xs (i ∷ ys) h.2) (all_right (IsOf v0 o false) xs (i ∷ ys) h.2).1

    stack_same : AllByRecursion (λ j. link 0 v2 j ≡ link 0 v0 j) st
    stack_same =
        all_more (λ j. Avoids j (xs ++ ys)) (λ j. link 0 v2 j ≡ link 0 v0 j) (λ j a. ch2.3 0 j (omega arith) ∙ ch1.2 j a) st
        (differ (IsOf v0 o false) (IsOf v0 o true) (λ j a b. let wrong : false ≡ true = sym a.1 ∙ b.1 in cc) (xs ++ ys) st of_all h.5)

    pub left : IsHeld v2 o new (xs ++ ys) st
    left = (
      chain_links 0 v1 v2 e' (xs ++ ys) ch2.0 ch2.1 (all_every (λ j. link 0 v2 j ≡ link 0 v1 j) (λ j. ch2.3 0 j (omega arith)) (xs ++ ys)) (c1 xs ys h.0),
      members_chain,
      all_more (IsOf v0 o false) (IsOf v2 o false) (of_same false) (xs ++ ys) of_all,
      h.3 ∙ ap (λ (r : ℕ → NodePtr). first_or r st None) (sym (same_places v0 v2 ptr2)),
      stack_links v0 v2 st ptr2 stack_same h.4,
      all_more (IsOf v0 o true) (IsOf v2 o true) (of_same true) st h.5,
      subst (λ (n : ℕ). AllByRecursion (λ j. j < n) st) (sym len2) h.6,
      h.7,
      length-set ob.members m f' ∙ h.8,
    )

    spared : (j : ℕ) → Avoids j (xs ++ ys) → Avoids j (peers v0 m xs ++ peers v0 m ys)
    spared j n = subst (Avoids j) (sym (joined_peers m)) (filter_all (λ x. (node v0 x).member == m) (λ x. x ≢ j) (xs ++ ys) n)

    pub changed : Changed i (xs ++ ys) v0 v2
    changed = (ptr2, len2, λ j. (ch2.4 j).0 ∙ (ch1.4 j).0, λ j n. member_same j, λ j n. ch2.5 j (spared j n) ∙ ch1.5 j n)
