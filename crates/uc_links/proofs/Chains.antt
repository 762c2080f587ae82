-- What the steps of linking and unlinking do to an order.
use Rattle.std.proofs.Common.{◌≡◌, ◌≢◌, ℕ, ◌*◌, ◌/◌, ◌-◌, ◌<◌, List, [], ◌∷◌, ◌++◌, Option, Some, None, refl, sym, ap, ◌∙◌, subst, ◌⊎◌, inl, inr, arith, slice_index_or}
use Rattle.std.specs.List.{AllByRecursion}
use Rattle.std.specs.Vec.{vec_len, vec_ptr}
use denote.RawPtr.{Ptr, block_ptr, null_ptr, InBlock, count_of, ◌+ₚ◌}
use Rattle.uc_links.specs.declared.chain.Link.{Link}
use Rattle.uc_links.specs.declared.chain.Node.{Node}
use Rattle.uc_links.specs.declared.chain.NodePtr.{NodePtr}
use Rattle.uc_links.specs.declared.chain.Ends.{Ends}
use Rattle.uc_links.specs.Chain.{Nodes, node, blank, no_link, place_of, index_of, IsNode, IsNodeIfSome, link, first_or, last_or, IsSegment, Avoids, IsApart, IsChain, Relinked, AfterSet, BeforeSet, ChangedWithin}
use Rattle.uc_links.proofs.Segments.{all_left, all_right, all_both, all_more, cut_last, last_or-append, first_or-append, first_or-push, joined, left, right, kept, next_set, prev_set}

-- ---- where a node lies
index_from : (p : Ptr) → InBlock p → (i : ℕ) → (count_of (p +ₚ i * 80) - count_of p) / 80 ≡ i
index_from (block_ptr b o) t i = omega arith
index_from null_ptr t i = absurd t

pub index_place : (v : Nodes) → InBlock (vec_ptr v) → (i : ℕ) → index_of v (place_of v i) ≡ i
index_place v t i = index_from (vec_ptr v) t i

pub is_node : (v : Nodes) → InBlock (vec_ptr v) → (i : ℕ) → i < vec_len v → IsNode v (place_of v i)
is_node v t i h = (ap (place_of v) (sym (index_place v t i)), subst (λ (j : ℕ). j < vec_len v) (sym (index_place v t i)) h)

pub same_places : (v w : Nodes) → vec_ptr w ≡ vec_ptr v → place_of w ≡ place_of v
same_places v w e = ap (λ (p : Ptr). λ (i : ℕ). let q : NodePtr = record { ptr = p +ₚ i * 80 } in q) e

-- a list is empty, or has a last element
pub at_end : (xs : List ℕ) → (xs ≡ []) ⊎ ((us : List ℕ) × (a : ℕ) × (xs ≡ us ++ a ∷ []))
at_end [] = inl refl
at_end (x ∷ xs) = inr (cut_last x xs)

pub last_is : (ref : ℕ → NodePtr) (p : Option NodePtr) (us : List ℕ) (a : ℕ) → last_or ref p (us ++ a ∷ []) ≡ Some (ref a)
last_is ref p us a = last_or-append ref p us (a ∷ [])

pub last_node : (v : Nodes) → InBlock (vec_ptr v) → (xs : List ℕ) → AllByRecursion (λ i. i < vec_len v) xs → IsNodeIfSome v (last_or (place_of v) None xs)
last_node v t xs h = elim (at_end xs) [
  | inl e ↦ subst (λ (l : List ℕ). IsNodeIfSome v (last_or (place_of v) None l)) (sym e) tt
  | inr c ↦
      let h' = subst (AllByRecursion (λ i. i < vec_len v)) c.2 h in
      subst (λ (l : List ℕ). IsNodeIfSome v (last_or (place_of v) None l)) (sym c.2)
      (subst (IsNodeIfSome v) (sym (last_is (place_of v) None c.0 c.1)) (is_node v t c.1 (all_right (λ i. i < vec_len v) c.0 (c.1 ∷ []) h').0))
]

pub first_node : (v : Nodes) → InBlock (vec_ptr v) → (ys : List ℕ) → AllByRecursion (λ i. i < vec_len v) ys → IsNodeIfSome v (first_or (place_of v) ys None)
first_node v t [] h = tt
first_node v t (b ∷ ys) h = is_node v t b h.0

-- ---- lists whose elements differ
pub apart_left : (xs ys : List ℕ) → IsApart (xs ++ ys) → IsApart xs
apart_left [] ys h = tt
apart_left (x ∷ xs) ys h = (all_left (λ j. j ≢ x) xs ys h.0, apart_left xs ys h.1)

pub apart_right : (xs ys : List ℕ) → IsApart (xs ++ ys) → IsApart ys
apart_right [] ys h = h
apart_right (x ∷ xs) ys h = apart_right xs ys h.1

pub apart_cross : (xs ys : List ℕ) → IsApart (xs ++ ys) → AllByRecursion (λ j. Avoids j ys) xs
apart_cross [] ys h = tt
apart_cross (x ∷ xs) ys h = (all_right (λ j. j ≢ x) xs ys h.0, apart_cross xs ys h.1)

all_two : {X : Type 0} (P Q : X → Type 0) (xs : List X) → AllByRecursion P xs → AllByRecursion Q xs → AllByRecursion (λ x. P x × Q x) xs
all_two P Q [] g h = tt
all_two P Q (x ∷ xs) g h = ((g.0, h.0), all_two P Q xs g.1 h.1)

pub all_empty : (ys : List ℕ) → AllByRecursion (λ y. Avoids y []) ys
all_empty [] = tt
all_empty (y ∷ ys) = (tt, all_empty ys)

pub flip : (x y : ℕ) → x ≢ y → y ≢ x
flip x y h e = h (sym e)

pub swapped : (xs ys : List ℕ) → AllByRecursion (λ j. Avoids j ys) xs → AllByRecursion (λ j. Avoids j xs) ys
swapped [] ys h = all_empty ys
swapped (x ∷ xs) ys h = all_two (λ y. x ≢ y) (λ y. Avoids y xs) ys (all_more (λ y. y ≢ x) (λ y. x ≢ y) (λ y. flip y x) ys h.0) (swapped xs ys h.1)

pub apart_join : (xs ys : List ℕ) → IsApart xs → IsApart ys → AllByRecursion (λ j. Avoids j ys) xs → IsApart (xs ++ ys)
apart_join [] ys a b c = b
apart_join (x ∷ xs) ys a b c = (all_both (λ j. j ≢ x) xs ys a.0 c.0, apart_join xs ys a.1 b c.1)

pub apart_without : (xs : List ℕ) (i : ℕ) (ys : List ℕ) → IsApart (xs ++ i ∷ ys) → IsApart (xs ++ ys)
apart_without xs i ys h =
    apart_join xs ys (apart_left xs (i ∷ ys) h) (apart_right xs (i ∷ ys) h).1 (all_more (λ j. Avoids j (i ∷ ys)) (λ j. Avoids j ys) (λ j n. n.1) xs (apart_cross xs (i ∷ ys) h))

pub apart_push : (xs : List ℕ) (i : ℕ) → IsApart xs → Avoids i xs → IsApart (xs ++ i ∷ [])
apart_push xs i a h = apart_join xs (i ∷ []) a (tt, tt) (all_more (λ j. j ≢ i) (λ j. Avoids j (i ∷ [])) (λ j n. (flip j i n, tt)) xs h)

-- ---- what changes
pub changed_none : (k : ℕ) (v w : Nodes) → w ≡ v → ChangedWithin k [] v w
changed_none k v w e = subst (λ (u : Nodes). ChangedWithin k [] v u) (sym e) (refl, refl, λ i t. refl, λ h i t. refl, λ i. (refl, refl, refl, refl), λ i t. refl)

pub changed_at : (k j : ℕ) (l : Link) (v w : Nodes) → Relinked k j l v w → ChangedWithin k (j ∷ []) v w
changed_at k j l v w r = (r.0, r.1, λ i a. r.3 i (flip j i a.0), r.4, r.5, λ i a. r.6 i (flip j i a.0))

pub changed_more : (k : ℕ) (cs bs : List ℕ) (v w : Nodes) → ((i : ℕ) → Avoids i bs → Avoids i cs) → ChangedWithin k cs v w → ChangedWithin k bs v w
changed_more k cs bs v w f c = (c.0, c.1, λ i a. c.2 i (f i a), c.3, c.4, λ i a. c.5 i (f i a))

pub changed_then : (k : ℕ) (es : List ℕ) (u v w : Nodes) → ChangedWithin k es u v → ChangedWithin k es v w → ChangedWithin k es u w
changed_then k es u v w c d =
    (d.0 ∙ c.0, d.1 ∙ c.1, λ i a. d.2 i a ∙ c.2 i a, λ h i n. d.3 h i n ∙ c.3 h i n, λ i. let a = d.4 i in let b = c.4 i in (a.0 ∙ b.0, a.1 ∙ b.1, a.2 ∙ b.2, a.3 ∙ b.3), λ i a. d.5 i a ∙ c.5 i a)

-- an order that is apart from what changes stays
pub chain_kept : (k : ℕ) (cs : List ℕ) (v w : Nodes) (ends : Ends) (es : List ℕ) → ChangedWithin k cs v w → AllByRecursion (λ i. Avoids i cs) es → IsChain k v ends es → IsChain k w ends es
chain_kept k cs v w ends es c a h =
    subst (λ (ref : ℕ → NodePtr). let e : Ends = record { first = first_or ref es None; last = last_or ref None es } in (ends ≡ e) × IsSegment ref (link k w) None es None × AllByRecursion (λ i. i < vec_len w) es × IsApart es) (sym (same_places v w c.0)) (
      h.0,
      kept (place_of v) (link k v) (link k w) None es None (all_more (λ i. Avoids i cs) (λ i. link k w i ≡ link k v i) c.2 es a) h.1,
      subst (λ (n : ℕ). AllByRecursion (λ i. i < n) es) (sym c.1) h.2,
      h.3,
    )

-- what the step at the node before gives
pub after_set : (k : ℕ) (v w : Nodes) (ends ends' : Ends) (to prev : Option NodePtr) (xs : List ℕ) (m : Option NodePtr) → InBlock (vec_ptr v) → prev ≡ last_or (place_of v) None xs → IsApart xs
    → AfterSet k v ends to prev w ends' → IsSegment (place_of v) (link k v) None xs m → ends.first ≡ first_or (place_of v) xs m
    → IsSegment (place_of v) (link k w) None xs to × (ends'.first ≡ first_or (place_of v) xs to) × (ends'.last ≡ ends.last) × ChangedWithin k xs v w
after_set k v w ends ends' to prev xs m t e a s g f =
    let Goal : List ℕ → Type 0 = λ l. IsSegment (place_of v) (link k w) None l to × (ends'.first ≡ first_or (place_of v) l to) × (ends'.last ≡ ends.last) × ChangedWithin k l v w in
    elim (at_end xs) [
      | inl c ↦
          let none : prev ≡ None = e ∙ ap (last_or (place_of v) None) c in
          let s' = subst (λ (p : Option NodePtr). AfterSet k v ends to p w ends') none s in
          subst Goal (sym c) (tt, ap (λ (x : Ends). x.first) s'.1, ap (λ (x : Ends). x.last) s'.1, changed_none k v w s'.0)
      | inr c ↦
          let us = c.0 in let j = c.1 in
          let some : prev ≡ Some (place_of v j) = e ∙ ap (last_or (place_of v) None) c.2 ∙ last_is (place_of v) None us j in
          let s' = subst (λ (p : Option NodePtr). AfterSet k v ends to p w ends') some s in
          let r = subst (λ (i : ℕ). Relinked k i (record { prev = (link k v i).prev; next = to }) v w) (index_place v t j) s'.0 in
          let a' = subst IsApart c.2 a in
          let same = all_more (λ i. Avoids i (j ∷ [])) (λ i. link k w i ≡ link k v i) (λ i n. r.3 i (flip j i n.0)) us (apart_cross us (j ∷ []) a') in
          let g' = subst (λ (l : List ℕ). IsSegment (place_of v) (link k v) None l m) c.2 g in
          let f' : ends.first ≡ first_or (place_of v) (us ++ j ∷ []) to = f ∙ ap (λ (l : List ℕ). first_or (place_of v) l m) c.2 ∙ first_or-push (place_of v) us j m to in
          subst Goal (sym c.2) (
            next_set (place_of v) (link k v) (link k w) None us j m to same r.2 g',
            ap (λ (x : Ends). x.first) s'.1 ∙ f',
            ap (λ (x : Ends). x.last) s'.1,
            changed_more k (j ∷ []) (us ++ j ∷ []) v w (λ i n. all_right (λ h. h ≢ i) us (j ∷ []) n) (changed_at k j _ v w r),
          )
    ]

-- what the step at the node after gives
pub before_set : (k : ℕ) (v w : Nodes) (ends ends' : Ends) (to next : Option NodePtr) (ys : List ℕ) (p : Option NodePtr) → InBlock (vec_ptr v) → next ≡ first_or (place_of v) ys None → IsApart ys
    → BeforeSet k v ends to next w ends' → IsSegment (place_of v) (link k v) p ys None → ends.last ≡ last_or (place_of v) p ys
    → IsSegment (place_of v) (link k w) to ys None × (ends'.last ≡ last_or (place_of v) to ys) × (ends'.first ≡ ends.first) × ChangedWithin k ys v w
before_set k v w ends ends' to next [] p t e a s g f =
    let s' = subst (λ (q : Option NodePtr). BeforeSet k v ends to q w ends') e s in
    (tt, ap (λ (x : Ends). x.last) s'.1, ap (λ (x : Ends). x.first) s'.1, changed_none k v w s'.0)
before_set k v w ends ends' to next (b ∷ ys) p t e a s g f =
    let s' = subst (λ (q : Option NodePtr). BeforeSet k v ends to q w ends') e s in
    let r = subst (λ (i : ℕ). Relinked k i (record { prev = to; next = (link k v i).next }) v w) (index_place v t b) s'.0 in
    let same = all_more (λ i. i ≢ b) (λ i. link k w i ≡ link k v i) r.3 ys a.0 in (
      prev_set (place_of v) (link k v) (link k w) p to b ys None same r.2 g,
      ap (λ (x : Ends). x.last) s'.1 ∙ f,
      ap (λ (x : Ends). x.first) s'.1,
      changed_more k (b ∷ []) (b ∷ ys) v w (λ i n. (n.0, tt)) (changed_at k b _ v w r),
    )

pub at_places : (k : ℕ) (v w : Nodes) (ends : Ends) (es : List ℕ) → vec_ptr w ≡ vec_ptr v → vec_len w ≡ vec_len v
    → (let e : Ends = record { first = first_or (place_of v) es None; last = last_or (place_of v) None es } in ends ≡ e) → IsSegment (place_of v) (link k w) None es None → AllByRecursion (λ i. i < vec_len v) es → IsApart es
    → IsChain k w ends es
at_places k v w ends es ep el e s b a =
    subst (λ (ref : ℕ → NodePtr). let e : Ends = record { first = first_or ref es None; last = last_or ref None es } in (ends ≡ e) × IsSegment ref (link k w) None es None × AllByRecursion (λ i. i < vec_len w) es × IsApart es) (sym (same_places v w ep))
    (e, s, subst (λ (n : ℕ). AllByRecursion (λ i. i < n) es) (sym el) b, a)

pub index_same : (v w : Nodes) (p : NodePtr) → vec_ptr w ≡ vec_ptr v → index_of w p ≡ index_of v p
index_same v w p e = ap (λ (b : Ptr). (count_of p.ptr - count_of b) / 80) e

-- a node was linked at the end
pub pushed : (k : ℕ) (u v w : Nodes) (ends ends1 : Ends) (place : NodePtr) (es : List ℕ) → InBlock (vec_ptr u) → IsNode u place → IsChain k u ends es → AfterSet k u ends (Some place) ends.last v ends1
    → Relinked k (index_of v place) (record { prev = ends.last; next = None }) v w
    → ChangedWithin k (index_of u place ∷ es) u w × (Avoids (index_of u place) es → IsChain k w (record { first = ends1.first; last = Some place }) (es ++ index_of u place ∷ []))
pushed k u v w ends ends1 place es t m h s r =
    let i = index_of u place in let ref = place_of u in
    let a = after_set k u v ends ends1 (Some place) ends.last es None t (ap (λ (e : Ends). e.last) h.0) h.3 s h.1 (ap (λ (e : Ends). e.first) h.0) in
    let r' = subst (λ (j : ℕ). Relinked k j (record { prev = ends.last; next = None }) v w) (index_same u v place a.3.0) r in
    let changed = changed_then k (i ∷ es) u v w (changed_more k es (i ∷ es) u v (λ j n. n.1) a.3) (changed_more k (i ∷ []) (i ∷ es) v w (λ j n. (n.0, tt)) (changed_at k i _ v w r')) in
    let there : Some place ≡ Some (ref i) = ap (λ (p : NodePtr). Some p) m.0 in (
      changed,
      λ n.
          let seg1 = subst (IsSegment ref (link k w) None es) there (kept ref (link k v) (link k w) None es (Some place) (all_more (λ j. j ≢ i) (λ j. link k w j ≡ link k v j) r'.3 es n) a.0) in
          let at_i : link k w i ≡ record { prev = last_or ref None es; next = None } = r'.2 ∙ ap (λ (p : Option NodePtr). let l : Link = record { prev = p; next = None } in l) (ap (λ (e : Ends). e.last) h.0) in
          let first = a.1 ∙ ap (first_or ref es) there ∙ sym (first_or-append ref es (i ∷ []) None) in
          let last = there ∙ sym (last_is ref None es i) in
          at_places k u w _ (es ++ i ∷ []) changed.0 changed.1 (λ z. record { first = first z; last = last z }) (joined ref (link k w) None es (i ∷ []) None seg1 (at_i, tt))
          (all_both (λ j. j < vec_len u) es (i ∷ []) h.2 (m.1, tt)) (apart_push es i h.3 n),
    )

-- a node was unlinked
pub unlinked : (k : ℕ) (u v w : Nodes) (ends ends1 ends2 : Ends) (l : Link) (i : ℕ) (xs ys : List ℕ) → InBlock (vec_ptr u) → l ≡ link k u i → IsChain k u ends (xs ++ i ∷ ys)
    → AfterSet k u ends l.next l.prev v ends1 → BeforeSet k v ends1 l.prev l.next w ends2
    → IsChain k w ends2 (xs ++ ys) × ChangedWithin k (xs ++ ys) u w
unlinked k u v w ends ends1 ends2 l i xs ys t e h s s2 =
    let ref = place_of u in
    let sl = left ref (link k u) None xs (i ∷ ys) None h.1 in
    let sr = right ref (link k u) None xs (i ∷ ys) None h.1 in
    let lp : l.prev ≡ last_or ref None xs = ap (λ (x : Link). x.prev) (e ∙ sr.0) in
    let ln : l.next ≡ first_or ref ys None = ap (λ (x : Link). x.next) (e ∙ sr.0) in
    let apart = apart_without xs i ys h.3 in
    let cross = apart_cross xs ys apart in
    let a = after_set k u v ends ends1 l.next l.prev xs (Some (ref i)) t lp (apart_left xs (i ∷ ys) h.3) s sl (ap (λ (x : Ends). x.first) h.0 ∙ first_or-append ref xs (i ∷ ys) None) in
    let back : place_of v ≡ ref = same_places u v a.3.0 in
    let ysk = kept ref (link k u) (link k v) (Some (ref i)) ys None (all_more (λ j. Avoids j xs) (λ j. link k v j ≡ link k u j) a.3.2 ys (swapped xs ys cross)) sr.1 in
    let b = before_set k v w ends1 ends2 l.prev l.next ys (Some (ref i)) (subst InBlock (sym a.3.0) t) (ln ∙ ap (λ (r : ℕ → NodePtr). first_or r ys None) (sym back)) (apart_right xs ys apart) s2
    (subst (λ (r : ℕ → NodePtr). IsSegment r (link k v) (Some (ref i)) ys None) (sym back) ysk)
    (a.2 ∙ ap (λ (x : Ends). x.last) h.0 ∙ last_or-append ref None xs (i ∷ ys) ∙ ap (λ (r : ℕ → NodePtr). last_or r (Some (ref i)) ys) (sym back)) in
    let xsk = subst (IsSegment ref (link k w) None xs) ln (kept ref (link k v) (link k w) None xs l.next (all_more (λ j. Avoids j ys) (λ j. link k w j ≡ link k v j) b.3.2 xs cross) a.0) in
    let ysw = subst (λ (p : Option NodePtr). IsSegment ref (link k w) p ys None) lp (subst (λ (r : ℕ → NodePtr). IsSegment r (link k w) l.prev ys None) back b.0) in
    let first = b.2 ∙ a.1 ∙ ap (first_or ref xs) ln ∙ sym (first_or-append ref xs ys None) in
    let last = b.1 ∙ ap (λ (r : ℕ → NodePtr). last_or r l.prev ys) back ∙ ap (λ (p : Option NodePtr). last_or ref p ys) lp ∙ sym (last_or-append ref None xs ys) in
    let changed = changed_then k (xs ++ ys) u v w (changed_more k xs (xs ++ ys) u v (λ j n. all_left (λ x. x ≢ j) xs ys n) a.3) (changed_more k ys (xs ++ ys) v w (λ j n. all_right (λ x. x ≢ j) xs ys n) b.3) in
    let below = all_both (λ j. j < vec_len u) xs ys (all_left (λ j. j < vec_len u) xs (i ∷ ys) h.2) (all_right (λ j. j < vec_len u) xs (i ∷ ys) h.2).1 in
    (at_places k u w ends2 (xs ++ ys) changed.0 changed.1 (λ z. record { first = first z; last = last z }) (joined ref (link k w) None xs ys None xsk ysw) below apart, changed)

-- a read changed nothing
pub changed_read : (k : ℕ) (v w : Nodes) → (vec_ptr w ≡ vec_ptr v) × (vec_len w ≡ vec_len v) × (w.items ≡ v.items) → ChangedWithin k [] v w
changed_read k v w s =
    let same : (i : ℕ) → node w i ≡ node v i = λ i. ap (λ (ns : List Node). slice_index_or ns i blank) s.2 in (
      s.0,
      s.1,
      λ i n. ap (λ (x : Node). slice_index_or x.links k no_link) (same i),
      λ h i n. ap (λ (x : Node). slice_index_or x.links h no_link) (same i),
      λ i. (ap (λ (x : Node). x.id) (same i), ap (λ (x : Node). x.member) (same i), ap (λ (x : Node). x.object) (same i), ap (λ (x : Node). x.stacked) (same i)),
      λ i n. same i,
    )

pub chain_read : (k : ℕ) (v w : Nodes) (ends : Ends) (es : List ℕ) → (vec_ptr w ≡ vec_ptr v) × (vec_len w ≡ vec_len v) × (w.items ≡ v.items) → IsChain k v ends es → IsChain k w ends es
chain_read k v w ends es s h = chain_kept k [] v w ends es (changed_read k v w s) (all_empty es) h

pub after_places : (k : ℕ) (v w : Nodes) (e e' : Ends) (to p : Option NodePtr) → AfterSet k v e to p w e' → (vec_ptr w ≡ vec_ptr v) × (vec_len w ≡ vec_len v)
after_places k v w e e' to None s = (ap (λ (x : Nodes). vec_ptr x) s.0, ap (λ (x : Nodes). vec_len x) s.0)
after_places k v w e e' to (Some p) s = (s.0.0, s.0.1)

pub node_moved : (v w : Nodes) (p : NodePtr) → vec_ptr w ≡ vec_ptr v → vec_len w ≡ vec_len v → IsNode v p → IsNode w p
node_moved v w p e l h =
    let at : Ptr → ℕ = λ b. (count_of p.ptr - count_of b) / 80 in (
      subst (λ (b : Ptr). let q : NodePtr = record { ptr = b +ₚ at b * 80 } in p ≡ q) (sym e) h.0,
      subst (λ (n : ℕ). index_of w p < n) (sym l) (subst (λ (b : Ptr). at b < vec_len v) (sym e) h.1),
    )

pub moved : (v w : Nodes) (p : Option NodePtr) → vec_ptr w ≡ vec_ptr v → vec_len w ≡ vec_len v → IsNodeIfSome v p → IsNodeIfSome w p
moved v w None e l h = tt
moved v w (Some p) e l h = node_moved v w p e l h

-- the neighbours of a node of an order are nodes
pub neighbours : (k : ℕ) (v : Nodes) (ends : Ends) (l : Link) (i : ℕ) (xs ys : List ℕ) → InBlock (vec_ptr v) → l ≡ link k v i → IsChain k v ends (xs ++ i ∷ ys) → IsNodeIfSome v l.prev × IsNodeIfSome v l.next
neighbours k v ends l i xs ys t e h =
    let P = λ (j : ℕ). j < vec_len v in
    let here = right (place_of v) (link k v) None xs (i ∷ ys) None h.1 in (
      subst (IsNodeIfSome v) (sym (ap (λ (x : Link). x.prev) (e ∙ here.0))) (last_node v t xs (all_left P xs (i ∷ ys) h.2)),
      subst (IsNodeIfSome v) (sym (ap (λ (x : Link). x.next) (e ∙ here.0))) (first_node v t ys (all_right P xs (i ∷ ys) h.2).1),
    )
