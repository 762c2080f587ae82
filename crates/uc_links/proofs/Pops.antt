-- The top of a stack, and the first entry of a member.
use Rattle.std.proofs.Common.{◌≡◌, ◌≢◌, ℕ, ◌<◌, ◌≤◌, ◌==◌, List, [], ◌∷◌, Bool, true, false, cond, Option, Some, None, refl, sym, ap, ◌∙◌, subst, inl, inr, arith, slice_set, length, map}
use Rattle.std.proofs.lemmas.Bool.{cases_lt}
use Rattle.std.proofs.lemmas.List.{get_or_past}
use Rattle.std.specs.List.{AllByRecursion, find}
use Rattle.std.specs.Prelude.{option_map}
use Rattle.std.specs.Vec.{vec_len, vec_ptr}
use denote.RawPtr.{InBlock}
use Rattle.uc_links.specs.declared.chain.Link.{Link}
use Rattle.uc_links.specs.declared.chain.Ends.{Ends}
use Rattle.uc_links.specs.declared.chain.NodePtr.{NodePtr}
use Rattle.uc_links.specs.declared.chain.Node.{Node}
use Rattle.uc_links.specs.Chain.{Nodes, node, link, index_of, place_of, IsNode, first_or, Avoids, IsChain}
use Rattle.uc_links.specs.Held.{AllEnds, no_ends, IsHeld, IsOf, Changed, entries_of, stack_of, peers, ends_of}
use Rattle.uc_links.specs.Lists.{Lists, member_limit, no_lists, lists_at, first_of, first_with, rest_of, popped}
use Rattle.uc_links.specs.View.{Objects, no_object, object_at, entry, lists_of, pool_of, Holds}
use Rattle.uc_links.proofs.Segments.{all_more}
use Rattle.uc_links.proofs.Chains.{index_place, is_node}
use Rattle.uc_links.proofs.Entered.{test_same, other_test}
use Rattle.uc_links.proofs.Filters.{all_every}
use Rattle.uc_links.proofs.Pools.{found, held_kept, get_map, map_same, both, any_held, any_lists}
use Rattle.uc_links.proofs.Looks.{Same, nodes, Front, some_is}

-- ---- the first entry of a member
first_case : (b : Bool) (x m : ℕ) (r : Option (ℕ × ℕ)) (l : List ℕ) → option_map (λ e. e.0) r ≡ first_of l → option_map (λ e. e.0) (cond b (Some (x, m)) r) ≡ first_of (cond b (x ∷ l) l)
first_case true x m r l e = refl
first_case false x m r l e = e

first_peers : (v : Nodes) (m : ℕ) (es : List ℕ) → first_with m (map (entry v) es) ≡ first_of (peers v m es)
first_peers v m [] = refl
first_peers v m (x ∷ xs) = first_case ((node v x).member == m) x (node v x).member (find (λ e. e.1 == m) (map (entry v) xs)) (peers v m xs) (first_peers v m xs)

-- an order that has no member's number is empty
no_peers : (v : Nodes) (m : ℕ) (es : List ℕ) → member_limit ≤ m → AllByRecursion (λ i. (node v i).member < member_limit) es → peers v m es ≡ []
no_peers v m [] g h = refl
no_peers v m (x ∷ xs) g h =
    let low = h.0 in
    let differs = other_test ((node v x).member == m) (λ t. let e = test_same (node v x).member m t in omega (arith, e)) in
    ap (λ (b : Bool). cond b (x ∷ peers v m xs) (peers v m xs)) differs ∙ no_peers v m xs g h.1

any_chain : (v : Nodes) (o : ℕ) (ob : AllEnds) (es st : List ℕ) (m : ℕ) → IsHeld v o ob es st → IsChain 1 v (ends_of ob m) (peers v m es)
any_chain v o ob es st m h = elim (cases_lt m member_limit) [
  | inl l ↦ h.1 m l
  | inr g ↦
      let low = all_more (IsOf v o false) (λ i. (node v i).member < member_limit) (λ i p. p.2) es h.2 in
      subst (IsChain 1 v (ends_of ob m)) (sym (no_peers v m es g low)) (subst (λ (e : Ends). IsChain 1 v e []) (sym (get_or_past ob.members m no_ends (subst (λ (n : ℕ). n ≤ m) (sym h.8) g))) (refl, tt, tt, tt))
]

chain_front : (v : Nodes) (ends : Ends) (p : NodePtr) (es : List ℕ) → IsChain 1 v ends es → ends.first ≡ Some p → Front v es p
chain_front v ends p [] h e = let wrong : None ≡ Some p = sym (ap (λ x. x.first) h.0) ∙ e in absurd cc
chain_front v ends p (i ∷ is) h e = (i, is, refl, some_is p (place_of v i) (sym e ∙ ap (λ x. x.first) h.0), h.2.0)

chain_none : (v : Nodes) (ends : Ends) (es : List ℕ) → IsChain 1 v ends es → ends.first ≡ None → None ≡ first_of es
chain_none v ends [] h e = refl
chain_none v ends (i ∷ is) h e = let wrong : None ≡ Some (place_of v i) = sym e ∙ ap (λ x. x.first) h.0 in absurd cc

module _ (v : Nodes) (obs : Objects) (o m : ℕ) (r : Option NodePtr) (hold : Holds v obs) (er : r ≡ (ends_of (object_at obs o) m).first) where
  chain : IsChain 1 v (ends_of (object_at obs o) m) (peers v m (entries_of v (object_at obs o)))
  chain = any_chain v o (object_at obs o) (entries_of v (object_at obs o)) (stack_of v (object_at obs o)) m (any_held v obs hold o)

  listed : first_with m (lists_at (pool_of v obs) o).entries ≡ first_of (peers v m (entries_of v (object_at obs o)))
  listed = ap (λ (x : Lists). first_with m x.entries) (any_lists v obs o) ∙ first_peers v m (entries_of v (object_at obs o))

  pub member_node : (p : NodePtr) → r ≡ Some p → IsNode v p
  member_node p e = let f = chain_front v (ends_of (object_at obs o) m) p _ chain (sym er ∙ e) in subst (IsNode v) (sym f.3) (is_node v hold.0 f.0 f.4)

  pub member_is : (p : NodePtr) (id : ℕ) → r ≡ Some p → id ≡ (node v (index_of v p)).id → Some id ≡ first_with m (lists_at (pool_of v obs) o).entries
  member_is p id e ei =
      let f = chain_front v (ends_of (object_at obs o) m) p _ chain (sym er ∙ e) in
      let at_i = ap (index_of v) f.3 ∙ index_place v hold.0 f.0 in
      let same : id ≡ f.0 = ei ∙ ap (λ (j : ℕ). (node v j).id) at_i ∙ hold.1 f.0 f.4 in
      (λ z. Some (same z)) ∙ ap first_of (sym f.2) ∙ sym listed

  pub member_none : r ≡ None → None ≡ first_with m (lists_at (pool_of v obs) o).entries
  member_none e = chain_none v (ends_of (object_at obs o) m) _ chain (sym er ∙ e) ∙ sym listed

-- ---- the top of a stack is taken off
taken : (v : Nodes) (o : ℕ) (ob : AllEnds) (p : NodePtr) (l : Link) (es st : List ℕ) → InBlock (vec_ptr v) → IsHeld v o ob es st → ob.top ≡ Some p → l ≡ link 0 v (index_of v p)
    → IsHeld v o (record { entries = ob.entries; members = ob.members; top = l.next }) es (rest_of st)
taken v o ob p l es [] t h e el = let wrong : None ≡ Some p = sym h.3 ∙ e in absurd cc
taken v o ob p l es (i ∷ is) t h e el =
    let at_i = ap (index_of v) (some_is p (place_of v i) (sym e ∙ h.3)) ∙ index_place v t i in
    (h.0, h.1, h.2, ap (λ (x : Link). x.next) (el ∙ ap (link 0 v) at_i) ∙ h.4.0, h.4.1, h.5.1, h.6.1, h.7.1, h.8)

pub pop_gives : (v u : Nodes) (obs : Objects) (o : ℕ) (b : AllEnds) (p : NodePtr) (l : Link) → Same v u → Holds v obs → o < length obs → b ≡ object_at obs o → b.top ≡ Some p → l ≡ link 0 v (index_of v p)
    → let b' : AllEnds = record { entries = b.entries; members = b.members; top = l.next } in Holds u (slice_set obs o b') × (pool_of u (slice_set obs o b') ≡ popped (pool_of v obs) o)
pop_gives v u obs o b p l s hold lo eb e el =
    let ob = object_at obs o in let es = entries_of v ob in let st = stack_of v ob in let n = vec_len v in
    let b' : AllEnds = record { entries = b.entries; members = b.members; top = l.next } in
    let kept = λ (is : List ℕ). all_every (λ i. node u i ≡ node v i) (nodes v u s) is in
    let hb = subst (λ (x : AllEnds). IsHeld v o x es st) (sym eb) (hold.2 o lo) in
    let here = held_kept v u o b' es (rest_of st) s.0 s.1 (kept es) (kept (rest_of st)) (taken v o b p l es st hold.0 hb e el) in
    let change : Changed n [] v u = (s.0, s.1, λ i. ap (λ (x : Node). x.id) (nodes v u s i), λ i m. ap (λ (x : Node). x.member) (nodes v u s i), λ i a. nodes v u s i) in
    let f = found u o b' es (rest_of st) (subst InBlock (sym s.0) hold.0) here in
    let at_object = get_map (lists_of v) obs o no_object no_lists lo in
    let labels = map_same v u es (all_every (λ i. (node u i).member ≡ (node v i).member) (λ i. ap (λ (x : Node). x.member) (nodes v u s i)) es) in
    let entries = ap (map (entry u)) f.0 ∙ labels ∙ ap (λ (x : Lists). x.entries) (sym at_object) in
    let stack = f.1 ∙ ap (λ (x : Lists). rest_of x.stack) (sym at_object) in
    let apart = λ (is : List ℕ) (h : AllByRecursion (λ i. i < n) is). all_more (λ i. i < n) (λ i. (i ≢ n) × Avoids i []) (λ i lt. (λ ei. omega (arith, lt, ei), tt)) is h in
    both v u obs o n b' es (rest_of st) [] _ hold lo here change (λ z. record { entries = entries z; stack = stack z }) (λ q lq d. apart (entries_of v (object_at obs q)) (hold.2 q lq).0.2) (λ q lq d. apart (stack_of v (object_at obs q)) (hold.2 q lq).6)

-- the object of a top is known, and the top is its node
module _ (v : Nodes) (obs : Objects) (o : ℕ) (r : Option NodePtr) (p : NodePtr) (hold : Holds v obs) (er : r ≡ (object_at obs o).top) (e : r ≡ Some p) where
  pub top_known : o < length obs
  top_known = elim (cases_lt o (length obs)) [ inl l ↦ l | inr g ↦ let wrong : Some p ≡ None = sym e ∙ er ∙ ap (λ (b : AllEnds). b.top) (get_or_past obs o no_object g) in absurd cc ]

  top_first : Front v (stack_of v (object_at obs o)) p
  top_first = let h = any_held v obs hold o in top_from (stack_of v (object_at obs o)) h.3 h.6
    where
      top_from : (st : List ℕ) → (object_at obs o).top ≡ first_or (place_of v) st None → AllByRecursion (λ i. i < vec_len v) st → Front v st p
      top_from [] et low = let wrong : Some p ≡ None = sym e ∙ er ∙ et in absurd cc
      top_from (i ∷ is) et low = (i, is, refl, some_is p (place_of v i) (sym e ∙ er ∙ et), low.0)

  pub top_node : IsNode v p
  top_node = let f = top_first in subst (IsNode v) (sym f.3) (is_node v hold.0 f.0 f.4)

  pub top_is : (id : ℕ) → id ≡ (node v (index_of v p)).id → Some id ≡ first_of (lists_at (pool_of v obs) o).stack
  top_is id ei =
      let f = top_first in
      let at_i = ap (index_of v) f.3 ∙ index_place v hold.0 f.0 in
      let same : id ≡ f.0 = ei ∙ ap (λ (j : ℕ). (node v j).id) at_i ∙ hold.1 f.0 f.4 in
      (λ z. Some (same z)) ∙ ap first_of (sym f.2) ∙ sym (ap (λ (x : Lists). first_of x.stack) (any_lists v obs o))

  pub top_gives : (u : Nodes) (b b' : AllEnds) → Same v u → b ≡ object_at obs o → (let top : Option NodePtr = (link 0 v (index_of v p)).next in b' ≡ record b { top = top })
      → Holds u (slice_set obs o b') × (pool_of u (slice_set obs o b') ≡ popped (pool_of v obs) o)
  top_gives u b b' s eb eb' =
      let top_is_p = ap (λ (x : AllEnds). x.top) eb ∙ sym er ∙ e in
      subst (λ (x : AllEnds). Holds u (slice_set obs o x) × (pool_of u (slice_set obs o x) ≡ popped (pool_of v obs) o)) (sym eb') (pop_gives v u obs o b p (link 0 v (index_of v p)) s hold top_known eb top_is_p refl)
