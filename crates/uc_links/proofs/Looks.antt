-- What is read from a pool, which a read leaves as it is; and a node that leaves it.
use Rattle.std.proofs.Common.{T, ◌||◌, eqb→eq, ◌≡◌, ◌≢◌, ℕ, zero, suc, ◌<◌, ◌==◌, List, [], ◌∷◌, ◌++◌, map, Bool, true, false, not, cond, Option, Some, None, refl, sym, ap, ◌∙◌, subst, inl, inr, slice_index_or, slice_set, length}
use Rattle.std.proofs.lemmas.Bool.{cases_lt}
use Rattle.std.proofs.lemmas.List.{map-append, get_or_past}
use Rattle.std.proofs.lemmas.List.Elements.{filter-append}
use Rattle.std.specs.List.{AllByRecursion, list_any}
use Rattle.std.specs.Vec.{vec_len, vec_ptr}
use denote.RawPtr.{InBlock}
use Rattle.uc_links.specs.declared.chain.NodePtr.{NodePtr}
use Rattle.uc_links.specs.declared.chain.Node.{Node}
use Rattle.uc_links.specs.Chain.{Nodes, node, blank, no_link, link, index_of, place_of, IsNode, Avoids}
use Rattle.uc_links.specs.Held.{AllEnds, IsHeld, IsOf, Changed, follow, entries_of, stack_of}
use Rattle.uc_links.specs.Lists.{Lists, Pool, no_lists, lists_at, IsEntry, without, unlinked, first_of}
use Rattle.uc_links.specs.View.{Objects, no_object, object_at, entry, lists_of, pool_of, Holds}
use Rattle.uc_links.proofs.Segments.{all_left, all_right, all_both, all_more}
use Rattle.uc_links.proofs.Chains.{index_place, index_same, is_node, node_moved, flip, apart_cross, apart_right}
use Rattle.uc_links.proofs.Entered.{same_test, test_same, other_test}
use Rattle.uc_links.proofs.Filters.{all_every, differ}
use Rattle.uc_links.proofs.Pools.{found, held_kept, get_map, map_same, both, any_held, any_lists}

abbrev pub Same : Nodes → Nodes → Type 0
Same v u = (vec_ptr u ≡ vec_ptr v) × (vec_len u ≡ vec_len v) × (u.items ≡ v.items)

module _ (v u : Nodes) (s : Same v u) where
  pub nodes : (i : ℕ) → node u i ≡ node v i
  nodes i = ap (λ (ns : List Node). slice_index_or ns i blank) s.2

  follows : (n : ℕ) (p : Option NodePtr) → follow n u p ≡ follow n v p
  follows zero p = refl
  follows (suc n) None = refl
  follows (suc n) (Some p) =
      let e = index_same v u p s.0 in
      let on = ap (λ (j : ℕ). follow n u (link 0 u j).next) e ∙ ap (λ (x : Node). follow n u (slice_index_or x.links 0 no_link).next) (nodes (index_of v p)) ∙ follows n (link 0 v (index_of v p)).next in
      λ z. e z ∷ on z

  walks : (p : Option NodePtr) → follow (vec_len u) u p ≡ follow (vec_len v) v p
  walks p = ap (λ (n : ℕ). follow n u p) s.1 ∙ follows (vec_len v) p

  entries_same : (es : List ℕ) → map (entry u) es ≡ map (entry v) es
  entries_same es = map_same v u es (all_every (λ i. (node u i).member ≡ (node v i).member) (λ i. ap (λ (x : Node). x.member) (nodes i)) es)

  lists_same : (ob : AllEnds) → lists_of u ob ≡ lists_of v ob
  lists_same ob =
      let es = ap (map (entry u)) (walks ob.entries.first) ∙ entries_same (entries_of v ob) in let st = walks ob.top in
      λ z. record { entries = es z; stack = st z }

  pub pool_same : (obs : Objects) → pool_of u obs ≡ pool_of v obs
  pool_same obs = λ z. record { count = s.1 z; lists = map (λ ob. lists_same ob z) obs }

  pub holds_same : (obs : Objects) → Holds v obs → Holds u obs
  holds_same obs h = (
    subst InBlock (sym s.0) h.0,
    λ i l. ap (λ (x : Node). x.id) (nodes i) ∙ h.1 i (subst (λ (n : ℕ). i < n) s.1 l),
    λ o l.
        let ob = object_at obs o in
        let kept = held_kept v u o ob (entries_of v ob) (stack_of v ob) s.0 s.1 (all_every (λ i. node u i ≡ node v i) nodes (entries_of v ob)) (all_every (λ i. node u i ≡ node v i) nodes (stack_of v ob)) (h.2 o l) in
        subst (λ (x : List ℕ × List ℕ). IsHeld u o ob x.0 x.1) (λ z. (sym (walks ob.entries.first) z, sym (walks ob.top) z)) kept,
  )

-- ---- the first entry
abbrev pub Front : Nodes → List ℕ → NodePtr → Type 0
Front v es p = (i : ℕ) × (is : List ℕ) × (es ≡ i ∷ is) × (p ≡ place_of v i) × (i < vec_len v)

pub some_is : (p q : NodePtr) → (let a : Option NodePtr = Some p in a ≡ Some q) → p ≡ q
some_is p q e = cc

front_from : (v : Nodes) (o : ℕ) (ob : AllEnds) (p : NodePtr) (es st : List ℕ) → IsHeld v o ob es st → ob.entries.first ≡ Some p → Front v es p
front_from v o ob p [] st h e = let wrong : None ≡ Some p = sym (ap (λ x. x.first) h.0.0) ∙ e in absurd cc
front_from v o ob p (i ∷ is) st h e = (i, is, refl, some_is p (place_of v i) (sym e ∙ ap (λ x. x.first) h.0.0), h.0.2.0)

pub front_some : (v : Nodes) (obs : Objects) (o : ℕ) (r : Option NodePtr) (p : NodePtr) → Holds v obs → r ≡ (object_at obs o).entries.first → r ≡ Some p → Front v (entries_of v (object_at obs o)) p
front_some v obs o r p h er e = front_from v o (object_at obs o) p (entries_of v (object_at obs o)) (stack_of v (object_at obs o)) (any_held v obs h o) (sym er ∙ e)

pub front_node : (v : Nodes) (obs : Objects) (es : List ℕ) (p : NodePtr) → Holds v obs → Front v es p → IsNode v p
front_node v obs es p h f = subst (IsNode v) (sym f.3) (is_node v h.0 f.0 f.4)

pub front_is : (v : Nodes) (obs : Objects) (o : ℕ) (p : NodePtr) (r : ℕ × ℕ) → Holds v obs → Front v (entries_of v (object_at obs o)) p
    → (let n = node v (index_of v p) in (r.0 ≡ n.id) × (r.1 ≡ n.member)) → Some r ≡ first_of (lists_at (pool_of v obs) o).entries
front_is v obs o p r h f e =
    let i = f.0 in
    let at_i : index_of v p ≡ i = ap (index_of v) f.3 ∙ index_place v h.0 i in
    let id = e.0 ∙ ap (λ (j : ℕ). (node v j).id) at_i ∙ h.1 i f.4 in let m = e.1 ∙ ap (λ (j : ℕ). (node v j).member) at_i in
    (λ z. Some (id z, m z)) ∙ ap (λ (es : List ℕ). first_of (map (entry v) es)) (sym f.2) ∙ ap (λ (x : Lists). first_of x.entries) (sym (any_lists v obs o))

none_from : (v : Nodes) (o : ℕ) (ob : AllEnds) (es st : List ℕ) → IsHeld v o ob es st → ob.entries.first ≡ None → None ≡ first_of (map (entry v) es)
none_from v o ob [] st h e = refl
none_from v o ob (i ∷ is) st h e = let wrong : None ≡ Some (place_of v i) = sym e ∙ ap (λ x. x.first) h.0.0 in absurd cc

pub front_none : (v : Nodes) (obs : Objects) (o : ℕ) (r : Option NodePtr) → Holds v obs → r ≡ (object_at obs o).entries.first → r ≡ None → None ≡ first_of (lists_at (pool_of v obs) o).entries
front_none v obs o r h er e =
    none_from v o (object_at obs o) (entries_of v (object_at obs o)) (stack_of v (object_at obs o)) (any_held v obs h o) (sym er ∙ e) ∙ ap (λ (x : Lists). first_of x.entries) (sym (any_lists v obs o))

-- ---- an entry that leaves
-- where an entry stands
abbrev pub IsEntryAt : ℕ → List (ℕ × ℕ) → Type 0
IsEntryAt id es = (before : List (ℕ × ℕ)) × (m : ℕ) × (after : List (ℕ × ℕ)) × (es ≡ before ++ (id, m) ∷ after)

-- only a known object has entries
pub entry_known : (id : ℕ) (p : Pool) (o : ℕ) → IsEntry id (lists_at p o).entries → o < length p.lists
entry_known id p o h = elim (cases_lt o (length p.lists)) [
  | inl l ↦ l
  | inr g ↦ let wrong : IsEntry id [] = subst (λ (x : Lists). IsEntry id x.entries) (get_or_past p.lists o no_lists g) h in absurd cc
]

tail_of : List (ℕ × ℕ) → List (ℕ × ℕ)
tail_of [] = []
tail_of (x ∷ xs) = xs

head_of : ℕ → List (ℕ × ℕ) → ℕ
head_of d [] = d
head_of d (x ∷ xs) = x.0

pub cut_map : (v : Nodes) (id m : ℕ) (es : List ℕ) (bs cs : List (ℕ × ℕ)) → map (entry v) es ≡ bs ++ (id, m) ∷ cs → (xs : List ℕ) × (ys : List ℕ) × (es ≡ xs ++ id ∷ ys)
unfolding tail_of head_of
cut_map v id m [] [] cs e = absurd cc
cut_map v id m [] (b ∷ bs) cs e = absurd cc
cut_map v id m (x ∷ es) [] cs e = let same : x ≡ id = ap (head_of 0) e in ([], es, ap (λ (y : ℕ). y ∷ es) same)
cut_map v id m (x ∷ es) (b ∷ bs) cs e = let on = cut_map v id m es bs cs (ap tail_of e) in (x ∷ on.0, on.1, ap (λ (l : List ℕ). x ∷ l) on.2)

keep_all : (v : Nodes) (id : ℕ) (zs : List ℕ) → Avoids id zs → without id (map (entry v) zs) ≡ map (entry v) zs
keep_all v id [] h = refl
keep_all v id (x ∷ xs) h = let t = other_test (x == id) (λ e. h.0 (test_same x id e)) in λ z. cond (not (t z)) (entry v x ∷ keep_all v id xs h.1 z) (keep_all v id xs h.1 z)

drop_one : (v : Nodes) (id : ℕ) (xs ys : List ℕ) → Avoids id xs → Avoids id ys → without id (map (entry v) (xs ++ id ∷ ys)) ≡ map (entry v) (xs ++ ys)
drop_one v id xs ys a b =
    ap (without id) (map-append (entry v) xs (id ∷ ys)) ∙ filter-append (λ e. not (e.0 == id)) (map (entry v) xs) (map (entry v) (id ∷ ys))
    ∙ (λ z. keep_all v id xs a z ++ cond (not (same_test id id refl z)) (entry v id ∷ without id (map (entry v) ys)) (without id (map (entry v) ys)))
    ∙ ap (λ (l : List (ℕ × ℕ)). map (entry v) xs ++ l) (keep_all v id ys b) ∙ sym (map-append (entry v) xs ys)

module _ (v w : Nodes) (obs : Objects) (o id : ℕ) (ob' : AllEnds) (hold : Holds v obs) (lo : o < length obs) (xs ys : List ℕ) (cut : entries_of v (object_at obs o) ≡ xs ++ id ∷ ys)
    (left : (st : List ℕ) → IsHeld v o (object_at obs o) (xs ++ id ∷ ys) st → IsHeld w o ob' (xs ++ ys) st × Changed id (xs ++ ys) v w) where
  abbrev S0 : List ℕ
  S0 = stack_of v (object_at obs o)

  pub before : IsHeld v o (object_at obs o) (xs ++ id ∷ ys) S0
  before = subst (λ (l : List ℕ). IsHeld v o (object_at obs o) l S0) cut (hold.2 o lo)

  apart : (b : Bool) (p : ℕ) (is : List ℕ) → p ≢ o → AllByRecursion (IsOf v p b) is → AllByRecursion (λ i. (i ≢ id) × Avoids i (xs ++ ys)) is
  apart b p is n h =
      all_more (λ i. Avoids i (xs ++ id ∷ ys)) (λ i. (i ≢ id) × Avoids i (xs ++ ys)) (λ i a.
      let r = all_right (λ j. j ≢ i) xs (id ∷ ys) a in (flip id i r.0, all_both (λ j. j ≢ i) xs ys (all_left (λ j. j ≢ i) xs (id ∷ ys) a) r.1)) is
      (differ (IsOf v o false) (IsOf v p b) (λ i x y. n (sym y.0 ∙ x.0)) (xs ++ id ∷ ys) is before.2 h)

  pub unlink_both : Holds w (slice_set obs o ob') × (pool_of w (slice_set obs o ob') ≡ unlinked (pool_of v obs) o id)
  unlink_both =
      let g = left S0 before in let here = g.0 in let change = g.1 in
      let ax = all_more (λ j. Avoids j (id ∷ ys)) (λ j. j ≢ id) (λ j a. flip id j a.0) xs (apart_cross xs (id ∷ ys) before.0.3) in
      let ay = (apart_right xs (id ∷ ys) before.0.3).0 in
      let f = found w o ob' (xs ++ ys) S0 (subst InBlock (sym change.0) hold.0) here in
      let labels = map_same v w (xs ++ ys) (all_more (λ i. i ≢ id) (λ i. (node w i).member ≡ (node v i).member) change.3 (xs ++ ys) (all_both (λ i. i ≢ id) xs ys ax ay)) in
      let at_object = get_map (lists_of v) obs o no_object no_lists lo in
      let es = ap (map (entry w)) f.0 ∙ labels ∙ sym (drop_one v id xs ys ax ay) ∙ ap (λ (l : List ℕ). without id (map (entry v) l)) (sym cut) ∙ ap (λ (x : Lists). without id x.entries) (sym at_object) in
      let st = f.1 ∙ ap (λ (x : Lists). x.stack) (sym at_object) in
      both v w obs o id ob' (xs ++ ys) S0 (xs ++ ys) _ hold lo here change (λ z. record { entries = es z; stack = st z })
      (λ p l n. apart false p (entries_of v (object_at obs p)) n (hold.2 p l).2) (λ p l n. apart true p (stack_of v (object_at obs p)) n (hold.2 p l).5)

-- ---- what `Links::unlink` asks for and gives: v as it begins, v0 at the pointer, u after the label was read
module _ (v v0 u : Nodes) (obs : Objects) (o id : ℕ) (b : AllEnds) (p : NodePtr) (hold : Holds v obs) (lo : o < length obs) (is_in : IsEntryAt id (lists_at (pool_of v obs) o).entries)
    (ep : p ≡ place_of v id) (e0 : v0 ≡ v) (same : Same v0 u) (same_b : b ≡ object_at obs o) where
  cut : (xs : List ℕ) × (ys : List ℕ) × (entries_of v (object_at obs o) ≡ xs ++ id ∷ ys)
  cut = cut_map v id is_in.1 (entries_of v (object_at obs o)) is_in.0 is_in.2 (ap (λ (x : Lists). x.entries) (sym (get_map (lists_of v) obs o no_object no_lists lo)) ∙ is_in.3)

  abbrev S1 : List ℕ
  S1 = stack_of v (object_at obs o)

  held_v : IsHeld v o (object_at obs o) (cut.0 ++ id ∷ cut.1) S1
  held_v = subst (λ (l : List ℕ). IsHeld v o (object_at obs o) l S1) cut.2 (hold.2 o lo)

  pub below : id < vec_len v
  below = (all_right (λ j. j < vec_len v) cut.0 (id ∷ cut.1) held_v.0.2).0

  pub is_node_v0 : IsNode v0 p
  is_node_v0 = subst (λ (x : Nodes). IsNode x p) (sym e0) (subst (IsNode v) (sym ep) (is_node v hold.0 id below))

  same_v : Same v u
  same_v = subst (λ (x : Nodes). Same x u) e0 same

  hold_u : Holds u obs
  hold_u = holds_same v u same_v obs hold

  index_u : index_of u p ≡ id
  index_u = index_same v u p same_v.0 ∙ ap (index_of v) ep ∙ index_place v hold.0 id

  cut_u : entries_of u (object_at obs o) ≡ cut.0 ++ id ∷ cut.1
  cut_u = walks v u same_v (object_at obs o).entries.first ∙ cut.2

  held_u : IsHeld u o (object_at obs o) (cut.0 ++ id ∷ cut.1) (stack_of u (object_at obs o))
  held_u = subst (λ (l : List ℕ). IsHeld u o (object_at obs o) l (stack_of u (object_at obs o))) cut_u (hold_u.2 o lo)

  pub node_asked : (r : ℕ × ℕ) → (let n = node v0 (index_of v0 p) in (r.0 ≡ n.id) × (r.1 ≡ n.member)) → InBlock (vec_ptr u) × IsNode u p × (r.1 < 32) × ((node u (index_of u p)).member ≡ r.1)
  node_asked r er =
      let m : (node u (index_of u p)).member ≡ r.1 = ap (λ (j : ℕ). (node u j).member) (index_same v0 u p same.0) ∙ ap (λ (x : Node). x.member) (nodes v0 u same (index_of v0 p)) ∙ sym er.1 in
      let of_id = (all_right (IsOf u o false) cut.0 (id ∷ cut.1) held_u.2).0 in
      (hold_u.0, node_moved v0 u p same.0 same.1 is_node_v0, subst (λ (x : ℕ). x < 32) (ap (λ (j : ℕ). (node u j).member) (sym index_u) ∙ m) of_id.2, m)

  pub held_asked : (q : ℕ) × (xs : List ℕ) × (ys : List ℕ) × (st : List ℕ) × IsHeld u q b (xs ++ index_of u p ∷ ys) st
  held_asked = (
    o,
    cut.0,
    cut.1,
    stack_of u (object_at obs o),
    subst (λ (x : AllEnds). IsHeld u o x (cut.0 ++ index_of u p ∷ cut.1) (stack_of u (object_at obs o))) (sym same_b)
        (subst (λ (j : ℕ). IsHeld u o (object_at obs o) (cut.0 ++ j ∷ cut.1) (stack_of u (object_at obs o))) (sym index_u) held_u),
  )

  abbrev pub Leaves : AllEnds → Nodes → AllEnds → ℕ → Type 0
  Leaves x w b' i = (q : ℕ) (xs ys st : List ℕ) → IsHeld u q x (xs ++ i ∷ ys) st → IsHeld w q b' (xs ++ ys) st × Changed i (xs ++ ys) u w

  pub unlink_gives : (w : Nodes) (b' : AllEnds) → Leaves b w b' (index_of u p) → Holds w (slice_set obs o b') × (pool_of w (slice_set obs o b') ≡ unlinked (pool_of v obs) o id)
  unlink_gives w b' e =
      let e' = subst (λ (x : AllEnds). Leaves x w b' id) same_b (subst (Leaves b w b') index_u e) in
      let g = unlink_both u w obs o id b' hold_u lo cut.0 cut.1 cut_u (λ st h. e' o cut.0 cut.1 st h) in
      (g.0, g.1 ∙ ap (λ (q : Pool). unlinked q o id) (pool_same v u same_v obs))

pub entry_below : (v : Nodes) (obs : Objects) (o id : ℕ) → Holds v obs → o < length obs → IsEntryAt id (lists_at (pool_of v obs) o).entries → id < vec_len v
entry_below v obs o id hold lo is_in =
    let c = cut_map v id is_in.1 (entries_of v (object_at obs o)) is_in.0 is_in.2 (ap (λ (x : Lists). x.entries) (sym (get_map (lists_of v) obs o no_object no_lists lo)) ∙ is_in.3) in
    (all_right (λ j. j < vec_len v) c.0 (id ∷ c.1) (subst (AllByRecursion (λ j. j < vec_len v)) c.2 (hold.2 o lo).0.2)).0

pub entry_node : (v v0 : Nodes) (obs : Objects) (o id : ℕ) (p : NodePtr) → Holds v obs → o < length obs → IsEntryAt id (lists_at (pool_of v obs) o).entries → p ≡ place_of v id → v0 ≡ v → IsNode v0 p
entry_node v v0 obs o id p hold lo is_in ep e0 = subst (λ (x : Nodes). IsNode x p) (sym e0) (subst (IsNode v) (sym ep) (is_node v hold.0 id (entry_below v obs o id hold lo is_in)))

any_case : (b : Bool) (id x m : ℕ) (es : List (ℕ × ℕ)) → ((x == id) ≡ b) → (T b → IsEntryAt id ((x, m) ∷ es)) → ((list_any (λ e. e.0 == id) es ≡ true) → IsEntryAt id ((x, m) ∷ es)) → (b || list_any (λ e. e.0 == id) es) ≡ true → IsEntryAt id ((x, m) ∷ es)
any_case true id x m es e f g h = f tt
any_case false id x m es e f g h = g h

pub entry_at : (id : ℕ) (es : List (ℕ × ℕ)) → IsEntry id es → IsEntryAt id es
entry_at id [] h = absurd cc
entry_at id (x ∷ es) h =
    any_case (x.0 == id) id x.0 x.1 es refl (λ t. ([], x.1, es, ap (λ (y : ℕ). let e : List (ℕ × ℕ) = (y, x.1) ∷ es in e) (eqb→eq x.0 id t)))
    (λ t. let on = entry_at id es t in (x ∷ on.0, on.1, on.2, ap (λ (l : List (ℕ × ℕ)). x ∷ l) on.3)) h
