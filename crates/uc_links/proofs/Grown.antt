-- A node is added behind the others, and an object behind the others.
use Rattle.std.proofs.Common.{◌≡◌, ℕ, ◌<◌, ◌≤◌, ◌+◌, ◌==◌, List, [], ◌∷◌, ◌++◌, map, Bool, true, false, Option, None, sym, ap, ◌∙◌, subst, ◌⊎◌, inl, inr, arith, slice_index_or, length, ext_get_or}
use Rattle.std.proofs.lemmas.Bool.{cases_eq, cases_lt}
use Rattle.std.proofs.lemmas.List.{length-map, map-append, length_push, get_or_append_left, get_or_at, get_or_past}
use Rattle.std.specs.List.{AllByRecursion}
use Rattle.std.specs.Vec.{vec_len, vec_ptr}
use denote.RawPtr.{InBlock}
use Rattle.uc_links.specs.declared.chain.Ends.{Ends}
use Rattle.uc_links.specs.declared.chain.NodePtr.{NodePtr}
use Rattle.uc_links.specs.declared.chain.Node.{Node}
use Rattle.uc_links.specs.declared.object.Object.{Object}
use Rattle.uc_links.specs.declared.rows.Row.{Row}
use Rattle.uc_links.specs.Chain.{Nodes, node, blank, link, no_link, place_of, first_or, last_or, IsSegment, IsApart, IsChain}
use Rattle.uc_links.specs.Held.{AllEnds, IsHeld, IsOf, peers, ends_of, entries_of, stack_of}
use Rattle.uc_links.specs.Lists.{Pool, no_lists, with_node, with_object}
use Rattle.uc_links.specs.Rows.{bare, bare_at, whole, wholes, IsNeeded}
use Rattle.uc_links.specs.View.{Objects, no_object, object_at, entry, lists_of, pool_of, Holds, IsPool}
use Rattle.uc_links.proofs.Segments.{all_more, kept}
use Rattle.uc_links.proofs.Chains.{same_places}
use Rattle.uc_links.proofs.Entered.{stack_links}
use Rattle.uc_links.proofs.Filters.{all_and, filter_same}
use Rattle.uc_links.proofs.Pools.{found, get_map, map_same, added}
use Rattle.uc_links.proofs.Claims.{Becomes, same_rows}

module _ (v w : Nodes) (new : Node) (ptr : vec_ptr w ≡ vec_ptr v) (len : vec_len w ≡ vec_len v + 1) (items : w.items ≡ v.items ++ new ∷ []) where
  abbrev Below : ℕ → Type 0
  Below i = i < vec_len v

  node_same : (i : ℕ) → Below i → node w i ≡ node v i
  node_same i l = ap (λ (ns : List Node). slice_index_or ns i blank) items ∙ get_or_append_left v.items (new ∷ []) blank i (subst (λ (n : ℕ). i < n) v.ok.0 l)

  node_new : node w (vec_len v) ≡ new
  node_new = ap (λ (ns : List Node). slice_index_or ns (vec_len v) blank) items ∙ get_or_at v.items new [] blank (vec_len v) (sym v.ok.0)

  below_more : (i : ℕ) → Below i → i < vec_len w
  below_more i l = omega (arith, l, len)

  chain_grown : (k : ℕ) (ends : Ends) (es : List ℕ) → IsChain k v ends es → IsChain k w ends es
  chain_grown k ends es h =
      subst (λ (ref : ℕ → NodePtr). let e : Ends = record { first = first_or ref es None; last = last_or ref None es } in (ends ≡ e) × IsSegment ref (link k w) None es None × AllByRecursion (λ i. i < vec_len w) es × IsApart es) (sym (same_places v w ptr)) (
        h.0,
        kept (place_of v) (link k v) (link k w) None es None (all_more Below (λ i. link k w i ≡ link k v i) (λ i l. ap (λ (x : Node). slice_index_or x.links k no_link) (node_same i l)) es h.2) h.1,
        all_more Below (λ i. i < vec_len w) below_more es h.2,
        h.3,
      )

  held_grown : (o : ℕ) (ob : AllEnds) (es st : List ℕ) → IsHeld v o ob es st → IsHeld w o ob es st
  held_grown o ob es st h =
      let of : (b : Bool) (i : ℕ) → Below i → IsOf v o b i → IsOf w o b i = λ b i l. subst (λ (x : Node). (x.object ≡ o) × (x.stacked ≡ b) × (x.member < 32)) (sym (node_same i l)) in (
        chain_grown 0 ob.entries es h.0,
        λ m lm. subst (IsChain 1 w (ends_of ob m)) (sym (filter_same (λ i. (node w i).member == m) (λ i. (node v i).member == m) es (all_more Below (λ i. ((node w i).member == m) ≡ ((node v i).member == m)) (λ i l. ap (λ (x : Node). x.member == m) (node_same i l)) es h.0.2)))
            (chain_grown 1 (ends_of ob m) (peers v m es) (h.1 m lm)),
        all_and Below (IsOf v o false) (IsOf w o false) (of false) es h.0.2 h.2,
        h.3 ∙ ap (λ (r : ℕ → NodePtr). first_or r st None) (sym (same_places v w ptr)),
        stack_links v w st ptr (all_more Below (λ i. link 0 w i ≡ link 0 v i) (λ i l. ap (λ (x : Node). slice_index_or x.links 0 no_link) (node_same i l)) st h.6) h.4,
        all_and Below (IsOf v o true) (IsOf w o true) (of true) st h.6 h.5,
        all_more Below (λ i. i < vec_len w) below_more st h.6,
        h.7,
        h.8,
      )

  module _ (obs : Objects) (hold : Holds v obs) where
    block : InBlock (vec_ptr w)
    block = subst InBlock (sym ptr) hold.0

    grown : (o : ℕ) → o < length obs → IsHeld w o (object_at obs o) (entries_of v (object_at obs o)) (stack_of v (object_at obs o))
    grown o l = held_grown o (object_at obs o) (entries_of v (object_at obs o)) (stack_of v (object_at obs o)) (hold.2 o l)

    pub holds_grown : new.id ≡ vec_len v → Holds w obs
    holds_grown id = (
      block,
      λ i l. elim (cases_lt i (vec_len v)) [
        | inl b ↦ ap (λ (x : Node). x.id) (node_same i b) ∙ hold.1 i b
        | inr g ↦ let at : i ≡ vec_len v = omega (arith, l, len, g) in ap (λ (x : ℕ). (node w x).id) at ∙ ap (λ (x : Node). x.id) node_new ∙ id ∙ sym at
      ],
      λ o l.
          let ob = object_at obs o in
          let f = found w o ob (entries_of v ob) (stack_of v ob) block (grown o l) in
          subst (λ (x : List ℕ × List ℕ). IsHeld w o ob x.0 x.1) (λ z. (sym f.0 z, sym f.1 z)) (grown o l),
    )

    lists_same : (o : ℕ) → o < length obs → lists_of w (object_at obs o) ≡ lists_of v (object_at obs o)
    lists_same o l =
        let ob = object_at obs o in let es = entries_of v ob in let h = grown o l in
        let f = found w o ob es (stack_of v ob) block h in
        let labels = map_same v w es (all_more Below (λ i. (node w i).member ≡ (node v i).member) (λ i b. ap (λ (x : Node). x.member) (node_same i b)) es (hold.2 o l).0.2) in
        let all = ap (map (entry w)) f.0 ∙ labels in
        λ z. record { entries = all z; stack = f.1 z }

    pub pool_grown : pool_of w obs ≡ with_node (pool_of v obs)
    pool_grown =
        let lists = ext_get_or no_lists (map (lists_of w) obs) (map (lists_of v) obs) (length-map obs (lists_of w) ∙ sym (length-map obs (lists_of v))) (λ o l.
        let lo : o < length obs = subst (λ (n : ℕ). o < n) (length-map obs (lists_of w)) l in
        get_map (lists_of w) obs o no_object no_lists lo ∙ lists_same o lo ∙ sym (get_map (lists_of v) obs o no_object no_lists lo)) in
        λ z. record { count = len z; lists = lists z }

-- what `add_node` leaves
pub node_added : (v w : Nodes) (new : Node) (cap cap' : ℕ) (obs : List Object) (rows rows' : List Row) (free : Option ℕ) (p : Pool) → IsPool v cap obs rows free → pool_of v (wholes rows obs) ≡ p → vec_ptr w ≡ vec_ptr v → vec_len w ≡ vec_len v + 1
    → w.items ≡ v.items ++ new ∷ [] → new.id ≡ vec_len v → rows' ≡ rows → vec_len v + 1 ≤ cap' → vec_len v ≤ 4294967295 → Becomes w cap' obs rows' free (with_node p)
node_added v w new cap cap' obs rows rows' free p pool seen ptr len items id same room low =
    let are = pool.1 in let few = are.few in
    subst (λ (l : List Row). Becomes w cap' obs l free (with_node p)) (sym same) (
      (
        holds_grown v w new ptr len items (wholes rows obs) pool.0 id,
        record {
          unused = are.unused;
          leads = are.leads;
          apart = are.apart;
          used = are.used;
          has = are.has;
          once = are.once;
          few = omega (arith, few, len);
          room = omega (arith, room, len);
          numbers = omega (arith, low, len);
        },
        pool.2,
      ),
      pool_grown v w new ptr len items (wholes rows obs) pool.0 ∙ ap with_node seen,
    )

-- what `add_object` leaves
pub object_added : (v : Nodes) (cap : ℕ) (obs obs' : List Object) (rows : List Row) (free : Option ℕ) (p : Pool) → IsPool v cap obs rows free → pool_of v (wholes rows obs) ≡ p → obs' ≡ obs ++ bare ∷ [] → Becomes v cap obs' rows free (with_object p)
object_added v cap obs obs' rows free p pool seen e =
    let seen_all = ap (wholes rows) e ∙ map-append (whole rows) obs (bare ∷ []) in
    let more = added v (wholes rows obs) (wholes rows obs') seen_all pool.0 in
    let at : (o : ℕ) → bare_at obs' o ≡ bare_at obs o = λ o. ap (λ (l : List Object). bare_at l o) e ∙ one_more o (cases_lt o (length obs)) in (
      (more.0, same_rows (vec_len v) cap obs rows free pool.1 obs' (λ o. ap (λ (x : Object). x.row) (at o)), λ o. subst IsNeeded (sym (at o)) (pool.2 o)),
      more.1 ∙ ap with_object seen,
    )
  where
    one_more : (o : ℕ) → (o < length obs) ⊎ (length obs ≤ o) → bare_at (obs ++ bare ∷ []) o ≡ bare_at obs o
    one_more o (inl l) = get_or_append_left obs (bare ∷ []) bare o l
    one_more o (inr g) = elim (cases_eq o (length obs)) [
      | inl i ↦ get_or_at obs bare [] bare o (sym i) ∙ sym (get_or_past obs o bare g)
      | inr n ↦ let far : length (obs ++ bare ∷ []) ≤ o = (let c = length_push obs bare in omega (arith, c, g, n)) in get_or_past (obs ++ bare ∷ []) o bare far ∙ sym (get_or_past obs o bare g)
    ]
