-- What the calls that change a pool ask of their parts, and what they leave.
use Rattle.std.proofs.Common.{◌≡◌, ◌≢◌, ℕ, zero, suc, ◌<◌, ◌&&◌, Bool, true, false, not, List, ◌∷◌, ◌++◌, [], Option, Some, None, refl, sym, ap, ◌∙◌, subst, map, slice_index_or, slice_set, length}
use Rattle.std.specs.Prelude.{IsSome, is_some}
use Rattle.std.specs.Vec.{vec_len, vec_ptr, vec_capacity}
use denote.RawPtr.{InBlock}
use Rattle.std.proofs.lemmas.List.{get_or_default}
use Rattle.uc_links.specs.declared.chain.Ends.{Ends}
use Rattle.uc_links.specs.declared.chain.NodePtr.{NodePtr}
use Rattle.uc_links.specs.declared.object.Object.{Object}
use Rattle.uc_links.specs.declared.rows.Row.{Row}
use Rattle.uc_links.specs.declared.rows.Rows.{Rows}
use Rattle.uc_links.specs.Chain.{Nodes, node, link, index_of, place_of, first_or, IsNode}
use Rattle.uc_links.specs.Held.{AllEnds, IsHeld, Changed, follow, entries_of, stack_of}
use Rattle.uc_links.specs.Lists.{Lists, Pool, no_lists, lists_at, is_nil, has_none, rest_of, IsFree, IsEntry, pushed_back, pushed_top, popped, unlinked}
use Rattle.uc_links.specs.Rows.{no_row, members_of, bare_at, with_members, joined, whole, wholes, MayClaim, Claimed, Vacated}
use Rattle.uc_links.specs.View.{object_at, entry, pool_of, Holds, IsPool}
use Rattle.uc_links.proofs.Pools.{known, any_held, any_lists, follow_none, asks, gives, Asked, Enters, Alters}
use Rattle.uc_links.proofs.Looks.{Same, IsEntryAt, entry_known, entry_at, entry_below, entry_node, node_asked, held_asked, unlink_gives}
use Rattle.uc_links.proofs.Pops.{top_known, top_node, top_gives}
use Rattle.uc_links.proofs.Stacks.{Stacks, stack_gives}
use Rattle.uc_links.proofs.Wholes.{known_index, index_known, at_index, at_whole, entries_there, top_there}
use Rattle.uc_links.proofs.Claims.{Becomes, IsOwner, top_changed, may_claim, crowded, claimed, has_already, asked_row, seen_owned, are_owned, needed_owned, empty_list, blank_members, vacated, as_many}

set_same : (ls : List Lists) (o : ℕ) → slice_set ls o (slice_index_or ls o no_lists) ≡ ls
set_same [] o = refl
set_same (l ∷ ls) zero = refl
set_same (l ∷ ls) (suc o) = ap (λ (x : List Lists). l ∷ x) (set_same ls o)

not_not : (b : Bool) → not (not b) ≡ b
not_not true = refl
not_not false = refl

no_entries : (v : Nodes) (o : ℕ) (ob : AllEnds) (es st : List ℕ) → IsHeld v o ob es st → is_nil (map (entry v) es) ≡ not (is_some ob.entries.first)
no_entries v o ob [] st h = ap (λ (q : Option NodePtr). not (is_some q)) (sym (ap (λ (x : Ends). x.first) h.0.0))
no_entries v o ob (i ∷ is) st h = ap (λ (q : Option NodePtr). not (is_some q)) (sym (ap (λ (x : Ends). x.first) h.0.0))

no_tops : (v : Nodes) (o : ℕ) (ob : AllEnds) (es st : List ℕ) → IsHeld v o ob es st → is_nil st ≡ not (is_some ob.top)
no_tops v o ob es [] h = ap (λ (q : Option NodePtr). not (is_some q)) (sym h.3)
no_tops v o ob es (i ∷ is) h = ap (λ (q : Option NodePtr). not (is_some q)) (sym h.3)

first_some : (ref : ℕ → NodePtr) (es : List ℕ) (i : ℕ) → first_or ref (es ++ i ∷ []) None ≢ None
first_some ref [] i e = cc
first_some ref (x ∷ xs) i e = cc

-- an empty stack stays
pub nothing_popped : (p : Pool) (o : ℕ) → (lists_at p o).stack ≡ [] → p ≡ popped p o
nothing_popped p o e =
    let rest = ap rest_of e ∙ sym e in
    let same = sym (ap (λ (st : List ℕ). slice_set p.lists o (record { entries = (lists_at p o).entries; stack = st })) rest ∙ set_same p.lists o) in
    λ z. record { count = p.count; lists = same z }

module _ (v : Nodes) (obs : List Object) (rows : Rows) (p : Pool) (pool : IsPool v (vec_capacity rows.list) obs rows.list.items rows.free) (seen : pool_of v (wholes rows.list.items obs) ≡ p) (o : ℕ) where
  abbrev All : List AllEnds
  All = wholes rows.list.items obs

  abbrev cap : ℕ
  cap = vec_capacity rows.list

  pub known_object : o < length p.lists → o < length obs
  known_object l = known_index rows.list.items obs o (known v All p seen o l)

  same_object : (b : Object) → o < length obs → b ≡ slice_index_or obs o b → whole rows.list.items b ≡ object_at All o
  same_object b lo eb = ap (whole rows.list.items) (at_index obs o b lo eb) ∙ sym (at_whole rows.list.items obs o)

  -- a node goes on a stack: u is the pool at its pointer
  pub stacks : (u w : Nodes) (id : ℕ) (b b' : Object) (q : NodePtr) → o < length p.lists → IsFree id p → q ≡ place_of v id → u ≡ v → b ≡ slice_index_or obs o b
      → ((ms : List Ends) → Stacks u o (with_members b ms) (with_members b' ms) w (index_of u q)) → (b'.row ≡ b.row) × (b'.entries ≡ b.entries) → Becomes w cap (slice_set obs o b') rows.list.items rows.free (pushed_top p o id)
  stacks u w id b b' q l free ep eu eb s same =
      let lo = known_object l in let ms = members_of rows.list.items b.row in
      let unlisted = subst (IsFree id) (sym seen) free in
      let got = stack_gives v u w All o id (with_members b ms) (with_members b' ms) q pool.0 (index_known rows.list.items obs o lo) unlisted ep eu (same_object b lo eb) (s ms) in
      let all_is = ap (λ (r : Option ℕ). with_members b' (members_of rows.list.items r)) same.0 in
      let after = top_changed v w cap obs rows.list.items rows.free o b b' (with_members b' ms) (pushed_top (pool_of v All) o id) pool lo (at_index obs o b lo eb) same all_is refl got in
      (after.0, after.1 ∙ ap (λ (x : Pool). pushed_top x o id) seen)

  -- the top of a stack is taken off: r is where it lies, and nothing of the nodes changes
  module _ (r : Option NodePtr) (q : NodePtr) (top : r ≡ (bare_at obs o).top) (is : r ≡ Some q) where
    top_all : r ≡ (object_at All o).top
    top_all = top ∙ top_there rows.list.items obs o

    pub popped_known : o < length obs
    popped_known = known_index rows.list.items obs o (top_known v All o r q pool.0 top_all is)

    pub popped_node : IsNode v q
    popped_node = top_node v All o r q pool.0 top_all is

    pub pops : (u : Nodes) (b b' : Object) → Same v u → b ≡ slice_index_or obs o b → (let t : Option NodePtr = (link 0 v (index_of v q)).next in b' ≡ record b { top = t }) → Becomes u cap (slice_set obs o b') rows.list.items rows.free (popped p o)
    pops u b b' s eb eb' =
        let lo = popped_known in let all = whole rows.list.items b' in
        let got = top_gives v All o r q pool.0 top_all is u (whole rows.list.items b) all s (same_object b lo eb) (ap (whole rows.list.items) eb') in
        let after = top_changed v u cap obs rows.list.items rows.free o b b' all (popped (pool_of v All) o) pool lo (at_index obs o b lo eb) (ap (λ (x : Object). x.row) eb', ap (λ (x : Object). x.entries) eb') refl refl got in
        (after.0, after.1 ∙ ap (λ (x : Pool). popped x o) seen)

  pub no_stack : (r : Option NodePtr) → r ≡ (bare_at obs o).top → r ≡ None → (lists_at p o).stack ≡ []
  no_stack r top is =
      ap (λ (x : Pool). (lists_at x o).stack) (sym seen) ∙ ap (λ (x : Lists). x.stack) (any_lists v All o) ∙ ap (follow (vec_len v) v) (sym (top ∙ top_there rows.list.items obs o) ∙ is) ∙ follow_none v (vec_len v)

  -- ---- whether nobody stands in an object's lists
  pub empty_then : (first top : Option NodePtr) (b : Bool) → first ≡ (bare_at obs o).entries.first → top ≡ (bare_at obs o).top → is_some first ≡ false → is_some top ≡ not b → b ≡ has_none (lists_at p o)
  empty_then first top b ef et nf nt =
      let lists = ap (λ (x : Pool). lists_at x o) (sym seen) ∙ any_lists v All o in let held = any_held v All pool.0 o in let ob = object_at All o in
      let es = ap (λ (x : Lists). is_nil x.entries) lists ∙ no_entries v o ob (entries_of v ob) (stack_of v ob) held ∙ ap (λ (q : Option NodePtr). not (is_some q)) (sym (ef ∙ entries_there rows.list.items obs o)) ∙ ap not nf in
      let st = ap (λ (x : Lists). is_nil x.stack) lists ∙ no_tops v o ob (entries_of v ob) (stack_of v ob) held ∙ ap (λ (q : Option NodePtr). not (is_some q)) (sym (et ∙ top_there rows.list.items obs o)) ∙ ap not nt ∙ not_not b in
      sym (λ z. es z && st z)

  pub empty_else : (first : Option NodePtr) (b : Bool) → first ≡ (bare_at obs o).entries.first → is_some first ≡ true → b ≡ false → b ≡ has_none (lists_at p o)
  empty_else first b ef nf eb =
      let lists = ap (λ (x : Pool). lists_at x o) (sym seen) ∙ any_lists v All o in let ob = object_at All o in
      let es = ap (λ (x : Lists). is_nil x.entries) lists ∙ no_entries v o ob (entries_of v ob) (stack_of v ob) (any_held v All pool.0 o) ∙ ap (λ (q : Option NodePtr). not (is_some q)) (sym (ef ∙ entries_there rows.list.items obs o)) ∙ ap not nf in
      eb ∙ sym (λ z. es z && is_nil (lists_at p o).stack)

  -- ---- a node enters an object's entries
  module _ (id : ℕ) (b : Object) (l : o < length p.lists) (li : id < p.count) (free : IsFree id p) (eb : b ≡ slice_index_or obs o b) where
    unlisted : IsFree id (pool_of v All)
    unlisted = subst (IsFree id) (sym seen) free

    is_node : id < vec_len v
    is_node = subst (λ (x : Pool). id < x.count) (sym seen) li

    in_all : o < length All
    in_all = index_known rows.list.items obs o (known_object l)

    pub may : (q : Option ℕ) → MayClaim rows q
    may = may_claim v obs rows id pool.0 pool.1 pool.2 unlisted is_node

    module _ (b1 : Object) (rows1 : Rows) (r : ℕ) (cl : Claimed b.row b rows b1 rows1 r) where
      owner : IsOwner (vec_len v) cap obs rows.list.items rows1.list.items rows1.free o r b1
      owner = claimed (vec_len v) obs rows rows1 o r (known_object l) b b1 pool.1 (crowded v obs rows id pool.0 pool.1 pool.2 unlisted is_node) (at_index obs o b (known_object l) eb) cl

      pub claimed_below : r < length rows1.list.items
      claimed_below = owner.below

      -- u is the pool at the node's pointer
      module _ (row : Row) (er : row ≡ slice_index_or rows1.list.items r row) (u : Nodes) (q : NodePtr) (ep : q ≡ place_of v id) (eu : u ≡ v) where
        same : joined b1 row ≡ object_at All o
        same = asked_row (vec_len v) cap obs rows.list.items rows1.list.items rows1.free o r (known_object l) b1 b1 row owner refl row (er ∙ get_or_default rows1.list.items r row no_row owner.below)

        pub enter_asks : Asked u o (joined b1 row) (index_of u q)
        enter_asks = asks v u All o id (joined b1 row) q pool.0 in_all unlisted ep eu same

        pub enters : (m : ℕ) (w : Nodes) (b2 : Object) (row2 : Row) → b2.row ≡ b1.row → Enters u o (joined b1 row) (joined b2 row2) w (index_of u q) → (node w (index_of u q)).member ≡ m → Alters u o (joined b1 row) w (index_of u q)
            → vec_capacity rows1.list ≡ cap → Becomes w (vec_capacity rows1.list) (slice_set obs o b2) (slice_set rows1.list.items r row2) rows1.free (pushed_back p o m id)
        enters m w b2 row2 kept held label rest room =
            let lo = known_object l in let n = vec_len v in let old = rows.list.items in let new = rows1.list.items in
            let got = gives v u All o id (joined b1 row) q pool.0 in_all unlisted ep eu same m w (joined b2 row2) held label rest in
            let all_is = sym (seen_owned n cap obs old new rows1.free o r lo b1 b2 row2 owner kept) in
            let a = enter_asks in let here = held a.0 a.1 a.2 a.3 a.4 in
            let some : b2.entries.first ≢ None = λ e. first_some (place_of w) a.0 (index_of u q) (sym (ap (λ (x : Ends). x.first) here.0.0) ∙ e) in
            let len : vec_len w ≡ n = ap (λ (x : Pool). x.count) got.1 in
            subst (λ (k : ℕ). Becomes w k (slice_set obs o b2) (slice_set new r row2) rows1.free (pushed_back p o m id)) (sym room) (
              (
                subst (Holds w) all_is got.0,
                as_many n (vec_len w) cap (slice_set obs o b2) (slice_set new r row2) rows1.free len (are_owned n cap obs old new rows1.free o r lo b1 b2 row2 owner kept),
                needed_owned n cap obs old new rows1.free o r lo b1 b2 row2 owner kept pool.2 some,
              ),
              ap (pool_of w) (sym all_is) ∙ got.1 ∙ ap (λ (x : Pool). pushed_back x o m id) seen,
            )

  -- ---- a node leaves an object's entries
  module _ (id : ℕ) (is_in : IsEntry id (lists_at p o).entries) where
    pub entry_object : o < length obs
    entry_object = known_object (entry_known id p o is_in)

    in_all2 : o < length All
    in_all2 = index_known rows.list.items obs o entry_object

    listed : IsEntry id (lists_at (pool_of v All) o).entries
    listed = subst (λ (x : Pool). IsEntry id (lists_at x o).entries) (sym seen) is_in

    at_entry : IsEntryAt id (lists_at (pool_of v All) o).entries
    at_entry = entry_at id _ listed

    pub entry_is_below : id < vec_len v
    entry_is_below = entry_below v All o id pool.0 in_all2 at_entry

    pub entry_at_node : (v0 : Nodes) (q : NodePtr) → q ≡ place_of v id → v0 ≡ v → IsNode v0 q
    entry_at_node v0 q ep e0 = entry_node v v0 All o id q pool.0 in_all2 at_entry ep e0

    no_row_none : (bare_at obs o).row ≡ None → ⊥
    no_row_none e =
        let first = (pool.2 o).0 e in
        let es = empty_list v o (object_at All o) (entries_of v (object_at All o)) (stack_of v (object_at All o)) (any_held v All pool.0 o) (sym (entries_there rows.list.items obs o) ∙ first) in
        let none = ap (λ (x : Lists). x.entries) (any_lists v All o) ∙ ap (map (entry v)) es in
        let wrong : IsEntry id [] = subst (IsEntry id) none listed in
        cc

    pub has_row : (b : Object) → b ≡ slice_index_or obs o b → IsSome b.row
    has_row b eb = by b.row refl
      where
        by : (q : Option ℕ) → b.row ≡ q → IsSome q
        by (Some r) e = refl
        by None e = absurd (no_row_none (ap (λ (x : Object). x.row) (sym (at_index obs o b entry_object eb)) ∙ e))

    -- v0 is the pool at the node's pointer, u after the label was read
    module _ (b : Object) (eb : b ≡ slice_index_or obs o b) (r : ℕ) (at_r : b.row ≡ Some r) where
      owner_left : IsOwner (vec_len v) cap obs rows.list.items rows.list.items rows.free o r b
      owner_left = has_already (vec_len v) cap obs rows.list.items rows.free o entry_object pool.1 r b (at_index obs o b entry_object eb) at_r

      pub row_below : r < length rows.list.items
      row_below = owner_left.below

      module _ (row : Row) (er : row ≡ slice_index_or rows.list.items r row) (v0 u : Nodes) (q : NodePtr) (ep : q ≡ place_of v id) (e0 : v0 ≡ v) (kept : Same v0 u) where
        same_left : joined b row ≡ object_at All o
        same_left = asked_row (vec_len v) cap obs rows.list.items rows.list.items rows.free o r entry_object b b row owner_left refl row (er ∙ get_or_default rows.list.items r row no_row row_below)

        pub leave_node : (label : ℕ × ℕ) → (let n = node v0 (index_of v0 q) in (label.0 ≡ n.id) × (label.1 ≡ n.member)) → InBlock (vec_ptr u) × IsNode u q × (label.1 < 32) × ((node u (index_of u q)).member ≡ label.1)
        leave_node = node_asked v v0 u All o id (joined b row) q pool.0 in_all2 at_entry ep e0 kept same_left

        pub leave_held : (k : ℕ) × (xs : List ℕ) × (ys : List ℕ) × (st : List ℕ) × IsHeld u k (joined b row) (xs ++ index_of u q ∷ ys) st
        leave_held = held_asked v v0 u All o id (joined b row) q pool.0 in_all2 at_entry ep e0 kept same_left

        abbrev pub Left : Nodes → AllEnds → Type 0
        Left w all = (k : ℕ) (xs ys st : List ℕ) → IsHeld u k (joined b row) (xs ++ index_of u q ∷ ys) st → IsHeld w k all (xs ++ ys) st × Changed (index_of u q) (xs ++ ys) u w

        pub leaves : (w : Nodes) (b1 b2 : Object) (row1 : Row) (left new : Rows) → b1.row ≡ b.row → Left w (joined b1 row1) → left.list.items ≡ slice_set rows.list.items r row1 → left.free ≡ rows.free
            → Vacated b1.entries.first b1 left r b2 new → vec_capacity new.list ≡ cap → Becomes w (vec_capacity new.list) (slice_set obs o b2) new.list.items new.free (unlinked p o id)
        leaves w b1 b2 row1 left new row_kept held list free vacates room =
            let all = joined b1 row1 in let n = vec_len v in
            let got = unlink_gives v v0 u All o id (joined b row) q pool.0 in_all2 at_entry ep e0 kept same_left w all held in
            let a = leave_held in let here = (held a.0 a.1 a.2 a.3 a.4).0 in
            let vac = vacated n obs rows left new o r entry_object b b1 b2 row1 pool.1 pool.2 (at_index obs o b entry_object eb) at_r row_kept list free (blank_members w a.0 all (a.1 ++ a.2) a.3 here) vacates in
            let len : vec_len w ≡ n = ap (λ (x : Pool). x.count) got.1 in
            subst (λ (k : ℕ). Becomes w k (slice_set obs o b2) new.list.items new.free (unlinked p o id)) (sym room) (
              (subst (Holds w) (sym vac.0) got.0, as_many n (vec_len w) cap (slice_set obs o b2) new.list.items new.free len vac.1, vac.2),
              ap (pool_of w) vac.0 ∙ got.1 ∙ ap (λ (x : Pool). unlinked x o id) seen,
            )
