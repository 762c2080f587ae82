-- Rows that objects take and give back.
use Rattle.std.proofs.Common.{◌≡◌, ◌≢◌, ℕ, zero, suc, ◌<◌, ◌≤◌, ◌+◌, List, [], ◌∷◌, Option, Some, None, refl, sym, ap, ◌∙◌, subst, inl, inr, arith, length, slice_set, length-set, get_or-set_same, get_or-set_other, ext_get_or}
use Rattle.std.proofs.lemmas.Bool.{cases_eq}
use Rattle.std.proofs.lemmas.List.{length_push, length-map, length-replicate, get_or_append_left, get_or_at, get_or-replicate}
use Rattle.std.specs.List.{AllByRecursion}
use Rattle.std.specs.Vec.{vec_len, vec_capacity}
use Rattle.uc_links.specs.declared.chain.Ends.{Ends}
use Rattle.uc_links.specs.declared.chain.NodePtr.{NodePtr}
use Rattle.uc_links.specs.declared.object.Object.{Object}
use Rattle.uc_links.specs.declared.rows.Row.{Row}
use Rattle.uc_links.specs.declared.rows.Rows.{Rows}
use Rattle.uc_links.specs.Chain.{Nodes, node, place_of, Avoids, IsApart}
use Rattle.uc_links.specs.Held.{AllEnds, IsHeld, entries_of, stack_of, no_ends}
use Rattle.uc_links.specs.Lists.{Pool, IsFree, member_limit}
use Rattle.uc_links.specs.View.{object_at, pool_of, Holds, IsPool}
use Rattle.uc_links.specs.Rows.{no_members, no_row, row_at, members_of, bare, bare_at, with_members, joined, whole, wholes, IsFreeFrom, AreRows, IsNeeded, AreNeeded, MayTake, Took, MayClaim, Claimed, Vacated}
use Rattle.uc_links.proofs.Segments.{all_more}
use Rattle.uc_links.proofs.Pools.{fits, free_avoids, any_held}
use Rattle.uc_links.proofs.Wholes.{at_whole, row_known, wholes_set}

some_is : {X : Type 0} (x y : X) → (let a : Option X = Some x in a ≡ Some y) → x ≡ y
some_is x y e = cc

not_none : {X : Type 0} (q : Option X) (x : X) → q ≡ None → q ≡ Some x → ⊥
not_none q x n s = let wrong : None ≡ Some x = sym n ∙ s in absurd cc

-- ---- the free rows stay, where another row changes
pub free_kept : (rows rows' : List Row) (p : Option ℕ) (us : List ℕ) (r : ℕ) → length rows ≤ length rows' → ((s : ℕ) → s < length rows → s ≢ r → row_at rows' s ≡ row_at rows s) → Avoids r us
    → IsFreeFrom rows p us → IsFreeFrom rows' p us
free_kept rows rows' p [] r l same n h = h
free_kept rows rows' p (u ∷ us) r l same n h =
    let at = same u h.1 n.0 in (
      h.0,
      omega (arith, h.1, l),
      ap (λ (x : Row). x.members) at ∙ h.2,
      subst (λ (q : Option ℕ). IsFreeFrom rows' q us) (ap (λ (x : Row). x.next) (sym at)) (free_kept rows rows' (row_at rows u).next us r l same n.1 h.3),
    )

module _ (nodes cap : ℕ) (obs : List Object) (rows : List Row) (free : Option ℕ) (are : AreRows nodes cap obs rows free) where
  -- a row that an object has is written, and no object gets or gives a row
  pub written : (obs' : List Object) (rows' : List Row) (o r : ℕ) → (bare_at obs o).row ≡ Some r → ((p : ℕ) → (bare_at obs' p).row ≡ (bare_at obs p).row) → length rows' ≡ length rows
      → ((s : ℕ) → s ≢ r → row_at rows' s ≡ row_at rows s) → AreRows nodes cap obs' rows' free
  written obs' rows' o r at_o same len other = record {
    unused = are.unused;
    leads = free_kept rows rows' free are.unused r (omega (arith, len)) (λ s l n. other s n) (are.has o r at_o).1 are.leads;
    apart = are.apart;
    used = λ s l n. let u = are.used s (subst (λ (k : ℕ). s < k) len l) n in (u.0, same u.0 ∙ u.1);
    has = λ p s e. let h = are.has p s (sym (same p) ∙ e) in (subst (λ (k : ℕ). s < k) (sym len) h.0, h.1);
    once = λ p q s e f. are.once p q s (sym (same p) ∙ e) (sym (same q) ∙ f);
    few = subst (λ (k : ℕ). k ≤ nodes) (sym len) are.few;
    room = are.room;
    numbers = are.numbers;
  }

  -- no object gets or gives a row, and none is written
  pub same_rows : (obs' : List Object) → ((p : ℕ) → (bare_at obs' p).row ≡ (bare_at obs p).row) → AreRows nodes cap obs' rows free
  same_rows obs' same = record {
    unused = are.unused;
    leads = are.leads;
    apart = are.apart;
    used = λ s l n. let u = are.used s l n in (u.0, same u.0 ∙ u.1);
    has = λ p s e. are.has p s (sym (same p) ∙ e);
    once = λ p q s e f. are.once p q s (sym (same p) ∙ e) (sym (same q) ∙ f);
    few = are.few;
    room = are.room;
    numbers = are.numbers;
  }

  -- the object o gave back its row r, which has no ends
  pub given_back : (obs' : List Object) (rows' : List Row) (o r : ℕ) → (bare_at obs o).row ≡ Some r → (bare_at obs' o).row ≡ None → ((p : ℕ) → p ≢ o → (bare_at obs' p).row ≡ (bare_at obs p).row)
      → length rows' ≡ length rows → ((s : ℕ) → s ≢ r → row_at rows' s ≡ row_at rows s) → (row_at rows' r).members ≡ no_members → (row_at rows' r).next ≡ free → AreRows nodes cap obs' rows' (Some r)
  given_back obs' rows' o r at_o none same len other blank next =
      let mine = are.has o r at_o in record {
        unused = r ∷ are.unused;
        leads = (refl, subst (λ (k : ℕ). r < k) (sym len) mine.0, blank, subst (λ (q : Option ℕ). IsFreeFrom rows' q are.unused) (sym next) (free_kept rows rows' free are.unused r (omega (arith, len)) (λ s l n. other s n) mine.1 are.leads));
        apart = (mine.1, are.apart);
        used = λ s l n.
            let u = are.used s (subst (λ (k : ℕ). s < k) len l) n.1 in
            (u.0, same u.0 (λ e. n.0 (some_is r s (sym at_o ∙ ap (λ (x : ℕ). (bare_at obs x).row) (sym e) ∙ u.1))) ∙ u.1);
        has = λ p s e. elim (cases_eq p o) [
          | inl i ↦ absurd (not_none (bare_at obs' o).row s none (ap (λ (x : ℕ). (bare_at obs' x).row) (sym i) ∙ e))
          | inr n ↦
              let old = sym (same p n) ∙ e in let h = are.has p s old in
              (subst (λ (k : ℕ). s < k) (sym len) h.0, (λ i. n (are.once p o s old (at_o ∙ ap (λ (x : ℕ). Some x) i)), h.1))
        ];
        once = λ p q s e f. elim (cases_eq p o) [
          | inl i ↦ absurd (not_none (bare_at obs' o).row s none (ap (λ (x : ℕ). (bare_at obs' x).row) (sym i) ∙ e))
          | inr n ↦ elim (cases_eq q o) [
            | inl j ↦ absurd (not_none (bare_at obs' o).row s none (ap (λ (x : ℕ). (bare_at obs' x).row) (sym j) ∙ f))
            | inr m ↦ are.once p q s (sym (same p n) ∙ e) (sym (same q m) ∙ f)
          ]
        ];
        few = subst (λ (k : ℕ). k ≤ nodes) (sym len) are.few;
        room = are.room;
        numbers = are.numbers;
      }

  -- the object o took the row r: these rows are free then, and those
  pub taken : (obs' : List Object) (rows' : List Row) (free' : Option ℕ) (us : List ℕ) (o r : ℕ) → (bare_at obs o).row ≡ None → (bare_at obs' o).row ≡ Some r → ((p : ℕ) → p ≢ o → (bare_at obs' p).row ≡ (bare_at obs p).row)
      → IsFreeFrom rows' free' us → IsApart us → r < length rows' → Avoids r us → length rows ≤ length rows' → ((p : ℕ) → (bare_at obs p).row ≢ Some r)
      → ((s : ℕ) → s < length rows' → s ≢ r → Avoids s us → (s < length rows) × Avoids s are.unused) → ((s : ℕ) → Avoids s are.unused → Avoids s us) → length rows' ≤ nodes → AreRows nodes cap obs' rows' free'
  taken obs' rows' free' us o r none at_o same leads apart below mine len nobody before after few = record {
    unused = us;
    leads = leads;
    apart = apart;
    used = λ s l n. elim (cases_eq s r) [
      | inl i ↦ (o, at_o ∙ ap (λ (x : ℕ). Some x) (sym i))
      | inr d ↦
          let b = before s l d n in let u = are.used s b.0 b.1 in
          (u.0, same u.0 (λ e. not_none (bare_at obs o).row s none (ap (λ (x : ℕ). (bare_at obs x).row) (sym e) ∙ u.1)) ∙ u.1)
    ];
    has = λ p s e. elim (cases_eq p o) [
      | inl i ↦
          let here : r ≡ s = some_is r s (sym at_o ∙ ap (λ (x : ℕ). (bare_at obs' x).row) (sym i) ∙ e) in
          (subst (λ (x : ℕ). x < length rows') here below, subst (λ (x : ℕ). Avoids x us) here mine)
      | inr n ↦ let h = are.has p s (sym (same p n) ∙ e) in (omega (arith, h.0, len), after s h.1)
    ];
    once = λ p q s e f. elim (cases_eq p o) [
      | inl i ↦ elim (cases_eq q o) [
        | inl j ↦ i ∙ sym j
        | inr m ↦
            let here : r ≡ s = some_is r s (sym at_o ∙ ap (λ (x : ℕ). (bare_at obs' x).row) (sym i) ∙ e) in
            absurd (nobody q (sym (same q m) ∙ f ∙ ap (λ (x : ℕ). Some x) (sym here)))
      ]
      | inr n ↦ elim (cases_eq q o) [
        | inl j ↦
            let here : r ≡ s = some_is r s (sym at_o ∙ ap (λ (x : ℕ). (bare_at obs' x).row) (sym j) ∙ f) in
            absurd (nobody p (sym (same p n) ∙ e ∙ ap (λ (x : ℕ). Some x) (sym here)))
        | inr m ↦ are.once p q s (sym (same p n) ∙ e) (sym (same q m) ∙ f)
      ]
    ];
    few = few;
    room = are.room;
    numbers = are.numbers;
  }

-- ---- the free rows
no_free : (rows : List Row) (p : Option ℕ) (us : List ℕ) → IsFreeFrom rows p us → p ≡ None → us ≡ []
no_free rows p [] h e = refl
no_free rows p (u ∷ us) h e = absurd (not_none p u e h.0)

first_free : (rows : List Row) (p : Option ℕ) (us : List ℕ) (f : ℕ) → IsFreeFrom rows p us → p ≡ Some f
    → (rest : List ℕ) × (us ≡ f ∷ rest) × (f < length rows) × ((row_at rows f).members ≡ no_members) × IsFreeFrom rows (row_at rows f).next rest
first_free rows p [] f h e = absurd (not_none p f h e)
first_free rows p (u ∷ us) f h e =
    let same : u ≡ f = some_is u f (sym h.0 ∙ e) in
    (us, ap (λ (x : ℕ). x ∷ us) same, subst (λ (x : ℕ). x < length rows) same h.1, subst (λ (x : ℕ). (row_at rows x).members ≡ no_members) same h.2, subst (λ (x : ℕ). IsFreeFrom rows (row_at rows x).next us) same h.3)

-- ---- where no row is free there are fewer rows than nodes: each is that of an object with an oldest entry, and none of these is id
module _ (v : Nodes) (obs : List Object) (rows : Rows) (id : ℕ) (hold : Holds v (wholes rows.list.items obs)) (are : AreRows (vec_len v) (vec_capacity rows.list) obs rows.list.items rows.free) (needed : AreNeeded obs)
    (unlisted : IsFree id (pool_of v (wholes rows.list.items obs))) (li : id < vec_len v) where
  abbrev All : List AllEnds
  All = wholes rows.list.items obs

  -- h is an entry of an object that has one of the first k rows
  abbrev HasRow : ℕ → ℕ → Type 0
  HasRow k h = (o : ℕ) × (r : ℕ) × (r < k) × ((bare_at obs o).row ≡ Some r) × ((node v h).object ≡ o) × (h < vec_len v) × (h ≢ id)

  oldest : (o r : ℕ) → (bare_at obs o).row ≡ Some r → (h : ℕ) × ((node v h).object ≡ o) × (h < vec_len v) × (h ≢ id)
  oldest o r e = from (entries_of v (object_at All o)) (any_held v All hold o) (free_avoids v All id unlisted o in_all).0
    where
      in_all : o < length All
      in_all = subst (λ (n : ℕ). o < n) (sym (length-map obs (whole rows.list.items))) (row_known obs o r e)

      from : (es : List ℕ) → IsHeld v o (object_at All o) es (stack_of v (object_at All o)) → Avoids id es → (h : ℕ) × ((node v h).object ≡ o) × (h < vec_len v) × (h ≢ id)
      from [] h n = absurd ((needed o).1 r e (ap (λ (b : AllEnds). b.entries.first) (sym (at_whole rows.list.items obs o)) ∙ ap (λ (x : Ends). x.first) h.0.0))
      from (i ∷ is) h n = (i, h.2.0.0, h.0.2.0, n.0)

  owners : are.unused ≡ [] → (k : ℕ) → k ≤ length rows.list.items → (hs : List ℕ) × (length hs ≡ k) × AllByRecursion (HasRow k) hs × IsApart hs
  owners none zero l = ([], refl, tt, tt)
  owners none (suc k) l =
      let u = are.used k (omega (arith, l)) (subst (Avoids k) (sym none) tt) in
      let h = oldest u.0 k u.1 in
      let more = owners none k (omega (arith, l)) in
      let differ : (j : ℕ) → HasRow k j → j ≢ h.0 = λ j x e.
      let one : x.0 ≡ u.0 = sym x.4 ∙ ap (λ (i : ℕ). (node v i).object) e ∙ h.1 in
      let same : x.1 ≡ k = some_is x.1 k (sym x.3 ∙ ap (λ (o : ℕ). (bare_at obs o).row) one ∙ u.1) in
      omega (arith, x.2, same) in
      let wider : (j : ℕ) → HasRow k j → HasRow (suc k) j = λ j x. let l2 : x.1 < suc k = omega (arith, x.2) in (x.0, x.1, l2, x.3, x.4, x.5, x.6) in let last : k < suc k = omega arith in (
        h.0 ∷ more.0,
        ap (λ (n : ℕ). suc n) more.1,
        ((u.0, k, last, u.1, h.1, h.2, h.3), all_more (HasRow k) (HasRow (suc k)) wider more.0 more.2),
        (all_more (HasRow k) (λ j. j ≢ h.0) differ more.0 more.2, more.3),
      )

  pub crowded : rows.free ≡ None → length rows.list.items < vec_len v
  crowded none =
      let k = length rows.list.items in
      let hs = owners (no_free rows.list.items rows.free are.unused are.leads none) k (omega arith) in
      let fit = fits (vec_len v) (id ∷ hs.0) (li, all_more (HasRow k) (λ h. h < vec_len v) (λ h x. x.5) hs.0 hs.2) (all_more (HasRow k) (λ h. h ≢ id) (λ h x. x.6) hs.0 hs.2, hs.3) in
      omega (arith, fit, hs.1)

  may_take : (p : Option ℕ) → rows.free ≡ p → MayTake rows p
  may_take None e =
      let few = crowded e in let same = rows.list.ok.0 in let room = are.room in let numbers = are.numbers in (omega (arith, few, same, room), omega (arith, few, same, numbers))
  may_take (Some f) e = (first_free rows.list.items rows.free are.unused f are.leads e).2

  pub may_claim : (q : Option ℕ) → MayClaim rows q
  may_claim None = may_take rows.free refl
  may_claim (Some r) = tt

-- ---- one object changed
module _ (obs : List Object) (o : ℕ) (lo : o < length obs) (b : Object) where
  pub set_here : bare_at (slice_set obs o b) o ≡ b
  set_here = get_or-set_same obs o b bare lo

  pub set_other : (p : ℕ) → p ≢ o → bare_at (slice_set obs o b) p ≡ bare_at obs p
  set_other p n = get_or-set_other obs o p b bare n

  pub set_row : b.row ≡ (bare_at obs o).row → (p : ℕ) → (bare_at (slice_set obs o b) p).row ≡ (bare_at obs p).row
  set_row e p = elim (cases_eq p o) [
    | inl i ↦ subst (λ (x : ℕ). (bare_at (slice_set obs o b) x).row ≡ (bare_at obs x).row) (sym i) (ap (λ (x : Object). x.row) set_here ∙ e)
    | inr n ↦ ap (λ (x : Object). x.row) (set_other p n)
  ]

  pub set_needed : AreNeeded obs → IsNeeded b → AreNeeded (slice_set obs o b)
  set_needed needed h p = elim (cases_eq p o) [
    | inl i ↦ subst (λ (x : ℕ). IsNeeded (bare_at (slice_set obs o b) x)) (sym i) (subst IsNeeded (sym set_here) h)
    | inr n ↦ subst IsNeeded (sym (set_other p n)) (needed p)
  ]

-- ---- the object o has the row r, and the others have theirs as before
pub record IsOwner (nodes cap : ℕ) (obs : List Object) (rows rows' : List Row) (free' : Option ℕ) (o r : ℕ) (ob' : Object) : Type 0 where
  pub below : r < length rows'
  pub own : (row_at rows' r).members ≡ members_of rows (bare_at obs o).row
  pub row : ob'.row ≡ Some r
  pub entries : ob'.entries ≡ (bare_at obs o).entries
  pub top : ob'.top ≡ (bare_at obs o).top
  pub others : (p s : ℕ) → p ≢ o → (bare_at obs p).row ≡ Some s → (s ≢ r) × (row_at rows' s ≡ row_at rows s)
  pub are : AreRows nodes cap (slice_set obs o ob') rows' free'

module _ (nodes cap : ℕ) (obs : List Object) (rows : List Row) (free : Option ℕ) (o : ℕ) (lo : o < length obs) (are : AreRows nodes cap obs rows free) where
  pub has_already : (r : ℕ) (b : Object) → b ≡ bare_at obs o → b.row ≡ Some r → IsOwner nodes cap obs rows rows free o r b
  has_already r b e at_o =
      let same = ap (λ (x : Object). x.row) e in let here = sym same ∙ at_o in record {
        below = (are.has o r here).0;
        own = sym (ap (members_of rows) here);
        row = at_o;
        entries = ap (λ (x : Object). x.entries) e;
        top = ap (λ (x : Object). x.top) e;
        others = λ p s n f. (λ i. n (are.once p o r (f ∙ ap (λ (x : ℕ). Some x) i) here), refl);
        are = same_rows nodes cap obs rows free are (slice_set obs o b) (set_row obs o lo b same);
      }

  pub has_taken : (rows' : List Row) (free' : Option ℕ) (us : List ℕ) (r : ℕ) (b : Object) → (bare_at obs o).row ≡ None → b ≡ record { entries = (bare_at obs o).entries; row = Some r; top = (bare_at obs o).top }
      → IsFreeFrom rows' free' us → IsApart us → r < length rows' → Avoids r us → length rows ≤ length rows' → ((p : ℕ) → (bare_at obs p).row ≢ Some r)
      → ((s : ℕ) → s < length rows' → s ≢ r → Avoids s us → (s < length rows) × Avoids s are.unused) → ((s : ℕ) → Avoids s are.unused → Avoids s us) → length rows' ≤ nodes
      → (row_at rows' r).members ≡ no_members → ((s : ℕ) → s < length rows → row_at rows' s ≡ row_at rows s) → IsOwner nodes cap obs rows rows' free' o r b
  has_taken rows' free' us r b none e leads apart below mine len nobody before after few blank kept = record {
    below = below;
    own = blank ∙ sym (ap (members_of rows) none);
    row = ap (λ (x : Object). x.row) e;
    entries = ap (λ (x : Object). x.entries) e;
    top = ap (λ (x : Object). x.top) e;
    others = λ p s n f. (λ i. nobody p (f ∙ ap (λ (x : ℕ). Some x) i), kept s (are.has p s f).0);
    are = taken nodes cap obs rows free are (slice_set obs o b) rows' free' us o r none (ap (λ (x : Object). x.row) (set_here obs o lo b ∙ e)) (λ p n. ap (λ (x : Object). x.row) (set_other obs o lo b p n)) leads apart below mine len nobody before after few;
  }

module _ (nodes : ℕ) (obs : List Object) (rows rows' : Rows) (o r : ℕ) (lo : o < length obs) (b b' : Object) (are : AreRows nodes (vec_capacity rows.list) obs rows.list.items rows.free)
    (few : rows.free ≡ None → length rows.list.items < nodes) (e : b ≡ bare_at obs o) where
  abbrev Owner : Type 0
  Owner = IsOwner nodes (vec_capacity rows.list) obs rows.list.items rows'.list.items rows'.free o r b'

  abbrev Mine : Type 0
  Mine = b' ≡ record { entries = b.entries; row = Some r; top = b.top }

  mine : Mine → b' ≡ record { entries = (bare_at obs o).entries; row = Some r; top = (bare_at obs o).top }
  mine t = t ∙ ap (λ (x : Object). let y : Object = record { entries = x.entries; row = Some r; top = x.top } in y) e

  by_free : (f : Option ℕ) → rows.free ≡ f → Took f rows rows' r → b.row ≡ None → Mine → Owner
  by_free None ef t none m =
      let old = rows.list.items in
      let count : length rows'.list.items ≡ length old + 1 = ap length t.1 ∙ length_push old no_row in
      let empty = no_free old rows.free are.unused are.leads ef in
      let more = few ef in
      has_taken nodes (vec_capacity rows.list) obs old rows.free o lo are rows'.list.items rows'.free [] r b' (sym (ap (λ (x : Object). x.row) e) ∙ none) (mine m) t.2 tt (omega (arith, count, t.0)) tt (omega (arith, count))
      (λ p f. let h = are.has p r f in omega (arith, h.0, t.0)) (λ s l n a. (omega (arith, l, n, count, t.0), subst (Avoids s) (sym empty) tt)) (λ s a. tt) (omega (arith, more, count))
      (ap (λ (x : Row). x.members) (ap (λ (l : List Row). row_at l r) t.1 ∙ get_or_at old no_row [] no_row r (sym t.0))) (λ s l. ap (λ (l : List Row). row_at l s) t.1 ∙ get_or_append_left old (no_row ∷ []) no_row s l)
  by_free (Some f) ef t none m =
      let old = rows.list.items in
      let first = first_free old rows.free are.unused f are.leads ef in
      let count : length rows'.list.items ≡ length old = ap length t.1 in
      let apart = subst IsApart first.1 are.apart in
      let small = are.few in
      has_taken nodes (vec_capacity rows.list) obs old rows.free o lo are rows'.list.items rows'.free first.0 r b' (sym (ap (λ (x : Object). x.row) e) ∙ none) (mine m)
      (subst (λ (l : List Row). IsFreeFrom l rows'.free first.0) (sym t.1) (subst (λ (q : Option ℕ). IsFreeFrom old q first.0) (sym t.2) first.4)) apart.1 (omega (arith, count, t.0, first.2)) (subst (λ (x : ℕ). Avoids x first.0) (sym t.0) apart.0) (omega (arith, count))
      (λ p g. (subst (Avoids r) first.1 (are.has p r g).1).0 (sym t.0)) (λ s l n a. (omega (arith, l, count), subst (Avoids s) (sym first.1) ((λ i. n (sym i ∙ sym t.0)), a))) (λ s a. (subst (Avoids s) first.1 a).1) (omega (arith, small, count))
      (ap (λ (l : List Row). (row_at l r).members) t.1 ∙ ap (λ (x : ℕ). (row_at old x).members) t.0 ∙ first.3) (λ s l. ap (λ (l : List Row). row_at l s) t.1)

  by_row : (q : Option ℕ) → b.row ≡ q → Claimed q b rows b' rows' r → Owner
  by_row None eq c = by_free rows.free refl c.0 eq c.1
  by_row (Some p) eq c =
      subst (λ (x : Rows). IsOwner nodes (vec_capacity rows.list) obs rows.list.items x.list.items x.free o r b') (sym c.1)
      (has_already nodes (vec_capacity rows.list) obs rows.list.items rows.free o lo are r b' (c.2 ∙ e) (ap (λ (x : Object). x.row) c.2 ∙ eq ∙ ap (λ (x : ℕ). Some x) (sym c.0)))

  pub claimed : Claimed b.row b rows b' rows' r → Owner
  claimed = by_row b.row refl

-- ---- what an owner's row and entries become, where it enters or leaves
module _ (nodes cap : ℕ) (obs : List Object) (rows rows' : List Row) (free' : Option ℕ) (o r : ℕ) (lo : o < length obs) (b b2 : Object) (row2 : Row) (owner : IsOwner nodes cap obs rows rows' free' o r b) (same : b2.row ≡ b.row) where
  pub asked_row : (row : Row) → row ≡ row_at rows' r → joined b row ≡ object_at (wholes rows obs) o
  asked_row row e =
      let ms = ap (λ (x : Row). x.members) e ∙ owner.own in
      (λ z. let x : AllEnds = record { entries = owner.entries z; members = ms z; top = owner.top z } in x) ∙ sym (at_whole rows obs o)

  row_here : b2.row ≡ Some r
  row_here = same ∙ owner.row

  pub seen_owned : wholes (slice_set rows' r row2) (slice_set obs o b2) ≡ slice_set (wholes rows obs) o (joined b2 row2)
  seen_owned =
      let rows2 = slice_set rows' r row2 in
      let here = ap (λ (q : Option ℕ). members_of rows2 q) row_here ∙ ap (λ (x : Row). x.members) (get_or-set_same rows' r row2 no_row owner.below) in
      wholes_set rows rows2 obs o b2 (joined b2 row2) lo (ap (with_members b2) here) (λ p s n f. let x = owner.others p s n f in get_or-set_other rows' r s row2 no_row x.0 ∙ x.1)

  old_row : (bare_at (slice_set obs o b) o).row ≡ Some r
  old_row = ap (λ (x : Object). x.row) (set_here obs o lo b) ∙ owner.row

  pub are_owned : AreRows nodes cap (slice_set obs o b2) (slice_set rows' r row2) free'
  are_owned =
      written nodes cap (slice_set obs o b) rows' free' owner.are (slice_set obs o b2) (slice_set rows' r row2) o r old_row (λ p. elim (cases_eq p o) [
        | inl i ↦
            subst (λ (x : ℕ). (bare_at (slice_set obs o b2) x).row ≡ (bare_at (slice_set obs o b) x).row) (sym i)
            (ap (λ (x : Object). x.row) (set_here obs o lo b2) ∙ same ∙ sym (ap (λ (x : Object). x.row) (set_here obs o lo b)))
        | inr n ↦ ap (λ (x : Object). x.row) (set_other obs o lo b2 p n ∙ sym (set_other obs o lo b p n))
      ]) (length-set rows' r row2) (λ s n. get_or-set_other rows' r s row2 no_row n)

  pub needed_owned : AreNeeded obs → b2.entries.first ≢ None → AreNeeded (slice_set obs o b2)
  needed_owned needed some = set_needed obs o lo b2 needed ((λ e. absurd (not_none b2.row r e row_here)), λ s e. some)

-- ---- an object without a first entry has no callers of any member
pub empty_list : (v : Nodes) (o : ℕ) (all : AllEnds) (es st : List ℕ) → IsHeld v o all es st → all.entries.first ≡ None → es ≡ []
empty_list v o all [] st h e = refl
empty_list v o all (i ∷ is) st h e = absurd (not_none all.entries.first (place_of v i) e (ap (λ (x : Ends). x.first) h.0.0))

pub blank_members : (v : Nodes) (o : ℕ) (all : AllEnds) (es st : List ℕ) → IsHeld v o all es st → all.entries.first ≡ None → all.members ≡ no_members
blank_members v o all es st h e =
    let h' = subst (λ (l : List ℕ). IsHeld v o all l st) (empty_list v o all es st h e) h in
    ext_get_or no_ends all.members no_members (h'.8 ∙ sym (length-replicate member_limit no_ends)) (λ m l.
    let lm : m < member_limit = subst (λ (n : ℕ). m < n) h'.8 l in (h'.1 m lm).0 ∙ sym (get_or-replicate member_limit m no_ends no_ends lm))

-- ---- an object that an entry left keeps its row as long as it has entries
module _ (nodes : ℕ) (obs : List Object) (rows left new : Rows) (o r : ℕ) (lo : o < length obs) (b b1 b2 : Object) (row1 : Row) (are : AreRows nodes (vec_capacity rows.list) obs rows.list.items rows.free) (needed : AreNeeded obs)
    (e : b ≡ bare_at obs o) (at_o : b.row ≡ Some r) (same : b1.row ≡ b.row) (list : left.list.items ≡ slice_set rows.list.items r row1) (free : left.free ≡ rows.free) (blank : b1.entries.first ≡ None → row1.members ≡ no_members) where
  abbrev Vacates : Type 0
  Vacates =
      (wholes new.list.items (slice_set obs o b2) ≡ slice_set (wholes rows.list.items obs) o (joined b1 row1))
      × AreRows nodes (vec_capacity rows.list) (slice_set obs o b2) new.list.items new.free × AreNeeded (slice_set obs o b2)

  owner : IsOwner nodes (vec_capacity rows.list) obs rows.list.items rows.list.items rows.free o r b
  owner = has_already nodes (vec_capacity rows.list) obs rows.list.items rows.free o lo are r b e at_o

  at_old : (bare_at obs o).row ≡ Some r
  at_old = sym (ap (λ (x : Object). x.row) e) ∙ at_o

  by_first : (q : Option NodePtr) → b1.entries.first ≡ q → Vacated q b1 left r b2 new → Vacates
  by_first (Some p) ef v =
      let items = ap (λ (x : Rows). x.list.items) v.1 ∙ list in
      let free_is = ap (λ (x : Rows). x.free) v.1 ∙ free in
      let old = rows.list.items in let cap = vec_capacity rows.list in
      subst (λ (x : Object). (wholes new.list.items (slice_set obs o x) ≡ slice_set (wholes old obs) o (joined b1 row1)) × AreRows nodes cap (slice_set obs o x) new.list.items new.free × AreNeeded (slice_set obs o x)) (sym v.0) (
        ap (λ (l : List Row). wholes l (slice_set obs o b1)) items ∙ seen_owned nodes cap obs old old rows.free o r lo b b1 row1 owner same,
        subst (λ (l : List Row). AreRows nodes cap (slice_set obs o b1) l new.free) (sym items)
            (subst (λ (q : Option ℕ). AreRows nodes cap (slice_set obs o b1) (slice_set old r row1) q) (sym free_is) (are_owned nodes cap obs old old rows.free o r lo b b1 row1 owner same)),
        needed_owned nodes cap obs old old rows.free o r lo b b1 row1 owner same needed (λ n. not_none b1.entries.first p n ef),
      )
  by_first None ef v =
      let old = rows.list.items in let cap = vec_capacity rows.list in
      let given : Row = record { members = (row_at left.list.items r).members; next = left.free } in
      let items = v.2 in
      let length_left : length left.list.items ≡ length old = ap length list ∙ length-set old r row1 in
      let count = ap length items ∙ length-set left.list.items r given ∙ length_left in
      let below : r < length left.list.items = subst (λ (n : ℕ). r < n) (sym length_left) owner.below in
      let here : row_at new.list.items r ≡ given = ap (λ (l : List Row). row_at l r) items ∙ get_or-set_same left.list.items r given no_row below in
      let there = λ (s : ℕ) (n : s ≢ r). ap (λ (l : List Row). row_at l s) items ∙ get_or-set_other left.list.items r s given no_row n ∙ ap (λ (l : List Row). row_at l s) list ∙ get_or-set_other old r s row1 no_row n in
      let members = ap (λ (x : Row). x.members) (ap (λ (l : List Row). row_at l r) list ∙ get_or-set_same old r row1 no_row owner.below) in
      let none : b2.row ≡ None = ap (λ (x : Object). x.row) v.0 in
      let first : b2.entries.first ≡ None = ap (λ (x : Object). x.entries.first) v.0 ∙ ef in
      let ends = ap (λ (x : Object). x.entries) v.0 in let top = ap (λ (x : Object). x.top) v.0 in
      let ms = ap (λ (q : Option ℕ). members_of new.list.items q) none ∙ sym (blank ef) in (
        wholes_set old new.list.items obs o b2 (joined b1 row1) lo (λ z. record { entries = ends z; members = ms z; top = top z }) (λ p s n f. there s (owner.others p s n f).0),
        subst (λ (q : Option ℕ). AreRows nodes cap (slice_set obs o b2) new.list.items q) (sym v.1)
            (given_back nodes cap obs old rows.free are (slice_set obs o b2) new.list.items o r at_old (ap (λ (x : Object). x.row) (set_here obs o lo b2) ∙ none) (λ p n. ap (λ (x : Object). x.row) (set_other obs o lo b2 p n)) count there
            (ap (λ (x : Row). x.members) here ∙ members ∙ blank ef) (ap (λ (x : Row). x.next) here ∙ free)),
        set_needed obs o lo b2 needed ((λ n. first), λ s f. absurd (not_none b2.row s none f)),
      )

  pub vacated : Vacated b1.entries.first b1 left r b2 new → Vacates
  vacated = by_first b1.entries.first refl

-- the number of nodes is told otherwise
pub as_many : (nodes nodes' cap : ℕ) (obs : List Object) (rows : List Row) (free : Option ℕ) → nodes' ≡ nodes → AreRows nodes cap obs rows free → AreRows nodes' cap obs rows free
as_many nodes nodes' cap obs rows free e are = subst (λ (n : ℕ). AreRows n cap obs rows free) (sym e) are

-- ---- what holds of a pool, and what it is
abbrev pub Becomes : Nodes → ℕ → List Object → List Row → Option ℕ → Pool → Type 0
Becomes v cap obs rows free p = (kept : IsPool v cap obs rows free) × (pool_of v (wholes rows obs) ≡ p)

-- the object o has another top, and the rows stay
pub top_changed : (v w : Nodes) (cap : ℕ) (obs : List Object) (rows : List Row) (free : Option ℕ) (o : ℕ) (b b' : Object) (all : AllEnds) (p : Pool) → IsPool v cap obs rows free → o < length obs → b ≡ bare_at obs o → (b'.row ≡ b.row) × (b'.entries ≡ b.entries)
    → whole rows b' ≡ all → p.count ≡ vec_len v → Holds w (slice_set (wholes rows obs) o all) × (pool_of w (slice_set (wholes rows obs) o all) ≡ p) → Becomes w cap (slice_set obs o b') rows free p
top_changed v w cap obs rows free o b b' all p pool lo e same seen count got =
    let row = same.0 ∙ ap (λ (x : Object). x.row) e in let entries = same.1 ∙ ap (λ (x : Object). x.entries) e in
    let all_is = sym (wholes_set rows rows obs o b' all lo seen (λ q s n f. refl)) in
    let needed : IsNeeded b' = ((λ n. ap (λ (x : Ends). x.first) entries ∙ (pool.2 o).0 (sym row ∙ n)), λ r f g. (pool.2 o).1 r (sym row ∙ f) (ap (λ (x : Ends). x.first) (sym entries) ∙ g)) in
    let len : vec_len w ≡ vec_len v = ap (λ (x : Pool). x.count) got.1 ∙ count in (
      (
        subst (Holds w) all_is got.0,
        as_many (vec_len v) (vec_len w) cap (slice_set obs o b') rows free len (same_rows (vec_len v) cap obs rows free pool.1 (slice_set obs o b') (set_row obs o lo b' row)),
        set_needed obs o lo b' pool.2 needed,
      ),
      ap (pool_of w) (sym all_is) ∙ got.1,
    )
