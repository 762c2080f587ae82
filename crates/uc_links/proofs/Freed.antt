-- A task that was taken out of a list stands in no list, and it is the number of a node.
use Rattle.std.proofs.Common.{◌≡◌, ◌≢◌, ℕ, ◌<◌, ◌≤◌, ◌==◌, List, [], ◌∷◌, map, Bool, true, false, not, cond, Some, refl, sym, ap, ◌∙◌, subst, inl, inr, length, get_or-set_same, get_or-set_other, length-set}
use Rattle.std.proofs.lemmas.Bool.{cases_eq, cases_lt}
use Rattle.std.proofs.lemmas.List.{length-map, get_or_past}
use Rattle.std.specs.List.{AllByRecursion}
use Rattle.std.specs.Vec.{vec_len}
use Rattle.uc_links.specs.Chain.{Nodes, Avoids, IsApart}
use Rattle.uc_links.specs.Held.{IsOf, entries_of, stack_of}
use Rattle.uc_links.specs.Lists.{Lists, Pool, no_lists, lists_at, with_lists, IsFree, IsEntry, without, unlinked, first_of, rest_of, popped}
use Rattle.uc_links.specs.View.{Objects, no_object, object_at, entry, lists_of, pool_of, Holds}
use Rattle.uc_links.proofs.Segments.{all_right, all_more}
use Rattle.uc_links.proofs.Entered.{same_test}
use Rattle.uc_links.proofs.Pools.{get_map}
use Rattle.uc_links.proofs.Looks.{cut_map, entry_at, entry_below, entry_known}

-- the task is in neither list
abbrev Clear : ℕ → Lists → Type 0
Clear id l = AllByRecursion (λ e. e.0 ≢ id) l.entries × AllByRecursion (λ i. i ≢ id) l.stack

named : (v : Nodes) (id : ℕ) (es : List ℕ) → Avoids id es → AllByRecursion (λ e. e.0 ≢ id) (map (entry v) es)
named v id [] h = tt
named v id (x ∷ xs) h = (h.0, named v id xs h.1)

avoids : (v : Nodes) (o : ℕ) (b : Bool) (id : ℕ) (xs : List ℕ) → (IsOf v o b id → ⊥) → AllByRecursion (IsOf v o b) xs → Avoids id xs
avoids v o b id xs no_such h = all_more (IsOf v o b) (λ j. j ≢ id) (λ j p e. no_such (subst (IsOf v o b) e p)) xs h

seen_at : (v : Nodes) (obs : Objects) (o : ℕ) → o < length obs → lists_at (pool_of v obs) o ≡ lists_of v (object_at obs o)
seen_at v obs o lo = get_map (lists_of v) obs o no_object no_lists lo

-- the lists of another object have other nodes
other : (v : Nodes) (obs : Objects) (o q id : ℕ) (b : Bool) → Holds v obs → q < length obs → q ≢ o → IsOf v o b id → Clear id (lists_at (pool_of v obs) q)
other v obs o q id b hold lq n me =
    let h = hold.2 q lq in
    let no_such = λ (c : Bool) (p : IsOf v q c id). n (sym p.0 ∙ me.0) in
    subst (Clear id) (sym (seen_at v obs q lq)) (named v id (entries_of v (object_at obs q)) (avoids v q false id (entries_of v (object_at obs q)) (no_such false) h.2), avoids v q true id (stack_of v (object_at obs q)) (no_such true) h.5)

joined : (id o : ℕ) (p : Pool) (l : Lists) → o < length p.lists → Clear id l → ((q : ℕ) → q < length p.lists → q ≢ o → Clear id (lists_at p q)) → IsFree id (with_lists p o l)
joined id o p l lo here rest q lq = elim (cases_eq q o) [
  | inl e ↦ subst (λ (k : ℕ). Clear id (lists_at (with_lists p o l) k)) (sym e) (subst (Clear id) (sym (get_or-set_same p.lists o l no_lists lo)) here)
  | inr n ↦ subst (Clear id) (sym (get_or-set_other p.lists o q l no_lists n)) (rest q (subst (λ (k : ℕ). q < k) (length-set p.lists o l) lq) n)
]

kept : (id : ℕ) (x : ℕ × ℕ) (xs : List (ℕ × ℕ)) (b : Bool) → (x.0 == id) ≡ b → AllByRecursion (λ e. e.0 ≢ id) xs → AllByRecursion (λ e. e.0 ≢ id) (cond (not b) (x ∷ xs) xs)
kept id x xs true e h = h
kept id x xs false e h = (λ s. let wrong : true ≡ false = sym (same_test x.0 id s) ∙ e in absurd cc, h)

cleared : (id : ℕ) (es : List (ℕ × ℕ)) → AllByRecursion (λ e. e.0 ≢ id) (without id es)
cleared id [] = tt
cleared id (x ∷ xs) = kept id x (without id xs) (x.0 == id) refl (cleared id xs)

in_map : (v : Nodes) (obs : Objects) (o : ℕ) → o < length obs → o < length (map (lists_of v) obs)
in_map v obs o lo = subst (λ (k : ℕ). o < k) (sym (length-map obs (lists_of v))) lo

out_of_map : (v : Nodes) (obs : Objects) (o : ℕ) → o < length (map (lists_of v) obs) → o < length obs
out_of_map v obs o lo = subst (λ (k : ℕ). o < k) (length-map obs (lists_of v)) lo

module _ (v : Nodes) (obs : Objects) (o id : ℕ) (hold : Holds v obs) where
  freed_entry : o < length obs → IsEntry id (lists_at (pool_of v obs) o).entries → IsFree id (unlinked (pool_of v obs) o id)
  freed_entry lo is_in =
      let at = entry_at id _ is_in in
      let c = cut_map v id at.1 (entries_of v (object_at obs o)) at.0 at.2 (ap (λ (x : Lists). x.entries) (sym (seen_at v obs o lo)) ∙ at.3) in
      let me = (all_right (IsOf v o false) c.0 (id ∷ c.1) (subst (AllByRecursion (IsOf v o false)) c.2 (hold.2 o lo).2)).0 in
      let stack = avoids v o true id (stack_of v (object_at obs o)) (λ p. let wrong : true ≡ false = sym p.1 ∙ me.1 in absurd cc) (hold.2 o lo).5 in
      joined id o (pool_of v obs) (record { entries = without id (lists_at (pool_of v obs) o).entries; stack = (lists_at (pool_of v obs) o).stack }) (in_map v obs o lo)
      (cleared id (lists_at (pool_of v obs) o).entries, subst (λ (l : Lists). Avoids id l.stack) (sym (seen_at v obs o lo)) stack)
      (λ q lq n. other v obs o q id false hold (out_of_map v obs q lq) n me)

  freed_top : (is : List ℕ) → o < length obs → stack_of v (object_at obs o) ≡ id ∷ is → IsFree id (popped (pool_of v obs) o)
  freed_top is lo top =
      let h = hold.2 o lo in
      let me = (subst (AllByRecursion (IsOf v o true)) top h.5).0 in
      let entries = avoids v o false id (entries_of v (object_at obs o)) (λ p. let wrong : false ≡ true = sym p.1 ∙ me.1 in absurd cc) h.2 in
      let below = (subst IsApart top h.7).0 in
      joined id o (pool_of v obs) (record { entries = (lists_at (pool_of v obs) o).entries; stack = rest_of (lists_at (pool_of v obs) o).stack }) (in_map v obs o lo)
      (subst (λ (l : Lists). Clear id (record { entries = l.entries; stack = rest_of l.stack })) (sym (seen_at v obs o lo)) (named v id (entries_of v (object_at obs o)) entries, subst (λ (st : List ℕ). Avoids id (rest_of st)) (sym top) below))
      (λ q lq n. other v obs o q id true hold (out_of_map v obs q lq) n me)

  known_top : (is : List ℕ) → o < length obs → stack_of v (object_at obs o) ≡ id ∷ is → id < vec_len v
  known_top is lo top = (subst (AllByRecursion (λ j. j < vec_len v)) top (hold.2 o lo).6).0

-- the top of a list
topped : (id : ℕ) (st : List ℕ) → Some id ≡ first_of st → st ≡ id ∷ rest_of st
topped id [] h = absurd cc
topped id (x ∷ xs) h = let same : id ≡ x = cc in ap (λ (y : ℕ). y ∷ xs) (sym same)

known_object : (v : Nodes) (obs : Objects) (o id : ℕ) → Some id ≡ first_of (lists_at (pool_of v obs) o).stack → o < length obs
known_object v obs o id h = elim (cases_lt o (length obs)) [
  | inl l ↦ l
  | inr g ↦
      let none : lists_at (pool_of v obs) o ≡ no_lists = get_or_past (map (lists_of v) obs) o no_lists (subst (λ (k : ℕ). k ≤ o) (sym (length-map obs (lists_of v))) g) in
      let wrong : Some id ≡ first_of [] = h ∙ ap (λ (l : Lists). first_of l.stack) none in
      absurd cc
]

-- what `unlink`, `pop_top` and the looks say of the task that they answer
module _ (v : Nodes) (obs : Objects) (p : Pool) (o id : ℕ) (hold : Holds v obs) (seen : pool_of v obs ≡ p) where
  pub unlinked_is_free : IsEntry id (lists_at p o).entries → IsFree id (unlinked p o id)
  unlinked_is_free is_in =
      let here = subst (λ (q : Pool). IsEntry id (lists_at q o).entries) (sym seen) is_in in
      subst (λ (q : Pool). IsFree id (unlinked q o id)) seen (freed_entry v obs o id hold (out_of_map v obs o (entry_known id (pool_of v obs) o here)) here)

  pub entry_is_node : IsEntry id (lists_at p o).entries → id < p.count
  entry_is_node is_in =
      let here = subst (λ (q : Pool). IsEntry id (lists_at q o).entries) (sym seen) is_in in
      subst (λ (q : Pool). id < q.count) seen (entry_below v obs o id hold (out_of_map v obs o (entry_known id (pool_of v obs) o here)) (entry_at id _ here))

  top_here : Some id ≡ first_of (lists_at p o).stack → Some id ≡ first_of (lists_at (pool_of v obs) o).stack
  top_here top = top ∙ ap (λ (q : Pool). first_of (lists_at q o).stack) (sym seen)

  top_stack : (top : Some id ≡ first_of (lists_at p o).stack) → stack_of v (object_at obs o) ≡ id ∷ rest_of (stack_of v (object_at obs o))
  top_stack top =
      let lo = known_object v obs o id (top_here top) in
      topped id (stack_of v (object_at obs o)) (top_here top ∙ ap (λ (l : Lists). first_of l.stack) (seen_at v obs o lo))

  pub top_is_free : Some id ≡ first_of (lists_at p o).stack → IsFree id (popped p o)
  top_is_free top = subst (λ (q : Pool). IsFree id (popped q o)) seen (freed_top v obs o id hold (rest_of (stack_of v (object_at obs o))) (known_object v obs o id (top_here top)) (top_stack top))

  pub top_is_node : Some id ≡ first_of (lists_at p o).stack → id < p.count
  top_is_node top = subst (λ (q : Pool). id < q.count) seen (known_top v obs o id hold (rest_of (stack_of v (object_at obs o))) (known_object v obs o id (top_here top)) (top_stack top))
