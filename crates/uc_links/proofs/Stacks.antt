-- A node goes on an object's stack.
use Rattle.std.proofs.Common.{◌≡◌, ◌≢◌, ℕ, ◌<◌, List, [], ◌∷◌, true, Option, Some, None, sym, ap, ◌∙◌, subst, inl, inr, arith, slice_set, length, map}
use Rattle.std.proofs.lemmas.Bool.{cases_eq}
use denote.RawPtr.{InBlock}
use Rattle.uc_links.specs.declared.chain.Link.{Link}
use Rattle.uc_links.specs.declared.chain.NodePtr.{NodePtr}
use Rattle.uc_links.specs.declared.chain.Node.{Node}
use Rattle.uc_links.specs.Chain.{Nodes, node, index_of, place_of, IsNode, Avoids, Labelled, Relinked}
use Rattle.uc_links.specs.Held.{AllEnds, IsHeld, Changed, entries_of, stack_of}
use Rattle.uc_links.specs.Lists.{Lists, no_lists, IsFree, pushed_top}
use Rattle.uc_links.specs.View.{Objects, no_object, object_at, entry, lists_of, pool_of, Holds}
use Rattle.uc_links.proofs.Segments.{all_more}
use Rattle.uc_links.proofs.Chains.{index_same, index_place, same_places, flip}
use Rattle.uc_links.proofs.Pools.{found, held_kept, get_map, map_same, both, free_avoids}

pub stacked : (v0 v1 v2 : Nodes) (o : ℕ) (ob : AllEnds) (p : NodePtr) → IsNode v0 p → Labelled (index_of v0 p) o true 0 v0 v1 → Relinked 0 (index_of v1 p) (record { prev = None; next = ob.top }) v1 v2
    → let i = index_of v0 p in (es st : List ℕ) → IsHeld v0 o ob es st → Avoids i es → Avoids i st
    → IsHeld v2 o (record { entries = ob.entries; members = ob.members; top = Some p }) es (i ∷ st) × Changed i (i ∷ []) v0 v2
stacked v0 v1 v2 o ob p np lab rel es st h n1 n2 =
    let i = index_of v0 p in
    let r = subst (λ (j : ℕ). Relinked 0 j (record { prev = None; next = ob.top }) v1 v2) (index_same v0 v1 p lab.0) rel in
    let ep = r.0 ∙ lab.0 in let el = r.1 ∙ lab.1 in
    let same : (j : ℕ) → j ≢ i → node v2 j ≡ node v0 j = λ j n. r.6 j n ∙ lab.7 j n in
    let old = held_kept v0 v2 o ob es st ep el (all_more (λ j. j ≢ i) (λ j. node v2 j ≡ node v0 j) same es n1) (all_more (λ j. j ≢ i) (λ j. node v2 j ≡ node v0 j) same st n2) h in
    let label = r.5 i in
    let there : p ≡ place_of v2 i = np.0 ∙ ap (λ (f : ℕ → NodePtr). f i) (sym (same_places v0 v2 ep)) in
    let top = ap (λ (q : NodePtr). let a : Option NodePtr = Some q in a) there in
    let low : (node v2 i).member < 32 = subst (λ (x : ℕ). x < 32) (sym (label.1 ∙ lab.3)) (omega arith) in
    let id_same : (j : ℕ) → (node v2 j).id ≡ (node v0 j).id = λ j. elim (cases_eq j i) [ inl e ↦ subst (λ (x : ℕ). (node v2 x).id ≡ (node v0 x).id) (sym e) (label.0 ∙ lab.2) | inr n ↦ ap (λ (x : Node). x.id) (same j n) ] in (
      (old.0, old.1, old.2, top, (ap (λ (l : Link). l.next) r.2 ∙ old.3, old.4), ((label.2 ∙ lab.4, label.3 ∙ lab.5, low), old.5), (subst (λ (n : ℕ). i < n) (sym el) np.1, old.6), (n2, old.7), old.8),
      (ep, el, id_same, λ j n. ap (λ (x : Node). x.member) (same j n), λ j n. same j (flip i j n.0)),
    )

abbrev pub Stacks : Nodes → ℕ → AllEnds → AllEnds → Nodes → ℕ → Type 0
Stacks v o b b' w i = (es st : List ℕ) → IsHeld v o b es st → Avoids i es → Avoids i st → IsHeld w o b' es (i ∷ st) × Changed i (i ∷ []) v w

pub stack_gives : (v u w : Nodes) (obs : Objects) (o id : ℕ) (b b' : AllEnds) (p : NodePtr) → Holds v obs → o < length obs → IsFree id (pool_of v obs) → p ≡ place_of v id → u ≡ v → b ≡ object_at obs o
    → Stacks u o b b' w (index_of u p) → Holds w (slice_set obs o b') × (pool_of w (slice_set obs o b') ≡ pushed_top (pool_of v obs) o id)
stack_gives v u w obs o id b b' p hold lo free ep eu eb s =
    let ob = object_at obs o in let es = entries_of v ob in let st = stack_of v ob in
    let e = subst (λ (x : AllEnds). Stacks v o x b' w id) eb
    (subst (Stacks v o b b' w) (ap (index_of v) ep ∙ index_place v hold.0 id) (subst (λ (x : Nodes). Stacks x o b b' w (index_of x p)) eu s)) in
    let a = free_avoids v obs id free in
    let g = e es st (hold.2 o lo) (a o lo).0 (a o lo).1 in let change = g.1 in
    let f = found w o b' es (id ∷ st) (subst InBlock (sym change.0) hold.0) g.0 in
    let at_object = get_map (lists_of v) obs o no_object no_lists lo in
    let labels = map_same v w es (all_more (λ i. i ≢ id) (λ i. (node w i).member ≡ (node v i).member) change.3 es (a o lo).0) in
    let entries = ap (map (entry w)) f.0 ∙ labels ∙ ap (λ (x : Lists). x.entries) (sym at_object) in
    let stack = f.1 ∙ ap (λ (x : Lists). id ∷ x.stack) (sym at_object) in
    let apart = λ (is : List ℕ) (h : Avoids id is). all_more (λ i. i ≢ id) (λ i. (i ≢ id) × Avoids i (id ∷ [])) (λ i x. (x, (flip i id x, tt))) is h in
    both v w obs o id b' es (id ∷ st) (id ∷ []) _ hold lo g.0 change (λ z. record { entries = entries z; stack = stack z }) (λ q l n. apart (entries_of v (object_at obs q)) (a q l).0) (λ q l n. apart (stack_of v (object_at obs q)) (a q l).1)
