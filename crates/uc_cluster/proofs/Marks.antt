-- What each call does to the sets of processors.
use Rattle.std.proofs.Common.{◌≡◌, ◌≢◌, ℕ, zero, suc, ◌<◌, ◌≤◌, ◌+◌, ◌==◌, ◌&&◌, ◌||◌, T, eqb→eq, Bool, true, false, not, cond, List, [], ◌∷◌, ◌++◌, length, replicate, Option, Some, None, refl, sym, ap, ◌∙◌, subst, ◌⊎◌, inl, inr, arith, rules, slice_index_or, slice_set, length-append, length-set, get_or-set_same, get_or-set_other}
use Rattle.std.specs.Option.{is_none, IfSome, IfNone}
use Rattle.std.proofs.lemmas.Bool.{cases_eq, cases_lt, lt-ltb, le-ltb}
use Rattle.std.proofs.Math.ListN.{get_or-eq_default}
use lib.Dec.{ltb}
use Rattle.uc_cluster.specs.declared.clusters.Processor.{Processor}
use Rattle.uc_cluster.specs.declared.processor_set.ProcessorSet.{ProcessorSet}
use Rattle.uc_cluster.specs.Standing.{no_processor, new_processor, running, queue_at, is_nobody, may_take, first_from}
use Rattle.uc_cluster.specs.ProcessorSet.{has, no_set, set_at, is_idle, is_served, IsMarked}

test_same : (m n : ℕ) → (m == n) ≡ true → m ≡ n
test_same m n t = eqb→eq m n (subst T (sym t) tt)

self_test : (m : ℕ) → (m == m) ≡ true
self_test m = search rules

other_test : (b : Bool) → (b ≡ true → ⊥) → b ≡ false
other_test true h = absurd (h refl)
other_test false h = refl

apart_test : (m n : ℕ) → m ≢ n → (m == n) ≡ false
apart_test m n d = other_test (m == n) (λ t. d (test_same m n t))

abbrev at : List Processor → ℕ → Processor
at ps p = slice_index_or ps p no_processor

abbrev Sets : Type 0
Sets = List ProcessorSet

-- a processor is written, and is in a set or not
written : (set new : ProcessorSet) (f : Processor → Bool) (ps : List Processor) (q : ℕ) (x : Processor) (b : Bool) → q < length ps → f x ≡ b → ((p : ℕ) → p < 64 → has new p ≡ cond (p == q) b (has set p)) → ((p : ℕ) → p < 64 → has set p ≡ f (at ps p)) → (p : ℕ) → p < 64 → has new p ≡ f (at (slice_set ps q x) p)
written set new f ps q x b lt is now old p small = elim (cases_eq p q) [
  | inl e ↦ subst (λ (y : ℕ). has new y ≡ f (at (slice_set ps q x) y)) (sym e) (
      now q (subst (λ (y : ℕ). y < 64) e small) ∙ ap (λ (t : Bool). cond t b (has set q)) (self_test q) ∙ sym is ∙ ap f (sym (get_or-set_same ps q x no_processor lt))
      )
  | inr d ↦ now p small ∙ ap (λ (t : Bool). cond t b (has set p)) (apart_test p q d) ∙ old p small ∙ ap f (sym (get_or-set_other ps q p x no_processor d))
]

-- a processor is written that has the same cluster
same_cluster : (ps : List Processor) (q : ℕ) (x : Processor) → x.cluster ≡ (at ps q).cluster → (p : ℕ) → (at (slice_set ps q x) p).cluster ≡ (at ps p).cluster
same_cluster [] q x e p = refl
same_cluster (y ∷ ps) zero x e zero = e
same_cluster (y ∷ ps) zero x e (suc p) = refl
same_cluster (y ∷ ps) (suc q) x e zero = refl
same_cluster (y ∷ ps) (suc q) x e (suc p) = same_cluster ps q x e p

-- what runs on a processor, or whether it is open, is changed
pub rewritten : (qs : List (List ℕ)) (ps : List Processor) (sets : Sets) (idle served new : ProcessorSet) (q : ℕ) (x : Processor) (b : Bool) → q < length ps → x.cluster ≡ (at ps q).cluster → is_idle x ≡ b → ((p : ℕ) → p < 64 → has new p ≡ cond (p == q) b (has idle p))
    → IsMarked qs ps sets idle served → IsMarked qs (slice_set ps q x) sets new served
rewritten qs ps sets idle served new q x b lt same is now marked =
    let n = length-set ps q x in
    record {
      sets_count = marked.sets_count;
      known = λ p small. subst (λ (c : ℕ). c < length qs) (sym (same_cluster ps q x same p)) (marked.known p (subst (λ (m : ℕ). p < m) n small));
      members = λ k p small. marked.members k p small ∙ ap (λ (m : ℕ). ltb p m && ((at ps p).cluster == k)) (sym n) ∙ ap (λ (c : ℕ). ltb p (length (slice_set ps q x)) && (c == k)) (sym (same_cluster ps q x same p));
      idle_are = written idle new is_idle ps q x b lt is now marked.idle_are;
      served_are = λ p small. marked.served_are p (subst (λ (m : ℕ). p < m) n small) ∙ ap (λ (c : ℕ). not (is_nobody (queue_at qs c))) (sym (same_cluster ps q x same p));
    }

-- ---- queues
some_push : (q : List ℕ) (t : ℕ) → is_nobody (q ++ t ∷ []) ≡ false
some_push [] t = refl
some_push (x ∷ q) t = refl

or_true : (b : Bool) → (b || true) ≡ true
or_true true = refl
or_true false = refl

or_false : (b : Bool) → (b || false) ≡ b
or_false true = refl
or_false false = refl

pub and_true : (b : Bool) → (b && true) ≡ b
and_true true = refl
and_true false = refl

and_false : (b : Bool) → (b && false) ≡ false
and_false true = refl
and_false false = refl

-- a task more in the queue of a cluster
pub pushed : (qs : List (List ℕ)) (ps : List Processor) (sets : Sets) (idle served new : ProcessorSet) (k t : ℕ) → k < length qs → length ps ≤ 64 → ((p : ℕ) → has new p ≡ (has served p || has (set_at sets k) p))
    → IsMarked qs ps sets idle served → IsMarked (slice_set qs k (queue_at qs k ++ t ∷ [])) ps sets idle new
pushed qs ps sets idle served new k t lt few now marked =
    let q = queue_at qs k ++ t ∷ [] in
    let n = length-set qs k q in
    record {
      sets_count = marked.sets_count ∙ sym n;
      known = λ p small. subst (λ (m : ℕ). (at ps p).cluster < m) (sym n) (marked.known p small);
      members = marked.members;
      idle_are = marked.idle_are;
      served_are = λ p small.
          let mem = marked.members k p (omega (arith, small, few)) ∙ ap (λ (b : Bool). b && ((at ps p).cluster == k)) (lt-ltb p (length ps) small) in
          let now_p = now p ∙ ap (λ (b : Bool). has served p || b) mem in
          elim (cases_eq (at ps p).cluster k) [
            | inl e ↦
                now_p ∙ ap (λ (c : ℕ). has served p || (c == k)) e ∙ ap (λ (b : Bool). has served p || b) (self_test k) ∙ or_true (has served p)
                ∙ sym (ap (λ (c : ℕ). not (is_nobody (queue_at (slice_set qs k q) c))) e ∙ ap (λ (l : List ℕ). not (is_nobody l)) (get_or-set_same qs k q [] lt) ∙ ap not (some_push (queue_at qs k) t))
            | inr d ↦
                now_p ∙ ap (λ (b : Bool). has served p || b) (apart_test (at ps p).cluster k d) ∙ or_false (has served p) ∙ marked.served_are p small
                ∙ ap (λ (l : List ℕ). not (is_nobody l)) (sym (get_or-set_other qs k (at ps p).cluster q [] d))
          ];
    }

-- the front of the queue of a cluster leaves
pub shifted : (qs : List (List ℕ)) (ps : List Processor) (sets : Sets) (idle served new : ProcessorSet) (k : ℕ) (q : List ℕ) → k < length qs → length ps ≤ 64 → ((p : ℕ) → p < 64 → has new p ≡ (has served p && not (is_nobody q && has (set_at sets k) p))) → is_nobody (queue_at qs k) ≡ false
    → IsMarked qs ps sets idle served → IsMarked (slice_set qs k q) ps sets idle new
shifted qs ps sets idle served new k q lt few now some marked =
    let n = length-set qs k q in
    record {
      sets_count = marked.sets_count ∙ sym n;
      known = λ p small. subst (λ (m : ℕ). (at ps p).cluster < m) (sym n) (marked.known p small);
      members = marked.members;
      idle_are = marked.idle_are;
      served_are = λ p small.
          let mem = marked.members k p (omega (arith, small, few)) ∙ ap (λ (b : Bool). b && ((at ps p).cluster == k)) (lt-ltb p (length ps) small) in
          let now_p = now p (omega (arith, small, few)) ∙ ap (λ (b : Bool). has served p && not (is_nobody q && b)) mem in
          elim (cases_eq (at ps p).cluster k) [
            | inl e ↦
                now_p ∙ ap (λ (c : ℕ). has served p && not (is_nobody q && (c == k))) e ∙ ap (λ (b : Bool). has served p && not (is_nobody q && b)) (self_test k)
                ∙ ap (λ (b : Bool). b && not (is_nobody q && true)) (marked.served_are p small ∙ ap (λ (c : ℕ). not (is_nobody (queue_at qs c))) e ∙ ap not some)
                ∙ ap not (and_true (is_nobody q))
                ∙ sym (ap (λ (c : ℕ). not (is_nobody (queue_at (slice_set qs k q) c))) e ∙ ap (λ (l : List ℕ). not (is_nobody l)) (get_or-set_same qs k q [] lt))
            | inr d ↦
                now_p ∙ ap (λ (b : Bool). has served p && not (is_nobody q && b)) (apart_test (at ps p).cluster k d) ∙ ap (λ (b : Bool). has served p && not b) (and_false (is_nobody q)) ∙ and_true (has served p) ∙ marked.served_are p small
                ∙ ap (λ (l : List ℕ). not (is_nobody l)) (sym (get_or-set_other qs k (at ps p).cluster q [] d))
          ];
    }

-- ---- one more
queue_push : (qs : List (List ℕ)) (k : ℕ) → queue_at (qs ++ [] ∷ []) k ≡ queue_at qs k
queue_push [] zero = refl
queue_push [] (suc k) = refl
queue_push (q ∷ qs) zero = refl
queue_push (q ∷ qs) (suc k) = queue_push qs k

set_push : (sets : Sets) (s : ProcessorSet) (k p : ℕ) → ((q : ℕ) → has s q ≡ false) → has (set_at (sets ++ s ∷ []) k) p ≡ has (set_at sets k) p
set_push [] s zero p none = none p ∙ sym (no_bits p)
  where
    no_bits : (q : ℕ) → has no_set q ≡ false
    no_bits q = ap (λ (n : ℕ). n == 1) (Rattle.std.proofs.lemmas.Nat.Bits.bit_at-zero q)
set_push [] s (suc k) p none = refl
set_push (x ∷ sets) s zero p none = refl
set_push (x ∷ sets) s (suc k) p none = set_push sets s k p none

pub more_cluster : (qs : List (List ℕ)) (ps : List Processor) (sets : Sets) (idle served new : ProcessorSet) → ((p : ℕ) → has new p ≡ false) → IsMarked qs ps sets idle served → IsMarked (qs ++ [] ∷ []) ps (sets ++ new ∷ []) idle served
more_cluster qs ps sets idle served new none marked =
    let n = length-append qs ([] ∷ []) in let m = length-append sets (new ∷ []) in
    record {
      sets_count = let e = marked.sets_count in omega (arith, n, m, e);
      known = λ p small. let e = marked.known p small in omega (arith, n, e);
      members = λ k p small. set_push sets new k p none ∙ marked.members k p small;
      idle_are = marked.idle_are;
      served_are = λ p small. marked.served_are p small ∙ ap (λ (l : List ℕ). not (is_nobody l)) (sym (queue_push qs (at ps p).cluster));
    }

at_push : (ps : List Processor) (x : Processor) (p : ℕ) → p < length ps → at (ps ++ x ∷ []) p ≡ at ps p
at_push [] x p lt = absurd (omega arith)
at_push (y ∷ ps) x zero lt = refl
at_push (y ∷ ps) x (suc p) lt = at_push ps x p (omega arith)

at_last : (ps : List Processor) (x : Processor) → at (ps ++ x ∷ []) (length ps) ≡ x
at_last [] x = refl
at_last (y ∷ ps) x = at_last ps x

at_far : (ps : List Processor) (x : Processor) (p : ℕ) → length ps < p → at (ps ++ x ∷ []) p ≡ no_processor
at_far [] x zero lt = absurd (omega arith)
at_far [] x (suc p) lt = refl
at_far (y ∷ ps) x zero lt = absurd (omega arith)
at_far (y ∷ ps) x (suc p) lt = at_far ps x p (omega arith)

at_none : (ps : List Processor) (p : ℕ) → length ps ≤ p → at ps p ≡ no_processor
at_none ps p ge = get_or-eq_default ps no_processor ge

pub more_processor : (qs : List (List ℕ)) (ps : List Processor) (sets : Sets) (idle served idles serves mems : ProcessorSet) (k : ℕ) → k < length qs → length ps < 64 → ((p : ℕ) → p < 64 → has idles p ≡ cond (p == length ps) true (has idle p))
    → ((p : ℕ) → p < 64 → has serves p ≡ cond (p == length ps) (not (is_nobody (queue_at qs k))) (has served p)) → ((p : ℕ) → p < 64 → has mems p ≡ cond (p == length ps) true (has (set_at sets k) p)) → IsMarked qs ps sets idle served
    → IsMarked qs (ps ++ new_processor k ∷ []) (slice_set sets k mems) idles serves
more_processor qs ps sets idle served idles serves mems k lt few idles_are serves_are mems_are marked =
    let x = new_processor k in let n = length ps in
    let long = length-append ps (x ∷ []) in
    record {
      sets_count = length-set sets k mems ∙ marked.sets_count;
      known = λ p small. elim (cases_eq p n) [
        | inl e ↦ subst (λ (y : ℕ). (at (ps ++ x ∷ []) y).cluster < length qs) (sym e) (subst (λ (y : Processor). y.cluster < length qs) (sym (at_last ps x)) lt)
        | inr d ↦ subst (λ (y : Processor). y.cluster < length qs) (sym (at_push ps x p (omega (arith, long, small, d)))) (marked.known p (omega (arith, long, small, d)))
      ];
      members = λ j p small. elim (cases_eq j k) [
        | inl e ↦ subst (λ (y : ℕ). has (set_at (slice_set sets k mems) y) p ≡ (ltb p (length (ps ++ x ∷ [])) && ((at (ps ++ x ∷ []) p).cluster == y))) (sym e) (
            ap (λ (s : ProcessorSet). has s p) (get_or-set_same sets k mems no_set (let c = marked.sets_count in omega (arith, c, lt))) ∙ mems_are p small ∙ mine p small
            )
        | inr d ↦ ap (λ (s : ProcessorSet). has s p) (get_or-set_other sets k j mems no_set d) ∙ marked.members j p small ∙ theirs j d p small
      ];
      idle_are = λ p small. idles_are p small ∙ elim (cases_eq p n) [
        | inl e ↦ ap (λ (b : Bool). cond b true (has idle p)) (ap (λ (y : ℕ). y == n) e ∙ self_test n) ∙ sym (ap is_idle (ap (at (ps ++ x ∷ [])) e ∙ at_last ps x))
        | inr d ↦ ap (λ (b : Bool). cond b true (has idle p)) (apart_test p n d) ∙ marked.idle_are p small ∙ ap is_idle (same p d)
      ];
      served_are = λ p small. serves_are p (omega (arith, long, small, few)) ∙ elim (cases_eq p n) [
        | inl e ↦ ap (λ (b : Bool). cond b (not (is_nobody (queue_at qs k))) (has served p)) (ap (λ (y : ℕ). y == n) e ∙ self_test n) ∙ sym (ap (is_served qs) (ap (at (ps ++ x ∷ [])) e ∙ at_last ps x))
        | inr d ↦ ap (λ (b : Bool). cond b (not (is_nobody (queue_at qs k))) (has served p)) (apart_test p n d) ∙ marked.served_are p (omega (arith, long, small, d)) ∙ ap (is_served qs) (same p d)
      ];
    }
  where
    same : (p : ℕ) → p ≢ length ps → at ps p ≡ at (ps ++ new_processor k ∷ []) p
    same p d = elim (cases_lt p (length ps)) [
      | inl small ↦ sym (at_push ps (new_processor k) p small)
      | inr ge ↦ at_none ps p ge ∙ sym (at_far ps (new_processor k) p (omega (arith, ge, d)))
    ]

    below : (p : ℕ) → p ≢ length ps → ltb p (length ps) ≡ ltb p (length (ps ++ new_processor k ∷ []))
    below p d = let long = length-append ps (new_processor k ∷ []) in elim (cases_lt p (length ps)) [
      | inl small ↦ lt-ltb p (length ps) small ∙ sym (lt-ltb p (length (ps ++ new_processor k ∷ [])) (omega (arith, long, small)))
      | inr ge ↦ le-ltb p (length ps) ge ∙ sym (le-ltb p (length (ps ++ new_processor k ∷ [])) (omega (arith, long, ge, d)))
    ]

    theirs : (j : ℕ) → j ≢ k → (p : ℕ) → p < 64 → (ltb p (length ps) && ((at ps p).cluster == j)) ≡ (ltb p (length (ps ++ new_processor k ∷ [])) && ((at (ps ++ new_processor k ∷ []) p).cluster == j))
    theirs j n p small = elim (cases_eq p (length ps)) [
      | inl e ↦
          ap (λ (b : Bool). b && ((at ps p).cluster == j)) (le-ltb p (length ps) (omega (arith, e)))
          ∙ sym (ap (λ (y : Processor). ltb p (length (ps ++ new_processor k ∷ [])) && (y.cluster == j)) (ap (at (ps ++ new_processor k ∷ [])) e ∙ at_last ps (new_processor k)) ∙ ap (λ (b : Bool). ltb p (length (ps ++ new_processor k ∷ [])) && b) (apart_test k j (λ z. n (sym z))) ∙ and_false (ltb p (length (ps ++ new_processor k ∷ []))))
      | inr d ↦ ap (λ (b : Bool). b && ((at ps p).cluster == j)) (below p d) ∙ ap (λ (y : Processor). ltb p (length (ps ++ new_processor k ∷ [])) && (y.cluster == j)) (same p d)
    ]

    mine : (p : ℕ) → p < 64 → cond (p == length ps) true (has (set_at sets k) p) ≡ (ltb p (length (ps ++ new_processor k ∷ [])) && ((at (ps ++ new_processor k ∷ []) p).cluster == k))
    mine p small = let long = length-append ps (new_processor k ∷ []) in elim (cases_eq p (length ps)) [
      | inl e ↦
          ap (λ (b : Bool). cond b true (has (set_at sets k) p)) (ap (λ (y : ℕ). y == length ps) e ∙ self_test (length ps))
          ∙ sym (ap (λ (b : Bool). b && ((at (ps ++ new_processor k ∷ []) p).cluster == k)) (lt-ltb p (length (ps ++ new_processor k ∷ [])) (omega (arith, long, e))) ∙ ap (λ (y : Processor). y.cluster == k) (ap (at (ps ++ new_processor k ∷ [])) e ∙ at_last ps (new_processor k)) ∙ self_test k)
      | inr d ↦
          ap (λ (b : Bool). cond b true (has (set_at sets k) p)) (apart_test p (length ps) d) ∙ marked.members k p small
          ∙ ap (λ (b : Bool). b && ((at ps p).cluster == k)) (below p d) ∙ ap (λ (y : Processor). ltb p (length (ps ++ new_processor k ∷ [])) && (y.cluster == k)) (same p d)
    ]

-- ---- the opening
at_opening : (n p : ℕ) → at (replicate n (new_processor 0)) p ≡ cond (ltb p n) (new_processor 0) no_processor
at_opening zero p = ap (λ (b : Bool). cond b (new_processor 0) no_processor) (sym (le-ltb p 0 (omega arith)))
at_opening (suc n) zero = ap (λ (b : Bool). cond b (new_processor 0) no_processor) (sym (lt-ltb 0 (suc n) (omega arith)))
at_opening (suc n) (suc p) = at_opening n p ∙ ap (λ (b : Bool). cond b (new_processor 0) no_processor) (by (cases_lt p n))
  where
    by : (p < n) ⊎ (n ≤ p) → ltb p n ≡ ltb (suc p) (suc n)
    by (inl small) = lt-ltb p n small ∙ sym (lt-ltb (suc p) (suc n) (omega (arith, small)))
    by (inr ge) = le-ltb p n ge ∙ sym (le-ltb (suc p) (suc n) (omega (arith, ge)))

opening_length : (n : ℕ) → length (replicate n (new_processor 0)) ≡ n
opening_length zero = refl
opening_length (suc n) = ap suc (opening_length n)

idle_opening : (b : Bool) → is_idle (cond b (new_processor 0) no_processor) ≡ b
idle_opening true = refl
idle_opening false = refl

cluster_opening : (b : Bool) → (cond b (new_processor 0) no_processor).cluster ≡ 0
cluster_opening true = refl
cluster_opening false = refl

pub opening_marked : (n : ℕ) (idle served : ProcessorSet) → ((p : ℕ) → has idle p ≡ ltb p n) → ((p : ℕ) → has served p ≡ false) → IsMarked ([] ∷ []) (replicate n (new_processor 0)) (idle ∷ []) idle served
opening_marked n idle served first none = record {
  sets_count = refl;
  known = λ p small. subst (λ (c : ℕ). c < 1) (sym (ap (λ (x : Processor). x.cluster) (at_opening n p) ∙ cluster_opening (ltb p n))) (omega arith);
  members = λ k p small. member k p;
  idle_are = λ p small. first p ∙ sym (ap is_idle (at_opening n p) ∙ idle_opening (ltb p n));
  served_are = λ p small. none p ∙ sym (ap (λ (c : ℕ). not (is_nobody (queue_at ([] ∷ []) c))) (ap (λ (x : Processor). x.cluster) (at_opening n p) ∙ cluster_opening (ltb p n)));
}
  where
    cluster_0 : (p : ℕ) → (at (replicate n (new_processor 0)) p).cluster ≡ 0
    cluster_0 p = ap (λ (x : Processor). x.cluster) (at_opening n p) ∙ cluster_opening (ltb p n)

    member : (k p : ℕ) → has (set_at (idle ∷ []) k) p ≡ (ltb p (length (replicate n (new_processor 0))) && ((at (replicate n (new_processor 0)) p).cluster == k))
    member zero p = first p ∙ sym (ap (λ (m : ℕ). ltb p m && ((at (replicate n (new_processor 0)) p).cluster == 0)) (opening_length n) ∙ ap (λ (c : ℕ). ltb p n && (c == 0)) (cluster_0 p) ∙ and_true (ltb p n))
    member (suc k) p =
        ap (λ (b : ℕ). b == 1) (Rattle.std.proofs.lemmas.Nat.Bits.bit_at-zero p)
        ∙ sym (ap (λ (c : ℕ). ltb p (length (replicate n (new_processor 0))) && (c == suc k)) (cluster_0 p) ∙ ap (λ (b : Bool). ltb p (length (replicate n (new_processor 0))) && b) (apart_test 0 (suc k) (λ z. omega (arith, z))) ∙ and_false (ltb p (length (replicate n (new_processor 0)))))

-- ---- the least that may take a task
take_split : (x : Processor) (qs : List (List ℕ)) → may_take qs x ≡ (is_idle x && is_served qs x)
take_split x qs = by x.is_open (is_none x.task)
  where
    by : (a b : Bool) → (a && (b && not (is_nobody (queue_at qs x.cluster)))) ≡ ((a && b) && not (is_nobody (queue_at qs x.cluster)))
    by true b = refl
    by false b = refl

pub first_is : (test : Processor → Bool) (n p : ℕ) (ps : List Processor) → p < length ps → test (at ps p) ≡ true → ((q : ℕ) → q < p → test (at ps q) ≡ false) → Some (n + p) ≡ first_from test n ps
first_is test n p [] lt t before = absurd (omega arith)
first_is test n zero (x ∷ ps) lt t before =
    let e : n + 0 ≡ n = omega arith in
    ap (λ (m : ℕ). Some m) e ∙ sym (ap (λ (b : Bool). cond b (Some n) (first_from test (n + 1) ps)) t)
first_is test n (suc p) (x ∷ ps) lt t before =
    let e : n + suc p ≡ n + 1 + p = omega arith in
    ap (λ (m : ℕ). Some m) e ∙ first_is test (n + 1) p ps (omega arith) t (λ q small. before (suc q) (omega (arith, small)))
    ∙ sym (ap (λ (b : Bool). cond b (Some n) (first_from test (n + 1) ps)) (before 0 (omega arith)))

pub first_is_none : (test : Processor → Bool) (n : ℕ) (ps : List Processor) → ((q : ℕ) → q < length ps → test (at ps q) ≡ false) → None ≡ first_from test n ps
first_is_none test n [] none = refl
first_is_none test n (x ∷ ps) none = first_is_none test (n + 1) ps (λ q small. none (suc q) (omega (arith, small))) ∙ sym (ap (λ (b : Bool). cond b (Some n) (first_from test (n + 1) ps)) (none 0 (omega arith)))

module _ (qs : List (List ℕ)) (ps : List Processor) (sets : Sets) (idle served both : ProcessorSet) (few : length ps ≤ 64) (is : (p : ℕ) → has both p ≡ (has idle p && has served p)) (marked : IsMarked qs ps sets idle served) where
  abbrev test : Processor → Bool
  test = may_take qs

  both_are : (p : ℕ) → p < length ps → has both p ≡ may_take qs (at ps p)
  both_are p small = is p ∙ ap (λ (b : Bool). b && has served p) (marked.idle_are p (omega (arith, small, few))) ∙ ap (λ (b : Bool). is_idle (at ps p) && b) (marked.served_are p small) ∙ sym (take_split (at ps p) qs)

  pub least_known : (p : ℕ) → p < 64 → has both p ≡ true → p < length ps
  least_known p small h = elim (cases_lt p (length ps)) [
    | inl lt ↦ lt
    | inr ge ↦ absurd (no_both (idle_off ge) h)
  ]
    where
      idle_off : length ps ≤ p → has both p ≡ false
      idle_off ge = is p ∙ ap (λ (b : Bool). b && has served p) (marked.idle_are p small ∙ ap is_idle (at_none ps p ge))

      no_both : has both p ≡ false → has both p ≡ true → ⊥
      no_both f t = cc

  pub least_takes : (p : ℕ) → p < 64 → has both p ≡ true → may_take qs (at ps p) ≡ true
  least_takes p small h = sym (both_are p (least_known p small h)) ∙ h

  pub least_first : (p : ℕ) → p < 64 → has both p ≡ true → ((q : ℕ) → q < p → has both q ≡ false) → Some p ≡ first_from (may_take qs) 0 ps
  least_first p small h before =
      let known = least_known p small h in
      let e : p ≡ 0 + p = omega arith in
      ap (λ (m : ℕ). Some m) e ∙ first_is (may_take qs) 0 p ps known (least_takes p small h) (λ q lt. sym (both_are q (omega (arith, lt, known))) ∙ before q lt)

  pub least_none : ((q : ℕ) → has both q ≡ false) → None ≡ first_from (may_take qs) 0 ps
  least_none none = first_is_none (may_take qs) 0 ps (λ q small. sym (both_are q small) ∙ none q)

pub taken_is : (qs : List (List ℕ)) (ps : List Processor) (sets : Sets) (idle served both : ProcessorSet) (r : Option ℕ) → length ps ≤ 64 → ((p : ℕ) → has both p ≡ (has idle p && has served p)) → IsMarked qs ps sets idle served
    → IfSome r (λ p. (p < 64) × (has both p ≡ true) × ((q : ℕ) → q < p → has both q ≡ false)) → IfNone r ((p : ℕ) → has both p ≡ false) → r ≡ first_from (may_take qs) 0 ps
taken_is qs ps sets idle served both None few is marked some none = least_none qs ps sets idle served both few is marked none
taken_is qs ps sets idle served both (Some p) few is marked some none = least_first qs ps sets idle served both few is marked p some.0 some.1 some.2

-- a processor that may take a task has one to take
pub takes_some : (x : Processor) (qs : List (List ℕ)) → may_take qs x ≡ true → is_nobody (queue_at qs x.cluster) ≡ false
takes_some x qs h = by x.is_open (is_none x.task) (is_nobody (queue_at qs x.cluster)) h
  where
    by : (a b n : Bool) → (a && (b && not n)) ≡ true → n ≡ false
    by true true false e = refl
    by true true true e = absurd cc
    by true false n e = absurd cc
    by false b n e = absurd cc

pub busy_is_not_idle : (x : Processor) (t : ℕ) → is_idle (running (Some t) x) ≡ false
busy_is_not_idle x t = and_false x.is_open
