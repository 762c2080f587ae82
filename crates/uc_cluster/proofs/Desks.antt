-- What one entry more does to the clusters and the processors.
use Rattle.std.proofs.Common.{◌≡◌, ◌≢◌, ℕ, zero, suc, pos, ◌<◌, ◌≤◌, ◌+◌, ◌==◌, ◌||◌, T, eqb→eq, Bool, true, false, not, cond, List, [], ◌∷◌, ◌++◌, length, map, Option, None, refl, sym, ap, ◌∙◌, subst, arith, append_assoc, append-nil, slice_index_or, slice_set, length-append, length-set}
use Rattle.std.specs.Option.{option_to_list}
use Rattle.std.specs.List.{filter, list_any, count_by, range_with_len}
use Rattle.std.proofs.lemmas.List.Elements.{filter-append}
use Rattle.std.proofs.lemmas.List.Sums.{fold_push}
use Rattle.uc_entry.specs.declared.entry.Entry.{Entry}
use Rattle.uc_entry.specs.declared.entry.EntryKind.{EntryKind}
use Rattle.uc_entry.specs.declared.entry.EntryKind.TheVariants as kind
use Rattle.uc_entry.specs.declared.entry.Options.{Options}
use Rattle.uc_acts.specs.Open.{still_open}
use Rattle.uc_acts.specs.Journal.{Journal, asking}
use Rattle.uc_acts.specs.Queues.{cluster_count, processor_count, is_cluster, is_processor, makes_processor, closes, processors, open_processors}
use Rattle.uc_acts.proofs.OpenLemmas.{any_push, still_open_push, filter_true, or_false}
use Rattle.uc_acts.proofs.SoundLemmas.{self_test}
use Rattle.uc_cluster.specs.declared.clusters.Processor.{Processor}
use Rattle.uc_cluster.specs.Standing.{no_processor, new_processor, queue_at, closed}
use Rattle.uc_cluster.specs.Standing.{running as runs}
use Rattle.uc_cluster.specs.Laws.{AreOpen, numbered, opened, tells_processor, tells_cluster, LawCluster, LawClusters, LawProcessor, LawCloses, LawOpenStays}
use Rattle.uc_cluster.proofs.Mirrors.{unready, stays}

test_same : (m n : ℕ) → (m == n) ≡ true → m ≡ n
test_same m n t = eqb→eq m n (subst T (sym t) tt)

other_test : (b : Bool) → (b ≡ true → ⊥) → b ≡ false
other_test true h = absurd (h refl)
other_test false h = refl

apart_test : (m n : ℕ) → m ≢ n → (m == n) ≡ false
apart_test m n d = other_test (m == n) (λ t. d (test_same m n t))

-- ---- counts
count_push : (p : Entry → Bool) (j : Journal) (e : Entry) → count_by p (j ++ e ∷ []) ≡ count_by p j + cond (p e) 1 0
count_push p j e = fold_push (λ (n : ℕ) (x : Entry). n + cond (p x) 1 0) 0 j e

clusters_push : (j : Journal) (e : Entry) → cluster_count (j ++ e ∷ []) ≡ cluster_count j + cond (is_cluster e.kind) 1 0
unfolding cluster_count
clusters_push j e = let n = count_push (λ x. is_cluster x.kind) j e in omega (arith, n)

processors_more : (opts : Options) (j : Journal) (e : Entry) → processor_count opts (j ++ e ∷ []) ≡ processor_count opts j + cond (is_processor e.kind) 1 0
unfolding processor_count
processors_more opts j e = let n = count_push (λ x. is_processor x.kind) j e in omega (arith, n)

-- ---- filters
pub filter_same : {X : Type 0} (f g : X → Bool) → ((x : X) → f x ≡ g x) → (xs : List X) → filter f xs ≡ filter g xs
filter_same f g h [] = refl
filter_same f g h (x ∷ xs) =
    ap (λ (b : Bool). cond b (x ∷ filter f xs) (filter f xs)) (h x) ∙ ap (λ (l : List _). cond (g x) (x ∷ l) l) (filter_same f g h xs)

filter_both : {X : Type 0} (f g : X → Bool) (xs : List X) → filter (λ x. not (f x || g x)) xs ≡ filter (λ x. not (g x)) (filter (λ x. not (f x)) xs)
filter_both f g [] = refl
filter_both f g (x ∷ xs) = by (f x) (g x) refl refl (filter_both f g xs)
  where
    by : (a b : Bool) → f x ≡ a → g x ≡ b → filter (λ y. not (f y || g y)) xs ≡ filter (λ y. not (g y)) (filter (λ y. not (f y)) xs)
        → filter (λ y. not (f y || g y)) (x ∷ xs) ≡ filter (λ y. not (g y)) (filter (λ y. not (f y)) (x ∷ xs))
    by true true h k ih = simp (h, k, ih)
    by true false h k ih = simp (h, k, ih)
    by false true h k ih = simp (h, k, ih)
    by false false h k ih = simp (h, k, ih)

-- ---- lists of processors
numbered_push : (n : ℕ) (ps : List Processor) (x : Processor) → numbered n (ps ++ x ∷ []) ≡ numbered n ps ++ (n + length ps, x.cluster) ∷ []
numbered_push n [] x = let e : n ≡ n + 0 = omega arith in ap (λ (m : ℕ). (m, x.cluster) ∷ []) e
numbered_push n (p ∷ ps) x =
    let e : n + 1 + length ps ≡ n + suc (length ps) = omega arith in
    ap (λ (l : List (ℕ × ℕ)). (n, p.cluster) ∷ l) (numbered_push (n + 1) ps x ∙ ap (λ (m : ℕ). numbered (n + 1) ps ++ (m, x.cluster) ∷ []) e)

opened_case : (b : Bool) (y : ℕ × ℕ) (l r : List (ℕ × ℕ)) → cond b (y ∷ (l ++ r)) (l ++ r) ≡ cond b (y ∷ l) l ++ r
opened_case true y l r = refl
opened_case false y l r = refl

opened_push : (n : ℕ) (ps : List Processor) (k : ℕ) → opened n (ps ++ new_processor k ∷ []) ≡ opened n ps ++ (n + length ps, k) ∷ []
opened_push n [] k = let e : n ≡ n + 0 = omega arith in ap (λ (m : ℕ). (m, k) ∷ []) e
opened_push n (p ∷ ps) k =
    let e : n + 1 + length ps ≡ n + suc (length ps) = omega arith in
    let ih = opened_push (n + 1) ps k ∙ ap (λ (m : ℕ). opened (n + 1) ps ++ (m, k) ∷ []) e in
    ap (λ (l : List (ℕ × ℕ)). cond p.is_open ((n, p.cluster) ∷ l) l) ih ∙ opened_case p.is_open (n, p.cluster) (opened (n + 1) ps) ((n + suc (length ps), k) ∷ [])

-- a processor is written that has the same cluster
numbered_set : (n : ℕ) (ps : List Processor) (q : ℕ) (x : Processor) → x.cluster ≡ (slice_index_or ps q no_processor).cluster → numbered n (slice_set ps q x) ≡ numbered n ps
numbered_set n [] q x e = refl
numbered_set n (p ∷ ps) zero x e = ap (λ (k : ℕ). (n, k) ∷ numbered (n + 1) ps) e
numbered_set n (p ∷ ps) (suc q) x e = ap (λ (l : List (ℕ × ℕ)). (n, p.cluster) ∷ l) (numbered_set (n + 1) ps q x e)

opened_set : (n : ℕ) (ps : List Processor) (q : ℕ) (x : Processor) → x.cluster ≡ (slice_index_or ps q no_processor).cluster → x.is_open ≡ (slice_index_or ps q no_processor).is_open → opened n (slice_set ps q x) ≡ opened n ps
opened_set n [] q x e o = refl
opened_set n (p ∷ ps) zero x e o =
    ap (λ (k : ℕ). cond x.is_open ((n, k) ∷ opened (n + 1) ps) (opened (n + 1) ps)) e ∙ ap (λ (b : Bool). cond b ((n, p.cluster) ∷ opened (n + 1) ps) (opened (n + 1) ps)) o
opened_set n (p ∷ ps) (suc q) x e o = ap (λ (l : List (ℕ × ℕ)). cond p.is_open ((n, p.cluster) ∷ l) l) (opened_set (n + 1) ps q x e o)

-- the others, without that of this number
abbrev but : ℕ → List (ℕ × ℕ) → List (ℕ × ℕ)
but q xs = filter (λ x. not (q == x.0)) xs

but_above : (q n : ℕ) (ps : List Processor) → q < n → but q (opened n ps) ≡ opened n ps
but_above q n [] lt = refl
but_above q n (p ∷ ps) lt = by p.is_open (but_above q (n + 1) ps (omega (arith, lt)))
  where
    by : (b : Bool) → but q (opened (n + 1) ps) ≡ opened (n + 1) ps → but q (cond b ((n, p.cluster) ∷ opened (n + 1) ps) (opened (n + 1) ps)) ≡ cond b ((n, p.cluster) ∷ opened (n + 1) ps) (opened (n + 1) ps)
    by true ih =
        let d = apart_test q n (λ e. omega (arith, e, lt)) in
        ap (λ (b : Bool). cond (not b) ((n, p.cluster) ∷ but q (opened (n + 1) ps)) (but q (opened (n + 1) ps))) d ∙ ap (λ (l : List (ℕ × ℕ)). (n, p.cluster) ∷ l) ih
    by false ih = ih

but_closed : (n : ℕ) (ps : List Processor) (k q : ℕ) → q ≡ n + k → but q (opened n ps) ≡ opened n (slice_set ps k (closed (slice_index_or ps k no_processor)))
but_closed n [] k q e = refl
but_closed n (p ∷ ps) zero q e = by p.is_open (but_above q (n + 1) ps (omega (arith, e)))
  where
    by : (b : Bool) → but q (opened (n + 1) ps) ≡ opened (n + 1) ps → but q (cond b ((n, p.cluster) ∷ opened (n + 1) ps) (opened (n + 1) ps)) ≡ opened (n + 1) ps
    by true h =
        let same : q ≡ n = omega (arith, e) in
        ap (λ (m : ℕ). cond (not (m == n)) ((n, p.cluster) ∷ but q (opened (n + 1) ps)) (but q (opened (n + 1) ps))) same
        ∙ ap (λ (b : Bool). cond (not b) ((n, p.cluster) ∷ but q (opened (n + 1) ps)) (but q (opened (n + 1) ps))) (self_test n) ∙ h
    by false h = h
but_closed n (p ∷ ps) (suc k) q e = by p.is_open (but_closed (n + 1) ps k q (omega (arith, e)))
  where
    by : (b : Bool) → but q (opened (n + 1) ps) ≡ opened (n + 1) (slice_set ps k (closed (slice_index_or ps k no_processor))) → but q (cond b ((n, p.cluster) ∷ opened (n + 1) ps) (opened (n + 1) ps))
        ≡ cond b ((n, p.cluster) ∷ opened (n + 1) (slice_set ps k (closed (slice_index_or ps k no_processor)))) (opened (n + 1) (slice_set ps k (closed (slice_index_or ps k no_processor))))
    by true ih =
        let d = apart_test q n (λ z. omega (arith, e, z)) in
        ap (λ (b : Bool). cond (not b) ((n, p.cluster) ∷ but q (opened (n + 1) ps)) (but q (opened (n + 1) ps))) d ∙ ap (λ (l : List (ℕ × ℕ)). (n, p.cluster) ∷ l) ih
    by false ih = ih

-- ---- processors of a journal
made_push : (opts : Options) (j : Journal) (e : Entry) → processors opts (j ++ e ∷ []) ≡ processors opts j ++ option_to_list (makes_processor e.kind e)
unfolding processors
made_push opts j e =
    let first = map (λ p. (p, 0)) (range_with_len 0 opts.processors) in
    let later = still_open (λ x. makes_processor x.kind x) (λ x y. false) j in
    ap (λ (l : List (ℕ × ℕ)). first ++ l) (still_open_push (λ x. makes_processor x.kind x) (λ x y. false) j e ∙ ap (λ (l : List (ℕ × ℕ)). l ++ option_to_list (makes_processor e.kind e)) (filter_true (λ y. true) later (λ y. refl)))
    ∙ sym (append_assoc first later (option_to_list (makes_processor e.kind e)))

abbrev shut : Journal → ℕ × ℕ → Bool
shut j x = list_any (λ e. closes x.0 e.kind e) j

open_is : (opts : Options) (j : Journal) → open_processors opts j ≡ filter (λ x. not (shut j x)) (processors opts j)
unfolding open_processors
open_is opts j = refl

shut_push : (j : Journal) (e : Entry) (x : ℕ × ℕ) → shut (j ++ e ∷ []) x ≡ (shut j x || closes x.0 e.kind e)
shut_push j e x = any_push (λ y. closes x.0 y.kind y) j e

silent_closes : (k : EntryKind) (e : Entry) (p : ℕ) → tells_processor k ≡ false → closes p k e ≡ false
silent_closes kind.ProcessorEnd e p h = absurd cc
silent_closes _ e p h = refl

silent_makes : (k : EntryKind) (e : Entry) → tells_processor k ≡ false → makes_processor k e ≡ None
silent_makes kind.Processor e h = absurd cc
silent_makes _ e h = refl

silent_counts : (k : EntryKind) → tells_processor k ≡ false → is_processor k ≡ false
silent_counts kind.Processor h = absurd cc
silent_counts _ h = refl

plus_0 : (n : ℕ) → n + 0 ≡ n
plus_0 n = omega arith

from_0 : (n : ℕ) → n ≡ 0 + n
from_0 n = omega arith

silent_open : (opts : Options) (ps : List Processor) (j : Journal) (e : Entry) → tells_processor e.kind ≡ false → AreOpen opts ps j → AreOpen opts ps (j ++ e ∷ [])
silent_open opts ps j e h is =
    let all = made_push opts j e ∙ ap (λ (o : Option (ℕ × ℕ)). processors opts j ++ option_to_list o) (silent_makes e.kind e h) ∙ append-nil (processors opts j) in
    record {
      counted = is.counted ∙ sym (processors_more opts j e ∙ ap {B = ℕ} (λ (b : Bool). processor_count opts j + cond b 1 0) (silent_counts e.kind h) ∙ plus_0 (processor_count opts j));
      all = all ∙ is.all;
      opened_are = open_is opts (j ++ e ∷ []) ∙ ap (filter (λ x. not (shut (j ++ e ∷ []) x))) all
          ∙ filter_same (λ x. not (shut (j ++ e ∷ []) x)) (λ x. not (shut j x)) (λ x. ap not (shut_push j e x ∙ ap (λ (b : Bool). shut j x || b) (silent_closes e.kind e x.0 h) ∙ or_false (shut j x))) (processors opts j)
          ∙ sym (open_is opts j) ∙ is.opened_are;
      unclosed = λ p le. shut_push j e (p, 0) ∙ ap (λ (b : Bool). shut j (p, 0) || b) (silent_closes e.kind e p h) ∙ or_false (shut j (p, 0)) ∙ is.unclosed p le;
    }

-- what runs on a processor is no matter here
running_open : (opts : Options) (ps : List Processor) (j : Journal) (p : ℕ) (task : Option ℕ) → AreOpen opts ps j → AreOpen opts (slice_set ps p (runs task (slice_index_or ps p no_processor))) j
running_open opts ps j p task is =
    let x = runs task (slice_index_or ps p no_processor) in
    record {
      counted = length-set ps p x ∙ is.counted;
      all = is.all ∙ sym (numbered_set 0 ps p x refl);
      opened_are = is.opened_are ∙ sym (opened_set 0 ps p x refl refl);
      unclosed = λ q le. is.unclosed q (subst (λ (n : ℕ). n ≤ q) (length-set ps p x) le);
    }

pub open_stays : LawOpenStays
open_stays opts v j e h is =
    let now = silent_open opts v.processors j e h is in
    (now, λ p task. running_open opts v.processors (j ++ e ∷ []) p task now)

-- ---- one processor more
task_push : (ps : List Processor) (k p : ℕ) → option_to_list (slice_index_or (ps ++ new_processor k ∷ []) p no_processor).task ≡ option_to_list (slice_index_or ps p no_processor).task
task_push [] k zero = refl
task_push [] k (suc p) = refl
task_push (x ∷ ps) k zero = refl
task_push (x ∷ ps) k (suc p) = task_push ps k p

pub processor_more : LawProcessor
processor_more opts v j p t k c is are =
    let ps = v.processors in let n = length ps in
    let e = asking kind.Processor p t k 0 (pos n) (pos c) in
    let new = made_push opts j e in
    let same = filter_same (λ x. not (shut (j ++ e ∷ []) x)) (λ x. not (shut j x)) (λ x. ap not (shut_push j e x ∙ or_false (shut j x))) in (
      record {
        counted = length-append ps (new_processor c ∷ []) ∙ ap (λ (m : ℕ). m + 1) is.counted ∙ sym (processors_more opts j e);
        all = new ∙ ap (λ (l : List (ℕ × ℕ)). l ++ (n, c) ∷ []) is.all ∙ ap (λ (m : ℕ). numbered 0 ps ++ (m, c) ∷ []) (from_0 n) ∙ sym (numbered_push 0 ps (new_processor c));
        opened_are = open_is opts (j ++ e ∷ [])
            ∙ same (processors opts (j ++ e ∷ []))
            ∙ ap (filter (λ x. not (shut j x))) new
            ∙ filter-append (λ x. not (shut j x)) (processors opts j) ((n, c) ∷ [])
            ∙ ap (λ (b : Bool). filter (λ x. not (shut j x)) (processors opts j) ++ cond (not b) ((n, c) ∷ []) []) (is.unclosed n (omega arith))
            ∙ ap (λ (l : List (ℕ × ℕ)). l ++ (n, c) ∷ []) (sym (open_is opts j) ∙ is.opened_are)
            ∙ ap (λ (m : ℕ). opened 0 ps ++ (m, c) ∷ []) (from_0 n)
            ∙ sym (opened_push 0 ps c);
        unclosed = λ q le. shut_push j e (q, 0) ∙ or_false (shut j (q, 0)) ∙ is.unclosed q (let l = length-append ps (new_processor c ∷ []) in omega (arith, l, le));
      },
      λ q. task_push ps c q ∙ stays v j e (λ u h. refl) refl are q,
    )

-- ---- one is closed
closed_task : (ps : List Processor) (q p : ℕ) → option_to_list (slice_index_or (slice_set ps q (closed (slice_index_or ps q no_processor))) p no_processor).task ≡ option_to_list (slice_index_or ps p no_processor).task
closed_task [] q p = refl
closed_task (x ∷ ps) zero zero = refl
closed_task (x ∷ ps) zero (suc p) = refl
closed_task (x ∷ ps) (suc q) zero = refl
closed_task (x ∷ ps) (suc q) (suc p) = closed_task ps q p

pub closes_one : LawCloses
closes_one opts v j p t k q c lt is are =
    let ps = v.processors in
    let e = asking kind.ProcessorEnd p t k 0 (pos q) (pos c) in
    let x = closed (slice_index_or ps q no_processor) in
    let all = made_push opts j e ∙ append-nil (processors opts j) in (
      record {
        counted = length-set ps q x ∙ is.counted ∙ sym (processors_more opts j e ∙ plus_0 (processor_count opts j));
        all = all ∙ is.all ∙ sym (numbered_set 0 ps q x refl);
        opened_are = open_is opts (j ++ e ∷ [])
            ∙ ap (filter (λ y. not (shut (j ++ e ∷ []) y))) all
            ∙ filter_same (λ y. not (shut (j ++ e ∷ []) y)) (λ y. not (shut j y || (q == y.0))) (λ y. ap not (shut_push j e y)) (processors opts j)
            ∙ filter_both (shut j) (λ y. q == y.0) (processors opts j)
            ∙ ap (but q) (sym (open_is opts j) ∙ is.opened_are)
            ∙ but_closed 0 ps q q (omega arith);
        unclosed = λ u le.
            let far : length ps ≤ u = subst (λ (n : ℕ). n ≤ u) (length-set ps q x) le in
            shut_push j e (u, 0) ∙ ap (λ (b : Bool). shut j (u, 0) || b) (apart_test q u (λ z. omega (arith, z, lt, far))) ∙ or_false (shut j (u, 0)) ∙ is.unclosed u far;
      },
      λ u. closed_task ps q u ∙ stays v j e (λ w h. refl) refl are u,
    )

-- ---- clusters
queue_push : (qs : List (List ℕ)) (k : ℕ) → queue_at (qs ++ [] ∷ []) k ≡ queue_at qs k
queue_push [] zero = refl
queue_push [] (suc k) = refl
queue_push (q ∷ qs) zero = refl
queue_push (q ∷ qs) (suc k) = queue_push qs k

pub cluster_more : LawCluster
cluster_more v j p t k n are counted =
    let e = asking kind.Cluster p t k 0 (pos n) (pos 0) in
    (λ c. queue_push v.queues c ∙ unready v j e refl refl are c, length-append v.queues ([] ∷ []) ∙ ap (λ (m : ℕ). m + 1) counted ∙ sym (clusters_push j e))

silent_clusters : (k : EntryKind) → tells_cluster k ≡ false → is_cluster k ≡ false
silent_clusters kind.Cluster h = absurd cc
silent_clusters _ h = refl

pub clusters_stay : LawClusters
clusters_stay v j e h counted = counted ∙ sym (clusters_push j e ∙ ap {B = ℕ} (λ (b : Bool). cluster_count j + cond b 1 0) (silent_clusters e.kind h) ∙ plus_0 (cluster_count j))
