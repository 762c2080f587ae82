-- What is asked of the clusters is what the journal tells; and the opening.
use Rattle.std.proofs.Common.{◌≡◌, ℕ, zero, suc, ◌<◌, ◌+◌, ◌==◌, ◌||◌, ◌&&◌, T, eqb→eq, Bool, true, false, not, cond, List, [], ◌∷◌, ◌++◌, length, map, replicate, Option, Some, None, refl, sym, ap, ◌∙◌, subst, arith, append-nil, slice_index_or, slice_set}
use Rattle.std.specs.Option.{option_to_list, is_none}
use Rattle.std.specs.List.{filter, list_any, list_all, range_with_len}
use Rattle.uc_entry.specs.declared.entry.Options.{Options}
use Rattle.uc_acts.specs.Journal.{Journal, begin, where_true}
use Rattle.uc_acts.specs.Queues.{ready, running, cluster_count, processor_count, processors, open_processors, tasks_on, none_running, none_ready as nobody_ready, none_served as nobody_served, is_nobody as is_none_in}
use Rattle.uc_acts.proofs.OpenLemmas.{or_false, filter_true}
use Rattle.uc_acts.proofs.Seats.{ready_push, running_same, running_other}
use Rattle.uc_acts.proofs.SoundLemmas.{self_test}
use Rattle.uc_cluster.specs.declared.clusters.Processor.{Processor}
use Rattle.uc_cluster.specs.Standing.{Standing, no_processor, new_processor, queue_at, is_nobody, is_on, none_ready, none_served, stalled_by, made_ready, opening}
use Rattle.uc_cluster.proofs.Places.{on_push}
use Rattle.uc_cluster.specs.Laws.{AreReady, numbered, opened, LawOpening, LawInUse, LawStalled}

same_nobody : {X : Type 0} (xs : List X) → is_nobody xs ≡ is_none_in xs
same_nobody [] = refl
same_nobody (x ∷ xs) = refl

same_none : (t : Option ℕ) → is_none t ≡ is_none_in (option_to_list t)
same_none None = refl
same_none (Some t) = refl

-- ---- whether a cluster is in use
any_opened : (n k : ℕ) (ps : List Processor) → list_any (λ x. x.is_open && (x.cluster == k)) ps ≡ list_any (λ x. x.1 == k) (opened n ps)
any_opened n k [] = refl
any_opened n k (p ∷ ps) = by p.is_open (any_opened (n + 1) k ps)
  where
    by : (b : Bool) → list_any (λ x. x.is_open && (x.cluster == k)) ps ≡ list_any (λ x. x.1 == k) (opened (n + 1) ps)
        → ((b && (p.cluster == k)) || list_any (λ x. x.is_open && (x.cluster == k)) ps) ≡ list_any (λ x. x.1 == k) (cond b ((n, p.cluster) ∷ opened (n + 1) ps) (opened (n + 1) ps))
    by true ih = ap (λ (b : Bool). (p.cluster == k) || b) ih
    by false ih = ih

any_place : (k : ℕ) (places : List (Option ℕ)) (t : ℕ) → is_on k (slice_index_or places t None) ≡ true → list_any (is_on k) places ≡ true
any_place k [] t h = absurd cc
any_place k (p ∷ places) zero h = ap (λ (b : Bool). b || list_any (is_on k) places) h
any_place k (p ∷ places) (suc t) h = ap (λ (b : Bool). is_on k p || b) (any_place k places t h) ∙ or_true (is_on k p)
  where
    or_true : (b : Bool) → (b || true) ≡ true
    or_true true = refl
    or_true false = refl

no_place : (k : ℕ) (places : List (Option ℕ)) → ((t : ℕ) → is_on k (slice_index_or places t None) ≡ false) → list_any (is_on k) places ≡ false
no_place k [] h = refl
no_place k (p ∷ places) h = ap (λ (b : Bool). b || list_any (is_on k) places) (h 0) ∙ no_place k places (λ t. h (suc t))

placed_any : (k : ℕ) (places : List (Option ℕ)) (ts : List ℕ) → ((t : ℕ) → list_any (λ u. u == t) ts ≡ is_on k (slice_index_or places t None)) → list_any (is_on k) places ≡ not (is_none_in ts)
placed_any k places [] h = no_place k places (λ t. sym (h t))
placed_any k places (t ∷ ts) h = any_place k places t (sym (h t) ∙ ap (λ (b : Bool). b || list_any (λ u. u == t) ts) (self_test t))

pub in_use : LawInUse
in_use opts v j k open_are are =
    ap (λ (b : Bool). b || list_any (λ x. x.is_open && (x.cluster == k)) v.processors) (placed_any k v.places (tasks_on k j) (are.on k))
    ∙ ap (λ (b : Bool). not (is_none_in (tasks_on k j)) || b) (any_opened 0 k v.processors ∙ ap (list_any (λ x. x.1 == k)) (sym open_are.opened_are))

-- ---- whether no task can go on
all_run : (n : ℕ) (j : Journal) (ps : List Processor) → ((p : ℕ) → option_to_list (slice_index_or ps p no_processor).task ≡ running (n + p) j) → list_all (λ x. is_none x.task) ps ≡ list_all (λ p. is_none_in (running p j)) (range_with_len n (length ps))
all_run n j [] h = refl
all_run n j (p ∷ ps) h =
    let first : is_none p.task ≡ is_none_in (running n j) = same_none p.task ∙ ap is_none_in (h 0 ∙ ap (λ (m : ℕ). running m j) (plus_0 n)) in
    let ih = all_run (n + 1) j ps (λ q. h (suc q) ∙ ap (λ (m : ℕ). running m j) (over n q)) in
    ap (λ (b : Bool). b && list_all (λ x. is_none x.task) ps) first ∙ ap (λ (b : Bool). is_none_in (running n j) && b) ih
  where
    plus_0 : (m : ℕ) → m + 0 ≡ m
    plus_0 m = omega arith

    over : (m q : ℕ) → m + suc q ≡ m + 1 + q
    over m q = omega arith

all_ready : (n : ℕ) (j : Journal) (qs : List (List ℕ)) → ((k : ℕ) → queue_at qs k ≡ ready (n + k) j) → list_all is_nobody qs ≡ list_all (λ k. is_none_in (ready k j)) (range_with_len n (length qs))
all_ready n j [] h = refl
all_ready n j (q ∷ qs) h =
    let first : is_nobody q ≡ is_none_in (ready n j) = same_nobody q ∙ ap is_none_in (h 0 ∙ ap (λ (m : ℕ). ready m j) (plus_0 n)) in
    let ih = all_ready (n + 1) j qs (λ k. h (suc k) ∙ ap (λ (m : ℕ). ready m j) (over n k)) in
    ap (λ (b : Bool). b && list_all is_nobody qs) first ∙ ap (λ (b : Bool). is_none_in (ready n j) && b) ih
  where
    plus_0 : (m : ℕ) → m + 0 ≡ m
    plus_0 m = omega arith

    over : (m q : ℕ) → m + suc q ≡ m + 1 + q
    over m q = omega arith

all_served : (n : ℕ) (v : Standing) (j : Journal) (ps : List Processor) → AreReady v j → list_all (λ x. not x.is_open || is_nobody (queue_at v.queues x.cluster)) ps ≡ list_all (λ x. is_none_in (ready x.1 j)) (opened n ps)
all_served n v j [] are = refl
all_served n v j (p ∷ ps) are = by p.is_open (all_served (n + 1) v j ps are)
  where
    by : (b : Bool) → list_all (λ x. not x.is_open || is_nobody (queue_at v.queues x.cluster)) ps ≡ list_all (λ x. is_none_in (ready x.1 j)) (opened (n + 1) ps)
        → ((not b || is_nobody (queue_at v.queues p.cluster)) && list_all (λ x. not x.is_open || is_nobody (queue_at v.queues x.cluster)) ps) ≡ list_all (λ x. is_none_in (ready x.1 j)) (cond b ((n, p.cluster) ∷ opened (n + 1) ps) (opened (n + 1) ps))
    by true ih =
        ap (λ (b : Bool). b && list_all (λ x. not x.is_open || is_nobody (queue_at v.queues x.cluster)) ps) (same_nobody (queue_at v.queues p.cluster) ∙ ap is_none_in (are p.cluster))
        ∙ ap (λ (b : Bool). is_none_in (ready p.cluster j) && b) ih
    by false ih = ih

running_none : (opts : Options) (j : Journal) → none_running opts j ≡ list_all (λ p. is_none_in (running p j)) (range_with_len 0 (processor_count opts j))
unfolding none_running
running_none opts j = refl

ready_none : (j : Journal) → nobody_ready j ≡ list_all (λ k. is_none_in (ready k j)) (range_with_len 0 (cluster_count j))
unfolding nobody_ready
ready_none j = refl

served_none : (opts : Options) (j : Journal) → nobody_served opts j ≡ list_all (λ x. is_none_in (ready x.1 j)) (open_processors opts j)
unfolding nobody_served
served_none opts j = refl

from_0 : (n : ℕ) → n ≡ 0 + n
from_0 n = omega arith

pub stalled : LawStalled
stalled opts v j are runs counted open_are =
    let r = all_run 0 j v.processors (λ p. runs p ∙ ap (λ (m : ℕ). running m j) (from_0 p)) ∙ ap (λ (n : ℕ). list_all (λ p. is_none_in (running p j)) (range_with_len 0 n)) open_are.counted ∙ sym (running_none opts j) in
    let q = all_ready 0 j v.queues (λ k. are k ∙ ap (λ (m : ℕ). ready m j) (from_0 k)) ∙ ap (λ (n : ℕ). list_all (λ k. is_none_in (ready k j)) (range_with_len 0 n)) counted ∙ sym (ready_none j) in
    let s = all_served 0 v j v.processors are ∙ ap (list_all (λ x. is_none_in (ready x.1 j))) (sym open_are.opened_are) ∙ sym (served_none opts j) in
    ap (λ (b : Bool). stalled_by b (none_ready v) (none_served v)) r ∙ ap (λ (b : Bool). stalled_by (none_running opts j) b (none_served v)) q ∙ ap (λ (b : Bool). stalled_by (none_running opts j) (nobody_ready j) b) s

-- ---- the opening
zero_is_not : (n : ℕ) → (0 == suc n) ≡ false
zero_is_not n = by (0 == suc n) (λ s. absurd (let e = eqb→eq 0 (suc n) (subst T (sym s) tt) in omega (arith, e)))
  where
    by : (b : Bool) → (b ≡ true → ⊥) → b ≡ false
    by true h = absurd (h refl)
    by false h = refl

suc_is_not : (n : ℕ) → (suc n == 0) ≡ false
suc_is_not n = by (suc n == 0) (λ s. absurd (let e = eqb→eq (suc n) 0 (subst T (sym s) tt) in omega (arith, e)))
  where
    by : (b : Bool) → (b ≡ true → ⊥) → b ≡ false
    by true h = absurd (h refl)
    by false h = refl

opening_numbered : (n m : ℕ) → numbered n (replicate m (new_processor 0)) ≡ map (λ p. (p, 0)) (range_with_len n m)
opening_numbered n zero = refl
opening_numbered n (suc m) = ap (λ (l : List (ℕ × ℕ)). (n, 0) ∷ l) (opening_numbered (n + 1) m)

opening_opened : (n m : ℕ) → opened n (replicate m (new_processor 0)) ≡ numbered n (replicate m (new_processor 0))
opening_opened n zero = refl
opening_opened n (suc m) = ap (λ (l : List (ℕ × ℕ)). (n, 0) ∷ l) (opening_opened (n + 1) m)

opening_length : (m : ℕ) → length (replicate m (new_processor 0)) ≡ m
opening_length zero = refl
opening_length (suc m) = ap suc (opening_length m)

first_processors : (opts : Options) → processors opts (begin opts ∷ []) ≡ map (λ p. (p, 0)) (range_with_len 0 opts.processors)
unfolding processors
first_processors opts = append-nil (map (λ p. (p, 0)) (range_with_len 0 opts.processors))

first_open : (opts : Options) → open_processors opts (begin opts ∷ []) ≡ processors opts (begin opts ∷ [])
unfolding open_processors
first_open opts = filter_true (λ x. true) (processors opts (begin opts ∷ [])) (λ x. refl)

opening_tasks : (m p : ℕ) → option_to_list (slice_index_or (replicate m (new_processor 0)) p no_processor).task ≡ []
opening_tasks zero p = refl
opening_tasks (suc m) zero = refl
opening_tasks (suc m) (suc p) = opening_tasks m p

nobody_runs : (p : ℕ) → running p [] ≡ []
unfolding running
nobody_runs p = refl

first_running : (opts : Options) (p : ℕ) → running p (begin opts ∷ []) ≡ []
first_running opts zero = running_same 0 [] (begin opts) refl ∙ ap (λ (l : List ℕ). filter (λ t. true) l ++ []) (nobody_runs 0)
first_running opts (suc p) = running_other (suc p) [] (begin opts) (zero_is_not p) ∙ nobody_runs (suc p)

nobody_ready_at : (k : ℕ) → ready k [] ≡ []
unfolding ready
nobody_ready_at k = refl

first_ready : (opts : Options) (k : ℕ) → queue_at ((0 ∷ []) ∷ []) k ≡ ready k (begin opts ∷ [])
first_ready opts zero = sym (ready_push 0 [] (begin opts) ∙ ap (λ (l : List ℕ). filter (λ t. true) l ++ 0 ∷ []) (nobody_ready_at 0))
first_ready opts (suc k) =
    sym (ready_push (suc k) [] (begin opts) ∙ ap (λ (l : List ℕ). filter (λ t. true) l ++ option_to_list (where_true (0 == suc k) 0)) (nobody_ready_at (suc k))
    ∙ ap (λ (b : Bool). option_to_list (where_true b 0)) (zero_is_not k))

first_clusters : (opts : Options) → 1 ≡ cluster_count (begin opts ∷ [])
unfolding cluster_count
first_clusters opts = refl

first_count : (opts : Options) → opts.processors ≡ processor_count opts (begin opts ∷ [])
unfolding processor_count
first_count opts = omega arith

no_places : (n t : ℕ) → slice_index_or (replicate {A = Option ℕ} n None) t None ≡ None
no_places zero t = refl
no_places (suc n) zero = refl
no_places (suc n) (suc t) = no_places n t

nobody_on : (k : ℕ) → tasks_on k [] ≡ []
unfolding tasks_on
nobody_on k = refl

first_on_0 : (opts : Options) (k : ℕ) → tasks_on k (begin opts ∷ []) ≡ option_to_list (where_true (0 == k) 0)
first_on_0 opts k = on_push k [] (begin opts) ∙ ap (λ (l : List ℕ). filter (λ t. true) l ++ option_to_list (where_true (0 == k) 0)) (nobody_on k)

one_place : (b : Bool) (t : ℕ) → list_any (λ u. u == t) (option_to_list (where_true b 0)) ≡ (b && (0 == t))
one_place true t = or_false (0 == t)
one_place false t = refl

and_off : (b : Bool) → (b && false) ≡ false
and_off true = refl
and_off false = refl

and_on : (b : Bool) → (b && true) ≡ b
and_on true = refl
and_on false = refl

first_on : (opts : Options) (n k t : ℕ) → 0 < n → list_any (λ u. u == t) (tasks_on k (begin opts ∷ [])) ≡ is_on k (slice_index_or (slice_set (replicate n None) 0 (Some 0)) t None)
first_on opts zero k t lt = absurd (omega arith)
first_on opts (suc n) k zero lt = ap (list_any (λ u. u == 0)) (first_on_0 opts k) ∙ one_place (0 == k) 0 ∙ and_on (0 == k)
first_on opts (suc n) k (suc t) lt = ap (list_any (λ u. u == suc t)) (first_on_0 opts k) ∙ one_place (0 == k) (suc t) ∙ ap (λ (b : Bool). (0 == k) && b) (zero_is_not t) ∙ and_off (0 == k) ∙ ap (is_on k) (sym (no_places n t))

first_queues : (m n k : ℕ) → 0 < n → queue_at (made_ready 0 (opening m n)).queues k ≡ queue_at ((0 ∷ []) ∷ []) k
first_queues m zero k lt = absurd (omega arith)
first_queues m (suc n) k lt = refl

first_place : (n k t : ℕ) → 0 < n → slice_index_or (slice_set (replicate n None) 0 (Some 0)) t None ≡ Some k → 0 ≡ k
first_place zero k t lt h = absurd (omega arith)
first_place (suc n) k zero lt h = cc
first_place (suc n) k (suc t) lt h = absurd (none_some (sym (no_places n t) ∙ h))
  where
    none_some : (let z : Option ℕ = None in z ≡ Some k) → ⊥
    none_some s = cc

pub opens_so : LawOpening
opens_so opts tasks lt =
    let j = begin opts ∷ [] in
    let n = opts.processors in (
      λ k. first_queues n tasks k lt ∙ first_ready opts k,
      λ p. opening_tasks n p ∙ sym (first_running opts p),
      first_clusters opts,
      record {
        counted = opening_length n ∙ first_count opts;
        all = first_processors opts ∙ sym (opening_numbered 0 n);
        opened_are = first_open opts ∙ first_processors opts ∙ sym (opening_opened 0 n ∙ opening_numbered 0 n);
        unclosed = λ p le. refl;
      },
      record { on = λ k t. first_on opts tasks k t lt; cluster = λ k t h. first_place tasks k t lt h },
    )
