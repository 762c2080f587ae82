-- The ready queues, what runs, and where tasks stand, with one entry more.
use Rattle.std.proofs.Common.{◌≡◌, ◌≢◌, ℕ, ◌==◌, ◌+◌, ◌<◌, Bool, true, false, not, cond, inl, inr, List, [], ◌∷◌, ◌++◌, Option, Some, None, map, refl, sym, ap, ◌∙◌, subst, arith, length, set, get_or, get_or-set_same, get_or-set_other, append-nil}
use Rattle.std.specs.Option.{option_to_list}
use Rattle.std.specs.List.{AllByRecursion, filter, count_by}
use Rattle.std.proofs.lemmas.Bool.{eqb-true, eq-eqb, cases_lt}
use Rattle.std.proofs.lemmas.List.{get_or_past}
use Rattle.std.proofs.lemmas.List.Sums.{fold_push}
use Rattle.uc_entry.specs.declared.entry.Entry.{Entry}
use Rattle.uc_entry.specs.declared.entry.Options.{Options}
use Rattle.uc_acts.specs.Journal.{Journal, where_true}
use Rattle.uc_acts.specs.Queues.{ready, running, readies, dispatches, puts_on, takes_off, clusters, cluster_of, cluster_count, last_clusters, on_cluster, is_cluster}
use Rattle.uc_acts.specs.Stations.{Ready, times}
use Rattle.uc_acts.specs.Sound.{spot, mover, Sound, here}
use Rattle.uc_acts.proofs.OpenLemmas.{filter_true}
use Rattle.uc_acts.proofs.Noted.{noted_at, last_clusters_push}
use Rattle.uc_acts.proofs.Seats.{ready_push, running_other, running_same}
use Rattle.uc_acts.proofs.SoundLemmas.{self_test, plus}
use Rattle.uc_acts.proofs.Moves.{spot_stays}
use Rattle.uc_acts.proofs.Room.{in_none}
use Rattle.uc_cluster.specs.Standing.{Standing, IsUnready, queue_at, processor_at, place_of, no_processor, with_processor, made_ready, or_0}
use Rattle.uc_cluster.specs.Standing.{running as runs_on}
use Rattle.uc_cluster.specs.Standing.{is_on}
use Rattle.uc_cluster.specs.Laws.{AreReady, AreRunning, AreOpen, tells_processor, tells_place}
use Rattle.uc_cluster.proofs.Places.{stands}
use Rattle.uc_kernel_core.specs.Mirrors.{ClustersAre, is_at}
use Rattle.uc_kernel_core.proofs.Doors.{no_both}

-- what the entry makes ready, on whichever cluster
abbrev pub made_ready_by : Journal → Entry → Option ℕ
made_ready_by j e = readies e.kind e (noted_at j e).actor

abbrev pub put_on_by : Journal → Entry → Option ℕ
put_on_by j e = puts_on e.kind e (noted_at j e).actor

count_push : (p : Entry → Bool) (j : Journal) (e : Entry) → count_by p (j ++ e ∷ []) ≡ count_by p j + plus (p e)
count_push p j e = by (p e) refl (fold_push (λ (n : ℕ) (x : Entry). n + cond (p x) 1 0) 0 j e)
  where
    by : (b : Bool) → p e ≡ b → count_by p (j ++ e ∷ []) ≡ count_by p j + cond (p e) 1 0 → count_by p (j ++ e ∷ []) ≡ count_by p j + plus (p e)
    by true h g = g ∙ ap (λ b. count_by p j + cond b 1 0) h ∙ ap (λ b. count_by p j + plus b) (sym h)
    by false h g = g ∙ ap (λ b. count_by p j + cond b 1 0) h ∙ ap (λ b. count_by p j + plus b) (sym h)

pub clusters_push : (j : Journal) (e : Entry) → cluster_count (j ++ e ∷ []) ≡ cluster_count j + plus (is_cluster e.kind)
unfolding cluster_count
clusters_push j e = let h = count_push (λ x. is_cluster x.kind) j e in omega (arith, h)

pub same_clusters : (j : Journal) (e : Entry) → is_cluster e.kind ≡ false → cluster_count (j ++ e ∷ []) ≡ cluster_count j
same_clusters j e h =
    let c : cluster_count (j ++ e ∷ []) ≡ cluster_count j + 0 = clusters_push j e ∙ rw h refl in
    omega (arith, c)

-- an entry that moves nobody to another cluster
pub record Keeps (j : Journal) (e : Entry) : Type 0 where
  pub clusters : (on : ℕ → ℕ) (t : ℕ) → clusters on e.kind e t ≡ on t
  pub no_cluster : is_cluster e.kind ≡ false
  pub no_processor : tells_processor e.kind ≡ false
  pub no_place : tells_place e.kind ≡ false
  -- who is moved was at a station
  pub was : (t : ℕ) → mover e.kind e t ≡ true → is_at (spot t j) ≡ true

module _ (j : Journal) (e : Entry) (k : Keeps j e) where
  pub cluster_stays : (t : ℕ) → cluster_of t (j ++ e ∷ []) ≡ cluster_of t j
  cluster_stays t = ap (λ f. f t) (last_clusters_push (λ u. 0) j e) ∙ k.clusters (last_clusters (λ u. 0) j) t

  was_at : (t : ℕ) (b : Bool) → mover e.kind e t ≡ b → is_at (spot t (j ++ e ∷ [])) ≡ true → is_at (spot t j) ≡ true
  was_at t true m h = k.was t m
  was_at t false m h = ap is_at (sym (spot_stays j e t m)) ∙ h

  -- the queues and the processors become these
  pub clusters_by : (opts : Options) (v w : Standing) → ClustersAre opts j v → AreReady w (j ++ e ∷ []) → AreRunning w (j ++ e ∷ []) → AreOpen opts w.processors (j ++ e ∷ []) → length w.queues ≡ length v.queues → w.places ≡ v.places → ClustersAre opts (j ++ e ∷ []) w
  clusters_by opts v w h q r d n l =
      let old = stands v j e k.no_place h.stands in
      record {
        ready_are = q;
        runs = r;
        counted = n ∙ h.counted ∙ sym (same_clusters j e k.no_cluster);
        desks = d;
        stands = record {
          on = λ c t. old.on c t ∙ ap (λ ps. is_on c (get_or ps t None)) (sym l);
          cluster = λ c t g. old.cluster c t (sym (ap (λ ps. get_or ps t None) l) ∙ g);
        };
        pool = ap length l ∙ h.pool;
        placed = λ t a. ap (λ ps. get_or ps t None) l ∙ h.placed t (was_at t (mover e.kind e t) refl a) ∙ ap Some (sym (cluster_stays t));
        known = λ t. rw (cluster_stays t, n) (h.known t);
      }

-- ---- queues
pub ready_stays : (j : Journal) (e : Entry) → made_ready_by j e ≡ None → ((t : ℕ) → dispatches e.kind e t ≡ false) → (c : ℕ) → ready c (j ++ e ∷ []) ≡ ready c j
ready_stays j e n d c =
    ready_push c j e ∙ ap (λ r. filter (λ t. not (dispatches e.kind e t)) (ready c j) ++ option_to_list (on_cluster c (noted_at j e).cluster r)) n ∙ append-nil _ ∙ filter_true _ (ready c j) (λ t. ap not (d t))

ready_more : (j : Journal) (e : Entry) (t : ℕ) → made_ready_by j e ≡ Some t → ((t : ℕ) → dispatches e.kind e t ≡ false) → (c : ℕ) → ready c (j ++ e ∷ []) ≡ ready c j ++ option_to_list (where_true (cluster_of t (j ++ e ∷ []) == c) t)
ready_more j e t n d c =
    ready_push c j e ∙ ap (λ r. filter (λ t. not (dispatches e.kind e t)) (ready c j) ++ option_to_list (on_cluster c (noted_at j e).cluster r)) n
    ∙ ap (λ l. l ++ option_to_list (where_true ((noted_at j e).cluster t == c) t)) (filter_true _ (ready c j) (λ t. ap not (d t)))
    ∙ ap (λ m. ready c j ++ option_to_list (where_true (m == c) t)) (ap (λ f. f t) (sym (last_clusters_push (λ u. 0) j e)))

-- a task goes to the back of the queue of its cluster
pub ready_back : (j : Journal) (v : Standing) (e : Entry) (t : ℕ) → ((c : ℕ) → queue_at v.queues c ≡ ready c j) → made_ready_by j e ≡ Some t → ((t : ℕ) → dispatches e.kind e t ≡ false) → place_of v t ≡ Some (cluster_of t (j ++ e ∷ [])) → cluster_of t (j ++ e ∷ []) < length v.queues → (c : ℕ) → queue_at (made_ready t v).queues c ≡ ready c (j ++ e ∷ [])
ready_back j v e t h n d at lt c =
    ap (λ k. queue_at (set v.queues k (queue_at v.queues k ++ t ∷ [])) c) (ap or_0 at) ∙ by (cluster_of t (j ++ e ∷ []) == c) refl ∙ sym (ready_more j e t n d c)
  where
    k : ℕ
    k = cluster_of t (j ++ e ∷ [])

    by : (b : Bool) → (cluster_of t (j ++ e ∷ []) == c) ≡ b → get_or (set v.queues (cluster_of t (j ++ e ∷ [])) (queue_at v.queues (cluster_of t (j ++ e ∷ [])) ++ t ∷ [])) c [] ≡ ready c j ++ option_to_list (where_true (cluster_of t (j ++ e ∷ []) == c) t)
    by true g =
        let same = eqb-true (cluster_of t (j ++ e ∷ [])) c g in
        let here : get_or (set v.queues (cluster_of t (j ++ e ∷ [])) (queue_at v.queues (cluster_of t (j ++ e ∷ [])) ++ t ∷ [])) (cluster_of t (j ++ e ∷ [])) [] ≡ ready (cluster_of t (j ++ e ∷ [])) j ++ t ∷ [] = get_or-set_same v.queues (cluster_of t (j ++ e ∷ [])) (queue_at v.queues (cluster_of t (j ++ e ∷ [])) ++ t ∷ []) [] lt ∙ ap (λ l. l ++ t ∷ []) (h (cluster_of t (j ++ e ∷ []))) in
        ap (λ x. get_or (set v.queues (cluster_of t (j ++ e ∷ [])) (queue_at v.queues (cluster_of t (j ++ e ∷ [])) ++ t ∷ [])) x []) (sym same) ∙ here ∙ ap (λ x. ready x j ++ t ∷ []) same ∙ ap (λ b. ready c j ++ option_to_list (where_true b t)) (sym g)
    by false g =
        get_or-set_other v.queues (cluster_of t (j ++ e ∷ [])) c (queue_at v.queues (cluster_of t (j ++ e ∷ [])) ++ t ∷ []) [] (λ s. no_both (cluster_of t (j ++ e ∷ []) == c) (eq-eqb (cluster_of t (j ++ e ∷ [])) c (sym s)) g) ∙ h c ∙ sym (append-nil (ready c j)) ∙ ap (λ b. ready c j ++ option_to_list (where_true b t)) (sym g)

-- ---- processors
pub run_stays : (j : Journal) (e : Entry) → put_on_by j e ≡ None → ((t : ℕ) → takes_off e.kind e t ≡ false) → (p : ℕ) → running p (j ++ e ∷ []) ≡ running p j
run_stays j e n off p = by (e.proc == p) refl
  where
    by : (b : Bool) → (e.proc == p) ≡ b → running p (j ++ e ∷ []) ≡ running p j
    by true g =
        running_same p j e g ∙ ap (λ r. filter (λ t. not (takes_off e.kind e t)) (running p j) ++ option_to_list r) n ∙ append-nil _ ∙ filter_true _ (running p j) (λ t. ap not (off t))
    by false g = running_other p j e g

-- on its own processor runs this, and elsewhere what ran
pub run_set : (j : Journal) (v : Standing) (e : Entry) (x : Option ℕ) → ((p : ℕ) → option_to_list (processor_at v p).task ≡ running p j) → e.proc < length v.processors → running e.proc (j ++ e ∷ []) ≡ option_to_list x → (p : ℕ) → option_to_list (processor_at (with_processor v e.proc (runs_on x (processor_at v e.proc))) p).task ≡ running p (j ++ e ∷ [])
run_set j v e x h lt now p = by (e.proc == p) refl
  where
    by : (b : Bool) → (e.proc == p) ≡ b → option_to_list (processor_at (with_processor v e.proc (runs_on x (processor_at v e.proc))) p).task ≡ running p (j ++ e ∷ [])
    by true g =
        let same = eqb-true e.proc p g in
        ap (λ q. option_to_list (processor_at (with_processor v e.proc (runs_on x (processor_at v e.proc))) q).task) (sym same) ∙ ap (λ y. option_to_list y.task) (get_or-set_same v.processors e.proc (runs_on x (processor_at v e.proc)) no_processor lt) ∙ sym now ∙ ap (λ q. running q (j ++ e ∷ [])) same
    by false g =
        ap (λ y. option_to_list y.task) (get_or-set_other v.processors e.proc p (runs_on x (processor_at v e.proc)) no_processor (λ s. no_both (e.proc == p) (eq-eqb e.proc p (sym s)) g)) ∙ h p ∙ sym (running_other p j e g)

-- the acting task goes off its processor
pub off_now : (j : Journal) (e : Entry) (t : ℕ) → running e.proc j ≡ t ∷ [] → takes_off e.kind e t ≡ true → put_on_by j e ≡ None → running e.proc (j ++ e ∷ []) ≡ []
off_now j e t r off n =
    running_same e.proc j e (self_test e.proc) ∙ ap (λ x. filter (λ u. not (takes_off e.kind e u)) (running e.proc j) ++ option_to_list x) n ∙ append-nil _ ∙ ap (filter (λ u. not (takes_off e.kind e u))) r ∙ simp off

-- a processor with a task is known
pub known_processor : (j : Journal) (opts : Options) (v : Standing) → ClustersAre opts j v → (p t : ℕ) → running p j ≡ t ∷ [] → p < length v.processors
known_processor j opts v h p t r = elim (cases_lt p (length v.processors)) [
  | inl lt ↦ lt
  | inr le ↦ absurd (clash t (sym (ap (λ x. option_to_list x.task) (get_or_past v.processors p no_processor le)) ∙ h.runs p ∙ r))
]
  where
    clash : (t : ℕ) → [] ≡ t ∷ [] → ⊥
    clash t e = cc

-- a task in no ready queue
pub unready_by : (j : Journal) (opts : Options) (v : Standing) → ClustersAre opts j v → Sound j → (t : ℕ) → ((c : ℕ) → here (Ready c) (spot t j) ≡ 0) → IsUnready t v
unready_by j opts v h s t a c lt =
    subst (AllByRecursion (λ u. u ≢ t)) (sym (h.ready_are c)) (in_none (λ u. u) t (ready c j) (ap (times t) (same (ready c j)) ∙ s.seats t (Ready c) ∙ a c))
  where
    same : (xs : List ℕ) → map (λ u. u) xs ≡ xs
    same [] = refl
    same (x ∷ xs) = ap (λ l. x ∷ l) (same xs)
