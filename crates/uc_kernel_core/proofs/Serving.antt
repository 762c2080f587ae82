-- Which processor takes a task, in the words of the journal.
use Rattle.std.proofs.Common.{◌≡◌, ℕ, zero, suc, ◌+◌, ◌<◌, ◌≤◌, ◌&&◌, Bool, true, false, not, cond, List, [], ◌∷◌, Option, Some, None, inl, inr, refl, sym, ap, ◌∙◌, subst, arith, length, get_or}
use Rattle.std.specs.Option.{is_none, option_to_list}
use Rattle.std.specs.List.{Contains}
use Rattle.std.proofs.lemmas.Bool.{cases_lt}
use Rattle.uc_entry.specs.declared.entry.Options.{Options}
use Rattle.uc_acts.specs.Journal.{Journal}
use Rattle.uc_acts.specs.Serves.{Serves}
use Rattle.uc_cluster.specs.declared.clusters.Processor.{Processor}
use Rattle.uc_cluster.specs.Standing.{Standing, no_processor, queue_at, processor_at, may_take, first_from, taking, front_at, front_or_0, is_nobody, dispatch_by, dispatched, after_by, after_dispatch, started}
use Rattle.uc_cluster.specs.Laws.{opened}
use Rattle.uc_kernel_core.specs.Mirrors.{ClustersAre}
use Rattle.uc_kernel_core.specs.CoreActs.{IsFirst}

-- ---- the open processors
-- processor p of a list whose first is number n
record IsOpenAt (n p c : ℕ) (ps : List Processor) : Type 0 where
  at : ℕ
  number : n + at ≡ p
  within : at < length ps
  is_open : (get_or ps at no_processor).is_open ≡ true
  cluster : (get_or ps at no_processor).cluster ≡ c

has_more : {A : Type 0} (x y : A) (xs : List A) → Contains xs x → Contains (y ∷ xs) x
has_more x y xs h =
    let lt = h.1 in
    let more : suc h.0 < length (y ∷ xs) = omega arith in
    (suc h.0, more, h.2)

open_later : (n p c : ℕ) (x : Processor) (ps : List Processor) → IsOpenAt (n + 1) p c ps → IsOpenAt n p c (x ∷ ps)
open_later n p c x ps h = record { at = suc h.at; number = let m = h.number in omega arith; within = let lt = h.within in omega arith; is_open = h.is_open; cluster = h.cluster }

-- of which the list of the open ones has each
has_open : (n p c : ℕ) (ps : List Processor) → IsOpenAt n p c ps → Contains (opened n ps) (p, c)
has_open n p c [] h = absurd (let lt = h.within in omega arith)
has_open n p c (x ∷ ps) h = by (λ k. has_open (n + 1) p c ps k) h.at h.number h.within h.is_open h.cluster x.is_open refl
  where
    by : (IsOpenAt (n + 1) p c ps → Contains (opened (n + 1) ps) (p, c)) → (at : ℕ) → n + at ≡ p → at < suc (length ps) → (get_or (x ∷ ps) at no_processor).is_open ≡ true → (get_or (x ∷ ps) at no_processor).cluster ≡ c → (b : Bool) → x.is_open ≡ b → Contains (cond b ((n, x.cluster) ∷ opened (n + 1) ps) (opened (n + 1) ps)) (p, c)
    by rec zero m lt o k true g =
        let z : n ≡ p = omega (arith, m) in
        let same : (n, x.cluster) ≡ (p, c) = ap (λ a. (a, x.cluster)) z ∙ ap (λ a. (p, a)) k in
        (0, omega arith, same)
    by rec zero m lt o k false g = absurd (clash (sym o ∙ g))
      where
        clash : true ≡ false → ⊥
        clash e = cc
    by rec (suc i) m lt o k true g = has_more (p, c) (n, x.cluster) (opened (n + 1) ps) (rec (record { at = i; number = omega (arith, m); within = omega (arith, lt); is_open = o; cluster = k }))
    by rec (suc i) m lt o k false g = rec (record { at = i; number = omega (arith, m); within = omega (arith, lt); is_open = o; cluster = k })

-- and no others
only_open : (n p c : ℕ) (ps : List Processor) → Contains (opened n ps) (p, c) → IsOpenAt n p c ps
only_open n p c [] h = absurd (let lt = h.1 in omega arith)
only_open n p c (x ∷ ps) h = by (λ k. only_open (n + 1) p c ps k) x.is_open refl h
  where
    first : (Contains (opened (n + 1) ps) (p, c) → IsOpenAt (n + 1) p c ps) → (i : ℕ) → x.is_open ≡ true → i < suc (length (opened (n + 1) ps)) → get_or ((n, x.cluster) ∷ opened (n + 1) ps) i (p, c) ≡ (p, c) → IsOpenAt n p c (x ∷ ps)
    first rec zero g lt e =
        let m : n ≡ p = ap (λ v. v.0) e in
        record { at = 0; number = omega (arith, m); within = omega arith; is_open = g; cluster = ap (λ v. v.1) e }
    first rec (suc i) g lt e =
        let less : i < length (opened (n + 1) ps) = omega (arith, lt) in
        open_later n p c x ps (rec (i, less, e))

    by : (Contains (opened (n + 1) ps) (p, c) → IsOpenAt (n + 1) p c ps) → (b : Bool) → x.is_open ≡ b → Contains (cond b ((n, x.cluster) ∷ opened (n + 1) ps) (opened (n + 1) ps)) (p, c) → IsOpenAt n p c (x ∷ ps)
    by rec true g h = first rec h.0 g h.1 h.2
    by rec false g h = open_later n p c x ps (rec h)

-- ---- the first that passes a test
record IsFirstFrom (test : Processor → Bool) (n : ℕ) (ps : List Processor) (p : ℕ) : Type 0 where
  at : ℕ
  number : n + at ≡ p
  within : at < length ps
  passes : test (get_or ps at no_processor) ≡ true
  before : (q : ℕ) → q < at → test (get_or ps q no_processor) ≡ false

some_same : (a b : ℕ) → Some a ≡ Some b → a ≡ b
some_same a b e = cc

first_found : (test : Processor → Bool) (n : ℕ) (ps : List Processor) (p : ℕ) → first_from test n ps ≡ Some p → IsFirstFrom test n ps p
first_found test n [] p h = cc
first_found test n (x ∷ ps) p h = by (λ k. first_found test (n + 1) ps p k) (test x) refl h
  where
    by : (first_from test (n + 1) ps ≡ Some p → IsFirstFrom test (n + 1) ps p) → (b : Bool) → test x ≡ b → cond b (Some n) (first_from test (n + 1) ps) ≡ Some p → IsFirstFrom test n (x ∷ ps) p
    by rec true g e =
        let m = some_same n p e in
        record { at = 0; number = omega (arith, m); within = omega arith; passes = g; before = λ q lt. absurd (omega arith) }
    by rec false g e = later g (rec e)
      where
        before : (test x ≡ false) → (f : IsFirstFrom test (n + 1) ps p) (q : ℕ) → q < suc f.at → test (get_or (x ∷ ps) q no_processor) ≡ false
        before g f zero lt = g
        before g f (suc q) lt = f.before q (omega (arith, lt))

        later : (test x ≡ false) → IsFirstFrom test (n + 1) ps p → IsFirstFrom test n (x ∷ ps) p
        later g f =
            let m = f.number in
            let lt = f.within in
            record { at = suc f.at; number = omega (arith, m); within = omega (arith, lt); passes = f.passes; before = before g f }

none_found : (test : Processor → Bool) (n : ℕ) (ps : List Processor) → first_from test n ps ≡ None → (q : ℕ) → q < length ps → test (get_or ps q no_processor) ≡ false
none_found test n [] h q lt = absurd (omega arith)
none_found test n (x ∷ ps) h q lt = by (λ k i l. none_found test (n + 1) ps k i l) (test x) refl h
  where
    at : (first_from test (n + 1) ps ≡ None → (i : ℕ) → i < length ps → test (get_or ps i no_processor) ≡ false) → (q : ℕ) → q < suc (length ps) → test x ≡ false → first_from test (n + 1) ps ≡ None → test (get_or (x ∷ ps) q no_processor) ≡ false
    at rec zero lt g e = g
    at rec (suc q) lt g e = rec e q (omega (arith, lt))

    by : (first_from test (n + 1) ps ≡ None → (i : ℕ) → i < length ps → test (get_or ps i no_processor) ≡ false) → (b : Bool) → test x ≡ b → cond b (Some n) (first_from test (n + 1) ps) ≡ None → test (get_or (x ∷ ps) q no_processor) ≡ false
    by rec true g e = cc
    by rec false g e = at rec q lt g e

-- ---- in the words of the journal
both_true : (a b c : Bool) → a ≡ true → b ≡ true → c ≡ true → (a && (b && c)) ≡ true
both_true true true true x y z = refl
both_true a b c x y z = cc

no_task : (o : Option ℕ) → option_to_list o ≡ [] → is_none o ≡ true
no_task None h = refl
no_task (Some t) h = cc

task_none : (o : Option ℕ) → is_none o ≡ true → option_to_list o ≡ []
task_none None h = refl
task_none (Some t) h = cc

somebody : (q : List ℕ) (t : ℕ) (later : List ℕ) → q ≡ t ∷ later → not (is_nobody q) ≡ true
somebody q t later h = ap (λ l. not (is_nobody l)) h

record Takes (qs : List (List ℕ)) (x : Processor) : Type 0 where
  is_open : x.is_open ≡ true
  free : is_none x.task ≡ true
  front : ℕ
  rest : List ℕ
  queue : queue_at qs x.cluster ≡ front ∷ rest

takes_now : (qs : List (List ℕ)) (x : Processor) → may_take qs x ≡ true → Takes qs x
takes_now qs x h = by x.is_open (is_none x.task) (queue_at qs x.cluster) refl refl refl h
  where
    by : (a b : Bool) (q : List ℕ) → x.is_open ≡ a → is_none x.task ≡ b → queue_at qs x.cluster ≡ q → (a && (b && not (is_nobody q))) ≡ true → Takes qs x
    by true true (t ∷ ts) o f q h = record { is_open = o; free = f; front = t; rest = ts; queue = q }
    by true true [] o f q h = cc
    by true false q o f g h = cc
    by false b q o f g h = cc

-- processor p is given task t, the front of its cluster's queue
pub record IsGiven (opts : Options) (j : Journal) (v : Standing) (p t : ℕ) : Type 0 where
  pub known : p < length v.processors
  pub first : IsFirst opts j p t
  pub rest : List ℕ
  pub front : queue_at v.queues (processor_at v p).cluster ≡ t ∷ rest
  pub started_is : after_dispatch v ≡ started v p

module _ (opts : Options) (j : Journal) (v : Standing) (h : ClustersAre opts j v) where
  takes_of : (p t : ℕ) → Serves opts j p t → (p < length v.processors) × (may_take v.queues (processor_at v p) ≡ true)
  takes_of p t s =
      let at = only_open 0 p s.cluster v.processors (subst (λ l. Contains l (p, s.cluster)) h.desks.opened_are s.opened) in
      let m : at.at ≡ p = let k = at.number in omega arith in
      let open_p : (processor_at v p).is_open ≡ true = ap (λ i. (processor_at v i).is_open) (sym m) ∙ at.is_open in
      let cluster_p : (processor_at v p).cluster ≡ s.cluster = ap (λ i. (processor_at v i).cluster) (sym m) ∙ at.cluster in
      let within = at.within in
      let lt : p < length v.processors = omega arith in (
        lt,
        both_true (processor_at v p).is_open (is_none (processor_at v p).task) (not (is_nobody (queue_at v.queues (processor_at v p).cluster))) open_p (no_task (processor_at v p).task (h.runs p ∙ s.free)) (somebody (queue_at v.queues (processor_at v p).cluster) t s.later (ap (queue_at v.queues) cluster_p ∙ h.ready_are s.cluster ∙ s.queued)),
      )

  of_takes : (p : ℕ) → p < length v.processors → (x : Takes v.queues (processor_at v p)) → Serves opts j p x.front
  of_takes p lt x =
      let c = (processor_at v p).cluster in
      record {
        cluster = c;
        later = x.rest;
        opened = subst (λ l. Contains l (p, c)) (sym h.desks.opened_are) (has_open 0 p c v.processors (record { at = p; number = omega arith; within = lt; is_open = x.is_open; cluster = refl }));
        free = sym (h.runs p) ∙ task_none (processor_at v p).task x.free;
        queued = sym (h.ready_are c) ∙ x.queue;
      }

  pub given : (p t : ℕ) → Some (p, t) ≡ dispatched v → IsGiven opts j v p t
  given p t e = by (taking v) refl e
    where
      found : (q : ℕ) → taking v ≡ Some q → IsGiven opts j v q (front_at v q)
      found q g =
          let f = first_found (may_take v.queues) 0 v.processors q g in
          let m : f.at ≡ q = let k = f.number in omega arith in
          let passes : may_take v.queues (processor_at v q) ≡ true = ap (λ i. may_take v.queues (processor_at v i)) (sym m) ∙ f.passes in
          let x = takes_now v.queues (processor_at v q) passes in
          let known : q < length v.processors = let lt = f.within in omega arith in
          let front : front_at v q ≡ x.front = ap front_or_0 x.queue in
          record {
            known = known;
            first = record { serves = subst (Serves opts j q) (sym front) (of_takes q known x); least = λ r u s. least r u s f m };
            rest = x.rest;
            front = x.queue ∙ ap (λ n. n ∷ x.rest) (sym front);
            started_is = ap (after_by v) g;
          }
        where
          clash : (b : Bool) → b ≡ true → b ≡ false → ⊥
          clash b t f = cc

          least : (r u : ℕ) → Serves opts j r u → (f : IsFirstFrom (may_take v.queues) 0 v.processors q) → f.at ≡ q → q ≤ r
          least r u s f m = elim (cases_lt r q) [
            | inl lt ↦ absurd (clash (may_take v.queues (processor_at v r)) (takes_of r u s).1 (f.before r (omega arith)))
            | inr le ↦ le
          ]

      by : (o : Option ℕ) → taking v ≡ o → Some (p, t) ≡ dispatch_by v o → IsGiven opts j v p t
      by None g e = cc
      by (Some q) g e =
          let same : (q, front_at v q) ≡ (p, t) = pairs (q, front_at v q) (p, t) (sym e) in
          subst (λ x. IsGiven opts j v x.0 x.1) same (found q g)
        where
          pairs : (x y : ℕ × ℕ) → Some x ≡ Some y → x ≡ y
          pairs x y e = cc

  pub not_given : None ≡ dispatched v → (after_dispatch v ≡ v) × ((p t : ℕ) → Serves opts j p t → ⊥)
  not_given e = by (taking v) refl e
    where
      clash : (b : Bool) → b ≡ true → b ≡ false → ⊥
      clash b t f = cc

      by : (o : Option ℕ) → taking v ≡ o → None ≡ dispatch_by v o → (after_dispatch v ≡ v) × ((p t : ℕ) → Serves opts j p t → ⊥)
      by None g e =
          (ap (after_by v) g, λ p t s. let x = takes_of p t s in clash (may_take v.queues (processor_at v p)) x.1 (none_found (may_take v.queues) 0 v.processors g p x.0))
      by (Some q) g e = cc
