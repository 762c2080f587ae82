use Rattle.std.proofs.Common.{◌≡◌, ◌≢◌, ℕ, ◌<◌, ◌-◌, List, ap, sym, ◌∙◌, subst, arith, slice_set, length, refl, []}
use Rattle.std.specs.List.{AllByRecursion}
use Rattle.std.proofs.lemmas.List.{get_or_default}
use Rattle.uc_condition.specs.declared.buckets.WaitRow.{WaitRow}
use Rattle.uc_condition.specs.declared.buckets.Bucket.{Bucket}
use Rattle.uc_condition.specs.Waiting.{Waiting, place, put, first_task, rest_of, queue_at}
use Rattle.uc_condition.specs.Buckets.{bucket_at, all_waits, tasks_in, unlinked, unlinked_bucket, IsFound}
use Rattle.uc_condition.proofs.Waits.{queue_in, waits_same}
use Rattle.uc_condition.proofs.Tables.{tasks_known, none_queue, take_task, take_before, take_first, take_queues, take_counted, take_object, take_table, take_free, same_table}
use Rattle.uc_condition.proofs.conditions.Conditions.take.Goals as goal

pub find-requires : goal.find-requires
find-requires c =
    let s = c.self.inside in let rows = s.rows.items in let bs = s.buckets.items in
    subst (λ (b : Bucket). AllByRecursion (λ t. t < length rows) (tasks_in rows b)) (sym c.bucket_at-bucket.ensures) (tasks_known rows bs c.place-at.result c.self.invariant.each)

pub unlink-shorter-requires-clause-task : goal.unlink-shorter-requires-clause-task
unlink-shorter-requires-clause-task c =
    let s = c.self.inside in let rows = s.rows.items in let bs = s.buckets.items in let o = c.args.object in let k = c.args.cond in
    let b_is = c.bucket_at-bucket.ensures ∙ ap (bucket_at bs) c.place-at.ensures in
    take_task rows bs s.counts.items c.self.invariant o k c.in-Some.found (subst (λ (b : Bucket). IsFound rows b o k c.in-Some.found) b_is c.in-Some.ensures.some)

pub unlink-shorter-requires-clause-before : goal.unlink-shorter-requires-clause-before
unlink-shorter-requires-clause-before c =
    let s = c.self.inside in let rows = s.rows.items in let bs = s.buckets.items in let o = c.args.object in let k = c.args.cond in
    let b_is = c.bucket_at-bucket.ensures ∙ ap (bucket_at bs) c.place-at.ensures in
    take_before rows bs s.counts.items c.self.invariant o k c.in-Some.found (subst (λ (b : Bucket). IsFound rows b o k c.in-Some.found) b_is c.in-Some.ensures.some)

pub index_mut-requires-in-Some : goal.index_mut-requires-in-Some
index_mut-requires-in-Some c =
    let s = c.self.inside in let rows = s.rows.items in let bs = s.buckets.items in let o = c.args.object in let k = c.args.cond in
    let b_is = c.bucket_at-bucket.ensures ∙ ap (bucket_at bs) c.place-at.ensures in
    let known = take_object rows bs s.counts.items c.self.invariant o k c.in-Some.found (subst (λ (b : Bucket). IsFound rows b o k c.in-Some.found) b_is c.in-Some.ensures.some) in
    let len = s.counts.ok.0 in
    omega (arith, known, len)

pub overflow_sub-index_mut : goal.overflow_sub-index_mut
overflow_sub-index_mut c =
    let s = c.self.inside in let rows = s.rows.items in let bs = s.buckets.items in let o = c.args.object in let k = c.args.cond in
    let b_is = c.bucket_at-bucket.ensures ∙ ap (bucket_at bs) c.place-at.ensures in
    let h = subst (λ (b : Bucket). IsFound rows b o k c.in-Some.found) b_is c.in-Some.ensures.some in
    let is = c.index_mut-in-Some.ensures.value ∙ get_or_default s.counts.items o c.index_mut-in-Some.result.now 0 (take_object rows bs s.counts.items c.self.invariant o k c.in-Some.found h) in
    let some = take_counted rows bs s.counts.items c.self.invariant o k c.in-Some.found h in
    omega (arith, is, some)

pub invariant_of-self : goal.invariant_of-self
invariant_of-self c =
    let s = c.self.inside in let rows = s.rows.items in let bs = s.buckets.items in let o = c.args.object in let k = c.args.cond in let f = c.in-Some.found in
    let b_is = c.bucket_at-bucket.ensures ∙ ap (bucket_at bs) c.place-at.ensures in
    let h = subst (λ (b : Bucket). IsFound rows b o k f) b_is c.in-Some.ensures.some in
    let is = c.index_mut-in-Some.ensures.value ∙ get_or_default s.counts.items o c.index_mut-in-Some.result.now 0 (take_object rows bs s.counts.items c.self.invariant o k f h) in
    same_table
    c.unlink-shorter.ensures.rows
    (ap (λ (i : ℕ). slice_set bs i c.unlink-shorter.result) c.place-at.ensures ∙ ap (slice_set bs (place o k)) (c.unlink-shorter.ensures.bucket ∙ ap (λ (b : Bucket). unlinked_bucket rows b f) b_is))
    (ap (λ (m : ℕ). slice_set s.counts.items o (m - 1)) is)
    (take_table rows bs s.counts.items c.self.invariant o k f h)

pub returns-in-Some-clause-value : goal.returns-in-Some-clause-value
returns-in-Some-clause-value c =
    let s = c.self.inside in let rows = s.rows.items in let bs = s.buckets.items in let o = c.args.object in let k = c.args.cond in let f = c.in-Some.found in
    let b_is = c.bucket_at-bucket.ensures ∙ ap (bucket_at bs) c.place-at.ensures in
    let h = subst (λ (b : Bucket). IsFound rows b o k f) b_is c.in-Some.ensures.some in
    take_first rows bs s.counts.items c.self.invariant o k f h ∙ ap (λ (v : Waiting). first_task (queue_at v o k)) c.self.view_is

pub returns-in-Some-clause-queues : goal.returns-in-Some-clause-queues
returns-in-Some-clause-queues c =
    let s = c.self.inside in let rows = s.rows.items in let bs = s.buckets.items in let o = c.args.object in let k = c.args.cond in let f = c.in-Some.found in
    let b_is = c.bucket_at-bucket.ensures ∙ ap (bucket_at bs) c.place-at.ensures in
    let h = subst (λ (b : Bucket). IsFound rows b o k f) b_is c.in-Some.ensures.some in
    let buckets_are = ap (λ (i : ℕ). slice_set bs i c.unlink-shorter.result) c.place-at.ensures ∙ ap (slice_set bs (place o k)) (c.unlink-shorter.ensures.bucket ∙ ap (λ (b : Bucket). unlinked_bucket rows b f) b_is) in
    record {
      tasks = ap (λ (v : Waiting). v.tasks) c.self.view_is;
      objects = ap (λ (v : Waiting). v.objects) c.self.view_is;
      queue = λ p d.
          ap (λ (r : List WaitRow). queue_in (all_waits r (slice_set bs c.place-at.result c.unlink-shorter.result)) p d) c.unlink-shorter.ensures.rows
          ∙ ap (λ (l : List Bucket). queue_in (all_waits (unlinked rows f) l) p d) buckets_are
          ∙ take_queues rows bs s.counts.items c.self.invariant o k f h p d
          ∙ ap (λ (v : Waiting). put o k (rest_of (queue_at v o k)) (queue_at v) p d) c.self.view_is;
    }

pub returns-in-Some-clause-free : goal.returns-in-Some-clause-free
returns-in-Some-clause-free c =
    let s = c.self.inside in let rows = s.rows.items in let bs = s.buckets.items in let o = c.args.object in let k = c.args.cond in let f = c.in-Some.found in
    let b_is = c.bucket_at-bucket.ensures ∙ ap (bucket_at bs) c.place-at.ensures in
    let h = subst (λ (b : Bucket). IsFound rows b o k f) b_is c.in-Some.ensures.some in
    let buckets_are = ap (λ (i : ℕ). slice_set bs i c.unlink-shorter.result) c.place-at.ensures ∙ ap (slice_set bs (place o k)) (c.unlink-shorter.ensures.bucket ∙ ap (λ (b : Bucket). unlinked_bucket rows b f) b_is) in
    λ p d.
    subst (λ (r : List WaitRow). AllByRecursion (λ w. w.0 ≢ f.task) (queue_in (all_waits r (slice_set bs c.place-at.result c.unlink-shorter.result)) p d)) (sym c.unlink-shorter.ensures.rows)
    (subst (λ (l : List Bucket). AllByRecursion (λ w. w.0 ≢ f.task) (queue_in (all_waits (unlinked rows f) l) p d)) (sym buckets_are) (take_free rows bs s.counts.items c.self.invariant o k f h p d))

pub returns-in-None-clause-value : goal.returns-in-None-clause-value
returns-in-None-clause-value c =
    let s = c.self.inside in let rows = s.rows.items in let bs = s.buckets.items in let o = c.args.object in let k = c.args.cond in
    let b_is = c.bucket_at-bucket.ensures ∙ ap (bucket_at bs) c.place-at.ensures in
    ap first_task (sym (none_queue rows bs o k _ b_is c.in-None.ensures.none)) ∙ ap (λ (v : Waiting). first_task (queue_at v o k)) c.self.view_is

pub returns-in-None-clause-queues : goal.returns-in-None-clause-queues
returns-in-None-clause-queues c =
    let s = c.self.inside in let rows = s.rows.items in let bs = s.buckets.items in let o = c.args.object in let k = c.args.cond in
    let b_is = c.bucket_at-bucket.ensures ∙ ap (bucket_at bs) c.place-at.ensures in
    let none = subst (λ (v : Waiting). queue_at v o k ≡ []) c.self.view_is (none_queue rows bs o k _ b_is c.in-None.ensures.none) in
    record { tasks = refl; objects = refl; queue = λ p d. waits_same (queue_at c.args.self.now) o k none p d }
