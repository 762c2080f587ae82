use Rattle.std.proofs.Common.{◌≡◌, ◌≢◌, ℕ, ℤ, ◌<◌, ◌+◌, ◌++◌, ◌∷◌, [], List, ap, sym, ◌∙◌, subst, arith, rules, length, slice_set, to_z, of_z, w64}
use Rattle.std.specs.List.{AllByRecursion}
use Rattle.std.proofs.lemmas.List.{get_or_default}
use Rattle.uc_condition.specs.declared.buckets.WaitRow.{WaitRow}
use Rattle.uc_condition.specs.declared.buckets.Bucket.{Bucket}
use Rattle.uc_condition.specs.Waiting.{Waiting, place, put, queue_at}
use Rattle.uc_condition.specs.Buckets.{bucket_at, all_waits, linked, linked_bucket}
use Rattle.uc_condition.proofs.Waits.{queue_in}
use Rattle.uc_condition.proofs.Tables.{in_table, link_last, link_room, link_table, link_queues, counts_few, same_table}
use Rattle.uc_condition.proofs.conditions.Conditions.wait.Goals as goal

pub link-longer-requires-clause-task : goal.link-longer-requires-clause-task
link-longer-requires-clause-task c =
    let s = c.self.inside in let t = c.args.task in
    let lt : t < s.tasks = subst (λ (v : Waiting). t < v.tasks) (sym c.self.view_is) c.requires.task in
    let h = c.self.invariant.has_rows in omega (arith, lt, h)

pub link-longer-requires-clause-last : goal.link-longer-requires-clause-last
link-longer-requires-clause-last c =
    let s = c.self.inside in let rows = s.rows.items in let bs = s.buckets.items in let o = c.args.object in let k = c.args.cond in let t = c.args.task in
    let lt : t < s.tasks = subst (λ (v : Waiting). t < v.tasks) (sym c.self.view_is) c.requires.task in
    let known : o < s.objects = subst (λ (v : Waiting). o < v.objects) (sym c.self.view_is) c.requires.object in
    let free = subst (λ (v : Waiting). (a d : ℕ) → AllByRecursion (λ w. w.0 ≢ t) (queue_at v a d)) (sym c.self.view_is) c.requires.free in
    let b_is = c.bucket_at-bucket.ensures ∙ ap (bucket_at bs) c.place-at.ensures in
    subst (λ (b : Bucket). 0 < b.count → b.last < length rows) (sym b_is) (link_last rows bs s.counts.items c.self.invariant o k t c.args.n lt known free)

pub link-longer-requires-clause-room : goal.link-longer-requires-clause-room
link-longer-requires-clause-room c =
    let s = c.self.inside in let rows = s.rows.items in let bs = s.buckets.items in let o = c.args.object in let k = c.args.cond in let t = c.args.task in
    let lt : t < s.tasks = subst (λ (v : Waiting). t < v.tasks) (sym c.self.view_is) c.requires.task in
    let known : o < s.objects = subst (λ (v : Waiting). o < v.objects) (sym c.self.view_is) c.requires.object in
    let free = subst (λ (v : Waiting). (a d : ℕ) → AllByRecursion (λ w. w.0 ≢ t) (queue_at v a d)) (sym c.self.view_is) c.requires.free in
    let b_is = c.bucket_at-bucket.ensures ∙ ap (bucket_at bs) c.place-at.ensures in
    subst (λ (b : Bucket). b.count < 4294967295) (sym b_is) (link_room rows bs s.counts.items c.self.invariant o k t c.args.n lt known free)

pub index_mut-requires : goal.index_mut-requires
index_mut-requires c =
    let s = c.self.inside in let o = c.args.object in let t = c.args.task in
    let lt : t < s.tasks = subst (λ (v : Waiting). t < v.tasks) (sym c.self.view_is) c.requires.task in
    let known : o < s.objects = subst (λ (v : Waiting). o < v.objects) (sym c.self.view_is) c.requires.object in
    let free = subst (λ (v : Waiting). (a d : ℕ) → AllByRecursion (λ w. w.0 ≢ t) (queue_at v a d)) (sym c.self.view_is) c.requires.free in
    let within = subst (λ (k : ℕ). k < length s.buckets.items) (sym c.place-at.ensures) (in_table s.rows.items s.buckets.items s.counts.items c.self.invariant o c.args.cond t c.args.n lt known free) in
    let len = s.buckets.ok.0 in
    omega (arith, within, len)

pub index_mut-requires-2 : goal.index_mut-requires-2
index_mut-requires-2 c =
    let s = c.self.inside in let o = c.args.object in
    let known : o < s.objects = subst (λ (v : Waiting). o < v.objects) (sym c.self.view_is) c.requires.object in
    let h = c.self.invariant.has_counts in let len = s.counts.ok.0 in omega (arith, known, h, len)

pub overflow_add-index_mut : goal.overflow_add-index_mut
overflow_add-index_mut c =
    let s = c.self.inside in let o = c.args.object in
    let known : o < s.objects = subst (λ (v : Waiting). o < v.objects) (sym c.self.view_is) c.requires.object in
    let h = c.self.invariant.has_counts in
    let is = c.index_mut-2.ensures.value ∙ get_or_default s.counts.items o c.index_mut-2.result.now 0 (omega (arith, known, h)) in
    let few = counts_few s.rows.items s.buckets.items s.counts.items c.self.invariant o in
    omega (arith, is, few)

pub invariant_of-self : goal.invariant_of-self
invariant_of-self c =
    let s = c.self.inside in let rows = s.rows.items in let bs = s.buckets.items in let o = c.args.object in let k = c.args.cond in let t = c.args.task in
    let lt : t < s.tasks = subst (λ (v : Waiting). t < v.tasks) (sym c.self.view_is) c.requires.task in
    let known : o < s.objects = subst (λ (v : Waiting). o < v.objects) (sym c.self.view_is) c.requires.object in
    let free = subst (λ (v : Waiting). (a d : ℕ) → AllByRecursion (λ w. w.0 ≢ t) (queue_at v a d)) (sym c.self.view_is) c.requires.free in
    let b_is = c.bucket_at-bucket.ensures ∙ ap (bucket_at bs) c.place-at.ensures in
    let h = c.self.invariant.has_counts in
    let row : WaitRow = record { object = o; cond = k; n = c.args.n; next = 0 } in
    let n_is : to_z w64 (of_z w64 c.args.n) ≡ c.args.n = search rules in
    let is = c.index_mut-2.ensures.value ∙ get_or_default s.counts.items o c.index_mut-2.result.now 0 (omega (arith, known, h)) in
    same_table
    (c.link-longer.ensures.rows ∙ ap (λ (z : ℤ). linked rows c.bucket_at-bucket.result t (record { object = o; cond = k; n = z; next = 0 })) n_is ∙ ap (λ (b : Bucket). linked rows b t row) b_is)
    (ap (λ (i : ℕ). slice_set bs i c.link-longer.result) c.place-at.ensures ∙ ap (slice_set bs (place o k)) (c.link-longer.ensures.bucket ∙ ap (λ (b : Bucket). linked_bucket b t) b_is))
    (ap (λ (m : ℕ). slice_set s.counts.items o (m + 1)) is)
    (link_table rows bs s.counts.items c.self.invariant o k t c.args.n lt known free)

pub returns : goal.returns
returns c =
    let s = c.self.inside in let rows = s.rows.items in let bs = s.buckets.items in let o = c.args.object in let k = c.args.cond in let t = c.args.task in let n = c.args.n in
    let lt : t < s.tasks = subst (λ (v : Waiting). t < v.tasks) (sym c.self.view_is) c.requires.task in
    let known : o < s.objects = subst (λ (v : Waiting). o < v.objects) (sym c.self.view_is) c.requires.object in
    let free = subst (λ (v : Waiting). (a d : ℕ) → AllByRecursion (λ w. w.0 ≢ t) (queue_at v a d)) (sym c.self.view_is) c.requires.free in
    let b_is = c.bucket_at-bucket.ensures ∙ ap (bucket_at bs) c.place-at.ensures in
    let row : WaitRow = record { object = o; cond = k; n = n; next = 0 } in
    let n_is : to_z w64 (of_z w64 n) ≡ n = search rules in
    let rows_are = c.link-longer.ensures.rows ∙ ap (λ (z : ℤ). linked rows c.bucket_at-bucket.result t (record { object = o; cond = k; n = z; next = 0 })) n_is ∙ ap (λ (b : Bucket). linked rows b t row) b_is in
    let buckets_are = ap (λ (i : ℕ). slice_set bs i c.link-longer.result) c.place-at.ensures ∙ ap (slice_set bs (place o k)) (c.link-longer.ensures.bucket ∙ ap (λ (b : Bucket). linked_bucket b t) b_is) in
    record {
      tasks = ap (λ (v : Waiting). v.tasks) c.self.view_is;
      objects = ap (λ (v : Waiting). v.objects) c.self.view_is;
      queue = λ p d.
          ap (λ (r : List WaitRow). queue_in (all_waits r (slice_set bs c.place-at.result c.link-longer.result)) p d) rows_are
          ∙ ap (λ (l : List Bucket). queue_in (all_waits (linked rows (bucket_at bs (place o k)) t row) l) p d) buckets_are
          ∙ link_queues rows bs s.counts.items c.self.invariant o k t n lt known free p d
          ∙ ap (λ (v : Waiting). put o k (queue_at v o k ++ (t, n) ∷ []) (queue_at v) p d) c.self.view_is;
    }
