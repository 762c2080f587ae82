use Rattle.std.proofs.Common.{◌<◌, ap, sym, ◌∙◌, subst, rules, arith, length}
use Rattle.std.specs.List.{AllByRecursion}
use Rattle.std.proofs.lemmas.List.{get_or_default}
use Rattle.uc_condition.specs.declared.buckets.Bucket.{Bucket}
use Rattle.uc_condition.specs.Waiting.{Waiting, first_number, queue_at}
use Rattle.uc_condition.specs.Buckets.{no_row, bucket_at, tasks_in, IsFound}
use Rattle.uc_condition.proofs.Tables.{take_task, front_number, tasks_known, none_queue}
use Rattle.uc_condition.proofs.conditions.Conditions.front.Goals as goal

pub find-requires : goal.find-requires
find-requires c =
    let s = c.self.inside in let rows = s.rows.items in let bs = s.buckets.items in
    subst (λ (b : Bucket). AllByRecursion (λ t. t < length rows) (tasks_in rows b)) (sym c.bucket_at-bucket.ensures) (tasks_known rows bs c.place.result c.self.invariant.each)

pub index-row-requires : goal.index-row-requires
index-row-requires c =
    let s = c.self.inside in let rows = s.rows.items in let bs = s.buckets.items in let o = c.args.object in let k = c.args.cond in
    let b_is = c.bucket_at-bucket.ensures ∙ ap (bucket_at bs) c.place.ensures in
    let known = take_task rows bs s.counts.items c.self.invariant o k c.in-Some.found (subst (λ (b : Bucket). IsFound rows b o k c.in-Some.found) b_is c.in-Some.ensures.some) in
    let len = s.rows.ok.0 in
    omega (arith, known, len)

pub returns-in-Some : goal.returns-in-Some
returns-in-Some c =
    let s = c.self.inside in let rows = s.rows.items in let bs = s.buckets.items in let o = c.args.object in let k = c.args.cond in
    let b_is = c.bucket_at-bucket.ensures ∙ ap (bucket_at bs) c.place.ensures in
    let h = subst (λ (b : Bucket). IsFound rows b o k c.in-Some.found) b_is c.in-Some.ensures.some in
    let known = take_task rows bs s.counts.items c.self.invariant o k c.in-Some.found h in
    let same = c.index-row.ensures ∙ get_or_default rows c.in-Some.found.task c.index-row.result.now no_row known in
    front_number rows bs s.counts.items c.self.invariant o k c.in-Some.found h c.index-row.result.now same _ (search rules) ∙ ap (λ (v : Waiting). first_number (queue_at v o k)) c.self.view_is

pub returns-in-None : goal.returns-in-None
returns-in-None c =
    let s = c.self.inside in let rows = s.rows.items in let bs = s.buckets.items in let o = c.args.object in let k = c.args.cond in
    let b_is = c.bucket_at-bucket.ensures ∙ ap (bucket_at bs) c.place.ensures in
    ap first_number (sym (none_queue rows bs o k _ b_is c.in-None.ensures.none)) ∙ ap (λ (v : Waiting). first_number (queue_at v o k)) c.self.view_is
