use Rattle.std.proofs.Common.{◌≡◌, ℕ, ◌<◌, ◌==◌, Bool, true, not, cond, List, [], ◌∷◌, length, ap, sym, ◌∙◌, subst, arith, slice_set, length-append}
use Rattle.uc_cluster.specs.declared.clusters.Processor.{Processor}
use Rattle.uc_cluster.specs.declared.processor_set.ProcessorSet.{ProcessorSet}
use Rattle.uc_cluster.specs.Standing.{Standing, new_processor, queue_at, is_nobody}
use Rattle.uc_cluster.specs.ProcessorSet.{has, set_at, IsMarked}
use Rattle.uc_cluster.proofs.Marks.{more_processor}
use Rattle.uc_cluster.proofs.clusters.Clusters.add_processor.Goals as goal

pub invariant_of-self : goal.invariant_of-self
invariant_of-self c =
    let s = c.self.inside in let qs = s.queues.items in let ps = s.processors.items in let sets = s.members.items in let inv = c.self.invariant in let k = c.args.cluster in
    let n = c.len-number.result in
    let len = s.processors.ok.0 in let is = c.len-number.ensures in
    let n_is : n ≡ length ps = omega (arith, len, is) in
    let lt : k < length qs = subst (λ (v : Standing). k < length v.queues) (sym c.self.view_is) c.requires in
    let few : length ps < 64 = omega (arith, n_is) in
    let ready_is = c.has_ready-has_ready.ensures ∙ ap (λ (v : Standing). not (is_nobody (queue_at v.queues k))) (sym c.self.view_is) in
    let idles = c.set-self-inside.result in let serves = c.set-self-inside-then-number-lt-PROCESSORS.result in let mems = c.set-members.result in
    let marked = more_processor qs ps sets s.idle s.served idles serves mems k lt few
    (λ p below. c.set-self-inside.ensures p below ∙ ap (λ (m : ℕ). cond (p == m) true (has s.idle p)) n_is)
    (λ p below. c.set-self-inside-then-number-lt-PROCESSORS.ensures p below ∙ ap (λ (b : Bool). cond (p == n) b (has s.served p)) ready_is ∙ ap (λ (m : ℕ). cond (p == m) (not (is_nobody (queue_at qs k))) (has s.served p)) n_is)
    (λ p below. c.set-members.ensures p below ∙ ap (λ (z : ProcessorSet). cond (p == n) true (has z p)) c.set_at.ensures ∙ ap (λ (m : ℕ). cond (p == m) true (has (set_at sets k) p)) n_is)
    inv.7 in
    let more = ap (λ (l : List Processor). length l) c.push_reserved.ensures.items ∙ length-append ps (new_processor k ∷ []) in
    let room = inv.3 in let same = c.push_reserved.ensures.capacity in
    (inv.0, inv.1, inv.2, omega (arith, room, same), omega (arith, more, few), inv.5, inv.6, subst (λ (l : List Processor). IsMarked qs l (slice_set sets k mems) idles serves) (sym c.push_reserved.ensures.items) marked, inv.8)
