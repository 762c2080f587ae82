use Rattle.std.proofs.Common.{◌≡◌, ℕ, ◌<◌, ◌+◌, ◌&&◌, Bool, true, false, not, [], Some, length, ap, sym, ◌∙◌, subst, arith, slice_set, length-set, get_or-set_same}
use Rattle.std.proofs.lemmas.List.{get_or_default}
use Rattle.uc_cluster.specs.declared.clusters.Processor.{Processor}
use Rattle.uc_cluster.specs.declared.processor_set.ProcessorSet.{ProcessorSet}
use Rattle.uc_cluster.specs.Standing.{Standing, IsKept, no_processor, processor_at, queue_at, is_nobody, may_take, running, rest_of}
use Rattle.uc_cluster.specs.ProcessorSet.{has}
use Rattle.uc_cluster.proofs.Marks.{shifted, rewritten, takes_some, busy_is_not_idle}
use Rattle.uc_cluster.proofs.Queues.{all_at, all_set, kept_rest}
use Rattle.uc_cluster.proofs.clusters.Clusters.start.Goals as goal

pub invariant_of-self : goal.invariant_of-self
invariant_of-self c =
    let s = c.self.inside in let qs = s.queues.items in let ps = s.processors.items in let sets = s.members.items in let inv = c.self.invariant in let p = c.args.processor in let n = length s.places in
    let lt : p < length ps = subst (λ (v : Standing). p < length v.processors) (sym c.self.view_is) c.requires.processor in
    let takes = subst (λ (v : Standing). may_take v.queues (processor_at v p) ≡ true) (sym c.self.view_is) c.requires.ready in
    let x_is = c.index.ensures ∙ get_or_default ps p c.index.result.now no_processor lt in
    let k = c.index.result.now.cluster in
    let k_is : k ≡ (processor_at (record { queues = qs; processors = ps; places = s.places }) p).cluster = ap (λ (x : Processor). x.cluster) x_is in
    let known : k < length qs = subst (λ (m : ℕ). m < length qs) (sym k_is) (inv.7.known p lt) in
    let some : is_nobody (queue_at qs k) ≡ false = ap (λ (m : ℕ). is_nobody (queue_at qs m)) k_is ∙ takes_some (processor_at (record { queues = qs; processors = ps; places = s.places }) p) qs takes in
    let q = c.shift-task.new.self in
    let was = c.index_mut.ensures.value ∙ get_or_default qs k c.index_mut.result.now [] known in
    let q_is = c.shift-task.ensures.rest ∙ ap rest_of was in
    let kept = subst (IsKept n) (sym q_is) (kept_rest n (queue_at qs k) (all_at (IsKept n) qs k [] inv.6 known)) in
    let long = length-set qs k q in
    let now_is = c.index-2.ensures ∙ get_or_default (slice_set qs k q) k c.index-2.result.now [] (subst (λ (m : ℕ). k < m) (sym long) known) ∙ get_or-set_same qs k q [] known in
    let last_is : c.is_empty-is_last.result ≡ is_nobody q = c.is_empty-is_last.ensures ∙ ap is_nobody now_is in
    let moved = shifted qs ps sets s.idle s.served c.but-self-inside.result k q known inv.4
    (λ u small. c.but-self-inside.ensures u small ∙ ap (λ (b : Bool). has s.served u && not (b && has c.set_at.result u)) last_is ∙ ap (λ (z : ProcessorSet). has s.served u && not (is_nobody q && has z u)) c.set_at.ensures) some inv.7 in
    let y_is = c.index_mut-2.ensures.value ∙ get_or_default ps p c.index_mut-2.result.now no_processor lt in
    let x = running (Some c.shift-task.result) c.index_mut-2.result.now in
    let marked = rewritten (slice_set qs k q) ps sets s.idle c.but-self-inside.result c.set-self-inside.result p x false lt (ap (λ (y : Processor). y.cluster) y_is) (busy_is_not_idle c.index_mut-2.result.now c.shift-task.result) c.set-self-inside.ensures moved in
    let few = inv.4 in let wide = length-set ps p x in (
      ap (λ (m : ℕ). m + length s.spare.items) long ∙ inv.0,
      inv.1,
      inv.2,
      inv.3,
      omega (arith, few, wide),
      inv.5,
      all_set (IsKept n) qs k q inv.6 kept,
      marked,
      inv.8,
    )
