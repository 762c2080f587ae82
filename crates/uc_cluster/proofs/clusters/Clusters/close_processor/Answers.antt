use Rattle.std.proofs.Common.{◌≡◌, ℕ, ◌<◌, false, refl, length, ap, sym, ◌∙◌, subst, arith, length-set}
use Rattle.std.proofs.lemmas.List.{get_or_default}
use Rattle.uc_cluster.specs.declared.clusters.Processor.{Processor}
use Rattle.uc_cluster.specs.Standing.{Standing, no_processor, closed}
use Rattle.uc_cluster.proofs.Marks.{rewritten}
use Rattle.uc_cluster.proofs.clusters.Clusters.close_processor.Goals as goal

pub invariant_of-self : goal.invariant_of-self
invariant_of-self c =
    let s = c.self.inside in let qs = s.queues.items in let ps = s.processors.items in let inv = c.self.invariant in let p = c.args.processor in
    let lt : p < length ps = subst (λ (v : Standing). p < length v.processors) (sym c.self.view_is) c.requires in
    let old = c.index_mut.ensures.value ∙ get_or_default ps p c.index_mut.result.now no_processor lt in
    let x = closed c.index_mut.result.now in
    let marked = rewritten qs ps s.members.items s.idle s.served c.set-self-inside.result p x false lt (ap (λ (y : Processor). y.cluster) old) refl c.set-self-inside.ensures inv.7 in
    let few = inv.4 in let wide = length-set ps p x in (inv.0, inv.1, inv.2, inv.3, omega (arith, few, wide), inv.5, inv.6, marked, inv.8)
