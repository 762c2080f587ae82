use Rattle.std.proofs.Common.{◌≡◌, ℕ, ◌<◌, List, [], ◌∷◌, ◌++◌, Bool, false, cond, length, ap, sym, ◌∙◌, subst, arith, length-append, nat_lt}
use Rattle.std.specs.List.{AllByRecursion}
use Rattle.std.specs.Prelude.{if◌then◌else◌}
use Rattle.std.proofs.lemmas.Bool.{lt-ltb}
use Rattle.uc_tree.specs.declared.limits.TheConstants.{CLUSTERS}
use Rattle.uc_cluster.specs.declared.processor_set.ProcessorSet.{ProcessorSet}
use Rattle.uc_cluster.specs.Standing.{Standing, IsKept, with_cluster}
use Rattle.uc_cluster.specs.ProcessorSet.{has, IsMarked}
use Rattle.uc_cluster.proofs.Bits.{no_has}
use Rattle.uc_cluster.proofs.Marks.{more_cluster}
use Rattle.uc_cluster.proofs.Queues.{all_push, all_unpush}
use Rattle.uc_cluster.proofs.clusters.Clusters.add_cluster.Goals as goal

pub invariant_of-self : goal.invariant_of-self
invariant_of-self c =
    let s = c.self.inside in let qs = s.queues.items in let inv = c.self.invariant in let n = length s.places in
    let spare_is = c.in-Some.ensures.items in
    let parts = all_unpush (λ q. q ≡ []) c.pop.new.self.items c.in-Some.queue (subst (AllByRecursion (λ q. q ≡ [])) spare_is inv.2) in
    let queues_are = c.push_reserved.ensures.items ∙ ap (λ (q : List ℕ). qs ++ q ∷ []) parts.1 in
    let more = ap (λ (l : List (List ℕ)). length l) queues_are ∙ length-append qs ([] ∷ []) in
    let less = ap (λ (l : List (List ℕ)). length l) spare_is ∙ length-append c.pop.new.self.items (c.in-Some.queue ∷ []) in
    let all = inv.0 in let room = inv.1 in let room_2 = inv.8 in let same = c.push_reserved.ensures.capacity in let same_2 = c.push_reserved-in-Some.ensures.capacity in
    let none : (p : ℕ) → has c.empty.result p ≡ false = λ p. ap (λ (z : ProcessorSet). has z p) c.empty.ensures ∙ no_has p in
    let marked = more_cluster qs s.processors.items s.members.items s.idle s.served c.empty.result none inv.7 in (
      omega (arith, more, less, all),
      omega (arith, room, same),
      parts.0,
      inv.3,
      inv.4,
      inv.5,
      subst (AllByRecursion (IsKept n)) (sym queues_are) (all_push (IsKept n) qs [] inv.6 (record { apart = tt; below = tt })),
      subst (λ (l : List ProcessorSet). IsMarked c.push_reserved.new.self.items s.processors.items l s.idle s.served) (sym c.push_reserved-in-Some.ensures.items) (subst (λ (l : List (List ℕ)). IsMarked l s.processors.items (s.members.items ++ c.empty.result ∷ []) s.idle s.served) (sym queues_are) marked),
      omega (arith, room_2, same_2),
    )

pub returns-in-Some-clause-standing : goal.returns-in-Some-clause-standing
returns-in-Some-clause-standing c =
    let s = c.self.inside in let qs = s.queues.items in let inv = c.self.invariant in
    let spare_is = c.in-Some.ensures.items in
    let parts = all_unpush (λ q. q ≡ []) c.pop.new.self.items c.in-Some.queue (subst (AllByRecursion (λ q. q ≡ [])) spare_is inv.2) in
    let queues_are = c.push_reserved.ensures.items ∙ ap (λ (q : List ℕ). qs ++ q ∷ []) parts.1 in
    let less = ap (λ (l : List (List ℕ)). length l) spare_is ∙ length-append c.pop.new.self.items (c.in-Some.queue ∷ []) in
    let all = inv.0 in
    let few : length qs < 64 = omega (arith, less, all) in
    let old : Standing = record { queues = qs; processors = s.processors.items; places = s.places } in
    ap (λ (q : List (List ℕ)). (let v : Standing = record { queues = q; processors = s.processors.items; places = s.places } in v)) queues_are
    ∙ sym (ap (λ (b : Bool). cond b (with_cluster old) old) (lt-ltb (length qs) 64 few))
    ∙ ap (λ (v : Standing). if nat_lt (length v.queues) CLUSTERS then with_cluster v else v) c.self.view_is
