use Rattle.std.proofs.Common.{◌≡◌, ℕ, ◌<◌, sym, ◌∙◌, subst, []}
use Rattle.std.proofs.lemmas.Bool.{ltb-true}
use Rattle.uc_condition.specs.Waiting.{Waiting, IsBusy, queue_at}
use Rattle.uc_condition.proofs.Tables.{busy, nobody, none_below}
use Rattle.uc_condition.proofs.conditions.Conditions.is_busy.Goals as goal

pub returns-clause-busy : goal.returns-clause-busy
returns-clause-busy c = λ t.
    let s = c.self.inside in
    subst (IsBusy c.args.object) c.self.view_is (busy s.tasks s.objects s.rows.items s.buckets.items s.counts.items c.self.invariant c.args.object (subst (λ (n : ℕ). 0 < n) c.count_at.ensures (ltb-true 0 c.count_at.result t)))

pub returns-clause-idle : goal.returns-clause-idle
returns-clause-idle c = λ f.
    let s = c.self.inside in
    subst (λ (v : Waiting). (k : ℕ) → queue_at v c.args.object k ≡ []) c.self.view_is (nobody s.tasks s.objects s.rows.items s.buckets.items s.counts.items c.self.invariant c.args.object (sym c.count_at.ensures ∙ none_below c.count_at.result f))
