use Rattle.std.proofs.Common.{◌≡◌, sym, ap, ◌∙◌, subst}
use Rattle.uc_lock.specs.Journals.{Extends}
use Rattle.uc_vproc.specs.Desks.{Table}
use Rattle.uc_vproc.proofs.work.begin.Goals as goal

pub give-requires-clause-journal : goal.give-requires-clause-journal
give-requires-clause-journal g c =
    let seat = c.take-held.ensures.seat in
    let is : c.deref_mut.result.now ≡ c.take-held.result = c.deref_mut.ensures.value ∙ c.behind-held.view_is ∙ c.value.ensures.value in
    subst (λ l. Extends c.take-held.new.seat.number l c.begin-step.new.self.log) (ap (λ (x : Table). x.log) is ∙ sym (ap (λ s. s.seen) seat)) (subst (λ m. Extends m c.deref_mut.result.now.log c.begin-step.new.self.log) (c.number-number.ensures ∙ sym (ap (λ s. s.number) seat)) c.begin-step.ensures.log)
