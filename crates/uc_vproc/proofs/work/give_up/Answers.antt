use Rattle.std.proofs.Common.{[], sym, ap, ◌∙◌, arith, append-nil}
use Rattle.uc_vproc.specs.Desks.{Table}
use Rattle.uc_vproc.proofs.work.give_up.Goals as goal

pub give-requires-clause-journal : goal.give-requires-clause-journal
give-requires-clause-journal g c =
    ([], c.abandon.ensures.log ∙ ap (λ (x : Table). x.log) (c.deref_mut.ensures.value ∙ c.behind-held.view_is ∙ c.value.ensures.value) ∙ sym (ap (λ s. s.seen) c.take-held.ensures.seat) ∙ sym (append-nil _), λ k d lt. absurd (omega (arith, lt)))
