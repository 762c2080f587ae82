use Rattle.std.proofs.Common.{ap, ◌∙◌}
use Rattle.std.specs.Prelude.{slice_get}
use Rattle.uc_rules.specs.ProgramVisits.{mark_in}
use Rattle.uc_rules.specs.Sorts.{class_at}
use Rattle.uc_check_index.proofs.index.Index.mark_in.Goals as goal

pub returns : goal.returns
returns c =
    c.in_ok-mark.ensures
    ∙ ap (λ l. mark_in c.args.sig.now (slice_get l c.args.class)) (c.deref.ensures.value ∙ c.self.invariant.2)
    ∙ ap (λ p. mark_in c.args.sig.now (class_at p c.args.class)) c.self.view_is
