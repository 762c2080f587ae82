use Rattle.std.proofs.Common.{ap, ◌∙◌}
use Rattle.std.specs.Prelude.{slice_get}
use Rattle.uc_rules.specs.ItemBreaks.{class_declares}
use Rattle.uc_rules.specs.Sorts.{class_at}
use Rattle.uc_check_index.proofs.index.Index.is_declared_in.Goals as goal

pub returns : goal.returns
returns c =
    c.in_ok-declared.ensures
    ∙ ap (λ l. class_declares c.args.sig.now (slice_get l c.args.class)) (c.deref.ensures.value ∙ c.self.invariant.2)
    ∙ ap (λ p. class_declares c.args.sig.now (class_at p c.args.class)) c.self.view_is
