use Rattle.std.proofs.Common.{ap, ◌∙◌}
use Rattle.uc_rules.specs.ClassBreaks.{is_new_routine}
use Rattle.uc_rules.specs.Sorts.{class_at}
use Rattle.uc_classes.proofs.ask.is_free.Goals as goal

pub returns : goal.returns
returns c =
    c.is_new_routine-new.ensures (ap (λ p. class_at p c.args.walked.home.class) c.tables.ensures ∙ c.requires.walks.at)
    ∙ ap (λ s. is_new_routine c.args.walked.class.now c.args.member s) c.sig.view_is
