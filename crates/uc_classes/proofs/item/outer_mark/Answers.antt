use Rattle.std.proofs.Common.{ap, ◌∙◌}
use Rattle.uc_rules.specs.ProgramVisits.{outer_mark}
use Rattle.uc_classes.proofs.item.outer_mark.Goals as goal

pub returns : goal.returns
returns c = c.in_ok-mark.ensures ∙ ap (λ p. outer_mark p c.args.home c.args.sig.now) c.requires
