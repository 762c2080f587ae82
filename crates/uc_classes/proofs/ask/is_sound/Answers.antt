use Rattle.std.proofs.Common.{ap, ◌∙◌}
use Rattle.uc_rules.specs.ItemBreaks.{is_sound_member}
use Rattle.uc_classes.proofs.ask.is_sound.Goals as goal

pub returns : goal.returns
returns c = c.in_ok-holds.ensures ∙ ap (λ p. is_sound_member p c.args.walked.class.now c.args.proto c.args.sig.now c.args.member) c.requires
