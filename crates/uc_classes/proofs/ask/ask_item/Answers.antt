use Rattle.std.proofs.Common.{ap, ◌∙◌}
use Rattle.uc_rules.specs.Visits.{AtItem}
use Rattle.uc_types.specs.FirstBreak.{first_break_after}
use Rattle.uc_classes.proofs.ask.ask_item.Goals as goal

pub returns : goal.returns
returns c = c.in_ok-note_item.ensures ∙ ap (λ p. first_break_after c.args.found.now (AtItem p c.args.item.now c.args.place)) c.requires
