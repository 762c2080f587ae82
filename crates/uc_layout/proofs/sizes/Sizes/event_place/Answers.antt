use Rattle.std.proofs.Common.{ap, ◌∙◌}
use Rattle.uc_layout.specs.FieldContents.{event_in}
use Rattle.uc_layout.proofs.Events.{event_is}
use Rattle.uc_layout.proofs.sizes.Sizes.event_place.Goals as goal

pub returns : goal.returns
returns c = c.event_of-event.ensures ∙ ap (λ cs. event_in cs c.args.base.now) c.classes.ensures ∙ event_is c.args.self.now c.args.base.now
