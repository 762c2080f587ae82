use Rattle.std.proofs.Common.{ap, ◌∙◌}
use Rattle.uc_tree.specs.Objects.{event_from}
use Rattle.uc_layout.proofs.sizes.Sizes.event_named.Goals as goal

pub returns : goal.returns
returns c = c.event_named-event.ensures ∙ ap (λ cs. event_from cs 0 c.args.name.now) c.classes.ensures
