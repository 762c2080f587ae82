use Rattle.std.proofs.Common.{◌∙◌}
use Rattle.uc_types.proofs.Placed.{class_found, class_nowhere}
use Rattle.uc_types.proofs.bases.class_sort.Goals as goal

pub returns-in-Some : goal.returns-in-Some
returns-in-Some c = c.sort_at.ensures ∙ class_found (λ b. b.now) c.args.classes.now c.args.name.now c.in-Some.place (c.in-Some.ensures _ c.requires)

pub returns-in-None : goal.returns-in-None
returns-in-None c = class_nowhere (λ b. b.now) c.args.classes.now 0 c.args.name.now (c.in-None.ensures _ c.requires)
