use Rattle.std.proofs.Common.{◌∙◌}
use Rattle.uc_types.proofs.Grouped.{group_found, group_nowhere}
use Rattle.uc_types.proofs.outside.find.Goals as goal

pub returns-in-Some : goal.returns-in-Some
returns-in-Some c = c.routines_at.ensures ∙ group_found c.args.groups.now c.args.name.now c.in-Some.place (c.in-Some.ensures _ c.requires.places_are)

pub returns-in-None : goal.returns-in-None
returns-in-None c = group_nowhere c.args.groups.now 0 c.args.name.now (c.in-None.ensures _ c.requires.places_are)
