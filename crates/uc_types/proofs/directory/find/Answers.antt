use Rattle.std.proofs.Common.{◌∙◌}
use Rattle.uc_types.proofs.Placed.{meant_found, meant_nowhere}
use Rattle.uc_types.proofs.directory.find.Goals as goal

pub returns-in-Some : goal.returns-in-Some
returns-in-Some c = c.meant_at.ensures ∙ meant_found c.args.seen.now c.args.name.now c.in-Some.place (c.in-Some.ensures _ c.requires)

pub returns-in-None : goal.returns-in-None
returns-in-None c = meant_nowhere c.args.seen.now 0 c.args.name.now (c.in-None.ensures _ c.requires)
