use Rattle.std.proofs.Common.{◌∙◌}
use Rattle.uc_types.proofs.Stacks.{local_some, local_none}
use Rattle.uc_types.proofs.names.find.Goals as goal

pub returns-in-Some : goal.returns-in-Some
returns-in-Some c = c.meant_at.ensures ∙ local_some c.args.names.now c.args.places.now c.args.name.now c.bytes.result.now c.in-Some.place c.bytes.ensures c.requires c.in-Some.ensures

pub returns-in-None : goal.returns-in-None
returns-in-None c = local_none c.args.names.now c.args.places.now c.args.name.now c.bytes.result.now c.bytes.ensures c.requires c.in-None.ensures
