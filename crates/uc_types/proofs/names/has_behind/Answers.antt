use Rattle.uc_types.proofs.Stacks.{behind_some, behind_none}
use Rattle.uc_types.proofs.names.has_behind.Goals as goal

pub returns-in-Some : goal.returns-in-Some
returns-in-Some c = behind_some c.args.outside c.in-Some.place c.args.names.now c.args.places.now c.args.name.now c.bytes.result.now c.bytes.ensures c.requires c.in-Some.ensures

pub returns-in-None : goal.returns-in-None
returns-in-None c = behind_none c.args.outside c.args.names.now c.args.places.now c.args.name.now c.bytes.result.now c.bytes.ensures c.requires c.in-None.ensures
