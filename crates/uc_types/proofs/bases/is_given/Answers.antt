use Rattle.uc_types.proofs.Given.{given_else}
use Rattle.uc_types.proofs.bases.is_given.Goals as goal

pub returns-else-is : goal.returns-else-is
returns-else-is c = given_else c.args.name.now c.is.result c.is-else-is.result c.is.ensures.test c.if-is.false c.is-else-is.ensures.test
