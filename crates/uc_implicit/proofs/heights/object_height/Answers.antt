use Rattle.std.proofs.Common.{arith}
use Rattle.uc_implicit.proofs.heights.object_height.Goals as goal

pub returns-else-object-heights-clause-few : goal.returns-else-object-heights-clause-few
returns-else-object-heights-clause-few c = omega (arith, c.requires.at 0)
