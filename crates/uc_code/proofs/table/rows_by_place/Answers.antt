use Rattle.std.proofs.Common.{arith}
use Rattle.uc_code.proofs.table.rows_by_place.Goals as goal

pub fill-requires-clause-few : goal.fill-requires-clause-few
fill-requires-clause-few c = let a = c.loop-name.invariant.count in let b = c.ranges.places.fits in omega arith
