use Rattle.std.proofs.Common.{arith}
use Rattle.uc_lower_stmt.proofs.RaisingLemmas.{arm_throw}
use Rattle.uc_lower_stmt.proofs.raise.lower_throw.Goals as goal

pub returns : goal.returns
returns c = arm_throw c.args.names.now c.args.line c.args.raised.now c.args.out.now c.lower_raised.new.out c.put_throw.new.out c.in_ok-lower_raised.ensures c.in_ok-put_throw.ensures

pub put_throw-requires : goal.put_throw-requires
put_throw-requires c = let a = c.in_ok-lower_raised.ensures.room in omega (arith, a, c.requires)
