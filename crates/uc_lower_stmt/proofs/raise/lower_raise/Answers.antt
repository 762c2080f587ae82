use Rattle.std.proofs.Common.{arith}
use Rattle.uc_lower_stmt.proofs.RaisingLemmas.{arm_raise}
use Rattle.uc_lower_stmt.proofs.raise.lower_raise.Goals as goal

pub returns : goal.returns
returns c = arm_raise c.args.names.now c.args.line c.args.raised.now c.args.out.now c.lower_raised.new.out c.put_raise.new.out c.in_ok-lower_raised.ensures c.in_ok-put_raise.ensures

pub put_raise-requires : goal.put_raise-requires
put_raise-requires c = let a = c.in_ok-lower_raised.ensures.room in omega (arith, a, c.requires)
