use Rattle.std.proofs.Common.{arith}
use Rattle.uc_lower_stmt.proofs.RaisingLemmas.{arm_raise_at}
use Rattle.uc_lower_stmt.proofs.raise.lower_raise_at.Goals as goal

pub lower_new-requires : goal.lower_new-requires
lower_new-requires c = omega (arith, c.requires)

pub lower_expr-requires : goal.lower_expr-requires
lower_expr-requires c = let a = c.in_ok-lower_new.ensures.room in omega (arith, a, c.requires)

pub put-requires : goal.put-requires
put-requires c = let a = c.in_ok-lower_new.ensures.room in let b = c.in_ok-_told.ensures.code.room in omega (arith, a, b, c.requires)

pub returns : goal.returns
returns c = arm_raise_at c.args.names.now c.args.line c.args.raised.now c.args.target.now c.args.out.now _ _ _ c.in_ok-lower_new.ensures c.in_ok-_told.ensures.code c.in_ok-put.ensures
