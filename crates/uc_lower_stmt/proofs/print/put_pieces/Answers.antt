use Rattle.std.proofs.Common.{arith}
use Rattle.uc_lower_stmt.proofs.Printing.{reversed_start, reversed_more, reversed_end}
use Rattle.uc_lower_stmt.proofs.print.put_pieces.Goals as goal

pub put-requires : goal.put-requires
put-requires c = let r = c.loop-left.invariant.code.room in omega (arith, r)

pub loop-left-init : goal.loop-left-init
loop-left-init c = record { inside = omega arith; code = reversed_start c.args.pieces.now c.args.line c.args.out.now }

pub loop-left-preserved : goal.loop-left-preserved
loop-left-preserved c = record { inside = let i = c.loop-left.invariant.inside in omega (arith, i); code = reversed_more c.args.pieces.now c.loop-left.left c.args.line _ _ _ _ c.loop-left-test.true c.loop-left.invariant.inside c.loop-left.invariant.code c.in_ok-put.ensures }

pub returns : goal.returns
returns c = reversed_end c.args.pieces.now c.loop-left.left c.args.line _ _ c.loop-left-test.false c.loop-left.invariant.code
