use Rattle.std.proofs.Common.{arith, true, false}
use Rattle.uc_code.specs.declared.rows.Manner.TheVariants as manner
use Rattle.uc_code.proofs.Putting.{puts_by}
use Rattle.uc_code.proofs.cleaning.put_made.Goals as goal

pub returns-in_ok-put_made_written : goal.returns-in_ok-put_made_written
returns-in_ok-put_made_written c = puts_by c.args.line c.args.routine (manner.Makes c.args.class) c.args.written true c.args.out.now c.put_made_written.new.out c.if-written.true (omega arith) c.in_ok-put_made_written.ensures

pub returns-in_ok-put_made_unwritten : goal.returns-in_ok-put_made_unwritten
returns-in_ok-put_made_unwritten c = puts_by c.args.line c.args.routine (manner.Makes c.args.class) c.args.written false c.args.out.now c.put_made_unwritten.new.out c.if-written.false (omega arith) c.in_ok-put_made_unwritten.ensures
