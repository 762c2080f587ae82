use Rattle.std.proofs.Common.{arith, true, false}
use Rattle.uc_code.specs.declared.rows.Manner.TheVariants as manner
use Rattle.uc_code.proofs.Putting.{puts_by, puts_behind}
use Rattle.uc_code.proofs.cleaning.put_plain.Goals as goal

pub returns-in_ok-put_written : goal.returns-in_ok-put_written
returns-in_ok-put_written c = puts_by c.args.line c.args.routine manner.Plain c.args.written true c.args.out.now c.put_written.new.out c.if-written.true (omega arith) c.in_ok-put_written.ensures

pub returns-in_ok-put_at_risk : goal.returns-in_ok-put_at_risk
returns-in_ok-put_at_risk c =
    puts_by c.args.line c.args.routine manner.Plain c.args.written false c.args.out.now c.put_at_risk.new.out c.if-written.false (omega arith) (puts_behind c.args.routine c.args.line c.args.out.now c.put_at_risk.new.out (c.requires.behind c.if-written.false) c.in_ok-put_at_risk.ensures)
