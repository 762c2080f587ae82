use Rattle.std.proofs.Common.{arith, subst, true, false}
use Rattle.uc_code.specs.declared.op.Op.{Op}
use Rattle.uc_code.specs.CodeShapes.{One}
use Rattle.uc_code.specs.Emits.{Puts}
use Rattle.uc_code.specs.declared.rows.Manner.TheVariants as manner
use Rattle.uc_code.proofs.Putting.{puts_called}
use Rattle.uc_code.proofs.cleaning.put_called.Goals as goal

pub put_plain-requires-clause-behind : goal.put_plain-requires-clause-behind
put_plain-requires-clause-behind c = c.requires.behind.behind

pub put_made-requires-clause-behind : goal.put_made-requires-clause-behind
put_made-requires-clause-behind c = c.requires.behind.behind

pub put_ended-requires-clause-behind : goal.put_ended-requires-clause-behind
put_ended-requires-clause-behind c = c.requires.behind.behind

pub returns-in_ok-put_plain-in-Plain : goal.returns-in_ok-put_plain-in-Plain
returns-in_ok-put_plain-in-Plain c = puts_called c.args.line c.args.what manner.Plain c.args.out.now c.put_plain.new.out c.in-Plain.is (omega arith) c.in_ok-put_plain-in-Plain.ensures

pub returns-in_ok-put_made-in-Makes : goal.returns-in_ok-put_made-in-Makes
returns-in_ok-put_made-in-Makes c = puts_called c.args.line c.args.what _ c.args.out.now c.put_made.new.out c.in-Makes.is (omega arith) c.in_ok-put_made-in-Makes.ensures

pub returns-in_ok-put_ended-in-Ends : goal.returns-in_ok-put_ended-in-Ends
returns-in_ok-put_ended-in-Ends c = puts_called c.args.line c.args.what manner.Ends c.args.out.now c.put_ended.new.out c.in-Ends.is (omega arith) c.in_ok-put_ended-in-Ends.ensures

pub returns-in_ok-put_opened-in-Opens : goal.returns-in_ok-put_opened-in-Opens
returns-in_ok-put_opened-in-Opens c = puts_called c.args.line c.args.what _ c.args.out.now c.put_opened.new.out c.in-Opens.is (omega arith) c.in_ok-put_opened-in-Opens.ensures

pub returns-in_ok-put-in-Closes : goal.returns-in_ok-put-in-Closes
returns-in_ok-put-in-Closes c = puts_called c.args.line c.args.what _ c.args.out.now c.put.new.out c.in-Closes.is (omega arith) (subst (λ (o : Op). Puts 0 1 (λ code. One code o c.args.line) c.args.out.now c.put.new.out) c.close_op.ensures c.in_ok-put-in-Closes.ensures)
