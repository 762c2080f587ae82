use Rattle.std.proofs.Common.{arith, true, false}
use Rattle.uc_code.specs.declared.rows.Manner.TheVariants as manner
use Rattle.uc_code.proofs.Putting.{puts_found}
use Rattle.uc_code.proofs.cleaning.put_found.Goals as goal

pub returns-in_ok-put_place-in-Plain : goal.returns-in_ok-put_place-in-Plain
returns-in_ok-put_place-in-Plain c = puts_found c.args.line c.args.what manner.Plain c.args.out.now c.put_place.new.out c.in-Plain.is (omega arith) c.in_ok-put_place-in-Plain.ensures

pub returns-in_ok-put_place-in-Makes : goal.returns-in_ok-put_place-in-Makes
returns-in_ok-put_place-in-Makes c = puts_found c.args.line c.args.what _ c.args.out.now c.put_place-in-Makes.new.out c.in-Makes.is (omega arith) c.in_ok-put_place-in-Makes.ensures

pub returns-in_ok-put_number-in-Ends : goal.returns-in_ok-put_number-in-Ends
returns-in_ok-put_number-in-Ends c = puts_found c.args.line c.args.what manner.Ends c.args.out.now c.put_number.new.out c.in-Ends.is (omega arith) c.in_ok-put_number-in-Ends.ensures.ends

pub returns-in_ok-put_place-in-Opens : goal.returns-in_ok-put_place-in-Opens
returns-in_ok-put_place-in-Opens c = puts_found c.args.line c.args.what _ c.args.out.now c.put_place-in-Opens.new.out c.in-Opens.is (omega arith) c.in_ok-put_place-in-Opens.ensures

pub returns-in_ok-put_number-in-Closes : goal.returns-in_ok-put_number-in-Closes
returns-in_ok-put_number-in-Closes c = puts_found c.args.line c.args.what _ c.args.out.now c.put_number-in-Closes.new.out c.in-Closes.is (omega arith) (c.in_ok-put_number-in-Closes.ensures.closes c.in-Closes.field-0)
