use Rattle.std.proofs.Common.{Option, sym, subst, arith}
use Rattle.uc_code.specs.declared.op.Op.{Op}
use Rattle.uc_code.specs.declared.rows.Array.{Array}
use Rattle.uc_code.specs.Lowered.{SpotAt}
use Rattle.uc_code.specs.Emits.{Puts}
use Rattle.uc_code.specs.CodeShapes.{One}
use Rattle.uc_code.proofs.Putting.{puts_more}
use Rattle.uc_code.proofs.cleaning.put_place.Goals as goal

pub returns-in_ok-put_element-in-Some : goal.returns-in_ok-put_element-in-Some
returns-in_ok-put_element-in-Some c = subst (λ (a : Option Array). Puts 0 3 (λ code. SpotAt code c.args.line c.args.spot a) c.args.out.now c.put_element.new.out) (sym c.in-Some.is) c.in_ok-put_element-in-Some.ensures

pub returns-in_ok-put-in-None : goal.returns-in_ok-put-in-None
returns-in_ok-put-in-None c = subst (λ (a : Option Array). Puts 0 3 (λ code. SpotAt code c.args.line c.args.spot a) c.args.out.now c.put.new.out) (sym c.in-None.is) (puts_more (omega arith) (subst (λ (o : Op). Puts 0 1 (λ code. One code o c.args.line) c.args.out.now c.put.new.out) c.spot_op.ensures c.in_ok-put-in-None.ensures))
