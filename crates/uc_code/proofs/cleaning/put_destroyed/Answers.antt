use Rattle.std.proofs.Common.{Option, sym, subst, arith}
use Rattle.uc_code.specs.declared.rows.Array.{Array}
use Rattle.uc_code.specs.Lowered.{CleanBy}
use Rattle.uc_code.specs.Emits.{Puts}
use Rattle.uc_code.specs.RowCounts.{array_rows}
use Rattle.uc_code.proofs.Putting.{puts_more}
use Rattle.uc_code.proofs.cleaning.put_destroyed.Goals as goal

pub returns-in_ok-put_sweep-in-Some : goal.returns-in_ok-put_sweep-in-Some
returns-in_ok-put_sweep-in-Some c = subst (λ (a : Option Array). Puts (array_rows a) 23 (λ code. CleanBy code c.args.line a c.args.what c.args.out.now.marks) c.args.out.now c.put_sweep.new.out) (sym c.in-Some.is) c.in_ok-put_sweep-in-Some.ensures

pub returns-in_ok-put_done-in-None : goal.returns-in_ok-put_done-in-None
returns-in_ok-put_done-in-None c = subst (λ (a : Option Array). Puts (array_rows a) 23 (λ code. CleanBy code c.args.line a c.args.what c.args.out.now.marks) c.args.out.now c.put_done.new.out) (sym c.in-None.is) (puts_more (omega arith) c.in_ok-put_done-in-None.ensures)
