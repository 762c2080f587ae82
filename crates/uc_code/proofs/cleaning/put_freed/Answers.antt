use Rattle.std.proofs.Common.{ℕ, Option, sym, subst, None, Some}
use Rattle.uc_code.specs.declared.rows.Cleaning.TheVariants as cleaning
use Rattle.uc_code.specs.Lowered.{CleanAt}
use Rattle.uc_code.specs.Emits.{Puts}
use Rattle.uc_code.proofs.cleaning.put_freed.Goals as goal

pub returns-in_ok-put-in-None : goal.returns-in_ok-put-in-None
returns-in_ok-put-in-None c = subst (λ (o : Option ℕ). Puts 0 1 (λ code. CleanAt code c.args.line (cleaning.Free o) c.args.out.now.marks) c.args.out.now c.put.new.out) (sym c.in-None.is) c.in_ok-put-in-None.ensures

pub returns-in_ok-put-in-Some : goal.returns-in_ok-put-in-Some
returns-in_ok-put-in-Some c = subst (λ (o : Option ℕ). Puts 0 1 (λ code. CleanAt code c.args.line (cleaning.Free o) c.args.out.now.marks) c.args.out.now c.put-in-Some.new.out) (sym c.in-Some.is) c.in_ok-put-in-Some.ensures
