use Rattle.std.proofs.Common.{refl}
use Rattle.uc_code.specs.declared.rows.Cleaning.TheVariants as cleaning
use Rattle.uc_lower_stmt.proofs.Joined.{puts_adds}
use Rattle.uc_lower_stmt.proofs.Ending.{cleaned_as, cleaned_most, freed_as}
use Rattle.uc_lower_stmt.proofs.objects.put_cleaned.Goals as goal

pub returns-in_ok-put_clean-in-Call : goal.returns-in_ok-put_clean-in-Call
returns-in_ok-put_clean-in-Call c = cleaned_most c.args.line c.args.what (cleaning.Call c.in-Call.field-0) c.args.out.now _ c.in-Call.is refl c.in_ok-put_clean-in-Call.ensures

pub returns-in_ok-put-in-TakeDown : goal.returns-in_ok-put-in-TakeDown
returns-in_ok-put-in-TakeDown c = cleaned_as c.args.line c.args.what cleaning.TakeDown c.args.out.now _ c.in-TakeDown.is (puts_adds c.in_ok-put-in-TakeDown.ensures)

pub returns-in_ok-put-in-Forget : goal.returns-in_ok-put-in-Forget
returns-in_ok-put-in-Forget c = cleaned_as c.args.line c.args.what cleaning.Forget c.args.out.now _ c.in-Forget.is (puts_adds c.in_ok-put-in-Forget.ensures)

pub returns-in_ok-put_clean-in-Leave : goal.returns-in_ok-put_clean-in-Leave
returns-in_ok-put_clean-in-Leave c = cleaned_most c.args.line c.args.what cleaning.Leave c.args.out.now _ c.in-Leave.is refl c.in_ok-put_clean-in-Leave.ensures

pub returns-in_ok-put-in-End : goal.returns-in_ok-put-in-End
returns-in_ok-put-in-End c = cleaned_as c.args.line c.args.what cleaning.End c.args.out.now _ c.in-End.is (puts_adds c.in_ok-put-in-End.ensures)

pub returns-in_ok-put-in-Restore : goal.returns-in_ok-put-in-Restore
returns-in_ok-put-in-Restore c = cleaned_as c.args.line c.args.what (cleaning.Restore c.in-Restore.cell) c.args.out.now _ c.in-Restore.is (puts_adds c.in_ok-put-in-Restore.ensures)

pub returns-in_ok-put-in-Free : goal.returns-in_ok-put-in-Free
returns-in_ok-put-in-Free c = cleaned_as c.args.line c.args.what (cleaning.Free c.in-Free.main) c.args.out.now _ c.in-Free.is (freed_as c.args.line c.in-Free.main _ c.args.out.now _ c.free_op.ensures (puts_adds c.in_ok-put-in-Free.ensures))
