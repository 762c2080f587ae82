use Rattle.std.proofs.Common.{arith}
use Rattle.uc_code.proofs.Putting.{puts_clean, calls_behind}
use Rattle.uc_code.proofs.cleaning.put_clean.Goals as goal

pub put_destroyed-requires-clause-behind : goal.put_destroyed-requires-clause-behind
put_destroyed-requires-clause-behind c = calls_behind c.args.out.now.marks c.args.what c.in-Call.call c.in-Call.is c.requires.behind

pub returns-in_ok-put_destroyed-in-Call : goal.returns-in_ok-put_destroyed-in-Call
returns-in_ok-put_destroyed-in-Call c = puts_clean c.args.line c.args.what _ c.args.out.now c.put_destroyed.new.out c.in-Call.is (omega arith) c.in_ok-put_destroyed-in-Call.ensures

pub returns-in_ok-put-in-TakeDown : goal.returns-in_ok-put-in-TakeDown
returns-in_ok-put-in-TakeDown c = puts_clean c.args.line c.args.what _ c.args.out.now c.put.new.out c.in-TakeDown.is (omega arith) c.in_ok-put-in-TakeDown.ensures

pub returns-in_ok-put-in-Forget : goal.returns-in_ok-put-in-Forget
returns-in_ok-put-in-Forget c = puts_clean c.args.line c.args.what _ c.args.out.now c.put-in-Forget.new.out c.in-Forget.is (omega arith) c.in_ok-put-in-Forget.ensures

pub returns-in_ok-put_leave-in-Leave : goal.returns-in_ok-put_leave-in-Leave
returns-in_ok-put_leave-in-Leave c = puts_clean c.args.line c.args.what _ c.args.out.now c.put_leave.new.out c.in-Leave.is (omega arith) c.in_ok-put_leave-in-Leave.ensures

pub returns-in_ok-put-in-End : goal.returns-in_ok-put-in-End
returns-in_ok-put-in-End c = puts_clean c.args.line c.args.what _ c.args.out.now c.put-in-End.new.out c.in-End.is (omega arith) c.in_ok-put-in-End.ensures

pub returns-in_ok-put_freed-in-Free : goal.returns-in_ok-put_freed-in-Free
returns-in_ok-put_freed-in-Free c = puts_clean c.args.line c.args.what _ c.args.out.now c.put_freed.new.out c.in-Free.is (omega arith) c.in_ok-put_freed-in-Free.ensures

pub returns-in_ok-put-in-Restore : goal.returns-in_ok-put-in-Restore
returns-in_ok-put-in-Restore c = puts_clean c.args.line c.args.what _ c.args.out.now c.put-in-Restore.new.out c.in-Restore.is (omega arith) c.in_ok-put-in-Restore.ensures
