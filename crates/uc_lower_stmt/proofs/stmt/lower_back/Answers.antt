use Rattle.uc_lower_stmt.proofs.Parting.{arm_back, arm_back_behind, arm_back_alone}
use Rattle.uc_lower_stmt.proofs.stmt.lower_back.Goals as goal

pub returns-in_ok-put-in-TestFirst : goal.returns-in_ok-put-in-TestFirst
returns-in_ok-put-in-TestFirst c = arm_back c.args.names.now c.args.line c.args.turn _ _ _ _ _ c.in-TestFirst.is c.in_ok-_told-in-TestFirst.ensures.code c.in_ok-put-in-TestFirst.ensures

pub returns-in_ok-put-in-BodyFirst : goal.returns-in_ok-put-in-BodyFirst
returns-in_ok-put-in-BodyFirst c = arm_back_behind c.args.names.now c.args.line c.args.turn _ _ _ _ _ c.in-BodyFirst.is c.in_ok-_told-in-BodyFirst.ensures.code c.in_ok-put-in-BodyFirst.ensures

pub returns-in_ok-put-in-NoTest : goal.returns-in_ok-put-in-NoTest
returns-in_ok-put-in-NoTest c = arm_back_alone c.args.names.now c.args.line c.args.turn _ _ _ c.in-NoTest.is c.in_ok-put-in-NoTest.ensures
