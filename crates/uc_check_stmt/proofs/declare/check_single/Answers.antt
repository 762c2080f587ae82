use Rattle.uc_check_stmt.proofs.Starts.{no_single}
use Rattle.uc_check_stmt.proofs.declare.check_single.Goals as goal

pub returns-clause-single : goal.returns-clause-single
returns-clause-single c = no_single c.args.names.now c.args.args.now c.is_empty.result c.if-args-eq1.false c.is_empty.ensures
