use Rattle.uc_lower_class.proofs.Assembling.{left_at_none}
use Rattle.uc_lower_class.proofs.Further.{written_behind}
use Rattle.uc_lower_class.proofs.builder.leave_own.Goals as goal

pub leave_all-requires-clause-behind : goal.leave_all-requires-clause-behind
leave_all-requires-clause-behind c = written_behind c.args.names.now c.in-Some.class _ c.requires.written

pub returns-in-None : goal.returns-in-None
returns-in-None c = left_at_none c.args.names.now c.args.class c.args.out.now c.in-None.is
