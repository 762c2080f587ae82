use Rattle.uc_lower_class.proofs.Further.{written_behind}
use Rattle.uc_lower_class.proofs.builder.build_own.Goals as goal

pub build_all-requires-clause-behind : goal.build_all-requires-clause-behind
build_all-requires-clause-behind c = written_behind c.args.names.now c.in-Some.class _ c.requires.written
