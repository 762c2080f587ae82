use Rattle.uc_nesting.proofs.StatementDepths.{program_shallow}
use Rattle.uc_nesting.proofs.laws.law_shallow.Goals as goal

pub returns : goal.returns
returns c = program_shallow
