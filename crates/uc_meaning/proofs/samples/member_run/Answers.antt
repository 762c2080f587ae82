use Rattle.uc_meaning.proofs.ObjectsSampled.{member_run}
use Rattle.uc_meaning.proofs.samples.member_run.Goals as goal

pub returns : goal.returns
returns c = member_run
