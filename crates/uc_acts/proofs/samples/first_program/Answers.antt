use Rattle.uc_acts.proofs.Sampled.{first_program}
use Rattle.uc_acts.proofs.samples.first_program.Goals as goal

pub returns : goal.returns
returns c = first_program
