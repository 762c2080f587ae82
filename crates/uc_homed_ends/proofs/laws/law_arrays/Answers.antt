use Rattle.uc_homed_ends.proofs.ArrayRuns.{law_arrays}
use Rattle.uc_homed_ends.proofs.laws.law_arrays.Goals as goal

pub returns : goal.returns
returns c = law_arrays
