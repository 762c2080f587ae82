use Rattle.uc_kernel_core.proofs.DoorLemmas.{spawn_one}
use Rattle.uc_kernel_core.proofs.laws.law_spawn.Goals as goal

pub returns : goal.returns
returns c = spawn_one
