use Rattle.uc_kernel_core.proofs.DoorLemmas.{signal_block}
use Rattle.uc_kernel_core.proofs.laws.law_signal_block.Goals as goal

pub returns : goal.returns
returns c = signal_block
