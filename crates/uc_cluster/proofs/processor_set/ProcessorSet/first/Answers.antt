use Rattle.uc_cluster.proofs.Bits.{first_bit}
use Rattle.uc_cluster.proofs.processor_set.ProcessorSet.first.Goals as goal

pub returns : goal.returns
returns c = λ p. first_bit c.args.count p c.requires.1
