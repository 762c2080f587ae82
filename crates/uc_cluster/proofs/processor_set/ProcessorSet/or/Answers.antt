use Rattle.uc_cluster.proofs.Bits.{or_bit}
use Rattle.uc_cluster.proofs.processor_set.ProcessorSet.or.Goals as goal

pub returns : goal.returns
returns c = λ p. or_bit c.args.self.bits c.args.other.bits p
