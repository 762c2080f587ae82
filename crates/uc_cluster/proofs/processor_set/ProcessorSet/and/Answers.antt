use Rattle.uc_cluster.proofs.Bits.{and_bit}
use Rattle.uc_cluster.proofs.processor_set.ProcessorSet.and.Goals as goal

pub returns : goal.returns
returns c = λ p. and_bit c.args.self.bits c.args.other.bits p
