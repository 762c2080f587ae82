use Rattle.uc_cluster.proofs.Bits.{with_bit}
use Rattle.uc_cluster.proofs.processor_set.ProcessorSet.with.Goals as goal

pub returns : goal.returns
returns c = λ p small. with_bit c.args.self.bits c.args.processor c.requires p
