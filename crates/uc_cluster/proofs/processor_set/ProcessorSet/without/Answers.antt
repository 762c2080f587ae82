use Rattle.uc_cluster.proofs.Bits.{without_bit}
use Rattle.uc_cluster.proofs.processor_set.ProcessorSet.without.Goals as goal

pub returns : goal.returns
returns c = λ p small. without_bit c.args.self.bits c.args.processor c.requires p small
