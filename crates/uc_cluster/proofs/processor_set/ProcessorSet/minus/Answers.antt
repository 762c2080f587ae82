use Rattle.std.proofs.Common.{rules}
use Rattle.uc_cluster.proofs.Bits.{minus_bit}
use Rattle.uc_cluster.proofs.processor_set.ProcessorSet.minus.Goals as goal

pub returns : goal.returns
returns c = λ p small. minus_bit c.args.self.bits c.args.other.bits p (search rules) small
