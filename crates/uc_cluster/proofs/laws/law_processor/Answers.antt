use Rattle.uc_cluster.proofs.Desks.{processor_more}
use Rattle.uc_cluster.proofs.laws.law_processor.Goals as goal

pub returns : goal.returns
returns c = processor_more
