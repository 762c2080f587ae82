use Rattle.uc_tree.proofs.PathLemmas.{law_paths}
use Rattle.uc_tree.proofs.laws.law_paths.Goals as goal

pub returns : goal.returns
returns c = law_paths
