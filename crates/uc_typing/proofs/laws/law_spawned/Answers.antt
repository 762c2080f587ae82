use Rattle.uc_typing.proofs.Answers.{law_spawned}
use Rattle.uc_typing.proofs.laws.law_spawned.Goals as goal

pub returns : goal.returns
returns c = law_spawned
