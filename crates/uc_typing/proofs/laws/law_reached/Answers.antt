use Rattle.uc_typing.proofs.Answers.{law_reached}
use Rattle.uc_typing.proofs.Keeps.{no_binding}
use Rattle.uc_typing.proofs.laws.law_reached.Goals as goal

pub returns-clause-reached : goal.returns-clause-reached
returns-clause-reached c = law_reached

pub returns-clause-no_binding : goal.returns-clause-no_binding
returns-clause-no_binding c = no_binding
