use Rattle.uc_typing.proofs.Keeps.{keeps}
use Rattle.uc_typing.proofs.laws.law_typed.Goals as goal

pub returns : goal.returns
returns c = keeps
