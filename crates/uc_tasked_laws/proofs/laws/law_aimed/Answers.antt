use Rattle.uc_tasked_laws.proofs.Aiming.{law_aimed}
use Rattle.uc_tasked_laws.proofs.laws.law_aimed.Goals as goal

pub returns : goal.returns
returns c = law_aimed
