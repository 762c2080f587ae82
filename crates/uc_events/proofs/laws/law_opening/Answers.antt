use Rattle.uc_events.proofs.Mirrors.{opening}
use Rattle.uc_events.proofs.laws.law_opening.Goals as goal

pub returns : goal.returns
returns c = opening
