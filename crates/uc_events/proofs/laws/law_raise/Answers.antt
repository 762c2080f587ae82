use Rattle.uc_events.proofs.Mirrors.{raise}
use Rattle.uc_events.proofs.laws.law_raise.Goals as goal

pub returns : goal.returns
returns c = raise
