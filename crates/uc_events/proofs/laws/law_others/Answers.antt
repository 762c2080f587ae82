use Rattle.uc_events.proofs.Mirrors.{others}
use Rattle.uc_events.proofs.laws.law_others.Goals as goal

pub returns : goal.returns
returns c = others
