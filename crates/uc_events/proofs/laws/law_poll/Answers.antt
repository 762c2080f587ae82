use Rattle.uc_events.proofs.Mirrors.{poll}
use Rattle.uc_events.proofs.laws.law_poll.Goals as goal

pub returns : goal.returns
returns c = poll
