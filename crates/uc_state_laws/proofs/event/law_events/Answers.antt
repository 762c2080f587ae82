use Rattle.uc_state_laws.proofs.MarkedWorlds.{law_events}
use Rattle.uc_state_laws.proofs.event.law_events.Goals as goal

pub returns : goal.returns
returns c = law_events
