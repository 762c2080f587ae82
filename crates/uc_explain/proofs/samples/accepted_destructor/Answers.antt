use Rattle.std.proofs.Common.{refl}
use Rattle.std.specs.Fmt.{digits}
use Rattle.uc_acts.specs.Journal.{inside, entries_at}
use Rattle.uc_acts.specs.Queues.{waiting, stacked}
use Rattle.uc_acts.specs.Doors.{open_at, blocked_at}
use Rattle.uc_explain.proofs.samples.accepted_destructor.Goals as goal

pub returns : goal.returns
unfolding inside entries_at waiting stacked open_at blocked_at digits
returns c = refl
