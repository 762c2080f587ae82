use Rattle.std.proofs.Common.{ap}
use Rattle.std.specs.Ordering.{nat_cmp}
use Rattle.std.specs.Map.{lookup}
use Rattle.std.specs.BTreeMap.{is_at}
use Rattle.uc_acts.specs.Pending.{pending}
use Rattle.uc_judge.specs.PendingEvents.{events_of}
use Rattle.uc_judge.proofs.pending.Pending.new.Goals as goal

pub returns : goal.returns
unfolding pending
returns c = record { pending = λ t. ap (λ l. events_of (lookup (is_at (nat_cmp t)) l)) c.new.ensures.empty }
