use Rattle.std.proofs.Common.{None, ap}
use Rattle.std.specs.Prelude.{unwrap_or}
use Rattle.std.specs.Ordering.{nat_cmp}
use Rattle.std.specs.Map.{lookup}
use Rattle.std.specs.BTreeMap.{is_at}
use Rattle.uc_acts.specs.Journal.{entries_at}
use Rattle.uc_acts.specs.Doors.{open_at}
use Rattle.uc_judge.proofs.accepts.Accepts.new.Goals as goal

pub returns : goal.returns
unfolding open_at entries_at
returns c = record { opened = λ o. ap (λ l. unwrap_or (lookup (is_at (nat_cmp o)) l) None) c.new.ensures.empty }
