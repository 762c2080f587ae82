use Rattle.std.proofs.Common.{sym, ap}
use Rattle.uc_except.specs.RowSearch.{handles_in}
use Rattle.uc_except.proofs.seeking.handles_at.Goals as goal

pub returns-in-Some : goal.returns-in-Some
returns-in-Some c = ap handles_in (sym c.in-Some.ensures.1)
