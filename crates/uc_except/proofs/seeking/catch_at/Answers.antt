use Rattle.std.proofs.Common.{sym, ap, ◌∙◌}
use Rattle.uc_except.specs.RowSearch.{catch_in}
use Rattle.uc_except.proofs.seeking.catch_at.Goals as goal

pub returns-in-Some : goal.returns-in-Some
returns-in-Some c = c.first_handler.ensures ∙ ap (catch_in c.args.code.now.rows c.args.event) (sym c.in-Some.ensures.1)
