use Rattle.std.proofs.Common.{sym, ◌∙◌}
use Rattle.uc_check_stmt.proofs.Unlisted.{none_fresh}
use Rattle.uc_check_stmt.proofs.accept.lists_none.Goals as goal

pub returns : goal.returns
returns c meant = c.is_empty.ensures ∙ sym (none_fresh meant c.args.members.now)
