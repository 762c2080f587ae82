use Rattle.std.proofs.Common.{sym, ◌∙◌}
use Rattle.uc_explain.proofs.SameLemmas.{same_told}
use Rattle.uc_explain.proofs.explaining.put_changed.Goals as goal

pub returns-else-not-is_same-clause-before : goal.returns-else-not-is_same-clause-before
returns-else-not-is_same-clause-before c = same_told c.args.before.now c.args.now.now (sym c.is_same.ensures ∙ c.if-not-is_same.false)
