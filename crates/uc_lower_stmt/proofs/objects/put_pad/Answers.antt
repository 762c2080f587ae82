use Rattle.std.proofs.Common.{sym, ◌∙◌}
use Rattle.uc_lower_stmt.proofs.Joined.{puts_adds}
use Rattle.uc_lower_stmt.proofs.Ending.{pad_given_up, pad_unwound}
use Rattle.uc_lower_stmt.proofs.objects.put_pad.Goals as goal

pub returns-then-frees : goal.returns-then-frees
returns-then-frees c = pad_given_up c.args.line c.args.what c.args.out.now _ _ (sym c.frees.ensures ∙ c.if-frees.true) (puts_adds c.in_ok-put.ensures) (puts_adds c.in_ok-put_at_risk.ensures)

pub returns : goal.returns
returns c = pad_unwound c.args.line c.args.what c.args.out.now _ _ (sym c.frees.ensures ∙ c.if-frees.false) c.requires.other c.in_ok-put_cleaned.ensures (puts_adds c.in_ok-put_at_risk-2.ensures)
