use Rattle.uc_code.proofs.Putting.{puts_kept}
use Rattle.uc_code.proofs.raising.put_kept.Goals as goal

pub returns : goal.returns
returns c = puts_kept c.args.line c.args.cell _ _ _ _ c.in_ok-put_set.ensures c.in_ok-put_set-2.ensures c.in_ok-put_set-3.ensures
