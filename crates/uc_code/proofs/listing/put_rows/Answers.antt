use Rattle.uc_code.proofs.Lines.{row_step}
use Rattle.uc_code.proofs.listing.put_rows.Goals as goal

pub loop-number-preserved : goal.loop-number-preserved
loop-number-preserved c = row_step _ _ _ _ _ _ c.loop-number-test.true c.loop-number.invariant c.in_ok-put_row.ensures
