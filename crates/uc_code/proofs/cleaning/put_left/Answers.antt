use Rattle.uc_code.proofs.Exiting.{puts_left}
use Rattle.uc_code.proofs.cleaning.put_left.Goals as goal

pub returns : goal.returns
returns c = puts_left c.args.what c.args.row c.args.line c.args.out.now c.open.new.self c.put_clean.new.out c.close.new.self c.in_ok-_row.ensures.ok c.in_ok-_row.ensures.kept c.in_ok-put_clean.ensures c.close.ensures.closed c.close.ensures.kept
