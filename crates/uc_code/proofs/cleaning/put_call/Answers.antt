use Rattle.uc_code.proofs.Putting.{puts_call, behind_stays}
use Rattle.uc_code.proofs.cleaning.put_call.Goals as goal

pub put_called-requires-clause-behind : goal.put_called-requires-clause-behind
put_called-requires-clause-behind c = behind_stays c.args.what c.requires.behind c.in_ok-put_found.ensures

pub returns : goal.returns
returns c = puts_call c.args.line c.args.what _ _ _ c.in_ok-put_found.ensures c.in_ok-put_called.ensures
