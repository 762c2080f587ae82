use Rattle.uc_lower_stmt.proofs.Joined.{puts_adds}
use Rattle.uc_lower_stmt.proofs.Filling.{puts_built}
use Rattle.uc_lower_stmt.proofs.objects.put_built.Goals as goal

pub returns : goal.returns
returns c = puts_built c.args.line c.args.builder c.args.out.now _ _ _ c.in_ok-put_call.ensures (puts_adds c.in_ok-put.ensures) (puts_adds c.in_ok-put-2.ensures)
