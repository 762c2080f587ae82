use Rattle.uc_lower_stmt.proofs.AcceptingLemmas.{holes_more, holes_start}
use Rattle.uc_lower_stmt.proofs.accept.put_holes.Goals as goal

pub loop-init : goal.loop-init
loop-init c = holes_start c.args.line c.args.out.now

pub loop-preserved : goal.loop-preserved
loop-preserved c = holes_more c.args.line c.loop.counter c.args.out.now _ _ c.loop.invariant c.in_ok-put.ensures
