use Rattle.std.proofs.Common.{subst}
use Rattle.uc_step.specs.Starts.{Starts}
use Rattle.uc_vproc.proofs.Opening.{first_task}
use Rattle.uc_vproc.proofs.run.open.Goals as goal

pub open-requires-clause-first : goal.open-requires-clause-first
open-requires-clause-first c source is =
    first_task c.args.code.now c.args.main c.in-Some.work c.into_parts-first.result.0 c.into_parts-first.result.1.items source is (subst (λ o. Starts c.args.code.now c.args.main 0 o) c.in-Some.is c.in_ok-begin.ensures.source) c.into_parts-first.ensures
