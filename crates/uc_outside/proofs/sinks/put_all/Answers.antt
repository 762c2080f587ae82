use Rattle.std.proofs.Common.{◌++◌, take, arith}
use Rattle.std.proofs.lemmas.Grind.{common_steps}
use Rattle.uc_outside.proofs.Taken.{took-more}
use Rattle.uc_outside.proofs.sinks.put_all.Goals as goal

pub loop-rest-preserved : goal.loop-rest-preserved
loop-rest-preserved g c =
    let n = c.in_ok-taken.taken in
    let rest = c.loop-rest.rest.now in (
      c.loop-rest.invariant.0 ++ take n rest,
      grind (arith, common_steps, c.loop-rest.invariant.1),
      took-more c.loop-rest.invariant.2 c.in_ok-taken.ensures.ok,
      grind (arith, common_steps, c.loop-rest.invariant.3, c.in_ok-taken.ensures.counted, c.in_ok-taken.ensures.progress, c.in_ok-taken.ensures.bound),
    )
