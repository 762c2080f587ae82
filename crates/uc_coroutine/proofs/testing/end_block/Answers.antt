use Rattle.uc_coroutine.proofs.Ended.{block_left}
use Rattle.uc_coroutine.proofs.testing.end_block.Goals as goal

pub returns-clause-source : goal.returns-clause-source
returns-clause-source c =
    λ source code s h k. block_left source code c.args.work.now c.end_at-over.new.work s h c.end_at-over.result c.args.behind k c.end_at-over.ensures.over c.end_at-over.ensures.now
