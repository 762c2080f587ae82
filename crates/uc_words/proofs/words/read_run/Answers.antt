use Rattle.std.proofs.Common.{◌≡◌, []}
use Rattle.uc_words.proofs.Bridge.{no_items}
use Rattle.uc_words.proofs.words.read_run.Goals as goal

pub returns-clause-only : goal.returns-clause-only
returns-clause-only c other g =
    let none : c.loop-word.rest.now ≡ [] = no_items c.loop-word.rest.now c.in_default.ensures.cases in
    c.in_ok-job.ensures.only other (rw none at (c.loop-word.invariant.only other g))
