use Rattle.uc_code.specs.Layout.{laid_of}
use Rattle.uc_coroutine.proofs.Unwound.{unwinds}
use Rattle.uc_coroutine.proofs.unwinding.unwind.Goals as goal

pub returns-clause-source : goal.returns-clause-source
returns-clause-source c =
    λ source s h own. unwinds (laid_of c.args.code.now) source c.args.work.now c.step-made.new.work s h c.args.frame c.args.row c.step-made.result own c.step-made.ensures
