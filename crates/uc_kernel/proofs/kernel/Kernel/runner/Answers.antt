use Rattle.std.proofs.Common.{sym}
use Rattle.uc_kernel.proofs.Running.{runner_small}
use Rattle.uc_kernel.proofs.kernel.Kernel.runner.Goals as goal

pub left-requires-clause-task : goal.left-requires-clause-task
left-requires-clause-task g c =
    let b = c.self.inside.book in
    runner_small b.opts b.sites b.input c.self.invariant.runs c.args.processor c.in-Some.task (sym c.in-Some.ensures.runs)

pub returns-in-Some-clause-small : goal.returns-in-Some-clause-small
returns-in-Some-clause-small g c =
    let b = c.self.inside.book in
    runner_small b.opts b.sites b.input c.self.invariant.runs c.args.processor c.in-Some.task (sym c.in-Some.ensures.runs)
