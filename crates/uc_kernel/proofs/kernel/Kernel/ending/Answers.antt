use Rattle.std.proofs.Common.{sym, ap, ◌∙◌, subst, arith}
use Rattle.uc_acts.specs.Journal.{is_over}
use Rattle.uc_acts.specs.KernelRuns.{KernelRuns}
use Rattle.uc_kernel.specs.KernelState.{Store}
use Rattle.uc_kernel.specs.Calls.{EndsRun}
use Rattle.uc_kernel.proofs.Lasts.{ends_at}
use Rattle.uc_kernel.proofs.kernel.Kernel.ending.Goals as goal

pub returns-clause-over : goal.returns-clause-over
returns-clause-over g c =
    let n = c.if-count-eq0.false in
    let b = c.self.inside.book in
    let same = c.journal-entries.ensures in
    subst (λ (x : Store _ _). EndsRun x.journal c.entry_at.result) c.self.view_is (subst (λ j. EndsRun j c.entry_at.result) same (ends_at b.opts b.sites b.input c.journal-entries.result.now _ c.entry_at.result (subst (KernelRuns b.opts b.sites b.input) (sym same) c.self.invariant.runs) (ap is_over same ∙ sym c.is_over.ensures ∙ c.if-not-is_over.false) (omega (arith, n)) c.entry_at.ensures))
