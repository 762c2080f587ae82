use Rattle.std.proofs.Common.{take, sym, ap, ◌∙◌}
use Rattle.uc_acts.specs.Journal.{is_over, is_ending}
use Rattle.uc_kernel_journal.specs.JournalSums.{Told}
use Rattle.uc_kernel_journal.proofs.Tellings.{over_push}
use Rattle.uc_kernel_core.proofs.kernel_core.KernelCore.fit.Goals as goal

pub invariant_of-self : goal.invariant_of-self
invariant_of-self c =
    let old = c.self.invariant in
    record {
      mirrors = λ h. over_push (take c.args.before c.self.inside.journal.journal) c.closing_entry.result (ap (λ e. is_ending e.kind) c.closing_entry.ensures) (sym (ap (λ (v : Told). is_over v.journal) c.end_at.ensures) ∙ h);
      space = rw c.end_at.ensures old.space;
      tasks = rw c.end_at.ensures old.tasks;
    }
