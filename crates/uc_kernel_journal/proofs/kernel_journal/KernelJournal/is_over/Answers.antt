use Rattle.std.proofs.Common.{ap, ◌∙◌}
use Rattle.uc_acts.specs.Journal.{is_over}
use Rattle.uc_kernel_journal.specs.JournalSums.{Told}
use Rattle.uc_kernel_journal.proofs.kernel_journal.KernelJournal.is_over.Goals as goal

pub returns : goal.returns
returns c = c.self.invariant.1.ends ∙ ap (λ (v : Told). is_over v.journal) c.self.view_is
