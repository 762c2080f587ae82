use Rattle.std.proofs.Common.{ap, ◌∙◌, sym}
use Rattle.uc_acts.specs.Journal.{is_over}
use Rattle.uc_kernel_journal.specs.JournalSums.{Told}
use Rattle.uc_kernel_journal.proofs.Tellings.{over_push}
use Rattle.uc_kernel_core.proofs.kernel_core.KernelCore.put_ending.Goals as goal

pub invariant_of-self : goal.invariant_of-self
invariant_of-self c =
    let old = c.self.invariant in
    record {
      mirrors = λ h. over_push c.self.inside.journal.journal c.args.e c.requires.ends (sym (ap (λ (v : Told). is_over v.journal) c.push.ensures) ∙ h);
      space = rw c.push.ensures old.space;
      tasks = rw c.push.ensures old.tasks;
    }
