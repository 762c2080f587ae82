use Rattle.uc_kernel_journal.proofs.Flags.{none_told}
use Rattle.uc_kernel_journal.proofs.answers.Answers.new.Goals as goal

pub returns : goal.returns
returns c = rw (c.in_ok-goes.ensures, c.in_ok-others.ensures) (none_told c.args.tasks)
