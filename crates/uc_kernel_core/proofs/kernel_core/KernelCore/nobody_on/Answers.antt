use Rattle.std.proofs.Common.{◌∙◌, sym}
use Rattle.uc_acts.specs.Doors.{blocked}
use Rattle.uc_kernel_core.proofs.Asks as asks
use Rattle.uc_kernel_core.proofs.kernel_core.KernelCore.nobody_on.Goals as goal

pub returns-in-None : goal.returns-in-None
returns-in-None c = asks.first_nobody (blocked c.args.object c.args.cond c.args.self.now.journal) (sym c.in-None.is ∙ c.front_number.ensures)

pub returns-in-Some : goal.returns-in-Some
returns-in-Some c = asks.first_somebody (blocked c.args.object c.args.cond c.args.self.now.journal) _ (sym c.in-Some.is ∙ c.front_number.ensures)
