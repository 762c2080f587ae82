use Rattle.std.specs.Prelude.{if◌then◌else◌}
use Rattle.uc_acts.specs.Journal.{cost, no_cost}
use Rattle.uc_kernel_core.proofs.Asks as asks
use Rattle.uc_kernel_core.proofs.kernel_core.KernelCore.put_print.Goals as goal

pub put_quiet-requires-clause-can : goal.put_quiet-requires-clause-can
put_quiet-requires-clause-can c =
    rw c.print_entry.ensures (asks.can_print c.args.self.now c.args.who.processor c.args.who.task (if c.args.first then cost c.args.who.ticks c.args.who.line else no_cost) c.args.piece.form c.args.piece.value c.requires.going c.requires.room c.requires.task)
