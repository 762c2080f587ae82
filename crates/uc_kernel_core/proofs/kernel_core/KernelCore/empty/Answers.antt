use Rattle.std.proofs.Common.{[], refl}
use Rattle.std.specs.Prelude.{pos}
use Rattle.uc_acts.specs.Acts.{truth}
use Rattle.uc_acts.specs.Doors.{blocked}
use Rattle.uc_acts.specs.Journal.{asking, cost}
use Rattle.uc_acts.specs.Queues.{is_nobody}
use Rattle.uc_entry.specs.declared.entry.EntryKind.TheVariants as kind
use Rattle.uc_entry.specs.declared.request.Request.TheVariants as ask
use Rattle.uc_kernel_core.proofs.Asks as asks
use Rattle.uc_kernel_core.proofs.kernel_core.KernelCore.empty.Goals as goal

pub put_quiet-requires-clause-can : goal.put_quiet-requires-clause-can
put_quiet-requires-clause-can c =
    let s = c.args.self.now in
    let w = c.args.who in
    let e = asking kind.Empty w.processor w.task (cost w.ticks w.line) c.args.object (pos c.args.cond) (truth (is_nobody (blocked c.args.object c.args.cond s.journal))) in
    rw (c.empty_entry.ensures, c.nobody_on-nobody.ensures) (asks.can_first s w.processor w.task w.ticks w.line (ask.Empty c.args.object c.args.cond) e [] c.requires.may.sound c.requires.may c.requires.at refl c.requires.may.known)
