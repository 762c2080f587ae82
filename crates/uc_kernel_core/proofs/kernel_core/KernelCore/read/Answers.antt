use Rattle.std.proofs.Common.{refl}
use Rattle.uc_acts.specs.Journal.{cost}
use Rattle.uc_acts.specs.Acts.{read_entry}
use Rattle.uc_acts.specs.Reading.{next_read, bytes_used}
use Rattle.uc_entry.specs.declared.request.Request.TheVariants as ask
use Rattle.uc_kernel_core.proofs.Asks as asks
use Rattle.uc_kernel_core.proofs.kernel_core.KernelCore.read.Goals as goal

pub put_quiet-requires-clause-can : goal.put_quiet-requires-clause-can
put_quiet-requires-clause-can c =
    let s = c.args.self.now in
    let w = c.args.who in
    let e = read_entry w.processor w.task (cost w.ticks w.line) c.args.form (next_read c.args.form s.input s.journal) (bytes_used s.journal) in
    rw (c.read_entry.ensures, c.next_got-got.ensures.got, c.bytes_used-used.ensures) (asks.can_first s w.processor w.task w.ticks w.line (ask.Read c.args.form) e _ c.requires.may.sound c.requires.may c.requires.form refl c.requires.may.known)
