use Rattle.std.proofs.Common.{refl, []}
use Rattle.std.specs.Prelude.{pos}
use Rattle.uc_acts.specs.Acts.{truth}
use Rattle.uc_acts.specs.Journal.{asking, cost}
use Rattle.uc_acts.specs.Reading.{has_failed}
use Rattle.uc_entry.specs.declared.entry.EntryKind.TheVariants as kind
use Rattle.uc_entry.specs.declared.request.Request.TheVariants as ask
use Rattle.uc_kernel_core.proofs.Asks as asks
use Rattle.uc_kernel_core.proofs.kernel_core.KernelCore.fail.Goals as goal

pub put_quiet-requires-clause-can : goal.put_quiet-requires-clause-can
put_quiet-requires-clause-can c =
    let s = c.args.self.now in
    let w = c.args.who in
    let e = asking kind.Fail w.processor w.task (cost w.ticks w.line) 0 (pos 0) (truth (has_failed s.journal)) in
    rw (c.fail_entry.ensures, c.has_failed-failed.ensures) (asks.can_first s w.processor w.task w.ticks w.line ask.Fail e [] c.requires.may.sound c.requires.may tt refl c.requires.may.known)
