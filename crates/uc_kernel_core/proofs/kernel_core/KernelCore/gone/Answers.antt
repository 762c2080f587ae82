use Rattle.std.proofs.Common.{refl}
use Rattle.std.specs.Prelude.{pos}
use Rattle.uc_entry.specs.declared.entry.EntryKind.TheVariants as kind
use Rattle.uc_entry.specs.declared.request.Request.TheVariants as ask
use Rattle.uc_acts.specs.Journal.{asking, cost}
use Rattle.uc_kernel_core.proofs.Asks as asks
use Rattle.uc_kernel_core.proofs.kernel_core.KernelCore.gone.Goals as goal

pub put_out-requires-clause-can : goal.put_out-requires-clause-can
put_out-requires-clause-can c =
    let s = c.args.self.now in
    let w = c.args.who in
    let e = asking kind.Gone w.processor w.task (cost w.ticks w.line) c.args.object (pos 0) (pos 0) in
    rw c.asking.ensures (asks.can_first s w.processor w.task w.ticks w.line (ask.Gone c.args.object) e _ c.requires.may.sound c.requires.may c.requires.at refl c.requires.may.known)

pub put_out-requires-clause-within : goal.put_out-requires-clause-within
put_out-requires-clause-within c =
    let s = c.args.self.now in
    let w = c.args.who in
    let e = asking kind.Gone w.processor w.task (cost w.ticks w.line) c.args.object (pos 0) (pos 0) in
    rw c.asking.ensures (asks.leave_within s w.processor w.task w.ticks w.line c.args.object c.requires.may.sound c.requires.may c.requires.at e refl refl refl refl (λ xs. refl))
