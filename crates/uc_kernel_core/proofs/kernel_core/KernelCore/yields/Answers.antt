use Rattle.std.proofs.Common.{refl, []}
use Rattle.std.specs.Prelude.{pos}
use Rattle.uc_acts.specs.Journal.{asking, cost}
use Rattle.uc_entry.specs.declared.entry.EntryKind.TheVariants as kind
use Rattle.uc_entry.specs.declared.request.Request.TheVariants as ask
use Rattle.uc_kernel_core.proofs.Asks as asks
use Rattle.uc_kernel_core.proofs.kernel_core.KernelCore.yields.Goals as goal

pub put_back-requires-clause-can : goal.put_back-requires-clause-can
put_back-requires-clause-can c =
    let s = c.args.self.now in
    let w = c.args.who in
    let e = asking kind.Yield w.processor w.task (cost w.ticks w.line) 0 (pos 0) (pos 0) in
    rw c.asking.ensures (asks.can_first s w.processor w.task w.ticks w.line ask.Yield e [] c.requires.may.sound c.requires.may tt refl c.requires.may.known)
