use Rattle.std.proofs.Common.{◌≡◌, [], sym, ◌∙◌, rules}
use Rattle.std.specs.Prelude.{pos}
use Rattle.uc_acts.specs.Doors.{blocked}
use Rattle.uc_acts.specs.Journal.{asking, cost}
use Rattle.uc_entry.specs.declared.entry.EntryKind.TheVariants as kind
use Rattle.uc_entry.specs.declared.request.Request.TheVariants as ask
use Rattle.uc_kernel_core.proofs.Asks as asks
use Rattle.uc_kernel_core.proofs.kernel_core.KernelCore.front.Goals as goal

pub put_quiet-requires-clause-can : goal.put_quiet-requires-clause-can
put_quiet-requires-clause-can c =
    let s = c.args.self.now in
    let w = c.args.who in
    let e = asking kind.Front w.processor w.task (cost w.ticks w.line) c.args.object (pos c.args.cond) c.in-Some.n in
    let same : c.condition_entry.result ≡ asking kind.Front w.processor w.task (cost w.ticks w.line) c.args.object (pos c.args.cond) c.in-Some.n = search rules in
    rw same (asks.can_first s w.processor w.task w.ticks w.line (ask.Front c.args.object c.args.cond) e [] c.requires.may.sound c.requires.may c.requires.at (asks.front_row w.processor w.task (cost w.ticks w.line) w.line c.args.object c.args.cond c.in-Some.n (blocked c.args.object c.args.cond s.journal) (sym c.in-Some.is ∙ c.front_number.ensures)) c.requires.may.known)
