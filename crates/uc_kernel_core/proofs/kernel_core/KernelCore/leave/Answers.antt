use Rattle.std.proofs.Common.{refl}
use Rattle.std.specs.Prelude.{pos}
use Rattle.uc_entry.specs.declared.entry.EntryKind.TheVariants as kind
use Rattle.uc_entry.specs.declared.request.Request.TheVariants as ask
use Rattle.uc_acts.specs.Acts.{fault, truth}
use Rattle.uc_acts.specs.Journal.{asking, cost, no_cost}
use Rattle.uc_kernel_core.proofs.Asks as asks
use Rattle.uc_kernel_core.proofs.kernel_core.KernelCore.leave.Goals as goal

pub put_leave-requires-clause-can : goal.put_leave-requires-clause-can
put_leave-requires-clause-can c =
    let s = c.args.self.now in
    let w = c.args.who in
    let e = asking kind.Leave w.processor w.task (cost w.ticks w.line) c.args.object (truth c.args.failed) (pos 0) in
    (asks.can_first s w.processor w.task w.ticks w.line (ask.Leave c.args.object c.args.failed) e _ c.requires.may.sound c.requires.may c.requires.at refl c.requires.may.known)

pub put_leave-requires-clause-within : goal.put_leave-requires-clause-within
put_leave-requires-clause-within c =
    let s = c.args.self.now in
    let w = c.args.who in
    let e = asking kind.Leave w.processor w.task (cost w.ticks w.line) c.args.object (truth c.args.failed) (pos 0) in
    (asks.leave_within s w.processor w.task w.ticks w.line c.args.object c.requires.may.sound c.requires.may c.requires.at e refl refl refl refl (λ xs. refl))

pub admit_next-requires-clause-going : goal.admit_next-requires-clause-going
admit_next-requires-clause-going c =
    let s = c.args.self.now in
    let w = c.args.who in
    let e = asking kind.Leave w.processor w.task (cost w.ticks w.line) c.args.object (truth c.args.failed) (pos 0) in
    asks.leave_going s w.processor w.task w.ticks w.line c.args.object c.requires.may.sound c.requires.may c.requires.at e refl refl refl refl (λ xs. refl) c.put_leave.new.self c.put_leave.ensures

pub admit_next-requires-clause-known : goal.admit_next-requires-clause-known
admit_next-requires-clause-known c =
    let s = c.args.self.now in
    let w = c.args.who in
    let e = asking kind.Leave w.processor w.task (cost w.ticks w.line) c.args.object (truth c.args.failed) (pos 0) in
    asks.leave_there s w.processor w.task w.ticks w.line c.args.object c.requires.may.sound c.requires.may c.requires.at e refl refl refl refl (λ xs. refl) c.put_leave.new.self c.put_leave.ensures

pub admit_next-requires-clause-empty : goal.admit_next-requires-clause-empty
admit_next-requires-clause-empty c =
    let s = c.args.self.now in
    let w = c.args.who in
    let e = asking kind.Leave w.processor w.task (cost w.ticks w.line) c.args.object (truth c.args.failed) (pos 0) in
    asks.leave_empty s w.processor w.task w.ticks w.line c.args.object c.requires.may.sound c.requires.may c.requires.at e refl refl refl refl (λ xs. refl) c.put_leave.new.self c.put_leave.ensures

pub admit_next-requires-clause-aside : goal.admit_next-requires-clause-aside
admit_next-requires-clause-aside c =
    let s = c.args.self.now in
    let w = c.args.who in
    let e = asking kind.Leave w.processor w.task (cost w.ticks w.line) c.args.object (truth c.args.failed) (pos 0) in
    asks.leave_aside s w.processor w.task w.ticks w.line c.args.object c.requires.may.sound c.requires.may c.requires.at e refl refl refl refl (λ xs. refl) c.put_leave.new.self c.put_leave.ensures (λ u. refl)

pub returns : goal.returns
returns c =
    let s = c.args.self.now in
    let w = c.args.who in
    let e = asking kind.Leave w.processor w.task (cost w.ticks w.line) c.args.object (truth c.args.failed) (pos 0) in
    asks.left_rows s c.put_leave.new.self c.admit_next.new.self e (fault w.processor w.task no_cost 10 w.line) w.processor (record { waits = λ xs. refl; stack = λ xs. refl }) c.put_leave.ensures c.admit_next.ensures
