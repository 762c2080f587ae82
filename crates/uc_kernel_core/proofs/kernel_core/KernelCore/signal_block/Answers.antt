use Rattle.std.proofs.Common.{◌≡◌, ◌∙◌, true, false, refl, sym, subst}
use Rattle.std.specs.Prelude.{pos}
use Rattle.uc_acts.specs.Acts.{fault, settled}
use Rattle.uc_acts.specs.Doors.{blocked}
use Rattle.uc_acts.specs.Journal.{asking, cost, no_cost}
use Rattle.uc_acts.specs.Queues.{is_nobody}
use Rattle.uc_entry.specs.declared.entry.EntryKind.TheVariants as kind
use Rattle.uc_entry.specs.declared.request.Request.TheVariants as ask
use Rattle.uc_acts.proofs.Moves.{one_inside}
use Rattle.uc_kernel_core.specs.Mirrors.{Appended}
use Rattle.uc_kernel_core.proofs.Asks as asks
use Rattle.uc_kernel_core.proofs.Seconds as seconds
use Rattle.uc_kernel_core.proofs.kernel_core.KernelCore.signal_block.Goals as goal

pub put_unheard-requires-clause-can : goal.put_unheard-requires-clause-can
put_unheard-requires-clause-can c =
    let s = c.args.self.now in
    let w = c.args.who in
    let ws = blocked c.args.object c.args.cond s.journal in
    let none : is_nobody ws ≡ true = sym c.nobody_on.ensures ∙ c.if-nobody_on.true in
    let row = seconds.unheard_first w.processor w.task (cost w.ticks w.line) c.args.object c.args.cond ws none in
    let e = asking kind.SignalBlock w.processor w.task (cost w.ticks w.line) c.args.object (pos c.args.cond) (pos 0) in
    asks.can_first s w.processor w.task w.ticks w.line (ask.SignalBlock c.args.object c.args.cond) e _ c.requires.may.sound c.requires.may c.requires.at row c.requires.may.known

pub put_signaller-requires-clause-can : goal.put_signaller-requires-clause-can
put_signaller-requires-clause-can c =
    let s = c.args.self.now in
    let w = c.args.who in
    let ws = blocked c.args.object c.args.cond s.journal in
    let some : is_nobody ws ≡ false = sym c.nobody_on.ensures ∙ c.if-nobody_on.false in
    let row = seconds.heard_first w.processor w.task (cost w.ticks w.line) c.args.object c.args.cond ws some in
    let e = asking kind.SignalBlock w.processor w.task (cost w.ticks w.line) c.args.object (pos c.args.cond) (pos 1) in
    asks.can_first s w.processor w.task w.ticks w.line (ask.SignalBlock c.args.object c.args.cond) e _ c.requires.may.sound c.requires.may c.requires.at row c.requires.may.known

pub put_signaller-requires-clause-within : goal.put_signaller-requires-clause-within
put_signaller-requires-clause-within c =
    let s = c.args.self.now in
    let w = c.args.who in
    let ws = blocked c.args.object c.args.cond s.journal in
    one_inside s.journal c.args.object w.task c.requires.may.sound c.requires.at.inside

pub admit_front-requires-clause-going : goal.admit_front-requires-clause-going
admit_front-requires-clause-going c =
    let s = c.args.self.now in
    let w = c.args.who in
    let ws = blocked c.args.object c.args.cond s.journal in
    let some : is_nobody ws ≡ false = sym c.nobody_on.ensures ∙ c.if-nobody_on.false in
    let row = seconds.heard_first w.processor w.task (cost w.ticks w.line) c.args.object c.args.cond ws some in
    let e = asking kind.SignalBlock w.processor w.task (cost w.ticks w.line) c.args.object (pos c.args.cond) (pos 1) in
    seconds.still_going s c.put_signaller.new.self e c.put_signaller.ensures c.requires.may.going refl

pub admit_front-requires-clause-known : goal.admit_front-requires-clause-known
admit_front-requires-clause-known c =
    let s = c.args.self.now in
    let w = c.args.who in
    let ws = blocked c.args.object c.args.cond s.journal in
    let some : is_nobody ws ≡ false = sym c.nobody_on.ensures ∙ c.if-nobody_on.false in
    let row = seconds.heard_first w.processor w.task (cost w.ticks w.line) c.args.object c.args.cond ws some in
    let e = asking kind.SignalBlock w.processor w.task (cost w.ticks w.line) c.args.object (pos c.args.cond) (pos 1) in
    seconds.still_known s c.put_signaller.new.self e c.put_signaller.ensures c.args.object c.requires.at.known.made

pub admit_front-requires-clause-room : goal.admit_front-requires-clause-room
admit_front-requires-clause-room c =
    let s = c.args.self.now in
    let w = c.args.who in
    let ws = blocked c.args.object c.args.cond s.journal in
    let some : is_nobody ws ≡ false = sym c.nobody_on.ensures ∙ c.if-nobody_on.false in
    let row = seconds.heard_first w.processor w.task (cost w.ticks w.line) c.args.object c.args.cond ws some in
    let e = asking kind.SignalBlock w.processor w.task (cost w.ticks w.line) c.args.object (pos c.args.cond) (pos 1) in
    seconds.still_room s c.put_signaller.new.self e c.put_signaller.ensures c.requires.may.room

pub admit_front-requires-clause-empty : goal.admit_front-requires-clause-empty
admit_front-requires-clause-empty c =
    let s = c.args.self.now in
    let w = c.args.who in
    let ws = blocked c.args.object c.args.cond s.journal in
    seconds.signaller_out s c.put_signaller.new.self w.processor w.task (cost w.ticks w.line) c.args.object c.args.cond c.put_signaller.ensures (one_inside s.journal c.args.object w.task c.requires.may.sound c.requires.at.inside)

pub admit_front-requires-clause-acts : goal.admit_front-requires-clause-acts
admit_front-requires-clause-acts c =
    let s = c.args.self.now in
    let w = c.args.who in
    let ws = blocked c.args.object c.args.cond s.journal in
    seconds.signaller_acts s c.put_signaller.new.self w.processor w.task (cost w.ticks w.line) c.args.object c.args.cond c.put_signaller.ensures

pub admit_front-requires-clause-stacked : goal.admit_front-requires-clause-stacked
admit_front-requires-clause-stacked c =
    let s = c.args.self.now in
    let w = c.args.who in
    let ws = blocked c.args.object c.args.cond s.journal in
    seconds.signaller_stacked s c.put_signaller.new.self w.processor w.task (cost w.ticks w.line) c.args.object c.args.cond c.put_signaller.ensures

pub returns-then-nobody_on : goal.returns-then-nobody_on
returns-then-nobody_on c =
    let s = c.args.self.now in
    let w = c.args.who in
    let ws = blocked c.args.object c.args.cond s.journal in
    let none : is_nobody ws ≡ true = sym c.nobody_on.ensures ∙ c.if-nobody_on.true in
    let row = seconds.unheard_first w.processor w.task (cost w.ticks w.line) c.args.object c.args.cond ws none in
    let e = asking kind.SignalBlock w.processor w.task (cost w.ticks w.line) c.args.object (pos c.args.cond) (pos 0) in
    subst (λ a. Appended s c.put_unheard.new.self (settled (fault w.processor w.task no_cost 10 w.line) s.journal a)) (sym row) c.put_unheard.ensures

pub returns-else-nobody_on : goal.returns-else-nobody_on
returns-else-nobody_on c =
    let s = c.args.self.now in
    let w = c.args.who in
    let ws = blocked c.args.object c.args.cond s.journal in
    let some : is_nobody ws ≡ false = sym c.nobody_on.ensures ∙ c.if-nobody_on.false in
    let row = seconds.heard_first w.processor w.task (cost w.ticks w.line) c.args.object c.args.cond ws some in
    let e = asking kind.SignalBlock w.processor w.task (cost w.ticks w.line) c.args.object (pos c.args.cond) (pos 1) in
    let f = fault w.processor w.task no_cost 10 w.line in
    subst (λ a. Appended s c.admit_front.new.self (settled f s.journal a)) (sym row) (seconds.then_admitted s c.put_signaller.new.self e c.put_signaller.ensures c.args.object c.args.cond refl (λ xs. refl) w.processor f c.admit_front.new.self c.admit_front.ensures)
