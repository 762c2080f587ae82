use Rattle.std.proofs.Common.{◌∙◌, ◌∷◌, [], refl, sym, ap, subst}
use Rattle.std.specs.Prelude.{pos, not}
use Rattle.uc_acts.specs.Acts.{truth, fault}
use Rattle.uc_acts.specs.Doors.{blocked}
use Rattle.uc_acts.specs.Journal.{asking, cost, no_cost}
use Rattle.uc_acts.specs.Queues.{is_nobody}
use Rattle.uc_entry.specs.declared.entry.Entry.{Entry}
use Rattle.uc_entry.specs.declared.entry.EntryKind.TheVariants as kind
use Rattle.uc_entry.specs.declared.request.Request.TheVariants as ask
use Rattle.uc_acts.proofs.Moves.{one_inside}
use Rattle.uc_kernel_core.specs.Mirrors.{Appended}
use Rattle.uc_kernel_core.proofs.Asks as asks
use Rattle.uc_kernel_core.proofs.Seconds as seconds
use Rattle.uc_kernel_core.proofs.kernel_core.KernelCore.signal.Goals as goal

pub put_quiet-requires-clause-can : goal.put_quiet-requires-clause-can
put_quiet-requires-clause-can c =
    let s = c.args.self.now in
    let w = c.args.who in
    let ws = blocked c.args.object c.args.cond s.journal in
    let e = asking kind.Signal w.processor w.task (cost w.ticks w.line) c.args.object (pos c.args.cond) (truth (not (is_nobody ws))) in
    rw (c.signal_entry.ensures, c.nobody_on-nobody.ensures) (asks.can_first s w.processor w.task w.ticks w.line (ask.Signal c.args.object c.args.cond) e _ c.requires.may.sound c.requires.may c.requires.at (seconds.signal_first w.processor w.task (cost w.ticks w.line) c.args.object c.args.cond ws) c.requires.may.known)

pub push_front-requires-clause-going : goal.push_front-requires-clause-going
push_front-requires-clause-going c =
    let s = c.args.self.now in
    let w = c.args.who in
    let ws = blocked c.args.object c.args.cond s.journal in
    let e = asking kind.Signal w.processor w.task (cost w.ticks w.line) c.args.object (pos c.args.cond) (truth (not (is_nobody ws))) in
    let a = subst (λ (x : Entry). Appended s c.put_quiet.new.self (x ∷ [])) (c.signal_entry.ensures ∙ ap (λ b. asking kind.Signal w.processor w.task (cost w.ticks w.line) c.args.object (pos c.args.cond) (truth (not b))) c.nobody_on-nobody.ensures) c.put_quiet.ensures in
    seconds.still_going s c.put_quiet.new.self e a c.requires.may.going refl

pub push_front-requires-clause-known : goal.push_front-requires-clause-known
push_front-requires-clause-known c =
    let s = c.args.self.now in
    let w = c.args.who in
    let ws = blocked c.args.object c.args.cond s.journal in
    let e = asking kind.Signal w.processor w.task (cost w.ticks w.line) c.args.object (pos c.args.cond) (truth (not (is_nobody ws))) in
    let a = subst (λ (x : Entry). Appended s c.put_quiet.new.self (x ∷ [])) (c.signal_entry.ensures ∙ ap (λ b. asking kind.Signal w.processor w.task (cost w.ticks w.line) c.args.object (pos c.args.cond) (truth (not b))) c.nobody_on-nobody.ensures) c.put_quiet.ensures in
    seconds.still_known s c.put_quiet.new.self e a c.args.object c.requires.at.known.made

pub push_front-requires-clause-room : goal.push_front-requires-clause-room
push_front-requires-clause-room c =
    let s = c.args.self.now in
    let w = c.args.who in
    let ws = blocked c.args.object c.args.cond s.journal in
    let e = asking kind.Signal w.processor w.task (cost w.ticks w.line) c.args.object (pos c.args.cond) (truth (not (is_nobody ws))) in
    let a = subst (λ (x : Entry). Appended s c.put_quiet.new.self (x ∷ [])) (c.signal_entry.ensures ∙ ap (λ b. asking kind.Signal w.processor w.task (cost w.ticks w.line) c.args.object (pos c.args.cond) (truth (not b))) c.nobody_on-nobody.ensures) c.put_quiet.ensures in
    seconds.still_room s c.put_quiet.new.self e a c.requires.may.room

pub push_front-requires-clause-shut : goal.push_front-requires-clause-shut
push_front-requires-clause-shut c =
    let s = c.args.self.now in
    let w = c.args.who in
    let ws = blocked c.args.object c.args.cond s.journal in
    let e = asking kind.Signal w.processor w.task (cost w.ticks w.line) c.args.object (pos c.args.cond) (truth (not (is_nobody ws))) in
    let a = subst (λ (x : Entry). Appended s c.put_quiet.new.self (x ∷ [])) (c.signal_entry.ensures ∙ ap (λ b. asking kind.Signal w.processor w.task (cost w.ticks w.line) c.args.object (pos c.args.cond) (truth (not b))) c.nobody_on-nobody.ensures) c.put_quiet.ensures in
    seconds.still_shut s c.put_quiet.new.self e a c.args.object w.task refl refl c.requires.may.sound (one_inside s.journal c.args.object w.task c.requires.may.sound c.requires.at.inside)

pub returns : goal.returns
returns c =
    let s = c.args.self.now in
    let w = c.args.who in
    let ws = blocked c.args.object c.args.cond s.journal in
    let e = asking kind.Signal w.processor w.task (cost w.ticks w.line) c.args.object (pos c.args.cond) (truth (not (is_nobody ws))) in
    let a = subst (λ (x : Entry). Appended s c.put_quiet.new.self (x ∷ [])) (c.signal_entry.ensures ∙ ap (λ b. asking kind.Signal w.processor w.task (cost w.ticks w.line) c.args.object (pos c.args.cond) (truth (not b))) c.nobody_on-nobody.ensures) c.put_quiet.ensures in
    subst (Appended s c.push_front.new.self) (sym (seconds.signal_settled (fault w.processor w.task no_cost 10 w.line) s.journal w.processor w.task (cost w.ticks w.line) c.args.object c.args.cond ws)) (seconds.then_pushed s c.put_quiet.new.self e a c.args.object c.args.cond refl (λ xs. refl) w.processor c.push_front.new.self c.push_front.ensures)
