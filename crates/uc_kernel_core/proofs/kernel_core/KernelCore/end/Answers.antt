use Rattle.std.proofs.Common.{◌∷◌, [], refl, subst, ap, ◌∙◌}
use Rattle.std.specs.Prelude.{pos}
use Rattle.uc_entry.specs.declared.entry.Entry.{Entry}
use Rattle.uc_entry.specs.declared.entry.EntryKind.TheVariants as kind
use Rattle.uc_entry.specs.declared.request.Request.TheVariants as ask
use Rattle.uc_acts.specs.Acts.{fault, settled, admission}
use Rattle.uc_acts.specs.Queues.{next}
use Rattle.uc_acts.specs.Journal.{own_object, asking, cost, no_cost}
use Rattle.uc_acts.proofs.Moves.{spot_moves}
use Rattle.uc_acts.proofs.SoundLemmas.{self_test}
use Rattle.uc_kernel_core.specs.Mirrors.{Appended}
use Rattle.uc_kernel_core.proofs.Asks as asks
use Rattle.uc_kernel_core.proofs.kernel_core.KernelCore.end.Goals as goal

pub put_end-requires-clause-can : goal.put_end-requires-clause-can
put_end-requires-clause-can c =
    let s = c.args.self.now in
    let w = c.args.who in
    let e = asking kind.End w.processor w.task (cost w.ticks w.line) (own_object w.task s.journal) (pos 0) (pos 0) in
    rw (c.asking.ensures, c.own_object-object.ensures) (asks.can_first s w.processor w.task w.ticks w.line ask.End e _ c.requires.may.sound c.requires.may c.requires.at refl c.requires.may.known)

pub put_end-requires-clause-within : goal.put_end-requires-clause-within
put_end-requires-clause-within c =
    let s = c.args.self.now in
    let w = c.args.who in
    let e = asking kind.End w.processor w.task (cost w.ticks w.line) (own_object w.task s.journal) (pos 0) (pos 0) in
    rw (c.asking.ensures, c.own_object-object.ensures) (asks.leave_within s w.processor w.task w.ticks w.line (own_object w.task s.journal) c.requires.may.sound c.requires.may c.requires.at e refl refl refl refl (λ xs. refl))

pub admit_next-requires-clause-going : goal.admit_next-requires-clause-going
admit_next-requires-clause-going c =
    let s = c.args.self.now in
    let w = c.args.who in
    let e = asking kind.End w.processor w.task (cost w.ticks w.line) (own_object w.task s.journal) (pos 0) (pos 0) in
    let a = subst (λ (x : Entry). Appended s c.put_end.new.self (x ∷ [])) (c.asking.ensures ∙ ap (λ o. asking kind.End w.processor w.task (cost w.ticks w.line) o (pos 0) (pos 0)) c.own_object-object.ensures) c.put_end.ensures in
    asks.leave_going s w.processor w.task w.ticks w.line (own_object w.task s.journal) c.requires.may.sound c.requires.may c.requires.at e refl refl refl refl (λ xs. refl) c.put_end.new.self a

pub admit_next-requires-clause-known : goal.admit_next-requires-clause-known
admit_next-requires-clause-known c =
    let s = c.args.self.now in
    let w = c.args.who in
    let e = asking kind.End w.processor w.task (cost w.ticks w.line) (own_object w.task s.journal) (pos 0) (pos 0) in
    let a = subst (λ (x : Entry). Appended s c.put_end.new.self (x ∷ [])) (c.asking.ensures ∙ ap (λ o. asking kind.End w.processor w.task (cost w.ticks w.line) o (pos 0) (pos 0)) c.own_object-object.ensures) c.put_end.ensures in
    rw c.own_object-object.ensures (asks.leave_there s w.processor w.task w.ticks w.line (own_object w.task s.journal) c.requires.may.sound c.requires.may c.requires.at e refl refl refl refl (λ xs. refl) c.put_end.new.self a)

pub admit_next-requires-clause-empty : goal.admit_next-requires-clause-empty
admit_next-requires-clause-empty c =
    let s = c.args.self.now in
    let w = c.args.who in
    let e = asking kind.End w.processor w.task (cost w.ticks w.line) (own_object w.task s.journal) (pos 0) (pos 0) in
    let a = subst (λ (x : Entry). Appended s c.put_end.new.self (x ∷ [])) (c.asking.ensures ∙ ap (λ o. asking kind.End w.processor w.task (cost w.ticks w.line) o (pos 0) (pos 0)) c.own_object-object.ensures) c.put_end.ensures in
    rw c.own_object-object.ensures (asks.leave_empty s w.processor w.task w.ticks w.line (own_object w.task s.journal) c.requires.may.sound c.requires.may c.requires.at e refl refl refl refl (λ xs. refl) c.put_end.new.self a)

pub admit_next-requires-clause-aside : goal.admit_next-requires-clause-aside
admit_next-requires-clause-aside c =
    let s = c.args.self.now in
    let w = c.args.who in
    let e = asking kind.End w.processor w.task (cost w.ticks w.line) (own_object w.task s.journal) (pos 0) (pos 0) in
    let a = subst (λ (x : Entry). Appended s c.put_end.new.self (x ∷ [])) (c.asking.ensures ∙ ap (λ o. asking kind.End w.processor w.task (cost w.ticks w.line) o (pos 0) (pos 0)) c.own_object-object.ensures) c.put_end.ensures in
    rw c.own_object-object.ensures (asks.end_aside s w.processor w.task w.ticks w.line (own_object w.task s.journal) c.requires.may.sound c.requires.may c.requires.at e refl refl refl refl (λ xs. refl) c.put_end.new.self a (spot_moves s.journal e w.task (self_test w.task)))

pub returns : goal.returns
returns c =
    let s = c.args.self.now in
    let w = c.args.who in
    let e = asking kind.End w.processor w.task (cost w.ticks w.line) (own_object w.task s.journal) (pos 0) (pos 0) in
    let a = subst (λ (x : Entry). Appended s c.put_end.new.self (x ∷ [])) (c.asking.ensures ∙ ap (λ o. asking kind.End w.processor w.task (cost w.ticks w.line) o (pos 0) (pos 0)) c.own_object-object.ensures) c.put_end.ensures in
    asks.left_rows s c.put_end.new.self c.admit_next.new.self e (fault w.processor w.task no_cost 10 w.line) w.processor (record { waits = λ xs. refl; stack = λ xs. refl }) a (subst (λ o. Appended c.put_end.new.self c.admit_next.new.self (settled (fault w.processor w.task no_cost 10 w.line) c.put_end.new.self.journal (admission c.put_end.new.self.sites w.processor o c.put_end.new.self.journal (next o c.put_end.new.self.journal)))) c.own_object-object.ensures c.admit_next.ensures)
