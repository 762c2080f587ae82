use Rattle.std.proofs.Common.{◌≡◌, ◌∷◌, [], refl, subst, to_z, of_z, w64, rules}
use Rattle.std.specs.Prelude.{pos}
use Rattle.uc_entry.specs.declared.entry.EntryKind.TheVariants as kind
use Rattle.uc_entry.specs.declared.request.Request.TheVariants as ask
use Rattle.uc_acts.specs.Acts.{fault}
use Rattle.uc_acts.specs.Journal.{asking, cost, no_cost}
use Rattle.uc_acts.specs.Sound.{At}
use Rattle.uc_acts.specs.Stations.{Blocked}
use Rattle.uc_acts.proofs.Moves.{spot_moves}
use Rattle.uc_acts.proofs.SoundLemmas.{self_test}
use Rattle.uc_kernel_core.specs.Mirrors.{Appended}
use Rattle.uc_kernel_core.proofs.Asks as asks
use Rattle.uc_kernel_core.proofs.kernel_core.KernelCore.wait.Goals as goal

pub put_wait-requires-clause-can : goal.put_wait-requires-clause-can
put_wait-requires-clause-can c =
    let s = c.args.self.now in
    let w = c.args.who in
    let e = asking kind.Wait w.processor w.task (cost w.ticks w.line) c.args.object (pos c.args.cond) c.args.n in
    let same : to_z w64 (of_z w64 c.args.n) ≡ c.args.n = search rules in
    rw same (asks.can_first s w.processor w.task w.ticks w.line (ask.Wait c.args.object c.args.cond c.args.n) e _ c.requires.may.sound c.requires.may c.requires.at refl c.requires.may.known)

pub put_wait-requires-clause-within : goal.put_wait-requires-clause-within
put_wait-requires-clause-within c =
    let s = c.args.self.now in
    let w = c.args.who in
    let e = asking kind.Wait w.processor w.task (cost w.ticks w.line) c.args.object (pos c.args.cond) c.args.n in
    asks.leave_within s w.processor w.task w.ticks w.line c.args.object c.requires.may.sound c.requires.may c.requires.at e refl refl refl refl (λ xs. refl)

pub admit_next-requires-clause-going : goal.admit_next-requires-clause-going
admit_next-requires-clause-going c =
    let s = c.args.self.now in
    let w = c.args.who in
    let e = asking kind.Wait w.processor w.task (cost w.ticks w.line) c.args.object (pos c.args.cond) c.args.n in
    let same : to_z w64 (of_z w64 c.args.n) ≡ c.args.n = search rules in
    let a = subst (λ n. Appended s c.put_wait.new.self (asking kind.Wait w.processor w.task (cost w.ticks w.line) c.args.object (pos c.args.cond) n ∷ [])) same c.put_wait.ensures in
    asks.leave_going s w.processor w.task w.ticks w.line c.args.object c.requires.may.sound c.requires.may c.requires.at e refl refl refl refl (λ xs. refl) c.put_wait.new.self a

pub admit_next-requires-clause-known : goal.admit_next-requires-clause-known
admit_next-requires-clause-known c =
    let s = c.args.self.now in
    let w = c.args.who in
    let e = asking kind.Wait w.processor w.task (cost w.ticks w.line) c.args.object (pos c.args.cond) c.args.n in
    let same : to_z w64 (of_z w64 c.args.n) ≡ c.args.n = search rules in
    let a = subst (λ n. Appended s c.put_wait.new.self (asking kind.Wait w.processor w.task (cost w.ticks w.line) c.args.object (pos c.args.cond) n ∷ [])) same c.put_wait.ensures in
    asks.leave_there s w.processor w.task w.ticks w.line c.args.object c.requires.may.sound c.requires.may c.requires.at e refl refl refl refl (λ xs. refl) c.put_wait.new.self a

pub admit_next-requires-clause-room : goal.admit_next-requires-clause-room
admit_next-requires-clause-room c =
    let s = c.args.self.now in
    let w = c.args.who in
    let e = asking kind.Wait w.processor w.task (cost w.ticks w.line) c.args.object (pos c.args.cond) c.args.n in
    let same : to_z w64 (of_z w64 c.args.n) ≡ c.args.n = search rules in
    let a = subst (λ n. Appended s c.put_wait.new.self (asking kind.Wait w.processor w.task (cost w.ticks w.line) c.args.object (pos c.args.cond) n ∷ [])) same c.put_wait.ensures in
    asks.leave_room s w.processor w.task w.ticks w.line c.args.object c.requires.may.sound c.requires.may c.requires.at e refl refl refl refl (λ xs. refl) c.put_wait.new.self a

pub admit_next-requires-clause-empty : goal.admit_next-requires-clause-empty
admit_next-requires-clause-empty c =
    let s = c.args.self.now in
    let w = c.args.who in
    let e = asking kind.Wait w.processor w.task (cost w.ticks w.line) c.args.object (pos c.args.cond) c.args.n in
    let same : to_z w64 (of_z w64 c.args.n) ≡ c.args.n = search rules in
    let a = subst (λ n. Appended s c.put_wait.new.self (asking kind.Wait w.processor w.task (cost w.ticks w.line) c.args.object (pos c.args.cond) n ∷ [])) same c.put_wait.ensures in
    asks.leave_empty s w.processor w.task w.ticks w.line c.args.object c.requires.may.sound c.requires.may c.requires.at e refl refl refl refl (λ xs. refl) c.put_wait.new.self a

pub admit_next-requires-clause-aside : goal.admit_next-requires-clause-aside
admit_next-requires-clause-aside c =
    let s = c.args.self.now in
    let w = c.args.who in
    let e = asking kind.Wait w.processor w.task (cost w.ticks w.line) c.args.object (pos c.args.cond) c.args.n in
    let same : to_z w64 (of_z w64 c.args.n) ≡ c.args.n = search rules in
    let a = subst (λ n. Appended s c.put_wait.new.self (asking kind.Wait w.processor w.task (cost w.ticks w.line) c.args.object (pos c.args.cond) n ∷ [])) same c.put_wait.ensures in
    rw a.journal (asks.aside s.journal e w.task c.args.object (At (Blocked c.args.object c.args.cond)) refl (spot_moves s.journal e w.task (self_test w.task)) refl refl)

pub returns : goal.returns
returns c =
    let s = c.args.self.now in
    let w = c.args.who in
    let e = asking kind.Wait w.processor w.task (cost w.ticks w.line) c.args.object (pos c.args.cond) c.args.n in
    let same : to_z w64 (of_z w64 c.args.n) ≡ c.args.n = search rules in
    let a = subst (λ n. Appended s c.put_wait.new.self (asking kind.Wait w.processor w.task (cost w.ticks w.line) c.args.object (pos c.args.cond) n ∷ [])) same c.put_wait.ensures in
    asks.left_rows s c.put_wait.new.self c.admit_next.new.self e (fault w.processor w.task no_cost 10 w.line) w.processor (record { waits = λ xs. refl; stack = λ xs. refl }) a c.admit_next.ensures
