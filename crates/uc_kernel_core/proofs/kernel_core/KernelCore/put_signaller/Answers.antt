use Rattle.std.proofs.Common.{◌≡◌, ◌<◌, ◌∷◌, [], sym, subst}
use Rattle.std.specs.Prelude.{pos}
use Rattle.uc_acts.specs.Journal.{inside, asking, cost}
use Rattle.uc_acts.specs.Queues.{running}
use Rattle.uc_acts.specs.Known.{object_count}
use Rattle.uc_entry.specs.declared.entry.EntryKind.TheVariants as kind
use Rattle.uc_kernel_core.specs.Mirrors.{CanPut, Seen}
use Rattle.uc_kernel_core.proofs.Blocking as blocking
use Rattle.uc_kernel_core.proofs.Fronts as fronts
use Rattle.uc_kernel_core.proofs.Steps as steps
use Rattle.uc_kernel_core.proofs.kernel_core.KernelCore.put_signaller.Goals as goal

pub push_on-requires-clause-free : goal.push_on-requires-clause-free
push_on-requires-clause-free c =
    let w = c.args.who in
    let k = subst (λ (s : Seen). CanPut s (asking kind.SignalBlock w.processor w.task (cost w.ticks w.line) c.args.object (pos c.args.cond) (pos 1))) (sym c.self.view_is) c.requires.can in
    let r = subst (λ (s : Seen). running w.processor s.journal ≡ w.task ∷ []) (sym c.self.view_is) c.requires.runs in
    fronts.run_free _ _ _ _ _ _ _ _ _ _ _ (c.self.invariant.mirrors k.going) w.processor w.task r

pub push_on-requires-clause-task : goal.push_on-requires-clause-task
push_on-requires-clause-task c =
    let w = c.args.who in
    let k = subst (λ (s : Seen). CanPut s (asking kind.SignalBlock w.processor w.task (cost w.ticks w.line) c.args.object (pos c.args.cond) (pos 1))) (sym c.self.view_is) c.requires.can in
    let r = subst (λ (s : Seen). running w.processor s.journal ≡ w.task ∷ []) (sym c.self.view_is) c.requires.runs in
    steps.run_seated _ _ _ _ _ _ _ _ _ _ _ (c.self.invariant.mirrors k.going) w.processor w.task r

pub free-requires : goal.free-requires
free-requires c =
    let w = c.args.who in
    let k = subst (λ (s : Seen). CanPut s (asking kind.SignalBlock w.processor w.task (cost w.ticks w.line) c.args.object (pos c.args.cond) (pos 1))) (sym c.self.view_is) c.requires.can in
    let r = subst (λ (s : Seen). running w.processor s.journal ≡ w.task ∷ []) (sym c.self.view_is) c.requires.runs in
    rw c.from.ensures (steps.run_processor _ _ _ _ _ _ _ _ _ _ _ (c.self.invariant.mirrors k.going) w.processor w.task r)

pub invariant_of-self : goal.invariant_of-self
invariant_of-self c =
    let w = c.args.who in
    let e = asking kind.SignalBlock w.processor w.task (cost w.ticks w.line) c.args.object (pos c.args.cond) (pos 1) in
    let k = subst (λ (s : Seen). CanPut s e) (sym c.self.view_is) c.requires.can in
    let r = subst (λ (s : Seen). running w.processor s.journal ≡ w.task ∷ []) (sym c.self.view_is) c.requires.runs in
    let i = subst (λ (s : Seen). inside c.args.object s.journal ≡ w.task ∷ []) (sym c.self.view_is) c.requires.within in
    let n = subst (λ (s : Seen). c.args.object < object_count s.journal) (sym c.self.view_is) c.requires.known in
    let old = c.self.invariant in
    let m = old.mirrors k.going in
    let doors = blocking.stacked_twice _ _ _ _ _ _ _ _ _ _ _ m c.args.object w.task n i c.push_on.new.entries c.leave.new.self c.push_on.ensures c.leave.ensures in
    record {
      mirrors = λ _. rw (c.push.ensures, c.condition_entry.ensures, doors, c.free.ensures, c.from.ensures) (blocking.m_signaller _ _ _ _ _ _ _ _ _ _ _ m w.processor w.task (cost w.ticks w.line) c.args.object c.args.cond k.legal r i n c.index.result.now _ c.index.ensures);
      space = rw c.push.ensures old.space;
      tasks = rw c.push.ensures old.tasks;
    }
