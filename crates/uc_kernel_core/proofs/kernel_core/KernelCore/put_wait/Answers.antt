use Rattle.std.proofs.Common.{◌≡◌, ◌<◌, ◌++◌, ◌∷◌, [], sym, subst, to_z, of_z, w64, rules}
use Rattle.std.specs.Prelude.{pos}
use Rattle.uc_acts.specs.Journal.{inside, asking, cost}
use Rattle.uc_acts.specs.Queues.{running}
use Rattle.uc_acts.specs.Known.{object_count}
use Rattle.uc_condition.specs.Waiting.{Became, queue_at}
use Rattle.uc_entry.specs.declared.entry.EntryKind.TheVariants as kind
use Rattle.uc_kernel_core.specs.Mirrors.{CanPut, Seen}
use Rattle.uc_kernel_core.proofs.Blocking as blocking
use Rattle.uc_kernel_core.proofs.Fronts as fronts
use Rattle.uc_kernel_core.proofs.Steps as steps
use Rattle.uc_kernel_core.proofs.kernel_core.KernelCore.put_wait.Goals as goal

pub wait-requires-clause-free : goal.wait-requires-clause-free
wait-requires-clause-free c =
    let w = c.args.who in
    let k = subst (λ (s : Seen). CanPut s (asking kind.Wait w.processor w.task (cost w.ticks w.line) c.args.object (pos c.args.cond) c.args.n)) (sym c.self.view_is) c.requires.can in
    let r = subst (λ (s : Seen). running w.processor s.journal ≡ w.task ∷ []) (sym c.self.view_is) c.requires.runs in
    fronts.run_idle _ _ _ _ _ _ _ _ _ _ _ (c.self.invariant.mirrors k.going) w.processor w.task r

pub wait-requires-clause-task : goal.wait-requires-clause-task
wait-requires-clause-task c =
    let w = c.args.who in
    let k = subst (λ (s : Seen). CanPut s (asking kind.Wait w.processor w.task (cost w.ticks w.line) c.args.object (pos c.args.cond) c.args.n)) (sym c.self.view_is) c.requires.can in
    let r = subst (λ (s : Seen). running w.processor s.journal ≡ w.task ∷ []) (sym c.self.view_is) c.requires.runs in
    steps.run_waitable _ _ _ _ _ _ _ _ _ _ _ (c.self.invariant.mirrors k.going) w.processor w.task r

pub free-requires : goal.free-requires
free-requires c =
    let w = c.args.who in
    let k = subst (λ (s : Seen). CanPut s (asking kind.Wait w.processor w.task (cost w.ticks w.line) c.args.object (pos c.args.cond) c.args.n)) (sym c.self.view_is) c.requires.can in
    let r = subst (λ (s : Seen). running w.processor s.journal ≡ w.task ∷ []) (sym c.self.view_is) c.requires.runs in
    rw c.from.ensures (steps.run_processor _ _ _ _ _ _ _ _ _ _ _ (c.self.invariant.mirrors k.going) w.processor w.task r)

pub invariant_of-self : goal.invariant_of-self
invariant_of-self c =
    let w = c.args.who in
    let e = asking kind.Wait w.processor w.task (cost w.ticks w.line) c.args.object (pos c.args.cond) c.args.n in
    let k = subst (λ (s : Seen). CanPut s e) (sym c.self.view_is) c.requires.can in
    let r = subst (λ (s : Seen). running w.processor s.journal ≡ w.task ∷ []) (sym c.self.view_is) c.requires.runs in
    let i = subst (λ (s : Seen). inside c.args.object s.journal ≡ w.task ∷ []) (sym c.self.view_is) c.requires.within in
    let n = subst (λ (s : Seen). c.args.object < object_count s.journal) (sym c.self.view_is) c.requires.known in
    let old = c.self.invariant in
    let same : to_z w64 (of_z w64 c.args.n) ≡ c.args.n = search rules in
    let became = subst (λ z. Became c.self.inside.conditions c.wait.new.self c.args.object c.args.cond (queue_at c.self.inside.conditions c.args.object c.args.cond ++ (w.task, z) ∷ [])) same c.wait.ensures in
    record {
      mirrors = λ _. rw (c.push.ensures, c.condition_entry.ensures, same, c.leave.ensures, c.free.ensures, c.from.ensures) (blocking.m_wait _ _ _ _ _ _ _ _ _ _ _ (old.mirrors k.going) w.processor w.task (cost w.ticks w.line) c.args.object c.args.cond c.args.n k.legal r i n c.wait.new.self became c.index.result.now _ c.index.ensures);
      space = rw c.push.ensures old.space;
      tasks = rw c.push.ensures old.tasks;
    }
