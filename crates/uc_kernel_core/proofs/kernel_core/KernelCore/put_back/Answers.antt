use Rattle.std.proofs.Common.{◌≡◌, ◌∷◌, [], sym, subst}
use Rattle.uc_acts.specs.Queues.{running}
use Rattle.uc_cluster.specs.Standing.{IsPlaced, IsUnready}
use Rattle.uc_kernel_core.specs.Mirrors.{CanPut, Seen}
use Rattle.uc_kernel_core.proofs.Steps as steps
use Rattle.uc_kernel_core.proofs.kernel_core.KernelCore.put_back.Goals as goal

pub invariant_of-self : goal.invariant_of-self
invariant_of-self c =
    let k = subst (λ (s : Seen). CanPut s c.args.e) (sym c.self.view_is) c.requires.can in
    let r = subst (λ (s : Seen). running c.args.e.proc s.journal ≡ c.args.e.task ∷ []) (sym c.self.view_is) c.requires.runs in
    let old = c.self.invariant in
    record {
      mirrors = λ _. rw (c.push.ensures, c.ready.ensures, c.free.ensures, c.from.ensures) (steps.m_back _ _ _ _ _ _ _ _ _ _ _ (old.mirrors k.going) c.args.e k.legal c.requires.back r);
      space = rw c.push.ensures old.space;
      tasks = rw c.push.ensures old.tasks;
    }

pub ready-requires-clause-placed : goal.ready-requires-clause-placed
ready-requires-clause-placed c =
    let k = subst (λ (s : Seen). CanPut s c.args.e) (sym c.self.view_is) c.requires.can in
    let r = subst (λ (s : Seen). running c.args.e.proc s.journal ≡ c.args.e.task ∷ []) (sym c.self.view_is) c.requires.runs in
    subst (IsPlaced c.args.e.task) (sym c.free.ensures) (steps.run_placed _ _ _ _ _ _ _ _ _ _ _ (c.self.invariant.mirrors k.going) c.args.e.proc c.args.e.task r)

pub ready-requires-clause-unready : goal.ready-requires-clause-unready
ready-requires-clause-unready c =
    let k = subst (λ (s : Seen). CanPut s c.args.e) (sym c.self.view_is) c.requires.can in
    let r = subst (λ (s : Seen). running c.args.e.proc s.journal ≡ c.args.e.task ∷ []) (sym c.self.view_is) c.requires.runs in
    subst (IsUnready c.args.e.task) (sym c.free.ensures) (steps.run_unready _ _ _ _ _ _ _ _ _ _ _ (c.self.invariant.mirrors k.going) c.args.e.proc c.args.e.task r)
