use Rattle.std.proofs.Common.{◌≡◌, ◌<◌, ◌∷◌, [], sym, subst}
use Rattle.uc_acts.specs.Journal.{inside}
use Rattle.uc_acts.specs.Queues.{running}
use Rattle.uc_acts.specs.Known.{object_count}
use Rattle.uc_kernel_core.specs.Mirrors.{CanPut, Seen}
use Rattle.uc_kernel_core.proofs.Steps as steps
use Rattle.uc_kernel_core.proofs.kernel_core.KernelCore.put_end.Goals as goal

pub leave-requires : goal.leave-requires
leave-requires c =
    let k = subst (λ (s : Seen). CanPut s c.args.e) (sym c.self.view_is) c.requires.can in
    let n = subst (λ (s : Seen). c.args.e.object < object_count s.journal) (sym c.self.view_is) c.requires.known in
    record { object = rw (c.self.invariant.mirrors k.going).doors_are.made n }

pub invariant_of-self : goal.invariant_of-self
invariant_of-self c =
    let k = subst (λ (s : Seen). CanPut s c.args.e) (sym c.self.view_is) c.requires.can in
    let r = subst (λ (s : Seen). running c.args.e.proc s.journal ≡ c.args.e.task ∷ []) (sym c.self.view_is) c.requires.runs in
    let i = subst (λ (s : Seen). inside c.args.e.object s.journal ≡ c.args.e.task ∷ []) (sym c.self.view_is) c.requires.within in
    let n = subst (λ (s : Seen). c.args.e.object < object_count s.journal) (sym c.self.view_is) c.requires.known in
    let old = c.self.invariant in
    record {
      mirrors = λ _. rw (c.push.ensures, c.leave.ensures, c.end_task.ensures, c.free.ensures, c.from.ensures) (steps.m_end _ _ _ _ _ _ _ _ _ _ _ (old.mirrors k.going) c.args.e k.legal c.requires.ends r i n);
      space = rw c.push.ensures old.space;
      tasks = rw c.push.ensures old.tasks;
    }
