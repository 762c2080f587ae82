use Rattle.std.proofs.Common.{sym, subst}
use Rattle.uc_kernel_core.specs.Mirrors.{CanPut, Seen}
use Rattle.uc_kernel_core.proofs.Steps as steps
use Rattle.uc_kernel_core.proofs.kernel_core.KernelCore.put_quiet.Goals as goal

pub invariant_of-self : goal.invariant_of-self
invariant_of-self c =
    let k = subst (λ (s : Seen). CanPut s c.args.e) (sym c.self.view_is) c.requires.can in
    let old = c.self.invariant in
    record {
      mirrors = λ _. rw c.push.ensures (steps.m_quiet _ _ _ _ _ _ _ _ _ _ _ (old.mirrors k.going) c.args.e k.legal c.requires.quiet);
      space = rw c.push.ensures old.space;
      tasks = rw c.push.ensures old.tasks;
    }
