use Rattle.std.proofs.Common.{◌<◌, sym, subst}
use Rattle.std.specs.Prelude.{pos}
use Rattle.uc_acts.specs.Journal.{asking, cost}
use Rattle.uc_acts.specs.Known.{object_count}
use Rattle.uc_entry.specs.declared.entry.EntryKind.TheVariants as kind
use Rattle.uc_kernel_core.specs.Mirrors.{CanPut, Seen}
use Rattle.uc_kernel_core.proofs.Blocking as blocking
use Rattle.uc_kernel_core.proofs.kernel_core.KernelCore.put_unheard.Goals as goal

pub invariant_of-self : goal.invariant_of-self
invariant_of-self c =
    let w = c.args.who in
    let e = asking kind.SignalBlock w.processor w.task (cost w.ticks w.line) c.args.object (pos c.args.cond) (pos 0) in
    let k = subst (λ (s : Seen). CanPut s e) (sym c.self.view_is) c.requires.can in
    let n = subst (λ (s : Seen). c.args.object < object_count s.journal) (sym c.self.view_is) c.requires.known in
    let old = c.self.invariant in
    record {
      mirrors = λ _. rw (c.push.ensures, c.condition_entry.ensures) (blocking.m_unheard _ _ _ _ _ _ _ _ _ _ _ (old.mirrors k.going) w.processor w.task (cost w.ticks w.line) c.args.object c.args.cond k.legal n);
      space = rw c.push.ensures old.space;
      tasks = rw c.push.ensures old.tasks;
    }
