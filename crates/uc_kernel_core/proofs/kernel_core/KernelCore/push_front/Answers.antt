use Rattle.std.proofs.Common.{◌≡◌, ◌<◌, ◌∙◌, ◌∷◌, [], false, sym, ap, subst}
use Rattle.std.specs.Prelude.{IfSome}
use Rattle.uc_acts.specs.Journal.{is_over}
use Rattle.uc_acts.specs.Doors.{blocked, open_at}
use Rattle.uc_acts.specs.Known.{object_count}
use Rattle.uc_condition.specs.Waiting.{IsFree}
use Rattle.uc_kernel_core.specs.Mirrors.{Seen, seen, Appended}
use Rattle.uc_kernel_core.specs.Waiters.{front_pushed}
use Rattle.uc_kernel_core.proofs.Asks as asks
use Rattle.uc_kernel_core.proofs.Fronts as fronts
use Rattle.uc_kernel_core.proofs.Goings as goings
use Rattle.uc_kernel_core.proofs.Letting as letting
use Rattle.uc_kernel_core.proofs.kernel_core.KernelCore.push_front.Goals as goal

pub push-requires-clause-task : goal.push-requires-clause-task
push-requires-clause-task c =
    let going = subst (λ (s : Seen). is_over s.journal ≡ false) (sym c.self.view_is) c.requires.going in
    let known = subst (λ (s : Seen). c.args.object < object_count s.journal) (sym c.self.view_is) c.requires.known in
    let m = c.self.invariant.mirrors going in
    let first = sym c.in-Some.is ∙ c.take.ensures.value in
    rw (c.push_entry.ensures, c.self.invariant.tasks) (letting.task_known _ _ _ _ _ _ _ _ _ _ _ m c.args.object known c.in-Some.task (fronts.front_known _ _ _ _ _ _ _ _ _ _ _ m c.args.object c.args.cond c.take.new.self c.take.ensures.queues c.in-Some.task first))

pub push_on-requires-clause-task : goal.push_on-requires-clause-task
push_on-requires-clause-task c =
    let going = subst (λ (s : Seen). is_over s.journal ≡ false) (sym c.self.view_is) c.requires.going in
    let known = subst (λ (s : Seen). c.args.object < object_count s.journal) (sym c.self.view_is) c.requires.known in
    let m = c.self.invariant.mirrors going in
    let first = sym c.in-Some.is ∙ c.take.ensures.value in
    letting.task_seated _ _ _ _ _ _ _ _ _ _ _ m c.args.object known c.in-Some.task (fronts.front_known _ _ _ _ _ _ _ _ _ _ _ m c.args.object c.args.cond c.take.new.self c.take.ensures.queues c.in-Some.task first)

pub push_on-requires-clause-free : goal.push_on-requires-clause-free
push_on-requires-clause-free c =
    let going = subst (λ (s : Seen). is_over s.journal ≡ false) (sym c.self.view_is) c.requires.going in
    let m = c.self.invariant.mirrors going in
    let first = sym c.in-Some.is ∙ c.take.ensures.value in
    fronts.front_free _ _ _ _ _ _ _ _ _ _ _ m c.args.object c.args.cond c.take.new.self c.take.ensures.queues c.in-Some.task first

pub invariant_of-self-in-Some : goal.invariant_of-self-in-Some
invariant_of-self-in-Some c =
    let going = subst (λ (s : Seen). is_over s.journal ≡ false) (sym c.self.view_is) c.requires.going in
    let known = subst (λ (s : Seen). c.args.object < object_count s.journal) (sym c.self.view_is) c.requires.known in
    let shut = subst (λ (s : Seen). open_at c.args.object s.journal ≡ []) (sym c.self.view_is) c.requires.shut in
    let m = c.self.invariant.mirrors going in
    let o = c.args.object in
    let u = c.in-Some.task in
    let p = c.args.who.processor in
    let first = sym c.in-Some.is ∙ c.take.ensures.value in
    let idle = subst (λ r. IfSome r (λ t. IsFree t c.take.new.self)) c.in-Some.is c.take.ensures.free in
    let lt = letting.known_door _ _ _ _ _ _ _ _ _ _ _ m o known in
    let free = fronts.front_free _ _ _ _ _ _ _ _ _ _ _ m o c.args.cond c.take.new.self c.take.ensures.queues u first in
    let old = c.self.invariant in
    record {
      mirrors = λ _. rw (c.push.ensures, c.push_entry.ensures, c.push_on.ensures) (goings.m_push _ _ _ _ _ _ _ _ _ _ _ m p u o (fronts.push_legal _ _ _ _ _ _ _ _ _ _ _ m o c.args.cond c.take.new.self c.take.ensures.queues u first p shut known) (fronts.front_queued _ _ _ _ _ _ _ _ _ _ _ m o c.args.cond c.take.new.self c.take.ensures.queues u first) _ (fronts.pushed_door _ _ _ _ _ _ _ _ _ _ _ m o lt u free p) (fronts.same_inside _ _ _ _ _ _ _ _ _ _ _ m p u o) c.take.new.self (fronts.pushed_waits _ _ _ _ _ _ _ _ _ _ _ m o c.args.cond c.take.new.self c.take.ensures.queues u first p idle));
      space = rw c.push.ensures old.space;
      tasks = rw c.push.ensures old.tasks;
    }

pub invariant_of-self : goal.invariant_of-self
invariant_of-self c =
    let going = subst (λ (s : Seen). is_over s.journal ≡ false) (sym c.self.view_is) c.requires.going in
    let m = c.self.invariant.mirrors going in
    record {
      mirrors = λ _. fronts.nobody_left _ _ _ _ _ _ _ _ _ _ _ m c.args.object c.args.cond c.take.new.self c.take.ensures.queues (sym c.in-None.is ∙ c.take.ensures.value);
      space = c.self.invariant.space;
      tasks = c.self.invariant.tasks;
    }

pub returns-in-None : goal.returns-in-None
returns-in-None c =
    let going = subst (λ (s : Seen). is_over s.journal ≡ false) (sym c.self.view_is) c.requires.going in
    let m = c.self.invariant.mirrors going in
    let none = fronts.nobody_blocked _ _ _ _ _ _ _ _ _ _ _ m c.args.object c.args.cond c.take.new.self c.take.ensures.queues (sym c.in-None.is ∙ c.take.ensures.value) in
    subst (λ (s : Seen). Appended s (seen c.self.inside.journal c.self.inside.opts c.self.inside.input.items) (front_pushed c.args.who.processor c.args.object (blocked c.args.object c.args.cond s.journal))) c.self.view_is (rw none (asks.appended_none (seen c.self.inside.journal c.self.inside.opts c.self.inside.input.items)))

pub returns-in-Some : goal.returns-in-Some
returns-in-Some c =
    let going = subst (λ (s : Seen). is_over s.journal ≡ false) (sym c.self.view_is) c.requires.going in
    let m = c.self.invariant.mirrors going in
    let first = sym c.in-Some.is ∙ c.take.ensures.value in
    let row = fronts.pushed_row _ _ _ _ _ _ _ _ _ _ _ m c.args.object c.args.cond c.take.new.self c.take.ensures.queues c.in-Some.task first c.args.who.processor in
    subst (λ (s : Seen). Appended s (seen c.push.new.self c.self.inside.opts c.self.inside.input.items) (front_pushed c.args.who.processor c.args.object (blocked c.args.object c.args.cond s.journal))) c.self.view_is (asks.told_rows c.self.inside.journal c.push.new.self c.self.inside.opts c.self.inside.input.items c.push_entry.result _ c.push.ensures (row ∙ ap (λ e. e ∷ []) (sym c.push_entry.ensures)))
