use Rattle.std.proofs.Common.{◌≡◌, ◌<◌, ◌∙◌, ◌∷◌, [], false, sym, ap, subst, arith}
use Rattle.std.specs.Prelude.{IfSome}
use Rattle.uc_acts.specs.Journal.{inside, is_over, is_ending, no_cost}
use Rattle.uc_acts.specs.Doors.{blocked}
use Rattle.uc_acts.specs.Known.{object_count}
use Rattle.uc_acts.specs.Queues.{last_actor}
use Rattle.uc_acts.specs.Acts.{fault, settled}
use Rattle.uc_acts.specs.Sound.{At, spot}
use Rattle.uc_acts.specs.Stations.{Stacked}
use Rattle.uc_condition.specs.Waiting.{IsFree}
use Rattle.uc_kernel_journal.specs.JournalSums.{Told}
use Rattle.uc_kernel_journal.proofs.Tellings.{over_push}
use Rattle.uc_kernel_core.specs.Mirrors.{Seen, seen, Appended}
use Rattle.uc_kernel_core.specs.Waiters.{front_admitted}
use Rattle.uc_kernel_core.proofs.Asks as asks
use Rattle.uc_kernel_core.proofs.Fronts as fronts
use Rattle.uc_kernel_core.proofs.Letting as letting
use Rattle.uc_kernel_core.proofs.kernel_core.KernelCore.admit_front.Goals as goal

pub index-mark-requires : goal.index-mark-requires
index-mark-requires c =
    let going = subst (λ (s : Seen). is_over s.journal ≡ false) (sym c.self.view_is) c.requires.going in
    let known = subst (λ (s : Seen). c.args.object < object_count s.journal) (sym c.self.view_is) c.requires.known in
    let m = c.self.invariant.mirrors going in
    let o = c.args.object in
    let k = c.args.cond in
    let w = c.take.new.self in
    let q = c.take.ensures.queues in
    let u = c.in-Some.task in
    let p = c.args.who.processor in
    let first = sym c.in-Some.is ∙ c.take.ensures.value in
    let lt = letting.task_mark _ _ _ _ _ _ _ _ _ _ _ m o known u (fronts.front_known _ _ _ _ _ _ _ _ _ _ _ m o k w q u first) in
    let ok = c.self.inside.marks.ok in
    omega arith

pub push-requires-in-Some-clause-task : goal.push-requires-in-Some-clause-task
push-requires-in-Some-clause-task c =
    let going = subst (λ (s : Seen). is_over s.journal ≡ false) (sym c.self.view_is) c.requires.going in
    let known = subst (λ (s : Seen). c.args.object < object_count s.journal) (sym c.self.view_is) c.requires.known in
    let m = c.self.invariant.mirrors going in
    let o = c.args.object in
    let k = c.args.cond in
    let w = c.take.new.self in
    let q = c.take.ensures.queues in
    let u = c.in-Some.task in
    let p = c.args.who.processor in
    let first = sym c.in-Some.is ∙ c.take.ensures.value in
    rw (c.admit_entry.ensures, c.self.invariant.tasks) (letting.task_known _ _ _ _ _ _ _ _ _ _ _ m o known u (fronts.front_known _ _ _ _ _ _ _ _ _ _ _ m o k w q u first))

pub ready-requires-clause-task : goal.ready-requires-clause-task
ready-requires-clause-task c =
    let going = subst (λ (s : Seen). is_over s.journal ≡ false) (sym c.self.view_is) c.requires.going in
    let known = subst (λ (s : Seen). c.args.object < object_count s.journal) (sym c.self.view_is) c.requires.known in
    let m = c.self.invariant.mirrors going in
    let o = c.args.object in
    let k = c.args.cond in
    let w = c.take.new.self in
    let q = c.take.ensures.queues in
    let u = c.in-Some.task in
    let p = c.args.who.processor in
    let first = sym c.in-Some.is ∙ c.take.ensures.value in
    letting.task_placed _ _ _ _ _ _ _ _ _ _ _ m o known u (fronts.front_known _ _ _ _ _ _ _ _ _ _ _ m o k w q u first)

pub ready-requires-clause-placed : goal.ready-requires-clause-placed
ready-requires-clause-placed c =
    let going = subst (λ (s : Seen). is_over s.journal ≡ false) (sym c.self.view_is) c.requires.going in
    let known = subst (λ (s : Seen). c.args.object < object_count s.journal) (sym c.self.view_is) c.requires.known in
    let m = c.self.invariant.mirrors going in
    let o = c.args.object in
    let k = c.args.cond in
    let w = c.take.new.self in
    let q = c.take.ensures.queues in
    let u = c.in-Some.task in
    let p = c.args.who.processor in
    let first = sym c.in-Some.is ∙ c.take.ensures.value in
    let empty = subst (λ (s : Seen). inside c.args.object s.journal ≡ []) (sym c.self.view_is) c.requires.empty in
    let idle = subst (λ r. IfSome r (λ t. IsFree t c.take.new.self)) c.in-Some.is c.take.ensures.free in
    let b = c.index-mark.result.now in
    fronts.front_placed _ _ _ _ _ _ _ _ _ _ _ m o k w q u first known p idle empty b _ c.index-mark.ensures

pub ready-requires-clause-unready : goal.ready-requires-clause-unready
ready-requires-clause-unready c =
    let going = subst (λ (s : Seen). is_over s.journal ≡ false) (sym c.self.view_is) c.requires.going in
    let known = subst (λ (s : Seen). c.args.object < object_count s.journal) (sym c.self.view_is) c.requires.known in
    let m = c.self.invariant.mirrors going in
    let o = c.args.object in
    let k = c.args.cond in
    let w = c.take.new.self in
    let q = c.take.ensures.queues in
    let u = c.in-Some.task in
    let p = c.args.who.processor in
    let first = sym c.in-Some.is ∙ c.take.ensures.value in
    let empty = subst (λ (s : Seen). inside c.args.object s.journal ≡ []) (sym c.self.view_is) c.requires.empty in
    let idle = subst (λ r. IfSome r (λ t. IsFree t c.take.new.self)) c.in-Some.is c.take.ensures.free in
    let b = c.index-mark.result.now in
    fronts.front_unready _ _ _ _ _ _ _ _ _ _ _ m o k w q u first known p idle empty b _ c.index-mark.ensures

pub invariant_of-self : goal.invariant_of-self
invariant_of-self c =
    let going = subst (λ (s : Seen). is_over s.journal ≡ false) (sym c.self.view_is) c.requires.going in
    let known = subst (λ (s : Seen). c.args.object < object_count s.journal) (sym c.self.view_is) c.requires.known in
    let m = c.self.invariant.mirrors going in
    record {
      mirrors = λ _. fronts.nobody_left _ _ _ _ _ _ _ _ _ _ _ m c.args.object c.args.cond c.take.new.self c.take.ensures.queues (sym c.in-None.is ∙ c.take.ensures.value);
      space = c.self.invariant.space;
      tasks = c.self.invariant.tasks;
    }

pub invariant_of-self-then-destroys_busy : goal.invariant_of-self-then-destroys_busy
invariant_of-self-then-destroys_busy c =
    let old = c.self.invariant in
    record {
      mirrors = λ h. over_push c.self.inside.journal.journal c.busy_entry.result (ap (λ e. is_ending e.kind) c.busy_entry.ensures) (sym (ap (λ (v : Told). is_over v.journal) c.push.ensures) ∙ h);
      space = rw c.push.ensures old.space;
      tasks = rw c.push.ensures old.tasks;
    }

pub invariant_of-self-in-Some : goal.invariant_of-self-in-Some
invariant_of-self-in-Some c =
    let going = subst (λ (s : Seen). is_over s.journal ≡ false) (sym c.self.view_is) c.requires.going in
    let known = subst (λ (s : Seen). c.args.object < object_count s.journal) (sym c.self.view_is) c.requires.known in
    let m = c.self.invariant.mirrors going in
    let o = c.args.object in
    let k = c.args.cond in
    let w = c.take.new.self in
    let q = c.take.ensures.queues in
    let u = c.in-Some.task in
    let p = c.args.who.processor in
    let first = sym c.in-Some.is ∙ c.take.ensures.value in
    let empty = subst (λ (s : Seen). inside c.args.object s.journal ≡ []) (sym c.self.view_is) c.requires.empty in
    let idle = subst (λ r. IfSome r (λ t. IsFree t c.take.new.self)) c.in-Some.is c.take.ensures.free in
    let b = c.index-mark.result.now in
    let acts = subst (λ (s : Seen). last_actor 0 s.journal ≡ c.args.who.task) (sym c.self.view_is) c.requires.acts in
    let stacked = subst (λ (s : Seen). spot c.args.who.task s.journal ≡ At (Stacked c.args.object)) (sym c.self.view_is) c.requires.stacked in
    let old = c.self.invariant in
    record {
      mirrors = λ _. rw (c.push-in-Some.ensures, c.admit_entry.ensures, c.ready.ensures) (fronts.m_front _ _ _ _ _ _ _ _ _ _ _ m o k w q u first known p idle empty b _ c.index-mark.ensures c.args.who.task acts stacked c.enter.new.self c.enter.ensures);
      space = rw c.push-in-Some.ensures old.space;
      tasks = rw c.push-in-Some.ensures old.tasks;
    }

pub returns-in-None : goal.returns-in-None
returns-in-None c =
    let going = subst (λ (s : Seen). is_over s.journal ≡ false) (sym c.self.view_is) c.requires.going in
    let known = subst (λ (s : Seen). c.args.object < object_count s.journal) (sym c.self.view_is) c.requires.known in
    let m = c.self.invariant.mirrors going in
    let none = fronts.nobody_blocked _ _ _ _ _ _ _ _ _ _ _ m c.args.object c.args.cond c.take.new.self c.take.ensures.queues (sym c.in-None.is ∙ c.take.ensures.value) in
    subst (λ (s : Seen). Appended s (seen c.self.inside.journal c.self.inside.opts c.self.inside.input.items) (settled (fault c.args.who.processor c.args.who.task no_cost 10 c.args.who.line) s.journal (front_admitted c.args.who.processor c.args.object (blocked c.args.object c.args.cond s.journal)))) c.self.view_is (rw none (asks.appended_none (seen c.self.inside.journal c.self.inside.opts c.self.inside.input.items)))

pub returns-then-destroys_busy : goal.returns-then-destroys_busy
returns-then-destroys_busy c =
    let going = subst (λ (s : Seen). is_over s.journal ≡ false) (sym c.self.view_is) c.requires.going in
    let known = subst (λ (s : Seen). c.args.object < object_count s.journal) (sym c.self.view_is) c.requires.known in
    let m = c.self.invariant.mirrors going in
    let o = c.args.object in
    let k = c.args.cond in
    let w = c.take.new.self in
    let q = c.take.ensures.queues in
    let u = c.in-Some.task in
    let p = c.args.who.processor in
    let first = sym c.in-Some.is ∙ c.take.ensures.value in
    let empty = subst (λ (s : Seen). inside c.args.object s.journal ≡ []) (sym c.self.view_is) c.requires.empty in
    let idle = subst (λ r. IfSome r (λ t. IsFree t c.take.new.self)) c.in-Some.is c.take.ensures.free in
    let b = c.index-mark.result.now in
    let acts = subst (λ (s : Seen). last_actor 0 s.journal ≡ c.args.who.task) (sym c.self.view_is) c.requires.acts in
    let stacked = subst (λ (s : Seen). spot c.args.who.task s.journal ≡ At (Stacked c.args.object)) (sym c.self.view_is) c.requires.stacked in
    let f = fault c.args.who.processor c.args.who.task no_cost 10 c.args.who.line in
    let row = fronts.front_cut _ _ _ _ _ _ _ _ _ _ _ m o k w q u first known p idle empty b _ c.index-mark.ensures c.args.who.task acts stacked c.enter.new.self c.enter.ensures f (c.destroys_busy.ensures.yes c.if-destroys_busy.true) in
    subst (λ (s : Seen). Appended s (seen c.push.new.self c.self.inside.opts c.self.inside.input.items) (settled (fault c.args.who.processor c.args.who.task no_cost 10 c.args.who.line) s.journal (front_admitted c.args.who.processor c.args.object (blocked c.args.object c.args.cond s.journal)))) c.self.view_is (asks.told_rows c.self.inside.journal c.push.new.self c.self.inside.opts c.self.inside.input.items c.busy_entry.result _ c.push.ensures (row ∙ ap (λ e. e ∷ []) (sym c.busy_entry.ensures)))

pub returns-else-destroys_busy : goal.returns-else-destroys_busy
returns-else-destroys_busy c =
    let going = subst (λ (s : Seen). is_over s.journal ≡ false) (sym c.self.view_is) c.requires.going in
    let known = subst (λ (s : Seen). c.args.object < object_count s.journal) (sym c.self.view_is) c.requires.known in
    let m = c.self.invariant.mirrors going in
    let o = c.args.object in
    let k = c.args.cond in
    let w = c.take.new.self in
    let q = c.take.ensures.queues in
    let u = c.in-Some.task in
    let p = c.args.who.processor in
    let first = sym c.in-Some.is ∙ c.take.ensures.value in
    let empty = subst (λ (s : Seen). inside c.args.object s.journal ≡ []) (sym c.self.view_is) c.requires.empty in
    let idle = subst (λ r. IfSome r (λ t. IsFree t c.take.new.self)) c.in-Some.is c.take.ensures.free in
    let b = c.index-mark.result.now in
    let acts = subst (λ (s : Seen). last_actor 0 s.journal ≡ c.args.who.task) (sym c.self.view_is) c.requires.acts in
    let stacked = subst (λ (s : Seen). spot c.args.who.task s.journal ≡ At (Stacked c.args.object)) (sym c.self.view_is) c.requires.stacked in
    let f = fault c.args.who.processor c.args.who.task no_cost 10 c.args.who.line in
    let row = fronts.front_kept _ _ _ _ _ _ _ _ _ _ _ m o k w q u first known p idle empty b _ c.index-mark.ensures c.args.who.task acts stacked c.enter.new.self c.enter.ensures f (c.destroys_busy.ensures.no c.if-destroys_busy.false) in
    subst (λ (s : Seen). Appended s (seen c.push-in-Some.new.self c.self.inside.opts c.self.inside.input.items) (settled (fault c.args.who.processor c.args.who.task no_cost 10 c.args.who.line) s.journal (front_admitted c.args.who.processor c.args.object (blocked c.args.object c.args.cond s.journal)))) c.self.view_is (asks.told_rows c.self.inside.journal c.push-in-Some.new.self c.self.inside.opts c.self.inside.input.items c.admit_entry.result _ c.push-in-Some.ensures (row ∙ ap (λ e. e ∷ []) (sym c.admit_entry.ensures)))
