use Rattle.std.proofs.Common.{◌≡◌, ◌+◌, ◌≤◌, ◌<◌, [], sym, ◌∙◌, subst, arith}
use Rattle.std.specs.Prelude.{pos}
use Rattle.std.proofs.Math.Nat.{le-max_left, le-max_right}
use Rattle.uc_tree.specs.declared.limits.TheConstants.{TASKS}
use Rattle.uc_acts.specs.Journal.{asking, cost}
use Rattle.uc_acts.specs.KernelRuns.{IsAt}
use Rattle.uc_acts.specs.Known.{object_count, task_count, owner}
use Rattle.uc_entry.specs.declared.entry.EntryKind.TheVariants as kind
use Rattle.uc_entry.specs.declared.request.Request.TheVariants as ask
use Rattle.uc_acts.proofs.Moves.{one_inside}
use Rattle.uc_cluster.specs.Standing.{IsPlaced, IsUnready}
use Rattle.uc_kernel_core.specs.Mirrors.{MayAct, Seen, seen}
use Rattle.uc_kernel_core.proofs.Asks as asks
use Rattle.uc_kernel_core.proofs.Steps as steps
use Rattle.uc_kernel_core.proofs.Making as making
use Rattle.uc_kernel_core.proofs.Requests as requests
use Rattle.uc_kernel_core.proofs.kernel_core.KernelCore.add_child.Goals as goal

pub add_task-requires-clause-creator : goal.add_task-requires-clause-creator
add_task-requires-clause-creator c =
    let w = c.args.who in
    let may = subst (λ (s : Seen). MayAct s w.processor w.task) (sym c.self.view_is) c.requires.may in
    let m = c.self.invariant.mirrors may.going in
    let v = seen c.self.inside.journal c.self.inside.opts c.self.inside.input.items in
    let known = steps.run_known _ _ _ _ _ _ _ _ _ _ _ m w.processor w.task may.runs in
    let u = c.count-child.result in
    let is : u ≡ task_count v.journal = c.count-child.ensures ∙ m.events_are.known in
    let small = c.if-count.false in
    let first = c.count.ensures in
    let again = c.count-child.ensures in
    let few : u < TASKS = omega arith in
    let at = subst (λ (s : Seen). IsAt w.task c.args.object s.journal) (sym c.self.view_is) c.requires.at in
    let alone = subst (λ (s : Seen). owner c.args.object s.journal ≡ []) (sym c.self.view_is) c.requires.unowned in
    let one = one_inside v.journal c.args.object w.task m.sound at.inside in
    let row = requests.spawn_row v w.processor w.task w.ticks w.line c.args.object u is few in
    let legal = (asks.can_first v w.processor w.task w.ticks w.line (ask.Spawn c.args.object) (asking kind.Spawn w.processor w.task (cost w.ticks w.line) c.args.object (pos u) (pos 0)) [] m.sound may (at, alone) row known).legal in
    making.creator_placed _ _ _ _ _ _ _ _ _ _ _ m w.processor w.task (cost w.ticks w.line) c.args.object u is few may.runs one at.known.made alone legal

pub ready-requires-clause-placed : goal.ready-requires-clause-placed
ready-requires-clause-placed c =
    let w = c.args.who in
    let may = subst (λ (s : Seen). MayAct s w.processor w.task) (sym c.self.view_is) c.requires.may in
    let m = c.self.invariant.mirrors may.going in
    let v = seen c.self.inside.journal c.self.inside.opts c.self.inside.input.items in
    let known = steps.run_known _ _ _ _ _ _ _ _ _ _ _ m w.processor w.task may.runs in
    let u = c.count-child.result in
    let is : u ≡ task_count v.journal = c.count-child.ensures ∙ m.events_are.known in
    let small = c.if-count.false in
    let first = c.count.ensures in
    let again = c.count-child.ensures in
    let few : u < TASKS = omega arith in
    let at = subst (λ (s : Seen). IsAt w.task c.args.object s.journal) (sym c.self.view_is) c.requires.at in
    let alone = subst (λ (s : Seen). owner c.args.object s.journal ≡ []) (sym c.self.view_is) c.requires.unowned in
    let one = one_inside v.journal c.args.object w.task m.sound at.inside in
    let row = requests.spawn_row v w.processor w.task w.ticks w.line c.args.object u is few in
    let legal = (asks.can_first v w.processor w.task w.ticks w.line (ask.Spawn c.args.object) (asking kind.Spawn w.processor w.task (cost w.ticks w.line) c.args.object (pos u) (pos 0)) [] m.sound may (at, alone) row known).legal in
    subst (IsPlaced u) (sym c.add_task.ensures) (making.child_placed _ _ _ _ _ _ _ _ _ _ _ m w.processor w.task (cost w.ticks w.line) c.args.object u is few may.runs one at.known.made alone legal)

pub ready-requires-clause-unready : goal.ready-requires-clause-unready
ready-requires-clause-unready c =
    let w = c.args.who in
    let may = subst (λ (s : Seen). MayAct s w.processor w.task) (sym c.self.view_is) c.requires.may in
    let m = c.self.invariant.mirrors may.going in
    let v = seen c.self.inside.journal c.self.inside.opts c.self.inside.input.items in
    let known = steps.run_known _ _ _ _ _ _ _ _ _ _ _ m w.processor w.task may.runs in
    let u = c.count-child.result in
    let is : u ≡ task_count v.journal = c.count-child.ensures ∙ m.events_are.known in
    let small = c.if-count.false in
    let first = c.count.ensures in
    let again = c.count-child.ensures in
    let few : u < TASKS = omega arith in
    let at = subst (λ (s : Seen). IsAt w.task c.args.object s.journal) (sym c.self.view_is) c.requires.at in
    let alone = subst (λ (s : Seen). owner c.args.object s.journal ≡ []) (sym c.self.view_is) c.requires.unowned in
    let one = one_inside v.journal c.args.object w.task m.sound at.inside in
    let row = requests.spawn_row v w.processor w.task w.ticks w.line c.args.object u is few in
    let legal = (asks.can_first v w.processor w.task w.ticks w.line (ask.Spawn c.args.object) (asking kind.Spawn w.processor w.task (cost w.ticks w.line) c.args.object (pos u) (pos 0)) [] m.sound may (at, alone) row known).legal in
    subst (IsUnready u) (sym c.add_task.ensures) (making.child_unready _ _ _ _ _ _ _ _ _ _ _ m w.processor w.task (cost w.ticks w.line) c.args.object u is few may.runs one at.known.made alone legal)

pub invariant_of-self-2 : goal.invariant_of-self-2
invariant_of-self-2 c =
    let w = c.args.who in
    let may = subst (λ (s : Seen). MayAct s w.processor w.task) (sym c.self.view_is) c.requires.may in
    let m = c.self.invariant.mirrors may.going in
    let v = seen c.self.inside.journal c.self.inside.opts c.self.inside.input.items in
    let known = steps.run_known _ _ _ _ _ _ _ _ _ _ _ m w.processor w.task may.runs in
    let u = c.count-child.result in
    let is : u ≡ task_count v.journal = c.count-child.ensures ∙ m.events_are.known in
    let small = c.if-count.false in
    let first = c.count.ensures in
    let again = c.count-child.ensures in
    let few : u < TASKS = omega arith in
    let at = subst (λ (s : Seen). IsAt w.task c.args.object s.journal) (sym c.self.view_is) c.requires.at in
    let alone = subst (λ (s : Seen). owner c.args.object s.journal ≡ []) (sym c.self.view_is) c.requires.unowned in
    let one = one_inside v.journal c.args.object w.task m.sound at.inside in
    let row = requests.spawn_row v w.processor w.task w.ticks w.line c.args.object u is few in
    let legal = (asks.can_first v w.processor w.task w.ticks w.line (ask.Spawn c.args.object) (asking kind.Spawn w.processor w.task (cost w.ticks w.line) c.args.object (pos u) (pos 0)) [] m.sound may (at, alone) row known).legal in
    let old = c.self.invariant in
    let more_waits = le-max_right c.self.inside.conditions.tasks (u + 1) in
    let waits = c.in_ok-reserve.ensures.tasks in
    let waits_room : u + 1 ≤ c.reserve.new.self.tasks = omega arith in
    let waits_tasks : task_count v.journal ≤ c.reserve.new.self.tasks = omega arith in
    let more_objects = le-max_left c.self.inside.conditions.objects 0 in
    let objects = c.in_ok-reserve.ensures.objects in
    let objects_known = m.waits_are.known in
    let most : object_count v.journal ≤ c.reserve.new.self.objects = omega arith in
    let doors_room = c.in_ok-reserve-2.ensures.known in
    let doors_tasks : task_count v.journal ≤ c.reserve-2.new.self.tasks = omega arith in
    let kept = making.m_roomed _ _ _ _ _ _ _ _ _ _ _ m c.reserve.new.self waits_tasks most c.in_ok-reserve.ensures.same c.reserve-2.new.self c.in_ok-reserve-2.ensures.same doors_tasks in
    let events = making.one_longer c.self.inside.events u c.count-child.ensures c.reserve-3.new.self c.in_ok-reserve-3.ensures.ok in
    record {
      mirrors = λ _. rw (c.push.ensures, c.object_entry.ensures, c.hand_on.ensures, c.ready.ensures, c.add_task.ensures, events) (making.m_spawn _ _ _ _ _ _ _ _ _ _ _ kept w.processor w.task (cost w.ticks w.line) c.args.object u is few may.runs one at.known.made alone legal doors_room waits_room);
      space = rw c.push.ensures old.space;
      tasks = rw c.push.ensures old.tasks;
    }
