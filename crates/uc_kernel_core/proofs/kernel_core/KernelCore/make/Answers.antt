use Rattle.std.proofs.Common.{◌≡◌, ◌≤◌, ◌<◌, ◌+◌, ◌∷◌, ◌++◌, [], false, None, List, Option, ℕ, Bool, sym, ap, ◌∙◌, subst, arith}
use Rattle.std.specs.Prelude.{pos}
use Rattle.std.proofs.Math.Nat.{le-max_left, le-max_right}
use Rattle.uc_tree.specs.declared.limits.TheConstants.{OBJECTS}
use Rattle.uc_acts.specs.Journal.{asking, cost}
use Rattle.uc_acts.specs.Known.{object_count, task_count}
use Rattle.uc_entry.specs.declared.entry.EntryKind.TheVariants as kind
use Rattle.uc_entry.specs.declared.request.Request.TheVariants as ask
use Rattle.uc_kernel_core.specs.Mirrors.{MayAct, Seen, seen}
use Rattle.uc_kernel_core.proofs.Asks as asks
use Rattle.uc_kernel_core.proofs.Steps as steps
use Rattle.uc_kernel_core.proofs.Making as making
use Rattle.uc_kernel_core.proofs.Requests as requests
use Rattle.uc_kernel_core.proofs.kernel_core.KernelCore.make.Goals as goal

pub invariant_of-self-2 : goal.invariant_of-self-2
invariant_of-self-2 c =
    let w = c.args.who in
    let may = subst (λ (s : Seen). MayAct s w.processor w.task) (sym c.self.view_is) c.requires.may in
    let m = c.self.invariant.mirrors may.going in
    let v = seen c.self.inside.journal c.self.inside.opts c.self.inside.input.items in
    let known = steps.run_known _ _ _ _ _ _ _ _ _ _ _ m w.processor w.task may.runs in
    let old = c.self.invariant in
    let n = c.len-object.result in
    let ok = c.self.inside.inside_marks.ok in
    let counted = m.marks_are.objects in
    let again = c.len-object.ensures in
    let is : n ≡ object_count v.journal = omega arith in
    let small = c.if-len.false in
    let first = c.len.ensures in
    let again = c.len-object.ensures in
    let lt : n < OBJECTS = omega arith in
    let row = requests.make_row v w.processor w.task w.ticks w.line c.args.class n is lt in
    let legal = (asks.can_first v w.processor w.task w.ticks w.line (ask.Make c.args.class) (asking kind.Make w.processor w.task (cost w.ticks w.line) n (pos c.args.class) (pos 0)) [] m.sound may tt row known).legal in
    let kept_tasks = le-max_left c.self.inside.conditions.tasks 0 in
    let tasks = c.in_ok-reserve.ensures.tasks in
    let enough = m.waits_are.pool in
    let pool : task_count v.journal ≤ c.reserve.new.self.tasks = omega arith in
    let more = le-max_right c.self.inside.conditions.objects (n + 1) in
    let objects = c.in_ok-reserve.ensures.objects in
    let room : object_count v.journal + 1 ≤ c.reserve.new.self.objects = omega arith in
    let most : object_count v.journal ≤ c.reserve.new.self.objects = omega arith in
    let kept = making.m_reserved _ _ _ _ _ _ _ _ _ _ _ m c.reserve.new.self pool most c.in_ok-reserve.ensures.same in
    let ins : c.push_reserved-2.new.self.items ≡ c.self.inside.inside_marks.items ++ false ∷ [] = c.push_reserved-2.ensures.items ∙ ap (λ (l : List Bool). l ++ false ∷ []) c.reserve-3.ensures.items in
    let owners : c.push_reserved.new.self.items ≡ c.self.inside.owners.items ++ None ∷ [] = c.push_reserved.ensures.items ∙ ap (λ (l : List (Option ℕ)). l ++ None ∷ []) c.reserve-2.ensures.items in
    record {
      mirrors = λ _. rw (c.push.ensures, c.object_entry.ensures, c.in_ok-add_object.ensures.added, ins, owners) (making.m_make _ _ _ _ _ _ _ _ _ _ _ kept w.processor w.task (cost w.ticks w.line) n c.args.class is legal room);
      space = rw c.push.ensures old.space;
      tasks = rw c.push.ensures old.tasks;
    }
