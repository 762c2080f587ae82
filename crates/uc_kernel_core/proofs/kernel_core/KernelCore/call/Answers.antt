use Rattle.std.proofs.Common.{◌==◌, ◌∙◌, ◌∷◌, [], sym, ap, subst, arith, length-set}
use Rattle.uc_acts.specs.Journal.{is_ending, no_cost, cost}
use Rattle.uc_acts.specs.Acts.{admit, fault, push}
use Rattle.uc_acts.specs.KernelRuns.{IsOutside}
use Rattle.uc_entry.specs.declared.request.Request.TheVariants as ask
use Rattle.uc_cluster.specs.Standing.{IsPlaced, IsUnready}
use Rattle.uc_kernel_core.specs.Mirrors.{MayAct, Seen, seen, Appended, rows}
use Rattle.uc_kernel_core.proofs.Asks as asks
use Rattle.uc_kernel_core.proofs.Fronts as fronts
use Rattle.uc_kernel_core.proofs.Letting as letting
use Rattle.uc_kernel_core.proofs.Outcomes as outcomes
use Rattle.uc_kernel_core.proofs.Several as several
use Rattle.uc_kernel_core.proofs.Steps as steps
use Rattle.uc_kernel_core.proofs.kernel_core.KernelCore.call.Goals as goal

pub call-called-requires-clause-free : goal.call-called-requires-clause-free
call-called-requires-clause-free c =
    let w = c.args.who in
    let may = subst (λ (s : Seen). MayAct s w.processor w.task) (sym c.self.view_is) c.requires.may in
    let out = subst (λ (s : Seen). IsOutside w.task c.args.object s.journal) (sym c.self.view_is) c.requires.outside in
    let m = c.self.invariant.mirrors may.going in
    fronts.run_free _ _ _ _ _ _ _ _ _ _ _ m w.processor w.task may.runs

pub call-called-requires-clause-task : goal.call-called-requires-clause-task
call-called-requires-clause-task c =
    let w = c.args.who in
    let may = subst (λ (s : Seen). MayAct s w.processor w.task) (sym c.self.view_is) c.requires.may in
    steps.run_seated _ _ _ _ _ _ _ _ _ _ _ (c.self.invariant.mirrors may.going) w.processor w.task may.runs

pub invariant_of-self : goal.invariant_of-self
invariant_of-self c =
    let w = c.args.who in
    let may = subst (λ (s : Seen). MayAct s w.processor w.task) (sym c.self.view_is) c.requires.may in
    let out = subst (λ (s : Seen). IsOutside w.task c.args.object s.journal) (sym c.self.view_is) c.requires.outside in
    let m = c.self.invariant.mirrors may.going in
    let e = sym c.in-Waits.is ∙ c.call-called.ensures.value in
    let old = c.self.invariant in
    record {
      mirrors = λ _. rw (c.push.ensures, c.call_entry.ensures, c.free.ensures, c.from.ensures) (outcomes.waits_mirrors _ _ _ _ _ _ _ _ _ _ _ m c.self.inside.input.items w.processor w.task (cost w.ticks w.line) w.line c.args.object c.args.member may.runs out c.requires.member e c.call-called.new.self c.call-called.ensures.door);
      space = rw (c.push.ensures) old.space;
      tasks = rw (c.push.ensures) old.tasks;
    }

pub push-requires-then-destroys_busy-clause-going : goal.push-requires-then-destroys_busy-clause-going
push-requires-then-destroys_busy-clause-going c =
    let w = c.args.who in
    let may = subst (λ (s : Seen). MayAct s w.processor w.task) (sym c.self.view_is) c.requires.may in
    let out = subst (λ (s : Seen). IsOutside w.task c.args.object s.journal) (sym c.self.view_is) c.requires.outside in
    let m = c.self.invariant.mirrors may.going in
    several.told_going c.self.inside.journal c.push.new.self c.call_entry.result c.push.ensures may.going (ap (λ e. is_ending e.kind) c.call_entry.ensures)

pub invariant_of-self-then-destroys_busy : goal.invariant_of-self-then-destroys_busy
invariant_of-self-then-destroys_busy c =
    let old = c.self.invariant in
    record {
      mirrors = λ h. several.over_after c.push.new.self c.push-then-destroys_busy.new.self c.busy_entry.result c.push-then-destroys_busy.ensures (ap (λ e. is_ending e.kind) c.busy_entry.ensures) h;
      space = rw (c.push-then-destroys_busy.ensures, c.push.ensures) old.space;
      tasks = rw (c.push-then-destroys_busy.ensures, c.push.ensures) old.tasks;
    }

pub returns-then-destroys_busy : goal.returns-then-destroys_busy
returns-then-destroys_busy c =
    let w = c.args.who in
    let may = subst (λ (s : Seen). MayAct s w.processor w.task) (sym c.self.view_is) c.requires.may in
    let out = subst (λ (s : Seen). IsOutside w.task c.args.object s.journal) (sym c.self.view_is) c.requires.outside in
    let m = c.self.invariant.mirrors may.going in
    let e = sym c.in-In.is ∙ c.call-called.ensures.value in
    let row = outcomes.entered_cut _ _ _ _ _ _ _ _ _ _ _ m c.self.inside.input.items w.processor w.task (cost w.ticks w.line) w.line c.args.object c.args.member may.runs out c.requires.member c.in-In.way e c.call-called.new.self c.call-called.ensures.door (c.destroys_busy.ensures.yes c.if-destroys_busy.true) in
    let f = fault w.processor w.task no_cost 10 w.line in
    let same = row ∙ ap (λ x. x ∷ f ∷ []) (sym c.call_entry.ensures) ∙ ap (λ y. c.call_entry.result ∷ y ∷ []) (sym c.busy_entry.ensures) in
    subst (λ (s : Seen). Appended s (seen c.push-then-destroys_busy.new.self c.self.inside.opts c.self.inside.input.items) (rows s w.processor w.task w.ticks w.line (ask.Call c.args.object c.args.member))) c.self.view_is (several.told_two c.self.inside.journal c.push.new.self c.push-then-destroys_busy.new.self c.self.inside.opts c.self.inside.input.items c.call_entry.result c.busy_entry.result _ c.push.ensures c.push-then-destroys_busy.ensures same)

pub push-requires-in-In-clause-going : goal.push-requires-in-In-clause-going
push-requires-in-In-clause-going c =
    let w = c.args.who in
    let may = subst (λ (s : Seen). MayAct s w.processor w.task) (sym c.self.view_is) c.requires.may in
    let out = subst (λ (s : Seen). IsOutside w.task c.args.object s.journal) (sym c.self.view_is) c.requires.outside in
    let m = c.self.invariant.mirrors may.going in
    several.told_going c.self.inside.journal c.push.new.self c.call_entry.result c.push.ensures may.going (ap (λ e. is_ending e.kind) c.call_entry.ensures)

pub invariant_of-self-in-In : goal.invariant_of-self-in-In
invariant_of-self-in-In c =
    let w = c.args.who in
    let may = subst (λ (s : Seen). MayAct s w.processor w.task) (sym c.self.view_is) c.requires.may in
    let out = subst (λ (s : Seen). IsOutside w.task c.args.object s.journal) (sym c.self.view_is) c.requires.outside in
    let m = c.self.invariant.mirrors may.going in
    let e = sym c.in-In.is ∙ c.call-called.ensures.value in
    let n = outcomes.entered _ _ _ _ _ _ _ _ _ _ _ m c.self.inside.input.items w.processor w.task (cost w.ticks w.line) w.line c.args.object c.args.member may.runs out c.requires.member c.in-In.way e c.call-called.new.self c.call-called.ensures.door in
    let old = c.self.invariant in
    record {
      mirrors = λ _. rw (c.push-in-In.ensures, c.admit_entry.ensures, c.push.ensures, c.call_entry.ensures) n.mirrors;
      space = rw (c.push-in-In.ensures, c.push.ensures) old.space;
      tasks = rw (c.push-in-In.ensures, c.push.ensures) old.tasks;
    }

pub returns-else-destroys_busy : goal.returns-else-destroys_busy
returns-else-destroys_busy c =
    let w = c.args.who in
    let may = subst (λ (s : Seen). MayAct s w.processor w.task) (sym c.self.view_is) c.requires.may in
    let out = subst (λ (s : Seen). IsOutside w.task c.args.object s.journal) (sym c.self.view_is) c.requires.outside in
    let m = c.self.invariant.mirrors may.going in
    let e = sym c.in-In.is ∙ c.call-called.ensures.value in
    let row = outcomes.entered_kept _ _ _ _ _ _ _ _ _ _ _ m c.self.inside.input.items w.processor w.task (cost w.ticks w.line) w.line c.args.object c.args.member may.runs out c.requires.member c.in-In.way e c.call-called.new.self c.call-called.ensures.door (c.destroys_busy.ensures.no c.if-destroys_busy.false) in
    let same = row ∙ ap (λ x. x ∷ admit w.processor w.task c.args.object c.in-In.way 0 ∷ []) (sym c.call_entry.ensures) ∙ ap (λ y. c.call_entry.result ∷ y ∷ []) (sym c.admit_entry.ensures) in
    subst (λ (s : Seen). Appended s (seen c.push-in-In.new.self c.self.inside.opts c.self.inside.input.items) (rows s w.processor w.task w.ticks w.line (ask.Call c.args.object c.args.member))) c.self.view_is (several.told_two c.self.inside.journal c.push.new.self c.push-in-In.new.self c.self.inside.opts c.self.inside.input.items c.call_entry.result c.admit_entry.result _ c.push.ensures c.push-in-In.ensures same)

pub index-mark-requires : goal.index-mark-requires
index-mark-requires c =
    let w = c.args.who in
    let may = subst (λ (s : Seen). MayAct s w.processor w.task) (sym c.self.view_is) c.requires.may in
    let out = subst (λ (s : Seen). IsOutside w.task c.args.object s.journal) (sym c.self.view_is) c.requires.outside in
    let m = c.self.invariant.mirrors may.going in
    let e = sym c.in-Pushed.is ∙ c.call-called.ensures.value in
    let known = outcomes.acceptor_known _ _ _ _ _ _ _ _ _ _ _ m c.self.inside.input.items w.processor w.task (cost w.ticks w.line) w.line c.args.object c.args.member may.runs out c.requires.member c.in-Pushed.acceptor c.in-Pushed.clause e c.call-called.new.self c.call-called.ensures.door in
    let few = m.few in
    let size = m.marks_are.tasks in
    omega (arith, length-set c.self.inside.marks.items w.task (c.args.member == 0))

pub push-requires-then-mark-clause-going : goal.push-requires-then-mark-clause-going
push-requires-then-mark-clause-going c =
    let w = c.args.who in
    let may = subst (λ (s : Seen). MayAct s w.processor w.task) (sym c.self.view_is) c.requires.may in
    let out = subst (λ (s : Seen). IsOutside w.task c.args.object s.journal) (sym c.self.view_is) c.requires.outside in
    let m = c.self.invariant.mirrors may.going in
    several.told_going c.self.inside.journal c.push.new.self c.call_entry.result c.push.ensures may.going (ap (λ e. is_ending e.kind) c.call_entry.ensures)

pub invariant_of-self-then-mark : goal.invariant_of-self-then-mark
invariant_of-self-then-mark c =
    let old = c.self.invariant in
    record {
      mirrors = λ h. several.over_after c.push.new.self c.push-then-mark.new.self c.busy_entry-then-mark.result c.push-then-mark.ensures (ap (λ e. is_ending e.kind) c.busy_entry-then-mark.ensures) h;
      space = rw (c.push-then-mark.ensures, c.push.ensures) old.space;
      tasks = rw (c.push-then-mark.ensures, c.push.ensures) old.tasks;
    }

pub returns-then-mark : goal.returns-then-mark
returns-then-mark c =
    let w = c.args.who in
    let may = subst (λ (s : Seen). MayAct s w.processor w.task) (sym c.self.view_is) c.requires.may in
    let out = subst (λ (s : Seen). IsOutside w.task c.args.object s.journal) (sym c.self.view_is) c.requires.outside in
    let m = c.self.invariant.mirrors may.going in
    let e = sym c.in-Pushed.is ∙ c.call-called.ensures.value in
    let row = outcomes.passed_cut _ _ _ _ _ _ _ _ _ _ _ m c.self.inside.input.items w.processor w.task (cost w.ticks w.line) w.line c.args.object c.args.member may.runs out c.requires.member c.in-Pushed.acceptor c.in-Pushed.clause e c.call-called.new.self c.call-called.ensures.door c.index-mark.result.now _ c.index-mark.ensures c.if-mark.true in
    let f = fault w.processor w.task no_cost 10 w.line in
    let same = row ∙ ap (λ x. x ∷ f ∷ []) (sym c.call_entry.ensures) ∙ ap (λ y. c.call_entry.result ∷ y ∷ []) (sym c.busy_entry-then-mark.ensures) in
    subst (λ (s : Seen). Appended s (seen c.push-then-mark.new.self c.self.inside.opts c.self.inside.input.items) (rows s w.processor w.task w.ticks w.line (ask.Call c.args.object c.args.member))) c.self.view_is (several.told_two c.self.inside.journal c.push.new.self c.push-then-mark.new.self c.self.inside.opts c.self.inside.input.items c.call_entry.result c.busy_entry-then-mark.result _ c.push.ensures c.push-then-mark.ensures same)

pub push-requires-in-Pushed-clause-going : goal.push-requires-in-Pushed-clause-going
push-requires-in-Pushed-clause-going c =
    let w = c.args.who in
    let may = subst (λ (s : Seen). MayAct s w.processor w.task) (sym c.self.view_is) c.requires.may in
    let out = subst (λ (s : Seen). IsOutside w.task c.args.object s.journal) (sym c.self.view_is) c.requires.outside in
    let m = c.self.invariant.mirrors may.going in
    several.told_going c.self.inside.journal c.push.new.self c.call_entry.result c.push.ensures may.going (ap (λ e. is_ending e.kind) c.call_entry.ensures)

pub push-requires-in-Pushed-clause-task : goal.push-requires-in-Pushed-clause-task
push-requires-in-Pushed-clause-task c =
    let w = c.args.who in
    let may = subst (λ (s : Seen). MayAct s w.processor w.task) (sym c.self.view_is) c.requires.may in
    let out = subst (λ (s : Seen). IsOutside w.task c.args.object s.journal) (sym c.self.view_is) c.requires.outside in
    let m = c.self.invariant.mirrors may.going in
    let e = sym c.in-Pushed.is ∙ c.call-called.ensures.value in
    rw (c.admit_entry-in-Pushed.ensures, c.push.ensures, c.self.invariant.tasks) (letting.task_known _ _ _ _ _ _ _ _ _ _ _ m c.args.object out.known.made c.in-Pushed.acceptor (outcomes.acceptor_known _ _ _ _ _ _ _ _ _ _ _ m c.self.inside.input.items w.processor w.task (cost w.ticks w.line) w.line c.args.object c.args.member may.runs out c.requires.member c.in-Pushed.acceptor c.in-Pushed.clause e c.call-called.new.self c.call-called.ensures.door))

pub push-requires-in-Pushed-2-clause-going : goal.push-requires-in-Pushed-2-clause-going
push-requires-in-Pushed-2-clause-going c =
    let w = c.args.who in
    let may = subst (λ (s : Seen). MayAct s w.processor w.task) (sym c.self.view_is) c.requires.may in
    let out = subst (λ (s : Seen). IsOutside w.task c.args.object s.journal) (sym c.self.view_is) c.requires.outside in
    let m = c.self.invariant.mirrors may.going in
    several.told_going c.push.new.self c.push-in-Pushed.new.self c.admit_entry-in-Pushed.result c.push-in-Pushed.ensures (several.told_going c.self.inside.journal c.push.new.self c.call_entry.result c.push.ensures may.going (ap (λ e. is_ending e.kind) c.call_entry.ensures)) (ap (λ e. is_ending e.kind) c.admit_entry-in-Pushed.ensures)

pub free-requires-in-Pushed : goal.free-requires-in-Pushed
free-requires-in-Pushed c =
    let w = c.args.who in
    let may = subst (λ (s : Seen). MayAct s w.processor w.task) (sym c.self.view_is) c.requires.may in
    let out = subst (λ (s : Seen). IsOutside w.task c.args.object s.journal) (sym c.self.view_is) c.requires.outside in
    let m = c.self.invariant.mirrors may.going in
    rw c.from-in-Pushed.ensures (steps.run_processor _ _ _ _ _ _ _ _ _ _ _ m w.processor w.task may.runs)

pub ready-requires-clause-task : goal.ready-requires-clause-task
ready-requires-clause-task c =
    let w = c.args.who in
    let may = subst (λ (s : Seen). MayAct s w.processor w.task) (sym c.self.view_is) c.requires.may in
    let out = subst (λ (s : Seen). IsOutside w.task c.args.object s.journal) (sym c.self.view_is) c.requires.outside in
    let m = c.self.invariant.mirrors may.going in
    let e = sym c.in-Pushed.is ∙ c.call-called.ensures.value in
    rw c.free-in-Pushed.ensures (letting.task_placed _ _ _ _ _ _ _ _ _ _ _ m c.args.object out.known.made c.in-Pushed.acceptor (outcomes.acceptor_known _ _ _ _ _ _ _ _ _ _ _ m c.self.inside.input.items w.processor w.task (cost w.ticks w.line) w.line c.args.object c.args.member may.runs out c.requires.member c.in-Pushed.acceptor c.in-Pushed.clause e c.call-called.new.self c.call-called.ensures.door))

pub ready-requires-clause-placed : goal.ready-requires-clause-placed
ready-requires-clause-placed c =
    let w = c.args.who in
    let may = subst (λ (s : Seen). MayAct s w.processor w.task) (sym c.self.view_is) c.requires.may in
    let out = subst (λ (s : Seen). IsOutside w.task c.args.object s.journal) (sym c.self.view_is) c.requires.outside in
    let m = c.self.invariant.mirrors may.going in
    let e = sym c.in-Pushed.is ∙ c.call-called.ensures.value in
    subst (IsPlaced c.in-Pushed.acceptor) (sym c.free-in-Pushed.ensures) (outcomes.passed_placed _ _ _ _ _ _ _ _ _ _ _ m c.self.inside.input.items w.processor w.task (cost w.ticks w.line) w.line c.args.object c.args.member may.runs out c.requires.member c.in-Pushed.acceptor c.in-Pushed.clause e c.call-called.new.self c.call-called.ensures.door c.index-mark.result.now _ c.index-mark.ensures)

pub ready-requires-clause-unready : goal.ready-requires-clause-unready
ready-requires-clause-unready c =
    let w = c.args.who in
    let may = subst (λ (s : Seen). MayAct s w.processor w.task) (sym c.self.view_is) c.requires.may in
    let out = subst (λ (s : Seen). IsOutside w.task c.args.object s.journal) (sym c.self.view_is) c.requires.outside in
    let m = c.self.invariant.mirrors may.going in
    let e = sym c.in-Pushed.is ∙ c.call-called.ensures.value in
    subst (IsUnready c.in-Pushed.acceptor) (sym c.free-in-Pushed.ensures) (outcomes.passed_unready _ _ _ _ _ _ _ _ _ _ _ m c.self.inside.input.items w.processor w.task (cost w.ticks w.line) w.line c.args.object c.args.member may.runs out c.requires.member c.in-Pushed.acceptor c.in-Pushed.clause e c.call-called.new.self c.call-called.ensures.door c.index-mark.result.now _ c.index-mark.ensures)

pub invariant_of-self-in-Pushed : goal.invariant_of-self-in-Pushed
invariant_of-self-in-Pushed c =
    let w = c.args.who in
    let may = subst (λ (s : Seen). MayAct s w.processor w.task) (sym c.self.view_is) c.requires.may in
    let out = subst (λ (s : Seen). IsOutside w.task c.args.object s.journal) (sym c.self.view_is) c.requires.outside in
    let m = c.self.invariant.mirrors may.going in
    let e = sym c.in-Pushed.is ∙ c.call-called.ensures.value in
    let old = c.self.invariant in
    record {
      mirrors = λ _. rw (c.push-in-Pushed-2.ensures, c.push_entry.ensures, c.push-in-Pushed.ensures, c.admit_entry-in-Pushed.ensures, c.push.ensures, c.call_entry.ensures, c.ready.ensures, c.free-in-Pushed.ensures, c.from-in-Pushed.ensures) (outcomes.passed_mirrors _ _ _ _ _ _ _ _ _ _ _ m c.self.inside.input.items w.processor w.task (cost w.ticks w.line) w.line c.args.object c.args.member may.runs out c.requires.member c.in-Pushed.acceptor c.in-Pushed.clause e c.call-called.new.self c.call-called.ensures.door c.index-mark.result.now _ c.index-mark.ensures);
      space = rw (c.push-in-Pushed-2.ensures, c.push-in-Pushed.ensures, c.push.ensures) old.space;
      tasks = rw (c.push-in-Pushed-2.ensures, c.push-in-Pushed.ensures, c.push.ensures) old.tasks;
    }

pub returns-in-Waits : goal.returns-in-Waits
returns-in-Waits c =
    let w = c.args.who in
    let may = subst (λ (s : Seen). MayAct s w.processor w.task) (sym c.self.view_is) c.requires.may in
    let out = subst (λ (s : Seen). IsOutside w.task c.args.object s.journal) (sym c.self.view_is) c.requires.outside in
    let m = c.self.invariant.mirrors may.going in
    let e = sym c.in-Waits.is ∙ c.call-called.ensures.value in
    let row = outcomes.waits_row _ _ _ _ _ _ _ _ _ _ _ m c.self.inside.input.items w.processor w.task (cost w.ticks w.line) w.line c.args.object c.args.member may.runs out c.requires.member e c.call-called.new.self c.call-called.ensures.door in
    subst (λ (s : Seen). Appended s (seen c.push.new.self c.self.inside.opts c.self.inside.input.items) (rows s w.processor w.task w.ticks w.line (ask.Call c.args.object c.args.member))) c.self.view_is (asks.told_rows c.self.inside.journal c.push.new.self c.self.inside.opts c.self.inside.input.items c.call_entry.result _ c.push.ensures (row ∙ ap (λ x. x ∷ []) (sym c.call_entry.ensures)))

pub returns-else-mark : goal.returns-else-mark
returns-else-mark c =
    let w = c.args.who in
    let may = subst (λ (s : Seen). MayAct s w.processor w.task) (sym c.self.view_is) c.requires.may in
    let out = subst (λ (s : Seen). IsOutside w.task c.args.object s.journal) (sym c.self.view_is) c.requires.outside in
    let m = c.self.invariant.mirrors may.going in
    let e = sym c.in-Pushed.is ∙ c.call-called.ensures.value in
    let row = outcomes.passed_kept _ _ _ _ _ _ _ _ _ _ _ m c.self.inside.input.items w.processor w.task (cost w.ticks w.line) w.line c.args.object c.args.member may.runs out c.requires.member c.in-Pushed.acceptor c.in-Pushed.clause e c.call-called.new.self c.call-called.ensures.door c.index-mark.result.now _ c.index-mark.ensures c.if-mark.false in
    let a = admit w.processor c.in-Pushed.acceptor c.args.object 3 c.in-Pushed.clause in
    let b = push w.processor w.task c.args.object in
    let same = row ∙ ap (λ x. x ∷ a ∷ b ∷ []) (sym c.call_entry.ensures) ∙ ap (λ y. c.call_entry.result ∷ y ∷ b ∷ []) (sym c.admit_entry-in-Pushed.ensures) ∙ ap (λ z. c.call_entry.result ∷ c.admit_entry-in-Pushed.result ∷ z ∷ []) (sym c.push_entry.ensures) in
    subst (λ (s : Seen). Appended s (seen c.push-in-Pushed-2.new.self c.self.inside.opts c.self.inside.input.items) (rows s w.processor w.task w.ticks w.line (ask.Call c.args.object c.args.member))) c.self.view_is (several.told_three c.self.inside.journal c.push.new.self c.push-in-Pushed.new.self c.push-in-Pushed-2.new.self c.self.inside.opts c.self.inside.input.items c.call_entry.result c.admit_entry-in-Pushed.result c.push_entry.result _ c.push.ensures c.push-in-Pushed.ensures c.push-in-Pushed-2.ensures same)
