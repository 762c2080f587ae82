use Rattle.std.proofs.Common.{◌≡◌, ◌<◌, [], sym, ap, ◌∙◌, subst, length}
use Rattle.std.specs.Prelude.{pos}
use Rattle.uc_tree.specs.declared.limits.TheConstants.{PROCESSORS}
use Rattle.uc_acts.specs.Journal.{is_over, is_ending, asking, cost}
use Rattle.uc_acts.specs.Queues.{cluster_count}
use Rattle.uc_entry.specs.declared.entry.EntryKind.TheVariants as kind
use Rattle.uc_entry.specs.declared.request.Request.TheVariants as ask
use Rattle.uc_cluster.specs.Standing.{one_more_processor}
use Rattle.uc_kernel_journal.specs.JournalSums.{Told}
use Rattle.uc_kernel_journal.proofs.Tellings.{over_push}
use Rattle.uc_kernel_core.specs.Mirrors.{MayAct, Seen, seen}
use Rattle.uc_kernel_core.proofs.Asks as asks
use Rattle.uc_kernel_core.proofs.Steps as steps
use Rattle.uc_kernel_core.proofs.Stands as stands
use Rattle.uc_kernel_core.proofs.Requests as requests
use Rattle.uc_kernel_core.proofs.kernel_core.KernelCore.processor.Goals as goal

pub invariant_of-self : goal.invariant_of-self
invariant_of-self c =
    let w = c.args.who in
    let may = subst (λ (s : Seen). MayAct s w.processor w.task) (sym c.self.view_is) c.requires.may in
    let m = c.self.invariant.mirrors may.going in
    let v = seen c.self.inside.journal c.self.inside.opts c.self.inside.input.items in
    let known = steps.run_known _ _ _ _ _ _ _ _ _ _ _ m w.processor w.task may.runs in
    let old = c.self.invariant in
    record {
      mirrors = λ h. over_push c.self.inside.journal.journal c.fault_entry.result (ap (λ e. is_ending e.kind) c.fault_entry.ensures) (sym (ap (λ (v : Told). is_over v.journal) c.push.ensures) ∙ h);
      space = rw c.push.ensures old.space;
      tasks = rw c.push.ensures old.tasks;
    }

pub invariant_of-self-in-Some : goal.invariant_of-self-in-Some
invariant_of-self-in-Some c =
    let w = c.args.who in
    let may = subst (λ (s : Seen). MayAct s w.processor w.task) (sym c.self.view_is) c.requires.may in
    let m = c.self.invariant.mirrors may.going in
    let v = seen c.self.inside.journal c.self.inside.opts c.self.inside.input.items in
    let known = steps.run_known _ _ _ _ _ _ _ _ _ _ _ m w.processor w.task may.runs in
    let fits = subst (λ (s : Seen). c.args.cluster < cluster_count s.journal) (sym c.self.view_is) c.requires.known in
    let old = c.self.invariant in
    let now : c.add_processor.new.self ≡ one_more_processor c.args.cluster c.self.inside.clusters = c.add_processor.ensures.standing ∙ requests.number_more PROCESSORS c.in-Some.number (length c.self.inside.clusters.processors) (one_more_processor c.args.cluster c.self.inside.clusters) c.self.inside.clusters (sym c.in-Some.is ∙ c.add_processor.ensures.value) in
    let legal = (asks.can_first v w.processor w.task w.ticks w.line (ask.Processor c.args.cluster) (asking kind.Processor w.processor w.task (cost w.ticks w.line) 0 (pos c.in-Some.number) (pos c.args.cluster)) [] m.sound may fits (requests.processor_row v w.processor w.task w.ticks w.line c.args.cluster c.in-Some.number _ (sym c.in-Some.is ∙ c.add_processor.ensures.value) m.clusters_are.desks.counted) known).legal in
    let next = requests.number_is PROCESSORS c.in-Some.number (length c.self.inside.clusters.processors) (sym c.in-Some.is ∙ c.add_processor.ensures.value) in
    record {
      mirrors = λ _. rw (c.push-in-Some.ensures, c.number_entry.ensures, now) (stands.m_processor _ _ _ _ _ _ _ _ _ _ _ m w.processor w.task (cost w.ticks w.line) c.in-Some.number c.args.cluster next legal);
      space = rw c.push-in-Some.ensures old.space;
      tasks = rw c.push-in-Some.ensures old.tasks;
    }
