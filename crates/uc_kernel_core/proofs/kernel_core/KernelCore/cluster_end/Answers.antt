use Rattle.std.proofs.Common.{◌<◌, ◌∷◌, [], refl, sym, ap, ◌∙◌, subst}
use Rattle.std.specs.Prelude.{pos}
use Rattle.uc_acts.specs.Acts.{fault, or_fault}
use Rattle.uc_acts.specs.Journal.{is_over, is_ending, asking, cost}
use Rattle.uc_acts.specs.Queues.{cluster_count}
use Rattle.uc_entry.specs.declared.entry.EntryKind.TheVariants as kind
use Rattle.uc_entry.specs.declared.request.Request.TheVariants as ask
use Rattle.uc_kernel_journal.specs.JournalSums.{Told}
use Rattle.uc_kernel_journal.proofs.Tellings.{over_push}
use Rattle.uc_kernel_core.specs.Mirrors.{MayAct, Seen, Appended, seen, rows}
use Rattle.uc_kernel_core.proofs.Asks as asks
use Rattle.uc_kernel_core.proofs.Steps as steps
use Rattle.uc_kernel_core.proofs.Requests as requests
use Rattle.uc_kernel_core.proofs.kernel_core.KernelCore.cluster_end.Goals as goal

pub invariant_of-self : goal.invariant_of-self
invariant_of-self c =
    let w = c.args.who in
    let may = subst (λ (s : Seen). MayAct s w.processor w.task) (sym c.self.view_is) c.requires.may in
    let m = c.self.invariant.mirrors may.going in
    let v = seen c.self.inside.journal c.self.inside.opts c.self.inside.input.items in
    let known = steps.run_known _ _ _ _ _ _ _ _ _ _ _ m w.processor w.task may.runs in
    let fits = subst (λ (s : Seen). c.args.cluster < cluster_count s.journal) (sym c.self.view_is) c.requires.known in
    let old = c.self.invariant in
    let legal = (asks.can_first v w.processor w.task w.ticks w.line (ask.ClusterEnd c.args.cluster) (asking kind.ClusterEnd w.processor w.task (cost w.ticks w.line) 0 (pos c.args.cluster) (pos 0)) [] m.sound may fits (requests.cluster_end_row v w.processor w.task w.ticks w.line c.args.cluster c.self.inside.clusters c.close_cluster.result m.clusters_are c.close_cluster.ensures.value ∙ ap (λ b. or_fault b (asking kind.ClusterEnd w.processor w.task (cost w.ticks w.line) 0 (pos c.args.cluster) (pos 0)) (fault w.processor w.task (cost w.ticks w.line) 10 w.line)) c.if-close_cluster.true) known).legal in
    record {
      mirrors = λ _. rw (c.push.ensures, c.number_entry.ensures, c.close_cluster.ensures.same) (steps.m_quiet _ _ _ _ _ _ _ _ _ _ _ m (asking kind.ClusterEnd w.processor w.task (cost w.ticks w.line) 0 (pos c.args.cluster) (pos 0)) legal refl);
      space = rw c.push.ensures old.space;
      tasks = rw c.push.ensures old.tasks;
    }

pub invariant_of-self-else-close_cluster : goal.invariant_of-self-else-close_cluster
invariant_of-self-else-close_cluster c =
    let w = c.args.who in
    let may = subst (λ (s : Seen). MayAct s w.processor w.task) (sym c.self.view_is) c.requires.may in
    let m = c.self.invariant.mirrors may.going in
    let v = seen c.self.inside.journal c.self.inside.opts c.self.inside.input.items in
    let known = steps.run_known _ _ _ _ _ _ _ _ _ _ _ m w.processor w.task may.runs in
    let old = c.self.invariant in
    record {
      mirrors = λ h. over_push c.self.inside.journal.journal c.fault_entry.result (ap (λ e. is_ending e.kind) c.fault_entry.ensures) (sym (ap (λ (v : Told). is_over v.journal) c.push-else-close_cluster.ensures) ∙ h);
      space = rw c.push-else-close_cluster.ensures old.space;
      tasks = rw c.push-else-close_cluster.ensures old.tasks;
    }

pub returns-then-close_cluster : goal.returns-then-close_cluster
returns-then-close_cluster c =
    let w = c.args.who in
    let may = subst (λ (s : Seen). MayAct s w.processor w.task) (sym c.self.view_is) c.requires.may in
    let m = c.self.invariant.mirrors may.going in
    let v = seen c.self.inside.journal c.self.inside.opts c.self.inside.input.items in
    let known = steps.run_known _ _ _ _ _ _ _ _ _ _ _ m w.processor w.task may.runs in
    subst (λ (s : Seen). Appended s (seen c.push.new.self c.self.inside.opts c.self.inside.input.items) (rows s w.processor w.task w.ticks w.line (ask.ClusterEnd c.args.cluster))) c.self.view_is (asks.told_rows c.self.inside.journal c.push.new.self c.self.inside.opts c.self.inside.input.items c.number_entry.result _ c.push.ensures (requests.one_row v w.processor w.task w.ticks w.line (ask.ClusterEnd c.args.cluster) _ (requests.cluster_end_row v w.processor w.task w.ticks w.line c.args.cluster c.self.inside.clusters c.close_cluster.result m.clusters_are c.close_cluster.ensures.value ∙ ap (λ b. or_fault b (asking kind.ClusterEnd w.processor w.task (cost w.ticks w.line) 0 (pos c.args.cluster) (pos 0)) (fault w.processor w.task (cost w.ticks w.line) 10 w.line)) c.if-close_cluster.true) refl ∙ ap (λ e. e ∷ []) (sym c.number_entry.ensures)))

pub returns-else-close_cluster : goal.returns-else-close_cluster
returns-else-close_cluster c =
    let w = c.args.who in
    let may = subst (λ (s : Seen). MayAct s w.processor w.task) (sym c.self.view_is) c.requires.may in
    let m = c.self.invariant.mirrors may.going in
    let v = seen c.self.inside.journal c.self.inside.opts c.self.inside.input.items in
    let known = steps.run_known _ _ _ _ _ _ _ _ _ _ _ m w.processor w.task may.runs in
    subst (λ (s : Seen). Appended s (seen c.push-else-close_cluster.new.self c.self.inside.opts c.self.inside.input.items) (rows s w.processor w.task w.ticks w.line (ask.ClusterEnd c.args.cluster))) c.self.view_is (asks.told_rows c.self.inside.journal c.push-else-close_cluster.new.self c.self.inside.opts c.self.inside.input.items c.fault_entry.result _ c.push-else-close_cluster.ensures (requests.one_row v w.processor w.task w.ticks w.line (ask.ClusterEnd c.args.cluster) _ (requests.cluster_end_row v w.processor w.task w.ticks w.line c.args.cluster c.self.inside.clusters c.close_cluster.result m.clusters_are c.close_cluster.ensures.value ∙ ap (λ b. or_fault b (asking kind.ClusterEnd w.processor w.task (cost w.ticks w.line) 0 (pos c.args.cluster) (pos 0)) (fault w.processor w.task (cost w.ticks w.line) 10 w.line)) c.if-close_cluster.false ∙ ap (λ n. fault w.processor w.task (cost w.ticks w.line) n w.line ∷ []) (sym c.number-fault.ensures)) refl ∙ ap (λ e. e ∷ []) (sym c.fault_entry.ensures)))
