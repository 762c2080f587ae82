use Rattle.std.proofs.Common.{◌<◌, ◌∷◌, [], refl, sym, ap, ◌∙◌, subst, length}
use Rattle.std.specs.Prelude.{pos}
use Rattle.uc_acts.specs.Journal.{asking, cost}
use Rattle.uc_acts.specs.Queues.{processor_count}
use Rattle.uc_entry.specs.declared.entry.EntryKind.TheVariants as kind
use Rattle.uc_entry.specs.declared.request.Request.TheVariants as ask
use Rattle.uc_kernel_core.specs.Mirrors.{MayAct, Seen, Appended, seen, rows}
use Rattle.uc_kernel_core.proofs.Asks as asks
use Rattle.uc_kernel_core.proofs.Steps as steps
use Rattle.uc_kernel_core.proofs.Stands as stands
use Rattle.uc_kernel_core.proofs.Requests as requests
use Rattle.uc_kernel_core.proofs.kernel_core.KernelCore.processor_end.Goals as goal

pub invariant_of-self : goal.invariant_of-self
invariant_of-self c =
    let w = c.args.who in
    let may = subst (λ (s : Seen). MayAct s w.processor w.task) (sym c.self.view_is) c.requires.may in
    let m = c.self.invariant.mirrors may.going in
    let v = seen c.self.inside.journal c.self.inside.opts c.self.inside.input.items in
    let known = steps.run_known _ _ _ _ _ _ _ _ _ _ _ m w.processor w.task may.runs in
    let fits = subst (λ (s : Seen). c.args.processor < processor_count s.opts s.journal) (sym c.self.view_is) c.requires.known in
    let there : c.args.processor < length c.self.inside.clusters.processors = rw m.clusters_are.desks.counted fits in
    let old = c.self.invariant in
    let legal = (asks.can_first v w.processor w.task w.ticks w.line (ask.ProcessorEnd c.args.processor) (asking kind.ProcessorEnd w.processor w.task (cost w.ticks w.line) 0 (pos c.args.processor) (pos c.cluster_of-cluster.result)) [] m.sound may fits (ap (λ x. asking kind.ProcessorEnd w.processor w.task (cost w.ticks w.line) 0 (pos c.args.processor) (pos x) ∷ []) (sym (c.cluster_of-cluster.ensures ∙ requests.cluster_told _ _ _ m.clusters_are c.args.processor fits))) known).legal in
    record {
      mirrors = λ _. rw (c.push.ensures, c.number_entry.ensures, c.close_processor.ensures) (stands.m_processor_end _ _ _ _ _ _ _ _ _ _ _ m w.processor w.task (cost w.ticks w.line) c.args.processor c.cluster_of-cluster.result there legal);
      space = rw c.push.ensures old.space;
      tasks = rw c.push.ensures old.tasks;
    }

pub returns : goal.returns
returns c =
    let w = c.args.who in
    let may = subst (λ (s : Seen). MayAct s w.processor w.task) (sym c.self.view_is) c.requires.may in
    let m = c.self.invariant.mirrors may.going in
    let v = seen c.self.inside.journal c.self.inside.opts c.self.inside.input.items in
    let known = steps.run_known _ _ _ _ _ _ _ _ _ _ _ m w.processor w.task may.runs in
    let fits = subst (λ (s : Seen). c.args.processor < processor_count s.opts s.journal) (sym c.self.view_is) c.requires.known in
    let there : c.args.processor < length c.self.inside.clusters.processors = rw m.clusters_are.desks.counted fits in
    subst (λ (s : Seen). Appended s (seen c.push.new.self c.self.inside.opts c.self.inside.input.items) (rows s w.processor w.task w.ticks w.line (ask.ProcessorEnd c.args.processor))) c.self.view_is (asks.told_rows c.self.inside.journal c.push.new.self c.self.inside.opts c.self.inside.input.items c.number_entry.result _ c.push.ensures (requests.one_row v w.processor w.task w.ticks w.line (ask.ProcessorEnd c.args.processor) _ (ap (λ x. asking kind.ProcessorEnd w.processor w.task (cost w.ticks w.line) 0 (pos c.args.processor) (pos x) ∷ []) (sym (c.cluster_of-cluster.ensures ∙ requests.cluster_told _ _ _ m.clusters_are c.args.processor fits))) refl ∙ ap (λ e. e ∷ []) (sym c.number_entry.ensures)))
