use Rattle.std.proofs.Common.{◌<◌, [], Some, refl, sym, ap, ◌∙◌, subst, length}
use Rattle.std.specs.Prelude.{pos}
use Rattle.uc_acts.specs.Journal.{asking, cost}
use Rattle.uc_acts.specs.Queues.{cluster_count}
use Rattle.uc_entry.specs.declared.entry.EntryKind.TheVariants as kind
use Rattle.uc_entry.specs.declared.request.Request.TheVariants as ask
use Rattle.uc_cluster.specs.Standing.{Standing, IsUnready, with_place}
use Rattle.uc_kernel_core.specs.Mirrors.{MayAct, Seen, seen}
use Rattle.uc_kernel_core.proofs.Asks as asks
use Rattle.uc_kernel_core.proofs.Steps as steps
use Rattle.uc_kernel_core.proofs.Stands as stands
use Rattle.uc_kernel_core.proofs.kernel_core.KernelCore.migrate.Goals as goal

pub ready-requires-clause-unready : goal.ready-requires-clause-unready
ready-requires-clause-unready c =
    let w = c.args.who in
    let may = subst (λ (s : Seen). MayAct s w.processor w.task) (sym c.self.view_is) c.requires.may in
    let m = c.self.invariant.mirrors may.going in
    let v = seen c.self.inside.journal c.self.inside.opts c.self.inside.input.items in
    let known = steps.run_known _ _ _ _ _ _ _ _ _ _ _ m w.processor w.task may.runs in
    let there : c.args.cluster < length c.self.inside.clusters.queues = rw m.clusters_are.counted (subst (λ (s : Seen). c.args.cluster < cluster_count s.journal) (sym c.self.view_is) c.requires.known) in
    subst (IsUnready w.task) (sym (c.migrate.ensures ∙ ap (λ (s : Standing). with_place s w.task (Some c.args.cluster)) c.free.ensures)) (stands.migrate_unready _ _ _ _ _ _ _ _ _ _ _ m w.processor w.task (cost w.ticks w.line) c.args.cluster may.runs there)

pub invariant_of-self : goal.invariant_of-self
invariant_of-self c =
    let w = c.args.who in
    let may = subst (λ (s : Seen). MayAct s w.processor w.task) (sym c.self.view_is) c.requires.may in
    let m = c.self.invariant.mirrors may.going in
    let v = seen c.self.inside.journal c.self.inside.opts c.self.inside.input.items in
    let known = steps.run_known _ _ _ _ _ _ _ _ _ _ _ m w.processor w.task may.runs in
    let there : c.args.cluster < length c.self.inside.clusters.queues = rw m.clusters_are.counted (subst (λ (s : Seen). c.args.cluster < cluster_count s.journal) (sym c.self.view_is) c.requires.known) in
    let fits = subst (λ (s : Seen). c.args.cluster < cluster_count s.journal) (sym c.self.view_is) c.requires.known in
    let old = c.self.invariant in
    let legal = (asks.can_first v w.processor w.task w.ticks w.line (ask.Migrate c.args.cluster) (asking kind.Migrate w.processor w.task (cost w.ticks w.line) 0 (pos c.args.cluster) (pos 0)) [] m.sound may fits (refl) known).legal in
    record {
      mirrors = λ _. rw (c.push.ensures, c.number_entry.ensures, c.ready.ensures, c.migrate.ensures, c.free.ensures, c.from.ensures) (stands.m_migrate _ _ _ _ _ _ _ _ _ _ _ m w.processor w.task (cost w.ticks w.line) c.args.cluster may.runs there legal);
      space = rw c.push.ensures old.space;
      tasks = rw c.push.ensures old.tasks;
    }
