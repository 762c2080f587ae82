use Rattle.std.proofs.Common.{◌≡◌, false, cond, Some, None, sym, ap, ◌∙◌, subst}
use Rattle.std.specs.Prelude.{nat_le}
use Rattle.uc_entry.specs.declared.entry.EntryKind.TheVariants as kind
use Rattle.uc_acts.specs.Journal.{is_over}
use Rattle.uc_acts.specs.Queues.{first_ended, all_ticks}
use Rattle.uc_acts.specs.Acts.{verdict}
use Rattle.uc_cluster.specs.declared.clusters.Stalled.TheVariants as stalled
use Rattle.uc_cluster.proofs.Asked.{stalled as stalled_law}
use Rattle.uc_kernel_core.specs.Mirrors.{Seen, seen}
use Rattle.uc_kernel_core.proofs.Endings as endings
use Rattle.uc_kernel_core.proofs.kernel_core.KernelCore.verdict.Goals as goal

pub returns-in-Deadlock : goal.returns-in-Deadlock
returns-in-Deadlock c =
    let going = subst (λ (s : Seen). is_over s.journal ≡ false) (sym c.self.view_is) c.requires.going in
    let m = c.self.invariant.mirrors going in
    let v = seen c.self.inside.journal c.self.inside.opts c.self.inside.input.items in
    let a = m.clusters_are in
    let not_yet : first_ended v.journal ≡ false = sym c.first_ended.ensures ∙ c.if-first_ended.false in
    let law = stalled_law v.opts c.self.inside.clusters v.journal a.ready_are a.runs a.counted a.desks in
    sym (endings.verdict_stalled v.opts v.journal stalled.Deadlock not_yet (sym c.in-Deadlock.is ∙ c.stalled.ensures ∙ law)) ∙ ap (λ (s : Seen). verdict s.opts s.journal) c.self.view_is

pub returns-in-NoProcessor : goal.returns-in-NoProcessor
returns-in-NoProcessor c =
    let going = subst (λ (s : Seen). is_over s.journal ≡ false) (sym c.self.view_is) c.requires.going in
    let m = c.self.invariant.mirrors going in
    let v = seen c.self.inside.journal c.self.inside.opts c.self.inside.input.items in
    let a = m.clusters_are in
    let not_yet : first_ended v.journal ≡ false = sym c.first_ended.ensures ∙ c.if-first_ended.false in
    let law = stalled_law v.opts c.self.inside.clusters v.journal a.ready_are a.runs a.counted a.desks in
    sym (endings.verdict_stalled v.opts v.journal stalled.NoProcessor not_yet (sym c.in-NoProcessor.is ∙ c.stalled.ensures ∙ law)) ∙ ap (λ (s : Seen). verdict s.opts s.journal) c.self.view_is

pub returns-in-No : goal.returns-in-No
returns-in-No c =
    let going = subst (λ (s : Seen). is_over s.journal ≡ false) (sym c.self.view_is) c.requires.going in
    let m = c.self.invariant.mirrors going in
    let v = seen c.self.inside.journal c.self.inside.opts c.self.inside.input.items in
    let a = m.clusters_are in
    let not_yet : first_ended v.journal ≡ false = sym c.first_ended.ensures ∙ c.if-first_ended.false in
    let law = stalled_law v.opts c.self.inside.clusters v.journal a.ready_are a.runs a.counted a.desks in
    c.ticks_verdict.ensures ∙ ap (λ (s : Seen). cond (nat_le s.opts.ticks (all_ticks s.journal)) (Some kind.Limit) None) (sym c.self.view_is) ∙ sym (endings.verdict_stalled v.opts v.journal stalled.No not_yet (sym c.in-No.is ∙ c.stalled.ensures ∙ law)) ∙ ap (λ (s : Seen). verdict s.opts s.journal) c.self.view_is
