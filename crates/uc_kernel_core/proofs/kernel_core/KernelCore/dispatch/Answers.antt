use Rattle.std.proofs.Common.{◌≡◌, ◌≤◌, ◌<◌, ◌+◌, ◌∷◌, [], refl, sym, ap, ◌∙◌, subst, arith, length}
use Rattle.uc_acts.specs.Journal.{is_over, is_ending}
use Rattle.uc_acts.specs.KernelRuns.{gives}
use Rattle.uc_acts.specs.Acts.{dispatch, lone_limit}
use Rattle.uc_acts.proofs.Law.{lawful_may}
use Rattle.uc_cluster.specs.Standing.{started}
use Rattle.uc_kernel_journal.specs.JournalSums.{Told}
use Rattle.uc_kernel_journal.proofs.Tellings.{over_push}
use Rattle.uc_kernel_core.specs.Mirrors.{Seen, seen}
use Rattle.uc_kernel_core.specs.CoreActs.{IsReady, Gave, GaveNone, nobody, no_room}
use Rattle.uc_kernel_core.proofs.Asks as asks
use Rattle.uc_kernel_core.proofs.Serving as serving
use Rattle.uc_kernel_core.proofs.Stands as stands
use Rattle.uc_kernel_core.proofs.kernel_core.KernelCore.dispatch.Goals as goal

pub invariant_of-self : goal.invariant_of-self
invariant_of-self c =
    let ready = subst IsReady (sym c.self.view_is) c.requires.ready in
    let m = c.self.invariant.mirrors ready.going in
    let v = seen c.self.inside.journal c.self.inside.opts c.self.inside.input.items in
    let none = serving.not_given v.opts v.journal c.self.inside.clusters m.clusters_are (sym c.in-None.is ∙ c.dispatch.ensures.value) in
    let now = c.dispatch.ensures.standing ∙ none.0 in
    let old = c.self.invariant in
    record { mirrors = λ _. rw now m; space = old.space; tasks = old.tasks }

pub invariant_of-self-then-len-self : goal.invariant_of-self-then-len-self
invariant_of-self-then-len-self c =
    let old = c.self.invariant in
    record {
      mirrors = λ h. over_push c.self.inside.journal.journal c.closing_entry.result (ap (λ e. is_ending e.kind) c.closing_entry.ensures) (sym (ap (λ (v : Told). is_over v.journal) c.push.ensures) ∙ h);
      space = rw c.push.ensures old.space;
      tasks = rw c.push.ensures old.tasks;
    }

pub returns-then-len-self-clause-none : goal.returns-then-len-self-clause-none
returns-then-len-self-clause-none c =
    let ready = subst IsReady (sym c.self.view_is) c.requires.ready in
    let m = c.self.invariant.mirrors ready.going in
    let v = seen c.self.inside.journal c.self.inside.opts c.self.inside.input.items in
    let p = c.in-Some.given.0 in
    let t = c.in-Some.given.1 in
    let g = serving.given v.opts v.journal c.self.inside.clusters m.clusters_are p t (sym c.in-Some.is ∙ c.dispatch.ensures.value) in
    let n = c.len.ensures.count in
    let full = c.if-len-self.true in
    let lt : v.opts.entries < length v.journal + 2 = omega arith in
    subst (λ (s : Seen). GaveNone s (seen c.push.new.self c.self.inside.opts c.self.inside.input.items)) c.self.view_is (no_room (record { processor = p; task = t; serves = g.first.serves }) lt (asks.told_rows c.self.inside.journal c.push.new.self c.self.inside.opts c.self.inside.input.items c.closing_entry.result (lone_limit ∷ []) c.push.ensures (ap (λ e. e ∷ []) (sym c.closing_entry.ensures))))

pub push-requires-in-Some-clause-task : goal.push-requires-in-Some-clause-task
push-requires-in-Some-clause-task c =
    let ready = subst IsReady (sym c.self.view_is) c.requires.ready in
    let m = c.self.invariant.mirrors ready.going in
    let v = seen c.self.inside.journal c.self.inside.opts c.self.inside.input.items in
    let p = c.in-Some.given.0 in
    let t = c.in-Some.given.1 in
    let g = serving.given v.opts v.journal c.self.inside.clusters m.clusters_are p t (sym c.in-Some.is ∙ c.dispatch.ensures.value) in
    let n = c.len.ensures.count in
    rw (c.dispatch_entry.ensures, c.self.invariant.tasks) (stands.given_known _ _ _ _ _ _ _ _ _ _ _ m p t g.rest g.front)

pub invariant_of-self-in-Some : goal.invariant_of-self-in-Some
invariant_of-self-in-Some c =
    let ready = subst IsReady (sym c.self.view_is) c.requires.ready in
    let m = c.self.invariant.mirrors ready.going in
    let v = seen c.self.inside.journal c.self.inside.opts c.self.inside.input.items in
    let p = c.in-Some.given.0 in
    let t = c.in-Some.given.1 in
    let g = serving.given v.opts v.journal c.self.inside.clusters m.clusters_are p t (sym c.in-Some.is ∙ c.dispatch.ensures.value) in
    let n = c.len.ensures.count in
    let full = c.if-len-self.false in
    let le : length v.journal + 2 ≤ v.opts.entries = omega arith in
    let legal = (lawful_may v.opts v.sites v.input v.journal (dispatch p t ∷ []) m.sound (gives p t g.first.serves le)).0 in
    let now : c.dispatch.new.self ≡ started c.self.inside.clusters p = c.dispatch.ensures.standing ∙ g.started_is in
    let old = c.self.invariant in
    record {
      mirrors = λ _. rw (c.push-in-Some.ensures, c.dispatch_entry.ensures, now) (stands.m_dispatch _ _ _ _ _ _ _ _ _ _ _ m p t g.rest g.front g.known legal);
      space = rw c.push-in-Some.ensures old.space;
      tasks = rw c.push-in-Some.ensures old.tasks;
    }

pub returns-in-None-clause-none : goal.returns-in-None-clause-none
returns-in-None-clause-none c =
    let ready = subst IsReady (sym c.self.view_is) c.requires.ready in
    let m = c.self.invariant.mirrors ready.going in
    let v = seen c.self.inside.journal c.self.inside.opts c.self.inside.input.items in
    let none = serving.not_given v.opts v.journal c.self.inside.clusters m.clusters_are (sym c.in-None.is ∙ c.dispatch.ensures.value) in
    subst (λ (s : Seen). GaveNone s v) c.self.view_is (nobody none.1 refl)

pub returns-else-len-self-clause-some : goal.returns-else-len-self-clause-some
returns-else-len-self-clause-some c =
    let ready = subst IsReady (sym c.self.view_is) c.requires.ready in
    let m = c.self.invariant.mirrors ready.going in
    let v = seen c.self.inside.journal c.self.inside.opts c.self.inside.input.items in
    let p = c.in-Some.given.0 in
    let t = c.in-Some.given.1 in
    let g = serving.given v.opts v.journal c.self.inside.clusters m.clusters_are p t (sym c.in-Some.is ∙ c.dispatch.ensures.value) in
    let n = c.len.ensures.count in
    let full = c.if-len-self.false in
    let le : length v.journal + 2 ≤ v.opts.entries = omega arith in
    subst (λ (s : Seen). Gave s (seen c.push-in-Some.new.self c.self.inside.opts c.self.inside.input.items) p t) c.self.view_is (record { first = g.first; room = le; appended = asks.told_rows c.self.inside.journal c.push-in-Some.new.self c.self.inside.opts c.self.inside.input.items c.dispatch_entry.result (dispatch p t ∷ []) c.push-in-Some.ensures (ap (λ e. e ∷ []) (sym c.dispatch_entry.ensures)) })
