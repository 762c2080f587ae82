use Rattle.std.proofs.Common.{◌≡◌, ◌<◌, ◌^◌, ◌∙◌, ◌∷◌, [], false, refl, sym, ap, subst, length, get_or}
use Rattle.uc_tree.specs.Programs.{Site}
use Rattle.uc_acts.specs.Journal.{is_ending, cost}
use Rattle.uc_acts.specs.Acts.{accept_entry, admit, push}
use Rattle.uc_acts.specs.Doors.{no_site, site_at}
use Rattle.uc_acts.specs.KernelRuns.{IsAt}
use Rattle.uc_entry.specs.declared.request.Request.TheVariants as ask
use Rattle.uc_cluster.specs.Standing.{IsPlaced, IsUnready}
use Rattle.uc_kernel_core.specs.Mirrors.{MayAct, Seen, seen, Appended, rows}
use Rattle.uc_kernel_core.proofs.Acceptances as acceptances
use Rattle.uc_kernel_core.proofs.Asks as asks
use Rattle.uc_kernel_core.proofs.Fronts as fronts
use Rattle.uc_kernel_core.proofs.Letting as letting
use Rattle.uc_kernel_core.proofs.Several as several
use Rattle.uc_kernel_core.proofs.Steps as steps
use Rattle.uc_kernel_core.proofs.Taking.{same_site}
use Rattle.uc_kernel_core.proofs.kernel_core.KernelCore.accept.Goals as goal

pub accept_at-accepted-requires-clause-free : goal.accept_at-accepted-requires-clause-free
accept_at-accepted-requires-clause-free c =
    let w = c.args.who in
    let may = subst (λ (s : Seen). MayAct s w.processor w.task) (sym c.self.view_is) c.requires.may in
    let m = c.self.invariant.mirrors may.going in
    fronts.run_free _ _ _ _ _ _ _ _ _ _ _ m w.processor w.task may.runs

pub accept_at-accepted-requires-clause-task : goal.accept_at-accepted-requires-clause-task
accept_at-accepted-requires-clause-task c =
    let w = c.args.who in
    let may = subst (λ (s : Seen). MayAct s w.processor w.task) (sym c.self.view_is) c.requires.may in
    steps.run_seated _ _ _ _ _ _ _ _ _ _ _ (c.self.invariant.mirrors may.going) w.processor w.task may.runs

pub invariant_of-self : goal.invariant_of-self
invariant_of-self c =
    let w = c.args.who in
    let may = subst (λ (s : Seen). MayAct s w.processor w.task) (sym c.self.view_is) c.requires.may in
    let m = c.self.invariant.mirrors may.going in
    let at = subst (λ (s : Seen). IsAt w.task c.args.object s.journal) (sym c.self.view_is) c.requires.at in
    let few = subst (λ (s : Seen). c.args.site < length s.sites) (sym c.self.view_is) c.requires.site in
    let small = subst (λ (s : Seen). c.args.mask < 2 ^ length (site_at s.sites c.args.site).clauses) (sym c.self.view_is) c.requires.mask in
    let site = c.index-sites-site.result in
    let is : site ≡ site_at c.self.inside.journal.sites c.args.site = c.index-sites-site.is ∙ ap (λ l. get_or l c.args.site site) c.sites.ensures ∙ same_site c.self.inside.journal.sites c.args.site site no_site few in
    let e = sym c.in-Opened.is ∙ c.accept_at-accepted.ensures.value in
    let first : c.accept_entry.result ≡ accept_entry w.processor w.task (cost w.ticks w.line) c.args.object c.args.site c.args.mask site.has_else 0 = c.accept_entry.ensures ∙ ap (λ b. accept_entry w.processor w.task (cost w.ticks w.line) c.args.object c.args.site c.args.mask b 0) (ap (λ (x : Site). x.has_else) c.statement.view_is) in
    let old = c.self.invariant in
    record {
      mirrors = λ _. rw (c.push.ensures, first, c.free.ensures, c.from.ensures) (acceptances.open_mirrors _ _ _ _ _ _ _ _ _ _ _ m c.self.inside.input.items w.processor w.task (cost w.ticks w.line) w.line c.args.object c.args.site c.args.mask may.runs at few small site is c.accept_at-accepted.new.entries c.accept_at-accepted.ensures.doors e c.index.result.now _ c.index.ensures);
      space = rw (c.push.ensures) old.space;
      tasks = rw (c.push.ensures) old.tasks;
    }

pub push-requires-in-Caller-2-clause-going : goal.push-requires-in-Caller-2-clause-going
push-requires-in-Caller-2-clause-going c =
    let w = c.args.who in
    let may = subst (λ (s : Seen). MayAct s w.processor w.task) (sym c.self.view_is) c.requires.may in
    let m = c.self.invariant.mirrors may.going in
    several.told_going c.self.inside.journal c.push-in-Caller.new.self c.accept_entry-in-Caller.result c.push-in-Caller.ensures may.going (ap (λ e. is_ending e.kind) c.accept_entry-in-Caller.ensures)

pub push-requires-in-Caller-2-clause-task : goal.push-requires-in-Caller-2-clause-task
push-requires-in-Caller-2-clause-task c =
    let w = c.args.who in
    let may = subst (λ (s : Seen). MayAct s w.processor w.task) (sym c.self.view_is) c.requires.may in
    let m = c.self.invariant.mirrors may.going in
    let at = subst (λ (s : Seen). IsAt w.task c.args.object s.journal) (sym c.self.view_is) c.requires.at in
    let few = subst (λ (s : Seen). c.args.site < length s.sites) (sym c.self.view_is) c.requires.site in
    let small = subst (λ (s : Seen). c.args.mask < 2 ^ length (site_at s.sites c.args.site).clauses) (sym c.self.view_is) c.requires.mask in
    let site = c.index-sites-site.result in
    let is : site ≡ site_at c.self.inside.journal.sites c.args.site = c.index-sites-site.is ∙ ap (λ l. get_or l c.args.site site) c.sites.ensures ∙ same_site c.self.inside.journal.sites c.args.site site no_site few in
    let e = sym c.in-Caller.is ∙ c.accept_at-accepted.ensures.value in
    rw (c.admit_entry.ensures, c.push-in-Caller.ensures, c.self.invariant.tasks) (letting.task_known _ _ _ _ _ _ _ _ _ _ _ m c.args.object at.known.made c.in-Caller.task (acceptances.known_caller _ _ _ _ _ _ _ _ _ _ _ m c.self.inside.input.items w.processor w.task (cost w.ticks w.line) w.line c.args.object c.args.site c.args.mask may.runs at few small site is c.accept_at-accepted.new.entries c.accept_at-accepted.ensures.doors c.in-Caller.task c.in-Caller.clause e))

pub free-requires-in-Caller : goal.free-requires-in-Caller
free-requires-in-Caller c =
    let w = c.args.who in
    let may = subst (λ (s : Seen). MayAct s w.processor w.task) (sym c.self.view_is) c.requires.may in
    let m = c.self.invariant.mirrors may.going in
    rw c.from-in-Caller.ensures (steps.run_processor _ _ _ _ _ _ _ _ _ _ _ m w.processor w.task may.runs)

pub ready-requires-clause-task : goal.ready-requires-clause-task
ready-requires-clause-task c =
    let w = c.args.who in
    let may = subst (λ (s : Seen). MayAct s w.processor w.task) (sym c.self.view_is) c.requires.may in
    let m = c.self.invariant.mirrors may.going in
    let at = subst (λ (s : Seen). IsAt w.task c.args.object s.journal) (sym c.self.view_is) c.requires.at in
    let few = subst (λ (s : Seen). c.args.site < length s.sites) (sym c.self.view_is) c.requires.site in
    let small = subst (λ (s : Seen). c.args.mask < 2 ^ length (site_at s.sites c.args.site).clauses) (sym c.self.view_is) c.requires.mask in
    let site = c.index-sites-site.result in
    let is : site ≡ site_at c.self.inside.journal.sites c.args.site = c.index-sites-site.is ∙ ap (λ l. get_or l c.args.site site) c.sites.ensures ∙ same_site c.self.inside.journal.sites c.args.site site no_site few in
    let e = sym c.in-Caller.is ∙ c.accept_at-accepted.ensures.value in
    rw c.free-in-Caller.ensures (letting.task_placed _ _ _ _ _ _ _ _ _ _ _ m c.args.object at.known.made c.in-Caller.task (acceptances.known_caller _ _ _ _ _ _ _ _ _ _ _ m c.self.inside.input.items w.processor w.task (cost w.ticks w.line) w.line c.args.object c.args.site c.args.mask may.runs at few small site is c.accept_at-accepted.new.entries c.accept_at-accepted.ensures.doors c.in-Caller.task c.in-Caller.clause e))

pub ready-requires-clause-placed : goal.ready-requires-clause-placed
ready-requires-clause-placed c =
    let w = c.args.who in
    let may = subst (λ (s : Seen). MayAct s w.processor w.task) (sym c.self.view_is) c.requires.may in
    let m = c.self.invariant.mirrors may.going in
    let at = subst (λ (s : Seen). IsAt w.task c.args.object s.journal) (sym c.self.view_is) c.requires.at in
    let few = subst (λ (s : Seen). c.args.site < length s.sites) (sym c.self.view_is) c.requires.site in
    let small = subst (λ (s : Seen). c.args.mask < 2 ^ length (site_at s.sites c.args.site).clauses) (sym c.self.view_is) c.requires.mask in
    let site = c.index-sites-site.result in
    let is : site ≡ site_at c.self.inside.journal.sites c.args.site = c.index-sites-site.is ∙ ap (λ l. get_or l c.args.site site) c.sites.ensures ∙ same_site c.self.inside.journal.sites c.args.site site no_site few in
    let e = sym c.in-Caller.is ∙ c.accept_at-accepted.ensures.value in
    subst (IsPlaced c.in-Caller.task) (sym c.free-in-Caller.ensures) (acceptances.take_placed _ _ _ _ _ _ _ _ _ _ _ m c.self.inside.input.items w.processor w.task (cost w.ticks w.line) w.line c.args.object c.args.site c.args.mask may.runs at few small site is c.accept_at-accepted.new.entries c.accept_at-accepted.ensures.doors c.in-Caller.task c.in-Caller.clause e _ false refl)

pub ready-requires-clause-unready : goal.ready-requires-clause-unready
ready-requires-clause-unready c =
    let w = c.args.who in
    let may = subst (λ (s : Seen). MayAct s w.processor w.task) (sym c.self.view_is) c.requires.may in
    let m = c.self.invariant.mirrors may.going in
    let at = subst (λ (s : Seen). IsAt w.task c.args.object s.journal) (sym c.self.view_is) c.requires.at in
    let few = subst (λ (s : Seen). c.args.site < length s.sites) (sym c.self.view_is) c.requires.site in
    let small = subst (λ (s : Seen). c.args.mask < 2 ^ length (site_at s.sites c.args.site).clauses) (sym c.self.view_is) c.requires.mask in
    let site = c.index-sites-site.result in
    let is : site ≡ site_at c.self.inside.journal.sites c.args.site = c.index-sites-site.is ∙ ap (λ l. get_or l c.args.site site) c.sites.ensures ∙ same_site c.self.inside.journal.sites c.args.site site no_site few in
    let e = sym c.in-Caller.is ∙ c.accept_at-accepted.ensures.value in
    subst (IsUnready c.in-Caller.task) (sym c.free-in-Caller.ensures) (acceptances.take_unready _ _ _ _ _ _ _ _ _ _ _ m c.self.inside.input.items w.processor w.task (cost w.ticks w.line) w.line c.args.object c.args.site c.args.mask may.runs at few small site is c.accept_at-accepted.new.entries c.accept_at-accepted.ensures.doors c.in-Caller.task c.in-Caller.clause e _ false refl)

pub invariant_of-self-in-Caller : goal.invariant_of-self-in-Caller
invariant_of-self-in-Caller c =
    let w = c.args.who in
    let may = subst (λ (s : Seen). MayAct s w.processor w.task) (sym c.self.view_is) c.requires.may in
    let m = c.self.invariant.mirrors may.going in
    let at = subst (λ (s : Seen). IsAt w.task c.args.object s.journal) (sym c.self.view_is) c.requires.at in
    let few = subst (λ (s : Seen). c.args.site < length s.sites) (sym c.self.view_is) c.requires.site in
    let small = subst (λ (s : Seen). c.args.mask < 2 ^ length (site_at s.sites c.args.site).clauses) (sym c.self.view_is) c.requires.mask in
    let site = c.index-sites-site.result in
    let is : site ≡ site_at c.self.inside.journal.sites c.args.site = c.index-sites-site.is ∙ ap (λ l. get_or l c.args.site site) c.sites.ensures ∙ same_site c.self.inside.journal.sites c.args.site site no_site few in
    let e = sym c.in-Caller.is ∙ c.accept_at-accepted.ensures.value in
    let first : c.accept_entry-in-Caller.result ≡ accept_entry w.processor w.task (cost w.ticks w.line) c.args.object c.args.site c.args.mask site.has_else 1 = c.accept_entry-in-Caller.ensures ∙ ap (λ b. accept_entry w.processor w.task (cost w.ticks w.line) c.args.object c.args.site c.args.mask b 1) (ap (λ (x : Site). x.has_else) c.statement.view_is) in
    let old = c.self.invariant in
    record {
      mirrors = λ _. rw (c.push-in-Caller-2.ensures, c.admit_entry.ensures, c.push-in-Caller.ensures, first, c.ready.ensures, c.free-in-Caller.ensures, c.from-in-Caller.ensures) (acceptances.take_mirrors _ _ _ _ _ _ _ _ _ _ _ m c.self.inside.input.items w.processor w.task (cost w.ticks w.line) w.line c.args.object c.args.site c.args.mask may.runs at few small site is c.accept_at-accepted.new.entries c.accept_at-accepted.ensures.doors c.in-Caller.task c.in-Caller.clause e c.index-in-Caller.result.now _ c.index-in-Caller.ensures);
      space = rw (c.push-in-Caller-2.ensures, c.push-in-Caller.ensures) old.space;
      tasks = rw (c.push-in-Caller-2.ensures, c.push-in-Caller.ensures) old.tasks;
    }

pub invariant_of-self-in-Else : goal.invariant_of-self-in-Else
invariant_of-self-in-Else c =
    let w = c.args.who in
    let may = subst (λ (s : Seen). MayAct s w.processor w.task) (sym c.self.view_is) c.requires.may in
    let m = c.self.invariant.mirrors may.going in
    let at = subst (λ (s : Seen). IsAt w.task c.args.object s.journal) (sym c.self.view_is) c.requires.at in
    let few = subst (λ (s : Seen). c.args.site < length s.sites) (sym c.self.view_is) c.requires.site in
    let small = subst (λ (s : Seen). c.args.mask < 2 ^ length (site_at s.sites c.args.site).clauses) (sym c.self.view_is) c.requires.mask in
    let site = c.index-sites-site.result in
    let is : site ≡ site_at c.self.inside.journal.sites c.args.site = c.index-sites-site.is ∙ ap (λ l. get_or l c.args.site site) c.sites.ensures ∙ same_site c.self.inside.journal.sites c.args.site site no_site few in
    let e = sym c.in-Else.is ∙ c.accept_at-accepted.ensures.value in
    let first : c.accept_entry-in-Else.result ≡ accept_entry w.processor w.task (cost w.ticks w.line) c.args.object c.args.site c.args.mask site.has_else 2 = c.accept_entry-in-Else.ensures ∙ ap (λ b. accept_entry w.processor w.task (cost w.ticks w.line) c.args.object c.args.site c.args.mask b 2) (ap (λ (x : Site). x.has_else) c.statement.view_is) in
    let old = c.self.invariant in
    record {
      mirrors = λ _. rw (c.push-in-Else.ensures, first) (acceptances.no_mirrors _ _ _ _ _ _ _ _ _ _ _ m c.self.inside.input.items w.processor w.task (cost w.ticks w.line) w.line c.args.object c.args.site c.args.mask may.runs at few small site is c.accept_at-accepted.new.entries c.accept_at-accepted.ensures.doors e);
      space = rw (c.push-in-Else.ensures) old.space;
      tasks = rw (c.push-in-Else.ensures) old.tasks;
    }

pub push-requires-in-Destroyer-2-clause-going : goal.push-requires-in-Destroyer-2-clause-going
push-requires-in-Destroyer-2-clause-going c =
    let w = c.args.who in
    let may = subst (λ (s : Seen). MayAct s w.processor w.task) (sym c.self.view_is) c.requires.may in
    let m = c.self.invariant.mirrors may.going in
    several.told_going c.self.inside.journal c.push-in-Destroyer.new.self c.accept_entry-in-Destroyer.result c.push-in-Destroyer.ensures may.going (ap (λ e. is_ending e.kind) c.accept_entry-in-Destroyer.ensures)

pub push-requires-in-Destroyer-2-clause-task : goal.push-requires-in-Destroyer-2-clause-task
push-requires-in-Destroyer-2-clause-task c =
    let w = c.args.who in
    let may = subst (λ (s : Seen). MayAct s w.processor w.task) (sym c.self.view_is) c.requires.may in
    let m = c.self.invariant.mirrors may.going in
    let at = subst (λ (s : Seen). IsAt w.task c.args.object s.journal) (sym c.self.view_is) c.requires.at in
    let few = subst (λ (s : Seen). c.args.site < length s.sites) (sym c.self.view_is) c.requires.site in
    let small = subst (λ (s : Seen). c.args.mask < 2 ^ length (site_at s.sites c.args.site).clauses) (sym c.self.view_is) c.requires.mask in
    let site = c.index-sites-site.result in
    let is : site ≡ site_at c.self.inside.journal.sites c.args.site = c.index-sites-site.is ∙ ap (λ l. get_or l c.args.site site) c.sites.ensures ∙ same_site c.self.inside.journal.sites c.args.site site no_site few in
    let e = sym c.in-Destroyer.is ∙ c.accept_at-accepted.ensures.value in
    rw (c.push_entry.ensures, c.push-in-Destroyer.ensures, c.self.invariant.tasks) (letting.task_known _ _ _ _ _ _ _ _ _ _ _ m c.args.object at.known.made c.in-Destroyer.task (acceptances.known_destroyer _ _ _ _ _ _ _ _ _ _ _ m c.self.inside.input.items w.processor w.task (cost w.ticks w.line) w.line c.args.object c.args.site c.args.mask may.runs at few small site is c.accept_at-accepted.new.entries c.accept_at-accepted.ensures.doors c.in-Destroyer.task c.in-Destroyer.clause e))

pub invariant_of-self-in-Destroyer : goal.invariant_of-self-in-Destroyer
invariant_of-self-in-Destroyer c =
    let w = c.args.who in
    let may = subst (λ (s : Seen). MayAct s w.processor w.task) (sym c.self.view_is) c.requires.may in
    let m = c.self.invariant.mirrors may.going in
    let at = subst (λ (s : Seen). IsAt w.task c.args.object s.journal) (sym c.self.view_is) c.requires.at in
    let few = subst (λ (s : Seen). c.args.site < length s.sites) (sym c.self.view_is) c.requires.site in
    let small = subst (λ (s : Seen). c.args.mask < 2 ^ length (site_at s.sites c.args.site).clauses) (sym c.self.view_is) c.requires.mask in
    let site = c.index-sites-site.result in
    let is : site ≡ site_at c.self.inside.journal.sites c.args.site = c.index-sites-site.is ∙ ap (λ l. get_or l c.args.site site) c.sites.ensures ∙ same_site c.self.inside.journal.sites c.args.site site no_site few in
    let e = sym c.in-Destroyer.is ∙ c.accept_at-accepted.ensures.value in
    let first : c.accept_entry-in-Destroyer.result ≡ accept_entry w.processor w.task (cost w.ticks w.line) c.args.object c.args.site c.args.mask site.has_else 3 = c.accept_entry-in-Destroyer.ensures ∙ ap (λ b. accept_entry w.processor w.task (cost w.ticks w.line) c.args.object c.args.site c.args.mask b 3) (ap (λ (x : Site). x.has_else) c.statement.view_is) in
    let old = c.self.invariant in
    record {
      mirrors = λ _. rw (c.push-in-Destroyer-2.ensures, c.push_entry.ensures, c.push-in-Destroyer.ensures, first) (acceptances.end_mirrors _ _ _ _ _ _ _ _ _ _ _ m c.self.inside.input.items w.processor w.task (cost w.ticks w.line) w.line c.args.object c.args.site c.args.mask may.runs at few small site is c.accept_at-accepted.new.entries c.accept_at-accepted.ensures.doors c.in-Destroyer.task c.in-Destroyer.clause e);
      space = rw (c.push-in-Destroyer-2.ensures, c.push-in-Destroyer.ensures) old.space;
      tasks = rw (c.push-in-Destroyer-2.ensures, c.push-in-Destroyer.ensures) old.tasks;
    }

pub returns-in-Opened : goal.returns-in-Opened
returns-in-Opened c =
    let w = c.args.who in
    let may = subst (λ (s : Seen). MayAct s w.processor w.task) (sym c.self.view_is) c.requires.may in
    let m = c.self.invariant.mirrors may.going in
    let at = subst (λ (s : Seen). IsAt w.task c.args.object s.journal) (sym c.self.view_is) c.requires.at in
    let few = subst (λ (s : Seen). c.args.site < length s.sites) (sym c.self.view_is) c.requires.site in
    let small = subst (λ (s : Seen). c.args.mask < 2 ^ length (site_at s.sites c.args.site).clauses) (sym c.self.view_is) c.requires.mask in
    let site = c.index-sites-site.result in
    let is : site ≡ site_at c.self.inside.journal.sites c.args.site = c.index-sites-site.is ∙ ap (λ l. get_or l c.args.site site) c.sites.ensures ∙ same_site c.self.inside.journal.sites c.args.site site no_site few in
    let e = sym c.in-Opened.is ∙ c.accept_at-accepted.ensures.value in
    let first : c.accept_entry.result ≡ accept_entry w.processor w.task (cost w.ticks w.line) c.args.object c.args.site c.args.mask site.has_else 0 = c.accept_entry.ensures ∙ ap (λ b. accept_entry w.processor w.task (cost w.ticks w.line) c.args.object c.args.site c.args.mask b 0) (ap (λ (x : Site). x.has_else) c.statement.view_is) in
    let row = acceptances.open_row _ _ _ _ _ _ _ _ _ _ _ m c.self.inside.input.items w.processor w.task (cost w.ticks w.line) w.line c.args.object c.args.site c.args.mask may.runs at few small site is c.accept_at-accepted.new.entries c.accept_at-accepted.ensures.doors e in
    subst (λ (s : Seen). Appended s (seen c.push.new.self c.self.inside.opts c.self.inside.input.items) (rows s w.processor w.task w.ticks w.line (ask.Accept c.args.object c.args.site c.args.mask))) c.self.view_is (asks.told_rows c.self.inside.journal c.push.new.self c.self.inside.opts c.self.inside.input.items c.accept_entry.result _ c.push.ensures (row ∙ ap (λ x. x ∷ []) (sym first)))

pub returns-in-Caller : goal.returns-in-Caller
returns-in-Caller c =
    let w = c.args.who in
    let may = subst (λ (s : Seen). MayAct s w.processor w.task) (sym c.self.view_is) c.requires.may in
    let m = c.self.invariant.mirrors may.going in
    let at = subst (λ (s : Seen). IsAt w.task c.args.object s.journal) (sym c.self.view_is) c.requires.at in
    let few = subst (λ (s : Seen). c.args.site < length s.sites) (sym c.self.view_is) c.requires.site in
    let small = subst (λ (s : Seen). c.args.mask < 2 ^ length (site_at s.sites c.args.site).clauses) (sym c.self.view_is) c.requires.mask in
    let site = c.index-sites-site.result in
    let is : site ≡ site_at c.self.inside.journal.sites c.args.site = c.index-sites-site.is ∙ ap (λ l. get_or l c.args.site site) c.sites.ensures ∙ same_site c.self.inside.journal.sites c.args.site site no_site few in
    let e = sym c.in-Caller.is ∙ c.accept_at-accepted.ensures.value in
    let first : c.accept_entry-in-Caller.result ≡ accept_entry w.processor w.task (cost w.ticks w.line) c.args.object c.args.site c.args.mask site.has_else 1 = c.accept_entry-in-Caller.ensures ∙ ap (λ b. accept_entry w.processor w.task (cost w.ticks w.line) c.args.object c.args.site c.args.mask b 1) (ap (λ (x : Site). x.has_else) c.statement.view_is) in
    let row = acceptances.take_row _ _ _ _ _ _ _ _ _ _ _ m c.self.inside.input.items w.processor w.task (cost w.ticks w.line) w.line c.args.object c.args.site c.args.mask may.runs at few small site is c.accept_at-accepted.new.entries c.accept_at-accepted.ensures.doors c.in-Caller.task c.in-Caller.clause e _ false refl in
    let same = row ∙ ap (λ x. x ∷ admit w.processor c.in-Caller.task c.args.object 1 0 ∷ []) (sym first) ∙ ap (λ y. c.accept_entry-in-Caller.result ∷ y ∷ []) (sym c.admit_entry.ensures) in
    subst (λ (s : Seen). Appended s (seen c.push-in-Caller-2.new.self c.self.inside.opts c.self.inside.input.items) (rows s w.processor w.task w.ticks w.line (ask.Accept c.args.object c.args.site c.args.mask))) c.self.view_is (several.told_two c.self.inside.journal c.push-in-Caller.new.self c.push-in-Caller-2.new.self c.self.inside.opts c.self.inside.input.items c.accept_entry-in-Caller.result c.admit_entry.result _ c.push-in-Caller.ensures c.push-in-Caller-2.ensures same)

pub returns-in-Else : goal.returns-in-Else
returns-in-Else c =
    let w = c.args.who in
    let may = subst (λ (s : Seen). MayAct s w.processor w.task) (sym c.self.view_is) c.requires.may in
    let m = c.self.invariant.mirrors may.going in
    let at = subst (λ (s : Seen). IsAt w.task c.args.object s.journal) (sym c.self.view_is) c.requires.at in
    let few = subst (λ (s : Seen). c.args.site < length s.sites) (sym c.self.view_is) c.requires.site in
    let small = subst (λ (s : Seen). c.args.mask < 2 ^ length (site_at s.sites c.args.site).clauses) (sym c.self.view_is) c.requires.mask in
    let site = c.index-sites-site.result in
    let is : site ≡ site_at c.self.inside.journal.sites c.args.site = c.index-sites-site.is ∙ ap (λ l. get_or l c.args.site site) c.sites.ensures ∙ same_site c.self.inside.journal.sites c.args.site site no_site few in
    let e = sym c.in-Else.is ∙ c.accept_at-accepted.ensures.value in
    let first : c.accept_entry-in-Else.result ≡ accept_entry w.processor w.task (cost w.ticks w.line) c.args.object c.args.site c.args.mask site.has_else 2 = c.accept_entry-in-Else.ensures ∙ ap (λ b. accept_entry w.processor w.task (cost w.ticks w.line) c.args.object c.args.site c.args.mask b 2) (ap (λ (x : Site). x.has_else) c.statement.view_is) in
    let row = acceptances.no_row _ _ _ _ _ _ _ _ _ _ _ m c.self.inside.input.items w.processor w.task (cost w.ticks w.line) w.line c.args.object c.args.site c.args.mask may.runs at few small site is c.accept_at-accepted.new.entries c.accept_at-accepted.ensures.doors e in
    subst (λ (s : Seen). Appended s (seen c.push-in-Else.new.self c.self.inside.opts c.self.inside.input.items) (rows s w.processor w.task w.ticks w.line (ask.Accept c.args.object c.args.site c.args.mask))) c.self.view_is (asks.told_rows c.self.inside.journal c.push-in-Else.new.self c.self.inside.opts c.self.inside.input.items c.accept_entry-in-Else.result _ c.push-in-Else.ensures (row ∙ ap (λ x. x ∷ []) (sym first)))

pub returns-in-Destroyer : goal.returns-in-Destroyer
returns-in-Destroyer c =
    let w = c.args.who in
    let may = subst (λ (s : Seen). MayAct s w.processor w.task) (sym c.self.view_is) c.requires.may in
    let m = c.self.invariant.mirrors may.going in
    let at = subst (λ (s : Seen). IsAt w.task c.args.object s.journal) (sym c.self.view_is) c.requires.at in
    let few = subst (λ (s : Seen). c.args.site < length s.sites) (sym c.self.view_is) c.requires.site in
    let small = subst (λ (s : Seen). c.args.mask < 2 ^ length (site_at s.sites c.args.site).clauses) (sym c.self.view_is) c.requires.mask in
    let site = c.index-sites-site.result in
    let is : site ≡ site_at c.self.inside.journal.sites c.args.site = c.index-sites-site.is ∙ ap (λ l. get_or l c.args.site site) c.sites.ensures ∙ same_site c.self.inside.journal.sites c.args.site site no_site few in
    let e = sym c.in-Destroyer.is ∙ c.accept_at-accepted.ensures.value in
    let first : c.accept_entry-in-Destroyer.result ≡ accept_entry w.processor w.task (cost w.ticks w.line) c.args.object c.args.site c.args.mask site.has_else 3 = c.accept_entry-in-Destroyer.ensures ∙ ap (λ b. accept_entry w.processor w.task (cost w.ticks w.line) c.args.object c.args.site c.args.mask b 3) (ap (λ (x : Site). x.has_else) c.statement.view_is) in
    let row = acceptances.end_row _ _ _ _ _ _ _ _ _ _ _ m c.self.inside.input.items w.processor w.task (cost w.ticks w.line) w.line c.args.object c.args.site c.args.mask may.runs at few small site is c.accept_at-accepted.new.entries c.accept_at-accepted.ensures.doors c.in-Destroyer.task c.in-Destroyer.clause e in
    let same = row ∙ ap (λ x. x ∷ push w.processor c.in-Destroyer.task c.args.object ∷ []) (sym first) ∙ ap (λ y. c.accept_entry-in-Destroyer.result ∷ y ∷ []) (sym c.push_entry.ensures) in
    subst (λ (s : Seen). Appended s (seen c.push-in-Destroyer-2.new.self c.self.inside.opts c.self.inside.input.items) (rows s w.processor w.task w.ticks w.line (ask.Accept c.args.object c.args.site c.args.mask))) c.self.view_is (several.told_two c.self.inside.journal c.push-in-Destroyer.new.self c.push-in-Destroyer-2.new.self c.self.inside.opts c.self.inside.input.items c.accept_entry-in-Destroyer.result c.push_entry.result _ c.push-in-Destroyer.ensures c.push-in-Destroyer-2.ensures same)
