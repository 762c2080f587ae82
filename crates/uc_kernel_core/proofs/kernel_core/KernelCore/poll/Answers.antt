use Rattle.std.proofs.Common.{◌≡◌, ◌∙◌, ◌∷◌, [], sym, ap, subst, rules}
use Rattle.uc_acts.specs.Journal.{cost, no_cost}
use Rattle.uc_acts.specs.Acts.{fault, poll_entry}
use Rattle.uc_acts.specs.Pending.{pending, oldest_in}
use Rattle.uc_acts.specs.Legal.{Legal}
use Rattle.uc_entry.specs.declared.entry.Entry.{Entry}
use Rattle.uc_entry.specs.declared.request.Request.TheVariants as ask
use Rattle.uc_events.specs.Pending.{pending_at}
use Rattle.uc_kernel_journal.specs.EntryAnswers.{IsSayable}
use Rattle.uc_kernel_core.specs.Mirrors.{MayAct, Seen, Appended, seen, rows, is_still}
use Rattle.uc_kernel_core.proofs.Asks as asks
use Rattle.uc_kernel_core.proofs.Steps as steps
use Rattle.uc_kernel_core.proofs.kernel_core.KernelCore.poll.Goals as goal

pub poll-found-requires : goal.poll-found-requires
poll-found-requires c =
    let may = subst (λ (s : Seen). MayAct s c.args.who.processor c.args.who.task) (sym c.self.view_is) c.requires.may in
    let m = c.self.invariant.mirrors may.going in
    record { task = steps.event_known _ _ _ _ _ _ _ _ _ _ _ m c.args.who.processor c.args.who.task may.runs }

pub push-requires-clause-sayable : goal.push-requires-clause-sayable
push-requires-clause-sayable c =
    let w = c.args.who in
    subst (λ (e : Entry). IsSayable c.self.inside.journal.tasks e.kind e) (sym c.poll_entry.ensures) (asks.poll_sayable c.self.inside.journal.tasks w.processor w.task (cost w.ticks w.line) c.args.mask c.poll-found.result (search rules))

pub invariant_of-self : goal.invariant_of-self
invariant_of-self c =
    let may = subst (λ (s : Seen). MayAct s c.args.who.processor c.args.who.task) (sym c.self.view_is) c.requires.may in
    let m = c.self.invariant.mirrors may.going in
    let w = c.args.who in
    let old = c.self.invariant in
    let is : c.poll_entry.result ≡ poll_entry w.processor w.task (cost w.ticks w.line) c.args.mask (oldest_in c.args.mask (pending_at c.self.inside.events w.task)) = c.poll_entry.ensures ∙ ap (poll_entry w.processor w.task (cost w.ticks w.line) c.args.mask) c.poll-found.ensures.value in
    let legal = subst (λ (e : Entry). Legal e c.self.inside.journal.journal) (sym c.poll_entry.ensures) (asks.poll_can (seen c.self.inside.journal c.self.inside.opts c.self.inside.input.items) w.processor w.task (cost w.ticks w.line) c.args.mask c.poll-found.result) in
    let still = ap (λ (e : Entry). is_still e.kind) c.poll_entry.ensures ∙ asks.poll_still w.processor w.task (cost w.ticks w.line) c.args.mask c.poll-found.result in
    record {
      mirrors = λ _. rw (c.push.ensures, c.poll-found.ensures.events) (steps.m_poll _ _ _ _ _ _ _ _ _ _ _ m w.processor w.task (cost w.ticks w.line) c.args.mask may.runs c.poll_entry.result is legal still);
      space = rw c.push.ensures old.space;
      tasks = rw c.push.ensures old.tasks;
    }

pub returns : goal.returns
returns c =
    let may = subst (λ (s : Seen). MayAct s c.args.who.processor c.args.who.task) (sym c.self.view_is) c.requires.may in
    let m = c.self.invariant.mirrors may.going in
    let w = c.args.who in
    let found = c.poll-found.ensures.value ∙ steps.poll_found _ _ _ _ _ _ _ _ _ _ _ m w.processor w.task c.args.mask may.runs in
    let v = seen c.self.inside.journal c.self.inside.opts c.self.inside.input.items in
    let row = asks.poll_settled (fault w.processor w.task no_cost 10 w.line) v.journal w.processor w.task (cost w.ticks w.line) c.args.mask (oldest_in c.args.mask (pending w.task v.journal)) ∙ ap (λ x. poll_entry w.processor w.task (cost w.ticks w.line) c.args.mask x ∷ []) (sym found) ∙ ap (λ e. e ∷ []) (sym c.poll_entry.ensures) in
    subst (λ (s : Seen). Appended s (seen c.push.new.self c.self.inside.opts c.self.inside.input.items) (rows s w.processor w.task w.ticks w.line (ask.Poll c.args.mask))) c.self.view_is (asks.told_rows c.self.inside.journal c.push.new.self c.self.inside.opts c.self.inside.input.items c.poll_entry.result _ c.push.ensures row)
