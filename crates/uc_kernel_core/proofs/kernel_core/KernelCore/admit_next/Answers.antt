use Rattle.std.proofs.Common.{◌≡◌, ◌<◌, ◌∷◌, [], false, sym, ap, ◌∙◌, subst, arith}
use Rattle.uc_acts.specs.Journal.{inside, is_over, is_ending, no_cost}
use Rattle.uc_acts.specs.Queues.{next}
use Rattle.uc_acts.specs.Known.{object_count}
use Rattle.uc_acts.specs.Acts.{fault, settled, admission}
use Rattle.uc_mutex.specs.Doors.{door_at, after_next}
use Rattle.uc_kernel_journal.specs.JournalSums.{Told}
use Rattle.uc_kernel_journal.proofs.Tellings.{over_push}
use Rattle.uc_kernel_core.specs.Mirrors.{Seen, seen, Appended, IsAside}
use Rattle.uc_kernel_core.proofs.Letting as letting
use Rattle.uc_kernel_core.proofs.Asks as asks
use Rattle.uc_kernel_core.proofs.kernel_core.KernelCore.admit_next.Goals as goal

pub next-requires : goal.next-requires
next-requires c =
    let going = subst (λ (s : Seen). is_over s.journal ≡ false) (sym c.self.view_is) c.requires.going in
    let known = subst (λ (s : Seen). c.args.object < object_count s.journal) (sym c.self.view_is) c.requires.known in
    let m = c.self.invariant.mirrors going in
    record { object = letting.known_door _ _ _ _ _ _ _ _ _ _ _ m c.args.object known }

pub index-mark-requires : goal.index-mark-requires
index-mark-requires c =
    let going = subst (λ (s : Seen). is_over s.journal ≡ false) (sym c.self.view_is) c.requires.going in
    let known = subst (λ (s : Seen). c.args.object < object_count s.journal) (sym c.self.view_is) c.requires.known in
    let m = c.self.invariant.mirrors going in
    let empty = subst (λ (s : Seen). inside c.args.object s.journal ≡ []) (sym c.self.view_is) c.requires.empty in
    let n = c.in-Some.passed in
    let is = sym c.in-Some.is ∙ c.next.ensures.value in
    let lt = letting.task_mark _ _ _ _ _ _ _ _ _ _ _ m c.args.object known n.task (letting.task_of _ _ _ _ _ _ _ _ _ _ _ m c.args.object known empty n is) in
    let ok = c.self.inside.marks.ok in
    omega arith

pub invariant_of-self : goal.invariant_of-self
invariant_of-self c =
    let going = subst (λ (s : Seen). is_over s.journal ≡ false) (sym c.self.view_is) c.requires.going in
    let known = subst (λ (s : Seen). c.args.object < object_count s.journal) (sym c.self.view_is) c.requires.known in
    let m = c.self.invariant.mirrors going in
    let empty = subst (λ (s : Seen). inside c.args.object s.journal ≡ []) (sym c.self.view_is) c.requires.empty in
    let none = letting.nobody _ _ _ _ _ _ _ _ _ _ _ m c.args.object known empty (sym c.in-None.is ∙ c.next.ensures.value) in
    record {
      mirrors = λ _. rw c.next.ensures.door (letting.still_there _ _ _ _ _ _ _ _ _ _ _ m c.args.object (after_next (door_at c.self.inside.entries c.args.object)) none.1);
      space = c.self.invariant.space;
      tasks = c.self.invariant.tasks;
    }

pub invariant_of-self-then-destroys_busy : goal.invariant_of-self-then-destroys_busy
invariant_of-self-then-destroys_busy c =
    let old = c.self.invariant in
    record {
      mirrors = λ h. over_push c.self.inside.journal.journal c.busy_entry.result (ap (λ e. is_ending e.kind) c.busy_entry.ensures) (sym (ap (λ (v : Told). is_over v.journal) c.push.ensures) ∙ h);
      space = rw c.push.ensures old.space;
      tasks = rw c.push.ensures old.tasks;
    }

pub push-requires-in-Some-clause-task : goal.push-requires-in-Some-clause-task
push-requires-in-Some-clause-task c =
    let going = subst (λ (s : Seen). is_over s.journal ≡ false) (sym c.self.view_is) c.requires.going in
    let known = subst (λ (s : Seen). c.args.object < object_count s.journal) (sym c.self.view_is) c.requires.known in
    let m = c.self.invariant.mirrors going in
    let empty = subst (λ (s : Seen). inside c.args.object s.journal ≡ []) (sym c.self.view_is) c.requires.empty in
    let n = c.in-Some.passed in
    let is = sym c.in-Some.is ∙ c.next.ensures.value in
    rw (c.next_entry.ensures, c.self.invariant.tasks) (letting.task_known _ _ _ _ _ _ _ _ _ _ _ m c.args.object known n.task (letting.task_of _ _ _ _ _ _ _ _ _ _ _ m c.args.object known empty n is))

pub ready-requires-clause-task : goal.ready-requires-clause-task
ready-requires-clause-task c =
    let going = subst (λ (s : Seen). is_over s.journal ≡ false) (sym c.self.view_is) c.requires.going in
    let known = subst (λ (s : Seen). c.args.object < object_count s.journal) (sym c.self.view_is) c.requires.known in
    let m = c.self.invariant.mirrors going in
    let empty = subst (λ (s : Seen). inside c.args.object s.journal ≡ []) (sym c.self.view_is) c.requires.empty in
    let n = c.in-Some.passed in
    let is = sym c.in-Some.is ∙ c.next.ensures.value in
    letting.task_placed _ _ _ _ _ _ _ _ _ _ _ m c.args.object known n.task (letting.task_of _ _ _ _ _ _ _ _ _ _ _ m c.args.object known empty n is)

pub ready-requires-clause-placed : goal.ready-requires-clause-placed
ready-requires-clause-placed c =
    let going = subst (λ (s : Seen). is_over s.journal ≡ false) (sym c.self.view_is) c.requires.going in
    let known = subst (λ (s : Seen). c.args.object < object_count s.journal) (sym c.self.view_is) c.requires.known in
    let m = c.self.invariant.mirrors going in
    let empty = subst (λ (s : Seen). inside c.args.object s.journal ≡ []) (sym c.self.view_is) c.requires.empty in
    let n = c.in-Some.passed in
    let is = sym c.in-Some.is ∙ c.next.ensures.value in
    letting.next_placed _ _ _ _ _ _ _ _ _ _ _ m c.args.object known empty n is

pub ready-requires-clause-unready : goal.ready-requires-clause-unready
ready-requires-clause-unready c =
    let going = subst (λ (s : Seen). is_over s.journal ≡ false) (sym c.self.view_is) c.requires.going in
    let known = subst (λ (s : Seen). c.args.object < object_count s.journal) (sym c.self.view_is) c.requires.known in
    let m = c.self.invariant.mirrors going in
    let empty = subst (λ (s : Seen). inside c.args.object s.journal ≡ []) (sym c.self.view_is) c.requires.empty in
    let n = c.in-Some.passed in
    let is = sym c.in-Some.is ∙ c.next.ensures.value in
    letting.next_unready _ _ _ _ _ _ _ _ _ _ _ m c.args.object known empty n is

pub invariant_of-self-in-Some : goal.invariant_of-self-in-Some
invariant_of-self-in-Some c =
    let going = subst (λ (s : Seen). is_over s.journal ≡ false) (sym c.self.view_is) c.requires.going in
    let known = subst (λ (s : Seen). c.args.object < object_count s.journal) (sym c.self.view_is) c.requires.known in
    let m = c.self.invariant.mirrors going in
    let empty = subst (λ (s : Seen). inside c.args.object s.journal ≡ []) (sym c.self.view_is) c.requires.empty in
    let n = c.in-Some.passed in
    let is = sym c.in-Some.is ∙ c.next.ensures.value in
    let aside = subst (λ (s : Seen). IsAside c.args.who.task c.args.object s.journal) (sym c.self.view_is) c.requires.aside in
    let mark = letting.mark_of _ _ _ _ _ _ _ _ _ _ _ m c.args.object known empty n is c.index-mark.result.now _ c.index-mark.ensures in
    let old = c.self.invariant in
    record {
      mirrors = λ _. rw (c.push-in-Some.ensures, c.next_entry.ensures, c.next.ensures.door, c.ready.ensures) (letting.let_next _ _ _ _ _ _ _ _ _ _ _ m c.args.object known empty n is c.args.who.task c.args.who.processor c.index-mark.result.now aside mark);
      space = rw c.push-in-Some.ensures old.space;
      tasks = rw c.push-in-Some.ensures old.tasks;
    }

pub returns-in-None : goal.returns-in-None
returns-in-None c =
    let going = subst (λ (s : Seen). is_over s.journal ≡ false) (sym c.self.view_is) c.requires.going in
    let known = subst (λ (s : Seen). c.args.object < object_count s.journal) (sym c.self.view_is) c.requires.known in
    let m = c.self.invariant.mirrors going in
    let empty = subst (λ (s : Seen). inside c.args.object s.journal ≡ []) (sym c.self.view_is) c.requires.empty in
    let none = letting.nobody _ _ _ _ _ _ _ _ _ _ _ m c.args.object known empty (sym c.in-None.is ∙ c.next.ensures.value) in
    subst (λ (s : Seen). Appended s (seen c.self.inside.journal c.self.inside.opts c.self.inside.input.items) (settled (fault c.args.who.processor c.args.who.task no_cost 10 c.args.who.line) s.journal (admission s.sites c.args.who.processor c.args.object s.journal (next c.args.object s.journal)))) c.self.view_is (rw none.0 (asks.appended_none (seen c.self.inside.journal c.self.inside.opts c.self.inside.input.items)))

pub returns-then-destroys_busy : goal.returns-then-destroys_busy
returns-then-destroys_busy c =
    let going = subst (λ (s : Seen). is_over s.journal ≡ false) (sym c.self.view_is) c.requires.going in
    let known = subst (λ (s : Seen). c.args.object < object_count s.journal) (sym c.self.view_is) c.requires.known in
    let m = c.self.invariant.mirrors going in
    let empty = subst (λ (s : Seen). inside c.args.object s.journal ≡ []) (sym c.self.view_is) c.requires.empty in
    let n = c.in-Some.passed in
    let is = sym c.in-Some.is ∙ c.next.ensures.value in
    let aside = subst (λ (s : Seen). IsAside c.args.who.task c.args.object s.journal) (sym c.self.view_is) c.requires.aside in
    let mark = letting.mark_of _ _ _ _ _ _ _ _ _ _ _ m c.args.object known empty n is c.index-mark.result.now _ c.index-mark.ensures in
    let row = letting.row_cut _ _ _ _ _ _ _ _ _ _ _ m c.args.object known empty n is c.args.who.task c.args.who.processor c.index-mark.result.now aside mark (fault c.args.who.processor c.args.who.task no_cost 10 c.args.who.line) c.next.new.self c.next.ensures.door (c.destroys_busy.ensures.yes c.if-destroys_busy.true) in
    subst (λ (s : Seen). Appended s (seen c.push.new.self c.self.inside.opts c.self.inside.input.items) (settled (fault c.args.who.processor c.args.who.task no_cost 10 c.args.who.line) s.journal (admission s.sites c.args.who.processor c.args.object s.journal (next c.args.object s.journal)))) c.self.view_is (asks.told_rows c.self.inside.journal c.push.new.self c.self.inside.opts c.self.inside.input.items c.busy_entry.result _ c.push.ensures (row ∙ ap (λ e. e ∷ []) (sym c.busy_entry.ensures)))

pub returns-else-destroys_busy : goal.returns-else-destroys_busy
returns-else-destroys_busy c =
    let going = subst (λ (s : Seen). is_over s.journal ≡ false) (sym c.self.view_is) c.requires.going in
    let known = subst (λ (s : Seen). c.args.object < object_count s.journal) (sym c.self.view_is) c.requires.known in
    let m = c.self.invariant.mirrors going in
    let empty = subst (λ (s : Seen). inside c.args.object s.journal ≡ []) (sym c.self.view_is) c.requires.empty in
    let n = c.in-Some.passed in
    let is = sym c.in-Some.is ∙ c.next.ensures.value in
    let aside = subst (λ (s : Seen). IsAside c.args.who.task c.args.object s.journal) (sym c.self.view_is) c.requires.aside in
    let mark = letting.mark_of _ _ _ _ _ _ _ _ _ _ _ m c.args.object known empty n is c.index-mark.result.now _ c.index-mark.ensures in
    let row = letting.row_kept _ _ _ _ _ _ _ _ _ _ _ m c.args.object known empty n is c.args.who.task c.args.who.processor c.index-mark.result.now aside mark (fault c.args.who.processor c.args.who.task no_cost 10 c.args.who.line) c.next.new.self c.next.ensures.door (c.destroys_busy.ensures.no c.if-destroys_busy.false) in
    subst (λ (s : Seen). Appended s (seen c.push-in-Some.new.self c.self.inside.opts c.self.inside.input.items) (settled (fault c.args.who.processor c.args.who.task no_cost 10 c.args.who.line) s.journal (admission s.sites c.args.who.processor c.args.object s.journal (next c.args.object s.journal)))) c.self.view_is (asks.told_rows c.self.inside.journal c.push-in-Some.new.self c.self.inside.opts c.self.inside.input.items c.next_entry.result _ c.push-in-Some.ensures (row ∙ ap (λ e. e ∷ []) (sym c.next_entry.ensures)))
