use Rattle.std.proofs.Common.{refl, ap}
use Rattle.std.proofs.lemmas.Result.{IfOk-at_ok}
use Rattle.uc_kernel_journal.specs.JournalSums.{Told}
use Rattle.uc_kernel_core.specs.Mirrors.{seen}
use Rattle.uc_kernel_core.proofs.Opening as opening
use Rattle.uc_kernel_core.proofs.kernel_core.KernelCore.open.Goals as goal

pub invariant_of-result : goal.invariant_of-result
invariant_of-result c =
    let all = c.in_ok-queues.ensures.made in
    let parts = IfOk-at_ok _ all.0 c.both-parts.ensures.made in
    let ones = IfOk-at_ok _ parts.0 c.both.ensures.made in
    let tables = IfOk-at_ok _ parts.1 c.both-2.ensures.made in
    let queues = IfOk-at_ok _ ones.0 c.both-queues.ensures.made in
    let places = IfOk-at_ok _ ones.1 c.both-places.ensures.made in
    let by_task = IfOk-at_ok _ tables.0 c.both-by_task.ensures.made in
    let by_object = IfOk-at_ok _ tables.1 c.both-by_object.ensures.made in
    let journal = IfOk-at_ok _ all.1 c.new-journal.ensures in
    let room = IfOk-at_ok _ queues.0 c.first_entries.ensures.room in
    let doors = IfOk-at_ok _ queues.0 c.first_entries.ensures.doors in
    let w = IfOk-at_ok _ queues.1 c.first_conditions.ensures in
    let events = IfOk-at_ok _ places.0 c.first_events.ensures in
    let clusters = IfOk-at_ok _ places.1 c.first_clusters.ensures in
    let marks = IfOk-at_ok _ by_task.0 c.no_marks.ensures in
    let own = IfOk-at_ok _ by_task.1 c.first_objects.ensures in
    let inside_marks = IfOk-at_ok _ by_object.0 c.no_marks-2.ensures in
    let owners = IfOk-at_ok _ by_object.1 c.first_owners.ensures in
    record {
      mirrors = λ _. rw (journal, doors, events, clusters, marks, inside_marks, owners, own) (opening.mirrors_begin c.args.sites.items c.requires.sites c.args.opts.now 65536 _ refl room _ w.0 w.1 w.2);
      space = rw journal refl;
      tasks = rw journal refl;
    }

pub returns : goal.returns
returns c = ap (λ (v : Told). seen v c.args.opts.now c.args.input.items) (IfOk-at_ok _ c.in_ok-queues.ensures.made.1 c.new-journal.ensures)
