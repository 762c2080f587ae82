use Rattle.std.proofs.Common.{ap, ◌∙◌}
use Rattle.uc_acts.specs.Journal.{inside}
use Rattle.uc_acts.specs.Queues.{is_nobody}
use Rattle.uc_acts.specs.Doors.{open_at}
use Rattle.uc_acts.specs.Acts.{called}
use Rattle.uc_judge.proofs.Signals.{call_settles, order_nobody, length_nobody}
use Rattle.uc_judge.proofs.ledger.Ledger.call.Goals as goal

pub returns : goal.returns
returns c =
    let j = c.args.self.now.entries.items in
    let h = c.requires.ledger in
    let a = c.args.actor in
    let o = c.args.object in
    call_settles a o c.args.member c.call.result (called c.args.sites.now a.processor a.task o c.args.member (inside o j) (open_at o j)) c.call.ensures.is c.in_ok-add.ensures (c.in_ok-let_in.ensures (inside o j) (open_at o j) (c.is_empty-is_free.ensures ∙ length_nobody c.inside.result.now ∙ ap is_nobody (c.inside.ensures j h.views) ∙ order_nobody (inside o j)) (c.open_at-accept.ensures j h.accepts))
