use Rattle.std.proofs.Common.{◌≡◌, true, sym, ◌∙◌, arith}
use Rattle.uc_tree.specs.SiteOffers.{has_bit}
use Rattle.uc_events.proofs.Takes.{chosen, oldest_here, others_here, nowhere, all_others}
use Rattle.uc_events.proofs.raised.Raised.take.Goals as goal

pub returns-then-has_event-clause-value : goal.returns-then-has_event-clause-value
returns-then-has_event-clause-value c =
    let es = c.loop-at.self-inside.events.items in
    let e = c.remove.result in
    let yes : has_bit e.0 c.args.mask ≡ true = chosen c.args.mask c.loop-at.at es c.index.result.now e c.index.ensures c.remove.ensures.value (omega arith) (sym c.has_event.ensures ∙ c.if-has_event.true) in
    oldest_here c.args.mask c.loop-at.at es e (omega arith) c.remove.ensures.value yes ∙ sym c.loop-at.invariant.oldest

pub returns-then-has_event-clause-events : goal.returns-then-has_event-clause-events
returns-then-has_event-clause-events c =
    let es = c.loop-at.self-inside.events.items in
    let e = c.remove.result in
    let yes : has_bit e.0 c.args.mask ≡ true = chosen c.args.mask c.loop-at.at es c.index.result.now e c.index.ensures c.remove.ensures.value (omega arith) (sym c.has_event.ensures ∙ c.if-has_event.true) in
    c.remove.ensures.items ∙ others_here c.args.mask c.loop-at.at es e (omega arith) c.remove.ensures.value yes ∙ sym c.loop-at.invariant.others

pub returns-clause-value : goal.returns-clause-value
returns-clause-value c =
    nowhere c.args.mask c.loop-at.at c.loop-at.self-inside.events.items (omega arith) ∙ sym c.loop-at.invariant.oldest

pub returns-clause-events : goal.returns-clause-events
returns-clause-events c =
    all_others c.args.mask c.loop-at.at c.loop-at.self-inside.events.items (omega arith) ∙ sym c.loop-at.invariant.others
