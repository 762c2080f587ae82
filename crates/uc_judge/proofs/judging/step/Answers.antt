use Rattle.std.proofs.Common.{◌≡◌, [], ◌∷◌, ◌++◌, refl, ap, sym, ◌∙◌, subst, arith, length, length-append}
use Rattle.uc_acts.specs.Queues.{running}
use Rattle.uc_acts.specs.Acts.{lone_limit}
use Rattle.uc_judge.specs.Ledgers.{Adds}
use Rattle.uc_judge.specs.Runs.{cause_of, GoesWrong, IsVerdict}
use Rattle.uc_judge.specs.Scheduled.{only_of}
use Rattle.uc_judge.proofs.Steps.{gives_more, stand_given, end_given, no_dispatch, no_actor, next_here, here_within}
use Rattle.uc_judge.proofs.judging.step.Goals as goal

pub overflow_cast-result : goal.overflow_cast-result
overflow_cast-result g c =
    let l = c.args.ledger.now.entries.ok.0 in
    let i = c.len-from.ensures in
    let at : c.len-from.result ≡ length c.args.ledger.now.entries.items = omega (arith, l, i) in
    let n = here_within c.requires.ready in
    let m = at in
    omega (arith, n, m)

pub overflow_cast-result-in-None : goal.overflow_cast-result-in-None
overflow_cast-result-in-None g c =
    let l = c.args.ledger.now.entries.ok.0 in
    let i = c.len-from.ensures in
    let at : c.len-from.result ≡ length c.args.ledger.now.entries.items = omega (arith, l, i) in
    let n = here_within c.requires.ready in
    let m = at in
    omega (arith, n, m)

pub returns-then-not-may_give-clause-comes : goal.returns-then-not-may_give-clause-comes
returns-then-not-may_give-clause-comes g c first s =
    let l = c.args.ledger.now.entries.ok.0 in
    let i = c.len-from.ensures in
    let at : c.len-from.result ≡ length c.args.ledger.now.entries.items = omega (arith, l, i) in
    let cause = cause_of g.A.Asks.asks g.A.Asks.told first c.args.sites.now c.args.input.now c.args.lines in
    subst (GoesWrong cause c.args.journal.now) (sym at) (no_dispatch cause g.met.A.Asks.once g.met.A.Asks.whole c.requires.ready s c.next_in-e.result _ c.next_in-e.ensures (sym c.is_dispatch.ensures ∙ c.if-is_dispatch.true) (c.may_give.ensures.no c.if-not-may_give.true c.args.sites.now c.requires.ready.ledger))

pub add-requires-clause-fit : goal.add-requires-clause-fit
add-requires-clause-fit g c = c.dispatch.ensures.fit

pub add-requires-clause-narrow : goal.add-requires-clause-narrow
add-requires-clause-narrow g c = c.dispatch.ensures.narrow

pub add-requires-clause-ledger : goal.add-requires-clause-ledger
add-requires-clause-ledger g c = c.requires.ready.ledger

pub returns-then-is_dispatch-clause-comes : goal.returns-then-is_dispatch-clause-comes
returns-then-is_dispatch-clause-comes g c first s =
    let may = c.may_give.ensures.yes c.if-not-may_give.false c.args.sites.now c.requires.ready.ledger in
    stand_given c.requires.ready s c.next_in-e.result _ c.next_in-e.result.proc c.next_in-e.result.task c.next_in-e.ensures may (c.in_ok-add.ensures.entries ∙ ap (λ d. c.args.ledger.now.entries.items ++ d ∷ []) c.dispatch.ensures.is) c.in_ok-add.ensures.opts

pub returns-then-is_dispatch-clause-keeps : goal.returns-then-is_dispatch-clause-keeps
returns-then-is_dispatch-clause-keeps g c =
    let may = c.may_give.ensures.yes c.if-not-may_give.false c.args.sites.now c.requires.ready.ledger in
    gives_more c.requires.ready (subst (λ d. Adds c.args.ledger.now c.add.new.self c.args.sites.now (d ∷ [])) c.dispatch.ensures.is c.in_ok-add.ensures) may.room

pub ended-requires : goal.ended-requires
ended-requires g c =
    let n = here_within c.requires.ready in
    let m = ap length c.in_ok-stop.ensures.entries in
    let l = length-append c.args.ledger.now.entries.items (lone_limit ∷ []) in
    omega (arith, n, m, l)

pub returns-then-may_stop-clause-comes : goal.returns-then-may_stop-clause-comes
returns-then-may_stop-clause-comes g c first s =
    let cause = cause_of g.A.Asks.asks g.A.Asks.told first c.args.sites.now c.args.input.now c.args.lines in
    let may = c.may_stop.ensures.yes c.if-may_stop.true c.args.sites.now c.requires.ready.ledger in
    subst (IsVerdict cause c.args.journal.now) (sym c.ended.ensures) (end_given c.stop.new.self g.met.A.Asks.once g.met.A.Asks.whole c.requires.ready s c.next_in-e.result _ c.next_in-e.ensures may c.in_ok-stop.ensures.entries c.in_ok-stop.ensures.opts)

pub follow-requires-clause-ready : goal.follow-requires-clause-ready
follow-requires-clause-ready g c = c.requires.ready

pub follow-requires-clause-short : goal.follow-requires-clause-short
follow-requires-clause-short g c = c.requires.short

pub follow-requires-clause-more : goal.follow-requires-clause-more
follow-requires-clause-more g c = c.requires.more

pub follow-requires-clause-next : goal.follow-requires-clause-next
follow-requires-clause-next g c =
    next_here c.next_in-e.ensures (sym c.is_dispatch.ensures ∙ c.if-is_dispatch.false) (c.may_stop.ensures.no c.if-may_stop.false c.args.sites.now c.requires.ready.ledger) (sym (c.only_running.ensures c.args.ledger.now.entries.items c.requires.ready.ledger.schedule) ∙ c.in-Some.is)

pub returns-in_ok-comes-in-Some-clause-comes : goal.returns-in_ok-comes-in-Some-clause-comes
returns-in_ok-comes-in-Some-clause-comes g c first s = c.in_ok-comes-in-Some.ensures.comes first s

pub returns-in_ok-comes-in-Some-clause-keeps : goal.returns-in_ok-comes-in-Some-clause-keeps
returns-in_ok-comes-in-Some-clause-keeps g c = c.in_ok-comes-in-Some.ensures.keeps

pub returns-in-None-clause-comes : goal.returns-in-None-clause-comes
returns-in-None-clause-comes g c first s =
    let l = c.args.ledger.now.entries.ok.0 in
    let i = c.len-from.ensures in
    let at : c.len-from.result ≡ length c.args.ledger.now.entries.items = omega (arith, l, i) in
    let cause = cause_of g.A.Asks.asks g.A.Asks.told first c.args.sites.now c.args.input.now c.args.lines in
    subst (GoesWrong cause c.args.journal.now) (sym at) (no_actor cause g.met.A.Asks.once g.met.A.Asks.whole c.requires.ready s c.next_in-e.result _ c.next_in-e.ensures (sym c.is_dispatch.ensures ∙ c.if-is_dispatch.false) (c.may_stop.ensures.no c.if-may_stop.false c.args.sites.now c.requires.ready.ledger) (sym c.in-None.is ∙ c.only_running.ensures c.args.ledger.now.entries.items c.requires.ready.ledger.schedule))
