use Rattle.std.proofs.Common.{◌≡◌, [], ◌∷◌, ◌++◌, refl, ap, sym, ◌∙◌, subst, drop}
use Rattle.uc_acts.specs.Journal.{begin}
use Rattle.uc_judge.specs.Runs.{cause_of}
use Rattle.uc_judge.proofs.Beginnings.{wrong_first, stands_first, ready_first, made_first, told_first}
use Rattle.uc_judge.proofs.judging.judge.Goals as goal

pub begin-requires : goal.begin-requires
begin-requires g c = c.in-Some.ensures.range.ticks_max

pub add-requires-clause-fit : goal.add-requires-clause-fit
add-requires-clause-fit g c = c.begin.ensures.fit

pub add-requires-clause-narrow : goal.add-requires-clause-narrow
add-requires-clause-narrow g c = c.begin.ensures.narrow

pub add-requires-clause-ledger : goal.add-requires-clause-ledger
add-requires-clause-ledger g c = c.in_ok-ledger-in-Some.ensures.ledger c.args.sites.now

pub walk-requires-clause-ready : goal.walk-requires-clause-ready
walk-requires-clause-ready g c =
    ready_first c.add.new.self c.args.sites.now c.in-Some.opts c.in-Some.ensures.range (c.in_ok-add-in-Some.ensures.opts ∙ c.in_ok-ledger-in-Some.ensures.opts) (made_first c.in_ok-ledger-in-Some.ensures.entries c.in_ok-add-in-Some.ensures.entries c.begin.ensures.is) c.in_ok-add-in-Some.ensures.ledger

pub returns-in_ok-verdict-in-Some : goal.returns-in_ok-verdict-in-Some
returns-in_ok-verdict-in-Some g c =
    let cause = cause_of g.A.Asks.asks g.A.Asks.told c.args.first c.args.sites.now c.args.input.now c.args.lines in
    c.in_ok-verdict-in-Some.ensures c.args.first (stands_first cause c.add.new.self c.tell.new.tasks c.args.journal.now c.in-Some.opts _ c.in-Some.ensures.begins (c.in_ok-add-in-Some.ensures.opts ∙ c.in_ok-ledger-in-Some.ensures.opts) (made_first c.in_ok-ledger-in-Some.ensures.entries c.in_ok-add-in-Some.ensures.entries c.begin.ensures.is) (told_first g.A.Asks.told c.args.sites.now c.in_ok-tell-in-Some.ensures c.begin-in-Some.ensures.is))

pub returns-in-None : goal.returns-in-None
returns-in-None g c =
    wrong_first (cause_of g.A.Asks.asks g.A.Asks.told c.args.first c.args.sites.now c.args.input.now c.args.lines) c.args.journal.now c.in-None.ensures.none
