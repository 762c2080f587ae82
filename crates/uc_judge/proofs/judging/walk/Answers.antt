use Rattle.std.proofs.Common.{◌≡◌, refl, ap, sym, ◌∙◌, subst, arith, length}
use Rattle.uc_judge.specs.Runs.{cause_of, GoesWrong, IsVerdict}
use Rattle.uc_judge.specs.Walks.{Comes, Keeps}
use Rattle.uc_judge.proofs.Steps.{wrong_unended, here_within}
use Rattle.uc_judge.proofs.judging.walk.Goals as goal

pub loop-ledger-init : goal.loop-ledger-init
loop-ledger-init g c = (c.requires.ready, λ first s. s)

pub step-requires-clause-ready : goal.step-requires-clause-ready
step-requires-clause-ready g c = c.loop-ledger.invariant.0

pub returns-in-Some : goal.returns-in-Some
returns-in-Some g c first s =
    let cause = cause_of g.A.Asks.asks g.A.Asks.told first c.args.sites.now c.args.input.now c.args.lines in
    subst (λ o. Comes cause c.step.new.ledger c.step.new.tasks c.args.journal.now o) c.in-Some.is (c.in_ok-verdict.ensures.comes first (c.loop-ledger.invariant.1 first s))

pub loop-ledger-preserved : goal.loop-ledger-preserved
loop-ledger-preserved g c =
    let keeps = subst (λ o. Keeps c.loop-ledger.ledger c.step.new.ledger c.args.sites.now o) c.in-None.is c.in_ok-verdict.ensures.keeps in
    (keeps.ready, λ first s. subst (λ o. Comes (cause_of g.A.Asks.asks g.A.Asks.told first c.args.sites.now c.args.input.now c.args.lines) c.step.new.ledger c.step.new.tasks c.args.journal.now o) c.in-None.is (c.in_ok-verdict.ensures.comes first (c.loop-ledger.invariant.1 first s)))

pub loop-ledger-smaller : goal.loop-ledger-smaller
loop-ledger-smaller g c =
    let keeps = subst (λ o. Keeps c.loop-ledger.ledger c.step.new.ledger c.args.sites.now o) c.in-None.is c.in_ok-verdict.ensures.keeps in
    let more = keeps.more in
    let lt = c.loop-ledger-test.true in
    omega (arith, more, lt)

pub overflow_cast-result : goal.overflow_cast-result
overflow_cast-result g c = let n = here_within c.loop-ledger.invariant.0 in omega (arith, n)

pub returns : goal.returns
returns g c first s =
    let cause = cause_of g.A.Asks.asks g.A.Asks.told first c.args.sites.now c.args.input.now c.args.lines in
    let le = c.loop-ledger-test.false in
    let l = c.loop-ledger.ledger.entries.ok.0 in
    let i = c.len-2.ensures in
    let at : length c.loop-ledger.ledger.entries.items ≡ c.len-2.result = omega (arith, l, i) in
    subst (GoesWrong cause c.args.journal.now) at (wrong_unended cause g.met.A.Asks.once g.met.A.Asks.whole c.loop-ledger.invariant.0 (c.loop-ledger.invariant.1 first s) (omega (arith, le)))
