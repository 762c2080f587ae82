use Rattle.std.proofs.Common.{pos, arith}
use Rattle.uc_entry.specs.declared.entry.EntryKind.TheVariants as kind
use Rattle.uc_acts.specs.Journal.{entry}
use Rattle.uc_judge.proofs.Compares.{goes_more, turns}
use Rattle.uc_judge.proofs.comparing.first_other.Goals as goal

pub returns-then-i-journal : goal.returns-then-i-journal
returns-then-i-journal c =
    let le = c.if-i-journal.true in
    turns c.args.lines c.args.made.now c.args.journal.now c.loop-i.i (entry kind.Done 0 0 0 0 (pos 0) (pos 0)) c.loop-i-test.true c.loop-i.invariant (λ lt e. omega (arith, lt, le))

pub returns-then-not-is_written : goal.returns-then-not-is_written
returns-then-not-is_written c =
    turns c.args.lines c.args.made.now c.args.journal.now c.loop-i.i _ c.loop-i-test.true c.loop-i.invariant (λ lt e. c.is_written.ensures.other c.if-not-is_written.true e)

pub loop-i-preserved : goal.loop-i-preserved
loop-i-preserved c =
    let lt = c.if-i-journal.false in
    goes_more c.args.lines c.args.made.now c.args.journal.now c.loop-i.i _ c.loop-i-test.true (omega (arith, lt)) c.loop-i.invariant (c.is_written.ensures.same c.if-not-is_written.false)
