use Rattle.std.proofs.Common.{sym, ◌∙◌}
use Rattle.uc_judge.proofs.Offering.{clause_here, clause_unlisted, clause_masked}
use Rattle.uc_judge.proofs.offers.clause_among.Goals.{else-has_bit-via-then-has_bit+else-lists, else-has_bit-via-else-has_bit}
use Rattle.uc_judge.proofs.offers.clause_among.Goals as goal

pub returns-then-lists : goal.returns-then-lists
returns-then-lists c =
    sym (c.loop-at.invariant ∙ clause_here c.args.mask c.args.member c.args.clauses.now c.loop-at.at c.index-clauses-at.result c.loop-at-test.true c.index-clauses-at.is (sym c.has_bit.ensures.value ∙ c.if-has_bit.true) (sym c.lists.ensures ∙ c.if-lists.true))

pub loop-at-preserved : goal.loop-at-preserved
loop-at-preserved c =
    elim c.else-has_bit.branch [
      | else-has_bit-via-then-has_bit+else-lists w ↦ c.loop-at.invariant ∙ clause_unlisted c.args.mask c.args.member c.args.clauses.now c.loop-at.at c.index-clauses-at.result c.loop-at-test.true c.index-clauses-at.is (sym c.has_bit.ensures.value ∙ w.if-has_bit.true) (sym w.lists.ensures ∙ w.if-lists.false)
      | else-has_bit-via-else-has_bit w ↦ c.loop-at.invariant ∙ clause_masked c.args.mask c.args.member c.args.clauses.now c.loop-at.at c.index-clauses-at.result c.loop-at-test.true c.index-clauses-at.is (sym c.has_bit.ensures.value ∙ w.if-has_bit.false)
    ]
