use Rattle.std.proofs.Common.{sym, ◌∙◌}
use Rattle.std.specs.Prelude.{option_map}
use Rattle.uc_judge.specs.Offers.{as_met}
use Rattle.uc_judge.proofs.Offering.{met_here, met_unlisted, met_masked, mapped_some}
use Rattle.uc_judge.proofs.offers.met_among.Goals.{then-has_bit+else-is_some, else-has_bit}
use Rattle.uc_judge.proofs.offers.met_among.Goals as goal

pub returns-then-is_some : goal.returns-then-is_some
returns-then-is_some c =
    met_here c.args.mask c.args.waiting.now c.args.clauses.now c.loop-at.at c.index-clauses-at.result c.loop-at-test.true c.index-clauses-at.is (sym c.has_bit.ensures.value ∙ c.if-has_bit.true) (option_map as_met c.met_by_clause-taken.result) c.met_by_clause-taken.ensures (mapped_some as_met c.met_by_clause-taken.result ∙ sym c.is_some.ensures ∙ c.if-is_some.true)
    ∙ sym c.loop-at.invariant

pub loop-at-preserved : goal.loop-at-preserved
loop-at-preserved c =
    elim c.if-has_bit.branch [
      | then-has_bit+else-is_some w ↦ c.loop-at.invariant ∙ met_unlisted c.args.mask c.args.waiting.now c.args.clauses.now c.loop-at.at c.index-clauses-at.result c.loop-at-test.true c.index-clauses-at.is (sym c.has_bit.ensures.value ∙ w.if-has_bit.true) (option_map as_met w.met_by_clause-taken.result) w.met_by_clause-taken.ensures (mapped_some as_met w.met_by_clause-taken.result ∙ sym w.is_some.ensures ∙ w.if-is_some.false)
      | else-has_bit w ↦ c.loop-at.invariant ∙ met_masked c.args.mask c.args.waiting.now c.args.clauses.now c.loop-at.at c.index-clauses-at.result c.loop-at-test.true c.index-clauses-at.is (sym c.has_bit.ensures.value ∙ w.if-has_bit.false)
    ]
