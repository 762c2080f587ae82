use Rattle.std.proofs.Common.{arith, drop, suc, get_or}
use Rattle.uc_tree.specs.Tokens.{with_digit}
use Rattle.uc_tree.proofs.Digits.{fold-with_digit-grows, fold-drop}
use Rattle.uc_tree.proofs.bytes.digits_value.Goals as goal

pub returns-then-value-most-clause-wide : goal.returns-then-value-most-clause-wide
returns-then-value-most-clause-wide c =
    rw (c.loop-digit.invariant.same, fold-drop with_digit c.loop-digit.value c.args.digits.now c.loop-digit.digit-index 0 c.loop-digit-test.true)
    (omega (arith, fold-with_digit-grows (with_digit c.loop-digit.value (get_or c.args.digits.now c.loop-digit.digit-index 0)) (drop (suc c.loop-digit.digit-index) c.args.digits.now), c.if-value-most.true))

pub returns-then-value-most-2-clause-wide : goal.returns-then-value-most-2-clause-wide
returns-then-value-most-2-clause-wide c =
    rw (c.loop-digit.invariant.same, fold-drop with_digit c.loop-digit.value c.args.digits.now c.loop-digit.digit-index 0 c.loop-digit-test.true)
    (omega (arith, fold-with_digit-grows (with_digit c.loop-digit.value (get_or c.args.digits.now c.loop-digit.digit-index 0)) (drop (suc c.loop-digit.digit-index) c.args.digits.now), c.saturating_sub.ensures, c.from-digit.ensures, c.if-value-most-2.true))
