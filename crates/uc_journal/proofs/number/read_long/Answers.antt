use Rattle.std.proofs.Common.{◌≡◌, ◌<◌, ◌≤◌, get_or, take, sym, ◌∙◌, ap, arith}
use Rattle.std.specs.List.{prefix_len}
use Rattle.std.proofs.lemmas.List.{take_rest}
use Rattle.uc_tree.specs.Bytes.{is_digit}
use Rattle.uc_tree.specs.Tokens.{value_of}
use Rattle.uc_journal.proofs.Digits.{begins, natural_of, value}
use Rattle.uc_journal.proofs.number.read_long.Goals as goal
use Rattle.uc_journal.proofs.number.read_long.Goals.{else-count-gt1-via-then-count-gt1+else-text-eq48, else-count-gt1-via-else-count-gt1}

pub returns-then-count-eq0-clause-none : goal.returns-then-count-eq0-clause-none
returns-then-count-eq0-clause-none c n h rest a =
    absurd (omega (arith, (begins c.args.text.now n rest (omega arith) a).some, c.digit_length-count.ensures.digits, c.if-count-eq0.true))

pub returns-then-text-eq48-clause-none : goal.returns-then-text-eq48-clause-none
returns-then-text-eq48-clause-none c n h rest a =
    absurd (omega (arith, (begins c.args.text.now n rest (omega arith) a).plain c.if-text-eq48.true, c.digit_length-count.ensures.digits, c.if-count-gt1.true))

pub returns-in_default-clause-none : goal.returns-in_default-clause-none
returns-in_default-clause-none c n h rest a =
    let b = begins c.args.text.now n rest (omega arith) a in
    let same : value_of (take c.digit_length-count.result c.args.text.now) ≡ n = ap (λ k. value_of (take k c.args.text.now)) c.digit_length-count.ensures.digits ∙ ap value_of b.digits ∙ value n (omega arith) in
    absurd (omega (arith, c.in_default.ensures.wide, same))

pub returns-clause-number : goal.returns-clause-number
returns-clause-number c =
    let count : c.digit_length-count.result ≡ prefix_len is_digit c.args.text.now = c.digit_length-count.ensures.digits in
    let some : 0 < prefix_len is_digit c.args.text.now = omega (arith, c.if-count-eq0.false) in
    let plain : get_or c.args.text.now 0 0 ≡ 48 → prefix_len is_digit c.args.text.now ≤ 1 =
    λ e. elim c.else-count-gt1.branch [ else-count-gt1-via-then-count-gt1+else-text-eq48 w ↦ absurd (w.if-text-eq48.false e) | else-count-gt1-via-else-count-gt1 w ↦ omega (arith, w.if-count-gt1.false) ] in
    rw (take_rest, count)
    (natural_of c.args.text.now c.in-Some.value some plain (ap (λ k. value_of (take k c.args.text.now)) (sym count) ∙ sym c.in-Some.ensures.value) (omega (arith, c.in-Some.ensures.small)))
