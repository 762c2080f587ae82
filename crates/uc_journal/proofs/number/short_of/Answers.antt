use Rattle.std.proofs.Common.{◌≡◌, ◌<◌, ◌≤◌, get_or, take, ◌∙◌, ap, arith}
use Rattle.std.specs.List.{prefix_len}
use Rattle.std.proofs.lemmas.List.{take_rest}
use Rattle.uc_tree.specs.Bytes.{is_digit}
use Rattle.uc_tree.specs.Tokens.{value_of}
use Rattle.uc_journal.proofs.Digits.{natural_of}
use Rattle.uc_journal.proofs.number.short_of.Goals as goal
use Rattle.uc_journal.proofs.number.short_of.Goals.{else-text-eq48-via-then-text-eq48+else-count-gt1, else-text-eq48-via-else-text-eq48}

pub returns-clause-number : goal.returns-clause-number
returns-clause-number c =
    let count : prefix_len is_digit c.args.text.now ≡ c.args.count = c.requires.count in
    let some : 0 < prefix_len is_digit c.args.text.now = omega (arith, count, c.if-count-eq0.false) in
    let plain : get_or c.args.text.now 0 0 ≡ 48 → prefix_len is_digit c.args.text.now ≤ 1 =
    λ e. elim c.else-text-eq48.branch [ else-text-eq48-via-then-text-eq48+else-count-gt1 w ↦ omega (arith, count, w.if-count-gt1.false) | else-text-eq48-via-else-text-eq48 w ↦ absurd (w.if-text-eq48.false e) ] in
    rw (take_rest, ← count)
    (natural_of c.args.text.now c.args.value some plain (ap (λ k. value_of (take k c.args.text.now)) count ∙ c.requires.value) (omega (arith, c.requires.small)))
