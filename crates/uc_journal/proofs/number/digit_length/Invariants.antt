use Rattle.std.proofs.Common.{◌≡◌, ◌+◌, drop}
use Rattle.std.specs.List.{prefix_len}
use Rattle.uc_tree.specs.Bytes.{is_digit}
use Rattle.uc_journal.proofs.number.digit_length.Given as goal

-- all that was passed are digits
abbrev pub invariant-loop-i : goal.invariant-loop-i
invariant-loop-i l = prefix_len is_digit l.text ≡ l.i + prefix_len is_digit (drop l.i l.text)
