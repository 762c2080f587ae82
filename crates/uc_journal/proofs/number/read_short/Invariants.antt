use Rattle.std.proofs.Common.{◌≡◌, ◌≤◌, ◌+◌, take, drop}
use Rattle.std.specs.List.{prefix_len}
use Rattle.uc_tree.specs.Bytes.{is_digit}
use Rattle.uc_tree.specs.Tokens.{value_of}
use Rattle.uc_journal.proofs.number.read_short.Given as goal

-- all that was passed are digits, and this is their value
abbrev pub invariant-loop-i : goal.invariant-loop-i
invariant-loop-i l = record {
  digits : prefix_len is_digit l.text ≡ l.i + prefix_len is_digit (drop l.i l.text);
  value : value_of (take l.i l.text) ≡ l.value;
  small : l.value ≤ 9223372036854775807;
}
