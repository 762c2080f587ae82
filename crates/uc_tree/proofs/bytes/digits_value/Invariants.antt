use Rattle.std.proofs.Common.{◌≡◌, ◌≤◌, drop}
use Rattle.std.specs.Prelude.{fold}
use Rattle.uc_tree.specs.Tokens.{value_of, with_digit}
use Rattle.uc_tree.proofs.bytes.digits_value.Given as goal

-- the digits that are left go on from the value so far
abbrev pub invariant-loop-digit : goal.invariant-loop-digit
invariant-loop-digit l = record {
  same : value_of l.digits ≡ fold with_digit l.value (drop l.digit-index l.digits);
  in_range : l.value ≤ l.most;
}
