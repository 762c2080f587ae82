use Rattle.std.proofs.Common.{◌≡◌, ◌+◌, drop}
use Rattle.std.specs.List.{prefix_len}
use Rattle.uc_tree.specs.Bytes.{is_white}
use Rattle.uc_input.proofs.reading.white_length.Given as goal

-- all that was passed is of the kind
abbrev pub invariant-loop-i : goal.invariant-loop-i
invariant-loop-i l = prefix_len is_white l.rest ≡ l.i + prefix_len is_white (drop l.i l.rest)
