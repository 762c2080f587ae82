use Rattle.std.proofs.Common.{◌≡◌, ◌+◌, drop}
use Rattle.std.specs.List.{prefix_len}
use Rattle.uc_lex.specs.Runs.{is_in}
use Rattle.uc_lex.proofs.bytes.run_length.Given as goal

-- all that was passed is of the class
abbrev pub invariant-loop-i : goal.invariant-loop-i
invariant-loop-i l = prefix_len (is_in l.class) l.rest ≡ l.i + prefix_len (is_in l.class) (drop l.i l.rest)
