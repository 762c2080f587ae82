use Rattle.std.proofs.Common.{◌≡◌, ◌+◌, ◌==◌, drop}
use Rattle.std.specs.Prelude.{not}
use Rattle.std.specs.List.{prefix_len}
use Rattle.uc_journal.proofs.line.word_length.Given as goal

-- none that was passed is a space
abbrev pub invariant-loop-i : goal.invariant-loop-i
invariant-loop-i l = prefix_len (λ b. not (b == 32)) l.text ≡ l.i + prefix_len (λ b. not (b == 32)) (drop l.i l.text)
