use Rattle.std.proofs.Common.{length, ◌-◌}
use Rattle.uc_lex.specs.Places.{InRange}
use Rattle.uc_lex.proofs.Whole.{ReadTo}
use Rattle.uc_lex.proofs.lexer.lex.Given as goal

abbrev pub invariant-loop-place : goal.invariant-loop-place
invariant-loop-place l = record { read : ReadTo l.text l.tokens.items l.place; range : InRange l.place }

abbrev pub decreases-loop-place : goal.decreases-loop-place
decreases-loop-place l = length l.text - l.place.at
