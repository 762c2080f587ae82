use Rattle.std.proofs.Common.{◌≡◌, drop}
use Rattle.std.specs.Prelude.{find, nat_eq}
use lib.Pointwise.{pointwise}
use Rattle.uc_tree.specs.Spelling.{word_spelling}
use Rattle.uc_lex.proofs.names.first_spelled.Given as goal

-- no word that was passed is spelled so
abbrev pub invariant-loop-word : goal.invariant-loop-word
invariant-loop-word l = find (λ w. pointwise nat_eq l.name (word_spelling w)) l.words ≡ find (λ w. pointwise nat_eq l.name (word_spelling w)) (drop l.word-index l.words)
