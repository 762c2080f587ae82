use Rattle.std.proofs.Common.{◌≡◌, drop}
use Rattle.std.specs.Prelude.{find, nat_eq}
use lib.Pointwise.{pointwise}
use Rattle.uc_acts.specs.Texts.{word_of}
use Rattle.uc_journal.proofs.word.first_of.Given as goal

-- no kind that was passed has the word
abbrev pub invariant-loop-kind : goal.invariant-loop-kind
invariant-loop-kind l = find (λ k. pointwise nat_eq l.word (word_of k)) l.kinds ≡ find (λ k. pointwise nat_eq l.word (word_of k)) (drop l.kind-index l.kinds)
