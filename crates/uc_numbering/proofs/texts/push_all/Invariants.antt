use Rattle.std.proofs.Common.{◌≡◌, ◌++◌, drop, map}
use Rattle.uc_tree.specs.Numbering.{own_texts}
use Rattle.uc_numbering.specs.Flat.{flat}
use Rattle.uc_numbering.proofs.texts.push_all.Given as goal

abbrev pub invariant-loop-s : goal.invariant-loop-s
invariant-loop-s l = l.found.items ++ flat own_texts (map (λ s. s.now) (drop l.s-index l.statements)) ≡ l.initial.found.items ++ flat own_texts (map (λ s. s.now) l.statements)
