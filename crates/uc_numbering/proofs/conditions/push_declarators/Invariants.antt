use Rattle.std.proofs.Common.{◌≡◌, ◌++◌, drop, map}
use Rattle.uc_numbering.proofs.conditions.push_declarators.Given as goal

abbrev pub invariant-loop-declarator : goal.invariant-loop-declarator
invariant-loop-declarator l = map (λ d. d.now) l.found.items ++ drop l.declarator-index l.declarators ≡ map (λ d. d.now) l.initial.found.items ++ l.declarators
