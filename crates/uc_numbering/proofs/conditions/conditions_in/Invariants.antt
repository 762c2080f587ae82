use Rattle.std.proofs.Common.{◌≡◌, ◌++◌, drop, map}
use Rattle.uc_tree.specs.Numbering.{conditions_of}
use Rattle.uc_numbering.proofs.conditions.conditions_in.Given as goal

abbrev pub invariant-loop-member : goal.invariant-loop-member
invariant-loop-member l = map (λ d. d.now) l.found.items ++ conditions_of (drop l.member-index l.members) ≡ conditions_of l.members
