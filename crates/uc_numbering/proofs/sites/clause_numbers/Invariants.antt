use Rattle.std.proofs.Common.{◌≡◌, ◌++◌, drop, map}
use Rattle.uc_numbering.specs.Sites.{listed_in}
use Rattle.uc_numbering.proofs.sites.clause_numbers.Given as goal

abbrev pub invariant-loop-member : goal.invariant-loop-member
invariant-loop-member l = l.numbers.items ++ map (listed_in (map (λ n. n.now) l.names)) (drop l.member-index l.member-items) ≡ map (listed_in (map (λ n. n.now) l.names)) l.member-items
