use Rattle.std.proofs.Common.{◌≡◌, drop, map}
use Rattle.uc_tree.specs.SiteOffers.{met}
use Rattle.uc_judge.proofs.offers.met_by_clause.Given as goal

-- none of the members so far has a caller
abbrev pub invariant-loop-member : goal.invariant-loop-member
invariant-loop-member l = met (map (λ m. (l.clause, m)) l.members) l.waiting ≡ met (map (λ m. (l.clause, m)) (drop l.member-index l.members)) l.waiting
