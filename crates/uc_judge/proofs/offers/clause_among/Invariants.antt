use Rattle.std.proofs.Common.{◌≡◌, drop}
use Rattle.uc_tree.specs.SiteOffers.{offers_from, clause_for}
use Rattle.uc_judge.proofs.offers.clause_among.Given as goal

-- none of the clauses so far takes the member
abbrev pub invariant-loop-at : goal.invariant-loop-at
invariant-loop-at l = clause_for (offers_from 0 l.mask l.clauses) l.member ≡ clause_for (offers_from l.at l.mask (drop l.at l.clauses)) l.member
