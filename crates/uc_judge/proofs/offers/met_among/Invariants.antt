use Rattle.std.proofs.Common.{◌≡◌, drop}
use Rattle.uc_tree.specs.SiteOffers.{offers_from, met}
use Rattle.uc_judge.proofs.offers.met_among.Given as goal

-- none of the clauses so far takes anybody
abbrev pub invariant-loop-at : goal.invariant-loop-at
invariant-loop-at l = met (offers_from 0 l.mask l.clauses) l.waiting ≡ met (offers_from l.at l.mask (drop l.at l.clauses)) l.waiting
