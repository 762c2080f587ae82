use Rattle.std.proofs.Common.{◌≡◌, drop}
use Rattle.uc_tree.specs.SiteOffers.{oldest}
use Rattle.uc_judge.proofs.offers.oldest.Given as goal

-- none of the calls so far is of the member
abbrev pub invariant-loop-call : goal.invariant-loop-call
invariant-loop-call l = oldest l.member l.waiting ≡ oldest l.member (drop l.call-index l.waiting)
