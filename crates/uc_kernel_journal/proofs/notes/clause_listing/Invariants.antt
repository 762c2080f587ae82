use Rattle.std.proofs.Common.{◌≡◌, drop}
use Rattle.uc_tree.specs.SiteOffers.{clause_for, offers_from}
use Rattle.uc_kernel_journal.proofs.notes.clause_listing.Given as goal

abbrev pub invariant-loop-at : goal.invariant-loop-at
invariant-loop-at l = clause_for (offers_from 0 l.mask l.clauses.items) l.member ≡ clause_for (offers_from l.at l.mask (drop l.at l.clauses.items)) l.member
