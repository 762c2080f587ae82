use Rattle.std.proofs.Common.{◌≡◌, ap, ◌∙◌, arith}
use Rattle.uc_tree.specs.Programs.{Site}
use Rattle.uc_tree.specs.SiteOffers.{offers_from, clause_for}
use Rattle.uc_acts.specs.Doors.{offers, no_site, site_at}
use Rattle.uc_judge.proofs.offers.clause_for.Goals as goal

pub returns-in-Some : goal.returns-in-Some
unfolding offers
returns-in-Some c =
    let site : c.in-Some.site.now ≡ site_at c.args.sites.now c.args.site = c.in-Some.ensures.lookup.3.1 no_site in
    c.clause_among.ensures
    ∙ ap (λ l. clause_for (offers_from 0 c.args.mask l) c.args.member) c.deref.ensures.value
    ∙ ap (λ (s : Site). clause_for (offers_from 0 c.args.mask s.clauses) c.args.member) (c.site.view_is ∙ site)

pub returns-in-None : goal.returns-in-None
unfolding offers
returns-in-None c =
    let site : no_site ≡ site_at c.args.sites.now c.args.site = c.in-None.ensures.lookup.4 (omega arith) no_site in
    ap (λ (s : Site). clause_for (offers_from 0 c.args.mask s.clauses) c.args.member) site
