use Rattle.std.proofs.Common.{◌≡◌, ap, ◌∙◌, arith}
use Rattle.uc_tree.specs.Programs.{Site}
use Rattle.uc_tree.specs.SiteOffers.{offers_from, met}
use Rattle.uc_acts.specs.Doors.{offers, no_site, site_at}
use Rattle.uc_judge.proofs.offers.met.Goals as goal

pub returns-in-Some : goal.returns-in-Some
unfolding offers
returns-in-Some c =
    let site : c.in-Some.site.now ≡ site_at c.args.sites.now c.args.site = c.in-Some.ensures.lookup.3.1 no_site in
    c.met_among.ensures
    ∙ ap (λ l. met (offers_from 0 c.args.mask l) c.args.waiting.now) c.deref.ensures.value
    ∙ ap (λ (s : Site). met (offers_from 0 c.args.mask s.clauses) c.args.waiting.now) (c.site.view_is ∙ site)

pub returns-in-None : goal.returns-in-None
unfolding offers
returns-in-None c =
    let site : no_site ≡ site_at c.args.sites.now c.args.site = c.in-None.ensures.lookup.4 (omega arith) no_site in
    ap (λ (s : Site). met (offers_from 0 c.args.mask s.clauses) c.args.waiting.now) site
