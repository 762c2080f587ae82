use Rattle.std.proofs.Common.{◌≡◌, sym, ap, ◌∙◌, length}
use Rattle.std.proofs.lemmas.Bool.{ltb-false}
use Rattle.std.proofs.lemmas.List.{get_or_past}
use Rattle.uc_tree.specs.declared.limits.TheConstants.{DESTRUCTOR}
use Rattle.uc_acts.specs.Doors.{offers, site_at, no_site}
use Rattle.uc_tree.specs.SiteOffers.{offers_from, clause_for, or_0}
use Rattle.uc_kernel_journal.proofs.notes.destroyer_clause.Goals as goal

pub returns-in-None : goal.returns-in-None
unfolding offers
returns-in-None c =
    let same = c.deref.ensures.value in
    let short = ltb-false c.args.site (length c.deref.result.now) (sym c.in-None.ensures.lookup.0) in
    let past : site_at c.deref.result.now c.args.site ≡ no_site = get_or_past c.deref.result.now c.args.site no_site short in
    let there : site_at c.args.sites.now.items c.args.site ≡ no_site = ap (λ xs. site_at xs c.args.site) (sym same) ∙ past in
    sym (ap (λ z. or_0 (clause_for (offers_from 0 c.args.mask z.clauses) DESTRUCTOR)) there)

pub returns-in-Some-clause_listing : goal.returns-in-Some-clause_listing
unfolding offers
returns-in-Some-clause_listing c =
    let same = c.deref.ensures.value in
    let known : c.in-Some.known.now ≡ site_at c.deref.result.now c.args.site = c.in-Some.ensures.lookup.3.1 no_site in
    let there : c.in-Some.known.now ≡ site_at c.args.sites.now.items c.args.site = known ∙ ap (λ xs. site_at xs c.args.site) same in
    ap or_0 c.in-Some-clause_listing.ensures ∙ ap (λ z. or_0 (clause_for (offers_from 0 c.args.mask z.clauses) DESTRUCTOR)) c.known.view_is ∙ ap (λ z. or_0 (clause_for (offers_from 0 c.args.mask z.clauses) DESTRUCTOR)) there

pub returns-in-None-clause_listing : goal.returns-in-None-clause_listing
unfolding offers
returns-in-None-clause_listing c =
    let same = c.deref.ensures.value in
    let known : c.in-Some.known.now ≡ site_at c.deref.result.now c.args.site = c.in-Some.ensures.lookup.3.1 no_site in
    let there : c.in-Some.known.now ≡ site_at c.args.sites.now.items c.args.site = known ∙ ap (λ xs. site_at xs c.args.site) same in
    ap or_0 c.in-None-clause_listing.ensures ∙ ap (λ z. or_0 (clause_for (offers_from 0 c.args.mask z.clauses) DESTRUCTOR)) c.known.view_is ∙ ap (λ z. or_0 (clause_for (offers_from 0 c.args.mask z.clauses) DESTRUCTOR)) there
