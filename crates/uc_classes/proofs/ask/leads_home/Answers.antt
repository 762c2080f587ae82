use Rattle.std.proofs.Common.{ap, subst, sym, ◌∙◌}
use Rattle.uc_rules.specs.ClassBreaks.{home_leads_back, leads_back}
use Rattle.uc_classes.specs.Circling.{Walks}
use Rattle.uc_classes.proofs.ask.leads_home.Goals as goal

pub leads_back-back-requires-clause-walks : goal.leads_back-back-requires-clause-walks
leads_back-back-requires-clause-walks c = subst (λ p. Walks p c.args.walked.home c.args.walked.class.now c.args.walked.circular c.args.walked.holders.now c.args.walked.bound.known c.args.walked.bound.names.now) (sym c.tables.ensures) c.requires.walks

pub returns : goal.returns
returns c =
    c.leads_back-back.ensures
    ∙ ap (λ p. leads_back p c.args.walked.home.class c.args.listed.base.now c.args.declarator.now) c.tables.ensures
    ∙ ap (λ h. home_leads_back c.args.names.now.program h c.args.listed.base.now c.args.declarator.now) (sym c.requires.home)
