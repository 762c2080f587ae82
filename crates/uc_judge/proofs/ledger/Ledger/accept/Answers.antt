use Rattle.std.proofs.Common.{ap, ◌∙◌}
use Rattle.uc_tree.specs.SiteOffers.{met}
use Rattle.uc_acts.specs.Doors.{offers, site_at, next_met}
use Rattle.uc_judge.proofs.Signals.{accepted_met}
use Rattle.uc_judge.proofs.ledger.Ledger.accept.Goals as goal

pub returns-in_ok-take_caller-in-Some : goal.returns-in_ok-take_caller-in-Some
returns-in_ok-take_caller-in-Some c =
    let j = c.args.self.now.entries.items in
    let sites = c.args.sites.now in
    accepted_met c.args.actor c.args.object c.args.site c.args.mask c.has_else-has_else.result (site_at sites c.args.site).has_else c.has_else-has_else.ensures c.in-Some.taken c.met.result (next_met sites c.args.site c.args.mask c.args.object j) c.in-Some.is (c.met.ensures ∙ ap (λ s. met (offers sites s c.from-2.result) c.waiting-waiting.result.now) c.from.ensures ∙ ap (λ m. met (offers sites c.args.site m) c.waiting-waiting.result.now) c.from-2.ensures ∙ ap (met (offers sites c.args.site c.args.mask)) (c.waiting-waiting.ensures j c.requires.ledger.views)) c.in_ok-take_caller-in-Some.ensures
