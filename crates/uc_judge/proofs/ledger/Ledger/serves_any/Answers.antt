use Rattle.std.proofs.Common.{ap, sym, ◌∙◌}
use Rattle.std.specs.List.{list_any}
use Rattle.uc_judge.proofs.Service.{waits_test, any_so, any_not}
use Rattle.uc_judge.proofs.ledger.Ledger.serves_any.Goals as goal

pub returns-clause-yes : goal.returns-clause-yes
returns-clause-yes c h sites l =
    let s = c.args.self.now in
    let j = s.entries.items in
    any_so s.opts j (sym (c.any_waits.ensures j l.schedule ∙ ap (list_any (waits_test j)) (c.open.ensures s.opts j l.processors)) ∙ h)

pub returns-clause-no : goal.returns-clause-no
returns-clause-no c h sites l =
    let s = c.args.self.now in
    let j = s.entries.items in
    any_not s.opts j (sym (c.any_waits.ensures j l.schedule ∙ ap (list_any (waits_test j)) (c.open.ensures s.opts j l.processors)) ∙ h)
