use Rattle.std.proofs.Common.{◌≡◌, false, ap, sym, ◌∙◌}
use Rattle.std.specs.Prelude.{is_some}
use Rattle.std.specs.List.{list_any}
use Rattle.uc_acts.specs.Answers.{first_of}
use Rattle.uc_acts.specs.Queues.{running, open_processors}
use Rattle.uc_judge.proofs.Service.{row_test, serves_so, serves_not}
use Rattle.uc_judge.proofs.ledger.Ledger.serves.Goals as goal

pub returns-clause-yes : goal.returns-clause-yes
returns-clause-yes c h sites l =
    let s = c.args.self.now in
    let j = s.entries.items in
    let free : is_some (first_of (running c.args.processor j)) ≡ false = sym (c.is_some.ensures ∙ ap is_some (c.first_running.ensures j l.schedule)) ∙ c.if-is_some.false in
    let any : c.any_serves.result ≡ list_any (row_test c.args.processor c.args.task j) (open_processors s.opts j) = c.any_serves.ensures j l.schedule ∙ ap (λ p. list_any (row_test p c.args.task j) c.open.result.now) c.from.ensures ∙ ap (list_any (row_test c.args.processor c.args.task j)) (c.open.ensures s.opts j l.processors) in
    serves_so s.opts j c.args.processor c.args.task free (sym any ∙ h)

pub returns-clause-no : goal.returns-clause-no
returns-clause-no c h sites l =
    let s = c.args.self.now in
    let j = s.entries.items in
    let any : c.any_serves.result ≡ list_any (row_test c.args.processor c.args.task j) (open_processors s.opts j) = c.any_serves.ensures j l.schedule ∙ ap (λ p. list_any (row_test p c.args.task j) c.open.result.now) c.from.ensures ∙ ap (list_any (row_test c.args.processor c.args.task j)) (c.open.ensures s.opts j l.processors) in
    serves_not s.opts j c.args.processor c.args.task (sym any ∙ h)
