use Rattle.std.proofs.Common.{rules, ◌≡◌, Some, ap, ◌∙◌, arith}
use Rattle.uc_lower_expr.specs.Events.{event_by}
use Rattle.uc_lower_expr.proofs.Eventful.{event_many}
use Rattle.uc_lower_expr.proofs.events.number_of.Goals as goal

pub returns-else-place : goal.returns-else-place
returns-else-place c =
    let over = c.if-place.false in
    let is : Some c.in-Some.place ≡ c.args.place = search rules in
    event_many c.in-Some.place (omega (arith, over)) ∙ ap event_by is
