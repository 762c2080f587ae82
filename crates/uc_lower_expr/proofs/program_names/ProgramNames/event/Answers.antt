use Rattle.std.proofs.Common.{ap, sym, ◌∙◌}
use Rattle.uc_tree.specs.Cells.{classes_of}
use Rattle.uc_tree.specs.Numbering.{event_names}
use Rattle.uc_resolve.specs.Resolve.{number_of_event}
use Rattle.uc_lower_expr.proofs.Eventful.{event_is, failure_is, unhandled_is}
use Rattle.uc_lower_expr.proofs.program_names.ProgramNames.event.Goals as goal

pub returns-then-is : goal.returns-then-is
returns-then-is c = unhandled_is c.args.self.now c.args.name.now (sym c.is.ensures.test ∙ c.if-is.true)

pub returns-then-is-2 : goal.returns-then-is-2
returns-then-is-2 c = failure_is c.args.self.now c.args.name.now (sym c.is-2.ensures.test ∙ c.if-is-2.true)

pub returns : goal.returns
returns c =
    let p = c.self.inside.sizes.now in
    c.number_of.ensures ∙ event_is p c.args.name.now c.place_in.result (c.place_in.ensures (event_names (classes_of p.items)) c.self.invariant.events_are) (sym c.is.ensures.test ∙ c.if-is.false) (sym c.is-2.ensures.test ∙ c.if-is-2.false) ∙ ap (λ q. number_of_event q c.args.name.now) c.self.view_is
