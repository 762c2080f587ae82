use Rattle.std.proofs.Common.{length, ap, sym, ◌∙◌, arith}
use Rattle.uc_tree.specs.Expressions.{exprs_of}
use Rattle.uc_tree.specs.ExpressionSizes.{exprs_size}
use Rattle.uc_resolve.specs.Resolve.{event_constructor, number_of_event}
use Rattle.uc_tree.specs.Statements.{Raised}
use Rattle.uc_code.specs.Drafts.{Draft}
use Rattle.uc_lower_stmt.proofs.RaisingLemmas.{arm_built, arm_plain}
use Rattle.uc_lower_stmt.proofs.raise.lower_new.Goals as goal

pub returns-in_ok-put_plain-in-None : goal.returns-in_ok-put_plain-in-None
returns-in_ok-put_plain-in-None c =
    arm_plain c.args.names.now c.args.line c.event-event.result c.in_ok-cell.cell c.args.raised.now c.args.out.now c.add_hidden.new.self c.put_plain.new.out (c.event-event.ensures ∙ ap (λ (r : Raised). number_of_event c.args.names.now r.name) c.raised.view_is) c.in_ok-cell.ensures.cell c.in_ok-cell.ensures.ok
    (sym (ap (λ (r : Raised). event_constructor c.args.names.now r.name) c.raised.view_is) ∙ sym c.event_constructor-constructor.ensures ∙ c.in-None.is) c.in_ok-put_plain-in-None.ensures

pub returns-in_ok-lower_built-in-Some : goal.returns-in_ok-lower_built-in-Some
returns-in_ok-lower_built-in-Some c =
    arm_built c.args.names.now c.args.line c.event-event.result c.in_ok-cell.cell c.args.raised.now c.args.out.now c.add_hidden.new.self c.lower_built.new.out (c.event-event.ensures ∙ ap (λ (r : Raised). number_of_event c.args.names.now r.name) c.raised.view_is) c.in_ok-cell.ensures.cell c.in_ok-cell.ensures.ok
    c.in-Some.routine _ (ap exprs_of c.deref.ensures.value ∙ ap (λ (r : Raised). r.args) c.raised.view_is)
    (sym (ap (λ (r : Raised). event_constructor c.args.names.now r.name) c.raised.view_is) ∙ sym c.event_constructor-constructor.ensures ∙ c.in-Some.is) c.in_ok-lower_built-in-Some.ensures

pub put_plain-requires : goal.put_plain-requires
put_plain-requires c = let a = ap (λ (d : Draft). length d.ops) c.in_ok-cell.ensures.ok in omega (arith, a, c.requires)

pub lower_built-requires-clause-room : goal.lower_built-requires-clause-room
lower_built-requires-clause-room c =
    let a = ap (λ (d : Draft). length d.ops) c.in_ok-cell.ensures.ok in
    let b = ap exprs_size (ap exprs_of c.deref.ensures.value ∙ ap (λ (r : Raised). r.args) c.raised.view_is) in
    omega (arith, a, b, c.requires)

pub lower_built-requires-clause-cell : goal.lower_built-requires-clause-cell
lower_built-requires-clause-cell c = let a = c.in_ok-cell.ensures.cell in let b = c.in_ok-cell.ensures.few in omega (arith, a, b)
