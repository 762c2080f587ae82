use Rattle.std.proofs.Common.{Option, ap, ◌∙◌}
use Rattle.std.specs.Prelude.{option_map}
use Rattle.uc_lower_expr.specs.declared.making.Made.{Made}
use Rattle.uc_lower_expr.specs.Meanings.{making_of}
use Rattle.uc_lower_expr.proofs.Knowing.{made_class}
use Rattle.uc_lower_stmt.proofs.Listing.{declared_objects, declared_variables}
use Rattle.uc_lower_stmt.proofs.Openings.{all_behind}
use Rattle.uc_lower_stmt.proofs.stmt.lower_for_declaration.Goals as goal

pub lower_objects-requires-clause-class : goal.lower_objects-requires-clause-class
lower_objects-requires-clause-class c = made_class c.args.names.now c.args.base.now c.in-Some.made (c.made.ensures ∙ ap (λ (o : Option Made). option_map (making_of c.args.names.now) o) c.in-Some.is)

pub lower_objects-requires-clause-behind : goal.lower_objects-requires-clause-behind
lower_objects-requires-clause-behind c = all_behind c.args.names.now c.in-Some.made c.args.out.now.marks c.requires.inside

pub returns-in_ok-lower_objects-in-Some : goal.returns-in_ok-lower_objects-in-Some
returns-in_ok-lower_objects-in-Some c =
    declared_objects c.args.names.now c.args.line c.args.line c.args.base.now c.args.declarators.now (making_of c.args.names.now c.in-Some.made) c.args.out.now _ (c.made.ensures ∙ ap (λ (o : Option Made). option_map (making_of c.args.names.now) o) c.in-Some.is) c.in_ok-lower_objects-in-Some.ensures

pub returns-in_ok-lower_declarators-in-None : goal.returns-in_ok-lower_declarators-in-None
returns-in_ok-lower_declarators-in-None c =
    declared_variables c.args.names.now c.args.line c.args.line c.args.base.now c.args.declarators.now c.args.out.now _ (c.made.ensures ∙ ap (λ (o : Option Made). option_map (making_of c.args.names.now) o) c.in-None.is) c.in_ok-lower_declarators-in-None.ensures
