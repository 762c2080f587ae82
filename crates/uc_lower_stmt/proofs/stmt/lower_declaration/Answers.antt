use Rattle.std.proofs.Common.{Option, length, refl, ap, ◌∙◌}
use Rattle.std.specs.Prelude.{option_map}
use Rattle.uc_lower_expr.specs.declared.making.Made.{Made}
use Rattle.uc_lower_expr.specs.Meanings.{making_of}
use Rattle.uc_lower_expr.proofs.Knowing.{made_class}
use Rattle.uc_lower_stmt.proofs.Listing.{alone_objects, alone_variables, marks_count}
use Rattle.uc_lower_stmt.proofs.Openings.{all_behind}
use Rattle.uc_lower_stmt.proofs.stmt.lower_declaration.Goals as goal

pub lower_objects-requires-clause-class : goal.lower_objects-requires-clause-class
lower_objects-requires-clause-class c = made_class c.args.names.now c.args.base.now c.in-Some.made (c.made.ensures ∙ ap (λ (o : Option Made). option_map (making_of c.args.names.now) o) c.in-Some.is)

pub lower_objects-requires-clause-behind : goal.lower_objects-requires-clause-behind
lower_objects-requires-clause-behind c = all_behind c.args.names.now c.in-Some.made c.args.out.now.marks c.requires.inside

pub returns-in_ok-close_scopes-in-Some : goal.returns-in_ok-close_scopes-in-Some
returns-in_ok-close_scopes-in-Some c =
    alone_objects c.args.names.now c.args.line c.args.base.now c.args.declarators.now (making_of c.args.names.now c.in-Some.made) (length c.marks-depth.result.now) c.args.out.now _ _ (c.made.ensures ∙ ap (λ (o : Option Made). option_map (making_of c.args.names.now) o) c.in-Some.is)
    (marks_count c.marks-depth.result.now _ _ refl c.marks-depth.ensures.marks) c.in_ok-lower_objects-in-Some.ensures c.in_ok-close_scopes-in-Some.ensures

pub returns-in_ok-lower_declarators-in-None : goal.returns-in_ok-lower_declarators-in-None
returns-in_ok-lower_declarators-in-None c =
    alone_variables c.args.names.now c.args.line c.args.base.now c.args.declarators.now c.args.out.now _ (c.made.ensures ∙ ap (λ (o : Option Made). option_map (making_of c.args.names.now) o) c.in-None.is) c.in_ok-lower_declarators-in-None.ensures
