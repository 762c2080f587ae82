use Rattle.std.proofs.Common.{ap, sym, ◌∙◌, Option}
use Rattle.std.specs.Prelude.{option_map}
use Rattle.uc_lower_expr.specs.declared.making.Made.{Made}
use Rattle.uc_lower_expr.specs.Meanings.{making_of}
use Rattle.uc_lower_expr.proofs.Makings.{makes_object, makes_resource}
use Rattle.uc_lower_expr.proofs.making.made_by.Goals as goal

pub returns-in-Some : goal.returns-in-Some
returns-in-Some c = makes_object c.args.sizes.now c.args.base.now c.in-Some.class (sym c.class_made.ensures ∙ c.in-Some.is)

pub returns-in-None : goal.returns-in-None
returns-in-None c = makes_resource c.args.sizes.now c.args.base.now (sym c.class_made.ensures ∙ c.in-None.is) ∙ ap (λ (o : Option Made). option_map (making_of c.args.sizes.now) o) (sym c.resource_by.ensures)
