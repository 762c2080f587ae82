use Rattle.uc_resolve.specs.Resolve.{meant}
use Rattle.uc_lower_expr.specs.Contexts.{context_in}
use Rattle.uc_lower_expr.specs.Meanings.{shape_as}
use Rattle.uc_lower_class.proofs.Fielding.{held_value}
use Rattle.uc_lower_class.proofs.parts.put_held.Goals as goal

pub returns-in_ok-put_conversion : goal.returns-in_ok-put_conversion
returns-in_ok-put_conversion c =
    held_value c.args.field.by_ref (shape_as c.args.field.told.scalar) (meant (context_in c.args.names.now c.args.out.now) c.args.value.now) c.if-field.false c.in_ok-_told-2.ensures.code c.in_ok-put_conversion.ensures
