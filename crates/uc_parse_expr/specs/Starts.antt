-- What the sign of a part behind a root says of it.
use Rattle.std.specs.Prelude.{Option, Some, None}
use Rattle.uc_tree.specs.declared.token.Sign.{Sign}
use Rattle.uc_tree.specs.declared.token.Sign.TheVariants as sign
use Rattle.uc_tree.specs.declared.ops.StepOp.TheVariants as step
use Rattle.uc_parse_expr.specs.declared.ops.PartStart.{PartStart}
use Rattle.uc_parse_expr.specs.declared.ops.PartStart.TheVariants as start

abbrev pub part_start_of : Option Sign → Option PartStart
part_start_of (Some sign.Dot) = Some start.Field
part_start_of (Some sign.OpenBracket) = Some start.Index
part_start_of (Some sign.OpenParen) = Some start.Call
part_start_of (Some sign.Increment) = Some (start.Step step.Increment)
part_start_of (Some sign.Decrement) = Some (start.Step step.Decrement)
part_start_of _ = None
