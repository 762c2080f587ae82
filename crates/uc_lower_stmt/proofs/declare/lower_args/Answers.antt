use Rattle.std.proofs.lemmas.Result.{on_ok_weaker}
use Rattle.uc_lower_expr.specs.Meanings.{shape_as}
use Rattle.uc_lower_stmt.proofs.Declaring.{args_at, args_end}
use Rattle.uc_lower_stmt.proofs.declare.lower_args.Goals as goal

pub returns-in-Some : goal.returns-in-Some
returns-in-Some c = on_ok_weaker c.lower_first.result (args_at c.args.names.now c.in-Some.value.now c.args.args.now c.args.line c.args.cell (shape_as c.args.scalar) c.args.out.now c.lower_first.new.out c.in-Some.ensures.value) c.lower_first.ensures

pub returns-in-None : goal.returns-in-None
returns-in-None c = args_end c.args.names.now c.args.args.now c.args.line c.args.cell (shape_as c.args.scalar) c.args.out.now c.in-None.ensures.value
