use Rattle.std.proofs.lemmas.Result.{on_ok_weaker}
use Rattle.uc_lower_expr.specs.Meanings.{shape_as}
use Rattle.uc_lower_stmt.proofs.Declaring.{start_is, start_none, start_value, start_args}
use Rattle.uc_lower_stmt.proofs.declare.lower_start.Goals as goal

pub returns-in-Nothing : goal.returns-in-Nothing
returns-in-Nothing c = start_none c.args.names.now c.args.start.now c.args.line c.args.cell (shape_as c.args.scalar) _ (start_is _ _ _ c.in-Nothing.is c.start.view_is)

pub returns-in-Value : goal.returns-in-Value
returns-in-Value c = on_ok_weaker c.lower_first.result (start_value c.args.names.now c.args.start.now c.in-Value.value c.args.line c.args.cell (shape_as c.args.scalar) c.args.out.now c.lower_first.new.out (start_is _ _ _ c.in-Value.is c.start.view_is)) c.lower_first.ensures

pub returns-in-Args : goal.returns-in-Args
returns-in-Args c = on_ok_weaker c.lower_args.result (start_args c.args.names.now c.args.start.now c.deref.result.now c.in-Args.args.items c.args.line c.args.cell (shape_as c.args.scalar) c.args.out.now c.lower_args.new.out (start_is _ _ _ c.in-Args.is c.start.view_is) c.deref.ensures.value) c.lower_args.ensures
