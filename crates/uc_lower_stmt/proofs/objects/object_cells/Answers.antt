use Rattle.std.proofs.Common.{sym, ◌∙◌}
use Rattle.uc_lower_expr.specs.Meanings.{is_mutex_at}
use Rattle.uc_lower_stmt.proofs.Building.{cells_mutex, cells_plain}
use Rattle.uc_lower_stmt.proofs.objects.object_cells.Goals as goal

pub returns-then-is_mutex : goal.returns-then-is_mutex
returns-then-is_mutex c = cells_mutex c.args.names.now c.args.class (is_mutex_at c.args.names.now c.args.class) (sym c.is_mutex.ensures ∙ c.if-is_mutex.true)

pub returns-else-is_mutex : goal.returns-else-is_mutex
returns-else-is_mutex c =
    cells_plain c.args.names.now c.args.class (is_mutex_at c.args.names.now c.args.class) _ (sym c.is_mutex.ensures ∙ c.if-is_mutex.false) c.cells_of_class.ensures
