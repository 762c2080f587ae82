use Rattle.std.proofs.Common.{sym, ◌∙◌}
use Rattle.uc_lower_expr.specs.Meanings.{is_mutex_at}
use Rattle.uc_lower_stmt.proofs.Building.{made_off, made_on}
use Rattle.uc_lower_stmt.proofs.objects.put_made.Goals as goal

pub returns-in_ok-put-2 : goal.returns-in_ok-put-2
returns-in_ok-put-2 c =
    let p = c.args.names.now in
    made_on p c.args.class (is_mutex_at p c.args.class) c.args.line c.class_number-class.result c.args.routine c.args.out.now _ _ (sym c.is_mutex.ensures ∙ c.if-is_mutex.true) c.class_number-class.ensures c.in_ok-put.ensures c.in_ok-put-2.ensures

pub returns-else-is_mutex : goal.returns-else-is_mutex
returns-else-is_mutex c =
    let p = c.args.names.now in
    made_off p c.args.class (is_mutex_at p c.args.class) c.args.line c.args.routine c.args.out.now (sym c.is_mutex.ensures ∙ c.if-is_mutex.false)
