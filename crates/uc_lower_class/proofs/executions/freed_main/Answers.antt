use Rattle.std.proofs.Common.{sym, ◌∙◌}
use Rattle.uc_tree.specs.Objects.{class_at}
use Rattle.uc_lower_class.proofs.Living.{main_is, main_none, task_within}
use Rattle.uc_lower_class.proofs.executions.freed_main.Goals as goal

pub main_of-requires : goal.main_of-requires
main_of-requires c = task_within c.args.names.now c.args.class (sym c.is_task.ensures ∙ c.if-is_task.true)

pub returns-then-is_task : goal.returns-then-is_task
returns-then-is_task c = main_is c.args.names.now c.args.class (class_at c.args.names.now c.args.class) c.main_of.result (sym c.is_task.ensures ∙ c.if-is_task.true) c.main_of.ensures

pub returns-else-is_task : goal.returns-else-is_task
returns-else-is_task c = main_none c.args.names.now c.args.class (class_at c.args.names.now c.args.class) (sym c.is_task.ensures ∙ c.if-is_task.false)
