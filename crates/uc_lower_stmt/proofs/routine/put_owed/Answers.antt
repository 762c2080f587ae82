use Rattle.std.proofs.Common.{sym, ◌∙◌}
use Rattle.uc_tree.specs.ProgramMain.{is_void}
use Rattle.uc_lower_stmt.proofs.RoutinesLemmas.{owed_nothing, owed_one}
use Rattle.uc_lower_stmt.proofs.routine.put_owed.Goals as goal

pub returns-then-is_void : goal.returns-then-is_void
returns-then-is_void c = owed_nothing (is_void c.args.base.now) c.args.line c.args.out.now (sym c.is_void.ensures ∙ c.if-is_void.true)

pub returns : goal.returns
returns c = owed_one (is_void c.args.base.now) c.args.line c.args.out.now _ (sym c.is_void.ensures ∙ c.if-is_void.false) c.in_ok-put.ensures
