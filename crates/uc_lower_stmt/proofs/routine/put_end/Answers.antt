use Rattle.std.proofs.Common.{sym, ◌∙◌}
use Rattle.uc_lower_stmt.proofs.RoutinesLemmas.{end_with, end_without}
use Rattle.uc_lower_stmt.proofs.routine.put_end.Goals as goal

pub returns-then-is_void : goal.returns-then-is_void
returns-then-is_void c = end_without _ c.args.line _ _ (sym c.is_void.ensures ∙ c.if-is_void.true) c.in_ok-put.ensures

pub returns : goal.returns
returns c = end_with _ c.args.line _ _ _ (sym c.is_void.ensures ∙ c.if-is_void.false) c.in_ok-put-2.ensures c.in_ok-put-3.ensures
