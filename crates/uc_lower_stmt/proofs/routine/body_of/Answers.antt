use Rattle.std.proofs.Common.{ap, ◌∙◌}
use Rattle.uc_tree.specs.Programs.{Routine}
use Rattle.uc_tree.specs.Statements.{stmts_of}
use Rattle.uc_lower_stmt.proofs.routine.body_of.Goals as goal

pub returns : goal.returns
returns c = ap stmts_of c.deref.ensures.value ∙ ap (λ (r : Routine). r.body) c.routine.view_is
