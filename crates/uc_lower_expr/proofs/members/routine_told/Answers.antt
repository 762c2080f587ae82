use Rattle.std.proofs.Common.{sym, ◌∙◌}
use Rattle.uc_tree.specs.Numbering.{routines_of}
use Rattle.uc_resolve.specs.Resolve.{routine_from}
use Rattle.uc_lower_expr.proofs.MembersLemmas.{routine_named}
use Rattle.uc_lower_expr.proofs.members.routine_told.Goals as goal

pub returns-in-Some : goal.returns-in-Some
returns-in-Some c = routine_named c.args.names.now c.in-Some.routine (routine_from (routines_of c.args.names.now) 0 c.args.name.now) c.result.result _ c.result.ensures c.standing_as.ensures (sym c.routine.ensures ∙ c.in-Some.is)
