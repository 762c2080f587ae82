use Rattle.std.proofs.Common.{◌≡◌, false, drop}
use Rattle.uc_tree.specs.Statements.{handlers_of}
use Rattle.uc_rules.specs.ExpressionBreaks.{handlers_breaks}
use Rattle.uc_rules.specs.Firsts.{after}
use Rattle.uc_check_stmt.proofs.accept.note_handlers.Given as goal

abbrev pub invariant-loop-handler : goal.invariant-loop-handler
invariant-loop-handler l = after l.found (handlers_breaks l.names.program l.catches l.resumes (handlers_of (drop l.handler-index l.handlers))) ≡ after l.fn.found (handlers_breaks l.names.program false false (handlers_of l.handlers))
