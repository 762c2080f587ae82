use Rattle.std.proofs.Common.{◌≡◌, ℕ, List, Option, None, [], drop}
use Rattle.uc_tree.specs.Statements.{clauses_of}
use Rattle.uc_rules.specs.declared.rules.NameMeaning.{NameMeaning}
use Rattle.uc_rules.specs.ExpressionBreaks.{clauses_breaks}
use Rattle.uc_rules.specs.Firsts.{after}
use Rattle.uc_check_stmt.proofs.accept.note_unowned.Given as goal

abbrev pub invariant-loop-place : goal.invariant-loop-place
invariant-loop-place l = (meant : List ℕ → Option NameMeaning) → after l.found (clauses_breaks meant None l.place [] (clauses_of (drop l.place l.clauses))) ≡ after l.fn.found (clauses_breaks meant None 0 [] (clauses_of l.clauses))
