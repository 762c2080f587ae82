use Rattle.std.proofs.Common.{◌≡◌, Some, [], drop}
use Rattle.uc_tree.specs.Statements.{clauses_of}
use Rattle.uc_rules.specs.Names.{member_named}
use Rattle.uc_rules.specs.ExpressionBreaks.{clauses_breaks}
use Rattle.uc_rules.specs.Firsts.{after}
use Rattle.uc_check_stmt.proofs.accept.note_clauses.Given as goal

abbrev pub invariant-loop-place : goal.invariant-loop-place
invariant-loop-place l = after l.found (clauses_breaks (member_named l.listing.tables.now l.listing.place) (Some l.listing.class.now) l.place l.seen.items (clauses_of (drop l.place l.clauses))) ≡ after l.fn.found (clauses_breaks (member_named l.listing.tables.now l.listing.place) (Some l.listing.class.now) 0 [] (clauses_of l.clauses))
