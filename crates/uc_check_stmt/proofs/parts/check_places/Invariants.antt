use Rattle.std.proofs.Common.{◌≡◌, drop}
use Rattle.uc_tree.specs.Expressions.{exprs_of}
use Rattle.uc_rules.specs.Visits.{reads_visits}
use Rattle.uc_types.specs.FirstBreak.{with_visits}
use Rattle.uc_check_stmt.proofs.parts.check_places.Given as goal

abbrev pub invariant-loop-place : goal.invariant-loop-place
invariant-loop-place l = with_visits l.found (reads_visits l.names (exprs_of (drop l.place-index l.places))) ≡ with_visits l.fn.found (reads_visits l.names (exprs_of l.places))
