use Rattle.std.proofs.Common.{◌≡◌, drop}
use Rattle.uc_rules.specs.ProgramVisits.{members_visits}
use Rattle.uc_types.specs.FirstBreak.{with_visits}
use Rattle.uc_classes.proofs.class.check_members.Given as goal

abbrev pub invariant-loop-place : goal.invariant-loop-place
invariant-loop-place l = with_visits l.found (members_visits l.walked.tables.now l.walked.home l.walked.class.now l.place (drop l.place l.members)) ≡ with_visits l.fn.found (members_visits l.walked.tables.now l.walked.home l.walked.class.now 0 l.walked.class.now.members)
