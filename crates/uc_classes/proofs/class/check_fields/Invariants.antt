use Rattle.std.proofs.Common.{◌≡◌, drop}
use Rattle.uc_rules.specs.ProgramVisits.{fields_visits}
use Rattle.uc_types.specs.FirstBreak.{with_visits}
use Rattle.uc_classes.proofs.class.check_fields.Given as goal

abbrev pub invariant-loop-index : goal.invariant-loop-index
invariant-loop-index l = with_visits l.found (fields_visits l.names l.walked.class.now l.listed.access l.listed.base.now l.listed.member l.index (drop l.index l.listed.declarators.now)) ≡ with_visits l.fn.found (fields_visits l.names l.walked.class.now l.listed.access l.listed.base.now l.listed.member 0 l.listed.declarators.now)
