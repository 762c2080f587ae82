use Rattle.std.proofs.Common.{◌≡◌, ◌+◌, drop}
use Rattle.uc_rules.specs.ClassBreaks.{fields_in}
use Rattle.uc_check_decl.proofs.class.has_few_fields.Given as goal

abbrev pub invariant-loop-member : goal.invariant-loop-member
invariant-loop-member l = fields_in (drop l.member-index l.members) + l.count ≡ fields_in l.members
