use Rattle.std.proofs.Common.{◌≡◌, drop}
use Rattle.uc_rules.specs.OwnerBreaks.{fields_allow}
use Rattle.uc_types.proofs.spans.fields_allow.Given as goal

abbrev pub invariant-loop-index : goal.invariant-loop-index
invariant-loop-index l = fields_allow l.tables l.from l.to l.member l.index l.base (drop l.index l.declarators) ≡ fields_allow l.tables l.from l.to l.member 0 l.base l.declarators
