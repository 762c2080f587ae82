use Rattle.std.proofs.Common.{◌≡◌, drop}
use Rattle.uc_rules.specs.Names.{constructor_among}
use Rattle.uc_types.proofs.tables.constructor_among.Given as goal

abbrev pub invariant-loop-member : goal.invariant-loop-member
invariant-loop-member l = constructor_among (drop l.member-index l.members) ≡ constructor_among l.members
