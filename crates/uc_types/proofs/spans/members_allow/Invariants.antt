use Rattle.std.proofs.Common.{◌≡◌, drop}
use Rattle.uc_rules.specs.OwnerBreaks.{members_allow}
use Rattle.uc_types.proofs.spans.members_allow.Given as goal

abbrev pub invariant-loop-place : goal.invariant-loop-place
invariant-loop-place l = members_allow l.tables l.from l.to l.place (drop l.place l.members) ≡ members_allow l.tables l.from l.to 0 l.members
