use Rattle.std.proofs.Common.{◌≡◌, ◌+◌, ◌≤◌, drop}
use Rattle.uc_lower.specs.Mains.{routines_in_members}
use Rattle.uc_lower.proofs.program_main.routines_in_members.Given as goal

abbrev pub invariant-loop-member : goal.invariant-loop-member
invariant-loop-member l = (l.number ≤ l.member-index) × (l.number + routines_in_members (drop l.member-index l.members) ≡ routines_in_members l.members)
