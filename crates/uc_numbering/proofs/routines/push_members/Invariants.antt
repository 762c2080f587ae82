use Rattle.std.proofs.Common.{◌≡◌, ◌++◌, drop, map}
use Rattle.uc_numbering.specs.Routines.{defined_at, members_in}
use Rattle.uc_numbering.proofs.routines.push_members.Given as goal

abbrev pub invariant-loop-member : goal.invariant-loop-member
invariant-loop-member l = map defined_at l.found.items ++ members_in (map (λ c. c.now) l.classes) l.name (drop l.member-index l.members) ≡ map defined_at l.initial.found.items ++ members_in (map (λ c. c.now) l.classes) l.name l.members
