use Rattle.std.proofs.Common.{◌≡◌, drop}
use Rattle.uc_rules.specs.ProgramVisits.{mark_among}
use Rattle.uc_front.proofs.outer.mark_among.Given as goal

abbrev pub invariant-loop-member : goal.invariant-loop-member
invariant-loop-member l = mark_among l.sig (drop l.member-index l.members) ≡ mark_among l.sig l.members
