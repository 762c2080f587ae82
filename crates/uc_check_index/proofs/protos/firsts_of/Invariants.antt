use Rattle.std.proofs.Common.{take}
use Rattle.uc_check_index.specs.Firsts.{AreFirsts}
use Rattle.uc_check_index.specs.Topics.{member_key_of}
use Rattle.uc_check_index.proofs.protos.firsts_of.Given as goal

abbrev pub invariant-loop-place : goal.invariant-loop-place
invariant-loop-place l = AreFirsts (member_key_of l.topic) (take l.place l.members) l.firsts
