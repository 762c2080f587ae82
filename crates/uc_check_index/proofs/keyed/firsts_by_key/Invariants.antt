use Rattle.std.proofs.Common.{take}
use Rattle.uc_check_index.specs.Firsts.{AreFirsts}
use Rattle.uc_check_index.specs.Topics.{key_of}
use Rattle.uc_check_index.proofs.keyed.firsts_by_key.Given as goal

abbrev pub invariant-loop-place : goal.invariant-loop-place
invariant-loop-place l = AreFirsts (key_of l.topic) (take l.place l.items) l.firsts
