use Rattle.std.proofs.Common.{take}
use Rattle.uc_check_index.specs.Firsts.{AreFirsts}
use Rattle.uc_check_index.specs.Topics.{name_of}
use Rattle.uc_check_index.proofs.named.firsts_by_name.Given as goal

abbrev pub invariant-loop-place : goal.invariant-loop-place
invariant-loop-place l = AreFirsts (name_of l.topic) (take l.place l.items) l.firsts
