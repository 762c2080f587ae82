use Rattle.std.proofs.Common.{map, string_bytes, length}
use Rattle.uc_words.specs.Rest.{parts_of, nothing, Leads}
use Rattle.uc_words.proofs.words.read_run.Given as goal

-- what is read so far leads to what is told and left
abbrev pub invariant-loop-word : goal.invariant-loop-word
invariant-loop-word l = Leads nothing (map string_bytes l.words) (parts_of l.told) (map string_bytes l.rest)

abbrev pub decreases-loop-word : goal.decreases-loop-word
decreases-loop-word l = length l.rest
