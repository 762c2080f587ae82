use Rattle.std.proofs.Common.{◌≡◌, take}
use Rattle.uc_acts.specs.Texts.{printed}
use Rattle.uc_top.proofs.printing.printed_bytes.Given as goal

abbrev pub invariant-loop-entry : goal.invariant-loop-entry
invariant-loop-entry l = l.bytes.items ≡ printed l.texts (take l.entry-index l.journal)
