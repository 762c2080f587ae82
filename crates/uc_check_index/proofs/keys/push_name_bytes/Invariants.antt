use Rattle.std.proofs.Common.{◌≡◌, ◌++◌, drop}
use Rattle.uc_check_index.specs.Keys.{name_key}
use Rattle.uc_check_index.proofs.keys.push_name_bytes.Given as goal

abbrev pub invariant-loop-byte : goal.invariant-loop-byte
invariant-loop-byte l = l.key.items ++ name_key (drop l.byte-index l.bytes) ≡ l.initial.key.items ++ name_key l.bytes
