use Rattle.std.proofs.Common.{◌≡◌, ◌++◌, take}
use Rattle.uc_code.specs.Listing.{row_lines}
use Rattle.uc_code.proofs.listing.put_rows.Given as goal

abbrev pub invariant-loop-number : goal.invariant-loop-number
invariant-loop-number l = l.text.items ≡ l.initial.text.items ++ row_lines 0 (take l.number l.rows)
