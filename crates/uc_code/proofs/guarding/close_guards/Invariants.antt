use Rattle.std.proofs.Common.{◌≡◌, ◌<◌, ℕ, List, length}
use Rattle.uc_code.specs.declared.rows.CodeMark.{CodeMark}
use Rattle.uc_code.specs.Layout.{guards}
use Rattle.uc_code.proofs.GuardRows.{GuardClosing}
use Rattle.uc_code.proofs.guarding.close_guards.Given as goal

abbrev pub invariant-loop : goal.invariant-loop
invariant-loop l = (0 < length l.out.ops) × ((first : ℕ) (ms : List CodeMark) → l.fn.out.marks ≡ guards first l.count ms → GuardClosing first l.count l.counter ms l.fn.out l.out)
