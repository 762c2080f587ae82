use Rattle.std.proofs.Common.{◌≡◌, ◌++◌}
use Rattle.uc_make.specs.Generated.{workers}
use Rattle.uc_make.proofs.program.put_workers.Given as goal

-- the workers so far are declared
abbrev pub invariant-loop-before : goal.invariant-loop-before
invariant-loop-before l = l.program.items ≡ l.initial.program.items ++ workers l.before
