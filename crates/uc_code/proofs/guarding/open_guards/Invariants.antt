use Rattle.uc_code.specs.Guarding.{OpensGuards}
use Rattle.uc_code.proofs.guarding.open_guards.Given as goal

abbrev pub invariant-loop : goal.invariant-loop
invariant-loop l = OpensGuards l.counter l.fn.out l.out
