use Rattle.std.proofs.Common.{◌≡◌, drop}
use Rattle.uc_rules.specs.Scopes.{all_declared}
use Rattle.uc_front.proofs.walk.declare_all.Given as goal

abbrev pub invariant-loop-declarator : goal.invariant-loop-declarator
invariant-loop-declarator l = all_declared l.names l.base (drop l.declarator-index l.declarators) ≡ all_declared l.fn.names l.base l.declarators
