use Rattle.std.proofs.Common.{◌≡◌, drop}
use Rattle.uc_rules.specs.Scopes.{all_declared}
use Rattle.uc_rules.specs.Visits.{variables_visits}
use Rattle.uc_types.specs.FirstBreak.{with_visits}
use Rattle.uc_check_stmt.proofs.declare.check_variables.Given as goal

abbrev pub invariant-loop-declarator : goal.invariant-loop-declarator
invariant-loop-declarator l = record {
  names : all_declared l.names l.base (drop l.declarator-index l.declarators) ≡ all_declared l.fn.names l.base l.declarators;
  breaks : with_visits l.found (variables_visits l.names l.base (drop l.declarator-index l.declarators)) ≡ with_visits l.fn.found (variables_visits l.fn.names l.base l.declarators);
}
