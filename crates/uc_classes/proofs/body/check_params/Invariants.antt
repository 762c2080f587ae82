use Rattle.std.proofs.Common.{◌≡◌, drop}
use Rattle.uc_rules.specs.ProgramVisits.{params_visits}
use Rattle.uc_rules.specs.Scopes.{with_params}
use Rattle.uc_types.specs.FirstBreak.{with_visits}
use Rattle.uc_classes.proofs.body.check_params.Given as goal

abbrev pub invariant-loop-param : goal.invariant-loop-param
invariant-loop-param l = record {
  names : with_params l.names (drop l.param-index l.params) ≡ with_params l.fn.names l.params;
  breaks : with_visits l.found (params_visits l.names (drop l.param-index l.params)) ≡ with_visits l.fn.found (params_visits l.fn.names l.params);
}
