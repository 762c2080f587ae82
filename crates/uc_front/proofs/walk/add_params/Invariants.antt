use Rattle.std.proofs.Common.{◌≡◌, drop}
use Rattle.uc_rules.specs.Scopes.{with_params}
use Rattle.uc_front.proofs.walk.add_params.Given as goal

abbrev pub invariant-loop-param : goal.invariant-loop-param
invariant-loop-param l = with_params l.names (drop l.param-index l.params) ≡ with_params l.fn.names l.params
