use Rattle.std.proofs.Common.{◌≡◌, ◌++◌, drop}
use Rattle.uc_check_index.specs.Keys.{params_key}
use Rattle.uc_check_index.proofs.keys.push_params.Given as goal

abbrev pub invariant-loop-param : goal.invariant-loop-param
invariant-loop-param l = l.key.items ++ params_key (drop l.param-index l.params) ≡ l.initial.key.items ++ params_key l.params
