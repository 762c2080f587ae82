use Rattle.std.proofs.Common.{◌≡◌, None, drop}
use Rattle.uc_rules.specs.ProgramVisits.{inits_visits}
use Rattle.uc_types.specs.FirstBreak.{with_visits}
use Rattle.uc_classes.proofs.init.check_inits.Given as goal

abbrev pub invariant-loop-init : goal.invariant-loop-init
invariant-loop-init l = record {
  names : l.names ≡ l.fn.names;
  breaks : with_visits l.found (inits_visits l.fn.names l.last (drop l.init-index l.inits)) ≡ with_visits l.fn.found (inits_visits l.fn.names None l.inits);
}
