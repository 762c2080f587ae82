use Rattle.std.proofs.Common.{◌≡◌, drop}
use Rattle.uc_tree.specs.Expressions.{exprs_of}
use Rattle.uc_rules.specs.ProgramVisits.{init_args_visits}
use Rattle.uc_types.specs.FirstBreak.{with_visits}
use Rattle.uc_classes.proofs.init.check_init_args.Given as goal

abbrev pub invariant-loop-place : goal.invariant-loop-place
invariant-loop-place l = record {
  names : l.names ≡ l.fn.names;
  breaks : with_visits l.found (init_args_visits l.fn.names l.field (exprs_of (drop l.place l.args)) l.target l.place) ≡ with_visits l.fn.found (init_args_visits l.fn.names l.field (exprs_of l.args) l.target 0);
}
