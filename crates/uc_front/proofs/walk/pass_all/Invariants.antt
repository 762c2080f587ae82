use Rattle.std.proofs.Common.{◌≡◌, drop}
use Rattle.uc_tree.specs.Statements.{stmts_of}
use Rattle.uc_rules.specs.Scopes.{env_behind}
use Rattle.uc_front.proofs.walk.pass_all.Given as goal

abbrev pub invariant-loop-s : goal.invariant-loop-s
invariant-loop-s l = env_behind l.names (stmts_of (drop l.s-index l.body)) ≡ env_behind l.fn.names (stmts_of l.body)
