use Rattle.std.proofs.Common.{◌≡◌, ◌++◌, drop, map}
use Rattle.uc_tree.specs.Statements.{clause_list, clauses_of}
use Rattle.uc_numbering.specs.Sites.{clause_listed}
use Rattle.uc_numbering.proofs.sites.site_of.Given as goal

abbrev pub invariant-loop-clause : goal.invariant-loop-clause
invariant-loop-clause l = l.lists.items ++ map (clause_listed (map (λ n. n.now) l.names)) (clause_list (clauses_of (drop l.clause-index l.clauses))) ≡ map (clause_listed (map (λ n. n.now) l.names)) (clause_list (clauses_of l.clauses))
