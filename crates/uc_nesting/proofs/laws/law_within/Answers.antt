use Rattle.uc_grammar.specs.Text.{IsExpr, IsStmt, IsProgram}
use Rattle.uc_nesting.proofs.Expressions.{expr_sure}
use Rattle.uc_nesting.proofs.Programs.{levels, programs_within}
use Rattle.uc_nesting.proofs.laws.law_within.Goals as goal

pub returns-clause-expr : goal.returns-clause-expr
unfolding IsExpr
returns-clause-expr c = λ n ts from to e r. (expr_sure n (levels n)).holds ts from to e r

pub returns-clause-stmt : goal.returns-clause-stmt
unfolding IsStmt
returns-clause-stmt c = λ n ts from to s r. (levels n).in_stmt.holds ts from to s r

pub returns-clause-program : goal.returns-clause-program
unfolding IsProgram
returns-clause-program c = λ n ts from to p r. (programs_within n).holds ts from to p r
