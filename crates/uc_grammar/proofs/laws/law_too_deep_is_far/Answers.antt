use Rattle.uc_grammar.specs.Text.{ExprFails, StmtFails, ProgramFails}
use Rattle.uc_grammar.proofs.Far.{expr_far, stmt_far, program_far}
use Rattle.uc_grammar.proofs.laws.law_too_deep_is_far.Goals as goal

pub returns-clause-expr : goal.returns-clause-expr
unfolding ExprFails
returns-clause-expr c = expr_far

pub returns-clause-stmt : goal.returns-clause-stmt
unfolding StmtFails
returns-clause-stmt c = stmt_far

pub returns-clause-program : goal.returns-clause-program
unfolding ProgramFails
returns-clause-program c = program_far
