use Rattle.uc_grammar.proofs.Told.{too_deep_refuses}
use Rattle.uc_grammar.specs.Names.{stmt_name}
use Rattle.uc_grammar.specs.Form.{inside}
use Rattle.uc_grammar.specs.Grammar.{expr_form, program_form}
use Rattle.uc_grammar.specs.Text.{IsExpr, IsStmt, IsProgram, ExprFails, StmtFails, ProgramFails}
use Rattle.uc_grammar.proofs.laws.law_too_deep.Goals as goal

pub returns-clause-expr : goal.returns-clause-expr
unfolding IsExpr ExprFails
returns-clause-expr c = too_deep_refuses expr_form

pub returns-clause-stmt : goal.returns-clause-stmt
unfolding IsStmt StmtFails
returns-clause-stmt c = too_deep_refuses (inside stmt_name)

pub returns-clause-program : goal.returns-clause-program
unfolding IsProgram ProgramFails
returns-clause-program c = too_deep_refuses program_form
