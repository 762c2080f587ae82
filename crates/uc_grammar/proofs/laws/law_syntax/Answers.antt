use Rattle.uc_grammar.proofs.Told.{syntax_refuses}
use Rattle.uc_grammar.specs.Names.{stmt_name}
use Rattle.uc_grammar.specs.Form.{inside}
use Rattle.uc_grammar.specs.Grammar.{expr_form, program_form}
use Rattle.uc_grammar.specs.Text.{IsExpr, IsStmt, IsProgram, ExprFails, StmtFails, ProgramFails}
use Rattle.uc_grammar.proofs.laws.law_syntax.Goals as goal

pub returns-clause-expr : goal.returns-clause-expr
unfolding IsExpr ExprFails
returns-clause-expr c = syntax_refuses expr_form

pub returns-clause-stmt : goal.returns-clause-stmt
unfolding IsStmt StmtFails
returns-clause-stmt c = syntax_refuses (inside stmt_name)

pub returns-clause-program : goal.returns-clause-program
unfolding IsProgram ProgramFails
returns-clause-program c = syntax_refuses program_form
