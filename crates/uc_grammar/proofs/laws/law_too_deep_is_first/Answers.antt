use Rattle.uc_grammar.specs.Names.{stmt_name}
use Rattle.uc_grammar.specs.Form.{inside}
use Rattle.uc_grammar.specs.Grammar.{expr_form, program_form}
use Rattle.uc_grammar.specs.Text.{IsExpr, IsStmt, IsProgram, ExprFails, StmtFails, ProgramFails}
use Rattle.uc_grammar.proofs.First.{first_too_deep}
use Rattle.uc_grammar.proofs.laws.law_too_deep_is_first.Goals as goal

pub returns-clause-expr : goal.returns-clause-expr
unfolding IsExpr ExprFails
returns-clause-expr c room n ts from to k v = first_too_deep expr_form room n ts from to k v

pub returns-clause-stmt : goal.returns-clause-stmt
unfolding IsStmt StmtFails
returns-clause-stmt c room n ts from to k v = first_too_deep (inside stmt_name) room n ts from to k v

pub returns-clause-program : goal.returns-clause-program
unfolding IsProgram ProgramFails
returns-clause-program c room n ts from to k v = first_too_deep program_form room n ts from to k v
