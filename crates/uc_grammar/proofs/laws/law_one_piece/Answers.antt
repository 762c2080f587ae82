use Rattle.uc_grammar.proofs.AllForms.{one_piece}
use Rattle.uc_grammar.specs.Names.{stmt_name}
use Rattle.uc_grammar.specs.Form.{inside}
use Rattle.uc_grammar.specs.Grammar.{expr_form, program_form}
use Rattle.uc_grammar.specs.Text.{IsExpr, IsStmt, IsProgram}
use Rattle.uc_grammar.proofs.laws.law_one_piece.Goals as goal

pub returns-clause-expr : goal.returns-clause-expr
unfolding IsExpr
returns-clause-expr c m n = one_piece expr_form m n

pub returns-clause-stmt : goal.returns-clause-stmt
unfolding IsStmt
returns-clause-stmt c m n = one_piece (inside stmt_name) m n

pub returns-clause-program : goal.returns-clause-program
unfolding IsProgram
returns-clause-program c m n = one_piece program_form m n
