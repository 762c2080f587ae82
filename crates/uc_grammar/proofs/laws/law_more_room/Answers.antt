use Rattle.uc_grammar.proofs.Told.{room_up}
use Rattle.uc_grammar.specs.Names.{stmt_name}
use Rattle.uc_grammar.specs.Form.{inside}
use Rattle.uc_grammar.specs.Grammar.{expr_form, program_form}
use Rattle.uc_grammar.specs.Text.{IsExpr, IsStmt, IsProgram}
use Rattle.uc_grammar.proofs.laws.law_more_room.Goals as goal

pub returns-clause-expr : goal.returns-clause-expr
unfolding IsExpr
returns-clause-expr c = room_up expr_form

pub returns-clause-stmt : goal.returns-clause-stmt
unfolding IsStmt
returns-clause-stmt c = room_up (inside stmt_name)

pub returns-clause-program : goal.returns-clause-program
unfolding IsProgram
returns-clause-program c = room_up program_form
