-- Pieces of the grammar of statements.
use Rattle.std.specs.Prelude.{List, Option}
use Rattle.uc_tree.specs.declared.pos.Pos.{Pos}
use Rattle.uc_tree.specs.declared.token.Sign.TheVariants as sign
use Rattle.uc_tree.specs.declared.token.Word.TheVariants as word
use Rattle.uc_tree.specs.Expressions.{Expr}
use Rattle.uc_tree.specs.Statements.{Stmt, ForStart}
use Rattle.uc_tree.specs.Statements as stmt
use Rattle.uc_grammar.specs.Names.{stmt_name, block_stmt_name}
use Rattle.uc_grammar.specs.Form.{Form, bind, apply, many, inside}
use Rattle.uc_grammar.specs.Tables.{in_braces}
use Rattle.uc_grammar.specs.Grammar.{expect_word, before, condition_form, maybe_expr}

-- stmt*
abbrev pub stmts_form : Form (List Stmt)
stmts_form = many in_braces (inside block_stmt_name)

-- the condition of a do, with its `while` and ';'
abbrev pub do_condition : Form Expr
do_condition = expect_word word.While (before condition_form sign.Semicolon)

-- what follows the body of a do
abbrev pub do_test : Pos → Stmt → Form Stmt
do_test pos body = expect_word word.While (apply (stmt.Do pos body) (before condition_form sign.Semicolon))

-- what follows the second ';' of a for
abbrev pub for_step : Pos → ForStart → Option Expr → Form Stmt
for_step pos start test = bind (maybe_expr sign.CloseParen) (λ next. apply (stmt.For pos start test next) (inside stmt_name))

-- what follows the first ';' of a for
abbrev pub for_test : Pos → ForStart → Form Stmt
for_test pos start = bind (maybe_expr sign.Semicolon) (for_step pos start)
