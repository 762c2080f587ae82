-- Parts of statements that no tree has, as the code holds them.
use Rattle.uc_tree.specs.Statements.{Stmt, Stmts, MaybeStmt, stmts_of, maybe_stmt_of}
use Rattle.uc_tree.specs.declared.pos.Pos.{Pos}
use Rattle.uc_parse_stmt.specs.declared.head.Bodies.{Bodies}
use Rattle.uc_parse_stmt.specs.declared.parse.Body.{Body}

abbrev pub body_of : Body → Pos × Stmts
body_of b = (b.brace, stmts_of b.body.items)

abbrev pub bodies_of : Bodies → Stmt × MaybeStmt
bodies_of b = (b.body, maybe_stmt_of b.other)
