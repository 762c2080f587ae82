-- What follows the head of a statement, a clause or a handler.
use Rattle.std.specs.Prelude.{List, Bool, true, false, Option, Some, None}
use Rattle.uc_tree.specs.declared.pos.Pos.{Pos}
use Rattle.uc_tree.specs.declared.kinds.HandlerKind.{HandlerKind}
use Rattle.uc_tree.specs.declared.token.Word.{Word}
use Rattle.uc_tree.specs.declared.token.Sign.TheVariants as sign
use Rattle.uc_tree.specs.declared.token.Word.TheVariants as word
use Rattle.uc_tree.specs.Statements.{Stmt, Stmts, MaybeStmt, NoStmt, Handler, Handles, Clause, Accepts, stmts_of}
use Rattle.uc_tree.specs.Statements as stmt
use Rattle.uc_grammar.specs.Names.{stmt_name}
use Rattle.uc_grammar.specs.Form.{Form, empty, skip, bind, apply, listed, inside}
use Rattle.uc_grammar.specs.Tables.{is_or, is_handler, word_of}
use Rattle.uc_grammar.specs.Grammar.{expect_sign, maybe_stmt, block_rest, block_form, braced, caught_form, handles, handler_form, handlers_form, tried, clause_form, accepts}
use Rattle.uc_parse_stmt.specs.Forms.{do_test}
use Rattle.uc_parse_simple.specs.Parts.{caught_of}
use Rattle.uc_parse_stmt.specs.declared.head.Head.{Head}
use Rattle.uc_parse_stmt.specs.declared.head.Head.TheVariants as head
use Rattle.uc_parse_stmt.specs.declared.head.Begun.{Begun}
use Rattle.uc_parse_stmt.specs.declared.head.Begun.TheVariants as begun
use Rattle.uc_parse_stmt.specs.declared.head.ClauseHead.{ClauseHead}
use Rattle.uc_parse_stmt.specs.declared.head.HandlerHead.{HandlerHead}

-- the word before the second statement of a statement
abbrev pub else_of : Head → Option Word
else_of (head.If test) = Some word.Else
else_of (head.While test) = None
else_of head.Do = None
else_of (head.For start test next) = None
else_of (head.Enable events) = None
else_of (head.Disable events) = None

-- a statement behind this word, where there is one
abbrev pub maybe_by : Option Word → Form MaybeStmt
maybe_by None = empty NoStmt
maybe_by (Some w) = maybe_stmt w

-- the statement inside of a statement, and the one behind this word
abbrev pub bodies_form : Option Word → Form (Stmt × MaybeStmt)
bodies_form w = bind (inside stmt_name) (λ s. apply (λ o. (s, o)) (maybe_by w))

-- what stands behind the statements inside of a statement
abbrev pub close_form : Pos → Head → Stmt → MaybeStmt → Form Stmt
close_form pos (head.If test) s o = empty (stmt.If pos test s o)
close_form pos (head.While test) s o = empty (stmt.While pos test s)
close_form pos head.Do s o = do_test pos s
close_form pos (head.For start test next) s o = empty (stmt.For pos start test next s)
close_form pos (head.Enable events) s o = empty (stmt.Enable pos events.items s)
close_form pos (head.Disable events) s o = empty (stmt.Disable pos events.items s)

-- what follows the head of a statement
abbrev pub head_form : Pos → Head → Form Stmt
head_form pos h = bind (inside stmt_name) (λ s. bind (maybe_by (else_of h)) (λ o. close_form pos h s o))

-- what follows the head of a clause
abbrev pub clause_of : ClauseHead → Stmt → Clause
clause_of h s = Accepts h.pos h.guard h.members.items s

abbrev pub clause_rest : ClauseHead → Form Clause
clause_rest h = apply (λ s. clause_of h s) (inside stmt_name)

-- what follows the head of an accept statement's first clause
abbrev pub clauses_rest : ClauseHead → Form (List Clause)
clauses_rest h = listed (clause_rest h) (λ o. is_or (word_of o)) (skip clause_form)

abbrev pub accept_rest : Pos → ClauseHead → Form Stmt
accept_rest pos h = bind (clauses_rest h) (λ cs. apply (accepts pos cs) (maybe_stmt word.AcceptElse))

-- what follows the word of a handler
abbrev pub taken_form : Pos → HandlerKind → Form Handler
taken_form pos k = expect_sign sign.OpenParen (bind caught_form (λ c. apply (handles pos k c) block_form))

-- what follows the head of a handler
abbrev pub handler_of : HandlerHead → Stmts → Handler
handler_of h b = handles h.pos h.kind (caught_of h.caught) (braced h.brace b)

abbrev pub handler_rest : HandlerHead → Form Handler
handler_rest h = apply (λ b. handler_of h b) block_rest

-- what follows the head of a `try` statement's first handler
abbrev pub handlers_rest : HandlerHead → Form (List Handler)
handlers_rest h = listed (handler_rest h) (λ o. is_handler (word_of o)) handler_form

-- what follows the `{` of a `try` statement
abbrev pub try_handlers : Pos → Pos → Stmts → Form Stmt
try_handlers pos brace b = apply (tried pos (braced brace b)) handlers_form

abbrev pub try_form : Pos → Pos → Form Stmt
try_form pos brace = bind block_rest (λ b. try_handlers pos brace b)

-- what follows what is read of a statement before the first statement inside
abbrev pub begun_form : Pos → Begun → Form Stmt
begun_form pos (begun.Whole s) = empty s
begun_form pos (begun.Headed h) = head_form pos h
begun_form pos begun.Block = apply (stmt.Block pos) block_rest
begun_form pos (begun.Try brace) = try_form pos brace
begun_form pos (begun.Accept first) = accept_rest pos first

-- whether there is a statement inside that is not read
abbrev pub is_open : Begun → Bool
is_open (begun.Whole s) = false
is_open (begun.Headed h) = true
is_open begun.Block = true
is_open (begun.Try brace) = true
is_open (begun.Accept first) = true
