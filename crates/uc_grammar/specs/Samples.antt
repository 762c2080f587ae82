-- Examples: what whole texts spell. Their tokens are taken without their places, so that the trees of two texts can be
-- compared.
use Rattle.std.specs.Prelude.{ℕ, zero, suc, pos, ◌+◌, List, [], ◌∷◌, ◌++◌, map, length, codes, false, Some, None}
use Rattle.uc_tree.specs.declared.pos.Pos.{Pos}
use Rattle.uc_tree.specs.declared.ops.UnaryOp.TheVariants as unary
use Rattle.uc_tree.specs.declared.ops.BinaryOp.TheVariants as binary
use Rattle.uc_tree.specs.declared.ops.AssignOp.TheVariants as assign
use Rattle.uc_tree.specs.declared.kinds.Base.TheVariants as base
use Rattle.uc_tree.specs.declared.kinds.Kind.TheVariants as kind
use Rattle.uc_tree.specs.declared.kinds.Access.TheVariants as access
use Rattle.uc_tree.specs.declared.kinds.MutexMark.TheVariants as mark
use Rattle.uc_tree.specs.declared.kinds.Role.TheVariants as role
use Rattle.uc_tree.specs.declared.kinds.Owner.TheVariants as owner
use Rattle.uc_tree.specs.declared.kinds.HandlerKind.TheVariants as handler
use Rattle.uc_tree.specs.Expressions.{Expr, exprs_of, parts_of, links_of}
use Rattle.uc_tree.specs.Expressions as expr
use Rattle.uc_tree.specs.Statements.{Stmt, Handler, Clause, handlers_of, clauses_of}
use Rattle.uc_tree.specs.Statements as stmt
use Rattle.uc_tree.specs.Programs.{Program}
use Rattle.uc_tree.specs.Programs as prog
use Rattle.uc_grammar.specs.Names.{stmt_name}
use Rattle.uc_tree.specs.declared.token.Token.{Token}
use Rattle.uc_tree.specs.declared.limits.TheConstants.{NESTING}
use Rattle.uc_tree.specs.Tokens.{Lexed, Read, Refused, tokens}
use Rattle.uc_grammar.specs.declared.fault.ParseFault.TheVariants.{Syntax, TooDeep}
use Rattle.uc_grammar.specs.Form.{Form, inside, Spells, Fails}
use Rattle.uc_grammar.specs.Grammar.{inner, faults}

abbrev pub without_place : Token → Token
without_place t = record { kind = t.kind; at = 0; pos = record { line = 0; col = 0 } }

abbrev pub tokens_of : Lexed → List Token
tokens_of (Read ts) = ts
tokens_of (Refused why at) = []

-- the tokens of a text, and those without their places
unfoldable pub placed : List ℕ → List Token
placed text = tokens_of (tokens text)

unfoldable pub plain : List ℕ → List Token
plain text = map without_place (placed text)

-- The whole text is one piece of the form.
pub record Accepts {A : Type 0} (g : Form A) (text : List ℕ) : Type 0 where
  pub piece : A
  pub spelled : Spells (inner NESTING) g (plain text) 0 (length (plain text)) piece

-- The whole text, with its places, is this piece of the form.
pub record Spelled {A : Type 0} (g : Form A) (text : List ℕ) (piece : A) : Type 0 where
  pub spelled : Spells (inner NESTING) g (placed text) 0 (length (placed text)) piece

-- The whole text, without its places, is this piece of the form.
pub record Reads {A : Type 0} (g : Form A) (text : List ℕ) (piece : A) : Type 0 where
  pub spelled : Spells (inner NESTING) g (plain text) 0 (length (plain text)) piece

-- The two whole texts are the same piece of the form.
pub record Alike {A : Type 0} (g : Form A) (one other : List ℕ) : Type 0 where
  pub piece : A
  pub first : Spells (inner NESTING) g (plain one) 0 (length (plain one)) piece
  pub second : Spells (inner NESTING) g (plain other) 0 (length (plain other)) piece

-- The first n tokens of the text are a piece of the form, and no more of them.
pub record EndsAt {A : Type 0} (g : Form A) (text : List ℕ) (n : ℕ) : Type 0 where
  pub piece : A
  pub spelled : Spells (inner NESTING) g (plain text) 0 n piece

-- The reading of the text stops at token p.
pub record StopsAt {A : Type 0} (g : Form A) (text : List ℕ) (p : ℕ) : Type 0 where
  pub fails : Fails (inner NESTING) (faults NESTING) g (plain text) 0 (Syntax p)

-- The whole text is a piece in which nothing is nested.
pub record Flat {A : Type 0} (g : Form A) (text : List ℕ) : Type 0 where
  pub piece : A
  pub spelled : Spells (inner 0) g (plain text) 0 (length (plain text)) piece

-- The whole text is a piece of nesting n + 1, and of no less: with n levels it is too deep from token k on.
pub record Nests {A : Type 0} (g : Form A) (text : List ℕ) (n k : ℕ) : Type 0 where
  pub piece : A
  pub spelled : Spells (inner (n + 1)) g (plain text) 0 (length (plain text)) piece
  pub fails : Fails (inner n) (faults n) g (plain text) 0 (TooDeep k)

-- The text is too deep from token k on.
pub record DeepAt {A : Type 0} (g : Form A) (text : List ℕ) (k : ℕ) : Type 0 where
  pub fails : Fails (inner NESTING) (faults NESTING) g (plain text) 0 (TooDeep k)

-- a statement, which is itself a level
abbrev pub a_stmt : Form Stmt
a_stmt = inside stmt_name

abbrev pub times : ℕ → ℕ → List ℕ
times zero b = []
times (suc n) b = b ∷ times n b

-- a program that prints a number in n parentheses
abbrev pub parentheses : ℕ → List ℕ
parentheses n = codes "void uMain::main() { cout << " ++ times n 40 ++ codes "1" ++ times n 41 ++ codes "; }"

-- Trees of examples, each under its text. Without places all stands nowhere.

abbrev pub nowhere : Pos
nowhere = record { line = 0; col = 0 }

abbrev pub col : ℕ → Pos
col n = record { line = 1; col = n }

-- a - 1 + b
abbrev pub tree_of_chain : Expr
tree_of_chain = expr.Chain (col 1) (expr.Name (col 1) (codes "a")) (links_of (expr.Linked (col 3) binary.Sub (expr.Number (col 5) (pos 1)) ∷ expr.Linked (col 7) binary.Add (expr.Name (col 9) (codes "b")) ∷ []))

-- (a.b + 1) * -f(c)
abbrev pub tree_of_places : Expr
tree_of_places = expr.Chain (col 1)
    (expr.Chain (col 2) (expr.Postfix (col 2) (expr.Name (col 2) (codes "a")) (parts_of (expr.Field (col 3) (codes "b") ∷ []))) (links_of (expr.Linked (col 6) binary.Add (expr.Number (col 8) (pos 1)) ∷ [])))
    (links_of (expr.Linked (col 11) binary.Mul (expr.Unary (col 13) unary.Minus (expr.Postfix (col 14) (expr.Name (col 14) (codes "f")) (parts_of (expr.Call (col 15) (exprs_of (expr.Name (col 16) (codes "c") ∷ [])) ∷ [])))) ∷ []))

abbrev pub named : List ℕ → Expr
named text = expr.Name nowhere text

abbrev pub valued : List ℕ → Stmt
valued text = stmt.Evaluate nowhere (named text)

-- a = b
abbrev pub tree_of_assignment : Expr
tree_of_assignment = expr.Assign nowhere nowhere assign.Set (named (codes "a")) (named (codes "b"))

-- if (a) if (b) c; else d;
abbrev pub tree_of_else : Stmt
tree_of_else = stmt.If nowhere (named (codes "a")) (stmt.If nowhere (named (codes "b")) (valued (codes "c")) (stmt.OneStmt (valued (codes "d")))) stmt.NoStmt

-- if (a) while (b) if (c) d; else e;
abbrev pub tree_of_far_else : Stmt
tree_of_far_else = stmt.If nowhere (named (codes "a")) (stmt.While nowhere (named (codes "b")) (stmt.If nowhere (named (codes "c")) (valued (codes "d")) (stmt.OneStmt (valued (codes "e"))))) stmt.NoStmt

abbrev pub clause_of : List ℕ → Stmt → Clause
clause_of member body = stmt.Accepts nowhere None (record { destructor = false; name = member } ∷ []) body

-- _Accept(a) _Accept(b) c; or _Accept(d) e;
abbrev pub tree_of_or : Stmt
tree_of_or = stmt.Accept nowhere (clauses_of (clause_of (codes "a") (stmt.Accept nowhere (clauses_of (clause_of (codes "b") (valued (codes "c")) ∷ clause_of (codes "d") (valued (codes "e")) ∷ [])) stmt.NoStmt) ∷ [])) stmt.NoStmt

-- _Accept(a) _Accept(b) c; _Else d;
abbrev pub tree_of_accept_else : Stmt
tree_of_accept_else = stmt.Accept nowhere (clauses_of (clause_of (codes "a") (stmt.Accept nowhere (clauses_of (clause_of (codes "b") (valued (codes "c")) ∷ [])) (stmt.OneStmt (valued (codes "d")))) ∷ [])) stmt.NoStmt

abbrev pub handler_of : List ℕ → Handler
handler_of event = stmt.Handles nowhere handler.Catch (Some event) None nowhere stmt.NoStmts

-- if (a) try { } catch (E) { } catch (F) { }
abbrev pub tree_of_handlers : Stmt
tree_of_handlers = stmt.If nowhere (named (codes "a")) (stmt.Try nowhere nowhere stmt.NoStmts (handlers_of (handler_of (codes "E") ∷ handler_of (codes "F") ∷ []))) stmt.NoStmt

-- a b;
abbrev pub tree_of_declaration : Stmt
tree_of_declaration = stmt.Declare nowhere (base.Named (codes "a")) (record { pos = nowhere; by_ref = false; name = codes "b"; len = None; start = stmt.NoStart } ∷ [])

-- a * b;
abbrev pub tree_of_product : Stmt
tree_of_product = stmt.Evaluate nowhere (expr.Chain nowhere (named (codes "a")) (links_of (expr.Linked nowhere binary.Mul (named (codes "b")) ∷ [])))

-- a(b);
abbrev pub tree_of_call : Stmt
tree_of_call = stmt.Evaluate nowhere (expr.Postfix nowhere (named (codes "a")) (parts_of (expr.Call nowhere (exprs_of (named (codes "b") ∷ [])) ∷ [])))

-- cin >> a;
abbrev pub tree_of_read : Stmt
tree_of_read = stmt.Read nowhere (exprs_of (named (codes "a") ∷ []))

-- cin.fail();
abbrev pub tree_of_asked : Stmt
tree_of_asked = stmt.Evaluate nowhere (expr.Postfix nowhere (expr.Cin nowhere) (parts_of (expr.Field nowhere (codes "fail") ∷ expr.Call nowhere expr.NoExprs ∷ [])))

-- class A { public: _Nomutex A f(); };
abbrev pub tree_of_class : Program
tree_of_class = record { items = prog.ClassItem (record { pos = nowhere; kind = kind.Class; name = codes "A"; members = record { pos = nowhere; access = access.Public; mark = mark.Nomutex; form = prog.ProtoMember (record { pos = nowhere; owner = owner.Here; role = role.Plain; ret = base.Named (codes "A"); name = codes "f"; params = [] }) } ∷ [] }) ∷ [] }
