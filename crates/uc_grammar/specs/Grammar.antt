-- The whole grammar. Above each form stands its production: quoted words are tokens, X* is none or more, X? none or one,
-- X,+ one or more parted by commas, X,* none or more. `inside` marks what stands one level deeper.
--
-- A piece is read from left to right by its next token. Where two productions begin alike, what they share is read once:
-- a form X_after, X_from or X_rest is a production without its beginning, and takes the place and the piece of that.
use Rattle.std.specs.Prelude.{◌≡◌, ℕ, zero, suc, List, [], ◌∷◌, Bool, true, false, Option, Some, None}
use Rattle.uc_tree.specs.declared.pos.Pos.{Pos}
use Rattle.uc_tree.specs.declared.token.TokenKind.{TokenKind}
use Rattle.uc_tree.specs.declared.token.TokenKind.TheVariants as token
use Rattle.uc_tree.specs.declared.token.Word.{Word}
use Rattle.uc_tree.specs.declared.token.Word.TheVariants as word
use Rattle.uc_tree.specs.declared.token.Sign.{Sign}
use Rattle.uc_tree.specs.declared.token.Sign.TheVariants as sign
use Rattle.uc_tree.specs.declared.ops.UnaryOp.{UnaryOp}
use Rattle.uc_tree.specs.declared.ops.BinaryOp.{BinaryOp}
use Rattle.uc_tree.specs.declared.ops.AssignOp.{AssignOp}
use Rattle.uc_tree.specs.declared.ops.StepOp.TheVariants as step
use Rattle.uc_tree.specs.declared.kinds.Kind.{Kind}
use Rattle.uc_tree.specs.declared.kinds.Kind.TheVariants as kind
use Rattle.uc_tree.specs.declared.kinds.Access.{Access}
use Rattle.uc_tree.specs.declared.kinds.Access.TheVariants as access
use Rattle.uc_tree.specs.declared.kinds.MutexMark.{MutexMark}
use Rattle.uc_tree.specs.declared.kinds.MutexMark.TheVariants as mark
use Rattle.uc_tree.specs.declared.kinds.Role.{Role}
use Rattle.uc_tree.specs.declared.kinds.Role.TheVariants as role
use Rattle.uc_tree.specs.declared.kinds.HandlerKind.{HandlerKind}
use Rattle.uc_tree.specs.declared.kinds.Base.{Base}
use Rattle.uc_tree.specs.declared.kinds.Base.TheVariants as base
use Rattle.uc_tree.specs.declared.kinds.Owner.{Owner}
use Rattle.uc_tree.specs.declared.kinds.Owner.TheVariants as owner
use Rattle.uc_tree.specs.declared.kinds.Param.{Param}
use Rattle.uc_tree.specs.declared.kinds.EventName.{EventName}
use Rattle.uc_tree.specs.declared.kinds.MemberName.{MemberName}
use Rattle.uc_tree.specs.Expressions.{Expr, Exprs, Part, Link, exprs_of, parts_of, links_of}
use Rattle.uc_tree.specs.Expressions as expr
use Rattle.uc_tree.specs.Statements.{Stmt, Stmts, MaybeStmt, Handler, Clause, Start, Declarator, Raised, OutItem, ForStart, stmts_of, handlers_of, clauses_of}
use Rattle.uc_tree.specs.Statements as stmt
use Rattle.uc_tree.specs.Programs.{Sig, Init, Routine, MemberForm, Member, Class, Constant, Item, Program}
use Rattle.uc_tree.specs.Programs as prog
use Rattle.uc_grammar.specs.declared.level.Level.{Level}
use Rattle.uc_grammar.specs.declared.level.Level.TheVariants as level
use Rattle.uc_grammar.specs.declared.start.StmtStart.{StmtStart}
use Rattle.uc_grammar.specs.declared.start.StmtStart.TheVariants as start
use Rattle.uc_grammar.specs.declared.fault.ParseFault.TheVariants.{TooDeep}
use Rattle.uc_grammar.specs.Names.{Simple, Declares, Evaluates, ClassPart, AccessPart, MemberPart, Name, expr_name, unary_name, right_name, stmt_name, block_stmt_name, part_name}
use Rattle.uc_grammar.specs.Spell.{Nothing}
use Rattle.uc_grammar.specs.Form.{Form, nothing, empty, skip, expect, token_or, look, here, bind, apply, many, listed, inside, Inner, Spells, Faults, Fails}
use Rattle.uc_grammar.specs.Tables.{word_of, sign_of, unary_of, binary_of, assign_of, base_of, scalar_of, access_of, handler_of, stmt_start, is_comma, is_out, is_in, is_less, is_part, is_or, is_binary, is_handler, in_braces, any_token}

-- Small forms.

-- just this sign, or this word, and then the form
abbrev pub expect_sign : {A : Type 0} → Sign → Form A → Form A
expect_sign s g = expect (token.Sign s) g

abbrev pub expect_word : {A : Type 0} → Word → Form A → Form A
expect_word w g = expect (token.Word w) g

-- if this sign, or this word, is next, it and the first form, and else the second
abbrev pub sign_or : {A : Type 0} → Sign → Form A → Form A → Form A
sign_or s g h = token_or (token.Sign s) g h

abbrev pub word_or : {A : Type 0} → Word → Form A → Form A → Form A
word_or w g h = token_or (token.Word w) g h

-- the form, and then the sign
abbrev pub before : {A : Type 0} → Form A → Sign → Form A
before g s = bind g (λ x. expect_sign s (empty x))

-- X (',' X)*
abbrev pub comma_list : {A : Type 0} → Form A → Form (List A)
comma_list g = listed g (λ o. is_comma (sign_of o)) (skip g)

-- whether the sign is there
abbrev pub maybe_sign : Sign → Form Bool
maybe_sign s = sign_or s (empty true) (empty false)

abbrev pub name_at : Option TokenKind → Form (List ℕ)
name_at (Some (token.Name n)) = skip (empty n)
name_at _ = nothing

abbrev pub name_form : Form (List ℕ)
name_form = look name_at

-- Expressions.

-- a chain without operators is its operand, and so is a postfix without parts
abbrev pub chained : Pos → Expr → List Link → Expr
chained pos e [] = e
chained pos e (l ∷ ls) = expr.Chain pos e (links_of (l ∷ ls))

abbrev pub with_parts : Pos → Expr → List Part → Expr
with_parts pos e [] = e
with_parts pos e (p ∷ ps) = expr.Postfix pos e (parts_of (p ∷ ps))

-- primary = number | character | 'true' | 'false' | name | 'cin' | '(' expr ')'
abbrev pub primary_at : Pos → Option TokenKind → Form Expr
primary_at pos (Some (token.Number n)) = skip (empty (expr.Number pos n))
primary_at pos (Some (token.Character c)) = skip (empty (expr.Character pos c))
primary_at pos (Some (token.Word word.True)) = skip (empty (expr.Truth pos true))
primary_at pos (Some (token.Word word.False)) = skip (empty (expr.Truth pos false))
primary_at pos (Some (token.Name n)) = skip (empty (expr.Name pos n))
primary_at pos (Some (token.Word word.Cin)) = skip (empty (expr.Cin pos))
primary_at pos (Some (token.Sign sign.OpenParen)) = skip (before (inside expr_name) sign.CloseParen)
primary_at pos _ = nothing

abbrev pub primary_form : Form Expr
primary_form = here (λ pos. look (primary_at pos))

-- expr,+
abbrev pub arguments_form : Form (List Expr)
arguments_form = comma_list (inside expr_name)

-- expr,* and then the sign
abbrev pub closed_arguments : Sign → Form (List Expr)
closed_arguments s = sign_or s (empty []) (before arguments_form s)

-- '.' name | '[' expr ']' | '(' expr,* ')' | '++' | '--'
abbrev pub part_at : Pos → Option TokenKind → Form Part
part_at own (Some (token.Sign sign.Dot)) = skip (apply (expr.Field own) name_form)
part_at own (Some (token.Sign sign.OpenBracket)) = skip (apply (expr.Index own) (before (inside expr_name) sign.CloseBracket))
part_at own (Some (token.Sign sign.OpenParen)) = skip (apply (λ es. expr.Call own (exprs_of es)) (closed_arguments sign.CloseParen))
part_at own (Some (token.Sign sign.Increment)) = skip (empty (expr.Step own step.Increment))
part_at own (Some (token.Sign sign.Decrement)) = skip (empty (expr.Step own step.Decrement))
part_at own _ = nothing

abbrev pub part_form : Form Part
part_form = here (λ own. look (part_at own))

-- postfix = primary part*
abbrev pub postfix_after : Pos → Expr → Form Expr
postfix_after pos e = apply (with_parts pos e) (many (λ o. is_part (sign_of o)) part_form)

abbrev pub postfix_form : Form Expr
postfix_form = here (λ pos. bind primary_form (postfix_after pos))

-- unary = ('-' | '+' | '!' | '++' | '--') unary | postfix
abbrev pub unary_by : Option UnaryOp → Form Expr
unary_by None = postfix_form
unary_by (Some op) = here (λ pos. skip (apply (expr.Unary pos op) (inside unary_name)))

abbrev pub unary_form : Form Expr
unary_form = look (λ o. unary_by (unary_of (sign_of o)))

-- an operator, whose sign is next, and its right operand
abbrev pub link_by : Form Expr → Option BinaryOp → Form Link
link_by operand None = nothing
link_by operand (Some op) = here (λ own. skip (apply (expr.Linked own op) operand))

abbrev pub link_form : Level → Form Expr → Form Link
link_form l operand = look (λ o. link_by operand (binary_of l (sign_of o)))

-- what follows the first operand of a chain
abbrev pub chain_after : Level → Form Expr → Pos → Expr → Form Expr
chain_after l operand pos e = apply (chained pos e) (many (λ o. is_binary l (sign_of o)) (link_form l operand))

-- product = unary (('*' | '/' | '%') unary)*
abbrev pub product_after : Pos → Expr → Form Expr
product_after pos u = chain_after level.Product unary_form pos u

abbrev pub product_form : Form Expr
product_form = here (λ pos. bind unary_form (product_after pos))

-- sum = product (('+' | '-') product)*
abbrev pub sum_after : Pos → Expr → Form Expr
sum_after pos u = bind (product_after pos u) (chain_after level.Sum product_form pos)

abbrev pub sum_form : Form Expr
sum_form = here (λ pos. bind unary_form (sum_after pos))

-- comparison = sum (('<' | '<=' | '>' | '>=') sum)*
abbrev pub comparison_after : Pos → Expr → Form Expr
comparison_after pos u = bind (sum_after pos u) (chain_after level.Comparison sum_form pos)

abbrev pub comparison_form : Form Expr
comparison_form = here (λ pos. bind unary_form (comparison_after pos))

-- equality = comparison (('==' | '!=') comparison)*
abbrev pub equality_after : Pos → Expr → Form Expr
equality_after pos u = bind (comparison_after pos u) (chain_after level.Equality comparison_form pos)

abbrev pub equality_form : Form Expr
equality_form = here (λ pos. bind unary_form (equality_after pos))

-- and-expr = equality ('&&' equality)*
abbrev pub and_after : Pos → Expr → Form Expr
and_after pos u = bind (equality_after pos u) (chain_after level.And equality_form pos)

abbrev pub and_form : Form Expr
and_form = here (λ pos. bind unary_form (and_after pos))

-- or-expr = and-expr ('||' and-expr)*
abbrev pub or_after : Pos → Expr → Form Expr
or_after pos u = bind (and_after pos u) (chain_after level.Or and_form pos)

-- what follows the first unary of each level's piece, and what stands between its operators
abbrev pub level_after : Level → Pos → Expr → Form Expr
level_after level.Product = product_after
level_after level.Sum = sum_after
level_after level.Comparison = comparison_after
level_after level.Equality = equality_after
level_after level.And = and_after
level_after level.Or = or_after

abbrev pub operand_form : Level → Form Expr
operand_form level.Product = unary_form
operand_form level.Sum = product_form
operand_form level.Comparison = sum_form
operand_form level.Equality = comparison_form
operand_form level.And = equality_form
operand_form level.Or = and_form

-- expr = or-expr | unary ('=' | '+=' | '-=' | '*=' | '/=' | '%=') expr
-- The right side of an assignment that is itself on the right of another stands one level deeper.
abbrev pub assigned_by : Form Expr → Pos → Expr → Option AssignOp → Form Expr
assigned_by right pos u None = or_after pos u
assigned_by right pos u (Some op) = here (λ own. skip (apply (expr.Assign pos own op u) right))

abbrev pub right_after : Pos → Expr → Form Expr
right_after pos u = look (λ o. assigned_by (inside right_name) pos u (assign_of (sign_of o)))

abbrev pub right_form : Form Expr
right_form = here (λ pos. bind unary_form (right_after pos))

abbrev pub expr_after : Pos → Expr → Form Expr
expr_after pos u = look (λ o. assigned_by right_form pos u (assign_of (sign_of o)))

abbrev pub expr_form : Form Expr
expr_form = here (λ pos. bind unary_form (expr_after pos))

-- an expression that begins with this primary
abbrev pub expr_from : Pos → Expr → Form Expr
expr_from pos e = bind (postfix_after pos e) (expr_after pos)

-- expr? and then the sign
abbrev pub maybe_expr : Sign → Form (Option Expr)
maybe_expr s = sign_or s (empty None) (apply Some (before expr_form s))

-- Declarations.

-- base = 'void' | scalar | 'uCondition' | 'uCluster' | 'uProcessor' | name
abbrev pub base_by : Option Base → Form Base
base_by None = apply base.Named name_form
base_by (Some b) = skip (empty b)

abbrev pub base_form : Form Base
base_form = look (λ o. base_by (base_of (word_of o)))

-- scalar = 'int' | 'char' | 'bool'
abbrev pub scalar_by : Option Base → Form Base
scalar_by None = nothing
scalar_by (Some b) = skip (empty b)

abbrev pub scalar_form : Form Base
scalar_form = look (λ o. scalar_by (scalar_of (word_of o)))

-- length = '[' expr ']'
abbrev pub length_form : Form (Option Expr)
length_form = sign_or sign.OpenBracket (apply Some (before (inside expr_name) sign.CloseBracket)) (empty None)

-- start = '=' expr | '(' expr,+ ')' | '{' expr,* '}'
abbrev pub start_at : Option Sign → Form Start
start_at (Some sign.Assign) = skip (apply stmt.StartValue expr_form)
start_at (Some sign.OpenParen) = skip (apply (λ es. stmt.StartArgs (exprs_of es)) (before arguments_form sign.CloseParen))
start_at (Some sign.OpenBrace) = skip (apply (λ es. stmt.StartArgs (exprs_of es)) (closed_arguments sign.CloseBrace))
start_at _ = empty stmt.NoStart

abbrev pub start_form : Form Start
start_form = look (λ o. start_at (sign_of o))

abbrev pub variable : Pos → List ℕ → Option Expr → Start → Declarator
variable pos n l s = record { pos = pos; by_ref = false; name = n; len = l; start = s }

-- declarator = name length? start?
abbrev pub declarator_form : Form Declarator
declarator_form = here (λ pos. bind name_form (λ n. bind length_form (λ l. apply (variable pos n l) start_form)))

-- decl = base declarator,+
abbrev pub declarators_form : Form (List Declarator)
declarators_form = comma_list declarator_form

-- decl | expr: what begins with two names or with the word of a base is a decl
abbrev pub named_at : Pos → List ℕ → Option TokenKind → Form Simple
named_at pos n (Some (token.Name m)) = apply (Declares pos (base.Named n)) declarators_form
named_at pos n _ = apply (Evaluates pos) (expr_from pos (expr.Name pos n))

abbrev pub based_or_expr : Pos → Option Base → Form Simple
based_or_expr pos None = apply (Evaluates pos) expr_form
based_or_expr pos (Some b) = skip (apply (Declares pos b) declarators_form)

abbrev pub simple_at : Pos → Option TokenKind → Form Simple
simple_at pos (Some (token.Name n)) = skip (look (named_at pos n))
simple_at pos o = based_or_expr pos (base_of (word_of o))

abbrev pub simple_form : Form Simple
simple_form = here (λ pos. look (simple_at pos))

-- Statements.

-- what follows the '{' of block = '{' stmt* '}'
abbrev pub block_rest : Form Stmts
block_rest = apply stmts_of (before (many in_braces (inside block_stmt_name)) sign.CloseBrace)

-- a block, with the place of its '{'
abbrev pub braced : Pos → Stmts → Pos × Stmts
braced brace body = (brace, body)

abbrev pub block_form : Form (Pos × Stmts)
block_form = here (λ brace. expect_sign sign.OpenBrace (apply (braced brace) block_rest))

-- '(' expr ')'
abbrev pub condition_form : Form Expr
condition_form = expect_sign sign.OpenParen (before expr_form sign.CloseParen)

-- (word stmt)?
abbrev pub maybe_stmt : Word → Form MaybeStmt
maybe_stmt w = word_or w (apply stmt.OneStmt (inside stmt_name)) (empty stmt.NoStmt)

-- decl ';' | expr ';'
abbrev pub simple_stmt : Simple → Stmt
simple_stmt (Declares pos b ds) = stmt.Declare pos b ds
simple_stmt (Evaluates pos e) = stmt.Evaluate pos e

abbrev pub simple_stmt_form : Form Stmt
simple_stmt_form = apply simple_stmt (before simple_form sign.Semicolon)

-- 'if' '(' expr ')' stmt ('else' stmt)?
abbrev pub if_rest : Pos → Form Stmt
if_rest pos = bind condition_form (λ e. bind (inside stmt_name) (λ s. apply (stmt.If pos e s) (maybe_stmt word.Else)))

-- 'while' '(' expr ')' stmt
abbrev pub while_rest : Pos → Form Stmt
while_rest pos = bind condition_form (λ e. apply (stmt.While pos e) (inside stmt_name))

-- 'do' stmt 'while' '(' expr ')' ';'
abbrev pub do_rest : Pos → Form Stmt
do_rest pos = bind (inside stmt_name) (λ s. expect_word word.While (apply (stmt.Do pos s) (before condition_form sign.Semicolon)))

-- (decl | expr)? ';'
abbrev pub for_start : Simple → ForStart
for_start (Declares pos b ds) = stmt.ForDeclare pos b ds
for_start (Evaluates pos e) = stmt.ForEvaluate e

abbrev pub for_start_form : Form ForStart
for_start_form = sign_or sign.Semicolon (empty stmt.NoFor) (apply for_start (before simple_form sign.Semicolon))

-- 'for' '(' (decl | expr)? ';' expr? ';' expr? ')' stmt
abbrev pub for_rest : Pos → Form Stmt
for_rest pos = expect_sign sign.OpenParen (bind for_start_form (λ st. bind (maybe_expr sign.Semicolon) (λ test. bind (maybe_expr sign.CloseParen) (λ next. apply (stmt.For pos st test next) (inside stmt_name)))))

-- handler = ('catch' | '_CatchResume') '(' ('...' | name '&'? name?) ')' block
abbrev pub maybe_name_closed : Form (Option (List ℕ))
maybe_name_closed = sign_or sign.CloseParen (empty None) (apply Some (before name_form sign.CloseParen))

abbrev pub Caught : Type 0
Caught = Option (List ℕ) × Option (List ℕ)

abbrev pub any_event : Caught
any_event = (None, None)

abbrev pub one_event : List ℕ → Option (List ℕ) → Caught
one_event n param = (Some n, param)

abbrev pub caught_form : Form Caught
caught_form = sign_or sign.Ellipsis (expect_sign sign.CloseParen (empty any_event)) (bind name_form (λ n. bind (maybe_sign sign.And) (λ r. apply (one_event n) maybe_name_closed)))

abbrev pub handles : Pos → HandlerKind → Caught → Pos × Stmts → Handler
handles pos k c b = stmt.Handles pos k c.0 c.1 b.0 b.1

abbrev pub handler_by : Pos → Option HandlerKind → Form Handler
handler_by pos None = nothing
handler_by pos (Some k) = skip (expect_sign sign.OpenParen (bind caught_form (λ c. apply (handles pos k c) block_form)))

abbrev pub handler_form : Form Handler
handler_form = here (λ pos. look (λ o. handler_by pos (handler_of (word_of o))))

-- handler handler*
abbrev pub handlers_form : Form (List Handler)
handlers_form = listed handler_form (λ o. is_handler (word_of o)) handler_form

-- 'try' block handler handler*
abbrev pub tried : Pos → Pos × Stmts → List Handler → Stmt
tried pos b hs = stmt.Try pos b.0 b.1 (handlers_of hs)

abbrev pub try_rest : Pos → Form Stmt
try_rest pos = bind block_form (λ b. apply (tried pos b) handlers_form)

-- raised = name '(' expr,* ')'
abbrev pub raise_of : Pos → List ℕ → List Expr → Raised
raise_of pos n es = record { pos = pos; name = n; args = exprs_of es }

abbrev pub raised_form : Form Raised
raised_form = here (λ pos. bind name_form (λ n. expect_sign sign.OpenParen (apply (raise_of pos n) (closed_arguments sign.CloseParen))))

-- '_Throw' raised? ';'
abbrev pub throw_rest : Pos → Form Stmt
throw_rest pos = apply (stmt.Throw pos) (sign_or sign.Semicolon (empty None) (apply Some (before raised_form sign.Semicolon)))

-- '_Resume' (raised ('_At' postfix)?)? ';'
abbrev pub at_form : Pos → Raised → Form Stmt
at_form pos r = word_or word.At (apply (stmt.RaiseAt pos r) postfix_form) (empty (stmt.Raise pos (Some r)))

abbrev pub raise_rest : Pos → Form Stmt
raise_rest pos = sign_or sign.Semicolon (empty (stmt.Raise pos None)) (bind raised_form (λ r. before (at_form pos r) sign.Semicolon))

-- '<' name '>'
abbrev pub event_name : Pos → List ℕ → EventName
event_name pos n = record { pos = pos; name = n }

abbrev pub event_form : Form EventName
event_form = skip (here (λ pos. apply (event_name pos) (before name_form sign.Greater)))

abbrev pub events_form : Form (List EventName)
events_form = many (λ o. is_less (sign_of o)) event_form

-- '_Enable' ('<' name '>')* stmt, and '_Disable' likewise
abbrev pub enable_rest : Pos → Form Stmt
enable_rest pos = bind events_form (λ es. apply (stmt.Enable pos es) (inside stmt_name))

abbrev pub disable_rest : Pos → Form Stmt
disable_rest pos = bind events_form (λ es. apply (stmt.Disable pos es) (inside stmt_name))

-- '~'? name
abbrev pub member_name : Bool → List ℕ → MemberName
member_name d n = record { destructor = d; name = n }

abbrev pub member_name_form : Form MemberName
member_name_form = bind (maybe_sign sign.Tilde) (λ d. apply (member_name d) name_form)

-- clause = ('_When' '(' expr ')')? '_Accept' '(' ('~'? name),+ ')' stmt
abbrev pub guard_form : Form (Option Expr)
guard_form = word_or word.When (apply Some condition_form) (empty None)

abbrev pub members_form : Form (List MemberName)
members_form = expect_word word.Accept (expect_sign sign.OpenParen (before (comma_list member_name_form) sign.CloseParen))

abbrev pub clause_form : Form Clause
clause_form = here (λ pos. bind guard_form (λ g. bind members_form (λ ms. apply (stmt.Accepts pos g ms) (inside stmt_name))))

-- clause ('or' clause)* ('_Else' stmt)?
abbrev pub accepts : Pos → List Clause → MaybeStmt → Stmt
accepts pos cs other = stmt.Accept pos (clauses_of cs) other

abbrev pub clauses_form : Form (List Clause)
clauses_form = listed clause_form (λ o. is_or (word_of o)) (skip clause_form)

abbrev pub accept_form : Pos → Form Stmt
accept_form pos = bind clauses_form (λ cs. apply (accepts pos cs) (maybe_stmt word.AcceptElse))

-- out = '<<' ('endl' | text | sum)
abbrev pub out_at : Pos → Option TokenKind → Form OutItem
out_at own (Some (token.Word word.Endl)) = skip (empty (stmt.Endl own))
out_at own (Some (token.Text t)) = skip (empty (stmt.Literal own t))
out_at own _ = apply (stmt.Printed own) sum_form

abbrev pub out_form : Form OutItem
out_form = here (λ own. expect_sign sign.ShiftLeft (look (out_at own)))

-- out out* ';'
abbrev pub outs_form : Form (List OutItem)
outs_form = before (listed out_form (λ o. is_out (sign_of o)) out_form) sign.Semicolon

-- 'osacquire' '(' 'cout' ')' out out* ';'
abbrev pub together_rest : Pos → Form Stmt
together_rest pos = expect_sign sign.OpenParen (expect_word word.Cout (expect_sign sign.CloseParen (apply (stmt.PrintTogether pos) outs_form)))

-- 'cin' ('>>' postfix) ('>>' postfix)* ';', and an expression where anything but '>>' follows
abbrev pub reads : Pos → List Expr → Stmt
reads pos es = stmt.Read pos (exprs_of es)

abbrev pub cin_rest : Pos → Form Stmt
cin_rest pos = sign_or sign.ShiftRight
    (apply (reads pos) (before (listed postfix_form (λ o. is_in (sign_of o)) (skip postfix_form)) sign.Semicolon))
    (apply (stmt.Evaluate pos) (before (expr_from pos (expr.Cin pos)) sign.Semicolon))

-- '(' ')' ';'
abbrev pub no_arguments : Stmt → Form Stmt
no_arguments s = expect_sign sign.OpenParen (expect_sign sign.CloseParen (expect_sign sign.Semicolon (empty s)))

-- 'migrate' '(' postfix ')' ';'
abbrev pub migrate_rest : Pos → Form Stmt
migrate_rest pos = expect_sign sign.OpenParen (apply (stmt.Migrate pos) (before (before postfix_form sign.CloseParen) sign.Semicolon))

abbrev pub stmt_by : Pos → StmtStart → Form Stmt
stmt_by pos start.Block = skip (apply (stmt.Block pos) block_rest)
stmt_by pos start.Empty = skip (empty (stmt.Empty pos))
stmt_by pos start.If = skip (if_rest pos)
stmt_by pos start.While = skip (while_rest pos)
stmt_by pos start.Do = skip (do_rest pos)
stmt_by pos start.For = skip (for_rest pos)
stmt_by pos start.Break = skip (expect_sign sign.Semicolon (empty (stmt.Break pos)))
stmt_by pos start.Continue = skip (expect_sign sign.Semicolon (empty (stmt.Continue pos)))
stmt_by pos start.Return = skip (apply (stmt.Return pos) (maybe_expr sign.Semicolon))
stmt_by pos start.Try = skip (try_rest pos)
stmt_by pos start.Throw = skip (throw_rest pos)
stmt_by pos start.Raise = skip (raise_rest pos)
stmt_by pos start.Enable = skip (enable_rest pos)
stmt_by pos start.Disable = skip (disable_rest pos)
stmt_by pos start.Accept = accept_form pos
stmt_by pos start.Print = skip (apply (stmt.Print pos) outs_form)
stmt_by pos start.PrintTogether = skip (together_rest pos)
stmt_by pos start.Cin = skip (cin_rest pos)
stmt_by pos start.Resume = skip (no_arguments (stmt.Resume pos))
stmt_by pos start.Suspend = skip (no_arguments (stmt.Suspend pos))
stmt_by pos start.Yield = skip (no_arguments (stmt.Yield pos))
stmt_by pos start.Migrate = skip (migrate_rest pos)
stmt_by pos start.Simple = simple_stmt_form

abbrev pub stmt_form : Form Stmt
stmt_form = here (λ pos. look (λ o. stmt_by pos (stmt_start o)))

-- Classes.

-- kind = 'class' | '_Coroutine' | '_Monitor' | '_Cormonitor' | '_Task' | '_Event' | '_Mutex' 'class' | '_Mutex' '_Coroutine'
abbrev pub mutex_kind_at : Option Word → Form Kind
mutex_kind_at (Some word.Class) = skip (empty kind.Monitor)
mutex_kind_at (Some word.Coroutine) = skip (empty kind.Cormonitor)
mutex_kind_at _ = nothing

abbrev pub kind_by : Option Word → Form Kind
kind_by (Some word.Class) = skip (empty kind.Class)
kind_by (Some word.Coroutine) = skip (empty kind.Coroutine)
kind_by (Some word.Monitor) = skip (empty kind.Monitor)
kind_by (Some word.Cormonitor) = skip (empty kind.Cormonitor)
kind_by (Some word.Task) = skip (empty kind.Task)
kind_by (Some word.Event) = skip (empty kind.Event)
kind_by (Some word.Mutex) = skip (look (λ o. mutex_kind_at (word_of o)))
kind_by _ = nothing

abbrev pub kind_form : Form Kind
kind_form = look (λ o. kind_by (word_of o))

-- mark?
abbrev pub mark_at : Option Word → Form MutexMark
mark_at (Some word.Mutex) = skip (empty mark.Mutex)
mark_at (Some word.Nomutex) = skip (empty mark.Nomutex)
mark_at _ = empty mark.Unmarked

abbrev pub mark_form : Form MutexMark
mark_form = look (λ o. mark_at (word_of o))

-- param = base '&'? name
abbrev pub param_of : Pos → Base → Bool → List ℕ → Param
param_of pos b r n = record { pos = pos; base = b; by_ref = r; name = n }

abbrev pub param_form : Form Param
param_form = here (λ pos. bind base_form (λ b. bind (maybe_sign sign.And) (λ r. apply (param_of pos b r) name_form)))

-- '(' param,* ')'
abbrev pub params_rest : Form (List Param)
params_rest = sign_or sign.CloseParen (empty []) (before (comma_list param_form) sign.CloseParen)

abbrev pub params_form : Form (List Param)
params_form = expect_sign sign.OpenParen params_rest

abbrev pub sig_of : Pos → Owner → Role → Base → List ℕ → List Param → Sig
sig_of pos o r b n ps = record { pos = pos; owner = o; role = r; ret = b; name = n; params = ps }

-- inits = ':' (name '(' expr,* ')'),+
abbrev pub init_of : Pos → List ℕ → List Expr → Init
init_of pos n es = record { pos = pos; name = n; args = exprs_of es }

abbrev pub init_form : Form Init
init_form = here (λ pos. bind name_form (λ n. expect_sign sign.OpenParen (apply (init_of pos n) (closed_arguments sign.CloseParen))))

-- inits?
abbrev pub inits_form : Form (List Init)
inits_form = sign_or sign.Colon (comma_list init_form) (empty [])

abbrev pub routine_of : Sig → List Init → Pos × Stmts → Routine
routine_of s is b = record { sig = s; inits = is; brace = b.0; body = b.1 }

-- block, of a routine
abbrev pub plain_form : Sig → Form Routine
plain_form s = apply (routine_of s []) block_form

-- inits? block, of a constructor or a destructor
abbrev pub maker_form : Sig → Form Routine
maker_form s = bind inits_form (λ is. apply (routine_of s is) block_form)

-- '&'? name length?
abbrev pub field_of : Pos → Bool → List ℕ → Option Expr → Declarator
field_of pos r n l = record { pos = pos; by_ref = r; name = n; len = l; start = stmt.NoStart }

abbrev pub field_rest : Pos → Bool → List ℕ → Form Declarator
field_rest pos r n = apply (field_of pos r n) length_form

abbrev pub field_form : Form Declarator
field_form = here (λ pos. bind (maybe_sign sign.And) (λ r. bind name_form (field_rest pos r)))

-- what follows the first name of base fields ';'
abbrev pub fields_rest : Pos → Base → Pos → Bool → List ℕ → Form MemberForm
fields_rest at b pos r n = apply (prog.FieldsMember at b) (before (listed (field_rest pos r n) (λ o. is_comma (sign_of o)) (skip field_form)) sign.Semicolon)

-- ';' | block, of a routine
abbrev pub member_end : Sig → Form MemberForm
member_end s = sign_or sign.Semicolon (empty (prog.ProtoMember s)) (apply prog.RoutineMember (plain_form s))

-- ';' | inits? block, of a constructor or a destructor
abbrev pub maker_end : Sig → Form MemberForm
maker_end s = sign_or sign.Semicolon (empty (prog.ProtoMember s)) (apply prog.RoutineMember (maker_form s))

-- what follows the '(' of base name '(' param,* ')' (';' | block)
abbrev pub member_routine : Pos → Base → List ℕ → Form MemberForm
member_routine at b n = bind params_rest (λ ps. member_end (sig_of at owner.Here role.Plain b n ps))

-- what follows the '(' of '~'? name '(' param,* ')' (';' | inits? block)
abbrev pub member_maker : Pos → Role → List ℕ → Form MemberForm
member_maker pos r n = bind params_rest (λ ps. maker_end (sig_of pos owner.Here r base.Void n ps))

-- what follows the base of a member
abbrev pub based_at : Pos → Base → Pos → Option TokenKind → Form MemberForm
based_at at b pos (Some (token.Sign sign.And)) = skip (bind name_form (fields_rest at b pos true))
based_at at b pos (Some (token.Name n)) = skip (sign_or sign.OpenParen (member_routine at b n) (fields_rest at b pos false n))
based_at at b pos _ = nothing

abbrev pub based_member : Pos → Base → Form MemberForm
based_member at b = here (λ pos. look (based_at at b pos))

-- member = base fields ';' | base name '(' param,* ')' (';' | block) | '~'? name '(' param,* ')' (';' | inits? block)
abbrev pub word_member : Pos → Option Base → Form MemberForm
word_member pos None = nothing
word_member pos (Some b) = skip (based_member pos b)

abbrev pub member_at : Pos → Option TokenKind → Form MemberForm
member_at pos (Some (token.Sign sign.Tilde)) = skip (bind name_form (λ n. expect_sign sign.OpenParen (member_maker pos role.Destructor n)))
member_at pos (Some (token.Name n)) = skip (sign_or sign.OpenParen (member_maker pos role.Constructor n) (based_member pos (base.Named n)))
member_at pos o = word_member pos (base_of (word_of o))

abbrev pub member_form : Form MemberForm
member_form = here (λ pos. look (member_at pos))

-- part = ('public' | 'private' | 'protected') ':' | mark? member
abbrev pub part_by : Pos → Option Access → Form ClassPart
part_by pos (Some a) = skip (expect_sign sign.Colon (empty (AccessPart a)))
part_by pos None = bind mark_form (λ m. apply (MemberPart pos m) member_form)

abbrev pub class_part_form : Form ClassPart
class_part_form = here (λ pos. look (λ o. part_by pos (access_of (word_of o))))

-- the members of a class, each with the access that was written last before it
abbrev pub members_of : Access → List ClassPart → List Member
members_of a [] = []
members_of a (AccessPart b ∷ ps) = members_of b ps
members_of a (MemberPart pos m w ∷ ps) = record { pos = pos; access = a; mark = m; form = w } ∷ members_of a ps

-- class = kind name '{' part* '}' ';', whose members are private until an access is written; and kind name ';'
abbrev pub class_of : Pos → Kind → List ℕ → List ClassPart → Item
class_of pos k n ps = prog.ClassItem (record { pos = pos; kind = k; name = n; members = members_of access.Private ps })

abbrev pub class_rest : Pos → Kind → List ℕ → Form Item
class_rest pos k n = apply (class_of pos k n) (before (before (many in_braces (inside part_name)) sign.CloseBrace) sign.Semicolon)

abbrev pub forward_of : Pos → Kind → List ℕ → Item
forward_of pos k n = prog.ForwardItem (record { pos = pos; kind = k; name = n })

abbrev pub class_form : Pos → Form Item
class_form pos = bind kind_form (λ k. bind name_form (λ n. sign_or sign.Semicolon (empty (forward_of pos k n)) (expect_sign sign.OpenBrace (class_rest pos k n))))

-- Programs.

-- 'using' 'namespace' 'std' ';'
abbrev pub using_rest : Pos → Form Item
using_rest pos = expect_word word.Namespace (expect_word word.Std (expect_sign sign.Semicolon (empty (prog.UsingItem pos))))

-- 'const' scalar name '=' expr ';'
abbrev pub constant_of : Pos → Base → List ℕ → Expr → Item
constant_of pos b n e = prog.ConstItem (record { pos = pos; base = b; name = n; value = e })

abbrev pub constant_rest : Pos → Form Item
constant_rest pos = bind scalar_form (λ b. bind name_form (λ n. expect_sign sign.Assign (apply (constant_of pos b n) (before expr_form sign.Semicolon))))

-- ';' | block
abbrev pub item_end : Sig → Form Item
item_end s = sign_or sign.Semicolon (empty (prog.ProtoItem s)) (apply prog.RoutineItem (plain_form s))

-- what follows the name of base name '(' param,* ')' (';' | block)
abbrev pub free_routine : Pos → Base → List ℕ → Form Item
free_routine pos b n = bind params_form (λ ps. item_end (sig_of pos owner.Here role.Plain b n ps))

-- what follows the '::' of base owner '::' member-name '(' param,* ')' block
abbrev pub outer_routine : Pos → Base → Owner → Form Item
outer_routine pos b o = bind name_form (λ m. bind params_form (λ ps. apply prog.RoutineItem (plain_form (sig_of pos o role.Plain b m ps))))

-- what follows the base of a routine, the owner being a name or 'uMain'
abbrev pub based_item_at : Pos → Base → Option TokenKind → Form Item
based_item_at pos b (Some (token.Word word.UMain)) = skip (expect_sign sign.Scope (outer_routine pos b owner.Main))
based_item_at pos b (Some (token.Name n)) = skip (sign_or sign.Scope (outer_routine pos b (owner.Class n)) (free_routine pos b n))
based_item_at pos b _ = nothing

abbrev pub based_item : Pos → Base → Form Item
based_item pos b = look (based_item_at pos b)

-- what follows the '::' of name '::' '~'? name '(' param,* ')' inits? block
abbrev pub role_of : Bool → Role
role_of true = role.Destructor
role_of false = role.Constructor

abbrev pub outer_maker : Pos → List ℕ → Form Item
outer_maker pos c = bind (maybe_sign sign.Tilde) (λ d. bind name_form (λ m. bind params_form (λ ps. apply prog.RoutineItem (maker_form (sig_of pos (owner.Class c) (role_of d) base.Void m ps)))))

-- item = 'using' 'namespace' 'std' ';' | class | 'const' scalar name '=' expr ';' | kind name ';'
--      | base name '(' param,* ')' (';' | block) | base owner '::' member-name '(' param,* ')' block
--      | name '::' '~'? name '(' param,* ')' inits? block
abbrev pub word_item : Pos → Option Base → Form Item
word_item pos None = class_form pos
word_item pos (Some b) = skip (based_item pos b)

abbrev pub item_at : Pos → Option TokenKind → Form Item
item_at pos (Some (token.Word word.Using)) = skip (using_rest pos)
item_at pos (Some (token.Word word.Const)) = skip (constant_rest pos)
item_at pos (Some (token.Name n)) = skip (sign_or sign.Scope (outer_maker pos n) (based_item pos (base.Named n)))
item_at pos o = word_item pos (base_of (word_of o))

abbrev pub item_form : Form Item
item_form = here (λ pos. look (item_at pos))

-- program = item item*
abbrev pub program_of : List Item → Program
program_of is = record { items = is }

abbrev pub program_form : Form Program
program_form = apply program_of (listed item_form any_token item_form)

-- What stands one level deeper.
abbrev pub form_of : {A : Type 0} → Name A → Form A
form_of expr_name = expr_form
form_of unary_name = unary_form
form_of right_name = right_form
form_of stmt_name = stmt_form
form_of block_stmt_name = inside stmt_name
form_of part_name = class_part_form

-- what may stand inside n levels
unfoldable pub inner : ℕ → Inner
inner zero A x = Nothing
inner (suc n) A x = Spells (inner n) (form_of x)

-- how a reading fails there
unfoldable pub faults : ℕ → Faults
faults zero A x ts from f = f ≡ TooDeep from
faults (suc n) A x ts from f = Fails (inner n) (faults n) (form_of x) ts from f
