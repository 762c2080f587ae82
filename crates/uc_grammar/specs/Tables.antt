-- What single tokens say: the operators of each level, the words that name a base, a kind or an access, and which tokens
-- begin a piece that may come once more.
use Rattle.std.specs.Prelude.{Bool, true, false, Option, Some, None, is_some}
use Rattle.uc_tree.specs.declared.token.TokenKind.{TokenKind}
use Rattle.uc_tree.specs.declared.token.TokenKind.TheVariants as token
use Rattle.uc_tree.specs.declared.token.Word.{Word}
use Rattle.uc_tree.specs.declared.token.Word.TheVariants as word
use Rattle.uc_tree.specs.declared.token.Sign.{Sign}
use Rattle.uc_tree.specs.declared.token.Sign.TheVariants as sign
use Rattle.uc_tree.specs.declared.ops.UnaryOp.{UnaryOp}
use Rattle.uc_tree.specs.declared.ops.UnaryOp.TheVariants as unary
use Rattle.uc_tree.specs.declared.ops.BinaryOp.{BinaryOp}
use Rattle.uc_tree.specs.declared.ops.BinaryOp.TheVariants as binary
use Rattle.uc_tree.specs.declared.ops.AssignOp.{AssignOp}
use Rattle.uc_tree.specs.declared.ops.AssignOp.TheVariants as assign
use Rattle.uc_tree.specs.declared.kinds.Base.{Base}
use Rattle.uc_tree.specs.declared.kinds.Base.TheVariants as base
use Rattle.uc_tree.specs.declared.kinds.Access.{Access}
use Rattle.uc_tree.specs.declared.kinds.Access.TheVariants as access
use Rattle.uc_tree.specs.declared.kinds.HandlerKind.{HandlerKind}
use Rattle.uc_tree.specs.declared.kinds.HandlerKind.TheVariants as handler
use Rattle.uc_grammar.specs.declared.level.Level.{Level}
use Rattle.uc_grammar.specs.declared.level.Level.TheVariants as level
use Rattle.uc_grammar.specs.declared.start.StmtStart.{StmtStart}
use Rattle.uc_grammar.specs.declared.start.StmtStart.TheVariants as start

abbrev pub word_of : Option TokenKind → Option Word
word_of (Some (token.Word w)) = Some w
word_of _ = None

abbrev pub sign_of : Option TokenKind → Option Sign
sign_of (Some (token.Sign s)) = Some s
sign_of _ = None

-- Operators.

-- '-' | '+' | '!' | '++' | '--'
abbrev pub unary_of : Option Sign → Option UnaryOp
unary_of (Some sign.Minus) = Some unary.Minus
unary_of (Some sign.Plus) = Some unary.Plus
unary_of (Some sign.Not) = Some unary.Not
unary_of (Some sign.Increment) = Some unary.Increment
unary_of (Some sign.Decrement) = Some unary.Decrement
unary_of _ = None

-- '*' | '/' | '%'
abbrev pub product_of : Option Sign → Option BinaryOp
product_of (Some sign.Star) = Some binary.Mul
product_of (Some sign.Slash) = Some binary.Div
product_of (Some sign.Percent) = Some binary.Rem
product_of _ = None

-- '+' | '-'
abbrev pub sum_of : Option Sign → Option BinaryOp
sum_of (Some sign.Plus) = Some binary.Add
sum_of (Some sign.Minus) = Some binary.Sub
sum_of _ = None

-- '<' | '<=' | '>' | '>='
abbrev pub comparison_of : Option Sign → Option BinaryOp
comparison_of (Some sign.Less) = Some binary.Less
comparison_of (Some sign.LessEqual) = Some binary.LessEqual
comparison_of (Some sign.Greater) = Some binary.Greater
comparison_of (Some sign.GreaterEqual) = Some binary.GreaterEqual
comparison_of _ = None

-- '==' | '!='
abbrev pub equality_of : Option Sign → Option BinaryOp
equality_of (Some sign.Equal) = Some binary.Equal
equality_of (Some sign.NotEqual) = Some binary.NotEqual
equality_of _ = None

-- '&&'
abbrev pub and_of : Option Sign → Option BinaryOp
and_of (Some sign.AndAnd) = Some binary.And
and_of _ = None

-- '||'
abbrev pub or_of : Option Sign → Option BinaryOp
or_of (Some sign.OrOr) = Some binary.Or
or_of _ = None

-- the operator of a level that a sign is
abbrev pub binary_of : Level → Option Sign → Option BinaryOp
binary_of level.Product = product_of
binary_of level.Sum = sum_of
binary_of level.Comparison = comparison_of
binary_of level.Equality = equality_of
binary_of level.And = and_of
binary_of level.Or = or_of

-- '=' | '+=' | '-=' | '*=' | '/=' | '%='
abbrev pub assign_of : Option Sign → Option AssignOp
assign_of (Some sign.Assign) = Some assign.Set
assign_of (Some sign.AddAssign) = Some assign.Add
assign_of (Some sign.SubAssign) = Some assign.Sub
assign_of (Some sign.MulAssign) = Some assign.Mul
assign_of (Some sign.DivAssign) = Some assign.Div
assign_of (Some sign.RemAssign) = Some assign.Rem
assign_of _ = None

-- Words.

-- 'void' | scalar | 'uCondition' | 'uCluster' | 'uProcessor'
abbrev pub base_of : Option Word → Option Base
base_of (Some word.Void) = Some base.Void
base_of (Some word.Int) = Some base.Int
base_of (Some word.Char) = Some base.Char
base_of (Some word.Bool) = Some base.Bool
base_of (Some word.Condition) = Some base.Condition
base_of (Some word.Cluster) = Some base.Cluster
base_of (Some word.Processor) = Some base.Processor
base_of _ = None

-- 'int' | 'char' | 'bool'
abbrev pub scalar_of : Option Word → Option Base
scalar_of (Some word.Int) = Some base.Int
scalar_of (Some word.Char) = Some base.Char
scalar_of (Some word.Bool) = Some base.Bool
scalar_of _ = None

-- 'public' | 'private' | 'protected'
abbrev pub access_of : Option Word → Option Access
access_of (Some word.Public) = Some access.Public
access_of (Some word.Private) = Some access.Private
access_of (Some word.Protected) = Some access.Protected
access_of _ = None

-- 'catch' | '_CatchResume'
abbrev pub handler_of : Option Word → Option HandlerKind
handler_of (Some word.Catch) = Some handler.Catch
handler_of (Some word.CatchResume) = Some handler.CatchResume
handler_of _ = None

-- What a statement is, by its first token.

abbrev pub start_by_word : Word → StmtStart
start_by_word word.If = start.If
start_by_word word.While = start.While
start_by_word word.Do = start.Do
start_by_word word.For = start.For
start_by_word word.Break = start.Break
start_by_word word.Continue = start.Continue
start_by_word word.Return = start.Return
start_by_word word.Try = start.Try
start_by_word word.ThrowEvent = start.Throw
start_by_word word.ResumeEvent = start.Raise
start_by_word word.Enable = start.Enable
start_by_word word.Disable = start.Disable
start_by_word word.When = start.Accept
start_by_word word.Accept = start.Accept
start_by_word word.Cout = start.Print
start_by_word word.Osacquire = start.PrintTogether
start_by_word word.Cin = start.Cin
start_by_word word.Resume = start.Resume
start_by_word word.Suspend = start.Suspend
start_by_word word.Yield = start.Yield
start_by_word word.Migrate = start.Migrate
start_by_word _ = start.Simple

abbrev pub start_by_sign : Sign → StmtStart
start_by_sign sign.OpenBrace = start.Block
start_by_sign sign.Semicolon = start.Empty
start_by_sign _ = start.Simple

abbrev pub stmt_start : Option TokenKind → StmtStart
stmt_start (Some (token.Word w)) = start_by_word w
stmt_start (Some (token.Sign s)) = start_by_sign s
stmt_start _ = start.Simple

-- Which tokens begin a piece that may come once more.

-- ','
abbrev pub is_comma : Option Sign → Bool
is_comma (Some sign.Comma) = true
is_comma _ = false

-- '<<'
abbrev pub is_out : Option Sign → Bool
is_out (Some sign.ShiftLeft) = true
is_out _ = false

-- '>>'
abbrev pub is_in : Option Sign → Bool
is_in (Some sign.ShiftRight) = true
is_in _ = false

-- '<'
abbrev pub is_less : Option Sign → Bool
is_less (Some sign.Less) = true
is_less _ = false

-- '.' | '[' | '(' | '++' | '--'
abbrev pub is_part : Option Sign → Bool
is_part (Some sign.Dot) = true
is_part (Some sign.OpenBracket) = true
is_part (Some sign.OpenParen) = true
is_part (Some sign.Increment) = true
is_part (Some sign.Decrement) = true
is_part _ = false

-- 'or'
abbrev pub is_or : Option Word → Bool
is_or (Some word.Or) = true
is_or _ = false

abbrev pub is_binary : Level → Option Sign → Bool
is_binary l s = is_some (binary_of l s)

abbrev pub is_handler : Option Word → Bool
is_handler w = is_some (handler_of w)

-- whatever is not the '}' behind a list of pieces
abbrev pub in_braces : Option TokenKind → Bool
in_braces None = false
in_braces (Some (token.Sign sign.CloseBrace)) = false
in_braces _ = true

-- whatever is a token
abbrev pub any_token : Option TokenKind → Bool
any_token = is_some
