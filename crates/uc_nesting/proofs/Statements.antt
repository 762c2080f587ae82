-- The forms of declarations and statements within n levels.
use Rattle.std.proofs.Common.{ℕ, ◌+◌, ◌≤◌, List, [], ◌∷◌, Option, Some, None}
use Rattle.std.proofs.Math.Nat.{max-le}
use Rattle.uc_tree.specs.declared.pos.Pos.{Pos}
use Rattle.uc_tree.specs.declared.kinds.Base.{Base}
use Rattle.uc_tree.specs.declared.kinds.HandlerKind.{HandlerKind}
use Rattle.uc_tree.specs.declared.token.TokenKind.{TokenKind}
use Rattle.uc_tree.specs.declared.token.TokenKind.TheVariants as token
use Rattle.uc_tree.specs.declared.token.Word.{Word}
use Rattle.uc_tree.specs.declared.token.Word.TheVariants as word
use Rattle.uc_tree.specs.declared.token.Sign.{Sign}
use Rattle.uc_tree.specs.declared.token.Sign.TheVariants as sign
use Rattle.uc_tree.specs.Expressions.{Expr, exprs_of}
use Rattle.uc_tree.specs.Expressions as expr
use Rattle.uc_tree.specs.Statements.{Stmt, Handler, Clause, Declarator, Raised, OutItem, ForStart, stmts_of, handlers_of, clauses_of}
use Rattle.uc_tree.specs.Statements as stmt
use Rattle.uc_grammar.specs.declared.start.StmtStart.{StmtStart}
use Rattle.uc_grammar.specs.declared.start.StmtStart.TheVariants as start
use Rattle.uc_grammar.specs.Names.{Simple, Declares, Evaluates}
use Rattle.uc_grammar.specs.Tables.{word_of, sign_of, base_of, handler_of, stmt_start}
use Rattle.uc_grammar.specs.Grammar.{name_form, length_form, start_at, declarator_form, declarators_form, named_at, based_or_expr, simple_at, simple_form, block_rest, block_form, condition_form, maybe_stmt, simple_stmt, if_rest, while_rest, do_rest, for_start, for_start_form, for_rest, caught_form, handler_by, handler_form, try_rest, raised_form, throw_rest, at_form, raise_rest, events_form, enable_rest, disable_rest, guard_form, members_form, clause_form, accept_form, out_at, out_form, outs_form, cin_rest, no_arguments, migrate_rest, stmt_by, stmt_form}
use Rattle.uc_nesting.specs.ExpressionNesting.{postfix, expr_nesting}
use Rattle.uc_nesting.specs.StatementNesting.{maybe_expr_nesting, length_nesting, start_nesting, declarator_nesting, declarators_nesting, raised_nesting, out_item_nesting, out_items_nesting, for_start_nesting, places_nesting, stmt_nesting, block_nesting, maybe_stmt_nesting, handler_nesting, handlers_nesting, clause_nesting, clauses_nesting}
use Rattle.uc_nesting.proofs.Sure.{Sure, Each, sure_nothing, sure_empty, sure_skip, sure_expect, sure_or, sure_look, sure_here, sure_bind, sure_apply, sure_many, sure_listed, sure_so, any_piece}
use Rattle.uc_nesting.proofs.Enclosed.{none}
use Rattle.uc_nesting.proofs.Levels.{Levels}
use Rattle.uc_nesting.proofs.Expressions.{At, sure_before, sure_list, args_le, arguments_sure, closed_sure, postfix_sure, sum_sure, expr_sure, from_sure, maybe_sure}

-- Lists.

pub declarators_le : (n : ℕ) (ds : List Declarator) → Each (λ d. declarator_nesting d ≤ n) ds → declarators_nesting ds ≤ n
declarators_le n [] h = none n
declarators_le n (d ∷ ds) h = max-le h.0 (declarators_le n ds h.1)

block_le : (n : ℕ) (ss : List Stmt) → Each (λ s. stmt_nesting s + 2 ≤ n) ss → block_nesting (stmts_of ss) ≤ n
block_le n [] h = none n
block_le n (s ∷ ss) h = max-le h.0 (block_le n ss h.1)

handlers_le : (n : ℕ) (hs : List Handler) → Each (λ x. handler_nesting x ≤ n) hs → handlers_nesting (handlers_of hs) ≤ n
handlers_le n [] h = none n
handlers_le n (x ∷ xs) h = max-le h.0 (handlers_le n xs h.1)

clauses_le : (n : ℕ) (cs : List Clause) → Each (λ c. clause_nesting c ≤ n) cs → clauses_nesting (clauses_of cs) ≤ n
clauses_le n [] h = none n
clauses_le n (c ∷ cs) h = max-le h.0 (clauses_le n cs h.1)

items_le : (n : ℕ) (os : List OutItem) → Each (λ o. out_item_nesting o ≤ n) os → out_items_nesting os ≤ n
items_le n [] h = none n
items_le n (o ∷ os) h = max-le h.0 (items_le n os h.1)

places_le : (n : ℕ) (es : List Expr) → Each (At postfix n) es → places_nesting (exprs_of es) ≤ n
places_le n [] h = none n
places_le n (e ∷ es) h = max-le h.0 (places_le n es h.1)

-- a declaration or an expression
abbrev simple_nesting : Simple → ℕ
simple_nesting (Declares pos base declarators) = declarators_nesting declarators
simple_nesting (Evaluates pos value) = expr_nesting value

simple_is : (n : ℕ) (s : Simple) → simple_nesting s ≤ n → stmt_nesting (simple_stmt s) ≤ n
simple_is n (Declares pos base declarators) h = h
simple_is n (Evaluates pos value) h = h

begins_for : (n : ℕ) (s : Simple) → simple_nesting s ≤ n → for_start_nesting (for_start s) ≤ n
begins_for n (Declares pos base declarators) h = h
begins_for n (Evaluates pos value) h = h

module _ (n : ℕ) (h : Levels n) where
  pub length_sure : Sure n length_form (λ l. length_nesting l ≤ n)
  length_sure = sure_or (sure_apply (sure_before h.in_expr) (λ e w. w)) (sure_empty (none n))

  start_at_sure : (s : Option Sign) → Sure n (start_at s) (λ x. start_nesting x ≤ n)
  start_at_sure (Some sign.Assign) = sure_skip (sure_apply (expr_sure n h) (λ e w. w))
  start_at_sure (Some sign.OpenParen) = sure_skip (sure_apply (sure_before (arguments_sure n h)) (λ es w. args_le n es w))
  start_at_sure (Some sign.OpenBrace) = sure_skip (sure_apply (closed_sure n h sign.CloseBrace) (λ es w. args_le n es w))
  start_at_sure _ = sure_empty (none n)

  declarator_sure : Sure n declarator_form (λ d. declarator_nesting d ≤ n)
  declarator_sure = sure_here (λ pos. sure_bind (any_piece n name_form) (λ m t. sure_bind length_sure (λ l w. sure_apply (sure_look (λ o. start_at_sure (sign_of o))) (λ s v. max-le w v))))

  declarators_sure : Sure n declarators_form (λ ds. declarators_nesting ds ≤ n)
  declarators_sure = sure_so (sure_list declarator_sure) (λ ds w. declarators_le n ds w)

  named_at_sure : (pos : Pos) (m : List ℕ) (o : Option TokenKind) → Sure n (named_at pos m o) (λ s. simple_nesting s ≤ n)
  named_at_sure pos m (Some (token.Name x)) = sure_apply declarators_sure (λ ds w. w)
  named_at_sure pos m _ = sure_apply (from_sure n h pos (expr.Name pos m) (none n)) (λ e w. w)

  based_sure : (pos : Pos) (b : Option Base) → Sure n (based_or_expr pos b) (λ s. simple_nesting s ≤ n)
  based_sure pos None = sure_apply (expr_sure n h) (λ e w. w)
  based_sure pos (Some b) = sure_skip (sure_apply declarators_sure (λ ds w. w))

  simple_at_sure : (pos : Pos) (o : Option TokenKind) → Sure n (simple_at pos o) (λ s. simple_nesting s ≤ n)
  simple_at_sure pos (Some (token.Name m)) = sure_skip (sure_look (λ o. named_at_sure pos m o))
  simple_at_sure pos o = based_sure pos (base_of (word_of o))

  simple_sure : Sure n simple_form (λ s. simple_nesting s ≤ n)
  simple_sure = sure_here (λ pos. sure_look (λ o. simple_at_sure pos o))

  block_rest_sure : Sure n block_rest (λ ss. block_nesting ss ≤ n)
  block_rest_sure = sure_apply (sure_before (sure_many h.in_block)) (λ ss w. block_le n ss w)

  pub block_sure : Sure n block_form (λ b. block_nesting b.1 ≤ n)
  block_sure = sure_here (λ brace. sure_expect (sure_apply block_rest_sure (λ ss w. w)))

  condition_sure : Sure n condition_form (λ e. expr_nesting e ≤ n)
  condition_sure = sure_expect (sure_before (expr_sure n h))

  maybe_stmt_sure : (w : Word) → Sure n (maybe_stmt w) (λ s. maybe_stmt_nesting s ≤ n)
  maybe_stmt_sure w = sure_or (sure_apply h.in_stmt (λ s v. v)) (sure_empty (none n))

  if_sure : (pos : Pos) → Sure n (if_rest pos) (λ s. stmt_nesting s ≤ n)
  if_sure pos = sure_bind condition_sure (λ e w. sure_bind h.in_stmt (λ s v. sure_apply (maybe_stmt_sure word.Else) (λ o u. max-le w (max-le v u))))

  while_sure : (pos : Pos) → Sure n (while_rest pos) (λ s. stmt_nesting s ≤ n)
  while_sure pos = sure_bind condition_sure (λ e w. sure_apply h.in_stmt (λ s v. max-le w v))

  do_sure : (pos : Pos) → Sure n (do_rest pos) (λ s. stmt_nesting s ≤ n)
  do_sure pos = sure_bind h.in_stmt (λ s v. sure_expect (sure_apply (sure_before condition_sure) (λ e w. max-le v w)))

  for_start_sure : Sure n for_start_form (λ s. for_start_nesting s ≤ n)
  for_start_sure = sure_or (sure_empty (none n)) (sure_apply (sure_before simple_sure) (λ s w. begins_for n s w))

  for_sure : (pos : Pos) → Sure n (for_rest pos) (λ s. stmt_nesting s ≤ n)
  for_sure pos = sure_expect (sure_bind for_start_sure (λ st a. sure_bind (maybe_sure n h sign.Semicolon) (λ test b. sure_bind (maybe_sure n h sign.CloseParen) (λ next c. sure_apply h.in_stmt (λ s d. max-le a (max-le b (max-le c d)))))))

  handler_by_sure : (pos : Pos) (k : Option HandlerKind) → Sure n (handler_by pos k) (λ x. handler_nesting x ≤ n)
  handler_by_sure pos None = sure_nothing
  handler_by_sure pos (Some k) = sure_skip (sure_expect (sure_bind (any_piece n caught_form) (λ c t. sure_apply block_sure (λ b w. w))))

  handler_sure : Sure n handler_form (λ x. handler_nesting x ≤ n)
  handler_sure = sure_here (λ pos. sure_look (λ o. handler_by_sure pos (handler_of (word_of o))))

  try_sure : (pos : Pos) → Sure n (try_rest pos) (λ s. stmt_nesting s ≤ n)
  try_sure pos = sure_bind block_sure (λ b w. sure_apply (sure_listed handler_sure handler_sure) (λ hs v. max-le w (handlers_le n hs v)))

  raised_sure : Sure n raised_form (λ r. raised_nesting r ≤ n)
  raised_sure = sure_here (λ pos. sure_bind (any_piece n name_form) (λ m t. sure_expect (sure_apply (closed_sure n h sign.CloseParen) (λ es w. args_le n es w))))

  throw_sure : (pos : Pos) → Sure n (throw_rest pos) (λ s. stmt_nesting s ≤ n)
  throw_sure pos = sure_apply (sure_or (sure_empty (none n)) (sure_apply (sure_before raised_sure) (λ r w. w))) (λ r w. w)

  at_sure : (pos : Pos) (r : Raised) → raised_nesting r ≤ n → Sure n (at_form pos r) (λ s. stmt_nesting s ≤ n)
  at_sure pos r w = sure_or (sure_apply (postfix_sure n h) (λ e v. max-le w v)) (sure_empty w)

  raise_sure : (pos : Pos) → Sure n (raise_rest pos) (λ s. stmt_nesting s ≤ n)
  raise_sure pos = sure_or (sure_empty (none n)) (sure_bind raised_sure (λ r w. sure_before (at_sure pos r w)))

  enable_sure : (pos : Pos) → Sure n (enable_rest pos) (λ s. stmt_nesting s ≤ n)
  enable_sure pos = sure_bind (any_piece n events_form) (λ es t. sure_apply h.in_stmt (λ s w. w))

  disable_sure : (pos : Pos) → Sure n (disable_rest pos) (λ s. stmt_nesting s ≤ n)
  disable_sure pos = sure_bind (any_piece n events_form) (λ es t. sure_apply h.in_stmt (λ s w. w))

  guard_sure : Sure n guard_form (λ g. maybe_expr_nesting g ≤ n)
  guard_sure = sure_or (sure_apply condition_sure (λ e w. w)) (sure_empty (none n))

  clause_sure : Sure n clause_form (λ c. clause_nesting c ≤ n)
  clause_sure = sure_here (λ pos. sure_bind guard_sure (λ g w. sure_bind (any_piece n members_form) (λ ms t. sure_apply h.in_stmt (λ s v. max-le w v))))

  accept_sure : (pos : Pos) → Sure n (accept_form pos) (λ s. stmt_nesting s ≤ n)
  accept_sure pos = sure_bind (sure_listed clause_sure (sure_skip clause_sure)) (λ cs w. sure_apply (maybe_stmt_sure word.AcceptElse) (λ o v. max-le (clauses_le n cs w) v))

  out_at_sure : (own : Pos) (o : Option TokenKind) → Sure n (out_at own o) (λ x. out_item_nesting x ≤ n)
  out_at_sure own (Some (token.Word word.Endl)) = sure_skip (sure_empty (none n))
  out_at_sure own (Some (token.Text t)) = sure_skip (sure_empty (none n))
  out_at_sure own _ = sure_apply (sum_sure n h) (λ e w. w)

  out_sure : Sure n out_form (λ x. out_item_nesting x ≤ n)
  out_sure = sure_here (λ own. sure_expect (sure_look (λ o. out_at_sure own o)))

  outs_sure : Sure n outs_form (λ os. out_items_nesting os ≤ n)
  outs_sure = sure_before (sure_so (sure_listed out_sure out_sure) (λ os w. items_le n os w))

  cin_sure : (pos : Pos) → Sure n (cin_rest pos) (λ s. stmt_nesting s ≤ n)
  cin_sure pos = sure_or
      (sure_apply (sure_before (sure_listed (postfix_sure n h) (sure_skip (postfix_sure n h)))) (λ es w. places_le n es w))
      (sure_apply (sure_before (from_sure n h pos (expr.Cin pos) (none n))) (λ e w. w))

  plain_sure : (s : Stmt) → stmt_nesting s ≤ n → Sure n (no_arguments s) (λ x. stmt_nesting x ≤ n)
  plain_sure s w = sure_expect (sure_expect (sure_expect (sure_empty w)))

  migrate_sure : (pos : Pos) → Sure n (migrate_rest pos) (λ s. stmt_nesting s ≤ n)
  migrate_sure pos = sure_expect (sure_apply (sure_before (sure_before (postfix_sure n h))) (λ e w. w))

  stmt_by_sure : (pos : Pos) (s : StmtStart) → Sure n (stmt_by pos s) (λ x. stmt_nesting x ≤ n)
  stmt_by_sure pos start.Block = sure_skip (sure_apply block_rest_sure (λ ss w. w))
  stmt_by_sure pos start.Empty = sure_skip (sure_empty (none n))
  stmt_by_sure pos start.If = sure_skip (if_sure pos)
  stmt_by_sure pos start.While = sure_skip (while_sure pos)
  stmt_by_sure pos start.Do = sure_skip (do_sure pos)
  stmt_by_sure pos start.For = sure_skip (for_sure pos)
  stmt_by_sure pos start.Break = sure_skip (sure_expect (sure_empty (none n)))
  stmt_by_sure pos start.Continue = sure_skip (sure_expect (sure_empty (none n)))
  stmt_by_sure pos start.Return = sure_skip (sure_apply (maybe_sure n h sign.Semicolon) (λ e w. w))
  stmt_by_sure pos start.Try = sure_skip (try_sure pos)
  stmt_by_sure pos start.Throw = sure_skip (throw_sure pos)
  stmt_by_sure pos start.Raise = sure_skip (raise_sure pos)
  stmt_by_sure pos start.Enable = sure_skip (enable_sure pos)
  stmt_by_sure pos start.Disable = sure_skip (disable_sure pos)
  stmt_by_sure pos start.Accept = accept_sure pos
  stmt_by_sure pos start.Print = sure_skip (sure_apply outs_sure (λ os w. w))
  stmt_by_sure pos start.PrintTogether = sure_skip (sure_expect (sure_expect (sure_expect (sure_apply outs_sure (λ os w. w)))))
  stmt_by_sure pos start.Cin = sure_skip (cin_sure pos)
  stmt_by_sure pos start.Resume = sure_skip (plain_sure (stmt.Resume pos) (none n))
  stmt_by_sure pos start.Suspend = sure_skip (plain_sure (stmt.Suspend pos) (none n))
  stmt_by_sure pos start.Yield = sure_skip (plain_sure (stmt.Yield pos) (none n))
  stmt_by_sure pos start.Migrate = sure_skip (migrate_sure pos)
  stmt_by_sure pos start.Simple = sure_apply (sure_before simple_sure) (λ s w. simple_is n s w)

  pub stmt_sure : Sure n stmt_form (λ s. stmt_nesting s ≤ n)
  stmt_sure = sure_here (λ pos. sure_look (λ o. stmt_by_sure pos (stmt_start o)))
