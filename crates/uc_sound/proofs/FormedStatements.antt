-- No handler of all events has a parameter: the forms of statements within n levels.
use Rattle.std.proofs.Common.{◌≡◌, ℕ, ◌++◌, List, [], ◌∷◌, Option, Some, None, refl, ap, ◌∙◌}
use Rattle.uc_tree.specs.declared.pos.Pos.{Pos}
use Rattle.uc_tree.specs.declared.kinds.HandlerKind.{HandlerKind}
use Rattle.uc_tree.specs.declared.token.Word.{Word}
use Rattle.uc_tree.specs.declared.token.Word.TheVariants as word
use Rattle.uc_tree.specs.declared.token.Sign.TheVariants as sign
use Rattle.uc_tree.specs.Gathered.{gathered, gathered_all, gathered_maybe, gathered_handler, gathered_handlers, gathered_clause, gathered_clauses}
use Rattle.uc_tree.specs.Statements.{Stmt, Stmts, MaybeStmt, Handler, Handlers, NoHandlers, MoreHandlers, Handles, Clause, Raised, ForStart, stmts_of, handlers_of, clauses_of}
use Rattle.uc_tree.specs.Statements as stmt
use Rattle.uc_grammar.specs.declared.start.StmtStart.{StmtStart}
use Rattle.uc_grammar.specs.declared.start.StmtStart.TheVariants as start
use Rattle.uc_grammar.specs.Form.{inside}
use Rattle.uc_grammar.specs.Names.{Simple, Declares, Evaluates, stmt_name, block_stmt_name}
use Rattle.uc_grammar.specs.Tables.{handler_of, stmt_start, word_of}
use Rattle.uc_grammar.specs.Grammar.{name_form, maybe_sign, maybe_expr, simple_form, block_rest, block_form, condition_form, maybe_stmt, simple_stmt, if_rest, while_rest, do_rest, for_start_form, for_rest, maybe_name_closed, Caught, caught_form, handler_by, handler_form, tried, try_rest, raised_form, throw_rest, at_form, raise_rest, events_form, enable_rest, disable_rest, guard_form, members_form, clause_form, accept_form, outs_form, cin_rest, no_arguments, stmt_by, stmt_form}
use Rattle.uc_sound.specs.SoundFormed.{nameless, own_nameless}
use Rattle.uc_sound.proofs.Sure.{Sure, Each, sure_nothing, sure_empty, sure_skip, sure_expect, sure_or, sure_look, sure_here, sure_bind, sure_apply, sure_many, sure_listed, any_piece, sure_before}

-- no handler of all events in it has a parameter
abbrev pub Nameless : Stmt → Type 0
Nameless s = gathered own_nameless s ≡ []

abbrev pub NamelessBody : Stmts → Type 0
NamelessBody ss = gathered_all own_nameless ss ≡ []

abbrev NamelessMaybe : MaybeStmt → Type 0
NamelessMaybe s = gathered_maybe own_nameless s ≡ []

abbrev NamelessClause : Clause → Type 0
NamelessClause c = gathered_clause own_nameless c ≡ []

abbrev NamelessHandler : Handler → Type 0
NamelessHandler h = (nameless (MoreHandlers h NoHandlers) ≡ []) × (gathered_handler own_nameless h ≡ [])

-- what a handler takes: where it is all events, it names none of them
abbrev NamelessCaught : Caught → Type 0
NamelessCaught (None, None) = Unit {0}
NamelessCaught (None, Some name) = ⊥
NamelessCaught (Some event, param) = Unit {0}

-- lists

pub none_both : {A : Type 0} (xs ys : List A) → xs ≡ [] → ys ≡ [] → xs ++ ys ≡ []
none_both xs ys e f = ap (λ l. l ++ ys) e ∙ f

none_three : {A : Type 0} (xs ys zs : List A) → xs ≡ [] → ys ≡ [] → zs ≡ [] → (xs ++ ys) ++ zs ≡ []
none_three xs ys zs e f g = none_both (xs ++ ys) zs (none_both xs ys e f) g

block_none : (ss : List Stmt) → Each Nameless ss → NamelessBody (stmts_of ss)
block_none [] h = refl
block_none (s ∷ ss) h = none_both (gathered own_nameless s) (gathered_all own_nameless (stmts_of ss)) h.0 (block_none ss h.1)

clauses_none : (cs : List Clause) → Each NamelessClause cs → gathered_clauses own_nameless (clauses_of cs) ≡ []
clauses_none [] h = refl
clauses_none (c ∷ cs) h = none_both (gathered_clause own_nameless c) (gathered_clauses own_nameless (clauses_of cs)) h.0 (clauses_none cs h.1)

handlers_none : (hs : List Handler) → Each NamelessHandler hs → gathered_handlers own_nameless (handlers_of hs) ≡ []
handlers_none [] h = refl
handlers_none (x ∷ xs) h = none_both (gathered_handler own_nameless x) (gathered_handlers own_nameless (handlers_of xs)) h.0.1 (handlers_none xs h.1)

one_more : (x : Handler) (rest : Handlers) → nameless (MoreHandlers x NoHandlers) ≡ [] → nameless rest ≡ [] → nameless (MoreHandlers x rest) ≡ []
one_more (Handles p kind None (Some name) brace body) rest e f = absurd (cc e)
one_more (Handles p kind None None brace body) rest e f = f
one_more (Handles p kind (Some event) param brace body) rest e f = f

own_none : (hs : List Handler) → Each NamelessHandler hs → nameless (handlers_of hs) ≡ []
own_none [] h = refl
own_none (x ∷ xs) h = one_more x (handlers_of xs) h.0.0 (own_none xs h.1)

handler_none : (pos : Pos) (kind : HandlerKind) (c : Caught) (brace : Pos) (body : Stmts) → NamelessCaught c → NamelessBody body → NamelessHandler (Handles pos kind c.0 c.1 brace body)
handler_none pos kind (None, None) brace body h e = (refl, e)
handler_none pos kind (None, Some name) brace body h e = absurd h
handler_none pos kind (Some event, param) brace body h e = (refl, e)

try_none : (pos : Pos) (b : Pos × Stmts) (hs : List Handler) → NamelessBody b.1 → Each NamelessHandler hs → Nameless (tried pos b hs)
try_none pos b hs w v =
    none_three (nameless (handlers_of hs)) (gathered_all own_nameless b.1) (gathered_handlers own_nameless (handlers_of hs)) (own_none hs v) w (handlers_none hs v)

simple_none : (s : Simple) → Nameless (simple_stmt s)
simple_none (Declares pos base declarators) = refl
simple_none (Evaluates pos value) = refl

module _ (n last : ℕ) (in_stmt : Sure n last (inside stmt_name) Nameless) (in_block : Sure n last (inside block_stmt_name) Nameless) where
  block_rest_sure : Sure n last block_rest NamelessBody
  block_rest_sure = sure_apply (sure_before (sure_many in_block)) (λ ss w. block_none ss w)

  pub block_sure : Sure n last block_form (λ b. NamelessBody b.1)
  block_sure = sure_here (λ brace. sure_expect (sure_apply block_rest_sure (λ ss w. w)))

  maybe_stmt_sure : (w : Word) → Sure n last (maybe_stmt w) NamelessMaybe
  maybe_stmt_sure w = sure_or (sure_apply in_stmt (λ s v. v)) (sure_empty refl)

  if_sure : (pos : Pos) → Sure n last (if_rest pos) Nameless
  if_sure pos = sure_bind (any_piece n last condition_form) (λ e t. sure_bind in_stmt (λ s v. sure_apply (maybe_stmt_sure word.Else) (λ o u. none_both (gathered own_nameless s) (gathered_maybe own_nameless o) v u)))

  while_sure : (pos : Pos) → Sure n last (while_rest pos) Nameless
  while_sure pos = sure_bind (any_piece n last condition_form) (λ e t. sure_apply in_stmt (λ s v. v))

  do_sure : (pos : Pos) → Sure n last (do_rest pos) Nameless
  do_sure pos = sure_bind in_stmt (λ s v. sure_expect (sure_apply (sure_before (any_piece n last condition_form)) (λ e t. v)))

  for_sure : (pos : Pos) → Sure n last (for_rest pos) Nameless
  for_sure pos = sure_expect (sure_bind (any_piece n last for_start_form) (λ st a. sure_bind (any_piece n last (maybe_expr sign.Semicolon)) (λ test b. sure_bind (any_piece n last (maybe_expr sign.CloseParen)) (λ next c. sure_apply in_stmt (λ s d. d)))))

  caught_sure : Sure n last caught_form NamelessCaught
  caught_sure = sure_or (sure_expect (sure_empty tt)) (sure_bind (any_piece n last name_form) (λ m t. sure_bind (any_piece n last (maybe_sign sign.And)) (λ r u. sure_apply (any_piece n last maybe_name_closed) (λ o w. tt))))

  handler_by_sure : (pos : Pos) (k : Option HandlerKind) → Sure n last (handler_by pos k) NamelessHandler
  handler_by_sure pos None = sure_nothing
  handler_by_sure pos (Some k) = sure_skip (sure_expect (sure_bind caught_sure (λ c h. sure_apply block_sure (λ b w. handler_none pos k c b.0 b.1 h w))))

  handler_sure : Sure n last handler_form NamelessHandler
  handler_sure = sure_here (λ pos. sure_look (λ o. handler_by_sure pos (handler_of (word_of o))))

  try_sure : (pos : Pos) → Sure n last (try_rest pos) Nameless
  try_sure pos = sure_bind block_sure (λ b w. sure_apply (sure_listed handler_sure handler_sure) (λ hs v. try_none pos b hs w v))

  throw_sure : (pos : Pos) → Sure n last (throw_rest pos) Nameless
  throw_sure pos = sure_apply (any_piece n last _) (λ r w. refl)

  at_sure : (pos : Pos) (r : Raised) → Sure n last (at_form pos r) Nameless
  at_sure pos r = sure_or (sure_apply (any_piece n last _) (λ e v. refl)) (sure_empty refl)

  raise_sure : (pos : Pos) → Sure n last (raise_rest pos) Nameless
  raise_sure pos = sure_or (sure_empty refl) (sure_bind (any_piece n last raised_form) (λ r w. sure_before (at_sure pos r)))

  enable_sure : (pos : Pos) → Sure n last (enable_rest pos) Nameless
  enable_sure pos = sure_bind (any_piece n last events_form) (λ es t. sure_apply in_stmt (λ s w. w))

  disable_sure : (pos : Pos) → Sure n last (disable_rest pos) Nameless
  disable_sure pos = sure_bind (any_piece n last events_form) (λ es t. sure_apply in_stmt (λ s w. w))

  clause_sure : Sure n last clause_form NamelessClause
  clause_sure = sure_here (λ pos. sure_bind (any_piece n last guard_form) (λ g w. sure_bind (any_piece n last members_form) (λ ms t. sure_apply in_stmt (λ s v. v))))

  accept_sure : (pos : Pos) → Sure n last (accept_form pos) Nameless
  accept_sure pos = sure_bind (sure_listed clause_sure (sure_skip clause_sure)) (λ cs w. sure_apply (maybe_stmt_sure word.AcceptElse) (λ o v. none_both (gathered_clauses own_nameless (clauses_of cs)) (gathered_maybe own_nameless o) (clauses_none cs w) v))

  cin_sure : (pos : Pos) → Sure n last (cin_rest pos) Nameless
  cin_sure pos = sure_or (sure_apply (any_piece n last _) (λ es w. refl)) (sure_apply (any_piece n last _) (λ e w. refl))

  plain_sure : (s : Stmt) → Nameless s → Sure n last (no_arguments s) Nameless
  plain_sure s w = sure_expect (sure_expect (sure_expect (sure_empty w)))

  stmt_by_sure : (pos : Pos) (s : StmtStart) → Sure n last (stmt_by pos s) Nameless
  stmt_by_sure pos start.Block = sure_skip (sure_apply block_rest_sure (λ ss w. w))
  stmt_by_sure pos start.Empty = sure_skip (sure_empty refl)
  stmt_by_sure pos start.If = sure_skip (if_sure pos)
  stmt_by_sure pos start.While = sure_skip (while_sure pos)
  stmt_by_sure pos start.Do = sure_skip (do_sure pos)
  stmt_by_sure pos start.For = sure_skip (for_sure pos)
  stmt_by_sure pos start.Break = sure_skip (sure_expect (sure_empty refl))
  stmt_by_sure pos start.Continue = sure_skip (sure_expect (sure_empty refl))
  stmt_by_sure pos start.Return = sure_skip (sure_apply (any_piece n last (maybe_expr sign.Semicolon)) (λ e w. refl))
  stmt_by_sure pos start.Try = sure_skip (try_sure pos)
  stmt_by_sure pos start.Throw = sure_skip (throw_sure pos)
  stmt_by_sure pos start.Raise = sure_skip (raise_sure pos)
  stmt_by_sure pos start.Enable = sure_skip (enable_sure pos)
  stmt_by_sure pos start.Disable = sure_skip (disable_sure pos)
  stmt_by_sure pos start.Accept = accept_sure pos
  stmt_by_sure pos start.Print = sure_skip (sure_apply (any_piece n last outs_form) (λ os w. refl))
  stmt_by_sure pos start.PrintTogether = sure_skip (sure_expect (sure_expect (sure_expect (sure_apply (any_piece n last outs_form) (λ os w. refl)))))
  stmt_by_sure pos start.Cin = sure_skip (cin_sure pos)
  stmt_by_sure pos start.Resume = sure_skip (plain_sure (stmt.Resume pos) refl)
  stmt_by_sure pos start.Suspend = sure_skip (plain_sure (stmt.Suspend pos) refl)
  stmt_by_sure pos start.Yield = sure_skip (plain_sure (stmt.Yield pos) refl)
  stmt_by_sure pos start.Migrate = sure_skip (sure_expect (sure_apply (any_piece n last _) (λ e w. refl)))
  stmt_by_sure pos start.Simple = sure_apply (sure_before (any_piece n last simple_form)) (λ s w. simple_none s)

  pub stmt_sure : Sure n last stmt_form Nameless
  stmt_sure = sure_here (λ pos. sure_look (λ o. stmt_by_sure pos (stmt_start o)))
