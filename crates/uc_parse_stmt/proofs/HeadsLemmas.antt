-- What each head leads to.
use Rattle.std.proofs.Common.{◌≡◌, ℕ, ◌+◌, List, Option, Some, refl, inl, inr, subst}
use Rattle.uc_tree.specs.declared.kinds.HandlerKind.{HandlerKind}
use Rattle.uc_tree.specs.declared.pos.Pos.{Pos}
use Rattle.uc_tree.specs.declared.token.Token.{Token}
use Rattle.uc_tree.specs.declared.token.TokenKind.TheVariants as token
use Rattle.uc_tree.specs.declared.token.Sign.TheVariants as sign
use Rattle.uc_tree.specs.declared.token.Word.TheVariants as word
use Rattle.uc_tree.specs.declared.kinds.EventName.{EventName}
use Rattle.uc_tree.specs.Expressions.{Expr}
use Rattle.uc_tree.specs.Statements.{Stmt, Stmts, MaybeStmt, NoStmt, ForStart, Handler}
use Rattle.uc_tree.specs.Statements as stmt
use Rattle.uc_grammar.specs.Names.{stmt_name}
use Rattle.uc_grammar.specs.Tables.{word_of, handler_of, is_or}
use Rattle.uc_grammar.specs.Spell.{kind_at, pos_at}
use Rattle.uc_grammar.specs.declared.fault.ParseFault.{ParseFault}
use Rattle.uc_grammar.specs.Form.{Form, empty, skip, bind, apply, listed, inside, Spells, Fails}
use Rattle.uc_grammar.specs.Grammar.{expect_sign, maybe_expr, maybe_stmt, condition_form, for_start_form, events_form, guard_form, members_form, caught_form, block_form, block_rest, braced, handles, handler_by, handler_form, handlers_form, tried, try_rest, clause_form, accepts, accept_form, if_rest, while_rest, do_rest, for_rest, enable_rest, disable_rest, inner, faults}
use Rattle.uc_parse_stmt.specs.Forms.{do_condition, do_test, for_test, for_step}
use Rattle.uc_parse_simple.specs.Parts.{caught_of}
use Rattle.uc_parse_stmt.specs.declared.head.Head.{Head}
use Rattle.uc_parse_stmt.specs.declared.head.Head.TheVariants as head
use Rattle.uc_parse_stmt.specs.declared.head.ClauseHead.{ClauseHead}
use Rattle.uc_parse_stmt.specs.declared.head.HandlerHead.{HandlerHead}
use Rattle.uc_parse_stmt.specs.Heads as heads
use Rattle.uc_parse_stmt.specs.Leads.{Leads}
use Rattle.uc_parse_stmt.proofs.LeadsLemmas.{then_read, skip_read, expect_read, first_read, in_first, in_second, in_applied, in_listed, made, thin, fused, handed, by_leads}

module _ (room : ℕ) (ts : List Token) where
  -- a statement that ends with the one inside of it
  abbrev Alone : (Stmt → Stmt) → Form Stmt
  Alone f = bind (inside stmt_name) (λ s. bind (empty NoStmt) (λ o. empty (f s)))

  alone : (f : Stmt → Stmt) (from : ℕ) → Leads room ts (apply f (inside stmt_name)) from (Alone f) from
  alone f from = then_read room ts (apply f (inside stmt_name)) (bind (inside stmt_name) (λ s. empty (f s))) (Alone f) from from from
      (made room ts (inside stmt_name) f from)
      (in_second room ts (inside stmt_name) (λ s. empty (f s)) (λ s. bind (empty NoStmt) (λ o. empty (f s))) from (λ s at. thin room ts NoStmt (empty (f s)) at refl))

  pub if_head : (pos : Pos) (test : Expr) (from at : ℕ) → Spells (inner room) condition_form ts from at test → Leads room ts (if_rest pos) from (heads.head_form pos (head.If test)) at
  if_head pos test from at r = then_read room ts (if_rest pos) (bind (inside stmt_name) (λ s. apply (stmt.If pos test s) (maybe_stmt word.Else))) (heads.head_form pos (head.If test)) from at at
      (first_read room ts condition_form (λ e. bind (inside stmt_name) (λ s. apply (stmt.If pos e s) (maybe_stmt word.Else))) from at test r)
      (in_second room ts (inside stmt_name) (λ s. apply (stmt.If pos test s) (maybe_stmt word.Else)) (λ s. bind (maybe_stmt word.Else) (λ o. empty (stmt.If pos test s o))) at (λ s mid. made room ts (maybe_stmt word.Else) (stmt.If pos test s) mid))

  pub while_head : (pos : Pos) (test : Expr) (from at : ℕ) → Spells (inner room) condition_form ts from at test → Leads room ts (while_rest pos) from (heads.head_form pos (head.While test)) at
  while_head pos test from at r = then_read room ts (while_rest pos) (apply (stmt.While pos test) (inside stmt_name)) (heads.head_form pos (head.While test)) from at at
      (first_read room ts condition_form (λ e. apply (stmt.While pos e) (inside stmt_name)) from at test r)
      (alone (stmt.While pos test) at)

  pub do_head : (pos : Pos) (from : ℕ) → Leads room ts (do_rest pos) from (heads.head_form pos head.Do) from
  do_head pos from = in_second room ts (inside stmt_name) (λ s. do_test pos s) (λ s. bind (empty NoStmt) (λ o. do_test pos s)) from (λ s at. thin room ts NoStmt (do_test pos s) at (inr (inr refl)))

  -- what stands behind the body of a `do` is its condition
  pub do_closed : (pos : Pos) (s : Stmt) (e : Expr) (from to : ℕ) → Spells (inner room) do_condition ts from to e → Spells (inner room) (do_test pos s) ts from to (stmt.Do pos s e)
  do_closed pos s e from to r = (r.0, record { inside = e; spelled = r.1; value = refl })

  pub do_fails : (pos : Pos) (s : Stmt) (from : ℕ) (f : ParseFault) → Fails (inner room) (faults room) do_condition ts from f → Fails (inner room) (faults room) (do_test pos s) ts from f
  do_fails pos s from f (inl h) = inl h
  do_fails pos s from f (inr (inl h)) = inr (inl (h.0, inl h.1))
  do_fails pos s from f (inr (inr h)) = inr (inr h)

  -- what follows a head is the statements inside, and what stands behind them
  pub headed_found : (pos : Pos) (h : Head) (b : Stmt × MaybeStmt) (from mid to : ℕ) (v : Stmt) → Spells (inner room) (heads.bodies_form (heads.else_of h)) ts from mid b → Spells (inner room) (heads.close_form pos h b.0 b.1) ts mid to v → Spells (inner room) (heads.head_form pos h) ts from to v
  headed_found pos h b from mid to v r k = record { middle = r.middle; left = r.left; first = r.first; second = record { middle = mid; left = r.second.inside; first = r.second.spelled; second = subst (λ c. Spells (inner room) (heads.close_form pos h c.0 c.1) ts mid to v) r.second.value k } }

  pub bodies_fail : (pos : Pos) (h : Head) (from : ℕ) (f : ParseFault) → Fails (inner room) (faults room) (heads.bodies_form (heads.else_of h)) ts from f → Fails (inner room) (faults room) (heads.head_form pos h) ts from f
  bodies_fail pos h from f (inl a) = inl a
  bodies_fail pos h from f (inr (inl (at, s, r, inl m))) = inr (inl (at, s, r, inl m))
  bodies_fail pos h from f (inr (inl (at, s, r, inr e))) = inr (inr e)
  bodies_fail pos h from f (inr (inr e)) = inr (inr e)

  pub close_fails : (pos : Pos) (h : Head) (b : Stmt × MaybeStmt) (from mid : ℕ) (f : ParseFault) → Spells (inner room) (heads.bodies_form (heads.else_of h)) ts from mid b → Fails (inner room) (faults room) (heads.close_form pos h b.0 b.1) ts mid f → Fails (inner room) (faults room) (heads.head_form pos h) ts from f
  close_fails pos h b from mid f r k = inr (inl (r.middle, r.left, r.first, inr (inl (mid, r.second.inside, r.second.spelled, subst (λ c. Fails (inner room) (faults room) (heads.close_form pos h c.0 c.1) ts mid f) r.second.value k))))

  pub for_opened : (pos : Pos) (from at : ℕ) → (kind_at ts from ≡ Some (token.Sign sign.OpenParen)) × (at ≡ from + 1) → Leads room ts (for_rest pos) from (bind for_start_form (for_test pos)) at
  for_opened pos from at p = expect_read room ts (token.Sign sign.OpenParen) (bind for_start_form (for_test pos)) from at p

  pub for_started : (pos : Pos) (start : ForStart) (from mid at : ℕ) → Leads room ts (for_rest pos) from (bind for_start_form (for_test pos)) mid → Spells (inner room) for_start_form ts mid at start → Leads room ts (for_rest pos) from (for_test pos start) at
  for_started pos start from mid at l r = then_read room ts (for_rest pos) (bind for_start_form (for_test pos)) (for_test pos start) from mid at l (first_read room ts for_start_form (for_test pos) mid at start r)

  pub for_tested : (pos : Pos) (start : ForStart) (test : Option Expr) (from mid at : ℕ) → Leads room ts (for_rest pos) from (for_test pos start) mid → Spells (inner room) (maybe_expr sign.Semicolon) ts mid at test → Leads room ts (for_rest pos) from (for_step pos start test) at
  for_tested pos start test from mid at l r = then_read room ts (for_rest pos) (for_test pos start) (for_step pos start test) from mid at l (first_read room ts (maybe_expr sign.Semicolon) (for_step pos start) mid at test r)

  pub for_head : (pos : Pos) (start : ForStart) (test next : Option Expr) (from mid at : ℕ) → Leads room ts (for_rest pos) from (for_step pos start test) mid → Spells (inner room) (maybe_expr sign.CloseParen) ts mid at next → Leads room ts (for_rest pos) from (heads.head_form pos (head.For start test next)) at
  for_head pos start test next from mid at l r = then_read room ts (for_rest pos) (for_step pos start test) (heads.head_form pos (head.For start test next)) from mid at l
      (then_read room ts (for_step pos start test) (apply (stmt.For pos start test next) (inside stmt_name)) (heads.head_form pos (head.For start test next)) mid at at
      (first_read room ts (maybe_expr sign.CloseParen) (λ n. apply (stmt.For pos start test n) (inside stmt_name)) mid at next r)
      (alone (stmt.For pos start test next) at))

  pub enable_head : (pos : Pos) (events : List EventName) (from at : ℕ) → Spells (inner room) events_form ts from at events → Leads room ts (enable_rest pos) from (Alone (stmt.Enable pos events)) at
  enable_head pos events from at r = then_read room ts (enable_rest pos) (apply (stmt.Enable pos events) (inside stmt_name)) (Alone (stmt.Enable pos events)) from at at
      (first_read room ts events_form (λ es. apply (stmt.Enable pos es) (inside stmt_name)) from at events r)
      (alone (stmt.Enable pos events) at)

  pub disable_head : (pos : Pos) (events : List EventName) (from at : ℕ) → Spells (inner room) events_form ts from at events → Leads room ts (disable_rest pos) from (Alone (stmt.Disable pos events)) at
  disable_head pos events from at r = then_read room ts (disable_rest pos) (apply (stmt.Disable pos events) (inside stmt_name)) (Alone (stmt.Disable pos events)) from at at
      (first_read room ts events_form (λ es. apply (stmt.Disable pos es) (inside stmt_name)) from at events r)
      (alone (stmt.Disable pos events) at)

  pub clause_head : (h : ClauseHead) (from mid at : ℕ) → h.pos ≡ pos_at ts from → Spells (inner room) guard_form ts from mid h.guard → Spells (inner room) members_form ts mid at h.members.items → Leads room ts clause_form from (heads.clause_rest h) at
  clause_head h from mid at e g m =
      let F = λ (p : Pos). bind guard_form (λ g. bind members_form (λ ms. apply (stmt.Accepts p g ms) (inside stmt_name))) in
      let l : Leads room ts (F h.pos) from (heads.clause_rest h) at = then_read room ts (F h.pos) (bind members_form (λ ms. apply (stmt.Accepts h.pos h.guard ms) (inside stmt_name))) (heads.clause_rest h) from mid at
      (first_read room ts guard_form (λ g. bind members_form (λ ms. apply (stmt.Accepts h.pos g ms) (inside stmt_name))) from mid h.guard g)
      (first_read room ts members_form (λ ms. apply (stmt.Accepts h.pos h.guard ms) (inside stmt_name)) mid at h.members.items m) in
      let k : Leads room ts (F (pos_at ts from)) from (heads.clause_rest h) at = by_leads room ts F h.pos (pos_at ts from) from at (heads.clause_rest h) e l in
      record { spells = λ to v r. k.spells to v r; fails = λ f x. k.fails f x }

  pub accept_head : (pos : Pos) (h : ClauseHead) (from at : ℕ) → Leads room ts clause_form from (heads.clause_rest h) at → Leads room ts (accept_form pos) from (heads.accept_rest pos h) at
  accept_head pos h from at l = in_first room ts (listed clause_form (λ o. is_or (word_of o)) (skip clause_form)) (heads.clauses_rest h) (λ cs. apply (accepts pos cs) (maybe_stmt word.AcceptElse)) from at
      (in_listed room ts clause_form (heads.clause_rest h) (λ o. is_or (word_of o)) (skip clause_form) from at l)

  pub block_head : (brace : Pos) (from at : ℕ) → brace ≡ pos_at ts from → (kind_at ts from ≡ Some (token.Sign sign.OpenBrace)) × (at ≡ from + 1) → Leads room ts block_form from (apply (braced brace) block_rest) at
  block_head brace from at e p =
      let F = λ (b : Pos). expect_sign sign.OpenBrace (apply (braced b) block_rest) in
      let l : Leads room ts (F brace) from (apply (braced brace) block_rest) at = expect_read room ts (token.Sign sign.OpenBrace) (apply (braced brace) block_rest) from at p in
      let k : Leads room ts (F (pos_at ts from)) from (apply (braced brace) block_rest) at = by_leads room ts F brace (pos_at ts from) from at (apply (braced brace) block_rest) e l in
      record { spells = λ to v r. k.spells to v r; fails = λ f x. k.fails f x }

  pub try_head : (pos brace : Pos) (from at : ℕ) → brace ≡ pos_at ts from → (kind_at ts from ≡ Some (token.Sign sign.OpenBrace)) × (at ≡ from + 1) → Leads room ts (try_rest pos) from (heads.try_form pos brace) at
  try_head pos brace from at e p = then_read room ts (try_rest pos) (bind (apply (braced brace) block_rest) (λ b. apply (tried pos b) handlers_form)) (heads.try_form pos brace) from at at
      (in_first room ts block_form (apply (braced brace) block_rest) (λ b. apply (tried pos b) handlers_form) from at (block_head brace from at e p))
      (handed room ts block_rest (braced brace) at (λ b. apply (tried pos b) handlers_form))

  pub taken_opened : (pos : Pos) (k : HandlerKind) (from at : ℕ) → (kind_at ts from ≡ Some (token.Sign sign.OpenParen)) × (at ≡ from + 1) → Leads room ts (heads.taken_form pos k) from (bind caught_form (λ c. apply (handles pos k c) block_form)) at
  taken_opened pos k from at p = expect_read room ts (token.Sign sign.OpenParen) (bind caught_form (λ c. apply (handles pos k c) block_form)) from at p

  pub taken_caught : (pos : Pos) (k : HandlerKind) (c : Option (List ℕ) × Option (List ℕ)) (from mid at : ℕ) → Leads room ts (heads.taken_form pos k) from (bind caught_form (λ c. apply (handles pos k c) block_form)) mid → Spells (inner room) caught_form ts mid at c → Leads room ts (heads.taken_form pos k) from (apply (handles pos k c) block_form) at
  taken_caught pos k c from mid at l r = then_read room ts (heads.taken_form pos k) (bind caught_form (λ c. apply (handles pos k c) block_form)) (apply (handles pos k c) block_form) from mid at l
      (first_read room ts caught_form (λ c. apply (handles pos k c) block_form) mid at c r)

  pub taken_head : (h : HandlerHead) (from mid at : ℕ) → Leads room ts (heads.taken_form h.pos h.kind) from (apply (handles h.pos h.kind (caught_of h.caught)) block_form) mid → h.brace ≡ pos_at ts mid → (kind_at ts mid ≡ Some (token.Sign sign.OpenBrace)) × (at ≡ mid + 1) → Leads room ts (heads.taken_form h.pos h.kind) from (heads.handler_rest h) at
  taken_head h from mid at l e p = then_read room ts (heads.taken_form h.pos h.kind) (apply (handles h.pos h.kind (caught_of h.caught)) block_form) (heads.handler_rest h) from mid at l
      (then_read room ts (apply (handles h.pos h.kind (caught_of h.caught)) block_form) (apply (handles h.pos h.kind (caught_of h.caught)) (apply (braced h.brace) block_rest)) (heads.handler_rest h) mid at at
      (in_applied room ts block_form (apply (braced h.brace) block_rest) (handles h.pos h.kind (caught_of h.caught)) mid at (block_head h.brace mid at e p))
      (fused room ts block_rest (braced h.brace) at (handles h.pos h.kind (caught_of h.caught))))

  pub handler_head : (pos : Pos) (k : HandlerKind) (h : HandlerHead) (from at : ℕ) → pos ≡ pos_at ts from → Some k ≡ handler_of (word_of (kind_at ts from)) → Leads room ts (heads.taken_form pos k) (from + 1) (heads.handler_rest h) at → Leads room ts handler_form from (heads.handler_rest h) at
  handler_head pos k h from at e d l =
      let s : Leads room ts (skip (heads.taken_form pos k)) from (heads.handler_rest h) at = skip_read room ts (heads.taken_form pos k) (heads.handler_rest h) from at l in
      let a : Leads room ts (handler_by pos (handler_of (word_of (kind_at ts from)))) from (heads.handler_rest h) at = by_leads room ts (handler_by pos) (Some k) (handler_of (word_of (kind_at ts from))) from at (heads.handler_rest h) d s in
      let b : Leads room ts (handler_by (pos_at ts from) (handler_of (word_of (kind_at ts from)))) from (heads.handler_rest h) at = by_leads room ts (λ p. handler_by p (handler_of (word_of (kind_at ts from)))) pos (pos_at ts from) from at (heads.handler_rest h) e a in
      record { spells = λ to v r. b.spells to v r; fails = λ f x. b.fails f x }
