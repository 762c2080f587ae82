-- Plain statements that break no rule are in order.
use Rattle.std.proofs.Common.{◌≡◌, ℕ, ◌++◌, List, [], ◌∷◌, Option, Some, None, Bool, true, false, refl, sym, subst}
use Rattle.std.specs.Prelude.{if◌then◌else◌}
use Rattle.uc_tree.specs.declared.pos.Pos.{Pos}
use Rattle.uc_tree.specs.declared.kinds.LocalVariable.{LocalVariable}
use Rattle.uc_tree.specs.Expressions as expr
use Rattle.uc_tree.specs.Statements as stmt
use Rattle.uc_tree.specs.Source.{Expr, Stmt, Stmts, Then, Clauses}
use Rattle.uc_resolve.specs.Standings as tree
use Rattle.uc_resolve.specs.Standings.{AsValue, meant}
use Rattle.uc_resolve.specs.Resolve.{Scope, stmt_meant, stmts_meant, maybe_meant, stmt_then, names_behind, scope_after, scope_past, result_of, test_of, step_of, within_accept, scope_past_clause, scope_past_clauses, clauses_meant, else_meant, scope_past_all, in_handler, scope_past_handler, handlers_meant}
use Rattle.uc_tree.specs.Objects.{shape_of}
use Rattle.uc_rules.specs.declared.rule.Rule.TheVariants.{S12, O9}
use Rattle.uc_rules.specs.declared.rules.OwnClass.{OwnClass}
use Rattle.uc_rules.specs.declared.rules.Surroundings.{Surroundings}
use Rattle.uc_rules.specs.declared.rules.Entity.{Entity}
use Rattle.uc_rules.specs.declared.rules.Entity.TheVariants as entity
use Rattle.uc_rules.specs.Scopes.{Env, opened, with_around, with_joins, env_after}
use Rattle.uc_rules.specs.Entities.{entity_of}
use Rattle.uc_rules.specs.Sorts.{is_condition}
use Rattle.uc_rules.specs.ExpressionBreaks.{return_breaks, bad_clause}
use Rattle.uc_rules.specs.OwnerBreaks.{may_switch, may_switch_in, may_accept}
use Rattle.uc_rules.specs.Visits.{Visit, AtReturn, AtSwitch, AtAccept, AtStatement, AtHandlers, AtCaught, visits, condition_visits, maybe_condition_visits, maybe_statement_visits, return_visits, outs_visits, stmt_visits, stmts_visits, maybe_stmt_visits, clauses_visits, handlers_visits, looped, joined, handling}
use Rattle.uc_rules.specs.Breaks.{breaks_at}
use Rattle.uc_typing.specs.Typing.{Num, Name, Sig, Table, Executing, Yields, Fine, FineStep, FineLoop, FineGuards, FineClauses, FineHandlers, FineStmt, FineStmts}
use Rattle.uc_sound.specs.Agreement.{IsAsValue, found_ty, row_ty, ValuedBy, Agrees, context}
use Rattle.uc_sound.specs.Unbroken.{Unbroken}
use Rattle.uc_sound.specs.PlainStatements.{IsValued, IsStep, IsPlain, ArePlain, IsMaybePlain, AreClausesPlain, AreHandlersPlain, Stood, LawPlain}
use Rattle.uc_sound.proofs.Ties.{false_true, law_agrees}
use Rattle.uc_sound.proofs.UnbrokenLemmas.{none_left, none_right, first, second, one, stands}
use Rattle.uc_sound.proofs.Asking.{only, law_parts}

module _ (t : Table) (g : Sig) (sc : List Name) where
  -- environments of statements within statements have the same names

  opened_stood : (env : Env) (class : Option ℕ) (routine : ℕ) (known : List LocalVariable) → Stood t g sc env class routine known → Stood t g sc (opened env) class routine known
  opened_stood env class routine known h = record {
    tied = record { refers = h.tied.refers; classes = h.tied.classes; tasks = h.tied.tasks; shapes = h.tied.shapes; inside = h.tied.inside; names = h.tied.names; outer = h.tied.outer; member = h.tied.member };
    known = record { names = h.known.names; members = h.known.members; results = h.known.results };
    returning = h.returning;
    switching = h.switching;
    accepting = h.accepting;
  }

  joined_stood : (b : Bool) (env : Env) (class : Option ℕ) (routine : ℕ) (known : List LocalVariable) → Stood t g sc env class routine known → Stood t g sc (with_around env (with_joins b env.around)) class routine known
  joined_stood b env class routine known h = record {
    tied = record { refers = h.tied.refers; classes = h.tied.classes; tasks = h.tied.tasks; shapes = h.tied.shapes; inside = h.tied.inside; names = h.tied.names; outer = h.tied.outer; member = h.tied.member };
    known = record { names = h.known.names; members = h.known.members; results = h.known.results };
    returning = h.returning;
    switching = h.switching;
    accepting = h.accepting;
  }

  looped_stood : (env : Env) (class : Option ℕ) (routine : ℕ) (known : List LocalVariable) → Stood t g sc env class routine known → Stood t g sc (looped env) class routine known
  looped_stood env class routine known h = record {
    tied = record { refers = h.tied.refers; classes = h.tied.classes; tasks = h.tied.tasks; shapes = h.tied.shapes; inside = h.tied.inside; names = h.tied.names; outer = h.tied.outer; member = h.tied.member };
    known = record { names = h.known.names; members = h.known.members; results = h.known.results };
    returning = h.returning;
    switching = h.switching;
    accepting = h.accepting;
  }

  handled_stood : (env : Env) (class : Option ℕ) (routine : ℕ) (known : List LocalVariable) → Stood t g sc env class routine known → Stood t g sc (handling env) class routine known
  handled_stood env class routine known h = record {
    tied = record { refers = h.tied.refers; classes = h.tied.classes; tasks = h.tied.tasks; shapes = h.tied.shapes; inside = h.tied.inside; names = h.tied.names; outer = h.tied.outer; member = h.tied.member };
    known = record { names = h.known.names; members = h.known.members; results = h.known.results };
    returning = h.returning;
    switching = h.switching;
    accepting = h.accepting;
  }

  -- an expression that is a value, a place or an array gives something

  value_given : (st : tree.Standing) (e : Expr) → IsAsValue st → ValuedBy t g sc st e → Yields t g sc e Num
  value_given AsValue e v h = h
  value_given _ e v h = absurd v

  given : (w : Entity) (m : tree.Meant) → (env : Env) → IsValued (Some w) → Agrees t g sc env.program w m → Fine t g sc m.expr
  given (entity.Value s) m env v a = (Num, value_given m.standing m.expr a.0 a.1)
  given (entity.Place s) m env v a = (found_ty s, a.0.0)
  given (entity.Array s n) m env v a = (row_ty (is_condition s) n s, a.0)
  given _ m env v a = absurd v

  evaluated : (e : expr.Expr) (env : Env) (class : Option ℕ) (routine : ℕ) (known : List LocalVariable) (more : List Visit) → Stood t g sc env class routine known → IsValued (entity_of env e) → Unbroken (visits env e ++ more) → Fine t g sc (meant (context env class routine known) e).expr
  evaluated e env class routine known more h v u =
      let r = stands env h.known e (first (visits env e) more u) in
      given r.0 (meant (context env class routine known) e) env (subst IsValued r.1 v) (law_agrees t g sc env class routine known h.tied e (first (visits env e) more u) r.0 r.1)

  -- returns and switches

  returns_by : (b : Bool) (w : Option Entity) (p : Pos) → return_breaks b (Some w) p ≡ [] → b ≡ true
  returns_by true w p h = refl
  returns_by false w p h = only false S12 p h

  returning : (p : Pos) (e : expr.Expr) (env : Env) → Unbroken (return_visits env p (Some e)) → env.around.returns ≡ true
  returning p e env u =
      let b : breaks_at (AtReturn env p (Some (entity_of env e))) ≡ [] = one (AtReturn env p (Some (entity_of env e))) (second (visits env e) _ u) in
      returns_by env.around.returns (entity_of env e) p (none_left (return_breaks env.around.returns (Some (entity_of env e)) p) _ b)

  switch_by : (o : Option OwnClass) (a : Surroundings) → may_switch a o ≡ true → ((h : OwnClass) → o ≡ Some h → may_switch_in a.inner h ≡ true → Executing t g) → Executing t g
  switch_by None a h f = false_true h
  switch_by (Some x) a h f = f x refl h

  -- the test of a `for`, and its step

  tested : (test : Option expr.Expr) (env : Env) (s : Scope) → Stood t g sc env s.class s.routine s.names → Unbroken (maybe_condition_visits env test) → Yields t g sc (test_of env.program s test) Num
  tested None env s h u = refl
  tested (Some e) env s h u = (law_parts t g sc env s.class s.routine s.names h.tied h.known).condition e u

  steps : (step : Option expr.Expr) (env : Env) (s : Scope) → Stood t g sc env s.class s.routine s.names → IsStep step env → Unbroken (maybe_statement_visits env step) → FineStep t g sc (step_of env.program s step)
  steps None env s h l u = tt
  steps (Some e) env s h l u = evaluated e env s.class s.routine s.names (AtStatement (expr.expr_pos e) (entity_of env e) ∷ []) h l u

  -- its loop, in its scope
  looped_plain : (test step : Option expr.Expr) (env : Env) (s : Scope) (vs : List Visit) (b : Stmt) → Stood t g sc env s.class s.routine s.names → IsStep step env → (Unbroken vs → FineStmt t g sc b) → Unbroken (maybe_condition_visits env test ++ (maybe_statement_visits env step ++ vs)) → FineLoop t g sc (test_of env.program s test) (step_of env.program s step) b
  looped_plain test step env s vs b h l f u =
      let v = second (maybe_condition_visits env test) (maybe_statement_visits env step ++ vs) u in
      (tested test env s h (first (maybe_condition_visits env test) (maybe_statement_visits env step ++ vs) u), steps step env s h l (first (maybe_statement_visits env step) vs v), f (second (maybe_statement_visits env step) vs v))

  joined_loop : (env : Env) (class : Option ℕ) (routine : ℕ) (known : List LocalVariable) → Stood t g sc env class routine known → Stood t g sc (joined (looped env)) class routine known
  joined_loop env class routine known h = joined_stood true (looped env) class routine known (looped_stood env class routine known h)

  -- behind clauses the names are as before
  past_stood : (cs : stmt.Clauses) (env : Env) (s : Scope) → Stood t g sc env s.class s.routine s.names → Stood t g sc env (scope_past_clauses env.program cs s).class (scope_past_clauses env.program cs s).routine (scope_past_clauses env.program cs s).names
  past_stood stmt.NoClauses env s h = h
  past_stood (stmt.MoreClauses (stmt.Accepts q guard members body) rest) env s h =
      past_stood rest env (scope_past_clause env.program (stmt.Accepts q guard members body) s) h

  accepting : (p : Pos) (cs : stmt.Clauses) (env : Env) (vs : List Visit) → Unbroken (AtAccept env p cs ∷ vs) → may_accept env.around ≡ true
  accepting p cs env vs u =
      only (may_accept env.around) O9 p (none_right (bad_clause (AtAccept env p cs)) _ (one (AtAccept env p cs) (first (AtAccept env p cs ∷ []) vs u)))

  -- a plain statement leaves names as they are

  after_plain : (a : stmt.Stmt) (env : Env) → IsPlain a env → env_after env a ≡ env
  after_plain (stmt.Declare p b ds) env l = absurd l
  after_plain _ env l = refl

  then_plain : (a : stmt.Stmt) (env : Env) (s : Scope) (x : Stmt) (rest : Stmts) → IsPlain a env → stmt_then env.program a s x rest ≡ Then x rest
  then_plain (stmt.Declare p b ds) env s x rest l = absurd l
  then_plain _ env s x rest l = refl

  names_plain : (a : stmt.Stmt) (env : Env) (s : Scope) → IsPlain a env → names_behind env.program a s ≡ s.names
  names_plain (stmt.Declare p b ds) env s l = absurd l
  names_plain _ env s l = refl

  -- a block is a scope of its own, but for that of a `for`
  by_joins : (b : Bool) (body : stmt.Stmts) (env : Env) (s : Scope) → ((e : Env) → Stood t g sc e s.class s.routine s.names → ArePlain body e → Unbroken (stmts_visits body e) → FineStmts t g sc (stmts_meant e.program body s)) → Stood t g sc env s.class s.routine s.names → ArePlain body (if b then with_around env (with_joins false env.around) else opened env) → Unbroken (stmts_visits body (if b then with_around env (with_joins false env.around) else opened env)) → FineStmts t g sc (stmts_meant env.program body s)
  by_joins true body env s f h l u = f (with_around env (with_joins false env.around)) (joined_stood false env s.class s.routine s.names h) l u
  by_joins false body env s f h l u = f (opened env) (opened_stood env s.class s.routine s.names h) l u

  mutual
    plain : (a : stmt.Stmt) (env : Env) (s : Scope) → Stood t g sc env s.class s.routine s.names → IsPlain a env → Unbroken (stmt_visits a env) → FineStmt t g sc (stmt_meant env.program a s)
    plain (stmt.Block p body) env s h l u = by_joins env.around.joins body env s (λ e. all_plain body e s) h l u
    plain (stmt.Empty p) env s h l u = tt
    plain (stmt.Evaluate p e) env s h l u = evaluated e env s.class s.routine s.names (AtStatement (expr.expr_pos e) (entity_of env e) ∷ []) h l u
    plain (stmt.If p test chosen other) env s h l u =
        ((law_parts t g sc env s.class s.routine s.names h.tied h.known).condition test (first (condition_visits env test) _ u), plain chosen (opened env) s (opened_stood env s.class s.routine s.names h) l.0 (first (stmt_visits chosen (opened env)) _ (second (condition_visits env test) _ u)), maybe_plain other env (scope_past env.program chosen s) h l.1 (second (stmt_visits chosen (opened env)) _ (second (condition_visits env test) _ u)))
    plain (stmt.While p test body) env s h l u =
        ((law_parts t g sc env s.class s.routine s.names h.tied h.known).condition test (first (condition_visits env test) _ u), tt, plain body (opened (looped env)) s (opened_stood (looped env) s.class s.routine s.names (looped_stood env s.class s.routine s.names h)) l (second (condition_visits env test) _ u))
    plain (stmt.Do p body test) env s h l u =
        ((law_parts t g sc env s.class s.routine s.names h.tied h.known).condition test (second (stmt_visits body (opened (looped env))) _ u), tt, plain body (opened (looped env)) s (opened_stood (looped env) s.class s.routine s.names (looped_stood env s.class s.routine s.names h)) l (first (stmt_visits body (opened (looped env))) _ u))
    plain (stmt.For p stmt.NoFor test step body) env s h l u = (tt, (looped_plain test step (opened env) s (stmt_visits body (joined (looped (opened env)))) (stmt_meant env.program body s) (opened_stood env s.class s.routine s.names h) l.1 (plain body (joined (looped (opened env))) s (joined_loop (opened env) s.class s.routine s.names (opened_stood env s.class s.routine s.names h)) l.2) u, tt))
    plain (stmt.For p (stmt.ForDeclare q b ds) test step body) env s h l u = absurd l.0
    plain (stmt.For p (stmt.ForEvaluate e) test step body) env s h l u =
        let o = opened_stood env s.class s.routine s.names h in
        (evaluated e (opened env) s.class s.routine s.names (AtStatement (expr.expr_pos e) (entity_of (opened env) e) ∷ []) o l.0 (first (visits (opened env) e ++ AtStatement (expr.expr_pos e) (entity_of (opened env) e) ∷ []) _ u), (looped_plain test step (opened env) s (stmt_visits body (joined (looped (opened env)))) (stmt_meant env.program body s) o l.1 (plain body (joined (looped (opened env))) s (joined_loop (opened env) s.class s.routine s.names o) l.2) (second (visits (opened env) e ++ AtStatement (expr.expr_pos e) (entity_of (opened env) e) ∷ []) _ u), tt))
    plain (stmt.Break p) env s h l u = tt
    plain (stmt.Continue p) env s h l u = tt
    plain (stmt.Return p None) env s h l u = tt
    plain (stmt.Return p (Some e)) env s h l u =
        ((law_parts t g sc env s.class s.routine s.names h.tied h.known).returned p (shape_of (result_of env.program s.routine)) e u, h.returning (returning p e env u))
    plain (stmt.Print p items) env s h l u = (law_parts t g sc env s.class s.routine s.names h.tied h.known).printed s.texts items u
    plain (stmt.PrintTogether p items) env s h l u =
        (law_parts t g sc env s.class s.routine s.names h.tied h.known).printed s.texts items (first (outs_visits env items) _ u)
    plain (stmt.Read p es) env s h l u = (law_parts t g sc env s.class s.routine s.names h.tied h.known).read es u
    plain (stmt.Resume p) env s h l u =
        switch_by env.around.home env.around (only (may_switch env.around env.around.home) O9 p (one (AtSwitch env p) u)) h.switching
    plain (stmt.Suspend p) env s h l u = tt
    plain (stmt.Yield p) env s h l u = tt
    plain (stmt.Migrate p e) env s h l u =
        (law_parts t g sc env s.class s.routine s.names h.tied h.known).migrated (expr.expr_pos e) e (first (visits env e) _ u) (second (visits env e) _ u)
    plain (stmt.Accept p cs other) env s h l u =
        let v : Unbroken (clauses_visits cs env ++ maybe_stmt_visits other env) = second (AtAccept env p cs ∷ []) (clauses_visits cs env ++ maybe_stmt_visits other env) u in
        let x = else_plain other env (scope_past_clauses env.program cs (within_accept env.program s)) (past_stood cs env (within_accept env.program s) h) l.1 (second (clauses_visits cs env) (maybe_stmt_visits other env) v) in
        let y = clauses_plain cs env (within_accept env.program s) (else_meant env.program other (scope_past_clauses env.program cs (within_accept env.program s))) h l.0 (first (clauses_visits cs env) (maybe_stmt_visits other env) v) x in
        (h.accepting (accepting p cs env (clauses_visits cs env ++ maybe_stmt_visits other env) u), y.0, y.1)
    plain (stmt.Throw p None) env s h l u = tt
    plain (stmt.Throw p (Some r)) env s h l u = absurd l
    plain (stmt.Raise p None) env s h l u = tt
    plain (stmt.Raise p (Some r)) env s h l u = absurd l
    plain (stmt.Try p brace body hs) env s h l u =
        let v : Unbroken (AtHandlers env hs ∷ handlers_visits hs env) = second (stmts_visits body (opened env)) (AtHandlers env hs ∷ handlers_visits hs env) u in
        ((all_plain body (opened env) s (opened_stood env s.class s.routine s.names h) l.0 (first (stmts_visits body (opened env)) (AtHandlers env hs ∷ handlers_visits hs env) u), tt), handlers_plain hs env (scope_past_all env.program body s) h l.1 (second (AtHandlers env hs ∷ []) (handlers_visits hs env) v))
    plain _ env s h l u = absurd l

    handlers_plain : (hs : stmt.Handlers) (env : Env) (s : Scope) → Stood t g sc env s.class s.routine s.names → AreHandlersPlain hs env → Unbroken (handlers_visits hs env) → FineHandlers t g sc (handlers_meant env.program hs s)
    handlers_plain stmt.NoHandlers env s h l u = tt
    handlers_plain (stmt.MoreHandlers (stmt.Handles q kind event None brace body) rest) env s h l u =
        let here : Unbroken (AtCaught (handling env) q None ∷ stmts_visits body (handling env)) = first (AtCaught (handling env) q None ∷ stmts_visits body (handling env)) (handlers_visits rest env) u in
        (all_plain body (handling env) (in_handler env.program (stmt.Handles q kind event None brace body) s) (handled_stood env s.class s.routine s.names h) l.0 (second (AtCaught (handling env) q None ∷ []) (stmts_visits body (handling env)) here), handlers_plain rest env (scope_past_handler env.program (stmt.Handles q kind event None brace body) s) h l.1 (second (AtCaught (handling env) q None ∷ stmts_visits body (handling env)) (handlers_visits rest env) u))
    handlers_plain (stmt.MoreHandlers (stmt.Handles q kind event (Some name) brace body) rest) env s h l u = absurd l

    clauses_plain : (cs : stmt.Clauses) (env : Env) (s : Scope) (other : Clauses) → Stood t g sc env s.class s.routine s.names → AreClausesPlain cs env → Unbroken (clauses_visits cs env) → FineGuards t g sc other × FineClauses t g sc other → FineGuards t g sc (clauses_meant env.program cs s other) × FineClauses t g sc (clauses_meant env.program cs s other)
    clauses_plain stmt.NoClauses env s other h l u f = f
    clauses_plain (stmt.MoreClauses (stmt.Accepts q guard members body) rest) env s other h l u f =
        let here : Unbroken (maybe_condition_visits env guard ++ stmt_visits body (opened env)) = first (maybe_condition_visits env guard ++ stmt_visits body (opened env)) (clauses_visits rest env) u in
        let more = clauses_plain rest env (scope_past_clause env.program (stmt.Accepts q guard members body) s) other h l.1 (second (maybe_condition_visits env guard ++ stmt_visits body (opened env)) (clauses_visits rest env) u) f in
        ((tested guard env s h (first (maybe_condition_visits env guard) (stmt_visits body (opened env)) here), more.0), (plain body (opened env) s (opened_stood env s.class s.routine s.names h) l.0 (second (maybe_condition_visits env guard) (stmt_visits body (opened env)) here), more.1))

    else_plain : (other : stmt.MaybeStmt) (env : Env) (s : Scope) → Stood t g sc env s.class s.routine s.names → IsMaybePlain other env → Unbroken (maybe_stmt_visits other env) → FineGuards t g sc (else_meant env.program other s) × FineClauses t g sc (else_meant env.program other s)
    else_plain stmt.NoStmt env s h l u = (tt, tt)
    else_plain (stmt.OneStmt body) env s h l u = (tt, plain body (opened env) s (opened_stood env s.class s.routine s.names h) l u)

    all_plain : (body : stmt.Stmts) (env : Env) (s : Scope) → Stood t g sc env s.class s.routine s.names → ArePlain body env → Unbroken (stmts_visits body env) → FineStmts t g sc (stmts_meant env.program body s)
    all_plain stmt.NoStmts env s h l u = tt
    all_plain (stmt.MoreStmts a rest) env s h l u =
        let x = plain a env s h l.0 (first (stmt_visits a env) _ u) in
        let v : Unbroken (stmts_visits rest env) = subst (λ e. Unbroken (stmts_visits rest e)) (after_plain a env l.0) (second (stmt_visits a env) _ u) in
        let y = all_plain rest env (scope_after env.program a s) (subst (λ names. Stood t g sc env s.class s.routine names) (sym (names_plain a env s l.0)) h) l.1 v in
        subst (FineStmts t g sc) (sym (then_plain a env s (stmt_meant env.program a s) (stmts_meant env.program rest (scope_after env.program a s)) l.0)) (x, y)

    maybe_plain : (a : stmt.MaybeStmt) (env : Env) (s : Scope) → Stood t g sc env s.class s.routine s.names → IsMaybePlain a env → Unbroken (maybe_stmt_visits a env) → FineStmt t g sc (maybe_meant env.program a s)
    maybe_plain stmt.NoStmt env s h l u = tt
    maybe_plain (stmt.OneStmt body) env s h l u = plain body (opened env) s (opened_stood env s.class s.routine s.names h) l u

pub law_plain : (t : Table) (g : Sig) (sc : List Name) → LawPlain t g sc
law_plain t g sc a env s h l u = plain t g sc a env s h l u
