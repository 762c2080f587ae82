-- Statements that break no rule are in order, with all that they declare, raise and handle.
use Rattle.std.proofs.Common.{◌≡◌, ℕ, ◌+◌, ◌≤◌, ◌++◌, inl, inr, List, [], ◌∷◌, length, Option, Some, None, Bool, true, false, refl, sym, ap, ◌∙◌, subst, arith}
use Rattle.std.specs.Prelude.{◌&&◌, ◌||◌, not, slice_get, if◌then◌else◌, nat_eq, is_some, option_map}
use Rattle.std.proofs.lemmas.Bool.{eqb-true}
use Rattle.uc_tree.specs.declared.pos.Pos.{Pos}
use Rattle.uc_tree.specs.declared.kinds.Base.{Base}
use Rattle.uc_tree.specs.declared.kinds.Base.TheVariants as base
use Rattle.uc_tree.specs.declared.kinds.Kind.{Kind}
use Rattle.uc_tree.specs.declared.kinds.Kind.TheVariants as kind
use Rattle.uc_tree.specs.declared.kinds.HandlerKind.{HandlerKind}
use Rattle.uc_tree.specs.declared.kinds.LocalVariable.{LocalVariable}
use Rattle.uc_tree.specs.Cells.{classes_of}
use Rattle.uc_tree.specs.Gathered.{gathered, gathered_all, gathered_maybe, gathered_handlers, gathered_clauses}
use Rattle.uc_tree.specs.Numbering.{is_event, is_given, is_mutex}
use Rattle.uc_tree.specs.Objects.{Making, making, shape_of, event_place}
use Rattle.uc_tree.specs.Expressions as expr
use Rattle.uc_tree.specs.Statements as stmt
use Rattle.uc_tree.specs.Statements.{Declarator}
use Rattle.uc_tree.specs.Programs.{Program}
use Rattle.uc_tree.specs.Source.{Variable, Stmt, Stmts, Nil, Then, Loop, Clauses}
use Rattle.uc_resolve.specs.Standings as tree
use Rattle.uc_resolve.specs.Standings.{meant, params_of, args_by, args_meant, known_meant, known_by, result_of}
use Rattle.uc_resolve.specs.Resolve.{Scope, with_declared, with_all, scope_after, scope_past, scope_past_all, within_accept, scope_past_clause, scope_past_clauses, within_events, event_constructor, number_of_event, built_event, in_handler, scope_past_handler, declared_then, declared_alone, test_of, step_of, order_of, stmt_then, names_behind, stmt_meant, stmts_meant, maybe_meant, clauses_meant, else_meant, handlers_meant}
use Rattle.uc_rules.specs.declared.rule.Rule.TheVariants.{S12, S21, S22, O9}
use Rattle.uc_rules.specs.declared.rules.Surroundings.{Surroundings}
use Rattle.uc_rules.specs.declared.rules.Entity.{Entity}
use Rattle.uc_rules.specs.declared.rules.Entity.TheVariants as entity
use Rattle.uc_rules.specs.declared.rules.OwnClass.{OwnClass}
use Rattle.uc_rules.specs.declared.rules.Origin.TheVariants as origin
use Rattle.uc_rules.specs.declared.rules.Sort.{Sort}
use Rattle.uc_rules.specs.declared.rules.Sort.TheVariants as sort
use Rattle.uc_rules.specs.declared.rules.Target.TheVariants as target
use Rattle.uc_rules.specs.Asked.{unless, of_sort}
use Rattle.uc_rules.specs.Sorts.{class_named, sort_of}
use Rattle.uc_rules.specs.Names.{constructor_params}
use Rattle.uc_rules.specs.Scopes.{Env, opened, with_around, with_joins, in_loop, in_handler as around_handler, with_caught, caught_entity, event_named, event_sort, event_among, place_of, declared, all_declared, env_after}
use Rattle.uc_rules.specs.Entities.{entity_of, count, param_expected}
use Rattle.uc_rules.specs.ExpressionBreaks.{return_breaks, bad_clause, handlers_breaks, is_event_or_all, behind_all, is_catch, raise_breaks, event_takes}
use Rattle.uc_rules.specs.OwnerBreaks.{may_switch, may_switch_in, may_accept}
use Rattle.uc_rules.specs.Visits.{Visit, AtBase, AtReturn, AtSwitch, AtAccept, AtHandlers, AtCaught, AtEvent, AtRaise, AtRaiseTarget, visits, args_visits, condition_visits, maybe_condition_visits, statement_visits, maybe_statement_visits, return_visits, outs_visits, variables_visits, declaration_visits, event_target, event_class_target, raised_visits, events_visits, stmt_visits, stmts_visits, maybe_stmt_visits, handlers_visits, clauses_visits, looped, joined, handling}
use Rattle.uc_rules.specs.Breaks.{breaks_at}
use Rattle.uc_typing.specs.Typing.{Ty, Num, Obj, Raw, Name, Kept, Sig, Table, MayCall, Executing, IsPlaced, Among, Yields, GiveAll, Fine, FineStep, FineLoop, FineGuards, FineRaised, FineClauses, FineHandlers, FineStmt, FineStmts, object_ty, IsBare}
use Rattle.uc_sound.specs.Agreement.{Agrees, AgreesIf, context}
use Rattle.uc_sound.specs.Declarations.{StoodBy}
use Rattle.uc_sound.specs.Parts.{Parts}
use Rattle.uc_sound.specs.Unbroken.{Unbroken}
use Rattle.uc_sound.proofs.Ties.{some_same, none_some, false_true}
use Rattle.uc_sound.proofs.UnbrokenLemmas.{none_left, none_right, first, second, one, holds}
use Rattle.uc_sound.proofs.Asking.{only, law_parts}
use Rattle.uc_sound.proofs.DeclarationsLemmas.{law_declared}
use Rattle.uc_sound.specs.SoundFormed.{nameless, own_nameless}
use Rattle.uc_sound.specs.Tables.{event_locals, raised_locals, caught_ty, caught_locals, declared_locals, stmt_locals, stmts_locals, maybe_locals, handler_locals, handlers_locals, clauses_locals}
use Rattle.uc_sound.specs.Rooted.{IsStood, Rooted, Within}
use Rattle.uc_sound.specs.Statements.{Holds, IsBehind, LawStatements}
use Rattle.uc_sound.proofs.Lists.{left_is}
use Rattle.uc_sound.proofs.Visited.{base_known}
use Rattle.uc_sound.proofs.ClassNames.{event_sorted, sorted_event, class_of_base}
use Rattle.uc_sound.proofs.GivingLemmas.{tied, known, gives}
use Rattle.uc_sound.proofs.DeclaringLemmas.{made, making_is, within_more, within_wider}
use Rattle.uc_sound.proofs.ObjectLemmas.{scalars, objects}

nil_left : {A : Type 0} (xs ys : List A) → xs ++ ys ≡ [] → xs ≡ []
nil_left [] ys h = refl
nil_left (x ∷ xs) ys h = absurd (cc)

nil_right : {A : Type 0} (xs ys : List A) → xs ++ ys ≡ [] → ys ≡ []
nil_right [] ys h = h
nil_right (x ∷ xs) ys h = absurd (cc)

among_left : (xs ys : List (ℕ × Ty)) (k : ℕ) (a : Ty) → Among xs k a → Among (xs ++ ys) k a
among_left [] ys k a m = absurd m
among_left (x ∷ xs) ys k a (inl e) = inl e
among_left (x ∷ xs) ys k a (inr m) = inr (among_left xs ys k a m)

among_right : (xs ys : List (ℕ × Ty)) (k : ℕ) (a : Ty) → Among ys k a → Among (xs ++ ys) k a
among_right [] ys k a m = m
among_right (x ∷ xs) ys k a m = inr (among_right xs ys k a m)

module _ (g : Sig) where
  holds_left : (xs ys : List (ℕ × Ty)) → Holds g (xs ++ ys) → Holds g xs
  holds_left xs ys h k a m = h k a (among_left xs ys k a m)

  holds_right : (xs ys : List (ℕ × Ty)) → Holds g (xs ++ ys) → Holds g ys
  holds_right xs ys h k a m = h k a (among_right xs ys k a m)

  behind_more : (s r : Scope) → s.cells ≤ r.cells → s.hidden ≤ r.hidden → IsBehind g s → IsBehind g r
  behind_more s r c h b = let x = b.cells in let y = b.hidden in record { cells = omega (arith, x, c); hidden = omega (arith, y, h) }

-- declarations change names and cells alone

declared_program : (b : Base) (ds : List Declarator) (env : Env) → (all_declared env b ds).program ≡ env.program
declared_program b [] env = refl
declared_program b (d ∷ ds) env = declared_program b ds (declared env b d)

all_class : (p : Program) (b : Base) (ds : List Declarator) (s : Scope) → (with_all p s b ds).class ≡ s.class
all_class p b [] s = refl
all_class p b (d ∷ ds) s = all_class p b ds (with_declared p s b d)

all_behind : (g : Sig) (p : Program) (b : Base) (ds : List Declarator) (s : Scope) → IsBehind g s → IsBehind g (with_all p s b ds)
all_behind g p b [] s h = h
all_behind g p b (d ∷ ds) s h = all_behind g p b ds (with_declared p s b d) (behind_more g s (with_declared p s b d) (omega arith) (omega arith) h)

module _ (t : Table) (g : Sig) where
  -- what stands round a statement within another one

  joins_rooted : (z : Bool) (p : Program) (a : Surroundings) (class : Option ℕ) → Rooted t g p a class → Rooted t g p (with_joins z a) class
  joins_rooted z p a class h = record { told = h.told; refers = h.refers; classes = h.classes; tasks = h.tasks; inside = h.inside; names = h.names; stood = h.stood; member = h.member; members = h.members; results = h.results; returning = h.returning; switching = h.switching; accepting = h.accepting }

  loop_rooted : (p : Program) (a : Surroundings) (class : Option ℕ) → Rooted t g p a class → Rooted t g p (in_loop a) class
  loop_rooted p a class h = record { told = h.told; refers = h.refers; classes = h.classes; tasks = h.tasks; inside = h.inside; names = h.names; stood = h.stood; member = h.member; members = h.members; results = h.results; returning = h.returning; switching = h.switching; accepting = h.accepting }

  handler_rooted : (p : Program) (a : Surroundings) (class : Option ℕ) → Rooted t g p a class → Rooted t g p (around_handler a) class
  handler_rooted p a class h = record { told = h.told; refers = h.refers; classes = h.classes; tasks = h.tasks; inside = h.inside; names = h.names; stood = h.stood; member = h.member; members = h.members; results = h.results; returning = h.returning; switching = h.switching; accepting = h.accepting }

  module _ (sc : List Name) (env : Env) (class : Option ℕ) (names : List LocalVariable) (h : Within t g sc env class names) where
    in_opened : Within t g sc (opened env) class names
    in_opened = record { rooted = joins_rooted false env.program env.around class h.rooted; alike = h.alike; stood = h.stood }

    in_joins : (z : Bool) → Within t g sc (with_around env (with_joins z env.around)) class names
    in_joins z = record { rooted = joins_rooted z env.program env.around class h.rooted; alike = h.alike; stood = h.stood }

    in_looped : Within t g sc (looped env) class names
    in_looped = record { rooted = loop_rooted env.program env.around class h.rooted; alike = h.alike; stood = h.stood }

    in_handling : Within t g sc (handling env) class names
    in_handling = record { rooted = joins_rooted false env.program (around_handler env.around) class (handler_rooted env.program env.around class h.rooted); alike = h.alike; stood = h.stood }

  parts : (sc : List Name) (env : Env) (s : Scope) → Within t g sc env s.class s.names → Parts t g sc env s.class s.routine s.names
  parts sc env s h = law_parts t g sc env s.class s.routine s.names (tied t g sc env s.class s.routine s.names h) (known t g sc env s.class s.routine s.names h)

  evaluated : (sc : List Name) (env : Env) (s : Scope) → Within t g sc env s.class s.names → (e : expr.Expr) → Unbroken (statement_visits env e) → Fine t g sc (meant (context env s.class s.routine s.names) e).expr
  evaluated sc env s h e u = gives t g sc env s.class s.routine s.names h e (first (visits env e) _ u)

  tested : (sc : List Name) (test : Option expr.Expr) (env : Env) (s : Scope) → Within t g sc env s.class s.names → Unbroken (maybe_condition_visits env test) → Yields t g sc (test_of env.program s test) Num
  tested sc None env s h u = refl
  tested sc (Some e) env s h u = (parts sc env s h).condition e u

  steps : (sc : List Name) (step : Option expr.Expr) (env : Env) (s : Scope) → Within t g sc env s.class s.names → Unbroken (maybe_statement_visits env step) → FineStep t g sc (step_of env.program s step)
  steps sc None env s h u = tt
  steps sc (Some e) env s h u = evaluated sc env s h e u

  loop : (sc : List Name) (test step : Option expr.Expr) (env : Env) (s : Scope) (vs : List Visit) (b : Stmt) → Within t g sc env s.class s.names → (Unbroken vs → FineStmt t g sc b) → Unbroken (maybe_condition_visits env test ++ (maybe_statement_visits env step ++ vs)) → FineLoop t g sc (test_of env.program s test) (step_of env.program s step) b
  loop sc test step env s vs b h f u =
      let v = second (maybe_condition_visits env test) (maybe_statement_visits env step ++ vs) u in
      (tested sc test env s h (first (maybe_condition_visits env test) (maybe_statement_visits env step ++ vs) u), steps sc step env s h (first (maybe_statement_visits env step) vs v), f (second (maybe_statement_visits env step) vs v))

  -- returns, switches, accepting

  returns_by : (b : Bool) (w : Option Entity) (p : Pos) → return_breaks b (Some w) p ≡ [] → b ≡ true
  returns_by true w p h = refl
  returns_by false w p h = only false S12 p h

  returning : (p : Pos) (e : expr.Expr) (env : Env) → Unbroken (return_visits env p (Some e)) → env.around.returns ≡ true
  returning p e env u =
      let b : breaks_at (AtReturn env p (Some (entity_of env e))) ≡ [] = one (AtReturn env p (Some (entity_of env e))) (second (visits env e) _ u) in
      returns_by env.around.returns (entity_of env e) p (none_left (return_breaks env.around.returns (Some (entity_of env e)) p) _ b)

  switch_by : (o : Option OwnClass) (a : Surroundings) → may_switch a o ≡ true → ((h : OwnClass) → o ≡ Some h → may_switch_in a.inner h ≡ true → Executing t g) → Executing t g
  switch_by None a h f = false_true h
  switch_by (Some x) a h f = f x refl h

  accepts : (p : Pos) (cs : stmt.Clauses) (env : Env) (vs : List Visit) → Unbroken (AtAccept env p cs ∷ vs) → may_accept env.around ≡ true
  accepts p cs env vs u =
      only (may_accept env.around) O9 p (none_right (bad_clause (AtAccept env p cs)) _ (one (AtAccept env p cs) (first (AtAccept env p cs ∷ []) vs u)))

  -- events

  event_plain : (p : Program) (a : Surroundings) (class : Option ℕ) → Rooted t g p a class → (name : List ℕ) (i : ℕ) (k : Kind) → class_named p name ≡ Some (sort.Object i k) → is_event k ≡ true → t.mutex i ≡ false
  event_plain p a class h name i k e v = h.classes (base.Named name) i k e ∙ by k v
    where
      by : (k : Kind) → is_event k ≡ true → is_mutex k ≡ false
      by kind.Event v = refl
      by kind.Class v = false_true v
      by kind.Coroutine v = false_true v
      by kind.Monitor v = false_true v
      by kind.Cormonitor v = false_true v
      by kind.Task v = false_true v

  raised_fine : (sc : List Name) (env : Env) (s : Scope) (q : Pos) (r : stmt.Raised) → Within t g sc env s.class s.names → IsBehind g s → Holds g (raised_locals env.program (Some r) s) → Unbroken (raised_visits env q r) → FineRaised t g sc (built_event env.program s (number_of_event env.program r.name) (event_constructor env.program r.name) (args_meant (context env s.class s.routine s.names) r.args))
  raised_fine sc env s q r h b held u = by (event_constructor env.program r.name) refl
    where
      p : Program
      p = env.program

      args : Unbroken (args_visits env r.args (event_target env r.name) 0 ++ AtRaise env q r.name (count r.args) ∷ [])
      args = second (AtEvent env r.pos r.name ∷ []) (args_visits env r.args (event_target env r.name) 0 ++ AtRaise env q r.name (count r.args) ∷ []) u

      built : (c i : ℕ) → class_named p r.name ≡ Some (sort.Object i kind.Event) → is_given r.name ≡ false → event_constructor p r.name ≡ Some c → FineRaised t g sc (built_event p s (number_of_event p r.name) (Some c) (args_meant (context env s.class s.routine s.names) r.args))
      built c i e n f =
          let place : event_place p (base.Named r.name) ≡ Some i = sorted_event (classes_of p.items) 0 r.name i kind.Event e refl in
          let tells = h.rooted.told.events i c r.name place f in
          let whole = h.rooted.told.events_whole i c r.name place f in
          let local : Among g.locals s.hidden (Raw i) = subst (λ o. Holds g (event_locals s.hidden o)) place held s.hidden (Raw i) (inl (refl, refl)) in
          let y : Yields t g sc (Variable s.hidden) (Raw i) = (inr (inr (local, tt)), event_plain p env.around s.class h.rooted r.name i kind.Event e refl) in
          let sorts : event_sort p r.name ≡ Some (sort.Object i kind.Event) = ap event_among e in
          let to : event_target env r.name ≡ target.Constructor i = ap event_class_target sorts in
          let a : Unbroken (args_visits env r.args (target.Constructor i) 0) = subst (λ z. Unbroken (args_visits env r.args z 0)) to (first (args_visits env r.args (event_target env r.name) 0) (AtRaise env q r.name (count r.args) ∷ []) args) in
          let k : raise_breaks env q r.name (count r.args) ++ _ ≡ [] = one (AtRaise env q r.name (count r.args)) (second (args_visits env r.args (event_target env r.name) 0) (AtRaise env q r.name (count r.args) ∷ []) args) in
          let m : (if is_given r.name then unless (nat_eq (count r.args) 0) S22 q else of_sort (event_sort p r.name) (event_takes p (count r.args)) S22 q) ≡ [] = none_left (raise_breaks env q r.name (count r.args)) _ k in
          let w : unless (nat_eq (count r.args) (length (constructor_params p i))) S22 q ≡ [] = subst (λ o. of_sort o (event_takes p (count r.args)) S22 q ≡ []) sorts (subst (λ (z : Bool). (if z then unless (nat_eq (count r.args) 0) S22 q else of_sort (event_sort p r.name) (event_takes p (count r.args)) S22 q) ≡ []) n m) in
          let number = eqb-true (count r.args) (length (constructor_params p i)) (only (nat_eq (count r.args) (length (constructor_params p i))) S22 q w) in
          let all = (parts sc env s h).arguments r.args (target.Constructor i) (constructor_params p i) (params_of p c) number (λ z. ap (λ z. param_expected p (slice_get (constructor_params p i) z)) (let q : 0 + z ≡ z = omega arith in q)) tells.params a in
          (b.hidden, (Num, (refl, (i, subst (λ w. Yields t g sc (Variable s.hidden) (object_ty w i)) (sym whole) y, tells.this, tells.known), subst (GiveAll t g sc (args_by (params_of p c) (args_meant (context env s.class s.routine s.names) r.args))) tells.table all, subst (λ w. MayCall w g (Variable s.hidden)) (sym (h.rooted.told.events_apart i c r.name place f)) tt)))

      by : (o : Option ℕ) → event_constructor p r.name ≡ o → FineRaised t g sc (built_event p s (number_of_event p r.name) o (args_meant (context env s.class s.routine s.names) r.args))
      by None f = tt
      by (Some c) f = let e = h.rooted.told.raised c r.name f in built c e.0 e.1 e.2 f

  -- a handler's parameter

  abbrev param_of : List ℕ → List ℕ → ℕ → LocalVariable
  param_of name event cell = record { name = name; ty = tree.scalar (base.Named event); cell = cell }

  caught_placed : (p : Program) (a : Surroundings) (class : Option ℕ) → Rooted t g p a class → (event : List ℕ) (o : Option ℕ) → event_place p (base.Named event) ≡ o → IsPlaced t (caught_ty o)
  caught_placed p a class h event None e = tt
  caught_placed p a class h event (Some i) e = let r = event_sorted (classes_of p.items) 0 event i e in event_plain p a class h event i r.0 r.1 r.2

  event_bare : (p : Program) (a : Surroundings) (class : Option ℕ) → Rooted t g p a class → (event : List ℕ) (i : ℕ) (k : Kind) → class_named p event ≡ Some (sort.Object i k) → is_event k ≡ true → IsBare t (Obj i)
  event_bare p a class h event i k e v = let c = class_of_base p (base.Named event) i k e in h.told.bare i c.0 c.1 (ap is_event c.2 ∙ v)

  caught_bare : (p : Program) (a : Surroundings) (class : Option ℕ) → Rooted t g p a class → (event : List ℕ) (o : Option ℕ) → event_place p (base.Named event) ≡ o → IsBare t (caught_ty o)
  caught_bare p a class h event None e = tt
  caught_bare p a class h event (Some i) e = let r = event_sorted (classes_of p.items) 0 event i e in event_bare p a class h event i r.0 r.1 r.2

  caught_fine : (sc : List Name) (p : Program) (a : Surroundings) (class : Option ℕ) → Rooted t g p a class → (name event : List ℕ) (cell : ℕ) → Among g.locals cell (caught_ty (event_place p (base.Named event))) → (z : Bool) → Fine t g sc (known_by z (param_of name event cell)).expr
  caught_fine sc p a class h name event cell m true = (Num, inr (inl refl))
  caught_fine sc p a class h name event cell m false =
      (caught_ty (event_place p (base.Named event)), (inr (inr (m, caught_bare p a class h event (event_place p (base.Named event)) refl)), caught_placed p a class h event (event_place p (base.Named event)) refl))

  caught_agrees : (sc : List Name) (p : Program) (a : Surroundings) (class : Option ℕ) → Rooted t g p a class → (name event : List ℕ) (cell : ℕ) → Among g.locals cell (caught_ty (event_place p (base.Named event))) → (z : Bool) → AgreesIf t g sc p (if z then Some entity.ClassName else option_map place_of (event_sort p event)) (known_meant p (param_of name event cell))
  caught_agrees sc p a class h name event cell m true w q =
      subst (λ w. Agrees t g sc p w (known_meant p (param_of name event cell))) (some_same q) (caught_fine sc p a class h name event cell m (tree.has_number p (tree.scalar (base.Named event))))
  caught_agrees sc p a class h name event cell m false w q = by (class_named p event) refl q
    where
      event_agrees : (i : ℕ) (k : Kind) → class_named p event ≡ Some (sort.Object i k) → (z : Bool) → is_event k ≡ z → option_map place_of (if z then Some (sort.Object i k) else None) ≡ Some w → Agrees t g sc p w (known_meant p (param_of name event cell))
      event_agrees i k e false v q = none_some q
      event_agrees i k e true v q =
          let place : event_place p (base.Named event) ≡ Some i = sorted_event (classes_of p.items) 0 event i k e v in
          let local : Among g.locals cell (Obj i) = subst (λ o. Among g.locals cell (caught_ty o)) place m in
          let plain = event_plain p a class h event i k e v in
          let numbered : is_mutex k ≡ false = sym (h.classes (base.Named event) i k e) ∙ plain in
          subst (λ w. Agrees t g sc p w (known_meant p (param_of name event cell))) (some_same q) ((law_declared t g sc h.refers p).variable (param_of name event cell) (sort.Object i k) e refl refl refl (subst (λ n. StoodBy t g sc n cell (Obj i)) (sym numbered) (inr (inr (local, event_bare p a class h event i k e v)), plain)))

      by_sort : (s : Sort) → class_named p event ≡ Some s → option_map place_of (event_among (Some s)) ≡ Some w → Agrees t g sc p w (known_meant p (param_of name event cell))
      by_sort (sort.Object i k) e q = event_agrees i k e (is_event k) refl q
      by_sort sort.Void e q = none_some q
      by_sort sort.Int e q = none_some q
      by_sort sort.Char e q = none_some q
      by_sort sort.Bool e q = none_some q
      by_sort sort.Condition e q = none_some q
      by_sort sort.Cluster e q = none_some q
      by_sort sort.Processor e q = none_some q

      by : (o : Option Sort) → class_named p event ≡ o → option_map place_of (event_among o) ≡ Some w → Agrees t g sc p w (known_meant p (param_of name event cell))
      by None e q = none_some q
      by (Some s) e q = by_sort s e q

  caught_stood : (p : Program) (event : List ℕ) → is_some (event_named p event) ≡ true → IsStood (event_named p event)
  caught_stood p event h = by (is_given event) h
    where
      place : (o : Option Sort) → is_some (option_map place_of o) ≡ true → IsStood (option_map place_of o)
      place None h = false_true h
      place (Some s) h = tt

      by : (z : Bool) → is_some (if z then Some entity.ClassName else option_map place_of (event_sort p event)) ≡ true → IsStood (if z then Some entity.ClassName else option_map place_of (event_sort p event))
      by true h = tt
      by false h = place (event_sort p event) h

  -- where the body of a handler stands
  in_caught : (sc : List Name) (env : Env) (s : Scope) (q : Pos) (k : HandlerKind) (event param : Option (List ℕ)) (brace : Pos) (body : stmt.Stmts) → Within t g sc env s.class s.names → is_event_or_all env.program event ≡ true → nameless (stmt.MoreHandlers (stmt.Handles q k event param brace body) stmt.NoHandlers) ≡ [] → Holds g (caught_locals env.program param event s) → Within t g sc (with_caught env event param) (in_handler env.program (stmt.Handles q k event param brace body) s).class (in_handler env.program (stmt.Handles q k event param brace body) s).names
  in_caught sc env s q k event None brace body h v n held = h
  in_caught sc env s q k None (Some name) brace body h v n held = absurd (cc)
  in_caught sc env s q k (Some event) (Some name) brace body h v n held =
      let m : Among g.locals (s.hidden + 1) (caught_ty (event_place env.program (base.Named event))) = held (s.hidden + 1) (caught_ty (event_place env.program (base.Named event))) (inl (refl, refl)) in
      within_more t g h.rooted.refers sc env s.class s.names (record { name = name; meant = record { entity = caught_entity env.program (Some event); origin = origin.Local } }) (param_of name event (s.hidden + 1)) refl (caught_agrees sc env.program env.around s.class h.rooted name event (s.hidden + 1) m (is_given event)) (caught_stood env.program event v) h

  caught_program : (env : Env) (event param : Option (List ℕ)) → (with_caught env event param).program ≡ env.program
  caught_program env event None = refl
  caught_program env event (Some name) = refl

  caught_behind : (p : Program) (q : Pos) (k : HandlerKind) (event param : Option (List ℕ)) (brace : Pos) (body : stmt.Stmts) (s : Scope) → IsBehind g s → IsBehind g (in_handler p (stmt.Handles q k event param brace body) s)
  caught_behind p q k event None brace body s b = behind_more g s (in_handler p (stmt.Handles q k event None brace body) s) (omega arith) (omega arith) b
  caught_behind p q k None (Some name) brace body s b = behind_more g s (in_handler p (stmt.Handles q k None (Some name) brace body) s) (omega arith) (omega arith) b
  caught_behind p q k (Some event) (Some name) brace body s b =
      behind_more g s (in_handler p (stmt.Handles q k (Some event) (Some name) brace body) s) (omega arith) (omega arith) b

  nameless_one : (q : Pos) (k : HandlerKind) (event param : Option (List ℕ)) (brace : Pos) (body : stmt.Stmts) (rest : stmt.Handlers) → nameless (stmt.MoreHandlers (stmt.Handles q k event param brace body) rest) ≡ [] → (nameless (stmt.MoreHandlers (stmt.Handles q k event param brace body) stmt.NoHandlers) ≡ []) × (nameless rest ≡ [])
  nameless_one q k None None brace body rest n = (refl, n)
  nameless_one q k None (Some name) brace body rest n = absurd (cc)
  nameless_one q k (Some event) param brace body rest n = (refl, n)

  -- a block is a scope of its own, but for that of a `for`
  by_joins : (z : Bool) (body : stmt.Stmts) (sc : List Name) (env : Env) (s : Scope) → ((e : Env) → e.program ≡ env.program → Within t g sc e s.class s.names → Unbroken (stmts_visits body e) → FineStmts t g sc (stmts_meant e.program body s)) → Within t g sc env s.class s.names → Unbroken (stmts_visits body (if z then with_around env (with_joins false env.around) else opened env)) → FineStmts t g sc (stmts_meant env.program body s)
  by_joins true body sc env s f h u = f (with_around env (with_joins false env.around)) refl (in_joins sc env s.class s.names h false) u
  by_joins false body sc env s f h u = f (opened env) refl (in_opened sc env s.class s.names h) u

  -- behind clauses the names are as before
  past_clauses : (cs : stmt.Clauses) (sc : List Name) (env : Env) (s : Scope) → Within t g sc env s.class s.names → Within t g sc env (scope_past_clauses env.program cs s).class (scope_past_clauses env.program cs s).names
  past_clauses stmt.NoClauses sc env s h = h
  past_clauses (stmt.MoreClauses (stmt.Accepts q guard members body) rest) sc env s h =
      past_clauses rest sc env (scope_past_clause env.program (stmt.Accepts q guard members body) s) h

  clauses_behind : (p : Program) (cs : stmt.Clauses) (s : Scope) → IsBehind g s → IsBehind g (scope_past_clauses p cs s)
  clauses_behind p stmt.NoClauses s b = b
  clauses_behind p (stmt.MoreClauses (stmt.Accepts q guard members body) rest) s b =
      clauses_behind p rest (scope_past_clause p (stmt.Accepts q guard members body) s) (behind_more g s (scope_past p body s) (omega arith) (omega arith) b)

  -- a declaration, and what follows it in its scope
  declared_fine : (sc : List Name) (env : Env) (s : Scope) (q : Pos) (line : ℕ) (b : Base) (ds : List Declarator) (rest : Stmts) → Within t g sc env s.class s.names → IsBehind g s → Holds g (declared_locals env.program b ds s) → Unbroken (declaration_visits env q b ds) → ((sc : List Name) → Within t g sc (all_declared env b ds) s.class (with_all env.program s b ds).names → FineStmts t g sc rest) → FineStmts t g sc (declared_then env.program (making env.program b) line b ds s rest)
  declared_fine sc env s q line b ds rest h i held u f =
      let p = env.program in
      let k = base_known env q b (one (AtBase env q b) (first (AtBase env q b ∷ []) (variables_visits env b ds) u)) in
      subst (λ o. FineStmts t g sc (declared_then p o line b ds s rest)) (sym (making_is p b k.0 k.1)) (by k.0 (made k.0) refl k.1)
    where
      v : Unbroken (variables_visits env b ds)
      v = second (AtBase env q b ∷ []) (variables_visits env b ds) u

      by : (so : Sort) (o : Option Making) → made so ≡ o → sort_of env.program b ≡ Some so → FineStmts t g sc (declared_then env.program o line b ds s rest)
      by so None m k = let r = scalars t g h.rooted.refers sc b so ds env s h i.cells held k m v in (r.0, f sc r.1)
      by so (Some x) m k = objects t g h.rooted.refers b so x line rest ds sc env s h i.cells held k m v f

  -- one that is the statement of another one
  alone_fine : (sc : List Name) (env : Env) (s : Scope) (q : Pos) (line : ℕ) (b : Base) (ds : List Declarator) → Within t g sc env s.class s.names → IsBehind g s → Holds g (declared_locals env.program b ds s) → Unbroken (declaration_visits env q b ds) → FineStmt t g sc (declared_alone env.program (making env.program b) line b ds s)
  alone_fine sc env s q line b ds h i held u =
      let p = env.program in
      let k = base_known env q b (one (AtBase env q b) (first (AtBase env q b ∷ []) (variables_visits env b ds) u)) in
      subst (λ o. FineStmt t g sc (declared_alone p o line b ds s)) (sym (making_is p b k.0 k.1)) (by k.0 (made k.0) refl k.1)
    where
      v : Unbroken (variables_visits env b ds)
      v = second (AtBase env q b ∷ []) (variables_visits env b ds) u

      by : (so : Sort) (o : Option Making) → made so ≡ o → sort_of env.program b ≡ Some so → FineStmt t g sc (declared_alone env.program o line b ds s)
      by so None m k = (scalars t g h.rooted.refers sc b so ds env s h i.cells held k m v).0
      by so (Some x) m k = objects t g h.rooted.refers b so x line Nil ds sc env s h i.cells held k m v (λ sc w. tt)

  -- no declaration

  abbrev IsOther : stmt.Stmt → Type 0
  IsOther (stmt.Declare q b ds) = ⊥
  IsOther _ = Unit {0}

  other_env : (a : stmt.Stmt) (env : Env) → IsOther a → env_after env a ≡ env
  other_env (stmt.Declare q b ds) env l = absurd l
  other_env _ env l = refl

  other_then : (a : stmt.Stmt) (p : Program) (s : Scope) (x : Stmt) (rest : Stmts) → IsOther a → stmt_then p a s x rest ≡ Then x rest
  other_then (stmt.Declare q b ds) p s x rest l = absurd l
  other_then _ p s x rest l = refl

  other_names : (a : stmt.Stmt) (p : Program) (s : Scope) → IsOther a → names_behind p a s ≡ s.names
  other_names (stmt.Declare q b ds) p s l = absurd l
  other_names _ p s l = refl

  -- a statement that declares nothing, and what follows it
  other_fine : (a : stmt.Stmt) (rest : stmt.Stmts) (sc : List Name) (env : Env) (s : Scope) → IsOther a → Within t g sc env s.class s.names → FineStmt t g sc (stmt_meant env.program a s) → ((e : Env) → e ≡ env → Within t g sc e s.class (scope_after e.program a s).names → Unbroken (stmts_visits rest e) → FineStmts t g sc (stmts_meant e.program rest (scope_after e.program a s))) → Unbroken (stmts_visits rest (env_after env a)) → FineStmts t g sc (stmt_then env.program a s (stmt_meant env.program a s) (stmts_meant env.program rest (scope_after env.program a s)))
  other_fine a rest sc env s l h x f u =
      let w = subst (λ names. Within t g sc env s.class names) (sym (other_names a env.program s l)) h in
      let y = f env refl w (subst (λ e. Unbroken (stmts_visits rest e)) (other_env a env l) u) in
      subst (FineStmts t g sc) (sym (other_then a env.program s (stmt_meant env.program a s) (stmts_meant env.program rest (scope_after env.program a s)) l)) (x, y)

  mutual
    stmt_fine : (a : stmt.Stmt) (sc : List Name) (env : Env) (s : Scope) → Within t g sc env s.class s.names → IsBehind g s → Holds g (stmt_locals env.program a s) → gathered own_nameless a ≡ [] → Unbroken (stmt_visits a env) → FineStmt t g sc (stmt_meant env.program a s)
    stmt_fine (stmt.Block q body) sc env s h i held n u =
        by_joins env.around.joins body sc env s (λ e r w v. stmts_fine body sc e s w i (subst (λ z. Holds g (stmts_locals z body s)) (sym r) held) n v) h u
    stmt_fine (stmt.Empty q) sc env s h i held n u = tt
    stmt_fine (stmt.Evaluate q e) sc env s h i held n u = evaluated sc env s h e u
    stmt_fine (stmt.Declare q b ds) sc env s h i held n u = alone_fine sc env s q q.line b ds h i held u
    stmt_fine (stmt.If q test chosen other) sc env s h i held n u =
        let p = env.program in
        let v = second (condition_visits env test) (stmt_visits chosen (opened env) ++ maybe_stmt_visits other env) u in
        ((parts sc env s h).condition test (first (condition_visits env test) (stmt_visits chosen (opened env) ++ maybe_stmt_visits other env) u), stmt_fine chosen sc (opened env) s (in_opened sc env s.class s.names h) i (holds_left g (stmt_locals p chosen s) (maybe_locals p other (scope_past p chosen s)) held) (nil_left (gathered own_nameless chosen) (gathered_maybe own_nameless other) n) (first (stmt_visits chosen (opened env)) (maybe_stmt_visits other env) v), maybe_fine other sc env (scope_past p chosen s) h (behind_more g s (scope_past p chosen s) (omega arith) (omega arith) i) (holds_right g (stmt_locals p chosen s) (maybe_locals p other (scope_past p chosen s)) held) (nil_right (gathered own_nameless chosen) (gathered_maybe own_nameless other) n) (second (stmt_visits chosen (opened env)) (maybe_stmt_visits other env) v))
    stmt_fine (stmt.While q test body) sc env s h i held n u =
        ((parts sc env s h).condition test (first (condition_visits env test) _ u), tt, stmt_fine body sc (opened (looped env)) s (in_opened sc (looped env) s.class s.names (in_looped sc env s.class s.names h)) i held n (second (condition_visits env test) _ u))
    stmt_fine (stmt.Do q body test) sc env s h i held n u =
        ((parts sc env s h).condition test (second (stmt_visits body (opened (looped env))) _ u), tt, stmt_fine body sc (opened (looped env)) s (in_opened sc (looped env) s.class s.names (in_looped sc env s.class s.names h)) i held n (first (stmt_visits body (opened (looped env))) _ u))
    stmt_fine (stmt.For q stmt.NoFor test step body) sc env s h i held n u =
        let o = in_opened sc env s.class s.names h in
        (tt, (loop sc test step (opened env) s (stmt_visits body (joined (looped (opened env)))) (stmt_meant env.program body s) o (stmt_fine body sc (joined (looped (opened env))) s (in_joins sc (looped (opened env)) s.class s.names (in_looped sc (opened env) s.class s.names o) true) i held n) u, tt))
    stmt_fine (stmt.For q (stmt.ForEvaluate e) test step body) sc env s h i held n u =
        let o = in_opened sc env s.class s.names h in
        (evaluated sc (opened env) s o e (first (statement_visits (opened env) e) _ u), (loop sc test step (opened env) s (stmt_visits body (joined (looped (opened env)))) (stmt_meant env.program body s) o (stmt_fine body sc (joined (looped (opened env))) s (in_joins sc (looped (opened env)) s.class s.names (in_looped sc (opened env) s.class s.names o) true) i held n) (second (statement_visits (opened env) e) _ u), tt))
    stmt_fine (stmt.For q (stmt.ForDeclare r b ds) test step body) sc env s h i held n u =
        let p = env.program in
        let o = in_opened sc env s.class s.names h in
        let e = all_declared (opened env) b ds in
        let k = with_all p s b ds in
        let same = declared_program b ds (opened env) in
        let v = second (declaration_visits (opened env) r b ds) (maybe_condition_visits e test ++ (maybe_statement_visits e step ++ stmt_visits body (joined (looped e)))) u in
        declared_fine sc (opened env) s r q.line b ds (Then (Loop q.line (order_of p test) (test_of p k test) (step_of p k step) (stmt_meant p body k)) Nil) o i (holds_left g (declared_locals p b ds s) (stmt_locals p body k) held) (first (declaration_visits (opened env) r b ds) (maybe_condition_visits e test ++ (maybe_statement_visits e step ++ stmt_visits body (joined (looped e)))) u) (λ sc w. let w1 = subst (λ class. Within t g sc e class k.names) (sym (all_class p b ds s)) w in (subst (λ z. FineLoop t g sc (test_of z k test) (step_of z k step) (stmt_meant z body k)) same (loop sc test step e k (stmt_visits body (joined (looped e))) (stmt_meant e.program body k) w1 (stmt_fine body sc (joined (looped e)) k (in_joins sc (looped e) k.class k.names (in_looped sc e k.class k.names w1) true) (all_behind g p b ds s i) (subst (λ z. Holds g (stmt_locals z body k)) (sym same) (holds_right g (declared_locals p b ds s) (stmt_locals p body k) held)) n) v), tt))
    stmt_fine (stmt.Break q) sc env s h i held n u = tt
    stmt_fine (stmt.Continue q) sc env s h i held n u = tt
    stmt_fine (stmt.Return q None) sc env s h i held n u = tt
    stmt_fine (stmt.Return q (Some e)) sc env s h i held n u =
        ((parts sc env s h).returned q (shape_of (result_of env.program s.routine)) e u, h.rooted.returning (returning q e env u))
    stmt_fine (stmt.Print q items) sc env s h i held n u = (parts sc env s h).printed s.texts items u
    stmt_fine (stmt.PrintTogether q items) sc env s h i held n u = (parts sc env s h).printed s.texts items (first (outs_visits env items) _ u)
    stmt_fine (stmt.Read q es) sc env s h i held n u = (parts sc env s h).read es u
    stmt_fine (stmt.Resume q) sc env s h i held n u =
        switch_by env.around.home env.around (only (may_switch env.around env.around.home) O9 q (one (AtSwitch env q) u)) h.rooted.switching
    stmt_fine (stmt.Suspend q) sc env s h i held n u = tt
    stmt_fine (stmt.Yield q) sc env s h i held n u = tt
    stmt_fine (stmt.Migrate q e) sc env s h i held n u =
        (parts sc env s h).migrated (expr.expr_pos e) e (first (visits env e) _ u) (second (visits env e) _ u)
    stmt_fine (stmt.Throw q None) sc env s h i held n u = tt
    stmt_fine (stmt.Throw q (Some r)) sc env s h i held n u = raised_fine sc env s q r h i held u
    stmt_fine (stmt.Raise q None) sc env s h i held n u = tt
    stmt_fine (stmt.Raise q (Some r)) sc env s h i held n u = raised_fine sc env s q r h i held u
    stmt_fine (stmt.RaiseAt q r target) sc env s h i held n u =
        let v = second (raised_visits env q r) (visits env target ++ AtRaiseTarget (expr.expr_pos target) (entity_of env target) ∷ []) u in
        (raised_fine sc env s q r h i held (first (raised_visits env q r) (visits env target ++ AtRaiseTarget (expr.expr_pos target) (entity_of env target) ∷ []) u), (parts sc env s h).raised_at (expr.expr_pos target) target (first (visits env target) _ v) (second (visits env target) _ v))
    stmt_fine (stmt.Enable q events body) sc env s h i held n u =
        stmt_fine body (Kept ∷ sc) (opened env) (within_events env.program s) (in_opened (Kept ∷ sc) env s.class s.names (within_wider t g h.rooted.refers Kept sc env s.class s.names h)) (behind_more g s (within_events env.program s) (omega arith) (omega arith) i) held n (second (events_visits env events) _ u)
    stmt_fine (stmt.Disable q events body) sc env s h i held n u =
        stmt_fine body (Kept ∷ sc) (opened env) (within_events env.program s) (in_opened (Kept ∷ sc) env s.class s.names (within_wider t g h.rooted.refers Kept sc env s.class s.names h)) (behind_more g s (within_events env.program s) (omega arith) (omega arith) i) held n (second (events_visits env events) _ u)
    stmt_fine (stmt.Accept q cs other) sc env s h i held n u =
        let p = env.program in
        let w = within_accept p s in
        let k = scope_past_clauses p cs w in
        let v : Unbroken (clauses_visits cs env ++ maybe_stmt_visits other env) = second (AtAccept env q cs ∷ []) (clauses_visits cs env ++ maybe_stmt_visits other env) u in
        let x = else_fine other sc env k (past_clauses cs sc env w h) (clauses_behind p cs w (behind_more g s w (omega arith) (omega arith) i)) (holds_right g (clauses_locals p cs w) (maybe_locals p other k) held) (nil_right (gathered_clauses own_nameless cs) (gathered_maybe own_nameless other) n) (second (clauses_visits cs env) (maybe_stmt_visits other env) v) in
        let y = clauses_fine cs sc env w (else_meant p other k) h (behind_more g s w (omega arith) (omega arith) i) (holds_left g (clauses_locals p cs w) (maybe_locals p other k) held) (nil_left (gathered_clauses own_nameless cs) (gathered_maybe own_nameless other) n) (first (clauses_visits cs env) (maybe_stmt_visits other env) v) x in
        (h.rooted.accepting (accepts q cs env (clauses_visits cs env ++ maybe_stmt_visits other env) u), y.0, y.1)
    stmt_fine (stmt.Try q brace body hs) sc env s h i held n u =
        let p = env.program in
        let k = scope_past_all p body s in
        let v : Unbroken (AtHandlers env hs ∷ handlers_visits hs env) = second (stmts_visits body (opened env)) (AtHandlers env hs ∷ handlers_visits hs env) u in
        let r = none_left (handlers_breaks p false false hs) _ (one (AtHandlers env hs) (first (AtHandlers env hs ∷ []) (handlers_visits hs env) v)) in
        let m = nil_left (nameless hs ++ gathered_all own_nameless body) (gathered_handlers own_nameless hs) n in
        ((stmts_fine body sc (opened env) s (in_opened sc env s.class s.names h) i (holds_left g (stmts_locals p body s) (handlers_locals p hs k) held) (nil_right (nameless hs) (gathered_all own_nameless body) m) (first (stmts_visits body (opened env)) (AtHandlers env hs ∷ handlers_visits hs env) u), tt), handlers_fine hs false false sc env k h (behind_more g s k (omega arith) (omega arith) i) (holds_right g (stmts_locals p body s) (handlers_locals p hs k) held) (nil_left (nameless hs) (gathered_all own_nameless body) m) (nil_right (nameless hs ++ gathered_all own_nameless body) (gathered_handlers own_nameless hs) n) r (second (AtHandlers env hs ∷ []) (handlers_visits hs env) v))

    stmts_fine : (body : stmt.Stmts) (sc : List Name) (env : Env) (s : Scope) → Within t g sc env s.class s.names → IsBehind g s → Holds g (stmts_locals env.program body s) → gathered_all own_nameless body ≡ [] → Unbroken (stmts_visits body env) → FineStmts t g sc (stmts_meant env.program body s)
    stmts_fine stmt.NoStmts sc env s h i held n u = tt
    stmts_fine (stmt.MoreStmts (stmt.Declare q b ds) rest) sc env s h i held n u =
        let p = env.program in
        let k = scope_after p (stmt.Declare q b ds) s in
        let e = all_declared env b ds in
        let same = declared_program b ds env in
        declared_fine sc env s q q.line b ds (stmts_meant p rest k) h i (holds_left g (declared_locals p b ds s) (stmts_locals p rest k) held) (first (declaration_visits env q b ds) (stmts_visits rest e) u) (λ sc w. subst (λ z. FineStmts t g sc (stmts_meant z rest k)) same (stmts_fine rest sc e k w (behind_more g s k (omega arith) (omega arith) i) (subst (λ z. Holds g (stmts_locals z rest k)) (sym same) (holds_right g (declared_locals p b ds s) (stmts_locals p rest k) held)) n (second (declaration_visits env q b ds) (stmts_visits rest e) u)))
    stmts_fine (stmt.MoreStmts a rest) sc env s h i held n u =
        let p = env.program in
        let k = scope_after p a s in
        other_fine a rest sc env s tt h (stmt_fine a sc env s h i (holds_left g (stmt_locals p a s) (stmts_locals p rest k) held) (nil_left (gathered own_nameless a) (gathered_all own_nameless rest) n) (first (stmt_visits a env) (stmts_visits rest (env_after env a)) u)) (λ e q w v. stmts_fine rest sc e (scope_after e.program a s) w (behind_more g s (scope_after e.program a s) (omega arith) (omega arith) i) (subst (λ (z : Env). Holds g (stmts_locals z.program rest (scope_after z.program a s))) (sym q) (holds_right g (stmt_locals p a s) (stmts_locals p rest k) held)) (nil_right (gathered own_nameless a) (gathered_all own_nameless rest) n) v) (second (stmt_visits a env) (stmts_visits rest (env_after env a)) u)

    maybe_fine : (a : stmt.MaybeStmt) (sc : List Name) (env : Env) (s : Scope) → Within t g sc env s.class s.names → IsBehind g s → Holds g (maybe_locals env.program a s) → gathered_maybe own_nameless a ≡ [] → Unbroken (maybe_stmt_visits a env) → FineStmt t g sc (maybe_meant env.program a s)
    maybe_fine stmt.NoStmt sc env s h i held n u = tt
    maybe_fine (stmt.OneStmt body) sc env s h i held n u = stmt_fine body sc (opened env) s (in_opened sc env s.class s.names h) i held n u

    else_fine : (a : stmt.MaybeStmt) (sc : List Name) (env : Env) (s : Scope) → Within t g sc env s.class s.names → IsBehind g s → Holds g (maybe_locals env.program a s) → gathered_maybe own_nameless a ≡ [] → Unbroken (maybe_stmt_visits a env) → FineGuards t g sc (else_meant env.program a s) × FineClauses t g sc (else_meant env.program a s)
    else_fine stmt.NoStmt sc env s h i held n u = (tt, tt)
    else_fine (stmt.OneStmt body) sc env s h i held n u = (tt, stmt_fine body sc (opened env) s (in_opened sc env s.class s.names h) i held n u)

    clauses_fine : (cs : stmt.Clauses) (sc : List Name) (env : Env) (s : Scope) (other : Clauses) → Within t g sc env s.class s.names → IsBehind g s → Holds g (clauses_locals env.program cs s) → gathered_clauses own_nameless cs ≡ [] → Unbroken (clauses_visits cs env) → FineGuards t g sc other × FineClauses t g sc other → FineGuards t g sc (clauses_meant env.program cs s other) × FineClauses t g sc (clauses_meant env.program cs s other)
    clauses_fine stmt.NoClauses sc env s other h i held n u f = f
    clauses_fine (stmt.MoreClauses (stmt.Accepts q guard members body) rest) sc env s other h i held n u f =
        let p = env.program in
        let k = scope_past_clause p (stmt.Accepts q guard members body) s in
        let here : Unbroken (maybe_condition_visits env guard ++ stmt_visits body (opened env)) = first (maybe_condition_visits env guard ++ stmt_visits body (opened env)) (clauses_visits rest env) u in
        let more = clauses_fine rest sc env k other h (behind_more g s k (omega arith) (omega arith) i) (holds_right g (stmt_locals p body s) (clauses_locals p rest k) held) (nil_right (gathered own_nameless body) (gathered_clauses own_nameless rest) n) (second (maybe_condition_visits env guard ++ stmt_visits body (opened env)) (clauses_visits rest env) u) f in
        ((tested sc guard env s h (first (maybe_condition_visits env guard) (stmt_visits body (opened env)) here), more.0), (stmt_fine body sc (opened env) s (in_opened sc env s.class s.names h) i (holds_left g (stmt_locals p body s) (clauses_locals p rest k) held) (nil_left (gathered own_nameless body) (gathered_clauses own_nameless rest) n) (second (maybe_condition_visits env guard) (stmt_visits body (opened env)) here), more.1))

    handlers_fine : (hs : stmt.Handlers) (x y : Bool) (sc : List Name) (env : Env) (s : Scope) → Within t g sc env s.class s.names → IsBehind g s → Holds g (handlers_locals env.program hs s) → nameless hs ≡ [] → gathered_handlers own_nameless hs ≡ [] → handlers_breaks env.program x y hs ≡ [] → Unbroken (handlers_visits hs env) → FineHandlers t g sc (handlers_meant env.program hs s)
    handlers_fine stmt.NoHandlers x y sc env s h i held n m r u = tt
    handlers_fine (stmt.MoreHandlers (stmt.Handles q kind event param brace body) rest) x y sc env s h i held n m r u =
        let p = env.program in
        let c = stmt.Handles q kind event param brace body in
        let k = scope_past_handler p c s in
        let w = in_handler p c s in
        let here : Unbroken (AtCaught (handling env) q param ∷ stmts_visits body (with_caught (handling env) event param)) = first (AtCaught (handling env) q param ∷ stmts_visits body (with_caught (handling env) event param)) (handlers_visits rest env) u in
        let ok : is_event_or_all p event ≡ true = left_is (is_event_or_all p event) (not (behind_all x y kind)) (holds (is_event_or_all p event && not (behind_all x y kind)) S21 q _ r) in
        let own = holds_left g (handler_locals p c s) (handlers_locals p rest k) held in
        let names = nameless_one q kind event param brace body rest n in
        let inner = in_caught sc (handling env) s q kind event param brace body (in_handling sc env s.class s.names h) ok names.0 (holds_left g (caught_locals p param event s) (stmts_locals p body w) own) in
        let same = caught_program (handling env) event param in
        let body_fine = stmts_fine body sc (with_caught (handling env) event param) w inner (caught_behind p q kind event param brace body s i) (subst (λ z. Holds g (stmts_locals z body w)) (sym same) (holds_right g (caught_locals p param event s) (stmts_locals p body w) own)) (nil_left (gathered_all own_nameless body) (gathered_handlers own_nameless rest) m) (second (AtCaught (handling env) q param ∷ []) (stmts_visits body (with_caught (handling env) event param)) here) in
        (subst (λ z. FineStmts t g sc (stmts_meant z body w)) same body_fine, handlers_fine rest (x || (is_catch kind && not (is_some event))) (y || (not (is_catch kind) && not (is_some event))) sc env k h (behind_more g s k (omega arith) (omega arith) i) (holds_right g (handler_locals p c s) (handlers_locals p rest k) held) names.1 (nil_right (gathered_all own_nameless body) (gathered_handlers own_nameless rest) m) (none_right (unless (is_event_or_all p event && not (behind_all x y kind)) S21 q) _ r) (second (AtCaught (handling env) q param ∷ stmts_visits body (with_caught (handling env) event param)) (handlers_visits rest env) u))

pub law_statements : (t : Table) (g : Sig) → LawStatements t g
law_statements t g body sc env s h i held n u = stmts_fine t g body sc env s h i held n u
