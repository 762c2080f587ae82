-- What statements and routines of a program stand for names what is known: accept statements are numbered as they stand in its text.
use Rattle.std.proofs.Common.{◌≡◌, ℕ, suc, ◌+◌, ◌<◌, ◌++◌, Bool, true, false, List, [], ◌∷◌, length, map, Option, Some, None, refl, sym, ap, ◌∙◌, subst, arith, length-append}
use Rattle.std.specs.Prelude.{nat_le, option_and_then, unwrap_or, if◌then◌else◌}
use Rattle.std.proofs.lemmas.Bool.{leb-true}
use Rattle.std.proofs.lemmas.List.{length-map}
use Rattle.uc_tree.specs.declared.limits.TheConstants.{EVENTS, LAST_EVENT, UNHANDLED, FAILURE, FIRST_EVENT}
use Rattle.uc_tree.specs.declared.pos.Pos.{Pos}
use Rattle.uc_tree.specs.declared.kinds.Base.{Base}
use Rattle.uc_tree.specs.declared.kinds.Role.{Role}
use Rattle.uc_tree.specs.declared.kinds.Role.TheVariants as role
use Rattle.uc_tree.specs.Names.{same_name}
use Rattle.uc_tree.specs.Cells.{classes_of}
use Rattle.uc_tree.specs.Expressions as expr
use Rattle.uc_tree.specs.Statements as stmt
use Rattle.uc_tree.specs.Statements.{clause_list, Declarator}
use Rattle.uc_tree.specs.Programs.{Program, Site}
use Rattle.uc_tree.specs.Gathered.{gathered, gathered_all, gathered_maybe, gathered_handlers, gathered_clauses}
use Rattle.uc_tree.specs.Numbering.{at_most, place_from, event_names, unhandled_name, failure_name, own_sites, clause_members}
use Rattle.uc_tree.specs.Objects.{Making, APlain, AMutex, ACluster, AProcessor, making, written_at, shape_of}
use Rattle.uc_tree.specs.Source as src
use Rattle.uc_tree.specs.Source.{Shape, Expr, Stmt, Stmts, Clauses, Handlers, Declared, Item, Target, CleanUp, Raised, clause_count}
use Rattle.uc_resolve.specs.Standings as tree
use Rattle.uc_resolve.specs.Standings.{Meant, Context}
use Rattle.uc_resolve.specs.Resolve as meaning
use Rattle.uc_resolve.specs.Resolve.{Scope}
use Rattle.uc_site_laws.specs.Named.{IsSite, NamedExpr, NamedMaybe, NamedItems, NamedTargets, NamedDeclared, NamedClean, NamedRaised, NamedAt, NamedStmt, NamedStmts, NamedHandlers, NamedClauses}
use Rattle.uc_site_laws.proofs.Expressions as expressions
use Rattle.uc_site_laws.proofs.Expressions.{NamedMeant, NamedAll}

-- accept statements that stand among others from a number on

abbrev pub StandAt : List Site → ℕ → List Site → Type 0
StandAt sites n [] = Unit {0}
StandAt sites n (x ∷ xs) = IsSite sites n (length x.clauses) × StandAt sites (n + 1) xs

pub stand_as : (sites : List Site) (n m : ℕ) (xs : List Site) → n ≡ m → StandAt sites n xs → StandAt sites m xs
stand_as sites n m xs e h = subst (λ k. StandAt sites k xs) e h

pub stand_left : (sites : List Site) (n : ℕ) (xs ys : List Site) → StandAt sites n (xs ++ ys) → StandAt sites n xs
stand_left sites n [] ys h = tt
stand_left sites n (x ∷ xs) ys h = (h.0, stand_left sites (n + 1) xs ys h.1)

pub stand_right : (sites : List Site) (n : ℕ) (xs ys : List Site) → StandAt sites n (xs ++ ys) → StandAt sites (n + length xs) ys
stand_right sites n [] ys h = stand_as sites n (n + 0) ys (omega arith) h
stand_right sites n (x ∷ xs) ys h =
    stand_as sites (n + 1 + length xs) (n + suc (length xs)) ys (omega arith) (stand_right sites (n + 1) xs ys h.1)

-- events have numbers

event_small : (p : Program) (name : List ℕ) → meaning.number_of_event p name < EVENTS
event_small p name = by (same_name unhandled_name name) (same_name failure_name name) (place_from FIRST_EVENT (event_names (classes_of p.items)) name)
  where
    most : (n : ℕ) (b : Bool) → nat_le n LAST_EVENT ≡ b → unwrap_or (if b then Some n else None) 0 < EVENTS
    most n true e = let le = leb-true n LAST_EVENT e in omega (arith, le)
    most n false e = omega arith

    last : (o : Option ℕ) → unwrap_or (option_and_then (at_most LAST_EVENT) o) 0 < EVENTS
    last None = omega arith
    last (Some n) = most n (nat_le n LAST_EVENT) refl

    by : (a b : Bool) (o : Option ℕ) → unwrap_or (if a then Some UNHANDLED else if b then Some FAILURE else option_and_then (at_most LAST_EVENT) o) 0 < EVENTS
    by true b o = omega arith
    by false true o = omega arith
    by false false o = last o

-- objects

called_by : (p : Program) (i : ℕ) (wanted : Role) (place : Expr) (args : List Meant) (r : Option ℕ) → NamedExpr place → NamedAll args → NamedExpr (meaning.called_by p i wanted place args r)
called_by p i wanted place args None h k = h
called_by p i wanted place args (Some r) h k = (h, expressions.args_by (tree.params_of p r) args k)

made_by : (p : Program) (i : ℕ) (place : Expr) (args : List Meant) (r : Option ℕ) → NamedExpr place → NamedAll args → NamedExpr (meaning.made_by p i place args r)
made_by p i place args None h k = (h, tt)
made_by p i place args (Some r) h k = (h, expressions.args_by (tree.params_of p r) args k)

ended_by : (p : Program) (i : ℕ) (object : Expr) (r : Option ℕ) → NamedExpr object → NamedExpr (meaning.ended_by p i object r)
ended_by p i object None h = h
ended_by p i object (Some r) h = h

cluster_in : (args : List Meant) → NamedAll args → NamedExpr (meaning.cluster_in args)
cluster_in [] h = tt
cluster_in (m ∷ ms) h = h.0.expr

constructed : (p : Program) (m : Making) (place : Expr) (args : List Meant) → NamedExpr place → NamedAll args → NamedExpr (meaning.constructed p m place args)
constructed p (APlain i) place args h k = called_by p i role.Constructor place args (written_at p i role.Constructor) h k
constructed p (AMutex i) place args h k = made_by p i place args (written_at p i role.Constructor) h k
constructed p ACluster place args h k = (h, tt)
constructed p AProcessor place args h k = (h, cluster_in args k)

destroyed : (p : Program) (m : Making) (place : Expr) → NamedExpr place → NamedExpr (meaning.destroyed p m place)
destroyed p (APlain i) place h = called_by p i role.Destructor place [] (written_at p i role.Destructor) h tt
destroyed p (AMutex i) place h = ended_by p i (src.Load place) (written_at p i role.Destructor) h
destroyed p ACluster place h = h
destroyed p AProcessor place h = h

counted : (p : Program) (m : Making) (n : ℕ) (place : Expr) → NamedExpr place → NamedExpr (meaning.counted_element p m n place)
counted p m n place h = (h, tt)

pub build : (p : Program) (sites : List Site) (line : ℕ) (m : Making) (len : Option ℕ) (place : Expr) (args : List Meant) → NamedExpr place → NamedAll args → NamedStmt sites (meaning.build p line m len place args)
build p sites line m None place args h k = constructed p m place args h k
build p sites line m (Some n) place args h k =
    (constructed p m (meaning.counted_element p m n place) [] (counted p m n place h) tt, destroyed p m (meaning.counted_element p m n place) (counted p m n place h))

pub clean_up : (p : Program) (m : Making) (len : Option ℕ) (place : Expr) → NamedExpr place → NamedClean (meaning.clean_up p m len place)
clean_up p m None place h = destroyed p m place h
clean_up p m (Some n) place h = destroyed p m (meaning.counted_element p m n place) (counted p m n place h)

-- parts of statements

items : (c : Context) (texts : ℕ) (os : List stmt.OutItem) → NamedItems (meaning.items_meant c texts os)
items c texts [] = tt
items c texts (stmt.Endl sign ∷ os) = (tt, items c texts os)
items c texts (stmt.Literal sign text ∷ os) = (tt, items c (texts + 1) os)
items c texts (stmt.Printed sign e ∷ os) = (expressions.value c e, items c texts os)

targets : (c : Context) (es : expr.Exprs) → NamedTargets (meaning.targets_meant c es)
targets c expr.NoExprs = tt
targets c (expr.MoreExprs e es) = ((expressions.meant c e).expr, targets c es)

start : (c : Context) (s : Shape) (x : stmt.Start) → NamedMaybe (meaning.start_meant c s x)
start c s stmt.NoStart = tt
start c s (stmt.StartValue e) = expressions.converted s _ (expressions.value c e)
start c s (stmt.StartArgs expr.NoExprs) = tt
start c s (stmt.StartArgs (expr.MoreExprs e es)) = expressions.converted s _ (expressions.value c e)

module _ (p : Program) where
  -- declarations

  declared : (s : Scope) (b : Base) (ds : List Declarator) → NamedDeclared (meaning.all_declared p s b ds)
  declared s b [] = tt
  declared s b (d ∷ ds) = (start (meaning.context_at p s) (shape_of b) d.start, declared (meaning.with_declared p s b d) b ds)

  start_args : (s : Scope) (x : stmt.Start) → NamedAll (meaning.start_args p s x)
  start_args s stmt.NoStart = tt
  start_args s (stmt.StartValue e) = tt
  start_args s (stmt.StartArgs es) = expressions.args_meant (meaning.context_at p s) es

  with_all_sites : (s : Scope) (b : Base) (ds : List Declarator) → (meaning.with_all p s b ds).sites ≡ s.sites
  with_all_sites s b [] = refl
  with_all_sites s b (d ∷ ds) = with_all_sites (meaning.with_declared p s b d) b ds

  for_scope_sites : (x : stmt.ForStart) (s : Scope) → (meaning.for_scope p x s).sites ≡ s.sites
  for_scope_sites stmt.NoFor s = refl
  for_scope_sites (stmt.ForDeclare place b ds) s = with_all_sites s b ds
  for_scope_sites (stmt.ForEvaluate e) s = refl

  with_event_sites : (param event : Option (List ℕ)) (s : Scope) → (meaning.with_event p param event s).sites ≡ s.sites
  with_event_sites None event s = refl
  with_event_sites (Some name) None s = refl
  with_event_sites (Some name) (Some event) s = refl

  -- events

  built_event : (s : Scope) (n : ℕ) (r : Option ℕ) (args : List Meant) → n < EVENTS → NamedAll args → NamedAt (meaning.built_event p s n r args)
  built_event s n None args h k = h
  built_event s n (Some r) args h k = (h, (tt, expressions.args_by (tree.params_of p r) args k))

  raised_at : (s : Scope) (r : stmt.Raised) → NamedAt (meaning.raised_meant p s (Some r))
  raised_at s r = built_event s (meaning.number_of_event p r.name) (meaning.event_constructor p r.name) (tree.args_meant (meaning.context_at p s) r.args) (event_small p r.name) (expressions.args_meant (meaning.context_at p s) r.args)

  named_at : (r : Raised) → NamedAt r → NamedRaised r
  named_at (src.Plainly n) h = tt
  named_at (src.BuiltAt n c e) h = h.1
  named_at (src.AgainFrom c) h = tt

  raised : (s : Scope) (r : Option stmt.Raised) → NamedRaised (meaning.raised_meant p s r)
  raised s None = tt
  raised s (Some r) = named_at (meaning.raised_meant p s (Some r)) (raised_at s r)

  test : (s : Scope) (e : Option expr.Expr) → NamedExpr (meaning.test_of p s e)
  test s None = tt
  test s (Some e) = expressions.value (meaning.context_at p s) e

  step : (s : Scope) (e : Option expr.Expr) → NamedMaybe (meaning.step_of p s e)
  step s None = tt
  step s (Some e) = (expressions.meant (meaning.context_at p s) e).expr

  returned : (s : Scope) (e : Option expr.Expr) → NamedMaybe (meaning.return_meant p s e)
  returned s None = tt
  returned s (Some e) = expressions.converted (shape_of (tree.result_of p s.routine)) _ (expressions.value (meaning.context_at p s) e)

  module _ (sites : List Site) where
    scoped : (m : Making) (line : ℕ) (b : Base) (d : Declarator) (s : Scope) (rest : Stmts) → NamedStmts sites rest → NamedStmts sites (meaning.object_scoped p m line b d s rest)
    scoped m line b d s rest h =
        ((tt, tt), (build p sites line m (meaning.length_of p d d.len) (src.Variable s.cells) (meaning.start_args p s d.start) tt (start_args s d.start), (clean_up p m (meaning.length_of p d d.len) (src.Variable s.cells) tt, h)))

    all_scoped : (m : Making) (line : ℕ) (b : Base) (ds : List Declarator) (s : Scope) (rest : Stmts) → NamedStmts sites rest → NamedStmts sites (meaning.objects_scoped p m line b ds s rest)
    all_scoped m line b [] s rest h = h
    all_scoped m line b (d ∷ ds) s rest h = scoped m line b d s _ (all_scoped m line b ds (meaning.with_declared p s b d) rest h)

    declared_then : (m : Option Making) (line : ℕ) (b : Base) (ds : List Declarator) (s : Scope) (rest : Stmts) → NamedStmts sites rest → NamedStmts sites (meaning.declared_then p m line b ds s rest)
    declared_then None line b ds s rest h = (declared s b ds, h)
    declared_then (Some m) line b ds s rest h = all_scoped m line b ds s rest h

    declared_alone : (m : Option Making) (line : ℕ) (b : Base) (ds : List Declarator) (s : Scope) → NamedStmt sites (meaning.declared_alone p m line b ds s)
    declared_alone None line b ds s = declared s b ds
    declared_alone (Some m) line b ds s = all_scoped m line b ds s src.Nil tt

    start_then : (line : ℕ) (x : stmt.ForStart) (s : Scope) (rest : Stmts) → NamedStmts sites rest → NamedStmts sites (meaning.start_then p line x s rest)
    start_then line stmt.NoFor s rest h = (tt, h)
    start_then line (stmt.ForDeclare place b ds) s rest h = declared_then (making p b) line b ds s rest h
    start_then line (stmt.ForEvaluate e) s rest h = ((expressions.meant (meaning.context_at p s) e).expr, h)

    stmt_then : (t : stmt.Stmt) (s : Scope) (a : Stmt) (rest : Stmts) → NamedStmt sites a → NamedStmts sites rest → NamedStmts sites (meaning.stmt_then p t s a rest)
    stmt_then (stmt.Declare place b ds) s a rest n h = declared_then (making p b) place.line b ds s rest h
    stmt_then t s a rest n h = (n, h)

  -- what a program gathers of accept statements, whatever their class

  abbrev in_stmt : stmt.Stmt → List Site
  in_stmt t = gathered (own_sites None 0) t

  abbrev in_stmts : stmt.Stmts → List Site
  in_stmts ts = gathered_all (own_sites None 0) ts

  abbrev in_maybe : stmt.MaybeStmt → List Site
  in_maybe t = gathered_maybe (own_sites None 0) t

  abbrev in_handlers : stmt.Handlers → List Site
  in_handlers hs = gathered_handlers (own_sites None 0) hs

  abbrev in_clauses : stmt.Clauses → List Site
  in_clauses cs = gathered_clauses (own_sites None 0) cs

  past_clauses_sites : (cs : stmt.Clauses) (s : Scope) → (meaning.scope_past_clauses p cs s).sites ≡ s.sites + length (in_clauses cs)
  past_clauses_sites stmt.NoClauses s = omega arith
  past_clauses_sites (stmt.MoreClauses (stmt.Accepts place guard members body) rest) s =
      let ih = past_clauses_sites rest (meaning.scope_past p body s) in
      let e = length-append (in_stmt body) (in_clauses rest) in
      ih ∙ omega (arith, e)

  -- as many clauses as are written
  count_clauses : (cs : stmt.Clauses) (s : Scope) (other : Clauses) → clause_count other ≡ 0 → clause_count (meaning.clauses_meant p cs s other) ≡ length (clause_list cs)
  count_clauses stmt.NoClauses s other h = h
  count_clauses (stmt.MoreClauses (stmt.Accepts place guard members body) rest) s other h = ap suc (count_clauses rest (meaning.scope_past_clause p (stmt.Accepts place guard members body) s) other h)

  count_else : (t : stmt.MaybeStmt) (s : Scope) → clause_count (meaning.else_meant p t s) ≡ 0
  count_else stmt.NoStmt s = refl
  count_else (stmt.OneStmt body) s = refl

  module _ (sites : List Site) where
    site : (place : Pos) (cs : stmt.Clauses) (other : stmt.MaybeStmt) (s : Scope) (n : ℕ) → IsSite sites n (length (map (clause_members None) (clause_list cs))) → IsSite sites n (clause_count (meaning.clauses_meant p cs (meaning.within_accept p s) (meaning.else_meant p other (meaning.scope_past_clauses p cs (meaning.within_accept p s)))))
    site place cs other s n h =
        let e = count_clauses cs (meaning.within_accept p s) (meaning.else_meant p other (meaning.scope_past_clauses p cs (meaning.within_accept p s))) (count_else other (meaning.scope_past_clauses p cs (meaning.within_accept p s))) in
        subst (IsSite sites n) (length-map (clause_list cs) (clause_members None) ∙ sym e) h

    mutual
      pub one : (t : stmt.Stmt) (s : Scope) → StandAt sites s.sites (in_stmt t) → NamedStmt sites (meaning.stmt_meant p t s)
      one (stmt.Block place body) s h = all body s h
      one (stmt.Empty place) s h = tt
      one (stmt.Evaluate place e) s h = (expressions.meant (meaning.context_at p s) e).expr
      one (stmt.Declare place b ds) s h = declared_alone sites (making p b) place.line b ds s
      one (stmt.Print place os) s h = items (meaning.context_at p s) s.texts os
      one (stmt.PrintTogether place os) s h = items (meaning.context_at p s) s.texts os
      one (stmt.Read place es) s h = targets (meaning.context_at p s) es
      one (stmt.If place e chosen other) s h =
          (expressions.value (meaning.context_at p s) e, one chosen s (stand_left sites s.sites (in_stmt chosen) (in_maybe other) h), maybe other (meaning.scope_past p chosen s) (stand_right sites s.sites (in_stmt chosen) (in_maybe other) h))
      one (stmt.While place e body) s h = (expressions.value (meaning.context_at p s) e, tt, one body s h)
      one (stmt.Do place body e) s h = (expressions.value (meaning.context_at p s) e, tt, one body s h)
      one (stmt.For place x e f body) s h =
          start_then sites place.line x s _ ((test (meaning.for_scope p x s) e, step (meaning.for_scope p x s) f, one body (meaning.for_scope p x s) (stand_as sites s.sites (meaning.for_scope p x s).sites (in_stmt body) (sym (for_scope_sites x s)) h)), tt)
      one (stmt.Break place) s h = tt
      one (stmt.Continue place) s h = tt
      one (stmt.Return place e) s h = returned s e
      one (stmt.Throw place r) s h = raised s r
      one (stmt.Raise place r) s h = raised s r
      one (stmt.Try place brace body hs) s h =
          ((all body s (stand_left sites s.sites (in_stmts body) (in_handlers hs) h), tt), handlers hs (meaning.scope_past_all p body s) (stand_right sites s.sites (in_stmts body) (in_handlers hs) h))
      one (stmt.Resume place) s h = tt
      one (stmt.Suspend place) s h = tt
      one (stmt.RaiseAt place r target) s h = (raised_at s r, (expressions.meant (meaning.context_at p s) target).expr)
      one (stmt.Enable place events body) s h = one body (meaning.within_events p s) h
      one (stmt.Disable place events body) s h = one body (meaning.within_events p s) h
      one (stmt.Yield place) s h = tt
      one (stmt.Migrate place cluster) s h = (expressions.meant (meaning.context_at p s) cluster).expr
      one (stmt.Accept place cs other) s h =
          let left : StandAt sites (s.sites + 1) (in_clauses cs) = stand_left sites (s.sites + 1) (in_clauses cs) (in_maybe other) h.1 in
          let right : StandAt sites (s.sites + 1 + length (in_clauses cs)) (in_maybe other) = stand_right sites (s.sites + 1) (in_clauses cs) (in_maybe other) h.1 in
          let inner : Scope = meaning.within_accept p s in
          let behind : Scope = meaning.scope_past_clauses p cs inner in
          (site place cs other s s.sites h.0, clauses cs inner (meaning.else_meant p other behind) left (otherwise other behind (stand_as sites _ behind.sites (in_maybe other) (sym (past_clauses_sites cs inner)) right)))

      clauses : (cs : stmt.Clauses) (s : Scope) (other : Clauses) → StandAt sites s.sites (in_clauses cs) → NamedClauses sites other → NamedClauses sites (meaning.clauses_meant p cs s other)
      clauses stmt.NoClauses s other h k = k
      clauses (stmt.MoreClauses (stmt.Accepts place guard members body) rest) s other h k =
          (test s guard, one body s (stand_left sites s.sites (in_stmt body) (in_clauses rest) h), clauses rest (meaning.scope_past p body s) other (stand_right sites s.sites (in_stmt body) (in_clauses rest) h) k)

      otherwise : (t : stmt.MaybeStmt) (s : Scope) → StandAt sites s.sites (in_maybe t) → NamedClauses sites (meaning.else_meant p t s)
      otherwise stmt.NoStmt s h = tt
      otherwise (stmt.OneStmt body) s h = one body s h

      handlers : (hs : stmt.Handlers) (s : Scope) → StandAt sites s.sites (in_handlers hs) → NamedHandlers sites (meaning.handlers_meant p hs s)
      handlers stmt.NoHandlers s h = tt
      handlers (stmt.MoreHandlers (stmt.Handles place kind event param brace body) rest) s h =
          let x : stmt.Handler = stmt.Handles place kind event param brace body in
          (all body (meaning.in_handler p x s) (stand_as sites s.sites (meaning.in_handler p x s).sites (in_stmts body) (sym (with_event_sites param event s)) (stand_left sites s.sites (in_stmts body) (in_handlers rest) h)), handlers rest (meaning.scope_past_handler p x s) (stand_right sites s.sites (in_stmts body) (in_handlers rest) h))

      maybe : (t : stmt.MaybeStmt) (s : Scope) → StandAt sites s.sites (in_maybe t) → NamedStmt sites (meaning.maybe_meant p t s)
      maybe stmt.NoStmt s h = tt
      maybe (stmt.OneStmt body) s h = one body s h

      pub all : (ts : stmt.Stmts) (s : Scope) → StandAt sites s.sites (in_stmts ts) → NamedStmts sites (meaning.stmts_meant p ts s)
      all stmt.NoStmts s h = tt
      all (stmt.MoreStmts t ts) s h =
          stmt_then sites t s (meaning.stmt_meant p t s) (meaning.stmts_meant p ts (meaning.scope_after p t s)) (one t s (stand_left sites s.sites (in_stmt t) (in_stmts ts) h)) (all ts (meaning.scope_after p t s) (stand_right sites s.sites (in_stmt t) (in_stmts ts) h))
