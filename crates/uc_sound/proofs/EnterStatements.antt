-- What statements of a program stand for calls nothing that holds its object, but where it enters that, and lets go of no object.
use Rattle.std.proofs.Common.{◌≡◌, ℕ, ◌+◌, List, [], ◌∷◌, Option, Some, None, false, refl}
use Rattle.uc_tree.specs.declared.kinds.Base.{Base}
use Rattle.uc_tree.specs.declared.kinds.Role.{Role}
use Rattle.uc_tree.specs.declared.kinds.Role.TheVariants as role
use Rattle.uc_tree.specs.Expressions as expr
use Rattle.uc_tree.specs.Statements as stmt
use Rattle.uc_tree.specs.Statements.{Declarator}
use Rattle.uc_tree.specs.Numbering.{is_plain}
use Rattle.uc_tree.specs.Programs.{Program}
use Rattle.uc_tree.specs.Objects.{Making, APlain, AMutex, ACluster, AProcessor, making, written_at, shape_of}
use Rattle.uc_tree.specs.Source as src
use Rattle.uc_tree.specs.Source.{Shape, Expr, Stmt, Stmts, Clauses}
use Rattle.uc_resolve.specs.Standings as tree
use Rattle.uc_resolve.specs.Standings.{Meant}
use Rattle.uc_resolve.specs.Resolve as meaning
use Rattle.uc_resolve.specs.Resolve.{Scope, source_of}
use Rattle.uc_rules.specs.ProgramVisits.{program_visits}
use Rattle.uc_sound.specs.Unbroken.{Unbroken}
use Rattle.uc_sound.specs.SoundFormed.{IsFormed}
use Rattle.uc_depth_laws.specs.Entering.{lets_go, EnteredExpr, EnteredMaybe, EnteredItems, EnteredTargets, EnteredDeclared, EnteredClean, EnteredRaised, EnteredStmt, EnteredStmts, EnteredHandlers, EnteredClauses}
use Rattle.uc_sound.proofs.Lookups.{IsObjectClass, IsPlainClass, MakesPlain, making_plain, event_free, written_free, unwritten_free, written_building, unwritten_building}
use Rattle.uc_sound.proofs.Expressions as expressions
use Rattle.uc_sound.proofs.Expressions.{MeantEntered, AllMeant}

module _ (p : Program) (formed : IsFormed p) (u : Unbroken (program_visits p)) where
  -- objects

  called_by : (i : ℕ) (wanted : Role) (place : Expr) (args : List Meant) (r : Option ℕ) → IsPlainClass p i → is_plain wanted ≡ false → written_at p i wanted ≡ r → EnteredExpr (source_of p) place → AllMeant p args → EnteredExpr (source_of p) (meaning.called_by p i wanted place args r)
  called_by i wanted place args None c w e h k = (unwritten_free p formed u i wanted c w e, h)
  called_by i wanted place args (Some r) c w e h k = (written_free p formed u i r wanted c w e, h, expressions.args_by p formed u (tree.params_of p r) args k)

  made_by : (i : ℕ) (place : Expr) (args : List Meant) (r : Option ℕ) → EnteredExpr (source_of p) place → AllMeant p args → EnteredExpr (source_of p) (meaning.made_by p i place args r)
  made_by i place args None h k = (h, tt)
  made_by i place args (Some r) h k = (h, expressions.args_by p formed u (tree.params_of p r) args k)

  ended_by : (i : ℕ) (object : Expr) (r : Option ℕ) → IsObjectClass p i → written_at p i role.Destructor ≡ r → EnteredExpr (source_of p) object → EnteredExpr (source_of p) (meaning.ended_by p i object r)
  ended_by i object None c e h = (unwritten_building p formed u i c e, h)
  ended_by i object (Some r) c e h = (written_building p formed u i r c e, h)

  cluster_in : (args : List Meant) → AllMeant p args → EnteredExpr (source_of p) (meaning.cluster_in args)
  cluster_in [] h = tt
  cluster_in (m ∷ ms) h = h.0.expr

  constructed : (m : Making) (place : Expr) (args : List Meant) → MakesPlain p (Some m) → EnteredExpr (source_of p) place → AllMeant p args → EnteredExpr (source_of p) (meaning.constructed p m place args)
  constructed (APlain i) place args c h k = called_by i role.Constructor place args (written_at p i role.Constructor) c refl refl h k
  constructed (AMutex i) place args c h k = made_by i place args (written_at p i role.Constructor) h k
  constructed ACluster place args c h k = (h, tt)
  constructed AProcessor place args c h k = (h, cluster_in args k)

  destroyed : (m : Making) (place : Expr) → MakesPlain p (Some m) → EnteredExpr (source_of p) place → EnteredExpr (source_of p) (meaning.destroyed p m place)
  destroyed (APlain i) place c h = called_by i role.Destructor place [] (written_at p i role.Destructor) c refl refl h tt
  destroyed (AMutex i) place c h = ended_by i (src.Load place) (written_at p i role.Destructor) c refl h
  destroyed ACluster place c h = h
  destroyed AProcessor place c h = h

  counted : (m : Making) (n : ℕ) (place : Expr) → EnteredExpr (source_of p) place → EnteredExpr (source_of p) (meaning.counted_element p m n place)
  counted m n place h = (h, tt)

  pub build : (line : ℕ) (m : Making) (len : Option ℕ) (place : Expr) (args : List Meant) → MakesPlain p (Some m) → EnteredExpr (source_of p) place → AllMeant p args → EnteredStmt (source_of p) (meaning.build p line m len place args)
  build line m None place args c h k = constructed m place args c h k
  build line m (Some n) place args c h k =
      (constructed m (meaning.counted_element p m n place) [] c (counted m n place h) tt, destroyed m (meaning.counted_element p m n place) c (counted m n place h))

  pub clean_up : (m : Making) (len : Option ℕ) (place : Expr) → MakesPlain p (Some m) → EnteredExpr (source_of p) place → EnteredClean (source_of p) (meaning.clean_up p m len place)
  clean_up m None place c h = destroyed m place c h
  clean_up m (Some n) place c h = destroyed m (meaning.counted_element p m n place) c (counted m n place h)

  -- what cleans up an object lets go of none
  pub clean_up_stays : (m : Making) (len : Option ℕ) (place : Expr) → lets_go (meaning.clean_up p m len place) ≡ false
  clean_up_stays m None place = refl
  clean_up_stays m (Some n) place = refl

  -- expressions in a scope
  pub meant : (s : Scope) (e : expr.Expr) → MeantEntered p (tree.meant (meaning.context_at p s) e)
  meant s e = expressions.meant p formed u s.class s.routine s.names e

  pub value : (s : Scope) (e : expr.Expr) → EnteredExpr (source_of p) (tree.value_in_scope (meaning.context_at p s) e)
  value s e = expressions.value p formed u s.class s.routine s.names e

  pub args : (s : Scope) (es : expr.Exprs) → AllMeant p (tree.args_meant (meaning.context_at p s) es)
  args s es = expressions.args_meant p formed u s.class s.routine s.names es

  -- parts of statements

  items : (s : Scope) (texts : ℕ) (os : List stmt.OutItem) → EnteredItems (source_of p) (meaning.items_meant (meaning.context_at p s) texts os)
  items s texts [] = tt
  items s texts (stmt.Endl sign ∷ os) = (tt, items s texts os)
  items s texts (stmt.Literal sign text ∷ os) = (tt, items s (texts + 1) os)
  items s texts (stmt.Printed sign e ∷ os) = (value s e, items s texts os)

  targets : (s : Scope) (es : expr.Exprs) → EnteredTargets (source_of p) (meaning.targets_meant (meaning.context_at p s) es)
  targets s expr.NoExprs = tt
  targets s (expr.MoreExprs e es) = ((meant s e).expr, targets s es)

  start : (s : Scope) (k : Shape) (x : stmt.Start) → EnteredMaybe (source_of p) (meaning.start_meant (meaning.context_at p s) k x)
  start s k stmt.NoStart = tt
  start s k (stmt.StartValue e) = expressions.converted p formed u k _ (value s e)
  start s k (stmt.StartArgs expr.NoExprs) = tt
  start s k (stmt.StartArgs (expr.MoreExprs e es)) = expressions.converted p formed u k _ (value s e)

  -- declarations

  declared : (s : Scope) (b : Base) (ds : List Declarator) → EnteredDeclared (source_of p) (meaning.all_declared p s b ds)
  declared s b [] = tt
  declared s b (d ∷ ds) = (start s (shape_of b) d.start, declared (meaning.with_declared p s b d) b ds)

  start_args : (s : Scope) (x : stmt.Start) → AllMeant p (meaning.start_args p s x)
  start_args s stmt.NoStart = tt
  start_args s (stmt.StartValue e) = tt
  start_args s (stmt.StartArgs es) = args s es

  -- events

  built_event : (s : Scope) (name : List ℕ) (n : ℕ) (r : Option ℕ) (ms : List Meant) → meaning.event_constructor p name ≡ r → AllMeant p ms → EnteredRaised (source_of p) (meaning.built_event p s n r ms)
  built_event s name n None ms e k = tt
  built_event s name n (Some r) ms e k = (event_free p formed u r name e, tt, expressions.args_by p formed u (tree.params_of p r) ms k)

  raised : (s : Scope) (r : Option stmt.Raised) → EnteredRaised (source_of p) (meaning.raised_meant p s r)
  raised s None = tt
  raised s (Some r) = built_event s r.name (meaning.number_of_event p r.name) (meaning.event_constructor p r.name) (tree.args_meant (meaning.context_at p s) r.args) refl (args s r.args)

  test : (s : Scope) (e : Option expr.Expr) → EnteredExpr (source_of p) (meaning.test_of p s e)
  test s None = tt
  test s (Some e) = value s e

  step : (s : Scope) (e : Option expr.Expr) → EnteredMaybe (source_of p) (meaning.step_of p s e)
  step s None = tt
  step s (Some e) = (meant s e).expr

  returned : (s : Scope) (e : Option expr.Expr) → EnteredMaybe (source_of p) (meaning.return_meant p s e)
  returned s None = tt
  returned s (Some e) = expressions.converted p formed u (shape_of (tree.result_of p s.routine)) _ (value s e)

  scoped : (m : Making) (line : ℕ) (b : Base) (d : Declarator) (s : Scope) (rest : Stmts) → MakesPlain p (Some m) → EnteredStmts (source_of p) rest → EnteredStmts (source_of p) (meaning.object_scoped p m line b d s rest)
  scoped m line b d s rest c h =
      ((tt, tt), (build line m (meaning.length_of p d d.len) (src.Variable s.cells) (meaning.start_args p s d.start) c tt (start_args s d.start), (clean_up_stays m (meaning.length_of p d d.len) (src.Variable s.cells), clean_up m (meaning.length_of p d d.len) (src.Variable s.cells) c tt, h)))

  all_scoped : (m : Making) (line : ℕ) (b : Base) (ds : List Declarator) (s : Scope) (rest : Stmts) → MakesPlain p (Some m) → EnteredStmts (source_of p) rest → EnteredStmts (source_of p) (meaning.objects_scoped p m line b ds s rest)
  all_scoped m line b [] s rest c h = h
  all_scoped m line b (d ∷ ds) s rest c h = scoped m line b d s _ c (all_scoped m line b ds (meaning.with_declared p s b d) rest c h)

  declared_then : (m : Option Making) (line : ℕ) (b : Base) (ds : List Declarator) (s : Scope) (rest : Stmts) → MakesPlain p m → EnteredStmts (source_of p) rest → EnteredStmts (source_of p) (meaning.declared_then p m line b ds s rest)
  declared_then None line b ds s rest c h = (declared s b ds, h)
  declared_then (Some m) line b ds s rest c h = all_scoped m line b ds s rest c h

  declared_alone : (m : Option Making) (line : ℕ) (b : Base) (ds : List Declarator) (s : Scope) → MakesPlain p m → EnteredStmt (source_of p) (meaning.declared_alone p m line b ds s)
  declared_alone None line b ds s c = declared s b ds
  declared_alone (Some m) line b ds s c = all_scoped m line b ds s src.Nil c tt

  start_then : (line : ℕ) (x : stmt.ForStart) (s : Scope) (rest : Stmts) → EnteredStmts (source_of p) rest → EnteredStmts (source_of p) (meaning.start_then p line x s rest)
  start_then line stmt.NoFor s rest h = (tt, h)
  start_then line (stmt.ForDeclare place b ds) s rest h = declared_then (making p b) line b ds s rest (making_plain p b) h
  start_then line (stmt.ForEvaluate e) s rest h = ((meant s e).expr, h)

  stmt_then : (t : stmt.Stmt) (s : Scope) (a : Stmt) (rest : Stmts) → EnteredStmt (source_of p) a → EnteredStmts (source_of p) rest → EnteredStmts (source_of p) (meaning.stmt_then p t s a rest)
  stmt_then (stmt.Declare place b ds) s a rest n h = declared_then (making p b) place.line b ds s rest (making_plain p b) h
  stmt_then t s a rest n h = (n, h)

  mutual
    pub one : (t : stmt.Stmt) (s : Scope) → EnteredStmt (source_of p) (meaning.stmt_meant p t s)
    one (stmt.Block place body) s = all body s
    one (stmt.Empty place) s = tt
    one (stmt.Evaluate place e) s = (meant s e).expr
    one (stmt.Declare place b ds) s = declared_alone (making p b) place.line b ds s (making_plain p b)
    one (stmt.Print place os) s = items s s.texts os
    one (stmt.PrintTogether place os) s = items s s.texts os
    one (stmt.Read place es) s = targets s es
    one (stmt.If place e chosen other) s = (value s e, one chosen s, maybe other (meaning.scope_past p chosen s))
    one (stmt.While place e body) s = (value s e, tt, one body s)
    one (stmt.Do place body e) s = (value s e, tt, one body s)
    one (stmt.For place x e f body) s =
        start_then place.line x s _ ((test (meaning.for_scope p x s) e, step (meaning.for_scope p x s) f, one body (meaning.for_scope p x s)), tt)
    one (stmt.Break place) s = tt
    one (stmt.Continue place) s = tt
    one (stmt.Return place e) s = returned s e
    one (stmt.Throw place r) s = raised s r
    one (stmt.Raise place r) s = raised s r
    one (stmt.Try place brace body hs) s = ((all body s, tt), handlers hs (meaning.scope_past_all p body s))
    one (stmt.Resume place) s = tt
    one (stmt.Suspend place) s = tt
    one (stmt.RaiseAt place r target) s = (raised s (Some r), (meant s target).expr)
    one (stmt.Enable place events body) s = one body (meaning.within_events p s)
    one (stmt.Disable place events body) s = one body (meaning.within_events p s)
    one (stmt.Yield place) s = tt
    one (stmt.Migrate place cluster) s = (meant s cluster).expr
    one (stmt.Accept place cs other) s =
        let inner : Scope = meaning.within_accept p s in
        let behind : Scope = meaning.scope_past_clauses p cs inner in
        clauses cs inner (meaning.else_meant p other behind) (otherwise other behind)

    clauses : (cs : stmt.Clauses) (s : Scope) (other : Clauses) → EnteredClauses (source_of p) other → EnteredClauses (source_of p) (meaning.clauses_meant p cs s other)
    clauses stmt.NoClauses s other k = k
    clauses (stmt.MoreClauses (stmt.Accepts place guard members body) rest) s other k = (test s guard, one body s, clauses rest (meaning.scope_past p body s) other k)

    otherwise : (t : stmt.MaybeStmt) (s : Scope) → EnteredClauses (source_of p) (meaning.else_meant p t s)
    otherwise stmt.NoStmt s = tt
    otherwise (stmt.OneStmt body) s = one body s

    handlers : (hs : stmt.Handlers) (s : Scope) → EnteredHandlers (source_of p) (meaning.handlers_meant p hs s)
    handlers stmt.NoHandlers s = tt
    handlers (stmt.MoreHandlers (stmt.Handles place kind event param brace body) rest) s =
        let x : stmt.Handler = stmt.Handles place kind event param brace body in
        (all body (meaning.in_handler p x s), handlers rest (meaning.scope_past_handler p x s))

    maybe : (t : stmt.MaybeStmt) (s : Scope) → EnteredStmt (source_of p) (meaning.maybe_meant p t s)
    maybe stmt.NoStmt s = tt
    maybe (stmt.OneStmt body) s = one body s

    pub all : (ts : stmt.Stmts) (s : Scope) → EnteredStmts (source_of p) (meaning.stmts_meant p ts s)
    all stmt.NoStmts s = tt
    all (stmt.MoreStmts t ts) s = stmt_then t s _ _ (one t s) (all ts (meaning.scope_after p t s))
