-- What statements of a program stand for builds objects right before their scopes open, and calls no constructor at an object elsewhere.
use Rattle.std.proofs.Common.{◌≡◌, ℕ, ◌+◌, ◌⊎◌, inl, inr, Bool, false, List, [], ◌∷◌, Option, Some, None, refl}
use Rattle.uc_tree.specs.declared.kinds.Base.{Base}
use Rattle.uc_tree.specs.declared.kinds.Role.TheVariants as role
use Rattle.uc_tree.specs.Expressions as expr
use Rattle.uc_tree.specs.Statements as stmt
use Rattle.uc_tree.specs.Statements.{Declarator}
use Rattle.uc_tree.specs.Programs.{Program}
use Rattle.uc_tree.specs.Objects.{Making, APlain, AMutex, ACluster, AProcessor, making, written_at, shape_of}
use Rattle.uc_tree.specs.Source as src
use Rattle.uc_tree.specs.Source.{Shape, Expr, Stmt, Stmts, Clauses}
use Rattle.uc_resolve.specs.Standings as tree
use Rattle.uc_resolve.specs.Standings.{Meant}
use Rattle.uc_resolve.specs.Resolve as meaning
use Rattle.uc_resolve.specs.Resolve.{Scope}
use Rattle.uc_place_laws.specs.Siting.{OpensAt, OpensAlone, Nowhere, Everywhere, PlainExpr, PlainMaybe, PlainItems, PlainTargets, PlainDeclared, SitedAt, BuildsAt, MakesFor, PlainSingle, SitedExpr, SitedClean, SitedRaised, SitedStmt, SitedStmts, SitedHandlers, SitedClauses}
use Rattle.uc_place_laws.specs.AsideLaws.{makes_of}
use Rattle.uc_place_laws.proofs.Roles.{written_plain, unwritten_plain}
use Rattle.uc_place_laws.proofs.AsideMarks.{stmt_more}
use Rattle.uc_place_laws.proofs.Expressions as expressions
use Rattle.uc_place_laws.proofs.Expressions.{MeantPlain, AllMeant}

-- what is asked of the building of an object that is no mutex one alone
abbrev pub IfPlain : Making → Type 0 → Type 0
IfPlain (APlain i) P = P
IfPlain m P = Unit {0}

module _ (p : Program) where
  -- objects

  cluster_in : (args : List Meant) → AllMeant p args → PlainExpr (makes_of p) (meaning.cluster_in args)
  cluster_in [] h = tt
  cluster_in (m ∷ ms) h = h.0.expr

  module _ (Near : ℕ → Type 0) (made : Bool) where
    called_by : (i : ℕ) (place : Expr) (args : List Meant) (r : Option ℕ) → SitedAt (makes_of p) Near made place → AllMeant p args → BuildsAt (makes_of p) Near made (meaning.called_by p i role.Constructor place args r)
    called_by i place args None h k = h
    called_by i place args (Some r) h k = (h, expressions.args_by p (tree.params_of p r) args k)

    made_by : (i : ℕ) (place : Expr) (args : List Meant) (r : Option ℕ) → SitedAt (makes_of p) Everywhere made place → AllMeant p args → SitedExpr (makes_of p) Near made (meaning.made_by p i place args r)
    made_by i place args None h k = inl (inr (h, tt))
    made_by i place args (Some r) h k = inl (inr (h, expressions.args_by p (tree.params_of p r) args k))

    constructed : (m : Making) (place : Expr) (args : List Meant) → IfPlain m (SitedAt (makes_of p) Near made place) → SitedAt (makes_of p) Everywhere made place → AllMeant p args → SitedExpr (makes_of p) Near made (meaning.constructed p m place args)
    constructed (APlain i) place args a h k = inr (called_by i place args (written_at p i role.Constructor) a k)
    constructed (AMutex i) place args a h k = made_by i place args (written_at p i role.Constructor) h k
    constructed ACluster place args a h k = inl (inr (h, tt))
    constructed AProcessor place args a h k = inl (inr (h, cluster_in args k))

  destroyed_by : (i : ℕ) (place : Expr) (r : Option ℕ) → written_at p i role.Destructor ≡ r → PlainExpr (makes_of p) place → PlainExpr (makes_of p) (meaning.called_by p i role.Destructor place [] r)
  destroyed_by i place None e h = (unwritten_plain p i, h)
  destroyed_by i place (Some r) e h = (written_plain p i r e, h, expressions.args_by p (tree.params_of p r) [] tt)

  ended_by : (i : ℕ) (object : Expr) (r : Option ℕ) → written_at p i role.Destructor ≡ r → PlainExpr (makes_of p) object → PlainSingle (makes_of p) false (meaning.ended_by p i object r)
  ended_by i object None e h = inr (unwritten_plain p i, h)
  ended_by i object (Some r) e h = inr (written_plain p i r e, h)

  destroyed : (m : Making) (place : Expr) → PlainExpr (makes_of p) place → PlainSingle (makes_of p) false (meaning.destroyed p m place)
  destroyed (APlain i) place h = inl (destroyed_by i place (written_at p i role.Destructor) refl h)
  destroyed (AMutex i) place h = ended_by i (src.Load place) (written_at p i role.Destructor) refl h
  destroyed ACluster place h = inr h
  destroyed AProcessor place h = inr h

  -- what ends an element is of what made it
  plain_for : (b : Expr) (i : ℕ) (place : Expr) (r : Option ℕ) → MakesFor b (meaning.called_by p i role.Destructor place [] r)
  plain_for b i place None = tt
  plain_for b i place (Some r) = tt

  made_for : (i : ℕ) (e : Expr) (c d : Option ℕ) → MakesFor (meaning.made_by p i e [] c) (meaning.ended_by p i (src.Load e) d)
  made_for i e None None = tt
  made_for i e None (Some d) = tt
  made_for i e (Some c) None = tt
  made_for i e (Some c) (Some d) = tt

  module _ (Near : ℕ → Type 0) (Alone : Type 0) (made : Bool) where
    fills : (b : Expr) → SitedExpr (makes_of p) Near made b → (BuildsAt (makes_of p) Near made b → Alone) → PlainSingle (makes_of p) made b ⊎ (BuildsAt (makes_of p) Near made b × Alone)
    fills b (inl h) f = inl h
    fills b (inr h) f = inr (h, f h)

    pub build : (line : ℕ) (m : Making) (len : Option ℕ) (place : Expr) (args : List Meant) → IfPlain m (SitedAt (makes_of p) Near made place) → IfPlain m Alone → SitedAt (makes_of p) Everywhere made place → PlainExpr (makes_of p) place → AllMeant p args → SitedStmt (makes_of p) Near Alone made (meaning.build p line m len place args)
    build line m None place args a l w h k = constructed Near made m place args a w k
    build line (APlain i) (Some n) place args a l w h k =
        let e : Expr = meaning.counted_element p (APlain i) n place in
        (fills (meaning.constructed p (APlain i) e []) (constructed Near made (APlain i) e [] (a, tt) (w, tt) tt) (λ b. l), destroyed (APlain i) e (h, tt), plain_for (meaning.constructed p (APlain i) e []) i e (written_at p i role.Destructor))
    build line (AMutex i) (Some n) place args a l w h k =
        let e : Expr = meaning.counted_element p (AMutex i) n place in
        (inl (mutex i e (written_at p i role.Constructor) (w, tt)), destroyed (AMutex i) e (h, tt), made_for i e (written_at p i role.Constructor) (written_at p i role.Destructor))
      where
        mutex : (i : ℕ) (e : Expr) (r : Option ℕ) → SitedAt (makes_of p) Everywhere made e → PlainSingle (makes_of p) made (meaning.made_by p i e [] r)
        mutex i e None h = inr (h, tt)
        mutex i e (Some r) h = inr (h, expressions.args_by p (tree.params_of p r) [] tt)
    build line ACluster (Some n) place args a l w h k = (inl (inr ((w, tt), tt)), inr (h, tt), tt)
    build line AProcessor (Some n) place args a l w h k = (inl (inr ((w, tt), tt)), inr (h, tt), tt)

  pub clean_up : (m : Making) (len : Option ℕ) (place : Expr) → PlainExpr (makes_of p) place → SitedClean (makes_of p) (meaning.clean_up p m len place)
  clean_up m None place h = destroyed m place h
  clean_up m (Some n) place h = destroyed m (meaning.counted_element p m n place) (h, tt)

  -- the scope of an object that is no mutex one is of its variable

  at_by : (i k : ℕ) (more : Stmts) (r : Option ℕ) → OpensAt (src.Scoped (src.Destroys (meaning.called_by p i role.Destructor (src.Variable k) [] r)) more) k
  at_by i k more None = refl
  at_by i k more (Some r) = refl

  in_by : (i k n : ℕ) (more : Stmts) (r : Option ℕ) → OpensAt (src.Scoped (src.DestroysAll n (meaning.called_by p i role.Destructor (meaning.counted_element p (APlain i) n (src.Variable k)) [] r)) more) k
  in_by i k n more None = refl
  in_by i k n more (Some r) = refl

  scope_at : (m : Making) (len : Option ℕ) (k : ℕ) (more : Stmts) → IfPlain m (OpensAt (src.Scoped (meaning.clean_up p m len (src.Variable k)) more) k)
  scope_at (APlain i) None k more = at_by i k more (written_at p i role.Destructor)
  scope_at (APlain i) (Some n) k more = in_by i k n more (written_at p i role.Destructor)
  scope_at (AMutex i) len k more = tt
  scope_at ACluster len k more = tt
  scope_at AProcessor len k more = tt

  alone_by : (i n : ℕ) (place : Expr) (more : Stmts) (r : Option ℕ) → OpensAlone (src.Scoped (src.DestroysAll n (meaning.called_by p i role.Destructor place [] r)) more)
  alone_by i n place more None = tt
  alone_by i n place more (Some r) = tt

  single_by : (i : ℕ) (place : Expr) (more : Stmts) (r : Option ℕ) → OpensAlone (src.Scoped (src.Destroys (meaning.called_by p i role.Destructor place [] r)) more)
  single_by i place more None = tt
  single_by i place more (Some r) = tt

  scope_alone : (m : Making) (len : Option ℕ) (k : ℕ) (more : Stmts) → IfPlain m (OpensAlone (src.Scoped (meaning.clean_up p m len (src.Variable k)) more))
  scope_alone (APlain i) None k more = single_by i (src.Variable k) more (written_at p i role.Destructor)
  scope_alone (APlain i) (Some n) k more = alone_by i n (meaning.counted_element p (APlain i) n (src.Variable k)) more (written_at p i role.Destructor)
  scope_alone (AMutex i) len k more = tt
  scope_alone ACluster len k more = tt
  scope_alone AProcessor len k more = tt

  -- expressions in a scope
  pub meant : (s : Scope) (e : expr.Expr) → MeantPlain p (tree.meant (meaning.context_at p s) e)
  meant s e = expressions.meant p s.class s.routine s.names e

  pub value : (s : Scope) (e : expr.Expr) → PlainExpr (makes_of p) (tree.value_in_scope (meaning.context_at p s) e)
  value s e = expressions.value p s.class s.routine s.names e

  pub args : (s : Scope) (es : expr.Exprs) → AllMeant p (tree.args_meant (meaning.context_at p s) es)
  args s es = expressions.args_meant p s.class s.routine s.names es

  -- parts of statements

  items : (s : Scope) (texts : ℕ) (os : List stmt.OutItem) → PlainItems (makes_of p) (meaning.items_meant (meaning.context_at p s) texts os)
  items s texts [] = tt
  items s texts (stmt.Endl sign ∷ os) = (tt, items s texts os)
  items s texts (stmt.Literal sign text ∷ os) = (tt, items s (texts + 1) os)
  items s texts (stmt.Printed sign e ∷ os) = (value s e, items s texts os)

  targets : (s : Scope) (es : expr.Exprs) → PlainTargets (makes_of p) (meaning.targets_meant (meaning.context_at p s) es)
  targets s expr.NoExprs = tt
  targets s (expr.MoreExprs e es) = ((meant s e).expr, targets s es)

  start : (s : Scope) (k : Shape) (x : stmt.Start) → PlainMaybe (makes_of p) (meaning.start_meant (meaning.context_at p s) k x)
  start s k stmt.NoStart = tt
  start s k (stmt.StartValue e) = expressions.converted p k _ (value s e)
  start s k (stmt.StartArgs expr.NoExprs) = tt
  start s k (stmt.StartArgs (expr.MoreExprs e es)) = expressions.converted p k _ (value s e)

  -- declarations

  declared : (s : Scope) (b : Base) (ds : List Declarator) → PlainDeclared (makes_of p) (meaning.all_declared p s b ds)
  declared s b [] = tt
  declared s b (d ∷ ds) = (start s (shape_of b) d.start, declared (meaning.with_declared p s b d) b ds)

  start_args : (s : Scope) (x : stmt.Start) → AllMeant p (meaning.start_args p s x)
  start_args s stmt.NoStart = tt
  start_args s (stmt.StartValue e) = tt
  start_args s (stmt.StartArgs es) = args s es

  -- events

  built_event : (made : Bool) (s : Scope) (n : ℕ) (r : Option ℕ) (ms : List Meant) → AllMeant p ms → SitedRaised (makes_of p) made (meaning.built_event p s n r ms)
  built_event made s n None ms k = tt
  built_event made s n (Some r) ms k = inr (refl, expressions.args_by p (tree.params_of p r) ms k)

  raised : (made : Bool) (s : Scope) (r : Option stmt.Raised) → SitedRaised (makes_of p) made (meaning.raised_meant p s r)
  raised made s None = tt
  raised made s (Some r) = built_event made s (meaning.number_of_event p r.name) (meaning.event_constructor p r.name) (tree.args_meant (meaning.context_at p s) r.args) (args s r.args)

  test : (s : Scope) (e : Option expr.Expr) → PlainExpr (makes_of p) (meaning.test_of p s e)
  test s None = tt
  test s (Some e) = value s e

  step : (s : Scope) (e : Option expr.Expr) → PlainMaybe (makes_of p) (meaning.step_of p s e)
  step s None = tt
  step s (Some e) = (meant s e).expr

  returned : (s : Scope) (e : Option expr.Expr) → PlainMaybe (makes_of p) (meaning.return_meant p s e)
  returned s None = tt
  returned s (Some e) = expressions.converted p (shape_of (tree.result_of p s.routine)) _ (value s e)

  scoped : (made : Bool) (m : Making) (line : ℕ) (b : Base) (d : Declarator) (s : Scope) (rest : Stmts) → SitedStmts (makes_of p) made rest → SitedStmts (makes_of p) made (meaning.object_scoped p m line b d s rest)
  scoped made m line b d s rest h =
      let len : Option ℕ = meaning.length_of p d d.len in
      let scope : Stmts = src.Scoped (meaning.clean_up p m len (src.Variable s.cells)) rest in
      ((tt, tt), (build (OpensAt scope) (OpensAlone scope) made line m len (src.Variable s.cells) (meaning.start_args p s d.start) (scope_at m len s.cells rest) (scope_alone m len s.cells rest) tt tt (start_args s d.start), (clean_up m len (src.Variable s.cells) tt, h)))

  all_scoped : (made : Bool) (m : Making) (line : ℕ) (b : Base) (ds : List Declarator) (s : Scope) (rest : Stmts) → SitedStmts (makes_of p) made rest → SitedStmts (makes_of p) made (meaning.objects_scoped p m line b ds s rest)
  all_scoped made m line b [] s rest h = h
  all_scoped made m line b (d ∷ ds) s rest h = scoped made m line b d s _ (all_scoped made m line b ds (meaning.with_declared p s b d) rest h)

  declared_then : (made : Bool) (m : Option Making) (line : ℕ) (b : Base) (ds : List Declarator) (s : Scope) (rest : Stmts) → SitedStmts (makes_of p) made rest → SitedStmts (makes_of p) made (meaning.declared_then p m line b ds s rest)
  declared_then made None line b ds s rest h = (declared s b ds, h)
  declared_then made (Some m) line b ds s rest h = all_scoped made m line b ds s rest h

  declared_alone : (made : Bool) (Near : ℕ → Type 0) (Alone : Type 0) (m : Option Making) (line : ℕ) (b : Base) (ds : List Declarator) (s : Scope) → SitedStmt (makes_of p) Near Alone made (meaning.declared_alone p m line b ds s)
  declared_alone made Near Alone None line b ds s = declared s b ds
  declared_alone made Near Alone (Some m) line b ds s = all_scoped made m line b ds s src.Nil tt

  start_then : (made : Bool) (line : ℕ) (x : stmt.ForStart) (s : Scope) (rest : Stmts) → SitedStmts (makes_of p) made rest → SitedStmts (makes_of p) made (meaning.start_then p line x s rest)
  start_then made line stmt.NoFor s rest h = (tt, h)
  start_then made line (stmt.ForDeclare place b ds) s rest h = declared_then made (making p b) line b ds s rest h
  start_then made line (stmt.ForEvaluate e) s rest h = (inl (inl (meant s e).expr), h)

  stmt_then : (made : Bool) (t : stmt.Stmt) (s : Scope) (a : Stmt) (rest : Stmts) → SitedStmt (makes_of p) (OpensAt rest) (OpensAlone rest) made a → SitedStmts (makes_of p) made rest → SitedStmts (makes_of p) made (meaning.stmt_then p t s a rest)
  stmt_then made (stmt.Declare place b ds) s a rest n h = declared_then made (making p b) place.line b ds s rest h
  stmt_then made t s a rest n h = (n, h)

  mutual
    pub one : (made : Bool) (t : stmt.Stmt) (s : Scope) → SitedStmt (makes_of p) Nowhere ⊥ made (meaning.stmt_meant p t s)
    one made (stmt.Block place body) s = all made body s
    one made (stmt.Empty place) s = tt
    one made (stmt.Evaluate place e) s = inl (inl (meant s e).expr)
    one made (stmt.Declare place b ds) s = declared_alone made Nowhere ⊥ (making p b) place.line b ds s
    one made (stmt.Print place os) s = items s s.texts os
    one made (stmt.PrintTogether place os) s = items s s.texts os
    one made (stmt.Read place es) s = targets s es
    one made (stmt.If place e chosen other) s = (value s e, one made chosen s, maybe made other (meaning.scope_past p chosen s))
    one made (stmt.While place e body) s = (value s e, tt, one made body s)
    one made (stmt.Do place body e) s = (value s e, tt, one made body s)
    one made (stmt.For place x e f body) s =
        start_then made place.line x s _ ((test (meaning.for_scope p x s) e, step (meaning.for_scope p x s) f, one made body (meaning.for_scope p x s)), tt)
    one made (stmt.Break place) s = tt
    one made (stmt.Continue place) s = tt
    one made (stmt.Return place e) s = returned s e
    one made (stmt.Throw place r) s = raised made s r
    one made (stmt.Raise place r) s = raised made s r
    one made (stmt.Try place brace body hs) s = ((all made body s, tt), handlers made hs (meaning.scope_past_all p body s))
    one made (stmt.Resume place) s = tt
    one made (stmt.Suspend place) s = tt
    one made (stmt.RaiseAt place r target) s = (raised made s (Some r), (meant s target).expr)
    one made (stmt.Enable place events body) s = one made body (meaning.within_events p s)
    one made (stmt.Disable place events body) s = one made body (meaning.within_events p s)
    one made (stmt.Yield place) s = tt
    one made (stmt.Migrate place cluster) s = (meant s cluster).expr
    one made (stmt.Accept place cs other) s =
        let inner : Scope = meaning.within_accept p s in
        let behind : Scope = meaning.scope_past_clauses p cs inner in
        clauses made cs inner (meaning.else_meant p other behind) (otherwise made other behind)

    clauses : (made : Bool) (cs : stmt.Clauses) (s : Scope) (other : Clauses) → SitedClauses (makes_of p) made other → SitedClauses (makes_of p) made (meaning.clauses_meant p cs s other)
    clauses made stmt.NoClauses s other k = k
    clauses made (stmt.MoreClauses (stmt.Accepts place guard members body) rest) s other k = (test s guard, one made body s, clauses made rest (meaning.scope_past p body s) other k)

    otherwise : (made : Bool) (t : stmt.MaybeStmt) (s : Scope) → SitedClauses (makes_of p) made (meaning.else_meant p t s)
    otherwise made stmt.NoStmt s = tt
    otherwise made (stmt.OneStmt body) s = one made body s

    handlers : (made : Bool) (hs : stmt.Handlers) (s : Scope) → SitedHandlers (makes_of p) made (meaning.handlers_meant p hs s)
    handlers made stmt.NoHandlers s = tt
    handlers made (stmt.MoreHandlers (stmt.Handles place kind event param brace body) rest) s =
        let x : stmt.Handler = stmt.Handles place kind event param brace body in
        (all made body (meaning.in_handler p x s), handlers made rest (meaning.scope_past_handler p x s), all false body (meaning.in_handler p x s))

    maybe : (made : Bool) (t : stmt.MaybeStmt) (s : Scope) → SitedStmt (makes_of p) Nowhere ⊥ made (meaning.maybe_meant p t s)
    maybe made stmt.NoStmt s = tt
    maybe made (stmt.OneStmt body) s = one made body s

    pub all : (made : Bool) (ts : stmt.Stmts) (s : Scope) → SitedStmts (makes_of p) made (meaning.stmts_meant p ts s)
    all made stmt.NoStmts s = tt
    all made (stmt.MoreStmts t ts) s =
        let rest : Stmts = meaning.stmts_meant p ts (meaning.scope_after p t s) in
        stmt_then made t s (meaning.stmt_meant p t s) rest (stmt_more (makes_of p) Nowhere (OpensAt rest) ⊥ (OpensAlone rest) made (λ k z. absurd z) (λ z. absurd z) (meaning.stmt_meant p t s) (one made t s)) (all made ts (meaning.scope_after p t s))
