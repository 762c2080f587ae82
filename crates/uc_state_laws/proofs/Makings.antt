-- In the source of every program constructors alone bind fields of the object at hand, and give it an execution.
use Rattle.std.proofs.Common.{◌≡◌, ℕ, zero, suc, ◌+◌, ◌++◌, map, Bool, true, false, List, [], ◌∷◌, length, Option, Some, None, refl, subst}
use Rattle.std.specs.Prelude.{slice_get}
use Rattle.uc_tree.specs.declared.kinds.Base.{Base}
use Rattle.uc_tree.specs.declared.kinds.Kind.{Kind}
use Rattle.uc_tree.specs.declared.kinds.Kind.TheVariants as kind
use Rattle.uc_tree.specs.declared.kinds.Role.{Role}
use Rattle.uc_tree.specs.declared.kinds.Role.TheVariants as role
use Rattle.uc_tree.specs.Cells.{leading_cells}
use Rattle.uc_tree.specs.Expressions as expr
use Rattle.uc_tree.specs.Statements as stmt
use Rattle.uc_tree.specs.Statements.{Declarator}
use Rattle.uc_tree.specs.Programs as whole
use Rattle.uc_tree.specs.Programs.{Program}
use Rattle.uc_tree.specs.Gathered.{gathered_all}
use Rattle.uc_tree.specs.Numbering.{Defined, is_mutex, own_sites, own_texts, routines_of}
use Rattle.uc_tree.specs.Objects as objects
use Rattle.uc_tree.specs.Objects.{APlain, AMutex, ACluster, AProcessor, making, ClassField, fields_of, has_execution, class_at, class_shape, written_at, Unwritten, unwritten_of}
use Rattle.uc_tree.specs.Source as src
use Rattle.uc_tree.specs.Source.{Expr, Stmt, Stmts, Clauses, Purpose, Routine}
use Rattle.uc_resolve.specs.Standings as tree
use Rattle.uc_resolve.specs.Standings.{Meant}
use Rattle.uc_resolve.specs.Resolve as meaning
use Rattle.uc_resolve.specs.Resolve.{Scope, source_of}
use Rattle.uc_state_laws.specs.Ordinary.{Ordinary}
use Rattle.uc_state_laws.proofs.Expressions as ordinary
use Rattle.uc_state_laws.specs.Makers.{is_own, binds_own, Unmaking, UnmakingAll, UnmakingHandlers, UnmakingClauses, Making, roles, MakesBy, LawMakers}

-- expressions of programs bind nothing
binds_none : (e : Expr) → Ordinary e → binds_own e ≡ false
binds_none (src.OfObject (src.Bind p e)) h = absurd h
binds_none (src.OfObject (src.MakeOn c r written p args)) h = absurd h
binds_none e h = refl

called_binds : (p : Program) (i : ℕ) (wanted : Role) (place : Expr) (args : List Meant) (r : Option ℕ) → binds_own (meaning.called_by p i wanted place args r) ≡ false
called_binds p i wanted place args None = refl
called_binds p i wanted place args (Some r) = refl

made_binds : (p : Program) (i : ℕ) (place : Expr) (args : List Meant) (r : Option ℕ) → is_own place ≡ false → binds_own (meaning.made_by p i place args r) ≡ false
made_binds p i place args None h = h
made_binds p i place args (Some r) h = h

-- what builds an object at a place binds that
built_binds : (p : Program) (m : objects.Making) (place : Expr) (args : List Meant) → is_own place ≡ false → binds_own (meaning.constructed p m place args) ≡ false
built_binds p (APlain i) place args h = called_binds p i role.Constructor place args (written_at p i role.Constructor)
built_binds p (AMutex i) place args h = made_binds p i place args (written_at p i role.Constructor) h
built_binds p ACluster place args h = h
built_binds p AProcessor place args h = h

build : (p : Program) (line : ℕ) (m : objects.Making) (len : Option ℕ) (k : ℕ) (args : List Meant) → Unmaking (meaning.build p line m len (src.Variable k) args)
build p line m None k args = built_binds p m (src.Variable k) args refl
build p line m (Some n) k args = built_binds p m (meaning.counted_element p m n (src.Variable k)) [] refl

module _ (p : Program) where
  evaluated : (s : Scope) (e : expr.Expr) → binds_own (tree.meant (meaning.context_at p s) e).expr ≡ false
  evaluated s e = binds_none (tree.meant (meaning.context_at p s) e).expr (ordinary.meant (meaning.context_at p s) e).expr

  -- declarations

  declared : (m : objects.Making) (line : ℕ) (b : Base) (ds : List Declarator) (s : Scope) (rest : Stmts) → UnmakingAll rest → UnmakingAll (meaning.objects_scoped p m line b ds s rest)
  declared m line b [] s rest h = h
  declared m line b (d ∷ ds) s rest h =
      (tt, (build p line m (meaning.length_of p d d.len) s.cells (meaning.start_args p s d.start), declared m line b ds (meaning.with_declared p s b d) rest h))

  declared_then : (b : Base) (m : Option objects.Making) (line : ℕ) (ds : List Declarator) (s : Scope) (rest : Stmts) → UnmakingAll rest → UnmakingAll (meaning.declared_then p m line b ds s rest)
  declared_then b None line ds s rest h = (tt, h)
  declared_then b (Some m) line ds s rest h = declared m line b ds s rest h

  declared_alone : (b : Base) (m : Option objects.Making) (line : ℕ) (ds : List Declarator) (s : Scope) → Unmaking (meaning.declared_alone p m line b ds s)
  declared_alone b None line ds s = tt
  declared_alone b (Some m) line ds s = declared m line b ds s src.Nil tt

  start_then : (line : ℕ) (x : stmt.ForStart) (s : Scope) (rest : Stmts) → UnmakingAll rest → UnmakingAll (meaning.start_then p line x s rest)
  start_then line stmt.NoFor s rest h = (tt, h)
  start_then line (stmt.ForDeclare place b ds) s rest h = declared_then b (making p b) line ds s rest h
  start_then line (stmt.ForEvaluate e) s rest h = (evaluated s e, h)

  stmt_then : (t : stmt.Stmt) (s : Scope) (a : Stmt) (rest : Stmts) → Unmaking a → UnmakingAll rest → UnmakingAll (meaning.stmt_then p t s a rest)
  stmt_then (stmt.Declare place b ds) s a rest n h = declared_then b (making p b) place.line ds s rest h
  stmt_then t s a rest n h = (n, h)

  mutual
    one : (t : stmt.Stmt) (s : Scope) → Unmaking (meaning.stmt_meant p t s)
    one (stmt.Block place body) s = all body s
    one (stmt.Evaluate place e) s = evaluated s e
    one (stmt.Declare place b ds) s = declared_alone b (making p b) place.line ds s
    one (stmt.If place e chosen other) s = (one chosen s, maybe other (meaning.scope_past p chosen s))
    one (stmt.While place e body) s = one body s
    one (stmt.Do place body e) s = one body s
    one (stmt.For place x e f body) s =
        let inner : Scope = meaning.for_scope p x s in
        start_then place.line x s (src.Then (src.Loop place.line (meaning.order_of p e) (meaning.test_of p inner e) (meaning.step_of p inner f) (meaning.stmt_meant p body inner)) src.Nil) (one body inner, tt)
    one (stmt.Try place brace body hs) s = ((all body s, tt), handlers hs (meaning.scope_past_all p body s))
    one (stmt.Enable place events body) s = one body (meaning.within_events p s)
    one (stmt.Disable place events body) s = one body (meaning.within_events p s)
    one (stmt.Accept place cs other) s =
        clauses cs (meaning.within_accept p s) _ (otherwise other (meaning.scope_past_clauses p cs (meaning.within_accept p s)))
    one t s = tt

    clauses : (cs : stmt.Clauses) (s : Scope) (other : Clauses) → UnmakingClauses other → UnmakingClauses (meaning.clauses_meant p cs s other)
    clauses stmt.NoClauses s other h = h
    clauses (stmt.MoreClauses (stmt.Accepts place guard members body) rest) s other h = (one body s, clauses rest (meaning.scope_past p body s) other h)

    otherwise : (t : stmt.MaybeStmt) (s : Scope) → UnmakingClauses (meaning.else_meant p t s)
    otherwise stmt.NoStmt s = tt
    otherwise (stmt.OneStmt body) s = one body s

    handlers : (hs : stmt.Handlers) (s : Scope) → UnmakingHandlers (meaning.handlers_meant p hs s)
    handlers stmt.NoHandlers s = tt
    handlers (stmt.MoreHandlers (stmt.Handles place kind event param brace body) rest) s =
        let x : stmt.Handler = stmt.Handles place kind event param brace body in
        (all body (meaning.in_handler p x s), handlers rest (meaning.scope_past_handler p x s))

    maybe : (t : stmt.MaybeStmt) (s : Scope) → Unmaking (meaning.maybe_meant p t s)
    maybe stmt.NoStmt s = tt
    maybe (stmt.OneStmt body) s = one body s

    all : (ts : stmt.Stmts) (s : Scope) → UnmakingAll (meaning.stmts_meant p ts s)
    all stmt.NoStmts s = tt
    all (stmt.MoreStmts t ts) s =
        stmt_then t s (meaning.stmt_meant p t s) (meaning.stmts_meant p ts (meaning.scope_after p t s)) (one t s) (all ts (meaning.scope_after p t s))

  -- constructors

  made : (line : ℕ) (m : objects.Making) (len : Option ℕ) (place : Expr) (args : List Meant) (rest : Stmts) → Making rest → Making (src.Then (meaning.build p line m len place args) rest)
  made line m None place args rest h = (tt, h)
  made line m (Some n) place args rest h = (tt, h)

  field_built : (m : Option objects.Making) (f : ClassField) (len : Option ℕ) (place : Expr) (args : List Meant) (rest : Stmts) → Making rest → Making (meaning.field_built p m f len place args rest)
  field_built None f len place [] rest h = h
  field_built None f len place (a ∷ more) rest h = (tt, h)
  field_built (Some m) f len place args rest h = made 0 m len place args (src.Built (meaning.clean_up p m len place) rest) h

  module _ (c : whole.Class) (i : ℕ) where
    fields_built : (inits : List whole.Init) (s : Scope) (fs : List ClassField) (n : ℕ) (rest : Stmts) → Making rest → Making (meaning.fields_built p c i inits s fs n rest)
    fields_built inits s [] n rest h = h
    fields_built inits s (f ∷ fs) n rest h =
        field_built (meaning.field_making p f) f (meaning.length_in_class p c i f) (tree.field_place (class_shape p i) n tree.Own) (meaning.init_args p s (meaning.init_named p inits f.declarator.name)) (meaning.fields_built p c i inits s fs (suc n) rest) (fields_built inits s fs (suc n) rest h)

  set_up : (b : Bool) (i : ℕ) (rest : Stmts) → Making rest → Making (meaning.set_up p b i rest)
  set_up false i rest h = h
  set_up true i rest h = (tt, h)

  started_in : (b : Bool) (body : Stmts) → Making body → Making (meaning.started_in p b body)
  started_in false body h = h
  started_in true body h = h

  enlivened : (b : Bool) → Making (meaning.enlivened p b)
  enlivened false = tt
  enlivened true = (tt, tt)

  freed : (k : Kind) (i : ℕ) (rest : Stmts) → Making rest → Making (meaning.freed p k i rest)
  freed kind.Monitor i rest h = h
  freed kind.Cormonitor i rest h = h
  freed kind.Task i rest h = h
  freed kind.Class i rest h = h
  freed kind.Coroutine i rest h = h
  freed kind.Event i rest h = h

  construction : (c : Option whole.Class) (i : ℕ) (inits : List whole.Init) (s : Scope) (body : Stmts) → Making body → Making (meaning.construction p c i inits s body)
  construction None i inits s body h = h
  construction (Some c) i inits s body h =
      freed c.kind i _ (set_up (has_execution c.kind) i _ (fields_built c i inits s (fields_of c.members) (leading_cells c.kind) _ (started_in (has_execution c.kind) body h)))

  construction_ends : (c : Option whole.Class) (i : ℕ) → Making (meaning.construction_ends p c i)
  construction_ends None i = tt
  construction_ends (Some c) i = enlivened (has_execution c.kind)

  -- destructors

  field_left : (m : Option objects.Making) (len : Option ℕ) (place : Expr) (rest : Stmts) → UnmakingAll rest → UnmakingAll (meaning.field_left p m len place rest)
  field_left None len place rest h = h
  field_left (Some m) len place rest h = h

  fields_left : (c : whole.Class) (i : ℕ) (fs : List ClassField) (n : ℕ) (rest : Stmts) → UnmakingAll rest → UnmakingAll (meaning.fields_left p c i fs n rest)
  fields_left c i [] n rest h = h
  fields_left c i (f ∷ fs) n rest h =
      field_left (meaning.field_making p f) (meaning.length_in_class p c i f) (src.OfObject (src.OwnField (class_shape p i) n)) (meaning.fields_left p c i fs (suc n) rest) (fields_left c i fs (suc n) rest h)

  taken_down : (b : Bool) (body : Stmts) → UnmakingAll body → UnmakingAll (meaning.taken_down p b body)
  taken_down false body h = h
  taken_down true body h = (tt, h)

  forgotten : (b : Bool) (rest : Stmts) → UnmakingAll rest → UnmakingAll (meaning.forgotten p b rest)
  forgotten false rest h = h
  forgotten true rest h = h

  ending : (b : Bool) (rest : Stmts) → UnmakingAll rest → UnmakingAll (meaning.ending p b rest)
  ending false rest h = h
  ending true rest h = h

  destruction : (c : Option whole.Class) (i : ℕ) (body : Stmts) → UnmakingAll body → UnmakingAll (meaning.destruction p c i body)
  destruction None i body h = h
  destruction (Some c) i body h =
      ending (is_mutex c.kind) _ (forgotten (has_execution c.kind) _ (fields_left c i (fields_of c.members) (leading_cells c.kind) _ (taken_down (has_execution c.kind) body h)))

  -- routines

  owing : (line : ℕ) (u : Purpose) → UnmakingAll (meaning.owing p line u)
  owing line src.Function = (tt, tt)
  owing line src.TaskMain = tt
  owing line src.CoroutineMain = tt
  owing line src.Procedure = tt
  owing line src.Builder = tt

  plain_body : (b : Bool) (r : whole.Routine) (body : Stmts) → UnmakingAll body → UnmakingAll (meaning.plain_body p b r body)
  plain_body false r body h = h
  plain_body true r body h = (h, owing r.brace.line (meaning.value_purpose p r.sig.ret))

  body_by : (x : Role) (r : whole.Routine) (s : Scope) → MakesBy x (meaning.body_by p x r s)
  body_by role.Plain r s = plain_body (meaning.has_number_in p (meaning.class_by p s.class) r.sig) r (meaning.stmts_meant p r.body s) (all r.body s)
  body_by role.Constructor r s =
      construction (meaning.class_by p s.class) (meaning.place_or_zero p s.class) r.inits s _ (all r.body s, construction_ends (meaning.class_by p s.class) (meaning.place_or_zero p s.class))
  body_by role.Destructor r s =
      destruction (meaning.class_by p s.class) (meaning.place_or_zero p s.class) (src.Then (src.Whole r.brace.line (meaning.stmts_meant p r.body s)) src.Nil) (all r.body s, tt)

  unwritten_body : (x : Role) (i : ℕ) → MakesBy x (meaning.unwritten_body p x i)
  unwritten_body role.Plain i = tt
  unwritten_body role.Constructor i = construction (class_at p i) i [] (meaning.nowhere p) (meaning.construction_ends p (class_at p i) i) (construction_ends (class_at p i) i)
  unwritten_body role.Destructor i = destruction (class_at p i) i src.Nil tt

-- all routines of a source, each by its role

abbrev AllMake : List Role → List Routine → Type 0
AllMake [] [] = Unit {0}
AllMake [] (r ∷ rs) = ⊥
AllMake (x ∷ xs) [] = ⊥
AllMake (x ∷ xs) (r ∷ rs) = MakesBy x r.body × AllMake xs rs

both_lists : (xs ys : List Role) (rs us : List Routine) → AllMake xs rs → AllMake ys us → AllMake (xs ++ ys) (rs ++ us)
both_lists [] ys [] us h k = k
both_lists [] ys (r ∷ rs) us h k = absurd h
both_lists (x ∷ xs) ys [] us h k = absurd h
both_lists (x ∷ xs) ys (r ∷ rs) us h k = (h.0, both_lists xs ys rs us h.1 k)

by_place : (xs : List Role) (rs : List Routine) → AllMake xs rs → (n : ℕ) (x : Role) (r : Routine) → slice_get xs n ≡ Some x → slice_get rs n ≡ Some r → MakesBy x r.body
by_place [] [] h n x r e f = absurd (cc)
by_place [] (q ∷ rs) h n x r e f = absurd h
by_place (y ∷ xs) [] h n x r e f = absurd h
by_place (y ∷ xs) (q ∷ rs) h zero x r e f =
    let a : y ≡ x = cc in
    let b : q ≡ r = cc in
    subst (λ (y : Role). MakesBy y r.body) a (subst (λ (q : Routine). MakesBy y q.body) b h.0)
by_place (y ∷ xs) (q ∷ rs) h (suc n) x r e f = by_place xs rs h.1 n x r e f

written : (p : Program) (ds : List Defined) (number texts sites : ℕ) → AllMake (map (λ d. d.routine.sig.role) ds) (meaning.routines_meant p ds number texts sites)
written p [] number texts sites = tt
written p (d ∷ ds) number texts sites =
    (body_by p d.routine.sig.role d.routine (meaning.routine_scope p d.routine (meaning.place_by p d) number texts sites), written p ds (number + 1) (texts + length (gathered_all own_texts d.routine.body)) (sites + length (gathered_all (own_sites d.class d.number) d.routine.body)))

unwritten : (p : Program) (us : List Unwritten) → AllMake (map (λ u. u.role) us) (meaning.all_unwritten p us)
unwritten p [] = tt
unwritten p (u ∷ us) = (unwritten_body p u.role u.class, unwritten p us)

pub law_makers : LawMakers
law_makers p n x r e f =
    by_place (roles p) (source_of p).routines (both_lists (map (λ d. d.routine.sig.role) (routines_of p)) (map (λ u. u.role) (unwritten_of p)) (meaning.routines_meant p (routines_of p) 0 0 0) (meaning.all_unwritten p (unwritten_of p)) (written p (routines_of p) 0 0 0) (unwritten p (unwritten_of p))) n x r e f
