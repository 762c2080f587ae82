-- In the source of every program each scope opens behind the statement that builds what it is of.
use Rattle.std.proofs.Common.{◌≡◌, ℕ, zero, suc, ◌+◌, inl, inr, ◌++◌, Bool, true, false, List, [], ◌∷◌, length, Option, Some, None, refl, sym, ◌∙◌}
use Rattle.std.specs.Prelude.{slice_get}
use Rattle.uc_tree.specs.declared.kinds.Base.{Base}
use Rattle.uc_tree.specs.declared.kinds.Kind.{Kind}
use Rattle.uc_tree.specs.declared.kinds.Kind.TheVariants as kind
use Rattle.uc_tree.specs.declared.kinds.Role.{Role}
use Rattle.uc_tree.specs.declared.kinds.Role.TheVariants as role
use Rattle.uc_tree.specs.Cells.{leading_cells}
use Rattle.uc_tree.specs.Statements as stmt
use Rattle.uc_tree.specs.Statements.{Declarator}
use Rattle.uc_tree.specs.Programs as whole
use Rattle.uc_tree.specs.Programs.{Program}
use Rattle.uc_tree.specs.Gathered.{gathered_all}
use Rattle.uc_tree.specs.Numbering.{Defined, is_mutex, own_sites, own_texts, routines_of}
use Rattle.uc_tree.specs.Objects.{Making, APlain, AMutex, ACluster, AProcessor, making, ClassField, fields_of, has_execution, class_at, class_shape, shape_of, written_at, Unwritten, unwritten_of}
use Rattle.uc_tree.specs.Source as src
use Rattle.uc_tree.specs.Source.{Shape, Expr, Stmt, Stmts, Clauses, Purpose, Routine}
use Rattle.uc_resolve.specs.Standings as tree
use Rattle.uc_resolve.specs.Standings.{Meant}
use Rattle.uc_resolve.specs.Resolve as meaning
use Rattle.uc_resolve.specs.Resolve.{Scope, source_of}
use Rattle.uc_state_laws.specs.Opening.{Builds, Destroying, is_numbered, IsEndOf, Opens, ScopeOpens, PartOpens, OpenStmt, OpenStmts, OpenHandlers, OpenClauses, OpenRoutine, LawOpening}

-- what builds and what destroys the object of a place

called_builds : (p : Program) (i : ℕ) (wanted : Role) (place : Expr) (args : List Meant) (r : Option ℕ) → Builds (meaning.called_by p i wanted place args r) place
called_builds p i wanted place args None = refl
called_builds p i wanted place args (Some r) = refl

called_ends : (p : Program) (i : ℕ) (wanted : Role) (place : Expr) (args : List Meant) (r : Option ℕ) → Destroying (meaning.called_by p i wanted place args r) place
called_ends p i wanted place args None = refl
called_ends p i wanted place args (Some r) = refl

made_builds : (p : Program) (i : ℕ) (place : Expr) (args : List Meant) (r : Option ℕ) → Builds (meaning.made_by p i place args r) place
made_builds p i place args None = refl
made_builds p i place args (Some r) = refl

ended_ends : (p : Program) (i : ℕ) (place : Expr) (r : Option ℕ) → Destroying (meaning.ended_by p i (src.Load place) r) place
ended_ends p i place None = refl
ended_ends p i place (Some r) = refl

constructed : (p : Program) (m : Making) (place : Expr) (args : List Meant) → Builds (meaning.constructed p m place args) place
constructed p (APlain i) place args = called_builds p i role.Constructor place args (written_at p i role.Constructor)
constructed p (AMutex i) place args = made_builds p i place args (written_at p i role.Constructor)
constructed p ACluster place args = refl
constructed p AProcessor place args = refl

destroyed : (p : Program) (m : Making) (place : Expr) → Destroying (meaning.destroyed p m place) place
destroyed p (APlain i) place = called_ends p i role.Destructor place [] (written_at p i role.Destructor)
destroyed p (AMutex i) place = ended_ends p i place (written_at p i role.Destructor)
destroyed p ACluster place = refl
destroyed p AProcessor place = refl

-- a class is written or not

called_plainly : (p : Program) (i : ℕ) (wanted : Role) (place : Expr) (args : List Meant) (r : Option ℕ) → is_numbered (meaning.called_by p i wanted place args r) ≡ false
called_plainly p i wanted place args None = refl
called_plainly p i wanted place args (Some r) = refl

made_by_number : (p : Program) (i : ℕ) (place : Expr) (args : List Meant) (r : Option ℕ) → is_numbered (meaning.made_by p i place args r) ≡ true
made_by_number p i place args None = refl
made_by_number p i place args (Some r) = refl

ended_by_number : (p : Program) (i : ℕ) (object : Expr) (r : Option ℕ) → is_numbered (meaning.ended_by p i object r) ≡ true
ended_by_number p i object None = refl
ended_by_number p i object (Some r) = refl

alike : (p : Program) (m : Making) (place : Expr) (args : List Meant) → is_numbered (meaning.constructed p m place args) ≡ is_numbered (meaning.destroyed p m place)
alike p (APlain i) place args = called_plainly p i role.Constructor place args (written_at p i role.Constructor) ∙ sym (called_plainly p i role.Destructor place [] (written_at p i role.Destructor))
alike p (AMutex i) place args = made_by_number p i place args (written_at p i role.Constructor) ∙ sym (ended_by_number p i (src.Load place) (written_at p i role.Destructor))
alike p ACluster place args = refl
alike p AProcessor place args = refl

is_end : (p : Program) (m : Making) (place : Expr) (args : List Meant) → IsEndOf (meaning.constructed p m place args) (meaning.destroyed p m place)
is_end p m place args = record { place = place; built = constructed p m place args; ended = destroyed p m place; alike = alike p m place args }

opens : (p : Program) (line : ℕ) (m : Making) (len : Option ℕ) (place : Expr) (args : List Meant) → Opens (Some (meaning.build p line m len place args)) (meaning.clean_up p m len place)
opens p line m None place args = is_end p m place args
opens p line m (Some n) place args = (refl, refl, is_end p m (meaning.counted_element p m n place) [])

open_build : (p : Program) (line : ℕ) (m : Making) (len : Option ℕ) (place : Expr) (args : List Meant) → OpenStmt (meaning.build p line m len place args)
open_build p line m None place args = tt
open_build p line m (Some n) place args = tt

scope_opens : (p : Program) (before : Option Stmt) (m : Making) (len : Option ℕ) (place : Expr) → Opens before (meaning.clean_up p m len place) → ScopeOpens before (meaning.clean_up p m len place)
scope_opens p before m None place h = inl h
scope_opens p before m (Some n) place h = inl h

part_opens : (p : Program) (before : Option Stmt) (m : Making) (len : Option ℕ) (place : Expr) → Opens before (meaning.clean_up p m len place) → PartOpens before (meaning.clean_up p m len place)
part_opens p before m None place h = h
part_opens p before m (Some n) place h = h

module _ (p : Program) where
  -- declarations

  objects : (before : Option Stmt) (m : Making) (line : ℕ) (b : Base) (ds : List Declarator) (s : Scope) (rest : Stmts) → ((x : Option Stmt) → OpenStmts x rest) → OpenStmts before (meaning.objects_scoped p m line b ds s rest)
  objects before m line b [] s rest h = h before
  objects before m line b (d ∷ ds) s rest h =
      let len : Option ℕ = meaning.length_of p d d.len in
      let place : Expr = src.Variable s.cells in
      (tt, (open_build p line m len place (meaning.start_args p s d.start), (scope_opens p (Some (meaning.build p line m len place (meaning.start_args p s d.start))) m len place (opens p line m len place (meaning.start_args p s d.start)), objects None m line b ds (meaning.with_declared p s b d) rest h)))

  declared_then : (before : Option Stmt) (b : Base) (m : Option Making) (line : ℕ) (ds : List Declarator) (s : Scope) (rest : Stmts) → ((x : Option Stmt) → OpenStmts x rest) → OpenStmts before (meaning.declared_then p m line b ds s rest)
  declared_then before b None line ds s rest h = (tt, h (Some (src.Declare line (meaning.all_declared p s b ds))))
  declared_then before b (Some m) line ds s rest h = objects before m line b ds s rest h

  declared_alone : (b : Base) (m : Option Making) (line : ℕ) (ds : List Declarator) (s : Scope) → OpenStmt (meaning.declared_alone p m line b ds s)
  declared_alone b None line ds s = tt
  declared_alone b (Some m) line ds s = objects None m line b ds s src.Nil (λ x. tt)

  start_then : (before : Option Stmt) (line : ℕ) (x : stmt.ForStart) (s : Scope) (rest : Stmts) → ((x : Option Stmt) → OpenStmts x rest) → OpenStmts before (meaning.start_then p line x s rest)
  start_then before line stmt.NoFor s rest h = (tt, h (Some (src.Skip line)))
  start_then before line (stmt.ForDeclare place b ds) s rest h = declared_then before b (making p b) line ds s rest h
  start_then before line (stmt.ForEvaluate e) s rest h = (tt, h (Some (src.Evaluate line (tree.meant (meaning.context_at p s) e).expr)))

  stmt_then : (before : Option Stmt) (t : stmt.Stmt) (s : Scope) (a : Stmt) (rest : Stmts) → OpenStmt a → ((x : Option Stmt) → OpenStmts x rest) → OpenStmts before (meaning.stmt_then p t s a rest)
  stmt_then before (stmt.Declare place b ds) s a rest n h = declared_then before b (making p b) place.line ds s rest h
  stmt_then before t s a rest n h = (n, h (Some a))

  mutual
    one : (t : stmt.Stmt) (s : Scope) → OpenStmt (meaning.stmt_meant p t s)
    one (stmt.Block place body) s = all None body s
    one (stmt.Declare place b ds) s = declared_alone b (making p b) place.line ds s
    one (stmt.If place e chosen other) s = (one chosen s, maybe other (meaning.scope_past p chosen s))
    one (stmt.While place e body) s = one body s
    one (stmt.Do place body e) s = one body s
    one (stmt.For place x e f body) s =
        let inner : Scope = meaning.for_scope p x s in
        start_then None place.line x s (src.Then (src.Loop place.line (meaning.order_of p e) (meaning.test_of p inner e) (meaning.step_of p inner f) (meaning.stmt_meant p body inner)) src.Nil) (λ x. (one body inner, tt))
    one (stmt.Try place brace body hs) s = ((all None body s, tt), handlers hs (meaning.scope_past_all p body s))
    one (stmt.Enable place events body) s = one body (meaning.within_events p s)
    one (stmt.Disable place events body) s = one body (meaning.within_events p s)
    one (stmt.Accept place cs other) s =
        clauses cs (meaning.within_accept p s) _ (otherwise other (meaning.scope_past_clauses p cs (meaning.within_accept p s)))
    one t s = tt

    clauses : (cs : stmt.Clauses) (s : Scope) (other : Clauses) → OpenClauses other → OpenClauses (meaning.clauses_meant p cs s other)
    clauses stmt.NoClauses s other h = h
    clauses (stmt.MoreClauses (stmt.Accepts place guard members body) rest) s other h = (one body s, clauses rest (meaning.scope_past p body s) other h)

    otherwise : (t : stmt.MaybeStmt) (s : Scope) → OpenClauses (meaning.else_meant p t s)
    otherwise stmt.NoStmt s = tt
    otherwise (stmt.OneStmt body) s = one body s

    handlers : (hs : stmt.Handlers) (s : Scope) → OpenHandlers (meaning.handlers_meant p hs s)
    handlers stmt.NoHandlers s = tt
    handlers (stmt.MoreHandlers (stmt.Handles place kind event param brace body) rest) s =
        let x : stmt.Handler = stmt.Handles place kind event param brace body in
        (all None body (meaning.in_handler p x s), handlers rest (meaning.scope_past_handler p x s))

    maybe : (t : stmt.MaybeStmt) (s : Scope) → OpenStmt (meaning.maybe_meant p t s)
    maybe stmt.NoStmt s = tt
    maybe (stmt.OneStmt body) s = one body s

    all : (before : Option Stmt) (ts : stmt.Stmts) (s : Scope) → OpenStmts before (meaning.stmts_meant p ts s)
    all before stmt.NoStmts s = tt
    all before (stmt.MoreStmts t ts) s =
        stmt_then before t s (meaning.stmt_meant p t s) (meaning.stmts_meant p ts (meaning.scope_after p t s)) (one t s) (λ x. all x ts (meaning.scope_after p t s))

  -- fields

  field_started : (before : Option Stmt) (f : ClassField) (place : Expr) (args : List Meant) (rest : Stmts) → ((x : Option Stmt) → OpenStmts x rest) → OpenStmts before (meaning.field_started p f place args rest)
  field_started before f place [] rest h = h before
  field_started before f place (m ∷ ms) rest h = (tt, h (Some (src.Evaluate 0 (meaning.field_start p f.declarator.by_ref (shape_of f.base) place m))))

  field_built : (before : Option Stmt) (m : Option Making) (f : ClassField) (len : Option ℕ) (place : Expr) (args : List Meant) (rest : Stmts) → ((x : Option Stmt) → OpenStmts x rest) → OpenStmts before (meaning.field_built p m f len place args rest)
  field_built before None f len place args rest h = field_started before f place args rest h
  field_built before (Some m) f len place args rest h =
      (open_build p 0 m len place args, (part_opens p (Some (meaning.build p 0 m len place args)) m len place (opens p 0 m len place args), h None))

  own_field : (before : Option Stmt) (m : Making) (len : Option ℕ) (s : Shape) (i : ℕ) → ScopeOpens before (meaning.clean_up p m len (src.OfObject (src.OwnField s i)))
  own_field before m None s i = inr (record { shape = s; number = i; field = destroyed p m (src.OfObject (src.OwnField s i)) })
  own_field before m (Some n) s i =
      inr (record { shape = s; number = i; count = n; of = meaning.made_shape p m; element = destroyed p m (meaning.counted_element p m n (src.OfObject (src.OwnField s i))) })

  field_left : (before : Option Stmt) (m : Option Making) (len : Option ℕ) (s : Shape) (i : ℕ) (rest : Stmts) → ((x : Option Stmt) → OpenStmts x rest) → OpenStmts before (meaning.field_left p m len (src.OfObject (src.OwnField s i)) rest)
  field_left before None len s i rest h = h before
  field_left before (Some m) len s i rest h = (own_field before m len s i, h None)

  module _ (c : whole.Class) (i : ℕ) where
    fields_built : (before : Option Stmt) (inits : List whole.Init) (s : Scope) (fs : List ClassField) (n : ℕ) (rest : Stmts) → ((x : Option Stmt) → OpenStmts x rest) → OpenStmts before (meaning.fields_built p c i inits s fs n rest)
    fields_built before inits s [] n rest h = h before
    fields_built before inits s (f ∷ fs) n rest h =
        field_built before (meaning.field_making p f) f (meaning.length_in_class p c i f) (tree.field_place (class_shape p i) n tree.Own) (meaning.init_args p s (meaning.init_named p inits f.declarator.name)) (meaning.fields_built p c i inits s fs (suc n) rest) (λ x. fields_built x inits s fs (suc n) rest h)

    fields_left : (before : Option Stmt) (fs : List ClassField) (n : ℕ) (rest : Stmts) → ((x : Option Stmt) → OpenStmts x rest) → OpenStmts before (meaning.fields_left p c i fs n rest)
    fields_left before [] n rest h = h before
    fields_left before (f ∷ fs) n rest h =
        field_left before (meaning.field_making p f) (meaning.length_in_class p c i f) (class_shape p i) n (meaning.fields_left p c i fs (suc n) rest) (λ x. fields_left x fs (suc n) rest h)

  -- constructors and destructors

  abbrev Open : Stmts → Type 0
  Open ss = (x : Option Stmt) → OpenStmts x ss

  set_up : (b : Bool) (i : ℕ) (rest : Stmts) → Open rest → Open (meaning.set_up p b i rest)
  set_up false i rest h x = h x
  set_up true i rest h x = (tt, (tt, h None))

  started_in : (b : Bool) (body : Stmts) → Open body → Open (meaning.started_in p b body)
  started_in false body h x = h x
  started_in true body h x = (tt, h None)

  enlivened : (b : Bool) → Open (meaning.enlivened p b)
  enlivened false x = tt
  enlivened true x = (tt, tt)

  taken_down : (b : Bool) (body : Stmts) → Open body → Open (meaning.taken_down p b body)
  taken_down false body h x = h x
  taken_down true body h x = (tt, h (Some (src.OfTasks src.TakeDown)))

  forgotten : (b : Bool) (rest : Stmts) → Open rest → Open (meaning.forgotten p b rest)
  forgotten false rest h x = h x
  forgotten true rest h x = (tt, h None)

  freed : (k : Kind) (i : ℕ) (rest : Stmts) → Open rest → Open (meaning.freed p k i rest)
  freed kind.Monitor i rest h x = (tt, h None)
  freed kind.Cormonitor i rest h x = (tt, h None)
  freed kind.Task i rest h x = (tt, h None)
  freed kind.Class i rest h x = h x
  freed kind.Coroutine i rest h x = h x
  freed kind.Event i rest h x = h x

  ending : (b : Bool) (rest : Stmts) → Open rest → Open (meaning.ending p b rest)
  ending false rest h x = h x
  ending true rest h x = (tt, h None)

  construction : (c : Option whole.Class) (i : ℕ) (inits : List whole.Init) (s : Scope) (body : Stmts) → Open body → Open (meaning.construction p c i inits s body)
  construction None i inits s body h x = h x
  construction (Some c) i inits s body h x =
      freed c.kind i _ (set_up (has_execution c.kind) i _ (λ y. fields_built c i y inits s (fields_of c.members) (leading_cells c.kind) _ (started_in (has_execution c.kind) body h))) x

  destruction : (c : Option whole.Class) (i : ℕ) (body : Stmts) → Open body → Open (meaning.destruction p c i body)
  destruction None i body h x = h x
  destruction (Some c) i body h x =
      ending (is_mutex c.kind) _ (forgotten (has_execution c.kind) _ (λ y. fields_left c i y (fields_of c.members) (leading_cells c.kind) _ (taken_down (has_execution c.kind) body h))) x

  construction_ends : (c : Option whole.Class) (i : ℕ) → Open (meaning.construction_ends p c i)
  construction_ends None i x = tt
  construction_ends (Some c) i x = enlivened (has_execution c.kind) x

  owing : (line : ℕ) (u : Purpose) → Open (meaning.owing p line u)
  owing line src.Function x = (tt, tt)
  owing line src.TaskMain x = tt
  owing line src.CoroutineMain x = tt
  owing line src.Procedure x = tt
  owing line src.Builder x = tt

  plain_body : (b : Bool) (r : whole.Routine) (body : Stmts) → Open body → Open (meaning.plain_body p b r body)
  plain_body false r body h x = h x
  plain_body true r body h x = (tt, (h None, owing r.brace.line (meaning.value_purpose p r.sig.ret) (Some (src.Block r.brace.line body))))

  body_by : (role : Role) (r : whole.Routine) (s : Scope) → Open (meaning.body_by p role r s)
  body_by role.Plain r s x = plain_body (meaning.has_number_in p (meaning.class_by p s.class) r.sig) r (meaning.stmts_meant p r.body s) (λ y. all y r.body s) x
  body_by role.Constructor r s x =
      construction (meaning.class_by p s.class) (meaning.place_or_zero p s.class) r.inits s _ (λ y. (all None r.body s, construction_ends (meaning.class_by p s.class) (meaning.place_or_zero p s.class) (Some (src.Whole r.brace.line (meaning.stmts_meant p r.body s))))) x
  body_by role.Destructor r s x =
      destruction (meaning.class_by p s.class) (meaning.place_or_zero p s.class) (src.Then (src.Whole r.brace.line (meaning.stmts_meant p r.body s)) src.Nil) (λ y. (all None r.body s, tt)) x

  unwritten_body : (x : Role) (i : ℕ) → Open (meaning.unwritten_body p x i)
  unwritten_body role.Plain i y = tt
  unwritten_body role.Constructor i y = construction (class_at p i) i [] (meaning.nowhere p) (meaning.construction_ends p (class_at p i) i) (construction_ends (class_at p i) i) y
  unwritten_body role.Destructor i y = destruction (class_at p i) i src.Nil (λ z. tt) y

  -- all routines of a source

  abbrev AllOpen : List Routine → Type 0
  AllOpen [] = Unit {0}
  AllOpen (r ∷ rs) = OpenStmts None r.body × AllOpen rs

  both_lists : (rs us : List Routine) → AllOpen rs → AllOpen us → AllOpen (rs ++ us)
  both_lists [] us h k = k
  both_lists (r ∷ rs) us h k = (h.0, both_lists rs us h.1 k)

  by_number : (rs : List Routine) → AllOpen rs → (n : ℕ) → OpenRoutine (slice_get rs n)
  by_number [] h n = tt
  by_number (r ∷ rs) h zero = h.0
  by_number (r ∷ rs) h (suc n) = by_number rs h.1 n

  written : (ds : List Defined) (number texts sites : ℕ) → AllOpen (meaning.routines_meant p ds number texts sites)
  written [] number texts sites = tt
  written (d ∷ ds) number texts sites =
      (body_by d.routine.sig.role d.routine (meaning.routine_scope p d.routine (meaning.place_by p d) number texts sites) None, written ds (number + 1) (texts + length (gathered_all own_texts d.routine.body)) (sites + length (gathered_all (own_sites d.class d.number) d.routine.body)))

  unwritten : (us : List Unwritten) → AllOpen (meaning.all_unwritten p us)
  unwritten [] = tt
  unwritten (u ∷ us) = (unwritten_body u.role u.class None, unwritten us)

pub law_opening : LawOpening
law_opening p n =
    by_number p (source_of p).routines (both_lists p (meaning.routines_meant p (routines_of p) 0 0 0) (meaning.all_unwritten p (unwritten_of p)) (written p (routines_of p) 0 0 0) (unwritten p (unwritten_of p))) n
