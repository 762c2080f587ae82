-- In the source of every program the scope of an object that is a variable stands behind the statement that calls its constructor there.
use Rattle.std.proofs.Common.{◌≡◌, ℕ, zero, suc, ◌+◌, ◌++◌, Bool, true, false, List, [], ◌∷◌, length, Option, Some, None, refl, sym, ap}
use Rattle.std.specs.Prelude.{slice_get, if◌then◌else◌}
use Rattle.uc_tree.specs.declared.kinds.Base.{Base}
use Rattle.uc_tree.specs.declared.kinds.Kind.{Kind}
use Rattle.uc_tree.specs.declared.kinds.Kind.TheVariants as kind
use Rattle.uc_tree.specs.declared.kinds.Role.{Role}
use Rattle.uc_tree.specs.declared.kinds.Role.TheVariants as role
use Rattle.uc_tree.specs.declared.pos.Pos.{Pos}
use Rattle.uc_tree.specs.Cells.{declared_cells, leading_cells}
use Rattle.uc_tree.specs.Statements as stmt
use Rattle.uc_tree.specs.Statements.{Declarator}
use Rattle.uc_tree.specs.Programs as whole
use Rattle.uc_tree.specs.Programs.{Program}
use Rattle.uc_tree.specs.Gathered.{gathered, gathered_all, gathered_maybe, gathered_handlers, gathered_clauses}
use Rattle.uc_tree.specs.Numbering.{Defined, is_mutex, own_sites, own_texts, routines_of}
use Rattle.uc_tree.specs.Objects.{Making, APlain, AMutex, ACluster, AProcessor, making, ClassField, fields_of, has_execution, class_at, class_shape, shape_of, written_at, Unwritten, unwritten_of}
use Rattle.uc_tree.specs.Source as src
use Rattle.uc_tree.specs.Source.{Shape, Expr, Stmt, Stmts, Clauses, Purpose, Routine}
use Rattle.uc_resolve.specs.Standings as tree
use Rattle.uc_resolve.specs.Standings.{Meant}
use Rattle.uc_resolve.specs.Resolve as meaning
use Rattle.uc_resolve.specs.Resolve.{Scope, source_of}
use Rattle.uc_state_laws.specs.Layout.{references, started_references, own_references, NoReferences, AreNoReferences}
use Rattle.uc_state_laws.proofs.Statements.{none_left, none_right}
use Rattle.uc_place_laws.specs.Opened.{Var, Own, role_number, OfPlain, OfPart, NextNone, BuildsNone, Declares, Builds, Before, OpenedStmt, OpenedStmts, OpenedHandlers, OpenedClauses, OpenedRoutine}
use Rattle.uc_place_laws.specs.OpeningLaws.{LawOpened}
use Rattle.uc_place_laws.proofs.OpeningMarks.{next_any, next_opens, builds_any}

-- what builds an object that is a variable, and what destroys it

module _ (p : Program) (b : Base) (i k : ℕ) (made : making p b ≡ Some (APlain i)) (args : List Meant) where
  paired : (x y : Option ℕ) → written_at p i role.Constructor ≡ x → written_at p i role.Destructor ≡ y → OfPlain (λ d m. Builds p (meaning.called_by p i role.Constructor (src.Variable k) args x) d (Var m)) (src.Destroys (meaning.called_by p i role.Destructor (src.Variable k) [] y))
  paired None None e f = (refl, record { class = i; base = b; made = made; builds = ap (role_number p i role.Constructor) (sym e); ends = ap (role_number p i role.Destructor) (sym f) })
  paired None (Some d) e f = (refl, record { class = i; base = b; made = made; builds = ap (role_number p i role.Constructor) (sym e); ends = ap (role_number p i role.Destructor) (sym f) })
  paired (Some r) None e f = (refl, record { class = i; base = b; made = made; builds = ap (role_number p i role.Constructor) (sym e); ends = ap (role_number p i role.Destructor) (sym f) })
  paired (Some r) (Some d) e f = (refl, record { class = i; base = b; made = made; builds = ap (role_number p i role.Constructor) (sym e); ends = ap (role_number p i role.Destructor) (sym f) })

-- and what declares it
module _ (p : Program) (b : Base) (i k line : ℕ) (made : making p b ≡ Some (APlain i)) (x : Declarator) (single : meaning.length_of p x x.len ≡ None) (whole : AreNoReferences p → x.by_ref ≡ false) where
  spans : (y : Option ℕ) → written_at p i role.Destructor ≡ y → OfPlain (Declares p (src.Declare line (record { cell = k; cells = declared_cells p b x; value = None } ∷ []))) (src.Destroys (meaning.called_by p i role.Destructor (src.Variable k) [] y))
  spans None f = (refl, refl, record { class = i; base = b; made = made; ended = ap (role_number p i role.Destructor) (sym f); declarator = x; single = single; whole = whole; cells = refl })
  spans (Some d) f = (refl, refl, record { class = i; base = b; made = made; ended = ap (role_number p i role.Destructor) (sym f); declarator = x; single = single; whole = whole; cells = refl })

module _ (p : Program) where
  by_number_plain : (P : ℕ → ℕ → Type 0) (i : ℕ) (object : Expr) (r : Option ℕ) → OfPlain P (src.Destroys (meaning.ended_by p i object r))
  by_number_plain P i object None = tt
  by_number_plain P i object (Some r) = tt

  opens : (line : ℕ) (b : Base) (m : Making) (len : Option ℕ) (k : ℕ) (args : List Meant) → making p b ≡ Some m → OfPlain (λ d n. Before p (meaning.build p line m len (src.Variable k) args) d (Var n)) (meaning.clean_up p m len (src.Variable k))
  opens line b (APlain i) None k args e = paired p b i k e args (written_at p i role.Constructor) (written_at p i role.Destructor) refl refl
  opens line b (AMutex i) None k args e = by_number_plain _ i (src.Load (src.Variable k)) (written_at p i role.Destructor)
  opens line b ACluster None k args e = tt
  opens line b AProcessor None k args e = tt
  opens line b m (Some n) k args e = tt

  -- so is a field of the object at hand
  own_paired : (b : Base) (i : ℕ) (k : Shape) (n : ℕ) (args : List Meant) → making p b ≡ Some (APlain i) → (x y : Option ℕ) → written_at p i role.Constructor ≡ x → written_at p i role.Destructor ≡ y → OfPart (λ d h m. Builds p (meaning.called_by p i role.Constructor (src.OfObject (src.OwnField k n)) args x) d (Own h m)) (src.Destroys (meaning.called_by p i role.Destructor (src.OfObject (src.OwnField k n)) [] y))
  own_paired b i k n args made None None e f = (refl, record { class = i; base = b; made = made; builds = ap (role_number p i role.Constructor) (sym e); ends = ap (role_number p i role.Destructor) (sym f) })
  own_paired b i k n args made None (Some d) e f = (refl, record { class = i; base = b; made = made; builds = ap (role_number p i role.Constructor) (sym e); ends = ap (role_number p i role.Destructor) (sym f) })
  own_paired b i k n args made (Some r) None e f = (refl, record { class = i; base = b; made = made; builds = ap (role_number p i role.Constructor) (sym e); ends = ap (role_number p i role.Destructor) (sym f) })
  own_paired b i k n args made (Some r) (Some d) e f = (refl, record { class = i; base = b; made = made; builds = ap (role_number p i role.Constructor) (sym e); ends = ap (role_number p i role.Destructor) (sym f) })

  numbered_part : (P : ℕ → Shape → ℕ → Type 0) (i : ℕ) (object : Expr) (r : Option ℕ) → OfPart P (src.Destroys (meaning.ended_by p i object r))
  numbered_part P i object None = tt
  numbered_part P i object (Some r) = tt

  own_part : (b : Base) (m : Making) (len : Option ℕ) (k : Shape) (n : ℕ) (args : List Meant) → making p b ≡ Some m → OfPart (λ d h i. Before p (meaning.build p 0 m len (src.OfObject (src.OwnField k n)) args) d (Own h i)) (meaning.clean_up p m len (src.OfObject (src.OwnField k n)))
  own_part b (APlain i) None k n args e = own_paired b i k n args e (written_at p i role.Constructor) (written_at p i role.Destructor) refl refl
  own_part b (AMutex i) None k n args e = numbered_part _ i _ (written_at p i role.Destructor)
  own_part b ACluster None k n args e = tt
  own_part b AProcessor None k n args e = tt
  own_part b m (Some j) k n args e = tt

  -- a list of references, in a program that declares no variable to be one
  abbrev None_of : List Pos → Type 0
  None_of xs = AreNoReferences p → xs ≡ []

  none_first : (xs ys : List Pos) → None_of (xs ++ ys) → None_of xs
  none_first xs ys h = λ n. none_left xs ys (h n)

  none_next : (xs ys : List Pos) → None_of (xs ++ ys) → None_of ys
  none_next xs ys h = λ n. none_right xs ys (h n)

  first_whole : (d : Declarator) (ds : List Declarator) → references (d ∷ ds) ≡ [] → d.by_ref ≡ false
  first_whole d ds h = by d.by_ref h
    where
      by : (b : Bool) → (if b then d.pos ∷ references ds else references ds) ≡ [] → b ≡ false
      by true h = absurd (cc)
      by false h = refl

  others_whole : (d : Declarator) (ds : List Declarator) → references (d ∷ ds) ≡ [] → references ds ≡ []
  others_whole d ds h = by d.by_ref h
    where
      by : (b : Bool) → (if b then d.pos ∷ references ds else references ds) ≡ [] → references ds ≡ []
      by true h = absurd (cc)
      by false h = h

  declares : (line : ℕ) (b : Base) (m : Making) (x : Declarator) (len : Option ℕ) (k : ℕ) → making p b ≡ Some m → meaning.length_of p x x.len ≡ len → (AreNoReferences p → x.by_ref ≡ false) → OfPlain (Declares p (src.Declare line (record { cell = k; cells = declared_cells p b x; value = None } ∷ []))) (meaning.clean_up p m len (src.Variable k))
  declares line b (APlain i) x None k e l w = spans p b i k line e x l w (written_at p i role.Destructor) refl
  declares line b (AMutex i) x None k e l w = by_number_plain _ i (src.Load (src.Variable k)) (written_at p i role.Destructor)
  declares line b ACluster x None k e l w = tt
  declares line b AProcessor x None k e l w = tt
  declares line b m x (Some n) k e l w = tt

  open_build : (line : ℕ) (m : Making) (len : Option ℕ) (place : Expr) (args : List Meant) → OpenedStmt p (meaning.build p line m len place args)
  open_build line m None place args = tt
  open_build line m (Some n) place args = tt

  -- a field of the object at hand is no variable
  called_own : (P : ℕ → ℕ → Type 0) (i : ℕ) (s : Shape) (n : ℕ) (r : Option ℕ) → OfPlain P (src.Destroys (meaning.called_by p i role.Destructor (src.OfObject (src.OwnField s n)) [] r))
  called_own P i s n None = tt
  called_own P i s n (Some r) = tt

  own_field : (P : ℕ → ℕ → Type 0) (m : Making) (len : Option ℕ) (s : Shape) (n : ℕ) → OfPlain P (meaning.clean_up p m len (src.OfObject (src.OwnField s n)))
  own_field P (APlain i) None s n = called_own P i s n (written_at p i role.Destructor)
  own_field P (AMutex i) None s n = by_number_plain P i _ (written_at p i role.Destructor)
  own_field P ACluster None s n = tt
  own_field P AProcessor None s n = tt
  own_field P m (Some k) s n = tt

  -- a block of which nothing is done, and a statement before one
  abbrev Open : Stmts → Type 0
  Open ss = NextNone ss × OpenedStmts p ss × BuildsNone ss

  prepend : (a : Stmt) (ss : Stmts) → OpenedStmt p a → Open ss → Open (src.Then a ss)
  prepend a ss k h = (tt, (k, next_any (Before p a) ss h.0, h.1, builds_any (Declares p a) ss h.2), next_opens (λ d x. ⊥) ss h.0)

  -- declarations

  objects : (m : Making) (line : ℕ) (b : Base) (ds : List Declarator) (s : Scope) (rest : Stmts) → making p b ≡ Some m → None_of (references ds) → Open rest → Open (meaning.objects_scoped p m line b ds s rest)
  objects m line b [] s rest e g h = h
  objects m line b (d ∷ ds) s rest e g h =
      let len : Option ℕ = meaning.length_of p d d.len in
      (tt, (tt, tt, (open_build line m len (src.Variable s.cells) (meaning.start_args p s d.start), opens line b m len s.cells (meaning.start_args p s d.start) e, objects m line b ds (meaning.with_declared p s b d) rest e (λ n. others_whole d ds (g n)) h, tt), declares line b m d len s.cells e refl (λ n. first_whole d ds (g n))), tt)

  declared_then : (b : Base) (m : Option Making) (line : ℕ) (ds : List Declarator) (s : Scope) (rest : Stmts) → making p b ≡ m → None_of (references ds) → Open rest → Open (meaning.declared_then p m line b ds s rest)
  declared_then b None line ds s rest e g h = prepend (src.Declare line (meaning.all_declared p s b ds)) rest tt h
  declared_then b (Some m) line ds s rest e g h = objects m line b ds s rest e g h

  declared_alone : (b : Base) (m : Option Making) (line : ℕ) (ds : List Declarator) (s : Scope) → making p b ≡ m → None_of (references ds) → OpenedStmt p (meaning.declared_alone p m line b ds s)
  declared_alone b None line ds s e g = tt
  declared_alone b (Some m) line ds s e g = objects m line b ds s src.Nil e g (tt, tt, tt)

  start_then : (line : ℕ) (x : stmt.ForStart) (s : Scope) (rest : Stmts) → None_of (started_references x) → Open rest → Open (meaning.start_then p line x s rest)
  start_then line stmt.NoFor s rest g h = prepend (src.Skip line) rest tt h
  start_then line (stmt.ForDeclare place b ds) s rest g h = declared_then b (making p b) line ds s rest refl g h
  start_then line (stmt.ForEvaluate e) s rest g h = prepend (src.Evaluate line (tree.meant (meaning.context_at p s) e).expr) rest tt h

  stmt_then : (t : stmt.Stmt) (s : Scope) (a : Stmt) (rest : Stmts) → None_of (gathered own_references t) → OpenedStmt p a → Open rest → Open (meaning.stmt_then p t s a rest)
  stmt_then (stmt.Declare place b ds) s a rest g n h = declared_then b (making p b) place.line ds s rest refl g h
  stmt_then t s a rest g n h = prepend a rest n h

  mutual
    one : (t : stmt.Stmt) (s : Scope) → None_of (gathered own_references t) → OpenedStmt p (meaning.stmt_meant p t s)
    one (stmt.Block place body) s g = all body s g
    one (stmt.Declare place b ds) s g = declared_alone b (making p b) place.line ds s refl g
    one (stmt.If place e chosen other) s g = (one chosen s (none_first (gathered own_references chosen) (gathered_maybe own_references other) g), maybe other (meaning.scope_past p chosen s) (none_next (gathered own_references chosen) (gathered_maybe own_references other) g))
    one (stmt.While place e body) s g = one body s g
    one (stmt.Do place body e) s g = one body s g
    one (stmt.For place x e f body) s g =
        let inner : Scope = meaning.for_scope p x s in
        start_then place.line x s (src.Then (src.Loop place.line (meaning.order_of p e) (meaning.test_of p inner e) (meaning.step_of p inner f) (meaning.stmt_meant p body inner)) src.Nil) (none_first (started_references x) (gathered own_references body) g) (prepend (src.Loop place.line (meaning.order_of p e) (meaning.test_of p inner e) (meaning.step_of p inner f) (meaning.stmt_meant p body inner)) src.Nil (one body inner (none_next (started_references x) (gathered own_references body) g)) (tt, tt, tt))
    one (stmt.Try place brace body hs) s g = ((tt, (all body s (none_first (gathered_all own_references body) (gathered_handlers own_references hs) g), tt, tt, tt), tt), handlers hs (meaning.scope_past_all p body s) (none_next (gathered_all own_references body) (gathered_handlers own_references hs) g))
    one (stmt.Enable place events body) s g = one body (meaning.within_events p s) g
    one (stmt.Disable place events body) s g = one body (meaning.within_events p s) g
    one (stmt.Accept place cs other) s g =
        clauses cs (meaning.within_accept p s) _ (none_first (gathered_clauses own_references cs) (gathered_maybe own_references other) g) (otherwise other (meaning.scope_past_clauses p cs (meaning.within_accept p s)) (none_next (gathered_clauses own_references cs) (gathered_maybe own_references other) g))
    one t s g = tt

    clauses : (cs : stmt.Clauses) (s : Scope) (other : Clauses) → None_of (gathered_clauses own_references cs) → OpenedClauses p other → OpenedClauses p (meaning.clauses_meant p cs s other)
    clauses stmt.NoClauses s other g h = h
    clauses (stmt.MoreClauses (stmt.Accepts place guard members body) rest) s other g h = (one body s (none_first (gathered own_references body) (gathered_clauses own_references rest) g), clauses rest (meaning.scope_past p body s) other (none_next (gathered own_references body) (gathered_clauses own_references rest) g) h)

    otherwise : (t : stmt.MaybeStmt) (s : Scope) → None_of (gathered_maybe own_references t) → OpenedClauses p (meaning.else_meant p t s)
    otherwise stmt.NoStmt s g = tt
    otherwise (stmt.OneStmt body) s g = one body s g

    handlers : (hs : stmt.Handlers) (s : Scope) → None_of (gathered_handlers own_references hs) → OpenedHandlers p (meaning.handlers_meant p hs s)
    handlers stmt.NoHandlers s g = tt
    handlers (stmt.MoreHandlers (stmt.Handles place kind event param brace body) rest) s g =
        let x : stmt.Handler = stmt.Handles place kind event param brace body in
        (all body (meaning.in_handler p x s) (none_first (gathered_all own_references body) (gathered_handlers own_references rest) g), handlers rest (meaning.scope_past_handler p x s) (none_next (gathered_all own_references body) (gathered_handlers own_references rest) g))

    maybe : (t : stmt.MaybeStmt) (s : Scope) → None_of (gathered_maybe own_references t) → OpenedStmt p (meaning.maybe_meant p t s)
    maybe stmt.NoStmt s g = tt
    maybe (stmt.OneStmt body) s g = one body s g

    all : (ts : stmt.Stmts) (s : Scope) → None_of (gathered_all own_references ts) → Open (meaning.stmts_meant p ts s)
    all stmt.NoStmts s g = (tt, tt, tt)
    all (stmt.MoreStmts t ts) s g =
        stmt_then t s (meaning.stmt_meant p t s) (meaning.stmts_meant p ts (meaning.scope_after p t s)) (none_first (gathered own_references t) (gathered_all own_references ts) g) (one t s (none_first (gathered own_references t) (gathered_all own_references ts) g)) (all ts (meaning.scope_after p t s) (none_next (gathered own_references t) (gathered_all own_references ts) g))

  -- fields

  field_started : (f : ClassField) (place : Expr) (args : List Meant) (rest : Stmts) → Open rest → Open (meaning.field_started p f place args rest)
  field_started f place [] rest h = h
  field_started f place (m ∷ ms) rest h = prepend (src.Evaluate 0 (meaning.field_start p f.declarator.by_ref (shape_of f.base) place m)) rest tt h

  field_built : (m : Option Making) (f : ClassField) (len : Option ℕ) (k : Shape) (n : ℕ) (args : List Meant) (rest : Stmts) → ((x : Making) → m ≡ Some x → making p f.base ≡ Some x) → Open rest → Open (meaning.field_built p m f len (src.OfObject (src.OwnField k n)) args rest)
  field_built None f len k n args rest e h = field_started f (src.OfObject (src.OwnField k n)) args rest h
  field_built (Some m) f len k n args rest e h = (tt, (open_build 0 m len (src.OfObject (src.OwnField k n)) args, own_part f.base m len k n args (e m refl), h, tt), tt)

  -- what a field is made of
  made_of : (f : ClassField) (x : Making) → meaning.field_making p f ≡ Some x → making p f.base ≡ Some x
  made_of f x e = by f.declarator.by_ref e
    where
      by : (b : Bool) → (if b then None else making p f.base) ≡ Some x → making p f.base ≡ Some x
      by true e = absurd (cc)
      by false e = e

  field_left : (m : Option Making) (len : Option ℕ) (s : Shape) (i : ℕ) (rest : Stmts) → Open rest → Open (meaning.field_left p m len (src.OfObject (src.OwnField s i)) rest)
  field_left None len s i rest h = h
  field_left (Some m) len s i rest h = (own_field (λ d k. ⊥) m len s i, h, tt)

  module _ (c : whole.Class) (i : ℕ) where
    fields_built : (inits : List whole.Init) (s : Scope) (fs : List ClassField) (n : ℕ) (rest : Stmts) → Open rest → Open (meaning.fields_built p c i inits s fs n rest)
    fields_built inits s [] n rest h = h
    fields_built inits s (f ∷ fs) n rest h =
        field_built (meaning.field_making p f) f (meaning.length_in_class p c i f) (class_shape p i) n (meaning.init_args p s (meaning.init_named p inits f.declarator.name)) (meaning.fields_built p c i inits s fs (suc n) rest) (made_of f) (fields_built inits s fs (suc n) rest h)

    fields_left : (fs : List ClassField) (n : ℕ) (rest : Stmts) → Open rest → Open (meaning.fields_left p c i fs n rest)
    fields_left [] n rest h = h
    fields_left (f ∷ fs) n rest h =
        field_left (meaning.field_making p f) (meaning.length_in_class p c i f) (class_shape p i) n (meaning.fields_left p c i fs (suc n) rest) (fields_left fs (suc n) rest h)

  -- constructors and destructors

  set_up : (b : Bool) (i : ℕ) (rest : Stmts) → Open rest → Open (meaning.set_up p b i rest)
  set_up false i rest h = h
  set_up true i rest h = (tt, (tt, tt, h, tt), tt)

  started_in : (b : Bool) (body : Stmts) → Open body → Open (meaning.started_in p b body)
  started_in false body h = h
  started_in true body h = (tt, h, tt)

  enlivened : (b : Bool) → Open (meaning.enlivened p b)
  enlivened false = (tt, tt, tt)
  enlivened true = (tt, (tt, tt, tt, tt), tt)

  taken_down : (b : Bool) (body : Stmts) → Open body → Open (meaning.taken_down p b body)
  taken_down false body h = h
  taken_down true body h = prepend (src.OfTasks src.TakeDown) body tt h

  forgotten : (b : Bool) (rest : Stmts) → Open rest → Open (meaning.forgotten p b rest)
  forgotten false rest h = h
  forgotten true rest h = (tt, h, tt)

  freed : (k : Kind) (i : ℕ) (rest : Stmts) → Open rest → Open (meaning.freed p k i rest)
  freed kind.Monitor i rest h = (tt, h, tt)
  freed kind.Cormonitor i rest h = (tt, h, tt)
  freed kind.Task i rest h = (tt, h, tt)
  freed kind.Class i rest h = h
  freed kind.Coroutine i rest h = h
  freed kind.Event i rest h = h

  ending : (b : Bool) (rest : Stmts) → Open rest → Open (meaning.ending p b rest)
  ending false rest h = h
  ending true rest h = (tt, h, tt)

  construction : (c : Option whole.Class) (i : ℕ) (inits : List whole.Init) (s : Scope) (body : Stmts) → Open body → Open (meaning.construction p c i inits s body)
  construction None i inits s body h = h
  construction (Some c) i inits s body h =
      freed c.kind i _ (set_up (has_execution c.kind) i _ (fields_built c i inits s (fields_of c.members) (leading_cells c.kind) _ (started_in (has_execution c.kind) body h)))

  destruction : (c : Option whole.Class) (i : ℕ) (body : Stmts) → Open body → Open (meaning.destruction p c i body)
  destruction None i body h = h
  destruction (Some c) i body h =
      ending (is_mutex c.kind) _ (forgotten (has_execution c.kind) _ (fields_left c i (fields_of c.members) (leading_cells c.kind) _ (taken_down (has_execution c.kind) body h)))

  construction_ends : (c : Option whole.Class) (i : ℕ) → Open (meaning.construction_ends p c i)
  construction_ends None i = (tt, tt, tt)
  construction_ends (Some c) i = enlivened (has_execution c.kind)

  owing : (line : ℕ) (u : Purpose) → Open (meaning.owing p line u)
  owing line src.Function = (tt, (tt, tt, tt, tt), tt)
  owing line src.TaskMain = (tt, tt, tt)
  owing line src.CoroutineMain = (tt, tt, tt)
  owing line src.Procedure = (tt, tt, tt)
  owing line src.Builder = (tt, tt, tt)

  plain_body : (b : Bool) (r : whole.Routine) (body : Stmts) → Open body → Open (meaning.plain_body p b r body)
  plain_body false r body h = h
  plain_body true r body h = (tt, prepend (src.Block r.brace.line body) (meaning.owing p r.brace.line (meaning.value_purpose p r.sig.ret)) h (owing r.brace.line (meaning.value_purpose p r.sig.ret)), tt)

  body_by : (role : Role) (r : whole.Routine) (s : Scope) → None_of (gathered_all own_references r.body) → Open (meaning.body_by p role r s)
  body_by role.Plain r s g = plain_body (meaning.has_number_in p (meaning.class_by p s.class) r.sig) r (meaning.stmts_meant p r.body s) (all r.body s g)
  body_by role.Constructor r s g =
      construction (meaning.class_by p s.class) (meaning.place_or_zero p s.class) r.inits s _ (prepend (src.Whole r.brace.line (meaning.stmts_meant p r.body s)) _ (all r.body s g) (construction_ends (meaning.class_by p s.class) (meaning.place_or_zero p s.class)))
  body_by role.Destructor r s g =
      destruction (meaning.class_by p s.class) (meaning.place_or_zero p s.class) (src.Then (src.Whole r.brace.line (meaning.stmts_meant p r.body s)) src.Nil) (prepend (src.Whole r.brace.line (meaning.stmts_meant p r.body s)) src.Nil (all r.body s g) (tt, tt, tt))

  unwritten_body : (x : Role) (i : ℕ) → Open (meaning.unwritten_body p x i)
  unwritten_body role.Plain i = (tt, tt, tt)
  unwritten_body role.Constructor i = construction (class_at p i) i [] (meaning.nowhere p) (meaning.construction_ends p (class_at p i) i) (construction_ends (class_at p i) i)
  unwritten_body role.Destructor i = destruction (class_at p i) i src.Nil (tt, tt, tt)

  -- all routines of a source

  abbrev AllOpen : List Routine → Type 0
  AllOpen [] = Unit {0}
  AllOpen (r ∷ rs) = Open r.body × AllOpen rs

  both_lists : (rs us : List Routine) → AllOpen rs → AllOpen us → AllOpen (rs ++ us)
  both_lists [] us h k = k
  both_lists (r ∷ rs) us h k = (h.0, both_lists rs us h.1 k)

  by_number : (rs : List Routine) → AllOpen rs → (n : ℕ) → OpenedRoutine p (slice_get rs n)
  by_number [] h n = tt
  by_number (r ∷ rs) h zero = h.0
  by_number (r ∷ rs) h (suc n) = by_number rs h.1 n

  written : (ds : List Defined) (number texts sites : ℕ) → (AreNoReferences p → NoReferences ds) → AllOpen (meaning.routines_meant p ds number texts sites)
  written [] number texts sites g = tt
  written (d ∷ ds) number texts sites g =
      (body_by d.routine.sig.role d.routine (meaning.routine_scope p d.routine (meaning.place_by p d) number texts sites) (λ n. (g n).0), written ds (number + 1) (texts + length (gathered_all own_texts d.routine.body)) (sites + length (gathered_all (own_sites d.class d.number) d.routine.body)) (λ n. (g n).1))

  unwritten : (us : List Unwritten) → AllOpen (meaning.all_unwritten p us)
  unwritten [] = tt
  unwritten (u ∷ us) = (unwritten_body u.role u.class, unwritten us)

pub law_opened : LawOpened
law_opened p n =
    by_number p (source_of p).routines (both_lists p (meaning.routines_meant p (routines_of p) 0 0 0) (meaning.all_unwritten p (unwritten_of p)) (written p (routines_of p) 0 0 0 (λ n. n)) (unwritten p (unwritten_of p))) n
