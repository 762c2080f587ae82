-- In the source of each program that breaks no rule cells are used for one declaration alone.
use Rattle.std.proofs.Common.{◌≡◌, ℕ, zero, suc, ◌+◌, ◌*◌, ◌≤◌, ◌⊎◌, inl, inr, Bool, true, false, List, [], ◌∷◌, ◌++◌, Option, Some, None, length, refl, sym, ap, ◌∙◌, subst, arith}
use Rattle.std.specs.Prelude.{slice_get, if◌then◌else◌}
use Rattle.uc_tree.specs.declared.kinds.Base.{Base}
use Rattle.uc_tree.specs.declared.kinds.Base.TheVariants as base
use Rattle.uc_tree.specs.declared.kinds.Kind.{Kind}
use Rattle.uc_tree.specs.declared.kinds.Kind.TheVariants as kind
use Rattle.uc_tree.specs.declared.kinds.Role.{Role}
use Rattle.uc_tree.specs.declared.kinds.Role.TheVariants as role
use Rattle.uc_tree.specs.declared.rows.FieldClass.{FieldClass}
use Rattle.uc_tree.specs.Rows.{element_cells}
use Rattle.uc_tree.specs.Constants.{constants_of, value_of_name, elements, length_in}
use Rattle.uc_tree.specs.Cells.{classes_of, class_cells, object_of, declared_cells, declarators_cells, stmt_cells, stmts_cells, maybe_cells, handlers_cells, clauses_cells, for_cells, leading_cells}
use Rattle.uc_tree.specs.Gathered.{gathered, gathered_all, gathered_maybe, gathered_handlers, gathered_clauses}
use Rattle.uc_tree.specs.Numbering.{Defined, is_mutex, own_sites, own_texts, routines_of}
use Rattle.uc_tree.specs.Expressions as expr
use Rattle.uc_tree.specs.Statements as stmt
use Rattle.uc_tree.specs.Statements.{Declarator}
use Rattle.uc_tree.specs.Programs as whole
use Rattle.uc_tree.specs.Programs.{Program}
use Rattle.uc_tree.specs.Objects.{Making, APlain, AMutex, ACluster, AProcessor, making, making_by, ClassField, fields_of, has_execution, class_at, class_shape, shape_of, Unwritten, unwritten_of}
use Rattle.uc_tree.specs.Source as src
use Rattle.uc_tree.specs.Source.{Shape, Expr, CleanUp, Stmt, Stmts, EventStmt, Handlers, TaskStmt, Clauses, Purpose, Routine}
use Rattle.uc_resolve.specs.Standings as tree
use Rattle.uc_resolve.specs.Standings.{Meant}
use Rattle.uc_resolve.specs.Resolve as meaning
use Rattle.uc_resolve.specs.Resolve.{Scope, source_of}
use Rattle.uc_rules.specs.Breaks.{breaks_of}
use Rattle.uc_state_laws.specs.Rooms.{LiesAt, LiesIn, Lies}
use Rattle.uc_state_laws.specs.Layout.{Sized, references, started_references, own_references}
use Rattle.uc_state_laws.proofs.RoomLemmas.{lies_wider}
use Rattle.uc_state_laws.proofs.Statements.{no_list, none_left, none_right, is_destroyed}
use Rattle.uc_cell_laws.specs.Scopes.{InStmt, InStmts, InEvent, InHandlers, InTask, InClauses, InRoutine, IsScopeOf, LieApart, LawScopes}
use Rattle.uc_cell_laws.proofs.Unreferring.{IsPlain, ArePlain, are_plain}

-- scopes in statements are of what lies between two cells, each behind what those before it are of
module _ (sized : ℕ → ℕ → Type 0) where
  abbrev mutual
    StmtFrom : ℕ → ℕ → Stmt → Type 0
    StmtFrom low high (src.Block line body) = StmtsFrom low high body
    StmtFrom low high (src.Whole line body) = StmtsFrom low high body
    StmtFrom low high (src.If line e a b) = (m : ℕ) × StmtFrom low m a × StmtFrom m high b
    StmtFrom low high (src.Loop line order e step b) = StmtFrom low high b
    StmtFrom low high (src.OfEvents a) = EventFrom low high a
    StmtFrom low high (src.OfTasks a) = TaskFrom low high a
    StmtFrom low high a = low ≤ high

    StmtsFrom : ℕ → ℕ → Stmts → Type 0
    StmtsFrom low high src.Nil = low ≤ high
    StmtsFrom low high (src.Then a rest) = (m : ℕ) × StmtFrom low m a × StmtsFrom m high rest
    StmtsFrom low high (src.Scoped c rest) = (m : ℕ) × (low ≤ m) × Lies sized low m c × StmtsFrom m high rest
    StmtsFrom low high (src.Built c rest) = StmtsFrom low high rest

    EventFrom : ℕ → ℕ → EventStmt → Type 0
    EventFrom low high (src.Try line body hs) = (m : ℕ) × StmtsFrom low m body × HandlersFrom m high hs
    EventFrom low high (src.Enable line events cell a) = StmtFrom low high a
    EventFrom low high (src.Disable line events cell a) = StmtFrom low high a
    EventFrom low high a = low ≤ high

    HandlersFrom : ℕ → ℕ → Handlers → Type 0
    HandlersFrom low high src.NoHandlers = low ≤ high
    HandlersFrom low high (src.MoreHandlers resumes event cell line body rest) = (m : ℕ) × StmtsFrom low m body × HandlersFrom m high rest

    TaskFrom : ℕ → ℕ → TaskStmt → Type 0
    TaskFrom low high (src.Accept line site cs) = ClausesFrom low high cs
    TaskFrom low high a = low ≤ high

    ClausesFrom : ℕ → ℕ → Clauses → Type 0
    ClausesFrom low high src.NoClauses = low ≤ high
    ClausesFrom low high (src.Otherwise b) = StmtFrom low high b
    ClausesFrom low high (src.MoreClauses guard b cs) = (m : ℕ) × StmtFrom low m b × ClausesFrom m high cs

  mutual
    stmt_up : (low high : ℕ) (a : Stmt) → StmtFrom low high a → low ≤ high
    stmt_up low high (src.Block line body) h = stmts_up low high body h
    stmt_up low high (src.Whole line body) h = stmts_up low high body h
    stmt_up low high (src.If line e a b) h =
        let x = stmt_up low h.0 a h.1 in
        let y = stmt_up h.0 high b h.2 in
        omega (arith, x, y)
    stmt_up low high (src.Loop line order e step b) h = stmt_up low high b h
    stmt_up low high (src.OfEvents a) h = event_up low high a h
    stmt_up low high (src.OfTasks a) h = task_up low high a h
    stmt_up low high a h = h

    stmts_up : (low high : ℕ) (ss : Stmts) → StmtsFrom low high ss → low ≤ high
    stmts_up low high src.Nil h = h
    stmts_up low high (src.Then a rest) h =
        let x = stmt_up low h.0 a h.1 in
        let y = stmts_up h.0 high rest h.2 in
        omega (arith, x, y)
    stmts_up low high (src.Scoped c rest) h =
        let x = h.1 in
        let y = stmts_up h.0 high rest h.3 in
        omega (arith, x, y)
    stmts_up low high (src.Built c rest) h = stmts_up low high rest h

    event_up : (low high : ℕ) (a : EventStmt) → EventFrom low high a → low ≤ high
    event_up low high (src.Try line body hs) h =
        let x = stmts_up low h.0 body h.1 in
        let y = handlers_up h.0 high hs h.2 in
        omega (arith, x, y)
    event_up low high (src.Enable line events cell a) h = stmt_up low high a h
    event_up low high (src.Disable line events cell a) h = stmt_up low high a h
    event_up low high a h = h

    handlers_up : (low high : ℕ) (hs : Handlers) → HandlersFrom low high hs → low ≤ high
    handlers_up low high src.NoHandlers h = h
    handlers_up low high (src.MoreHandlers resumes event cell line body rest) h =
        let x = stmts_up low h.0 body h.1 in
        let y = handlers_up h.0 high rest h.2 in
        omega (arith, x, y)

    task_up : (low high : ℕ) (a : TaskStmt) → TaskFrom low high a → low ≤ high
    task_up low high (src.Accept line site cs) h = clauses_up low high cs h
    task_up low high a h = h

    clauses_up : (low high : ℕ) (cs : Clauses) → ClausesFrom low high cs → low ≤ high
    clauses_up low high src.NoClauses h = h
    clauses_up low high (src.Otherwise b) h = stmt_up low high b h
    clauses_up low high (src.MoreClauses guard b cs) h =
        let x = stmt_up low h.0 b h.1 in
        let y = clauses_up h.0 high cs h.2 in
        omega (arith, x, y)

  -- each scope is of what lies there

  lies_there : (low high wide top : ℕ) (c d : CleanUp) → wide ≤ low → high ≤ top → c ≡ d → Lies sized low high d → Lies sized wide top c
  lies_there low high wide top c d a b e h = lies_wider sized low high wide top c a b (subst (λ x. Lies sized low high x) (sym e) h)

  wider : (low high wide top : ℕ) (c : CleanUp) → wide ≤ low → high ≤ top → Lies sized low high c → Lies sized wide top c
  wider low high wide top c a b h = lies_wider sized low high wide top c a b h

  same : (n : ℕ) → n ≤ n
  same n = omega arith

  mutual
    stmt_lies : (c : CleanUp) (low high : ℕ) (a : Stmt) → StmtFrom low high a → InStmt c a → Lies sized low high c
    stmt_lies c low high (src.Block line body) h i = stmts_lies c low high body h i
    stmt_lies c low high (src.Whole line body) h i = stmts_lies c low high body h i
    stmt_lies c low high (src.If line e a b) h (inl i) = wider low h.0 low high c (same low) (stmt_up h.0 high b h.2) (stmt_lies c low h.0 a h.1 i)
    stmt_lies c low high (src.If line e a b) h (inr i) = wider h.0 high low high c (stmt_up low h.0 a h.1) (same high) (stmt_lies c h.0 high b h.2 i)
    stmt_lies c low high (src.Loop line order e step b) h i = stmt_lies c low high b h i
    stmt_lies c low high (src.OfEvents a) h i = event_lies c low high a h i
    stmt_lies c low high (src.OfTasks a) h i = task_lies c low high a h i
    stmt_lies c low high a h i = absurd i

    stmts_lies : (c : CleanUp) (low high : ℕ) (ss : Stmts) → StmtsFrom low high ss → InStmts c ss → Lies sized low high c
    stmts_lies c low high src.Nil h i = absurd i
    stmts_lies c low high (src.Then a rest) h (inl i) = wider low h.0 low high c (same low) (stmts_up h.0 high rest h.2) (stmt_lies c low h.0 a h.1 i)
    stmts_lies c low high (src.Then a rest) h (inr i) = wider h.0 high low high c (stmt_up low h.0 a h.1) (same high) (stmts_lies c h.0 high rest h.2 i)
    stmts_lies c low high (src.Scoped d rest) h (inl e) = lies_there low h.0 low high c d (same low) (stmts_up h.0 high rest h.3) e h.2
    stmts_lies c low high (src.Scoped d rest) h (inr i) = wider h.0 high low high c h.1 (same high) (stmts_lies c h.0 high rest h.3 i)
    stmts_lies c low high (src.Built d rest) h i = stmts_lies c low high rest h i

    event_lies : (c : CleanUp) (low high : ℕ) (a : EventStmt) → EventFrom low high a → InEvent c a → Lies sized low high c
    event_lies c low high (src.Try line body hs) h (inl i) = wider low h.0 low high c (same low) (handlers_up h.0 high hs h.2) (stmts_lies c low h.0 body h.1 i)
    event_lies c low high (src.Try line body hs) h (inr i) = wider h.0 high low high c (stmts_up low h.0 body h.1) (same high) (handlers_lies c h.0 high hs h.2 i)
    event_lies c low high (src.Enable line events cell a) h i = stmt_lies c low high a h i
    event_lies c low high (src.Disable line events cell a) h i = stmt_lies c low high a h i
    event_lies c low high a h i = absurd i

    handlers_lies : (c : CleanUp) (low high : ℕ) (hs : Handlers) → HandlersFrom low high hs → InHandlers c hs → Lies sized low high c
    handlers_lies c low high src.NoHandlers h i = absurd i
    handlers_lies c low high (src.MoreHandlers resumes event cell line body rest) h (inl i) = wider low h.0 low high c (same low) (handlers_up h.0 high rest h.2) (stmts_lies c low h.0 body h.1 i)
    handlers_lies c low high (src.MoreHandlers resumes event cell line body rest) h (inr i) = wider h.0 high low high c (stmts_up low h.0 body h.1) (same high) (handlers_lies c h.0 high rest h.2 i)

    task_lies : (c : CleanUp) (low high : ℕ) (a : TaskStmt) → TaskFrom low high a → InTask c a → Lies sized low high c
    task_lies c low high (src.Accept line site cs) h i = clauses_lies c low high cs h i
    task_lies c low high a h i = absurd i

    clauses_lies : (c : CleanUp) (low high : ℕ) (cs : Clauses) → ClausesFrom low high cs → InClauses c cs → Lies sized low high c
    clauses_lies c low high src.NoClauses h i = absurd i
    clauses_lies c low high (src.Otherwise b) h i = stmt_lies c low high b h i
    clauses_lies c low high (src.MoreClauses guard b cs) h (inl i) = wider low h.0 low high c (same low) (clauses_up h.0 high cs h.2) (stmt_lies c low h.0 b h.1 i)
    clauses_lies c low high (src.MoreClauses guard b cs) h (inr i) = wider h.0 high low high c (stmt_up low h.0 b h.1) (same high) (clauses_lies c h.0 high cs h.2 i)

  -- two of them are one, or lie apart

  abbrev Apart : CleanUp → CleanUp → Type 0
  Apart c d = (c ≡ d) ⊎ LieApart sized c d

  split : (c d : CleanUp) (low m high : ℕ) → Lies sized low m c → Lies sized m high d → Apart c d
  split c d low m high h k = inr (inl (record { low = low; cell = m; high = high; before = h; behind = k }))

  other : (c d : CleanUp) (low m high : ℕ) → Lies sized low m d → Lies sized m high c → Apart c d
  other c d low m high h k = inr (inr (record { low = low; cell = m; high = high; before = h; behind = k }))

  mutual
    stmt_apart : (c d : CleanUp) (low high : ℕ) (a : Stmt) → StmtFrom low high a → InStmt c a → InStmt d a → Apart c d
    stmt_apart c d low high (src.Block line body) h i j = stmts_apart c d low high body h i j
    stmt_apart c d low high (src.Whole line body) h i j = stmts_apart c d low high body h i j
    stmt_apart c d low high (src.If line e a b) h (inl i) (inl j) = stmt_apart c d low h.0 a h.1 i j
    stmt_apart c d low high (src.If line e a b) h (inl i) (inr j) = split c d low h.0 high (stmt_lies c low h.0 a h.1 i) (stmt_lies d h.0 high b h.2 j)
    stmt_apart c d low high (src.If line e a b) h (inr i) (inl j) = other c d low h.0 high (stmt_lies d low h.0 a h.1 j) (stmt_lies c h.0 high b h.2 i)
    stmt_apart c d low high (src.If line e a b) h (inr i) (inr j) = stmt_apart c d h.0 high b h.2 i j
    stmt_apart c d low high (src.Loop line order e step b) h i j = stmt_apart c d low high b h i j
    stmt_apart c d low high (src.OfEvents a) h i j = event_apart c d low high a h i j
    stmt_apart c d low high (src.OfTasks a) h i j = task_apart c d low high a h i j
    stmt_apart c d low high a h i j = absurd i

    stmts_apart : (c d : CleanUp) (low high : ℕ) (ss : Stmts) → StmtsFrom low high ss → InStmts c ss → InStmts d ss → Apart c d
    stmts_apart c d low high src.Nil h i j = absurd i
    stmts_apart c d low high (src.Then a rest) h (inl i) (inl j) = stmt_apart c d low h.0 a h.1 i j
    stmts_apart c d low high (src.Then a rest) h (inl i) (inr j) = split c d low h.0 high (stmt_lies c low h.0 a h.1 i) (stmts_lies d h.0 high rest h.2 j)
    stmts_apart c d low high (src.Then a rest) h (inr i) (inl j) = other c d low h.0 high (stmt_lies d low h.0 a h.1 j) (stmts_lies c h.0 high rest h.2 i)
    stmts_apart c d low high (src.Then a rest) h (inr i) (inr j) = stmts_apart c d h.0 high rest h.2 i j
    stmts_apart c d low high (src.Scoped x rest) h (inl e) (inl f) = inl (e ∙ sym f)
    stmts_apart c d low high (src.Scoped x rest) h (inl e) (inr j) = split c d low h.0 high (lies_there low h.0 low h.0 c x (same low) (same h.0) e h.2) (stmts_lies d h.0 high rest h.3 j)
    stmts_apart c d low high (src.Scoped x rest) h (inr i) (inl f) = other c d low h.0 high (lies_there low h.0 low h.0 d x (same low) (same h.0) f h.2) (stmts_lies c h.0 high rest h.3 i)
    stmts_apart c d low high (src.Scoped x rest) h (inr i) (inr j) = stmts_apart c d h.0 high rest h.3 i j
    stmts_apart c d low high (src.Built x rest) h i j = stmts_apart c d low high rest h i j

    event_apart : (c d : CleanUp) (low high : ℕ) (a : EventStmt) → EventFrom low high a → InEvent c a → InEvent d a → Apart c d
    event_apart c d low high (src.Try line body hs) h (inl i) (inl j) = stmts_apart c d low h.0 body h.1 i j
    event_apart c d low high (src.Try line body hs) h (inl i) (inr j) = split c d low h.0 high (stmts_lies c low h.0 body h.1 i) (handlers_lies d h.0 high hs h.2 j)
    event_apart c d low high (src.Try line body hs) h (inr i) (inl j) = other c d low h.0 high (stmts_lies d low h.0 body h.1 j) (handlers_lies c h.0 high hs h.2 i)
    event_apart c d low high (src.Try line body hs) h (inr i) (inr j) = handlers_apart c d h.0 high hs h.2 i j
    event_apart c d low high (src.Enable line events cell a) h i j = stmt_apart c d low high a h i j
    event_apart c d low high (src.Disable line events cell a) h i j = stmt_apart c d low high a h i j
    event_apart c d low high a h i j = absurd i

    handlers_apart : (c d : CleanUp) (low high : ℕ) (hs : Handlers) → HandlersFrom low high hs → InHandlers c hs → InHandlers d hs → Apart c d
    handlers_apart c d low high src.NoHandlers h i j = absurd i
    handlers_apart c d low high (src.MoreHandlers resumes event cell line body rest) h (inl i) (inl j) = stmts_apart c d low h.0 body h.1 i j
    handlers_apart c d low high (src.MoreHandlers resumes event cell line body rest) h (inl i) (inr j) = split c d low h.0 high (stmts_lies c low h.0 body h.1 i) (handlers_lies d h.0 high rest h.2 j)
    handlers_apart c d low high (src.MoreHandlers resumes event cell line body rest) h (inr i) (inl j) = other c d low h.0 high (stmts_lies d low h.0 body h.1 j) (handlers_lies c h.0 high rest h.2 i)
    handlers_apart c d low high (src.MoreHandlers resumes event cell line body rest) h (inr i) (inr j) = handlers_apart c d h.0 high rest h.2 i j

    task_apart : (c d : CleanUp) (low high : ℕ) (a : TaskStmt) → TaskFrom low high a → InTask c a → InTask d a → Apart c d
    task_apart c d low high (src.Accept line site cs) h i j = clauses_apart c d low high cs h i j
    task_apart c d low high a h i j = absurd i

    clauses_apart : (c d : CleanUp) (low high : ℕ) (cs : Clauses) → ClausesFrom low high cs → InClauses c cs → InClauses d cs → Apart c d
    clauses_apart c d low high src.NoClauses h i j = absurd i
    clauses_apart c d low high (src.Otherwise b) h i j = stmt_apart c d low high b h i j
    clauses_apart c d low high (src.MoreClauses guard b cs) h (inl i) (inl j) = stmt_apart c d low h.0 b h.1 i j
    clauses_apart c d low high (src.MoreClauses guard b cs) h (inl i) (inr j) = split c d low h.0 high (stmt_lies c low h.0 b h.1 i) (clauses_lies d h.0 high cs h.2 j)
    clauses_apart c d low high (src.MoreClauses guard b cs) h (inr i) (inl j) = other c d low h.0 high (stmt_lies d low h.0 b h.1 j) (clauses_lies c h.0 high cs h.2 i)
    clauses_apart c d low high (src.MoreClauses guard b cs) h (inr i) (inr j) = clauses_apart c d h.0 high cs h.2 i j

-- the cells that are counted for an object

abbrev making_cells : Program → Making → ℕ
making_cells p (APlain i) = class_cells p i
making_cells p m = 1

made_cells : (p : Program) (b : Base) (m : Making) → making p b ≡ Some m → element_cells (class_cells p) (object_of (classes_of p.items) b) ≡ making_cells p m
made_cells p b m h = by (object_of (classes_of p.items) b) h
  where
    plain : (y : Bool) (c : ℕ) → Some (if y then APlain c else AMutex c) ≡ Some m → (if y then class_cells p c else 1) ≡ making_cells p m
    plain true c e = let same : APlain c ≡ m = cc e in ap (making_cells p) same
    plain false c e = let same : AMutex c ≡ m = cc e in ap (making_cells p) same

    none : None ≡ Some m → ⊥
    none e = cc

    other : (c : Base) → making_by None c ≡ Some m → 1 ≡ making_cells p m
    other base.Cluster e = let same : ACluster ≡ m = cc e in ap (making_cells p) same
    other base.Processor e = let same : AProcessor ≡ m = cc e in ap (making_cells p) same
    other c e = absurd (none e)

    by : (o : Option FieldClass) → making_by o b ≡ Some m → element_cells (class_cells p) o ≡ making_cells p m
    by None e = other b e
    by (Some o) e = plain o.plain o.class e

abbrev count_of : Program → Declarator → ℕ
count_of p d = elements (value_of_name (constants_of p.items)) d

declared_size : (p : Program) (b : Base) (m : Making) (d : Declarator) → making p b ≡ Some m → d.by_ref ≡ false → declared_cells p b d ≡ count_of p d * making_cells p m
declared_size p b m d h e =
    ap (λ (r : Bool). count_of p d * element_cells (class_cells p) (if r then None else object_of (classes_of p.items) b)) e
    ∙ ap (λ (x : ℕ). count_of p d * x) (made_cells p b m h)

single_size : (p : Program) (d : Declarator) → d.len ≡ None → d.by_ref ≡ false → count_of p d ≡ 1
single_size p d l e =
    ap (λ (r : Bool). if r then 1 else length_in (value_of_name (constants_of p.items)) d.len) e
    ∙ ap (λ (x : Option expr.Expr). length_in (value_of_name (constants_of p.items)) x) l

clean_declared : (p : Program) (b : Base) (m : Making) (d : Declarator) (k : ℕ) → making p b ≡ Some m → d.by_ref ≡ false → Lies (Sized p) k (k + declared_cells p b d) (meaning.clean_up p m (meaning.length_of p d d.len) (src.Variable k))
clean_declared p b m d k h e = by d.len refl
  where
    by : (len : Option expr.Expr) → d.len ≡ len → Lies (Sized p) k (k + declared_cells p b d) (meaning.clean_up p m (meaning.length_of p d len) (src.Variable k))
    by None l =
        let size : declared_cells p b d ≡ 1 * making_cells p m = declared_size p b m d h e ∙ ap (λ (x : ℕ). x * making_cells p m) (single_size p d l e) in
        is_destroyed p (LiesAt (Sized p) k (k + declared_cells p b d) 1) m (src.Variable k) (omega arith, omega (arith, size))
    by (Some x) l =
        let size = declared_size p b m d h e in
        is_destroyed p (LiesIn (Sized p) k (k + declared_cells p b d) (count_of p d)) m (meaning.counted_element p m (count_of p d) (src.Variable k)) (refl, (omega arith, omega (arith, size)))

first_no_reference : (d : Declarator) (ds : List Declarator) → references (d ∷ ds) ≡ [] → d.by_ref ≡ false
first_no_reference d ds h = by d.by_ref refl h
  where
    by : (b : Bool) → d.by_ref ≡ b → (if b then d.pos ∷ references ds else references ds) ≡ [] → d.by_ref ≡ false
    by true e k = absurd (no_list d.pos (references ds) k)
    by false e k = e

others_no_reference : (d : Declarator) (ds : List Declarator) → references (d ∷ ds) ≡ [] → references ds ≡ []
others_no_reference d ds h = by d.by_ref h
  where
    by : (b : Bool) → (if b then d.pos ∷ references ds else references ds) ≡ [] → references ds ≡ []
    by true k = absurd (no_list d.pos (references ds) k)
    by false k = k

module _ (p : Program) where
  abbrev Ss : ℕ → ℕ → Stmts → Type 0
  Ss low high ss = StmtsFrom (Sized p) low high ss

  -- scopes count cells

  with_all_cells : (s : Scope) (b : Base) (ds : List Declarator) → (meaning.with_all p s b ds).cells ≡ s.cells + declarators_cells (declared_cells p b) ds
  with_all_cells s b [] = omega arith
  with_all_cells s b (d ∷ ds) = let ih = with_all_cells (meaning.with_declared p s b d) b ds in omega (arith, ih)

  for_scope_cells : (x : stmt.ForStart) (s : Scope) → (meaning.for_scope p x s).cells ≡ s.cells + for_cells x (declared_cells p)
  for_scope_cells stmt.NoFor s = omega arith
  for_scope_cells (stmt.ForDeclare place b ds) s = with_all_cells s b ds
  for_scope_cells (stmt.ForEvaluate e) s = omega arith

  with_event_cells : (param event : Option (List ℕ)) (s : Scope) → (meaning.with_event p param event s).cells ≡ s.cells
  with_event_cells None event s = refl
  with_event_cells (Some name) None s = refl
  with_event_cells (Some name) (Some event) s = refl

  past_clauses_cells : (cs : stmt.Clauses) (s : Scope) → (meaning.scope_past_clauses p cs s).cells ≡ s.cells + clauses_cells cs (declared_cells p)
  past_clauses_cells stmt.NoClauses s = omega arith
  past_clauses_cells (stmt.MoreClauses (stmt.Accepts place guard members body) rest) s =
      let ih = past_clauses_cells rest (meaning.scope_past p body s) in omega (arith, ih)

  -- declarations

  build : (n line : ℕ) (m : Making) (len : Option ℕ) (place : Expr) (args : List Meant) → StmtFrom (Sized p) n n (meaning.build p line m len place args)
  build n line m None place args = omega arith
  build n line m (Some k) place args = omega arith

  moved : (low mid high : ℕ) (ss : Stmts) → low ≡ mid → Ss mid high ss → Ss low high ss
  moved low mid high ss e h = subst (λ n. Ss n high ss) (sym e) h

  objects : (m : Making) (line : ℕ) (b : Base) (ds : List Declarator) (s : Scope) (rest : Stmts) (mid high : ℕ) → mid ≡ s.cells + declarators_cells (declared_cells p b) ds → making p b ≡ Some m → references ds ≡ [] → Ss mid high rest → Ss s.cells high (meaning.objects_scoped p m line b ds s rest)
  objects m line b [] s rest mid high q e f h = moved s.cells mid high rest (omega (arith, q)) h
  objects m line b (d ∷ ds) s rest mid high q e f h =
      (s.cells, omega arith, (s.cells, build s.cells line m (meaning.length_of p d d.len) (src.Variable s.cells) (meaning.start_args p s d.start), (s.cells + declared_cells p b d, omega arith, clean_declared p b m d s.cells e (first_no_reference d ds f), objects m line b ds (meaning.with_declared p s b d) rest mid high (omega (arith, q)) e (others_no_reference d ds f) h)))

  declared_then : (b : Base) (m : Option Making) (line : ℕ) (ds : List Declarator) (s : Scope) (rest : Stmts) (mid high : ℕ) → mid ≡ s.cells + declarators_cells (declared_cells p b) ds → making p b ≡ m → references ds ≡ [] → Ss mid high rest → Ss s.cells high (meaning.declared_then p m line b ds s rest)
  declared_then b None line ds s rest mid high q e f h = (mid, omega (arith, q), h)
  declared_then b (Some m) line ds s rest mid high q e f h = objects m line b ds s rest mid high q e f h

  declared_alone : (b : Base) (m : Option Making) (line : ℕ) (ds : List Declarator) (s : Scope) (high : ℕ) → high ≡ s.cells + declarators_cells (declared_cells p b) ds → making p b ≡ m → references ds ≡ [] → StmtFrom (Sized p) s.cells high (meaning.declared_alone p m line b ds s)
  declared_alone b None line ds s high q e f = omega (arith, q)
  declared_alone b (Some m) line ds s high q e f = objects m line b ds s src.Nil high high q e f (omega arith)

  start_then : (line : ℕ) (x : stmt.ForStart) (s : Scope) (rest : Stmts) (mid high : ℕ) → mid ≡ s.cells + for_cells x (declared_cells p) → started_references x ≡ [] → Ss mid high rest → Ss s.cells high (meaning.start_then p line x s rest)
  start_then line stmt.NoFor s rest mid high q f h = (mid, omega (arith, q), h)
  start_then line (stmt.ForDeclare place b ds) s rest mid high q f h = declared_then b (making p b) line ds s rest mid high q refl f h
  start_then line (stmt.ForEvaluate e) s rest mid high q f h = (mid, omega (arith, q), h)

  stmt_then : (t : stmt.Stmt) (s : Scope) (a : Stmt) (rest : Stmts) (mid high : ℕ) → mid ≡ s.cells + stmt_cells t (declared_cells p) → gathered own_references t ≡ [] → StmtFrom (Sized p) s.cells mid a → Ss mid high rest → Ss s.cells high (meaning.stmt_then p t s a rest)
  stmt_then (stmt.Declare place b ds) s a rest mid high q f n h = declared_then b (making p b) place.line ds s rest mid high q refl f h
  stmt_then t s a rest mid high q f n h = (mid, n, h)

  mutual
    one : (t : stmt.Stmt) (s : Scope) (high : ℕ) → high ≡ s.cells + stmt_cells t (declared_cells p) → gathered own_references t ≡ [] → StmtFrom (Sized p) s.cells high (meaning.stmt_meant p t s)
    one (stmt.Block place body) s high q g = all body s high q g
    one (stmt.Declare place b ds) s high q g = declared_alone b (making p b) place.line ds s high q refl g
    one (stmt.If place e chosen other) s high q g =
        (s.cells + stmt_cells chosen (declared_cells p), one chosen s (s.cells + stmt_cells chosen (declared_cells p)) refl (none_left (gathered own_references chosen) (gathered_maybe own_references other) g), maybe other (meaning.scope_past p chosen s) high (omega (arith, q)) (none_right (gathered own_references chosen) (gathered_maybe own_references other) g))
    one (stmt.While place e body) s high q g = one body s high q g
    one (stmt.Do place body e) s high q g = one body s high q g
    one (stmt.For place x e f body) s high q g =
        let inner : Scope = meaning.for_scope p x s in
        let loop : Stmt = src.Loop place.line (meaning.order_of p e) (meaning.test_of p inner e) (meaning.step_of p inner f) (meaning.stmt_meant p body inner) in
        let c = for_scope_cells x s in
        start_then place.line x s (src.Then loop src.Nil) inner.cells high c (none_left (started_references x) (gathered own_references body) g) (high, one body inner high (omega (arith, q, c)) (none_right (started_references x) (gathered own_references body) g), omega arith)
    one (stmt.Try place brace body hs) s high q g =
        let mid : ℕ = s.cells + stmts_cells body (declared_cells p) in
        (mid, (mid, all body s mid refl (none_left (gathered_all own_references body) (gathered_handlers own_references hs) g), omega arith), handlers hs (meaning.scope_past_all p body s) high (omega (arith, q)) (none_right (gathered_all own_references body) (gathered_handlers own_references hs) g))
    one (stmt.Enable place events body) s high q g = one body (meaning.within_events p s) high q g
    one (stmt.Disable place events body) s high q g = one body (meaning.within_events p s) high q g
    one (stmt.Accept place cs other) s high q g =
        let inner : Scope = meaning.within_accept p s in
        let behind : Scope = meaning.scope_past_clauses p cs inner in
        let c : behind.cells ≡ s.cells + clauses_cells cs (declared_cells p) = past_clauses_cells cs inner in
        clauses cs inner (meaning.else_meant p other behind) behind.cells high c (none_left (gathered_clauses own_references cs) (gathered_maybe own_references other) g) (otherwise other behind high (omega (arith, q, c)) (none_right (gathered_clauses own_references cs) (gathered_maybe own_references other) g))
    one t s high q g = omega (arith, q)

    clauses : (cs : stmt.Clauses) (s : Scope) (other : Clauses) (mid high : ℕ) → mid ≡ s.cells + clauses_cells cs (declared_cells p) → gathered_clauses own_references cs ≡ [] → ClausesFrom (Sized p) mid high other → ClausesFrom (Sized p) s.cells high (meaning.clauses_meant p cs s other)
    clauses stmt.NoClauses s other mid high q g h = subst (λ n. ClausesFrom (Sized p) n high other) (omega (arith, q)) h
    clauses (stmt.MoreClauses (stmt.Accepts place guard members body) rest) s other mid high q g h =
        (s.cells + stmt_cells body (declared_cells p), one body s (s.cells + stmt_cells body (declared_cells p)) refl (none_left (gathered own_references body) (gathered_clauses own_references rest) g), clauses rest (meaning.scope_past p body s) other mid high (omega (arith, q)) (none_right (gathered own_references body) (gathered_clauses own_references rest) g) h)

    otherwise : (t : stmt.MaybeStmt) (s : Scope) (high : ℕ) → high ≡ s.cells + maybe_cells t (declared_cells p) → gathered_maybe own_references t ≡ [] → ClausesFrom (Sized p) s.cells high (meaning.else_meant p t s)
    otherwise stmt.NoStmt s high q g = omega (arith, q)
    otherwise (stmt.OneStmt body) s high q g = one body s high q g

    handlers : (hs : stmt.Handlers) (s : Scope) (high : ℕ) → high ≡ s.cells + handlers_cells hs (declared_cells p) → gathered_handlers own_references hs ≡ [] → HandlersFrom (Sized p) s.cells high (meaning.handlers_meant p hs s)
    handlers stmt.NoHandlers s high q g = omega (arith, q)
    handlers (stmt.MoreHandlers (stmt.Handles place kind event param brace body) rest) s high q g =
        let x : stmt.Handler = stmt.Handles place kind event param brace body in
        let inner : Scope = meaning.in_handler p x s in
        let c : inner.cells ≡ s.cells = with_event_cells param event s in
        let mid : ℕ = s.cells + stmts_cells body (declared_cells p) in
        (mid, subst (λ n. Ss n mid (meaning.stmts_meant p body inner)) c (all body inner mid (omega (arith, c)) (none_left (gathered_all own_references body) (gathered_handlers own_references rest) g)), handlers rest (meaning.scope_past_handler p x s) high (omega (arith, q)) (none_right (gathered_all own_references body) (gathered_handlers own_references rest) g))

    maybe : (t : stmt.MaybeStmt) (s : Scope) (high : ℕ) → high ≡ s.cells + maybe_cells t (declared_cells p) → gathered_maybe own_references t ≡ [] → StmtFrom (Sized p) s.cells high (meaning.maybe_meant p t s)
    maybe stmt.NoStmt s high q g = omega (arith, q)
    maybe (stmt.OneStmt body) s high q g = one body s high q g

    all : (ts : stmt.Stmts) (s : Scope) (high : ℕ) → high ≡ s.cells + stmts_cells ts (declared_cells p) → gathered_all own_references ts ≡ [] → Ss s.cells high (meaning.stmts_meant p ts s)
    all stmt.NoStmts s high q g = omega (arith, q)
    all (stmt.MoreStmts t ts) s high q g =
        let mid : ℕ = s.cells + stmt_cells t (declared_cells p) in
        stmt_then t s (meaning.stmt_meant p t s) (meaning.stmts_meant p ts (meaning.scope_after p t s)) mid high refl (none_left (gathered own_references t) (gathered_all own_references ts) g) (one t s mid refl (none_left (gathered own_references t) (gathered_all own_references ts) g)) (all ts (meaning.scope_after p t s) high (omega (arith, q)) (none_right (gathered own_references t) (gathered_all own_references ts) g))

  -- fields of the object at hand take no cells of the frame

  abbrev own : Shape → ℕ → Expr
  own s i = src.OfObject (src.OwnField s i)

  own_lies : (m : Making) (len : Option ℕ) (s : Shape) (i low high : ℕ) → Lies (Sized p) low high (meaning.clean_up p m len (own s i))
  own_lies m None s i low high = is_destroyed p (LiesAt (Sized p) low high 1) m (own s i) tt
  own_lies m (Some n) s i low high = is_destroyed p (LiesIn (Sized p) low high n) m (meaning.counted_element p m n (own s i)) (refl, tt)

  module _ (n top : ℕ) where
    -- statements that take these cells
    abbrev Good : Stmts → Type 0
    Good ss = Ss n top ss

    first : (a : Stmt) (rest : Stmts) → StmtFrom (Sized p) n n a → Good rest → Good (src.Then a rest)
    first a rest h k = (n, h, k)

    free : (c : CleanUp) (rest : Stmts) → Lies (Sized p) n n c → Good rest → Good (src.Scoped c rest)
    free c rest l h = (n, omega arith, l, h)

    field_started : (f : ClassField) (place : Expr) (args : List Meant) (rest : Stmts) → Good rest → Good (meaning.field_started p f place args rest)
    field_started f place [] rest h = h
    field_started f place (m ∷ ms) rest h = first (src.Evaluate 0 (meaning.field_start p f.declarator.by_ref (shape_of f.base) place m)) rest (omega arith) h

    field_built : (m : Option Making) (f : ClassField) (len : Option ℕ) (place : Expr) (args : List Meant) (rest : Stmts) → Good rest → Good (meaning.field_built p m f len place args rest)
    field_built None f len place args rest h = field_started f place args rest h
    field_built (Some m) f len place args rest h = first (meaning.build p 0 m len place args) (src.Built (meaning.clean_up p m len place) rest) (build n 0 m len place args) h

    field_left : (m : Option Making) (len : Option ℕ) (s : Shape) (i : ℕ) (rest : Stmts) → Good rest → Good (meaning.field_left p m len (own s i) rest)
    field_left None len s i rest h = h
    field_left (Some m) len s i rest h = free (meaning.clean_up p m len (own s i)) rest (own_lies m len s i n n) h

    module _ (c : whole.Class) (i : ℕ) where
      fields_built : (inits : List whole.Init) (s : Scope) (fs : List ClassField) (k : ℕ) (rest : Stmts) → Good rest → Good (meaning.fields_built p c i inits s fs k rest)
      fields_built inits s [] k rest h = h
      fields_built inits s (f ∷ fs) k rest h =
          field_built (meaning.field_making p f) f (meaning.length_in_class p c i f) (tree.field_place (class_shape p i) k tree.Own) (meaning.init_args p s (meaning.init_named p inits f.declarator.name)) (meaning.fields_built p c i inits s fs (suc k) rest) (fields_built inits s fs (suc k) rest h)

      fields_left : (fs : List ClassField) (k : ℕ) (rest : Stmts) → Good rest → Good (meaning.fields_left p c i fs k rest)
      fields_left [] k rest h = h
      fields_left (f ∷ fs) k rest h =
          field_left (meaning.field_making p f) (meaning.length_in_class p c i f) (class_shape p i) k (meaning.fields_left p c i fs (suc k) rest) (fields_left fs (suc k) rest h)

    set_up : (b : Bool) (i : ℕ) (rest : Stmts) → Good rest → Good (meaning.set_up p b i rest)
    set_up false i rest h = h
    set_up true i rest h = first (src.OfTasks (src.SetUp (meaning.main_at p i))) (src.Built src.Forgets rest) (omega arith) h

    started_in : (b : Bool) (body : Stmts) → Good body → Good (meaning.started_in p b body)
    started_in false body h = h
    started_in true body h = h

    enlivened : n ≤ top → (b : Bool) → Good (meaning.enlivened p b)
    enlivened le false = le
    enlivened le true = first (src.OfTasks src.Enliven) src.Nil (omega arith) le

    taken_down : (b : Bool) (body : Stmts) → Good body → Good (meaning.taken_down p b body)
    taken_down false body h = h
    taken_down true body h = first (src.OfTasks src.TakeDown) body (omega arith) h

    forgotten : (b : Bool) (rest : Stmts) → Good rest → Good (meaning.forgotten p b rest)
    forgotten false rest h = h
    forgotten true rest h = free src.Forgets rest tt h

    freed : (k : Kind) (i : ℕ) (rest : Stmts) → Good rest → Good (meaning.freed p k i rest)
    freed kind.Monitor i rest h = free (src.Frees None) rest tt h
    freed kind.Cormonitor i rest h = free (src.Frees None) rest tt h
    freed kind.Task i rest h = free (src.Frees (Some (meaning.main_at p i))) rest tt h
    freed kind.Class i rest h = h
    freed kind.Coroutine i rest h = h
    freed kind.Event i rest h = h

    ending : (b : Bool) (rest : Stmts) → Good rest → Good (meaning.ending p b rest)
    ending false rest h = h
    ending true rest h = free src.Ends rest tt h

    construction : (c : Option whole.Class) (i : ℕ) (inits : List whole.Init) (s : Scope) (body : Stmts) → Good body → Good (meaning.construction p c i inits s body)
    construction None i inits s body h = h
    construction (Some c) i inits s body h =
        freed c.kind i _ (set_up (has_execution c.kind) i _ (fields_built c i inits s (fields_of c.members) (leading_cells c.kind) _ (started_in (has_execution c.kind) body h)))

    destruction : (c : Option whole.Class) (i : ℕ) (body : Stmts) → Good body → Good (meaning.destruction p c i body)
    destruction None i body h = h
    destruction (Some c) i body h =
        ending (is_mutex c.kind) _ (forgotten (has_execution c.kind) _ (fields_left c i (fields_of c.members) (leading_cells c.kind) _ (taken_down (has_execution c.kind) body h)))

  construction_ends : (n : ℕ) (c : Option whole.Class) (i : ℕ) → Ss n n (meaning.construction_ends p c i)
  construction_ends n None i = omega arith
  construction_ends n (Some c) i = enlivened n n (omega arith) (has_execution c.kind)

  owing : (n line : ℕ) (u : Purpose) → Ss n n (meaning.owing p line u)
  owing n line src.Function = (n, omega arith, omega arith)
  owing n line src.TaskMain = omega arith
  owing n line src.CoroutineMain = omega arith
  owing n line src.Procedure = omega arith
  owing n line src.Builder = omega arith

  module _ (n top : ℕ) where
    plain_body : (b : Bool) (r : whole.Routine) (body : Stmts) → Ss n top body → Ss n top (meaning.plain_body p b r body)
    plain_body false r body h = h
    plain_body true r body h = (n, omega arith, tt, (top, h, owing top r.brace.line (meaning.value_purpose p r.sig.ret)))

    body_by : (x : Role) (r : whole.Routine) (s : Scope) → Ss n top (meaning.stmts_meant p r.body s) → Ss n top (meaning.body_by p x r s)
    body_by role.Plain r s h = plain_body (meaning.has_number_in p (meaning.class_by p s.class) r.sig) r (meaning.stmts_meant p r.body s) h
    body_by role.Constructor r s h =
        construction n top (meaning.class_by p s.class) (meaning.place_or_zero p s.class) r.inits s _ (top, h, construction_ends top (meaning.class_by p s.class) (meaning.place_or_zero p s.class))
    body_by role.Destructor r s h =
        destruction n top (meaning.class_by p s.class) (meaning.place_or_zero p s.class) (src.Then (src.Whole r.brace.line (meaning.stmts_meant p r.body s)) src.Nil) (top, h, omega arith)

  unwritten_body : (x : Role) (i : ℕ) → Ss 0 0 (meaning.unwritten_body p x i)
  unwritten_body role.Plain i = omega arith
  unwritten_body role.Constructor i = construction 0 0 (class_at p i) i [] (meaning.nowhere p) (meaning.construction_ends p (class_at p i) i) (construction_ends 0 (class_at p i) i)
  unwritten_body role.Destructor i = destruction 0 0 (class_at p i) i src.Nil (omega arith)

  -- all routines of a source

  abbrev Between : Routine → Type 0
  Between r = (low high : ℕ) × (r.params ≤ low) × (high ≤ r.cells) × Ss low high r.body

  abbrev AllBetween : List Routine → Type 0
  AllBetween [] = Unit {0}
  AllBetween (r ∷ rs) = Between r × AllBetween rs

  abbrev MaybeBetween : Option Routine → Type 0
  MaybeBetween None = Unit {0}
  MaybeBetween (Some r) = Between r

  both_lists : (rs us : List Routine) → AllBetween rs → AllBetween us → AllBetween (rs ++ us)
  both_lists [] us h k = k
  both_lists (r ∷ rs) us h k = (h.0, both_lists rs us h.1 k)

  by_number : (rs : List Routine) → AllBetween rs → (n : ℕ) → MaybeBetween (slice_get rs n)
  by_number [] h n = tt
  by_number (r ∷ rs) h zero = h.0
  by_number (r ∷ rs) h (suc n) = by_number rs h.1 n

  one_routine : (d : Defined) (number texts sites : ℕ) → IsPlain p d.routine → Between (meaning.routine_meant p d.routine (meaning.routine_scope p d.routine (meaning.place_by p d) number texts sites))
  one_routine d number texts sites g =
      let r : whole.Routine = d.routine in
      let s : Scope = meaning.routine_scope p r (meaning.place_by p d) number texts sites in
      let high : ℕ = s.cells + stmts_cells r.body (declared_cells p) in
      let few = g.1 in
      (s.cells, high, omega (arith, few), omega arith, body_by s.cells high r.sig.role r s (all r.body s high refl g.0))

  written : (ds : List Defined) (number texts sites : ℕ) → ArePlain p ds → AllBetween (meaning.routines_meant p ds number texts sites)
  written [] number texts sites h = tt
  written (d ∷ ds) number texts sites h =
      (one_routine d number texts sites h.0, written ds (number + 1) (texts + length (gathered_all own_texts d.routine.body)) (sites + length (gathered_all (own_sites d.class d.number) d.routine.body)) h.1)

  unwritten : (us : List Unwritten) → AllBetween (meaning.all_unwritten p us)
  unwritten [] = tt
  unwritten (u ∷ us) = ((0, 0, omega arith, omega arith, unwritten_body u.role u.class), unwritten us)

  scopes_apart : (o : Option Routine) → MaybeBetween o → (c d : CleanUp) → InRoutine c o → InRoutine d o → (c ≡ d) ⊎ LieApart (Sized p) c d
  scopes_apart None h c d i j = absurd i
  scopes_apart (Some r) h c d i j = stmts_apart (Sized p) c d h.0 h.1 r.body h.4 i j

-- all scopes of a routine are of what lies behind its parameters, in the cells of its frame
pub record LiesBehind (p : Program) (q : Routine) (c : CleanUp) : Type 0 where
  pub low : ℕ
  pub high : ℕ
  pub params : q.params ≤ low
  pub cells : high ≤ q.cells
  pub lies : Lies (Sized p) low high c

all_between : (p : Program) → breaks_of p ≡ [] → (r : ℕ) → MaybeBetween p (slice_get (source_of p).routines r)
all_between p accepted r =
    by_number p (source_of p).routines (both_lists p (meaning.routines_meant p (routines_of p) 0 0 0) (meaning.all_unwritten p (unwritten_of p)) (written p (routines_of p) 0 0 0 (are_plain p accepted)) (unwritten p (unwritten_of p))) r

pub scope_behind : (p : Program) → breaks_of p ≡ [] → (r : ℕ) (q : Routine) → slice_get (source_of p).routines r ≡ Some q → (c : CleanUp) → IsScopeOf (source_of p) r c → LiesBehind p q c
scope_behind p accepted r q e c i =
    let h : Between p q = subst (MaybeBetween p) e (all_between p accepted r) in
    record { low = h.0; high = h.1; params = h.2; cells = h.3; lies = stmts_lies (Sized p) c h.0 h.1 q.body h.4 (subst (InRoutine c) e i) }

pub law_scopes : LawScopes
law_scopes p accepted r c d i j = scopes_apart p (slice_get (source_of p).routines r) (all_between p accepted r) c d i j
