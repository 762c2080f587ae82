-- What statements of a program stand for keeps to the cells that are counted for them.
use Rattle.std.proofs.Common.{◌≡◌, ℕ, ◌+◌, ◌*◌, ◌≤◌, ◌++◌, Bool, true, false, List, [], ◌∷◌, Option, Some, None, refl, sym, ap, ◌∙◌, subst, arith}
use Rattle.std.specs.Prelude.{if◌then◌else◌}
use Rattle.uc_tree.specs.declared.kinds.Base.{Base}
use Rattle.uc_tree.specs.declared.kinds.Base.TheVariants as base
use Rattle.uc_tree.specs.declared.kinds.Role.{Role}
use Rattle.uc_tree.specs.declared.kinds.Role.TheVariants as role
use Rattle.uc_tree.specs.declared.rows.FieldClass.{FieldClass}
use Rattle.uc_tree.specs.Rows.{element_cells}
use Rattle.uc_tree.specs.Constants.{constants_of, value_of_name, elements, length_in}
use Rattle.uc_tree.specs.Cells.{classes_of, class_cells, object_of, declared_cells, declarators_cells, stmt_cells, stmts_cells, maybe_cells, handlers_cells, clauses_cells, for_cells}
use Rattle.uc_tree.specs.Hidden.{EVENT_FIELDS, KEPT_CELLS, hidden_in, hidden_in_all, hidden_in_maybe, hidden_in_handlers, hidden_in_clauses, raised_cells}
use Rattle.uc_tree.specs.Gathered.{gathered, gathered_all, gathered_maybe, gathered_handlers, gathered_clauses}
use Rattle.uc_tree.specs.Expressions as expr
use Rattle.uc_tree.specs.Statements as stmt
use Rattle.uc_tree.specs.Statements.{Declarator}
use Rattle.uc_tree.specs.Programs.{Program}
use Rattle.uc_tree.specs.Objects.{Making, APlain, AMutex, ACluster, AProcessor, making, making_by, written_at, shape_of}
use Rattle.uc_tree.specs.Source as src
use Rattle.uc_tree.specs.Source.{Shape, Expr, Stmt, Stmts, Clauses, Handlers, Declared, Item, Target, CleanUp, Raised}
use Rattle.uc_resolve.specs.Standings as tree
use Rattle.uc_resolve.specs.Standings.{Meant, Context}
use Rattle.uc_resolve.specs.Resolve as meaning
use Rattle.uc_resolve.specs.Resolve.{Scope}
use Rattle.uc_state_laws.specs.Ordinary.{Ordinary, OrdinaryMaybe, OrdinaryItems, OrdinaryTargets, IsNew, Evaluated}
use Rattle.uc_state_laws.specs.Rooms.{Room, IsWithin, LiesAt, LiesIn, Destroyed, Lies, Keeps, DeclaredIn, RaisedIn, StmtIn, StmtsIn, HandlersIn, ClausesIn}
use Rattle.uc_state_laws.specs.Layout.{destructor_by, Sized, references, started_references, own_references}
use Rattle.uc_state_laws.specs.Clusters.{IsUnbound, Begins, HandlersBegin}
use Rattle.uc_state_laws.proofs.Clustering.{IsByNumber, follows, unbound_ordinary, declared, opened}
use Rattle.uc_state_laws.proofs.RoomLemmas.{new_ordinary, ordinary_evaluated}
use Rattle.uc_state_laws.proofs.Expressions as expressions
use Rattle.uc_state_laws.proofs.Expressions.{AllOrdinary}

-- no element of two lists

pub no_list : {X : Type 0} (x : X) (xs : List X) → x ∷ xs ≡ [] → ⊥
no_list x xs h = cc

pub none_left : {X : Type 0} (xs ys : List X) → xs ++ ys ≡ [] → xs ≡ []
none_left [] ys h = refl
none_left (x ∷ xs) ys h = absurd (no_list x (xs ++ ys) h)

pub none_right : {X : Type 0} (xs ys : List X) → xs ++ ys ≡ [] → ys ≡ []
none_right [] ys h = h
none_right (x ∷ xs) ys h = absurd (no_list x (xs ++ ys) h)

-- a room has so many cells, and so many hidden ones, from those of a scope on
pub record Takes (o : Room) (s : Scope) (n h : ℕ) : Type 0 where
  pub low : o.low ≤ s.cells
  pub high : s.cells + n ≤ o.high
  pub hidden : o.hidden ≤ s.hidden
  pub last : s.hidden + h ≤ o.last

room_stands : (o : Room) (s : Scope) (n h : ℕ) → Takes o s n h → o.low ≤ o.high
room_stands o s n h t =
    let a = t.low in
    let b = t.high in
    omega (arith, a, b)

takes_first : (o : Room) (s : Scope) (a b c d : ℕ) → Takes o s (a + b) (c + d) → Takes o s a c
takes_first o s a b c d t =
    let high = t.high in
    let last = t.last in
    record { low = t.low; high = omega (arith, high); hidden = t.hidden; last = omega (arith, last) }

takes_next : (o : Room) (s u : Scope) (a b c d : ℕ) → u.cells ≡ s.cells + a → u.hidden ≡ s.hidden + c → Takes o s (a + b) (c + d) → Takes o u b d
takes_next o s u a b c d e f t =
    let low = t.low in
    let high = t.high in
    let hidden = t.hidden in
    let last = t.last in
    record { low = omega (arith, low, e); high = omega (arith, high, e); hidden = omega (arith, hidden, f); last = omega (arith, last, f) }

-- in a scope whose first cells are the same
takes_as : (o : Room) (s u : Scope) (a c : ℕ) → u.cells ≡ s.cells → u.hidden ≡ s.hidden → Takes o s a c → Takes o u a c
takes_as o s u a c e f t =
    let low = t.low in
    let high = t.high in
    let hidden = t.hidden in
    let last = t.last in
    record { low = omega (arith, low, e); high = omega (arith, high, e); hidden = omega (arith, hidden, f); last = omega (arith, last, f) }

-- objects

abbrev making_cells : Program → Making → ℕ
making_cells p (APlain i) = class_cells p i
making_cells p m = 1

called_by : (p : Program) (i : ℕ) (wanted : Role) (place : Expr) (args : List Meant) (r : Option ℕ) → Ordinary place → AllOrdinary args → Ordinary (meaning.called_by p i wanted place args r)
called_by p i wanted place args None h k = h
called_by p i wanted place args (Some r) h k = (h, expressions.args_by (tree.params_of p r) args k)

made_by : (p : Program) (low i : ℕ) (place : Expr) (args : List Meant) (r : Option ℕ) → IsNew low place → AllOrdinary args → Evaluated low (meaning.made_by p i place args r)
made_by p low i place args None h k = (h, tt)
made_by p low i place args (Some r) h k = (h, expressions.args_by (tree.params_of p r) args k)

ended_by : (p : Program) (low i : ℕ) (object : Expr) (r : Option ℕ) → Ordinary object → Evaluated low (meaning.ended_by p i object r)
ended_by p low i object None h = h
ended_by p low i object (Some r) h = h

cluster_in : (args : List Meant) → AllOrdinary args → Ordinary (meaning.cluster_in args)
cluster_in [] h = tt
cluster_in (m ∷ ms) h = h.0.expr

constructed : (p : Program) (low : ℕ) (m : Making) (place : Expr) (args : List Meant) → IsNew low place → AllOrdinary args → Evaluated low (meaning.constructed p m place args)
constructed p low (APlain i) place args h k =
    ordinary_evaluated low (meaning.called_by p i role.Constructor place args (written_at p i role.Constructor)) (called_by p i role.Constructor place args (written_at p i role.Constructor) (new_ordinary low place h) k)
constructed p low (AMutex i) place args h k = made_by p low i place args (written_at p i role.Constructor) h k
constructed p low ACluster place args h k = (h, tt)
constructed p low AProcessor place args h k = (h, cluster_in args k)

destroyed : (p : Program) (low : ℕ) (m : Making) (place : Expr) → Ordinary place → Evaluated low (meaning.destroyed p m place)
destroyed p low (APlain i) place h =
    ordinary_evaluated low (meaning.called_by p i role.Destructor place [] (written_at p i role.Destructor)) (called_by p i role.Destructor place [] (written_at p i role.Destructor) h tt)
destroyed p low (AMutex i) place h = ended_by p low i (src.Load place) (written_at p i role.Destructor) h
destroyed p low ACluster place h = h
destroyed p low AProcessor place h = h

pub build : (p : Program) (o : Room) (line : ℕ) (m : Making) (len : Option ℕ) (place : Expr) (args : List Meant) → IsNew o.low place → AllOrdinary args → StmtIn (Sized p) o (meaning.build p line m len place args)
build p o line m None place args h k = constructed p o.low m place args h k
build p o line m (Some n) place args h k =
    (constructed p o.low m (meaning.counted_element p m n place) [] (h, tt) tt, destroyed p o.low m (meaning.counted_element p m n place) (new_ordinary o.low place h, tt))

-- what destroys an object tells how many cells that has

pub is_destroyed : (p : Program) (lies : ℕ → Expr → Type 0) (m : Making) (place : Expr) → lies (making_cells p m) place → Destroyed (Sized p) lies (meaning.destroyed p m place)
is_destroyed p lies (APlain i) place h = by (written_at p i role.Destructor) refl
  where
    by : (r : Option ℕ) → written_at p i role.Destructor ≡ r → Destroyed (Sized p) lies (meaning.called_by p i role.Destructor place [] r)
    by None e = (class_cells p i, (i, sym (ap (destructor_by p i) e), refl), h)
    by (Some r) e = (class_cells p i, (i, sym (ap (destructor_by p i) e), refl), h, expressions.args_by (tree.params_of p r) [] tt)
is_destroyed p lies (AMutex i) place h = by (written_at p i role.Destructor)
  where
    by : (r : Option ℕ) → Destroyed (Sized p) lies (meaning.ended_by p i (src.Load place) r)
    by None = h
    by (Some r) = h
is_destroyed p lies ACluster place h = h
is_destroyed p lies AProcessor place h = h

clean_single : (p : Program) (m : Making) (low high k : ℕ) → low ≤ k → k + 1 * making_cells p m ≤ high → Lies (Sized p) low high (meaning.clean_up p m None (src.Variable k))
clean_single p m low high k a b = is_destroyed p (LiesAt (Sized p) low high 1) m (src.Variable k) (a, b)

clean_all : (p : Program) (m : Making) (low high k n : ℕ) → low ≤ k → k + n * making_cells p m ≤ high → Lies (Sized p) low high (meaning.clean_up p m (Some n) (src.Variable k))
clean_all p m low high k n a b =
    is_destroyed p (LiesIn (Sized p) low high n) m (meaning.counted_element p m n (src.Variable k)) (refl, (a, b))

-- a clean-up that destroys keeps no hidden cell
pub clean_keeps : (p : Program) (m : Making) (len : Option ℕ) (place : Expr) (low high : ℕ) → Keeps (Sized p) low high (meaning.clean_up p m len place)
clean_keeps p m None place low high = tt
clean_keeps p m (Some n) place low high = tt

-- the cells that are counted for an object

made_cells : (p : Program) (b : Base) (m : Making) → making p b ≡ Some m → element_cells (class_cells p) (object_of (classes_of p.items) b) ≡ making_cells p m
made_cells p b m h = by (object_of (classes_of p.items) b) h
  where
    plain : (y : Bool) (c : ℕ) → Some (if y then APlain c else AMutex c) ≡ Some m → (if y then class_cells p c else 1) ≡ making_cells p m
    plain true c e = let same : APlain c ≡ m = cc e in ap (making_cells p) same
    plain false c e = let same : AMutex c ≡ m = cc e in ap (making_cells p) same

    none : None ≡ Some m → ⊥
    none e = cc

    other : (c : Base) → making_by None c ≡ Some m → 1 ≡ making_cells p m
    other base.Cluster e = let same : ACluster ≡ m = cc e in ap (making_cells p) same
    other base.Processor e = let same : AProcessor ≡ m = cc e in ap (making_cells p) same
    other c e = absurd (none e)

    by : (o : Option FieldClass) → making_by o b ≡ Some m → element_cells (class_cells p) o ≡ making_cells p m
    by None e = other b e
    by (Some o) e = plain o.plain o.class e

-- how many elements a declarator declares
abbrev count_of : Program → Declarator → ℕ
count_of p d = elements (value_of_name (constants_of p.items)) d

declared_size : (p : Program) (b : Base) (m : Making) (d : Declarator) → making p b ≡ Some m → d.by_ref ≡ false → declared_cells p b d ≡ count_of p d * making_cells p m
declared_size p b m d h e =
    ap (λ (r : Bool). count_of p d * element_cells (class_cells p) (if r then None else object_of (classes_of p.items) b)) e
    ∙ ap (λ (x : ℕ). count_of p d * x) (made_cells p b m h)

single_size : (p : Program) (d : Declarator) → d.len ≡ None → d.by_ref ≡ false → count_of p d ≡ 1
single_size p d l e =
    ap (λ (r : Bool). if r then 1 else length_in (value_of_name (constants_of p.items)) d.len) e
    ∙ ap (λ (x : Option expr.Expr). length_in (value_of_name (constants_of p.items)) x) l

clean_declared : (p : Program) (b : Base) (m : Making) (d : Declarator) (low high k : ℕ) → making p b ≡ Some m → d.by_ref ≡ false → low ≤ k → k + declared_cells p b d ≤ high → Lies (Sized p) low high (meaning.clean_up p m (meaning.length_of p d d.len) (src.Variable k))
clean_declared p b m d low high k h e a c = by d.len refl
  where
    by : (len : Option expr.Expr) → d.len ≡ len → Lies (Sized p) low high (meaning.clean_up p m (meaning.length_of p d len) (src.Variable k))
    by None l =
        let size : declared_cells p b d ≡ 1 * making_cells p m = declared_size p b m d h e ∙ ap (λ (x : ℕ). x * making_cells p m) (single_size p d l e) in
        clean_single p m low high k a (subst (λ (x : ℕ). k + x ≤ high) size c)
    by (Some x) l = clean_all p m low high k (count_of p d) a (subst (λ (x : ℕ). k + x ≤ high) (declared_size p b m d h e) c)

-- no reference among declarators

first_no_reference : (d : Declarator) (ds : List Declarator) → references (d ∷ ds) ≡ [] → d.by_ref ≡ false
first_no_reference d ds h = by d.by_ref refl h
  where
    by : (b : Bool) → d.by_ref ≡ b → (if b then d.pos ∷ references ds else references ds) ≡ [] → d.by_ref ≡ false
    by true e k = absurd (no_list d.pos (references ds) k)
    by false e k = e

others_no_reference : (d : Declarator) (ds : List Declarator) → references (d ∷ ds) ≡ [] → references ds ≡ []
others_no_reference d ds h = by d.by_ref h
  where
    by : (b : Bool) → (if b then d.pos ∷ references ds else references ds) ≡ [] → references ds ≡ []
    by true k = absurd (no_list d.pos (references ds) k)
    by false k = k

-- parts of statements

items : (c : Context) (texts : ℕ) (os : List stmt.OutItem) → OrdinaryItems (meaning.items_meant c texts os)
items c texts [] = tt
items c texts (stmt.Endl sign ∷ os) = (tt, items c texts os)
items c texts (stmt.Literal sign text ∷ os) = (tt, items c (texts + 1) os)
items c texts (stmt.Printed sign e ∷ os) = (expressions.value c e, items c texts os)

targets : (c : Context) (es : expr.Exprs) → OrdinaryTargets (meaning.targets_meant c es)
targets c expr.NoExprs = tt
targets c (expr.MoreExprs e es) = ((expressions.meant c e).expr, targets c es)

start : (c : Context) (s : Shape) (x : stmt.Start) → OrdinaryMaybe (meaning.start_meant c s x)
start c s stmt.NoStart = tt
start c s (stmt.StartValue e) = expressions.converted s _ (expressions.value c e)
start c s (stmt.StartArgs expr.NoExprs) = tt
start c s (stmt.StartArgs (expr.MoreExprs e es)) = expressions.converted s _ (expressions.value c e)

module _ (p : Program) where
  -- an expression by itself
  evaluated : (o : Room) (s : Scope) (e : expr.Expr) → Evaluated o.low (tree.meant (meaning.context_at p s) e).expr
  evaluated o s e = ordinary_evaluated o.low (tree.meant (meaning.context_at p s) e).expr (expressions.meant (meaning.context_at p s) e).expr

  start_args : (s : Scope) (x : stmt.Start) → AllOrdinary (meaning.start_args p s x)
  start_args s stmt.NoStart = tt
  start_args s (stmt.StartValue e) = tt
  start_args s (stmt.StartArgs es) = expressions.args_meant (meaning.context_at p s) es

  test : (s : Scope) (e : Option expr.Expr) → Ordinary (meaning.test_of p s e)
  test s None = tt
  test s (Some e) = expressions.value (meaning.context_at p s) e

  step : (s : Scope) (e : Option expr.Expr) → OrdinaryMaybe (meaning.step_of p s e)
  step s None = tt
  step s (Some e) = (expressions.meant (meaning.context_at p s) e).expr

  returned : (s : Scope) (e : Option expr.Expr) → OrdinaryMaybe (meaning.return_meant p s e)
  returned s None = tt
  returned s (Some e) = expressions.converted (shape_of (tree.result_of p s.routine)) _ (expressions.value (meaning.context_at p s) e)

  -- scopes count cells

  with_all_cells : (s : Scope) (b : Base) (ds : List Declarator) → (meaning.with_all p s b ds).cells ≡ s.cells + declarators_cells (declared_cells p b) ds
  with_all_cells s b [] = omega arith
  with_all_cells s b (d ∷ ds) = let ih = with_all_cells (meaning.with_declared p s b d) b ds in omega (arith, ih)

  with_all_hidden : (s : Scope) (b : Base) (ds : List Declarator) → (meaning.with_all p s b ds).hidden ≡ s.hidden
  with_all_hidden s b [] = refl
  with_all_hidden s b (d ∷ ds) = with_all_hidden (meaning.with_declared p s b d) b ds

  for_scope_cells : (x : stmt.ForStart) (s : Scope) → (meaning.for_scope p x s).cells ≡ s.cells + for_cells x (declared_cells p)
  for_scope_cells stmt.NoFor s = omega arith
  for_scope_cells (stmt.ForDeclare place b ds) s = with_all_cells s b ds
  for_scope_cells (stmt.ForEvaluate e) s = omega arith

  for_scope_hidden : (x : stmt.ForStart) (s : Scope) → (meaning.for_scope p x s).hidden ≡ s.hidden
  for_scope_hidden stmt.NoFor s = refl
  for_scope_hidden (stmt.ForDeclare place b ds) s = with_all_hidden s b ds
  for_scope_hidden (stmt.ForEvaluate e) s = refl

  with_event_cells : (param event : Option (List ℕ)) (s : Scope) → (meaning.with_event p param event s).cells ≡ s.cells
  with_event_cells None event s = refl
  with_event_cells (Some name) None s = refl
  with_event_cells (Some name) (Some event) s = refl

  past_clauses_cells : (cs : stmt.Clauses) (s : Scope) → (meaning.scope_past_clauses p cs s).cells ≡ s.cells + clauses_cells cs (declared_cells p)
  past_clauses_cells stmt.NoClauses s = omega arith
  past_clauses_cells (stmt.MoreClauses (stmt.Accepts place guard members body) rest) s =
      let ih = past_clauses_cells rest (meaning.scope_past p body s) in omega (arith, ih)

  past_clauses_hidden : (cs : stmt.Clauses) (s : Scope) → (meaning.scope_past_clauses p cs s).hidden ≡ s.hidden + hidden_in_clauses cs
  past_clauses_hidden stmt.NoClauses s = omega arith
  past_clauses_hidden (stmt.MoreClauses (stmt.Accepts place guard members body) rest) s =
      let ih = past_clauses_hidden rest (meaning.scope_past p body s) in omega (arith, ih)

  -- declarations

  -- statements that stand where these cells are taken, in what is left of a room
  abbrev Behind : Room → ℕ → Stmts → Type 0
  Behind o n rest = (low : ℕ) → o.low ≤ low → low ≤ n → StmtsIn (Sized p) (record o { low = low }) rest

  scalars : (o : Room) (s : Scope) (b : Base) (ds : List Declarator) → o.low ≤ s.cells → s.cells + declarators_cells (declared_cells p b) ds ≤ o.high → DeclaredIn (Sized p) o (meaning.all_declared p s b ds)
  scalars o s b [] low high = tt
  scalars o s b (d ∷ ds) low high =
      (low, omega (arith, high), start (meaning.context_at p s) (shape_of b) d.start, scalars o (meaning.with_declared p s b d) b ds (omega (arith, low)) (omega (arith, high)))

  -- what is known by its number has a cell, an array of such one for each element
  cell_of : (m : Making) → IsByNumber m → making_cells p m ≡ 1
  cell_of (APlain i) q = absurd q
  cell_of (AMutex i) q = refl
  cell_of ACluster q = refl
  cell_of AProcessor q = refl

  array_cells : (b : Base) (m : Making) (d : Declarator) → making p b ≡ Some m → d.by_ref ≡ false → (l : ℕ) → meaning.length_of p d d.len ≡ Some l → IsByNumber m → l ≤ declared_cells p b d
  array_cells b m d e f l g q = by d.len g
    where
      by : (len : Option expr.Expr) → meaning.length_of p d len ≡ Some l → l ≤ declared_cells p b d
      by None k = absurd (cc)
      by (Some x) k =
          let same : count_of p d ≡ l = cc k in
          let size : declared_cells p b d ≡ count_of p d * 1 = declared_size p b m d e f ∙ ap (λ (x : ℕ). count_of p d * x) (cell_of m q) in
          omega (arith, size, same)

  one_cell : (b : Base) (m : Making) (d : Declarator) → making p b ≡ Some m → d.by_ref ≡ false → meaning.length_of p d d.len ≡ None → IsByNumber m → 1 ≤ declared_cells p b d
  one_cell b m d e f l q = by d.len refl l
    where
      by : (len : Option expr.Expr) → d.len ≡ len → meaning.length_of p d len ≡ None → 1 ≤ declared_cells p b d
      by None n k =
          let size : declared_cells p b d ≡ 1 * 1 = declared_size p b m d e f ∙ (ap (λ (x : ℕ). x * making_cells p m) (single_size p d n f) ∙ ap (λ (x : ℕ). 1 * x) (cell_of m q)) in
          omega (arith, size)
      by (Some x) n k = absurd (cc)

  one_object : (o : Room) (m : Making) (line : ℕ) (b : Base) (d : Declarator) (s : Scope) (rest : Stmts) → making p b ≡ Some m → d.by_ref ≡ false → o.low ≤ s.cells → s.cells + declared_cells p b d ≤ o.high → Begins rest → StmtsIn (Sized p) (record o { low = s.cells + declared_cells p b d }) rest → StmtsIn (Sized p) o (meaning.object_scoped p m line b d s rest)
  one_object o m line b d s rest e f low high g h =
      let inner : Room = record o { low = s.cells + declared_cells p b d } in
      let within : IsWithin o inner = record { low = omega (arith, low); cells = high; high = omega arith; hidden = omega arith; last = omega arith } in
      ((low, high, tt, tt), (build p o line m (meaning.length_of p d d.len) (src.Variable s.cells) (meaning.start_args p s d.start) low (start_args s d.start), (inner, within, (clean_declared p b m d o.low (s.cells + declared_cells p b d) s.cells e f low (omega arith), clean_keeps p m (meaning.length_of p d d.len) (src.Variable s.cells) o.hidden o.hidden), h, g), opened p line m (meaning.length_of p d d.len) s.cells (meaning.start_args p s d.start)), declared p line m (meaning.length_of p d d.len) s.cells (declared_cells p b d) (meaning.start_args p s d.start) (one_cell b m d e f) (array_cells b m d e f))

  -- what stands behind declarations

  begins_objects : (m : Making) (line : ℕ) (b : Base) (ds : List Declarator) (s : Scope) (rest : Stmts) → Begins rest → Begins (meaning.objects_scoped p m line b ds s rest)
  begins_objects m line b [] s rest h = h
  begins_objects m line b (d ∷ ds) s rest h = tt

  begins_declared : (m : Option Making) (line : ℕ) (b : Base) (ds : List Declarator) (s : Scope) (rest : Stmts) → Begins rest → Begins (meaning.declared_then p m line b ds s rest)
  begins_declared None line b ds s rest h = tt
  begins_declared (Some m) line b ds s rest h = begins_objects m line b ds s rest h

  begins_start : (line : ℕ) (x : stmt.ForStart) (s : Scope) (rest : Stmts) → Begins rest → Begins (meaning.start_then p line x s rest)
  begins_start line stmt.NoFor s rest h = tt
  begins_start line (stmt.ForDeclare place b ds) s rest h = begins_declared (making p b) line b ds s rest h
  begins_start line (stmt.ForEvaluate e) s rest h = unbound_ordinary line (tree.meant (meaning.context_at p s) e).expr (expressions.meant (meaning.context_at p s) e).expr

  begins_stmt : (t : stmt.Stmt) (s : Scope) (a : Stmt) (rest : Stmts) → IsUnbound a → Begins rest → Begins (meaning.stmt_then p t s a rest)
  begins_stmt (stmt.Declare place b ds) s a rest n h = begins_declared (making p b) place.line b ds s rest h
  begins_stmt t s a rest n h = n

  unbound_alone : (m : Option Making) (line : ℕ) (b : Base) (ds : List Declarator) (s : Scope) → IsUnbound (meaning.declared_alone p m line b ds s)
  unbound_alone None line b ds s = tt
  unbound_alone (Some m) line b ds s = tt

  unbound_one : (t : stmt.Stmt) (s : Scope) → IsUnbound (meaning.stmt_meant p t s)
  unbound_one (stmt.Evaluate place e) s = unbound_ordinary place.line (tree.meant (meaning.context_at p s) e).expr (expressions.meant (meaning.context_at p s) e).expr
  unbound_one (stmt.Declare place b ds) s = unbound_alone (making p b) place.line b ds s
  unbound_one t s = tt

  pub begins_all : (ts : stmt.Stmts) (s : Scope) → Begins (meaning.stmts_meant p ts s)
  begins_all stmt.NoStmts s = tt
  begins_all (stmt.MoreStmts t ts) s = begins_stmt t s (meaning.stmt_meant p t s) (meaning.stmts_meant p ts (meaning.scope_after p t s)) (unbound_one t s) (begins_all ts (meaning.scope_after p t s))

  begins_handlers : (hs : stmt.Handlers) (s : Scope) → HandlersBegin (meaning.handlers_meant p hs s)
  begins_handlers stmt.NoHandlers s = tt
  begins_handlers (stmt.MoreHandlers (stmt.Handles place kind event param brace body) rest) s =
      let x : stmt.Handler = stmt.Handles place kind event param brace body in
      (begins_all body (meaning.in_handler p x s), begins_handlers rest (meaning.scope_past_handler p x s))

  objects : (o : Room) (m : Making) (line : ℕ) (b : Base) (ds : List Declarator) (s : Scope) (rest : Stmts) → making p b ≡ Some m → references ds ≡ [] → o.low ≤ s.cells → s.cells + declarators_cells (declared_cells p b) ds ≤ o.high → Begins rest → Behind o (s.cells + declarators_cells (declared_cells p b) ds) rest → StmtsIn (Sized p) o (meaning.objects_scoped p m line b ds s rest)
  objects o m line b [] s rest e f low high g h = h o.low (omega arith) (omega (arith, low))
  objects o m line b (d ∷ ds) s rest e f low high g h =
      let inner : Room = record o { low = s.cells + declared_cells p b d } in
      one_object o m line b d s _ e (first_no_reference d ds f) low (omega (arith, high)) (begins_objects m line b ds (meaning.with_declared p s b d) rest g) (objects inner m line b ds (meaning.with_declared p s b d) rest e (others_no_reference d ds f) (omega arith) (omega (arith, high)) g (λ k a c. h k (omega (arith, low, a)) (omega (arith, c))))

  declared_then : (o : Room) (b : Base) (m : Option Making) (line : ℕ) (ds : List Declarator) (s : Scope) (rest : Stmts) → making p b ≡ m → references ds ≡ [] → o.low ≤ s.cells → s.cells + declarators_cells (declared_cells p b) ds ≤ o.high → Begins rest → Behind o (s.cells + declarators_cells (declared_cells p b) ds) rest → StmtsIn (Sized p) o (meaning.declared_then p m line b ds s rest)
  declared_then o b None line ds s rest e f low high g h = (scalars o s b ds low high, h o.low (omega arith) (omega (arith, low)), follows (src.Declare line (meaning.all_declared p s b ds)) rest g)
  declared_then o b (Some m) line ds s rest e f low high g h = objects o m line b ds s rest e f low high g h

  declared_alone : (o : Room) (b : Base) (m : Option Making) (line : ℕ) (ds : List Declarator) (s : Scope) → making p b ≡ m → references ds ≡ [] → o.low ≤ s.cells → s.cells + declarators_cells (declared_cells p b) ds ≤ o.high → StmtIn (Sized p) o (meaning.declared_alone p m line b ds s)
  declared_alone o b None line ds s e f low high = scalars o s b ds low high
  declared_alone o b (Some m) line ds s e f low high = (objects o m line b ds s src.Nil e f low high tt (λ k a c. tt), begins_objects m line b ds s src.Nil tt)

  start_then : (o : Room) (line : ℕ) (x : stmt.ForStart) (s : Scope) (rest : Stmts) → started_references x ≡ [] → o.low ≤ s.cells → s.cells + for_cells x (declared_cells p) ≤ o.high → Begins rest → Behind o (s.cells + for_cells x (declared_cells p)) rest → StmtsIn (Sized p) o (meaning.start_then p line x s rest)
  start_then o line stmt.NoFor s rest f low high g h = (tt, h o.low (omega arith) (omega (arith, low)), follows (src.Skip line) rest g)
  start_then o line (stmt.ForDeclare place b ds) s rest f low high g h = declared_then o b (making p b) line ds s rest refl f low high g h
  start_then o line (stmt.ForEvaluate e) s rest f low high g h = (evaluated o s e, h o.low (omega arith) (omega (arith, low)), follows (src.Evaluate line (tree.meant (meaning.context_at p s) e).expr) rest g)

  stmt_then : (o : Room) (t : stmt.Stmt) (s : Scope) (a : Stmt) (rest : Stmts) → gathered own_references t ≡ [] → o.low ≤ s.cells → s.cells + stmt_cells t (declared_cells p) ≤ o.high → StmtIn (Sized p) o a → Begins rest → Behind o (s.cells + stmt_cells t (declared_cells p)) rest → StmtsIn (Sized p) o (meaning.stmt_then p t s a rest)
  stmt_then o (stmt.Declare place b ds) s a rest f low high n g h = declared_then o b (making p b) place.line ds s rest refl f low high g h
  stmt_then o t s a rest f low high n g h = (n, h o.low (omega arith) (omega (arith, low)), follows a rest g)

  -- events

  built_event : (o : Room) (s : Scope) (n : ℕ) (r : Option ℕ) (args : List Meant) → o.hidden ≤ s.hidden → s.hidden + EVENT_FIELDS ≤ o.last → AllOrdinary args → RaisedIn (Sized p) o (meaning.built_event p s n r args)
  built_event o s n None args low high k = tt
  built_event o s n (Some r) args low high k = (low, high, (tt, expressions.args_by (tree.params_of p r) args k))

  raised : (o : Room) (s : Scope) (r : Option stmt.Raised) → o.hidden ≤ s.hidden → s.hidden + raised_cells r ≤ o.last → RaisedIn (Sized p) o (meaning.raised_meant p s r)
  raised o s None low high = tt
  raised o s (Some r) low high =
      built_event o s (meaning.number_of_event p r.name) (meaning.event_constructor p r.name) (tree.args_meant (meaning.context_at p s) r.args) low high (expressions.args_meant (meaning.context_at p s) r.args)

  -- a body whose hidden cells lie behind one that keeps the enabled events
  abbrev behind_kept : Room → Scope → Room
  behind_kept o s = record o { hidden = s.hidden + 1 }

  kept_within : (o : Room) (s : Scope) (n h : ℕ) → Takes o s n (1 + h) → IsWithin o (behind_kept o s)
  kept_within o s n h t =
      let hidden = t.hidden in
      record { low = omega arith; cells = room_stands o s n (1 + h) t; high = omega arith; hidden = omega (arith, hidden); last = omega arith }

  kept_takes : (o : Room) (s : Scope) (n h : ℕ) → Takes o s n (1 + h) → Takes (behind_kept o s) (meaning.within_events p s) n h
  kept_takes o s n h t =
      let last = t.last in
      record { low = t.low; high = t.high; hidden = omega arith; last = omega (arith, last) }

  mutual
    pub one : (t : stmt.Stmt) (s : Scope) (o : Room) → Takes o s (stmt_cells t (declared_cells p)) (hidden_in t) → gathered own_references t ≡ [] → StmtIn (Sized p) o (meaning.stmt_meant p t s)
    one (stmt.Block place body) s o h g = (all body s o h g, begins_all body s)
    one (stmt.Empty place) s o h g = tt
    one (stmt.Evaluate place e) s o h g = evaluated o s e
    one (stmt.Declare place b ds) s o h g = declared_alone o b (making p b) place.line ds s refl g h.low h.high
    one (stmt.Print place os) s o h g = items (meaning.context_at p s) s.texts os
    one (stmt.PrintTogether place os) s o h g = items (meaning.context_at p s) s.texts os
    one (stmt.Read place es) s o h g = targets (meaning.context_at p s) es
    one (stmt.If place e chosen other) s o h g =
        (expressions.value (meaning.context_at p s) e, one chosen s o (takes_first o s (stmt_cells chosen (declared_cells p)) (maybe_cells other (declared_cells p)) (hidden_in chosen) (hidden_in_maybe other) h) (none_left (gathered own_references chosen) (gathered_maybe own_references other) g), maybe other (meaning.scope_past p chosen s) o (takes_next o s (meaning.scope_past p chosen s) (stmt_cells chosen (declared_cells p)) (maybe_cells other (declared_cells p)) (hidden_in chosen) (hidden_in_maybe other) refl refl h) (none_right (gathered own_references chosen) (gathered_maybe own_references other) g))
    one (stmt.While place e body) s o h g = (expressions.value (meaning.context_at p s) e, tt, one body s o h g)
    one (stmt.Do place body e) s o h g = (expressions.value (meaning.context_at p s) e, tt, one body s o h g)
    one (stmt.For place x e f body) s o h g =
        let inner : Scope = meaning.for_scope p x s in
        let loop : Stmt = src.Loop place.line (meaning.order_of p e) (meaning.test_of p inner e) (meaning.step_of p inner f) (meaning.stmt_meant p body inner) in
        let n : ℕ = for_cells x (declared_cells p) in
        let m : ℕ = stmt_cells body (declared_cells p) in
        let high = h.high in
        let hidden = h.hidden in
        let last = h.last in
        let c = for_scope_cells x s in
        let d = for_scope_hidden x s in
        let behind : Behind o (s.cells + n) (src.Then loop src.Nil) = λ low a b. ((test inner e, step inner f, one body inner (record o { low = low }) (record { low = omega (arith, b, c); high = omega (arith, high, c); hidden = omega (arith, hidden, d); last = omega (arith, last, d) }) (none_right (started_references x) (gathered own_references body) g)), tt, tt) in
        (start_then o place.line x s (src.Then loop src.Nil) (none_left (started_references x) (gathered own_references body) g) h.low (omega (arith, high)) tt behind, begins_start place.line x s (src.Then loop src.Nil) tt)
    one (stmt.Break place) s o h g = tt
    one (stmt.Continue place) s o h g = tt
    one (stmt.Return place e) s o h g = returned s e
    one (stmt.Throw place r) s o h g = raised o s r h.hidden h.last
    one (stmt.Raise place r) s o h g = raised o s r h.hidden h.last
    one (stmt.Try place brace body hs) s o h g =
        let n : ℕ = stmts_cells body (declared_cells p) in
        let k : ℕ = hidden_in_all body in
        let inner : Room = record o { high = s.cells + n; last = s.hidden + k } in
        let outer : Room = record o { low = s.cells + n; hidden = s.hidden + k } in
        let low = h.low in
        let high = h.high in
        let hidden = h.hidden in
        let last = h.last in
        (inner, outer, record { low = omega arith; cells = omega (arith, low); high = omega (arith, high); hidden = omega arith; last = omega (arith, last) }, record { low = omega (arith, low); cells = omega (arith, high); high = omega arith; hidden = omega (arith, hidden); last = omega arith }, record { cells = omega arith; hidden = omega arith }, ((all body s inner (record { low = low; high = omega arith; hidden = hidden; last = omega arith }) (none_left (gathered_all own_references body) (gathered_handlers own_references hs) g), begins_all body s), tt, tt), handlers hs (meaning.scope_past_all p body s) outer (record { low = omega arith; high = omega (arith, high); hidden = omega arith; last = omega (arith, last) }) (none_right (gathered_all own_references body) (gathered_handlers own_references hs) g), tt, begins_handlers hs (meaning.scope_past_all p body s))
    one (stmt.Resume place) s o h g = tt
    one (stmt.Suspend place) s o h g = tt
    one (stmt.RaiseAt place r target) s o h g = (raised o s (Some r) h.hidden h.last, (expressions.meant (meaning.context_at p s) target).expr)
    one (stmt.Enable place events body) s o h g =
        let hidden = h.hidden in
        (behind_kept o s, kept_within o s (stmt_cells body (declared_cells p)) (hidden_in body) h, (hidden, omega arith), one body (meaning.within_events p s) (behind_kept o s) (kept_takes o s (stmt_cells body (declared_cells p)) (hidden_in body) h) g)
    one (stmt.Disable place events body) s o h g =
        let hidden = h.hidden in
        (behind_kept o s, kept_within o s (stmt_cells body (declared_cells p)) (hidden_in body) h, (hidden, omega arith), one body (meaning.within_events p s) (behind_kept o s) (kept_takes o s (stmt_cells body (declared_cells p)) (hidden_in body) h) g)
    one (stmt.Yield place) s o h g = tt
    one (stmt.Migrate place cluster) s o h g = (expressions.meant (meaning.context_at p s) cluster).expr
    one (stmt.Accept place cs other) s o h g =
        let inner : Scope = meaning.within_accept p s in
        let behind : Scope = meaning.scope_past_clauses p cs inner in
        let a : ℕ = clauses_cells cs (declared_cells p) in
        let b : ℕ = maybe_cells other (declared_cells p) in
        let t : Takes o inner (a + b) (hidden_in_clauses cs + hidden_in_maybe other) = takes_as o s inner (a + b) (hidden_in_clauses cs + hidden_in_maybe other) refl refl h in
        clauses cs inner o (meaning.else_meant p other behind) (takes_first o inner a b (hidden_in_clauses cs) (hidden_in_maybe other) t) (none_left (gathered_clauses own_references cs) (gathered_maybe own_references other) g) (otherwise other behind o (takes_next o inner behind a b (hidden_in_clauses cs) (hidden_in_maybe other) (past_clauses_cells cs inner) (past_clauses_hidden cs inner) t) (none_right (gathered_clauses own_references cs) (gathered_maybe own_references other) g))

    clauses : (cs : stmt.Clauses) (s : Scope) (o : Room) (other : Clauses) → Takes o s (clauses_cells cs (declared_cells p)) (hidden_in_clauses cs) → gathered_clauses own_references cs ≡ [] → ClausesIn (Sized p) o other → ClausesIn (Sized p) o (meaning.clauses_meant p cs s other)
    clauses stmt.NoClauses s o other h g k = k
    clauses (stmt.MoreClauses (stmt.Accepts place guard members body) rest) s o other h g k =
        let a : ℕ = stmt_cells body (declared_cells p) in
        let b : ℕ = clauses_cells rest (declared_cells p) in
        (test s guard, one body s o (takes_first o s a b (hidden_in body) (hidden_in_clauses rest) h) (none_left (gathered own_references body) (gathered_clauses own_references rest) g), clauses rest (meaning.scope_past p body s) o other (takes_next o s (meaning.scope_past p body s) a b (hidden_in body) (hidden_in_clauses rest) refl refl h) (none_right (gathered own_references body) (gathered_clauses own_references rest) g) k)

    otherwise : (t : stmt.MaybeStmt) (s : Scope) (o : Room) → Takes o s (maybe_cells t (declared_cells p)) (hidden_in_maybe t) → gathered_maybe own_references t ≡ [] → ClausesIn (Sized p) o (meaning.else_meant p t s)
    otherwise stmt.NoStmt s o h g = tt
    otherwise (stmt.OneStmt body) s o h g = one body s o h g

    handlers : (hs : stmt.Handlers) (s : Scope) (o : Room) → Takes o s (handlers_cells hs (declared_cells p)) (hidden_in_handlers hs) → gathered_handlers own_references hs ≡ [] → HandlersIn (Sized p) o (meaning.handlers_meant p hs s)
    handlers stmt.NoHandlers s o h g = tt
    handlers (stmt.MoreHandlers (stmt.Handles place kind event param brace body) rest) s o h g =
        let x : stmt.Handler = stmt.Handles place kind event param brace body in
        let inner : Scope = meaning.in_handler p x s in
        let behind : Scope = meaning.scope_past_handler p x s in
        let a : ℕ = stmts_cells body (declared_cells p) in
        let b : ℕ = handlers_cells rest (declared_cells p) in
        let m : Room = record o { hidden = s.hidden + KEPT_CELLS } in
        let low = h.low in
        let high = h.high in
        let hidden = h.hidden in
        let last = h.last in
        let same = with_event_cells param event s in
        (m, record { low = omega arith; cells = omega (arith, low, high); high = omega arith; hidden = omega (arith, hidden); last = omega arith }, hidden, omega arith, all body inner m (record { low = omega (arith, low, same); high = omega (arith, high, same); hidden = omega arith; last = omega (arith, last) }) (none_left (gathered_all own_references body) (gathered_handlers own_references rest) g), handlers rest behind o (record { low = omega (arith, low); high = omega (arith, high); hidden = omega (arith, hidden); last = omega (arith, last) }) (none_right (gathered_all own_references body) (gathered_handlers own_references rest) g))

    maybe : (t : stmt.MaybeStmt) (s : Scope) (o : Room) → Takes o s (maybe_cells t (declared_cells p)) (hidden_in_maybe t) → gathered_maybe own_references t ≡ [] → StmtIn (Sized p) o (meaning.maybe_meant p t s)
    maybe stmt.NoStmt s o h g = tt
    maybe (stmt.OneStmt body) s o h g = one body s o h g

    pub all : (ts : stmt.Stmts) (s : Scope) (o : Room) → Takes o s (stmts_cells ts (declared_cells p)) (hidden_in_all ts) → gathered_all own_references ts ≡ [] → StmtsIn (Sized p) o (meaning.stmts_meant p ts s)
    all stmt.NoStmts s o h g = tt
    all (stmt.MoreStmts t ts) s o h g =
        let a : ℕ = stmt_cells t (declared_cells p) in
        let b : ℕ = stmts_cells ts (declared_cells p) in
        let u : Scope = meaning.scope_after p t s in
        let n : gathered own_references t ≡ [] = none_left (gathered own_references t) (gathered_all own_references ts) g in
        let m : gathered_all own_references ts ≡ [] = none_right (gathered own_references t) (gathered_all own_references ts) g in
        let low = h.low in
        let high = h.high in
        let hidden = h.hidden in
        let last = h.last in
        let behind : Behind o (s.cells + a) (meaning.stmts_meant p ts u) = λ k c d. all ts u (record o { low = k }) (record { low = d; high = omega (arith, high); hidden = omega (arith, hidden); last = omega (arith, last) }) m in
        stmt_then o t s (meaning.stmt_meant p t s) (meaning.stmts_meant p ts u) n low (omega (arith, high)) (one t s o (takes_first o s a b (hidden_in t) (hidden_in_all ts) h) n) (begins_all ts u) behind
