-- All code of a program names what is known: constructors and destructors, written or not, bodies, and each routine of its source.
use Rattle.std.proofs.Common.{◌≡◌, ℕ, zero, suc, ◌+◌, ◌++◌, Bool, true, false, List, [], ◌∷◌, length, drop, Option, Some, None, refl, sym, ap, ◌∙◌, subst, arith}
use Rattle.std.specs.Prelude.{slice_get}
use Rattle.std.proofs.lemmas.List.{length-map}
use Rattle.uc_tree.specs.declared.kinds.Kind.{Kind}
use Rattle.uc_tree.specs.declared.kinds.Kind.TheVariants as kind
use Rattle.uc_tree.specs.declared.kinds.Role.{Role}
use Rattle.uc_tree.specs.declared.kinds.Role.TheVariants as role
use Rattle.uc_tree.specs.Cells.{leading_cells}
use Rattle.uc_tree.specs.Statements as stmt
use Rattle.uc_tree.specs.Statements.{clause_list}
use Rattle.uc_tree.specs.Programs as whole
use Rattle.uc_tree.specs.Programs.{Program, Site}
use Rattle.uc_tree.specs.Gathered.{gathered, gathered_all, gathered_maybe, gathered_handlers, gathered_clauses}
use Rattle.uc_tree.specs.Numbering.{Defined, is_mutex, own_sites, own_texts, clause_members, sites_in, sites_of, routines_of}
use Rattle.uc_tree.specs.Objects.{Making, ClassField, fields_of, has_execution, class_at, class_shape, shape_of, Unwritten, unwritten_of}
use Rattle.uc_tree.specs.Source as src
use Rattle.uc_tree.specs.Source.{Shape, Expr, Stmts, Purpose, Routine}
use Rattle.uc_resolve.specs.Standings as tree
use Rattle.uc_resolve.specs.Standings.{Meant}
use Rattle.uc_resolve.specs.Resolve as meaning
use Rattle.uc_resolve.specs.Resolve.{Scope, source_of}
use Rattle.uc_site_laws.specs.Named.{IsSite, NamedExpr, NamedStmts, NamedRoutine, NamedSource}
use Rattle.uc_site_laws.proofs.Expressions as expressions
use Rattle.uc_site_laws.proofs.Expressions.{NamedMeant, NamedAll}
use Rattle.uc_site_laws.proofs.Statements as statements
use Rattle.uc_site_laws.proofs.Statements.{StandAt, stand_left, stand_right}

module _ (p : Program) (sites : List Site) where
  -- fields

  init_args : (s : Scope) (x : Option whole.Init) → NamedAll (meaning.init_args p s x)
  init_args s None = tt
  init_args s (Some x) = expressions.args_meant (meaning.context_at p s) x.args

  field_start : (b : Bool) (s : Shape) (place : Expr) (m : Meant) → NamedExpr place → NamedMeant m → NamedExpr (meaning.field_start p b s place m)
  field_start true s place m h k = (h, k.expr)
  field_start false s place m h k = (h, expressions.converted s (tree.value_of m) (expressions.value_of m k))

  field_started : (f : ClassField) (place : Expr) (args : List Meant) (rest : Stmts) → NamedExpr place → NamedAll args → NamedStmts sites rest → NamedStmts sites (meaning.field_started p f place args rest)
  field_started f place [] rest h k l = l
  field_started f place (m ∷ ms) rest h k l = (field_start f.declarator.by_ref (shape_of f.base) place m h k.0, l)

  field_built : (m : Option Making) (f : ClassField) (len : Option ℕ) (place : Expr) (args : List Meant) (rest : Stmts) → NamedExpr place → NamedAll args → NamedStmts sites rest → NamedStmts sites (meaning.field_built p m f len place args rest)
  field_built None f len place args rest h k l = field_started f place args rest h k l
  field_built (Some m) f len place args rest h k l = (statements.build p sites 0 m len place args h k, (statements.clean_up p m len place h, l))

  field_left : (m : Option Making) (len : Option ℕ) (place : Expr) (rest : Stmts) → NamedExpr place → NamedStmts sites rest → NamedStmts sites (meaning.field_left p m len place rest)
  field_left None len place rest h l = l
  field_left (Some m) len place rest h l = (statements.clean_up p m len place h, l)

  module _ (c : whole.Class) (i : ℕ) where
    fields_built : (inits : List whole.Init) (s : Scope) (fs : List ClassField) (n : ℕ) (rest : Stmts) → NamedStmts sites rest → NamedStmts sites (meaning.fields_built p c i inits s fs n rest)
    fields_built inits s [] n rest h = h
    fields_built inits s (f ∷ fs) n rest h =
        field_built (meaning.field_making p f) f (meaning.length_in_class p c i f) (tree.field_place (class_shape p i) n tree.Own) (meaning.init_args p s (meaning.init_named p inits f.declarator.name)) (meaning.fields_built p c i inits s fs (suc n) rest) tt (init_args s (meaning.init_named p inits f.declarator.name)) (fields_built inits s fs (suc n) rest h)

    fields_left : (fs : List ClassField) (n : ℕ) (rest : Stmts) → NamedStmts sites rest → NamedStmts sites (meaning.fields_left p c i fs n rest)
    fields_left [] n rest h = h
    fields_left (f ∷ fs) n rest h =
        field_left (meaning.field_making p f) (meaning.length_in_class p c i f) (tree.field_place (class_shape p i) n tree.Own) (meaning.fields_left p c i fs (suc n) rest) tt (fields_left fs (suc n) rest h)

  -- constructors and destructors

  set_up : (b : Bool) (i : ℕ) (rest : Stmts) → NamedStmts sites rest → NamedStmts sites (meaning.set_up p b i rest)
  set_up false i rest h = h
  set_up true i rest h = (tt, (tt, h))

  started_in : (b : Bool) (body : Stmts) → NamedStmts sites body → NamedStmts sites (meaning.started_in p b body)
  started_in false body h = h
  started_in true body h = (tt, h)

  enlivened : (b : Bool) → NamedStmts sites (meaning.enlivened p b)
  enlivened false = tt
  enlivened true = (tt, tt)

  taken_down : (b : Bool) (body : Stmts) → NamedStmts sites body → NamedStmts sites (meaning.taken_down p b body)
  taken_down false body h = h
  taken_down true body h = (tt, h)

  forgotten : (b : Bool) (rest : Stmts) → NamedStmts sites rest → NamedStmts sites (meaning.forgotten p b rest)
  forgotten false rest h = h
  forgotten true rest h = (tt, h)

  freed : (k : Kind) (i : ℕ) (rest : Stmts) → NamedStmts sites rest → NamedStmts sites (meaning.freed p k i rest)
  freed kind.Monitor i rest h = (tt, h)
  freed kind.Cormonitor i rest h = (tt, h)
  freed kind.Task i rest h = (tt, h)
  freed kind.Class i rest h = h
  freed kind.Coroutine i rest h = h
  freed kind.Event i rest h = h

  ending : (b : Bool) (rest : Stmts) → NamedStmts sites rest → NamedStmts sites (meaning.ending p b rest)
  ending false rest h = h
  ending true rest h = (tt, h)

  construction : (c : Option whole.Class) (i : ℕ) (inits : List whole.Init) (s : Scope) (body : Stmts) → NamedStmts sites body → NamedStmts sites (meaning.construction p c i inits s body)
  construction None i inits s body h = h
  construction (Some c) i inits s body h =
      freed c.kind i _ (set_up (has_execution c.kind) i _ (fields_built c i inits s (fields_of c.members) (leading_cells c.kind) _ (started_in (has_execution c.kind) body h)))

  destruction : (c : Option whole.Class) (i : ℕ) (body : Stmts) → NamedStmts sites body → NamedStmts sites (meaning.destruction p c i body)
  destruction None i body h = h
  destruction (Some c) i body h =
      ending (is_mutex c.kind) _ (forgotten (has_execution c.kind) _ (fields_left c i (fields_of c.members) (leading_cells c.kind) _ (taken_down (has_execution c.kind) body h)))

  construction_ends : (c : Option whole.Class) (i : ℕ) → NamedStmts sites (meaning.construction_ends p c i)
  construction_ends None i = tt
  construction_ends (Some c) i = enlivened (has_execution c.kind)

  -- routines

  owing : (line : ℕ) (u : Purpose) → NamedStmts sites (meaning.owing p line u)
  owing line src.Function = (tt, tt)
  owing line src.TaskMain = tt
  owing line src.CoroutineMain = tt
  owing line src.Procedure = tt
  owing line src.Builder = tt

  plain_body : (b : Bool) (r : whole.Routine) (body : Stmts) → NamedStmts sites body → NamedStmts sites (meaning.plain_body p b r body)
  plain_body false r body h = h
  plain_body true r body h = (tt, (h, owing r.brace.line (meaning.value_purpose p r.sig.ret)))

  body_by : (x : Role) (r : whole.Routine) (s : Scope) → NamedStmts sites (meaning.stmts_meant p r.body s) → NamedStmts sites (meaning.body_by p x r s)
  body_by role.Plain r s h = plain_body (meaning.has_number_in p (meaning.class_by p s.class) r.sig) r _ h
  body_by role.Constructor r s h =
      construction (meaning.class_by p s.class) (meaning.place_or_zero p s.class) r.inits s _ (h, construction_ends (meaning.class_by p s.class) (meaning.place_or_zero p s.class))
  body_by role.Destructor r s h = destruction (meaning.class_by p s.class) (meaning.place_or_zero p s.class) _ (h, tt)

  unwritten_body : (x : Role) (i : ℕ) → NamedStmts sites (meaning.unwritten_body p x i)
  unwritten_body role.Plain i = tt
  unwritten_body role.Constructor i = construction (class_at p i) i [] (meaning.nowhere p) _ (construction_ends (class_at p i) i)
  unwritten_body role.Destructor i = destruction (class_at p i) i src.Nil tt

-- accept statements have as many clauses, whatever their class

abbrev Alike : List Site → List Site → Type 0
Alike [] [] = Unit {0}
Alike (x ∷ xs) (y ∷ ys) = (length x.clauses ≡ length y.clauses) × Alike xs ys
Alike _ _ = ⊥

alike_more : (xs ys us vs : List Site) → Alike xs us → Alike ys vs → Alike (xs ++ ys) (us ++ vs)
alike_more [] ys [] vs h k = k
alike_more (x ∷ xs) ys (u ∷ us) vs h k = (h.0, alike_more xs ys us vs h.1 k)
alike_more [] ys (u ∷ us) vs h k = absurd h
alike_more (x ∷ xs) ys [] vs h k = absurd h

stand_alike : (sites : List Site) (n : ℕ) (xs ys : List Site) → Alike xs ys → StandAt sites n xs → StandAt sites n ys
stand_alike sites n [] [] h k = tt
stand_alike sites n (x ∷ xs) (y ∷ ys) h k = (subst (IsSite sites n) h.0 k.0, stand_alike sites (n + 1) xs ys h.1 k.1)
stand_alike sites n [] (y ∷ ys) h k = absurd h
stand_alike sites n (x ∷ xs) [] h k = absurd h

module _ (c : Option whole.Class) (k : ℕ) where
  mutual
    alike : (t : stmt.Stmt) → Alike (gathered (own_sites c k) t) (gathered (own_sites None 0) t)
    alike (stmt.Block place body) = alike_all body
    alike (stmt.Empty place) = tt
    alike (stmt.Evaluate place e) = tt
    alike (stmt.Declare place b ds) = tt
    alike (stmt.If place e chosen other) = alike_more (gathered (own_sites c k) chosen) (gathered_maybe (own_sites c k) other) (gathered (own_sites None 0) chosen) (gathered_maybe (own_sites None 0) other) (alike chosen) (alike_maybe other)
    alike (stmt.While place e body) = alike body
    alike (stmt.Do place body e) = alike body
    alike (stmt.For place x e f body) = alike body
    alike (stmt.Break place) = tt
    alike (stmt.Continue place) = tt
    alike (stmt.Return place e) = tt
    alike (stmt.Try place brace body hs) = alike_more (gathered_all (own_sites c k) body) (gathered_handlers (own_sites c k) hs) (gathered_all (own_sites None 0) body) (gathered_handlers (own_sites None 0) hs) (alike_all body) (alike_handlers hs)
    alike (stmt.Throw place r) = tt
    alike (stmt.Raise place r) = tt
    alike (stmt.RaiseAt place r target) = tt
    alike (stmt.Enable place events body) = alike body
    alike (stmt.Disable place events body) = alike body
    alike (stmt.Accept place cs other) =
        (length-map (clause_list cs) (clause_members c) ∙ sym (length-map (clause_list cs) (clause_members None)), alike_more (gathered_clauses (own_sites c k) cs) (gathered_maybe (own_sites c k) other) (gathered_clauses (own_sites None 0) cs) (gathered_maybe (own_sites None 0) other) (alike_clauses cs) (alike_maybe other))
    alike (stmt.Print place os) = tt
    alike (stmt.PrintTogether place os) = tt
    alike (stmt.Read place es) = tt
    alike (stmt.Resume place) = tt
    alike (stmt.Suspend place) = tt
    alike (stmt.Yield place) = tt
    alike (stmt.Migrate place e) = tt

    alike_all : (ts : stmt.Stmts) → Alike (gathered_all (own_sites c k) ts) (gathered_all (own_sites None 0) ts)
    alike_all stmt.NoStmts = tt
    alike_all (stmt.MoreStmts t ts) = alike_more (gathered (own_sites c k) t) (gathered_all (own_sites c k) ts) (gathered (own_sites None 0) t) (gathered_all (own_sites None 0) ts) (alike t) (alike_all ts)

    alike_maybe : (t : stmt.MaybeStmt) → Alike (gathered_maybe (own_sites c k) t) (gathered_maybe (own_sites None 0) t)
    alike_maybe stmt.NoStmt = tt
    alike_maybe (stmt.OneStmt body) = alike body

    alike_handlers : (hs : stmt.Handlers) → Alike (gathered_handlers (own_sites c k) hs) (gathered_handlers (own_sites None 0) hs)
    alike_handlers stmt.NoHandlers = tt
    alike_handlers (stmt.MoreHandlers (stmt.Handles place x event param brace body) rest) = alike_more (gathered_all (own_sites c k) body) (gathered_handlers (own_sites c k) rest) (gathered_all (own_sites None 0) body) (gathered_handlers (own_sites None 0) rest) (alike_all body) (alike_handlers rest)

    alike_clauses : (cs : stmt.Clauses) → Alike (gathered_clauses (own_sites c k) cs) (gathered_clauses (own_sites None 0) cs)
    alike_clauses stmt.NoClauses = tt
    alike_clauses (stmt.MoreClauses (stmt.Accepts place guard members body) rest) = alike_more (gathered (own_sites c k) body) (gathered_clauses (own_sites c k) rest) (gathered (own_sites None 0) body) (gathered_clauses (own_sites None 0) rest) (alike body) (alike_clauses rest)

-- all routines of a source

abbrev NamedList : List Site → List Routine → Type 0
NamedList sites [] = Unit {0}
NamedList sites (r ∷ rs) = NamedStmts sites r.body × NamedList sites rs

both_lists : (sites : List Site) (rs us : List Routine) → NamedList sites rs → NamedList sites us → NamedList sites (rs ++ us)
both_lists sites [] us h k = k
both_lists sites (r ∷ rs) us h k = (h.0, both_lists sites rs us h.1 k)

by_number : (sites : List Site) (rs : List Routine) → NamedList sites rs → (n : ℕ) → NamedRoutine sites (slice_get rs n)
by_number sites [] h n = tt
by_number sites (r ∷ rs) h zero = h.0
by_number sites (r ∷ rs) h (suc n) = by_number sites rs h.1 n

written : (p : Program) (sites : List Site) (ds : List Defined) (number texts n : ℕ) → StandAt sites n (sites_in ds) → NamedList sites (meaning.routines_meant p ds number texts n)
written p sites [] number texts n h = tt
written p sites (d ∷ ds) number texts n h =
    let mine : List Site = gathered_all (own_sites d.class d.number) d.routine.body in
    let s : Scope = meaning.routine_scope p d.routine (meaning.place_by p d) number texts n in
    let body : NamedStmts sites (meaning.stmts_meant p d.routine.body s) = statements.all p sites d.routine.body s (stand_alike sites n mine (gathered_all (own_sites None 0) d.routine.body) (alike_all d.class d.number d.routine.body) (stand_left sites n mine (sites_in ds) h)) in
    (body_by p sites d.routine.sig.role d.routine s body, written p sites ds (number + 1) (texts + length (gathered_all own_texts d.routine.body)) (n + length mine) (stand_right sites n mine (sites_in ds) h))

unwritten : (p : Program) (sites : List Site) (us : List Unwritten) → NamedList sites (meaning.all_unwritten p us)
unwritten p sites [] = tt
unwritten p sites (u ∷ us) = (unwritten_body p sites u.role u.class, unwritten p sites us)

-- all accept statements stand among themselves from 0 on

record IsNext (sites : List Site) (n : ℕ) (x : Site) (xs : List Site) : Type 0 where
  one : IsSite sites n (length x.clauses)
  more : drop (suc n) sites ≡ xs

no_more : (n : ℕ) (x : Site) (xs : List Site) → drop n [] ≡ x ∷ xs → ⊥
no_more zero x xs h = cc
no_more (suc n) x xs h = cc

next_one : (sites : List Site) (n : ℕ) (x : Site) (xs : List Site) → drop n sites ≡ x ∷ xs → IsNext sites n x xs
next_one [] n x xs h = absurd (no_more n x xs h)
next_one (y ∷ sites) zero x xs h =
    let same : y ≡ x = cc h in
    let rest : sites ≡ xs = cc h in
    record { one = record { known = omega arith; clauses_are = ap (λ (z : Site). length z.clauses) same }; more = rest }
next_one (y ∷ sites) (suc n) x xs h =
    let ih = next_one sites n x xs h in
    let le = ih.one.known in
    record { one = record { known = omega (arith, le); clauses_are = ih.one.clauses_are }; more = ih.more }

stand_behind : (sites : List Site) (n : ℕ) (xs : List Site) → drop n sites ≡ xs → StandAt sites n xs
stand_behind sites n [] h = tt
stand_behind sites n (x ∷ xs) h =
    let k = next_one sites n x xs h in
    let e : suc n ≡ n + 1 = omega arith in
    (k.one, stand_behind sites (n + 1) xs (subst (λ m. drop m sites ≡ xs) e k.more))

pub source_named : (p : Program) → NamedSource (sites_of p) (source_of p)
source_named p n =
    let sites : List Site = sites_of p in
    by_number sites (source_of p).routines (both_lists sites (meaning.routines_meant p (routines_of p) 0 0 0) (meaning.all_unwritten p (unwritten_of p)) (written p sites (routines_of p) 0 0 0 (stand_behind sites 0 sites refl)) (unwritten p sites (unwritten_of p))) n
