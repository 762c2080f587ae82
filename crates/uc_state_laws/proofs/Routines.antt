-- All code of a program keeps to its rooms: constructors and destructors, written or not, bodies, and each routine of its source.
use Rattle.std.proofs.Common.{◌≡◌, ℕ, zero, suc, ◌+◌, ◌≤◌, ◌++◌, Bool, true, false, List, [], ◌∷◌, length, Option, Some, None, refl, arith}
use Rattle.std.specs.Prelude.{slice_get}
use Rattle.uc_tree.specs.declared.kinds.Kind.{Kind}
use Rattle.uc_tree.specs.declared.kinds.Kind.TheVariants as kind
use Rattle.uc_tree.specs.declared.kinds.Role.{Role}
use Rattle.uc_tree.specs.declared.kinds.Role.TheVariants as role
use Rattle.uc_tree.specs.Cells.{leading_cells, params_cells, routine_cells}
use Rattle.uc_tree.specs.Hidden.{hidden_in_all}
use Rattle.uc_tree.specs.Programs as whole
use Rattle.uc_tree.specs.Programs.{Program}
use Rattle.uc_tree.specs.Gathered.{gathered_all}
use Rattle.uc_tree.specs.Numbering.{Defined, is_mutex, own_sites, own_texts, routines_of}
use Rattle.uc_tree.specs.Objects.{Making, ClassField, fields_of, has_execution, class_at, class_shape, shape_of, Unwritten, unwritten_of}
use Rattle.uc_tree.specs.Source as src
use Rattle.uc_tree.specs.Source.{Shape, Expr, Stmt, Stmts, Purpose, Routine}
use Rattle.uc_resolve.specs.Standings as tree
use Rattle.uc_resolve.specs.Standings.{Meant}
use Rattle.uc_resolve.specs.Resolve as meaning
use Rattle.uc_resolve.specs.Resolve.{Scope, source_of}
use Rattle.uc_state_laws.specs.Clusters.{IsUnbound, IsUnscoped, Begins}
use Rattle.uc_state_laws.specs.Ordinary.{Evaluated}
use Rattle.uc_state_laws.specs.Rooms.{Room, LiesAt, LiesIn, OwnAt, OwnIn, OwnPart, Lies, Holds, StmtIn, StmtsIn, RoutineIn, MaybeRoutineIn}
use Rattle.uc_state_laws.specs.Layout.{Sized, own_references, NoReferences}
use Rattle.uc_state_laws.specs.ScopeLaws.{LawSource}
use Rattle.uc_state_laws.proofs.RoomLemmas.{ordinary_given, same_room}
use Rattle.uc_state_laws.proofs.Clustering.{follows, unbound_field, unscoped_field}
use Rattle.uc_state_laws.proofs.Expressions as expressions
use Rattle.uc_state_laws.proofs.Expressions.{OrdinaryMeant, AllOrdinary}
use Rattle.uc_state_laws.proofs.Statements as statements
use Rattle.uc_state_laws.proofs.Statements.{Takes, is_destroyed}

module _ (p : Program) where
  -- fields of the object at hand

  abbrev own : Shape → ℕ → Expr
  own s i = src.OfObject (src.OwnField s i)

  own_part : (m : Making) (len : Option ℕ) (s : Shape) (i : ℕ) → OwnPart (Sized p) (meaning.clean_up p m len (own s i))
  own_part m None s i = is_destroyed p (OwnAt (Sized p)) m (own s i) tt
  own_part m (Some n) s i = is_destroyed p (OwnIn (Sized p) n) m (meaning.counted_element p m n (own s i)) (refl, tt)

  own_lies : (m : Making) (len : Option ℕ) (s : Shape) (i low high : ℕ) → Lies (Sized p) low high (meaning.clean_up p m len (own s i))
  own_lies m None s i low high = is_destroyed p (LiesAt (Sized p) low high 1) m (own s i) tt
  own_lies m (Some n) s i low high = is_destroyed p (LiesIn (Sized p) low high n) m (meaning.counted_element p m n (own s i)) (refl, tt)

  module _ (o : Room) (sound : o.low ≤ o.high) where
    init_args : (s : Scope) (x : Option whole.Init) → AllOrdinary (meaning.init_args p s x)
    init_args s None = tt
    init_args s (Some x) = expressions.args_meant (meaning.context_at p s) x.args

    -- statements that may stand behind any other
    abbrev Good : Stmts → Type 0
    Good ss = StmtsIn (Sized p) o ss × Begins ss

    then_good : (a : Stmt) (rest : Stmts) → StmtIn (Sized p) o a → IsUnbound a → Good rest → Good (src.Then a rest)
    then_good a rest n u h = ((n, h.0, follows a rest h.1), u)

    built_good : (c : src.CleanUp) (rest : Stmts) → OwnPart (Sized p) c → Good rest → Good (src.Built c rest)
    built_good c rest n h = ((n, h.0, h.1), tt)

    field_start : (b : Bool) (k : Shape) (s : Shape) (i : ℕ) (m : Meant) → OrdinaryMeant m → Evaluated o.low (meaning.field_start p b k (own s i) m)
    field_start true k s i m h = (tt, ordinary_given (own s i) m.expr tt h.expr)
    field_start false k s i m h = (tt, expressions.converted k (tree.value_of m) (expressions.value_of m h))

    field_unbound : (b : Bool) (k : Shape) (s : Shape) (i : ℕ) (m : Meant) → IsUnbound (src.Evaluate 0 (meaning.field_start p b k (own s i) m))
    field_unbound true k s i m = tt
    field_unbound false k s i m = tt

    field_started : (f : ClassField) (s : Shape) (i : ℕ) (args : List Meant) (rest : Stmts) → AllOrdinary args → Good rest → Good (meaning.field_started p f (own s i) args rest)
    field_started f s i [] rest k l = l
    field_started f s i (m ∷ ms) rest k l =
        then_good (src.Evaluate 0 (meaning.field_start p f.declarator.by_ref (shape_of f.base) (own s i) m)) rest (field_start f.declarator.by_ref (shape_of f.base) s i m k.0) (field_unbound f.declarator.by_ref (shape_of f.base) s i m) l

    field_built : (m : Option Making) (f : ClassField) (len : Option ℕ) (s : Shape) (i : ℕ) (args : List Meant) (rest : Stmts) → AllOrdinary args → Good rest → Good (meaning.field_built p m f len (own s i) args rest)
    field_built None f len s i args rest k l = field_started f s i args rest k l
    field_built (Some m) f len s i args rest k l =
        then_good (meaning.build p 0 m len (own s i) args) (src.Built (meaning.clean_up p m len (own s i)) rest) (statements.build p o 0 m len (own s i) args tt k) (unbound_field p 0 m len s i args) (built_good (meaning.clean_up p m len (own s i)) rest (own_part m len s i) l)

    -- what is in scope that takes no cells of the frame
    apart : (c : src.CleanUp) (rest : Stmts) → Holds (Sized p) o o c → IsUnscoped c → Good rest → Good (src.Scoped c rest)
    apart c rest h u l = ((o, same_room o sound, h, l.0, l.1), u)

    field_left : (m : Option Making) (len : Option ℕ) (s : Shape) (i : ℕ) (rest : Stmts) → Good rest → Good (meaning.field_left p m len (own s i) rest)
    field_left None len s i rest l = l
    field_left (Some m) len s i rest l = apart (meaning.clean_up p m len (own s i)) rest (own_lies m len s i o.low o.low, statements.clean_keeps p m len (own s i) o.hidden o.hidden) (unscoped_field p m len s i) l

    module _ (c : whole.Class) (i : ℕ) where
      fields_built : (inits : List whole.Init) (s : Scope) (fs : List ClassField) (n : ℕ) (rest : Stmts) → Good rest → Good (meaning.fields_built p c i inits s fs n rest)
      fields_built inits s [] n rest h = h
      fields_built inits s (f ∷ fs) n rest h =
          field_built (meaning.field_making p f) f (meaning.length_in_class p c i f) (class_shape p i) n (meaning.init_args p s (meaning.init_named p inits f.declarator.name)) (meaning.fields_built p c i inits s fs (suc n) rest) (init_args s (meaning.init_named p inits f.declarator.name)) (fields_built inits s fs (suc n) rest h)

      fields_left : (fs : List ClassField) (n : ℕ) (rest : Stmts) → Good rest → Good (meaning.fields_left p c i fs n rest)
      fields_left [] n rest h = h
      fields_left (f ∷ fs) n rest h =
          field_left (meaning.field_making p f) (meaning.length_in_class p c i f) (class_shape p i) n (meaning.fields_left p c i fs (suc n) rest) (fields_left fs (suc n) rest h)

    -- constructors and destructors

    set_up : (b : Bool) (i : ℕ) (rest : Stmts) → Good rest → Good (meaning.set_up p b i rest)
    set_up false i rest h = h
    set_up true i rest h = then_good (src.OfTasks (src.SetUp (meaning.main_at p i))) (src.Built src.Forgets rest) tt tt (built_good src.Forgets rest tt h)

    started_in : (b : Bool) (body : Stmts) → Good body → Good (meaning.started_in p b body)
    started_in false body h = h
    started_in true body h = built_good src.Unwinds body tt h

    enlivened : (b : Bool) → Good (meaning.enlivened p b)
    enlivened false = (tt, tt)
    enlivened true = then_good (src.OfTasks src.Enliven) src.Nil tt tt (tt, tt)

    taken_down : (b : Bool) (body : Stmts) → Good body → Good (meaning.taken_down p b body)
    taken_down false body h = h
    taken_down true body h = then_good (src.OfTasks src.TakeDown) body tt tt h

    forgotten : (b : Bool) (rest : Stmts) → Good rest → Good (meaning.forgotten p b rest)
    forgotten false rest h = h
    forgotten true rest h = apart src.Forgets rest (tt, tt) tt h

    freed : (k : Kind) (i : ℕ) (rest : Stmts) → Good rest → Good (meaning.freed p k i rest)
    freed kind.Monitor i rest h = apart (src.Frees None) rest (tt, tt) tt h
    freed kind.Cormonitor i rest h = apart (src.Frees None) rest (tt, tt) tt h
    freed kind.Task i rest h = apart (src.Frees (Some (meaning.main_at p i))) rest (tt, tt) tt h
    freed kind.Class i rest h = h
    freed kind.Coroutine i rest h = h
    freed kind.Event i rest h = h

    ending : (b : Bool) (rest : Stmts) → Good rest → Good (meaning.ending p b rest)
    ending false rest h = h
    ending true rest h = apart src.Ends rest (tt, tt) tt h

    construction : (c : Option whole.Class) (i : ℕ) (inits : List whole.Init) (s : Scope) (body : Stmts) → Good body → Good (meaning.construction p c i inits s body)
    construction None i inits s body h = h
    construction (Some c) i inits s body h =
        freed c.kind i _ (set_up (has_execution c.kind) i _ (fields_built c i inits s (fields_of c.members) (leading_cells c.kind) _ (started_in (has_execution c.kind) body h)))

    destruction : (c : Option whole.Class) (i : ℕ) (body : Stmts) → Good body → Good (meaning.destruction p c i body)
    destruction None i body h = h
    destruction (Some c) i body h =
        ending (is_mutex c.kind) _ (forgotten (has_execution c.kind) _ (fields_left c i (fields_of c.members) (leading_cells c.kind) _ (taken_down (has_execution c.kind) body h)))

    construction_ends : (c : Option whole.Class) (i : ℕ) → Good (meaning.construction_ends p c i)
    construction_ends None i = (tt, tt)
    construction_ends (Some c) i = enlivened (has_execution c.kind)

    -- routines

    owing : (line : ℕ) (u : Purpose) → Good (meaning.owing p line u)
    owing line src.Function = then_good (src.Owes line) src.Nil tt tt (tt, tt)
    owing line src.TaskMain = (tt, tt)
    owing line src.CoroutineMain = (tt, tt)
    owing line src.Procedure = (tt, tt)
    owing line src.Builder = (tt, tt)

    plain_body : (b : Bool) (r : whole.Routine) (body : Stmts) → Good body → Good (meaning.plain_body p b r body)
    plain_body false r body h = h
    plain_body true r body h =
        apart src.Leaves (src.Then (src.Block r.brace.line body) (meaning.owing p r.brace.line (meaning.value_purpose p r.sig.ret))) (tt, tt) tt (then_good (src.Block r.brace.line body) (meaning.owing p r.brace.line (meaning.value_purpose p r.sig.ret)) h tt (owing r.brace.line (meaning.value_purpose p r.sig.ret)))

    body_by : (x : Role) (r : whole.Routine) (s : Scope) → StmtsIn (Sized p) o (meaning.stmts_meant p r.body s) → Good (meaning.body_by p x r s)
    body_by role.Plain r s h = plain_body (meaning.has_number_in p (meaning.class_by p s.class) r.sig) r _ (h, statements.begins_all p r.body s)
    body_by role.Constructor r s h =
        construction (meaning.class_by p s.class) (meaning.place_or_zero p s.class) r.inits s _ (then_good (src.Whole r.brace.line (meaning.stmts_meant p r.body s)) (meaning.construction_ends p (meaning.class_by p s.class) (meaning.place_or_zero p s.class)) (h, statements.begins_all p r.body s) tt (construction_ends (meaning.class_by p s.class) (meaning.place_or_zero p s.class)))
    body_by role.Destructor r s h =
        destruction (meaning.class_by p s.class) (meaning.place_or_zero p s.class) _ (then_good (src.Whole r.brace.line (meaning.stmts_meant p r.body s)) src.Nil (h, statements.begins_all p r.body s) tt (tt, tt))

    unwritten_body : (x : Role) (i : ℕ) → Good (meaning.unwritten_body p x i)
    unwritten_body role.Plain i = (tt, tt)
    unwritten_body role.Constructor i = construction (class_at p i) i [] (meaning.nowhere p) _ (construction_ends (class_at p i) i)
    unwritten_body role.Destructor i = destruction (class_at p i) i src.Nil (tt, tt)

  -- the room of a routine: its variables behind its parameters, its hidden cells behind those
  abbrev routine_room : whole.Routine → Room
  routine_room r = record {
    low = params_cells p r.sig.params;
    high = routine_cells p r;
    hidden = routine_cells p r;
    last = routine_cells p r + hidden_in_all r.body;
  }

  one_routine : (d : Defined) (number texts sites : ℕ) → gathered_all own_references d.routine.body ≡ [] → RoutineIn (Sized p) (meaning.routine_meant p d.routine (meaning.routine_scope p d.routine (meaning.place_by p d) number texts sites))
  one_routine d number texts sites g =
      let r : whole.Routine = d.routine in
      let s : Scope = meaning.routine_scope p r (meaning.place_by p d) number texts sites in
      let o : Room = routine_room r in
      let good = body_by o (omega arith) r.sig.role r s (statements.all p r.body s o (record { low = omega arith; high = omega arith; hidden = omega arith; last = omega arith }) g) in
      record {
        room = o;
        sound = record { cells = omega arith; apart = omega arith };
        variables = omega arith;
        frame = omega arith;
        body = good.0;
        begins = good.1;
      }

  one_unwritten : (u : Unwritten) → RoutineIn (Sized p) (meaning.unwritten_meant p u)
  one_unwritten u =
      let o : Room = record { low = 0; high = 0; hidden = 0; last = 0 } in
      let good = unwritten_body o (omega arith) u.role u.class in
      record { room = o; sound = record { cells = omega arith; apart = omega arith }; variables = omega arith; frame = omega arith; body = good.0; begins = good.1 }

  -- all routines of a source

  abbrev AllIn : List Routine → Type 0
  AllIn [] = Unit {0}
  AllIn (r ∷ rs) = RoutineIn (Sized p) r × AllIn rs

  both_lists : (rs us : List Routine) → AllIn rs → AllIn us → AllIn (rs ++ us)
  both_lists [] us h k = k
  both_lists (r ∷ rs) us h k = (h.0, both_lists rs us h.1 k)

  by_number : (rs : List Routine) → AllIn rs → (n : ℕ) → MaybeRoutineIn (Sized p) (slice_get rs n)
  by_number [] h n = tt
  by_number (r ∷ rs) h zero = h.0
  by_number (r ∷ rs) h (suc n) = by_number rs h.1 n

  written : (ds : List Defined) (number texts sites : ℕ) → NoReferences ds → AllIn (meaning.routines_meant p ds number texts sites)
  written [] number texts sites h = tt
  written (d ∷ ds) number texts sites h =
      (one_routine d number texts sites h.0, written ds (number + 1) (texts + length (gathered_all own_texts d.routine.body)) (sites + length (gathered_all (own_sites d.class d.number) d.routine.body)) h.1)

  unwritten : (us : List Unwritten) → AllIn (meaning.all_unwritten p us)
  unwritten [] = tt
  unwritten (u ∷ us) = (one_unwritten u, unwritten us)

pub law_source : LawSource
law_source p h n =
    by_number p (source_of p).routines (both_lists p (meaning.routines_meant p (routines_of p) 0 0 0) (meaning.all_unwritten p (unwritten_of p)) (written p (routines_of p) 0 0 0 h) (unwritten p (unwritten_of p))) n
