-- In the source of every program that breaks no rule parts of objects are built by constructors alone, outside all other statements.
use Rattle.std.proofs.Common.{◌≡◌, ℕ, ◌<◌, ◌≤◌, ℤ, pos, negsuc, zero, suc, ◌+◌, ◌++◌, ◌||◌, ◌&&◌, inl, inr, Bool, true, false, List, [], ◌∷◌, length, map, Option, Some, None, refl, sym, ap, ◌∙◌, subst, arith}
use Rattle.std.specs.Prelude.{slice_get, nat_eq, nat_le, is_some, if◌then◌else◌}
use Rattle.std.proofs.lemmas.Bool.{eqb-true, leb-true, and_parts}
use Rattle.uc_tree.specs.declared.limits.TheConstants.{ARRAY_LENGTH}
use Rattle.uc_tree.specs.declared.kinds.Base.{Base}
use Rattle.uc_tree.specs.declared.kinds.Kind.{Kind}
use Rattle.uc_tree.specs.declared.kinds.Kind.TheVariants as kind
use Rattle.uc_tree.specs.declared.kinds.Role.{Role}
use Rattle.uc_tree.specs.declared.kinds.Role.TheVariants as role
use Rattle.uc_tree.specs.Cells.{leading_cells, seen_in}
use Rattle.uc_tree.specs.Constants.{constants_of, elements, length_in, sound_length, value_in, value_of_name}
use Rattle.uc_tree.specs.Expressions as expr
use Rattle.uc_tree.specs.Statements as stmt
use Rattle.uc_tree.specs.Statements.{Declarator}
use Rattle.uc_tree.specs.Programs as whole
use Rattle.uc_tree.specs.Programs.{Program}
use Rattle.uc_tree.specs.Names.{same_name}
use Rattle.uc_tree.specs.ProgramMain.{main_number}
use Rattle.uc_tree.specs.Gathered.{gathered_all}
use Rattle.uc_tree.specs.Numbering.{Defined, is_mutex, is_plain, main_name, member_number, own_sites, own_texts, routines_of}
use Rattle.uc_tree.specs.Objects.{Making, APlain, AMutex, ACluster, AProcessor, making, ClassField, fields_of, has_execution, class_at, class_shape, written_at, Unwritten, unwritten_of}
use Rattle.uc_tree.specs.Source as src
use Rattle.uc_tree.specs.Source.{Shape, Expr, Stmt, Stmts, Clauses, Purpose, Routine}
use Rattle.uc_resolve.specs.Standings as tree
use Rattle.uc_resolve.specs.Standings.{Meant}
use Rattle.uc_resolve.specs.Resolve as meaning
use Rattle.uc_resolve.specs.Resolve.{Scope, source_of}
use Rattle.uc_machine.specs.Quiet.{MOST_ELEMENTS}
use Rattle.uc_rules.specs.ProgramVisits.{program_visits}
use Rattle.uc_rules.specs.Sorts.{has_main}
use Rattle.uc_sound.specs.SoundFormed.{IsFormed}
use Rattle.uc_sound.specs.Unbroken.{Unbroken}
use Rattle.uc_state_laws.specs.Makers.{roles}
use Rattle.uc_putting_laws.specs.PuttingLaws.{is_special, special_of}
use Rattle.uc_putting_laws.proofs.Roles.{main_plain, program_main_plain}
use Rattle.uc_parts_laws.specs.Parts.{CleansPart, Counts, CleansInner, OpensAll, NoArray, InnerStmt, InnerStmts, InnerHandlers, InnerClauses, HeadStmts, HeadStmt, BuildingStmts, PartsRoutine}
use Rattle.uc_parts_laws.specs.PartsLaws.{LawPartsSources}
use Rattle.uc_parts_laws.proofs.PartTodos.{inner_any}

abbrev Alone : Stmt → Type 0
Alone a = InnerStmt NoArray a

-- lengths of arrays: an activation can count so many elements, whatever an expression says

abbrev Fits : Option ℕ → Type 0
Fits None = Unit {0}
Fits (Some n) = n < MOST_ELEMENTS

sound_fits : (v : Option ℤ) → sound_length v < MOST_ELEMENTS
sound_fits None = omega arith
sound_fits (Some (negsuc n)) = omega arith
sound_fits (Some (pos n)) = by (nat_le 1 n && nat_le n ARRAY_LENGTH) refl
  where
    by : (b : Bool) → (nat_le 1 n && nat_le n ARRAY_LENGTH) ≡ b → (if b then n else 1) < MOST_ELEMENTS
    by true e = let k : n ≤ ARRAY_LENGTH = leb-true n ARRAY_LENGTH (and_parts (nat_le 1 n) (nat_le n ARRAY_LENGTH) e).1 in omega (arith, k)
    by false e = omega arith

length_fits : (named : List ℕ → Option ℤ) (e : Option expr.Expr) → length_in named e < MOST_ELEMENTS
length_fits named None = omega arith
length_fits named (Some e) = sound_fits (value_in e named)

elements_fit : (named : List ℕ → Option ℤ) (d : Declarator) → elements named d < MOST_ELEMENTS
elements_fit named d = by d.by_ref
  where
    by : (b : Bool) → (if b then 1 else length_in named d.len) < MOST_ELEMENTS
    by true = omega arith
    by false = length_fits named d.len

field_fits : (named : List ℕ → Option ℤ) (d : Declarator) (e : Option expr.Expr) → Fits (tree.field_length named d e)
field_fits named d None = tt
field_fits named d (Some e) = elements_fit named d

-- objects

module _ (p : Program) where
  declared_fits : (d : Declarator) (e : Option expr.Expr) → Fits (meaning.length_of p d e)
  declared_fits d None = tt
  declared_fits d (Some e) = elements_fit (value_of_name (constants_of p.items)) d

  in_class_fits : (c : whole.Class) (i : ℕ) (f : ClassField) → Fits (meaning.length_in_class p c i f)
  in_class_fits c i f = field_fits (seen_in (constants_of p.items) c) f.declarator f.declarator.len

  called_counts : (i n : ℕ) (s : Shape) (place : Expr) (r : Option ℕ) → Counts n (meaning.called_by p i role.Destructor (src.Element n s place (src.OfObject src.Counted)) [] r)
  called_counts i n s place None = refl
  called_counts i n s place (Some r) = refl

  ended_counts : (i n : ℕ) (s : Shape) (place : Expr) (r : Option ℕ) → Counts n (meaning.ended_by p i (src.Load (src.Element n s place (src.OfObject src.Counted))) r)
  ended_counts i n s place None = refl
  ended_counts i n s place (Some r) = refl

  counts : (m : Making) (n : ℕ) (place : Expr) → Counts n (meaning.destroyed p m (meaning.counted_element p m n place))
  counts (APlain i) n place = called_counts i n (meaning.made_shape p (APlain i)) place (written_at p i role.Destructor)
  counts (AMutex i) n place = ended_counts i n (meaning.made_shape p (AMutex i)) place (written_at p i role.Destructor)
  counts ACluster n place = tt
  counts AProcessor n place = tt

  cleans_inner : (m : Making) (len : Option ℕ) (place : Expr) → CleansInner (meaning.clean_up p m len place)
  cleans_inner m None place = tt
  cleans_inner m (Some n) place = counts m n place

  cleans_part : (m : Making) (len : Option ℕ) (place : Expr) → CleansPart (meaning.clean_up p m len place)
  cleans_part m None place = tt
  cleans_part m (Some n) place = counts m n place

  -- what builds an object stands before its scope, or before it becomes a part
  build_scoped : (line : ℕ) (m : Making) (len : Option ℕ) (place : Expr) (args : List Meant) (rest : Stmts) → Fits len → InnerStmt (λ k d. OpensAll k d (src.Scoped (meaning.clean_up p m len place) rest)) (meaning.build p line m len place args)
  build_scoped line m None place args rest f = tt
  build_scoped line m (Some n) place args rest f = (refl, refl, counts m n place, f)

  build_head : (special : ℕ → Bool) (m : Making) (len : Option ℕ) (place : Expr) (args : List Meant) (rest : Stmts) → Fits len → HeadStmt special (src.Built (meaning.clean_up p m len place) rest) (meaning.build p 0 m len place args)
  build_head special m None place args rest f = tt
  build_head special m (Some n) place args rest f = (refl, refl, counts m n place, f)

  prepend : (a : Stmt) (ss : Stmts) → Alone a → InnerStmts ss → InnerStmts (src.Then a ss)
  prepend a ss k h = (inner_any (λ m d. OpensAll m d ss) a k, h)

  -- declarations

  objects : (m : Making) (line : ℕ) (b : Base) (ds : List Declarator) (s : Scope) (rest : Stmts) → InnerStmts rest → InnerStmts (meaning.objects_scoped p m line b ds s rest)
  objects m line b [] s rest h = h
  objects m line b (d ∷ ds) s rest h =
      let len : Option ℕ = meaning.length_of p d d.len in
      (tt, (build_scoped line m len (src.Variable s.cells) (meaning.start_args p s d.start) (meaning.objects_scoped p m line b ds (meaning.with_declared p s b d) rest) (declared_fits d d.len), (cleans_inner m len (src.Variable s.cells), objects m line b ds (meaning.with_declared p s b d) rest h)))

  declared_then : (b : Base) (m : Option Making) (line : ℕ) (ds : List Declarator) (s : Scope) (rest : Stmts) → InnerStmts rest → InnerStmts (meaning.declared_then p m line b ds s rest)
  declared_then b None line ds s rest h = prepend (src.Declare line (meaning.all_declared p s b ds)) rest tt h
  declared_then b (Some m) line ds s rest h = objects m line b ds s rest h

  declared_alone : (b : Base) (m : Option Making) (line : ℕ) (ds : List Declarator) (s : Scope) → Alone (meaning.declared_alone p m line b ds s)
  declared_alone b None line ds s = tt
  declared_alone b (Some m) line ds s = objects m line b ds s src.Nil tt

  start_then : (line : ℕ) (x : stmt.ForStart) (s : Scope) (rest : Stmts) → InnerStmts rest → InnerStmts (meaning.start_then p line x s rest)
  start_then line stmt.NoFor s rest h = prepend (src.Skip line) rest tt h
  start_then line (stmt.ForDeclare place b ds) s rest h = declared_then b (making p b) line ds s rest h
  start_then line (stmt.ForEvaluate e) s rest h = prepend (src.Evaluate line (tree.meant (meaning.context_at p s) e).expr) rest tt h

  stmt_then : (t : stmt.Stmt) (s : Scope) (a : Stmt) (rest : Stmts) → Alone a → InnerStmts rest → InnerStmts (meaning.stmt_then p t s a rest)
  stmt_then (stmt.Declare place b ds) s a rest n h = declared_then b (making p b) place.line ds s rest h
  stmt_then t s a rest n h = prepend a rest n h

  mutual
    one : (t : stmt.Stmt) (s : Scope) → Alone (meaning.stmt_meant p t s)
    one (stmt.Block place body) s = all body s
    one (stmt.Declare place b ds) s = declared_alone b (making p b) place.line ds s
    one (stmt.If place e chosen other) s = (one chosen s, maybe other (meaning.scope_past p chosen s))
    one (stmt.While place e body) s = one body s
    one (stmt.Do place body e) s = one body s
    one (stmt.For place x e f body) s =
        let inner : Scope = meaning.for_scope p x s in
        start_then place.line x s (src.Then (src.Loop place.line (meaning.order_of p e) (meaning.test_of p inner e) (meaning.step_of p inner f) (meaning.stmt_meant p body inner)) src.Nil) (prepend (src.Loop place.line (meaning.order_of p e) (meaning.test_of p inner e) (meaning.step_of p inner f) (meaning.stmt_meant p body inner)) src.Nil (one body inner) tt)
    one (stmt.Try place brace body hs) s = ((all body s, tt), handlers hs (meaning.scope_past_all p body s))
    one (stmt.Enable place events body) s = one body (meaning.within_events p s)
    one (stmt.Disable place events body) s = one body (meaning.within_events p s)
    one (stmt.Accept place cs other) s =
        clauses cs (meaning.within_accept p s) _ (otherwise other (meaning.scope_past_clauses p cs (meaning.within_accept p s)))
    one t s = tt

    clauses : (cs : stmt.Clauses) (s : Scope) (other : Clauses) → InnerClauses other → InnerClauses (meaning.clauses_meant p cs s other)
    clauses stmt.NoClauses s other h = h
    clauses (stmt.MoreClauses (stmt.Accepts place guard members body) rest) s other h = (one body s, clauses rest (meaning.scope_past p body s) other h)

    otherwise : (t : stmt.MaybeStmt) (s : Scope) → InnerClauses (meaning.else_meant p t s)
    otherwise stmt.NoStmt s = tt
    otherwise (stmt.OneStmt body) s = one body s

    handlers : (hs : stmt.Handlers) (s : Scope) → InnerHandlers (meaning.handlers_meant p hs s)
    handlers stmt.NoHandlers s = tt
    handlers (stmt.MoreHandlers (stmt.Handles place kind event param brace body) rest) s =
        let x : stmt.Handler = stmt.Handles place kind event param brace body in
        (all body (meaning.in_handler p x s), handlers rest (meaning.scope_past_handler p x s))

    maybe : (t : stmt.MaybeStmt) (s : Scope) → Alone (meaning.maybe_meant p t s)
    maybe stmt.NoStmt s = tt
    maybe (stmt.OneStmt body) s = one body s

    all : (ts : stmt.Stmts) (s : Scope) → InnerStmts (meaning.stmts_meant p ts s)
    all stmt.NoStmts s = tt
    all (stmt.MoreStmts t ts) s =
        stmt_then t s (meaning.stmt_meant p t s) (meaning.stmts_meant p ts (meaning.scope_after p t s)) (one t s) (all ts (meaning.scope_after p t s))

  -- destructors and members

  field_left : (m : Option Making) (len : Option ℕ) (place : Expr) (rest : Stmts) → InnerStmts rest → InnerStmts (meaning.field_left p m len place rest)
  field_left None len place rest h = h
  field_left (Some m) len place rest h = (cleans_inner m len place, h)

  fields_left : (c : whole.Class) (i : ℕ) (fs : List ClassField) (n : ℕ) (rest : Stmts) → InnerStmts rest → InnerStmts (meaning.fields_left p c i fs n rest)
  fields_left c i [] n rest h = h
  fields_left c i (f ∷ fs) n rest h =
      field_left (meaning.field_making p f) (meaning.length_in_class p c i f) (tree.field_place (class_shape p i) n tree.Own) (meaning.fields_left p c i fs (suc n) rest) (fields_left c i fs (suc n) rest h)

  taken_down : (b : Bool) (body : Stmts) → InnerStmts body → InnerStmts (meaning.taken_down p b body)
  taken_down false body h = h
  taken_down true body h = (tt, h)

  forgotten : (b : Bool) (rest : Stmts) → InnerStmts rest → InnerStmts (meaning.forgotten p b rest)
  forgotten false rest h = h
  forgotten true rest h = (tt, h)

  ending : (b : Bool) (rest : Stmts) → InnerStmts rest → InnerStmts (meaning.ending p b rest)
  ending false rest h = h
  ending true rest h = (tt, h)

  destruction : (c : Option whole.Class) (i : ℕ) (body : Stmts) → InnerStmts body → InnerStmts (meaning.destruction p c i body)
  destruction None i body h = h
  destruction (Some c) i body h =
      ending (is_mutex c.kind) _ (forgotten (has_execution c.kind) _ (fields_left c i (fields_of c.members) (leading_cells c.kind) _ (taken_down (has_execution c.kind) body h)))

  owing : (line : ℕ) (u : Purpose) → InnerStmts (meaning.owing p line u)
  owing line src.Function = (tt, tt)
  owing line src.TaskMain = tt
  owing line src.CoroutineMain = tt
  owing line src.Procedure = tt
  owing line src.Builder = tt

  plain_body : (b : Bool) (r : whole.Routine) (body : Stmts) → InnerStmts body → InnerStmts (meaning.plain_body p b r body)
  plain_body false r body h = h
  plain_body true r body h = (tt, (h, owing r.brace.line (meaning.value_purpose p r.sig.ret)))

-- constructors

module _ (p : Program) (formed : IsFormed p) (u : Unbroken (program_visits p)) where
  abbrev Fine : Stmts → Type 0
  Fine ss = HeadStmts (special_of p) ss

  field_started : (f : ClassField) (place : Expr) (args : List Meant) (rest : Stmts) → Fine rest → Fine (meaning.field_started p f place args rest)
  field_started f place [] rest h = h
  field_started f place (m ∷ ms) rest h = (tt, h)

  field_built : (m : Option Making) (f : ClassField) (len : Option ℕ) (place : Expr) (args : List Meant) (rest : Stmts) → Fits len → Fine rest → Fine (meaning.field_built p m f len place args rest)
  field_built None f len place args rest k h = field_started f place args rest h
  field_built (Some m) f len place args rest k h = (build_head p (special_of p) m len place args rest k, (cleans_part p m len place, h))

  fields_built : (c : whole.Class) (i : ℕ) (inits : List whole.Init) (s : Scope) (fs : List ClassField) (n : ℕ) (rest : Stmts) → Fine rest → Fine (meaning.fields_built p c i inits s fs n rest)
  fields_built c i inits s [] n rest h = h
  fields_built c i inits s (f ∷ fs) n rest h =
      field_built (meaning.field_making p f) f (meaning.length_in_class p c i f) (tree.field_place (class_shape p i) n tree.Own) (meaning.init_args p s (meaning.init_named p inits f.declarator.name)) (meaning.fields_built p c i inits s fs (suc n) rest) (in_class_fits p c i f) (fields_built c i inits s fs (suc n) rest h)

  false_true : {A : Type 0} → false ≡ true → A
  false_true e = absurd (cc)

  executes_main : (k : Kind) → has_execution k ≡ true → has_main k ≡ true
  executes_main kind.Coroutine h = refl
  executes_main kind.Cormonitor h = refl
  executes_main _ h = false_true h

  set_up : (c : whole.Class) (i : ℕ) (rest : Stmts) → class_at p i ≡ Some c → Fine rest → Fine (meaning.set_up p (has_execution c.kind) i rest)
  set_up c i rest at h = by (has_execution c.kind) refl
    where
      by : (b : Bool) → has_execution c.kind ≡ b → Fine (meaning.set_up p b i rest)
      by true e = ((tt, main_plain p formed u i c at (executes_main c.kind e)), (tt, h))
      by false e = h

  started_in : (b : Bool) (body : Stmts) → Fine body → Fine (meaning.started_in p b body)
  started_in false body h = h
  started_in true body h = (tt, h)

  enlivened : (b : Bool) → Fine (meaning.enlivened p b)
  enlivened false = tt
  enlivened true = (tt, tt)

  construction_ends : (o : Option whole.Class) (i : ℕ) → Fine (meaning.construction_ends p o i)
  construction_ends None i = tt
  construction_ends (Some c) i = enlivened (has_execution c.kind)

  abbrev Body : Stmts → Type 0
  Body ss = BuildingStmts (special_of p) ss

  -- what builds parts alone builds
  heads_build : (ss : Stmts) → Fine ss → Body ss
  heads_build src.Nil h = h
  heads_build (src.Then a rest) h = h
  heads_build (src.Scoped c rest) h = absurd h
  heads_build (src.Built c rest) h = h

  freed : (c : whole.Class) (k : Kind) (i : ℕ) (rest : Stmts) → c.kind ≡ k → class_at p i ≡ Some c → Fine rest → Body (meaning.freed p k i rest)
  freed c kind.Monitor i rest e at h = (tt, h)
  freed c kind.Cormonitor i rest e at h = (tt, h)
  freed c kind.Task i rest e at h = (main_plain p formed u i c at (ap has_main e), h)
  freed c kind.Class i rest e at h = heads_build rest h
  freed c kind.Coroutine i rest e at h = heads_build rest h
  freed c kind.Event i rest e at h = heads_build rest h

  -- the class at a place, if it has one
  abbrev IsAt : Option whole.Class → ℕ → Type 0
  IsAt None i = Unit {0}
  IsAt (Some c) i = class_at p i ≡ Some c

  at_is : (i : ℕ) (o : Option whole.Class) → class_at p i ≡ o → IsAt o i
  at_is i None e = tt
  at_is i (Some c) e = e

  class_is : (o : Option ℕ) → IsAt (meaning.class_by p o) (meaning.place_or_zero p o)
  class_is None = tt
  class_is (Some i) = at_is i (class_at p i) refl

  construction : (o : Option whole.Class) (i : ℕ) (inits : List whole.Init) (s : Scope) (body : Stmts) → IsAt o i → Fine body → Body (meaning.construction p o i inits s body)
  construction None i inits s body at h = heads_build body h
  construction (Some c) i inits s body at h =
      freed c c.kind i _ refl at (set_up c i _ at (fields_built c i inits s (fields_of c.members) (leading_cells c.kind) _ (started_in (has_execution c.kind) body h)))

  -- routines

  -- what is no main, and no member, builds

  and_false : (b c : Bool) → c ≡ false → (b && c) ≡ false
  and_false true c h = h
  and_false false c h = refl

  unmained : (r : whole.Routine) → r.sig.role ≡ role.Constructor → meaning.is_main p r.sig ≡ false
  unmained r e = ap (λ x. is_plain x && same_name r.sig.name main_name) e

  unnumbered : (c : Option whole.Class) (r : whole.Routine) → r.sig.role ≡ role.Constructor → meaning.has_number_in p c r.sig ≡ false
  unnumbered None r e = refl
  unnumbered (Some d) r e = ap (λ x. is_plain x && is_some (member_number d r.sig.name)) e

  by_role : (c : Option whole.Class) (r : whole.Routine) → r.sig.role ≡ role.Constructor → (if meaning.has_tasks p c && meaning.is_main p r.sig then src.TaskMain else if meaning.has_coroutines p c && meaning.is_main p r.sig then src.CoroutineMain else if meaning.has_number_in p c r.sig then src.Builder else meaning.role_purpose p r.sig.role r.sig.ret) ≡ src.Builder
  by_role c r e =
      ap (λ (b : Bool). if b then src.TaskMain else if meaning.has_coroutines p c && meaning.is_main p r.sig then src.CoroutineMain else if meaning.has_number_in p c r.sig then src.Builder else meaning.role_purpose p r.sig.role r.sig.ret) (and_false (meaning.has_tasks p c) (meaning.is_main p r.sig) (unmained r e)) ∙ (ap (λ (b : Bool). if b then src.CoroutineMain else if meaning.has_number_in p c r.sig then src.Builder else meaning.role_purpose p r.sig.role r.sig.ret) (and_false (meaning.has_coroutines p c) (meaning.is_main p r.sig) (unmained r e)) ∙ (ap (λ (b : Bool). if b then src.Builder else meaning.role_purpose p r.sig.role r.sig.ret) (unnumbered c r e) ∙ ap (λ x. meaning.role_purpose p x r.sig.ret) e))

  builds : (number : ℕ) (c : Option whole.Class) (r : whole.Routine) → nat_eq number (main_number p) ≡ false → r.sig.role ≡ role.Constructor → meaning.purpose_of p number c r ≡ src.Builder
  builds number c r n e =
      ap (λ (b : Bool). if b || (meaning.has_tasks p c && meaning.is_main p r.sig) then src.TaskMain else if meaning.has_coroutines p c && meaning.is_main p r.sig then src.CoroutineMain else if meaning.has_number_in p c r.sig then src.Builder else meaning.role_purpose p r.sig.role r.sig.ret) n ∙ by_role c r e

  -- but for the main of the program
  body_by : (x : Role) (r : whole.Routine) (s : Scope) → r.sig.role ≡ x → (is_special (Some x) ≡ true → nat_eq s.routine (main_number p) ≡ false) → PartsRoutine (special_of p) (is_special (Some x)) (Some (meaning.routine_meant p r s))
  body_by role.Plain r s e n = subst (λ x. InnerStmts (meaning.body_by p x r s)) (sym e) (plain_body p (meaning.has_number_in p (meaning.class_by p s.class) r.sig) r _ (all p r.body s))
  body_by role.Constructor r s e n =
      inr (builds s.routine (meaning.class_by p s.class) r (n refl) e, subst (λ x. Body (meaning.body_by p x r s)) (sym e) (construction (meaning.class_by p s.class) (meaning.place_or_zero p s.class) r.inits s _ (class_is s.class) (all p r.body s, construction_ends (meaning.class_by p s.class) (meaning.place_or_zero p s.class))))
  body_by role.Destructor r s e n = inl (subst (λ x. InnerStmts (meaning.body_by p x r s)) (sym e) (destruction p (meaning.class_by p s.class) (meaning.place_or_zero p s.class) _ (all p r.body s, tt)))

  unwritten_body : (x : Unwritten) → PartsRoutine (special_of p) (is_special (Some x.role)) (Some (meaning.unwritten_meant p x))
  unwritten_body x = by x.role refl
    where
      by : (y : Role) → x.role ≡ y → PartsRoutine (special_of p) (is_special (Some y)) (Some (meaning.unwritten_meant p x))
      by role.Plain e = subst (λ y. InnerStmts (meaning.unwritten_body p y x.class)) (sym e) tt
      by role.Constructor e = inr (refl, subst (λ y. Body (meaning.unwritten_body p y x.class)) (sym e) (construction (class_at p x.class) x.class [] (meaning.nowhere p) _ (at_is x.class (class_at p x.class) refl) (construction_ends (class_at p x.class) x.class)))
      by role.Destructor e = inl (subst (λ y. InnerStmts (meaning.unwritten_body p y x.class)) (sym e) (destruction p (class_at p x.class) x.class src.Nil tt))

  -- all routines of a source, each by its role and its number

  abbrev AllParts : ℕ → List Role → List Routine → Type 0
  AllParts number [] [] = Unit {0}
  AllParts number [] (r ∷ rs) = ⊥
  AllParts number (x ∷ xs) [] = ⊥
  AllParts number (x ∷ xs) (r ∷ rs) =
      ((is_special (Some x) ≡ true → nat_eq number (main_number p) ≡ false) → PartsRoutine (special_of p) (is_special (Some x)) (Some r)) × AllParts (number + 1) xs rs

  unwritten : (us : List Unwritten) (number : ℕ) → AllParts number (map (λ u. u.role) us) (meaning.all_unwritten p us)
  unwritten [] number = tt
  unwritten (x ∷ us) number = (λ f. unwritten_body x, unwritten us (number + 1))

  written : (ds : List Defined) (number texts sites : ℕ) (ys : List Role) (us : List Routine) → ((k : ℕ) → AllParts k ys us) → AllParts number (map (λ d. d.routine.sig.role) ds ++ ys) (meaning.routines_meant p ds number texts sites ++ us)
  written [] number texts sites ys us k = k number
  written (d ∷ ds) number texts sites ys us k =
      (λ f. body_by d.routine.sig.role d.routine (meaning.routine_scope p d.routine (meaning.place_by p d) number texts sites) refl f, written ds (number + 1) (texts + length (gathered_all own_texts d.routine.body)) (sites + length (gathered_all (own_sites d.class d.number) d.routine.body)) ys us k)

  further : (number n : ℕ) → number + suc n ≡ (number + 1) + n
  further number n = omega arith

  by_place : (number : ℕ) (xs : List Role) (rs : List Routine) → AllParts number xs rs → ((n : ℕ) → is_special (slice_get xs n) ≡ true → nat_eq (number + n) (main_number p) ≡ false) → (n : ℕ) → PartsRoutine (special_of p) (is_special (slice_get xs n)) (slice_get rs n)
  by_place number [] [] h f n = tt
  by_place number [] (r ∷ rs) h f n = absurd h
  by_place number (x ∷ xs) [] h f n = absurd h
  by_place number (x ∷ xs) (r ∷ rs) h f zero = h.0 (λ e. subst (λ k. nat_eq k (main_number p) ≡ false) (here number) (f zero e))
    where
      here : (n : ℕ) → n + 0 ≡ n
      here n = omega arith
  by_place number (x ∷ xs) (r ∷ rs) h f (suc n) = by_place (number + 1) xs rs h.1 (λ m e. subst (λ k. nat_eq k (main_number p) ≡ false) (further number m) (f (suc m) e)) n

  -- a constructor is no main
  no_main : (n : ℕ) → special_of p n ≡ true → nat_eq n (main_number p) ≡ false
  no_main n e = by (nat_eq n (main_number p)) refl
    where
      no_both : {A : Type 0} (b : Bool) → b ≡ true → b ≡ false → A
      no_both b t f = absurd (cc)

      by : (b : Bool) → nat_eq n (main_number p) ≡ b → b ≡ false
      by true i = no_both (special_of p n) e (subst (λ k. special_of p k ≡ false) (sym (eqb-true n (main_number p) i)) (program_main_plain p formed u))
      by false i = refl

  from_zero : (n : ℕ) → 0 + n ≡ n
  from_zero n = omega arith

pub law_parts_sources : LawPartsSources
law_parts_sources p formed accepted = record {
  routines = λ n. by_place p formed accepted 0 (roles p) (source_of p).routines (written p formed accepted (routines_of p) 0 0 0 (map (λ u. u.role) (unwritten_of p)) (meaning.all_unwritten p (unwritten_of p)) (unwritten p formed accepted (unwritten_of p))) (λ k e. subst (λ i. nat_eq i (main_number p) ≡ false) (sym (from_zero p formed accepted k)) (no_main p formed accepted k e)) n;
  main = program_main_plain p formed accepted;
}
