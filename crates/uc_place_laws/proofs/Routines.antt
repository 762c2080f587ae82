-- In the source of every program that breaks no rule objects are built where they may be.
use Rattle.std.proofs.Common.{◌≡◌, ℕ, zero, suc, ◌+◌, ◌++◌, inl, inr, map, Bool, true, false, List, [], ◌∷◌, length, Option, Some, None, refl}
use Rattle.std.specs.Prelude.{slice_get}
use Rattle.uc_tree.specs.declared.kinds.Kind.{Kind}
use Rattle.uc_tree.specs.declared.kinds.Kind.TheVariants as kind
use Rattle.uc_tree.specs.declared.kinds.Role.{Role}
use Rattle.uc_tree.specs.declared.kinds.Role.TheVariants as role
use Rattle.uc_tree.specs.Cells.{leading_cells}
use Rattle.uc_tree.specs.Programs as whole
use Rattle.uc_tree.specs.Programs.{Program}
use Rattle.uc_tree.specs.Gathered.{gathered_all}
use Rattle.uc_tree.specs.Numbering.{Defined, is_mutex, own_sites, own_texts, routines_of}
use Rattle.uc_tree.specs.Objects.{Making, APlain, AMutex, ACluster, AProcessor, ClassField, fields_of, has_execution, class_at, class_shape, shape_of, Unwritten, unwritten_of}
use Rattle.uc_tree.specs.Source as src
use Rattle.uc_tree.specs.Source.{Shape, Expr, Stmts, Purpose, Routine}
use Rattle.uc_resolve.specs.Standings as tree
use Rattle.uc_resolve.specs.Standings.{Meant}
use Rattle.uc_resolve.specs.Resolve as meaning
use Rattle.uc_resolve.specs.Resolve.{Scope, source_of}
use Rattle.uc_rules.specs.Sorts.{has_main}
use Rattle.uc_rules.specs.ProgramVisits.{program_visits}
use Rattle.uc_sound.specs.Unbroken.{Unbroken}
use Rattle.uc_sound.proofs.Ties.{false_true}
use Rattle.uc_sound.specs.SoundFormed.{IsFormed}
use Rattle.uc_state_laws.specs.Makers.{roles}
use Rattle.uc_place_laws.specs.Siting.{OpensAt, OpensAlone, SitedExpr, SitedStmts, SitedRoutine}
use Rattle.uc_place_laws.specs.AsideLaws.{is_maker, makes_of, LawSited}
use Rattle.uc_place_laws.proofs.Roles.{main_plain}
use Rattle.uc_place_laws.proofs.Expressions as expressions
use Rattle.uc_place_laws.proofs.Expressions.{MeantPlain, AllMeant}
use Rattle.uc_place_laws.proofs.Statements as statements
use Rattle.uc_place_laws.proofs.Statements.{IfPlain}

module _ (p : Program) (formed : IsFormed p) (u : Unbroken (program_visits p)) where
  abbrev Fine : Stmts → Type 0
  Fine ss = SitedStmts (makes_of p) true ss

  abbrev Plain : Stmts → Type 0
  Plain ss = SitedStmts (makes_of p) false ss

  -- fields

  init_args : (s : Scope) (x : Option whole.Init) → AllMeant p (meaning.init_args p s x)
  init_args s None = tt
  init_args s (Some x) = statements.args p s x.args

  field_start : (Near : ℕ → Type 0) (b : Bool) (s : Shape) (k : Shape) (i : ℕ) (m : Meant) → MeantPlain p m → SitedExpr (makes_of p) Near true (meaning.field_start p b s (src.OfObject (src.OwnField k i)) m)
  field_start Near true s k i m h = inr (refl, h.expr)
  field_start Near false s k i m h = inl (inl (tt, expressions.converted p s (tree.value_of m) (expressions.value_of p m h)))

  field_started : (f : ClassField) (k : Shape) (i : ℕ) (args : List Meant) (rest : Stmts) → AllMeant p args → Fine rest → Fine (meaning.field_started p f (src.OfObject (src.OwnField k i)) args rest)
  field_started f k i [] rest h l = l
  field_started f k i (m ∷ ms) rest h l = (field_start (OpensAt rest) f.declarator.by_ref (shape_of f.base) k i m h.0, l)

  own_at : (m : Making) → IfPlain m (true ≡ true)
  own_at (APlain i) = refl
  own_at (AMutex i) = tt
  own_at ACluster = tt
  own_at AProcessor = tt

  own_alone : (m : Making) → IfPlain m (Unit {0})
  own_alone (APlain i) = tt
  own_alone (AMutex i) = tt
  own_alone ACluster = tt
  own_alone AProcessor = tt

  field_built : (m : Option Making) (f : ClassField) (len : Option ℕ) (k : Shape) (i : ℕ) (args : List Meant) (rest : Stmts) → AllMeant p args → Fine rest → Fine (meaning.field_built p m f len (src.OfObject (src.OwnField k i)) args rest)
  field_built None f len k i args rest h l = field_started f k i args rest h l
  field_built (Some m) f len k i args rest h l =
      let behind : Stmts = src.Built (meaning.clean_up p m len (src.OfObject (src.OwnField k i))) rest in
      (statements.build p (OpensAt behind) (OpensAlone behind) true 0 m len (src.OfObject (src.OwnField k i)) args (own_at m) (own_alone m) refl tt h, (statements.clean_up p m len (src.OfObject (src.OwnField k i)) tt, l))

  field_left : (m : Option Making) (len : Option ℕ) (k : Shape) (i : ℕ) (rest : Stmts) → Plain rest → Plain (meaning.field_left p m len (src.OfObject (src.OwnField k i)) rest)
  field_left None len k i rest l = l
  field_left (Some m) len k i rest l = (statements.clean_up p m len (src.OfObject (src.OwnField k i)) tt, l)

  module _ (c : whole.Class) (i : ℕ) where
    fields_built : (inits : List whole.Init) (s : Scope) (fs : List ClassField) (n : ℕ) (rest : Stmts) → Fine rest → Fine (meaning.fields_built p c i inits s fs n rest)
    fields_built inits s [] n rest h = h
    fields_built inits s (f ∷ fs) n rest h =
        field_built (meaning.field_making p f) f (meaning.length_in_class p c i f) (class_shape p i) n (meaning.init_args p s (meaning.init_named p inits f.declarator.name)) (meaning.fields_built p c i inits s fs (suc n) rest) (init_args s (meaning.init_named p inits f.declarator.name)) (fields_built inits s fs (suc n) rest h)

    fields_left : (fs : List ClassField) (n : ℕ) (rest : Stmts) → Plain rest → Plain (meaning.fields_left p c i fs n rest)
    fields_left [] n rest h = h
    fields_left (f ∷ fs) n rest h =
        field_left (meaning.field_making p f) (meaning.length_in_class p c i f) (class_shape p i) n (meaning.fields_left p c i fs (suc n) rest) (fields_left fs (suc n) rest h)

  -- constructors and destructors

  executes_main : (k : Kind) → has_execution k ≡ true → has_main k ≡ true
  executes_main kind.Coroutine h = refl
  executes_main kind.Cormonitor h = refl
  executes_main _ h = false_true h

  set_up : (c : whole.Class) (i : ℕ) (rest : Stmts) → class_at p i ≡ Some c → Fine rest → Fine (meaning.set_up p (has_execution c.kind) i rest)
  set_up c i rest at h = by (has_execution c.kind) refl
    where
      by : (b : Bool) → has_execution c.kind ≡ b → Fine (meaning.set_up p b i rest)
      by true e = ((refl, main_plain p formed u i c at (executes_main c.kind e)), (tt, h))
      by false e = h

  started_in : (b : Bool) (body : Stmts) → Fine body → Fine (meaning.started_in p b body)
  started_in false body h = h
  started_in true body h = (tt, h)

  enlivened : (b : Bool) → Fine (meaning.enlivened p b)
  enlivened false = tt
  enlivened true = (tt, tt)

  taken_down : (b : Bool) (body : Stmts) → Plain body → Plain (meaning.taken_down p b body)
  taken_down false body h = h
  taken_down true body h = (tt, h)

  forgotten : (b : Bool) (rest : Stmts) → Plain rest → Plain (meaning.forgotten p b rest)
  forgotten false rest h = h
  forgotten true rest h = (tt, h)

  freed : (k : Kind) (i : ℕ) (rest : Stmts) → Fine rest → Fine (meaning.freed p k i rest)
  freed kind.Monitor i rest h = (tt, h)
  freed kind.Cormonitor i rest h = (tt, h)
  freed kind.Task i rest h = (tt, h)
  freed kind.Class i rest h = h
  freed kind.Coroutine i rest h = h
  freed kind.Event i rest h = h

  ending : (b : Bool) (rest : Stmts) → Plain rest → Plain (meaning.ending p b rest)
  ending false rest h = h
  ending true rest h = (tt, h)

  -- the class at a place, if it has one
  abbrev IsAt : Option whole.Class → ℕ → Type 0
  IsAt None i = Unit {0}
  IsAt (Some c) i = class_at p i ≡ Some c

  at_is : (i : ℕ) (o : Option whole.Class) → class_at p i ≡ o → IsAt o i
  at_is i None e = tt
  at_is i (Some c) e = e

  construction : (o : Option whole.Class) (i : ℕ) (inits : List whole.Init) (s : Scope) (body : Stmts) → IsAt o i → Fine body → Fine (meaning.construction p o i inits s body)
  construction None i inits s body at h = h
  construction (Some c) i inits s body at h =
      freed c.kind i _ (set_up c i _ at (fields_built c i inits s (fields_of c.members) (leading_cells c.kind) _ (started_in (has_execution c.kind) body h)))

  destruction : (o : Option whole.Class) (i : ℕ) (body : Stmts) → Plain body → Plain (meaning.destruction p o i body)
  destruction None i body h = h
  destruction (Some c) i body h =
      ending (is_mutex c.kind) _ (forgotten (has_execution c.kind) _ (fields_left c i (fields_of c.members) (leading_cells c.kind) _ (taken_down (has_execution c.kind) body h)))

  construction_ends : (o : Option whole.Class) (i : ℕ) → Fine (meaning.construction_ends p o i)
  construction_ends None i = tt
  construction_ends (Some c) i = enlivened (has_execution c.kind)

  -- routines

  owing : (line : ℕ) (w : Purpose) → Plain (meaning.owing p line w)
  owing line src.Function = (tt, tt)
  owing line src.TaskMain = tt
  owing line src.CoroutineMain = tt
  owing line src.Procedure = tt
  owing line src.Builder = tt

  plain_body : (b : Bool) (r : whole.Routine) (body : Stmts) → Plain body → Plain (meaning.plain_body p b r body)
  plain_body false r body h = h
  plain_body true r body h = (tt, (h, owing r.brace.line (meaning.value_purpose p r.sig.ret)))

  class_is : (o : Option ℕ) → IsAt (meaning.class_by p o) (meaning.place_or_zero p o)
  class_is None = tt
  class_is (Some i) = at_is i (class_at p i) refl

  body_by : (x : Role) (r : whole.Routine) (s : Scope) → SitedStmts (makes_of p) (is_maker (Some x)) (meaning.body_by p x r s)
  body_by role.Plain r s = plain_body (meaning.has_number_in p (meaning.class_by p s.class) r.sig) r _ (statements.all p false r.body s)
  body_by role.Constructor r s =
      construction (meaning.class_by p s.class) (meaning.place_or_zero p s.class) r.inits s _ (class_is s.class) (statements.all p true r.body s, construction_ends (meaning.class_by p s.class) (meaning.place_or_zero p s.class))
  body_by role.Destructor r s = destruction (meaning.class_by p s.class) (meaning.place_or_zero p s.class) _ (statements.all p false r.body s, tt)

  unwritten_body : (x : Role) (i : ℕ) → SitedStmts (makes_of p) (is_maker (Some x)) (meaning.unwritten_body p x i)
  unwritten_body role.Plain i = tt
  unwritten_body role.Constructor i = construction (class_at p i) i [] (meaning.nowhere p) _ (at_is i (class_at p i) refl) (construction_ends (class_at p i) i)
  unwritten_body role.Destructor i = destruction (class_at p i) i src.Nil tt

  -- all routines of a source, each by its role

  abbrev AllSited : List Role → List Routine → Type 0
  AllSited [] [] = Unit {0}
  AllSited [] (r ∷ rs) = ⊥
  AllSited (x ∷ xs) [] = ⊥
  AllSited (x ∷ xs) (r ∷ rs) = SitedStmts (makes_of p) (is_maker (Some x)) r.body × AllSited xs rs

  both_lists : (xs ys : List Role) (rs us : List Routine) → AllSited xs rs → AllSited ys us → AllSited (xs ++ ys) (rs ++ us)
  both_lists [] ys [] us h k = k
  both_lists [] ys (r ∷ rs) us h k = absurd h
  both_lists (x ∷ xs) ys [] us h k = absurd h
  both_lists (x ∷ xs) ys (r ∷ rs) us h k = (h.0, both_lists xs ys rs us h.1 k)

  by_place : (xs : List Role) (rs : List Routine) → AllSited xs rs → (n : ℕ) → SitedRoutine (makes_of p) (is_maker (slice_get xs n)) (slice_get rs n)
  by_place [] [] h n = tt
  by_place [] (r ∷ rs) h n = absurd h
  by_place (x ∷ xs) [] h n = absurd h
  by_place (x ∷ xs) (r ∷ rs) h zero = h.0
  by_place (x ∷ xs) (r ∷ rs) h (suc n) = by_place xs rs h.1 n

  written : (ds : List Defined) (number texts sites : ℕ) → AllSited (map (λ d. d.routine.sig.role) ds) (meaning.routines_meant p ds number texts sites)
  written [] number texts sites = tt
  written (d ∷ ds) number texts sites =
      (body_by d.routine.sig.role d.routine (meaning.routine_scope p d.routine (meaning.place_by p d) number texts sites), written ds (number + 1) (texts + length (gathered_all own_texts d.routine.body)) (sites + length (gathered_all (own_sites d.class d.number) d.routine.body)))

  unwritten : (us : List Unwritten) → AllSited (map (λ u. u.role) us) (meaning.all_unwritten p us)
  unwritten [] = tt
  unwritten (x ∷ us) = (unwritten_body x.role x.class, unwritten us)

pub law_sited : LawSited
law_sited p formed u n =
    by_place p formed u (roles p) (source_of p).routines (both_lists p formed u (map (λ d. d.routine.sig.role) (routines_of p)) (map (λ u. u.role) (unwritten_of p)) (meaning.routines_meant p (routines_of p) 0 0 0) (meaning.all_unwritten p (unwritten_of p)) (written p formed u (routines_of p) 0 0 0) (unwritten p formed u (unwritten_of p))) n
