-- Each routine of a program that breaks no rule calls nothing that holds its object, but where it enters that.
use Rattle.std.proofs.Common.{◌≡◌, ℕ, zero, suc, ◌+◌, ◌++◌, inl, inr, Bool, true, false, List, [], ◌∷◌, length, Option, Some, None, refl, ap}
use Rattle.std.specs.Prelude.{slice_get, if◌then◌else◌}
use Rattle.uc_tree.specs.declared.kinds.Kind.{Kind}
use Rattle.uc_tree.specs.declared.kinds.Kind.TheVariants as kind
use Rattle.uc_tree.specs.declared.kinds.Role.{Role}
use Rattle.uc_tree.specs.declared.kinds.Role.TheVariants as role
use Rattle.uc_tree.specs.Cells.{leading_cells}
use Rattle.uc_tree.specs.Programs as whole
use Rattle.uc_tree.specs.Programs.{Program}
use Rattle.uc_tree.specs.Gathered.{gathered_all}
use Rattle.uc_tree.specs.Numbering.{Defined, is_event, is_mutex, own_sites, own_texts, routines_of}
use Rattle.uc_tree.specs.Objects.{Making, ClassField, fields_of, has_execution, class_at, class_shape, shape_of, making, Unwritten, unwritten_of, is_task}
use Rattle.uc_tree.specs.Source as src
use Rattle.uc_tree.specs.Source.{Shape, Expr, Stmts, Purpose, Routine}
use Rattle.uc_resolve.specs.Standings as tree
use Rattle.uc_resolve.specs.Standings.{Meant}
use Rattle.uc_resolve.specs.Resolve as meaning
use Rattle.uc_resolve.specs.Resolve.{Scope, source_of}
use Rattle.uc_rules.specs.Sorts.{has_main}
use Rattle.uc_rules.specs.ProgramVisits.{program_visits}
use Rattle.uc_sound.specs.Unbroken.{Unbroken}
use Rattle.uc_sound.proofs.Ties.{false_true}
use Rattle.uc_sound.specs.SoundFormed.{IsFormed}
use Rattle.uc_depth_laws.specs.Entering.{EnteredExpr, EnteredStmts, EnteredBody, EnteredRoutine}
use Rattle.uc_depth_laws.proofs.Depths.{body_of}
use Rattle.uc_sound.specs.EnterLaws.{LawEntered}
use Rattle.uc_sound.proofs.Lookups.{MakesPlain, making_plain, main_free, main_ends, program_main_free, program_main_ends}
use Rattle.uc_sound.proofs.Expressions as expressions
use Rattle.uc_sound.proofs.Expressions.{MeantEntered, AllMeant}
use Rattle.uc_sound.proofs.EnterStatements as statements

module _ (p : Program) (formed : IsFormed p) (u : Unbroken (program_visits p)) where
  abbrev Fine : Stmts → Type 0
  Fine ss = EnteredStmts (source_of p) ss

  abbrev Body : Stmts → Type 0
  Body ss = EnteredBody (source_of p) ss

  -- fields

  init_args : (s : Scope) (x : Option whole.Init) → AllMeant p (meaning.init_args p s x)
  init_args s None = tt
  init_args s (Some x) = statements.args p formed u s x.args

  field_start : (b : Bool) (s : Shape) (place : Expr) (m : Meant) → EnteredExpr (source_of p) place → MeantEntered p m → EnteredExpr (source_of p) (meaning.field_start p b s place m)
  field_start true s place m h k = (h, k.expr)
  field_start false s place m h k = (h, expressions.converted p formed u s (tree.value_of m) (expressions.value_of p formed u m k))

  field_started : (f : ClassField) (place : Expr) (args : List Meant) (rest : Stmts) → EnteredExpr (source_of p) place → AllMeant p args → Fine rest → Fine (meaning.field_started p f place args rest)
  field_started f place [] rest h k l = l
  field_started f place (m ∷ ms) rest h k l = (field_start f.declarator.by_ref (shape_of f.base) place m h k.0, l)

  field_built : (m : Option Making) (f : ClassField) (len : Option ℕ) (place : Expr) (args : List Meant) (rest : Stmts) → MakesPlain p m → EnteredExpr (source_of p) place → AllMeant p args → Fine rest → Fine (meaning.field_built p m f len place args rest)
  field_built None f len place args rest c h k l = field_started f place args rest h k l
  field_built (Some m) f len place args rest c h k l =
      (statements.build p formed u 0 m len place args c h k, (statements.clean_up_stays p formed u m len place, statements.clean_up p formed u m len place c h, l))

  field_left : (m : Option Making) (len : Option ℕ) (place : Expr) (rest : Stmts) → MakesPlain p m → EnteredExpr (source_of p) place → Fine rest → Fine (meaning.field_left p m len place rest)
  field_left None len place rest c h l = l
  field_left (Some m) len place rest c h l = (statements.clean_up_stays p formed u m len place, statements.clean_up p formed u m len place c h, l)

  field_making : (f : ClassField) → MakesPlain p (meaning.field_making p f)
  field_making f = by f.declarator.by_ref
    where
      by : (b : Bool) → MakesPlain p (if b then None else making p f.base)
      by true = tt
      by false = making_plain p f.base

  module _ (c : whole.Class) (i : ℕ) where
    fields_built : (inits : List whole.Init) (s : Scope) (fs : List ClassField) (n : ℕ) (rest : Stmts) → Fine rest → Fine (meaning.fields_built p c i inits s fs n rest)
    fields_built inits s [] n rest h = h
    fields_built inits s (f ∷ fs) n rest h =
        field_built (meaning.field_making p f) f (meaning.length_in_class p c i f) (tree.field_place (class_shape p i) n tree.Own) (meaning.init_args p s (meaning.init_named p inits f.declarator.name)) (meaning.fields_built p c i inits s fs (suc n) rest) (field_making f) tt (init_args s (meaning.init_named p inits f.declarator.name)) (fields_built inits s fs (suc n) rest h)

    fields_left : (fs : List ClassField) (n : ℕ) (rest : Stmts) → Fine rest → Fine (meaning.fields_left p c i fs n rest)
    fields_left [] n rest h = h
    fields_left (f ∷ fs) n rest h =
        field_left (meaning.field_making p f) (meaning.length_in_class p c i f) (tree.field_place (class_shape p i) n tree.Own) (meaning.fields_left p c i fs (suc n) rest) (field_making f) tt (fields_left fs (suc n) rest h)

  -- constructors and destructors

  executes_main : (k : Kind) → has_execution k ≡ true → has_main k ≡ true
  executes_main kind.Coroutine h = refl
  executes_main kind.Cormonitor h = refl
  executes_main _ h = false_true h

  executes_object : (k : Kind) → has_execution k ≡ true → is_event k ≡ false
  executes_object kind.Coroutine h = refl
  executes_object kind.Cormonitor h = refl
  executes_object _ h = false_true h

  set_up : (c : whole.Class) (i : ℕ) (rest : Stmts) → class_at p i ≡ Some c → Fine rest → Fine (meaning.set_up p (has_execution c.kind) i rest)
  set_up c i rest at h = by (has_execution c.kind) refl
    where
      by : (b : Bool) → has_execution c.kind ≡ b → Fine (meaning.set_up p b i rest)
      by true e = ((main_free p formed u i c at (executes_object c.kind e) (executes_main c.kind e), main_ends p formed u i c at (executes_object c.kind e) (executes_main c.kind e) (inr e)), (refl, tt, h))
      by false e = h

  started_in : (b : Bool) (body : Stmts) → Fine body → Fine (meaning.started_in p b body)
  started_in false body h = h
  started_in true body h = (refl, tt, h)

  enlivened : (b : Bool) → Fine (meaning.enlivened p b)
  enlivened false = tt
  enlivened true = (tt, tt)

  taken_down : (b : Bool) (body : Stmts) → Fine body → Fine (meaning.taken_down p b body)
  taken_down false body h = h
  taken_down true body h = (tt, h)

  forgotten : (b : Bool) (rest : Stmts) → Fine rest → Fine (meaning.forgotten p b rest)
  forgotten false rest h = h
  forgotten true rest h = (refl, tt, h)

  freed : (c : whole.Class) (i : ℕ) (rest : Stmts) → class_at p i ≡ Some c → Fine rest → Body (meaning.freed p c.kind i rest)
  freed c i rest at h = by c.kind refl
    where
      by : (k : Kind) → c.kind ≡ k → Body (meaning.freed p k i rest)
      by kind.Monitor e = (tt, h)
      by kind.Cormonitor e = (tt, h)
      by kind.Task e = ((main_free p formed u i c at (ap is_event e) (ap has_main e), main_ends p formed u i c at (ap is_event e) (ap has_main e) (inl (ap is_task e))), h)
      by kind.Class e = body_of (source_of p) rest h
      by kind.Coroutine e = body_of (source_of p) rest h
      by kind.Event e = body_of (source_of p) rest h

  ending : (b : Bool) (rest : Stmts) → Fine rest → Body (meaning.ending p b rest)
  ending false rest h = body_of (source_of p) rest h
  ending true rest h = (tt, h)

  -- the class at a place, if it has one
  abbrev IsAt : Option whole.Class → ℕ → Type 0
  IsAt None i = Unit {0}
  IsAt (Some c) i = class_at p i ≡ Some c

  at_is : (i : ℕ) (o : Option whole.Class) → class_at p i ≡ o → IsAt o i
  at_is i None e = tt
  at_is i (Some c) e = e

  construction : (o : Option whole.Class) (i : ℕ) (inits : List whole.Init) (s : Scope) (body : Stmts) → IsAt o i → Fine body → Body (meaning.construction p o i inits s body)
  construction None i inits s body at h = body_of (source_of p) body h
  construction (Some c) i inits s body at h =
      freed c i _ at (set_up c i _ at (fields_built c i inits s (fields_of c.members) (leading_cells c.kind) _ (started_in (has_execution c.kind) body h)))

  destruction : (o : Option whole.Class) (i : ℕ) (body : Stmts) → Fine body → Body (meaning.destruction p o i body)
  destruction None i body h = body_of (source_of p) body h
  destruction (Some c) i body h =
      ending (is_mutex c.kind) _ (forgotten (has_execution c.kind) _ (fields_left c i (fields_of c.members) (leading_cells c.kind) _ (taken_down (has_execution c.kind) body h)))

  construction_ends : (o : Option whole.Class) (i : ℕ) → Fine (meaning.construction_ends p o i)
  construction_ends None i = tt
  construction_ends (Some c) i = enlivened (has_execution c.kind)

  -- routines

  owing : (line : ℕ) (w : Purpose) → Fine (meaning.owing p line w)
  owing line src.Function = (tt, tt)
  owing line src.TaskMain = tt
  owing line src.CoroutineMain = tt
  owing line src.Procedure = tt
  owing line src.Builder = tt

  plain_body : (b : Bool) (r : whole.Routine) (body : Stmts) → Fine body → Body (meaning.plain_body p b r body)
  plain_body false r body h = body_of (source_of p) body h
  plain_body true r body h = (tt, (h, owing r.brace.line (meaning.value_purpose p r.sig.ret)))

  class_is : (o : Option ℕ) → IsAt (meaning.class_by p o) (meaning.place_or_zero p o)
  class_is None = tt
  class_is (Some i) = at_is i (class_at p i) refl

  body_by : (x : Role) (r : whole.Routine) (s : Scope) → Body (meaning.body_by p x r s)
  body_by role.Plain r s = plain_body (meaning.has_number_in p (meaning.class_by p s.class) r.sig) r _ (statements.all p formed u r.body s)
  body_by role.Constructor r s =
      construction (meaning.class_by p s.class) (meaning.place_or_zero p s.class) r.inits s _ (class_is s.class) (statements.all p formed u r.body s, construction_ends (meaning.class_by p s.class) (meaning.place_or_zero p s.class))
  body_by role.Destructor r s = destruction (meaning.class_by p s.class) (meaning.place_or_zero p s.class) _ (statements.all p formed u r.body s, tt)

  unwritten_body : (x : Role) (i : ℕ) → Body (meaning.unwritten_body p x i)
  unwritten_body role.Plain i = tt
  unwritten_body role.Constructor i = construction (class_at p i) i [] (meaning.nowhere p) _ (at_is i (class_at p i) refl) (construction_ends (class_at p i) i)
  unwritten_body role.Destructor i = destruction (class_at p i) i src.Nil tt

  -- all routines of a source

  abbrev AllFine : List Routine → Type 0
  AllFine [] = Unit {0}
  AllFine (r ∷ rs) = Body r.body × AllFine rs

  both_lists : (rs us : List Routine) → AllFine rs → AllFine us → AllFine (rs ++ us)
  both_lists [] us h k = k
  both_lists (r ∷ rs) us h k = (h.0, both_lists rs us h.1 k)

  by_number : (rs : List Routine) → AllFine rs → (n : ℕ) → EnteredRoutine (source_of p) (slice_get rs n)
  by_number [] h n = tt
  by_number (r ∷ rs) h zero = h.0
  by_number (r ∷ rs) h (suc n) = by_number rs h.1 n

  written : (ds : List Defined) (number texts sites : ℕ) → AllFine (meaning.routines_meant p ds number texts sites)
  written [] number texts sites = tt
  written (d ∷ ds) number texts sites =
      (body_by d.routine.sig.role d.routine (meaning.routine_scope p d.routine (meaning.place_by p d) number texts sites), written ds (number + 1) (texts + length (gathered_all own_texts d.routine.body)) (sites + length (gathered_all (own_sites d.class d.number) d.routine.body)))

  unwritten : (us : List Unwritten) → AllFine (meaning.all_unwritten p us)
  unwritten [] = tt
  unwritten (x ∷ us) = (unwritten_body x.role x.class, unwritten us)

  all_routines : (n : ℕ) → EnteredRoutine (source_of p) (slice_get (source_of p).routines n)
  all_routines n =
      by_number (source_of p).routines (both_lists (meaning.routines_meant p (routines_of p) 0 0 0) (meaning.all_unwritten p (unwritten_of p)) (written (routines_of p) 0 0 0) (unwritten (unwritten_of p))) n

pub law_entered : LawEntered
law_entered p formed u = record { routines = all_routines p formed u; main = program_main_free p formed u; ends = program_main_ends p u }
