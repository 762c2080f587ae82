-- In the source of every program that breaks no rule no main is called.
use Rattle.std.proofs.Common.{◌≡◌, ℕ, suc, ◌+◌, ◌-◌, ◌++◌, List, [], ◌∷◌, Option, Some, None, Bool, true, false, refl, sym, subst}
use Rattle.std.specs.Prelude.{slice_get, if◌then◌else◌, option_map}
use Rattle.uc_tree.specs.declared.kinds.Kind.{Kind}
use Rattle.uc_tree.specs.declared.kinds.Kind.TheVariants as kind
use Rattle.uc_tree.specs.declared.kinds.Role.{Role}
use Rattle.uc_tree.specs.declared.kinds.Role.TheVariants as role
use Rattle.uc_tree.specs.Names.{same_name}
use Rattle.uc_tree.specs.Cells.{leading_cells}
use Rattle.uc_tree.specs.Expressions as expr
use Rattle.uc_tree.specs.Programs as whole
use Rattle.uc_tree.specs.Programs.{Program}
use Rattle.uc_tree.specs.Numbering.{Defined, is_mutex, routines_of}
use Rattle.uc_tree.specs.Objects.{Making, making, ClassField, fields_of, has_execution, class_at, class_shape, shape_of, unwritten_of}
use Rattle.uc_tree.specs.Source as src
use Rattle.uc_tree.specs.Source.{Shape, Expr, Stmts, Purpose, Routine, Source}
use Rattle.uc_resolve.specs.Standings as tree
use Rattle.uc_resolve.specs.Standings.{Meant}
use Rattle.uc_resolve.specs.Resolve as meaning
use Rattle.uc_resolve.specs.Resolve.{Scope, source_of, routine_scope, place_by}
use Rattle.uc_rules.specs.declared.rules.Expected.{Expected}
use Rattle.uc_rules.specs.declared.rules.FieldPlace.{FieldPlace}
use Rattle.uc_rules.specs.declared.rules.Surroundings.{Surroundings}
use Rattle.uc_rules.specs.declared.rules.Target.{Target}
use Rattle.uc_typing.specs.Typing.{Sig}
use Rattle.uc_tree.specs.declared.kinds.Param.{Param}
use Rattle.uc_rules.specs.Scopes.{Env, plain_env, sig_around, with_param, with_params, param_seen, place_of}
use Rattle.uc_rules.specs.Entities.{entity_of, expected}
use Rattle.uc_rules.specs.ProgramVisits.{program_visits, params_visits, sig_visits, base_visits, body_visits, inits_visits, init_arg_visits, init_args_visits, init_target, argument_env, field_of, last_field}
use Rattle.uc_rules.specs.Visits.{AtBase, AtParam, AtSig, AtInits, AtInit, AtArgument, AtBound, visits, stmts_visits}
use Rattle.uc_sound.specs.Unbroken.{Unbroken}
use Rattle.uc_sound.proofs.Ties.{some_same, none_some}
use Rattle.uc_sound.proofs.UnbrokenLemmas.{first, second, one}
use Rattle.uc_sound.specs.SoundFormed.{IsFormed}
use Rattle.uc_sound.specs.Rooted.{Rooted}
use Rattle.uc_sound.specs.Tables.{routine_sig_in, table_of}
use Rattle.uc_sound.proofs.BodyLemmas.{InStep, is_written, nobody_wrote, in_step}
use Rattle.uc_sound.proofs.DestructionLemmas.{Standing, standing}
use Rattle.uc_sound.proofs.GivingLemmas.{stood_stands}
use Rattle.uc_sound.proofs.Origins.{origin}
use Rattle.uc_sound.proofs.RootedLemmas.{rooted}
use Rattle.uc_sound.proofs.Visited.{base_known}
use Rattle.uc_sound.proofs.Lookups.{MakesPlain, making_plain}
use Rattle.uc_calls_laws.specs.Calls.{CallsExpr, CallsStmts, CallsRoutine, NoMainSource}
use Rattle.uc_calls_laws.proofs.MainNames.{IsLocal}
use Rattle.uc_calls_laws.proofs.CallExprs as exprs
use Rattle.uc_calls_laws.proofs.CallExprs.{AllMeant}
use Rattle.uc_calls_laws.proofs.CallStatements as statements
use Rattle.uc_calls_laws.proofs.CallStatements.{Stood}

module _ (p : Program) (formed : IsFormed p) (u : Unbroken (program_visits p)) where
  abbrev source : Source
  source = source_of p

  abbrev Fine : Stmts → Type 0
  Fine ss = CallsStmts source ss

  -- the environment of a routine: its parameters are variables

  stood_start : (g : Sig) (a : Surroundings) (class : Option ℕ) → Rooted (table_of p) g p a class → Stood p (plain_env p a)
  stood_start g a class r = record {
    same = refl;
    root = λ name m e. stood_stands m.entity (r.stood name m e);
    members = λ w name m e. stood_stands m.entity (r.members w name m e);
    results = r.results;
    locals = tt;
  }

  params_stood : (xs : List Param) (env : Env) → Stood p env → Unbroken (params_visits env xs) → Stood p (with_params env xs)
  params_stood [] env h v = h
  params_stood (x ∷ xs) env h v =
      let k = base_known env x.pos x.base (one (AtBase env x.pos x.base) (first (AtBase env x.pos x.base ∷ []) (AtParam env x ∷ params_visits (with_param env x) xs) v)) in
      params_stood xs (with_param env x) (statements.seen_stood p env (param_seen env.program x) h (subst (λ o. IsLocal (option_map place_of o)) (sym k.1) tt)) (second (AtBase env x.pos x.base ∷ (AtParam env x ∷ [])) (params_visits (with_param env x) xs) v)

  -- initialisers

  module _ (env : Env) (h : Stood p env) (s : Scope) where
    argument_stood : (field : Option FieldPlace) (e : expr.Expr) (x : Expected) → Stood p (argument_env env field e x)
    argument_stood None e x = h
    argument_stood (Some field) e x = record { same = h.same; root = h.root; members = h.members; results = h.results; locals = h.locals }

    args_free : (field : Option FieldPlace) (es : expr.Exprs) (to : Target) (i : ℕ) → Unbroken (init_args_visits env field es to i) → AllMeant p (tree.args_meant (meaning.context_at p s) es)
    args_free field expr.NoExprs to i v = tt
    args_free field (expr.MoreExprs e es) to i v =
        let x = expected env.program to i in
        let a = argument_env env field e x in
        let here : Unbroken (visits a e ++ (AtArgument (expr.expr_pos e) x (entity_of a e) ∷ (AtBound env e x ∷ []))) = first (init_arg_visits env field e x) (init_args_visits env field es to (i + 1)) v in
        (statements.meant p formed u a (argument_stood field e x) s e (first (visits a e) (AtArgument (expr.expr_pos e) x (entity_of a e) ∷ (AtBound env e x ∷ [])) here), args_free field es to (i + 1) (second (init_arg_visits env field e x) (init_args_visits env field es to (i + 1)) v))

    init_free : (inits : List whole.Init) (last : Option FieldPlace) (name : List ℕ) (x : whole.Init) → Unbroken (inits_visits env last inits) → meaning.init_named p inits name ≡ Some x → AllMeant p (tree.args_meant (meaning.context_at p s) x.args)
    init_free [] last name x v e = none_some e
    init_free (y ∷ ys) last name x v e = by (same_name y.name name) e (init_free ys (last_field last (field_of env y.name)) name x (second (init_args_visits env (field_of env y.name) y.args (init_target env y.name) 0 ++ AtInit env y last ∷ []) (inits_visits env (last_field last (field_of env y.name)) ys) v))
      where
        here : Unbroken (init_args_visits env (field_of env y.name) y.args (init_target env y.name) 0 ++ AtInit env y last ∷ [])
        here = first (init_args_visits env (field_of env y.name) y.args (init_target env y.name) 0 ++ AtInit env y last ∷ []) (inits_visits env (last_field last (field_of env y.name)) ys) v

        by : (z : Bool) → (if z then Some y else meaning.init_named p ys name) ≡ Some x → (meaning.init_named p ys name ≡ Some x → AllMeant p (tree.args_meant (meaning.context_at p s) x.args)) → AllMeant p (tree.args_meant (meaning.context_at p s) x.args)
        by true e ih =
            subst (λ (z : whole.Init). AllMeant p (tree.args_meant (meaning.context_at p s) z.args)) (some_same e) (args_free (field_of env y.name) y.args (init_target env y.name) 0 (first (init_args_visits env (field_of env y.name) y.args (init_target env y.name) 0) (AtInit env y last ∷ []) here))
        by false e ih = ih e

    inits_free : (inits : List whole.Init) → Unbroken (inits_visits env None inits) → (name : List ℕ) → AllMeant p (meaning.init_args p s (meaning.init_named p inits name))
    inits_free inits v name = by (meaning.init_named p inits name) refl
      where
        by : (o : Option whole.Init) → meaning.init_named p inits name ≡ o → AllMeant p (meaning.init_args p s o)
        by None e = tt
        by (Some x) e = init_free inits None name x v e

  -- fields

  field_start : (b : Bool) (s k : Shape) (i : ℕ) (m : Meant) → CallsExpr source m.expr → CallsExpr source (meaning.field_start p b s (src.OfObject (src.OwnField k i)) m)
  field_start true s k i m h = (tt, ((tt, tt), h))
  field_start false s k i m h = ((tt, tt), exprs.converted p s (tree.value_of m) (exprs.value_of p m h))

  field_started : (f : ClassField) (k : Shape) (i : ℕ) (ms : List Meant) (rest : Stmts) → AllMeant p ms → Fine rest → Fine (meaning.field_started p f (src.OfObject (src.OwnField k i)) ms rest)
  field_started f k i [] rest h l = l
  field_started f k i (m ∷ ms) rest h l = (field_start f.declarator.by_ref (shape_of f.base) k i m h.0, l)

  field_built : (m : Option Making) (f : ClassField) (len : Option ℕ) (k : Shape) (i : ℕ) (ms : List Meant) (rest : Stmts) → MakesPlain p m → AllMeant p ms → Fine rest → Fine (meaning.field_built p m f len (src.OfObject (src.OwnField k i)) ms rest)
  field_built None f len k i ms rest c h l = field_started f k i ms rest h l
  field_built (Some m) f len k i ms rest c h l =
      (statements.build p formed u 0 m len (src.OfObject (src.OwnField k i)) ms c (tt, tt) h, (statements.clean_up p formed u m len (src.OfObject (src.OwnField k i)) c (tt, tt), l))

  field_left : (m : Option Making) (len : Option ℕ) (k : Shape) (i : ℕ) (rest : Stmts) → MakesPlain p m → Fine rest → Fine (meaning.field_left p m len (src.OfObject (src.OwnField k i)) rest)
  field_left None len k i rest c l = l
  field_left (Some m) len k i rest c l = (statements.clean_up p formed u m len (src.OfObject (src.OwnField k i)) c (tt, tt), l)

  field_class : (f : ClassField) → MakesPlain p (meaning.field_making p f)
  field_class f = by f.declarator.by_ref
    where
      by : (b : Bool) → MakesPlain p (if b then None else making p f.base)
      by true = tt
      by false = making_plain p f.base

  module _ (c : whole.Class) (i : ℕ) where
    fields_built : (inits : List whole.Init) (s : Scope) → ((name : List ℕ) → AllMeant p (meaning.init_args p s (meaning.init_named p inits name))) → (fs : List ClassField) (n : ℕ) (rest : Stmts) → Fine rest → Fine (meaning.fields_built p c i inits s fs n rest)
    fields_built inits s a [] n rest h = h
    fields_built inits s a (f ∷ fs) n rest h =
        field_built (meaning.field_making p f) f (meaning.length_in_class p c i f) (class_shape p i) n (meaning.init_args p s (meaning.init_named p inits f.declarator.name)) (meaning.fields_built p c i inits s fs (suc n) rest) (field_class f) (a f.declarator.name) (fields_built inits s a fs (suc n) rest h)

    fields_left : (fs : List ClassField) (n : ℕ) (rest : Stmts) → Fine rest → Fine (meaning.fields_left p c i fs n rest)
    fields_left [] n rest h = h
    fields_left (f ∷ fs) n rest h =
        field_left (meaning.field_making p f) (meaning.length_in_class p c i f) (class_shape p i) n (meaning.fields_left p c i fs (suc n) rest) (field_class f) (fields_left fs (suc n) rest h)

  -- constructors and destructors

  set_up : (b : Bool) (i : ℕ) (rest : Stmts) → Fine rest → Fine (meaning.set_up p b i rest)
  set_up false i rest h = h
  set_up true i rest h = ((tt, tt), (tt, h))

  started_in : (b : Bool) (body : Stmts) → Fine body → Fine (meaning.started_in p b body)
  started_in false body h = h
  started_in true body h = (tt, h)

  enlivened : (b : Bool) → Fine (meaning.enlivened p b)
  enlivened false = tt
  enlivened true = ((tt, tt), tt)

  taken_down : (b : Bool) (body : Stmts) → Fine body → Fine (meaning.taken_down p b body)
  taken_down false body h = h
  taken_down true body h = ((tt, tt), h)

  forgotten : (b : Bool) (rest : Stmts) → Fine rest → Fine (meaning.forgotten p b rest)
  forgotten false rest h = h
  forgotten true rest h = (tt, h)

  freed : (k : Kind) (i : ℕ) (rest : Stmts) → Fine rest → Fine (meaning.freed p k i rest)
  freed kind.Monitor i rest h = (tt, h)
  freed kind.Cormonitor i rest h = (tt, h)
  freed kind.Task i rest h = (tt, h)
  freed kind.Class i rest h = h
  freed kind.Coroutine i rest h = h
  freed kind.Event i rest h = h

  ending : (b : Bool) (rest : Stmts) → Fine rest → Fine (meaning.ending p b rest)
  ending false rest h = h
  ending true rest h = (tt, h)

  construction : (o : Option whole.Class) (i : ℕ) (inits : List whole.Init) (s : Scope) (body : Stmts) → ((name : List ℕ) → AllMeant p (meaning.init_args p s (meaning.init_named p inits name))) → Fine body → Fine (meaning.construction p o i inits s body)
  construction None i inits s body a h = h
  construction (Some c) i inits s body a h =
      freed c.kind i _ (set_up (has_execution c.kind) i _ (fields_built c i inits s a (fields_of c.members) (leading_cells c.kind) _ (started_in (has_execution c.kind) body h)))

  destruction : (o : Option whole.Class) (i : ℕ) (body : Stmts) → Fine body → Fine (meaning.destruction p o i body)
  destruction None i body h = h
  destruction (Some c) i body h =
      ending (is_mutex c.kind) _ (forgotten (has_execution c.kind) _ (fields_left c i (fields_of c.members) (leading_cells c.kind) _ (taken_down (has_execution c.kind) body h)))

  construction_ends : (o : Option whole.Class) (i : ℕ) → Fine (meaning.construction_ends p o i)
  construction_ends None i = tt
  construction_ends (Some c) i = enlivened (has_execution c.kind)

  -- routines

  owing : (line : ℕ) (w : Purpose) → Fine (meaning.owing p line w)
  owing line src.Function = (tt, tt)
  owing line src.TaskMain = tt
  owing line src.CoroutineMain = tt
  owing line src.Procedure = tt
  owing line src.Builder = tt

  plain_body : (b : Bool) (r : whole.Routine) (body : Stmts) → Fine body → Fine (meaning.plain_body p b r body)
  plain_body false r body h = h
  plain_body true r body h = (tt, (h, owing r.brace.line (meaning.value_purpose p r.sig.ret)))

  body_by : (x : Role) (r : whole.Routine) (s : Scope) → ((name : List ℕ) → AllMeant p (meaning.init_args p s (meaning.init_named p r.inits name))) → Fine (meaning.stmts_meant p r.body s) → Fine (meaning.body_by p x r s)
  body_by role.Plain r s a h = plain_body (meaning.has_number_in p (meaning.class_by p s.class) r.sig) r _ h
  body_by role.Constructor r s a h =
      construction (meaning.class_by p s.class) (meaning.place_or_zero p s.class) r.inits s _ a (h, construction_ends (meaning.class_by p s.class) (meaning.place_or_zero p s.class))
  body_by role.Destructor r s a h = destruction (meaning.class_by p s.class) (meaning.place_or_zero p s.class) _ (h, tt)

  unwritten_body : (x : Role) (i : ℕ) → Fine (meaning.unwritten_body p x i)
  unwritten_body role.Plain i = tt
  unwritten_body role.Constructor i = construction (class_at p i) i [] (meaning.nowhere p) _ (λ name. tt) (construction_ends (class_at p i) i)
  unwritten_body role.Destructor i = destruction (class_at p i) i src.Nil tt

  module _ (n : ℕ) (d : Defined) (e : slice_get (routines_of p) n ≡ Some d) (texts sites : ℕ) where
    abbrev scope : Scope
    scope = routine_scope p d.routine (place_by p d) n texts sites

    s : Standing p formed u d
    s = standing p formed u d (origin p n d e)

    abbrev start : Env
    start = plain_env p (sig_around p s.home s.main s.mark d.routine.sig)

    abbrev inner : Env
    inner = with_params start d.routine.sig.params

    sig_unbroken : Unbroken (params_visits start d.routine.sig.params)
    sig_unbroken =
        let a : Unbroken (sig_visits start d.routine.sig) = first (sig_visits start d.routine.sig) (body_visits inner d.routine) s.visits in
        second (AtSig start d.routine.sig ∷ []) (params_visits start d.routine.sig.params) (second (base_visits start d.routine.sig) (AtSig start d.routine.sig ∷ params_visits start d.routine.sig.params) a)

    inner_stood : Stood p inner
    inner_stood =
        params_stood d.routine.sig.params start (stood_start (routine_sig_in p d scope) (sig_around p s.home s.main s.mark d.routine.sig) (place_by p d) (rooted p formed u (routine_sig_in p d scope) d s.home s.main s.mark refl refl s.void s.at s.inside)) sig_unbroken

    written : Fine (meaning.body_by p d.routine.sig.role d.routine scope)
    written =
        let all : Unbroken (AtInits inner d.routine.sig d.routine.inits ∷ (inits_visits inner None d.routine.inits ++ stmts_visits d.routine.body inner)) = second (sig_visits start d.routine.sig) (body_visits inner d.routine) s.visits in
        let both : Unbroken (inits_visits inner None d.routine.inits ++ stmts_visits d.routine.body inner) = second (AtInits inner d.routine.sig d.routine.inits ∷ []) (inits_visits inner None d.routine.inits ++ stmts_visits d.routine.body inner) all in
        body_by d.routine.sig.role d.routine scope (inits_free inner inner_stood scope d.routine.inits (first (inits_visits inner None d.routine.inits) (stmts_visits d.routine.body inner) both)) (statements.all p formed u d.routine.body inner scope inner_stood (formed.handlers n d e) (second (inits_visits inner None d.routine.inits) (stmts_visits d.routine.body inner) both))

  in_place : (n : ℕ) (r : Routine) (o : Option Sig) → InStep p (routines_of p) (unwritten_of p) n n r o → Fine r.body
  in_place n r o (is_written d texts sites f q s) = subst (λ (z : Routine). Fine z.body) (sym q) (written n d f texts sites)
  in_place n r o (nobody_wrote x m a f q s) = subst (λ (z : Routine). Fine z.body) (sym q) (unwritten_body x.role x.class)

  pub no_main_source : NoMainSource source
  no_main_source n = by (slice_get source.routines n) refl
    where
      by : (o : Option Routine) → slice_get source.routines n ≡ o → CallsRoutine source o
      by None e = tt
      by (Some r) e = in_place n r _ (in_step p n r e)
