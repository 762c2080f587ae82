-- The resolved tree of a program that breaks no rule is sound for its table.
use Rattle.std.proofs.Common.{◌≡◌, ℕ, suc, ◌-◌, ◌≤◌, ◌++◌, List, [], ◌∷◌, length, Option, Some, None, Bool, true, false, refl, sym, ap, ◌∙◌, subst, arith, map}
use Rattle.std.specs.Prelude.{◌&&◌, ◌||◌, not, slice_get, if◌then◌else◌, nat_eq, is_some, option_and_then, unwrap_or}
use Rattle.std.specs.List.{list_any}
use Rattle.std.proofs.lemmas.Bool.{eqb-true, eq-eqb}
use Rattle.std.proofs.lemmas.Option.{slice_get_past}
use Rattle.uc_tree.specs.declared.kinds.Kind.{Kind}
use Rattle.uc_tree.specs.declared.kinds.Kind.TheVariants as kind
use Rattle.uc_tree.specs.declared.kinds.MutexMark.{MutexMark}
use Rattle.uc_tree.specs.declared.kinds.Param.{Param}
use Rattle.uc_tree.specs.declared.kinds.Role.{Role}
use Rattle.uc_tree.specs.declared.kinds.Role.TheVariants as role
use Rattle.uc_tree.specs.Names.{same_name}
use Rattle.uc_tree.specs.Cells.{classes_of, leading_cells}
use Rattle.uc_tree.specs.Numbering.{main_name, is_event, is_mutex, is_plain, member_number, Defined, routines_of}
use Rattle.uc_tree.specs.Objects as objects
use Rattle.uc_tree.specs.Objects.{ClassField, fields_of, class_at, number_at, number_in, has_execution, member_from, written_at, is_constructor, Unwritten, unwritten_of, same_role, has_role, role_from}
use Rattle.uc_tree.specs.Programs.{Sig as Declared, Init, MemberForm, FieldsMember, RoutineMember, ProtoMember, Member, Class, Program}
use Rattle.uc_tree.specs.Source.{Stmts, Nil, Then, Whole, Routine}
use Rattle.uc_resolve.specs.Standings.{params_of}
use Rattle.uc_resolve.specs.Resolve.{Scope, init_named, init_args, stmts_meant, routine_scope, place_by, class_by, place_or_zero, main_at, freed, set_up, started_in, enlivened, fields_built, construction, construction_ends, nowhere, body_by, routine_meant, unwritten_meant, unwritten_body, source_of}
use Rattle.uc_rules.specs.declared.rule.Rule.TheVariants.{S6, S14, S17}
use Rattle.uc_rules.specs.declared.rules.Surroundings.{Surroundings}
use Rattle.uc_rules.specs.declared.rules.OwnClass.{OwnClass}
use Rattle.uc_rules.specs.Asked.{unless}
use Rattle.uc_rules.specs.Sorts.{has_main}
use Rattle.uc_rules.specs.Names as rules
use Rattle.uc_rules.specs.Names.{form_sig, method_sig, constructor_among, constructor_form, first_of, member_named}
use Rattle.uc_rules.specs.Scopes.{Env, plain_env, sig_around, with_param, with_params}
use Rattle.uc_rules.specs.ClassBreaks.{first_init_breaks, form_is_main, is_main_of_class, is_void_base, members_declare, is_well_mained, is_well_built, has_room, has_unset, home_class}
use Rattle.uc_rules.specs.Visits.{AtInits, stmts_visits}
use Rattle.uc_rules.specs.ProgramVisits.{program_visits, sig_visits, body_visits, inits_visits}
use Rattle.uc_typing.specs.Typing.{Name, Kept, Apart, Main, Sig, Table, IsInside, SetsUp, IsMain, FineStmts}
use Rattle.uc_typing.specs.States.{LetsGo, Routine_is}
use Rattle.uc_sound.specs.Agreement.{param_ty, AreLike}
use Rattle.uc_sound.specs.Unbroken.{Unbroken}
use Rattle.uc_sound.proofs.Ties.{none_some, false_true}
use Rattle.uc_sound.proofs.UnbrokenLemmas.{none_right, first, second, one, holds}
use Rattle.uc_sound.specs.SoundFormed.{IsFormed}
use Rattle.uc_sound.specs.Tables.{of_kind, helps_in, inward_by, role_inward, inward_in, inward_at, routine_sig_in, unwritten_sig, all_sigs, sig_or_none, table_of}
use Rattle.uc_sound.specs.Told.{Told}
use Rattle.uc_sound.specs.Rooted.{Within}
use Rattle.uc_sound.specs.Routines.{builds, builds_by, unwritten_builds}
use Rattle.uc_typing.proofs.Answers.{law_reached}
use Rattle.uc_sound.specs.Sounds.{LawSound, LawRuns}
use Rattle.uc_sound.proofs.KeptLemmas.{leads}
use Rattle.uc_sound.proofs.Lists.{left_is, right_is, both_are, not_is, any_at}
use Rattle.uc_sound.proofs.Visited.{class_own}
use Rattle.uc_sound.proofs.ClassNames.{same_is}
use Rattle.uc_sound.proofs.Origins.{origin, looks, role_looked}
use Rattle.uc_sound.proofs.ClassLemmas.{law_told}
use Rattle.uc_sound.proofs.MemberLemmas.{listed, made_inward}
use Rattle.uc_sound.proofs.InwardLemmas.{Lets, construction_lets}
use Rattle.uc_sound.proofs.BodyLemmas.{InStep, is_written, nobody_wrote, in_step, count_is}
use Rattle.uc_sound.proofs.DestructionLemmas.{Standing, standing, body_fine, routine_within, executing, in_mutex, params_program}
use Rattle.uc_sound.proofs.RootedLemmas.{HomeIs}
use Rattle.uc_sound.proofs.BuildingLemmas.{Starts, built_fine, none_starts, field_starts}
use Rattle.uc_sound.proofs.RoutineBodies.{map_length, OfClass, of_heights, routine_purpose, law_routines}

among_none : (ms : List Member) → ((k : ℕ) (m : Member) → slice_get ms k ≡ Some m → constructor_form m.form ≡ None) → constructor_among ms ≡ None
among_none [] f = refl
among_none (x ∷ ms) f = ap (λ o. first_of o (constructor_among ms)) (f 0 x refl) ∙ among_none ms (λ k. f (suc k))

module _ (p : Program) (formed : IsFormed p) (u : Unbroken (program_visits p)) where
  abbrev t : Table
  t = table_of p

  module _ (i : ℕ) (c : Class) (e : class_at p i ≡ Some c) (g : Sig) (this : g.this ≡ Some i) where
    told : Told t p
    told = law_told p formed u

    no_params : (xs : List Param) → AreLike p [] xs → xs ≡ []
    no_params [] l = refl
    no_params (x ∷ xs) l = absurd l

    length_none : (xs : List Param) → nat_eq (length xs) 0 ≡ true → xs ≡ []
    length_none [] h = refl
    length_none (x ∷ xs) h = let q = eqb-true (length (x ∷ xs)) 0 h in let z : ⊥ = omega (arith, q) in absurd z

    -- the main of a class runs inside its object where that is a mutex class
    abbrev pub MainIs : Type 0
    MainIs = IsMain t g (main_at p i) × ((t.routine (main_at p i)).inward ≡ (if is_mutex c.kind then Main else Apart))

    main_sig_is : (j : ℕ) (sig : Declared) → method_sig p i j ≡ Some sig → is_main_of_class sig ≡ true → MainIs
    main_sig_is j sig m h =
        let plain = left_is (is_plain sig.role) (same_name sig.name main_name && (is_void_base sig.ret && nat_eq (length sig.params) 0)) h in
        let h1 = right_is (is_plain sig.role) (same_name sig.name main_name && (is_void_base sig.ret && nat_eq (length sig.params) 0)) h in
        let named = same_is sig.name main_name (left_is (same_name sig.name main_name) (is_void_base sig.ret && nat_eq (length sig.params) 0) h1) in
        let none = length_none sig.params (right_is (is_void_base sig.ret) (nat_eq (length sig.params) 0) (right_is (same_name sig.name main_name) (is_void_base sig.ret && nat_eq (length sig.params) 0) h1)) in
        let k = told.members i j c sig e m plain in
        let at : main_at p i ≡ k.number = ap (λ n. unwrap_or (member_from (routines_of p) 0 (number_at p i) n) 0) (sym named) ∙ ap (λ o. unwrap_or o 0) k.found in
        let empty : [] ≡ (t.routine k.number).params = sym (ap (map (param_ty p)) (no_params (params_of p k.number) (subst (λ xs. AreLike p xs (params_of p k.number)) none k.routine.params))) ∙ k.routine.table in
        (subst (IsMain t g) (sym at) (k.routine.this ∙ sym this, sym empty, k.routine.known), ap (λ n. (t.routine n).inward) at ∙ (k.inward ∙ (ap (λ o. inward_in p i o sig.role sig.name) e ∙ by_role sig.role plain (same_name sig.name main_name) (left_is (same_name sig.name main_name) (is_void_base sig.ret && nat_eq (length sig.params) 0) h1))))
      where
        by_role : (r : Role) → is_plain r ≡ true → (b : Bool) → b ≡ true → (if is_mutex c.kind then inward_by r b (is_some (member_number c sig.name)) (helps_in (member_named p i sig.name)) else Apart) ≡ (if is_mutex c.kind then Main else Apart)
        by_role role.Plain w true q = refl
        by_role role.Plain w false q = false_true q
        by_role role.Constructor w b q = false_true w
        by_role role.Destructor w b q = false_true w

    by_form : (j : ℕ) (m : Member) (form : MemberForm) → slice_get c.members j ≡ Some m → m.form ≡ form → form_is_main form ≡ true → MainIs
    by_form j m (FieldsMember at b ds) a f h = false_true h
    by_form j m (RoutineMember r) a f h = main_sig_is j r.sig (ap (option_and_then (λ (c : Class). option_and_then (λ (m : Member). form_sig m.form) (slice_get c.members j))) e ∙ (ap (option_and_then (λ (m : Member). form_sig m.form)) a ∙ ap form_sig f)) h
    by_form j m (ProtoMember s) a f h = main_sig_is j s (ap (option_and_then (λ (c : Class). option_and_then (λ (m : Member). form_sig m.form) (slice_get c.members j))) e ∙ (ap (option_and_then (λ (m : Member). form_sig m.form)) a ∙ ap form_sig f)) h

    pub main_is : has_main c.kind ≡ true → MainIs
    main_is h =
        let well : is_well_mained c ≡ true = holds (is_well_mained c) S6 c.pos _ (class_own p u i c e) in
        let k = subst (λ (b : Bool). (if b then list_any (λ (m : Member). form_is_main m.form) c.members else not (list_any (λ n. same_name n main_name) (members_declare c.members))) ≡ true) h well in
        let f = any_at (λ (m : Member). form_is_main m.form) c.members k in
        by_form f.0 f.1 f.1.form f.2 refl f.3

    mains : (k : Kind) → has_execution k ≡ true → has_main k ≡ true
    mains kind.Coroutine h = refl
    mains kind.Cormonitor h = refl
    mains kind.Class h = false_true h
    mains kind.Monitor h = false_true h
    mains kind.Task h = false_true h
    mains kind.Event h = false_true h

    -- a constructor of a mutex class makes its object
    abbrev Makers : Type 0
    Makers = g.inward ≡ role_inward role.Constructor (is_mutex c.kind)

    made_inside : Makers → is_mutex c.kind ≡ true → IsInside g.inward
    made_inside w m = subst IsInside (sym (w ∙ ap (role_inward role.Constructor) m)) tt

    main_set_up : Makers → MainIs → SetsUp (t.routine (main_at p i)).inward g.inward
    main_set_up w m = by (is_mutex c.kind) refl
      where
        main : (b : Bool) → is_mutex c.kind ≡ b → (t.routine (main_at p i)).inward ≡ (if b then Main else Apart)
        main b q = m.1 ∙ ap (λ (z : Bool). if z then Main else Apart) q

        by : (b : Bool) → is_mutex c.kind ≡ b → SetsUp (t.routine (main_at p i)).inward g.inward
        by true q = subst (λ w. SetsUp w g.inward) (sym (main true q)) (w ∙ ap (role_inward role.Constructor) q)
        by false q = subst (λ w. SetsUp w g.inward) (sym (main false q)) tt

    freed_fine : Makers → (k : Kind) → c.kind ≡ k → (rest : Stmts) → ((sc : List Name) → FineStmts t g sc rest) → (sc : List Name) → FineStmts t g sc (freed p k i rest)
    freed_fine w kind.Class q rest r sc = r sc
    freed_fine w kind.Coroutine q rest r sc = r sc
    freed_fine w kind.Event q rest r sc = r sc
    freed_fine w kind.Monitor q rest r sc = (Kept, tt, r (Kept ∷ sc), (in_mutex p formed u i c e g this (made_inside w (ap is_mutex q)) (ap is_mutex q), tt))
    freed_fine w kind.Cormonitor q rest r sc = (Kept, tt, r (Kept ∷ sc), (in_mutex p formed u i c e g this (made_inside w (ap is_mutex q)) (ap is_mutex q), tt))
    freed_fine w kind.Task q rest r sc = (Kept, tt, r (Kept ∷ sc), (in_mutex p formed u i c e g this (made_inside w (ap is_mutex q)) (ap is_mutex q), (main_is (ap has_main q)).0))

    set_up_fine : Makers → (b : Bool) → has_execution c.kind ≡ b → (rest : Stmts) → ((sc : List Name) → FineStmts t g sc rest) → (sc : List Name) → FineStmts t g sc (set_up p b i rest)
    set_up_fine w false q rest r sc = r sc
    set_up_fine w true q rest r sc =
        let m = main_is (mains c.kind q) in
        ((m.0, executing p formed u i c e g this q, main_set_up w m), (r sc, (executing p formed u i c e g this q, (Kept, tt))))

    started_fine : (b : Bool) → has_execution c.kind ≡ b → (rest : Stmts) → ((sc : List Name) → FineStmts t g sc rest) → (sc : List Name) → FineStmts t g sc (started_in p b rest)
    started_fine false q rest r sc = r sc
    started_fine true q rest r sc = (r sc, (executing p formed u i c e g this q, (Kept, tt)))

    pub ends_fine : (sc : List Name) → FineStmts t g sc (construction_ends p (Some c) i)
    ends_fine sc = by (has_execution c.kind) refl
      where
        by : (b : Bool) → has_execution c.kind ≡ b → FineStmts t g sc (enlivened p b)
        by true q = (executing p formed u i c e g this q, tt)
        by false q = tt

    pub construction_fine : g.inward ≡ role_inward role.Constructor (is_mutex c.kind) → (inits : List Init) (s : Scope) → ((k : ℕ) (f : ClassField) (at : slice_get (fields_of c.members) k ≡ Some f) → Starts p formed u i c e g this k f at (init_args p s (init_named p inits f.declarator.name))) → (body : Stmts) → ((sc : List Name) → FineStmts t g sc body) → (sc : List Name) → FineStmts t g sc (construction p (Some c) i inits s body)
    construction_fine w inits s starts body r sc =
        let begun = started_in p (has_execution c.kind) body in
        let built = fields_built p c i inits s (fields_of c.members) (leading_cells c.kind) begun in
        let up = set_up p (has_execution c.kind) i built in
        freed_fine w c.kind refl up (set_up_fine w (has_execution c.kind) refl built (λ sc. built_fine p formed u i c e g this inits s starts (fields_of c.members) 0 (leading_cells c.kind) (omega arith) (λ m n f q at. ap (slice_get (fields_of c.members)) (let z : n ≡ m = omega (arith, q) in z) ∙ at) begun sc (started_fine (has_execution c.kind) refl body r sc))) sc

  -- constructors that are written

  params_around : (xs : List Param) (env : Env) → (with_params env xs).around ≡ env.around
  params_around [] env = refl
  params_around (x ∷ xs) env = params_around xs (with_param env x)

  home_of_around : (o : Option OwnClass) (main : Bool) (mark : MutexMark) (sig : Declared) → (sig_around p o main mark sig).home ≡ o
  home_of_around None main mark sig = refl
  home_of_around (Some h) main mark sig = refl

-- where the rules and the names are those of a place in the routine
starts_at : (p : Program) (formed : IsFormed p) (u : Unbroken (program_visits p)) (env : Env) (same : env.program ≡ p) (i : ℕ) (c : Class) (e : class_at p i ≡ Some c) (g : Sig) (this : g.this ≡ Some i) (makes : g.inward ≡ role_inward role.Constructor (is_mutex c.kind)) (h : OwnClass) (s : Scope) (inits : List Init) (body : Stmts) → env.around.home ≡ Some h → h.class ≡ i → ((sc : List Name) → Within (table_of p) g sc env s.class s.names) → Unbroken (inits_visits env None inits) → has_unset p inits (Some c) ≡ false → ((sc : List Name) → FineStmts (table_of p) g sc body) → FineStmts (table_of p) g [] (construction p (Some c) i inits s body)
starts_at p formed u env same i c e g this makes h s inits body at_home class_is w v unset r =
    subst (λ q. FineStmts (table_of q) g [] (construction q (Some c) i inits s body)) same (construction_fine env.program formed1 u1 i c e1 g this makes inits s (field_starts env formed1 u1 i c e1 g this h at_home class_is s (λ sc. subst (λ q. Within (table_of q) g sc env s.class s.names) (sym same) (w sc)) inits v (subst (λ q. has_unset q inits (Some c) ≡ false) (sym same) unset)) body (λ sc. subst (λ q. FineStmts (table_of q) g sc body) (sym same) (r sc)) [])
  where
    formed1 : IsFormed env.program
    formed1 = subst IsFormed (sym same) formed

    u1 : Unbroken (program_visits env.program)
    u1 = subst (λ q. Unbroken (program_visits q)) (sym same) u

    e1 : class_at env.program i ≡ Some c
    e1 = subst (λ q. class_at q i ≡ Some c) (sym same) e

module _ (p : Program) (formed : IsFormed p) (u : Unbroken (program_visits p)) where
  abbrev table : Table
  table = table_of p

  module _ (n : ℕ) (d : Defined) (e : slice_get (routines_of p) n ≡ Some d) (texts sites : ℕ) (maker : d.routine.sig.role ≡ role.Constructor) where
    abbrev scope : Scope
    scope = routine_scope p d.routine (place_by p d) n texts sites

    abbrev g : Sig
    g = routine_sig_in p d scope

    s : Standing p formed u d
    s = standing p formed u d (origin p n d e)

    abbrev start : Env
    start = plain_env p (sig_around p s.home s.main s.mark d.routine.sig)

    abbrev inner : Env
    inner = with_params start d.routine.sig.params

    whole_body : (sc : List Name) → FineStmts table g sc (Then (Whole d.routine.brace.line (stmts_meant p d.routine.body scope)) Nil)
    whole_body sc = ((body_fine p formed u n d e texts sites s sc, ap (λ r. not (is_plain r)) maker), tt)

    -- the body, and what ends the construction
    all_body : (o : Option Class) (i : ℕ) → ((sc : List Name) → FineStmts table g sc (construction_ends p o i)) → (sc : List Name) → FineStmts table g sc (Then (Whole d.routine.brace.line (stmts_meant p d.routine.body scope)) (construction_ends p o i))
    all_body o i r sc = ((body_fine p formed u n d e texts sites s sc, ap (λ r. not (is_plain r)) maker), r sc)

    all : Unbroken (AtInits inner d.routine.sig d.routine.inits ∷ (inits_visits inner None d.routine.inits ++ stmts_visits d.routine.body inner))
    all = second (sig_visits start d.routine.sig) (body_visits inner d.routine) s.visits

    inits_unbroken : Unbroken (inits_visits inner None d.routine.inits)
    inits_unbroken = first (inits_visits inner None d.routine.inits) (stmts_visits d.routine.body inner) (second (AtInits inner d.routine.sig d.routine.inits ∷ []) (inits_visits inner None d.routine.inits ++ stmts_visits d.routine.body inner) all)

    same : inner.program ≡ p
    same = params_program d.routine.sig.params start

    home_is : inner.around.home ≡ s.home
    home_is = ap (λ (a : Surroundings). a.home) (params_around p formed u d.routine.sig.params start) ∙ home_of_around p formed u s.home s.main s.mark d.routine.sig

    unset : (h : OwnClass) (c : Class) → s.home ≡ Some h → class_at p h.class ≡ Some c → has_unset p d.routine.inits (Some c) ≡ false
    unset h c q at =
        let b = one (AtInits inner d.routine.sig d.routine.inits) (first (AtInits inner d.routine.sig d.routine.inits ∷ []) (inits_visits inner None d.routine.inits ++ stmts_visits d.routine.body inner) all) in
        let l : unless (not (has_unset inner.program d.routine.inits (home_class inner))) S17 d.routine.sig.pos ++ [] ≡ [] = subst (λ r. (if rules.is_constructor r then unless (not (has_unset inner.program d.routine.inits (home_class inner))) S17 d.routine.sig.pos else first_init_breaks d.routine.inits) ++ [] ≡ []) maker b in
        let none = not_is (has_unset inner.program d.routine.inits (home_class inner)) (holds (not (has_unset inner.program d.routine.inits (home_class inner))) S17 d.routine.sig.pos _ l) in
        let class_is : home_class inner ≡ Some c = ap (λ o. option_and_then (λ (h : OwnClass). class_at inner.program h.class) o) (home_is ∙ q) ∙ (ap (λ z. class_at z h.class) same ∙ at) in
        subst (λ z. has_unset z d.routine.inits (Some c) ≡ false) same (subst (λ o. has_unset inner.program d.routine.inits o ≡ false) class_is none)

    makes : (i : ℕ) (c : Class) → class_at p i ≡ Some c → place_by p d ≡ Some i → g.inward ≡ role_inward role.Constructor (is_mutex c.kind)
    makes i c q at =
        ap (λ o. inward_at p o d.routine.sig.role d.routine.sig.name) at ∙ (ap (λ (r : Role). inward_at p (Some i) r d.routine.sig.name) maker ∙ (made_inward p formed u i c role.Constructor d.routine.sig.name q refl ∙ ap (λ o. role_inward role.Constructor (of_kind is_mutex o)) q))

    by_home : (o : Option OwnClass) → s.home ≡ o → HomeIs p formed u d o → FineStmts table g [] (construction p (class_by p (place_by p d)) (place_or_zero p (place_by p d)) d.routine.inits scope (Then (Whole d.routine.brace.line (stmts_meant p d.routine.body scope)) (construction_ends p (class_by p (place_by p d)) (place_or_zero p (place_by p d)))))
    by_home None q at =
        subst (λ (z : Option ℕ). FineStmts table g [] (construction p (class_by p z) (place_or_zero p z) d.routine.inits scope (Then (Whole d.routine.brace.line (stmts_meant p d.routine.body scope)) (construction_ends p (class_by p z) (place_or_zero p z))))) (sym at) (whole_body [])
    by_home (Some h) q at =
        let c = at.0 in
        let place = at.3 in
        let inner_body = all_body (Some c) h.class (ends_fine p formed u h.class c at.1 g place) in
        let x = starts_at p formed u inner same h.class c at.1 g place (makes h.class c at.1 place) h scope d.routine.inits (Then (Whole d.routine.brace.line (stmts_meant p d.routine.body scope)) (construction_ends p (Some c) h.class)) (home_is ∙ q) refl (λ sc. routine_within p formed u n d e texts sites s sc) inits_unbroken (unset h c q at.1) inner_body in
        subst (λ (z : Option ℕ). FineStmts table g [] (construction p (class_by p z) (place_or_zero p z) d.routine.inits scope (Then (Whole d.routine.brace.line (stmts_meant p d.routine.body scope)) (construction_ends p (class_by p z) (place_or_zero p z))))) (sym place) (subst (λ (o : Option Class). FineStmts table g [] (construction p o h.class d.routine.inits scope (Then (Whole d.routine.brace.line (stmts_meant p d.routine.body scope)) (construction_ends p o h.class)))) (sym at.1) x)

    constructor_is : Routine_is table g (routine_meant p d.routine scope)
    constructor_is = record {
      body = subst (λ (r : Role). FineStmts table g [] (body_by p r d.routine scope)) (sym maker) (by_home s.home refl s.at);
      params = sym (map_length (param_ty p) d.routine.sig.params);
      purpose = routine_purpose p formed u n d e texts sites;
      enters = λ l. subst (λ (r : Role). LetsGo (body_by p r d.routine scope)) (sym maker) (construction_lets p (place_by p d) d.routine.sig.name d.routine.inits scope (λ i o. Then (Whole d.routine.brace.line (stmts_meant p d.routine.body scope)) (construction_ends p o i)) (subst (λ (r : Role). Lets (inward_at p (place_by p d) r d.routine.sig.name)) maker l));
    }

  -- constructors that nobody wrote

  no_written : (i : ℕ) (c : Class) → class_at p i ≡ Some c → is_event c.kind ≡ false → written_at p i role.Constructor ≡ None → constructor_among c.members ≡ None
  no_written i c e v w = among_none c.members (λ k m at. form_none k m m.form at refl)
    where
      none_of : (k : ℕ) (m : Member) (sig : Declared) → slice_get c.members k ≡ Some m → form_sig m.form ≡ Some sig → rules.is_constructor sig.role ≡ true → ⊥
      none_of k m sig at f r =
          let l = listed p formed u i k c sig e (record { m = m; at = at; form = f }) in
          let passes : has_role (number_at p i) role.Constructor l.x ≡ true = both_are (nat_eq l.x.number (number_at p i)) (objects.is_constructor l.x.routine.sig.role) (eq-eqb l.x.number (number_at p i) (l.number ∙ sym (ap (number_in p) e))) (ap objects.is_constructor l.role ∙ same_test sig.role r) in
          let k = looks (has_role (number_at p i) role.Constructor) (routines_of p) 0 l.n l.x l.at passes in
          none_some (sym w ∙ (role_looked (routines_of p) 0 (number_at p i) role.Constructor ∙ k.found))
        where
          same_test : (o : Role) → rules.is_constructor o ≡ true → objects.is_constructor o ≡ true
          same_test role.Plain h = false_true h
          same_test role.Constructor h = refl
          same_test role.Destructor h = false_true h

      by_test : (k : ℕ) (m : Member) (sig : Declared) (b : Bool) → slice_get c.members k ≡ Some m → form_sig m.form ≡ Some sig → rules.is_constructor sig.role ≡ b → (if b then Some sig else None) ≡ None
      by_test k m sig true at f r = absurd (none_of k m sig at f r)
      by_test k m sig false at f r = refl

      form_none : (k : ℕ) (m : Member) (form : MemberForm) → slice_get c.members k ≡ Some m → m.form ≡ form → constructor_form form ≡ None
      form_none k m (FieldsMember at b ds) a f = refl
      form_none k m (RoutineMember r) a f = by_test k m r.sig (rules.is_constructor r.sig.role) a (ap form_sig f) refl
      form_none k m (ProtoMember s) a f = by_test k m s (rules.is_constructor s.role) a (ap form_sig f) refl

  unset_none : (i : ℕ) (c : Class) → class_at p i ≡ Some c → is_event c.kind ≡ false → written_at p i role.Constructor ≡ None → has_unset p [] (Some c) ≡ false
  unset_none i c e v w =
      let own = class_own p u i c e in
      let own1 = none_right (unless (is_well_mained c) S6 c.pos) _ own in
      let own2 = none_right (unless (has_room p c i) S14 c.pos) _ own1 in
      let h : (is_some (constructor_among c.members) || not (has_unset p [] (Some c))) ≡ true = holds (is_well_built p c) S17 c.pos _ own2 in
      not_is (has_unset p [] (Some c)) (subst (λ o. (is_some o || not (has_unset p [] (Some c))) ≡ true) (no_written i c e v w) h)

  unwritten_constructor : (x : Unwritten) → OfClass p formed u x → x.role ≡ role.Constructor → Routine_is table (unwritten_sig p x) (unwritten_meant p x)
  unwritten_constructor x k q =
      let c = k.class in
      let unset = unset_none x.class c k.at k.no_event (ap (written_at p x.class) (sym q) ∙ k.missing) in
      let body : FineStmts table (unwritten_sig p x) [] (construction p (Some c) x.class [] (nowhere p) (construction_ends p (Some c) x.class)) = construction_fine p formed u x.class c k.at (unwritten_sig p x) refl makes [] (nowhere p) (λ n f at. none_starts p formed u x.class c k.at (unwritten_sig p x) refl [] unset n f at refl) (construction_ends p (Some c) x.class) (ends_fine p formed u x.class c k.at (unwritten_sig p x) refl) [] in
      record {
        body = subst (λ r. FineStmts table (unwritten_sig p x) [] (unwritten_body p r x.class)) (sym q) (subst (λ (o : Option Class). FineStmts table (unwritten_sig p x) [] (construction p o x.class [] (nowhere p) (construction_ends p o x.class))) (sym k.at) body);
        params = refl;
        purpose = tt;
        enters = λ l. subst (λ r. LetsGo (unwritten_body p r x.class)) (sym q) (construction_lets p (Some x.class) [] [] (nowhere p) (λ i o. construction_ends p o i) (subst Lets (sym (made_inward p formed u x.class c role.Constructor [] k.at refl)) (subst (λ (r : Role). Lets (role_inward r (of_kind is_mutex (class_at p x.class)))) q l)));
      }
    where
      makes : (unwritten_sig p x).inward ≡ role_inward role.Constructor (is_mutex k.class.kind)
      makes = ap (λ (r : Role). role_inward r (of_kind is_mutex (class_at p x.class))) q ∙ ap (λ o. role_inward role.Constructor (of_kind is_mutex o)) k.at

  -- all routines

  by_builds : (n : ℕ) (r : Routine) → slice_get (source_of p).routines n ≡ Some r → (b : Bool) → builds p n ≡ b → Routine_is table (table.routine n) r
  by_builds n r e false h = (law_routines p formed u).routines n r e h
  by_builds n r e true h = by (in_step p n r e)
    where
      constructor_role : (o : Role) → is_constructor o ≡ true → o ≡ role.Constructor
      constructor_role role.Plain h = false_true h
      constructor_role role.Constructor h = refl
      constructor_role role.Destructor h = false_true h

      by : InStep p (routines_of p) (unwritten_of p) n n r (slice_get (all_sigs p) n) → Routine_is table (table.routine n) r
      by (is_written d texts sites f q s) =
          let k : is_constructor d.routine.sig.role ≡ true = sym (ap (builds_by p n) f) ∙ h in
          subst (λ g. Routine_is table g r) (sym (ap sig_or_none s)) (subst (Routine_is table (routine_sig_in p d (routine_scope p d.routine (place_by p d) n texts sites))) (sym q) (constructor_is n d f texts sites (constructor_role d.routine.sig.role k)))
      by (nobody_wrote x m a f q s) =
          let none : slice_get (routines_of p) n ≡ None = slice_get_past (routines_of p) n (let z : length (routines_of p) ≤ n = omega (arith, a) in z) in
          let l : n - length (routines_of p) ≡ m = omega (arith, a) in
          let k : is_constructor x.role ≡ true = sym (ap (builds_by p n) none ∙ (ap (λ z. unwritten_builds (slice_get (unwritten_of p) z)) l ∙ ap unwritten_builds f)) ∙ h in
          subst (λ g. Routine_is table g r) (sym (ap sig_or_none s)) (subst (Routine_is table (unwritten_sig p x)) (sym q) (unwritten_constructor x (of_heights p formed u (length (classes_of p.items)) m x f) (constructor_role x.role k)))

pub law_sound : LawSound
law_sound p formed u = record { count = count_is p; leads = λ c e. leads p (class_at p c) e; routines = λ n r e. by_builds p formed u n r e (builds p n) refl }

pub law_runs : LawRuns
law_runs p formed u r o task reads v goes = law_reached (table_of p) (source_of p) (law_sound p formed u) r o task reads v goes
