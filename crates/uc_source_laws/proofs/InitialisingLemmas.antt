-- The initialisers of a constructor that breaks no rule name earlier fields of the object that is built, or one alone.
use Rattle.std.proofs.Common.{◌≡◌, ℕ, suc, ◌+◌, ◌-◌, ◌≤◌, ◌<◌, ◌++◌, ◌⊎◌, inl, inr, List, [], ◌∷◌, length, Option, Some, None, Bool, true, false, refl, sym, ap, ◌∙◌, subst, arith}
use Rattle.std.specs.Prelude.{◌&&◌, ◌||◌, not, slice_get, is_some, option_and_then, if◌then◌else◌}
use Rattle.uc_tree.specs.declared.pos.Pos.{Pos}
use Rattle.uc_tree.specs.declared.kinds.Base.{Base}
use Rattle.uc_tree.specs.declared.kinds.Base.TheVariants as base
use Rattle.uc_tree.specs.declared.kinds.Kind.{Kind}
use Rattle.uc_tree.specs.declared.kinds.Kind.TheVariants as kind
use Rattle.uc_tree.specs.declared.kinds.Ty.{Ty}
use Rattle.uc_tree.specs.declared.kinds.LocalVariable.{LocalVariable}
use Rattle.uc_tree.specs.declared.kinds.MutexMark.{MutexMark}
use Rattle.uc_tree.specs.declared.kinds.Param.{Param}
use Rattle.std.proofs.lemmas.Option.{slice_get_past}
use Rattle.uc_tree.specs.declared.kinds.Role.{Role}
use Rattle.uc_tree.specs.declared.kinds.Role.TheVariants as role
use Rattle.uc_tree.specs.Names.{same_name}
use Rattle.uc_tree.specs.Cells.{leading_cells}
use Rattle.uc_tree.specs.Numbering.{Defined, routines_of}
use Rattle.uc_tree.specs.Expressions as expr
use Rattle.uc_tree.specs.Objects.{ClassField, fields_of, class_at, has_execution, class_shape, shape_of, written_at, is_constructor, unwritten_of, Making, APlain, AMutex, ACluster, AProcessor}
use Rattle.uc_tree.specs.Programs.{Sig as Declared, Init, Class, Program}
use Rattle.uc_tree.specs.Source as src
use Rattle.uc_tree.specs.Source.{Expr, Shape, Stmts, Routine}
use Rattle.uc_resolve.specs.Standings as tree
use Rattle.uc_resolve.specs.Standings.{Meant, Own, params_of}
use Rattle.uc_resolve.specs.Resolve.{Scope, context_at, init_named, init_args, cluster_in, counted_element, constructed, called_by, made_by, field_start, field_started, field_making, field_built, length_in_class, fields_built, set_up, started_in, enlivened, freed, construction, construction_ends, class_by, place_or_zero, routine_scope, place_by, body_by, stmts_meant, nowhere, unwritten_body, source_of}
use Rattle.uc_rules.specs.declared.rule.Rule.TheVariants.{S1, S17, O2, O4, O6}
use Rattle.uc_rules.specs.declared.rules.Bound.{Bound}
use Rattle.uc_rules.specs.declared.rules.Expected.{Expected}
use Rattle.uc_rules.specs.declared.rules.FieldPlace.{FieldPlace}
use Rattle.uc_rules.specs.declared.rules.LocalName.{LocalName}
use Rattle.uc_rules.specs.declared.rules.NameMeaning.{NameMeaning}
use Rattle.uc_rules.specs.declared.rules.Origin.{Origin}
use Rattle.uc_rules.specs.declared.rules.Origin.TheVariants as origin
use Rattle.uc_rules.specs.declared.rules.OwnClass.{OwnClass}
use Rattle.uc_rules.specs.declared.rules.Surroundings.{Surroundings}
use Rattle.uc_rules.specs.declared.rules.Target.{Target}
use Rattle.uc_rules.specs.Asked.{unless}
use Rattle.uc_rules.specs.Names.{member_named, outer_named, is_field_before}
use Rattle.uc_rules.specs.Scopes as scopes
use Rattle.uc_rules.specs.Scopes.{Env, named, local_named, own_named, named_behind, with_around, in_argument, with_params, plain_env, sig_around}
use Rattle.uc_rules.specs.Entities.{expected}
use Rattle.uc_rules.specs.ClassBreaks.{init_count_breaks, may_init, is_from, maybe_start}
use Rattle.uc_rules.specs.Sorts.{class_at as rules_class_at}
use Rattle.uc_rules.specs.OwnerBreaks.{class_allows, is_field_origin, is_mutex_field_of, may_name_condition, may_use, may_use_origin}
use Rattle.uc_rules.specs.Visits.{AtUse, AtInits, visits, stmts_visits}
use Rattle.uc_rules.specs.ProgramVisits.{program_visits, field_place, field_of, home_member, is_name, is_reference, bound_of, init_arg_visits, init_args_visits, inits_visits, init_target, sig_visits, body_visits}
use Rattle.uc_rules.specs.Breaks.{breaks_at}
use Rattle.uc_typing.specs.Typing.{Name, Sig, Table}
use Rattle.uc_sound.specs.Agreement.{Alike}
use Rattle.uc_sound.specs.Unbroken.{Unbroken}
use Rattle.uc_sound.proofs.Ties.{some_same, none_some, false_true}
use Rattle.uc_sound.proofs.UnbrokenLemmas.{none_left, none_right, first, second, holds}
use Rattle.uc_sound.specs.SoundFormed.{IsFormed}
use Rattle.uc_sound.specs.Tables.{routine_sig_in, all_sigs, table_of}
use Rattle.uc_sound.specs.Rooted.{Within}
use Rattle.uc_sound.specs.Routines.{builds, builds_by, unwritten_builds}
use Rattle.uc_sound.proofs.Lists.{left_is}
use Rattle.uc_sound.proofs.ClassNames.{is_same}
use Rattle.uc_sound.proofs.RootLemmas.{nothing_is}
use Rattle.uc_sound.proofs.ConstructionLemmas.{InitFound, init_found}
use Rattle.uc_sound.proofs.Origins.{origin}
use Rattle.uc_sound.proofs.RootedLemmas.{HomeIs}
use Rattle.uc_sound.proofs.BodyLemmas.{InStep, is_written, nobody_wrote, in_step}
use Rattle.uc_sound.proofs.DestructionLemmas.{Standing, standing, routine_within, params_program}
use Rattle.uc_source_laws.specs.Initialising.{IsAlone, Given, AllGiven, Starts, Fills, Initialises, LawInitialises}
use Rattle.uc_source_laws.proofs.EarlierLemmas as earlier
use Rattle.uc_source_laws.proofs.EarlierLemmas.{MeantEarlier}
use Rattle.uc_source_laws.proofs.FieldOrder.{FieldAt, field_at, is_method, origin_is, in_order, first_named}

-- what an argument of an initialiser stands for
abbrev pub AloneMeant : Meant → Type 0
AloneMeant m = IsAlone m.expr × IsAlone (tree.value_of m)

abbrev pub GivenMeant : ℕ → Meant → Type 0
GivenMeant n m = MeantEarlier n m ⊎ AloneMeant m

abbrev pub AllGivenMeant : ℕ → List Meant → Type 0
AllGivenMeant n [] = Unit {0}
AllGivenMeant n (m ∷ ms) = GivenMeant n m × AllGivenMeant n ms

-- of locals both look-ups find one, or neither
module _ (t : Table) (g : Sig) (sc : List Name) (p : Program) where
  local_none : (ss : List LocalName) (ks : List LocalVariable) (name : List ℕ) → Alike t g sc p ss ks → tree.known_named ks name ≡ None → local_named ss name ≡ None
  local_none [] [] name a h = refl
  local_none [] (k ∷ ks) name a h = absurd a
  local_none (s ∷ ss) [] name a h = absurd a
  local_none (s ∷ ss) (k ∷ ks) name a h = by (tree.known_named ks name) refl h (local_none ss ks name a.1)
    where
      last : (b : Bool) → same_name k.name name ≡ b → (if b then Some k else None) ≡ None → local_named ss name ≡ None → scopes.later_or (local_named ss name) s name ≡ None
      last true q h e = absurd (cc)
      last false q h e =
          ap (λ o. scopes.later_or o s name) e ∙ ap (λ (b : Bool). if b then Some s.meant else None) (ap (λ z. same_name z name) a.0.0 ∙ q)

      by : (o : Option LocalVariable) → tree.known_named ks name ≡ o → tree.later_or o k name ≡ None → (tree.known_named ks name ≡ None → local_named ss name ≡ None) → scopes.later_or (local_named ss name) s name ≡ None
      by (Some l) q h ih = absurd (cc)
      by None q h ih = last (same_name k.name name) refl h (ih q)

-- what the rules on uses say

or_left : (a b : Bool) → (a || (false && b)) ≡ true → a ≡ true
or_left true b h = refl
or_left false b h = h

module _ (p : Program) (b : Bound) where
  no_method : {B : Type 0} (o : Origin) → is_method o ≡ true → may_use_origin p b o ≡ true → B
  no_method (origin.Method class access) h k = false_true k
  no_method _ h k = false_true h

  field_used : (o : Origin) (place : FieldPlace) → field_place o ≡ Some place → b.whole ≡ false → may_use_origin p b o ≡ true → is_field_before place b.field ≡ true
  field_used (origin.Field class k access by_ref i) place q w h =
      let more = is_field_before b.field i && class_allows p b.field i (rules_class_at p class) in
      let z : is_field_before i b.field ≡ true = or_left (is_field_before i b.field) more (subst (λ (z : Bool). (is_field_before i b.field || (z && more)) ≡ true) w h) in
      subst (λ i. is_field_before i b.field ≡ true) (some_same q) z
  field_used _ place q w h = none_some q

-- what one argument stands for, where the field that is initialised has this place, and fields before that have numbers below n
module _ (env : Env) (formed : IsFormed env.program) (u : Unbroken (program_visits env.program)) (i : ℕ) (c : Class) (e : class_at env.program i ≡ Some c) (h : OwnClass) (at_home : env.around.home ≡ Some h) (class_is : h.class ≡ i) (s : Scope) (in_class : s.class ≡ Some i) (locals : (name : List ℕ) → tree.known_named s.names name ≡ None → local_named env.names name ≡ None) where
  abbrev p : Program
  p = env.program

  abbrev lead : ℕ
  lead = leading_cells c.kind

  abbrev ctx : tree.Context
  ctx = context_at p s

  abbrev Before : FieldPlace → ℕ → Type 0
  Before place n = (name : List ℕ) (x : NameMeaning) (f : FieldAt name x 0 lead c.members) → is_field_before f.place place ≡ true → lead + f.n < n

  -- a name that no local hides
  unhidden : (b : Bound) (q : Pos) (name : List ℕ) → breaks_at (AtUse (with_around env (in_argument b env.around)) q name) ≡ [] → tree.known_named s.names name ≡ None → may_use p b (named_behind (member_named p i name) (outer_named p name)) ≡ true
  unhidden b q name v n =
      let a = with_around env (in_argument b env.around) in
      let v1 = none_right (unless (is_some (named a name)) S1 q) _ v in
      let v2 = none_right (unless (env.around.inner || not (is_mutex_field_of (named a name))) O2 q) _ v1 in
      let v3 = none_right (unless (may_name_condition env.around.inner (named a name)) O4 q) _ v2 in
      let k : may_use p b (named_behind (local_named env.names name) (named_behind (own_named p env.around.main env.around.home name) (outer_named p name))) ≡ true = holds (may_use p b (named a name)) O6 b.pos _ v3 in
      let k1 : may_use p b (named_behind (own_named p env.around.main env.around.home name) (outer_named p name)) ≡ true = subst (λ o. may_use p b (named_behind o (named_behind (own_named p env.around.main env.around.home name) (outer_named p name))) ≡ true) (locals name n) k in
      let k2 : may_use p b (named_behind (member_named p h.class name) (outer_named p name)) ≡ true = subst (λ o. may_use p b (named_behind (own_named p env.around.main o name) (outer_named p name)) ≡ true) at_home k1 in
      subst (λ j. may_use p b (named_behind (member_named p j name) (outer_named p name)) ≡ true) class_is k2

  -- it is no member, or a field of the class
  data Unhidden (b : Bound) (name : List ℕ) : Type 0 where
    no_member : tree.member_meant p i Own name ≡ tree.no_meaning → Unhidden b name
    a_field : (x : NameMeaning) (f : FieldAt name x 0 lead c.members) → tree.member_meant p i Own name ≡ tree.field_found p c i Own (record { number = lead + f.n; field = f.field }) → (b.whole ≡ false → is_field_before f.place b.field ≡ true) → Unhidden b name

  found_by : (b : Bound) (name : List ℕ) → may_use p b (named_behind (member_named p i name) (outer_named p name)) ≡ true → Unhidden b name
  found_by b name k = by (member_named p i name) refl k
    where
      by_origin : (x : NameMeaning) → member_named p i name ≡ Some x → may_use_origin p b x.origin ≡ true → (is_field_origin x.origin ≡ true) ⊎ (is_method x.origin ≡ true) → Unhidden b name
      by_origin x q k (inr m) = no_method p b x.origin m k
      by_origin x q k (inl r) =
          let f = field_at p i c name x e q r in
          a_field x f (ap (tree.member_in p i Own name) e ∙ ap (tree.member_by p c i Own name) f.named) (λ w. field_used p b x.origin f.place f.origin w k)

      by : (o : Option NameMeaning) → member_named p i name ≡ o → may_use p b (named_behind o (outer_named p name)) ≡ true → Unhidden b name
      by None q k = no_member (nothing_is p i c name formed u e Own q)
      by (Some x) q k = by_origin x q k (origin_is p i c name x e q)

  own_is : (name : List ℕ) (m : Meant) → tree.member_meant p i Own name ≡ m → tree.own_meant p s.class name ≡ tree.meant_or m.standing m (tree.item_meant p name)
  own_is name m q =
      ap (λ o. tree.own_meant p o name) in_class ∙ ap (λ (m : Meant). tree.meant_or m.standing m (tree.item_meant p name)) q

  module _ (place : FieldPlace) (n : ℕ) (before : Before place n) where
    own_earlier : (b : Bound) → b.field ≡ place → b.whole ≡ false → (q : Pos) (name : List ℕ) → breaks_at (AtUse (with_around env (in_argument b env.around)) q name) ≡ [] → tree.known_named s.names name ≡ None → MeantEarlier n (tree.own_meant p s.class name)
    own_earlier b z w q name v k = by (found_by b name (unhidden b q name v k))
      where
        by : Unhidden b name → MeantEarlier n (tree.own_meant p s.class name)
        by (no_member m) = subst (MeantEarlier n) (sym (own_is name tree.no_meaning m)) (earlier.item p n name)
        by (a_field x f m l) =
            let number : tree.NumberedField = record { number = lead + f.n; field = f.field } in
            let few = before name x f (subst (λ z. is_field_before f.place z ≡ true) z (l w)) in
            let found = tree.field_found p c i Own number in
            subst (MeantEarlier n) (sym (own_is name found m)) (earlier.meant_or p n found.standing found (tree.item_meant p name) (earlier.field_found p n c i Own number few) (earlier.item p n name))

    -- a field alone
    alone_ref : (b : Bool) (k : Shape) (j : ℕ) (ty : Ty) → AloneMeant (tree.field_by_ref b k j Own ty)
    alone_ref false k j ty = (tt, tt)
    alone_ref true k j ty = (tt, tt)

    alone_by : (a b : Bool) (k : Shape) (j : ℕ) (ty : Ty) → AloneMeant (tree.field_by a b k j Own ty)
    alone_by true b k j ty = (tt, tt)
    alone_by false b k j ty = alone_ref b k j ty

    alone_field : (f : tree.NumberedField) (b : Base) → GivenMeant n (tree.field_or_condition p c i Own f b)
    alone_field f base.Condition = inl (record { expr = tt; standing = tt })
    alone_field f base.Void = inr (alone_by _ _ _ _ _)
    alone_field f base.Int = inr (alone_by _ _ _ _ _)
    alone_field f base.Char = inr (alone_by _ _ _ _ _)
    alone_field f base.Bool = inr (alone_by _ _ _ _ _)
    alone_field f base.Cluster = inr (alone_by _ _ _ _ _)
    alone_field f base.Processor = inr (alone_by _ _ _ _ _)
    alone_field f (base.Named name) = inr (alone_by _ _ _ _ _)

    given_or : (x : tree.Standing) (m other : Meant) → GivenMeant n m → MeantEarlier n other → GivenMeant n (tree.meant_or x m other)
    given_or tree.AsNothing m other h k = inl k
    given_or x m other h k = h

    own_given : (b : Bound) (q : Pos) (name : List ℕ) → breaks_at (AtUse (with_around env (in_argument b env.around)) q name) ≡ [] → tree.known_named s.names name ≡ None → GivenMeant n (tree.own_meant p s.class name)
    own_given b q name v k = by (found_by b name (unhidden b q name v k))
      where
        by : Unhidden b name → GivenMeant n (tree.own_meant p s.class name)
        by (no_member m) = inl (subst (MeantEarlier n) (sym (own_is name tree.no_meaning m)) (earlier.item p n name))
        by (a_field x f m l) =
            let number : tree.NumberedField = record { number = lead + f.n; field = f.field } in
            let found = tree.field_found p c i Own number in
            subst (GivenMeant n) (sym (own_is name found m)) (given_or found.standing found (tree.item_meant p name) (alone_field number f.field.base) (earlier.item p n name))

    name_given : (b : Bound) (q : Pos) (name : List ℕ) → Unbroken (visits (with_around env (in_argument b env.around)) (expr.Name q name)) → GivenMeant n (tree.meant ctx (expr.Name q name))
    name_given b q name v = by (tree.known_named s.names name) refl
      where
        by : (o : Option LocalVariable) → tree.known_named s.names name ≡ o → GivenMeant n (tree.name_meant p s.class name o)
        by None k = own_given b q name (none_left (breaks_at (AtUse (with_around env (in_argument b env.around)) q name)) [] v) k
        by (Some l) k = inl (earlier.known p n (tree.has_number p l.ty) l)

    whole_given : (b : Bound) (x : expr.Expr) → is_name x ≡ true → Unbroken (visits (with_around env (in_argument b env.around)) x) → GivenMeant n (tree.meant ctx x)
    whole_given b (expr.Name q name) w v = name_given b q name v
    whole_given b _ w v = false_true w

    arg_given : (x : expr.Expr) (y : Expected) → Unbroken (init_arg_visits env (Some place) x y) → GivenMeant n (tree.meant ctx x)
    arg_given x y v = by (is_name x && is_reference y) refl
      where
        b : Bound
        b = bound_of x y place

        here : Unbroken (visits (with_around env (in_argument b env.around)) x)
        here = first (visits (with_around env (in_argument b env.around)) x) _ v

        by : (w : Bool) → (is_name x && is_reference y) ≡ w → GivenMeant n (tree.meant ctx x)
        by true w = whole_given b x (left_is (is_name x) (is_reference y) w) here
        by false w =
            inl (earlier.meant p n (with_around env (in_argument b env.around)) s.class s.routine s.names (own_earlier b refl w) x here)

    args_given : (es : expr.Exprs) (to : Target) (l : ℕ) → Unbroken (init_args_visits env (Some place) es to l) → AllGivenMeant n (tree.args_meant ctx es)
    args_given expr.NoExprs to l v = tt
    args_given (expr.MoreExprs x xs) to l v =
        (arg_given x (expected p to l) (first (init_arg_visits env (Some place) x (expected p to l)) (init_args_visits env (Some place) xs to _) v), args_given xs to _ (second (init_arg_visits env (Some place) x (expected p to l)) (init_args_visits env (Some place) xs to _) v))

  -- the arguments for a field

  from_field : (last : Option FieldPlace) (o : Origin) → is_from last o ≡ true → is_field_origin o ≡ true
  from_field last (origin.Field class k a b place) h = refl
  from_field last _ h = false_true h

  module _ (g : Sig) (w : Within (table_of p) g [] env s.class s.names) where
    init_given : (k : ℕ) (f : ClassField) → slice_get (fields_of c.members) k ≡ Some f → (x : Init) → InitFound (table_of p) g [] env s.class s.routine s.names w f.declarator.name x → AllGivenMeant (lead + k) (tree.args_meant ctx x.args)
    init_given k f at x q = by (home_member p env.around.home x.name) refl (holds (may_init q.last (home_member p env.around.home x.name)) S17 x.pos _ (none_right (init_count_breaks env x (home_member p env.around.home x.name)) _ q.own))
      where
        by : (o : Option NameMeaning) → home_member p env.around.home x.name ≡ o → may_init q.last o ≡ true → AllGivenMeant (lead + k) (tree.args_meant ctx x.args)
        by None z a = false_true a
        by (Some m) z a =
            let named : member_named p i x.name ≡ Some m = ap (λ n. member_named p n x.name) (sym class_is) ∙ (sym (ap (λ o. home_member p o x.name) at_home) ∙ z) in
            let d = field_at p i c x.name m e named (from_field q.last m.origin (left_is (is_from q.last m.origin) (maybe_start m.entity) a)) in
            let place : field_of env x.name ≡ Some d.place = ap (option_and_then (λ (m : NameMeaning). field_place m.origin)) z ∙ d.origin in
            let least : d.n ≤ k = first_named (fields_of c.members) lead k d.n f x.name _ at (is_same f.declarator.name x.name (sym q.name_is)) d.named refl in
            let before : Before d.place (lead + k) = λ name y f l. let o = in_order c.members 0 lead name x.name y m f d l in omega (arith, o, least) in
            args_given d.place (lead + k) before x.args (init_target env x.name) 0 (subst (λ o. Unbroken (init_args_visits env o x.args (init_target env x.name) 0)) place q.args)

    field_given : (inits : List Init) → Unbroken (inits_visits env None inits) → (k : ℕ) (f : ClassField) → slice_get (fields_of c.members) k ≡ Some f → AllGivenMeant (lead + k) (init_args p s (init_named p inits f.declarator.name))
    field_given inits v k f at = by (init_named p inits f.declarator.name) refl
      where
        by : (o : Option Init) → init_named p inits f.declarator.name ≡ o → AllGivenMeant (lead + k) (init_args p s o)
        by None z = tt
        by (Some x) z = init_given k f at x (init_found (table_of p) g [] env s.class s.routine s.names w inits None f.declarator.name x v z)

-- the statements that initialise

alone_converted : (s : Shape) (e : Expr) → IsAlone e → IsAlone (tree.converted s e)
alone_converted src.Character e h = h
alone_converted src.Truth e h = h
alone_converted s e h = h

module _ (p : Program) (n : ℕ) where
  arg_of : (x : Param) (m : Meant) → GivenMeant n m → Given n (tree.arg_meant x m)
  arg_of x m (inl h) = inl (earlier.arg_meant p n x m h)
  arg_of x m (inr a) = inr (by x.by_ref)
    where
      by : (b : Bool) → IsAlone (if b then m.expr else tree.converted (shape_of x.base) (tree.value_of m))
      by true = a.0
      by false = alone_converted (shape_of x.base) (tree.value_of m) a.1

  args_of : (xs : List Param) (ms : List Meant) → AllGivenMeant n ms → AllGiven n (tree.args_by xs ms)
  args_of [] ms h = tt
  args_of (x ∷ xs) [] h = tt
  args_of (x ∷ xs) (m ∷ ms) h = (arg_of x m h.0, args_of xs ms h.1)

  value_given : (s : Shape) (m : Meant) → GivenMeant n m → Given n (tree.converted s (tree.value_of m))
  value_given s m (inl h) = inl (earlier.converted p n s (tree.value_of m) (earlier.value_of p n m h))
  value_given s m (inr a) = inr (alone_converted s (tree.value_of m) a.1)

  expr_given : (m : Meant) → GivenMeant n m → Given n m.expr
  expr_given m (inl h) = inl h.expr
  expr_given m (inr a) = inr a.0

  module _ (k : ℕ) (few : k ≤ n) (shape : Shape) (args : List Meant) (given : AllGivenMeant n args) where
    processor : (ms : List Meant) → AllGivenMeant n ms → Given n (src.OfObject (src.NewProcessor (cluster_in ms)))
    processor [] h = inl (tt, tt)
    processor (m ∷ ms) h = by h.0
      where
        by : GivenMeant n m → Given n (src.OfObject (src.NewProcessor m.expr))
        by (inl h) = inl (tt, h.expr)
        by (inr a) = inr a.0

    builds_at : (m : Making) (rest : ℕ → Type 0) → rest (suc n) → Starts k (constructed p m (tree.field_place shape n Own) args) rest
    builds_at (APlain j) rest r = by (written_at p j role.Constructor)
      where
        by : (o : Option ℕ) → Starts k (called_by p j role.Constructor (tree.field_place shape n Own) args o) rest
        by None = (few, r)
        by (Some x) = (few, args_of (params_of p x) args given, r)
    builds_at (AMutex j) rest r = by (written_at p j role.Constructor)
      where
        by : (o : Option ℕ) → Starts k (made_by p j (tree.field_place shape n Own) args o) rest
        by None = (few, tt, r)
        by (Some x) = (few, args_of (params_of p x) args given, r)
    builds_at ACluster rest r = (few, inl (tt, tt), r)
    builds_at AProcessor rest r = (few, processor args given, r)

    -- elements take no arguments
    no_args : (xs : List Param) → tree.args_by xs [] ≡ src.NoExprs
    no_args [] = refl
    no_args (x ∷ xs) = refl

    fills_at : (m : Making) (len : ℕ) (rest : ℕ → Type 0) → rest (suc n) → Fills k (constructed p m (counted_element p m len (tree.field_place shape n Own)) []) rest
    fills_at (APlain j) len rest r = by (written_at p j role.Constructor)
      where
        by : (o : Option ℕ) → Fills k (called_by p j role.Constructor (counted_element p (APlain j) len (tree.field_place shape n Own)) [] o) rest
        by None = (few, r)
        by (Some x) = (few, no_args (params_of p x), r)
    fills_at (AMutex j) len rest r = by (written_at p j role.Constructor)
      where
        by : (o : Option ℕ) → Fills k (made_by p j (counted_element p (AMutex j) len (tree.field_place shape n Own)) [] o) rest
        by None = (few, refl, r)
        by (Some x) = (few, no_args (params_of p x), r)
    fills_at ACluster len rest r = (few, (tt, tt), r)
    fills_at AProcessor len rest r = (few, (tt, tt), r)

    started : (f : ClassField) (rest : Stmts) → ((k : ℕ) → k ≤ suc n → Initialises k rest) → (ms : List Meant) → AllGivenMeant n ms → Initialises k (field_started p f (tree.field_place shape n Own) ms rest)
    started f rest r [] h = r k (omega (arith, few))
    started f rest r (m ∷ ms) h = by f.declarator.by_ref
      where
        by : (b : Bool) → Starts k (field_start p b (shape_of f.base) (tree.field_place shape n Own) m) (λ n. Initialises n rest)
        by true = (few, expr_given m h.0, r (suc n) (omega arith))
        by false = (few, value_given (shape_of f.base) m h.0, r (suc n) (omega arith))

    one_built : (f : ClassField) (len : Option ℕ) (rest : Stmts) → ((k : ℕ) → k ≤ suc n → Initialises k rest) → (o : Option Making) → Initialises k (field_built p o f len (tree.field_place shape n Own) args rest)
    one_built f len rest r None = started f rest r args given
    one_built f None rest r (Some m) = builds_at m (λ n. Initialises n rest) (r (suc n) (omega arith))
    one_built f (Some l) rest r (Some m) = fills_at m l (λ n. Initialises n rest) (r (suc n) (omega arith))

module _ (p : Program) (c : Class) (i : ℕ) (inits : List Init) (s : Scope) where
  abbrev AllFields : Type 0
  AllFields = (l : ℕ) (f : ClassField) → slice_get (fields_of c.members) l ≡ Some f → AllGivenMeant (leading_cells c.kind + l) (init_args p s (init_named p inits f.declarator.name))

  all_built : AllFields → (rest : Stmts) → ((k : ℕ) → Initialises k rest) → (fs : List ClassField) (l number : ℕ) → leading_cells c.kind + l ≡ number → ((m z : ℕ) (f : ClassField) → l + m ≡ z → slice_get fs m ≡ Some f → slice_get (fields_of c.members) z ≡ Some f) → (k : ℕ) → k ≤ number → Initialises k (fields_built p c i inits s fs number rest)
  all_built a rest r [] l number q b k few = r k
  all_built a rest r (f ∷ fs) l number q b k few =
      let given = subst (λ n. AllGivenMeant n (init_args p s (init_named p inits f.declarator.name))) q (a l f (b 0 l f (omega arith) refl)) in
      one_built p number k few (class_shape p i) (init_args p s (init_named p inits f.declarator.name)) given f (length_in_class p c i f) (fields_built p c i inits s fs (suc number) rest) (λ k few. all_built a rest r fs (suc l) (suc number) (omega (arith, q)) (λ m z f q at. b (suc m) z f (omega (arith, q)) at) k few) (field_making p f)

  set_up_from : (b : Bool) (rest : Stmts) → Initialises 0 rest → Initialises 0 (set_up p b i rest)
  set_up_from true rest h = h
  set_up_from false rest h = h

  freed_from : (k : Kind) (rest : Stmts) → Initialises 0 rest → Initialises 0 (freed p k i rest)
  freed_from kind.Monitor rest h = h
  freed_from kind.Cormonitor rest h = h
  freed_from kind.Task rest h = h
  freed_from kind.Class rest h = h
  freed_from kind.Coroutine rest h = h
  freed_from kind.Event rest h = h

  started_from : (b : Bool) (body : Stmts) → ((k : ℕ) → Initialises k body) → (k : ℕ) → Initialises k (started_in p b body)
  started_from true body h k = h k
  started_from false body h k = h k

  construction_from : AllFields → (body : Stmts) → ((k : ℕ) → Initialises k body) → Initialises 0 (construction p (Some c) i inits s body)
  construction_from a body h =
      let begun = started_in p (has_execution c.kind) body in
      let built = fields_built p c i inits s (fields_of c.members) (leading_cells c.kind) begun in
      freed_from c.kind (set_up p (has_execution c.kind) i built) (set_up_from (has_execution c.kind) built (all_built a begun (started_from (has_execution c.kind) body h) (fields_of c.members) 0 (leading_cells c.kind) (omega arith) (λ m z f q at. ap (slice_get (fields_of c.members)) (let y : z ≡ m = omega (arith, q) in y) ∙ at) 0 (omega arith)))

ends_from : (p : Program) (b : Bool) (k : ℕ) → Initialises k (enlivened p b)
ends_from p true k = tt
ends_from p false k = tt

-- where the rules and the names are those of a place in the routine
fields_given : (p : Program) (formed : IsFormed p) (u : Unbroken (program_visits p)) (env : Env) (same : env.program ≡ p) (i : ℕ) (c : Class) (e : class_at p i ≡ Some c) (g : Sig) (h : OwnClass) (s : Scope) (inits : List Init) → env.around.home ≡ Some h → h.class ≡ i → s.class ≡ Some i → Within (table_of p) g [] env s.class s.names → Unbroken (inits_visits env None inits) → AllFields p c i inits s
fields_given p formed u env same i c e g h s inits at_home class_is in_class w v =
    let w1 : Within (table_of env.program) g [] env s.class s.names = subst (λ q. Within (table_of q) g [] env s.class s.names) (sym same) w in
    subst (λ q. AllFields q c i inits s) same (field_given env (subst IsFormed (sym same) formed) (subst (λ q. Unbroken (program_visits q)) (sym same) u) i c (subst (λ q. class_at q i ≡ Some c) (sym same) e) h at_home class_is s in_class (λ name k. local_none (table_of env.program) g [] env.program env.names s.names name w1.alike k) g w1 inits v)

params_around : (xs : List Param) (env : Env) → (with_params env xs).around ≡ env.around
params_around [] env = refl
params_around (x ∷ xs) env = params_around xs (scopes.with_param env x)

home_of_around : (p : Program) (o : Option OwnClass) (main : Bool) (mark : MutexMark) (sig : Declared) → (sig_around p o main mark sig).home ≡ o
home_of_around p None main mark sig = refl
home_of_around p (Some h) main mark sig = refl

module _ (p : Program) (formed : IsFormed p) (u : Unbroken (program_visits p)) where
  module _ (n : ℕ) (d : Defined) (e : slice_get (routines_of p) n ≡ Some d) (texts sites : ℕ) (maker : d.routine.sig.role ≡ role.Constructor) where
    abbrev scope : Scope
    scope = routine_scope p d.routine (place_by p d) n texts sites

    st : Standing p formed u d
    st = standing p formed u d (origin p n d e)

    abbrev start : Env
    start = plain_env p (sig_around p st.home st.main st.mark d.routine.sig)

    abbrev inner : Env
    inner = with_params start d.routine.sig.params

    inits_unbroken : Unbroken (inits_visits inner None d.routine.inits)
    inits_unbroken =
        let all : Unbroken (AtInits inner d.routine.sig d.routine.inits ∷ (inits_visits inner None d.routine.inits ++ stmts_visits d.routine.body inner)) = second (sig_visits start d.routine.sig) (body_visits inner d.routine) st.visits in
        first (inits_visits inner None d.routine.inits) (stmts_visits d.routine.body inner) (second (AtInits inner d.routine.sig d.routine.inits ∷ []) (inits_visits inner None d.routine.inits ++ stmts_visits d.routine.body inner) all)

    home_is : inner.around.home ≡ st.home
    home_is = ap (λ (a : Surroundings). a.home) (params_around d.routine.sig.params start) ∙ home_of_around p st.home st.main st.mark d.routine.sig

    abbrev body : (o : Option Class) (i : ℕ) → Stmts
    body o i = src.Then (src.Whole d.routine.brace.line (stmts_meant p d.routine.body scope)) (construction_ends p o i)

    by_home : (o : Option OwnClass) → st.home ≡ o → HomeIs p formed u d o → Initialises 0 (construction p (class_by p (place_by p d)) (place_or_zero p (place_by p d)) d.routine.inits scope (body (class_by p (place_by p d)) (place_or_zero p (place_by p d))))
    by_home None q at =
        subst (λ (z : Option ℕ). Initialises 0 (construction p (class_by p z) (place_or_zero p z) d.routine.inits scope (body (class_by p z) (place_or_zero p z)))) (sym at) tt
    by_home (Some h) q at =
        let c = at.0 in
        let a = fields_given p formed u inner (params_program d.routine.sig.params start) h.class c at.1 (routine_sig_in p d scope) h scope d.routine.inits (home_is ∙ q) refl at.3 (routine_within p formed u n d e texts sites st []) inits_unbroken in
        subst (λ (z : Option ℕ). Initialises 0 (construction p (class_by p z) (place_or_zero p z) d.routine.inits scope (body (class_by p z) (place_or_zero p z)))) (sym at.3) (subst (λ (o : Option Class). Initialises 0 (construction p o h.class d.routine.inits scope (body o h.class))) (sym at.1) (construction_from p c h.class d.routine.inits scope a (body (Some c) h.class) (λ k. tt)))

    written_from : Initialises 0 (body_by p d.routine.sig.role d.routine scope)
    written_from = subst (λ (r : Role). Initialises 0 (body_by p r d.routine scope)) (sym maker) (by_home st.home refl st.at)

  unwritten_from : (r : Role) (i : ℕ) → is_constructor r ≡ true → Initialises 0 (unwritten_body p r i)
  unwritten_from role.Plain i h = false_true h
  unwritten_from role.Destructor i h = false_true h
  unwritten_from role.Constructor i h = by (class_at p i)
    where
      by : (o : Option Class) → Initialises 0 (construction p o i [] (nowhere p) (construction_ends p o i))
      by None = tt
      by (Some c) = construction_from p c i [] (nowhere p) (λ l f at. tt) (construction_ends p (Some c) i) (ends_from p (has_execution c.kind))

  constructor_role : (o : Role) → is_constructor o ≡ true → o ≡ role.Constructor
  constructor_role role.Plain h = false_true h
  constructor_role role.Constructor h = refl
  constructor_role role.Destructor h = false_true h

  initialises : (n : ℕ) (r : Routine) → slice_get (source_of p).routines n ≡ Some r → builds p n ≡ true → Initialises 0 r.body
  initialises n r e h = by (in_step p n r e)
    where
      by : InStep p (routines_of p) (unwritten_of p) n n r (slice_get (all_sigs p) n) → Initialises 0 r.body
      by (is_written d texts sites f q s) =
          let k : is_constructor d.routine.sig.role ≡ true = sym (ap (builds_by p n) f) ∙ h in
          subst (λ (r : Routine). Initialises 0 r.body) (sym q) (written_from n d f texts sites (constructor_role d.routine.sig.role k))
      by (nobody_wrote x m a f q s) =
          let none : slice_get (routines_of p) n ≡ None = slice_get_past (routines_of p) n (let z : length (routines_of p) ≤ n = omega (arith, a) in z) in
          let l : n - length (routines_of p) ≡ m = omega (arith, a) in
          let k : is_constructor x.role ≡ true = sym (ap (builds_by p n) none ∙ (ap (λ z. unwritten_builds (slice_get (unwritten_of p) z)) l ∙ ap unwritten_builds f)) ∙ h in
          subst (λ (r : Routine). Initialises 0 r.body) (sym q) (unwritten_from x.role x.class k)

pub law_initialises : LawInitialises
law_initialises p formed unbroken n r e h = initialises p formed unbroken n r e h
