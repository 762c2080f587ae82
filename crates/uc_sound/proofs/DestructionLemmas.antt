-- Where the body of each routine stands, and what destroys an object.
use Rattle.std.proofs.Common.{◌≡◌, ℕ, suc, ◌+◌, ◌≤◌, ◌++◌, ◌⊎◌, inl, inr, List, [], ◌∷◌, length, Option, Some, None, Bool, true, false, refl, sym, ap, ◌∙◌, subst, arith, map}
use Rattle.std.specs.Prelude.{◌&&◌, ◌||◌, slice_get, if◌then◌else◌, nat_eq, option_and_then, unwrap_or}
use Rattle.uc_tree.specs.declared.kinds.Base.TheVariants as base
use Rattle.uc_tree.specs.declared.kinds.Kind.{Kind}
use Rattle.uc_tree.specs.declared.kinds.MutexMark.{MutexMark}
use Rattle.uc_tree.specs.declared.kinds.Owner.{Owner}
use Rattle.uc_tree.specs.declared.kinds.Owner.TheVariants as owner
use Rattle.uc_tree.specs.declared.kinds.Param.{Param}
use Rattle.uc_tree.specs.declared.kinds.Role.{Role}
use Rattle.uc_tree.specs.declared.kinds.Role.TheVariants as role
use Rattle.uc_tree.specs.Expressions as expr
use Rattle.uc_tree.specs.Names.{same_name}
use Rattle.uc_tree.specs.Constants.{constants_of, elements}
use Rattle.uc_tree.specs.Cells.{classes_of, leading_cells, seen_in}
use Rattle.uc_tree.specs.Numbering.{is_event, is_plain, is_mutex, class_number, Defined, defined_by, in_class, routines_of}
use Rattle.uc_tree.specs.Objects as objects
use Rattle.uc_tree.specs.Objects.{ClassField, fields_of, class_at, number_at, number_in, place_of, class_shape, event_place, has_execution, member_from, Making, APlain, AMutex, ACluster, AProcessor, making}
use Rattle.uc_tree.specs.Programs.{Sig as Declared, Routine as Body, MemberForm, FieldsMember, RoutineMember, ProtoMember, Member, Class, RoutineItem, Program}
use Rattle.uc_tree.specs.Source.{Stmts}
use Rattle.uc_machine.specs.Pieces.{LAST_ADDRESS}
use Rattle.uc_resolve.specs.Standings as tree
use Rattle.uc_resolve.specs.Standings.{field_place}
use Rattle.uc_resolve.specs.Resolve.{Scope, place_by, routine_scope, params_known, stmts_meant, length_in_class, field_making, field_left, fields_left, taken_down, forgotten, ending, destruction, clean_up}
use Rattle.uc_rules.specs.declared.rules.OwnClass.{OwnClass}
use Rattle.uc_rules.specs.declared.rules.Sort.{Sort}
use Rattle.uc_rules.specs.declared.rules.Sort.TheVariants as sort
use Rattle.uc_rules.specs.Sorts.{class_named}
use Rattle.uc_rules.specs.Names as rules
use Rattle.uc_rules.specs.Names.{is_here, form_sig, method_sig, item_sig}
use Rattle.uc_rules.specs.Scopes.{Env, plain_env, class_around, sig_around, is_inner, with_param, with_params}
use Rattle.uc_rules.specs.ClassBreaks.{is_event_member, is_empty_body}
use Rattle.uc_rules.specs.ItemBreaks.{is_member_definition, has_class_name, class_declares, form_declares_sig}
use Rattle.uc_rules.specs.Visits.{AtSig, AtInits, AtRoutine, stmts_visits}
use Rattle.uc_rules.specs.ProgramVisits.{program_visits, form_visits, routine_visits, body_visits, sig_visits, base_visits, params_visits, inits_visits, sig_env, owner_home, is_of_main, outer_mark, mark_in, home_of}
use Rattle.uc_typing.specs.Typing.{Ty, Row, IsParam, Name, Own, Kept, Sig, Table, raw, IsPlaced, IsInside, InMutex, Executing, Yields, CleansAt, Cleans, FineStmts}
use Rattle.uc_sound.specs.Agreement.{place_ty, param_ty}
use Rattle.uc_sound.specs.Fields.{field_ty, TellsClass}
use Rattle.uc_sound.specs.Unbroken.{Unbroken}
use Rattle.uc_sound.proofs.Ties.{some_same, none_some, false_true}
use Rattle.uc_sound.proofs.UnbrokenLemmas.{first, second}
use Rattle.uc_sound.specs.SoundFormed.{IsFormed}
use Rattle.uc_sound.specs.Tables.{of_kind, inward_in, inward_at, declared_ty, stmts_locals, routine_sig_in, table_of}
use Rattle.uc_sound.specs.Told.{Told}
use Rattle.uc_sound.specs.Rooted.{Within}
use Rattle.uc_sound.specs.Statements.{Holds, IsBehind}
use Rattle.uc_sound.proofs.Lists.{left_is, right_is, case_of, any_at, within as is_within}
use Rattle.uc_sound.proofs.Visited.{FieldRules, home, item_rules, member_rules, field_rules}
use Rattle.uc_sound.proofs.ClassNames.{same_is, number_of, event_number_is, sort_here, Sorted, sorted, sorted_event}
use Rattle.uc_sound.proofs.Origins.{Origin, outside, inside}
use Rattle.uc_sound.proofs.Likes.{AreSame, sig_is}
use Rattle.uc_sound.proofs.RoutineLemmas.{event_member, plain_place, no_place}
use Rattle.uc_sound.proofs.MemberLemmas.{Declares, sig_rules, definition, numbered_place}
use Rattle.uc_sound.proofs.ClassLemmas.{mutex_is, law_told}
use Rattle.uc_sound.proofs.RootedLemmas.{HomeIs, rooted}
use Rattle.uc_sound.proofs.InwardLemmas.{Marked, marked_outside, inner_inside}
use Rattle.uc_sound.proofs.DeclaringLemmas.{made, making_is}
use Rattle.uc_sound.proofs.ObjectLemmas.{Making_is, making_ty, made_told, whole_placed, cleans_at, clean_fine}
use Rattle.uc_sound.proofs.StatementLemmas.{law_statements}
use Rattle.uc_sound.proofs.BodyLemmas.{params_within, params_one, is_param}

pub params_program : (xs : List Param) (env : Env) → (with_params env xs).program ≡ env.program
params_program [] env = refl
params_program (x ∷ xs) env = params_program xs (with_param env x)

map_length : {A B : Type 0} (f : A → B) (xs : List A) → length (map f xs) ≡ length xs
map_length f [] = refl
map_length f (x ∷ xs) = ap suc (map_length f xs)

module _ (p : Program) (formed : IsFormed p) (u : Unbroken (program_visits p)) where
  abbrev t : Table
  t = table_of p

  -- where a routine stands
  pub record Standing (d : Defined) : Type 0 where
    pub home : Option OwnClass
    pub main : Bool
    pub mark : MutexMark
    pub at : HomeIs p formed u d home
    pub visits : Unbroken (routine_visits (plain_env p (sig_around p home main mark d.routine.sig)) d.routine)
    pub void : is_plain d.routine.sig.role ≡ false → d.routine.sig.ret ≡ base.Void
    pub inside : (h : OwnClass) → home ≡ Some h → is_inner h mark d.routine.sig ≡ true → IsInside (inward_at p (place_by p d) d.routine.sig.role d.routine.sig.name)

  -- the place of the class of a routine
  class_place : (i : ℕ) (c : Class) (x : Defined) → class_at p i ≡ Some c → x.number ≡ unwrap_or (class_number p c.name) 0 → (is_event c.kind ≡ true → (objects.is_constructor x.routine.sig.role ≡ true) × (x.routine.sig.name ≡ c.name)) → place_by p x ≡ Some i
  class_place i c x e n f = by (case_of (is_event c.kind))
    where
      by : (is_event c.kind ≡ true) ⊎ (is_event c.kind ≡ false) → place_by p x ≡ Some i
      by (inl v) =
          let z : x.number ≡ 0 = n ∙ event_number_is p u i c e v in
          let q = sorted_event (classes_of p.items) 0 c.name i c.kind (sort_here p u i c e) v in
          ap (λ m. if nat_eq m 0 && objects.is_constructor x.routine.sig.role then event_place p (base.Named x.routine.sig.name) else place_of p m) z ∙ (ap (λ (b : Bool). if b then event_place p (base.Named x.routine.sig.name) else place_of p 0) (f v).0 ∙ (ap (λ m. event_place p (base.Named m)) (f v).1 ∙ q))
      by (inr v) = numbered_place p formed u i x (number_of p u i c formed.classes e v) (n ∙ sym (ap (number_in p) e))

  none_place : (x : Defined) → x.number ≡ 0 → is_plain x.routine.sig.role ≡ true → place_by p x ≡ None
  none_place x z w = plain_place p formed u x w ∙ (ap (place_of p) z ∙ no_place p formed u (classes_of p.items))

  rule_role : (o : Role) → rules.is_constructor o ≡ true → objects.is_constructor o ≡ true
  rule_role role.Plain h = false_true h
  rule_role role.Constructor h = refl
  rule_role role.Destructor h = false_true h

  rule_plain : (o : Role) → rules.is_constructor o ≡ true → is_plain o ≡ false
  rule_plain role.Plain h = false_true h
  rule_plain role.Constructor h = refl
  rule_plain role.Destructor h = false_true h

  -- the class of an owner
  record OwnerIs (name : List ℕ) (sig : Declared) : Type 0 where
    home : OwnClass
    class : Class
    found : owner_home p (owner.Class name) ≡ Some home
    at : class_at p home.class ≡ Some class
    kind_is : home.kind ≡ class.kind
    name_is : class.name ≡ name
    named : has_class_name name sig ≡ true
    declares : class_declares sig (class_at p home.class) ≡ true

  owner_is : (i : ℕ) (name : List ℕ) (sig : Declared) (o : Option OwnClass) → owner_home p (owner.Class name) ≡ o → is_member_definition p name o sig i ≡ true → OwnerIs name sig
  owner_is i name sig None e d = false_true d
  owner_is i name sig (Some h) e d = by (class_named p name) refl e
    where
      of_class : (k : Kind) (c : ℕ) → class_named p name ≡ Some (sort.Object c k) → record { class = c; kind = k } ≡ h → OwnerIs name sig
      of_class k c w q =
          let s : Sorted (classes_of p.items) 0 name c k = sorted (classes_of p.items) 0 name c k w in
          let n : s.n ≡ h.class = let z = s.place in ap (λ z. z) (let y : s.n ≡ c = omega (arith, z) in y) ∙ ap (λ (z : OwnClass). z.class) q in
          record {
            home = h;
            class = s.class;
            found = e;
            at = ap (class_at p) (sym n) ∙ s.at;
            kind_is = ap (λ (z : OwnClass). z.kind) (sym q) ∙ sym s.kind;
            name_is = s.name_is;
            named = left_is (has_class_name name sig) _ d;
            declares = left_is (class_declares sig (class_at p h.class)) _ (right_is (has_class_name name sig) _ d);
          }

      by_sort : (s : Sort) → class_named p name ≡ Some s → home_of s ≡ Some h → OwnerIs name sig
      by_sort (sort.Object c k) w z = of_class k c w (some_same z)
      by_sort _ w z = none_some z

      by : (o : Option Sort) → class_named p name ≡ o → option_and_then home_of o ≡ Some h → OwnerIs name sig
      by None w z = none_some z
      by (Some s) w z = by_sort s w z

  class_name_is : (name : List ℕ) (sig : Declared) → has_class_name name sig ≡ true → is_plain sig.role ≡ false → sig.name ≡ name
  class_name_is name sig h w =
      let a = left_is (is_plain sig.role || same_name sig.name name) _ h in
      same_is sig.name name (subst (λ (b : Bool). (b || same_name sig.name name) ≡ true) w a)

  event_built : (i : ℕ) (c : Class) (sig : Declared) → class_at p i ≡ Some c → is_event c.kind ≡ true → class_declares sig (Some c) ≡ true → rules.is_constructor sig.role ≡ true
  event_built i c sig e v h =
      let f = any_at (λ (m : Member). form_declares_sig sig m.form) c.members h in
      by f.1.form f.3 (event_member p formed u i f.0 c f.1 e f.2 v)
    where
      by : (form : MemberForm) → form_declares_sig sig form ≡ true → is_event_member p c form ≡ true → rules.is_constructor sig.role ≡ true
      by (FieldsMember at b ds) g k = false_true g
      by (RoutineMember r) g k = false_true g
      by (ProtoMember s) g k = let same : AreSame s sig = sig_is s sig g in ap rules.is_constructor (sym same.role) ∙ left_is (rules.is_constructor s.role) _ k

  -- the routines of a class that the rules call inner run inside its objects
  inner_at : (x : Defined) (o : Option OwnClass) (mark : MutexMark) (c : Class) (h : OwnClass) → o ≡ Some h → class_at p h.class ≡ Some c → h.kind ≡ c.kind → place_by p x ≡ Some h.class → (is_plain x.routine.sig.role ≡ true → Marked c x.routine.sig mark) → (k : OwnClass) → o ≡ Some k → is_inner k mark x.routine.sig ≡ true → IsInside (inward_at p (place_by p x) x.routine.sig.role x.routine.sig.name)
  inner_at x o mark c h n e q place marked k m w =
      let same : h ≡ k = some_same (sym n ∙ m) in
      subst (λ z. IsInside (inward_at p z x.routine.sig.role x.routine.sig.name)) (sym place) (subst (λ o. IsInside (inward_in p h.class o x.routine.sig.role x.routine.sig.name)) (sym e) (inner_inside p formed u h.class c e k x.routine.sig mark (ap (λ (z : OwnClass). z.kind) (sym same) ∙ q) marked w))

  by_owner : (i : ℕ) (r : Body) (o : Owner) → r.sig.owner ≡ o → slice_get p.items i ≡ Some (RoutineItem r) → Unbroken (routine_visits (plain_env p (sig_around p (owner_home p o) (is_of_main o) (outer_mark p (owner_home p o) r.sig) r.sig)) r) → Standing (defined_by p o r)
  by_owner i r owner.Here w e v =
      let k = formed.plain i r.sig (ap (option_and_then item_sig) e) (ap is_here w) in
      record { home = None; main = false; mark = outer_mark p None r.sig; at = none_place (defined_by p owner.Here r) refl k; visits = v; void = formed.makers i r.sig (ap (option_and_then item_sig) e); inside = λ h q. none_some q }
  by_owner i r owner.Main w e v =
      let k = left_is (is_plain r.sig.role) _ (definition p formed u i r owner.Main w e) in
      record { home = None; main = true; mark = outer_mark p None r.sig; at = none_place (defined_by p owner.Main r) refl k; visits = v; void = formed.makers i r.sig (ap (option_and_then item_sig) e); inside = λ h q. none_some q }
  by_owner i r (owner.Class name) w e v =
      let o = owner_is i name r.sig (owner_home p (owner.Class name)) refl (definition p formed u i r (owner.Class name) w e) in
      let x = in_class p name r in
      let n : x.number ≡ unwrap_or (class_number p o.class.name) 0 = ap (λ z. unwrap_or (class_number p z) 0) (sym o.name_is) in
      let place : place_by p x ≡ Some o.home.class = class_place o.home.class o.class x o.at n (λ q. let k = event_built o.home.class o.class r.sig o.at q (subst (λ z. class_declares r.sig z ≡ true) o.at o.declares) in (rule_role r.sig.role k, class_name_is name r.sig o.named (rule_plain r.sig.role k) ∙ sym o.name_is)) in
      record {
        home = Some o.home;
        main = false;
        mark = outer_mark p (Some o.home) r.sig;
        at = (o.class, o.at, o.kind_is, place);
        visits = subst (λ h. Unbroken (routine_visits (plain_env p (sig_around p h false (outer_mark p h r.sig) r.sig)) r)) o.found v;
        void = formed.makers i r.sig (ap (option_and_then item_sig) e);
        inside = inner_at x (Some o.home) (outer_mark p (Some o.home) r.sig) o.class o.home refl o.at o.kind_is place (λ w. subst (Marked o.class r.sig) (sym (ap (mark_in r.sig) o.at)) (marked_outside o.class r.sig (subst (λ z. class_declares r.sig z ≡ true) o.at o.declares)));
      }

  pub standing : (d : Defined) → Origin p d → Standing d
  standing d (outside i r e q) = subst Standing q (by_owner i r r.sig.owner refl e (item_rules p u i (RoutineItem r) e).inner)
  standing d (inside i j c m r e f g q) = subst Standing q (record {
    home = Some (home p u i c);
    main = false;
    mark = m.mark;
    at = (c, e, refl, place);
    visits = second (AtRoutine (plain_env p (class_around (home p u i c))) c false r.sig j ∷ []) (routine_visits (sig_env p (home p u i c) m.mark r.sig) r) (subst (λ z. Unbroken (form_visits p (home p u i c) c j m.mark m.access z)) g (member_rules p u i c e j m f).inner);
    void = formed.own_makers i j r.sig (ap (option_and_then (λ (c : Class). option_and_then (λ (m : Member). form_sig m.form) (slice_get c.members j))) e ∙ (ap (option_and_then (λ (m : Member). form_sig m.form)) f ∙ ap form_sig g));
    inside = inner_at (in_class p c.name r) (Some (home p u i c)) m.mark c (home p u i c) refl e refl place (λ w. record { j = j; own = r.sig; declared = declared; role_is = refl; name_is = refl; mark_is = refl });
  })
    where
      declared : Declares c j r.sig
      declared = record { m = m; at = f; form = ap form_sig g }

      place : place_by p (in_class p c.name r) ≡ Some i
      place = class_place i c (in_class p c.name r) e refl (λ v. let k = left_is (rules.is_constructor r.sig.role) (is_empty_body r.body) (ap (is_event_member p c) (sym g) ∙ event_member p formed u i j c m e f v) in (rule_role r.sig.role k, class_name_is c.name r.sig (sig_rules p formed u i c j r.sig e declared).class_name (rule_plain r.sig.role k)))

  -- the statements of its body

  module _ (n : ℕ) (d : Defined) (e : slice_get (routines_of p) n ≡ Some d) (texts sites : ℕ) (s : Standing d) where
    abbrev scope : Scope
    scope = routine_scope p d.routine (place_by p d) n texts sites

    abbrev g : Sig
    g = routine_sig_in p d scope

    abbrev start : Env
    start = plain_env p (sig_around p s.home s.main s.mark d.routine.sig)

    abbrev inner : Env
    inner = with_params start d.routine.sig.params

    sig_unbroken : Unbroken (params_visits start d.routine.sig.params)
    sig_unbroken =
        let a : Unbroken (sig_visits start d.routine.sig) = first (sig_visits start d.routine.sig) (body_visits inner d.routine) s.visits in
        second (AtSig start d.routine.sig ∷ []) (params_visits start d.routine.sig.params) (second (base_visits start d.routine.sig) (AtSig start d.routine.sig ∷ params_visits start d.routine.sig.params) a)

    pub behind : IsBehind g scope
    behind =
        let a = params_one d.routine.sig.params start sig_unbroken in
        let b = map_length (param_ty p) d.routine.sig.params in
        record { cells = omega (arith, a, b); hidden = omega (arith, a, b) }

    pub routine_within : (sc : List Name) → Within t g sc inner (place_by p d) (params_known p 0 d.routine.sig.params)
    routine_within sc = params_within t g refl sc d.routine.sig.params 0 start (place_by p d) [] are sig_unbroken (record { rooted = rooted p formed u g d s.home s.main s.mark refl refl s.void s.at s.inside; alike = tt; stood = tt })
      where
        are : (k : ℕ) (x : Param) (c : ℕ) → 0 + k ≡ c → slice_get d.routine.sig.params k ≡ Some x → IsParam g.params c (param_ty p x) × (c ≤ LAST_ADDRESS)
        are k x c q f =
            let l : k ≡ c = omega (arith, q) in
            let w = is_within d.routine.sig.params k x f in
            let few = formed.params n d e in
            (subst (λ c. IsParam g.params c (param_ty p x)) l (is_param (param_ty p) d.routine.sig.params k x f), omega (arith, w, few, q))

    pub body_fine : (sc : List Name) → FineStmts t g sc (stmts_meant p d.routine.body scope)
    body_fine sc =
        let same = params_program d.routine.sig.params start in
        let all : Unbroken (AtInits inner d.routine.sig d.routine.inits ∷ (inits_visits inner None d.routine.inits ++ stmts_visits d.routine.body inner)) = second (sig_visits start d.routine.sig) (body_visits inner d.routine) s.visits in
        let v = second (inits_visits inner None d.routine.inits) (stmts_visits d.routine.body inner) (second (AtInits inner d.routine.sig d.routine.inits ∷ []) (inits_visits inner None d.routine.inits ++ stmts_visits d.routine.body inner) all) in
        subst (λ z. FineStmts t g sc (stmts_meant z d.routine.body scope)) same (law_statements t g d.routine.body sc inner scope (routine_within sc) behind (subst (λ z. Holds g (stmts_locals z d.routine.body scope)) (sym same) (λ k a m. m)) (formed.handlers n d e) v)

  -- fields of the object at hand

  module _ (i : ℕ) (c : Class) (e : class_at p i ≡ Some c) (g : Sig) (this : g.this ≡ Some i) where
    told : Told t p
    told = law_told p formed u

    -- a field of a class is built and destroyed at its place
    abbrev pub FieldFine : ℕ → ClassField → Type 0
    FieldFine number f = (m : Making) → field_making p f ≡ Some m → Making_is t g refl p m × (t.fields i number ≡ declared_ty (length_in_class p c i f) (making_ty t g refl m)) × ((sc : List Name) → Yields t g sc (field_place (class_shape p i) number tree.Own) (declared_ty (length_in_class p c i f) (raw (making_ty t g refl m))))

    abbrev pub AllFine : ℕ → List ClassField → Type 0
    AllFine number fs = (k n : ℕ) (f : ClassField) → number + k ≡ n → slice_get fs k ≡ Some f → FieldFine n f

    field_fine : (k : ℕ) (f : ClassField) → slice_get (fields_of c.members) k ≡ Some f → FieldFine (leading_cells c.kind + k) f
    field_fine k f at m h = by_ref f.declarator.by_ref refl h
      where
        r : FieldRules p (home p u i c) c f
        r = field_rules p u i c e k f at

        tells : TellsClass t p i c
        tells = told.classes i c e

        n : ℕ
        n = leading_cells c.kind + k

        is_made : making p f.base ≡ Some m → made r.sort ≡ Some m
        is_made q = sym (making_is p f.base r.sort r.base) ∙ q

        made_is : making p f.base ≡ Some m → Making_is t g refl p m × (making_ty t g refl m ≡ place_ty r.sort)
        made_is q = made_told t g refl p f.base r.sort m told (mutex_is p) r.base (is_made q)

        holds : f.declarator.by_ref ≡ false → (l : Option expr.Expr) → f.declarator.len ≡ l → (a : Ty) → a ≡ place_ty r.sort → t.fields i n ≡ declared_ty (tree.field_length (seen_in (constants_of p.items) c) f.declarator l) a
        holds w l q a s = by_length l (tells.fields k f r.sort at r.base ∙ (ap (λ b. field_ty b f.declarator.len (elements (seen_in (constants_of p.items) c) f.declarator) r.sort) w ∙ ap (λ l. field_ty false l (elements (seen_in (constants_of p.items) c) f.declarator) r.sort) q))
          where
            by_length : (l : Option expr.Expr) → t.fields i n ≡ field_ty false l (elements (seen_in (constants_of p.items) c) f.declarator) r.sort → t.fields i n ≡ declared_ty (tree.field_length (seen_in (constants_of p.items) c) f.declarator l) a
            by_length None z = z ∙ sym s
            by_length (Some x) z = z ∙ ap (Row (elements (seen_in (constants_of p.items) c) f.declarator)) (sym s)

        held : f.declarator.by_ref ≡ false → (l : Option expr.Expr) → f.declarator.len ≡ l → (a : Ty) → a ≡ place_ty r.sort → IsPlaced t a → (sc : List Name) → Yields t g sc (field_place (class_shape p i) n tree.Own) (declared_ty (tree.field_length (seen_in (constants_of p.items) c) f.declarator l) (raw a))
        held w l q a s placed sc = by_length l (tells.fields k f r.sort at r.base ∙ (ap (λ b. field_ty b f.declarator.len (elements (seen_in (constants_of p.items) c) f.declarator) r.sort) w ∙ ap (λ l. field_ty false l (elements (seen_in (constants_of p.items) c) f.declarator) r.sort) q))
          where
            by_length : (l : Option expr.Expr) → t.fields i n ≡ field_ty false l (elements (seen_in (constants_of p.items) c) f.declarator) r.sort → Yields t g sc (field_place (class_shape p i) n tree.Own) (declared_ty (tree.field_length (seen_in (constants_of p.items) c) f.declarator l) (raw a))
            by_length None z = (i, this, refl, subst (IsPlaced t) (s ∙ sym z) placed, inr (ap raw (s ∙ sym z)))
            by_length (Some x) z = (i, this, refl, subst (IsPlaced t) (sym z) tt, inr (ap (λ a. Row (elements (seen_in (constants_of p.items) c) f.declarator) (raw a)) s ∙ ap raw (sym z)))

        by_ref : (b : Bool) → f.declarator.by_ref ≡ b → (if b then None else making p f.base) ≡ Some m → Making_is t g refl p m × (t.fields i n ≡ declared_ty (length_in_class p c i f) (making_ty t g refl m)) × ((sc : List Name) → Yields t g sc (field_place (class_shape p i) n tree.Own) (declared_ty (length_in_class p c i f) (raw (making_ty t g refl m))))
        by_ref true w q = none_some q
        by_ref false w q =
            let x = made_is q in
            (x.0, holds w f.declarator.len refl (making_ty t g refl m) x.1, held w f.declarator.len refl (making_ty t g refl m) x.1 (whole_placed t g refl p m x.0))

    pub all_fine : AllFine (leading_cells c.kind) (fields_of c.members)
    all_fine k n f q at = subst (λ n. FieldFine n f) q (field_fine k f at)

    pub own_cleaned : (f : ClassField) (number : ℕ) (m : Making) → FieldFine number f → field_making p f ≡ Some m → Cleans t g (Own number) (clean_up p m (length_in_class p c i f) (field_place (class_shape p i) number tree.Own))
    own_cleaned f number m a q =
        let x = a m q in
        let place = field_place (class_shape p i) number tree.Own in
        (i, this, subst (λ z. CleansAt t z place (clean_up p m (length_in_class p c i f) place)) (sym x.1) (cleans_at t g refl p m (length_in_class p c i f) place x.0))

    one_left : (f : ClassField) (number : ℕ) (rest : Stmts) (o : Option Making) → field_making p f ≡ o → FieldFine number f → ((sc : List Name) → FineStmts t g sc rest) → (sc : List Name) → FineStmts t g sc (field_left p o (length_in_class p c i f) (field_place (class_shape p i) number tree.Own) rest)
    one_left f number rest None q a r sc = r sc
    one_left f number rest (Some m) q a r sc =
        let x = a m q in
        (Own number, own_cleaned f number m a q, r (Own number ∷ sc), clean_fine t g refl sc p m (length_in_class p c i f) (field_place (class_shape p i) number tree.Own) x.0 (x.2 sc))

    left_fine : (fs : List ClassField) (number : ℕ) (rest : Stmts) → AllFine number fs → ((sc : List Name) → FineStmts t g sc rest) → (sc : List Name) → FineStmts t g sc (fields_left p c i fs number rest)
    left_fine [] number rest a r sc = r sc
    left_fine (f ∷ fs) number rest a r sc =
        one_left f number (fields_left p c i fs (suc number) rest) (field_making p f) refl (a 0 number f (omega arith) refl) (left_fine fs (suc number) rest (λ k n f q at. a (suc k) n f (omega (arith, q)) at) r) sc

    pub executing : has_execution c.kind ≡ true → Executing t g
    executing h = (i, this, ap (of_kind has_execution) e ∙ h)

    pub in_mutex : IsInside g.inward → is_mutex c.kind ≡ true → InMutex t g
    in_mutex n h = (i, this, ap (of_kind is_mutex) e ∙ h, n)

    taken_fine : (b : Bool) → has_execution c.kind ≡ b → (rest : Stmts) → ((sc : List Name) → FineStmts t g sc rest) → (sc : List Name) → FineStmts t g sc (taken_down p b rest)
    taken_fine true q rest r sc = (executing q, r sc)
    taken_fine false q rest r sc = r sc

    forgotten_fine : (b : Bool) → has_execution c.kind ≡ b → (rest : Stmts) → ((sc : List Name) → FineStmts t g sc rest) → (sc : List Name) → FineStmts t g sc (forgotten p b rest)
    forgotten_fine true q rest r sc = (Kept, tt, r (Kept ∷ sc), executing q)
    forgotten_fine false q rest r sc = r sc

    ending_fine : (is_mutex c.kind ≡ true → IsInside g.inward) → (b : Bool) → is_mutex c.kind ≡ b → (rest : Stmts) → ((sc : List Name) → FineStmts t g sc rest) → (sc : List Name) → FineStmts t g sc (ending p b rest)
    ending_fine n true q rest r sc = (Kept, tt, r (Kept ∷ sc), in_mutex (n q) q)
    ending_fine n false q rest r sc = r sc

    pub destruction_fine : (is_mutex c.kind ≡ true → IsInside g.inward) → (body : Stmts) → ((sc : List Name) → FineStmts t g sc body) → (sc : List Name) → FineStmts t g sc (destruction p (Some c) i body)
    destruction_fine n body r sc =
        let taken = taken_down p (has_execution c.kind) body in
        let left = fields_left p c i (fields_of c.members) (leading_cells c.kind) taken in
        ending_fine n (is_mutex c.kind) refl (forgotten p (has_execution c.kind) left) (forgotten_fine (has_execution c.kind) refl left (left_fine (fields_of c.members) (leading_cells c.kind) taken all_fine (taken_fine (has_execution c.kind) refl body r))) sc
