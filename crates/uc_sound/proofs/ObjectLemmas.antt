-- Objects that are declared: what builds and what destroys them is in order, and behind the declarations their names agree.
use Rattle.std.proofs.Common.{◌≡◌, ℕ, ◌+◌, ◌≤◌, ◌++◌, inl, inr, List, [], ◌∷◌, length, Option, Some, None, Bool, true, false, refl, sym, ap, ◌∙◌, subst, arith, map}
use Rattle.std.specs.Prelude.{◌&&◌, ◌||◌, not, slice_get, nat_eq, is_some}
use Rattle.std.proofs.lemmas.Bool.{eqb-true}
use Rattle.uc_tree.specs.declared.kinds.Base.{Base}
use Rattle.uc_tree.specs.declared.kinds.Kind.{Kind}
use Rattle.uc_tree.specs.declared.kinds.Kind.TheVariants as kind
use Rattle.uc_tree.specs.declared.kinds.Param.{Param}
use Rattle.uc_tree.specs.declared.kinds.Role.TheVariants as role
use Rattle.uc_tree.specs.Expressions as expr
use Rattle.uc_tree.specs.Statements as stmt
use Rattle.uc_tree.specs.Statements.{Declarator, Start}
use Rattle.uc_tree.specs.Numbering.{is_event, is_mutex}
use Rattle.uc_tree.specs.Objects.{number_at, class_shape, written_at, Making, APlain, AMutex, ACluster, AProcessor}
use Rattle.uc_tree.specs.Programs.{Program}
use Rattle.uc_tree.specs.Source.{Expr, Variable, Element, Load, OfObject, Counted, NoExprs, Stmts}
use Rattle.uc_resolve.specs.Standings as tree
use Rattle.uc_resolve.specs.Standings.{params_of, args_by, args_meant, known_meant, value_in_scope}
use Rattle.uc_resolve.specs.Resolve.{Scope, declared_known, with_declared, with_all, length_of, start_args, all_declared, constructed, destroyed, called_by, made_by, ended_by, cluster_in, made_shape, counted_element, build, clean_up, objects_scoped}
use Rattle.uc_rules.specs.declared.rule.Rule.TheVariants.{S11, S16}
use Rattle.uc_rules.specs.declared.rules.Entity.{Entity}
use Rattle.uc_rules.specs.declared.rules.Entity.TheVariants as entity
use Rattle.uc_rules.specs.declared.rules.Sort.{Sort}
use Rattle.uc_rules.specs.declared.rules.Sort.TheVariants as sort
use Rattle.uc_rules.specs.declared.rules.Expected.TheVariants as expected_of
use Rattle.uc_rules.specs.declared.rules.Target.TheVariants as target
use Rattle.uc_rules.specs.Sorts.{is_scalar_sort, sort_of}
use Rattle.uc_rules.specs.Names.{constructor_params}
use Rattle.uc_rules.specs.Scopes.{Env, seen_as, declared, all_declared as env_declared}
use Rattle.uc_rules.specs.Entities.{entity_of, count, param_expected, fits}
use Rattle.uc_rules.specs.ExpressionBreaks.{is_value_start, are_single, started_breaks, starts_well, array_starts_well, is_element}
use Rattle.uc_rules.specs.Visits.{AtVariable, AtArgument, visits, maybe_visits, args_visits, arg_visits, start_values, single_target, variable_target, variable_visits, variables_visits}
use Rattle.uc_rules.specs.Breaks.{breaks_at}
use Rattle.uc_typing.specs.Typing.{Ty, Num, Cell, Obj, Raw, Row, Clu, Pro, Name, Var, Inward, Apart, Enters, Sig, Table, IsOpen, MayCall, raw, IsPlaced, Among, InScope, IsVariable, Yields, Fine, GiveAll, FineDeclared, FineClean, element_shape, DestroysAt, CleansAt, FineStmt, FineStmts, object_ty, IsBare}
use Rattle.uc_sound.specs.Agreement.{is_numbered, place_by, place_ty, param_ty, AreLike, Agrees, context}
use Rattle.uc_sound.specs.Unbroken.{Unbroken}
use Rattle.uc_sound.proofs.Ties.{some_same, none_some, false_true, scalar_unnumbered, law_agrees}
use Rattle.uc_sound.proofs.UnbrokenLemmas.{first, second, one, holds, stands}
use Rattle.uc_sound.proofs.Asking.{only, law_parts}
use Rattle.uc_sound.specs.Tables.{based_ty, declared_ty, declared_locals, role_inward}
use Rattle.uc_sound.specs.Told.{TellsMaker, Told}
use Rattle.uc_sound.specs.Rooted.{Within}
use Rattle.uc_sound.specs.Statements.{Holds}
use Rattle.uc_sound.proofs.Lists.{left_is, right_is, not_is}
use Rattle.uc_sound.proofs.ClassNames.{class_of_base}
use Rattle.uc_sound.proofs.DeclaringLemmas.{made_kind, made, Rules, variable_rules, no_void, name_agrees, name_stood, within_more, within_wider, raw_scalar, scalar_place, scalar_fine}
use Rattle.uc_sound.proofs.GivingLemmas.{tied, known}

module _ (t : Table) (g : Sig) (refers : t.refers ≡ true) where
  -- objects: what a sort makes has a place of its own, that of an object which is not whole yet

  -- the arguments of what builds it
  abbrev pub Given : List Name → Program → Making → List tree.Meant → Type 0
  Given sc p (APlain i) args = (r : ℕ) → written_at p i role.Constructor ≡ Some r → GiveAll t g sc (args_by (params_of p r) args) (t.routine r).params
  Given sc p (AMutex i) args = (r : ℕ) → written_at p i role.Constructor ≡ Some r → GiveAll t g sc (args_by (params_of p r) args) (t.routine r).params
  Given sc p ACluster args = Unit {0}
  Given sc p AProcessor args = Yields t g sc (cluster_in args) Clu

  -- and the table tells what builds and destroys it
  abbrev pub Making_is : Program → Making → Type 0
  Making_is p (APlain i) = TellsMaker t p i role.Constructor × TellsMaker t p i role.Destructor × (t.mutex i ≡ false) × (t.shape i ≡ class_shape p i)
  Making_is p (AMutex i) = TellsMaker t p i role.Constructor × TellsMaker t p i role.Destructor × (t.mutex i ≡ true) × (t.number i ≡ number_at p i)
  Making_is p ACluster = Unit {0}
  Making_is p AProcessor = Unit {0}

  -- what stands at its place
  abbrev pub making_ty : Making → Ty
  making_ty (APlain i) = Obj i
  making_ty (AMutex i) = Cell (Obj i)
  making_ty ACluster = Cell Clu
  making_ty AProcessor = Cell Pro

  like_none : (xs : List Param) (ys : List Ty) (p : Program) → AreLike p [] xs → map (param_ty p) xs ≡ ys → [] ≡ ys
  like_none [] ys p l e = e
  like_none (x ∷ xs) ys p l e = absurd l

  no_arguments : (xs : List Param) (ys : List Ty) (p : Program) → AreLike p [] xs → map (param_ty p) xs ≡ ys → (args : List tree.Meant) (sc : List Name) → GiveAll t g sc (args_by xs args) ys
  no_arguments [] ys p l e args sc = subst (GiveAll t g sc NoExprs) e tt
  no_arguments (x ∷ xs) ys p l e args sc = absurd l

  whole_ty : (w : Bool) (i : ℕ) (sc : List Name) (e : Expr) → w ≡ true → Yields t g sc e (Raw i) → Yields t g sc e (object_ty w i)
  whole_ty w i sc e q y = subst (λ w. Yields t g sc e (object_ty w i)) (sym q) y

  apart_open : {w : Inward} → w ≡ Apart → IsOpen w
  apart_open e = subst IsOpen (sym e) tt

  enters_open : {w : Inward} → w ≡ Enters → IsOpen w
  enters_open e = subst IsOpen (sym e) tt

  apart_called : {w : Inward} (e : Expr) → w ≡ Apart → MayCall w g e
  apart_called e q = subst (λ w. MayCall w g e) (sym q) tt

  pub constructed_fine : (sc : List Name) (p : Program) (m : Making) (place : Expr) (args : List tree.Meant) → Making_is p m → Yields t g sc place (raw (making_ty m)) → Given sc p m args → Fine t g sc (constructed p m place args)
  constructed_fine sc p (APlain i) place args k y a = by (written_at p i role.Constructor) refl
    where
      by : (o : Option ℕ) → written_at p i role.Constructor ≡ o → Fine t g sc (called_by p i role.Constructor place args o)
      by None e = (Num, (refl, (i, whole_ty _ i sc place (k.0.unwritten_whole e) y, k.0.unwritten_this e, k.0.unwritten_known e), k.0.unwritten_params e, apart_open (k.0.unwritten_inward e ∙ ap (role_inward role.Constructor) k.2)))
      by (Some r) e = (Num, (refl, (i, whole_ty _ i sc place (k.0.written_whole r e) y, (k.0.written r e).this, (k.0.written r e).known), a r e, apart_called place (k.0.written_inward r e ∙ ap (role_inward role.Constructor) k.2)))
  constructed_fine sc p (AMutex i) place args k y a = by (written_at p i role.Constructor) refl
    where
      by : (o : Option ℕ) → written_at p i role.Constructor ≡ o → Fine t g sc (made_by p i place args o)
      by None e = (Num, (refl, (i, y, k.0.unwritten_this e, k.0.unwritten_known e, k.0.unwritten_whole e, k.3, k.2), subst (GiveAll t g sc NoExprs) (k.0.unwritten_params e) tt, k.0.unwritten_inward e ∙ ap (role_inward role.Constructor) k.2))
      by (Some r) e = (Num, (refl, (i, y, (k.0.written r e).this, (k.0.written r e).known, k.0.written_whole r e, k.3, k.2), a r e, k.0.written_inward r e ∙ ap (role_inward role.Constructor) k.2))
  constructed_fine sc p ACluster place args k y a = (Clu, (y, refl))
  constructed_fine sc p AProcessor place args k y a = (Pro, (y, (refl, a)))

  pub destroyed_fine : (sc : List Name) (p : Program) (m : Making) (place : Expr) → Making_is p m → Yields t g sc place (raw (making_ty m)) → Fine t g sc (destroyed p m place)
  destroyed_fine sc p (APlain i) place k y = by (written_at p i role.Destructor) refl
    where
      by : (o : Option ℕ) → written_at p i role.Destructor ≡ o → Fine t g sc (called_by p i role.Destructor place [] o)
      by None e = (Num, (refl, (i, whole_ty _ i sc place (k.1.unwritten_whole e) y, k.1.unwritten_this e, k.1.unwritten_known e), k.1.unwritten_params e, apart_open (k.1.unwritten_inward e ∙ ap (role_inward role.Destructor) k.2)))
      by (Some r) e = (Num, (refl, (i, whole_ty _ i sc place (k.1.written_whole r e) y, (k.1.written r e).this, (k.1.written r e).known), no_arguments (params_of p r) (t.routine r).params p (k.1.written r e).params (k.1.written r e).table [] sc, apart_called place (k.1.written_inward r e ∙ ap (role_inward role.Destructor) k.2)))
  destroyed_fine sc p (AMutex i) place k y = by (written_at p i role.Destructor) refl
    where
      by : (o : Option ℕ) → written_at p i role.Destructor ≡ o → Fine t g sc (ended_by p i (Load place) o)
      by None e = (Num, (refl, (i, whole_ty _ i sc (Load place) (k.1.unwritten_whole e) (inr refers, y), k.1.unwritten_this e, k.1.unwritten_known e, k.2), k.1.unwritten_params e, enters_open (k.1.unwritten_inward e ∙ ap (role_inward role.Destructor) k.2)))
      by (Some r) e = (Num, (refl, (i, whole_ty _ i sc (Load place) (k.1.written_whole r e) (inr refers, y), (k.1.written r e).this, (k.1.written r e).known, k.2), like_none (params_of p r) (t.routine r).params p (k.1.written r e).params (k.1.written r e).table, enters_open (k.1.written_inward r e ∙ ap (role_inward role.Destructor) k.2)))
  destroyed_fine sc p ACluster place k y = (Num, (refl, (inr refers, y)))
  destroyed_fine sc p AProcessor place k y = (Num, (refl, (inr refers, y)))

  -- a clean-up destroys what stands at its place
  destroyed_at : (p : Program) (m : Making) (place : Expr) → Making_is p m → DestroysAt t (making_ty m) place (destroyed p m place)
  destroyed_at p (APlain i) place w = by (written_at p i role.Destructor) refl
    where
      by : (o : Option ℕ) → written_at p i role.Destructor ≡ o → DestroysAt t (Obj i) place (called_by p i role.Destructor place [] o)
      by None e = (refl, w.1.unwritten_this e, w.1.unwritten_whole e)
      by (Some r) e = (refl, (w.1.written r e).this, w.1.written_whole r e)
  destroyed_at p (AMutex i) place w = by (written_at p i role.Destructor) refl
    where
      by : (o : Option ℕ) → written_at p i role.Destructor ≡ o → DestroysAt t (Cell (Obj i)) place (ended_by p i (Load place) o)
      by None e = (refl, w.1.unwritten_this e, w.1.unwritten_whole e)
      by (Some r) e = (refl, (w.1.written r e).this, w.1.written_whole r e)
  destroyed_at p ACluster place w = refl
  destroyed_at p AProcessor place w = refl

  element_kept : (p : Program) (m : Making) → Making_is p m → made_shape p m ≡ element_shape t (making_ty m)
  element_kept p (APlain i) w = sym w.3
  element_kept p (AMutex i) w = refl
  element_kept p ACluster w = refl
  element_kept p AProcessor w = refl

  pub cleans_at : (p : Program) (m : Making) (l : Option ℕ) (place : Expr) → Making_is p m → CleansAt t (declared_ty l (making_ty m)) place (clean_up p m l place)
  cleans_at p m None place w = destroyed_at p m place w
  cleans_at p m (Some n) place w =
      (refl, subst (λ s. DestroysAt t (making_ty m) (Element n s place (OfObject Counted)) (destroyed p m (counted_element p m n place))) (element_kept p m w) (destroyed_at p m (counted_element p m n place) w))

  raw_placed : (p : Program) (m : Making) → Making_is p m → IsPlaced t (raw (making_ty m))
  raw_placed p (APlain i) w = w.2
  raw_placed p (AMutex i) w = tt
  raw_placed p ACluster w = tt
  raw_placed p AProcessor w = tt

  -- nothing is bound in what is not whole
  making_raw : (m : Making) → IsBare t (raw (making_ty m))
  making_raw (APlain i) = tt
  making_raw (AMutex i) = tt
  making_raw ACluster = tt
  making_raw AProcessor = tt

  making_bare : (l : Option ℕ) (m : Making) → IsBare t (declared_ty l (raw (making_ty m)))
  making_bare None m = making_raw m
  making_bare (Some n) m = making_raw m

  sort_raw : (s : Sort) → IsBare t (raw (place_ty s))
  sort_raw sort.Void = tt
  sort_raw sort.Int = tt
  sort_raw sort.Char = tt
  sort_raw sort.Bool = tt
  sort_raw sort.Condition = tt
  sort_raw sort.Cluster = tt
  sort_raw sort.Processor = tt
  sort_raw (sort.Object i k) = by (is_mutex k)
    where
      by : (b : Bool) → IsBare t (raw (place_by b (Obj i)))
      by true = tt
      by false = tt

  sort_bare : (l : Option ℕ) (s : Sort) → IsBare t (declared_ty l (raw (place_ty s)))
  sort_bare None s = sort_raw s
  sort_bare (Some n) s = sort_raw s

  declared_placed : (p : Program) (m : Making) (l : Option ℕ) → Making_is p m → IsPlaced t (declared_ty l (raw (making_ty m)))
  declared_placed p m None w = raw_placed p m w
  declared_placed p m (Some n) w = tt

  -- an element that is counted
  element_is : (sc : List Name) (p : Program) (m : Making) (n : ℕ) (place : Expr) → Making_is p m → Yields t g sc place (Row n (raw (making_ty m))) → Yields t g sc (counted_element p m n place) (raw (making_ty m))
  element_is sc p m n place w y = (raw_placed p m w, y, refl, inr (making_raw m))

  pub build_fine : (sc : List Name) (p : Program) (line : ℕ) (m : Making) (l : Option ℕ) (place : Expr) (args : List tree.Meant) → Making_is p m → Yields t g sc place (declared_ty l (raw (making_ty m))) → (l ≡ None → Given sc p m args) → (is_some l ≡ true → Given sc p m []) → FineStmt t g sc (build p line m l place args)
  build_fine sc p line m None place args w y a b = constructed_fine sc p m place args w y (a refl)
  build_fine sc p line m (Some n) place args w y a b =
      let e = element_is sc p m n place w y in
      (constructed_fine sc p m (counted_element p m n place) [] w e (b refl), destroyed_fine sc p m (counted_element p m n place) w e)

  pub clean_fine : (sc : List Name) (p : Program) (m : Making) (l : Option ℕ) (place : Expr) → Making_is p m → Yields t g sc place (declared_ty l (raw (making_ty m))) → FineClean t g sc (clean_up p m l place)
  clean_fine sc p m None place w y = destroyed_fine sc p m place w y
  clean_fine sc p m (Some n) place w y = destroyed_fine sc p m (counted_element p m n place) w (element_is sc p m n place w y)

  -- what a variable of a sort makes

  pub made_told : (p : Program) (b : Base) (so : Sort) (m : Making) → Told t p → ((b : Base) (c : ℕ) (k : Kind) → sort_of p b ≡ Some (sort.Object c k) → t.mutex c ≡ is_mutex k) → sort_of p b ≡ Some so → made so ≡ Some m → Making_is p m × (making_ty m ≡ place_ty so)
  made_told p b so m told classes h q = by so h q
    where
      plain : (i : ℕ) (k : Kind) → sort_of p b ≡ Some (sort.Object i k) → is_event k ≡ false → is_mutex k ≡ false → Making_is p (APlain i) × (Obj i ≡ place_by (is_mutex k) (Obj i))
      plain i k h v w =
          let c = class_of_base p b i k h in
          let e : is_event c.0.kind ≡ false = ap is_event c.2 ∙ v in
          ((told.makers i c.0 role.Constructor c.1 e refl, told.makers i c.0 role.Destructor c.1 e refl, classes b i k h ∙ w, (told.classes i c.0 c.1).shape), ap (λ z. place_by z (Obj i)) (sym w))

      mutex : (i : ℕ) (k : Kind) → sort_of p b ≡ Some (sort.Object i k) → is_event k ≡ false → is_mutex k ≡ true → Making_is p (AMutex i) × (Cell (Obj i) ≡ place_by (is_mutex k) (Obj i))
      mutex i k h v w =
          let c = class_of_base p b i k h in
          let e : is_event c.0.kind ≡ false = ap is_event c.2 ∙ v in
          ((told.makers i c.0 role.Constructor c.1 e refl, told.makers i c.0 role.Destructor c.1 e refl, classes b i k h ∙ w, told.numbers i), ap (λ z. place_by z (Obj i)) (sym w))

      as_made : (n : Making) (a : Ty) → Making_is p n × (making_ty n ≡ a) → Some n ≡ Some m → Making_is p m × (making_ty m ≡ a)
      as_made n a x e = subst (λ n. Making_is p n × (making_ty n ≡ a)) (some_same e) x

      by : (so : Sort) → sort_of p b ≡ Some so → made so ≡ Some m → Making_is p m × (making_ty m ≡ place_ty so)
      by sort.Void h q = none_some q
      by sort.Int h q = none_some q
      by sort.Char h q = none_some q
      by sort.Bool h q = none_some q
      by sort.Condition h q = none_some q
      by sort.Cluster h q = as_made ACluster (Cell Clu) (tt, refl) q
      by sort.Processor h q = as_made AProcessor (Cell Pro) (tt, refl) q
      by (sort.Object i kind.Class) h q = as_made (APlain i) (Obj i) (plain i kind.Class h refl refl) q
      by (sort.Object i kind.Coroutine) h q = as_made (APlain i) (Obj i) (plain i kind.Coroutine h refl refl) q
      by (sort.Object i kind.Monitor) h q = as_made (AMutex i) (Cell (Obj i)) (mutex i kind.Monitor h refl refl) q
      by (sort.Object i kind.Cormonitor) h q = as_made (AMutex i) (Cell (Obj i)) (mutex i kind.Cormonitor h refl refl) q
      by (sort.Object i kind.Task) h q = as_made (AMutex i) (Cell (Obj i)) (mutex i kind.Task h refl refl) q
      by (sort.Object i kind.Event) h q = none_some q

  -- without arguments

  pub no_args : (sc : List Name) (p : Program) (i r : ℕ) → TellsMaker t p i role.Constructor → written_at p i role.Constructor ≡ Some r → length (constructor_params p i) ≡ 0 → GiveAll t g sc (args_by (params_of p r) []) (t.routine r).params
  no_args sc p i r k w n =
      let l = k.written r w in
      no_arguments (params_of p r) (t.routine r).params p (subst (λ xs. AreLike p xs (params_of p r)) (none_of (constructor_params p i) n) l.params) l.table [] sc
    where
      none_of : (xs : List Param) → length xs ≡ 0 → xs ≡ []
      none_of [] h = refl
      none_of (x ∷ xs) h = let z : ⊥ = omega (arith, h) in absurd z

  pub element_by : (sc : List Name) (p : Program) (so : Sort) (m : Making) → made so ≡ Some m → Making_is p m → is_element p so ≡ true → Given sc p m []
  element_by sc p sort.Void m q k w = none_some q
  element_by sc p sort.Int m q k w = none_some q
  element_by sc p sort.Char m q k w = none_some q
  element_by sc p sort.Bool m q k w = none_some q
  element_by sc p sort.Condition m q k w = none_some q
  element_by sc p sort.Cluster m q k w = subst (λ m. Given sc p m []) (some_same q) tt
  element_by sc p sort.Processor m q k w = false_true w
  element_by sc p (sort.Object i c) m q k w = by_kind c q w
    where
      plain : Some (APlain i) ≡ Some m → nat_eq (length (constructor_params p i)) 0 ≡ true → Given sc p m []
      plain q w =
          let k1 : Making_is p (APlain i) = subst (Making_is p) (sym (some_same q)) k in
          subst (λ m. Given sc p m []) (some_same q) (λ r e. no_args sc p i r k1.0 e (eqb-true (length (constructor_params p i)) 0 w))

      mutex : Some (AMutex i) ≡ Some m → nat_eq (length (constructor_params p i)) 0 ≡ true → Given sc p m []
      mutex q w =
          let k1 : Making_is p (AMutex i) = subst (Making_is p) (sym (some_same q)) k in
          subst (λ m. Given sc p m []) (some_same q) (λ r e. no_args sc p i r k1.0 e (eqb-true (length (constructor_params p i)) 0 w))

      by_kind : (c : Kind) → made_kind i c ≡ Some m → (is_event c || nat_eq (length (constructor_params p i)) 0) ≡ true → Given sc p m []
      by_kind kind.Class q w = plain q w
      by_kind kind.Coroutine q w = plain q w
      by_kind kind.Monitor q w = mutex q w
      by_kind kind.Cormonitor q w = mutex q w
      by_kind kind.Task q w = mutex q w
      by_kind kind.Event q w = none_some q

  -- and what it is built with

  module _ (sc : List Name) (env : Env) (s : Scope) (h : Within t g sc env s.class s.names) where
    abbrev args_at : Start → List tree.Meant
    args_at x = start_args env.program s x

    constructor_args : (i r : ℕ) (es : expr.Exprs) → TellsMaker t env.program i role.Constructor → written_at env.program i role.Constructor ≡ Some r → count es ≡ length (constructor_params env.program i) → Unbroken (args_visits env es (target.Constructor i) 0) → GiveAll t g sc (args_by (params_of env.program r) (args_meant (context env s.class s.routine s.names) es)) (t.routine r).params
    constructor_args i r es k w n u =
        let l = k.written r w in
        subst (GiveAll t g sc (args_by (params_of env.program r) (args_meant (context env s.class s.routine s.names) es))) l.table ((law_parts t g sc env s.class s.routine s.names (tied t g sc env s.class s.routine s.names h) (known t g sc env s.class s.routine s.names h)).arguments es (target.Constructor i) (constructor_params env.program i) (params_of env.program r) n (λ z. ap (λ z. param_expected env.program (slice_get (constructor_params env.program i) z)) (let q : 0 + z ≡ z = omega arith in q)) l.params u)

    object_args : (i r : ℕ) (x : Start) → TellsMaker t env.program i role.Constructor → written_at env.program i role.Constructor ≡ Some r → is_value_start x ≡ false → count (start_values x) ≡ length (constructor_params env.program i) → Unbroken (args_visits env (start_values x) (target.Constructor i) 0) → GiveAll t g sc (args_by (params_of env.program r) (args_at x)) (t.routine r).params
    object_args i r stmt.NoStart k w v n u = constructor_args i r expr.NoExprs k w n u
    object_args i r (stmt.StartValue e) k w v n u = false_true (sym v)
    object_args i r (stmt.StartArgs es) k w v n u = constructor_args i r es k w n u

    -- a processor is given a cluster
    pub cluster_found : (w : Entity) (m : tree.Meant) → fits (expected_of.Reference sort.Cluster) w ≡ true → Agrees t g sc env.program w m → Yields t g sc m.expr Clu
    cluster_found (entity.Place sort.Cluster) m k a = a.0.0
    cluster_found (entity.Place sort.Void) m k a = false_true k
    cluster_found (entity.Place sort.Int) m k a = false_true k
    cluster_found (entity.Place sort.Char) m k a = false_true k
    cluster_found (entity.Place sort.Bool) m k a = false_true k
    cluster_found (entity.Place sort.Condition) m k a = false_true k
    cluster_found (entity.Place sort.Processor) m k a = false_true k
    cluster_found (entity.Place (sort.Object i c)) m k a = false_true k
    cluster_found _ m k a = false_true k

    cluster_arg : (e : expr.Expr) (es : expr.Exprs) → Unbroken (args_visits env (expr.MoreExprs e es) (target.Reference sort.Cluster) 0) → Yields t g sc (tree.meant (context env s.class s.routine s.names) e).expr Clu
    cluster_arg e es u =
        let here = first (arg_visits env e (expected_of.Reference sort.Cluster)) (args_visits env es (target.Reference sort.Cluster) (0 + 1)) u in
        let v = first (visits env e) _ here in
        let w = tied t g sc env s.class s.routine s.names h in
        let r = stands env (known t g sc env s.class s.routine s.names h) e v in
        let b : breaks_at (AtArgument (expr.expr_pos e) (expected_of.Reference sort.Cluster) (Some r.0)) ≡ [] = subst (λ o. breaks_at (AtArgument (expr.expr_pos e) (expected_of.Reference sort.Cluster) o) ≡ []) r.1 (one (AtArgument (expr.expr_pos e) (expected_of.Reference sort.Cluster) (entity_of env e)) (second (visits env e) _ here)) in
        cluster_found r.0 (tree.meant (context env s.class s.routine s.names) e) (holds (fits (expected_of.Reference sort.Cluster) r.0) S11 (expr.expr_pos e) _ b) (law_agrees t g sc env s.class s.routine s.names w e v r.0 r.1)

    processor_args : (x : Start) → is_value_start x ≡ false → count (start_values x) ≡ 1 → Unbroken (args_visits env (start_values x) (target.Reference sort.Cluster) 0) → Yields t g sc (cluster_in (args_at x)) Clu
    processor_args stmt.NoStart v n u = let z : ⊥ = omega (arith, n) in absurd z
    processor_args (stmt.StartValue e) v n u = false_true (sym v)
    processor_args (stmt.StartArgs expr.NoExprs) v n u = let z : ⊥ = omega (arith, n) in absurd z
    processor_args (stmt.StartArgs (expr.MoreExprs e es)) v n u = cluster_arg e es u

    -- by the sort

    single_by : (b : Base) (d : Declarator) (so : Sort) (m : Making) → made so ≡ Some m → Making_is env.program m → starts_well env.program (is_value_start d.start) (count (start_values d.start)) (are_single env (start_values d.start)) so ≡ true → Unbroken (args_visits env (start_values d.start) (single_target so) 0) → Given sc env.program m (args_at d.start)
    single_by b d sort.Void m q k w u = none_some q
    single_by b d sort.Int m q k w u = none_some q
    single_by b d sort.Char m q k w u = none_some q
    single_by b d sort.Bool m q k w u = none_some q
    single_by b d sort.Condition m q k w u = none_some q
    single_by b d sort.Cluster m q k w u = subst (λ m. Given sc env.program m (args_at d.start)) (some_same q) tt
    single_by b d sort.Processor m q k w u =
        subst (λ m. Given sc env.program m (args_at d.start)) (some_same q) (processor_args d.start (not_is (is_value_start d.start) (left_is (not (is_value_start d.start)) (nat_eq (count (start_values d.start)) 1) w)) (eqb-true (count (start_values d.start)) 1 (right_is (not (is_value_start d.start)) (nat_eq (count (start_values d.start)) 1) w)) u)
    single_by b d (sort.Object i c) m q k w u = by_kind c q w
      where
        n : ℕ
        n = length (constructor_params env.program i)

        well : (not (is_value_start d.start) && nat_eq (count (start_values d.start)) n) ≡ true → (is_value_start d.start ≡ false) × (count (start_values d.start) ≡ n)
        well w =
            (not_is (is_value_start d.start) (left_is (not (is_value_start d.start)) (nat_eq (count (start_values d.start)) n) w), eqb-true (count (start_values d.start)) n (right_is (not (is_value_start d.start)) (nat_eq (count (start_values d.start)) n) w))

        plain : Some (APlain i) ≡ Some m → (not (is_value_start d.start) && nat_eq (count (start_values d.start)) n) ≡ true → Given sc env.program m (args_at d.start)
        plain q w =
            let k1 : Making_is env.program (APlain i) = subst (Making_is env.program) (sym (some_same q)) k in
            subst (λ m. Given sc env.program m (args_at d.start)) (some_same q) (λ r e. object_args i r d.start k1.0 e (well w).0 (well w).1 u)

        mutex : Some (AMutex i) ≡ Some m → (not (is_value_start d.start) && nat_eq (count (start_values d.start)) n) ≡ true → Given sc env.program m (args_at d.start)
        mutex q w =
            let k1 : Making_is env.program (AMutex i) = subst (Making_is env.program) (sym (some_same q)) k in
            subst (λ m. Given sc env.program m (args_at d.start)) (some_same q) (λ r e. object_args i r d.start k1.0 e (well w).0 (well w).1 u)

        by_kind : (c : Kind) → made_kind i c ≡ Some m → (is_event c || (not (is_value_start d.start) && nat_eq (count (start_values d.start)) n)) ≡ true → Given sc env.program m (args_at d.start)
        by_kind kind.Class q w = plain q w
        by_kind kind.Coroutine q w = plain q w
        by_kind kind.Monitor q w = mutex q w
        by_kind kind.Cormonitor q w = mutex q w
        by_kind kind.Task q w = mutex q w
        by_kind kind.Event q w = none_some q

    -- of one declarator
    declarator_single : (b : Base) (d : Declarator) (so : Sort) (m : Making) → Rules env b d so → made so ≡ Some m → Making_is env.program m → Unbroken (args_visits env (start_values d.start) (variable_target d.len (sort_of env.program b)) 0) → d.len ≡ None → Given sc env.program m (args_at d.start)
    declarator_single b d so m r q k u l =
        let st = subst (λ l. started_breaks env.program l (is_value_start d.start) (count (start_values d.start)) (are_single env (start_values d.start)) d.pos (Some so) ≡ []) l r.starts in
        single_by b d so m q k (only (starts_well env.program (is_value_start d.start) (count (start_values d.start)) (are_single env (start_values d.start)) so) S16 d.pos st) (subst (λ o. Unbroken (args_visits env (start_values d.start) (variable_target None o) 0)) r.base (subst (λ l. Unbroken (args_visits env (start_values d.start) (variable_target l (sort_of env.program b)) 0)) l u))

    declarator_array : (b : Base) (d : Declarator) (so : Sort) (m : Making) (e : expr.Expr) → Rules env b d so → made so ≡ Some m → Making_is env.program m → d.len ≡ Some e → Given sc env.program m []
    declarator_array b d so m e r q k l =
        let st = subst (λ l. started_breaks env.program l (is_value_start d.start) (count (start_values d.start)) (are_single env (start_values d.start)) d.pos (Some so) ≡ []) l r.starts in
        let w = only (array_starts_well env.program (count (start_values d.start)) so) S16 d.pos st in
        element_by sc env.program so m q k (left_is (is_element env.program so) (nat_eq (count (start_values d.start)) 0) w)

  pub whole_placed : (p : Program) (m : Making) → Making_is p m → IsPlaced t (making_ty m)
  whole_placed p (APlain i) w = w.2
  whole_placed p (AMutex i) w = tt
  whole_placed p ACluster w = tt
  whole_placed p AProcessor w = tt

  -- lists of declarators

  raw_same : (s : Sort) → is_scalar_sort s ≡ true → raw (place_ty s) ≡ Cell Num
  raw_same s h = ap raw (scalar_place t g refers s h)

  local_here : (p : Program) (b : Base) (d : Declarator) (ds : List Declarator) (s : Scope) (so : Sort) → sort_of p b ≡ Some so → Holds g (declared_locals p b (d ∷ ds) s) → Among g.locals s.cells (declared_ty (length_of p d d.len) (raw (place_ty so)))
  local_here p b d ds s so k h = h s.cells (declared_ty (length_of p d d.len) (raw (place_ty so))) (inl (refl, ap (λ o. declared_ty (length_of p d d.len) (raw (based_ty o))) k))

  further : (p : Program) (b : Base) (d : Declarator) (ds : List Declarator) (s : Scope) → Holds g (declared_locals p b (d ∷ ds) s) → Holds g (declared_locals p b ds (with_declared p s b d))
  further p b d ds s h k a m = h k a (inr m)

  not_scalar_number : (so : Sort) → is_scalar_sort so ≡ true → is_numbered so ≡ true → {B : Type 0} → B
  not_scalar_number so k n {B} = false_true (sym (scalar_unnumbered so k) ∙ n)

  pub scalars : (sc : List Name) (b : Base) (so : Sort) (ds : List Declarator) (env : Env) (s : Scope) → Within t g sc env s.class s.names → length g.params ≤ s.cells → Holds g (declared_locals env.program b ds s) → sort_of env.program b ≡ Some so → made so ≡ None → Unbroken (variables_visits env b ds) → FineDeclared t g sc (all_declared env.program s b ds) × Within t g sc (env_declared env b ds) s.class (with_all env.program s b ds).names
  scalars sc b so [] env s h l held k m u = (tt, h)
  scalars sc b so (d ∷ ds) env s h l held k m u =
      let p = env.program in
      let here : Unbroken (variable_visits env b d) = first (variable_visits env b d) (variables_visits (declared env b d) b ds) u in
      let args : Unbroken (args_visits env (start_values d.start) (variable_target d.len (sort_of p b)) 0 ++ AtVariable env b d ∷ []) = second (maybe_visits env d.len) (args_visits env (start_values d.start) (variable_target d.len (sort_of p b)) 0 ++ AtVariable env b d ∷ []) here in
      let r = variable_rules env b d so k (one (AtVariable env b d) (second (args_visits env (start_values d.start) (variable_target d.len (sort_of p b)) 0) (AtVariable env b d ∷ []) args)) in
      let scalar = raw_scalar t g refers so m (no_void env b d so r) r.plain r.no_event in
      let v : IsVariable t g sc s.cells (declared_ty (length_of p d d.len) (raw (place_ty so))) = inr (inr (local_here p b d ds s so k held, sort_bare (length_of p d d.len) so)) in
      let vc : IsVariable t g sc s.cells (declared_ty (length_of p d d.len) (Cell Num)) = subst (λ a. IsVariable t g sc s.cells (declared_ty (length_of p d d.len) a)) (raw_same so scalar) v in
      let vp : IsVariable t g sc s.cells (declared_ty (length_of p d d.len) (place_ty so)) = subst (λ a. IsVariable t g sc s.cells (declared_ty (length_of p d d.len) a)) (sym (scalar_place t g refers so scalar)) vc in
      let placed : IsPlaced t (place_ty so) = subst (IsPlaced t) (sym (scalar_place t g refers so scalar)) tt in
      let a = name_agrees t g refers sc env s b d so r placed vp (λ n. not_scalar_number so scalar n) in
      let st = name_stood t g refers sc env s b d so r placed in
      let w = within_more t g refers sc env s.class s.names (seen_as env b d) (declared_known p s b d) refl a st h in
      let rest = scalars sc b so ds (declared env b d) (with_declared p s b d) w (omega (arith, l)) (further p b d ds s held) k m (second (variable_visits env b d) (variables_visits (declared env b d) b ds) u) in
      ((l, scalar_fine t g refers sc env s h b d so r scalar vc (first (args_visits env (start_values d.start) (variable_target d.len (sort_of p b)) 0) (AtVariable env b d ∷ []) args), rest.0), rest.1)

  -- objects, with what follows in their scope
  pub objects : (b : Base) (so : Sort) (m : Making) (line : ℕ) (rest : Stmts) (ds : List Declarator) (sc : List Name) (env : Env) (s : Scope) → Within t g sc env s.class s.names → length g.params ≤ s.cells → Holds g (declared_locals env.program b ds s) → sort_of env.program b ≡ Some so → made so ≡ Some m → Unbroken (variables_visits env b ds) → ((sc : List Name) → Within t g sc (env_declared env b ds) s.class (with_all env.program s b ds).names → FineStmts t g sc rest) → FineStmts t g sc (objects_scoped env.program m line b ds s rest)
  objects b so m line rest [] sc env s h l held k q u f = f sc h
  objects b so m line rest (d ∷ ds) sc env s h l held k q u f =
      let p = env.program in
      let here : Unbroken (variable_visits env b d) = first (variable_visits env b d) (variables_visits (declared env b d) b ds) u in
      let args : Unbroken (args_visits env (start_values d.start) (variable_target d.len (sort_of p b)) 0 ++ AtVariable env b d ∷ []) = second (maybe_visits env d.len) (args_visits env (start_values d.start) (variable_target d.len (sort_of p b)) 0 ++ AtVariable env b d ∷ []) here in
      let r = variable_rules env b d so k (one (AtVariable env b d) (second (args_visits env (start_values d.start) (variable_target d.len (sort_of p b)) 0) (AtVariable env b d ∷ []) args)) in
      let given = first (args_visits env (start_values d.start) (variable_target d.len (sort_of p b)) 0) (AtVariable env b d ∷ []) args in
      let told = made_told p b so m h.rooted.told h.rooted.classes k q in
      let len = length_of p d d.len in
      let x = Var s.cells (declared_ty len (making_ty m)) in
      let v : IsVariable t g sc s.cells (declared_ty len (raw (making_ty m))) = inr (inr (subst (λ a. Among g.locals s.cells (declared_ty len (raw a))) (sym told.1) (local_here p b d ds s so k held), making_bare len m)) in
      let y : Yields t g sc (Variable s.cells) (declared_ty len (raw (making_ty m))) = (v, declared_placed p m len told.0) in
      let wide = within_wider t g refers x sc env s.class s.names h in
      let scope : InScope (x ∷ sc) s.cells (declared_ty len (place_ty so)) = inl (refl, ap (declared_ty len) told.1) in
      let placed = subst (IsPlaced t) told.1 (whole_placed p m told.0) in
      let a = name_agrees t g refers (x ∷ sc) env s b d so r placed (inl scope) (λ n e. subst (λ z. InScope (x ∷ sc) s.cells (declared_ty z (place_ty so))) (ap (length_of p d) e) scope) in
      let st = name_stood t g refers (x ∷ sc) env s b d so r placed in
      let w = within_more t g refers (x ∷ sc) env s.class s.names (seen_as env b d) (declared_known p s b d) refl a st wide in
      let more = objects b so m line rest ds (x ∷ sc) (declared env b d) (with_declared p s b d) w (omega (arith, l)) (further p b d ds s held) k q (second (variable_visits env b d) (variables_visits (declared env b d) b ds) u) f in
      ((l, tt, tt), (build_fine sc p line m len (Variable s.cells) (start_args p s d.start) told.0 y (λ e. declarator_single sc env s h b d so m r q told.0 given (no_length p d d.len e)) (λ e. arrays sc env s h b d so m r q told.0 d.len refl e), (x, cleans_at p m len (Variable s.cells) told.0, more, clean_fine sc p m len (Variable s.cells) told.0 y)))
    where
      no_length : (p : Program) (d : Declarator) (l : Option expr.Expr) → length_of p d l ≡ None → l ≡ None
      no_length p d None e = refl
      no_length p d (Some x) e = absurd (cc)

      arrays : (sc : List Name) (env : Env) (s : Scope) → Within t g sc env s.class s.names → (b : Base) (d : Declarator) (so : Sort) (m : Making) → Rules env b d so → made so ≡ Some m → Making_is env.program m → (l : Option expr.Expr) → d.len ≡ l → is_some (length_of env.program d l) ≡ true → Given sc env.program m []
      arrays sc env s h b d so m r q w None e i = false_true i
      arrays sc env s h b d so m r q w (Some x) e i = declarator_array sc env s h b d so m x r q w e
