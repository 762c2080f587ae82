-- In the source of every program that breaks no rule what builds parts is called where the destructor that takes them over stands next.
use Rattle.std.proofs.Common.{◌≡◌, ℕ, zero, suc, ◌+◌, ◌++◌, ◌⊎◌, inl, inr, Bool, true, false, List, [], ◌∷◌, length, Option, Some, None, refl, sym, subst}
use Rattle.std.specs.Prelude.{slice_get, if◌then◌else◌}
use Rattle.uc_tree.specs.declared.kinds.Base.{Base}
use Rattle.uc_tree.specs.declared.kinds.Kind.{Kind}
use Rattle.uc_tree.specs.declared.kinds.Kind.TheVariants as kind
use Rattle.uc_tree.specs.declared.kinds.Param.{Param}
use Rattle.uc_tree.specs.declared.kinds.Role.{Role}
use Rattle.uc_tree.specs.declared.kinds.Role.TheVariants as role
use Rattle.uc_tree.specs.Cells.{leading_cells}
use Rattle.uc_tree.specs.Expressions as expr
use Rattle.uc_tree.specs.Gathered.{gathered_all}
use Rattle.uc_tree.specs.Numbering.{Defined, is_mutex, own_sites, own_texts, routines_of}
use Rattle.uc_tree.specs.Objects.{Making, APlain, AMutex, ACluster, AProcessor, making, ClassField, fields_of, has_execution, class_at, class_shape, shape_of, written_at, Unwritten, unwritten_of}
use Rattle.uc_tree.specs.Programs as whole
use Rattle.uc_tree.specs.Programs.{Program}
use Rattle.uc_tree.specs.Statements as stmt
use Rattle.uc_tree.specs.Statements.{Declarator}
use Rattle.uc_tree.specs.Source as src
use Rattle.uc_tree.specs.Source.{Shape, Expr, Exprs, ObjectExpr, CleanUp, Stmt, Stmts, Clauses, Purpose, Routine}
use Rattle.uc_resolve.specs.Standings as tree
use Rattle.uc_resolve.specs.Standings.{Meant}
use Rattle.uc_resolve.specs.Resolve as meaning
use Rattle.uc_resolve.specs.Resolve.{Scope, source_of}
use Rattle.uc_rules.specs.ProgramVisits.{program_visits}
use Rattle.uc_sound.specs.SoundFormed.{IsFormed}
use Rattle.uc_sound.specs.Tables.{table_of}
use Rattle.uc_sound.specs.Unbroken.{Unbroken}
use Rattle.uc_sound.proofs.Lookups.{IsPlainClass, IsObjectClass, MakesPlain, making_plain}
use Rattle.uc_place_laws.specs.Opened.{role_number}
use Rattle.uc_putting_laws.specs.Calling as calling
use Rattle.uc_putting_laws.specs.PuttingLaws.{special_of}
use Rattle.uc_putting_laws.proofs.Expressions as expressions
use Rattle.uc_putting_laws.proofs.Expressions.{AllMeant}
use Rattle.uc_putting_laws.proofs.Statements as statements
use Rattle.uc_parts_laws.specs.Undoing.{Undoes, BuildsNone, PlainExpr, PlainExprs, PlainMaybe, PlainItems, PlainTargets, PlainDeclared, PlainClean, PlainRaised, IsUndoneAt, IsEndedAt, IsLocus, IsCounted, Opens, BuildsIn, BuildsEach, UndoingStmt, UndoingStmts, UndoingHandlers, UndoingClauses, UndoingRoutine, UndoingSource}
use Rattle.uc_parts_laws.proofs.Undoings.{undoes, destroys_only, as_mutex, event_builds}

no_both : {A : Type 0} (b : Bool) → b ≡ true → b ≡ false → A
no_both b h k = absurd (cc)

module _ (p : Program) where
  abbrev Plain : Expr → Type 0
  Plain e = PlainExpr (source_of p) (special_of p) e

  abbrev Plains : Exprs → Type 0
  Plains es = PlainExprs (source_of p) (special_of p) es

  abbrev Ordinary : Expr → Type 0
  Ordinary e = calling.PlainExpr (table_of p) (source_of p) (special_of p) e

  abbrev Ordinaries : Exprs → Type 0
  Ordinaries es = calling.PlainExprs (table_of p) (source_of p) (special_of p) es

  -- what is no constructor and no destructor builds nothing
  none : (r : ℕ) → special_of p r ≡ false → BuildsNone (source_of p) (special_of p) r
  none r e = λ q x is. no_both (special_of p r) q e

  mutual
    plain : (e : Expr) → Ordinary e → Plain e
    plain (src.Literal n) h = tt
    plain (src.Variable k) h = tt
    plain (src.Element n s e i) h = (plain e h.0, plain i h.1)
    plain (src.Get k) h = tt
    plain (src.Load e) h = plain e h
    plain (src.Negated e) h = plain e h
    plain (src.Not e) h = plain e h
    plain (src.AsCharacter e) h = plain e h
    plain (src.AsTruth e) h = plain e h
    plain (src.Operate op e f) h = (plain e h.0, plain f h.1)
    plain (src.And e f) h = (plain e h.0, plain f h.1)
    plain (src.Or e f) h = (plain e h.0, plain f h.1)
    plain (src.Set k e) h = plain e h
    plain (src.Assign q e) h = (plain q h.0, plain e h.1)
    plain (src.First e f) h = (plain e h.0, plain f h.1)
    plain (src.Update op s q e) h = (plain q h.0, plain e h.1)
    plain (src.StepBehind op s q) h = plain q h
    plain src.Fail h = tt
    plain (src.Call r args) h = (none r h.0, plains args h.1)
    plain (src.OfObject o) h = object o h

    plains : (es : Exprs) → Ordinaries es → Plains es
    plains src.NoExprs h = tt
    plains (src.MoreExprs e es) h = (plain e h.0, plains es h.1)

    object : (o : ObjectExpr) → Ordinary (src.OfObject o) → Plain (src.OfObject o)
    object src.This h = (tt, tt)
    object (src.OwnField s i) h = (tt, tt)
    object (src.GetOwn s i) h = (tt, tt)
    object (src.FieldOf s i e) h = (tt, plain e h.1)
    object src.Counted h = (tt, tt)
    object (src.CallOn r e args) h = (none r h.0, (plain e h.1.0, plains args h.1.1))
    object (src.CallLive r e args) h = (none r h.0, (plain e h.1.0, plains args h.1.1))
    object (src.CallUnwritten r e) h = (none r h.0, plain e h.1)
    object (src.EnterOn m r e args) h = (none r h.0, (plain e h.1.0, plains args h.1.1))
    object (src.ConditionAt k n e) h = (tt, plain e h.1)
    object (src.Wait e f) h = (tt, (plain e h.1.0, plain f h.1.1))
    object (src.Signal e) h = (tt, plain e h.1)
    object (src.SignalBlock e) h = (tt, plain e h.1)
    object (src.IsEmpty e) h = (tt, plain e h.1)
    object (src.FrontOf e) h = (tt, plain e h.1)
    object o h = absurd h.0

  -- without arguments there are none
  no_args : (xs : List Param) → Plains (tree.args_by xs [])
  no_args [] = tt
  no_args (x ∷ xs) = tt

  locus_plain : (e : Expr) → IsLocus e → Plain e
  locus_plain (src.Variable k) l = tt
  locus_plain (src.OfObject (src.OwnField s i)) l = (tt, tt)
  locus_plain e l = absurd l

  counted_is : (n : ℕ) (z : Shape) (e : Expr) → IsLocus e → IsCounted (src.Element n z e (src.OfObject src.Counted))
  counted_is n z (src.Variable k) l = tt
  counted_is n z (src.OfObject (src.OwnField s i)) l = tt
  counted_is n z e l = absurd l

module _ (p : Program) (formed : IsFormed p) (u : Unbroken (program_visits p)) where
  -- objects

  args_plain : (r : ℕ) (args : List Meant) → AllMeant p args → Plains p (tree.args_by (tree.params_of p r) args)
  args_plain r args k = plains p (tree.args_by (tree.params_of p r) args) (expressions.args_by p (tree.params_of p r) args k)

  cluster_in : (args : List Meant) → AllMeant p args → Plain p (meaning.cluster_in args)
  cluster_in [] h = tt
  cluster_in (m ∷ ms) h = plain p m.expr h.0.expr

  -- what destroys an object at the place at which it is built undoes that
  undone : (i : ℕ) → IsPlainClass p i → (x y : Option ℕ) → written_at p i role.Constructor ≡ x → written_at p i role.Destructor ≡ y → (place : Expr) → IsUndoneAt (source_of p) (special_of p) (role_number p i role.Constructor x) place (meaning.called_by p i role.Destructor place [] y)
  undone i c x y e f place = by y (subst (λ b. Undoes (source_of p) (special_of p) b (role_number p i role.Constructor x) (role_number p i role.Destructor y)) c.plain (undoes p formed u i c.class c.at c.object x y e f))
    where
      args : (xs : List Param) (d : ℕ) → Undoes (source_of p) (special_of p) false (role_number p i role.Constructor x) d → IsUndoneAt (source_of p) (special_of p) (role_number p i role.Constructor x) place (src.OfObject (src.CallOn d place (tree.args_by xs [])))
      args [] d h = (refl, h)
      args (z ∷ xs) d h = (refl, h)

      by : (y : Option ℕ) → Undoes (source_of p) (special_of p) false (role_number p i role.Constructor x) (role_number p i role.Destructor y) → IsUndoneAt (source_of p) (special_of p) (role_number p i role.Constructor x) place (meaning.called_by p i role.Destructor place [] y)
      by None h = (refl, h)
      by (Some d) h = args (tree.params_of p d) d h

  ended : (i : ℕ) → IsObjectClass p i → (x y : Option ℕ) → written_at p i role.Constructor ≡ x → written_at p i role.Destructor ≡ y → (place : Expr) → IsEndedAt (source_of p) (special_of p) (role_number p i role.Constructor x) place (meaning.ended_by p i (src.Load place) y)
  ended i c x y e f place = by y (as_mutex p (is_mutex c.class.kind) (role_number p i role.Constructor x) (role_number p i role.Destructor y) (undoes p formed u i c.class c.at c.object x y e f))
    where
      by : (y : Option ℕ) → Undoes (source_of p) (special_of p) true (role_number p i role.Constructor x) (role_number p i role.Destructor y) → IsEndedAt (source_of p) (special_of p) (role_number p i role.Constructor x) place (meaning.ended_by p i (src.Load place) y)
      by None h = (refl, h)
      by (Some d) h = (refl, h)

  -- it builds nothing itself
  called_plain : (i : ℕ) → IsPlainClass p i → (y : Option ℕ) → written_at p i role.Destructor ≡ y → (place : Expr) → Plain p place → Plain p (meaning.called_by p i role.Destructor place [] y)
  called_plain i c None f place h = (destroys_only p formed u i c.class c.at c.object None f, h)
  called_plain i c (Some d) f place h = (destroys_only p formed u i c.class c.at c.object (Some d) f, (h, no_args p (tree.params_of p d)))

  ended_plain : (i : ℕ) → IsObjectClass p i → (y : Option ℕ) → written_at p i role.Destructor ≡ y → (place : Expr) → Plain p place → Plain p (meaning.ended_by p i (src.Load place) y)
  ended_plain i c None f place h = (destroys_only p formed u i c.class c.at c.object None f, h)
  ended_plain i c (Some d) f place h = (destroys_only p formed u i c.class c.at c.object (Some d) f, h)

  destroyed_plain : (m : Making) → MakesPlain p (Some m) → (place : Expr) → Plain p place → Plain p (meaning.destroyed p m place)
  destroyed_plain (APlain i) c place h = called_plain i c (written_at p i role.Destructor) refl place h
  destroyed_plain (AMutex i) c place h = ended_plain i c (written_at p i role.Destructor) refl place h
  destroyed_plain ACluster c place h = (tt, h)
  destroyed_plain AProcessor c place h = (tt, h)

  clean_plain : (m : Making) → MakesPlain p (Some m) → (len : Option ℕ) (place : Expr) → IsLocus place → PlainClean (source_of p) (special_of p) (meaning.clean_up p m len place)
  clean_plain m c None place l = destroyed_plain m c place (locus_plain p place l)
  clean_plain m c (Some n) place l = destroyed_plain m c (meaning.counted_element p m n place) (locus_plain p place l, (tt, tt))

  -- what builds an object at a place, where what destroys it opens next
  module _ (place : Expr) (l : IsLocus place) (ss : Stmts) (m : Making) (opens : (P : Expr → Type 0) → P (meaning.destroyed p m place) → Opens P ss) where
    by_call : (i : ℕ) → m ≡ APlain i → IsPlainClass p i → (args : List Meant) → AllMeant p args → (x : Option ℕ) → written_at p i role.Constructor ≡ x → BuildsIn (source_of p) (special_of p) ss (meaning.called_by p i role.Constructor place args x)
    by_call i e c args k None q = (l, opens (IsUndoneAt (source_of p) (special_of p) (role_number p i role.Constructor None) place) (subst (λ m. IsUndoneAt (source_of p) (special_of p) (role_number p i role.Constructor None) place (meaning.destroyed p m place)) (sym e) (undone i c None (written_at p i role.Destructor) q refl place)))
    by_call i e c args k (Some r) q = (args_plain r args k, (l, opens (IsUndoneAt (source_of p) (special_of p) r place) (subst (λ m. IsUndoneAt (source_of p) (special_of p) r place (meaning.destroyed p m place)) (sym e) (undone i c (Some r) (written_at p i role.Destructor) q refl place))))

    by_make : (i : ℕ) → m ≡ AMutex i → IsObjectClass p i → (args : List Meant) → AllMeant p args → (x : Option ℕ) → written_at p i role.Constructor ≡ x → BuildsIn (source_of p) (special_of p) ss (meaning.made_by p i place args x)
    by_make i e c args k None q = (tt, (l, opens (IsEndedAt (source_of p) (special_of p) (role_number p i role.Constructor None) place) (subst (λ m. IsEndedAt (source_of p) (special_of p) (role_number p i role.Constructor None) place (meaning.destroyed p m place)) (sym e) (ended i c None (written_at p i role.Destructor) q refl place))))
    by_make i e c args k (Some r) q = (args_plain r args k, (l, opens (IsEndedAt (source_of p) (special_of p) r place) (subst (λ m. IsEndedAt (source_of p) (special_of p) r place (meaning.destroyed p m place)) (sym e) (ended i c (Some r) (written_at p i role.Destructor) q refl place))))

  constructed : (place : Expr) → IsLocus place → (ss : Stmts) (m : Making) → ((P : Expr → Type 0) → P (meaning.destroyed p m place) → Opens P ss) → MakesPlain p (Some m) → (args : List Meant) → AllMeant p args → Plain p (meaning.constructed p m place args) ⊎ BuildsIn (source_of p) (special_of p) ss (meaning.constructed p m place args)
  constructed place l ss (APlain i) f c args k = inr (by_call place l ss (APlain i) f i refl c args k (written_at p i role.Constructor) refl)
  constructed place l ss (AMutex i) f c args k = inr (by_make place l ss (AMutex i) f i refl c args k (written_at p i role.Constructor) refl)
  constructed place l ss ACluster f c args k = inl (tt, (locus_plain p place l, (tt, tt)))
  constructed place l ss AProcessor f c args k = inl (tt, (locus_plain p place l, (tt, cluster_in args k)))

  -- the elements of an array
  each_call : (i : ℕ) → IsPlainClass p i → (e : Expr) → IsCounted e → (x : Option ℕ) → written_at p i role.Constructor ≡ x → BuildsEach (source_of p) (special_of p) (meaning.destroyed p (APlain i) e) (meaning.called_by p i role.Constructor e [] x)
  each_call i c e l None q = (l, undone i c None (written_at p i role.Destructor) q refl e)
  each_call i c e l (Some r) q = (no_args p (tree.params_of p r), (l, undone i c (Some r) (written_at p i role.Destructor) q refl e))

  each_make : (i : ℕ) → IsObjectClass p i → (e : Expr) → IsCounted e → (x : Option ℕ) → written_at p i role.Constructor ≡ x → BuildsEach (source_of p) (special_of p) (meaning.destroyed p (AMutex i) e) (meaning.made_by p i e [] x)
  each_make i c e l None q = (tt, (l, ended i c None (written_at p i role.Destructor) q refl e))
  each_make i c e l (Some r) q = (no_args p (tree.params_of p r), (l, ended i c (Some r) (written_at p i role.Destructor) q refl e))

  fills : (m : Making) → MakesPlain p (Some m) → (n : ℕ) (place : Expr) → IsLocus place → Plain p (meaning.constructed p m (meaning.counted_element p m n place) []) ⊎ BuildsEach (source_of p) (special_of p) (meaning.destroyed p m (meaning.counted_element p m n place)) (meaning.constructed p m (meaning.counted_element p m n place) [])
  fills (APlain i) c n place l = inr (each_call i c (meaning.counted_element p (APlain i) n place) (counted_is p n (meaning.made_shape p (APlain i)) place l) (written_at p i role.Constructor) refl)
  fills (AMutex i) c n place l = inr (each_make i c (meaning.counted_element p (AMutex i) n place) (counted_is p n (meaning.made_shape p (AMutex i)) place l) (written_at p i role.Constructor) refl)
  fills ACluster c n place l = inl (tt, ((locus_plain p place l, (tt, tt)), (tt, tt)))
  fills AProcessor c n place l = inl (tt, ((locus_plain p place l, (tt, tt)), (tt, tt)))

  build : (line : ℕ) (m : Making) (len : Option ℕ) (place : Expr) (args : List Meant) (ss : Stmts) → IsLocus place → MakesPlain p (Some m) → AllMeant p args → (len ≡ None → (P : Expr → Type 0) → P (meaning.destroyed p m place) → Opens P ss) → UndoingStmt (source_of p) (special_of p) ss (meaning.build p line m len place args)
  build line m None place args ss l c k f = constructed place l ss m (f refl) c args k
  build line m (Some n) place args ss l c k f = (fills m c n place l, destroyed_plain m c (meaning.counted_element p m n place) (locus_plain p place l, (tt, tt)))

  opens_scope : (m : Making) (len : Option ℕ) (place : Expr) (rest : Stmts) → len ≡ None → (P : Expr → Type 0) → P (meaning.destroyed p m place) → Opens P (src.Scoped (meaning.clean_up p m len place) rest)
  opens_scope m None place rest e P h = h
  opens_scope m (Some n) place rest e P h = absurd (cc)

  opens_part : (m : Making) (len : Option ℕ) (place : Expr) (rest : Stmts) → len ≡ None → (P : Expr → Type 0) → P (meaning.destroyed p m place) → Opens P (src.Built (meaning.clean_up p m len place) rest)
  opens_part m None place rest e P h = h
  opens_part m (Some n) place rest e P h = absurd (cc)

  -- expressions in a scope

  meant : (s : Scope) (e : expr.Expr) → Plain p (tree.meant (meaning.context_at p s) e).expr
  meant s e = plain p (tree.meant (meaning.context_at p s) e).expr (statements.meant p formed u s e).expr

  value : (s : Scope) (e : expr.Expr) → Plain p (tree.value_in_scope (meaning.context_at p s) e)
  value s e = plain p (tree.value_in_scope (meaning.context_at p s) e) (statements.value p formed u s e)

  converted : (k : Shape) (s : Scope) (e : expr.Expr) → Plain p (tree.converted k (tree.value_in_scope (meaning.context_at p s) e))
  converted k s e = plain p (tree.converted k (tree.value_in_scope (meaning.context_at p s) e)) (expressions.converted p k (tree.value_in_scope (meaning.context_at p s) e) (statements.value p formed u s e))

  -- parts of statements

  items : (s : Scope) (texts : ℕ) (os : List stmt.OutItem) → PlainItems (source_of p) (special_of p) (meaning.items_meant (meaning.context_at p s) texts os)
  items s texts [] = tt
  items s texts (stmt.Endl sign ∷ os) = (tt, items s texts os)
  items s texts (stmt.Literal sign text ∷ os) = (tt, items s (texts + 1) os)
  items s texts (stmt.Printed sign e ∷ os) = (value s e, items s texts os)

  targets : (s : Scope) (es : expr.Exprs) → PlainTargets (source_of p) (special_of p) (meaning.targets_meant (meaning.context_at p s) es)
  targets s expr.NoExprs = tt
  targets s (expr.MoreExprs e es) = (meant s e, targets s es)

  start : (s : Scope) (k : Shape) (x : stmt.Start) → PlainMaybe (source_of p) (special_of p) (meaning.start_meant (meaning.context_at p s) k x)
  start s k stmt.NoStart = tt
  start s k (stmt.StartValue e) = converted k s e
  start s k (stmt.StartArgs expr.NoExprs) = tt
  start s k (stmt.StartArgs (expr.MoreExprs e es)) = converted k s e

  declared : (s : Scope) (b : Base) (ds : List Declarator) → PlainDeclared (source_of p) (special_of p) (meaning.all_declared p s b ds)
  declared s b [] = tt
  declared s b (d ∷ ds) = (start s (shape_of b) d.start, declared (meaning.with_declared p s b d) b ds)

  start_args : (s : Scope) (x : stmt.Start) → AllMeant p (meaning.start_args p s x)
  start_args s stmt.NoStart = tt
  start_args s (stmt.StartValue e) = tt
  start_args s (stmt.StartArgs es) = statements.args p formed u s es

  -- events

  built_event : (s : Scope) (n : ℕ) (name : List ℕ) (r : Option ℕ) (ms : List Meant) → meaning.event_constructor p name ≡ r → AllMeant p ms → PlainRaised (source_of p) (special_of p) (meaning.built_event p s n r ms)
  built_event s n name None ms e k = tt
  built_event s n name (Some r) ms e k = (event_builds p formed u r name e, (tt, args_plain r ms k))

  raised : (s : Scope) (r : Option stmt.Raised) → PlainRaised (source_of p) (special_of p) (meaning.raised_meant p s r)
  raised s None = tt
  raised s (Some r) = built_event s (meaning.number_of_event p r.name) r.name (meaning.event_constructor p r.name) (tree.args_meant (meaning.context_at p s) r.args) refl (statements.args p formed u s r.args)

  test : (s : Scope) (e : Option expr.Expr) → Plain p (meaning.test_of p s e)
  test s None = tt
  test s (Some e) = value s e

  step : (s : Scope) (e : Option expr.Expr) → PlainMaybe (source_of p) (special_of p) (meaning.step_of p s e)
  step s None = tt
  step s (Some e) = meant s e

  returned : (s : Scope) (e : Option expr.Expr) → PlainMaybe (source_of p) (special_of p) (meaning.return_meant p s e)
  returned s None = tt
  returned s (Some e) = converted (shape_of (tree.result_of p s.routine)) s e

  -- statements

  abbrev Fine : Stmts → Type 0
  Fine ss = UndoingStmts (source_of p) (special_of p) ss

  -- before any others
  abbrev Alone : Stmt → Type 0
  Alone a = (ss : Stmts) → UndoingStmt (source_of p) (special_of p) ss a

  objects : (m : Making) (line : ℕ) (b : Base) (ds : List Declarator) (s : Scope) (rest : Stmts) → MakesPlain p (Some m) → Fine rest → Fine (meaning.objects_scoped p m line b ds s rest)
  objects m line b [] s rest c h = h
  objects m line b (d ∷ ds) s rest c h =
      let len : Option ℕ = meaning.length_of p d d.len in
      let place : Expr = src.Variable s.cells in
      let later : Stmts = meaning.objects_scoped p m line b ds (meaning.with_declared p s b d) rest in
      ((tt, tt), (build line m len place (meaning.start_args p s d.start) (src.Scoped (meaning.clean_up p m len place) later) tt c (start_args s d.start) (opens_scope m len place later), (clean_plain m c len place tt, objects m line b ds (meaning.with_declared p s b d) rest c h)))

  declared_then : (b : Base) (m : Option Making) (line : ℕ) (ds : List Declarator) (s : Scope) (rest : Stmts) → MakesPlain p m → Fine rest → Fine (meaning.declared_then p m line b ds s rest)
  declared_then b None line ds s rest c h = (declared s b ds, h)
  declared_then b (Some m) line ds s rest c h = objects m line b ds s rest c h

  declared_alone : (b : Base) (m : Option Making) (line : ℕ) (ds : List Declarator) (s : Scope) → MakesPlain p m → Alone (meaning.declared_alone p m line b ds s)
  declared_alone b None line ds s c = λ ss. declared s b ds
  declared_alone b (Some m) line ds s c = λ ss. objects m line b ds s src.Nil c tt

  start_then : (line : ℕ) (x : stmt.ForStart) (s : Scope) (rest : Stmts) → Fine rest → Fine (meaning.start_then p line x s rest)
  start_then line stmt.NoFor s rest h = (tt, h)
  start_then line (stmt.ForDeclare place b ds) s rest h = declared_then b (making p b) line ds s rest (making_plain p b) h
  start_then line (stmt.ForEvaluate e) s rest h = (inl (meant s e), h)

  stmt_then : (t : stmt.Stmt) (s : Scope) (a : Stmt) (rest : Stmts) → Alone a → Fine rest → Fine (meaning.stmt_then p t s a rest)
  stmt_then (stmt.Declare place b ds) s a rest n h = declared_then b (making p b) place.line ds s rest (making_plain p b) h
  stmt_then t s a rest n h = (n rest, h)

  mutual
    one : (t : stmt.Stmt) (s : Scope) → Alone (meaning.stmt_meant p t s)
    one (stmt.Block place body) s ss = all body s
    one (stmt.Empty place) s ss = tt
    one (stmt.Evaluate place e) s ss = inl (meant s e)
    one (stmt.Declare place b ds) s ss = declared_alone b (making p b) place.line ds s (making_plain p b) ss
    one (stmt.Print place os) s ss = items s s.texts os
    one (stmt.PrintTogether place os) s ss = items s s.texts os
    one (stmt.Read place es) s ss = targets s es
    one (stmt.If place e chosen other) s ss = (value s e, one chosen s src.Nil, maybe other (meaning.scope_past p chosen s) src.Nil)
    one (stmt.While place e body) s ss = (value s e, tt, one body s src.Nil)
    one (stmt.Do place body e) s ss = (value s e, tt, one body s src.Nil)
    one (stmt.For place x e f body) s ss =
        let inner : Scope = meaning.for_scope p x s in
        start_then place.line x s (src.Then (src.Loop place.line (meaning.order_of p e) (meaning.test_of p inner e) (meaning.step_of p inner f) (meaning.stmt_meant p body inner)) src.Nil) ((test inner e, step inner f, one body inner src.Nil), tt)
    one (stmt.Break place) s ss = tt
    one (stmt.Continue place) s ss = tt
    one (stmt.Return place e) s ss = returned s e
    one (stmt.Throw place r) s ss = raised s r
    one (stmt.Raise place r) s ss = raised s r
    one (stmt.Try place brace body hs) s ss = ((all body s, tt), handlers hs (meaning.scope_past_all p body s))
    one (stmt.Resume place) s ss = tt
    one (stmt.Suspend place) s ss = tt
    one (stmt.RaiseAt place r target) s ss = (raised s (Some r), meant s target)
    one (stmt.Enable place events body) s ss = one body (meaning.within_events p s) src.Nil
    one (stmt.Disable place events body) s ss = one body (meaning.within_events p s) src.Nil
    one (stmt.Yield place) s ss = tt
    one (stmt.Migrate place cluster) s ss = meant s cluster
    one (stmt.Accept place cs other) s ss =
        let inner : Scope = meaning.within_accept p s in
        let behind : Scope = meaning.scope_past_clauses p cs inner in
        clauses cs inner (meaning.else_meant p other behind) (otherwise other behind)

    clauses : (cs : stmt.Clauses) (s : Scope) (other : Clauses) → UndoingClauses (source_of p) (special_of p) other → UndoingClauses (source_of p) (special_of p) (meaning.clauses_meant p cs s other)
    clauses stmt.NoClauses s other k = k
    clauses (stmt.MoreClauses (stmt.Accepts place guard members body) rest) s other k = (test s guard, one body s src.Nil, clauses rest (meaning.scope_past p body s) other k)

    otherwise : (t : stmt.MaybeStmt) (s : Scope) → UndoingClauses (source_of p) (special_of p) (meaning.else_meant p t s)
    otherwise stmt.NoStmt s = tt
    otherwise (stmt.OneStmt body) s = one body s src.Nil

    handlers : (hs : stmt.Handlers) (s : Scope) → UndoingHandlers (source_of p) (special_of p) (meaning.handlers_meant p hs s)
    handlers stmt.NoHandlers s = tt
    handlers (stmt.MoreHandlers (stmt.Handles place kind event param brace body) rest) s =
        let x : stmt.Handler = stmt.Handles place kind event param brace body in
        (all body (meaning.in_handler p x s), handlers rest (meaning.scope_past_handler p x s))

    maybe : (t : stmt.MaybeStmt) (s : Scope) → Alone (meaning.maybe_meant p t s)
    maybe stmt.NoStmt s ss = tt
    maybe (stmt.OneStmt body) s ss = one body s ss

    all : (ts : stmt.Stmts) (s : Scope) → Fine (meaning.stmts_meant p ts s)
    all stmt.NoStmts s = tt
    all (stmt.MoreStmts t ts) s =
        stmt_then t s (meaning.stmt_meant p t s) (meaning.stmts_meant p ts (meaning.scope_after p t s)) (one t s) (all ts (meaning.scope_after p t s))

  -- fields

  init_args : (s : Scope) (x : Option whole.Init) → AllMeant p (meaning.init_args p s x)
  init_args s None = tt
  init_args s (Some x) = statements.args p formed u s x.args

  field_start : (b : Bool) (s k : Shape) (i : ℕ) (m : Meant) → expressions.MeantPlain p m → Plain p (meaning.field_start p b s (src.OfObject (src.OwnField k i)) m)
  field_start true s k i m h = (tt, ((tt, tt), plain p m.expr h.expr))
  field_start false s k i m h = ((tt, tt), plain p (tree.converted s (tree.value_of m)) (expressions.converted p s (tree.value_of m) (expressions.value_of p m h)))

  field_started : (f : ClassField) (k : Shape) (i : ℕ) (args : List Meant) (rest : Stmts) → AllMeant p args → Fine rest → Fine (meaning.field_started p f (src.OfObject (src.OwnField k i)) args rest)
  field_started f k i [] rest h l = l
  field_started f k i (m ∷ ms) rest h l = (inl (field_start f.declarator.by_ref (shape_of f.base) k i m h.0), l)

  field_built : (m : Option Making) (f : ClassField) (len : Option ℕ) (k : Shape) (i : ℕ) (args : List Meant) (rest : Stmts) → MakesPlain p m → AllMeant p args → Fine rest → Fine (meaning.field_built p m f len (src.OfObject (src.OwnField k i)) args rest)
  field_built None f len k i args rest c h l = field_started f k i args rest h l
  field_built (Some m) f len k i args rest c h l =
      let place : Expr = src.OfObject (src.OwnField k i) in
      (build 0 m len place args (src.Built (meaning.clean_up p m len place) rest) tt c h (opens_part m len place rest), (clean_plain m c len place tt, l))

  field_left : (m : Option Making) (len : Option ℕ) (k : Shape) (i : ℕ) (rest : Stmts) → MakesPlain p m → Fine rest → Fine (meaning.field_left p m len (src.OfObject (src.OwnField k i)) rest)
  field_left None len k i rest c l = l
  field_left (Some m) len k i rest c l = (clean_plain m c len (src.OfObject (src.OwnField k i)) tt, l)

  field_class : (f : ClassField) → MakesPlain p (meaning.field_making p f)
  field_class f = by f.declarator.by_ref
    where
      by : (b : Bool) → MakesPlain p (if b then None else making p f.base)
      by true = tt
      by false = making_plain p f.base

  module _ (c : whole.Class) (i : ℕ) where
    fields_built : (inits : List whole.Init) (s : Scope) (fs : List ClassField) (n : ℕ) (rest : Stmts) → Fine rest → Fine (meaning.fields_built p c i inits s fs n rest)
    fields_built inits s [] n rest h = h
    fields_built inits s (f ∷ fs) n rest h =
        field_built (meaning.field_making p f) f (meaning.length_in_class p c i f) (class_shape p i) n (meaning.init_args p s (meaning.init_named p inits f.declarator.name)) (meaning.fields_built p c i inits s fs (suc n) rest) (field_class f) (init_args s (meaning.init_named p inits f.declarator.name)) (fields_built inits s fs (suc n) rest h)

    fields_left : (fs : List ClassField) (n : ℕ) (rest : Stmts) → Fine rest → Fine (meaning.fields_left p c i fs n rest)
    fields_left [] n rest h = h
    fields_left (f ∷ fs) n rest h =
        field_left (meaning.field_making p f) (meaning.length_in_class p c i f) (class_shape p i) n (meaning.fields_left p c i fs (suc n) rest) (field_class f) (fields_left fs (suc n) rest h)

  -- constructors and destructors

  set_up : (b : Bool) (i : ℕ) (rest : Stmts) → Fine rest → Fine (meaning.set_up p b i rest)
  set_up false i rest h = h
  set_up true i rest h = (tt, (tt, h))

  started_in : (b : Bool) (body : Stmts) → Fine body → Fine (meaning.started_in p b body)
  started_in false body h = h
  started_in true body h = (tt, h)

  enlivened : (b : Bool) → Fine (meaning.enlivened p b)
  enlivened false = tt
  enlivened true = (tt, tt)

  taken_down : (b : Bool) (body : Stmts) → Fine body → Fine (meaning.taken_down p b body)
  taken_down false body h = h
  taken_down true body h = (tt, h)

  forgotten : (b : Bool) (rest : Stmts) → Fine rest → Fine (meaning.forgotten p b rest)
  forgotten false rest h = h
  forgotten true rest h = (tt, h)

  ending : (b : Bool) (rest : Stmts) → Fine rest → Fine (meaning.ending p b rest)
  ending false rest h = h
  ending true rest h = (tt, h)

  freed : (k : Kind) (i : ℕ) (rest : Stmts) → Fine rest → Fine (meaning.freed p k i rest)
  freed kind.Monitor i rest h = (tt, h)
  freed kind.Cormonitor i rest h = (tt, h)
  freed kind.Task i rest h = (tt, h)
  freed kind.Class i rest h = h
  freed kind.Coroutine i rest h = h
  freed kind.Event i rest h = h

  construction : (o : Option whole.Class) (i : ℕ) (inits : List whole.Init) (s : Scope) (body : Stmts) → Fine body → Fine (meaning.construction p o i inits s body)
  construction None i inits s body h = h
  construction (Some c) i inits s body h =
      freed c.kind i _ (set_up (has_execution c.kind) i _ (fields_built c i inits s (fields_of c.members) (leading_cells c.kind) _ (started_in (has_execution c.kind) body h)))

  destruction : (o : Option whole.Class) (i : ℕ) (body : Stmts) → Fine body → Fine (meaning.destruction p o i body)
  destruction None i body h = h
  destruction (Some c) i body h =
      ending (is_mutex c.kind) _ (forgotten (has_execution c.kind) _ (fields_left c i (fields_of c.members) (leading_cells c.kind) _ (taken_down (has_execution c.kind) body h)))

  construction_ends : (o : Option whole.Class) (i : ℕ) → Fine (meaning.construction_ends p o i)
  construction_ends None i = tt
  construction_ends (Some c) i = enlivened (has_execution c.kind)

  owing : (line : ℕ) (w : Purpose) → Fine (meaning.owing p line w)
  owing line src.Function = (tt, tt)
  owing line src.TaskMain = tt
  owing line src.CoroutineMain = tt
  owing line src.Procedure = tt
  owing line src.Builder = tt

  plain_body : (b : Bool) (r : whole.Routine) (body : Stmts) → Fine body → Fine (meaning.plain_body p b r body)
  plain_body false r body h = h
  plain_body true r body h = (tt, (h, owing r.brace.line (meaning.value_purpose p r.sig.ret)))

  body_by : (x : Role) (r : whole.Routine) (s : Scope) → Fine (meaning.body_by p x r s)
  body_by role.Plain r s = plain_body (meaning.has_number_in p (meaning.class_by p s.class) r.sig) r _ (all r.body s)
  body_by role.Constructor r s =
      construction (meaning.class_by p s.class) (meaning.place_or_zero p s.class) r.inits s _ (all r.body s, construction_ends (meaning.class_by p s.class) (meaning.place_or_zero p s.class))
  body_by role.Destructor r s = destruction (meaning.class_by p s.class) (meaning.place_or_zero p s.class) _ (all r.body s, tt)

  unwritten_body : (x : Role) (i : ℕ) → Fine (meaning.unwritten_body p x i)
  unwritten_body role.Plain i = tt
  unwritten_body role.Constructor i = construction (class_at p i) i [] (meaning.nowhere p) _ (construction_ends (class_at p i) i)
  unwritten_body role.Destructor i = destruction (class_at p i) i src.Nil tt

  -- all routines of a source

  abbrev AllFine : List Routine → Type 0
  AllFine [] = Unit {0}
  AllFine (r ∷ rs) = Fine r.body × AllFine rs

  both_lists : (rs us : List Routine) → AllFine rs → AllFine us → AllFine (rs ++ us)
  both_lists [] us h k = k
  both_lists (r ∷ rs) us h k = (h.0, both_lists rs us h.1 k)

  by_number : (rs : List Routine) → AllFine rs → (n : ℕ) → UndoingRoutine (source_of p) (special_of p) (slice_get rs n)
  by_number [] h n = tt
  by_number (r ∷ rs) h zero = h.0
  by_number (r ∷ rs) h (suc n) = by_number rs h.1 n

  written : (ds : List Defined) (number texts sites : ℕ) → AllFine (meaning.routines_meant p ds number texts sites)
  written [] number texts sites = tt
  written (d ∷ ds) number texts sites =
      (body_by d.routine.sig.role d.routine (meaning.routine_scope p d.routine (meaning.place_by p d) number texts sites), written ds (number + 1) (texts + length (gathered_all own_texts d.routine.body)) (sites + length (gathered_all (own_sites d.class d.number) d.routine.body)))

  unwritten : (us : List Unwritten) → AllFine (meaning.all_unwritten p us)
  unwritten [] = tt
  unwritten (x ∷ us) = (unwritten_body x.role x.class, unwritten us)

  pub undoing_source : UndoingSource (source_of p) (special_of p)
  undoing_source n = by_number (source_of p).routines (both_lists (meaning.routines_meant p (routines_of p) 0 0 0) (meaning.all_unwritten p (unwritten_of p)) (written (routines_of p) 0 0 0) (unwritten (unwritten_of p))) n
