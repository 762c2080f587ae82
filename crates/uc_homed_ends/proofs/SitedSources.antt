-- In the source of every program that breaks no rule what is built, destroyed and bound stands where its routine has it.
use Rattle.std.proofs.Common.{◌≡◌, ℕ, zero, suc, ◌+◌, ◌-◌, ◌≤◌, ◌<◌, ◌++◌, ◌⊎◌, inl, inr, Bool, true, false, ◌&&◌, List, [], ◌∷◌, length, Option, Some, None, refl, sym, ap, ◌∙◌, subst, arith}
use Rattle.std.specs.Prelude.{not, nat_eq, nat_lt, slice_get, if◌then◌else◌}
use Rattle.std.specs.List.{list_all}
use Rattle.std.proofs.lemmas.Bool.{ltb-true}
use Rattle.uc_tree.specs.declared.kinds.Base.{Base}
use Rattle.uc_tree.specs.declared.kinds.Base.TheVariants as base
use Rattle.uc_tree.specs.declared.kinds.Kind.{Kind}
use Rattle.uc_tree.specs.declared.kinds.Kind.TheVariants as kind
use Rattle.uc_tree.specs.declared.kinds.Param.{Param}
use Rattle.uc_tree.specs.declared.kinds.Role.{Role}
use Rattle.uc_tree.specs.declared.kinds.Role.TheVariants as role
use Rattle.uc_tree.specs.Cells as cells
use Rattle.uc_tree.specs.Cells.{leading_cells, classes_of, object_named}
use Rattle.uc_tree.specs.Constants as constants
use Rattle.uc_tree.specs.Expressions as expr
use Rattle.uc_tree.specs.Names.{same_name}
use Rattle.uc_tree.specs.Gathered.{gathered_all}
use Rattle.uc_tree.specs.Numbering.{Defined, is_event, is_mutex, is_plain, own_sites, own_texts, routines_of}
use Rattle.uc_tree.specs.Objects as objects
use Rattle.uc_tree.specs.Objects.{Making, APlain, AMutex, ACluster, AProcessor, making_by, making, ClassField, declared_fields, form_fields, fields_of, has_execution, is_constructor, class_at, class_shape, shape_of, written_at, unwritten_of}
use Rattle.uc_tree.specs.Programs as whole
use Rattle.uc_tree.specs.Programs.{Class, Member, MemberForm, FieldsMember, RoutineMember, ProtoMember, Program}
use Rattle.uc_tree.specs.Statements as stmt
use Rattle.uc_tree.specs.Statements.{Declarator}
use Rattle.uc_tree.specs.Source as src
use Rattle.uc_tree.specs.Source.{Shape, Expr, Exprs, ObjectExpr, CleanUp, Stmt, Stmts, Handlers, Clauses, Purpose, Routine}
use Rattle.uc_resolve.specs.Standings as tree
use Rattle.uc_resolve.specs.Standings.{Meant}
use Rattle.uc_resolve.specs.Resolve as meaning
use Rattle.uc_resolve.specs.Resolve.{Scope, source_of, place_by}
use Rattle.uc_rules.specs.declared.rules.Sort.{Sort}
use Rattle.uc_rules.specs.declared.rules.Sort.TheVariants as sort
use Rattle.uc_rules.specs.Sorts.{is_scalar_sort, has_main, class_sort, sort_of}
use Rattle.uc_rules.specs.ClassBreaks.{is_event_field, has_event_fields, is_event_member, may_be_scalar}
use Rattle.uc_rules.specs.ProgramVisits.{program_visits}
use Rattle.uc_typing.specs.Typing.{Ty, Cell, Clu, Pro, Sig, element_shape}
use Rattle.uc_sound.specs.Agreement.{found_ty}
use Rattle.uc_sound.specs.Fields.{field_ty}
use Rattle.uc_sound.specs.SoundFormed.{IsFormed}
use Rattle.uc_sound.specs.Tables.{declared_ty, of_kind, sig_or_none, routine_sig_in, unwritten_sig, unwritten_sigs, written_sigs, all_sigs, table_of}
use Rattle.uc_sound.specs.Unbroken.{Unbroken}
use Rattle.uc_sound.proofs.BodyLemmas.{InStep, is_written, nobody_wrote, in_step}
use Rattle.uc_sound.proofs.ClassLemmas.{law_told, mutex_is}
use Rattle.uc_sound.proofs.DeclaringLemmas.{made, making_is}
use Rattle.uc_sound.proofs.DestructionLemmas.{FieldFine, all_fine}
use Rattle.uc_sound.proofs.ClassNames.{event_at}
use Rattle.uc_sound.proofs.Lists.{left_is, right_is, both_are}
use Rattle.uc_sound.proofs.Origins.{Looked, looked, event_looked}
use Rattle.uc_sound.proofs.RoutineLemmas.{event_sound}
use Rattle.uc_sound.proofs.ObjectLemmas.{Making_is, making_ty, cleans_at, made_told}
use Rattle.uc_sound.proofs.Ties.{some_same, none_some, false_true}
use Rattle.uc_sound.proofs.Visited.{FieldRules, home, field_rules}
use Rattle.uc_life_laws.specs.Things.{Few, IsField}
use Rattle.uc_putting_laws.specs.Calling as calling
use Rattle.uc_putting_laws.specs.PuttingLaws.{special_of}
use Rattle.uc_putting_laws.proofs.Roles.{main_plain}
use Rattle.uc_putting_laws.proofs.Expressions as expressions
use Rattle.uc_putting_laws.proofs.Expressions.{AllMeant}
use Rattle.uc_putting_laws.proofs.Statements as statements
use Rattle.uc_cell_laws.specs.Scopes.{InStmt, InStmts, InHandlers, InClauses, InRoutine, IsScopeOf}
use Rattle.uc_cell_laws.specs.Sites.{Telling, IsNoMaker, IsExecuting, HasPlace, IsLent, SitedExpr, SitedExprs, SitedMaybe, SitedItems, SitedTargets, SitedDeclared, SitedClean, SitedRaised, SitedStmt, SitedStmts, SitedHandlers, SitedClauses, SitedRoutine}
use Rattle.uc_cell_laws.specs.OwnCells.{is_own, owns_by, owns_of, is_of_objects, builds_or_ends, telling_by}
use Rattle.uc_homed_ends.specs.Sited.{LawSited}
use Rattle.uc_homed_ends.proofs.Wholes.{plain_whole}

no_both : {A : Type 0} (b : Bool) → b ≡ true → b ≡ false → A
no_both b h k = absurd (cc)

-- what no sort has makes nothing

no_class : (cs : List Class) (i : ℕ) (name : List ℕ) → class_sort cs i name ≡ None → object_named cs i name ≡ None
no_class [] i name h = refl
no_class (c ∷ cs) i name h = by (same_name c.name name) (no_class cs (i + 1) name) h
  where
    by : (b : Bool) → (class_sort cs (i + 1) name ≡ None → object_named cs (i + 1) name ≡ None) → (if b then Some (sort.Object i c.kind) else class_sort cs (i + 1) name) ≡ None → (if b then cells.object_of_kind i c.kind else object_named cs (i + 1) name) ≡ None
    by true f h = none_some (sym h)
    by false f h = f h

no_making : (p : Program) (b : Base) → sort_of p b ≡ None → making p b ≡ None
no_making p (base.Named name) h = ap (λ o. making_by o (base.Named name)) (no_class (classes_of p.items) 0 name h)
no_making p base.Void h = none_some (sym h)
no_making p base.Int h = none_some (sym h)
no_making p base.Char h = none_some (sym h)
no_making p base.Bool h = none_some (sym h)
no_making p base.Condition h = none_some (sym h)
no_making p base.Cluster h = none_some (sym h)
no_making p base.Processor h = none_some (sym h)

-- fields of events are no references

either_list : {A : Type 0} (xs ys : List A) (n : ℕ) (x : A) → slice_get (xs ++ ys) n ≡ Some x → ((m : ℕ) × (slice_get xs m ≡ Some x)) ⊎ ((m : ℕ) × (slice_get ys m ≡ Some x))
either_list [] ys n x e = inr (n, e)
either_list (z ∷ xs) ys zero x e = inl (0, e)
either_list (z ∷ xs) ys (suc n) x e = by (either_list xs ys n x e)
  where
    by : ((m : ℕ) × (slice_get xs m ≡ Some x)) ⊎ ((m : ℕ) × (slice_get ys m ≡ Some x)) → ((m : ℕ) × (slice_get (z ∷ xs) m ≡ Some x)) ⊎ ((m : ℕ) × (slice_get ys m ≡ Some x))
    by (inl h) = inl (suc h.0, h.1)
    by (inr h) = inr h

module _ (p : Program) where
  abbrev IsEventField : ClassField → Type 0
  IsEventField f = is_event_field p f.base f.declarator ≡ true

  declared_event : (b : Base) (ds : List Declarator) (n : ℕ) (f : ClassField) → list_all (is_event_field p b) ds ≡ true → slice_get (declared_fields b ds) n ≡ Some f → IsEventField f
  declared_event b [] n f h e = none_some e
  declared_event b (d ∷ ds) zero f h e = subst IsEventField (some_same e) (left_is (is_event_field p b d) _ h)
  declared_event b (d ∷ ds) (suc n) f h e = declared_event b ds n f (right_is (is_event_field p b d) _ h) e

  form_event : (form : MemberForm) (n : ℕ) (f : ClassField) → has_event_fields p form ≡ true → slice_get (form_fields form) n ≡ Some f → IsEventField f
  form_event (FieldsMember at b ds) n f h e = declared_event b ds n f h e
  form_event (RoutineMember r) n f h e = none_some e
  form_event (ProtoMember sig) n f h e = none_some e

  members_event : (ms : List Member) (n : ℕ) (f : ClassField) → list_all (λ (m : Member). has_event_fields p m.form) ms ≡ true → slice_get (fields_of ms) n ≡ Some f → IsEventField f
  members_event [] n f h e = none_some e
  members_event (m ∷ ms) n f h e =
      by (either_list (form_fields m.form) (fields_of ms) n f e) (λ k q. members_event ms k f (right_is (has_event_fields p m.form) _ h) q)
    where
      by : ((k : ℕ) × (slice_get (form_fields m.form) k ≡ Some f)) ⊎ ((k : ℕ) × (slice_get (fields_of ms) k ≡ Some f)) → ((k : ℕ) → slice_get (fields_of ms) k ≡ Some f → IsEventField f) → IsEventField f
      by (inl q) rest = form_event m.form q.0 f (left_is (has_event_fields p m.form) _ h) q.1
      by (inr q) rest = rest q.0 q.1

  is_not : (b : Bool) → not b ≡ true → b ≡ false
  is_not true h = false_true h
  is_not false h = refl

  -- of which class a routine that somebody wrote is
  written_this : (ds : List Defined) (number texts sites k : ℕ) (d : Defined) → slice_get ds k ≡ Some d → (us : List Sig) → (sig_or_none (slice_get (written_sigs p ds number texts sites ++ us) k)).this ≡ place_by p d
  written_this [] number texts sites k d e us = none_some e
  written_this (x ∷ ds) number texts sites zero d e us = ap (place_by p) (some_same e)
  written_this (x ∷ ds) number texts sites (suc k) d e us =
      written_this ds (number + 1) (texts + length (gathered_all own_texts x.routine.body)) (sites + length (gathered_all (own_sites x.class x.number) x.routine.body)) k d e us

-- one routine

module _ (p : Program) (few : Few) (class : ℕ → Option ℕ) (naming : Bool) (r : ℕ) where
  abbrev g : Telling
  g = telling_by p few class naming

  abbrev Plain : Expr → Type 0
  Plain e = SitedExpr g r e

  abbrev Plains : Exprs → Type 0
  Plains es = SitedExprs g r es

  abbrev Ordinary : Expr → Type 0
  Ordinary e = calling.PlainExpr (table_of p) (source_of p) (special_of p) e

  abbrev Ordinaries : Exprs → Type 0
  Ordinaries es = calling.PlainExprs (table_of p) (source_of p) (special_of p) es

  -- what is no constructor and no destructor by its role is none
  none : (q : ℕ) → special_of p q ≡ false → IsNoMaker g q
  none q e h = no_both ((table_of p).routine q).whole (left_is ((table_of p).routine q).whole _ h) (plain_whole p q e)

  mutual
    plain : (e : Expr) → Ordinary e → Plain e
    plain (src.Literal n) h = tt
    plain (src.Variable k) h = tt
    plain (src.Element n s e i) h = (plain e h.0, plain i h.1)
    plain (src.Get k) h = tt
    plain (src.Load e) h = plain e h
    plain (src.Negated e) h = plain e h
    plain (src.Not e) h = plain e h
    plain (src.AsCharacter e) h = plain e h
    plain (src.AsTruth e) h = plain e h
    plain (src.Operate op e f) h = (plain e h.0, plain f h.1)
    plain (src.And e f) h = (plain e h.0, plain f h.1)
    plain (src.Or e f) h = (plain e h.0, plain f h.1)
    plain (src.Set k e) h = plain e h
    plain (src.Assign q e) h = (plain q h.0, plain e h.1)
    plain (src.First e f) h = (plain e h.0, plain f h.1)
    plain (src.Update op s q e) h = (plain q h.0, plain e h.1)
    plain (src.StepBehind op s q) h = plain q h
    plain src.Fail h = tt
    plain (src.Call q args) h = (tt, plains args h.1)
    plain (src.OfObject o) h = object o h

    plains : (es : Exprs) → Ordinaries es → Plains es
    plains src.NoExprs h = tt
    plains (src.MoreExprs e es) h = (plain e h.0, plains es h.1)

    object : (o : ObjectExpr) → Ordinary (src.OfObject o) → Plain (src.OfObject o)
    object src.This h = (tt, tt)
    object (src.OwnField s i) h = (tt, tt)
    object (src.GetOwn s i) h = (tt, tt)
    object (src.FieldOf s i e) h = (tt, plain e h.1)
    object src.Counted h = (tt, tt)
    object (src.CallOn q e args) h = (inl (none q h.0), (plain e h.1.0, plains args h.1.1))
    object (src.CallLive q e args) h = (none q h.0, (plain e h.1.0, plains args h.1.1))
    object (src.CallUnwritten q e) h = (inl (none q h.0), plain e h.1)
    object (src.EnterOn m q e args) h = (none q h.0, (plain e h.1.0, plains args h.1.1))
    object (src.ConditionAt k n e) h = (tt, plain e h.1)
    object (src.Wait e f) h = (tt, (plain e h.1.0, plain f h.1.1))
    object (src.Signal e) h = (tt, plain e h.1)
    object (src.SignalBlock e) h = (tt, plain e h.1)
    object (src.IsEmpty e) h = (tt, plain e h.1)
    object (src.FrontOf e) h = (tt, plain e h.1)
    object o h = absurd h.0

  -- without arguments there are none
  no_args : (xs : List Param) → Plains (tree.args_by xs [])
  no_args [] = tt
  no_args (x ∷ xs) = tt

  -- a variable, or a field of the object at hand
  abbrev IsLocus : Expr → Type 0
  IsLocus (src.Variable k) = Unit {0}
  IsLocus (src.OfObject (src.OwnField h i)) = Unit {0}
  IsLocus e = ⊥

  locus_plain : (e : Expr) → IsLocus e → Plain e
  locus_plain (src.Variable k) l = tt
  locus_plain (src.OfObject (src.OwnField s i)) l = (tt, tt)
  locus_plain e l = absurd l

  abbrev Has : Expr → Ty → Type 0
  Has e a = HasPlace g r e a

module _ (p : Program) (few : Few) (class : ℕ → Option ℕ) (naming : Bool) (formed : IsFormed p) (u : Unbroken (program_visits p)) (r : ℕ) where
  abbrev sig : Sig
  sig = (table_of p).routine r

  abbrev Is : Making → Type 0
  Is m = Making_is (table_of p) sig refl p m

  abbrev ty : Making → Ty
  ty m = making_ty (table_of p) sig refl m

  -- what is made, if anything
  abbrev Makes : Option Making → Type 0
  Makes None = Unit {0}
  Makes (Some m) = Is m

  made_is : (b : Base) → Makes (making p b)
  made_is b = by (making p b) refl
    where
      sorted : (m : Making) → making p b ≡ Some m → (o : Option Sort) → sort_of p b ≡ o → Is m
      sorted m q None e = none_some (sym (no_making p b e) ∙ q)
      sorted m q (Some s) e = (made_told (table_of p) sig refl p b s m (law_told p formed u) (mutex_is p) e (sym (making_is p b s e) ∙ q)).0

      by : (o : Option Making) → making p b ≡ o → Makes o
      by None q = tt
      by (Some m) q = sorted m q (sort_of p b) refl

  -- objects

  args_plain : (q : ℕ) (args : List Meant) → AllMeant p args → Plains p few class naming r (tree.args_by (tree.params_of p q) args)
  args_plain q args k = plains p few class naming r (tree.args_by (tree.params_of p q) args) (expressions.args_by p (tree.params_of p q) args k)

  cluster_in : (args : List Meant) → AllMeant p args → Plain p few class naming r (meaning.cluster_in args)
  cluster_in [] h = tt
  cluster_in (m ∷ ms) h = plain p few class naming r m.expr h.0.expr

  -- what destroys an object at its place
  destroyed_sited : (m : Making) → Is m → (place : Expr) → Has p few class naming r place (ty m) → Plain p few class naming r place → Plain p few class naming r (meaning.destroyed p m place)
  destroyed_sited (APlain i) c place h k = by (written_at p i role.Destructor) refl
    where
      by : (o : Option ℕ) → written_at p i role.Destructor ≡ o → Plain p few class naming r (meaning.called_by p i role.Destructor place [] o)
      by None e = (inr (i, c.1.unwritten_this e, h), k)
      by (Some d) e = (inr (i, (c.1.written d e).this, h), (k, no_args p few class naming r (tree.params_of p d)))
  destroyed_sited (AMutex i) c place h k = by (written_at p i role.Destructor) refl
    where
      by : (o : Option ℕ) → written_at p i role.Destructor ≡ o → Plain p few class naming r (meaning.ended_by p i (src.Load place) o)
      by None e = ((i, c.1.unwritten_this e, c.2, h), k)
      by (Some d) e = ((i, (c.1.written d e).this, c.2, h), k)
  destroyed_sited ACluster c place h k = (tt, k)
  destroyed_sited AProcessor c place h k = (tt, k)

  -- what builds it
  constructed_sited : (m : Making) → Is m → (place : Expr) → Has p few class naming r place (ty m) → Plain p few class naming r place → (args : List Meant) → AllMeant p args → Plain p few class naming r (meaning.constructed p m place args)
  constructed_sited (APlain i) c place h k args a = by (written_at p i role.Constructor) refl
    where
      by : (o : Option ℕ) → written_at p i role.Constructor ≡ o → Plain p few class naming r (meaning.called_by p i role.Constructor place args o)
      by None e = (inr (i, c.0.unwritten_this e, h), k)
      by (Some d) e = (inr (i, (c.0.written d e).this, h), (k, args_plain d args a))
  constructed_sited (AMutex i) c place h k args a = by (written_at p i role.Constructor) refl
    where
      by : (o : Option ℕ) → written_at p i role.Constructor ≡ o → Plain p few class naming r (meaning.made_by p i place args o)
      by None e = ((i, c.0.unwritten_this e, c.2, h), (k, tt))
      by (Some d) e = ((i, (c.0.written d e).this, c.2, h), (k, args_plain d args a))
  constructed_sited ACluster c place h k args a = (inl (Clu, (λ x. x), h), (k, (tt, tt)))
  constructed_sited AProcessor c place h k args a = (inl (Pro, (λ x. x), h), (k, (tt, cluster_in args a)))

  -- the element of an array that is counted
  element_kept : (m : Making) → Is m → meaning.made_shape p m ≡ element_shape (table_of p) (ty m)
  element_kept (APlain i) c = sym c.3
  element_kept (AMutex i) c = refl
  element_kept ACluster c = refl
  element_kept AProcessor c = refl

  -- of a place of what is made
  build : (line : ℕ) (m : Making) → Is m → (len : Option ℕ) (place : Expr) → Has p few class naming r place (declared_ty len (ty m)) → Plain p few class naming r place → (args : List Meant) → AllMeant p args → SitedStmt (telling_by p few class naming) r (meaning.build p line m len place args)
  build line m c None place h k args a = constructed_sited m c place h k args a
  build line m c (Some n) place h k args a =
      let e : Expr = meaning.counted_element p m n place in
      (constructed_sited m c e (element_kept m c, h) (k, (tt, tt)) [] tt, destroyed_sited m c e (element_kept m c, h) (k, (tt, tt)))

  clean_sited : (m : Making) → Is m → (len : Option ℕ) (place : Expr) → Has p few class naming r place (declared_ty len (ty m)) → Plain p few class naming r place → SitedClean (telling_by p few class naming) r (meaning.clean_up p m len place)
  clean_sited m c None place h k = destroyed_sited m c place h k
  clean_sited m c (Some n) place h k = destroyed_sited m c (meaning.counted_element p m n place) (element_kept m c, h) (k, (tt, tt))

  -- expressions in a scope

  meant : (s : Scope) (e : expr.Expr) → Plain p few class naming r (tree.meant (meaning.context_at p s) e).expr
  meant s e = plain p few class naming r (tree.meant (meaning.context_at p s) e).expr (statements.meant p formed u s e).expr

  value : (s : Scope) (e : expr.Expr) → Plain p few class naming r (tree.value_in_scope (meaning.context_at p s) e)
  value s e = plain p few class naming r (tree.value_in_scope (meaning.context_at p s) e) (statements.value p formed u s e)

  converted : (k : Shape) (s : Scope) (e : expr.Expr) → Plain p few class naming r (tree.converted k (tree.value_in_scope (meaning.context_at p s) e))
  converted k s e = plain p few class naming r (tree.converted k (tree.value_in_scope (meaning.context_at p s) e)) (expressions.converted p k (tree.value_in_scope (meaning.context_at p s) e) (statements.value p formed u s e))

  -- parts of statements

  items : (s : Scope) (texts : ℕ) (os : List stmt.OutItem) → SitedItems (telling_by p few class naming) r (meaning.items_meant (meaning.context_at p s) texts os)
  items s texts [] = tt
  items s texts (stmt.Endl sign ∷ os) = (tt, items s texts os)
  items s texts (stmt.Literal sign text ∷ os) = (tt, items s (texts + 1) os)
  items s texts (stmt.Printed sign e ∷ os) = (value s e, items s texts os)

  targets : (s : Scope) (es : expr.Exprs) → SitedTargets (telling_by p few class naming) r (meaning.targets_meant (meaning.context_at p s) es)
  targets s expr.NoExprs = tt
  targets s (expr.MoreExprs e es) = (meant s e, targets s es)

  start : (s : Scope) (k : Shape) (x : stmt.Start) → SitedMaybe (telling_by p few class naming) r (meaning.start_meant (meaning.context_at p s) k x)
  start s k stmt.NoStart = tt
  start s k (stmt.StartValue e) = converted k s e
  start s k (stmt.StartArgs expr.NoExprs) = tt
  start s k (stmt.StartArgs (expr.MoreExprs e es)) = converted k s e

  declared : (s : Scope) (b : Base) (ds : List Declarator) → SitedDeclared (telling_by p few class naming) r (meaning.all_declared p s b ds)
  declared s b [] = tt
  declared s b (d ∷ ds) = (start s (shape_of b) d.start, declared (meaning.with_declared p s b d) b ds)

  start_args : (s : Scope) (x : stmt.Start) → AllMeant p (meaning.start_args p s x)
  start_args s stmt.NoStart = tt
  start_args s (stmt.StartValue e) = tt
  start_args s (stmt.StartArgs es) = statements.args p formed u s es

  -- events

  -- what builds an event is none of these
  event_none : (name : List ℕ) (q : ℕ) → meaning.event_constructor p name ≡ Some q → IsNoMaker (telling_by p few class naming) q
  event_none name q e h =
      let k : Looked (λ d. nat_eq d.number 0 && (is_constructor d.routine.sig.role && same_name d.routine.sig.name name)) (routines_of p) 0 (Some q) = looked (λ d. nat_eq d.number 0 && (is_constructor d.routine.sig.role && same_name d.routine.sig.name name)) (routines_of p) 0 q (sym (event_looked (routines_of p) 0 name) ∙ e) in
      let d = k.defined in
      let n : k.n ≡ q = let z = some_same k.found in omega (arith, z) in
      let there : slice_get (routines_of p) q ≡ Some d = ap (slice_get (routines_of p)) (sym n) ∙ k.at in
      let number = left_is (nat_eq d.number 0) (is_constructor d.routine.sig.role && same_name d.routine.sig.name name) k.passes in
      let builds = left_is (is_constructor d.routine.sig.role) (same_name d.routine.sig.name name) (right_is (nat_eq d.number 0) (is_constructor d.routine.sig.role && same_name d.routine.sig.name name) k.passes) in
      let place : place_by p d ≡ objects.event_place p (base.Named d.routine.sig.name) = ap (λ (b : Bool). if b then objects.event_place p (base.Named d.routine.sig.name) else objects.place_of p d.number) (both_are (nat_eq d.number 0) (is_constructor d.routine.sig.role) number builds) in
      by d.routine.sig.name (objects.event_place p (base.Named d.routine.sig.name)) refl (written_this p (routines_of p) 0 0 0 q d there (unwritten_sigs p (unwritten_of p)) ∙ place)
    where
      of_objects : is_of_objects p ((table_of p).routine q).this ≡ true
      of_objects = right_is ((table_of p).routine q).whole _ h

      by : (called : List ℕ) (o : Option ℕ) → objects.event_place p (base.Named called) ≡ o → ((table_of p).routine q).this ≡ objects.event_place p (base.Named called) → ⊥
      by called None k this = false_true (subst (λ o. is_of_objects p o ≡ true) (this ∙ k) of_objects)
      by called (Some i) k this =
          let x = event_at (classes_of p.items) 0 called i k in
          let same : x.n ≡ i = let z = x.place in omega (arith, z) in
          let at : class_at p i ≡ Some x.class = subst (λ n. slice_get (classes_of p.items) n ≡ Some x.class) same x.at in
          no_both (of_kind is_event (class_at p i)) (ap (of_kind is_event) at ∙ x.event) (is_not p (of_kind is_event (class_at p i)) (subst (λ o. is_of_objects p o ≡ true) (this ∙ k) of_objects))

  built_event : (s : Scope) (n : ℕ) (name : List ℕ) (q : Option ℕ) (ms : List Meant) → meaning.event_constructor p name ≡ q → AllMeant p ms → SitedRaised (telling_by p few class naming) r (meaning.built_event p s n q ms)
  built_event s n name None ms e k = tt
  built_event s n name (Some q) ms e k = (inl (event_none name q e), (tt, args_plain q ms k))

  raised : (s : Scope) (x : Option stmt.Raised) → SitedRaised (telling_by p few class naming) r (meaning.raised_meant p s x)
  raised s None = tt
  raised s (Some x) = built_event s (meaning.number_of_event p x.name) x.name (meaning.event_constructor p x.name) (tree.args_meant (meaning.context_at p s) x.args) refl (statements.args p formed u s x.args)

  test : (s : Scope) (e : Option expr.Expr) → Plain p few class naming r (meaning.test_of p s e)
  test s None = tt
  test s (Some e) = value s e

  step : (s : Scope) (e : Option expr.Expr) → SitedMaybe (telling_by p few class naming) r (meaning.step_of p s e)
  step s None = tt
  step s (Some e) = meant s e

  returned : (s : Scope) (e : Option expr.Expr) → SitedMaybe (telling_by p few class naming) r (meaning.return_meant p s e)
  returned s None = tt
  returned s (Some e) = converted (shape_of (tree.result_of p s.routine)) s e

  -- statements

  abbrev Fine : Stmts → Type 0
  Fine ss = SitedStmts (telling_by p few class naming) r ss

  abbrev FineOne : Stmt → Type 0
  FineOne a = SitedStmt (telling_by p few class naming) r a

  -- all scopes in them are of the routine
  abbrev In : Stmts → Type 0
  In ss = (c : CleanUp) → InStmts c ss → IsScopeOf (source_of p) r c

  abbrev InOne : Stmt → Type 0
  InOne a = (c : CleanUp) → InStmt c a → IsScopeOf (source_of p) r c

  objects_in : (m : Making) (line : ℕ) (b : Base) (ds : List Declarator) (s : Scope) (rest : Stmts) → Is m → In (meaning.objects_scoped p m line b ds s rest) → (In rest → Fine rest) → Fine (meaning.objects_scoped p m line b ds s rest)
  objects_in m line b [] s rest c n h = h n
  objects_in m line b (d ∷ ds) s rest c n h =
      let len : Option ℕ = meaning.length_of p d d.len in
      let place : Expr = src.Variable s.cells in
      let has : Has p few class naming r place (declared_ty len (ty m)) = (meaning.clean_up p m len place, n (meaning.clean_up p m len place) (inr (inr (inl refl))), cleans_at (table_of p) sig refl p m len place c) in
      ((tt, tt), (build line m c len place has tt (meaning.start_args p s d.start) (start_args s d.start), (clean_sited m c len place has tt, objects_in m line b ds (meaning.with_declared p s b d) rest c (λ x i. n x (inr (inr (inr i)))) h)))

  declared_then : (b : Base) (m : Option Making) (line : ℕ) (ds : List Declarator) (s : Scope) (rest : Stmts) → Makes m → In (meaning.declared_then p m line b ds s rest) → (In rest → Fine rest) → Fine (meaning.declared_then p m line b ds s rest)
  declared_then b None line ds s rest c n h = (declared s b ds, h (λ x i. n x (inr i)))
  declared_then b (Some m) line ds s rest c n h = objects_in m line b ds s rest c n h

  declared_alone : (b : Base) (m : Option Making) (line : ℕ) (ds : List Declarator) (s : Scope) → Makes m → InOne (meaning.declared_alone p m line b ds s) → FineOne (meaning.declared_alone p m line b ds s)
  declared_alone b None line ds s c n = declared s b ds
  declared_alone b (Some m) line ds s c n = objects_in m line b ds s src.Nil c n (λ k. tt)

  start_then : (line : ℕ) (x : stmt.ForStart) (s : Scope) (rest : Stmts) → In (meaning.start_then p line x s rest) → (In rest → Fine rest) → Fine (meaning.start_then p line x s rest)
  start_then line stmt.NoFor s rest n h = (tt, h (λ c i. n c (inr i)))
  start_then line (stmt.ForDeclare place b ds) s rest n h = declared_then b (making p b) line ds s rest (made_is b) n h
  start_then line (stmt.ForEvaluate e) s rest n h = (meant s e, h (λ c i. n c (inr i)))

  stmt_then : (t : stmt.Stmt) (s : Scope) (a : Stmt) (rest : Stmts) → In (meaning.stmt_then p t s a rest) → (InOne a → FineOne a) → (In rest → Fine rest) → Fine (meaning.stmt_then p t s a rest)
  stmt_then (stmt.Declare place b ds) s a rest n f h = declared_then b (making p b) place.line ds s rest (made_is b) n h
  stmt_then t s a rest n f h = (f (λ c i. n c (inl i)), h (λ c i. n c (inr i)))

  mutual
    one : (t : stmt.Stmt) (s : Scope) → InOne (meaning.stmt_meant p t s) → FineOne (meaning.stmt_meant p t s)
    one (stmt.Block place body) s n = all body s n
    one (stmt.Empty place) s n = tt
    one (stmt.Evaluate place e) s n = meant s e
    one (stmt.Declare place b ds) s n = declared_alone b (making p b) place.line ds s (made_is b) n
    one (stmt.Print place os) s n = items s s.texts os
    one (stmt.PrintTogether place os) s n = items s s.texts os
    one (stmt.Read place es) s n = targets s es
    one (stmt.If place e chosen other) s n = (value s e, one chosen s (λ c i. n c (inl i)), maybe other (meaning.scope_past p chosen s) (λ c i. n c (inr i)))
    one (stmt.While place e body) s n = (value s e, tt, one body s n)
    one (stmt.Do place body e) s n = (value s e, tt, one body s n)
    one (stmt.For place x e f body) s n =
        let inner : Scope = meaning.for_scope p x s in
        start_then place.line x s (src.Then (src.Loop place.line (meaning.order_of p e) (meaning.test_of p inner e) (meaning.step_of p inner f) (meaning.stmt_meant p body inner)) src.Nil) n (λ k. ((test inner e, step inner f, one body inner (λ c i. k c (inl i))), tt))
    one (stmt.Break place) s n = tt
    one (stmt.Continue place) s n = tt
    one (stmt.Return place e) s n = returned s e
    one (stmt.Throw place x) s n = raised s x
    one (stmt.Raise place x) s n = raised s x
    one (stmt.Try place brace body hs) s n = ((all body s (λ c i. n c (inl (inl i))), tt), handlers hs (meaning.scope_past_all p body s) (λ c i. n c (inr i)))
    one (stmt.Resume place) s n = (tt, tt)
    one (stmt.Suspend place) s n = (tt, tt)
    one (stmt.RaiseAt place x target) s n = (raised s (Some x), meant s target)
    one (stmt.Enable place events body) s n = one body (meaning.within_events p s) n
    one (stmt.Disable place events body) s n = one body (meaning.within_events p s) n
    one (stmt.Yield place) s n = (tt, tt)
    one (stmt.Migrate place cluster) s n = (tt, meant s cluster)
    one (stmt.Accept place cs other) s n =
        let inner : Scope = meaning.within_accept p s in
        let behind : Scope = meaning.scope_past_clauses p cs inner in
        (tt, clauses cs inner (meaning.else_meant p other behind) n (λ k. otherwise other behind k))

    clauses : (cs : stmt.Clauses) (s : Scope) (other : Clauses) → ((c : CleanUp) → InClauses c (meaning.clauses_meant p cs s other) → IsScopeOf (source_of p) r c) → (((c : CleanUp) → InClauses c other → IsScopeOf (source_of p) r c) → SitedClauses (telling_by p few class naming) r other) → SitedClauses (telling_by p few class naming) r (meaning.clauses_meant p cs s other)
    clauses stmt.NoClauses s other n k = k n
    clauses (stmt.MoreClauses (stmt.Accepts place guard members body) rest) s other n k = (test s guard, one body s (λ c i. n c (inl i)), clauses rest (meaning.scope_past p body s) other (λ c i. n c (inr i)) k)

    otherwise : (t : stmt.MaybeStmt) (s : Scope) → ((c : CleanUp) → InClauses c (meaning.else_meant p t s) → IsScopeOf (source_of p) r c) → SitedClauses (telling_by p few class naming) r (meaning.else_meant p t s)
    otherwise stmt.NoStmt s n = tt
    otherwise (stmt.OneStmt body) s n = one body s n

    handlers : (hs : stmt.Handlers) (s : Scope) → ((c : CleanUp) → InHandlers c (meaning.handlers_meant p hs s) → IsScopeOf (source_of p) r c) → SitedHandlers (telling_by p few class naming) r (meaning.handlers_meant p hs s)
    handlers stmt.NoHandlers s n = tt
    handlers (stmt.MoreHandlers (stmt.Handles place kind event param brace body) rest) s n =
        let x : stmt.Handler = stmt.Handles place kind event param brace body in
        (all body (meaning.in_handler p x s) (λ c i. n c (inl i)), handlers rest (meaning.scope_past_handler p x s) (λ c i. n c (inr i)))

    maybe : (t : stmt.MaybeStmt) (s : Scope) → InOne (meaning.maybe_meant p t s) → FineOne (meaning.maybe_meant p t s)
    maybe stmt.NoStmt s n = tt
    maybe (stmt.OneStmt body) s n = one body s n

    all : (ts : stmt.Stmts) (s : Scope) → In (meaning.stmts_meant p ts s) → Fine (meaning.stmts_meant p ts s)
    all stmt.NoStmts s n = tt
    all (stmt.MoreStmts t ts) s n =
        stmt_then t s (meaning.stmt_meant p t s) (meaning.stmts_meant p ts (meaning.scope_after p t s)) n (λ k. one t s k) (λ k. all ts (meaning.scope_after p t s) k)

  -- fields

  init_args : (s : Scope) (x : Option whole.Init) → AllMeant p (meaning.init_args p s x)
  init_args s None = tt
  init_args s (Some x) = statements.args p formed u s x.args

  -- of a class with this place, of which the routine builds or destroys an object
  module _ (i : ℕ) (c : whole.Class) (at : class_at p i ≡ Some c) where
    -- a field that is a reference may be bound
    abbrev MayBind : ClassField → ℕ → Type 0
    MayBind f n = f.declarator.by_ref ≡ true → IsLent (telling_by p few class naming) r (src.OfObject (src.OwnField (class_shape p i) n))

    -- what is made has its place at one that is none
    abbrev MayMake : ClassField → ℕ → Type 0
    MayMake f n = (m : Making) → meaning.field_making p f ≡ Some m → Is m × Has p few class naming r (src.OfObject (src.OwnField (class_shape p i) n)) (declared_ty (meaning.length_in_class p c i f) (ty m))

    field_start : (b : Bool) (s : Shape) (place : Expr) (m : Meant) → (b ≡ true → IsLent (telling_by p few class naming) r place) → IsLocus p few class naming r place → expressions.MeantPlain p m → Plain p few class naming r (meaning.field_start p b s place m)
    field_start true s place m b l h = (inr (b refl), (locus_plain p few class naming r place l, plain p few class naming r m.expr h.expr))
    field_start false s place m b l h = (locus_plain p few class naming r place l, plain p few class naming r (tree.converted s (tree.value_of m)) (expressions.converted p s (tree.value_of m) (expressions.value_of p m h)))

    field_started : (f : ClassField) (n : ℕ) (args : List Meant) (rest : Stmts) → MayBind f n → AllMeant p args → (In rest → Fine rest) → In (meaning.field_started p f (src.OfObject (src.OwnField (class_shape p i) n)) args rest) → Fine (meaning.field_started p f (src.OfObject (src.OwnField (class_shape p i) n)) args rest)
    field_started f n [] rest b h l w = l w
    field_started f n (m ∷ ms) rest b h l w = (field_start f.declarator.by_ref (shape_of f.base) (src.OfObject (src.OwnField (class_shape p i) n)) m b tt h.0, l (λ x y. w x (inr y)))

    field_built : (o : Option Making) (f : ClassField) (n : ℕ) (args : List Meant) (rest : Stmts) → meaning.field_making p f ≡ o → MayBind f n → MayMake f n → AllMeant p args → (In rest → Fine rest) → In (meaning.field_built p o f (meaning.length_in_class p c i f) (src.OfObject (src.OwnField (class_shape p i) n)) args rest) → Fine (meaning.field_built p o f (meaning.length_in_class p c i f) (src.OfObject (src.OwnField (class_shape p i) n)) args rest)
    field_built None f n args rest q b k h l w = field_started f n args rest b h l w
    field_built (Some m) f n args rest q b k h l w =
        let x = k m q in
        let place : Expr = src.OfObject (src.OwnField (class_shape p i) n) in
        (build 0 m x.0 (meaning.length_in_class p c i f) place x.1 (tt, tt) args h, (clean_sited m x.0 (meaning.length_in_class p c i f) place x.1 (tt, tt), l (λ y z. w y (inr z))))

    field_left : (o : Option Making) (f : ClassField) (n : ℕ) (rest : Stmts) → meaning.field_making p f ≡ o → MayMake f n → (In rest → Fine rest) → In (meaning.field_left p o (meaning.length_in_class p c i f) (src.OfObject (src.OwnField (class_shape p i) n)) rest) → Fine (meaning.field_left p o (meaning.length_in_class p c i f) (src.OfObject (src.OwnField (class_shape p i) n)) rest)
    field_left None f n rest q k l w = l w
    field_left (Some m) f n rest q k l w =
        let x = k m q in
        (clean_sited m x.0 (meaning.length_in_class p c i f) (src.OfObject (src.OwnField (class_shape p i) n)) x.1 (tt, tt), l (λ y z. w y (inr z)))

    abbrev AllMay : List ClassField → ℕ → Type 0
    AllMay fs n = (k : ℕ) (f : ClassField) → slice_get fs k ≡ Some f → MayBind f (n + k) × MayMake f (n + k)

    first_may : (f : ClassField) (fs : List ClassField) (n : ℕ) → AllMay (f ∷ fs) n → MayBind f n × MayMake f n
    first_may f fs n a = subst (λ k. MayBind f k × MayMake f k) (let e : n + 0 ≡ n = omega arith in e) (a 0 f refl)

    more_may : (f : ClassField) (fs : List ClassField) (n : ℕ) → AllMay (f ∷ fs) n → AllMay fs (suc n)
    more_may f fs n a k h e = subst (λ m. MayBind h m × MayMake h m) (let q : n + suc k ≡ suc n + k = omega arith in q) (a (suc k) h e)

    fields_built : (inits : List whole.Init) (s : Scope) (fs : List ClassField) (n : ℕ) (rest : Stmts) → AllMay fs n → (In rest → Fine rest) → In (meaning.fields_built p c i inits s fs n rest) → Fine (meaning.fields_built p c i inits s fs n rest)
    fields_built inits s [] n rest a h w = h w
    fields_built inits s (f ∷ fs) n rest a h w =
        let m = first_may f fs n a in
        field_built (meaning.field_making p f) f n (meaning.init_args p s (meaning.init_named p inits f.declarator.name)) (meaning.fields_built p c i inits s fs (suc n) rest) refl m.0 m.1 (init_args s (meaning.init_named p inits f.declarator.name)) (λ k. fields_built inits s fs (suc n) rest (more_may f fs n a) h k) w

    fields_left : (fs : List ClassField) (n : ℕ) (rest : Stmts) → AllMay fs n → (In rest → Fine rest) → In (meaning.fields_left p c i fs n rest) → Fine (meaning.fields_left p c i fs n rest)
    fields_left [] n rest a h w = h w
    fields_left (f ∷ fs) n rest a h w =
        let m = first_may f fs n a in
        field_left (meaning.field_making p f) f n (meaning.fields_left p c i fs (suc n) rest) refl m.1 (λ k. fields_left fs (suc n) rest (more_may f fs n a) h k) w

    -- fields of what is no event, by their numbers
    leads_one : (k : Kind) → has_execution k ≡ true → 1 ≤ leading_cells k
    leads_one kind.Coroutine e = omega arith
    leads_one kind.Cormonitor e = omega arith
    leads_one kind.Class e = false_true e
    leads_one kind.Monitor e = false_true e
    leads_one kind.Task e = false_true e
    leads_one kind.Event e = false_true e

    is_field : (k : ℕ) → IsField (table_of p) i (leading_cells c.kind + k)
    is_field k e = let z = leads_one c.kind (sym (ap (of_kind has_execution) at) ∙ e) in omega (arith, z)

    not_below : (a k : ℕ) → nat_lt (a + k) a ≡ false
    not_below a k = by (nat_lt (a + k) a) refl
      where
        by : (b : Bool) → nat_lt (a + k) a ≡ b → nat_lt (a + k) a ≡ false
        by true e = let l : a + k < a = ltb-true (a + k) a e in absurd (omega (arith, l))
        by false e = e

    owned : (k : ℕ) (f : ClassField) → slice_get (fields_of c.members) k ≡ Some f → owns_of p i (leading_cells c.kind + k) ≡ not f.declarator.by_ref
    owned k f e =
        let n : (leading_cells c.kind + k) - leading_cells c.kind ≡ k = omega arith in
        ap (λ o. owns_by o (leading_cells c.kind + k)) at ∙ (ap (λ (b : Bool). if b then false else is_own (slice_get (fields_of c.members) ((leading_cells c.kind + k) - leading_cells c.kind))) (not_below (leading_cells c.kind) k) ∙ ap is_own (ap (slice_get (fields_of c.members)) n ∙ e))

    -- which the routine builds or destroys
    module _ (special : builds_or_ends p r ≡ true) (this : sig.this ≡ Some i) where
      may : AllMay (fields_of c.members) (leading_cells c.kind)
      may k f e = (lent, makes)
        where
          n : ℕ
          n = leading_cells c.kind + k

          rules : FieldRules p (home p u i c) c f
          rules = field_rules p u i c at k f e

          lent : MayBind f n
          lent b =
              let type : (table_of p).fields i n ≡ Cell (found_ty rules.sort) = ((law_told p formed u).classes i c at).fields k f rules.sort e rules.base ∙ ap (λ b. field_ty b f.declarator.len (constants.elements (cells.seen_in (constants.constants_of p.items) c) f.declarator) rules.sort) b in
              (found_ty rules.sort, record { special = special; class = i; this = this; shape = refl; field = is_field k; type = sym type }, owned k f e ∙ ap not b)

          not_ref : (m : Making) → meaning.field_making p f ≡ Some m → f.declarator.by_ref ≡ false
          not_ref m q = by f.declarator.by_ref refl q
            where
              by : (b : Bool) → f.declarator.by_ref ≡ b → (if b then None else making p f.base) ≡ Some m → f.declarator.by_ref ≡ false
              by true w q = none_some q
              by false w q = w

          makes : MayMake f n
          makes m q =
              let x : FieldFine p formed u i c at sig this n f = all_fine p formed u i c at sig this k n f refl e in
              let y = x m q in
              (y.0, (record { special = special; class = i; this = this; shape = refl; field = is_field k; type = sym y.1 }, owned k f e ∙ ap not (not_ref m q)))

    -- fields of an event make nothing, and are no references
    event_may : is_event c.kind ≡ true → AllMay (fields_of c.members) (leading_cells c.kind)
    event_may v k f e = ((λ b. no_both f.declarator.by_ref b (field k f e)), (λ m q. none_some (sym (nothing k f e) ∙ q)))
      where
        fields : list_all (λ (m : Member). has_event_fields p m.form) c.members ≡ true
        fields = left_is (list_all (λ (m : Member). has_event_fields p m.form) c.members) _ (right_is (list_all (λ (m : Member). is_event_member p c m.form) c.members) _ (event_sound p formed u i c at v))

        event : (k : ℕ) (f : ClassField) → slice_get (fields_of c.members) k ≡ Some f → is_event_field p f.base f.declarator ≡ true
        event k f e = members_event p c.members k f fields e

        field : (k : ℕ) (f : ClassField) → slice_get (fields_of c.members) k ≡ Some f → f.declarator.by_ref ≡ false
        field k f e = is_not p f.declarator.by_ref (left_is (not f.declarator.by_ref) _ (right_is (may_be_scalar (sort_of p f.base)) _ (event k f e)))

        scalar : (s : Sort) → is_scalar_sort s ≡ true → made s ≡ None
        scalar sort.Void h = refl
        scalar sort.Int h = refl
        scalar sort.Char h = refl
        scalar sort.Bool h = refl
        scalar sort.Condition h = refl
        scalar sort.Cluster h = false_true h
        scalar sort.Processor h = false_true h
        scalar (sort.Object j k) h = false_true h

        none_made : (b : Base) (o : Option Sort) → sort_of p b ≡ o → may_be_scalar o ≡ true → making p b ≡ None
        none_made b None e h = no_making p b e
        none_made b (Some s) e h = making_is p b s e ∙ scalar s h

        nothing : (k : ℕ) (f : ClassField) → slice_get (fields_of c.members) k ≡ Some f → meaning.field_making p f ≡ None
        nothing k f e = by f.declarator.by_ref
          where
            by : (b : Bool) → (if b then None else making p f.base) ≡ None
            by true = refl
            by false = none_made f.base (sort_of p f.base) refl (left_is (may_be_scalar (sort_of p f.base)) _ (event k f e))

  -- constructors and destructors

  abbrev Executes : Type 0
  Executes = IsExecuting (telling_by p few class naming) r

  set_up : (b : Bool) (i : ℕ) (rest : Stmts) → (b ≡ true → IsNoMaker (telling_by p few class naming) (meaning.main_at p i)) → (b ≡ true → Executes) → (In rest → Fine rest) → In (meaning.set_up p b i rest) → Fine (meaning.set_up p b i rest)
  set_up false i rest f g h w = h w
  set_up true i rest f g h w = ((f refl, tt), (g refl, h (λ x y. w x (inr y))))

  started_in : (b : Bool) (body : Stmts) → (In body → Fine body) → In (meaning.started_in p b body) → Fine (meaning.started_in p b body)
  started_in false body h w = h w
  started_in true body h w = (tt, h w)

  enlivened : (b : Bool) → Fine (meaning.enlivened p b)
  enlivened false = tt
  enlivened true = ((tt, tt), tt)

  taken_down : (b : Bool) (body : Stmts) → (In body → Fine body) → In (meaning.taken_down p b body) → Fine (meaning.taken_down p b body)
  taken_down false body h w = h w
  taken_down true body h w = ((tt, tt), h (λ x y. w x (inr y)))

  forgotten : (b : Bool) (rest : Stmts) → (b ≡ true → Executes) → (In rest → Fine rest) → In (meaning.forgotten p b rest) → Fine (meaning.forgotten p b rest)
  forgotten false rest g h w = h w
  forgotten true rest g h w = (g refl, h (λ x y. w x (inr y)))

  ending : (b : Bool) (rest : Stmts) → (In rest → Fine rest) → In (meaning.ending p b rest) → Fine (meaning.ending p b rest)
  ending false rest h w = h w
  ending true rest h w = (tt, h (λ x y. w x (inr y)))

  freed : (k : Kind) (i : ℕ) (rest : Stmts) → (k ≡ kind.Task → IsNoMaker (telling_by p few class naming) (meaning.main_at p i)) → (In rest → Fine rest) → In (meaning.freed p k i rest) → Fine (meaning.freed p k i rest)
  freed kind.Monitor i rest f h w = (tt, h (λ x y. w x (inr y)))
  freed kind.Cormonitor i rest f h w = (tt, h (λ x y. w x (inr y)))
  freed kind.Task i rest f h w = (f refl, h (λ x y. w x (inr y)))
  freed kind.Class i rest f h w = h w
  freed kind.Coroutine i rest f h w = h w
  freed kind.Event i rest f h w = h w

  -- of a class of which the fields may be so, which has executions where the routine builds or destroys one
  module _ (i : ℕ) (c : whole.Class) (at : class_at p i ≡ Some c) (may : AllMay i c at (fields_of c.members) (leading_cells c.kind)) (ex : has_execution c.kind ≡ true → Executes) where
    main_none : has_main c.kind ≡ true → IsNoMaker (telling_by p few class naming) (meaning.main_at p i)
    main_none h = none p few class naming r (meaning.main_at p i) (main_plain p formed u i c at h)

    executes_main : (k : Kind) → has_execution k ≡ true → has_main k ≡ true
    executes_main kind.Coroutine e = refl
    executes_main kind.Cormonitor e = refl
    executes_main kind.Class e = false_true e
    executes_main kind.Monitor e = false_true e
    executes_main kind.Task e = false_true e
    executes_main kind.Event e = false_true e

    construction : (inits : List whole.Init) (s : Scope) (body : Stmts) → (In body → Fine body) → In (meaning.construction p (Some c) i inits s body) → Fine (meaning.construction p (Some c) i inits s body)
    construction inits s body h w =
        freed c.kind i _ (λ e. main_none (ap has_main e)) (set_up (has_execution c.kind) i _ (λ e. main_none (executes_main c.kind e)) ex (fields_built i c at inits s (fields_of c.members) (leading_cells c.kind) _ may (started_in (has_execution c.kind) body h))) w

    destruction : (body : Stmts) → (In body → Fine body) → In (meaning.destruction p (Some c) i body) → Fine (meaning.destruction p (Some c) i body)
    destruction body h w =
        ending (is_mutex c.kind) _ (forgotten (has_execution c.kind) _ ex (fields_left i c at (fields_of c.members) (leading_cells c.kind) _ may (taken_down (has_execution c.kind) body h))) w

    construction_ends : Fine (meaning.construction_ends p (Some c) i)
    construction_ends = enlivened (has_execution c.kind)

  owing : (line : ℕ) (w : Purpose) → Fine (meaning.owing p line w)
  owing line src.Function = (tt, tt)
  owing line src.TaskMain = tt
  owing line src.CoroutineMain = tt
  owing line src.Procedure = tt
  owing line src.Builder = tt

  plain_body : (b : Bool) (x : whole.Routine) (body : Stmts) → (In body → Fine body) → In (meaning.plain_body p b x body) → Fine (meaning.plain_body p b x body)
  plain_body false x body h w = h w
  plain_body true x body h w = (tt, (h (λ c i. w c (inr (inl i))), owing x.brace.line (meaning.value_purpose p x.sig.ret)))

  -- the fields of a class that this routine builds or destroys, or that is an event
  may_be : (whole : sig.whole ≡ true) (i : ℕ) → sig.this ≡ Some i → (c : Class) (at : class_at p i ≡ Some c) → AllMay i c at (fields_of c.members) (leading_cells c.kind)
  may_be whole i this c at = by (is_event c.kind) refl
    where
      objects : is_event c.kind ≡ false → builds_or_ends p r ≡ true
      objects e = both_are sig.whole (is_of_objects p sig.this) whole (ap (is_of_objects p) this ∙ (ap (λ o. not (of_kind is_event o)) at ∙ ap not e))

      by : (b : Bool) → is_event c.kind ≡ b → AllMay i c at (fields_of c.members) (leading_cells c.kind)
      by true e = event_may i c at e
      by false e = may i c at (objects e) this

  no_event : (k : Kind) → has_execution k ≡ true → is_event k ≡ false
  no_event kind.Coroutine e = refl
  no_event kind.Cormonitor e = refl
  no_event kind.Class e = refl
  no_event kind.Monitor e = refl
  no_event kind.Task e = refl
  no_event kind.Event e = false_true e

  executing : (whole : sig.whole ≡ true) (i : ℕ) → sig.this ≡ Some i → (c : Class) (at : class_at p i ≡ Some c) → has_execution c.kind ≡ true → Executes
  executing whole i this c at h = (
    both_are sig.whole (is_of_objects p sig.this) whole (ap (is_of_objects p) this ∙ (ap (λ o. not (of_kind is_event o)) at ∙ ap not (no_event c.kind h))),
    (i, this, ap (of_kind has_execution) at ∙ h),
  )

  -- what builds and destroys objects of a class, if there is one
  built : sig.whole ≡ true → (o : Option ℕ) → sig.this ≡ o → (inits : List whole.Init) (s : Scope) (a : Stmt) (body : Stmts) → (InOne a → FineOne a) → body ≡ src.Then a (meaning.construction_ends p (meaning.class_by p o) (meaning.place_or_zero p o)) → In (meaning.construction p (meaning.class_by p o) (meaning.place_or_zero p o) inits s body) → Fine (meaning.construction p (meaning.class_by p o) (meaning.place_or_zero p o) inits s body)
  built whole None this inits s a body h e w = subst Fine (sym e) (h (λ c i. subst In e w c (inl i)), tt)
  built whole (Some i) this inits s a body h e w = by (class_at p i) refl body e w
    where
      by : (o : Option Class) → class_at p i ≡ o → (body : Stmts) → body ≡ src.Then a (meaning.construction_ends p o i) → In (meaning.construction p o i inits s body) → Fine (meaning.construction p o i inits s body)
      by None at body e w = subst Fine (sym e) (h (λ c i. subst In e w c (inl i)), tt)
      by (Some c) at body e w =
          let m = may_be whole i this c at in
          let x = executing whole i this c at in
          construction i c at m x inits s body (λ k. subst Fine (sym e) (h (λ x y. subst In e k x (inl y)), construction_ends i c at m x)) w

  built_alone : sig.whole ≡ true → (i : ℕ) → sig.this ≡ Some i → In (meaning.construction p (class_at p i) i [] (meaning.nowhere p) (meaning.construction_ends p (class_at p i) i)) → Fine (meaning.construction p (class_at p i) i [] (meaning.nowhere p) (meaning.construction_ends p (class_at p i) i))
  built_alone whole i this w = by (class_at p i) refl w
    where
      by : (o : Option Class) → class_at p i ≡ o → In (meaning.construction p o i [] (meaning.nowhere p) (meaning.construction_ends p o i)) → Fine (meaning.construction p o i [] (meaning.nowhere p) (meaning.construction_ends p o i))
      by None at w = tt
      by (Some c) at w = let m = may_be whole i this c at in let x = executing whole i this c at in construction i c at m x [] (meaning.nowhere p) (meaning.construction_ends p (Some c) i) (λ k. construction_ends i c at m x) w

  destroyed : sig.whole ≡ true → (i : ℕ) → sig.this ≡ Some i → (o : Option Class) → class_at p i ≡ o → (body : Stmts) → (In body → Fine body) → In (meaning.destruction p o i body) → Fine (meaning.destruction p o i body)
  destroyed whole i this None at body h w = h w
  destroyed whole i this (Some c) at body h w = destruction i c at (may_be whole i this c at) (executing whole i this c at) body h w

  destroyed_by : sig.whole ≡ true → (o : Option ℕ) → sig.this ≡ o → (body : Stmts) → (In body → Fine body) → In (meaning.destruction p (meaning.class_by p o) (meaning.place_or_zero p o) body) → Fine (meaning.destruction p (meaning.class_by p o) (meaning.place_or_zero p o) body)
  destroyed_by whole None this body h w = h w
  destroyed_by whole (Some i) this body h w = destroyed whole i this (class_at p i) refl body h w

  body_by : (x : Role) (d : whole.Routine) (s : Scope) → (is_plain x ≡ false → sig.whole ≡ true) → sig.this ≡ s.class → In (meaning.body_by p x d s) → Fine (meaning.body_by p x d s)
  body_by role.Plain d s f this w = plain_body (meaning.has_number_in p (meaning.class_by p s.class) d.sig) d (meaning.stmts_meant p d.body s) (λ k. all d.body s k) w
  body_by role.Constructor d s f this w = built (f refl) s.class this d.inits s (src.Whole d.brace.line (meaning.stmts_meant p d.body s)) _ (λ k. all d.body s k) refl w
  body_by role.Destructor d s f this w = destroyed_by (f refl) s.class this (src.Then (src.Whole d.brace.line (meaning.stmts_meant p d.body s)) src.Nil) (λ k. (all d.body s (λ c i. k c (inl i)), tt)) w

  unwritten_body : (x : Role) (i : ℕ) → sig.whole ≡ true → sig.this ≡ Some i → In (meaning.unwritten_body p x i) → Fine (meaning.unwritten_body p x i)
  unwritten_body role.Plain i f this w = tt
  unwritten_body role.Constructor i f this w = built_alone f i this w
  unwritten_body role.Destructor i f this w = destroyed f i this (class_at p i) refl src.Nil (λ k. tt) w

  -- all that stands in the routine stands in it
  all_in : (x : Routine) → slice_get (source_of p).routines r ≡ Some x → In x.body
  all_in x e = λ c i. subst (InRoutine c) (sym e) i

  routine : (o : Option Routine) → slice_get (source_of p).routines r ≡ o → SitedRoutine (telling_by p few class naming) r o
  routine None e = tt
  routine (Some x) e = by (in_step p r x e)
    where
      sig_at : (g : Sig) → slice_get (all_sigs p) r ≡ Some g → sig ≡ g
      sig_at g q = ap sig_or_none q

      by : InStep p (routines_of p) (unwritten_of p) r r x (slice_get (all_sigs p) r) → Fine x.body
      by (is_written d texts sites at q o) =
          let s : Scope = meaning.routine_scope p d.routine (place_by p d) r texts sites in
          let same : sig ≡ routine_sig_in p d s = sig_at (routine_sig_in p d s) o in
          subst (λ (z : Routine). Fine z.body) (sym q) (body_by d.routine.sig.role d.routine s (λ plain. ap (λ (g : Sig). g.whole) same ∙ ap not plain) (ap (λ (g : Sig). g.this) same) (subst (λ (z : Routine). In z.body) q (all_in x e)))
      by (nobody_wrote y m k at q o) =
          let same : sig ≡ unwritten_sig p y = sig_at (unwritten_sig p y) o in
          subst (λ (z : Routine). Fine z.body) (sym q) (unwritten_body y.role y.class (ap (λ (g : Sig). g.whole) same) (ap (λ (g : Sig). g.this) same) (subst (λ (z : Routine). In z.body) q (all_in x e)))

pub law_sited : LawSited
law_sited p formed accepted few class naming n = routine p few class naming formed accepted n (slice_get (source_of p).routines n) refl
