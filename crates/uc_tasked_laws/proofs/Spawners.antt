-- What builds a task lets it begin at its end, in each program that breaks no rule.
use Rattle.std.proofs.Common.{◌≡◌, ℕ, suc, ◌+◌, ◌⊎◌, inl, inr, Bool, true, false, List, [], ◌∷◌, Option, Some, None, refl, sym, ap, ◌∙◌, subst}
use Rattle.std.specs.Prelude.{slice_get, if◌then◌else◌}
use Rattle.uc_tree.specs.declared.kinds.Base.{Base}
use Rattle.uc_tree.specs.declared.kinds.Base.TheVariants as base
use Rattle.uc_tree.specs.declared.kinds.Kind.{Kind}
use Rattle.uc_tree.specs.declared.kinds.Kind.TheVariants as kind
use Rattle.uc_tree.specs.declared.kinds.Role.{Role}
use Rattle.uc_tree.specs.declared.kinds.Role.TheVariants as role
use Rattle.uc_tree.specs.Names.{same_name}
use Rattle.uc_tree.specs.Numbering.{is_mutex, routines_of}
use Rattle.uc_tree.specs.Cells.{classes_of, leading_cells, object_of_kind, object_named}
use Rattle.uc_tree.specs.Objects.{Making, AMutex, making_by, making, ClassField, fields_of, has_execution, class_shape, is_task, class_at, written_at, unwritten_of}
use Rattle.uc_tree.specs.Programs as whole
use Rattle.uc_tree.specs.Programs.{Class, Program}
use Rattle.uc_tree.specs.Source as src
use Rattle.uc_tree.specs.Source.{Expr, Source, Stmts, Purpose, Routine}
use Rattle.uc_resolve.specs.Standings as tree
use Rattle.uc_resolve.specs.Standings.{Meant}
use Rattle.uc_resolve.specs.Resolve as meaning
use Rattle.uc_resolve.specs.Resolve.{Scope, source_of, place_by}
use Rattle.uc_rules.specs.declared.rules.Sort.{Sort}
use Rattle.uc_rules.specs.declared.rules.Sort.TheVariants as sort
use Rattle.uc_rules.specs.Breaks.{breaks_of}
use Rattle.uc_rules.specs.Sorts.{class_sort, sort_of}
use Rattle.uc_typing.specs.Typing.{Inward, Apart, Makes, Sig, Table}
use Rattle.uc_typing.specs.States.{IsSorted}
use Rattle.uc_sound.specs.SoundFormed.{IsFormed}
use Rattle.uc_sound.specs.Tables.{sig_or_none, of_kind, inward_by, inward_in, inward_at, role_inward, all_sigs, table_of}
use Rattle.uc_sound.specs.Told.{TellsMaker}
use Rattle.uc_sound.proofs.BodyLemmas.{InStep, is_written, nobody_wrote, in_step}
use Rattle.uc_sound.proofs.ClassLemmas.{mutex_is, law_told}
use Rattle.uc_sound.proofs.DeclaringLemmas.{made_kind, made}
use Rattle.uc_sound.proofs.ObjectLemmas.{Making_is, made_told}
use Rattle.uc_sound.proofs.SoundLemmas.{law_sound}
use Rattle.uc_tasked_laws.specs.Seated.{role_number, number_of, ArePaired, EndsTask, IsTame, AreTame, Begins, SpawnsBy, SpawnsSource}

-- what is made of a sort

kind_made : (i : ℕ) (k : Kind) (name : List ℕ) → making_by (object_of_kind i k) (base.Named name) ≡ made_kind i k
kind_made i kind.Class name = refl
kind_made i kind.Coroutine name = refl
kind_made i kind.Monitor name = refl
kind_made i kind.Cormonitor name = refl
kind_made i kind.Task name = refl
kind_made i kind.Event name = refl

-- a class of which such objects are made has a sort
abbrev HasSort : ℕ → Option Sort → Type 0
HasSort k o = (s : Sort) × (o ≡ Some s) × (made s ≡ Some (AMutex k))

named_sort : (cs : List Class) (i : ℕ) (name : List ℕ) (k : ℕ) → making_by (object_named cs i name) (base.Named name) ≡ Some (AMutex k) → HasSort k (class_sort cs i name)
named_sort [] i name k h = absurd (cc)
named_sort (c ∷ cs) i name k h = by (same_name c.name name) (named_sort cs (i + 1) name k) h
  where
    by : (b : Bool) → (making_by (object_named cs (i + 1) name) (base.Named name) ≡ Some (AMutex k) → HasSort k (class_sort cs (i + 1) name)) → making_by (if b then object_of_kind i c.kind else object_named cs (i + 1) name) (base.Named name) ≡ Some (AMutex k) → HasSort k (if b then Some (sort.Object i c.kind) else class_sort cs (i + 1) name)
    by true f q = (sort.Object i c.kind, refl, sym (kind_made i c.kind name) ∙ q)
    by false f q = f q

base_sort : (p : Program) (b : Base) (k : ℕ) → making p b ≡ Some (AMutex k) → HasSort k (sort_of p b)
base_sort p base.Void k h = absurd (cc)
base_sort p base.Int k h = absurd (cc)
base_sort p base.Char k h = absurd (cc)
base_sort p base.Bool k h = absurd (cc)
base_sort p base.Condition k h = absurd (cc)
base_sort p base.Cluster k h = absurd (cc)
base_sort p base.Processor k h = absurd (cc)
base_sort p (base.Named name) k h = named_sort (classes_of p.items) 0 name k h

-- only what is left as a whole is a constructor or a destructor
builder : (u : Purpose) (w : Bool) → w ≡ true → IsSorted u w → u ≡ src.Builder
builder src.TaskMain w e h = absurd (cc)
builder src.CoroutineMain w e h = absurd (cc)
builder src.Procedure w e h = absurd (cc)
builder src.Function w e h = absurd (cc)
builder src.Builder w e h = refl

-- what makes an object is a constructor

apart_makes : (main numbered helps : Bool) → inward_by role.Plain main numbered helps ≡ Makes → ⊥
apart_makes true numbered helps e = cc
apart_makes false true helps e = cc
apart_makes false false true e = cc
apart_makes false false false e = cc

inward_role : (x : Role) (main numbered helps : Bool) → inward_by x main numbered helps ≡ Makes → x ≡ role.Constructor
inward_role role.Constructor main numbered helps e = refl
inward_role role.Destructor main numbered helps e = absurd (cc)
inward_role role.Plain main numbered helps e = absurd (apart_makes main numbered helps e)

if_makes : (b : Bool) (x : Inward) → (if b then x else Apart) ≡ Makes → x ≡ Makes
if_makes true x e = e
if_makes false x e = absurd (cc)

in_role : (p : Program) (i : ℕ) (o : Option Class) (x : Role) (name : List ℕ) → inward_in p i o x name ≡ Makes → x ≡ role.Constructor
in_role p i None x name e = absurd (cc)
in_role p i (Some c) x name e = inward_role x _ _ _ (if_makes (is_mutex c.kind) _ e)

at_role : (p : Program) (o : Option ℕ) (x : Role) (name : List ℕ) → inward_at p o x name ≡ Makes → x ≡ role.Constructor
at_role p None x name e = absurd (cc)
at_role p (Some i) x name e = in_role p i (class_at p i) x name e

unwritten_role : (x : Role) (b : Bool) → role_inward x b ≡ Makes → x ≡ role.Constructor
unwritten_role role.Constructor b e = refl
unwritten_role role.Destructor true e = absurd (cc)
unwritten_role role.Destructor false e = absurd (cc)
unwritten_role role.Plain b e = absurd (cc)

module _ (p : Program) where
  -- what builds fields, and what stands behind the body

  built : (line : ℕ) (m : Making) (len : Option ℕ) (place : Expr) (args : List Meant) → IsTame (meaning.build p line m len place args)
  built line m None place args = tt
  built line m (Some n) place args = tt

  field_started : (f : ClassField) (place : Expr) (args : List Meant) (rest : Stmts) → AreTame rest → AreTame (meaning.field_started p f place args rest)
  field_started f place [] rest h = h
  field_started f place (m ∷ ms) rest h = (tt, h)

  field_built : (m : Option Making) (f : ClassField) (len : Option ℕ) (place : Expr) (args : List Meant) (rest : Stmts) → AreTame rest → AreTame (meaning.field_built p m f len place args rest)
  field_built None f len place args rest h = field_started f place args rest h
  field_built (Some m) f len place args rest h = (built 0 m len place args, h)

  fields_built : (c : Class) (i : ℕ) (inits : List whole.Init) (s : Scope) (fs : List ClassField) (n : ℕ) (rest : Stmts) → AreTame rest → AreTame (meaning.fields_built p c i inits s fs n rest)
  fields_built c i inits s [] n rest h = h
  fields_built c i inits s (f ∷ fs) n rest h =
      field_built (meaning.field_making p f) f (meaning.length_in_class p c i f) (tree.field_place (class_shape p i) n tree.Own) (meaning.init_args p s (meaning.init_named p inits f.declarator.name)) (meaning.fields_built p c i inits s fs (suc n) rest) (fields_built c i inits s fs (suc n) rest h)

  set_up : (b : Bool) (i : ℕ) (rest : Stmts) → AreTame rest → AreTame (meaning.set_up p b i rest)
  set_up false i rest h = h
  set_up true i rest h = (tt, h)

  started_in : (b : Bool) (body : Stmts) → AreTame body → AreTame (meaning.started_in p b body)
  started_in false body h = h
  started_in true body h = h

  ends : (c : Option Class) (i : ℕ) → AreTame (meaning.construction_ends p c i)
  ends None i = tt
  ends (Some c) i = by (has_execution c.kind)
    where
      by : (b : Bool) → AreTame (meaning.enlivened p b)
      by false = tt
      by true = (tt, tt)

  -- the building of a task begins with its scope
  freed : (k : Kind) (i : ℕ) (rest : Stmts) → is_task k ≡ true → AreTame rest → Begins (meaning.freed p k i rest)
  freed kind.Task i rest h t = (tt, t)
  freed kind.Monitor i rest h t = absurd (cc)
  freed kind.Cormonitor i rest h t = absurd (cc)
  freed kind.Class i rest h t = absurd (cc)
  freed kind.Coroutine i rest h t = absurd (cc)
  freed kind.Event i rest h t = absurd (cc)

  constructed : (c : Option Class) (i : ℕ) (inits : List whole.Init) (s : Scope) (body : Stmts) → AreTame body → of_kind is_task c ≡ true → Begins (meaning.construction p c i inits s body)
  constructed None i inits s body t h = absurd (cc)
  constructed (Some c) i inits s body t h =
      freed c.kind i _ h (set_up (has_execution c.kind) i _ (fields_built c i inits s (fields_of c.members) (leading_cells c.kind) _ (started_in (has_execution c.kind) body t)))

  written : (x : Role) (r : whole.Routine) (s : Scope) (i : ℕ) → x ≡ role.Constructor → s.class ≡ Some i → of_kind is_task (class_at p i) ≡ true → Begins (meaning.body_by p x r s)
  written role.Constructor r s i e q h =
      constructed (meaning.class_by p s.class) (meaning.place_or_zero p s.class) r.inits s _ (tt, ends (meaning.class_by p s.class) (meaning.place_or_zero p s.class)) (ap (λ o. of_kind is_task (meaning.class_by p o)) q ∙ h)
  written role.Plain r s i e q h = absurd (cc)
  written role.Destructor r s i e q h = absurd (cc)

  unwritten : (x : Role) (i : ℕ) → x ≡ role.Constructor → of_kind is_task (class_at p i) ≡ true → Begins (meaning.unwritten_body p x i)
  unwritten role.Constructor i e h = constructed (class_at p i) i [] (meaning.nowhere p) _ (ends (class_at p i) i) h
  unwritten role.Plain i e h = absurd (cc)
  unwritten role.Destructor i e h = absurd (cc)

  same_some : {A : Type 0} {x y : A} → Some x ≡ Some y → x ≡ y
  same_some h = cc

  pub begins : (n i : ℕ) (q : Routine) → slice_get (source_of p).routines n ≡ Some q → ((table_of p).routine n).this ≡ Some i → ((table_of p).routine n).inward ≡ Makes → of_kind is_task (class_at p i) ≡ true → Begins q.body
  begins n i q e this inward h = by (in_step p n q e)
    where
      by : InStep p (routines_of p) (unwritten_of p) n n q (slice_get (all_sigs p) n) → Begins q.body
      by (is_written d texts sites at r o) =
          let g : (table_of p).routine n ≡ _ = ap sig_or_none o in
          subst (λ (z : Routine). Begins z.body) (sym r) (written d.routine.sig.role d.routine (meaning.routine_scope p d.routine (place_by p d) n texts sites) i (at_role p (place_by p d) d.routine.sig.role d.routine.sig.name (sym (ap (λ (g : Sig). g.inward) g) ∙ inward)) (sym (ap (λ (g : Sig). g.this) g) ∙ this) h)
      by (nobody_wrote x m k at r o) =
          let g : (table_of p).routine n ≡ _ = ap sig_or_none o in
          let c : x.class ≡ i = same_some (sym (ap (λ (g : Sig). g.this) g) ∙ this) in
          subst (λ (z : Routine). Begins z.body) (sym r) (unwritten x.role x.class (unwritten_role x.role (of_kind is_mutex (class_at p x.class)) (sym (ap (λ (g : Sig). g.inward) g) ∙ inward)) (subst (λ i. of_kind is_task (class_at p i) ≡ true) (sym c) h))

  module _ (formed : IsFormed p) (accepted : breaks_of p ≡ []) where
    abbrev t : Table
    t = table_of p

    -- of what builds and destroys the objects of a class
    of_maker : {X : Type 0} (f : Sig → X) (v : X) (i : ℕ) (x : Role) → ((n : ℕ) → written_at p i x ≡ Some n → f (t.routine n) ≡ v) → (written_at p i x ≡ None → f (t.routine (role_number p i x None)) ≡ v) → f (t.routine (number_of p i x)) ≡ v
    of_maker f v i x k u = by (written_at p i x) refl
      where
        by : (o : Option ℕ) → written_at p i x ≡ o → f (t.routine (number_of p i x)) ≡ v
        by None e = ap (λ o. f (t.routine (role_number p i x o))) e ∙ u e
        by (Some n) e = ap (λ o. f (t.routine (role_number p i x o))) e ∙ k n e

    ends_of : (i : ℕ) → TellsMaker t p i role.Destructor → (t.routine (number_of p i role.Destructor)).this ≡ Some i
    ends_of i m = of_maker (λ g. g.this) (Some i) i role.Destructor (λ n e. (m.written n e).this) (λ e. m.unwritten_this e)

    module _ (r d : ℕ) (x : ArePaired p r d) where
      is_made : Making_is t (t.routine 0) refl p (AMutex x.class)
      is_made =
          let s = base_sort p x.base x.class x.made in
          (made_told t (t.routine 0) refl p x.base s.0 (AMutex x.class) (law_told p formed accepted) (λ b c k e. mutex_is p b c k e) s.1 s.2).0

      this : (t.routine r).this ≡ Some x.class
      this = ap (λ n. (t.routine n).this) x.builds ∙ of_maker (λ g. g.this) (Some x.class) x.class role.Constructor (λ n e. (is_made.0.written n e).this) (λ e. is_made.0.unwritten_this e)

      all : (t.routine r).whole ≡ true
      all = ap (λ n. (t.routine n).whole) x.builds ∙ of_maker (λ g. g.whole) true x.class role.Constructor (λ n e. is_made.0.written_whole n e) (λ e. is_made.0.unwritten_whole e)

      inward : (t.routine r).inward ≡ Makes
      inward =
          let m : role_inward role.Constructor (t.mutex x.class) ≡ Makes = ap (role_inward role.Constructor) is_made.2 in
          ap (λ n. (t.routine n).inward) x.builds ∙ (of_maker (λ g. g.inward) (role_inward role.Constructor (t.mutex x.class)) x.class role.Constructor (λ n e. is_made.0.written_inward n e) (λ e. is_made.0.unwritten_inward e) ∙ m)

      same : (y : EndsTask p d) → y.class ≡ x.class
      same y =
          let at : (t.routine d).this ≡ Some x.class = ap (λ n. (t.routine n).this) x.ends ∙ ends_of x.class is_made.1 in
          same_some (sym y.this ∙ at)

      spawns : (q : Option Routine) → slice_get (source_of p).routines r ≡ q → SpawnsBy p d q
      spawns None e = tt
      spawns (Some q) e = by (of_kind is_task (class_at p x.class)) refl
        where
          by : (b : Bool) → of_kind is_task (class_at p x.class) ≡ b → (Begins q.body × (q.purpose ≡ src.Builder)) ⊎ (EndsTask p d → ⊥)
          by true h = inl (begins r x.class q e this inward h, builder q.purpose (t.routine r).whole all ((law_sound p formed accepted).routines r q e).purpose)
          by false h = inr (λ y. let k : of_kind is_task (class_at p x.class) ≡ true = subst (λ i. of_kind is_task (class_at p i) ≡ true) (same y) y.tasks in absurd (cc))

    pub spawning : SpawnsSource p (source_of p)
    spawning r d x = spawns r d x (slice_get (source_of p).routines r) refl
