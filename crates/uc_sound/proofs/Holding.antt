-- Which routines of a program hold their object: members with numbers, and what builds and destroys the objects of mutex classes.
use Rattle.std.proofs.Common.{◌≡◌, ℕ, suc, List, [], ◌∷◌, Option, Some, None, Bool, true, false, refl, sym, ap, ◌∙◌, subst, arith}
use Rattle.std.specs.Prelude.{◌&&◌, is_some, slice_get, if◌then◌else◌, option_and_then}
use Rattle.uc_tree.specs.declared.kinds.Base.{Base}
use Rattle.uc_tree.specs.declared.kinds.Kind.{Kind}
use Rattle.uc_tree.specs.declared.kinds.Kind.TheVariants as kind
use Rattle.uc_tree.specs.declared.kinds.Role.{Role}
use Rattle.uc_tree.specs.declared.kinds.Role.TheVariants as role
use Rattle.uc_tree.specs.Cells.{leading_cells}
use Rattle.uc_tree.specs.Numbering.{at_most, exclusive_names, place_from, is_mutex, is_plain, member_number, Defined, routines_of}
use Rattle.uc_tree.specs.declared.limits.TheConstants.{MEMBERS}
use Rattle.uc_tree.specs.Objects.{has_execution, class_at, Making, making, ClassField, fields_of, class_shape, unwritten_of}
use Rattle.uc_tree.specs.Programs as whole
use Rattle.uc_tree.specs.Programs.{Program}
use Rattle.uc_tree.specs.Statements as stmt
use Rattle.uc_tree.specs.Statements.{Declarator}
use Rattle.uc_tree.specs.Source as src
use Rattle.uc_tree.specs.Source.{Stmts, Expr, Routine, routine_or_none}
use Rattle.uc_resolve.specs.Standings as tree
use Rattle.uc_resolve.specs.Standings.{Meant}
use Rattle.uc_resolve.specs.Resolve as meaning
use Rattle.uc_resolve.specs.Resolve.{Scope, source_of, place_by, class_by, has_number_in}
use Rattle.uc_typing.specs.Typing.{Sig}
use Rattle.uc_sound.proofs.Ties.{some_same, false_true}
use Rattle.uc_sound.specs.Tables.{table_of, all_sigs, sig_or_none}
use Rattle.uc_sound.proofs.Lists.{within}
use Rattle.uc_sound.proofs.Signatures.{has_sig}
use Rattle.uc_sound.proofs.BodyLemmas.{InStep, is_written, nobody_wrote, in_step}
use Rattle.uc_depth_laws.specs.Entering.{lets_go, holds_object, is_holding}

module _ (p : Program) where
  -- statements of programs hold nothing

  objects_held : (m : Making) (line : ℕ) (b : Base) (ds : List Declarator) (s : Scope) (rest : Stmts) → holds_object rest ≡ false → holds_object (meaning.objects_scoped p m line b ds s rest) ≡ false
  objects_held m line b [] s rest h = h
  objects_held m line b (d ∷ ds) s rest h = refl

  declared_held : (m : Option Making) (line : ℕ) (b : Base) (ds : List Declarator) (s : Scope) (rest : Stmts) → holds_object rest ≡ false → holds_object (meaning.declared_then p m line b ds s rest) ≡ false
  declared_held None line b ds s rest h = refl
  declared_held (Some m) line b ds s rest h = objects_held m line b ds s rest h

  then_held : (t : stmt.Stmt) (s : Scope) (a : src.Stmt) (rest : Stmts) → holds_object rest ≡ false → holds_object (meaning.stmt_then p t s a rest) ≡ false
  then_held (stmt.Declare place b ds) s a rest h = declared_held (making p b) place.line b ds s rest h
  then_held t s a rest h = refl

  pub stmts_held : (ts : stmt.Stmts) (s : Scope) → holds_object (meaning.stmts_meant p ts s) ≡ false
  stmts_held stmt.NoStmts s = refl
  stmts_held (stmt.MoreStmts t ts) s = then_held t s (meaning.stmt_meant p t s) (meaning.stmts_meant p ts (meaning.scope_after p t s)) (stmts_held ts (meaning.scope_after p t s))

  -- fields

  started_held : (f : ClassField) (place : Expr) (args : List Meant) (rest : Stmts) → holds_object rest ≡ false → holds_object (meaning.field_started p f place args rest) ≡ false
  started_held f place [] rest h = h
  started_held f place (m ∷ ms) rest h = refl

  built_held : (m : Option Making) (f : ClassField) (len : Option ℕ) (place : Expr) (args : List Meant) (rest : Stmts) → holds_object rest ≡ false → holds_object (meaning.field_built p m f len place args rest) ≡ false
  built_held None f len place args rest h = started_held f place args rest h
  built_held (Some m) f len place args rest h = refl

  clean_held : (m : Making) (len : Option ℕ) (place : Expr) → lets_go (meaning.clean_up p m len place) ≡ false
  clean_held m None place = refl
  clean_held m (Some n) place = refl

  left_held : (m : Option Making) (len : Option ℕ) (place : Expr) (rest : Stmts) → holds_object rest ≡ false → holds_object (meaning.field_left p m len place rest) ≡ false
  left_held None len place rest h = h
  left_held (Some m) len place rest h = clean_held m len place

  module _ (c : whole.Class) (i : ℕ) where
    pub fields_built_held : (inits : List whole.Init) (s : Scope) (fs : List ClassField) (n : ℕ) (rest : Stmts) → holds_object rest ≡ false → holds_object (meaning.fields_built p c i inits s fs n rest) ≡ false
    fields_built_held inits s [] n rest h = h
    fields_built_held inits s (f ∷ fs) n rest h =
        built_held (meaning.field_making p f) f (meaning.length_in_class p c i f) (tree.field_place (class_shape p i) n tree.Own) (meaning.init_args p s (meaning.init_named p inits f.declarator.name)) (meaning.fields_built p c i inits s fs (suc n) rest) (fields_built_held inits s fs (suc n) rest h)

    pub fields_left_held : (fs : List ClassField) (n : ℕ) (rest : Stmts) → holds_object rest ≡ false → holds_object (meaning.fields_left p c i fs n rest) ≡ false
    fields_left_held [] n rest h = h
    fields_left_held (f ∷ fs) n rest h =
        left_held (meaning.field_making p f) (meaning.length_in_class p c i f) (tree.field_place (class_shape p i) n tree.Own) (meaning.fields_left p c i fs (suc n) rest) (fields_left_held fs (suc n) rest h)

  -- what builds and destroys the objects of classes that are no mutex classes

  pub set_up_held : (b : Bool) (i : ℕ) (rest : Stmts) → holds_object rest ≡ false → holds_object (meaning.set_up p b i rest) ≡ false
  set_up_held false i rest h = h
  set_up_held true i rest h = refl

  pub started_in_held : (b : Bool) (body : Stmts) → holds_object body ≡ false → holds_object (meaning.started_in p b body) ≡ false
  started_in_held false body h = h
  started_in_held true body h = refl

  enlivened_held : (b : Bool) → holds_object (meaning.enlivened p b) ≡ false
  enlivened_held false = refl
  enlivened_held true = refl

  pub taken_down_held : (b : Bool) (body : Stmts) → holds_object body ≡ false → holds_object (meaning.taken_down p b body) ≡ false
  taken_down_held false body h = h
  taken_down_held true body h = refl

  pub forgotten_held : (b : Bool) (rest : Stmts) → holds_object rest ≡ false → holds_object (meaning.forgotten p b rest) ≡ false
  forgotten_held false rest h = h
  forgotten_held true rest h = refl

  freed_held : (k : Kind) (i : ℕ) (rest : Stmts) → is_mutex k ≡ false → holds_object rest ≡ false → holds_object (meaning.freed p k i rest) ≡ false
  freed_held kind.Class i rest m h = h
  freed_held kind.Coroutine i rest m h = h
  freed_held kind.Event i rest m h = h
  freed_held kind.Monitor i rest m h = false_true (sym m)
  freed_held kind.Cormonitor i rest m h = false_true (sym m)
  freed_held kind.Task i rest m h = false_true (sym m)

  ending_held : (b : Bool) (rest : Stmts) → b ≡ false → holds_object rest ≡ false → holds_object (meaning.ending p b rest) ≡ false
  ending_held false rest e h = h
  ending_held true rest e h = false_true (sym e)

  construction_held : (c : whole.Class) (i : ℕ) (inits : List whole.Init) (s : Scope) (body : Stmts) → is_mutex c.kind ≡ false → holds_object body ≡ false → holds_object (meaning.construction p (Some c) i inits s body) ≡ false
  construction_held c i inits s body m h =
      freed_held c.kind i _ m (set_up_held (has_execution c.kind) i _ (fields_built_held c i inits s (fields_of c.members) (leading_cells c.kind) _ (started_in_held (has_execution c.kind) body h)))

  destruction_held : (c : whole.Class) (i : ℕ) (body : Stmts) → is_mutex c.kind ≡ false → holds_object body ≡ false → holds_object (meaning.destruction p (Some c) i body) ≡ false
  destruction_held c i body m h =
      ending_held (is_mutex c.kind) _ m (forgotten_held (has_execution c.kind) _ (fields_left_held c i (fields_of c.members) (leading_cells c.kind) _ (taken_down_held (has_execution c.kind) body h)))

  -- a class that is no mutex class, or none
  abbrev pub IsFree : Option whole.Class → Type 0
  IsFree None = Unit {0}
  IsFree (Some c) = is_mutex c.kind ≡ false

  no_number : (c : whole.Class) (name : List ℕ) → is_mutex c.kind ≡ false → member_number c name ≡ None
  no_number c name m = ap (λ (b : Bool). option_and_then (at_most MEMBERS) (place_from 1 (if b then exclusive_names [] c.members else []) name)) m

  free_number : (o : Option whole.Class) (s : whole.Sig) → IsFree o → has_number_in p o s ≡ false
  free_number None s f = refl
  free_number (Some c) s f = by (is_plain s.role) (ap is_some (no_number c s.name f))
    where
      by : (b : Bool) {x : Bool} → x ≡ false → (b && x) ≡ false
      by true e = e
      by false e = refl

  plain_held : (b : Bool) (r : whole.Routine) (body : Stmts) → b ≡ false → holds_object body ≡ false → holds_object (meaning.plain_body p b r body) ≡ false
  plain_held false r body e h = h
  plain_held true r body e h = false_true (sym e)

  free_construction : (o : Option whole.Class) (i : ℕ) (inits : List whole.Init) (s : Scope) (body : Stmts) → IsFree o → holds_object body ≡ false → holds_object (meaning.construction p o i inits s body) ≡ false
  free_construction None i inits s body f h = h
  free_construction (Some c) i inits s body f h = construction_held c i inits s body f h

  free_destruction : (o : Option whole.Class) (i : ℕ) (body : Stmts) → IsFree o → holds_object body ≡ false → holds_object (meaning.destruction p o i body) ≡ false
  free_destruction None i body f h = h
  free_destruction (Some c) i body f h = destruction_held c i body f h

  pub ends_held : (o : Option whole.Class) (i : ℕ) → holds_object (meaning.construction_ends p o i) ≡ false
  ends_held None i = refl
  ends_held (Some c) i = enlivened_held (has_execution c.kind)

  body_held : (x : Role) (r : whole.Routine) (s : Scope) → IsFree (class_by p s.class) → holds_object (meaning.body_by p x r s) ≡ false
  body_held role.Plain r s f = plain_held (has_number_in p (class_by p s.class) r.sig) r _ (free_number (class_by p s.class) r.sig f) (stmts_held r.body s)
  body_held role.Constructor r s f = free_construction (class_by p s.class) (meaning.place_or_zero p s.class) r.inits s _ f refl
  body_held role.Destructor r s f = free_destruction (class_by p s.class) (meaning.place_or_zero p s.class) _ f refl

  unwritten_held : (x : Role) (i : ℕ) → IsFree (class_at p i) → holds_object (meaning.unwritten_body p x i) ≡ false
  unwritten_held role.Plain i f = refl
  unwritten_held role.Constructor i f = free_construction (class_at p i) i [] (meaning.nowhere p) _ f (ends_held (class_at p i) i)
  unwritten_held role.Destructor i f = free_destruction (class_at p i) i src.Nil f refl

  -- routines by their numbers

  of_none : (n : ℕ) (o : Option Routine) → ((r : Routine) → o ≡ Some r → holds_object r.body ≡ false) → holds_object (routine_or_none o).body ≡ false
  of_none n None f = refl
  of_none n (Some r) f = f r refl

  -- a routine of a class that is no mutex class, as its signature tells, holds nothing
  pub free_routine : (n : ℕ) → IsFree (class_by p ((table_of p).routine n).this) → is_holding (source_of p) n ≡ false
  free_routine n f = of_none n (slice_get (source_of p).routines n) (λ r e. by r (in_step p n r e))
    where
      by : (r : Routine) → InStep p (routines_of p) (unwritten_of p) n n r (slice_get (all_sigs p) n) → holds_object r.body ≡ false
      by r (is_written d texts sites at q o) =
          let s = has_sig p n d at in
          let this : ((table_of p).routine n).this ≡ place_by p d = ap (λ (g : Sig). g.this) s.sig in
          let w : IsFree (class_by p (place_by p d)) = subst (λ z. IsFree (class_by p z)) this f in
          ap (λ (z : Routine). holds_object z.body) q ∙ body_held d.routine.sig.role d.routine (meaning.routine_scope p d.routine (place_by p d) n texts sites) w
      by r (nobody_wrote x m k at q o) =
          let this : ((table_of p).routine n).this ≡ Some x.class = ap (λ (z : Option Sig). (sig_or_none z).this) o in
          let w : IsFree (class_at p x.class) = subst (λ z. IsFree (class_by p z)) this f in
          ap (λ (z : Routine). holds_object z.body) q ∙ unwritten_held x.role x.class w

  -- nor does a member without a number
  pub plain_routine : (n : ℕ) (d : Defined) → slice_get (routines_of p) n ≡ Some d → is_plain d.routine.sig.role ≡ true → has_number_in p (class_by p (place_by p d)) d.routine.sig ≡ false → is_holding (source_of p) n ≡ false
  plain_routine n d e w f = of_none n (slice_get (source_of p).routines n) (λ r q. by r (in_step p n r q))
    where
      plain : (x : Role) → is_plain x ≡ true → (s : Scope) → has_number_in p (class_by p s.class) d.routine.sig ≡ false → holds_object (meaning.body_by p x d.routine s) ≡ false
      plain role.Plain w s f = plain_held (has_number_in p (class_by p s.class) d.routine.sig) d.routine _ f (stmts_held d.routine.body s)
      plain role.Constructor w s f = false_true w
      plain role.Destructor w s f = false_true w

      by : (r : Routine) → InStep p (routines_of p) (unwritten_of p) n n r (slice_get (all_sigs p) n) → holds_object r.body ≡ false
      by r (is_written x texts sites at q o) =
          let same : x ≡ d = some_same (sym at ∙ e) in
          let h = plain d.routine.sig.role w (meaning.routine_scope p d.routine (place_by p d) n texts sites) f in
          ap (λ (z : Routine). holds_object z.body) q ∙ subst (λ (z : Defined). holds_object (meaning.routine_meant p z.routine (meaning.routine_scope p z.routine (place_by p z) n texts sites)).body ≡ false) (sym same) h
      by r (nobody_wrote x m k at q o) =
          let l = within (routines_of p) n d e in
          let z : ⊥ = omega (arith, l, k) in
          absurd z
