-- Only what builds a mutex object has, as a whole, a scope that frees it.
use Rattle.std.proofs.Common.{◌≡◌, ℕ, Bool, true, false, List, [], Option, Some, None, refl, sym, ap, ◌∙◌, subst}
use Rattle.std.specs.Prelude.{slice_get, if◌then◌else◌}
use Rattle.uc_tree.specs.declared.kinds.Kind.{Kind}
use Rattle.uc_tree.specs.declared.kinds.Kind.TheVariants as kind
use Rattle.uc_tree.specs.declared.kinds.Role.{Role}
use Rattle.uc_tree.specs.declared.kinds.Role.TheVariants as role
use Rattle.uc_tree.specs.Cells.{leading_cells}
use Rattle.uc_tree.specs.Programs as whole
use Rattle.uc_tree.specs.Programs.{Program}
use Rattle.uc_tree.specs.Numbering.{is_mutex, is_plain, Defined, routines_of}
use Rattle.uc_tree.specs.Objects.{fields_of, has_execution, class_at, unwritten_of}
use Rattle.uc_tree.specs.Source as src
use Rattle.uc_tree.specs.Source.{Stmts, Routine, routine_or_none}
use Rattle.uc_resolve.specs.Resolve as meaning
use Rattle.uc_resolve.specs.Resolve.{Scope, source_of, place_by, class_by}
use Rattle.uc_typing.specs.Typing.{Inward, Sig, Apart, Makes}
use Rattle.uc_sound.proofs.Ties.{false_true}
use Rattle.uc_sound.specs.Tables.{sig_or_none, inward_in, inward_at, inward_by, role_inward, of_kind, all_sigs, table_of}
use Rattle.uc_sound.proofs.BodyLemmas.{InStep, is_written, nobody_wrote, in_step}
use Rattle.uc_sound.proofs.Signatures.{has_sig}
use Rattle.uc_depth_laws.specs.Entering.{New, holds_object, asks_object, is_building}
use Rattle.uc_sound.proofs.Holding as holding

abbrev pub FreesObject : Stmts → Type 0
FreesObject (src.Scoped (src.Frees r) rest) = Unit {0}
FreesObject ss = ⊥

frees_some : (ss : Stmts) → asks_object ss New ≡ true → FreesObject ss
frees_some (src.Scoped (src.Frees r) rest) e = tt
frees_some ss e = cc

still : (ss : Stmts) → holds_object ss ≡ false → FreesObject ss → ⊥
still (src.Scoped (src.Frees r) rest) h f = false_true (sym h)
still ss h f = f

module _ (p : Program) where
  ending_frees : (b : Bool) (rest : Stmts) → holds_object rest ≡ false → FreesObject (meaning.ending p b rest) → ⊥
  ending_frees true rest h f = f
  ending_frees false rest h f = still rest h f

  freed_frees : (k : Kind) (i : ℕ) (rest : Stmts) → holds_object rest ≡ false → FreesObject (meaning.freed p k i rest) → is_mutex k ≡ true
  freed_frees kind.Monitor i rest h f = refl
  freed_frees kind.Cormonitor i rest h f = refl
  freed_frees kind.Task i rest h f = refl
  freed_frees kind.Class i rest h f = absurd (still rest h f)
  freed_frees kind.Coroutine i rest h f = absurd (still rest h f)
  freed_frees kind.Event i rest h f = absurd (still rest h f)

  constructs : (c : whole.Class) (i : ℕ) (inits : List whole.Init) (s : Scope) (body : Stmts) → holds_object body ≡ false → FreesObject (meaning.construction p (Some c) i inits s body) → is_mutex c.kind ≡ true
  constructs c i inits s body h f =
      freed_frees c.kind i _ (holding.set_up_held p (has_execution c.kind) i _ (holding.fields_built_held p c i inits s (fields_of c.members) (leading_cells c.kind) _ (holding.started_in_held p (has_execution c.kind) body h))) f

  destructs : (o : Option whole.Class) (i : ℕ) (body : Stmts) → holds_object body ≡ false → FreesObject (meaning.destruction p o i body) → ⊥
  destructs None i body h f = still body h f
  destructs (Some c) i body h f =
      ending_frees (is_mutex c.kind) _ (holding.forgotten_held p (has_execution c.kind) _ (holding.fields_left_held p c i (fields_of c.members) (leading_cells c.kind) _ (holding.taken_down_held p (has_execution c.kind) body h))) f

  made_at : (z : Option ℕ) (name : List ℕ) (inits : List whole.Init) (s : Scope) (body : Stmts) → holds_object body ≡ false → FreesObject (meaning.construction p (class_by p z) (meaning.place_or_zero p z) inits s body) → inward_at p z role.Constructor name ≡ Makes
  made_at None name inits s body h f = absurd (still body h f)
  made_at (Some i) name inits s body h f = by (class_at p i) f
    where
      by : (o : Option whole.Class) → FreesObject (meaning.construction p o i inits s body) → inward_in p i o role.Constructor name ≡ Makes
      by None f = absurd (still body h f)
      by (Some c) f = ap (λ (b : Bool). if b then Makes else Apart) (constructs c i inits s body h f)

  written_frees : (x : Role) (r : whole.Routine) (s : Scope) (name : List ℕ) → FreesObject (meaning.body_by p x r s) → inward_at p s.class x name ≡ Makes
  written_frees role.Plain r s name f = absurd (plain (meaning.has_number_in p (class_by p s.class) r.sig) f)
    where
      plain : (b : Bool) → FreesObject (meaning.plain_body p b r (meaning.stmts_meant p r.body s)) → ⊥
      plain true f = f
      plain false f = still (meaning.stmts_meant p r.body s) (holding.stmts_held p r.body s) f
  written_frees role.Constructor r s name f = made_at s.class name r.inits s _ refl f
  written_frees role.Destructor r s name f = absurd (destructs (class_by p s.class) (meaning.place_or_zero p s.class) _ refl f)

  unwritten_frees : (x : Role) (i : ℕ) → FreesObject (meaning.unwritten_body p x i) → role_inward x (of_kind is_mutex (class_at p i)) ≡ Makes
  unwritten_frees role.Plain i f = absurd f
  unwritten_frees role.Constructor i f = by (class_at p i) (holding.ends_held p (class_at p i) i) f
    where
      by : (o : Option whole.Class) → holds_object (meaning.construction_ends p o i) ≡ false → FreesObject (meaning.construction p o i [] (meaning.nowhere p) (meaning.construction_ends p o i)) → role_inward role.Constructor (of_kind is_mutex o) ≡ Makes
      by None h f = absurd (still (meaning.construction_ends p None i) h f)
      by (Some c) h f = ap (role_inward role.Constructor) (constructs c i [] (meaning.nowhere p) (meaning.construction_ends p (Some c) i) h f)
  unwritten_frees role.Destructor i f = absurd (destructs (class_at p i) i src.Nil refl f)

  pub routine_frees : (n : ℕ) (r : Routine) → slice_get (source_of p).routines n ≡ Some r → FreesObject r.body → ((table_of p).routine n).inward ≡ Makes
  routine_frees n r e f = by (in_step p n r e)
    where
      by : InStep p (routines_of p) (unwritten_of p) n n r (slice_get (all_sigs p) n) → ((table_of p).routine n).inward ≡ Makes
      by (is_written d texts sites at q o) =
          ap (λ (g : Sig). g.inward) (has_sig p n d at).sig ∙ written_frees d.routine.sig.role d.routine (meaning.routine_scope p d.routine (place_by p d) n texts sites) d.routine.sig.name (subst (λ (z : Routine). FreesObject z.body) q f)
      by (nobody_wrote x m k at q o) =
          ap (λ (z : Option Sig). (sig_or_none z).inward) o ∙ unwritten_frees x.role x.class (subst (λ (z : Routine). FreesObject z.body) q f)

  -- so nothing else builds one

  of_none : (o : Option Routine) → ((r : Routine) → o ≡ Some r → asks_object r.body New ≡ false) → asks_object (routine_or_none o).body New ≡ false
  of_none None f = refl
  of_none (Some r) f = f r refl

  pub no_building : (n : ℕ) → (((table_of p).routine n).inward ≡ Makes → ⊥) → is_building (source_of p) n ≡ false
  no_building n k = of_none (slice_get (source_of p).routines n) (λ r e. by r e (asks_object r.body New) refl)
    where
      by : (r : Routine) → slice_get (source_of p).routines n ≡ Some r → (b : Bool) → asks_object r.body New ≡ b → asks_object r.body New ≡ false
      by r e true f = absurd (k (routine_frees n r e (frees_some r.body f)))
      by r e false f = f

  -- what is neither a constructor nor a destructor
  plain_inward : (o : Option ℕ) (x : Role) (name : List ℕ) → is_plain x ≡ true → inward_at p o x name ≡ Makes → ⊥
  plain_inward None x name w e = cc
  plain_inward (Some i) role.Constructor name w e = false_true w
  plain_inward (Some i) role.Destructor name w e = false_true w
  plain_inward (Some i) role.Plain name w e = by (class_at p i) e
    where
      apart : (main numbered helps : Bool) → inward_by role.Plain main numbered helps ≡ Makes → ⊥
      apart true numbered helps e = cc
      apart false true helps e = cc
      apart false false true e = cc
      apart false false false e = cc

      mutex : (b : Bool) (x : Inward) → (x ≡ Makes → ⊥) → (if b then x else Apart) ≡ Makes → ⊥
      mutex true x k e = k e
      mutex false x k e = cc

      by : (o : Option whole.Class) → inward_in p i o role.Plain name ≡ Makes → ⊥
      by None e = cc
      by (Some c) e = mutex (is_mutex c.kind) _ (λ k. apart _ _ _ k) e

  pub plain_building : (n : ℕ) (d : Defined) → slice_get (routines_of p) n ≡ Some d → is_plain d.routine.sig.role ≡ true → is_building (source_of p) n ≡ false
  plain_building n d at w =
      no_building n (λ m. plain_inward (place_by p d) d.routine.sig.role d.routine.sig.name w (sym (ap (λ (g : Sig). g.inward) (has_sig p n d at).sig) ∙ m))
