-- What makes a mutex object calls a routine that builds it: that is, as a whole, in the scope at whose end the object is free, and comes to its end there.
use Rattle.std.proofs.Common.{◌≡◌, ℕ, inl, inr, Bool, true, false, List, [], Option, Some, None, refl, sym, ap, ◌∙◌, subst}
use Rattle.std.specs.Prelude.{slice_get, if◌then◌else◌, is_some}
use Rattle.uc_tree.specs.declared.kinds.Kind.{Kind}
use Rattle.uc_tree.specs.declared.kinds.Kind.TheVariants as kind
use Rattle.uc_tree.specs.declared.kinds.Role.{Role}
use Rattle.uc_tree.specs.declared.kinds.Role.TheVariants as role
use Rattle.uc_tree.specs.Programs.{Class, Init, Program, Routine as Declared}
use Rattle.uc_tree.specs.Names.{same_name}
use Rattle.uc_tree.specs.Numbering.{is_mutex, main_name, member_number, routines_of}
use Rattle.uc_tree.specs.Objects.{class_at, unwritten_of}
use Rattle.uc_tree.specs.Source as src
use Rattle.uc_tree.specs.Source.{CleanUp, Stmts, Routine, Purpose}
use Rattle.uc_machine.specs.Quiet.{behind_body}
use Rattle.uc_resolve.specs.Resolve as meaning
use Rattle.uc_resolve.specs.Resolve.{Scope, source_of, place_by}
use Rattle.uc_rules.specs.Breaks.{breaks_of}
use Rattle.uc_rules.specs.Names.{member_named}
use Rattle.uc_typing.specs.Typing.{Apart, Makes, Sig}
use Rattle.uc_sound.specs.SoundFormed.{IsFormed}
use Rattle.uc_sound.specs.Tables.{sig_or_none, helps_in, inward_by, inward_in, inward_at, role_inward, of_kind, all_sigs, table_of}
use Rattle.uc_sound.proofs.BodyLemmas.{InStep, is_written, nobody_wrote, in_step}
use Rattle.uc_sound.proofs.Signatures.{has_sig}
use Rattle.uc_putting_laws.specs.PuttingLaws.{special_of}
use Rattle.uc_parts_laws.specs.Parts.{CleansInner, InnerStmts, PartsRoutine}
use Rattle.uc_parts_laws.proofs.PartSources.{law_parts_sources}
use Rattle.uc_homed_ends.specs.Freeing.{IsFreeing, OpensFreeing, Builds}

-- such a routine builds, and nothing else is such a scope

clean_not : (c : CleanUp) → IsFreeing c → CleansInner c → ⊥
clean_not (src.Frees r) o h = h
clean_not c o h = o

inner_not : (ss : Stmts) → OpensFreeing ss → InnerStmts ss → ⊥
inner_not (src.Scoped c rest) o h = clean_not c o h.0
inner_not ss o h = o

part_builds : (special : ℕ → Bool) (b : Bool) (r : Routine) → OpensFreeing r.body → PartsRoutine special b (Some r) → r.purpose ≡ src.Builder
part_builds special true r o (inl h) = absurd (inner_not r.body o h)
part_builds special true r o (inr h) = h.0
part_builds special false r o h = absurd (inner_not r.body o h)

apart_not : {A : Type 0} → Apart ≡ Makes → A
apart_not e = absurd (cc)

module _ (p : Program) where
  freed_opens : (k : Kind) (i : ℕ) (rest : Stmts) → is_mutex k ≡ true → OpensFreeing (meaning.freed p k i rest)
  freed_opens kind.Monitor i rest h = tt
  freed_opens kind.Cormonitor i rest h = tt
  freed_opens kind.Task i rest h = tt
  freed_opens kind.Class i rest h = absurd (cc)
  freed_opens kind.Coroutine i rest h = absurd (cc)
  freed_opens kind.Event i rest h = absurd (cc)

  -- of a class
  abbrev Constructs : Option Class → ℕ → List Init → Scope → Stmts → Type 0
  Constructs o i inits s body = OpensFreeing (meaning.construction p o i inits s body)

  in_class : (o : Option Class) (x : Role) (i : ℕ) (name : List ℕ) → inward_in p i o x name ≡ Makes → (x ≡ role.Constructor) × ((inits : List Init) (s : Scope) (body : Stmts) → Constructs o i inits s body)
  in_class None x i name e = apart_not e
  in_class (Some c) x i name e = by (is_mutex c.kind) refl x e
    where
      by : (b : Bool) → is_mutex c.kind ≡ b → (x : Role) → (if b then inward_by x (same_name name main_name) (is_some (member_number c name)) (helps_in (member_named p i name)) else Apart) ≡ Makes → (x ≡ role.Constructor) × ((inits : List Init) (s : Scope) (body : Stmts) → Constructs (Some c) i inits s body)
      by false m x e = apart_not e
      by true m role.Constructor e = (refl, λ inits s body. freed_opens c.kind i _ m)
      by true m role.Destructor e = absurd (cc)
      by true m role.Plain e = absurd (plain (same_name name main_name) (is_some (member_number c name)) (helps_in (member_named p i name)) e)
        where
          plain : (main numbered helps : Bool) → inward_by role.Plain main numbered helps ≡ Makes → ⊥
          plain true numbered helps e = cc
          plain false true helps e = cc
          plain false false true e = cc
          plain false false false e = cc

  written_opens : (o : Option ℕ) (x : Role) (name : List ℕ) (r : Declared) (s : Scope) → s.class ≡ o → inward_at p o x name ≡ Makes → OpensFreeing (meaning.body_by p x r s)
  written_opens None x name r s q e = apart_not e
  written_opens (Some i) x name r s q e =
      let k = in_class (class_at p i) x i name e in
      subst (λ y. OpensFreeing (meaning.body_by p y r s)) (sym k.0) (subst (λ z. (inits : List Init) (b : Stmts) → Constructs (meaning.class_by p z) (meaning.place_or_zero p z) inits s b) (sym q) (λ inits b. k.1 inits s b) r.inits _)

  unwritten_opens : (x : Role) (i : ℕ) → role_inward x (of_kind is_mutex (class_at p i)) ≡ Makes → OpensFreeing (meaning.unwritten_body p x i)
  unwritten_opens role.Plain i e = apart_not e
  unwritten_opens role.Destructor i e = absurd (by (of_kind is_mutex (class_at p i)) e)
    where
      by : (b : Bool) → role_inward role.Destructor b ≡ Makes → ⊥
      by true e = cc
      by false e = cc
  unwritten_opens role.Constructor i e = by (class_at p i) e (meaning.construction_ends p (class_at p i) i)
    where
      at : (c : Class) (b : Bool) → is_mutex c.kind ≡ b → role_inward role.Constructor b ≡ Makes → (body : Stmts) → Constructs (Some c) i [] (meaning.nowhere p) body
      at c true m e body = freed_opens c.kind i _ m
      at c false m e body = apart_not e

      by : (o : Option Class) → role_inward role.Constructor (of_kind is_mutex o) ≡ Makes → (body : Stmts) → Constructs o i [] (meaning.nowhere p) body
      by None e body = apart_not e
      by (Some c) e body = at c (is_mutex c.kind) refl e body

  pub makes_opens : (n : ℕ) (r : Routine) → slice_get (source_of p).routines n ≡ Some r → ((table_of p).routine n).inward ≡ Makes → OpensFreeing r.body
  makes_opens n r e m = by (in_step p n r e)
    where
      by : InStep p (routines_of p) (unwritten_of p) n n r (slice_get (all_sigs p) n) → OpensFreeing r.body
      by (is_written d texts sites at q o) =
          subst (λ (z : Routine). OpensFreeing z.body) (sym q) (written_opens (place_by p d) d.routine.sig.role d.routine.sig.name d.routine (meaning.routine_scope p d.routine (place_by p d) n texts sites) refl (sym (ap (λ (g : Sig). g.inward) (has_sig p n d at).sig) ∙ m))
      by (nobody_wrote x i k at q o) =
          subst (λ (z : Routine). OpensFreeing z.body) (sym q) (unwritten_opens x.role x.class (sym (ap (λ (z : Option Sig). (sig_or_none z).inward) o) ∙ m))

  -- so it builds the object for which it is called
  pub makes_builds : IsFormed p → breaks_of p ≡ [] → (n : ℕ) → ((table_of p).routine n).inward ≡ Makes → Builds (source_of p) n
  makes_builds formed ok n m r e =
      let o : OpensFreeing r.body = makes_opens n r e m in
      let builder : r.purpose ≡ src.Builder = part_builds (special_of p) (special_of p n) r o (subst (PartsRoutine (special_of p) (special_of p n)) e ((law_parts_sources p formed ok).routines n)) in
      inl (o, subst (λ (q : Purpose). behind_body q r.line ≡ []) (sym builder) refl)
