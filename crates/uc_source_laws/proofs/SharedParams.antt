-- What builds a mutex object takes numbers, mutex objects and clusters.
use Rattle.std.proofs.Common.{◌≡◌, ℕ, ◌++◌, inr, List, [], ◌∷◌, Option, Some, None, Bool, true, false, refl, sym, ap, ◌∙◌, subst, map}
use Rattle.std.specs.Prelude.{◌&&◌, slice_get, if◌then◌else◌}
use Rattle.uc_tree.specs.declared.kinds.Kind.{Kind}
use Rattle.uc_tree.specs.declared.kinds.Param.{Param}
use Rattle.uc_tree.specs.declared.kinds.Role.{Role}
use Rattle.uc_tree.specs.declared.kinds.Role.TheVariants as role
use Rattle.uc_tree.specs.Numbering.{is_mutex, Defined, routines_of}
use Rattle.uc_tree.specs.Objects.{class_at, unwritten_of}
use Rattle.uc_tree.specs.Programs.{Class, Program}
use Rattle.uc_tree.specs.Source.{Routine}
use Rattle.uc_resolve.specs.Resolve.{place_by, routine_scope, source_of}
use Rattle.uc_rules.specs.declared.rule.Rule.TheVariants.{S2, O1}
use Rattle.uc_rules.specs.declared.rule.Break.{Break}
use Rattle.uc_rules.specs.declared.rules.OwnClass.{OwnClass}
use Rattle.uc_rules.specs.declared.rules.Sort.{Sort}
use Rattle.uc_rules.specs.declared.rules.Sort.TheVariants as sort
use Rattle.uc_rules.specs.Asked.{unless, of_sort}
use Rattle.uc_rules.specs.Sorts.{sort_of}
use Rattle.uc_rules.specs.Names.{is_constructor}
use Rattle.uc_rules.specs.Scopes.{Env, plain_env, sig_around, with_param, with_params}
use Rattle.uc_rules.specs.ExpressionBreaks.{is_new}
use Rattle.uc_rules.specs.ClassBreaks.{param_breaks}
use Rattle.uc_rules.specs.OwnerBreaks.{is_shared, is_home_of, shared_breaks}
use Rattle.uc_rules.specs.Visits.{AtBase, AtSig, AtParam}
use Rattle.uc_rules.specs.ProgramVisits.{program_visits, base_visits, sig_visits, params_visits, body_visits}
use Rattle.uc_rules.specs.Breaks.{breaks_at}
use Rattle.uc_typing.specs.Typing.{Num, Apart, Makes, Sig}
use Rattle.uc_sound.specs.Agreement.{sort_ty, param_ty}
use Rattle.uc_sound.specs.Unbroken.{Unbroken}
use Rattle.uc_sound.proofs.Ties.{some_same, none_some, false_true}
use Rattle.uc_sound.proofs.UnbrokenLemmas.{none_left, none_right, first, second}
use Rattle.uc_sound.specs.SoundFormed.{IsFormed}
use Rattle.uc_sound.specs.Tables.{inward_by, inward_in, inward_at, routine_sig_in, all_sigs, sig_or_none, table_of}
use Rattle.uc_sound.proofs.Visited.{sort_holds}
use Rattle.uc_sound.proofs.Origins.{origin}
use Rattle.uc_sound.proofs.ClassLemmas.{mutex_is}
use Rattle.uc_sound.proofs.InwardLemmas.{OfMutex, of_mutex}
use Rattle.uc_sound.proofs.RootedLemmas.{HomeIs}
use Rattle.uc_sound.proofs.BodyLemmas.{InStep, is_written, nobody_wrote, in_step}
use Rattle.uc_sound.proofs.DestructionLemmas.{Standing, standing}
use Rattle.uc_source_laws.specs.SourceLaws.{IsShared, AreShared, LawShared}

-- a sort that may be shared
shared_sort : (p : Program) (o : Option Sort) → ((i : ℕ) (k : Kind) → o ≡ Some (sort.Object i k) → is_mutex k ≡ true → (table_of p).mutex i ≡ true) → ((s : Sort) → o ≡ Some s → is_shared s ≡ true) → IsShared (table_of p) (sort_ty o)
shared_sort p None f h = tt
shared_sort p (Some sort.Cluster) f h = tt
shared_sort p (Some (sort.Object i k)) f h = f i k refl (h (sort.Object i k) refl)
shared_sort p (Some sort.Void) f h = false_true (h sort.Void refl)
shared_sort p (Some sort.Int) f h = false_true (h sort.Int refl)
shared_sort p (Some sort.Char) f h = false_true (h sort.Char refl)
shared_sort p (Some sort.Bool) f h = false_true (h sort.Bool refl)
shared_sort p (Some sort.Condition) f h = false_true (h sort.Condition refl)
shared_sort p (Some sort.Processor) f h = false_true (h sort.Processor refl)

module _ (p : Program) where
  param_shared : (env : Env) (x : Param) → env.program ≡ p → is_constructor env.around.role ≡ true → is_home_of is_mutex env.around.home ≡ true → breaks_at (AtParam env x) ≡ [] → IsShared (table_of p) (param_ty p x)
  param_shared env x e r h u = by x.by_ref refl
    where
      own : shared_breaks env x ≡ []
      own = none_left (shared_breaks env x) _ (none_right (param_breaks env x) _ (none_right (unless (is_new env x.name) S2 x.pos) _ u))

      mutex : (i : ℕ) (k : Kind) → sort_of p x.base ≡ Some (sort.Object i k) → is_mutex k ≡ true → (table_of p).mutex i ≡ true
      mutex i k q m = mutex_is p x.base i k q ∙ m

      asked : x.by_ref ≡ true → (s : Sort) → sort_of env.program x.base ≡ Some s → is_shared s ≡ true
      asked b s q =
          let found : List Break = of_sort (sort_of env.program x.base) is_shared O1 x.pos in
          let a = subst (λ (z : Bool). (if z && (is_constructor env.around.role && is_home_of is_mutex env.around.home) then found else []) ≡ []) b own in
          let c = subst (λ (z : Bool). (if z && is_home_of is_mutex env.around.home then found else []) ≡ []) r a in
          let d = subst (λ (z : Bool). (if z then found else []) ≡ []) h c in
          sort_holds (sort_of env.program x.base) s is_shared O1 x.pos [] q (nothing_more found d)
        where
          nothing_more : {A : Type 0} (xs : List A) → xs ≡ [] → xs ++ [] ≡ []
          nothing_more [] q = refl
          nothing_more (x ∷ xs) q = absurd (cc)

      by : (b : Bool) → x.by_ref ≡ b → IsShared (table_of p) (if b then sort_ty (sort_of p x.base) else Num)
      by false b = tt
      by true b = shared_sort p (sort_of p x.base) mutex (λ s q. asked b s (ap (λ z. sort_of z x.base) e ∙ q))

  params_shared : (xs : List Param) (env : Env) → env.program ≡ p → is_constructor env.around.role ≡ true → is_home_of is_mutex env.around.home ≡ true → Unbroken (params_visits env xs) → AreShared (table_of p) (map (param_ty p) xs)
  params_shared [] env e r h u = tt
  params_shared (x ∷ xs) env e r h u =
      (param_shared env x e r h (none_left (breaks_at (AtParam env x)) _ (none_right (breaks_at (AtBase env x.pos x.base)) _ u)), params_shared xs (with_param env x) e r h (second (AtBase env x.pos x.base ∷ (AtParam env x ∷ [])) (params_visits (with_param env x) xs) u))

module _ (p : Program) (formed : IsFormed p) (u : Unbroken (program_visits p)) where
  -- what makes is a constructor
  maker : (o : Option ℕ) (r : Role) (name : List ℕ) → inward_at p o r name ≡ Makes → r ≡ role.Constructor
  maker None r name h = absurd (cc)
  maker (Some i) r name h = by_class (class_at p i) h
    where
      by : (r : Role) (main number helps : Bool) → inward_by r main number helps ≡ Makes → r ≡ role.Constructor
      by role.Constructor main number helps h = refl
      by role.Destructor main number helps h = absurd (cc)
      by role.Plain true number helps h = absurd (cc)
      by role.Plain false true helps h = absurd (cc)
      by role.Plain false false true h = absurd (cc)
      by role.Plain false false false h = absurd (cc)

      by_kind : (b main number helps : Bool) → (if b then inward_by r main number helps else Apart) ≡ Makes → r ≡ role.Constructor
      by_kind true main number helps h = by r main number helps h
      by_kind false main number helps h = absurd (cc)

      by_class : (c : Option Class) → inward_in p i c r name ≡ Makes → r ≡ role.Constructor
      by_class None h = absurd (cc)
      by_class (Some c) h = by_kind (is_mutex c.kind) _ _ _ h

  written : (n : ℕ) (d : Defined) → slice_get (routines_of p) n ≡ Some d → inward_at p (place_by p d) d.routine.sig.role d.routine.sig.name ≡ Makes → AreShared (table_of p) (map (param_ty p) d.routine.sig.params)
  written n d e h = by_home s.home refl s.at
    where
      s : Standing p formed u d
      s = standing p formed u d (origin p n d e)

      m : OfMutex p (place_by p d)
      m = of_mutex p (place_by p d) d.routine.sig.role d.routine.sig.name (inr h)

      start : Option OwnClass → Env
      start o = plain_env p (sig_around p o s.main s.mark d.routine.sig)

      params : Unbroken (params_visits (start s.home) d.routine.sig.params)
      params =
          let a : Unbroken (sig_visits (start s.home) d.routine.sig) = first (sig_visits (start s.home) d.routine.sig) (body_visits (with_params (start s.home) d.routine.sig.params) d.routine) s.visits in
          second (AtSig (start s.home) d.routine.sig ∷ []) (params_visits (start s.home) d.routine.sig.params) (second (base_visits (start s.home) d.routine.sig) (AtSig (start s.home) d.routine.sig ∷ params_visits (start s.home) d.routine.sig.params) a)

      built : is_constructor d.routine.sig.role ≡ true
      built = ap is_constructor (maker (place_by p d) d.routine.sig.role d.routine.sig.name h)

      by_home : (o : Option OwnClass) → s.home ≡ o → HomeIs p formed u d o → AreShared (table_of p) (map (param_ty p) d.routine.sig.params)
      by_home None q at = none_some (sym at ∙ m.is)
      by_home (Some k) q at =
          let place : k.class ≡ m.place = some_same (sym at.3 ∙ m.is) in
          let class : at.0 ≡ m.class = some_same (sym at.1 ∙ (ap (class_at p) place ∙ m.at)) in
          let mutex : is_mutex k.kind ≡ true = ap is_mutex (at.2 ∙ ap (λ (c : Class). c.kind) class) ∙ m.mutex in
          params_shared p d.routine.sig.params (start (Some k)) refl built mutex (subst (λ o. Unbroken (params_visits (start o) d.routine.sig.params)) q params)

  shared : (n : ℕ) (r : Routine) → slice_get (source_of p).routines n ≡ Some r → ((table_of p).routine n).inward ≡ Makes → AreShared (table_of p) ((table_of p).routine n).params
  shared n r e h = by (in_step p n r e)
    where
      by : InStep p (routines_of p) (unwritten_of p) n n r (slice_get (all_sigs p) n) → AreShared (table_of p) ((table_of p).routine n).params
      by (is_written d texts sites f q s) =
          let k : (table_of p).routine n ≡ routine_sig_in p d (routine_scope p d.routine (place_by p d) n texts sites) = ap sig_or_none s in
          subst (λ (g : Sig). AreShared (table_of p) g.params) (sym k) (written n d f (ap (λ (g : Sig). g.inward) (sym k) ∙ h))
      by (nobody_wrote x m a f q s) = subst (λ (g : Sig). AreShared (table_of p) g.params) (sym (ap sig_or_none s)) tt

pub law_shared : LawShared
law_shared p formed unbroken n r e h = shared p formed unbroken n r e h
