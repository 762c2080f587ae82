-- What builds an object is in order: its fields are built or bound, or have their values, by the initialisers.
use Rattle.std.proofs.Common.{◌≡◌, ℕ, suc, ◌+◌, ◌⊎◌, inl, inr, List, [], ◌∷◌, length, Option, Some, None, Bool, true, false, refl, sym, ap, ◌∙◌, subst, arith}
use Rattle.std.specs.Prelude.{◌&&◌, ◌||◌, not, slice_get, if◌then◌else◌, nat_eq, option_map, is_some}
use Rattle.std.specs.List.{list_any}
use Rattle.std.proofs.lemmas.Bool.{eqb-true}
use Rattle.uc_tree.specs.declared.kinds.Kind.{Kind}
use Rattle.uc_tree.specs.declared.kinds.Kind.TheVariants as kind
use Rattle.uc_tree.specs.declared.kinds.Param.{Param}
use Rattle.uc_tree.specs.declared.kinds.Role.TheVariants as role
use Rattle.uc_tree.specs.Expressions as expr
use Rattle.uc_tree.specs.Names.{same_name}
use Rattle.uc_tree.specs.Constants.{constants_of, elements}
use Rattle.uc_tree.specs.Cells.{leading_cells, seen_in}
use Rattle.uc_tree.specs.Numbering.{is_event, is_public}
use Rattle.uc_tree.specs.Objects.{ClassField, fields_of, class_at, class_shape, shape_of, written_at, Making, APlain, AMutex, making}
use Rattle.uc_tree.specs.Statements.{Declarator}
use Rattle.uc_tree.specs.Programs.{Init, Member, Class, Program}
use Rattle.uc_tree.specs.Source.{Stmts}
use Rattle.uc_resolve.specs.Standings as tree
use Rattle.uc_resolve.specs.Standings.{meant, args_by, args_meant, value_of, converted, field_place, params_of}
use Rattle.uc_resolve.specs.Resolve.{Scope, init_named, init_args, field_making, field_built, field_started, field_start, fields_built, length_in_class, cluster_in}
use Rattle.uc_rules.specs.declared.rule.Rule.TheVariants.{S2, S4, S16, S17, S18, S22}
use Rattle.uc_rules.specs.declared.rules.Entity.{Entity}
use Rattle.uc_rules.specs.declared.rules.Expected.TheVariants as expected_of
use Rattle.uc_rules.specs.declared.rules.FieldPlace.{FieldPlace}
use Rattle.uc_rules.specs.declared.rules.OwnClass.{OwnClass}
use Rattle.uc_rules.specs.declared.rules.NameMeaning.{NameMeaning}
use Rattle.uc_rules.specs.declared.rules.Origin.{Origin}
use Rattle.uc_rules.specs.declared.rules.Origin.TheVariants as origin
use Rattle.uc_rules.specs.declared.rules.Sort.{Sort}
use Rattle.uc_rules.specs.declared.rules.Sort.TheVariants as sort
use Rattle.uc_rules.specs.declared.rules.Target.{Target}
use Rattle.uc_rules.specs.declared.rules.Target.TheVariants as target
use Rattle.uc_rules.specs.Asked.{unless, asked, of_sort}
use Rattle.uc_rules.specs.Sorts.{is_void, is_coroutine, is_condition, is_scalar_sort, is_event_class, of_class, sort_of}
use Rattle.uc_rules.specs.Names.{member_named, variable, declared_entity, constructor_params}
use Rattle.uc_rules.specs.Scopes.{Env, plain_env, class_around}
use Rattle.uc_rules.specs.Entities.{count, is_scalar, expected, param_expected, reference_to, fits}
use Rattle.uc_rules.specs.ClassBreaks.{is_new_field, fields_at, home_leads_back, is_field_sort, may_init, is_from, maybe_start, may_start, init_count_breaks, entity_takes, sort_takes, is_by_ref, needs_init, maybe_needs, sort_needs, is_unset, form_unset, has_unset}
use Rattle.uc_rules.specs.ExpressionBreaks.{are_single, is_scalar_of, length_breaks, length_value_breaks, is_element, is_no_event}
use Rattle.uc_rules.specs.OwnerBreaks.{is_field_origin}
use Rattle.uc_rules.specs.Visits.{single_target}
use Rattle.uc_rules.specs.ProgramVisits.{program_visits, home_member, field_of, bound_target, maybe_bound_target, origin_target, meant_target, init_target, init_arg_visits, init_args_visits, inits_visits}
use Rattle.uc_typing.specs.Typing.{Ty, Num, Cell, Clu, Name, Own, Sig, Table, IsPlaced, Yields, GiveAll, Fine, FineStmts}
use Rattle.uc_sound.specs.Agreement.{found_ty, sort_ty, IsLike, context}
use Rattle.uc_sound.specs.Fields.{field_ty, TellsClass}
use Rattle.uc_sound.specs.Unbroken.{Unbroken}
use Rattle.uc_sound.proofs.Ties.{some_same, none_some, false_true, scalar, converted_fine, arg_ok}
use Rattle.uc_sound.proofs.UnbrokenLemmas.{none_left, none_right, first, holds}
use Rattle.uc_sound.proofs.Asking.{only}
use Rattle.uc_sound.proofs.FieldsLemmas.{Found, found}
use Rattle.uc_sound.specs.SoundFormed.{IsFormed}
use Rattle.uc_sound.specs.Tables.{table_of}
use Rattle.uc_sound.specs.Told.{Told, TellsMaker}
use Rattle.uc_sound.specs.Rooted.{Within}
use Rattle.uc_sound.proofs.Lists.{left_is, right_is, not_is, not_not, or_right, case_of, any_from}
use Rattle.uc_sound.proofs.Visited.{FieldRules, sort_holds, home, field_rules}
use Rattle.uc_sound.proofs.ClassNames.{same_is}
use Rattle.uc_sound.proofs.ClassLemmas.{mutex_is, law_told}
use Rattle.uc_sound.proofs.DeclaringLemmas.{made, made_kind, making_is, raw_scalar, scalar_place}
use Rattle.uc_sound.proofs.ObjectLemmas.{Given, Making_is, made_told, build_fine, clean_fine, element_by, cluster_found}
use Rattle.uc_sound.proofs.DestructionLemmas.{FieldFine, all_fine, own_cleaned}
use Rattle.uc_sound.proofs.ConstructionLemmas.{argument, init_args as given_args, InitFound, init_found, AreOne, one_field}

-- a field that a name finds has the name
field_name : (fs : List ClassField) (k n : ℕ) (name : List ℕ) (f : ClassField) → tree.field_named k fs name ≡ Some (record { number = n; field = f }) → f.declarator.name ≡ name
field_name [] k n name f h = none_some h
field_name (x ∷ fs) k n name f h = by (same_name x.declarator.name name) refl h (field_name fs (suc k) n name f)
  where
    by : (b : Bool) → same_name x.declarator.name name ≡ b → (if b then Some (record { number = k; field = x }) else tree.field_named (suc k) fs name) ≡ Some (record { number = n; field = f }) → (tree.field_named (suc k) fs name ≡ Some (record { number = n; field = f }) → f.declarator.name ≡ name) → f.declarator.name ≡ name
    by true q e ih = ap (λ (z : tree.NumberedField). z.field.declarator.name) (sym (some_same e)) ∙ same_is x.declarator.name name q
    by false q e ih = ih e

field_target : (e : Option Entity) (o : Origin) → is_field_origin o ≡ true → origin_target e o ≡ maybe_bound_target (is_by_ref o) e
field_target e (origin.Field class k a b place) h = refl
field_target e _ h = false_true h

from_field : (last : Option FieldPlace) (o : Origin) → is_from last o ≡ true → is_field_origin o ≡ true
from_field last (origin.Field class k a b place) h = refl
from_field last _ h = false_true h

module _ (p : Program) (formed : IsFormed p) (u : Unbroken (program_visits p)) (i : ℕ) (c : Class) (e : class_at p i ≡ Some c) (g : Sig) (this : g.this ≡ Some i) where
  abbrev pub t : Table
  t = table_of p

  told : Told t p
  told = law_told p formed u

  abbrev pub rules_of : (k : ℕ) (f : ClassField) → slice_get (fields_of c.members) k ≡ Some f → FieldRules p (home p u i c) c f
  rules_of k f at = field_rules p u i c e k f at

  -- what is asked of a field
  record Asked (k : ℕ) (f : ClassField) (at : slice_get (fields_of c.members) k ≡ Some f) : Type 0 where
    no_void : is_void (rules_of k f at).sort ≡ false
    element : f.declarator.by_ref ≡ false → is_some f.declarator.len ≡ true → is_element p (rules_of k f at).sort ≡ true
    no_event : of_class is_event_class (rules_of k f at).sort ≡ false

  asked_of : (k : ℕ) (f : ClassField) (at : slice_get (fields_of c.members) k ≡ Some f) → Asked k f at
  asked_of k f at =
      let r = rules_of k f at in
      let d = f.declarator in
      let env = plain_env p (class_around (home p u i c)) in
      let h1 = none_right (unless (is_new_field c r.place (fields_at c r.place.member) d.name) S2 d.pos) _ r.own in
      let h2 = none_right (unless (not (home_leads_back p env.around.home f.base d)) S4 d.pos) _ h1 in
      let h3 = none_right (length_breaks env d.by_ref d.len d.pos) _ h2 in
      let h4 = none_right (length_value_breaks env d.len) _ h3 in
      let h5 = none_right (of_sort (sort_of p f.base) (is_field_sort p d) S16 d.pos) _ h4 in
      let h6 = none_right (unless (not (is_coroutine c.kind && is_public r.access)) S18 d.pos) _ h5 in
      let a = sort_holds (sort_of p f.base) r.sort (is_field_sort p d) S16 d.pos _ r.base h4 in
      record {
        no_void = not_is (is_void r.sort) (left_is (not (is_void r.sort)) _ a);
        element = λ w l. by d.by_ref (is_some d.len) (is_element p r.sort) w l (right_is (not (is_void r.sort)) (d.by_ref || (not (is_some d.len) || is_element p r.sort)) a);
        no_event = not_is (of_class is_event_class r.sort) (sort_holds (sort_of p f.base) r.sort is_no_event S22 d.pos _ r.base h6);
      }
    where
      by : (a b z : Bool) → a ≡ false → b ≡ true → (a || (not b || z)) ≡ true → z ≡ true
      by true b z q l h = false_true (sym q)
      by false true z q l h = h
      by false false z q l h = false_true l

  -- what a field starts with
  pub record Starts (k : ℕ) (f : ClassField) (at : slice_get (fields_of c.members) k ≡ Some f) (args : List tree.Meant) : Type 0 where
    reference : f.declarator.by_ref ≡ true → (m : tree.Meant) (ms : List tree.Meant) → args ≡ m ∷ ms → (sc : List Name) → Yields t g sc m.expr (found_ty (rules_of k f at).sort)
    single : f.declarator.by_ref ≡ false → made (rules_of k f at).sort ≡ None → (m : tree.Meant) (ms : List tree.Meant) → args ≡ m ∷ ms → f.declarator.len ≡ None
    scalar_value : f.declarator.by_ref ≡ false → made (rules_of k f at).sort ≡ None → (m : tree.Meant) (ms : List tree.Meant) → args ≡ m ∷ ms → (is_scalar_sort (rules_of k f at).sort ≡ true) × ((sc : List Name) → Yields t g sc (value_of m) Num)
    object : (m : Making) → f.declarator.by_ref ≡ false → made (rules_of k f at).sort ≡ Some m → f.declarator.len ≡ None → (sc : List Name) → Given t g refl sc p m args

  module _ (k : ℕ) (f : ClassField) (at : slice_get (fields_of c.members) k ≡ Some f) where
    abbrev r : FieldRules p (home p u i c) c f
    r = rules_of k f at

    tells : TellsClass t p i c
    tells = told.classes i c e

    abbrev n : ℕ
    n = leading_cells c.kind + k

    -- the place of a field that is bound, or of a scalar
    bound_place : f.declarator.by_ref ≡ true → (sc : List Name) → Yields t g sc (field_place (class_shape p i) n tree.Own) (Cell (found_ty r.sort))
    bound_place w sc =
        let z : t.fields i n ≡ Cell (found_ty r.sort) = tells.fields k f r.sort at r.base ∙ ap (λ b. field_ty b f.declarator.len (elements (seen_in (constants_of p.items) c) f.declarator) r.sort) w in
        (i, this, refl, subst (IsPlaced t) (sym z) tt, inl (sym z))

    scalar_at : f.declarator.by_ref ≡ false → f.declarator.len ≡ None → is_scalar_sort r.sort ≡ true → (sc : List Name) → Yields t g sc (field_place (class_shape p i) n tree.Own) (Cell Num)
    scalar_at w l s sc =
        let z : t.fields i n ≡ Cell Num = tells.fields k f r.sort at r.base ∙ (ap (λ b. field_ty b f.declarator.len (elements (seen_in (constants_of p.items) c) f.declarator) r.sort) w ∙ (ap (λ l. field_ty false l (elements (seen_in (constants_of p.items) c) f.declarator) r.sort) l ∙ scalar_place t g refl r.sort s)) in
        (i, this, refl, subst (IsPlaced t) (sym z) tt, inl (sym z))

    started : (args : List tree.Meant) → Starts k f at args → field_making p f ≡ None → (rest : Stmts) (sc : List Name) → FineStmts t g sc rest → FineStmts t g sc (field_started p f (field_place (class_shape p i) n tree.Own) args rest)
    started [] s none rest sc h = h
    started (m ∷ ms) s none rest sc h = (by f.declarator.by_ref refl none, h)
      where
        by : (b : Bool) → f.declarator.by_ref ≡ b → (if b then None else making p f.base) ≡ None → Fine t g sc (field_start p b (shape_of f.base) (field_place (class_shape p i) n tree.Own) m)
        by true w q = (found_ty r.sort, (bound_place w sc, s.reference w m ms refl sc))
        by false w q =
            let o : made r.sort ≡ None = sym (making_is p f.base r.sort r.base) ∙ q in
            let v = s.scalar_value w o m ms refl in
            (Num, (refl, scalar_at w (s.single w o m ms refl) v.0 sc, converted_fine t g sc p refl (shape_of f.base) (value_of m) (v.1 sc)))

    one_built : (args : List tree.Meant) → Starts k f at args → FieldFine p formed u i c e g this n f → (rest : Stmts) (sc : List Name) → FineStmts t g sc rest → (o : Option Making) → field_making p f ≡ o → FineStmts t g sc (field_built p o f (length_in_class p c i f) (field_place (class_shape p i) n tree.Own) args rest)
    one_built args s a rest sc h None q = started args s q rest sc h
    one_built args s a rest sc h (Some m) q =
        let x = a m q in
        let b = by_making f.declarator.by_ref refl q in
        (build_fine t g refl sc p 0 m (length_in_class p c i f) (field_place (class_shape p i) n tree.Own) args x.0 (x.2 sc) (λ l. s.object m b.0 b.1 (no_length f.declarator.len l) sc) (λ l. element_by t g refl sc p r.sort m b.1 x.0 ((asked_of k f at).element b.0 (has_length f.declarator.len l))), (h, (clean_fine t g refl sc p m (length_in_class p c i f) (field_place (class_shape p i) n tree.Own) x.0 (x.2 sc), (Own n, own_cleaned p formed u i c e g this f n m a q))))
      where
        by_making : (z : Bool) → f.declarator.by_ref ≡ z → (if z then None else making p f.base) ≡ Some m → (f.declarator.by_ref ≡ false) × (made r.sort ≡ Some m)
        by_making true w q = none_some q
        by_making false w q = (w, sym (making_is p f.base r.sort r.base) ∙ q)

        no_length : (l : Option expr.Expr) → tree.field_length (seen_in (constants_of p.items) c) f.declarator l ≡ None → l ≡ None
        no_length None q = refl
        no_length (Some x) q = absurd (cc)

        has_length : (l : Option expr.Expr) → is_some (tree.field_length (seen_in (constants_of p.items) c) f.declarator l) ≡ true → is_some l ≡ true
        has_length None q = q
        has_length (Some x) q = refl

  -- all fields, the first of which has the number k among those of the class

  abbrev pub Behind : ℕ → List ClassField → Type 0
  Behind k fs = (m n : ℕ) (f : ClassField) → k + m ≡ n → slice_get fs m ≡ Some f → slice_get (fields_of c.members) n ≡ Some f

  pub built_fine : (inits : List Init) (s : Scope) → ((k : ℕ) (f : ClassField) (at : slice_get (fields_of c.members) k ≡ Some f) → Starts k f at (init_args p s (init_named p inits f.declarator.name))) → (fs : List ClassField) (k number : ℕ) → leading_cells c.kind + k ≡ number → Behind k fs → (rest : Stmts) (sc : List Name) → FineStmts t g sc rest → FineStmts t g sc (fields_built p c i inits s fs number rest)
  built_fine inits s starts [] k number q b rest sc h = h
  built_fine inits s starts (f ∷ fs) k number q b rest sc h =
      let at = b 0 k f (omega arith) refl in
      let more = built_fine inits s starts fs (suc k) (suc number) (omega (arith, q)) (λ m n f z w. b (suc m) n f (omega (arith, z)) w) rest sc h in
      let a : FieldFine p formed u i c e g this (leading_cells c.kind + k) f = all_fine p formed u i c e g this k (leading_cells c.kind + k) f refl at in
      subst (λ n. FineStmts t g sc (field_built p (field_making p f) f (length_in_class p c i f) (field_place (class_shape p i) n tree.Own) (init_args p s (init_named p inits f.declarator.name)) (fields_built p c i inits s fs (suc number) rest))) q (one_built k f at (init_args p s (init_named p inits f.declarator.name)) (starts k f at) a (fields_built p c i inits s fs (suc number) rest) sc more (field_making p f) refl)

  -- where a field has no initialiser, none is needed

  named_none : (inits : List Init) (name : List ℕ) → init_named p inits name ≡ None → list_any (λ (x : Init). same_name x.name name) inits ≡ false
  named_none [] name q = refl
  named_none (x ∷ xs) name q = by (same_name x.name name) q (named_none xs name)
    where
      by : (b : Bool) → (if b then Some x else init_named p xs name) ≡ None → (init_named p xs name ≡ None → list_any (λ (x : Init). same_name x.name name) xs ≡ false) → (b || list_any (λ (x : Init). same_name x.name name) xs) ≡ false
      by true q ih = absurd (cc)
      by false q ih = ih q

  needs_element : (so : Sort) (m : Making) → made so ≡ Some m → sort_needs p so ≡ false → is_element p so ≡ true
  needs_element sort.Void m q n = none_some q
  needs_element sort.Int m q n = refl
  needs_element sort.Char m q n = refl
  needs_element sort.Bool m q n = refl
  needs_element sort.Condition m q n = refl
  needs_element sort.Cluster m q n = refl
  needs_element sort.Processor m q n = false_true (sym n)
  needs_element (sort.Object j k) m q n = or_right (is_event k) (nat_eq (length (constructor_params p j)) 0) (not_not (nat_eq (length (constructor_params p j)) 0) n)

  pub none_starts : (inits : List Init) → has_unset p inits (Some c) ≡ false → (k : ℕ) (f : ClassField) (at : slice_get (fields_of c.members) k ≡ Some f) → init_named p inits f.declarator.name ≡ None → Starts k f at []
  none_starts inits h k f at none = record {
    reference = λ w m ms q sc. absurd (cc);
    single = λ w o m ms q. absurd (cc);
    scalar_value = λ w o m ms q. absurd (cc);
    object = λ m w o l sc. element_by t g refl sc p x.sort m o (made_told t g refl p f.base x.sort m told (mutex_is p) x.base o).0 (needs_element x.sort m o (needs w l));
  }
    where
      x : FieldRules p (home p u i c) c f
      x = rules_of k f at

      unset : is_unset p inits f.base f.declarator ≡ false
      unset = by (case_of (is_unset p inits f.base f.declarator))
        where
          by : (is_unset p inits f.base f.declarator ≡ true) ⊎ (is_unset p inits f.base f.declarator ≡ false) → is_unset p inits f.base f.declarator ≡ false
          by (inl q) =
              let a : form_unset p inits x.member.form ≡ true = ap (form_unset p inits) x.form ∙ any_from (is_unset p inits f.base) x.fields x.place.index f.declarator x.listed q in
              false_true (sym h ∙ any_from (λ (m : Member). form_unset p inits m.form) c.members x.place.member x.member x.member_at a)
          by (inr q) = q

      needed : (a b : Bool) → (a && not b) ≡ false → b ≡ false → a ≡ false
      needed true b q z = false_true (sym q ∙ ap not z)
      needed false b q z = refl

      by_parts : (a l z : Bool) → (a || (not l && z)) ≡ false → l ≡ false → z ≡ false
      by_parts true l z q w = false_true (sym q)
      by_parts false true z q w = false_true (sym w)
      by_parts false false z q w = q

      needs : f.declarator.by_ref ≡ false → f.declarator.len ≡ None → sort_needs p x.sort ≡ false
      needs w l =
          let a = needed (needs_init p f.base f.declarator) (list_any (λ (y : Init). same_name y.name f.declarator.name) inits) unset (named_none inits f.declarator.name none) in
          sym (ap (maybe_needs p) x.base) ∙ by_parts f.declarator.by_ref (is_some f.declarator.len) (maybe_needs p (sort_of p f.base)) a (ap is_some l)

-- with initialisers

module _ (env : Env) (formed : IsFormed env.program) (u : Unbroken (program_visits env.program)) (i : ℕ) (c : Class) (e : class_at env.program i ≡ Some c) (g : Sig) (this : g.this ≡ Some i) (h : OwnClass) (at_home : env.around.home ≡ Some h) (class_is : h.class ≡ i) (s : Scope) (w : (sc : List Name) → Within (table_of env.program) g sc env s.class s.names) where
  abbrev pub p1 : Program
  p1 = env.program

  abbrev pub t1 : Table
  t1 = table_of env.program

  abbrev context1 : tree.Context
  context1 = context env s.class s.routine s.names

  module _ (k : ℕ) (f : ClassField) (at : slice_get (fields_of c.members) k ≡ Some f) (x : Init) (q : InitFound t1 g [] env s.class s.routine s.names (w []) f.declarator.name x) where
    abbrev x1 : FieldRules p1 (home p1 u i c) c f
    x1 = rules_of p1 formed u i c e g this k f at

    abbrev count1 : ℕ
    count1 = elements (seen_in (constants_of p1.items) c) f.declarator

    abbrev entity1 : Entity
    entity1 = variable f.declarator.by_ref f.declarator.len count1 x1.sort

    record Meets : Type 0 where
      takes : entity_takes p1 f.declarator.by_ref (count x.args) (are_single env x.args) entity1 ≡ true
      target_is : init_target env x.name ≡ bound_target f.declarator.by_ref entity1
      may : may_start entity1 ≡ true

    meets : Meets
    meets = by (home_member p1 env.around.home x.name) refl (holds (may_init q.last (home_member p1 env.around.home x.name)) S17 x.pos _ (none_right (init_count_breaks env x (home_member p1 env.around.home x.name)) _ q.own)) (none_left (init_count_breaks env x (home_member p1 env.around.home x.name)) _ q.own)
      where
        by : (o : Option NameMeaning) → home_member p1 env.around.home x.name ≡ o → may_init q.last o ≡ true → init_count_breaks env x o ≡ [] → Meets
        by None z a b = false_true a
        by (Some m) z a b =
            let named : member_named p1 i x.name ≡ Some m = ap (λ n. member_named p1 n x.name) (sym class_is) ∙ (sym (ap (λ o. home_member p1 o x.name) at_home) ∙ z) in
            let from = from_field q.last m.origin (left_is (is_from q.last m.origin) (maybe_start m.entity) a) in
            let d : Found p1 c x.name m (leading_cells c.kind) (fields_of c.members) = found p1 i c x.name m e named from in
            let same : AreOne p1 formed u i c e f d.field = one_field p1 formed u i c e k d.n f d.field at d.at (sym q.name_is ∙ sym (field_name (fields_of c.members) (leading_cells c.kind) (leading_cells c.kind + d.n) x.name d.field d.named)) in
            let is1 : m.entity ≡ declared_entity p1 f.base d.field.declarator (elements (seen_in (constants_of p1.items) c) d.field.declarator) = subst (λ b. m.entity ≡ declared_entity p1 b d.field.declarator (elements (seen_in (constants_of p1.items) c) d.field.declarator)) (sym same.base) d.entity in
            let is2 : m.entity ≡ declared_entity p1 f.base f.declarator count1 = subst (λ z. m.entity ≡ declared_entity p1 f.base z (elements (seen_in (constants_of p1.items) c) z)) (sym same.declarator) is1 in
            let is : m.entity ≡ Some entity1 = is2 ∙ ap (option_map (variable f.declarator.by_ref f.declarator.len count1)) x1.base in
            let ref : is_by_ref m.origin ≡ f.declarator.by_ref = d.by_ref ∙ ap (λ (z : Declarator). z.by_ref) (sym same.declarator) in
            let takes1 : asked (Some entity1) (entity_takes p1 f.declarator.by_ref (count x.args) (are_single env x.args)) S16 x.pos ≡ [] = subst (λ z. asked (Some entity1) (entity_takes p1 z (count x.args) (are_single env x.args)) S16 x.pos ≡ []) ref (subst (λ o. asked o (entity_takes p1 (is_by_ref m.origin) (count x.args) (are_single env x.args)) S16 x.pos ≡ []) is b) in
            record {
              takes = only (entity_takes p1 f.declarator.by_ref (count x.args) (are_single env x.args) entity1) S16 x.pos takes1;
              target_is = ap meant_target z ∙ (field_target m.entity m.origin from ∙ (ap (λ z. maybe_bound_target z m.entity) ref ∙ ap (maybe_bound_target f.declarator.by_ref) is));
              may = ap maybe_start (sym is) ∙ right_is (is_from q.last m.origin) (maybe_start m.entity) a;
            }

    abbrev field1 : Option FieldPlace
    field1 = field_of env x.name

    args_to : (to : Target) → init_target env x.name ≡ to → Unbroken (init_args_visits env field1 x.args to 0)
    args_to to z = subst (λ to. Unbroken (init_args_visits env field1 x.args to 0)) z q.args

    -- a reference

    first_reference : (es : expr.Exprs) (sc : List Name) (m : tree.Meant) (ms : List tree.Meant) → Unbroken (init_args_visits env field1 es (target.Reference x1.sort) 0) → args_meant context1 es ≡ m ∷ ms → Yields t1 g sc m.expr (found_ty x1.sort)
    first_reference expr.NoExprs sc m ms v z = absurd (cc)
    first_reference (expr.MoreExprs y ys) sc m ms v z =
        let a = argument t1 g sc env s.class s.routine s.names (w sc) field1 y (expected_of.Reference x1.sort) (first (init_arg_visits env field1 y (expected_of.Reference x1.sort)) _ v) in
        let param : Param = record { pos = x.pos; base = f.base; by_ref = true; name = x.name } in
        let like : IsLike p1 param param = record { by_ref = refl; base = refl; known = λ z. (x1.sort, x1.base) } in
        let fit : fits (param_expected p1 (Some param)) a.w ≡ true = subst (λ o. fits (reference_to o) a.w ≡ true) (sym x1.base) a.fits_it in
        let r = arg_ok t1 g sc p1 refl param param a.w (meant context1 y) like fit a.agrees in
        let same : meant context1 y ≡ m = cc in
        subst (λ (m : tree.Meant). Yields t1 g sc m.expr (found_ty x1.sort)) same (subst (λ o. Yields t1 g sc (meant context1 y).expr (sort_ty o)) x1.base r)

    -- a scalar

    plain1 : f.declarator.by_ref ≡ false → (l : Option expr.Expr) → f.declarator.len ≡ l → (l ≡ None) × (is_condition x1.sort ≡ false)
    plain1 z None l = (refl, not_is (is_condition x1.sort) (subst (λ l. may_start (variable false l count1 x1.sort) ≡ true) l (subst (λ b. may_start (variable b f.declarator.len count1 x1.sort) ≡ true) z meets.may)))
    plain1 z (Some y) l = false_true (subst (λ l. may_start (variable false l count1 x1.sort) ≡ true) l (subst (λ b. may_start (variable b f.declarator.len count1 x1.sort) ≡ true) z meets.may))

    takes1 : f.declarator.by_ref ≡ false → f.declarator.len ≡ None → sort_takes p1 (count x.args) (are_single env x.args) x1.sort ≡ true
    takes1 z l = subst (λ l. entity_takes p1 false (count x.args) (are_single env x.args) (variable false l count1 x1.sort) ≡ true) l (subst (λ b. entity_takes p1 b (count x.args) (are_single env x.args) (variable b f.declarator.len count1 x1.sort) ≡ true) z meets.takes)

    target1 : f.declarator.by_ref ≡ false → f.declarator.len ≡ None → init_target env x.name ≡ single_target x1.sort
    target1 z l = meets.target_is ∙ (ap (λ b. bound_target b (variable b f.declarator.len count1 x1.sort)) z ∙ ap (λ l. bound_target false (variable false l count1 x1.sort)) l)

    scalar1 : f.declarator.by_ref ≡ false → made x1.sort ≡ None → is_scalar_sort x1.sort ≡ true
    scalar1 z o =
        let a = asked_of p1 formed u i c e g this k f at in
        raw_scalar t1 g refl x1.sort o a.no_void (plain1 z f.declarator.len refl).1 a.no_event

    takes_single : (so : Sort) (n : ℕ) (b : Bool) → is_scalar_sort so ≡ true → sort_takes p1 n b so ≡ true → b ≡ true
    takes_single sort.Int n b z h = h
    takes_single sort.Char n b z h = h
    takes_single sort.Bool n b z h = h
    takes_single _ n b z h = false_true z

    first_value : (es : expr.Exprs) (sc : List Name) (m : tree.Meant) (ms : List tree.Meant) (to : Target) → Unbroken (init_args_visits env field1 es to 0) → are_single env es ≡ true → args_meant context1 es ≡ m ∷ ms → Yields t1 g sc (value_of m) Num
    first_value expr.NoExprs sc m ms to v b z = absurd (cc)
    first_value (expr.MoreExprs y expr.NoExprs) sc m ms to v b z =
        let a = argument t1 g sc env s.class s.routine s.names (w sc) field1 y (expected p1 to 0) (first (init_arg_visits env field1 y (expected p1 to 0)) _ v) in
        let k : is_scalar a.w ≡ true = subst (λ o. is_scalar_of o ≡ true) a.stands_for b in
        let same : meant context1 y ≡ m = cc in
        subst (λ (m : tree.Meant). Yields t1 g sc (value_of m) Num) same (scalar t1 g sc p1 refl a.w (meant context1 y) k a.agrees)
    first_value (expr.MoreExprs y (expr.MoreExprs z zs)) sc m ms to v b r = false_true b

    -- an object

    first_cluster : (es : expr.Exprs) (sc : List Name) → count es ≡ 1 → Unbroken (init_args_visits env field1 es (target.Reference sort.Cluster) 0) → Yields t1 g sc (cluster_in (args_meant context1 es)) Clu
    first_cluster expr.NoExprs sc n v = let z : ⊥ = omega (arith, n) in absurd z
    first_cluster (expr.MoreExprs y ys) sc n v =
        let a = argument t1 g sc env s.class s.routine s.names (w sc) field1 y (expected_of.Reference sort.Cluster) (first (init_arg_visits env field1 y (expected_of.Reference sort.Cluster)) _ v) in
        cluster_found t1 g refl sc env s (w sc) a.w (meant context1 y) a.fits_it a.agrees

    built_with : (j : ℕ) (es : expr.Exprs) (sc : List Name) → TellsMaker t1 p1 j role.Constructor → count es ≡ length (constructor_params p1 j) → Unbroken (init_args_visits env field1 es (target.Constructor j) 0) → (r : ℕ) → written_at p1 j role.Constructor ≡ Some r → GiveAll t1 g sc (args_by (params_of p1 r) (args_meant context1 es)) (t1.routine r).params
    built_with j es sc m n v r z =
        let l = m.written r z in
        subst (GiveAll t1 g sc (args_by (params_of p1 r) (args_meant context1 es))) l.table (given_args t1 g sc env s.class s.routine s.names (w sc) field1 es 0 (target.Constructor j) (constructor_params p1 j) (params_of p1 r) n (λ z. ap (λ z. param_expected p1 (slice_get (constructor_params p1 j) z)) (let y : 0 + z ≡ z = omega arith in y)) l.params v)

    object_by : (so : Sort) (m : Making) (sc : List Name) → made so ≡ Some m → Making_is t1 g refl p1 m → sort_takes p1 (count x.args) (are_single env x.args) so ≡ true → Unbroken (init_args_visits env field1 x.args (single_target so) 0) → Given t1 g refl sc p1 m (args_meant context1 x.args)
    object_by sort.Void m sc o k z v = none_some o
    object_by sort.Int m sc o k z v = none_some o
    object_by sort.Char m sc o k z v = none_some o
    object_by sort.Bool m sc o k z v = none_some o
    object_by sort.Condition m sc o k z v = none_some o
    object_by sort.Cluster m sc o k z v = subst (λ m. Given t1 g refl sc p1 m (args_meant context1 x.args)) (some_same o) tt
    object_by sort.Processor m sc o k z v =
        subst (λ m. Given t1 g refl sc p1 m (args_meant context1 x.args)) (some_same o) (first_cluster x.args sc (eqb-true (count x.args) 1 z) v)
    object_by (sort.Object j y) m sc o k z v = by_kind y o
      where
        n : count x.args ≡ length (constructor_params p1 j)
        n = eqb-true (count x.args) (length (constructor_params p1 j)) z

        plain : Some (APlain j) ≡ Some m → Given t1 g refl sc p1 m (args_meant context1 x.args)
        plain o =
            let k1 : Making_is t1 g refl p1 (APlain j) = subst (Making_is t1 g refl p1) (sym (some_same o)) k in
            subst (λ m. Given t1 g refl sc p1 m (args_meant context1 x.args)) (some_same o) (built_with j x.args sc k1.0 n v)

        mutex : Some (AMutex j) ≡ Some m → Given t1 g refl sc p1 m (args_meant context1 x.args)
        mutex o =
            let k1 : Making_is t1 g refl p1 (AMutex j) = subst (Making_is t1 g refl p1) (sym (some_same o)) k in
            subst (λ m. Given t1 g refl sc p1 m (args_meant context1 x.args)) (some_same o) (built_with j x.args sc k1.0 n v)

        by_kind : (y : Kind) → made_kind j y ≡ Some m → Given t1 g refl sc p1 m (args_meant context1 x.args)
        by_kind kind.Class o = plain o
        by_kind kind.Coroutine o = plain o
        by_kind kind.Monitor o = mutex o
        by_kind kind.Cormonitor o = mutex o
        by_kind kind.Task o = mutex o
        by_kind kind.Event o = none_some o

    init_starts : Starts p1 formed u i c e g this k f at (args_meant context1 x.args)
    init_starts = record {
      reference = λ z m ms y sc. first_reference x.args sc m ms (args_to (target.Reference x1.sort) (meets.target_is ∙ ap (λ b. bound_target b (variable b f.declarator.len count1 x1.sort)) z)) y;
      single = λ z o m ms y. (plain1 z f.declarator.len refl).0;
      scalar_value = λ z o m ms y. (scalar1 z o, λ sc. first_value x.args sc m ms (init_target env x.name) q.args (takes_single x1.sort (count x.args) (are_single env x.args) (scalar1 z o) (takes1 z (plain1 z f.declarator.len refl).0)) y);
      object = λ m z o l sc. object_by x1.sort m sc o (made_told t1 g refl p1 f.base x1.sort m (law_told p1 formed u) (mutex_is p1) x1.base o).0 (takes1 z l) (args_to (single_target x1.sort) (target1 z l));
    }

  pub field_starts : (inits : List Init) → Unbroken (inits_visits env None inits) → has_unset p1 inits (Some c) ≡ false → (k : ℕ) (f : ClassField) (at : slice_get (fields_of c.members) k ≡ Some f) → Starts p1 formed u i c e g this k f at (init_args p1 s (init_named p1 inits f.declarator.name))
  field_starts inits v h k f at = by (init_named p1 inits f.declarator.name) refl
    where
      by : (o : Option Init) → init_named p1 inits f.declarator.name ≡ o → Starts p1 formed u i c e g this k f at (init_args p1 s o)
      by None z = none_starts p1 formed u i c e g this inits h k f at z
      by (Some x) z = init_starts k f at x (init_found t1 g [] env s.class s.routine s.names (w []) inits None f.declarator.name x v z)
