-- What builds an object: its fields by their initialisers, and what stands round them.
use Rattle.std.proofs.Common.{◌≡◌, ℕ, suc, ◌+◌, ◌<◌, ◌++◌, List, [], ◌∷◌, length, Option, Some, None, Bool, true, false, refl, sym, ap, ◌∙◌, subst, arith, map}
use Rattle.std.specs.Prelude.{◌&&◌, not, slice_get, take, if◌then◌else◌}
use Rattle.std.specs.List.{list_any}
use Rattle.uc_tree.specs.declared.kinds.LocalVariable.{LocalVariable}
use Rattle.uc_tree.specs.declared.kinds.Param.{Param}
use Rattle.uc_tree.specs.Expressions as expr
use Rattle.uc_tree.specs.Names.{same_name}
use Rattle.uc_tree.specs.Objects.{ClassField, fields_of, class_at}
use Rattle.uc_tree.specs.Statements.{Declarator}
use Rattle.uc_tree.specs.Programs.{Init, FieldsMember, Member, Class, Program}
use Rattle.uc_resolve.specs.Standings.{meant, args_by, args_meant}
use Rattle.uc_rules.specs.declared.rule.Rule.TheVariants.{S2, S11}
use Rattle.uc_rules.specs.declared.rules.Surroundings.{Surroundings}
use Rattle.uc_rules.specs.declared.rules.Bound.{Bound}
use Rattle.uc_rules.specs.declared.rules.Entity.{Entity}
use Rattle.uc_rules.specs.declared.rules.Entity.TheVariants as entity
use Rattle.uc_rules.specs.declared.rules.Expected.{Expected}
use Rattle.uc_rules.specs.declared.rules.FieldPlace.{FieldPlace}
use Rattle.uc_rules.specs.declared.rules.Target.{Target}
use Rattle.uc_rules.specs.Scopes.{Env, with_around, in_argument}
use Rattle.uc_rules.specs.Entities.{entity_of, part_entity, parts_entity, link_entity, chain_entity, are_sound, count, expected, param_expected, fits, has_fitting, of_field, of_index, of_place, of_call, call_target, call_follows, is_input, of_both, both_scalars, of_assign, unary_entity, binary_gives}
use Rattle.uc_rules.specs.ClassBreaks.{members_declare, is_kept, is_new_member, is_new_field, fields_at, member_fields, form_fields}
use Rattle.uc_rules.specs.Visits.{AtArgument, visits}
use Rattle.uc_rules.specs.Visits.{AtInit, AtBound}
use Rattle.uc_rules.specs.ProgramVisits.{program_visits, field_of, init_target, argument_env, bound_of, init_arg_visits, init_args_visits, last_field, inits_visits}
use Rattle.uc_rules.specs.Breaks.{breaks_at}
use Rattle.uc_resolve.specs.Resolve.{init_named}
use Rattle.uc_typing.specs.Typing.{Name, Sig, Table, GiveAll}
use Rattle.uc_sound.specs.Agreement.{param_ty, AreLike, Agrees, context}
use Rattle.uc_sound.specs.Unbroken.{Unbroken}
use Rattle.uc_sound.proofs.Ties.{some_same, none_some, arg_ok, law_agrees}
use Rattle.uc_sound.proofs.UnbrokenLemmas.{first, second, one, holds, stands}
use Rattle.uc_sound.specs.SoundFormed.{IsFormed}
use Rattle.uc_sound.specs.Rooted.{Rooted, Within}
use Rattle.uc_sound.proofs.Lists.{left_is, right_is, not_either, not_both, any_from, get_take, Order, before, same, behind, order}
use Rattle.uc_sound.proofs.Visited.{FieldRules, home, field_rules}
use Rattle.uc_sound.proofs.ClassNames.{same_is, is_same}
use Rattle.uc_sound.proofs.RootLemmas.{declares_field}
use Rattle.uc_sound.proofs.GivingLemmas.{tied, known}

-- what an expression stands for does not change in the argument of an initialiser

module _ (env : Env) (b : Bound) where
  abbrev bound : Env
  bound = with_around env (in_argument b env.around)

  mutual
    entity_same : (e : expr.Expr) → entity_of bound e ≡ entity_of env e
    entity_same (expr.Number q n) = refl
    entity_same (expr.Character q n) = refl
    entity_same (expr.Truth q n) = refl
    entity_same (expr.Name q name) = refl
    entity_same (expr.Cin q) = refl
    entity_same (expr.Postfix q root parts) =
        parts_same parts (if is_input root parts then Some entity.Input else entity_of bound root) (if is_input root parts then Some entity.Input else entity_of env root) (ap (λ o. if is_input root parts then Some entity.Input else o) (entity_same root))
    entity_same (expr.Unary q op operand) = ap (unary_entity op) (entity_same operand)
    entity_same (expr.Chain q start rest) = chain_same rest (entity_of bound start) (entity_of env start) (entity_same start)
    entity_same (expr.Assign q sign op place value) =
        ap (λ o. of_assign o (entity_of bound value)) (entity_same place) ∙ ap (of_assign (entity_of env place)) (entity_same value)

    parts_same : (parts : expr.Parts) (o w : Option Entity) → o ≡ w → parts_entity bound parts o ≡ parts_entity env parts w
    parts_same expr.NoParts o w e = e
    parts_same (expr.MoreParts part rest) o w e =
        parts_same rest (part_entity bound part (call_follows rest) o) (part_entity env part (call_follows rest) w) (part_same part (call_follows rest) o w e)

    part_same : (part : expr.Part) (called : Bool) (o w : Option Entity) → o ≡ w → part_entity bound part called o ≡ part_entity env part called w
    part_same (expr.Field sign name) called o w e = ap (of_field env called name) e
    part_same (expr.Index sign index) called o w e = ap (λ o. of_index o (entity_of bound index)) e ∙ ap (of_index w) (entity_same index)
    part_same (expr.Call sign args) called o w e =
        ap (λ o. of_call env.program (are_sound bound args (call_target o) 0) (count args) o) e ∙ ap (λ z. of_call env.program z (count args) w) (args_same args (call_target w) 0)
    part_same (expr.Step sign op) called o w e = ap of_place e

    chain_same : (links : expr.Links) (o w : Option Entity) → o ≡ w → chain_entity bound links o ≡ chain_entity env links w
    chain_same expr.NoLinks o w e = e
    chain_same (expr.MoreLinks (expr.Linked sign op right) rest) o w e =
        chain_same rest (link_entity bound (expr.Linked sign op right) o) (link_entity env (expr.Linked sign op right) w) (ap (λ o. of_both both_scalars o (entity_of bound right) (binary_gives op)) e ∙ ap (λ z. of_both both_scalars w z (binary_gives op)) (entity_same right))

    args_same : (args : expr.Exprs) (to : Target) (i : ℕ) → are_sound bound args to i ≡ are_sound env args to i
    args_same expr.NoExprs to i = refl
    args_same (expr.MoreExprs e es) to i =
        ap (λ o. has_fitting (expected env.program to i) o && are_sound bound es to (i + 1)) (entity_same e) ∙ ap (λ z. has_fitting (expected env.program to i) (entity_of env e) && z) (args_same es to (i + 1))

bound_rooted : (t : Table) (g : Sig) (b : Bound) (p : Program) (a : Surroundings) (class : Option ℕ) → Rooted t g p a class → Rooted t g p (in_argument b a) class
bound_rooted t g b p a class h = record { told = h.told; refers = h.refers; classes = h.classes; tasks = h.tasks; inside = h.inside; names = h.names; stood = h.stood; member = h.member; members = h.members; results = h.results; returning = h.returning; switching = h.switching; accepting = h.accepting }

-- arguments of an initialiser

module _ (t : Table) (g : Sig) (sc : List Name) (env : Env) (class : Option ℕ) (routine : ℕ) (names : List LocalVariable) (h : Within t g sc env class names) where
  argument_same : (field : Option FieldPlace) (e : expr.Expr) (x : Expected) → entity_of (argument_env env field e x) e ≡ entity_of env e
  argument_same None e x = refl
  argument_same (Some field) e x = entity_same env (bound_of e x field) e

  argument_within : (field : Option FieldPlace) (e : expr.Expr) (x : Expected) → Within t g sc (argument_env env field e x) class names
  argument_within None e x = h
  argument_within (Some field) e x = record { rooted = bound_rooted t g (bound_of e x field) env.program env.around class h.rooted; alike = h.alike; stood = h.stood }

  argument_program : (field : Option FieldPlace) (e : expr.Expr) (x : Expected) → (argument_env env field e x).program ≡ env.program
  argument_program None e x = refl
  argument_program (Some field) e x = refl

  pub record Argument (e : expr.Expr) (x : Expected) : Type 0 where
    pub w : Entity
    pub stands_for : entity_of env e ≡ Some w
    pub fits_it : fits x w ≡ true
    pub agrees : Agrees t g sc env.program w (meant (context env class routine names) e)

  pub argument : (field : Option FieldPlace) (e : expr.Expr) (x : Expected) → Unbroken (init_arg_visits env field e x) → Argument e x
  argument field e x u =
      let a = argument_env env field e x in
      let k = argument_within field e x in
      let v = first (visits a e) (AtArgument (expr.expr_pos e) x (entity_of a e) ∷ (AtBound env e x ∷ [])) u in
      let r = stands a (known t g sc a class routine names k) e v in
      let b = first (AtArgument (expr.expr_pos e) x (entity_of a e) ∷ []) (AtBound env e x ∷ []) (second (visits a e) (AtArgument (expr.expr_pos e) x (entity_of a e) ∷ (AtBound env e x ∷ [])) u) in
      let c : breaks_at (AtArgument (expr.expr_pos e) x (Some r.0)) ≡ [] = subst (λ o. breaks_at (AtArgument (expr.expr_pos e) x o) ≡ []) r.1 (one (AtArgument (expr.expr_pos e) x (entity_of a e)) b) in
      let agreed : Agrees t g sc a.program r.0 (meant (context a class routine names) e) = law_agrees t g sc a class routine names (tied t g sc a class routine names k) e v r.0 r.1 in
      record {
        w = r.0;
        stands_for = sym (argument_same field e x) ∙ r.1;
        fits_it = holds (fits x r.0) S11 (expr.expr_pos e) _ c;
        agrees = subst (λ p. Agrees t g sc p r.0 (meant (record { program = p; class = class; routine = routine; names = names }) e)) (argument_program field e x) agreed;
      }

  pub init_args : (field : Option FieldPlace) (es : expr.Exprs) (i : ℕ) (to : Target) (xs ys : List Param) → count es ≡ length xs → ((k : ℕ) → expected env.program to (i + k) ≡ param_expected env.program (slice_get xs k)) → AreLike env.program xs ys → Unbroken (init_args_visits env field es to i) → GiveAll t g sc (args_by ys (args_meant (context env class routine names) es)) (map (param_ty env.program) ys)
  init_args field expr.NoExprs i to [] [] n f l u = tt
  init_args field expr.NoExprs i to [] (y ∷ ys) n f l u = absurd l
  init_args field expr.NoExprs i to (x ∷ xs) ys n f l u = let b : ⊥ = omega (arith, n) in absurd b
  init_args field (expr.MoreExprs e es) i to [] ys n f l u = let b : ⊥ = omega (arith, n) in absurd b
  init_args field (expr.MoreExprs e es) i to (x ∷ xs) [] n f l u = absurd l
  init_args field (expr.MoreExprs e es) i to (x ∷ xs) (y ∷ ys) n f l u =
      let a = argument field e (expected env.program to i) (first (init_arg_visits env field e (expected env.program to i)) (init_args_visits env field es to (i + 1)) u) in
      let q : i ≡ i + 0 = omega arith in
      let z : fits (param_expected env.program (Some x)) a.w ≡ true = subst (λ z. fits z a.w ≡ true) (ap (expected env.program to) q ∙ f 0) a.fits_it in
      (arg_ok t g sc env.program h.rooted.refers x y a.w (meant (context env class routine names) e) l.0 z a.agrees, init_args field es (i + 1) to xs ys (omega (arith, n)) (λ k. ap (expected env.program to) (let z : i + 1 + k ≡ i + suc k = omega arith in z) ∙ f (suc k)) l.1 (second (init_arg_visits env field e (expected env.program to i)) (init_args_visits env field es to (i + 1)) u))

  -- the initialiser of a name
  pub record InitFound (name : List ℕ) (x : Init) : Type 0 where
    pub name_is : x.name ≡ name
    pub args : Unbroken (init_args_visits env (field_of env x.name) x.args (init_target env x.name) 0)
    pub last : Option FieldPlace
    pub own : breaks_at (AtInit env x last) ≡ []

  pub init_found : (inits : List Init) (last : Option FieldPlace) (name : List ℕ) (x : Init) → Unbroken (inits_visits env last inits) → init_named env.program inits name ≡ Some x → InitFound name x
  init_found [] last name x u e = none_some e
  init_found (y ∷ ys) last name x u e = by (same_name y.name name) refl e (init_found ys (last_field last (field_of env y.name)) name x (second (init_args_visits env (field_of env y.name) y.args (init_target env y.name) 0 ++ AtInit env y last ∷ []) (inits_visits env (last_field last (field_of env y.name)) ys) u))
    where
      here : Unbroken (init_args_visits env (field_of env y.name) y.args (init_target env y.name) 0 ++ AtInit env y last ∷ [])
      here = first (init_args_visits env (field_of env y.name) y.args (init_target env y.name) 0 ++ AtInit env y last ∷ []) (inits_visits env (last_field last (field_of env y.name)) ys) u

      by : (z : Bool) → same_name y.name name ≡ z → (if z then Some y else init_named env.program ys name) ≡ Some x → (init_named env.program ys name ≡ Some x → InitFound name x) → InitFound name x
      by true q e ih = subst (InitFound name) (some_same e) (record { name_is = same_is y.name name q; args = first (init_args_visits env (field_of env y.name) y.args (init_target env y.name) 0) (AtInit env y last ∷ []) here; last = last; own = one (AtInit env y last) (second (init_args_visits env (field_of env y.name) y.args (init_target env y.name) 0) (AtInit env y last ∷ []) here) })
      by false q e ih = ih e

-- two fields of one name are one

module _ (p : Program) (formed : IsFormed p) (u : Unbroken (program_visits p)) (i : ℕ) (c : Class) (e : class_at p i ≡ Some c) where
  pub record AreOne (f h : ClassField) : Type 0 where
    pub base : f.base ≡ h.base
    pub declarator : f.declarator ≡ h.declarator

  later_field : {B : Type 0} (f h : ClassField) (r : FieldRules p (home p u i c) c f) (s : FieldRules p (home p u i c) c h) → f.declarator.name ≡ h.declarator.name → r.place.member < s.place.member → B
  later_field f h r s q l =
      let x = s.place.member in
      let new : is_new_field c s.place (fields_at c x) h.declarator.name ≡ true = holds (is_new_field c s.place (fields_at c x) h.declarator.name) S2 h.declarator.pos _ s.own in
      let fresh = left_is (is_new_member c x h.declarator.name) (not (list_any (λ (d : Declarator). same_name d.name h.declarator.name) (take s.place.index (fields_at c x)))) new in
      let a = declares_field p i c h.declarator.name formed u e (take x c.members) r.place.member r.place.index r.member r.at f.base r.fields f.declarator (get_take c.members x r.place.member r.member l r.member_at) r.form r.listed in
      not_either (list_any (λ z. same_name z h.declarator.name) (members_declare (take x c.members))) (is_kept c x h.declarator.name) (any_from (λ z. same_name z h.declarator.name) (members_declare (take x c.members)) a.0 f.declarator.name a.1 (is_same f.declarator.name h.declarator.name q)) fresh

  later_index : {B : Type 0} (f h : ClassField) (r : FieldRules p (home p u i c) c f) (s : FieldRules p (home p u i c) c h) → f.declarator.name ≡ h.declarator.name → r.fields ≡ s.fields → r.place.index < s.place.index → B
  later_index f h r s q w l =
      let x = s.place.member in
      let new : is_new_field c s.place (fields_at c x) h.declarator.name ≡ true = holds (is_new_field c s.place (fields_at c x) h.declarator.name) S2 h.declarator.pos _ s.own in
      let n = right_is (is_new_member c x h.declarator.name) (not (list_any (λ (d : Declarator). same_name d.name h.declarator.name) (take s.place.index (fields_at c x)))) new in
      let there : fields_at c x ≡ s.fields = ap member_fields s.member_at ∙ ap form_fields s.form in
      let k : not (list_any (λ (d : Declarator). same_name d.name h.declarator.name) (take s.place.index r.fields)) ≡ true = subst (λ ds. not (list_any (λ (d : Declarator). same_name d.name h.declarator.name) (take s.place.index ds)) ≡ true) (there ∙ sym w) n in
      not_both (list_any (λ (d : Declarator). same_name d.name h.declarator.name) (take s.place.index r.fields)) (any_from (λ (d : Declarator). same_name d.name h.declarator.name) (take s.place.index r.fields) r.place.index f.declarator (get_take r.fields s.place.index r.place.index f.declarator l r.listed) (is_same f.declarator.name h.declarator.name q)) k

  pub one_field : (k l : ℕ) (f h : ClassField) → slice_get (fields_of c.members) k ≡ Some f → slice_get (fields_of c.members) l ≡ Some h → f.declarator.name ≡ h.declarator.name → AreOne f h
  one_field k l f h x y q = by (order r.place.member s.place.member)
    where
      r : FieldRules p (home p u i c) c f
      r = field_rules p u i c e k f x

      s : FieldRules p (home p u i c) c h
      s = field_rules p u i c e l h y

      alike : r.place.member ≡ s.place.member → FieldsMember r.at f.base r.fields ≡ FieldsMember s.at h.base s.fields
      alike w =
          let m : r.member ≡ s.member = some_same (sym r.member_at ∙ (ap (slice_get c.members) w ∙ s.member_at)) in
          sym r.form ∙ (ap (λ (m : Member). m.form) m ∙ s.form)

      lists : FieldsMember r.at f.base r.fields ≡ FieldsMember s.at h.base s.fields → r.fields ≡ s.fields
      lists z = cc

      bases : FieldsMember r.at f.base r.fields ≡ FieldsMember s.at h.base s.fields → f.base ≡ h.base
      bases z = cc

      by_index : (z : FieldsMember r.at f.base r.fields ≡ FieldsMember s.at h.base s.fields) → Order r.place.index s.place.index → AreOne f h
      by_index z (before o) = later_index f h r s q (lists z) o
      by_index z (same w) =
          record { base = bases z; declarator = some_same (sym r.listed ∙ (ap (slice_get r.fields) w ∙ (ap (λ ds. slice_get ds s.place.index) (lists z) ∙ s.listed))) }
      by_index z (behind o) = later_index h f s r (sym q) (sym (lists z)) o

      by : Order r.place.member s.place.member → AreOne f h
      by (before o) = later_field f h r s q o
      by (same w) = by_index (alike w) (order r.place.index s.place.index)
      by (behind o) = later_field h f s r (sym q) o
