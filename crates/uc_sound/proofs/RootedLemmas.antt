-- Names that no local hides, in each routine of a program that breaks no rule.
use Rattle.std.proofs.Common.{◌≡◌, ℕ, suc, ◌+◌, ◌++◌, inl, inr, List, [], ◌∷◌, Option, Some, None, Bool, true, false, refl, sym, ap, ◌∙◌, subst}
use Rattle.std.specs.Prelude.{◌&&◌, ◌||◌, not, slice_get, if◌then◌else◌, option_map, option_and_then}
use Rattle.uc_tree.specs.declared.pos.Pos.{Pos}
use Rattle.uc_tree.specs.declared.kinds.Base.TheVariants as base
use Rattle.uc_tree.specs.declared.kinds.Kind.{Kind}
use Rattle.uc_tree.specs.declared.kinds.Kind.TheVariants as kind
use Rattle.uc_tree.specs.declared.kinds.MutexMark.{MutexMark}
use Rattle.uc_tree.specs.Expressions as expr
use Rattle.uc_tree.specs.Source.{Expr}
use Rattle.uc_tree.specs.declared.kinds.Role.TheVariants as role
use Rattle.uc_rules.specs.declared.rule.Break.{Break}
use Rattle.uc_tree.specs.Names.{same_name}
use Rattle.uc_tree.specs.Constants.{constants_of, elements}
use Rattle.uc_tree.specs.Cells.{leading_cells, seen_in}
use Rattle.uc_tree.specs.Numbering.{main_name, is_given, is_mutex, is_plain, is_public, Defined}
use Rattle.uc_tree.specs.Objects.{has_execution, fields_of, class_at}
use Rattle.uc_tree.specs.Programs.{Sig as Declared, Constant, Class, Member, Item, ClassItem, RoutineItem, ConstItem, ProtoItem, ForwardItem, UsingItem, Program}
use Rattle.uc_resolve.specs.Standings as tree
use Rattle.uc_resolve.specs.Standings.{Standing, AtVariable, AtField, AtPlace, AsNumber, AsCondition, AsMember, AsLiveMember, AsMutexMember}
use Rattle.uc_resolve.specs.Resolve.{place_by}
use Rattle.uc_rules.specs.declared.rule.Rule.TheVariants.{S2, S4, S16, S18, S22, O4}
use Rattle.uc_rules.specs.declared.rules.Entity.{Entity}
use Rattle.uc_rules.specs.declared.rules.Entity.TheVariants as entity
use Rattle.uc_rules.specs.declared.rules.OwnClass.{OwnClass}
use Rattle.uc_rules.specs.declared.rules.NameMeaning.{NameMeaning}
use Rattle.uc_rules.specs.declared.rules.Sort.{Sort}
use Rattle.uc_rules.specs.declared.rules.Sort.TheVariants as sort
use Rattle.uc_rules.specs.Asked.{unless, of_sort}
use Rattle.uc_rules.specs.Sorts.{is_coroutine, is_cormonitor, is_condition, sort_of}
use Rattle.uc_rules.specs.Names as rules
use Rattle.uc_rules.specs.Names.{first_of, outer, item_sig, routine_sig, method_sig, member_named, item_named, items_named, outer_named, constant_meant, declared_entity, variable}
use Rattle.uc_rules.specs.Scopes.{plain_env, no_around, class_around, sig_around, named_behind, own_named, main_meant, returns_scalar, is_inner}
use Rattle.uc_rules.specs.Entities.{meant_entity, object_member, open_entity, entity_by_path, is_open, by_path, path_member, takes, is_main, given, sig_gives, sig_takes, value_of_sort, is_of_conditions}
use Rattle.uc_rules.specs.OwnerBreaks.{is_mutex_field_of, names_condition, is_condition_of, is_field_origin, is_no_condition_sort, may_switch_in}
use Rattle.uc_rules.specs.ClassBreaks.{is_new_field, fields_at, home_leads_back, is_field_sort}
use Rattle.uc_rules.specs.ExpressionBreaks.{length_breaks, length_value_breaks, is_no_event}
use Rattle.uc_rules.specs.ProgramVisits.{program_visits, sig_visits, outer_env}
use Rattle.uc_typing.specs.Typing.{Obj, Name, Sig, Table, Executing, InMutex, Yields, IsInside}
use Rattle.uc_sound.specs.Agreement.{StandsBy, Agrees, AgreesIf, IsMethod}
use Rattle.uc_sound.specs.Unbroken.{Unbroken, Stands}
use Rattle.uc_sound.proofs.Ties.{some_same, none_some, false_true}
use Rattle.uc_sound.proofs.UnbrokenLemmas.{none_right, first}
use Rattle.uc_sound.proofs.FieldsLemmas.{Found, found, law_fields}
use Rattle.uc_sound.proofs.ItemsLemmas.{law_items}
use Rattle.uc_sound.specs.SoundFormed.{IsFormed}
use Rattle.uc_sound.specs.Tables.{of_kind, entity_helps, helps_in, table_of}
use Rattle.uc_sound.specs.Told.{Told}
use Rattle.uc_sound.specs.Rooted.{IsStood, Rooted}
use Rattle.uc_sound.proofs.Lists.{left_is}
use Rattle.uc_sound.proofs.Visited.{sort_holds, home, field_rules, item_rules, sig_ret}
use Rattle.uc_sound.proofs.MemberLemmas.{sig_rules, method_at}
use Rattle.uc_sound.proofs.ClassLemmas.{mutex_is, task_is, law_told}
use Rattle.uc_sound.proofs.RootLemmas.{Meaning, a_field, a_method, meaning, nothing_is, method_agrees}

variable_stood : (r : Bool) (l : Option expr.Expr) (n : ℕ) (s : Sort) → IsStood (Some (variable r l n s))
variable_stood true l n s = tt
variable_stood false None n s = tt
variable_stood false (Some e) n s = tt

variable_path : (r : Bool) (l : Option expr.Expr) (n : ℕ) (s : Sort) → by_path (variable r l n s) ≡ variable r l n s
variable_path true l n s = refl
variable_path false None n s = refl
variable_path false (Some e) n s = refl

-- what is found as a variable is no nothing
picks_by : (t : Table) (g : Sig) (c n : Bool) (st : Standing) (m other : tree.Meant) → StandsBy t g c n st → tree.meant_or st m other ≡ m
picks_by t g true n (AsCondition k) m other h = refl
picks_by t g true n _ m other h = absurd h
picks_by t g false true AsNumber m other h = refl
picks_by t g false true _ m other h = absurd h
picks_by t g false false (AtVariable k) m other h = refl
picks_by t g false false (AtField k i) m other h = refl
picks_by t g false false AtPlace m other h = refl
picks_by t g false false _ m other h = absurd h

picks : (t : Table) (g : Sig) (sc : List Name) (p : Program) (r : Bool) (l : Option expr.Expr) (n : ℕ) (s : Sort) (m other : tree.Meant) → Agrees t g sc p (variable r l n s) m → tree.meant_or m.standing m other ≡ m
picks t g sc p true l n s m other h = picks_by t g (is_condition s) _ m.standing m other h.1
picks t g sc p false None n s m other h = picks_by t g (is_condition s) _ m.standing m other h.1
picks t g sc p false (Some e) n s m other h = picks_by t g (is_condition s) false m.standing m other h.1

method_picks : (t : Table) (g : Sig) (sc : List Name) (number class : ℕ) (st : Standing) (m other : tree.Meant) → IsMethod t g sc number class st → tree.meant_or st m other ≡ m
method_picks t g sc number class st m other (inl (inl e)) = ap (λ st. tree.meant_or st m other) e
method_picks t g sc number class st m other (inl (inr e)) = ap (λ st. tree.meant_or st m other) e
method_picks t g sc number class st m other (inr e) = ap (λ st. tree.meant_or st m other) e.1

of_conditions : (r : Bool) (l : Option expr.Expr) (n : ℕ) (s : Sort) → is_of_conditions (variable r l n s) ≡ true → is_condition s ≡ true
of_conditions true l n s h = h
of_conditions false None n s h = h
of_conditions false (Some e) n s h = h

-- a condition stands in a mutex class alone
in_mutex : (s : Sort) (o : Option Sort) (q : Pos) (more : List Break) (b : Bool) → o ≡ Some s → is_condition s ≡ true → (if b then [] else of_sort o is_no_condition_sort O4 q) ++ more ≡ [] → b ≡ true
in_mutex s o q more true e c h = refl
in_mutex s o q more false e c h =
    let n = sort_holds o s is_no_condition_sort O4 q more e h in
    false_true (subst (λ (b : Bool). not b ≡ true) c n)

-- constants among items have known bases
abbrev AreConstant : Program → List Item → Type 0
AreConstant p xs = (n : ℕ) (c : Constant) → slice_get (constants_of xs) n ≡ Some c → (s : Sort) × (sort_of p c.base ≡ Some s)

module _ (p : Program) (name : List ℕ) where
  class_stood : (b : Bool) (rest : Option NameMeaning) (m : NameMeaning) → (rest ≡ Some m → IsStood m.entity) → first_of (if b then Some (outer entity.ClassName) else None) rest ≡ Some m → IsStood m.entity
  class_stood true rest m f h = subst (λ (m : NameMeaning). IsStood m.entity) (some_same h) tt
  class_stood false rest m f h = f h

  routine_stood : (b : Bool) (i : ℕ) (rest : Option NameMeaning) (m : NameMeaning) → (rest ≡ Some m → IsStood m.entity) → first_of (if b then Some (outer (entity.Routine i)) else None) rest ≡ Some m → IsStood m.entity
  routine_stood true i rest m f h = subst (λ (m : NameMeaning). IsStood m.entity) (some_same h) tt
  routine_stood false i rest m f h = f h

  constant_stood : (b : Bool) (c : Constant) (rest : Option NameMeaning) (m : NameMeaning) → (s : Sort) × (sort_of p c.base ≡ Some s) → (rest ≡ Some m → IsStood m.entity) → first_of (if b then Some (constant_meant p c) else None) rest ≡ Some m → IsStood m.entity
  constant_stood true c rest m k f h =
      subst (λ (m : NameMeaning). IsStood m.entity) (some_same h) (subst (λ o. IsStood (option_map (λ s. entity.Value s) o)) (sym k.1) tt)
  constant_stood false c rest m k f h = f h

  items_stood : (i : ℕ) (xs : List Item) (m : NameMeaning) → AreConstant p xs → items_named p i xs name ≡ Some m → IsStood m.entity
  items_stood i [] m k h = none_some h
  items_stood i (ClassItem c ∷ xs) m k h = class_stood (same_name c.name name) (items_named p (i + 1) xs name) m (items_stood (i + 1) xs m k) h
  items_stood i (RoutineItem r ∷ xs) m k h = routine_stood (rules.is_here r.sig.owner && same_name r.sig.name name) i (items_named p (i + 1) xs name) m (items_stood (i + 1) xs m k) h
  items_stood i (ConstItem c ∷ xs) m k h = constant_stood (same_name c.name name) c (items_named p (i + 1) xs name) m (k 0 c refl) (items_stood (i + 1) xs m (λ n. k (suc n))) h
  items_stood i (ProtoItem s ∷ xs) m k h = routine_stood (rules.is_here s.owner && same_name s.name name) i (items_named p (i + 1) xs name) m (items_stood (i + 1) xs m k) h
  items_stood i (ForwardItem f ∷ xs) m k h = class_stood (same_name f.name name) (items_named p (i + 1) xs name) m (items_stood (i + 1) xs m k) h
  items_stood i (UsingItem q ∷ xs) m k h = items_stood (i + 1) xs m k h

  outer_stood : (b : Bool) (m : NameMeaning) → AreConstant p p.items → (if b then Some (outer entity.ClassName) else items_named p 0 p.items name) ≡ Some m → IsStood m.entity
  outer_stood true m k h = subst (λ (m : NameMeaning). IsStood m.entity) (some_same h) tt
  outer_stood false m k h = items_stood 0 p.items m k h

module _ (p : Program) (formed : IsFormed p) (u : Unbroken (program_visits p)) where
  abbrev t : Table
  t = table_of p

  told : Told t p
  told = law_told p formed u

  module _ (i : ℕ) (c : Class) (e : class_at p i ≡ Some c) (name : List ℕ) (x : NameMeaning) (h : member_named p i name ≡ Some x) where
    field_found : is_field_origin x.origin ≡ true → Found p c name x (leading_cells c.kind) (fields_of c.members)
    field_found r = found p i c name x e h r

    record IsVariable : Type 0 where
      by_ref : Bool
      len : Option expr.Expr
      count : ℕ
      sort : Sort
      is : x.entity ≡ Some (variable by_ref len count sort)
      condition : is_condition sort ≡ true → is_mutex c.kind ≡ true

    field_variable : is_field_origin x.origin ≡ true → IsVariable
    field_variable r =
        let f = field_found r in
        let d = f.field.declarator in
        let q = field_rules p u i c e f.n f.field f.at in
        let env = plain_env p (class_around (home p u i c)) in
        let h1 = none_right (unless (is_new_field c q.place (fields_at c q.place.member) d.name) S2 d.pos) _ q.own in
        let h2 = none_right (unless (not (home_leads_back p env.around.home f.field.base d)) S4 d.pos) _ h1 in
        let h3 = none_right (length_breaks env d.by_ref d.len d.pos) _ h2 in
        let h4 = none_right (length_value_breaks env d.len) _ h3 in
        let h5 = none_right (of_sort (sort_of p f.field.base) (is_field_sort p d) S16 d.pos) _ h4 in
        let h6 = none_right (unless (not (is_coroutine c.kind && is_public q.access)) S18 d.pos) _ h5 in
        let h7 = none_right (of_sort (sort_of p f.field.base) is_no_event S22 d.pos) _ h6 in
        record {
          by_ref = d.by_ref;
          len = d.len;
          count = elements (seen_in (constants_of p.items) c) d;
          sort = q.sort;
          is = f.entity ∙ ap (option_map (variable d.by_ref d.len (elements (seen_in (constants_of p.items) c) d))) q.base;
          condition = λ z. in_mutex q.sort (sort_of p f.field.base) d.pos _ (is_mutex c.kind) q.base z h7;
        }

    by_meaning : Meaning i c name x → IsStood x.entity
    by_meaning (a_field r k) = let v = field_variable r in subst IsStood (sym v.is) (variable_stood v.by_ref v.len v.count v.sort)
    by_meaning (a_method j inner sig d w n q k) = subst IsStood (sym q) tt

    member_stood : IsStood x.entity
    member_stood = by_meaning (meaning p i c name x e h)

    -- in a routine of the class
    own_by : (g : Sig) (sc : List Name) → g.this ≡ Some i → (names_condition (Some x) ≡ true → IsInside g.inward) → Meaning i c name x → (w : Entity) → x.entity ≡ Some w → Agrees t g sc p w (tree.own_meant p (Some i) name)
    own_by g sc this within (a_field r k) w q =
        let v = field_variable r in
        let inside : names_condition (Some x) ≡ true → (t.mutex i ≡ true) × IsInside g.inward = λ z. (ap (of_kind is_mutex) e ∙ v.condition (of_conditions v.by_ref v.len v.count v.sort (sym (ap is_condition_of v.is) ∙ z)), within z) in
        let same : variable v.by_ref v.len v.count v.sort ≡ w = some_same (sym v.is ∙ q) in
        let m = tree.member_meant p i tree.Own name in
        let a : Agrees t g sc p (variable v.by_ref v.len v.count v.sort) m = (law_fields t g sc p i c (told.classes i c e)).own name x this inside h r (variable v.by_ref v.len v.count v.sort) v.is in
        subst (λ w. Agrees t g sc p w (tree.own_meant p (Some i) name)) same (subst (Agrees t g sc p (variable v.by_ref v.len v.count v.sort)) (sym (picks t g sc p v.by_ref v.len v.count v.sort m (tree.item_meant p name) a)) a)
    own_by g sc this within (a_method j inner sig d k n z y) w q =
        let m = tree.member_meant p i tree.Own name in
        let a = method_agrees p i c name formed u e t g sc told (ap (of_kind is_mutex) e) tree.Own (i, this, refl) j inner false sig d k n (ap helps_in h ∙ ap entity_helps z) (λ f. refl) in
        let same : entity.Method i j inner false ≡ w = some_same (sym z ∙ q) in
        subst (λ w. Agrees t g sc p w (tree.own_meant p (Some i) name)) same (subst (Agrees t g sc p (entity.Method i j inner false)) (sym (method_picks t g sc a.number a.class m.standing m (tree.item_meant p name) a.standing)) a)

    own_agrees : (g : Sig) (sc : List Name) → g.this ≡ Some i → (names_condition (Some x) ≡ true → IsInside g.inward) → AgreesIf t g sc p x.entity (tree.own_meant p (Some i) name)
    own_agrees g sc this within w q = own_by g sc this within (meaning p i c name x e h) w q

    -- behind a path
    open_some : (b : Bool) (o : Option Entity) (w : Entity) → (if b then entity_by_path o else None) ≡ Some w → entity_by_path o ≡ Some w
    open_some true o w q = q
    open_some false o w q = none_some q

    path_by : (g : Sig) (sc : List Name) (m : Expr) → Yields t g sc m (Obj i) → is_mutex_field_of (Some x) ≡ false → names_condition (Some x) ≡ false → Meaning i c name x → (w : Entity) → entity_by_path x.entity ≡ Some w → Agrees t g sc p w (tree.member_meant p i (tree.Of m) name)
    path_by g sc m y no_mutex no_condition (a_field r k) w q =
        let v = field_variable r in
        let same : variable v.by_ref v.len v.count v.sort ≡ w = sym (variable_path v.by_ref v.len v.count v.sort) ∙ some_same (sym (ap entity_by_path v.is) ∙ q) in
        let a = (law_fields t g sc p i c (told.classes i c e)).path m name x y (ap (of_kind is_mutex) e ∙ (sym k ∙ no_mutex)) h r no_condition (variable v.by_ref v.len v.count v.sort) v.is in
        subst (λ w. Agrees t g sc p w (tree.member_meant p i (tree.Of m) name)) same a
    path_by g sc m y no_mutex no_condition (a_method j inner sig d k n z y1) w q =
        let same : entity.Method i j inner true ≡ w = some_same (sym (ap entity_by_path z) ∙ q) in
        subst (λ w. Agrees t g sc p w (tree.member_meant p i (tree.Of m) name)) same (method_agrees p i c name formed u e t g sc told (ap (of_kind is_mutex) e) (tree.Of m) y j inner true sig d k n (ap helps_in h ∙ ap entity_helps z) (λ f. false_true (sym f)))

  member_known : (i : ℕ) (name : List ℕ) (x : NameMeaning) → member_named p i name ≡ Some x → (c : Class) × (class_at p i ≡ Some c)
  member_known i name x h = by (class_at p i) h
    where
      by : (o : Option Class) → rules.member_in p i o name ≡ Some x → (c : Class) × (o ≡ Some c)
      by None h = none_some h
      by (Some c) h = (c, refl)

  any_member_stood : (i : ℕ) (name : List ℕ) (x : NameMeaning) → member_named p i name ≡ Some x → IsStood x.entity
  any_member_stood i name x h = let c = member_known i name x h in member_stood i c.0 c.1 name x h

  path_stood : (w : Entity) (name : List ℕ) (x : NameMeaning) → path_member p w name ≡ Some x → IsStood x.entity
  path_stood (entity.Place (sort.Object i k)) name x h = any_member_stood i name x h
  path_stood (entity.Place sort.Void) name x h = none_some h
  path_stood (entity.Place sort.Int) name x h = none_some h
  path_stood (entity.Place sort.Char) name x h = none_some h
  path_stood (entity.Place sort.Bool) name x h = none_some h
  path_stood (entity.Place sort.Condition) name x h = none_some h
  path_stood (entity.Place sort.Cluster) name x h = none_some h
  path_stood (entity.Place sort.Processor) name x h = none_some h
  path_stood _ name x h = none_some h

  -- results

  item_ret : (i : ℕ) (x : Item) (sig : Declared) → slice_get p.items i ≡ Some x → item_sig x ≡ Some sig → (s : Sort) × (sort_of p sig.ret ≡ Some s)
  item_ret i (RoutineItem r) sig e q =
      let rule = item_rules p u i (RoutineItem r) e in
      let v = first (sig_visits (outer_env p r.sig) r.sig) _ rule.inner in
      subst (λ (z : Declared). (s : Sort) × (sort_of p z.ret ≡ Some s)) (some_same q) (sig_ret p u (outer_env p r.sig) r.sig refl (formed.makers i r.sig (ap (option_and_then item_sig) e)) v)
  item_ret i (ProtoItem z) sig e q =
      let rule = item_rules p u i (ProtoItem z) e in
      subst (λ (z : Declared). (s : Sort) × (sort_of p z.ret ≡ Some s)) (some_same q) (sig_ret p u (plain_env p no_around) z refl (formed.makers i z (ap (option_and_then item_sig) e)) rule.inner)
  item_ret i (ClassItem c) sig e q = none_some q
  item_ret i (ConstItem c) sig e q = none_some q
  item_ret i (ForwardItem f) sig e q = none_some q
  item_ret i (UsingItem f) sig e q = none_some q

  routine_ret : (i : ℕ) (sig : Declared) → routine_sig p i ≡ Some sig → (s : Sort) × (sort_of p sig.ret ≡ Some s)
  routine_ret i sig h = by (slice_get p.items i) refl h
    where
      by : (o : Option Item) → slice_get p.items i ≡ o → option_and_then item_sig o ≡ Some sig → (s : Sort) × (sort_of p sig.ret ≡ Some s)
      by None e q = none_some q
      by (Some x) e q = item_ret i x sig e q

  method_ret : (i j : ℕ) (sig : Declared) → method_sig p i j ≡ Some sig → (s : Sort) × (sort_of p sig.ret ≡ Some s)
  method_ret i j sig h = by (class_at p i) refl h
    where
      by : (o : Option Class) → class_at p i ≡ o → option_and_then (λ (c : Class). option_and_then (λ (m : Member). rules.form_sig m.form) (slice_get c.members j)) o ≡ Some sig → (s : Sort) × (sort_of p sig.ret ≡ Some s)
      by None e q = none_some q
      by (Some c) e q = (sig_rules p formed u i c j sig e (method_at p formed u i j c sig e h)).ret

  gives : (o : Option Declared) (n : ℕ) → ((sig : Declared) → o ≡ Some sig → (s : Sort) × (sort_of p sig.ret ≡ Some s)) → sig_takes o n ≡ true → Stands (sig_gives p o)
  gives None n f h = false_true h
  gives (Some sig) n f h = let r = f sig refl in (entity.Value r.0, ap (option_and_then value_of_sort) r.1)

  results : (w : Entity) (n : ℕ) → takes p n w ≡ true → is_main p w ≡ false → Stands (given p w)
  results entity.Fail n h k = (_, refl)
  results (entity.Operation o) n h k = (_, refl)
  results (entity.Routine i) n h k = gives (routine_sig p i) n (routine_ret i) h
  results (entity.Method i j inner path) n h k = gives (method_sig p i j) n (method_ret i j) h
  results entity.Main n h k = false_true (sym k)
  results _ n h k = false_true h

  -- names that all of the program sees

  outer_agrees : (g : Sig) (sc : List Name) (name : List ℕ) → AgreesIf t g sc p (meant_entity (outer_named p name)) (tree.item_meant p name)
  outer_agrees g sc name = law_items t g sc (plain_env p no_around) u told.routines refl name refl

  -- a routine, its class, and where it stands
  abbrev pub HomeIs : Defined → Option OwnClass → Type 0
  HomeIs d None = place_by p d ≡ None
  HomeIs d (Some h) = (c : Class) × (class_at p h.class ≡ Some c) × (h.kind ≡ c.kind) × (place_by p d ≡ Some h.class)

  abbrev Names : Sig → Option OwnClass → Bool → Option ℕ → Type 0
  Names g o main class = (sc : List Name) (name : List ℕ) → (names_condition (named_behind (own_named p main o name) (outer_named p name)) ≡ true → IsInside g.inward) → AgreesIf t g sc p (meant_entity (named_behind (own_named p main o name) (outer_named p name))) (tree.own_meant p class name)

  in_class_agree : (g : Sig) (main : Bool) (h : OwnClass) (c : Class) → class_at p h.class ≡ Some c → g.this ≡ Some h.class → Names g (Some h) main (Some h.class)
  in_class_agree g main h c e this sc name inside = by (member_named p h.class name) refl inside
    where
      by : (o : Option NameMeaning) → member_named p h.class name ≡ o → (names_condition (named_behind o (outer_named p name)) ≡ true → IsInside g.inward) → AgreesIf t g sc p (meant_entity (named_behind o (outer_named p name))) (tree.own_meant p (Some h.class) name)
      by (Some x) q inside = own_agrees h.class c e name x q g sc this inside
      by None q inside =
          let n = nothing_is p h.class c name formed u e tree.Own q in
          let same : tree.own_meant p (Some h.class) name ≡ tree.item_meant p name = ap (λ (m : tree.Meant). tree.meant_or m.standing m (tree.item_meant p name)) n in
          subst (AgreesIf t g sc p (meant_entity (outer_named p name))) (sym same) (outer_agrees g sc name)

  main_agree : (g : Sig) (main : Bool) → Names g None main None
  main_agree g main sc name inside =
      law_items t g sc (plain_env p (record { home = None; main = main; role = role.Plain; inner = false; returns = false; in_loop = false; in_handler = false; joins = false; bound = None })) u told.routines refl name refl

  abbrev AllStood : Option OwnClass → Bool → Type 0
  AllStood o main = (name : List ℕ) (m : NameMeaning) → named_behind (own_named p main o name) (outer_named p name) ≡ Some m → IsStood m.entity

  behind_stood : (o : Option NameMeaning) (name : List ℕ) (m : NameMeaning) → (o ≡ Some m → IsStood m.entity) → named_behind o (outer_named p name) ≡ Some m → IsStood m.entity
  behind_stood (Some x) name m f h = f h
  behind_stood None name m f h = outer_stood p name (is_given name) m formed.constants h

  all_stood : (o : Option OwnClass) (main : Bool) → AllStood o main
  all_stood (Some h) main name m q = behind_stood (member_named p h.class name) name m (any_member_stood h.class name m) q
  all_stood None false name m q = behind_stood None name m (λ e. none_some e) q
  all_stood None true name m q = behind_stood (if same_name main_name name then Some main_meant else None) name m (by (same_name main_name name)) q
    where
      by : (b : Bool) → (if b then Some main_meant else None) ≡ Some m → IsStood m.entity
      by true h = subst (λ (m : NameMeaning). IsStood m.entity) (some_same h) tt
      by false h = none_some h

  path_agrees : (g : Sig) (o : Option OwnClass) (sc : List Name) (i : ℕ) (k : Kind) (name : List ℕ) (x : NameMeaning) (m : tree.Meant) → object_member p (sort.Object i k) name ≡ Some x → is_mutex_field_of (Some x) ≡ false → names_condition (Some x) ≡ false → Agrees t g sc p (entity.Place (sort.Object i k)) m → AgreesIf t g sc p (open_entity o x) (tree.object_member p (Some i) m.expr name)
  path_agrees g o sc i k name x m h no_mutex no_condition a w q =
      let c = member_known i name x h in
      path_by i c.0 c.1 name x h g sc m.expr a.0.0 no_mutex no_condition (meaning p i c.0 name x c.1 h) w (open_some i c.0 c.1 name x h (is_open o x.origin) x.entity w q)

  -- what returns, switches and accepts

  returns_plain : (sig : Declared) → (is_plain sig.role ≡ false → sig.ret ≡ base.Void) → returns_scalar p sig.ret ≡ true → not (is_plain sig.role) ≡ false
  returns_plain sig f h = by (is_plain sig.role) refl
    where
      by : (b : Bool) → is_plain sig.role ≡ b → not b ≡ false
      by true e = refl
      by false e = false_true (subst (λ b. returns_scalar p b ≡ true) (f e) h)

  switches : (g : Sig) (h : OwnClass) (c : Class) (inner : Bool) → class_at p h.class ≡ Some c → h.kind ≡ c.kind → g.this ≡ Some h.class → may_switch_in inner h ≡ true → Executing t g
  switches g h c inner e k this w = (h.class, this, ap (of_kind has_execution) e ∙ subst (λ z. has_execution z ≡ true) k (by h.kind w))
    where
      by : (k : Kind) → (is_coroutine k || (is_cormonitor k && inner)) ≡ true → has_execution k ≡ true
      by kind.Class w = false_true w
      by kind.Coroutine w = refl
      by kind.Monitor w = false_true w
      by kind.Cormonitor w = refl
      by kind.Task w = false_true w
      by kind.Event w = false_true w

  accepts : (g : Sig) (h : OwnClass) (c : Class) (mark : MutexMark) (sig : Declared) → class_at p h.class ≡ Some c → h.kind ≡ c.kind → g.this ≡ Some h.class → IsInside g.inward → is_inner h mark sig ≡ true → InMutex t g
  accepts g h c mark sig e k this inside w =
      (h.class, this, ap (of_kind is_mutex) e ∙ subst (λ z. is_mutex z ≡ true) k (left_is (is_mutex h.kind) _ w), inside)

  pub rooted : (g : Sig) (d : Defined) (o : Option OwnClass) (main : Bool) (mark : MutexMark) → g.this ≡ place_by p d → g.whole ≡ not (is_plain d.routine.sig.role) → (is_plain d.routine.sig.role ≡ false → d.routine.sig.ret ≡ base.Void) → HomeIs d o → ((h : OwnClass) → o ≡ Some h → is_inner h mark d.routine.sig ≡ true → IsInside g.inward) → Rooted t g p (sig_around p o main mark d.routine.sig) (place_by p d)
  rooted g d None main mark this whole void at inside = record {
    told = told;
    refers = refl;
    classes = mutex_is p;
    tasks = task_is p;
    inside = λ h. false_true h;
    names = subst (Names g None main) (sym at) (main_agree g main);
    stood = all_stood None main;
    member = path_agrees g None;
    members = path_stood;
    results = results;
    returning = λ h. whole ∙ returns_plain d.routine.sig void h;
    switching = λ h q w. none_some q;
    accepting = λ h. false_true h;
  }
  rooted g d (Some h) main mark this whole void at inside = record {
    told = told;
    refers = refl;
    classes = mutex_is p;
    tasks = task_is p;
    inside = inside h refl;
    names = subst (Names g (Some h) main) (sym at.3) (in_class_agree g main h at.0 at.1 (this ∙ at.3));
    stood = all_stood (Some h) main;
    member = path_agrees g (Some h);
    members = path_stood;
    results = results;
    returning = λ q. whole ∙ returns_plain d.routine.sig void q;
    switching = λ x q w. switches g h at.0 (is_inner h mark d.routine.sig) at.1 at.2 (this ∙ at.3) (subst (λ (z : OwnClass). may_switch_in (is_inner h mark d.routine.sig) z ≡ true) (sym (some_same q)) w);
    accepting = λ q. let w = left_is (is_inner h mark d.routine.sig) _ q in accepts g h at.0 mark d.routine.sig at.1 at.2 (this ∙ at.3) (inside h refl w) w;
  }
