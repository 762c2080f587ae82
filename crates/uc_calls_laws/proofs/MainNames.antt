-- What the name of a main stands for under the rules is a main, or nothing that is called.
use Rattle.std.proofs.Common.{◌≡◌, ℕ, suc, ◌+◌, List, [], ◌∷◌, Option, Some, None, Bool, true, false, refl, sym, ap, ◌∙◌, subst, arith}
use Rattle.std.specs.Prelude.{◌&&◌, ◌||◌, not, is_some, slice_get, if◌then◌else◌, option_map, option_and_then}
use Rattle.uc_tree.specs.declared.pos.Pos.{Pos}
use Rattle.uc_tree.specs.declared.kinds.Access.{Access}
use Rattle.uc_tree.specs.declared.kinds.Base.{Base}
use Rattle.uc_tree.specs.declared.kinds.MutexMark.{MutexMark}
use Rattle.uc_tree.specs.Names.{same_name}
use Rattle.uc_tree.specs.Numbering.{is_given, is_plain, main_name}
use Rattle.uc_tree.specs.Statements.{Declarator}
use Rattle.uc_tree.specs.Programs as whole
use Rattle.uc_tree.specs.Programs.{Sig, Class, Member, MemberForm, Item, Program}
use Rattle.uc_rules.specs.declared.rule.Rule.TheVariants.{S1, S7, S10, S18}
use Rattle.uc_rules.specs.declared.rules.Sort.{Sort}
use Rattle.uc_rules.specs.declared.rules.Sort.TheVariants as sort
use Rattle.uc_rules.specs.declared.rules.Entity.{Entity}
use Rattle.uc_rules.specs.declared.rules.Entity.TheVariants as entity
use Rattle.uc_rules.specs.declared.rules.NameMeaning.{NameMeaning}
use Rattle.uc_rules.specs.declared.rules.Origin.TheVariants as origin
use Rattle.uc_rules.specs.declared.rules.LocalName.{LocalName}
use Rattle.uc_rules.specs.declared.rules.OwnClass.{OwnClass}
use Rattle.uc_rules.specs.Asked.{unless}
use Rattle.uc_rules.specs.Sorts.{sort_of, class_at}
use Rattle.uc_rules.specs.Names as names
use Rattle.uc_rules.specs.Names.{Owned, variable, form_sig, method_sig, item_sig, member_named, outer_named}
use Rattle.uc_rules.specs.Scopes as scopes
use Rattle.uc_rules.specs.Scopes.{Env, named, local_named, own_named}
use Rattle.uc_rules.specs.Entities as rules
use Rattle.uc_rules.specs.Entities.{takes, is_main, may_call, is_object, path_member, built_in, of_field, open_entity, entity_by_path, meant_entity, is_open}
use Rattle.uc_rules.specs.ExpressionBreaks.{is_member, is_no_main, is_open_member, may_name}
use Rattle.uc_rules.specs.Visits.{AtUse, AtMember, AtCall}
use Rattle.uc_rules.specs.Breaks.{breaks_at}
use Rattle.uc_sound.specs.Unbroken.{IsKnown}
use Rattle.uc_sound.proofs.Ties.{some_same, none_some, false_true}
use Rattle.uc_sound.proofs.UnbrokenLemmas.{none_right, holds}
use Rattle.uc_sound.proofs.Lists.{left_is, right_is, not_is}
use Rattle.uc_sound.proofs.ClassNames.{same_is}

-- it is not called, whatever the arguments are
abbrev pub NotCalled : Program → Entity → Type 0
NotCalled p w = (n : ℕ) → may_call p n w ≡ false

-- what stands there is there, and is not called
pub record MainLike (p : Program) (o : Option Entity) : Type 0 where
  pub entity : Entity
  pub stands : o ≡ Some entity
  pub not_called : NotCalled p entity

-- so it is of what a name means
abbrev Meaning : Program → NameMeaning → Type 0
Meaning p m = (w : Entity) → m.entity ≡ Some w → NotCalled p w

-- a local is a variable, or an event that every program has
abbrev pub IsLocal : Option Entity → Type 0
IsLocal (Some (entity.Place s)) = Unit {0}
IsLocal (Some (entity.Array s n)) = Unit {0}
IsLocal (Some entity.ClassName) = Unit {0}
IsLocal _ = ⊥

abbrev pub AreLocals : List LocalName → Type 0
AreLocals [] = Unit {0}
AreLocals (s ∷ ss) = IsLocal s.meant.entity × AreLocals ss

and_false : (b : Bool) → (b && false) ≡ false
and_false true = refl
and_false false = refl

module _ (p : Program) where
  main_not : (w : Entity) → is_main p w ≡ true → NotCalled p w
  main_not w h n = ap (λ b. takes p n w && not b) h ∙ and_false (takes p n w)

  local_not : (w : Entity) → IsLocal (Some w) → NotCalled p w
  local_not (entity.Place s) h n = refl
  local_not (entity.Array s k) h n = refl
  local_not entity.ClassName h n = refl
  local_not _ h n = absurd h

  local_meaning : (m : NameMeaning) → IsLocal m.entity → Meaning p m
  local_meaning m h w e = local_not w (subst IsLocal e h)

  -- locals

  local_found : (ss : List LocalName) (name : List ℕ) (m : NameMeaning) → AreLocals ss → local_named ss name ≡ Some m → IsLocal m.entity
  local_found [] name m h e = none_some e
  local_found (s ∷ ss) name m h e = by (local_named ss name) refl (λ q. local_found ss name m h.1 q) e
    where
      here : (b : Bool) → (if b then Some s.meant else None) ≡ Some m → IsLocal m.entity
      here true e = subst (λ (m : NameMeaning). IsLocal m.entity) (some_same e) h.0
      here false e = none_some e

      by : (o : Option NameMeaning) → local_named ss name ≡ o → (local_named ss name ≡ Some m → IsLocal m.entity) → scopes.later_or o s name ≡ Some m → IsLocal m.entity
      by None q f e = here (same_name s.name name) e
      by (Some x) q f e = f (q ∙ e)

  -- members

  variable_not : {A : Type 0} (r : Bool) (len : Option A) (n : ℕ) (s : Sort) → NotCalled p (variable r len n s)
  variable_not true len n s k = refl
  variable_not false None n s k = refl
  variable_not false (Some e) n s k = refl

  declared_not : {A : Type 0} (r : Bool) (len : Option A) (n : ℕ) (o : Option Sort) (w : Entity) → option_map (variable r len n) o ≡ Some w → NotCalled p w
  declared_not r len n None w e = none_some e
  declared_not r len n (Some s) w e = subst (NotCalled p) (some_same e) (variable_not r len n s)

  fields_not : (o : Owned) (a : Access) (j i : ℕ) (b : Base) (ds : List Declarator) (name : List ℕ) (m : NameMeaning) → names.field_named p o a j i b ds name ≡ Some m → Meaning p m
  fields_not o a j i b [] name m e = none_some e
  fields_not o a j i b (d ∷ ds) name m e = by (same_name d.name name) e (λ q. fields_not o a j (i + 1) b ds name m q)
    where
      by : (z : Bool) → (if z then Some (names.field_meant p o a (names.place_in j i) b d) else names.field_named p o a j (i + 1) b ds name) ≡ Some m → (names.field_named p o a j (i + 1) b ds name ≡ Some m → Meaning p m) → Meaning p m
      by true e f = subst (Meaning p) (some_same e) (λ w q. declared_not d.by_ref d.len _ (sort_of p b) w q)
      by false e f = f e

  module _ (i : ℕ) (c : Class) (at : class_at p i ≡ Some c) (name : List ℕ) (main : same_name name main_name ≡ true) where
    abbrev owned : Owned
    owned = record { place = i; class = c }

    named_main : (s : Sig) → same_name s.name name ≡ true → rules.is_main_sig (Some s) ≡ true
    named_main s e = subst (λ n. same_name n main_name ≡ true) (sym (same_is s.name name e)) main

    method_not : (j : ℕ) (x : Member) (k : MutexMark) (a : Access) (s : Sig) → slice_get c.members j ≡ Some x → form_sig x.form ≡ Some s → (m : NameMeaning) → names.method_named owned k a j s name ≡ Some m → Meaning p m
    method_not j x k a s l f m e = by (is_plain s.role && same_name s.name name) refl e
      where
        sig : method_sig p i j ≡ Some s
        sig = ap (option_and_then (λ (c : Class). option_and_then (λ (m : Member). form_sig m.form) (slice_get c.members j))) at ∙ (ap (option_and_then (λ (m : Member). form_sig m.form)) l ∙ f)

        by : (z : Bool) → (is_plain s.role && same_name s.name name) ≡ z → (if z then Some (record { entity = Some (entity.Method i j (names.is_inner_only c.kind k a) false); origin = origin.Method i a }) else None) ≡ Some m → Meaning p m
        by true q e =
            subst (Meaning p) (some_same e) (λ w g. subst (NotCalled p) (some_same g) (main_not (entity.Method i j (names.is_inner_only c.kind k a) false) (ap rules.is_main_sig sig ∙ named_main s (right_is (is_plain s.role) (same_name s.name name) q))))
        by false q e = none_some e

    form_not : (j : ℕ) (x : Member) (form : MemberForm) → slice_get c.members j ≡ Some x → x.form ≡ form → (m : NameMeaning) → names.form_named p owned x.mark x.access j form name ≡ Some m → Meaning p m
    form_not j x (whole.FieldsMember q b ds) l f m e = fields_not owned x.access j 0 b ds name m e
    form_not j x (whole.RoutineMember r) l f m e = method_not j x x.mark x.access r.sig l (ap form_sig f) m e
    form_not j x (whole.ProtoMember s) l f m e = method_not j x x.mark x.access s l (ap form_sig f) m e

    members_not : (ms : List Member) (j : ℕ) → ((k : ℕ) (x : Member) → slice_get ms k ≡ Some x → (l : ℕ) → j + k ≡ l → slice_get c.members l ≡ Some x) → (m : NameMeaning) → names.members_named p owned j ms name ≡ Some m → Meaning p m
    members_not [] j f m e = none_some e
    members_not (x ∷ xs) j f m e =
        by (names.form_named p owned x.mark x.access j x.form name) refl (λ q. members_not xs (j + 1) (λ k y g l h. f (suc k) y g l (omega (arith, h))) m q) e
      where
        by : (o : Option NameMeaning) → names.form_named p owned x.mark x.access j x.form name ≡ o → (names.members_named p owned (j + 1) xs name ≡ Some m → Meaning p m) → names.first_of o (names.members_named p owned (j + 1) xs name) ≡ Some m → Meaning p m
        by (Some y) q g e = form_not j x x.form (f 0 x refl j (omega arith)) refl m (q ∙ e)
        by None q g e = g e

  pub member_not : (i : ℕ) (name : List ℕ) (m : NameMeaning) → same_name name main_name ≡ true → member_named p i name ≡ Some m → Meaning p m
  member_not i name m main e = by (class_at p i) refl e
    where
      by : (o : Option Class) → class_at p i ≡ o → names.member_in p i o name ≡ Some m → Meaning p m
      by None q e = none_some e
      by (Some c) q e =
          members_not i c q name main c.members 0 (λ k x g l h. subst (λ l. slice_get c.members l ≡ Some x) (let z : k ≡ l = omega (arith, h) in z) g) m e

  -- what all of the program sees

  routine_not : (i : ℕ) (x : Item) (s : Sig) (name : List ℕ) (m : NameMeaning) → same_name name main_name ≡ true → slice_get p.items i ≡ Some x → item_sig x ≡ Some s → names.routine_named i s name ≡ Some m → Meaning p m
  routine_not i x s name m main l f e = by (names.is_here s.owner && same_name s.name name) refl e
    where
      by : (z : Bool) → (names.is_here s.owner && same_name s.name name) ≡ z → (if z then Some (names.outer (entity.Routine i)) else None) ≡ Some m → Meaning p m
      by true q e =
          let named : rules.is_main_sig (Some s) ≡ true = subst (λ n. same_name n main_name ≡ true) (sym (same_is s.name name (right_is (names.is_here s.owner) (same_name s.name name) q))) main in
          subst (Meaning p) (some_same e) (λ w g. subst (NotCalled p) (some_same g) (main_not (entity.Routine i) (ap (λ o. rules.is_main_sig (option_and_then item_sig o)) l ∙ (ap rules.is_main_sig f ∙ named))))
      by false q e = none_some e

  name_not : (z : Bool) (m : NameMeaning) → (if z then Some (names.outer entity.ClassName) else None) ≡ Some m → Meaning p m
  name_not true m e = subst (Meaning p) (some_same e) (λ w g. subst (NotCalled p) (some_same g) (λ n. refl))
  name_not false m e = none_some e

  constant_not : (c : whole.Constant) (z : Bool) (m : NameMeaning) → (if z then Some (names.constant_meant p c) else None) ≡ Some m → Meaning p m
  constant_not c false m e = none_some e
  constant_not c true m e = subst (Meaning p) (some_same e) (λ w g. value (sort_of p c.base) w g)
    where
      value : (o : Option Sort) (w : Entity) → option_map (λ s. entity.Value s) o ≡ Some w → NotCalled p w
      value None w g = none_some g
      value (Some s) w g = subst (NotCalled p) (some_same g) (λ n. refl)

  item_not : (i : ℕ) (x : Item) (name : List ℕ) (m : NameMeaning) → same_name name main_name ≡ true → slice_get p.items i ≡ Some x → names.item_named p i x name ≡ Some m → Meaning p m
  item_not i (whole.ClassItem c) name m main l e = name_not (same_name c.name name) m e
  item_not i (whole.RoutineItem r) name m main l e = routine_not i (whole.RoutineItem r) r.sig name m main l refl e
  item_not i (whole.ConstItem c) name m main l e = constant_not c (same_name c.name name) m e
  item_not i (whole.ProtoItem s) name m main l e = routine_not i (whole.ProtoItem s) s name m main l refl e
  item_not i (whole.ForwardItem f) name m main l e = name_not (same_name f.name name) m e
  item_not i (whole.UsingItem q) name m main l e = none_some e

  items_not : (xs : List Item) (i : ℕ) (name : List ℕ) (m : NameMeaning) → same_name name main_name ≡ true → ((k : ℕ) (x : Item) → slice_get xs k ≡ Some x → (l : ℕ) → i + k ≡ l → slice_get p.items l ≡ Some x) → names.items_named p i xs name ≡ Some m → Meaning p m
  items_not [] i name m main f e = none_some e
  items_not (x ∷ xs) i name m main f e =
      by (names.item_named p i x name) refl (λ q. items_not xs (i + 1) name m main (λ k y g l h. f (suc k) y g l (omega (arith, h))) q) e
    where
      by : (o : Option NameMeaning) → names.item_named p i x name ≡ o → (names.items_named p (i + 1) xs name ≡ Some m → Meaning p m) → names.first_of o (names.items_named p (i + 1) xs name) ≡ Some m → Meaning p m
      by (Some y) q g e = item_not i x name m main (f 0 x refl i (omega arith)) (q ∙ e)
      by None q g e = g e

  outer_not : (name : List ℕ) (m : NameMeaning) → same_name name main_name ≡ true → outer_named p name ≡ Some m → Meaning p m
  outer_not name m main e = by (is_given name) e
    where
      by : (z : Bool) → (if z then Some (names.outer entity.ClassName) else names.items_named p 0 p.items name) ≡ Some m → Meaning p m
      by true e = subst (Meaning p) (some_same e) (λ w g. subst (NotCalled p) (some_same g) (λ n. refl))
      by false e =
          items_not p.items 0 name m main (λ k x g l h. subst (λ l. slice_get p.items l ≡ Some x) (let z : k ≡ l = omega (arith, h) in z) g) e

  own_not : (b : Bool) (o : Option OwnClass) (name : List ℕ) (m : NameMeaning) → same_name name main_name ≡ true → own_named p b o name ≡ Some m → Meaning p m
  own_not b (Some h) name m main e = member_not h.class name m main e
  own_not false None name m main e = none_some e
  own_not true None name m main e = by (same_name main_name name) e
    where
      by : (z : Bool) → (if z then Some scopes.main_meant else None) ≡ Some m → Meaning p m
      by true e = subst (Meaning p) (some_same e) (λ w g. subst (NotCalled p) (some_same g) (main_not entity.Main refl))
      by false e = none_some e

-- in an environment

module _ (env : Env) (known : IsKnown env) (locals : AreLocals env.names) where
  name_meaning : (name : List ℕ) (m : NameMeaning) → same_name name main_name ≡ true → named env name ≡ Some m → Meaning env.program m
  name_meaning name m main e = by (local_named env.names name) refl e
    where
      behind : (o : Option NameMeaning) → own_named env.program env.around.main env.around.home name ≡ o → scopes.named_behind o (outer_named env.program name) ≡ Some m → Meaning env.program m
      behind (Some x) q e = own_not env.program env.around.main env.around.home name m main (q ∙ e)
      behind None q e = outer_not env.program name m main e

      by : (o : Option NameMeaning) → local_named env.names name ≡ o → scopes.named_behind o (scopes.named_behind (own_named env.program env.around.main env.around.home name) (outer_named env.program name)) ≡ Some m → Meaning env.program m
      by (Some x) q e = local_meaning env.program m (local_found env.program env.names name m locals (q ∙ e))
      by None q e = behind (own_named env.program env.around.main env.around.home name) refl e

  some_there : {A : Type 0} (o : Option A) → is_some o ≡ true → (x : A) × (o ≡ Some x)
  some_there None h = false_true h
  some_there (Some x) h = (x, refl)

  -- a name that is used
  pub used : (q : Pos) (name : List ℕ) → breaks_at (AtUse env q name) ≡ [] → same_name name main_name ≡ true → MainLike env.program (meant_entity (named env name))
  used q name u main =
      let m = some_there (named env name) (holds (is_some (named env name)) S1 q _ u) in
      let w = known.names name m.0 m.1 in
      record { entity = w.0; stands = ap meant_entity m.1 ∙ w.1; not_called = name_meaning name m.0 main m.1 w.0 w.1 }

  -- a member behind a `.`

  by_path_not : (w : Entity) → NotCalled env.program w → NotCalled env.program (rules.by_path w)
  by_path_not (entity.Method i j inner path) h n = h n
  by_path_not w h n = h n

  no_condition : (s : Sort) (name : List ℕ) → same_name name main_name ≡ true → rules.condition_member s name ≡ None
  no_condition sort.Condition name main =
      subst (λ n. rules.condition_member sort.Condition n ≡ None) (sym (same_is name main_name main)) refl
  no_condition s name main = refl

  no_built_in : (w : Entity) (name : List ℕ) → same_name name main_name ≡ true → built_in w name ≡ None
  no_built_in (entity.Place s) name main = no_condition s name main
  no_built_in entity.Input name main = subst (λ n. built_in entity.Input n ≡ None) (sym (same_is name main_name main)) refl
  no_built_in w name main = refl

  path_not : (w : Entity) (name : List ℕ) (m : NameMeaning) → same_name name main_name ≡ true → path_member env.program w name ≡ Some m → Meaning env.program m
  path_not (entity.Place (sort.Object c k)) name m main e = member_not env.program c name m main e
  path_not w name m main e = none_some e

  pub member_like : (sign : Pos) (called : Bool) (name : List ℕ) (w : Entity) → breaks_at (AtMember env sign called name (Some w)) ≡ [] → same_name name main_name ≡ true → MainLike env.program (of_field env called name (Some w))
  member_like sign called name w u main = by (path_member env.program w name) refl
    where
      is_there : is_member env called name w ≡ true
      is_there = holds (is_member env called name w) S1 sign _ u

      open_is : may_name env name w ≡ true
      open_is = holds (may_name env name w) S18 sign _ (none_right (unless (is_member env called name w) S1 sign) _ u)

      found : (m : NameMeaning) → path_member env.program w name ≡ Some m → MainLike env.program (open_entity env.around.home m)
      found m e =
          let o : is_open env.around.home m.origin ≡ true = subst (λ x. is_open_member env.around.home x ≡ true) e open_is in
          let v = known.members w name m e in
          record {
            entity = rules.by_path v.0;
            stands = ap (λ (b : Bool). if b then entity_by_path m.entity else None) o ∙ ap entity_by_path v.1;
            not_called = by_path_not v.0 (path_not w name m main e v.0 v.1);
          }

      none : path_member env.program w name ≡ None → MainLike env.program (rules.other_member called name w (built_in w name))
      none q =
          let b : built_in w name ≡ None = no_built_in w name main in
          let h : (called && not (is_object w)) ≡ true = subst (λ (x : Option Entity). (is_some x || (called && not (is_object w))) ≡ true) b (subst (λ (x : Option NameMeaning). (is_some x || (is_some (built_in w name) || (called && not (is_object w)))) ≡ true) q is_there) in
          let object : is_object w ≡ false = not_is (is_object w) (right_is called (not (is_object w)) h) in
          record {
            entity = entity.Missing;
            stands = ap (λ (x : Option Entity). rules.other_member called name w x) b ∙ (ap (λ (z : Bool). if z then None else rules.of_missing called) object ∙ ap rules.of_missing (left_is called (not (is_object w)) h));
            not_called = λ n. refl;
          }

      by : (o : Option NameMeaning) → path_member env.program w name ≡ o → MainLike env.program (rules.member_entity env called name w o)
      by (Some m) q = found m q
      by None q = none q

-- a main is not called where no rule is broken
pub called : (env : Env) (sign : Pos) (n : ℕ) (w : Entity) → breaks_at (AtCall env sign n (Some w)) ≡ [] → NotCalled env.program w → ⊥
called env sign n w u f =
    let m : not (is_main env.program w) ≡ true = holds (is_no_main env.program w) S7 sign _ u in
    let t : takes env.program n w ≡ true = holds (takes env.program n w) S10 sign _ (none_right (unless (is_no_main env.program w) S7 sign) _ u) in
    let both : may_call env.program n w ≡ true = ap (λ b. b && not (is_main env.program w)) t ∙ m in
    let z : true ≡ false = sym both ∙ f n in
    absurd (cc)
