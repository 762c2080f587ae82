-- The routines of a class: each is declared by one of its members, and the names of members and the roles of routines find them.
use Rattle.std.proofs.Common.{◌≡◌, ℕ, zero, suc, ◌+◌, ◌<◌, ◌⊎◌, inl, inr, List, [], ◌∷◌, length, Option, Some, None, Bool, true, false, refl, sym, ap, ◌∙◌, subst, arith, map}
use Rattle.std.specs.Prelude.{◌&&◌, ◌||◌, not, slice_get, take, if◌then◌else◌, nat_eq, is_some, option_and_then, unwrap_or}
use Rattle.std.specs.List.{list_any}
use Rattle.std.proofs.lemmas.Bool.{eqb-true, eq-eqb}
use Rattle.uc_tree.specs.declared.kinds.Base.TheVariants as base
use Rattle.uc_tree.specs.declared.kinds.Owner.{Owner}
use Rattle.uc_tree.specs.declared.kinds.Owner.TheVariants as owner
use Rattle.uc_tree.specs.declared.kinds.Param.{Param}
use Rattle.uc_tree.specs.declared.kinds.Role.{Role}
use Rattle.uc_tree.specs.declared.kinds.Role.TheVariants as role
use Rattle.uc_tree.specs.declared.kinds.Kind.{Kind}
use Rattle.uc_tree.specs.declared.kinds.Kind.TheVariants as kind
use Rattle.uc_tree.specs.Names.{same_name}
use Rattle.uc_tree.specs.Cells.{classes_of}
use Rattle.uc_tree.specs.Numbering.{is_event, is_given, is_mutex, is_plain, main_name, member_number, class_number, Defined, defined_by, in_class, routines_of}
use Rattle.uc_tree.specs.Objects as objects
use Rattle.uc_tree.specs.Objects.{class_at, number_at, number_in, place_of, event_place, is_member, member_from, has_role, role_from, written_at}
use Rattle.uc_tree.specs.Programs.{Sig, Routine, MemberForm, FieldsMember, RoutineMember, ProtoMember, Member, Class, Item, RoutineItem, Program}
use Rattle.uc_resolve.specs.Standings as tree
use Rattle.uc_resolve.specs.Standings.{params_of}
use Rattle.uc_resolve.specs.Resolve.{place_by, event_constructor}
use Rattle.uc_rules.specs.declared.rule.Rule.TheVariants.{S2, S5}
use Rattle.uc_rules.specs.declared.rules.OwnClass.{OwnClass}
use Rattle.uc_rules.specs.declared.rules.Sort.{Sort}
use Rattle.uc_rules.specs.declared.rules.Sort.TheVariants as sort
use Rattle.uc_rules.specs.Asked.{unless}
use Rattle.uc_rules.specs.Sorts.{class_named, sort_of}
use Rattle.uc_rules.specs.Names as rules
use Rattle.uc_rules.specs.Names.{first_of, is_here, form_sig, method_sig, params_in, constructor_form, constructor_among, constructor_params, member_named}
use Rattle.uc_rules.specs.Scopes.{Env, plain_env, class_around, with_params}
use Rattle.uc_rules.specs.ClassBreaks.{sig_declares, form_declares_names, members_declare, is_kept, is_new_member, is_new_routine_by, is_new_routine, is_owner}
use Rattle.uc_rules.specs.ItemBreaks as items
use Rattle.uc_rules.specs.ItemBreaks.{is_sound_item, is_definition, is_sound_member, has_class_name, is_only_one, is_defined, defines_member_sig, class_declares, form_declares_sig, same_sig}
use Rattle.uc_rules.specs.Visits.{AtRoutine}
use Rattle.uc_rules.specs.ProgramVisits.{program_visits, form_visits, routine_visits, sig_visits, sig_env, body_visits, same_role, owner_home, home_of}
use Rattle.uc_rules.specs.Breaks.{breaks_at}
use Rattle.uc_typing.specs.Typing.{Apart, Sig as Typed}
use Rattle.uc_sound.specs.Agreement.{param_ty, AreLike}
use Rattle.uc_sound.specs.Unbroken.{Unbroken}
use Rattle.uc_sound.proofs.Ties.{some_same, none_some, false_true}
use Rattle.uc_sound.proofs.UnbrokenLemmas.{none_left, none_right, first, second, holds}
use Rattle.uc_sound.specs.SoundFormed.{IsFormed}
use Rattle.uc_sound.specs.Tables.{of_kind, helps_in, inward_by, role_inward, inward_in, inward_at, table_of}
use Rattle.uc_sound.specs.Told.{IsOfClass, TellsMember, TellsMaker, role_params}
use Rattle.uc_sound.proofs.Lists.{left_is, right_is, both_are, not_is, not_either, next_is_not, case_of, any_at, any_from, in_left, in_right, get_take, Order, before, same, behind, order}
use Rattle.uc_sound.proofs.Visited.{MemberRules, item_rules, home, member_rules, sig_known, sig_ret}
use Rattle.uc_sound.proofs.ClassNames.{same_is, is_same, HasNumber, number_of, event_number_is, same_number, sort_here, not_given, apart, Sorted, sorted, EventAt, event_at}
use Rattle.uc_sound.proofs.Origins.{Origin, outside, inside, origin, outside_listed, inside_listed, Looked, looked_from, looks, looked, member_looked, role_looked, event_looked}
use Rattle.uc_sound.proofs.Signatures.{has_sig, is_unwritten}
use Rattle.uc_sound.proofs.Likes.{AreKnown, likes, same_likes, AreSame, sig_is}
use Rattle.uc_sound.proofs.RoutineLemmas.{item_known, event_declares}

-- members that are routines, by their signatures

sig_form : (form : MemberForm) (sig : Sig) → form_sig form ≡ Some sig → is_plain sig.role ≡ true → slice_get (form_declares_names form) 0 ≡ Some sig.name
sig_form (FieldsMember at b ds) sig e w = none_some e
sig_form (RoutineMember r) sig e w = ap (λ (z : Sig). slice_get (sig_declares z) 0) (some_same e) ∙ ap (λ (b : Bool). slice_get (if b then sig.name ∷ [] else []) 0) w
sig_form (ProtoMember s) sig e w = ap (λ (z : Sig). slice_get (sig_declares z) 0) (some_same e) ∙ ap (λ (b : Bool). slice_get (if b then sig.name ∷ [] else []) 0) w

pub declares : (ms : List Member) (j : ℕ) (m : Member) (sig : Sig) → slice_get ms j ≡ Some m → form_sig m.form ≡ Some sig → is_plain sig.role ≡ true → (k : ℕ) × (slice_get (members_declare ms) k ≡ Some sig.name)
declares [] j m sig e f w = none_some e
declares (x ∷ ms) zero m sig e f w =
    (0, in_left (form_declares_names x.form) (members_declare ms) 0 sig.name (ap (λ (z : Member). slice_get (form_declares_names z.form) 0) (some_same e) ∙ sig_form m.form sig f w))
declares (x ∷ ms) (suc j) m sig e f w = let r = declares ms j m sig e f w in in_right (form_declares_names x.form) (members_declare ms) r.0 sig.name r.1

-- the first constructor of a class is the one before which there is none
first_constructor : (ms : List Member) (j : ℕ) (m : Member) (sig : Sig) → slice_get ms j ≡ Some m → form_sig m.form ≡ Some sig → sig.role ≡ role.Constructor → list_any (λ (x : Member). items.has_role sig x.form) (take j ms) ≡ false → constructor_among ms ≡ Some sig
first_constructor [] j m sig e f r n = none_some e
first_constructor (x ∷ ms) zero m sig e f r n = ap (λ o. first_of o (constructor_among ms)) (ap (λ (z : Member). constructor_form z.form) (some_same e) ∙ built m.form f)
  where
    built : (form : MemberForm) → form_sig form ≡ Some sig → constructor_form form ≡ Some sig
    built (FieldsMember at b ds) f = none_some f
    built (RoutineMember s) f =
        ap (λ (b : Bool). if b then Some s.sig else None) (ap rules.is_constructor (ap (λ (z : Sig). z.role) (some_same f) ∙ r)) ∙ f
    built (ProtoMember s) f = ap (λ (b : Bool). if b then Some s else None) (ap rules.is_constructor (ap (λ (z : Sig). z.role) (some_same f) ∙ r)) ∙ f
first_constructor (x ∷ ms) (suc j) m sig e f r n = ap (λ o. first_of o (constructor_among ms)) (other x.form (either_false (items.has_role sig x.form) (list_any (λ (x : Member). items.has_role sig x.form) (take j ms)) n).0) ∙ first_constructor ms j m sig e f r (either_false (items.has_role sig x.form) (list_any (λ (x : Member). items.has_role sig x.form) (take j ms)) n).1
  where
    either_false : (a b : Bool) → (a || b) ≡ false → (a ≡ false) × (b ≡ false)
    either_false true b h = false_true (sym h)
    either_false false b h = (refl, h)

    other : (form : MemberForm) → items.has_role sig form ≡ false → constructor_form form ≡ None
    other (FieldsMember at b ds) h = refl
    other (RoutineMember s) h = ap (λ (b : Bool). if b then Some s.sig else None) (subst (λ z. same_role z s.sig.role ≡ false) r h)
    other (ProtoMember s) h = ap (λ (b : Bool). if b then Some s else None) (subst (λ z. same_role z s.role ≡ false) r h)

-- a member that declares a routine
pub record Declares (c : Class) (j : ℕ) (sig : Sig) : Type 0 where
  pub m : Member
  pub at : slice_get c.members j ≡ Some m
  pub form : form_sig m.form ≡ Some sig

-- a routine that a member of a class declares
pub record Belongs (p : Program) (c : Class) (x : Defined) : Type 0 where
  pub j : ℕ
  pub sig : Sig
  pub declared : Declares c j sig
  pub role : sig.role ≡ x.routine.sig.role
  pub name : sig.name ≡ x.routine.sig.name
  pub params : AreLike p sig.params x.routine.sig.params

-- where a routine is at home: in a class that has a member for it, or nowhere
pub data HomeOf (p : Program) (x : Defined) : Type 0 where
  in_a_class : (i : ℕ) (c : Class) → class_at p i ≡ Some c → x.number ≡ unwrap_or (class_number p c.name) 0 → Belongs p c x → HomeOf p x
  in_none : x.number ≡ 0 → is_plain x.routine.sig.role ≡ true → HomeOf p x

module _ (p : Program) (formed : IsFormed p) (u : Unbroken (program_visits p)) where
  -- what the rules ask of a member that is a routine
  pub record SigRules (i : ℕ) (c : Class) (j : ℕ) (sig : Sig) : Type 0 where
    pub fresh : is_new_routine c j sig ≡ true
    pub class_name : has_class_name c.name sig ≡ true
    pub alone : is_only_one c sig j ≡ true
    pub known : AreKnown p sig.params
    pub ret : (s : Sort) × (sort_of p sig.ret ≡ Some s)

  routine_rules : (i : ℕ) (c : Class) (j : ℕ) (proto : Bool) (sig : Sig) → breaks_at (AtRoutine (plain_env p (class_around (home p u i c))) c proto sig j) ≡ [] → AreKnown p sig.params → (s : Sort) × (sort_of p sig.ret ≡ Some s) → SigRules i c j sig
  routine_rules i c j proto sig h k ret =
      let a = holds (is_new_routine c j sig) S2 sig.pos _ h in
      let b = none_right (unless (is_new_routine c j sig) S2 sig.pos) _ h in
      let s : is_sound_member p c proto sig j ≡ true = holds (is_sound_member p c proto sig j) S5 sig.pos _ b in
      record {
        fresh = a;
        class_name = left_is (has_class_name c.name sig) (is_only_one c sig j && is_defined p c proto sig) s;
        alone = left_is (is_only_one c sig j) (is_defined p c proto sig) (right_is (has_class_name c.name sig) (is_only_one c sig j && is_defined p c proto sig) s);
        known = k;
        ret = ret;
      }

  by_form : (i : ℕ) (c : Class) (j : ℕ) (m : Member) (form : MemberForm) (sig : Sig) → ((s : Sig) → form_sig form ≡ Some s → is_plain s.role ≡ false → s.ret ≡ base.Void) → m.form ≡ form → form_sig form ≡ Some sig → MemberRules p (home p u i c) c j m → SigRules i c j sig
  by_form i c j m (FieldsMember at b ds) sig o e f r = none_some f
  by_form i c j m (RoutineMember s) sig o e f r =
      let h = home p u i c in
      let v = subst (λ z. Unbroken (form_visits p h c j m.mark m.access z)) e r.inner in
      let own = none_left (breaks_at (AtRoutine (plain_env p (class_around h)) c false s.sig j)) _ v in
      let w = second (AtRoutine (plain_env p (class_around h)) c false s.sig j ∷ []) (routine_visits (sig_env p h m.mark s.sig) s) v in
      let v2 = first (sig_visits (sig_env p h m.mark s.sig) s.sig) (body_visits (with_params (sig_env p h m.mark s.sig) s.sig.params) s) w in
      subst (SigRules i c j) (some_same f) (routine_rules i c j false s.sig own (sig_known p u (sig_env p h m.mark s.sig) s.sig refl v2) (sig_ret p u (sig_env p h m.mark s.sig) s.sig refl (o s.sig refl) v2))
  by_form i c j m (ProtoMember s) sig o e f r =
      let h = home p u i c in
      let v = subst (λ z. Unbroken (form_visits p h c j m.mark m.access z)) e r.inner in
      let own = none_left (breaks_at (AtRoutine (plain_env p (class_around h)) c true s j)) _ v in
      let w = second (AtRoutine (plain_env p (class_around h)) c true s j ∷ []) (sig_visits (sig_env p h m.mark s) s) v in
      subst (SigRules i c j) (some_same f) (routine_rules i c j true s own (sig_known p u (sig_env p h m.mark s) s refl w) (sig_ret p u (sig_env p h m.mark s) s refl (o s refl) w))

  pub sig_rules : (i : ℕ) (c : Class) (j : ℕ) (sig : Sig) → class_at p i ≡ Some c → Declares c j sig → SigRules i c j sig
  sig_rules i c j sig e d = by_form i c j d.m d.m.form sig returns refl d.form (member_rules p u i c e j d.m d.at)
    where
      returns : (s : Sig) → form_sig d.m.form ≡ Some s → is_plain s.role ≡ false → s.ret ≡ base.Void
      returns s f w =
          formed.own_makers i j s (ap (option_and_then (λ (c : Class). option_and_then (λ (m : Member). form_sig m.form) (slice_get c.members j))) e ∙ (ap (option_and_then (λ (m : Member). form_sig m.form)) d.at ∙ f)) w

  -- no two plain members have one name
  pub not_earlier : {B : Type 0} (i : ℕ) (c : Class) (j k : ℕ) (a b : Sig) → class_at p i ≡ Some c → Declares c j a → Declares c k b → is_plain a.role ≡ true → is_plain b.role ≡ true → a.name ≡ b.name → j < k → B
  not_earlier i c j k a b e x y v w q l =
      let r = sig_rules i c k b e y in
      let f : is_new_member c k b.name ≡ true = by b.role w r.fresh in
      let d = declares (take k c.members) j x.m a (get_take c.members k j x.m l x.at) x.form v in
      not_either (list_any (λ z. same_name z b.name) (members_declare (take k c.members))) (is_kept c k b.name) (any_from (λ z. same_name z b.name) (members_declare (take k c.members)) d.0 a.name d.1 (is_same a.name b.name q)) f
    where
      by : (o : Role) → is_plain o ≡ true → is_new_routine_by o c k b.name ≡ true → is_new_member c k b.name ≡ true
      by role.Plain w h = h
      by role.Constructor w h = false_true w
      by role.Destructor w h = false_true w

  -- routines that stand outside

  here_plain : (i : ℕ) (r : Routine) → slice_get p.items i ≡ Some (RoutineItem r) → is_here r.sig.owner ≡ true → is_plain r.sig.role ≡ true
  here_plain i r e h = formed.plain i r.sig (ap (option_and_then rules.item_sig) e) h

  pub definition : (i : ℕ) (r : Routine) (o : Owner) → r.sig.owner ≡ o → slice_get p.items i ≡ Some (RoutineItem r) → is_definition p o r.sig i ≡ true
  definition i r o q e =
      subst (λ o. is_definition p o r.sig i ≡ true) q (holds (is_sound_item p (RoutineItem r) i) S5 _ _ (none_right _ _ (item_rules p u i (RoutineItem r) e).own))

  owned : (i : ℕ) (r : Routine) (name : List ℕ) (h : Option OwnClass) → owner_home p (owner.Class name) ≡ h → slice_get p.items i ≡ Some (RoutineItem r) → items.is_member_definition p name h r.sig i ≡ true → (x : Defined) → in_class p name r ≡ x → HomeOf p x
  owned i r name None o e d x q = false_true d
  owned i r name (Some h) o e d x q = by (class_named p name) refl o
    where
      declared : class_declares r.sig (class_at p h.class) ≡ true
      declared = left_is (class_declares r.sig (class_at p h.class)) _ (right_is (has_class_name name r.sig) _ d)

      known : AreKnown p r.sig.params
      known = item_known p formed u i r e

      of_member : (c : Class) (j : ℕ) (m : Member) (form : MemberForm) → slice_get c.members j ≡ Some m → m.form ≡ form → form_declares_sig r.sig form ≡ true → Belongs p c x
      of_member c j m (FieldsMember at b ds) a f g = false_true g
      of_member c j m (RoutineMember s) a f g = false_true g
      of_member c j m (ProtoMember s) a f g =
          let same : AreSame s r.sig = sig_is s r.sig g in
          let k : r ≡ x.routine = ap (λ (z : Defined). z.routine) q in
          record {
            j = j;
            sig = s;
            declared = record { m = m; at = a; form = ap form_sig f };
            role = same.role ∙ ap (λ (z : Routine). z.sig.role) k;
            name = same.name ∙ ap (λ (z : Routine). z.sig.name) k;
            params = subst (λ (z : Routine). AreLike p s.params z.sig.params) k (likes p s.params r.sig.params same.params known);
          }

      of_class : (k : Kind) → Sorted (classes_of p.items) 0 name h.class k → HomeOf p x
      of_class k s =
          let n : s.n ≡ h.class = let z = s.place in omega (arith, z) in
          let a : class_at p h.class ≡ Some s.class = ap (class_at p) (sym n) ∙ s.at in
          let f = any_at (λ (m : Member). form_declares_sig r.sig m.form) s.class.members (subst (λ o. class_declares r.sig o ≡ true) a declared) in
          in_a_class h.class s.class a (ap (λ (z : Defined). z.number) (sym q) ∙ ap (λ z. unwrap_or (class_number p z) 0) (sym s.name_is)) (of_member s.class f.0 f.1 f.1.form f.2 refl f.3)

      by_sort : (s : Sort) → class_named p name ≡ Some s → home_of s ≡ Some h → HomeOf p x
      by_sort (sort.Object class k) w z =
          let q : record { class = class; kind = k } ≡ h = some_same z in
          of_class k (sorted (classes_of p.items) 0 name h.class k (w ∙ ap (λ (y : OwnClass). Some (sort.Object y.class k)) q))
      by_sort _ w z = none_some z

      by : (o : Option Sort) → class_named p name ≡ o → option_and_then home_of o ≡ Some h → HomeOf p x
      by None w z = none_some z
      by (Some s) w z = by_sort s w z

  by_owner : (i : ℕ) (r : Routine) (o : Owner) → r.sig.owner ≡ o → slice_get p.items i ≡ Some (RoutineItem r) → (x : Defined) → defined_by p o r ≡ x → HomeOf p x
  by_owner i r owner.Here w e x q =
      in_none (ap (λ (z : Defined). z.number) (sym q)) (subst (λ (z : Defined). is_plain z.routine.sig.role ≡ true) q (here_plain i r e (ap is_here w)))
  by_owner i r owner.Main w e x q =
      in_none (ap (λ (z : Defined). z.number) (sym q)) (subst (λ (z : Defined). is_plain z.routine.sig.role ≡ true) q (left_is (is_plain r.sig.role) _ (definition i r owner.Main w e)))
  by_owner i r (owner.Class name) w e x q = owned i r name (owner_home p (owner.Class name)) refl e (definition i r (owner.Class name) w e) x q

  pub home_is : (x : Defined) → Origin p x → HomeOf p x
  home_is x (outside i r e q) = by_owner i r r.sig.owner refl e x q
  home_is x (inside i j c m r e f g q) =
      let k : r ≡ x.routine = ap (λ (z : Defined). z.routine) q in
      let d : Declares c j r.sig = record { m = m; at = f; form = ap form_sig g } in
      in_a_class i c e (ap (λ (z : Defined). z.number) (sym q)) (record { j = j; sig = r.sig; declared = d; role = ap (λ (z : Routine). z.sig.role) k; name = ap (λ (z : Routine). z.sig.name) k; params = subst (λ (z : Routine). AreLike p r.sig.params z.sig.params) k (same_likes p r.sig.params (sig_rules i c j r.sig e d).known) })

  class_same : (i k : ℕ) (c d : Class) → i ≡ k → class_at p i ≡ Some c → class_at p k ≡ Some d → c ≡ d
  class_same i k c d q e f = some_same (sym e ∙ (ap (class_at p) q ∙ f))

  -- a routine with the number of a class belongs to it
  pub belongs : (i : ℕ) (c : Class) (x : Defined) → class_at p i ≡ Some c → HasNumber p u i → x.number ≡ number_at p i → HomeOf p x → Belongs p c x
  belongs i c x e h n (in_none z w) =
      let a = h.number in
      let b : ⊥ = omega (arith, n, z, a) in
      absurd b
  belongs i c x e h n (in_a_class k d f m b) = by (case_of (is_event d.kind))
    where
      by : (is_event d.kind ≡ true) ⊎ (is_event d.kind ≡ false) → Belongs p c x
      by (inl v) =
          let a = h.number in
          let z = event_number_is p u k d f v in
          let b : ⊥ = omega (arith, n, m, z, a) in
          absurd b
      by (inr v) =
          let g = number_of p u k d formed.classes f v in
          let q : number_at p k ≡ number_at p i = ap (number_in p) f ∙ (sym m ∙ n) in
          subst (λ z. Belongs p z x) (class_same k i d c (same_number p u k i g h q) f e) b

  pub numbered_place : (i : ℕ) (x : Defined) → HasNumber p u i → x.number ≡ number_at p i → place_by p x ≡ Some i
  numbered_place i x h n =
      let q : x.number ≡ suc h.before = n ∙ h.number in
      ap (λ z. if nat_eq z 0 && objects.is_constructor x.routine.sig.role then event_place p (base.Named x.routine.sig.name) else place_of p z) q ∙ (ap (λ (b : Bool). if b && objects.is_constructor x.routine.sig.role then event_place p (base.Named x.routine.sig.name) else place_of p (suc h.before)) (next_is_not h.before) ∙ h.place)

  -- what a routine of a class is in the table
  of_class : (i : ℕ) (n : ℕ) (x : Defined) (xs : List Param) → slice_get (routines_of p) n ≡ Some x → place_by p x ≡ Some i → AreLike p xs x.routine.sig.params → IsOfClass (table_of p) p i xs n
  of_class i n x xs e l a =
      let s = has_sig p n x e in
      let q : params_of p n ≡ x.routine.sig.params = ap tree.params_in e in
      record {
        params = subst (AreLike p xs) (sym q) a;
        table = ap (map (param_ty p)) q ∙ sym (ap (λ (g : Typed). g.params) s.sig);
        this = ap (λ (g : Typed). g.this) s.sig ∙ l;
        known = s.known;
      }

  whole_is : (n : ℕ) (x : Defined) → slice_get (routines_of p) n ≡ Some x → ((table_of p).routine n).whole ≡ not (is_plain x.routine.sig.role)
  whole_is n x e = ap (λ (g : Typed). g.whole) (has_sig p n x e).sig

  inward_is : (n : ℕ) (x : Defined) (o : Option ℕ) → slice_get (routines_of p) n ≡ Some x → place_by p x ≡ o → ((table_of p).routine n).inward ≡ inward_at p o x.routine.sig.role x.routine.sig.name
  inward_is n x o e l =
      ap (λ (g : Typed). g.inward) (has_sig p n x e).sig ∙ ap (λ o. inward_at p o x.routine.sig.role x.routine.sig.name) l

  -- what builds or destroys an object of a class
  pub made_inward : (i : ℕ) (c : Class) (wanted : Role) (name : List ℕ) → class_at p i ≡ Some c → is_plain wanted ≡ false → inward_at p (Some i) wanted name ≡ role_inward wanted (of_kind is_mutex (class_at p i))
  made_inward i c wanted name e w =
      ap (λ o. inward_in p i o wanted name) e ∙ (by wanted (is_mutex c.kind) w ∙ ap (λ o. role_inward wanted (of_kind is_mutex o)) (sym e))
    where
      by : (r : Role) (b : Bool) → is_plain r ≡ false → (if b then inward_by r (same_name name main_name) (is_some (member_number c name)) (helps_in (member_named p i name)) else Apart) ≡ role_inward r b
      by role.Plain b w = false_true (sym w)
      by role.Constructor true w = refl
      by role.Constructor false w = refl
      by role.Destructor true w = refl
      by role.Destructor false w = refl

module _ (p : Program) (formed : IsFormed p) (u : Unbroken (program_visits p)) where
  -- members

  pub method_at : (i j : ℕ) (c : Class) (sig : Sig) → class_at p i ≡ Some c → method_sig p i j ≡ Some sig → Declares c j sig
  method_at i j c sig e h = by (slice_get c.members j) refl (sym (ap (option_and_then (λ (c : Class). option_and_then (λ (m : Member). form_sig m.form) (slice_get c.members j))) e) ∙ h)
    where
      by : (o : Option Member) → slice_get c.members j ≡ o → option_and_then (λ (m : Member). form_sig m.form) o ≡ Some sig → Declares c j sig
      by None q h = none_some h
      by (Some m) q h = record { m = m; at = q; form = h }

  pub not_event : (i j : ℕ) (c : Class) (sig : Sig) → class_at p i ≡ Some c → Declares c j sig → is_plain sig.role ≡ true → is_event c.kind ≡ false
  not_event i j c sig e d w = by (case_of (is_event c.kind))
    where
      by : (is_event c.kind ≡ true) ⊎ (is_event c.kind ≡ false) → is_event c.kind ≡ false
      by (inl v) = event_declares p formed u i j c d.m sig e d.at d.form v w
      by (inr v) = v

  -- the one among the routines that a member declares
  pub record Listed (i : ℕ) (c : Class) (sig : Sig) : Type 0 where
    pub n : ℕ
    pub x : Defined
    pub at : slice_get (routines_of p) n ≡ Some x
    pub number : x.number ≡ unwrap_or (class_number p c.name) 0
    pub role : x.routine.sig.role ≡ sig.role
    pub name : x.routine.sig.name ≡ sig.name

  in_form : (i j : ℕ) (c : Class) (m : Member) (form : MemberForm) (sig : Sig) → class_at p i ≡ Some c → slice_get c.members j ≡ Some m → m.form ≡ form → form_sig form ≡ Some sig → MemberRules p (home p u i c) c j m → Listed i c sig
  in_form i j c m (FieldsMember at b ds) sig e a f g r = none_some g
  in_form i j c m (RoutineMember s) sig e a f g r =
      let l = inside_listed p i j c m s e a f in
      record { n = l.0; x = in_class p c.name s; at = l.1; number = refl; role = ap (λ (z : Sig). z.role) (some_same g); name = ap (λ (z : Sig). z.name) (some_same g) }
  in_form i j c m (ProtoMember s) sig e a f g r = found (any_at (defines_member_sig c.name s) p.items defined)
    where
      env : Env
      env = plain_env p (class_around (home p u i c))

      own : breaks_at (AtRoutine env c true s j) ≡ []
      own = none_left (breaks_at (AtRoutine env c true s j)) _ (subst (λ z. Unbroken (form_visits p (home p u i c) c j m.mark m.access z)) f r.inner)

      sound : is_sound_member p c true s j ≡ true
      sound = holds (is_sound_member p c true s j) S5 s.pos _ (none_right (unless (is_new_routine c j s) S2 s.pos) _ own)

      defined : list_any (defines_member_sig c.name s) p.items ≡ true
      defined = right_is (is_only_one c s j) (is_defined p c true s) (right_is (has_class_name c.name s) (is_only_one c s j && is_defined p c true s) sound)

      named : (o : Owner) → is_owner c.name o ≡ true → o ≡ owner.Class c.name
      named owner.Here h = false_true h
      named owner.Main h = false_true h
      named (owner.Class n) h = ap owner.Class (same_is n c.name h)

      at_item : (k : ℕ) (y : Item) → slice_get p.items k ≡ Some y → defines_member_sig c.name s y ≡ true → Listed i c sig
      at_item k (RoutineItem t) q d =
          let o = named t.sig.owner (left_is (is_owner c.name t.sig.owner) (same_sig s t.sig) d) in
          let same : AreSame s t.sig = sig_is s t.sig (right_is (is_owner c.name t.sig.owner) (same_sig s t.sig) d) in
          let l = outside_listed p k t q in
          record {
            n = l.0;
            x = in_class p c.name t;
            at = l.1 ∙ ap (λ o. Some (defined_by p o t)) o;
            number = refl;
            role = sym same.role ∙ ap (λ (z : Sig). z.role) (some_same g);
            name = sym same.name ∙ ap (λ (z : Sig). z.name) (some_same g);
          }
      at_item k _ q d = false_true d

      found : (k : ℕ) × (y : Item) × (slice_get p.items k ≡ Some y) × (defines_member_sig c.name s y ≡ true) → Listed i c sig
      found h = at_item h.0 h.1 h.2 h.3

  pub listed : (i j : ℕ) (c : Class) (sig : Sig) → class_at p i ≡ Some c → Declares c j sig → Listed i c sig
  listed i j c sig e d = in_form i j c d.m d.m.form sig e d.at refl d.form (member_rules p u i c e j d.m d.at)

  -- of plain members a name finds one
  one_named : (i : ℕ) (c : Class) (j k : ℕ) (a b : Sig) → class_at p i ≡ Some c → Declares c j a → Declares c k b → is_plain a.role ≡ true → is_plain b.role ≡ true → a.name ≡ b.name → a ≡ b
  one_named i c j k a b e x y v w q = by (order j k)
    where
      by : Order j k → a ≡ b
      by (before l) = not_earlier p formed u i c j k a b e x y v w q l
      by (same l) =
          let m : x.m ≡ y.m = some_same (sym x.at ∙ (ap (slice_get c.members) l ∙ y.at)) in
          some_same (sym x.form ∙ (ap (λ (z : Member). form_sig z.form) m ∙ y.form))
      by (behind l) = not_earlier p formed u i c k j b a e y x w v (sym q) l

  pub tells_member : (i j : ℕ) (c : Class) (sig : Sig) → class_at p i ≡ Some c → method_sig p i j ≡ Some sig → is_plain sig.role ≡ true → TellsMember (table_of p) p i j sig
  tells_member i j c sig e h w =
      let d = method_at i j c sig e h in
      let number = number_of p u i c formed.classes e (not_event i j c sig e d w) in
      let l = listed i j c sig e d in
      let n = number_at p i in
      let ln : l.x.number ≡ n = l.number ∙ sym (ap (number_in p) e) in
      let passes : is_member n sig.name l.x ≡ true = both_are (nat_eq l.x.number n) (is_plain l.x.routine.sig.role && same_name l.x.routine.sig.name sig.name) (eq-eqb l.x.number n ln) (both_are (is_plain l.x.routine.sig.role) (same_name l.x.routine.sig.name sig.name) (ap is_plain l.role ∙ w) (is_same l.x.routine.sig.name sig.name l.name)) in
      let k : Looked (is_member n sig.name) (routines_of p) 0 (looked_from (is_member n sig.name) (routines_of p) 0) = looks (is_member n sig.name) (routines_of p) 0 l.n l.x l.at passes in
      let x = k.defined in
      let kn : x.number ≡ n = eqb-true x.number n (left_is (nat_eq x.number n) (is_plain x.routine.sig.role && same_name x.routine.sig.name sig.name) k.passes) in
      let r = right_is (nat_eq x.number n) (is_plain x.routine.sig.role && same_name x.routine.sig.name sig.name) k.passes in
      let kw = left_is (is_plain x.routine.sig.role) (same_name x.routine.sig.name sig.name) r in
      let ks = same_is x.routine.sig.name sig.name (right_is (is_plain x.routine.sig.role) (same_name x.routine.sig.name sig.name) r) in
      let b = belongs p formed u i c x e number kn (home_is p formed u x (origin p k.n x k.at)) in
      let s : b.sig ≡ sig = one_named i c b.j j b.sig sig e b.declared d (ap is_plain b.role ∙ kw) w (b.name ∙ ks) in
      record {
        number = k.n;
        found = member_looked (routines_of p) 0 n sig.name ∙ (k.found ∙ ap Some (let q : 0 + k.n ≡ k.n = omega arith in q));
        routine = of_class p formed u i k.n x sig.params k.at (numbered_place p formed u i x number kn) (subst (λ (z : Sig). AreLike p z.params x.routine.sig.params) s b.params);
        plain = whole_is p formed u k.n x k.at ∙ ap not kw;
        inward = inward_is p formed u k.n x (Some i) k.at (numbered_place p formed u i x number kn) ∙ (ap (λ (r : Role). inward_at p (Some i) r x.routine.sig.name) (sym b.role ∙ ap (λ (z : Sig). z.role) s) ∙ ap (inward_at p (Some i) sig.role) ks);
      }

  -- what builds and destroys

  role_likes : (i : ℕ) (c : Class) (wanted : Role) (x : Defined) → class_at p i ≡ Some c → is_plain wanted ≡ false → wanted ≡ x.routine.sig.role → Belongs p c x → AreLike p (role_params p i wanted) x.routine.sig.params
  role_likes i c role.Plain x e w q b = false_true (sym w)
  role_likes i c role.Constructor x e w q b =
      let d = b.declared in
      let r = sig_rules p formed u i c b.j b.sig e d in
      let role_of : b.sig.role ≡ role.Constructor = b.role ∙ sym q in
      let alone : (is_plain b.sig.role || not (list_any (λ (m : Member). items.has_role b.sig m.form) (take b.j c.members))) ≡ true = r.alone in
      let only : not (list_any (λ (m : Member). items.has_role b.sig m.form) (take b.j c.members)) ≡ true = subst (λ (z : Role). (is_plain z || not (list_any (λ (m : Member). items.has_role b.sig m.form) (take b.j c.members))) ≡ true) role_of alone in
      let first = first_constructor c.members b.j d.m b.sig d.at d.form role_of (not_is (list_any (λ (m : Member). items.has_role b.sig m.form) (take b.j c.members)) only) in
      let params : constructor_params p i ≡ b.sig.params = ap (λ o. params_in (option_and_then (λ (c : Class). constructor_among c.members) o)) e ∙ ap params_in first in
      subst (λ xs. AreLike p xs x.routine.sig.params) (sym params) b.params
  role_likes i c role.Destructor x e w q b =
      let r = sig_rules p formed u i c b.j b.sig e b.declared in
      let role_of : b.sig.role ≡ role.Destructor = b.role ∙ sym q in
      let named = right_is (is_plain b.sig.role || same_name b.sig.name c.name) (not (rules.is_destructor b.sig.role) || nat_eq (length b.sig.params) 0) r.class_name in
      let few : nat_eq (length b.sig.params) 0 ≡ true = subst (λ (z : Role). (not (rules.is_destructor z) || nat_eq (length b.sig.params) 0) ≡ true) role_of named in
      subst (λ xs. AreLike p xs x.routine.sig.params) (none_of b.sig.params (eqb-true (length b.sig.params) 0 few)) b.params
    where
      none_of : (xs : List Param) → length xs ≡ 0 → xs ≡ []
      none_of [] h = refl
      none_of (x ∷ xs) h = let b : ⊥ = omega (arith, h) in absurd b

  record Written (i r : ℕ) (wanted : Role) : Type 0 where
    x : Defined
    at : slice_get (routines_of p) r ≡ Some x
    number : x.number ≡ number_at p i
    role : wanted ≡ x.routine.sig.role

  wanted_role : (a b : Role) → objects.same_role a b ≡ true → a ≡ b
  wanted_role role.Plain role.Plain h = refl
  wanted_role role.Constructor role.Constructor h = refl
  wanted_role role.Destructor role.Destructor h = refl
  wanted_role _ _ h = false_true h

  written : (i r : ℕ) (wanted : Role) → written_at p i wanted ≡ Some r → Written i r wanted
  written i r wanted h =
      let n = number_at p i in
      let k = looked (has_role n wanted) (routines_of p) 0 r (sym (role_looked (routines_of p) 0 n wanted) ∙ h) in
      let q : k.n ≡ r = let z = some_same k.found in omega (arith, z) in
      record {
        x = k.defined;
        at = ap (slice_get (routines_of p)) (sym q) ∙ k.at;
        number = eqb-true k.defined.number n (left_is (nat_eq k.defined.number n) (objects.same_role wanted k.defined.routine.sig.role) k.passes);
        role = wanted_role wanted k.defined.routine.sig.role (right_is (nat_eq k.defined.number n) (objects.same_role wanted k.defined.routine.sig.role) k.passes);
      }

  pub tells_maker : (i : ℕ) (c : Class) (wanted : Role) → class_at p i ≡ Some c → is_event c.kind ≡ false → is_plain wanted ≡ false → TellsMaker (table_of p) p i wanted
  tells_maker i c wanted e v w = record {
    written = is_written;
    written_whole = λ r h. let k = written i r wanted h in whole_is p formed u r k.x k.at ∙ ap not (ap is_plain (sym k.role) ∙ w);
    unwritten_this = λ h. let k = is_unwritten p i c wanted e v w h in ap (λ (g : Typed). g.this) k.sig ∙ ap Some k.class;
    unwritten_params = λ h. let k = is_unwritten p i c wanted e v w h in sym (ap (λ (g : Typed). g.params) k.sig);
    unwritten_known = λ h. (is_unwritten p i c wanted e v w h).known;
    unwritten_whole = λ h. let k = is_unwritten p i c wanted e v w h in ap (λ (g : Typed). g.whole) k.sig;
    written_inward = λ r h. let k = written i r wanted h in inward_is p formed u r k.x (Some i) k.at (numbered_place p formed u i k.x number k.number) ∙ (ap (λ (z : Role). inward_at p (Some i) z k.x.routine.sig.name) (sym k.role) ∙ made_inward p formed u i c wanted k.x.routine.sig.name e w);
    unwritten_inward = λ h. let k = is_unwritten p i c wanted e v w h in ap (λ (g : Typed). g.inward) k.sig ∙ (ap (λ z. role_inward k.unwritten.role (of_kind is_mutex (class_at p z))) k.class ∙ ap (λ (z : Role). role_inward z (of_kind is_mutex (class_at p i))) k.role_is);
  }
    where
      number : HasNumber p u i
      number = number_of p u i c formed.classes e v

      is_written : (r : ℕ) → written_at p i wanted ≡ Some r → IsOfClass (table_of p) p i (role_params p i wanted) r
      is_written r h =
          let k = written i r wanted h in
          let b = belongs p formed u i c k.x e number k.number (home_is p formed u k.x (origin p r k.x k.at)) in
          of_class p formed u i r k.x (role_params p i wanted) k.at (numbered_place p formed u i k.x number k.number) (role_likes i c wanted k.x e w k.role b)

  -- events

  record Raised (i r : ℕ) (name : List ℕ) : Type 0 where
    x : Defined
    at : slice_get (routines_of p) r ≡ Some x
    number : x.number ≡ 0
    role : objects.is_constructor x.routine.sig.role ≡ true
    name_is : x.routine.sig.name ≡ name

  raised : (i r : ℕ) (name : List ℕ) → event_constructor p name ≡ Some r → Raised i r name
  raised i r name h =
      let f : Defined → Bool = λ d. nat_eq d.number 0 && (objects.is_constructor d.routine.sig.role && same_name d.routine.sig.name name) in
      let k = looked f (routines_of p) 0 r (sym (event_looked (routines_of p) 0 name) ∙ h) in
      let q : k.n ≡ r = let z = some_same k.found in omega (arith, z) in
      let more = right_is (nat_eq k.defined.number 0) (objects.is_constructor k.defined.routine.sig.role && same_name k.defined.routine.sig.name name) k.passes in
      record {
        x = k.defined;
        at = ap (slice_get (routines_of p)) (sym q) ∙ k.at;
        number = eqb-true k.defined.number 0 (left_is (nat_eq k.defined.number 0) (objects.is_constructor k.defined.routine.sig.role && same_name k.defined.routine.sig.name name) k.passes);
        role = left_is (objects.is_constructor k.defined.routine.sig.role) (same_name k.defined.routine.sig.name name) more;
        name_is = same_is k.defined.routine.sig.name name (right_is (objects.is_constructor k.defined.routine.sig.role) (same_name k.defined.routine.sig.name name) more);
      }

  constructor_role : (o : Role) → objects.is_constructor o ≡ true → role.Constructor ≡ o
  constructor_role role.Plain h = false_true h
  constructor_role role.Constructor h = refl
  constructor_role role.Destructor h = false_true h

  -- the event that a name finds
  event_class : (i : ℕ) (name : List ℕ) → event_place p (base.Named name) ≡ Some i → EventAt (classes_of p.items) 0 name i
  event_class i name h = event_at (classes_of p.items) 0 name i h

  event_belongs : (i r : ℕ) (name : List ℕ) (k : Raised i r name) → EventAt (classes_of p.items) 0 name i → HomeOf p k.x → (c : Class) × (class_at p i ≡ Some c) × Belongs p c k.x
  event_belongs i r name k a (in_none z w) =
      false_true (ap is_plain (constructor_role k.x.routine.sig.role k.role) ∙ w)
  event_belongs i r name k a (in_a_class j d f m b) =
      let s = sig_rules p formed u j d b.j b.sig f b.declared in
      let c : b.sig.role ≡ role.Constructor = b.role ∙ sym (constructor_role k.x.routine.sig.role k.role) in
      let n = left_is (is_plain b.sig.role || same_name b.sig.name d.name) (not (rules.is_destructor b.sig.role) || nat_eq (length b.sig.params) 0) s.class_name in
      let own : b.sig.name ≡ d.name = same_is b.sig.name d.name (subst (λ (z : Role). (is_plain z || same_name b.sig.name d.name) ≡ true) c n) in
      let q : a.n ≡ i = let z = a.place in omega (arith, z) in
      let e : class_at p i ≡ Some a.class = ap (class_at p) (sym q) ∙ a.at in
      let l : j ≡ i = apart p u j i d a.class f e (sym own ∙ (b.name ∙ (k.name_is ∙ sym a.name_is))) in
      (d, ap (class_at p) (sym l) ∙ f, b)

  pub tells_event : (i r : ℕ) (name : List ℕ) → event_place p (base.Named name) ≡ Some i → event_constructor p name ≡ Some r → IsOfClass (table_of p) p i (constructor_params p i) r
  tells_event i r name h g =
      let k = raised i r name g in
      let b = event_belongs i r name k (event_class i name h) (home_is p formed u k.x (origin p r k.x k.at)) in
      let place : place_by p k.x ≡ Some i = ap (λ (z : Bool). if z then event_place p (base.Named k.x.routine.sig.name) else place_of p k.x.number) (both_are (nat_eq k.x.number 0) (objects.is_constructor k.x.routine.sig.role) (eq-eqb k.x.number 0 k.number) k.role) ∙ (ap (λ z. event_place p (base.Named z)) k.name_is ∙ h) in
      of_class p formed u i r k.x (constructor_params p i) k.at place (role_likes i b.0 role.Constructor k.x b.1 refl (constructor_role k.x.routine.sig.role k.role) b.2)

  pub event_whole : (i r : ℕ) (name : List ℕ) → event_place p (base.Named name) ≡ Some i → event_constructor p name ≡ Some r → ((table_of p).routine r).whole ≡ true
  event_whole i r name h g =
      let k = raised i r name g in
      whole_is p formed u r k.x k.at ∙ ap not (sym (ap is_plain (constructor_role k.x.routine.sig.role k.role)))

  event_mutex : (k : Kind) → is_event k ≡ true → is_mutex k ≡ false
  event_mutex kind.Event v = refl
  event_mutex kind.Class v = refl
  event_mutex kind.Coroutine v = refl
  event_mutex kind.Monitor v = false_true v
  event_mutex kind.Cormonitor v = false_true v
  event_mutex kind.Task v = false_true v

  pub event_apart : (i r : ℕ) (name : List ℕ) → event_place p (base.Named name) ≡ Some i → event_constructor p name ≡ Some r → ((table_of p).routine r).inward ≡ Apart
  event_apart i r name h g =
      let k = raised i r name g in
      let a = event_class i name h in
      let q : a.n ≡ i = let z = a.place in omega (arith, z) in
      let e : class_at p i ≡ Some a.class = ap (class_at p) (sym q) ∙ a.at in
      let place : place_by p k.x ≡ Some i = ap (λ (z : Bool). if z then event_place p (base.Named k.x.routine.sig.name) else place_of p k.x.number) (both_are (nat_eq k.x.number 0) (objects.is_constructor k.x.routine.sig.role) (eq-eqb k.x.number 0 k.number) k.role) ∙ (ap (λ z. event_place p (base.Named z)) k.name_is ∙ h) in
      inward_is p formed u r k.x (Some i) k.at place ∙ (ap (λ o. inward_in p i o k.x.routine.sig.role k.x.routine.sig.name) e ∙ ap (λ (b : Bool). if b then inward_by k.x.routine.sig.role (same_name k.x.routine.sig.name main_name) (is_some (member_number a.class k.x.routine.sig.name)) (helps_in (member_named p i k.x.routine.sig.name)) else Apart) (event_mutex a.class.kind a.event))

  event_kind : (k : Kind) → is_event k ≡ true → k ≡ kind.Event
  event_kind kind.Event v = refl
  event_kind kind.Class v = false_true v
  event_kind kind.Coroutine v = false_true v
  event_kind kind.Monitor v = false_true v
  event_kind kind.Cormonitor v = false_true v
  event_kind kind.Task v = false_true v

  -- what raises an event by its constructor names that event
  raised_in : (r : ℕ) (name : List ℕ) (k : Raised 0 r name) → HomeOf p k.x → (i : ℕ) × (class_named p name ≡ Some (sort.Object i kind.Event)) × (is_given name ≡ false)
  raised_in r name k (in_none z w) = false_true (ap is_plain (constructor_role k.x.routine.sig.role k.role) ∙ w)
  raised_in r name k (in_a_class j d f m b) =
      let s = sig_rules p formed u j d b.j b.sig f b.declared in
      let c : b.sig.role ≡ role.Constructor = b.role ∙ sym (constructor_role k.x.routine.sig.role k.role) in
      let n = left_is (is_plain b.sig.role || same_name b.sig.name d.name) (not (rules.is_destructor b.sig.role) || nat_eq (length b.sig.params) 0) s.class_name in
      let own : b.sig.name ≡ d.name = same_is b.sig.name d.name (subst (λ (z : Role). (is_plain z || same_name b.sig.name d.name) ≡ true) c n) in
      let named : d.name ≡ name = sym own ∙ (b.name ∙ k.name_is) in
      (j, subst (λ z. class_named p z ≡ Some (sort.Object j kind.Event)) named (sort_here p u j d f ∙ ap (λ z. Some (sort.Object j z)) (event_kind d.kind (kind_is (case_of (is_event d.kind))))), subst (λ z. is_given z ≡ false) named (not_given p u j d f))
    where
      kind_is : (is_event d.kind ≡ true) ⊎ (is_event d.kind ≡ false) → is_event d.kind ≡ true
      kind_is (inl v) = v
      kind_is (inr v) =
          let h = number_of p u j d formed.classes f v in
          let a = h.number in
          let e : number_at p j ≡ unwrap_or (class_number p d.name) 0 = ap (number_in p) f in
          let z = k.number in
          let y : ⊥ = omega (arith, a, e, z, m) in
          absurd y

  pub tells_raised : (r : ℕ) (name : List ℕ) → event_constructor p name ≡ Some r → (i : ℕ) × (class_named p name ≡ Some (sort.Object i kind.Event)) × (is_given name ≡ false)
  tells_raised r name g = let k = raised 0 r name g in raised_in r name k (home_is p formed u k.x (origin p r k.x k.at))
