-- The name of a routine outside of classes finds the one with the parameters of its declaration.
use Rattle.std.proofs.Common.{◌≡◌, ℕ, suc, ◌+◌, ◌<◌, ◌⊎◌, inl, inr, List, [], ◌∷◌, Option, Some, None, Bool, true, false, refl, sym, ap, ◌∙◌, subst, arith, map}
use Rattle.std.specs.Prelude.{◌&&◌, ◌||◌, not, slice_get, take, if◌then◌else◌, nat_eq, nat_le, nat_lt, option_map, option_and_then, unwrap_or}
use Rattle.std.specs.List.{list_any, list_all}
use Rattle.std.proofs.lemmas.Bool.{eqb-true}
use Rattle.uc_tree.specs.declared.kinds.Owner.{Owner}
use Rattle.uc_tree.specs.declared.kinds.Owner.TheVariants as owner
use Rattle.uc_tree.specs.Names.{same_name}
use Rattle.uc_tree.specs.Cells.{classes_of}
use Rattle.uc_tree.specs.Numbering.{is_event, is_plain, is_given, class_number, Defined, defined_by, routines_of}
use Rattle.uc_tree.specs.Objects as objects
use Rattle.uc_tree.specs.Objects.{class_at, number_at, number_in, place_of, event_place}
use Rattle.uc_tree.specs.declared.kinds.Base.TheVariants as base
use Rattle.uc_tree.specs.declared.kinds.Role.{Role}
use Rattle.uc_tree.specs.declared.kinds.Role.TheVariants as role
use Rattle.uc_resolve.specs.Resolve.{place_by}
use Rattle.uc_tree.specs.Programs.{Sig, Routine, MemberForm, FieldsMember, RoutineMember, ProtoMember, Member, Class, Constant, Item, ClassItem, RoutineItem, ConstItem, ProtoItem, ForwardItem, UsingItem, Program}
use Rattle.uc_resolve.specs.Standings as tree
use Rattle.uc_resolve.specs.Standings.{routine_from, params_of}
use Rattle.uc_rules.specs.declared.rule.Rule.TheVariants.{S5, S6, S14, S17, S22}
use Rattle.uc_rules.specs.declared.rules.Entity.TheVariants as entity
use Rattle.uc_rules.specs.declared.rules.Sort.{Sort}
use Rattle.uc_rules.specs.declared.rules.NameMeaning.{NameMeaning}
use Rattle.uc_rules.specs.Names as rules
use Rattle.uc_rules.specs.Names.{first_of, outer, is_here, routine_sig, params_in, items_named, outer_named, constant_meant, item_sig, form_sig}
use Rattle.uc_rules.specs.Sorts.{sort_of}
use Rattle.uc_rules.specs.Entities.{meant_entity}
use Rattle.uc_rules.specs.ItemBreaks.{item_name, is_named_proto, is_named, defines_name, defines_sig, declares_sig, is_well_declared, is_definition, is_sound_item, same_sig, clashes}
use Rattle.uc_rules.specs.ClassBreaks.{is_sound_event, is_event_member, is_empty_body, builds_more, has_event_fields, fields_in, events_before, is_well_mained, is_well_built, has_room}
use Rattle.uc_rules.specs.Asked.{unless}
use Rattle.uc_tree.specs.declared.limits.TheConstants.{EVENT_FIELDS, PROGRAM_EVENTS}
use Rattle.uc_rules.specs.ProgramVisits.{program_visits, sig_visits, outer_env}
use Rattle.uc_typing.specs.Typing.{IsOpen, Sig as Typed}
use Rattle.uc_sound.specs.Agreement.{param_ty, AreLike}
use Rattle.uc_sound.specs.Unbroken.{Unbroken}
use Rattle.uc_sound.specs.ItemNames.{TellsRoutine, TellsRoutines}
use Rattle.uc_sound.proofs.Ties.{some_same, none_some, false_true}
use Rattle.uc_sound.proofs.UnbrokenLemmas.{none_right, first, holds}
use Rattle.uc_sound.specs.SoundFormed.{IsFormed}
use Rattle.uc_sound.specs.Tables.{inward_at, table_of}
use Rattle.uc_sound.proofs.Lists.{implied, left_is, right_is, both_are, not_both, case_of, any_at, any_from, all_from, get_take, Order, before, same, behind, order}
use Rattle.uc_sound.proofs.Visited.{item_rules, class_own, sig_known}
use Rattle.uc_sound.proofs.ClassNames.{same_is, is_same, no_clash_at, number_of}
use Rattle.uc_sound.proofs.Origins.{Origin, outside, inside, origin, outside_listed, Looked, looked_from, looks, routine_looked}
use Rattle.uc_sound.proofs.Signatures.{has_sig}
use Rattle.uc_sound.proofs.Likes.{AreKnown, likes, same_likes, AreSame, sig_is}

-- an item that the rules find as a routine
record ItemFound (p : Program) (name : List ℕ) (i : ℕ) : Type 0 where
  item : Item
  sig : Sig
  at : slice_get p.items i ≡ Some item
  sig_at : item_sig item ≡ Some sig
  here : is_here sig.owner ≡ true
  name_is : sig.name ≡ name

module _ (p : Program) (name : List ℕ) where
  abbrev From : ℕ → List Item → Type 0
  From i xs = (n : ℕ) → slice_get p.items (i + n) ≡ slice_get xs n

  at : (i : ℕ) (x : Item) (xs : List Item) → From i (x ∷ xs) → slice_get p.items i ≡ Some x
  at i x xs a = ap (slice_get p.items) (let q : i ≡ i + 0 = omega arith in q) ∙ a 0

  later : (i : ℕ) (x : Item) (xs : List Item) → From i (x ∷ xs) → From (i + 1) xs
  later i x xs a n = ap (slice_get p.items) (let q : (i + 1) + n ≡ i + suc n = omega arith in q) ∙ a (suc n)

  routine_same : (i j : ℕ) → meant_entity (Some (outer (entity.Routine i))) ≡ Some (entity.Routine j) → i ≡ j
  routine_same i j h = cc

  by_sig : (b : Bool) (i j : ℕ) (x : Item) (sig : Sig) (rest : Option NameMeaning) → slice_get p.items i ≡ Some x → item_sig x ≡ Some sig → (is_here sig.owner && same_name sig.name name) ≡ b → (meant_entity rest ≡ Some (entity.Routine j) → ItemFound p name j) → meant_entity (first_of (if b then Some (outer (entity.Routine i)) else None) rest) ≡ Some (entity.Routine j) → ItemFound p name j
  by_sig true i j x sig rest e s w f h =
      let q = routine_same i j h in
      record {
        item = x;
        sig = sig;
        at = subst (λ z. slice_get p.items z ≡ Some x) q e;
        sig_at = s;
        here = left_is (is_here sig.owner) (same_name sig.name name) w;
        name_is = same_is sig.name name (right_is (is_here sig.owner) (same_name sig.name name) w);
      }
  by_sig false i j x sig rest e s w f h = f h

  by_class : (b : Bool) (j : ℕ) (rest : Option NameMeaning) → (meant_entity rest ≡ Some (entity.Routine j) → ItemFound p name j) → meant_entity (first_of (if b then Some (outer entity.ClassName) else None) rest) ≡ Some (entity.Routine j) → ItemFound p name j
  by_class true j rest f h = absurd (cc)
  by_class false j rest f h = f h

  constant_none : {B : Type 0} (j : ℕ) (o : Option Sort) → option_map (λ s. entity.Value s) o ≡ Some (entity.Routine j) → B
  constant_none j None h = none_some h
  constant_none j (Some s) h = absurd (cc)

  by_constant : (b : Bool) (c : Constant) (j : ℕ) (rest : Option NameMeaning) → (meant_entity rest ≡ Some (entity.Routine j) → ItemFound p name j) → meant_entity (first_of (if b then Some (constant_meant p c) else None) rest) ≡ Some (entity.Routine j) → ItemFound p name j
  by_constant true c j rest f h = constant_none j (sort_of p c.base) h
  by_constant false c j rest f h = f h

  item_found : (i : ℕ) (xs : List Item) (j : ℕ) → From i xs → meant_entity (items_named p i xs name) ≡ Some (entity.Routine j) → ItemFound p name j
  item_found i [] j a h = none_some h
  item_found i (ClassItem c ∷ xs) j a h = by_class (same_name c.name name) j (items_named p (i + 1) xs name) (item_found (i + 1) xs j (later i (ClassItem c) xs a)) h
  item_found i (RoutineItem r ∷ xs) j a h =
      by_sig (is_here r.sig.owner && same_name r.sig.name name) i j (RoutineItem r) r.sig (items_named p (i + 1) xs name) (at i (RoutineItem r) xs a) refl refl (item_found (i + 1) xs j (later i (RoutineItem r) xs a)) h
  item_found i (ConstItem c ∷ xs) j a h = by_constant (same_name c.name name) c j (items_named p (i + 1) xs name) (item_found (i + 1) xs j (later i (ConstItem c) xs a)) h
  item_found i (ProtoItem sig ∷ xs) j a h =
      by_sig (is_here sig.owner && same_name sig.name name) i j (ProtoItem sig) sig (items_named p (i + 1) xs name) (at i (ProtoItem sig) xs a) refl refl (item_found (i + 1) xs j (later i (ProtoItem sig) xs a)) h
  item_found i (ForwardItem f ∷ xs) j a h = by_class (same_name f.name name) j (items_named p (i + 1) xs name) (item_found (i + 1) xs j (later i (ForwardItem f) xs a)) h
  item_found i (UsingItem q ∷ xs) j a h = item_found (i + 1) xs j (later i (UsingItem q) xs a) h

  outer_found : (b : Bool) (j : ℕ) → meant_entity (if b then Some (outer entity.ClassName) else items_named p 0 p.items name) ≡ Some (entity.Routine j) → ItemFound p name j
  outer_found true j h = absurd (cc)
  outer_found false j h = item_found 0 p.items j (λ n. ap (slice_get p.items) (let e : 0 + n ≡ n = omega arith in e)) h

module _ (p : Program) (formed : IsFormed p) (u : Unbroken (program_visits p)) where
  here_owner : (o : Owner) → is_here o ≡ true → o ≡ owner.Here
  here_owner owner.Here h = refl
  here_owner owner.Main h = false_true h
  here_owner (owner.Class n) h = false_true h

  tree_here : (o : Owner) → tree.is_here o ≡ true → is_here o ≡ true
  tree_here owner.Here h = refl
  tree_here owner.Main h = false_true h
  tree_here (owner.Class n) h = false_true h

  here_tree : (o : Owner) → is_here o ≡ true → tree.is_here o ≡ true
  here_tree owner.Here h = refl
  here_tree owner.Main h = false_true h
  here_tree (owner.Class n) h = false_true h

  routine_sig_at : (i : ℕ) (x : Item) → slice_get p.items i ≡ Some x → routine_sig p i ≡ item_sig x
  routine_sig_at i x e = ap (option_and_then item_sig) e

  definition : (i : ℕ) (r : Routine) → slice_get p.items i ≡ Some (RoutineItem r) → is_sound_item p (RoutineItem r) i ≡ true
  definition i r e = holds (is_sound_item p (RoutineItem r) i) S5 _ _ (none_right _ _ (item_rules p u i (RoutineItem r) e).own)

  -- the parameters of a definition have known bases
  pub item_known : (i : ℕ) (r : Routine) → slice_get p.items i ≡ Some (RoutineItem r) → AreKnown p r.sig.params
  item_known i r e = sig_known p u (outer_env p r.sig) r.sig refl (first (sig_visits (outer_env p r.sig) r.sig) _ (item_rules p u i (RoutineItem r) e).inner)

  -- two definitions outside of classes do not have one name
  same_definition : (i j : ℕ) (r s : Routine) → i < j → slice_get p.items i ≡ Some (RoutineItem r) → slice_get p.items j ≡ Some (RoutineItem s) → is_here r.sig.owner ≡ true → is_here s.sig.owner ≡ true → r.sig.name ≡ s.sig.name → i ≡ j
  same_definition i j r s l e f g h q = by (case_of (list_any (is_named_proto s.sig.name) p.items))
    where
      named : item_name (RoutineItem s) ≡ Some s.sig.name
      named = ap (λ (b : Bool). if b then Some s.sig.name else None) h

      earlier_named : is_named (item_name (RoutineItem r)) s.sig.name ≡ true
      earlier_named = ap (λ (b : Bool). is_named (if b then Some r.sig.name else None) s.sig.name) g ∙ is_same r.sig.name s.sig.name q

      declared : is_well_declared p s.sig j ≡ true
      declared = subst (λ o. is_definition p o s.sig j ≡ true) (here_owner s.sig.owner h) (definition j s f)

      defines : defines_name s.sig.name (RoutineItem r) ≡ true
      defines = both_are (is_here r.sig.owner) (same_name r.sig.name s.sig.name) g (is_same r.sig.name s.sig.name q)

      by : (list_any (is_named_proto s.sig.name) p.items ≡ true) ⊎ (list_any (is_named_proto s.sig.name) p.items ≡ false) → i ≡ j
      by (inl w) =
          let k : (list_any (declares_sig s.sig) p.items && not (list_any (defines_name s.sig.name) (take j p.items))) ≡ true = subst (λ (b : Bool). (not b || (list_any (declares_sig s.sig) p.items && not (list_any (defines_name s.sig.name) (take j p.items)))) ≡ true) w declared in
          not_both (list_any (defines_name s.sig.name) (take j p.items)) (any_from (defines_name s.sig.name) (take j p.items) i (RoutineItem r) (get_take p.items j i (RoutineItem r) l e) defines) (right_is (list_any (declares_sig s.sig) p.items) (not (list_any (defines_name s.sig.name) (take j p.items))) k)
      by (inr w) =
          no_clash_at p u i j (RoutineItem r) (RoutineItem s) s.sig.name e f l named (subst (λ (b : Bool). clashes b s.sig.name (RoutineItem s) (RoutineItem r) ≡ true) (sym w) (both_are (is_named (item_name (RoutineItem r)) s.sig.name) true earlier_named refl))

  item_same : (i j : ℕ) (r s : Routine) → i ≡ j → slice_get p.items i ≡ Some (RoutineItem r) → slice_get p.items j ≡ Some (RoutineItem s) → r ≡ s
  item_same i j r s q e f =
      let h : RoutineItem r ≡ RoutineItem s = some_same (sym e ∙ (ap (slice_get p.items) q ∙ f)) in
      cc

  definition_same : (i j : ℕ) (r s : Routine) → slice_get p.items i ≡ Some (RoutineItem r) → slice_get p.items j ≡ Some (RoutineItem s) → is_here r.sig.owner ≡ true → is_here s.sig.owner ≡ true → r.sig.name ≡ s.sig.name → r ≡ s
  definition_same i j r s e f g h q = by (order i j)
    where
      by : Order i j → r ≡ s
      by (before l) = item_same i j r s (same_definition i j r s l e f g h q) e f
      by (same w) = item_same i j r s w e f
      by (behind l) = sym (item_same j i s r (same_definition j i s r l f e h g (sym q)) f e)

  -- the definition of a routine that is found, with parameters like its
  record Definition (name : List ℕ) (sig : Sig) : Type 0 where
    i : ℕ
    routine : Routine
    at : slice_get p.items i ≡ Some (RoutineItem routine)
    here : is_here routine.sig.owner ≡ true
    plain : is_plain routine.sig.role ≡ true
    name_is : routine.sig.name ≡ name
    params : AreLike p sig.params routine.sig.params

  plain_at : (i : ℕ) (r : Routine) → slice_get p.items i ≡ Some (RoutineItem r) → is_here r.sig.owner ≡ true → is_plain r.sig.role ≡ true
  plain_at i r e h = formed.plain i r.sig (routine_sig_at i (RoutineItem r) e) h

  by_item : (name : List ℕ) (i : ℕ) (x : Item) (sig : Sig) → slice_get p.items i ≡ Some x → item_sig x ≡ Some sig → is_here sig.owner ≡ true → sig.name ≡ name → Definition name sig
  by_item name i (ClassItem c) sig e s h n = none_some s
  by_item name i (RoutineItem r) sig e s h n =
      let q : r.sig ≡ sig = some_same s in
      record {
        i = i;
        routine = r;
        at = e;
        here = subst (λ (z : Sig). is_here z.owner ≡ true) (sym q) h;
        plain = plain_at i r e (subst (λ (z : Sig). is_here z.owner ≡ true) (sym q) h);
        name_is = ap (λ (z : Sig). z.name) q ∙ n;
        params = subst (λ (z : Sig). AreLike p z.params r.sig.params) q (same_likes p r.sig.params (item_known i r e));
      }
  by_item name i (ConstItem c) sig e s h n = none_some s
  by_item name i (ProtoItem z) sig e s h n = by_definition (any_at (defines_sig z) p.items (holds (is_sound_item p (ProtoItem z) i) S5 _ _ (none_right _ _ (item_rules p u i (ProtoItem z) e).own)))
    where
      q : z ≡ sig
      q = some_same s

      defined_at : (j : ℕ) (y : Item) → slice_get p.items j ≡ Some y → defines_sig z y ≡ true → Definition name sig
      defined_at j (RoutineItem r) f d =
          let same : AreSame z r.sig = sig_is z r.sig (right_is (is_here r.sig.owner) (same_sig z r.sig) d) in
          let here : is_here r.sig.owner ≡ true = left_is (is_here r.sig.owner) (same_sig z r.sig) d in
          record {
            i = j;
            routine = r;
            at = f;
            here = here;
            plain = plain_at j r f here;
            name_is = sym same.name ∙ (ap (λ (z : Sig). z.name) q ∙ n);
            params = subst (λ (z : Sig). AreLike p z.params r.sig.params) q (likes p z.params r.sig.params same.params (item_known j r f));
          }
      defined_at j _ f d = false_true d

      by_definition : (j : ℕ) × (y : Item) × (slice_get p.items j ≡ Some y) × (defines_sig z y ≡ true) → Definition name sig
      by_definition h = defined_at h.0 h.1 h.2 h.3
  by_item name i (ForwardItem f) sig e s h n = none_some s
  by_item name i (UsingItem q) sig e s h n = none_some s

  pub defined_routine : (o : Owner) (r : Routine) → (defined_by p o r).routine ≡ r
  defined_routine owner.Here r = refl
  defined_routine owner.Main r = refl
  defined_routine (owner.Class n) r = refl

  abbrev test : List ℕ → Defined → Bool
  test name d = nat_eq d.number 0 && tree.is_named d.routine.sig name

  defined_passes : (name : List ℕ) (r : Routine) → is_here r.sig.owner ≡ true → is_plain r.sig.role ≡ true → r.sig.name ≡ name → test name (defined_by p r.sig.owner r) ≡ true
  defined_passes name r h w n =
      subst (λ o. test name (defined_by p o r) ≡ true) (sym (here_owner r.sig.owner h)) (both_are true (tree.is_named r.sig name) refl (both_are (tree.is_here r.sig.owner) (is_plain r.sig.role && same_name r.sig.name name) (here_tree r.sig.owner h) (both_are (is_plain r.sig.role) (same_name r.sig.name name) w (is_same r.sig.name name n))))

  plain_maker : {B : Type 0} (o : Role) → is_plain o ≡ true → rules.is_constructor o ≡ true → B
  plain_maker role.Plain w h = false_true h
  plain_maker role.Constructor w h = false_true w
  plain_maker role.Destructor w h = false_true w

  makes : {B : Type 0} (c : Class) (form : MemberForm) (sig : Sig) → form_sig form ≡ Some sig → is_plain sig.role ≡ true → is_event_member p c form ≡ true → B
  makes c (FieldsMember at b ds) sig e w h = none_some e
  makes c (RoutineMember r) sig e w h =
      plain_maker r.sig.role (ap (λ (z : Sig). is_plain z.role) (some_same e) ∙ w) (left_is (rules.is_constructor r.sig.role) (is_empty_body r.body) h)
  makes c (ProtoMember s) sig e w h =
      plain_maker s.role (ap (λ (z : Sig). is_plain z.role) (some_same e) ∙ w) (left_is (rules.is_constructor s.role) (not (list_any (builds_more c.name) p.items)) h)

  -- an event has constructors and scalar fields alone
  pub event_sound : (i : ℕ) (c : Class) → class_at p i ≡ Some c → is_event c.kind ≡ true → (list_all (λ (m : Member). is_event_member p c m.form) c.members && (list_all (λ (m : Member). has_event_fields p m.form) c.members && (nat_le (fields_in c.members) EVENT_FIELDS && nat_lt (events_before p i) PROGRAM_EVENTS))) ≡ true
  event_sound i c e v =
      let own = class_own p u i c e in
      let own1 = none_right (unless (is_well_mained c) S6 c.pos) _ own in
      let own2 = none_right (unless (has_room p c i) S14 c.pos) _ own1 in
      let own3 = none_right (unless (is_well_built p c) S17 c.pos) _ own2 in
      implied (is_event c.kind) _ v (holds (is_sound_event p c i) S22 c.pos _ own3)

  pub event_member : (i j : ℕ) (c : Class) (m : Member) → class_at p i ≡ Some c → slice_get c.members j ≡ Some m → is_event c.kind ≡ true → is_event_member p c m.form ≡ true
  event_member i j c m e f v =
      let all = left_is (list_all (λ (m : Member). is_event_member p c m.form) c.members) _ (event_sound i c e v) in
      all_from (λ (m : Member). is_event_member p c m.form) c.members j m all f

  pub event_declares : {B : Type 0} (i j : ℕ) (c : Class) (m : Member) (sig : Sig) → class_at p i ≡ Some c → slice_get c.members j ≡ Some m → form_sig m.form ≡ Some sig → is_event c.kind ≡ true → is_plain sig.role ≡ true → B
  event_declares i j c m sig e f q v w = makes c m.form sig q w (event_member i j c m e f v)

  -- what a class numbers is no routine outside of classes
  numbered_inside : {B : Type 0} (i j : ℕ) (c : Class) (m : Member) (r : Routine) → class_at p i ≡ Some c → slice_get c.members j ≡ Some m → m.form ≡ RoutineMember r → is_plain r.sig.role ≡ true → unwrap_or (class_number p c.name) 0 ≡ 0 → B
  numbered_inside {B} i j c m r e f q w z = by (case_of (is_event c.kind))
    where
      by : (is_event c.kind ≡ true) ⊎ (is_event c.kind ≡ false) → B
      by (inl v) = event_declares i j c m r.sig e f (ap form_sig q) v w
      by (inr v) =
          let n = number_of p u i c formed.classes e v in
          let k : number_at p i ≡ unwrap_or (class_number p c.name) 0 = ap (number_in p) e in
          let a = n.number in
          let b : ⊥ = omega (arith, a, k, z) in
          absurd b

  -- the routine that the look-up finds is that definition
  found_is : (name : List ℕ) (sig : Sig) (d : Definition name sig) (x : Defined) → Origin p x → test name x ≡ true → x.routine ≡ d.routine
  found_is name sig d x (outside i r e q) h =
      let k : r ≡ x.routine = sym (defined_routine r.sig.owner r) ∙ ap (λ (z : Defined). z.routine) q in
      let t : tree.is_named r.sig name ≡ true = subst (λ (z : Routine). tree.is_named z.sig name ≡ true) (sym k) (right_is (nat_eq x.number 0) (tree.is_named x.routine.sig name) h) in
      let a = tree_here r.sig.owner (left_is (tree.is_here r.sig.owner) (is_plain r.sig.role && same_name r.sig.name name) t) in
      let b = same_is r.sig.name name (right_is (is_plain r.sig.role) (same_name r.sig.name name) (right_is (tree.is_here r.sig.owner) (is_plain r.sig.role && same_name r.sig.name name) t)) in
      sym k ∙ definition_same i d.i r d.routine e d.at a d.here (b ∙ sym d.name_is)
  found_is name sig d x (inside i j c m r e f g q) h =
      let k : r ≡ x.routine = ap (λ (z : Defined). z.routine) q in
      let t : tree.is_named r.sig name ≡ true = subst (λ (z : Routine). tree.is_named z.sig name ≡ true) (sym k) (right_is (nat_eq x.number 0) (tree.is_named x.routine.sig name) h) in
      let w = left_is (is_plain r.sig.role) (same_name r.sig.name name) (right_is (tree.is_here r.sig.owner) (is_plain r.sig.role && same_name r.sig.name name) t) in
      let z : unwrap_or (class_number p c.name) 0 ≡ 0 = ap (λ (z : Defined). z.number) q ∙ eqb-true x.number 0 (left_is (nat_eq x.number 0) (tree.is_named x.routine.sig name) h) in
      numbered_inside i j c m r e f g w z

  pub no_place : (cs : List Class) → objects.place_from cs 0 0 ≡ None
  no_place [] = refl
  no_place (c ∷ cs) = refl

  pub plain_place : (d : Defined) → is_plain d.routine.sig.role ≡ true → place_by p d ≡ place_of p d.number
  plain_place d w = ap (λ (b : Bool). if b then event_place p (base.Named d.routine.sig.name) else place_of p d.number) (by d.routine.sig.role w (nat_eq d.number 0))
    where
      by : (o : Role) → is_plain o ≡ true → (b : Bool) → (b && objects.is_constructor o) ≡ false
      by role.Plain w true = refl
      by role.Plain w false = refl
      by role.Constructor w b = false_true w
      by role.Destructor w b = false_true w

  tells : (name : List ℕ) (i : ℕ) (f : ItemFound p name i) → (d : Definition name f.sig) → TellsRoutine (table_of p) p name i
  tells name i f d =
      let l = outside_listed p d.i d.routine d.at in
      let k : Looked (test name) (routines_of p) 0 (looked_from (test name) (routines_of p) 0) = looks (test name) (routines_of p) 0 l.0 (defined_by p d.routine.sig.owner d.routine) l.1 (defined_passes name d.routine d.here d.plain d.name_is) in
      let r : k.defined.routine ≡ d.routine = found_is name f.sig d k.defined (origin p k.n k.defined k.at) k.passes in
      let s = has_sig p k.n k.defined k.at in
      let q : params_of p k.n ≡ k.defined.routine.sig.params = ap tree.params_in k.at in
      let w : is_plain k.defined.routine.sig.role ≡ true = subst (λ (z : Routine). is_plain z.sig.role ≡ true) (sym r) d.plain in
      let z : k.defined.number ≡ 0 = eqb-true k.defined.number 0 (left_is (nat_eq k.defined.number 0) (tree.is_named k.defined.routine.sig name) k.passes) in
      record {
        number = k.n;
        found = routine_looked (routines_of p) 0 name ∙ (k.found ∙ ap Some (let q : 0 + k.n ≡ k.n = omega arith in q));
        params = subst (AreLike p (params_in (routine_sig p i))) (sym q) (subst (λ (z : Routine). AreLike p (params_in (routine_sig p i)) z.sig.params) (sym r) (subst (λ o. AreLike p (params_in o) d.routine.sig.params) (sym (routine_sig_at i f.item f.at ∙ f.sig_at)) d.params));
        table = ap (map (param_ty p)) q ∙ sym (ap (λ (g : Typed). g.params) s.sig);
        alone = ap (λ (g : Typed). g.this) s.sig ∙ (plain_place k.defined w ∙ (ap (place_of p) z ∙ no_place (classes_of p.items)));
        known = s.known;
        reached = subst IsOpen (sym (ap (λ (g : Typed). g.inward) s.sig ∙ ap (λ o. inward_at p o k.defined.routine.sig.role k.defined.routine.sig.name) (plain_place k.defined w ∙ (ap (place_of p) z ∙ no_place (classes_of p.items))))) tt;
      }

  pub tells_routines : TellsRoutines (table_of p) p
  tells_routines name i h =
      let f = outer_found p name (is_given name) i h in
      tells name i f (by_item name i f.item f.sig f.at f.sig_at f.here f.name_is)
