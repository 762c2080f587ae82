-- The routines by the classes of a program are those of the program.
use Rattle.std.proofs.Common.{◌≡◌, ℕ, suc, ◌+◌, ◌-◌, List, [], ◌∷◌, Bool, true, false, not, ◌&&◌, Option, Some, None, if◌then◌else◌, unwrap_or, slice_get, map, refl, ap, sym, ◌∙◌, arith}
use Rattle.std.specs.Prelude.{option_map, option_and_then}
use Rattle.uc_tree.specs.declared.limits.TheConstants.{LAST_CLASS}
use Rattle.uc_tree.specs.Names.{same_name}
use Rattle.uc_tree.specs.declared.kinds.Owner.{Owner}
use Rattle.uc_tree.specs.declared.kinds.Owner.TheVariants as owner
use Rattle.uc_tree.specs.Programs.{Class, Routine, MemberForm, FieldsMember, RoutineMember, ProtoMember, Member, Item, ClassItem, RoutineItem, ConstItem, ProtoItem, ForwardItem, UsingItem, Program}
use Rattle.uc_tree.specs.Cells.{classes_of}
use Rattle.uc_tree.specs.Numbering.{at_most, is_event, place_from, class_names, class_named, defined_by, form_defined, members_defined, item_defined, items_defined, routines_of}
use Rattle.uc_layout.proofs.PlacesLemmas.{place_within}
use Rattle.uc_numbering.specs.Routines.{AreObjects, objects_of, in_classes, owned, form_in, members_in, item_in, items_in}

-- a routine is in a class whether or not events stand among the classes
module _ (p : Program) (os : List Class) (same : (name : List ℕ) (r : Routine) → in_classes os name r ≡ in_classes (classes_of p.items) name r) where
  owner_is : (o : Owner) (r : Routine) → owned os o r ≡ defined_by p o r
  owner_is owner.Here r = refl
  owner_is owner.Main r = refl
  owner_is (owner.Class name) r = same name r

  form_is : (name : List ℕ) (f : MemberForm) → form_in os name f ≡ form_defined p name f
  form_is name (FieldsMember at b ds) = refl
  form_is name (RoutineMember routine) = ap (λ d. d ∷ []) (same name routine)
  form_is name (ProtoMember sig) = refl

  members_are : (name : List ℕ) (ms : List Member) → members_in os name ms ≡ members_defined p name ms
  members_are name [] = refl
  members_are name (m ∷ ms) = rw (form_is name m.form, members_are name ms) refl

  item_is : (i : Item) → item_in os i ≡ item_defined p i
  item_is (ClassItem c) = members_are c.name c.members
  item_is (RoutineItem r) = ap (λ d. d ∷ []) (owner_is r.sig.owner r)
  item_is (ConstItem constant) = refl
  item_is (ProtoItem sig) = refl
  item_is (ForwardItem forward) = refl
  item_is (UsingItem place) = refl

  pub items_are : (is : List Item) → items_in os is ≡ items_defined p is
  items_are [] = refl
  items_are (i ∷ is) = rw (item_is i, items_are is) refl

names_case : (b : Bool) (c : Class) (cs : List Class) → is_event c.kind ≡ b → class_names (objects_of cs) ≡ class_names cs → class_names (if b then objects_of cs else c ∷ objects_of cs) ≡ (if b then class_names cs else c.name ∷ class_names cs)
names_case true c cs e more = more
names_case false c cs e more = rw e (ap (λ l. c.name ∷ l) more)

names_kept : (cs : List Class) → class_names (objects_of cs) ≡ class_names cs
names_kept [] = refl
names_kept (c ∷ cs) = names_case (is_event c.kind) c cs refl (names_kept cs)

no_event : (b : Bool) → (b && not true) ≡ false
no_event true = refl
no_event false = refl

named_case : (b : Bool) (c : Class) (cs : List Class) (name : List ℕ) → is_event c.kind ≡ b → class_named (objects_of cs) name ≡ class_named cs name → class_named (if b then objects_of cs else c ∷ objects_of cs) name ≡ (if same_name c.name name && not b then Some c else class_named cs name)
named_case true c cs name e more = more ∙ ap (λ t. if t then Some c else class_named cs name) (sym (no_event (same_name c.name name)))
named_case false c cs name e more = rw e (ap (λ o. if same_name c.name name && not false then Some c else o) more)

named_kept : (cs : List Class) (name : List ℕ) → class_named (objects_of cs) name ≡ class_named cs name
named_kept [] name = refl
named_kept (c ∷ cs) name = named_case (is_event c.kind) c cs name refl (named_kept cs name)

pub in_objects : (cs : List Class) (name : List ℕ) (r : Routine) → in_classes (objects_of cs) name r ≡ in_classes cs name r
in_objects cs name r = λ j. record { class = named_kept cs name j; number = unwrap_or (option_and_then (at_most LAST_CLASS) (place_from 1 (names_kept cs j) name)) 0; routine = r }

objects_case : (b : Bool) (c : Class) (cs : List Class) → is_event c.kind ≡ b → AreObjects (objects_of cs) → AreObjects (if b then objects_of cs else c ∷ objects_of cs)
objects_case true c cs e more = more
objects_case false c cs e more = (e, more)

pub are_objects : (cs : List Class) → AreObjects (objects_of cs)
are_objects [] = tt
are_objects (c ∷ cs) = objects_case (is_event c.kind) c cs refl (are_objects cs)

-- the routines of a program by its classes that are no events
pub routines_are : (p : Program) (os : List Class) → os ≡ objects_of (classes_of p.items) → items_in os p.items ≡ routines_of p
routines_are p os is = items_are p os (λ name r. ap (λ cs. in_classes cs name r) is ∙ in_objects (classes_of p.items) name r) p.items

shift_case : (b : Bool) (i : ℕ) (o p : Option ℕ) → p ≡ option_map (λ k. k + 1) o → (if b then Some (i + 1) else p) ≡ option_map (λ k. k + 1) (if b then Some i else o)
shift_case true i o p more = refl
shift_case false i o p more = more

shift : (i : ℕ) (ns : List (List ℕ)) (name : List ℕ) → place_from (i + 1) ns name ≡ option_map (λ k. k + 1) (place_from i ns name)
shift i [] name = refl
shift i (n ∷ ns) name = shift_case (same_name n name) i (place_from (i + 1) ns name) (place_from (i + 1 + 1) ns name) (shift (i + 1) ns name)

-- the class of a place among classes that are no events
module _ {A : Type 0} (f : A → Class) where
  plain_names : (xs : List A) → AreObjects (map f xs) → class_names (map f xs) ≡ map (λ x. (f x).name) xs
  plain_names [] h = refl
  plain_names (x ∷ xs) h = let e = h.0 in rw e (ap (λ l. (f x).name ∷ l) (plain_names xs h.1))

  numbers : (xs : List A) (name : List ℕ) → AreObjects (map f xs) → place_from 1 (class_names (map f xs)) name ≡ option_map (λ k. k + 1) (place_from 0 (map (λ x. (f x).name) xs) name)
  numbers xs name h = ap (λ ns. place_from 1 ns name) (plain_names xs h) ∙ shift 0 (map (λ x. (f x).name) xs) name

  yes_case : (b e : Bool) (x : A) (xs : List A) (i : ℕ) (name : List ℕ) (p : ℕ) (y : A) → e ≡ false → (place_from (i + 1) (map (λ x. (f x).name) xs) name ≡ Some p → slice_get xs (p - (i + 1)) ≡ Some y → class_named (map f xs) name ≡ Some (f y)) → (if b then Some i else place_from (i + 1) (map (λ x. (f x).name) xs) name) ≡ Some p → slice_get (x ∷ xs) (p - i) ≡ Some y → (if b && not e then Some (f x) else class_named (map f xs) name) ≡ Some (f y)
  yes_case true e x xs i name p y plain more h at =
      let is : i ≡ p = cc in
      let first : p - i ≡ 0 = omega (arith, is) in
      let here : Some x ≡ Some y = sym (ap (λ k. slice_get (x ∷ xs) k) first) ∙ at in
      let same : x ≡ y = cc in
      rw plain (ap (λ z. Some (f z)) same)
  yes_case false e x xs i name p y plain more h at =
      let low = (place_within (i + 1) (map (λ x. (f x).name) xs) name p h).0 in
      let next : p - i ≡ suc (p - (i + 1)) = omega (arith, low) in
      more h (sym (ap (λ k. slice_get (x ∷ xs) k) next) ∙ at)

  class_placed : (xs : List A) (i : ℕ) (name : List ℕ) (p : ℕ) (y : A) → AreObjects (map f xs) → place_from i (map (λ x. (f x).name) xs) name ≡ Some p → slice_get xs (p - i) ≡ Some y → class_named (map f xs) name ≡ Some (f y)
  class_placed [] i name p y h placed at = cc
  class_placed (x ∷ xs) i name p y h placed at = yes_case (same_name (f x).name name) (is_event (f x).kind) x xs i name p y h.0 (class_placed xs (i + 1) name p y h.1) placed at

  no_case : (b e : Bool) (x : A) (xs : List A) (i : ℕ) (name : List ℕ) → e ≡ false → (place_from (i + 1) (map (λ x. (f x).name) xs) name ≡ None → class_named (map f xs) name ≡ None) → (if b then Some i else place_from (i + 1) (map (λ x. (f x).name) xs) name) ≡ None → (if b && not e then Some (f x) else class_named (map f xs) name) ≡ None
  no_case true e x xs i name plain more h = cc
  no_case false e x xs i name plain more h = more h

  class_nowhere : (xs : List A) (i : ℕ) (name : List ℕ) → AreObjects (map f xs) → place_from i (map (λ x. (f x).name) xs) name ≡ None → class_named (map f xs) name ≡ None
  class_nowhere [] i name h placed = refl
  class_nowhere (x ∷ xs) i name h placed = no_case (same_name (f x).name name) (is_event (f x).kind) x xs i name h.0 (class_nowhere xs (i + 1) name h.1) placed

  pub in_placed : (xs : List A) (name : List ℕ) (r : Routine) (p : ℕ) (y : A) → AreObjects (map f xs) → place_from 0 (map (λ x. (f x).name) xs) name ≡ Some p → slice_get xs p ≡ Some y → in_classes (map f xs) name r ≡ record { class = Some (f y); number = unwrap_or (at_most LAST_CLASS (p + 1)) 0; routine = r }
  in_placed xs name r p y h placed at =
      let none : p - 0 ≡ p = omega arith in
      let class = class_placed xs 0 name p y h placed (ap (λ k. slice_get xs k) none ∙ at) in
      let number = numbers xs name h ∙ ap (λ o. option_map (λ k. k + 1) o) placed in
      λ j. record { class = class j; number = unwrap_or (option_and_then (at_most LAST_CLASS) (number j)) 0; routine = r }

  pub in_nowhere : (xs : List A) (name : List ℕ) (r : Routine) → AreObjects (map f xs) → place_from 0 (map (λ x. (f x).name) xs) name ≡ None → in_classes (map f xs) name r ≡ record { class = None; number = 0; routine = r }
  in_nowhere xs name r h placed =
      let class = class_nowhere xs 0 name h placed in
      let number = numbers xs name h ∙ ap (λ o. option_map (λ k. k + 1) o) placed in
      λ j. record { class = class j; number = unwrap_or (option_and_then (at_most LAST_CLASS) (number j)) 0; routine = r }
