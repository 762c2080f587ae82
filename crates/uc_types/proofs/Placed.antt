-- What stands at the place of a name.
use Rattle.std.proofs.Common.{◌≡◌, ℕ, zero, suc, ◌+◌, ◌-◌, ◌≤◌, ◌<◌, take, length-take, List, [], ◌∷◌, ◌++◌, Bool, true, false, ◌&&◌, Option, Some, None, if◌then◌else◌, length, option_map, option_and_then, refl, ap, sym, ◌∙◌, arith, map, slice_get}
use Rattle.std.proofs.lemmas.List.{length-map}
use Rattle.uc_tree.specs.Names.{same_name}
use Rattle.uc_tree.specs.Numbering.{place_from}
use Rattle.uc_tree.specs.Programs.{Class, Item, ClassItem, RoutineItem, ConstItem, ProtoItem, ForwardItem, UsingItem, Member, MemberForm, FieldsMember, RoutineMember, ProtoMember, Program}
use Rattle.uc_tree.specs.Statements.{Declarator}
use Rattle.uc_tree.specs.Numbering.{is_plain}
use Rattle.uc_tree.specs.declared.kinds.Base.{Base}
use Rattle.uc_tree.specs.declared.kinds.Access.{Access}
use Rattle.uc_tree.specs.declared.kinds.MutexMark.{MutexMark}
use Rattle.uc_rules.specs.declared.rules.Entity.TheVariants.{Routine}
use Rattle.uc_rules.specs.declared.rules.NameMeaning.{NameMeaning}
use Rattle.uc_rules.specs.declared.rules.LocalName.{LocalName}
use Rattle.uc_rules.specs.declared.rules.Sort.TheVariants.{Object}
use Rattle.uc_rules.specs.Sorts.{class_sort}
use Rattle.uc_tree.specs.Cells.{classes_of}
use Rattle.uc_rules.specs.Names.{Owned, member_in, member_named, field_meant, place_in, first_of, field_named, form_named, members_named, item_named, items_named, is_here, outer}
use Rattle.uc_types.specs.Listings.{first_named, seen, fields_seen, method_meant, form_seen, members_seen, class_seen, classes_seen, item_seen, items_seen}

low_case : (b : Bool) (i : ℕ) (ns : List (List ℕ)) (name : List ℕ) (p : ℕ) → (place_from (i + 1) ns name ≡ Some p → i + 1 ≤ p) → (if b then Some i else place_from (i + 1) ns name) ≡ Some p → i ≤ p
low_case true i ns name p more h = let is : i ≡ p = cc in omega (arith, is)
low_case false i ns name p more h = let low = more h in omega (arith, low)

pub place_low : (i : ℕ) (ns : List (List ℕ)) (name : List ℕ) (p : ℕ) → place_from i ns name ≡ Some p → i ≤ p
place_low i [] name p h = absurd (cc)
place_low i (n ∷ ns) name p h = low_case (same_name n name) i ns name p (place_low (i + 1) ns name p) h

-- the class of a name stands at its place
module _ {A : Type 0} (f : A → Class) where
  class_case : (b : Bool) (x : A) (xs : List A) (i : ℕ) (name : List ℕ) (p : ℕ) → (place_from (i + 1) (map (λ x. (f x).name) xs) name ≡ Some p → option_map (λ x. Object p (f x).kind) (slice_get xs (p - (i + 1))) ≡ class_sort (map f xs) (i + 1) name) → (if b then Some i else place_from (i + 1) (map (λ x. (f x).name) xs) name) ≡ Some p → option_map (λ x. Object p (f x).kind) (slice_get (x ∷ xs) (p - i)) ≡ (if b then Some (Object i (f x).kind) else class_sort (map f xs) (i + 1) name)
  class_case true x xs i name p more h =
      let is : i ≡ p = cc in
      let first : p - i ≡ 0 = omega (arith, is) in
      ap (λ k. option_map (λ x. Object p (f x).kind) (slice_get (x ∷ xs) k)) first ∙ ap (λ k. Some (Object k (f x).kind)) (sym is)
  class_case false x xs i name p more h =
      let low = place_low (i + 1) (map (λ x. (f x).name) xs) name p h in
      let next : p - i ≡ suc (p - (i + 1)) = omega (arith, low) in
      ap (λ k. option_map (λ x. Object p (f x).kind) (slice_get (x ∷ xs) k)) next ∙ more h

  class_placed : (xs : List A) (i : ℕ) (name : List ℕ) (p : ℕ) → place_from i (map (λ x. (f x).name) xs) name ≡ Some p → option_map (λ x. Object p (f x).kind) (slice_get xs (p - i)) ≡ class_sort (map f xs) i name
  class_placed [] i name p h = cc
  class_placed (x ∷ xs) i name p h = class_case (same_name (f x).name name) x xs i name p (class_placed xs (i + 1) name p) h

  pub class_found : (xs : List A) (name : List ℕ) (p : ℕ) → Some p ≡ place_from 0 (map (λ x. (f x).name) xs) name → option_map (λ x. Object p (f x).kind) (slice_get xs p) ≡ class_sort (map f xs) 0 name
  class_found xs name p h = let e : p - 0 ≡ p = omega arith in ap (λ k. option_map (λ x. Object p (f x).kind) (slice_get xs k)) (sym e) ∙ class_placed xs 0 name p (sym h)

  missing_case : (b : Bool) (x : A) (xs : List A) (i : ℕ) (name : List ℕ) → (None ≡ place_from (i + 1) (map (λ x. (f x).name) xs) name → None ≡ class_sort (map f xs) (i + 1) name) → None ≡ (if b then Some i else place_from (i + 1) (map (λ x. (f x).name) xs) name) → None ≡ (if b then Some (Object i (f x).kind) else class_sort (map f xs) (i + 1) name)
  missing_case true x xs i name more h = cc
  missing_case false x xs i name more h = more h

  pub class_nowhere : (xs : List A) (i : ℕ) (name : List ℕ) → None ≡ place_from i (map (λ x. (f x).name) xs) name → None ≡ class_sort (map f xs) i name
  class_nowhere [] i name h = refl
  class_nowhere (x ∷ xs) i name h = missing_case (same_name (f x).name name) x xs i name (class_nowhere xs (i + 1) name) h

-- what the first of a name means stands at its place
meant_case : (b : Bool) (s : LocalName) (ss : List LocalName) (i : ℕ) (name : List ℕ) (p : ℕ) → (place_from (i + 1) (map (λ s. s.name) ss) name ≡ Some p → option_map (λ s. s.meant) (slice_get ss (p - (i + 1))) ≡ first_named ss name) → (if b then Some i else place_from (i + 1) (map (λ s. s.name) ss) name) ≡ Some p → option_map (λ s. s.meant) (slice_get (s ∷ ss) (p - i)) ≡ (if b then Some s.meant else first_named ss name)
meant_case true s ss i name p more h =
    let is : i ≡ p = cc in
    let first : p - i ≡ 0 = omega (arith, is) in
    ap (λ k. option_map (λ s. s.meant) (slice_get (s ∷ ss) k)) first
meant_case false s ss i name p more h =
    let low = place_low (i + 1) (map (λ s. s.name) ss) name p h in
    let next : p - i ≡ suc (p - (i + 1)) = omega (arith, low) in
    ap (λ k. option_map (λ s. s.meant) (slice_get (s ∷ ss) k)) next ∙ more h

meant_placed : (ss : List LocalName) (i : ℕ) (name : List ℕ) (p : ℕ) → place_from i (map (λ s. s.name) ss) name ≡ Some p → option_map (λ s. s.meant) (slice_get ss (p - i)) ≡ first_named ss name
meant_placed [] i name p h = cc
meant_placed (s ∷ ss) i name p h = meant_case (same_name s.name name) s ss i name p (meant_placed ss (i + 1) name p) h

pub meant_found : (ss : List LocalName) (name : List ℕ) (p : ℕ) → Some p ≡ place_from 0 (map (λ s. s.name) ss) name → option_map (λ s. s.meant) (slice_get ss p) ≡ first_named ss name
meant_found ss name p h = let e : p - 0 ≡ p = omega arith in ap (λ k. option_map (λ s. s.meant) (slice_get ss k)) (sym e) ∙ meant_placed ss 0 name p (sym h)

unmeant_case : (b : Bool) (s : LocalName) (ss : List LocalName) (i : ℕ) (name : List ℕ) → (None ≡ place_from (i + 1) (map (λ s. s.name) ss) name → None ≡ first_named ss name) → None ≡ (if b then Some i else place_from (i + 1) (map (λ s. s.name) ss) name) → None ≡ (if b then Some s.meant else first_named ss name)
unmeant_case true s ss i name more h = cc
unmeant_case false s ss i name more h = more h

pub meant_nowhere : (ss : List LocalName) (i : ℕ) (name : List ℕ) → None ≡ place_from i (map (λ s. s.name) ss) name → None ≡ first_named ss name
meant_nowhere [] i name h = refl
meant_nowhere (s ∷ ss) i name h = unmeant_case (same_name s.name name) s ss i name (meant_nowhere ss (i + 1) name) h

-- a listing has just what the definitions name
chosen : (b : Bool) (m : NameMeaning) (o other : Option NameMeaning) → (if b then Some m else first_of o other) ≡ first_of (if b then Some m else o) other
chosen true m o other = refl
chosen false m o other = refl

pub named_append : (xs ys : List LocalName) (name : List ℕ) → first_named (xs ++ ys) name ≡ first_of (first_named xs name) (first_named ys name)
named_append [] ys name = refl
named_append (x ∷ xs) ys name = ap (λ o. if same_name x.name name then Some x.meant else o) (named_append xs ys name) ∙ chosen (same_name x.name name) x.meant (first_named xs name) (first_named ys name)

lone_case : (b t : Bool) (m : NameMeaning) → (if b && t then Some m else None) ≡ (if b then (if t then Some m else None) else None)
lone_case true t m = refl
lone_case false t m = refl

listed_case : (b : Bool) (s : LocalName) (name : List ℕ) → (if b then (if same_name s.name name then Some s.meant else None) else None) ≡ first_named (if b then s ∷ [] else []) name
listed_case true s name = refl
listed_case false s name = refl

pub lone_named : (b : Bool) (s : LocalName) (name : List ℕ) → (if b && same_name s.name name then Some s.meant else None) ≡ first_named (if b then s ∷ [] else []) name
lone_named b s name = lone_case b (same_name s.name name) s.meant ∙ listed_case b s name

fields_named : (p : Program) (o : Owned) (a : Access) (j i : ℕ) (b : Base) (ds : List Declarator) (name : List ℕ) → field_named p o a j i b ds name ≡ first_named (fields_seen p o a j i b ds) name
fields_named p o a j i b [] name = refl
fields_named p o a j i b (d ∷ ds) name = ap (λ x. if same_name d.name name then Some (field_meant p o a (place_in j i) b d) else x) (fields_named p o a j (i + 1) b ds name)

form_is : (p : Program) (o : Owned) (m : MutexMark) (a : Access) (j : ℕ) (f : MemberForm) (name : List ℕ) → form_named p o m a j f name ≡ first_named (form_seen p o m a j f) name
form_is p o m a j (FieldsMember at b ds) name = fields_named p o a j 0 b ds name
form_is p o m a j (RoutineMember r) name = lone_named (is_plain r.sig.role) (seen r.sig.name (method_meant o m a j)) name
form_is p o m a j (ProtoMember sig) name = lone_named (is_plain sig.role) (seen sig.name (method_meant o m a j)) name

pub members_are : (p : Program) (o : Owned) (j : ℕ) (ms : List Member) (name : List ℕ) → members_named p o j ms name ≡ first_named (members_seen p o j ms) name
members_are p o j [] name = refl
members_are p o j (m ∷ ms) name =
    ap (λ x. first_of x (members_named p o (j + 1) ms name)) (form_is p o m.mark m.access j m.form name)
    ∙ ap (λ x. first_of (first_named (form_seen p o m.mark m.access j m.form) name) x) (members_are p o (j + 1) ms name)
    ∙ sym (named_append (form_seen p o m.mark m.access j m.form) (members_seen p o (j + 1) ms) name)

item_is : (p : Program) (i : ℕ) (x : Item) (name : List ℕ) → item_named p i x name ≡ first_named (item_seen p i x) name
item_is p i (ClassItem c) name = refl
item_is p i (RoutineItem r) name = lone_named (is_here r.sig.owner) (seen r.sig.name (outer (Routine i))) name
item_is p i (ConstItem c) name = refl
item_is p i (ProtoItem sig) name = lone_named (is_here sig.owner) (seen sig.name (outer (Routine i))) name
item_is p i (ForwardItem f) name = refl
item_is p i (UsingItem at) name = refl

pub items_are : (p : Program) (i : ℕ) (xs : List Item) (name : List ℕ) → items_named p i xs name ≡ first_named (items_seen p i xs) name
items_are p i [] name = refl
items_are p i (x ∷ xs) name =
    ap (λ y. first_of y (items_named p (i + 1) xs name)) (item_is p i x name)
    ∙ ap (λ y. first_of (first_named (item_seen p i x) name) y) (items_are p (i + 1) xs name)
    ∙ sym (named_append (item_seen p i x) (items_seen p (i + 1) xs) name)

-- the listing of a class stands at its place
pub class_listed : (p : Program) (i : ℕ) (cs : List Class) (k : ℕ) (c : Class) → slice_get cs k ≡ Some c → slice_get (classes_seen p i cs) k ≡ Some (class_seen p (i + k) c)
class_listed p i [] k c h = cc
class_listed p i (x ∷ xs) zero c h = let same : x ≡ c = cc in let none : i ≡ i + 0 = omega arith in ap (λ y. Some (class_seen p i y)) same ∙ ap (λ n. Some (class_seen p n c)) none
class_listed p i (x ∷ xs) (suc k) c h = let more : i + 1 + k ≡ i + suc k = omega arith in class_listed p (i + 1) xs k c h ∙ ap (λ n. Some (class_seen p n c)) more

pub none_listed : (p : Program) (i : ℕ) (cs : List Class) (k : ℕ) → slice_get cs k ≡ None → slice_get (classes_seen p i cs) k ≡ None
none_listed p i [] k h = refl
none_listed p i (x ∷ xs) zero h = cc
none_listed p i (x ∷ xs) (suc k) h = none_listed p (i + 1) xs k h

pub length_taken : {A : Type 0} (f : A → List ℕ) (xs : List A) (i : ℕ) → i < length xs → length (map f (take i xs)) ≡ i
length_taken f xs i h = let all = length-take i xs in length-map (take i xs) f ∙ omega (arith, all, h)

-- the members of a class by its place
member_case : (p : Program) (i : ℕ) (name : List ℕ) (o : Option Class) → slice_get (classes_of p.items) i ≡ o → option_and_then (λ ss. first_named ss name) (slice_get (classes_seen p 0 (classes_of p.items)) i) ≡ member_in p i o name
member_case p i name None h = ap (λ x. option_and_then (λ ss. first_named ss name) x) (none_listed p 0 (classes_of p.items) i h)
member_case p i name (Some c) h =
    let e : 0 + i ≡ i = omega arith in
    ap (λ x. option_and_then (λ ss. first_named ss name) x) (class_listed p 0 (classes_of p.items) i c h ∙ ap (λ n. Some (class_seen p n c)) e)
    ∙ sym (members_are p (record { place = i; class = c }) 0 c.members name)

pub member_is : (p : Program) (ds : List (List LocalName)) (i : ℕ) (name : List ℕ) → ds ≡ classes_seen p 0 (classes_of p.items) → option_and_then (λ ss. first_named ss name) (slice_get ds i) ≡ member_named p i name
member_is p ds i name h = ap (λ l. option_and_then (λ ss. first_named ss name) (slice_get l i)) h ∙ member_case p i name (slice_get (classes_of p.items) i) refl

pub outer_is : (p : Program) (ss : List LocalName) (name : List ℕ) → ss ≡ items_seen p 0 p.items → first_named ss name ≡ items_named p 0 p.items name
outer_is p ss name h = ap (λ l. first_named l name) h ∙ sym (items_are p 0 p.items name)
