-- One more item of those before which classes and events are counted.
use Rattle.std.proofs.Common.{◌≡◌, ℕ, zero, suc, ◌+◌, List, [], ◌∷◌, ◌++◌, true, false, Some, if◌then◌else◌, length, take, drop, refl, ap, ◌∙◌, add-one, arith, length-append}
use Rattle.std.specs.Prelude.{slice_get}
use Rattle.uc_tree.specs.Programs.{Class, Program, Item, ClassItem, RoutineItem, ConstItem, ProtoItem, ForwardItem, UsingItem}
use Rattle.uc_tree.specs.Cells.{classes_of}
use Rattle.uc_tree.specs.Numbering.{is_event, event_names}
use Rattle.uc_rules.specs.ProgramVisits.{classes_in}
use Rattle.uc_classes.specs.Counted.{events_in, ItemAt, StandBefore}

pub stand_first : (items : List Item) → StandBefore items items 0 0
stand_first items = record { left = refl; counted = refl }

-- behind the first of what is left
drop_more : {A : Type 0} (xs ys : List A) (i : ℕ) (y : A) → drop i xs ≡ y ∷ ys → drop (suc i) xs ≡ ys
drop_more [] ys zero y e = cc
drop_more [] ys (suc i) y e = cc
drop_more (x ∷ xs) ys zero y e = cc
drop_more (x ∷ xs) ys (suc i) y e = drop_more xs ys i y e

take_more : {A : Type 0} (xs ys : List A) (i : ℕ) (y : A) → drop i xs ≡ y ∷ ys → take (suc i) xs ≡ take i xs ++ y ∷ []
take_more [] ys zero y e = cc
take_more [] ys (suc i) y e = cc
take_more (x ∷ xs) ys zero y e = cc
take_more (x ∷ xs) ys (suc i) y e = ap (λ l. x ∷ l) (take_more xs ys i y e)

names_append : (a b : List Class) → event_names (a ++ b) ≡ event_names a ++ event_names b
names_append [] b = refl
names_append (c ∷ a) b = elim (is_event c.kind) as (λ t. (if t then c.name ∷ event_names (a ++ b) else event_names (a ++ b)) ≡ (if t then c.name ∷ event_names a else event_names a) ++ event_names b) [
  | true ↦ ap (λ l. c.name ∷ l) (names_append a b)
  | false ↦ names_append a b
]

one_name : (c : Class) → length (event_names (c ∷ [])) ≡ events_in (ClassItem c)
one_name c = elim (is_event c.kind) as (λ t. length (if t then c.name ∷ [] else []) ≡ (if t then 1 else 0)) [
  | true ↦ refl
  | false ↦ refl
]

class_more : (items rest : List Item) (k e : ℕ) (c : Class) → StandBefore items (ClassItem c ∷ rest) k e → StandBefore items rest (suc k) (e + events_in (ClassItem c))
class_more items rest k e c h =
    let names : event_names (take (suc k) (classes_of items)) ≡ event_names (take k (classes_of items)) ++ event_names (c ∷ []) = ap event_names (take_more (classes_of items) (classes_of rest) k c h.left) ∙ names_append (take k (classes_of items)) (c ∷ []) in
    record {
      left = drop_more (classes_of items) (classes_of rest) k c h.left;
      counted = omega (arith, h.counted, ap (λ l. length l) names, length-append (event_names (take k (classes_of items))) (event_names (c ∷ [])), one_name c);
    }

other_more : (items rest : List Item) (k e : ℕ) → drop k (classes_of items) ≡ classes_of rest → e ≡ length (event_names (take k (classes_of items))) → StandBefore items rest (k + 0) (e + 0)
other_more items rest k e l h =
    let zero_more : k + 0 ≡ k = omega arith in
    record {
      left = ap (λ n. drop n (classes_of items)) zero_more ∙ l;
      counted = let same : length (event_names (take (k + 0) (classes_of items))) ≡ length (event_names (take k (classes_of items))) = ap (λ n. length (event_names (take n (classes_of items)))) zero_more in omega arith;
    }

pub item_more : (items rest : List Item) (k e : ℕ) (x : Item) → StandBefore items (x ∷ rest) k e → StandBefore items rest (k + classes_in x) (e + events_in x)
item_more items rest k e (ClassItem c) h = let s : StandBefore items rest (suc k) (e + events_in (ClassItem c)) = class_more items rest k e c h in rw add-one s
item_more items rest k e (RoutineItem r) h = other_more items rest k e h.left h.counted
item_more items rest k e (ConstItem c) h = other_more items rest k e h.left h.counted
item_more items rest k e (ProtoItem sig) h = other_more items rest k e h.left h.counted
item_more items rest k e (ForwardItem f) h = other_more items rest k e h.left h.counted
item_more items rest k e (UsingItem at) h = other_more items rest k e h.left h.counted

first_there : {A : Type 0} (xs ys : List A) (i : ℕ) (y : A) → drop i xs ≡ y ∷ ys → slice_get xs i ≡ Some y
first_there [] ys zero y e = cc
first_there [] ys (suc i) y e = cc
first_there (x ∷ xs) ys zero y e = cc
first_there (x ∷ xs) ys (suc i) y e = first_there xs ys i y e

pub item_at : (p : Program) (rest : List Item) (k e : ℕ) (x : Item) → StandBefore p.items (x ∷ rest) k e → ItemAt p k x
item_at p rest k e (ClassItem c) h = first_there (classes_of p.items) (classes_of rest) k c h.left
item_at p rest k e (RoutineItem r) h = tt
item_at p rest k e (ConstItem c) h = tt
item_at p rest k e (ProtoItem sig) h = tt
item_at p rest k e (ForwardItem f) h = tt
item_at p rest k e (UsingItem at) h = tt
