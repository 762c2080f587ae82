-- The number of main among the routines of items.
use Rattle.std.proofs.Common.{◌≡◌, ℕ, ◌+◌, ◌∷◌, List, [], Bool, true, false, Option, Some, None, if◌then◌else◌, length, drop, ap, ◌∙◌, refl, arith}
use Rattle.std.proofs.lemmas.List.{length-append}
use Rattle.uc_tree.specs.Programs.{MemberForm, FieldsMember, RoutineMember, ProtoMember, Member, Item, ClassItem, RoutineItem, ConstItem, ProtoItem, ForwardItem, UsingItem, Program}
use Rattle.uc_tree.specs.Numbering.{form_defined, item_defined, items_defined, members_defined}
use Rattle.uc_tree.specs.ProgramMain.{is_main_item, main_among}
use Rattle.uc_code.specs.declared.rows.MainOf.{MainOf}
use Rattle.uc_code.specs.declared.rows.MainOf.TheVariants as main_of
use Rattle.uc_lower.specs.Mains.{routines_in, routines_in_form, routines_in_members}

form_count : (p : Program) (name : List ℕ) (f : MemberForm) → length (form_defined p name f) ≡ routines_in_form f
form_count p name (FieldsMember at b ds) = refl
form_count p name (RoutineMember r) = refl
form_count p name (ProtoMember s) = refl

members_count : (p : Program) (name : List ℕ) (ms : List Member) → length (members_defined p name ms) ≡ routines_in_members ms
members_count p name [] = refl
members_count p name (m ∷ ms) =
    let a = length-append (form_defined p name m.form) (members_defined p name ms) in
    let b = form_count p name m.form in
    let d = members_count p name ms in
    omega (arith, a, b, d)

item_count : (p : Program) (i : Item) → length (item_defined p i) ≡ routines_in i
item_count p (ClassItem c) = members_count p c.name c.members
item_count p (RoutineItem r) = refl
item_count p (ConstItem c) = refl
item_count p (ProtoItem s) = refl
item_count p (ForwardItem f) = refl
item_count p (UsingItem at) = refl

-- whose main a routine is, by the two tests

pub mains_first : (b d : Bool) → b ≡ true → Some main_of.Task ≡ (if b then Some main_of.Task else if d then Some main_of.Coroutine else None)
mains_first true d e = refl
mains_first false d e = cc

pub mains_else : (b d : Bool) → b ≡ false → d ≡ true → Some main_of.Coroutine ≡ (if b then Some main_of.Task else if d then Some main_of.Coroutine else None)
mains_else true d e f = cc
mains_else false true e f = refl
mains_else false false e f = cc

pub mains_none : (b d : Bool) → b ≡ false → d ≡ false → (let o : Option MainOf = None in o ≡ (if b then Some main_of.Task else if d then Some main_of.Coroutine else None))
mains_none true d e f = cc
mains_none false true e f = cc
mains_none false false e f = refl

case_main : (b : Bool) (k m : ℕ) → b ≡ true → (if b then 0 else k + m) ≡ 0
case_main true k m e = refl
case_main false k m e = cc

case_step : (b : Bool) (k m : ℕ) → b ≡ false → (if b then 0 else k + m) ≡ k + m
case_step true k m e = cc
case_step false k m e = refl

pub main_here : (p : Program) (xs rest : List Item) (i : ℕ) (x : Item) → drop i xs ≡ x ∷ rest → is_main_item x ≡ true → main_among p (drop i xs) ≡ 0
main_here p xs rest i x h e = ap (main_among p) h ∙ case_main (is_main_item x) (length (item_defined p x)) (main_among p rest) e

pub main_step : (p : Program) (xs rest : List Item) (i : ℕ) (x : Item) → drop i xs ≡ x ∷ rest → is_main_item x ≡ false → main_among p (drop i xs) ≡ routines_in x + main_among p rest
main_step p xs rest i x h e = ap (main_among p) h ∙ case_step (is_main_item x) (length (item_defined p x)) (main_among p rest) e ∙ ap (λ k. k + main_among p rest) (item_count p x)

pub count_step : (p : Program) (xs rest : List Item) (i : ℕ) (x : Item) → drop i xs ≡ x ∷ rest → length (items_defined p (drop i xs)) ≡ routines_in x + length (items_defined p rest)
count_step p xs rest i x h =
    ap (λ (is : List Item). length (items_defined p is)) h
    ∙ length-append (item_defined p x) (items_defined p rest)
    ∙ ap (λ k. k + length (items_defined p rest)) (item_count p x)
