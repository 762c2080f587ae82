-- The main of a class is none of its mutex members.
use Rattle.std.proofs.Common.{◌≡◌, ℕ, ◌+◌, List, [], ◌∷◌, ◌++◌, Bool, true, false, Option, Some, None, if◌then◌else◌, refl, ap, subst, ◌∙◌}
use Rattle.std.specs.Prelude.{not, ◌&&◌, is_some, option_and_then}
use Rattle.std.specs.List.{list_any}
use Rattle.std.proofs.lemmas.Bool.{and_parts}
use Rattle.std.specs.Cmp.Lexicographic.{bytes_decides}
use Rattle.uc_tree.specs.declared.limits.TheConstants.{MEMBERS}
use Rattle.uc_tree.specs.Names.{same_name}
use Rattle.uc_tree.specs.Numbering.{at_most, exclusive_name, exclusive_names, is_exclusive, is_mutex, is_plain, main_name, member_form_name, member_number, mutex_members, place_from, sig_name, with_name}
use Rattle.uc_tree.specs.Programs.{Class, FieldsMember, Member, MemberForm, Program, ProtoMember, RoutineMember, Sig}
use Rattle.uc_resolve.specs.Resolve.{has_number_in, is_main}

-- names, none of which is `main`
abbrev Apart : List (List ℕ) → Type 0
Apart [] = Unit {0}
Apart (n ∷ ns) = (same_name n main_name ≡ false) × Apart ns

apart_push : (ns : List (List ℕ)) (n : List ℕ) → same_name n main_name ≡ false → Apart ns → Apart (ns ++ n ∷ [])
apart_push [] n h a = (h, tt)
apart_push (m ∷ ms) n h a = (a.0, apart_push ms n h a.1)

push_case : (b : Bool) (ns : List (List ℕ)) (n : List ℕ) → same_name n main_name ≡ false → Apart ns → Apart (if b then ns else ns ++ n ∷ [])
push_case true ns n h a = a
push_case false ns n h a = apart_push ns n h a

apart_with : (o : Option (List ℕ)) (ns : List (List ℕ)) → ((n : List ℕ) → o ≡ Some n → same_name n main_name ≡ false) → Apart ns → Apart (with_name o ns)
apart_with None ns h a = a
apart_with (Some n) ns h a = push_case (list_any (λ m. same_name m n) ns) ns n (h n refl) a

not_true : (b : Bool) → not b ≡ true → b ≡ false
not_true true h = cc
not_true false h = refl

name_case : (b : Bool) (name n : List ℕ) → (b ≡ true → same_name name main_name ≡ false) → (if b then Some name else None) ≡ Some n → same_name n main_name ≡ false
name_case true name n h e = let same : name ≡ n = cc in subst (λ (x : List ℕ). same_name x main_name ≡ false) same (h refl)
name_case false name n h e = absurd (cc)

sig_apart : (s : Sig) (n : List ℕ) → sig_name s ≡ Some n → same_name n main_name ≡ false
sig_apart s n e = name_case (is_plain s.role && not (same_name s.name main_name)) s.name n (λ h. not_true (same_name s.name main_name) (and_parts _ _ h).1) e

form_apart : (f : MemberForm) (n : List ℕ) → member_form_name f ≡ Some n → same_name n main_name ≡ false
form_apart (FieldsMember at b ds) n e = absurd (cc)
form_apart (RoutineMember routine) n e = sig_apart routine.sig n e
form_apart (ProtoMember sig) n e = sig_apart sig n e

member_case : (b : Bool) (f : MemberForm) (n : List ℕ) → (if b then member_form_name f else None) ≡ Some n → same_name n main_name ≡ false
member_case true f n e = form_apart f n e
member_case false f n e = absurd (cc)

members_apart : (seen : List (List ℕ)) (ms : List Member) → Apart seen → Apart (exclusive_names seen ms)
members_apart seen [] a = a
members_apart seen (m ∷ ms) a = members_apart (with_name (exclusive_name m) seen) ms (apart_with (exclusive_name m) seen (λ n e. member_case (is_exclusive m.mark m.access) m.form n e) a)

class_case : (b : Bool) (ms : List Member) → Apart (if b then exclusive_names [] ms else [])
class_case true ms = members_apart [] ms tt
class_case false ms = tt

no_place : (i : ℕ) (ns : List (List ℕ)) → Apart ns → place_from i ns main_name ≡ None
no_place i [] a = refl
no_place i (n ∷ ns) a = ap (λ (b : Bool). if b then Some i else place_from (i + 1) ns main_name) a.0 ∙ no_place (i + 1) ns a.1

main_number_none : (c : Class) → member_number c main_name ≡ None
main_number_none c = ap (λ (o : Option ℕ). option_and_then (at_most MEMBERS) o) (no_place 1 (mutex_members c) (class_case (is_mutex c.kind) c.members))

and_none : (a : Bool) {b : Bool} → b ≡ false → (a && b) ≡ false
and_none true e = e
and_none false e = refl

pub main_unnumbered : (p : Program) (c : Option Class) (s : Sig) → is_main p s ≡ true → has_number_in p c s ≡ false
main_unnumbered p None s h = refl
main_unnumbered p (Some c) s h =
    let named : s.name ≡ main_name = (bytes_decides s.name main_name).0 (and_parts _ _ h).1 in
    and_none (is_plain s.role) (ap (λ (n : List ℕ). is_some (member_number c n)) named ∙ ap is_some (main_number_none c))
