-- Tables of the events of a program and of their constructors.
use Rattle.std.proofs.Common.{◌≡◌, ℕ, zero, suc, ◌+◌, ◌-◌, ◌≤◌, ◌<◌, List, [], ◌∷◌, ◌++◌, Bool, true, false, not, ◌&&◌, Option, Some, None, if◌then◌else◌, nat_eq, take, length, refl, ap, sym, subst, ◌∙◌, arith, true≢false}
use Rattle.std.specs.Prelude.{option_and_then, option_map, slice_get, unwrap_or}
use Rattle.std.proofs.lemmas.Bool.{le-leb, lt-leb}
use Rattle.std.proofs.lemmas.List.{append-nil, length-append}
use Rattle.std.specs.Cmp.Lexicographic.{bytes_decides}
use Rattle.uc_names.specs.Blocks.{Block, id_or, found, declared, is_declared}
use Rattle.uc_layout.specs.Places.{IsPlaces}
use Rattle.uc_tree.specs.declared.limits.TheConstants.{FIRST_EVENT, LAST_EVENT, UNHANDLED, FAILURE}
use Rattle.uc_tree.specs.Names.{same_name}
use Rattle.uc_tree.specs.Programs.{Class, Program, Routine, Sig}
use Rattle.uc_tree.specs.Cells.{classes_of}
use Rattle.uc_tree.specs.Numbering.{Defined, at_most, event_names, is_event, place_from, unhandled_name, failure_name}
use Rattle.uc_tree.specs.Objects.{is_constructor}
use Rattle.uc_resolve.specs.Resolve.{event_constructor_from, number_of_event}
use Rattle.uc_lower_expr.specs.Events.{AreBuilders, NotesEvent, builds_event, event_by, noted_builder}
use Rattle.uc_lower_expr.specs.RoutineTables.{noted_name}
use Rattle.uc_lower_expr.proofs.Owned.{IsNext}
use Rattle.uc_lower_expr.proofs.Routing.{found_noted, noted_long}

-- constructors of events

abbrev builds_so : Defined → List ℕ → Bool
builds_so d name = nat_eq d.number 0 && (is_constructor d.routine.sig.role && same_name d.routine.sig.name name)

builder_case : (i : ℕ) (b : Bool) (ds : List Defined) (d : Defined) (name : List ℕ) → event_constructor_from (ds ++ d ∷ []) (suc i) name ≡ id_or (event_constructor_from ds (suc i) name) (if builds_so d name then Some (suc i + length ds) else None) → (if b then Some i else event_constructor_from (ds ++ d ∷ []) (suc i) name) ≡ id_or (if b then Some i else event_constructor_from ds (suc i) name) (if builds_so d name then Some (i + suc (length ds)) else None)
builder_case i true ds d name h = refl
builder_case i false ds d name h = let e : suc i + length ds ≡ i + suc (length ds) = omega arith in h ∙ ap (λ k. id_or (event_constructor_from ds (suc i) name) (if builds_so d name then Some k else None)) e

builder_last : (i : ℕ) (ds : List Defined) (d : Defined) (name : List ℕ) → event_constructor_from (ds ++ d ∷ []) i name ≡ id_or (event_constructor_from ds i name) (if builds_so d name then Some (i + length ds) else None)
builder_last i [] d name = let e : i + 0 ≡ i = omega arith in ap (λ k. if builds_so d name then Some k else None) (sym e)
builder_last i (x ∷ xs) d name = builder_case i (builds_so x name) xs d name (builder_last (suc i) xs d name)

none_or : (o : Option ℕ) → id_or o None ≡ o
none_or None = refl
none_or (Some i) = refl

-- by whether the routine builds an event
noted_by : (a b c : Bool) (k j : ℕ) (o : Option ℕ) (was new : List Block) (name : List ℕ) → k ≡ j → found was name ≡ o → (found new name ≡ id_or (found was name) (if c then Some k else None)) → found (if a && b then new else was) name ≡ id_or o (if a && (b && c) then Some j else None)
noted_by true true c k j o was new name e h g = g ∙ ap (λ x. id_or x (if c then Some k else None)) h ∙ ap (λ n. id_or o (if c then Some n else None)) e
noted_by true false c k j o was new name e h g = h ∙ sym (none_or o)
noted_by false b c k j o was new name e h g = h ∙ sym (none_or o)

noted_one : (t : Bool) (was new : List Block) → length new ≡ length was → length was ≡ 1 → length (if t then new else was) ≡ 1
noted_one true was new e h = e ∙ h
noted_one false was new e h = h

pub builder_noted : (ds : List Defined) (d : Defined) (place : ℕ) (old : List Block) → length ds ≡ place → AreBuilders ds old → AreBuilders (ds ++ d ∷ []) (noted_builder d.number d.routine.sig place old)
builder_noted ds d place old long was = record {
  one = noted_one (builds_event d.number d.routine.sig) old (noted_name old d.routine.sig.name place) (noted_long old d.routine.sig.name place) was.one;
  at = λ name.
      noted_by (nat_eq d.number 0) (is_constructor d.routine.sig.role) (same_name d.routine.sig.name name) place (0 + length ds) (event_constructor_from ds 0 name) old (noted_name old d.routine.sig.name place) name (omega (arith, long)) (was.at name) (found_noted old d.routine.sig.name place name was.one)
      ∙ sym (builder_last 0 ds d name);
}

pub builders_more : (place : ℕ) (r : Routine) (n : ℕ) (ds : List Defined) (old new : List Block) → IsNext ds place r n → new ≡ noted_builder n r.sig place old → AreBuilders (take place ds) old → AreBuilders (take (place + 1) ds) new
builders_more place r n ds old new x e was =
    let next : place + 1 ≡ suc place = omega arith in
    let grown = builder_noted (take place ds) x.one place old x.long was in
    let is : noted_builder x.one.number x.one.routine.sig place old ≡ new = ap (λ k. noted_builder k x.one.routine.sig place old) x.number ∙ ap (λ (q : Routine). noted_builder n q.sig place old) x.routine ∙ sym e in
    subst (λ k. AreBuilders (take k ds) new) (sym next) (subst (λ xs. AreBuilders xs new) (sym x.more) (subst (λ bs. AreBuilders (take place ds ++ x.one ∷ []) bs) is grown))

pub builders_none : (ds : List Defined) (bs : List Block) → IsPlaces [] bs → AreBuilders (take 0 ds) bs
builders_none [] bs h = record { one = h.one; at = h.at }
builders_none (d ∷ ds) bs h = record { one = h.one; at = h.at }

pub builders_long : (n : ℕ) (s : Sig) (place : ℕ) (old new : List Block) → new ≡ noted_builder n s place old → length old ≡ 1 → length new ≡ 1
builders_long n s place old new e one = ap length e ∙ noted_one (builds_event n s) old (noted_name old s.name place) (noted_long old s.name place) one

-- a name that is declared where it was not

noted_case : (t told : Bool) (bs new : List Block) (x : List ℕ) (k : ℕ) → told ≡ not t → new ≡ (if told then declared bs x k else bs) → new ≡ (if t then bs else declared bs x k)
noted_case true told bs new x k a e = e ∙ ap (λ (b : Bool). if b then declared bs x k else bs) a
noted_case false told bs new x k a e = e ∙ ap (λ (b : Bool). if b then declared bs x k else bs) a

pub declared_noted : (bs new : List Block) (x : List ℕ) (k : ℕ) (told : Bool) → told ≡ not (is_declared bs x) → new ≡ (if told then declared bs x k else bs) → new ≡ noted_name bs x k
declared_noted bs new x k told a e = noted_case (is_declared bs x) told bs new x k a e

pub builder_declared : (owner : ℕ) (sig : Sig) (number : ℕ) (old new : List Block) → builds_event owner sig ≡ true → new ≡ noted_name old sig.name number → new ≡ noted_builder owner sig number old
builder_declared owner sig number old new b e = e ∙ sym (ap (λ (t : Bool). if t then noted_name old sig.name number else old) b)

pub builder_passed : (owner : ℕ) (sig : Sig) (number : ℕ) (old : List Block) → builds_event owner sig ≡ false → old ≡ noted_builder owner sig number old
builder_passed owner sig number old b = sym (ap (λ (t : Bool). if t then noted_name old sig.name number else old) b)

-- events

pub event_passed : (c : Class) (count : ℕ) (old : List Block) → is_event c.kind ≡ false → NotesEvent c count count old old
event_passed c count old e =
    let none : event_names (c ∷ []) ≡ [] = ap (λ (t : Bool). if t then c.name ∷ [] else []) e in
    record {
      more = λ names l was. subst (λ ns. IsPlaces (names ++ ns) old) (sym none) (subst (λ ns. IsPlaces ns old) (sym (append-nil names)) was);
      long = (let l : length (event_names (c ∷ [])) ≡ 0 = ap length none in omega arith);
    }

pub event_noted : (c : Class) (count next : ℕ) (old new : List Block) → is_event c.kind ≡ true → next ≡ count + 1 → ((names : List (List ℕ)) → length names ≡ count → IsPlaces names old → IsPlaces (names ++ c.name ∷ []) new) → NotesEvent c count next old new
event_noted c count next old new e k h =
    let some : event_names (c ∷ []) ≡ c.name ∷ [] = ap (λ (t : Bool). if t then c.name ∷ [] else []) e in
    record {
      more = λ names l was. subst (λ ns. IsPlaces (names ++ ns) new) (sym some) (h names l was);
      long = (let l : length (event_names (c ∷ [])) ≡ 1 = ap length some in omega (arith, k));
    }

names_case : (t : Bool) (x : List ℕ) (xs ys zs : List (List ℕ)) → xs ≡ ys ++ zs → (if t then x ∷ xs else xs) ≡ (if t then x ∷ ys else ys) ++ zs
names_case true x xs ys zs e = ap (λ ns. x ∷ ns) e
names_case false x xs ys zs e = e

pub events_push : (cs : List Class) (c : Class) → event_names (cs ++ c ∷ []) ≡ event_names cs ++ event_names (c ∷ [])
events_push [] c = refl
events_push (x ∷ xs) c = names_case (is_event x.kind) x.name (event_names (xs ++ c ∷ [])) (event_names xs) (event_names (c ∷ [])) (events_push xs c)

pub events_none : (cs : List Class) (bs : List Block) → IsPlaces [] bs → (length (event_names (take 0 cs)) ≡ 0) × IsPlaces (event_names (take 0 cs)) bs
events_none [] bs h = (refl, h)
events_none (c ∷ cs) bs h = (refl, h)

take_next : (cs : List Class) (k : ℕ) (c : Class) → slice_get cs k ≡ Some c → take (k + 1) cs ≡ take k cs ++ c ∷ []
take_next [] k c e = cc
take_next (x ∷ xs) zero c e = let same : x ≡ c = cc in ap (λ (y : Class). y ∷ []) same
take_next (x ∷ xs) (suc k) c e = let n : suc k + 1 ≡ suc (k + 1) = omega arith in ap (λ (j : ℕ). take j (x ∷ xs)) n ∙ ap (λ l. x ∷ l) (take_next xs k c e)

pub events_next : (cs : List Class) (k : ℕ) (c : Class) (known next : ℕ) (old new : List Block) → slice_get cs k ≡ Some c → NotesEvent c known next old new → (length (event_names (take k cs)) ≡ known) × IsPlaces (event_names (take k cs)) old
    → (length (event_names (take (k + 1) cs)) ≡ next) × IsPlaces (event_names (take (k + 1) cs)) new
events_next cs k c known next old new e h was =
    let grown : event_names (take (k + 1) cs) ≡ event_names (take k cs) ++ event_names (c ∷ []) = ap event_names (take_next cs k c e) ∙ events_push (take k cs) c in
    (ap length grown ∙ length-append (event_names (take k cs)) (event_names (c ∷ [])) ∙ ap (λ n. n + length (event_names (c ∷ []))) was.0 ∙ h.long, subst (λ ns. IsPlaces ns new) (sym grown) (h.more (event_names (take k cs)) was.0 was.1))

-- the number of an event by its place

from_case : (t : Bool) (i k j : ℕ) (o q : Option ℕ) → k + i ≡ j → option_map (λ n. k + n) o ≡ q → option_map (λ n. k + n) (if t then Some i else o) ≡ (if t then Some j else q)
from_case true i k j o q e h = ap (λ n. Some n) e
from_case false i k j o q e h = h

pub place_shift : (k i j : ℕ) (ns : List (List ℕ)) (name : List ℕ) → k + i ≡ j → option_map (λ n. k + n) (place_from i ns name) ≡ place_from j ns name
place_shift k i j [] name e = refl
place_shift k i j (n ∷ ns) name e = from_case (same_name n name) i k j (place_from (i + 1) ns name) (place_from (j + 1) ns name) e (place_shift k (i + 1) (j + 1) ns name (omega (arith, e)))

same_eq : (a b : List ℕ) → same_name a b ≡ true → a ≡ b
same_eq a b e = (bytes_decides a b).0 e

not_same : (a b : List ℕ) (t : Bool) → same_name b a ≡ t → same_name a b ≡ false → t ≡ false
not_same a b true e h = absurd (true≢false (sym ((bytes_decides a b).1 (sym (same_eq b a e))) ∙ h))
not_same a b false e h = refl

pub event_is : (p : Program) (name : List ℕ) (place : Option ℕ) → place ≡ place_from 0 (event_names (classes_of p.items)) name → same_name name unhandled_name ≡ false → same_name name failure_name ≡ false → event_by place ≡ number_of_event p name
event_is p name place e u w =
    ap (λ o. unwrap_or (option_and_then (at_most LAST_EVENT) (option_map (λ k. FIRST_EVENT + k) o)) 0) e
    ∙ ap (λ o. unwrap_or (option_and_then (at_most LAST_EVENT) o) 0) (place_shift FIRST_EVENT 0 FIRST_EVENT (event_names (classes_of p.items)) name refl)
    ∙ sym (ap (λ (t : Bool). unwrap_or (if t then Some UNHANDLED else if same_name failure_name name then Some FAILURE else option_and_then (at_most LAST_EVENT) (place_from FIRST_EVENT (event_names (classes_of p.items)) name)) 0) (not_same name unhandled_name (same_name unhandled_name name) refl u)
    ∙ ap (λ (t : Bool). unwrap_or (if t then Some FAILURE else option_and_then (at_most LAST_EVENT) (place_from FIRST_EVENT (event_names (classes_of p.items)) name)) 0) (not_same name failure_name (same_name failure_name name) refl w))

pub unhandled_is : (p : Program) (name : List ℕ) → same_name name unhandled_name ≡ true → 0 ≡ number_of_event p name
unhandled_is p name u = ap (λ (n : List ℕ). number_of_event p n) (sym (same_eq name unhandled_name u))

pub failure_is : (p : Program) (name : List ℕ) → same_name name failure_name ≡ true → 1 ≡ number_of_event p name
failure_is p name u = ap (λ (n : List ℕ). number_of_event p n) (sym (same_eq name failure_name u))

-- the number of an event that has one

abbrev at_last : Bool → ℕ → ℕ
at_last t n = unwrap_or (if t then Some n else None) 0

pub event_few : (k : ℕ) → k ≤ LAST_EVENT - FIRST_EVENT → FIRST_EVENT + k ≡ event_by (Some k)
event_few k l = sym (ap (λ (t : Bool). at_last t (FIRST_EVENT + k)) (le-leb (FIRST_EVENT + k) LAST_EVENT (omega (arith, l))))

pub event_many : (k : ℕ) → LAST_EVENT - FIRST_EVENT < k → 0 ≡ event_by (Some k)
event_many k l = sym (ap (λ (t : Bool). at_last t (FIRST_EVENT + k)) (lt-leb (FIRST_EVENT + k) LAST_EVENT (omega (arith, l))))
