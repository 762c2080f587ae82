-- The class of a routine, by its place: by the class's number, or, for a constructor of an event, by its name.
use Rattle.std.proofs.Common.{◌≡◌, ◌≢◌, ℕ, zero, suc, ◌+◌, ◌-◌, ◌≤◌, List, [], ◌∷◌, Bool, true, false, ◌&&◌, Option, Some, None, if◌then◌else◌, nat_eq, refl, ap, sym, ◌∙◌, arith, true≢false, ◌⊎◌, inl, inr}
use Rattle.std.specs.Prelude.{slice_get}
use Rattle.std.specs.Cmp.Lexicographic.{bytes_decides}
use Rattle.std.proofs.lemmas.Bool.{and_parts, cases_eq, eq-eqb, ne_eqb}
use Rattle.uc_tree.specs.declared.kinds.Base.TheVariants as base
use Rattle.uc_tree.specs.declared.kinds.Role.{Role}
use Rattle.uc_tree.specs.Names.{same_name}
use Rattle.uc_tree.specs.Programs.{Class, Program}
use Rattle.uc_tree.specs.Cells.{classes_of}
use Rattle.uc_tree.specs.Numbering.{Defined, is_event}
use Rattle.uc_tree.specs.Objects.{class_at, has_role, is_constructor, number_at, place_of, same_role, event_from, event_place}
use Rattle.uc_tree.specs.Objects as objects
use Rattle.uc_resolve.specs.Resolve.{place_by}
use Rattle.uc_lower_expr.specs.Events.{builds_event}

pub nat_same : (a b : ℕ) → nat_eq a b ≡ true → a ≡ b
nat_same a b e = by_case (cases_eq a b)
  where
    by_case : (a ≡ b) ⊎ (a ≢ b) → a ≡ b
    by_case (inl s) = s
    by_case (inr n) = absurd (true≢false (sym e ∙ ne_eqb a b n))

-- an event with this place among the classes, and its name
pub record IsEventIn (cs : List Class) (i : ℕ) (name : List ℕ) : Type 0 where
  pub class : Class
  pub there : slice_get cs i ≡ Some class
  pub event : is_event class.kind ≡ true
  pub named : class.name ≡ name

event_there : (cs : List Class) (first i : ℕ) (name : List ℕ) → event_from cs first name ≡ Some i → (first ≤ i) × IsEventIn cs (i - first) name
event_there [] first i name e = cc
event_there (c ∷ cs) first i name e = by_name (event_there cs (first + 1) i name) (same_name c.name name) refl e
  where
    later : (first + 1 ≤ i) × IsEventIn cs (i - (first + 1)) name → (first ≤ i) × IsEventIn (c ∷ cs) (i - first) name
    later h =
        let low = h.0 in
        let x = h.1 in
        let next : i - first ≡ suc (i - (first + 1)) = omega (arith, low) in
        (omega (arith, low), record { class = x.class; there = ap (slice_get (c ∷ cs)) next ∙ x.there; event = x.event; named = x.named })

    here : (v : Bool) → is_event c.kind ≡ v → same_name c.name name ≡ true → (if v then Some first else None) ≡ Some i → (first ≤ i) × IsEventIn (c ∷ cs) (i - first) name
    here true v s e =
        let is : first ≡ i = cc in
        let none : i - first ≡ 0 = omega (arith, is) in
        (omega (arith, is), record { class = c; there = ap (slice_get (c ∷ cs)) none; event = v; named = (bytes_decides c.name name).0 s })
    here false v s e = cc

    by_name : (event_from cs (first + 1) name ≡ Some i → (first + 1 ≤ i) × IsEventIn cs (i - (first + 1)) name) → (t : Bool) → same_name c.name name ≡ t → (if t then (if is_event c.kind then Some first else None) else event_from cs (first + 1) name) ≡ Some i → (first ≤ i) × IsEventIn (c ∷ cs) (i - first) name
    by_name more true s e = here (is_event c.kind) refl s e
    by_name more false s e = later (more e)

abbrev NoEvent : List Class → ℕ → Type 0
NoEvent cs i = (c : Class) → slice_get cs i ≡ Some c → is_event c.kind ≡ false

object_there : (cs : List Class) (first i n : ℕ) → objects.place_from cs first n ≡ Some i → (first ≤ i) × NoEvent cs (i - first)
object_there [] first i n e = cc
object_there (c ∷ cs) first i zero e = cc
object_there (c ∷ cs) first i (suc n) e = by_kind (λ k g. object_there cs (first + 1) i k g) (is_event c.kind) refl e
  where
    later : (first + 1 ≤ i) × NoEvent cs (i - (first + 1)) → (first ≤ i) × NoEvent (c ∷ cs) (i - first)
    later h =
        let low = h.0 in
        let next : i - first ≡ suc (i - (first + 1)) = omega (arith, low) in
        (omega (arith, low), λ x f. h.1 x (sym (ap (slice_get (c ∷ cs)) next) ∙ f))

    by_number : ((k : ℕ) → objects.place_from cs (first + 1) k ≡ Some i → (first + 1 ≤ i) × NoEvent cs (i - (first + 1))) → is_event c.kind ≡ false → (t : Bool) → (if t then Some first else objects.place_from cs (first + 1) n) ≡ Some i → (first ≤ i) × NoEvent (c ∷ cs) (i - first)
    by_number more v true e =
        let is : first ≡ i = cc in
        let none : i - first ≡ 0 = omega (arith, is) in (
          omega (arith, is),
          λ x f.
              let both : Some c ≡ Some x = sym (ap (slice_get (c ∷ cs)) none) ∙ f in
              let same : c ≡ x = cc in
              ap (λ (y : Class). is_event y.kind) (sym same) ∙ v,
        )
    by_number more v false e = later (more n e)

    by_kind : ((k : ℕ) → objects.place_from cs (first + 1) k ≡ Some i → (first + 1 ≤ i) × NoEvent cs (i - (first + 1))) → (v : Bool) → is_event c.kind ≡ v → (if v then objects.place_from cs (first + 1) (suc n) else (if nat_eq n 0 then Some first else objects.place_from cs (first + 1) n)) ≡ Some i → (first ≤ i) × NoEvent (c ∷ cs) (i - first)
    by_kind more true v e = later (more (suc n) e)
    by_kind more false v e = by_number more v (nat_eq n 0) e

abbrev pub IsEventAt : Program → ℕ → List ℕ → Type 0
IsEventAt p i name = IsEventIn (classes_of p.items) i name

event_at : (p : Program) (i : ℕ) (name : List ℕ) → event_place p (base.Named name) ≡ Some i → IsEventAt p i name
event_at p i name e =
    let x = (event_there (classes_of p.items) 0 i name e).1 in
    let whole : i - 0 ≡ i = omega arith in
    record { class = x.class; there = ap (slice_get (classes_of p.items)) (sym whole) ∙ x.there; event = x.event; named = x.named }

-- a class that has a number is no event
pub object_at : (p : Program) (i n : ℕ) (c : Class) → place_of p n ≡ Some i → class_at p i ≡ Some c → is_event c.kind ≡ false
object_at p i n c e f =
    let whole : i - 0 ≡ i = omega arith in
    (object_there (classes_of p.items) 0 i n e).1 c (ap (slice_get (classes_of p.items)) whole ∙ f)

pub not_event : (p : Program) (i n : ℕ) (name : List ℕ) → place_of p n ≡ Some i → IsEventAt p i name → ⊥
not_event p i n name e x = true≢false (sym x.event ∙ object_at p i n x.class e x.there)

-- two ways to have a place

pub data PlacedBy (p : Program) (d : Defined) (i : ℕ) : Type 0 where
  ByNumber : place_of p d.number ≡ Some i → PlacedBy p d i
  ByName : is_constructor d.routine.sig.role ≡ true → d.number ≡ 0 → IsEventAt p i d.routine.sig.name → PlacedBy p d i

pub placed_by : (p : Program) (d : Defined) (i : ℕ) → place_by p d ≡ Some i → PlacedBy p d i
placed_by p d i e = by_case (nat_eq d.number 0) refl (is_constructor d.routine.sig.role) refl e
  where
    by_case : (n : Bool) → nat_eq d.number 0 ≡ n → (b : Bool) → is_constructor d.routine.sig.role ≡ b → (if n && b then event_place p (base.Named d.routine.sig.name) else place_of p d.number) ≡ Some i → PlacedBy p d i
    by_case true n true b e = ByName b (nat_same d.number 0 n) (event_at p i d.routine.sig.name e)
    by_case true n false b e = ByNumber e
    by_case false n b c e = ByNumber e

pub place_named : (p : Program) (d : Defined) → builds_event d.number d.routine.sig ≡ true → event_from (classes_of p.items) 0 d.routine.sig.name ≡ place_by p d
place_named p d b = sym (ap (λ (t : Bool). if t then event_place p (base.Named d.routine.sig.name) else place_of p d.number) b)

pub place_numbered : (p : Program) (d : Defined) → builds_event d.number d.routine.sig ≡ false → place_of p d.number ≡ place_by p d
place_numbered p d b = sym (ap (λ (t : Bool). if t then event_place p (base.Named d.routine.sig.name) else place_of p d.number) b)

-- whether a routine is of this role in the class with this place

abbrev pub is_place : Option ℕ → ℕ → Bool
is_place None i = false
is_place (Some j) i = nat_eq j i

abbrev pub belongs : Program → ℕ → Role → Defined → Bool
belongs p i r d = is_place (place_by p d) i && same_role r d.routine.sig.role

place_is : (o : Option ℕ) (i : ℕ) → is_place o i ≡ true → o ≡ Some i
place_is None i e = cc
place_is (Some j) i e = ap Some (nat_same j i e)

pub belongs_placed : (p : Program) (i : ℕ) (r : Role) (d : Defined) → belongs p i r d ≡ true → (place_by p d ≡ Some i) × (same_role r d.routine.sig.role ≡ true)
belongs_placed p i r d e =
    let parts = and_parts (is_place (place_by p d) i) (same_role r d.routine.sig.role) e in
    (place_is (place_by p d) i parts.0, parts.1)

-- of a class that is no event it has the number
pub belongs_has : (p : Program) (i : ℕ) (c : Class) (r : Role) (d : Defined) → class_at p i ≡ Some c → is_event c.kind ≡ false → ((j : ℕ) → place_of p d.number ≡ Some j → number_at p j ≡ d.number) → belongs p i r d ≡ true → has_role (number_at p i) r d ≡ true
belongs_has p i c r d e v back b = by_way (placed_by p d i h.0)
  where
    h : (place_by p d ≡ Some i) × (same_role r d.routine.sig.role ≡ true)
    h = belongs_placed p i r d b

    by_way : PlacedBy p d i → has_role (number_at p i) r d ≡ true
    by_way (ByNumber f) = ap (λ t. t && same_role r d.routine.sig.role) (eq-eqb d.number (number_at p i) (sym (back i f))) ∙ h.1
    by_way (ByName k z x) =
        let both : Some x.class ≡ Some c = sym x.there ∙ e in
        let same : x.class ≡ c = cc in
        absurd (true≢false (sym x.event ∙ ap (λ (y : Class). is_event y.kind) same ∙ v))
